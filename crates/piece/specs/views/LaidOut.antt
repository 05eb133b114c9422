-- Pieces laid out by place, and what is read into the cells.
use Rattle.std.specs.Prelude.{ℕ, ◌*◌, ◌≤◌, ◌≡◌, List, length, get_or, replicate, Result, Ok, Err}
use Rattle.records.specs.Reading.{Reading, took, map_reading}
use Rattle.records.specs.Refusals.{reading_in}
use Rattle.records.specs.declared.refusal.Refusal.{Refusal}
use Rattle.terms.specs.Term.{Terms}
use Rattle.piece.specs.declared.Prefix.{Prefix}
use Rattle.piece.specs.Piece.{Piece}
use Rattle.piece.specs.ReadPiece.{read_term, read_terms}
use Rattle.piece.specs.views.Cells.{store_term, store_terms}
use Rattle.piece.specs.views.Emptied.{ArgumentTells}

-- What was read into the cells, and the bytes that it took. After a refusal nothing is said of the cells.
abbrev pub took_cells : List ℕ → Result ℕ Refusal → Reading (List ℕ)
took_cells cells r = reading_in (λ a. took a cells) r

-- The cells after the term that the bytes s begin with is read into them at place p, and after n terms are read from
-- there on.
abbrev pub term_cells : ℕ → ℕ → List ℕ → List ℕ → Reading (List ℕ)
term_cells below p cells s = map_reading (λ t. store_term t below p cells) (read_term below s)

abbrev pub terms_cells : ℕ → ℕ → ℕ → List ℕ → List ℕ → Reading (List ℕ)
terms_cells below n p cells s = map_reading (λ ts. store_terms ts below p cells) (read_terms below n s)

-- The cells of the 680 places where nothing stands yet.
unfoldable pub empty_cells : List ℕ
empty_cells = replicate 680 0

-- Nothing stands from place k on, and of each argument, counted from 0, few cells tell what stands below it.
pub record UsedTo (k : ℕ) (cells : List ℕ) : Type 0 where
  pub size : length cells ≡ 680
  pub behind : (i : ℕ) → k ≤ i → get_or cells i 0 ≡ 0
  pub arguments : (a : ℕ) → ArgumentTells (85 * a) cells

-- The cells of a piece: its terms have 3 levels below them and stand from place 0 on.
abbrev pub piece_cells : Terms → List ℕ
piece_cells piece = store_terms piece 3 0 empty_cells

-- A piece laid out by place.
pub record LaidOut : Type 0 where
  pub arity : ℕ
  pub cells : List ℕ

abbrev pub lay_out : Piece → LaidOut
lay_out piece = record { arity = piece.arity; cells = piece_cells piece.terms }

-- What reading the record, of 2 bytes, that a piece begins with says: its arity, or a refusal.
abbrev pub arity_read : Result ℕ Refusal → Reading ℕ
arity_read r = reading_in (took 2) r

-- What reading the piece that the input begins with says: its arity, cells and bytes, or a refusal.
abbrev pub prefix_read : List ℕ → Result Prefix Refusal → Reading LaidOut
prefix_read cells r = reading_in (λ p. took p.bytes (record { arity = p.arity; cells = cells })) r

abbrev pub prefix_bytes : Result Prefix Refusal → ℕ
prefix_bytes (Ok p) = p.bytes
prefix_bytes (Err r) = 0

-- A piece of n arguments uses the 85 places of each. After a refusal nothing is known of the cells.
abbrev pub used_by : Result Prefix Refusal → ℕ
used_by (Ok p) = 85 * p.arity
used_by (Err r) = 680

-- What reading a piece that is the whole input, of so many bytes, says.
abbrev pub piece_read : ℕ → List ℕ → Result ℕ Refusal → Reading LaidOut
piece_read bytes cells r = reading_in (λ n. took bytes (record { arity = n; cells = cells })) r

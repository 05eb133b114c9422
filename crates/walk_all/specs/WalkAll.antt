-- Many pieces for one check of sheet and graph: which pieces are walked, and the results in a lent buffer.
use Rattle.std.specs.Prelude.{ℕ, zero, suc, ◌+◌, ◌-◌, ◌/◌, ◌%◌, min, cond, List, [], ◌∷◌, ◌++◌, leb, length, take, drop}
use Rattle.records.specs.Reading.{Reading, took, refused}
use Rattle.records.specs.Writing.{splice}
use Rattle.piece.specs.Piece.{Piece}
use Rattle.piece.specs.ReadPiece.{read_prefix}
use Rattle.decision.specs.Node.{Node}
use Rattle.decision.specs.Walk.{Walk}
use Rattle.graph_check.specs.CheckGraph.{graph_reading}
use Rattle.walk.specs.Walking.{WalkValues, walk_reply, reply_values, walk_refusal_values}

-- The first piece of the input with its bytes, then more pieces behind it: a piece that cannot be read (12 to 16, 32) gets its
-- refusal as the last result and ends the run. A run stops before either field would overflow: before a piece of more bytes than
-- may still be taken.
abbrev pub piece_then : List ℕ → ℕ → (ℕ → List (Reading (List ℕ))) → Reading Piece → List (Reading (List ℕ))
piece_then input left more (took k piece) = cond (leb k left) (took k (take k input) ∷ more k) []
piece_then input left more (refused q) = refused q ∷ []

-- Then pieces one after another, each ending with its last term as in the listing, as many as the input has and the lent buffer has
-- room for: at most so many pieces, which take at most so many bytes.
unfoldable pub pieces_in : ℕ → ℕ → List ℕ → List (Reading (List ℕ))
pieces_in zero left input = []
pieces_in (suc room) left [] = []
pieces_in (suc room) left (b ∷ bs) =
    piece_then (b ∷ bs) left (λ k. pieces_in room (left - k) (drop k (b ∷ bs))) (read_prefix (b ∷ bs))

-- Bytes of the input taken by pieces that were read.
abbrev pub bytes_taken : List (Reading (List ℕ)) → ℕ
bytes_taken [] = 0
bytes_taken (took k p ∷ ps) = k + bytes_taken ps
bytes_taken (refused q ∷ ps) = bytes_taken ps

-- The wait list, highest byte first.
abbrev pub wait_bytes : ℕ → List ℕ
wait_bytes w =
    w / 0x100_0000_0000_0000 % 0x100 ∷ w / 0x1_0000_0000_0000 % 0x100 ∷ w / 0x100_0000_0000 % 0x100 ∷ w / 0x1_0000_0000 % 0x100
    ∷ w / 0x100_0000 % 0x100 ∷ w / 0x1_0000 % 0x100 ∷ w / 0x100 % 0x100 ∷ w % 0x100 ∷ []

-- For each piece a result of 16 bytes: refusal, word, rule, edges, four zero bytes, then the wait list, highest byte first; all
-- zero but the refusal where it is refused.
abbrev pub result_length : ℕ
result_length = 16

abbrev pub result_bytes : WalkValues → List ℕ
result_bytes v = v.refusal ∷ v.word ∷ v.rule ∷ v.edges ∷ 0 ∷ 0 ∷ 0 ∷ 0 ∷ wait_bytes v.waits

module _ (reply : List ℕ → Reading Walk) where
  -- The values of a piece, by the reply of its walk; it goes on after a piece that is refused by 20, 26 or 27.
  abbrev pub values_of : Reading (List ℕ) → WalkValues
  values_of (took k p) = reply_values (reply p)
  values_of (refused q) = walk_refusal_values q

  abbrev pub results_of : List (Reading (List ℕ)) → List ℕ
  results_of [] = []
  results_of (p ∷ ps) = result_bytes (values_of p) ++ results_of ps

-- What is handed back, and every byte of the buffer: results written (bits 8 to 31), bytes of the input taken by pieces that were
-- read (bits 32 to 63), so that a caller goes on where it stopped; a run stops before either field would overflow.
pub record WalkAll : Type 0 where
  pub refusal : ℕ
  pub results : ℕ
  pub bytes : ℕ
  pub buffer : List ℕ

abbrev pub most_results : ℕ
most_results = 0xFF_FFFF

abbrev pub most_taken : ℕ
most_taken = 0xFFFF_FFFF

-- The pieces of an input that are walked, where a buffer is lent for the results.
abbrev pub pieces_for : List ℕ → List ℕ → List (Reading (List ℕ))
pieces_for input buffer = pieces_in (min (length buffer / result_length) most_results) most_taken input

-- The sheet's questions, then 21 to 25, once: a refusal leaves every byte.
abbrev pub walked_for : List ℕ → (List ℕ → Reading Walk) → List (Reading (List ℕ)) → Reading (List (Node ℕ)) → WalkAll
walked_for buffer reply ps (took k nodes) =
    record { refusal = 0; results = length ps; bytes = bytes_taken ps; buffer = splice buffer 0 (results_of reply ps) }
walked_for buffer reply ps (refused q) = record { refusal = q; results = 0; bytes = 0; buffer = buffer }

unfoldable pub walk_all : List ℕ → List ℕ → List ℕ → List ℕ → WalkAll
walk_all s g input buffer = walked_for buffer (walk_reply s g) (pieces_for input buffer) (graph_reading s g)

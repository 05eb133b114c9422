-- The places as the numbering rule counts them out (document 02, request 13: "counted out by the numbering rule without reading the
-- table"), each with the number that is printed beside it.
use Rattle.std.specs.Prelude.{ℕ, zero, suc, List, [], ◌∷◌, ◌++◌, map}
use Rattle.places.specs.Numbering.{argument_place, child_place}
use Rattle.parent_lines.specs.ParentLines.{place_line}

-- A place and its parent.
pub record Line : Type 0 where
  pub place : ℕ
  pub parent : ℕ

-- What f gives for each of the n numbers from k on, in turn.
abbrev pub in_turn : (ℕ → List Line) → ℕ → ℕ → List Line
in_turn f k zero = []
in_turn f k (suc n) = f k ++ in_turn f (suc k) n

-- Place p, which has r levels and the parent up, and then each of its four children with all that is below it.
abbrev pub counted_from : ℕ → ℕ → ℕ → List Line
counted_from zero up p = []
counted_from (suc r) up p =
    record { place = p; parent = up } ∷ in_turn (λ (j : ℕ). counted_from r p (child_place (suc r) p j)) 1 4

-- The eight arguments, "680 for an argument".
abbrev pub counted_out : List Line
counted_out = in_turn (λ (a : ℕ). counted_from 4 680 (argument_place a)) 1 8

-- The places that lines name, and the parents.
abbrev pub places_of : List Line → List ℕ
places_of lines = map (λ (l : Line). l.place) lines

abbrev pub parents_of : List Line → List ℕ
parents_of lines = map (λ (l : Line). l.parent) lines

-- Lines as text.
abbrev pub text : List Line → List ℕ
text [] = []
text (l ∷ lines) = place_line l.place l.parent ++ text lines

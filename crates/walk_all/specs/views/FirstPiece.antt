-- What the walk of the first piece hands back.
use Rattle.std.specs.Prelude.{ℕ, ◌*◌, ◌≤◌, Bool, false, List, eqb, take, Result, Ok, Err}
use Rattle.records.specs.Reading.{Reading, took, and_then}
use Rattle.records.specs.Refusals.{reading_in}
use Rattle.records.specs.declared.refusal.Refusal.{Refusal}
use Rattle.piece.specs.ReadPiece.{read_prefix}
use Rattle.piece.specs.declared.Prefix.{Prefix}
use Rattle.decision.specs.Walk.{Walk}
use Rattle.walk.specs.Walking.{walked_reading}
use Rattle.walk.specs.declared.Walk as walk
use Rattle.walk_all.specs.declared.First.{First}

-- The bytes of the first piece and the reply of its walk, or the question that says that it cannot be read.
abbrev pub first_reply : (List ℕ → Reading Walk) → List ℕ → Reading (Reading Walk)
first_reply reply input = and_then (read_prefix input) (λ k _. took k (reply (take k input)))

abbrev pub first_of : Result (First Refusal) Refusal → Reading (Reading Walk)
first_of r = reading_in (λ x. took x.bytes (walked_reading x.walk)) r

-- A piece was read that has so many arguments.
abbrev pub has_arity : {E : Type 0} → Result Prefix E → ℕ → Bool
has_arity (Ok p) arity = eqb p.arity arity
has_arity (Err r) arity = false

-- A piece of n arguments uses the 85 places of each. After a refusal nothing is known of the cells.
abbrev pub used_by : {E : Type 0} → Result Prefix E → ℕ
used_by (Ok p) = 85 * p.arity
used_by (Err r) = 680

-- By how the piece was read and how its walk ended.
abbrev pub first_made : {E : Type 0} → Result Prefix E → Result walk.Walk E → Result (First E) E
first_made (Ok p) w = Ok (record { bytes = p.bytes; walk = w })
first_made (Err r) w = Err r

-- A piece has 3 bytes or more, all of them there.
abbrev pub PieceWithin : {E : Type 0} → ℕ → Result (First E) E → Type 0
PieceWithin bytes (Ok x) = (3 ≤ x.bytes) × (x.bytes ≤ bytes)
PieceWithin bytes (Err r) = Unit

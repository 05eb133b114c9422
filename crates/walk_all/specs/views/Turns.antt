-- What one turn hands back and leaves in the buffer, and what all turns do.
use Rattle.std.specs.Prelude.{ℕ, cond, List, leb, Result, Ok, Err}
use Rattle.records.specs.Reading.{Reading, took, refused}
use Rattle.records.specs.Refusals.{number}
use Rattle.records.specs.Writing.{splice}
use Rattle.records.specs.declared.refusal.Refusal.{Refusal}
use Rattle.decision.specs.Walk.{Walk}
use Rattle.walk.specs.Walking.{reply_values, walk_refusal_values}
use Rattle.walk_all.specs.WalkAll.{result_bytes, WalkAll}
use Rattle.walk_all.specs.declared.Turn.{Turn}
use Rattle.walk_all.specs.declared.Turn.TheVariants.{More, Last, Full}
use Rattle.walk_all.specs.declared.WalkedAll.{WalkedAll}

-- The turn, and every byte of the lent buffer.
pub record Turned : Type 0 where
  pub turn : Turn
  pub buffer : List ℕ

-- The result of a piece stands from at on, where its bytes are no more than may still be taken.
abbrev pub turned : List ℕ → ℕ → ℕ → Reading (Reading Walk) → Turned
turned buffer at left (took k r) =
    cond (leb k left) (record { turn = More k; buffer = splice buffer at (result_bytes (reply_values r)) })
    (record { turn = Full; buffer = buffer })
turned buffer at left (refused q) = record { turn = Last; buffer = splice buffer at (result_bytes (walk_refusal_values q)) }

-- What all turns hand back, with the bytes that they leave.
abbrev pub left_by : Result WalkedAll Refusal → List ℕ → WalkAll
left_by (Ok x) buffer = record { refusal = 0; results = x.results; bytes = x.bytes; buffer = buffer }
left_by (Err r) buffer = record { refusal = number r; results = 0; bytes = 0; buffer = buffer }

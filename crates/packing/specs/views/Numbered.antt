-- Results as they leave the library: a refusal is its number, and C knows numbers only. Whatever the number, these are the values.
use Rattle.std.specs.Prelude.{ℕ, List, Ok, Err}
use Rattle.std.specs.Prelude as std
use Rattle.records.specs.Refusals.{number}
use Rattle.records.specs.Written.{Result}
use Rattle.records.specs.declared.refusal.Refusal.{Refusal}
use Rattle.sheet_tests.specs.CheckSheet.{SheetValues}
use Rattle.sheet_tests.specs.declared.SheetSizes.{SheetSizes}
use Rattle.piece.specs.CheckPiece.{PieceValues}
use Rattle.plain.specs.Plain.{PlainValues, answer_of, answer_values, plain_refusal_values}
use Rattle.plain.specs.declared.Answer.{Answer}
use Rattle.graph_check.specs.CheckGraph.{GraphValues}
use Rattle.build.specs.BuildOutcome.{BuildValues}
use Rattle.build.specs.declared.Built.{Built}
use Rattle.walk.specs.Walking.{WalkValues, walk_of, walk_values, walk_refusal_values}
use Rattle.walk.specs.declared.Walk.{Walk}
use Rattle.walk_all.specs.WalkAll.{WalkAll}
use Rattle.walk_all.specs.declared.WalkedAll.{WalkedAll}

-- The same result with the number in the refusal's place.
abbrev pub numbered : {A : Type 0} → std.Result A Refusal → std.Result A ℕ
numbered (Ok x) = Ok x
numbered (Err r) = Err (number r)

-- The number of the question that got a no, 0 where none did.
abbrev pub refusal_in : {A : Type 0} → std.Result A ℕ → ℕ
refusal_in (Ok x) = 0
refusal_in (Err q) = q

-- The checks of a sheet, a piece and a graph: every other field is 0 beside a refusal's number.
abbrev pub sheet_check_values : std.Result SheetSizes ℕ → SheetValues
sheet_check_values (Ok x) = record { refusal = 0; arity = x.arity; rules = x.rules; tests = x.tests }
sheet_check_values (Err q) = record { refusal = q; arity = 0; rules = 0; tests = 0 }

abbrev pub piece_check_values : std.Result ℕ ℕ → PieceValues
piece_check_values (Ok n) = record { refusal = 0; arity = n }
piece_check_values (Err q) = record { refusal = q; arity = 0 }

abbrev pub graph_check_values : std.Result ℕ ℕ → GraphValues
graph_check_values (Ok n) = record { refusal = 0; nodes = n }
graph_check_values (Err q) = record { refusal = q; nodes = 0 }

-- The plain answer, and a walk.
abbrev pub plain_values : std.Result Answer ℕ → PlainValues
plain_values (Ok a) = answer_values (answer_of a)
plain_values (Err q) = plain_refusal_values q

abbrev pub walked_values : std.Result Walk ℕ → WalkValues
walked_values (Ok w) = walk_values (walk_of w)
walked_values (Err q) = walk_refusal_values q

-- A build; nodes written again and tidy forms; the order of a track drawing; and the walks of many pieces: the last three with the
-- buffer as it is then.
abbrev pub built_values : std.Result Built ℕ → BuildValues
built_values (Ok b) = record { refusal = 0; nodes = b.nodes; bytes = b.bytes }
built_values (Err q) = record { refusal = q; nodes = 0; bytes = 0 }

abbrev pub written_left : std.Result ℕ ℕ → List ℕ → Result
written_left (Ok n) buffer = record { refusal = 0; bytes = n; buffer = buffer }
written_left (Err q) buffer = record { refusal = q; bytes = 0; buffer = buffer }

abbrev pub ordered_left : std.Result Unit ℕ → List ℕ → Result
ordered_left (Ok u) buffer = record { refusal = 0; bytes = 1360; buffer = buffer }
ordered_left (Err q) buffer = record { refusal = q; bytes = 0; buffer = buffer }

abbrev pub walked_all_left : std.Result WalkedAll ℕ → List ℕ → WalkAll
walked_all_left (Ok x) buffer = record { refusal = 0; results = x.results; bytes = x.bytes; buffer = buffer }
walked_all_left (Err q) buffer = record { refusal = q; results = 0; bytes = 0; buffer = buffer }

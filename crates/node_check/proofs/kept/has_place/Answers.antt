-- `graph::kept::has_place` meets its contract: past the last word there is no place.
use Rattle.node_check.proofs.KeptTests.{place_lacking}
use native.Mathlib.Omega.{arith}
use Rattle.node_check.proofs.kept.has_place.Goals as goal

pub returns-then-word-ge11 : goal.returns-then-word-ge11
returns-then-word-ge11 c = let a = c.args in place_lacking a.words.now a.place (omega arith)

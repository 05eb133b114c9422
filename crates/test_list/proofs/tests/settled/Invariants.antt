-- A loop over the place tests from t on: of those passed, the settled ones are in the set.
use Prim.Native.Nat.{◌≤◌}
use mathlib.Core.Path.{◌≡◌}
use Rattle.masks.specs.Mask.{mask_of}
use Rattle.tables.specs.views.Planes.{place_tests_in}
use Rattle.test_list.specs.views.Tests.{is_settled}
use Rattle.test_list.proofs.tests.settled.Given as goal

abbrev pub invariant-loop-u : goal.invariant-loop-u
invariant-loop-u l = (l.t ≤ l.u) × (l.u ≤ place_tests_in l.s) × (l.all ≡ mask_of l.u (is_settled l.s l.t))

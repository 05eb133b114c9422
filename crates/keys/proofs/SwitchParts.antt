-- The part of a place test: it is in the array, and its switch is the node that asks the test.
use Prim.Native.Nat.{ℕ, suc, ◌+◌, ◌*◌, ◌%◌, ◌≤◌, ◌<◌}
use mathlib.Core.Path.{◌≡◌, sym, ap, ◌∙◌}
use mathlib.Core.List.{List, map}
use native.Mathlib.Nat.{mul-suc, mul-le-mul_left}
use native.Mathlib.Omega.{arith}
use lib.ListN.{length}
use borrow.Author.Tests.{lt-ltb}
use Rattle.decision.specs.Node.{switch}
use Rattle.tables.specs.views.Planes.{rules_in, place_tests_in, test_in}
use Rattle.cuts.specs.views.Cuts.{part_at, count_at, cuts_in, Parted}
use Rattle.cuts.specs.views.Runs.{Run}
use Rattle.cuts.specs.views.CaseRuns.{switch_runs}
use Rattle.edges.specs.declared.Asked.{Asked}
use Rattle.edges.specs.views.KeysBehind.{none_behind, unknown_behind}
use Rattle.edges.specs.views.NodeIn.{run_edge, ask_in}

-- The part has room for its cuts, which are at most 128.
pub part_room
    : {rules places : ℕ} {c : List ℕ} → Parted rules places c → (t : ℕ) → t < places → {from : ℕ} → from ≡ part_at rules t
    → (from + 1 + 2 * count_at c from ≤ length c) × (count_at c from ≤ 128)
part_room {rules} {places} {c} parted t h {from} e =
    let few : count_at c from ≤ 2 * rules = omega (arith, ap (count_at c) e, parted.counted t h) in
    let most : (1 + 4 * rules) * suc t ≤ (1 + 4 * rules) * places = mul-le-mul_left (1 + 4 * rules) h in (
      omega (arith, few, most, mul-suc (1 + 4 * rules) t, parted.room, e),
      omega (arith, few, parted.few_rules),
    )

-- The runs of the part are the cases of the switch.
pub switch_is
    : (s c : List ℕ) (asked : Asked) → asked.test < place_tests_in s → (rs : List Run) {from : ℕ}
    → from ≡ part_at (rules_in s) asked.test → rs ≡ switch_runs asked.live (cuts_in c from)
    → ask_in s c asked
    ≡ switch (test_in s asked.test % 0x1_0000) (map (run_edge s asked) rs) (none_behind s asked) (unknown_behind s asked)
switch_is s c asked h rs e is =
    let cut : rs ≡ switch_runs asked.live (cuts_in c (part_at (rules_in s) asked.test)) =
    is ∙ ap (λ (from : ℕ). switch_runs asked.live (cuts_in c from)) e in
    (simp (lt-ltb asked.test (place_tests_in s) h))
    ∙ ap
    (λ (l : List Run).
    switch (test_in s asked.test % 0x1_0000) (map (run_edge s asked) l) (none_behind s asked) (unknown_behind s asked))
    (sym cut)

-- `rule_masks::kept::keep_tests` meets its contract: the places are listed, then put with the pairs.
use Prim.Native.Nat.{ℕ}
use mathlib.Core.Path.{ap, ◌∙◌}
use mathlib.Core.List.{List}
use native.Mathlib.Omega.{arith}
use lib.ListN.{take, length-replicate}
use Rattle.test_list.specs.views.Tests.{tests_put}
use Rattle.rule_masks.proofs.kept.keep_tests.Goals as goal

pub list_places-count-requires : goal.list_places-count-requires
list_places-count-requires c =
    let arrays = c.requires.0 in
    (arrays.all_words, omega (arith, arrays.few_tests), length-replicate {A = ℕ} 64 0)

pub put_tests-requires : goal.put_tests-requires
put_tests-requires c =
    let listed = c.list_places-count.ensures.value in
    let pre = c.requires in
    (omega (arith, listed.0, pre.0.few_tests), listed.1, pre.0.all_codes, pre.1)

pub returns : goal.returns
returns c =
    let a = c.args in
    c.put_tests.ensures
    ∙ ap (λ (l : List ℕ). tests_put l (take a.pairs a.codes.now) a.kept.now) c.list_places-count.ensures.places_after

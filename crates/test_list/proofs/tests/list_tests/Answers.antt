-- The places are listed, numbered and written down with the pairs, and then what is under them.
use Prim.Native.Nat.{ℕ}
use mathlib.Core.Path.{◌≡◌, sym, ap, ◌∙◌, subst}
use mathlib.Core.List.{List}
use native.Mathlib.Omega.{arith}
use lib.ListN.{length, take, length-replicate}
use lib.Seq.{length-take-le}
use Rattle.sheet_tests.specs.views.TestedPlaces.{places_in}
use Rattle.test_list.specs.views.Numbers.{number_all}
use Rattle.test_list.specs.views.Tests.{tests_put, Counted, under_put}
use Rattle.test_list.proofs.TestsListed.{listed_counted}
use Rattle.test_list.proofs.tests.list_tests.Goals as goal

pub list_places-count-requires : goal.list_places-count-requires
list_places-count-requires c = (c.requires.0, omega (arith, c.requires.2), length-replicate {A = ℕ} 64 0)

pub number_places-requires : goal.number_places-requires
number_places-requires c =
    let listed = c.list_places-count.ensures.value in
    let pre = c.requires in
    (omega (arith, listed.0, pre.2), listed.1, pre.4)

pub put_tests-requires : goal.put_tests-requires
put_tests-requires c =
    let listed = c.list_places-count.ensures.value in
    let pre = c.requires in
    (omega (arith, listed.0, pre.2), listed.1, pre.1, pre.3)

pub put_under-requires : goal.put_under-requires
put_under-requires c =
    let listed = c.list_places-count.ensures in
    let words = c.args.words.now in
    let codes = c.args.codes.now in
    let s = c.args.s.now in
    let pairs : length (take c.args.pairs codes) ≡ c.args.pairs =
    length-take-le c.args.pairs codes (omega (arith, c.requires.1, c.requires.2)) in
    let put = c.put_tests.ensures ∙ ap (λ (l : List ℕ). tests_put l (take c.args.pairs codes) s) listed.places_after in
    subst Counted (sym put) (listed_counted (places_in words) (take c.args.pairs codes) s c.requires.3 (omega (arith, pairs, c.requires.2)))

pub returns : goal.returns
returns c =
    let listed = c.list_places-count.ensures in
    let codes = c.args.codes.now in
    let put =
    c.put_tests.ensures ∙ ap (λ (l : List ℕ). tests_put l (take c.args.pairs codes) c.args.s.now) listed.places_after in record {
      s_after = c.put_under.ensures ∙ ap under_put put;
      numbers_after = c.number_places.ensures ∙ ap (λ (l : List ℕ). number_all l 0 c.args.numbers.now) listed.places_after;
    }

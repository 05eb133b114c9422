-- The tests are listed, and asked lowest first.
use Prim.Native.Nat.{ℕ}
use mathlib.Core.Path.{◌≡◌, sym, ap, subst, ◌∙◌}
use mathlib.Core.List.{List, map}
use native.Mathlib.Omega.{arith}
use lib.ListN.{length, set, replicate, length-set, length-replicate, take}
use lib.Seq.{length-take-le}
use Rattle.basics.specs.Lists.{count_from}
use Rattle.sheet_tests.specs.views.TestedPlaces.{places_in}
use Rattle.tables.specs.views.Planes.{tests_in}
use Rattle.test_list.specs.views.Numbers.{number_all}
use Rattle.test_list.specs.views.Tests.{put_all, tests_put, Counted, under_put}
use Rattle.turns.specs.views.Turned.{lower_tests}
use Rattle.build.specs.views.Tabled.{tests_for}
use Rattle.building.proofs.SheetTables.{under_counted}
use Rattle.building.proofs.list_sheet.Goals as goal

-- The tables have room for all tests from the start.
long : (s : List ℕ) (x : ℕ) → s ≡ replicate 324 0 → length (set s 0 x) ≡ 324
long s x e = length-set s 0 x ∙ ap length e ∙ length-replicate {A = ℕ} 324 0

pub list_tests-requires : goal.list_tests-requires
list_tests-requires c =
    let pre = c.requires in (
      pre.words_len.0,
      pre.words_len.1,
      pre.words_len.2,
      long c.args.s.now c.args.rules pre.s_value.0,
      ap length pre.s_value.1 ∙ length-replicate {A = ℕ} 680 0,
    )

pub lowest_first-requires : goal.lowest_first-requires
lowest_first-requires c =
    let a = c.args in
    let pre = c.requires in
    let many = length-take-le a.pairs a.codes.now (omega (arith, pre.words_len.1, pre.words_len.2)) in
    let counted = subst Counted (sym c.list_tests.ensures.s_after)
    (under_counted (places_in a.words.now) (take a.pairs a.codes.now) (set a.s.now 0 a.rules)
    (long a.s.now a.rules pre.s_value.0) (omega (arith, many, pre.words_len.2))) in
    (counted.entries, counted.few)

pub returns : goal.returns
unfolding tests_for
returns c =
    let a = c.args in
    let pre = c.requires in
    let listed = c.list_tests.ensures in record {
      s_after = c.lowest_first.ensures
          ∙ ap (λ (s : List ℕ). put_all 260 (map lower_tests (count_from 0 (tests_in s))) s)
          (listed.s_after
          ∙ ap (λ (s : List ℕ). under_put (tests_put (places_in a.words.now) (take a.pairs a.codes.now) (set s 0 a.rules)))
          pre.s_value.0);
      numbers_after = listed.numbers_after ∙ ap (number_all (places_in a.words.now) 0) pre.s_value.1;
    }

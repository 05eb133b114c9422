-- With all rules the tables and the cuts are those of the sheet.
use Prim.Native.Nat.{ℕ, ◌+◌, ◌<◌}
use mathlib.Core.Path.{◌≡◌, sym, ap, ◌∙◌, subst}
use mathlib.Core.List.{List}
use mathlib.Core.Logic.{inl, inr}
use native.Mathlib.Omega.{arith}
use native.Mathlib.Nat.{lt_of_lt_of_le}
use lib.Dec.{ltb}
use lib.ListN.{length, get_or}
use lib.Pow.{pow_mono}
use Rattle.basics.specs.Lists.{All}
use Rattle.basics.proofs.ListLaws.{all_at}
use Rattle.basics.proofs.Positions.{mem_at}
use Rattle.masks.specs.Mask.{mask_of}
use Rattle.masks.proofs.Membership.{has_lt}
use Rattle.terms.specs.Pattern.{Patterns}
use Rattle.sheet_tests.specs.SheetTests.{sheet_tests}
use Rattle.decision.specs.Rules.{has_test}
use Rattle.tables.specs.views.Planes.{rules_in, place_tests_in}
use Rattle.tables.specs.views.TablesOf.{TablesOf}
use Rattle.tables.specs.views.Turns.{Turns}
use Rattle.tables.proofs.FirstAsked.{same_turns, first_asked}
use Rattle.cuts.specs.views.Cuts.{Cut, cut_with, part_at, count_at, cut_at, cuts_in, Parted}
use Rattle.cuts.specs.views.CutsOf.{cuts_to, CutsOf}
use Rattle.cuts.proofs.AscendingCuts.{cuts_coded}
use Rattle.test_list.proofs.PutLists.{row_at}
use Rattle.rows.proofs.TestNumbers.{tests_number, place_number}
use Rattle.rows.proofs.TestsRight.{tests_are_lem, tests_near, tests_coded, tests_split, unknown_settles}
use Rattle.compiled.specs.views.Compiling.{Compiling, Compiled}
use Rattle.compiled.proofs.PartReads.{cuts_count}
use Rattle.compiled.proofs.SoundCodes.{rules_sound}
use Rattle.compiled.proofs.Filling.{Filled, few_tests_lem, filled_few}

module _ {arity : ℕ} {b numbers s₀ c₀ order : List ℕ} {all : List Patterns} (g : Compiling arity b numbers s₀ c₀ order all)
    (s c : List ℕ) (f : Filled g (rules_in s₀) s c) where
  abbrev rules : ℕ
  rules = rules_in s₀

  are : rules ≡ length all
  are = g.listed.rules_are

  places : place_tests_in s ≡ place_tests_in s₀
  places = f.same 2 (inl (omega arith))

  -- The plane of turns is as it was.
  turns_are : Turns s order
  turns_are = same_turns (λ t. f.same (260 + t) (inr (omega arith))) g.turns

  tables_are_lem : TablesOf all order s
  tables_are_lem = record {
    few_rules = omega (arith, are, g.few_rules);
    few_tests = few_tests_lem g;
    rules_are = f.same 0 (inl (omega arith)) ∙ are;
    tests_are = f.same 1 (inl (omega arith)) ∙ tests_are_lem arity all g.arguments g.accepted numbers s₀ g.listed;
    few_places = omega (
      arith,
      places,
      g.listed.counted.places,
      tests_are_lem arity all g.arguments g.accepted numbers s₀ g.listed,
    );
    split = λ t h.
        tests_split arity all g.arguments g.accepted numbers s₀ g.listed t h ∙ ap (ltb t) (sym places);
    near = tests_near arity all g.arguments g.accepted numbers s₀ g.listed;
    test = λ t h.
        f.same (4 + t) (inl (omega (arith, few_tests_lem g)))
        ∙ tests_coded arity all g.arguments g.accepted numbers s₀ g.listed t h;
    row = λ i h. f.rows i (omega (arith, are));
    column = λ t h. f.columns t h ∙ ap (λ (n : ℕ). mask_of n (λ i. has_test all i t)) are;
    under = λ t n h is.
        f.same (196 + t) (inr (omega arith))
        ∙ unknown_settles arity all g.arguments g.accepted numbers s₀ g.listed t n h is;
    first = λ set within pending.
        first_asked s order set turns_are (lt_of_lt_of_le within (pow_mono (few_tests_lem g))) pending
        (λ t h. g.asked t (has_lt (length (sheet_tests all)) set t within h));
  }

  cuts_are_lem : CutsOf all c
  cuts_are_lem t n h is =
      ap (λ (r : ℕ). cuts_in c (part_at r t)) (sym are) ∙ f.cuts t n h is ∙ ap (cuts_to all n) are

  -- The cuts of place test t have codes.
  coded : (t k : ℕ) → t < place_tests_in s₀ → k < count_at c (part_at rules t)
      → (0 < (cut_at c (part_at rules t) k).code) × ((cut_at c (part_at rules t) k).code < 0x1_0000_0000)
  coded t k h inside =
      let l = g.listed in
      let spot : t < length l.places = omega (arith, l.places_are) in
      let known : t < length (sheet_tests all) = omega (arith, tests_number all l.places l.pairs l.tests) in
      let n = get_or l.places t 0 in
      let is = place_number all l.places l.pairs l.tests t spot in
      let from = part_at rules t in
      let Coded : Cut → Type 0 = λ x. (0 < x.code) × (x.code < 0x400_0001) in
      let each =
      subst (All Coded) (sym (f.cuts t n known is))
      (cuts_coded all n (λ i w e. rules_sound arity all g.accepted i n w e) rules) in
      let here : 0 + k ≡ k = omega arith in
      let it = all_at Coded (mem_at (cut_with 0 0) (cuts_in c from) k (omega (arith, cuts_count c from))) each in
      let same = row_at (cut_at c from) (cut_with 0 0) 0 (count_at c from) k inside ∙ ap (cut_at c from) here in
      let at = ap (λ (x : Cut). x.code) same in
      (omega (arith, it.0, at), omega (arith, it.1, at))

  parted : Parted rules (place_tests_in s) c
  parted = subst (λ (p : ℕ). Parted rules p c) (sym places)
      (record {
        few_rules = g.few_rules;
        few_places = omega (arith, g.listed.counted.places, g.listed.counted.few);
        room = omega (arith, g.room, f.long);
        counted = filled_few g rules s c f;
        coded = coded;
      })

  pub filled_done : Compiled all order s c
  filled_done = record {
    tables_are = tables_are_lem;
    cuts_are = cuts_are_lem;
    parted = subst (λ (r : ℕ). Parted r (place_tests_in s) c) are parted;
  }

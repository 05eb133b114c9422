-- The tables and the cuts of a sheet's first rules: with one rule more, and with all.
use Prim.Native.Nat.{ℕ, suc, ◌+◌, ◌*◌, ◌^◌, ◌≤◌, ◌<◌}
use mathlib.Core.Path.{◌≡◌, refl, sym, ap, ◌∙◌, subst}
use mathlib.Core.Bool.{Bool, true, false}
use mathlib.Core.List.{List, map}
use mathlib.Core.Logic.{◌⊎◌, inl, inr, ⊎_elim, by_cases}
use native.Mathlib.Decide.{ℕ_discrete}
use native.Mathlib.Nat.{lt_of_lt_of_le}
use native.Mathlib.Numerals.{add-one}
use native.Mathlib.Omega.{arith}
use lib.ListN.{length, get_or, set, length-set}
use lib.Pow.{pow_mono}
use lib.Seq.{get_or-set_same, get_or-set_other}
use Rattle.basics.specs.Lists.{count_from}
use Rattle.basics.proofs.Booleans.{by_test}
use Rattle.basics.proofs.ListLaws.{all_map}
use Rattle.masks.specs.Mask.{has, mask_of}
use Rattle.masks.proofs.Extensionality.{mask_of_lt, has_mask_of}
use Rattle.masks.proofs.Loops.{mask_of_none, turn_yes, turn_no}
use Rattle.masks.proofs.Operations.{insert_is}
use Rattle.terms.specs.Pattern.{Patterns}
use Rattle.terms.specs.RuleTests.{PlaceTest, place_tests}
use Rattle.terms.specs.Answer.{rule_at}
use Rattle.patterns.specs.views.Note.{Note}
use Rattle.sheet.specs.views.Noted.{rule_notes}
use Rattle.sheet.specs.views.NoteRanges.{lows_of, highs_of}
use Rattle.sheet_tests.specs.SheetTests.{place, sheet_tests}
use Rattle.decision.specs.Rules.{test_at, has_test, tests_where}
use Rattle.decision.proofs.rules.SoundWants.{rule_accepted}
use Rattle.tables.specs.views.Planes.{rules_in, place_tests_in, row_in, column_in}
use Rattle.cuts.specs.views.Cuts.{part_at, count_at, cut_at, cuts_in}
use Rattle.cuts.specs.views.CutsOf.{turn_rule, cuts_to}
use Rattle.cuts.proofs.AscendingCuts.{cuts_few}
use Rattle.rows.specs.views.Wants.{notes_tests}
use Rattle.test_list.specs.views.Tests.{Counted, pairs_listed}
use Rattle.rows.specs.views.Row.{with_test, notes_row}
use Rattle.rows.specs.views.TestsOf.{TestsOf}
use Rattle.rows.proofs.NotesRight.{rule_wants}
use Rattle.test_list.proofs.SameTests.{same_counted, same_pairs}
use Rattle.rows.proofs.TestNumbers.{tests_number, place_number, number_place}
use Rattle.rows.proofs.TestsRight.{row_is}
use Rattle.compiled.specs.views.Columns.{Columned}
use Rattle.compiled.specs.views.CutRules.{turn_all, TurnsFit}
use Rattle.compiled.specs.views.Compiling.{Compiling}
use Rattle.compiled.proofs.PartReads.{cuts_count}
use Rattle.compiled.proofs.TurnedCuts.{Turned, turned_all}
use Rattle.compiled.proofs.RuleWants.{numbers_within, numbers_apart, wants_at}

-- The set of the rules before i for which p holds, with rule i where it holds for i.
column_yes : (i : ℕ) (p : ℕ → Bool) {m : ℕ} → m ≡ mask_of i p → i < 64 → p i ≡ true → with_test m i ≡ mask_of (suc i) p
unfolding with_test
column_yes i p {m} e h is =
    let fits = lt_of_lt_of_le (mask_of_lt i p) (pow_mono {i = i} {j = 64} (omega arith)) in
    sym (insert_is 64 m i (subst (λ (k : ℕ). k < 2 ^ 64) (sym e) fits) h)
    ∙ turn_yes 64 i p e h is
    ∙ ap (λ (n : ℕ). mask_of n p) (add-one i)

column_no : (i : ℕ) (p : ℕ → Bool) {m : ℕ} → m ≡ mask_of i p → p i ≡ false → m ≡ mask_of (suc i) p
column_no i p e is = turn_no i p e is ∙ ap (λ (n : ℕ). mask_of n p) (add-one i)

module _ {arity : ℕ} {b numbers s₀ c₀ order : List ℕ} {all : List Patterns} (g : Compiling arity b numbers s₀ c₀ order all) where
  abbrev l : TestsOf all numbers s₀
  l = g.listed

  abbrev many : ℕ
  many = length (sheet_tests all)

  pub few_tests_lem : many ≤ 64
  few_tests_lem = omega (arith, tests_number all l.places l.pairs l.tests, l.few)

  -- The first i rules are in the tables and the cuts.
  pub record Filled (i : ℕ) (s c : List ℕ) : Type 0 where
    pub entries : length s ≡ 324
    pub same : (k : ℕ) → (k < 68) ⊎ (196 ≤ k) → get_or s k 0 ≡ get_or s₀ k 0
    pub rows : (j : ℕ) → j < i → row_in s j ≡ tests_where all (has_test all j)
    pub columns : (t : ℕ) → t < many → column_in s t ≡ mask_of i (λ j. has_test all j t)
    pub long : length c ≡ length c₀
    pub cuts : (t n : ℕ) → t < many → test_at all t ≡ place n → cuts_in c (part_at (rules_in s₀) t) ≡ cuts_to all n i

  -- Before the first rule nothing is.
  pub filled_start : Filled 0 s₀ c₀
  filled_start = record {
    entries = l.counted.entries;
    same = λ k apart. refl;
    rows = λ j h. absurd (let z : ⊥ = omega arith in z);
    columns = λ t h. g.no_rows (132 + t) (omega arith) (omega (arith, few_tests_lem)) ∙ mask_of_none (λ j. has_test all j t);
    long = refl;
    cuts = λ t n h is.
        let from = part_at (rules_in s₀) t in
        ap (λ (k : ℕ). map (cut_at c₀ from) (count_from 0 k)) (g.no_cuts from);
  }

  module _ (i : ℕ) (s c : List ℕ) (f : Filled i s c) where
    low : (k : ℕ) → k < 68 → get_or s k 0 ≡ get_or s₀ k 0
    low k h = f.same k (inl h)

    size : length s ≡ length s₀
    size = f.entries ∙ sym l.counted.entries

    pub filled_counted : Counted s
    filled_counted = same_counted s₀ s size low l.counted

    -- A place test has two cuts of each rule at most.
    pub filled_few : (u : ℕ) → u < place_tests_in s₀ → count_at c (part_at (rules_in s₀) u) ≤ 2 * i
    filled_few u h =
        let inside : u < length l.places = omega (arith, l.places_are) in
        let is = place_number all l.places l.pairs l.tests u inside in
        let known : u < many = omega (arith, tests_number all l.places l.pairs l.tests) in
        let n = get_or l.places u 0 in
        omega (arith, cuts_few all n i, ap length (f.cuts u n known is), cuts_count c (part_at (rules_in s₀) u))

    module _ (h : i < rules_in s₀) where
      abbrev rule : Patterns
      rule = rule_at all (suc i)

      abbrev tests : List PlaceTest
      tests = place_tests rule

      wants : notes_tests (lows_of (rule_notes rule)) (highs_of (rule_notes rule)) (rule_notes rule) ≡ tests
      wants = rule_wants (rule_accepted arity all g.accepted i (omega (arith, l.rules_are)))

      turned : Turned numbers (rules_in s₀) i (place_tests_in s₀) h tests c
      turned =
          let within = numbers_within arity all g.arguments g.accepted numbers s₀ l (rules_in s₀) i h l.rules_are in
          turned_all numbers (rules_in s₀) i (place_tests_in s₀) h tests c
          (numbers_apart arity all g.arguments g.accepted numbers s₀ l (rules_in s₀) i h l.rules_are) within
          (record {
            room = omega (arith, g.room, f.long);
            most = λ u k. omega (arith, filled_few u k);
            fewer = all_map (λ (x : PlaceTest). get_or numbers x.place 0 < place_tests_in s₀)
                (λ (x : PlaceTest). count_at c (part_at (rules_in s₀) (get_or numbers x.place 0)) ≤ 2 * i)
                (λ x k. filled_few (get_or numbers x.place 0) k) tests within;
          })

      module _ (notes : List Note) (noted : notes ≡ rule_notes rule) where
        abbrev own : List PlaceTest
        own = notes_tests (lows_of notes) (highs_of notes) notes

        are : own ≡ tests
        are = ap (λ (ns : List Note). notes_tests (lows_of ns) (highs_of ns) ns) noted ∙ wants

        -- There is room for the next rule,
        pub filled_fits : TurnsFit numbers (rules_in s) i own c
        filled_fits =
            subst (λ (r : ℕ). TurnsFit numbers r i own c) (sym (low 0 (omega arith)))
            (subst (λ (ts : List PlaceTest). TurnsFit numbers (rules_in s₀) i ts c) (sym are) turned.fit)

        abbrev row : ℕ
        row = notes_row numbers (place_tests_in s) (pairs_listed s) notes

        abbrev set_of : ℕ
        set_of = tests_where all (has_test all i)

        row_right : row ≡ set_of
        row_right =
            (λ j. notes_row numbers (low 2 (omega arith) j) (same_pairs s₀ s size low l.counted j) (noted j))
            ∙ row_is arity all g.arguments g.accepted numbers s₀ l i (omega (arith, l.rules_are))

        -- and with it the tables and the cuts are those of one rule more.
        pub filled_turn
            : {s' c' : List ℕ} → Columned i row (set s (68 + i) row) s' → c' ≡ turn_all numbers (rules_in s) i own c
            → Filled (i + 1) s' c'
        filled_turn {s'} {c'} put cut = subst (λ (k : ℕ). Filled k s' c') (sym (add-one i)) next
          where
            col : Columned i set_of (set s (68 + i) set_of) s'
            col = subst (λ (x : ℕ). Columned i x (set s (68 + i) x) s') row_right put

            other : (k : ℕ) → (k ≡ 68 + i → ⊥) → get_or (set s (68 + i) set_of) k 0 ≡ get_or s k 0
            other k d = get_or-set_other s (68 + i) k set_of 0 d

            small : i < 64
            small = omega (arith, g.few_rules)

            column_of : (t : ℕ) → t < many → column_in (set s (68 + i) set_of) t ≡ mask_of i (λ j. has_test all j t)
            column_of t k = other (132 + t) (λ d. let z : ⊥ = omega (arith, small) in z) ∙ f.columns t k

            cuts_are_lem : c' ≡ turn_all numbers (rules_in s₀) i tests c
            cuts_are_lem = cut ∙ (λ j. turn_all numbers (low 0 (omega arith) j) i (are j) c)

            next : Filled (suc i) s' c'
            next = record {
              entries = col.entries ∙ length-set s (68 + i) set_of ∙ f.entries;
              same = λ k apart.
                  col.others k (⊎_elim (λ (a : k < 68). inl (omega arith)) (λ (a : 196 ≤ k). inr a) apart)
                  ∙ other k (⊎_elim (λ (a : k < 68) d. omega arith) (λ (a : 196 ≤ k) d. omega (arith, small)) apart)
                  ∙ f.same k apart;
              rows = λ j k.
                  col.others (68 + j) (inl (omega (arith, small)))
                  ∙ by_cases (ℕ_discrete j i)
                  (λ (e : j ≡ i).
                  ap (λ (x : ℕ). get_or (set s (68 + i) set_of) (68 + x) 0) e
                  ∙ get_or-set_same s (68 + i) set_of 0 (omega (arith, small, f.entries))
                  ∙ ap (λ (x : ℕ). tests_where all (has_test all x)) (sym e))
                  (λ (e : ¬ (j ≡ i)). other (68 + j) (λ d. e (omega arith)) ∙ f.rows j (omega arith));
              columns = λ t k.
                  let has-it : has set_of t ≡ has_test all i t = has_mask_of many (has_test all i) t k in
                  by_test (has_test all i t)
                  (λ e.
                  col.with t (omega (arith, few_tests_lem)) (has-it ∙ e) ∙ column_yes i (λ j. has_test all j t) (column_of t k) small e)
                  (λ e.
                  col.without t (omega (arith, few_tests_lem)) (has-it ∙ e) ∙ column_no i (λ j. has_test all j t) (column_of t k) e);
              long = ap length cuts_are_lem ∙ turned.long ∙ f.long;
              cuts = λ t n k is.
                  let (inside, spot) = number_place all l.places l.pairs l.tests t n k is in
                  let want = wants_at arity all g.arguments g.accepted numbers s₀ l (rules_in s₀) i h l.rules_are t n k is in
                  ap (λ (x : List ℕ). cuts_in x (part_at (rules_in s₀) t)) cuts_are_lem
                  ∙ turned.cuts t (omega (arith, l.places_are))
                  ∙ (λ j. turn_rule i (want j) (f.cuts t n k is j));
            }

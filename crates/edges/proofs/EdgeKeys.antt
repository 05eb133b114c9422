-- The keys behind the edges of a node, read off the tables of a sheet: each is that of the vertex to which document 01 says that
-- the edge leads.
use Prim.Native.Nat.{ℕ, ◌^◌, ◌<◌}
use mathlib.Core.Path.{◌≡◌, refl, sym, ap, ◌∙◌}
use mathlib.Core.Bool.{Bool, true, ◌&&◌, ◌||◌, not, and-true, and-false, and-or_distrib_left}
use mathlib.Core.List.{List}
use mathlib.Core.Logic.{by_cases}
use mathlib.Core.Option.{Option, some, none}
use native.Mathlib.Decide.{ℕ_discrete}
use lib.Bits.{bit_or, or_lt}
use lib.Dec.{eqb}
use lib.ListN.{length}
use borrow.Author.Tests.{ne_eqb}
use Rattle.basics.proofs.Numbers.{eqb_swap}
use Rattle.masks.specs.Mask.{has, mask_of}
use Rattle.masks.proofs.Membership.{has_or}
use Rattle.masks.proofs.Extensionality.{mask_of_lt, has_mask_of, has_is, mask_of_unique}
use Rattle.masks.proofs.Subsets.{Subset, filter_subset}
use Rattle.places.proofs.Below.{at_or_below_refl}
use Rattle.terms.specs.Pattern.{Patterns}
use Rattle.terms.specs.RuleTests.{Want}
use Rattle.sheet_tests.specs.SheetTests.{place, sheet_tests}
use Rattle.decision.specs.Rules.{test_at, has_test, want_at, rules_where, tests_where}
use Rattle.decision.specs.Key.{Key, root_key, vertex_of}
use Rattle.decision.specs.Cases.{Case}
use Rattle.decision.specs.Edges.{settled_by_unknown, case_keeps, leads_to, but_test, by_case, by_none, by_unknown, by_other}
use Rattle.tables.specs.views.Planes.{rules_in, tests_in, column_in, under_in}
use Rattle.tables.specs.views.TablesOf.{TablesOf}
use Rattle.cuts.specs.views.CutsOf.{takes_for, case_run}
use Rattle.edges.specs.views.VertexKey.{vertex_key}
use Rattle.edges.specs.views.KeysBehind.{minus, without, full, settled_in, lead_in, root_in, asked_in}
use Rattle.edges.specs.views.KeysBehind.{none_behind, other_behind, run_behind, unknown_behind}
use Rattle.edges.proofs.Widths.{those_where, full_where}
use Rattle.edges.proofs.Leads.{leads_same, settled_among, column_has, lead_is}
use Rattle.edges.proofs.WantedTests.{wants_something, has_wanted}

-- A case keeps a rule that wants nothing there, and one that wants what it takes.
keeps_is
    : (rules : List Patterns) (n : ℕ) (c : Case) (x : Option Want)
    → not (wants_something x) || takes_for rules n c x ≡ case_keeps c x
keeps_is rules n c none = refl
keeps_is rules n c (some w) = refl

module _ (rules : List Patterns) (order s : List ℕ) (tables : TablesOf rules order s) where
  -- "The root has all of both."
  pub root_is : root_in s ≡ vertex_key (vertex_of rules (root_key rules))
  root_is =
      let live = rules_where rules (λ i. true) in
      let left = tests_where rules (λ t. true) in
      let all : full (rules_in s) ≡ live = ap full tables.rules_are ∙ full_where (length rules) tables.few_rules in
      let tests : full (tests_in s) ≡ left =
      ap full tables.tests_are ∙ full_where (length (sheet_tests rules)) tables.few_tests in
      (λ j. lead_in s (all j) (tests j) (settled_in s (all j) (tests j)))
      ∙ lead_is rules order s tables live left (mask_of_lt (length rules) (λ i. true))
      (mask_of_lt (length (sheet_tests rules)) (λ t. true)) (settled_in s live left) (settled_among s live live left (λ i y. y))
      ∙ ap vertex_key
      (leads_same rules live (has left) (λ t. true) (λ t l. has_mask_of (length (sheet_tests rules)) (λ u. true) t l))

  module _ (key : Key) (t : ℕ) (lives : key.live < 2 ^ length rules) (pends : key.pending < 2 ^ length (sheet_tests rules))
      (below : t < length (sheet_tests rules)) where
    -- The tests that are left are of the sheet,
    left_is : without key.pending t ≡ mask_of (length (sheet_tests rules)) (λ j. has key.pending j && not (eqb t j))
    unfolding without
    left_is =
        those_where (length (sheet_tests rules)) key.pending (λ j. not (eqb t j)) (λ j. not (eqb t j)) tables.few_tests pends
        (λ j l y. refl)

    left_fits : without key.pending t < 2 ^ length (sheet_tests rules)
    left_fits =
        rw left_is (mask_of_lt (length (sheet_tests rules)) (λ j. has key.pending j && not (eqb t j)))

    -- and are what the edge leaves.
    left_has : (u : ℕ) → u < length (sheet_tests rules) → has (without key.pending t) u ≡ but_test key t u
    left_has u l =
        has_is (length (sheet_tests rules)) (λ j. has key.pending j && not (eqb t j)) left_is u l
        ∙ ap (λ (b : Bool). has key.pending u && not b) (eqb_swap t u)

    -- Where an edge leads that keeps some of the live rules.
    edge_is
        : (part : ℕ) → part < 2 ^ length rules → Subset part key.live
        → lead_in s part (without key.pending t) (settled_in s key.live (without key.pending t))
        ≡ vertex_key (leads_to rules part (but_test key t))
    edge_is part h inside =
        let left = without key.pending t in
        lead_is rules order s tables part left h left_fits (settled_in s key.live left)
        (settled_among s part key.live left inside)
        ∙ ap vertex_key (leads_same rules part (has left) (but_test key t) left_has)

    -- The live rules without the test.
    free_is : minus key.live (column_in s t) ≡ rules_where rules (λ i. has key.live i && not (has_test rules i t))
    unfolding minus
    free_is =
        those_where (length rules) key.live (λ j. not (has (column_in s t) j)) (λ i. not (has_test rules i t)) tables.few_rules
        lives (λ i l y. ap not (column_has rules order s tables i t l below))

    -- "neither drops every rule with a test there", and no the rules that have the pair.
    pub none_is : none_behind s (asked_in s key t) ≡ vertex_key (by_none rules key t)
    none_is =
        let lacks : ℕ → Bool = λ i. not (has_test rules i t) in
        let part = rules_where rules (λ i. has key.live i && lacks i) in
        ap (λ (x : ℕ). lead_in s x (without key.pending t) (settled_in s key.live (without key.pending t))) free_is
        ∙ edge_is part (mask_of_lt (length rules) (λ i. has key.live i && lacks i))
        (filter_subset (length rules) key.live lacks)

    -- Other "drops none".
    pub other_is : other_behind s (asked_in s key t) ≡ vertex_key (by_other rules key t)
    other_is = edge_is key.live lives (λ i y. y)

    module _ (n : ℕ) (at : test_at rules t ≡ place n) where
      -- "A case drops the rules that want something else": it keeps those without the test and those that want what it takes.
      kept_is
          : (c : Case)
          → bit_or (minus key.live (column_in s t)) (case_run rules n key.live c).set
          ≡ rules_where rules (λ i. has key.live i && case_keeps c (want_at rules i n))
      kept_is c =
          let takes : ℕ → Bool = λ i. has key.live i && takes_for rules n c (want_at rules i n) in
          let lacks : ℕ → Bool = λ i. has key.live i && not (has_test rules i t) in
          mask_of_unique (length rules) (bit_or (minus key.live (column_in s t)) (rules_where rules takes)) _
          (or_lt (length rules) (minus key.live (column_in s t)) (rules_where rules takes)
          (rw free_is (mask_of_lt (length rules) lacks)) (mask_of_lt (length rules) takes))
          (λ i l.
          has_or (minus key.live (column_in s t)) (rules_where rules takes) i
          ∙ (λ j. has_is (length rules) lacks free_is i l j || has_mask_of (length rules) takes i l j)
          ∙ sym (and-or_distrib_left (has key.live i) (not (has_test rules i t)) (takes_for rules n c (want_at rules i n)))
          ∙ ap (λ (b : Bool). has key.live i && (not b || takes_for rules n c (want_at rules i n))) (has_wanted rules i t n at)
          ∙ ap (λ (b : Bool). has key.live i && b) (keeps_is rules n c (want_at rules i n)))

      pub run_is
          : (c : Case) → run_behind s (asked_in s key t) (case_run rules n key.live c).set ≡ vertex_key (by_case rules key t n c)
      run_is c =
          let keeps : ℕ → Bool = λ i. case_keeps c (want_at rules i n) in
          let part = rules_where rules (λ i. has key.live i && keeps i) in
          ap (λ (x : ℕ). lead_in s x (without key.pending t) (settled_in s key.live (without key.pending t))) (kept_is c)
          ∙ edge_is part (mask_of_lt (length rules) (λ i. has key.live i && keeps i))
          (filter_subset (length rules) key.live keeps)

      -- The tests that an unknown leaves: the test itself is one that it settles.
      abbrev remains : ℕ → Bool
      remains u = has (without key.pending t) u && not (settled_by_unknown n (test_at rules u))

      remains_is : minus (without key.pending t) (under_in s t) ≡ tests_where rules remains
      unfolding minus
      remains_is =
          those_where (length (sheet_tests rules)) (without key.pending t) (λ u. not (has (under_in s t) u))
          (λ u. not (settled_by_unknown n (test_at rules u))) tables.few_tests left_fits
          (λ u l y.
          ap not
          (has_is (length (sheet_tests rules)) (λ v. settled_by_unknown n (test_at rules v)) (tables.under t n below at) u l))

      remains_has
          : (u : ℕ) → u < length (sheet_tests rules) → remains u ≡ has key.pending u && not (settled_by_unknown n (test_at rules u))
      remains_has u l =
          ap (λ (b : Bool). b && not (settled_by_unknown n (test_at rules u))) (left_has u l)
          ∙ by_cases (ℕ_discrete u t)
          (λ (e : u ≡ t).
          let itself : settled_by_unknown n (test_at rules u) ≡ true =
          ap (λ (v : ℕ). settled_by_unknown n (test_at rules v)) e ∙ ap (settled_by_unknown n) at ∙ at_or_below_refl n in
          rw (itself, and-false (but_test key t u), and-false (has key.pending u)))
          (λ (e : ¬ (u ≡ t)). rw (ne_eqb u t e, and-true (has key.pending u)))

      -- "Unknown drops no rule and settles the place, all place tests below it", and "no longer settles any pair" (document 02,
      -- request 6).
      pub unknown_is : unknown_behind s (asked_in s key t) ≡ vertex_key (by_unknown rules key n)
      unknown_is =
          let left = minus (without key.pending t) (under_in s t) in
          lead_is rules order s tables key.live left lives
          (rw remains_is (mask_of_lt (length (sheet_tests rules)) remains)) (settled_in s key.live left)
          (settled_among s key.live key.live left (λ i y. y))
          ∙ ap vertex_key
          (leads_same rules key.live (has left) (λ u. has key.pending u && not (settled_by_unknown n (test_at rules u)))
          (λ u l. has_is (length (sheet_tests rules)) remains remains_is u l ∙ remains_has u l))

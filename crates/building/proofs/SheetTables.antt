-- From the tests of a sheet to what compiling its rules asks.
use Prim.Native.Nat.{ℕ, ◌+◌, ◌≤◌}
use mathlib.Core.Path.{◌≡◌, refl, sym, subst, ap, ◌∙◌}
use mathlib.Core.List.{List, map}
use mathlib.Core.Logic.{inl}
use native.Mathlib.Omega.{arith}
use lib.ListN.{length, take, drop, set, replicate, length-set, length-replicate}
use lib.Seq.{length-take-le, get_or-set_same, get_or-set_other}
use Rattle.std.specs.Prelude.{Result, Ok, Err}
use Rattle.records.specs.Fields.{IsByte}
use Rattle.records.specs.Refusals.{number}
use Rattle.records.specs.declared.refusal.Refusal.{Refusal}
use Rattle.records.specs.Reading.{Reading, took, refused, map_reading}
use Rattle.basics.specs.Lists.{All, count_from}
use Rattle.basics.proofs.Counting.{mem_count}
use Rattle.terms.specs.Pattern.{Patterns}
use Rattle.terms.specs.Accepted.{AcceptedRule}
use Rattle.sheet.specs.Sheet.{Sheet, most_rules}
use Rattle.sheet.specs.ReadSheet.{read_rules}
use Rattle.sheet_tests.specs.SheetTests.{sheet_tests}
use Rattle.sheet_tests.specs.views.TestedPlaces.{places_in}
use Rattle.sheet_tests.specs.declared.TestsRead.{TestsRead}
use Rattle.sheet_tests.specs.CheckSheet.{accept_sheet}
use Rattle.sheet_tests.specs.views.TestsRead.{Held}
use Rattle.sheet_tests.proofs.Checking.{read_counted}
use Rattle.accepted.proofs.Acceptance.{sheet_accepted_lem}
use Rattle.accepted.specs.views.AcceptedAs.{AcceptedTests}
use Rattle.decision.specs.Graph.{lowest_first, graph_in}
use Rattle.decision.specs.PlaceOrder.{order_by}
use Rattle.order.specs.Table.{read_table}
use Rattle.order.proofs.EveryPlace.{once_apart, every_place}
use Rattle.order.proofs.TableAsks.{table_ordering, table_asks}
use Rattle.tables.specs.views.Planes.{rules_in, tests_in, place_tests_in}
use Rattle.tables.specs.views.Turns.{Turns}
use Rattle.test_list.specs.views.Numbers.{number_all}
use Rattle.test_list.specs.views.Tests.{put_all, tests_put, Counted, settled_below, under_put}
use Rattle.test_list.proofs.PutLists.{put_length, put_other}
use Rattle.test_list.proofs.SameTests.{same_counted}
use Rattle.rows.specs.views.TestsOf.{TestsOf}
use Rattle.rows.proofs.SheetRows.{zeros}
use Rattle.test_list.proofs.TestsListed.{listed_counted, under_rows}
use Rattle.rows.proofs.TestsRight.{tests_listed, tests_are_lem}
use Rattle.turns.specs.views.Turned.{turned_by}
use Rattle.turns.proofs.SameListed.{Same, listed_stays}
use Rattle.turns.proofs.LowestTurns.{Lower, lower_turns, lowered_same, lowered_lower}
use Rattle.turns.proofs.PlaceTurns.{places_turned}
use Rattle.turns.proofs.OrderTurns.{order_turns}
use Rattle.order.specs.Asking.{Asking, by_table, read_asking}
use Rattle.build.specs.BuildOutcome.{graph_written, sheet_built, outcome_in, ordered_outcome, left_by}
use Rattle.build.specs.views.Tabled.{SheetHeld, tests_for, ListedRules}

-- Tables with listed tests say how many there are.
pub under_counted
    : (places pairs s : List ℕ) → length s ≡ 324 → length places + length pairs ≤ 64 → Counted (under_put (tests_put places pairs s))
unfolding under_put
under_counted places pairs s long few =
    let put = tests_put places pairs s in
    let sets = map (settled_below put) (count_from 0 (place_tests_in put)) in
    same_counted put (put_all 196 sets put) (put_length sets 196 put) (λ k h. put_other sets 196 put k (inl (omega arith)))
    (listed_counted places pairs s long few)

module _ {s words codes : List ℕ} {arity count pairs : ℕ} {sheet : Sheet} (k : SheetHeld s words codes arity count pairs sheet) where
  pub accepted_rules_lem : All (AcceptedRule arity) sheet.rules
  accepted_rules_lem =
      subst (λ (n : ℕ). All (AcceptedRule n) sheet.rules) k.known.arity_is k.known.accepted.sound.accepted_rules

  pub small_sheet : (arity ≤ 8) × (count ≤ most_rules)
  small_sheet =
      let sound = k.known.accepted.sound in
      (omega (arith, sound.few_arguments, k.known.arity_is), omega (arith, sound.few_rules, k.known.count_is))

  -- The tests that are listed are the sheet's, and asked lowest first.
  module _ (entries : length codes ≡ 65) (few : length (places_in words) + pairs ≤ 64) {numbers : List ℕ}
      (made : numbers ≡ number_all (places_in words) 0 (replicate 680 0)) where
    abbrev blank : List ℕ
    blank = set (replicate 324 0) 0 count

    abbrev tests : List ℕ
    tests = under_put (tests_put (places_in words) (take pairs codes) blank)

    long : length blank ≡ 324
    long = length-set (replicate {A = ℕ} 324 0) 0 count ∙ length-replicate {A = ℕ} 324 0

    kept : length (take pairs codes) ≡ pairs
    kept = length-take-le pairs codes (omega arith)

    enough : length (places_in words) + length (take pairs codes) ≤ 64
    enough = omega (arith, kept)

    rules_in_lem : rules_in blank ≡ count
    rules_in_lem = get_or-set_same (replicate {A = ℕ} 324 0) 0 count 0 (omega (arith, length-replicate {A = ℕ} 324 0))

    first_listed : TestsOf sheet.rules numbers tests
    first_listed =
        tests_listed sheet.rules (places_in words) (take pairs codes) blank k.tests enough long
        (rules_in_lem ∙ sym k.known.count_is) made refl

    all_tests_lem : tests_in tests ≡ length (sheet_tests sheet.rules)
    all_tests_lem = tests_are_lem arity sheet.rules small_sheet.0 accepted_rules_lem numbers tests first_listed

    few_in : tests_in tests ≤ 64
    few_in = first_listed.counted.few

    module _ {s' : List ℕ} (listed : s' ≡ tests_for (places_in words) (take pairs codes) count) where
      same : Same tests s'
      unfolding tests_for
      same = subst (Same tests) (sym listed) (lowered_same tests first_listed.counted.entries few_in)

      pub sheet_lower : Lower s' (length (sheet_tests sheet.rules))
      unfolding tests_for
      sheet_lower =
          subst (λ (n : ℕ). Lower s' n) all_tests_lem
          (subst (λ (l : List ℕ). Lower l (tests_in tests)) (sym listed)
          (lowered_lower tests first_listed.counted.entries few_in))

      pub lowest_listed : ListedRules arity s numbers s' (lowest_first sheet.rules) sheet.rules
      lowest_listed =
          let l = listed_stays same first_listed in
          let rules : rules_in s' ≡ count = l.rules_are ∙ k.known.count_is in
          record {
            arguments = small_sheet.0;
            bytes = k.bytes;
            read = ap (λ (n : ℕ). read_rules arity n s) rules ∙ k.rules_read;
            accepted = accepted_rules_lem;
            few_rules = omega (arith, rules, small_sheet.1);
            listed = l;
            turns = lower_turns s' (length (sheet_tests sheet.rules)) (omega (arith, all_tests_lem, few_in)) sheet_lower;
            asked = λ t h. mem_count 0 (length (sheet_tests sheet.rules)) t (omega arith) (omega arith);
            no_rows = λ i h below.
                same.below i (omega arith)
                ∙ under_rows (places_in words) (take pairs codes) blank long enough i h below
                ∙ get_or-set_other (replicate {A = ℕ} 324 0) 0 i count 0 (λ e. let z : ⊥ = omega arith in z)
                ∙ zeros 324 i;
          }

      -- By the places of an accepted table they are asked in its order.
      pub ordered_listed
          : (table : List ℕ) {places s'' : List ℕ} {n : ℕ} → read_table table ≡ took n places → s'' ≡ turned_by numbers places 0 s'
          → ListedRules arity s numbers s'' (order_by places sheet.rules) sheet.rules
      ordered_listed table {places} read turned =
          let g = lowest_listed in
          let t = table_ordering table places read in
          let apart = once_apart places t.once in
          let all = every_place places t.once t.size in
          let rules = sheet.rules in
          let stays : Same s' _ =
          subst (Same s') (sym turned)
          (places_turned arity rules g.arguments g.accepted numbers s' g.listed places apart).same in
          record {
            arguments = g.arguments;
            bytes = g.bytes;
            read = ap (λ (n : ℕ). read_rules arity n s) (stays.below 0 (omega arith)) ∙ g.read;
            accepted = g.accepted;
            few_rules = omega (arith, stays.below 0 (omega arith), g.few_rules);
            listed = listed_stays stays g.listed;
            turns = subst (λ (l : List ℕ). Turns l (order_by places rules)) (sym turned)
                (order_turns arity rules g.arguments g.accepted numbers s' g.listed sheet_lower places apart all);
            asked = (table_asks table places read sheet k.known.accepted).whole;
            no_rows = λ i h below. stays.below i (omega arith) ∙ g.no_rows i h below;
          }

-- There are few tests.
pub few_tests_lem
    : (words codes : List ℕ) {r : Result TestsRead Refusal} {t : TestsRead} → r ≡ Ok t → Held words codes r
    → length (places_in words) + t.pairs ≤ 64
few_tests_lem words codes same held = let counted = read_counted words codes same held in omega (arith, counted.0, counted.1)

-- Where the sheet is refused so is the build, however the tests are asked,
pub outcome_refused
    : (asking : Asking) (s buffer : List ℕ) (r : Refusal) → accept_sheet s ≡ refused (number r)
    → left_by (Err r) buffer ≡ outcome_in asking s buffer
unfolding outcome_in
outcome_refused asking s buffer r e = sym (ap (λ (x : Reading Sheet). sheet_built x (read_asking asking) buffer) e)

-- and where it is accepted and the table refused.
pub table_refused
    : (table s buffer : List ℕ) (r : Refusal) {k : ℕ} {sheet : Sheet} → accept_sheet s ≡ took k sheet
    → read_table table ≡ refused (number r) → left_by (Err r) buffer ≡ ordered_outcome s table buffer
unfolding outcome_in
table_refused table s buffer r e d =
    sym (λ i. sheet_built (e i) (map_reading order_by (d i)) buffer)

module _ (s words codes : List ℕ) (arity count pairs : ℕ) (found : AcceptedTests s words codes arity count pairs) where
  -- Where it is accepted its rules follow its first 3 bytes,
  pub sheet_kept : {t : List ℕ} → t ≡ drop 3 s → All IsByte s → SheetHeld t words codes arity count pairs found.read.sheet
  sheet_kept part bytes =
      let read = found.read in
      record {
        known = record {
          accepted = ((sheet_accepted_lem s bytes read.bytes read.sheet).0 read.accepted).0;
          arity_is = read.arity_is;
          count_is = found.count_is;
        };
        bytes = _;
        rules_read = ap (read_rules arity count) part ∙ read.rules_read;
        tests = found.tests;
      }

-- and the build is that of its graph.
pub outcome_kept
    : (asking : Asking) (s buffer words codes : List ℕ) (arity count pairs : ℕ)
    → (found : AcceptedTests s words codes arity count pairs) (order : List Patterns → List ℕ) {n : ℕ}
    → read_asking asking ≡ took n order
    → graph_written arity (length found.read.sheet.rules) (graph_in found.read.sheet.rules (order found.read.sheet.rules))
    buffer
    ≡ outcome_in asking s buffer
unfolding outcome_in
outcome_kept asking s buffer words codes arity count pairs found order is =
    let read = found.read in
    let rules = read.sheet.rules in
    ap (λ (a : ℕ). graph_written a (length rules) (graph_in rules (order rules)) buffer) (sym read.arity_is)
    ∙ sym (λ i. sheet_built (read.accepted i) (is i) buffer)

pub ordered_kept
    : (table s buffer words codes : List ℕ) (arity count pairs : ℕ)
    → (found : AcceptedTests s words codes arity count pairs) {n : ℕ} {places : List ℕ} → read_table table ≡ took n places
    → graph_written arity (length found.read.sheet.rules)
    (graph_in found.read.sheet.rules (order_by places found.read.sheet.rules)) buffer
    ≡ ordered_outcome s table buffer
ordered_kept table s buffer words codes arity count pairs found {n} {places} read =
    outcome_kept (by_table table) s buffer words codes arity count pairs found (order_by places) (ap (map_reading order_by) read)

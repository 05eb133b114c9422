-- The tests of a sheet as they are left, from what was gathered of its rules.
use Prim.Native.Nat.{ℕ, ◌+◌, ◌*◌, ◌-◌, ◌≤◌, ◌<◌}
use mathlib.Core.Path.{◌≡◌, refl, sym, ap, ◌∙◌, subst}
use mathlib.Core.Bool.{Bool, true, false, cond}
use mathlib.Core.List.{List, [], ◌∷◌, ◌++◌, map}
use native.Mathlib.Omega.{arith}
use lib.Dec.{leb, eqb}
use lib.ListN.{length, take, drop, replicate, length-append, length-map, length-replicate}
use lib.Seq.{length-take-le}
use borrow.Author.Tests.{leb-false, le-leb, lt-leb, eq-eqb}
use Rattle.std.specs.Prelude.{Option, Some, None, Result, Ok, Err}
use Rattle.std.specs.Result.{IsErrAnd}
use Rattle.records.specs.Fields.{AreBytes}
use Rattle.records.specs.Refusals.{number}
use Rattle.records.specs.declared.refusal.Refusal.{Refusal}
use Rattle.records.specs.declared.refusal.Refusal.TheVariants.{TooManyTests}
use Rattle.records.specs.Reading.{Reading, took, refused, ask, map_reading, and_then}
use Rattle.records.proofs.Rows.{took_view, row_size}
use Rattle.records.proofs.Spelling.{row_holds}
use Rattle.basics.specs.Lists.{All}
use Rattle.terms.specs.Pattern.{Patterns}
use Rattle.terms.specs.RuleTests.{Occurrence, pairs_with, pairs_of, rule_variables}
use Rattle.basics.proofs.ListLaws.{all_join}
use Rattle.terms.specs.Accepted.{AcceptedRule}
use Rattle.patterns.specs.views.Note.{Note}
use Rattle.sheet.specs.views.Noted.{rule_notes}
use Rattle.sheet.specs.Sheet.{Sheet}
use Rattle.sheet.specs.ReadSheet.{read_rule, read_rules, end_sheet, read_header, read_sheet}
use Rattle.sheet.proofs.ReadsSound.{rule_sound}
use Rattle.sheet.proofs.SheetReads.{header_is}
use Rattle.sheet_tests.specs.declared.TestsRead.{TestsRead}
use Rattle.sheet_tests.specs.declared.Scan.{Scan}
use Rattle.sheet_tests.specs.SheetTests.{place, sheet_tests}
use Rattle.sheet_tests.specs.views.TestedPlaces.{has_place, places_in, insert_all}
use Rattle.pairs.specs.views.KeptPairs.{these, many, kept_if, kept_of, pairs_in}
use Rattle.sheet_tests.specs.views.KeptPairs.{code_pair}
use Rattle.pairs.specs.views.NoteVariables.{name_of, occurrence, notes_variables, Placed}
use Rattle.sheet_tests.specs.views.Gathered.{Gathered, gather, held, gathered_in, sheet_places, sheet_codes}
use Rattle.sheet_tests.specs.CheckSheet.{most_tests, ask_tests, accept_sheet, sheet_check_values, sheet_values}
use Rattle.sheet_tests.specs.views.TestsRead.{TestsFound, kept_tests, tests_found, sheet_found, found_values, CountsTests, Held}
use Rattle.sheet_tests.proofs.NotedTests.{rule_placed, rule_varied}
use Rattle.sheet_tests.proofs.PlaceSets.{places_none}
use Rattle.pairs.proofs.KeptLists.{pairs_many, pairs_these}
use Rattle.sheet_tests.proofs.KeptAll.{keep_all_lem}
use Rattle.sheet_tests.proofs.TestsSplit.{Small, SmallRule, tests_split, tests_count}
use Rattle.basics.proofs.Counting.{filter_count}
use Rattle.records.proofs.ByteLists.{bytes_drop}

-- A variable's place is one of the 680.
abbrev Within680 : Occurrence → Type 0
Within680 o = o.place < 680

variables_placed : (notes : List Note) → All Placed notes → All Within680 (notes_variables notes)
variables_placed [] h = tt
variables_placed (n ∷ notes) h = go (name_of n.what) (variables_placed notes h.1)
  where
    go : (x : Option ℕ) → All Within680 (notes_variables notes) → All Within680 (occurrence n.place x (notes_variables notes))
    go None k = k
    go (Some v) k = (h.0, k)

with_small : (p v : ℕ) (os : List Occurrence) → All Within680 os → All Small (pairs_with p v os)
with_small p v [] h = tt
with_small p v (o ∷ os) h = go (eqb v o.name) (with_small p v os h.1)
  where
    go : (b : Bool) → All Small (pairs_with p v os)
        → All Small (cond b (record { first = p; second = o.place } ∷ pairs_with p v os) (pairs_with p v os))
    go true k = (omega (arith, h.0), k)
    go false k = k

pairs_small : (os : List Occurrence) → All Within680 os → All Small (pairs_of os)
pairs_small [] h = tt
pairs_small (o ∷ os) h =
    all_join Small (pairs_with o.place o.name os) (pairs_of os) (with_small o.place o.name os h.1)
    (pairs_small os h.1)

-- The pairs of accepted rules have places that fit.
rule_small : (arity : ℕ) (rule : Patterns) → AcceptedRule arity rule → arity ≤ 8 → SmallRule rule
rule_small arity rule accepted few =
    pairs_small (rule_variables rule)
    (subst (All Within680) (sym (rule_varied accepted))
    (variables_placed (rule_notes rule) (rule_placed arity rule accepted few)))

rules_small
    : (arity n : ℕ) → arity ≤ 8 → (s : List ℕ) → AreBytes s → {k : ℕ} {rules : List Patterns}
    → read_rules arity n s ≡ took k rules → All SmallRule rules
rules_small arity n few s bytes e =
    row_holds [] ◌∷◌ (read_rule arity) AreBytes bytes_drop SmallRule (All SmallRule) tt (λ rule rules first rest. (first, rest))
    (λ t k rule good read. rule_small arity rule (rule_sound arity t good read) few) n s bytes e

-- Arrays of zeros have their entries.
pub zeros : (n : ℕ) {xs : List ℕ} → xs ≡ replicate n 0 → length xs ≡ n
zeros n e = ap length e ∙ length-replicate n 0

-- At the start nothing is gathered.
held_none : held (replicate 11 0) (replicate 65 0) 0 ≡ record { places = []; pairs = these [] }
held_none = λ i. record { places = places_none i; pairs = pairs_these (replicate 65 0) 0 (omega arith) i }

-- What the rules come to that were read and gathered.
pub record RulesRead (arity rules : ℕ) (s words codes : List ℕ) (bytes count : ℕ) : Type 0 where
  pub all : List Patterns
  pub read : read_rules arity rules s ≡ took bytes all
  pub many : length all ≡ rules
  pub small : All SmallRule all
  pub places : places_in words ≡ insert_all (sheet_places all) []
  pub pairs : pairs_in codes count ≡ kept_of (insert_all (sheet_codes all) [])

module _ (arity rules : ℕ) (s : List ℕ) where
  abbrev gathered_rules : Reading Gathered
  gathered_rules = map_reading (λ rs. gather rs (held (replicate 11 0) (replicate 65 0) 0)) (read_rules arity rules s)

  -- The scan begins with nothing gathered.
  pub at_start
      : {words codes : List ℕ} → words ≡ replicate 11 0 → codes ≡ replicate 65 0
      → map_reading (λ rs. gather rs (held words codes 0)) (read_rules arity rules s) ≡ gathered_rules
  at_start noWords noCodes = λ i. map_reading (λ rs. gather rs (held (noWords i) (noCodes i) 0)) (read_rules arity rules s)

  -- What the scan of the rules says where it read them.
  pub rules_gathered
      : (words codes : List ℕ) {r : Result Scan Refusal} {t : Scan} → arity ≤ 8 → AreBytes s → r ≡ Ok t
      → gathered_in words codes r ≡ gathered_rules → RulesRead arity rules s words codes t.bytes t.pairs
  rules_gathered words codes few bytes same gathers =
      let e = sym (ap (gathered_in words codes) same) ∙ gathers in
      let (all, read, found) = took_view (λ rs. gather rs (held (replicate 11 0) (replicate 65 0) 0)) (read_rules arity rules s) e in
      let gathered = found ∙ ap (gather all) held_none in
      record {
        all = all;
        read = read;
        many = row_size [] ◌∷◌ (read_rule arity) length refl (λ rule rules. refl) rules s read;
        small = rules_small arity rules few s bytes read;
        places = λ i. (gathered i).places;
        pairs = (λ i. (gathered i).pairs) ∙ keep_all_lem (sheet_codes all) [];
      }

-- Too many are kept of a list where it has more than 64, and otherwise the list.
kept_many : (l : List ℕ) → many ≡ kept_of l → 64 < length l
kept_many l e = go (leb (length l) most_tests) refl e
  where
    go : (b : Bool) → leb (length l) most_tests ≡ b → many ≡ kept_if b l → 64 < length l
    go true d h = let z : ◌≡◌ {A = ℕ} 0 1 = cc in absurd (omega arith)
    go false d h = leb-false (length l) 64 d

kept_these : (k l : List ℕ) → these k ≡ kept_of l → k ≡ l
kept_these k l e = go (leb (length l) most_tests) e
  where
    go : (b : Bool) → these k ≡ kept_if b l → k ≡ l
    go true h = cc
    go false h = let z : ◌≡◌ {A = ℕ} 0 1 = cc in absurd (omega arith)

-- A set of places has no more places than bits.
pub places_few : (words : List ℕ) → length (places_in words) ≤ 64 * length words
unfolding places_in
places_few words = filter_count (has_place words) 0 (64 * length words)

-- How many tests the arrays hold.
pub kept_count
    : (words codes : List ℕ) (count : ℕ) → count ≤ length codes
    → length (kept_tests words codes count) ≡ length (places_in words) + count
kept_count words codes count within =
    length-append (map place (places_in words)) (map code_pair (take count codes))
    ∙ (λ i. length-map (places_in words) place i + (length-map (take count codes) code_pair ∙ length-take-le count codes within) i)

module _ {arity rules : ℕ} {s words codes : List ℕ} {bytes count : ℕ} (r : RulesRead arity rules s words codes bytes count) where
  abbrev tests : ℕ
  tests = length (sheet_tests r.all)

  -- More than 64 pairs are more than 64 tests.
  pub tests_many : 64 < count → 64 < tests
  tests_many h =
      omega (
        arith,
        kept_many (insert_all (sheet_codes r.all) []) (sym (pairs_many codes count h) ∙ r.pairs),
        tests_count r.all r.small,
      )

  -- The tests are the places and the pairs,
  pub tests_kept : count ≤ 64 → sheet_tests r.all ≡ kept_tests words codes count
  tests_kept h =
      let pairs = kept_these (take count codes) (insert_all (sheet_codes r.all) []) (sym (pairs_these codes count h) ∙ r.pairs) in
      tests_split r.all r.small ∙ λ i. map place (sym r.places i) ++ map code_pair (sym pairs i)

  -- and so is their number.
  pub tests_number : count ≤ 64 → count ≤ length codes → tests ≡ length (places_in words) + count
  tests_number h within = ap length (tests_kept h) ∙ kept_count words codes count within

  ended : (b : Bool) → eqb bytes (length s) ≡ b
      → end_sheet arity (length s) (read_rules arity rules s) ≡ ask 10 b (took (3 + bytes) (record { arity = arity; rules = r.all }))
  ended b e =
      ap (end_sheet arity (length s)) r.read
      ∙ ap (λ (x : Bool). ask 10 x (took (3 + bytes) (record { arity = arity; rules = r.all }))) e

  abbrev checked : Reading Sheet
  checked = ask_tests (end_sheet arity (length s) (read_rules arity rules s))

  module _ (whole : bytes ≡ length s) where
    asked : (b : Bool) → leb tests most_tests ≡ b
        → checked ≡ ask 11 b (took (3 + bytes) (record { arity = arity; rules = r.all }))
    asked b e =
        ap ask_tests (ended true (eq-eqb bytes (length s) whole))
        ∙ ap (λ (x : Bool). ask 11 x (took (3 + bytes) (record { arity = arity; rules = r.all }))) e

    -- Question 11: there are more than 64 tests.
    pub check_many : 64 < tests → tests_found words codes (Err TooManyTests) ≡ sheet_found checked
    check_many h = sym (ap sheet_found (asked false (lt-leb tests 64 h)))

    -- All questions got a yes.
    pub check_accepted
        : tests ≤ 64 → count ≤ 64
        → record { refusal = 0; arity = arity; rules = rules; tests = kept_tests words codes count } ≡ sheet_found checked
    check_accepted h few =
        (λ i. record { refusal = 0; arity = arity; rules = sym r.many i; tests = sym (tests_kept few) i })
        ∙ sym (ap sheet_found (asked true (le-leb tests 64 h)))

-- The first record of a sheet.
module _ (s : List ℕ) where
  -- Where it is refused, so is the sheet.
  pub header_refused
      : (words codes : List ℕ) (x : Refusal) → refused (number x) ≡ read_header s
      → tests_found words codes (Err x) ≡ sheet_found (accept_sheet s)
  unfolding accept_sheet read_sheet
  header_refused words codes x e =
      ap (λ x. sheet_found (ask_tests (and_then x (λ a head. end_sheet head.arity (length s - a) (read_rules head.arity head.rule_count (drop a s)))))) e

  module _ {arity rules : ℕ} (e : took 3 (record { arity = arity; rule_count = rules }) ≡ read_header s) where
    -- Otherwise its 3 bytes are there, and the arity is at most 8.
    pub header_known : (3 ≤ length s) × (arity ≤ 8) × (rules ≤ 64)
    header_known = let is = header_is s (sym e) in (is.whole, is.few_arguments, omega (arith, is.few_rules))

    -- The sheet is checked by what follows.
    pub header_read_lem : accept_sheet s ≡ ask_tests (end_sheet arity (length s - 3) (read_rules arity rules (drop 3 s)))
    unfolding accept_sheet read_sheet
    header_read_lem =
        sym (ap (λ x. ask_tests (and_then x (λ a head. end_sheet head.arity (length s - a) (read_rules head.arity head.rule_count (drop a s))))) e)

-- A refusal that is handed on.
pub handed_on
    : (words codes : List ℕ) (result : Result TestsRead Refusal) (x : Refusal) {f : TestsFound} → IsErrAnd result (λ e. e ≡ x)
    → tests_found words codes (Err x) ≡ f → tests_found words codes result ≡ f
handed_on words codes (Ok t) x h k = absurd h
handed_on words codes (Err e) x h k = ap (λ (y : Refusal). tests_found words codes (Err y)) h ∙ k

-- What is found says what the check answers, where the sheet is accepted.
pub values_found : (x : Reading Sheet) → found_values (sheet_found x) ≡ sheet_values x
values_found (took k sheet) = refl
values_found (refused q) = refl

module _ (words codes : List ℕ) {r : Result TestsRead Refusal} {t : TestsRead} (same : r ≡ Ok t) (held : Held words codes r) where
  pub read_counted : (t.places ≡ length (places_in words)) × (t.places + t.pairs ≤ most_tests)
  read_counted = subst (CountsTests words) same held.counted

  pub check_yes
      : (x : Reading Sheet) → tests_found words codes r ≡ sheet_found x
      → sheet_check_values (Ok (record { arity = t.arity; rules = t.rules; tests = t.places + t.pairs })) ≡ sheet_values x
  check_yes x found =
      let within : t.pairs ≤ length codes = omega (arith, read_counted.1, held.all_codes) in
      let many : t.places + t.pairs ≡ length (kept_tests words codes t.pairs) =
      omega (arith, read_counted.0, kept_count words codes t.pairs within) in
      (λ i. record { refusal = 0; arity = t.arity; rules = t.rules; tests = many i })
      ∙ ap found_values (sym (ap (tests_found words codes) same) ∙ found)
      ∙ values_found x

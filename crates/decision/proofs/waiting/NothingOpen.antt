-- What a walk does not wait for: a test that is decided in the piece is in no list. So is none at record 35, and a piece in which
-- nothing is left to fill in waits for nothing: its list is empty over every graph, and it is never answered execute.
use Prim.Native.Nat.{ℕ, pred, ◌^◌, ◌<◌}
use mathlib.Core.Path.{◌≡◌, refl, ap, subst, ◌∙◌}
use mathlib.Core.Bool.{false, ◌&&◌, and-false}
use mathlib.Core.List.{List, [], ◌∷◌, ◌++◌}
use mathlib.Core.Option.{Option, some, none}
use lib.ListN.{length}
use lib.Pow.{pow_pos}
use Rattle.basics.proofs.AnyBelow.{any_none}
use Rattle.basics.proofs.Booleans.{not_so}
use Rattle.basics.proofs.Clash.{clash}
use Rattle.masks.specs.Mask.{has}
use Rattle.masks.proofs.Membership.{has_empty}
use Rattle.masks.proofs.Extensionality.{empty_ext, mask_of_lt, has_mask_of}
use Rattle.records.specs.Reading.{took, refused}
use Rattle.terms.specs.Term.{Terms, unknown, never, symbol, numbers, compound}
use Rattle.terms.specs.Pattern.{Patterns}
use Rattle.terms.specs.RuleTests.{Want}
use Rattle.terms.specs.Lookup.{Found, lacking, found, term_at}
use Rattle.terms.specs.Outcome.{Outcome, holds, not_known, contradicted, NotKnown, Contradicted, fits}
use Rattle.terms.specs.Outcome.{at_place, at_places, rule_outcome}
use Rattle.terms.specs.Filling.{Known, Knowns}
use Rattle.terms.specs.Answer.{execute, rule_at, only_rule}
use Rattle.terms.proofs.TermPlaces.{IfFound}
use Rattle.terms.proofs.Decided.{finds_known, want_decided, places_decided, rule_decided}
use Rattle.sheet_tests.specs.SheetTests.{Test, place, pair, sheet_tests}
use Rattle.decision.specs.Rules.{test_at, has_test, want_at}
use Rattle.decision.specs.Key.{Leaf, fail_node, suspend_node, execute_node}
use Rattle.decision.specs.Node.{Node}
use Rattle.decision.specs.Path.{Path, node_at, path}
use Rattle.decision.specs.Walk.{Walk, is_not_known, is_unknown, test_not_known, asks_test, want_outcome, test_outcome, execute_waits, live_on}
use Rattle.decision.specs.Walk.{waits_for, is_listed, listed_from, at_leaf, at_end, walk}
use Rattle.decision.proofs.waiting.SpanWaits.{not_known_is}

-- Where a test is decided the walk does not take it for not known.
decided_known : (x : Outcome) → (NotKnown x → ⊥) → is_not_known x ≡ false
decided_known x n = not_so (is_not_known x) (λ h. n (not_known_is x h))

contradicted_known : (x : Outcome) → Contradicted x → is_not_known x ≡ false
contradicted_known x c = decided_known x (λ n. not_both x n c)
  where
    not_both : (y : Outcome) → NotKnown y → Contradicted y → ⊥
    not_both holds k d = k
    not_both not_known k d = d
    not_both contradicted k d = k

known_not_unknown : (x : Found) → IfFound Known x → is_unknown x ≡ false
known_not_unknown lacking k = refl
known_not_unknown (found unknown) k = absurd k
known_not_unknown (found never) k = refl
known_not_unknown (found (symbol a)) k = refl
known_not_unknown (found (numbers a b)) k = refl
known_not_unknown (found (compound a ts)) k = refl

-- No execute, and an empty list.
abbrev pub WaitsForNothing : Walk → Type 0
WaitsForNothing w = (w.waits ≡ 0) × ((i : ℕ) → w.answer ≡ execute i → ⊥)

module _ (rules : List Patterns) (nodes : List (Node ℕ)) (piece : Terms) where
  abbrev tests : ℕ
  tests = length (sheet_tests rules)

  -- The test is decided in the piece, whatever a rule wants, and for each rule.
  pub record Decided (t : Test) : Type 0 where
    pub alone : test_not_known piece t ≡ false
    pub for_rule : (i : ℕ) → is_not_known (test_outcome rules piece i t) ≡ false

  -- A place test at record 35 is decided,
  pub never_decided : {n : ℕ} → term_at piece n ≡ found never → Decided (place n)
  never_decided {n} e = record { alone = ap is_unknown e; for_rule = λ i. (rw e) ∙ go (want_at rules i n) }
    where
      go : (w : Option Want) → is_not_known (want_outcome w (found never)) ≡ false
      go none = refl
      go (some w) = refl

  -- and so is a pair that is contradicted.
  pub pair_decided : {p q : ℕ} → Contradicted (at_places (term_at piece p) (term_at piece q)) → Decided (pair p q)
  pair_decided {p} {q} c =
      let known = contradicted_known (at_places (term_at piece p) (term_at piece q)) c in
      record { alone = known; for_rule = λ i. known }

  -- A test that is decided is not listed where it is met,
  module _ (t : ℕ) (decided : Decided (test_at rules t)) where
    unlisted : (before : List ℕ) → is_listed rules nodes piece before t ≡ false
    unlisted before =
        let nobody = any_none (length rules) (waits_for rules nodes piece before t)
        (λ i h. (rw (decided.for_rule i)) ∙ and-false (live_on rules nodes piece before i && has_test rules i t)) in
        (rw decided.alone) ∙ nobody

    listed_nowhere : (before ns : List ℕ) → listed_from rules nodes piece before ns t ≡ false
    listed_nowhere before [] = refl
    listed_nowhere before (n ∷ ns) =
        let asked = asks_test (test_at rules t) (node_at nodes n) in
        let here : asked && is_listed rules nodes piece before t ≡ false = (rw (unlisted before)) ∙ and-false asked in
        (rw here) ∙ listed_nowhere (before ++ n ∷ []) ns

    -- nor waited for at an execute,
    execute_unlisted : t < tests → (i : ℕ) (x : Outcome) → has (execute_waits rules piece i x) t ≡ false
    execute_unlisted inside i holds = has_empty t
    execute_unlisted inside i not_known =
        has_mask_of tests (λ u. has_test rules (pred i) u && is_not_known (test_outcome rules piece (pred i) (test_at rules u))) t inside
        ∙ (rw (decided.for_rule (pred i))) ∙ and-false (has_test rules (pred i) t)
    execute_unlisted inside i contradicted = has_empty t

    leaf_unlisted : t < tests → (walked : List ℕ) (l : Leaf) → has (at_leaf rules nodes piece walked l).waits t ≡ false
    leaf_unlisted inside walked fail_node = has_empty t
    leaf_unlisted inside walked suspend_node =
        has_mask_of tests (listed_from rules nodes piece [] walked) t inside ∙ listed_nowhere [] walked
    leaf_unlisted inside walked (execute_node i) = execute_unlisted inside i (rule_outcome (rule_at rules i) piece)

  -- What holds at every leaf holds of every walk that answers.
  at_leaves
      : (Q : Walk → Type 0) → ((walked : List ℕ) (l : Leaf) → Q (at_leaf rules nodes piece walked l))
      → {k : ℕ} {w : Walk} → walk rules nodes piece ≡ took k w → Q w
  at_leaves Q leaves {k} {w} e = go (path nodes piece) e
    where
      go : (p : Path) → at_end rules nodes piece p ≡ took k w → Q w
      go (refused q) d = clash (cc)
      go (took a way) d =
          let same : at_leaf rules nodes piece way.walked way.last ≡ w = cc in
          subst Q same (leaves way.walked way.last)

  -- so it is in no list of a walk.
  pub in_no_list
      : (t : ℕ) → t < tests → Decided (test_at rules t) → {k : ℕ} {w : Walk} → walk rules nodes piece ≡ took k w
      → has w.waits t ≡ false
  in_no_list t inside decided = at_leaves (λ (w : Walk). has w.waits t ≡ false) (leaf_unlisted t decided inside)

  -- A list has tests only.
  execute_within : (i : ℕ) (x : Outcome) → execute_waits rules piece i x < 2 ^ tests
  execute_within i holds = pow_pos tests
  execute_within i not_known =
      mask_of_lt tests (λ u. has_test rules (pred i) u && is_not_known (test_outcome rules piece (pred i) (test_at rules u)))
  execute_within i contradicted = pow_pos tests

  leaf_within : (walked : List ℕ) (l : Leaf) → (at_leaf rules nodes piece walked l).waits < 2 ^ tests
  leaf_within walked fail_node = pow_pos tests
  leaf_within walked suspend_node = mask_of_lt tests (listed_from rules nodes piece [] walked)
  leaf_within walked (execute_node i) = execute_within i (rule_outcome (rule_at rules i) piece)

  module _ (settled : Knowns piece) where
    -- Where nothing is left to fill in every test is decided,
    all_decided : (t : Test) → Decided t
    all_decided (place n) = record {
      alone = known_not_unknown (term_at piece n) (finds_known piece settled 4 n);
      for_rule = λ i. go (want_at rules i n);
    }
      where
        go : (w : Option Want) → is_not_known (want_outcome w (term_at piece n)) ≡ false
        go none = refl
        go (some w) = decided_known (at_place (fits w) (term_at piece n)) (want_decided piece settled w n)
    all_decided (pair p q) =
        let known = decided_known (at_places (term_at piece p) (term_at piece q)) (places_decided piece settled p q) in
        record { alone = known; for_rule = λ i. known }

    -- and a rule that is left alone is met or is not.
    only_decided : (i : ℕ) (x : Outcome) → (NotKnown x → ⊥) → (j : ℕ) → only_rule i x ≡ execute j → ⊥
    only_decided i holds n j e = clash (cc)
    only_decided i not_known n j e = n tt
    only_decided i contradicted n j e = clash (cc)

    no_execute : (walked : List ℕ) (l : Leaf) (j : ℕ) → (at_leaf rules nodes piece walked l).answer ≡ execute j → ⊥
    no_execute walked fail_node j e = clash (cc)
    no_execute walked suspend_node j e = clash (cc)
    no_execute walked (execute_node i) j e =
        only_decided i (rule_outcome (rule_at rules i) piece) (rule_decided piece settled (rule_at rules i)) j e

    -- So it is of every walk that answers.
    pub waits_for_nothing : {k : ℕ} {w : Walk} → walk rules nodes piece ≡ took k w → WaitsForNothing w
    waits_for_nothing =
        at_leaves WaitsForNothing (λ walked l.
        let none = empty_ext tests (at_leaf rules nodes piece walked l).waits (leaf_within walked l)
        (λ t inside. leaf_unlisted t (all_decided (test_at rules t)) inside walked l) in
        (none, no_execute walked l))

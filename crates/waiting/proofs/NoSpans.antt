-- Where no span is met, no place is listed for one: a place met whose span lies partly inside a range has a cell of several codes.
use Prim.Native.Nat.{ℕ, ◌/◌, ◌%◌}
use mathlib.Core.Path.{◌≡◌, sym, ap, subst, ◌∙◌}
use mathlib.Core.Bool.{Bool, true, false, ◌&&◌}
use mathlib.Core.List.{List, ◌∷◌}
use native.Mathlib.Decide.{ℕ_discrete}
use lib.Dec.{T, leb}
use lib.ListN.{get_or}
use Rattle.basics.specs.Lists.{All, Mem, any_of}
use Rattle.basics.proofs.Booleans.{is_true, true_left, true_right}
use Rattle.basics.proofs.Clash.{clash}
use Rattle.basics.proofs.Filters.{any_join, any_mem, mem_any}
use Rattle.basics.proofs.Positions.{mem_at}
use Rattle.terms.specs.Term.{Terms}
use Rattle.terms.specs.Pattern.{Patterns}
use Rattle.terms.specs.Outcome.{NotKnown}
use Rattle.terms.proofs.Outcomes.{known_decided}
use Rattle.terms.proofs.Spans.{inside_number}
use Rattle.sheet_tests.specs.SheetTests.{Test, place, sheet_tests}
use Rattle.decision.specs.Rules.{same_test, test_at}
use Rattle.decision.specs.Node.{Node}
use Rattle.decision.specs.Path.{node_at}
use Rattle.decision.specs.Walk.{asks_test}
use Rattle.decision.specs.Waiting.{IsTest}
use Rattle.decision.proofs.rules.TestsOfRules.{same_test_lem}
use Rattle.decision.proofs.waiting.SpanWaitsSentence.{PartlyMet}
use Rattle.path.specs.views.Following.{met_codes}
use Rattle.rule_masks.specs.views.TestNumbers.{code_test}
use Rattle.rule_masks.proofs.CodeNumbers.{code_place_lem, code_pair_lem}
use Rattle.waiting.specs.views.SpanTests.{is_span, span_at}
use Rattle.waiting.proofs.MetAsked.{Coded, met_asked}
use Rattle.waiting.proofs.CellsSay.{CellsSay}

-- The code of a place's test begins with the place.
code_spot : (c n : ℕ) → code_test c ≡ place n → c / 0x1_0000 ≡ n
code_spot c n e =
    elim (ℕ_discrete (c / 0x1_0000) (c % 0x1_0000)) [
      | yes same ↦ let is = sym (code_place_lem c same) ∙ e in cc
      | no apart ↦ let is = sym (code_pair_lem c apart) ∙ e in clash (cc)
    ]

module _ (rules : List Patterns) (piece : Terms) (cells : List ℕ) (say : CellsSay rules piece cells) (nodes : List (Node ℕ))
    (coded : All Coded nodes) where
  pub no_partly
      : (walked : List ℕ) → any_of (span_at cells) (met_codes nodes walked) ≡ false → (t : ℕ) → IsTest rules t
      → PartlyMet rules nodes piece walked t → ⊥
  no_partly walked free t inside p =
      let here = p.partly_inside in
      let asks : ℕ → Bool = λ n. asks_test (test_at rules t) (node_at nodes n) in
      let behind : T (any_of asks (p.node ∷ p.back)) = true_left (asks p.node) (any_of asks p.back) p.asked in
      let met : T (any_of asks walked) =
      subst (λ (l : List ℕ). T (any_of asks l)) (sym p.is_walked)
      (subst T (sym (any_join asks p.front (p.node ∷ p.back)))
      (true_right (any_of asks p.front) (any_of asks (p.node ∷ p.back)) behind)) in
      let code =
      any_mem (λ (c : ℕ). same_test (test_at rules t) (code_test c)) (met_codes nodes walked)
      (subst T (sym (met_asked (test_at rules t) nodes coded walked)) met) in
      let spot : code.0 / 0x1_0000 ≡ here.spot =
      code_spot code.0 here.spot (sym (same_test_lem (test_at rules t) (code_test code.0) code.2) ∙ here.asks) in
      let tested : Mem (place here.spot) (sheet_tests rules) =
      subst (λ (x : Test). Mem x (sheet_tests rules)) here.asks (mem_at (place 0) (sheet_tests rules) t inside) in
      let apart : here.lowest ≡ here.highest → ⊥ =
      λ e. known_decided (leb here.low here.lowest && leb here.lowest here.high)
      (subst NotKnown (inside_number here.low here.high here.lowest here.highest e) here.not_known) in
      let span : span_at cells code.0 ≡ true =
      ap (λ (n : ℕ). is_span (get_or cells n 0)) spot
      ∙ say.spans here.spot here.lowest here.highest tested here.span apart in
      subst T free (mem_any (span_at cells) code.1 (is_true span))

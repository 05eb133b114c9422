-- A case takes exactly the terms whose codes lie in its range, and is narrower than another where its range is, so the codes of a
-- term lead where the term does.
use Prim.Native.Nat.{ℕ, ◌<◌, ◌≤◌}
use mathlib.Core.Path.{◌≡◌, ap}
use mathlib.Core.Bool.{false, ◌&&◌, ◌||◌}
use mathlib.Core.Logic.{◌⊎◌, inl, inr}
use mathlib.Core.List.{List}
use native.Mathlib.Omega.{arith}
use lib.Dec.{T, leb, eqb}
use Rattle.basics.specs.Lists.{All}
use Rattle.basics.specs.Order.{pair_before}
use Rattle.basics.proofs.Booleans.{same_truth}
use Rattle.basics.proofs.Numbers.{both_le}
use Rattle.basics.proofs.Sorted.{pair_before_lem}
use Rattle.terms.specs.Term.{Term, count, unknown, never, symbol, numbers, compound}
use Rattle.terms.specs.RuleTests.{a_symbol, a_number, a_compound}
use Rattle.terms.specs.Filling.{WellFormed}
use Rattle.codes.specs.views.Codes.{symbol_code, compound_code, number_code, highest_code, term_low, term_high}
use Rattle.codes.proofs.CodeOrder.{in_order_lem, before, same_of_sort}
use Rattle.codes.proofs.FitCodes.{symbol_fits, compound_fits, never_fits, same_known}
use Rattle.codes.proofs.TermRuns.{ends_ordered}
use Rattle.decision.specs.Cases.{Case, symbols_case, compound_case, numbers_case, takes}
use Rattle.decision.specs.Narrowest.{narrower}
use Rattle.decision.specs.Node.{CaseEdge, leads_or, follow}
use Rattle.decision.specs.AcceptedGraph.{CaseFields}
use Rattle.decision.specs.views.CaseCodes.{case_low, case_high}
use Rattle.decision.proofs.cases.Best.{best_same}
use Rattle.number_search.specs.views.CodeCases.{takes_codes, narrower_codes, follow_code}

-- Codes that end behind a range do not lie in it.
ends_behind : (first last low high : ℕ) → last < high → leb first low && leb high last ≡ false
ends_behind first last low high h =
    same_truth (leb first low && leb high last) false (λ t. omega (arith, ((both_le first low high last).0 t).1, h)) (λ t. absurd t)

-- Nor do codes that begin before it.
begins_before : (first last low high : ℕ) → low < first → leb first low && leb high last ≡ false
begins_before first last low high h =
    same_truth (leb first low && leb high last) false (λ t. omega (arith, ((both_le first low high last).0 t).0, h)) (λ t. absurd t)

-- A case takes a term exactly where its range holds the term's codes: where a want of the same fits the term.
pub takes_codes_lem : (c : Case) (t : Term) → CaseFields c → WellFormed t → takes_codes c (term_low t) (term_high t) ≡ takes c t
takes_codes_lem (symbols_case l u) unknown h ok =
    ends_behind (symbol_code l) (symbol_code u) (symbol_code 0) highest_code (omega (arith, h.1))
takes_codes_lem (symbols_case l u) never h ok = same_known _ false (never_fits (a_symbol l u) h)
takes_codes_lem (symbols_case l u) (symbol b) h ok = same_known _ (leb l b && leb b u) (symbol_fits (a_symbol l u) b h ok)
takes_codes_lem (symbols_case l u) (numbers b c) h ok =
    ends_behind (symbol_code l) (symbol_code u) (number_code b) (number_code c) (omega (arith, h.1))
takes_codes_lem (symbols_case l u) (compound b ts) h ok =
    same_known _ false (compound_fits (a_symbol l u) b ts h ok.0 ok.2)
takes_codes_lem (compound_case a n) unknown h ok =
    ends_behind (compound_code a n) (compound_code a n) (symbol_code 0) highest_code (omega (arith, h.0, h.1))
takes_codes_lem (compound_case a n) never h ok = same_known _ false (never_fits (a_compound a n) h)
takes_codes_lem (compound_case a n) (symbol b) h ok = same_known _ false (symbol_fits (a_compound a n) b h ok)
takes_codes_lem (compound_case a n) (numbers b c) h ok =
    ends_behind (compound_code a n) (compound_code a n) (number_code b) (number_code c) (omega (arith, h.0, h.1))
takes_codes_lem (compound_case a n) (compound b ts) h ok =
    same_known _ (eqb a b && eqb n (count ts)) (compound_fits (a_compound a n) b ts h ok.0 ok.2)
takes_codes_lem (numbers_case l u) unknown h ok =
    begins_before (number_code l) (number_code u) (symbol_code 0) highest_code (omega arith)
takes_codes_lem (numbers_case l u) never h ok = same_known _ false (never_fits (a_number l u) (h.0, h.1))
takes_codes_lem (numbers_case l u) (symbol b) h ok = same_known _ false (symbol_fits (a_number l u) b (h.0, h.1) ok)
takes_codes_lem (numbers_case l u) (numbers b c) h ok = λ i. in_order_lem 0x3000000 l b i && in_order_lem 0x3000000 c u i
takes_codes_lem (numbers_case l u) (compound b ts) h ok =
    same_known _ false (compound_fits (a_number l u) b ts (h.0, h.1) ok.0 ok.2)

-- Numbers that are no pair in order come in no order.
out_of_order : (p q x y : ℕ) → ((p < x) ⊎ ((p ≡ x) × (q < y)) → ⊥) → pair_before p q x y ≡ false
out_of_order p q x y h = same_truth (pair_before p q x y) false (λ t. h (pair_before_lem p q x y t)) (λ t. absurd t)

-- The codes lie in the case's range.
abbrev HasCodes : Case → ℕ → ℕ → Type 0
HasCodes c low high = (case_low c ≤ low) × (high ≤ case_high c)

-- Of cases that hold the same codes one is narrower by its codes exactly where it is.
narrower_codes_lem
    : (low high : ℕ) → low ≤ high → (c d : Case) → CaseFields c → CaseFields d → HasCodes c low high → HasCodes d low high
    → narrower_codes c d ≡ narrower c d
narrower_codes_lem low high o (symbols_case l u) (symbols_case x y) f g h k =
    λ i. before 0x1000000 x l i || (same_of_sort 0x1000000 x l i && before 0x1000000 u y i)
narrower_codes_lem low high o (symbols_case l u) (compound_case b m) f g h k = absurd (omega (arith, f.1, h.1, k.0))
narrower_codes_lem low high o (symbols_case l u) (numbers_case x y) f g h k = absurd (omega (arith, f.1, h.1, k.0))
narrower_codes_lem low high o (compound_case a n) (symbols_case x y) f g h k = absurd (omega (arith, g.1, h.0, k.1))
narrower_codes_lem low high o (compound_case a n) (compound_case b m) f g h k =
    out_of_order (compound_code b m) (compound_code a n) (compound_code a n) (compound_code b m)
    (λ p. elim p [ inl l ↦ omega (arith, l, h.0, h.1, k.0, k.1) | inr r ↦ omega (arith, h.0, h.1, k.0, k.1, r.1) ])
narrower_codes_lem low high o (compound_case a n) (numbers_case x y) f g h k = absurd (omega (arith, f.0, f.1, h.1, k.0))
narrower_codes_lem low high o (numbers_case l u) (symbols_case x y) f g h k = absurd (omega (arith, g.1, h.0, k.1))
narrower_codes_lem low high o (numbers_case l u) (compound_case b m) f g h k = absurd (omega (arith, g.0, g.1, h.0, k.1))
narrower_codes_lem low high o (numbers_case l u) (numbers_case x y) f g h k =
    λ i. before 0x3000000 x l i || (same_of_sort 0x3000000 x l i && before 0x3000000 u y i)

-- So the codes of a term lead where the term does.
pub follow_codes
    : (cs : List (CaseEdge ℕ)) (neither : ℕ) (t : Term) → All (λ (c : CaseEdge ℕ). CaseFields c.case) cs → WellFormed t
    → follow_code cs neither (term_low t) (term_high t) ≡ follow cs neither t
follow_codes cs neither t h ok =
    let low = term_low t in
    let high = term_high t in
    let held : (c : Case) → T (takes_codes c low high) → HasCodes c low high =
    λ c k. (both_le (case_low c) low high (case_high c)).0 k in
    ap (leads_or neither)
    (best_same (λ (c : CaseEdge ℕ). CaseFields c.case) (λ c f. takes_codes_lem c.case t f ok)
    (λ c d f g k m. narrower_codes_lem low high (ends_ordered t ok) c.case d.case f g (held c.case k) (held d.case m)) cs h)

-- Cases ascend exactly when the rank of each range of codes exceeds the end of the one before.
use Prim.Native.Nat.{ℕ, ◌<◌}
use mathlib.Core.Path.{◌≡◌, refl, sym, ap, ap₂, ◌∙◌}
use mathlib.Core.Bool.{Bool, true, false, ◌&&◌}
use mathlib.Core.Logic.{◌⊎◌, inl, inr}
use mathlib.Core.List.{List, [], ◌∷◌}
use native.Mathlib.Omega.{arith}
use borrow.Author.Tests.{le-leb, lt-ltb, le-ltb, ltb-true, ltb-false}
use lib.Dec.{leb, ltb, ltb→lt, lt→ltb}
use Rattle.basics.specs.Lists.{All}
use Rattle.basics.specs.Order.{pair_before}
use Rattle.basics.proofs.Booleans.{same_truth}
use Rattle.basics.proofs.Sorted.{pair_before_lem, before_pair}
use Rattle.terms.specs.Term.{Gauged}
use Rattle.codes.specs.views.Codes.{symbol_code, compound_code, number_code}
use Rattle.codes.proofs.CodeOrder.{in_order_lem, before, compound_before}
use Rattle.decision.specs.Cases.{Case, symbols_case, compound_case, numbers_case}
use Rattle.decision.specs.Node.{CaseEdge}
use Rattle.decision.specs.AcceptedGraph.{CaseFields}
use Rattle.graph.specs.ReadGraph.{case_before, low_at_most_high, before_next, cases_ascend}
use Rattle.decision.specs.views.CaseCodes.{case_low, case_high}
use Rattle.node_check.specs.views.CaseRanges.{rank_of, case_end, comes_after}

-- The rank of a case.
abbrev pub case_rank : Case → ℕ
case_rank c = rank_of (case_low c) (case_high c)

-- A range begins behind a code exactly when its rank exceeds all ranks of ranges that begin there,
behind_rank : (u v w : ℕ) → w < 0x1_0000_0000 → ltb (rank_of u 0xffff_ffff) (rank_of v w) ≡ ltb u v
behind_rank u v w o =
    let end = rank_of u 0xffff_ffff in
    let rank = rank_of v w in
    same_truth (ltb end rank) (ltb u v) (λ t. lt→ltb u v (omega (arith, ltb→lt end rank t)))
    (λ t. lt→ltb end rank (omega (arith, ltb→lt u v t)))

-- and "number cases ascend by low, then high".
module _ (l h x y : ℕ) (small : Gauged h) (smallOther : Gauged y) where
  abbrev rank : ℕ
  rank = rank_of (number_code l) (number_code h)

  abbrev rank_other : ℕ
  rank_other = rank_of (number_code x) (number_code y)

  numbers_rank : ltb rank rank_other ≡ pair_before l h x y
  numbers_rank =
      same_truth (ltb rank rank_other) (pair_before l h x y) (λ t. before_pair l h x y (apart (ltb→lt rank rank_other t)))
      (λ t. lt→ltb rank rank_other (together (pair_before_lem l h x y t)))
    where
      apart : rank < rank_other → (l < x) ⊎ ((l ≡ x) × (h < y))
      apart lt = go (ltb l x) refl
        where
          go : (t : Bool) → ltb l x ≡ t → (l < x) ⊎ ((l ≡ x) × (h < y))
          go true e = inl (omega (arith, ltb-true l x e))
          go false e = inr (omega (arith, ltb-false l x e), omega (arith, ltb-false l x e))

      together : (l < x) ⊎ ((l ≡ x) × (h < y)) → rank < rank_other
      together (inl lt) = omega arith
      together (inr e) = omega (arith, e.0, e.1)

-- A case comes before another exactly when the other's rank exceeds its end.
before_codes : (c d : Case) → CaseFields c → CaseFields d → ltb (case_end c) (case_rank d) ≡ case_before c d
before_codes (symbols_case l u) (symbols_case x y) h k =
    behind_rank (symbol_code u) (symbol_code x) (symbol_code y) (omega (arith, k.1)) ∙ before 0x1000000 u x
before_codes (symbols_case l u) (compound_case b m) h k =
    lt-ltb (case_end (symbols_case l u)) (case_rank (compound_case b m)) (omega (arith, h.1))
before_codes (symbols_case l u) (numbers_case x y) h k =
    lt-ltb (case_end (symbols_case l u)) (case_rank (numbers_case x y)) (omega (arith, h.1))
before_codes (compound_case a n) (symbols_case x y) h k =
    le-ltb (case_end (compound_case a n)) (case_rank (symbols_case x y)) (omega (arith, k.0, k.1))
before_codes (compound_case a n) (compound_case b m) h k =
    behind_rank (compound_code a n) (compound_code b m) (compound_code b m) (omega (arith, k.0, k.1))
    ∙ compound_before a n b m h.1 k.1
before_codes (compound_case a n) (numbers_case x y) h k =
    lt-ltb (case_end (compound_case a n)) (case_rank (numbers_case x y)) (omega (arith, h.0, h.1))
before_codes (numbers_case l u) (symbols_case x y) h k =
    le-ltb (case_end (numbers_case l u)) (case_rank (symbols_case x y)) (omega (arith, k.0, k.1))
before_codes (numbers_case l u) (compound_case b m) h k =
    le-ltb (case_end (numbers_case l u)) (case_rank (compound_case b m)) (omega (arith, k.0, k.1))
before_codes (numbers_case l u) (numbers_case x y) h k = numbers_rank l u x y h.1 k.1

-- Low is at most high exactly when the first code is at most the last.
low_codes : (c : Case) → leb (case_low c) (case_high c) ≡ low_at_most_high c
low_codes (symbols_case l u) = in_order_lem 0x1000000 l u
low_codes (compound_case a n) = le-leb (compound_code a n) (compound_code a n) (omega arith)
low_codes (numbers_case l u) = in_order_lem 0x3000000 l u

-- The ranks of the cases exceed the ends before them, the first one an end.
abbrev pub ascend_after : ℕ → List (CaseEdge ℕ) → Bool
ascend_after end [] = true
ascend_after end (c ∷ cs) =
    comes_after end (case_low c.case) (case_high c.case) && ascend_after (case_end c.case) cs

abbrev AllFields : List (CaseEdge ℕ) → Type 0
AllFields = All (λ (c : CaseEdge ℕ). CaseFields c.case)

-- Three tests that are passed together.
pub and_assoc : (a b c : Bool) → (a && b) && c ≡ a && (b && c)
and_assoc true b c = refl
and_assoc false b c = refl

-- Cases that follow a case ascend after its end exactly when it comes before the next and they ascend.
after_case
    : (c : Case) (cs : List (CaseEdge ℕ)) → CaseFields c → AllFields cs
    → ascend_after (case_end c) cs ≡ before_next c cs && cases_ascend cs
after_case c [] h hs = refl
after_case c (d ∷ ds) h hs =
    let before = before_codes c d.case h hs.0 in
    let low = low_codes d.case in
    ap₂ (λ (x y : Bool). (x && y) && ascend_after (case_end d.case) ds) before low
    ∙ ap (λ (x : Bool). (case_before c d.case && low_at_most_high d.case) && x) (after_case d.case ds hs.0 hs.1)
    ∙ and_assoc (case_before c d.case) (low_at_most_high d.case) (before_next d.case ds && cases_ascend ds)
    ∙ ap (λ (x : Bool). case_before c d.case && x) (sym (and_assoc (low_at_most_high d.case) (before_next d.case ds) (cases_ascend ds)))

pub first_positive : (c : Case) → 0 < case_low c
first_positive (symbols_case l u) = omega arith
first_positive (compound_case a n) = omega arith
first_positive (numbers_case l u) = omega arith

-- Cases ascend exactly when they do so after 0, which is below the rank of every case.
pub ascend_codes : (cs : List (CaseEdge ℕ)) → AllFields cs → ascend_after 0 cs ≡ cases_ascend cs
ascend_codes [] hs = refl
ascend_codes (c ∷ cs) hs =
    ap₂ (λ (x y : Bool). (x && y) && ascend_after (case_end c.case) cs)
    (lt-ltb 0 (case_rank c.case) (omega (arith, first_positive c.case))) (low_codes c.case)
    ∙ ap (λ (x : Bool). low_at_most_high c.case && x) (after_case c.case cs hs.0 hs.1)
    ∙ sym (and_assoc (low_at_most_high c.case) (before_next c.case cs) (cases_ascend cs))

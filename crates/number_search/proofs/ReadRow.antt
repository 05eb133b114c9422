-- What is read behind a number case are number cases, one each 8 bytes, and so they stand in a row.
use Prim.Native.Nat.{ℕ, zero, suc, ◌+◌, ◌*◌, ◌<◌, ◌≤◌}
use mathlib.Core.Path.{◌≡◌, refl, ap, subst, ◌∙◌}
use mathlib.Core.Bool.{Bool, true, false}
use mathlib.Core.Logic.{inl, inr}
use mathlib.Core.List.{List, [], ◌∷◌}
use native.Mathlib.Omega.{arith}
use lib.Dec.{T, leb, eqb}
use lib.ListN.{length, get_or, drop, length-drop}
use lib.Seq.{get_or-drop}
use Rattle.basics.specs.Lists.{All}
use Rattle.basics.specs.Order.{pair_before}
use Rattle.basics.proofs.Sorted.{pair_before_lem}
use Rattle.records.specs.Fields.{wide_at}
use Rattle.records.proofs.Rows.{row_none}
use Rattle.decision.specs.Cases.{Case, symbols_case, compound_case, numbers_case}
use Rattle.decision.specs.Node.{CaseEdge}
use Rattle.decision.specs.AcceptedGraph.{CaseFields}
use Rattle.decision.specs.views.CaseCodes.{case_low, case_high}
use Rattle.graph.specs.declared.CaseRecord.{CaseRecord}
use Rattle.graph.specs.declared.CaseRecord.TheVariants.{Symbols, Compound, Numbers}
use Rattle.std.specs.Prelude.{Result, Ok, Err}
use Rattle.records.specs.declared.refusal.Refusal.{Refusal}
use Rattle.graph.specs.views.NodeRecord.{whole_case, case_head}
use Rattle.graph.specs.ReadGraph.{read_cases, read_case}
use Rattle.graph.specs.views.Rewriting.{IsTook, read_or}
use Rattle.graph.proofs.SpelledCases.{kind_holds}
use Rattle.graph.proofs.RowsLeft.{row_there, others_left, first_others}
use Rattle.node_check.specs.views.CaseRanges.{range_of}
use Rattle.node_check.proofs.CasesPass.{case_fits, case_refused}
use Rattle.node_check.proofs.CopiedRecords.{edge_of, edge_read}
use Rattle.number_search.specs.views.CodeCases.{CodesAscend, CasesInOrder}
use Rattle.number_search.specs.views.NumberRows.{high_at, numbers_at, firsts, NumbersRead, CasesStand}
use Rattle.number_search.proofs.WideFields.{wide_behind}
use Rattle.number_search.proofs.FirstOfRow.{firsts_at}

-- A case of numbers.
abbrev pub IsNumbers : Case → Type 0
IsNumbers (symbols_case l h) = ⊥
IsNumbers (compound_case a n) = ⊥
IsNumbers (numbers_case l h) = Unit

abbrev pub AreNumbers : List (CaseEdge ℕ) → Type 0
AreNumbers cs = All (λ (c : CaseEdge ℕ). IsNumbers c.case) cs

-- A case that does not begin below a number's code is one.
begins_there : (l : ℕ) (c : Case) → CaseFields c → 0x3000000 + l ≤ case_low c → IsNumbers c
begins_there l (symbols_case x y) f h = omega (arith, f.0, h)
begins_there l (compound_case a n) f h = omega (arith, f.0, f.1, h)
begins_there l (numbers_case x y) f h = tt

-- Behind a case of numbers there is no other.
pub numbers_behind : (c : CaseEdge ℕ) (cs : List (CaseEdge ℕ)) → IsNumbers c.case → CasesInOrder (c ∷ cs) → AreNumbers (c ∷ cs)
numbers_behind c cs is ordered = (is, go c.case is cs ordered.fields.1 ordered.ascend.0)
  where
    go
        : (d : Case) → IsNumbers d → (xs : List (CaseEdge ℕ)) → All (λ (x : CaseEdge ℕ). CaseFields x.case) xs
        → All (λ (x : CaseEdge ℕ). T (pair_before (case_low d) (case_high d) (case_low x.case) (case_high x.case))) xs
        → AreNumbers xs
    go d is [] f a = tt
    go (numbers_case l h) is (x ∷ xs) f a = (
      begins_there l x.case f.0
          (elim
          (pair_before_lem (case_low (numbers_case l h)) (case_high (numbers_case l h)) (case_low x.case) (case_high x.case) a.0)
          [ inl m ↦ omega (arith, m) | inr m ↦ omega (arith, m.0) ]),
      go (numbers_case l h) is xs f.1 a.1,
    )
    go (symbols_case l h) is (x ∷ xs) f a = absurd is
    go (compound_case b n) is (x ∷ xs) f a = absurd is

-- The fields that the head of a number case tells.
abbrev Fields : List ℕ → Result CaseRecord Refusal → Type 0
Fields s (Ok (Numbers l h n g)) = edge_of (Numbers l h n g) ≡ edge_of (Numbers (wide_at s 2) (wide_at s 4) (wide_at s 6) (get_or s 1 0))
Fields s (Ok (Symbols l h n)) = Unit
Fields s (Ok (Compound a k n)) = Unit
Fields s (Err r) = Unit

fields_told : (s : List ℕ) → Fields s (case_head s)
fields_told s =
    kind_holds (Fields s) (eqb (length s) 0) (λ e. tt)
    (kind_holds (Fields s) (eqb (get_or s 0 0) 0x44)
    (λ k. symbols (leb 7 (length s)))
    (kind_holds (Fields s) (eqb (get_or s 0 0) 0x45)
    (λ k. compound (leb 6 (length s)))
    (kind_holds (Fields s) (eqb (get_or s 0 0) 0x46) (λ k. numbers (leb 8 (length s))) tt)))
  where
    symbols : (b : Bool) → Fields s (whole_case b (Symbols (wide_at s 1) (wide_at s 3) (wide_at s 5)))
    symbols true = tt
    symbols false = tt

    compound : (b : Bool) → Fields s (whole_case b (Compound (wide_at s 1) (get_or s 3 0) (wide_at s 4)))
    compound true = tt
    compound false = tt

    numbers : (b : Bool) → Fields s (whole_case b (Numbers (wide_at s 2) (wide_at s 4) (wide_at s 6) (get_or s 1 0)))
    numbers true = refl
    numbers false = tt

module _ (s : List ℕ) where
  numbers_at_lem : (at g l h n : ℕ) → case_head (drop at s) ≡ Ok (Numbers l h n g) → edge_of (Numbers l h n g) ≡ numbers_at s at
  numbers_at_lem at g l h n e =
      subst (Fields (drop at s)) e (fields_told (drop at s))
      ∙ (λ i. edge_of (Numbers (wide_behind s at 2 i) (wide_behind s at 4 i) (wide_behind s at 6 i) (get_or-drop at s 1 0 i)))

  -- Number cases that are read stand one each 8 bytes.
  pub record Rowed (at m : ℕ) : Type 0 where
    pub inside : at + m * 8 ≤ length s
    pub read : read_or [] (read_cases m (drop at s)) ≡ firsts (λ (i : ℕ). numbers_at s (at + i * 8)) m

  -- With one more in front.
  abbrev Onward : ℕ → ℕ → Type 0
  Onward m at =
      at ≤ length s → IsTook (read_cases m (drop at s)) → AreNumbers (read_or [] (read_cases m (drop at s))) → Rowed at m

  module _ (m at : ℕ) (there : at ≤ length s) (left : IsTook (read_cases (suc m) (drop at s)))
      (onward : Onward m (at + 8)) where
    one_more
        : (c : CaseRecord) → case_head (drop at s) ≡ Ok c → IsNumbers (edge_of c).case
        → AreNumbers (read_or [] (read_cases m (drop (at + (range_of c).bytes) s))) → Rowed at (suc m)
    one_more (Symbols l h n) e is others = absurd is
    one_more (Compound a k n) e is others = absurd is
    one_more (Numbers l h n g) e is others =
        let read = edge_read (drop at s) (Numbers l h n g) e in
        let inside : at + 8 ≤ length s = omega (arith, case_fits (drop at s) e, length-drop at s, there) in
        let next = onward inside (others_left read_case s (suc m) m at refl left read) others in
        let first : at ≡ at + 0 * 8 = omega arith in
        let shift : (i : ℕ) → at + 8 + i * 8 ≡ at + suc i * 8 = λ i. omega arith in
        record {
          inside = omega (arith, next.inside);
          read = first_others read_case s (suc m) m at refl left read
              ∙ (λ j. numbers_at_lem at g l h n e j ∷ next.read j)
              ∙ (λ j. numbers_at s (first j) ∷ firsts (λ (i : ℕ). numbers_at s (shift i j)) m);
        }

    by_head
        : AreNumbers (read_or [] (read_cases (suc m) (drop at s))) → (head : Result CaseRecord Refusal)
        → case_head (drop at s) ≡ head → Rowed at (suc m)
    by_head are (Err r) e = absurd (row_there read_case s (suc m) m at refl left (case_refused (drop at s) e))
    by_head are (Ok c) e =
        let read = edge_read (drop at s) c e in
        let both = subst AreNumbers (first_others read_case s (suc m) m at refl left read) are in
        one_more c e both.0 both.1

  rowed : (m at : ℕ) → Onward m at
  rowed zero at there left are = record {
    inside = omega (arith, there);
    read = ap (read_or []) (row_none [] ◌∷◌ read_case zero (drop at s) refl);
  }
  rowed (suc m) at there left are = by_head m at there left (rowed m (at + 8)) are (case_head (drop at s)) refl

  -- Things in a row that ascend do so two by two.
  ascend_at
      : (f : ℕ → CaseEdge ℕ) (n i j : ℕ) → i < j → j < n → CodesAscend (firsts f n)
      → T (pair_before (case_low (f i).case) (case_high (f i).case) (case_low (f j).case) (case_high (f j).case))
  ascend_at f zero i j l k h = absurd (omega (arith, k))
  ascend_at f (suc n) i zero l k h = absurd (omega (arith, l))
  ascend_at f (suc n) zero (suc j) l k h =
      firsts_at
      (λ (d : CaseEdge ℕ). T (pair_before (case_low (f 0).case) (case_high (f 0).case) (case_low d.case) (case_high d.case)))
      (λ (m : ℕ). f (suc m)) n j (omega (arith, k)) h.0
  ascend_at f (suc n) (suc i) (suc j) l k h =
      ascend_at (λ (m : ℕ). f (suc m)) n i j (omega (arith, l)) (omega (arith, k)) h.1

  -- So cases of which the first is one of numbers stand in a row.
  pub numbers_read : (at m : ℕ) → CasesStand s at m → AreNumbers (read_or [] (read_cases m (drop at s))) → NumbersRead s at m
  numbers_read at m stand are =
      let all = rowed m at stand.begins stand.whole are in
      let row : ℕ → CaseEdge ℕ = λ i. numbers_at s (at + i * 8) in
      let ordered = subst CasesInOrder all.read stand.ordered in
      let high : (i : ℕ) → i < m → high_at s (at + i * 8) < 0x4000000 =
      λ i l. (let f = firsts_at (λ (c : CaseEdge ℕ). CaseFields c.case) row m i l ordered.fields in omega (arith, f.1)) in
      record {
        row = record {
          inside = all.inside;
          bounded = high;
          ascend = λ i j l k. (let c = (row i).case in
              let d = (row j).case in
              elim (pair_before_lem (case_low c) (case_high c) (case_low d) (case_high d) (ascend_at row m i j l k ordered.ascend)) [
                | inl b ↦ omega (arith, b, high i (omega (arith, l, k)))
                | inr b ↦ omega (arith, b.0, b.1)
              ]);
        };
        gauges = λ i l.
            let f = firsts_at (λ (c : CaseEdge ℕ). CaseFields c.case) row m i l ordered.fields in omega (arith, f.2);
        read = all.read;
      }

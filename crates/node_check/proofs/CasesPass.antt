-- One pass over the cases of a switch: what was found so far and the cases still to be read give what all cases give.
use Prim.Native.Nat.{ℕ, ◌+◌, ◌-◌, ◌<◌, ◌≤◌}
use mathlib.Core.Path.{◌≡◌, refl, sym, ap, subst, ◌∙◌}
use mathlib.Core.Bool.{Bool, true, false, ◌&&◌}
use mathlib.Core.List.{List, [], ◌∷◌}
use native.Mathlib.Omega.{arith}
use native.Mathlib.Nat.{add_assoc}
use lib.Dec.{T, leb, ltb, eqb, leb→le}
use lib.ListN.{length, get_or, drop}
use lib.Seq.{drop-drop}
use Rattle.std.specs.Prelude.{Result, Ok, Err}
use Rattle.records.specs.Fields.{IsByte, wide_at}
use Rattle.records.specs.Refusals.{number}
use Rattle.records.specs.declared.refusal.Refusal.{Refusal}
use Rattle.records.specs.Reading.{Reading, took, refused, map_reading, after}
use Rattle.records.proofs.Rows.{row_none, row_refused, row_next}
use Rattle.basics.specs.Lists.{All}
use Rattle.terms.specs.Term.{on_gauge}
use Rattle.decision.specs.Cases.{symbols_case, compound_case, numbers_case}
use Rattle.decision.specs.Node.{CaseEdge}
use Rattle.decision.specs.GraphBytes.{cases_bytes}
use Rattle.graph.specs.declared.CaseRecord.{CaseRecord}
use Rattle.graph.specs.declared.CaseRecord.TheVariants.{Symbols, Compound, Numbers}
use Rattle.graph.specs.views.NodeRecord.{whole_case, case_head}
use Rattle.graph.specs.ReadGraph.{read_cases, edge, all_inside, read_case}
use Rattle.decision.specs.views.CaseCodes.{case_low, case_high}
use Rattle.node_check.specs.views.CaseRanges.{case_end, comes_after, range_of, CasesFound, cases_found}
use Rattle.graph.proofs.Spelling.{Reads, GoodRow}
use Rattle.graph.proofs.SpelledCases.{kind_holds, EdgeFields, cases_spelled}
use Rattle.graph.proofs.AcceptedNodes.{fields_of_lem}
use Rattle.node_check.proofs.CodeOrder.{ascend_after, ascend_codes, and_assoc}
use Rattle.graph.proofs.ByKinds.{case_read_by}

-- What the head of a case says of its bytes: they are there, or question 22 got a no.
abbrev pub HeadFits : List ℕ → Result CaseRecord Refusal → Type 0
HeadFits s (Ok c) = (range_of c).bytes ≤ length s
HeadFits s (Err r) = 22 ≡ number r

pub head_fits : (s : List ℕ) → HeadFits s (case_head s)
head_fits s =
    kind_holds (HeadFits s) (eqb (length s) 0) (λ e. refl)
    (kind_holds (HeadFits s) (eqb (get_or s 0 0) 0x44)
    (λ k. whole (leb 7 (length s)) (Symbols (wide_at s 1) (wide_at s 3) (wide_at s 5)) (leb→le 7 (length s)))
    (kind_holds (HeadFits s) (eqb (get_or s 0 0) 0x45)
    (λ k. whole (leb 6 (length s)) (Compound (wide_at s 1) (get_or s 3 0) (wide_at s 4)) (leb→le 6 (length s)))
    (kind_holds (HeadFits s) (eqb (get_or s 0 0) 0x46)
    (λ k. whole (leb 8 (length s)) (Numbers (wide_at s 2) (wide_at s 4) (wide_at s 6) (get_or s 1 0)) (leb→le 8 (length s))) refl)))
  where
    whole : (b : Bool) (c : CaseRecord) → (T b → (range_of c).bytes ≤ length s) → HeadFits s (whole_case b c)
    whole true c f = f tt
    whole false c f = refl

-- The bytes of a whole case are there.
pub case_fits : (s : List ℕ) {c : CaseRecord} → case_head s ≡ Ok c → (range_of c).bytes ≤ length s
case_fits s e = subst (HeadFits s) e (head_fits s)

-- A case that is not whole is refused by question 22.
pub case_refused : (s : List ℕ) {r : Refusal} → case_head s ≡ Err r → read_case s ≡ refused 22
case_refused s e = case_read_by s e ∙ ap refused (sym (subst (HeadFits s) e (head_fits s)))

module _ (nodes : ℕ) where
  -- What all cases give where at bytes were read before, the last case had this end, and this was found of them.
  abbrev pub resume : ℕ → ℕ → Bool → Bool → Reading (List (CaseEdge ℕ)) → Reading CasesFound
  resume at end inside ascend (took b cs) =
      took (at + b) (record { inside = inside && all_inside nodes cs; ascend = ascend && ascend_after end cs })
  resume at end inside ascend (refused q) = refused q

  -- Before the first case nothing was found.
  pub pass_starts
      : (count : ℕ) (s : List ℕ) → All IsByte s
      → map_reading (cases_found nodes) (read_cases count s) ≡ resume 0 0 true true (read_cases (count - 0) (drop 0 s))
  pass_starts count s h =
      let none : count - 0 ≡ count = omega arith in
      go (read_cases count s) ((cases_spelled count).read s h) ∙ ap (λ (n : ℕ). resume 0 0 true true (read_cases n s)) (sym none)
    where
      go
          : (r : Reading (List (CaseEdge ℕ))) → Reads cases_bytes (GoodRow EdgeFields count) s r
          → map_reading (cases_found nodes) r ≡ resume 0 0 true true r
      go (took b cs) row =
          let size : b ≡ 0 + b = omega arith in
          let order = sym (ascend_codes cs (fields_of_lem cs row.good.1)) in
          λ i. took (size i) (record { inside = all_inside nodes cs; ascend = order i })
      go (refused q) row = refl

  -- One more case goes from what is to be read to what was found.
  resume_next
      : (at end : ℕ) (inside ascend : Bool) (a : ℕ) (c : CaseEdge ℕ) (r : Reading (List (CaseEdge ℕ)))
      → resume at end inside ascend (after a (◌∷◌ c) r)
      ≡ resume (at + a) (case_end c.case) (inside && ltb c.target nodes)
      (ascend && comes_after end (case_low c.case) (case_high c.case)) r
  resume_next at end inside ascend a c (took b cs) =
      let size : at + (a + b) ≡ at + a + b = sym (add_assoc at a b) in
      let in_range_lem = sym (and_assoc inside (ltb c.target nodes) (all_inside nodes cs)) in
      let after-end = comes_after end (case_low c.case) (case_high c.case) in
      let in_order_lem = sym (and_assoc ascend after-end (ascend_after (case_end c.case) cs)) in
      λ i. took (size i) (record { inside = in_range_lem i; ascend = in_order_lem i })
  resume_next at end inside ascend a c (refused q) = refl

  module _ (count : ℕ) (s : List ℕ) (i at end : ℕ) (inside ascend : Bool) (more : i < count) where
    abbrev Going : Reading CasesFound → Type 0
    Going next = resume at end inside ascend (read_cases (count - i) (drop at s)) ≡ next

    some_left : count - i ≡ 0 → ⊥
    some_left e = omega arith

    read_next
        : (a : ℕ) (c : CaseEdge ℕ) → read_case (drop at s) ≡ took a c
        → Going
        (resume (at + a) (case_end c.case) (inside && ltb c.target nodes)
        (ascend && comes_after end (case_low c.case) (case_high c.case))
        (read_cases (count - (i + 1)) (drop (at + a) s)))
    read_next a c e =
        let fewer : count - i - 1 ≡ count - (i + 1) = omega arith in
        ap (resume at end inside ascend) (row_next [] ◌∷◌ read_case (count - i) (drop at s) some_left e)
        ∙ resume_next at end inside ascend a c (read_cases (count - i - 1) (drop a (drop at s)))
        ∙ (λ j.
        resume (at + a) (case_end c.case) (inside && ltb c.target nodes)
        (ascend && comes_after end (case_low c.case) (case_high c.case))
        (read_cases (fewer j) (drop-drop a at s j)))

    -- A whole case is passed.
    pub pass_next
        : (c : CaseRecord) → case_head (drop at s) ≡ Ok c
        → Going
        (resume (at + (range_of c).bytes) (range_of c).end (inside && ltb (range_of c).node nodes)
        (ascend && comes_after end (range_of c).first (range_of c).last)
        (read_cases (count - (i + 1)) (drop (at + (range_of c).bytes) s)))
    pass_next (Symbols l h n) e = read_next 7 (edge (symbols_case l h) n) (case_read_by (drop at s) e)
    pass_next (Compound a k n) e = read_next 6 (edge (compound_case a k) n) (case_read_by (drop at s) e)
    pass_next (Numbers l h n g) e =
        read_next 8 (edge (numbers_case (on_gauge g l) (on_gauge g h)) n) (case_read_by (drop at s) e)

    -- At a case that is not whole the pass is refused.
    pub pass_refused : {r : Refusal} → case_head (drop at s) ≡ Err r → Going (refused (number r))
    pass_refused e =
        ap (resume at end inside ascend)
        (row_refused [] ◌∷◌ read_case (count - i) (drop at s) some_left (case_read_by (drop at s) e))

  -- After the last case all was found.
  pub pass_ends
      : (count : ℕ) (s : List ℕ) (i at end : ℕ) (inside ascend : Bool) → count ≤ i
      → resume at end inside ascend (read_cases (count - i) (drop at s)) ≡ took at (record { inside = inside; ascend = ascend })
  pass_ends count s i at end inside ascend h =
      let none : at + 0 ≡ at = omega arith in
      ap (resume at end inside ascend)
      (row_none [] ◌∷◌ read_case (count - i) (drop at s) (omega arith))
      ∙ (λ j. took (none j) (record { inside = and_true inside j; ascend = and_true ascend j }))
    where
      and_true : (b : Bool) → b && true ≡ b
      and_true true = refl
      and_true false = refl

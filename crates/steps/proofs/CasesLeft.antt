-- The cases of a switch are read one after another: with the best so far those that are left lead where all do.
use Prim.Native.Nat.{ℕ, suc, ◌+◌, ◌-◌, ◌<◌, ◌≤◌}
use mathlib.Core.Path.{◌≡◌, refl, sym, ap, subst, ◌∙◌}
use mathlib.Core.Bool.{Bool, true, false, ◌&&◌, cond}
use mathlib.Core.List.{List, [], ◌∷◌}
use native.Mathlib.Omega.{arith}
use lib.Dec.{leb, ltb}
use borrow.Author.Tests.{lt-ltb, le-ltb}
use lib.ListN.{length, drop, length-drop}
use Rattle.records.specs.Reading.{took}
use Rattle.records.proofs.Rows.{row_none}
use Rattle.decision.specs.views.CaseCodes.{case_low, case_high}
use Rattle.graph.specs.declared.CaseRecord.{CaseRecord}
use Rattle.graph.specs.declared.CaseRecord.TheVariants.{Symbols, Compound, Numbers}
use Rattle.std.specs.Prelude.{Ok, Err}
use Rattle.records.specs.declared.refusal.Refusal.{Refusal}
use Rattle.graph.specs.views.NodeRecord.{case_head}
use Rattle.graph.specs.ReadGraph.{read_cases, read_case}
use Rattle.graph.specs.views.Rewriting.{IsTook, read_or}
use Rattle.node_check.specs.declared.CaseRange.{CaseRange}
use Rattle.node_check.specs.views.CaseRanges.{range_of}
use Rattle.node_check.proofs.CasesPass.{case_fits, case_refused}
use Rattle.node_check.proofs.CopiedRecords.{edge_of, edge_read}
use Rattle.graph.proofs.RowsLeft.{row_there, others_left, first_others}
use Rattle.steps.proofs.NarrowestPass.{pass_from, pass_follows}
use Rattle.number_search.specs.views.CodeCases.{follow_code, CodesAscend}

-- A record's range is that of its case, and leads where the case does.
by_range
    : {A : Type 0} (c : CaseRecord) (f : ℕ → ℕ → ℕ → A)
    → f (case_low (edge_of c).case) (case_high (edge_of c).case) (edge_of c).target
    ≡ f (range_of c).first (range_of c).last (range_of c).node
by_range (Symbols l h n) f = refl
by_range (Compound a k n) f = refl
by_range (Numbers l h n g) f = refl

module _ (s : List ℕ) (neither low high : ℕ) where
  -- Where a pass over the cases, so many, that are read from a position leads, of which the best so far begins and leads so.
  abbrev pub leads_from : ℕ → ℕ → ℕ → ℕ → ℕ
  leads_from begun node n at = pass_from low high begun node (read_or [] (read_cases n (drop at s)))

  -- Of count cases from start on i were passed, up to a position: with the best of them those that are left lead where all do.
  pub record Passed (start count at i begun node : ℕ) : Type 0 where
    pub fewer : i ≤ count
    pub there : at ≤ length s
    pub left : IsTook (read_cases (count - i) (drop at s))
    pub leads : leads_from 0 neither count start ≡ leads_from begun node (count - i) at

  -- Before the first.
  pub passed_starts
      : (start count : ℕ) → start ≤ length s → IsTook (read_cases count (drop start s)) → Passed start count start 0 0 neither
  passed_starts start count there left =
      let none : count ≡ count - 0 = omega arith in
      record {
        fewer = omega arith;
        there = there;
        left = subst (λ (n : ℕ). IsTook (read_cases n (drop start s))) none left;
        leads = ap (λ (n : ℕ). leads_from 0 neither n start) none;
      }

  module _ {start count at i begun node : ℕ} (p : Passed start count at i begun node)
      (ascend : CodesAscend (read_or [] (read_cases count (drop start s)))) where
    abbrev all : ℕ
    all = follow_code (read_or [] (read_cases count (drop start s))) neither low high

    by_pass : leads_from begun node (count - i) at ≡ all
    by_pass = sym p.leads ∙ pass_follows low high neither (read_or [] (read_cases count (drop start s))) ascend

    -- After the last, the best of them is the best of all.
    pub passed_ends : count ≤ i → node ≡ all
    passed_ends done =
        sym (ap (λ r. pass_from low high begun node (read_or [] r)) (row_none [] ◌∷◌ read_case (count - i) (drop at s) (omega arith)))
        ∙ by_pass

    module _ (next : i < count) where
      more : count - i ≡ suc (count - (i + 1))
      more = omega arith

      -- The next case is whole.
      pub passed_whole : {r : Refusal} → case_head (drop at s) ≡ Err r → ⊥
      passed_whole e =
          row_there read_case s (count - i) (count - (i + 1)) at more p.left (case_refused (drop at s) e)

      module _ (c : CaseRecord) (e : case_head (drop at s) ≡ Ok c) where
        read : read_case (drop at s) ≡ took (range_of c).bytes (edge_of c)
        read = edge_read (drop at s) c e

        -- The pass goes on with it: it begins above the lowest code, or is found to be better, or not.
        abbrev onward : Bool → Bool → ℕ
        onward above found =
            cond above node
            (cond found (leads_from (range_of c).first (range_of c).node (count - (i + 1)) (at + (range_of c).bytes))
            (leads_from begun node (count - (i + 1)) (at + (range_of c).bytes)))

        goes_on
            : leads_from begun node (count - i) at
            ≡ onward (ltb low (range_of c).first) (ltb begun (range_of c).first && leb high (range_of c).last)
        goes_on =
            ap (pass_from low high begun node) (first_others read_case s (count - i) (count - (i + 1)) at more p.left read)
            ∙ by_range c (λ first last next.
            cond (ltb low first) node
            (cond (ltb begun first && leb high last) (leads_from first next (count - (i + 1)) (at + (range_of c).bytes))
            (leads_from begun node (count - (i + 1)) (at + (range_of c).bytes))))

        inside : at + (range_of c).bytes ≤ length s
        inside = omega (arith, case_fits (drop at s) e, length-drop at s, p.there)

        passed_by_lem
            : {from to : ℕ} → leads_from begun node (count - i) at ≡ leads_from from to (count - (i + 1)) (at + (range_of c).bytes)
            → Passed start count (at + (range_of c).bytes) (i + 1) from to
        passed_by_lem leads = record {
          fewer = omega arith;
          there = inside;
          left = others_left read_case s (count - i) (count - (i + 1)) at more p.left read;
          leads = p.leads ∙ leads;
        }

        -- Its range, as it was told.
        module _ {r : CaseRange} (is : r ≡ range_of c) where
          -- Its bytes are there.
          pub passed_inside : at + r.bytes ≤ length s
          passed_inside = subst (λ (x : CaseRange). at + x.bytes ≤ length s) (sym is) inside

          -- It begins above the lowest code, and the best so far is the best of all;
          pub passed_above : low < r.first → node ≡ all
          passed_above =
              subst (λ (x : CaseRange). low < x.first → node ≡ all) (sym is)
              (λ above.
              sym
              (goes_on
              ∙ ap (λ (b : Bool). onward b (ltb begun (range_of c).first && leb high (range_of c).last))
              (lt-ltb low (range_of c).first above))
              ∙ by_pass)

          -- it takes the codes and begins after the best so far, and is the best now;
          pub passed_better
              : {from to : ℕ} → r.first ≤ low → ltb begun r.first && leb high r.last ≡ true → from ≡ r.first → to ≡ r.node
              → Passed start count (at + r.bytes) (i + 1) from to
          passed_better {from} {to} =
              subst
              (λ (x : CaseRange).
              x.first ≤ low → ltb begun x.first && leb high x.last ≡ true → from ≡ x.first → to ≡ x.node
              → Passed start count (at + x.bytes) (i + 1) from to)
              (sym is)
              (λ low_enough found begins leads.
              rw (begins, leads)
              (passed_by_lem (goes_on ∙ (λ j. onward (le-ltb low (range_of c).first low_enough j) (found j)))))

          -- or the best so far stays.
          pub passed_still
              : {from to : ℕ} → r.first ≤ low → ltb begun r.first && leb high r.last ≡ false → from ≡ begun → to ≡ node
              → Passed start count (at + r.bytes) (i + 1) from to
          passed_still {from} {to} =
              subst
              (λ (x : CaseRange).
              x.first ≤ low → ltb begun x.first && leb high x.last ≡ false → from ≡ begun → to ≡ node
              → Passed start count (at + x.bytes) (i + 1) from to)
              (sym is)
              (λ low_enough found begins leads.
              rw (begins, leads)
              (passed_by_lem (goes_on ∙ (λ j. onward (le-ltb low (range_of c).first low_enough j) (found j)))))

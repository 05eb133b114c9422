-- Symbols and compounds end below a number's code, so the cases behind them lead where all do.
use Prim.Native.Nat.{ℕ, suc, ◌+◌, ◌-◌, ◌<◌, ◌≤◌}
use mathlib.Core.Path.{◌≡◌, sym, ap, subst, ◌∙◌}
use mathlib.Core.Bool.{Bool, false, ◌&&◌}
use mathlib.Core.Logic.{inl, inr}
use mathlib.Core.List.{List, [], ◌∷◌}
use native.Mathlib.Omega.{arith}
use lib.Dec.{T, leb}
use lib.ListN.{length, drop, length-drop}
use Rattle.basics.specs.Lists.{there}
use Rattle.basics.specs.Order.{pair_before}
use Rattle.basics.proofs.Booleans.{same_truth}
use Rattle.basics.proofs.ListLaws.{all_at}
use Rattle.basics.proofs.Numbers.{both_le}
use Rattle.basics.proofs.Sorted.{pair_before_lem}
use Rattle.records.specs.Reading.{took}
use Rattle.records.proofs.Rows.{row_none}
use Rattle.decision.specs.Narrowest.{better, best}
use Rattle.decision.specs.Node.{CaseEdge, leads_or}
use Rattle.decision.specs.AcceptedGraph.{CaseFields}
use Rattle.decision.specs.views.CaseCodes.{case_low, case_high}
use Rattle.graph.specs.declared.CaseRecord.{CaseRecord}
use Rattle.graph.specs.declared.CaseRecord.TheVariants.{Symbols, Compound, Numbers}
use Rattle.std.specs.Prelude.{Option, Some, None, Ok, Err}
use Rattle.records.specs.declared.refusal.Refusal.{Refusal}
use Rattle.graph.specs.views.NodeRecord.{case_head}
use Rattle.graph.specs.ReadGraph.{read_cases, read_case}
use Rattle.graph.specs.views.Rewriting.{read_or}
use Rattle.graph.proofs.RowsLeft.{row_there, others_left, first_others}
use Rattle.node_check.specs.declared.CaseRange.{CaseRange}
use Rattle.node_check.specs.views.CaseRanges.{range_of}
use Rattle.node_check.proofs.CasesPass.{case_fits, case_refused}
use Rattle.node_check.proofs.CopiedRecords.{edge_of, edge_read}
use Rattle.number_search.specs.views.CodeCases.{takes_codes, narrower_codes, follow_code, CodesAscend, CasesInOrder}
use Rattle.number_search.specs.views.NumberRows.{NumbersRead, CasesStand, Missed, SoughtRight}
use Rattle.number_search.proofs.ReadRow.{IsNumbers, AreNumbers, numbers_behind, numbers_read}

-- A record that begins at a number's code is one of numbers.
numbers_from : (c : CaseRecord) → CaseFields (edge_of c).case → 0x3000000 ≤ (range_of c).first → IsNumbers (edge_of c).case
numbers_from (Symbols l h n) fields o = omega (arith, fields.0, o)
numbers_from (Compound a k n) fields o = omega (arith, fields.0, fields.1, o)
numbers_from (Numbers l h n g) fields o = tt

-- Any other ends below a number's code.
others_below : (c : CaseRecord) → CaseFields (edge_of c).case → (range_of c).first < 0x3000000 → case_high (edge_of c).case < 0x3000000
others_below (Symbols l h n) fields other = omega (arith, fields.1)
others_below (Compound a k n) fields other = omega (arith, fields.0, fields.1)
others_below (Numbers l h n g) fields other = absurd (omega (arith, other))

module _ (s : List ℕ) (low high neither : ℕ) where
  -- Where the cases, so many from a position on, lead.
  abbrev leads : ℕ → ℕ → ℕ
  leads n at = follow_code (read_or [] (read_cases n (drop at s))) neither low high

  -- Of them those that begin highest miss the codes.
  abbrev misses : ℕ → ℕ → Type 0
  misses n at = Missed (read_or [] (read_cases n (drop at s))) low high

  -- A case that ends below the codes takes none of them,
  not_taken
      : (c : CaseEdge ℕ) (cs : List (CaseEdge ℕ)) → case_high c.case < high
      → follow_code (c ∷ cs) neither low high ≡ follow_code cs neither low high
  not_taken c cs below =
      let first = case_low c.case in
      let last = case_high c.case in
      ap
      (λ (b : Bool).
      leads_or neither
      (better (λ (x y : CaseEdge ℕ). narrower_codes x.case y.case) b c
      (best (λ (x : CaseEdge ℕ). takes_codes x.case low high) (λ (x y : CaseEdge ℕ). narrower_codes x.case y.case) cs)))
      (same_truth (leb first low && leb high last) false (λ t. omega (arith, ((both_le first low high last).0 t).1, below))
      (λ t. absurd t))

  -- and where those behind it miss the codes it changes nothing.
  missed_before
      : (c : CaseEdge ℕ) (cs : List (CaseEdge ℕ)) → case_high c.case < high → CodesAscend (c ∷ cs) → Missed cs low high
      → Missed (c ∷ cs) low high
  missed_before c cs below ascend m =
      let lower : case_low c.case ≤ case_low m.begun.case =
      elim
      (pair_before_lem (case_low c.case) (case_high c.case) (case_low m.begun.case) (case_high m.begun.case)
      (all_at
      (λ (d : CaseEdge ℕ). T (pair_before (case_low c.case) (case_high c.case) (case_low d.case) (case_high d.case)))
      m.listed ascend.0))
      [ inl l ↦ omega (arith, l) | inr r ↦ omega (arith, r.0) ] in
      record {
        begun = m.begun;
        listed = there m.listed;
        not_above = m.not_above;
        gauge_reached = m.gauge_reached;
        highest = (λ l. lower, m.highest);
        ended = (λ e. below, m.ended);
      }

  -- Of count cases from start on i were passed, up to a position.
  pub record Passed (start count at i : ℕ) : Type 0 where
    pub fewer : i ≤ count
    pub stand : CasesStand s at (count - i)
    pub same : leads count start ≡ leads (count - i) at
    pub missed : misses (count - i) at → misses count start

  -- Before the first.
  pub passed_starts : (start count : ℕ) → CasesStand s start count → Passed start count start 0
  passed_starts start count stand =
      let none : count ≡ count - 0 = omega arith in
      record {
        fewer = omega arith;
        stand = subst (CasesStand s start) none stand;
        same = ap (λ (n : ℕ). leads n start) none;
        missed = subst (λ (n : ℕ). misses n start) (sym none);
      }

  module _ {start count at i : ℕ} (p : Passed start count at i) where
    -- After the last, none was taken.
    pub passed_ends : count ≤ i → leads count start ≡ neither
    passed_ends done =
        p.same
        ∙ ap (λ r. follow_code (read_or [] r) neither low high) (row_none [] ◌∷◌ read_case (count - i) (drop at s) (omega arith))

    -- What is so of those that are left is so of all.
    pub passed_sought
        : (r : Option ℕ) → SoughtRight s at (count - i) low high neither r → SoughtRight s start count low high neither r
    passed_sought (Some n) h = p.same ∙ h
    passed_sought None h = p.missed h

    -- The next case is whole.
    pub passed_whole : i < count → {r : Refusal} → case_head (drop at s) ≡ Err r → ⊥
    passed_whole next e =
        row_there read_case s (count - i) (count - (i + 1)) at (omega arith) p.stand.whole (case_refused (drop at s) e)

    module _ (next : i < count) (c : CaseRecord) (e : case_head (drop at s) ≡ Ok c) where
      more : count - i ≡ suc (count - (i + 1))
      more = omega arith

      read : read_case (drop at s) ≡ took (range_of c).bytes (edge_of c)
      read = edge_read (drop at s) c e

      abbrev others : List (CaseEdge ℕ)
      others = read_or [] (read_cases (count - (i + 1)) (drop (at + (range_of c).bytes) s))

      first_is : read_or [] (read_cases (count - i) (drop at s)) ≡ edge_of c ∷ others
      first_is = first_others read_case s (count - i) (count - (i + 1)) at more p.stand.whole read

      in_order_lem : CasesInOrder (edge_of c ∷ others)
      in_order_lem = subst CasesInOrder first_is p.stand.ordered

      inside : at + (range_of c).bytes ≤ length s
      inside = omega (arith, case_fits (drop at s) e, length-drop at s, p.stand.begins)

      -- Its range, as it was told.
      module _ {r : CaseRange} (is : r ≡ range_of c) where
        -- Its bytes are there.
        pub passed_inside : at + r.bytes ≤ length s
        passed_inside = subst (λ (x : CaseRange). at + x.bytes ≤ length s) (sym is) inside

        -- It is one of numbers, and so are those behind it;
        pub passed_numbers : 0x3000000 ≤ r.first → NumbersRead s at (count - i)
        passed_numbers from =
            let begins : 0x3000000 ≤ (range_of c).first = subst (λ (x : CaseRange). 0x3000000 ≤ x.first) is from in
            numbers_read s at (count - i) p.stand
            (subst AreNumbers (sym first_is)
            (numbers_behind (edge_of c) others (numbers_from c in_order_lem.fields.0 begins) in_order_lem))

        -- or it ends below the codes, and is passed.
        pub passed_on : 0x3000000 ≤ high → r.first < 0x3000000 → Passed start count (at + r.bytes) (i + 1)
        passed_on number =
            subst (λ (x : CaseRange). x.first < 0x3000000 → Passed start count (at + x.bytes) (i + 1)) (sym is)
            (λ other.
            let below : case_high (edge_of c).case < high = omega (arith, others_below c in_order_lem.fields.0 other, number) in
            record {
              fewer = omega (arith, next);
              stand = record {
                begins = inside;
                whole = others_left read_case s (count - i) (count - (i + 1)) at more p.stand.whole read;
                ordered = record { fields = in_order_lem.fields.1; ascend = in_order_lem.ascend.1 };
              };
              same = p.same
                  ∙ ap (λ (cs : List (CaseEdge ℕ)). follow_code cs neither low high) first_is
                  ∙ not_taken (edge_of c) others below;
              missed = λ m. p.missed
                  (subst (λ (cs : List (CaseEdge ℕ)). Missed cs low high) (sym first_is)
                  (missed_before (edge_of c) others below in_order_lem.ascend m));
            })

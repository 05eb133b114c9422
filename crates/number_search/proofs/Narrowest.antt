-- The case that two searches find in a row is the narrowest of those that take the codes.
use Prim.Native.Nat.{ℕ, ◌+◌, ◌*◌, ◌-◌, ◌/◌, ◌<◌, ◌≤◌}
use mathlib.Core.Path.{◌≡◌, ap, sym, subst, ◌∙◌}
use mathlib.Core.Bool.{Bool}
use mathlib.Core.Logic.{inl, inr}
use mathlib.Core.List.{List, []}
use mathlib.Core.Option.{Option, some, none}
use native.Mathlib.Omega.{arith}
use lib.Dec.{T, leb, ltb, le→leb}
use lib.ListN.{drop}
use borrow.Author.Tests.{ltb-true, ltb-false}
use Rattle.basics.proofs.Booleans.{by_test, true_both}
use Rattle.basics.proofs.Numbers.{both_le}
use Rattle.basics.proofs.Sorted.{pair_before_lem, before_pair}
use Rattle.records.specs.Fields.{wide_at}
use Rattle.terms.specs.Term.{gauge_of}
use Rattle.decision.specs.Narrowest.{best}
use Rattle.decision.specs.Node.{CaseEdge, leads_or}
use Rattle.decision.specs.views.CaseCodes.{case_low, case_high}
use Rattle.graph.specs.ReadGraph.{read_cases}
use Rattle.graph.specs.views.Rewriting.{read_or}
use Rattle.number_search.specs.views.CodeCases.{takes_codes, narrower_codes, follow_code}
use Rattle.number_search.specs.views.NumberRows.{low_at, high_at, rank_at, numbers_at, firsts, CountBefore, NumbersRead, Missed}
use Rattle.number_search.proofs.FirstOfRow.{firsts_all, firsts_mem, best_of_none, best_at}
use Rattle.number_search.proofs.Halving.{row_order}

module _ {s : List ℕ} {start count : ℕ} (all : NumbersRead s start count) (low high neither : ℕ) where
  abbrev case_at : ℕ → CaseEdge ℕ
  case_at i = numbers_at s (start + i * 8)

  abbrev first : ℕ → ℕ
  first i = low_at s (start + i * 8)

  abbrev last : ℕ → ℕ
  last i = high_at s (start + i * 8)

  abbrev taken : CaseEdge ℕ → Bool
  taken c = takes_codes c.case low high

  abbrev before : CaseEdge ℕ → CaseEdge ℕ → Bool
  before c d = narrower_codes c.case d.case

  taken_says : (i : ℕ) → T (taken (case_at i)) → (first i ≤ low) × (high ≤ last i)
  taken_says i t = (both_le (first i) low high (last i)).0 t

  -- So many cases begin at most at low.
  module _ {begun : ℕ} (b : CountBefore s start count (low * 0x100000000 + 0xffffffff) begun) where
    -- Those behind them begin above it.
    above : (i : ℕ) → begun ≤ i → i < count → low < first i
    above i l k = omega (arith, b.others i l k, all.row.bounded i k)

    follows
        : (o : Option (CaseEdge ℕ)) → best taken before (firsts case_at count) ≡ o
        → follow_code (read_or [] (read_cases count (drop start s))) neither low high ≡ leads_or neither o
    follows o e = ap (λ cs. follow_code cs neither low high) all.read ∙ ap (leads_or neither) e

    -- Where there is none, none is taken.
    pub none_begun : begun ≡ 0 → follow_code (read_or [] (read_cases count (drop start s))) neither low high ≡ neither
    none_begun e =
        follows none
        (best_of_none taken before (firsts case_at count)
        (firsts_all (λ (c : CaseEdge ℕ). T (taken c) → ⊥) case_at count
        (λ i k t. omega (arith, (taken_says i t).0, above i (omega (arith, e)) k))))

    -- The code at which the last of them begins.
    pub last_begins : 1 ≤ begun → rank_at s (start + (begun - 1) * 8) / 0x100000000 ≡ first (begun - 1)
    last_begins some-begun = omega (arith, all.row.bounded (begun - 1) (omega (arith, some-begun, b.few)))

    module _ (some-begun : 1 ≤ begun) {code : ℕ} (is : code ≡ first (begun - 1)) where
      in_row : (i : ℕ) → i < begun → i < count
      in_row i l = omega (arith, l, b.few)

      last_in_row : begun - 1 < count
      last_in_row = in_row (begun - 1) (omega (arith, some-begun))

      -- Cases up to the last of them begin at most where it does.
      not_above_lem : (i : ℕ) → i < begun → first i ≤ code
      not_above_lem i l =
          omega (
            arith,
            is,
            row_order all.row i (begun - 1) (omega (arith, l)) last_in_row,
            all.row.bounded (begun - 1) last_in_row,
          )

      -- Where it is on a gauge below the high's, none is taken: each ends on the gauge that it begins on.
      pub lower_gauge
          : gauge_of code < gauge_of high → follow_code (read_or [] (read_cases count (drop start s))) neither low high ≡ neither
      lower_gauge lower =
          follows none
          (best_of_none taken before (firsts case_at count)
          (firsts_all (λ (c : CaseEdge ℕ). T (taken c) → ⊥) case_at count (λ i k t.
          let says = taken_says i t in
          by_test (ltb i begun)
          (λ e. omega (arith, lower, says.1, all.gauges i k, not_above_lem i (ltb-true i begun e)))
          (λ e. omega (arith, says.0, above i (ltb-false i begun e) k)))))

      module _ {found : ℕ} (f : CountBefore s start begun (code * 0x100000000 + high) found) where
        -- Where no case that begins there ends at high or above, those that begin highest miss the codes.
        pub found_missed
            : gauge_of high ≤ gauge_of code → found ≡ begun → Missed (read_or [] (read_cases count (drop start s))) low high
        found_missed reached every =
            subst (λ (cs : List (CaseEdge ℕ)). Missed cs low high) (sym all.read)
            (record {
              begun = case_at (begun - 1);
              listed = firsts_mem case_at count (begun - 1) last_in_row;
              not_above = omega (arith, b.before (begun - 1) (omega (arith, some-begun)));
              gauge_reached = subst (λ (n : ℕ). gauge_of high ≤ gauge_of n) is reached;
              highest =
                  firsts_all (λ (d : CaseEdge ℕ). case_low d.case ≤ low → case_low d.case ≤ first (begun - 1)) case_at count
                  highest;
              ended =
                  firsts_all (λ (d : CaseEdge ℕ). case_low d.case ≡ first (begun - 1) → case_high d.case < high) case_at count
                  ended;
            })
          where
            highest : (i : ℕ) → i < count → first i ≤ low → first i ≤ first (begun - 1)
            highest i k h =
                by_test (ltb i begun)
                (λ e. omega (arith, is, not_above_lem i (ltb-true i begun e)))
                (λ e. absurd (omega (arith, h, above i (ltb-false i begun e) k)))

            ended : (i : ℕ) → i < count → first i ≡ first (begun - 1) → last i < high
            ended i k same =
                by_test (ltb i begun)
                (λ e. omega (arith, is, same, f.before i (omega (arith, every, ltb-true i begun e))))
                (λ e.
                absurd
                (omega (
                  arith,
                  same,
                  above i (ltb-false i begun e) k,
                  b.before (begun - 1) (omega (arith, some-begun)),
                )))

        module _ (hit : found < begun) where
          begins : first found ≡ code
          begins =
              omega (
                arith,
                not_above_lem found hit,
                f.others found (omega arith) hit,
                all.row.bounded found (in_row found hit),
              )

          ends : high ≤ last found
          ends = omega (arith, begins, f.others found (omega arith) hit)

          low_enough : first found ≤ low
          low_enough = omega (arith, b.before found hit)

          found_taken : T (taken (case_at found))
          found_taken =
              true_both (leb (first found) low) (leb high (last found)) (le→leb (first found) low low_enough)
              (le→leb high (last found) ends)

          -- Those in front of it that are taken begin lower,
          front : (i : ℕ) → i < found → T (taken (case_at i)) → T (before (case_at found) (case_at i))
          front i l t =
              before_pair (first i) (last found) (first found) (last i)
              (inl (omega (arith, begins, f.before i l, (taken_says i t).1, not_above_lem i (omega (arith, l, hit)))))

          -- and those behind it that are taken begin there and end higher.
          behind : (i : ℕ) → found < i → i < count → T (taken (case_at i)) → T (before (case_at i) (case_at found)) → ⊥
          behind i l k t h =
              by_test (ltb i begun)
              (λ e.
              let near = ltb-true i begun e in
              let later = all.row.ascend found i l k in
              elim (pair_before_lem (first found) (last i) (first i) (last found) h) [
                | inl m ↦ omega (arith, m, begins, not_above_lem i near)
                | inr m ↦ omega (arith, m.0, m.1, later)
              ])
              (λ e. omega (arith, (taken_says i t).0, above i (ltb-false i begun e) k))

          -- It is the narrowest.
          pub found_leads
              : follow_code (read_or [] (read_cases count (drop start s))) neither low high ≡ wide_at s (start + found * 8 + 6)
          found_leads =
              follows (some (case_at found))
              (best_at taken before case_at count found (in_row found hit) found_taken front behind)

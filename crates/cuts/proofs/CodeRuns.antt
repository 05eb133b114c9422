-- The cases of the symbols and compounds that are wanted are the runs between their cuts, a compound's of one code.
use Prim.Native.Nat.{ℕ, suc, ◌-◌, ◌≤◌, ◌<◌}
use mathlib.Core.Path.{◌≡◌, refl, sym, ap, subst}
use mathlib.Core.Logic.{inl, inr}
use mathlib.Core.List.{List, map}
use native.Mathlib.Omega.{arith}
use Rattle.basics.specs.Lists.{Mem, All}
use Rattle.terms.specs.RuleTests.{Want, a_symbol, a_compound, Range}
use Rattle.basics.proofs.ListLaws.{all_at, all_from, all-always, all_map}
use Rattle.basics.proofs.Sorted.{AscendingBy, same_members}
use Rattle.decision.specs.Cases.{Case, compound_case, series_of, symbols_in}
use Rattle.decision.specs.Runs.{cuts, between, covers, is_covered, runs}
use Rattle.decision.specs.AcceptedGraph.{CaseBefore}
use Rattle.basics.proofs.Filters.{mem_map, all_mapped, filter_mem, any_mem}
use Rattle.basics.proofs.Ascent.{ascending_map}
use Rattle.decision.proofs.cases.Intervals.{Contains, EndsBefore, Uncut, in_one_only}
use Rattle.decision.proofs.cases.RangeRuns as ranges
use Rattle.decision.proofs.cases.RangeRuns.{CutBy, cut_wanted, wanted_cut, run_between, run_wanted, in_run}
use Rattle.decision.proofs.cases.RangeOrder.{ascending_imply, range_order, Filled, in_order_lem}
use Rattle.decision.proofs.cases.CaseList.{id_runs, name_cases, names_all, symbols_named, compound_named, names_ascend}
use Rattle.decision.proofs.cases.WantedRanges.{series_wanted, wanted_series}
use Rattle.decision.proofs.cases.IdRuns.{id_runs_inside}
use Rattle.codes.specs.views.Codes.{symbol_code, want_low, want_high, SoundWant}
use Rattle.decision.specs.views.CaseCodes.{case_low, case_high}
use Rattle.cuts.proofs.CodeRanges.{want_range, case_range, NameFields, names_fields, case_before_lem}
use Rattle.cuts.proofs.NameCodes.{name_wants, name_wants_all, symbol_name, compound_name}
use Rattle.basics.proofs.Numbers.{le_or_lt, both_le}

module _ (ws : List Want) (sound : All SoundWant ws) where
  abbrev names : List Want
  names = name_wants ws

  abbrev wanted : List Range
  wanted = map want_range names

  -- A wanted low code is a cut, and so is the code after a wanted high one.
  want_cut : {w : Want} → Mem w names → (z : ℕ) → CutBy (want_range w) z → Mem z (cuts wanted)
  want_cut m z d = wanted_cut (mem_map want_range m) z d

  -- A case that begins and ends at cuts, with no cut inside, is a run if its first code is wanted.
  uncut_run
      : (c : Case) (w : Want) → Mem w names → Contains (want_range w) (case_low c) → case_low c ≤ case_high c
      → Mem (case_low c) (cuts wanted) → Mem (suc (case_high c)) (cuts wanted)
      → All (Uncut (case_range c)) (cuts wanted) → Mem (case_range c) (runs wanted)
  uncut_run c w m k o begins ends uncut =
      let r = in_run wanted (want_range w) (case_low c) (mem_map want_range m) k in
      let b = run_between wanted r.0 r.1 in
      let first = all_at (Uncut r.0) begins b.uncut in
      let last = all_at (Uncut r.0) ends b.uncut in
      let end = all_at (Uncut (case_range c)) b.ends uncut in
      let low : r.0.low ≡ case_low c =
      elim first [ inl p ↦ omega (arith, r.2.0) | inr p ↦ omega (arith, r.2.1) ] in
      let high : r.0.high ≡ case_high c =
      elim last [
        | inl p ↦ omega (arith, r.2.0)
        | inr p ↦ elim end [ inl q ↦ omega (arith, r.2.1) | inr q ↦ omega arith ]
      ] in
      subst (λ (s : Range). Mem s (runs wanted)) (λ i. record { low = low i; high = high i }) r.1

  -- A case of one code is a run.
  compound_run : (c : Case) (w : Want) → Mem w names → want_range w ≡ case_range c → case_low c ≡ case_high c
      → Mem (case_range c) (runs wanted)
  compound_run c w m e o =
      let low : want_low w ≡ case_low c = ap (λ (r : Range). r.low) e in
      let high : want_high w ≡ case_high c = ap (λ (r : Range). r.high) e in
      uncut_run c w m (omega arith, omega arith) (omega arith) (want_cut m (case_low c) (inl (sym low)))
      (want_cut m (suc (case_high c)) (inr (ap suc (sym high))))
      (all-always (Uncut (case_range c))
      (λ z. elim (le_or_lt z (case_low c)) [ inl p ↦ inl p | inr p ↦ inr (omega arith) ]) (cuts wanted))

  -- A cut of the wanted series is one of the symbols' codes, and the other cuts are above these.
  series_cut : (z : ℕ) → Mem z (cuts (series_of ws)) → Mem (symbol_code z) (cuts wanted)
  series_cut z m =
      let c = cut_wanted (series_of ws) z m in
      want_cut (symbol_name (series_wanted ws c.0 c.1)) (symbol_code z)
      (elim c.2 [ inl e ↦ inl (omega arith) | inr e ↦ inr (omega arith) ])

  symbols_uncut : (r : Range) → Mem r (id_runs ws) → All (Uncut (case_range (symbols_in r))) (cuts wanted)
  symbols_uncut r m =
      let b = run_between (series_of ws) r m in
      let within = id_runs_inside ws sound r m in
      let Apart : Range → Type 0 = λ s. (z : ℕ) → CutBy s z → Uncut (case_range (symbols_in r)) z in
      let each = all_mapped Apart want_range names
      (name_wants_all ws (λ (w : Want). Apart (want_range w))
      (λ l h k z d.
      let cut : (x : ℕ) → CutBy (record { low = l; high = h }) x → Uncut r x =
      λ x e. all_at (Uncut r) (wanted_cut (wanted_series k) x e) b.uncut in
      elim d [
        | inl e ↦ elim (cut l (inl refl)) [ inl p ↦ inl (omega arith) | inr p ↦ inr (omega arith) ]
        | inr e ↦ elim (cut (suc h) (inr refl)) [ inl p ↦ inl (omega arith) | inr p ↦ inr (omega arith) ]
      ])
      (λ a n k z d. inr (elim d [ inl e ↦ omega (arith, within.2) | inr e ↦ omega (arith, within.2) ]))) in
      all_from (Uncut (case_range (symbols_in r))) (cuts wanted)
      (λ z k. let c = cut_wanted wanted z k in all_at Apart c.1 each z c.2)

  -- A run of ids is a run of codes.
  symbols_run : (r : Range) → Mem r (id_runs ws) → Mem (case_range (symbols_in r)) (runs wanted)
  symbols_run r m =
      let b = run_between (series_of ws) r m in
      let w = run_wanted (series_of ws) r m in
      let s = (both_le w.0.low r.low r.high w.0.high).0 w.2 in
      let next : symbol_code (suc r.high) ≡ suc (symbol_code r.high) = omega arith in
      uncut_run (symbols_in r) (a_symbol w.0.low w.0.high) (symbol_name (series_wanted ws w.0 w.1))
      (omega (arith, s.0), omega (arith, s.1, b.ordered)) (omega (arith, b.ordered)) (series_cut r.low b.begins)
      (subst (λ (z : ℕ). Mem z (cuts wanted)) next (series_cut (suc r.high) b.ends)) (symbols_uncut r m)

  -- Each case of a name is a run,
  pub names_in_runs : All (λ (c : Case). Mem (case_range c) (runs wanted)) (name_cases ws)
  names_in_runs =
      names_all ws (λ (c : Case). Mem (case_range c) (runs wanted)) symbols_run
      (λ a n m. compound_run (compound_case a n) (a_compound a n) (compound_name m) refl refl)

  module _ (r : Range) (m : Mem r (runs wanted)) where
    -- A case that has the first code of a run is that run,
    same_run : (c : Case) → Mem c (name_cases ws) → Contains (case_range c) r.low → Mem r (map case_range (name_cases ws))
    same_run c k h =
        let b = run_between wanted r m in
        let InRuns : Case → Type 0 = λ d. Mem (case_range d) (runs wanted) in
        let e =
        in_one_only (runs wanted) (ranges.runs_ascend wanted) (case_range c) r r.low
        (all_at InRuns k names_in_runs) m h (omega arith, b.ordered) in
        subst (λ (s : Range). Mem s (map case_range (name_cases ws))) e (mem_map case_range k)

    -- and what is wanted at its first code has such a case:
    series_names
        : (l h : ℕ) → Mem (a_symbol l h) ws → Contains (want_range (a_symbol l h)) r.low → Mem r (map case_range (name_cases ws))
    series_names l h k c =
        let id = r.low - 0x100_0000 in
        let series : Range = record { low = l; high = h } in
        let q = in_run (series_of ws) series id (wanted_series k) (omega (arith, c.0), omega (arith, c.1)) in
        same_run (symbols_in q.0) (symbols_named ws q.0 q.1) (omega (arith, c.0, q.2.0), omega (arith, c.0, q.2.1))

    -- so each run is a case.
    run_in_names : Mem r (map case_range (name_cases ws))
    run_in_names =
        let b = run_between wanted r m in
        let covered = (filter_mem (is_covered wanted) (between (cuts wanted)) m).1 in
        let w = any_mem (λ (s : Range). covers s r) wanted covered in
        let Goal : Range → Type 0 = λ s. Contains s r.low → Mem r (map case_range (name_cases ws)) in
        let each = all_mapped Goal want_range names
        (name_wants_all ws (λ (v : Want). Goal (want_range v)) series_names
        (λ a n k. same_run (compound_case a n) (compound_named ws a n k))) in
        let s = (both_le w.0.low r.low r.high w.0.high).0 w.2 in
        all_at Goal w.1 each (s.0, omega (arith, s.1, b.ordered))

  -- Each case ends before the next begins.
  codes_in_order : AscendingBy (λ (c : Case) (d : Case). case_high c < case_low d) (name_cases ws)
  codes_in_order =
      ascending_imply NameFields CaseBefore (λ (c : Case) (d : Case). case_high c < case_low d) case_before_lem (name_cases ws)
      (names_fields ws sound) (names_ascend ws)

  -- The cases, as ranges of codes, are the runs between neighbouring cuts that a want covers, in this order.
  pub names_are_runs : map case_range (name_cases ws) ≡ runs wanted
  names_are_runs =
      let cs = map case_range (name_cases ws) in
      let inRuns : All (λ (r : Range). Mem r (runs wanted)) cs =
      all_mapped (λ (r : Range). Mem r (runs wanted)) case_range (name_cases ws) names_in_runs in
      let ascend : AscendingBy EndsBefore cs = ascending_map EndsBefore case_range (name_cases ws) codes_in_order in
      let filled : (r : Range) → Mem r (runs wanted) → Filled r = λ r m. (run_between wanted r m).ordered in
      same_members range_order cs (runs wanted)
      (in_order_lem cs (all_map (λ (r : Range). Mem r (runs wanted)) Filled filled cs inRuns) ascend)
      (in_order_lem (runs wanted) (all_from Filled (runs wanted) filled) (ranges.runs_ascend wanted))
      (λ r m. all_at (λ (s : Range). Mem s (runs wanted)) m inRuns) run_in_names

-- Which edge of a switch a known term takes: that of a case which keeps exactly the wants that the term does not contradict, or
-- neither, where it contradicts every want.
use Prim.Native.Nat.{ℕ, ◌≤◌}
use mathlib.Core.Path.{◌≡◌, refl, ap, sym, subst, ◌∙◌}
use mathlib.Core.Bool.{◌&&◌}
use mathlib.Core.Logic.{◌↔◌, inl, inr}
use mathlib.Core.List.{List}
use mathlib.Core.Option.{Option}
use lib.Dec.{T, leb, eqb, eqb→eq}
use Rattle.basics.specs.Lists.{Mem, All, any_of}
use Rattle.basics.proofs.ListLaws.{all_at, all_from}
use Rattle.basics.proofs.Booleans.{both_true, same_truth, by_test, is_true}
use Rattle.basics.proofs.Filters.{mem_right, mem_map, any_mem, mem_any}
use Rattle.basics.proofs.Numbers.{eqb_swap, both_le, eq_true}
use Rattle.terms.specs.Term.{Term, Terms, count, unknown, never, symbol, numbers, compound, gauge_of}
use Rattle.terms.specs.RuleTests.{Want, a_symbol, a_number, a_compound, Range}
use Rattle.terms.specs.Lookup.{found}
use Rattle.terms.specs.Outcome.{contradicted, inside, fits}
use Rattle.terms.specs.Filling.{WellFormed}
use Rattle.terms.specs.Answer.{is_open}
use Rattle.terms.proofs.Unknown.{IsUnknown}
use Rattle.terms.proofs.Outcomes.{is_open_lem}
use Rattle.terms.proofs.KnownTests.{holds_true}
use Rattle.terms.proofs.Spans.{range_open_at}
use Rattle.terms.proofs.Gauges.{one_gauge}
use Rattle.codes.specs.views.Codes.{SoundWant}
use Rattle.decision.specs.Runs.{is_on, from_to, number_pairs}
use Rattle.decision.specs.Cases.{Case, symbols_case, compound_case, numbers_case, takes, is_wanted}
use Rattle.decision.specs.Cases.{series_of, ranges_of, numbers_in, number_cases, cases_of}
use Rattle.decision.specs.Node.{follow}
use Rattle.decision.specs.Edges.{case_keeps, gather_wants}
use Rattle.decision.proofs.Truth.{known_contradicted, open_known, open_is, not_open}
use Rattle.decision.proofs.cases.RangeRuns.{meets, meets_contains, run_between, in_run}
use Rattle.decision.proofs.cases.WantedRanges.{wanted_series, range_wanted, wanted_range}
use Rattle.decision.proofs.cases.CaseList.{name_cases, names_all, symbols_listed, compound_listed, listed}
use Rattle.decision.proofs.cases.Narrowest.{never_neither}
use Rattle.decision.proofs.cases.SwitchEdges.{edges_to, follow_case, follow_past, KeepsOpen, TakesOpen, takes_keeps}
use Rattle.decision.proofs.cases.OnGauges.{OneGauge, common_gauge, gauge_listed}
use Rattle.decision.proofs.cases.NumberPairs.{numbers_follow, none_follows, OnTheirs, on_theirs, theirs_narrowest}
use Rattle.decision.proofs.cases.NumberPairs.{theirs_meet}

-- The case that takes a compound is that compound's, and keeps the wants that are open at it.
compound_taken : (c : Case) (b : ℕ) (ts : Terms) → T (takes c (compound b ts)) → c ≡ compound_case b (count ts)
compound_taken (symbols_case x y) b ts h = absurd h
compound_taken (compound_case a n) b ts h =
    let s = both_true (eqb a b) (eqb n (count ts)) h in
    rw (eqb→eq a b s.0, eqb→eq n (count ts) s.1)
compound_taken (numbers_case x y) b ts h = absurd h

compound_open : (b : ℕ) (ts : Terms) (w : Want) → is_open (fits w (compound b ts)) ≡ is_wanted (compound_case b (count ts)) w
compound_open b ts (a_symbol l h) = refl
compound_open b ts (a_number l h) = refl
compound_open b ts (a_compound a n) =
    open_known (eqb a b && eqb n (count ts)) ∙ (λ i. eqb_swap a b i && eqb_swap n (count ts) i)

-- A range is open at a span exactly where it has a number of a pair that meets the same ranges as the span.
range_open
    : (l h a b : ℕ) (x : Range) → a ≤ b → T (leb l x.high && leb x.low h) ↔ ((l ≤ b) × (a ≤ h))
    → is_open (inside l h a b) ≡ leb l x.high && leb x.low h
range_open l h a b x o same =
    same_truth (is_open (inside l h a b)) (leb l x.high && leb x.low h)
    (λ t. same.1 ((range_open_at l h a b o).0 (is_open_lem (inside l h a b) t)))
    (λ t. open_is (inside l h a b) ((range_open_at l h a b o).1 (same.0 t)))

module _ (ws : List Want) where
  -- The case that takes a symbol keeps the wants that are open at it.
  symbol_open
      : (c : Case) (b : ℕ) → Mem c (cases_of ws) → T (takes c (symbol b)) → (w : Want) → Mem w ws
      → is_open (fits w (symbol b)) ≡ is_wanted c w
  symbol_open (compound_case a n) b m t w k = absurd t
  symbol_open (numbers_case x y) b m t w k = absurd t
  symbol_open (symbols_case x y) b m t (a_number l h) k = refl
  symbol_open (symbols_case x y) b m t (a_compound a n) k = refl
  symbol_open (symbols_case x y) b m t (a_symbol l h) k =
      let r : Range = record { low = x; high = y } in
      let own : Range = record { low = l; high = h } in
      let same =
      meets_contains (series_of ws) r own b (run_between (series_of ws) r (listed ws (symbols_case x y) m)) (wanted_series k)
      ((both_le x b b y).0 t) in
      open_known (leb l b && leb b h)
      ∙ same_truth (leb l b && leb b h) (meets own r) (λ s. same.1 ((both_le l b b h).0 s)) (λ s. (both_le l b b h).1 (same.0 s))

  -- No case of a name takes a number or span.
  pub names_untaken : (a b : ℕ) → All (λ (c : Case). T (takes c (numbers a b)) → ⊥) (name_cases ws)
  names_untaken a b = names_all ws (λ (c : Case). T (takes c (numbers a b)) → ⊥) (λ r m t. t) (λ x n m t. t)

  -- Where no case takes a symbol, all wants are contradicted there,
  symbol_none
      : (b : ℕ) → All (λ (c : Case). T (takes c (symbol b)) → ⊥) (cases_of ws) → (w : Want) → Mem w ws
      → fits w (symbol b) ≡ contradicted
  symbol_none b untaken (a_symbol l h) m =
      known_contradicted (leb l b && leb b h) (λ k.
      let r =
      in_run (series_of ws) (record { low = l; high = h }) b (wanted_series m)
      ((both_le l b b h).0 (holds_true (leb l b && leb b h) k)) in
      all_at (λ (c : Case). T (takes c (symbol b)) → ⊥) (symbols_listed ws r.0 r.1) untaken
      ((both_le r.0.low b b r.0.high).1 r.2))
  symbol_none b untaken (a_number l h) m = refl
  symbol_none b untaken (a_compound a n) m = refl

  -- and so at a compound.
  compound_none
      : (b : ℕ) (ts : Terms) → All (λ (c : Case). T (takes c (compound b ts)) → ⊥) (cases_of ws) → (w : Want) → Mem w ws
      → fits w (compound b ts) ≡ contradicted
  compound_none b ts untaken (a_symbol l h) m = refl
  compound_none b ts untaken (a_number l h) m = refl
  compound_none b ts untaken (a_compound a n) m =
      known_contradicted (eqb a b && eqb n (count ts)) (λ h.
      all_at (λ (c : Case). T (takes c (compound b ts)) → ⊥) (compound_listed ws a n m) untaken
      (holds_true (eqb a b && eqb n (count ts)) h))

  -- The ranges that sound wants have are each of one gauge.
  pub wants_gauged : All SoundWant ws → All OneGauge (ranges_of ws)
  wants_gauged sound =
      all_from OneGauge (ranges_of ws) (λ r m. let s = all_at SoundWant (range_wanted ws r m) sound in (s.0, s.2))

  module _ {A : Type 0} (f : Case → A) (neither : A) where
    -- A number or span follows a number case, or neither where there is none.
    pub numbers_past
        : (a b : ℕ)
        → follow (edges_to f (cases_of ws)) neither (numbers a b) ≡ follow (edges_to f (number_cases ws)) neither (numbers a b)
    numbers_past a b = follow_past f neither (numbers a b) (name_cases ws) (number_cases ws) (names_untaken a b)

    -- Where ranges of its gauge are wanted it is the pair of the runs of its two ends, and the wants that it keeps are those open
    -- at the span; "no other gauge has a case", and on another it contradicts all wants.
    span_edge
        : All SoundWant ws → (a b : ℕ) → a ≤ b → gauge_of a ≡ gauge_of b
        → TakesOpen is_wanted (cases_of ws) f neither ws (numbers a b)
    span_edge sound a b o same =
        by_test (any_of (is_on (gauge_of a)) rs) (λ e. inl (taken (any_mem (is_on (gauge_of a)) rs (is_true e))))
        (λ e. inr (neither_taken (λ r m k. subst T e (mem_any (is_on (gauge_of a)) m (eq_true (gauge_of r.low) (gauge_of a) k)))))
      where
        rs : List Range
        rs = ranges_of ws

        one : All OneGauge rs
        one = wants_gauged sound

        Unwanted : Type 0
        Unwanted = (r : Range) → Mem r rs → gauge_of r.low ≡ gauge_of a → ⊥

        against : Unwanted → (w : Want) → Mem w ws → fits w (numbers a b) ≡ contradicted
        against unwanted (a_symbol l h) m = refl
        against unwanted (a_number l h) m =
            let r : Range = record { low = l; high = h } in
            not_open (inside l h a b) (λ k.
            let c = (range_open_at l h a b o).0 k in
            unwanted r (wanted_range m)
            (common_gauge r (record { low = a; high = b }) (all_at OneGauge (wanted_range m) one) (o, same) c.0 c.1))
        against unwanted (a_compound x n) m = refl

        neither_taken
            : Unwanted
            → (follow (edges_to f (cases_of ws)) neither (numbers a b) ≡ neither)
            × ((w : Want) → Mem w ws → fits w (numbers a b) ≡ contradicted)
        neither_taken unwanted = (
          numbers_past a b ∙ none_follows rs one a b o same f neither unwanted,
          against unwanted,
        )

        taken
            : (r : Range) × Mem r rs × T (is_on (gauge_of a) r)
            → (c : Case) × Mem c (cases_of ws) × (follow (edges_to f (cases_of ws)) neither (numbers a b) ≡ f c)
            × ((w : Want) → Mem w ws → is_open (fits w (numbers a b)) ≡ is_wanted c w)
        taken (r, m, on) =
            let k = on_theirs rs one a b o same in
            let pair = from_to k.first k.last in
            let listed = (gauge_listed rs (gauge_of a)).1 (r, m, eqb→eq (gauge_of r.low) (gauge_of a) on) in
            let narrow = theirs_narrowest rs one a b o same k listed in (
              numbers_in pair,
              mem_right (name_cases ws) (mem_map numbers_in narrow.listed),
              numbers_past a b ∙ numbers_follow f neither a b (number_pairs rs) pair narrow,
              keeps k,
            )
          where
            keeps
                : (k : OnTheirs rs one a b o same) → (w : Want) → Mem w ws
                → is_open (fits w (numbers a b)) ≡ is_wanted (numbers_in (from_to k.first k.last)) w
            keeps k (a_symbol l h) m = refl
            keeps k (a_number l h) m =
                range_open l h a b (from_to k.first k.last) o
                (theirs_meet rs one a b o same k (record { low = l; high = h }) (wanted_range m))
            keeps k (a_compound x n) m = refl

    -- A known term takes the edge of a case that keeps exactly the wants which are open at it, or neither, and all wants are
    -- contradicted.
    pub edge_taken
        : All SoundWant ws → (t : Term) → WellFormed t → (IsUnknown (found t) → ⊥)
        → TakesOpen is_wanted (cases_of ws) f neither ws t
    edge_taken sound unknown ok k = absurd (k tt)
    edge_taken sound never ok k = inr (never_neither (edges_to f (cases_of ws)) neither, λ w m. refl)
    edge_taken sound (symbol b) ok k =
        elim (follow_case f neither (symbol b) (cases_of ws)) [
          | inl r ↦ inl (r.0, r.1, r.3, symbol_open r.0 b r.1 r.2)
          | inr r ↦ inr (r.1, symbol_none b r.0)
        ]
    edge_taken sound (numbers a b) ok k = span_edge sound a b ok.0 (one_gauge a b ok)
    edge_taken sound (compound b ts) ok k =
        elim (follow_case f neither (compound b ts) (cases_of ws)) [
          | inl r ↦
              inl (
                r.0,
                r.1,
                r.3,
                λ w m. compound_open b ts w ∙ ap (λ (c : Case). is_wanted c w) (sym (compound_taken r.0 b ts r.2)),
              )
          | inr r ↦ inr (r.1, compound_none b ts r.0)
        ]

-- So where the live rules want xs, each something or nothing, it takes an edge that keeps exactly those which it does not
-- contradict.
pub edge_keeps
    : {A : Type 0} (xs : List (Option Want)) (t : Term) (f : Case → A) (neither : A) → All SoundWant (gather_wants xs)
    → WellFormed t → (IsUnknown (found t) → ⊥) → KeepsOpen case_keeps (cases_of (gather_wants xs)) f neither xs t
edge_keeps xs t f neither sound ok k =
    takes_keeps case_keeps (λ c. refl) (cases_of (gather_wants xs)) f neither xs t
    (edge_taken (gather_wants xs) f neither sound t ok k)

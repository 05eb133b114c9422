-- Number cases and gauges, sentence by sentence (document 02, request 7): "each gauge of which a live rule has a range there is cut
-- into runs by itself, and no other gauge has a case. Record 46 becomes (gauge, wide low, wide high, wide node), ordered by gauge
-- first, and takes only numbers of that gauge."
use Prim.Native.Nat.{ℕ, ◌≤◌, ◌<◌}
use mathlib.Core.Path.{◌≡◌, refl, ◌∙◌}
use mathlib.Core.Logic.{◌↔◌, ◌⊎◌, inl, inr}
use mathlib.Core.List.{List}
use native.Mathlib.Omega.{arith}
use lib.Dec.{T}
use Rattle.basics.specs.Lists.{Mem, All}
use Rattle.basics.proofs.Filters.{mem_right, mem_map}
use Rattle.basics.proofs.Numbers.{le_or_lt, both_le}
use Rattle.basics.proofs.Sorted.{pair_before_lem, before_pair}
use Rattle.terms.specs.Term.{numbers, gauge_of, value_of}
use Rattle.terms.specs.RuleTests.{Want, a_number}
use Rattle.codes.specs.views.Codes.{SoundWant}
use Rattle.decision.specs.Cases.{Case, numbers_case, takes, ranges_of, numbers_in, cases_of}
use Rattle.decision.specs.Node.{follow}
use Rattle.decision.specs.AcceptedGraph.{CaseBefore, CaseFields}
use Rattle.decision.proofs.cases.SwitchEdges.{edges_to}
use Rattle.decision.proofs.cases.WantedRanges.{range_wanted, wanted_range}
use Rattle.decision.proofs.cases.CaseList.{name_cases}
use Rattle.decision.proofs.cases.OnGauges.{gauge_listed}
use Rattle.decision.proofs.cases.NumberPairs.{on_theirs, theirs_narrowest, none_follows}
use Rattle.decision.proofs.cases.CasesLaws.{wants_gauged, numbers_past}
use Rattle.decision.proofs.cases.CasesSentence.{cases_are}

-- "No other gauge has a case": a number case is on a gauge of which some range is wanted, its low and its high on it.
pub record OnWanted (ws : List Want) (x y : ℕ) : Type 0 where
  pub low : ℕ
  pub high : ℕ
  pub wanted : Mem (a_number low high) ws
  pub low_on : gauge_of x ≡ gauge_of low
  pub high_on : gauge_of y ≡ gauge_of low

pub no_other_gauge : (ws : List Want) → All SoundWant ws → (x y : ℕ) → Mem (numbers_case x y) (cases_of ws) → OnWanted ws x y
no_other_gauge ws sound x y m =
    let p = ((cases_are ws sound).pairs x y).0 m in
    let w = p.some_range in
    let low = p.low in
    let high = p.high in
    record {
      low = w.0;
      high = w.1;
      wanted = w.2;
      low_on = omega (arith, p.first_run.low_on, w.3);
      high_on = omega (arith, p.last_run.high_on, w.3);
    }

-- "Each gauge of which a live rule has a range there" has a case: that of any of its numbers.
pub wanted_gauge_cases
    : (ws : List Want) → All SoundWant ws → (l h : ℕ) → Mem (a_number l h) ws → (v : ℕ) → gauge_of l ≡ gauge_of v
    → (x y : ℕ) × Mem (numbers_case x y) (cases_of ws) × (x ≤ v) × (v ≤ y)
wanted_gauge_cases ws sound l h m v on =
    let rs = ranges_of ws in
    let one = wants_gauged ws sound in
    let k = on_theirs rs one v v (omega arith) refl in
    let listed = (gauge_listed rs (gauge_of v)).1 (record { low = l; high = h }, wanted_range m, on) in
    let narrow = theirs_narrowest rs one v v (omega arith) refl k listed in
    (k.first.low, k.last.high, mem_right (name_cases ws) (mem_map numbers_in narrow.listed), k.has_low.0, k.has_high.1)

-- Where no range of its gauge is wanted, a number or span follows neither.
pub other_gauge_neither
    : {A : Type 0} (f : Case → A) (neither : A) (ws : List Want) → All SoundWant ws → (a b : ℕ) → a ≤ b → gauge_of a ≡ gauge_of b
    → ((l h : ℕ) → Mem (a_number l h) ws → gauge_of l ≡ gauge_of a → ⊥)
    → follow (edges_to f (cases_of ws)) neither (numbers a b) ≡ neither
other_gauge_neither f neither ws sound a b order same unwanted =
    numbers_past ws f neither a b
    ∙ none_follows (ranges_of ws) (wants_gauged ws sound) a b order same f neither
    (λ r m k. unwanted r.low r.high (range_wanted ws r m) k)

-- "Record 46 .. takes only numbers of that gauge": a case whose fields are in order takes no number or span of another gauge.
pub takes_own_gauge
    : (x y a b : ℕ) → CaseFields (numbers_case x y) → a ≤ b → T (takes (numbers_case x y) (numbers a b))
    → (gauge_of a ≡ gauge_of x) × (gauge_of b ≡ gauge_of x)
takes_own_gauge x y a b fields o t =
    let c = (both_le x a b y).0 t in
    (omega (arith, fields.2, c.0, c.1), omega (arith, fields.2, c.0, c.1))

-- "Ordered by gauge first", then low, then high: so number cases ascend, each on one gauge.
abbrev pub GaugeFirst : ℕ → ℕ → ℕ → ℕ → Type 0
GaugeFirst l h x y =
    (gauge_of l < gauge_of x)
    ⊎ ((gauge_of l ≡ gauge_of x) × ((value_of l < value_of x) ⊎ ((value_of l ≡ value_of x) × (value_of h < value_of y))))

pub gauges_first
    : (l h x y : ℕ) → gauge_of l ≡ gauge_of h → gauge_of x ≡ gauge_of y
    → CaseBefore (numbers_case l h) (numbers_case x y) ↔ GaugeFirst l h x y
gauges_first l h x y p q = (λ t. first (pair_before_lem l h x y t), λ k. before_pair l h x y (later k))
  where
    first : (l < x) ⊎ ((l ≡ x) × (h < y)) → GaugeFirst l h x y
    first (inl d) =
        elim (le_or_lt (gauge_of x) (gauge_of l)) [
          | inl e ↦ inr (omega arith, inl (omega arith))
          | inr e ↦ inl e
        ]
    first (inr d) = inr (omega (arith, d.0), inr (omega (arith, d.0), omega (arith, d.0, d.1)))

    later : GaugeFirst l h x y → (l < x) ⊎ ((l ≡ x) × (h < y))
    later (inl d) = inl (omega arith)
    later (inr (e, inl d)) = inl (omega arith)
    later (inr (e, inr d)) = inr (omega (arith, d.0), omega (arith, d.0, d.1))

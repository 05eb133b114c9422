-- The series of ids and the ranges of numbers that are wanted, and the cuts of the ranges.
use Prim.Native.Nat.{ℕ, suc}
use mathlib.Core.Path.{◌≡◌}
use mathlib.Core.Logic.{◌↔◌, ◌⊎◌, inl, inr}
use mathlib.Core.List.{List, [], ◌∷◌}
use Rattle.basics.specs.Lists.{Mem, here, there}
use Rattle.basics.proofs.ListLaws.{mem_cases, mem_none}
use Rattle.terms.specs.RuleTests.{Want, a_symbol, a_number, a_compound, Range}
use Rattle.decision.specs.Runs.{cuts}
use Rattle.decision.specs.Cases.{series_of, ranges_of}
use Rattle.decision.proofs.cases.RangeRuns as Ranges

-- Each of these series is wanted,
pub series_wanted : (ws : List Want) (r : Range) → Mem r (series_of ws) → Mem (a_symbol r.low r.high) ws
series_wanted [] r m = absurd (mem_none m)
series_wanted (a_symbol l h ∷ ws) r m = elim (mem_cases m) [ inl e ↦ rw e here | inr k ↦ there (series_wanted ws r k) ]
series_wanted (a_number l h ∷ ws) r m = there (series_wanted ws r m)
series_wanted (a_compound a n ∷ ws) r m = there (series_wanted ws r m)

-- and each wanted series is one of them;
pub wanted_series : {l h : ℕ} {ws : List Want} → Mem (a_symbol l h) ws → Mem (record { low = l; high = h }) (series_of ws)
wanted_series here = here
wanted_series (there {y = a_symbol l h} m) = there (wanted_series m)
wanted_series (there {y = a_number l h} m) = wanted_series m
wanted_series (there {y = a_compound a n} m) = wanted_series m

-- so it is with the ranges.
pub range_wanted : (ws : List Want) (r : Range) → Mem r (ranges_of ws) → Mem (a_number r.low r.high) ws
range_wanted [] r m = absurd (mem_none m)
range_wanted (a_symbol l h ∷ ws) r m = there (range_wanted ws r m)
range_wanted (a_number l h ∷ ws) r m =
    elim (mem_cases m) [ inl e ↦ rw e here | inr k ↦ there (range_wanted ws r k) ]
range_wanted (a_compound a n ∷ ws) r m = there (range_wanted ws r m)

pub wanted_range : {l h : ℕ} {ws : List Want} → Mem (a_number l h) ws → Mem (record { low = l; high = h }) (ranges_of ws)
wanted_range here = here
wanted_range (there {y = a_symbol l h} m) = wanted_range m
wanted_range (there {y = a_number l h} m) = there (wanted_range m)
wanted_range (there {y = a_compound a n} m) = wanted_range m

-- A number is a cut exactly when it is a wanted low or comes after a wanted high.
pub cut_wanted
    : (ws : List Want) (z : ℕ) → Mem z (cuts (ranges_of ws)) ↔ ((l h : ℕ) × Mem (a_number l h) ws × ((z ≡ l) ⊎ (z ≡ suc h)))
cut_wanted ws z = (
  λ m. let c = Ranges.cut_wanted (ranges_of ws) z m in
      (c.0.low, c.0.high, range_wanted ws c.0 c.1, c.2),
  λ c. Ranges.wanted_cut (wanted_range c.2) z c.3,
)

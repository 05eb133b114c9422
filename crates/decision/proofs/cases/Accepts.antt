-- Which ids and numbers a want accepts, and which of them the same wants accept.
use Prim.Native.Nat.{ℕ}
use mathlib.Core.Logic.{◌↔◌}
use mathlib.Core.List.{List}
use Rattle.basics.specs.Lists.{Mem}
use Rattle.terms.specs.Term.{Term, symbol, number}
use Rattle.terms.specs.RuleTests.{Want, a_symbol, a_number, Range}
use Rattle.terms.specs.Outcome.{Holds, fits}
use Rattle.terms.proofs.Series.{series_holds_at}
use Rattle.terms.proofs.Spans.{range_holds_at}
use Rattle.decision.proofs.cases.Intervals.{Contains}

-- The want accepts the term of the id or number: its symbol or that number.
module _ (term_of : ℕ → Term) where
  abbrev pub Accepts : Want → ℕ → Type 0
  Accepts w v = Holds (fits w (term_of v))

  -- The same of the wants accept the one and the other.
  abbrev pub SameAccept : List Want → ℕ → ℕ → Type 0
  SameAccept ws u v = (w : Want) → Mem w ws → Accepts w u ↔ Accepts w v

-- A wanted series accepts the ids in it,
pub accepts_series : (r : Range) (v : ℕ) → Accepts symbol (a_symbol r.low r.high) v ↔ Contains r v
accepts_series r v = series_holds_at r.low r.high v

-- and a wanted range the numbers in it.
pub accepts_range : (r : Range) (v : ℕ) → Accepts number (a_number r.low r.high) v ↔ Contains r v
accepts_range r v = range_holds_at r.low r.high v v

-- Which tests are accounted for by the tests seen: those seen, and those that the unknown at the place of a test seen
-- settles, which are hidden below it.
use Prim.Native.Nat.{ℕ}
use mathlib.Core.Path.{◌≡◌}
use mathlib.Core.Logic.{◌⊎◌, inl, inr}
use mathlib.Core.List.{List}
use lib.Dec.{T}
use Rattle.terms.specs.Term.{Terms}
use Rattle.terms.specs.Pattern.{Patterns}
use Rattle.terms.specs.Lookup.{term_at}
use Rattle.terms.proofs.Unknown.{IsUnknown}
use Rattle.sheet_tests.specs.SheetTests.{place}
use Rattle.decision.specs.Rules.{test_at}
use Rattle.decision.specs.Edges.{settled_by_unknown}

module _ (rules : List Patterns) (piece : Terms) where
  -- Test t is settled by an unknown at the place of a test seen.
  pub record Hidden (Seen : ℕ → Type 0) (t : ℕ) : Type 0 where
    pub above : ℕ
    pub spot : ℕ
    pub seen : Seen above
    pub asks : test_at rules above ≡ place spot
    pub unknown : IsUnknown (term_at piece spot)
    pub settles : T (settled_by_unknown spot (test_at rules t))

  -- It is seen or hidden.
  abbrev pub Accounted : (ℕ → Type 0) → ℕ → Type 0
  Accounted Seen t = Seen t ⊎ Hidden Seen t

  -- The more tests are seen, the more are accounted for.
  pub accounted_more
      : {Seen More : ℕ → Type 0} → ((t : ℕ) → Seen t → More t) → (t : ℕ) → Accounted Seen t → Accounted More t
  accounted_more more t (inl s) = inl (more t s)
  accounted_more more t (inr h) = inr (record {
    above = h.above;
    spot = h.spot;
    seen = more h.above h.seen;
    asks = h.asks;
    unknown = h.unknown;
    settles = h.settles;
  })

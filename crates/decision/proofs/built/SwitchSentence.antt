-- The cases of a switch of an accepted sheet's graph: what the live rules want at its place, and the cases for it.
use Prim.Native.Nat.{ℕ, ◌≤◌, ◌<◌}
use mathlib.Core.Path.{◌≡◌, sym}
use mathlib.Core.Logic.{◌↔◌, inl, inr}
use mathlib.Core.List.{List, [], ◌∷◌, map}
use mathlib.Core.Option.{Option, some, none}
use lib.Dec.{T}
use lib.ListN.{length}
use Rattle.masks.specs.Mask.{has, members}
use Rattle.basics.specs.Lists.{Mem, here, there, All}
use Rattle.basics.proofs.ListLaws.{mem_cases, mem_none}
use Rattle.basics.proofs.Filters.{map_mem}
use Rattle.terms.specs.Pattern.{Patterns}
use Rattle.terms.specs.RuleTests.{Want}
use Rattle.terms.specs.Accepted.{AcceptedRule}
use Rattle.decision.specs.Rules.{want_at}
use Rattle.decision.specs.Edges.{gather_wants, live_wants}
use Rattle.decision.proofs.keys.Sets.{members_in}
use Rattle.decision.proofs.rules.LiveWants.{want_listed}
use Rattle.decision.proofs.rules.SoundWants.{wants_sound}
use Rattle.decision.proofs.cases.CasesSentence.{CasesAre, cases_are}

-- What is gathered is wanted.
gather_mem : {w : Want} (xs : List (Option Want)) → Mem w (gather_wants xs) → Mem (some w) xs
gather_mem [] m = absurd (mem_none m)
gather_mem (none ∷ xs) m = there (gather_mem xs m)
gather_mem (some v ∷ xs) m = elim (mem_cases m) [ inl e ↦ rw e here | inr k ↦ there (gather_mem xs k) ]

-- What the live rules want at a place is exactly what some live rule wants there.
pub live_wants_lem
    : (rules : List Patterns) (live n : ℕ) (w : Want)
    → Mem w (live_wants rules live n) ↔ ((i : ℕ) × (i < length rules) × T (has live i) × (want_at rules i n ≡ some w))
live_wants_lem rules live n w = (
  λ m.
      let each = members (length rules) live in
      let r = map_mem (λ (i : ℕ). want_at rules i n) each (gather_mem (map (λ (i : ℕ). want_at rules i n) each) m) in
      let inside = members_in (length rules) live r.0 r.1 in
      (r.0, inside.0, inside.1, sym r.2),
  λ x. want_listed rules live n x.0 w x.1 x.2 x.3,
)

-- "A switch has a case for each .. compound that a live rule wants there" (document 01), one "for a run of ids, cut .. as numbers
-- were in document 01" (document 02, request 5), and on "each gauge of which a live rule has a range there" (request 7) "one case
-- for each pair of first and last run" (request 4): at each place, for each set of live rules of an accepted sheet.
pub switch_cases
    : (arity : ℕ) (rules : List Patterns) → All (AcceptedRule arity) rules → length rules ≤ 64 → (live n : ℕ)
    → CasesAre (live_wants rules live n)
switch_cases arity rules accepted few live n =
    cases_are (live_wants rules live n) (wants_sound arity rules accepted live n)

-- What is listed as wanted by the live rules at a place is wanted by one of them.
use Prim.Native.Nat.{ℕ, ◌<◌}
use mathlib.Core.Path.{◌≡◌, sym}
use mathlib.Core.Bool.{true}
use mathlib.Core.List.{List, [], ◌∷◌, map}
use mathlib.Core.Logic.{inl, inr}
use mathlib.Core.Option.{Option, some, none}
use lib.ListN.{length}
use Rattle.basics.specs.Lists.{Mem, here, there, All}
use Rattle.basics.proofs.Filters.{map_mem}
use Rattle.basics.proofs.ListLaws.{mem_cases, mem_none, all_from}
use Rattle.masks.specs.Mask.{has, members}
use Rattle.masks.proofs.SetSentences.{listed_exactly}
use Rattle.terms.specs.Pattern.{Patterns}
use Rattle.terms.specs.RuleTests.{Want}
use Rattle.decision.specs.Rules.{want_at}
use Rattle.decision.specs.Edges.{gather_wants, live_wants}
use Rattle.codes.specs.views.Codes.{SoundWant}

gathered : (xs : List (Option Want)) {w : Want} → Mem w (gather_wants xs) → Mem (some w) xs
gathered [] m = absurd (mem_none m)
gathered (none ∷ xs) m = there (gathered xs m)
gathered (some v ∷ xs) {w} m =
    elim (mem_cases m) [ inl e ↦ (rw e here) | inr k ↦ there (gathered xs k) ]

module _ (rules : List Patterns) (live n : ℕ) where
  -- A rule wants it that is live,
  pub listed_want
      : {w : Want} → Mem w (live_wants rules live n)
      → (i : ℕ) × (i < length rules) × (has live i ≡ true) × (want_at rules i n ≡ some w)
  listed_want m =
      let each = map (λ (i : ℕ). want_at rules i n) (members (length rules) live) in
      let r = map_mem (λ (i : ℕ). want_at rules i n) (members (length rules) live) (gathered each m) in
      let i = (listed_exactly (length rules) live r.0).0 r.1 in
      (r.0, i.0, i.1, sym r.2)

  -- so it is sound where all is that the rules want there.
  pub wants_sound
      : ((i : ℕ) (w : Want) → want_at rules i n ≡ some w → SoundWant w) → All SoundWant (live_wants rules live n)
  wants_sound sound =
      all_from SoundWant (live_wants rules live n)
      (λ w m. let r = listed_want m in sound r.0 w r.3)

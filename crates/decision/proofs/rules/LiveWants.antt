-- What the live rules want at a place: what holds of all that the rules want there holds of all that is listed, what a
-- live rule wants there is listed, and no more is listed than there are rules.
use Prim.Native.Nat.{ℕ, ◌≤◌, ◌<◌}
use mathlib.Core.Path.{◌≡◌, subst}
use mathlib.Core.List.{List, [], ◌∷◌, map}
use mathlib.Core.Option.{Option, some, none}
use native.Mathlib.Omega.{arith}
use lib.Dec.{T}
use lib.ListN.{length, length-map}
use Rattle.masks.specs.Mask.{has, members}
use Rattle.basics.specs.Lists.{Mem, here, there, All}
use Rattle.terms.specs.Pattern.{Patterns}
use Rattle.terms.specs.RuleTests.{Want}
use Rattle.basics.proofs.ListLaws.{all_from}
use Rattle.decision.specs.Rules.{want_at}
use Rattle.decision.specs.Edges.{gather_wants, live_wants}
use Rattle.basics.proofs.Filters.{mem_map, all_mapped}
use Rattle.decision.proofs.keys.Sets.{in_members, members_in, members_most}

-- Q holds of what is wanted, if anything is.
abbrev pub IfWanted : (Want → Type 0) → Option Want → Type 0
IfWanted Q none = Unit
IfWanted Q (some w) = Q w

-- What holds of all that is wanted holds of all that is gathered,
gather_all : (Q : Want → Type 0) (xs : List (Option Want)) → All (IfWanted Q) xs → All Q (gather_wants xs)
gather_all Q [] h = tt
gather_all Q (none ∷ xs) h = gather_all Q xs h.1
gather_all Q (some w ∷ xs) h = (h.0, gather_all Q xs h.1)

-- what is wanted is gathered,
pub mem_gather : {w : Want} {xs : List (Option Want)} → Mem (some w) xs → Mem w (gather_wants xs)
mem_gather here = here
mem_gather (there {y = none} m) = mem_gather m
mem_gather (there {y = some v} m) = there (mem_gather m)

-- and no more is gathered than is asked.
gather_length : (xs : List (Option Want)) → length (gather_wants xs) ≤ length xs
gather_length [] = omega arith
gather_length (none ∷ xs) = omega (arith, gather_length xs)
gather_length (some w ∷ xs) = omega (arith, gather_length xs)

module _ (rules : List Patterns) (live n : ℕ) where
  -- What each live rule wants there, if anything.
  abbrev pub each_want : List (Option Want)
  each_want = map (λ (i : ℕ). want_at rules i n) (members (length rules) live)

  pub each_there : (i : ℕ) → i < length rules → T (has live i) → Mem (want_at rules i n) each_want
  each_there i l h = mem_map (λ (j : ℕ). want_at rules j n) (in_members (length rules) live i l h)

  -- What holds of all that the rules want there holds of all that is listed,
  pub wants_all
      : (Q : Want → Type 0) → ((i : ℕ) → i < length rules → IfWanted Q (want_at rules i n))
      → All Q (live_wants rules live n)
  wants_all Q f =
      let each = members (length rules) live in
      gather_all Q each_want
      (all_mapped (IfWanted Q) (λ (i : ℕ). want_at rules i n) each
      (all_from (λ (i : ℕ). IfWanted Q (want_at rules i n)) each (λ i m. f i (members_in (length rules) live i m).0)))

  -- what a live rule wants there is listed,
  pub want_listed
      : (i : ℕ) (w : Want) → i < length rules → T (has live i) → want_at rules i n ≡ some w
      → Mem w (live_wants rules live n)
  want_listed i w l h e = mem_gather (subst (λ (x : Option Want). Mem x each_want) e (each_there i l h))

  -- and no more is listed than there are rules.
  pub wants_few : length (live_wants rules live n) ≤ length rules
  wants_few =
      omega (
        arith,
        gather_length each_want,
        length-map (members (length rules) live) (λ (i : ℕ). want_at rules i n),
        members_most (length rules) live,
      )

-- The pairs of a first and a last run of the numbers from a base up to a top (document 02, request 4), for ranges that lie between
-- the two: which pairs they are, in what order and how many, and which of them a number or span follows.
use Prim.Native.Nat.{ℕ, suc, ◌*◌, ◌≤◌, ◌<◌}
use mathlib.Core.Path.{◌≡◌, ap}
use mathlib.Core.Logic.{◌↔◌}
use mathlib.Core.List.{List}
use native.Mathlib.Omega.{arith}
use lib.Dec.{T}
use lib.ListN.{length}
use Rattle.basics.specs.Lists.{Mem, All}
use Rattle.basics.proofs.Sorted.{Ascending}
use Rattle.terms.specs.RuleTests.{Range}
use Rattle.decision.specs.Runs.{covers, framed, from_to, run_pairs}
use Rattle.decision.proofs.cases.Intervals.{Contains}
use Rattle.decision.proofs.cases.RangeRuns.{meets}
use Rattle.decision.proofs.cases.RangeOrder.{range_before}
use Rattle.decision.proofs.cases.FramedRuns.{InFrame, MaximalIn, framed_filled, framed_ascends, framed_covers}
use Rattle.decision.proofs.cases.FramedRuns.{framed_inside, framed_few, framed_are}
use Rattle.decision.proofs.cases.RunPairs.{InTurn, pairs_few, pair_runs, runs_pair, pair_filled}
use Rattle.decision.proofs.cases.RunPairs.{pairs_ascend_lem, pair_covers, pair_meets}
use Rattle.decision.proofs.cases.Narrowest.{IsNarrowest, narrowest_pair}

module _ (base top : ℕ) (ws : List Range) where
  abbrev pub framed_pairs : List Range
  framed_pairs = run_pairs (framed base top ws)

  -- There are at most (2 n + 1) (n + 1) pairs for n ranges.
  pub framed_pairs_most : (n : ℕ) → length ws ≤ n → length framed_pairs * 2 ≤ suc (2 * n) * suc (suc (2 * n))
  framed_pairs_most n h = pairs_few (framed base top ws) (suc (2 * n)) (omega (arith, framed_few base top ws))

  -- They ascend by their lows, then by their highs.
  pub framed_pairs_ascend : Ascending range_before framed_pairs
  framed_pairs_ascend = pairs_ascend_lem (framed base top ws) (framed_filled base top ws) (framed_ascends base top ws)

module _ (base top : ℕ) (o : base ≤ top) (ws : List Range) (inside : All (InFrame base top) ws) where
  -- A pair is one of two maximal runs in turn, from the low of the first to the high of the last.
  abbrev pub OfRuns : Range → Type 0
  OfRuns x = (r s : Range) × MaximalIn base top ws r × MaximalIn base top ws s × InTurn r s × (x ≡ from_to r s)

  pub framed_pairs_are : (x : Range) → Mem x (framed_pairs base top ws) ↔ OfRuns x
  framed_pairs_are x = (
    λ m. let p = pair_runs (framed base top ws) (framed_ascends base top ws) x m in (
      p.0,
      p.1,
      (framed_are base top ws o inside p.0).0 p.2,
      (framed_are base top ws o inside p.1).0 p.3,
      p.4,
      p.5,
    ),
    λ p. rw p.5
        (runs_pair (framed base top ws) (framed_filled base top ws) (framed_ascends base top ws) p.0 p.1
        ((framed_are base top ws o inside p.0).1 p.2) ((framed_are base top ws o inside p.1).1 p.3) p.4),
  )

  -- It lies from base up to top.
  pub framed_pairs_inside : (x : Range) → Mem x (framed_pairs base top ws) → InFrame base top x
  framed_pairs_inside x m =
      let p = pair_runs (framed base top ws) (framed_ascends base top ws) x m in
      let first = framed_inside base top ws o inside p.0 p.2 in
      let last = framed_inside base top ws o inside p.1 p.3 in
      let Some-number = pair_filled p.0 p.1 first.1 last.1 p.4 in
      let low : x.low ≡ p.0.low = ap (λ (y : Range). y.low) p.5 in
      let high : x.high ≡ p.1.high = ap (λ (y : Range). y.high) p.5 in
      (omega (arith, first.0), omega arith, omega (arith, last.2))

-- The pair that the numbers from a to b follow, of the runs of the two: the ranges that have one of its numbers are those that have
-- one from a to b, and the ranges that have all of its numbers are those that have all from a to b.
pub record FollowedIn (base top : ℕ) (ws : List Range) (a b : ℕ) : Type 0 where
  pub first : Range
  pub last : Range
  pub first_run : Mem first (framed base top ws)
  pub last_run : Mem last (framed base top ws)
  pub has_low : Contains first a
  pub has_high : Contains last b
  pub is_narrowest : IsNarrowest a b (framed_pairs base top ws) (from_to first last)
  pub meets_some : (v : Range) → Mem v ws → T (meets v (from_to first last)) ↔ ((v.low ≤ b) × (a ≤ v.high))
  pub covers_all : (v : Range) → Mem v ws → T (covers v (from_to first last)) ↔ ((v.low ≤ a) × (b ≤ v.high))

pub followed_in : (base top : ℕ) (ws : List Range) (a b : ℕ) → base ≤ a → a ≤ b → b < top → FollowedIn base top ws a b
followed_in base top ws a b above order below =
    let first = framed_covers base top ws a above (omega arith) in
    let last = framed_covers base top ws b (omega arith) below in
    let r = first.0 in
    let s = last.0 in
    record {
      first = r;
      last = s;
      first_run = first.1;
      last_run = last.1;
      has_low = first.2;
      has_high = last.2;
      is_narrowest = narrowest_pair base top ws r s a b first.1 last.1 first.2 last.2 order;
      meets_some = λ v m. pair_meets base top ws r s v a b first.1 last.1 m first.2 last.2;
      covers_all = λ v m. pair_covers base top ws r s v a b first.1 last.1 m first.2 last.2;
    }

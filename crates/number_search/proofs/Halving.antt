-- A row of number cases is halved: those before a position come before a low and a high, those from another one on do not.
use Prim.Native.Nat.{ℕ, ◌+◌, ◌*◌, ◌<◌, ◌≤◌}
use mathlib.Core.Path.{◌≡◌, ap}
use mathlib.Core.List.{List}
use native.Mathlib.Omega.{arith}
use lib.Dec.{ltb}
use borrow.Author.Tests.{ltb-true, ltb-false}
use Rattle.basics.proofs.Booleans.{by_test}
use Rattle.number_search.specs.views.NumberRows.{rank_at, NumberRow, CountBefore}

-- The cases before one position come before the low and high, and those from the other on do not.
pub record Halved (s : List ℕ) (start count rank from to : ℕ) : Type 0 where
  pub ordered : from ≤ to
  pub few : to ≤ count
  pub before : (i : ℕ) → i < from → rank_at s (start + i * 8) < rank
  pub others : (i : ℕ) → to ≤ i → i < count → rank ≤ rank_at s (start + i * 8)

module _ {s : List ℕ} {start count : ℕ} (row : NumberRow s start count) where
  -- A case that does not stand behind another does not come after it.
  pub row_order : (i j : ℕ) → i ≤ j → j < count → rank_at s (start + i * 8) ≤ rank_at s (start + j * 8)
  row_order i j l k =
      by_test (ltb i j)
      (λ e. let m = row.ascend i j (ltb-true i j e) k in omega (arith, m))
      (λ e.
      let same : i ≡ j = omega (arith, l, ltb-false i j e) in
      let m = ap (λ (n : ℕ). rank_at s (start + n * 8)) same in omega (arith, m))

  -- The first of them are such a row too.
  pub row_shorter : (n : ℕ) → n ≤ count → NumberRow s start n
  row_shorter n l = record {
    inside = omega (arith, row.inside, l);
    bounded = λ i k. row.bounded i (omega (arith, l, k));
    ascend = λ i j k m. row.ascend i j k (omega (arith, l, m));
  }

  module _ {rank : ℕ} where
    pub halved_starts : Halved s start count rank 0 count
    halved_starts = record {
      ordered = omega arith;
      few = omega arith;
      before = λ i l. absurd (omega (arith, l));
      others = λ i l k. absurd (omega (arith, l, k));
    }

    module _ {from to : ℕ} (h : Halved s start count rank from to) where
      pub halved_ends : to ≤ from → CountBefore s start count rank from
      halved_ends done = record {
        few = omega (arith, h.ordered, h.few);
        before = h.before;
        others = λ i l k. h.others i (omega (arith, l, done)) k;
      }

      module _ {middle : ℕ} (low : from ≤ middle) (high : middle < to) where
        in_row : middle < count
        in_row = omega (arith, high, h.few)

        -- The case in the middle comes before it, and so do all in front of it;
        pub halved_behind : rank_at s (start + middle * 8) < rank → Halved s start count rank (middle + 1) to
        halved_behind passed = record {
          ordered = omega (arith, high);
          few = h.few;
          before = λ i l. (let m = row_order i middle (omega (arith, l)) in_row in omega (arith, m, passed));
          others = h.others;
        }

        -- or it does not, nor does any behind it.
        pub halved_front : rank ≤ rank_at s (start + middle * 8) → Halved s start count rank from middle
        halved_front stays = record {
          ordered = low;
          few = omega (arith, high, h.few);
          before = h.before;
          others = λ i l k. (let m = row_order middle i l k in omega (arith, m, stays));
        }

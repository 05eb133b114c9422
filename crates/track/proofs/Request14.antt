-- Request 14: "The result is always a table that request 1 accepts", and which place comes next at each step.
use Prim.Native.Nat.{ℕ, zero, suc, ◌+◌, ◌≤◌, ◌<◌}
use mathlib.Core.Path.{◌≡◌, refl, sym, ap, subst, ◌∙◌}
use mathlib.Core.Logic.{by_cases}
use mathlib.Core.List.{List, [], ◌∷◌}
use native.Mathlib.Decide.{ℕ_discrete}
use native.Mathlib.Omega.{arith}
use lib.ListN.{length, get_or, take, drop}
use lib.Seq.{take_at, take_all, take-append-le, get_or-take, get_or_at}
use Rattle.records.specs.Reading.{took}
use Rattle.records.specs.Writing.{splice}
use Rattle.records.specs.Written.{Result}
use Rattle.order.specs.Table.{read_table}
use Rattle.order.specs.TableBytes.{table_bytes}
use Rattle.order.proofs.TableBytes.{bytes_read_lem}
use Rattle.track.specs.Track.{next_place, down_after, track_order, Next}
use Rattle.track.specs.Ordering.{ordered}
use Rattle.track.proofs.StepByStep.{after, next_least}
use Rattle.track.proofs.PutInOrder.{order_length, not_long, no_room, written}

-- "The result is always a table that request 1 accepts": whatever the positions, 28, 29 and 30 refuse nothing.
pub track_accepted : (positions : List ℕ) → read_table (table_bytes (track_order positions)) ≡ took 1360 (track_order positions)
unfolding track_order
track_accepted positions =
    let a = after positions 680 (omega arith) in bytes_read_lem (down_after positions 680) a.size a.once a.first

-- The first n places of the order are those that are down after n steps,
first_places : (positions : List ℕ) (n m : ℕ) → n ≤ m → m ≤ 680 → take n (down_after positions m) ≡ down_after positions n
unfolding down_after
first_places positions n m some room =
    by_cases (ℕ_discrete n m)
    (λ (e : n ≡ m).
    ap (λ (k : ℕ). take k (down_after positions m)) e
    ∙ take_all m (down_after positions m) (omega (arith, (after positions m room).size))
    ∙ ap (down_after positions) (sym e))
    (λ (d : n ≡ m → ⊥). shorter m room (omega arith))
  where
    shorter : (k : ℕ) → k ≤ 680 → n < k → take n (down_after positions k) ≡ down_after positions n
    shorter zero room h = absurd (omega arith)
    shorter (suc k) room h =
        let last = next_place positions (down_after positions k) ∷ [] in
        take-append-le n (down_after positions k) last (omega (arith, (after positions k (omega arith)).size))
        ∙ by_cases (ℕ_discrete n k)
        (λ (e : n ≡ k).
        ap (λ (x : ℕ). take x (down_after positions k)) e
        ∙ take_all k (down_after positions k) (omega (arith, (after positions k (omega arith)).size))
        ∙ ap (down_after positions) (sym e))
        (λ (d : n ≡ k → ⊥). shorter k (omega arith) (omega arith))

-- and behind them stands the next.
place_after_lem : (positions : List ℕ) (n : ℕ) → n < 680 → get_or (down_after positions 680) n 0 ≡ next_place positions (down_after positions n)
unfolding down_after
place_after_lem positions n h =
    sym (get_or-take (suc n) (down_after positions 680) n 0 (omega arith))
    ∙ ap (λ (l : List ℕ). get_or l n 0) (first_places positions (suc n) 680 (omega arith) (omega arith))
    ∙ get_or_at (down_after positions n) (next_place positions (down_after positions n)) [] 0 n (after positions n (omega arith)).size

-- "Step by step": each place of the order comes next where those before it are down.
pub track_least
    : (positions : List ℕ) (n : ℕ) → n < 680
    → Next positions (take n (track_order positions)) (get_or (track_order positions) n 0)
unfolding track_order
track_least positions n h =
    subst (λ (down : List ℕ). Next positions down (get_or (down_after positions 680) n 0))
    (sym (first_places positions n 680 (omega arith) (omega arith)))
    (subst (Next positions (down_after positions n)) (sym (place_after_lem positions n h)) next)
  where
    next : Next positions (down_after positions n) (next_place positions (down_after positions n))
    next =
        let l = next_least positions (after positions n (omega arith)) h in
        record {
          inside = l.to;
          follows = l.passes;
          smallest = λ q to f. omega (arith, l.least q (omega arith) to f, l.to, to);
          lowest = λ q to f e. omega (arith, l.least q (omega arith) to f, e);
        }

-- "It refuses a list that isn't 1,360 bytes (37) and then a buffer shorter than 1,360 bytes (38)", and leaves the buffer as it is;
pub track_37
    : (positions buffer : List ℕ) → (length positions ≡ 1360 → ⊥)
    → ordered positions buffer ≡ record { refusal = 37; bytes = 0; buffer = buffer }
track_37 positions buffer h = sym (not_long positions buffer h)

pub track_38
    : (positions buffer : List ℕ) → length positions ≡ 1360 → length buffer < 1360
    → ordered positions buffer ≡ record { refusal = 38; bytes = 0; buffer = buffer }
track_38 positions buffer size h = sym (no_room positions buffer size h)

-- else the table stands at the front of the buffer, and what stood behind it stays.
pub track_written
    : (positions buffer : List ℕ) → length positions ≡ 1360 → 1360 ≤ length buffer
    → ordered positions buffer
    ≡ record { refusal = 0; bytes = 1360; buffer = splice buffer 0 (table_bytes (track_order positions)) }
track_written positions buffer size room = sym (written positions buffer _ size room refl)

-- So what is written is a table that request 1 accepts.
pub written_accepted
    : (positions buffer : List ℕ) → length positions ≡ 1360 → 1360 ≤ length buffer
    → ((ordered positions buffer).refusal ≡ 0)
    × (read_table (take 1360 (ordered positions buffer).buffer) ≡ took 1360 (track_order positions))
written_accepted positions buffer size room =
    let table = table_bytes (track_order positions) in
    let is = track_written positions buffer size room in (
      ap (λ (r : Result). r.refusal) is,
      ap (λ (r : Result). read_table (take 1360 r.buffer)) is
          ∙ ap read_table (take_at table (drop (0 + length table) buffer) 1360 (order_length positions))
          ∙ track_accepted positions,
    )

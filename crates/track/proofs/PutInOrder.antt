-- The places put down so far, as keys and as bytes, and what is written in the end.
use Prim.Native.Nat.{ℕ, zero, suc, ◌+◌, ◌*◌, ◌%◌, ◌≤◌, ◌<◌}
use mathlib.Core.Path.{◌≡◌, refl, sym, ap, subst, ◌∙◌}
use mathlib.Core.Bool.{Bool, true, false}
use mathlib.Core.List.{List, [], ◌∷◌, ◌++◌}
use native.Mathlib.Numerals.{add-one}
use native.Mathlib.Omega.{arith}
use borrow.Author.Tests.{eq-eqb, ne_eqb, le-leb, lt-leb}
use lib.Dec.{leb}
use lib.ListN.{length, length-append, replicate}
use Rattle.records.specs.Fields.{high_byte, low_byte, wide_then}
use Rattle.records.specs.Writing.{splice}
use Rattle.records.specs.Reading.{took, ask}
use Rattle.records.specs.Written.{result_of, ask_fits}
use Rattle.records.proofs.Writing.{splice_none, splice_length}
use Rattle.records.proofs.Wrote.{Wrote, wrote_as, wrote_behind}
use Rattle.order.specs.TableBytes.{table_bytes}
use Rattle.track.specs.Track.{may_follow, next_place, down_after, track_order}
use Rattle.track.specs.Ordering.{ordered}
use Rattle.track.specs.views.Front.{position_key, Opened, LeastBelow, PutDown}
use Rattle.track.proofs.StepByStep.{After, after, next_least}
use Rattle.track.proofs.FrontLaws.{Front, front_first, front_more, least_next}

-- The bytes of one place more stand behind those of the others.
bytes_more : (places : List ℕ) (p : ℕ) → table_bytes (places ++ (p ∷ [])) ≡ table_bytes places ++ (high_byte p ∷ low_byte p ∷ [])
bytes_more [] p = refl
bytes_more (x ∷ places) p = ap (wide_then x) (bytes_more places p)

-- Each step adds two bytes.
steps_length : (positions : List ℕ) (n : ℕ) → length (table_bytes (down_after positions n)) ≡ 2 * n
unfolding down_after
steps_length positions zero = refl
steps_length positions (suc n) =
    let down = down_after positions n in
    let p = next_place positions down in
    omega
    (arith, ap length (bytes_more down p), length-append (table_bytes down) (high_byte p ∷ low_byte p ∷ []), steps_length positions n)

pub order_length : (positions : List ℕ) → length (table_bytes (track_order positions)) ≡ 1360
unfolding track_order
order_length positions = steps_length positions 680

-- After i steps the keys are those of the places that may follow, and the bytes of the places put down are written.
pub record PutSo (positions buf₀ : List ℕ) (i : ℕ) (keys buf : List ℕ) (end : ℕ) : Type 0 where
  pub within : i ≤ 680
  pub room : 1360 ≤ length buf₀
  pub few : (q : ℕ) → q < 680 → position_key positions q < 67108864
  pub front : Front positions (down_after positions i) keys
  pub wrote : Wrote buf₀ 0 (table_bytes (down_after positions i)) end buf

pub put_first
    : (positions buf₀ keys : List ℕ) → 1360 ≤ length buf₀ → ((q : ℕ) → q < 680 → position_key positions q < 67108864)
    → Opened positions 0 85 8 (replicate 680 67108864) keys → PutSo positions buf₀ 0 keys buf₀ 0
unfolding down_after
put_first positions buf₀ keys room few o = record {
  within = omega arith;
  room = room;
  few = few;
  front = front_first positions keys o;
  wrote = (refl, splice_none buf₀ 0);
}

module _ {positions buf₀ : List ℕ} {i : ℕ} {keys buf : List ℕ} {end : ℕ} (s : PutSo positions buf₀ i keys buf end) where
  pub put_same : length buf ≡ length buf₀
  put_same =
      ap length s.wrote.1
      ∙ splice_length buf₀ 0 (table_bytes (down_after positions i)) (omega (arith, steps_length positions i, s.within, s.room))

  module _ (h : i < 680) where
    -- There is room for the next place.
    pub put_room : end + 2 ≤ length buf
    put_room = omega (arith, s.wrote.0, steps_length positions i, s.room, put_same)

    module _ {key : ℕ} (least : LeastBelow keys 680 key) (place : ℕ) (is : place ≡ key % 1024) where
      abbrev down : List ℕ
      down = down_after positions i

      so_far : After i down
      so_far = after positions i s.within

      comes_next : place ≡ next_place positions down
      comes_next = is ∙ least_next positions s.few so_far h s.front key least

      -- The place of the least key is a place,
      pub put_inside : place < 680
      put_inside = omega (arith, comes_next, (next_least positions so_far h).to)

      -- and comes next.
      pub put_next
          : (keys' buf' : List ℕ) (end' : ℕ) → PutDown positions place keys keys'
          → Wrote buf end (high_byte place ∷ low_byte place ∷ []) end' buf' → PutSo positions buf₀ (i + 1) keys' buf' end'
      unfolding down_after
      put_next keys' buf' end' o w =
          let l = next_least positions so_far h in
          let more : down ++ (place ∷ []) ≡ down_after positions (i + 1) =
          ap (λ (p : ℕ). down ++ (p ∷ [])) comes_next ∙ ap (down_after positions) (sym (add-one i)) in
          let follows = subst (λ (p : ℕ). may_follow down p ≡ true) (sym comes_next) l.passes in
          record {
            within = omega arith;
            room = s.room;
            few = s.few;
            front =
                subst (λ (d : List ℕ). Front positions d keys') more
                (front_more positions so_far place put_inside follows s.front o);
            wrote =
                wrote_as buf₀ 0 (sym (bytes_more down place) ∙ ap table_bytes more)
                (wrote_behind buf₀ 0 (table_bytes down) (high_byte place ∷ low_byte place ∷ [])
                (omega (arith, steps_length positions i, s.within, s.room)) s.wrote w);
          }

  -- After the last step all is written.
  pub put_all : 680 ≤ i → buf ≡ splice buf₀ 0 (table_bytes (track_order positions))
  unfolding track_order
  put_all h =
      let last : i ≡ 680 = omega (arith, s.within) in
      s.wrote.1 ∙ ap (λ (n : ℕ). splice buf₀ 0 (table_bytes (down_after positions n))) last

-- What is answered: 37,
pub not_long
    : (positions buffer : List ℕ) → (length positions ≡ 1360 → ⊥)
    → record { refusal = 37; bytes = 0; buffer = buffer } ≡ ordered positions buffer
unfolding ordered
not_long positions buffer h =
    sym (ap (λ (b : Bool). result_of buffer (ask 37 b (ask_fits 38 buffer (table_bytes (track_order positions)))))
    (ne_eqb (length positions) 1360 h))

-- then 38,
fits_by
    : (positions buffer : List ℕ) (b : Bool) → length positions ≡ 1360 → leb 1360 (length buffer) ≡ b
    → result_of buffer (ask 38 b (took 1360 (table_bytes (track_order positions)))) ≡ ordered positions buffer
unfolding ordered
fits_by positions buffer b long is =
    let size = order_length positions in
    sym
    ((λ j. result_of buffer (ask 37 (eq-eqb (length positions) 1360 long j) (ask_fits 38 buffer (table_bytes (track_order positions)))))
    ∙ (λ j. result_of buffer (ask 38 (leb (size j) (length buffer)) (took (size j) (table_bytes (track_order positions)))))
    ∙ (λ j. result_of buffer (ask 38 (is j) (took 1360 (table_bytes (track_order positions))))))

pub no_room
    : (positions buffer : List ℕ) → length positions ≡ 1360 → length buffer < 1360
    → record { refusal = 38; bytes = 0; buffer = buffer } ≡ ordered positions buffer
no_room positions buffer long h = fits_by positions buffer false long (lt-leb 1360 (length buffer) h)

-- then the table is written.
pub written
    : (positions buffer after : List ℕ) → length positions ≡ 1360 → 1360 ≤ length buffer
    → after ≡ splice buffer 0 (table_bytes (track_order positions))
    → record { refusal = 0; bytes = 1360; buffer = after } ≡ ordered positions buffer
written positions buffer after long h e =
    (λ j. record { refusal = 0; bytes = 1360; buffer = e j }) ∙ fits_by positions buffer true long (le-leb 1360 (length buffer) h)

-- A table read up to some entry, the turns of the loop, and where it ends.
use Prim.Native.Nat.{ℕ, zero, suc, ◌+◌, ◌*◌, ◌≤◌, ◌<◌}
use mathlib.Core.Path.{◌≡◌, refl, sym, ap, ◌∙◌}
use mathlib.Core.Bool.{Bool, true, false, not, ◌||◌, cond, or-true, or-false}
use mathlib.Core.List.{List, [], ◌∷◌, ◌++◌, map}
use native.Mathlib.Numerals.{add-one}
use native.Mathlib.Omega.{arith}
use borrow.Author.Tests.{eq-eqb, ne_eqb, ltb-true}
use lib.Dec.{eqb, ltb}
use lib.ListN.{length, get_or, take, drop, set, length-set, get_or-map, drop_of_length-le}
use lib.Seq.{take_all, take-suc, drop-cons, take-suc-set}
use Rattle.basics.specs.Lists.{count_from}
use Rattle.basics.proofs.Booleans.{and_both}
use Rattle.basics.proofs.Positions.{get_d_any}
use Rattle.records.specs.Fields.{wide_at}
use Rattle.records.specs.Reading.{Reading, took, refused, ask}
use Rattle.order.specs.Table.{table_places, each_once, parents_first, read_table}
use Rattle.order.specs.views.TableRead.{none_down, is_new, is_late, refusal_on}
use Rattle.order.proofs.ReadOn.{refusal_by, refusal_is}
use Rattle.order.proofs.TableAsks.{table_length}

-- What was read, by the refusal.
abbrev read_by : ℕ → List ℕ → Reading (List ℕ)
read_by q places = cond (eqb q 0) (took 1360 places) (refused q)

-- A table that is not 1,360 bytes,
pub read_short : (bytes : List ℕ) → (length bytes ≡ 1360 → ⊥) → refused 28 ≡ read_table bytes
unfolding read_table
read_short bytes short =
    sym
    (ap (λ (b : Bool). ask 28 b (ask 29 (each_once (table_places bytes)) (ask 30 (parents_first (table_places bytes)) (took 1360 (table_places bytes)))))
    (ne_eqb (length bytes) 1360 short))

-- and one that is.
read_long
    : (bytes : List ℕ) → length bytes ≡ 1360
    → read_by (refusal_on (table_places bytes) none_down false) (table_places bytes) ≡ read_table bytes
unfolding read_table
read_long bytes long =
    ap (λ (q : ℕ). read_by q read) (refusal_is read (table_length bytes))
    ∙ go (each_once read) (parents_first read)
    ∙ sym (ap (λ (b : Bool). ask 28 b (ask 29 (each_once read) (ask 30 (parents_first read) (took 1360 read)))) (eq-eqb (length bytes) 1360 long))
  where
    read : List ℕ
    read = table_places bytes

    go : (once first : Bool) → read_by (refusal_by once first) read ≡ ask 28 true (ask 29 once (ask 30 first (took 1360 read)))
    go true true = refl
    go true false = refl
    go false first = refl

-- The numbers of a row, by their position.
row_at : (a n k : ℕ) → k < n → get_or (count_from a n) k 0 ≡ a + k
row_at a zero k h = absurd (omega arith)
row_at a (suc n) zero h = omega arith
row_at a (suc n) (suc k) h = row_at (suc a) n k (omega arith) ∙ omega arith

-- Entry i of the table.
table_at : (bytes : List ℕ) (i : ℕ) → i < 680 → get_or (table_places bytes) i 0 ≡ wide_at bytes (2 * i)
unfolding table_places
table_at bytes i h =
    let entry : ℕ → ℕ = λ j. wide_at bytes (2 * j) in
    get_d_any (map entry (count_from 0 680)) i 0 (entry 0) (omega (arith, table_length bytes))
    ∙ get_or-map entry (count_from 0 680) i 0 ∙ ap entry (row_at 0 680 i h ∙ omega arith)

-- The first i entries are stored, and those from i on get the refusal of all.
pub record ReadTo (bytes : List ℕ) (i : ℕ) (places down : List ℕ) (late : Bool) : Type 0 where
  pub within : i ≤ 680
  pub size : length places ≡ 680
  pub stored : take i places ≡ take i (table_places bytes)
  pub asked : refusal_on (drop i (table_places bytes)) down late ≡ refusal_on (table_places bytes) none_down false

pub read_start : (bytes places : List ℕ) → length places ≡ 680 → ReadTo bytes 0 places none_down false
read_start bytes places size = record { within = omega arith; size = size; stored = refl; asked = refl }

module _ {bytes : List ℕ} {i : ℕ} {places down : List ℕ} {late : Bool} (r : ReadTo bytes i places down late) where
  module _ (p : ℕ) (h : i < 680) (read : p ≡ wide_at bytes (2 * i)) where
    entry : get_or (table_places bytes) i 0 ≡ p
    entry = table_at bytes i h ∙ sym read

    left : drop i (table_places bytes) ≡ p ∷ drop (i + 1) (table_places bytes)
    left =
        drop-cons (table_places bytes) i 0 (omega (arith, table_length bytes))
        ∙ (λ j. entry j ∷ drop (sym (add-one i) j) (table_places bytes))

    here : cond (is_new down p) (refusal_on (drop (i + 1) (table_places bytes)) (set down p 1) (late || is_late down p)) 29
        ≡ refusal_on (table_places bytes) none_down false
    here = sym (ap (λ (l : List ℕ). refusal_on l down late) left) ∙ r.asked

    -- A new place goes on,
    pub read_next
        : (now : Bool) → is_new down p ≡ true → now ≡ late || is_late down p
        → ReadTo bytes (i + 1) (set places i p) (set down p 1) now
    read_next now new is = record {
      within = omega arith;
      size = length-set places i p ∙ r.size;
      stored =
          ap (λ (n : ℕ). take n (set places i p)) (add-one i)
          ∙ take-suc-set places i p (omega (arith, r.size))
          ∙ (λ j. r.stored j ++ (sym entry j ∷ []))
          ∙ sym (take-suc (table_places bytes) i 0 (omega (arith, table_length bytes)))
          ∙ ap (λ (n : ℕ). take n (table_places bytes)) (sym (add-one i));
      asked =
          ap (refusal_on (drop (i + 1) (table_places bytes)) (set down p 1)) is
          ∙ sym (ap (λ (b : Bool). cond b (refusal_on (drop (i + 1) (table_places bytes)) (set down p 1) (late || is_late down p)) 29) new)
          ∙ here;
    }

    -- and any other is refused.
    pub read_stop : length bytes ≡ 1360 → is_new down p ≡ false → refused 29 ≡ read_table bytes
    read_stop long old =
        let e : 29 ≡ refusal_on (table_places bytes) none_down false =
        sym (ap (λ (b : Bool). cond b (refusal_on (drop (i + 1) (table_places bytes)) (set down p 1) (late || is_late down p)) 29) old) ∙ here in
        ap (λ (q : ℕ). read_by q (table_places bytes)) e ∙ read_long bytes long

  module _ (long : length bytes ≡ 1360) (done : 680 ≤ i) where
    none_left : drop i (table_places bytes) ≡ []
    none_left = drop_of_length-le (table_places bytes) {i = i} (omega (arith, table_length bytes))

    end : cond late 30 0 ≡ refusal_on (table_places bytes) none_down false
    end = sym (ap (λ (l : List ℕ). refusal_on l down late) none_left) ∙ r.asked

    all_stored : table_places bytes ≡ places
    all_stored =
        sym (take_all i (table_places bytes) (omega (arith, table_length bytes))) ∙ sym r.stored
        ∙ take_all i places (omega (arith, r.size))

    -- After the last entry a late place is refused,
    pub read_late : late ≡ true → refused 30 ≡ read_table bytes
    read_late is =
        let e : 30 ≡ refusal_on (table_places bytes) none_down false = sym (ap (λ (b : Bool). cond b 30 0) is) ∙ end in
        ap (λ (q : ℕ). read_by q (table_places bytes)) e ∙ read_long bytes long

    -- and where none was late, all places are stored.
    pub read_all : late ≡ false → took 1360 places ≡ read_table bytes
    read_all not =
        let e : 0 ≡ refusal_on (table_places bytes) none_down false = sym (ap (λ (b : Bool). cond b 30 0) not) ∙ end in
        ap (took 1360) (sym all_stored) ∙ ap (λ (q : ℕ). read_by q (table_places bytes)) e ∙ read_long bytes long

-- What the tests on the way say.
pub not_refused_lem : (b : Bool) → not b ≡ false → b ≡ true
not_refused_lem true e = refl
not_refused_lem false e = sym e

pub not_new : (b : Bool) → not b ≡ true → b ≡ false
not_new true e = sym e
not_new false e = refl

pub new_inside : (down : List ℕ) (p : ℕ) → is_new down p ≡ true → p < 680
new_inside down p new = ltb-true p 680 (and_both (ltb p 680) (eqb (get_or down p 0) 0) new).0

pub late_now : (late b now : Bool) → b ≡ true → now ≡ true → now ≡ late || b
late_now late b now e f = f ∙ sym (ap (λ (x : Bool). late || x) e ∙ or-true late)

pub late_still : (late b now : Bool) → b ≡ false → now ≡ late → now ≡ late || b
late_still late b now e f = f ∙ sym (ap (λ (x : Bool). late || x) e ∙ or-false late)

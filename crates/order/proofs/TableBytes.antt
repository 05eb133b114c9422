-- The bytes of a table are read as its places, and the places in ascending order are accepted.
use Prim.Native.Nat.{ℕ, zero, suc, ◌+◌, ◌*◌, ◌≤◌, ◌<◌}
use mathlib.Core.Path.{◌≡◌, refl, ap, subst, ◌∙◌}
use mathlib.Core.Bool.{true, ◌&&◌, not}
use mathlib.Core.List.{List, [], ◌∷◌, map}
use native.Mathlib.Decide.{ℕ_discrete}
use native.Mathlib.Omega.{arith}
use borrow.Author.Tests.{eq-eqb, lt-ltb}
use lib.Dec.{eqb, ltb}
use lib.ListN.{length, get_or}
use Rattle.basics.specs.Lists.{Mem, All, any_of, count_from}
use Rattle.basics.proofs.Booleans.{by_test, is_true}
use Rattle.basics.proofs.Counting.{count_length, count_mem}
use Rattle.basics.proofs.ListLaws.{all_map}
use Rattle.places.specs.Numbering.{parent_at}
use Rattle.places.proofs.Parents.{parent_before}
use Rattle.records.specs.Fields.{wide_of, wide_at, wide_then}
use Rattle.records.specs.Reading.{took, ask}
use Rattle.records.proofs.WideFields.{wide_of_lem}
use Rattle.order.specs.Table.{table_places, each_once, parents_first, read_table}
use Rattle.order.specs.TableBytes.{table_bytes, identity_table}
use Rattle.order.proofs.EveryPlace.{found_mem, once_below}

-- The fields behind the first one are those of the bytes behind it.
next_field : (p : ℕ) (bytes : List ℕ) (i : ℕ) → wide_at (wide_then p bytes) (2 * suc i) ≡ wide_at bytes (2 * i)
next_field p bytes i =
    let high : 2 * suc i ≡ suc (suc (2 * i)) = omega arith in
    let low : 2 * suc i + 1 ≡ suc (suc (2 * i + 1)) = omega arith in
    λ j. wide_of (get_or (wide_then p bytes) (high j) 0) (get_or (wide_then p bytes) (low j) 0)

-- A row of numbers from one more is the row, each one more.
row_from_next
    : {A : Type 0} (f g : ℕ → A) → ((i : ℕ) → f (suc i) ≡ g i) → (a k : ℕ)
    → map f (count_from (suc a) k) ≡ map g (count_from a k)
row_from_next f g same a zero = refl
row_from_next f g same a (suc k) = λ j. same a j ∷ row_from_next f g same (suc a) k j

fields_read_lem
    : (places : List ℕ) → All (λ (p : ℕ). p < 65536) places
    → map (λ (i : ℕ). wide_at (table_bytes places) (2 * i)) (count_from 0 (length places)) ≡ places
fields_read_lem [] h = refl
fields_read_lem (p ∷ places) h =
    let first : wide_at (wide_then p (table_bytes places)) (2 * 0) ≡ p = wide_of_lem p h.0 in
    let rest =
    row_from_next (λ (i : ℕ). wide_at (wide_then p (table_bytes places)) (2 * i)) (λ (i : ℕ). wide_at (table_bytes places) (2 * i))
    (next_field p (table_bytes places)) 0 (length places)
    ∙ fields_read_lem places h.1 in
    λ j. first j ∷ rest j

bytes_length : (places : List ℕ) → length (table_bytes places) ≡ 2 * length places
bytes_length [] = refl
bytes_length (p ∷ places) = omega (arith, bytes_length places)

-- A table's bytes are read as its places, where these are asked 29 and 30.
pub bytes_read_lem
    : (places : List ℕ) → length places ≡ 680 → each_once places ≡ true → parents_first places ≡ true
    → read_table (table_bytes places) ≡ took 1360 places
unfolding read_table table_places
bytes_read_lem places size once first =
    let few = all_map (λ (p : ℕ). p < 680) (λ (p : ℕ). p < 65536) (λ p h. omega arith) places (once_below places once) in
    let read = subst (λ (n : ℕ). map (λ (i : ℕ). wide_at (table_bytes places) (2 * i)) (count_from 0 n) ≡ places) size
    (fields_read_lem places few) in
    let long : eqb (length (table_bytes places)) 1360 ≡ true =
    eq-eqb (length (table_bytes places)) 1360 (omega (arith, bytes_length places, size)) in
    (λ j. ask 28 (long j) (ask 29 (each_once (read j)) (ask 30 (parents_first (read j)) (took 1360 (read j)))))
    ∙ (λ j. ask 29 (once j) (ask 30 (first j) (took 1360 places)))

-- What is not in a list is not found there.
not_found : (p : ℕ) (xs : List ℕ) → (Mem p xs → ⊥) → not (any_of (eqb p) xs) ≡ true
not_found p xs gone =
    by_test (any_of (eqb p) xs) (λ e. absurd (gone (found_mem p xs (is_true e)))) (λ e. ap not e)

-- In a row of places each stands once,
row_once : (a k : ℕ) → a + k ≤ 680 → each_once (count_from a k) ≡ true
row_once a zero h = refl
row_once a (suc k) h =
    let inside : ltb a 680 ≡ true = lt-ltb a 680 (omega arith) in
    let new = not_found a (count_from (suc a) k) (λ m. omega (arith, count_mem (suc a) k a m)) in
    let rest = row_once (suc a) k (omega arith) in
    λ j. (inside j && new j) && rest j

-- and none before its parent.
row_first : (a k : ℕ) → a + k ≤ 680 → parents_first (count_from a k) ≡ true
row_first a zero h = refl
row_first a (suc k) h =
    let gone : Mem (parent_at a) (count_from (suc a) k) → ⊥ = λ m.
    let inside = count_mem (suc a) k (parent_at a) m in
    elim (ℕ_discrete (parent_at a) 680) [
      | yes e ↦ omega (arith, inside, e)
      | no d ↦ omega (arith, inside, parent_before a d)
    ] in
    let first = not_found (parent_at a) (count_from (suc a) k) gone in
    let rest = row_first (suc a) k (omega arith) in
    λ j. first j && rest j

-- The table of 0 to 679 is accepted, as all places in ascending order.
pub identity_read : read_table identity_table ≡ took 1360 (count_from 0 680)
unfolding identity_table
identity_read =
    bytes_read_lem (count_from 0 680) (count_length 0 680) (row_once 0 680 (omega arith)) (row_first 0 680 (omega arith))

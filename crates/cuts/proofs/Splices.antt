-- What is written into an array grows at its front, word by word, and takes in what stands before or behind it.
use Prim.Native.Nat.{ℕ, suc, ◌+◌, ◌-◌, ◌≤◌, ◌<◌}
use mathlib.Core.Path.{◌≡◌, sym, ap, ◌∙◌}
use mathlib.Core.List.{List, [], ◌∷◌, ◌++◌, append_assoc}
use native.Mathlib.Omega.{arith}
use native.Mathlib.Numerals.{add-one}
use lib.ListN.{length, get_or, take, drop, set, length-append, take-append-drop, get_or-append}
use lib.Seq.{take-suc, take-take, get_or-take, drop-append-le, append_snoc, set_at, set_split, length-take-le}
use lib.Seq.{slice, slice_empty, slice-cons, length-slice}
use Rattle.records.proofs.Writing.{splice_none}
use Rattle.records.specs.Writing.{splice}

-- The word before what is written, with what stands behind it.
front
    : (xs w : List ℕ) (at : ℕ) → at < length xs
    → splice xs (at + 1) w ≡ take at xs ++ (get_or xs at 0 ∷ (w ++ drop (at + suc (length w)) xs))
front xs w at h =
    let e : at + 1 + length w ≡ at + suc (length w) = omega arith in
    ap (λ (l : List ℕ). l ++ (w ++ drop (at + 1 + length w) xs)) (ap (λ (n : ℕ). take n xs) (add-one at) ∙ take-suc xs at 0 h)
    ∙ append_snoc (take at xs) (get_or xs at 0) (w ++ drop (at + 1 + length w) xs)
    ∙ ap (λ (n : ℕ). take at xs ++ (get_or xs at 0 ∷ (w ++ drop n xs))) e

-- A word is stored before it,
pub splice_before
    : (xs w : List ℕ) (at v : ℕ) → at < length xs → set (splice xs (at + 1) w) at v ≡ splice xs at (v ∷ w)
splice_before xs w at v h =
    ap (λ (l : List ℕ). set l at v) (front xs w at h)
    ∙ set_at (take at xs) (get_or xs at 0) (w ++ drop (at + suc (length w)) xs) v at (length-take-le at xs (omega arith))

-- or is one that stands there.
pub splice_here : (xs w : List ℕ) (at : ℕ) → at < length xs → splice xs (at + 1) w ≡ splice xs at (get_or xs at 0 ∷ w)
splice_here xs w at h = front xs w at h

-- One word alone.
pub splice_one : (xs : List ℕ) (at v : ℕ) → at < length xs → set xs at v ≡ splice xs at (v ∷ [])
splice_one xs at v h =
    set_split xs at v h ∙ ap (λ (n : ℕ). take at xs ++ (v ∷ drop n xs)) (sym (add-one at))

-- What stands before it, and what stands behind it.
pub splice_known
    : (xs w : List ℕ) (at to : ℕ) → at ≤ to → to ≤ length xs → splice xs to w ≡ splice xs at (slice at to xs ++ w)
splice_known xs w at to h room =
    let e : to + length w ≡ at + length (slice at to xs ++ w) =
    omega (arith, length-append (slice at to xs) w, length-slice at to xs room) in
    let front : take to xs ≡ take at xs ++ slice at to xs =
    sym (take-append-drop at (take to xs)) ∙ ap (λ (l : List ℕ). l ++ slice at to xs) (take-take at to xs h) in
    ap (λ (l : List ℕ). l ++ (w ++ drop (to + length w) xs)) front
    ∙ append_assoc (take at xs) (slice at to xs) (w ++ drop (to + length w) xs)
    ∙ ap (λ (l : List ℕ). take at xs ++ l) (sym (append_assoc (slice at to xs) w (drop (to + length w) xs)))
    ∙ ap (λ (n : ℕ). take at xs ++ ((slice at to xs ++ w) ++ drop n xs)) e

pub splice_behind
    : (xs w : List ℕ) (at to : ℕ) → at + length w ≤ to → to ≤ length xs
    → splice xs at w ≡ splice xs at (w ++ slice (at + length w) to xs)
splice_behind xs w at to h room =
    let from = at + length w in
    let w_2 = slice from to xs in
    let e : to ≡ at + length (w ++ w_2) = omega (arith, length-append w w_2, length-slice from to xs room) in
    let back : drop from xs ≡ w_2 ++ drop to xs =
    ap (drop from) (sym (take-append-drop to xs))
    ∙ drop-append-le from (take to xs) (drop to xs) (omega (arith, length-take-le to xs room)) in
    ap (λ (l : List ℕ). take at xs ++ (w ++ l)) back
    ∙ ap (λ (l : List ℕ). take at xs ++ l) (sym (append_assoc w w_2 (drop to xs)))
    ∙ ap (λ (n : ℕ). take at xs ++ ((w ++ w_2) ++ drop n xs)) e

-- Laws of records written into a buffer: a record copied to the front of a part, and one record behind another.
use Prim.Native.Nat.{ℕ, ◌+◌, ◌-◌, ◌≤◌, ◌<◌}
use mathlib.Core.Path.{◌≡◌, sym, ap, ◌∙◌}
use mathlib.Core.List.{List, [], ◌++◌, append_assoc, append-nil}
use native.Mathlib.Omega.{arith}
use native.Mathlib.Nat.{add_assoc}
use native.Mathlib.Numerals.{add-one}
use lib.ListN.{length, get_or, take, drop, set, length-drop, length-append, take-append-drop, drop_of_length-le}
use lib.Seq.{paste, paste-suc, take-length, length-take-le, drop-drop, take_at, drop-append-add}
use Rattle.records.specs.Writing.{splice}
use Rattle.records.proofs.Parts.{rest}

-- One more byte is copied.
pub Copied-more
    : (t r : List ℕ) (i : ℕ) → i < length r → length r ≤ length t → set (paste t 0 r i) i (get_or r i 0) ≡ paste t 0 r (i + 1)
Copied-more t r i h k =
    let none : 0 + i ≡ i = omega arith in
    ap (λ (j : ℕ). set (paste t 0 r i) j (get_or r i 0)) (sym none)
    ∙ paste-suc t 0 r i 0 (omega arith) h
    ∙ ap (paste t 0 r) (sym (add-one i))

-- All bytes are copied.
pub copied : (t r : List ℕ) (i : ℕ) → i ≡ length r → paste t 0 r i ≡ r ++ drop (length r) t
copied t r i e = let none : 0 + length r ≡ length r = omega arith in ap (paste t 0 r) e ∙ rw (take-length r, none)

-- A buffer of which a part was lent, where that part has come back with a record at its front.
pub placed
    : (xs : List ℕ) (at : ℕ) (r ys : List ℕ) → ys ≡ r ++ drop (length r) (take (length xs - at) (drop at xs))
    → take at xs ++ (ys ++ drop (length xs - at) (drop at xs)) ≡ splice xs at r
placed xs at r ys e =
    let none : drop (length xs - at) (drop at xs) ≡ [] =
    drop_of_length-le (drop at xs) {i = length xs - at} (omega (arith, length-drop at xs)) in
    rw (none, append-nil ys, e, rest xs at, drop-drop (length r) at xs)

-- No byte changes where none is written.
pub splice_none : (xs : List ℕ) (at : ℕ) → xs ≡ splice xs at []
splice_none xs at = let none : at + 0 ≡ at = omega arith in rw none (sym (take-append-drop at xs))

-- A record behind another one is written as both together are.
pub splice_more
    : (xs : List ℕ) (at : ℕ) (a b : List ℕ) → at + length a ≤ length xs
    → splice (splice xs at a) (at + length a) b ≡ splice xs at (a ++ b)
splice_more xs at a b h =
    let lead = take at xs ++ a in
    let end = at + length a in
    let left = drop end xs in
    let size : length lead ≡ end =
    length-append (take at xs) a ∙ ap (λ (k : ℕ). k + length a) (length-take-le at xs (omega arith)) in
    let whole : take at xs ++ (a ++ left) ≡ lead ++ left = sym (append_assoc (take at xs) a left) in
    let front : take end (take at xs ++ (a ++ left)) ≡ lead = ap (take end) whole ∙ take_at lead left end size in
    let back : drop (end + length b) (take at xs ++ (a ++ left)) ≡ drop (at + length (a ++ b)) xs =
    ap (drop (end + length b)) whole
    ∙ ap (λ (k : ℕ). drop (k + length b) (lead ++ left)) (sym size)
    ∙ drop-append-add lead left (length b)
    ∙ drop-drop (length b) end xs
    ∙ ap (λ (k : ℕ). drop k xs) (add_assoc at (length a) (length b) ∙ ap (λ (k : ℕ). at + k) (sym (length-append a b))) in
    let behind = drop (at + length (a ++ b)) xs in
    rw (front, back, append_assoc (take at xs) a (b ++ behind), append_assoc a b behind)

-- The buffer keeps its length.
pub splice_length : (xs : List ℕ) (at : ℕ) (r : List ℕ) → at + length r ≤ length xs → length (splice xs at r) ≡ length xs
splice_length xs at r h = simp (length-append, length-drop, length-take-le at xs (omega arith)) (omega arith)

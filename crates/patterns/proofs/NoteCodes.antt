-- A note is read back from its number as it was.
use Prim.Native.Nat.{ℕ, ◌%◌, ◌<◌}
use mathlib.Core.Path.{◌≡◌, ap, ◌∙◌}
use mathlib.Core.Bool.{Bool, true, false, cond}
use native.Mathlib.Omega.{arith}
use lib.Dec.{eqb}
use Rattle.terms.specs.Term.{Wide}
use Rattle.patterns.specs.declared.PatternRecord.{PatternRecord}
use Rattle.patterns.specs.declared.PatternRecord.TheVariants.{Anything, Symbol, Range, Compound, Variable, Ranged, Series, Gauged}
use Rattle.patterns.specs.views.Note.{note}
use Rattle.patterns.specs.views.NoteCode.{packed_note, note_code, note_of, code_place, code_kind, code_variable, code_gauge, code_first, code_second, code_record, Fitting}

-- The record of kind k with these fields.
abbrev record_with : ℕ → ℕ → ℕ → ℕ → ℕ → ℕ → PatternRecord
record_with k v g x y arity =
    cond (eqb k 1) (Symbol x)
    (cond (eqb k 2) (Range x y)
    (cond (eqb k 3) (Compound x arity)
    (cond (eqb k 4) (Variable v)
    (cond (eqb k 5) (Ranged v x y) (cond (eqb k 6) (Series x y) (cond (eqb k 7) (Gauged g x y) Anything))))))

-- Each part of a number made of parts that fit is that part.
note_packed
    : (n k b x y : ℕ) → k < 8 → b < 256 → Wide x → Wide y
    → note_of (packed_note n k b x y) ≡ note n (record_with k (b % 16) b x y (packed_note n k b x y % 256))
unfolding code_record
note_packed n k b x y hk hb hx hy =
    let c = packed_note n k b x y in
    let place : code_place c ≡ n = omega arith in
    let kind : code_kind c ≡ k = omega arith in
    let variable : code_variable c ≡ b % 16 = omega arith in
    let gauge : code_gauge c ≡ b = omega arith in
    let first : code_first c ≡ x = omega arith in
    let second : code_second c ≡ y = omega arith in
    λ j. note (place j) (record_with (kind j) (variable j) (gauge j) (first j) (second j) (c % 256))

-- The note that a note's number stands for is that note.
pub note_kept : (n : ℕ) (r : PatternRecord) → Fitting r → note_of (note_code (note n r)) ≡ note n r
note_kept n Anything h = note_packed n 0 0 0 0 (omega arith) (omega arith) (omega arith) (omega arith)
note_kept n (Symbol a) h = note_packed n 1 0 a 0 (omega arith) (omega arith) h (omega arith)
note_kept n (Range l h) f = note_packed n 2 0 l h (omega arith) (omega arith) f.0 f.1
note_kept n (Compound a k) h =
    let arity : packed_note n 3 0 a k % 256 ≡ k = omega arith in
    note_packed n 3 0 a k (omega arith) (omega arith) h.0 (omega arith) ∙ ap (λ (i : ℕ). note n (Compound a i)) arity
note_kept n (Variable v) h =
    let small : v % 16 ≡ v = omega arith in
    note_packed n 4 v 0 0 (omega arith) (omega arith) (omega arith) (omega arith) ∙ ap (λ (i : ℕ). note n (Variable i)) small
note_kept n (Ranged v l h) f =
    let small : v % 16 ≡ v = omega (arith, f.0) in
    note_packed n 5 v l h (omega arith) (omega (arith, f.0)) f.1 f.2 ∙ ap (λ (i : ℕ). note n (Ranged i l h)) small
note_kept n (Series l h) f = note_packed n 6 0 l h (omega arith) (omega arith) f.0 f.1
note_kept n (Gauged g l h) f = note_packed n 7 g l h (omega arith) f.0 f.1 f.2

either_fits : (b : Bool) (x y : PatternRecord) → Fitting x → Fitting y → Fitting (cond b x y)
either_fits true x y hx hy = hx
either_fits false x y hx hy = hy

-- The record that a number stands for has fields that fit.
pub code_fits : (c : ℕ) → Fitting (code_record c)
unfolding code_record
code_fits c =
    either_fits (eqb (code_kind c) 1) _ _ (omega arith)
    (either_fits (eqb (code_kind c) 2) _ _ (omega arith)
    (either_fits (eqb (code_kind c) 3) _ _ (omega arith)
    (either_fits (eqb (code_kind c) 4) _ _ (omega arith)
    (either_fits (eqb (code_kind c) 5) _ _ (omega arith)
    (either_fits (eqb (code_kind c) 6) _ _ (omega arith) (either_fits (eqb (code_kind c) 7) _ _ (omega arith) tt))))))

-- `lines::put_hex` meets its contract: the digits of the sixteenth, then the last one.
use Prim.Native.Nat.{ℕ, ◌+◌, ◌-◌, ◌/◌, ◌%◌, ◌≤◌}
use mathlib.Core.Path.{◌≡◌, sym, ap, subst, ◌∙◌}
use mathlib.Core.List.{List, [], ◌∷◌, ◌++◌}
use native.Mathlib.Omega.{arith}
use lib.ListN.{length}
use Rattle.records.proofs.Writing.{splice_none}
use Rattle.digits.specs.Decimal.{digit}
use Rattle.lines.specs.Lines.{hex_digits}
use Rattle.lines.proofs.Hexadecimal.{hex_none, hex_more}
use Rattle.lines.proofs.Wrote.{wrote_as, wrote_more, first_fits, rest_fits}
use Rattle.lines.proofs.+put_hex.Goals as goal

less_room
    : (xs : List ℕ) (at count x : ℕ) → (count ≡ 0 → ⊥) → at + length (hex_digits count x) ≤ length xs
    → at + length (hex_digits (count - 1) (x / 16) ++ (digit (x % 16) ∷ [])) ≤ length xs
less_room xs at count x some = subst (λ (l : List ℕ). at + length l ≤ length xs) (hex_more count x some)

pub returns-then-count-eq0 : goal.returns-then-count-eq0
returns-then-count-eq0 t c =
    let a = c.args in
    let none = ap (λ (k : ℕ). hex_digits k a.x) c.if-count-eq0.true ∙ hex_none a.x in
    wrote_as a.buf.now a.at (sym none) (omega arith, splice_none a.buf.now a.at)

pub put_hex-end-requires : goal.put_hex-end-requires
put_hex-end-requires t c =
    let a = c.args in (
      omega arith,
      first_fits a.buf.now a.at (hex_digits (a.count - 1) (a.x / 16)) (digit (a.x % 16) ∷ [])
          (less_room a.buf.now a.at a.count a.x c.if-count-eq0.false c.requires),
    )

pub put-requires : goal.put-requires
put-requires t c =
    let a = c.args in
    rest_fits a.buf.now a.at (hex_digits (a.count - 1) (a.x / 16)) (digit (a.x % 16) ∷ [])
    (less_room a.buf.now a.at a.count a.x c.if-count-eq0.false c.requires) c.put_hex-end.ensures

pub returns : goal.returns
returns t c =
    let a = c.args in
    let some = c.if-count-eq0.false in
    let less = c.put_hex-end in
    let is = ap (λ (d : ℕ). d ∷ []) c.digit.ensures in
    let last = wrote_as less.new.buf less.result is c.put.ensures in
    wrote_as a.buf.now a.at (sym (hex_more a.count a.x some))
    (wrote_more a.buf.now a.at (hex_digits (a.count - 1) (a.x / 16)) (digit (a.x % 16) ∷ [])
    (less_room a.buf.now a.at a.count a.x some c.requires) less.ensures last)

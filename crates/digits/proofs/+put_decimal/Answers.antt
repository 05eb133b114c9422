-- `digits::put_decimal` meets its contract: the digits of the tenth, then the last one.
use Prim.Native.Nat.{ℕ, ◌+◌, ◌/◌, ◌%◌, ◌≤◌}
use mathlib.Core.Path.{sym, ap, subst, ◌∙◌}
use mathlib.Core.List.{List, [], ◌∷◌, ◌++◌}
use native.Mathlib.Omega.{arith}
use lib.ListN.{length}
use Rattle.digits.specs.Decimal.{digit, decimal}
use Rattle.digits.proofs.Digits.{decimal_one, decimal_more}
use Rattle.records.proofs.Wrote.{wrote_as, wrote_more, first_fits, rest_fits}
use Rattle.digits.proofs.+put_decimal.Goals as goal

tenth_room
    : (xs : List ℕ) (at n : ℕ) → 10 ≤ n → at + length (decimal n) ≤ length xs
    → at + length (decimal (n / 10) ++ (digit (n % 10) ∷ [])) ≤ length xs
tenth_room xs at n ten = subst (λ (l : List ℕ). at + length l ≤ length xs) (decimal_more n ten)

pub put-requires : goal.put-requires
put-requires t c = omega (arith, ap length (decimal_one c.args.n c.if-n-lt10.true), c.requires)

pub returns-then-n-lt10 : goal.returns-then-n-lt10
returns-then-n-lt10 t c =
    let a = c.args in
    wrote_as a.buf.now a.at (ap (λ (d : ℕ). d ∷ []) c.digit.ensures ∙ sym (decimal_one a.n c.if-n-lt10.true)) c.put.ensures

pub put_decimal-end-requires : goal.put_decimal-end-requires
put_decimal-end-requires t c =
    let a = c.args in (
      omega arith,
      first_fits a.buf.now a.at (decimal (a.n / 10)) (digit (a.n % 10) ∷ [])
          (tenth_room a.buf.now a.at a.n c.if-n-lt10.false c.requires),
    )

pub put-requires-2 : goal.put-requires-2
put-requires-2 t c =
    let a = c.args in
    rest_fits a.buf.now a.at (decimal (a.n / 10)) (digit (a.n % 10) ∷ [])
    (tenth_room a.buf.now a.at a.n c.if-n-lt10.false c.requires) c.put_decimal-end.ensures

pub returns : goal.returns
returns t c =
    let a = c.args in
    let ten = c.if-n-lt10.false in
    let tenth = c.put_decimal-end in
    let is = ap (λ (d : ℕ). d ∷ []) c.digit-2.ensures in
    let last = wrote_as tenth.new.buf tenth.result is c.put-2.ensures in
    wrote_as a.buf.now a.at (sym (decimal_more a.n ten))
    (wrote_more a.buf.now a.at (decimal (a.n / 10)) (digit (a.n % 10) ∷ [])
    (tenth_room a.buf.now a.at a.n ten c.requires) tenth.ensures last)

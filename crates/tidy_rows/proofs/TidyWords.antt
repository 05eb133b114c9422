-- What a variable becomes, by its word.
use Prim.Native.Nat.{ℕ, ◌/◌, ◌%◌}
use mathlib.Core.Path.{◌≡◌, sym}
use mathlib.Core.Bool.{Bool, cond}
use lib.Dec.{eqb, ltb}
use Rattle.patterns.specs.declared.PatternRecord.TheVariants.{Anything, Range, Variable, Ranged}
use Rattle.rule_rows.specs.views.Words.{word_low, word_high, word_uses}
use Rattle.tidy_rows.specs.views.TidyRow.{tidy_word}

-- What a variable becomes, by the two tests of its word.
pub tidy_by
    : (w : ℕ) (a b : Bool) → ltb (word_uses w) 2 ≡ a → eqb (word_high w) 0x1_0000 ≡ b
    → cond a (cond b Anything (Range (word_low w) (w / 0x1_0000 % 0x1_0000)))
    (cond b (Variable (w / 0x8_0000_0000 % 256)) (Ranged (w / 0x8_0000_0000 % 256) (word_low w) (w / 0x1_0000 % 0x1_0000)))
    ≡ tidy_word w
unfolding tidy_word
tidy_by w a b p q =
    sym
    (λ j.
    cond (p j) (cond (q j) Anything (Range (word_low w) (w / 0x1_0000 % 0x1_0000)))
    (cond (q j) (Variable (w / 0x8_0000_0000 % 256))
    (Ranged (w / 0x8_0000_0000 % 256) (word_low w) (w / 0x1_0000 % 0x1_0000))))

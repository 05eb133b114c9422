-- A word 1 to 4, and a rule from its least on.
use Rattle.std.proofs.Common.{◌≡◌, ◌<◌, ◌⊎◌, Bool, true, false, cond, leb, refl, sym, ◌∙◌, inl, inr, le-leb}
use borrow.Author.Tests.{lt-leb}
use mir.Val.{bool_byte}
use Rattle.window.proofs.Taken.{no_word, by_least}
use Rattle.window.proofs.is_taken.Goals as goal

pub returns-then-word-lt1 : goal.returns-then-word-lt1
returns-then-word-lt1 c =
    let a = c.args in
    let none : (a.word < 1) ⊎ (4 < a.word) = elim c.then-word-lt1.either [ inl h ↦ inl h | inr h ↦ inr h.1 ] in
    sym (no_word a.word a.rule none)

as_byte : (b : Bool) → bool_byte b ≡ cond b 1 0
as_byte true = refl
as_byte false = refl

pub returns-then-least-rule : goal.returns-then-least-rule
returns-then-least-rule c =
    let a = c.args in
    let least = bool_byte (leb a.word 2) in
    sym
    (by_least a.word a.rule least c.if-word-lt1.false c.if-word-gt4.false (as_byte (leb a.word 2))
    ∙ rw (le-leb least a.rule c.if-least-rule.true))

pub returns-else-least-rule : goal.returns-else-least-rule
returns-else-least-rule c =
    let a = c.args in
    let least = bool_byte (leb a.word 2) in
    sym
    (by_least a.word a.rule least c.if-word-lt1.false c.if-word-gt4.false (as_byte (leb a.word 2))
    ∙ rw (lt-leb least a.rule c.if-least-rule.false))

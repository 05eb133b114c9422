-- Two tests of the word: whether the variable is repeated, and whether it has a range.
use mathlib.Core.Bool.{true, false}
use borrow.Author.Tests.{lt-ltb, le-ltb, eq-eqb, ne_eqb}
use Rattle.tidy_rows.proofs.TidyWords.{tidy_by}
use Rattle.tidy_rows.proofs.rules.tidy_variable.Goals as goal

pub returns-then-ranged : goal.returns-then-ranged
returns-then-ranged c =
    let w = c.args.word in
    tidy_by w true false (lt-ltb _ _ c.if-word-lt2.true) (ne_eqb _ _ c.if-ranged.true)

pub returns-then-word-lt2 : goal.returns-then-word-lt2
returns-then-word-lt2 c =
    let w = c.args.word in
    tidy_by w true true (lt-ltb _ _ c.if-word-lt2.true) (eq-eqb _ _ c.if-ranged.false)

pub returns-then-ranged-2 : goal.returns-then-ranged-2
returns-then-ranged-2 c =
    let w = c.args.word in
    tidy_by w false false (le-ltb _ _ c.if-word-lt2.false) (ne_eqb _ _ c.if-ranged-2.true)

pub returns : goal.returns
returns c =
    let w = c.args.word in
    tidy_by w false true (le-ltb _ _ c.if-word-lt2.false) (eq-eqb _ _ c.if-ranged-2.false)

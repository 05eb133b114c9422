-- `expand::case_length` meets its contract.
use native.Mathlib.Omega.{arith}
use borrow.Author.Tests.{lt-ltb, le-ltb}
use Rattle.keys.proofs.expand.case_length.Goals as goal

pub returns-then-code-lt33554432 : goal.returns-then-code-lt33554432
returns-then-code-lt33554432 c = (λ high. simp (lt-ltb _ _ c.if-code-lt33554432.true), omega arith)

pub returns-then-code-lt50331648 : goal.returns-then-code-lt50331648
returns-then-code-lt50331648 c = (λ high. simp (le-ltb _ _ c.if-code-lt33554432.false, lt-ltb _ _ c.if-code-lt50331648.true), omega arith)

pub returns : goal.returns
returns c = (λ high. simp (le-ltb _ _ c.if-code-lt33554432.false, le-ltb _ _ c.if-code-lt50331648.false), omega arith)

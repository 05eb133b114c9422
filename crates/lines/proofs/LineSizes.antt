-- How long the lines are.
use Prim.Native.Nat.{ℕ, ◌+◌, ◌≤◌, ◌<◌}
use mathlib.Core.Path.{◌≡◌}
use native.Mathlib.Omega.{arith}
use lib.ListN.{length, length-append}
use Rattle.terms.specs.Answer.{Answer, commit, execute, suspend, fail, rule_of}
use Rattle.digits.specs.Decimal.{decimal}
use Rattle.digits.proofs.Digits.{decimal_size}
use Rattle.lines.specs.Lines.{answer_word, sheet_line, piece_line, refused_line}
use Rattle.lines.proofs.Hexadecimal.{hex_size}

-- A number that fits a byte has at most three digits.
byte_size : (n : ℕ) → n < 256 → length (decimal n) ≤ 3
byte_size n h = decimal_size 2 n (omega arith)

word_size : (x : Answer) → length (answer_word x) ≤ 7
word_size (commit i) = omega arith
word_size (execute i) = omega arith
word_size suspend = omega arith
word_size fail = omega arith

-- The line of a sheet whose fields fit a byte each, the nodes two.
pub sheet_size
    : (arity rules tests nodes : ℕ) → arity < 256 → rules < 256 → tests < 256 → nodes < 65536
    → length (sheet_line arity rules tests nodes) ≤ 24
sheet_size arity rules tests nodes a r t n =
    let a-size = byte_size arity a in
    let r-size = byte_size rules r in
    let t-size = byte_size tests t in
    let n-size : length (decimal nodes) ≤ 5 = decimal_size 4 nodes (omega arith) in
    simp length-append (omega arith)

-- The line of a piece of which the number fits four bytes, rule and edges one each.
pub piece_size
    : (number : ℕ) (answer : Answer) (edges waits : ℕ) → number < 4294967296 → rule_of answer < 256 → edges < 256
    → length (piece_line number answer edges waits) ≤ 44
piece_size number answer edges waits n r e =
    let n-size : length (decimal number) ≤ 10 = decimal_size 9 number (omega arith) in
    let w-size = word_size answer in
    let r-size = byte_size (rule_of answer) r in
    let e-size = byte_size edges e in
    let s-size = hex_size 16 waits in
    simp length-append (omega arith)

-- The line of a refusal whose number fits a byte.
pub refused_size : (q : ℕ) → q < 256 → length (refused_line q) ≤ 12
refused_size q h = let q-size = byte_size q h in simp length-append (omega arith)

-- A line fits where as many bytes do as it may have.
pub line_fits : (at k most n : ℕ) → k ≤ most → at + most ≤ n → at + k ≤ n
line_fits at k most n h i = omega arith

pub line_ends : (at k most : ℕ) {end : ℕ} → k ≤ most → end ≡ at + k → end ≤ at + most
line_ends at k most h e = omega arith

-- The lines that the listing prints, as bytes (document 01, "One listing").
use Rattle.std.specs.Prelude.{ℕ, zero, suc, ◌/◌, ◌%◌, List, [], ◌∷◌, ◌++◌}
use Rattle.digits.specs.Decimal.{digit, decimal}
use Rattle.terms.specs.Answer.{Answer, commit, execute, suspend, fail, rule_of}

-- The last so many hexadecimal digits of x, the highest first; and "16 lower-case hexadecimal digits".
unfoldable pub hex_digits : ℕ → ℕ → List ℕ
hex_digits zero x = []
hex_digits (suc k) x = hex_digits k (x / 16) ++ (digit (x % 16) ∷ [])

abbrev pub hex16 : ℕ → List ℕ
hex16 x = hex_digits 16 x

-- sheet, refused; commit, execute, suspend, fail.
abbrev pub sheet_word : List ℕ
sheet_word = 0x73 ∷ 0x68 ∷ 0x65 ∷ 0x65 ∷ 0x74 ∷ []

abbrev pub refused_word : List ℕ
refused_word = 0x72 ∷ 0x65 ∷ 0x66 ∷ 0x75 ∷ 0x73 ∷ 0x65 ∷ 0x64 ∷ []

abbrev pub answer_word : Answer → List ℕ
answer_word (commit i) = 0x63 ∷ 0x6f ∷ 0x6d ∷ 0x6d ∷ 0x69 ∷ 0x74 ∷ []
answer_word (execute i) = 0x65 ∷ 0x78 ∷ 0x65 ∷ 0x63 ∷ 0x75 ∷ 0x74 ∷ 0x65 ∷ []
answer_word suspend = 0x73 ∷ 0x75 ∷ 0x73 ∷ 0x70 ∷ 0x65 ∷ 0x6e ∷ 0x64 ∷ []
answer_word fail = 0x66 ∷ 0x61 ∷ 0x69 ∷ 0x6c ∷ []

-- "One space parts the fields." Each line ends with a line feed.
abbrev pub line : List ℕ → List (List ℕ) → List ℕ
line first [] = first ++ (0x0a ∷ [])
line first (next ∷ fields) = first ++ (0x20 ∷ line next fields)

-- "a line with the word sheet, arity, rules, tests, nodes"
abbrev pub sheet_line : ℕ → ℕ → ℕ → ℕ → List ℕ
sheet_line arity rules tests nodes = line sheet_word (decimal arity ∷ decimal rules ∷ decimal tests ∷ decimal nodes ∷ [])

-- "for each piece a line with its number from 1, answer, rule, edges, wait list in 16 lower-case hexadecimal digits"
abbrev pub piece_line : ℕ → Answer → ℕ → ℕ → List ℕ
piece_line number answer edges waits =
    line (decimal number) (answer_word answer ∷ decimal (rule_of answer) ∷ decimal edges ∷ hex16 waits ∷ [])

-- "Any refusal prints "refused", a space and the number as one line".
abbrev pub refused_line : ℕ → List ℕ
refused_line q = line refused_word (decimal q ∷ [])

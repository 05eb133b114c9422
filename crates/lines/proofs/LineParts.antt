-- Each line taken apart into its fields, each with the byte after it.
use Prim.Native.Nat.{ℕ}
use mathlib.Core.Path.{◌≡◌, sym, ap, ◌∙◌}
use mathlib.Core.List.{List, [], ◌∷◌, ◌++◌, append_assoc}
use Rattle.terms.specs.Answer.{Answer, rule_of}
use Rattle.lines.proofs.Wrote.{Five, joined}
use Rattle.digits.specs.Decimal.{decimal}
use Rattle.lines.specs.Lines.{hex16, sheet_word, refused_word, answer_word, line, sheet_line, piece_line, refused_line}

-- A field and the space after it, and a last field and the line feed after it.
abbrev pub spaced : List ℕ → List ℕ
spaced field = field ++ (0x20 ∷ [])

abbrev pub ended : List ℕ → List ℕ
ended field = field ++ (0x0a ∷ [])

next_field : (first next : List ℕ) (fields : List (List ℕ)) → line first (next ∷ fields) ≡ spaced first ++ line next fields
next_field first next fields = sym (append_assoc first (0x20 ∷ []) (line next fields))

-- A line of five fields.
abbrev pub five_parts : List ℕ → List ℕ → List ℕ → List ℕ → List ℕ → Five
five_parts a b c d e = record { one = spaced a; two = spaced b; three = spaced c; four = spaced d; five = ended e }

five_fields : (a b c d e : List ℕ) → line a (b ∷ c ∷ d ∷ e ∷ []) ≡ joined (five_parts a b c d e)
five_fields a b c d e =
    next_field a b (c ∷ d ∷ e ∷ [])
    ∙ ap (spaced a ++◌) (next_field b c (d ∷ e ∷ [])
    ∙ ap (spaced b ++◌) (next_field c d (e ∷ []) ∙ ap (spaced c ++◌) (next_field d e [])))

abbrev pub sheet_parts : ℕ → ℕ → ℕ → ℕ → Five
sheet_parts arity rules tests nodes = five_parts sheet_word (decimal arity) (decimal rules) (decimal tests) (decimal nodes)

pub sheet_parts_lem
    : (arity rules tests nodes : ℕ) → sheet_line arity rules tests nodes ≡ joined (sheet_parts arity rules tests nodes)
sheet_parts_lem arity rules tests nodes = five_fields sheet_word (decimal arity) (decimal rules) (decimal tests) (decimal nodes)

abbrev pub piece_parts : ℕ → Answer → ℕ → ℕ → Five
piece_parts number answer edges waits =
    five_parts (decimal number) (answer_word answer) (decimal (rule_of answer)) (decimal edges) (hex16 waits)

pub piece_parts_lem
    : (number : ℕ) (answer : Answer) (edges waits : ℕ)
    → piece_line number answer edges waits ≡ joined (piece_parts number answer edges waits)
piece_parts_lem number answer edges waits =
    five_fields (decimal number) (answer_word answer) (decimal (rule_of answer)) (decimal edges) (hex16 waits)

pub refused_parts : (q : ℕ) → refused_line q ≡ spaced refused_word ++ ended (decimal q)
refused_parts q = next_field refused_word (decimal q) []

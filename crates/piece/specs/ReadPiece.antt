-- How a piece is read: its arity and terms, or the number of the first question that gets a no (document 01, "Questions at the
-- counter", 12 to 17; document 02, requests 4, 6 and 7).
use Rattle.std.specs.Prelude.{ℕ, zero, suc, cond, ◌&&◌, List, length, drop, leb, eqb}
use Rattle.records.specs.Kinds.{record_length, kind_of, begins_with, is_whole}
use Rattle.records.specs.Fields.{byte_at, wide_at}
use Rattle.records.specs.Reading.{Reading, took, refused, ask, after, and_then, read_row}
use Rattle.terms.specs.Term.{Term, Terms, on_gauge, unknown, never, symbol, number, numbers, compound, nil, cons}
use Rattle.piece.specs.Piece.{Piece}

-- The term of a record, by its kind. A compound is read as given. "Record 34 (wide low, wide high): a number known to lie between
-- them"; "a span with low above high is refused (32), after question 16 at that term": a span is no compound, so 15 and 16 have
-- nothing to ask there. "Record 35 stands for a reading that will never come." "Record 36 (gauge, wide value) is a number on a
-- named gauge; record 32 means gauge 0."
abbrev pub term_of : Reading Term → List ℕ → Reading Term
term_of ofArguments s =
    cond (eqb (kind_of s) 0x30) (took (record_length 0x30) unknown)
    (cond (eqb (kind_of s) 0x31) (took (record_length 0x31) (symbol (wide_at s 1)))
    (cond (eqb (kind_of s) 0x32) (took (record_length 0x32) (number (wide_at s 1)))
    (cond (eqb (kind_of s) 0x33) ofArguments
    (cond (eqb (kind_of s) 0x34)
    (ask 32 (leb (wide_at s 1) (wide_at s 3)) (took (record_length 0x34) (numbers (wide_at s 1) (wide_at s 3))))
    (cond (eqb (kind_of s) 0x35) (took (record_length 0x35) never)
    (cond (eqb (kind_of s) 0x36) (took (record_length 0x36) (number (on_gauge (byte_at s 1) (wide_at s 2))))
    (refused 14)))))))

-- A term with so many levels below it: "14 Is each term a whole record of kinds 30 to 33?" Of records 34 and 35: "Question 14
-- admits it"; of 36: "Questions 4, 7 and 14 take the new records in". "15 If compound, is its depth at most 3?" Its depth is 4
-- where no level is below. "16 Is its arity 1 to 4?" Its arguments follow.
unfoldable pub read_term : ℕ → List ℕ → Reading Term
read_term zero s = ask 14 (is_whole 0x30 0x36 s) (term_of (refused 15) s)
read_term (suc below) s =
    ask 14 (is_whole 0x30 0x36 s)
    (term_of
    (ask 16 (leb 1 (byte_at s 3) && leb (byte_at s 3) 4)
    (after (record_length 0x33) (compound (wide_at s 1))
    (read_row nil cons (read_term below) (byte_at s 3) (drop (record_length 0x33) s))))
    s)

-- n terms in a row.
abbrev pub read_terms : ℕ → ℕ → List ℕ → Reading Terms
read_terms below n s = read_row nil cons (read_term below) n s

-- "12 Does it begin with a whole 11 record?" "13 Is its arity 1 to 8?": the arity.
abbrev pub read_arity : List ℕ → Reading ℕ
read_arity s =
    ask 12 (begins_with 0x11 s)
    (ask 13 (leb 1 (byte_at s 1) && leb (byte_at s 1) 8) (took (record_length 0x11) (byte_at s 1)))

-- Then the terms, which stand at depth 1 with 3 levels below. The piece ends with its last term: bytes may follow it.
unfoldable pub read_prefix : List ℕ → Reading Piece
read_prefix s =
    and_then (read_arity s) (λ a n. after a (λ ts. record { arity = n; terms = ts }) (read_terms 3 n (drop a s)))

-- "17 Are no bytes left?"
unfoldable pub read_piece : List ℕ → Reading Piece
read_piece s = and_then (read_prefix s) (λ a piece. ask 17 (eqb a (length s)) (took a piece))

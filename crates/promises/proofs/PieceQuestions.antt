-- A piece is refused by one of its own questions, 12 to 17, or by 32.
use Prim.Native.Nat.{ℕ, zero, suc}
use mathlib.Core.Path.{refl}
use mathlib.Core.Bool.{Bool, true, false, ◌&&◌, cond}
use mathlib.Core.List.{List}
use mathlib.Core.Logic.{inl, inr}
use native.Mathlib.Omega.{arith}
use lib.Dec.{leb, eqb}
use lib.ListN.{length, drop}
use Rattle.records.specs.Kinds.{kind_of, begins_with, is_whole}
use Rattle.records.specs.Fields.{byte_at, wide_at}
use Rattle.records.specs.Reading.{Reading, took, refused, ask, after}
use Rattle.terms.specs.Term.{Term, Terms, numbers, compound, nil, cons}
use Rattle.piece.specs.Piece.{Piece}
use Rattle.piece.specs.ReadPiece.{term_of, read_term, read_terms, read_arity, read_prefix, read_piece}
use Rattle.accepted.proofs.Named.{Named, ask_named, then_named, after_named, row_named}
use Rattle.promises.specs.Questions.{PieceQuestion}

-- So it is with the record of a term,
kind_named : (b : Bool) (x y : Reading Term) → Named PieceQuestion x → Named PieceQuestion y → Named PieceQuestion (cond b x y)
kind_named true x y h k = h
kind_named false x y h k = k

record_named
    : (nested : Reading Term) → Named PieceQuestion nested → (s : List ℕ)
    → Named PieceQuestion (ask 14 (is_whole 0x30 0x36 s) (term_of nested s))
record_named nested named s =
    ask_named PieceQuestion 14 (is_whole 0x30 0x36 s) (term_of nested s) (inl (omega arith, omega arith))
    (kind_named (eqb (kind_of s) 0x30) _ _ tt
    (kind_named (eqb (kind_of s) 0x31) _ _ tt
    (kind_named (eqb (kind_of s) 0x32) _ _ tt
    (kind_named (eqb (kind_of s) 0x33) _ _ named
    (kind_named (eqb (kind_of s) 0x34) _ _
    (ask_named PieceQuestion 32 (leb (wide_at s 1) (wide_at s 3)) (took 5 (numbers (wide_at s 1) (wide_at s 3))) (inr refl) tt)
    (kind_named (eqb (kind_of s) 0x35) _ _ tt
    (kind_named (eqb (kind_of s) 0x36) _ _ tt
    (inl (omega arith, omega arith)))))))))

-- with a term,
term_named : (below : ℕ) (s : List ℕ) → Named PieceQuestion (read_term below s)
unfolding read_term
term_named zero s = record_named (refused 15) (inl (omega arith, omega arith)) s
term_named (suc below) s =
    let n = byte_at s 3 in
    let arguments : Reading Terms = read_terms below n (drop 4 s) in
    let all = after 4 (compound (wide_at s 1)) arguments in
    record_named (ask 16 (leb 1 n && leb n 4) all)
    (ask_named PieceQuestion 16 (leb 1 n && leb n 4) all (inl (omega arith, omega arith))
    (after_named PieceQuestion 4 (compound (wide_at s 1)) arguments
    (row_named PieceQuestion nil cons (read_term below) (term_named below) n (drop 4 s))))
    s

arity_named : (s : List ℕ) → Named PieceQuestion (read_arity s)
arity_named s =
    let few = leb 1 (byte_at s 1) && leb (byte_at s 1) 8 in
    let read : Reading ℕ = took 2 (byte_at s 1) in
    ask_named PieceQuestion 12 (begins_with 0x11 s) (ask 13 few read) (inl (omega arith, omega arith))
    (ask_named PieceQuestion 13 few read (inl (omega arith, omega arith)) tt)

-- with a piece that a longer input begins with,
pub prefix_named : (s : List ℕ) → Named PieceQuestion (read_prefix s)
unfolding read_prefix
prefix_named s =
    let piece : ℕ → Terms → Piece = λ n ts. record { arity = n; terms = ts } in
    then_named PieceQuestion (read_arity s) (λ a n. after a (piece n) (read_terms 3 n (drop a s))) (arity_named s)
    (λ a n.
    after_named PieceQuestion a (piece n) (read_terms 3 n (drop a s))
    (row_named PieceQuestion nil cons (read_term 3) (term_named 3) n (drop a s)))

-- and with a piece.
pub piece_named : (s : List ℕ) → Named PieceQuestion (read_piece s)
unfolding read_piece
piece_named s =
    then_named PieceQuestion (read_prefix s) (λ a piece. ask 17 (eqb a (length s)) (took a piece)) (prefix_named s)
    (λ a piece. ask_named PieceQuestion 17 (eqb a (length s)) (took a piece) (inl (omega arith, omega arith)) tt)

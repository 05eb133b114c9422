-- A piece has at least three bytes.
use Prim.Native.Nat.{ℕ, zero, suc, ◌≤◌}
use mathlib.Core.Path.{◌≡◌, refl, sym, subst}
use mathlib.Core.Bool.{◌&&◌}
use mathlib.Core.List.{List}
use native.Mathlib.Omega.{arith}
use lib.Dec.{leb}
use lib.ListN.{drop}
use Rattle.records.specs.Reading.{Reading, took, refused, after, and_then}
use Rattle.records.proofs.Rows.{ask_holds, after_took, row_split}
use Rattle.terms.specs.Term.{Term, Terms, numbers, compound, nil, cons}
use Rattle.piece.specs.declared.TermRecord.TheVariants.{Unknown, Symbol, Number, Compound, Span, Never, Gauged}
use Rattle.std.specs.Prelude.{Result, Ok, Err}
use Rattle.records.specs.declared.refusal.Refusal.{Refusal}
use Rattle.piece.specs.declared.TermRecord.{TermRecord}
use Rattle.piece.specs.views.TermRecord.{term_head, on_head}
use Rattle.piece.specs.Piece.{Piece}
use Rattle.piece.specs.ReadPiece.{read_term, read_terms, read_arity, read_prefix}
use Rattle.piece.proofs.TermsRead.{read_compound, by_head}
use Rattle.piece.proofs.PiecesRead.{arity_read_lem}

-- What was read took a byte.
abbrev Some : {A : Type 0} → Reading A → Type 0
Some (took k x) = 1 ≤ k
Some (refused q) = Unit

some_after : {A B : Type 0} (a : ℕ) (f : A → B) (r : Reading A) → 1 ≤ a → Some (after a f r)
some_after a f (took b x) h = omega arith
some_after a f (refused q) h = tt

some_head : (f : ℕ → ℕ → Reading Term) → ((a n : ℕ) → Some (f a n)) → (h : Result TermRecord Refusal) → Some (on_head f h)
some_head f each (Ok Unknown) = omega arith
some_head f each (Ok (Symbol a)) = omega arith
some_head f each (Ok (Number a)) = omega arith
some_head f each (Ok (Compound a n)) = each a n
some_head f each (Ok (Span l h)) = ask_holds {A = Term} Some 32 (leb l h) (took 5 (numbers l h)) tt (λ _. omega arith)
some_head f each (Ok Never) = omega arith
some_head f each (Ok (Gauged g a)) = omega arith
some_head f each (Err q) = tt

some_compound : (below : ℕ) (s : List ℕ) (a n : ℕ) → Some (read_compound below s a n)
unfolding read_compound
some_compound zero s a n = tt
some_compound (suc below) s a n =
    ask_holds {A = Term} Some 16 (leb 1 n && leb n 4) (after 4 (compound a) (read_terms below n (drop 4 s))) tt
    (λ _. some_after 4 (compound a) (read_terms below n (drop 4 s)) (omega arith))

some_term : (below : ℕ) (s : List ℕ) → Some (read_term below s)
some_term below s = subst Some (sym (by_head below s)) (some_head (read_compound below s) (some_compound below s) (term_head s))

some_terms : (n : ℕ) (s : List ℕ) {k : ℕ} {ts : Terms} → 1 ≤ n → read_terms 3 n s ≡ took k ts → 1 ≤ k
some_terms zero s h e = absurd (omega arith)
some_terms (suc n) s h e =
    let r = row_split nil cons (read_term 3) n s e in
    let first : 1 ≤ r.first_bytes = subst Some r.read_first (some_term 3 s) in
    omega (arith, r.all_bytes)

by_arity
    : (s : List ℕ) (r : Reading ℕ) {k : ℕ} {piece : Piece} → read_arity s ≡ r
    → and_then r (λ a n. after a (λ ts. record { arity = n; terms = ts }) (read_terms 3 n (drop a s))) ≡ took k piece → 3 ≤ k
by_arity s (took a n) h e =
    let head = arity_read_lem s h in
    let (b, ts, read, bytes, is) = after_took a (λ ts. record { arity = n; terms = ts }) (read_terms 3 n (drop a s)) e in
    omega (arith, some_terms n (drop a s) head.least read, head.bytes, bytes)
by_arity s (refused q) h e = let z : ◌≡◌ {A = ℕ} 0 1 = cc in absurd (omega arith)

pub least_piece : (s : List ℕ) {k : ℕ} {piece : Piece} → read_prefix s ≡ took k piece → 3 ≤ k
unfolding read_prefix
least_piece s e = by_arity s (read_arity s) refl e

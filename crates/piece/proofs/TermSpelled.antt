-- Bytes are read as a term exactly where they spell an accepted one, for any number of levels below it; and so for
-- terms in a row, any number of them.
use Prim.Native.Nat.{ℕ, zero, suc, ◌+◌, ◌≤◌, ◌<◌}
use mathlib.Core.Path.{◌≡◌, refl, ap, ap₂, sym, ◌∙◌}
use mathlib.Core.Bool.{Bool, true, false, ◌&&◌, and-eq-true_iff}
use mathlib.Core.List.{List, [], ◌∷◌, ◌++◌, append_assoc}
use mathlib.Core.Logic.{inl, inr}
use native.Mathlib.Omega.{arith}
use lib.ListN.{length, drop, length-append}
use lib.Seq.{drop-drop, drop-append_seam}
use lib.Dec.{leb}
use borrow.Author.Tests.{leb-true, le-leb, lt-leb}
use Rattle.records.specs.Fields.{wide_then, AreBytes}
use Rattle.records.specs.Reading.{Reading, took, refused, ask, after, and_then, read_row}
use Rattle.terms.specs.Term.{Term, Terms, count, unknown, never, symbol, numbers, compound, nil, cons, Wide, gauge_of, value_of}
use Rattle.terms.proofs.Gauges.{gauge_and_value, gauge_of_number, value_of_number}
use Rattle.terms.specs.Filling.{WellFormed, WellFormeds}
use Rattle.terms.specs.Accepted.{Shallow, Shallows}
use Rattle.piece.specs.declared.TermRecord.{TermRecord}
use Rattle.piece.specs.declared.TermRecord.TheVariants.{Unknown, Symbol, Number, Compound, Span, Never, Gauged}
use Rattle.piece.specs.views.TermRecord.{term_head, on_head}
use Rattle.piece.specs.ReadPiece.{read_term, read_terms}
use Rattle.piece.specs.WritePiece.{SpellsTerm, SpellsTerms}
use Rattle.piece.proofs.Rooms.{no_arguments}
use Rattle.piece.proofs.Readings.{inside}
use Rattle.piece.proofs.TermsRead.{read_compound, by_head}
use Rattle.piece.proofs.HeadSpelled.{record_then, HeadSpells, head_spells, spelled_head}
use Rattle.records.proofs.ByteLists.{bytes_drop}
use Rattle.std.specs.Prelude.{Result, Ok, Err}
use Rattle.records.specs.declared.refusal.Refusal.{Refusal}

-- The bytes s begin with the k bytes of the term t, which is accepted where so many levels are below it;
pub record TermSpelled (s : List ℕ) (below k : ℕ) (t : Term) : Type 0 where
  pub well_formed : WellFormed t
  pub shallow : Shallow t (suc below)
  pub own : List ℕ
  pub spells : SpellsTerm t own
  pub size : k ≡ length own
  pub bytes : s ≡ own ++ drop k s

-- and with those of n terms.
pub record TermsSpelled (s : List ℕ) (below n k : ℕ) (ts : Terms) : Type 0 where
  pub counted : count ts ≡ n
  pub well_formed : WellFormeds ts
  pub shallow : Shallows ts (suc below)
  pub own : List ℕ
  pub spells : SpellsTerms ts own
  pub size : k ≡ length own
  pub bytes : s ≡ own ++ drop k s

-- What was read, if anything, is spelled.
abbrev pub TermRead : List ℕ → ℕ → Reading Term → Type 0
TermRead s below (took k t) = TermSpelled s below k t
TermRead s below (refused q) = Unit

abbrev pub TermsRead : List ℕ → ℕ → ℕ → Reading Terms → Type 0
TermsRead s below n (took k ts) = TermsSpelled s below n k ts
TermsRead s below n (refused q) = Unit

-- One term and then the others are spelled one after another.
cons_spelled
    : (s : List ℕ) (below n a b : ℕ) (t : Term) (ts : Terms) → TermSpelled s below a t → TermsSpelled (drop a s) below n
    b ts
    → TermsSpelled s below (suc n) (a + b) (cons t ts)
cons_spelled s below n a b t ts first others = record {
  counted = ap suc others.counted;
  well_formed = (first.well_formed, others.well_formed);
  shallow = (first.shallow, others.shallow);
  own = first.own ++ others.own;
  spells = (first.own, others.own, refl, first.spells, others.spells);
  size =
      let size_first = first.size in
      let size-others = others.size in
      omega (arith, length-append first.own others.own);
  bytes =
      first.bytes ∙ ap (λ l. first.own ++ l) (others.bytes ∙ ap (λ l. others.own ++ l) (drop-drop b a s))
      ∙ sym (append_assoc first.own others.own (drop (a + b) s));
}

-- Terms in a row are spelled where each one is.
row_spelled
    : (below : ℕ) → ((s : List ℕ) → AreBytes s → TermRead s below (read_term below s))
    → (n : ℕ) (s : List ℕ) → AreBytes s → TermsRead s below n (read_terms below n s)
unfolding read_row
row_spelled below one zero s bytes =
    record { counted = refl; well_formed = tt; shallow = tt; own = []; spells = refl; size = refl; bytes = refl }
row_spelled below one (suc n) s bytes =
    first (read_term below s) (one s bytes) (λ a. row_spelled below one n (drop a s) (bytes_drop a s bytes))
  where
    others
        : (a : ℕ) (t : Term) → TermSpelled s below a t → (r : Reading Terms) → TermsRead (drop a s) below n r
        → TermsRead s below (suc n) (after a (cons t) r)
    others a t spelled (took b ts) row = cons_spelled s below n a b t ts spelled row
    others a t spelled (refused q) row = tt

    first
        : (r : Reading Term) → TermRead s below r
        → ((a : ℕ) → TermsRead (drop a s) below n (read_terms below n (drop a s)))
        → TermsRead s below (suc n) (and_then r (λ a t. after a (cons t) (read_terms below n (drop a s))))
    first (took a t) spelled rows = others a t spelled (read_terms below n (drop a s)) (rows a)
    first (refused q) spelled rows = tt

-- A compound is spelled where its record and its arguments are.
compound_spelled
    : (s : List ℕ) (below a n k : ℕ) (ts : Terms) → s ≡ record_then (Compound a n) (drop 4 s) → Wide a → 1 ≤ n → n ≤ 4
    → TermsSpelled (drop 4 s) below n k ts → TermSpelled s (suc below) (4 + k) (compound a ts)
compound_spelled s below a n k ts head wide least most arguments =
    let counted = arguments.counted in
    record {
      well_formed = (wide, omega arith, omega arith, arguments.well_formed);
      shallow = (omega arith, arguments.shallow);
      own = 0x33 ∷ wide_then a (count ts ∷ arguments.own);
      spells = (arguments.own, refl, arguments.spells);
      size = let size = arguments.size in omega arith;
      bytes =
          head
          ∙ ap₂ (λ m l. 0x33 ∷ wide_then a (m ∷ l)) (sym counted)
          (arguments.bytes ∙ ap (λ l. arguments.own ++ l) (drop-drop k 4 s));
    }

-- What is read as a compound is spelled.
compound_read
    : (s : List ℕ) (below a n : ℕ) → s ≡ record_then (Compound a n) (drop 4 s) → Wide a
    → TermsRead (drop 4 s) below n (read_terms below n (drop 4 s)) → TermRead s (suc below)
    (read_compound (suc below) s a n)
unfolding read_compound
compound_read s below a n head wide row =
    go (leb 1 n && leb n 4) (and-eq-true_iff (leb 1 n) (leb n 4)).0 (read_terms below n (drop 4 s)) row
  where
    go
        : (b : Bool) → (b ≡ true → (leb 1 n ≡ true) × (leb n 4 ≡ true)) → (r : Reading Terms) → TermsRead (drop 4 s)
        below n r
        → TermRead s (suc below) (ask 16 b (after 4 (compound a) r))
    go true asked (took k ts) spelled =
        let answers = asked refl in
        compound_spelled s below a n k ts head wide (leb-true 1 n answers.0) (leb-true n 4 answers.1) spelled
    go true asked (refused q) spelled = tt
    go false asked r spelled = tt

-- What is read as a span is spelled.
span_read
    : (s : List ℕ) (below l h : ℕ) → s ≡ record_then (Span l h) (drop 5 s) → Wide h
    → TermRead s below (ask 32 (leb l h) (took 5 (numbers l h)))
span_read s below l h head wide = go (leb l h) (leb-true l h)
  where
    go : (b : Bool) → (b ≡ true → l ≤ h) → TermRead s below (ask 32 b (took 5 (numbers l h)))
    go true asked =
        record {
          well_formed = (asked refl, omega arith, inr wide);
          shallow = omega arith;
          own = 0x34 ∷ wide_then l (wide_then h []);
          spells = inl (wide, refl);
          size = refl;
          bytes = head;
        }
    go false asked = tt

-- A term is spelled by its record, and a compound as its arguments are.
by_head_spelled
    : (s : List ℕ) (below : ℕ)
    → ((a n : ℕ) → s ≡ record_then (Compound a n) (drop 4 s) → Wide a → TermRead s below (read_compound below s a n))
    → (h : Result TermRecord Refusal) → HeadSpells s h → TermRead s below (on_head (read_compound below s) h)
by_head_spelled s below compounds (Ok Unknown) spelled =
    record { well_formed = tt; shallow = omega arith; own = _; spells = refl; size = refl; bytes = spelled.0 }
by_head_spelled s below compounds (Ok (Symbol a)) spelled =
    record { well_formed = spelled.1; shallow = omega arith; own = _; spells = refl; size = refl; bytes = spelled.0 }
by_head_spelled s below compounds (Ok (Number a)) spelled =
    record {
      well_formed = (omega arith, omega (arith, spelled.1), inl refl);
      shallow = omega arith;
      own = 0x32 ∷ wide_then a [];
      spells = inr (refl, inl (spelled.1, refl));
      size = refl;
      bytes = spelled.0;
    }
by_head_spelled s below compounds (Ok (Compound a n)) spelled = compounds a n spelled.0 spelled.1
by_head_spelled s below compounds (Ok (Span l h)) spelled = span_read s below l h spelled.0 spelled.1.1
by_head_spelled s below compounds (Ok Never) spelled =
    record { well_formed = tt; shallow = omega arith; own = _; spells = refl; size = refl; bytes = spelled.0 }
by_head_spelled s below compounds (Ok (Gauged g a)) spelled =
    let wide = spelled.1.0 in
    let gauge = gauge_of_number g a wide in
    let value = value_of_number g a wide in
    record {
      well_formed = (omega arith, omega (arith, wide, spelled.1.1), inl refl);
      shallow = omega arith;
      own = 0x36 ∷ g ∷ wide_then a [];
      spells = inr (refl, inr (λ j. 0x36 ∷ sym gauge j ∷ wide_then (sym value j) []));
      size = refl;
      bytes = spelled.0;
    }
by_head_spelled s below compounds (Err q) spelled = tt

-- What is read as a term is accepted and spelled,
pub term_spelled : (below : ℕ) (s : List ℕ) → AreBytes s → TermRead s below (read_term below s)
unfolding read_compound
term_spelled zero s bytes =
    rw (by_head zero s) (by_head_spelled s zero (λ a n head wide. tt) (term_head s) (head_spells s bytes))
term_spelled (suc below) s bytes =
    rw (by_head (suc below) s)
    (by_head_spelled s (suc below) (λ a n head wide.
    compound_read s below a n head wide (row_spelled below (term_spelled below) n (drop 4 s) (bytes_drop 4 s bytes)))
    (term_head s) (head_spells s bytes))

-- and so is what is read as a row of terms.
pub terms_spelled : (below n : ℕ) (s : List ℕ) → AreBytes s → TermsRead s below n (read_terms below n s)
terms_spelled below n s bytes = row_spelled below (term_spelled below) n s bytes

-- Bytes that spell a record are read by it.
read_head
    : (below : ℕ) (s : List ℕ) {h : Result TermRecord Refusal} → term_head s ≡ h
    → read_term below s ≡ on_head (read_compound below s) h
read_head below s head = by_head below s ∙ ap (on_head (read_compound below s)) head

-- "A span with low above high is refused (32)."
pub low_above_high_refused
    : (below l h : ℕ) (rest : List ℕ) → Wide l → Wide h → h < l
    → read_term below (0x34 ∷ wide_then l (wide_then h rest)) ≡ refused 32
low_above_high_refused below l h rest wideLow wide_high less =
    read_head below (0x34 ∷ wide_then l (wide_then h rest)) (spelled_head (Span l h) rest (wideLow, wide_high))
    ∙ (rw (lt-leb l h less))

-- A compound with 1 to 4 arguments is read on.
compound_reads
    : (below : ℕ) (s : List ℕ) (a n : ℕ) → 1 ≤ n → n ≤ 4
    → read_compound (suc below) s a n ≡ after 4 (compound a) (read_terms below n (drop 4 s))
unfolding read_compound
compound_reads below s a n least most = rw (inside n 4 least most)

-- No terms are read from any bytes.
none_read : (below : ℕ) (s : List ℕ) → read_terms below 0 s ≡ took 0 nil
unfolding read_row
none_read below s = refl

-- One term is read, and then the others.
one_reads
    : (below n : ℕ) (s : List ℕ) {a : ℕ} {t : Term} → read_term below s ≡ took a t
    → read_terms below (suc n) s ≡ after a (cons t) (read_terms below n (drop a s))
unfolding read_row
one_reads below n s read = rw read

mutual
  -- Bytes that spell an accepted term are read as the term, whatever follows them,
  pub term_reads
      : (t : Term) (below : ℕ) (own rest : List ℕ) → WellFormed t → Shallow t (suc below) → SpellsTerm t own
      → read_term below (own ++ rest) ≡ took (length own) t
  term_reads unknown below own rest ok shallow spells =
      rw spells (read_head below (0x30 ∷ rest) (spelled_head Unknown rest tt))
  term_reads never below own rest ok shallow spells =
      rw spells (read_head below (0x35 ∷ rest) (spelled_head Never rest tt))
  term_reads (symbol a) below own rest ok shallow spells =
      rw spells (read_head below (0x31 ∷ wide_then a rest) (spelled_head (Symbol a) rest ok))
  term_reads (numbers a b) below own rest ok shallow (inl (wide, spells)) =
      rw spells
      (read_head below (0x34 ∷ wide_then a (wide_then b rest)) (spelled_head (Span a b) rest (omega (arith, ok.0), wide))
      ∙ (rw (le-leb a b ok.0)))
  term_reads (numbers a b) below own rest ok shallow (inr (same, inl (wide, spells))) =
      rw spells
      (read_head below (0x32 ∷ wide_then a rest) (spelled_head (Number a) rest (omega (arith, ok.0)))
      ∙ ap (λ c. took 3 (numbers a c)) same)
  term_reads (numbers a b) below own rest ok shallow (inr (same, inr spells)) =
      let g = gauge_of a in
      let v = value_of a in
      rw spells
      (read_head below (0x36 ∷ g ∷ wide_then v rest) (spelled_head (Gauged g v) rest (omega arith, omega (arith, ok.0, ok.1)))
      ∙ ap₂ (λ x y. took 4 (numbers x y)) (gauge_and_value a) (gauge_and_value a ∙ same))
  term_reads (compound a ts) zero own rest ok shallow spells = absurd (no_arguments ts ok.1 shallow.1)
  term_reads (compound a ts) (suc below) own rest ok shallow (others, is, spells) =
      let s : List ℕ = 0x33 ∷ wide_then a (count ts ∷ (others ++ rest)) in
      let size : 4 + length others ≡ suc (suc (suc (suc (length others)))) = omega arith in
      rw is
      (read_head (suc below) s (spelled_head (Compound a (count ts)) (others ++ rest) ok.0)
      ∙ compound_reads below s a (count ts) ok.1 ok.2
      ∙ ap (after 4 (compound a)) (terms_read ts below others rest ok.3 shallow.1 spells)
      ∙ ap (λ k. took k (compound a ts)) size)

  -- and so are bytes that spell a row of accepted terms.
  pub terms_read
      : (ts : Terms) (below : ℕ) (own rest : List ℕ) → WellFormeds ts → Shallows ts (suc below) → SpellsTerms ts own
      → read_terms below (count ts) (own ++ rest) ≡ took (length own) ts
  terms_read nil below own rest ok shallow spells = rw spells (none_read below rest)
  terms_read (cons t ts) below own rest ok shallow (first, others, is, spells, more) =
      let s = first ++ (others ++ rest) in
      rw is
      (ap (read_terms below (suc (count ts))) (append_assoc first others rest)
      ∙ one_reads below (count ts) s (term_reads t below first (others ++ rest) ok.0 shallow.0 spells)
      ∙ ap (λ l. after (length first) (cons t) (read_terms below (count ts) l)) (drop-append_seam first (others ++ rest))
      ∙ ap (after (length first) (cons t)) (terms_read ts below others rest ok.1 shallow.1 more)
      ∙ ap (λ k. took k (cons t ts)) (sym (length-append first others)))

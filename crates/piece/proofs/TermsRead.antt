-- Laws of reading terms, for any number of levels below them and of terms in a row.
use Prim.Native.Nat.{ℕ, zero, suc, ◌-◌, ◌≤◌, ◌<◌}
use mathlib.Core.Path.{◌≡◌, ap, ◌∙◌}
use mathlib.Core.Bool.{Bool, true, false, ◌&&◌}
use mathlib.Core.List.{List}
use mathlib.Core.Logic.{◌⊎◌}
use native.Mathlib.Omega.{arith}
use lib.ListN.{length, get_or, drop, length-drop}
use lib.Dec.{leb}
use Rattle.records.specs.Fields.{wide_at}
use Rattle.records.specs.Reading.{Reading, refused, ask, after}
use Rattle.terms.specs.Term.{Term, compound, nil, cons}
use Rattle.piece.specs.views.TermRecord.{term_head, on_head}
use Rattle.piece.specs.ReadPiece.{read_term, read_terms}
use Rattle.piece.proofs.Heads.{head_cases}
use Rattle.piece.proofs.RecordKinds.{by_table_lem}
use Rattle.piece.proofs.Readings.{bytes_of, bytes_after, row_within, inside, outside}

-- What a compound's record, with so many levels below it, goes on to.
unfoldable pub read_compound : ℕ → List ℕ → ℕ → ℕ → Reading Term
read_compound zero s a n = refused 15
read_compound (suc below) s a n = ask 16 (leb 1 n && leb n 4) (after 4 (compound a) (read_terms below n (drop 4 s)))

-- A term is read by its record.
pub by_head : (below : ℕ) (s : List ℕ) → read_term below s ≡ on_head (read_compound below s) (term_head s)
unfolding read_term read_compound
by_head zero s = by_table_lem (read_compound zero s) s
by_head (suc below) s = by_table_lem (read_compound (suc below) s) s

-- No compound stands where there is no level below.
pub too_deep : (below : ℕ) (s : List ℕ) (a n : ℕ) → below ≡ 0 → read_compound below s a n ≡ refused 15
unfolding read_compound
too_deep below s a n none = rw none

module _ (below : ℕ) (s : List ℕ) (a n : ℕ) (some : below ≡ 0 → ⊥) where
  -- Where a level is below, the arity is asked.
  asked
      : read_compound below s a n
      ≡ ask 16 (leb 1 n && leb n 4) (after 4 (compound a) (read_terms (below - 1) n (drop 4 s)))
  unfolding read_compound
  asked =
      let one_more : below ≡ suc (below - 1) = omega arith in
      ap (λ (k : ℕ). read_compound k s a n) one_more

  -- No compound has fewer arguments than 1 or more than 4.
  pub wrong_arity : (n < 1) ⊎ (4 < n) → read_compound below s a n ≡ refused 16
  wrong_arity h = asked ∙ (rw (outside n 4 h))

  -- A compound's arguments follow its record.
  pub with_arguments
      : 1 ≤ n → n ≤ 4 → read_compound below s a n ≡ after 4 (compound a) (read_terms (below - 1) n (drop 4 s))
  with_arguments least most = asked ∙ (rw (inside n 4 least most))

-- A question takes no bytes.
ask_within
    : {A : Type 0} (q : ℕ) (b : Bool) (r : Reading A) (k : ℕ) → bytes_of r ≤ k → bytes_of (ask q b r) ≤ k
ask_within q true r k h = h
ask_within q false r k h = omega arith

-- A term takes no more bytes than there are where a compound takes no more.
within_by_compound
    : (below : ℕ) (s : List ℕ) → ((a n : ℕ) → 4 ≤ length s → bytes_of (read_compound below s a n) ≤ length s)
    → bytes_of (read_term below s) ≤ length s
within_by_compound below s compounds =
    rw (by_head below s)
    (head_cases (λ h. bytes_of (on_head (read_compound below s) h) ≤ length s) s (omega arith) (λ there _. there)
    (λ there _. there) (λ there _. there) (λ there _. compounds (wide_at s 1) (get_or s 3 0) there)
    (λ there _. ask_within 32 (leb (wide_at s 1) (wide_at s 3)) _ (length s) there) (λ there _. there) (λ there _. there))

-- A term takes no more bytes than there are,
pub term_within : (below : ℕ) (s : List ℕ) → bytes_of (read_term below s) ≤ length s
unfolding read_compound
term_within zero s = within_by_compound zero s (λ a n there. omega arith)
term_within (suc below) s =
    within_by_compound (suc below) s (λ a n there.
    let arguments = read_terms below n (drop 4 s) in
    let others = row_within nil cons (read_term below) (term_within below) n (drop 4 s) in
    ask_within 16 (leb 1 n && leb n 4) (after 4 (compound a) arguments) (length s)
    (omega (arith, others, bytes_after 4 (compound a) arguments, length-drop 4 s)))

-- and so does a row of terms.
pub terms_within : (below n : ℕ) (s : List ℕ) → bytes_of (read_terms below n s) ≤ length s
terms_within below = row_within nil cons (read_term below) (term_within below)

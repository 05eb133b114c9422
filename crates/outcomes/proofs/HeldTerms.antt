-- Cells compare as the terms that they hold do, for any number of levels below them and of arguments.
use Prim.Native.Nat.{ℕ, zero, suc, ◌+◌}
use mathlib.Core.Path.{◌≡◌, refl, ap, ap₂, sym, ◌∙◌}
use mathlib.Core.Bool.{Bool, true, false, ◌&&◌, ◌||◌, cond}
use mathlib.Core.List.{List}
use native.Mathlib.Omega.{arith}
use lib.Dec.{eqb}
use borrow.Author.Tests.{eqb-true, eqb-false}
use Rattle.places.specs.Numbering.{stride}
use Rattle.terms.specs.Term.{Term, Terms, count, unknown, never, symbol, numbers, compound, nil, cons}
use Rattle.terms.specs.Outcome.{Outcome, holds, not_known, contradicted, known, ◌and◌, holds_never, beside_unknown, compare, compares}
use Rattle.terms.specs.Filling.{WellFormed, WellFormeds}
use Rattle.terms.specs.Accepted.{Shallow, Shallows}
use Rattle.piece.proofs.Rooms.{no_arguments}
use Rattle.codes.specs.views.Codes.{term_low, term_high, term_run}
use Rattle.codes.proofs.TermRuns.{term_low_lem, term_high_lem}
use Rattle.outcomes.specs.views.CompareCells.{arity_of, compare_runs, left_open, compare_row, compare_at, compare_cells}
use Rattle.outcomes.proofs.Comparing.{compare_below, by_runs_lem}
use Rattle.outcomes.proofs.Held.{HeldRow, HeldShown, arity_told, held_run, held_arguments, held_first, held_others}
use Rattle.outcomes.proofs.CellsHoldNever.{term_never}
use Rattle.outcomes.proofs.RunsCompare.{by_runs, runs_compare}

-- Together with one that is contradicted any outcome is contradicted.
pub with_contradicted : (x : Outcome) → ◌and◌ x contradicted ≡ contradicted
with_contradicted holds = refl
with_contradicted not_known = refl
with_contradicted contradicted = refl

-- Rows of other lengths differ.
other_lengths : (ts us : Terms) → (count ts ≡ count us → ⊥) → compares ts us ≡ contradicted
other_lengths nil nil other = absurd (other refl)
other_lengths nil (cons u us) other = refl
other_lengths (cons t ts) nil other = refl
other_lengths (cons t ts) (cons u us) other =
    ap (◌and◌ (compare t u)) (other_lengths ts us (λ e. other (ap suc e))) ∙ with_contradicted (compare t u)

-- Two compounds compare by ids and arities, and then by their arguments.
compounds_compare
    : (a b : ℕ) (ts us : Terms) (x : Outcome) → (count ts ≡ count us → x ≡ compares ts us)
    → by_runs (compound a ts) (compound b us) x ≡ compare (compound a ts) (compound b us)
compounds_compare a b ts us x arguments =
    go (eqb a b) (eqb (count ts) (count us)) (eqb-true (count ts) (count us)) (eqb-false (count ts) (count us))
  where
    go
        : (id counts : Bool) → (counts ≡ true → count ts ≡ count us) → (counts ≡ false → count ts ≡ count us → ⊥)
        → cond (id && counts) x contradicted ≡ ◌and◌ (known id) (compares ts us)
    go false counts same other = refl
    go true true same other = arguments (same refl)
    go true false same other = sym (other_lengths ts us (other refl))

module _ (cells : List ℕ) where
  -- What is said of two terms by their cells where it is unsure is what their terms say.
  left_open_is
      : (t u : Term) (below other p q : ℕ) → WellFormed t → WellFormed u → Shallow t (suc below) → Shallow u (suc other)
      → HeldShown cells t (suc below) p → HeldShown cells u (suc other) q
      → left_open cells below other p q (term_low t) (term_low u) ≡ beside_unknown (holds_never t || holds_never u)
  left_open_is t u below other p q ok ok' shallow shallow' held held' =
      ap₂ (λ a b. beside_unknown (a || b)) (term_never cells t below p ok shallow held)
      (term_never cells u other q ok' shallow' held')

  module _
      (t u : Term) (below other p q : ℕ) (ok : WellFormed t) (ok' : WellFormed u) (shallow : Shallow t (suc below))
      (shallow' : Shallow u (suc other)) (held : HeldShown cells t (suc below) p) (held' : HeldShown cells u (suc other) q) where
    -- Where two terms stand, they compare by their runs, and compounds by their arguments.
    terms_by_runs
        : compare_at cells below other p q (term_run t) (term_run u)
        ≡ by_runs t u (compare_below cells (arity_of (term_low t)) below other p q)
    terms_by_runs =
        by_runs_lem cells below other p q (term_run t) (term_run u)
        ∙ (λ i. compare_runs (term_low_lem t ok i) (term_high_lem t ok i) (term_low_lem u ok' i) (term_high_lem u ok' i)
        (compare_below cells (arity_of (term_low_lem t ok i)) below other p q)
        (left_open cells below other p q (term_low_lem t ok i) (term_low_lem u ok' i)))
        ∙ ap
        (compare_runs (term_low t) (term_high t) (term_low u) (term_high u) (compare_below cells (arity_of (term_low t)) below other p q))
        (left_open_is t u below other p q ok ok' shallow shallow' held held')
        ∙ runs_compare t u (compare_below cells (arity_of (term_low t)) below other p q) ok ok'

  mutual
    -- Cells compare as the terms that stand there,
    pub terms_compare
        : (t u : Term) (below other p q : ℕ) → WellFormed t → WellFormed u → Shallow t (suc below) → Shallow u (suc other)
        → HeldShown cells t (suc below) p → HeldShown cells u (suc other) q
        → compare_at cells below other p q (term_run t) (term_run u) ≡ compare t u
    terms_compare unknown u below other p q ok ok' shallow shallow' held held' =
        terms_by_runs unknown u below other p q ok ok' shallow shallow' held held'
    terms_compare never u below other p q ok ok' shallow shallow' held held' =
        terms_by_runs never u below other p q ok ok' shallow shallow' held held'
    terms_compare (symbol a) u below other p q ok ok' shallow shallow' held held' =
        terms_by_runs (symbol a) u below other p q ok ok' shallow shallow' held held'
    terms_compare (numbers a c) u below other p q ok ok' shallow shallow' held held' =
        terms_by_runs (numbers a c) u below other p q ok ok' shallow shallow' held held'
    terms_compare (compound a ts) unknown below other p q ok ok' shallow shallow' held held' =
        terms_by_runs (compound a ts) unknown below other p q ok ok' shallow shallow' held held'
    terms_compare (compound a ts) never below other p q ok ok' shallow shallow' held held' =
        terms_by_runs (compound a ts) never below other p q ok ok' shallow shallow' held held'
    terms_compare (compound a ts) (symbol b) below other p q ok ok' shallow shallow' held held' =
        terms_by_runs (compound a ts) (symbol b) below other p q ok ok' shallow shallow' held held'
    terms_compare (compound a ts) (numbers b c) below other p q ok ok' shallow shallow' held held' =
        terms_by_runs (compound a ts) (numbers b c) below other p q ok ok' shallow shallow' held held'
    terms_compare (compound a ts) (compound b us) zero other p q ok ok' shallow shallow' held held' =
        absurd (no_arguments ts ok.1 shallow.1)
    terms_compare (compound a ts) (compound b us) (suc below) zero p q ok ok' shallow shallow' held held' =
        absurd (no_arguments us ok'.1 shallow'.1)
    terms_compare (compound a ts) (compound b us) (suc below) (suc other) p q ok ok' shallow shallow' held held' =
        let one = compare_cells cells below other in
        terms_by_runs (compound a ts) (compound b us) (suc below) (suc other) p q ok ok' shallow shallow' held held'
        ∙ compounds_compare a b ts us _ (λ same.
        ap (λ (n : ℕ). compare_row one (stride (suc below)) (stride (suc other)) n (p + 1) (q + 1)) (arity_told a ts ok.2)
        ∙ rows_compare ts us below other (p + 1) (q + 1) same ok.3 ok'.3 shallow.1 shallow'.1
        (held_arguments cells a ts below p ok.2 (held (λ h. h))) (held_arguments cells b us other q ok'.2 (held' (λ h. h))))

    -- and so do rows of cells.
    rows_compare
        : (ts us : Terms) (below other p q : ℕ) → count ts ≡ count us → WellFormeds ts → WellFormeds us
        → Shallows ts (suc below) → Shallows us (suc other) → HeldRow cells ts (suc below) p → HeldRow cells us (suc other) q
        → compare_row (compare_cells cells below other) (stride (suc below)) (stride (suc other)) (count ts) p q ≡ compares ts us
    rows_compare nil nil below other p q same ok ok' shallow shallow' held held' = refl
    rows_compare nil (cons u us) below other p q same ok ok' shallow shallow' held held' = absurd (omega arith)
    rows_compare (cons t ts) nil below other p q same ok ok' shallow shallow' held held' = absurd (omega arith)
    rows_compare (cons t ts) (cons u us) below other p q same ok ok' shallow shallow' held held' =
        let first = held_first cells t ts (suc below) p held in
        let first' = held_first cells u us (suc other) q held' in
        ap₂ ◌and◌
        (ap₂ (compare_at cells below other p q) (held_run cells t below p first) (held_run cells u other q first')
        ∙ terms_compare t u below other p q ok.0 ok'.0 shallow.0 shallow'.0 (λ shown. first) (λ shown. first'))
        (rows_compare ts us below other (p + stride (suc below)) (q + stride (suc other)) (omega arith) ok.1 ok'.1
        shallow.1 shallow'.1 (held_others cells t ts (suc below) p held) (held_others cells u us (suc other) q held'))

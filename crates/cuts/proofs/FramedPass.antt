-- The pass that cuts a switch into runs, one law a turn: the runs that are written and those before the cuts to come are the whole.
use Prim.Native.Nat.{ℕ, pred, min, max, ◌+◌, ◌-◌, ◌≤◌, ◌<◌}
use mathlib.Core.Path.{◌≡◌, sym, ap, ◌∙◌}
use mathlib.Core.List.{List, [], ◌∷◌, ◌++◌, append-nil, append_assoc}
use native.Mathlib.Omega.{arith}
use lib.Bits.{bit_and, bit_xor}
use lib.Dec.{eqb, ltb}
use lib.ListN.{length, length-append, length-map}
use borrow.Author.Tests.{eq-eqb, ne_eqb, lt-ltb, le-ltb}
use Rattle.basics.specs.Lists.{count_from}
use Rattle.basics.proofs.Booleans.{by_test}
use Rattle.basics.proofs.Counting.{count_length}
use Rattle.basics.proofs.Filters.{filter_length, filter_join}
use Rattle.cuts.specs.views.Cuts.{Cut, cut_at}
use Rattle.cuts.specs.views.Runs.{Run, run_at, runs_in, with_run}
use Rattle.cuts.specs.views.FramedRuns.{gap_run, gauge_first, gauge_end, gap_runs, framed_run, framed_from, is_name_run, name_runs}
use Rattle.cuts.proofs.Cutting.{cuts_from, cuts_next, cuts_done, run_more, with_length}

-- Codes that no live rule wants are a run, or there are none.
pub gap_none : (start next : ℕ) → next ≤ start → gap_run start next [] ≡ []
gap_none start next h = rw (le-ltb start next h)

pub gap_some : (start next : ℕ) → start < next → gap_run start next [] ≡ record { low = start; high = next - 1; set = 0 } ∷ []
gap_some start next h =
    let last : pred next ≡ next - 1 = omega arith in
    rw (lt-ltb start next h, last)

-- What comes behind them,
gap_join : (start next : ℕ) (rest : List Run) → gap_run start next rest ≡ gap_run start next [] ++ rest
gap_join start next rest = by_test (ltb start next) (λ e. rw e) (λ e. rw e)

pub gaps_join : (start next : ℕ) (rest : List Run)
    → gap_runs start next rest
    ≡ (gap_run start (min next (gauge_end start)) [] ++ gap_run (max (gauge_end start) (gauge_first next)) next []) ++ rest
gaps_join start next rest =
    let first = gap_run start (min next (gauge_end start)) [] in
    let begun = max (gauge_end start) (gauge_first next) in
    gap_join start (min next (gauge_end start)) (gap_run begun next rest)
    ∙ ap (λ (l : List Run). first ++ l) (gap_join begun next rest)
    ∙ sym (append_assoc first (gap_run begun next []) rest)

-- and behind a run that is over.
run_join : (base start next set : ℕ) (rest : List Run)
    → framed_run base start next set rest ≡ framed_run base start next set [] ++ rest
run_join base start next set rest = by_test (eqb set 0) (λ e. rw e (gaps_rest (max start base))) (λ e. rw e)
  where
    gaps_rest : (from : ℕ) → gap_runs from next rest ≡ gap_runs from next [] ++ rest
    gaps_rest from =
        gaps_join from next rest
        ∙ ap (λ (l : List Run). l ++ rest) (sym (append-nil (gaps from)) ∙ sym (gaps_join from next []))
      where
        gaps : ℕ → List Run
        gaps z = gap_run z (min next (gauge_end z)) [] ++ gap_run (max (gauge_end z) (gauge_first next)) next []

module _ (base start next set : ℕ) where
  -- No live rule wants it: its codes on the gauge where it begins, and those on the gauge where it is over.
  gaps_are : set ≡ 0
      → framed_run base start next set []
      ≡ gap_run (max start base) (min next (gauge_end (max start base))) []
      ++ gap_run (max (gauge_end (max start base)) (gauge_first next)) next []
  gaps_are e = rw (eq-eqb set 0 e) (gaps_join (max start base) next [] ∙ append-nil _)

  -- Live rules want it.
  wanted_is : (set ≡ 0 → ⊥) → framed_run base start next set [] ≡ record { low = start; high = next - 1; set = set } ∷ []
  wanted_is e =
      let last : pred next ≡ next - 1 = omega arith in
      rw (ne_eqb set 0 e, last)

-- A run of codes that no live rule wants does not begin below the base,
pub gap_no_name : (base start next : ℕ) → base ≤ start → length (name_runs base (gap_run start next [])) ≡ 0
gap_no_name base start next h = by_test (ltb start next) (λ e. rw (e, le-ltb start base h)) (λ e. rw e)

-- nor do two of them.
gaps_no_name
    : (base x y z u : ℕ) → base ≤ x → base ≤ z → length (name_runs base (gap_run x y [] ++ gap_run z u [])) ≡ 0
gaps_no_name base x y z u h k =
    let first = name_runs base (gap_run x y []) in
    let last = name_runs base (gap_run z u []) in
    ap (λ (l : List Run). length l) (filter_join (is_name_run base) (gap_run x y []) (gap_run z u []))
    ∙ omega (arith, length-append first last, gap_no_name base x y h, gap_no_name base z u k)

-- One run is below the base, or it is not.
pub name_one : (base : ℕ) (r : Run) → r.low < base → length (name_runs base (r ∷ [])) ≡ 1
name_one base r h = rw (lt-ltb r.low base h)

pub name_none : (base : ℕ) (r : Run) → base ≤ r.low → length (name_runs base (r ∷ [])) ≡ 0
name_none base r h = rw (le-ltb r.low base h)

-- What is said of the runs that are written, and of those of them below the base.
module _ (base start next set : ℕ) where
  abbrev pub over : List Run
  over = framed_run base start next set []

  abbrev pub Ended : List ℕ → ℕ → ℕ → List ℕ → ℕ → ℕ → Type 0
  Ended runs n names after m more =
      (runs_in after m ≡ runs_in runs n ++ over)
      × (more ≡ names + length (name_runs base over))
      × (m ≤ n + 2)
      × ((set ≡ 0 → ⊥) → m ≤ n + 1)
      × (length after ≡ 579)

  module _ (runs : List ℕ) (n names : ℕ) where
    -- Codes that no live rule wants were written on one gauge, then on another.
    pub ended_gaps
        : (from last begun : ℕ) (mid after : List ℕ) (m k : ℕ) → set ≡ 0 → from ≡ max start base
        → last ≡ min next (gauge_end (max start base)) → begun ≡ max (gauge_end (max start base)) (gauge_first next)
        → runs_in mid m ≡ runs_in runs n ++ gap_run from last [] → m ≤ n + 1
        → runs_in after k ≡ runs_in mid m ++ gap_run begun next [] → k ≤ m + 1 → length after ≡ 579
        → Ended runs n names after k names
    ended_gaps from last begun mid after m k e x y z first few more less size =
        let gap = gap_run from last [] in
        let rest = gap_run begun next [] in
        let same : over ≡ gap ++ rest =
        gaps_are base start next set e ∙ (λ i. gap_run (sym x i) (sym y i) [] ++ gap_run (sym z i) next []) in (
          more
              ∙ ap (λ (l : List Run). l ++ rest) first
              ∙ append_assoc (runs_in runs n) gap rest
              ∙ ap (λ (l : List Run). runs_in runs n ++ l) (sym same),
          omega (
            arith,
            ap (λ (l : List Run). length (name_runs base l)) same,
            gaps_no_name base from last begun next (omega arith) (omega arith),
          ),
          omega arith,
          λ d. absurd (d e),
          size,
        )

    -- A wanted run was written.
    pub ended_wanted
        : (more : ℕ) (after : List ℕ) → (set ≡ 0 → ⊥) → length runs ≡ 579 → n < 193
        → after ≡ with_run runs n (record { low = start; high = next - 1; set = set })
        → more ≡ names + length (name_runs base (record { low = start; high = next - 1; set = set } ∷ []))
        → Ended runs n names after (n + 1) more
    ended_wanted more after e size room written counted =
        let run : Run = record { low = start; high = next - 1; set = set } in
        let same = wanted_is base start next set e in (
          ap (λ (l : List ℕ). runs_in l (n + 1)) written
              ∙ run_more runs n run (omega (arith, size))
              ∙ ap (λ (l : List Run). runs_in runs n ++ l) (sym same),
          counted ∙ ap (λ (l : List Run). names + length (name_runs base l)) (sym same),
          omega arith,
          λ d. omega arith,
          ap (λ (l : List ℕ). length l) written ∙ with_length runs n run ∙ size,
        )

-- Runs are counted as they are written,
pub runs_length : (runs : List ℕ) (n : ℕ) → length (runs_in runs n) ≡ n
runs_length runs n = length-map (count_from 0 n) (run_at runs) ∙ count_length 0 n

-- and those below the base with them: they are no more.
pub names_few : (base : ℕ) (runs : List ℕ) (n : ℕ) → length (name_runs base (runs_in runs n)) ≤ n
names_few base runs n = omega (arith, filter_length (is_name_run base) (runs_in runs n), runs_length runs n)

pub names_more : (base names more : ℕ) (written all rs : List Run) → names ≡ length (name_runs base written)
    → more ≡ names + length (name_runs base rs) → all ≡ written ++ rs → more ≡ length (name_runs base all)
names_more base names more written all rs e f g =
    let both = length-append (name_runs base written) (name_runs base rs) in
    let whole : length (name_runs base written ++ name_runs base rs) ≡ more = omega arith in
    sym whole
    ∙ ap (λ (l : List Run). length l) (sym (filter_join (is_name_run base) written rs))
    ∙ ap (λ (l : List Run). length (name_runs base l)) (sym g)

module _ (c : List ℕ) (from count base live : ℕ) where
  -- The runs that are written, and those before the cuts to come.
  abbrev pub framed_with : List ℕ → ℕ → ℕ → ℕ → ℕ → List Run
  framed_with runs n start set k = runs_in runs n ++ framed_from base live start set (cuts_from c from count k)

  abbrev turned : ℕ → ℕ
  turned k = bit_and (cut_at c from k).turns live

  module _ (runs : List ℕ) (n start set k : ℕ) where
    -- No live rule turns: the run goes on.
    pub cut_passed : k < count → turned k ≡ 0 → framed_with runs n start set k ≡ framed_with runs n start set (k + 1)
    cut_passed h e =
        ap (λ (l : List Cut). runs_in runs n ++ framed_from base live start set l) (cuts_next c from count k h)
        ∙ rw (eq-eqb (turned k) 0 e)

    -- Live rules turn: the run is over.
    pub cut_ended : (after : List ℕ) (m : ℕ) → k < count → (turned k ≡ 0 → ⊥)
        → runs_in after m ≡ runs_in runs n ++ framed_run base start (cut_at c from k).code set []
        → framed_with runs n start set k ≡ framed_with after m (cut_at c from k).code (bit_xor set (turned k)) (k + 1)
    cut_ended after m h e f =
        let code = (cut_at c from k).code in
        let rest = framed_from base live code (bit_xor set (turned k)) (cuts_from c from count (k + 1)) in
        let over : framed_from base live start set (cut_at c from k ∷ cuts_from c from count (k + 1))
        ≡ framed_run base start code set rest = rw (ne_eqb (turned k) 0 e) in
        ap (λ (l : List Cut). runs_in runs n ++ framed_from base live start set l) (cuts_next c from count k h)
        ∙ ap (λ (l : List Run). runs_in runs n ++ l) (over ∙ run_join base start code set rest)
        ∙ sym (append_assoc (runs_in runs n) (framed_run base start code set []) rest)
        ∙ ap (λ (l : List Run). l ++ rest) (sym f)

    -- After the last cut the gauge goes on to its end.
    pub cut_last : (after : List ℕ) (m : ℕ) → count ≤ k
        → runs_in after m ≡ runs_in runs n ++ gap_run (max start base) (gauge_end (max start base)) []
        → framed_with runs n start set k ≡ runs_in after m
    cut_last after m h f =
        ap (λ (x : List Cut). runs_in runs n ++ framed_from base live start set x) (cuts_done c from count k h)
        ∙ sym f

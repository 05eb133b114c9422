-- The cuts of a part from one of them on, and a run that is written behind the others.
use Prim.Native.Nat.{ℕ, zero, suc, ◌+◌, ◌*◌, ◌-◌, ◌≤◌, ◌<◌}
use mathlib.Core.Path.{◌≡◌, refl, sym, ap, ◌∙◌}
use mathlib.Core.List.{List, [], ◌∷◌, ◌++◌, map}
use native.Mathlib.Omega.{arith}
use native.Mathlib.Numerals.{add-one}
use lib.ListN.{length, get_or, set, length-set}
use lib.Seq.{get_or-set_same, get_or-set_other}
use Rattle.basics.specs.Lists.{count_from}
use Rattle.basics.proofs.Counting.{count_append}
use Rattle.basics.proofs.Filters.{map_join}
use Rattle.cuts.specs.views.Cuts.{Cut, cut_at}
use Rattle.cuts.specs.views.Runs.{Run, run_at, runs_in, with_run}

-- The cuts of a part from the k-th on, of so many.
abbrev pub cuts_from : List ℕ → ℕ → ℕ → ℕ → List Cut
cuts_from c from count k = map (cut_at c from) (count_from k (count - k))

pub cuts_next
    : (c : List ℕ) (from count k : ℕ) → k < count → cuts_from c from count k ≡ cut_at c from k ∷ cuts_from c from count (k + 1)
cuts_next c from count k h =
    let e : count - k ≡ suc (count - (k + 1)) = omega arith in
    ap (λ (n : ℕ). map (cut_at c from) (count_from k n)) e
    ∙ ap (λ (n : ℕ). cut_at c from k ∷ map (cut_at c from) (count_from n (count - (k + 1)))) (sym (add-one k))

pub cuts_done : (c : List ℕ) (from count k : ℕ) → count ≤ k → cuts_from c from count k ≡ []
cuts_done c from count k h =
    let e : count - k ≡ 0 = omega arith in
    ap (λ (n : ℕ). map (cut_at c from) (count_from k n)) e

-- A run is written behind the others: each of its words stands there,
module _ (runs : List ℕ) (n : ℕ) (new : Run) where
  abbrev with : List ℕ
  with = with_run runs n new

  abbrev low : ℕ
  low = new.low

  abbrev high : ℕ
  high = new.high

  abbrev which : ℕ
  which = new.set

  pub with_length : length with ≡ length runs
  with_length =
      length-set (set (set runs (3 * n) low) (3 * n + 1) high) (3 * n + 2) which
      ∙ length-set (set runs (3 * n) low) (3 * n + 1) high
      ∙ length-set runs (3 * n) low

  written : 3 * n + 2 < length runs → run_at with n ≡ new
  written room =
      let first = set runs (3 * n) low in
      let second = set first (3 * n + 1) high in
      let one : length first ≡ length runs = length-set runs (3 * n) low in
      let two : length second ≡ length first = length-set first (3 * n + 1) high in
      rw (
        get_or-set_other second (3 * n + 2) (3 * n) which 0 (λ e. omega arith),
        get_or-set_other first (3 * n + 1) (3 * n) high 0 (λ e. omega arith),
        get_or-set_same runs (3 * n) low 0 (omega arith),
        get_or-set_other second (3 * n + 2) (3 * n + 1) which 0 (λ e. omega arith),
        get_or-set_same first (3 * n + 1) high 0 (omega arith),
        get_or-set_same second (3 * n + 2) which 0 (omega arith),
      )

  -- and those that were there stay.
  untouched : (j : ℕ) → j < 3 * n → get_or with j 0 ≡ get_or runs j 0
  untouched j h =
      let first = set runs (3 * n) low in
      let second = set first (3 * n + 1) high in
      get_or-set_other second (3 * n + 2) j which 0 (λ e. omega arith)
      ∙ get_or-set_other first (3 * n + 1) j high 0 (λ e. omega arith)
      ∙ get_or-set_other runs (3 * n) j low 0 (λ e. omega arith)

  kept : (m a : ℕ) → a + m ≤ n → map (run_at with) (count_from a m) ≡ map (run_at runs) (count_from a m)
  kept zero a h = refl
  kept (suc m) a h =
      rw (untouched (3 * a) (omega arith), untouched (3 * a + 1) (omega arith), untouched (3 * a + 2) (omega arith))
      (ap (λ (l : List Run). run_at runs a ∷ l) (kept m (suc a) (omega arith)))

  pub run_more : 3 * n + 2 < length runs → runs_in with (n + 1) ≡ runs_in runs n ++ (new ∷ [])
  run_more room =
      ap (map (run_at with)) (count_append 0 n 1)
      ∙ map_join (run_at with) (count_from 0 n) (count_from (0 + n) 1)
      ∙ ap (λ (l : List Run). l ++ (run_at with (0 + n) ∷ [])) (kept n 0 (omega arith))
      ∙ ap (λ (k : ℕ). runs_in runs n ++ (run_at with k ∷ [])) (let e : 0 + n ≡ n = omega arith in e)
      ∙ ap (λ (r : Run). runs_in runs n ++ (r ∷ [])) (written room)

-- The cuts after a rule has turned at its place tests: in the part of each test the rule turns at what it wants there.
use Prim.Native.Nat.{ℕ, suc, ◌+◌, ◌*◌, ◌^◌, ◌≤◌, ◌<◌}
use mathlib.Core.Path.{◌≡◌, refl, sym, ap, ◌∙◌, subst}
use mathlib.Core.Bool.{Bool, cond}
use mathlib.Core.List.{List, [], ◌∷◌}
use mathlib.Core.Logic.{◌⊎◌, inl, inr, by_cases}
use mathlib.Core.Option.{Option, some, none}
use native.Mathlib.Decide.{ℕ_discrete, dec_lt}
use native.Mathlib.Nat.{mul-suc, mul-le-mul_left}
use native.Mathlib.Omega.{arith}
use lib.Dec.{eqb}
use lib.ListN.{length, get_or}
use borrow.Author.Tests.{eq-eqb, ne_eqb}
use Rattle.basics.specs.Lists.{All}
use Rattle.records.proofs.Writing.{splice_length}
use Rattle.terms.specs.RuleTests.{Want, PlaceTest}
use Rattle.codes.specs.views.Codes.{want_low, want_high}
use Rattle.cuts.specs.views.Cuts.{part_at, count_at, cuts_in, part_words, toggle}
use Rattle.cuts.specs.views.CutsOf.{turn_rule}
use Rattle.cuts.proofs.AscendingCuts.{toggle_length}
use Rattle.compiled.specs.views.CutRules.{turn_in, turn_want, part_of, turn_all, TurnsFit}
use Rattle.compiled.proofs.PartReads.{words_length, cuts_count, part_read, part_other}

-- A part ends before the next begins.
pub part_next : (rules t u : ℕ) → t < u → part_at rules t + (1 + 4 * rules) ≤ part_at rules u
part_next rules t u h =
    subst (λ (x : ℕ). x ≤ part_at rules u) (mul-suc (1 + 4 * rules) t)
    (mul-le-mul_left {m = suc t} {n = u} (1 + 4 * rules) (let z : suc t ≤ u = omega arith in z))

-- One turn in a part with room for it.
module _ (c : List ℕ) (from code bit : ℕ) (room : from + 3 + 2 * count_at c from ≤ length c) where
  few : length (toggle code bit (cuts_in c from)) ≤ suc (count_at c from)
  few = omega (arith, toggle_length code bit (cuts_in c from), cuts_count c from)

  pub turn_long : length (turn_in c from code bit) ≡ length c
  turn_long =
      splice_length c from (part_words (toggle code bit (cuts_in c from)))
      (omega (arith, few, words_length (toggle code bit (cuts_in c from))))

  pub turn_own : cuts_in (turn_in c from code bit) from ≡ toggle code bit (cuts_in c from)
  turn_own = part_read c from (toggle code bit (cuts_in c from)) (omega (arith, few))

  pub turn_count : count_at (turn_in c from code bit) from ≤ suc (count_at c from)
  turn_count = omega (arith, sym (cuts_count (turn_in c from code bit) from) ∙ ap length turn_own, few)

  -- There is room for another one.
  pub turn_again
      : from + 5 + 2 * count_at c from ≤ length c
      → from + 3 + 2 * count_at (turn_in c from code bit) from ≤ length (turn_in c from code bit)
  turn_again h = omega (arith, turn_long, turn_count)

  pub turn_other
      : (other : ℕ) → (other + 1 + 2 * count_at c other ≤ from) ⊎ (from + 3 + 2 * count_at c from ≤ other)
      → cuts_in (turn_in c from code bit) other ≡ cuts_in c other
  turn_other other (inl h) = part_other c from (toggle code bit (cuts_in c from)) other (omega (arith, few)) (inl h)
  turn_other other (inr h) =
      part_other c from (toggle code bit (cuts_in c from)) other (omega (arith, few)) (inr (omega (arith, few)))

-- A rule turns at both ends of a want.
module _ (i : ℕ) (w : Want) (c : List ℕ) (from : ℕ) (room : from + 5 + 2 * count_at c from ≤ length c) where
  abbrev first : List ℕ
  first = turn_in c from (want_low w) (2 ^ i)

  once : from + 3 + 2 * count_at c from ≤ length c
  once = omega arith

  twice : from + 3 + 2 * count_at first from ≤ length first
  twice = turn_again c from (want_low w) (2 ^ i) once room

  pub both_long : length (turn_want i from w c) ≡ length c
  both_long = turn_long first from (suc (want_high w)) (2 ^ i) twice ∙ turn_long c from (want_low w) (2 ^ i) once

  pub both_own : cuts_in (turn_want i from w c) from ≡ turn_rule i (some w) (cuts_in c from)
  both_own =
      turn_own first from (suc (want_high w)) (2 ^ i) twice
      ∙ ap (toggle (suc (want_high w)) (2 ^ i)) (turn_own c from (want_low w) (2 ^ i) once)

  pub both_count : count_at (turn_want i from w c) from ≤ 2 + count_at c from
  both_count =
      omega (arith, turn_count first from (suc (want_high w)) (2 ^ i) twice, turn_count c from (want_low w) (2 ^ i) once)

  pub both_other
      : (other : ℕ) → (other + 1 + 2 * count_at c other ≤ from) ⊎ (from + 5 + 2 * count_at c from ≤ other)
      → cuts_in (turn_want i from w c) other ≡ cuts_in c other
  both_other other (inl h) =
      let before = turn_other c from (want_low w) (2 ^ i) once other (inl h) in
      let count : count_at first other ≡ count_at c other = sym (cuts_count first other) ∙ ap length before ∙ cuts_count c other in
      turn_other first from (suc (want_high w)) (2 ^ i) twice other (inl (omega (arith, count))) ∙ before
  both_other other (inr h) =
      let before = turn_other c from (want_low w) (2 ^ i) once other (inr (omega arith)) in
      turn_other first from (suc (want_high w)) (2 ^ i) twice other
      (inr (omega (arith, turn_count c from (want_low w) (2 ^ i) once)))
      ∙ before

module _ (numbers : List ℕ) (rules i places : ℕ) (inside : i < rules) where
  abbrev pub number : PlaceTest → ℕ
  number x = get_or numbers x.place 0

  -- What is wanted by test t.
  abbrev pub want_of : List PlaceTest → ℕ → Option Want
  want_of [] t = none
  want_of (x ∷ xs) t = cond (eqb (number x) t) (some x.want) (want_of xs t)

  -- No two place tests have one number.
  abbrev pub Apart : List PlaceTest → Type 0
  Apart [] = Unit
  Apart (x ∷ xs) = All (λ (y : PlaceTest). number x ≡ number y → ⊥) xs × Apart xs

  unwanted : (t : ℕ) (xs : List PlaceTest) → All (λ (y : PlaceTest). t ≡ number y → ⊥) xs → want_of xs t ≡ none
  unwanted t [] apart = refl
  unwanted t (x ∷ xs) apart =
      ap (λ (b : Bool). cond b (some x.want) (want_of xs t)) (ne_eqb (number x) t (λ e. apart.0 (sym e)))
      ∙ unwanted t xs apart.1

  pub record Turned (xs : List PlaceTest) (c : List ℕ) : Type 0 where
    pub fit : TurnsFit numbers rules i xs c
    pub long : length (turn_all numbers rules i xs c) ≡ length c
    pub cuts
        : (u : ℕ) → u < places
        → cuts_in (turn_all numbers rules i xs c) (part_at rules u) ≡ turn_rule i (want_of xs u) (cuts_in c (part_at rules u))

  -- The array has room, and no part has more cuts than the rules before have.
  pub record Roomy (xs : List PlaceTest) (c : List ℕ) : Type 0 where
    pub room : part_at rules places ≤ length c
    pub most : (u : ℕ) → u < places → count_at c (part_at rules u) ≤ 2 * suc i
    pub fewer : All (λ (x : PlaceTest). count_at c (part_of numbers rules i x) ≤ 2 * i) xs

  module _ (x : PlaceTest) (c : List ℕ) (within : number x < places) (room : part_at rules places ≤ length c)
      (fewer : count_at c (part_of numbers rules i x) ≤ 2 * i) where
    abbrev from : ℕ
    from = part_at rules (number x)

    abbrev turned : List ℕ
    turned = turn_want i from x.want c

    one_fits : from + 5 + 2 * count_at c from ≤ length c
    one_fits = omega (arith, part_next rules (number x) places within)

    one_other
        : (u : ℕ) → u < places → (u ≡ number x → ⊥) → count_at c (part_at rules u) ≤ 2 * suc i
        → cuts_in turned (part_at rules u) ≡ cuts_in c (part_at rules u)
    one_other u h apart most =
        by_cases (dec_lt u (number x))
        (λ (l : u < number x).
        both_other i x.want c from one_fits (part_at rules u) (inl (omega (arith, part_next rules u (number x) l))))
        (λ (l : u < number x → ⊥).
        both_other i x.want c from one_fits (part_at rules u)
        (inr (omega (arith, part_next rules (number x) u (let z : number x < u = omega arith in z)))))

    other_count
        : (u : ℕ) → u < places → (u ≡ number x → ⊥) → count_at c (part_at rules u) ≤ 2 * suc i
        → count_at turned (part_at rules u) ≡ count_at c (part_at rules u)
    other_count u h apart most =
        sym (cuts_count turned (part_at rules u)) ∙ ap length (one_other u h apart most) ∙ cuts_count c (part_at rules u)

  -- A rule turns at all its place tests.
  pub turned_all
      : (xs : List PlaceTest) (c : List ℕ) → Apart xs → All (λ (x : PlaceTest). number x < places) xs → Roomy xs c → Turned xs c
  turned_all [] c apart within r = record { fit = tt; long = refl; cuts = λ u h. refl }
  turned_all (x ∷ xs) c apart within r = next (turned_all xs after apart.1 within.1 roomy)
    where
      after : List ℕ
      after = turn_want i (part_at rules (number x)) x.want c

      fits : part_at rules (number x) + 5 + 2 * count_at c (part_at rules (number x)) ≤ length c
      fits = one_fits x c within.0 r.room r.fewer.0

      same : length after ≡ length c
      same = both_long i x.want c (part_at rules (number x)) fits

      others
          : (u : ℕ) → u < places → (u ≡ number x → ⊥) → count_at after (part_at rules u) ≡ count_at c (part_at rules u)
      others u h d = other_count x c within.0 r.room r.fewer.0 u h d (r.most u h)

      keep
          : (ys : List PlaceTest) → All (λ (y : PlaceTest). number x ≡ number y → ⊥) ys
          → All (λ (y : PlaceTest). number y < places) ys
          → All (λ (y : PlaceTest). count_at c (part_of numbers rules i y) ≤ 2 * i) ys
          → All (λ (y : PlaceTest). count_at after (part_of numbers rules i y) ≤ 2 * i) ys
      keep [] a b d = tt
      keep (y ∷ ys) a b d =
          (omega (arith, others (number y) b.0 (λ e. a.0 (sym e)), d.0), keep ys a.1 b.1 d.1)

      roomy : Roomy xs after
      roomy = record {
        room = omega (arith, same, r.room);
        most = λ u h.
            by_cases (ℕ_discrete u (number x))
            (λ (e : u ≡ number x).
            omega (
              arith,
              ap (λ (v : ℕ). count_at after (part_at rules v)) e,
              both_count i x.want c (part_at rules (number x)) fits,
              r.fewer.0,
            ))
            (λ (e : ¬ (u ≡ number x)). omega (arith, others u h e, r.most u h));
        fewer = keep xs apart.0 within.1 r.fewer.1;
      }

      next : Turned xs after → Turned (x ∷ xs) c
      next t = record {
        fit = (fits, t.fit);
        long = t.long ∙ same;
        cuts = λ u h.
            t.cuts u h
            ∙ by_cases (ℕ_discrete u (number x))
            (λ (e : u ≡ number x).
            ap (λ (z : Option Want). turn_rule i z (cuts_in after (part_at rules u)))
            (ap (want_of xs) e ∙ unwanted (number x) xs apart.0)
            ∙ ap (λ (v : ℕ). cuts_in after (part_at rules v)) e
            ∙ both_own i x.want c (part_at rules (number x)) fits
            ∙ sym
            (λ j.
            turn_rule i (cond (eq-eqb (number x) u (sym e) j) (some x.want) (want_of xs u)) (cuts_in c (part_at rules (e j)))))
            (λ (e : ¬ (u ≡ number x)).
            ap (turn_rule i (want_of xs u)) (one_other x c within.0 r.room r.fewer.0 u h e (r.most u h))
            ∙ sym
            (ap (λ (b : Bool). turn_rule i (cond b (some x.want) (want_of xs u)) (cuts_in c (part_at rules u)))
            (ne_eqb (number x) u (λ d. e (sym d)))));
      }

-- The repeated variables under their new numbers: they are the variables of the tidy form, and have the same pairs.
use Prim.Native.Nat.{ℕ, suc, pred, ◌+◌}
use mathlib.Core.Path.{◌≡◌, refl, sym, ap, subst, ◌∙◌}
use mathlib.Core.Bool.{Bool, true, false, cond}
use mathlib.Core.List.{List, [], ◌∷◌, ◌++◌, map}
use mathlib.Core.Option.{Option, some, none}
use lib.Dec.{T}
use Rattle.places.specs.Numbering.{stride}
use Rattle.basics.specs.Lists.{Mem, filter}
use Rattle.basics.proofs.Filters.{mem_map, map_mem, mem_filter, filter_mem, map_join, filter_join}
use Rattle.basics.proofs.Sorted.{same_members}
use Rattle.terms.specs.Pattern.{Pattern, Patterns, pnil, pcons}
use Rattle.terms.specs.Pattern.{anything, the_symbol, the_series, the_range, the_gauged, the_compound, variable, ranged_variable}
use Rattle.terms.specs.RuleTests.{PairTest, Occurrence, Range}
use Rattle.terms.specs.RuleTests.{pattern_variables, patterns_variables}
use Rattle.terms.specs.RuleTests.{pairs_of}
use Rattle.terms.proofs.Ascending.{Ascends}
use Rattle.terms.proofs.PairTests.{variable_place}
use Rattle.terms.proofs.VariableSentences.{standing, pairs_of_are}
use Rattle.tidy.specs.TidyRule.{is_repeated}
use Rattle.tidy.specs.TidyRule.{new_number, single, repeated, tidy_variable, tidy_pattern, tidy_patterns}
use Rattle.tidy.proofs.Series.{series_kept}
use Rattle.tidy.proofs.Gauges.{gauge_kept}
use Rattle.tidy.proofs.Occurrences.{ascends_filter}
use Rattle.tidy.proofs.Pairs.{repeats}
use Rattle.tidy.proofs.NewNumbers.{numbers_differ}
use Rattle.tidy.proofs.PairOrder.{pair_order, pairs_ascend_lem}

module _ (os : List Occurrence) where
  -- A repeated variable stands there.
  abbrev is_kept : Occurrence → Bool
  is_kept o = is_repeated os o.name

  -- The same place, with the new number.
  abbrev pub renumbered : Occurrence → Occurrence
  renumbered o = standing o.place (new_number os o.name)

  -- The repeated ones of a list, with their new numbers.
  abbrev pub kept : List Occurrence → List Occurrence
  kept xs = map renumbered (filter is_kept xs)

  kept_join : (xs ys : List Occurrence) → kept (xs ++ ys) ≡ kept xs ++ kept ys
  kept_join xs ys =
      ap (map renumbered) (filter_join is_kept xs ys) ∙ map_join renumbered (filter is_kept xs) (filter is_kept ys)

  -- They stand where they stood.
  kept_ascends : (b e : ℕ) (xs : List Occurrence) → Ascends variable_place b e xs → Ascends variable_place b e (kept xs)
  kept_ascends b e xs up = places b e (filter is_kept xs) (ascends_filter variable_place is_kept b e xs up)
    where
      places
          : (c d : ℕ) (ys : List Occurrence) → Ascends variable_place c d ys → Ascends variable_place c d (map renumbered ys)
      places c d [] h = h
      places c d (y ∷ ys) h = (h.0, places (suc y.place) d ys h.1)

  mem_kept : (o : Occurrence) {xs : List Occurrence} → Mem o xs → T (is_kept o) → Mem (renumbered o) (kept xs)
  mem_kept o m t = mem_map renumbered (mem_filter is_kept m t)

  kept_mem
      : (y : Occurrence) (xs : List Occurrence) → Mem y (kept xs)
      → (o : Occurrence) × Mem o xs × T (is_kept o) × (y ≡ renumbered o)
  kept_mem y xs m =
      let (o, k, e) = map_mem renumbered (filter is_kept xs) m in
      let (j, t) = filter_mem is_kept xs k in
      (o, j, t, e)

  -- They have the same pairs.
  pub pairs_kept_lem : (b e : ℕ) → Ascends variable_place b e os → pairs_of (kept os) ≡ pairs_of os
  pairs_kept_lem b e up =
      same_members pair_order (pairs_of (kept os)) (pairs_of os) (pairs_ascend_lem b e (kept os) up') (pairs_ascend_lem b e os up) back forth
    where
      up' : Ascends variable_place b e (kept os)
      up' = kept_ascends b e os up

      forth : (z : PairTest) → Mem z (pairs_of os) → Mem z (pairs_of (kept os))
      forth z m =
          let p = z.first in
          let q = z.second in
          let (v, one, two, before) = (pairs_of_are b e os up p q).0 m in
          let again = repeats b e os up (standing p v) (standing q v) one two before refl in
          (pairs_of_are b e (kept os) up' p q).1
          (new_number os v, mem_kept (standing p v) one again, mem_kept (standing q v) two again, before)

      back : (z : PairTest) → Mem z (pairs_of (kept os)) → Mem z (pairs_of os)
      back z m =
          let p = z.first in
          let q = z.second in
          let (n, one, two, before) = (pairs_of_are b e (kept os) up' p q).0 m in
          let (o, i, f, c) = kept_mem (standing p n) os one in
          let (x, j, g, d) = kept_mem (standing q n) os two in
          let number = sym (ap (λ (w : Occurrence). w.name) c) ∙ ap (λ (w : Occurrence). w.name) d in
          let name : x.name ≡ o.name = sym (numbers_differ b e os up o.name x.name f g number) in
          let at_p : o.place ≡ p = sym (ap (λ (w : Occurrence). w.place) c) in
          let at-q : x.place ≡ q = sym (ap (λ (w : Occurrence). w.place) d) in
          let first = subst (λ (k : ℕ). Mem (standing k o.name) os) at_p i in
          let second = subst (λ (y : Occurrence). Mem y os) (λ t. standing (at-q t) (name t)) j in
          (pairs_of_are b e os up p q).1 (o.name, first, second, before)

module _ (os : List Occurrence) (range_of : ℕ → Option Range) where
  -- What is written for a variable has a variable there if it is repeated.
  variable_kept : (v r b : ℕ) → pattern_variables (tidy_variable os range_of v) r b ≡ kept os (standing b v ∷ [])
  variable_kept v r b = go (is_repeated os v) (range_of v)
    where
      n : ℕ
      n = new_number os v

      go
          : (c : Bool) (x : Option Range)
          → pattern_variables (cond c (repeated n x) (single x)) r b ≡ map (renumbered os) (cond c (standing b v ∷ []) [])
      go true none = refl
      go true (some x) = refl
      go false none = refl
      go false (some x) = refl

  -- They are the variables of the tidy form.
  mutual
    variables_kept
        : (p : Pattern) (r b : ℕ) → pattern_variables (tidy_pattern os range_of p) r b ≡ kept os (pattern_variables p r b)
    variables_kept anything r b = refl
    variables_kept (the_symbol a) r b = refl
    variables_kept (the_series l h) r b = series_kept (λ (p : Pattern). pattern_variables p r b) l h (λ e. refl)
    variables_kept (the_range l h) r b = refl
    variables_kept (the_gauged g l h) r b = gauge_kept (λ (p : Pattern). pattern_variables p r b) g l h (λ e. refl)
    variables_kept (the_compound a ps) r b = all_variables_kept ps (pred r) (suc b)
    variables_kept (variable v) r b = variable_kept v r b
    variables_kept (ranged_variable v l h) r b = variable_kept v r b

    pub all_variables_kept
        : (ps : Patterns) (r b : ℕ) → patterns_variables (tidy_patterns os range_of ps) r b ≡ kept os (patterns_variables ps r b)
    all_variables_kept pnil r b = refl
    all_variables_kept (pcons p ps) r b =
        (λ i. variables_kept p r b i ++ all_variables_kept ps r (b + stride r) i)
        ∙ sym (kept_join os (pattern_variables p r b) (patterns_variables ps r (b + stride r)))

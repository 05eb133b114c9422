-- The new numbers, as they are given in one pass over a rule's variables.
use Prim.Native.Nat.{ℕ, ◌+◌, ◌*◌, ◌/◌, ◌<◌, min}
use mathlib.Core.Path.{◌≡◌, refl, sym, ap, subst, ◌∙◌}
use mathlib.Core.Bool.{Bool, true, false, cond, ◌&&◌, ◌||◌, not}
use mathlib.Core.List.{List, [], ◌∷◌, ◌++◌, map, append_assoc, append-nil}
use mathlib.Core.Option.{Option}
use native.Mathlib.Decide.{ℕ_discrete}
use native.Mathlib.Omega.{arith}
use lib.Dec.{T}
use lib.ListN.{length, get_or, set, length-append}
use borrow.Author.Tests.{eq-eqb, ne_eqb, leb-true, leb-false}
use Rattle.basics.specs.Lists.{All, filter, any_of}
use Rattle.basics.proofs.Booleans.{is_true}
use Rattle.basics.proofs.Filters.{any_join, filter_join}
use Rattle.terms.specs.RuleTests.{Occurrence, Range}
use Rattle.terms.proofs.Ascending.{Ascends}
use Rattle.terms.proofs.PairTests.{variable_place}
use Rattle.sheet.specs.views.NoteRanges.{low_end, high_end, for_variables}
use Rattle.sheet.proofs.RangeArrays.{variable_at, variables_same, variable_set}
use Rattle.tidy.specs.TidyRule.{is_named, is_repeated, appears_first, new_number}
use Rattle.tidy.proofs.InOrder.{appears_next, number_next}
use Rattle.tidy.proofs.Uses.{uses, repeated_uses}
use Rattle.rule_rows.specs.views.Words.{packed_word, word_place, Numbering, numbered_at}
use Rattle.rule_rows.proofs.WordLaws.{word_parts, number_none, number_given}
use Rattle.tidying.proofs.MetVariables.{name_at, known_word, EndsFit}

-- Numbers given to the variables of a list, one after another.
abbrev pub number_names : Numbering → List ℕ → Numbering
number_names x [] = x
number_names x (v ∷ vs) = number_names (numbered_at v x) vs

or_false : (a : Bool) → (a || (false || false)) ≡ a
or_false true = refl
or_false false = refl

or_true : (a : Bool) → (a || (true || false)) ≡ true
or_true true = refl
or_true false = refl

-- Of the variables of a rule, where range_of v is the common range of variable v:
module _ (b e : ℕ) (os : List Occurrence) (up : Ascends variable_place b e os) (range_of : ℕ → Option Range)
    (fits : (v : ℕ) → EndsFit (range_of v)) where
  -- The word of a variable, with its number or without.
  abbrev pub word_with : Bool → ℕ → ℕ
  word_with given v =
      cond given (packed_word (new_number os v) 3 (high_end (range_of v)) (low_end (range_of v))) (known_word (uses v os) (range_of v))

  -- A repeated variable has its number as soon as it was met.
  abbrev pub is_given : List Occurrence → ℕ → Bool
  is_given xs v = is_repeated os v && any_of (is_named v) xs

  abbrev pub words_after : List Occurrence → List ℕ
  words_after xs = for_variables (λ (v : ℕ). word_with (is_given xs v) v)

  abbrev pub after : List Occurrence → Numbering
  after xs = record { words = words_after xs; count = length (filter (appears_first os) xs) }

  -- A word without a number: 2 at the top exactly if its variable is repeated.
  pub known_upper : (v : ℕ) → known_word (uses v os) (range_of v) / 0x2_0000_0000 ≡ min 2 (uses v os)
  known_upper v =
      let few : min 2 (uses v os) < 4 = omega arith in
      let p = word_parts 0 (min 2 (uses v os)) (high_end (range_of v)) (low_end (range_of v)) few (omega (arith, (fits v).high))
      (fits v).low in
      omega (arith, p.upper)

  given_upper
      : (v : ℕ) → word_with true v / 0x2_0000_0000 ≡ new_number os v * 4 + 3
  given_upper v =
      (word_parts (new_number os v) 3 (high_end (range_of v)) (low_end (range_of v)) (omega arith) (omega (arith, (fits v).high))
      (fits v).low).upper

  module _ (xs : List Occurrence) (o : Occurrence) (ys : List Occurrence) (is : os ≡ xs ++ o ∷ ys) (small : o.name < 16) where
    abbrev v : ℕ
    v = o.name

    abbrev more : List Occurrence
    more = xs ++ o ∷ []

    first_is : appears_first os o ≡ (is_repeated os v && not (any_of (is_named v) xs))
    first_is =
        subst (λ (l : List Occurrence). appears_first l o ≡ (is_repeated l v && not (any_of (is_named v) xs))) (sym is)
        (appears_next b e xs o ys (subst (Ascends variable_place b e) is up))

    number_is : T (appears_first os o) → new_number os v ≡ length (filter (appears_first os) xs)
    number_is =
        subst (λ (l : List Occurrence). T (appears_first l o) → new_number l v ≡ length (filter (appears_first l) xs)) (sym is)
        (number_next b e xs o ys (subst (Ascends variable_place b e) is up))

    -- Another variable is met as before; this one is met now.
    other_met : (u : ℕ) → (u ≡ v → ⊥) → any_of (is_named u) more ≡ any_of (is_named u) xs
    other_met u apart =
        any_join (is_named u) xs (o ∷ [])
        ∙ ap (λ (c : Bool). any_of (is_named u) xs || (c || false)) (ne_eqb v u (λ s. apart (sym s)))
        ∙ or_false (any_of (is_named u) xs)

    own_met : any_of (is_named v) more ≡ true
    own_met =
        any_join (is_named v) xs (o ∷ [])
        ∙ ap (λ (c : Bool). any_of (is_named v) xs || (c || false)) (eq-eqb v v refl)
        ∙ or_true (any_of (is_named v) xs)

    other_word : (u : ℕ) → (u ≡ v → ⊥) → word_with (is_given xs u) u ≡ word_with (is_given more u) u
    other_word u apart = ap (λ (c : Bool). word_with (is_repeated os u && c) u) (sym (other_met u apart))

    abbrev word : ℕ
    word = get_or (words_after xs) (word_place v) 0

    word_is : {c : Bool} → is_given xs v ≡ c → word ≡ word_with c v
    word_is h =
        let here : word_place v ≡ v = omega arith in
        ap (λ (k : ℕ). get_or (words_after xs) k 0) here
        ∙ variable_at (λ (u : ℕ). word_with (is_given xs u) u) v small
        ∙ ap (λ (c : Bool). word_with c v) h

    counted
        : {c : Bool} → appears_first os o ≡ c
        → length (filter (appears_first os) more) ≡ length (filter (appears_first os) xs) + cond c 1 0
    counted {c} h =
        ap length (filter_join (appears_first os) xs (o ∷ []))
        ∙ length-append (filter (appears_first os) xs) (filter (appears_first os) (o ∷ []))
        ∙ ap (λ (d : Bool). length (filter (appears_first os) xs) + length (cond d (o ∷ []) [])) h
        ∙ ap (λ (k : ℕ). length (filter (appears_first os) xs) + k) (one c)
      where
        one : (d : Bool) → length (cond d (o ∷ []) []) ≡ cond d 1 0
        one true = refl
        one false = refl

    -- Where nothing is given, nothing changes.
    nothing
        : (word / 0x2_0000_0000 ≡ 2 → ⊥) → appears_first os o ≡ false → is_given xs v ≡ is_given more v
        → numbered_at v (after xs) ≡ after more
    nothing apart not_first same =
        let count : length (filter (appears_first os) xs) ≡ length (filter (appears_first os) more) =
        omega (arith, counted not_first) in
        let words : words_after xs ≡ words_after more =
        variables_same _ _
        (λ u below. elim (ℕ_discrete u v) [
          | yes s ↦ ap (λ (k : ℕ). word_with (is_given xs k) k) s ∙ ap (λ (c : Bool). word_with c v) same
              ∙ ap (λ (k : ℕ). word_with (is_given more k) k) (sym s)
          | no a ↦ other_word u a
        ]) in
        sym (number_none v word (words_after xs) (length (filter (appears_first os) xs)) apart)
        ∙ (λ j. record { words = words j; count = count j })

    -- A first appearance gets the next number.
    first
        : is_repeated os v ≡ true → any_of (is_named v) xs ≡ false → numbered_at v (after xs) ≡ after more
    first twice new =
        let count = length (filter (appears_first os) xs) in
        let appears : appears_first os o ≡ true = first_is ∙ (λ j. twice j && not (new j)) in
        let number : new_number os v ≡ count = number_is (is_true appears) in
        let unmet : is_given xs v ≡ false = λ j. twice j && new j in
        let met : is_given more v ≡ true = λ j. twice j && own_met j in
        let many = leb-true 2 (uses v os) (sym (repeated_uses b e os up v) ∙ twice) in
        let was : word ≡ known_word (uses v os) (range_of v) = word_is unmet in
        let two : min 2 (uses v os) ≡ 2 = omega arith in
        let upper : word / 0x2_0000_0000 ≡ 2 = ap (λ (w : ℕ). w / 0x2_0000_0000) was ∙ known_upper v ∙ two in
        let here : word_place v ≡ v = omega arith in
        let now : word + (count * 4 + 1) * 0x2_0000_0000 ≡ word_with (is_given more v) v =
        ap (λ (w : ℕ). w + (count * 4 + 1) * 0x2_0000_0000)
        (was ∙ ap (λ (k : ℕ). packed_word 0 k (high_end (range_of v)) (low_end (range_of v))) two)
        ∙ one_number count (high_end (range_of v)) (low_end (range_of v))
        ∙ ap (λ (n : ℕ). packed_word n 3 (high_end (range_of v)) (low_end (range_of v))) (sym number)
        ∙ ap (λ (c : Bool). word_with c v) (sym met) in
        let words : set (words_after xs) (word_place v) (word + (count * 4 + 1) * 0x2_0000_0000) ≡ words_after more =
        ap (λ (k : ℕ). set (words_after xs) k (word + (count * 4 + 1) * 0x2_0000_0000)) here
        ∙ variable_set (λ (u : ℕ). word_with (is_given xs u) u) (λ (u : ℕ). word_with (is_given more u) u) v small now other_word in
        let next : count + 1 ≡ length (filter (appears_first os) more) = sym (counted appears) in
        sym (number_given v word (words_after xs) count upper) ∙ (λ j. record { words = words j; count = next j })
      where
        one_number : (n h l : ℕ) → packed_word 0 2 h l + (n * 4 + 1) * 0x2_0000_0000 ≡ packed_word n 3 h l
        one_number n h l = omega arith

    step : numbered_at v (after xs) ≡ after more
    step = go (is_repeated os v) (any_of (is_named v) xs) refl refl
      where
        go
            : (f a : Bool) → is_repeated os v ≡ f → any_of (is_named v) xs ≡ a → numbered_at v (after xs) ≡ after more
        go true false twice new = first twice new
        go true true twice old =
            let given : is_given xs v ≡ true = λ j. twice j && old j in
            nothing (λ h. omega (arith, ap (λ (w : ℕ). w / 0x2_0000_0000) (word_is given), given_upper v))
            (first_is ∙ (λ j. twice j && not (old j)))
            (given ∙ (λ j. sym twice j && sym own_met j))
        go false a once met =
            let unmet : is_given xs v ≡ false = ap (λ (c : Bool). c && any_of (is_named v) xs) once in
            let few = leb-false 2 (uses v os) (sym (repeated_uses b e os up v) ∙ once) in
            nothing (λ h. omega (arith, few, ap (λ (w : ℕ). w / 0x2_0000_0000) (word_is unmet), known_upper v))
            (first_is ∙ ap (λ (c : Bool). c && not (any_of (is_named v) xs)) once)
            (unmet ∙ ap (λ (c : Bool). c && any_of (is_named v) more) (sym once))

  -- Behind all variables each repeated one has its number.
  pub numbered_all
      : (xs ys : List Occurrence) → os ≡ xs ++ ys → All (λ (o : Occurrence). o.name < 16) ys
      → number_names (after xs) (map name_at ys) ≡ after os
  numbered_all xs [] is small = ap after (sym (is ∙ append-nil xs))
  numbered_all xs (o ∷ ys) is small =
      ap (λ (x : Numbering). number_names x (map name_at ys)) (step xs o ys is small.0)
      ∙ numbered_all (xs ++ o ∷ []) ys (is ∙ sym (append_assoc xs (o ∷ []) ys)) small.1

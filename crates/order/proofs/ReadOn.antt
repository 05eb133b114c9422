-- Reading a table place by place, with 30 remembered, asks the questions in their order.
use Prim.Native.Nat.{ℕ, suc, ◌<◌}
use mathlib.Core.Path.{◌≡◌, refl, sym, ap, ◌∙◌}
use mathlib.Core.Bool.{Bool, true, false, not, ◌&&◌, ◌||◌, cond}
use mathlib.Core.Logic.{inl, inr, by_cases}
use mathlib.Core.List.{List, [], ◌∷◌}
use native.Mathlib.Decide.{ℕ_discrete}
use native.Mathlib.Omega.{arith}
use borrow.Author.Tests.{eq-eqb, ne_eqb, ltb-true}
use lib.Dec.{T, T_not, not_T, eqb, ltb, eqb→eq}
use lib.ListN.{length, get_or, set, length-set, replicate, length-replicate, get_or-replicate}
use lib.Seq.{get_or-set_same, get_or-set_other}
use Rattle.basics.specs.Lists.{Mem, there, any_of, all_of}
use Rattle.basics.proofs.Booleans.{by_test, same_truth, either_true, true_left, true_right}
use Rattle.basics.proofs.Numbers.{eqb_swap, eq_true}
use Rattle.basics.proofs.ListLaws.{all_at}
use Rattle.places.specs.Numbering.{parent_at}
use Rattle.places.proofs.Parents.{parent_before}
use Rattle.order.specs.Table.{each_once, parents_first}
use Rattle.order.specs.views.TableRead.{none_down, is_late, refusal_on}
use Rattle.order.proofs.EveryPlace.{found_mem, mem_found}
use Rattle.order.proofs.PlacesAbove.{Midway, midway_start, midway_next, parent_seen}

-- The parent of a place is a place or 680.
pub parent_inside : (p : ℕ) → p < 680 → parent_at p < 681
parent_inside p inside =
    by_cases (ℕ_discrete (parent_at p) 680) (λ (e : parent_at p ≡ 680). omega arith)
    (λ (has : parent_at p ≡ 680 → ⊥). omega (arith, parent_before p has))

-- Place x was seen, or is 680.
abbrev is_down : List ℕ → ℕ → Bool
is_down seen x = eqb x 680 || any_of (eqb x) seen

-- The entries that are not 0 are those of the places seen.
pub record Down (seen down : List ℕ) : Type 0 where
  pub size : length down ≡ 681
  pub entry : (x : ℕ) → x < 681 → eqb (get_or down x 0) 0 ≡ not (is_down seen x)

seen_itself : (a b : Bool) → not (a || (true || b)) ≡ false
seen_itself true b = refl
seen_itself false b = refl

down_next : {seen down : List ℕ} (p : ℕ) → p < 680 → Down seen down → Down (p ∷ seen) (set down p 1)
down_next {seen} {down} p inside d = record {
  size = length-set down p 1 ∙ d.size;
  entry = λ x within.
      by_cases (ℕ_discrete x p)
      (λ (e : x ≡ p).
      ap (λ (y : ℕ). eqb (get_or (set down p 1) y 0) 0) e
      ∙ ap (λ (v : ℕ). eqb v 0) (get_or-set_same down p 1 0 (omega (arith, d.size)))
      ∙ sym (ap (λ (b : Bool). not (eqb x 680 || (b || any_of (eqb x) seen))) (eq-eqb x p e) ∙ seen_itself (eqb x 680) (any_of (eqb x) seen)))
      (λ (n : x ≡ p → ⊥).
      ap (λ (v : ℕ). eqb v 0) (get_or-set_other down p x 1 0 n)
      ∙ d.entry x within
      ∙ sym (ap (λ (b : Bool). not (eqb x 680 || (b || any_of (eqb x) seen))) (ne_eqb x p n)));
}

-- It is so at first, of any number of entries, where the last is 680's.
start_entry : (n x : ℕ) → x < suc n → eqb (get_or (set (replicate (suc n) 0) n 1) x 0) 0 ≡ not (eqb x n || false)
start_entry n x within =
    by_cases (ℕ_discrete x n)
    (λ (e : x ≡ n).
    ap (λ (y : ℕ). eqb (get_or (set (replicate (suc n) 0) n 1) y 0) 0) e
    ∙ ap (λ (v : ℕ). eqb v 0) (get_or-set_same (replicate (suc n) 0) n 1 0 (omega (arith, length-replicate {A = ℕ} (suc n) 0)))
    ∙ sym (ap (λ (b : Bool). not (b || false)) (eq-eqb x n e)))
    (λ (d : x ≡ n → ⊥).
    ap (λ (v : ℕ). eqb v 0)
    (get_or-set_other (replicate (suc n) 0) n x 1 0 d ∙ get_or-replicate {A = ℕ} (suc n) x 0 0 within)
    ∙ sym (ap (λ (b : Bool). not (b || false)) (ne_eqb x n d)))

down_start : Down [] none_down
unfolding none_down
down_start = record {
  size = length-set {A = ℕ} (replicate 681 0) 680 1 ∙ length-replicate {A = ℕ} 681 0;
  entry = start_entry 680;
}

-- None of the places was seen.
abbrev none_seen : List ℕ → List ℕ → Bool
none_seen seen places = all_of (λ (x : ℕ). not (any_of (eqb x) seen)) places

-- No place was seen of which the parent was not.
abbrev parents_seen : List ℕ → List ℕ → Bool
parents_seen seen [] = true
parents_seen seen (p ∷ places) = is_down seen (parent_at p) && parents_seen (p ∷ seen) places

swap_seen : (e a b r : Bool) → not (e || a) && (not b && r) ≡ not (e || b) && (not a && r)
swap_seen true a b r = refl
swap_seen false true true r = refl
swap_seen false true false r = refl
swap_seen false false true r = refl
swap_seen false false false r = refl

none_seen_more : (p : ℕ) (seen places : List ℕ) → none_seen (p ∷ seen) places ≡ not (any_of (eqb p) places) && none_seen seen places
none_seen_more p seen [] = refl
none_seen_more p seen (x ∷ places) =
    ap (λ (b : Bool). not (b || any_of (eqb x) seen) && none_seen (p ∷ seen) places) (eqb_swap x p)
    ∙ ap (λ (b : Bool). not (eqb p x || any_of (eqb x) seen) && b) (none_seen_more p seen places)
    ∙ swap_seen (eqb p x) (any_of (eqb x) seen) (any_of (eqb p) places) (none_seen seen places)

none_seen_first : (places : List ℕ) → none_seen [] places ≡ true
none_seen_first [] = refl
none_seen_first (p ∷ places) = none_seen_first places

-- The refusal, 29 before 30.
abbrev pub refusal_by : Bool → Bool → ℕ
refusal_by once first = cond once (cond first 0 30) 29

late_more : (late a b : Bool) → cond {A = ℕ} ((late || not a) || not b) 30 0 ≡ cond (late || not (a && b)) 30 0
late_more true a b = refl
late_more false true b = refl
late_more false false b = refl

once_more : (once again seen : Bool) → once && (not again && seen) ≡ (not again && once) && seen
once_more true true s = refl
once_more true false s = refl
once_more false true s = refl
once_more false false s = refl

and_no : (a : Bool) → a && false ≡ false
and_no true = refl
and_no false = refl

-- From any place on: 29 if a place that is still to come is out of range, was seen or comes twice; else 30 if one was late or is.
read_on
    : (places seen down : List ℕ) (late : Bool) → Down seen down
    → refusal_on places down late
    ≡ cond (each_once places && none_seen seen places) (cond (late || not (parents_seen seen places)) 30 0) 29
read_on [] seen down late d = last late
  where
    last : (b : Bool) → cond {A = ℕ} b 30 0 ≡ cond (b || false) 30 0
    last true = refl
    last false = refl
read_on (p ∷ places) seen down late d =
    by_test (ltb p 680)
    (λ inside.
    let within = ltb-true p 680 inside in
    let new : eqb (get_or down p 0) 0 ≡ not (any_of (eqb p) seen) =
    d.entry p (omega arith) ∙ ap (λ (b : Bool). not (b || any_of (eqb p) seen)) (ne_eqb p 680 (λ e. omega arith)) in
    ap (λ (b : Bool). cond (b && eqb (get_or down p 0) 0) on 29) inside
    ∙ ap (λ (b : Bool). cond b on 29) new
    ∙ go (any_of (eqb p) seen) (read_on places (p ∷ seen) (set down p 1) (late || is_late down p) (down_next p within d)
    ∙ ap (λ (b : Bool). cond b (cond ((late || is_late down p) || not (parents_seen (p ∷ seen) places)) 30 0) 29)
    (ap (λ (b : Bool). each_once places && b) (none_seen_more p seen places) ∙ once_more (each_once places) (any_of (eqb p) places) (none_seen seen places))
    ∙ ap (λ (n : ℕ). cond (rest && none_seen seen places) n 29)
    (ap (λ (b : Bool). cond ((late || b) || not (parents_seen (p ∷ seen) places)) 30 0) (d.entry (parent_at p) (parent_inside p within))
    ∙ late_more late (is_down seen (parent_at p)) (parents_seen (p ∷ seen) places)))
    ∙ sym (ap (λ (b : Bool). cond (((b && not (any_of (eqb p) places)) && each_once places) && (not (any_of (eqb p) seen) && none_seen seen places)) end 29) inside))
    (λ outside.
    ap (λ (b : Bool). cond (b && eqb (get_or down p 0) 0) on 29) outside
    ∙ sym (ap (λ (b : Bool). cond (((b && not (any_of (eqb p) places)) && each_once places) && (not (any_of (eqb p) seen) && none_seen seen places)) end 29) outside))
  where
    on : ℕ
    on = refusal_on places (set down p 1) (late || is_late down p)

    end : ℕ
    end = cond (late || not (parents_seen seen (p ∷ places))) 30 0

    rest : Bool
    rest = not (any_of (eqb p) places) && each_once places

    go : (s : Bool) → on ≡ cond (rest && none_seen seen places) end 29
        → cond (not s) on 29 ≡ cond (rest && (not s && none_seen seen places)) end 29
    go true e = sym (ap (λ (b : Bool). cond b end 29) (and_no rest))
    go false e = e

-- A table that is read up to some place has a place before its parent exactly if one comes of which the parent was not seen.
parents_same : (seen places : List ℕ) → Midway seen places → parents_seen seen places ≡ parents_first places
parents_same seen [] m = refl
parents_same seen (p ∷ places) m =
    ap (λ (b : Bool). b && parents_seen (p ∷ seen) places)
    (same_truth (is_down seen (parent_at p)) (not (any_of (eqb (parent_at p)) places)) forth back)
    ∙ ap (λ (b : Bool). not (any_of (eqb (parent_at p)) places) && b) (parents_same (p ∷ seen) places (midway_next m))
  where
    gone : T (is_down seen (parent_at p)) → Mem (parent_at p) places → ⊥
    gone h k =
        elim (either_true (eqb (parent_at p) 680) (any_of (eqb (parent_at p)) seen) h) [
          | inl e ↦ omega (arith, eqb→eq (parent_at p) 680 e, all_at (λ (x : ℕ). x < 680) k m.below.1)
          | inr f ↦ m.parted (parent_at p) (found_mem (parent_at p) seen f) (there k)
        ]

    forth : T (is_down seen (parent_at p)) → T (not (any_of (eqb (parent_at p)) places))
    forth h = not_T (any_of (eqb (parent_at p)) places) (λ f. gone h (found_mem (parent_at p) places f))

    back : T (not (any_of (eqb (parent_at p)) places)) → T (is_down seen (parent_at p))
    back h =
        by_cases (ℕ_discrete (parent_at p) 680)
        (λ (e : parent_at p ≡ 680). true_left (eqb (parent_at p) 680) (any_of (eqb (parent_at p)) seen) (eq_true (parent_at p) 680 e))
        (λ (has : parent_at p ≡ 680 → ⊥). true_right (eqb (parent_at p) 680) (any_of (eqb (parent_at p)) seen)
        (mem_found (parent_at p) (parent_seen m has (λ k. T_not (any_of (eqb (parent_at p)) places) h (mem_found (parent_at p) k)))))

-- Of 680 places: 29 if one is out of range or twice, else 30 if one is before its parent.
pub refusal_is : (places : List ℕ) → length places ≡ 680 → refusal_on places none_down false ≡ refusal_by (each_once places) (parents_first places)
refusal_is places size =
    read_on places [] none_down false down_start
    ∙ ap (λ (b : Bool). cond (each_once places && b) (cond (not (parents_seen [] places)) 30 0) 29) (none_seen_first places)
    ∙ by_test (each_once places)
    (λ once.
    ap (λ (b : Bool). cond (b && true) (cond (not (parents_seen [] places)) 30 0) 29) once
    ∙ ap (λ (b : Bool). cond (not b) 30 0) (parents_same [] places (midway_start places once size))
    ∙ turned (parents_first places)
    ∙ sym (ap (λ (b : Bool). refusal_by b (parents_first places)) once))
    (λ twice.
    ap (λ (b : Bool). cond (b && true) (cond (not (parents_seen [] places)) 30 0) 29) twice
    ∙ sym (ap (λ (b : Bool). refusal_by b (parents_first places)) twice))
  where
    turned : (b : Bool) → cond {A = ℕ} (not b) 30 0 ≡ cond b 0 30
    turned true = refl
    turned false = refl

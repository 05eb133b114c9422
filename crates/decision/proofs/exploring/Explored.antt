-- What breadth first finds (document 01, "Nodes"): "Nodes are numbered breadth first from root 0." Where it gives a list, looking at
-- the things of that list one after another, from the root on, meets exactly them, in this order. It gives none exactly where more
-- different things than allowed can be reached.
use Prim.Native.Nat.{ℕ, zero, suc, ◌+◌, ◌<◌, ◌≤◌}
use mathlib.Core.Path.{◌≡◌, refl, sym, ap, subst, ◌∙◌}
use mathlib.Core.Bool.{Bool}
use mathlib.Core.Logic.{◌⊎◌, inl, inr, ◌↔◌}
use mathlib.Core.List.{List, [], ◌∷◌, ◌++◌, append_assoc}
use mathlib.Core.Option.{Option, some, none}
use native.Mathlib.Omega.{arith}
use lib.Dec.{T}
use lib.ListN.{length, length-append}
use Rattle.basics.specs.Lists.{Mem, here, there}
use Rattle.basics.proofs.ListLaws.{mem_cases, mem_none, mem_join}
use Rattle.basics.proofs.Filters.{mem_right}
use Rattle.decision.specs.Graph.{new_ones, explore}
use Rattle.decision.proofs.exploring.BreadthFirst.{some_none, new_from, explore_closed}
use Rattle.decision.proofs.exploring.MetOnce.{Distinct, new_distinct, explore_few, explore_first}

-- A list without one of its things.
pub record Without {A : Type 0} (x : A) (ys : List A) : Type 0 where
  pub rest : List A
  pub longer : length ys ≡ suc (length rest)
  pub others : (y : A) → Mem y ys → (y ≡ x) ⊎ Mem y rest

without : {A : Type 0} (x : A) (ys : List A) → Mem x ys → Without x ys
without {A = A} x [] m = elim m [ ]
without {A} x (y ∷ ys) m = elim (mem_cases m) [
  | inl e ↦ record {
    rest = ys;
    longer = refl;
    others = λ z k. elim (mem_cases k) [ inl d ↦ inl (d ∙ sym e) | inr n ↦ inr n ];
  }
  | inr k ↦ let w = without x ys k in record {
    rest = y ∷ w.rest;
    longer = ap suc w.longer;
    others = λ z n. elim (mem_cases n) [
      | inl d ↦ inr (subst (λ (v : A). Mem v (y ∷ w.rest)) (sym d) here)
      | inr q ↦ elim (w.others z q) [ inl d ↦ inl d | inr r ↦ inr (there r) ]
    ];
  }
]

-- Different things of a list are at most as many as the list has.
pub distinct_most : {A : Type 0} (xs ys : List A) → Distinct xs → ((x : A) → Mem x xs → Mem x ys) → length xs ≤ length ys
distinct_most [] ys d inside = omega arith
distinct_most (x ∷ xs) ys d inside =
    let w = without x ys (inside x here) in
    let few =
    distinct_most xs w.rest d.1
    (λ y m. elim (w.others y (inside y (there m))) [ inl e ↦ absurd (d.0 (subst (λ z. Mem z xs) e m)) | inr r ↦ r ]) in
    omega (arith, w.longer)

module _ {A : Type 0} (same : A → A → Bool) (next : A → List A) where
  -- Looking at things one after another, each new one at an edge is met behind the others.
  abbrev pub look_all : List A → List A → List A
  look_all met [] = met
  look_all met (x ∷ xs) = look_all (met ++ new_ones same met (next x)) xs

  -- What edges lead to from the root.
  pub data Reachable (root : A) : A → Type 0 where
    start : Reachable root root
    along : {x y : A} → Reachable root x → Mem y (next x) → Reachable root y

  -- The list met, where those before the queue were looked at.
  pub record Looked (before met all : List A) : Type 0 where
    pub later : List A
    pub whole : all ≡ before ++ later
    pub meets : look_all met later ≡ all

  looked_none : (before all : List A) → some (before ++ []) ≡ some all → Looked before (before ++ []) all
  looked_none before all e = let k : before ++ [] ≡ all = cc in record { later = []; whole = sym k; meets = k }

  looked
      : (more : ℕ) (before queue all : List A) → explore same next more (before ++ queue) queue ≡ some all
      → Looked before (before ++ queue) all
  looked zero before [] all e = looked_none before all e
  looked zero before (x ∷ queue) all e = some_none e
  looked (suc more) before [] all e = looked_none before all e
  looked (suc more) before (x ∷ queue) all e =
      let met = before ++ x ∷ queue in
      let new = new_ones same met (next x) in
      let joined : met ++ new ≡ (before ++ x ∷ []) ++ (queue ++ new) =
      append_assoc before (x ∷ queue) new ∙ sym (append_assoc before (x ∷ []) (queue ++ new)) in
      let r =
      looked more (before ++ x ∷ []) (queue ++ new) all
      (ap (λ (l : List A). explore same next more l (queue ++ new)) (sym joined) ∙ e) in
      record {
        later = x ∷ r.later;
        whole = r.whole ∙ append_assoc before (x ∷ []) r.later;
        meets = ap (λ (l : List A). look_all l r.later) joined ∙ r.meets;
      }

  -- "Nodes are numbered breadth first from root 0": looking at all that is met, in the order of the numbers, meets just that.
  pub breadth_first
      : (most : ℕ) (root : A) (all : List A) → explore same next most (root ∷ []) (root ∷ []) ≡ some all
      → look_all (root ∷ []) all ≡ all
  breadth_first most root all e =
      let r = looked most [] (root ∷ []) all e in
      ap (look_all (root ∷ [])) r.whole ∙ r.meets

  module _ (sound : (x y : A) → T (same x y) → x ≡ y) (reflexive : (x : A) → T (same x x)) (root : A) where
    -- More than so many different things can be reached.
    pub record MoreThan (most : ℕ) : Type 0 where
      pub things : List A
      pub different : Distinct things
      pub reached : (x : A) → Mem x things → Reachable root x
      pub many : most < length things

    none_many
        : (more : ℕ) (before queue : List A) → Distinct (before ++ queue)
        → ((x : A) → Mem x (before ++ queue) → Reachable root x) → explore same next more (before ++ queue) queue ≡ none
        → MoreThan (more + length before)
    none_many zero before [] d r e = some_none (sym e)
    none_many zero before (x ∷ queue) d r e =
        record { things = before ++ x ∷ queue; different = d; reached = r; many = omega (arith, length-append before (x ∷ queue)) }
    none_many (suc more) before [] d r e = some_none (sym e)
    none_many (suc more) before (x ∷ queue) d r e =
        let met = before ++ x ∷ queue in
        let new = new_ones same met (next x) in
        let joined : met ++ new ≡ (before ++ x ∷ []) ++ (queue ++ new) =
        append_assoc before (x ∷ queue) new ∙ sym (append_assoc before (x ∷ []) (queue ++ new)) in
        let m =
        none_many more (before ++ x ∷ []) (queue ++ new)
        (subst Distinct joined (new_distinct same next sound reflexive met (next x) d))
        (λ y k. elim (mem_join met new (subst (Mem y) (sym joined) k)) [
          | inl n ↦ r y n
          | inr n ↦ along (r x (mem_right before here)) (new_from same next sound reflexive met (next x) y n)
        ])
        (ap (λ (l : List A). explore same next more l (queue ++ new)) (sym joined) ∙ e) in
        record {
          things = m.things;
          different = m.different;
          reached = m.reached;
          many = omega (arith, m.many, length-append before (x ∷ []));
        }

    -- All that is reached is met.
    reached_met
        : (most : ℕ) (all : List A) → explore same next most (root ∷ []) (root ∷ []) ≡ some all
        → (x : A) → Reachable root x → Mem x all
    reached_met most all e x start =
        let first = explore_first same next sound reflexive most root [] (root ∷ []) all e in
        subst (Mem root) (sym first.1) here
    reached_met most all e y (along {x} r m) =
        explore_closed same next sound reflexive most (root ∷ []) (root ∷ []) all (λ z k. inl k) e x (reached_met most all e x r) y m

    -- None is given exactly where more than so many different things can be reached.
    pub none_exactly : (most : ℕ) → (explore same next most (root ∷ []) (root ∷ []) ≡ none) ↔ MoreThan most
    none_exactly most = (
      λ e.
          let m = none_many most [] (root ∷ []) (λ k. mem_none k, tt)
          (λ x k. elim (mem_cases k) [ inl d ↦ subst (Reachable root) (sym d) start | inr n ↦ absurd (mem_none n) ]) e in
          record { things = m.things; different = m.different; reached = m.reached; many = omega (arith, m.many) },
      λ m. go m (explore same next most (root ∷ []) (root ∷ [])) refl,
    )
      where
        go : MoreThan most → (r : Option (List A)) → explore same next most (root ∷ []) (root ∷ []) ≡ r → r ≡ none
        go m none e = refl
        go m (some all) e =
            let few = explore_few same next sound reflexive most (root ∷ []) (root ∷ []) all e in
            let within =
            distinct_most m.things all m.different (λ x k. reached_met most all e x (m.reached x k)) in
            absurd (omega (arith, m.many, few, within))

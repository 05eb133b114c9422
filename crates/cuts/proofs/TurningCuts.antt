-- The codes at which live rules turn are the cuts of what they want.
use Prim.Native.Nat.{ℕ, suc, ◌^◌, ◌<◌, ◌≤◌}
use mathlib.Core.Path.{◌≡◌, refl, sym, ap, subst, ◌∙◌}
use mathlib.Core.Bool.{Bool, true, false, ◌&&◌, cond, false≢true}
use mathlib.Core.List.{List, [], ◌∷◌, map}
use mathlib.Core.Logic.{inl, inr}
use mathlib.Core.Option.{Option, some, none}
use native.Mathlib.Omega.{arith}
use lib.Bits.{and_comm}
use lib.Count.{count_trailing_zeros}
use lib.Dec.{T, eqb, ltb, lt→ltb}
use lib.ListN.{length}
use borrow.Author.Tests.{eq-eqb, ne_eqb, eqb-true, eqb-false, lt-ltb}
use Rattle.basics.specs.Lists.{Mem, here, there, All}
use Rattle.basics.proofs.Booleans.{by_test, and_both, is_true}
use Rattle.basics.proofs.Filters.{mem_map, map_mem}
use Rattle.basics.proofs.ListLaws.{all_map, mem_cases, mem_none}
use Rattle.basics.proofs.Sorted.{AscendingBy, Ascending, same_members, number_order}
use Rattle.masks.specs.Mask.{has}
use Rattle.masks.proofs.LowestMember.{trailing_in}
use Rattle.masks.proofs.Membership.{has_and, has_lt, has_pos}
use Rattle.masks.proofs.Operations.{and_fits}
use Rattle.terms.specs.Pattern.{Patterns}
use Rattle.terms.specs.RuleTests.{Want, a_symbol, a_number, a_compound, Range}
use Rattle.decision.specs.Rules.{want_at}
use Rattle.decision.specs.Runs.{cuts as rangeCuts}
use Rattle.decision.specs.Edges.{live_wants}
use Rattle.decision.proofs.cases.RangeRuns as ranges
use Rattle.decision.proofs.cases.RangeRuns.{CutBy, wanted_cut}
use Rattle.decision.proofs.rules.LiveWants.{want_listed}
use Rattle.codes.specs.views.Codes.{want_low, want_high, SoundWant}
use Rattle.cuts.specs.views.Cuts.{Cut}
use Rattle.cuts.specs.views.CutsOf.{cuts_to}
use Rattle.cuts.proofs.CodeRanges.{want_range}
use Rattle.cuts.proofs.Parity.{apart, parity, turns_by, cuts_parity}
use Rattle.cuts.proofs.AscendingCuts.{CutBefore, cuts_ascend, in_parity, parity_in}
use Rattle.cuts.proofs.RunningSets.{turned, turning}
use Rattle.cuts.proofs.ListedWants.{listed_want}

-- What is wanted ends no lower than it begins.
pub want_order : (w : Want) → SoundWant w → want_low w ≤ want_high w
want_order (a_symbol l h) s = omega (arith, s.0)
want_order (a_number l h) s = omega (arith, s.0)
want_order (a_compound a n) s = omega arith

module _ (live : ℕ) where
  -- Where live rules turn there is a cut, and at a cut where some do its code is listed.
  turning_mem : (xs : List Cut) {z : ℕ} → Mem z (turning live xs) → (x : Cut) × Mem x xs × (x.code ≡ z) × (turned live x ≡ 0 → ⊥)
  turning_mem [] m = absurd (mem_none m)
  turning_mem (x ∷ xs) {z} m = go (eqb (turned live x) 0) refl (turning_mem xs) m
    where
      go : (b : Bool) → eqb (turned live x) 0 ≡ b
          → (Mem z (turning live xs) → (y : Cut) × Mem y xs × (y.code ≡ z) × (turned live y ≡ 0 → ⊥))
          → Mem z (cond b (turning live xs) (x.code ∷ turning live xs))
          → (y : Cut) × Mem y (x ∷ xs) × (y.code ≡ z) × (turned live y ≡ 0 → ⊥)
      go true e rest k = let r = rest k in (r.0, there r.1, r.2, r.3)
      go false e rest k =
          elim (mem_cases k) [
            | inl d ↦ (x, here, sym d, eqb-false (turned live x) 0 e)
            | inr l ↦ (let r = rest l in (r.0, there r.1, r.2, r.3))
          ]

  mem_turning : {x : Cut} {xs : List Cut} → Mem x xs → (turned live x ≡ 0 → ⊥) → Mem x.code (turning live xs)
  mem_turning {x} (here {xs = xs}) h = rw (ne_eqb (turned live x) 0 h) here
  mem_turning {x} (there {y = y} {xs = xs} m) h =
      by_test (eqb (turned live y) 0) (λ e. rw e (mem_turning m h)) (λ e. rw e (there (mem_turning m h)))

  -- The codes ascend.
  turning_all : (Q : ℕ → Type 0) (xs : List Cut) → All (λ (x : Cut). Q x.code) xs → All Q (turning live xs)
  turning_all Q [] h = tt
  turning_all Q (x ∷ xs) h =
      by_test (eqb (turned live x) 0) (λ e. rw e (turning_all Q xs h.1)) (λ e. rw e (h.0, turning_all Q xs h.1))

  turning_ascends : (xs : List Cut) → AscendingBy CutBefore xs → AscendingBy ◌<◌ (turning live xs)
  turning_ascends [] a = tt
  turning_ascends (x ∷ xs) a =
      by_test (eqb (turned live x) 0) (λ e. rw e (turning_ascends xs a.1))
      (λ e. rw e (turning_all (λ (c : ℕ). x.code < c) xs a.0, turning_ascends xs a.1))

-- Ascending by one way of saying it and by the other.
test_ascends : (l : List ℕ) → AscendingBy ◌<◌ l → Ascending ltb l
test_ascends [] a = tt
test_ascends (x ∷ xs) a =
    (all_map (λ (y : ℕ). x < y) (λ (y : ℕ). T (ltb x y)) (λ y h. lt→ltb x y h) xs a.0, test_ascends xs a.1)

module _ (rules : List Patterns) (n live : ℕ) (fits : live < 2 ^ length rules)
    (sound : (i : ℕ) (w : Want) → want_at rules i n ≡ some w → SoundWant w) where
  abbrev cuts : List Cut
  cuts = cuts_to rules n (length rules)

  abbrev wants : List Want
  wants = live_wants rules live n

  -- A live rule turns at a code where what it wants begins or is over,
  turned_cut
      : (i z : ℕ) → i < length rules → parity (λ c. eqb c z) i cuts ≡ true
      → (w : Want) × (want_at rules i n ≡ some w) × CutBy (want_range w) z
  turned_cut i z l e =
      go (want_at rules i n) refl
      (sym (ap (λ (b : Bool). b && turns_by (λ c. eqb c z) i (want_at rules i n)) (lt-ltb i (length rules) l))
      ∙ sym (cuts_parity (λ c. eqb c z) i rules n (length rules))
      ∙ e)
    where
      go : (x : Option Want) → want_at rules i n ≡ x → turns_by (λ c. eqb c z) i x ≡ true
          → (w : Want) × (want_at rules i n ≡ some w) × CutBy (want_range w) z
      go none d f = absurd (false≢true f)
      go (some w) d f = (
        w,
        d,
        by_test (eqb (want_low w) z) (λ y. inl (sym (eqb-true (want_low w) z y)))
            (λ y.
            by_test (eqb (suc (want_high w)) z) (λ u. inr (sym (eqb-true (suc (want_high w)) z u)))
            (λ u.
            absurd
            (false≢true
            (sym (ap (λ (b : Bool). apart b false) u) ∙ sym (ap (apart (eqb (suc (want_high w)) z)) y) ∙ f)))),
      )

  -- and the other way round.
  cut_turned
      : (i z : ℕ) (w : Want) → i < length rules → want_at rules i n ≡ some w → CutBy (want_range w) z
      → parity (λ c. eqb c z) i cuts ≡ true
  cut_turned i z w l e d =
      let o = want_order w (sound i w e) in
      cuts_parity (λ c. eqb c z) i rules n (length rules)
      ∙ ap (λ (b : Bool). b && turns_by (λ c. eqb c z) i (want_at rules i n)) (lt-ltb i (length rules) l)
      ∙ ap (turns_by (λ c. eqb c z) i) e
      ∙ elim d [
        | inl f ↦ (rw (eq-eqb (want_low w) z (sym f), ne_eqb (suc (want_high w)) z (λ x. omega arith)))
        | inr f ↦ (rw (eq-eqb (suc (want_high w)) z (sym f), ne_eqb (want_low w) z (λ x. omega arith)))
      ]

  -- Where live rules turn what they want is cut,
  turning_wanted : (z : ℕ) → Mem z (turning live cuts) → Mem z (rangeCuts (map want_range wants))
  turning_wanted z m =
      let x = turning_mem live cuts m in
      let now = turned live x.0 in
      let small : now < 2 ^ length rules =
      subst (λ (s : ℕ). s < 2 ^ length rules) (and_comm live x.0.turns) (and_fits (length rules) live x.0.turns fits) in
      let i = count_trailing_zeros (length rules) now in
      let there-is : now ≡ 0 → ⊥ = x.3 in
      let both =
      and_both (has x.0.turns i) (has live i)
      (sym (has_and x.0.turns live i) ∙ trailing_in (length rules) now small (omega arith)) in
      let l = has_lt (length rules) live i fits both.1 in
      let odd : parity (λ c. eqb c z) i cuts ≡ true =
      ap (λ (y : ℕ). parity (λ c. eqb c y) i cuts) (sym x.2)
      ∙ in_parity i (cuts_ascend rules n (length rules)) x.1
      ∙ both.0 in
      let w = turned_cut i z l odd in
      wanted_cut (mem_map want_range (want_listed rules live n i w.0 l (is_true both.1) w.1)) z w.2

  -- and where it is cut they turn.
  wanted_turning : (z : ℕ) → Mem z (rangeCuts (map want_range wants)) → Mem z (turning live cuts)
  wanted_turning z m =
      let r = ranges.cut_wanted (map want_range wants) z m in
      let w = map_mem want_range wants r.1 in
      let i = listed_want rules live n w.1 in
      let odd = cut_turned i.0 z w.0 i.1 i.3 (subst (λ (s : Range). CutBy s z) w.2 r.2) in
      let x = parity_in i.0 (λ c. eqb c z) cuts odd in
      let both : has (turned live x.0) i.0 ≡ true =
      has_and x.0.turns live i.0 ∙ (λ j. x.3 j && i.2 j) in
      let some-rule = has_pos (turned live x.0) i.0 both in
      subst (λ (c : ℕ). Mem c (turning live cuts)) (eqb-true x.0.code z x.2)
      (mem_turning live x.1 (λ e. omega arith))

  -- So they turn at the cuts of what they want.
  pub turning_is : turning live cuts ≡ rangeCuts (map want_range wants)
  turning_is =
      same_members number_order (turning live cuts) (rangeCuts (map want_range wants))
      (test_ascends (turning live cuts) (turning_ascends live cuts (cuts_ascend rules n (length rules))))
      (test_ascends (rangeCuts (map want_range wants)) (ranges.cuts_ascend (map want_range wants))) turning_wanted wanted_turning

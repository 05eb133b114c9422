-- Which case a term follows (document 02, request 4): of those that contain it the narrowest. Among the pairs of runs it is the
-- pair of the runs of a span's two ends.
use Prim.Native.Nat.{ℕ, ◌≤◌, ◌<◌}
use mathlib.Core.Path.{◌≡◌, refl, ap, sym}
use mathlib.Core.Bool.{Bool}
use mathlib.Core.Logic.{◌⊎◌, inl, inr}
use mathlib.Core.List.{List}
use mathlib.Core.Option.{Option, some, none}
use native.Mathlib.Omega.{arith}
use lib.Dec.{T}
use Rattle.basics.specs.Lists.{Mem, All}
use Rattle.basics.specs.Order.{pair_before}
use Rattle.basics.proofs.ListLaws.{all_map}
use Rattle.basics.proofs.Numbers.{le_or_lt, both_le}
use Rattle.basics.proofs.Sorted.{pair_before_lem, before_pair, pair_irreflexive, pair_transitive, pair_total}
use Rattle.terms.specs.Term.{Term, unknown, never, symbol, numbers, compound}
use Rattle.terms.specs.RuleTests.{Range}
use Rattle.decision.specs.Runs.{covers, framed, from_to, run_pairs}
use Rattle.decision.specs.Cases.{Case, symbols_case, compound_case, numbers_case, numbers_in, takes}
use Rattle.decision.specs.Narrowest.{narrower, best}
use Rattle.decision.specs.Node.{CaseEdge, leads_or, follow}
use Rattle.decision.proofs.cases.Best.{TakenOrder, Best, IsBest, IfSome, best_law, best_holds}
use Rattle.decision.proofs.cases.Intervals.{Contains}
use Rattle.decision.proofs.cases.RangeOrder.{begins_below, ends_above}
use Rattle.decision.proofs.cases.FramedRuns.{framed_filled, framed_ascends}
use Rattle.decision.proofs.cases.RunPairs.{pair_runs, runs_pair, span_turn}

-- Of the ranges a..b and x..y not each is narrower than the other; and where a..b is the narrower one, a third range v..w is either
-- less narrow than a..b or narrower than x..y.
pub narrower_apart : (a b x y : ℕ) → T (pair_before x b a y) → T (pair_before a y x b) → ⊥
narrower_apart a b x y h k = pair_irreflexive x b (pair_transitive x b a y x b h k)

pub narrower_across
    : (a b v w x y : ℕ) → T (pair_before x b a y) → T (pair_before v b a w) ⊎ T (pair_before x w v y)
narrower_across a b v w x y h = go (pair_before_lem x b a y h)
  where
    go : (x < a) ⊎ ((x ≡ a) × (b < y)) → T (pair_before v b a w) ⊎ T (pair_before x w v y)
    go k =
        elim (le_or_lt a v) [
          | inr d ↦ inl (before_pair v b a w (inl d))
          | inl d ↦ elim (le_or_lt v a) [
            | inr e ↦
                (let low : x < v = elim k [ inl p ↦ omega arith | inr p ↦ omega (arith, p.0) ] in
                inr (before_pair x w v y (inl low)))
            | inl e ↦ elim (le_or_lt w b) [
              | inr f ↦ inl (before_pair v b a w (inr (omega arith, f)))
              | inl f ↦ inr (before_pair x w v y (elim k [
                | inl p ↦ inl (omega arith)
                | inr p ↦ inr (omega (arith, p.0), omega (arith, p.1))
              ]))
            ]
          ]
        ]

-- So cases are ordered, of two that take a term.
case_apart : (c d : Case) → T (narrower c d) → T (narrower d c) → ⊥
case_apart (symbols_case a b) (symbols_case x y) h k = narrower_apart a b x y h k
case_apart (symbols_case a b) (compound_case x n) h k = absurd h
case_apart (symbols_case a b) (numbers_case x y) h k = absurd h
case_apart (compound_case a n) d h k = absurd h
case_apart (numbers_case a b) (symbols_case x y) h k = absurd h
case_apart (numbers_case a b) (compound_case x n) h k = absurd h
case_apart (numbers_case a b) (numbers_case x y) h k = narrower_apart a b x y h k

-- What a case of one kind takes no case of another takes.
no_symbols : (t : Term) (a b x y : ℕ) → T (takes (numbers_case a b) t) → T (takes (symbols_case x y) t) → ⊥
no_symbols unknown a b x y h k = absurd h
no_symbols never a b x y h k = absurd h
no_symbols (symbol z) a b x y h k = absurd h
no_symbols (numbers z u) a b x y h k = absurd k
no_symbols (compound z ts) a b x y h k = absurd h

no_compound : (t : Term) (a b x n : ℕ) → T (takes (numbers_case a b) t) → T (takes (compound_case x n) t) → ⊥
no_compound unknown a b x n h k = absurd h
no_compound never a b x n h k = absurd h
no_compound (symbol y) a b x n h k = absurd h
no_compound (numbers y z) a b x n h k = absurd k
no_compound (compound y ts) a b x n h k = absurd h

no_id : (t : Term) (a b x n : ℕ) → T (takes (symbols_case a b) t) → T (takes (compound_case x n) t) → ⊥
no_id unknown a b x n h k = absurd h
no_id never a b x n h k = absurd h
no_id (symbol y) a b x n h k = absurd k
no_id (numbers y z) a b x n h k = absurd h
no_id (compound y ts) a b x n h k = absurd h

case_across
    : (t : Term) (c d e : Case) → T (takes c t) → T (takes d t) → T (narrower c e) → T (narrower c d) ⊎ T (narrower d e)
case_across t (symbols_case a b) d (compound_case x n) p q h = absurd h
case_across t (symbols_case a b) d (numbers_case x y) p q h = absurd h
case_across t (symbols_case a b) (symbols_case v w) (symbols_case x y) p q h = narrower_across a b v w x y h
case_across t (symbols_case a b) (compound_case v n) (symbols_case x y) p q h = absurd (no_id t a b v n p q)
case_across t (symbols_case a b) (numbers_case v w) (symbols_case x y) p q h = absurd (no_symbols t v w a b q p)
case_across t (compound_case a n) d e p q h = absurd h
case_across t (numbers_case a b) d (symbols_case x y) p q h = absurd h
case_across t (numbers_case a b) d (compound_case x n) p q h = absurd h
case_across t (numbers_case a b) (symbols_case v w) (numbers_case x y) p q h = absurd (no_symbols t a b v w p q)
case_across t (numbers_case a b) (compound_case v n) (numbers_case x y) p q h = absurd (no_compound t a b v n p q)
case_across t (numbers_case a b) (numbers_case v w) (numbers_case x y) p q h = narrower_across a b v w x y h

-- An edge's case is narrower than that of another,
abbrev pub narrower_edge : {A : Type 0} → CaseEdge A → CaseEdge A → Bool
narrower_edge c d = narrower c.case d.case

module _ {A : Type 0} (t : Term) where
  -- and takes the term.
  abbrev pub takes_edge : CaseEdge A → Bool
  takes_edge c = takes c.case t

  edge_order : TakenOrder takes_edge narrower_edge
  edge_order = record {
    asymmetric = λ c d h k. case_apart c.case d.case h k;
    across = λ c d e p q r h. case_across t c.case d.case e.case p q h;
  }

  -- A term follows the narrowest of the cases that take it, or neither, where no case does.
  abbrev pub FollowsTo : List (CaseEdge A) → A → A → Type 0
  FollowsTo cs neither x =
      ((c : CaseEdge A) × Best takes_edge narrower_edge cs c × (x ≡ c.target))
      ⊎ (((c : CaseEdge A) → Mem c cs → T (takes c.case t) → ⊥) × (x ≡ neither))

  pub follow_narrowest : (cs : List (CaseEdge A)) (neither : A) → FollowsTo cs neither (follow cs neither t)
  follow_narrowest cs neither = go (best takes_edge narrower_edge cs) (best_law takes_edge narrower_edge edge_order cs)
    where
      go : (o : Option (CaseEdge A)) → IsBest takes_edge narrower_edge cs o → FollowsTo cs neither (leads_or neither o)
      go none none-takes = inr (none-takes, refl)
      go (some c) h = inl (c, h, refl)

-- "At a switch 35 takes the neither edge", since no case takes it.
pub never_neither : {A : Type 0} (cs : List (CaseEdge A)) (neither : A) → follow cs neither never ≡ neither
never_neither cs neither =
    elim (follow_narrowest never cs neither) [
      | inl r ↦ absurd r.1.is_taken
      | inr r ↦ r.1
    ]

-- What holds of each target and of neither holds where the best of the cases, or neither, leads.
pub leads_holds
    : {A : Type 0} (Q : A → Type 0) (taken : CaseEdge A → Bool) (before : CaseEdge A → CaseEdge A → Bool) (cs : List (CaseEdge A))
    (neither : A) → All (λ (c : CaseEdge A). Q c.target) cs → Q neither → Q (leads_or neither (best taken before cs))
leads_holds {A} Q taken before cs neither h k =
    go (best taken before cs)
    (best_holds taken before (λ (c : CaseEdge A). Q c.target) cs
    (all_map (λ (c : CaseEdge A). Q c.target) (λ (c : CaseEdge A). T (taken c) → Q c.target) (λ c q t. q) cs h))
  where
    go : (o : Option (CaseEdge A)) → IfSome (λ (c : CaseEdge A). Q c.target) o → Q (leads_or neither o)
    go none m = k
    go (some c) m = m

-- Of ranges the narrower: that whose case is.
abbrev pub narrower_range : Range → Range → Bool
narrower_range x y = narrower (numbers_in x) (numbers_in y)

-- The narrowest of the ranges that contain the numbers from a to b.
abbrev pub narrowest : ℕ → ℕ → List Range → Option Range
narrowest a b xs = best (λ (x : Range). covers x (record { low = a; high = b })) narrower_range xs

range_order : (taken : Range → Bool) → TakenOrder taken narrower_range
range_order taken = record {
  asymmetric = λ x y h k. narrower_apart x.low x.high y.low y.high h k;
  across = λ x y z p q r h. narrower_across x.low x.high y.low y.high z.low z.high h;
}

-- There is one narrowest range.
pub narrowest_is
    : (taken : Range → Bool) (xs : List Range) (x : Range) → Best taken narrower_range xs x → best taken narrower_range xs ≡ some x
narrowest_is taken xs x h = go (best taken narrower_range xs) (best_law taken narrower_range (range_order taken) xs)
  where
    go : (o : Option Range) → IsBest taken narrower_range xs o → o ≡ some x
    go none none-taken = absurd (none-taken x h.listed h.is_taken)
    go (some y) k =
        let e =
        pair_total y.low x.high x.low y.high (λ b. k.first x h.listed h.is_taken b)
        (λ b. h.first y k.listed k.is_taken b) in
        let high = sym e.1 in
        λ i. some (record { low = e.0 i; high = high i })

-- The range x is the narrowest of those that contain the numbers from a to b.
abbrev pub IsNarrowest : ℕ → ℕ → List Range → Range → Type 0
IsNarrowest a b xs x = Best (λ (y : Range). covers y (record { low = a; high = b })) narrower_range xs x

module _ (base top : ℕ) (ws : List Range) where
  abbrev all : List Range
  all = framed base top ws

  -- Of the pairs of runs, that of a's run and b's is the narrowest which contains the numbers from a to b.
  pub narrowest_pair
      : (r s : Range) (a b : ℕ) → Mem r all → Mem s all → Contains r a → Contains s b → a ≤ b
      → IsNarrowest a b (run_pairs all) (from_to r s)
  narrowest_pair r s a b m n ha hb o =
      let filled = framed_filled base top ws in
      let ascend = framed_ascends base top ws in
      record {
        listed = runs_pair all filled ascend r s m n (span_turn base top ws r s a b m n ha hb o);
        is_taken = (both_le r.low a b s.high).1 (ha.0, hb.1);
        first = λ y k t narrow.
            let p = pair_runs all ascend y k in
            let c = (both_le y.low a b y.high).0 t in
            let low : y.low ≡ p.0.low = ap (λ (x : Range). x.low) p.5 in
            let high : y.high ≡ p.1.high = ap (λ (x : Range). x.high) p.5 in
            let begins = begins_below all filled ascend r p.0 a m p.2 ha (omega (arith, c.0)) in
            let ends = ends_above all filled ascend s p.1 b n p.3 hb (omega (arith, c.1)) in
            elim (pair_before_lem r.low y.high y.low s.high narrow)
            [ inl d ↦ omega arith | inr d ↦ omega (arith, d.1) ];
      }

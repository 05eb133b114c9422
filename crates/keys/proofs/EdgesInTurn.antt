-- The keys behind a node's edges in turn: a switch's are those behind its cases, then neither, then unknown.
use Prim.Native.Nat.{ℕ, ◌+◌, ◌/◌, ◌%◌, ◌≤◌, ◌<◌}
use mathlib.Core.Path.{◌≡◌, refl, sym, ap, subst, ◌∙◌}
use mathlib.Core.List.{List, [], ◌∷◌, ◌++◌, map, append-nil}
use native.Mathlib.Omega.{arith}
use lib.ListN.{length, length-append}
use borrow.Author.Tests.{le-ltb}
use Rattle.basics.proofs.Filters.{map_join}
use Rattle.decision.specs.Key.{Key}
use Rattle.decision.specs.Node.{Node, CaseEdge, switch, pair_node, map_case}
use Rattle.decision.specs.Graph.{most_nodes}
use Rattle.decision.specs.GraphBytes.{case_bytes, cases_bytes}
use Rattle.edges.specs.declared.Asked.{Asked}
use Rattle.tables.specs.views.Planes.{place_tests_in, test_in}
use Rattle.edges.specs.views.KeysBehind.{none_behind, other_behind}
use Rattle.edges.specs.views.NodeIn.{ask_in}
use Rattle.met.specs.views.KeysMet.{meet, meet_all, keys_in}
use Rattle.met.proofs.Meeting.{meet_longer, meet_join, meet_again}
use Rattle.std.specs.Prelude.{Option, Some, None}
use Rattle.keys.specs.views.Expanded.{cases_length, AtMost, Met, CasesMet, EdgesMet}

-- The bytes measured are at most what they may be.
pub bytes_most : {most n : ℕ} {r : Option ℕ} → r ≡ Some n → AtMost most r → n ≤ most
bytes_most {most} e a = subst (AtMost most) e a

pub most_more : {most more : ℕ} (r : Option ℕ) → most ≤ more → AtMost most r → AtMost more r
most_more (Some n) h a = omega arith
most_more None h a = tt

-- Where one key is too many, those after it change nothing,
pub one_many : (keys : List Key) (key : Key) (more : List Key) → most_nodes < length (meet keys key)
    → most_nodes < length (meet_all keys (key ∷ more))
one_many keys key more h = omega (arith, meet_longer (meet keys key) more)

-- and where it is not, they are met after it.
pub second_many : (keys : List Key) (t : List ℕ) (first second : Key) → keys_in t ≡ meet keys first
    → most_nodes < length (meet (keys_in t) second) → most_nodes < length (meet_all keys (first ∷ second ∷ []))
second_many keys t first second e h = subst (λ (l : List Key). most_nodes < length (meet l second)) e h

pub second_met : (keys : List Key) (t u : List ℕ) (first second : Key) → keys_in t ≡ meet keys first
    → keys_in u ≡ meet (keys_in t) second → keys_in u ≡ meet_all keys (first ∷ second ∷ [])
second_met keys t u first second e d = d ∙ ap (λ (l : List Key). meet l second) e

abbrev targets : List (CaseEdge Key) → List Key
targets cs = map (λ (c : CaseEdge Key). c.target) cs

-- These cases are still to come, where the keys met at the start are given.
pub record CasesLeft (all rest : List (CaseEdge Key)) (keys : List Key) (t : List ℕ) (bytes : ℕ) : Type 0 where
  pub left : meet_all (keys_in t) (targets rest) ≡ meet_all keys (targets all)
  pub lengths : bytes + cases_length rest ≡ cases_length all

-- At first all are.
pub cases_start : {all rest : List (CaseEdge Key)} → all ≡ rest → (t : List ℕ) → CasesLeft all rest (keys_in t) t 0
cases_start e t = record {
  left = ap (λ (l : List (CaseEdge Key)). meet_all (keys_in t) (targets l)) (sym e);
  lengths = omega (arith, ap cases_length e);
}

-- The key behind the first may be met before all of them, since meeting it again changes nothing.
pub met_begun
    : {all more : List (CaseEdge Key)} (edge : CaseEdge Key) → all ≡ edge ∷ more → (t u : List ℕ)
    → keys_in u ≡ meet (keys_in t) edge.target → (r : Option ℕ) (w : List ℕ) → CasesMet all (keys_in u) r w
    → CasesMet all (keys_in t) r w
met_begun {all} {more} edge is t u met r w m = go r m
  where
    same : meet_all (keys_in u) (targets all) ≡ meet_all (keys_in t) (targets all)
    same =
        ap (λ (l : List (CaseEdge Key)). meet_all (keys_in u) (targets l)) is
        ∙ ap (λ (l : List Key). meet_all l (targets more))
        (ap (λ (l : List Key). meet l edge.target) met ∙ meet_again (keys_in t) edge.target)
        ∙ ap (λ (l : List (CaseEdge Key)). meet_all (keys_in t) (targets l)) (sym is)

    go : (r : Option ℕ) → CasesMet all (keys_in u) r w → CasesMet all (keys_in t) r w
    go (Some n) l = (l.0 ∙ same, l.1)
    go None l = omega (arith, l, ap length same)

module _ {all : List (CaseEdge Key)} {keys : List Key} {t : List ℕ} {bytes : ℕ} where
  -- Where none is left, all keys are met.
  pub cases_end : {rest : List (CaseEdge Key)} → rest ≡ [] → CasesLeft all rest keys t bytes → CasesMet all keys (Some bytes) t
  cases_end e state =
      let done : CasesLeft all [] keys t bytes = subst (λ (l : List (CaseEdge Key)). CasesLeft all l keys t bytes) e state in
      (done.left, omega (arith, done.lengths))

  module _ {before rest : List (CaseEdge Key)} (edge : CaseEdge Key) (is : before ≡ edge ∷ rest)
      (state : CasesLeft all before keys t bytes) where
    now_left : CasesLeft all (edge ∷ rest) keys t bytes
    now_left = subst (λ (l : List (CaseEdge Key)). CasesLeft all l keys t bytes) is state

    -- The key behind the next is met,
    pub cases_next
        : {u : List ℕ} {size : ℕ} → keys_in u ≡ meet (keys_in t) edge.target → size ≡ length (case_bytes edge.case 0)
        → CasesLeft all rest keys u (bytes + size)
    cases_next met size = record {
      left = ap (λ (l : List Key). meet_all l (targets rest)) met ∙ now_left.left;
      lengths = omega (
        arith,
        now_left.lengths,
        size,
        length-append (case_bytes edge.case 0) (cases_bytes (map (map_case (λ (k : Key). 0)) rest)),
      );
    }

    -- or is one too many.
    pub cases_many : most_nodes < length (meet (keys_in t) edge.target) → most_nodes < length (meet_all keys (targets all))
    cases_many h = omega (arith, one_many (keys_in t) edge.target (targets rest) h, ap length now_left.left)

-- The same of some cases at once.
cases_length_lem : (part rest : List (CaseEdge Key)) → cases_length (part ++ rest) ≡ cases_length part + cases_length rest
cases_length_lem [] rest = omega arith
cases_length_lem (edge ∷ part) rest =
    omega (
      arith,
      cases_length_lem part rest,
      length-append (case_bytes edge.case 0) (cases_bytes (map (map_case (λ (k : Key). 0)) (part ++ rest))),
      length-append (case_bytes edge.case 0) (cases_bytes (map (map_case (λ (k : Key). 0)) part)),
    )

module _ {all before : List (CaseEdge Key)} {keys : List Key} {t : List ℕ} {bytes : ℕ} (part rest : List (CaseEdge Key))
    (is : before ≡ part ++ rest) (state : CasesLeft all before keys t bytes) where
  parted : meet_all (meet_all (keys_in t) (targets part)) (targets rest) ≡ meet_all keys (targets all)
  parted =
      sym (meet_join (keys_in t) (targets part) (targets rest))
      ∙ ap (meet_all (keys_in t)) (sym (map_join (λ (c : CaseEdge Key). c.target) part rest))
      ∙ ap (λ (l : List (CaseEdge Key)). meet_all (keys_in t) (targets l)) (sym is)
      ∙ state.left

  pub part_met
      : (r : Option ℕ) {more : ℕ} (u : List ℕ) → r ≡ Some more → CasesMet part (keys_in t) r u
      → CasesLeft all rest keys u (bytes + more)
  part_met r {more} u e met =
      let done : CasesMet part (keys_in t) (Some more) u = subst (λ (x : Option ℕ). CasesMet part (keys_in t) x u) e met in
      record {
        left = ap (λ (l : List Key). meet_all l (targets rest)) done.0 ∙ parted;
        lengths = omega (arith, state.lengths, done.1, ap cases_length is, cases_length_lem part rest);
      }

  pub part_many
      : (r : Option ℕ) (u : List ℕ) → r ≡ None → CasesMet part (keys_in t) r u → CasesMet all keys None u
  part_many r u e met =
      let many : CasesMet part (keys_in t) None u = subst (λ (x : Option ℕ). CasesMet part (keys_in t) x u) e met in
      omega (arith, many, meet_longer (meet_all (keys_in t) (targets part)) (targets rest), ap length parted)

-- Two parts, one after the other, are all.
module _ {all : List (CaseEdge Key)} (first second : List (CaseEdge Key)) (is : all ≡ first ++ second) (t : List ℕ)
    (r : Option ℕ) (u : List ℕ) (met : CasesMet first (keys_in t) r u) where
  pub first_many : r ≡ None → CasesMet all (keys_in t) None u
  first_many e = part_many first second is (cases_start refl t) r u e met

  module _ {bytes : ℕ} (e : r ≡ Some bytes) (q : Option ℕ) (w : List ℕ) (last : CasesMet second (keys_in u) q w) where
    behind : CasesLeft all second (keys_in t) u (0 + bytes)
    behind = part_met first second is (cases_start refl t) r u e met

    pub then_many : q ≡ None → CasesMet all (keys_in t) None w
    then_many d = part_many second [] (sym (append-nil second)) behind q w d last

    pub both_met : {more : ℕ} → q ≡ Some more → CasesMet all (keys_in t) (Some (bytes + more)) w
    both_met {more} d =
        let done = cases_end refl (part_met second [] (sym (append-nil second)) behind q w d last) in
        (done.0, omega (arith, done.1))

-- A pair's edges are taken as no, other, and its record is 9 bytes.
pub pair_met
    : (s c : List ℕ) (asked : Asked) → place_tests_in s ≤ asked.test → {differ other : Key} → differ ≡ none_behind s asked
    → other ≡ other_behind s asked → (keys : List Key) (r : Option ℕ) (t : List ℕ)
    → Met keys (differ ∷ other ∷ []) 9 r t → EdgesMet (ask_in s c asked) keys r t
pair_met s c asked h e d keys r t met =
    let pair : Node Key = pair_node (test_in s asked.test / 0x1_0000 % 0x1_0000) (test_in s asked.test % 0x1_0000)
    (none_behind s asked) (other_behind s asked) in
    let is : ask_in s c asked ≡ pair = simp (le-ltb asked.test (place_tests_in s) h) in
    subst (λ (node : Node Key). EdgesMet node keys r t) (sym is)
    (subst (λ (l : List Key). Met keys l 9 r t) (λ i. e i ∷ d i ∷ []) met)

module _ (place : ℕ) (cs : List (CaseEdge Key)) (keys : List Key) (neither unknown : Key) where
  abbrev node : Node Key
  node = switch place cs neither unknown

  -- Where too many keys are behind a switch's cases, they are too many,
  pub switch_many : (r : Option ℕ) (t : List ℕ) → r ≡ None → CasesMet cs keys r t → EdgesMet node keys None t
  switch_many r t e met =
      let many : CasesMet cs keys None t = subst (λ (x : Option ℕ). CasesMet cs keys x t) e met in
      omega (
        arith,
        many,
        meet_longer (meet_all keys (targets cs)) (neither ∷ unknown ∷ []),
        ap length (meet_join keys (targets cs) (neither ∷ unknown ∷ [])),
      )

  -- and else the keys behind neither and unknown are met after them, and the record is 9 bytes and the cases.
  pub switch_met
      : (r : Option ℕ) {bytes : ℕ} (t : List ℕ) → r ≡ Some bytes → CasesMet cs keys r t → (q : Option ℕ) (u : List ℕ)
      → {x y : Key} → x ≡ neither → y ≡ unknown → Met (keys_in t) (x ∷ y ∷ []) (bytes + 9) q u → EdgesMet node keys q u
  switch_met r {bytes} t e met q u d f last =
      let first : CasesMet cs keys (Some bytes) t = subst (λ (x : Option ℕ). CasesMet cs keys x t) e met in
      go q (subst (λ (l : List Key). Met (keys_in t) l (bytes + 9) q u) (λ i. d i ∷ f i ∷ []) last) first
    where
      go
          : (q : Option ℕ) → Met (keys_in t) (neither ∷ unknown ∷ []) (bytes + 9) q u → CasesMet cs keys (Some bytes) t
          → EdgesMet node keys q u
      go (Some n) l f = (
        l.0
            ∙ ap (λ (k : List Key). meet_all k (neither ∷ unknown ∷ [])) f.0
            ∙ sym (meet_join keys (targets cs) (neither ∷ unknown ∷ [])),
        omega (arith, l.1, f.1),
      )
      go None l f =
          omega (
            arith,
            l,
            ap (λ (k : List Key). length (meet_all k (neither ∷ unknown ∷ []))) f.0,
            ap length (meet_join keys (targets cs) (neither ∷ unknown ∷ [])),
          )

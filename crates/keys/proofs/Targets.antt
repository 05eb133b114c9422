-- Nodes with other targets: what their edges lead to, and how long their records are, which does not turn on where edges lead.
use Prim.Native.Nat.{ℕ}
use mathlib.Core.Path.{◌≡◌, refl}
use mathlib.Core.List.{List, [], ◌∷◌, map}
use native.Mathlib.Omega.{arith}
use lib.ListN.{length, length-append}
use Rattle.basics.specs.Lists.{All}
use Rattle.basics.proofs.ListLaws.{all_split}
use Rattle.decision.specs.Key.{Key}
use Rattle.decision.specs.Cases.{Case, symbols_case, compound_case, numbers_case}
use Rattle.decision.specs.Node.{Node, CaseEdge, end, switch, pair_node, edges, map_case, map_node}
use Rattle.decision.specs.GraphBytes.{case_bytes, cases_bytes, node_bytes}
use Rattle.keys.specs.views.Expanded.{node_length}

-- Cases that lead to the same things are the same,
cases_same
    : {A B C : Type 0} (f : A → C) (g : B → C) (h : A → B) (cs : List (CaseEdge A))
    → All (λ (x : A). f x ≡ g (h x)) (map (λ (c : CaseEdge A). c.target) cs)
    → map (map_case f) cs ≡ map (map_case g) (map (map_case h) cs)
cases_same f g h [] e = refl
cases_same f g h (c ∷ cs) e =
    let rest = cases_same f g h cs e.1 in
    λ i. record { case = c.case; target = e.0 i } ∷ rest i

-- and so are nodes.
pub nodes_same
    : {A B C : Type 0} (f : A → C) (g : B → C) (h : A → B) (node : Node A) → All (λ (x : A). f x ≡ g (h x)) (edges node)
    → map_node f node ≡ map_node g (map_node h node)
nodes_same f g h (end l) e = refl
nodes_same {A} f g h (switch n cs x y) e =
    let s = all_split (λ (z : A). f z ≡ g (h z)) (map (λ (c : CaseEdge A). c.target) cs) (x ∷ y ∷ []) e in
    let rest = cases_same f g h cs s.0 in
    λ i. switch n (rest i) (s.1.0 i) (s.1.1.0 i)
nodes_same f g h (pair_node p q x y) e = λ i. pair_node p q (e.0 i) (e.1.0 i)

-- The record of a case is as long wherever it leads,
case_anywhere : (c : Case) (m n : ℕ) → length (case_bytes c m) ≡ length (case_bytes c n)
case_anywhere (symbols_case l h) m n = refl
case_anywhere (compound_case a k) m n = refl
case_anywhere (numbers_case l h) m n = refl

-- so are the records of cases,
cases_anywhere
    : {A : Type 0} (f g : A → ℕ) (cs : List (CaseEdge A))
    → length (cases_bytes (map (map_case f) cs)) ≡ length (cases_bytes (map (map_case g) cs))
cases_anywhere f g [] = refl
cases_anywhere f g (c ∷ cs) =
    omega (
      arith,
      length-append (case_bytes c.case (f c.target)) (cases_bytes (map (map_case f) cs)),
      length-append (case_bytes c.case (g c.target)) (cases_bytes (map (map_case g) cs)),
      case_anywhere c.case (f c.target) (g c.target),
      cases_anywhere f g cs,
    )

-- and so is the record of a node.
pub length_anywhere : (f : Key → ℕ) (node : Node Key) → length (node_bytes (map_node f node)) ≡ node_length node
length_anywhere f (end l) = refl
length_anywhere f (switch n cs x y) = omega (arith, cases_anywhere f (λ (k : Key). 0) cs)
length_anywhere f (pair_node p q x y) = refl

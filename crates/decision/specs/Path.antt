-- The path of a piece over the nodes of a graph (document 01, "The walk", and document 02, request 6): "The walk follows edges from
-- node 0."
use Rattle.std.specs.Prelude.{ℕ, zero, suc, List, [], ◌∷◌, get_or}
use Rattle.records.specs.Reading.{Reading, took, refused, map_reading}
use Rattle.terms.specs.Term.{Terms, unknown, never, symbol, numbers, compound}
use Rattle.terms.specs.Lookup.{Found, lacking, found, term_at}
use Rattle.terms.specs.Outcome.{Outcome, holds, not_known, contradicted, compare}
use Rattle.decision.specs.Key.{Leaf, fail_node}
use Rattle.decision.specs.Node.{Node, CaseEdge, end, switch, pair_node, follow}

-- What happens at a node: the walk ends at a leaf, goes on to a node, or "27 Is each place it tests in the piece, or below an
-- unknown?" gets a no. A place below record 35 "is treated as it is, by question 27 too".
pub data Step (A : Type 0) : Type 0 where
  stop : Leaf → Step A
  go_to : A → Step A
  no_way : Step A

-- "At a switch 35 takes the neither edge", as no case takes it.
abbrev pub switch_step : {A : Type 0} → List (CaseEdge A) → A → A → Found → Step A
switch_step cs neither unknownEdge lacking = no_way
switch_step cs neither unknownEdge (found unknown) = go_to unknownEdge
switch_step cs neither unknownEdge (found never) = go_to (follow cs neither never)
switch_step cs neither unknownEdge (found (symbol a)) = go_to (follow cs neither (symbol a))
switch_step cs neither unknownEdge (found (numbers a b)) = go_to (follow cs neither (numbers a b))
switch_step cs neither unknownEdge (found (compound a ts)) = go_to (follow cs neither (compound a ts))

-- By no where they differ, by other where they are equal or it is not known.
abbrev pub by_comparison : {A : Type 0} → A → A → Outcome → Step A
by_comparison differ other holds = go_to other
by_comparison differ other not_known = go_to other
by_comparison differ other contradicted = go_to differ

abbrev pub pair_step : {A : Type 0} → A → A → Found → Found → Step A
pair_step differ other lacking v = no_way
pair_step differ other (found t) lacking = no_way
pair_step differ other (found t) (found u) = by_comparison differ other (compare t u)

abbrev pub step_at : {A : Type 0} → Terms → Node A → Step A
step_at piece (end l) = stop l
step_at piece (switch n cs x y) = switch_step cs x y (term_at piece n)
step_at piece (pair_node p q x y) = pair_step x y (term_at piece p) (term_at piece q)

-- The nodes walked, from the first to the last, and the leaf that the last is.
pub record Way : Type 0 where
  pub walked : List ℕ
  pub last : Leaf

-- A way to a leaf, or the number of the question that got a no: a reading that takes no bytes.
abbrev pub Path : Type 0
Path = Reading Way

abbrev pub ends : List ℕ → Leaf → Path
ends walked l = took 0 (record { walked = walked; last = l })

abbrev pub through : ℕ → Path → Path
through n p = map_reading (λ (w : Way). record { walked = n ∷ w.walked; last = w.last }) p

-- "26 Have fewer than 64 edges been walked?" is asked first at a switch or pair, never at a leaf.
abbrev pub last_step : ℕ → Step ℕ → Path
last_step n (stop l) = ends (n ∷ []) l
last_step n (go_to m) = refused 26
last_step n no_way = refused 26

abbrev pub next_step : (ℕ → Path) → ℕ → Step ℕ → Path
next_step on n (stop l) = ends (n ∷ []) l
next_step on n (go_to m) = through n (on m)
next_step on n no_way = refused 27

-- The path that these steps take from node n on, where so many edges may still be walked.
abbrev pub path_by : (ℕ → Step ℕ) → ℕ → ℕ → Path
path_by step zero n = last_step n (step n)
path_by step (suc more) n = next_step (path_by step more) n (step n)

abbrev pub node_at : List (Node ℕ) → ℕ → Node ℕ
node_at nodes n = get_or nodes n (end fail_node)

abbrev pub most_edges : ℕ
most_edges = 64

module _ (nodes : List (Node ℕ)) (piece : Terms) where
  abbrev pub path_from : ℕ → ℕ → Path
  path_from = path_by (λ n. step_at piece (node_at nodes n))

  abbrev pub path : Path
  path = path_from most_edges 0

-- One pass over the nodes of a graph: where those that were passed begin, and the nodes still to be read, give where all begin.
use Prim.Native.Nat.{ℕ, suc, ◌+◌, ◌-◌, ◌*◌, ◌<◌, ◌≤◌}
use mathlib.Core.Path.{◌≡◌, refl, sym, ap, ◌∙◌}
use mathlib.Core.Bool.{Bool}
use mathlib.Core.List.{List, [], ◌∷◌, ◌++◌, append-nil, append_assoc}
use native.Mathlib.Omega.{arith}
use native.Mathlib.Nat.{add_assoc}
use native.Mathlib.Numerals.{add-one}
use lib.ListN.{length, take, drop, set, length-drop}
use lib.Seq.{drop-drop, take-suc-set}
use Rattle.records.specs.Fields.{IsByte}
use Rattle.records.specs.Kinds.{record_length}
use Rattle.records.specs.Reading.{Reading, took, refused, after, read_row}
use Rattle.records.proofs.Rows.{row_none, row_refused, row_next}
use Rattle.basics.specs.Lists.{All}
use Rattle.sheet_tests.specs.SheetTests.{Test}
use Rattle.decision.specs.Node.{Node, CaseEdge, end, switch, pair_node}
use Rattle.decision.specs.Key.{fail_node, suspend_node, execute_node}
use Rattle.decision.specs.GraphBytes.{case_bytes, cases_bytes, node_bytes}
use Rattle.decision.specs.views.GraphSize.{most_node_bytes}
use Rattle.decision.specs.Cases.{Case, symbols_case, compound_case, numbers_case}
use Rattle.graph.specs.ReadGraph.{read_node, read_nodes}
use Rattle.node_check.specs.views.CheckNode.{bytes_read, starts_from}
use Rattle.graph.proofs.Spelling.{Begins, begins_read, begins_length}
use Rattle.graph.proofs.SpelledNodes.{NodeFields, node_spelled}
use Rattle.node_check.proofs.NodeHeads.{node_read}
use Rattle.records.proofs.ByteLists.{bytes_drop}

-- What was read where the check used so many bytes, and that it was refused where the check was.
pub checked_took : {A : Type 0} (r : Reading A) {a : ℕ} → took a tt ≡ bytes_read r → (x : A) × (r ≡ took a x)
checked_took (took b x) {a} e = let same : b ≡ a = cc in (x, ap (λ (k : ℕ). took k x) same)
checked_took (refused q) e = let z : ◌≡◌ {A = ℕ} 0 1 = cc in absurd (omega arith)

pub checked_refused : {A : Type 0} (r : Reading A) {q : ℕ} → refused q ≡ bytes_read r → r ≡ refused q
checked_refused (took b x) e = let z : ◌≡◌ {A = ℕ} 0 1 = cc in absurd (omega arith)
checked_refused (refused q) e = cc

-- A case has at most as many bytes as one of symbols or numbers.
pub cases_size : (cs : List (CaseEdge ℕ)) → length (cases_bytes cs) ≤ record_length 0x46 * length cs
cases_size [] = omega arith
cases_size (c ∷ cs) = one c.case c.target (cases_size cs)
  where
    one
        : (x : Case) (n : ℕ) → length (cases_bytes cs) ≤ record_length 0x46 * length cs
        → length (case_bytes x n ++ cases_bytes cs) ≤ record_length 0x46 * suc (length cs)
    one (symbols_case l u) n h = omega arith
    one (compound_case a k) n h = omega arith
    one (numbers_case l u) n h = omega arith

-- A node has at most as many as a switch with the most cases.
pub node_size : (node : Node ℕ) → NodeFields node → length (node_bytes node) ≤ most_node_bytes
node_size (end fail_node) h = omega arith
node_size (end suspend_node) h = omega arith
node_size (end (execute_node i)) h = omega arith
node_size (switch n cs x y) h = omega (arith, cases_size cs, h.4)
node_size (pair_node p q x y) h = omega arith

module _ (test : Test → Bool) (rules nodes : ℕ) (s : List ℕ) where
  abbrev one : List ℕ → Reading (Node ℕ)
  one = read_node test rules nodes

  -- What all nodes give where those before a position begin at the starts in done.
  abbrev pub resume_at : ℕ → List ℕ → Reading (List (Node ℕ)) → Reading (List ℕ)
  resume_at at done (took b ns) = took (at + b) (done ++ starts_from at ns)
  resume_at at done (refused q) = refused q

  -- What is still to be read of the nodes from number i on.
  abbrev pub nodes_left : ℕ → ℕ → Reading (List (Node ℕ))
  nodes_left i at = read_row [] ◌∷◌ one (nodes - i) (drop at s)

  -- Before the first node.
  pub nodes_start : after 5 (starts_from 5) (read_nodes test rules nodes (drop 5 s)) ≡ resume_at 5 [] (nodes_left 0 5)
  nodes_start =
      let none : nodes ≡ nodes - 0 = omega arith in
      go (read_nodes test rules nodes (drop 5 s)) ∙ ap (λ (n : ℕ). resume_at 5 [] (read_row [] ◌∷◌ one n (drop 5 s))) none
    where
      go : (r : Reading (List (Node ℕ))) → after 5 (starts_from 5) r ≡ resume_at 5 [] r
      go (took b ns) = refl
      go (refused q) = refl

  -- After the last node.
  pub nodes_end : (i at : ℕ) (starts : List ℕ) → nodes ≡ i → resume_at at (take i starts) (nodes_left i at) ≡ took at (take nodes starts)
  nodes_end i at starts e =
      let none : at + 0 ≡ at = omega arith in
      ap (resume_at at (take i starts)) (row_none [] ◌∷◌ one (nodes - i) (drop at s) (omega arith))
      ∙ (λ j. took (none j) (append-nil (take (sym e j) starts) j))

  module _ (h : All IsByte s) (i at : ℕ) (done : List ℕ) (more : i < nodes) where
    some : nodes - i ≡ 0 → ⊥
    some e = omega arith

    -- A node that is refused.
    pub nodes_refused : {q : ℕ} → refused q ≡ bytes_read (one (drop at s)) → resume_at at done (nodes_left i at) ≡ refused q
    nodes_refused e =
        ap (resume_at at done) (row_refused [] ◌∷◌ one (nodes - i) (drop at s) some (checked_refused (one (drop at s)) e))

    module _ {a : ℕ} (e : took a tt ≡ bytes_read (one (drop at s))) where
      abbrev node : Node ℕ
      node = (checked_took (one (drop at s)) e).0

      begins : Begins node_bytes NodeFields (drop at s) a node
      begins =
          begins_read node_bytes NodeFields node_spelled (drop at s) (bytes_drop at s h)
          (node_read test rules nodes (drop at s) (checked_took (one (drop at s)) e).1)

      -- It is inside and has few bytes.
      pub node_inside : at ≤ length s → at + a ≤ length s
      node_inside there = omega (arith, begins_length node_bytes NodeFields begins, length-drop at s)

      pub node_few : a ≤ most_node_bytes
      node_few = omega (arith, begins.size, node_size node begins.good)

      -- A node that is passed.
      pub nodes_next : resume_at at done (nodes_left i at) ≡ resume_at (at + a) (done ++ at ∷ []) (nodes_left (i + 1) (at + a))
      nodes_next =
          let fewer : nodes - i - 1 ≡ nodes - (i + 1) = omega arith in
          ap (resume_at at done) (row_next [] ◌∷◌ one (nodes - i) (drop at s) some (checked_took (one (drop at s)) e).1)
          ∙ passed (read_row [] ◌∷◌ one (nodes - i - 1) (drop a (drop at s)))
          ∙ (λ j. resume_at (at + a) (done ++ at ∷ []) (read_row [] ◌∷◌ one (fewer j) (drop-drop a at s j)))
        where
          passed : (r : Reading (List (Node ℕ))) → resume_at at done (after a (◌∷◌ node) r) ≡ resume_at (at + a) (done ++ at ∷ []) r
          passed (took b ns) =
              let size : at + (a + b) ≡ at + a + b = sym (add_assoc at a b) in
              let next = ap (λ (k : ℕ). done ++ at ∷ starts_from (at + k) ns) begins.size in
              let joined = sym (append_assoc done (at ∷ []) (starts_from (at + a) ns)) in
              λ j. took (size j) ((next ∙ joined) j)
          passed (refused q) = refl

-- One more start is stored.
pub start_stored : (starts : List ℕ) (i at : ℕ) → i < length starts → take i starts ++ at ∷ [] ≡ take (i + 1) (set starts i at)
start_stored starts i at h = sym (ap (λ (k : ℕ). take k (set starts i at)) (add-one i) ∙ take-suc-set starts i at h)

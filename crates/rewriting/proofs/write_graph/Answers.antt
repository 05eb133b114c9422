-- The header, and behind it the nodes.
use Prim.Native.Nat.{ℕ, ◌+◌}
use mathlib.Core.Path.{◌≡◌, refl, sym, ap, subst, ◌∙◌}
use mathlib.Core.List.{List, [], ◌++◌}
use native.Mathlib.Omega.{arith}
use lib.ListN.{length, drop}
use Rattle.decision.specs.GraphBytes.{nodes_bytes}
use Rattle.graph.specs.views.Rewriting.{IsTook, read_or, read_records}
use Rattle.std.specs.Prelude.{Ok}
use Rattle.node_check.proofs.CopiedNodes.{both_written}
use Rattle.graph.specs.views.WriteNode.{header_bytes}
use Rattle.rewriting.proofs.write_graph.Goals as goal

pub put-at-requires : goal.put-at-requires
put-at-requires c = omega (arith, c.requires.0, c.requires.1)

pub copy_nodes-requires : goal.copy_nodes-requires
copy_nodes-requires c =
    let a = c.args in
    let g = c.args.g.now in
    let at : c.put-at.result ≡ 5 = c.put-at.ensures.0 in (
      omega (arith, at, c.requires.0),
      omega (arith, c.requires.1),
      subst (λ (n : ℕ). IsTook (read_records a.nodes (drop n g))) (sym at) c.requires.2,
    )

pub returns : goal.returns
returns c =
    let a = c.args in
    let g = c.args.g.now in
    let at : c.put-at.result ≡ 5 = c.put-at.ensures.0 in
    let first = header_bytes a.arity a.rules a.nodes in
    let nodes : ℕ → List ℕ = λ n. nodes_bytes (read_or [] (read_records a.nodes (drop n g))) in
    let header = simp (c.high.ensures, c.low.ensures) at c.put-at.ensures in
    let both = both_written a.buffer.now 0 first (nodes c.put-at.result) (omega (arith, c.requires.0, c.requires.1)) header.0 header.1 refl c.copy_nodes.ensures.1 (ap (λ (n : ℕ). first ++ nodes n) at) in
    let size : c.put-at.result + length (nodes c.put-at.result) ≡ length (first ++ nodes 5) = omega (arith, both.0) in
    (c.copy_nodes.ensures.0 ∙ ap Ok size, both.1)

-- A built graph needs no check before it is walked over.
use Prim.Native.Nat.{ℕ}
use mathlib.Core.Path.{◌≡◌, refl, sym, ap, ◌∙◌}
use mathlib.Core.List.{List}
use lib.ListN.{length, take}
use Rattle.records.specs.Fields.{AreBytes}
use Rattle.records.specs.Reading.{took}
use Rattle.sheet.specs.Sheet.{Sheet}
use Rattle.graph.specs.ReadGraph.{read_graph}
use Rattle.node_check.specs.views.CheckNode.{starts_from}
use Rattle.order.specs.Asking.{Asking}
use Rattle.walk.specs.views.Ready.{AcceptedKept, Checked}
use Rattle.promises.specs.BuiltGraph.{BuiltGraph}
use Rattle.promises.proofs.Demand2.{graph_read_back}
use Rattle.build.specs.Building.{Building}

-- With tables that list the tests of its sheet and with starts that are where its nodes begin, a built graph is all that the walk
-- of a checked graph asks for.
pub built_checked
    : {asking : Asking} {s buffer g kept starts : List ℕ} {arity count : ℕ} → BuiltGraph asking s buffer g → AreBytes s
    → AcceptedKept s kept arity count
    → (b : Building asking s buffer) → starts_from 5 b.nodes ≡ take (length b.nodes) starts
    → Checked s g starts kept arity count (length b.nodes)
built_checked {g = g} built are_bytes t b begin =
    let read : took t.read.bytes t.read.sheet ≡ took b.taken b.sheet = sym t.read.accepted ∙ b.accepted in
    let same : t.read.sheet ≡ b.sheet = cc in
    let graph = ap (λ (x : Sheet). read_graph x g) same ∙ graph_read_back built are_bytes b in
    record { sheet = t; graph = record { nodes = b.nodes; read = graph; count_is = refl; begin = begin } }

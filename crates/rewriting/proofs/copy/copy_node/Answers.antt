-- `rewriting::copy::copy_node` meets its contract, for each kind of node.
use Rattle.std.specs.Prelude.{Ok}
use Rattle.node_check.proofs.CopiedNodes.{both_written, node_there, leaf_bytes_lem, pair_bytes, cases_there, switch_bytes}
use Rattle.node_check.proofs.NodeHeads.{node_fits}
use Rattle.decision.specs.GraphBytes.{cases_bytes}
use mathlib.Core.List.{[]}
use Rattle.graph.specs.views.Rewriting.{IsTook, read_or}
use Rattle.graph.specs.views.WriteNode.{node_record_bytes}
use Rattle.graph.specs.ReadGraph.{read_cases}
use Rattle.graph.specs.views.NodeRecord.{switch_length, node_head}
use Rattle.graph.specs.declared.NodeRecord.TheVariants.{Switch}
use Rattle.records.proofs.Parts.{rest}
use Rattle.records.specs.Writing.{splice}
use lib.Seq.{drop-drop}
use lib.ListN.{length, drop, length-drop}
use Prim.Native.Nat.{◌+◌}
use native.Mathlib.Omega.{arith}
use mathlib.Core.Path.{◌≡◌, refl, sym, ap, subst, ◌∙◌}
use Rattle.records.proofs.ByteLists.{bytes_all, bytes_drop}
use Rattle.rewriting.proofs.copy.copy_node.Goals as goal

pub returns-in_err-node : goal.returns-in_err-node
returns-in_err-node c =
    let a = c.args in
    let s = drop a.start a.s.now in
    absurd (node_there s c.requires.2 (ap node_head (sym (rest a.s.now a.start)) ∙ sym c.in_err-node.ensures))

pub put_node-at-requires : goal.put_node-at-requires
put_node-at-requires c =
    let a = c.args in
    let s = drop a.start a.s.now in
    let told = ap node_head (sym (rest a.s.now a.start)) ∙ sym c.in_ok-node.ensures in
    omega (arith, node_fits s told, length-drop a.start a.s.now, c.requires.0, c.requires.1)

pub copy_cases-requires : goal.copy_cases-requires
copy_cases-requires c =
    let a = c.args in
    let s = drop a.start a.s.now in
    let told : node_head s ≡ Ok (Switch c.in-Switch.field-0 c.in-Switch.count c.in-Switch.field-2 c.in-Switch.field-3) = ap node_head (sym (rest a.s.now a.start)) ∙ sym c.in_ok-node.ensures ∙ ap Ok c.in-Switch.is in
    let fits = node_fits s told in
    let at : c.put_node-at.result ≡ a.start + switch_length = c.put_node-at.ensures.0 ∙ ap (λ r. a.start + length (node_record_bytes r)) c.in-Switch.is in
    let there = cases_there s told c.requires.2 in
    let behind : drop switch_length s ≡ drop c.put_node-at.result a.s.now = drop-drop switch_length a.start a.s.now ∙ ap (λ k. drop k a.s.now) (sym at) in (
      omega (arith, length-drop a.start a.s.now, c.requires.0),
      omega (arith, c.requires.1),
      subst (λ l. IsTook (read_cases c.in-Switch.count l)) behind there,
    )

pub returns-in-End : goal.returns-in-End
returns-in-End c =
    let a = c.args in
    let s = drop a.start a.s.now in
    let same = leaf_bytes_lem s c.in-End.field-0 (ap node_head (sym (rest a.s.now a.start)) ∙ sym c.in_ok-node.ensures ∙ ap Ok c.in-End.is) in
    let bytes = ap node_record_bytes c.in-End.is ∙ same in
    (ap Ok (c.put_node-at.ensures.0 ∙ ap (λ l. a.start + length l) bytes), c.put_node-at.ensures.1 ∙ ap (splice a.buf.now a.start) bytes)

pub returns-in-Switch : goal.returns-in-Switch
returns-in-Switch c =
    let a = c.args in
    let s = drop a.start a.s.now in
    let told : node_head s ≡ Ok (Switch c.in-Switch.field-0 c.in-Switch.count c.in-Switch.field-2 c.in-Switch.field-3) = ap node_head (sym (rest a.s.now a.start)) ∙ sym c.in_ok-node.ensures ∙ ap Ok c.in-Switch.is in
    let fits = node_fits s told in
    let at : c.put_node-at.result ≡ a.start + switch_length = c.put_node-at.ensures.0 ∙ ap (λ r. a.start + length (node_record_bytes r)) c.in-Switch.is in
    let there = cases_there s told c.requires.2 in
    let behind : drop switch_length s ≡ drop c.put_node-at.result a.s.now = drop-drop switch_length a.start a.s.now ∙ ap (λ k. drop k a.s.now) (sym at) in
    let h = bytes_drop a.start a.s.now (bytes_all a.s.now (λ i. omega (arith, c.type_inv.s i))) in
    let record-bytes = ap node_record_bytes c.in-Switch.is in
    let cases = ap (λ l. cases_bytes (read_or [] (read_cases c.in-Switch.count l))) (sym behind) in
    let both = both_written a.buf.now a.start (node_record_bytes (Switch c.in-Switch.field-0 c.in-Switch.count c.in-Switch.field-2 c.in-Switch.field-3)) (cases_bytes (read_or [] (read_cases c.in-Switch.count (drop switch_length s))))
    (omega (arith, fits, length-drop a.start a.s.now, c.requires.0, c.requires.1)) at
    (c.put_node-at.ensures.1 ∙ ap (splice a.buf.now a.start) record-bytes)
    refl
    (c.copy_cases.ensures.1 ∙ ap (splice c.put_node-at.new.buf c.put_node-at.result) cases) (switch_bytes s told c.requires.2 h) in
    (c.copy_cases.ensures.0 ∙ ap Ok (ap (λ l. c.put_node-at.result + length l) cases ∙ both.0), both.1)

pub returns-in-Pair : goal.returns-in-Pair
returns-in-Pair c =
    let a = c.args in
    let s = drop a.start a.s.now in
    let same = pair_bytes s (ap node_head (sym (rest a.s.now a.start)) ∙ sym c.in_ok-node.ensures ∙ ap Ok c.in-Pair.is) in
    let bytes = ap node_record_bytes c.in-Pair.is ∙ same in
    (ap Ok (c.put_node-at.ensures.0 ∙ ap (λ l. a.start + length l) bytes), c.put_node-at.ensures.1 ∙ ap (splice a.buf.now a.start) bytes)

-- `listing` meets its contract: the line of a refused build, or the lines after a build.
use Prim.Native.Nat.{ℕ, ◌≤◌}
use mathlib.Core.Path.{◌≡◌, sym, ap, ◌∙◌}
use mathlib.Core.List.{List}
use native.Mathlib.Omega.{arith}
use lib.ListN.{length, take, length-replicate}
use lib.Seq.{length-take-le}
use Rattle.records.specs.Writing.{splice}
use Rattle.output.specs.Listing.{most_bytes, listing_bytes}
use Rattle.lines.specs.Lines.{refused_line}
use Rattle.lines.proofs.Wrote.{wrote_as}
use Rattle.records.proofs.ByteLists.{bytes_all}
use Rattle.std.specs.Prelude.{Ok}
use Rattle.build.specs.declared.Built.{Built}
use Rattle.build.specs.BuildOutcome.{build_outcome}
use Rattle.piece_lines.proofs.Turns.{from_start}
use Rattle.output.proofs.Cuts.{counted}
use Rattle.output.proofs.Outcomes.{outcome, empty_graph, built_refused, built_written, built_fits, built_accepted}
use Rattle.output.proofs.Outcomes.{bytes_take, cut_both}
use Rattle.output.proofs.listing.Goals as goal

-- Where the graph was built, its bytes are in the buffer.
graph_fits
    : (s : List ℕ) {b : Built} {g : List ℕ} → outcome (Ok b) g ≡ build_outcome s empty_graph → length g ≡ most_bytes
    → b.bytes ≤ length g
graph_fits s e long = omega (arith, built_fits s empty_graph e, length-replicate {A = ℕ} most_bytes 0, long)

pub slice_bounds-graph-end : goal.slice_bounds-graph-end
slice_bounds-graph-end c =
    graph_fits (take c.cut-sheet_end.result c.args.sheet.now) c.in-Ok.ensures c.build-built.auto.buf

pub slice_bounds-put_built-end-in-Ok : goal.slice_bounds-put_built-end-in-Ok
slice_bounds-put_built-end-in-Ok c =
    sym (length-take-le c.in-Ok.built.bytes c.build-built.new.buf
    (graph_fits (take c.cut-sheet_end.result c.args.sheet.now) c.in-Ok.ensures c.build-built.auto.buf))

pub put_built-requires-clause-graph_for : goal.put_built-requires-clause-graph_for
put_built-requires-clause-graph_for c =
    let sheet = take c.cut-sheet_end.result c.args.sheet.now in
    let are_bytes =
    bytes_take c.cut-sheet_end.result c.args.sheet.now
    (bytes_all c.args.sheet.now (λ i. omega (arith, c.type_inv.sheet i))) in
    built_accepted sheet empty_graph c.in-Ok.ensures are_bytes

pub returns-in-Err : goal.returns-in-Err
returns-in-Err c =
    let a = c.args in
    let sheet = take c.cut-sheet_end.result a.sheet.now in
    let input = take c.cut-input_end.result a.input.now in
    let is =
    ap refused_line c.number.ensures
    ∙ built_refused sheet input c.in-Err.refusal c.in-Err.ensures
    ∙ cut_both a.sheet.now a.input.now c.cut-sheet_end.ensures c.cut-input_end.ensures in
    let all =
    from_start a.out.now (listing_bytes a.sheet.now a.input.now)
    (wrote_as a.out.now 0 is c.put_refused.ensures.value) in
    record { value = all; prefix_len = counted a.out.now (listing_bytes a.sheet.now a.input.now) all }

pub returns-in-Ok : goal.returns-in-Ok
returns-in-Ok c =
    let a = c.args in
    let sheet = take c.cut-sheet_end.result a.sheet.now in
    let input = take c.cut-input_end.result a.input.now in
    let is =
    built_written sheet input c.in-Ok.ensures
    ∙ cut_both a.sheet.now a.input.now c.cut-sheet_end.ensures c.cut-input_end.ensures in
    let long = c.put_built.ensures.0 ∙ ap length is in
    let written = c.put_built.ensures.1 ∙ ap (splice a.out.now 0) is in
    record { value = (long, written); prefix_len = counted a.out.now (listing_bytes a.sheet.now a.input.now) (long, written) }

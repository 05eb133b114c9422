-- The sheet is read, then the graph for its tests.
use Prim.Native.Nat.{ℕ}
use mathlib.Core.Path.{subst}
use native.Mathlib.Omega.{arith}
use lib.ListN.{length-replicate}
use Rattle.std.proofs.lemmas.Result.{err_from_is_err_and}
use Rattle.sheet_tests.specs.views.TestsRead.{CountsTests}
use Rattle.accepted.specs.views.AcceptedAs.{AcceptedTests}
use Rattle.accepted.proofs.FoundTests.{found_accepts, found_refuses}
use Rattle.graph_check.proofs.FoundGraph.{index_accepts, index_refuses}
use Rattle.graph_check.proofs.Headers.{sheet_refuses, graph_refuses, graph_accepts}
use Rattle.graph_check.proofs.check.graph_header.Goals as goal
use Rattle.graph_check.proofs.check.graph_header.Goals.{In_ok-read}

pub index_graph-requires : goal.index_graph-requires
index_graph-requires c =
    let held = c.read_tests.ensures.held in
    let counted = subst (CountsTests c.read_tests.new.words) c.in_ok-read.was held.counted in
    (held.all_words, omega (arith, counted.1), held.all_codes, length-replicate {A = ℕ} 1024 0)

pub returns-in_err-read : goal.returns-in_err-read
returns-in_err-read c =
    let p = err_from_is_err_and c.from_residual.result c.from_residual.ensures.1 in
    rw (p.1, p.2)
    (sheet_refuses c.args.sheet.now c.args.graph.now
    (found_refuses c.args.sheet.now c.read_tests.new.words c.read_tests.new.codes c.read_tests.ensures.result_after c.in_err-read.was))

-- The sheet's tests, where it was read.
tests
    : (c : In_ok-read)
    → AcceptedTests c.args.sheet.now c.read_tests.new.words c.read_tests.new.codes c.in_ok-read.read.arity c.in_ok-read.read.rules
    c.in_ok-read.read.pairs
tests c = found_accepts c.args.sheet.now c.read_tests.new.words c.read_tests.new.codes c.read_tests.ensures.result_after c.in_ok-read.was

pub returns-in_err-nodes : goal.returns-in_err-nodes
returns-in_err-nodes c =
    let s = c.args.sheet.now in
    let g = c.args.graph.now in
    let t = tests (goal.at.returns-in_err-nodes c).In_ok-read in
    let p = err_from_is_err_and c.from_residual-in_err-nodes.result c.from_residual-in_err-nodes.ensures.1 in
    rw (p.1, p.2)
    (graph_refuses s g t.read.accepted
    (index_refuses s g c.read_tests.new.words c.read_tests.new.codes c.index_graph.new.starts t c.index_graph.result
    c.index_graph.ensures.result_after c.in_err-nodes.was))

pub returns : goal.returns
returns c =
    let s = c.args.sheet.now in
    let g = c.args.graph.now in
    let t = tests (goal.at.returns c).In_ok-read in
    let f =
    index_accepts s g c.read_tests.new.words c.read_tests.new.codes c.index_graph.new.starts t c.index_graph.result
    c.index_graph.ensures.result_after c.in_ok-nodes.was in
    graph_accepts s g t.read.accepted f.read t.read.arity_is t.count_is f.count_is

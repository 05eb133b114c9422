-- The graph is refused, or walked over.
use Prim.Native.Nat.{ℕ}
use mathlib.Core.Path.{sym, subst}
use native.Mathlib.Omega.{arith}
use lib.ListN.{drop, replicate, length-replicate}
use Rattle.records.proofs.ByteLists.{bytes_all}
use Rattle.graph_check.proofs.FoundGraph.{index_accepts, index_refuses}
use Rattle.leaves.specs.views.Seeking.{Begins}
use Rattle.leaves.proofs.RuleBegins.{none_noted}
use Rattle.std.proofs.lemmas.Result.{err_from_is_err_and}
use Rattle.walk.proofs.Replies.{graph_refuses, checked_kept, kept_stays}
use Rattle.walk.proofs.call.walk_graph.Goals as goal

pub index_graph-requires : goal.index_graph-requires
index_graph-requires c =
    let pre = c.requires.arrays in
    (pre.0.all_words, omega (arith, pre.0.few_tests), pre.0.all_codes, length-replicate {A = ℕ} 1024 0)

pub keep_tests-requires : goal.keep_tests-requires
keep_tests-requires c = (c.requires.arrays.0, length-replicate {A = ℕ} 324 0)

pub walk_checked-requires : goal.walk_checked-requires
walk_checked-requires c =
    let a = c.args in
    let s = c.args.sheet.now in
    let words = c.args.words.now in
    let codes = c.args.codes.now in
    let pairs = c.args.sizes.pairs in
    let index-graph = c.index_graph in
    let starts = c.index_graph.new.starts in
    let pre = c.requires.arrays in
    let t = c.requires.accepted_tests in
    let s-bytes = bytes_all s (λ i. omega (arith, c.type_inv.sheet i)) in
    let blank = replicate {A = ℕ} 324 0 in
    let long = length-replicate {A = ℕ} 324 0 in
    let put = c.keep_tests.ensures in
    let begins =
    subst (Begins (drop 3 s) a.sizes.arity a.sizes.rules) (sym put)
    (none_noted words codes pairs pre.0 (drop 3 s) a.sizes.arity a.sizes.rules) in
    let f =
    index_accepts s a.graph.now words codes starts t index-graph.result index-graph.ensures.result_after c.in_ok-nodes.was in record {
      starts_len = (index-graph.ensures.starts_len, pre.1, begins, length-replicate {A = ℕ} 680 0);
      checked = checked_kept s words codes t s-bytes pre.0 blank long a.graph.now starts
          (kept_stays s words codes t s-bytes pre.0 blank long put) f;
    }

pub returns-in_err-nodes : goal.returns-in_err-nodes
returns-in_err-nodes c = λ t p k.
    let a = c.args in
    let call = c.index_graph in
    let no = err_from_is_err_and c.from_residual.result c.from_residual.ensures.1 in
    rw (no.1, no.2)
    (graph_refuses t.read.sheet a.graph.now k.piece
    (index_refuses a.sheet.now a.graph.now a.words.now a.codes.now call.new.starts t call.result call.ensures.result_after c.in_err-nodes.was))

pub returns : goal.returns
returns c = λ t. c.walk_checked.ensures.result_value t.read

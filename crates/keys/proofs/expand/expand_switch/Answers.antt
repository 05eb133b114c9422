-- `expand::expand_switch` meets its contract: the keys behind the cases are met, then those behind neither and unknown.
use Prim.Native.Nat.{ℕ, ◌%◌, ◌<◌}
use mathlib.Core.Path.{sym, ap, subst, ◌∙◌}
use mathlib.Core.List.{map}
use native.Mathlib.Omega.{arith}
use Rattle.decision.specs.Key.{Key}
use Rattle.decision.specs.Node.{Node}
use Rattle.tables.specs.views.Planes.{test_in}
use Rattle.cuts.specs.views.Cuts.{part_at, count_at, cut_at}
use Rattle.cuts.specs.views.Runs.{runs_in}
use Rattle.cuts.specs.views.CaseRuns.{case_runs}
use Rattle.std.specs.Prelude.{None}
use Rattle.edges.specs.views.KeysBehind.{none_behind, unknown_behind}
use Rattle.edges.specs.views.NodeIn.{run_edge}
use Rattle.met.specs.views.KeysMet.{keys_in}
use Rattle.keys.specs.views.Expanded.{EdgesMet}
use Rattle.keys.proofs.EdgesInTurn.{bytes_most, most_more, switch_many, switch_met}
use Rattle.keys.proofs.SwitchParts.{part_room, switch_is}
use Rattle.keys.proofs.expand.expand_switch.Goals as goal

pub part-requires : goal.part-requires
part-requires c =
    let rules = c.rules in
    let parted = c.requires.1 in
    (omega (arith, rules.ensures, parted.few_rules), omega (arith, c.requires.2, parted.few_places))

pub cut_switch-framed-requires : goal.cut_switch-framed-requires
cut_switch-framed-requires c =
    let part = c.part in
    let rules = c.rules in
    let is = part.ensures ∙ ap (λ (n : ℕ). part_at n c.args.asked.test) rules.ensures in
    let room = part_room c.requires.1 c.args.asked.test c.requires.2 is in record {
      from_in_bounds = (room.0, room.1, c.requires.3);
      by_index = λ k h.
          subst
          (λ (from : ℕ).
          k < count_at c.args.c.now from
          → (0 < (cut_at c.args.c.now from k).code) × ((cut_at c.args.c.now from k).code < 0x1_0000_0000))
          (sym is) (c.requires.1.coded c.args.asked.test k c.requires.2) h;
    }

pub meet_runs-requires : goal.meet_runs-requires
meet_runs-requires c =
    let cut-switch = c.cut_switch-framed in
    (c.requires.0, cut-switch.ensures.2, cut-switch.ensures.3, cut-switch.ensures.4)

pub returns-in_err-bytes-clause-edges_met : goal.returns-in_err-bytes-clause-edges_met
returns-in_err-bytes-clause-edges_met c =
    let part = c.part in
    let rules = c.rules in
    let cut = c.cut_switch-framed in
    let cases = c.meet_runs in
    let a = c.args in
    let is = part.ensures ∙ ap (λ (n : ℕ). part_at n a.asked.test) rules.ensures in
    let runs = c.cut_switch-framed.new.runs in
    let cases_of = case_runs cut.result.names (runs_in runs cut.result.count) in
    let node = switch_is a.s.now a.c.now a.asked c.requires.2 cases_of is cut.ensures.0 in
    let many = switch_many (test_in a.s.now a.asked.test % 0x1_0000)
    (map (run_edge a.s.now a.asked) cases_of) (keys_in a.keys.now)
    (none_behind a.s.now a.asked) (unknown_behind a.s.now a.asked) cases.result cases.new.keys
    c.in_err-bytes.was cases.ensures.cases_met in
    rw c.from_residual.ensures
    (subst (λ (n : Node Key). EdgesMet n (keys_in a.keys.now) None cases.new.keys) (sym node) many)

pub by_unknown-unknown-requires : goal.by_unknown-unknown-requires
by_unknown-unknown-requires c =
    omega (arith, c.requires.2, c.requires.1.few_places)

pub overflow_add-bytes : goal.overflow_add-bytes
overflow_add-bytes c =
    let meet-runs = c.meet_runs in
    let few = bytes_most c.in_ok-bytes.was meet-runs.ensures.chained.1 in
    omega (arith, few)

pub meet_two-requires : goal.meet_two-requires
meet_two-requires c = c.meet_runs.ensures.chained.0

pub returns : goal.returns
returns c =
    let part = c.part in
    let rules = c.rules in
    let cut = c.cut_switch-framed in
    let cases = c.meet_runs in
    let last = c.meet_two in
    let by_none_lem = c.by_none-neither in
    let by_unknown_lem = c.by_unknown-unknown in
    let a = c.args in
    let is = part.ensures ∙ ap (λ (n : ℕ). part_at n a.asked.test) rules.ensures in
    let few = bytes_most c.in_ok-bytes.was cases.ensures.chained.1 in
    let runs = c.cut_switch-framed.new.runs in
    let cases_of = case_runs cut.result.names (runs_in runs cut.result.count) in
    let node = switch_is a.s.now a.c.now a.asked c.requires.2 cases_of is cut.ensures.0 in
    let all = switch_met (test_in a.s.now a.asked.test % 0x1_0000)
    (map (run_edge a.s.now a.asked) cases_of) (keys_in a.keys.now)
    (none_behind a.s.now a.asked) (unknown_behind a.s.now a.asked) cases.result cases.new.keys
    c.in_ok-bytes.was cases.ensures.cases_met last.result last.new.keys by_none_lem.ensures
    by_unknown_lem.ensures last.ensures.met in record {
      edges_met = subst (λ (n : Node Key). EdgesMet n (keys_in a.keys.now) last.result last.new.keys) (sym node) all;
      chained = (
        last.ensures.chained.0,
        most_more last.result (omega (arith, few)) last.ensures.chained.1,
        cut.ensures.4,
      );
    }

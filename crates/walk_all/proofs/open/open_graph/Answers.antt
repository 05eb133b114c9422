-- `open_graph` meets its contract: the sheet's tests are read, then the graph for it, and the tables are filled.
use Prim.Native.Nat.{ℕ, ◌+◌, ◌≤◌}
use mathlib.Core.Path.{◌≡◌, sym, ap, subst, ◌∙◌}
use mathlib.Core.List.{List}
use native.Mathlib.Omega.{arith}
use lib.ListN.{length, take, drop, length-replicate}
use Rattle.basics.specs.Lists.{All}
use Rattle.records.specs.Fields.{IsByte}
use Rattle.std.proofs.lemmas.Result.{err_from_is_err_and}
use Rattle.records.proofs.Parts.{rest}
use Rattle.records.proofs.ByteLists.{bytes_all}
use Rattle.sheet.specs.ReadSheet.{read_rules}
use Rattle.sheet_tests.specs.views.TestedPlaces.{places_in}
use Rattle.sheet_tests.specs.CheckSheet.{accept_sheet, most_tests}
use Rattle.sheet_tests.specs.views.TestsRead.{Held, tests_found, found_values}
use Rattle.sheet_tests.proofs.Checking.{read_counted, values_found}
use Rattle.accepted.specs.views.AcceptedAs.{AcceptedTests}
use Rattle.accepted.proofs.CheckedSheets.{check_refuses}
use Rattle.accepted.proofs.FoundTests.{found_accepts}
use Rattle.graph.specs.views.Rewriting.{IsTook}
use Rattle.graph_check.proofs.FoundGraph.{index_accepts, index_refuses}
use Rattle.test_list.specs.views.Tests.{tests_put}
use Rattle.rule_masks.specs.views.Kept.{Arrays, TestsStay}
use Rattle.leaves.specs.views.Seeking.{Begins}
use Rattle.leaves.proofs.RuleBegins.{none_noted}
use Rattle.walk.proofs.Replies.{kept_stays, checked_kept}
use Rattle.walk_all.proofs.Opening.{sheet_unread, sheet_read_lem}
use Rattle.walk_all.proofs.open.open_graph.Goals as goal
use Rattle.walk_all.proofs.open.open_graph.Goals.{In_ok-tests}

-- Where the sheet's tests were read.
module _ (c : In_ok-tests) where
  abbrev sheet : List ℕ
  sheet = c.args.sheet.now

  abbrev words : List ℕ
  words = c.read_tests.new.words

  abbrev codes : List ℕ
  codes = c.read_tests.new.codes

  abbrev arity : ℕ
  arity = c.in_ok-tests.tests.arity

  abbrev rules : ℕ
  rules = c.in_ok-tests.tests.rules

  abbrev places : ℕ
  places = c.in_ok-tests.tests.places

  abbrev pairs : ℕ
  pairs = c.in_ok-tests.tests.pairs

  held : Held words codes c.read_tests.result
  held = c.read_tests.ensures.held

  few : (places ≡ length (places_in words)) × (places + pairs ≤ most_tests)
  few = read_counted words codes c.in_ok-tests.was held

  read : AcceptedTests sheet words codes arity rules pairs
  read = found_accepts sheet words codes c.read_tests.ensures.result_after c.in_ok-tests.was

  arrays : Arrays words codes pairs
  arrays = record { all_words = held.all_words; all_codes = held.all_codes; few_tests = omega (arith, few.0, few.1) }

  -- The tables are new.
  abbrev blank : List ℕ
  blank = c.args.kept.now

  entries : length blank ≡ 324
  entries = ap length c.requires.2 ∙ length-replicate {A = ℕ} 324 0

  abbrev listed : List ℕ
  listed = tests_put (places_in words) (take pairs codes) blank

  unnoted : Begins (drop 3 sheet) arity rules listed
  unnoted =
      subst (λ (l : List ℕ). Begins (drop 3 sheet) arity rules (tests_put (places_in words) (take pairs codes) l))
      (sym c.requires.2) (none_noted words codes pairs arrays (drop 3 sheet) arity rules)

  bytes : All IsByte sheet
  bytes = bytes_all sheet (λ i. omega (arith, c.shared_slice_known-1.given i))

pub index_graph-requires : goal.index_graph-requires
index_graph-requires c =
    ((held (goal.at.index_graph-requires c).In_ok-tests).all_words, omega (arith, (few (goal.at.index_graph-requires c).In_ok-tests).1), (held (goal.at.index_graph-requires c).In_ok-tests).all_codes, c.requires.0)

pub keep_tests-requires : goal.keep_tests-requires
keep_tests-requires c = (arrays (goal.at.keep_tests-requires c).In_ok-tests, entries (goal.at.keep_tests-requires c).In_ok-tests)

pub slice_bounds-rule_begins-count : goal.slice_bounds-rule_begins-count
slice_bounds-rule_begins-count c = (read (goal.at.slice_bounds-rule_begins-count c).In_ok-tests).read.whole

pub slice_bounds-rule_begins-start : goal.slice_bounds-rule_begins-start
slice_bounds-rule_begins-start c = (read (goal.at.slice_bounds-rule_begins-start c).In_ok-tests).read.whole

pub rule_begins-requires : goal.rule_begins-requires
rule_begins-requires c =
    let t = read (goal.at.rule_begins-requires c).In_ok-tests in
    let s = sheet (goal.at.rule_begins-requires c).In_ok-tests in
    let put = c.keep_tests.ensures in
    let stay = kept_stays s (words (goal.at.rule_begins-requires c).In_ok-tests) (codes (goal.at.rule_begins-requires c).In_ok-tests) t (bytes (goal.at.rule_begins-requires c).In_ok-tests) (arrays (goal.at.rule_begins-requires c).In_ok-tests) (blank (goal.at.rule_begins-requires c).In_ok-tests) (entries (goal.at.rule_begins-requires c).In_ok-tests) put in
    let took = subst IsTook (sym t.read.rules_read) tt in (
      t.read.few,
      subst (λ (l : List ℕ). IsTook (read_rules (arity (goal.at.rule_begins-requires c).In_ok-tests) (rules (goal.at.rule_begins-requires c).In_ok-tests) l)) (sym (rest s 3)) took,
      c.requires.1,
      stay.entries,
      subst (λ (l : List ℕ). Begins l (arity (goal.at.rule_begins-requires c).In_ok-tests) (rules (goal.at.rule_begins-requires c).In_ok-tests) c.keep_tests.new.kept) (sym (rest s 3))
          (subst (Begins (drop 3 s) (arity (goal.at.rule_begins-requires c).In_ok-tests) (rules (goal.at.rule_begins-requires c).In_ok-tests)) (sym put) (unnoted (goal.at.rule_begins-requires c).In_ok-tests)),
    )

pub returns-in_err-tests : goal.returns-in_err-tests
returns-in_err-tests c =
    let a = c.args in
    let call = c.read_tests in
    let p = err_from_is_err_and c.from_residual.result c.from_residual.ensures.1 in
    let told = ap found_values (sym (ap (tests_found call.new.words call.new.codes) c.in_err-tests.was) ∙ call.ensures.result_after)
    ∙ values_found (accept_sheet a.sheet.now) in
    rw (p.1, p.2) (sheet_unread a.sheet.now a.graph.now (check_refuses a.sheet.now _ told), c.requires.1)

pub returns-in_err-nodes : goal.returns-in_err-nodes
returns-in_err-nodes c =
    let own = (goal.at.returns-in_err-nodes c).In_ok-tests in
    let graph = c.args.graph.now in
    let call = c.index_graph in
    let out = c.from_residual-in_err-nodes in
    let p = err_from_is_err_and out.result out.ensures.1 in
    rw (p.1, p.2) (
      sheet_read_lem (sheet own) graph (read own).read.accepted
          ∙ index_refuses (sheet own) graph (words own) (codes own) call.new.starts (read own) call.result call.ensures.result_after
          c.in_err-nodes.was,
      c.requires.1,
    )

pub returns : goal.returns
returns c =
    let s = sheet (goal.at.returns c).In_ok-tests in
    let graph = c.args.graph.now in
    let call = c.index_graph in
    let starts = c.index_graph.new.starts in
    let noted = c.rule_begins.ensures in
    let kept = c.rule_begins.new.kept in
    let stay = subst (λ (l : List ℕ). TestsStay l kept) c.keep_tests.ensures noted.1 in
    let made = index_accepts s graph (words (goal.at.returns c).In_ok-tests) (codes (goal.at.returns c).In_ok-tests) starts (read (goal.at.returns c).In_ok-tests) call.result call.ensures.result_after c.in_ok-nodes.was in (
      record {
        nodes = made.nodes;
        read = sheet_read_lem s graph (read (goal.at.returns c).In_ok-tests).read.accepted ∙ made.read;
        known = record {
          all_starts = call.ensures.starts_len;
          checked =
              checked_kept s (words (goal.at.returns c).In_ok-tests) (codes (goal.at.returns c).In_ok-tests) (read (goal.at.returns c).In_ok-tests) (bytes (goal.at.returns c).In_ok-tests) (arrays (goal.at.returns c).In_ok-tests) (blank (goal.at.returns c).In_ok-tests) (entries (goal.at.returns c).In_ok-tests) graph starts
              stay made;
          begins = subst (λ (l : List ℕ). Begins l (arity (goal.at.returns c).In_ok-tests) (rules (goal.at.returns c).In_ok-tests) kept) (rest s 3) noted.0;
        };
      },
      noted.2,
    )

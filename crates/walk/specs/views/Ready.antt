-- What a walk begins with: a sheet whose rules and tests were read, and a graph that was accepted for it.
use Rattle.std.specs.Prelude.{ℕ, ◌≤◌, ◌≡◌, List, length}
use Rattle.basics.specs.Lists.{All}
use Rattle.sheet.specs.ReadSheet.{read_rules}
use Rattle.sheet_tests.specs.SheetTests.{Test, sheet_tests}
use Rattle.decision.specs.Node.{Node, end, switch, pair_node}
use Rattle.graph.specs.views.Rewriting.{IsTook}
use Rattle.accepted.specs.views.AcceptedAs.{AcceptedAs}
use Rattle.graph_check.specs.views.GraphIndex.{AcceptedGraphAs}
use Rattle.plain.specs.views.ReadAs.{ReadAs}
use Rattle.test_list.specs.views.Tests.{Counted}
use Rattle.path.specs.views.Following.{Index, asked_codes, nodes_at}
use Rattle.rule_masks.specs.views.TestNumbers.{KeptCode}
use Rattle.rule_masks.specs.views.Kept.{listed_tests, Listed}
use Rattle.walk.specs.views.LeafWalks.{LeafIn}

-- "Are its nodes and rule in range": so with the rule of an execute node.
abbrev pub LeafNode : ℕ → Node ℕ → Type 0
LeafNode count (end l) = LeafIn count l
LeafNode count (switch n cs x y) = Unit
LeafNode count (pair_node p q x y) = Unit

-- "Its place or pair among the sheet's tests" (question 23): the test that a node asks is one of these.
abbrev pub AsksKept : List Test → Node ℕ → Type 0
AsksKept tests n = All (KeptCode tests) (asked_codes n)

-- Rules, so many, that s begins with; the tests that are listed; and the index of a graph whose rules and tests are among them.
pub record Ready (s graph starts kept : List ℕ) (arity count nodes : ℕ) : Type 0 where
  pub few_arguments : arity ≤ 8
  pub rules_read : IsTook (read_rules arity count s)
  pub listed : Listed kept
  pub index : Index graph starts nodes
  pub leaves : All (LeafNode count) (nodes_at graph starts nodes)
  pub asked : All (AsksKept (listed_tests kept)) (nodes_at graph starts nodes)

-- Some bytes are an accepted piece of this arity, and these are its cells.
pub record SomePiece (cells : List ℕ) (arity : ℕ) : Type 0 where
  pub bytes : List ℕ
  pub read_as : ReadAs bytes cells arity

-- A sheet that was accepted, of so many arguments and rules, and whose tests are listed.
pub record AcceptedKept (s kept : List ℕ) (arity count : ℕ) : Type 0 where
  pub read : AcceptedAs s arity count
  pub count_is : length read.sheet.rules ≡ count
  pub counted : Counted kept
  pub tests : listed_tests kept ≡ sheet_tests read.sheet.rules

-- Questions 1 to 11 and 21 to 25 refuse nothing of the bytes s and g: the sheet is accepted and its tests are listed, and the graph
-- is accepted for it, with so many nodes, which begin at the starts.
pub record Checked (s g starts kept : List ℕ) (arity count nodes : ℕ) : Type 0 where
  pub sheet : AcceptedKept s kept arity count
  pub graph : AcceptedGraphAs sheet.read.sheet g starts nodes

-- What the walk answers (document 01, "The walk", and document 02, request 4).
use Rattle.std.specs.Prelude.{ℕ, pred, Bool, true, false, ◌&&◌, ◌||◌, not, List, [], ◌∷◌, ◌++◌, length}
use Rattle.std.proofs.Math.Option.{Option, some, none}
use Rattle.records.specs.Reading.{Reading, map_reading}
use Rattle.terms.specs.Term.{Terms, unknown, never, symbol, numbers, compound}
use Rattle.terms.specs.Pattern.{Patterns}
use Rattle.terms.specs.RuleTests.{Want}
use Rattle.terms.specs.Lookup.{Found, lacking, found, term_at}
use Rattle.terms.specs.Outcome.{Outcome, holds, not_known, contradicted, at_places, fits, at_place, rule_outcome}
use Rattle.terms.specs.Answer.{Answer, rule_at, only_rule}
use Rattle.terms.specs.Answer as answers
use Rattle.sheet_tests.specs.SheetTests.{Test, place, pair, sheet_tests}
use Rattle.decision.specs.Rules.{same_test, test_at, has_test, want_at, tests_where}
use Rattle.decision.specs.Key.{Leaf, fail_node, suspend_node, execute_node}
use Rattle.decision.specs.Node.{Node, end, switch, pair_node}
use Rattle.decision.specs.Path.{Way, Path, node_at, path}
use Rattle.basics.specs.Lists.{any_below, any_of}

-- "An answer is commit, execute, suspend or fail, with the rule .., edges walked, and a wait list: a set of tests, test t being
-- bit t of 64."
pub record Walk : Type 0 where
  pub answer : Answer
  pub edges : ℕ
  pub waits : ℕ

abbrev pub is_not_known : Outcome → Bool
is_not_known holds = false
is_not_known not_known = true
is_not_known contradicted = false

abbrev pub is_unknown : Found → Bool
is_unknown lacking = false
is_unknown (found unknown) = true
is_unknown (found never) = false
is_unknown (found (symbol a)) = false
is_unknown (found (numbers a b)) = false
is_unknown (found (compound a ts)) = false

-- A test is not known in the piece, whatever a rule wants at its place.
abbrev pub test_not_known : Terms → Test → Bool
test_not_known piece (place n) = is_unknown (term_at piece n)
test_not_known piece (pair p q) = is_not_known (at_places (term_at piece p) (term_at piece q))

-- The node asks the test.
abbrev pub asks_test : Test → Node ℕ → Bool
asks_test t (end l) = false
asks_test t (switch n cs x y) = same_test t (place n)
asks_test t (pair_node p q x y) = same_test t (pair p q)

-- "A walk meets the tests that its nodes ask."
abbrev pub is_met : List Patterns → List (Node ℕ) → List ℕ → ℕ → Bool
is_met rules nodes walked t = any_of (λ (n : ℕ). asks_test (test_at rules t) (node_at nodes n)) walked

-- The outcome for rule i of a test that it has.
abbrev pub want_outcome : Option Want → Found → Outcome
want_outcome none x = holds
want_outcome (some w) x = at_place (fits w) x

abbrev pub test_outcome : List Patterns → Terms → ℕ → Test → Outcome
test_outcome rules piece i (place n) = want_outcome (want_at rules i n) (term_at piece n)
test_outcome rules piece i (pair p q) = at_places (term_at piece p) (term_at piece q)

abbrev pub is_contradicted : Outcome → Bool
is_contradicted holds = false
is_contradicted not_known = false
is_contradicted contradicted = true

-- The tests of rule i, from 0, whose outcome for it is one of those.
abbrev pub rule_tests_where : List Patterns → Terms → ℕ → (Outcome → Bool) → ℕ
rule_tests_where rules piece i is =
    tests_where rules (λ t. has_test rules i t && is (test_outcome rules piece i (test_at rules t)))

-- "On it a rule is live until a test of it met there is contradicted."
abbrev pub live_on : List Patterns → List (Node ℕ) → Terms → List ℕ → ℕ → Bool
live_on rules nodes piece walked i =
    not
    (any_below (length (sheet_tests rules))
    (λ t. is_met rules nodes walked t && has_test rules i t && is_contradicted (test_outcome rules piece i (test_at rules t))))

-- "For execute those of rule i not known, else none."
abbrev pub execute_waits : List Patterns → Terms → ℕ → Outcome → ℕ
execute_waits rules piece i holds = 0
execute_waits rules piece i not_known = rule_tests_where rules piece (pred i) is_not_known
execute_waits rules piece i contradicted = 0

module _ (rules : List Patterns) (nodes : List (Node ℕ)) (piece : Terms) where
  -- A test is not known for a rule that is live when the walk, having walked the nodes before, comes to the node that asks it.
  abbrev pub waits_for : List ℕ → ℕ → ℕ → Bool
  waits_for before t i =
      live_on rules nodes piece before i && has_test rules i t && is_not_known (test_outcome rules piece i (test_at rules t))

  -- "For suspend it holds the tests met not known on the walk", and "a place met is also listed if its span lies partly inside and
  -- partly outside the range of a rule live there".
  abbrev pub is_listed : List ℕ → ℕ → Bool
  is_listed before t = test_not_known piece (test_at rules t) || any_below (length rules) (waits_for before t)

  -- Of the nodes that are still to be walked, one asks the test and lists it.
  abbrev pub listed_from : List ℕ → List ℕ → ℕ → Bool
  listed_from before [] t = false
  listed_from before (n ∷ ns) t =
      asks_test (test_at rules t) (node_at nodes n) && is_listed before t || listed_from (before ++ n ∷ []) ns t

  abbrev pub suspend_waits : List ℕ → ℕ
  suspend_waits walked = tests_where rules (listed_from [] walked)

  -- "At execute i all tests of rule i are made: one contradicted gives fail, all holding gives commit i, else execute i."
  abbrev pub at_leaf : List ℕ → Leaf → Walk
  at_leaf walked fail_node = record { answer = answers.fail; edges = pred (length walked); waits = 0 }
  at_leaf walked suspend_node = record { answer = answers.suspend; edges = pred (length walked); waits = suspend_waits walked }
  at_leaf walked (execute_node i) =
      record {
        answer = only_rule i (rule_outcome (rule_at rules i) piece);
        edges = pred (length walked);
        waits = execute_waits rules piece i (rule_outcome (rule_at rules i) piece);
      }

  abbrev pub at_end : Path → Reading Walk
  at_end p = map_reading (λ (w : Way). at_leaf w.walked w.last) p

  -- What the walk answers, or the number of the question that got a no.
  abbrev pub walk : Reading Walk
  walk = at_end (path nodes piece)

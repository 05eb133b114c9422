-- The tests met by their codes are those that the nodes walked ask.
use Prim.Native.Nat.{ℕ}
use mathlib.Core.Path.{◌≡◌, refl, ap, ap₂, ◌∙◌}
use mathlib.Core.Bool.{Bool, ◌&&◌, ◌||◌, or-false}
use mathlib.Core.List.{List, [], ◌∷◌}
use lib.ListN.{length, get_or}
use Rattle.masks.proofs.Extensionality.{mask_of_same}
use Rattle.basics.specs.Lists.{All, Mem, any_of}
use Rattle.basics.proofs.Filters.{any_join}
use Rattle.basics.proofs.Positions.{mem_at}
use Rattle.terms.specs.Term.{Terms}
use Rattle.terms.specs.Pattern.{Patterns}
use Rattle.sheet_tests.specs.SheetTests.{Test, place, pair, sheet_tests}
use Rattle.pairs.specs.views.KeptPairs.{pair_code}
use Rattle.decision.specs.Rules.{same_test, test_at, tests_where}
use Rattle.decision.specs.Node.{Node, end, switch, pair_node}
use Rattle.decision.specs.Path.{node_at}
use Rattle.decision.specs.Walk.{asks_test, test_not_known, is_met}
use Rattle.path.specs.views.Following.{asked_codes, met_codes}
use Rattle.path.proofs.PathsAgree.{nodes_each}
use Rattle.rule_masks.specs.views.TestNumbers.{code_test}
use Rattle.waiting.specs.views.OpenTests.{open_cells, is_among, met_waits}

-- "The tests met not known on the walk", as document 01 has it.
abbrev pub open_met : List Patterns → List (Node ℕ) → Terms → List ℕ → ℕ
open_met rules nodes piece walked = tests_where rules (λ t. is_met rules nodes walked t && test_not_known piece (test_at rules t))

-- The code of a node's test is that of no other.
abbrev pub Coded : Node ℕ → Type 0
Coded (end l) = Unit
Coded (switch n cs x y) = code_test (pair_code n n) ≡ place n
Coded (pair_node p q x y) = code_test (pair_code p q) ≡ pair p q

module _ (t : Test) where
  one_asked : (n : Node ℕ) → Coded n → is_among (asked_codes n) t ≡ asks_test t n
  one_asked (end l) c = refl
  one_asked (switch n cs x y) c = or-false (same_test t (code_test (pair_code n n))) ∙ ap (same_test t) c
  one_asked (pair_node p q x y) c = or-false (same_test t (code_test (pair_code p q))) ∙ ap (same_test t) c

  pub met_asked
      : (nodes : List (Node ℕ)) → All Coded nodes → (walked : List ℕ)
      → is_among (met_codes nodes walked) t ≡ any_of (λ (n : ℕ). asks_test t (node_at nodes n)) walked
  met_asked nodes h [] = refl
  met_asked nodes h (n ∷ walked) =
      any_join (λ (c : ℕ). same_test t (code_test c)) (asked_codes (node_at nodes n)) (met_codes nodes walked)
      ∙ ap₂ (λ (x y : Bool). x || y) (one_asked (node_at nodes n) (nodes_each Coded nodes tt h n)) (met_asked nodes h walked)

module _ (rules : List Patterns) (piece : Terms) (cells : List ℕ)
    (agrees : (t : Test) → Mem t (sheet_tests rules) → open_cells cells t ≡ test_not_known piece t) (nodes : List (Node ℕ))
    (coded : All Coded nodes) where
  -- Where the cells say which tests are not known, the tests met that are not known are those of the piece.
  pub met_same
      : (walked : List ℕ) → met_waits (sheet_tests rules) cells (met_codes nodes walked) ≡ open_met rules nodes piece walked
  unfolding met_waits
  met_same walked =
      mask_of_same (length (sheet_tests rules)) _ _
      (λ t h.
      let test = get_or (sheet_tests rules) t (place 0) in
      ap₂ (λ (x y : Bool). x && y) (met_asked test nodes coded walked)
      (agrees test (mem_at (place 0) (sheet_tests rules) t h)))

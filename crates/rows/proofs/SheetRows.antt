-- The rows of an accepted sheet's rules: each is the set of its rule's tests.
use Prim.Native.Nat.{ℕ, suc, ◌+◌, ◌≤◌, ◌<◌}
use mathlib.Core.Path.{◌≡◌, sym, ◌∙◌, subst}
use mathlib.Core.List.{List, ◌++◌, map}
use mathlib.Core.Logic.{by_cases}
use native.Mathlib.Decide.{dec_lt}
use native.Mathlib.Omega.{arith}
use lib.ListN.{length, get_or, replicate, length-replicate, get_or-replicate, get_or-eq_default}
use Rattle.basics.specs.Lists.{All, Mem}
use Rattle.basics.proofs.ListLaws.{all_map, all_from}
use Rattle.basics.proofs.Filters.{mem_left, mem_map}
use Rattle.terms.specs.Pattern.{Patterns}
use Rattle.terms.specs.Answer.{rule_at}
use Rattle.terms.specs.Accepted.{AcceptedRule}
use Rattle.sheet.specs.views.Noted.{rule_notes}
use Rattle.sheet_tests.specs.SheetTests.{place, sheet_tests}
use Rattle.sheet_tests.specs.views.KeptPairs.{code_pair}
use Rattle.decision.specs.Rules.{has_test, tests_where}
use Rattle.decision.proofs.rules.SoundWants.{rule_accepted}
use Rattle.decision.proofs.rules.NearTests.{rules_near}
use Rattle.test_list.specs.views.Numbers.{number_all, Small}
use Rattle.rows.specs.views.Row.{notes_row}
use Rattle.rows.proofs.TestNumbers.{tests_number, places_up}
use Rattle.test_list.proofs.PlaceNumbers.{number_at, number_small}
use Rattle.rows.proofs.RowRight.{row_right}

-- A new table has zeros.
pub zeros : (n p : ℕ) → get_or {A = ℕ} (replicate n 0) p 0 ≡ 0
zeros n p =
    by_cases (dec_lt p n) (λ (h : p < n). get_or-replicate {A = ℕ} n p 0 0 h)
    (λ (h : p < n → ⊥). get_or-eq_default {A = ℕ} (replicate n 0) 0 (omega (arith, length-replicate {A = ℕ} n 0)))

-- A new table has small numbers.
pub new_small : (places : List ℕ) → length places ≤ 64 → Small (number_all places 0 (replicate 680 0))
new_small places few = number_small places 0 (replicate 680 0) (λ p. omega (arith, zeros 680 p)) (omega arith)

module _ (arity : ℕ) (rules : List Patterns) (few : arity ≤ 8) (accepted : All (AcceptedRule arity) rules) where
  module _ (listed codes : List ℕ) (tests : sheet_tests rules ≡ map place listed ++ map code_pair codes)
      (few_tests : length listed + length codes ≤ 64) where
    listed_near : All (λ (p : ℕ). p < 680) listed
    listed_near =
        all_from (λ (p : ℕ). p < 680) listed
        (λ p m.
        rules_near arity rules few accepted (place p)
        (subst (Mem (place p)) (sym tests) (mem_left (map code_pair codes) (mem_map place m))))

    -- The table of the listed places.
    abbrev pub numbers : List ℕ
    numbers = number_all listed 0 (replicate 680 0)

    pub numbered : (t : ℕ) → t < length listed → get_or numbers (get_or listed t 0) 0 ≡ t
    numbered t h =
        let blank = replicate {A = ℕ} 680 0 in
        number_at listed 0 blank (places_up rules listed codes tests)
        (all_map (λ (p : ℕ). p < 680) (λ (p : ℕ). p < length blank) (λ p l. omega (arith, length-replicate {A = ℕ} 680 0)) listed
        listed_near) t h
        ∙ omega arith

    few_tests_lem : length (sheet_tests rules) ≤ 64
    few_tests_lem = omega (arith, tests_number rules listed codes tests)

    -- The row of rule i, off its notes, is the set of its tests.
    pub rule_row
        : (i : ℕ) → i < length rules
        → notes_row numbers (length listed) codes (rule_notes (rule_at rules (suc i))) ≡ tests_where rules (has_test rules i)
    rule_row i h = row_right rules listed codes tests numbers numbered i h (rule_accepted arity rules accepted i h) few_tests_lem

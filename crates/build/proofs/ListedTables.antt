-- From listed tests to what compiling the rules asks, where there is room for their cuts.
use Prim.Native.Nat.{ℕ, ◌+◌, ◌*◌, ◌≤◌}
use mathlib.Core.Path.{◌≡◌, ap, ◌∙◌, subst}
use mathlib.Core.List.{List}
use native.Mathlib.Nat.{mul-le-mul}
use native.Mathlib.Omega.{arith}
use lib.ListN.{length, replicate, length-replicate}
use Rattle.terms.specs.Pattern.{Patterns}
use Rattle.tables.specs.views.Planes.{rules_in, place_tests_in}
use Rattle.cuts.specs.views.Cuts.{part_at}
use Rattle.test_list.specs.views.Numbers.{Small}
use Rattle.test_list.proofs.PlaceNumbers.{number_length}
use Rattle.rows.proofs.SheetRows.{zeros}
use Rattle.rows.proofs.TestsRight.{numbers_small}
use Rattle.compiled.specs.views.Compiling.{Compiling}
use Rattle.build.specs.views.Tabled.{ListedRules}

module _ {arity : ℕ} {b numbers s order : List ℕ} {all : List Patterns} (g : ListedRules arity b numbers s order all) where
  listed_compiling
      : (size : ℕ) → part_at (rules_in s) (place_tests_in s) ≤ size → Compiling arity b numbers s (replicate size 0) order all
  listed_compiling size room = record {
    arguments = g.arguments;
    bytes = g.bytes;
    read = g.read;
    accepted = g.accepted;
    few_rules = omega (arith, g.few_rules);
    listed = g.listed;
    turns = g.turns;
    asked = g.asked;
    no_rows = g.no_rows;
    room = omega (arith, room, length-replicate {A = ℕ} size 0);
    no_cuts = zeros size;
  }

  -- There is room where that was worked out,
  pub small_compiling
      : (size : ℕ) {p r t : ℕ} → r ≡ rules_in s → t ≡ place_tests_in s → p ≡ part_at r t → p ≤ size
      → Compiling arity b numbers s (replicate size 0) order all
  small_compiling size rules tests part h =
      listed_compiling size (subst (λ (x : ℕ). x ≤ size) (part ∙ (λ j. part_at (rules j) (tests j))) h)

  -- and for every sheet in 16,448.
  pub large_compiling : Compiling arity b numbers s (replicate 16448 0) order all
  large_compiling =
      listed_compiling 16448
      (mul-le-mul {n₁ = 1 + 4 * rules_in s} {m₁ = place_tests_in s} {n₂ = 257} {m₂ = 64} (omega (arith, g.few_rules))
      (omega (arith, g.listed.counted.places, g.listed.counted.few)))

  -- How many entries the tables have, and that each number is a test's.
  pub listed_sizes : (length numbers ≡ 680) × Small numbers × (length s ≡ 324)
  listed_sizes =
      let l = g.listed in (
        ap length l.numbers_are ∙ number_length l.places 0 (replicate 680 0) ∙ length-replicate {A = ℕ} 680 0,
        numbers_small arity all g.arguments g.accepted numbers s l,
        l.counted.entries,
      )

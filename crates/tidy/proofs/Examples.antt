-- Tidy sheets computed from the definitions. Assumes nothing.
use Prim.Native.Nat.{ℕ}
use mathlib.Core.Path.{◌≡◌, refl}
use mathlib.Core.List.{[], ◌∷◌}
use Rattle.terms.specs.Pattern.{Patterns, pnil, pcons}
use Rattle.terms.specs.Pattern.{the_series, the_gauged, variable, ranged_variable}
use Rattle.sheet.specs.Sheet.{Sheet}
use Rattle.tidy.specs.TidySheet.{tidy_sheet, tidy_bytes}

-- A sheet of one rule.
abbrev one : ℕ → Patterns → Sheet
one arity rule = record { arity = arity; rules = rule ∷ [] }

-- Only a repeated variable takes a number: 100301 24 00 24 01 24 01.
numbered_from_0
    : tidy_bytes (one 3 (pcons (variable 0) (pcons (variable 1) (pcons (variable 1) pnil))))
    ≡ 0x10 ∷ 3 ∷ 1 ∷ 0x20 ∷ 0x24 ∷ 0 ∷ 0x24 ∷ 0 ∷ []
numbered_from_0 = refl

-- Two of them, by first appearance: 100401 24 09 24 03 24 03 24 09.
by_first_appearance
    : tidy_bytes (one 4 (pcons (variable 9) (pcons (variable 3) (pcons (variable 3) (pcons (variable 9) pnil)))))
    ≡ 0x10 ∷ 4 ∷ 1 ∷ 0x24 ∷ 0 ∷ 0x24 ∷ 1 ∷ 0x24 ∷ 1 ∷ 0x24 ∷ 0 ∷ []
by_first_appearance = refl

-- A tidy sheet may be longer: 100201 24 07 25 07 0001 0009.
range_at_each_place
    : tidy_bytes (one 2 (pcons (variable 7) (pcons (ranged_variable 7 1 9) pnil)))
    ≡ 0x10 ∷ 2 ∷ 1 ∷ 0x25 ∷ 0 ∷ 0 ∷ 1 ∷ 0 ∷ 9 ∷ 0x25 ∷ 0 ∷ 0 ∷ 1 ∷ 0 ∷ 9 ∷ []
range_at_each_place = refl

-- The common part of two ranges at three places: 100301 25 03 0001 0009 25 03 0005 0014 24 03.
common_range
    : tidy_sheet (one 3 (pcons (ranged_variable 3 1 9) (pcons (ranged_variable 3 5 20) (pcons (variable 3) pnil))))
    ≡ one 3 (pcons (ranged_variable 0 5 9) (pcons (ranged_variable 0 5 9) (pcons (ranged_variable 0 5 9) pnil)))
common_range = refl

-- One that stands once: 100101 25 05 0003 0004.
stands_once : tidy_bytes (one 1 (pcons (ranged_variable 5 3 4) pnil)) ≡ 0x10 ∷ 1 ∷ 1 ∷ 0x22 ∷ 0 ∷ 3 ∷ 0 ∷ 4 ∷ []
stands_once = refl

-- "Tidying writes 21" for the series of one symbol, 100101 26 0001 0001,
writes_21 : tidy_bytes (one 1 (pcons (the_series 1 1) pnil)) ≡ 0x10 ∷ 1 ∷ 1 ∷ 0x21 ∷ 0 ∷ 1 ∷ []
writes_21 = refl

-- and a series of more stays: 100101 26 0001 0002.
series_stays : tidy_bytes (one 1 (pcons (the_series 1 2) pnil)) ≡ 0x10 ∷ 1 ∷ 1 ∷ 0x26 ∷ 0 ∷ 1 ∷ 0 ∷ 2 ∷ []
series_stays = refl

-- "Gauge 0 is tidied to 22", 100101 27 00 0001 0002,
writes_22 : tidy_bytes (one 1 (pcons (the_gauged 0 1 2) pnil)) ≡ 0x10 ∷ 1 ∷ 1 ∷ 0x22 ∷ 0 ∷ 1 ∷ 0 ∷ 2 ∷ []
writes_22 = refl

-- and a range on another gauge stays: 100101 27 05 0001 0002.
gauge_stays : tidy_bytes (one 1 (pcons (the_gauged 5 1 2) pnil)) ≡ 0x10 ∷ 1 ∷ 1 ∷ 0x27 ∷ 5 ∷ 0 ∷ 1 ∷ 0 ∷ 2 ∷ []
gauge_stays = refl

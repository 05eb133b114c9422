-- Which case of a switch is followed (document 02, request 4): of those that contain a number or span the narrowest.
use Rattle.std.specs.Prelude.{Bool, true, false, cond, List, [], ◌∷◌}
use Rattle.std.proofs.Math.Option.{Option, some, none}
use Rattle.basics.specs.Order.{pair_before}
use Rattle.decision.specs.Cases.{Case, symbols_case, compound_case, numbers_case}

-- "The one with the highest low, then the lowest high": the first case is narrower than the second. Of runs of ids it says
-- the same, though no two of an accepted switch take one id.
abbrev pub narrower : Case → Case → Bool
narrower (symbols_case l h) (symbols_case x y) = pair_before x h l y
narrower (symbols_case l h) (compound_case b m) = false
narrower (symbols_case l h) (numbers_case x y) = false
narrower (compound_case a n) d = false
narrower (numbers_case l h) (symbols_case x y) = false
narrower (numbers_case l h) (compound_case b m) = false
narrower (numbers_case l h) (numbers_case x y) = pair_before x h l y

-- Of the things that are taken, the one that comes before the others.
abbrev pub better : {A : Type 0} → (A → A → Bool) → Bool → A → Option A → Option A
better before false x others = others
better before true x none = some x
better before true x (some y) = some (cond (before y x) y x)

abbrev pub best : {A : Type 0} → (A → Bool) → (A → A → Bool) → List A → Option A
best taken before [] = none
best taken before (x ∷ xs) = better before (taken x) x (best taken before xs)

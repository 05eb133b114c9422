-- A piece with two spans, worked out: what the code lists off its cells, and what is listed on the nodes walked. Rule 1 wants a
-- number from 5 to 9, then a symbol; rule 2 one from 100 to 200, then one from 4 to 6. The piece holds a number from 3 to 7, then
-- one from 5 to 8: each span lies partly inside the range of one rule, which the other place contradicts.
use Prim.Native.Nat.{ℕ}
use mathlib.Core.Path.{◌≡◌, refl}
use mathlib.Core.List.{List, [], ◌∷◌}
use Rattle.masks.specs.Mask.{has, mask_of}
use Rattle.basics.specs.Lists.{any_below}
use Rattle.terms.specs.Term.{Terms, numbers, cons, nil}
use Rattle.terms.specs.Pattern.{Patterns, pnil, pcons, the_range, the_symbol}
use Rattle.sheet_tests.specs.SheetTests.{sheet_tests}
use Rattle.piece.specs.views.LaidOut.{empty_cells, piece_cells}
use Rattle.decision.specs.Key.{suspend_node}
use Rattle.decision.specs.Node.{Node, end, switch}
use Rattle.decision.specs.Walk.{suspend_waits}
use Rattle.path.specs.views.Following.{met_codes}
use Rattle.rule_masks.specs.views.RuleMasks.{notes_masks}
use Rattle.waiting.specs.views.OpenTests.{met_waits}
use Rattle.waiting.specs.views.SpanTests.{span_list}

abbrev rules : List Patterns
rules = pcons (the_range 5 9) (pcons (the_symbol 1) pnil) ∷ pcons (the_range 100 200) (pcons (the_range 4 6) pnil) ∷ []

abbrev piece : Terms
piece = cons (numbers 3 7) (cons (numbers 5 8) nil)

-- Two places asked one after the other, then suspend.
abbrev asking : ℕ → ℕ → List (Node ℕ)
asking p q = switch p [] 1 1 ∷ switch q [] 2 2 ∷ end suspend_node ∷ []

abbrev walked : List ℕ
walked = 0 ∷ 1 ∷ 2 ∷ []

abbrev listed : List (Node ℕ) → ℕ
listed nodes = span_list (sheet_tests rules) (piece_cells piece) rules (met_codes nodes walked)

-- Asked first, the first place is listed for rule 1; rule 2 is then no longer live, and the second is not listed.
pub first_then_second : listed (asking 0 85) ≡ 1
unfolding span_list met_waits has mask_of notes_masks empty_cells
first_then_second = refl

pub first_then_second_waits : suspend_waits rules (asking 0 85) piece walked ≡ 1
unfolding mask_of any_below
first_then_second_waits = refl

-- Asked the other way round, it is the second place, for rule 2.
pub second_then_first : listed (asking 85 0) ≡ 2
unfolding span_list met_waits has mask_of notes_masks empty_cells
second_then_first = refl

pub second_then_first_waits : suspend_waits rules (asking 85 0) piece walked ≡ 2
unfolding mask_of any_below
second_then_first_waits = refl

-- The walks of the marked cases over the graphs of their sheets, computed: "these four answers", with their edges and wait lists,
-- and the five for the sheet of numbers.
use Prim.Native.Nat.{ℕ}
use mathlib.Core.Path.{◌≡◌, refl}
use mathlib.Core.List.{List}
use mathlib.Core.Option.{Option, some, none}
use Rattle.masks.specs.Mask.{has, mask_of, members}
use Rattle.basics.specs.Lists.{All, any_below}
use Rattle.terms.specs.Answer.{Answer}
use Rattle.terms.specs.Marked.{MarkedWalk, MarkedCase, marked_cases}
use Rattle.decision.specs.Node.{Node}
use Rattle.decision.specs.Graph.{graph_of}
use Rattle.decision.specs.Walk.{Walk, walk}
use Rattle.records.specs.Reading.{refused, Reading, took}

-- An answer, with edges and wait list where document 01 gives them; none where nothing is answered.
pub record Told : Type 0 where
  pub answer : Option Answer
  pub walked : Option MarkedWalk

abbrev pub walked_if : Option MarkedWalk → Walk → Option MarkedWalk
walked_if none w = none
walked_if (some given) w = some (record { edges = w.edges; waits = w.waits })

abbrev pub told_by : Option MarkedWalk → Reading Walk → Told
told_by given (took a w) = record { answer = some w.answer; walked = walked_if given w }
told_by given (refused q) = record { answer = none; walked = none }

abbrev pub walk_in : MarkedCase → Option (List (Node ℕ)) → Told
walk_in x none = record { answer = none; walked = none }
walk_in x (some nodes) = told_by x.walked (walk x.rules nodes x.piece)

-- The walk of a marked case, over the graph of its sheet, is as marked.
abbrev pub AsMarked : MarkedCase → Type 0
AsMarked x = walk_in x (graph_of x.rules) ≡ record { answer = some x.answer; walked = x.walked }

pub marked_walks : All AsMarked marked_cases
unfolding has mask_of members any_below
marked_walks = (refl, (refl, (refl, (refl, (refl, (refl, (refl, (refl, (refl, tt)))))))))

-- What a build that is not refused wrote: the graph of an accepted sheet.
use Prim.Native.Nat.{ℕ}
use mathlib.Core.Path.{◌≡◌, refl, ap, ◌∙◌}
use mathlib.Core.Bool.{Bool, true, false}
use mathlib.Core.List.{List}
use mathlib.Core.Option.{Option, some, none}
use native.Mathlib.Omega.{arith}
use lib.Dec.{leb}
use lib.ListN.{length}
use borrow.Author.Tests.{leb-true, le-leb}
use Rattle.records.specs.Reading.{Reading, took, refused}
use Rattle.terms.specs.Pattern.{Patterns}
use Rattle.sheet.specs.Sheet.{Sheet}
use Rattle.sheet_tests.specs.CheckSheet.{accept_sheet}
use Rattle.decision.specs.Node.{Node}
use Rattle.decision.specs.Graph.{graph_in}
use Rattle.accepted.proofs.Named.{Named}
use Rattle.accepted.proofs.Questions.{sheet_named}
use Rattle.order.specs.Asking.{Asking, read_asking}
use Rattle.order.proofs.Questions.{asking_named}
use Rattle.build.specs.BuildOutcome.{written_if, graph_written, sheet_built, outcome_in}
use Rattle.build.specs.Building.{bytes_of, Building}
use Rattle.accepted.specs.Questions.{Between, SheetQuestion}

module _ (asking : Asking) (s buffer : List ℕ) where
  -- Where a graph is built so much is handed back and written,
  pub built_outcome
      : (b : Building asking s buffer)
      → outcome_in asking s buffer ≡ written_if true (length b.nodes) (bytes_of b.sheet b.nodes) buffer
  unfolding outcome_in
  built_outcome b =
      let sheet = b.sheet in
      (λ i. sheet_built (b.accepted i) (b.ordered i) buffer)
      ∙ ap (λ (g : Option (List (Node ℕ))). graph_written sheet.arity (length sheet.rules) g buffer) b.graph
      ∙ ap (λ (x : Bool). written_if x (length b.nodes) (bytes_of sheet b.nodes) buffer)
      (le-leb (length (bytes_of sheet b.nodes)) (length buffer) b.fits)

  module _ (sheet : Sheet) (k : ℕ) (a : accept_sheet s ≡ took k sheet) (order : List Patterns → List ℕ) (n : ℕ)
      (o : read_asking asking ≡ took n order) where
    fit
        : (nodes : List (Node ℕ)) → graph_in sheet.rules (order sheet.rules) ≡ some nodes
        → (x : Bool) → leb (length (bytes_of sheet nodes)) (length buffer) ≡ x
        → (written_if x (length nodes) (bytes_of sheet nodes) buffer).values.refusal ≡ 0 → Building asking s buffer
    fit nodes g true h v =
        record {
          sheet = sheet;
          taken = k;
          accepted = a;
          order = order;
          table_taken = n;
          ordered = o;
          nodes = nodes;
          graph = g;
          fits = leb-true (length (bytes_of sheet nodes)) (length buffer) h;
        }
    fit nodes g false h v = absurd (omega arith)

    grown
        : (g : Option (List (Node ℕ))) → graph_in sheet.rules (order sheet.rules) ≡ g
        → (graph_written sheet.arity (length sheet.rules) g buffer).values.refusal ≡ 0 → Building asking s buffer
    grown none g v = absurd (omega arith)
    grown (some nodes) g v = fit nodes g (leb (length (bytes_of sheet nodes)) (length buffer)) refl v

  -- and where no refusal is handed back a graph is built.
  pub outcome_built : (outcome_in asking s buffer).values.refusal ≡ 0 → Building asking s buffer
  unfolding outcome_in
  outcome_built e = read (accept_sheet s) refl (sheet_named s) e
    where
      by
          : (sheet : Sheet) (k : ℕ) → accept_sheet s ≡ took k sheet → (r : Reading (List Patterns → List ℕ)) → read_asking asking ≡ r
          → Named (Between 28 30) r → (sheet_built (took k sheet) r buffer).values.refusal ≡ 0 → Building asking s buffer
      by sheet k a (took n order) o named v = grown sheet k a order n o (graph_in sheet.rules (order sheet.rules)) refl v
      by sheet k a (refused q) o named v = absurd (omega (arith, named.0))

      read
          : (r : Reading Sheet) → accept_sheet s ≡ r → Named SheetQuestion r
          → (sheet_built r (read_asking asking) buffer).values.refusal ≡ 0 → Building asking s buffer
      read (took k sheet) a n v = by sheet k a (read_asking asking) refl (asking_named asking) v
      read (refused q) a n v = absurd (omega (arith, n.0))

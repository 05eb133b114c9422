-- Laws of the lines after a build: what is printed in all, and how the next piece was read.
use Prim.Native.Nat.{ℕ, ◌+◌, ◌≤◌}
use mathlib.Core.Path.{◌≡◌, ap, subst}
use mathlib.Core.List.{List, ◌++◌}
use native.Mathlib.Omega.{arith}
use lib.ListN.{length, get_or, drop}
use lib.Seq.{get_or-drop}
use Rattle.records.specs.Fields.{IsByte}
use Rattle.records.specs.Writing.{splice}
use Rattle.tables.specs.views.Planes.{tests_in}
use Rattle.sheet_tests.specs.CheckSheet.{SheetValues}
use Rattle.lines.specs.Lines.{sheet_line}
use Rattle.lines.proofs.Wrote.{Wrote, wrote_as, wrote_behind}
use Rattle.walk.specs.Walking.{walk_reply}
use Rattle.walk.specs.declared.Sizes.{Sizes}
use Rattle.std.specs.Prelude.{Result, Ok, Err}
use Rattle.records.specs.declared.refusal.Refusal.{Refusal}
use Rattle.walk_all.specs.views.Known.{Known, OpenedAs}
use Rattle.piece_lines.specs.BuiltLines.{piece_lines, built_lines}
use Rattle.piece_lines.proofs.SheetLine.{Known-values}
use Rattle.piece_lines.proofs.Turns.{from_start}

-- The lines of the pieces behind the line of the sheet are all that is to be printed.
pub all_printed
    : {s g starts kept : List ℕ} {sizes : Sizes} → Known s g starts kept sizes
    → (nodes tests : ℕ) → tests ≡ tests_in kept
    → (input xs : List ℕ) {line : ℕ} {ys : List ℕ} → Wrote xs 0 (sheet_line sizes.arity sizes.rules tests nodes) line ys
    → line ≤ length xs
    → {end : ℕ} {zs : List ℕ} → Wrote ys line (piece_lines (walk_reply s g) (length input) 1 input) end zs
    → (end ≡ length (built_lines s g nodes input)) × (zs ≡ splice xs 0 (built_lines s g nodes input))
all_printed {s} {g} {starts} {kept} {sizes} known nodes tests counted input xs {line} {ys} first fits {end} {zs} w =
    let values = Known-values known.checked.sheet counted in
    let lines = piece_lines (walk_reply s g) (length input) 1 input in
    let is = ap (λ (x : SheetValues). sheet_line x.arity x.rules x.tests nodes ++ lines) values in
    from_start xs (built_lines s g nodes input)
    (wrote_as xs 0 is
    (wrote_behind xs 0 (sheet_line sizes.arity sizes.rules tests nodes) lines (omega (arith, first.0)) first w))

-- What is behind a position is made of bytes too.
pub bytes_behind
    : (from : ℕ) (input : List ℕ) → ((i : ℕ) → IsByte (get_or input i 0)) → (i : ℕ) → IsByte (get_or (drop from input) i 0)
bytes_behind from input bytes i =
    let at : ℕ = from + i in omega (arith, bytes at, get_or-drop from input i 0)

-- What is known where the graph is accepted for the sheet.
pub known_ready
    : (s g starts kept : List ℕ) {opened : Result Sizes Refusal} {sizes : Sizes} → OpenedAs s g starts kept opened
    → opened ≡ Ok sizes
    → Known s g starts kept sizes
known_ready s g starts kept h e = (subst (OpenedAs s g starts kept) e h).known

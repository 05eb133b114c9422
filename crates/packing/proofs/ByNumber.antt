-- A result with the number in its refusal's place has the values of the result itself.
use Prim.Native.Nat.{ℕ}
use mathlib.Core.Path.{◌≡◌, ap}
use mathlib.Core.List.{List}
use Rattle.std.specs.Prelude.{Result, Ok, Err}
use Rattle.records.specs.Refusals as records
use Rattle.records.specs.declared.refusal.Refusal.{Refusal}
use Rattle.sheet_tests.specs.CheckSheet as sheets
use Rattle.sheet_tests.specs.declared.SheetSizes.{SheetSizes}
use Rattle.piece.specs.CheckPiece as pieces
use Rattle.plain.specs.Plain as plain
use Rattle.plain.specs.declared.Answer.{Answer}
use Rattle.graph_check.specs.CheckGraph as graphs
use Rattle.graph_check.specs.Rewritten as rewritten
use Rattle.tidying.specs.views.HandedBack as tidied
use Rattle.track.specs.views.HandedBack as ordered
use Rattle.build.specs.BuildOutcome as build
use Rattle.build.specs.declared.Built.{Built}
use Rattle.walk.specs.Walking as walk
use Rattle.walk.specs.declared.Walk.{Walk}
use Rattle.walk_all.specs.views.Turns as turns
use Rattle.walk_all.specs.declared.WalkedAll.{WalkedAll}
use Rattle.packing.specs.views.Numbered.{numbered, refusal_in, sheet_check_values, piece_check_values, graph_check_values}
use Rattle.packing.specs.views.Numbered.{plain_values, walked_values, built_values, written_left, ordered_left, walked_all_left}

-- The refusal's number alone,
pub refusal_numbered
    : {A : Type 0} (r : Result A Refusal) {n : Result A ℕ} → n ≡ numbered r → refusal_in n ≡ records.refusal_in r
refusal_numbered (Ok x) e = ap refusal_in e
refusal_numbered (Err q) e = ap refusal_in e

-- the checks,
pub sheet_numbered
    : (r : Result SheetSizes Refusal) {n : Result SheetSizes ℕ} → n ≡ numbered r
    → sheet_check_values n ≡ sheets.sheet_check_values r
sheet_numbered (Ok x) e = ap sheet_check_values e
sheet_numbered (Err q) e = ap sheet_check_values e

pub piece_numbered
    : (r : Result ℕ Refusal) {n : Result ℕ ℕ} → n ≡ numbered r → piece_check_values n ≡ pieces.piece_check_values r
piece_numbered (Ok x) e = ap piece_check_values e
piece_numbered (Err q) e = ap piece_check_values e

pub graph_numbered
    : (r : Result ℕ Refusal) {n : Result ℕ ℕ} → n ≡ numbered r → graph_check_values n ≡ graphs.graph_check_values r
graph_numbered (Ok x) e = ap graph_check_values e
graph_numbered (Err q) e = ap graph_check_values e

-- the answers,
pub plain_numbered
    : (r : Result Answer Refusal) {n : Result Answer ℕ} → n ≡ numbered r → plain_values n ≡ plain.plain_values r
plain_numbered (Ok x) e = ap plain_values e
plain_numbered (Err q) e = ap plain_values e

pub walk_numbered
    : (r : Result Walk Refusal) {n : Result Walk ℕ} → n ≡ numbered r → walked_values n ≡ walk.walked_values r
walk_numbered (Ok x) e = ap walked_values e
walk_numbered (Err q) e = ap walked_values e

-- and the writers, whatever the buffer.
pub build_numbered
    : (r : Result Built Refusal) {n : Result Built ℕ} → n ≡ numbered r → built_values n ≡ build.built_values r
build_numbered (Ok x) e = ap built_values e
build_numbered (Err q) e = ap built_values e

module _ (buffer : List ℕ) where
  pub rewritten_numbered
      : (r : Result ℕ Refusal) {n : Result ℕ ℕ} → n ≡ numbered r → written_left n buffer ≡ rewritten.left_by r buffer
  rewritten_numbered (Ok x) e = ap (λ (n : Result ℕ ℕ). written_left n buffer) e
  rewritten_numbered (Err q) e = ap (λ (n : Result ℕ ℕ). written_left n buffer) e

  pub tidied_numbered
      : (r : Result ℕ Refusal) {n : Result ℕ ℕ} → n ≡ numbered r → written_left n buffer ≡ tidied.left_by r buffer
  tidied_numbered (Ok x) e = ap (λ (n : Result ℕ ℕ). written_left n buffer) e
  tidied_numbered (Err q) e = ap (λ (n : Result ℕ ℕ). written_left n buffer) e

  pub ordered_numbered
      : (r : Result Unit Refusal) {n : Result Unit ℕ} → n ≡ numbered r → ordered_left n buffer ≡ ordered.left_by r buffer
  ordered_numbered (Ok x) e = ap (λ (n : Result Unit ℕ). ordered_left n buffer) e
  ordered_numbered (Err q) e = ap (λ (n : Result Unit ℕ). ordered_left n buffer) e

  pub walked_all_numbered
      : (r : Result WalkedAll Refusal) {n : Result WalkedAll ℕ} → n ≡ numbered r
      → walked_all_left n buffer ≡ turns.left_by r buffer
  walked_all_numbered (Ok x) e = ap (λ (n : Result WalkedAll ℕ). walked_all_left n buffer) e
  walked_all_numbered (Err q) e = ap (λ (n : Result WalkedAll ℕ). walked_all_left n buffer) e

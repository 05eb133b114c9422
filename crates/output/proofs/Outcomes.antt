-- What the answer of a build says of the whole output.
use Prim.Native.Nat.{ℕ, zero, suc, ◌≤◌, min}
use mathlib.Core.Path.{◌≡◌, sym, ap, ◌∙◌}
use mathlib.Core.Bool.{Bool, true, false, cond}
use mathlib.Core.List.{List, [], ◌∷◌}
use native.Mathlib.Omega.{arith}
use lib.Dec.{eqb}
use lib.ListN.{length, take, replicate}
use lib.Seq.{take_at}
use borrow.Author.Tests.{ne_eqb}
use Rattle.records.specs.Fields.{IsByte}
use Rattle.records.specs.Reading.{took}
use Rattle.basics.specs.Lists.{All}
use Rattle.sheet.specs.Sheet.{Sheet}
use Rattle.accepted.proofs.Acceptance.{sheet_accepted_lem}
use Rattle.decision.specs.Node.{Node}
use Rattle.decision.proofs.built.BuiltGraph.{built_graph_accepted}
use Rattle.order.specs.Asking.{lowest}
use Rattle.graph_check.specs.CheckGraph.{graph_reading}
use Rattle.graph_check.proofs.GraphBytes.{written_brought}
use Rattle.lines.specs.Lines.{refused_line}
use Rattle.piece_lines.specs.BuiltLines.{built_lines}
use Rattle.output.specs.Listing.{most_bytes, lines_after, listed, listing_bytes}
use Rattle.build.specs.declared.Built.{Built}
use Rattle.std.specs.Prelude.{Result, Ok, Err}
use Rattle.records.specs.Refusals.{number}
use Rattle.records.specs.declared.refusal.Refusal.{Refusal}
use Rattle.build.specs.BuildOutcome.{BuildOutcome, built_values, written_if, build_outcome}
use Rattle.build.specs.Building.{Building, bytes_of}
use Rattle.build.proofs.BuiltBytes.{built_outcome, outcome_built}
use Rattle.piece_lines.specs.views.GraphFor.{GraphFor}
use Rattle.output.proofs.Cuts.{cut_take}

-- What a build hands back and leaves in its buffer.
abbrev pub outcome : Result Built Refusal → List ℕ → BuildOutcome
outcome r g = record { values = built_values r; buffer = g }

-- The graph's buffer before the build.
abbrev pub empty_graph : List ℕ
empty_graph = replicate most_bytes 0

-- A build that is refused is the whole output: no question has the number 0, and a graph has bytes.
pub built_refused
    : (s input : List ℕ) (r : Refusal) {g : List ℕ} → outcome (Err r) g ≡ build_outcome s empty_graph
    → refused_line (number r) ≡ listed s input
unfolding listed
built_refused s input r {g = g} e = go (number r) e
  where
    go
        : (q : ℕ)
        → ◌≡◌ {A = BuildOutcome} (record { values = record { refusal = q; nodes = 0; bytes = 0 }; buffer = g })
        (build_outcome s empty_graph)
        → refused_line q ≡ listed s input
    go zero e =
        let made = outcome_built lowest s empty_graph (sym (ap (λ (x : BuildOutcome). x.values.refusal) e)) in
        absurd (omega (arith, ap (λ (x : BuildOutcome). x.values.bytes) (e ∙ built_outcome lowest s empty_graph made)))
    go (suc q) e =
        let asked : eqb (suc q) 0 ≡ false = ne_eqb (suc q) 0 (λ (z : suc q ≡ 0). omega arith) in
        sym (ap (λ (b : Bool). cond b (built_lines s (take 0 g) 0 input) (refused_line (suc q))) asked) ∙ ap (lines_after s input) e

-- The lines after a build that is not refused are the whole output.
pub built_written
    : (s input : List ℕ) {b : Built} {g : List ℕ} → outcome (Ok b) g ≡ build_outcome s empty_graph
    → built_lines s (take b.bytes g) b.nodes input ≡ listed s input
unfolding listed
built_written s input e = ap (lines_after s input) e

-- A build that is not refused leaves the graph of its sheet at the front of its buffer:
module _ (s buf : List ℕ) {b : Built} {g : List ℕ} (e : outcome (Ok b) g ≡ build_outcome s buf) where
  made : Building lowest s buf
  made = outcome_built lowest s buf (sym (ap (λ (x : BuildOutcome). x.values.refusal) e))

  abbrev sheet : Sheet
  sheet = made.sheet

  abbrev nodes : List (Node ℕ)
  nodes = made.nodes

  is : outcome (Ok b) g ≡ written_if true (length nodes) (bytes_of sheet nodes) buf
  is = e ∙ built_outcome lowest s buf made

  many : b.nodes ≡ length nodes
  many = ap (λ (x : BuildOutcome). x.values.nodes) is

  long : b.bytes ≡ length (bytes_of sheet nodes)
  long = ap (λ (x : BuildOutcome). x.values.bytes) is

  graph : take b.bytes g ≡ bytes_of sheet nodes
  graph = ap (take b.bytes) (ap (λ (x : BuildOutcome). x.buffer) is) ∙ take_at (bytes_of sheet nodes) _ b.bytes (sym long)

  -- it fits,
  pub built_fits : b.bytes ≤ length buf
  built_fits = omega (arith, made.fits, long)

  -- and the check accepts it for the sheet.
  pub built_accepted : All IsByte s → GraphFor s (take b.bytes g) b.nodes
  built_accepted are_bytes =
      let (ok, same, all) = (sheet_accepted_lem s are_bytes made.taken sheet).0 made.accepted in
      let accepted = built_graph_accepted sheet ok (made.order sheet.rules) nodes made.graph in
      record {
        nodes = nodes;
        read =
            (λ i. graph_reading (sym same i) (graph i)) ∙ written_brought sheet ok nodes accepted
            ∙ ap (λ (l : List ℕ). took (length l) nodes) (sym graph);
        count_is = sym many;
      }

-- Inputs that are cut.
pub bytes_take : (k : ℕ) (s : List ℕ) → All IsByte s → All IsByte (take k s)
bytes_take zero s h = tt
bytes_take (suc k) [] h = tt
bytes_take (suc k) (b ∷ s) h = (h.0, bytes_take k s h.1)

pub cut_both
    : (s input : List ℕ) {j k : ℕ} → j ≡ min (length s) most_bytes → k ≡ min (length input) most_bytes
    → listed (take j s) (take k input) ≡ listing_bytes s input
cut_both s input e f i = listed (cut_take s most_bytes e i) (cut_take input most_bytes f i)

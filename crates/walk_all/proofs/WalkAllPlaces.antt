-- What is known in the turns of `walk_all`: in each the results so far stand at the front of the buffer.
use Prim.Native.Nat.{ℕ, ◌+◌, ◌-◌, ◌*◌, ◌/◌, ◌≤◌, min}
use mathlib.Core.Path.{◌≡◌, ap, ◌∙◌}
use mathlib.Core.List.{List, []}
use native.Mathlib.Omega.{arith}
use native.Mathlib.Nat.{min-le_left, min-le_right}
use lib.ListN.{length, get_or, take, drop}
use lib.Seq.{get_or-drop}
use Rattle.records.specs.Fields.{IsByte}
use Rattle.records.specs.Reading.{Reading, map_reading}
use Rattle.records.proofs.Parts.{rest}
use Rattle.piece.specs.declared.Prefix.{Prefix}
use Rattle.piece.specs.ReadPiece.{read_prefix}
use Rattle.piece.specs.views.LaidOut.{lay_out, prefix_read, prefix_bytes}
use Rattle.decision.specs.Walk.{Walk}
use Rattle.walk.specs.declared.Sizes.{Sizes}
use Rattle.walk.specs.Walking.{walk_reply}
use Rattle.walk_all.specs.WalkAll.{most_results, result_length, walk_all}
use Rattle.std.specs.Prelude.{Result, Ok, Err}
use Rattle.records.specs.declared.refusal.Refusal.{Refusal}
use Rattle.walk_all.specs.views.Known.{ReadyAs}
use Rattle.walk_all.specs.views.Turns.{left_by}
use Rattle.walk_all.proofs.Progress.{Progress, whole, rest_from, at_end_lem, all_walked}

-- n results are written, and there is room for so many.
module _ (buffer : List ℕ) {room : ℕ} (rooms : room ≡ min (length buffer / result_length) most_results) where
  pub few : (room ≤ most_results) × (16 * room ≤ length buffer)
  few =
      let least = min-le_left (length buffer / result_length) most_results in
      let most = min-le_right (length buffer / result_length) most_results in
      (omega (arith, rooms, most), omega (arith, rooms, least))

  -- The graph is accepted for the sheet.
  module _ {sheet graph starts kept : List ℕ} {sizes : Sizes} (ready : ReadyAs sheet graph starts kept sizes)
      (pieces : List ℕ) where
    abbrev reply : List ℕ → Reading Walk
    reply = walk_reply sheet graph

    pub all_done : whole reply pieces buffer room ≡ walk_all sheet graph pieces buffer
    all_done = all_walked sheet graph pieces buffer rooms ready.read

    pub ended
        : {n from : ℕ} {results : List ℕ} → Progress reply pieces buffer room n from results
        → rest_from reply pieces buffer room n from ≡ []
        → left_by (Ok (record { results = n; bytes = from })) results ≡ walk_all sheet graph pieces buffer
    ended progress none = at_end_lem reply pieces buffer room progress none ∙ all_done

-- How the piece that comes next was read.
module _ (pieces : List ℕ) (from : ℕ) where
  pub input_bytes : ((i : ℕ) → IsByte (get_or pieces i 0)) → (i : ℕ) → IsByte (get_or (drop from pieces) i 0)
  input_bytes all i =
      let at : ℕ = from + i in
      omega (arith, all at, get_or-drop from pieces i 0)

  abbrev part : List ℕ
  part = take (length pieces - from) (drop from pieces)

  module _ (cells : List ℕ) (prefix : Result Prefix Refusal) where
    pub prefix_told
        : prefix_read cells prefix ≡ map_reading lay_out (read_prefix part)
        → prefix_read cells prefix ≡ map_reading lay_out (read_prefix (drop from pieces))
    prefix_told e = e ∙ ap (λ (l : List ℕ). map_reading lay_out (read_prefix l)) (rest pieces from)

    pub prefix_there : prefix_bytes prefix ≤ length part → prefix_bytes prefix ≤ length (drop from pieces)
    prefix_there h = omega (arith, h, ap length (rest pieces from))

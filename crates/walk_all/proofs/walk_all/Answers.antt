-- `walk_all` meets its contract: in each turn the results so far stand at the front of the buffer.
use Prim.Native.Nat.{ℕ, ◌+◌, ◌-◌, ◌*◌, ◌≤◌}
use mathlib.Core.Path.{◌≡◌, refl, ap, sym, subst, ◌∙◌}
use mathlib.Core.List.{List}
use native.Mathlib.Omega.{arith}
use lib.ListN.{length, get_or, drop, length-drop}
use Rattle.records.specs.Fields.{IsByte}
use Rattle.records.specs.Reading.{Reading, map_reading}
use Rattle.piece.specs.declared.Prefix.{Prefix}
use Rattle.piece.specs.ReadPiece.{read_prefix}
use Rattle.piece.specs.views.LaidOut.{lay_out, prefix_read, prefix_bytes, UsedTo, used_by}
use Rattle.piece.proofs.Emptying.{none_used}
use Rattle.decision.specs.Walk.{Walk}
use Rattle.walk.specs.Walking.{walk_reply, walked_reading}
use Rattle.walk_all.specs.WalkAll.{most_results, most_taken, piece_then, pieces_in}
use Rattle.walk_all.specs.declared.First.{First}
use Rattle.walk_all.specs.declared.Turn.{Turn}
use Rattle.std.specs.Prelude.{Result, Ok, Err}
use Rattle.std.proofs.lemmas.Result.{err_from_is_err_and}
use Rattle.records.specs.declared.refusal.Refusal.{Refusal}
use Rattle.walk_all.specs.declared.WalkedAll.{WalkedAll}
use Rattle.walk_all.specs.views.Known.{OpenedAs, ReadyAs}
use Rattle.walk_all.specs.views.FirstPiece.{first_reply, first_of, first_made}
use Rattle.walk_all.specs.views.Turns.{turned, left_by}
use Rattle.walk_all.proofs.FirstMade.{Right, used_same, some_piece, used_read, walked_right, other_right}
use Rattle.walk_all.proofs.Pieces.{pieces_roomless, pieces_none, pieces_turn}
use Rattle.walk_all.proofs.Progress.{at_start, at_last, at_piece, all_refused}
use Rattle.walk_all.proofs.Turns.{told, told_full, told_last, Told-more, within_more, more_read}
use Rattle.walk_all.proofs.WalkAllPlaces.{few, all_done, ended, input_bytes, prefix_told, prefix_there}
use Rattle.walk_all.proofs.walk_all.Goals as goal
use Rattle.walk_all.proofs.walk_all.Goals.{After-put_first-turn, In-More, then-has_arity, else-has_arity}

abbrev taken : ℕ → ℕ → WalkedAll
taken n bytes = record { results = n; bytes = bytes }

-- How the walk of the piece that comes next ended,
module _ (c : After-put_first-turn) where
  abbrev pieces : List ℕ
  pieces = c.args.pieces.now

  abbrev buffer : List ℕ
  buffer = c.args.results.now

  abbrev reply : List ℕ → Reading Walk
  reply = walk_reply c.args.sheet.now c.args.graph.now

  abbrev room : ℕ
  room = c.room_for-room.result

  abbrev n : ℕ
  n = c.loop-n.n

  abbrev from : ℕ
  from = c.loop-n.from

  abbrev input : List ℕ
  input = drop from pieces

  abbrev cells_read : List ℕ
  cells_read = c.read_prefix-prefix.new.cells

  abbrev prefix : Result Prefix Refusal
  prefix = c.read_prefix-prefix.result

  abbrev left : ℕ
  left = most_taken - from

  abbrev more : ℕ → List (Reading (List ℕ))
  more k = pieces_in (room - n - 1) (left - k) (drop k input)

  ready : ReadyAs c.args.sheet.now c.args.graph.now c.open_graph.new.starts c.open_graph.new.kept c.in_ok-sizes.sizes
  ready = subst (OpenedAs _ _ _ _) c.in_ok-sizes.was c.open_graph.ensures.0

  bytes : (i : ℕ) → IsByte (get_or input i 0)
  bytes = input_bytes pieces from (λ i. omega (arith, c.type_inv.pieces i))

  read : prefix_read cells_read prefix ≡ map_reading lay_out (read_prefix input)
  read = prefix_told pieces from cells_read prefix c.read_prefix-prefix.ensures.0

  there : prefix_bytes prefix ≤ length input
  there = prefix_there pieces from cells_read prefix c.read_prefix-prefix.ensures.1

  first_right : Right input cells_read bytes ready.known prefix c.if-has_arity.walk
  first_right =
      let arity = sym c.has_arity.ensures in
      elim c.if-has_arity.branch [
        | then-has_arity w ↦
            walked_right input cells_read bytes ready.known prefix c.if-has_arity.walk read there
            (arity ∙ w.if-has_arity.true)
            (λ t p k. ap walked_reading w.walk-is ∙ w.walk_checked-walk.ensures.result_value t p k)
        | else-has_arity w ↦
            other_right input cells_read bytes ready.known prefix c.if-has_arity.walk read there
            (arity ∙ w.if-has_arity.false) w.walk-is
      ]

  first : pieces_in (room - n) left input ≡ piece_then input left more (read_prefix input)
  first =
      pieces_turn (room - n) left input (omega (arith, c.loop-n-test.true))
      (omega (arith, c.loop-n.invariant.0, c.if-from-pieces.false, length-drop from pieces))

  room_few : (room ≤ most_results) × (16 * room ≤ length buffer)
  room_few = few buffer c.room_for-room.ensures

  fits : 16 * n + 16 ≤ length buffer
  fits = omega (arith, room_few.1, c.loop-n-test.true)

  put_told
      : {t : Turn} → c.put_first-turn.result ≡ t
      → told t c.put_first-turn.new.out ≡ turned c.loop-n.results (16 * n) left (first_of (first_made prefix c.if-has_arity.walk))
  put_told e =
      sym (ap (λ (t : Turn). told t c.put_first-turn.new.out) e)
      ∙ c.put_first-turn.ensures
      ∙ ap (λ (f : Result (First Refusal) Refusal). turned c.loop-n.results (16 * n) left (first_of f)) c.first_of.ensures

  turn_told
      : {t : Turn} → c.put_first-turn.result ≡ t
      → told t c.put_first-turn.new.out ≡ turned c.loop-n.results (16 * n) left (first_reply reply input)
  turn_told e = put_told e ∙ ap (turned c.loop-n.results (16 * n) left) first_right.0

  -- and where a piece was read: its bytes may still be taken, and they are there.
  module _ {k : ℕ} (e : c.put_first-turn.result ≡ Turn.More k) where
    inside : (from + k ≤ length pieces) × (from + k ≤ most_taken)
    inside =
        let (next, may, wrote) = Told-more reply input c.loop-n.results (16 * n) left more (turn_told e) in
        let within =
        within_more c.loop-n.results (16 * n) left (first_made prefix c.if-has_arity.walk) first_right.1 (put_told e) in
        (omega (arith, within, length-drop from pieces, c.loop-n.invariant.0), omega (arith, may, c.loop-n.invariant.1))

    -- The cells behind its arguments are empty.
    used_next : (used_by prefix ≤ 680) × UsedTo (used_by prefix) cells_read
    used_next =
        let (x, e) = more_read c.loop-n.results (16 * n) left prefix c.if-has_arity.walk (put_told e) in
        used_read input cells_read bytes prefix read e

  -- The notes are as many as before.
  notes_there : length c.if-has_arity.notes ≡ 680
  notes_there =
      elim c.if-has_arity.branch [
        | then-has_arity w ↦ ap length w.notes-is ∙ w.walk_checked-walk.ensures.notes_len
        | else-has_arity w ↦ ap length w.notes-is ∙ c.loop-n.invariant.4
      ]

pub loop-n-init : goal.loop-n-init
loop-n-init c =
    let a = c.args in (
      omega arith,
      omega arith,
      refl,
      at_start (walk_reply a.sheet.now a.graph.now) a.pieces.now a.results.now c.room_for-room.result,
      c.open_graph.ensures.1,
      omega arith,
      none_used refl,
    )

pub returns-then-from-pieces : goal.returns-then-from-pieces
returns-then-from-pieces c =
    let a = c.args in
    let l = c.loop-n in
    let ready : ReadyAs a.sheet.now a.graph.now c.open_graph.new.starts c.open_graph.new.kept c.in_ok-sizes.sizes =
    subst (OpenedAs _ _ _ _) c.in_ok-sizes.was c.open_graph.ensures.0 in
    ap (λ (x : WalkedAll). left_by (Ok x) l.results) c.walked.ensures
    ∙ ended a.results.now c.room_for-room.ensures ready a.pieces.now l.invariant.3
    (pieces_none (c.room_for-room.result - l.n) (most_taken - l.from) (drop l.from a.pieces.now)
    (omega (arith, c.if-from-pieces.true, length-drop l.from a.pieces.now)))

pub read_prefix-prefix-requires : goal.read_prefix-prefix-requires
read_prefix-prefix-requires c = let inv = c.loop-n.invariant in (inv.5, inv.6)

pub walk_checked-walk-requires : goal.walk_checked-walk-requires
walk_checked-walk-requires c =
    let a = c.args in
    let from = c.loop-n.from in
    let pieces = a.pieces.now in
    let ready : ReadyAs a.sheet.now a.graph.now c.open_graph.new.starts c.open_graph.new.kept c.in_ok-sizes.sizes =
    subst (OpenedAs _ _ _ _) c.in_ok-sizes.was c.open_graph.ensures.0 in record {
      starts_len = (
        ready.known.all_starts,
        some_piece (drop from pieces) c.read_prefix-prefix.new.cells
            (input_bytes pieces from (λ i. omega (arith, c.type_inv.pieces i))) c.read_prefix-prefix.result _
            (prefix_told pieces from c.read_prefix-prefix.new.cells c.read_prefix-prefix.result c.read_prefix-prefix.ensures.0)
            (sym c.has_arity.ensures ∙ c.if-has_arity.true),
        ready.known.begins,
        c.loop-n.invariant.4,
      );
      checked = ready.known.checked;
    }

pub put_first-turn-requires : goal.put_first-turn-requires
put_first-turn-requires c =
    omega (arith, c.loop-n.invariant.2, (few c.args.results.now c.room_for-room.ensures).1, c.loop-n-test.true)

pub returns-in-Full : goal.returns-in-Full
returns-in-Full c =
    let now = (goal.at.returns-in-Full c).After-put_first-turn in
    let l = c.loop-n in
    let (none, same) = told_full (reply now) (input now) l.results (16 * l.n) (left now) (more now) (turn_told now c.in-Full.is) in
    (λ i. left_by (Ok (c.walked-in-Full.ensures i)) (same i))
    ∙ ended (buffer now) c.room_for-room.ensures (ready now) (pieces now) l.invariant.3 (first now ∙ none)

pub overflow_add-n : goal.overflow_add-n
overflow_add-n c =
    omega (arith, (few c.args.results.now c.room_for-room.ensures).0, c.loop-n-test.true)

pub returns-in-Last : goal.returns-in-Last
returns-in-Last c =
    let now = (goal.at.returns-in-Last c).After-put_first-turn in
    let l = c.loop-n in
    let (q, last, wrote) = told_last (reply now) (input now) l.results (16 * l.n) (left now) (more now)
    (turn_told now c.in-Last.is) in
    ap (λ (x : WalkedAll). left_by (Ok x) c.put_first-turn.new.out) c.walked-in-Last.ensures
    ∙ at_last (reply now) (pieces now) (buffer now) (room now) l.invariant.3 (fits now) (first now ∙ last) wrote
    ∙ all_done (buffer now) c.room_for-room.ensures (ready now) (pieces now)

pub overflow_add-from : goal.overflow_add-from
overflow_add-from c = omega (arith, (inside (goal.at.overflow_add-from c).After-put_first-turn c.in-More.is).1)

pub loop-n-preserved : goal.loop-n-preserved
loop-n-preserved c =
    let now = (goal.at.loop-n-preserved c).After-put_first-turn in
    let l = c.loop-n in
    let (next, may, wrote) = Told-more (reply now) (input now) l.results (16 * l.n) (left now) (more now)
    (turn_told now c.in-More.is) in
    let used = sym (c.used_by-used.ensures ∙ used_same (prefix now)) in (
      (inside now c.in-More.is).0,
      (inside now c.in-More.is).1,
      c.put_first-turn.auto.out ∙ c.loop-n.invariant.2,
      at_piece (reply now) (pieces now) (buffer now) (room now) l.invariant.3 (fits now) (first now ∙ next) wrote,
      notes_there now,
      subst (λ (k : ℕ). k ≤ 680) used (used_next now c.in-More.is).0,
      subst (λ (k : ℕ). UsedTo k (cells_read now)) used (used_next now c.in-More.is).1,
    )

pub returns-in_err-sizes : goal.returns-in_err-sizes
returns-in_err-sizes c =
    let a = c.args in
    let p = err_from_is_err_and c.from_residual.result c.from_residual.ensures.1 in
    rw (p.1, p.2)
    (all_refused a.sheet.now a.graph.now a.pieces.now a.results.now
    (subst (OpenedAs _ _ _ _) c.in_err-sizes.was c.open_graph.ensures.0))

pub returns : goal.returns
returns c =
    let a = c.args in
    let l = c.loop-n in
    let ready : ReadyAs a.sheet.now a.graph.now c.open_graph.new.starts c.open_graph.new.kept c.in_ok-sizes.sizes =
    subst (OpenedAs _ _ _ _) c.in_ok-sizes.was c.open_graph.ensures.0 in
    let all : c.room_for-room.result ≡ l.n = omega arith in
    (λ i. left_by (Ok ((c.walked-2.ensures ∙ (λ j. taken (all j) l.from)) i)) l.results)
    ∙ ended a.results.now c.room_for-room.ensures ready a.pieces.now l.invariant.3
    (pieces_roomless (c.room_for-room.result - l.n) (most_taken - l.from) (drop l.from a.pieces.now) (omega arith))

-- `put_built` meets its contract: the line of the sheet, then in each turn what was printed so far stands behind it.
use Prim.Native.Nat.{ℕ, ◌-◌, ◌≤◌}
use mathlib.Core.Path.{◌≡◌, refl, sym, ap, subst, ◌∙◌}
use mathlib.Core.List.{List}
use native.Mathlib.Omega.{arith}
use borrow.Author.Rules.{rules}
use lib.ListN.{length, get_or, drop, length-drop}
use Rattle.records.specs.Fields.{IsByte}
use Rattle.records.specs.Reading.{Reading, map_reading}
use Rattle.records.proofs.Parts.{rest}
use Rattle.std.specs.Prelude.{Result}
use Rattle.records.specs.declared.refusal.Refusal.{Refusal}
use Rattle.piece.specs.ReadPiece.{read_prefix}
use Rattle.piece.specs.views.LaidOut.{lay_out, prefix_read, prefix_bytes, UsedTo}
use Rattle.piece.proofs.Emptying.{none_used}
use Rattle.lines.specs.Lines.{refused_line}
use Rattle.decision.specs.Walk.{Walk}
use Rattle.walk.specs.Walking.{walk_reply, walked_reading}
use Rattle.walk_all.specs.declared.First.{First}
use Rattle.walk_all.specs.views.FirstPiece.{first_reply, first_of, first_made, PieceWithin}
use Rattle.walk_all.proofs.FirstMade.{used_same, used_read, some_piece, walked_right, other_right}
use Rattle.piece_lines.specs.BuiltLines.{first_walk}
use Rattle.piece_lines.specs.declared.Turn.{Turn}
use Rattle.piece_lines.specs.declared.Turn.TheVariants.{More, Last}
use Rattle.piece_lines.specs.views.Turned.{Turned, turned, Within, answered, walk_line}
use Rattle.piece_lines.proofs.Progress.{at_start, at_end_lem, at_refusal, at_piece}
use Rattle.piece_lines.proofs.PutBuiltPlaces.{all_printed, bytes_behind, known_ready}
use Rattle.piece_lines.proofs.Turns.{first_answered, told_as, told_last, Told-more, more_read}
use Rattle.piece_lines.proofs.put_built.Goals as goal
use Rattle.piece_lines.proofs.put_built.Goals.{After-put_first-turn, then-has_arity, else-has_arity}

-- The turn of the piece that comes next: how it was read, and how its walk ended.
module _ (c : goal.After-put_first-turn) where
  abbrev reply : List ℕ → Reading Walk
  reply = walk_reply c.args.sheet.now c.args.graph.now

  abbrev pieces : List ℕ
  pieces = drop c.loop-from.from c.args.input.now

  abbrev cells : List ℕ
  cells = c.read_prefix-prefix.new.cells

  abbrev first : Result (First Refusal) Refusal
  first = first_made c.read_prefix-prefix.result c.if-has_arity.walk

  prefix_told : prefix_read cells c.read_prefix-prefix.result ≡ map_reading lay_out (read_prefix pieces)
  prefix_told =
      c.read_prefix-prefix.ensures.0
      ∙ ap (λ (l : List ℕ). map_reading lay_out (read_prefix l)) (rest c.args.input.now c.loop-from.from)

  prefix_there : prefix_bytes c.read_prefix-prefix.result ≤ length pieces
  prefix_there = omega (arith, c.read_prefix-prefix.ensures.1, ap length (rest c.args.input.now c.loop-from.from))

  -- The turn and the buffer are what a reading says.
  abbrev Said : Turn → Reading Walk → Type 0
  Said t r =
      ◌≡◌ {A = Turned} (record { turn = t; buffer = c.put_first-turn.new.out })
      (turned c.loop-from.out c.loop-from.end c.loop-from.n r)

  put_told : (t : Turn) → Said t (answered (first_of c.first_of.result)) → Said t (answered (first_of first))
  put_told t =
      told_as c.loop-from.n c.loop-from.out c.loop-from.end refl
      (ap (λ (f : Result (First Refusal) Refusal). answered (first_of f)) c.first_of.ensures)

module _ (c : goal.After-put_first-turn) (bytes : (i : ℕ) → IsByte (get_or c.args.input.now i 0)) where
  piece_bytes_lem : (i : ℕ) → IsByte (get_or (pieces c) i 0)
  piece_bytes_lem = bytes_behind c.loop-from.from c.args.input.now bytes

  first_right : (first_of (first c) ≡ first_reply (reply c) (pieces c)) × PieceWithin (length (pieces c)) (first c)
  first_right =
      let known = known_ready c.args.sheet.now c.args.graph.now c.open_graph-opened.new.starts c.open_graph-opened.new.kept
      c.open_graph-opened.ensures.0 c.in-Ok.is in
      let arity = sym c.has_arity.ensures in
      elim c.if-has_arity.branch [
        | then-has_arity w ↦
            walked_right (pieces c) (cells c) piece_bytes_lem known c.read_prefix-prefix.result c.if-has_arity.walk (prefix_told c)
            (prefix_there c) (arity ∙ w.if-has_arity.true)
            (λ t p k. ap walked_reading w.walk-is ∙ w.walk_checked-walk.ensures.result_value t p k)
        | else-has_arity w ↦
            other_right (pieces c) (cells c) piece_bytes_lem known c.read_prefix-prefix.result c.if-has_arity.walk (prefix_told c)
            (prefix_there c) (arity ∙ w.if-has_arity.false) w.walk-is
      ]

  turn_told : (t : Turn) → Said c t (answered (first_of c.first_of.result)) → Said c t (first_walk (reply c) (pieces c))
  turn_told t e =
      put_told c t e
      ∙ ap (turned c.loop-from.out c.loop-from.end c.loop-from.n)
      (ap answered first_right.0 ∙ first_answered (reply c) (pieces c))

  turn_within
      : (t : Turn) → ((k : ℕ) → PieceWithin k c.first_of.result → Within k c.loop-from.end t)
      → Within (length c.args.input.now - c.loop-from.from) c.loop-from.end t
  turn_within t h =
      subst (λ (k : ℕ). Within k c.loop-from.end t) (length-drop c.loop-from.from c.args.input.now)
      (h (length (pieces c)) (subst (PieceWithin (length (pieces c))) (sym c.first_of.ensures) first_right.1))

pub loop-from-init : goal.loop-from-init
loop-from-init c =
    let print = c.put_sheet_line-end in (
      omega arith,
      omega arith,
      omega arith,
      omega arith,
      refl,
      at_start (walk_reply c.args.sheet.now c.args.graph.now) c.args.input.now print.new.buf print.result,
      c.open_graph-opened.ensures.1,
      omega arith,
      none_used refl,
    )

pub walk_checked-walk-requires-clause-starts_len : goal.walk_checked-walk-requires-clause-starts_len
walk_checked-walk-requires-clause-starts_len c =
    let known = known_ready c.args.sheet.now c.args.graph.now c.open_graph-opened.new.starts c.open_graph-opened.new.kept
    c.open_graph-opened.ensures.0 c.in-Ok.is in
    let from = c.loop-from.from in
    let input = c.args.input.now in (
      known.all_starts,
      some_piece (drop from input) c.read_prefix-prefix.new.cells
          (bytes_behind from input (λ i. omega (arith, c.type_inv.input i))) c.read_prefix-prefix.result _
          (c.read_prefix-prefix.ensures.0 ∙ ap (λ (l : List ℕ). map_reading lay_out (read_prefix l)) (rest input from))
          (sym c.has_arity.ensures ∙ c.if-has_arity.true),
      known.begins,
      c.loop-from.invariant.6,
    )

pub returns-in-Last : goal.returns-in-Last
returns-in-Last c =
    let step = (goal.at.returns-in-Last c).After-put_first-turn in
    let bytes : (i : ℕ) → IsByte (get_or c.args.input.now i 0) = λ i. omega (arith, c.type_inv.input i) in
    let turn = Last c.in-Last.last in
    let loop = c.loop-from in
    let print = c.put_sheet_line-end in
    let told = turn_told step bytes turn c.in-Last.ensures.out_after in
    let (q, is, wrote) = told_last loop.out loop.end loop.n (first_walk (reply step) (pieces step)) told in
    let inside = turn_within step bytes turn c.in-Last.ensures.by_index in
    let known = known_ready c.args.sheet.now c.args.graph.now c.open_graph-opened.new.starts c.open_graph-opened.new.kept
    c.open_graph-opened.ensures.0 c.in-Ok.is in
    all_printed known c.args.nodes c.tests-tests.result c.tests-tests.ensures c.args.input.now c.args.out.now print.ensures.value
    (omega arith)
    (at_refusal (reply step) c.args.input.now print.new.buf print.result loop.invariant.5 (omega arith) c.loop-from-test.true
    (refused_line q) (omega (arith, inside)) wrote is refl)

pub loop-from-smaller : goal.loop-from-smaller
loop-from-smaller c =
    let step = (goal.at.loop-from-smaller c).After-put_first-turn in
    let bytes : (i : ℕ) → IsByte (get_or c.args.input.now i 0) = λ i. omega (arith, c.type_inv.input i) in
    let inside = turn_within step bytes (More c.in-More.bytes c.in-More.next) c.in-More.ensures.by_index in
    omega (arith, inside.0, inside.1)

pub loop-from-preserved : goal.loop-from-preserved
loop-from-preserved c =
    let step = (goal.at.loop-from-preserved c).After-put_first-turn in
    let bytes : (i : ℕ) → IsByte (get_or c.args.input.now i 0) = λ i. omega (arith, c.type_inv.input i) in
    let turn = More c.in-More.bytes c.in-More.next in
    let loop = c.loop-from in
    let print = c.put_sheet_line-end in
    let told = turn_told step bytes turn c.in-More.ensures.out_after in
    let (w, is, wrote) = Told-more loop.out loop.end loop.n (first_walk (reply step) (pieces step)) told in
    let inside = turn_within step bytes turn c.in-More.ensures.by_index in
    let prefix = c.read_prefix-prefix.result in
    let (x, e) =
    more_read loop.out loop.end loop.n prefix c.if-has_arity.walk (put_told step turn c.in-More.ensures.out_after) in
    let next = used_read (pieces step) (cells step) (piece_bytes_lem step bytes) prefix (prefix_told step) e in
    let used = sym (c.used_by-used.ensures ∙ used_same prefix) in (
      omega (arith, inside.1),
      omega arith,
      omega (arith, inside.0),
      omega (arith, inside.2),
      search rules,
      at_piece (reply step) c.args.input.now print.new.buf print.result loop.invariant.5 (omega arith) c.loop-from-test.true
          (walk_line loop.n w) (omega (arith, inside.2)) wrote is refl,
      elim c.if-has_arity.branch [
        | then-has_arity w ↦ ap length w.notes-is ∙ w.walk_checked-walk.ensures.notes_len
        | else-has_arity w ↦ ap length w.notes-is ∙ loop.invariant.6
      ],
      subst (λ (k : ℕ). k ≤ 680) used next.0,
      subst (λ (k : ℕ). UsedTo k (cells step)) used next.1,
    )

pub returns-after-loop-from : goal.returns-after-loop-from
returns-after-loop-from c =
    let print = c.put_sheet_line-end in
    let known = known_ready c.args.sheet.now c.args.graph.now c.open_graph-opened.new.starts c.open_graph-opened.new.kept
    c.open_graph-opened.ensures.0 c.in-Ok.is in
    all_printed known c.args.nodes c.tests-tests.result c.tests-tests.ensures c.args.input.now c.args.out.now print.ensures.value
    (omega arith)
    (at_end_lem (walk_reply c.args.sheet.now c.args.graph.now) c.args.input.now print.new.buf print.result c.loop-from.invariant.5
    c.loop-from-test.false)

-- A loop over the notes: the places of those passed are in the set.
use Rattle.std.proofs.Common.{◌≡◌, ℕ, ◌+◌, List, length, get_or, take, sym, ap, ◌∙◌, arith}
use Rattle.std.proofs.lemmas.List.{get_or-take}
use lib.Dec.{ltb}
use Rattle.basics.specs.Order.{insert_by}
use Rattle.patterns.specs.views.NoteCode.{code_place, code_record}
use Rattle.sheet_tests.specs.views.TestedPlaces.{places_in}
use Rattle.pairs.specs.views.NoteVariables.{Placed}
use Rattle.sheet_tests.specs.views.NoteTests.{is_tested, has_range}
use Rattle.pairs.proofs.NoteRows.{notes_each}
use Rattle.sheet_tests.proofs.PlaceRows.{places_from, places_yes, places_no, places_end}
use Rattle.sheet_tests.proofs.rule.mark_rule.Goals as goal
use Rattle.sheet_tests.proofs.rule.mark_rule.Goals.{then-is_tested, else-is_tested}

pub mark-requires : goal.mark-requires
mark-requires c =
    let notes = c.args.notes.now in
    let n = c.args.n in
    let i = c.loop-code.code-index in
    let is : get_or (take n notes) i 0 ≡ get_or notes i 0 = get_or-take n notes i 0 (omega arith) in
    let placed = notes_each notes n (omega arith) Placed i c.requires.4 (omega arith) in
    (omega (arith, c.note_place.ensures, ap code_place is), c.loop-code.invariant.0)

pub loop-code-preserved : goal.loop-code-preserved
loop-code-preserved c =
    let notes = c.args.notes.now in
    let n = c.args.n in
    let i = c.loop-code.code-index in
    let inv = c.loop-code.invariant in
    let words = c.loop-code.words in
    let ranged = has_range c.args.high.now in
    let is : get_or (take n notes) i 0 ≡ get_or notes i 0 = get_or-take n notes i 0 (omega arith) in
    let test : is_tested ranged (code_record (get_or notes i 0)) ≡ c.is_tested.result =
    ap (λ (x : ℕ). is_tested ranged (code_record x)) (sym is)
    ∙ ap (is_tested ranged) (sym c.note_record.ensures)
    ∙ sym c.is_tested.ensures in
    elim c.if-is_tested.branch [
      | then-is_tested w ↦ (
        ap length w.words-is ∙ w.mark.ensures.words_len,
        ap (places_from ranged notes n (i + 1))
            (ap places_in w.words-is
            ∙ w.mark.ensures.words_after
            ∙ ap (λ (p : ℕ). insert_by ltb p (places_in words)) (w.note_place.ensures ∙ ap code_place is))
            ∙ places_yes ranged notes n (omega arith) i (omega arith) (test ∙ w.if-is_tested.true) (places_in words)
            ∙ inv.1,
      )
      | else-is_tested w ↦ (
        ap length w.words-is ∙ inv.0,
        ap (λ (l : List ℕ). places_from ranged notes n (i + 1) (places_in l)) w.words-is
            ∙ places_no ranged notes n (omega arith) i (omega arith) (test ∙ w.if-is_tested.false) (places_in words)
            ∙ inv.1,
      )
    ]

pub returns-clause-words_after : goal.returns-clause-words_after
returns-clause-words_after c =
    let turn = c.loop-code in
    sym (places_end (has_range c.args.high.now) c.args.notes.now c.args.n (omega arith) turn.code-index (omega arith)
    (places_in turn.words))
    ∙ turn.invariant.1

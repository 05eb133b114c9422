-- Request 2 of document 02, over bytes: "Two accepted sheets get equal bytes exactly when they have the same arity and, rule for
-- rule, the same tests. Tidying a tidy sheet changes no byte, and the tidy sheet has the same graph."
use Prim.Native.Nat.{ℕ, ◌≤◌}
use mathlib.Core.Path.{◌≡◌, refl, sym, ap, subst, ◌∙◌}
use mathlib.Core.Logic.{◌↔◌}
use mathlib.Core.List.{List, [], ◌∷◌, map}
use native.Mathlib.Omega.{arith}
use lib.ListN.{length, replicate}
use Rattle.records.specs.Fields.{AreBytes}
use Rattle.basics.specs.Lists.{all_below}
use Rattle.records.specs.Reading.{took, read_row}
use Rattle.records.specs.Writing.{splice}
use Rattle.terms.specs.RuleTests.{place_tests, pair_tests}
use Rattle.sheet.specs.Sheet.{Sheet}
use Rattle.sheet.specs.ReadSheet.{read_pattern, read_header, read_sheet}
use Rattle.sheet.specs.WriteSheet.{sheet_bytes}
use Rattle.sheet_tests.specs.CheckSheet.{accept_sheet, AcceptedSheet, sheet_values}
use Rattle.accepted.proofs.Acceptance.{sheet_accepted_lem}
use Rattle.plain.specs.Plain.{plain_reading}
use Rattle.graph_check.specs.CheckGraph.{graph_reading}
use Rattle.graph_check.specs.Rewritten.{rewritten}
use Rattle.order.specs.Asking.{Asking}
use Rattle.build.specs.BuildOutcome.{outcome_in}
use Rattle.walk.specs.Walking.{walk_reply}
use Rattle.tidy.specs.TidySheet.{tidy_sheet, tidy_bytes, AllSameTests}
use Rattle.tidy.specs.Tidied.{tidied}
use Rattle.tidy.proofs.Exactly.{tidy_rules_tests}
use Rattle.tidy.proofs.TidySheets.{tidy_sheet_accepted, tidy_sheet_twice, tidy_read, tidy_exactly}
use Rattle.promises.specs.TidyWritten.{TidyWritten}
use Rattle.promises.proofs.TidyBytes.{tidy_fits, tidy_written_exactly, written_is}
use Rattle.promises.proofs.SameSheets.{same_check, same_build, same_plain, same_graph_check, same_rewrite, same_walk}

-- "Two accepted sheets get equal bytes exactly when they have the same arity and, rule for rule, the same tests": from whatever
-- bytes s and t they are read, and into whatever buffers their tidy bytes v and w are written.
pub equal_bytes_exactly
    : {s p v t q w : List ℕ} → AreBytes s → AreBytes t → TidyWritten s p v → TidyWritten t q w
    → {j k : ℕ} {one two : Sheet} → accept_sheet s ≡ took j one → accept_sheet t ≡ took k two
    → (v ≡ w) ↔ ((one.arity ≡ two.arity) × AllSameTests one.rules two.rules)
equal_bytes_exactly {s = s} {t = t} sBytes tBytes first second {j} {k} {one} {two} e d =
    let exactly =
    tidy_exactly one two ((sheet_accepted_lem s sBytes j one).0 e).0 ((sheet_accepted_lem t tBytes k two).0 d).0 in
    let v = written_is first e in
    let w = written_is second d in
    (λ same. exactly.0 (sym v ∙ same ∙ w), λ alike. v ∙ exactly.1 alike ∙ sym w)

-- Of the bytes w that a sheet of bytes s got, in whatever buffer they were written:
module _ {s p w : List ℕ} (are_bytes : AreBytes s) (written : TidyWritten s p w) where
  module _ {k : ℕ} {sheet : Sheet} (e : accept_sheet s ≡ took k sheet) where
    accepted : AcceptedSheet sheet
    accepted = ((sheet_accepted_lem s are_bytes k sheet).0 e).0

    tidy_bytes_read : accept_sheet w ≡ took (length w) (tidy_sheet sheet)
    tidy_bytes_read =
        subst (λ (l : List ℕ). accept_sheet l ≡ took (length l) (tidy_sheet sheet)) (sym (written_is written e))
        (tidy_read sheet accepted)

    tests_kept
        : (map place_tests (tidy_sheet sheet).rules ≡ map place_tests sheet.rules)
        × (map pair_tests (tidy_sheet sheet).rules ≡ map pair_tests sheet.rules)
    tests_kept = tidy_rules_tests sheet.arity sheet.rules accepted.sound.accepted_rules

    -- They are accepted, as the tidy sheet, which has the sheet's arity and, rule for rule, its tests.
    pub tidy_bytes_accepted
        : (accept_sheet w ≡ took (length w) (tidy_sheet sheet)) × AcceptedSheet (tidy_sheet sheet)
        × ((tidy_sheet sheet).arity ≡ sheet.arity) × AllSameTests (tidy_sheet sheet).rules sheet.rules
    tidy_bytes_accepted =
        let also = tidy_sheet_accepted sheet accepted in
        let alike = (tidy_exactly (tidy_sheet sheet) sheet also accepted).0 (ap sheet_bytes (tidy_sheet_twice sheet accepted)) in
        (tidy_bytes_read, also, alike.0, alike.1)

  -- Some sheet was accepted, since they were written.
  abbrev source : (k : ℕ) × (sheet : Sheet) × (accept_sheet s ≡ took k sheet) × (length (tidy_bytes sheet) ≤ length p)
  source = (tidy_written_exactly s p).0 written.not_refused

  -- "Tidying a tidy sheet changes no byte": into every buffer that they fit the same bytes are written, and what stood behind them
  -- stays.
  pub no_byte_changes
      : (q : List ℕ) → length w ≤ length q
      → tidied w q ≡ record { refusal = 0; bytes = length w; buffer = splice q 0 w }
  no_byte_changes q fits =
      let (k, sheet, e, _) = source in
      let again : tidy_bytes (tidy_sheet sheet) ≡ w =
      ap sheet_bytes (tidy_sheet_twice sheet (accepted e)) ∙ sym (written_is written e) in
      tidy_fits w q (tidy_bytes_read e) (omega (arith, ap length again, fits))
      ∙ ap (λ (l : List ℕ). record { refusal = 0; bytes = length l; buffer = splice q 0 l }) again

  -- "And the tidy sheet has the same graph": building them, in document 01's order or by a table, leaves what building the sheet
  -- so leaves, in every buffer.
  pub tidy_same_build : (asking : Asking) (buffer : List ℕ) → outcome_in asking w buffer ≡ outcome_in asking s buffer
  tidy_same_build asking buffer =
      let (k, sheet, e, _) = source in
      same_build w s (tidy_bytes_read e) e refl (tests_kept e).0 (tests_kept e).1 asking buffer

  -- The check gives the same arity, rules and tests for them.
  pub tidy_same_check : sheet_values (accept_sheet w) ≡ sheet_values (accept_sheet s)
  tidy_same_check =
      let (k, sheet, e, _) = source in
      same_check w s (tidy_bytes_read e) e refl (tests_kept e).0 (tests_kept e).1

  -- And every piece gets the same plain answer, every graph is read alike, and the walk over it has the same answer, edges and wait
  -- list, or the same refusal.
  pub tidy_same_answers
      : (g piece : List ℕ)
      → (plain_reading w piece ≡ plain_reading s piece) × (graph_reading w g ≡ graph_reading s g)
      × (walk_reply w g piece ≡ walk_reply s g piece)
  tidy_same_answers g piece =
      let (k, sheet, e, _) = source in (
        same_plain w s (tidy_bytes_read e) e refl (tests_kept e).0 (tests_kept e).1 piece,
        same_graph_check w s (tidy_bytes_read e) e refl (tests_kept e).0 (tests_kept e).1 g,
        same_walk w s (tidy_bytes_read e) e refl (tests_kept e).0 (tests_kept e).1 g piece,
      )

  -- Its nodes are written again alike.
  pub tidy_same_rewrite : (g buffer : List ℕ) → rewritten w g buffer ≡ rewritten s g buffer
  tidy_same_rewrite g buffer =
      let (k, sheet, e, _) = source in
      same_rewrite w s (tidy_bytes_read e) e refl (tests_kept e).0 (tests_kept e).1 g buffer

-- Computed: (X7, X3, X3) becomes (anything, X0, X0), of which 8 bytes are written into 9, and none into 7.
abbrev example_sheet : List ℕ
example_sheet = 0x10 ∷ 3 ∷ 1 ∷ 0x24 ∷ 7 ∷ 0x24 ∷ 3 ∷ 0x24 ∷ 3 ∷ []

example_written
    : tidied example_sheet (replicate 9 0xff)
    ≡ record { refusal = 0; bytes = 8; buffer = 0x10 ∷ 3 ∷ 1 ∷ 0x20 ∷ 0x24 ∷ 0 ∷ 0x24 ∷ 0 ∷ 0xff ∷ [] }
unfolding tidied accept_sheet read_sheet read_header read_pattern read_row all_below
example_written = refl

example_too_short
    : tidied example_sheet (replicate 7 0xff) ≡ record { refusal = 31; bytes = 0; buffer = replicate 7 0xff }
unfolding tidied accept_sheet read_sheet read_header read_pattern read_row all_below
example_too_short = refl

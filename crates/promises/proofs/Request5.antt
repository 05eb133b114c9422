-- Request 5 of document 02, over bytes: a series in a sheet's bytes, both spellings of a symbol, and the runs of ids in a graph's
-- bytes. The first and third demands hold of sheets with series under their own names; the cases of a built graph's switches are
-- those of `built_switch_cases`.
use Prim.Native.Nat.{ℕ, ◌≤◌, ◌<◌}
use mathlib.Core.Path.{◌≡◌, refl, sym, ap, subst, ◌∙◌}
use mathlib.Core.List.{List, [], ◌∷◌, ◌++◌, map}
use mathlib.Core.Option.{Option}
use native.Mathlib.Omega.{arith}
use lib.Dec.{T}
use lib.ListN.{length}
use Rattle.basics.specs.Lists.{Mem, All}
use Rattle.basics.proofs.Clash.{clash}
use Rattle.basics.proofs.ListLaws.{all_at}
use Rattle.basics.proofs.Numbers.{both_le}
use Rattle.records.specs.Fields.{wide_then, AreBytes}
use Rattle.records.specs.Reading.{Reading, took, refused, and_then}
use Rattle.records.specs.Written.{Result, result_of, ask_fits}
use Rattle.terms.specs.Term.{Wide, symbol}
use Rattle.terms.specs.Pattern.{Patterns, the_symbol, the_series}
use Rattle.terms.specs.RuleTests.{Range, pattern_tests, place_tests, pair_tests}
use Rattle.sheet.specs.Sheet.{Sheet}
use Rattle.sheet.specs.ReadSheet.{read_pattern}
use Rattle.sheet.proofs.SpelledReads.{pattern_read_lem}
use Rattle.sheet.proofs.SpelledReads as spelled
use Rattle.sheet.specs.WriteSheet.{sheet_bytes}
use Rattle.accepted.proofs.WrittenBytes.{sheet_bytes_lem}
use Rattle.accepted.proofs.Acceptance.{sheet_accepted_lem}
use Rattle.sheet_tests.specs.CheckSheet.{accept_sheet, sheet_values}
use Rattle.plain.specs.Plain.{plain_reading}
use Rattle.decision.specs.Cases.{Case, symbols_case, compound_case, numbers_case, takes}
use Rattle.decision.specs.Node.{Node, CaseEdge, switch}
use Rattle.decision.specs.AcceptedGraph.{Ascend, CaseBefore, AcceptedSwitch, AcceptedNode}
use Rattle.graph_check.specs.CheckGraph.{graph_reading}
use Rattle.graph_check.specs.Rewritten.{rewritten}
use Rattle.graph_check.proofs.GraphBytes.{graph_accepted_lem}
use Rattle.order.specs.Asking.{Asking}
use Rattle.build.specs.BuildOutcome.{outcome_in}
use Rattle.tidy.specs.TidySheet.{tidy_bytes, AllSameTests}
use Rattle.tidy.specs.Tidied.{tidied}
use Rattle.tidy.proofs.TidySheets.{tidy_exactly}
use Rattle.walk.specs.Walking.{walk_reply}
use Rattle.promises.specs.LongForm.{long_forms, long_sheet}
use Rattle.promises.proofs.LongForm.{form_places, form_pairs, rules_twice, form_accepted}
use Rattle.promises.proofs.SameSheets.{same_check, same_build, same_plain, same_graph_check, same_rewrite, same_walk}

-- "Pattern 26 (wide low, wide high) .. Question 4 admits it": it is read as that series, at every depth,
pub series_read
    : (below low high : ℕ) (rest : List ℕ) → low ≤ high → Wide high
    → read_pattern below (0x26 ∷ wide_then low (wide_then high rest)) ≡ took 5 (the_series low high)
series_read below low high rest ordered wide = pattern_read_lem (the_series low high) below rest (omega arith, ordered, wide)

-- "and question 7 applies to it".
pub series_low_above_high
    : (below low high : ℕ) (rest : List ℕ) → Wide low → Wide high → high < low
    → read_pattern below (0x26 ∷ wide_then low (wide_then high rest)) ≡ refused 7
series_low_above_high = spelled.series_low_above_high

-- "Pattern 21 is then the series of one symbol": wherever they stand, both have the same test.
pub symbol_is_series
    : (range_of : ℕ → Option Range) (a r b : ℕ)
    → pattern_tests range_of (the_symbol a) r b ≡ pattern_tests range_of (the_series a a) r b
symbol_is_series range_of a r b = refl

-- Rules with the same tests in the same order have, rule for rule, the same tests.
All-same
    : (rules others : List Patterns) → map place_tests rules ≡ map place_tests others → map pair_tests rules ≡ map pair_tests others
    → AllSameTests rules others
All-same [] [] places pairs = tt
All-same [] (other ∷ others) places pairs = clash (cc)
All-same (rule ∷ rules) [] places pairs = clash (cc)
All-same (rule ∷ rules) (other ∷ others) places pairs =
    let place : place_tests rule ≡ place_tests other = cc in
    let pair : pair_tests rule ≡ pair_tests other = cc in
    let morePlaces : map place_tests rules ≡ map place_tests others = cc in
    let morePairs : map pair_tests rules ≡ map pair_tests others = cc in (
      (
        λ x. (λ m. subst (Mem x) place m, λ m. subst (Mem x) (sym place) m),
        λ x. (λ m. subst (Mem x) pair m, λ m. subst (Mem x) (sym pair) m),
      ),
      All-same rules others morePlaces morePairs,
    )

-- Bytes s and t of two accepted sheets that are the same once each symbol is written as a series, and each range as one on gauge 0
-- (request 7):
module _
    (s t : List ℕ) {j k : ℕ} {one two : Sheet} (e : accept_sheet s ≡ took j one) (d : accept_sheet t ≡ took k two)
    (arity : one.arity ≡ two.arity) (same : map long_forms one.rules ≡ map long_forms two.rules)
  where
    places : map place_tests one.rules ≡ map place_tests two.rules
    places = form_places one.rules two.rules same

    pairs : map pair_tests one.rules ≡ map pair_tests two.rules
    pairs = form_pairs one.rules two.rules same

    -- "Both give the same graph": building them, in document 01's order or by a table, leaves the same in every buffer,
    pub both_same_graph : (asking : Asking) (buffer : List ℕ) → outcome_in asking s buffer ≡ outcome_in asking t buffer
    both_same_graph = same_build s t e d arity places pairs

    -- the check gives the same arity, rules and tests,
    pub both_same_check : sheet_values (accept_sheet s) ≡ sheet_values (accept_sheet t)
    both_same_check = same_check s t e d arity places pairs

    -- every piece gets the same plain answer, every graph is read alike, and the walk over it has the same answer, edges and wait
    -- list, or the same refusal,
    pub both_same_answers
        : (g piece : List ℕ)
        → (plain_reading s piece ≡ plain_reading t piece) × (graph_reading s g ≡ graph_reading t g)
        × (walk_reply s g piece ≡ walk_reply t g piece)
    both_same_answers g piece = (
      same_plain s t e d arity places pairs piece,
      same_graph_check s t e d arity places pairs g,
      same_walk s t e d arity places pairs g piece,
    )

    pub both_same_rewrite : (g buffer : List ℕ) → rewritten s g buffer ≡ rewritten t g buffer
    both_same_rewrite = same_rewrite s t e d arity places pairs

    -- and tidying leaves the same in every buffer.
    pub both_same_tidy : AreBytes s → AreBytes t → (buffer : List ℕ) → tidied s buffer ≡ tidied t buffer
    unfolding tidied
    both_same_tidy sBytes tBytes buffer =
        let left : Reading Sheet → Result = λ r. result_of buffer (and_then r (λ _ sheet. ask_fits 31 buffer (tidy_bytes sheet))) in
        let bytes : tidy_bytes one ≡ tidy_bytes two =
        (tidy_exactly one two ((sheet_accepted_lem s sBytes j one).0 e).0 ((sheet_accepted_lem t tBytes k two).0 d).0).1
        (arity, All-same one.rules two.rules places pairs) in
        ap left e ∙ ap (λ (l : List ℕ). result_of buffer (ask_fits 31 buffer l)) bytes ∙ sym (ap left d)

-- So it is with a sheet and the sheet in which each 21 a is written 26 a a, and each 22 l h is written 27 0 l h: where the one is
-- accepted the other is, and has the same graph.
module _ (s : List ℕ) (are_bytes : AreBytes s) {k : ℕ} {sheet : Sheet} (e : accept_sheet s ≡ took k sheet) where
  pub long_form_accepted
      : accept_sheet (sheet_bytes (long_sheet sheet)) ≡ took (length (sheet_bytes (long_sheet sheet))) (long_sheet sheet)
  long_form_accepted =
      let also = form_accepted sheet ((sheet_accepted_lem s are_bytes k sheet).0 e).0 in
      let bytes = sheet_bytes (long_sheet sheet) in
      (sheet_accepted_lem bytes (sheet_bytes_lem (long_sheet sheet) also.sound) (length bytes) (long_sheet sheet)).1 (also, refl, refl)

  pub long_form_same_graph
      : (asking : Asking) (buffer : List ℕ)
      → outcome_in asking (sheet_bytes (long_sheet sheet)) buffer ≡ outcome_in asking s buffer
  long_form_same_graph =
      both_same_graph (sheet_bytes (long_sheet sheet)) s long_form_accepted e refl (rules_twice sheet.rules)

-- "Questioned as numbers were in document 01": "no number in two".
one_takes : (c d : Case) (a : ℕ) → CaseBefore c d → T (takes c (symbol a)) → T (takes d (symbol a)) → ⊥
one_takes (symbols_case l h) (symbols_case x y) a less p q =
    let one = (both_le l a a h).0 p in
    let two = (both_le x a a y).0 q in
    omega (arith, one.1, two.0, less)
one_takes (symbols_case l h) (compound_case b m) a less p q = q
one_takes (symbols_case l h) (numbers_case x y) a less p q = q
one_takes (compound_case b m) d a less p q = p
one_takes (numbers_case x y) d a less p q = p

-- What stands behind a case comes after it.
comes_after_lem
    : (before : List (CaseEdge ℕ)) (c : CaseEdge ℕ) (after : List (CaseEdge ℕ)) → Ascend (before ++ (c ∷ after))
    → All (λ (d : CaseEdge ℕ). CaseBefore c.case d.case) after
comes_after_lem [] c after up = up.0
comes_after_lem (x ∷ before) c after up = comes_after_lem before c after up.1

-- In a graph that is read, what a case of a switch takes no case behind it takes.
pub no_id_in_two
    : (s g : List ℕ) → AreBytes s → AreBytes g → {nodes : List (Node ℕ)} → graph_reading s g ≡ took (length g) nodes
    → {n x y : ℕ} (before : List (CaseEdge ℕ)) (c : CaseEdge ℕ) (after : List (CaseEdge ℕ))
    → Mem (switch n (before ++ (c ∷ after)) x y) nodes → {d : CaseEdge ℕ} → Mem d after → (a : ℕ)
    → T (takes c.case (symbol a)) → T (takes d.case (symbol a)) → ⊥
no_id_in_two s g sBytes gBytes {nodes} read {n} {x} {y} before c after among {d} m a p q =
    let written = (graph_accepted_lem s g sBytes gBytes nodes).0 read in
    let accepted : AcceptedSwitch written.sheet.rules (length nodes) n (before ++ (c ∷ after)) x y =
    all_at (AcceptedNode written.sheet.rules (length nodes)) among written.accepted_graph.accepted_nodes in
    one_takes c.case d.case a
    (all_at (λ (y : CaseEdge ℕ). CaseBefore c.case y.case) m (comes_after_lem before c after accepted.ascend)) p q

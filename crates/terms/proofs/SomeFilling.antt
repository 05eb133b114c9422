-- A rule of an accepted sheet of which no test is contradicted is met by some filling of the piece: one that has, for
-- each variable, one term at all its places.
use Prim.Native.Nat.{ℕ}
use mathlib.Core.Path.{refl, ap, sym, subst, ◌∙◌}
use mathlib.Core.List.{List}
use mathlib.Core.Option.{Option}
use Rattle.basics.specs.Lists.{Mem, All}
use Rattle.terms.specs.Term.{Term, Terms}
use Rattle.terms.specs.Pattern.{Patterns}
use Rattle.terms.specs.RuleTests.{PairTest, Occurrence, Range, patterns_range, range_test, place_tests, pair_tests, rule_variables}
use Rattle.terms.specs.Lookup.{Found, found, term_at}
use Rattle.terms.specs.Outcome.{Meets}
use Rattle.terms.specs.Filling.{WellFormed, Fills, Filling}
use Rattle.terms.specs.Accepted.{AcceptedRule, AcceptedPiece}
use Rattle.basics.proofs.ListLaws.{all_map, all-always, all_at, all_from}
use Rattle.terms.proofs.RuleOutcomes.{NoneContradicted}
use Rattle.terms.proofs.TermPlaces.{shows_row}
use Rattle.terms.proofs.WellFormed.{finds_well_formed}
use Rattle.terms.proofs.Instances.{OpenIn, Stands, Suits, Instances, instances_of}
use Rattle.terms.proofs.PreorderTests.{Ranged, all_tests_split}
use Rattle.terms.proofs.PairTests.{all_variables_ascend, pairs_each}
use Rattle.terms.proofs.Ranges.{ranges_wide}
use Rattle.terms.proofs.VariableTerms.{OpenRange, Common, common, terms_of, AtVariable, terms_from, terms_at}
use Rattle.terms.proofs.VariableTerms.{OpenPair, HoldsPair, terms_pairwise, range_open, pair_holds}

module _
    (arity : ℕ) (rule : Patterns) (piece : Terms) (a : AcceptedRule arity rule) (c : AcceptedPiece arity piece)
    (opens : NoneContradicted rule piece)
  where
    -- What stands at the places of the piece, the variables' ranges, the variables, and the terms at a variable's
    -- places.
    abbrev look : ℕ → Found
    look n = term_at piece n

    abbrev range_of : ℕ → Option Range
    range_of v = patterns_range rule v

    abbrev variables : List Occurrence
    variables = rule_variables rule

    abbrev terms : ℕ → List Term
    terms v = terms_of look v variables

    -- The terms of a variable are well-formed,
    well_formed_lem : (v : ℕ) → All WellFormed (terms v)
    well_formed_lem v =
        terms_from look WellFormed v variables
        (all-always (AtVariable look WellFormed v) (λ o e. finds_well_formed piece c.well_formed 4 o.place) variables)

    -- and none of them rules out its range.
    ranged : (v : ℕ) → All (OpenRange (range_of v)) (terms v)
    ranged v =
        terms_from look (OpenRange (range_of v)) v variables
        (all_map (Ranged range_of (OpenIn look)) (AtVariable look (OpenRange (range_of v)) v) one variables
        (all_tests_split range_of (OpenIn look) rule 4 0 opens.0).1)
      where
        one : (o : Occurrence) → Ranged range_of (OpenIn look) o → AtVariable look (OpenRange (range_of v)) v o
        one o h e =
            range_open look o.place (range_of v)
            (subst (λ u. All (OpenIn look) (range_test o.place (range_of u))) (sym e) h)

    -- So each variable has a term for all its places.
    pick : (v : ℕ) → Common (range_of v) (terms v)
    pick v =
        common (range_of v) (terms v) (a.common v) (ranges_wide rule 4 a.sound v) (well_formed_lem v)
        (terms_pairwise look v variables opens.1) (ranged v)

    -- It is the one chosen for each place of the variable,
    abbrev chosen : Occurrence → Term
    chosen o = (pick o.name).term

    -- and it suits each.
    suits : All (Suits range_of chosen look) variables
    suits = all_from (Suits range_of chosen look) variables one
      where
        one : (o : Occurrence) → Mem o variables → Suits range_of chosen look o
        one o m =
            let fills = terms_at look (λ (t : Term). Fills t (chosen o)) o.name variables (pick o.name).fills in
            (all_at (AtVariable look (λ (t : Term). Fills t (chosen o)) o.name) m fills refl, (pick o.name).inside)

    -- The filling that has these terms there.
    filled : Instances range_of chosen piece 4 0 (place_tests rule) variables
    filled =
        let same = c.arguments ∙ sym a.arguments in
        instances_of range_of chosen look rule piece 4 0 a.sound c.well_formed same (shows_row piece 4) opens.0 suits

    -- It meets the equality tests too.
    pairs_met : All (HoldsPair (term_at filled.terms)) (pair_tests rule)
    pairs_met =
        let after = term_at filled.terms in
        let stand = filled.stand after (shows_row filled.terms 4) in
        let Chosen : Occurrence → Type 0 = λ o. Suits range_of chosen look o × Stands range_of chosen after o in
        let Met : PairTest → Type 0 = λ x. OpenPair look x → HoldsPair after x in
        let met : All Met (pair_tests rule) =
        pairs_each Chosen Met
        (λ o x before same e d opened.
        pair_holds look after o.place x.place (chosen o) (finds_well_formed piece c.well_formed 4 o.place) e.0.0 opened
        e.1 (d.1 ∙ ap (λ v. found (pick v).term) (sym same))) 0 _ variables (all_variables_ascend rule 4 0 a.sound)
        (all_from Chosen variables (λ o m.
        (all_at (Suits range_of chosen look) m suits, all_at (Stands range_of chosen after) m stand))) in
        all_from (HoldsPair after) (pair_tests rule) (λ x m. all_at Met m met (all_at (OpenPair look) m opens.1))

-- Where no test is contradicted, some filling meets the rule.
pub some_filling
    : {arity : ℕ} {rule : Patterns} {piece : Terms} → AcceptedRule arity rule → AcceptedPiece arity piece
    → NoneContradicted rule piece → (filled : Terms) × Filling piece filled × Meets rule filled
some_filling {arity} {rule} {piece} a c opens =
    let f = filled arity rule piece a c opens in
    (f.terms, f.fills, (f.meets (term_at f.terms) (shows_row f.terms 4), pairs_met arity rule piece a c opens))

-- What is wanted and what cases take, as ranges of codes: the sorts do not meet, cases of symbols and compounds that ascend are
-- ranges that ascend, and such a case is wanted where a wanted range has one of its codes.
use Prim.Native.Nat.{ℕ, ◌≤◌, ◌<◌}
use mathlib.Core.Path.{◌≡◌}
use mathlib.Core.Bool.{Bool, false, ◌&&◌}
use mathlib.Core.Logic.{inl, inr}
use mathlib.Core.List.{List}
use native.Mathlib.Omega.{arith}
use lib.Dec.{T, leb, eqb, eqb→eq}
use Rattle.basics.specs.Lists.{All}
use Rattle.basics.proofs.ListLaws.{all_at}
use Rattle.terms.specs.RuleTests.{Want, a_symbol, a_number, a_compound, Range}
use Rattle.basics.proofs.Booleans.{both_true, true_both, same_truth}
use Rattle.basics.proofs.Sorted.{pair_before_lem}
use Rattle.codes.specs.views.Codes.{symbol_code, compound_code, number_code}
use Rattle.decision.specs.Cases.{Case, symbols_case, compound_case, numbers_case, is_wanted}
use Rattle.decision.specs.AcceptedGraph.{CaseBefore, CaseFields}
use Rattle.decision.proofs.cases.CaseList.{name_cases, names_all}
use Rattle.decision.proofs.cases.Intervals.{EndsBefore}
use Rattle.decision.proofs.cases.RangeRuns.{meets}
use Rattle.decision.proofs.cases.IdRuns.{id_runs_inside}
use Rattle.codes.specs.views.Codes.{want_low, want_high, SoundWant}
use Rattle.decision.specs.views.CaseCodes.{case_low, case_high}
use Rattle.basics.proofs.Numbers.{eq_true, both_le}

-- The codes of a want, and of a case.
abbrev pub want_range : Want → Range
want_range w = record { low = want_low w; high = want_high w }

abbrev pub case_range : Case → Range
case_range c = record { low = case_low c; high = case_high c }

-- The case of symbols or of a compound.
abbrev IsName : Case → Type 0
IsName (symbols_case l h) = Unit
IsName (compound_case a n) = Unit
IsName (numbers_case l h) = ⊥

abbrev pub NameFields : Case → Type 0
NameFields c = IsName c × CaseFields c

-- The cases of names that are wanted are such.
pub names_fields : (ws : List Want) → All SoundWant ws → All NameFields (name_cases ws)
names_fields ws sound =
    names_all ws NameFields (λ r m. let k = id_runs_inside ws sound r m in (tt, (omega (arith, k.1, k.2), k.2)))
    (λ a n m. let s = all_at SoundWant m sound in (tt, (s.0, omega (arith, s.1))))

-- Their codes are below those of numbers.
pub name_below : (c : Case) → NameFields c → (case_low c < 0x300_0000) × (case_high c < 0x300_0000)
name_below (symbols_case l h) f = (omega (arith, f.1.0), omega (arith, f.1.1))
name_below (compound_case a n) f = (omega (arith, f.1.0, f.1.1), omega (arith, f.1.0, f.1.1))
name_below (numbers_case l h) f = absurd f.0

-- Those that ascend are ranges that ascend.
pub case_before_lem : (c d : Case) → NameFields c → NameFields d → CaseBefore c d → EndsBefore (case_range c) (case_range d)
case_before_lem (symbols_case l h) (symbols_case x y) f g k = omega arith
case_before_lem (symbols_case l h) (compound_case b m) f g k = omega (arith, f.1.1)
case_before_lem (symbols_case l h) (numbers_case x y) f g k = absurd g.0
case_before_lem (compound_case a n) (symbols_case x y) f g k = absurd k
case_before_lem (compound_case a n) (compound_case b m) f g k =
    elim (pair_before_lem a n b m k) [ inl l ↦ omega (arith, f.1.1) | inr r ↦ omega (arith, r.0, r.1) ]
case_before_lem (compound_case a n) (numbers_case x y) f g k = absurd g.0
case_before_lem (numbers_case l h) d f g k = absurd f.0

-- A test is true exactly where one comparison of codes and another hold.
by_codes : (b : Bool) (x y z u : ℕ) → (T b → (x ≤ y) × (z ≤ u)) → (x ≤ y → z ≤ u → T b) → b ≡ leb x y && leb z u
by_codes b x y z u f g =
    same_truth b (leb x y && leb z u) (λ h. (both_le x y z u).1 (f h))
    (λ h. let s = (both_le x y z u).0 h in g s.0 s.1)

-- A case of symbols or of a compound is wanted where the codes of the want have one of its codes.
pub wanted_meets
    : (c : Case) (w : Want) → NameFields c → SoundWant w → is_wanted c w ≡ meets (want_range w) (case_range c)
wanted_meets (symbols_case x y) (a_symbol l h) f s =
    by_codes (leb l y && leb x h) (symbol_code l) (symbol_code y) (symbol_code x) (symbol_code h)
    (λ k. let t = (both_le l y x h).0 k in (omega (arith, t.0), omega (arith, t.1)))
    (λ k m. (both_le l y x h).1 (omega arith, omega arith))
wanted_meets (symbols_case x y) (a_number l h) f s =
    by_codes false (number_code l) (symbol_code y) (symbol_code x) (number_code h) (λ k. absurd k)
    (λ k m. absurd (omega (arith, f.1.1)))
wanted_meets (symbols_case x y) (a_compound b m) f s =
    by_codes false (compound_code b m) (symbol_code y) (symbol_code x) (compound_code b m) (λ k. absurd k)
    (λ k j. absurd (omega (arith, f.1.1)))
wanted_meets (compound_case a n) (a_symbol l h) f s =
    by_codes false (symbol_code l) (compound_code a n) (compound_code a n) (symbol_code h) (λ k. absurd k)
    (λ k m. absurd (omega (arith, s.1)))
wanted_meets (compound_case a n) (a_number l h) f s =
    by_codes false (number_code l) (compound_code a n) (compound_code a n) (number_code h) (λ k. absurd k)
    (λ k m. absurd (omega (arith, f.1.0, f.1.1)))
wanted_meets (compound_case a n) (a_compound b m) f s =
    by_codes (eqb a b && eqb n m) (compound_code b m) (compound_code a n) (compound_code a n) (compound_code b m)
    (λ h.
    let t = both_true (eqb a b) (eqb n m) h in
    let d = eqb→eq a b t.0 in
    let e = eqb→eq n m t.1 in
    (omega arith, omega arith))
    (λ h k.
    let d : a ≡ b = omega (arith, f.1.1, s.1) in
    let e : n ≡ m = omega (arith, f.1.1, s.1) in
    true_both (eqb a b) (eqb n m) (eq_true a b d) (eq_true n m e))
wanted_meets (numbers_case x y) w f s = absurd f.0

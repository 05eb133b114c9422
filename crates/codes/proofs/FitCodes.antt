-- What a place test wants fits a term exactly where its run of codes holds the term's code.
use Prim.Native.Nat.{ℕ, ◌≤◌, ◌<◌}
use mathlib.Core.Path.{◌≡◌, refl, ap}
use mathlib.Core.Bool.{Bool, true, false, ◌&&◌}
use native.Mathlib.Omega.{arith}
use lib.Dec.{T, leb, eqb, leb→le, le→leb, eqb→eq}
use Rattle.terms.specs.Term.{Terms, count, never, symbol, compound, Wide, Gauged}
use Rattle.terms.specs.RuleTests.{Want, a_symbol, a_number, a_compound}
use Rattle.terms.specs.Outcome.{known, fits}
use Rattle.basics.proofs.Booleans.{both_true, true_both, same_truth}
use Rattle.basics.proofs.Numbers.{eq_true, both_le}
use Rattle.codes.specs.views.Codes.{symbol_code, compound_code, number_code, never_code, want_low, want_high}

-- A run holds a code exactly where b is true.
within
    : (b : Bool) (low high code : ℕ) → (T b → (low ≤ code) × (code ≤ high)) → (low ≤ code → code ≤ high → T b)
    → leb low code && leb code high ≡ b
within b low high code to from =
    same_truth (leb low code && leb code high) b
    (λ h. let s = both_true (leb low code) (leb code high) h in from (leb→le low code s.0) (leb→le code high s.1))
    (λ h. let s = to h in true_both (leb low code) (leb code high) (le→leb low code s.0) (le→leb code high s.1))

-- It does not hold a code below it,
pub under : (low high code : ℕ) → code < low → leb low code && leb code high ≡ false
under low high code h = within false low high code (λ f. absurd f) (λ l u. absurd (omega arith))

-- nor one above it.
pub over : (low high code : ℕ) → high < code → leb low code && leb code high ≡ false
over low high code h = within false low high code (λ f. absurd f) (λ l u. absurd (omega arith))

-- The ids of a series, the id and the arity of a compound, and the numbers of a range fit a record.
abbrev pub WantFields : Want → Type 0
WantFields (a_symbol l h) = Wide l × Wide h
WantFields (a_number l h) = Gauged l × Gauged h
WantFields (a_compound a n) = Wide a × (n < 256)

-- A want at a symbol,
pub symbol_fits
    : (w : Want) (b : ℕ) → WantFields w → Wide b
    → known (leb (want_low w) (symbol_code b) && leb (symbol_code b) (want_high w)) ≡ fits w (symbol b)
symbol_fits (a_symbol l h) b f ok =
    ap known
    (within (leb l b && leb b h) (symbol_code l) (symbol_code h) (symbol_code b)
    (λ t. let s = (both_le l b b h).0 t in (omega (arith, s.0), omega (arith, s.1)))
    (λ low high. (both_le l b b h).1 (omega arith, omega arith)))
symbol_fits (a_number l h) b f ok = ap known (under (number_code l) (number_code h) (symbol_code b) (omega arith))
symbol_fits (a_compound a n) b f ok = ap known (under (compound_code a n) (compound_code a n) (symbol_code b) (omega arith))

-- and at a compound.
pub compound_fits
    : (w : Want) (b : ℕ) (ts : Terms) → WantFields w → Wide b → count ts ≤ 4
    → known (leb (want_low w) (compound_code b (count ts)) && leb (compound_code b (count ts)) (want_high w))
    ≡ fits w (compound b ts)
compound_fits (a_symbol l h) b ts f ok few =
    ap known (over (symbol_code l) (symbol_code h) (compound_code b (count ts)) (omega arith))
compound_fits (a_number l h) b ts f ok few =
    ap known (under (number_code l) (number_code h) (compound_code b (count ts)) (omega arith))
compound_fits (a_compound a n) b ts f ok few =
    let least = f.1 in
    ap known
    (within (eqb a b && eqb n (count ts)) (compound_code a n) (compound_code a n) (compound_code b (count ts))
    (λ t.
    let both = both_true (eqb a b) (eqb n (count ts)) t in
    let same = eqb→eq a b both.0 in
    let same_arity_lem = eqb→eq n (count ts) both.1 in
    (omega arith, omega arith))
    (λ l u. true_both (eqb a b) (eqb n (count ts)) (eq_true a b (omega arith)) (eq_true n (count ts) (omega arith))))

-- No want holds at record 35, whose code is above all that a want can have.
pub never_fits : (w : Want) → WantFields w → known (leb (want_low w) never_code && leb never_code (want_high w)) ≡ fits w never
never_fits (a_symbol l h) f = ap known (over (symbol_code l) (symbol_code h) never_code (omega (arith, f.1)))
never_fits (a_number l h) f = ap known (over (number_code l) (number_code h) never_code (omega (arith, f.1)))
never_fits (a_compound a n) f = ap known (over (compound_code a n) (compound_code a n) never_code (omega (arith, f.0, f.1)))

-- A test is what its outcome says.
pub same_known : (a b : Bool) → known a ≡ known b → a ≡ b
same_known true true e = refl
same_known true false e = cc
same_known false true e = cc
same_known false false e = refl

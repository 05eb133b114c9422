-- Argument a of a row of terms, counted from 1 as document 01 counts them.
use Prim.Native.Nat.{ℕ, zero, suc, ◌≤◌}
use mathlib.Core.Path.{◌≡◌}
use native.Mathlib.Omega.{arith}
use Rattle.basics.proofs.Clash.{clash}
use Rattle.terms.specs.Term.{Term, Terms, count, nil, cons}
use Rattle.terms.specs.Lookup.{Found, lacking, found}
use Rattle.terms.specs.Filling.{WellFormed, WellFormeds}
use Rattle.terms.specs.Accepted.{Shallow, Shallows}

-- Argument a, counted from 1, or that the row has none.
abbrev pub argument_of : Terms → ℕ → Found
argument_of nil a = lacking
argument_of (cons t ts) zero = lacking
argument_of (cons t ts) (suc zero) = found t
argument_of (cons t ts) (suc (suc a)) = argument_of ts (suc a)

-- A row of n terms has the arguments 1 to n.
pub argument_number : (ts : Terms) (a : ℕ) {t : Term} → argument_of ts a ≡ found t → (1 ≤ a) × (a ≤ count ts)
argument_number nil a e = clash (cc)
argument_number (cons u ts) zero e = clash (cc)
argument_number (cons u ts) (suc zero) e = (omega arith, omega arith)
argument_number (cons u ts) (suc (suc a)) e = (omega arith, omega (arith, (argument_number ts (suc a) e).1))

-- The arguments of an accepted row are accepted.
pub argument_accepted
    : (ts : Terms) (r a : ℕ) {t : Term} → WellFormeds ts → Shallows ts r → argument_of ts a ≡ found t
    → WellFormed t × Shallow t r
argument_accepted nil r a ok shallow e = clash (cc)
argument_accepted (cons u ts) r zero ok shallow e = clash (cc)
argument_accepted (cons u ts) r (suc zero) {t} ok shallow e =
    let same : u ≡ t = cc in rw (← same) (ok.0, shallow.0)
argument_accepted (cons u ts) r (suc (suc a)) ok shallow e = argument_accepted ts r (suc a) ok.1 shallow.1 e

-- Well-formed terms, as an accepted piece has them, and what their fillings are: known, and ground where record 35 is in none.
use Prim.Native.Nat.{ℕ}
use mathlib.Core.Logic.{inl}
use native.Mathlib.Omega.{arith}
use Rattle.terms.specs.Term.{Term, Terms}
use Rattle.terms.specs.Lookup.{finds}
use Rattle.terms.specs.Outcome.{Holds, compare}
use Rattle.terms.specs.Filling.{Ground, WellFormed, WellFormeds, Fills, Filling, Known, Knowns}
use Rattle.terms.specs.Filling.{put_unknown, put_never, put_symbol, put_numbers, put_compound, put_nil, put_cons}
use Rattle.terms.proofs.Never.{Ordinary, Ordinaries, ordinary_first, ordinary_others, ordinary_cons}
use Rattle.terms.proofs.Known.{ground_known, known_ground}
use Rattle.terms.proofs.CompareSentences.{same_holds}
use Rattle.terms.proofs.Stays.{puts_count}
use Rattle.terms.proofs.TermPlaces.{IfFound, finds_each}

mutual
  -- A filling of a well-formed term is well formed, and nothing in it is left to fill in,
  pub fills_known : {t g : Term} → WellFormed t → Fills t g → WellFormed g × Known g
  fills_known ok (put_unknown {g = g} h) = let x = ground_known g h in (x.0, x.1)
  fills_known ok put_never = (tt, tt)
  fills_known ok put_symbol = (ok, tt)
  fills_known ok (put_numbers x y z h) = ((y, h.1, inl h.0), h.0)
  fills_known ok (put_compound fs) =
      let e = puts_count fs in
      let x = filling_known ok.3 fs in
      ((ok.0, omega (arith, ok.1), omega (arith, ok.2), x.0), x.1)

  -- and so is a filling of a row of them.
  pub filling_known : {ts gs : Terms} → WellFormeds ts → Filling ts gs → WellFormeds gs × Knowns gs
  filling_known ok put_nil = (tt, tt)
  filling_known ok (put_cons f fs) =
      let x = fills_known ok.0 f in
      let xs = filling_known ok.1 fs in
      ((x.0, xs.0), (x.1, xs.1))

mutual
  -- A filling puts in no record 35: where there was none, there is none,
  pub fills_ordinary : {t g : Term} → Ordinary t → Fills t g → Ordinary g
  fills_ordinary w (put_unknown {g = g} h) = (ground_known g h).2
  fills_ordinary w put_never = w
  fills_ordinary w put_symbol = w
  fills_ordinary w (put_numbers x y z h) = w
  fills_ordinary w (put_compound fs) = filling_ordinary w fs

  -- and so in a row of terms.
  pub filling_ordinary : {ts gs : Terms} → Ordinaries ts → Filling ts gs → Ordinaries gs
  filling_ordinary w put_nil = w
  filling_ordinary w (put_cons {t = t} {g = g} {ts = ts} {gs = gs} f fs) =
      ordinary_cons g gs (fills_ordinary (ordinary_first t ts w) f) (filling_ordinary (ordinary_others t ts w) fs)

-- So a filling of a well-formed term without record 35 is ground.
pub fills_ground : {t g : Term} → WellFormed t → Ordinary t → Fills t g → Ground g
fills_ground {g = g} ok w f = let x = fills_known ok f in known_ground g x.0 x.1 (fills_ordinary w f)

-- A ground term is equal to itself.
pub equal_self : (g : Term) → Ground g → Holds (compare g g)
equal_self g ok = let x = ground_known g ok in same_holds g x.1 x.2

-- At each place of well-formed terms stands a well-formed one, if any.
pub finds_well_formed : (ts : Terms) → WellFormeds ts → (r n : ℕ) → IfFound WellFormed (finds ts r n)
finds_well_formed = finds_each WellFormed WellFormeds (λ a ts ok. ok.3) (λ t ts ok. ok)

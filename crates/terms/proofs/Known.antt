-- Terms in which nothing is left to fill in, and those that a filling puts in.
use mathlib.Core.Logic.{inl}
use native.Mathlib.Omega.{arith}
use Rattle.terms.specs.Term.{Term, Terms, unknown, never, symbol, numbers, compound, nil, cons}
use Rattle.terms.specs.Filling.{Ground, Grounds, WellFormed, WellFormeds, Known, Knowns}
use Rattle.terms.proofs.Never.{Ordinary, Ordinaries, ordinary_first, ordinary_others, ordinary_cons}

mutual
  -- What a filling puts in is well formed, "without unknowns", and an ordinary term,
  pub ground_known : (t : Term) → Ground t → WellFormed t × Known t × Ordinary t
  ground_known unknown h = absurd h
  ground_known never h = absurd h
  ground_known (symbol a) h = (h, tt, λ n. n)
  ground_known (numbers a b) h = ((omega (arith, h.0), h.1, inl h.0), h.0, λ n. n)
  ground_known (compound a ts) h = let x = grounds_known ts h.3 in ((h.0, h.1, h.2, x.0), x.1, x.2)

  grounds_known : (ts : Terms) → Grounds ts → WellFormeds ts × Knowns ts × Ordinaries ts
  grounds_known nil h = (tt, tt, λ n. n)
  grounds_known (cons t ts) h =
      let x = ground_known t h.0 in
      let xs = grounds_known ts h.1 in
      ((x.0, xs.0), (x.1, xs.1), ordinary_cons t ts x.2 xs.2)

mutual
  -- and each such term may be put there.
  pub known_ground : (t : Term) → WellFormed t → Known t → Ordinary t → Ground t
  known_ground unknown ok h w = absurd h
  known_ground never ok h w = w tt
  known_ground (symbol a) ok h w = ok
  known_ground (numbers a b) ok h w = (h, ok.1)
  known_ground (compound a ts) ok h w = (ok.0, ok.1, ok.2, knowns_ground ts ok.3 h w)

  knowns_ground : (ts : Terms) → WellFormeds ts → Knowns ts → Ordinaries ts → Grounds ts
  knowns_ground nil ok h w = tt
  knowns_ground (cons t ts) ok h w = (
    known_ground t ok.0 h.0 (ordinary_first t ts w),
    knowns_ground ts ok.1 h.1 (ordinary_others t ts w),
  )

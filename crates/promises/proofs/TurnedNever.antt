-- A piece in which some unknowns have become record 35 is accepted where the piece is, and is the piece filled in further. Any may.
use Prim.Native.Nat.{ℕ, zero, suc, pred, ◌-◌}
use mathlib.Core.Path.{◌≡◌, refl, ap, ◌∙◌}
use mathlib.Core.Bool.{false}
use native.Mathlib.Omega.{arith}
use lib.Dec.{ltb}
use Rattle.basics.proofs.Booleans.{cond_holds}
use Rattle.places.specs.Numbering.{stride}
use Rattle.terms.specs.Term.{Term, Terms, count, unknown, never, symbol, numbers, compound, nil, cons}
use Rattle.terms.specs.Lookup.{Found, find, finds, term_at}
use Rattle.terms.specs.Filling.{WellFormed, WellFormeds, Puts, FilledFurther, put_unknown, put_compound, put_nil, put_cons}
use Rattle.terms.specs.Accepted.{Shallow, Shallows}
use Rattle.terms.proofs.FillingSentences.{further_itself}
use Rattle.piece.specs.Piece.{Piece, SoundPiece}
use Rattle.decision.specs.Walk.{is_unknown}
use Rattle.promises.specs.TurnedNever.{TurnsNever, TurnNever, turn_unknown, turn_nothing, turn_compound, turn_nil, turn_cons, with_terms}

-- As many terms are left,
turned_count : {ts us : Terms} → TurnNever ts us → count us ≡ count ts
turned_count turn_nil = refl
turned_count (turn_cons t ts) = ap suc (turned_count ts)

mutual
  -- each is well formed,
  turned_formed : {t u : Term} → TurnsNever t u → WellFormed t → WellFormed u
  turned_formed turn_unknown ok = tt
  turned_formed turn_nothing ok = ok
  turned_formed (turn_compound ts) ok =
      let e = turned_count ts in
      (ok.0, omega (arith, ok.1), omega (arith, ok.2), all_turned_formed ts ok.3)

  all_turned_formed : {ts us : Terms} → TurnNever ts us → WellFormeds ts → WellFormeds us
  all_turned_formed turn_nil ok = tt
  all_turned_formed (turn_cons t ts) ok = (turned_formed t ok.0, all_turned_formed ts ok.1)

mutual
  -- none is deeper,
  turned_shallow : {t u : Term} → TurnsNever t u → (r : ℕ) → Shallow t r → Shallow u r
  turned_shallow turn_unknown r h = h
  turned_shallow turn_nothing r h = h
  turned_shallow (turn_compound ts) r h = (h.0, all_turned_shallow ts (pred r) h.1)

  all_turned_shallow : {ts us : Terms} → TurnNever ts us → (r : ℕ) → Shallows ts r → Shallows us r
  all_turned_shallow turn_nil r h = tt
  all_turned_shallow (turn_cons t ts) r h = (turned_shallow t r h.0, all_turned_shallow ts r h.1)

-- so the piece is accepted.
pub turned_sound : (piece : Piece) {us : Terms} → TurnNever piece.terms us → SoundPiece piece → SoundPiece (with_terms piece us)
turned_sound piece turned sound = record {
  some_argument = sound.some_argument;
  few_arguments = sound.few_arguments;
  accepted = record {
    arguments = turned_count turned ∙ sound.accepted.arguments;
    well_formed = all_turned_formed turned sound.accepted.well_formed;
    shallow = all_turned_shallow turned 4 sound.accepted.shallow;
  };
}

mutual
  -- "An unknown may later become 35, and that is filling in more."
  turned_further : {t u : Term} → TurnsNever t u → WellFormed t → Puts WellFormed t u
  turned_further turn_unknown ok = put_unknown tt
  turned_further (turn_nothing {t}) ok = further_itself t ok
  turned_further (turn_compound ts) ok = put_compound (all_turned_further ts ok.3)

  pub all_turned_further : {ts us : Terms} → TurnNever ts us → WellFormeds ts → FilledFurther ts us
  all_turned_further turn_nil ok = put_nil
  all_turned_further (turn_cons t ts) ok = put_cons (turned_further t ok.0) (all_turned_further ts ok.1)

-- The terms with record 35 for every unknown.
abbrev mutual
  never_for : Term → Term
  never_for unknown = never
  never_for never = never
  never_for (symbol a) = symbol a
  never_for (numbers a b) = numbers a b
  never_for (compound a ts) = compound a (never_for_all ts)

  never_for_all : Terms → Terms
  never_for_all nil = nil
  never_for_all (cons t ts) = cons (never_for t) (never_for_all ts)

mutual
  -- They are turned so,
  never_turned : (t : Term) → TurnsNever t (never_for t)
  never_turned unknown = turn_unknown
  never_turned never = turn_nothing
  never_turned (symbol a) = turn_nothing
  never_turned (numbers a b) = turn_nothing
  never_turned (compound a ts) = turn_compound (nevers_turned ts)

  nevers_turned : (ts : Terms) → TurnNever ts (never_for_all ts)
  nevers_turned nil = turn_nil
  nevers_turned (cons t ts) = turn_cons (never_turned t) (nevers_turned ts)

mutual
  -- and nothing in them is unknown.
  never_known : (t : Term) (r n : ℕ) → is_unknown (find (never_for t) r n) ≡ false
  never_known unknown r n = refl
  never_known never r n = refl
  never_known (symbol a) r zero = refl
  never_known (symbol a) r (suc n) = refl
  never_known (numbers a b) r zero = refl
  never_known (numbers a b) r (suc n) = refl
  never_known (compound a ts) r zero = refl
  never_known (compound a ts) r (suc n) = nevers_known ts (pred r) n

  nevers_known : (ts : Terms) (r n : ℕ) → is_unknown (finds (never_for_all ts) r n) ≡ false
  nevers_known nil r n = refl
  nevers_known (cons t ts) r n =
      cond_holds (λ (x : Found). is_unknown x ≡ false) (ltb n (stride r)) _ _ (never_known t r n) (nevers_known ts r (n - stride r))

-- So every unknown of a piece may have become record 35.
pub all_may_turn : (ts : Terms) → (us : Terms) × TurnNever ts us × ((n : ℕ) → is_unknown (term_at us n) ≡ false)
all_may_turn ts = (never_for_all ts, nevers_turned ts, nevers_known ts 4)

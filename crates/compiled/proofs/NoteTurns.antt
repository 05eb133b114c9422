-- A rule turns at what its notes want, note by note.
use Prim.Native.Nat.{ℕ, ◌+◌, ◌*◌, ◌≤◌}
use mathlib.Core.Path.{◌≡◌, refl, sym, ap, ◌∙◌, subst}
use mathlib.Core.List.{List, [], ◌∷◌}
use mathlib.Core.Option.{Option, some, none}
use lib.ListN.{length, get_or}
use Rattle.terms.specs.RuleTests.{Want, PlaceTest}
use Rattle.patterns.specs.views.Note.{Note}
use Rattle.cuts.specs.views.Cuts.{part_at, count_at}
use Rattle.rows.specs.views.Wants.{record_want, test_if, notes_tests}
use Rattle.compiled.specs.views.CutRules.{turn_want, turn_all, TurnsFit}
use Rattle.compiled.proofs.TurnedCuts.{both_long}

module _ (numbers : List ℕ) (rules i : ℕ) (low high : List ℕ) (all : List Note) (c₀ : List ℕ) where
  -- Where a loop over the notes stands: these are left.
  pub record CutsLeft (left : List Note) (c : List ℕ) : Type 0 where
    pub fit : TurnsFit numbers rules i (notes_tests low high left) c
    pub long : length c ≡ length c₀
    pub whole
        : turn_all numbers rules i (notes_tests low high left) c ≡ turn_all numbers rules i (notes_tests low high all) c₀

  pub left_start : TurnsFit numbers rules i (notes_tests low high all) c₀ → CutsLeft all c₀
  left_start fit = record { fit = fit; long = refl; whole = refl }

  module _ (c : List ℕ) (left rest : List Note) (x : Note) (e : left ≡ x ∷ rest) (s : CutsLeft left c) where
    abbrev from : ℕ
    from = part_at rules (get_or numbers x.place 0)

    next
        : (y : Option Want) → record_want low high x.what ≡ y
        → notes_tests low high left ≡ test_if x.place y (notes_tests low high rest)
    next y is = ap (notes_tests low high) e ∙ ap (λ (z : Option Want). test_if x.place z (notes_tests low high rest)) is

    module _ (w : Want) (is : record_want low high x.what ≡ some w) where
      fits : TurnsFit numbers rules i (test_if x.place (some w) (notes_tests low high rest)) c
      fits = subst (λ (ts : List PlaceTest). TurnsFit numbers rules i ts c) (next (some w) is) s.fit

      -- A note that wants something has room,
      pub left_room : from + 5 + 2 * count_at c from ≤ length c
      left_room = fits.0

      -- and turns there;
      pub left_some : {c' : List ℕ} → c' ≡ turn_want i from w c → CutsLeft rest c'
      left_some turned = subst (CutsLeft rest) (sym turned)
          (record {
            fit = fits.1;
            long = both_long i w c from left_room ∙ s.long;
            whole = sym (ap (λ (ts : List PlaceTest). turn_all numbers rules i ts c) (next (some w) is)) ∙ s.whole;
          })

    -- any other is passed.
    pub left_none : record_want low high x.what ≡ none → {c' : List ℕ} → c' ≡ c → CutsLeft rest c'
    left_none is stays = subst (CutsLeft rest) (sym stays)
        (record {
          fit = subst (λ (ts : List PlaceTest). TurnsFit numbers rules i ts c) (next none is) s.fit;
          long = s.long;
          whole = sym (ap (λ (ts : List PlaceTest). turn_all numbers rules i ts c) (next none is)) ∙ s.whole;
        })

  -- At the end the rule has turned at all.
  pub left_done
      : (c : List ℕ) (left : List Note) → left ≡ [] → CutsLeft left c → c ≡ turn_all numbers rules i (notes_tests low high all) c₀
  left_done c left e s = sym (ap (λ (ns : List Note). turn_all numbers rules i (notes_tests low high ns) c) e) ∙ s.whole

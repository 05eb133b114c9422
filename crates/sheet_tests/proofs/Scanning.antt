-- A loop over the rules of a sheet that reads each and gathers its tests.
use Prim.Native.Nat.{ℕ, suc, ◌+◌, ◌-◌, ◌≤◌, ◌<◌}
use mathlib.Core.Path.{◌≡◌, refl, sym, ap, ◌∙◌, subst}
use mathlib.Core.List.{List, [], ◌∷◌}
use native.Mathlib.Omega.{arith}
use lib.ListN.{length, get_or, take, drop}
use lib.Seq.{drop-drop}
use Rattle.std.specs.Prelude.{Result, Ok, Err}
use Rattle.records.specs.Fields.{AreBytes}
use Rattle.records.specs.Refusals.{number}
use Rattle.records.specs.declared.refusal.Refusal.{Refusal}
use Rattle.records.specs.Reading.{Reading, took, refused, map_reading, after}
use Rattle.records.proofs.Parts.{rest, rest_length}
use Rattle.records.proofs.Rows.{took_view, refused_view, row_none, row_refused, row_next}
use Rattle.basics.specs.Lists.{All}
use Rattle.terms.specs.Pattern.{Patterns}
use Rattle.terms.specs.Accepted.{AcceptedRule}
use Rattle.sheet.specs.declared.Took.{Took}
use Rattle.sheet.specs.views.Noted.{rule_notes}
use Rattle.sheet.specs.views.NoteArray.{notes_in, took_notes, bytes_used, notes_made, TookWithin}
use Rattle.sheet.specs.ReadSheet.{read_rule, read_rules}
use Rattle.sheet.proofs.ReadsSound.{rule_sound}
use Rattle.pairs.specs.views.NoteVariables.{Placed}
use Rattle.sheet_tests.specs.views.Gathered.{Gathered, gathered, gather, rule_places, rule_codes}
use Rattle.sheet_tests.proofs.NotedTests.{rule_placed}
use Rattle.sheet_tests.proofs.Gathering.{gather_more}
use Rattle.records.proofs.ByteLists.{bytes_drop}

-- A rule that was read behind the first bytes of a list: b bytes, n notes.
pub record RuleRead (arity at : ℕ) (s notes : List ℕ) (b n : ℕ) : Type 0 where
  pub rule : Patterns
  pub read : read_rule arity (drop at s) ≡ took b rule
  pub noted : notes_in notes n ≡ rule_notes rule
  pub accepted : AcceptedRule arity rule
  pub placed : All Placed (notes_in notes n)
  pub used : b ≤ length s - at
  pub made : n ≤ 680

module _ (arity at : ℕ) (s notes : List ℕ) (r : Result Took Refusal)
    (e : took_notes notes r ≡ map_reading rule_notes (read_rule arity (take (length s - at) (drop at s)))) where
  behind : took_notes notes r ≡ map_reading rule_notes (read_rule arity (drop at s))
  behind = e ∙ ap (λ (t : List ℕ). map_reading rule_notes (read_rule arity t)) (rest s at)

  -- What the reader of a rule says where it read one.
  pub rule_read_lem
      : {t : Took} → arity ≤ 8 → AreBytes s → r ≡ Ok t → TookWithin (length (take (length s - at) (drop at s))) 680 notes r
      → RuleRead arity at s notes t.bytes t.notes
  rule_read_lem few bytes same within =
      let (rule, read, noted) = took_view rule_notes (read_rule arity (drop at s)) (sym (ap (took_notes notes) same) ∙ behind) in
      let accepted = rule_sound arity (drop at s) (bytes_drop at s bytes) read in
      record {
        rule = rule;
        read = read;
        noted = noted;
        accepted = accepted;
        placed = subst (All Placed) (sym noted) (rule_placed arity rule accepted few);
        used = omega (arith, within.used, ap bytes_used same, rest_length s at);
        made = omega (arith, within.made, ap notes_made same);
      }

  -- What it says where it refused.
  pub rule_refused : {x : Refusal} → r ≡ Err x → read_rule arity (drop at s) ≡ refused (number x)
  rule_refused same = refused_view rule_notes (read_rule arity (drop at s)) (sym (ap (took_notes notes) same) ∙ behind)

-- A slice's elements are bytes.
pub bytes_known : (s : List ℕ) → ((i : ℕ) → get_or s i 0 < 256) → AreBytes s
bytes_known [] h = tt
bytes_known (x ∷ s) h = (h 0, bytes_known s (λ i. h (suc i)))

-- What comes of the rules from i on, behind the first bytes, where this was gathered before.
abbrev pub scan_from : ℕ → ℕ → List ℕ → ℕ → ℕ → Gathered → Reading Gathered
scan_from arity rules s i at g = after at (λ rs. gather rs g) (read_rules arity (rules - i) (drop at s))

After-more
    : {A : Type 0} {B C : Type 0} (a b : ℕ) (f : B → C) (g : A → B) (h : A → C) → ((x : A) → f (g x) ≡ h x)
    → (x : Reading A) → after a f (after b g x) ≡ after (a + b) h x
After-more a b f g h e (took c x) =
    let sum : a + (b + c) ≡ a + b + c = omega arith in
    λ i. took (sum i) (e x i)
After-more a b f g h e (refused q) = refl

module _ (arity rules : ℕ) (s : List ℕ) where
  module _ (i at : ℕ) (g : Gathered) where
    -- After the last rule none is to come.
    pub scan_end : rules ≤ i → took at g ≡ scan_from arity rules s i at g
    scan_end h =
        let e : at ≡ at + 0 = omega arith in
        ap (λ (k : ℕ). took k g) e
        ∙ sym (ap (after at (λ rs. gather rs g)) (row_none [] ◌∷◌ (read_rule arity) (rules - i) (drop at s) (omega arith)))

    module _ (h : i < rules) where
      -- A rule that is refused ends the reading.
      pub scan_refused : {q : ℕ} → read_rule arity (drop at s) ≡ refused q → refused q ≡ scan_from arity rules s i at g
      scan_refused e =
          sym (ap (after at (λ rs. gather rs g)) (row_refused [] ◌∷◌ (read_rule arity) (rules - i) (drop at s) (omega arith) e))

      -- A rule that is read is gathered, and the others follow it.
      pub scan_next
          : {b : ℕ} (rule : Patterns) → read_rule arity (drop at s) ≡ took b rule
          → scan_from arity rules s (i + 1) (at + b) (gathered (rule_places rule) (rule_codes rule) g)
          ≡ scan_from arity rules s i at g
      scan_next {b} rule e =
          let next = gathered (rule_places rule) (rule_codes rule) g in
          let less : rules - (i + 1) ≡ rules - i - 1 = omega arith in
          (λ j. after (at + b) (λ rs. gather rs next) (read_rules arity (less j) (sym (drop-drop b at s) j)))
          ∙ sym
          (ap (after at (λ rs. gather rs g)) (row_next [] ◌∷◌ (read_rule arity) (rules - i) (drop at s) (omega arith) e)
          ∙ After-more at b (λ rs. gather rs g) (λ rs. rule ∷ rs) (λ rs. gather rs next) (λ rs. gather_more rule rs g)
          (read_rules arity (rules - i - 1) (drop b (drop at s))))

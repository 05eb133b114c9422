-- Loops over the notes in an array that keep the pairs of a rule.
use Prim.Native.Nat.{ℕ, ◌+◌, ◌≤◌, ◌<◌}
use mathlib.Core.Path.{◌≡◌, refl, sym, ap, ◌∙◌, subst}
use mathlib.Core.Bool.{Bool, true, false, cond}
use mathlib.Core.List.{List, ◌∷◌, map-append}
use Rattle.std.specs.Prelude.{Option, Some, None}
use lib.Dec.{T, eqb}
use lib.ListN.{length, get_or, drop}
use Rattle.terms.specs.RuleTests.{both, pairs_with, pairs_of}
use Rattle.patterns.specs.views.Note.{Note, note}
use Rattle.patterns.specs.views.NoteCode.{code_place, code_record}
use Rattle.sheet.specs.views.NoteArray.{notes_in}
use Rattle.patterns.specs.declared.PatternRecord.{PatternRecord}
use Rattle.patterns.specs.declared.PatternRecord.TheVariants.{Anything, Symbol, Range, Compound, Variable, Ranged, Series, Gauged}
use Rattle.pairs.specs.views.KeptPairs.{KeptPairs, pair_code, keep, keep_all, pairs_in}
use Rattle.pairs.specs.views.NoteVariables.{name_of, names_variable, occurrence, notes_variables, pair_codes, codes_with, notes_codes}
use Rattle.pairs.proofs.KeptLists.{keep_append, keep_all_many, pairs_many}
use Rattle.pairs.proofs.NoteRows.{notes_next, notes_end}
use Rattle.masks.proofs.Listed.{cons_if}

-- Where too many are kept, what is left to keep changes nothing.
pub full_done
    : (left : List ℕ) (codes : List ℕ) (count : ℕ) {all : KeptPairs} → 64 < count → keep_all left (pairs_in codes count) ≡ all
    → pairs_in codes count ≡ all
full_done left codes count h e =
    let full = pairs_many codes count h in full ∙ sym (ap (keep_all left) full ∙ keep_all_many left) ∙ e

-- The pairs with a variable more.
named
    : (p v n u : ℕ) (ns : List Note) (b : Bool) → eqb v u ≡ b
    → pair_codes (pairs_with p v (record { place = n; name = u } ∷ notes_variables ns)) ≡ cons_if b (pair_code p n) (codes_with p v ns)
named p v n u ns true e =
    let rest = pairs_with p v (notes_variables ns) in
    ap (λ (c : Bool). pair_codes (cond c (both p n ∷ rest) rest)) e
named p v n u ns false e =
    let rest = pairs_with p v (notes_variables ns) in
    ap (λ (c : Bool). pair_codes (cond c (both p n ∷ rest) rest)) e

-- The pairs with a note more: a variable of that name, or any other record.
named_codes
    : (p v : ℕ) (n : ℕ) (what : PatternRecord) (ns : List Note) (b : Bool) → names_variable v what ≡ b
    → codes_with p v (note n what ∷ ns) ≡ cons_if b (pair_code p n) (codes_with p v ns)
named_codes p v n Anything ns true e = absurd (subst T (sym e) tt)
named_codes p v n Anything ns false e = refl
named_codes p v n (Symbol a) ns true e = absurd (subst T (sym e) tt)
named_codes p v n (Symbol a) ns false e = refl
named_codes p v n (Range l h) ns true e = absurd (subst T (sym e) tt)
named_codes p v n (Range l h) ns false e = refl
named_codes p v n (Compound a k) ns true e = absurd (subst T (sym e) tt)
named_codes p v n (Compound a k) ns false e = refl
named_codes p v n (Variable u) ns b e = named p v n u ns b e
named_codes p v n (Ranged u l h) ns b e = named p v n u ns b e
named_codes p v n (Series l h) ns true e = absurd (subst T (sym e) tt)
named_codes p v n (Gauged g l h) ns true e = absurd (subst T (sym e) tt)
named_codes p v n (Series l h) ns false e = refl
named_codes p v n (Gauged g l h) ns false e = refl

-- The pairs of a place of variable v with the notes from i on.
abbrev pub with_from : ℕ → ℕ → List ℕ → ℕ → ℕ → KeptPairs → KeptPairs
with_from p v codes n i k = keep_all (codes_with p v (drop i (notes_in codes n))) k

module _ (p v : ℕ) (codes : List ℕ) (n : ℕ) (within : n ≤ length codes) (i : ℕ) where
  with_step
      : (b : Bool) → i < n → names_variable v (code_record (get_or codes i 0)) ≡ b → (k : KeptPairs)
      → with_from p v codes n i k
      ≡ keep_all (cons_if b (pair_code p (code_place (get_or codes i 0))) (codes_with p v (drop (i + 1) (notes_in codes n)))) k
  with_step b h e k =
      let c = get_or codes i 0 in
      ap (λ (ns : List Note). keep_all (codes_with p v ns) k) (notes_next codes n within i h)
      ∙ ap (λ (cs : List ℕ). keep_all cs k) (named_codes p v (code_place c) (code_record c) (drop (i + 1) (notes_in codes n)) b e)

  -- A place of v makes a pair.
  pub with_yes
      : i < n → names_variable v (code_record (get_or codes i 0)) ≡ true → (k : KeptPairs)
      → with_from p v codes n (i + 1) (keep (pair_code p (code_place (get_or codes i 0))) k) ≡ with_from p v codes n i k
  with_yes h e k = sym (with_step true h e k)

  -- Any other note is passed.
  pub with_no : i < n → names_variable v (code_record (get_or codes i 0)) ≡ false → (k : KeptPairs) → with_from p v codes n (i + 1) k ≡ with_from p v codes n i k
  with_no h e k = sym (with_step false h e k)

  -- At the end none is left.
  pub with_end : n ≤ i → (k : KeptPairs) → with_from p v codes n i k ≡ k
  with_end h k = ap (λ (ns : List Note). keep_all (codes_with p v ns) k) (notes_end codes n within i h)

-- All pairs of the notes from i on.
abbrev pub pairs_from : List ℕ → ℕ → ℕ → KeptPairs → KeptPairs
pairs_from codes n i k = keep_all (notes_codes (drop i (notes_in codes n))) k

module _ (codes : List ℕ) (n : ℕ) (within : n ≤ length codes) (i : ℕ) where
  pairs_step
      : (name : Option ℕ) → i < n → name_of (code_record (get_or codes i 0)) ≡ name → (k : KeptPairs)
      → pairs_from codes n i k
      ≡ keep_all (pair_codes (pairs_of (occurrence (code_place (get_or codes i 0)) name (notes_variables (drop (i + 1) (notes_in codes n)))))) k
  pairs_step name h e k =
      let os = notes_variables (drop (i + 1) (notes_in codes n)) in
      ap (λ (ns : List Note). keep_all (notes_codes ns) k) (notes_next codes n within i h)
      ∙ ap (λ (x : Option ℕ). keep_all (pair_codes (pairs_of (occurrence (code_place (get_or codes i 0)) x os))) k) e

  -- A variable makes pairs with its later places.
  pub pairs_named
      : (v : ℕ) → i < n → name_of (code_record (get_or codes i 0)) ≡ Some v → (k : KeptPairs)
      → pairs_from codes n (i + 1) (keep_all (codes_with (code_place (get_or codes i 0)) v (drop (i + 1) (notes_in codes n))) k)
      ≡ pairs_from codes n i k
  pairs_named v h e k =
      let p = code_place (get_or codes i 0) in
      let os = notes_variables (drop (i + 1) (notes_in codes n)) in
      sym
      (pairs_step (Some v) h e k
      ∙ ap (λ (cs : List ℕ). keep_all cs k) (map-append _ (pairs_with p v os) (pairs_of os))
      ∙ keep_append (pair_codes (pairs_with p v os)) (pair_codes (pairs_of os)) k)

  -- Any other note is passed.
  pub pairs_nameless
      : i < n → name_of (code_record (get_or codes i 0)) ≡ None → (k : KeptPairs)
      → pairs_from codes n (i + 1) k ≡ pairs_from codes n i k
  pairs_nameless h e k = sym (pairs_step None h e k)

  -- At the end none is left.
  pub pairs_end : n ≤ i → (k : KeptPairs) → pairs_from codes n i k ≡ k
  pairs_end h k = ap (λ (ns : List Note). keep_all (notes_codes ns) k) (notes_end codes n within i h)

-- The bytes of a record's fields: where fields are read, their bytes stand.
use Prim.Native.Nat.{ℕ, suc, ◌+◌, ◌<◌, ◌≤◌}
use mathlib.Core.Path.{◌≡◌, sym, ap, ap₂, ◌∙◌}
use mathlib.Core.List.{List, [], ◌∷◌}
use native.Mathlib.Omega.{arith}
use native.Mathlib.Numerals.{add-one}
use lib.ListN.{length, get_or, drop}
use lib.Seq.{drop-cons}
use Rattle.records.specs.Fields.{IsByte, wide_at, wide_then}
use Rattle.records.proofs.WideFields.{high_of_lem, low_of_lem}
use Rattle.basics.specs.Lists.{All}
use Rattle.terms.specs.Term.{Wide}
use Rattle.records.proofs.ByteLists.{byte_at}

-- A byte that is not 0 is there.
pub kind_there : (s : List ℕ) {k : ℕ} → get_or s 0 0 ≡ k → 1 ≤ k → 1 ≤ length s
kind_there [] e some = omega arith
kind_there (b ∷ s) e some = omega arith

module _ (s : List ℕ) (h : All IsByte s) where
  -- A wide field of bytes is wide.
  pub wide_at_lem : (i : ℕ) → Wide (wide_at s i)
  wide_at_lem i = omega (arith, byte_at s i h, byte_at s (i + 1) h)

  -- A byte stands before what follows it.
  pub byte_then : (i : ℕ) {rest : List ℕ} → i < length s → drop (suc i) s ≡ rest → drop i s ≡ get_or s i 0 ∷ rest
  byte_then i there e = drop-cons s i 0 there ∙ ap (◌∷◌ (get_or s i 0)) e

  -- The kind stands before the body.
  pub kind_then : {k : ℕ} {rest : List ℕ} → get_or s 0 0 ≡ k → 1 ≤ k → drop 1 s ≡ rest → s ≡ k ∷ rest
  kind_then {k} {rest} kind some e = byte_then 0 (kind_there s kind some) e ∙ ap (λ (b : ℕ). b ∷ rest) kind

  -- The two bytes of a wide field stand before what follows them.
  pub wide_then_lem
      : (i : ℕ) {rest : List ℕ} → i + 2 ≤ length s → drop (suc (suc i)) s ≡ rest → drop i s ≡ wide_then (wide_at s i) rest
  wide_then_lem i {rest} there e =
      let high = byte_at s i h in
      let low = byte_at s (i + 1) h in
      let next : get_or s (suc i) 0 ≡ get_or s (i + 1) 0 = ap (λ (k : ℕ). get_or s k 0) (sym (add-one i)) in
      byte_then i (omega arith) (byte_then (suc i) (omega arith) e)
      ∙ ap₂ (λ (x y : ℕ). x ∷ y ∷ rest) (sym (high_of_lem _ _ high low)) (next ∙ sym (low_of_lem (get_or s i 0) _ high low))

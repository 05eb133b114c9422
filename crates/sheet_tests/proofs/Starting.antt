-- Where each rule begins, noted as the rules are read.
use Prim.Native.Nat.{ℕ, ◌+◌, ◌≤◌, ◌<◌}
use mathlib.Core.Path.{◌≡◌, sym, ap, ◌∙◌}
use mathlib.Core.List.{List}
use mathlib.Core.Logic.{by_cases}
use native.Mathlib.Decide.{ℕ_discrete}
use native.Mathlib.Numerals.{add-one}
use native.Mathlib.Omega.{arith}
use lib.ListN.{length, get_or, set, drop}
use lib.Seq.{get_or-set_same, get_or-set_other}
use Rattle.records.specs.Reading.{took}
use Rattle.terms.specs.Pattern.{Patterns}
use Rattle.sheet.specs.ReadSheet.{read_rule}
use Rattle.sheet_tests.specs.views.Starts.{bytes_read, rule_start, StartsIn}

module _ (arity : ℕ) (s : List ℕ) where
  module _ (i at : ℕ) (is : at ≡ rule_start arity s i) where
    -- The next rule begins where it was noted,
    pub starts_put
        : (starts : List ℕ) → i < length starts → at ≤ length s → StartsIn arity s starts i
        → StartsIn arity s (set starts i at) (i + 1)
    starts_put starts inside there before k h =
        by_cases (ℕ_discrete k i)
        (λ (e : k ≡ i).
        let put = ap (λ (j : ℕ). get_or (set starts i at) j 0) e ∙ get_or-set_same starts i at 0 inside in
        (put ∙ is ∙ ap (rule_start arity s) (sym e), omega (arith, put)))
        (λ (d : k ≡ i → ⊥).
        let kept = get_or-set_other starts i k at 0 d in
        let was = before k (omega arith) in
        (kept ∙ was.0, omega (arith, kept, was.1)))

    -- and the one after it behind its bytes.
    pub start_next
        : {b : ℕ} {rule : Patterns} → read_rule arity (drop at s) ≡ took b rule → at + b ≡ rule_start arity s (i + 1)
    start_next read =
        ap (λ (n : ℕ). at + n) (sym (ap bytes_read read))
        ∙ (λ j. is j + bytes_read (read_rule arity (drop (is j) s)))
        ∙ ap (rule_start arity s) (sym (add-one i))

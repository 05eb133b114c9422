-- What the record that a list of bytes begins with says of the list.
use Prim.Native.Nat.{ℕ, ◌≤◌}
use mathlib.Core.Path.{◌≡◌, refl, subst}
use mathlib.Core.Bool.{Bool, true, false, cond}
use mathlib.Core.List.{List}
use native.Mathlib.Omega.{arith}
use lib.ListN.{length, get_or}
use lib.Dec.{leb, eqb}
use borrow.Author.Tests.{leb-true, eqb-true, eqb-false}
use Rattle.records.specs.Fields.{wide_at}
use Rattle.records.proofs.Questions.{kind_cases}
use Rattle.patterns.specs.declared.PatternRecord.{PatternRecord}
use Rattle.patterns.specs.declared.PatternRecord.TheVariants.{Anything, Symbol, Range, Compound, Variable, Ranged, Series, Gauged}
use Rattle.std.specs.Prelude.{Ok, Err}
use Rattle.records.specs.declared.refusal.Refusal.TheVariants.{NotAPattern}
use Rattle.patterns.specs.views.PatternRecord.{PatternHead, record_bytes, whole_if, pattern_head}

module _ (P : PatternHead → Type 0) where
  whole : (k n : ℕ) (r : PatternRecord) → P (Err NotAPattern) → (k ≤ n → P (Ok r)) → P (whole_if (leb k n) r)
  whole k n r short long = go (leb k n) refl
    where
      go : (b : Bool) → leb k n ≡ b → P (whole_if b r)
      go true e = long (leb-true k n e)
      go false e = short

  module _ (s : List ℕ) where
    -- The record of one kind: short, or whole with its bytes there.
    kind_case
        : (kind k : ℕ) (r : PatternRecord) (others : PatternHead) → P (Err NotAPattern)
        → (k ≤ length s → get_or s 0 0 ≡ kind → P (Ok r)) → P others
        → P (cond (eqb (get_or s 0 0) kind) (whole_if (leb k (length s)) r) others)
    kind_case kind k r others short long other =
        kind_cases P (eqb (get_or s 0 0) kind) _ others
        (λ is. whole k (length s) r short (λ there. long there (eqb-true (get_or s 0 0) kind is))) (λ not. other)

    -- A head, by its kind.
    pub head_cases
        : P (Err NotAPattern) → (1 ≤ length s → get_or s 0 0 ≡ 0x20 → P (Ok Anything))
        → (3 ≤ length s → get_or s 0 0 ≡ 0x21 → P (Ok (Symbol (wide_at s 1))))
        → (5 ≤ length s → get_or s 0 0 ≡ 0x22 → P (Ok (Range (wide_at s 1) (wide_at s 3))))
        → (4 ≤ length s → get_or s 0 0 ≡ 0x23 → P (Ok (Compound (wide_at s 1) (get_or s 3 0))))
        → (2 ≤ length s → get_or s 0 0 ≡ 0x24 → P (Ok (Variable (get_or s 1 0))))
        → (6 ≤ length s → get_or s 0 0 ≡ 0x25 → P (Ok (Ranged (get_or s 1 0) (wide_at s 2) (wide_at s 4))))
        → (5 ≤ length s → get_or s 0 0 ≡ 0x26 → P (Ok (Series (wide_at s 1) (wide_at s 3))))
        → (6 ≤ length s → get_or s 0 0 ≡ 0x27 → P (Ok (Gauged (get_or s 1 0) (wide_at s 2) (wide_at s 4))))
        → P (pattern_head s)
    head_cases short any symbol range compound variable ranged series gauged =
        kind_cases P (eqb (length s) 0) _ _ (λ empty. short) (λ some.
        kind_cases P (eqb (get_or s 0 0) 0x20) _ _
        (λ is. any (omega (arith, eqb-false (length s) 0 some)) (eqb-true (get_or s 0 0) 0x20 is)) (λ not.
        kind_case 0x21 3 _ _ short symbol
        (kind_case 0x22 5 _ _ short range
        (kind_case 0x23 4 _ _ short compound
        (kind_case 0x24 2 _ _ short variable
        (kind_case 0x25 6 _ _ short ranged
        (kind_case 0x26 5 _ _ short series (kind_case 0x27 6 _ _ short gauged short))))))))

-- A record's bytes are there.
abbrev There : ℕ → PatternHead → Type 0
There n (Ok r) = record_bytes r ≤ n
There n (Err r) = Unit

-- A whole record's bytes are there.
pub head_whole : (s : List ℕ) {r : PatternRecord} → pattern_head s ≡ Ok r → record_bytes r ≤ length s
head_whole s e =
    subst (There (length s)) e
    (head_cases (There (length s)) s tt (λ there is. there) (λ there is. there) (λ there is. there) (λ there is. there)
    (λ there is. there) (λ there is. there) (λ there is. there) (λ there is. there))

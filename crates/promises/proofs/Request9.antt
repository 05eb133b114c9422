-- Request 9 of document 02, over bytes: "Question 3 then reads 64, and the live rules of every node with it. Sheets of up to 32
-- rules keep their graph."
use Prim.Native.Nat.{ℕ, ◌^◌, ◌≤◌, ◌<◌}
use mathlib.Core.Path.{◌≡◌, refl, sym, ap, ◌∙◌}
use mathlib.Core.Bool.{Bool, true, false}
use mathlib.Core.Logic.{◌↔◌}
use mathlib.Core.List.{List}
use native.Mathlib.Nat.{lt_of_lt_of_le}
use native.Mathlib.Omega.{arith}
use lib.Dec.{T, leb}
use lib.ListN.{length}
use lib.Pow.{pow_mono}
use borrow.Author.Tests.{leb-false, lt-leb}
use Rattle.masks.specs.Mask.{has}
use Rattle.masks.proofs.Extensionality.{mask_of_lt}
use Rattle.records.specs.Kinds.{kind_of}
use Rattle.records.specs.Fields.{byte_at, AreBytes}
use Rattle.records.specs.Reading.{Reading, took, refused, ask}
use Rattle.sheet.specs.Sheet.{Sheet, SheetHead}
use Rattle.sheet.specs.ReadSheet.{read_header}
use Rattle.sheet.proofs.SheetReads.{header_count}
use Rattle.sheet_tests.specs.CheckSheet.{accept_sheet, accept_up_to}
use Rattle.accepted.proofs.Acceptance.{sheet_accepted_lem}
use Rattle.accepted.proofs.RuleLimit.{accepted_up_to, few_rules_alike, limit_only}
use Rattle.decision.specs.Rules.{rules_where}
use Rattle.decision.specs.Key.{root_key}
use Rattle.decision.proofs.keys.Sets.{in_where}
use Rattle.order.specs.Asking.{Asking, read_asking}
use Rattle.build.specs.BuildOutcome.{sheet_built, outcome_in}

module _ (s : List ℕ) where
  -- "Question 3 then reads 64": behind a yes to questions 1 and 2 it gets a no exactly where there are more than 64 rules.
  pub question_3_reads_64
      : 3 ≤ length s → kind_of s ≡ 0x10 → 1 ≤ byte_at s 1 → byte_at s 1 ≤ 8 → (read_header s ≡ refused 3) ↔ (64 < byte_at s 2)
  question_3_reads_64 whole kind some few =
      let is = header_count s whole kind some few in (
        λ e. more (leb (byte_at s 2) 64) refl (sym is ∙ e),
        λ h. is ∙ ap asked (lt-leb (byte_at s 2) 64 h),
      )
    where
      asked : Bool → Reading SheetHead
      asked b = ask 3 b (took 3 (record { arity = byte_at s 1; rule_count = byte_at s 2 }))

      more : (b : Bool) → leb (byte_at s 2) 64 ≡ b → asked b ≡ refused 3 → 64 < byte_at s 2
      more false d e = leb-false (byte_at s 2) 64 d
      more true d e = let z : ◌≡◌ {A = ℕ} 0 1 = cc in absurd (omega arith)

  -- "And the live rules of every node with it": of an accepted sheet every set of rules, up to the 64th, is a number of 64 bits, and
  -- at the root each rule is live.
  pub live_rules_64
      : AreBytes s → {k : ℕ} {sheet : Sheet} → accept_sheet s ≡ took k sheet
      → (length sheet.rules ≤ 64) × ((p : ℕ → Bool) → rules_where sheet.rules p < 2 ^ 64)
      × ((i : ℕ) → i < length sheet.rules → T (has (root_key sheet.rules).live i))
  live_rules_64 are_bytes {k} {sheet} e =
      let few = ((sheet_accepted_lem s are_bytes k sheet).0 e).0.sound.few_rules in (
        few,
        λ p. lt_of_lt_of_le (mask_of_lt (length sheet.rules) p) (pow_mono few),
        λ i l. in_where (length sheet.rules) (λ j. true) i l tt,
      )

  -- A sheet of up to 32 rules is read as it was where 32 were allowed: accepted as the same sheet, or refused by the same number. All
  -- calls read a sheet so.
  pub few_rules_same : byte_at s 2 ≤ 32 → accept_sheet s ≡ accept_up_to 32 s
  few_rules_same few = accepted_up_to s ∙ sym (few_rules_alike s 32 64 few (omega arith))

  -- What was accepted where 32 were allowed is accepted as the same sheet.
  pub accepted_still : {k : ℕ} {sheet : Sheet} → accept_up_to 32 s ≡ took k sheet → accept_sheet s ≡ took k sheet
  accepted_still e = accepted_up_to s ∙ limit_only s 32 64 (omega arith) e

  -- "Sheets of up to 32 rules keep their graph", to the byte, in every buffer, in document 01's order and by every table; where it is
  -- not built, the refusal is the same.
  pub keeps_graph
      : byte_at s 2 ≤ 32 → (asking : Asking) (buffer : List ℕ)
      → outcome_in asking s buffer ≡ sheet_built (accept_up_to 32 s) (read_asking asking) buffer
  unfolding outcome_in
  keeps_graph few asking buffer = ap (λ (r : Reading Sheet). sheet_built r (read_asking asking) buffer) (few_rules_same few)

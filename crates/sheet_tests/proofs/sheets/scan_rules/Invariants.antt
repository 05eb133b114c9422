-- A loop over the rules: what comes of those left, with what is gathered, is what comes of all.
use Prim.Native.Nat.{◌≤◌}
use mathlib.Core.Path.{◌≡◌}
use lib.ListN.{length}
use Rattle.records.specs.Reading.{map_reading}
use Rattle.sheet.specs.ReadSheet.{read_rules}
use Rattle.sheet_tests.specs.views.Gathered.{gather, held}
use Rattle.sheet_tests.specs.views.Starts.{rule_start, StartsIn}
use Rattle.sheet_tests.proofs.Scanning.{scan_from}
use Rattle.sheet_tests.proofs.sheets.scan_rules.Given as goal

abbrev pub invariant-loop-i : goal.invariant-loop-i
invariant-loop-i l =
    (l.at ≤ length l.s) × (l.count ≤ 65) × (length l.notes ≡ 680) × (length l.words ≡ 11) × (length l.codes ≡ 65)
    × (scan_from l.arity l.rules l.s l.i l.at (held l.words l.codes l.count)
    ≡ map_reading (λ rs. gather rs (held l.initial.words l.initial.codes 0)) (read_rules l.arity l.rules l.s))
    × (length l.starts ≡ 64) × (l.at ≡ rule_start l.arity l.s l.i) × StartsIn l.arity l.s l.starts l.i

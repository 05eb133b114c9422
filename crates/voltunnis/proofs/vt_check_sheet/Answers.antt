-- The values of the check, packed.
use mathlib.Core.Path.{subst, ◌∙◌}
use Rattle.sheet_tests.specs.CheckSheet.{SheetValues}
use Rattle.packing.specs.Packed.{Packs, sheet_fields}
use Rattle.packing.proofs.ByNumber.{sheet_numbered}
use Rattle.voltunnis.proofs.vt_check_sheet.Goals as goal

pub returns : goal.returns
returns c =
    subst (λ (x : SheetValues). Packs c.pack_sheet_check.result (sheet_fields x))
    (sheet_numbered c.check_sheet.result c.numbered.ensures ∙ c.check_sheet.ensures) c.pack_sheet_check.ensures

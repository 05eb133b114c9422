-- The values of the check, packed.
use mathlib.Core.Path.{subst, ◌∙◌}
use Rattle.piece.specs.CheckPiece.{PieceValues}
use Rattle.packing.specs.Packed.{Packs, piece_fields}
use Rattle.packing.proofs.ByNumber.{piece_numbered}
use Rattle.voltunnis.proofs.vt_check_piece.Goals as goal

pub returns : goal.returns
returns c =
    subst (λ (x : PieceValues). Packs c.pack_piece_check.result (piece_fields x))
    (piece_numbered c.check_piece.result c.numbered.ensures ∙ c.check_piece.ensures) c.pack_piece_check.ensures

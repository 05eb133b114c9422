-- The laws of the plain answer of a sheet and a piece.
pub mod PieceAnswers
pub mod RulesBehind

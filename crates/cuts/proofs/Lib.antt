-- The laws that the proofs of `cuts` cite.
pub mod Splices
pub mod Cutting
pub mod FramedPass
pub mod Turning
-- The cases of a switch as runs of codes.
pub mod CodeRanges
pub mod CodeRuns
pub mod CaseCodes
-- Which rules turn at the cuts of a sheet, and which want what is between them.
pub mod Parity
pub mod AscendingCuts
pub mod RunningSets
pub mod Framing
pub mod ListedWants
pub mod TurningCuts
pub mod SwitchCases
-- All numbers in runs, and pairs of them.
pub mod UnionPairs
pub mod GaugePairs
pub mod Gauging
pub mod CutsToCome
pub mod GaugedRuns
pub mod CaseRuns
pub mod NameCodes
pub mod FramedSwitch
pub mod FramedNumbers
pub mod Parts
pub mod FramedCases
pub mod PairSwitch

-- The cuts are those of what a sheet's rules want.
use Rattle.std.specs.Prelude.{ℕ, zero, suc, ◌^◌, ◌<◌, ◌≡◌, Bool, false, ◌&&◌, List, [], length}
use Rattle.std.proofs.Math.Option.{Option, some, none}
use Rattle.masks.specs.Mask.{has}
use Rattle.terms.specs.Pattern.{Patterns}
use Rattle.terms.specs.RuleTests.{Want}
use Rattle.sheet_tests.specs.SheetTests.{place, sheet_tests}
use Rattle.decision.specs.Rules.{test_at, want_at, rules_where}
use Rattle.decision.specs.Cases.{Case, is_wanted}
use Rattle.codes.specs.views.Codes.{want_low, want_high}
use Rattle.decision.specs.views.CaseCodes.{case_low, case_high}
use Rattle.cuts.specs.views.Cuts.{Cut, toggle, cuts_in, part_at}
use Rattle.cuts.specs.views.Runs.{Run}

-- Rule i turns where what it wants begins, and after its end.
abbrev pub turn_rule : ℕ → Option Want → List Cut → List Cut
turn_rule i none cuts = cuts
turn_rule i (some w) cuts = toggle (suc (want_high w)) (2 ^ i) (toggle (want_low w) (2 ^ i) cuts)

module _ (rules : List Patterns) (n : ℕ) where
  -- The cuts of the first so many rules at place n.
  abbrev pub cuts_to : ℕ → List Cut
  cuts_to zero = []
  cuts_to (suc i) = turn_rule i (want_at rules i n) (cuts_to i)

  -- A case as a run, with the live rules that want something that it takes.
  abbrev pub takes_for : Case → Option Want → Bool
  takes_for c none = false
  takes_for c (some w) = is_wanted c w

  abbrev pub case_run : ℕ → Case → Run
  case_run live c = record {
    low = case_low c;
    high = case_high c;
    set = rules_where rules (λ i. has live i && takes_for c (want_at rules i n));
  }

-- Each place test has in its part the cuts of all rules at its place.
abbrev pub CutsOf : List Patterns → List ℕ → Type 0
CutsOf rules c =
    (t n : ℕ) → t < length (sheet_tests rules) → test_at rules t ≡ place n
    → cuts_in c (part_at (length rules) t) ≡ cuts_to rules n (length rules)

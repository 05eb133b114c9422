-- The check of a switch from what was found of its cases.
use Prim.Native.Nat.{ℕ, zero, suc, ◌+◌, ◌*◌, ◌<◌, ◌≤◌}
use mathlib.Core.Path.{◌≡◌, refl, sym, ap, subst, ◌∙◌}
use mathlib.Core.Bool.{Bool, true, false, ◌&&◌}
use mathlib.Core.List.{List, ◌∷◌}
use native.Mathlib.Omega.{arith}
use borrow.Author.Tests.{le-leb, lt-leb}
use lib.Dec.{leb, ltb}
use lib.ListN.{drop}
use Rattle.std.specs.Prelude.{Result, Ok, Err}
use Rattle.records.specs.Refusals.{number}
use Rattle.records.specs.declared.refusal.Refusal.{Refusal}
use Rattle.records.specs.Reading.{Reading, took, refused, ask, map_reading, after, and_then, read_row}
use Rattle.records.proofs.Rows.{took_view, refused_view}
use Rattle.sheet_tests.specs.SheetTests.{Test, place}
use Rattle.decision.specs.Node.{CaseEdge, switch}
use Rattle.graph.specs.declared.NodeRecord.TheVariants.{Switch}
use Rattle.node_check.specs.declared.CasesFound as given
use Rattle.graph.specs.declared.CaseRecord.{CaseRecord}
use Rattle.graph.specs.declared.CaseRecord.TheVariants.{Symbols, Compound, Numbers}
use Rattle.graph.specs.views.NodeRecord.{switch_length, case_head, on_case, on_node}
use Rattle.graph.specs.ReadGraph.{read_cases, all_inside, cases_ascend, ask_range_and_order, read_case}
use Rattle.node_check.specs.views.CaseRanges.{CasesFound, cases_found, checked_cases}
use Rattle.node_check.specs.views.CheckNode.{bytes_read, switch_check}
use Rattle.node_check.proofs.CasesPass.{HeadFits, head_fits}
use Rattle.graph.proofs.ByKinds.{case_by_kind}

-- What is known of the reading of n cases: a case has at most 8 bytes, and question 22 alone refuses.
abbrev CasesTold : {A : Type 0} → ℕ → Reading A → Type 0
CasesTold n (took a x) = a ≤ 8 * n
CasesTold n (refused q) = 22 ≡ q

case_told : (s : List ℕ) (h : Result CaseRecord Refusal) → HeadFits s h → CasesTold 1 (on_case h)
case_told s (Ok (Symbols l h n)) f = omega arith
case_told s (Ok (Compound a k n)) f = omega arith
case_told s (Ok (Numbers l u n g)) f = omega arith
case_told s (Err r) f = f

cases_told : (n : ℕ) (s : List ℕ) → CasesTold n (read_cases n s)
unfolding read_row
cases_told zero s = omega arith
cases_told (suc n) s =
    first (read_case s) (subst (CasesTold 1) (sym (case_by_kind s)) (case_told s (case_head s) (head_fits s)))
    (λ a. cases_told n (drop a s))
  where
    behind
        : (a : ℕ) (c : CaseEdge ℕ) (r : Reading (List (CaseEdge ℕ))) → a ≤ 8 → CasesTold n r
        → CasesTold (suc n) (after a (◌∷◌ c) r)
    behind a c (took b cs) small h = omega arith
    behind a c (refused q) small h = h

    first
        : (r : Reading (CaseEdge ℕ)) → CasesTold 1 r → ((a : ℕ) → CasesTold n (read_cases n (drop a s)))
        → CasesTold (suc n) (and_then r (λ a c. after a (◌∷◌ c) (read_cases n (drop a s))))
    first (took a c) h f = behind a c (read_cases n (drop a s)) h (f a)
    first (refused q) h f = h

-- What is asked of a node after it was read does not go by what it is.
asked_any : {A : Type 0} (x : A) (b c : Bool) (a : ℕ) → bytes_read (ask 23 b (ask 24 c (took a x))) ≡ bytes_read {A = Unit} (ask 23 b (ask 24 c (took a tt)))
asked_any x true true a = refl
asked_any x true false a = refl
asked_any x false c a = refl

-- Cases have few bytes.
pub switch_bytes
    : (count nodes : ℕ) (s : List ℕ) (r : Result given.CasesFound Refusal) {f : given.CasesFound}
    → checked_cases r ≡ map_reading (cases_found nodes) (read_cases count s) → r ≡ Ok f → f.bytes ≤ 8 * count
switch_bytes count nodes s r e h =
    let view = took_view (cases_found nodes) (read_cases count s) (ap checked_cases (sym h) ∙ e) in
    subst (CasesTold count) view.1 (cases_told count s)

-- A switch is checked by its parts.
pub switch_asked
    : (test : Test → Bool) (rules nodes : ℕ) (s : List ℕ) (n count x y : ℕ) {known : Bool}
    → known ≡ (test (place n) && ltb x nodes && ltb y nodes)
    → switch_check known count nodes (drop switch_length s) ≡ bytes_read (ask_range_and_order test rules nodes (on_node s (Ok (Switch n count x y))))
switch_asked test rules nodes s n count x y {known} e = go (leb 1 count) (read_cases count (drop switch_length s))
  where
    go
        : (b : Bool) (r : Reading (List (CaseEdge ℕ)))
        → bytes_read (ask 22 b (and_then r (λ a cs. ask 23 (known && all_inside nodes cs) (ask 24 (cases_ascend cs) (took (switch_length + a) cs)))))
        ≡ bytes_read (ask_range_and_order test rules nodes (ask 22 b (after switch_length (λ cs. switch n cs x y) r)))
    go true (took a cs) =
        asked_any cs (known && all_inside nodes cs) (cases_ascend cs) (switch_length + a)
        ∙ ap (λ (k : Bool). bytes_read {A = Unit} (ask 23 (k && all_inside nodes cs) (ask 24 (cases_ascend cs) (took (switch_length + a) tt)))) e
        ∙ sym (asked_any (switch n cs x y) ((test (place n) && ltb x nodes && ltb y nodes) && all_inside nodes cs) (cases_ascend cs) (switch_length + a))
    go true (refused q) = refl
    go false r = refl

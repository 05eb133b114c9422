-- The order in which a build asks the tests of a sheet, document 01's or that of an accepted table, is an asking order.
use Prim.Native.Nat.{ℕ}
use mathlib.Core.Path.{◌≡◌, refl, sym, subst, ◌∙◌}
use mathlib.Core.List.{List}
use Rattle.basics.proofs.Clash.{clash}
use Rattle.records.specs.Reading.{Reading, took, refused, map_reading}
use Rattle.terms.specs.Pattern.{Patterns}
use Rattle.sheet.specs.Sheet.{Sheet}
use Rattle.sheet_tests.specs.CheckSheet.{AcceptedSheet}
use Rattle.decision.specs.Graph.{lowest_first}
use Rattle.decision.specs.AskingOrder.{AskingOrder}
use Rattle.decision.specs.PlaceOrder.{order_by}
use Rattle.decision.proofs.keys.AskedFirst.{lowest_first_lem}
use Rattle.order.specs.Asking.{Asking, lowest, by_table, read_asking}
use Rattle.order.specs.Table.{read_table}
use Rattle.order.proofs.TableAsks.{table_asks}
use Rattle.build.specs.Building.{Building}

pub asking_asks
    : (asking : Asking) {n : ℕ} {order : List Patterns → List ℕ} → read_asking asking ≡ took n order
    → (sheet : Sheet) → AcceptedSheet sheet → AskingOrder sheet.rules (order sheet.rules)
asking_asks lowest {n} {order} e sheet accepted =
    let same : lowest_first ≡ order = cc in
    subst (λ (f : List Patterns → List ℕ). AskingOrder sheet.rules (f sheet.rules)) same (lowest_first_lem sheet.rules)
asking_asks (by_table table) {n} {order} e sheet accepted = go (read_table table) refl e
  where
    go
        : (r : Reading (List ℕ)) → read_table table ≡ r → map_reading order_by r ≡ took n order
        → AskingOrder sheet.rules (order sheet.rules)
    go (took k places) d h =
        let same : order_by places ≡ order = cc in
        subst (λ (f : List Patterns → List ℕ). AskingOrder sheet.rules (f sheet.rules)) same
        (table_asks table places d sheet accepted)
    go (refused q) d h = clash (cc)

-- A build has no other order.
pub order_is
    : {asking : Asking} {s buffer : List ℕ} (b : Building asking s buffer) {n : ℕ} {order : List Patterns → List ℕ}
    → read_asking asking ≡ took n order → b.order ≡ order
order_is b {n} {order} e = let both : took b.table_taken b.order ≡ took n order = sym b.ordered ∙ e in cc

-- An accepted table has all places, each once and none before its parent, and asks the tests of each sheet in an asking order.
use Prim.Native.Nat.{ℕ, ◌*◌}
use mathlib.Core.Path.{◌≡◌, refl, sym, ap, subst, ◌∙◌}
use mathlib.Core.Bool.{Bool, true, false}
use mathlib.Core.List.{List}
use lib.Dec.{eqb}
use lib.ListN.{length, length-map}
use Rattle.basics.specs.Lists.{count_from}
use Rattle.basics.proofs.Clash.{clash}
use Rattle.basics.proofs.Counting.{count_length}
use Rattle.records.specs.Fields.{wide_at}
use Rattle.records.specs.Reading.{took, ask}
use Rattle.sheet.specs.Sheet.{Sheet}
use Rattle.sheet_tests.specs.CheckSheet.{AcceptedSheet}
use Rattle.decision.specs.AskingOrder.{AskingOrder}
use Rattle.decision.specs.PlaceOrder.{order_by}
use Rattle.decision.proofs.keys.OrderByPlaces.{places_ask}
use Rattle.order.specs.Table.{table_places, each_once, parents_first, read_table}
use Rattle.order.proofs.EveryPlace.{every_place}
use Rattle.order.proofs.PlacesAbove.{above_first}

-- A table has 680 entries, whatever its bytes are.
pub table_length : (bytes : List ℕ) → length (table_places bytes) ≡ 680
unfolding table_places
table_length bytes = length-map (count_from 0 680) (λ (i : ℕ). wide_at bytes (2 * i)) ∙ count_length 0 680

-- What an accepted table's questions say of its places.
pub record Ordering (bytes places : List ℕ) : Type 0 where
  pub size : length places ≡ 680
  pub read : table_places bytes ≡ places
  pub once : each_once places ≡ true
  pub first : parents_first places ≡ true

pub table_ordering : (bytes places : List ℕ) {k : ℕ} → read_table bytes ≡ took k places → Ordering bytes places
unfolding read_table
table_ordering bytes places {k} e = go (eqb (length bytes) 1360) (each_once read) refl (parents_first read) refl e
  where
    read : List ℕ
    read = table_places bytes

    go
        : (a once : Bool) → each_once read ≡ once → (first : Bool) → parents_first read ≡ first
        → ask 28 a (ask 29 once (ask 30 first (took 1360 read))) ≡ took k places → Ordering bytes places
    go true true f true g d =
        let same : read ≡ places = cc in
        record {
          size = sym (ap length same) ∙ table_length bytes;
          read = same;
          once = subst (λ (l : List ℕ). each_once l ≡ true) same f;
          first = subst (λ (l : List ℕ). parents_first l ≡ true) same g;
        }
    go true true f false g d = clash (cc)
    go true false f first g d = clash (cc)
    go false once f first g d = clash (cc)

-- "Replaces the ascending order of places": an accepted table gives an asking order for every accepted sheet.
pub table_asks
    : (bytes places : List ℕ) {k : ℕ} → read_table bytes ≡ took k places → (sheet : Sheet) → AcceptedSheet sheet
    → AskingOrder sheet.rules (order_by places sheet.rules)
table_asks bytes places e =
    let t = table_ordering bytes places e in
    places_ask places (every_place places t.once t.size) (above_first places t.once t.size t.first)

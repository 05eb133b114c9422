-- Which vertex a key is, read off the tables of a sheet.
use Prim.Native.Nat.{ℕ, ◌^◌, ◌<◌}
use mathlib.Core.Path.{◌≡◌, refl, sym, ap, ◌∙◌}
use mathlib.Core.Bool.{Bool, true, false, ◌&&◌, not, and-true, and-false, cond}
use mathlib.Core.List.{List, [], ◌∷◌}
use native.Mathlib.Nat.{lt_of_lt_of_le}
use lib.Count.{ones, count_trailing_zeros}
use lib.ListN.{length}
use lib.Pow.{pow_mono}
use Rattle.basics.specs.Lists.{any_below}
use Rattle.basics.proofs.AnyBelow.{any_some}
use Rattle.basics.proofs.Booleans.{by_test}
use Rattle.masks.specs.Mask.{has, members}
use Rattle.masks.proofs.Membership.{has_above}
use Rattle.masks.proofs.Extensionality.{mask_of_lt, has_mask_of, has_is, mask_of_same}
use Rattle.masks.proofs.Members.{members_ones, members_one}
use Rattle.masks.proofs.OneMember.{one_power}
use Rattle.masks.proofs.Subsets.{Subset}
use Rattle.terms.specs.Pattern.{Patterns}
use Rattle.sheet_tests.specs.SheetTests.{sheet_tests}
use Rattle.decision.specs.Rules.{has_test}
use Rattle.decision.specs.Key.{Key, leaf, asking, suspend_node, two_or_more, is_held, key_of, settled, vertex_with, vertex_of}
use Rattle.decision.specs.Edges.{leads_to}
use Rattle.tables.specs.views.Planes.{row_in, column_in}
use Rattle.tables.specs.views.TablesOf.{TablesOf}
use Rattle.edges.specs.views.VertexKey.{key_with, vertex_key}
use Rattle.edges.specs.views.KeysBehind.{common, settled_in, held_in, lead_by, lead_in}
use Rattle.edges.proofs.Widths.{any_within, members_within, those_where}

-- An edge leads to one vertex, however the tests that are left are said.
pub leads_same
    : (rules : List Patterns) (live : ℕ) (p q : ℕ → Bool) → ((t : ℕ) → t < length (sheet_tests rules) → p t ≡ q t)
    → leads_to rules live p ≡ leads_to rules live q
leads_same rules live p q same =
    ap (λ (x : ℕ). vertex_of rules (record { live = live; pending = x }))
    (mask_of_same (length (sheet_tests rules)) (λ t. p t && is_held rules live t) (λ t. q t && is_held rules live t)
    (λ t l. ap (λ (b : Bool). b && is_held rules live t) (same t l)))

-- Of some live rules, those are settled that are settled among more.
pub settled_among
    : (s : List ℕ) (part live left : ℕ) → Subset part live → common part (settled_in s live left) ≡ settled_in s part left
unfolding common settled_in
settled_among s part live left within =
    mask_of_same 64 _ _
    (λ i l.
    ap (λ (b : Bool). has part i && b)
    (has_mask_of 64 (λ j. has live j && not (any_below 64 (λ t. has left t && has (column_in s t) j))) i l)
    ∙ by_test (has part i)
    (λ y. ap (λ (b : Bool). has part i && (b && not (any_below 64 (λ t. has left t && has (column_in s t) i)))) (within i y))
    (λ n. rw n))

-- A set with one member is a power of 2.
power_of : (m i : ℕ) → m < 2 ^ 64 → members 64 m ≡ i ∷ [] → m ≡ 2 ^ i
power_of m i h e =
    let one : ones m ≡ 1 = sym (members_ones 64 m h) ∙ ap length e in
    let same : i ∷ [] ≡ count_trailing_zeros 64 m ∷ [] = sym e ∙ members_one 64 m h one in
    let lowest : count_trailing_zeros 64 m ≡ i = cc in
    one_power 64 m h one ∙ ap (λ (k : ℕ). 2 ^ k) lowest

module _ (rules : List Patterns) (order s : List ℕ) (tables : TablesOf rules order s) where
  -- A row has the tests of its rule,
  row_has : (i t : ℕ) → i < length rules → t < length (sheet_tests rules) → has (row_in s i) t ≡ has_test rules i t
  row_has i t h k = has_is (length (sheet_tests rules)) (has_test rules i) (tables.row i h) t k

  -- and a column the rules with its test.
  pub column_has : (i t : ℕ) → i < length rules → t < length (sheet_tests rules) → has (column_in s t) i ≡ has_test rules i t
  column_has i t h k = has_is (length rules) (λ j. has_test rules j t) (tables.column t k) i h

  module _ (live left : ℕ) (fits : live < 2 ^ length rules) (within : left < 2 ^ length (sheet_tests rules)) where
    abbrev key : Key
    key = key_of rules live (has left)

    -- The tests left that are in the rows of live rules are the pending ones.
    held_is : held_in s live left ≡ key.pending
    unfolding held_in
    held_is =
        those_where (length (sheet_tests rules)) left (λ t. any_below 64 (λ i. has live i && has (row_in s i) t)) (is_held rules live)
        tables.few_tests within
        (λ t h y.
        any_within (length rules) 64 (λ i. has live i && has (row_in s i) t) (λ i. has live i && has_test rules i t)
        tables.few_rules (λ i l. ap (λ (b : Bool). has live i && b) (row_has i t l h))
        (λ i l. ap (λ (b : Bool). b && has (row_in s i) t) (has_above (length rules) live i fits l)))

    -- A test left that a live rule has is pending.
    pends : (i t : ℕ) → i < length rules → has live i ≡ true → t < length (sheet_tests rules)
        → has left t && has_test rules i t ≡ has key.pending t && has_test rules i t
    pends i t h y k =
        by_test (has_test rules i t)
        (λ e.
        let held : is_held rules live t ≡ true = any_some (length rules) i (λ j. has live j && has_test rules j t) h (rw (y, e)) in
        let same : has left t && is_held rules live t ≡ has left t = rw (held, and-true (has left t)) in
        ap (λ (b : Bool). b && has_test rules i t)
        (sym (has_mask_of (length (sheet_tests rules)) (λ u. has left u && is_held rules live u) t k ∙ same)))
        (λ e. rw (e, and-false (has left t), and-false (has key.pending t)))

    -- The live rules that no column of a test left has are settled.
    settled_is : settled_in s live left ≡ settled rules key
    unfolding settled_in
    settled_is =
        let m = length (sheet_tests rules) in
        those_where (length rules) live (λ i. not (any_below 64 (λ t. has left t && has (column_in s t) i)))
        (λ i. not (any_below m (λ t. has key.pending t && has_test rules i t))) tables.few_rules fits
        (λ i l y.
        ap not
        (any_within m 64 (λ t. has left t && has (column_in s t) i) (λ t. has key.pending t && has_test rules i t)
        tables.few_tests
        (λ t k. ap (λ (b : Bool). has left t && b) (column_has i t l k) ∙ pends i t l y k)
        (λ t k. ap (λ (b : Bool). b && has (column_in s t) i) (has_above m left t within k))))

    -- The settled live rules are as many at both widths.
    settled_members : {clear : ℕ} → clear ≡ settled_in s live left → members 64 clear ≡ members (length rules) (settled rules key)
    settled_members e =
        ap (members 64) (e ∙ settled_is)
        ∙ members_within (length rules) 64 (settled rules key) tables.few_rules
        (mask_of_lt (length rules)
        (λ i. has live i && not (any_below (length (sheet_tests rules)) (λ t. has key.pending t && has_test rules i t))))

    -- Where the settled rules are given, the code's key is that of the vertex.
    pub lead_is
        : (clear : ℕ) → common live clear ≡ settled_in s live left
        → lead_in s live left clear ≡ vertex_key (leads_to rules live (has left))
    lead_is clear e =
        go (members 64 live) refl
        ∙ ap (λ (l : List ℕ). vertex_key (vertex_with rules l key)) (members_within (length rules) 64 live tables.few_rules fits)
      where
        small : live < 2 ^ 64
        small = lt_of_lt_of_le fits (pow_mono tables.few_rules)

        chosen
            : (b : Bool)
            → cond b (key_with 0 1) (key_with live (held_in s live left)) ≡ vertex_key (cond b (leaf suspend_node) (asking key))
        chosen true = refl
        chosen false = ap (key_with live) held_is

        go : (l : List ℕ) → members 64 live ≡ l → lead_by s l live left clear ≡ vertex_key (vertex_with rules l key)
        go [] d = refl
        go (i ∷ []) d = ap (λ (x : ℕ). key_with x 0) (power_of live i small d)
        go (i ∷ (j ∷ l)) d =
            chosen (two_or_more (members 64 (common live clear)))
            ∙ ap (λ (l : List ℕ). vertex_key (cond (two_or_more l) (leaf suspend_node) (asking key))) (settled_members e)

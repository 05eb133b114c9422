-- The records of cases and nodes, and a graph's first record, read by the table of kinds and by the records that the program
-- declares: it is the same.
use Prim.Native.Nat.{ℕ, ◌≤◌}
use mathlib.Core.Path.{◌≡◌, refl, sym, subst, ◌∙◌, ap}
use mathlib.Core.Bool.{Bool, true, false, ◌&&◌, ◌||◌, true≢false}
use mathlib.Core.Logic.{⊎_elim}
use mathlib.Core.List.{List, [], ◌∷◌}
use native.Mathlib.Omega.{arith}
use borrow.Author.Tests.{ne_eqb, eq-eqb, le-leb}
use lib.Dec.{T, leb, eqb, eqb→eq, leb→le, le→leb}
use lib.ListN.{length, get_or}
use Rattle.std.specs.Prelude.{Result, Ok}
use Rattle.records.specs.declared.refusal.Refusal.{Refusal}
use Rattle.records.specs.Fields.{wide_at}
use Rattle.records.specs.Kinds.{record_length, kind_of, is_whole}
use Rattle.records.specs.Reading.{Reading, took, refused, ask}
use Rattle.basics.proofs.Booleans.{both_true, either_true, true_both, same_truth, by_test, is_true}
use Rattle.decision.specs.Node.{Node, CaseEdge, pair_node}
use Rattle.decision.specs.Graph.{most_nodes}
use Rattle.graph.specs.declared.Leaf.TheVariants.{Execute}
use Rattle.graph.specs.declared.NodeRecord.{NodeRecord}
use Rattle.graph.specs.declared.CaseRecord.{CaseRecord}
use Rattle.graph.specs.declared.NodeRecord.TheVariants.{End, Pair}
use Rattle.graph.specs.declared.CaseRecord.TheVariants.{Symbols, Compound, Numbers}
use Rattle.graph.specs.ReadGraph.{read_case, read_switch, read_record, has_header}
use Rattle.graph.specs.views.NodeRecord.{whole_node, whole_case, switch_length, switch_record, node_head, case_head, on_case, on_node}

-- Where the answer is no the question's number is given.
ask_no : {A : Type 0} (q : ℕ) (b : Bool) (r : Reading A) → (T b → ⊥) → ask q b r ≡ refused q
ask_no q true r h = absurd (h tt)
ask_no q false r h = refl

-- A whole record has one of the kinds, and its bytes are there.
pub whole_told
    : (first last : ℕ) (s : List ℕ) → T (is_whole first last s)
    → (first ≤ kind_of s) × (kind_of s ≤ last) × (record_length (kind_of s) ≤ length s)
whole_told first last s h =
    let kind = kind_of s in
    let (bounds, there) = both_true (leb first kind && leb kind last) (leb (record_length kind) (length s)) h in
    let (low, high) = both_true (leb first kind) (leb kind last) bounds in
    (leb→le first kind low, leb→le kind last high, leb→le (record_length kind) (length s) there)

-- A record of one kind.
pub whole_one : (k : ℕ) (s : List ℕ) → is_whole k k s ≡ leb (record_length k) (length s) && eqb (kind_of s) k
whole_one k s =
    let size = record_length k in
    same_truth (is_whole k k s) (leb size (length s) && eqb (kind_of s) k)
    (λ h.
    let (low, high, there) = whole_told k k s h in
    let same : kind_of s ≡ k = omega arith in
    true_both (leb size (length s)) (eqb (kind_of s) k)
    (le→leb size (length s) (subst (λ (n : ℕ). record_length n ≤ length s) same there))
    (is_true (eq-eqb (kind_of s) k same)))
    (λ h.
    let (there, same) = both_true (leb size (length s)) (eqb (kind_of s) k) h in
    subst (λ (n : ℕ). T (leb k n && leb n k && leb (record_length n) (length s))) (sym (eqb→eq (kind_of s) k same))
    (true_both (leb k k && leb k k) (leb size (length s))
    (true_both (leb k k) (leb k k) (le→leb k k (omega arith)) (le→leb k k (omega arith))) there))

-- A whole case, and a whole node of one record.
case_whole
    : (b : Bool) (c : CaseRecord) (n : ℕ) (e : CaseEdge ℕ) → on_case (Ok c) ≡ took n e
    → ask 22 b (took n e) ≡ on_case (whole_case b c)
case_whole true c n e same = sym same
case_whole false c n e same = refl

node_whole
    : (s : List ℕ) (b : Bool) (r : NodeRecord) (x : Reading (Node ℕ)) → on_node s (Ok r) ≡ x
    → ask 22 (b || false) x ≡ on_node s (whole_node b r)
node_whole s true r x same = sym same
node_whole s false r x same = refl

module _ (s : List ℕ) where
  not_empty : (x : ℕ) → eqb (length (x ∷ s)) 0 ≡ false
  not_empty x = ne_eqb (length (x ∷ s)) 0 (λ e. omega arith)

  abbrev CaseSame : ℕ → Type 0
  CaseSame x = read_case (x ∷ s) ≡ on_case (case_head (x ∷ s))

  same_symbols : CaseSame 0x44
  unfolding read_case
  same_symbols =
      let r : List ℕ = 0x44 ∷ s in
      rw (not_empty 0x44) (case_whole (leb 7 (length r)) (Symbols (wide_at r 1) (wide_at r 3) (wide_at r 5)) _ _ refl)

  same_compound : CaseSame 0x45
  unfolding read_case
  same_compound =
      let r : List ℕ = 0x45 ∷ s in
      rw (not_empty 0x45) (case_whole (leb 6 (length r)) (Compound (wide_at r 1) (get_or r 3 0) (wide_at r 4)) _ _ refl)

  same_numbers : CaseSame 0x46
  unfolding read_case
  same_numbers =
      let r : List ℕ = 0x46 ∷ s in
      rw (not_empty 0x46) (case_whole (leb 8 (length r)) (Numbers (wide_at r 2) (wide_at r 4) (wide_at r 6) (get_or r 1 0)) _ _ refl)

  no_case : (x : ℕ) → (x ≡ 0x44 → ⊥) → (x ≡ 0x45 → ⊥) → (x ≡ 0x46 → ⊥) → CaseSame x
  unfolding read_case
  no_case x a b c =
      rw (not_empty x, ne_eqb x 0x44 a, ne_eqb x 0x45 b, ne_eqb x 0x46 c)
      (ask_no 22 (is_whole 0x44 0x46 (x ∷ s)) _ (λ h. let told = whole_told 0x44 0x46 (x ∷ s) h in omega arith))

  abbrev NodeSame : ℕ → Type 0
  NodeSame x = read_record (x ∷ s) ≡ on_node (x ∷ s) (node_head (x ∷ s))

  same_fail : NodeSame 0x40
  unfolding read_record
  same_fail = rw (not_empty 0x40, le-leb 1 (length (0x40 ∷ s)) (omega arith))

  same_suspend : NodeSame 0x41
  unfolding read_record
  same_suspend = rw (not_empty 0x41, le-leb 1 (length (0x41 ∷ s)) (omega arith))

  same_execute : NodeSame 0x42
  unfolding read_record
  same_execute =
      let r : List ℕ = 0x42 ∷ s in
      rw (not_empty 0x42) (node_whole r (leb 2 (length r)) (End (Execute (get_or r 1 0))) _ refl)

  same_switch : NodeSame 0x43
  unfolding read_record
  same_switch =
      let r : List ℕ = 0x43 ∷ s in
      rw (not_empty 0x43)
      (node_whole r (leb switch_length (length r)) (switch_record r) (read_switch r) refl)

  same_pair : NodeSame 0x47
  unfolding read_record
  same_pair =
      let r : List ℕ = 0x47 ∷ s in
      rw (not_empty 0x47) (go (leb 9 (length r)) (wide_at r 1) (wide_at r 3) (wide_at r 5) (wide_at r 7))
    where
      go
          : (b : Bool) (p q x y : ℕ)
          → ask 22 b (took 9 (pair_node p q x y)) ≡ on_node (0x47 ∷ s) (whole_node b (Pair p q x y))
      go true p q x y = refl
      go false p q x y = refl

  no_node : (x : ℕ) → (x ≡ 0x40 → ⊥) → (x ≡ 0x41 → ⊥) → (x ≡ 0x42 → ⊥) → (x ≡ 0x43 → ⊥) → (x ≡ 0x47 → ⊥) → NodeSame x
  unfolding read_record
  no_node x a b c d e =
      rw (not_empty x, ne_eqb x 0x40 a, ne_eqb x 0x41 b, ne_eqb x 0x42 c, ne_eqb x 0x43 d, ne_eqb x 0x47 e)
      (ask_no 22 (is_whole 0x40 0x43 (x ∷ s) || is_whole 0x47 0x47 (x ∷ s)) _
      (λ h. ⊎_elim
      (λ k. let told = whole_told 0x40 0x43 (x ∷ s) k in omega arith)
      (λ k. let told = whole_told 0x47 0x47 (x ∷ s) k in omega arith)
      (either_true (is_whole 0x40 0x43 (x ∷ s)) (is_whole 0x47 0x47 (x ∷ s)) h)))

-- What holds at a number, and at the others, holds at each.
at_number : (P : ℕ → Type 0) (n x : ℕ) → P n → ((x ≡ n → ⊥) → P x) → P x
at_number P n x this others =
    by_test (eqb x n) (λ e. subst P (sym (eqb→eq x n (is_true e))) this)
    (λ e. others (λ same. true≢false (sym (eq-eqb x n same) ∙ e)))

-- A case is read by the table as by the records that the program declares,
pub case_by_kind : (s : List ℕ) → read_case s ≡ on_case (case_head s)
unfolding read_case
case_by_kind [] = refl
case_by_kind (x ∷ s) =
    at_number (CaseSame s) 0x44 x (same_symbols s) (λ a.
    at_number (CaseSame s) 0x45 x (same_compound s) (λ b.
    at_number (CaseSame s) 0x46 x (same_numbers s) (λ c.
    no_case s x a b c)))

-- and so is a node.
pub node_by_kind : (s : List ℕ) → read_record s ≡ on_node s (node_head s)
unfolding read_record
node_by_kind [] = refl
node_by_kind (x ∷ s) =
    at_number (NodeSame s) 0x40 x (same_fail s) (λ a.
    at_number (NodeSame s) 0x41 x (same_suspend s) (λ b.
    at_number (NodeSame s) 0x42 x (same_execute s) (λ c.
    at_number (NodeSame s) 0x43 x (same_switch s) (λ d.
    at_number (NodeSame s) 0x47 x (same_pair s) (λ e.
    no_node s x a b c d e)))))

-- What was read, where the record is told.
pub case_read_by : (s : List ℕ) {h : Result CaseRecord Refusal} → case_head s ≡ h → read_case s ≡ on_case h
case_read_by s e = case_by_kind s ∙ ap on_case e

pub node_read_by : (s : List ℕ) {h : Result NodeRecord Refusal} → node_head s ≡ h → read_record s ≡ on_node s h
node_read_by s e = node_by_kind s ∙ ap (on_node s) e

-- The first record of a graph is told by its length and its kind.
pub header_by_kind
    : (arity rules : ℕ) (s : List ℕ)
    → has_header arity rules s
    ≡ leb 5 (length s) && eqb (get_or s 0 0) 0x12 && eqb (get_or s 1 0) arity && eqb (get_or s 2 0) rules && leb 1 (wide_at s 3)
    && leb (wide_at s 3) most_nodes
header_by_kind arity rules s = rw (whole_one 0x12 s)

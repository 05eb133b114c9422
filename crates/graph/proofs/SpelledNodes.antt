-- The records of nodes, with their cases, are read as they are written (question 22).
use Prim.Native.Nat.{ℕ, ◌+◌, ◌≤◌}
use mathlib.Core.Path.{◌≡◌, refl, sym, ap, subst, ◌∙◌}
use mathlib.Core.Bool.{Bool, true, false}
use mathlib.Core.List.{List, ◌∷◌, ◌++◌}
use native.Mathlib.Omega.{arith}
use borrow.Author.Tests.{le-leb, ne_eqb}
use lib.Dec.{T, leb, eqb, eqb→eq, leb→le}
use lib.ListN.{length, get_or, drop}
use lib.Seq.{drop-drop}
use Rattle.std.specs.Prelude.{Result, Ok}
use Rattle.records.specs.declared.refusal.Refusal.{Refusal}
use Rattle.records.specs.Fields.{IsByte, wide_at}
use Rattle.records.specs.Reading.{Reading, took, refused, ask, after}
use Rattle.records.proofs.WideFields.{wide_of_lem}
use Rattle.basics.specs.Lists.{All}
use Rattle.terms.specs.Term.{Wide}
use Rattle.decision.specs.Key.{fail_node, suspend_node, execute_node}
use Rattle.decision.specs.Node.{Node, CaseEdge, end, switch, pair_node}
use Rattle.decision.specs.GraphBytes.{most_cases, cases_bytes, node_bytes}
use Rattle.graph.specs.declared.Leaf.TheVariants.{Execute}
use Rattle.graph.specs.declared.NodeRecord.{NodeRecord}
use Rattle.graph.specs.declared.NodeRecord.TheVariants.{End, Switch, Pair}
use Rattle.graph.specs.views.NodeRecord.{whole_node, switch_length, switch_record, node_head, on_node}
use Rattle.graph.specs.views.WriteNode.{node_record_bytes}
use Rattle.graph.specs.ReadGraph.{read_cases, read_record}
use Rattle.graph.proofs.ByKinds.{node_by_kind}
use Rattle.graph.proofs.Spelling.{Reads, Spelled, GoodRow, begins_read}
use Rattle.graph.proofs.FieldBytes.{wide_at_lem, byte_then, kind_then, wide_then_lem}
use Rattle.graph.proofs.SpelledCases.{kind_holds, EdgeFields, cases_spelled}
use Rattle.records.proofs.ByteLists.{bytes_drop}

-- What the fields of a node's record can hold, its cases' too: one or more of them, and no more than can be counted.
abbrev pub NodeFields : Node ℕ → Type 0
NodeFields (end l) = Unit
NodeFields (switch n cs x y) =
    Wide n × Wide x × Wide y × (1 ≤ length cs) × (length cs ≤ most_cases) × All EdgeFields cs
NodeFields (pair_node p q x y) = Wide p × Wide q × Wide x × Wide y

node_brought
    : (node : Node ℕ) (rest : List ℕ) → NodeFields node
    → on_node (node_bytes node ++ rest) (node_head (node_bytes node ++ rest)) ≡ took (length (node_bytes node)) node
node_brought (end fail_node) rest h = rw (ne_eqb (length (0x40 ∷ rest)) 0 (λ e. omega arith))
node_brought (end suspend_node) rest h = rw (ne_eqb (length (0x41 ∷ rest)) 0 (λ e. omega arith))
node_brought (end (execute_node i)) rest h =
    let s = node_bytes (end (execute_node i)) ++ rest in
    rw (ne_eqb (length s) 0 (λ e. omega arith), le-leb 2 (length s) (omega arith))
node_brought (switch n cs x y) rest h =
    let s = node_bytes (switch n cs x y) ++ rest in
    rw (
      ne_eqb (length s) 0 (λ e. omega arith),
      le-leb switch_length (length s) (omega arith),
      wide_of_lem n h.0,
      wide_of_lem (length cs) (omega (arith, h.4)),
      wide_of_lem x h.1,
      wide_of_lem y h.2,
      le-leb 1 (length cs) h.3,
      (cases_spelled (length cs)).brought cs rest (refl, h.5),
    )
    (ap (λ (k : ℕ). took k (switch n cs x y)) size)
  where
    size : switch_length + length (cases_bytes cs) ≡ length (node_bytes (switch n cs x y))
    size = omega arith
node_brought (pair_node p q x y) rest h =
    let s = node_bytes (pair_node p q x y) ++ rest in
    rw (
      ne_eqb (length s) 0 (λ e. omega arith),
      le-leb 9 (length s) (omega arith),
      wide_of_lem p h.0,
      wide_of_lem q h.1,
      wide_of_lem x h.2,
      wide_of_lem y h.3,
    )

module _ (s : List ℕ) (h : All IsByte s) where
  abbrev Told : Result NodeRecord Refusal → Type 0
  Told r = Reads node_bytes NodeFields s (on_node s r)

  whole_told : (b : Bool) (r : NodeRecord) → (T b → Told (Ok r)) → Told (whole_node b r)
  whole_told true r f = f tt
  whole_told false r f = tt

  -- How many cases a switch says it has, and the switch with these.
  abbrev count : ℕ
  count = wide_at s 3

  abbrev switch_of : List (CaseEdge ℕ) → Node ℕ
  switch_of cs = switch (wide_at s 1) cs (wide_at s 5) (wide_at s 7)

  -- A switch, where its cases are read behind its record.
  module _ (there : switch_length ≤ length s) (kind : get_or s 0 0 ≡ 0x43) where
    cases_told
        : (r : Reading (List (CaseEdge ℕ))) → read_cases count (drop switch_length s) ≡ r → 1 ≤ count
        → Reads node_bytes NodeFields s (after switch_length switch_of r)
    cases_told (took a cs) e some =
        let behind = drop switch_length s in
        let row = begins_read cases_bytes (GoodRow EdgeFields count) (cases_spelled count) behind (bytes_drop switch_length s h) e in
        let rest = cases_bytes cs ++ drop (switch_length + a) s in
        record {
          good = (
            wide_at_lem s h 1,
            wide_at_lem s h 5,
            wide_at_lem s h 7,
            omega (arith, row.good.0),
            omega (arith, row.good.0, wide_at_lem s h 3),
            row.good.1,
          );
          size = omega (arith, row.size);
          begins =
              kind_then s h kind (omega arith)
              (wide_then_lem s h 1 (omega arith)
              (wide_then_lem s h 3 (omega arith)
              (wide_then_lem s h 5 (omega arith)
              (wide_then_lem s h 7 (omega arith)
              (row.begins ∙ ap (λ (l : List ℕ). cases_bytes cs ++ l) (drop-drop a switch_length s))))))
              ∙ ap
              (λ (k : ℕ). node_record_bytes (Switch (wide_at s 1) k (wide_at s 5) (wide_at s 7)) ++ rest)
              (sym row.good.0);
        }
    cases_told (refused q) e some = tt

    switch_told
        : (b : Bool) → (T b → 1 ≤ count)
        → Reads node_bytes NodeFields s (ask 22 b (after switch_length switch_of (read_cases count (drop switch_length s))))
    switch_told true some = cases_told (read_cases count (drop switch_length s)) refl (some tt)
    switch_told false some = tt

  -- Each kind of node with its fields.
  node_told : Told (node_head s)
  node_told =
      kind_holds Told (eqb (length s) 0) (λ e. tt)
      (kind_holds Told (eqb (get_or s 0 0) 0x40)
      (λ k. record { good = tt; size = refl; begins = kind_then s h (eqb→eq (get_or s 0 0) 0x40 k) (omega arith) refl })
      (kind_holds Told (eqb (get_or s 0 0) 0x41)
      (λ k. record { good = tt; size = refl; begins = kind_then s h (eqb→eq (get_or s 0 0) 0x41 k) (omega arith) refl })
      (kind_holds Told (eqb (get_or s 0 0) 0x42)
      (λ k. whole_told (leb 2 (length s)) (End (Execute (get_or s 1 0))) (λ l.
      let there = leb→le 2 (length s) l in
      record {
        good = tt;
        size = refl;
        begins = kind_then s h (eqb→eq (get_or s 0 0) 0x42 k) (omega arith) (byte_then s h 1 (omega arith) refl);
      }))
      (kind_holds Told (eqb (get_or s 0 0) 0x43)
      (λ k. whole_told (leb switch_length (length s)) (switch_record s) (λ l.
      switch_told (leb→le switch_length (length s) l) (eqb→eq (get_or s 0 0) 0x43 k) (leb 1 count) (leb→le 1 count)))
      (kind_holds Told (eqb (get_or s 0 0) 0x47)
      (λ k. whole_told (leb 9 (length s)) (Pair (wide_at s 1) (wide_at s 3) (wide_at s 5) (wide_at s 7)) (λ l.
      let there = leb→le 9 (length s) l in
      record {
        good = (wide_at_lem s h 1, wide_at_lem s h 3, wide_at_lem s h 5, wide_at_lem s h 7);
        size = refl;
        begins =
            kind_then s h (eqb→eq (get_or s 0 0) 0x47 k) (omega arith)
            (wide_then_lem s h 1 (omega arith)
            (wide_then_lem s h 3 (omega arith) (wide_then_lem s h 5 (omega arith) (wide_then_lem s h 7 (omega arith) refl))));
      }))
      tt)))))

-- A node is read as it is written.
pub node_spelled : Spelled node_bytes NodeFields read_record
node_spelled =
    record {
      brought = λ n rest h. node_by_kind (node_bytes n ++ rest) ∙ node_brought n rest h;
      read = λ s h. subst (Reads node_bytes NodeFields s) (sym (node_by_kind s)) (node_told s h);
    }

-- The record of a node, and of a case, that a list of bytes begins with (document 01, "Records", "Graph"; question 22; the
-- wide count, the runs of ids and the gauges of document 02, requests 4, 5 and 7).
use Rattle.std.specs.Prelude.{ℕ, Bool, true, false, cond, List, Result, Ok, Err, length, get_or, drop, leb, eqb}
use Rattle.records.specs.Fields.{wide_at}
use Rattle.records.specs.Kinds.{record_length}
use Rattle.graph.specs.declared.Leaf.{Leaf}
use Rattle.graph.specs.declared.Leaf.TheVariants.{Fail, Suspend, Execute}
use Rattle.graph.specs.declared.NodeRecord.{NodeRecord}
use Rattle.graph.specs.declared.NodeRecord.TheVariants.{End, Switch, Pair}
use Rattle.graph.specs.declared.CaseRecord.{CaseRecord}
use Rattle.graph.specs.declared.CaseRecord.TheVariants.{Symbols, Compound, Numbers}
use Rattle.records.specs.Reading.{Reading, took, refused, ask, after}
use Rattle.records.specs.Refusals.{number}
use Rattle.records.specs.declared.refusal.Refusal.{Refusal}
use Rattle.records.specs.declared.refusal.Refusal.TheVariants.{NotANode}
use Rattle.terms.specs.Term.{on_gauge}
use Rattle.decision.specs.Key as key
use Rattle.decision.specs.Cases.{symbols_case, compound_case, numbers_case}
use Rattle.decision.specs.Node.{Node, CaseEdge, end, switch, pair_node}
use Rattle.graph.specs.ReadGraph.{edge, read_cases}

-- "A record is one kind byte and a body whose length the kind fixes": whole where so many bytes are there.
abbrev pub whole_node : Bool → NodeRecord → Result NodeRecord Refusal
whole_node true r = Ok r
whole_node false r = Err NotANode

abbrev pub whole_case : Bool → CaseRecord → Result CaseRecord Refusal
whole_case true r = Ok r
whole_case false r = Err NotANode

-- How many bytes a switch's record has, its cases not counted.
abbrev pub switch_length : ℕ
switch_length = record_length 0x43

-- "43 switch (wide place, number of cases, wide node for neither, wide node for unknown)", "47 pair (wide place p, wide place q,
-- wide node for no, wide node for other)".
abbrev pub switch_record : List ℕ → NodeRecord
switch_record s = Switch (wide_at s 1) (wide_at s 3) (wide_at s 5) (wide_at s 7)

abbrev pub pair_record : List ℕ → NodeRecord
pair_record s = Pair (wide_at s 1) (wide_at s 3) (wide_at s 5) (wide_at s 7)

-- "The node of kind 40 to 43 or 47": "40 fail", "41 suspend", "42 execute (rule, from 1)".
abbrev pub node_head : List ℕ → Result NodeRecord Refusal
node_head s =
    cond (eqb (length s) 0) (Err NotANode)
    (cond (eqb (get_or s 0 0) 0x40) (Ok (End Fail))
    (cond (eqb (get_or s 0 0) 0x41) (Ok (End Suspend))
    (cond (eqb (get_or s 0 0) 0x42) (whole_node (leb 2 (length s)) (End (Execute (get_or s 1 0))))
    (cond (eqb (get_or s 0 0) 0x43) (whole_node (leb switch_length (length s)) (switch_record s))
    (cond (eqb (get_or s 0 0) 0x47) (whole_node (leb 9 (length s)) (pair_record s))
    (Err NotANode))))))

-- "Record 44 becomes (wide low, wide high, wide node) for a run of ids", "45 compound (wide id, arity, wide node)", "record 46
-- becomes (gauge, wide low, wide high, wide node)".
abbrev pub symbols_head : List ℕ → Result CaseRecord Refusal
symbols_head s = whole_case (leb 7 (length s)) (Symbols (wide_at s 1) (wide_at s 3) (wide_at s 5))

abbrev pub compound_head : List ℕ → Result CaseRecord Refusal
compound_head s = whole_case (leb 6 (length s)) (Compound (wide_at s 1) (get_or s 3 0) (wide_at s 4))

abbrev pub numbers_head : List ℕ → Result CaseRecord Refusal
numbers_head s = whole_case (leb 8 (length s)) (Numbers (wide_at s 2) (wide_at s 4) (wide_at s 6) (get_or s 1 0))

-- "Its cases of kinds 44 to 46".
abbrev pub case_head : List ℕ → Result CaseRecord Refusal
case_head s =
    cond (eqb (length s) 0) (Err NotANode)
    (cond (eqb (get_or s 0 0) 0x44) (symbols_head s)
    (cond (eqb (get_or s 0 0) 0x45) (compound_head s)
    (cond (eqb (get_or s 0 0) 0x46) (numbers_head s)
    (Err NotANode))))

-- The case that was read off its record, and the node: a leaf, a pair, or a switch with the cases behind its record.
abbrev pub on_case : Result CaseRecord Refusal → Reading (CaseEdge ℕ)
on_case (Ok (Symbols l h n)) = took 7 (edge (symbols_case l h) n)
on_case (Ok (Compound a k n)) = took 6 (edge (compound_case a k) n)
on_case (Ok (Numbers l h n g)) = took 8 (edge (numbers_case (on_gauge g l) (on_gauge g h)) n)
on_case (Err r) = refused (number r)

abbrev pub leaf_of : Leaf → key.Leaf
leaf_of Fail = key.fail_node
leaf_of Suspend = key.suspend_node
leaf_of (Execute i) = key.execute_node i

abbrev pub on_node : List ℕ → Result NodeRecord Refusal → Reading (Node ℕ)
on_node s (Ok (End l)) = took (leaf_length l) (end (leaf_of l))
  where
    leaf_length : Leaf → ℕ
    leaf_length Fail = 1
    leaf_length Suspend = 1
    leaf_length (Execute i) = 2
on_node s (Ok (Switch n count x y)) =
    ask 22 (leb 1 count) (after switch_length (λ cases. switch n cases x y) (read_cases count (drop switch_length s)))
on_node s (Ok (Pair p q x y)) = took 9 (pair_node p q x y)
on_node s (Err r) = refused (number r)

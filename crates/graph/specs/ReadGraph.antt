-- How a graph is read for a sheet: its nodes, or the number of the first question that gets a no (document 01, "Questions at the
-- counter", 21 to 25, and document 02, requests 4, 5 and 7).
use Rattle.std.specs.Prelude.{ℕ, ◌+◌, ◌-◌, Bool, true, false, ◌&&◌, ◌||◌, cond, List, [], ◌∷◌, leb, ltb, eqb, length, get_or, drop}
use Rattle.records.specs.Fields.{wide_at}
use Rattle.records.specs.Kinds.{record_length, kind_of, is_whole}
use Rattle.records.specs.Reading.{Reading, took, refused, ask, after, and_then, read_row}
use Rattle.terms.specs.Term.{on_gauge}
use Rattle.terms.specs.Pattern.{Patterns}
use Rattle.sheet_tests.specs.SheetTests.{Test, place, pair, sheet_tests}
use Rattle.sheet.specs.Sheet.{Sheet}
use Rattle.decision.specs.Rules.{same_test}
use Rattle.decision.specs.Key.{fail_node, suspend_node, execute_node}
use Rattle.decision.specs.Cases.{Case, symbols_case, compound_case, numbers_case, functor_before}
use Rattle.decision.specs.Node.{Node, CaseEdge, end, switch, pair_node}
use Rattle.decision.specs.Graph.{most_nodes}
use Rattle.basics.specs.Lists.{any_of}
use Rattle.basics.specs.Order.{pair_before}

abbrev pub edge : Case → ℕ → CaseEdge ℕ
edge c n = record { case = c; target = n }

-- "Record 44 becomes (wide low, wide high, wide node) for a run of ids", "45 compound (wide id, arity, wide node)", "record 46
-- becomes (gauge, wide low, wide high, wide node), .. and takes only numbers of that gauge".
abbrev pub case_of : ℕ → List ℕ → CaseEdge ℕ
case_of kind s =
    cond (eqb kind 0x44) (edge (symbols_case (wide_at s 1) (wide_at s 3)) (wide_at s 5))
    (cond (eqb kind 0x45) (edge (compound_case (wide_at s 1) (get_or s 3 0)) (wide_at s 4))
    (edge (numbers_case (on_gauge (get_or s 1 0) (wide_at s 2)) (on_gauge (get_or s 1 0) (wide_at s 4))) (wide_at s 6)))

-- "22 Are the record and its cases whole, the node of kind 40 to 43 or 47, its cases of kinds 44 to 46, a switch with 1 case or
-- more?"
unfoldable pub read_case : List ℕ → Reading (CaseEdge ℕ)
read_case s = ask 22 (is_whole 0x44 0x46 s) (took (record_length (kind_of s)) (case_of (kind_of s) s))

abbrev pub read_cases : ℕ → List ℕ → Reading (List (CaseEdge ℕ))
read_cases n s = read_row [] ◌∷◌ read_case n s

-- "43 switch (wide place, number of cases, wide node for neither, wide node for unknown), then its cases", of which "the case count
-- becomes wide".
abbrev pub read_switch : List ℕ → Reading (Node ℕ)
read_switch s =
    ask 22 (leb 1 (wide_at s 3))
    (after (record_length 0x43) (λ cases. switch (wide_at s 1) cases (wide_at s 5) (wide_at s 7))
    (read_cases (wide_at s 3) (drop (record_length 0x43) s)))

-- "40 fail, 41 suspend, no bodies. 42 execute (rule, from 1)", "47 pair (wide place p, wide place q, wide node for no, wide node
-- for other)".
abbrev pub leaf_or_pair : ℕ → List ℕ → Node ℕ
leaf_or_pair kind s =
    cond (eqb kind 0x40) (end fail_node)
    (cond (eqb kind 0x41) (end suspend_node)
    (cond (eqb kind 0x42) (end (execute_node (get_or s 1 0)))
    (pair_node (wide_at s 1) (wide_at s 3) (wide_at s 5) (wide_at s 7))))

-- The node that bytes begin with, question 22 alone.
unfoldable pub read_record : List ℕ → Reading (Node ℕ)
read_record s =
    ask 22 (is_whole 0x40 0x43 s || is_whole 0x47 0x47 s)
    (cond (eqb (kind_of s) 0x43) (read_switch s) (took (record_length (kind_of s)) (leaf_or_pair (kind_of s) s)))

-- "23 Are its nodes and rule in range, its place or pair among the sheet's tests?", where the sheet has so many rules and test
-- tells its tests.
abbrev pub is_sheet_test : List Patterns → Test → Bool
is_sheet_test rules t = any_of (same_test t) (sheet_tests rules)

abbrev pub all_inside : ℕ → List (CaseEdge ℕ) → Bool
all_inside nodes [] = true
all_inside nodes (c ∷ cs) = ltb c.target nodes && all_inside nodes cs

abbrev pub in_range : (Test → Bool) → ℕ → ℕ → Node ℕ → Bool
in_range test rules nodes (end fail_node) = true
in_range test rules nodes (end suspend_node) = true
in_range test rules nodes (end (execute_node i)) = leb 1 i && leb i rules
in_range test rules nodes (switch n cs x y) = test (place n) && ltb x nodes && ltb y nodes && all_inside nodes cs
in_range test rules nodes (pair_node p q x y) = test (pair p q) && ltb x nodes && ltb y nodes

-- "24 Are cases strictly ascending, low at most high ..?" "In question 24 number cases ascend by low, then high, and may overlap",
-- "ordered by gauge first", as numbers are. Runs of ids are "questioned as numbers were in document 01": "no number in two".
abbrev pub case_before : Case → Case → Bool
case_before (symbols_case l h) (symbols_case x y) = ltb h x
case_before (symbols_case l h) (compound_case b m) = true
case_before (symbols_case l h) (numbers_case x y) = true
case_before (compound_case a n) (symbols_case x y) = false
case_before (compound_case a n) (compound_case b m) =
    functor_before (record { name = a; arity = n }) (record { name = b; arity = m })
case_before (compound_case a n) (numbers_case x y) = true
case_before (numbers_case l h) (symbols_case x y) = false
case_before (numbers_case l h) (compound_case b m) = false
case_before (numbers_case l h) (numbers_case x y) = pair_before l h x y

abbrev pub low_at_most_high : Case → Bool
low_at_most_high (symbols_case l h) = leb l h
low_at_most_high (compound_case a n) = true
low_at_most_high (numbers_case l h) = leb l h

-- A case comes before the first of those that follow it.
abbrev pub before_next : Case → List (CaseEdge ℕ) → Bool
before_next c [] = true
before_next c (d ∷ cs) = case_before c d.case

abbrev pub cases_ascend : List (CaseEdge ℕ) → Bool
cases_ascend [] = true
cases_ascend (c ∷ cs) = low_at_most_high c.case && before_next c.case cs && cases_ascend cs

abbrev pub in_order : Node ℕ → Bool
in_order (end l) = true
in_order (switch n cs x y) = cases_ascend cs
in_order (pair_node p q x y) = true

-- "At each node" 22, then 23 and 24.
abbrev pub ask_range_and_order : (Test → Bool) → ℕ → ℕ → Reading (Node ℕ) → Reading (Node ℕ)
ask_range_and_order test rules nodes r =
    and_then r (λ a node. ask 23 (in_range test rules nodes node) (ask 24 (in_order node) (took a node)))

abbrev pub read_node : (Test → Bool) → ℕ → ℕ → List ℕ → Reading (Node ℕ)
read_node test rules nodes s = ask_range_and_order test rules nodes (read_record s)

abbrev pub read_nodes : (Test → Bool) → ℕ → ℕ → List ℕ → Reading (List (Node ℕ))
read_nodes test rules nodes s = read_row [] ◌∷◌ (read_node test rules nodes) nodes s

-- Then "25 Are no bytes left?"
abbrev pub end_graph : ℕ → Reading (List (Node ℕ)) → Reading (List (Node ℕ))
end_graph bytes (took a nodes) = ask 25 (eqb a bytes) (took (record_length 0x12 + a) nodes)
end_graph bytes (refused q) = refused q

-- "21 Does the graph begin with a whole 12 record with the sheet's arity and rule count, and 1 to 1,024 nodes?"
abbrev pub has_header : ℕ → ℕ → List ℕ → Bool
has_header arity rules s =
    is_whole 0x12 0x12 s && eqb (get_or s 1 0) arity && eqb (get_or s 2 0) rules
    && leb 1 (wide_at s 3) && leb (wide_at s 3) most_nodes

-- A graph for a sheet of that arity, so many rules and these tests.
unfoldable pub read_by : (Test → Bool) → ℕ → ℕ → List ℕ → Reading (List (Node ℕ))
read_by test arity rules s =
    ask 21 (has_header arity rules s)
    (end_graph (length s - record_length 0x12) (read_nodes test rules (wide_at s 3) (drop (record_length 0x12) s)))

abbrev pub read_graph : Sheet → List ℕ → Reading (List (Node ℕ))
read_graph sheet s = read_by (is_sheet_test sheet.rules) sheet.arity (length sheet.rules) s

-- The header of an accepted graph: from how sheet and graph are read, and what it tells of them.
use Prim.Native.Nat.{ℕ}
use mathlib.Core.Path.{◌≡◌, refl, sym, ap, ◌∙◌}
use mathlib.Core.List.{List}
use native.Mathlib.Omega.{arith}
use lib.ListN.{length}
use Rattle.records.specs.Reading.{Reading, took, refused, and_then, map_reading}
use Rattle.sheet.specs.Sheet.{Sheet}
use Rattle.sheet_tests.specs.CheckSheet.{accept_sheet}
use Rattle.decision.specs.Node.{Node}
use Rattle.graph.specs.ReadGraph.{read_graph}
use Rattle.graph_check.specs.CheckGraph.{GraphValues, graph_reading, graph_values}
use Rattle.graph_check.specs.views.Header.{HeaderFields, fields_of, fields_reading}

-- The values of the check, off the header's fields.
abbrev pub fields_values : Reading HeaderFields → GraphValues
fields_values (took k fields) = record { refusal = 0; nodes = fields.nodes }
fields_values (refused q) = record { refusal = q; nodes = 0 }

module _ (s g : List ℕ) where
  -- Where the sheet is refused so is the graph.
  pub sheet_refuses : {q : ℕ} → accept_sheet s ≡ refused q → refused q ≡ fields_reading s g
  sheet_refuses e = sym (ap (λ r. and_then r (λ _ sheet. map_reading (fields_of sheet) (read_graph sheet g))) e)

  module _ {k : ℕ} {sheet : Sheet} (accepted : accept_sheet s ≡ took k sheet) where
    for_graph : map_reading (fields_of sheet) (read_graph sheet g) ≡ fields_reading s g
    for_graph = sym (ap (λ r. and_then r (λ _ x. map_reading (fields_of x) (read_graph x g))) accepted)

    -- Where the graph is refused there is no header,
    pub graph_refuses : {q : ℕ} → read_graph sheet g ≡ refused q → refused q ≡ fields_reading s g
    graph_refuses e = sym (ap (map_reading (fields_of sheet)) e) ∙ for_graph

    -- and where it is accepted there is.
    pub graph_accepts
        : {nodes : List (Node ℕ)} {a r n : ℕ} → read_graph sheet g ≡ took (length g) nodes → sheet.arity ≡ a
        → length sheet.rules ≡ r → length nodes ≡ n
        → took (length g) (record { arity = a; rules = r; nodes = n }) ≡ fields_reading s g
    graph_accepts e arity rules count =
        sym
        (ap (map_reading (fields_of sheet)) e
        ∙ (λ i. took (length g) (record { arity = arity i; rules = rules i; nodes = count i })))
        ∙ for_graph

  -- The sheet and the nodes of a graph with a header.
  pub record HeaderOf (a r n : ℕ) : Type 0 where
    pub bytes : ℕ
    pub sheet : Sheet
    pub accepted : accept_sheet s ≡ took bytes sheet
    pub nodes : List (Node ℕ)
    pub read : read_graph sheet g ≡ took (length g) nodes
    pub arity_is : sheet.arity ≡ a
    pub rules_is : length sheet.rules ≡ r
    pub nodes_is : length nodes ≡ n

  pub header_of : {a r n : ℕ} → took (length g) (record { arity = a; rules = r; nodes = n }) ≡ fields_reading s g → HeaderOf a r n
  header_of {a} {r} {n} e = go (accept_sheet s) refl e
    where
      inner
          : (k : ℕ) (sheet : Sheet) → accept_sheet s ≡ took k sheet → (x : Reading (List (Node ℕ))) → read_graph sheet g ≡ x
          → took (length g) (record { arity = a; rules = r; nodes = n }) ≡ map_reading (fields_of sheet) x → HeaderOf a r n
      inner k sheet d (took b nodes) f h =
          let size : length g ≡ b = cc in
          let same : ◌≡◌ {A = HeaderFields} (record { arity = a; rules = r; nodes = n }) (fields_of sheet nodes) = cc in
          record {
            bytes = k;
            sheet = sheet;
            accepted = d;
            nodes = nodes;
            read = f ∙ ap (λ (m : ℕ). took m nodes) (sym size);
            arity_is = sym (ap (λ (x : HeaderFields). x.arity) same);
            rules_is = sym (ap (λ (x : HeaderFields). x.rules) same);
            nodes_is = sym (ap (λ (x : HeaderFields). x.nodes) same);
          }
      inner k sheet d (refused q) f h = let z : ◌≡◌ {A = ℕ} 0 1 = cc in absurd (omega arith)

      go
          : (x : Reading Sheet) → accept_sheet s ≡ x
          → took (length g) (record { arity = a; rules = r; nodes = n })
          ≡ and_then x (λ _ sheet. map_reading (fields_of sheet) (read_graph sheet g))
          → HeaderOf a r n
      go (took k sheet) d h = inner k sheet d (read_graph sheet g) refl h
      go (refused q) d h = let z : ◌≡◌ {A = ℕ} 0 1 = cc in absurd (omega arith)

  -- The check's values are the header's.
  pub values_same : fields_values (fields_reading s g) ≡ graph_values (graph_reading s g)
  unfolding graph_reading
  values_same = go (accept_sheet s)
    where
      inner
          : (sheet : Sheet) (x : Reading (List (Node ℕ))) → fields_values (map_reading (fields_of sheet) x) ≡ graph_values x
      inner sheet (took k nodes) = refl
      inner sheet (refused q) = refl

      go
          : (x : Reading Sheet)
          → fields_values (and_then x (λ _ sheet. map_reading (fields_of sheet) (read_graph sheet g)))
          ≡ graph_values (and_then x (λ _ sheet. read_graph sheet g))
      go (took k sheet) = inner sheet (read_graph sheet g)
      go (refused q) = refl

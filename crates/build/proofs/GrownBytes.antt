-- From the keys that are grown to what building answers and leaves.
use Prim.Native.Nat.{ℕ, ◌+◌, ◌≤◌, ◌<◌}
use mathlib.Core.Path.{◌≡◌, refl, sym, ap, ◌∙◌, subst}
use mathlib.Core.Bool.{Bool, true, false}
use mathlib.Core.List.{List}
use mathlib.Core.Option.{Option, some, none}
use native.Mathlib.Omega.{arith}
use lib.Dec.{leb}
use lib.ListN.{length, length-map}
use borrow.Author.Tests.{le-leb, lt-leb}
use Rattle.std.specs.Prelude as std
use Rattle.std.specs.Prelude.{Some, None, Ok}
use Rattle.terms.specs.Pattern.{Patterns}
use Rattle.terms.specs.Accepted.{AcceptedRule}
use Rattle.basics.specs.Lists.{All, count_from}
use Rattle.basics.proofs.Counting.{count_length}
use Rattle.decision.specs.Key.{Key}
use Rattle.decision.specs.Node.{Node, map_node}
use Rattle.decision.specs.Graph.{graph_in}
use Rattle.decision.specs.GraphBytes.{nodes_bytes, graph_bytes}
use Rattle.tables.specs.views.Planes.{rules_in, place_tests_in}
use Rattle.cuts.specs.views.Cuts.{Parted}
use Rattle.edges.specs.views.NodeIn.{node_in}
use Rattle.edges.proofs.EdgeKeys.{root_is}
use Rattle.edges.proofs.Nodes.{node_is}
use Rattle.compiled.specs.views.Compiling.{Compiled}
use Rattle.compiled.proofs.SoundCodes.{rules_sound}
use Rattle.met.specs.views.KeysMet.{key_number, key_at, count_in, keys_in}
use Rattle.keys.specs.views.Expanded.{AtMost}
use Rattle.keys.specs.views.Grown.{keys_from, nodes_from, Grown}
use Rattle.keys.proofs.GraphGrown.{graph_grown, graph_none}
use Rattle.emit.specs.views.Written.{Wrote}
use Rattle.build.specs.BuildOutcome.{not_built, written_if, graph_written, left_by}
use Rattle.build.specs.views.Tabled.{nodes_if, grown_in}

-- What is grown from the tables and cuts of accepted rules is their graph.
pub graph_is
    : (arity : ℕ) (rules : List Patterns) (order s c : List ℕ) → All (AcceptedRule arity) rules → Compiled rules order s c
    → grown_in s c ≡ graph_in rules order
graph_is arity rules order s c accepted t = go (keys_from s c) refl
  where
    go : (x : Option (List Key)) → keys_from s c ≡ x → nodes_if s c x ≡ graph_in rules order
    go none e =
        sym
        (graph_none rules t.tables_are.few_rules order s c
        (node_is rules order s c t.tables_are t.cuts_are (rules_sound arity rules accepted))
        (root_is rules order s t.tables_are) e)
    go (some keys) e =
        sym
        (graph_grown rules t.tables_are.few_rules order s c
        (node_is rules order s c t.tables_are t.cuts_are (rules_sound arity rules accepted))
        (root_is rules order s t.tables_are) e)

-- So are its bytes.
pub compiled_written
    : (arity : ℕ) {rules : List Patterns} {order s c : List ℕ} (buffer : List ℕ) → All (AcceptedRule arity) rules
    → Compiled rules order s c
    → graph_written arity (rules_in s) (grown_in s c) buffer ≡ graph_written arity (length rules) (graph_in rules order) buffer
compiled_written arity {rules} {order} {s} {c} buffer accepted t =
    λ i. graph_written arity (t.tables_are.rules_are i) (graph_is arity rules order s c accepted t i) buffer

pub compiled_parted
    : {rules : List Patterns} {order s c : List ℕ} → Compiled rules order s c → Parted (rules_in s) (place_tests_in s) c
compiled_parted {rules} {order} {s} {c} t = subst (λ (r : ℕ). Parted r (place_tests_in s) c) (sym t.tables_are.rules_are) t.parted

-- What growing says where it met all keys, and where there are too many.
module _ (s c t : List ℕ) (r : std.Option ℕ) (grown : Grown s c r t) where
  pub grown_none : r ≡ None → keys_from s c ≡ none
  grown_none e = subst (λ (x : std.Option ℕ). Grown s c x t) e grown

  pub grown_some
      : {n : ℕ} → r ≡ Some n → (keys_from s c ≡ some (keys_in t)) × (n ≡ length (nodes_bytes (nodes_from s c (keys_in t))))
  grown_some e = subst (λ (x : std.Option ℕ). Grown s c x t) e grown

pub grown_most : (most : ℕ) (r : std.Option ℕ) {n : ℕ} → AtMost most r → r ≡ Some n → n ≤ most
grown_most most r h e = subst (AtMost most) e h

module _ (arity rules : ℕ) (s c buffer : List ℕ) where
  -- Question 18: there are too many keys.
  pub built_many : keys_from s c ≡ none → not_built 18 buffer ≡ graph_written arity rules (grown_in s c) buffer
  built_many e = sym (ap (λ (x : Option (List Key)). graph_written arity rules (nodes_if s c x) buffer) e)

  module _ (t : List ℕ) (bytes : ℕ) (all : keys_from s c ≡ some (keys_in t))
      (size : bytes ≡ length (nodes_bytes (nodes_from s c (keys_in t)))) where
    abbrev nodes : List (Node ℕ)
    nodes = nodes_from s c (keys_in t)

    abbrev graph : List ℕ
    graph = graph_bytes arity rules nodes

    pub graph_size : length graph ≡ 5 + bytes
    graph_size = omega (arith, size)

    fits_as
        : (b : Bool) → leb (length graph) (length buffer) ≡ b
        → graph_written arity rules (grown_in s c) buffer ≡ written_if b (length nodes) graph buffer
    fits_as b e =
        ap (λ (x : Option (List Key)). graph_written arity rules (nodes_if s c x) buffer) all
        ∙ ap (λ (x : Bool). written_if x (length nodes) graph buffer) e

    -- Question 19: the graph does not fit.
    pub built_short : length buffer < 5 + bytes → not_built 19 buffer ≡ graph_written arity rules (grown_in s c) buffer
    built_short h = sym (fits_as false (lt-leb (length graph) (length buffer) (omega (arith, graph_size))))

    count_is_lem : length nodes ≡ count_in t
    count_is_lem =
        length-map (keys_in t) (λ (key : Key). map_node (key_number (keys_in t)) (node_in s c key))
        ∙ length-map (count_from 0 (count_in t)) (key_at t)
        ∙ count_length 0 (count_in t)

    -- The graph fits and was written.
    pub built_whole
        : (count end : ℕ) (after : List ℕ) → 5 + bytes ≤ length buffer → count ≡ count_in t → Wrote buffer 0 graph end after
        → left_by (Ok (record { nodes = count; bytes = end })) after ≡ graph_written arity rules (grown_in s c) buffer
    built_whole count end after h many wrote =
        let nodesAre : count ≡ length nodes = many ∙ sym count_is_lem in
        let bytesAre : end ≡ length graph = omega (arith, wrote.0) in
        (λ i. record { values = record { refusal = 0; nodes = nodesAre i; bytes = bytesAre i }; buffer = wrote.1 i })
        ∙ sym (fits_as true (le-leb (length graph) (length buffer) (omega (arith, graph_size))))

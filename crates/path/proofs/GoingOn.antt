-- A walk that is under way: the nodes passed, and the path from the node that it is at, make up the whole path.
use Prim.Native.Nat.{ℕ, zero, suc, pred, ◌+◌, ◌-◌, ◌<◌, ◌≤◌}
use mathlib.Core.Path.{◌≡◌, refl, sym, ap, ◌∙◌}
use mathlib.Core.List.{List, [], ◌∷◌, ◌++◌, append-nil}
use native.Mathlib.Omega.{arith}
use lib.ListN.{length, length-append}
use Rattle.decision.specs.Key.{Leaf}
use Rattle.decision.specs.Node.{Node}
use Rattle.decision.specs.Path.{Step, stop, go_to, no_way, Path, ends, through, last_step, next_step, path_by, node_at}
use Rattle.steps.specs.views.CodeSteps.{step_cells, node_code}
use Rattle.path.specs.views.Following.{reached, stopped, met_codes, end_of, cells_path, cells_end}
use Rattle.path.proofs.MetCodes.{met_more, asks_one, asks_none}
use Rattle.records.specs.Reading.{refused}

-- The path through nodes.
abbrev through_all : List ℕ → Path → Path
through_all [] p = p
through_all (n ∷ ns) p = through n (through_all ns p)

through_one : (ns : List ℕ) (n : ℕ) (p : Path) → through_all (ns ++ n ∷ []) p ≡ through_all ns (through n p)
through_one [] n p = refl
through_one (m ∷ ns) n p = ap (through m) (through_one ns n p)

through_ends : (ns : List ℕ) (n : ℕ) (l : Leaf) → through_all ns (ends (n ∷ []) l) ≡ ends (ns ++ n ∷ []) l
through_ends [] n l = refl
through_ends (m ∷ ns) n l = ap (through m) (through_ends ns n l)

through_refused : (ns : List ℕ) (q : ℕ) → through_all ns (refused q) ≡ refused q
through_refused [] q = refl
through_refused (m ∷ ns) q = ap (through m) (through_refused ns q)

-- The path at a leaf, wherever it is reached, and where it goes on or stops while edges are left, or not.
module _ (step : ℕ → Step ℕ) (n : ℕ) where
  path_leaf : (more : ℕ) {l : Leaf} → step n ≡ stop l → path_by step more n ≡ ends (n ∷ []) l
  path_leaf zero e = ap (last_step n) e
  path_leaf (suc more) e = ap (next_step (path_by step more) n) e

  path_next : (more : ℕ) {m k : ℕ} → more ≡ suc k → step n ≡ go_to m → path_by step more n ≡ through n (path_by step k m)
  path_next more {m} {k} e f = ap (λ (j : ℕ). path_by step j n) e ∙ ap (next_step (path_by step k) n) f

  path_stuck : (more k : ℕ) → more ≡ suc k → step n ≡ no_way → path_by step more n ≡ refused 27
  path_stuck more k e f = ap (λ (j : ℕ). path_by step j n) e ∙ ap (next_step (path_by step k) n) f

  path_out : (more : ℕ) {s : Step ℕ} → more ≡ 0 → step n ≡ s → last_step n s ≡ refused 26 → path_by step more n ≡ refused 26
  path_out more e f g = ap (λ (j : ℕ). path_by step j n) e ∙ ap (last_step n) f ∙ g

module _ (nodes : List (Node ℕ)) (cells : List ℕ) where
  abbrev step_from : ℕ → Step ℕ
  step_from n = step_cells cells (node_at nodes n)

  -- i edges were walked to node n, and the tests with these codes met.
  pub record Going (i n : ℕ) (codes : List ℕ) : Type 0 where
    pub before : List ℕ
    pub number : length before ≡ i
    pub few : i ≤ 64
    pub inside : n < length nodes
    pub met : codes ≡ met_codes nodes before
    pub path : cells_path nodes cells ≡ through_all before (path_by step_from (64 - i) n)

  -- At node 0.
  pub going_starts : 1 ≤ length nodes → Going 0 0 []
  going_starts some = record { before = []; number = refl; few = omega arith; inside = omega arith; met = refl; path = refl }

  module _ {i n : ℕ} {codes : List ℕ} (g : Going i n codes) where
    -- It goes on to a node,
    pub Going-on
        : {m code : ℕ} → i < 64 → go_to m ≡ step_from n → m < length nodes → code ≡ node_code (node_at nodes n)
        → Going (i + 1) m (codes ++ code ∷ [])
    Going-on {m} {code} more e inside is =
        let left : 64 - i ≡ suc (64 - (i + 1)) = omega arith in
        record {
          before = g.before ++ n ∷ [];
          number = omega (arith, length-append g.before (n ∷ []), g.number);
          few = omega arith;
          inside = inside;
          met =
              (λ j. g.met j ++ is j ∷ [])
              ∙ ap (λ (l : List ℕ). met_codes nodes g.before ++ l) (sym (asks_one cells (node_at nodes n) e))
              ∙ sym (met_more nodes g.before n);
          path =
              g.path
              ∙ ap (through_all g.before) (path_next step_from n (64 - i) left (sym e))
              ∙ sym (through_one g.before n (path_by step_from (64 - (i + 1)) m));
        }

    -- ends at a leaf,
    pub going_ends : {l : Leaf} → stop l ≡ step_from n → reached l i codes ≡ cells_end nodes cells
    going_ends {l} e =
        let walked = g.before ++ n ∷ [] in
        let path : cells_path nodes cells ≡ ends walked l =
        g.path ∙ ap (through_all g.before) (path_leaf step_from n (64 - i) (sym e)) ∙ through_ends g.before n l in
        let edges : i ≡ pred (length walked) = omega (arith, length-append g.before (n ∷ []), g.number) in
        let same : codes ≡ met_codes nodes walked =
        g.met
        ∙ sym (append-nil (met_codes nodes g.before))
        ∙ ap (λ (k : List ℕ). met_codes nodes g.before ++ k) (sym (asks_none cells (node_at nodes n) e))
        ∙ sym (met_more nodes g.before n) in
        (λ j. reached l (edges j) (same j)) ∙ sym (ap (end_of nodes) path)

    refused_by : {q : ℕ} → path_by step_from (64 - i) n ≡ refused q → stopped q ≡ cells_end nodes cells
    refused_by {q} e = sym (ap (end_of nodes) (g.path ∙ ap (through_all g.before) e ∙ through_refused g.before q))

    -- or is refused by 27, or by 26.
    pub going_stuck : i < 64 → no_way ≡ step_from n → stopped 27 ≡ cells_end nodes cells
    going_stuck more e =
        let left : 64 - i ≡ suc (63 - i) = omega arith in refused_by (path_stuck step_from n (64 - i) (63 - i) left (sym e))

    pub going_out : {s : Step ℕ} → 64 ≤ i → s ≡ step_from n → last_step n s ≡ refused 26 → stopped 26 ≡ cells_end nodes cells
    going_out full e out = refused_by (path_out step_from n (64 - i) (omega (arith, g.few)) (sym e) out)

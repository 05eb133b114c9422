-- The keys behind a row of pairs in turn: the first is met before the others, and where the next run adds no rule, its key was met
-- last.
use Prim.Native.Nat.{ℕ, ◌+◌, ◌≤◌, ◌<◌}
use mathlib.Core.Path.{◌≡◌, refl, sym, ap, subst, ◌∙◌}
use mathlib.Core.List.{List, [], ◌∷◌, ◌++◌, map}
use lib.Bits.{bit_or}
use lib.ListN.{length}
use Rattle.basics.proofs.Filters.{map_join}
use Rattle.decision.specs.Key.{Key}
use Rattle.decision.specs.Node.{CaseEdge}
use Rattle.decision.specs.Graph.{most_nodes}
use Rattle.decision.specs.GraphBytes.{case_bytes}
use Rattle.cuts.specs.views.Runs.{run_case, run_at, runs_in}
use Rattle.cuts.specs.views.CaseRuns.{union_row, union_pairs, gauge_pairs, case_runs, runs_from, pairs_row, GaugeUpTo}
use Rattle.cuts.proofs.CaseRuns.{cases_parted, gauges_some, gauges_none, pairs_some, pairs_none}
use Rattle.cuts.proofs.CaseRuns.{row_first, row_begun, row_some, row_none}
use Rattle.edges.specs.declared.Asked.{Asked}
use Rattle.edges.specs.views.KeysBehind.{run_behind}
use Rattle.edges.specs.views.NodeIn.{run_edge}
use Rattle.met.specs.views.KeysMet.{meet, keys_in}
use Rattle.met.proofs.Meeting.{meet_again}
use Rattle.std.specs.Prelude.{Option, Some, None}
use Rattle.keys.specs.views.Expanded.{CasesMet}
use Rattle.keys.proofs.EdgesInTurn.{CasesLeft, cases_start, cases_next, cases_many, cases_end, met_begun}

-- A key that was met last is met.
pub met_last : (keys : List Key) (key : Key) (u : List ℕ) → keys_in u ≡ meet keys key → keys_in u ≡ meet (keys_in u) key
met_last keys key u e = e ∙ sym (meet_again keys key) ∙ ap (λ (l : List Key). meet l key) (sym e)

module _ (s : List ℕ) (asked : Asked) (runs : List ℕ) (count first : ℕ) where
  -- All pairs of the row, and those from last run k on, where `set` is the union so far.
  abbrev pub row_edges : List (CaseEdge Key)
  row_edges = map (run_edge s asked) (pairs_row runs count first)

  abbrev pub row_left : ℕ → ℕ → List (CaseEdge Key)
  row_left set k = map (run_edge s asked) (union_row (run_at runs first).low set (runs_from runs count k))

  -- The key behind a case with these rules.
  abbrev behind : ℕ → Key
  behind set = run_behind s asked set

  module _ (h : first < count) where
    abbrev first_edge : CaseEdge Key
    first_edge = run_edge s asked (run_at runs first)

    row_head : row_edges ≡ first_edge ∷ row_left (run_at runs first).set (first + 1)
    row_head = ap (map (run_edge s asked)) (row_first runs count first h)

    -- The first key is one too many,
    pub row_many
        : (t u : List ℕ) {key : Key} → key ≡ behind (run_at runs first).set → most_nodes < length (meet (keys_in t) key)
        → CasesMet row_edges (keys_in t) None u
    row_many t u e many =
        cases_many first_edge row_head (cases_start refl t)
        (subst (λ (k : Key). most_nodes < length (meet (keys_in t) k)) e many)

    -- or all are left with it met,
    pub row_start : (t : List ℕ) → CasesLeft row_edges (row_left (run_at runs first).set first) (keys_in t) t 0
    row_start t = cases_start (ap (map (run_edge s asked)) (row_begun runs count first h)) t

    -- which is as without it.
    pub row_met
        : (t u : List ℕ) {key : Key} → key ≡ behind (run_at runs first).set → keys_in u ≡ meet (keys_in t) key
        → (r : Option ℕ) (w : List ℕ) → CasesMet row_edges (keys_in u) r w → CasesMet row_edges (keys_in t) r w
    row_met t u e met r w m = met_begun first_edge row_head t u (met ∙ ap (meet (keys_in t)) e) r w m

  module _ {keys : List Key} {t : List ℕ} {bytes : ℕ} (set k : ℕ) (state : CasesLeft row_edges (row_left set k) keys t bytes) where
    abbrev more : ℕ
    more = bit_or set (run_at runs k).set

    abbrev next_edge : CaseEdge Key
    next_edge = run_edge s asked (record { low = (run_at runs first).low; high = (run_at runs k).high; set = more })

    next_head : k < count → row_left set k ≡ next_edge ∷ row_left more (k + 1)
    next_head h = ap (map (run_edge s asked)) (row_some runs count (run_at runs first).low set k h)

    -- The key behind the next pair is met,
    pub row_next
        : {u : List ℕ} {size : ℕ} → k < count → keys_in u ≡ meet (keys_in t) (behind more)
        → size ≡ length (case_bytes (run_case (run_at runs first).low (run_at runs k).high) 0)
        → CasesLeft row_edges (row_left more (k + 1)) keys u (bytes + size)
    row_next h met size = cases_next next_edge (next_head h) state met size

    -- or is one too many,
    pub next_many : (u : List ℕ) → k < count → {key : Key} → key ≡ behind more → most_nodes < length (meet (keys_in t) key)
        → CasesMet row_edges keys None u
    next_many u h e many =
        cases_many next_edge (next_head h) state (subst (λ (k : Key). most_nodes < length (meet (keys_in t) k)) e many)

    -- and behind the last run the row is over.
    pub row_end : count ≤ k → CasesMet row_edges keys (Some bytes) t
    row_end h = cases_end (ap (map (run_edge s asked)) (row_none runs count (run_at runs first).low set k h)) state

-- The pairs of all first runs from run k on are the row of run k and those of the first runs behind it.
module _ (s : List ℕ) (asked : Asked) (runs : List ℕ) (count : ℕ) where
  abbrev pub pairs_left : ℕ → List (CaseEdge Key)
  pairs_left k = map (run_edge s asked) (union_pairs (runs_from runs count k))

  pub pairs_next : (k : ℕ) → k < count → pairs_left k ≡ row_edges s asked runs count k ++ pairs_left (k + 1)
  pairs_next k h =
      ap (map (run_edge s asked)) (pairs_some runs count k h)
      ∙ map_join (run_edge s asked) (pairs_row runs count k) (union_pairs (runs_from runs count (k + 1)))

  pub pairs_end : (k : ℕ) → count ≤ k → pairs_left k ≡ []
  pairs_end k h = ap (map (run_edge s asked)) (pairs_none runs count k h)

  -- The pairs of all gauges from run k on are those of its gauge and those of the gauges behind it.
  abbrev pub gauges_left : ℕ → List (CaseEdge Key)
  gauges_left k = map (run_edge s asked) (gauge_pairs (runs_from runs count k))

  pub gauges_next : (k end : ℕ) → GaugeUpTo runs count k end
      → gauges_left k ≡ map (run_edge s asked) (union_pairs (runs_from runs end k)) ++ gauges_left end
  gauges_next k end one =
      ap (map (run_edge s asked)) (gauges_some runs count k end one)
      ∙ map_join (run_edge s asked) (union_pairs (runs_from runs end k)) (gauge_pairs (runs_from runs count end))

  pub gauges_end : (k : ℕ) → count ≤ k → gauges_left k ≡ []
  gauges_end k h = ap (map (run_edge s asked)) (gauges_none runs count k h)

  -- The cases of a switch are the runs that are cases by themselves, then the pairs.
  pub cases_both : (k : ℕ) → k ≤ count
      → map (run_edge s asked) (case_runs k (runs_in runs count)) ≡ map (run_edge s asked) (runs_in runs k) ++ gauges_left k
  cases_both k h =
      ap (map (run_edge s asked)) (cases_parted runs count k h)
      ∙ map_join (run_edge s asked) (runs_in runs k) (gauge_pairs (runs_from runs count k))

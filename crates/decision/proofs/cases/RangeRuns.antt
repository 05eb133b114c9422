-- The cuts of wanted ranges, and the runs of what these accept: a run lies between two cuts and is wanted.
use Prim.Native.Nat.{ℕ, suc, pred, ◌*◌, ◌≤◌, ◌<◌}
use mathlib.Core.Path.{◌≡◌, refl}
use mathlib.Core.Bool.{Bool, ◌&&◌}
use mathlib.Core.Logic.{◌↔◌, ◌⊎◌, inl, inr}
use mathlib.Core.List.{List, [], ◌∷◌}
use native.Mathlib.Omega.{arith}
use lib.Dec.{T, leb, ltb}
use lib.ListN.{length}
use Rattle.basics.specs.Lists.{Mem, here, there, All}
use Rattle.basics.specs.Order.{insert_by}
use Rattle.terms.specs.RuleTests.{Range}
use Rattle.basics.proofs.ListLaws.{all_at, mem_none}
use Rattle.decision.specs.Runs.{cuts, between, covers, is_covered, runs}
use Rattle.basics.proofs.Filters.{mem_filter, filter_mem, filter_length, mem_any, any_mem}
use Rattle.basics.proofs.Ascent.{ascending_filter}
use Rattle.decision.proofs.cases.Insertion.{number_inserted}
use Rattle.decision.proofs.cases.Intervals.{Contains, EndsBefore, Uncut, Between}
use Rattle.decision.proofs.cases.Intervals.{between_cuts, between_ascends, between_covers, between_length}
use Rattle.basics.proofs.Sorted.{AscendingBy as Ascending}
use Rattle.basics.proofs.Numbers.{both_le}

-- The cuts ascend.
pub cuts_ascend : (ws : List Range) → Ascending ◌<◌ (cuts ws)
cuts_ascend [] = tt
cuts_ascend (w ∷ ws) =
    (number_inserted w.low (insert_by ltb (suc w.high) (cuts ws))).ascends
    ((number_inserted (suc w.high) (cuts ws)).ascends (cuts_ascend ws))

-- There are at most two for each range.
pub cuts_length : (ws : List Range) → length (cuts ws) ≤ 2 * length ws
cuts_length [] = omega arith
cuts_length (w ∷ ws) =
    let low = (number_inserted w.low (insert_by ltb (suc w.high) (cuts ws))).longer in
    let high = (number_inserted (suc w.high) (cuts ws)).longer in
    omega (arith, cuts_length ws)

-- The range w cuts the numbers at z: z is its low or comes after its high.
abbrev pub CutBy : Range → ℕ → Type 0
CutBy w z = (z ≡ w.low) ⊎ (z ≡ suc w.high)

-- A cut of several ranges is one of the first or one of the others.
cut_cons : (w : Range) (ws : List Range) (z : ℕ) → Mem z (cuts (w ∷ ws)) ↔ (CutBy w z ⊎ Mem z (cuts ws))
cut_cons w ws z =
    let high = (number_inserted (suc w.high) (cuts ws)).members z in
    let low = (number_inserted w.low (insert_by ltb (suc w.high) (cuts ws))).members z in (
      λ m. elim (low.0 m) [
        | inl e ↦ inl (inl e)
        | inr k ↦ elim (high.0 k) [ inl e ↦ inl (inr e) | inr n ↦ inr n ]
      ],
      λ d. low.1 (elim d [
        | inl c ↦ elim c [ inl e ↦ inl e | inr e ↦ inr (high.1 (inl e)) ]
        | inr n ↦ inr (high.1 (inr n))
      ]),
    )

-- Each cut is made by a wanted range,
pub cut_wanted : (ws : List Range) (z : ℕ) → Mem z (cuts ws) → (w : Range) × Mem w ws × CutBy w z
cut_wanted [] z m = absurd (mem_none m)
cut_wanted (w ∷ ws) z m =
    elim ((cut_cons w ws z).0 m)
    [ inl d ↦ (w, here, d) | inr n ↦ (let c = cut_wanted ws z n in (c.0, there c.1, c.2)) ]

-- and each wanted range makes its cuts.
pub wanted_cut : {w : Range} {ws : List Range} → Mem w ws → (z : ℕ) → CutBy w z → Mem z (cuts ws)
wanted_cut {w} (here {xs = ws}) z d = (cut_cons w ws z).1 (inl d)
wanted_cut (there {y = v} {xs = ws} m) z d = (cut_cons v ws z).1 (inr (wanted_cut m z d))

-- A range that does not cut r holds all of it or none: all if it has one number of it.
pub uncut_covers
    : (r w : Range) (v : ℕ) → Uncut r w.low → Uncut r (suc w.high) → Contains r v → T (covers w r) ↔ Contains w v
uncut_covers r w v low high h = (
  λ k. let s = (both_le w.low r.low r.high w.high).0 k in (omega arith, omega arith),
  λ k. (both_le w.low r.low r.high w.high).1
      (elim low [ inl p ↦ p | inr p ↦ omega arith ], elim high [ inl p ↦ omega arith | inr p ↦ omega arith ]),
)

-- The range w has something of r.
abbrev pub meets : Range → Range → Bool
meets w r = leb w.low r.high && leb r.low w.high

-- One that does not cut r has something of it exactly where it has all of it.
pub uncut_meets
    : (r w : Range) (v : ℕ) → Uncut r w.low → Uncut r (suc w.high) → Contains r v → T (meets w r) ↔ Contains w v
uncut_meets r w v low high h = (
  λ t. let s = (both_le w.low r.high r.low w.high).0 t in (
    elim low [ inl p ↦ omega arith | inr p ↦ omega (arith, s.0) ],
    elim high [ inl p ↦ omega (arith, s.1) | inr p ↦ omega arith ],
  ),
  λ k. (both_le w.low r.high r.low w.high).1 (omega (arith, k.0), omega (arith, k.1)),
)

-- So it is with the wanted ranges and a range between their cuts.
pub covers_contains
    : (ws : List Range) (r w : Range) (v : ℕ) → Between (cuts ws) r → Mem w ws → Contains r v
    → T (covers w r) ↔ Contains w v
covers_contains ws r w v b m h =
    uncut_covers r w v (all_at (Uncut r) (wanted_cut m w.low (inl refl)) b.uncut)
    (all_at (Uncut r) (wanted_cut m (suc w.high) (inr refl)) b.uncut) h

pub meets_contains
    : (ws : List Range) (r w : Range) (v : ℕ) → Between (cuts ws) r → Mem w ws → Contains r v → T (meets w r) ↔ Contains w v
meets_contains ws r w v b m h =
    uncut_meets r w v (all_at (Uncut r) (wanted_cut m w.low (inl refl)) b.uncut)
    (all_at (Uncut r) (wanted_cut m (suc w.high) (inr refl)) b.uncut) h

-- A run lies between two cuts,
pub run_between : (ws : List Range) (r : Range) → Mem r (runs ws) → Between (cuts ws) r
run_between ws r m =
    let inside = (filter_mem (is_covered ws) (between (cuts ws)) m).0 in
    all_at (Between (cuts ws)) inside (between_cuts (cuts ws) (cuts_ascend ws))

-- and in a wanted range.
pub run_wanted : (ws : List Range) (r : Range) → Mem r (runs ws) → (w : Range) × Mem w ws × T (covers w r)
run_wanted ws r m = any_mem (λ (w : Range). covers w r) ws (filter_mem (is_covered ws) (between (cuts ws)) m).1

-- There are at most two for each range.
pub runs_length : (ws : List Range) → length (runs ws) ≤ 2 * length ws
runs_length ws = omega (arith, filter_length (is_covered ws) (between (cuts ws)), between_length (cuts ws), cuts_length ws)

-- The runs ascend and do not overlap.
pub runs_ascend : (ws : List Range) → Ascending EndsBefore (runs ws)
runs_ascend ws =
    ascending_filter EndsBefore (is_covered ws) (between (cuts ws))
    (between_ascends (cuts ws) (cuts_ascend ws))

-- What a wanted range accepts lies in a run.
pub in_run
    : (ws : List Range) (w : Range) (v : ℕ) → Mem w ws → Contains w v
    → (r : Range) × Mem r (runs ws) × Contains r v
in_run ws w v m h =
    let low = wanted_cut m w.low (inl refl) in
    let high = wanted_cut m (suc w.high) (inr refl) in
    let r = between_covers (cuts ws) (cuts_ascend ws) w.low (suc w.high) v low h.0 high (omega (arith, h.1)) in
    let b = all_at (Between (cuts ws)) r.1 (between_cuts (cuts ws) (cuts_ascend ws)) in
    let covered = mem_any (λ (u : Range). covers u r.0) m ((covers_contains ws r.0 w v b m r.2).1 h) in
    (r.0, mem_filter (is_covered ws) r.1 covered, r.2)

-- Some wanted range accepts one of the two numbers and not the other.
abbrev pub Parted : List Range → ℕ → ℕ → Type 0
Parted ws u v =
    (w : Range) × Mem w ws × ((Contains w u × (Contains w v → ⊥)) ⊎ (Contains w v × (Contains w u → ⊥)))

-- A cut is parted from the number before it, where no wanted range is empty.
pub cut_parted
    : (ws : List Range) → All (λ (w : Range). w.low ≤ w.high) ws → (z : ℕ) → 1 ≤ z → Mem z (cuts ws)
    → Parted ws (pred z) z
cut_parted ws ordered z positive m =
    let c = cut_wanted ws z m in
    let ends : c.0.low ≤ c.0.high = all_at (λ (w : Range). w.low ≤ w.high) c.1 ordered in
    elim c.2 [
      | inl e ↦ (c.0, c.1, inr ((omega arith, omega arith), λ k. omega arith))
      | inr e ↦ (c.0, c.1, inl ((omega arith, omega arith), λ k. omega arith))
    ]

-- Request 13: "That the numbers equal the constant table at every place is proved."
use mathlib.Core.Path.{◌≡◌, refl, sym, ap, ◌∙◌}
use mathlib.Core.Bool.{true, and-eq-true_iff}
use mathlib.Core.List.{List, [], ◌∷◌, ◌++◌}
use Prim.Native.Nat.{ℕ, suc, ◌<◌}
use borrow.Author.Tests.{eqb-true}
use lib.Dec.{eqb}
use lib.ListN.{length, get_or}
use lib.Seq.{ext_get_or}
use Rattle.places.specs.Numbering.{parent_at}
use Rattle.places.specs.AllParents.{AllParents}
use Rattle.places.proofs.TableRule.{follows, entry}
use Rattle.parent_lines.specs.ParentLines.{place_line, lines_from, parent_lines}
use Rattle.parent_lines.specs.CountedOut.{Line, counted_out, places_of, parents_of, text}

-- Lines that name the places from k on, each with its parent, are the text of these places.
text_from
    : (k : ℕ) (lines : List Line) → follows (λ (n : ℕ). n) k (places_of lines) ≡ true
    → follows parent_at k (parents_of lines) ≡ true
    → text lines ≡ lines_from k (length lines)
unfolding lines_from
text_from k [] p q = refl
text_from k (l ∷ lines) p q =
    let place = (and-eq-true_iff (eqb l.place k) (follows (λ (n : ℕ). n) (suc k) (places_of lines))).0 p in
    let parent = (and-eq-true_iff (eqb l.parent (parent_at k)) (follows parent_at (suc k) (parents_of lines))).0 q in
    ap (λ (n : ℕ). place_line n l.parent ++ text lines) (eqb-true l.place k place.0)
    ∙ ap (λ (u : ℕ). place_line k u ++ text lines) (eqb-true l.parent (parent_at k) parent.0)
    ∙ ap (place_line k (parent_at k) ++◌) (text_from (suc k) lines place.1 parent.1)

-- "A program writes 680 lines": what `put_parents` writes are the lines counted out,
pub printed_is_counted : parent_lines ≡ text counted_out
printed_is_counted = sym (text_from 0 counted_out refl refl)

pub counted_all : length counted_out ≡ 680
counted_all = refl

-- in the order of the places, 0 to 679,
pub counted_in_order : (n : ℕ) → n < 680 → get_or (places_of counted_out) n 0 ≡ n
counted_in_order n inside = entry (λ (k : ℕ). k) (places_of counted_out) refl n inside

-- and the numbers beside them are the constant table's, entry for entry: `AllParents` is what the contract of `places::all_parents`
-- says of that table, which it hands back.
pub counted_is_table : (table : List ℕ) → AllParents table → parents_of counted_out ≡ table
counted_is_table table all =
    ext_get_or 0 (parents_of counted_out) table (sym all.entries)
    (λ n inside. entry parent_at (parents_of counted_out) refl n inside ∙ sym (all.entry n inside))

-- Things that are read one after another up to one that is sought; and where the rules of a sheet begin.
use Rattle.std.specs.Prelude.{ℕ, pred, ◌+◌, ◌-◌, ◌≤◌, ◌<◌, ◌≡◌, cond, List, [], ◌∷◌, eqb, ltb, length, get_or, drop, set}
use Rattle.records.specs.Reading.{Reading, read_row}
use Rattle.terms.specs.Pattern.{pnil}
use Rattle.sheet.specs.ReadSheet.{read_rule}
use Rattle.graph.specs.views.Rewriting.{IsTook, read_or}

module _ {A : Type 0} (one : List ℕ → Reading A) (other : A) (s : List ℕ) where
  -- The n things from a position on.
  abbrev pub row_from : ℕ → ℕ → List A
  row_from n at = read_or [] (read_row [] ◌∷◌ one n (drop at s))

  -- Of count things i were passed, up to a position, and thing k is among those that are left.
  pub record Seeking (count k at i : ℕ) : Type 0 where
    pub sought : i ≤ k
    pub among : k < count
    pub there : at ≤ length s
    pub left : IsTook (read_row [] ◌∷◌ one (count - i) (drop at s))
    pub same : get_or (row_from count 0) k other ≡ get_or (row_from (count - i) at) (k - i) other

-- Where a rule, from 1, of the rules, so many, begins; 0 also where that is not noted.
abbrev pub BeginAt : List ℕ → ℕ → ℕ → ℕ → ℕ → Type 0
BeginAt s arity count rule begin =
    (begin ≡ 0 → ⊥) → Seeking (read_rule arity) pnil s count (pred rule) begin (pred rule)

-- How many rules are passed where the search for a rule starts at its begin.
abbrev pub passed_by : ℕ → ℕ → ℕ
passed_by begin rule = cond (eqb begin 0) 0 (rule - 1)

-- Where a rule begins, as tables have it: in a plane of 64,
abbrev pub begin_of : List ℕ → ℕ → ℕ
begin_of kept rule = cond (ltb rule 65) (get_or kept (67 + rule) 0) 0

-- each of which is that of its rule.
abbrev pub Begins : List ℕ → ℕ → ℕ → List ℕ → Type 0
Begins s arity count kept = (rule : ℕ) → 1 ≤ rule → rule ≤ count → BeginAt s arity count rule (begin_of kept rule)

-- The tables with the begin of one more rule, from 0, where there is a place for it.
abbrev pub noted_in : List ℕ → ℕ → ℕ → List ℕ
noted_in kept i at = cond (ltb i 64) (set kept (68 + i) at) kept

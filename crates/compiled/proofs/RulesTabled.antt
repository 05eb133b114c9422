-- The rules of a sheet put into the tables and the cuts one after another, as they are read.
use Prim.Native.Nat.{ℕ, suc, ◌+◌, ◌-◌, ◌<◌}
use mathlib.Core.Path.{◌≡◌, refl, sym, ap, ◌∙◌, subst}
use mathlib.Core.List.{List, [], ◌∷◌}
use native.Mathlib.Omega.{arith}
use lib.ListN.{get_or, drop}
use lib.Seq.{drop-drop, get_or-drop}
use Rattle.basics.proofs.Clash.{clash}
use Rattle.records.specs.Reading.{took, refused}
use Rattle.records.proofs.Rows.{row_refused, row_next, after_took}
use Rattle.terms.specs.Pattern.{Patterns, pnil}
use Rattle.terms.specs.Answer.{rule_at}
use Rattle.sheet.specs.ReadSheet.{read_rule, read_rules}
use Rattle.tables.specs.views.Planes.{rules_in}
use Rattle.compiled.specs.views.Compiling.{Compiling, Compiled}
use Rattle.compiled.proofs.Filling.{Filled, filled_start}
use Rattle.compiled.proofs.FilledTables.{filled_done}

module _ (arity : ℕ) (b numbers s₀ c₀ : List ℕ) where
  -- Behind the first i rules, which take so many bytes: these are left, and the first are in the tables and the cuts.
  pub record Left (order : List ℕ) (all : List Patterns) (g : Compiling arity b numbers s₀ c₀ order all) (i at : ℕ) (s c : List ℕ)
      : Type 0 where
    pub used : ℕ
    pub left : List Patterns
    pub read : read_rules arity (rules_in s₀ - i) (drop at b) ≡ took used left
    pub rest : drop i all ≡ left
    pub filled : Filled g i s c

  abbrev pub Tabling : ℕ → ℕ → List ℕ → List ℕ → Type 0
  Tabling i at s c =
      (order : List ℕ) (all : List Patterns) (g : Compiling arity b numbers s₀ c₀ order all) → Left order all g i at s c

  -- Before the first rule all are left,
  pub tabling_start : Tabling 0 0 s₀ c₀
  tabling_start order all g =
      let whole : rules_in s₀ - 0 ≡ rules_in s₀ = omega arith in
      record {
        used = g.bytes;
        left = all;
        read = ap (λ (k : ℕ). read_rules arity k b) whole ∙ g.read;
        rest = refl;
        filled = filled_start g;
      }

  module _ (i at : ℕ) (s c : List ℕ) (tabling : Tabling i at s c) (order : List ℕ) (all : List Patterns)
      (g : Compiling arity b numbers s₀ c₀ order all) where
    -- and after the last all are in.
    pub tabling_end : i ≡ rules_in s₀ → Compiled all order s c
    tabling_end e = filled_done g s c (subst (λ (k : ℕ). Filled g k s c) e (tabling order all g).filled)

    module _ (h : i < rules_in s₀) where
      -- Where a rule is refused, so are all.
      pub tabling_refused : {C : Type 0} {q : ℕ} → read_rule arity (drop at b) ≡ refused q → C
      tabling_refused no-rule =
          let none = row_refused [] ◌∷◌ (read_rule arity) (rules_in s₀ - i) (drop at b) (omega arith) no-rule in
          let d = sym (tabling order all g).read ∙ none in
          clash (cc)

      module _ {k : ℕ} (rule : Patterns) (one : read_rule arity (drop at b) ≡ took k rule) where
        others : (used : ℕ) × (rs : List Patterns) × (read_rules arity (rules_in s₀ - i - 1) (drop k (drop at b)) ≡ took used rs)
            × (drop i all ≡ rule ∷ rs)
        others =
            let l = tabling order all g in
            let next = sym (row_next [] ◌∷◌ (read_rule arity) (rules_in s₀ - i) (drop at b) (omega arith) one) ∙ l.read in
            let (used, rs, read, sum, joined) = after_took k (λ (rs : List Patterns). rule ∷ rs) _ next in
            (used, rs, read, l.rest ∙ joined)

        -- The rule that is read is the next.
        pub tabling_rule : rule ≡ rule_at all (suc i)
        tabling_rule =
            let zero_more : i + 0 ≡ i = omega arith in
            sym (ap (λ (rs : List Patterns). get_or rs 0 pnil) others.3)
            ∙ get_or-drop i all 0 pnil
            ∙ ap (λ (j : ℕ). get_or all j pnil) zero_more

        -- With it one less is left.
        pub tabling_turn : {s' c' : List ℕ} → Filled g (i + 1) s' c' → Left order all g (i + 1) (at + k) s' c'
        tabling_turn f =
            let less : rules_in s₀ - (i + 1) ≡ rules_in s₀ - i - 1 = omega arith in
            record {
              used = others.0;
              left = others.1;
              read = (λ j. read_rules arity (less j) (sym (drop-drop k at b) j)) ∙ others.2;
              rest = sym (drop-drop 1 i all) ∙ ap (drop 1) others.3;
              filled = f;
            }

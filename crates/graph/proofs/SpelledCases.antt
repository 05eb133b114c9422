-- The records of cases are read as they are written, one and in rows of any number.
use Prim.Native.Nat.{ℕ}
use mathlib.Core.Path.{◌≡◌, refl, sym, ap, subst, ◌∙◌}
use mathlib.Core.Bool.{Bool, true, false, cond}
use mathlib.Core.List.{List, ◌++◌}
use native.Mathlib.Omega.{arith}
use borrow.Author.Tests.{le-leb, ne_eqb}
use lib.Dec.{T, leb, eqb, eqb→eq, leb→le}
use lib.ListN.{length, get_or, drop}
use Rattle.std.specs.Prelude.{Result, Ok}
use Rattle.records.specs.declared.refusal.Refusal.{Refusal}
use Rattle.records.specs.Fields.{IsByte, wide_at}
use Rattle.records.specs.Reading.{took}
use Rattle.records.proofs.WideFields.{wide_of_lem}
use Rattle.basics.specs.Lists.{All}
use Rattle.terms.specs.Term.{Wide, value_of}
use Rattle.terms.proofs.Gauges.{gauge_of_number, gauged_number}
use Rattle.decision.specs.Cases.{Case, symbols_case, compound_case, numbers_case}
use Rattle.decision.specs.Node.{CaseEdge}
use Rattle.decision.specs.GraphBytes.{case_bytes, cases_bytes}
use Rattle.decision.specs.AcceptedGraph.{CaseFields}
use Rattle.graph.specs.declared.CaseRecord.{CaseRecord}
use Rattle.graph.specs.declared.CaseRecord.TheVariants.{Symbols, Compound, Numbers}
use Rattle.graph.specs.views.NodeRecord.{whole_case, case_head, on_case}
use Rattle.graph.specs.ReadGraph.{read_cases, edge, read_case}
use Rattle.graph.proofs.ByKinds.{case_by_kind}
use Rattle.graph.proofs.Spelling.{Reads, Spelled, GoodRow, row_spelled}
use Rattle.graph.proofs.FieldBytes.{wide_at_lem, byte_then, kind_then, wide_then_lem}
use Rattle.graph.proofs.GaugedCases.{gauged_bytes, gauged_case}
use Rattle.records.proofs.ByteLists.{byte_at}

-- What holds of a record where its kind is told, and of the others, holds of the head.
pub kind_holds
    : {A : Type 0} (P : A → Type 0) (b : Bool) {this others : A} → (T b → P this) → P others → P (cond b this others)
kind_holds P true h k = h tt
kind_holds P false h k = k

-- The bytes of a case with where it leads, and what they can hold.
abbrev pub edge_bytes : CaseEdge ℕ → List ℕ
edge_bytes c = case_bytes c.case c.target

abbrev pub EdgeFields : CaseEdge ℕ → Type 0
EdgeFields c = CaseFields c.case × Wide c.target

case_brought
    : (c : Case) (n : ℕ) (rest : List ℕ) → CaseFields c → Wide n
    → on_case (case_head (case_bytes c n ++ rest)) ≡ took (length (case_bytes c n)) (edge c n)
case_brought (symbols_case l u) n rest h k =
    let s = case_bytes (symbols_case l u) n ++ rest in
    rw (
      ne_eqb (length s) 0 (λ e. omega arith),
      le-leb 7 (length s) (omega arith),
      wide_of_lem l h.0,
      wide_of_lem u h.1,
      wide_of_lem n k,
    )
case_brought (compound_case a m) n rest h k =
    let s = case_bytes (compound_case a m) n ++ rest in
    rw (ne_eqb (length s) 0 (λ e. omega arith), le-leb 6 (length s) (omega arith), wide_of_lem a h.0, wide_of_lem n k)
case_brought (numbers_case l u) n rest h k =
    let s = case_bytes (numbers_case l u) n ++ rest in
    let own = gauged_case l u h.2 in
    rw (
      ne_eqb (length s) 0 (λ e. omega arith),
      le-leb 8 (length s) (omega arith),
      wide_of_lem (value_of l) (omega arith),
      wide_of_lem (value_of u) (omega arith),
      wide_of_lem n k,
    ) (ap (λ (c : Case). took 8 (edge c n)) own)

module _ (s : List ℕ) (h : All IsByte s) where
  abbrev Told : Result CaseRecord Refusal → Type 0
  Told r = Reads edge_bytes EdgeFields s (on_case r)

  whole_told : (b : Bool) (r : CaseRecord) → (T b → Told (Ok r)) → Told (whole_case b r)
  whole_told true r f = f tt
  whole_told false r f = tt

  -- Each kind of case with its fields.
  case_told : Told (case_head s)
  case_told =
      kind_holds Told (eqb (length s) 0) (λ e. tt)
      (kind_holds Told (eqb (get_or s 0 0) 0x44)
      (λ k. whole_told (leb 7 (length s)) (Symbols (wide_at s 1) (wide_at s 3) (wide_at s 5)) (λ l.
      let there = leb→le 7 (length s) l in
      record {
        good = ((wide_at_lem s h 1, wide_at_lem s h 3), wide_at_lem s h 5);
        size = refl;
        begins =
            kind_then s h (eqb→eq (get_or s 0 0) 0x44 k) (omega arith)
            (wide_then_lem s h 1 (omega arith) (wide_then_lem s h 3 (omega arith) (wide_then_lem s h 5 (omega arith) refl)));
      }))
      (kind_holds Told (eqb (get_or s 0 0) 0x45)
      (λ k. whole_told (leb 6 (length s)) (Compound (wide_at s 1) (get_or s 3 0) (wide_at s 4)) (λ l.
      let there = leb→le 6 (length s) l in
      record {
        good = ((wide_at_lem s h 1, byte_at s 3 h), wide_at_lem s h 4);
        size = refl;
        begins =
            kind_then s h (eqb→eq (get_or s 0 0) 0x45 k) (omega arith)
            (wide_then_lem s h 1 (omega arith) (byte_then s h 3 (omega arith) (wide_then_lem s h 4 (omega arith) refl)));
      }))
      (kind_holds Told (eqb (get_or s 0 0) 0x46)
      (λ k. whole_told (leb 8 (length s)) (Numbers (wide_at s 2) (wide_at s 4) (wide_at s 6) (get_or s 1 0)) (λ l.
      let there = leb→le 8 (length s) l in
      let gauge = get_or s 1 0 in
      let low = wide_at_lem s h 2 in
      let high = wide_at_lem s h 4 in
      record {
        good = (
          (
            gauged_number gauge (wide_at s 2) (byte_at s 1 h) low,
            gauged_number gauge (wide_at s 4) (byte_at s 1 h) high,
            gauge_of_number gauge (wide_at s 2) low ∙ sym (gauge_of_number gauge (wide_at s 4) high),
          ),
          wide_at_lem s h 6,
        );
        size = refl;
        begins =
            kind_then s h (eqb→eq (get_or s 0 0) 0x46 k) (omega arith)
            (byte_then s h 1 (omega arith)
            (wide_then_lem s h 2 (omega arith) (wide_then_lem s h 4 (omega arith) (wide_then_lem s h 6 (omega arith) refl))))
            ∙ ap (λ (r : List ℕ). r ++ drop 8 s)
            (sym (gauged_bytes gauge (wide_at s 2) (wide_at s 4) (wide_at s 6) low high));
      }))
      tt)))

-- A case is read as it is written.
pub case_spelled : Spelled edge_bytes EdgeFields read_case
case_spelled =
    record {
      brought = λ c rest h. case_by_kind (edge_bytes c ++ rest) ∙ case_brought c.case c.target rest h.0 h.1;
      read = λ s h. subst (Reads edge_bytes EdgeFields s) (sym (case_by_kind s)) (case_told s h);
    }

-- Cases in a row are read as they are written, whatever their number.
pub cases_spelled : (n : ℕ) → Spelled cases_bytes (GoodRow EdgeFields n) (read_cases n)
cases_spelled = row_spelled edge_bytes EdgeFields read_case case_spelled cases_bytes refl (λ c cs. refl)

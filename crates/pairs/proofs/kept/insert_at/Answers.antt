-- The numbers from a place on moved one place further, and a number put at that place.
use Rattle.std.proofs.Common.{◌≡◌, ℕ, ◌+◌, ◌-◌, ◌≤◌, ◌<◌, List, [], ◌∷◌, ◌++◌, length, get_or, set, take, drop, sym, ap, ◌∙◌, append_assoc, arith, length-drop}
use Rattle.std.proofs.Math.Seq.{paste, take-set-lt, length-take-le}
use Rattle.std.proofs.lemmas.List.{take_more, set_at, drop-take}
use Rattle.std.proofs.lemmas.List.Edits.{take-paste}
use Rattle.pairs.proofs.kept.insert_at.Goals as goal

put_between
    : (codes : List ℕ) (n at code : ℕ) → at ≤ n → n < length codes
    → take (n + 1) (set (paste codes (at + 1) (drop at codes) (n - at)) at code)
    ≡ take at codes ++ (code ∷ drop at (take n codes))
put_between codes n at code low within =
    let moved = paste codes (at + 1) (drop at codes) (n - at) in
    let above = take (n - at) (drop at codes) in
    let end : n + 1 ≡ at + 1 + (n - at) = omega arith in
    let all : at + (n - at) ≡ n = omega arith in
    take-set-lt (n + 1) moved at code (omega arith)
    ∙ ap (λ (t : List ℕ). set t at code)
    (ap (λ (k : ℕ). take k moved) end
    ∙ take-paste codes (at + 1) (drop at codes) (n - at) (omega arith) (omega (arith, length-drop at codes))
    ∙ ap (λ (t : List ℕ). t ++ above) (take_more codes at 0 (omega arith))
    ∙ append_assoc (take at codes) (get_or codes at 0 ∷ []) above)
    ∙ set_at (take at codes) (get_or codes at 0) above code at (length-take-le at codes (omega arith))
    ∙ ap (λ (t : List ℕ). take at codes ++ (code ∷ t))
    (sym (drop-take at (n - at) codes) ∙ ap (λ (k : ℕ). drop at (take k codes)) all)

pub returns-clause-codes_after : goal.returns-clause-codes_after
returns-clause-codes_after c =
    let a = c.args in
    ap (λ (l : List ℕ). take (a.n + 1) (set l a.at a.code)) c.copy_within.ensures.after
    ∙ put_between a.codes.now a.n a.at a.code (omega arith) (omega arith)

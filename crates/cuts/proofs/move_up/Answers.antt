-- `cuts::move_up` meets its contract: what is copied is the slice.
use Prim.Native.Nat.{ℕ, ◌+◌, ◌-◌}
use mathlib.Core.Path.{◌≡◌, ◌∙◌, sym, ap}
use mathlib.Core.List.{List, ◌++◌, append_assoc}
use native.Mathlib.Omega.{arith}
use lib.ListN.{take, drop}
use lib.Seq.{slice, length-slice}
use Rattle.std.proofs.lemmas.List.{drop-take}
use Rattle.cuts.proofs.move_up.Goals as goal

pub returns : goal.returns
returns c =
    let a = c.args in
    let xs = a.c.now in
    let n = a.to - a.from in
    let front = take (a.from + 2) xs in
    let whole : a.from + n ≡ a.to = omega arith in
    let same : take n (drop a.from xs) ≡ slice a.from a.to xs =
    sym (drop-take a.from n xs) ∙ ap (λ (m : ℕ). drop a.from (take m xs)) whole in
    c.copy_within.ensures.after
    ∙ ap (λ (l : List ℕ). (front ++ l) ++ drop (a.from + 2 + n) xs) same
    ∙ append_assoc front (slice a.from a.to xs) (drop (a.from + 2 + n) xs)
    ∙ ap (λ (m : ℕ). front ++ (slice a.from a.to xs ++ drop (a.from + 2 + m) xs)) (sym (length-slice a.from a.to xs (omega arith)))

-- The places, the pairs, and the counts.
use Prim.Native.Nat.{◌+◌}
use mathlib.Core.Path.{◌≡◌, sym, ap, ◌∙◌}
use mathlib.Core.List.{map}
use native.Mathlib.Omega.{arith}
use lib.ListN.{length, take, set}
use lib.Seq.{length-take-le}
use Rattle.test_list.specs.views.Tests.{put_all, spot_code, tests_put}
use Rattle.test_list.proofs.PutLists.{put_length}
use Rattle.test_list.proofs.tests.put_tests.Goals as goal

pub put_pairs-requires : goal.put_pairs-requires
put_pairs-requires c =
    let a = c.args in
    let places = map spot_code (take a.count a.places.now) in
    (c.requires.0, c.requires.2, ap length c.put_places.ensures ∙ put_length places 4 a.s.now ∙ c.requires.3)

pub returns : goal.returns
unfolding tests_put
returns c =
    let a = c.args in
    let ps = take a.count a.places.now in
    let cs = take a.pairs a.codes.now in
    let count : a.count ≡ length ps = sym (length-take-le a.count a.places.now (omega (arith, c.requires))) in
    let pairs : a.pairs ≡ length cs = sym (length-take-le a.pairs a.codes.now (omega (arith, c.requires))) in
    let put = c.put_pairs.ensures ∙ (λ j. put_all (4 + count j) cs (c.put_places.ensures j)) in
    λ j. set (set (put j) 1 (count j + pairs j)) 2 (count j)

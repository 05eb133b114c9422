-- `build_in` meets its contract: there is room for the cuts in the room that is used.
use native.Mathlib.Omega.{arith}
use Rattle.build.proofs.ListedTables.{small_compiling, large_compiling}
use Rattle.build.proofs.graph_of.+build_in.Goals as goal

pub build_within-requires : goal.build_within-requires
build_within-requires t c =
    let (order, all, g) = c.requires in record {
      few_words = omega arith;
      compiling =
          (order, all, small_compiling g 320 c.rules.ensures c.place_tests.ensures c.part-words.ensures c.if-words-gt320.false);
    }

pub returns-then-room-eq0 : goal.returns-then-room-eq0
returns-then-room-eq0 t c order all g =
    c.build_within.ensures order all
    (small_compiling g 320 c.rules.ensures c.place_tests.ensures c.part-words.ensures c.if-words-gt320.false)

pub build_within-requires-then-room-eq1 : goal.build_within-requires-then-room-eq1
build_within-requires-then-room-eq1 t c =
    let (order, all, g) = c.requires in record {
      few_words = omega arith;
      compiling =
          (order, all, small_compiling g 8256 c.rules.ensures c.place_tests.ensures c.part-words.ensures c.if-words-gt8256.false);
    }

pub returns-then-room-eq1 : goal.returns-then-room-eq1
returns-then-room-eq1 t c order all g =
    c.build_within-then-room-eq1.ensures order all
    (small_compiling g 8256 c.rules.ensures c.place_tests.ensures c.part-words.ensures c.if-words-gt8256.false)

pub build_within-requires-2 : goal.build_within-requires-2
build_within-requires-2 t c = let (order, all, g) = c.requires in record { few_words = omega arith; compiling = (order, all, large_compiling g) }

pub returns : goal.returns
returns t c order all g = c.build_within-2.ensures order all (large_compiling g)

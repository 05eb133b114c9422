-- The runs of a switch (document 02, requests 4 and 7): "each gauge of which a live rule has a range there is cut into runs by
-- itself", "the empty set included". Below `base` a run that no live rule wants is none; from `base` on each gauge has 65,536
-- codes, and all codes of a gauge are in runs where a live rule turns among them.
use Rattle.std.specs.Prelude.{ℕ, pred, min, max, ◌+◌, ◌*◌, ◌/◌, Bool, cond, List, [], ◌∷◌, eqb, ltb}
use Rattle.std.specs.Int.Bits.{bit_and, bit_xor}
use Rattle.basics.specs.Lists.{filter}
use Rattle.cuts.specs.views.Cuts.{Cut}
use Rattle.cuts.specs.views.Runs.{Run}

-- The codes from one up to another that no live rule wants, a run if there are any.
abbrev pub gap_run : ℕ → ℕ → List Run → List Run
gap_run start next rest = cond (ltb start next) (record { low = start; high = pred next; set = 0 } ∷ rest) rest

-- The first code of the gauge that a code is on, and the first of a gauge that is not below it.
abbrev pub gauge_first : ℕ → ℕ
gauge_first code = code / 0x1_0000 * 0x1_0000

abbrev pub gauge_end : ℕ → ℕ
gauge_end code = gauge_first (code + 0xffff)

-- The codes from one up to another that no live rule wants, on the gauges that these are on: where they are on two gauges, a run
-- ends the one and another begins the other, and what lies between is on no gauge that is wanted.
abbrev pub gap_runs : ℕ → ℕ → List Run → List Run
gap_runs start next rest =
    gap_run start (min next (gauge_end start)) (gap_run (max (gauge_end start) (gauge_first next)) next rest)

-- The run from one code up to another that `set` wants: those of the empty set begin at `base` or above.
abbrev pub framed_run : ℕ → ℕ → ℕ → ℕ → List Run → List Run
framed_run base start next set rest =
    cond (eqb set 0) (gap_runs (max start base) next rest) (record { low = start; high = pred next; set = set } ∷ rest)

module _ (base live : ℕ) where
  -- The runs before the cuts to come and behind the last: the run from `start` on is wanted by `set`. Behind the last cut the gauge
  -- goes on to its end.
  abbrev pub framed_from : ℕ → ℕ → List Cut → List Run
  framed_from start set [] = gap_run (max start base) (gauge_end (max start base)) []
  framed_from start set (x ∷ xs) =
      let turned = bit_and x.turns live in
      cond (eqb turned 0) (framed_from start set xs)
      (framed_run base start x.code set (framed_from x.code (bit_xor set turned) xs))

-- The runs of the switch with these cuts, where these rules are live: numbers have the codes from 0x300_0000 on.
abbrev pub framed_runs : ℕ → List Cut → List Run
framed_runs live cuts = framed_from 0x300_0000 live 0 0 cuts

-- The runs that begin below `base`, as symbols and compounds do.
abbrev pub is_name_run : ℕ → Run → Bool
is_name_run base r = ltb r.low base

abbrev pub name_runs : ℕ → List Run → List Run
name_runs base rs = filter (is_name_run base) rs

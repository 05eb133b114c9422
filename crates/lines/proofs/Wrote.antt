-- Laws of parts written one after another into a lent buffer: five of them.
use Prim.Native.Nat.{ℕ, ◌+◌, ◌≤◌}
use mathlib.Core.List.{List, ◌++◌}
use lib.ListN.{length}
pub use Rattle.records.proofs.Wrote.{Wrote, wrote_as, room_as, wrote_behind, first_fits, rest_fits, wrote_more}

-- Five parts, one behind another.
pub record Five : Type 0 where
  pub one : List ℕ
  pub two : List ℕ
  pub three : List ℕ
  pub four : List ℕ
  pub five : List ℕ

abbrev pub joined : Five → List ℕ
joined f = f.one ++ (f.two ++ (f.three ++ (f.four ++ f.five)))

-- There is room for each in its turn, and then all are written.
module _ (xs : List ℕ) (at : ℕ) (f : Five) (room : at + length (joined f) ≤ length xs) where
  pub fits_1 : at + length f.one ≤ length xs
  fits_1 = first_fits xs at f.one (f.two ++ (f.three ++ (f.four ++ f.five))) room

  module _ {end-1 : ℕ} {xs-1 : List ℕ} (w_1 : Wrote xs at f.one end-1 xs-1) where
    room_2 : end-1 + length (f.two ++ (f.three ++ (f.four ++ f.five))) ≤ length xs-1
    room_2 = rest_fits xs at f.one (f.two ++ (f.three ++ (f.four ++ f.five))) room w_1

    pub fits_2 : end-1 + length f.two ≤ length xs-1
    fits_2 = first_fits xs-1 end-1 f.two (f.three ++ (f.four ++ f.five)) room_2

    module _ {end-2 : ℕ} {xs-2 : List ℕ} (w_2 : Wrote xs-1 end-1 f.two end-2 xs-2) where
      room_3 : end-2 + length (f.three ++ (f.four ++ f.five)) ≤ length xs-2
      room_3 = rest_fits xs-1 end-1 f.two (f.three ++ (f.four ++ f.five)) room_2 w_2

      pub fits_3 : end-2 + length f.three ≤ length xs-2
      fits_3 = first_fits xs-2 end-2 f.three (f.four ++ f.five) room_3

      module _ {end-3 : ℕ} {xs-3 : List ℕ} (w-3 : Wrote xs-2 end-2 f.three end-3 xs-3) where
        room_4 : end-3 + length (f.four ++ f.five) ≤ length xs-3
        room_4 = rest_fits xs-2 end-2 f.three (f.four ++ f.five) room_3 w-3

        pub fits_4 : end-3 + length f.four ≤ length xs-3
        fits_4 = first_fits xs-3 end-3 f.four f.five room_4

        module _ {end-4 : ℕ} {xs-4 : List ℕ} (w-4 : Wrote xs-3 end-3 f.four end-4 xs-4) where
          pub fits_5 : end-4 + length f.five ≤ length xs-4
          fits_5 = rest_fits xs-3 end-3 f.four f.five room_4 w-4

          pub wrote_five : {end : ℕ} {ys : List ℕ} → Wrote xs-4 end-4 f.five end ys → Wrote xs at (joined f) end ys
          wrote_five w-5 =
              wrote_more xs at f.one (f.two ++ (f.three ++ (f.four ++ f.five))) room w_1
              (wrote_more xs-1 end-1 f.two (f.three ++ (f.four ++ f.five)) room_2 w_2
              (wrote_more xs-2 end-2 f.three (f.four ++ f.five) room_3 w-3
              (wrote_more xs-3 end-3 f.four f.five room_4 w-4 w-5)))

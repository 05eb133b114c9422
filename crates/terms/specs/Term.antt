-- Terms (document 01, "Records", "Piece"; document 02, requests 4, 6 and 7).
use Rattle.std.specs.Prelude.{ℕ, suc, ◌+◌, ◌*◌, ◌/◌, ◌%◌, ◌<◌}

-- "Terms: 30 unknown; 31 symbol (wide id); 32 number (wide); 33 compound (wide id, arity), then its arguments." The arity is
-- the number of arguments. A piece is the list of its argument terms. A number may be known as a span only, by its low and its
-- high: "a number known to lie between them". "Record 35 stands for a reading that will never come", and "a lacking sensor is no
-- longer written as unknown".
mutual
  pub data Term : Type 0 where
    unknown : Term
    never : Term
    symbol : ℕ → Term
    numbers : ℕ → ℕ → Term
    compound : ℕ → Terms → Term

  pub data Terms : Type 0 where
    nil : Terms
    cons : Term → Terms → Terms

-- "A span with equal ends is that number."
abbrev pub number : ℕ → Term
number a = numbers a a

abbrev pub count : Terms → ℕ
count nil = 0
count (cons t ts) = suc (count ts)

-- What "a wide field" of two bytes can hold: 0 to 65,535.
abbrev pub Wide : ℕ → Type 0
Wide n = n < 65536

-- "Record 36 (gauge, wide value) is a number on a named gauge; record 32 means gauge 0." A number is both in one: two are the same
-- exactly when gauge and wide value are. The numbers of a gauge follow one another, and behind them come those of the next gauge.
abbrev pub on_gauge : ℕ → ℕ → ℕ
on_gauge g v = g * 65536 + v

-- The gauge of a number, and its value there.
abbrev pub gauge_of : ℕ → ℕ
gauge_of n = n / 65536

abbrev pub value_of : ℕ → ℕ
value_of n = n % 65536

-- The numbers of all gauges, of which a byte names 256.
abbrev pub Gauged : ℕ → Type 0
Gauged n = n < 16777216

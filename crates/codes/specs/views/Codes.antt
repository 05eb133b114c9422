-- A number for each term, but for its arguments. What stands at a place and what a place test wants are runs of such numbers, each
-- with a lowest and a highest code. The codes of symbols, compounds and numbers ascend in this order, as the cases of a switch do.
use Rattle.std.specs.Prelude.{ℕ, ◌+◌, ◌-◌, ◌*◌, ◌/◌, ◌%◌, ◌≤◌, ◌≡◌}
use Rattle.terms.specs.Term.{Term, count, unknown, never, symbol, numbers, compound, Wide, Gauged, gauge_of}
use Rattle.terms.specs.RuleTests.{Want, a_symbol, a_number, a_compound}

-- The sort of a term in the highest byte, below it its id or number, or a compound's id and arity. The sorts are in the order of a
-- switch's cases, and neighbouring ids or numbers have neighbouring codes, so that a case is a run of codes.
abbrev pub symbol_code : ℕ → ℕ
symbol_code a = 0x1000000 + a

abbrev pub compound_code : ℕ → ℕ → ℕ
compound_code a n = 0x2000000 + a * 256 + n

abbrev pub number_code : ℕ → ℕ
number_code a = 0x3000000 + a

-- The highest code that a test can want: a number has 24 bits, its gauge and its value.
abbrev pub highest_code : ℕ
highest_code = 0x3ffffff

-- "A reading that will never come" has a code that no test wants and nothing else has.
abbrev pub never_code : ℕ
never_code = 0x4000000

-- The codes that what is known of a term allows, but for its arguments: a symbol, a compound and a number have one, "a number known
-- to lie between them" has those from its low to its high, and an unknown all that a test can want, since anything can stand there.
abbrev pub term_low : Term → ℕ
term_low unknown = symbol_code 0
term_low never = never_code
term_low (symbol a) = symbol_code a
term_low (numbers a b) = number_code a
term_low (compound a ts) = compound_code a (count ts)

abbrev pub term_high : Term → ℕ
term_high unknown = highest_code
term_high never = never_code
term_high (symbol a) = symbol_code a
term_high (numbers a b) = number_code b
term_high (compound a ts) = compound_code a (count ts)

-- A run of codes as one number: its lowest code in 32 bits, and above them how far it goes on, so that a single code is its own
-- run.
abbrev pub run_of : ℕ → ℕ → ℕ
run_of low high = (high - low) * 0x100000000 + low

abbrev pub low_of : ℕ → ℕ
low_of run = run % 0x100000000

abbrev pub high_of : ℕ → ℕ
high_of run = (run % 0x100000000 + run / 0x100000000) % 0x100000000

abbrev pub term_run : Term → ℕ
term_run t = run_of (term_low t) (term_high t)

abbrev pub unknown_run : ℕ
unknown_run = run_of (symbol_code 0) highest_code

abbrev pub want_low : Want → ℕ
want_low (a_symbol l h) = symbol_code l
want_low (a_number l h) = number_code l
want_low (a_compound a n) = compound_code a n

abbrev pub want_high : Want → ℕ
want_high (a_symbol l h) = symbol_code h
want_high (a_number l h) = number_code h
want_high (a_compound a n) = compound_code a n

-- What a rule of an accepted sheet can want: "Is its arity 1 to 4?", "Is low at most high?", and fields are wide, so that no two
-- sorts share a code. Numbers are wanted of one gauge.
abbrev pub SoundWant : Want → Type 0
SoundWant (a_symbol l h) = (l ≤ h) × Wide h
SoundWant (a_number l h) = (l ≤ h) × Gauged h × (gauge_of l ≡ gauge_of h)
SoundWant (a_compound a n) = Wide a × (n ≤ 4)

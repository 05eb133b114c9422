-- Fillings of a piece, and pieces filled in further (document 01, "Places and tests"; document 02, requests 4, 6
-- and 7).
use Rattle.std.specs.Prelude.{ℕ, ◌≤◌, ◌≡◌, ◌⊎◌}
use Rattle.terms.specs.Term.{Term, Terms, count, Wide, Gauged, unknown, never, symbol, numbers, compound, nil, cons}

-- What a filling puts in: "a term without unknowns, of any depth and compound arities 1 to 4". Its ids are 0 to 65,535, as in
-- records, its numbers are on any gauge and known. "A filling itself still uses ordinary terms only": not record 35.
abbrev mutual
  pub Ground : Term → Type 0
  Ground unknown = ⊥
  Ground never = ⊥
  Ground (symbol a) = Wide a
  Ground (numbers a b) = (a ≡ b) × Gauged b
  Ground (compound a ts) = Wide a × (1 ≤ count ts) × (count ts ≤ 4) × Grounds ts

  pub Grounds : Terms → Type 0
  Grounds nil = Unit
  Grounds (cons t ts) = Ground t × Grounds ts

-- What filling in more puts in: "terms, which may hold unknowns". A span has a number, low being at most high, and spans "keep to
-- gauge 0", which has the numbers that a wide field holds. "An unknown may later become 35, and that is filling in more."
abbrev mutual
  pub WellFormed : Term → Type 0
  WellFormed unknown = Unit
  WellFormed never = Unit
  WellFormed (symbol a) = Wide a
  WellFormed (numbers a b) = (a ≤ b) × Gauged b × ((a ≡ b) ⊎ Wide b)
  WellFormed (compound a ts) = Wide a × (1 ≤ count ts) × (count ts ≤ 4) × WellFormeds ts

  pub WellFormeds : Terms → Type 0
  WellFormeds nil = Unit
  WellFormeds (cons t ts) = WellFormed t × WellFormeds ts

-- "A piece with nothing to fill in": no unknown, and no span of several numbers.
abbrev mutual
  pub Known : Term → Type 0
  Known unknown = ⊥
  Known never = Unit
  Known (symbol a) = Unit
  Known (numbers a b) = a ≡ b
  Known (compound a ts) = Knowns ts

  pub Knowns : Terms → Type 0
  Knowns nil = Unit
  Knowns (cons t ts) = Known t × Knowns ts

-- Filling in: each unknown becomes a term of which P holds, each span a narrower one of which P holds, and all else stays.
mutual
  pub data Puts (P : Term → Type 0) : Term → Term → Type 0 where
    put_unknown : {g : Term} → P g → Puts P unknown g
    put_never : Puts P never never
    put_symbol : {a : ℕ} → Puts P (symbol a) (symbol a)
    put_numbers : {a b c d : ℕ} → a ≤ c → c ≤ d → d ≤ b → P (numbers c d) → Puts P (numbers a b) (numbers c d)
    put_compound : {a : ℕ} {ts gs : Terms} → Putss P ts gs → Puts P (compound a ts) (compound a gs)

  pub data Putss (P : Term → Type 0) : Terms → Terms → Type 0 where
    put_nil : Putss P nil nil
    put_cons : {t g : Term} {ts gs : Terms} → Puts P t g → Putss P ts gs → Putss P (cons t ts) (cons g gs)

-- "A filling puts a term without unknowns, .. in each unknown"; in a span it "puts a number of that span there". Of a term, and
-- of a piece.
abbrev pub Fills : Term → Term → Type 0
Fills t g = Puts Ground t g

abbrev pub Filling : Terms → Terms → Type 0
Filling piece filled = Putss Ground piece filled

-- "Filling in more turns some unknowns into terms, which may hold unknowns, and gives a piece filled in further." Of a span,
-- "narrowing one is filling in more".
abbrev pub FilledFurther : Terms → Terms → Type 0
FilledFurther piece further = Putss WellFormed piece further

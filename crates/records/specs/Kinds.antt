-- The kinds of records (document 01, "Records"; document 02, requests 4 to 7): "A record is one kind byte and a body whose length
-- the kind fixes." "Kinds .. are hexadecimal." "A wide field is two bytes, high byte first; the others are one byte."
use Rattle.std.specs.Prelude.{ℕ, suc, Bool, cond, ◌&&◌, List, [], ◌∷◌, leb, eqb, length, get_or}

-- A kind byte, and how many bytes its body has.
pub record Kind : Type 0 where
  pub byte : ℕ
  pub body : ℕ

abbrev pub kind : ℕ → ℕ → Kind
kind b n = record { byte = b; body = n }

-- All kinds, in the order of document 01; those of document 02 stand behind the others of their sort.
abbrev pub kinds : List Kind
kinds =
    -- Sheet: (arity, number of rules); anything, symbol (wide id), range (wide low, wide high), compound (wide id, arity),
    -- variable (its number), ranged variable (its number, wide low, wide high), series (wide low, wide high), range on a gauge
    -- (gauge, wide low, wide high).
    kind 0x10 2 ∷ kind 0x20 0 ∷ kind 0x21 2 ∷ kind 0x22 4 ∷ kind 0x23 3 ∷ kind 0x24 1 ∷ kind 0x25 5 ∷ kind 0x26 4 ∷ kind 0x27 5
    -- Piece: (arity); unknown, symbol (wide id), number (wide), compound (wide id, arity), span (wide low, wide high), a reading
    -- that will never come, number on a gauge (gauge, wide value).
    ∷ kind 0x11 1 ∷ kind 0x30 0 ∷ kind 0x31 2 ∷ kind 0x32 2 ∷ kind 0x33 3 ∷ kind 0x34 4 ∷ kind 0x35 0 ∷ kind 0x36 3
    -- Graph: (arity, number of rules, wide node count); fail, suspend, execute (rule), switch (wide place, wide number of cases,
    -- wide node for neither, wide node for unknown); cases: symbols (wide low, wide high, wide node), compound (wide id, arity,
    -- wide node), numbers (gauge, wide low, wide high, wide node); pair (wide place p, wide place q, wide node for no, wide node
    -- for other).
    ∷ kind 0x12 4 ∷ kind 0x40 0 ∷ kind 0x41 0 ∷ kind 0x42 1 ∷ kind 0x43 8 ∷ kind 0x44 6 ∷ kind 0x45 5 ∷ kind 0x46 7 ∷ kind 0x47 8
    ∷ []

abbrev pub body_in : List Kind → ℕ → ℕ
body_in [] b = 0
body_in (k ∷ ks) b = cond (eqb k.byte b) k.body (body_in ks b)

-- How many bytes a record of this kind has: the kind byte and its body.
abbrev pub record_length : ℕ → ℕ
record_length b = suc (body_in kinds b)

-- The kind byte that bytes begin with, 0 where there is none.
abbrev pub kind_of : List ℕ → ℕ
kind_of bytes = get_or bytes 0 0

-- "Does it begin with a whole .. record?"
abbrev pub begins_with : ℕ → List ℕ → Bool
begins_with k bytes = leb (record_length k) (length bytes) && eqb (kind_of bytes) k

-- "Is it a whole record of kinds .. to ..?"
abbrev pub is_whole : ℕ → ℕ → List ℕ → Bool
is_whole first last bytes =
    leb first (kind_of bytes) && leb (kind_of bytes) last && leb (record_length (kind_of bytes)) (length bytes)

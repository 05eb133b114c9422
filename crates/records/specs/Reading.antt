-- How bytes are read (document 01, "Questions at the counter"): "The first no, in order, gives its number."
use Rattle.std.specs.Prelude.{ℕ, zero, suc, ◌+◌, Bool, true, false, List, drop}

-- What was read and the number of bytes that it took, or the number of the question that got a no.
pub data Reading (A : Type 0) : Type 0 where
  took : ℕ → A → Reading A
  refused : ℕ → Reading A

-- Question q: go on where the answer is yes.
abbrev pub ask : {A : Type 0} → ℕ → Bool → Reading A → Reading A
ask q true next = next
ask q false next = refused q

-- Another view of what was read.
abbrev pub map_reading : {A B : Type 0} → (A → B) → Reading A → Reading B
map_reading f (took a x) = took a (f x)
map_reading f (refused q) = refused q

-- The same where a bytes were read before it.
abbrev pub after : {A B : Type 0} → ℕ → (A → B) → Reading A → Reading B
after a f (took b x) = took (a + b) (f x)
after a f (refused q) = refused q

-- One reading, then another of the bytes that follow it.
abbrev pub and_then : {A B : Type 0} → Reading A → (ℕ → A → Reading B) → Reading B
and_then (took a x) next = next a x
and_then (refused q) next = refused q

-- n things in a row, each read by one, gathered by empty and join.
unfoldable pub read_row : {A L : Type 0} → L → (A → L → L) → (List ℕ → Reading A) → ℕ → List ℕ → Reading L
read_row empty join one zero bytes = took 0 empty
read_row empty join one (suc n) bytes =
    and_then (one bytes) (λ a x. after a (join x) (read_row empty join one n (drop a bytes)))

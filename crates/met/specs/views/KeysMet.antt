-- The keys met so far (document 01, "Nodes"): "A key met before leads to the node that already has it." A key's number is its place
-- among them. They stand in one array: key i's live rules at i, its pending tests at 1,024 + i, at 2,048 + i the number after that
-- of the last key before it that has its hash, at 3,072 + h the number after that of the last key with hash h, and at 4,096 how
-- many keys there are. 0 stands where there is no such key.
use Rattle.std.specs.Prelude.{◌≡◌, ℕ, zero, suc, ◌+◌, ◌*◌, ◌%◌, ◌<◌, ◌≤◌, false, cond}
use Rattle.std.specs.Prelude.{List, [], ◌∷◌, ◌++◌, map, length, ◌==◌, slice_index}
use Rattle.basics.specs.Lists.{count_from, any_of}
use Rattle.decision.specs.Key.{Key, same_key}
use Rattle.decision.specs.Graph.{number_in, most_nodes}
use Rattle.edges.specs.views.VertexKey.{key_with}

-- The number of a key among keys, their count where it is not among them.
abbrev pub key_number : List Key → Key → ℕ
key_number keys key = number_in same_key keys key

-- What is met once one key more is, and once some more are, one after another.
abbrev pub meet : List Key → Key → List Key
meet keys key = cond (any_of (same_key key) keys) keys (keys ++ key ∷ [])

abbrev pub meet_all : List Key → List Key → List Key
meet_all keys [] = keys
meet_all keys (k ∷ ks) = meet_all (meet keys k) ks

-- Keys are spread by all their rules and tests.
unfoldable pub hash_of : Key → ℕ
hash_of key = (5 * key.live + key.pending) % 0x1_0000_0000_0000_0000 % 1021

module _ (t : List ℕ) where
  abbrev pub key_at : ℕ → Key
  key_at i = key_with (slice_index t i) (slice_index t (1024 + i))

  abbrev pub link_at : ℕ → ℕ
  link_at i = slice_index t (2048 + i)

  abbrev pub head_at : ℕ → ℕ
  head_at h = slice_index t (3072 + h)

  abbrev pub count_in : ℕ
  count_in = slice_index t 4096

  abbrev pub keys_in : List Key
  keys_in = map key_at (count_from 0 count_in)

-- The number after that of the last of the first n keys that has the hash; 0 where none has.
abbrev pub last_with : (ℕ → Key) → ℕ → ℕ → ℕ
last_with key h zero = 0
last_with key h (suc n) = cond (hash_of (key n) == h) (suc n) (last_with key h n)

-- Every key is on the chain of its hash: the head is the last key that has it, and each links to the last one before it, so links
-- go to smaller numbers. No key stands twice.
pub record Chained (t : List ℕ) : Type 0 where
  pub size : length t ≡ 4097
  pub few : count_in t ≤ most_nodes
  pub heads : (h : ℕ) → h < 1024 → head_at t h ≡ last_with (key_at t) h (count_in t)
  pub links : (i : ℕ) → i < count_in t → link_at t i ≡ last_with (key_at t) (hash_of (key_at t i)) i
  pub once : (i j : ℕ) → i < j → j < count_in t → same_key (key_at t i) (key_at t j) ≡ false

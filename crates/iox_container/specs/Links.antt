-- A doubly linked list of keys, stored in two tables of links.
use Rattle.std.specs.Prelude.{ℕ, zero, suc, ◌≡◌, ◌+◌, ◌<◌, List, [], ◌∷◌, length, slice_index_or}
use Rattle.iox_container.specs.SlotTable.{Among, Distinct}

-- The first `count` keys of the list that starts at `key` and follows the links `next`.
abbrev pub walk : List ℕ → ℕ → ℕ → List ℕ
walk next zero key = []
walk next (suc count) key = key ∷ walk next count (slice_index_or next key 0)

-- From the key `at`, the links forward lead through these keys in their order to `end`, and the links back lead the same way back.
abbrev pub Chain : List ℕ → List ℕ → ℕ → List ℕ → ℕ → Type 0
Chain next previous at [] end = (slice_index_or next at 0 ≡ end) × (slice_index_or previous end 0 ≡ at)
Chain next previous at (key ∷ keys) end =
    (slice_index_or next at 0 ≡ key) × (slice_index_or previous key 0 ≡ at) × Chain next previous key keys end

-- The links lead from the first key through all of these keys to the end.
abbrev pub ChainFrom : List ℕ → List ℕ → ℕ → List ℕ → ℕ → Type 0
ChainFrom next previous first [] end = first ≡ end
ChainFrom next previous first (key ∷ keys) end = (first ≡ key) × Chain next previous key keys end

-- The links store these keys, from the first on, and end at the number past all keys that were made.
pub record LinksKeys (next previous : List ℕ) (first made count : ℕ) (keys : List ℕ) : Type 0 where
  pub forth : length next ≡ made
  pub back : length previous ≡ made + 1
  pub counted : length keys ≡ count
  pub chain : ChainFrom next previous first keys made
  pub distinct : Distinct keys
  pub below : (key : ℕ) → Among key keys → key < made

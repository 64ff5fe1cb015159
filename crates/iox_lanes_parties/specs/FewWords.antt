-- Values of at most 2^64 - 2 words, so that one more word fits in front of them.
use Rattle.std.specs.Prelude.{ℕ, ◌≡◌, ◌+◌, ◌^◌, ◌<◌, List, ◌∷◌, length}
use Rattle.std.proofs.Common.{arith}

-- A value without words leaves space for one more word.
pub no-words-few : 1 + 0 < 2 ^ 64
no-words-few = omega arith

-- A value of one word leaves space for one more word.
pub one-word-few : 1 + 1 < 2 ^ 64
one-word-few = omega arith

-- A value of two words leaves space for one more word.
pub two-words-few : 1 + 2 < 2 ^ 64
two-words-few = omega arith

-- A list with one more word in front is longer by one.
pub one-more : (count word : ℕ) (words : List ℕ) → length words ≡ count → length (word ∷ words) ≡ 1 + count
one-more count word words many = omega (arith, many)

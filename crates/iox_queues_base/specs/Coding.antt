-- How integers, booleans and characters are encoded in 64-bit words.
use Rattle.std.specs.Prelude.{ℕ, ◌+◌, ◌*◌, ◌/◌, ◌%◌, ◌^◌, ◌<◌, ◌≡◌, Bool, true, false, if◌then◌else◌, nat_lt}
use Rattle.std.proofs.Common.{arith}
use lib.Utf8.{scalar}

-- The word itself if it is below 2 ^ `bits`, else 0.
abbrev pub narrowed : ℕ → ℕ → ℕ
narrowed bits word = if nat_lt word (2 ^ bits) then word else 0

-- 1 for true, 0 for false.
abbrev pub word_of_bool : Bool → ℕ
word_of_bool true = 1
word_of_bool false = 0

-- Narrowing a number below 2 ^ `bits` gives the number itself.
pub narrowed-same : (bits x : ℕ) → x < 2 ^ bits → narrowed bits x ≡ x
narrowed-same bits x h = grind arith

-- The low and the high half of a number give the number back.
pub wide-back : (x : ℕ) → (x % 2 ^ 64) + 2 ^ 64 * (x / 2 ^ 64) ≡ x
wide-back x = omega arith

-- The code itself if it is a character's, else 0.
abbrev pub char_of : ℕ → ℕ
char_of code = if scalar code then code else 0

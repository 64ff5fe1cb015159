-- Bytes that end at a zero, and bytes escaped for a log.
use Rattle.std.specs.Prelude.{ℕ, ◌≡◌, ◌<◌, ◌≤◌, ◌/◌, ◌%◌, ◌+◌, ◌++◌, ◌==◌, ◌&&◌, List, [], ◌∷◌, length, take, All, nat_le, nat_lt}
use Rattle.std.specs.Prelude.{slice_index, codes, if◌then◌else◌}

-- `n` is the position of the first zero among the bytes, or their number if there is no zero.
pub record EndsAtZero (bytes : List ℕ) (n : ℕ) : Type 0 where
  pub within : n ≤ length bytes
  pub before : All (λ b. 1 ≤ b) (take n bytes)
  pub zero_there : n < length bytes → slice_index bytes n ≡ 0

-- A digit below 16 as the code of a lower-case hexadecimal character.
abbrev pub hex_digit : ℕ → ℕ
hex_digit d = if nat_lt d 10 then 48 + d else 87 + d

-- The text of an escaped byte: tab, line ends, quotes and the backslash with a backslash before them, other printable bytes as they are,
-- and all other bytes as `\x` and two lower-case hexadecimal digits.
abbrev pub escape_of : ℕ → List ℕ
escape_of b =
    if b == 9 then codes "\\t"
    else if b == 10 then codes "\\n"
    else if b == 13 then codes "\\r"
    else if b == 34 then codes "\\\""
    else if b == 39 then codes "\\'"
    else if b == 92 then codes "\\\\"
    else if nat_le 32 b && nat_le b 126 then b ∷ []
    else codes "\\x" ++ (hex_digit (b / 16) ∷ hex_digit (b % 16) ∷ [])

-- A 128-bit number is encoded as two halves, from which it is decoded.
use Rattle.std.specs.Prelude.{ℕ, ◌≡◌, ◌+◌, ◌*◌, ◌/◌, ◌%◌, ◌^◌, ◌<◌, ◌++◌, take, drop}
use Rattle.std.specs.Int.{from_le_bytes, to_le_bytes, w64}
use Rattle.std.proofs.Common.{arith}
use Rattle.std.proofs.lemmas.Nat.{from_le_bytes-to_le_bytes_8}

-- Decoding the two halves of 8 bytes, the low one first, gives the number back.
pub wide_given_back : (x : ℕ) → x < 2 ^ 128
    → from_le_bytes w64 (take 8 (to_le_bytes w64 (x % 2 ^ 64) ++ to_le_bytes w64 (x / 2 ^ 64))) + 2 ^ 64 * from_le_bytes w64
    (drop 8 (to_le_bytes w64 (x % 2 ^ 64) ++ to_le_bytes w64 (x / 2 ^ 64))) ≡ x
wide_given_back x h =
    let low : from_le_bytes w64 (to_le_bytes w64 (x % 2 ^ 64)) ≡ x % 2 ^ 64 = from_le_bytes-to_le_bytes_8 (x % 2 ^ 64) (omega arith) in
    let high : from_le_bytes w64 (to_le_bytes w64 (x / 2 ^ 64)) ≡ x / 2 ^ 64 = from_le_bytes-to_le_bytes_8 (x / 2 ^ 64) (omega arith) in
    omega (arith, low, high)

-- Names of types.
use Rattle.std.proofs.Common.{arith, ◌≡◌, ◌≤◌, ◌&&◌, ℕ, List, true, nat_le, slice_index_or}
use Rattle.std.specs.List.{All, list_all}
use Rattle.std.proofs.lemmas.List.Sums.{AllPass-from_list_all}

-- a byte that passes both tests
within : (byte : ℕ) → (nat_le 1 byte && nat_le byte 127) ≡ true → (1 ≤ byte) × (byte ≤ 127)
within byte passes = (grind (arith, passes), grind (arith, passes))

-- bytes that all pass
pub are_bytes : (bytes : List ℕ) → list_all (λ byte. nat_le 1 byte && nat_le byte 127) bytes ≡ true
    → All (λ byte. (1 ≤ byte) × (byte ≤ 127)) bytes
are_bytes bytes pass = λ k d there. within (slice_index_or bytes k d)
    (AllPass-from_list_all (λ byte. nat_le 1 byte && nat_le byte 127) bytes pass k d there)

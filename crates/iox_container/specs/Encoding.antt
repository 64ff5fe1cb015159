-- How values are encoded as bytes.
use Rattle.std.specs.Prelude.{ℕ, List, [], ◌∷◌, ◌++◌, ◌≡◌, ◌+◌, ◌*◌, ◌/◌, ◌%◌, ◌^◌, ◌<◌, refl, take, drop, slice_index}
use Rattle.std.specs.Int.{from_le_bytes, to_le_bytes, w16, w32, w64}
use Rattle.std.proofs.lemmas.Nat.{from_le_bytes-to_le_bytes_2, from_le_bytes-to_le_bytes_4, from_le_bytes-to_le_bytes_8}
use Rattle.iox_container.specs.Wide.{wide_given_back}

-- An encoding: the bytes of each value; the value of bytes, which may be any value for bytes that no value has; and a condition that every
-- value of the type meets, such as the bound of an integer. Decoding the bytes of a value gives the value back.
pub record Encoding (T : Type 0) : Type 1 where
  pub bytes_of : T → List ℕ
  pub value_of : List ℕ → T
  pub is_value : T → Type 0
  pub given_back : (x : T) → is_value x → value_of (bytes_of x) ≡ x

-- The encoding of a byte as itself.
abbrev pub byte : Encoding ℕ
byte = record {
  bytes_of = λ x. x ∷ [];
  value_of = λ bytes. slice_index bytes 0;
  is_value = λ x. x < 2 ^ 8;
  given_back = λ x h. refl;
}

-- The encoding of a number as two bytes, the lowest first.
abbrev pub two_bytes : Encoding ℕ
two_bytes = record {
  bytes_of = to_le_bytes w16;
  value_of = from_le_bytes w16;
  is_value = λ x. x < 2 ^ 16;
  given_back = from_le_bytes-to_le_bytes_2;
}

-- The encoding of a number as four bytes, the lowest first.
abbrev pub four_bytes : Encoding ℕ
four_bytes = record {
  bytes_of = to_le_bytes w32;
  value_of = from_le_bytes w32;
  is_value = λ x. x < 2 ^ 32;
  given_back = from_le_bytes-to_le_bytes_4;
}

-- The encoding of a number as eight bytes, the lowest first.
abbrev pub eight_bytes : Encoding ℕ
eight_bytes = record {
  bytes_of = to_le_bytes w64;
  value_of = from_le_bytes w64;
  is_value = λ x. x < 2 ^ 64;
  given_back = from_le_bytes-to_le_bytes_8;
}

-- The encoding of a number as sixteen bytes, the lowest first: two halves of eight bytes, the low half first.
abbrev pub sixteen_bytes : Encoding ℕ
sixteen_bytes = record {
  bytes_of = λ x. to_le_bytes w64 (x % 2 ^ 64) ++ to_le_bytes w64 (x / 2 ^ 64);
  value_of = λ bytes. from_le_bytes w64 (take 8 bytes) + 2 ^ 64 * from_le_bytes w64 (drop 8 bytes);
  is_value = λ x. x < 2 ^ 128;
  given_back = wide_given_back;
}

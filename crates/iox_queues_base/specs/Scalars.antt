-- Signed integers, floats and characters are determined by their words.
use Rattle.std.proofs.Common.{ℕ, ◌≡◌, ◌+◌, ◌*◌, ◌/◌, ◌%◌, ◌^◌, ◌<◌, ℤ, T, ap, ◌∙◌, arith, refl, from_bits, to_bits}
use Rattle.std.proofs.Math.Facts.{Fits-of_z}
use Rattle.std.proofs.lemmas.Int.{to_z-of_z}
use Rattle.std.specs.Int.{cast_signed, cast_unsigned, w128}
use Rattle.std.specs.Prelude.{FitsSigned}
use Rattle.std.specs.Char.{IsScalar}
use Rattle.std.specs.Float.{Float, binary32, binary64}
use Rattle.std.specs.Float.Ieee.{fits}
use mir.Syntax.{Width}
use mir.Val.{bits}
use lib.Ieee.Bits.{of_bits-to_bits, to_bits-lt}
use Rattle.iox_queues_base.specs.Coding.{narrowed, narrowed-same, wide-back, char_of}

-- Decoding the narrowed word of a signed integer gives the integer back.
pub signed-narrowed : (w : Width) (x : ℤ) → FitsSigned w x → cast_signed w (narrowed (bits w) (cast_unsigned w x)) ≡ x
signed-narrowed w x h = ap (cast_signed w) (narrowed-same (bits w) (cast_unsigned w x) (Fits-of_z h).fits) ∙ to_z-of_z w x h

-- Decoding the two words of a signed 128-bit integer gives the integer back.
pub signed-wide : (x : ℤ) → FitsSigned w128 x
    → cast_signed w128 ((cast_unsigned w128 x % 2 ^ 64) + 2 ^ 64 * (cast_unsigned w128 x / 2 ^ 64)) ≡ x
signed-wide x h = ap (cast_signed w128) (wide-back (cast_unsigned w128 x)) ∙ to_z-of_z w128 x h

-- Decoding the narrowed word of a 32-bit float gives the float back.
pub float-narrowed : (x : Float) → T (fits binary32 x) → from_bits binary32 (narrowed 32 (to_bits binary32 x)) ≡ x
float-narrowed x h = ap (from_bits binary32) (narrowed-same 32 (to_bits binary32 x) (to_bits-lt binary32 x h)) ∙ of_bits-to_bits
    binary32 x h

-- Decoding the word of a 64-bit float gives the float back.
pub float-given_back : (x : Float) → T (fits binary64 x) → from_bits binary64 (to_bits binary64 x) ≡ x
float-given_back x h = of_bits-to_bits binary64 x h

char-below : (x : ℕ) → IsScalar x → x < 2 ^ 32
char-below x h = grind (arith, h)

-- Decoding the narrowed word of a character gives the character back.
pub char-given_back : (x : ℕ) → IsScalar x → char_of (narrowed 32 x) ≡ x
char-given_back x h = ap char_of (narrowed-same 32 x (char-below x h)) ∙ rw h refl

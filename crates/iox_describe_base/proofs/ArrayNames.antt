-- The digits of a number are bytes of a string.
use Rattle.std.proofs.Common.{ℕ, ◌≤◌, ◌<◌, ◌+◌, ◌%◌, ◌^◌, List, [], ◌∷◌, ◌++◌, length, decimal, arith}
use Rattle.std.proofs.lemmas.Fmt.{decimal_by_steps, length-decimal-le}
use Rattle.std.proofs.lemmas.List.Elements.{All-append, All-cons, All-nil}
use Rattle.iox_container.specs.StringBytes.{IsStringByte, IsStringBytes}

digit_is_text : (digit : ℕ) → digit < 10 → IsStringBytes ((48 + digit) ∷ [])
digit_is_text digit small = All-cons IsStringByte (48 + digit) [] (omega arith, omega (arith, small)) (All-nil IsStringByte)

more_is_text : (n : ℕ) (digits : List ℕ) → 10 ≤ n → IsStringBytes digits → IsStringBytes (digits ++ ((48 + n % 10) ∷ []))
more_is_text n digits large all = All-append IsStringByte digits ((48 + n % 10) ∷ []) all (digit_is_text (n % 10) (omega arith))

pub digits_are_text : (n : ℕ) → n < 2 ^ 64 → IsStringBytes (decimal n)
digits_are_text n small = decimal_by_steps (λ n digits. IsStringBytes digits) digit_is_text more_is_text n small

pub digits_are_few : (n : ℕ) → n < 2 ^ 64 → length (decimal n) ≤ 20
digits_are_few n small = length-decimal-le 20 n (omega arith) (omega (arith, small)) small

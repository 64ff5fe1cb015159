-- Texts of visible bytes.
use Rattle.std.specs.Prelude.{ℕ, ◌≤◌, Bool, ◌&&◌, nat_le, List, length}
use Rattle.std.specs.List.{All, list_all}

-- The text has `least` to `most` bytes, each of 0x21 to 0x7E.
abbrev pub IsVisibleText : ℕ → ℕ → List ℕ → Type 0
IsVisibleText least most text = (least ≤ length text) × (length text ≤ most) × All (λ byte. (33 ≤ byte) × (byte ≤ 126)) text

-- Whether the byte is one of 0x21 to 0x7E.
abbrev pub is_visible : ℕ → Bool
is_visible b = nat_le 33 b && nat_le b 126

-- Whether the text has `least` to `most` bytes, each of 0x21 to 0x7E.
abbrev pub is_visible_text : ℕ → ℕ → List ℕ → Bool
is_visible_text least most text = nat_le least (length text) && (nat_le (length text) most && list_all is_visible text)

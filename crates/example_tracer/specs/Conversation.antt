-- The rows of a text, each a line with its reply.
use Rattle.std.specs.Prelude.{ℕ, ◌≡◌, ◌<◌, List, [], ◌∷◌, length}
use Rattle.std.specs.List.{before_first, after_first}
use Rattle.example_tracer.specs.declared.exchange.Exchange.{Exchange}
use Rattle.example_tracer.specs.Exchange.{is_byte}

-- The row is this line, a tab, and this reply.
abbrev pub IsRow : List ℕ → Exchange → Type 0
IsRow row it = (it.line.now ≡ before_first (is_byte 9) row) × (it.reply.now ≡ after_first (is_byte 9) row)

-- The text consists of these rows: up to its first newline it is the first of them, and after that newline it is the others.
pub data IsConversation : List ℕ → List Exchange → Type 0 where
  nothing : IsConversation [] []
  row : {text : List ℕ} {it : Exchange} {others : List Exchange} → 0 < length text → IsRow (before_first (is_byte 10) text) it
      → IsConversation (after_first (is_byte 10) text) others → IsConversation text (it ∷ others)

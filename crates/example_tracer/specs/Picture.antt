-- What a picture shows of the messages of a conversation, by the rows that strokes begin and end in.
use Rattle.std.specs.Prelude.{ℕ, Bool, false, ◌≡◌, List, [], ◌∷◌, ◌++◌, map, filter, length, position, unwrap_or, Option, Some, None}
use Rattle.std.specs.List.{range_with_len}
use Rattle.example_tracer.specs.declared.exchange.Exchange.{Exchange}
use Rattle.example_tracer.specs.Exchange.{is_text}
use Rattle.example_tracer.specs.Things.{made_by}
use Rattle.example_tracer.specs.declared.drawing.Shape.{Shape}
use Rattle.example_tracer.specs.Drawing.{drawing_of}
use Rattle.example_tracer.specs.Frame.{ways_in}
use Rattle.example_tracer.specs.declared.arrows.Arrow.{Arrow}
use Rattle.example_tracer.specs.Trace.{Trace, sent_at, is_lost}

-- Whether this is the name of what was made, if something was.
abbrev pub is_name_of : List ℕ → Option (List ℕ) → Bool
is_name_of name None = false
is_name_of name (Some made) = is_text made name

-- Whether the reply says that what has this name was made.
abbrev pub makes : List ℕ → Exchange → Bool
makes name it = is_name_of name (made_by it.reply.now)

-- The row in which what has this name was made, or the first row.
abbrev pub since_of : List Exchange → List ℕ → ℕ
since_of conversation name = unwrap_or (position (makes name) conversation) 0

-- The rows of an arrow: from its origin, if that is known, to its receipt.
abbrev pub rows_of_way : Arrow → Option ℕ × ℕ
rows_of_way arrow = (arrow.origin, arrow.receipt)

-- The rows of a stroke in a line's own row.
abbrev pub across : ℕ → Option ℕ × ℕ
across line = (Some line, line)

-- The rows of all lines that an arrow, after those before it, shows as lost, each once.
abbrev pub lost_rows : List Exchange → List Arrow → Arrow → List (Option ℕ × ℕ)
lost_rows conversation before arrow =
    filter (λ rows. is_lost before arrow rows.1 (since_of conversation arrow.subscriber.now) (sent_at conversation rows.1))
    (map across (range_with_len 0 (length conversation)))

-- These rows are those of the arrows, in order: of each arrow its way, and the lines that it shows as lost.
pub data IsDrawn (conversation : List Exchange) : List Arrow → List (Option ℕ × ℕ) → Type 0 where
  nothing : IsDrawn conversation [] []
  more : {arrows : List Arrow} {rows : List (Option ℕ × ℕ)} → (arrow : Arrow) → IsDrawn conversation arrows rows
      → IsDrawn conversation (arrows ++ arrow ∷ []) (rows ++ rows_of_way arrow ∷ [] ++ lost_rows conversation arrows arrow)

-- The text is a drawing of the conversation with a row for each line, and of its shapes exactly those are ways that belong to the
-- conversation's arrows.
pub record Pictures (conversation : List Exchange) (text : List ℕ) : Type 0 where
  pub arrows : List Arrow
  pub traced : Trace conversation (length conversation) arrows
  pub style : List ℕ
  pub width : ℕ
  pub shapes : List Shape
  pub drawn : IsDrawn conversation arrows (ways_in shapes)
  pub written : text ≡ drawing_of style width (length conversation) shapes

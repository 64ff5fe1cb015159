-- What the frame of a picture shows: the lines and their replies, in their rows; and which shapes aren't of the frame.
use Rattle.std.specs.Prelude.{ℕ, Bool, false, ◌||◌, List, [], map, filter, Option, Some, None, codes, slice_get}
use Rattle.std.specs.Option.{option_map_or}
use Rattle.example_tracer.specs.declared.exchange.Exchange.{Exchange}
use Rattle.example_tracer.specs.Exchange.{is_text}
use Rattle.example_tracer.specs.declared.drawing.Shape.{Shape}
use Rattle.example_tracer.specs.declared.drawing.Shape.TheVariants as shape

-- The rows in which a stroke begins and ends; a text is in one row.
abbrev pub rows_of : Shape → Option ℕ × ℕ
rows_of (shape.Stroke class from to) = (Some from.1, to.1)
rows_of (shape.Text class at text) = (None, at.1)

-- Whether a shape is drawn as the way of a message: as one that arrived, as one that was lost, or as one of unknown origin.
abbrev pub is_way : Shape → Bool
is_way (shape.Stroke class from to) = is_text class.now (codes "message") || is_text class.now (codes "lost")
is_way (shape.Text class at text) = is_text class.now (codes "untold")

-- The rows of all ways among these shapes.
abbrev pub ways_in : List Shape → List (Option ℕ × ℕ)
ways_in shapes = map rows_of (filter is_way shapes)

-- Whether a shape is a text of this class.
abbrev pub is_text_of : List ℕ → Shape → Bool
is_text_of class (shape.Stroke other from to) = false
is_text_of class (shape.Text other at text) = is_text other.now class

-- The row of a text, and its bytes.
abbrev pub row_and_text : Shape → ℕ × List ℕ
row_and_text (shape.Stroke class from to) = (from.1, [])
row_and_text (shape.Text class at text) = (at.1, text.now)

-- The texts of this class among these shapes, each with its row.
abbrev pub texts_of : List ℕ → List Shape → List (ℕ × List ℕ)
texts_of class shapes = map row_and_text (filter (is_text_of class) shapes)

-- A row, and the line in this row.
abbrev pub line_in : List Exchange → ℕ → ℕ × List ℕ
line_in conversation row = (row, option_map_or (λ it. it.line.now) (slice_get conversation row) [])

-- A row, and the reply to its line.
abbrev pub reply_in : List Exchange → ℕ → ℕ × List ℕ
reply_in conversation row = (row, option_map_or (λ it. it.reply.now) (slice_get conversation row) [])

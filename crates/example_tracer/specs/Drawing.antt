-- A drawing of shapes, as the text of an SVG file.
use Rattle.std.specs.Prelude.{ℕ, Bool, not, ◌+◌, ◌*◌, List, [], ◌∷◌, ◌++◌, ◌==◌, ◌&&◌, min, nat_le, codes, if◌then◌else◌}
use Rattle.std.specs.List.{flat_map}
use Rattle.std.specs.Fmt.{decimal}
use Rattle.example_tracer.specs.declared.drawing.Shape.{Shape}
use Rattle.example_tracer.specs.declared.drawing.Shape.TheVariants as shape

-- A number of pixels, which is at most the largest number of 64 bits.
abbrev pub pixels : ℕ → ℕ
pixels n = min n 18446744073709551615

-- The distance in pixels of the middle of a row from the top.
abbrev pub middle_of : ℕ → ℕ
middle_of row = pixels (pixels (row * 24) + 28)

-- A byte of a text as it is written: `<` and `&` by their names, other printable bytes as they are, and the rest as a question mark.
abbrev pub escaped : ℕ → List ℕ
escaped b =
    if b == 60 then codes "&lt;"
    else if b == 38 then codes "&amp;"
    else if nat_le 32 b && nat_le b 126 then b ∷ []
    else codes "?"

-- Whether the byte can't open an element.
abbrev pub opens_nothing : ℕ → Bool
opens_nothing b = not (b == 60)

-- The element of a stroke.
abbrev pub stroke_of : List ℕ → ℕ × ℕ → ℕ × ℕ → List ℕ
stroke_of class from to =
    codes "<path class=\"" ++ class ++ codes "\" d=\"M" ++ decimal from.0 ++ codes " " ++ decimal (middle_of from.1) ++ codes "L"
    ++ decimal to.0 ++ codes " " ++ decimal (middle_of to.1) ++ codes "\"/>\n"

-- What is written before a text.
abbrev pub opening_of : List ℕ → ℕ × ℕ → List ℕ
opening_of class at = codes "<text class=\"" ++ class ++ codes "\" x=\"" ++ decimal at.0 ++ codes "\" y=\""
    ++ decimal (pixels (middle_of at.1 + 4)) ++ codes "\">"

-- The element of a text.
abbrev pub label_of : List ℕ → ℕ × ℕ → List ℕ → List ℕ
label_of class at text = opening_of class at ++ flat_map escaped text ++ codes "</text>\n"

-- The element of a shape.
abbrev pub element_of : Shape → List ℕ
element_of (shape.Stroke class from to) = stroke_of class.now from to
element_of (shape.Text class at text) = label_of class.now at text.now

-- The text of a drawing: its head, its style, its shapes in order, and its end.
abbrev pub drawing_of : List ℕ → ℕ → ℕ → List Shape → List ℕ
drawing_of style width rows shapes =
    codes "<svg xmlns=\"http://www.w3.org/2000/svg\" width=\"" ++ decimal width ++ codes "\" height=\"" ++ decimal (middle_of rows)
    ++ codes "\">\n"
    ++ style ++ flat_map element_of shapes ++ codes "</svg>\n"

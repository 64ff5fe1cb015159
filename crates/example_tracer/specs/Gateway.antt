-- From the replies of one hub to the lines of another.
use Rattle.std.specs.Prelude.{ℕ, ◌≡◌, Bool, true, false, ◌==◌, ◌&&◌, List, [], ◌∷◌, ◌++◌, Option, Some, None, codes, map, filter}
use Rattle.std.specs.Prelude.{if◌then◌else◌}
use Rattle.std.specs.List.{filter_map}
use Rattle.example_tracer.specs.Exchange.{first_word, behind, is_text}

-- Whether a word is the name of a sample.
abbrev pub names_sample : List ℕ → Bool
names_sample [] = false
names_sample (b ∷ bs) = b == 109

-- The values of the sample that a reply reports, if it reports one.
abbrev pub sample_of : List ℕ → Option (List ℕ)
sample_of reply = if names_sample (first_word (behind reply))
    && is_text (first_word reply) (codes "ok") then Some (behind (behind reply)) else None

-- The line that puts these values.
abbrev pub put_of : List ℕ → List ℕ
put_of [] = codes "put p1"
put_of (value ∷ values) = codes "put p1" ++ 32 ∷ value ∷ values

-- The line that puts the values, or an empty line if there are none.
abbrev pub put_if : Option (List ℕ) → List ℕ
put_if None = []
put_if (Some values) = put_of values

-- The line for a reply.
abbrev pub line_for : List ℕ → List ℕ
line_for reply = put_if (sample_of reply)

-- Whether a line isn't empty.
abbrev pub says_something : List ℕ → Bool
says_something [] = false
says_something (b ∷ bs) = true

-- Of the lines for some replies, those that aren't empty put the samples that the replies report: each once, in order.
abbrev pub CarriesOver : List (List ℕ) → Type 0
CarriesOver replies = filter says_something (map line_for replies) ≡ map put_of (filter_map sample_of replies)

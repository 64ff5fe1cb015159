-- How attributes are written in a line.
use Rattle.std.specs.Prelude.{ℕ, ◌≡◌, true, not, List, ◌++◌, codes, filter, map}
use Rattle.std.specs.Str.{byte}
use Rattle.iox_describe_base.specs.declared.attribute.Attribute.{Attribute}
use Rattle.iox_describe_base.specs.Attributes.{Required}
use Rattle.iox_line.specs.Words.{lacks}
use Rattle.iox_line.specs.Visible.{IsVisibleText}

-- How a pair is written: `@KEY=VALUE`.
abbrev pub pair_word : Attribute → List ℕ
pair_word a = codes "@" ++ (a.key ++ (codes "=" ++ a.value))

-- A key has 1 to 64 bytes of 0x21 to 0x7E, none of which is `=`.
abbrev pub IsKey : List ℕ → Type 0
IsKey key = IsVisibleText 1 64 key × (lacks (byte "=") key ≡ true)

-- A pair has a key, and a value of at most 256 bytes of 0x21 to 0x7E.
abbrev pub IsPair : Attribute → Type 0
IsPair a = IsKey a.key × IsVisibleText 0 256 a.value

-- The words write this requirement: the words with a `=` are its pairs, in order, and the others are its keys, each as `@KEY`, in order.
abbrev pub Requires : Required → List (List ℕ) → Type 0
Requires r words =
    (filter (λ word. not (lacks (byte "=") word)) words ≡ map pair_word r.pairs)
    × (filter (λ word. lacks (byte "=") word) words ≡ map (λ key. codes "@" ++ key) r.keys)

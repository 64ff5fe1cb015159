-- How attributes are read, word by word.
use Rattle.std.specs.Prelude.{ℕ, Bool, ◌&&◌, ◌||◌, nat_le, List, [], ◌∷◌, length, Option, None, Some, if◌then◌else◌}
use Rattle.std.specs.Str.{byte}
use Rattle.iox_describe_base.specs.declared.attribute.Attribute.{Attribute}
use Rattle.iox_describe_base.specs.Attributes.{attribute, Required, required}
use Rattle.iox_line.specs.Words.{before, beyond}
use Rattle.iox_line.specs.Options.{after}
use Rattle.iox_line.specs.Visible.{is_visible_text}
use Rattle.iox_line.specs.Memory.{prepend, some}

-- The pair of a key and a value, if there is a value and both are within the limits.
abbrev pub pair_parts : List ℕ → Option (List ℕ) → Option Attribute
pair_parts key None = None
pair_parts key (Some value) = if is_visible_text 1 64 key && is_visible_text 0 256 value then Some (attribute key value) else None

-- The pair that the text after an `@` spells, if it spells one.
abbrev pub pair_in : Option (List ℕ) → Option Attribute
pair_in None = None
pair_in (Some text) = pair_parts (before (byte "=") text) (beyond (byte "=") text)

-- The pair that a word spells, if it spells one.
abbrev pub pair_of : List ℕ → Option Attribute
pair_of word = pair_in (after ((byte "@") ∷ []) word)

-- The key, if there is no value and the key is within the limits.
abbrev pub key_parts : List ℕ → Option (List ℕ) → Option (List ℕ)
key_parts key None = if is_visible_text 1 64 key then Some key else None
key_parts key (Some value) = None

-- The key that the text after an `@` spells, if it spells one.
abbrev pub key_in : Option (List ℕ) → Option (List ℕ)
key_in None = None
key_in (Some text) = key_parts (before (byte "=") text) (beyond (byte "=") text)

-- The key that a word spells, if it spells one.
abbrev pub key_of : List ℕ → Option (List ℕ)
key_of word = key_in (after ((byte "@") ∷ []) word)

-- The pairs that words spell; none if some word doesn't spell a pair.
abbrev pub pairs_of : List (List ℕ) → Option (List Attribute)
pairs_of [] = Some []
pairs_of (w ∷ ws) = prepend (pair_of w) (pairs_of ws)

-- A requirement with one more pair or key, in front of those that were read after it.
abbrev pub require : Option Attribute → Option (List ℕ) → Option Required → Option Required
require (Some a) key None = None
require (Some a) key (Some r) = Some (required (a ∷ r.pairs) r.keys)
require None None rest = None
require None (Some k) None = None
require None (Some k) (Some r) = Some (required r.pairs (k ∷ r.keys))

-- The requirement that words spell; none if some word spells neither a pair nor a key.
abbrev pub requirements_of : List (List ℕ) → Option Required
requirements_of [] = Some (required [] [])
requirements_of (w ∷ ws) = require (pair_of w) (key_of w) (requirements_of ws)

-- The pairs, if there are at most eight.
abbrev pub few_pairs : Option (List Attribute) → Option (List Attribute)
few_pairs None = None
few_pairs (Some pairs) = if nat_le (length pairs) 8 then Some pairs else None

-- The attributes that words define, if they spell at most eight pairs.
abbrev pub specifier_of : List (List ℕ) → Option (List Attribute)
specifier_of words = few_pairs (pairs_of words)

-- The requirement, if it has at most eight pairs and at most eight keys.
abbrev pub few_requirements : Option Required → Option Required
few_requirements None = None
few_requirements (Some r) = if nat_le (length r.pairs) 8 && nat_le (length r.keys) 8 then Some r else None

-- The requirement that words spell, if it has at most eight pairs and at most eight keys.
abbrev pub verifier_of : List (List ℕ) → Option Required
verifier_of words = few_requirements (requirements_of words)

-- Whether the requirement has a pair or a key.
abbrev pub requires_some : Required → Bool
requires_some r = some r.pairs || some r.keys

-- Attributes of a service, and what an opener requires of them.
use Rattle.std.specs.Prelude.{ℕ, ◌≤◌, List, length, All, Contains, Bool, not, ◌&&◌, nat_eq, Option, Some, None, is_none, Result, Ok, Err}
use Rattle.std.specs.List.{list_any, find}
use Rattle.std.specs.Cmp.Lexicographic.{pointwise}
use Rattle.iox_describe_base.specs.declared.attribute.Attribute.{Attribute}
use Rattle.iox_describe_base.specs.declared.attribute.AttributeError.{AttributeError}
use Rattle.iox_describe_base.specs.declared.attribute.AttributeError.TheVariants as refusal
use Rattle.iox_describe_base.specs.Limits.{IsText}

-- An attribute with this key and this value.
abbrev pub attribute : List ℕ → List ℕ → Attribute
attribute key value = record { key = key; value = value }

-- The key has 1 to 64 bytes, and the value at most 256.
abbrev pub IsAttribute : Attribute → Type 0
IsAttribute a = IsText 1 64 a.key × IsText 0 256 a.value

-- There are at most eight attributes, each within its limits.
abbrev pub AreAttributes : List Attribute → Type 0
AreAttributes pairs = (length pairs ≤ 8) × All IsAttribute pairs

-- The answer to one more attribute or key: it is refused exactly outside the limits, and memory runs out only for the first one.
abbrev pub AnswersOneMore : Type 0 → Type 0 → Result (Unit {0}) AttributeError → Type 0
AnswersOneMore is_within is_first (Ok taken) = is_within
AnswersOneMore is_within is_first (Err (refusal.LimitError limit)) = is_within → ⊥
AnswersOneMore is_within is_first (Err refusal.OutOfMemory) = is_within × is_first

-- The pairs and the keys that an opener requires.
pub record Required : Type 0 where
  pub pairs : List Attribute
  pub keys : List (List ℕ)

-- A requirement of these pairs and these keys.
abbrev pub required : List Attribute → List (List ℕ) → Required
required pairs keys = record { pairs = pairs; keys = keys }

-- There are at most eight keys, each of 1 to 64 bytes.
abbrev pub AreKeys : List (List ℕ) → Type 0
AreKeys keys = (length keys ≤ 8) × All (IsText 1 64) keys

-- Whether two attributes are equal.
abbrev pub same_attribute : Attribute → Attribute → Bool
same_attribute a b = pointwise nat_eq a.key b.key && pointwise nat_eq a.value b.value

-- Whether the pair is one of these attributes.
abbrev pub has_pair : List Attribute → Attribute → Bool
has_pair attributes pair = list_any (λ a. same_attribute a pair) attributes

-- Whether one of these attributes has the key.
abbrev pub has_key : List Attribute → List ℕ → Bool
has_key attributes key = list_any (λ a. pointwise nat_eq a.key key) attributes

-- The first required pair that is not one of these attributes.
abbrev pub unmet_pair : List Attribute → List Attribute → Option Attribute
unmet_pair pairs attributes = find (λ p. not (has_pair attributes p)) pairs

-- The first required key that no attribute has.
abbrev pub unmet_lone_key : List (List ℕ) → List Attribute → Option (List ℕ)
unmet_lone_key keys attributes = find (λ k. not (has_key attributes k)) keys

-- The key of the pair, if there is a pair, else `after`.
abbrev pub key_or : Option Attribute → Option (List ℕ) → Option (List ℕ)
key_or (Some pair) after = Some pair.key
key_or None after = after

-- The first required key that is not met: of the pairs, then of the keys.
abbrev pub unmet_key : Required → List Attribute → Option (List ℕ)
unmet_key r attributes = key_or (unmet_pair r.pairs attributes) (unmet_lone_key r.keys attributes)

-- `Ok` if there is no error, else the error.
abbrev pub result_of : {E : Type 0} → Option E → Result (Unit {0}) E
result_of None = Ok tt
result_of (Some e) = Err e

-- Whether the attributes meet all requirements.
abbrev pub has_required : Required → List Attribute → Bool
has_required r attributes = is_none (unmet_key r attributes)

-- Each pair and each key that the requirement `weak` has is also required by `strong`.
pub record IsFewer (weak strong : Required) : Type 0 where
  pub pairs : All (λ p. Contains strong.pairs p) weak.pairs
  pub keys : All (λ k. Contains strong.keys k) weak.keys

-- The memory layout of a type.
use Rattle.std.specs.Prelude.{ℕ, ◌≤◌, ◌++◌, List, codes, decimal}
use Rattle.iox_describe_base.specs.declared.type_detail.TypeVariant.{TypeVariant}
use Rattle.iox_describe_base.specs.Limits.{IsText}

-- Whether messages hold a single value or a slice, and the name, size and alignment of an element.
pub record Detail : Type 0 where
  pub variant : TypeVariant
  pub name : List ℕ
  pub size : ℕ
  pub alignment : ℕ

-- A detail with this variant, name, size and alignment.
abbrev pub detail : TypeVariant → List ℕ → ℕ → ℕ → Detail
detail variant name size alignment = record { variant = variant; name = name; size = size; alignment = alignment }

-- The name has 1 to 255 bytes in 1..=127, and the alignment is at least 1.
abbrev pub IsDetail : Detail → Type 0
IsDetail d = IsText 1 255 d.name × (1 ≤ d.alignment)

-- The name of an array of `n` elements of the type with this name.
abbrev pub array_name : List ℕ → ℕ → List ℕ
array_name name n = codes "[" ++ name ++ codes "; " ++ decimal n ++ codes "]"

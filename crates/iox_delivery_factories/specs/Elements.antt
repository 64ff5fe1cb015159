-- How many values the elements of a service have.
use Rattle.std.specs.Prelude.{ℕ, ◌/◌, ◌-◌, ◌^◌, ◌≡◌, ◌≢◌, ◌==◌, Bool, true, false, not, min, if◌then◌else◌}
use Rattle.iox_domain.specs.DescribeBase.Compatible.{same_detail}
use Rattle.iox_domain.specs.DescribeBase.Detail.{Detail}
use Rattle.iox_domain.specs.DescribeBase.declared.type_detail.TypeVariant.{TypeVariant}
use Rattle.iox_domain.specs.DescribeBase.declared.type_detail.TypeVariant.TheVariants.{FixedSize, Dynamic}
use Rattle.iox_domain.specs.DescribeBase.declared.message_type.MessageTypeDetails.{MessageTypeDetails}
use Rattle.iox_domain.specs.Fitting.{any_payload, FitTypes}
use Rattle.iox_domain.specs.DomainPorts.Lengths.{span}

-- How many values of size `value` an element of size `element` has; if values have no size, an element has one.
abbrev pub values_each : ℕ → ℕ → ℕ
values_each element value = if value == 0 then 1 else element / value

-- The first answer if a payload is one element, and the second one if it is a slice of any number of them.
abbrev pub by_variant : TypeVariant → Bool → Bool → Bool
by_variant FixedSize one slice = one
by_variant Dynamic one slice = slice

-- Whether a service with this payload has ports of single values of this size: a payload is one element, which is one value.
abbrev pub is_of_values : ℕ → Detail → Bool
is_of_values size payload = by_variant payload.variant (values_each payload.size size == 1) false

-- Whether a service with this payload has ports of slices of this type: a payload is a slice, or the type is the one that matches any
-- payload, so that values are bytes.
abbrev pub is_of_slices : Detail → Detail → Bool
is_of_slices value payload = by_variant payload.variant (same_detail value any_payload) true

-- How many values these elements take memory for, counted up to 2^64 - 1: no slot has capacity for as many.
abbrev pub room_of : ℕ → ℕ → ℕ
room_of unit elements = min (span unit elements) (2 ^ 64 - 1)

-- An element has as many values as bytes, if values are of the type that matches any payload, and one value for any other type
-- that fits.
pub record ValuesOfElements (payload user_header : Detail) (types : MessageTypeDetails) : Type 0 where
  pub bytes : payload ≡ any_payload → values_each types.payload.size payload.size ≡ types.payload.size
  pub single : payload ≢ any_payload → values_each types.payload.size payload.size ≡ 1

-- If types fit, and the asked one isn't the one that matches any payload, a service has ports of one kind: of slices, or of single
-- values.
abbrev pub HasOneKind : Type 0
HasOneKind = (payload user_header : Detail) (types : MessageTypeDetails) → FitTypes payload user_header types
    → payload ≢ any_payload → is_of_slices payload types.payload ≡ not (is_of_values payload.size types.payload)

-- `ValuesOfElements` holds of types that fit.
abbrev pub ElementsHaveValues : Type 0
ElementsHaveValues = (payload user_header : Detail) (types : MessageTypeDetails) → FitTypes payload user_header types
    → ValuesOfElements payload user_header types

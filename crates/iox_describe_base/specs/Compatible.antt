-- When a port that asks for some types can use a service that has others.
use Rattle.std.specs.Prelude.{◌≡◌, ◌≤◌, ◌&&◌, ◌==◌, Bool, true, false, nat_eq, nat_le}
use Rattle.std.specs.Cmp.Lexicographic.{pointwise}
use Rattle.iox_describe_base.specs.declared.type_detail.TypeVariant.{TypeVariant}
use Rattle.iox_describe_base.specs.declared.type_detail.TypeVariant.TheVariants.{FixedSize, Dynamic}
use Rattle.iox_describe_base.specs.declared.message_type.MessageTypeDetails.{MessageTypeDetails}
use Rattle.iox_describe_base.specs.Detail.{Detail}

-- Whether two variants are equal.
abbrev pub same_variant : TypeVariant → TypeVariant → Bool
same_variant FixedSize FixedSize = true
same_variant FixedSize Dynamic = false
same_variant Dynamic FixedSize = false
same_variant Dynamic Dynamic = true

-- Whether two details are equal.
abbrev pub same_detail : Detail → Detail → Bool
same_detail a b = same_variant a.variant b.variant
    && (pointwise nat_eq a.name b.name && ((a.size == b.size) && (a.alignment == b.alignment)))

-- Whether the asked types are compatible with the given ones: all parts are equal, except that the asked alignment of the payload may be
-- smaller.
abbrev pub is_compatible : MessageTypeDetails → MessageTypeDetails → Bool
is_compatible asked given =
    same_detail asked.header given.header
    && same_detail asked.user_header given.user_header
    && same_variant asked.payload.variant given.payload.variant
    && pointwise nat_eq asked.payload.name given.payload.name
    && (asked.payload.size == given.payload.size)
    && nat_le asked.payload.alignment given.payload.alignment

-- Equivalently: each part is equal, and the asked alignment of the payload is at most the given one.
pub record IsCompatible (asked given : MessageTypeDetails) : Type 0 where
  pub header : asked.header ≡ given.header
  pub user_header : asked.user_header ≡ given.user_header
  pub variant : asked.payload.variant ≡ given.payload.variant
  pub name : asked.payload.name ≡ given.payload.name
  pub size : asked.payload.size ≡ given.payload.size
  pub alignment : asked.payload.alignment ≤ given.payload.alignment

-- The types of the messages that a builder asks for.
use Rattle.std.specs.Prelude.{◌≡◌, ◌≤◌, ℕ, codes, max}
use Rattle.iox_negotiate_base.specs.DescribeBase.Detail.{Detail, detail}
use Rattle.iox_negotiate_base.specs.DescribeBase.declared.message_type.MessageTypeDetails.{MessageTypeDetails}
use Rattle.iox_negotiate_base.specs.DescribeBase.declared.type_detail.TypeVariant.TheVariants.{FixedSize}

-- The detail of the header of all services.
abbrev pub header : Detail
header = detail FixedSize (codes "Header") 24 8

-- The detail of no user header: that of the unit type, which has size 0.
abbrev pub no_header : Detail
no_header = detail FixedSize (codes "()") 0 1

-- The types of messages with this payload and no user header.
abbrev pub types_of : Detail → MessageTypeDetails
types_of payload = record { header = header; user_header = no_header; payload = payload }

-- This payload with the larger of its alignment and the given one.
abbrev pub aligned : Detail → ℕ → Detail
aligned payload alignment = detail payload.variant payload.name payload.size (max payload.alignment alignment)

-- An alignment that isn't larger than the payload's own changes nothing, and a larger one is the one that is asked for.
abbrev pub AsksTheLarger : Type 0
AsksTheLarger = (payload : Detail) (alignment : ℕ)
    → (alignment ≤ payload.alignment → aligned payload alignment ≡ payload)
    × (payload.alignment ≤ alignment → aligned payload alignment ≡ record payload { alignment = alignment })

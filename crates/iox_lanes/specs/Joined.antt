-- What lanes and the domain that is kept beside them have in common, whatever steps the lanes make.
use Rattle.std.specs.Prelude.{ℕ, ◌≡◌, ◌+◌, ◌*◌, ◌<◌, List, length, take, drop, slice_get, Option, None, Some}
use Rattle.iox_domain.specs.DomainPorts.Ports.{connection_of}
use Rattle.iox_domain.specs.DomainPorts.declared.publisher_port.PublisherPort.{PublisherPort}
use Rattle.iox_domain.specs.DomainSlots.declared.stage.Stage.TheVariants as stage
use Rattle.iox_lanes_opening.specs.Restored.{IsRested, place_of}
use Rattle.iox_lanes_machine.specs.Fixed.{FixedSlots, StaysFixed, slots_at}
use Rattle.iox_lanes_machine.specs.Links.{LinkState}
use Rattle.iox_lanes_machine.specs.World.{World}
use Rattle.iox_lanes.specs.Holding.{port_if}
use Rattle.iox_lanes.specs.Spelling.{Spelling}

-- The indices of the publisher at this place, in a list that has `count` for each publisher.
abbrev pub row_of : ℕ → List ℕ → ℕ → List ℕ
row_of count indices place = take count (drop (place * count) indices)

-- The lane has the slots of the domain's publisher, which has no loan, blocked send or borrowed message: all slots are of one segment, and
-- the history size is the same.
pub record HasSlotsOf {T U : Type 0} (port : PublisherPort T U) (fixed : FixedSlots) : Type 0 where
  pub rested : IsRested port.sender
  pub first : port.sender.uses.first ≡ 0
  pub slots : fixed.slots ≡ port.sender.uses.size
  pub kept : fixed.kept ≡ port.sender.uses.kept

-- Both the publisher and the lane exist, and the lane has the publisher's slots.
abbrev pub HasSlotsIf : {T U : Type 0} → Option (PublisherPort T U) → Option FixedSlots → Type 0
HasSlotsIf None fixed = ⊥
HasSlotsIf (Some port) None = ⊥
HasSlotsIf (Some port) (Some fixed) = HasSlotsOf port fixed

-- The first place of the number in the list, if there is a number and the list has it.
abbrev pub place_if : Option ℕ → List ℕ → Option ℕ
place_if None numbers = None
place_if (Some number) numbers = place_of number numbers

-- No number is at two places of the list.
abbrev pub AreListedOnce : List ℕ → Type 0
AreListedOnce numbers = (one other number : ℕ) → slice_get numbers one ≡ Some number → slice_get numbers other ≡ Some number → one ≡ other

-- The publisher at this place of the lanes has the slots of the domain's publisher whose number is listed in `senders` at the same place,
-- and the number is listed at no earlier place.
pub record SenderJoins {T U : Type 0} (ports : List (ℕ × PublisherPort T U)) (lanes : World) (senders : List ℕ) (place : ℕ) : Type 0 where
  pub slots : HasSlotsIf (port_if ports (slice_get senders place)) (slots_at lanes place)
  pub alone : place_if (slice_get senders place) senders ≡ Some place

-- A connection of the lanes, from the publisher at this place, is one of the publisher's in the domain: it is live, it has the same maximum
-- number of waiting messages, and no earlier connection of the publisher has its index.
pub record IsLinkTo {T U : Type 0} (port : PublisherPort T U) (publisher subscriber : ℕ) (row : List ℕ) (index : ℕ) (link : LinkState) :
    Type 0 where
  pub from : link.publisher ≡ publisher
  pub live : (connection_of index port).stage ≡ stage.Live
  pub limit : link.limit ≡ (connection_of index port).limit
  pub alone : place_of index row ≡ Some subscriber

-- Publisher, index and link all exist, and the link is the publisher's connection with this index.
abbrev pub IsLinkToIf : {T U : Type 0} → Option (PublisherPort T U) → ℕ → ℕ → List ℕ → Option ℕ → Option LinkState → Type 0
IsLinkToIf None publisher subscriber row index link = ⊥
IsLinkToIf (Some port) publisher subscriber row None link = ⊥
IsLinkToIf (Some port) publisher subscriber row (Some index) None = ⊥
IsLinkToIf (Some port) publisher subscriber row (Some index) (Some link) = IsLinkTo port publisher subscriber row index link

-- The lanes' connection between the publisher and the subscriber at these places is the connection of the domain's publisher with its
-- index.
abbrev pub LinkJoins : {T U : Type 0} → List (ℕ × PublisherPort T U) → World → List ℕ → ℕ → List ℕ → ℕ → ℕ → Type 0
LinkJoins ports lanes senders readers indices publisher subscriber =
    IsLinkToIf (port_if ports (slice_get senders publisher)) publisher subscriber (row_of readers indices publisher)
    (slice_get indices (publisher * readers + subscriber)) (slice_get lanes.links (publisher * readers + subscriber))

-- The lanes are joined with the publishers of a domain: they have as many words for its values, its publishers by place, and for each of
-- them a connection to each of `readers` subscribers; and there is a place for one value.
pub record IsJoined {T U : Type 0} (spelling : Spelling T U) (places : ℕ) (lanes : World) (ports : List (ℕ × PublisherPort T U))
    (senders : List ℕ) (readers : ℕ) (indices : List ℕ) : Type 0 where
  pub some : 0 < places
  pub payload : lanes.table.sizes.payload_words ≡ spelling.payload_count
  pub user_header : lanes.table.sizes.user_header_words ≡ spelling.middle_count
  pub publisher_count : length lanes.publishers ≡ length senders
  pub link_count : length lanes.links ≡ length senders * readers
  pub index_count : length indices ≡ length senders * readers
  pub sending : (place : ℕ) → place < length senders → SenderJoins ports lanes senders place
  pub linking : (publisher : ℕ) → publisher < length senders → (subscriber : ℕ) → subscriber < readers
      → LinkJoins ports lanes senders readers indices publisher subscriber

-- Lanes that are joined with a domain's publishers still are after steps.
abbrev pub JoinedStays : (T U : Type 0) → Type 0
JoinedStays T U = (spelling : Spelling T U) (places : ℕ) (before after : World) (ports : List (ℕ × PublisherPort T U)) (senders : List ℕ)
    (readers : ℕ) (indices : List ℕ) → IsJoined spelling places before ports senders readers indices → StaysFixed before after
    → IsJoined spelling places after ports senders readers indices

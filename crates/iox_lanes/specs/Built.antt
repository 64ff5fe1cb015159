-- What the lanes of a domain are built from.
use Rattle.std.specs.Prelude.{ℕ, ◌≡◌, ◌<◌, ◌≤◌, ◌^◌, List, length, slice_get, Option, None, Some}
use Rattle.iox_domain.specs.DomainPorts.Publishers.{port_of}
use Rattle.iox_domain.specs.DomainPorts.declared.publisher_port.PublisherPort.{PublisherPort}
use Rattle.iox_domain.specs.DomainValues.declared.backpressure.BackpressureDecision.{BackpressureDecision}
use Rattle.iox_domain.specs.declared.domain.Domain.{Domain}
use Rattle.iox_lanes_machine.specs.LanesBase.Numbers.{words_of}
use Rattle.iox_lanes_machine.specs.Made.{start, table_sizes}
use Rattle.iox_lanes_machine.specs.World.{World}
use Rattle.iox_lanes.specs.Alone.{KeepAlone}
use Rattle.iox_lanes.specs.Laid.{publishers_behind, slots_in}
use Rattle.iox_lanes.specs.Ordered.{readers_behind}
use Rattle.iox_lanes.specs.Sized.{AreSized}
use Rattle.iox_lanes.specs.Spelling.{Spelling}

-- The number of slots of the publisher, if there is one; otherwise 0.
abbrev pub slots_if : {T U : Type 0} → Option (PublisherPort T U) → ℕ
slots_if None = 0
slots_if (Some port) = slots_in port

-- The publisher whose number is at this place has at most this many slots.
abbrev pub HasSlotsAt : {T U : Type 0} → List (ℕ × PublisherPort T U) → List ℕ → ℕ → ℕ → Type 0
HasSlotsAt {T} {U} ports numbers most place = (number : ℕ) (port : PublisherPort T U) → slice_get numbers place ≡ Some number
    → port_of number ports ≡ Some port → slots_in port ≤ most

-- Each of these publishers has at most this many slots.
abbrev pub HaveSlots : {T U : Type 0} → List (ℕ × PublisherPort T U) → List ℕ → ℕ → Type 0
HaveSlots ports numbers most = (place : ℕ) → HasSlotsAt ports numbers most place

-- The lanes after they found what the domain has: first publisher by publisher, then the order in which each subscriber goes over its
-- connections.
abbrev pub domain_behind : {T U B D : Type 0} → (B → Option BackpressureDecision) → Spelling T U → Domain T U B D → List ℕ → List ℕ
    → World → World
domain_behind decision spelling domain publishers subscribers m =
    readers_behind publishers domain.state.ports.subscribers subscribers
    (publishers_behind decision spelling domain publishers subscribers m (length publishers)) (length subscribers)

-- The lanes of a domain were made of the agreed sizes and then found all that the domain has. Each publisher of the lanes has the largest
-- number of slots that any of the domain's publishers has. There are fewer than 2^64 words, and each message that was found is alone in its
-- slot.
pub record AreBuilt {T U B D : Type 0} (decision : B → Option BackpressureDecision) (spelling : Spelling T U)
    (domain : Domain T U B D) (publishers subscribers : List ℕ) (lanes : World) : Type 0 where
  pub sized : AreSized domain.state.ports.sizes (length publishers) (length subscribers) spelling.payload_count spelling.middle_count lanes
  pub room : HaveSlots domain.state.ports.publishers publishers (sized.sizes).slots
  pub small : words_of (table_sizes sized.sizes) < 2 ^ 64
  pub alone : KeepAlone domain.state.ports publishers subscribers
  pub behind : lanes ≡ domain_behind decision spelling domain publishers subscribers (start sized.sizes)

-- The domain as the lanes leave it.
use Rattle.std.specs.Prelude.{ℕ, ◌≡◌, ◌+◌, ◌*◌, ◌<◌, ◌≤◌, List, length, slice_get, Option, None, Some}
use Rattle.iox_domain.specs.DomainPorts.MessagesSending.{with_uses}
use Rattle.iox_domain.specs.DomainPorts.Publishers.{port_of}
use Rattle.iox_domain.specs.DomainPorts.Ports.{connection_of}
use Rattle.iox_domain.specs.DomainPorts.declared.publisher_port.PublisherPort.{PublisherPort}
use Rattle.iox_domain.specs.declared.domain.Domain.{Domain}
use Rattle.iox_lanes_opening.specs.Restored.{left_at, place_of, with_waiting}
use Rattle.iox_lanes_opening.specs.Restoring.{messages_in}
use Rattle.iox_lanes_machine.specs.LanesParties.Parties.{PublisherLaneState}
use Rattle.iox_lanes_machine.specs.Resting.{Rests}
use Rattle.iox_lanes_machine.specs.World.{World}
use Rattle.iox_lanes_machine.specs.declared.resting.Unrest.{Unrest}
use Rattle.iox_lanes_machine.specs.declared.resting.Unrest.TheVariants as unrest
use Rattle.iox_lanes.specs.declared.into_domain_error.IntoDomainError.{IntoDomainError}
use Rattle.iox_lanes.specs.declared.into_domain_error.IntoDomainError.TheVariants as error
use Rattle.iox_lanes_machine.specs.Fixed.{slots_at}
use Rattle.iox_lanes.specs.Joined.{HasSlotsIf, IsLinkToIf, row_of}
use Rattle.iox_lanes.specs.Spelling.{ReadingBack}

-- The publisher is as the lanes leave it. The messages that wait at a connection of the lanes, by its order, wait at the domain's
-- connection with its index, and none waits at a connection that the lanes don't have. The history and the last sequence number are those
-- of the lane. All else is as it was.
pub record IsPortLeft {T U : Type 0} (reading : ReadingBack T U) (lanes : World) (from : ℕ) (row : List ℕ) (lane : PublisherLaneState)
    (old new : PublisherPort T U) : Type 0 where
  pub rest : new ≡ record old {
    last_sequence = lane.last;
    sender = with_uses (record old.sender.uses { history = new.sender.uses.history; connections = new.sender.uses.connections })
        old.sender;
  }
  pub count : length new.sender.uses.connections ≡ length old.sender.uses.connections
  pub each : (index : ℕ) → connection_of index new
      ≡ with_waiting (connection_of index old) (left_at reading.payload reading.middle lanes from lane.port.book.first (place_of index row))
  pub history : new.sender.uses.history ≡ messages_in reading.payload reading.middle lanes.table lane.port.book.first lane.port.book.history

-- The lane and both publishers exist, and the publisher is as the lanes leave it.
abbrev pub IsPortLeftIf : {T U : Type 0} → ReadingBack T U → World → ℕ → List ℕ → Option PublisherLaneState
    → Option (PublisherPort T U) → Option (PublisherPort T U) → Type 0
IsPortLeftIf reading lanes from row None old new = ⊥
IsPortLeftIf reading lanes from row (Some lane) None new = ⊥
IsPortLeftIf reading lanes from row (Some lane) (Some old) None = ⊥
IsPortLeftIf reading lanes from row (Some lane) (Some old) (Some new) = IsPortLeft reading lanes from row lane old new

-- The publisher at this place of the lanes is as they leave it; a publisher without a place is as it was.
abbrev pub IsLeftAt : {T U : Type 0} → ReadingBack T U → World → ℕ → List ℕ → Option ℕ → Option (PublisherPort T U)
    → Option (PublisherPort T U) → Type 0
IsLeftAt reading lanes readers indices None old new = new ≡ old
IsLeftAt reading lanes readers indices (Some place) old new =
    IsPortLeftIf reading lanes (place * readers) (row_of readers indices place) (slice_get lanes.publishers place) old new

-- The publisher at this place of the lanes has the slots of this publisher of the domain, and the lanes have its connections.
pub record JoinsAt {T U : Type 0} (lanes : World) (port : Option (PublisherPort T U)) (place readers : ℕ) (indices : List ℕ) : Type 0 where
  pub slots : HasSlotsIf port (slots_at lanes place)
  pub link_count : place * readers + readers ≤ length lanes.links
  pub index_count : place * readers + readers ≤ length indices
  pub linking : (subscriber : ℕ) → subscriber < readers
      → IsLinkToIf port place subscriber (row_of readers indices place) (slice_get indices (place * readers + subscriber))
      (slice_get lanes.links (place * readers + subscriber))

-- Each publisher, by number, is as the lanes leave it.
abbrev pub ArePortsLeft : {T U : Type 0} → ReadingBack T U → World → List ℕ → ℕ → List ℕ → List
    (ℕ × PublisherPort T U)
    → List (ℕ × PublisherPort T U) → Type 0
ArePortsLeft reading lanes senders readers indices old new =
    (number : ℕ) → IsLeftAt reading lanes readers indices (place_of number senders) (port_of number old) (port_of number new)

-- Only the publishers of the domain have changed.
abbrev pub OnlyPublishers : {T U B D : Type 0} → Domain T U B D → Domain T U B D → Type 0
OnlyPublishers old new = new ≡ record old
    { state = record old.state { ports = record old.state.ports { publishers = new.state.ports.publishers } } }

-- Each connection is at rest: no party is inside a call, and at most 2^63 steps were made.
abbrev pub AllRest : World → Type 0
AllRest lanes = (connection : ℕ) → Rests lanes connection

-- The reason why lanes aren't at rest that this error reports.
abbrev pub unrest_of : IntoDomainError → Unrest
unrest_of error.PartyInCall = unrest.PartyInCall
unrest_of error.SamplesOut = unrest.SamplesOut

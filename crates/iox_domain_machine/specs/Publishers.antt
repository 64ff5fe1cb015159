-- Which publisher of the machine a publisher of a domain represents.
use Rattle.std.specs.Prelude.{ℕ, ◌+◌, ◌-◌, ◌^◌, ◌<◌, ◌≤◌, ◌≡◌, min, true, false, List, length, drop, get_or, is_some, map, nat_le, Option}
use Rattle.std.specs.Prelude.{None, Some, option_map}
use Rattle.iox_domain.specs.DomainPorts.Messages as domain
use Rattle.iox_domain.specs.DomainPorts.MessagesSending.{slots_of}
use Rattle.iox_domain.specs.DomainPorts.Places.{reached}
use Rattle.iox_domain.specs.DomainPorts.Progress.{ProgressState}
use Rattle.iox_domain.specs.DomainPorts.declared.publisher_port.PublisherPort.{PublisherPort}
use Rattle.iox_domain.specs.DomainSlots.Counting.{times}
use Rattle.iox_domain.specs.DomainSlots.Uses.{Uses, in_use}
use Rattle.iox_domain.specs.Making.{segments_of}
use Rattle.iox_domain_machine.specs.Naming.{message_as}
use Rattle.iox_machine.specs.PortList.{those}
use Rattle.iox_machine.specs.Service.{Publisher, Send}

-- The blocked send of the domain represents that of the machine: it has the same message, goes to the subscribers that are
-- connected at the remaining places, and was taken by as many so far. It is blocked at the first of these places, where a subscriber
-- is connected, and was tried there as often, counted up to 2^64 - 1, and for as long.
pub record SendStandsFor {T U : Type 0} (name : ℕ → ℕ) (connected : List (Option ℕ)) (progress : ProgressState)
    (sent : domain.Message T U) (send : Send T) : Type 0 where
  pub message : send.message ≡ message_as name sent
  pub left : send.left ≡ those (drop progress.place connected)
  pub delivered : send.delivered ≡ progress.delivered
  pub fails : send.fails ≡ progress.fails
  pub retries : progress.retries ≡ min send.retries (2 ^ 64 - 1)
  pub elapsed : progress.elapsed ≡ send.elapsed
  pub meets : is_some (get_or connected progress.place None) ≡ true

-- A send is blocked at both publishers, and represents the machine's; or no send is blocked at either.
abbrev pub BlockedStandsFor : {T U : Type 0} → (ℕ → ℕ) → List (Option ℕ) → ProgressState → Option (domain.Message T U) → Option (Send T)
    → Type 0
BlockedStandsFor name connected progress None blocked = blocked ≡ None
BlockedStandsFor {T} name connected progress (Some message) blocked =
    (send : Send T) × (blocked ≡ Some send) × SendStandsFor name connected progress message send

-- The messages of a publisher that are in use have names by their slots, each its own, below the name of the next message. By its
-- name a message is of the current segment exactly if it is by its slot, and no slot lies after that segment. A loaned slot has no
-- other use. The next message is of the current segment.
pub record NamesSlots (name : ℕ → ℕ) (uses : Uses ℕ ℕ) (first next : ℕ) : Type 0 where
  pub apart : (one other : ℕ) → 0 < times one (in_use uses) → 0 < times other (in_use uses) → name one ≡ name other → one ≡ other
  pub below : (slot : ℕ) → 0 < times slot (in_use uses) → name slot < next
  pub current : (slot : ℕ) → 0 < times slot (in_use uses) → nat_le first (name slot) ≡ nat_le uses.first slot
  pub within : (slot : ℕ) → 0 < times slot (in_use uses) → slot < uses.first + uses.size
  pub sole : (slot : ℕ) → 0 < times slot uses.loans → times slot (in_use uses) ≡ 1
  pub ahead : first ≤ next

-- A publisher of a domain represents this one of the machine, with these names of messages by their slots and of subscribers by
-- the indices of their connections; at most `most_subscribers` are listed. No message is in the history twice, an element is
-- one value, no send of a closed publisher is blocked, and there is at least one slot.
pub record PublisherStandsFor {T U : Type 0} (name reader : ℕ → ℕ) (most_subscribers : ℕ) (port : PublisherPort T U)
    (publisher : Publisher T) : Type 0 where
  pub factory : publisher.factory ≡ port.owner.number
  pub stands : publisher.stands ≡ port.stands
  pub max_loaned_samples : publisher.max_loaned_samples ≡ port.sender.uses.most_loans
  pub allocation : publisher.allocation ≡ port.allocation
  pub slots : publisher.slots ≡ port.sender.uses.size
  pub room : publisher.room ≡ port.sender.room
  pub segments : publisher.segments ≡ port.sender.segments
  pub last_sequence : publisher.last_sequence ≡ port.last_sequence
  pub history : publisher.history ≡ map (message_as name) port.sender.uses.history
  pub once : (slot : ℕ) → times slot (slots_of port.sender).history ≤ 1
  pub seen : publisher.seen ≡ port.seen
  pub connected : publisher.connected ≡ map (option_map reader) (reached most_subscribers port.ties.items)
  pub ties : length port.ties.items ≤ most_subscribers
  pub blocked : BlockedStandsFor name publisher.connected port.progress port.sender.uses.sending publisher.blocked
  pub left : port.stands ≡ false → port.sender.uses.sending ≡ None
  pub named : NamesSlots name (slots_of port.sender) publisher.first publisher.next
  pub unit : port.unit ≡ 1
  pub most_segments : port.sender.most_segments ≡ segments_of port.allocation
  pub ample : 0 < port.sender.uses.size

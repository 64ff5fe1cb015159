-- What a call that no other call overlaps leaves in the payloads of slots, and in the ports.
use Rattle.std.specs.Prelude.{ℕ, ◌≡◌, ◌<◌, length, slice_get, Some}
use Rattle.std.specs.Global.{Vec}
use Rattle.iox_lanes_machine.specs.LanesParties.Parties.{PublisherLaneState, SubscriberLaneState, name_of}
use Rattle.iox_lanes_machine.specs.LanesParties.declared.call.Call.{Call}
use Rattle.iox_lanes_machine.specs.LanesParties.declared.call.Call.TheVariants as call
use Rattle.iox_lanes_machine.specs.LanesParties.declared.call.CallName.TheVariants as name
use Rattle.iox_lanes_machine.specs.LanesParties.declared.call.Party.{Party}
use Rattle.iox_lanes_machine.specs.LanesParties.declared.call.Party.TheVariants.{Publisher, Subscriber}
use Rattle.iox_lanes_machine.specs.World.{World}
use Rattle.iox_lanes_laws.specs.Messages.{payload_held}
use Rattle.iox_lanes_laws.specs.Turns.{IsInTurn}

-- The payload of each slot of the service is the same after a call that no other call overlaps, unless the call writes this slot.
abbrev pub PayloadsStayInTurn : Type 0
PayloadsStayInTurn = (m n : World) (party : Party) (c : Call) → IsInTurn m party c n → (slot : ℕ) → slot < m.table.sizes.slots
    → (name_of c ≡ name.Write slot → ⊥) → payload_held n.table slot ≡ payload_held m.table slot

-- A slot that is written by a call that no other call overlaps then has exactly the words of the write as its payload.
abbrev pub WritesHoldInTurn : Type 0
WritesHoldInTurn = (m n : World) (place slot : ℕ) (payload user_header : Vec ℕ)
    → IsInTurn m (Publisher place) (call.Write slot payload user_header) n → payload_held n.table slot ≡ payload.items

-- The connections and the sizes of the words are the same before and after.
pub record ConnectionsStay (m n : World) : Type 0 where
  pub links : n.links ≡ m.links
  pub sizes : n.table.sizes ≡ m.table.sizes

-- The publisher has the same connections, slots, loan limit and history size before and after, and its sends fail or not as before. This
-- says nothing of the headers that it keeps for its slots.
pub record PublisherStays (before after : PublisherLaneState) : Type 0 where
  pub routes : after.port.routes ≡ before.port.routes
  pub fails : after.fails ≡ before.fails
  pub first : after.port.book.first ≡ before.port.book.first
  pub most_loans : after.port.book.most_loans ≡ before.port.book.most_loans
  pub kept : after.port.book.kept ≡ before.port.book.kept
  pub slots : length after.port.book.loans ≡ length before.port.book.loans

-- The subscriber has the same connections and borrow limit before and after.
pub record SubscriberStays (before after : SubscriberLaneState) : Type 0 where
  pub routes : after.port.routes ≡ before.port.routes
  pub most_borrowed : after.port.most_borrowed ≡ before.port.most_borrowed

-- After a call of a publisher that no other call overlaps, the connections and its port are the same (`PublisherStays`).
abbrev pub PublishersStayInTurn : Type 0
PublishersStayInTurn = (m n : World) (place : ℕ) (c : Call) (before : PublisherLaneState) → IsInTurn m (Publisher place) c n
    → slice_get m.publishers place ≡ Some before
    → ConnectionsStay m n × ((after : PublisherLaneState) × (slice_get n.publishers place ≡ Some after) × PublisherStays before after)

-- After a call of a subscriber that no other call overlaps, the connections and its port are the same (`SubscriberStays`).
abbrev pub SubscribersStayInTurn : Type 0
SubscribersStayInTurn = (m n : World) (place : ℕ) (c : Call) (before : SubscriberLaneState) → IsInTurn m (Subscriber place) c n
    → slice_get m.subscribers place ≡ Some before
    → ConnectionsStay m n × ((after : SubscriberLaneState) × (slice_get n.subscribers place ≡ Some after) × SubscriberStays before after)

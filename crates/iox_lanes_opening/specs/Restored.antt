-- A publisher of a domain that gets all that lanes leave of it.
use Rattle.std.specs.Prelude.{ℕ, ◌≡◌, ◌+◌, ◌==◌, List, [], length, position, Option, None, Some}
use Rattle.iox_domain_ports.specs.DomainSlots.Uses.{Connection, connection_at}
use Rattle.iox_domain_ports.specs.Messages.{Message}
use Rattle.iox_domain_ports.specs.MessagesSending.{SenderState, with_uses}
use Rattle.iox_lanes_machine.specs.Resting.{mail_at}
use Rattle.iox_lanes_machine.specs.World.{World}
use Rattle.iox_lanes_opening.specs.Clearing.{NoneBorrowed}
use Rattle.iox_lanes_opening.specs.Restoring.{IsQuiet, MayWaitAll, MayRememberAll, messages_in}

-- A publisher has no send in progress and no loan, no message of its connections is borrowed, and it has capacity for a value in each slot.
pub record IsRested {T U : Type 0} (sender : SenderState T U) : Type 0 where
  pub quiet : IsQuiet sender
  pub none : NoneBorrowed sender.uses

-- The connection with these messages in its mailbox.
abbrev pub with_waiting : {X : Type 0} → Connection X → List X → Connection X
with_waiting connection waiting = record connection { waiting = waiting }

-- The first place of the index among the indices of a publisher's connections.
abbrev pub place_of : ℕ → List ℕ → Option ℕ
place_of index indices = position (λ it. it == index) indices

-- The messages that lanes leave at the connection at this place of a publisher, whose first connection is `from`; no messages if there is
-- no place.
abbrev pub left_at : {T U : Type 0} → (List ℕ → T) → (List ℕ → Option ℕ × U) → World → ℕ → ℕ → Option ℕ → List (Message T U)
left_at value_of header_of lanes from first None = []
left_at value_of header_of lanes from first (Some place) = messages_in value_of header_of lanes.table first (mail_at lanes (from + place))

-- The messages that lanes leave at this place may wait at the publisher's connection with this index.
abbrev pub MayWaitAt : {T U : Type 0} → World → ℕ → ℕ → ℕ → SenderState T U → Option ℕ → Type 0
MayWaitAt lanes from first index sender None = Unit {0}
MayWaitAt lanes from first index sender (Some place) = MayWaitAll lanes (from + place) first index sender

-- A publisher has what the lanes leave: only its mailboxes and its history have changed. The messages that the lanes leave at a connection
-- wait at the connection with its index, if they may wait there, and nothing waits at a connection that the lanes don't have. The history
-- is that of the lanes, if the publisher may keep it.
pub record IsRestored {T U : Type 0} (value_of : List ℕ → T) (header_of : List ℕ
    → Option ℕ × U) (lanes : World) (from : ℕ) (indices : List ℕ) (first : ℕ) (history : List ℕ) (old new : SenderState T U) : Type 0 where
  pub rest : new ≡ with_uses (record old.uses { history = new.uses.history; connections = new.uses.connections }) old
  pub count : length new.uses.connections ≡ length old.uses.connections
  pub each : (index : ℕ) → connection_at index new.uses ≡ with_waiting (connection_at index old.uses) (connection_at index new.uses).waiting
  pub waits : (index : ℕ) → MayWaitAt lanes from first index old (place_of index indices)
      → (connection_at index new.uses).waiting ≡ left_at value_of header_of lanes from first (place_of index indices)
  pub remembers : MayRememberAll lanes.table history first old → new.uses.history ≡ messages_in value_of header_of lanes.table first history

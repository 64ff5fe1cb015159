-- A publisher of a domain that forgets its messages.
use Rattle.std.specs.Prelude.{ℕ, ◌≡◌, [], length}
use Rattle.iox_domain_ports.specs.DomainSlots.Uses.{Uses, connection_at, emptied}

-- No message of any connection is borrowed.
abbrev pub NoneBorrowed : {L X : Type 0} → Uses L X → Type 0
NoneBorrowed uses = (index : ℕ) → (connection_at index uses).borrowed ≡ []

-- All mailboxes and the history are empty, and all else is as it was.
pub record IsCleared {L X : Type 0} (old new : Uses L X) : Type 0 where
  pub same : new ≡ record old { history = []; connections = new.connections }
  pub count : length new.connections ≡ length old.connections
  pub each : (index : ℕ) → connection_at index new ≡ emptied (connection_at index old)

-- How many connections of a publisher are live, how many ended, and how many slots they take.
use Rattle.std.specs.Prelude.{ℕ, ◌+◌, ◌*◌, ◌≤◌, ◌≡◌, Bool, true, false, List, find, length, is_some, sum_by, Some, Err, if◌then◌else◌}
use Rattle.std.specs.List.{count_by}
use Rattle.iox_command.specs.NegotiateBase.DescribeBase.declared.message_type.MessageTypeDetails.{MessageTypeDetails}
use Rattle.iox_command.specs.declared.command.Command.{Command}
use Rattle.iox_command.specs.declared.reply.Reply.{Reply}
use Rattle.iox_domain.specs.DomainPorts.Lengths.{extent}
use Rattle.iox_domain.specs.DomainPorts.LoanLaws.{IsAmple}
use Rattle.iox_domain.specs.DomainPorts.Loaning.{Loans}
use Rattle.iox_domain.specs.DomainPorts.Ports.{goes_on}
use Rattle.iox_domain.specs.DomainPorts.Publishers.{port_of}
use Rattle.iox_domain.specs.DomainPorts.declared.attached.Taken.{Taken}
use Rattle.iox_domain.specs.DomainPorts.declared.publisher_port.PublisherPort.{PublisherPort}
use Rattle.iox_domain.specs.DomainSlots.Uses.{Connection}
use Rattle.iox_domain.specs.DomainSlots.declared.stage.Stage.{Stage}
use Rattle.iox_domain.specs.DomainSlots.declared.stage.Stage.TheVariants as stage
use Rattle.iox_domain.specs.DomainValues.Sizes.{worst_case}
use Rattle.iox_domain.specs.DomainValues.declared.data_segment.AllocationStrategy.{AllocationStrategy}
use Rattle.iox_domain.specs.DomainValues.declared.port_error.LoanError.TheVariants as refusal
use Rattle.iox_domain.specs.PortLawsLaws.{IsApart}
use Rattle.iox_domain.specs.Roomy.{AreRoomy}
use Rattle.iox_domain.specs.SizeLaws.{AreAllowed}
use Rattle.iox_domain.specs.declared.ports.service_ports.ServicePorts.{ServicePorts}
use Rattle.iox_domain_machine.specs.Naming.{Naming}
use Rattle.iox_domain_machine.specs.Standing.{StandsFor}
use Rattle.iox_domain_machine.specs.Tables.{LentSlot}
use Rattle.iox_machine.specs.Choices.{Choices}
use Rattle.iox_machine.specs.Ports.{publisher_in}
use Rattle.iox_machine.specs.Run.{Runs}
use Rattle.iox_machine.specs.Service.{Service}
use Rattle.iox_machine.specs.State.{State, new_state}

-- How many connections of the publisher are live.
abbrev pub live_connections : {T U : Type 0} → PublisherPort T U → ℕ
live_connections port = count_by (λ connection. goes_on connection.stage) port.sender.uses.connections

-- Whether a connection in this stage ended while samples of it are still held.
abbrev pub has_ended : Stage → Bool
has_ended stage.Vacant = false
has_ended stage.Live = false
has_ended stage.Ended = true

-- How many connections of the publisher ended while samples of them are still held.
abbrev pub held_connections : {T U : Type 0} → PublisherPort T U → ℕ
held_connections port = count_by (λ connection. has_ended connection.stage) port.sender.uses.connections

-- How many samples of the connection are held if it ended; 0 if it is live, or if there is none.
abbrev pub samples_if_ended : {X : Type 0} → Connection X → ℕ
samples_if_ended connection = if has_ended connection.stage then length connection.borrowed else 0

-- How many samples of the publisher are held that came through connections that ended.
abbrev pub samples_of_ended : {T U : Type 0} → PublisherPort T U → ℕ
samples_of_ended port = sum_by (λ connection. samples_if_ended connection) port.sender.uses.connections

-- How many slots suffice for the publisher: those of the agreement's worst case, and one for each sample that is held and came through a
-- connection that ended.
abbrev pub slots_that_suffice : {T U : Type 0} → ServicePorts T U → PublisherPort T U → ℕ
slots_that_suffice ports port = worst_case ports.sizes port.sender.uses.most_loans + samples_of_ended port

-- How many slots are always enough for the publisher: those of the agreement's worst case, and as many as a subscriber needs for each
-- connection that ended while samples of it are still held.
abbrev pub slots_always_enough : {T U : Type 0} → ServicePorts T U → PublisherPort T U → ℕ
slots_always_enough ports port = worst_case ports.sizes port.sender.uses.most_loans
    + held_connections port * (ports.sizes.subscriber_max_buffer_size + ports.sizes.subscriber_max_borrowed_samples)

-- How many connections of an open publisher may be live, where the ports represent a service.
pub record ConnectionsAreFew (T U : Type 0) (choices : Choices T) : Type 0 where
  -- At most twice as many as subscribers may be listed: each of them is read by a listed subscriber, or a place is tied to it.
  pub always : (names : Naming) (lent : List (ℕ × LentSlot)) (held : List (ℕ × Taken)) (buffer : ℕ) (ports : ServicePorts T U)
      (service : Service T) (number : ℕ) (port : PublisherPort T U) → StandsFor names lent held buffer ports service → IsApart ports
      → port_of number ports.publishers ≡ Some port → port.stands ≡ true
      → live_connections port ≤ 2 * ports.sizes.max_subscribers
  -- At most as many as subscribers may be listed, if the publisher has seen all changes of the list, as after each update, and the service
  -- is one of a run of the machine.
  pub followed : (types : MessageTypeDetails) (buffer : ℕ) (asked : List (Command T)) (answers : List (Reply T)) (state : State T)
      (names : Naming) (lent : List (ℕ × LentSlot)) (held : List (ℕ × Taken)) (ports : ServicePorts T U) (service : Service T)
      (number : ℕ) (port : PublisherPort T U) → Runs types choices buffer asked new_state answers state
      → find (λ other. is_some (publisher_in (names.publisher number) other)) state.services ≡ Some service
      → StandsFor names lent held buffer ports service → IsApart ports
      → port_of number ports.publishers ≡ Some port → port.stands ≡ true → port.seen ≡ ports.subscriber_list.changes
      → live_connections port ≤ ports.sizes.max_subscribers
  -- So a publisher that has seen all changes of the list has enough slots for each loan that fits (`IsAmple`), if a segment has those of
  -- the agreement's worst case, and those of the connections that ended while samples of them are still held.
  pub ample : (types : MessageTypeDetails) (buffer : ℕ) (asked : List (Command T)) (answers : List (Reply T)) (state : State T)
      (names : Naming) (lent : List (ℕ × LentSlot)) (held : List (ℕ × Taken)) (ports : ServicePorts T U) (service : Service T)
      (number : ℕ) (port : PublisherPort T U) → Runs types choices buffer asked new_state answers state
      → find (λ other. is_some (publisher_in (names.publisher number) other)) state.services ≡ Some service
      → StandsFor names lent held buffer ports service → IsApart ports → AreAllowed ports
      → port_of number ports.publishers ≡ Some port → port.stands ≡ true → port.seen ≡ ports.subscriber_list.changes
      → slots_always_enough ports port ≤ port.sender.uses.size → IsAmple port
  -- Of each connection that ended at least one sample is held. So no more connections of a publisher ended than samples of these are held.
  pub ended : (names : Naming) (lent : List (ℕ × LentSlot)) (held : List (ℕ × Taken)) (buffer : ℕ) (ports : ServicePorts T U)
      (service : Service T) (number : ℕ) (port : PublisherPort T U) → StandsFor names lent held buffer ports service
      → port_of number ports.publishers ≡ Some port → held_connections port ≤ samples_of_ended port
  -- So the slots of the agreement's worst case are enough for each loan that fits (`IsAmple`) while no such sample is held.
  pub agreed : (types : MessageTypeDetails) (buffer : ℕ) (asked : List (Command T)) (answers : List (Reply T)) (state : State T)
      (names : Naming) (lent : List (ℕ × LentSlot)) (held : List (ℕ × Taken)) (ports : ServicePorts T U) (service : Service T)
      (number : ℕ) (port : PublisherPort T U) → Runs types choices buffer asked new_state answers state
      → find (λ other. is_some (publisher_in (names.publisher number) other)) state.services ≡ Some service
      → StandsFor names lent held buffer ports service → AreRoomy ports
      → port_of number ports.publishers ≡ Some port → port.stands ≡ true → port.seen ≡ ports.subscriber_list.changes
      → samples_of_ended port ≡ 0 → worst_case ports.sizes port.sender.uses.most_loans ≤ port.sender.uses.size → IsAmple port
  -- Each such sample takes one slot at most. With as many more slots no loan that fits in a slot is refused because memory runs out.
  pub lends : (types : MessageTypeDetails) (buffer : ℕ) (asked : List (Command T)) (answers : List (Reply T)) (state : State T)
      (names : Naming) (lent : List (ℕ × LentSlot)) (held : List (ℕ × Taken)) (ports : ServicePorts T U) (service : Service T)
      (number : ℕ) (port new : PublisherPort T U) (allocation : AllocationStrategy) (values elements : ℕ)
      → Runs types choices buffer asked new_state answers state
      → find (λ other. is_some (publisher_in (names.publisher number) other)) state.services ≡ Some service
      → StandsFor names lent held buffer ports service → AreRoomy ports
      → port_of number ports.publishers ≡ Some port → port.stands ≡ true → port.seen ≡ ports.subscriber_list.changes
      → slots_that_suffice ports port ≤ port.sender.uses.size → extent port.unit values elements ≤ port.sender.room
      → Loans allocation values elements port (Some (Err refusal.OutOfMemory)) new → ⊥

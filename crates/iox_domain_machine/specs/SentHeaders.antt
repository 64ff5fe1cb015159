-- The header and the user header that a subscriber reads of a message are those that were recorded as its send began.
use Rattle.std.specs.Prelude.{ℕ, ◌≡◌, List, [], ◌∷◌, ◌++◌, length, map, All, Contains, Option, None, Some, Result, if◌then◌else◌}
use Rattle.std.specs.Prelude.{option_to_list}
use Rattle.iox_command.specs.DomainValues.declared.backpressure.BackpressureDecision.{BackpressureDecision}
use Rattle.iox_command.specs.DomainValues.declared.backpressure.BackpressureInfo.{BackpressureInfo}
use Rattle.iox_command.specs.DomainValues.declared.degradation.DegradationAction.{DegradationAction}
use Rattle.iox_command.specs.DomainValues.declared.degradation.DegradationInfo.{DegradationInfo}
use Rattle.iox_command.specs.declared.command.Command.TheVariants as command
use Rattle.iox_domain.specs.Calls.{PortCall, Sends, Happens}
use Rattle.iox_domain.specs.DescribeBase.declared.header.Header.{Header}
use Rattle.iox_domain.specs.DomainPorts.Messages as domain
use Rattle.iox_domain.specs.DomainPorts.Messages.{new_loan, sent_as, write_all}
use Rattle.iox_domain.specs.DomainPorts.Ports.{connection_of}
use Rattle.iox_domain.specs.DomainPorts.Publishers.{port_of}
use Rattle.iox_domain.specs.DomainPorts.declared.attached.Taken.{Taken}
use Rattle.iox_domain.specs.DomainPorts.declared.meeting.Sent.{Sent}
use Rattle.iox_domain.specs.DomainPorts.declared.publisher_port.PublisherPort.{PublisherPort}
use Rattle.iox_domain.specs.DomainValues.Sequences.{next_sequence}
use Rattle.iox_domain.specs.DomainValues.declared.create_error.PublisherCreateError.{PublisherCreateError}
use Rattle.iox_domain.specs.DomainValues.declared.port_error.LoanError.{LoanError}
use Rattle.iox_domain.specs.DomainValues.declared.port_error.SendError.{SendError}
use Rattle.iox_domain.specs.DomainValues.declared.service_sizes.ServiceSizes.{ServiceSizes}
use Rattle.iox_domain.specs.Order.{Happen, has_begun, sent_by}
use Rattle.iox_domain.specs.Ports.{no_ports}
use Rattle.iox_domain.specs.Reading.{header_in, header_of, sample_in}
use Rattle.iox_domain.specs.Steps.{LoansBy, PutsBy}
use Rattle.iox_domain.specs.declared.ports.service_ports.ServicePorts.{ServicePorts}
use Rattle.iox_domain_machine.specs.ComingPublisherLaws.{with_publisher_came}
use Rattle.iox_domain_machine.specs.Laws.{with_alone}
use Rattle.iox_domain_machine.specs.LendingLaws.{with_lent_name}
use Rattle.iox_domain_machine.specs.Naming.{Naming, message_as}
use Rattle.iox_domain_machine.specs.SendLaws.{sent_or_skipped}
use Rattle.iox_domain_machine.specs.Standing.{StandsFor}
use Rattle.iox_domain_machine.specs.Tables.{LentSlot}
use Rattle.iox_machine.specs.Message.{Message, Sample}
use Rattle.iox_machine.specs.MessageLaws.{begun_by}
use Rattle.iox_machine.specs.Service.{Service}
use Rattle.iox_machine.specs.State.{State}
use Rattle.iox_machine.specs.Table.{at}

-- The names that are the domain's own numbers: that of each port, the slot of each message, and the index of each connection.
abbrev pub own_numbers : Naming
own_numbers = record {
  publisher = λ number. number;
  subscriber = λ number. number;
  message = λ number slot. slot;
  reader = λ number index. index;
}

-- What is recorded of a message as its send begins: the machine's publisher and message, by name, its header, and its user
-- header.
pub record SentHeader (T U : Type 0) : Type 0 where
  pub publisher : ℕ
  pub message : Message T
  pub header : Header
  pub user_header : U

module _ {T U : Type 0} where
  -- The record of a message of a domain with this header, by names.
  abbrev pub headed_by : Naming → Header → domain.Message T U → SentHeader T U
  headed_by names header message = record {
    publisher = names.publisher header.publisher_id;
    message = message_as (names.message header.publisher_id) message;
    header = header;
    user_header = message.user_header;
  }

  -- The property holds of each message of the publisher that is in use: the one that is being sent, those of the history, and
  -- those that wait in a connection or are borrowed from it.
  abbrev pub EachInUse : (domain.Message T U → Type 0) → PublisherPort T U → Type 0
  EachInUse IsSo port =
      ((message : domain.Message T U) → port.sender.uses.sending ≡ Some message → IsSo message) × All IsSo port.sender.uses.history
      × ((index : ℕ) → All IsSo (connection_of index port).waiting × All IsSo (connection_of index port).borrowed)

  -- The record of each message in use of a domain, by these names, is among those that were made as sends began.
  abbrev pub TellAsSent : Naming → List (SentHeader T U) → ServicePorts T U → Type 0
  TellAsSent names sent ports =
      All (λ (entry : ℕ × PublisherPort T U).
      EachInUse (λ message. Contains sent (headed_by names (header_of entry.1 message) message)) entry.1) ports.publishers

  -- The records of messages of the publisher; none without a publisher.
  abbrev pub headed_at_port : Naming → Option (PublisherPort T U) → List (domain.Message T U) → List (SentHeader T U)
  headed_at_port names None messages = []
  headed_at_port names (Some port) messages = map (λ message. headed_by names (header_of port message) message) messages

  -- The record of a call that begins a send: that of the message that the loan becomes; none if the call begins no send.
  abbrev pub headed_as_sent : Naming → PortCall T U → ServicePorts T U → List (SentHeader T U)
  headed_as_sent names (Sends number slot answer) old =
      headed_at_port names (port_of number old.publishers) (sent_by number (Sends number slot answer) old)
  headed_as_sent names call old = []

  -- The message that is sent if these values are put into this slot: all of them are written, with the publisher's user header and
  -- its next sequence number.
  abbrev pub put_from : ℕ → List T → PublisherPort T U → domain.Message T U
  put_from slot values port =
      sent_as (next_sequence port.last_sequence) (write_all values (new_loan slot (length values) (length values) port.sender.user_header))

  -- The record of values that are put; none without a publisher.
  abbrev pub headed_where_put : Naming → ℕ → List T → Option (PublisherPort T U) → List (SentHeader T U)
  headed_where_put names slot values None = []
  headed_where_put names slot values (Some port) =
      headed_by names (header_of port (put_from slot values port)) (put_from slot values port) ∷ []

  -- The record of a put that begins a send, from the slot that it takes; none if it begins no send.
  abbrev pub headed_as_put : Naming → ℕ → ℕ → List T → Option (Result Sent SendError) → ServicePorts T U → List (SentHeader T U)
  headed_as_put names number slot values answer old =
      if has_begun answer then headed_where_put names slot values (port_of number old.publishers) else []

  -- The records of the sends that these calls begin, one after the other; each call is given with the ports after it.
  abbrev pub headed_in : List (PortCall T U × ServicePorts T U) → ServicePorts T U → List (SentHeader T U)
  headed_in [] old = []
  headed_in ((call, next) ∷ calls) old = headed_as_sent own_numbers call old ++ headed_in calls next

  -- The names of all that is in use stay: of each existing publisher, and of each of its messages that is in use.
  abbrev pub AreStillNamed : Naming → Naming → ServicePorts T U → Type 0
  AreStillNamed names names_then ports =
      All (λ (entry : ℕ × PublisherPort T U). (names_then.publisher entry.1.number ≡ names.publisher entry.1.number)
      × EachInUse (λ message. names_then.message entry.1.number message.slot ≡ names.message entry.1.number message.slot) entry.1)
      ports.publishers

  -- A put, from the slot that it takes, makes the record of the message of which the machine's command begins the send, or none
  -- if that begins none. The names of all that is in use stay, and nothing else changes the record of a message in use.
  pub record PutTells (names names_then : Naming) (number slot : ℕ) (values : List T) (answer : Option (Result Sent SendError))
      (old new : ServicePorts T U) (service : Service T) (state : State T) : Type 0 where
    pub still : AreStillNamed names names_then old
    pub begins : map (λ told. told.message) (headed_as_put names_then number slot values answer old)
        ≡ option_to_list (begun_by (names.publisher number) (command.Put (names.publisher number) values) (with_alone service state)
        (sent_or_skipped answer))
    pub goes_on : (sent : List (SentHeader T U)) → TellAsSent names sent old
        → TellAsSent names_then (sent ++ headed_as_put names_then number slot values answer old) new

  -- The sample reads what was recorded as the send of its message began: its header and its user header are of a send of the
  -- same publisher and the same message as the machine's sample.
  pub record ReadsAsSent (sent : List (SentHeader T U)) (ports : ServicePorts T U) (taken : Taken) (sample : Sample T) : Type 0 where
    pub told : SentHeader T U
    pub among : Contains sent told
    pub publisher : told.publisher ≡ sample.publisher
    pub message : told.message ≡ sample.message
    pub header : header_in taken ports ≡ Some told.header
    pub read : domain.Message T U
    pub found : sample_in taken ports ≡ Some read
    pub user_header : read.user_header ≡ told.user_header

-- The records of messages in use are those that were made as their sends began, whatever is called.
pub record HeadersAreAsSent (T U : Type 0) (overrides : ℕ → ℕ → Type 0) (may : DegradationInfo → DegradationAction → Type 0)
    (decide : BackpressureInfo → BackpressureDecision → Type 0) : Type 0 where
  -- In a new domain nothing is in use.
  pub begins : (names : Naming) (service : ℕ) (sizes : ServiceSizes) → TellAsSent {T = T} {U = U} names [] (no_ports service sizes)
  -- A call adds the record of the send that it begins, if it does; nothing else changes the record of a message in use.
  pub goes_on : (names names_then : Naming) (sent : List (SentHeader T U)) (call : PortCall T U) (old new : ServicePorts T U)
      → Happens overrides may decide call old new → AreStillNamed names names_then old → TellAsSent names sent old
      → TellAsSent names_then (sent ++ headed_as_sent names_then call old) new
  -- The record of a call that sends a loan is of the message of which the machine's command begins the send; there is none if
  -- that begins none.
  pub sends : (names : Naming) (lent : List (ℕ × LentSlot)) (held : List (ℕ × Taken)) (buffer : ℕ) (ports : ServicePorts T U)
      (service : Service T) (state : State T) (loan : ℕ) (out : LentSlot) (answer : Option (Result Sent SendError))
      → StandsFor names lent held buffer ports service → at loan lent ≡ Some out
      → map (λ told. told.message) (headed_as_sent names (Sends out.publisher out.slot answer) ports)
      ≡ option_to_list (begun_by (names.publisher out.publisher) (command.Send loan) (with_alone service state) (sent_or_skipped answer))
  -- So after any calls on a new domain, the records of messages in use are among those that these calls made.
  pub calls : (service : ℕ) (sizes : ServiceSizes) (calls : List (PortCall T U × ServicePorts T U)) (new : ServicePorts T U)
      → Happen overrides may decide calls (no_ports service sizes) new
      → TellAsSent own_numbers (headed_in calls (no_ports service sizes)) new
  -- The same holds of a put, which loans, writes and sends values.
  pub puts : (names names_then : Naming) (sent : List (SentHeader T U)) (number : ℕ) (values : List T) (old new : ServicePorts T U)
      (answer : Option (Result Sent SendError))
      → PutsBy may decide number values old answer new → AreStillNamed names names_then old → TellAsSent names sent old
      → (slot : ℕ) × TellAsSent names_then (sent ++ headed_as_put names_then number slot values answer old) new
  -- The sample with this number reads what was recorded.
  pub reads : (names : Naming) (lent : List (ℕ × LentSlot)) (held : List (ℕ × Taken)) (buffer : ℕ) (ports : ServicePorts T U)
      (service : Service T) (sent : List (SentHeader T U)) (number : ℕ) (taken : Taken)
      → StandsFor names lent held buffer ports service → TellAsSent names sent ports → at number held ≡ Some taken
      → (sample : Sample T) × (at number service.samples ≡ Some sample) × ReadsAsSent sent ports taken sample

-- The names by which the ports represent a service after a call are the same as before for all that is in use.
pub record NamesStay (T U : Type 0) : Type 0 where
  -- If publishers and messages get no other names, their names stay.
  pub others : (names names_then : Naming) (ports : ServicePorts T U) → names_then.publisher ≡ names.publisher
      → names_then.message ≡ names.message → AreStillNamed names names_then ports
  -- If a loan gets a name that is made, the names of what is in use stay.
  pub lends : (names : Naming) (lent : List (ℕ × LentSlot)) (held : List (ℕ × Taken)) (buffer : ℕ) (old new : ServicePorts T U)
      (service : Service T) (number values elements name : ℕ) (answer : Option (Result ℕ LoanError))
      → StandsFor names lent held buffer old service → LoansBy number values elements old answer new
      → AreStillNamed names (with_lent_name number name answer names) old
  -- If a publisher gets a name that is created, the names of what is in use stay.
  pub comes : (names : Naming) (lent : List (ℕ × LentSlot)) (held : List (ℕ × Taken)) (buffer : ℕ) (ports : ServicePorts T U)
      (service : Service T) (name : ℕ) (answer : Result ℕ PublisherCreateError)
      → StandsFor names lent held buffer ports service
      → AreStillNamed names (with_publisher_came ports.next_port name answer names) ports

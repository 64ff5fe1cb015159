-- The order in which a connection gives what its publisher sends.
use Rattle.std.specs.Prelude.{ℕ, ◌≡◌, ◌==◌, ◌&&◌, ◌⊎◌, Bool, true, false, List, [], ◌∷◌, ◌++◌, take, if◌then◌else◌, get_or, Option, None}
use Rattle.std.specs.Prelude.{Some, Result, Ok, Err}
use Rattle.iox_domain.specs.DomainValues.declared.backpressure.BackpressureDecision.{BackpressureDecision}
use Rattle.iox_domain.specs.DomainValues.declared.backpressure.BackpressureInfo.{BackpressureInfo}
use Rattle.iox_domain.specs.DomainValues.declared.degradation.DegradationAction.{DegradationAction}
use Rattle.iox_domain.specs.DomainValues.declared.degradation.DegradationInfo.{DegradationInfo}
use Rattle.iox_domain.specs.DomainValues.declared.port_error.ReceiveError.{ReceiveError}
use Rattle.iox_domain.specs.DomainValues.declared.port_error.SendError.{SendError}
use Rattle.iox_domain.specs.DomainValues.declared.port_error.SendError.TheVariants as sending
use Rattle.iox_domain.specs.DomainValues.declared.service_sizes.ServiceSizes.{ServiceSizes}
use Rattle.iox_domain.specs.DomainValues.Sequences.{next_sequence}
use Rattle.iox_domain.specs.DomainPorts.Messages.{Message, Loan, sent_as}
use Rattle.iox_domain.specs.DomainPorts.Places.{leads_to}
use Rattle.iox_domain.specs.DomainPorts.Ports.{is_live}
use Rattle.iox_domain.specs.DomainPorts.declared.meeting.Sent.{Sent}
use Rattle.iox_domain.specs.DomainPorts.declared.publisher_port.PublisherPort.{PublisherPort}
use Rattle.iox_domain.specs.DomainPorts.Publishers.{port_of, connection_in}
use Rattle.iox_domain.specs.DomainPorts.declared.attached.Taken.{Taken}
use Rattle.iox_domain.specs.Calls.{PortCall, Sends, Receives, Happens}
use Rattle.iox_domain.specs.Lending.{loan_in}
use Rattle.iox_domain.specs.Ports.{no_ports}
use Rattle.iox_domain.specs.declared.ports.service_ports.ServicePorts.{ServicePorts}

-- The first list is a subsequence of the second: all its elements are in the second, in the same order, each at its own place.
abbrev pub IsPartOf : {X : Type 0} → List X → List X → Type 0
IsPartOf [] ys = Unit {0}
IsPartOf (x ∷ xs) [] = ⊥
IsPartOf (x ∷ xs) (y ∷ ys) = ((x ≡ y) × IsPartOf xs ys) ⊎ IsPartOf (x ∷ xs) ys

-- Whether the connection at this index is live and leads to this subscriber.
abbrev pub leads_at : {T U : Type 0} → ℕ → ℕ → PublisherPort T U → Bool
leads_at index subscriber port = is_live index port && leads_to subscriber (get_or port.readers index None)

-- Whether the publisher exists, and its connection at this index is live and leads to this subscriber.
abbrev pub leads_at_port : {T U : Type 0} → ℕ → ℕ → Option (PublisherPort T U) → Bool
leads_at_port index subscriber None = false
leads_at_port index subscriber (Some port) = leads_at index subscriber port

-- Whether the publisher with this number exists, and its connection at this index is live and leads to this subscriber.
abbrev pub leads_in : {T U : Type 0} → ℕ → ℕ → ℕ → ServicePorts T U → Bool
leads_in publisher index subscriber ports = leads_at_port index subscriber (port_of publisher ports.publishers)

-- Whether the send began, so that its message was sent to the connections; that is so unless it was refused.
abbrev pub has_begun : Option (Result Sent SendError) → Bool
has_begun None = false
has_begun (Some (Ok done)) = true
has_begun (Some (Err sending.UnableToDeliver)) = true
has_begun (Some (Err error)) = false

-- The message that the loan becomes with this sequence number, or none without a loan.
abbrev pub message_of : {T U : Type 0} → Option ℕ → Option (Loan T U) → List (Message T U)
message_of sequence None = []
message_of sequence (Some loan) = sent_as sequence loan ∷ []

-- The sequence number that the publisher gives its next message; None without a publisher, or if the service doesn't number
-- messages.
abbrev pub sequence_at_port : {T U : Type 0} → Option (PublisherPort T U) → Option ℕ
sequence_at_port None = None
sequence_at_port (Some port) = next_sequence port.last_sequence

-- The sequence number that the publisher with this number gives its next message; None without a publisher, or if the service
-- doesn't number messages.
abbrev pub sequence_in : {T U : Type 0} → ℕ → ServicePorts T U → Option ℕ
sequence_in number ports = sequence_at_port (port_of number ports.publishers)

-- What the call makes this publisher send: the message of the loan in the slot that is sent, with the next sequence number.
abbrev pub sent_by : {T U : Type 0} → ℕ → PortCall T U → ServicePorts T U → List (Message T U)
sent_by publisher (Sends number slot answer) old = if (publisher == number)
    && has_begun answer then message_of (sequence_in number old) (loan_in number slot old) else []
sent_by publisher call old = []

-- Whether the answer of a receive names this connection.
abbrev pub is_named : ℕ → ℕ → Option (Result (Option Taken) ReceiveError) → Bool
is_named publisher index (Some (Ok (Some taken))) = (publisher == taken.publisher) && (index == taken.index)
is_named publisher index answer = false

-- What the call takes from this connection: the oldest message that waits in it, if the answer names the connection.
abbrev pub taken_by : {T U : Type 0} → ℕ → ℕ → PortCall T U → ServicePorts T U → List (Message T U)
taken_by publisher index (Receives subscriber answer) old =
    if is_named publisher index answer then take 1 (connection_in publisher index old.publishers).waiting else []
taken_by publisher index call old = []

-- What a publisher sent so far, and what was taken so far from one of its connections since that was made, each with the oldest
-- first.
pub record Account (T U : Type 0) : Type 0 where
  pub sent : List (Message T U)
  pub taken : List (Message T U)

-- The account of the connection at this index to this subscriber, after one more call. Before the connection is made nothing
-- was taken from it.
abbrev pub account_on : {T U : Type 0} → ℕ → ℕ → ℕ → PortCall T U → ServicePorts T U → Account T U → Account T U
account_on publisher index subscriber call old account = record {
  sent = account.sent ++ sent_by publisher call old;
  taken = if leads_in publisher index subscriber old then account.taken ++ taken_by publisher index call old else [];
}

-- The account after these calls, each of which is given with the ports after it.
abbrev pub account_after : {T U : Type 0} → ℕ → ℕ → ℕ → List (PortCall T U × ServicePorts T U) → ServicePorts T U → Account T U
    → Account T U
account_after publisher index subscriber [] old account = account
account_after publisher index subscriber ((call, next) ∷ calls) old account =
    account_after publisher index subscriber calls next (account_on publisher index subscriber call old account)

-- The calls happen one after the other; each is given with the ports after it.
abbrev pub Happen : {T U : Type 0} → (ℕ → ℕ → Type 0) → (DegradationInfo → DegradationAction → Type 0)
    → (BackpressureInfo → BackpressureDecision → Type 0) → List (PortCall T U × ServicePorts T U) → ServicePorts T U → ServicePorts T U
    → Type 0
Happen overrides may decide [] old new = new ≡ old
Happen overrides may decide ((call, next) ∷ calls) old new = Happens overrides may decide call old next
    × Happen overrides may decide calls next new

-- The account in which nothing was sent and nothing was taken.
abbrev pub nothing_yet : {T U : Type 0} → Account T U
nothing_yet = record { sent = []; taken = [] }

-- After any calls on a new service: what was taken from a connection since it was made, followed by what waits in it, is a
-- subsequence of what its publisher sent. And a receive takes one message, whose slot its answer names.
pub record InOrder (T U : Type 0) (overrides : ℕ → ℕ → Type 0) (may : DegradationInfo → DegradationAction
    → Type 0) (decide : BackpressureInfo → BackpressureDecision → Type 0) : Type 0 where
  pub order : (service : ℕ) (sizes : ServiceSizes) (calls : List (PortCall T U
      × ServicePorts T U)) (new : ServicePorts T U) (publisher index subscriber : ℕ)
      → Happen overrides may decide calls (no_ports service sizes) new → leads_in publisher index subscriber new ≡ true
      → IsPartOf ((account_after publisher index subscriber calls (no_ports service sizes) nothing_yet).taken
      ++ (connection_in publisher index new.publishers).waiting)
      (account_after publisher index subscriber calls (no_ports service sizes) nothing_yet).sent
  pub names : (service : ℕ) (sizes : ServiceSizes) (calls : List (PortCall T U
      × ServicePorts T U)) (old new : ServicePorts T U) (subscriber : ℕ) (taken : Taken)
      → Happen overrides may decide calls (no_ports service sizes) old
      → Happens overrides may decide (Receives subscriber (Some (Ok (Some taken)))) old new
      → (message : Message T U) × (taken_by taken.publisher taken.index (Receives subscriber (Some (Ok (Some taken)))) old ≡ message
      ∷ []) × (taken.slot ≡ message.slot)

-- Theorems about the calls of a service's ports.
use Rattle.std.specs.Prelude.{ℕ, ◌≡◌, ◌≢◌, ◌<◌, ◌≤◌, ◌==◌, ◌&&◌, ◌⊎◌, Bool, true, false, List, length, get_or, is_some, Option, None}
use Rattle.std.specs.Prelude.{Some, Result, Ok, Err}
use Rattle.std.specs.List.{All}
use Rattle.iox_domain.specs.DomainValues.declared.backpressure.BackpressureDecision.{BackpressureDecision}
use Rattle.iox_domain.specs.DomainValues.declared.backpressure.BackpressureInfo.{BackpressureInfo}
use Rattle.iox_domain.specs.Container.declared.container.Member.{Member}
use Rattle.iox_domain.specs.DomainValues.declared.connection_failure.ConnectionFailure.{ConnectionFailure}
use Rattle.iox_domain.specs.DomainValues.declared.degradation.DegradationAction.{DegradationAction}
use Rattle.iox_domain.specs.DomainValues.declared.degradation.DegradationInfo.{DegradationInfo}
use Rattle.iox_domain.specs.DomainValues.declared.port_error.SendError.{SendError}
use Rattle.iox_domain.specs.DomainValues.declared.port_error.SendError.TheVariants as sending
use Rattle.iox_domain.specs.DomainValues.declared.service_sizes.ServiceSizes.{ServiceSizes}
use Rattle.iox_domain.specs.DomainSlots.Uses.{nobody, offered}
use Rattle.iox_domain.specs.DomainSlots.declared.stage.Stage.TheVariants as stage
use Rattle.iox_domain.specs.DomainPorts.Messages.{Message}
use Rattle.iox_domain.specs.DomainPorts.Places.{is_attached, leads_to}
use Rattle.iox_domain.specs.DomainPorts.Ports.{connection_of, connection_to, is_live}
use Rattle.iox_domain.specs.DomainPorts.Sending.{Finishes}
use Rattle.iox_domain.specs.DomainPorts.PublisherUpdating.{is_tie_to, Updates}
use Rattle.iox_domain.specs.DomainPorts.declared.meeting.Sent.{Sent}
use Rattle.iox_domain.specs.DomainPorts.declared.publisher_port.PublisherPort.{PublisherPort}
use Rattle.iox_domain.specs.DomainPorts.declared.subscriber_entry.SubscriberEntry.{SubscriberEntry}
use Rattle.iox_domain.specs.DomainPorts.Publishers.{port_of}
use Rattle.iox_domain.specs.DomainPorts.declared.attached.Taken.{Taken}
use Rattle.iox_domain.specs.Calls.{PortCall, Releases, Happens}
use Rattle.iox_domain.specs.Order.{Happen}
use Rattle.iox_domain.specs.Ports.{no_ports, AtSubscriber}
use Rattle.iox_domain.specs.PortsPublishing.{UpdatesOne, SendsOne}
use Rattle.iox_domain.specs.Reading.{sample_in}
use Rattle.iox_domain.specs.Rolls.{IsListOf}
use Rattle.iox_domain.specs.Subscribers.{subscriber_of}
use Rattle.iox_domain.specs.PortsSubscribing.{ReceivesOne}
use Rattle.iox_domain.specs.declared.ports.service_ports.ServicePorts.{ServicePorts}

-- A connection that doesn't exist holds nothing.
abbrev pub IsTidy : {T U : Type 0} → PublisherPort T U → Type 0
IsTidy port = (index : ℕ) → (connection_of index port).stage ≡ stage.Vacant → connection_of index port ≡ nobody

-- The publisher's number is below the next one, and the publisher is tidy.
abbrev pub IsSoundEntry : {T U : Type 0} → ℕ → ℕ × PublisherPort T U → Type 0
IsSoundEntry next (number, port) = (number < next) × IsTidy port

-- Each publisher of the service is a sound entry.
abbrev pub IsSound : {T U : Type 0} → ServicePorts T U → Type 0
IsSound ports = All (IsSoundEntry ports.next_port) ports.publishers

-- Whether the call releases this sample.
abbrev pub gives_back : {T U : Type 0} → Taken → PortCall T U → Bool
gives_back sample (Releases subscriber other answer) =
    (sample.publisher == other.publisher) && ((sample.index == other.index) && (sample.slot == other.slot))
gives_back sample call = false

-- A held sample reads the same after each call except the one that releases it, whichever port makes the call. This holds in a
-- sound service; a new service is sound, and each call preserves this.
pub record HeldStays (T U : Type 0) (overrides : ℕ → ℕ → Type 0) (may : DegradationInfo → DegradationAction
    → Type 0) (decide : BackpressureInfo → BackpressureDecision → Type 0) : Type 0 where
  pub begins : (service : ℕ) (sizes : ServiceSizes) (ports : ServicePorts T U) → ports ≡ no_ports service sizes → IsSound ports
  pub goes_on : (call : PortCall T U) (old new : ServicePorts T U) → Happens overrides may decide call old new → IsSound old → IsSound new
  pub held : (call : PortCall T U) (old new : ServicePorts T U) (sample : Taken) (message : Message T U)
      → Happens overrides may decide call old new → IsSound old
      → gives_back sample call ≡ false → sample_in sample old ≡ Some message → sample_in sample new ≡ Some message

-- What a subscriber receives is held afterwards, so that it can be read.
abbrev pub ReceivedIsHeld : (T U : Type 0) → (DegradationInfo → DegradationAction → Type 0) → Type 0
ReceivedIsHeld T U may =
    (number : ℕ) (old new : ServicePorts T U) (sample : Taken)
    → AtSubscriber number (ReceivesOne may old.publisher_list) (subscriber_of number old.subscribers) old (Some (Ok (Some sample))) new
    → (message : Message T U) × (sample_in sample new ≡ Some message)

-- No two places of the list of subscribers are tied to the same connection.
abbrev pub AreTiesApart : {T U : Type 0} → PublisherPort T U → Type 0
AreTiesApart port = (one other index : ℕ) → get_or port.ties.items one None ≡ Some index
    → get_or port.ties.items other None ≡ Some index → one ≡ other

-- No subscriber is listed twice, and the number of each is below the next one.
pub record IsListApart (next : ℕ) (places : List (Option (Member SubscriberEntry))) : Type 0 where
  pub apart : (one other : ℕ) (first second : Member SubscriberEntry) → get_or places one None ≡ Some first
      → get_or places other None ≡ Some second
      → first.value.subscriber ≡ second.value.subscriber → one ≡ other
  pub below : (place : ℕ) (member : Member SubscriberEntry) → get_or places place None ≡ Some member → member.value.subscriber < next

-- Whether the connection with this index is known: a subscriber reads it, or a place is tied to it.
abbrev pub IsKnown : {T U : Type 0} → ℕ → PublisherPort T U → Type 0
IsKnown index port = (is_attached (get_or port.readers index None) ≡ true)
    ⊎ ((place : ℕ) × (get_or port.ties.items place None ≡ Some index))

-- No two connections of a publisher lead to the same subscriber.
abbrev pub LeadApart : {T U : Type 0} → PublisherPort T U → Type 0
LeadApart port = (subscriber one other : ℕ) → leads_to subscriber (get_or port.readers one None) ≡ true
    → leads_to subscriber (get_or port.readers other None) ≡ true → one ≡ other

-- Each live connection of a publisher leads to a subscriber.
abbrev pub AllLead : {T U : Type 0} → PublisherPort T U → Type 0
AllLead port = (index : ℕ) → is_live index port ≡ true → is_some (get_or port.readers index None) ≡ true

-- The ties of a publisher are consistent: no two are to the same connection; each is to a live connection; each connection with a reader is
-- live; no place except its own is tied to the connection of a listed subscriber; each tie is to a subscriber with a number below the next
-- one; there is capacity for each place of the list; each live connection is known, and leads to a subscriber; and no two lead to the same
-- subscriber.
pub record IsTiedWell {T U : Type 0} (next : ℕ) (places : List (Option (Member SubscriberEntry))) (port : PublisherPort T U) : Type 0 where
  pub apart : AreTiesApart port
  pub live : (place index : ℕ) → get_or port.ties.items place None ≡ Some index → is_live index port ≡ true
  pub read : (subscriber index : ℕ) → leads_to subscriber (get_or port.readers index None) ≡ true → is_live index port ≡ true
  pub alone : (place other : ℕ) (member : Member SubscriberEntry) → get_or places place None ≡ Some member → other ≢ place
      → is_tie_to member.value.subscriber (get_or port.ties.items other None) port ≡ false
  pub below : (place subscriber : ℕ) → is_tie_to subscriber (get_or port.ties.items place None) port ≡ true → subscriber < next
  pub room : length places ≤ port.ties.room
  pub known : (index : ℕ) → is_live index port ≡ true → IsKnown index port
  pub sole : LeadApart port
  pub all : AllLead port

-- An open publisher has consistent ties.
abbrev pub IsWellEntry : {T U : Type 0} → ℕ → List (Option (Member SubscriberEntry)) → ℕ × PublisherPort T U → Type 0
IsWellEntry next places (number, port) = port.stands ≡ true → IsTiedWell next places port

-- No subscriber is listed twice, and the ties of each open publisher are consistent.
pub record IsApart {T U : Type 0} (ports : ServicePorts T U) : Type 0 where
  pub places : length ports.subscriber_list.places ≡ ports.sizes.max_subscribers
  pub list : IsListApart ports.next_port ports.subscriber_list.places
  pub well : All (IsWellEntry ports.next_port ports.subscriber_list.places) ports.publishers

-- The mailbox is unchanged, or it got the message that is being sent, once: at one of the places that the send visited in between.
abbrev pub GotAtMostOnce : {T U : Type 0} → ℕ → PublisherPort T U → PublisherPort T U → Type 0
GotAtMostOnce {T} {U} index old new =
    (connection_of index new ≡ connection_of index old)
    ⊎ ((place : ℕ) × (message : Message T U) × (old.progress.place ≤ place) × (place < new.progress.place)
    × (get_or old.ties.items place None ≡ Some index)
    × (old.sender.uses.sending ≡ Some message)
    × (connection_of index new ≡ offered old.sender.uses.overflows message (connection_of index old)))

-- The list of subscribers and the ties of open publishers are consistent in a new service, and each call preserves this. During a
-- send, after its update, no two ties are to the same connection either. So a send, or one more try of it, comes to each mailbox at
-- most once.
pub record AtMostOnce (T U : Type 0) (overrides : ℕ → ℕ → Type 0) (may : DegradationInfo → DegradationAction
    → Type 0) (decide : BackpressureInfo → BackpressureDecision → Type 0) : Type 0 where
  pub begins : (service : ℕ) (sizes : ServiceSizes) (ports : ServicePorts T U) → ports ≡ no_ports service sizes → IsApart ports
  pub goes_on : (call : PortCall T U) (old new : ServicePorts T U) → Happens overrides may decide call old new → IsApart old → IsApart new
  pub apart : (ports : ServicePorts T U) (number : ℕ) (port : PublisherPort T U) → IsApart ports
      → port_of number ports.publishers ≡ Some port → port.stands ≡ true → AreTiesApart port
  pub update : (ports : ServicePorts T U) (number : ℕ) (port updated : PublisherPort T U)
      (listed : List (Option (Member SubscriberEntry))) (outcome : Result (Unit {0}) ConnectionFailure)
      → IsApart ports → port_of number ports.publishers ≡ Some port → port.stands ≡ true → IsListOf listed ports.subscriber_list
      → Updates may listed ports.subscriber_list.changes port outcome updated → AreTiesApart updated
  pub once : (old new : PublisherPort T U) (answer : Result Sent SendError) (index : ℕ) → AreTiesApart old
      → Finishes decide old answer new → GotAtMostOnce index old new

-- After any calls from a new service on, each live connection of an open publisher is known: a subscriber reads it, or a place of the list
-- of subscribers is tied to it. It leads to a subscriber, and no two connections lead to the same one.
pub record ConnectionsAreKnown (T U : Type 0) (overrides : ℕ → ℕ → Type 0) (may : DegradationInfo → DegradationAction
    → Type 0) (decide : BackpressureInfo → BackpressureDecision → Type 0) : Type 0 where
  pub known : (service : ℕ) (sizes : ServiceSizes) (calls : List (PortCall T U × ServicePorts T U)) (new : ServicePorts T U)
      (publisher index : ℕ) (port : PublisherPort T U) → Happen overrides may decide calls (no_ports service sizes) new
      → port_of publisher new.publishers ≡ Some port → port.stands ≡ true → is_live index port ≡ true → IsKnown index port
  pub apart : (service : ℕ) (sizes : ServiceSizes) (calls : List (PortCall T U × ServicePorts T U)) (new : ServicePorts T U)
      (publisher : ℕ) (port : PublisherPort T U) → Happen overrides may decide calls (no_ports service sizes) new
      → port_of publisher new.publishers ≡ Some port → port.stands ≡ true → LeadApart port × AllLead port

-- The publisher has a connection to each listed subscriber.
abbrev pub ConnectsAll : {T U : Type 0} → ServicePorts T U → PublisherPort T U → Type 0
ConnectsAll ports port =
    (place : ℕ) (member : Member SubscriberEntry) → get_or ports.subscriber_list.places place None ≡ Some member
    → is_some (connection_to member.value.subscriber port) ≡ true

-- A publisher that has a connection to each listed subscriber follows the list without allocating: its update never fails, and
-- its send never fails with `ConnectionError`, whatever its handlers answer.
pub record NeedsNoMemory (T U : Type 0) (may : DegradationInfo → DegradationAction → Type 0) (decide : BackpressureInfo
    → BackpressureDecision → Type 0) : Type 0 where
  pub update : (ports : ServicePorts T U) (number : ℕ) (port after : PublisherPort T U) (outcome : Result (Unit {0}) ConnectionFailure)
      → IsApart ports → port_of number ports.publishers ≡ Some port
      → ConnectsAll ports port → UpdatesOne may ports.subscriber_list port (Some outcome) after → outcome ≡ Ok tt
  pub send : (ports : ServicePorts T U) (number slot : ℕ) (port after : PublisherPort T U) (outcome : Result Sent SendError)
      (failure : ConnectionFailure) → IsApart ports
      → port_of number ports.publishers ≡ Some port → ConnectsAll ports port
      → SendsOne may decide ports.subscriber_list slot port (Some outcome) after
      → outcome ≢ Err (sending.ConnectionError failure)

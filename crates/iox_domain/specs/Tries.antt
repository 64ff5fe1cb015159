-- A send with all of its tries: which connections took its message, and how many of them are counted.
use Rattle.std.specs.Prelude.{ℕ, ◌+◌, ◌<◌, ◌≤◌, ◌≡◌, ◌==◌, ◌++◌, ◌∷◌, [], true, false, Bool, is_some, List, length, get_or, None, Some}
use Rattle.std.specs.Prelude.{Result, Ok, if◌then◌else◌}
use Rattle.iox_domain.specs.DomainValues.declared.backpressure.BackpressureDecision.{BackpressureDecision}
use Rattle.iox_domain.specs.DomainValues.declared.backpressure.BackpressureInfo.{BackpressureInfo}
use Rattle.iox_domain.specs.DomainValues.declared.degradation.DegradationAction.{DegradationAction}
use Rattle.iox_domain.specs.DomainValues.declared.degradation.DegradationInfo.{DegradationInfo}
use Rattle.iox_domain.specs.DomainValues.declared.port_error.SendError.{SendError}
use Rattle.iox_domain.specs.DomainSlots.Uses.{accepts, offered}
use Rattle.iox_domain.specs.DomainPorts.Messages.{Message, Loan}
use Rattle.iox_domain.specs.DomainPorts.Ports.{connection_of, is_live}
use Rattle.iox_domain.specs.DomainPorts.Sending.{begun_by, Finishes}
use Rattle.iox_domain.specs.DomainPorts.declared.meeting.Sent.{Sent}
use Rattle.iox_domain.specs.DomainPorts.declared.meeting.Sent.TheVariants as sent
use Rattle.iox_domain.specs.DomainPorts.declared.publisher_port.PublisherPort.{PublisherPort}
use Rattle.iox_domain.specs.PortsPublishing.{GivesUpOne}
use Rattle.iox_domain.specs.DomainPorts.Publishers.{port_of}
use Rattle.iox_domain.specs.Calls.{PortCall, Retries, GivesSendUp, Happens}
use Rattle.iox_domain.specs.PortLawsLaws.{IsSound, AreTiesApart}
use Rattle.iox_domain.specs.declared.ports.service_ports.ServicePorts.{ServicePorts}

-- How often the index occurs in the list.
abbrev pub how_often : ℕ → List ℕ → ℕ
how_often index [] = 0
how_often index (one ∷ rest) = (if index == one then 1 else 0) + how_often index rest

-- The connection at this index took the message that is being sent, at a place that the send visited: the connection was live, it had
-- capacity for the message or dropped its oldest, and the message is now the newest that waits in it.
pub record Took {T U : Type 0} (index : ℕ) (old new : PublisherPort T U) : Type 0 where
  pub place : ℕ
  pub message : Message T U
  pub from : old.progress.place ≤ place
  pub to : place < new.progress.place
  pub tie : get_or old.ties.items place None ≡ Some index
  pub sending : old.sender.uses.sending ≡ Some message
  pub live : is_live index old ≡ true
  pub accepted : accepts old.sender.uses.overflows (connection_of index old) ≡ true
  pub got : connection_of index new ≡ offered old.sender.uses.overflows message (connection_of index old)

-- One try of a send: exactly these connections took the message, each once, and no other one changed. Of the places that the
-- try visited, each whose connection is live and accepts the message is among them. Exactly these connections are counted.
pub record TryComesTo {T U : Type 0} (takers : List ℕ) (old new : PublisherPort T U) : Type 0 where
  pub once : (index : ℕ) → how_often index takers ≤ 1
  pub took : (index : ℕ) → 0 < how_often index takers → Took index old new
  pub others : (index : ℕ) → how_often index takers ≡ 0 → connection_of index new ≡ connection_of index old
  pub all : (place index : ℕ) → old.progress.place ≤ place → place < new.progress.place → get_or old.ties.items place None ≡ Some index
      → is_live index old ≡ true → is_some old.sender.uses.sending ≡ true
      → accepts old.sender.uses.overflows (connection_of index old) ≡ true → 0 < how_often index takers
  pub counted : new.progress.delivered ≡ old.progress.delivered + length takers

-- The send is where it was: its progress and the number of connections that took the message, the message, and the connection
-- to which each place of the list is tied.
pub record IsSameSend {T U : Type 0} (old new : PublisherPort T U) : Type 0 where
  pub place : new.progress.place ≡ old.progress.place
  pub delivered : new.progress.delivered ≡ old.progress.delivered
  pub sending : new.sender.uses.sending ≡ old.sender.uses.sending
  pub ties : new.ties ≡ old.ties

-- One try of a send: the publisher before it, its answer, and the publisher after it.
pub record Try (T U : Type 0) : Type 0 where
  pub before : PublisherPort T U
  pub answer : Result Sent SendError
  pub after : PublisherPort T U

-- The tries of a send, one after the other: each continues where the one before stopped, whatever its connections got and gave
-- in between.
abbrev pub AreTries : {T U : Type 0} → (BackpressureInfo → BackpressureDecision → Type 0) → PublisherPort T U → List (Try T U)
    → PublisherPort T U → Type 0
AreTries decide first [] last = IsSameSend first last
AreTries decide first (one ∷ rest) last = IsSameSend first one.before × Finishes decide one.before one.answer one.after
    × AreTries decide one.after rest last

-- In each try exactly the connections took the message that are listed for it.
abbrev pub TriesComeTo : {T U : Type 0} → List (List ℕ) → List (Try T U) → Type 0
TriesComeTo [] [] = Unit {0}
TriesComeTo [] (one ∷ rest) = ⊥
TriesComeTo (takers ∷ more) [] = ⊥
TriesComeTo (takers ∷ more) (one ∷ rest) = TryComesTo takers one.before one.after × TriesComeTo more rest

-- All connections that are listed, one list after the other.
abbrev pub all_takers : List (List ℕ) → List ℕ
all_takers [] = []
all_takers (takers ∷ more) = takers ++ all_takers more

-- A send with all of its tries: each connection takes the message at most once in all of them, and as many took it as are
-- counted. A send begins at the first place with a count of 0. That count is what the send answers in the end, and what giving
-- it up answers.
pub record SendReachesOnce (T U : Type 0) (decide : BackpressureInfo → BackpressureDecision → Type 0) : Type 0 where
  pub begins : (at : ℕ) (loan : Loan T U) (port : PublisherPort T U) → ((begun_by at (Some loan) port).progress.place ≡ 0)
      × ((begun_by at (Some loan) port).progress.delivered ≡ 0)
  pub reaches : (first last : PublisherPort T U) (tries : List (Try T U)) → AreTiesApart first → AreTries decide first tries last
      → (takers : List (List ℕ)) × TriesComeTo takers tries × ((index : ℕ) → how_often index (all_takers takers) ≤ 1)
      × (last.progress.delivered ≡ first.progress.delivered + length (all_takers takers))
  pub answers : (count : ℕ) (old new : PublisherPort T U) → Finishes decide old (Ok (sent.Delivered count)) new
      → count ≡ new.progress.delivered
  pub gives_up : (count : ℕ) (port after : PublisherPort T U) → GivesUpOne port (Some count) after → count ≡ port.progress.delivered

-- Whether the call continues the blocked send of this publisher, or gives it up.
abbrev pub goes_on_with : {T U : Type 0} → ℕ → PortCall T U → Bool
goes_on_with publisher (Retries number elapsed answer) = publisher == number
goes_on_with publisher (GivesSendUp number answer) = publisher == number
goes_on_with publisher call = false

-- After each call, except those that continue it or give it up, a blocked send is where it was, whichever port makes the call.
pub record SendWaits (T U : Type 0) (overrides : ℕ → ℕ → Type 0) (may : DegradationInfo → DegradationAction
    → Type 0) (decide : BackpressureInfo → BackpressureDecision → Type 0) : Type 0 where
  pub waits : (call : PortCall T U) (old new : ServicePorts T U) (publisher : ℕ) (port : PublisherPort T U)
      → Happens overrides may decide call old new → IsSound old → port_of publisher old.publishers ≡ Some port
      → is_some port.sender.uses.sending ≡ true → goes_on_with publisher call ≡ false → (after : PublisherPort T U)
      × (port_of publisher new.publishers ≡ Some after) × IsSameSend port after

-- Names for parts of definitions: what mailboxes and lists of ports become, and what is said once of an update, a factory and a refusal.
use Rattle.std.specs.Prelude.{ℕ, ◌+◌, ◌-◌, ◌^◌, ◌<◌, ◌≡◌, ◌⊎◌, Bool, true, false, not, ◌&&◌, ◌==◌, nat_le, nat_lt, List, [], ◌∷◌, ◌++◌}
use Rattle.std.specs.Prelude.{length, take, drop, map, filter}
use Rattle.std.specs.Prelude.{filter_map, set, Option, None, Some, is_some, option_map, Result, MatchBool, if◌then◌else◌}
use Rattle.std.specs.Result.{result_map_both}
use Rattle.std.specs.Option.{option_map_or}
use Rattle.iox_machine.specs.Agreement.{Agreement}
use Rattle.iox_machine.specs.Lending.{IsRoomFor}
use Rattle.iox_machine.specs.Mailbox.{Mailbox}
use Rattle.iox_machine.specs.Negotiation.{Answer, Call, Access, Rounds, OpenLooks, EitherLooks}
use Rattle.iox_machine.specs.Phase.{Node, Own, Phase, left_by, removed_by}
use Rattle.iox_machine.specs.Ports.{AtPublisher}
use Rattle.iox_machine.specs.PortList.{PortList, those, unless}
use Rattle.iox_machine.specs.Replies.{OnlyAnswers}
use Rattle.iox_machine.specs.Service.{Publisher, Send, Service, Subscriber, mailbox}
use Rattle.iox_machine.specs.State.{State, Factory}
use Rattle.iox_machine.specs.Table.{changed, contains}
use Rattle.iox_command.specs.DomainValues.declared.data_segment.AllocationStrategy.{AllocationStrategy}
use Rattle.iox_command.specs.DomainValues.declared.data_segment.AllocationStrategy.TheVariants.{BestFit, PowerOfTwo, Static}
use Rattle.iox_command.specs.DomainValues.declared.port_error.LoanError.{LoanError}
use Rattle.iox_command.specs.DomainValues.declared.port_error.LoanError.TheVariants.{OutOfMemory}
use Rattle.iox_command.specs.NegotiateBase.DescribeBase.declared.message_type.MessageTypeDetails.{MessageTypeDetails}
use Rattle.iox_command.specs.NegotiateBase.DescribeBase.declared.pattern.MessagingPattern.{MessagingPattern}
use Rattle.iox_command.specs.NegotiateBase.declared.failure.CreateFailure.TheVariants as uncreated
use Rattle.iox_command.specs.NegotiateBase.declared.failure.OpenFailure.{OpenFailure}
use Rattle.iox_command.specs.NegotiateBase.declared.failure.OpenFailure.TheVariants as unopened
use Rattle.iox_command.specs.NegotiateBase.declared.failure.OpenOrCreateFailure.{OpenOrCreateFailure}
use Rattle.iox_command.specs.NegotiateBase.declared.failure.OpenOrCreateFailure.TheVariants as neither
use Rattle.iox_command.specs.Patterns.{pattern_of}
use Rattle.iox_command.specs.declared.refusal.Refusal.{Refusal}
use Rattle.iox_command.specs.declared.reply.Reply.{Reply}
use Rattle.iox_command.specs.declared.reply.Reply.TheVariants as reply
use Rattle.iox_command.specs.declared.service.ServiceOptions.{ServiceOptions}
use Rattle.iox_command.specs.declared.step.StepBefore.{StepBefore}

-- A command is skipped: nothing changes.
abbrev pub IsSkipped : {T S : Type 0} → S → Reply T → S → Type 0
IsSkipped = OnlyAnswers reply.Skipped

-- A command is refused, and nothing changes.
abbrev pub IsRefused : {T S : Type 0} → Refusal → S → Reply T → S → Type 0
IsRefused why = OnlyAnswers (reply.Refused why)

-- the publisher of a number is another
abbrev pub with_publisher : {T : Type 0} → ℕ → Publisher T → Service T → Service T
with_publisher number publisher service = record service { publishers = changed number publisher service.publishers }

-- the subscriber of a number is another
abbrev pub with_subscriber : {T : Type 0} → ℕ → Subscriber → Service T → Service T
with_subscriber number subscriber service = record service { subscribers = changed number subscriber service.subscribers }

-- the oldest message that waits is borrowed
abbrev pub taken : {T : Type 0} → Mailbox T → Mailbox T
taken box = record box { waiting = drop 1 box.waiting; borrowed = box.borrowed ++ take 1 box.waiting }

-- a borrowed message is given back
abbrev pub given_back : {T : Type 0} → ℕ → Mailbox T → Mailbox T
given_back number box = record box { borrowed = filter (λ message. not (message.number == number)) box.borrowed }

-- a phase after a node of the hub left with one factory: a service that this empties is removed at once
abbrev pub closed_by : ℕ → Phase → Phase
closed_by node phase = removed_by (Own node) (left_by (Own node) phase)

-- a port registers at a place
abbrev pub registered : ℕ → ℕ → PortList → PortList
registered place port list = record { places = set list.places place (Some port); changes = list.changes + 1 }

-- a port leaves its place
abbrev pub left : ℕ → PortList → PortList
left port list = record { places = map (unless (port ∷ [])) list.places; changes = list.changes + 1 }

-- of who is connected at a place and who is listed there, the first, if it isn't listed there any longer
abbrev pub gone_from : Option ℕ × Option ℕ → Option ℕ
gone_from place = unless (those (place.1 ∷ [])) place.0

-- the publishers that left, in the order in which their connections part
abbrev pub parting : List (Option ℕ × Option ℕ) → List ℕ
parting places = filter_map gone_from (filter (λ place. is_some place.1) places ++ filter (λ place. not (is_some place.1)) places)

-- who is connected at a place after an update
abbrev pub now_at : List ℕ → List ℕ → Option ℕ × Option ℕ → Option ℕ
now_at staying refused place = if option_map_or (contains staying) place.0 false then place.0 else unless refused place.1

-- the factory that a node gets of the service of a name
abbrev pub factory_of : ℕ → List ℕ → ServiceOptions → Factory
factory_of node name options = record { pattern = pattern_of options; name = name; node = node }

-- what a node asks for is refused, and nothing changes; a command of a node that wasn't made is skipped
abbrev pub RefusesNode : {T : Type 0} → ℕ → Refusal → State T → Reply T → State T → Type 0
RefusesNode node why old answer new =
    MatchBool (nat_le 1 node && nat_le node old.made.nodes) (IsRefused why old answer new) (IsSkipped old answer new)

-- whether some message waits
abbrev pub has_data : {T : Type 0} → Mailbox T → Bool
has_data box = nat_lt 0 (length box.waiting)

-- whether no loan may be longer than the first segment allows
abbrev pub is_static : AllocationStrategy → Bool
is_static allocation = elim allocation [ Static ↦ true | BestFit ↦ false | PowerOfTwo ↦ false ]

-- A loan that is longer than the current segment allows opens a new one; or no memory is found.
abbrev pub LendsLonger : {T : Type 0} → ℕ → ℕ → Publisher T → Option LoanError → Publisher T → Type 0
LendsLonger number values publisher refusal after =
    ((refusal ≡ Some OutOfMemory) × (after ≡ publisher))
    ⊎ ((room : ℕ) × (IsRoomFor publisher.allocation values room × (room < 2 ^ 32)) × (nat_lt publisher.segments 255 ≡ true)
    × (refusal ≡ None)
    × (after ≡ record publisher { room = room; segments = publisher.segments + 1; first = publisher.next; next = publisher.next + 1 }))

-- whether no sequence number is left after the last one, which is 2^64 - 1
abbrev pub is_used_up : Option ℕ → Bool
is_used_up last = option_map_or (λ number. number == 2 ^ 64 - 1) last false

-- whether nothing is borrowed of the connection of a publisher
abbrev pub is_unborrowed : {T : Type 0} → ℕ → ℕ → Service T → ℕ → Bool
is_unborrowed buffer number service publisher = length (mailbox publisher number service).borrowed == 0

-- What a command does that names a publisher of which no send is blocked; it is skipped where there is none.
abbrev pub AtFree : {T : Type 0} → ℕ → (Publisher T → Service T → Reply T → Service T → Type 0) → State T → Reply T → State T → Type 0
AtFree number Does = AtPublisher number Does (λ publisher send. OnlyAnswers reply.Skipped)

-- What a command does that names a publisher of which one is; it is skipped where there is none.
abbrev pub AtBlocked : {T : Type 0} → ℕ → (Publisher T → Send T → Service T → Reply T → Service T → Type 0) → State T → Reply T → State T
    → Type 0
AtBlocked number Does = AtPublisher number (λ publisher. OnlyAnswers reply.Skipped) Does

-- what an opening comes to for who opens or creates
abbrev pub opened : {V : Type 0} → Answer (OpenFailure V) → Answer (OpenOrCreateFailure V)
opened found = option_map (result_map_both (λ is_new. is_new) neither.Open) found

-- what is told for want of memory, once a service was created, or opened
abbrev pub either_lacking : {V : Type 0} → Bool → OpenOrCreateFailure V
either_lacking is_new = if is_new then neither.Create uncreated.OutOfMemory else neither.Open unopened.OutOfMemory

module _ (types : MessageTypeDetails) (pattern : MessagingPattern) (steps : List StepBefore) (node : Node) {V : Type 0}
    (verdict : Agreement → Result (Unit {0}) V) where
  -- a service is opened: in at most five rounds
  abbrev pub Opens : Call → Answer (OpenFailure V) → Call → Type 0
  Opens = Rounds (Access types pattern steps node unopened.OutOfMemory (OpenLooks types pattern steps node verdict))
      unopened.ServiceInCorruptedState 5

  -- a service is opened, or created: in at most five rounds
  abbrev pub OpensOrCreates : Agreement → Call → Answer (OpenOrCreateFailure V) → Call → Type 0
  OpensOrCreates agreed =
      Rounds (Access types pattern steps node (neither.Open unopened.OutOfMemory) (EitherLooks types pattern steps node verdict agreed))
      neither.SystemInFlux 5

-- A subscriber that may receive does, of a domain and of the machine; another is skipped.
use Rattle.std.proofs.Common.{◌≡◌, ◌≢◌, ◌<◌, ◌+◌, ◌-◌, ◌^◌, ◌&&◌, ℕ, Bool, true, false, cond, List, [], ◌∷◌, length, Option, None, Some}
use Rattle.std.proofs.Common.{Result, Ok, Err, refl, sym, ap, subst, inl, inr, ◌∙◌}
use Rattle.std.specs.List.{AllByRecursion}
use Rattle.std.specs.Prelude.{◌==◌, fold, is_some}
use Rattle.std.specs.Global.{Vec}
use Rattle.iox_command.specs.DomainValues.declared.connection_failure.ConnectionFailure.{ConnectionFailure}
use Rattle.iox_command.specs.DomainValues.declared.degradation.DegradationAction.{DegradationAction}
use Rattle.iox_command.specs.DomainValues.declared.degradation.DegradationInfo.{DegradationInfo}
use Rattle.iox_command.specs.DomainValues.declared.port_error.ReceiveError.{ReceiveError}
use Rattle.iox_command.specs.DomainValues.declared.port_error.ReceiveError.TheVariants.{ConnectionFailure as failed}
use Rattle.iox_command.specs.NegotiateBase.DescribeBase.declared.message_type.MessageTypeDetails.{MessageTypeDetails}
use Rattle.iox_command.specs.declared.command.Command.TheVariants as command
use Rattle.iox_command.specs.declared.refusal.Refusal.{Refusal}
use Rattle.iox_command.specs.declared.refusal.Refusal.TheVariants as refusal
use Rattle.iox_command.specs.declared.reply.Reply.TheVariants as reply
use Rattle.iox_domain.proofs.Numbered.{at_number, same_set}
use Rattle.iox_domain.specs.Container.declared.container.Member.{Member}
use Rattle.iox_domain.specs.DomainPorts.Messages.{Message}
use Rattle.iox_domain.specs.DomainPorts.SubscriberUpdating.{ReceivesAfter, ReceivesNext}
use Rattle.iox_domain.specs.DomainPorts.declared.attached.Taken.{Taken}
use Rattle.iox_domain.specs.DomainPorts.declared.publisher_entry.PublisherEntry.{PublisherEntry}
use Rattle.iox_domain.specs.DomainPorts.declared.publisher_port.PublisherPort.{PublisherPort}
use Rattle.iox_domain.specs.DomainPorts.declared.subscriber_port.SubscriberPort.{SubscriberPort}
use Rattle.iox_domain.specs.Ports.{AtSubscriber, with_both}
use Rattle.iox_domain.specs.PortsSubscribing.{ReceivesIf, ReceivesOne, counted_by}
use Rattle.iox_domain.specs.Reading.{sample_in}
use Rattle.iox_domain.specs.Rolls.{IsListOf}
use Rattle.iox_domain.specs.Roomy.{AreRoomy}
use Rattle.iox_domain.specs.Subscribers.{subscriber_of}
use Rattle.iox_domain.specs.declared.ports.service_ports.ServicePorts.{ServicePorts}
use Rattle.iox_domain_machine.specs.Laws.{Matches}
use Rattle.iox_domain_machine.specs.Naming.{Naming}
use Rattle.iox_domain_machine.specs.ReceiveLaws.{AreReceived, ReceiveMatches, received_or_not, with_held}
use Rattle.iox_domain_machine.specs.Standing.{StandsFor}
use Rattle.iox_domain_machine.specs.SubscriberUpdateLaws.{ActsAs}
use Rattle.iox_domain_machine.specs.Tables.{LentSlot, samples_held_by}
use Rattle.iox_domain_machine.proofs.Alone.{alone_does, alone_skips}
use Rattle.iox_domain_machine.proofs.Asking.{left_found, nobody_found, stands_found}
use Rattle.iox_domain_machine.proofs.FirstUpdating.{HasBegun, UpdatedFirst, updates_first, fails_so, does_then}
use Rattle.iox_domain_machine.proofs.Found.{never_some, same_some}
use Rattle.iox_domain_machine.proofs.Hearing.{hears}
use Rattle.iox_domain_machine.proofs.ReceiveSweeping.{set_again}
use Rattle.iox_domain_machine.proofs.Receiving.{WaitShort, receive_short, receive_stands}
use Rattle.iox_machine.specs.Choices.{Choices}
use Rattle.iox_machine.specs.Mailbox.{Mailbox}
use Rattle.iox_machine.specs.Message.{Message as Sent}
use Rattle.iox_machine.specs.PortList.{those}
use Rattle.iox_machine.specs.Ports.{subscriber_in}
use Rattle.iox_machine.specs.Receiving as machine
use Rattle.iox_machine.specs.Service.{Service, Subscriber, connect, with_mailbox}
use Rattle.iox_machine.specs.State.{State}
use Rattle.iox_machine.specs.SubscriberUpdate.{UpdatesFirst}
use Rattle.iox_machine.specs.Table.{at, changed}

never_took : {A : Type 0} (failure : ConnectionFailure) (taken : Taken)
    → ◌≡◌ {A = Result (Option Taken) ReceiveError} (Err (failed failure)) (Ok (Some taken)) → A
never_took failure taken is = absurd (differ is)
  where
    differ : ◌≡◌ {A = Result (Option Taken) ReceiveError} (Err (failed failure)) (Ok (Some taken)) → ⊥
    differ is = cc

-- ---- an update brings empty mailboxes alone

module _ {T : Type 0} (most limit number : ℕ) where
  short_connected : (publisher : ℕ) (service : Service T) → WaitShort most service → WaitShort most (connect limit publisher number service)
  short_connected publisher service short = here (is_some (service.mailboxes publisher number))
    where
      joined : (one other : ℕ) (box : Mailbox T) (b : Bool)
          → cond b (Some (record { limit = limit; waiting = []; borrowed = [] })) (service.mailboxes one other) ≡ Some box
          → AllByRecursion (λ (message : Sent T). length message.values < most) box.waiting
      joined one other box true is =
          subst (λ (it : Mailbox T). AllByRecursion (λ (message : Sent T). length message.values < most) it.waiting)
          (same_some (record { limit = limit; waiting = []; borrowed = [] }) box is) tt
      joined one other box false is = short one other box is

      here : (b : Bool) → WaitShort most (cond b service
          (with_mailbox publisher number (record { limit = limit; waiting = []; borrowed = [] }) service))
      here true = short
      here false = λ one other box is. joined one other box ((one == publisher) && (other == number)) is

  short_all : (publishers : List ℕ) (service : Service T) → WaitShort most service
      → WaitShort most (fold (λ (it : Service T) (publisher : ℕ). connect limit publisher number it) service publishers)
  short_all [] service short = short
  short_all (publisher ∷ publishers) service short =
      short_all publishers (connect limit publisher number service) (short_connected publisher service short)

module _ {T : Type 0} (choices : Choices T) (buffer name : ℕ) (was : Subscriber) (service : Service T) (most : ℕ)
    (short : WaitShort most service) where
  short_begun : (updated : Result (Unit {0}) ConnectionFailure) (later : Subscriber) (mid : Service T)
      → HasBegun choices buffer name was service updated later mid → WaitShort most mid
  short_begun updated later mid (inl begun) = subst (WaitShort most) (sym begun.2) short
  short_begun updated later mid (inr begun) =
      subst (WaitShort most) (sym begun.1.5)
      (short_all most was.buffer_size name (those begun.1.2)
      (record service { subscribers = changed name later service.subscribers }) short)

module _ {T U : Type 0} (choices : Choices T) (may : DegradationInfo → DegradationAction → Type 0) (types : MessageTypeDetails)
    (buffer : ℕ) (names : Naming) (lent : List (ℕ × LentSlot)) (held : List (ℕ × Taken)) (old new : ServicePorts T U) (service : Service T)
    (state : State T) (number : ℕ) (values : Vec T) (stands : StandsFor names lent held buffer old service) (roomy : AreRoomy old)
    (named : names.subscriber number ≢ 0)
    (acts : ActsAs choices may (names.subscriber number) service) (free : at (state.made.samples + 1) held ≡ None)
    (few : samples_held_by number held < 2 ^ 64 - 1) where
  abbrev sample : ℕ
  sample = state.made.samples + 1

  abbrev name : ℕ
  name = names.subscriber number

  -- why a failure refuses it
  abbrev told : ConnectionFailure → Refusal
  told failure = refusal.Receive (failed failure)

  abbrev Meant : Option (Result (Option Taken) ReceiveError) → ServicePorts T U → Type 0
  Meant answer new =
      (reader : ℕ → ℕ → ℕ) × Matches T U choices types buffer (command.Receive name) (received_or_not sample values answer) state service
      (record names { reader = reader }) lent (with_held sample answer held) new

  skips : subscriber_in name service ≡ None → new ≡ old → Meant None new
  skips none same = rw same (
    names.reader,
    (
      service,
      alone_skips (subscriber_in name) (UpdatesFirst choices buffer name told (machine.Receives name sample)) state service none,
      stands,
    ),
  )

  module _ (port : SubscriberPort) (there : subscriber_of number old.subscribers ≡ Some port) (standing : port.stands ≡ true)
      (between received : SubscriberPort) (between_ports publishers : List (ℕ × PublisherPort T U))
      (outcome : Result (Option Taken) ReceiveError) where
    abbrev was : Subscriber
    was = (stands.subscribers number port there).0

    abbrev midway : ServicePorts T U
    midway = with_both number between between_ports old

    abbrev later : ServicePorts T U
    later = with_both number (counted_by outcome received) publishers old

    found : subscriber_in name service ≡ Some was
    found = stands_found names lent held buffer old service number stands port there standing

    same_later : with_both number (counted_by outcome received) publishers midway ≡ later
    same_later =
        ap (λ (all : List (ℕ × SubscriberPort)). record old { subscribers = all; publishers = publishers })
        (set_again (at_number number) old.subscribers between (counted_by outcome received))

    -- it receive_stands once its connections are up to date, and is refused where one failed
    received_by : (updated : Result (Unit {0}) ConnectionFailure)
        → UpdatedFirst choices names lent held buffer old service number was updated between between_ports
        → ReceivesAfter updated between between_ports outcome received publishers → AreReceived values (Some outcome) later
        → Meant (Some outcome) later
    received_by (Ok tt) it does are =
        let later_names : Naming = record names { reader = it.reader } in
        let now = same_set (at_number number) old.subscribers between port there in
        let its = it.stands.subscribers number between now in
        let heard = hears later_names lent held buffer midway it.mid number between it.stands now it.roomy it.standing in
        let done = receive_stands later_names lent held buffer midway it.mid number between it.stands it.roomy now heard sample values free
        few outcome received publishers does
        (subst (λ (ports : ServicePorts T U). AreReceived values (Some outcome) ports) (sym same_later) are) in (
          it.reader,
          (
            done.0,
            alone_does (subscriber_in name) (UpdatesFirst choices buffer name told (machine.Receives name sample)) state service done.0
                (received_or_not sample values (Some outcome)) was found
                (does_then choices buffer name was service (Ok tt) it.later it.mid it.begun refl told (machine.Receives name sample)
                (received_or_not sample values (Some outcome)) done.0
                (subst (λ (one : Subscriber). machine.Receives name sample one it.mid (received_or_not sample values (Some outcome)) done.0)
                (same_some its.0 it.later (sym its.1 ∙ it.now)) done.1)),
            subst (λ (ports : ServicePorts T U). StandsFor later_names lent (with_held sample (Some outcome) held) buffer ports done.0)
                same_later done.2,
          ),
        )
    received_by (Err failure) it (is_told, is_between, are_between) are =
        rw is_told (rw is_between (rw are_between (
          it.reader,
          (
            it.mid,
            alone_does (subscriber_in name) (UpdatesFirst choices buffer name told (machine.Receives name sample)) state service it.mid
                (reply.Refused (told failure)) was found
                (fails_so choices buffer name was service (Err failure) it.later it.mid it.begun failure refl told
                (machine.Receives name sample)),
            it.stands,
          ),
        )))

  received_so : (port : SubscriberPort) (there : subscriber_of number old.subscribers ≡ Some port) → port.stands ≡ true
      → (listed : List (Option (Member PublisherEntry))) → IsListOf listed old.publisher_list → (received : SubscriberPort)
      (publishers : List (ℕ × PublisherPort T U)) (outcome : Result (Option Taken) ReceiveError)
      → ReceivesNext may listed old.publisher_list.changes port old.publishers outcome received publishers
      → new ≡ with_both number (counted_by outcome received) publishers old → AreReceived values (Some outcome) new
      → Meant (Some outcome) new
  received_so port there standing listed is_list received publishers outcome (updated, between, between_ports, updates, after_it) is are =
      rw is (received_by port there standing between received between_ports publishers outcome updated
      (updates_first choices names lent held buffer old service number types state may stands roomy acts port there standing listed
      is_list updated between between_ports updates) after_it
      (subst (λ (ports : ServicePorts T U). AreReceived values (Some outcome) ports) is are))

  at_port : (port : SubscriberPort) → subscriber_of number old.subscribers ≡ Some port → (standing : Bool) → port.stands ≡ standing
      → (answer : Option (Result (Option Taken) ReceiveError)) (after : SubscriberPort) (publishers : List (ℕ × PublisherPort T U))
      → ReceivesIf standing may old.publisher_list port old.publishers answer after publishers
      → (answer ≡ None → new ≡ old)
      → ((outcome : Result (Option Taken) ReceiveError) → answer ≡ Some outcome → new ≡ with_both number after publishers old)
      → AreReceived values answer new → Meant answer new
  at_port port there false left answer after publishers call none some are =
      rw call.0 (skips (left_found names lent held buffer old service number stands port there left) (none call.0))
  at_port port there true standing answer after publishers
      (listed, is_list, outcome, received, does, is_after, is_told) none some are =
      rw is_told (received_so port there standing listed is_list received publishers outcome does
      (some outcome is_told ∙ ap (λ (one : SubscriberPort). with_both number one publishers old) is_after)
      (subst (λ (answer : Option (Result (Option Taken) ReceiveError)). AreReceived values answer new) is_told are))

  at_subscriber : (port : SubscriberPort) → subscriber_of number old.subscribers ≡ Some port
      → (answer : Option (Result (Option Taken) ReceiveError))
      → AtSubscriber number (ReceivesOne may old.publisher_list) (Some port) old answer new → AreReceived values answer new
      → Meant answer new
  at_subscriber port there None (after, publishers, call, is) are =
      at_port port there port.stands refl None after publishers call (λ same. is) (λ outcome same. never_some outcome same) are
  at_subscriber port there (Some told) (after, publishers, call, is) are =
      at_port port there port.stands refl (Some told) after publishers call (λ same. never_some told (sym same)) (λ outcome same. is) are

  receives_by : (answer : Option (Result (Option Taken) ReceiveError)) → AreReceived values answer new → (found : Option SubscriberPort)
      → subscriber_of number old.subscribers ≡ found
      → AtSubscriber number (ReceivesOne may old.publisher_list) found old answer new → Meant answer new
  receives_by answer read None there call =
      rw call.0 (skips (nobody_found names lent held buffer old service number stands named there) call.1)
  receives_by answer read (Some port) there call = at_subscriber port there answer call read

  -- the sample that is received is as short as all that wait
  module _ (most : ℕ) (short : WaitShort most service) where
    abbrev IsShort : Option (Result (Option Taken) ReceiveError) → ServicePorts T U → Type 0
    IsShort answer ports = (taken : Taken) → answer ≡ Some (Ok (Some taken)) → (read : Message T U) → sample_in taken ports ≡ Some read
        → length read.values < most

    short_by : (port : SubscriberPort) (there : subscriber_of number old.subscribers ≡ Some port) (standing : port.stands ≡ true)
        (between received : SubscriberPort) (between_ports publishers : List (ℕ × PublisherPort T U))
        (outcome : Result (Option Taken) ReceiveError) (updated : Result (Unit {0}) ConnectionFailure)
        → UpdatedFirst choices names lent held buffer old service number (stands.subscribers number port there).0 updated between
        between_ports
        → ReceivesAfter updated between between_ports outcome received publishers
        → IsShort (Some outcome) (with_both number (counted_by outcome received) publishers old)
    short_by port there standing between received between_ports publishers outcome (Ok tt) it does taken answers read is =
        let later_names : Naming = record names { reader = it.reader } in
        let now = same_set (at_number number) old.subscribers between port there in
        let heard = hears later_names lent held buffer (with_both number between between_ports old) it.mid number between it.stands now
        it.roomy it.standing in
        let same : outcome ≡ Ok (Some taken) = same_some outcome (Ok (Some taken)) answers in
        receive_short later_names lent held buffer (with_both number between between_ports old) it.mid number between it.stands it.roomy
        now heard sample values free few most
        (short_begun choices buffer name (stands.subscribers number port there).0 service most short (Ok tt) it.later it.mid it.begun)
        taken received publishers
        (subst (λ (one : Result (Option Taken) ReceiveError). ReceivesAfter (Ok tt) between between_ports one received publishers) same
        does) read
        (ap (λ (ports : ServicePorts T U). sample_in taken ports) (same_again port there between received between_ports publishers taken)
        ∙ (ap (λ (one : Result (Option Taken) ReceiveError). sample_in taken (with_both number (counted_by one received) publishers old))
        (sym same) ∙ is))
      where
        same_again : (port : SubscriberPort) (there : subscriber_of number old.subscribers ≡ Some port) (between received : SubscriberPort)
            (between_ports publishers : List (ℕ × PublisherPort T U)) (taken : Taken)
            → with_both number (counted_by (Ok (Some taken)) received) publishers (with_both number between between_ports old)
            ≡ with_both number (counted_by (Ok (Some taken)) received) publishers old
        same_again port there between received between_ports publishers taken =
            ap (λ (all : List (ℕ × SubscriberPort)). record old { subscribers = all; publishers = publishers })
            (set_again (at_number number) old.subscribers between (counted_by (Ok (Some taken)) received))
    short_by port there standing between received between_ports publishers outcome (Err failure) it (is_told, is_between, are_between)
        taken answers read is =
        never_took failure taken (sym is_told ∙ same_some outcome (Ok (Some taken)) answers)

    short_so : (port : SubscriberPort) (there : subscriber_of number old.subscribers ≡ Some port) → port.stands ≡ true
        → (listed : List (Option (Member PublisherEntry))) → IsListOf listed old.publisher_list → (received : SubscriberPort)
        (publishers : List (ℕ × PublisherPort T U)) (outcome : Result (Option Taken) ReceiveError)
        → ReceivesNext may listed old.publisher_list.changes port old.publishers outcome received publishers
        → new ≡ with_both number (counted_by outcome received) publishers old → IsShort (Some outcome) new
    short_so port there standing listed is_list received publishers outcome (updated, between, between_ports, updates, after_it) is =
        subst (IsShort (Some outcome)) (sym is)
        (short_by port there standing between received between_ports publishers outcome updated
        (updates_first choices names lent held buffer old service number types state may stands roomy acts port there standing listed
        is_list updated between between_ports updates) after_it)

    short_at : (port : SubscriberPort) → subscriber_of number old.subscribers ≡ Some port → (standing : Bool) → port.stands ≡ standing
        → (answer : Option (Result (Option Taken) ReceiveError)) (after : SubscriberPort) (publishers : List (ℕ × PublisherPort T U))
        → ReceivesIf standing may old.publisher_list port old.publishers answer after publishers
        → ((outcome : Result (Option Taken) ReceiveError) → answer ≡ Some outcome → new ≡ with_both number after publishers old)
        → IsShort answer new
    short_at port there false left answer after publishers call some =
        λ taken answers read is. never_some (Ok (Some taken)) (sym call.0 ∙ answers)
    short_at port there true standing answer after publishers (listed, is_list, outcome, received, does, is_after, is_told) some =
        subst (λ (answer : Option (Result (Option Taken) ReceiveError)). IsShort answer new) (sym is_told)
        (short_so port there standing listed is_list received publishers outcome does
        (some outcome is_told ∙ ap (λ (one : SubscriberPort). with_both number one publishers old) is_after))

    pub received_short : (answer : Option (Result (Option Taken) ReceiveError)) → (found : Option SubscriberPort)
        → subscriber_of number old.subscribers ≡ found
        → AtSubscriber number (ReceivesOne may old.publisher_list) found old answer new → IsShort answer new
    received_short answer None there call = λ taken answers read is. never_some (Ok (Some taken)) (sym call.0 ∙ answers)
    received_short None (Some port) there call = λ taken answers read is. never_some (Ok (Some taken)) answers
    received_short (Some outcome) (Some port) there (after, publishers, call, is) =
        short_at port there port.stands refl (Some outcome) after publishers call (λ one same. is)

pub receive_matches : (T U : Type 0) (choices : Choices T) (may : DegradationInfo → DegradationAction → Type 0)
    → ReceiveMatches T U choices may
receive_matches T U choices may types buffer names lent held old new service state number answer values stands roomy named acts free
    few call read =
    receives_by choices may types buffer names lent held old new service state number values stands roomy named acts free few answer read
    (subscriber_of number old.subscribers) refl call

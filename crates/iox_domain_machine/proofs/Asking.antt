-- Whether a connection of a subscriber has data: the answers of a domain and of the machine.
use Rattle.std.proofs.Common.{◌≡◌, ◌≢◌, ℕ, Bool, true, false, List, Option, None, Some, Result, Ok, Err, refl, sym, ap, subst, ◌∙◌}
use Rattle.std.specs.Prelude.{is_some, option_and_then, if◌then◌else◌}
use Rattle.iox_command.specs.DomainValues.declared.connection_failure.ConnectionFailure.{ConnectionFailure}
use Rattle.iox_command.specs.DomainValues.declared.degradation.DegradationAction.{DegradationAction}
use Rattle.iox_command.specs.DomainValues.declared.degradation.DegradationInfo.{DegradationInfo}
use Rattle.iox_command.specs.NegotiateBase.DescribeBase.declared.message_type.MessageTypeDetails.{MessageTypeDetails}
use Rattle.iox_command.specs.declared.command.Command.TheVariants as command
use Rattle.iox_command.specs.declared.refusal.Refusal.TheVariants as refusal
use Rattle.iox_command.specs.declared.reply.Reply.{Reply}
use Rattle.iox_command.specs.declared.reply.Reply.TheVariants as reply
use Rattle.iox_domain.proofs.Numbered.{at_number, same_set}
use Rattle.iox_domain.specs.Container.declared.container.Member.{Member}
use Rattle.iox_domain.specs.DomainPorts.SubscriberUpdating.{HasSamplesAfter, HasSamples}
use Rattle.iox_domain.specs.DomainPorts.declared.attached.Taken.{Taken}
use Rattle.iox_domain.specs.DomainPorts.declared.publisher_entry.PublisherEntry.{PublisherEntry}
use Rattle.iox_domain.specs.DomainPorts.declared.publisher_port.PublisherPort.{PublisherPort}
use Rattle.iox_domain.specs.DomainPorts.declared.subscriber_port.SubscriberPort.{SubscriberPort}
use Rattle.iox_domain.specs.Ports.{AtSubscriber, with_both}
use Rattle.iox_domain.specs.PortsSubscribing.{HasSamplesIf, HasSamplesOne}
use Rattle.iox_domain.specs.Rolls.{IsListOf}
use Rattle.iox_domain.specs.Roomy.{AreRoomy}
use Rattle.iox_domain.specs.Subscribers.{subscriber_of}
use Rattle.iox_domain.specs.declared.ports.service_ports.ServicePorts.{ServicePorts}
use Rattle.iox_domain_machine.specs.Laws.{Matches}
use Rattle.iox_domain_machine.specs.Naming.{Naming}
use Rattle.iox_domain_machine.specs.ReceiveLaws.{told_or_skipped, HasMatches}
use Rattle.iox_domain_machine.specs.Standing.{StandsFor}
use Rattle.iox_domain_machine.specs.SubscriberUpdateLaws.{ActsAs}
use Rattle.iox_domain_machine.specs.Subscribers.{SubscriberStandsFor}
use Rattle.iox_domain_machine.specs.Tables.{LentSlot}
use Rattle.iox_domain_machine.proofs.Alone.{alone_does, alone_skips}
use Rattle.iox_domain_machine.proofs.FirstUpdating.{UpdatedFirst, updates_first, fails_so, does_then}
use Rattle.iox_domain_machine.proofs.Found.{same_some, never_some}
use Rattle.iox_domain_machine.proofs.GivingUp.{some_of}
use Rattle.iox_domain_machine.proofs.Hearing.{hears, asked}
use Rattle.iox_machine.specs.Choices.{Choices}
use Rattle.iox_machine.specs.Ports.{subscriber_in}
use Rattle.iox_machine.specs.Receiving.{has_samples}
use Rattle.iox_machine.specs.Service.{Service, Subscriber}
use Rattle.iox_machine.specs.State.{State}
use Rattle.iox_machine.specs.SubscriberUpdate.{UpdatesFirst}
use Rattle.iox_machine.specs.Table.{at}

-- whoever stands in the machine is found, and nobody else
pub found_standing : {T : Type 0} (name : ℕ) (service : Service T) (subscriber : Subscriber) → at name service.subscribers ≡ Some subscriber
    → subscriber.stands ≡ true → subscriber_in name service ≡ Some subscriber
found_standing name service subscriber there standing =
    ap (option_and_then (λ (one : Subscriber). if one.stands then Some one else None)) there
    ∙ ap (λ b. if b then Some subscriber else None) standing

pub found_left : {T : Type 0} (name : ℕ) (service : Service T) (subscriber : Subscriber) → at name service.subscribers ≡ Some subscriber
    → subscriber.stands ≡ false → subscriber_in name service ≡ None
found_left name service subscriber there left =
    ap (option_and_then (λ (one : Subscriber). if one.stands then Some one else None)) there
    ∙ ap (λ b. if b then Some subscriber else None) left

module _ {T U : Type 0} (names : Naming) (lent : List (ℕ × LentSlot)) (held : List (ℕ × Taken)) (buffer : ℕ) (ports : ServicePorts T U)
    (service : Service T) (number : ℕ) (stands : StandsFor names lent held buffer ports service) where
  -- nobody is found where the domain has no subscriber, or one that left
  pub nobody_found : names.subscriber number ≢ 0 → subscriber_of number ports.subscribers ≡ None
      → subscriber_in (names.subscriber number) service ≡ None
  nobody_found named none =
      let known = some_of (at (names.subscriber number) service.subscribers) (stands.named_subscribers.known number named) in
      found_left (names.subscriber number) service known.0 known.1 (stands.gone_subscribers number known.0 none known.1)

  pub left_found : (port : SubscriberPort) → subscriber_of number ports.subscribers ≡ Some port → port.stands ≡ false
      → subscriber_in (names.subscriber number) service ≡ None
  left_found port there left =
      let was = stands.subscribers number port there in
      found_left (names.subscriber number) service was.0 was.1 (was.2.stands ∙ left)

  -- and who stands there is
  pub stands_found : (port : SubscriberPort) (there : subscriber_of number ports.subscribers ≡ Some port) → port.stands ≡ true
      → subscriber_in (names.subscriber number) service ≡ Some (stands.subscribers number port there).0
  stands_found port there standing =
      let was = stands.subscribers number port there in
      found_standing (names.subscriber number) service was.0 was.1 (was.2.stands ∙ standing)

module _ {T U : Type 0} (choices : Choices T) (may : DegradationInfo → DegradationAction → Type 0) (types : MessageTypeDetails)
    (buffer : ℕ) (names : Naming) (lent : List (ℕ × LentSlot)) (held : List (ℕ × Taken)) (old : ServicePorts T U) (service : Service T)
    (state : State T) (number : ℕ) (stands : StandsFor names lent held buffer old service) (roomy : AreRoomy old)
    (named : names.subscriber number ≢ 0)
    (acts : ActsAs choices may (names.subscriber number) service) where
  abbrev name : ℕ
  name = names.subscriber number

  -- what the machine is to do once connections are up to date
  abbrev Tells : Subscriber → Service T → Reply T → Service T → Type 0
  Tells one before answered later = (answered ≡ reply.Has (has_samples name one before)) × (later ≡ before)

  abbrev Meant : Option (Result Bool ConnectionFailure) → ServicePorts T U → Type 0
  Meant answer new =
      (reader : ℕ → ℕ → ℕ) × Matches T U choices types buffer (command.Has name) (told_or_skipped answer) state service
      (record names { reader = reader }) lent held new

  skips : subscriber_in name service ≡ None → Meant None old
  skips none = (
    names.reader,
    (service, alone_skips (subscriber_in name) (UpdatesFirst choices buffer name refusal.Connection Tells) state service none, stands),
  )

  module _ (port : SubscriberPort) (there : subscriber_of number old.subscribers ≡ Some port) (standing : port.stands ≡ true)
      (after : SubscriberPort) (publishers : List (ℕ × PublisherPort T U)) (outcome : Result Bool ConnectionFailure) where
    abbrev was : Subscriber
    was = (stands.subscribers number port there).0

    abbrev between : ServicePorts T U
    between = with_both number after publishers old

    found : subscriber_in name service ≡ Some was
    found = stands_found names lent held buffer old service number stands port there standing

    -- it is told so once connections are up to date, and refused where one failed
    told_by : (updated : Result (Unit {0}) ConnectionFailure)
        → UpdatedFirst choices names lent held buffer old service number was updated after publishers
        → HasSamplesAfter updated after publishers outcome → Meant (Some outcome) between
    told_by (Ok tt) it (unread, first, is) =
        let later_names : Naming = record names { reader = it.reader } in
        let now = same_set (at_number number) old.subscribers after port there in
        let its = it.stands.subscribers number after now in
        let heard = hears later_names lent held buffer between it.mid number after it.stands now it.roomy it.standing in
        let tells = asked later_names lent held buffer between it.mid number after it.stands now heard it.later
        (subst (λ (one : Subscriber). SubscriberStandsFor names.publisher old.sizes.max_publishers old.sizes.expired_connections after one)
        (same_some its.0 it.later (sym its.1 ∙ it.now)) its.2) unread first in
        rw is (
          it.reader,
          (
            it.mid,
            alone_does (subscriber_in name) (UpdatesFirst choices buffer name refusal.Connection Tells) state service it.mid
                (reply.Has (is_some unread)) was found
                (does_then choices buffer name was service (Ok tt) it.later it.mid it.begun refl refusal.Connection Tells
                (reply.Has (is_some unread)) it.mid (ap reply.Has (sym tells), refl)),
            it.stands,
          ),
        )
    told_by (Err failure) it is = rw is (
      it.reader,
      (
        it.mid,
        alone_does (subscriber_in name) (UpdatesFirst choices buffer name refusal.Connection Tells) state service it.mid
            (reply.Refused (refusal.Connection failure)) was found
            (fails_so choices buffer name was service (Err failure) it.later it.mid it.begun failure refl refusal.Connection Tells),
        it.stands,
      ),
    )

    asked_so : (listed : List (Option (Member PublisherEntry))) → IsListOf listed old.publisher_list
        → HasSamples may listed old.publisher_list.changes port old.publishers outcome after publishers → Meant (Some outcome) between
    asked_so listed is_list (updated, updates, after_it) =
        told_by updated (updates_first choices names lent held buffer old service number types state may stands roomy acts port there
        standing listed is_list updated after publishers updates) after_it

  asks : (new : ServicePorts T U) (port : SubscriberPort) → subscriber_of number old.subscribers ≡ Some port → (standing : Bool)
      → port.stands ≡ standing → (answer : Option (Result Bool ConnectionFailure)) (after : SubscriberPort)
      (publishers : List (ℕ × PublisherPort T U))
      → HasSamplesIf standing may old.publisher_list port old.publishers answer after publishers
      → (answer ≡ None → new ≡ old)
      → ((outcome : Result Bool ConnectionFailure) → answer ≡ Some outcome → new ≡ with_both number after publishers old)
      → Meant answer new
  asks new port there false left answer after publishers call none some =
      rw call.0 (rw (none call.0) (skips (left_found names lent held buffer old service number stands port there left)))
  asks new port there true standing answer after publishers (listed, is_list, outcome, has, is_told) none some =
      rw is_told (rw (some outcome is_told) (asked_so port there standing after publishers outcome listed is_list has))

  at_subscriber : (new : ServicePorts T U) (port : SubscriberPort) → subscriber_of number old.subscribers ≡ Some port
      → (answer : Option (Result Bool ConnectionFailure))
      → AtSubscriber number (HasSamplesOne may old.publisher_list) (Some port) old answer new → Meant answer new
  at_subscriber new port there None (after, publishers, call, is) =
      asks new port there port.stands refl None after publishers call (λ same. is) (λ outcome same. never_some outcome same)
  at_subscriber new port there (Some told) (after, publishers, call, is) =
      asks new port there port.stands refl (Some told) after publishers call (λ same. never_some told (sym same)) (λ outcome same. is)

  asks_by : (new : ServicePorts T U) (answer : Option (Result Bool ConnectionFailure)) (found : Option SubscriberPort)
      → subscriber_of number old.subscribers ≡ found
      → AtSubscriber number (HasSamplesOne may old.publisher_list) found old answer new → Meant answer new
  asks_by new answer None there call =
      rw call.0 (rw call.1 (skips (nobody_found names lent held buffer old service number stands named there)))
  asks_by new answer (Some port) there call = at_subscriber new port there answer call

pub has_matches : (T U : Type 0) (choices : Choices T) (may : DegradationInfo → DegradationAction → Type 0)
    → HasMatches T U choices may
has_matches T U choices may types buffer names lent held old new service state number answer stands roomy named acts call =
    asks_by choices may types buffer names lent held old service state number stands roomy named acts new answer
    (subscriber_of number old.subscribers) refl call

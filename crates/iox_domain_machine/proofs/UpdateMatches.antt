-- The command that updates a subscriber, of a domain and of the machine.
use Rattle.std.proofs.Common.{◌≡◌, ◌≢◌, ◌≤◌, ◌&&◌, ◌==◌, ◌∷◌, [], ℕ, Bool, true, false, not, List, Option, None, Some, Result, Ok, Err}
use Rattle.std.proofs.Common.{refl, sym, ap, subst, ◌∙◌, arith}
use Rattle.std.specs.Map.{lookup, set_value}
use Rattle.std.specs.Prelude.{MatchResult, zip}
use Rattle.iox_command.specs.DomainValues.declared.connection_failure.ConnectionFailure.{ConnectionFailure}
use Rattle.iox_command.specs.DomainValues.declared.degradation.DegradationAction.{DegradationAction}
use Rattle.iox_command.specs.DomainValues.declared.degradation.DegradationInfo.{DegradationInfo}
use Rattle.iox_command.specs.NegotiateBase.DescribeBase.declared.message_type.MessageTypeDetails.{MessageTypeDetails}
use Rattle.iox_command.specs.declared.command.Command.TheVariants as command
use Rattle.iox_command.specs.declared.port.PortNumber.TheVariants as number_of
use Rattle.iox_command.specs.declared.refusal.Refusal.TheVariants as refusal
use Rattle.iox_command.specs.declared.reply.Reply.{Reply}
use Rattle.iox_command.specs.declared.reply.Reply.TheVariants as reply
use Rattle.iox_domain.proofs.Numbered.{at_number, found_of_all}
use Rattle.iox_domain.proofs.StayRoomy.{entry_found}
use Rattle.iox_domain.specs.Attaching.{IsKeyedEntry}
use Rattle.iox_domain.specs.Container.declared.container.Member.{Member}
use Rattle.iox_domain.specs.DomainPorts.SubscriberUpdating.{UpdatesIf}
use Rattle.iox_domain.specs.DomainPorts.declared.attached.Taken.{Taken}
use Rattle.iox_domain.specs.DomainPorts.declared.publisher_entry.PublisherEntry.{PublisherEntry}
use Rattle.iox_domain.specs.DomainPorts.declared.publisher_port.PublisherPort.{PublisherPort}
use Rattle.iox_domain.specs.DomainPorts.declared.subscriber_port.SubscriberPort.{SubscriberPort}
use Rattle.iox_domain.specs.Ports.{AtSubscriber, with_both}
use Rattle.iox_domain.specs.PortsSubscribing as subscribing
use Rattle.iox_domain.specs.PortsSubscribing.{UpdatesOne}
use Rattle.iox_domain.specs.Rolls.{IsListOf}
use Rattle.iox_domain.specs.Roomy.{AreRoomy, ReadsApart}
use Rattle.iox_domain.specs.Subscribers.{subscriber_of}
use Rattle.iox_domain.specs.declared.ports.service_ports.ServicePorts.{ServicePorts}
use Rattle.iox_domain_machine.specs.Laws.{Matches}
use Rattle.iox_domain_machine.specs.Naming.{Naming}
use Rattle.iox_domain_machine.specs.Standing.{StandsFor, SubscriberIs}
use Rattle.iox_domain_machine.specs.SubscriberUpdateLaws.{ActsAs, SubscriberUpdateMatches, updated_or_skipped}
use Rattle.iox_domain_machine.specs.Tables.{LentSlot}
use Rattle.iox_domain_machine.proofs.Alone.{alone_does, alone_skips}
use Rattle.iox_domain_machine.proofs.Found.{same_some, never_some}
use Rattle.iox_domain_machine.proofs.GivingUp.{some_of}
use Rattle.iox_domain_machine.proofs.UpdatingSubscriber.{IsReady, update_stands}
use Rattle.iox_machine.specs.Choices.{Choices}
use Rattle.iox_machine.specs.PortList.{PortList}
use Rattle.iox_machine.specs.Ports.{subscriber_in}
use Rattle.iox_machine.specs.PublisherUpdate.{UpdateAnswers}
use Rattle.iox_machine.proofs.Shorthands.{IsRefused}
use Rattle.iox_machine.specs.Service.{Service, Subscriber}
use Rattle.iox_machine.specs.State.{State}
use Rattle.iox_machine.specs.SubscriberUpdate.{UpdatesFirst}
use Rattle.iox_machine.specs.Table.{at}

-- who is at a number is set there again
set_same : {V : Type 0} (test : ℕ → Bool) (table : List (ℕ × V)) (v : V) → lookup test table ≡ Some v → set_value test table v ≡ table
set_same test [] v is = refl
set_same {V} test (entry ∷ table) v is = by (test entry.0) refl (set_same test table v)
  where
    by : (b : Bool) → test entry.0 ≡ b → (lookup test table ≡ Some v → set_value test table v ≡ table)
        → set_value test (entry ∷ table) v ≡ entry ∷ table
    by true here rest = rw here (ap (λ (one : V). (entry.0, one) ∷ table) (sym (same_some entry.1 v (rw here at is))))
    by false off rest = rw off (ap (λ more. entry ∷ more) (rest (rw off at is)))

module _ {T U : Type 0} (types : MessageTypeDetails) (choices : Choices T) (buffer : ℕ) (names : Naming) (lent : List (ℕ × LentSlot))
    (held : List (ℕ × Taken)) (old : ServicePorts T U) (service : Service T) (state : State T) (number : ℕ)
    (may : DegradationInfo → DegradationAction → Type 0) (stands : StandsFor names lent held buffer old service) (roomy : AreRoomy old)
    (acts : ActsAs choices may (names.subscriber number) service) where
  abbrev its : ℕ
  its = names.subscriber number

  abbrev Ends : Subscriber → Service T → Reply T → Service T → Type 0
  Ends one before answered later = (answered ≡ reply.Done) × (later ≡ before)

  abbrev Does : Subscriber → Service T → Reply T → Service T → Type 0
  Does = UpdatesFirst choices buffer its refusal.Connection Ends

  abbrev Result_of : Option (Result (Unit {0}) ConnectionFailure) → ServicePorts T U → Type 0
  Result_of answer new =
      (reader : ℕ → ℕ → ℕ) × Matches T U choices types buffer (command.Update (number_of.Subscriber its)) (updated_or_skipped answer)
      state
      service (record names { reader = reader }) lent held new

  isn't_there : (one : Subscriber) → at its service.subscribers ≡ Some one → one.stands ≡ false → subscriber_in its service ≡ None
  isn't_there one is gone = rw is (rw gone refl)

  is_there : (one : Subscriber) → at its service.subscribers ≡ Some one → one.stands ≡ true → subscriber_in its service ≡ Some one
  is_there one is standing = rw is (rw standing refl)

  -- nothing happens where the machine has no such subscriber that stands
  skips : (one : Subscriber) → at its service.subscribers ≡ Some one → one.stands ≡ false → Result_of None old
  skips one is gone =
      (names.reader, (service, alone_skips (subscriber_in its) Does state service (isn't_there one is gone), stands))

  there_none : names.subscriber number ≢ 0 → subscriber_of number old.subscribers ≡ None → Result_of None old
  there_none named none =
      let found = some_of (at its service.subscribers) (stands.named_subscribers.known number named) in
      skips found.0 found.1 (stands.gone_subscribers number found.0 none found.1)

  module _ (port : SubscriberPort) (there : subscriber_of number old.subscribers ≡ Some port) where
    abbrev found : SubscriberIs names old service number port
    found = stands.subscribers number port there

    abbrev was : Subscriber
    was = found.0

    module _ (standing : port.stands ≡ true) where
      was_stands : was.stands ≡ true
      was_stands = found.2.stands ∙ standing

      reads : ReadsApart old number port
      reads = entry_found number port old there roomy standing

      pub ready : IsReady number port old
      ready =
          let keyed = (found_of_all (IsKeyedEntry old.sizes.max_publishers) (at_number number) old.subscribers port roomy.keyed.keyed
          there).holds
          in
          record {
            fit = keyed.0;
            room = keyed.1;
            reads = record { named = reads.named; reads = reads.reads; apart = reads.apart; placed = reads.placed };
            sound = roomy.sound;
            sized = roomy.allowed;
            well = roomy.tied.well;
            list_once = roomy.list;
            places = roomy.keyed.list;
          }

      pub few : was.buffer_size ≤ old.sizes.subscriber_max_buffer_size
      few =
          let it = reads.listed in
          let sized = stands.sized port.place it.0 it.1 in
          let own = same_some sized.0 was (sym sized.1 ∙ ap (λ n. at (names.subscriber n) service.subscribers) it.2 ∙ found.1) in
          let same = ap (λ (one : Subscriber). one.buffer_size) own in
          let sized_so = sized.3 in
          let few_so = sized.4 in
          omega (arith, same, sized_so, few_so)

      pub to_update : ((was.seen == service.publisher_list.changes) && not was.again)
          ≡ ((port.seen == old.publisher_list.changes) && not port.again)
      to_update =
          ap (λ n. (n == service.publisher_list.changes) && not was.again) found.2.seen
          ∙ ap (λ (list : PortList). (port.seen == list.changes) && not was.again) stands.publisher_list
          ∙ ap (λ b. (port.seen == old.publisher_list.changes) && not b) found.2.again

      ends : (outcome : Result (Unit {0}) ConnectionFailure) (later : Subscriber) (mid : Service T)
          → UpdateAnswers (choices.subscriber_acts its was.degradation) (zip service.publisher_list.places later.connected) outcome
          → (told : Result (Unit {0}) ConnectionFailure)
          × UpdateAnswers (choices.subscriber_acts its was.degradation) (zip service.publisher_list.places later.connected) told
          × MatchResult told (λ done. Ends later mid (updated_or_skipped (Some outcome)) mid)
          (λ failure. IsRefused {T = T} (refusal.Connection failure) mid (updated_or_skipped (Some outcome)) mid)
      ends (Ok tt) later mid is = (Ok tt, is, (refl, refl))
      ends (Err failure) later mid is = (Err failure, is, (refl, refl))

      follows : (items : List (Option (Member PublisherEntry))) → IsListOf items old.publisher_list
          → (outcome : Result (Unit {0}) ConnectionFailure) (after : SubscriberPort) (ports_after : List (ℕ × PublisherPort T U))
          → (quiet : Bool) → ((port.seen == old.publisher_list.changes) && not port.again) ≡ quiet
          → UpdatesIf quiet may items old.publisher_list.changes port old.publishers outcome after ports_after
          → Result_of (Some outcome) (with_both number after ports_after old)
      follows items is_list outcome after ports_after true is (is_ok, is_after, is_ports) =
          subst (λ so. Result_of (Some so) (with_both number after ports_after old)) (sym is_ok)
          (subst (λ one. Result_of (Some (Ok tt)) (with_both number one ports_after old)) (sym is_after)
          (subst (λ all. Result_of (Some (Ok tt)) (with_both number port all old)) (sym is_ports) (
            names.reader,
            (
              service,
              alone_does (subscriber_in its) Does state service service reply.Done was (is_there was found.1 was_stands)
                  (rw (to_update ∙ is) (refl, refl)),
              subst (λ all. StandsFor names lent held buffer (record old { subscribers = all }) service)
                  (sym (set_same (at_number number) old.subscribers port there)) stands,
            ),
          )))
      follows items is_list outcome after ports_after false is parts =
          let it = update_stands names lent held buffer old service number port was stands there found.1 ready few was_stands may
          (choices.subscriber_acts its was.degradation) (acts was found.1 was_stands) items is_list outcome after ports_after parts in (
            it.reader,
            (
              it.mid,
              alone_does (subscriber_in its) Does state service it.mid (updated_or_skipped (Some outcome)) was
                  (is_there was found.1 was_stands)
                  (rw (to_update ∙ is) (it.later, it.mid, it.follows, ends outcome it.later it.mid it.answers)),
              it.stands_after,
            ),
          )

    none_so : (standing : Bool) → port.stands ≡ standing → (after : SubscriberPort) (ports_after : List (ℕ × PublisherPort T U))
        → subscribing.UpdatesIf standing may old.publisher_list port old.publishers None after ports_after → Result_of None old
    none_so false gone after ports_after call = skips was found.1 (found.2.stands ∙ gone)
    none_so true standing after ports_after (items, is_list, outcome, updates, is) = never_some outcome is

    some_so : (standing : Bool) → port.stands ≡ standing → (outcome : Result (Unit {0}) ConnectionFailure) (after : SubscriberPort)
        (ports_after : List (ℕ × PublisherPort T U))
        → subscribing.UpdatesIf standing may old.publisher_list port old.publishers (Some outcome) after ports_after
        → Result_of (Some outcome) (with_both number after ports_after old)
    some_so false gone outcome after ports_after call = never_some outcome (sym call.0)
    some_so true standing outcome after ports_after (items, is_list, found_so, updates, is) =
        follows standing items is_list outcome after ports_after _ refl
        (subst (λ so. UpdatesIf ((port.seen == old.publisher_list.changes) && not port.again) may items old.publisher_list.changes port
        old.publishers so after ports_after) (sym (same_some outcome found_so is)) updates)

  by_port : names.subscriber number ≢ 0 → (found : Option SubscriberPort) → subscriber_of number old.subscribers ≡ found
      → (answer : Option (Result (Unit {0}) ConnectionFailure)) (new : ServicePorts T U)
      → AtSubscriber number (UpdatesOne may old.publisher_list) found old answer new → Result_of answer new
  by_port named None none answer new call = rw call.0 (rw call.1 (there_none named none))
  by_port named (Some port) there None new (after, ports_after, call, is_new) =
      rw is_new (none_so port there port.stands refl after ports_after call)
  by_port named (Some port) there (Some outcome) new (after, ports_after, call, is_new) =
      rw is_new (some_so port there port.stands refl outcome after ports_after call)

pub subscriber_update_matches : (T U : Type 0) (choices : Choices T) (may : DegradationInfo → DegradationAction → Type 0)
    → SubscriberUpdateMatches T U choices may
subscriber_update_matches T U choices may types buffer names lent held old new service state number answer stands roomy named acts call =
    by_port types choices buffer names lent held old service state number may stands roomy acts named
    (subscriber_of number old.subscribers) refl answer new call

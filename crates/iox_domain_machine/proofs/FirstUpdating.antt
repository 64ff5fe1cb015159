-- A subscriber that does something first brings its connections up to date, of a domain and of the machine.
use Rattle.std.proofs.Common.{◌≡◌, ◌⊎◌, ◌&&◌, ◌==◌, ℕ, Bool, true, false, not, List, Option, Some, Result, Ok, Err, refl, sym, ap, subst}
use Rattle.std.proofs.Common.{inl, inr, ◌∙◌}
use Rattle.std.proofs.lemmas.Map.Steps.{set_value_same}
use Rattle.std.specs.Prelude.{zip}
use Rattle.iox_command.specs.DomainValues.declared.connection_failure.ConnectionFailure.{ConnectionFailure}
use Rattle.iox_command.specs.DomainValues.declared.degradation.DegradationAction.{DegradationAction}
use Rattle.iox_command.specs.DomainValues.declared.degradation.DegradationInfo.{DegradationInfo}
use Rattle.iox_command.specs.NegotiateBase.DescribeBase.declared.message_type.MessageTypeDetails.{MessageTypeDetails}
use Rattle.iox_command.specs.declared.refusal.Refusal.{Refusal}
use Rattle.iox_command.specs.declared.reply.Reply.{Reply}
use Rattle.iox_command.specs.declared.reply.Reply.TheVariants as reply
use Rattle.iox_domain.proofs.Numbered.{at_number, same_set}
use Rattle.iox_domain.proofs.StayRoomy.{stay_roomy}
use Rattle.iox_domain.specs.Calls.{SubscriberUpdates}
use Rattle.iox_domain.specs.Container.declared.container.Member.{Member}
use Rattle.iox_domain.specs.DomainPorts.SubscriberUpdating.{Updates, UpdatesIf}
use Rattle.iox_domain.specs.DomainPorts.declared.attached.Taken.{Taken}
use Rattle.iox_domain.specs.DomainPorts.declared.publisher_entry.PublisherEntry.{PublisherEntry}
use Rattle.iox_domain.specs.DomainPorts.declared.publisher_port.PublisherPort.{PublisherPort}
use Rattle.iox_domain.specs.DomainPorts.declared.subscriber_port.SubscriberPort.{SubscriberPort}
use Rattle.iox_domain.specs.Ports.{AtSubscriber, with_both}
use Rattle.iox_domain.specs.PortsSubscribing as subscribing
use Rattle.iox_domain.specs.Rolls.{IsListOf}
use Rattle.iox_domain.specs.Roomy.{AreRoomy}
use Rattle.iox_domain.specs.Subscribers.{subscriber_of}
use Rattle.iox_domain.specs.declared.ports.service_ports.ServicePorts.{ServicePorts}
use Rattle.iox_domain_machine.specs.Naming.{Naming}
use Rattle.iox_domain_machine.specs.Standing.{StandsFor, SubscriberIs}
use Rattle.iox_domain_machine.specs.SubscriberUpdateLaws.{ActsAs}
use Rattle.iox_domain_machine.specs.Tables.{LentSlot}
use Rattle.iox_domain_machine.proofs.Found.{same_some}
use Rattle.iox_domain_machine.proofs.UpdateMatches.{few, ready, to_update}
use Rattle.iox_domain_machine.proofs.UpdatingSubscriber.{update_stands}
use Rattle.iox_machine.specs.Choices.{Choices}
use Rattle.iox_machine.specs.PublisherUpdate.{UpdateAnswers}
use Rattle.iox_machine.specs.Service.{Service, Subscriber}
use Rattle.iox_machine.specs.State.{State}
use Rattle.iox_machine.specs.SubscriberUpdate.{Follows, UpdatesFirst}
use Rattle.iox_machine.specs.Table.{at}

module _ {T : Type 0} (choices : Choices T) (buffer name : ℕ) (was : Subscriber) (service : Service T) where
  -- whether a subscriber of the machine has nothing to bring up to date
  abbrev is_up_to_date : Bool
  is_up_to_date = (was.seen == service.publisher_list.changes) && not was.again

  -- what its update may answer, once it is another
  abbrev Answers : Subscriber → Result (Unit {0}) ConnectionFailure → Type 0
  Answers later updated =
      UpdateAnswers (choices.subscriber_acts name was.degradation) (zip service.publisher_list.places later.connected) updated

  -- What the machine does first: nothing, or it follows the list with this answer.
  abbrev pub HasBegun : Result (Unit {0}) ConnectionFailure → Subscriber → Service T → Type 0
  HasBegun updated later mid =
      ((is_up_to_date ≡ true) × (later ≡ was) × (mid ≡ service) × (updated ≡ Ok tt))
      ⊎ ((is_up_to_date ≡ false) × Follows buffer name was service later mid
      × Answers later updated)

  -- then it does what it is to
  pub does_then : (updated : Result (Unit {0}) ConnectionFailure) (later : Subscriber) (mid : Service T) → HasBegun updated later mid
      → updated ≡ Ok tt → (told : ConnectionFailure → Refusal) (Does : Subscriber → Service T → Reply T → Service T → Type 0)
      (answer : Reply T) (end : Service T) → Does later mid answer end → UpdatesFirst choices buffer name told Does was service answer end
  does_then updated later mid (inl begun) done told Does answer end does =
      rw begun.0 (subst (λ (one : Subscriber). Does one service answer end) begun.1
      (subst (λ (one : Service T). Does later one answer end) begun.2 does))
  does_then updated later mid (inr begun) done told Does answer end does =
      rw begun.0 (later, mid, begun.1, (Ok tt, subst (λ (one : Result (Unit {0}) ConnectionFailure). Answers later one) done begun.2, does))

  never_failed : {A : Type 0} (failure : ConnectionFailure) → ◌≡◌ {A = Result (Unit {0}) ConnectionFailure} (Ok tt) (Err failure) → A
  never_failed failure is = absurd (differ is)
    where
      differ : ◌≡◌ {A = Result (Unit {0}) ConnectionFailure} (Ok tt) (Err failure) → ⊥
      differ is = cc

  -- or it is refused, where a connection failed
  pub fails_so : (updated : Result (Unit {0}) ConnectionFailure) (later : Subscriber) (mid : Service T) → HasBegun updated later mid
      → (failure : ConnectionFailure) → updated ≡ Err failure → (told : ConnectionFailure → Refusal)
      (Does : Subscriber → Service T → Reply T → Service T → Type 0)
      → UpdatesFirst choices buffer name told Does was service (reply.Refused (told failure)) mid
  fails_so updated later mid (inl begun) failure failed told Does = never_failed failure (sym begun.3 ∙ failed)
  fails_so updated later mid (inr begun) failure failed told Does =
      rw begun.0 (
        later,
        mid,
        begun.1,
        (Err failure, subst (λ (one : Result (Unit {0}) ConnectionFailure). Answers later one) failed begun.2, (refl, refl)),
      )

module _ {T U : Type 0} (choices : Choices T) (names : Naming) (lent : List (ℕ × LentSlot)) (held : List (ℕ × Taken)) (buffer : ℕ)
    (old : ServicePorts T U)
    (service : Service T) (number : ℕ) where
  -- What a subscriber has before it does something: the machine began so, the ports stand for its service, connections that were made have
  -- names, the ports are roomy still, and it stands.
  pub record UpdatedFirst (was : Subscriber) (updated : Result (Unit {0}) ConnectionFailure) (after : SubscriberPort)
      (ports_after : List (ℕ × PublisherPort T U)) : Type 0 where
    pub reader : ℕ → ℕ → ℕ
    pub later : Subscriber
    pub mid : Service T
    pub begun : HasBegun choices buffer (names.subscriber number) was service updated later mid
    pub now : at (names.subscriber number) mid.subscribers ≡ Some later
    pub stands : StandsFor (record names { reader = reader }) lent held buffer (with_both number after ports_after old) mid
    pub roomy : AreRoomy (with_both number after ports_after old)
    pub standing : after.stands ≡ true

  module _ (types : MessageTypeDetails) (state : State T) (may : DegradationInfo → DegradationAction → Type 0)
      (stands : StandsFor names lent held buffer old service) (roomy : AreRoomy old)
      (acts : ActsAs choices may (names.subscriber number) service)
      (port : SubscriberPort) (there : subscriber_of number old.subscribers ≡ Some port) (standing : port.stands ≡ true)
      (items : List (Option (Member PublisherEntry))) (is_list : IsListOf items old.publisher_list)
      (updated : Result (Unit {0}) ConnectionFailure) (after : SubscriberPort) (ports_after : List (ℕ × PublisherPort T U)) where
    abbrev found : SubscriberIs names old service number port
    found = stands.subscribers number port there

    abbrev was : Subscriber
    was = found.0

    was_stands : was.stands ≡ true
    was_stands = found.2.stands ∙ standing

    abbrev new : ServicePorts T U
    new = with_both number after ports_after old

    there_now : subscriber_of number new.subscribers ≡ Some after
    there_now = same_set (at_number number) old.subscribers after port there

    roomy_still : Updates may items old.publisher_list.changes port old.publishers updated after ports_after → AreRoomy new
    roomy_still updates =
        stay_roomy (λ one other. Unit {0}) may (λ info decision. Unit {0}) (SubscriberUpdates number (Some updated)) old new
        (subst (λ (found : Option SubscriberPort). AtSubscriber number (subscribing.UpdatesOne may old.publisher_list) found old
        (Some updated) new) (sym there) (
          after,
          ports_after,
          subst (λ b. subscribing.UpdatesIf b may old.publisher_list port old.publishers (Some updated) after ports_after) (sym standing)
              (items, is_list, updated, updates, refl),
          refl,
        )) roomy

    same : (((was.seen == service.publisher_list.changes) && not was.again))
        ≡ ((port.seen == old.publisher_list.changes) && not port.again)
    same = to_update types choices buffer names lent held old service state number may stands roomy acts port there standing

    updates_first_by : (quiet : Bool) → ((port.seen == old.publisher_list.changes) && not port.again) ≡ quiet
        → UpdatesIf quiet may items old.publisher_list.changes port old.publishers updated after ports_after → AreRoomy new
        → UpdatedFirst was updated after ports_after
    updates_first_by true is (is_ok, is_after, are_ports) still = record {
      reader = names.reader;
      later = was;
      mid = service;
      begun = inl (same ∙ is, refl, refl, is_ok);
      now = found.1;
      stands = subst (λ (ports : ServicePorts T U). StandsFor names lent held buffer ports service)
          (sym (ap (λ (one : SubscriberPort). with_both number one ports_after old) is_after
          ∙ ap (λ (all : List (ℕ × PublisherPort T U)). with_both number port all old) are_ports
          ∙ ap (λ (all : List (ℕ × SubscriberPort)). record old { subscribers = all })
          (set_value_same (at_number number) old.subscribers port there))) stands;
      roomy = still;
      standing = ap (λ (one : SubscriberPort). one.stands) is_after ∙ standing;
    }
    updates_first_by false is follows still =
        let it = update_stands names lent held buffer old service number port was stands there found.1
        (ready types choices buffer names lent held old service state number may stands roomy acts port there standing)
        (few types choices buffer names lent held old service state number may stands roomy acts port there standing) was_stands may
        (choices.subscriber_acts (names.subscriber number) was.degradation) (acts was found.1 was_stands) items is_list updated after
        ports_after follows in
        let its = it.stands_after.subscribers number after there_now in
        let own = same_some its.0 it.later (sym its.1 ∙ it.now) in
        record {
          reader = it.reader;
          later = it.later;
          mid = it.mid;
          begun = inr (same ∙ is, it.follows, it.answers);
          now = it.now;
          stands = it.stands_after;
          roomy = still;
          standing = sym its.2.stands ∙ ap (λ (one : Subscriber). one.stands) (own ∙ it.follows.4) ∙ was_stands;
        }

    -- the update of the domain is what the machine does first
    pub updates_first : Updates may items old.publisher_list.changes port old.publishers updated after ports_after
        → UpdatedFirst was updated after ports_after
    updates_first updates = updates_first_by _ refl updates (roomy_still updates)

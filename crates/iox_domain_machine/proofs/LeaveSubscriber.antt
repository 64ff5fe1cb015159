-- A subscriber that leaves is one of the machine that left.
use Rattle.std.proofs.Common.{◌≡◌, ◌≢◌, ◌≤◌, ◌⊎◌, ◌+◌, ℕ, true, false, List, get_or, set, Option, None, Some, refl, sym, ap, subst, inl}
use Rattle.std.proofs.Common.{inr, ◌∙◌}
use Rattle.std.proofs.lemmas.Bool.{cases_eq}
use Rattle.std.proofs.lemmas.List.{get_or-set_other}
use Rattle.std.proofs.lemmas.Map.{keys-set_value}
use Rattle.std.specs.Prelude.{is_some, if◌then◌else◌}
use Rattle.iox_domain.proofs.Numbered.{at_number, same_set}
use Rattle.iox_domain.specs.Container.declared.container.Member.{Member}
use Rattle.iox_domain.specs.DomainPorts.Publishers.{port_of}
use Rattle.iox_domain.specs.DomainPorts.declared.attached.Taken.{Taken}
use Rattle.iox_domain.specs.DomainPorts.declared.publisher_port.PublisherPort.{PublisherPort}
use Rattle.iox_domain.specs.DomainPorts.declared.reader.Reader.{Reader}
use Rattle.iox_domain.specs.DomainPorts.declared.subscriber_entry.SubscriberEntry.{SubscriberEntry}
use Rattle.iox_domain.specs.DomainPorts.declared.subscriber_port.SubscriberPort.{SubscriberPort}
use Rattle.iox_domain.specs.Rolls.{RollState, changed_to, is_listed, left, may_change}
use Rattle.iox_domain.specs.Subscribers.{subscriber_of, with_subscriber, settled}
use Rattle.iox_domain.specs.Tries.{how_often}
use Rattle.iox_domain.specs.declared.ports.service_ports.ServicePorts.{ServicePorts}
use Rattle.iox_domain_machine.specs.Mailboxes.{MailboxesStandFor, IsKeyed}
use Rattle.iox_domain_machine.specs.Naming.{Naming, list_as}
use Rattle.iox_domain_machine.specs.Standing.{StandsFor, SubscriberIs, IsSubscriberListedAt}
use Rattle.iox_domain_machine.specs.Tables.{LentSlot, held_at_port}
use Rattle.iox_domain_machine.proofs.Changing.{still_some, still_named}
use Rattle.iox_domain_machine.proofs.Found.{same_some, never_some, never_true, at_changed, at_changed_other, other_found}
use Rattle.iox_domain_machine.proofs.LeavePort.{none_set}
use Rattle.iox_domain_machine.proofs.Leaving.{gone_at}
use Rattle.iox_domain_machine.proofs.ReleaseSettling.{subscriber_settled}
use Rattle.iox_machine.specs.Mailbox.{Mailbox}
use Rattle.iox_machine.proofs.Shorthands as shorthands
use Rattle.iox_machine.specs.Service.{Service, Subscriber}
use Rattle.iox_machine.proofs.Shorthands as shorthands
use Rattle.iox_machine.specs.Table.{at, changed}

module _ {T U : Type 0} (name reader subscriber_name : ℕ → ℕ) (port : PublisherPort T U) (mailboxes : ℕ → Option (Mailbox T))
    (subscribers : List (ℕ × Subscriber)) (its_name : ℕ) (was gone : Subscriber) (there : at its_name subscribers ≡ Some was)
    (gone_so : gone.stands ≡ false) where
  abbrev after : List (ℕ × Subscriber)
  after = changed its_name gone subscribers

  now : at its_name after ≡ Some gone
  now = at_changed its_name gone was subscribers there

  is_gone : (other : ℕ) (one : Subscriber) → other ≡ its_name → at other after ≡ Some one → one.stands ≡ false
  is_gone other one same is =
      ap (λ (one : Subscriber). one.stands) (same_some one gone (sym is ∙ ap (λ n. at n after) same ∙ now)) ∙ gone_so

  stood : (other : ℕ) (one : Subscriber) → (other ≡ its_name) ⊎ (other ≢ its_name) → at other after ≡ Some one → one.stands ≡ true
      → at other subscribers ≡ Some one
  stood other one (inl same) is standing = never_true (sym (is_gone other one same is) ∙ standing)
  stood other one (inr off) is standing = sym (at_changed_other its_name other gone subscribers off) ∙ is

  still_left : (other : ℕ) (one : Subscriber) → (other ≡ its_name) ⊎ (other ≢ its_name)
      → ((one : Subscriber) → at other subscribers ≡ Some one → one.stands ≡ false) → at other after ≡ Some one → one.stands ≡ false
  still_left other one (inl same) before is = is_gone other one same is
  still_left other one (inr off) before is = before one (sym (at_changed_other its_name other gone subscribers off) ∙ is)

  pub same_numbers : (other : ℕ) → is_some (at other after) ≡ is_some (at other subscribers)
  same_numbers other = still_some its_name other gone was subscribers after there now
      (λ one off. at_changed_other its_name one gone subscribers off) (cases_eq other its_name)

  -- the mailboxes of a publisher are the same to it when a subscriber left
  pub boxes_without : MailboxesStandFor name reader subscriber_name port mailboxes subscribers
      → MailboxesStandFor name reader subscriber_name port mailboxes after
  boxes_without boxes = record {
    live = boxes.live;
    ended = λ index is.
        let before = boxes.ended index is in (
          before.0,
          before.1,
          before.2,
          λ standing. (
            (before.3 standing).0,
            λ one it. still_left (reader index) one (cases_eq (reader index) its_name) (before.3 standing).1 it,
          ),
        );
    quiet = boxes.quiet;
    others = boxes.others;
    none = λ other joins standing one it stands.
        boxes.none other joins standing one (stood other one (cases_eq other its_name) it stands) stands;
    known = λ index is. same_numbers (reader index) ∙ boxes.known index is;
    apart = boxes.apart;
    led = boxes.led;
    read = boxes.read;
    heard = boxes.heard;
    unmet = boxes.unmet;
    once = boxes.once;
    due = boxes.due;
  }

module _ {T U : Type 0} (names : Naming) (lent : List (ℕ × LentSlot)) (held : List (ℕ × Taken)) (buffer : ℕ) (old : ServicePorts T U)
    (service : Service T) (number : ℕ) (port : SubscriberPort) (it : SubscriberIs names old service number port)
    (stands : StandsFor names lent held buffer old service) (there : subscriber_of number old.subscribers ≡ Some port)
    (standing : port.stands ≡ true) (named_so : names.subscriber number ≢ 0) (may : may_change old.subscriber_list ≡ true)
    (unread : (other index : ℕ) (found : PublisherPort T U) (to : Reader) → port_of other old.publishers ≡ Some found
    → get_or found.readers index None ≡ Some to → to.attached ≡ true → to.subscriber ≢ number) where
  abbrev name : ℕ
  name = names.subscriber number

  abbrev left_port : SubscriberPort
  left_port = record port { stands = false }

  abbrev places : List (Option (Member SubscriberEntry))
  places = old.subscriber_list.places

  abbrev roll : RollState SubscriberEntry
  roll = changed_to (set places port.place None) old.subscriber_list

  abbrev namer : SubscriberEntry → ℕ
  namer entry = names.subscriber entry.subscriber

  abbrev new : ServicePorts T U
  new = record old { subscribers = with_subscriber number old.subscribers left_port; subscriber_list = roll }

  abbrev left_subscriber : Subscriber
  left_subscriber = record it.0 { stands = false }

  abbrev pub service_after : Service T
  service_after = shorthands.with_subscriber name left_subscriber
      (record service { subscriber_list = shorthands.left name service.subscriber_list })

  now_left : subscriber_of number new.subscribers ≡ Some left_port
  now_left = same_set (at_number number) old.subscribers left_port port there

  elsewhere : (other : ℕ) → other ≢ number → subscriber_of other new.subscribers ≡ subscriber_of other old.subscribers
  elsewhere other off = other_found number other left_port old.subscribers off

  is_left : (other : ℕ) (found : SubscriberPort) → other ≡ number → subscriber_of other new.subscribers ≡ Some found → found ≡ left_port
  is_left other found same is = same_some found left_port (sym is ∙ ap (λ n. subscriber_of n new.subscribers) same ∙ now_left)

  is_port : (other : ℕ) (found : SubscriberPort) → other ≡ number → subscriber_of other old.subscribers ≡ Some found → found ≡ port
  is_port other found same is = same_some found port (sym is ∙ ap (λ n. subscriber_of n old.subscribers) same ∙ there)

  apart : (other : ℕ) → names.subscriber other ≡ name → number ≡ other
  apart other same = stands.named_subscribers.apart number other named_so (sym same)

  off_name : (other : ℕ) → other ≢ number → names.subscriber other ≢ name
  off_name other off same = off (sym (apart other same))

  at_others : (other : ℕ) → other ≢ number → at (names.subscriber other) service_after.subscribers
      ≡ at (names.subscriber other) service.subscribers
  at_others other off = at_changed_other name (names.subscriber other) left_subscriber service.subscribers (off_name other off)

  at_it : at name service_after.subscribers ≡ Some left_subscriber
  at_it = at_changed name left_subscriber it.0 service.subscribers it.1

  at_place : (member : Member SubscriberEntry) × (get_or places port.place None ≡ Some member) × (member.value.subscriber ≡ number)
  at_place = stands.listed_subscribers number port there standing

  left_is : left port.place old.subscriber_list ≡ roll
  left_is =
      ap (λ b. if b then (if is_listed port.place old.subscriber_list then roll else old.subscriber_list) else old.subscriber_list) may
      ∙ ap (λ member. if is_some member then roll else old.subscriber_list) at_place.1

  same_list : shorthands.left name service.subscriber_list ≡ list_as namer roll
  same_list =
      ap (shorthands.left name) stands.subscriber_list
      ∙ ap (λ (all : List (Option ℕ)). record { places = all; changes = old.subscriber_list.changes + 1 })
      (gone_at namer name port.place places
      (λ place one is same.
      let found = stands.present_subscribers place one is in
      let its = sym (apart one.value.subscriber same) in
      sym found.3 ∙ ap (λ (one : SubscriberPort). one.place) (is_port one.value.subscriber found.0 its found.1))
      (λ one is. ap namer (ap (λ (member : Member SubscriberEntry). member.value) (same_some one at_place.0 (sym is ∙ at_place.1)))
      ∙ ap names.subscriber at_place.2))

  keyed : (other : ℕ) (found : PublisherPort T U) → port_of other old.publishers ≡ Some found → IsKeyed other found new.subscribers
  keyed other found is index to reads attached =
      let before = stands.keyed other found is index to reads attached in
      (before.0, elsewhere to.subscriber (unread other index found to is reads attached) ∙ before.1, before.2, before.3, before.4)

  each : (other : ℕ) (found : SubscriberPort) → (other ≡ number) ⊎ (other ≢ number) → subscriber_of other new.subscribers ≡ Some found
      → SubscriberIs names new service_after other found
  each other found (inl same) is =
      subst (λ n. SubscriberIs names new service_after n found) (sym same)
      (subst (λ (one : SubscriberPort). SubscriberIs names new service_after number one) (sym (is_left other found same is)) (
        left_subscriber,
        at_it,
        record {
          factory = it.2.factory;
          stands = refl;
          buffer_size = it.2.buffer_size;
          seen = it.2.seen;
          again = it.2.again;
          connected = λ standing. never_true standing;
          expired = λ standing. never_true standing;
          room = it.2.room;
        },
      ))
  each other found (inr off) is =
      let before = stands.subscribers other found (sym (elsewhere other off) ∙ is) in
      (before.0, at_others other off ∙ before.1, before.2)

  gone : (other : ℕ) (one : Subscriber) → (other ≡ number) ⊎ (other ≢ number) → subscriber_of other new.subscribers ≡ None
      → at (names.subscriber other) service_after.subscribers ≡ Some one → one.stands ≡ false
  gone other one (inl same) none is = never_some left_port (sym none ∙ ap (λ n. subscriber_of n new.subscribers) same ∙ now_left)
  gone other one (inr off) none is =
      stands.gone_subscribers other one (sym (elsewhere other off) ∙ none) (sym (at_others other off) ∙ is)

  listed : (other : ℕ) (found : SubscriberPort) → (other ≡ number) ⊎ (other ≢ number) → subscriber_of other new.subscribers ≡ Some found
      → IsSubscriberListedAt roll.places other found
  listed other found (inl same) is still =
      never_true (sym (ap (λ (one : SubscriberPort). one.stands) (is_left other found same is)) ∙ still)
  listed other found (inr off) is still =
      let before = stands.listed_subscribers other found (sym (elsewhere other off) ∙ is) still in
      let apart : found.place ≢ port.place = λ same. off (sym before.2
      ∙ ap (λ (member : Member SubscriberEntry). member.value.subscriber) (same_some before.0 at_place.0 (sym before.1
      ∙ ap (λ place. get_or places place None) same ∙ at_place.1)) ∙ at_place.2) in
      (before.0, get_or-set_other places port.place found.place None None apart ∙ before.1, before.2)

  -- who is listed then was, and isn't the one that left
  listed_still : (place : ℕ) (member : Member SubscriberEntry) → (place ≡ port.place) ⊎ (place ≢ port.place)
      → get_or roll.places place None ≡ Some member
      → (get_or places place None ≡ Some member) × (member.value.subscriber ≢ number)
  listed_still place member (inl same) is =
      never_some member (sym (none_set places port.place) ∙ ap (λ n. get_or roll.places n None) (sym same) ∙ is)
  listed_still place member (inr off) is =
      let was_there = sym (get_or-set_other places port.place place None None off) ∙ is in
      let before = stands.present_subscribers place member was_there in (
        was_there,
        λ same. off (sym before.3 ∙ ap (λ (one : SubscriberPort). one.place) (is_port member.value.subscriber before.0 same before.1)),
      )

  same_held : (other : ℕ) → (other ≡ number) ⊎ (other ≢ number)
      → held_at_port (subscriber_of other old.subscribers) ≡ held_at_port (subscriber_of other new.subscribers)
  same_held other (inl same) =
      ap (λ n. held_at_port (subscriber_of n old.subscribers)) same ∙ ap held_at_port there
      ∙ sym (ap (λ n. held_at_port (subscriber_of n new.subscribers)) same ∙ ap held_at_port now_left)
  same_held other (inr off) = ap held_at_port (sym (elsewhere other off))

  same_some_there : (other : ℕ) → is_some (at other service_after.subscribers) ≡ is_some (at other service.subscribers)
  same_some_there other = still_some name other left_subscriber it.0 service.subscribers service_after.subscribers it.1 at_it
      (λ one off. at_changed_other name one left_subscriber service.subscribers off) (cases_eq other name)

  given_stands : StandsFor names lent held buffer new service_after
  given_stands = record {
    sizes = stands.sizes;
    publisher_list = stands.publisher_list;
    subscriber_list = same_list;
    named_publishers = stands.named_publishers;
    named_subscribers = still_named names.subscriber name left_subscriber it.0 service.subscribers service_after.subscribers it.1 at_it
        (λ one off. at_changed_other name one left_subscriber service.subscribers off) stands.named_subscribers;
    unnamed = stands.unnamed;
    publishers = λ other found is.
        let before = stands.publishers other found is in (
          before.0,
          before.1,
          before.2,
          boxes_without (names.message other) (names.reader other) names.subscriber found (service.mailboxes (names.publisher other))
              service.subscribers name it.0 left_subscriber it.1 refl before.3,
        );
    listed = stands.listed;
    present = stands.present;
    gone_publishers = stands.gone_publishers;
    numbered = stands.numbered;
    once = stands.once;
    once_subscribers = λ other. subst (λ keys. how_often other keys ≤ 1)
        (sym (keys-set_value (at_number number) old.subscribers left_port)) (stands.once_subscribers other);
    keyed = keyed;
    subscribers = λ other found is. each other found (cases_eq other number) is;
    gone_subscribers = λ other one none is. gone other one (cases_eq other number) none is;
    listed_subscribers = λ other found is. listed other found (cases_eq other number) is;
    present_subscribers = λ place member is.
        let there_still = listed_still place member (cases_eq place port.place) is in
        let before = stands.present_subscribers place member there_still.0 in
        (before.0, elsewhere member.value.subscriber there_still.1 ∙ before.1, before.2, before.3);
    sized = λ place member is.
        let there_still = listed_still place member (cases_eq place port.place) is in
        let before = stands.sized place member there_still.0 in
        (before.0, at_others member.value.subscriber there_still.1 ∙ before.1, before.2, before.3, before.4);
    joined = λ one other is.
        let before = stands.joined one other is in (before.0, same_some_there other ∙ before.1);
    loans = record { same = stands.loans.same; once = stands.loans.once; all = stands.loans.all };
    samples = record {
      same = stands.samples.same;
      once = stands.samples.once;
      all = stands.samples.all;
      whose = stands.samples.whose;
      counted = λ other. stands.samples.counted other ∙ same_held other (cases_eq other number);
    };
  }

  -- whether it is over then or not
  pub leave_stands : StandsFor names lent held buffer
      (record old {
        subscribers = settled number (with_subscriber number old.subscribers left_port);
        subscriber_list = left port.place old.subscriber_list;
      }) service_after
  leave_stands =
      subst (λ (list : RollState SubscriberEntry). StandsFor names lent held buffer
      (record old {
        subscribers = settled number (with_subscriber number old.subscribers left_port);
        subscriber_list = list;
      }) service_after) (sym left_is)
      (subscriber_settled names lent held buffer new service_after number left_port given_stands now_left)

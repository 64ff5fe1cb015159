-- A subscriber takes the oldest message of a connection, of a domain and of the machine.
use Rattle.std.proofs.Common.{◌≡◌, ◌≢◌, ◌≤◌, ◌<◌, ◌⊎◌, ◌∷◌, [], ◌++◌, ℕ, true, false, List, length, Option, None, Some, refl, sym, ap}
use Rattle.std.proofs.Common.{subst, inl, inr, ◌∙◌, arith}
use Rattle.std.proofs.Math.Logic.{⊎_elim}
use Rattle.std.proofs.lemmas.Bool.{cases_eq}
use Rattle.std.proofs.lemmas.Map.{keys-set_value}
use Rattle.std.specs.Prelude.{is_some, option_map, unwrap_or}
use Rattle.iox_domain.proofs.Numbered.{at_number, all_set, found_of_all, same_set}
use Rattle.iox_domain.specs.DomainPorts.Messages.{Message}
use Rattle.iox_domain.specs.DomainPorts.Ports.{connection_of}
use Rattle.iox_domain.specs.DomainPorts.Publishers.{port_of}
use Rattle.iox_domain.specs.DomainPorts.Reading.{taken_at}
use Rattle.iox_domain.specs.DomainPorts.declared.attached.Attached.{Attached}
use Rattle.iox_domain.specs.DomainPorts.declared.attached.Taken.{Taken}
use Rattle.iox_domain.specs.DomainPorts.declared.publisher_port.PublisherPort.{PublisherPort}
use Rattle.iox_domain.specs.DomainPorts.declared.subscriber_port.SubscriberPort.{SubscriberPort}
use Rattle.iox_domain.specs.PortLawsLaws.{IsSound, IsSoundEntry, IsTidy}
use Rattle.iox_domain.specs.Roomy.{IsAttached, IsReadBy}
use Rattle.iox_domain.specs.Subscribers.{subscriber_of}
use Rattle.iox_domain.specs.Tries.{how_often}
use Rattle.iox_domain.specs.declared.ports.service_ports.ServicePorts.{ServicePorts}
use Rattle.iox_domain_machine.specs.Mailboxes.{MailboxesStandFor}
use Rattle.iox_domain_machine.specs.Naming.{Naming, mailbox_as}
use Rattle.iox_domain_machine.specs.Standing.{StandsFor, PublisherIs}
use Rattle.iox_domain_machine.specs.Tables.{LentSlot, LoansStandFor}
use Rattle.iox_domain_machine.proofs.Changing.{all_changed, AreButHeld}
use Rattle.iox_domain_machine.proofs.Found.{same_some, other_found}
use Rattle.iox_domain_machine.proofs.Hearing.{Hears}
use Rattle.iox_domain_machine.proofs.Kept.{loans_kept}
use Rattle.iox_domain_machine.proofs.ReceivePort.{mailbox_taken, port_after, boxes_after, live_still, tidy_after}
use Rattle.iox_domain_machine.proofs.ReceiveSamples.{after_taking, holding_one_more, received_as, samples_after, taken_as}
use Rattle.iox_domain_machine.proofs.Releasing.{box_now, others_box, other_boxes, same_boxes}
use Rattle.iox_machine.proofs.Shorthands as shorthands
use Rattle.iox_machine.specs.Mailbox.{Mailbox}
use Rattle.iox_machine.specs.Service.{Service, mailbox, with_mailbox}
use Rattle.iox_machine.specs.Table.{at}

module _ {T U : Type 0} (names : Naming) (lent : List (ℕ × LentSlot)) (held : List (ℕ × Taken)) (buffer : ℕ) (old : ServicePorts T U)
    (service : Service T) (number : ℕ) (port : SubscriberPort) (stands : StandsFor names lent held buffer old service) (sound : IsSound old)
    (found : subscriber_of number old.subscribers ≡ Some port) (hears : Hears number port old.publishers) (giver : Attached)
    (publisher : PublisherPort T U) (there : port_of giver.publisher old.publishers ≡ Some publisher)
    (read : IsReadBy number giver.index publisher) (message : Message T U) (more : List (Message T U))
    (waits : (connection_of giver.index publisher).waiting ≡ message ∷ more) (sample : ℕ) (free : at sample held ≡ None) where
  abbrev was : PublisherIs names old service giver.publisher publisher
  was = stands.publishers giver.publisher publisher there

  abbrev slot_of : Message T U → ℕ
  slot_of message = message.slot

  some_wait : 0 < length (connection_of giver.index publisher).waiting
  some_wait = omega (arith, ap (λ (all : List (Message T U)). length all) waits)

  reads : names.reader giver.publisher giver.index ≡ names.subscriber number
  reads = (was.3.read giver.index (record { subscriber = number; attached = true }) read.reader).0

  abbrev after : PublisherPort T U
  after = taken_at giver.index publisher

  abbrev holder : SubscriberPort
  holder = holding_one_more port

  abbrev new : ServicePorts T U
  new = after_taking number port giver publisher old

  abbrev name : ℕ
  name = names.publisher giver.publisher

  now : port_of giver.publisher new.publishers ≡ Some after
  now = same_set (at_number giver.publisher) old.publishers after publisher there

  now_found : subscriber_of number new.subscribers ≡ Some holder
  now_found = same_set (at_number number) old.subscribers holder port found

  -- the mailbox that it was taken of
  box_there : service.mailboxes name (names.subscriber number)
      ≡ Some (mailbox_as (names.message giver.publisher) (connection_of giver.index publisher))
  box_there = ap (service.mailboxes name) (sym reads) ∙ was.3.live giver.index read.live

  pub box_is : mailbox name (names.subscriber number) service
      ≡ mailbox_as (names.message giver.publisher) (connection_of giver.index publisher)
  box_is = ap (λ (found : Option (Mailbox T)). unwrap_or found (record { limit = 0; waiting = []; borrowed = [] })) box_there

  abbrev box : Mailbox T
  box = shorthands.taken (mailbox name (names.subscriber number) service)

  -- the machine's service after it
  abbrev pub service_after : Service T
  service_after = with_mailbox name (names.subscriber number) box
      (record service { samples = service.samples ++ (sample, received_as names number giver message) ∷ [] })

  boxes_now : MailboxesStandFor (names.message giver.publisher) (names.reader giver.publisher) names.subscriber after
      (service_after.mailboxes name) service.subscribers
  boxes_now =
      boxes_after publisher giver.index read.live some_wait (names.message giver.publisher) (names.reader giver.publisher)
      names.subscriber (service.mailboxes name) (service_after.mailboxes name) service.subscribers was.3
      (ap (service_after.mailboxes name) reads ∙ box_now name (names.subscriber number) box service
      ∙ ap (λ (box : Mailbox T). Some (shorthands.taken box)) box_is
      ∙ ap (λ (box : Mailbox T). Some box) (sym (mailbox_taken (names.message giver.publisher) (connection_of giver.index publisher))))
      (λ other off. others_box name (names.subscriber number) box service other (λ same. off (same ∙ sym reads)))

  same_subscribers : AreButHeld old.subscribers new.subscribers
  same_subscribers other = ⊎_elim
      (λ same.
      ap (λ n. option_map (λ (port : SubscriberPort). record port { held = 0 }) (subscriber_of n new.subscribers)) same
      ∙ ap (option_map (λ (port : SubscriberPort). record port { held = 0 })) now_found
      ∙ sym (ap (λ n. option_map (λ (port : SubscriberPort). record port { held = 0 }) (subscriber_of n old.subscribers)) same
      ∙ ap (option_map (λ (port : SubscriberPort). record port { held = 0 })) found))
      (λ off. ap (option_map (λ (port : SubscriberPort). record port { held = 0 }))
      (other_found number other holder old.subscribers off))
      (cases_eq other number)

  loans_after : LoansStandFor names new lent service.loans
  loans_after =
      let loans = loans_kept giver.publisher publisher after old there names lent service.loans refl stands.loans in
      record { same = loans.same; once = loans.once; all = loans.all }

  pub taking_stands : StandsFor names lent (held ++ (sample, taken_as number giver message) ∷ []) buffer new service_after
  taking_stands =
      all_changed names names.message lent lent held (held ++ (sample, taken_as number giver message) ∷ []) buffer old service
      giver.publisher publisher after was.0 service.publishers service.loans service_after.samples service_after.mailboxes new.subscribers
      stands there (λ other off. refl) was.1 (λ other off. refl)
      (port_after publisher giver.index read.live some_wait (names.message giver.publisher) (names.reader giver.publisher)
      old.sizes.max_subscribers was.0 was.2)
      boxes_now (other_boxes name (names.subscriber number) box service)
      (λ one other there. sym (same_boxes name (names.subscriber number) box service (ap is_some box_there) one other) ∙ there)
      same_subscribers
      (λ other. subst (λ keys. how_often other keys ≤ 1) (sym (keys-set_value (at_number number) old.subscribers holder))
      (stands.once_subscribers other))
      refl refl refl (stands.keyed giver.publisher publisher there) loans_after
      (samples_after names held old service.samples sample giver publisher number port message more stands.samples there found waits
      (was.3.once giver.index message.slot) free reads)

  tidy : IsTidy publisher
  tidy = (found_of_all (IsSoundEntry old.next_port) (at_number giver.publisher) old.publishers publisher sound there).holds.1

  -- the ports are sound still
  pub taking_sound : IsSound new
  taking_sound =
      all_set (IsSoundEntry old.next_port) (at_number giver.publisher) old.publishers after
      (λ one is. (is.0, tidy_after publisher giver.index read.live some_wait tidy)) sound

  reads_by : (one : Attached) → (one.publisher ≡ giver.publisher) ⊎ (one.publisher ≢ giver.publisher)
      → IsAttached number one old.publishers → IsAttached number one new.publishers
  reads_by one (inr off) it = (it.0, other_found giver.publisher one.publisher after old.publishers off ∙ it.1, it.2)
  reads_by one (inl same) it =
      let is_it = same_some it.0 publisher (sym it.1 ∙ ap (λ n. port_of n old.publishers) same ∙ there) in
      let read_there = subst (λ (one_port : PublisherPort T U). IsReadBy number one.index one_port) is_it it.2 in (
        after,
        ap (λ n. port_of n new.publishers) same ∙ now,
        record { live = live_still publisher giver.index read.live some_wait one.index read_there.live; reader = read_there.reader },
      )

  left_by : (one : Attached) (other : PublisherPort T U) → (one.publisher ≡ giver.publisher) ⊎ (one.publisher ≢ giver.publisher)
      → ((other : PublisherPort T U) → port_of one.publisher old.publishers ≡ Some other → other.stands ≡ false)
      → port_of one.publisher new.publishers ≡ Some other → other.stands ≡ false
  left_by one other (inr off) left is = left other (sym (other_found giver.publisher one.publisher after old.publishers off) ∙ is)
  left_by one other (inl same) left is =
      ap (λ (one : PublisherPort T U). one.stands)
      (same_some other after (sym is ∙ ap (λ n. port_of n new.publishers) same ∙ now))
      ∙ left publisher (ap (λ n. port_of n old.publishers) same ∙ there)

  -- and the subscriber hears still
  pub taking_hears : Hears number holder new.publishers
  taking_hears = record {
    named = hears.named;
    standing = hears.standing;
    used = hears.used;
    reads = λ key one is. reads_by one (cases_eq one.publisher giver.publisher) (hears.reads key one is);
    apart = hears.apart;
    left = λ key one other expired is it.
        left_by one other (cases_eq one.publisher giver.publisher) (λ other before. hears.left key one other expired is before) it;
  }

-- One publisher of a domain is another, to which a connection may have come, with a mailbox of the machine.
use Rattle.std.proofs.Common.{◌≡◌, ◌≢◌, ◌≤◌, ◌⊎◌, ℕ, true, false, List, get_or, Option, None, Some, sym, ap, subst, inl, inr, ◌∙◌}
use Rattle.std.proofs.lemmas.Bool.{cases_eq}
use Rattle.std.proofs.lemmas.Map.{keys-set_value}
use Rattle.std.specs.Prelude.{is_some}
use Rattle.iox_domain.proofs.Numbered.{at_number, same_set}
use Rattle.iox_domain.specs.DomainPorts.Publishers.{port_of}
use Rattle.iox_domain.specs.DomainPorts.declared.attached.Taken.{Taken}
use Rattle.iox_domain.specs.DomainPorts.declared.publisher_port.PublisherPort.{PublisherPort}
use Rattle.iox_domain.specs.Tries.{how_often}
use Rattle.iox_domain.specs.declared.ports.service_ports.ServicePorts.{ServicePorts}
use Rattle.iox_domain_machine.specs.Mailboxes.{MailboxesStandFor, IsKeyed}
use Rattle.iox_domain_machine.specs.Naming.{Naming}
use Rattle.iox_domain_machine.specs.Publishers.{PublisherStandsFor}
use Rattle.iox_domain_machine.specs.Standing.{StandsFor, PublisherIs, IsListedAt}
use Rattle.iox_domain_machine.specs.Tables.{LentSlot, LoansStandFor, SamplesStandFor}
use Rattle.iox_domain_machine.proofs.Changing.{with_one, not_zero}
use Rattle.iox_domain_machine.proofs.Found.{same_some, never_some, other_found}
use Rattle.iox_machine.specs.Mailbox.{Mailbox}
use Rattle.iox_machine.specs.Service.{Publisher, Service}
use Rattle.iox_machine.specs.Table.{at}

module _ {T U : Type 0} (names : Naming) (reader : ℕ → ℕ → ℕ) (lent : List (ℕ × LentSlot)) (held : List (ℕ × Taken)) (buffer : ℕ)
    (old : ServicePorts T U) (service : Service T) (number : ℕ) (port after : PublisherPort T U) (mailboxes : ℕ → ℕ → Option (Mailbox T))
    (stands : StandsFor names lent held buffer old service) (there : port_of number old.publishers ≡ Some port) where
  abbrev renamed : Naming
  renamed = record names { reader = reader }

  abbrev new : ServicePorts T U
  new = with_one number after old

  abbrev new_service : Service T
  new_service = record service { mailboxes = mailboxes }

  abbrev pub was : PublisherIs names old service number port
  was = stands.publishers number port there

  there_now : port_of number new.publishers ≡ Some after
  there_now = same_set (at_number number) old.publishers after port there

  elsewhere : (other : ℕ) → other ≢ number → port_of other new.publishers ≡ port_of other old.publishers
  elsewhere other off = other_found number other after old.publishers off

  is_after : (other : ℕ) (found : PublisherPort T U) → other ≡ number → port_of other new.publishers ≡ Some found → found ≡ after
  is_after other found same here = same_some found after (sym here ∙ ap (λ n. port_of n new.publishers) same ∙ there_now)

  apart : (other : ℕ) → names.publisher other ≡ names.publisher number → number ≡ other
  apart other same =
      stands.named_publishers.apart number other (not_zero names.publisher
      (names.publisher number) was.0 service.publishers stands.named_publishers was.1) (sym same)

  module _ (others : (other : ℕ) → other ≢ number → reader other ≡ names.reader other)
      (same_stands : after.stands ≡ port.stands) (same_place : after.place ≡ port.place) (same_number : after.number ≡ port.number)
      (is : PublisherStandsFor (names.message number) (reader number) old.sizes.max_subscribers after was.0)
      (boxes : MailboxesStandFor (names.message number) (reader number) names.subscriber after (mailboxes (names.publisher number))
      service.subscribers)
      (other_boxes : (other : ℕ) → other ≢ names.publisher number → mailboxes other ≡ service.mailboxes other)
      (is_joined : (one other : ℕ) → is_some (mailboxes one other) ≡ true
      → (is_some (at one service.publishers) ≡ true) × (is_some (at other service.subscribers) ≡ true))
      (is_keyed : IsKeyed number after old.subscribers) where
    each : (other : ℕ) (found : PublisherPort T U) → (other ≡ number) ⊎ (other ≢ number) → port_of other new.publishers ≡ Some found
        → PublisherIs renamed new new_service other found
    each other found (inl same) it =
        subst (λ n. PublisherIs renamed new new_service n found) (sym same)
        (subst (λ (one : PublisherPort T U). PublisherIs renamed new new_service number one) (sym (is_after other found same it))
        (was.0, was.1, is, boxes))
    each other found (inr off) it =
        let one = stands.publishers other found (sym (elsewhere other off) ∙ it) in (
          one.0,
          one.1,
          subst (λ read. PublisherStandsFor (names.message other) read old.sizes.max_subscribers found one.0) (sym (others other off))
              one.2,
          subst (λ read. MailboxesStandFor (names.message other) read names.subscriber found
              (mailboxes (names.publisher other)) service.subscribers)
              (sym (others other off))
              (subst (λ boxes. MailboxesStandFor (names.message other) (names.reader other) names.subscriber found boxes
              service.subscribers) (sym (other_boxes (names.publisher other) (λ same. off (sym (apart other same))))) one.3),
        )

    listed : (other : ℕ) (found : PublisherPort T U) → (other ≡ number) ⊎ (other ≢ number) → port_of other new.publishers ≡ Some found
        → IsListedAt old.publisher_list.places other found
    listed other found (inl same) it =
        subst (λ n. IsListedAt old.publisher_list.places n found) (sym same)
        (subst (λ (one : PublisherPort T U). IsListedAt old.publisher_list.places number one) (sym (is_after other found same it))
        (λ standing.
        let before = stands.listed number port there (sym same_stands ∙ standing) in
        (before.0, ap (λ place. get_or old.publisher_list.places place None) same_place ∙ before.1, before.2)))
    listed other found (inr off) it = stands.listed other found (sym (elsewhere other off) ∙ it)

    own_number : (other : ℕ) (found : PublisherPort T U) → (other ≡ number) ⊎ (other ≢ number)
        → port_of other new.publishers ≡ Some found → found.number ≡ other
    own_number other found (inl same) it =
        ap (λ (one : PublisherPort T U). one.number) (is_after other found same it)
        ∙ (same_number ∙ (stands.numbered number port there ∙ sym same))
    own_number other found (inr off) it = stands.numbered other found (sym (elsewhere other off) ∙ it)

    keyed : (other : ℕ) (found : PublisherPort T U) → (other ≡ number) ⊎ (other ≢ number) → port_of other new.publishers ≡ Some found
        → IsKeyed other found old.subscribers
    keyed other found (inl same) it =
        subst (λ n. IsKeyed n found old.subscribers) (sym same)
        (subst (λ (one : PublisherPort T U). IsKeyed number one old.subscribers) (sym (is_after other found same it)) is_keyed)
    keyed other found (inr off) it = stands.keyed other found (sym (elsewhere other off) ∙ it)

    gone : (other : ℕ) (one : Publisher T) → (other ≡ number) ⊎ (other ≢ number) → port_of other new.publishers ≡ None
        → at (names.publisher other) service.publishers ≡ Some one → one.stands ≡ false
    gone other one (inl same) none it = never_some after (sym none ∙ ap (λ n. port_of n new.publishers) same ∙ there_now)
    gone other one (inr off) none it = stands.gone_publishers other one (sym (elsewhere other off) ∙ none) it

    present : (other place : ℕ) (found : PublisherPort T U) → (other ≡ number) ⊎ (other ≢ number)
        → port_of other old.publishers ≡ Some found → found.stands ≡ true → found.place ≡ place
        → (one : PublisherPort T U) × (port_of other new.publishers ≡ Some one) × (one.stands ≡ true) × (one.place ≡ place)
    present other place found (inl same) it standing placed =
        let is_port = same_some found port (sym it ∙ ap (λ n. port_of n old.publishers) same ∙ there) in (
          after,
          ap (λ n. port_of n new.publishers) same ∙ there_now,
          same_stands ∙ sym (ap (λ (one : PublisherPort T U). one.stands) is_port) ∙ standing,
          same_place ∙ sym (ap (λ (one : PublisherPort T U). one.place) is_port) ∙ placed,
        )
    present other place found (inr off) it standing placed = (found, elsewhere other off ∙ it, standing, placed)

    pub publisher_changed : LoansStandFor renamed new lent service.loans → SamplesStandFor renamed new held service.samples
        → StandsFor renamed lent held buffer new new_service
    publisher_changed same_loans same_samples = record {
      sizes = stands.sizes;
      publisher_list = stands.publisher_list;
      subscriber_list = stands.subscriber_list;
      named_publishers = stands.named_publishers;
      named_subscribers = stands.named_subscribers;
      unnamed = stands.unnamed;
      publishers = λ other found it. each other found (cases_eq other number) it;
      listed = λ other found it. listed other found (cases_eq other number) it;
      present = λ place member it.
          let before = stands.present place member it in
          present member.value.publisher place before.0 (cases_eq member.value.publisher number) before.1 before.2 before.3;
      gone_publishers = λ other one none it. gone other one (cases_eq other number) none it;
      numbered = λ other found it. own_number other found (cases_eq other number) it;
      once = λ other. subst (λ keys. how_often other keys ≤ 1) (sym (keys-set_value (at_number number) old.publishers after))
          (stands.once other);
      once_subscribers = stands.once_subscribers;
      keyed = λ other found it. keyed other found (cases_eq other number) it;
      subscribers = stands.subscribers;
      gone_subscribers = stands.gone_subscribers;
      listed_subscribers = stands.listed_subscribers;
      present_subscribers = stands.present_subscribers;
      sized = stands.sized;
      joined = is_joined;
      loans = same_loans;
      samples = same_samples;
    }

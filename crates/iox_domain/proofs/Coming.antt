-- What is found of a port that came.
use Rattle.std.proofs.Common.{ℕ, ◌≡◌, ◌+◌, ◌^◌, ◌∷◌, [], max, nat_lt, List, Bool, true, false, Option, None, Some, Result, Ok, IfSome}
use Rattle.std.proofs.Common.{refl, sym, ap, subst, ◌∙◌, cond, if◌then◌else◌}
use Rattle.std.specs.BTreeMap.{insert_entry, is_at}
use Rattle.std.specs.Cmp.{nat_cmp_is}
use Rattle.std.specs.Map.{lookup}
use Rattle.std.specs.Ordering.{nat_cmp, is_eq, match_ordering}
use Rattle.std.specs.declared.alloc.AllocError.{AllocError}
use Rattle.std.specs.declared.cmp.Ordering.{Ordering}
use Rattle.std.specs.declared.cmp.Ordering.TheVariants.{Less, Equal, Greater}
use Rattle.iox_domain_ports.specs.Container.declared.container.Member.{Member}
use Rattle.iox_domain_ports.specs.DomainValues.OverrideAnswers.{places}
use Rattle.iox_domain_ports.specs.DomainValues.declared.connection_failure.ConnectionFailure.{ConnectionFailure}
use Rattle.iox_domain_ports.specs.DomainValues.declared.degradation.DegradationAction.{DegradationAction}
use Rattle.iox_domain_ports.specs.DomainValues.declared.degradation.DegradationInfo.{DegradationInfo}
use Rattle.iox_domain_ports.specs.DomainValues.declared.port_owner.PortIdentity.{PortIdentity}
use Rattle.iox_domain_ports.specs.DomainValues.declared.port_owner.PortOwner.{PortOwner}
use Rattle.iox_domain_ports.specs.declared.messages.sender_config.SenderConfig.{SenderConfig}
use Rattle.iox_domain_ports.specs.Leaving.{new_port}
use Rattle.iox_domain_ports.specs.PublisherUpdating as publisher
use Rattle.iox_domain_ports.specs.declared.publisher_port.PublisherPort.{PublisherPort}
use Rattle.iox_domain_ports.specs.declared.subscriber_entry.SubscriberEntry.{SubscriberEntry}
use Rattle.iox_domain_ports.specs.Arriving.{new_subscriber}
use Rattle.iox_domain_ports.specs.Publishers.{added}
use Rattle.iox_domain_ports.specs.declared.publisher_entry.PublisherEntry.{PublisherEntry}
use Rattle.iox_domain_ports.specs.declared.subscriber_port.SubscriberPort.{SubscriberPort}
use Rattle.iox_domain.specs.Making.{slots_needed, publisher_place, subscriber_place, sender_config, identity_of, publisher_answer}
use Rattle.iox_domain.specs.Making.{sequence_before, AddsPublisher, CreatesPublisher, FollowsFirst, AddsSubscriber}
use Rattle.iox_domain.specs.Rolls.{RollState, IsListOf, free_place, entered}
use Rattle.iox_domain.specs.Subscribers.{subscriber_of, subscriber_added}
use Rattle.iox_domain.specs.declared.ports.making.PublisherConfig.{PublisherConfig}
use Rattle.iox_domain.specs.declared.ports.service_ports.ServicePorts.{ServicePorts}

same_number : (number : ℕ) → is_eq (nat_cmp number number) ≡ true
same_number number = ap is_eq (sym (nat_cmp_is number number Equal refl))

found : {X : Type 0} (number other : ℕ) (x y : X) (rest inserted : List (ℕ × X)) (order : Ordering) → nat_cmp number other ≡ order
    → lookup (is_at (nat_cmp number)) inserted ≡ Some x
    → lookup (is_at (nat_cmp number)) (match_ordering order ((number, x) ∷ (other, y) ∷ rest) ((other, x) ∷ rest)
    ((other, y) ∷ inserted)) ≡ Some x
found number other x y rest inserted Less is further
    = ap (λ test. cond test (Some x) (lookup (is_at (nat_cmp number)) ((other, y) ∷ rest))) (same_number number)
found number other x y rest inserted Equal is further = ap (λ order. cond (is_eq order) (Some x) (lookup (is_at (nat_cmp number)) rest)) is
found number other x y rest inserted Greater is further
    = ap (λ order. cond (is_eq order) (Some y) (lookup (is_at (nat_cmp number)) inserted)) is ∙ further

-- who came under a number is found there
pub lookup-came : {X : Type 0} (number : ℕ) (x : X) (entries : List (ℕ × X))
    → lookup (is_at (nat_cmp number)) (insert_entry nat_cmp entries number x) ≡ Some x
lookup-came number x [] = ap (λ test. cond test (Some x) None) (same_number number)
lookup-came number x (entry ∷ entries) =
    found number entry.0 x entry.1 entries (insert_entry nat_cmp entries number x) (nat_cmp number entry.0) refl
    (lookup-came number x entries)

-- a number is given out, and the place is as it was
place_of-numbered : (may : Bool) (place : Option ℕ) (at : ℕ) → (if may then place else None) ≡ Some at → place ≡ Some at
place_of-numbered true place at h = h
place_of-numbered false place at h = cc

entered-there : {V : Type 0} (answered : Option ℕ) (place : ℕ) (entry : V) (before after : RollState V) → answered ≡ Some place
    → IfSome answered (λ at. after ≡ entered at entry before) → after ≡ entered place entry before
entered-there answered place entry before after is listed
    = subst (λ answered. IfSome answered (λ at. after ≡ entered at entry before)) is listed

pub adds_publisher : {T U : Type 0} (may : DegradationInfo → DegradationAction → Type 0) (config : PublisherConfig) (user_header : U)
    (place slots : ℕ) (old : ServicePorts T U)
    (listed : List (Option (Member SubscriberEntry))) (changes : ℕ) (identity : PortIdentity) (last : Option ℕ) (sender : SenderConfig)
    (port after : PublisherPort T U) (outcome : Result (Unit {0}) ConnectionFailure)
    (publishers_after : List (ℕ × PublisherPort T U)) (answered : Option ℕ) (list_after : RollState PublisherEntry)
    → IsListOf listed old.subscriber_list → changes ≡ old.subscriber_list.changes → identity ≡ identity_of config.owner place old
    → last ≡ sequence_before config old → sender ≡ sender_config config slots old
    → port ≡ new_port identity old.sizes.max_subscribers config.allocation config.unit last sender user_header
    → publisher.Updates may listed changes port outcome after → publishers_after ≡ added old.next_port after old.publishers
    → publisher_place old ≡ Some place → answered ≡ free_place old.publisher_list
    → IfSome answered (λ at. list_after ≡ entered at (record { publisher = old.next_port }) old.publisher_list)
    → AddsPublisher may config user_header place slots old (Ok old.next_port)
    (record old { next_port = old.next_port + 1; publisher_list = list_after; publishers = publishers_after })
adds_publisher {T} {U} may config user_header place slots old listed changes identity last sender port after outcome publishers_after
    answered list_after whole changes_is identity_is last_is sender_is port_is updates publishers_is place_is free entered_is =
    let there = entered-there answered place (record { publisher = old.next_port }) old.publisher_list list_after
    (free ∙ place_of-numbered (nat_lt (old.next_port + 1) (2 ^ 64)) (free_place old.publisher_list) place place_is) entered_is in (
      listed,
      whole,
      outcome,
      after,
      rw (changes_is, port_is, identity_is, last_is, sender_is) at updates,
      refl,
      ap (λ list. record old { next_port = old.next_port + 1; publisher_list = list; publishers = publishers_after }) there
          ∙ ap (λ publishers. record old {
            next_port = old.next_port + 1;
            publisher_list
                = entered place (record { publisher = old.next_port }) old.publisher_list;
            publishers = publishers;
          }) publishers_is,
    )

pub creates_publisher : {T U : Type 0} (overrides : ℕ → ℕ → Type 0) (may : DegradationInfo → DegradationAction → Type 0)
    (config : PublisherConfig) (user_header : U) (old new : ServicePorts T U)
    (needed place most slots : ℕ) (outcome : Result ℕ AllocError)
    → slots_needed config old ≡ Some needed → publisher_place old ≡ Some place → most ≡ max needed 1
    → ((answer : ℕ) × overrides most answer × (slots ≡ places most answer))
    → AddsPublisher may config user_header place slots old outcome new
    → CreatesPublisher overrides may config user_header (slots_needed config old) (publisher_place old) old (publisher_answer outcome) new
creates_publisher overrides may config user_header old new needed place most slots outcome needed_is place_is most_is answered adds =
    rw (needed_is, place_is) (
      answered.0,
      rw most_is at answered.1,
      outcome,
      subst (λ slots. AddsPublisher may config user_header place slots old outcome new)
          (rw most_is at answered.2) adds,
      refl,
    )

kept_list : {T U : Type 0} (may : DegradationInfo → DegradationAction → Type 0) (number : ℕ) (port : Option SubscriberPort)
    (old new : ServicePorts T U) → FollowsFirst may number port old new
    → new.subscriber_list ≡ old.subscriber_list
kept_list may number None old new is = ap (λ ports. ports.subscriber_list) is
kept_list may number (Some port) old new (listed, whole, outcome, after, publishers_after, updates, is)
    = ap (λ ports. ports.subscriber_list) is

pub adds_subscriber : {T U : Type 0} (may : DegradationInfo → DegradationAction → Type 0) (owner : PortOwner) (place buffer_size : ℕ)
    (old between : ServicePorts T U) (identity : PortIdentity) (port : SubscriberPort)
    (inserted : List (ℕ × SubscriberPort)) (answered : Option ℕ) (list_after : RollState SubscriberEntry)
    → identity ≡ identity_of owner place old
    → port ≡ new_subscriber identity buffer_size old.sizes.max_publishers old.sizes.expired_connections
    → inserted ≡ subscriber_added old.next_port port old.subscribers
    → FollowsFirst may old.next_port (subscriber_of old.next_port inserted) (record old { subscribers = inserted }) between
    → subscriber_place old ≡ Some place → answered ≡ free_place between.subscriber_list
    → IfSome answered (λ at. list_after
    ≡ entered at (record { subscriber = old.next_port; buffer_size = buffer_size }) between.subscriber_list)
    → AddsSubscriber may owner place buffer_size old (Ok old.next_port)
    (record between { next_port = old.next_port + 1; subscriber_list = list_after })
adds_subscriber {T} {U} may owner place buffer_size old between identity port inserted answered list_after identity_is port_is
    inserted_is follows place_is free entered_is =
    let list_is = kept_list may old.next_port (subscriber_of old.next_port inserted) (record old { subscribers = inserted }) between
    follows in
    let came : subscriber_of old.next_port inserted ≡ Some port =
    ap (λ subscribers. subscriber_of old.next_port subscribers) inserted_is ∙ lookup-came old.next_port port old.subscribers in
    let there = entered-there answered place (record { subscriber = old.next_port; buffer_size = buffer_size }) between.subscriber_list
    list_after
    (free ∙ ap (λ list. free_place list) list_is ∙ place_of-numbered (nat_lt (old.next_port + 1) (2 ^ 64))
    (free_place old.subscriber_list) place place_is) entered_is in (
      between,
      rw (came, inserted_is, port_is, identity_is) at follows,
      refl,
      ap (λ list. record between { next_port = old.next_port + 1; subscriber_list = list })
          (there ∙ ap (λ list. entered place (record { subscriber = old.next_port; buffer_size = buffer_size }) list) list_is),
    )

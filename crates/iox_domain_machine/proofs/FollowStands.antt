-- Ports of which one publisher followed the list of subscribers represent a service of which one publisher did.
use Rattle.std.proofs.Common.{◌≡◌, ◌≢◌, ◌≤◌, ◌⊎◌, ◌&&◌, ◌∷◌, [], ℕ, Bool, true, false, List, get_or, map, Option, None, Some, Result}
use Rattle.std.proofs.Common.{refl, sym, ap, subst, inl, inr, ◌∙◌}
use Rattle.std.proofs.Math.Logic.{⊎_elim}
use Rattle.std.proofs.lemmas.Bool.{cases_eq, eq-eqb, ne_eqb}
use Rattle.std.proofs.lemmas.List.Elements.{All-nil, All-cons, All-weaker, All-contains, All-contains_itself}
use Rattle.std.proofs.lemmas.Map.{keys-set_value}
use Rattle.std.specs.List.{All, Contains, filter}
use Rattle.std.specs.Prelude.{is_some, ◌==◌, if◌then◌else◌}
use Rattle.iox_command.specs.DomainValues.declared.connection_failure.ConnectionFailure.{ConnectionFailure}
use Rattle.iox_command.specs.DomainValues.declared.degradation.DegradationAction.{DegradationAction}
use Rattle.iox_domain.proofs.Numbered.{at_number, same_set, FoundEntry, found_of_all}
use Rattle.iox_domain.proofs.Roomy.{well_of}
use Rattle.iox_domain.specs.DomainPorts.Messages as domain
use Rattle.iox_domain.specs.DomainPorts.Ports.{connection_of}
use Rattle.iox_domain.specs.DomainPorts.PublisherUpdating.{FollowsAll}
use Rattle.iox_domain.specs.DomainPorts.Publishers.{port_of, connection_at_port}
use Rattle.iox_domain.specs.DomainPorts.declared.attached.Taken.{Taken}
use Rattle.iox_domain.specs.DomainPorts.declared.publisher_port.PublisherPort.{PublisherPort}
use Rattle.iox_domain.specs.DomainPorts.declared.subscriber_port.SubscriberPort.{SubscriberPort}
use Rattle.iox_domain.specs.DomainSlots.Uses.{Connection}
use Rattle.iox_domain.specs.DomainValues.declared.degradation.DegradationInfo.{DegradationInfo}
use Rattle.iox_domain.specs.PortLawsLaws.{IsApart}
use Rattle.iox_domain.specs.SizeLaws.{AreAllowed, IsMadeFor, allowed_by}
use Rattle.iox_domain.specs.Subscribers.{subscriber_of}
use Rattle.iox_domain.specs.Tries.{how_often}
use Rattle.iox_domain.specs.declared.ports.service_ports.ServicePorts.{ServicePorts}
use Rattle.iox_domain_machine.specs.Mailboxes.{MailboxesStandFor, IsKeyed}
use Rattle.iox_domain_machine.specs.Naming.{Naming, with_name}
use Rattle.iox_domain_machine.specs.Publishers.{PublisherStandsFor}
use Rattle.iox_domain_machine.specs.Standing.{StandsFor, PublisherIs, IsListedAt}
use Rattle.iox_domain_machine.specs.Tables.{LentSlot, LoansStandFor, SamplesStandFor, slots_held_of}
use Rattle.iox_domain_machine.proofs.Changing.{with_one, not_zero, still_named}
use Rattle.iox_domain_machine.proofs.FollowMidway.{FollowsList}
use Rattle.iox_domain_machine.proofs.FollowPort.{HasFollowed, port_follows}
use Rattle.iox_domain_machine.proofs.FollowSteps.{IsUnlisted}
use Rattle.iox_domain_machine.proofs.Found.{same_some, never_some, at_changed, at_changed_other, other_found}
use Rattle.iox_domain_machine.proofs.Kept.{loans_kept}
use Rattle.iox_domain_machine.proofs.LeaveSamples.{samples_alike}
use Rattle.iox_domain_machine.proofs.ReleasePort.{differ}
use Rattle.iox_machine.specs.Service.{Publisher, Service, Subscriber}
use Rattle.iox_machine.proofs.Shorthands as shorthands
use Rattle.iox_machine.specs.Table.{at}

-- none of a list passes a test of which a filter keeps none
pub none_pass : {X : Type 0} (test : X → Bool) (xs : List X) → filter test xs ≡ [] → All (λ x. test x ≡ false) xs
none_pass test [] none = All-nil (λ x. test x ≡ false)
none_pass {X} test (x ∷ xs) none = by (test x) refl (λ rest. none_pass test xs rest) none
  where
    by : (b : Bool) → test x ≡ b → (filter test xs ≡ [] → All (λ x. test x ≡ false) xs)
        → (if b then x ∷ filter test xs else filter test xs) ≡ [] → All (λ x. test x ≡ false) (x ∷ xs)
    by true is rest none = absurd (cc)
    by false is rest none = All-cons (λ x. test x ≡ false) x xs is (rest none)

module _ {T U : Type 0} (names : Naming) (lent : List (ℕ × LentSlot)) (held : List (ℕ × Taken)) (buffer : ℕ) (old : ServicePorts T U)
    (service : Service T) (stands : StandsFor names lent held buffer old service) where
  -- the list of subscribers, beside those of the machine
  list_follows : IsApart old → FollowsList names.subscriber old.next_port old.sizes.subscriber_max_buffer_size
      old.subscriber_list.places service.subscribers
  list_follows apart = record {
    list = apart.list;
    stands = stands.sized;
    left = λ subscriber some unlisted one is. left_by subscriber unlisted one is (subscriber_of subscriber old.subscribers) refl;
    apart = stands.named_subscribers.apart;
    some = λ place member listed.
        let its = stands.sized place member listed in
        not_zero names.subscriber (names.subscriber member.value.subscriber) its.0 service.subscribers stands.named_subscribers its.1;
  }
    where
      left_stands : (subscriber : ℕ) (port : SubscriberPort) (standing : Bool) → port.stands ≡ standing
          → subscriber_of subscriber old.subscribers ≡ Some port
          → IsUnlisted names.subscriber old.subscriber_list.places (names.subscriber subscriber) → standing ≡ false
      left_stands subscriber port false is there unlisted = refl
      left_stands subscriber port true is there unlisted =
          let listed = stands.listed_subscribers subscriber port there is in
          absurd (unlisted port.place listed.0 listed.1 (ap names.subscriber listed.2))

      left_by : (subscriber : ℕ) → IsUnlisted names.subscriber old.subscriber_list.places (names.subscriber subscriber)
          → (one : Subscriber) → at (names.subscriber subscriber) service.subscribers ≡ Some one → (found : Option SubscriberPort)
          → subscriber_of subscriber old.subscribers ≡ found → one.stands ≡ false
      left_by subscriber unlisted one is None none = stands.gone_subscribers subscriber one none is
      left_by subscriber unlisted one is (Some port) there =
          let its = stands.subscribers subscriber port there in
          ap (λ (one : Subscriber). one.stands) (same_some one its.0 (sym is ∙ its.1)) ∙ its.2.stands
          ∙ left_stands subscriber port port.stands refl there unlisted

  module _ (number : ℕ) (port after : PublisherPort T U) (there : port_of number old.publishers ≡ Some port) where
    abbrev pub its_name : ℕ
    its_name = names.publisher number

    abbrev pub was : PublisherIs names old service number port
    was = stands.publishers number port there

    -- the update of a publisher that stands, and of which no send is blocked, where the list changed
    pub its_update : IsApart old → AreAllowed old → port.stands ≡ true → port.sender.uses.sending ≡ None
        → (may : DegradationInfo → DegradationAction → Type 0) (May : DegradationAction → Type 0)
        → ((info : DegradationInfo) (action : DegradationAction) → may info action → May action)
        → (answer : Result (Unit {0}) ConnectionFailure)
        → FollowsAll may 0 old.subscriber_list.places None (record port { seen = old.subscriber_list.changes }) answer after
        → HasFollowed (names.message number) names.subscriber (names.reader number) old.next_port old.sizes.max_subscribers
        old.sizes.subscriber_max_buffer_size old.subscriber_list port after service its_name was.0 May answer
    its_update apart allowed standing silent may May told answer call =
        let made : FoundEntry (IsMadeFor (allowed_by old.sizes)) (at_number number) port =
        found_of_all (IsMadeFor (allowed_by old.sizes)) (at_number number) old.publishers port allowed there in
        port_follows (names.message number) names.subscriber (names.reader number) old.next_port old.sizes.max_subscribers
        old.sizes.subscriber_max_buffer_size old.subscriber_list port after service its_name was.0 (list_follows apart)
        stands.subscriber_list apart.places standing silent (ap (λ one. one.most_waiting) made.holds.0)
        (well_of old number port apart there standing) was.2 was.3 may May told answer call

    module _ (May : DegradationAction → Type 0) (answer : Result (Unit {0}) ConnectionFailure)
        (followed : HasFollowed (names.message number) names.subscriber (names.reader number) old.next_port old.sizes.max_subscribers
        old.sizes.subscriber_max_buffer_size old.subscriber_list port after service its_name was.0 May answer) where
      -- the names of the subscribers at the connections of the publisher are others
      abbrev pub names_after : Naming
      names_after = record names { reader = with_name number followed.new_reader names.reader }

      abbrev pub publisher_after : Publisher T
      publisher_after = record was.0 { seen = service.subscriber_list.changes; connected = followed.connected }

      abbrev pub service_after : Service T
      service_after = record (shorthands.with_publisher its_name publisher_after service) { mailboxes = followed.new_mailboxes }

      abbrev new : ServicePorts T U
      new = with_one number after old

      now : port_of number new.publishers ≡ Some after
      now = same_set (at_number number) old.publishers after port there

      elsewhere : (other : ℕ) → other ≢ number → port_of other new.publishers ≡ port_of other old.publishers
      elsewhere other off = other_found number other after old.publishers off

      is_after : (other : ℕ) (found : PublisherPort T U) → other ≡ number → port_of other new.publishers ≡ Some found → found ≡ after
      is_after other found same here = same_some found after (sym here ∙ ap (λ n. port_of n new.publishers) same ∙ now)

      is_port : (other : ℕ) (found : PublisherPort T U) → other ≡ number → port_of other old.publishers ≡ Some found → found ≡ port
      is_port other found same here = same_some found port (sym here ∙ ap (λ n. port_of n old.publishers) same ∙ there)

      apart_name : (other : ℕ) → other ≢ number → names.publisher other ≢ its_name
      apart_name other off same =
          off (sym (stands.named_publishers.apart number other
          (not_zero names.publisher its_name was.0 service.publishers stands.named_publishers was.1) (sym same)))

      at_it : at its_name service_after.publishers ≡ Some publisher_after
      at_it = at_changed its_name publisher_after was.0 service.publishers was.1

      at_others : (other : ℕ) → other ≢ its_name → at other service_after.publishers ≡ at other service.publishers
      at_others other off = at_changed_other its_name other publisher_after service.publishers off

      reader_here : names_after.reader number ≡ followed.new_reader
      reader_here = ap (λ b. if b then followed.new_reader else names.reader number) (eq-eqb number number refl)

      reader_off : (other : ℕ) → other ≢ number → names_after.reader other ≡ names.reader other
      reader_off other off = ap (λ b. if b then followed.new_reader else names.reader other) (ne_eqb other number off)

      here : PublisherIs names_after new service_after number after
      here = (
        publisher_after,
        at_it,
        subst (λ reader. PublisherStandsFor (names.message number) reader old.sizes.max_subscribers after publisher_after)
            (sym reader_here) followed.port_stands,
        subst (λ reader. MailboxesStandFor (names.message number) reader names.subscriber after (followed.new_mailboxes its_name)
            service.subscribers) (sym reader_here) followed.boxes_stand,
      )

      each : (other : ℕ) (found : PublisherPort T U) → (other ≡ number) ⊎ (other ≢ number) → port_of other new.publishers ≡ Some found
          → PublisherIs names_after new service_after other found
      each other found (inl same) it =
          subst (λ n. PublisherIs names_after new service_after n found) (sym same)
          (subst (λ (one : PublisherPort T U). PublisherIs names_after new service_after number one) (sym (is_after other found same it))
          here)
      each other found (inr off) it =
          let one = stands.publishers other found (sym (elsewhere other off) ∙ it) in
          let same_boxes : followed.new_mailboxes (names.publisher other) ≡ service.mailboxes (names.publisher other) =
          λ i subscriber. followed.others (names.publisher other) subscriber (apart_name other off) i in (
            one.0,
            at_others (names.publisher other) (apart_name other off) ∙ one.1,
            subst (λ reader. PublisherStandsFor (names.message other) reader old.sizes.max_subscribers found one.0)
                (sym (reader_off other off)) one.2,
            subst (λ reader. MailboxesStandFor (names.message other) reader names.subscriber found
                (followed.new_mailboxes (names.publisher other)) service.subscribers) (sym (reader_off other off))
                (subst (λ boxes. MailboxesStandFor (names.message other) (names.reader other) names.subscriber found boxes
                service.subscribers) (sym same_boxes) one.3),
          )

      same_stands : after.stands ≡ port.stands
      same_stands = ap (λ (one : PublisherPort T U). one.stands) followed.only

      same_place : after.place ≡ port.place
      same_place = ap (λ (one : PublisherPort T U). one.place) followed.only

      listed : (other : ℕ) (found : PublisherPort T U) → (other ≡ number) ⊎ (other ≢ number) → port_of other new.publishers ≡ Some found
          → IsListedAt old.publisher_list.places other found
      listed other found (inl same) it =
          subst (λ n. IsListedAt old.publisher_list.places n found) (sym same)
          (subst (λ (one : PublisherPort T U). IsListedAt old.publisher_list.places number one) (sym (is_after other found same it))
          (λ standing.
          let before = stands.listed number port there (sym same_stands ∙ standing) in
          (before.0, ap (λ place. get_or old.publisher_list.places place None) same_place ∙ before.1, before.2)))
      listed other found (inr off) it = stands.listed other found (sym (elsewhere other off) ∙ it)

      present : (other place : ℕ) (found : PublisherPort T U) → (other ≡ number) ⊎ (other ≢ number)
          → port_of other old.publishers ≡ Some found → found.stands ≡ true → found.place ≡ place
          → (one : PublisherPort T U) × (port_of other new.publishers ≡ Some one) × (one.stands ≡ true) × (one.place ≡ place)
      present other place found (inl same) it standing placed =
          let is = is_port other found same it in (
            after,
            ap (λ n. port_of n new.publishers) same ∙ now,
            same_stands ∙ sym (ap (λ (one : PublisherPort T U). one.stands) is) ∙ standing,
            same_place ∙ sym (ap (λ (one : PublisherPort T U). one.place) is) ∙ placed,
          )
      present other place found (inr off) it standing placed = (found, elsewhere other off ∙ it, standing, placed)

      gone : (other : ℕ) (one : Publisher T) → (other ≡ number) ⊎ (other ≢ number) → port_of other new.publishers ≡ None
          → at (names.publisher other) service_after.publishers ≡ Some one → one.stands ≡ false
      gone other one (inl same) none it = never_some after (sym none ∙ ap (λ n. port_of n new.publishers) same ∙ now)
      gone other one (inr off) none it =
          stands.gone_publishers other one (sym (elsewhere other off) ∙ none)
          (sym (at_others (names.publisher other) (apart_name other off)) ∙ it)

      own_number : (other : ℕ) (found : PublisherPort T U) → (other ≡ number) ⊎ (other ≢ number)
          → port_of other new.publishers ≡ Some found → found.number ≡ other
      own_number other found (inl same) it =
          ap (λ (one : PublisherPort T U). one.number) (is_after other found same it)
          ∙ (ap (λ (one : PublisherPort T U). one.number) followed.only ∙ (stands.numbered number port there ∙ sym same))
      own_number other found (inr off) it = stands.numbered other found (sym (elsewhere other off) ∙ it)

      keyed : (other : ℕ) (found : PublisherPort T U) → (other ≡ number) ⊎ (other ≢ number) → port_of other new.publishers ≡ Some found
          → IsKeyed other found old.subscribers
      keyed other found (inl same) it =
          subst (λ n. IsKeyed n found old.subscribers) (sym same)
          (subst (λ (one : PublisherPort T U). IsKeyed number one old.subscribers) (sym (is_after other found same it))
          (λ index to read attached. stands.keyed number port there index to (followed.read index to read attached) attached))
      keyed other found (inr off) it = stands.keyed other found (sym (elsewhere other off) ∙ it)

      joined_by : (one other : ℕ) → (one ≡ its_name) ⊎ (one ≢ its_name) → is_some (followed.new_mailboxes one other) ≡ true
          → (is_some (at one service_after.publishers) ≡ true) × (is_some (at other service.subscribers) ≡ true)
      joined_by one other (inl same) is = (
        ap (λ n. is_some (at n service_after.publishers)) same ∙ ap is_some at_it,
        ⊎_elim (λ had. (stands.joined its_name other had).1) (λ there. there)
            (followed.joined other (ap (λ n. is_some (followed.new_mailboxes n other)) (sym same) ∙ is)),
      )
      joined_by one other (inr off) is =
          let before = stands.joined one other (ap is_some (sym (followed.others one other off)) ∙ is) in
          (ap is_some (at_others one off) ∙ before.0, before.1)

      -- of whose connection something is borrowed has its name still
      named_by_taken : (entry : ℕ × Taken) → Contains held entry → (entry.1.publisher ≡ number) ⊎ (entry.1.publisher ≢ number)
          → names.reader entry.1.publisher entry.1.index ≡ names.subscriber entry.1.subscriber
          → names_after.reader entry.1.publisher entry.1.index ≡ names.subscriber entry.1.subscriber
      named_by_taken entry is_in (inr off) so = ap (λ reader. reader entry.1.index) (reader_off entry.1.publisher off) ∙ so
      named_by_taken entry is_in (inl same) so =
          ap (λ n. names_after.reader n entry.1.index) same ∙ ap (λ reader. reader entry.1.index) reader_here
          ∙ followed.named entry.1.index some ∙ ap (λ n. names.reader n entry.1.index) (sym same) ∙ so
        where
          its : ℕ × Taken → Bool
          its other = (other.1.publisher == number) && (other.1.index == entry.1.index)

          is_its : its entry ≡ true
          is_its = ap (λ b. b && (entry.1.index == entry.1.index)) (eq-eqb entry.1.publisher number same)
              ∙ eq-eqb entry.1.index entry.1.index refl

          no_slots : {X Y : Type 0} (f : X → Y) (xs : List X) → map f xs ≡ [] → xs ≡ []
          no_slots f [] none = refl
          no_slots f (x ∷ xs) none = absurd (cc)

          some : (connection_of entry.1.index port).borrowed ≢ []
          some none =
              let connection = ap (λ found. connection_at_port entry.1.index found) there in
              let slots : slots_held_of number entry.1.index held ≡ [] =
              stands.samples.all number entry.1.index
              ∙ ap (λ (one : Connection (domain.Message T U)). map (λ (message : domain.Message T U). message.slot) one.borrowed) connection
              ∙ ap (map (λ (message : domain.Message T U). message.slot)) none in
              let kept : filter its held ≡ [] = no_slots (λ (other : ℕ × Taken). other.1.slot) (filter its held) slots in
              differ (sym is_its ∙ All-contains (λ other. its other ≡ false) held entry (none_pass its held kept) is_in)

      samples_after : SamplesStandFor names_after new held service.samples
      samples_after =
          let alike = samples_alike names held old number port after there followed.borrowed service.samples stands.samples in
          record {
            same = alike.same;
            once = alike.once;
            all = alike.all;
            whose = All-weaker (λ (entry : ℕ × Taken). Contains held entry)
                (λ (entry : ℕ × Taken). names_after.reader entry.1.publisher entry.1.index ≡ names.subscriber entry.1.subscriber)
                (λ entry is_in. named_by_taken entry is_in (cases_eq entry.1.publisher number)
                (All-contains (λ (other : ℕ × Taken). names.reader other.1.publisher other.1.index
                ≡ names.subscriber other.1.subscriber) held entry stands.samples.whose is_in))
                held (All-contains_itself held);
            counted = alike.counted;
          }

      loans_after : LoansStandFor names_after new lent service.loans
      loans_after =
          let kept = loans_kept number port after old there names lent service.loans
          (ap (λ (one : PublisherPort T U). one.sender.uses.loans) followed.only) stands.loans in
          record { same = kept.same; once = kept.once; all = kept.all }

      pub follows_stands : StandsFor names_after lent held buffer new service_after
      follows_stands = record {
        sizes = stands.sizes;
        publisher_list = stands.publisher_list;
        subscriber_list = stands.subscriber_list;
        named_publishers = still_named names.publisher its_name publisher_after was.0 service.publishers service_after.publishers was.1
            at_it at_others stands.named_publishers;
        named_subscribers = stands.named_subscribers;
        unnamed = stands.unnamed;
        publishers = λ other found it. each other found (cases_eq other number) it;
        listed = λ other found it. listed other found (cases_eq other number) it;
        present = λ place member is.
            let before = stands.present place member is in
            present member.value.publisher place before.0 (cases_eq member.value.publisher number) before.1 before.2 before.3;
        gone_publishers = λ other one none it. gone other one (cases_eq other number) none it;
        numbered = λ other found it. own_number other found (cases_eq other number) it;
        once = λ other. subst (λ keys. how_often other keys ≤ 1) (sym (keys-set_value (at_number number) old.publishers after))
            (stands.once other);
        once_subscribers = stands.once_subscribers;
        keyed = λ other found it. keyed other found (cases_eq other number) it;
        subscribers = stands.subscribers;
        gone_subscribers = stands.gone_subscribers;
        listed_subscribers = stands.listed_subscribers;
        present_subscribers = stands.present_subscribers;
        sized = stands.sized;
        joined = λ one other is. joined_by one other (cases_eq one its_name) is;
        loans = loans_after;
        samples = samples_after;
      }

-- A subscriber is added to a domain and to the machine's service; it isn't connected to any publisher yet.
use Rattle.std.proofs.Common.{◌≡◌, ◌≢◌, ◌≤◌, ◌<◌, ◌⊎◌, ◌+◌, ◌∷◌, [], ◌++◌, ◌==◌, ℕ, zero, suc, true, false, List, length, map, get_or}
use Rattle.std.proofs.Common.{set, Option, None, Some, refl, sym, ap, subst, inl, inr, ◌∙◌, arith}
use Rattle.std.proofs.lemmas.Bool.{cases_eq, eq-eqb}
use Rattle.std.proofs.lemmas.List.{get_or-set_other, get_or-set_same, map-set}
use Rattle.std.proofs.lemmas.List.Elements.{All-head, All-tail}
use Rattle.std.specs.List.{All}
use Rattle.std.specs.Map.{keys_of}
use Rattle.std.specs.Prelude.{is_some, option_map}
use Rattle.iox_domain.proofs.Coming.{lookup-came}
use Rattle.iox_domain.proofs.Keys.{adds_other, adds_same}
use Rattle.iox_domain.proofs.Numbered.{other_came}
use Rattle.iox_domain.specs.Container.declared.container.Member.{Member}
use Rattle.iox_domain.specs.DomainPorts.declared.attached.Taken.{Taken}
use Rattle.iox_domain.specs.DomainPorts.declared.publisher_port.PublisherPort.{PublisherPort}
use Rattle.iox_domain.specs.DomainPorts.declared.subscriber_entry.SubscriberEntry.{SubscriberEntry}
use Rattle.iox_domain.specs.DomainPorts.declared.subscriber_port.SubscriberPort.{SubscriberPort}
use Rattle.iox_domain.specs.DomainSlots.Uses.{is_open}
use Rattle.iox_domain.specs.Rolls.{entered}
use Rattle.iox_domain.specs.Subscribers.{subscriber_of, subscriber_added}
use Rattle.iox_domain.specs.Tries.{how_often}
use Rattle.iox_domain.specs.declared.ports.service_ports.ServicePorts.{ServicePorts}
use Rattle.iox_domain_machine.specs.Mailboxes.{MailboxesStandFor}
use Rattle.iox_domain_machine.specs.Naming.{Naming, NamesPorts, list_as, with_name}
use Rattle.iox_domain_machine.specs.Standing.{StandsFor, SubscriberIs, IsSubscriberListedAt}
use Rattle.iox_domain_machine.specs.Subscribers.{SubscriberStandsFor}
use Rattle.iox_domain_machine.specs.Tables.{LentSlot, sample_as, samples_held_by, held_at_port}
use Rattle.iox_domain_machine.proofs.ComesNames.{another_name, came_earlier, kept_at_end, name_of_came, name_of_other, named_came}
use Rattle.iox_domain_machine.proofs.ComesTables.{at_end_other, each_fails, often_came}
use Rattle.iox_domain_machine.proofs.Found.{same_some, never_some, never_true}
use Rattle.iox_domain_machine.proofs.TableEnds.{at_end}
use Rattle.iox_machine.proofs.Shorthands.{registered}
use Rattle.iox_machine.specs.Mailbox.{Mailbox}
use Rattle.iox_machine.specs.Service.{Service, Subscriber}
use Rattle.iox_machine.specs.Table.{at}

-- samples are the same where each has the same names
pub same_each : {A B : Type 0} (P : A → Type 0) (f g : A → B) (all : List (ℕ × A)) → ((a : A) → P a → f a ≡ g a)
    → All (λ (entry : ℕ × A). P entry.1) all
    → map {B = ℕ × B} (λ (entry : ℕ × A). (entry.0, f entry.1)) all ≡ map {B = ℕ × B} (λ (entry : ℕ × A). (entry.0, g entry.1)) all
same_each P f g [] same holds = refl
same_each {A} {B} P f g (entry ∷ all) same holds =
    ap (λ (b : B). (entry.0, b) ∷ map {B = ℕ × B} (λ (entry : ℕ × A). (entry.0, f entry.1)) all)
    (same entry.1 (All-head (λ (entry : ℕ × A). P entry.1) entry all holds))
    ∙ ap (λ rest. (entry.0, g entry.1) ∷ rest) (same_each P f g all same (All-tail (λ (entry : ℕ × A). P entry.1) entry all holds))

-- members at places have the same names by two namings
pub same_members : {V : Type 0} (f g : V → ℕ) (places : List (Option (Member V)))
    → ((place : ℕ) (member : Member V) → get_or places place None ≡ Some member → f member.value ≡ g member.value)
    → map (option_map (λ (member : Member V). f member.value)) places ≡ map (option_map (λ (member : Member V). g member.value)) places
same_members f g [] same = refl
same_members f g (None ∷ places) same = ap (λ rest. None ∷ rest) (same_members f g places (λ place. same (suc place)))
same_members {V} f g (Some member ∷ places) same =
    ap (λ n. Some n ∷ map (option_map (λ (member : Member V). f member.value)) places) (same zero member refl)
    ∙ ap (λ rest. Some (g member.value) ∷ rest) (same_members f g places (λ place. same (suc place)))

module _ {T U : Type 0} (names : Naming) (lent : List (ℕ × LentSlot)) (held : List (ℕ × Taken)) (buffer : ℕ) (old : ServicePorts T U)
    (service : Service T) (name place size : ℕ) (port : SubscriberPort) (one : Subscriber)
    (stands : StandsFor names lent held buffer old service) (fresh : at name service.subscribers ≡ None) (named_so : name ≢ 0)
    (none_there : subscriber_of old.next_port old.subscribers ≡ None)
    (next_once : how_often old.next_port (keys_of old.subscribers) ≡ 0)
    (free : get_or old.subscriber_list.places place None ≡ None) (within : place < length old.subscriber_list.places)
    (port_stands : port.stands ≡ true) (port_place : port.place ≡ place) (port_held : port.held ≡ 0)
    (few : size ≤ old.sizes.subscriber_max_buffer_size) (one_stands : one.stands ≡ true) (one_size : one.buffer_size ≡ size)
    (is : SubscriberStandsFor names.publisher old.sizes.max_publishers old.sizes.expired_connections port one) where
  abbrev next : ℕ
  next = old.next_port

  abbrev pub came_ports : ServicePorts T U
  came_ports = record old {
    next_port = old.next_port + 1;
    subscriber_list = entered place (record { subscriber = old.next_port; buffer_size = size }) old.subscriber_list;
    subscribers = subscriber_added old.next_port port old.subscribers;
  }

  abbrev pub came_names : Naming
  came_names = record names { subscriber = with_name old.next_port name names.subscriber }

  abbrev pub came_service : Service T
  came_service = record service {
    subscriber_list = registered place name service.subscriber_list;
    subscribers = service.subscribers ++ (name, one) ∷ [];
  }

  abbrev entry : SubscriberEntry
  entry = record { subscriber = old.next_port; buffer_size = size }

  abbrev came : Member SubscriberEntry
  came = record { number = old.subscriber_list.changes + 1; owner = 1; value = entry }

  abbrev new_places : List (Option (Member SubscriberEntry))
  new_places = set old.subscriber_list.places place (Some came)

  unnamed_next : names.subscriber next ≡ 0
  unnamed_next = (stands.unnamed next (omega arith)).1

  its_name : with_name next name names.subscriber next ≡ name
  its_name = name_of_came names.subscriber service.subscribers name next one stands.named_subscribers unnamed_next fresh named_so

  same_name : (other : ℕ) → other ≢ next → with_name next name names.subscriber other ≡ names.subscriber other
  same_name = name_of_other names.subscriber service.subscribers name next one stands.named_subscribers unnamed_next fresh named_so

  not_next : (other : ℕ) → names.subscriber other ≢ 0 → other ≢ next
  not_next = came_earlier names.subscriber service.subscribers name next one stands.named_subscribers unnamed_next fresh named_so

  not_found : (other : ℕ) (found : SubscriberPort) → subscriber_of other old.subscribers ≡ Some found → other ≢ next
  not_found other found it same = never_some found (sym none_there ∙ ap (λ n. subscriber_of n old.subscribers) (sym same) ∙ it)

  now_there : subscriber_of next came_ports.subscribers ≡ Some port
  now_there = lookup-came next port old.subscribers

  elsewhere : (other : ℕ) → other ≢ next → subscriber_of other came_ports.subscribers ≡ subscriber_of other old.subscribers
  elsewhere other off = other_came next other old.subscribers port off

  found_still : (other : ℕ) (found : SubscriberPort) → subscriber_of other old.subscribers ≡ Some found
      → subscriber_of other came_ports.subscribers ≡ Some found
  found_still other found it = elsewhere other (not_found other found it) ∙ it

  one_there : at name came_service.subscribers ≡ Some one
  one_there = at_end name one service.subscribers fresh

  others_there : (other : ℕ) → other ≢ name → at other came_service.subscribers ≡ at other service.subscribers
  others_there other off = at_end_other name one other service.subscribers off

  still_there : (other : ℕ) → is_some (at other service.subscribers) ≡ true → at other came_service.subscribers
      ≡ at other service.subscribers
  still_there = kept_at_end names.subscriber service.subscribers name next one stands.named_subscribers unnamed_next fresh named_so

  name_known : (other : ℕ) → names.subscriber other ≢ 0 → names.subscriber other ≢ name
  name_known = another_name names.subscriber service.subscribers name next one stands.named_subscribers unnamed_next fresh named_so

  named_now : NamesPorts (with_name next name names.subscriber) came_service.subscribers
  named_now = named_came names.subscriber service.subscribers name next one stands.named_subscribers unnamed_next fresh named_so

  -- who is listed is another
  listed_other : (at_place : ℕ) (member : Member SubscriberEntry) → get_or old.subscriber_list.places at_place None ≡ Some member
      → member.value.subscriber ≢ next
  listed_other at_place member it =
      let there = stands.present_subscribers at_place member it in
      not_found member.value.subscriber there.0 there.1

  same_list : registered place name service.subscriber_list
      ≡ list_as (λ (entry : SubscriberEntry). with_name next name names.subscriber entry.subscriber) came_ports.subscriber_list
  same_list =
      ap (registered place name) stands.subscriber_list
      ∙ ap (λ (places : List (Option ℕ)). record { places = set places place (Some name); changes = old.subscriber_list.changes + 1 })
      (same_members (λ (entry : SubscriberEntry). names.subscriber entry.subscriber)
      (λ (entry : SubscriberEntry). with_name next name names.subscriber entry.subscriber) old.subscriber_list.places
      (λ at_place member it. sym (same_name member.value.subscriber (listed_other at_place member it))))
      ∙ ap (λ (n : ℕ). record {
        places = set (map (option_map (λ (member : Member SubscriberEntry). with_name next name names.subscriber member.value.subscriber))
            old.subscriber_list.places) place (Some n);
        changes = old.subscriber_list.changes + 1;
      }) (sym its_name)
      ∙ ap (λ (places : List (Option ℕ)). record { places = places; changes = old.subscriber_list.changes + 1 })
      (sym (map-set (option_map (λ (member : Member SubscriberEntry). with_name next name names.subscriber member.value.subscriber))
      old.subscriber_list.places place (Some came)))

  -- the mailboxes are those of the same
  boxes_now : (message reader : ℕ → ℕ) (found : PublisherPort T U) (publisher : ℕ)
      → MailboxesStandFor message reader names.subscriber found (service.mailboxes publisher) service.subscribers
      → MailboxesStandFor message reader (with_name next name names.subscriber) found (service.mailboxes publisher) came_service.subscribers
  boxes_now message reader found publisher boxes = record {
    live = boxes.live;
    ended = λ index so.
        let it = boxes.ended index so in (
          it.0,
          it.1,
          it.2,
          λ standing. (
            (it.3 standing).0,
            λ subscriber at_it. (it.3 standing).1 subscriber
                (sym (still_there (reader index) (boxes.known index (ap is_open so))) ∙ at_it),
          ),
        );
    quiet = boxes.quiet;
    others = boxes.others;
    none = λ other joins standing subscriber at_it subscriber_stands. elim (cases_eq other name) [
      | inl same ↦ no_box publisher other (ap (λ n. at n service.subscribers) same ∙ fresh)
      | inr off ↦ boxes.none other joins standing subscriber (sym (others_there other off) ∙ at_it) subscriber_stands
    ];
    known = λ index so. let some = boxes.known index so in ap is_some (still_there (reader index) some) ∙ some;
    apart = boxes.apart;
    led = boxes.led;
    heard = boxes.heard;
    read = λ index to led.
        let it = boxes.read index to led in
        let same = same_name to.subscriber (not_next to.subscriber it.1) in
        (it.0 ∙ sym same, λ none. it.1 (sym same ∙ none));
    unmet = boxes.unmet;
    once = boxes.once;
    due = boxes.due;
  }
    where
      no_box : (publisher other : ℕ) → at other service.subscribers ≡ None → service.mailboxes publisher other ≡ None
      no_box publisher other none = by (service.mailboxes publisher other) refl
        where
          by : (box : Option (Mailbox T)) → service.mailboxes publisher other ≡ box → box ≡ None
          by None is_box = refl
          by (Some box) is_box =
              never_true (sym (ap is_some none) ∙ (stands.joined publisher other (ap is_some is_box)).1)

  each_subscriber : (other : ℕ) (found : SubscriberPort) → (other ≡ next) ⊎ (other ≢ next)
      → subscriber_of other came_ports.subscribers ≡ Some found → SubscriberIs came_names came_ports came_service other found
  each_subscriber other found (inl same) it =
      let own : found ≡ port = same_some found port (sym it ∙ ap (λ n. subscriber_of n came_ports.subscribers) same ∙ now_there) in
      subst (λ n. SubscriberIs came_names came_ports came_service n found) (sym same)
      (subst (λ (found : SubscriberPort). SubscriberIs came_names came_ports came_service next found) (sym own)
      (one, ap (λ n. at n came_service.subscribers) its_name ∙ one_there, is))
  each_subscriber other found (inr off) it =
      let before = stands.subscribers other found (sym (elsewhere other off) ∙ it) in (
        before.0,
        ap (λ n. at n came_service.subscribers) (same_name other off)
            ∙ still_there (names.subscriber other) (ap is_some before.1) ∙ before.1,
        before.2,
      )

  gone : (other : ℕ) (found : Subscriber) → (other ≡ next) ⊎ (other ≢ next) → subscriber_of other came_ports.subscribers ≡ None
      → at (with_name next name names.subscriber other) came_service.subscribers ≡ Some found → found.stands ≡ false
  gone other found (inl same) none it = never_some port (sym none ∙ ap (λ n. subscriber_of n came_ports.subscribers) same ∙ now_there)
  gone other found (inr off) none it = by (cases_eq (names.subscriber other) name)
    where
      it_was : at (names.subscriber other) came_service.subscribers ≡ Some found
      it_was = ap (λ n. at n came_service.subscribers) (sym (same_name other off)) ∙ it

      by : (names.subscriber other ≡ name) ⊎ (names.subscriber other ≢ name) → found.stands ≡ false
      by (inl same) = absurd (name_known other (λ none_so. named_so (sym same ∙ none_so)) same)
      by (inr apart) = stands.gone_subscribers other found (sym (elsewhere other off) ∙ none)
          (sym (others_there (names.subscriber other) apart) ∙ it_was)

  listed_now : (other : ℕ) (found : SubscriberPort) → (other ≡ next) ⊎ (other ≢ next)
      → subscriber_of other came_ports.subscribers ≡ Some found → IsSubscriberListedAt new_places other found
  listed_now other found (inl same) it standing =
      let own : found ≡ port = same_some found port (sym it ∙ ap (λ n. subscriber_of n came_ports.subscribers) same ∙ now_there) in (
        came,
        ap (λ n. get_or new_places n None) (ap (λ (one_port : SubscriberPort). one_port.place) own ∙ port_place)
            ∙ get_or-set_same old.subscriber_list.places place (Some came) None within,
        sym same,
      )
  listed_now other found (inr off) it standing =
      let before = stands.listed_subscribers other found (sym (elsewhere other off) ∙ it) standing in (
        before.0,
        get_or-set_other old.subscriber_list.places place found.place (Some came) None
            (λ same. never_some before.0 (sym free ∙ ap (λ n. get_or old.subscriber_list.places n None) (sym same) ∙ before.1))
            ∙ before.1,
        before.2,
      )

  -- who is at a place of the list is who came, or was there
  at_place_now : (at_place : ℕ) (member : Member SubscriberEntry) → get_or new_places at_place None ≡ Some member
      → ((at_place ≡ place) × (member ≡ came)) ⊎ ((at_place ≢ place) × (get_or old.subscriber_list.places at_place None ≡ Some member))
  at_place_now at_place member it = elim (cases_eq at_place place) [
    | inl same ↦ inl (
      same,
      same_some member came (sym it ∙ ap (λ n. get_or new_places n None) same
          ∙ get_or-set_same old.subscriber_list.places place (Some came) None within),
    )
    | inr off ↦ inr (off, sym (get_or-set_other old.subscriber_list.places place at_place (Some came) None off) ∙ it)
  ]

  -- no sample is that of who came
  none_held : All (λ (entry : ℕ × Taken). (entry.1.subscriber == next) ≡ false) held
  none_held = each_fails (λ (entry : ℕ × Taken). entry.1.subscriber == next) held
      (stands.samples.counted next ∙ ap held_at_port none_there)

  other_taker : (taken : Taken) → (taken.subscriber == next) ≡ false → taken.subscriber ≢ next
  other_taker taken off same = never_true (sym off ∙ eq-eqb taken.subscriber next same)

  -- the subscriber is there, and listed
  pub came_stands : StandsFor came_names lent held buffer came_ports came_service
  came_stands = record {
    sizes = stands.sizes;
    publisher_list = stands.publisher_list;
    subscriber_list = same_list;
    named_publishers = stands.named_publishers;
    named_subscribers = named_now;
    unnamed = λ other above.
        let before = stands.unnamed other (omega (arith, above)) in
        (before.0, same_name other (λ same. absurd (omega (arith, same, above))) ∙ before.1);
    publishers = λ other found it.
        let before = stands.publishers other found it in (
          before.0,
          before.1,
          before.2,
          boxes_now (names.message other) (names.reader other) found (names.publisher other) before.3,
        );
    listed = stands.listed;
    present = stands.present;
    gone_publishers = stands.gone_publishers;
    numbered = stands.numbered;
    once = stands.once;
    once_subscribers = λ other. elim (cases_eq other next) [
      | inl same ↦ omega (
        arith,
        often_came other next port old.subscribers,
        adds_same other next same,
        ap (λ n. how_often n (keys_of old.subscribers)) same,
        next_once,
      )
      | inr off ↦ omega (arith, often_came other next port old.subscribers, adds_other other next off, stands.once_subscribers other)
    ];
    keyed = λ other found it index to led attached.
        let before = stands.keyed other found it index to led attached in
        (before.0, found_still to.subscriber before.0 before.1, before.2, before.3, before.4);
    subscribers = λ other found it. each_subscriber other found (cases_eq other next) it;
    gone_subscribers = λ other found none it. gone other found (cases_eq other next) none it;
    listed_subscribers = λ other found it. listed_now other found (cases_eq other next) it;
    present_subscribers = λ at_place member it. elim (at_place_now at_place member it) [
      | inl own ↦ (
        port,
        ap (λ (m : Member SubscriberEntry). subscriber_of m.value.subscriber came_ports.subscribers) own.1 ∙ now_there,
        port_stands,
        port_place ∙ sym own.0,
      )
      | inr was ↦
          let before = stands.present_subscribers at_place member was.1 in
          (before.0, found_still member.value.subscriber before.0 before.1, before.2, before.3)
    ];
    sized = λ at_place member it. elim (at_place_now at_place member it) [
      | inl own ↦ (
        one,
        ap (λ (m : Member SubscriberEntry). at (with_name next name names.subscriber m.value.subscriber) came_service.subscribers) own.1
            ∙ ap (λ n. at n came_service.subscribers) its_name ∙ one_there,
        one_stands,
        one_size ∙ ap (λ (m : Member SubscriberEntry). m.value.buffer_size) (sym own.1),
        subst (λ (m : Member SubscriberEntry). m.value.buffer_size ≤ old.sizes.subscriber_max_buffer_size) (sym own.1) few,
      )
      | inr was ↦
          let before = stands.sized at_place member was.1 in (
            before.0,
            ap (λ n. at n came_service.subscribers) (same_name member.value.subscriber (listed_other at_place member was.1))
                ∙ still_there (names.subscriber member.value.subscriber) (ap is_some before.1) ∙ before.1,
            before.2,
            before.3,
            before.4,
          )
    ];
    joined = λ first second some.
        let before = stands.joined first second some in
        (before.0, ap is_some (still_there second before.1) ∙ before.1);
    loans = record { same = stands.loans.same; once = stands.loans.once; all = stands.loans.all };
    samples = record {
      same = stands.samples.same
          ∙ same_each (λ (taken : Taken). (taken.subscriber == next) ≡ false) (sample_as names old) (sample_as came_names came_ports) held
          (λ taken off. ap (λ (n : ℕ). record (sample_as names old taken) { subscriber = n })
          (sym (same_name taken.subscriber (other_taker taken off)))) none_held;
      once = stands.samples.once;
      all = stands.samples.all;
      whose = λ at_place d below.
          stands.samples.whose at_place d below
          ∙ sym (same_name (get_or held at_place d).1.subscriber
          (other_taker (get_or held at_place d).1 (none_held at_place d below)));
      counted = λ other. elim (cases_eq other next) [
        | inl same ↦
            ap (λ n. samples_held_by n held) same ∙ stands.samples.counted next ∙ ap held_at_port none_there ∙ sym port_held
            ∙ sym (ap (λ n. held_at_port (subscriber_of n came_ports.subscribers)) same ∙ ap held_at_port now_there)
        | inr off ↦ stands.samples.counted other ∙ ap held_at_port (sym (elsewhere other off))
      ];
    };
  }

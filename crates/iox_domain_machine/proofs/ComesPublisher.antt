-- A publisher is added to a domain and to the machine's service; it isn't connected to any subscriber yet.
use Rattle.std.proofs.Common.{◌≡◌, ◌≢◌, ◌<◌, ◌⊎◌, ◌&&◌, ◌+◌, ◌∷◌, [], ◌++◌, ◌==◌, ℕ, Bool, true, false, List, length, map, get_or, set}
use Rattle.std.proofs.Common.{Option, None, Some, refl, sym, ap, subst, inl, inr, ◌∙◌, arith}
use Rattle.std.proofs.lemmas.Bool.{cases_eq, eq-eqb}
use Rattle.std.proofs.lemmas.List.{get_or-set_other, get_or-set_same, map-set}
use Rattle.std.proofs.lemmas.List.Elements.{All-contains, All-contains_itself, All-weaker}
use Rattle.std.specs.List.{All, Contains, filter}
use Rattle.std.specs.Map.{keys_of}
use Rattle.std.specs.Option.{option_map_or}
use Rattle.std.specs.Prelude.{is_some, option_and_then, option_map}
use Rattle.iox_domain.proofs.Coming.{lookup-came}
use Rattle.iox_domain.proofs.Keys.{adds_other, adds_same}
use Rattle.iox_domain.proofs.Numbered.{other_came}
use Rattle.iox_domain.specs.Container.declared.container.Member.{Member}
use Rattle.iox_domain.specs.DomainPorts.Messages as domain
use Rattle.iox_domain.specs.DomainPorts.Places.{reached}
use Rattle.iox_domain.specs.DomainPorts.Publishers.{port_of, added, connection_at_port}
use Rattle.iox_domain.specs.DomainPorts.Subscribing.{attached_at}
use Rattle.iox_domain.specs.DomainPorts.declared.attached.Attached.{Attached}
use Rattle.iox_domain.specs.DomainPorts.declared.attached.Taken.{Taken}
use Rattle.iox_domain.specs.DomainPorts.declared.publisher_entry.PublisherEntry.{PublisherEntry}
use Rattle.iox_domain.specs.DomainPorts.declared.publisher_port.PublisherPort.{PublisherPort}
use Rattle.iox_domain.specs.DomainPorts.declared.subscriber_port.SubscriberPort.{SubscriberPort}
use Rattle.iox_domain.specs.DomainSlots.Uses.{Connection, nobody}
use Rattle.iox_domain.specs.Lending.{loan_at_port}
use Rattle.iox_domain.specs.Reading.{sample_at_port}
use Rattle.iox_domain.specs.Rolls.{entered}
use Rattle.iox_domain.specs.Subscribers.{subscriber_of}
use Rattle.iox_domain.specs.Tries.{how_often}
use Rattle.iox_domain.specs.declared.ports.service_ports.ServicePorts.{ServicePorts}
use Rattle.iox_domain_machine.specs.Mailboxes.{MailboxesStandFor, IsKeyed}
use Rattle.iox_domain_machine.specs.Naming.{Naming, list_as, with_name}
use Rattle.iox_domain_machine.specs.Publishers.{PublisherStandsFor}
use Rattle.iox_domain_machine.specs.Standing.{StandsFor, PublisherIs, IsListedAt}
use Rattle.iox_domain_machine.specs.Subscribers.{SubscriberStandsFor, publisher_by}
use Rattle.iox_domain_machine.specs.Tables.{LentSlot, loan_as, sample_as, slots_lent_by, slots_held_of, loans_at_port}
use Rattle.iox_domain_machine.proofs.ComesNames.{another_name, kept_at_end, name_of_came, name_of_other, named_came}
use Rattle.iox_domain_machine.proofs.ComesStands.{same_each, same_members}
use Rattle.iox_domain_machine.proofs.ComesTables.{at_end_other, often_came}
use Rattle.iox_domain_machine.proofs.FollowStands.{none_pass}
use Rattle.iox_domain_machine.proofs.Found.{same_some, never_some, never_true, same_everywhere}
use Rattle.iox_domain_machine.proofs.ReleasePort.{differ}
use Rattle.iox_domain_machine.proofs.TableEnds.{at_end}
use Rattle.iox_machine.proofs.Shorthands.{registered}
use Rattle.iox_machine.specs.Service.{Publisher, Service}
use Rattle.iox_machine.specs.Table.{at}

-- where a list is empty when it is mapped it is
pub none_mapped : {X Y : Type 0} (f : X → Y) (xs : List X) → map f xs ≡ [] → xs ≡ []
none_mapped f [] none = refl
none_mapped f (x ∷ xs) none = absurd (cc)

module _ {T U : Type 0} (names : Naming) (lent : List (ℕ × LentSlot)) (held : List (ℕ × Taken)) (buffer : ℕ) (old : ServicePorts T U)
    (service : Service T) (name place : ℕ) (port : PublisherPort T U) (one : Publisher T)
    (stands : StandsFor names lent held buffer old service) (fresh : at name service.publishers ≡ None) (named_so : name ≢ 0)
    (none_there : port_of old.next_port old.publishers ≡ None)
    (next_once : how_often old.next_port (keys_of old.publishers) ≡ 0)
    (free : get_or old.publisher_list.places place None ≡ None) (within : place < length old.publisher_list.places)
    (port_stands : port.stands ≡ true) (port_place : port.place ≡ place) (port_number : port.number ≡ old.next_port)
    (no_loans : port.sender.uses.loans ≡ [])
    (no_connections : port.sender.uses.connections ≡ []) (no_readers : port.readers ≡ [])
    (is : PublisherStandsFor (names.message old.next_port) (names.reader old.next_port) old.sizes.max_subscribers port one)
    (boxes : MailboxesStandFor (names.message old.next_port) (names.reader old.next_port) names.subscriber port (service.mailboxes name)
    service.subscribers)
    (led_apart : (other : ℕ) (found : SubscriberPort) → subscriber_of other old.subscribers ≡ Some found → found.stands ≡ true
    → (key : ℕ) (attached : Attached) → attached_at key found ≡ Some attached → attached.publisher ≢ old.next_port) where
  abbrev next : ℕ
  next = old.next_port

  abbrev pub listed_ports : ServicePorts T U
  listed_ports = record old {
    next_port = old.next_port + 1;
    publisher_list = entered place (record { publisher = old.next_port }) old.publisher_list;
    publishers = added old.next_port port old.publishers;
  }

  abbrev pub listed_names : Naming
  listed_names = record names { publisher = with_name old.next_port name names.publisher }

  abbrev pub listed_service : Service T
  listed_service = record service {
    publisher_list = registered place name service.publisher_list;
    publishers = service.publishers ++ (name, one) ∷ [];
  }

  abbrev came : Member PublisherEntry
  came = record { number = old.publisher_list.changes + 1; owner = 1; value = record { publisher = old.next_port } }

  abbrev new_places : List (Option (Member PublisherEntry))
  new_places = set old.publisher_list.places place (Some came)

  abbrev new_name : ℕ → ℕ
  new_name = with_name next name names.publisher

  unnamed_next : names.publisher next ≡ 0
  unnamed_next = (stands.unnamed next (omega arith)).0

  its : new_name next ≡ name
  its = name_of_came names.publisher service.publishers name next one stands.named_publishers unnamed_next fresh named_so

  same : (other : ℕ) → other ≢ next → new_name other ≡ names.publisher other
  same = name_of_other names.publisher service.publishers name next one stands.named_publishers unnamed_next fresh named_so

  there_still : (other : ℕ) → is_some (at other service.publishers) ≡ true
      → at other listed_service.publishers ≡ at other service.publishers
  there_still = kept_at_end names.publisher service.publishers name next one stands.named_publishers unnamed_next fresh named_so

  another : (other : ℕ) → names.publisher other ≢ 0 → names.publisher other ≢ name
  another = another_name names.publisher service.publishers name next one stands.named_publishers unnamed_next fresh named_so

  not_found : (other : ℕ) (found : PublisherPort T U) → port_of other old.publishers ≡ Some found → other ≢ next
  not_found other found it same = never_some found (sym none_there ∙ ap (λ n. port_of n old.publishers) (sym same) ∙ it)

  now_there : port_of next listed_ports.publishers ≡ Some port
  now_there = lookup-came next port old.publishers

  elsewhere : (other : ℕ) → other ≢ next → port_of other listed_ports.publishers ≡ port_of other old.publishers
  elsewhere other off = other_came next other old.publishers port off

  found_still : (other : ℕ) (found : PublisherPort T U) → port_of other old.publishers ≡ Some found
      → port_of other listed_ports.publishers ≡ Some found
  found_still other found it = elsewhere other (not_found other found it) ∙ it

  one_there : at name listed_service.publishers ≡ Some one
  one_there = at_end name one service.publishers fresh

  own : (other : ℕ) (found : PublisherPort T U) → other ≡ next → port_of other listed_ports.publishers ≡ Some found → found ≡ port
  own other found is it = same_some found port (sym it ∙ ap (λ n. port_of n listed_ports.publishers) is ∙ now_there)

  -- who is listed is another
  listed_other : (at_place : ℕ) (member : Member PublisherEntry) → get_or old.publisher_list.places at_place None ≡ Some member
      → member.value.publisher ≢ next
  listed_other at_place member it =
      let there = stands.present at_place member it in
      not_found member.value.publisher there.0 there.1

  same_list : registered place name service.publisher_list
      ≡ list_as (λ (entry : PublisherEntry). new_name entry.publisher) listed_ports.publisher_list
  same_list =
      ap (registered place name) stands.publisher_list
      ∙ ap (λ (places : List (Option ℕ)). record { places = set places place (Some name); changes = old.publisher_list.changes + 1 })
      (same_members (λ (entry : PublisherEntry). names.publisher entry.publisher)
      (λ (entry : PublisherEntry). new_name entry.publisher) old.publisher_list.places
      (λ at_place member it. sym (same member.value.publisher (listed_other at_place member it))))
      ∙ ap (λ (n : ℕ). record {
        places = set (map (option_map (λ (member : Member PublisherEntry). new_name member.value.publisher))
            old.publisher_list.places) place (Some n);
        changes = old.publisher_list.changes + 1;
      }) (sym its)
      ∙ ap (λ (places : List (Option ℕ)). record { places = places; changes = old.publisher_list.changes + 1 })
      (sym (map-set (option_map (λ (member : Member PublisherEntry). new_name member.value.publisher))
      old.publisher_list.places place (Some came)))

  each : (other : ℕ) (found : PublisherPort T U) → (other ≡ next) ⊎ (other ≢ next)
      → port_of other listed_ports.publishers ≡ Some found → PublisherIs listed_names listed_ports listed_service other found
  each other found (inl here) it =
      subst (λ n. PublisherIs listed_names listed_ports listed_service n found) (sym here)
      (subst (λ (found : PublisherPort T U). PublisherIs listed_names listed_ports listed_service next found)
      (sym (own other found here it)) (
        one,
        ap (λ n. at n listed_service.publishers) its ∙ one_there,
        is,
        subst (λ n. MailboxesStandFor (names.message next) (names.reader next) names.subscriber port (service.mailboxes n)
            service.subscribers) (sym its) boxes,
      ))
  each other found (inr off) it =
      let before = stands.publishers other found (sym (elsewhere other off) ∙ it) in (
        before.0,
        ap (λ n. at n listed_service.publishers) (same other off)
            ∙ there_still (names.publisher other) (ap is_some before.1) ∙ before.1,
        before.2,
        subst (λ n. MailboxesStandFor (names.message other) (names.reader other) names.subscriber found (service.mailboxes n)
            service.subscribers) (sym (same other off)) before.3,
      )

  gone : (other : ℕ) (found : Publisher T) → (other ≡ next) ⊎ (other ≢ next) → port_of other listed_ports.publishers ≡ None
      → at (new_name other) listed_service.publishers ≡ Some found → found.stands ≡ false
  gone other found (inl here) none it = never_some port (sym none ∙ ap (λ n. port_of n listed_ports.publishers) here ∙ now_there)
  gone other found (inr off) none it = by (cases_eq (names.publisher other) name)
    where
      by : (names.publisher other ≡ name) ⊎ (names.publisher other ≢ name) → found.stands ≡ false
      by (inl here) = absurd (another other (λ none_so. named_so (sym here ∙ none_so)) here)
      by (inr apart) = stands.gone_publishers other found (sym (elsewhere other off) ∙ none)
          (sym (at_end_other name one (names.publisher other) service.publishers apart)
          ∙ ap (λ n. at n listed_service.publishers) (sym (same other off)) ∙ it)

  listed_now : (other : ℕ) (found : PublisherPort T U) → (other ≡ next) ⊎ (other ≢ next)
      → port_of other listed_ports.publishers ≡ Some found → IsListedAt new_places other found
  listed_now other found (inl here) it standing = (
    came,
    ap (λ n. get_or new_places n None) (ap (λ (one_port : PublisherPort T U). one_port.place) (own other found here it) ∙ port_place)
        ∙ get_or-set_same old.publisher_list.places place (Some came) None within,
    sym here,
  )
  listed_now other found (inr off) it standing =
      let before = stands.listed other found (sym (elsewhere other off) ∙ it) standing in (
        before.0,
        get_or-set_other old.publisher_list.places place found.place (Some came) None
            (λ same. never_some before.0 (sym free ∙ ap (λ n. get_or old.publisher_list.places n None) (sym same) ∙ before.1))
            ∙ before.1,
        before.2,
      )

  own_number : (other : ℕ) (found : PublisherPort T U) → (other ≡ next) ⊎ (other ≢ next)
      → port_of other listed_ports.publishers ≡ Some found → found.number ≡ other
  own_number other found (inl here) it =
      ap (λ (one_port : PublisherPort T U). one_port.number) (own other found here it) ∙ (port_number ∙ sym here)
  own_number other found (inr off) it = stands.numbered other found (sym (elsewhere other off) ∙ it)

  -- who is at a place of the list is who came, or was there
  at_place_now : (at_place : ℕ) (member : Member PublisherEntry) → get_or new_places at_place None ≡ Some member
      → ((at_place ≡ place) × (member ≡ came)) ⊎ ((at_place ≢ place) × (get_or old.publisher_list.places at_place None ≡ Some member))
  at_place_now at_place member it = elim (cases_eq at_place place) [
    | inl here ↦ inl (
      here,
      same_some member came (sym it ∙ ap (λ n. get_or new_places n None) here
          ∙ get_or-set_same old.publisher_list.places place (Some came) None within),
    )
    | inr off ↦ inr (off, sym (get_or-set_other old.publisher_list.places place at_place (Some came) None off) ∙ it)
  ]

  keyed : (other : ℕ) (found : PublisherPort T U) → (other ≡ next) ⊎ (other ≢ next) → port_of other listed_ports.publishers ≡ Some found
      → IsKeyed other found old.subscribers
  keyed other found (inl here) it =
      λ index to read attached. never_some to
      (sym (ap (λ (found : PublisherPort T U). get_or found.readers index None) (own other found here it)
      ∙ ap (λ readers. get_or readers index None) no_readers) ∙ read)
  keyed other found (inr off) it = stands.keyed other found (sym (elsewhere other off) ∙ it)

  -- the keys of a subscriber that stands lead to the same names
  led_by : (found : SubscriberPort) (key : ℕ) (attached : Option Attached)
      → ((it : Attached) → attached ≡ Some it → it.publisher ≢ next)
      → option_map_or (λ (it : Attached). names.publisher it.publisher) attached 0
      ≡ option_map_or (λ (it : Attached). new_name it.publisher) attached 0
  led_by found key None apart = refl
  led_by found key (Some it) apart = sym (same it.publisher (apart it refl))

  leads_same : (other : ℕ) (found : SubscriberPort) → subscriber_of other old.subscribers ≡ Some found → found.stands ≡ true
      → publisher_by names.publisher found ≡ publisher_by new_name found
  leads_same other found it standing =
      same_everywhere (publisher_by names.publisher found) (publisher_by new_name found)
      (λ key. led_by found key (attached_at key found) (λ attached has. led_apart other found it standing key attached has))

  subscriber_still : (other : ℕ) (found : SubscriberPort) (it : subscriber_of other old.subscribers ≡ Some found)
      → SubscriberStandsFor new_name old.sizes.max_publishers old.sizes.expired_connections found (stands.subscribers other found it).0
  subscriber_still other found it =
      let before = stands.subscribers other found it in
      record {
        factory = before.2.factory;
        stands = before.2.stands;
        buffer_size = before.2.buffer_size;
        seen = before.2.seen;
        again = before.2.again;
        connected = λ standing. before.2.connected standing
            ∙ ap (λ by. map (option_map by) (reached old.sizes.max_publishers found.places.items)) (leads_same other found it standing);
        expired = λ standing. before.2.expired standing ∙ ap (λ by. map by found.expired.items) (leads_same other found it standing);
        room = before.2.room;
      }

  -- no loan is one of who came
  none_lent : All (λ (entry : ℕ × LentSlot). (entry.1.publisher == next) ≡ false) lent
  none_lent =
      none_pass (λ (entry : ℕ × LentSlot). entry.1.publisher == next) lent
      (none_mapped (λ (entry : ℕ × LentSlot). entry.1.slot) (filter (λ (entry : ℕ × LentSlot). entry.1.publisher == next) lent)
      (stands.loans.all next ∙ ap loans_at_port none_there))

  -- and no sample came from it
  abbrev from_it : ℕ → ℕ × Taken → Bool
  from_it index entry = (entry.1.publisher == next) && (entry.1.index == index)

  none_from : (index : ℕ) → All (λ (entry : ℕ × Taken). from_it index entry ≡ false) held
  none_from index =
      none_pass (from_it index) held
      (none_mapped (λ (entry : ℕ × Taken). entry.1.slot) (filter (from_it index) held)
      (stands.samples.all next index
      ∙ ap (λ found. map (λ (message : domain.Message T U). message.slot) (connection_at_port index found).borrowed) none_there))

  none_held : All (λ (entry : ℕ × Taken). (entry.1.publisher == next) ≡ false) held
  none_held =
      All-weaker (λ (entry : ℕ × Taken). Contains held entry) (λ (entry : ℕ × Taken). (entry.1.publisher == next) ≡ false)
      (λ entry is_in. by entry is_in (entry.1.publisher == next) refl) held (All-contains_itself held)
    where
      by : (entry : ℕ × Taken) → Contains held entry → (b : Bool) → (entry.1.publisher == next) ≡ b → (entry.1.publisher == next) ≡ false
      by entry is_in false is = is
      by entry is_in true is =
          differ (sym (ap (λ b. b && (entry.1.index == entry.1.index)) is ∙ eq-eqb entry.1.index entry.1.index refl)
          ∙ All-contains (λ other. from_it entry.1.index other ≡ false) held entry (none_from entry.1.index) is_in)

  other_publisher : (publisher : ℕ) → (publisher == next) ≡ false → publisher ≢ next
  other_publisher publisher off same = never_true (sym off ∙ eq-eqb publisher next same)

  same_loan : (out : LentSlot) → (out.publisher == next) ≡ false → loan_as names old out ≡ loan_as listed_names listed_ports out
  same_loan out off =
      let apart = other_publisher out.publisher off in
      ap (λ (n : ℕ). record (loan_as names old out) { publisher = n }) (sym (same out.publisher apart))
      ∙ ap (λ found. record (loan_as listed_names old out) {
        values = option_map_or (λ (loan : domain.Loan T U). loan.values) (loan_at_port out.slot found) [];
      }) (sym (elsewhere out.publisher apart))

  same_sample : (taken : Taken) → (taken.publisher == next) ≡ false → sample_as names old taken ≡ sample_as listed_names listed_ports taken
  same_sample taken off =
      let apart = other_publisher taken.publisher off in
      ap (λ (n : ℕ). record (sample_as names old taken) { publisher = n }) (sym (same taken.publisher apart))
      ∙ ap (λ found. record (sample_as listed_names old taken) {
        message = record {
          number = names.message taken.publisher taken.slot;
          sequence = option_and_then (λ (message : domain.Message T U). message.sequence) (sample_at_port taken found);
          values = option_map_or (λ (message : domain.Message T U). message.values) (sample_at_port taken found) [];
        };
      }) (sym (elsewhere taken.publisher apart))

  loans_now : (publisher : ℕ) → (publisher ≡ next) ⊎ (publisher ≢ next)
      → slots_lent_by publisher lent ≡ loans_at_port (port_of publisher listed_ports.publishers)
  loans_now publisher (inl here) =
      stands.loans.all publisher ∙ ap (λ n. loans_at_port (port_of n old.publishers)) here ∙ ap loans_at_port none_there
      ∙ sym (ap (λ n. loans_at_port (port_of n listed_ports.publishers)) here ∙ ap loans_at_port now_there
      ∙ ap (λ loans. map (λ (loan : domain.Loan T U). loan.slot) loans) no_loans)
  loans_now publisher (inr off) = stands.loans.all publisher ∙ ap loans_at_port (sym (elsewhere publisher off))

  -- the slots of what is borrowed of a connection
  abbrev borrowed_at : ℕ → Option (PublisherPort T U) → List ℕ
  borrowed_at index found = map (λ (message : domain.Message T U). message.slot) (connection_at_port index found).borrowed

  samples_now : (publisher index : ℕ) → (publisher ≡ next) ⊎ (publisher ≢ next)
      → slots_held_of publisher index held
      ≡ borrowed_at index (port_of publisher listed_ports.publishers)
  samples_now publisher index (inl here) =
      stands.samples.all publisher index
      ∙ ap (λ n. borrowed_at index (port_of n old.publishers)) here ∙ ap (borrowed_at index) none_there
      ∙ sym (ap (λ n. borrowed_at index (port_of n listed_ports.publishers)) here ∙ ap (borrowed_at index) now_there
      ∙ ap (λ (connections : List (Connection (domain.Message T U))).
      map (λ (message : domain.Message T U). message.slot) (get_or connections index nobody).borrowed) no_connections)
  samples_now publisher index (inr off) =
      stands.samples.all publisher index ∙ ap (borrowed_at index) (sym (elsewhere publisher off))

  -- the publisher is there, and listed
  pub listed_stands : StandsFor listed_names lent held buffer listed_ports listed_service
  listed_stands = record {
    sizes = stands.sizes;
    publisher_list = same_list;
    subscriber_list = stands.subscriber_list;
    named_publishers =
        named_came names.publisher service.publishers name next one stands.named_publishers unnamed_next fresh named_so;
    named_subscribers = stands.named_subscribers;
    unnamed = λ other above.
        let before = stands.unnamed other (omega (arith, above)) in
        (same other (λ same. absurd (omega (arith, same, above))) ∙ before.0, before.1);
    publishers = λ other found it. each other found (cases_eq other next) it;
    listed = λ other found it. listed_now other found (cases_eq other next) it;
    present = λ at_place member it. elim (at_place_now at_place member it) [
      | inl here ↦ (
        port,
        ap (λ (m : Member PublisherEntry). port_of m.value.publisher listed_ports.publishers) here.1 ∙ now_there,
        port_stands,
        port_place ∙ sym here.0,
      )
      | inr was ↦
          let before = stands.present at_place member was.1 in
          (before.0, found_still member.value.publisher before.0 before.1, before.2, before.3)
    ];
    gone_publishers = λ other found none it. gone other found (cases_eq other next) none it;
    numbered = λ other found it. own_number other found (cases_eq other next) it;
    once = λ other. elim (cases_eq other next) [
      | inl here ↦ omega (
        arith,
        often_came other next port old.publishers,
        adds_same other next here,
        ap (λ n. how_often n (keys_of old.publishers)) here,
        next_once,
      )
      | inr off ↦ omega (arith, often_came other next port old.publishers, adds_other other next off, stands.once other)
    ];
    once_subscribers = stands.once_subscribers;
    keyed = λ other found it. keyed other found (cases_eq other next) it;
    subscribers = λ other found it.
        let before = stands.subscribers other found it in
        (before.0, before.1, subscriber_still other found it);
    gone_subscribers = stands.gone_subscribers;
    listed_subscribers = stands.listed_subscribers;
    present_subscribers = stands.present_subscribers;
    sized = stands.sized;
    joined = λ first second some.
        let before = stands.joined first second some in
        (ap is_some (there_still first before.0) ∙ before.0, before.1);
    loans = record {
      same = stands.loans.same
          ∙ same_each (λ (out : LentSlot). (out.publisher == next) ≡ false) (loan_as names old) (loan_as listed_names listed_ports) lent
          same_loan none_lent;
      once = stands.loans.once;
      all = λ publisher. loans_now publisher (cases_eq publisher next);
    };
    samples = record {
      same = stands.samples.same
          ∙ same_each (λ (taken : Taken). (taken.publisher == next) ≡ false) (sample_as names old) (sample_as listed_names listed_ports)
          held same_sample none_held;
      once = stands.samples.once;
      all = λ publisher index. samples_now publisher index (cases_eq publisher next);
      whose = stands.samples.whose;
      counted = stands.samples.counted;
    };
  }

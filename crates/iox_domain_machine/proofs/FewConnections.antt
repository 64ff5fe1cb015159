-- An open publisher of a domain has few live connections.
use Rattle.std.proofs.Common.{arith, ◌≡◌, ◌+◌, ◌*◌, ◌<◌, ◌≤◌, ◌⊎◌, ◌∷◌, [], ℕ, zero, suc, Bool, true, false, List, length, get_or, inl, inr}
use Rattle.std.proofs.Common.{◌-◌, find, if◌then◌else◌, is_some, map, option_and_then, option_map, zip, Option, None, Some, MatchOption}
use Rattle.std.proofs.Common.{refl, sym, ap, subst, ◌∙◌}
use Rattle.std.proofs.lemmas.Bool.{eq-eqb}
use Rattle.std.specs.List.{AllByRecursion}
use Rattle.iox_command.specs.NegotiateBase.DescribeBase.declared.message_type.MessageTypeDetails.{MessageTypeDetails}
use Rattle.iox_command.specs.declared.command.Command.{Command}
use Rattle.iox_command.specs.declared.reply.Reply.{Reply}
use Rattle.iox_domain.proofs.Roomy.{well_of}
use Rattle.iox_domain.proofs.TiedWell.{still_there}
use Rattle.iox_domain.specs.Container.declared.container.Member.{Member}
use Rattle.iox_domain.specs.DomainPorts.Messages.{Message}
use Rattle.iox_domain.specs.DomainPorts.Places.{is_attached, leads_to, reached}
use Rattle.iox_domain.specs.DomainPorts.Ports.{goes_on, is_live}
use Rattle.iox_domain.specs.DomainPorts.Publishers.{port_of}
use Rattle.iox_domain.specs.DomainPorts.declared.attached.Taken.{Taken}
use Rattle.iox_domain.specs.DomainPorts.declared.publisher_port.PublisherPort.{PublisherPort}
use Rattle.iox_domain.specs.DomainPorts.declared.reader.Reader.{Reader}
use Rattle.iox_domain.specs.DomainPorts.declared.subscriber_entry.SubscriberEntry.{SubscriberEntry}
use Rattle.iox_domain.specs.DomainSlots.Uses.{Connection, nobody}
use Rattle.iox_domain.specs.PortLawsLaws.{IsApart, IsTiedWell}
use Rattle.iox_domain.specs.declared.ports.service_ports.ServicePorts.{ServicePorts}
use Rattle.iox_domain_machine.specs.ConnectionCounts.{live_connections}
use Rattle.iox_domain_machine.specs.Naming.{Naming}
use Rattle.iox_domain_machine.specs.Standing.{StandsFor, PublisherIs}
use Rattle.iox_domain_machine.specs.Tables.{LentSlot}
use Rattle.iox_domain_machine.proofs.FewAtPlaces.{few_at_places}
use Rattle.iox_machine.specs.Choices.{Choices}
use Rattle.iox_machine.specs.FollowLaws.{IsConnectedOrFailed, PublisherIsConnected, WasOnce}
use Rattle.iox_machine.specs.Ports.{publisher_in}
use Rattle.iox_machine.specs.Run.{Runs}
use Rattle.iox_machine.specs.Service.{Publisher, Service}
use Rattle.iox_machine.specs.State.{State, new_state}
use Rattle.iox_machine.specs.Table.{at}

-- the number that is there, if a test passes
abbrev picked : {A : ℕ → Type 0} (passes : Bool) → (passes ≡ true → (number : ℕ) × A number) → ℕ
picked true found = (found refl).0
picked false found = 0

picked_is : {A : ℕ → Type 0} (passes : Bool) (found : passes ≡ true → (number : ℕ) × A number) → passes ≡ true
    → A (picked {A = A} passes found)
picked_is true found is = (found refl).1
picked_is false found is = absurd (cc)

-- a place with a value is within the list
some_within : {A : Type 0} (xs : List (Option A)) (place : ℕ) (value : A) → get_or xs place None ≡ Some value → place < length xs
some_within [] place value is = absurd (cc)
some_within (x ∷ xs) zero value is = omega arith
some_within (x ∷ xs) (suc place) value is = omega (arith, some_within xs place value is)

-- a place of a list whose values are mapped
mapped_at : {A B : Type 0} (f : A → B) (xs : List (Option A)) (place : ℕ)
    → get_or (map (option_map f) xs) place None ≡ option_map f (get_or xs place None)
mapped_at f [] place = refl
mapped_at f (x ∷ xs) zero = refl
mapped_at f (x ∷ xs) (suc place) = mapped_at f xs place

-- what the machine's publisher is connected to at a place where somebody is listed
connected_there : (Failed : ℕ → Type 0) (listed connected : List (Option ℕ)) (place name : ℕ)
    → AllByRecursion (IsConnectedOrFailed Failed) (zip listed connected) → get_or listed place None ≡ Some name
    → (get_or connected place None ≡ Some name) ⊎ (get_or connected place None ≡ None)
connected_there Failed [] connected place name all is = absurd (cc)
connected_there Failed (x ∷ xs) [] place name all is = inr refl
connected_there Failed (x ∷ xs) (y ∷ ys) zero name all is =
    elim (subst (λ (one : Option ℕ). MatchOption one (Unit {0}) (λ listed. (y ≡ Some listed) ⊎ ((y ≡ None) × Failed listed))) is all.0) [
      | inl same ↦ inl same
      | inr failed ↦ inr failed.0
    ]
connected_there Failed (x ∷ xs) (y ∷ ys) (suc place) name all is = connected_there Failed xs ys place name all.1 is

module _ {T U : Type 0} (names : Naming) (lent : List (ℕ × LentSlot)) (held : List (ℕ × Taken)) (buffer : ℕ) (ports : ServicePorts T U)
    (service : Service T) (number : ℕ) (port : PublisherPort T U) (standing : StandsFor names lent held buffer ports service)
    (apart : IsApart ports) (there : port_of number ports.publishers ≡ Some port) (stands : port.stands ≡ true) where
  well : IsTiedWell ports.next_port ports.subscriber_list.places port
  well = well_of ports number port apart there stands

  represents : PublisherIs names ports service number port
  represents = standing.publishers number port there

  -- A subscriber to which this connection leads is listed at this place.
  record LedFrom (place index : ℕ) : Type 0 where
    member : Member SubscriberEntry
    listed : get_or ports.subscriber_list.places place None ≡ Some member
    leads : leads_to member.value.subscriber (get_or port.readers index None) ≡ true

  led_within : (place index : ℕ) → LedFrom place index → place < ports.sizes.max_subscribers
  led_within place index led =
      omega (arith, some_within ports.subscriber_list.places place led.member led.listed, apart.places)

  tied_within : (place index : ℕ) → get_or port.ties.items place None ≡ Some index → place < ports.sizes.max_subscribers
  tied_within place index tie = omega (arith, some_within port.ties.items place index tie, represents.2.ties)

  -- who reads is listed
  reader_listed : (index : ℕ) (found : Option Reader) → get_or port.readers index None ≡ found → is_attached found ≡ true
      → (place : ℕ) × LedFrom place index
  reader_listed index None is reads = absurd (cc)
  reader_listed index (Some to) is reads =
      let (subscriber, found, open_there, key, attached) = standing.keyed number port there index to is reads in
      let (member, listed, same) = standing.listed_subscribers to.subscriber subscriber found open_there in (
        subscriber.place,
        record {
          member = member;
          listed = listed;
          leads = ap (λ reader. leads_to member.value.subscriber reader) is ∙ eq-eqb to.subscriber member.value.subscriber (sym same);
        },
      )

  -- two connections that lead to who is listed at one place are the same
  led_once : (place one other : ℕ) → LedFrom place one → LedFrom place other → one ≡ other
  led_once place one other first second =
      let both : Some first.member ≡ Some second.member = sym first.listed ∙ second.listed in
      let same : second.member ≡ first.member = cc in
      well.sole first.member.value.subscriber one other first.leads
      (ap (λ (member : Member SubscriberEntry). leads_to member.value.subscriber (get_or port.readers other None)) (sym same)
      ∙ second.leads)

  tied_once : (place one other : ℕ) → get_or port.ties.items place None ≡ Some one → get_or port.ties.items place None ≡ Some other
      → one ≡ other
  tied_once place one other first second = let both : Some one ≡ Some other = sym first ∙ second in cc

  -- A live connection has this number: the place from where it is led, or, after all of these, the place that is tied to it.
  record Numbered (index spot : ℕ) : Type 0 where
    place : ℕ
    within : place < ports.sizes.max_subscribers
    is : ((spot ≡ place) × LedFrom place index)
        ⊎ ((spot ≡ ports.sizes.max_subscribers + place) × (get_or port.ties.items place None ≡ Some index))

  numbered : (index : ℕ) → is_live index port ≡ true → (spot : ℕ) × Numbered index spot
  numbered index live = elim (well.known index live) [
    | inl reads ↦
        let (place, led) = reader_listed index (get_or port.readers index None) refl reads in
        (place, record { place = place; within = led_within place index led; is = inl (refl, led) })
    | inr tied ↦ (
      ports.sizes.max_subscribers + tied.0,
      record {
        place = tied.0;
        within = tied_within tied.0 index tied.1;
        is = inr (refl, tied.1);
      },
    )
  ]

  numbered_once : (one other spot spot_too : ℕ) → Numbered one spot → Numbered other spot_too → spot ≡ spot_too → one ≡ other
  numbered_once one other spot spot_too first second same = elim first.is [
    | inl led ↦ elim second.is [
      | inl led_too ↦
          let at_once : second.place ≡ first.place = sym led_too.0 ∙ sym same ∙ led.0 in
          led_once first.place one other led.1 (subst (λ place. LedFrom place other) at_once led_too.1)
      | inr tied ↦ absurd (omega (arith, led.0, tied.0, same, first.within))
    ]
    | inr tied ↦ elim second.is [
      | inl led ↦ absurd (omega (arith, led.0, tied.0, same, second.within))
      | inr tied_too ↦
          let at_once : second.place ≡ first.place = omega (arith, tied.0, tied_too.0, same) in
          tied_once first.place one other tied.1 (ap (λ place. get_or port.ties.items place None) (sym at_once) ∙ tied_too.1)
    ]
  ]

  numbered_within : (index spot : ℕ) → Numbered index spot → spot < 2 * ports.sizes.max_subscribers
  numbered_within index spot has = elim has.is [
    | inl led ↦ omega (arith, has.within, led.0)
    | inr tied ↦ omega (arith, has.within, tied.0)
  ]

  -- the number of each live connection
  abbrev spot_of : ℕ → ℕ
  spot_of index = picked {A = Numbered index} (is_live index port) (numbered index)

  has_spot : (index : ℕ) → is_live index port ≡ true → Numbered index (spot_of index)
  has_spot index live = picked_is {A = Numbered index} (is_live index port) (numbered index) live

  -- a publisher has at most twice as many live connections as subscribers may be listed
  pub few_always : live_connections port ≤ 2 * ports.sizes.max_subscribers
  few_always =
      let all : List (Connection (Message T U)) = port.sender.uses.connections in
      few_at_places {X = Connection (Message T U)} (λ connection. goes_on connection.stage) nobody all spot_of
      (2 * ports.sizes.max_subscribers) (λ index within live. numbered_within index (spot_of index) (has_spot index live))
      (λ one other within within_too live live_too. numbered_once one other (spot_of one) (spot_of other) (has_spot one live)
      (has_spot other live_too))

  module _ (publisher : Publisher T) (Failed : ℕ → Type 0) (found : at (names.publisher number) service.publishers ≡ Some publisher)
      (all : AllByRecursion (IsConnectedOrFailed Failed) (zip service.subscriber_list.places publisher.connected)) where
    same_publisher : publisher ≡ represents.0
    same_publisher = let both : Some publisher ≡ Some represents.0 = sym found ∙ represents.1 in cc

    -- what the machine's list and its publisher have at a place
    listed_name : (place : ℕ) (member : Member SubscriberEntry) → get_or ports.subscriber_list.places place None ≡ Some member
        → get_or service.subscriber_list.places place None ≡ Some (names.subscriber member.value.subscriber)
    listed_name place member listed =
        let name : Member SubscriberEntry → ℕ = λ one. names.subscriber one.value.subscriber in
        ap (λ list. get_or list.places place None) standing.subscriber_list
        ∙ mapped_at name ports.subscriber_list.places place ∙ ap (option_map name) listed

    connected_name : (place index : ℕ) → get_or port.ties.items place None ≡ Some index
        → get_or publisher.connected place None ≡ Some (names.reader number index)
    connected_name place index tie =
        ap (λ (one : Publisher T). get_or one.connected place None) same_publisher
        ∙ ap (λ connected. get_or connected place None) represents.2.connected
        ∙ mapped_at (names.reader number) (reached ports.sizes.max_subscribers port.ties.items) place
        ∙ ap (option_map (names.reader number))
        (still_there port.ties.items (ports.sizes.max_subscribers - length port.ties.items) place ∙ tie)

    -- the connection to which the place of a listed subscriber is tied leads to the subscriber
    name_leads : (index subscriber : ℕ) (to : Option Reader) → get_or port.readers index None ≡ to → is_live index port ≡ true
        → names.reader number index ≡ names.subscriber subscriber → leads_to subscriber (get_or port.readers index None) ≡ true
    name_leads index subscriber None is live name =
        let no : false ≡ true = ap (λ reader. is_some reader) (sym is) ∙ well.all index live in absurd (cc)
    name_leads index subscriber (Some to) is live name =
        let (read, there_is) = represents.3.read index to is in
        let same : to.subscriber ≡ subscriber
        = standing.named_subscribers.apart to.subscriber subscriber there_is (sym read ∙ name) in
        ap (λ reader. leads_to subscriber reader) is ∙ eq-eqb to.subscriber subscriber same

    tie_leads : (place index : ℕ) (member : Member SubscriberEntry) → get_or ports.subscriber_list.places place None ≡ Some member
        → get_or port.ties.items place None ≡ Some index → leads_to member.value.subscriber (get_or port.readers index None) ≡ true
    tie_leads place index member listed tie =
        elim (connected_there Failed service.subscriber_list.places publisher.connected place (names.subscriber member.value.subscriber)
        all (listed_name place member listed)) [
          | inl same ↦
              let both : Some (names.reader number index) ≡ Some (names.subscriber member.value.subscriber)
              = sym (connected_name place index tie) ∙ same in
              let name : names.reader number index ≡ names.subscriber member.value.subscriber = cc in
              name_leads index member.value.subscriber (get_or port.readers index None) refl (well.live place index tie) name
          | inr none ↦
              let no : Some (names.reader number index) ≡ None = sym (connected_name place index tie) ∙ none in absurd (cc)
        ]

    -- A live connection has this place: the place is tied to it, or to none and its subscriber is listed there.
    record Placed (index place : ℕ) : Type 0 where
      within : place < ports.sizes.max_subscribers
      is : (get_or port.ties.items place None ≡ Some index)
          ⊎ ((get_or port.ties.items place None ≡ None) × LedFrom place index)

    placed : (index : ℕ) → is_live index port ≡ true → (place : ℕ) × Placed index place
    placed index live = elim (well.known index live) [
      | inl reads ↦
          let (place, led) = reader_listed index (get_or port.readers index None) refl reads in
          by place led (get_or port.ties.items place None) refl
      | inr tied ↦ (tied.0, record { within = tied_within tied.0 index tied.1; is = inl tied.1 })
    ]
      where
        by : (place : ℕ) → LedFrom place index → (tie : Option ℕ) → get_or port.ties.items place None ≡ tie
            → (place : ℕ) × Placed index place
        by place led None tie = (place, record { within = led_within place index led; is = inr (tie, led) })
        by place led (Some other) tie =
            let same : other ≡ index
            = well.sole led.member.value.subscriber other index (tie_leads place other led.member led.listed tie) led.leads in
            (place, record { within = led_within place index led; is = inl (tie ∙ ap (λ i. Some i) same) })

    placed_once : (place one other : ℕ) → Placed one place → Placed other place → one ≡ other
    placed_once place one other first second = elim first.is [
      | inl tie ↦ elim second.is [
        | inl tie_too ↦ tied_once place one other tie tie_too
        | inr none ↦ let no : Some one ≡ None = sym tie ∙ none.0 in absurd (cc)
      ]
      | inr none ↦ elim second.is [
        | inl tie ↦ let no : Some other ≡ None = sym tie ∙ none.0 in absurd (cc)
        | inr none_too ↦ led_once place one other none.1 none_too.1
      ]
    ]

    -- the place of each live connection
    abbrev place_of : ℕ → ℕ
    place_of index = picked {A = Placed index} (is_live index port) (placed index)

    has_place : (index : ℕ) → is_live index port ≡ true → Placed index (place_of index)
    has_place index live = picked_is {A = Placed index} (is_live index port) (placed index) live

    -- and at most as many, where the machine's publisher is connected to who is listed or to none
    few_followed : live_connections port ≤ ports.sizes.max_subscribers
    few_followed =
        let all : List (Connection (Message T U)) = port.sender.uses.connections in
        few_at_places {X = Connection (Message T U)} (λ connection. goes_on connection.stage) nobody all place_of
        ports.sizes.max_subscribers (λ index within live. (has_place index live).within)
        (λ one other within within_too live live_too same. placed_once (place_of other) one other
        (subst (λ place. Placed one place) same (has_place one live)) (has_place other live_too))

  -- so in each run of the machine, once the publisher has seen all changes of the list
  pub few_in_run : (choices : Choices T) (types : MessageTypeDetails) (asked : List (Command T)) (answers : List (Reply T))
      (state : State T) (run : Runs types choices buffer asked new_state answers state) → PublisherIsConnected choices
      → find (λ other. is_some (publisher_in (names.publisher number) other)) state.services ≡ Some service
      → port.seen ≡ ports.subscriber_list.changes → live_connections port ≤ ports.sizes.max_subscribers
  few_in_run choices types asked answers state run connected found seen =
      few_followed represents.0 (λ subscriber. WasOnce types choices buffer
      (λ other. (other.subscriber_list ≡ service.subscriber_list) × (other.mailboxes (names.publisher number) subscriber ≡ None)) asked
      new_state answers state run) represents.1
      (connected types buffer asked answers state run (names.publisher number) service represents.0 found is_open seen_there).1
    where
      is_open : publisher_in (names.publisher number) service ≡ Some represents.0
      is_open =
          ap (option_and_then (λ (one : Publisher T). if one.stands then Some one else None)) represents.1
          ∙ ap (λ (open_there : Bool). if open_there then Some represents.0 else None) (represents.2.stands ∙ stands)

      seen_there : represents.0.seen ≡ service.subscriber_list.changes
      seen_there = represents.2.seen ∙ seen ∙ sym (ap (λ list. list.changes) standing.subscriber_list)

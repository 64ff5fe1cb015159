-- Of ports that stand for a service, and that nothing keeps from becoming lanes: who is connected to whom.
use Rattle.std.proofs.Common.{ℕ, zero, suc, ◌≡◌, ◌≢◌, ◌-◌, ◌≤◌, ◌==◌, ◌&&◌, ◌⊎◌, Bool, true, false, not, nat_lt, List, []}
use Rattle.std.proofs.Common.{◌∷◌, length, map, get_or, is_some, replicate, Option, Some, None}
use Rattle.std.proofs.Common.{refl, sym, ◌∙◌, ap, subst, inl, inr, arith, zero-add, option_map}
use Rattle.std.proofs.lemmas.Bool.{cases_lt, eqb-true, ltb-false, ltb-true}
use Rattle.std.proofs.lemmas.Bool.Decides.{eqb_tells}
use Rattle.std.proofs.lemmas.List.{get_or_append_left, get_or_past, length-append, length-map, length-replicate}
use Rattle.std.proofs.lemmas.List.{get_or-append_right}
use Rattle.iox_domain.specs.DomainValues.declared.backpressure.BackpressureDecision.{BackpressureDecision}
use Rattle.iox_domain.specs.Container.declared.container.Member.{Member}
use Rattle.iox_domain.specs.DomainPorts.Places.{reached}
use Rattle.iox_domain.specs.DomainPorts.Ports.{is_live}
use Rattle.iox_domain.specs.DomainPorts.Publishers.{port_of}
use Rattle.iox_domain.specs.DomainPorts.Subscribing.{attached_at}
use Rattle.iox_domain.specs.DomainPorts.declared.attached.Attached.{Attached}
use Rattle.iox_domain.specs.DomainPorts.declared.attached.Taken.{Taken}
use Rattle.iox_domain.specs.DomainPorts.declared.publisher_entry.PublisherEntry.{PublisherEntry}
use Rattle.iox_domain.specs.DomainPorts.declared.publisher_port.PublisherPort.{PublisherPort}
use Rattle.iox_domain.specs.DomainPorts.declared.reader.Reader.{Reader}
use Rattle.iox_domain.specs.DomainPorts.declared.subscriber_entry.SubscriberEntry.{SubscriberEntry}
use Rattle.iox_domain.specs.DomainPorts.declared.subscriber_port.SubscriberPort.{SubscriberPort}
use Rattle.iox_domain.specs.Rolls.{is_listed}
use Rattle.iox_domain.specs.Subscribers.{subscriber_of}
use Rattle.iox_domain.specs.declared.domain.Domain.{Domain}
use Rattle.iox_domain.specs.declared.ports.service_ports.ServicePorts.{ServicePorts}
use Rattle.iox_domain_machine.proofs.FollowLists.{mapped_at, same_places}
use Rattle.iox_domain_machine.specs.Mailboxes.{MailboxesStandFor}
use Rattle.iox_domain_machine.specs.Naming.{Naming}
use Rattle.iox_domain_machine.specs.Publishers.{PublisherStandsFor}
use Rattle.iox_domain_machine.specs.Standing.{StandsFor}
use Rattle.iox_domain_machine.specs.Tables.{LentSlot}
use Rattle.iox_lanes.proofs.Presence.{both, is_current, not_no}
use Rattle.iox_lanes.proofs.Tied.{each_at}
use Rattle.iox_lanes.specs.Holding.{numbers_of}
use Rattle.iox_lanes_machine.proofs.Ends.{some_is}
use Rattle.iox_lanes_opening.proofs.Again.{none_below}
use Rattle.iox_lanes_opening.specs.Listed.{of_each_listed}
use Rattle.iox_lanes_opening.specs.Refusals.{first_reason}
use Rattle.iox_lanes_opening.specs.UpToDate.{has_stray_tie, is_connected, is_current_port, is_current_publisher, is_current_reader}
use Rattle.iox_lanes_opening.specs.UpToDate.{is_current_subscriber, is_joined_if, is_of, is_read_by, is_reader, is_stray, reads_from}
use Rattle.iox_lanes_opening.specs.UpToDate.{shares}
use Rattle.iox_machine.specs.PortList.{PortList, those}
use Rattle.iox_machine.specs.Service.{Publisher, Service}

-- a publisher and a subscriber that share a connection
shared_by : {T U : Type 0} (place number : ℕ) (port : PublisherPort T U) (reader : ℕ) (subscriber : SubscriberPort) (tie : Option ℕ)
    → shares place number port reader subscriber tie ≡ true
    → (index : ℕ) × (tie ≡ Some index) × (is_read_by reader port index ≡ true)
    × (reads_from number index subscriber (get_or subscriber.places.items place None) ≡ true)
shared_by place number port reader subscriber None is = absurd (cc is)
shared_by place number port reader subscriber (Some index) is =
    let parts = both (is_read_by reader port index) (reads_from number index subscriber (get_or subscriber.places.items place None)) is in
    (index, refl, parts.0, parts.1)

joined_by : {T U : Type 0} (place number : ℕ) (port : PublisherPort T U) (other reader : ℕ) (own : Option SubscriberPort)
    → is_joined_if place number port other reader own ≡ true
    → (subscriber : SubscriberPort) × (own ≡ Some subscriber)
    × (shares place number port reader subscriber (get_or port.ties.items other None) ≡ true)
joined_by place number port other reader None is = absurd (cc is)
joined_by place number port other reader (Some subscriber) is = (subscriber, refl, is)

leads_from : (publisher index : ℕ) (at_key : Option Attached) → is_of publisher index at_key ≡ true
    → (attached : Attached) × (at_key ≡ Some attached) × (attached.publisher ≡ publisher)
leads_from publisher index None is = absurd (cc is)
leads_from publisher index (Some attached) is =
    (attached, refl, eqb-true attached.publisher publisher (both (attached.publisher == publisher) (attached.index == index) is).0)

keyed_by : (publisher index : ℕ) (subscriber : SubscriberPort) (key : Option ℕ) → reads_from publisher index subscriber key ≡ true
    → (one : ℕ) × (key ≡ Some one) × (attached : Attached) × (attached_at one subscriber ≡ Some attached)
    × (attached.publisher ≡ publisher)
keyed_by publisher index subscriber None is = absurd (cc is)
keyed_by publisher index subscriber (Some key) is =
    let (attached, there, from) = leads_from publisher index (attached_at key subscriber) is in
    (key, refl, attached, there, from)

pub reader_of : (reader : ℕ) (at_index : Option Reader) → is_reader reader at_index ≡ true
    → (to : Reader) × (at_index ≡ Some to) × (to.subscriber ≡ reader)
reader_of reader None is = absurd (cc is)
reader_of reader (Some to) is = (to, refl, eqb-true to.subscriber reader (both (to.subscriber == reader) to.attached is).0)

-- the names of those who are listed
pub listed_names : {V : Type 0} (number_of : V → ℕ) (name : ℕ → ℕ) (places : List (Option (Member V)))
    → those (map (option_map (λ (member : Member V). name (number_of member.value))) places) ≡ map name (numbers_of number_of places)
listed_names number_of name [] = refl
listed_names number_of name (None ∷ rest) = listed_names number_of name rest
listed_names number_of name (Some member ∷ rest) =
    ap (λ names. name (number_of member.value) ∷ names) (listed_names number_of name rest)

-- places that are reached without a value are as good as none
pub reached_same : {X : Type 0} (count : ℕ) (xs : List (Option X)) (place : ℕ) → get_or (reached count xs) place None ≡ get_or xs place None
reached_same {X} count xs place = elim (cases_lt place (length xs)) [
  | inl within ↦ get_or_append_left xs (replicate (count - length xs) None) None place within
  | inr behind ↦
      get_or-append_right xs (replicate (count - length xs) None) (length xs) place None refl behind
      ∙ nothing (count - length xs) (place - length xs)
      ∙ sym (get_or_past xs place None behind)
]
  where
    nothing : (n k : ℕ) → get_or (replicate {A = Option X} n None) k None ≡ None
    nothing zero k = refl
    nothing (suc n) zero = refl
    nothing (suc n) (suc k) = nothing n k

pub reached_long : {X : Type 0} (count : ℕ) (xs : List (Option X)) → length xs ≤ count → length (reached count xs) ≡ count
reached_long {X} count xs few =
    omega (
      arith,
      few,
      length-append xs (replicate (count - length xs) None),
      length-replicate {A = Option X} (count - length xs) None,
    )

-- some place is tied to a connection, or none is
pub tied_or_not : (ties : List (Option ℕ)) (index : ℕ)
    → ((place : ℕ) × (get_or ties place None ≡ Some index)) ⊎ ((place : ℕ) → get_or ties place None ≢ Some index)
tied_or_not [] index = inr (λ place is. cc is)
tied_or_not (tie ∷ rest) index = by tie (tied_or_not rest index)
  where
    by : (first : Option ℕ)
        → ((place : ℕ) × (get_or rest place None ≡ Some index)) ⊎ ((place : ℕ) → get_or rest place None ≢ Some index)
        → ((place : ℕ) × (get_or (first ∷ rest) place None ≡ Some index))
        ⊎ ((place : ℕ) → get_or (first ∷ rest) place None ≢ Some index)
    by first (inl later) = inl (suc later.0, later.1)
    by None (inr none) = inr each
      where
        each : (place : ℕ) → get_or (None ∷ rest) place None ≢ Some index
        each zero is = cc is
        each (suc place) is = none place is
    by (Some other) (inr none) = elim (eqb_tells other index) [
      | inl same ↦ inl (zero, ap (λ n. Some n) same.1)
      | inr apart ↦ inr (each apart.1)
    ]
      where
        each : other ≢ index → (place : ℕ) → get_or (Some other ∷ rest) place None ≢ Some index
        each apart zero is = apart (some_is other index is)
        each apart (suc place) is = none place is

module _ {T U B D : Type 0} (decision : B → Option BackpressureDecision) (asks : D → Bool)
    (domain : Domain T U B D) (none : first_reason decision asks domain ≡ None) where
  abbrev ports : ServicePorts T U
  ports = domain.state.ports

  -- A listed subscriber that shares a connection with a publisher, and the tie and the key by which they do.
  pub record IsMet (number : ℕ) (port : PublisherPort T U) (place : ℕ) (member : Member SubscriberEntry) : Type 0 where
    pub subscriber : SubscriberPort
    pub found : subscriber_of member.value.subscriber ports.subscribers ≡ Some subscriber
    pub index : ℕ
    pub tie : get_or port.ties.items place None ≡ Some index
    pub live : is_live index port ≡ true
    pub to : Reader
    pub read : get_or port.readers index None ≡ Some to
    pub reader : to.subscriber ≡ member.value.subscriber
    pub key : ℕ
    pub keyed : get_or subscriber.places.items port.place None ≡ Some key
    pub attached : Attached
    pub there : attached_at key subscriber ≡ Some attached
    pub from : attached.publisher ≡ number

  -- A publisher has followed the list of subscribers as it is: it shares a connection with each, and has none for anybody else.
  pub record HasFollowed (number : ℕ) (port : PublisherPort T U) : Type 0 where
    pub seen : port.seen ≡ ports.subscriber_list.changes
    pub met : (place : ℕ) (member : Member SubscriberEntry) → get_or ports.subscriber_list.places place None ≡ Some member
        → IsMet number port place member
    pub free : (place index : ℕ) → get_or port.ties.items place None ≡ Some index → is_listed place ports.subscriber_list ≡ true

  current : (of_each_listed (is_current_publisher ports) 0 ports.publisher_list.places ≡ true)
      × (of_each_listed (λ place entry. is_current_subscriber ports entry) 0 ports.subscriber_list.places ≡ true)
  current = both (of_each_listed (is_current_publisher ports) 0 ports.publisher_list.places)
      (of_each_listed (λ place entry. is_current_subscriber ports entry) 0 ports.subscriber_list.places) (is_current decision asks domain
      none)

  -- each listed publisher has
  pub has_followed : (number : ℕ) (port : PublisherPort T U) (member : Member PublisherEntry)
      → get_or ports.publisher_list.places port.place None ≡ Some member → member.value.publisher ≡ number
      → port_of number ports.publishers ≡ Some port → HasFollowed number port
  has_followed number port member listed named found = record {
    seen = eqb-true port.seen ports.subscriber_list.changes first.0;
    met = λ place other is.
        let joined : is_connected port.place number port ports.subscribers place other.value ≡ true =
        subst (λ n. is_connected port.place number port ports.subscribers n other.value ≡ true) (zero-add place)
        (each_at (is_connected port.place number port ports.subscribers) 0 place ports.subscriber_list.places other first.1 is) in
        let (subscriber, there, shares_one) = joined_by port.place number port place other.value.subscriber
        (subscriber_of other.value.subscriber ports.subscribers) joined in
        let (index, tie, read, reads) = shared_by port.place number port other.value.subscriber subscriber
        (get_or port.ties.items place None) shares_one in
        let own = both (is_live index port) (is_reader other.value.subscriber (get_or port.readers index None)) read in
        let (to, at_index, same) = reader_of other.value.subscriber (get_or port.readers index None) own.1 in
        let (key, keyed, attached, at_key, from) = keyed_by number index subscriber (get_or subscriber.places.items port.place None)
        reads in
        record {
          subscriber = subscriber;
          found = there;
          index = index;
          tie = tie;
          live = own.0;
          to = to;
          read = at_index;
          reader = same;
          key = key;
          keyed = keyed;
          attached = attached;
          there = at_key;
          from = from;
        };
    free = λ place index is. by place index is (nat_lt place (length port.ties.items)) refl;
  }
    where
      of_place : is_current_publisher ports port.place member.value ≡ true
      of_place = subst (λ n. is_current_publisher ports n member.value ≡ true) (zero-add port.place)
          (each_at (is_current_publisher ports) 0 port.place ports.publisher_list.places member current.0 listed)

      of_number : is_current_port ports port.place number (Some port) ≡ true
      of_number = subst (λ (p : Option (PublisherPort T U)). is_current_port ports port.place number p ≡ true) found
          (subst (λ n. is_current_port ports port.place n (port_of n ports.publishers) ≡ true) named of_place)

      parts : ((port.seen == ports.subscriber_list.changes)
          && of_each_listed (is_connected port.place number port ports.subscribers) 0 ports.subscriber_list.places ≡ true)
          × (not (has_stray_tie ports.subscriber_list port) ≡ true)
      parts = both ((port.seen == ports.subscriber_list.changes)
          && of_each_listed (is_connected port.place number port ports.subscribers) 0 ports.subscriber_list.places)
          (not (has_stray_tie ports.subscriber_list port)) of_number

      first : ((port.seen == ports.subscriber_list.changes) ≡ true)
          × (of_each_listed (is_connected port.place number port ports.subscribers) 0 ports.subscriber_list.places ≡ true)
      first = both (port.seen == ports.subscriber_list.changes)
          (of_each_listed (is_connected port.place number port ports.subscribers) 0 ports.subscriber_list.places) parts.0

      never_no : (b : Bool) → not b ≡ true → b ≡ false
      never_no false is = refl
      never_no true is = absurd (cc is)

      by : (place index : ℕ) → get_or port.ties.items place None ≡ Some index → (within : Bool)
          → nat_lt place (length port.ties.items) ≡ within → is_listed place ports.subscriber_list ≡ true
      by place index is true within =
          let tame : is_some (get_or port.ties.items place None) && not (is_listed place ports.subscriber_list) ≡ false =
          none_below (is_stray ports.subscriber_list port) (length port.ties.items) place
          (never_no (has_stray_tie ports.subscriber_list port) parts.1) (ltb-true place (length port.ties.items) within) in
          not_no (is_listed place ports.subscriber_list)
          (sym (ap (λ (o : Option ℕ). is_some o && not (is_listed place ports.subscriber_list)) is) ∙ tame)
      by place index is false within =
          absurd (cc (
            is,
            get_or_past port.ties.items place None (ltb-false place (length port.ties.items) within),
          ))

  -- each listed subscriber has followed the list of publishers as it is, and need not do so again
  pub has_read : (place number : ℕ) (port : SubscriberPort) (member : Member SubscriberEntry)
      → get_or ports.subscriber_list.places place None ≡ Some member → member.value.subscriber ≡ number
      → subscriber_of number ports.subscribers ≡ Some port → (port.seen ≡ ports.publisher_list.changes) × (port.again ≡ false)
  has_read place number port member listed named found =
      let of_entry : is_current_reader ports (subscriber_of member.value.subscriber ports.subscribers) ≡ true =
      each_at (λ at_place entry. is_current_subscriber ports entry) 0 place ports.subscriber_list.places member current.1 listed in
      let of_port : is_current_reader ports (Some port) ≡ true =
      subst (λ (p : Option SubscriberPort). is_current_reader ports p ≡ true) found
      (subst (λ n. is_current_reader ports (subscriber_of n ports.subscribers) ≡ true) named of_entry) in
      let parts = both (port.seen == ports.publisher_list.changes) (not port.again) of_port in
      (eqb-true port.seen ports.publisher_list.changes parts.0, never port.again parts.1)
    where
      never : (b : Bool) → not b ≡ true → b ≡ false
      never false is = refl
      never true is = absurd (cc is)

  module _ (names : Naming) (lent : List (ℕ × LentSlot)) (held : List (ℕ × Taken)) (buffer : ℕ) (service : Service T)
      (s : StandsFor names lent held buffer ports service)
      (places_full : length ports.subscriber_list.places ≡ ports.sizes.max_subscribers) where
    -- a listed publisher of the machine is connected to who is listed, at the same places
    pub connected_listed : (number : ℕ) (port : PublisherPort T U) (publisher : Publisher T) → HasFollowed number port
        → PublisherStandsFor (names.message number) (names.reader number) ports.sizes.max_subscribers port publisher
        → MailboxesStandFor (names.message number) (names.reader number) names.subscriber port
        (service.mailboxes (names.publisher number)) service.subscribers
        → publisher.connected ≡ service.subscriber_list.places
    connected_listed number port publisher follows p boxes =
        p.connected
        ∙ same_places (map (option_map (names.reader number)) (reached ports.sizes.max_subscribers port.ties.items))
        (map (option_map named) ports.subscriber_list.places) long
        (λ place below.
        mapped_at (names.reader number) (reached ports.sizes.max_subscribers port.ties.items) place
        ∙ ap (option_map (names.reader number)) (reached_same ports.sizes.max_subscribers port.ties.items place)
        ∙ by place (get_or port.ties.items place None) (get_or ports.subscriber_list.places place None) refl refl
        ∙ sym (mapped_at named ports.subscriber_list.places place))
        ∙ ap (λ (list : PortList). list.places) (sym s.subscriber_list)
      where
        named : Member SubscriberEntry → ℕ
        named member = names.subscriber member.value.subscriber

        long : length (map (option_map (names.reader number)) (reached ports.sizes.max_subscribers port.ties.items))
            ≡ length (map (option_map named) ports.subscriber_list.places)
        long = length-map (reached ports.sizes.max_subscribers port.ties.items) (option_map (names.reader number))
            ∙ reached_long ports.sizes.max_subscribers port.ties.items p.ties ∙ sym places_full
            ∙ sym (length-map ports.subscriber_list.places (option_map named))

        by : (place : ℕ) (tie : Option ℕ) (entry : Option (Member SubscriberEntry)) → get_or port.ties.items place None ≡ tie
            → get_or ports.subscriber_list.places place None ≡ entry
            → option_map (names.reader number) tie ≡ option_map named entry
        by place None None tied listed = refl
        by place (Some index) None tied listed =
            absurd (cc (sym (follows.free place index tied) ∙ ap (λ (o : Option (Member SubscriberEntry)). is_some o) listed))
        by place None (Some member) tied listed = absurd (cc ((follows.met place member listed).tie, tied))
        by place (Some index) (Some member) tied listed =
            let m = follows.met place member listed in
            let same : m.index ≡ index = some_is m.index index (sym m.tie ∙ tied) in
            ap (λ n. Some (names.reader number n)) (sym same)
            ∙ ap Some ((boxes.read m.index m.to m.read).0 ∙ ap names.subscriber m.reader)

-- Which connection of a domain each connection of its lanes is.
use Rattle.std.proofs.Common.{ℕ, ◌≡◌, ◌+◌, ◌*◌, ◌/◌, ◌%◌, ◌<◌, List, length, get_or, slice_get, Some, None}
use Rattle.std.proofs.Common.{sym, ◌∙◌, ap, subst, inl, inr, arith}
use Rattle.std.proofs.lemmas.Bool.{cases_lt}
use Rattle.std.proofs.lemmas.Nat.{div-add-mod', div_below}
use Rattle.std.proofs.lemmas.Option.{slice_get-get_or, slice_get_within}
use Rattle.std.proofs.Math.Nat.{mod-lt}
use Rattle.iox_domain.specs.DomainPorts.Ports.{connection_of}
use Rattle.iox_domain.specs.DomainPorts.Publishers.{port_of}
use Rattle.iox_domain.specs.DomainPorts.declared.publisher_port.PublisherPort.{PublisherPort}
use Rattle.iox_domain.specs.DomainPorts.declared.subscriber_port.SubscriberPort.{SubscriberPort}
use Rattle.iox_domain.specs.Subscribers.{subscriber_of}
use Rattle.iox_domain.specs.declared.domain.Domain.{Domain}
use Rattle.iox_domain.specs.declared.ports.service_ports.ServicePorts.{ServicePorts}
use Rattle.iox_lanes.specs.Holding.{IsLaneOf, IsLinkOf, LanesHold, Leads, port_if, reader_if}
use Rattle.iox_lanes.specs.Lying.{AreLaid}
use Rattle.iox_lanes.specs.Spelling.{Spelling}
use Rattle.iox_lanes_machine.proofs.Ends.{some_is}
use Rattle.iox_lanes_machine.specs.LanesParties.Parties.{PublisherLaneState}
use Rattle.iox_lanes_machine.specs.Links.{LinkState}
use Rattle.iox_lanes_machine.specs.World.{World}
use Rattle.iox_lanes_sound.proofs.Having.{lane_of, link_of}

module _ {T U B D : Type 0} (spelling : Spelling T U) (domain : Domain T U B D) (m : World) (senders readers indices : List ℕ)
    (h : LanesHold spelling domain m senders readers indices) where
  abbrev ports : ServicePorts T U
  ports = domain.state.ports

  pub sender_at : (place : ℕ) → place < length senders → slice_get senders place ≡ Some (get_or senders place 0)
  sender_at place below = slice_get-get_or senders place 0 below

  pub reader_at : (place : ℕ) → place < length readers → slice_get readers place ≡ Some (get_or readers place 0)
  reader_at place below = slice_get-get_or readers place 0 below

  -- A publisher of the lanes is one of the domain.
  pub record IsLaid (place : ℕ) (lane : PublisherLaneState) : Type 0 where
    pub below : place < length senders
    pub port : PublisherPort T U
    pub found : port_of (get_or senders place 0) ports.publishers ≡ Some port
    pub is : IsLaneOf spelling m.table port lane

  pub laid : (place : ℕ) (lane : PublisherLaneState) → slice_get m.publishers place ≡ Some lane → IsLaid place lane
  laid place lane there =
      let below : place < length senders = omega (arith, slice_get_within m.publishers place lane there, h.publisher_count) in
      let (port, is, other, got, of) = lane_of spelling m.table (port_if ports.publishers (slice_get senders place))
      (slice_get m.publishers place) (h.sending place below) in
      let same : other ≡ lane = some_is other lane (sym got ∙ there) in
      record {
        below = below;
        port = port;
        found = ap (port_if ports.publishers) (sym (sender_at place below)) ∙ is;
        is = subst (IsLaneOf spelling m.table port) same of;
      }

  -- A connection of the lanes, between a publisher and a subscriber, is one of the domain.
  pub record IsJoint (connection : ℕ) (link : LinkState) : Type 0 where
    pub from : link.publisher < length senders
    pub to : link.subscriber < length readers
    pub number : connection ≡ link.publisher * length readers + link.subscriber
    pub port : PublisherPort T U
    pub found : port_of (get_or senders link.publisher 0) ports.publishers ≡ Some port
    pub reader : SubscriberPort
    pub read : subscriber_of (get_or readers link.subscriber 0) ports.subscribers ≡ Some reader
    pub lane : PublisherLaneState
    pub got : slice_get m.publishers link.publisher ≡ Some lane
    pub index : ℕ
    pub tie : get_or port.ties.items reader.place None ≡ Some index
    pub waits : AreLaid spelling m.table lane.port.book.first port link.found (connection_of index port).waiting

  joint_at : (publisher subscriber connection : ℕ) (link : LinkState) → publisher < length senders → subscriber < length readers
      → connection ≡ publisher * length readers + subscriber → slice_get m.links connection ≡ Some link → IsJoint connection link
  joint_at publisher subscriber connection link sends reads where_is there =
      let (a, port_is, b, reader_is, c, lane_got, i, l, link_got, leads, of) = link_of spelling m.table
      ports.sizes.enable_safe_overflow publisher subscriber
      (port_if ports.publishers (slice_get senders publisher)) (reader_if ports.subscribers (slice_get readers subscriber))
      (slice_get m.publishers publisher) (slice_get indices (publisher * length readers + subscriber))
      (slice_get m.links (publisher * length readers + subscriber)) (h.linking publisher subscriber sends reads).0
      (h.linking publisher subscriber sends reads).1 in
      let same : l ≡ link = some_is l link (sym link_got ∙ ap (slice_get m.links) (sym where_is) ∙ there) in
      let is : IsLinkOf spelling m.table a b c.port.book.first i link = subst (IsLinkOf spelling m.table a b c.port.book.first i) same of in
      let led : Leads ports.sizes.enable_safe_overflow publisher subscriber (Some link) =
      subst (λ (k : LinkState). Leads ports.sizes.enable_safe_overflow publisher subscriber (Some k)) same leads in
      let found : port_of (get_or senders publisher 0) ports.publishers ≡ Some a =
      ap (port_if ports.publishers) (sym (sender_at publisher sends)) ∙ port_is in
      let read : subscriber_of (get_or readers subscriber 0) ports.subscribers ≡ Some b =
      ap (reader_if ports.subscribers) (sym (reader_at subscriber reads)) ∙ reader_is in
      record {
        from = omega (arith, led.0, sends);
        to = omega (arith, led.1, reads);
        number = where_is ∙ ap (λ p. p * length readers + subscriber) (sym led.0)
            ∙ ap (λ q. link.publisher * length readers + q) (sym led.1);
        port = a;
        found = ap (λ p. port_of (get_or senders p 0) ports.publishers) led.0 ∙ found;
        reader = b;
        read = ap (λ q. subscriber_of (get_or readers q 0) ports.subscribers) led.1 ∙ read;
        lane = c;
        got = ap (slice_get m.publishers) led.0 ∙ lane_got;
        index = i;
        tie = is.tie;
        waits = is.waiting;
      }

  pub joint : (connection : ℕ) (link : LinkState) → slice_get m.links connection ≡ Some link → IsJoint connection link
  joint connection link there = elim (cases_lt 0 (length readers)) [
    | inl some ↦ joint_at (connection / length readers) (connection % length readers) connection link
        (div_below connection (length readers) (length senders) some below) (mod-lt connection some)
        (sym (div-add-mod' connection (length readers))) there
    | inr empty ↦
        let no_readers : length readers ≡ 0 = omega (arith, empty) in
        let no_links : length senders * length readers ≡ length senders * 0 = ap (λ n. length senders * n) no_readers in
        absurd (omega (arith, below, no_links))
  ]
    where
      below : connection < length senders * length readers
      below = omega (arith, slice_get_within m.links connection link there, h.link_count)

  -- the connection of a publisher and a subscriber at these places
  pub link_there : (publisher subscriber : ℕ) → publisher < length senders → subscriber < length readers
      → (link : LinkState) × (slice_get m.links (publisher * length readers + subscriber) ≡ Some link) × (link.publisher ≡ publisher)
      × (link.subscriber ≡ subscriber)
  link_there publisher subscriber sends reads =
      let (a, port_is, b, reader_is, c, lane_got, i, l, link_got, leads, of) = link_of spelling m.table
      ports.sizes.enable_safe_overflow publisher subscriber
      (port_if ports.publishers (slice_get senders publisher)) (reader_if ports.subscribers (slice_get readers subscriber))
      (slice_get m.publishers publisher) (slice_get indices (publisher * length readers + subscriber))
      (slice_get m.links (publisher * length readers + subscriber)) (h.linking publisher subscriber sends reads).0
      (h.linking publisher subscriber sends reads).1 in
      (l, link_got, leads.0, leads.1)

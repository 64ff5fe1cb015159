-- A connection that was found to have a smaller buffer leaves lanes as they are before their first step.
use Rattle.std.proofs.Common.{ℕ, zero, suc, ◌≡◌, ◌+◌, ◌-◌, ◌<◌, ◌≤◌, ◌==◌, ◌&&◌, ◌⊎◌, Bool, true, nat_lt, nat_le, List, [], ◌∷◌, length}
use Rattle.std.proofs.Common.{take, drop, set, replicate, slice_get, Option, Some, None, refl, sym, ◌∙◌, ap, subst, inl, inr, arith}
use Rattle.std.specs.List.{All}
use Rattle.std.proofs.lemmas.Bool.{ltb-true, leb-true, lt-ltb}
use Rattle.std.proofs.lemmas.Bool.Decides.{eqb_tells}
use Rattle.std.proofs.lemmas.List.{length-map, length-set, take-take, take-replicate}
use Rattle.std.proofs.lemmas.List.Elements.{All-map, All-set, All-weaker}
use Rattle.iox_lanes_machine.specs.QueuesSteps.Access.{RingWords}
use Rattle.iox_lanes_machine.specs.QueuesSteps.Ends.{cells_of}
use Rattle.iox_lanes_machine.specs.QueuesSteps.RingMachine.{first_words}
use Rattle.iox_lanes_machine.specs.QueuesSteps.declared.rings.ends.RingKind.{RingKind}
use Rattle.iox_lanes_machine.specs.QueuesSteps.declared.rings.ends.RingKind.TheVariants as kind
use Rattle.iox_lanes_machine.specs.LanesBase.Table.{TableWords}
use Rattle.iox_lanes_machine.specs.LanesBase.declared.words.sizes.TableSizes.{TableSizes}
use Rattle.iox_lanes_machine.specs.LanesBase.Routes.{known_as, rerouted}
use Rattle.iox_lanes_machine.specs.LanesBase.declared.calls.route.Route.{Route}
use Rattle.iox_lanes_machine.specs.LanesParties.Publishers.{words_of}
use Rattle.iox_lanes_machine.specs.LanesParties.Parties.{PublisherLaneState, SubscriberLaneState, lane_meets, receiver_meets}
use Rattle.iox_lanes_machine.specs.LanesParties.Within.{IsRoute, IsPublishing, IsPublisher, IsSubscribing, IsSubscriber}
use Rattle.iox_lanes_machine.proofs.LanesParties.Rings.{all_at, and_left, and_right}
use Rattle.iox_lanes_machine.specs.LedgerUses.{count, UsesCounted}
use Rattle.iox_lanes_machine.proofs.Entries.{choose_one, choose_other}
use Rattle.iox_lanes_machine.specs.Findings.{back_found, may_buffer, buffers_at, buffers_of, with_buffer, subscribers_meet, buffered_in}
use Rattle.iox_lanes_machine.specs.Findings.{buffered_at, buffered_of}
use Rattle.iox_lanes_machine.specs.Fresh.{HasFound, IsFreshPublisher, IsFreshSubscriber, IsFreshLink, IsFresh}
use Rattle.iox_lanes_machine.specs.Kept.{IsLink, IsLinkOf, sender, receiver, IsWithin}
use Rattle.iox_lanes_machine.specs.Links.{LinkState}
use Rattle.iox_lanes_machine.specs.Returns.{GoesRound}
use Rattle.iox_lanes_machine.specs.Rings.{ring_in}
use Rattle.iox_lanes_machine.specs.Rooms.{may_borrow, HasReceived}
use Rattle.iox_lanes_machine.specs.Sends.{IsAmong, HasConnections}
use Rattle.iox_lanes_machine.specs.Uses.{given_back}
use Rattle.iox_lanes_machine.specs.World.{World}
use Rattle.iox_lanes_machine.proofs.Ends.{some_is}
use Rattle.iox_lanes_machine.proofs.FoundFresh.{set_cases, rows_after}
use Rattle.iox_lanes_machine.specs.LanesBase.declared.words.word.ConnectionRing.TheVariants.{Submission}
use Rattle.iox_lanes_machine.proofs.InTable.{start, same_ring}
use Rattle.iox_lanes_machine.proofs.Kept.{cells_some}
use Rattle.iox_lanes_machine.proofs.Within.{set_same, set_other}

-- a connection that may be found to have a buffer of n messages, and where
pub record MayBuffer (m : World) (place messages : ℕ) (lane : PublisherLaneState) : Type 0 where
  pub route : Route
  pub at : slice_get lane.port.routes place ≡ Some route
  pub link : LinkState
  pub found : slice_get m.links route.connection ≡ Some link
  pub some : 0 < messages
  pub few : messages ≤ link.limit
  pub empty : link.found ≡ []
  pub none : back_found m.table route.connection ≡ 0

zero_is : (n : ℕ) → (n == 0) ≡ true → n ≡ 0
zero_is n e = elim (eqb_tells n 0) [
  | inl same ↦ same.1
  | inr other ↦ absurd (cc (sym e ∙ other.0))
]

pub empty_is : (xs : List ℕ) → length xs ≡ 0 → xs ≡ []
empty_is [] e = refl
empty_is (x ∷ xs) e = absurd (omega (arith, e))

pub may_buffer_is : (m : World) (place messages : ℕ) (lane : PublisherLaneState) → buffers_of m place messages (Some lane) ≡ true
    → MayBuffer m place messages lane
may_buffer_is m place messages lane h = by_route (slice_get lane.port.routes place) refl h
  where
    by_link : (route : Route) (at : Option LinkState) → slice_get lane.port.routes place ≡ Some route
        → slice_get m.links route.connection ≡ at → may_buffer m route.connection messages at ≡ true → MayBuffer m place messages lane
    by_link route None here there h = absurd (cc (h))
    by_link route (Some link) here there h =
        let some : Bool = nat_lt 0 messages in
        let few : Bool = nat_le messages link.limit in
        let empty : Bool = length link.found == 0 in
        let none : Bool = back_found m.table route.connection == 0 in
        let three : (some && few && empty) ≡ true = and_left (some && few && empty) none h in
        let two : (some && few) ≡ true = and_left (some && few) empty three in
        record {
          route = route;
          at = here;
          link = link;
          found = there;
          some = ltb-true 0 messages (and_left some few two);
          few = leb-true messages link.limit (and_right some few two);
          empty = empty_is link.found (zero_is (length link.found) (and_right (some && few) empty three));
          none = zero_is (back_found m.table route.connection) (and_right (some && few && empty) none h);
        }

    by_route : (r : Option Route) → slice_get lane.port.routes place ≡ r → buffers_at m messages r ≡ true → MayBuffer m place messages lane
    by_route None e h = absurd (cc (h))
    by_route (Some route) e h = by_link route (slice_get m.links route.connection) e refl h

-- a port's connections, one of which is known anew
pub known_cases : (route own : Route) → ((own.connection ≡ route.connection) × (known_as route own ≡ route))
    ⊎ ((own.connection ≡ route.connection → ⊥) × (known_as route own ≡ own))
known_cases route own = elim (eqb_tells own.connection route.connection) [
  | inl same ↦ inl (same.1, choose_one (own.connection == route.connection) route own same.0)
  | inr other ↦ inr (other.1, choose_other (own.connection == route.connection) route own other.0)
]

pub known_connection : (route own : Route) → (known_as route own).connection ≡ own.connection
known_connection route own = elim (known_cases route own) [
  | inl same ↦ ap (λ (r : Route). r.connection) same.1 ∙ sym same.0
  | inr other ↦ ap (λ (r : Route). r.connection) other.1
]

pub rerouted_there : (route : Route) (routes : List Route) (i : ℕ) (own : Route) → slice_get routes i ≡ Some own
    → slice_get (rerouted route routes) i ≡ Some (known_as route own)
rerouted_there route [] i own e = absurd (cc)
rerouted_there route (r ∷ rs) zero own e = ap (λ (x : Route). Some (known_as route x)) (some_is r own e)
rerouted_there route (r ∷ rs) (suc i) own e = rerouted_there route rs i own e

pub rerouted_is : (route : Route) (routes : List Route) (i : ℕ) (now : Route) → slice_get (rerouted route routes) i ≡ Some now
    → (own : Route) × (slice_get routes i ≡ Some own) × (known_as route own ≡ now)
rerouted_is route [] i now e = absurd (cc)
rerouted_is route (r ∷ rs) zero now e = (r, refl, some_is (known_as route r) now e)
rerouted_is route (r ∷ rs) (suc i) now e = rerouted_is route rs i now e

rerouted_all : (P Q : Route → Type 0) (route : Route) (routes : List Route) → ((own : Route) → P own → Q (known_as route own))
    → All P routes → All Q (rerouted route routes)
rerouted_all P Q route routes each all
    = All-map Q (known_as route) routes (All-weaker P (λ (own : Route). Q (known_as route own)) each routes all)

rerouted_among : (route : Route) (routes : List Route) (connection : ℕ) → IsAmong routes connection
    → IsAmong (rerouted route routes) connection
rerouted_among route routes connection is = record {
  place = is.place;
  route = known_as route is.route;
  found = rerouted_there route routes is.place is.route is.found;
  same = known_connection route is.route ∙ is.same;
}

rerouted_once : (route : Route) (routes : List Route)
    → ((i j : ℕ) (one other : Route) → slice_get routes i ≡ Some one → slice_get routes j ≡ Some other
    → one.connection ≡ other.connection → i ≡ j)
    → (i j : ℕ) (one other : Route) → slice_get (rerouted route routes) i ≡ Some one → slice_get (rerouted route routes) j ≡ Some other
    → one.connection ≡ other.connection → i ≡ j
rerouted_once route routes once i j one other at there same =
    let a = rerouted_is route routes i one at in
    let b = rerouted_is route routes j other there in
    once i j a.0 b.0 a.1 b.1 (
    sym (known_connection route a.0)
    ∙ ap (λ (r : Route). r.connection) a.2
    ∙ same
    ∙ sym (ap (λ (r : Route). r.connection) b.2)
    ∙ known_connection route b.0)

rerouted_round : (cells : ℕ) (route : Route) (routes : List Route) → route.completion_cells ≡ cells → GoesRound cells routes
    → GoesRound cells (rerouted route routes)
rerouted_round cells route routes new round
    = rerouted_all (λ (r : Route). r.completion_cells ≡ cells) (λ (r : Route). r.completion_cells ≡ cells) route routes
    (λ own is. elim (known_cases route own) [
      | inl same ↦ ap (λ (r : Route). r.completion_cells) same.1 ∙ new
      | inr other ↦ ap (λ (r : Route). r.completion_cells) other.1 ∙ is
    ]) round

-- fewer messages need no more cells
some_cells : (n : ℕ) → 0 < n → cells_of kind.Refusing n ≡ n
some_cells n some = choose_one (nat_lt 0 n) n 1 (lt-ltb 0 n some)

pub fewer_cells : (k : RingKind) (few most : ℕ) → 0 < few → few ≤ most → cells_of k few ≤ cells_of k most
fewer_cells kind.Overflowing few most some h = omega (arith, h)
fewer_cells kind.Refusing few most some h = omega (arith, h, some_cells few some, some_cells most (omega (arith, some, h)))

-- the ring of a smaller buffer lies in the cells of the larger one, and is as new if that is
pub fewer_ring : (table : TableWords) (c : ℕ) (k : RingKind) (few most : ℕ) → cells_of k few ≤ cells_of k most
    → ring_in table c (cells_of k most) ≡ first_words k most [] → ring_in table c (cells_of k few) ≡ first_words k few []
fewer_ring table c k few most less is =
    let words : List ℕ = drop (start Submission table c) table.words in
    let all : take (cells_of k most) words ≡ replicate {A = ℕ} (cells_of k most - 0) 0 = ap (λ (r : RingWords). r.cells) is in
    let whole : cells_of k few ≡ cells_of k few - 0 = omega arith in
    same_ring (take (cells_of k few) words) (replicate {A = ℕ} (cells_of k few - 0) 0) _ 0 _ 0
    (sym (take-take (cells_of k few) (cells_of k most) words less)
    ∙ ap (λ (xs : List ℕ). take (cells_of k few) xs) all
    ∙ take-replicate (cells_of k few) (cells_of k most - 0) 0 (omega (arith, less))
    ∙ ap (λ (n : ℕ). replicate {A = ℕ} n 0) whole)
    (ap (λ (r : RingWords). r.write) is)
    (ap (λ (r : RingWords). r.read) is)

-- a link with another buffer
pub record Resized (was now : LinkState) : Type 0 where
  pub publisher : now.publisher ≡ was.publisher
  pub subscriber : now.subscriber ≡ was.subscriber
  pub found : now.found ≡ was.found

pub resized_is : (links : List LinkState) (c messages : ℕ) (link : LinkState) → slice_get links c ≡ Some link
    → (d : ℕ) (now : LinkState) → slice_get (set links c (record link { limit = messages })) d ≡ Some now
    → (was : LinkState) × (slice_get links d ≡ Some was) × Resized was now
resized_is links c messages link there d now e = elim (set_cases links c link (record link { limit = messages }) there d now e) [
  | inl here ↦ (
    link,
    ap (slice_get links) here.0 ∙ there,
    record {
      publisher = ap (λ (l : LinkState). l.publisher) (sym here.1);
      subscriber = ap (λ (l : LinkState). l.subscriber) (sym here.1);
      found = ap (λ (l : LinkState). l.found) (sym here.1);
    },
  )
  | inr off ↦ (now, off.1, record { publisher = refl; subscriber = refl; found = refl })
]

-- the connections of the port at which one of them is known anew
link_of_resized : (links : List LinkState) (port : LinkState → ℕ) (who messages : ℕ) (link : LinkState) (route own : Route)
    → slice_get links route.connection ≡ Some link → route.kind ≡ link.kind
    → ((l : LinkState) → port (record l { limit = messages }) ≡ port l)
    → IsLinkOf links port who own → IsLinkOf (set links route.connection (record link { limit = messages })) port who
    (known_as (with_buffer messages route) own)
link_of_resized links port who messages link route own there kind_is stays is = elim (known_cases (with_buffer messages route) own) [
  | inl same ↦ subst (IsLinkOf (set links route.connection (record link { limit = messages })) port who) (sym same.1) (record {
    link = record link { limit = messages };
    found = set_same links route.connection (record link { limit = messages }) link there;
    own = stays link ∙ ap port (some_is link is.link (sym there ∙ ap (slice_get links) (sym same.0) ∙ is.found)) ∙ is.own;
    kind = kind_is;
    limit = refl;
    cells = ap (λ (k : RingKind). cells_of k messages) kind_is;
  })
  | inr other ↦ subst (IsLinkOf (set links route.connection (record link { limit = messages })) port who) (sym other.1) (record {
    link = is.link;
    found = set_other links route.connection own.connection (record link { limit = messages }) other.0 ∙ is.found;
    own = is.own;
    kind = is.kind;
    limit = is.limit;
    cells = is.cells;
  })
]

-- and those of any other port
link_of_others : (links : List LinkState) (port : LinkState → ℕ) (who c messages : ℕ) (link : LinkState) (own : Route)
    → slice_get links c ≡ Some link → (port link ≡ who → ⊥)
    → IsLinkOf links port who own → IsLinkOf (set links c (record link { limit = messages })) port who own
link_of_others links port who c messages link own there differs is = elim (eqb_tells own.connection c) [
  | inl same ↦ absurd (differs (ap port (some_is link is.link (sym there ∙ ap (slice_get links) (sym same.1) ∙ is.found)) ∙ is.own))
  | inr other ↦ record {
    link = is.link;
    found = set_other links c own.connection (record link { limit = messages }) other.1 ∙ is.found;
    own = is.own;
    kind = is.kind;
    limit = is.limit;
    cells = is.cells;
  }
]

-- the subscribers, one of which knows a connection anew
pub met_cases : (subscribers : List SubscriberLaneState) (who : ℕ) (route : Route) (at : Option SubscriberLaneState)
    → slice_get subscribers who ≡ at → (i : ℕ) (now : SubscriberLaneState)
    → slice_get (subscribers_meet subscribers who route at) i ≡ Some now
    → ((i ≡ who) × ((was : SubscriberLaneState) × (slice_get subscribers i ≡ Some was) × (receiver_meets route was ≡ now)))
    ⊎ ((i ≡ who → ⊥) × (slice_get subscribers i ≡ Some now))
met_cases subscribers who route None e i now got = elim (eqb_tells i who) [
  | inl same ↦ absurd (cc (sym got ∙ ap (slice_get subscribers) same.1 ∙ e))
  | inr other ↦ inr (other.1, got)
]
met_cases subscribers who route (Some lane) e i now got = elim (set_cases subscribers who lane (receiver_meets route lane) e i now got) [
  | inl here ↦ inl (here.0, (lane, ap (slice_get subscribers) here.0 ∙ e, here.1))
  | inr off ↦ inr (off.0, off.1)
]

met_borrow : (subscribers : List SubscriberLaneState) (who : ℕ) (route : Route) (at : Option SubscriberLaneState)
    → slice_get subscribers who ≡ at → (i : ℕ)
    → may_borrow (slice_get (subscribers_meet subscribers who route at) i) ≡ may_borrow (slice_get subscribers i)
met_borrow subscribers who route None e i = refl
met_borrow subscribers who route (Some lane) e i = elim (eqb_tells i who) [
  | inl same ↦
      let now : slice_get (set subscribers who (receiver_meets route lane)) i ≡ Some (receiver_meets route lane) =
      ap (slice_get (set subscribers who (receiver_meets route lane))) same.1 ∙ set_same subscribers who (receiver_meets route lane)
      lane e in
      let was : slice_get subscribers i ≡ Some lane = ap (slice_get subscribers) same.1 ∙ e in
      ap may_borrow now ∙ sym (ap may_borrow was)
  | inr other ↦ ap may_borrow (set_other subscribers who i (receiver_meets route lane) other.1)
]

met_all : (sizes : TableSizes) (subscribers : List SubscriberLaneState) (who : ℕ) (route : Route) (at : Option SubscriberLaneState)
    → slice_get subscribers who ≡ at → All (IsSubscriber sizes) subscribers
    → ((lane : SubscriberLaneState) → slice_get subscribers who ≡ Some lane → IsSubscriber sizes (receiver_meets route lane))
    → All (IsSubscriber sizes) (subscribers_meet subscribers who route at)
met_all sizes subscribers who route None e all now = all
met_all sizes subscribers who route (Some lane) e all now
    = All-set (IsSubscriber sizes) subscribers who (receiver_meets route lane) (now lane e) all

-- a connection has another buffer
pub buffered_fresh : (m : World) (who place messages : ℕ) (lane : PublisherLaneState) (is : MayBuffer m place messages lane)
    → slice_get m.publishers who ≡ Some lane → IsWithin m → IsFresh m
    → IsWithin (buffered_in m who messages lane is.route (Some is.link)) × IsFresh (buffered_in m who messages lane is.route (Some is.link))
buffered_fresh m who place messages lane is found w h = (within, fresh)
  where
    c : ℕ
    c = is.route.connection

    link' : LinkState
    link' = record is.link { limit = messages }

    links' : List LinkState
    links' = set m.links c link'

    route' : Route
    route' = with_buffer messages is.route

    s : ℕ
    s = is.link.subscriber

    publishers' : List PublisherLaneState
    publishers' = set m.publishers who (lane_meets route' lane)

    subscribers' : List SubscriberLaneState
    subscribers' = subscribers_meet m.subscribers s route' (slice_get m.subscribers s)

    world : World
    world = record m { links = links'; publishers = publishers'; subscribers = subscribers' }

    own : IsFreshPublisher m who lane
    own = h.publishers who lane found

    link_is : IsFreshLink m c is.link
    link_is = h.links c is.link is.found

    known : IsLinkOf m.links sender who is.route
    known = all_at (IsLinkOf m.links sender who) lane.port.routes place is.route is.at (w.senders who lane found)

    link_same : known.link ≡ is.link
    link_same = some_is known.link is.link (sym known.found ∙ is.found)

    kind_is : is.route.kind ≡ is.link.kind
    kind_is = known.kind ∙ ap (λ (l : LinkState). l.kind) link_same

    sends : is.link.publisher ≡ who
    sends = ap sender (sym link_same) ∙ known.own

    port : IsPublisher m.table.sizes lane
    port = all_at (IsPublisher m.table.sizes) m.publishers who lane found w.publishers

    route_is : IsRoute m.table.sizes is.route
    route_is = all_at (IsRoute m.table.sizes) lane.port.routes place is.route is.at port.routes

    round : is.route.completion_cells ≡ m.table.sizes.completion_cells
    round = all_at (λ (r : Route). r.completion_cells ≡ m.table.sizes.completion_cells) lane.port.routes place is.route is.at own.round

    fewer : cells_of is.link.kind messages ≤ cells_of is.link.kind is.link.limit
    fewer = fewer_cells is.link.kind messages is.link.limit is.some is.few

    fits : cells_of is.route.kind messages ≤ m.table.sizes.submission_cells
    fits = subst (λ (k : RingKind). cells_of k messages ≤ m.table.sizes.submission_cells) (sym kind_is)
        (omega (arith, fewer, (w.links c is.link is.found).cells))

    in_table : IsRoute m.table.sizes route'
    in_table = record {
      connection = route_is.connection;
      sends = cells_some is.route.kind messages;
      submission = fits;
      gives_back
          = route_is.gives_back;
      completion = route_is.completion;
    }

    routes_in : (routes : List Route) → All (IsRoute m.table.sizes) routes → All (IsRoute m.table.sizes) (rerouted route' routes)
    routes_in routes all = rerouted_all (IsRoute m.table.sizes) (IsRoute m.table.sizes) route' routes
        (λ r r_is. elim (known_cases route' r) [
          | inl same ↦ subst (IsRoute m.table.sizes) (sym same.1) in_table
          | inr other ↦ subst (IsRoute m.table.sizes) (sym other.1) r_is
        ]) all

    linked : (d : ℕ) (now : LinkState) → slice_get links' d ≡ Some now → (was : LinkState) × (slice_get m.links d ≡ Some was)
        × Resized was now
    linked d now e = resized_is m.links c messages is.link is.found d now e

    within : IsWithin world
    within = record {
      publishers = All-set (IsPublisher m.table.sizes) m.publishers who (lane_meets route' lane) (record {
        routes = routes_in lane.port.routes port.routes;
        call = subst (IsPublishing m.table.sizes (rerouted route' lane.port.routes) (words_of lane.port)) (sym own.idle) tt;
        slots = port.slots;
        payload = port.payload;
        head = port.head;
        heads = port.heads;
        widths = port.widths;
      }) w.publishers;
      subscribers = met_all m.table.sizes m.subscribers s route' (slice_get m.subscribers s) refl w.subscribers (λ at e.
          let was : IsSubscriber m.table.sizes at = all_at (IsSubscriber m.table.sizes) m.subscribers s at e w.subscribers in
          record {
            routes = routes_in at.port.routes was.routes;
            call = subst (IsSubscribing m.table.sizes (rerouted route' at.port.routes)) (sym (h.subscribers s at e).idle) tt;
            slots = was.slots;
            extent = was.extent;
          });
      senders = λ other now e. elim (set_cases m.publishers who lane (lane_meets route' lane) found other now e) [
        | inl here ↦ subst (λ (l : PublisherLaneState). All (IsLinkOf links' sender other) l.port.routes) here.1
            (subst (λ (i : ℕ). All (IsLinkOf links' sender i) (rerouted route' lane.port.routes)) (sym here.0)
            (rerouted_all (IsLinkOf m.links sender who) (IsLinkOf links' sender who) route' lane.port.routes
            (λ r r_is. link_of_resized m.links sender who messages is.link is.route r is.found kind_is (λ l. refl) r_is)
            (w.senders who lane found)))
        | inr off ↦ All-weaker (IsLinkOf m.links sender other) (IsLinkOf links' sender other)
            (λ r r_is. link_of_others m.links sender other c messages is.link r is.found (λ same. off.0 (sym same ∙ sends)) r_is)
            now.port.routes (w.senders other now off.1)
      ];
      receivers = λ other now e. elim (met_cases m.subscribers s route' (slice_get m.subscribers s) refl other now e) [
        | inl here ↦
            let was : SubscriberLaneState = (here.1).0 in
            subst (λ (l : SubscriberLaneState). All (IsLinkOf links' receiver other) l.port.routes) (here.1).2
            (rerouted_all (IsLinkOf m.links receiver other) (IsLinkOf links' receiver other) route' was.port.routes
            (λ r r_is. link_of_resized m.links receiver other messages is.link is.route r is.found kind_is (λ l. refl) r_is)
            (w.receivers other was (here.1).1))
        | inr off ↦ All-weaker (IsLinkOf m.links receiver other) (IsLinkOf links' receiver other)
            (λ r r_is. link_of_others m.links receiver other c messages is.link r is.found (λ same. off.0 (sym same)) r_is)
            now.port.routes (w.receivers other now off.1)
      ];
      links = λ d now e. elim (set_cases m.links c is.link link' is.found d now e) [
        | inl here ↦ subst (IsLink m.table.sizes d) here.1 (subst (λ (i : ℕ). IsLink m.table.sizes i link') (sym here.0)
            (record {
              connection_is = (w.links c is.link is.found).connection_is;
              cells
                  = omega (arith, fewer, (w.links c is.link is.found).cells);
            }))
        | inr off ↦ w.links d now off.1
      ];
      orders = w.orders ∙ sym (length-set m.links c link');
      words = w.words;
    }

    connections_after : (other : ℕ) (routes : List Route) → HasConnections m.links other routes → HasConnections links' other routes
    connections_after other routes has = record {
      each = λ d now e who_is. let was = linked d now e in has.each d was.0 was.1 (sym (was.2).publisher ∙ who_is);
      once = has.once;
    }

    received_after : (other : ℕ) (routes : List Route) → HasReceived m.links other routes → HasReceived links' other routes
    received_after other routes has = record {
      each = λ d now e who_is. let was = linked d now e in has.each d was.0 was.1 (sym (was.2).subscriber ∙ who_is);
      once = has.once;
    }

    has_after : (other : PublisherLaneState) → HasFound m other → HasFound world other
    has_after other has at r l at_is l_is slot =
        let was = linked r.connection l l_is in
        ap (λ (xs : List ℕ). count slot xs + count slot (given_back m.table r.connection)) (was.2).found ∙ has at r was.0 at_is was.1 slot

    has_anew : HasFound world (lane_meets route' lane)
    has_anew at r l at_is l_is slot =
        let before = rerouted_is route' lane.port.routes at r at_is in
        let same : (before.0).connection ≡ r.connection
        = sym (known_connection route' before.0) ∙ ap (λ (x : Route). x.connection) before.2 in
        let was = linked r.connection l l_is in
        ap (λ (xs : List ℕ). count slot xs + count slot (given_back m.table r.connection)) (was.2).found
        ∙ ap (λ (d : ℕ). count slot (was.0).found + count slot (given_back m.table d)) (sym same)
        ∙ own.has at before.0 was.0 before.1 (ap (slice_get m.links) same ∙ was.1) slot

    size : length (rerouted route' lane.port.routes) ≡ length lane.port.routes
    size = length-map lane.port.routes (known_as route')

    met : IsFreshPublisher world who (lane_meets route' lane)
    met = record {
      idle = own.idle;
      connections =
          let has = connections_after who lane.port.routes own.connections in
          record {
            each = λ d now e who_is. rerouted_among route' lane.port.routes d (has.each d now e who_is);
            once
                = rerouted_once route' lane.port.routes has.once;
          };
      round = rerouted_round m.table.sizes.completion_cells route' lane.port.routes round own.round;
      counted = subst (λ (n : ℕ). UsesCounted n lane.port.book) (sym size) own.counted;
      counts = own.counts;
      none_out = own.none_out;
      unlent = own.unlent;
      has = has_anew;
    }

    publisher_after : (other : ℕ) (now : PublisherLaneState) → slice_get publishers' other ≡ Some now → IsFreshPublisher world other now
    publisher_after other now e = elim (set_cases m.publishers who lane (lane_meets route' lane) found other now e) [
      | inl here ↦ subst (IsFreshPublisher world other) here.1
          (subst (λ (i : ℕ). IsFreshPublisher world i (lane_meets route' lane)) (sym here.0) met)
      | inr off ↦
          let was = h.publishers other now off.1 in
          record {
            idle = was.idle;
            connections = connections_after other now.port.routes was.connections;
            round = was.round;
            counted = was.counted;
            counts = was.counts;
            none_out = was.none_out;
            unlent = was.unlent;
            has = has_after now was.has;
          }
    ]

    receiver_met : (other : ℕ) (at : SubscriberLaneState) → IsFreshSubscriber m other at
        → IsFreshSubscriber world other (receiver_meets route' at)
    receiver_met other at was =
        let wide : length (rerouted route' at.port.routes) ≡ length at.port.routes = length-map at.port.routes (known_as route') in
        record {
          idle = was.idle;
          connections =
              let has = received_after other at.port.routes was.connections in
              record {
                each = λ d now e who_is. rerouted_among route' at.port.routes d (has.each d now e who_is);
                once
                    = rerouted_once route' at.port.routes has.once;
              };
          round = rerouted_round m.table.sizes.completion_cells route' at.port.routes round was.round;
          all = was.all;
          none = was.none;
          borrowed = λ i below. was.borrowed i (omega (arith, below, wide));
          words = was.words;
        }

    subscriber_after : (other : ℕ) (now : SubscriberLaneState) → slice_get subscribers' other ≡ Some now → IsFreshSubscriber world other now
    subscriber_after other now e = elim (met_cases m.subscribers s route' (slice_get m.subscribers s) refl other now e) [
      | inl here ↦ subst (IsFreshSubscriber world other) (here.1).2
          (receiver_met other (here.1).0 (h.subscribers other (here.1).0 (here.1).1))
      | inr off ↦
          let was = h.subscribers other now off.1 in
          record {
            idle = was.idle;
            connections = received_after other now.port.routes was.connections;
            round = was.round;
            all = was.all;
            none = was.none;
            borrowed = was.borrowed;
            words = was.words;
          }
    ]

    borrow_same : (i : ℕ) → may_borrow (slice_get subscribers' i) ≡ may_borrow (slice_get m.subscribers i)
    borrow_same i = met_borrow m.subscribers s route' (slice_get m.subscribers s) refl i

    new_ring : ring_in m.table c (cells_of is.link.kind messages) ≡ first_words is.link.kind messages is.link.found
    new_ring = subst (λ (q : List ℕ). ring_in m.table c (cells_of is.link.kind messages) ≡ first_words is.link.kind messages q)
        (sym is.empty)
        (fewer_ring m.table c is.link.kind messages is.link.limit fewer
        (link_is.ring ∙ ap (first_words is.link.kind is.link.limit) is.empty))

    as_many : length publishers' ≡ length m.publishers
    as_many = length-set m.publishers who (lane_meets route' lane)

    mine : IsFreshLink world c link'
    mine = record {
      some = is.some;
      small = omega (arith, is.few, link_is.small);
      room = omega (arith, ap (λ (xs : List ℕ). length xs) is.empty);
      ring = new_ring;
      back = link_is.back;
      returned = link_is.returned;
      few = link_is.few;
      sender = omega (arith, link_is.sender, as_many);
      cells = omega (arith, is.few, link_is.cells, borrow_same is.link.subscriber);
    }

    each : (d : ℕ) (now : LinkState) → slice_get links' d ≡ Some now → IsFreshLink world d now
    each d now e = elim (set_cases m.links c is.link link' is.found d now e) [
      | inl here ↦ subst (IsFreshLink world d) here.1 (subst (λ (i : ℕ). IsFreshLink world i link') (sym here.0) mine)
      | inr off ↦
          let was = h.links d now off.1 in
          record {
            some = was.some;
            small = was.small;
            room = was.room;
            ring = was.ring;
            back = was.back;
            returned = was.returned;
            few = was.few;
            sender = omega (arith, was.sender, as_many);
            cells = omega (arith, was.cells, borrow_same now.subscriber);
          }
    ]

    fresh : IsFresh world
    fresh = record {
      finished = h.finished;
      read = h.read;
      orders = h.orders;
      some = h.some;
      small = h.small;
      publishers = publisher_after;
      subscribers = subscriber_after;
      links = each;
      pairs = λ one other link behind e e' rows columns.
          let first = linked one link e in
          let second = linked other behind e' in
          h.pairs one other first.0 second.0 first.1 second.1 (sym (first.2).publisher ∙ rows ∙ (second.2).publisher)
          (sym (first.2).subscriber ∙ columns ∙ (second.2).subscriber);
      rows = rows_after m m.table.words links' who lane (lane_meets route' lane) found refl refl h.rows;
      spare = h.spare;
      named = h.named;
    }

-- the connection at a place of a publisher has it
pub buffered_is : (m : World) (who place messages : ℕ) (lane : PublisherLaneState) (is : MayBuffer m place messages lane)
    → slice_get m.publishers who ≡ Some lane
    → buffered_in m who messages lane is.route (Some is.link) ≡ buffered_of m who place messages (slice_get m.publishers who)
buffered_is m who place messages lane is found =
    sym (ap (buffered_in m who messages lane is.route) is.found)
    ∙ sym (ap (buffered_at m who messages lane) is.at)
    ∙ sym (ap (buffered_of m who place messages) found)

pub buffers_keep : (m : World) (who place messages : ℕ) (at : Option PublisherLaneState) → slice_get m.publishers who ≡ at
    → buffers_of m place messages at ≡ true → IsWithin m → IsFresh m
    → IsWithin (buffered_of m who place messages (slice_get m.publishers who))
    × IsFresh (buffered_of m who place messages (slice_get m.publishers who))
buffers_keep m who place messages None e fit w h = absurd (cc fit)
buffers_keep m who place messages (Some lane) e fit w h =
    let is = may_buffer_is m place messages lane fit in
    subst (λ (n : World). IsWithin n × IsFresh n) (buffered_is m who place messages lane is e)
    (buffered_fresh m who place messages lane is e w h)

-- no step was made
buffered_in_moments : (m : World) (who messages : ℕ) (lane : PublisherLaneState) (route : Route) (at : Option LinkState)
    → (buffered_in m who messages lane route at).moments ≡ m.moments
buffered_in_moments m who messages lane route None = refl
buffered_in_moments m who messages lane route (Some link) = refl

buffered_at_moments : (m : World) (who messages : ℕ) (lane : PublisherLaneState) (at : Option Route)
    → (buffered_at m who messages lane at).moments ≡ m.moments
buffered_at_moments m who messages lane None = refl
buffered_at_moments m who messages lane (Some route) = buffered_in_moments m who messages lane route (slice_get m.links route.connection)

pub buffered_moments : (m : World) (who place messages : ℕ) (at : Option PublisherLaneState)
    → (buffered_of m who place messages at).moments ≡ m.moments
buffered_moments m who place messages None = refl
buffered_moments m who place messages (Some lane) = buffered_at_moments m who messages lane (slice_get lane.port.routes place)

-- its ring needs no more cells than it has
pub buffer_fits : (m : World) (who place messages : ℕ) (lane : PublisherLaneState) (route : Route) → IsWithin m
    → slice_get m.publishers who ≡ Some lane → slice_get lane.port.routes place ≡ Some route
    → buffers_of m place messages (Some lane) ≡ true
    → cells_of route.kind messages ≤ route.submission_cells
buffer_fits m who place messages lane route w found here fit =
    let is = may_buffer_is m place messages lane fit in
    let same : is.route ≡ route = some_is is.route route (sym is.at ∙ here) in
    let known : IsLinkOf m.links sender who route
    = all_at (IsLinkOf m.links sender who) lane.port.routes place route here (w.senders who lane found) in
    let link_same : is.link ≡ known.link
    = some_is is.link known.link (sym is.found ∙ ap (λ (r : Route). slice_get m.links r.connection) same ∙ known.found) in
    let few : messages ≤ known.link.limit = subst (λ (l : LinkState). messages ≤ l.limit) link_same is.few in
    subst (λ (k : RingKind). cells_of k messages ≤ route.submission_cells) (sym known.kind)
    (omega (arith, fewer_cells known.link.kind messages known.link.limit is.some few, known.cells))

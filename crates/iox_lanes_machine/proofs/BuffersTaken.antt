-- A buffer that lanes take in is that of its connection at both ends, and all else stays.
use Rattle.std.proofs.Common.{ℕ, ◌≡◌, ◌+◌, ◌-◌, ◌<◌, ◌≤◌, ◌^◌, ◌==◌, ◌&&◌, Bool, true, false, nat_lt, nat_le, List, [], ◌++◌, length, set}
use Rattle.std.proofs.Common.{replicate, slice_get, Option, Some, None, refl, sym, ◌∙◌, ap, subst, inl, inr, arith}
use Rattle.std.proofs.lemmas.Bool.{lt-ltb, le-leb}
use Rattle.std.proofs.lemmas.Bool.Decides.{eqb_tells}
use Rattle.std.proofs.lemmas.List.{append-nil, length-map, length-set}
use Rattle.iox_lanes_machine.specs.QueuesSteps.Access.{RingWords}
use Rattle.iox_lanes_machine.specs.QueuesSteps.Ends.{cells_of}
use Rattle.iox_lanes_machine.specs.QueuesSteps.RingMachine.{first_words}
use Rattle.iox_lanes_machine.specs.QueuesSteps.declared.rings.ends.RingKind.{RingKind}
use Rattle.iox_lanes_machine.specs.QueuesSteps.declared.rings.ends.RingKind.TheVariants as kind
use Rattle.iox_lanes_machine.proofs.QueuesSteps.EitherRing.{start_refusing}
use Rattle.iox_lanes_machine.specs.QueuesSteps.declared.rings.refusing.pop.Pop.TheVariants as refusing_pop
use Rattle.iox_lanes_machine.specs.QueuesSteps.declared.rings.refusing.push.Push.TheVariants as refusing_push
use Rattle.iox_lanes_machine.specs.LanesBase.Routes.{known_as, rerouted}
use Rattle.iox_lanes_machine.specs.LanesBase.declared.calls.route.Route.{Route}
use Rattle.iox_lanes_machine.specs.LanesParties.Parties.{PublisherLaneState, SubscriberLaneState, lane_meets, receiver_meets}
use Rattle.iox_lanes_machine.proofs.LanesParties.Rings.{all_at}
use Rattle.iox_lanes_machine.specs.Borrowing.{is_at}
use Rattle.iox_lanes_machine.specs.Stored.{between}
use Rattle.iox_lanes_machine.proofs.Entries.{choose_one}
use Rattle.iox_lanes_machine.proofs.Rings.{between_is}
use Rattle.iox_lanes_machine.specs.Findings.{back_found, may_buffer, buffers_at, buffers_of, with_buffer, subscribers_meet, buffered_in}
use Rattle.iox_lanes_machine.specs.Findings.{buffered_of}
use Rattle.iox_lanes_machine.specs.Fresh.{IsFreshLink, IsFresh}
use Rattle.iox_lanes_machine.specs.Kept.{IsLinkOf, sender, receiver, IsWithin}
use Rattle.iox_lanes_machine.specs.Links.{LinkState}
use Rattle.iox_lanes_machine.specs.Rings.{ring_in}
use Rattle.iox_lanes_machine.specs.TakenIn.{MayHaveBuffer, leads_of, number_if, new_buffer, new_slots, new_node, new_publisher}
use Rattle.iox_lanes_machine.specs.TakenIn.{number_with, place_before, route_with, RoutesKnow, RingGrows, link_with, HeadSays, HeadsSay}
use Rattle.iox_lanes_machine.specs.TakenIn.{PublisherGrows, SubscriberKnows, IsTakenIn}
use Rattle.iox_lanes_machine.specs.Uses.{given_back}
use Rattle.iox_lanes_machine.specs.World.{World}
use Rattle.iox_lanes_machine.specs.declared.found.Found.{Found}
use Rattle.iox_lanes_machine.specs.declared.found.Found.TheVariants as found
use Rattle.iox_lanes_machine.proofs.Buffers.{MayBuffer, empty_is, may_buffer_is, known_cases, rerouted_there, met_cases, buffered_is}
use Rattle.iox_lanes_machine.proofs.Ends.{some_is}
use Rattle.iox_lanes_machine.proofs.Fresh.{returned_is}
use Rattle.iox_lanes_machine.proofs.FoundFresh.{set_cases}
use Rattle.iox_lanes_machine.proofs.FoundKept.{back_count}
use Rattle.iox_lanes_machine.proofs.Within.{set_same, set_other}

-- what stands in a ring whose list lies in its first cells
some_cells : (n : ℕ) → 0 < n → cells_of kind.Refusing n ≡ n
some_cells n some = choose_one (nat_lt 0 n) n 1 (lt-ltb 0 n some)

pub first_refusing : (cells : ℕ) (q : List ℕ) → cells < 2 ^ 62 → length q ≤ cells → between (first_words kind.Refusing cells q) ≡ q
first_refusing cells q small room = between_is cells (first_words kind.Refusing cells q) q refusing_push.Idle refusing_pop.Idle
    (start_refusing cells q small room)

pub between_first : (k : RingKind) (limit : ℕ) (q : List ℕ) → limit + 1 < 2 ^ 62 → length q ≤ limit → between (first_words k limit q) ≡ q
between_first kind.Overflowing limit q small room =
    let same : first_words kind.Refusing (limit + 1) q ≡ first_words kind.Overflowing limit q =
    ap (λ (n : ℕ). record { cells = q ++ replicate {A = ℕ} (n - length q) 0; write = length q; read = 0 })
    (some_cells (limit + 1) (omega arith)) in
    ap between (sym same) ∙ first_refusing (limit + 1) q small (omega (arith, room))
between_first kind.Refusing limit q small room = first_refusing limit q (omega (arith, small)) room

-- a link stays where nothing more waits
pub link_same : (at : Option LinkState) → at ≡ link_with [] None at
link_same None = refl
link_same (Some link) = ap (λ (xs : List ℕ). Some (record link { found = xs })) (sym (append-nil link.found))

pub itself : (x : ℕ) → (x == x) ≡ true
itself x = elim (eqb_tells x x) [
  | inl same ↦ same.0
  | inr other ↦ absurd (other.1 refl)
]

-- which connection a place of a publisher leads to
pub leads_is : (m : World) (who place : ℕ) (lane : PublisherLaneState) (route : Route) (c : ℕ) → slice_get m.publishers who ≡ Some lane
    → slice_get lane.port.routes place ≡ Some route → leads_of (slice_get m.publishers who) place c ≡ (route.connection == c)
leads_is m who place lane route c e here = ap (λ (at : Option PublisherLaneState). leads_of at place c) e ∙ ap (is_at c) here

-- two tests that hold
pub both : (a b : Bool) → a ≡ true → b ≡ true → (a && b) ≡ true
both true b one other = other
both false b one other = absurd (cc one)

pub differs : (x y : ℕ) → (y ≡ x → ⊥) → (x == y) ≡ false
differs x y not = elim (eqb_tells x y) [
  | inl same ↦ absurd (not (sym same.1))
  | inr other ↦ other.0
]

-- a ring to which nothing is added
pub none_more : (words : RingWords) → RingGrows words words []
none_more words = record { list = sym (append-nil (between words)); read = refl; write = omega arith }

-- headers that stay
pub head_stays : (head : List ℕ) → HeadSays None None head head
head_stays head = record { node = refl; publisher = refl; others = λ word high. refl; as_many = refl }

pub heads_stay : (f : Found) (who : ℕ) (heads : List (List ℕ)) → new_slots f who ≡ None → new_node f who ≡ None
    → new_publisher f who ≡ None → HeadsSay f who heads heads
heads_stay f who heads slots node publisher = record {
  each = λ slot before behind e e'.
      subst (HeadSays (new_node f who) (new_publisher f who) before) (some_is before behind (sym e ∙ e'))
      (subst (λ (n : Option ℕ). HeadSays n (new_publisher f who) before before) (sym node)
      (subst (λ (p : Option ℕ). HeadSays None p before before) (sym publisher) (head_stays before)));
  as_many = ap (λ (n : Option ℕ). number_with n (length heads)) (sym slots);
}

-- two connections of one number whose rings are alike, with the same buffer
abbrev sized : ℕ → ℕ → RingKind → ℕ → Route
sized messages connection kind completion =
    record {
      connection = connection;
      kind = kind;
      limit = messages;
      submission_cells = cells_of kind messages;
      completion_cells
          = completion;
    }

alike : (messages : ℕ) (route own : Route) → own.connection ≡ route.connection → own.kind ≡ route.kind
    → own.completion_cells ≡ route.completion_cells → with_buffer messages route ≡ route_with (Some messages) own
alike messages route own connection kind completion =
    ap (λ (n : ℕ). sized messages n route.kind route.completion_cells) (sym connection)
    ∙ ap (λ (k : RingKind). sized messages own.connection k route.completion_cells) (sym kind)
    ∙ ap (λ (n : ℕ). sized messages own.connection own.kind n) (sym completion)

met_length : (subscribers : List SubscriberLaneState) (who : ℕ) (route : Route) (at : Option SubscriberLaneState)
    → length (subscribers_meet subscribers who route at) ≡ length subscribers
met_length subscribers who route None = refl
met_length subscribers who route (Some lane) = length-set subscribers who (receiver_meets route lane)

buffer_taken : (m : World) (who place messages : ℕ) (lane : PublisherLaneState) (is : MayBuffer m place messages lane)
    → slice_get m.publishers who ≡ Some lane → IsWithin m → IsFresh m → IsFresh (buffered_in m who messages lane is.route (Some is.link))
    → IsTakenIn m (found.Buffer who place messages) (buffered_in m who messages lane is.route (Some is.link))
buffer_taken m who place messages lane is stands w h h' = record {
  links = linked;
  messages = rings;
  samples = λ d link e. none_more _;
  word = λ slot word value e. absurd (cc e);
  words = λ slot word there not. refl;
  publishers = publisher_grows;
  as_many = length-set m.publishers who (lane_meets route' lane);
  subscribers = subscriber_knows;
  as_many_receive = met_length m.subscribers s route' (slice_get m.subscribers s);
  same = refl;
}
  where
    f : Found
    f = found.Buffer who place messages

    c : ℕ
    c = is.route.connection

    s : ℕ
    s = is.link.subscriber

    k : RingKind
    k = is.link.kind

    link' : LinkState
    link' = record is.link { limit = messages }

    route' : Route
    route' = with_buffer messages is.route

    link_is : IsFreshLink m c is.link
    link_is = h.links c is.link is.found

    known : IsLinkOf m.links sender who is.route
    known = all_at (IsLinkOf m.links sender who) lane.port.routes place is.route is.at (w.senders who lane stands)

    known_link : known.link ≡ is.link
    known_link = some_is known.link is.link (sym known.found ∙ is.found)

    kind_is : is.route.kind ≡ k
    kind_is = known.kind ∙ ap (λ (l : LinkState). l.kind) known_link

    sends : is.link.publisher ≡ who
    sends = ap sender (sym known_link) ∙ known.own

    round : is.route.completion_cells ≡ m.table.sizes.completion_cells
    round = all_at (λ (r : Route). r.completion_cells ≡ m.table.sizes.completion_cells) lane.port.routes place is.route is.at
        (h.publishers who lane stands).round

    leads : (d : ℕ) → leads_of (slice_get m.publishers who) place d ≡ (c == d)
    leads d = leads_is m who place lane is.route d stands is.at

    its_buffer : (d : ℕ) → c ≡ d → new_buffer m f d ≡ Some messages
    its_buffer d same = ap (λ (b : Bool). number_if b messages) (leads d ∙ ap (λ (x : ℕ). c == x) (sym same) ∙ itself c)

    no_buffer : (d : ℕ) → (d ≡ c → ⊥) → new_buffer m f d ≡ None
    no_buffer d not = ap (λ (b : Bool). number_if b messages) (leads d ∙ differs c d not)

    linked : (d : ℕ) → slice_get (set m.links c link') d ≡ link_with [] (new_buffer m f d) (slice_get m.links d)
    linked d = elim (eqb_tells c d) [
      | inl same ↦ subst (λ (x : ℕ). slice_get (set m.links c link') x ≡ link_with [] (new_buffer m f x) (slice_get m.links x)) same.1
          (set_same m.links c link' is.link is.found
          ∙ ap (λ (xs : List ℕ). Some (record is.link { found = xs; limit = messages })) (sym (append-nil is.link.found))
          ∙ sym (ap (λ (b : Option ℕ). link_with [] b (slice_get m.links c)) (its_buffer c refl) ∙ ap (link_with [] (Some messages))
          is.found))
      | inr off ↦
          set_other m.links c d link' (λ same. off.1 (sym same))
          ∙ link_same (slice_get m.links d)
          ∙ sym (ap (λ (b : Option ℕ). link_with [] b (slice_get m.links d)) (no_buffer d (λ same. off.1 (sym same))))
    ]

    shrinks : RingGrows (ring_in m.table c (cells_of k is.link.limit)) (ring_in m.table c (cells_of k messages)) []
    shrinks =
        let before : ring_in m.table c (cells_of k is.link.limit) ≡ first_words k is.link.limit []
        = link_is.ring ∙ ap (first_words k is.link.limit) is.empty in
        let behind : ring_in m.table c (cells_of k messages) ≡ first_words k messages [] =
        (h'.links c link' (set_same m.links c link' is.link is.found)).ring ∙ ap (first_words k messages) is.empty in
        record {
          list = ap between behind
              ∙ between_first k messages [] (omega (arith, is.few, link_is.cells, h.small)) (omega arith)
              ∙ sym (ap (λ (xs : List ℕ). xs ++ [])
              (ap between before ∙ between_first k is.link.limit [] (omega (arith, link_is.cells, h.small)) (omega arith)));
          read = ap (λ (words : RingWords). words.read) behind ∙ sym (ap (λ (words : RingWords). words.read) before);
          write = omega (arith, ap (λ (words : RingWords). words.write) behind, ap (λ (words : RingWords). words.write) before);
        }

    rings : (d : ℕ) (link : LinkState) → slice_get m.links d ≡ Some link
        → RingGrows (ring_in m.table d (cells_of link.kind link.limit))
        (ring_in m.table d (cells_of link.kind (number_with (new_buffer m f d) link.limit))) []
    rings d link e = elim (eqb_tells c d) [
      | inl same ↦
          let link_same : is.link ≡ link = some_is is.link link (sym is.found ∙ ap (slice_get m.links) same.1 ∙ e) in
          subst (λ (b : Option ℕ). RingGrows (ring_in m.table d (cells_of link.kind link.limit))
          (ring_in m.table d (cells_of link.kind (number_with b link.limit))) []) (sym (its_buffer d same.1))
          (subst (λ (l : LinkState). RingGrows (ring_in m.table d (cells_of l.kind l.limit))
          (ring_in m.table d (cells_of l.kind messages)) []) link_same
          (subst (λ (x : ℕ). RingGrows (ring_in m.table x (cells_of k is.link.limit)) (ring_in m.table x (cells_of k messages)) [])
          same.1 shrinks))
      | inr off ↦
          subst (λ (b : Option ℕ). RingGrows (ring_in m.table d (cells_of link.kind link.limit))
          (ring_in m.table d (cells_of link.kind (number_with b link.limit))) []) (sym (no_buffer d (λ same. off.1 (sym same))))
          (none_more (ring_in m.table d (cells_of link.kind link.limit)))
    ]

    elsewhere : (r : Route) → (r.connection ≡ c → ⊥) → r ≡ route_with (new_buffer m f r.connection) r
    elsewhere r not = ap (λ (b : Option ℕ). route_with b r) (sym (no_buffer r.connection not))

    here_too : (r : Route) → (r.connection ≡ c → (r.kind ≡ is.route.kind) × (r.completion_cells ≡ is.route.completion_cells))
        → known_as route' r ≡ route_with (new_buffer m f r.connection) r
    here_too r same = elim (known_cases route' r) [
      | inl here ↦
          let is_alike = same here.0 in
          here.1
          ∙ alike messages is.route r here.0 is_alike.0 is_alike.1
          ∙ ap (λ (b : Option ℕ). route_with b r) (sym (its_buffer r.connection (sym here.0)))
      | inr off ↦ off.1 ∙ elsewhere r off.0
    ]

    are_alike : (port : LinkState → ℕ) (other : ℕ) (r : Route) → IsLinkOf m.links port other r
        → r.completion_cells ≡ m.table.sizes.completion_cells → r.connection ≡ c → (r.kind ≡ is.route.kind)
        × (r.completion_cells ≡ is.route.completion_cells)
    are_alike port other r r_is goes same = (
      r_is.kind ∙ ap (λ (l : LinkState). l.kind) (some_is r_is.link is.link (sym r_is.found ∙ ap (slice_get m.links) same ∙ is.found)) ∙
          sym kind_is,
      goes ∙ sym round,
    )

    meet : (routes : List Route) → ((at : ℕ) (r : Route) → slice_get routes at ≡ Some r → r.connection ≡ c → (r.kind ≡ is.route.kind)
        × (r.completion_cells ≡ is.route.completion_cells)) → RoutesKnow m f (λ (at : ℕ). at) routes (rerouted route' routes)
    meet routes same = record {
      each = λ at r e. rerouted_there route' routes at r e ∙ ap (λ (x : Route). Some x) (here_too r (same at r e));
      as_many = length-map routes (known_as route');
    }

    stay : (routes : List Route) → ((at : ℕ) (r : Route) → slice_get routes at ≡ Some r → r.connection ≡ c → ⊥)
        → RoutesKnow m f (λ (at : ℕ). at) routes routes
    stay routes not = record {
      each = λ at r e. e ∙ ap (λ (x : Route). Some x) (elsewhere r (not at r e));
      as_many = refl;
    }

    own_grows : (other : ℕ) → PublisherGrows m f other lane (lane_meets route' lane)
    own_grows other = record {
      routes = meet lane.port.routes (λ at r e same. are_alike sender who r
          (all_at (IsLinkOf m.links sender who) lane.port.routes at r e (w.senders who lane stands))
          (all_at (λ (x : Route). x.completion_cells ≡ m.table.sizes.completion_cells) lane.port.routes at r e
          (h.publishers who lane stands).round) same);
      history = sym (append-nil lane.port.book.history);
      referred = λ at slot. omega arith;
      uses = λ slot. omega arith;
      slots = refl;
      marks = refl;
      loans = λ slot. refl;
      most = refl;
      heads = heads_stay f other lane.heads refl refl refl;
      fails = refl;
      last = refl;
      same = refl;
    }

    received : (other : ℕ) (was now : List Route) → RoutesKnow m f (λ (at : ℕ). at) was now → RoutesKnow m f (place_before f other) was now
    received other was now k = record { each = λ at r e. k.each at r e; as_many = k.as_many }

    publisher_grows : (other : ℕ) (was now : PublisherLaneState) → slice_get m.publishers other ≡ Some was
        → slice_get (set m.publishers who (lane_meets route' lane)) other ≡ Some now → PublisherGrows m f other was now
    publisher_grows other was now before behind = elim (set_cases m.publishers who lane (lane_meets route' lane) stands other now behind) [
      | inl here ↦
          let was_is : lane ≡ was = some_is lane was (sym stands ∙ ap (slice_get m.publishers) (sym here.0) ∙ before) in
          subst (PublisherGrows m f other was) here.1
          (subst (λ (l : PublisherLaneState). PublisherGrows m f other l (lane_meets route' lane)) was_is (own_grows other))
      | inr off ↦ subst (PublisherGrows m f other was) (some_is was now (sym before ∙ off.1)) (record {
        routes = stay was.port.routes (λ at r e same.
            let yours : IsLinkOf m.links sender other r
            = all_at (IsLinkOf m.links sender other) was.port.routes at r e (w.senders other was before) in
            off.0 (sym yours.own ∙ ap sender (some_is yours.link is.link (sym yours.found ∙ ap (slice_get m.links) same ∙ is.found)) ∙
            sends));
        history = sym (append-nil was.port.book.history);
        referred = λ at slot. omega arith;
        uses = λ slot. omega arith;
        slots = refl;
        marks = refl;
        loans = λ slot. refl;
        most = refl;
        heads = heads_stay f other was.heads refl refl refl;
        fails = refl;
        last = refl;
        same = refl;
      })
    ]

    subscriber_knows : (other : ℕ) (was now : SubscriberLaneState) → slice_get m.subscribers other ≡ Some was
        → slice_get (subscribers_meet m.subscribers s route' (slice_get m.subscribers s)) other ≡ Some now
        → SubscriberKnows m f other was now
    subscriber_knows other was now before behind
        = elim (met_cases m.subscribers s route' (slice_get m.subscribers s) refl other now behind) [
          | inl here ↦
              let own : SubscriberLaneState = (here.1).0 in
              let was_is : own ≡ was = some_is own was (sym (here.1).1 ∙ before) in
              let knows : SubscriberKnows m f other own (receiver_meets route' own) = record {
                routes = received other own.port.routes (rerouted route' own.port.routes)
                    (meet own.port.routes (λ at r e same. are_alike receiver other r
                    (all_at (IsLinkOf m.links receiver other) own.port.routes at r e (w.receivers other own (here.1).1))
                    (all_at (λ (x : Route). x.completion_cells ≡ m.table.sizes.completion_cells) own.port.routes at r e
                    (h.subscribers other own (here.1).1).round) same));
                same = refl;
              } in
              subst (SubscriberKnows m f other was) (here.1).2
              (subst (λ (l : SubscriberLaneState). SubscriberKnows m f other l (receiver_meets route' own)) was_is knows)
          | inr off ↦ subst (SubscriberKnows m f other was) (some_is was now (sym before ∙ off.1)) (record {
            routes = received other was.port.routes was.port.routes (stay was.port.routes (λ at r e same.
                let yours : IsLinkOf m.links receiver other r
                = all_at (IsLinkOf m.links receiver other) was.port.routes at r e (w.receivers other was before) in
                off.0 (sym yours.own ∙ ap receiver
                (some_is yours.link is.link (sym yours.found ∙ ap (slice_get m.links) same ∙ is.found)))));
            same = refl;
          })
        ]

pub buffers_taken : (m : World) (who place messages : ℕ) (at : Option PublisherLaneState) → slice_get m.publishers who ≡ at
    → buffers_of m place messages at ≡ true → IsWithin m → IsFresh m
    → IsFresh (buffered_of m who place messages (slice_get m.publishers who))
    → IsTakenIn m (found.Buffer who place messages) (buffered_of m who place messages (slice_get m.publishers who))
buffers_taken m who place messages None e fit w h h' = absurd (cc fit)
buffers_taken m who place messages (Some lane) e fit w h h' =
    let is = may_buffer_is m place messages lane fit in
    subst (IsTakenIn m (found.Buffer who place messages)) (buffered_is m who place messages lane is e)
    (buffer_taken m who place messages lane is e w h (subst IsFresh (sym (buffered_is m who place messages lane is e)) h'))

-- what the tests of it say: where it may be found
pub buffers_may : (m : World) (who place messages : ℕ) (at : Option PublisherLaneState) → slice_get m.publishers who ≡ at
    → buffers_of m place messages at ≡ true → IsFresh m → MayHaveBuffer m who place messages
buffers_may m who place messages None e fit h = absurd (cc fit)
buffers_may m who place messages (Some lane) e fit h =
    let is = may_buffer_is m place messages lane fit in
    let back : given_back m.table is.route.connection ≡ (h.links is.route.connection is.link is.found).back
    = returned_is m is.route.connection is.link is.found h in
    record {
      lane = lane;
      publisher = e;
      route = is.route;
      at = is.at;
      link = is.link;
      connection = is.found;
      some = is.some;
      fits = is.few;
      no_message = is.empty;
      no_sample = empty_is (given_back m.table is.route.connection)
          (ap (λ (xs : List ℕ). length xs) back ∙ sym (back_count m is.route.connection is.link is.found h) ∙ is.none);
    }

-- and where it may be found, they say so
pub buffers_say : (m : World) (who place messages : ℕ) → MayHaveBuffer m who place messages → IsFresh m
    → buffers_of m place messages (slice_get m.publishers who) ≡ true
buffers_say m who place messages is h =
    let c : ℕ = is.route.connection in
    let some : Bool = nat_lt 0 messages in
    let few : Bool = nat_le messages is.link.limit in
    let empty : Bool = length is.link.found == 0 in
    let none : back_found m.table c ≡ 0 =
    back_count m c is.link is.connection h ∙ ap (λ (xs : List ℕ). length xs)
    (sym (returned_is m c is.link is.connection h) ∙ is.no_sample) in
    ap (buffers_of m place messages) is.publisher
    ∙ ap (buffers_at m messages) is.at
    ∙ ap (may_buffer m c messages) is.connection
    ∙ both (some && few && empty) (back_found m.table c == 0)
    (both (some && few) empty (both some few (lt-ltb 0 messages is.some) (le-leb messages is.link.limit is.fits))
    (ap (λ (xs : List ℕ). length xs == 0) is.no_message))
    (ap (λ (n : ℕ). n == 0) none)

-- A subscriber two of whose connections changed places leaves lanes as they are before their first step.
use Rattle.std.proofs.Common.{ℕ, ◌≡◌, ◌<◌, ◌⊎◌, ◌==◌, if◌then◌else◌, true, nat_lt, List, [], ◌∷◌, length, set, get_or, slice_get, Option}
use Rattle.std.proofs.Common.{Some, None, refl, sym, ◌∙◌, ap, subst, inl, inr, arith}
use Rattle.std.specs.List.{All, swap}
use Rattle.std.proofs.lemmas.Bool.{ltb-true}
use Rattle.std.proofs.lemmas.Bool.Decides.{eqb_tells}
use Rattle.std.proofs.lemmas.List.Edits.{swap_is, length-swap}
use Rattle.std.proofs.lemmas.List.Elements.{All-set}
use Rattle.std.proofs.lemmas.Option.{slice_get-get_or}
use Rattle.iox_lanes_machine.specs.LanesBase.declared.calls.route.Route.{Route}
use Rattle.iox_lanes_machine.specs.LanesParties.Parties.{SubscriberLaneState, receiver_swapped}
use Rattle.iox_lanes_machine.specs.LanesParties.Within.{IsRoute, IsSubscribing, IsSubscriber}
use Rattle.iox_lanes_machine.proofs.LanesParties.Rings.{all_at, and_left, and_right}
use Rattle.iox_lanes_machine.proofs.Entries.{choose_one, choose_other}
use Rattle.iox_lanes_machine.specs.Findings.{swaps_of, swapped_of}
use Rattle.iox_lanes_machine.specs.Fresh.{IsFreshSubscriber, IsFresh}
use Rattle.iox_lanes_machine.specs.Kept.{IsLinkOf, receiver, IsWithin}
use Rattle.iox_lanes_machine.specs.Links.{LinkState}
use Rattle.iox_lanes_machine.specs.Rooms.{may_borrow, HasReceived}
use Rattle.iox_lanes_machine.specs.TakenIn.{other_place}
use Rattle.iox_lanes_machine.specs.World.{World}
use Rattle.iox_lanes_machine.proofs.FoundFresh.{set_cases}
use Rattle.iox_lanes_machine.proofs.Within.{set_same, set_other}

-- the place at which something stood that stands at a place now
place_one : (one other : ℕ) → other_place one other one ≡ other
place_one one other = elim (eqb_tells one one) [
  | inl same ↦ choose_one (one == one) other (if one == other then one else one) same.0
  | inr off ↦ absurd (off.1 refl)
]

place_other : (one other : ℕ) → (other ≡ one → ⊥) → other_place one other other ≡ one
place_other one other not = elim (eqb_tells other one) [
  | inl same ↦ absurd (not same.1)
  | inr off ↦
      choose_other (other == one) other (if other == other then one else other) off.0
      ∙ elim (eqb_tells other other) [
        | inl itself ↦ choose_one (other == other) one other itself.0
        | inr never ↦ absurd (never.1 refl)
      ]
]

place_off : (one other k : ℕ) → (k ≡ one → ⊥) → (k ≡ other → ⊥) → other_place one other k ≡ k
place_off one other k a b = elim (eqb_tells k one) [
  | inl same ↦ absurd (a same.1)
  | inr off ↦
      choose_other (k == one) other (if k == other then one else k) off.0
      ∙ elim (eqb_tells k other) [
        | inl same ↦ absurd (b same.1)
        | inr far ↦ choose_other (k == other) one k far.0
      ]
]

-- which of two places a place is, if any
abbrev Which : ℕ → ℕ → ℕ → Type 0
Which one other k = (k ≡ one) ⊎ ((k ≡ other) ⊎ ((k ≡ one → ⊥) × (k ≡ other → ⊥)))

which : (one other k : ℕ) → Which one other k
which one other k = elim (eqb_tells k one) [
  | inl same ↦ inl same.1
  | inr off ↦ inr (elim (eqb_tells k other) [
    | inl same ↦ inl same.1
    | inr far ↦ inr (off.1, far.1)
  ])
]

place_second : (one other : ℕ) → other_place one other other ≡ one
place_second one other = elim (eqb_tells other one) [
  | inl same ↦ ap (other_place one other) same.1 ∙ place_one one other ∙ same.1
  | inr off ↦ place_other one other off.1
]

-- the same places change back
place_back : (one other k : ℕ) → other_place one other (other_place one other k) ≡ k
place_back one other k = elim (which one other k) [
  | inl first ↦ ap (other_place one other) (ap (other_place one other) first ∙ place_one one other) ∙ place_second one other ∙ sym first
  | inr rest ↦ elim rest [
    | inl second ↦ ap (other_place one other) (ap (other_place one other) second ∙ place_second one other) ∙ place_one one other ∙ sym
        second
    | inr off ↦ ap (other_place one other) (place_off one other k off.0 off.1) ∙ place_off one other k off.0 off.1
  ]
]

-- what stands at a place of a list of which two elements changed places
pub swapped_at : (xs : List Route) (one other k : ℕ) → one < length xs → other < length xs
    → slice_get (swap xs one other) k ≡ slice_get xs (other_place one other k)
swapped_at [] one other k low high = absurd (omega (arith, low))
swapped_at (d ∷ ys) one other k low high = elim (which one other k) [
  | inl first ↦ ap (slice_get (swap xs one other)) first ∙ ap (λ (l : List Route). slice_get l one) (sym is) ∙ at_one ∙ ap
      (slice_get xs) (sym (ap (other_place one other) first ∙ place_one one other))
  | inr rest ↦ elim rest [
    | inl second ↦ ap (slice_get (swap xs one other)) second ∙ ap (λ (l : List Route). slice_get l other) (sym is) ∙ at_other ∙ sym
        was_one ∙ ap (slice_get xs) (sym (ap (other_place one other) second ∙ place_second one other))
    | inr off ↦ ap (λ (l : List Route). slice_get l k) (sym is) ∙ set_other inner other k x1 off.1 ∙ set_other xs one k x2 off.0 ∙ ap
        (slice_get xs) (sym (place_off one other k off.0 off.1))
  ]
]
  where
    xs : List Route
    xs = d ∷ ys

    x1 : Route
    x1 = get_or xs one d

    x2 : Route
    x2 = get_or xs other d

    inner : List Route
    inner = set xs one x2

    is : set inner other x1 ≡ swap xs one other
    is = swap_is xs one other d low high

    was_one : slice_get xs one ≡ Some x1
    was_one = slice_get-get_or xs one d low

    was_other : slice_get xs other ≡ Some x2
    was_other = slice_get-get_or xs other d high

    between : slice_get inner other ≡ Some x2
    between = elim (eqb_tells other one) [
      | inl same ↦ ap (slice_get inner) same.1 ∙ set_same xs one x2 x1 was_one
      | inr off ↦ set_other xs one other x2 off.1 ∙ was_other
    ]

    at_other : slice_get (set inner other x1) other ≡ Some x1
    at_other = set_same inner other x1 x2 between

    at_one : slice_get (set inner other x1) one ≡ slice_get xs other
    at_one = elim (eqb_tells one other) [
      | inl same ↦ ap (slice_get (set inner other x1)) same.1 ∙ at_other ∙ sym was_one ∙ ap (slice_get xs) same.1
      | inr off ↦ set_other inner other one x1 off.1 ∙ set_same xs one x2 x1 was_one ∙ sym was_other
    ]

-- what stood at a place stands at the other one
pub swapped_there : (xs : List Route) (one other k : ℕ) → one < length xs → other < length xs
    → slice_get (swap xs one other) (other_place one other k) ≡ slice_get xs k
swapped_there xs one other k low high
    = swapped_at xs one other (other_place one other k) low high ∙ ap (slice_get xs) (place_back one other k)

all_swapped : (P : Route → Type 0) (xs : List Route) (one other : ℕ) → one < length xs → other < length xs → All P xs
    → All P (swap xs one other)
all_swapped P [] one other low high all = absurd (omega (arith, low))
all_swapped P (d ∷ ys) one other low high all =
    let xs : List Route = d ∷ ys in
    let x1 : Route = get_or xs one d in
    let x2 : Route = get_or xs other d in
    subst (All P) (swap_is xs one other d low high)
    (All-set P (set xs one x2) other x1 (all_at P xs one x1 (slice_get-get_or xs one d low) all)
    (All-set P xs one x2 (all_at P xs other x2 (slice_get-get_or xs other d high) all) all))

received_swapped : (links : List LinkState) (who one other : ℕ) (routes : List Route) → one < length routes → other < length routes
    → HasReceived links who routes → HasReceived links who (swap routes one other)
received_swapped links who one other routes low high has = record {
  each = λ connection link there own.
      let is = has.each connection link there own in
      record {
        place = other_place one other is.place;
        route = is.route;
        found
            = swapped_there routes one other is.place low high ∙ is.found;
        same = is.same;
      };
  once = λ i j first second at there same.
      sym (place_back one other i)
      ∙ ap (other_place one other) (has.once (other_place one other i) (other_place one other j) first second
      (sym (swapped_at routes one other i low high) ∙ at) (sym (swapped_at routes one other j low high) ∙ there) same)
      ∙ place_back one other j;
}

-- a subscriber two of whose connections may change places
pub record MaySwap (one other : ℕ) (lane : SubscriberLaneState) : Type 0 where
  pub low : one < length lane.port.routes
  pub high : other < length lane.port.routes

pub may_swap_is : (one other : ℕ) (lane : SubscriberLaneState) → swaps_of one other (Some lane) ≡ true → MaySwap one other lane
may_swap_is one other lane h = record {
  low = ltb-true one (length lane.port.routes) (and_left (nat_lt one (length lane.port.routes)) (nat_lt other (length lane.port.routes)) h);
  high = ltb-true other (length lane.port.routes)
      (and_right (nat_lt one (length lane.port.routes)) (nat_lt other (length lane.port.routes)) h);
}

swapped_fresh : (m : World) (who one other : ℕ) (lane : SubscriberLaneState) → MaySwap one other lane
    → slice_get m.subscribers who ≡ Some lane → IsWithin m → IsFresh m
    → IsWithin (swapped_of m who one other (Some lane)) × IsFresh (swapped_of m who one other (Some lane))
swapped_fresh m who one other lane may found w h = (within, fresh)
  where
    own : IsFreshSubscriber m who lane
    own = h.subscribers who lane found

    now' : SubscriberLaneState
    now' = receiver_swapped one other lane

    routes' : List Route
    routes' = swap lane.port.routes one other

    world : World
    world = record m { subscribers = set m.subscribers who now' }

    port : IsSubscriber m.table.sizes lane
    port = all_at (IsSubscriber m.table.sizes) m.subscribers who lane found w.subscribers

    within : IsWithin world
    within = record {
      publishers = w.publishers;
      subscribers = All-set (IsSubscriber m.table.sizes) m.subscribers who now' (record {
        routes = all_swapped (IsRoute m.table.sizes) lane.port.routes one other may.low may.high port.routes;
        call = subst (IsSubscribing m.table.sizes routes') (sym own.idle) tt;
        slots = port.slots;
        extent = port.extent;
      }) w.subscribers;
      senders = w.senders;
      receivers = λ place now e. elim (set_cases m.subscribers who lane now' found place now e) [
        | inl here ↦ subst (λ (l : SubscriberLaneState). All (IsLinkOf m.links receiver place) l.port.routes) here.1
            (subst (λ (i : ℕ). All (IsLinkOf m.links receiver i) routes') (sym here.0)
            (all_swapped (IsLinkOf m.links receiver who) lane.port.routes one other may.low may.high (w.receivers who lane found)))
        | inr off ↦ w.receivers place now off.1
      ];
      links = w.links;
      orders = w.orders;
      words = w.words;
    }

    moved : IsFreshSubscriber world who now'
    moved = record {
      idle = own.idle;
      connections = received_swapped m.links who one other lane.port.routes may.low may.high own.connections;
      round = all_swapped (λ (r : Route). r.completion_cells ≡ m.table.sizes.completion_cells) lane.port.routes one other may.low
          may.high own.round;
      all = own.all;
      none = own.none;
      borrowed = λ i below. own.borrowed i (omega (arith, below, length-swap lane.port.routes one other));
      words = own.words;
    }

    borrow_same : (i : ℕ) → may_borrow (slice_get (set m.subscribers who now') i) ≡ may_borrow (slice_get m.subscribers i)
    borrow_same i = elim (eqb_tells i who) [
      | inl same ↦
          let now : slice_get (set m.subscribers who now') i ≡ Some now'
          = ap (slice_get (set m.subscribers who now')) same.1 ∙ set_same m.subscribers who now' lane found in
          let was : slice_get m.subscribers i ≡ Some lane = ap (slice_get m.subscribers) same.1 ∙ found in
          ap may_borrow now ∙ sym (ap may_borrow was)
      | inr off ↦ ap may_borrow (set_other m.subscribers who i now' off.1)
    ]

    fresh : IsFresh world
    fresh = record {
      finished = h.finished;
      read = h.read;
      orders = h.orders;
      some = h.some;
      small = h.small;
      publishers = λ place now e.
          let was = h.publishers place now e in
          record {
            idle = was.idle;
            connections = was.connections;
            round = was.round;
            counted = was.counted;
            counts = was.counts;
            none_out
                = was.none_out;
            unlent = was.unlent;
            has = was.has;
          };
      subscribers = λ place now e. elim (set_cases m.subscribers who lane now' found place now e) [
        | inl here ↦ subst (IsFreshSubscriber world place) here.1 (subst (λ (i : ℕ). IsFreshSubscriber world i now') (sym here.0) moved)
        | inr off ↦
            let was = h.subscribers place now off.1 in
            record {
              idle = was.idle;
              connections = was.connections;
              round = was.round;
              all = was.all;
              none = was.none;
              borrowed
                  = was.borrowed;
              words = was.words;
            }
      ];
      links = λ d link e.
          let was = h.links d link e in
          record {
            some = was.some;
            small = was.small;
            room = was.room;
            ring = was.ring;
            back = was.back;
            returned = was.returned;
            few = was.few;
            sender = was.sender;
            cells = omega (arith, was.cells, borrow_same link.subscriber);
          };
      pairs = h.pairs;
      rows = h.rows;
      spare = h.spare;
      named = h.named;
    }

pub swaps_keep : (m : World) (who one other : ℕ) (at : Option SubscriberLaneState) → slice_get m.subscribers who ≡ at
    → swaps_of one other at ≡ true → IsWithin m → IsFresh m
    → IsWithin (swapped_of m who one other (slice_get m.subscribers who))
    × IsFresh (swapped_of m who one other (slice_get m.subscribers who))
swaps_keep m who one other None e fit w h = absurd (cc fit)
swaps_keep m who one other (Some lane) e fit w h =
    subst (λ (n : World). IsWithin n × IsFresh n) (sym (ap (swapped_of m who one other) e))
    (swapped_fresh m who one other lane (may_swap_is one other lane fit) e w h)

-- no step was made
pub swapped_moments : (m : World) (who one other : ℕ) (at : Option SubscriberLaneState)
    → (swapped_of m who one other at).moments ≡ m.moments
swapped_moments m who one other None = refl
swapped_moments m who one other (Some lane) = refl

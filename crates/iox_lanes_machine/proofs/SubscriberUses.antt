-- A subscriber's step keeps the publishers' records of who has which slot.
use Rattle.std.proofs.Common.{ℕ, ◌≡◌, ◌+◌, ◌<◌, ◌≤◌, ◌^◌, Bool, true, false, List, [], ◌∷◌, ◌++◌, length, set, get_or, slice_get, Option}
use Rattle.std.proofs.Common.{Some, None, refl, sym, ◌∙◌, ap, subst, inl, inr, arith}
use Rattle.std.specs.List.{All}
use Rattle.std.proofs.lemmas.Bool.{cases_lt}
use Rattle.std.proofs.lemmas.Bool.Decides.{eqb_tells}
use Rattle.std.proofs.lemmas.Option.{slice_get_within, slice_get-get_or}
use Rattle.iox_lanes_machine.specs.QueuesSteps.Access.{RingWords}
use Rattle.iox_lanes_machine.specs.QueuesSteps.Order.{at}
use Rattle.iox_lanes_machine.specs.QueuesSteps.declared.order.Placed.{Placed}
use Rattle.iox_lanes_machine.specs.QueuesSteps.declared.order.PopAnswer.{PopAnswer}
use Rattle.iox_lanes_machine.specs.QueuesSteps.declared.order.PopAnswer.TheVariants.{Got, Saw}
use Rattle.iox_lanes_machine.specs.QueuesSteps.declared.rings.refusing.push.Push as refusing_push_type
use Rattle.iox_lanes_machine.specs.QueuesSteps.Ends.{cells_of, pop_take}
use Rattle.iox_lanes_machine.specs.QueuesSteps.declared.rings.ends.RingKind.{RingKind}
use Rattle.iox_lanes_machine.specs.QueuesSteps.declared.rings.ends.Pop.{Pop}
use Rattle.iox_lanes_machine.specs.LanesBase.Table.{shared_answer, after_shared, IsOfTable}
use Rattle.iox_lanes_machine.specs.LanesBase.declared.words.sizes.TableSizes.{TableSizes}
use Rattle.iox_lanes_machine.specs.LanesBase.Answers.{pop_answer}
use Rattle.iox_lanes_machine.specs.LanesBase.Subscribing.{subscriber_next, subscriber_take, subscriber_change, borrowed_by, given_back_by}
use Rattle.iox_lanes_machine.specs.LanesBase.declared.calls.publisher.PublisherCall.{PublisherCall}
use Rattle.iox_lanes_machine.specs.LanesBase.declared.calls.route.Route.{Route}
use Rattle.iox_lanes_machine.specs.LanesBase.declared.calls.subscriber.SubscriberCall.{SubscriberCall}
use Rattle.iox_lanes_machine.specs.LanesBase.declared.calls.subscriber.SubscriberCall.TheVariants as subscribing
use Rattle.iox_lanes_machine.specs.LanesParties.Parties.{PublisherLaneState, SubscriberLaneState, subscriber_begun, subscriber_after}
use Rattle.iox_lanes_machine.specs.LanesParties.Within.{IsPublisher, IsSubscriber, IsSubscribing}
use Rattle.iox_lanes_machine.specs.LanesParties.declared.call.Call.{Call}
use Rattle.iox_lanes_machine.specs.LanesParties.declared.call.Move.TheVariants.{Begin, GoOn}
use Rattle.iox_lanes_machine.proofs.LanesParties.Rings.{all_at}
use Rattle.iox_lanes_machine.proofs.LanesParties.SubscribersWithin.{subscribers_stay_within}
use Rattle.iox_lanes_machine.specs.Borrowing.{borrows, ArePlaced, UsesBorrowed}
use Rattle.iox_lanes_machine.specs.Stored.{aside}
use Rattle.iox_lanes_machine.specs.LedgerUses.{one_if, count, refers_to}
use Rattle.iox_lanes_machine.proofs.Changes.{borrowed_in, returned_in, IsOwnChangeAt, release_follows}
use Rattle.iox_lanes_machine.proofs.Entries.{refers_own, one_if_le}
use Rattle.iox_lanes_machine.proofs.Samples.{samples_after, samples_are, samples_length, take_borrowed, begun_borrowed, begun_samples}
use Rattle.iox_lanes_machine.proofs.Samples.{borrows_same, OwnFits, Changes, own_there, own_elsewhere, gives_fit, takes_fit, placed_after}
use Rattle.iox_lanes_machine.specs.Rings.{waiting, push_on}
use Rattle.iox_lanes_machine.specs.Returns.{ReturnsKept, AreReturning, GoesRound, IsReturning}
use Rattle.iox_lanes_machine.specs.Sends.{AreConnected, IsAmong}
use Rattle.iox_lanes_machine.specs.Slots.{LoansStand}
use Rattle.iox_lanes_machine.specs.World.{World, publisher_stage, subscriber_stage, sender_stage, push_at, pops_from, pop_acts, added}
use Rattle.iox_lanes_machine.specs.World.{subscriber_given, subscriber_begins, subscriber_goes_on, subscriber_fits_at}
use Rattle.iox_lanes_machine.specs.Kept.{IsLinkOf, sender, receiver, IsWithin, IsKeptAt, AreKept}
use Rattle.iox_lanes_machine.specs.Uses.{aside_at, given_back, stands_at, PublisherUses, SubscriberUses, UsesKept}
use Rattle.iox_lanes_machine.specs.Links.{LinkState}
use Rattle.iox_lanes_machine.proofs.Calls.{set_is}
use Rattle.iox_lanes_machine.proofs.Ends.{some_is}
use Rattle.iox_lanes_machine.specs.LanesBase.declared.words.word.ConnectionRing.TheVariants.{Submission, Completion}
use Rattle.iox_lanes_machine.proofs.InTable.{access_elsewhere}
use Rattle.iox_lanes_machine.proofs.Kept.{seat}
use Rattle.iox_lanes_machine.proofs.PublisherUses.{order_there, order_after}
use Rattle.iox_lanes_machine.proofs.Returns.{releases_at, release_here, subscriber_off}
use Rattle.iox_lanes_machine.proofs.ReturnSteps.{back_seat, releases_own}
use Rattle.iox_lanes_machine.proofs.Standing.{pop_moves, release_moves, back_same}
use Rattle.iox_lanes_machine.proofs.Steps.{subscriber_elsewhere, added_other, added_here, pops_own}
use Rattle.iox_lanes_machine.proofs.Within.{set_other, set_same, sizes_stay, changed_routes, subscriber_routes}

-- how often a slot stands at a connection
abbrev pub Standing : World → ℕ → LinkState → List Placed → ℕ → ℕ
Standing m connection link order s = stands_at m.table connection link order (publisher_stage (slice_get m.publishers link.publisher))
    (slice_get m.subscribers link.subscriber) s

-- the publisher of a connection, and what its record says of a slot there
pub record IsRecorded (m : World) (connection : ℕ) (link : LinkState) (order : List Placed) (s : ℕ) : Type 0 where
  pub lane : PublisherLaneState
  pub found : slice_get m.publishers link.publisher ≡ Some lane
  pub place : ℕ
  pub route : Route
  pub at : slice_get lane.port.routes place ≡ Some route
  pub same : route.connection ≡ connection
  pub is : Standing m connection link order s ≡ one_if (refers_to lane.port.book place s)

pub lane_there : (lanes : List PublisherLaneState) (place : ℕ) (at : Option PublisherLaneState) → slice_get lanes place ≡ at
    → place < length lanes → (lane : PublisherLaneState) × (slice_get lanes place ≡ Some lane)
lane_there lanes place None e below = absurd (none_below lanes place below e)
  where
    none_below : (xs : List PublisherLaneState) (i : ℕ) → i < length xs → slice_get xs i ≡ None → ⊥
    none_below [] i lt h = absurd (omega (arith, lt))
    none_below (x ∷ xs) i lt h = absurd (cc (sym (slice_get-get_or (x ∷ xs) i x lt) ∙ h))
lane_there lanes place (Some lane) e below = (lane, e)

pub recorded : (m : World) (connection : ℕ) (link : LinkState) (order : List Placed) → slice_get m.links connection ≡ Some link
    → slice_get m.orders connection ≡ Some order → AreConnected m → UsesKept m → (s : ℕ) → IsRecorded m connection link order s
recorded m connection link order found got sends u s =
    let there = lane_there m.publishers link.publisher (slice_get m.publishers link.publisher) refl (u.senders connection link found) in
    let among : IsAmong (there.0).port.routes connection
    = (sends link.publisher there.0 there.1).each connection link found refl in
    let uses : PublisherUses m there.0 = u.publishers link.publisher there.0 there.1 in
    record {
      lane = there.0;
      found = there.1;
      place = among.place;
      route = among.route;
      at = among.found;
      same = among.same;
      is = subst (λ (at : Option PublisherLaneState). stands_at m.table connection link order (publisher_stage at)
          (slice_get m.subscribers link.subscriber) s ≡ one_if (refers_to (there.0).port.book among.place s)) (sym there.1)
          (subst (λ (c : ℕ). stands_at m.table c link order (there.0).port.call (slice_get m.subscribers link.subscriber) s
          ≡ one_if (refers_to (there.0).port.book among.place s)) among.same
          (uses.balanced among.place among.route link order among.found (ap (slice_get m.links) among.same ∙ found)
          (ap (slice_get m.orders) among.same ∙ got) s));
    }

has_it : (b : Bool) (n : ℕ) → n ≡ one_if b → 0 < n → b ≡ true
has_it true n e some = refl
has_it false n e some = absurd (omega (arith, e, some))

-- a slot that stands at a connection is one of its publisher's
pub record IsOf (m : World) (link : LinkState) (s : ℕ) : Type 0 where
  pub lane : PublisherLaneState
  pub found : slice_get m.publishers link.publisher ≡ Some lane
  pub above : lane.port.book.first ≤ s
  pub below : s < lane.port.book.first + length lane.port.book.loans

pub of_publisher : (m : World) (connection : ℕ) (link : LinkState) (order : List Placed) → slice_get m.links connection ≡ Some link
    → slice_get m.orders connection ≡ Some order → AreConnected m → UsesKept m → (s : ℕ) → 0 < Standing m connection link order s
    → IsOf m link s
of_publisher m connection link order found got sends u s some =
    let r = recorded m connection link order found got sends u s in
    let has : refers_to (r.lane).port.book r.place s ≡ true
    = has_it (refers_to (r.lane).port.book r.place s) (Standing m connection link order s) r.is some in
    let own = refers_own (r.lane).port.book.first (length (r.lane).port.book.uses) (r.lane).port.book.referred r.place s has in
    let uses : PublisherUses m r.lane = u.publishers link.publisher r.lane r.found in
    record { lane = r.lane; found = r.found; above = own.0; below = omega (arith, own.1, uses.counted.loans_each) }

-- a slot stands at no two connections of one subscriber
one_connection : (m : World) (one other : ℕ) (link behind : LinkState) (order order' : List Placed) → slice_get m.links one ≡ Some link
    → slice_get m.orders one ≡ Some order → slice_get m.links other ≡ Some behind → slice_get m.orders other ≡ Some order'
    → AreConnected m → LoansStand m → UsesKept m → link.subscriber ≡ behind.subscriber → (s : ℕ) → 0 < Standing m one link order s
    → 0 < Standing m other behind order' s → one ≡ other
one_connection m one other link behind order order' found got found' got' sends l u same s some some' =
    let x = of_publisher m one link order found got sends u s some in
    let y = of_publisher m other behind order' found' got' sends u s some' in
    elim (cases_lt link.publisher behind.publisher) [
      | inl lt ↦ absurd (let row = l.rows link.publisher behind.publisher x.lane y.lane x.found y.found lt in omega
          (arith, row, x.below, y.above))
      | inr ge ↦ elim (cases_lt behind.publisher link.publisher) [
        | inl gt ↦ absurd (let row = l.rows behind.publisher link.publisher y.lane x.lane y.found x.found gt in omega
            (arith, row, y.below, x.above))
        | inr le ↦ u.pairs one other link behind found found' (omega (arith, ge, le)) same
      ]
    ]

-- a subscriber borrows nothing that waits or lies aside at a connection of its own
unborrowed : (m : World) (who one other : ℕ) (link behind : LinkState) (order order' : List Placed) (lane : SubscriberLaneState)
    → slice_get m.subscribers who ≡ Some lane → slice_get m.links one ≡ Some link → slice_get m.orders one ≡ Some order
    → slice_get m.links other ≡ Some behind → slice_get m.orders other ≡ Some order'
    → AreConnected m → LoansStand m → UsesKept m → link.subscriber ≡ who → behind.subscriber ≡ who → (s : ℕ)
    → 0 < count s (waiting link order) + count s (aside_at m.table one link (publisher_stage (slice_get m.publishers link.publisher)))
    → (b : Bool) → borrows other s (Some lane) ≡ b → b ≡ false
unborrowed m who one other link behind order order' lane e found got found' got' sends l u is is' s some false h = refl
unborrowed m who one other link behind order order' lane e found got found' got' sends l u is is' s some true h =
    let there : borrows other s (slice_get m.subscribers behind.subscriber) ≡ true
    = ap (borrows other s) (ap (slice_get m.subscribers) is' ∙ e) ∙ h in
    let same : one ≡ other = one_connection m one other link behind order order' found got found' got' sends l u (is ∙ sym is') s
    (omega (arith, some)) (omega (arith, ap one_if there)) in
    let here : borrows one s (slice_get m.subscribers link.subscriber) ≡ true
    = ap (λ (c : ℕ). borrows c s (slice_get m.subscribers link.subscriber)) same ∙ ap (borrows other s)
    (ap (slice_get m.subscribers) is ∙ e) ∙ h in
    let r = recorded m one link order found got sends u s in
    absurd (omega (arith, r.is, one_if_le (refers_to (r.lane).port.book r.place s), some, ap one_if here))

-- what all of it wants to know of a subscriber
pub record Setting (m : World) (who : ℕ) (lane : SubscriberLaneState) (c : SubscriberCall) : Type 0 where
  pub bound : m.moments < 2 ^ 63
  pub within : IsWithin m
  pub kept : AreKept m
  pub some : 0 < m.table.sizes.completion_cells
  pub returning : AreReturning m
  pub sends : AreConnected m
  pub loans : LoansStand m
  pub uses : UsesKept m
  pub found : slice_get m.subscribers who ≡ Some lane
  pub round : GoesRound m.table.sizes.completion_cells lane.port.routes
  pub links : All (IsLinkOf m.links receiver who) lane.port.routes
  pub call_is : IsSubscribing m.table.sizes lane.port.routes c
  pub access : IsOfTable m.table.sizes (subscriber_next c)
  pub stage : lane.port.call ≡ c
  pub own : SubscriberUses m lane

-- what a step answers
abbrev pub told : World → SubscriberCall → ℕ
told m c = shared_answer m.table (subscriber_next c)

-- the connection of a subscriber, and its order before and after
pub record Spot (m : World) (who : ℕ) (c : SubscriberCall) (connection : ℕ) (link : LinkState) (order order' : List Placed) : Type 0 where
  pub found : slice_get m.links connection ≡ Some link
  pub receiver_is : link.subscriber ≡ who
  pub got : slice_get m.orders connection ≡ Some order
  pub after : slice_get (added m.orders (pops_from c) m.moments (pop_acts m c)) connection ≡ Some order'

pub stage_here : (m : World) (who : ℕ) (lane : SubscriberLaneState) (c : SubscriberCall) (link : LinkState) → Setting m who lane c
    → link.subscriber ≡ who → subscriber_stage (slice_get m.subscribers link.subscriber) ≡ c
stage_here m who lane c link k is = ap (λ (i : ℕ). subscriber_stage (slice_get m.subscribers i)) is ∙ ap subscriber_stage k.found ∙ k.stage

-- what a publisher's call is at a connection
abbrev pub sends_at : World → LinkState → PublisherCall
sends_at m link = publisher_stage (slice_get m.publishers link.publisher)

-- a step that receives elsewhere leaves what was sent there
sent_same : (m : World) (who : ℕ) (lane : SubscriberLaneState) (c : SubscriberCall) (connection : ℕ) (link : LinkState)
    (order order' : List Placed) → Setting m who lane c → Spot m who c connection link order order'
    → (pops_from c ≡ Some connection → ⊥) → (s : ℕ)
    → count s (waiting link order') + count s (aside_at (after_shared m.table (subscriber_next c)) connection link (sends_at m link))
    ≡ count s (waiting link order) + count s (aside_at m.table connection link (sends_at m link))
sent_same m who lane c connection link order order' k p off s =
    let same : order' ≡ order = some_is order' order
    (sym p.after ∙ added_other m.orders (pops_from c) m.moments (pop_acts m c) connection off ∙ p.got) in
    omega (
      arith,
      ap (λ (o : List Placed). count s (waiting link o)) same,
      ap (λ (ws : RingWords). count s (aside ws.read (push_on connection link.kind (sends_at m link))))
          (access_elsewhere Submission m.table connection (cells_of link.kind link.limit) (subscriber_next c)
          (seat m connection link p.found k.within) (subscriber_elsewhere m.table connection c off k.access)),
    )

-- a step that gives back elsewhere leaves what was given back there
pub returned_same : (m : World) (who : ℕ) (lane : SubscriberLaneState) (c : SubscriberCall) (connection : ℕ) (link : LinkState)
    (order order' : List Placed) → Setting m who lane c → Spot m who c connection link order order'
    → (releases_at c ≡ Some connection → ⊥) → (s : ℕ)
    → count s (given_back (after_shared m.table (subscriber_next c)) connection) ≡ count s (given_back m.table connection)
returned_same m who lane c connection link order order' k p off s =
    back_same m.table (subscriber_next c) connection
    (access_elsewhere Completion m.table connection m.table.sizes.completion_cells (subscriber_next c)
    (back_seat m connection link p.found k.some k.within) (subscriber_off m.table connection c off k.access)) s

-- how often a slot stands at a connection after a step
abbrev After : World → SubscriberCall → SubscriberLaneState → ℕ → LinkState → List Placed → ℕ → ℕ
After m c after connection link order' s
    = stands_at (after_shared m.table (subscriber_next c)) connection link order' (sends_at m link) (Some after) s

-- and how often before it
abbrev Before : World → SubscriberLaneState → ℕ → LinkState → List Placed → ℕ → ℕ
Before m lane connection link order s = stands_at m.table connection link order (sends_at m link) (Some lane) s

-- a receive takes at its own connection
taken_there : (m : World) (who : ℕ) (lane : SubscriberLaneState) (place : ℕ) (route : Route) (p : Pop) (waits : Bool) (link : LinkState)
    (order order' : List Placed) → Setting m who lane (subscribing.Receiving place route p waits)
    → Spot m who (subscribing.Receiving place route p waits) route.connection link order order'
    → (s : ℕ) → count s (waiting link order') + count s
    (aside_at (after_shared m.table (subscriber_next (subscribing.Receiving place route p waits))) route.connection link
    (sends_at m link))
    + count s (borrowed_in (subscriber_change (subscribing.Receiving place route p waits)
    (told m (subscribing.Receiving place route p waits))))
    ≡ count s (waiting link order) + count s (aside_at m.table route.connection link (sends_at m link))
taken_there m who lane place route p waits link order order' k spot s =
    let before = added_here m.orders (Some route.connection) m.moments (pop_acts m (subscribing.Receiving place route p waits))
    route.connection order' refl spot.after in
    let same_order : before.0 ≡ order = some_is before.0 order (sym before.1 ∙ spot.got) in
    let is : order' ≡ order ++ at m.moments (pop_acts m (subscribing.Receiving place route p waits))
    = before.2 ∙ ap (λ (o : List Placed). o ++ at m.moments (pop_acts m (subscribing.Receiving place route p waits))) same_order in
    let mine : IsLinkOf m.links receiver who route
    = all_at (IsLinkOf m.links receiver who) lane.port.routes place route k.call_is k.links in
    let same : mine.link ≡ link = some_is mine.link link (sym mine.found ∙ spot.found) in
    let push_is : push_at m route.connection route.kind ≡ push_on route.connection link.kind (sends_at m link) =
    ap (λ (o : Option LinkState). push_on route.connection route.kind (sender_stage m o)) spot.found ∙ ap
    (λ (x : RingKind). push_on route.connection x (sends_at m link)) (mine.kind ∙ ap (λ (l : LinkState). l.kind) same) in
    let kept : IsKeptAt m.table m.moments route.connection link order (sends_at m link) (subscribing.Receiving place route p waits) =
    subst (λ (x : SubscriberCall). IsKeptAt m.table m.moments route.connection link order (sends_at m link) x)
    (stage_here m who lane (subscribing.Receiving place route p waits) link k spot.receiver_is)
    (k.kept route.connection link order spot.found spot.got) in
    omega (
      arith,
      pop_moves m.table m.moments place route p waits link order (sends_at m link) (push_at m route.connection route.kind)
          route.submission_cells
          (mine.cells ∙ ap (λ (l : LinkState). cells_of l.kind l.limit) same) push_is (seat m route.connection link spot.found k.within)
          k.bound kept s,
      ap (λ (o : List Placed). count s (waiting link o)) is,
    )

-- what it takes is a slot of the service that the subscriber borrows of none of its connections
pub takes_unborrowed : (m : World) (who : ℕ) (lane : SubscriberLaneState) (place : ℕ) (route : Route) (p : Pop) (waits : Bool)
    (connection : ℕ) (link : LinkState) (order order' : List Placed)
    → Setting m who lane (subscribing.Receiving place route p waits)
    → Spot m who (subscribing.Receiving place route p waits) connection link order order'
    → OwnFits lane connection place (subscriber_change (subscribing.Receiving place route p waits)
    (told m (subscribing.Receiving place route p waits)))
takes_unborrowed m who lane place route p waits connection link order order' k spot =
    takes_fit lane connection place (pop_answer (pop_take p (told m (subscribing.Receiving place route p waits)))) (λ v is. of_answer v is)
  where
    here : Spot m who (subscribing.Receiving place route p waits) route.connection
        (all_at (IsLinkOf m.links receiver who) lane.port.routes place route k.call_is k.links).link
        (get_or m.orders route.connection [])
        (get_or (added m.orders (Some route.connection) m.moments (pop_acts m (subscribing.Receiving place route p waits)))
        route.connection [])
    here = record {
      found = (all_at (IsLinkOf m.links receiver who) lane.port.routes place route k.call_is k.links).found;
      receiver_is = (all_at (IsLinkOf m.links receiver who) lane.port.routes place route k.call_is k.links).own;
      got = order_there m route.connection (all_at (IsLinkOf m.links receiver who) lane.port.routes place route k.call_is k.links).link
          (all_at (IsLinkOf m.links receiver who) lane.port.routes place route k.call_is k.links).found k.within;
      after = order_after m (Some route.connection) (pop_acts m (subscribing.Receiving place route p waits)) route.connection
          (all_at (IsLinkOf m.links receiver who) lane.port.routes place route k.call_is k.links).link
          (all_at (IsLinkOf m.links receiver who) lane.port.routes place route k.call_is k.links).found k.within;
    }

    one_here : (v : ℕ) → 0 < count v (v ∷ [])
    one_here v = elim (eqb_tells v v) [
      | inl same ↦ omega (arith, ap one_if same.0)
      | inr other ↦ absurd (other.1 refl)
    ]

    of_answer : (v : ℕ) → pop_answer (pop_take p (told m (subscribing.Receiving place route p waits))) ≡ Some (Got (Some v))
        → (v < length lane.port.samples) × (borrows connection v (Some lane) ≡ false)
    of_answer v is =
        let took : count v (borrowed_in (subscriber_change (subscribing.Receiving place route p waits)
        (told m (subscribing.Receiving place route p waits)))) ≡ count v (v ∷ [])
        = ap (λ (a : Option PopAnswer). count v (borrowed_in (borrowed_by place a))) is in
        let stood : 0 < count v (waiting (all_at (IsLinkOf m.links receiver who) lane.port.routes place route k.call_is k.links).link
        (get_or m.orders route.connection []))
        + count v (aside_at m.table route.connection
        (all_at (IsLinkOf m.links receiver who) lane.port.routes place route k.call_is k.links).link
        (sends_at m (all_at (IsLinkOf m.links receiver who) lane.port.routes place route k.call_is k.links).link)) =
        omega (arith, taken_there m who lane place route p waits _ _ _ k here v, took, one_here v) in
        let owner = of_publisher m route.connection _ _ here.found here.got k.sends k.uses v (omega (arith, stood)) in
        let is_publisher : IsPublisher m.table.sizes owner.lane
        = all_at (IsPublisher m.table.sizes) m.publishers _ owner.lane owner.found (k.within).publishers in (
          omega (arith, owner.below, is_publisher.slots, (k.own).all),
          unborrowed m who route.connection connection _ link _ order lane k.found here.found here.got spot.found spot.got k.sends
              k.loans k.uses here.receiver_is spot.receiver_is v stood (borrows connection v (Some lane)) refl,
        )

-- a receive borrows at its place, and gives nothing back
pub borrow_at : (place : ℕ) (a : Option PopAnswer) → IsOwnChangeAt place (borrowed_by place a)
borrow_at place None = tt
borrow_at place (Some (Got (Some slot))) = refl
borrow_at place (Some (Got None)) = tt
borrow_at place (Some (Saw some)) = tt

none_returned : (place : ℕ) (a : Option PopAnswer) → returned_in (borrowed_by place a) ≡ []
none_returned place None = refl
none_returned place (Some (Got (Some slot))) = refl
none_returned place (Some (Got None)) = refl
none_returned place (Some (Saw some)) = refl

-- a release gives back at its own connection
pub given_there : (m : World) (who : ℕ) (lane : SubscriberLaneState) (place : ℕ) (route : Route) (p : refusing_push_type.Push)
    (link : LinkState) (order order' : List Placed) → Setting m who lane (subscribing.Releasing place route p)
    → Spot m who (subscribing.Releasing place route p) route.connection link order order'
    → (s : ℕ) → count s (given_back (after_shared m.table (subscriber_next (subscribing.Releasing place route p))) route.connection)
    ≡ count s (given_back m.table route.connection) + count s (returned_in (given_back_by place p))
given_there m who lane place route p link order order' k spot s =
    let size : route.completion_cells ≡ m.table.sizes.completion_cells
    = all_at (λ (r : Route). r.completion_cells ≡ m.table.sizes.completion_cells) lane.port.routes place route k.call_is k.round in
    let returning : IsReturning m.table.sizes.completion_cells m.table m.moments route.connection (sends_at m link)
    (subscribing.Releasing place route p) =
    subst (λ (x : SubscriberCall). IsReturning m.table.sizes.completion_cells m.table m.moments route.connection (sends_at m link) x)
    (stage_here m who lane (subscribing.Releasing place route p) link k spot.receiver_is)
    (k.returning route.connection link spot.found) in
    omega (
      arith,
      release_moves m.table m.moments route.connection (sends_at m link) (subscribing.Releasing place route p) p route.completion_cells
          size (release_here place route p) (back_seat m route.connection link spot.found k.some k.within) k.bound returning s,
      ap (count s) (release_follows place p).gives,
    )

-- a step of a call that stands elsewhere, and changes no sample
still : (m : World) (who : ℕ) (lane after : SubscriberLaneState) (c : SubscriberCall) (connection : ℕ) (link : LinkState)
    (order order' : List Placed) → Setting m who lane c → Spot m who c connection link order order'
    → (pops_from c ≡ Some connection → ⊥) → (releases_at c ≡ Some connection → ⊥)
    → ((s : ℕ) → borrows connection s (Some after) ≡ borrows connection s (Some lane)) → (s : ℕ)
    → After m c after connection link order' s ≡ Before m lane connection link order s
still m who lane after c connection link order order' k p off off' same s =
    omega (
      arith,
      sent_same m who lane c connection link order order' k p off s,
      returned_same m who lane c connection link order order' k
          p off' s,
      ap one_if (same s),
    )

-- samples that don't change
no_change : (lane after : SubscriberLaneState) (connection : ℕ) → after.port.routes ≡ lane.port.routes
    → after.port.samples ≡ lane.port.samples → (s : ℕ) → borrows connection s (Some after) ≡ borrows connection s (Some lane)
no_change lane after connection routes samples s
    = borrows_same lane after connection s routes (ap (λ (xs : List (Option ℕ)). get_or xs s None) samples)

-- what stands at a connection of a subscriber stands there after its step
keeps : (m : World) (who : ℕ) (lane after : SubscriberLaneState) (c : SubscriberCall) (connection : ℕ) (link : LinkState)
    (order order' : List Placed) → Changes lane after (subscriber_change c (told m c)) → Setting m who lane c
    → Spot m who c connection link order order'
    → UsesBorrowed lane.port.samples c → (s : ℕ) → After m c after connection link order' s ≡ Before m lane connection link order s
keeps m who lane after subscribing.Idle connection link order order' ch k p b
    = still m who lane after subscribing.Idle connection link order order' k p (λ e. cc e) (λ e. cc e)
    (no_change lane after connection ch.routes ch.samples)
keeps m who lane after (subscribing.Receiving place route c waits) connection link order order' ch k p b =
    let fits = takes_unborrowed m who lane place route c waits connection link order order' k p in
    elim (eqb_tells route.connection connection) [
      | inl same ↦ λ s. subst (λ (n : ℕ). Spot m who (subscribing.Receiving place route c waits) n link order order'
          → one_if (borrows n s (Some after)) + count s
          (returned_in (subscriber_change (subscribing.Receiving place route c waits)
          (told m (subscribing.Receiving place route c waits))))
          ≡ one_if (borrows n s (Some lane)) + count s
          (borrowed_in (subscriber_change (subscribing.Receiving place route c waits) (told m (subscribing.Receiving place route c waits))))
          → After m (subscribing.Receiving place route c waits) after n link order' s ≡ Before m lane n link order s) same.1
          (λ spot borrowed. omega (
            arith,
            taken_there m who lane place route c waits link order order' k spot s,
            returned_same m who lane (subscribing.Receiving place route c waits) route.connection link order order' k spot (λ e. cc e) s,
            borrowed,
            ap (count s) (none_returned place (pop_answer (pop_take c (told m (subscribing.Receiving place route c waits))))),
          )) p (own_there lane after connection place route
          (subscriber_change (subscribing.Receiving place route c waits) (told m (subscribing.Receiving place route c waits))) ch
          (borrow_at place (pop_answer (pop_take c (told m (subscribing.Receiving place route c waits))))) k.call_is same.0 fits s)
      | inr other ↦ still m who lane after (subscribing.Receiving place route c waits) connection link order order' k p
          (λ e. other.1 (some_is route.connection connection e)) (λ e. cc e)
          (own_elsewhere lane after connection place route
          (subscriber_change (subscribing.Receiving place route c waits) (told m (subscribing.Receiving place route c waits))) ch
          (borrow_at place (pop_answer (pop_take c (told m (subscribing.Receiving place route c waits))))) k.call_is other.0 fits)
    ]
keeps m who lane after (subscribing.Received given) connection link order order' ch k p b
    = still m who lane after (subscribing.Received given) connection link order order' k p (λ e. cc e) (λ e. cc e)
    (no_change lane after connection ch.routes ch.samples)
keeps m who lane after (subscribing.Reading slot word extent) connection link order order' ch k p b
    = still m who lane after (subscribing.Reading slot word extent) connection link order order' k p (λ e. cc e) (λ e. cc e)
    (no_change lane after connection ch.routes ch.samples)
keeps m who lane after (subscribing.WasRead slot) connection link order order' ch k p b
    = still m who lane after (subscribing.WasRead slot) connection link order order' k p (λ e. cc e) (λ e. cc e)
    (no_change lane after connection ch.routes ch.samples)
keeps m who lane after (subscribing.Releasing place route c) connection link order order' ch k p b =
    let fits = gives_fit lane connection place c b in
    let follow = release_follows place c in
    elim (eqb_tells route.connection connection) [
      | inl same ↦ λ s. subst (λ (n : ℕ). Spot m who (subscribing.Releasing place route c) n link order order'
          → one_if (borrows n s (Some after)) + count s (returned_in (given_back_by place c))
          ≡ one_if (borrows n s (Some lane)) + count s (borrowed_in (given_back_by place c))
          → After m (subscribing.Releasing place route c) after n link order' s ≡ Before m lane n link order s) same.1
          (λ spot borrowed. omega (
            arith,
            sent_same m who lane (subscribing.Releasing place route c) route.connection link order order' k spot (λ e. cc e) s,
            given_there m who lane place route c link order order' k spot s,
            borrowed,
            ap (count s) follow.takes,
          )) p (own_there lane after connection place route (given_back_by place c) ch follow.at k.call_is same.0 fits s)
      | inr other ↦ still m who lane after (subscribing.Releasing place route c) connection link order order' k p (λ e. cc e)
          (λ e. other.1 (some_is route.connection connection e))
          (own_elsewhere lane after connection place route (given_back_by place c) ch follow.at k.call_is other.0 fits)
    ]
keeps m who lane after (subscribing.Released done) connection link order order' ch k p b
    = still m who lane after (subscribing.Released done) connection link order order' k p (λ e. cc e) (λ e. cc e)
    (no_change lane after connection ch.routes ch.samples)

-- the publisher of a connection after a subscriber's step
publisher_keeps : (m : World) (who : ℕ) (lane after : SubscriberLaneState) (place : ℕ) (z : PublisherLaneState)
    → Changes lane after (subscriber_change lane.port.call (told m lane.port.call)) → Setting m who lane lane.port.call
    → slice_get m.publishers place ≡ Some z
    → (at : ℕ) (route : Route) (link : LinkState) (order' : List Placed) → slice_get z.port.routes at ≡ Some route
    → slice_get m.links route.connection ≡ Some link
    → slice_get (added m.orders (pops_from lane.port.call) m.moments (pop_acts m lane.port.call)) route.connection ≡ Some order' → (s : ℕ)
    → stands_at (after_shared m.table (subscriber_next lane.port.call)) route.connection link order' z.port.call
    (slice_get (set m.subscribers who after) link.subscriber) s ≡ one_if (refers_to z.port.book at s)
publisher_keeps m who lane after place z ch k e at route link order' here found got s =
    let mine : IsLinkOf m.links sender place route
    = all_at (IsLinkOf m.links sender place) z.port.routes at route here ((k.within).senders place z e) in
    let same : mine.link ≡ link = some_is mine.link link (sym mine.found ∙ found) in
    let sends : publisher_stage (slice_get m.publishers link.publisher) ≡ z.port.call
    = ap publisher_stage (ap (slice_get m.publishers) (ap sender (sym same) ∙ mine.own) ∙ e) in
    let was = order_there m route.connection link found k.within in
    let balanced = ((k.uses).publishers place z e).balanced at route link (get_or m.orders route.connection []) here found was s in
    elim (eqb_tells link.subscriber who) [
      | inl own ↦
          let spot : Spot m who lane.port.call route.connection link (get_or m.orders route.connection []) order'
          = record { found = found; receiver_is = own.1; got = was; after = got } in
          let kept = keeps m who lane after lane.port.call route.connection link (get_or m.orders route.connection []) order' ch k spot
          (k.own).borrowed s in
          let before : slice_get m.subscribers link.subscriber ≡ Some lane = ap (slice_get m.subscribers) own.1 ∙ k.found in
          let now : slice_get (set m.subscribers who after) link.subscriber ≡ Some after
          = ap (slice_get (set m.subscribers who after)) own.1 ∙ set_same m.subscribers who after lane k.found in
          omega (
            arith,
            kept,
            balanced,
            ap (λ (o : Option SubscriberLaneState). one_if (borrows route.connection s o)) before,
            ap (λ (o : Option SubscriberLaneState). one_if (borrows route.connection s o)) now,
            ap (λ (x : PublisherCall). count s (aside_at m.table route.connection link x)) sends,
            ap (λ (x : PublisherCall). count s (aside_at (after_shared m.table (subscriber_next lane.port.call)) route.connection link
                x)) sends,
          )
      | inr other ↦
          let off : pops_from lane.port.call ≡ Some route.connection
          → ⊥ = λ h. other.1 (pops_own m who lane route.connection link k.found k.within found h) in
          let off_back : releases_at lane.port.call ≡ Some route.connection
          → ⊥ = λ h. other.1 (releases_own m who lane route.connection link k.found k.within found h) in
          let order_is : order' ≡ get_or m.orders route.connection []
          = some_is order' (get_or m.orders route.connection [])
          (sym got ∙ added_other m.orders (pops_from lane.port.call) m.moments (pop_acts m lane.port.call) route.connection off ∙
          was) in
          omega (
            arith,
            balanced,
            ap (λ (o : List Placed). count s (waiting link o)) order_is,
            ap (λ (ws : RingWords). count s (aside ws.read (push_on route.connection link.kind z.port.call)))
                (access_elsewhere Submission m.table route.connection (cells_of link.kind link.limit) (subscriber_next lane.port.call)
                (seat m route.connection link found k.within)
                (subscriber_elsewhere m.table route.connection lane.port.call off k.access)),
            back_same m.table (subscriber_next lane.port.call) route.connection
                (access_elsewhere Completion m.table route.connection m.table.sizes.completion_cells (subscriber_next lane.port.call)
                (back_seat m route.connection link found k.some k.within)
                (subscriber_off m.table route.connection lane.port.call off_back k.access)) s,
            ap (λ (o : Option SubscriberLaneState). one_if (borrows route.connection s o))
                (set_other m.subscribers who link.subscriber after other.1),
          )
    ]

-- a subscriber's next step changes its samples as its call says
pub changes_of : (m : World) (lane : SubscriberLaneState)
    → Changes lane (subscriber_after (subscriber_given m.table lane) lane) (subscriber_change lane.port.call (told m lane.port.call))
changes_of m lane = record {
  routes = (changed_routes (subscriber_change lane.port.call (subscriber_given m.table lane)) _).0;
  samples = samples_are (subscriber_change lane.port.call (subscriber_given m.table lane)) _;
}

-- a step borrows of a connection that the subscriber has
still_placed : (sizes : TableSizes) (routes : List Route) (samples : List (Option ℕ)) (c : SubscriberCall) (a : ℕ)
    → IsSubscribing sizes routes c → ArePlaced samples (length routes)
    → ArePlaced (samples_after (subscriber_change c a) samples) (length routes)
still_placed sizes routes samples subscribing.Idle a is h = h
still_placed sizes routes samples (subscribing.Receiving place route p waits) a is h
    = placed_after samples (length routes) place (borrowed_by place (pop_answer (pop_take p a)))
    (borrow_at place (pop_answer (pop_take p a))) (slice_get_within routes place route is) h
still_placed sizes routes samples (subscribing.Received given) a is h = h
still_placed sizes routes samples (subscribing.Reading slot word extent) a is h = h
still_placed sizes routes samples (subscribing.WasRead slot) a is h = h
still_placed sizes routes samples (subscribing.Releasing place route p) a is h
    = placed_after samples (length routes) place (given_back_by place p) (release_follows place p).at
    (slice_get_within routes place route is) h
still_placed sizes routes samples (subscribing.Released done) a is h = h

own_after : (m n : World) (lane : SubscriberLaneState) → n.table.sizes ≡ m.table.sizes
    → IsSubscribing m.table.sizes lane.port.routes lane.port.call → SubscriberUses m lane
    → SubscriberUses n (subscriber_after (subscriber_given m.table lane) lane)
own_after m n lane e is u =
    let samples : (subscriber_after (subscriber_given m.table lane) lane).port.samples
    ≡ samples_after (subscriber_change lane.port.call (subscriber_given m.table lane)) lane.port.samples
    = samples_are (subscriber_change lane.port.call (subscriber_given m.table lane)) _ in
    let taken : (subscriber_after (subscriber_given m.table lane) lane).port.call
    ≡ subscriber_take lane.port.routes lane.port.borrowed lane.port.most_borrowed lane.port.call (subscriber_given m.table lane)
    = (changed_routes (subscriber_change lane.port.call (subscriber_given m.table lane)) _).1 in
    record {
      all = ap length samples ∙ samples_length (subscriber_change lane.port.call (subscriber_given m.table lane)) lane.port.samples ∙
          u.all ∙ ap (λ (sizes : TableSizes). sizes.slots) (sym e);
      borrowed = subst (λ (xs : List (Option ℕ)). UsesBorrowed xs (subscriber_after (subscriber_given m.table lane) lane).port.call)
          (sym samples)
          (subst (UsesBorrowed (samples_after (subscriber_change lane.port.call (subscriber_given m.table lane)) lane.port.samples))
          (sym taken)
          (take_borrowed lane.port.samples lane.port.routes lane.port.borrowed lane.port.most_borrowed lane.port.call
          (subscriber_given m.table lane) u.borrowed));
      placed = subst (λ (xs : List (Option ℕ)). ArePlaced xs
          (length (subscriber_after (subscriber_given m.table lane) lane).port.routes)) (sym samples)
          (subst (λ (rs : List Route). ArePlaced
          (samples_after (subscriber_change lane.port.call (subscriber_given m.table lane)) lane.port.samples) (length rs))
          (sym ((changed_routes (subscriber_change lane.port.call (subscriber_given m.table lane)) _).0))
          (still_placed m.table.sizes lane.port.routes lane.port.samples lane.port.call (subscriber_given m.table lane) is u.placed));
    }

other_after : (m n : World) (lane : SubscriberLaneState) → n.table.sizes ≡ m.table.sizes → SubscriberUses m lane → SubscriberUses n lane
other_after m n lane e u
    = record { all = u.all ∙ ap (λ (sizes : TableSizes). sizes.slots) (sym e); borrowed = u.borrowed; placed = u.placed }

-- the setting of a subscriber
pub setting_of : (m : World) (place : ℕ) (lane : SubscriberLaneState) → slice_get m.subscribers place ≡ Some lane → m.moments < 2 ^ 63
    → IsWithin m → AreKept m → ReturnsKept m → AreReturning m → AreConnected m → LoansStand m → UsesKept m
    → Setting m place lane lane.port.call
setting_of m place lane e bound w k r b s l u =
    let is : IsSubscriber m.table.sizes lane = all_at (IsSubscriber m.table.sizes) m.subscribers place lane e w.subscribers in
    record {
      bound = bound;
      within = w;
      kept = k;
      some = r.some;
      returning = b;
      sends = s;
      loans = l;
      uses = u;
      found = e;
      round = r.subscribers place lane e;
      links = w.receivers place lane e;
      call_is = is.call;
      access = (subscribers_stay_within m.table.sizes lane is).2;
      stage = refl;
      own = u.subscribers place lane e;
    }

pub gone_subscriber : (m : World) (place : ℕ) (at : Option SubscriberLaneState) → slice_get m.subscribers place ≡ at
    → subscriber_fits_at at GoOn ≡ true → m.moments < 2 ^ 63 → IsWithin m → AreKept m → ReturnsKept m → AreReturning m → AreConnected m
    → LoansStand m → UsesKept m
    → UsesKept (subscriber_goes_on (record m
    { orders = added m.orders (pops_from (subscriber_stage at)) m.moments (pop_acts m (subscriber_stage at)) }) place at)
gone_subscriber m place None e fit bound w k r b s l u = absurd (cc)
gone_subscriber m place (Some lane) e fit bound w k r b s l u =
    let is : IsSubscriber m.table.sizes lane = all_at (IsSubscriber m.table.sizes) m.subscribers place lane e w.subscribers in
    let setting : Setting m place lane lane.port.call = setting_of m place lane e bound w k r b s l u in
    record {
      publishers = λ who z got. let was = u.publishers who z got in record {
        counted = was.counted;
        lacking = was.lacking;
        balanced = λ at route link order' here found after slot. publisher_keeps m place lane
            (subscriber_after (subscriber_given m.table lane) lane) who z (changes_of m lane) setting got at route link order' here
            found after slot;
      };
      subscribers = λ who z got. elim (eqb_tells who place) [
        | inl same ↦
            let now : z ≡ subscriber_after (subscriber_given m.table lane) lane
            = set_is m.subscribers place who lane (subscriber_after (subscriber_given m.table lane) lane) z e same.1 got in
            subst (SubscriberUses (subscriber_goes_on
            (record m { orders = added m.orders (pops_from lane.port.call) m.moments (pop_acts m lane.port.call) }) place
            (Some lane))) (sym now)
            (own_after m _ lane ((sizes_stay m.table (subscriber_next lane.port.call)).0) is.call (u.subscribers place lane e))
        | inr other ↦
            let was : slice_get m.subscribers who ≡ Some z
            = sym (set_other m.subscribers place who (subscriber_after (subscriber_given m.table lane) lane) other.1) ∙ got in
            other_after m _ z ((sizes_stay m.table (subscriber_next lane.port.call)).0) (u.subscribers who z was)
      ];
      senders = u.senders;
      pairs = u.pairs;
    }

-- a begin changes no sample
pub begun_subscriber : (m : World) (place : ℕ) (c : Call) (at : Option SubscriberLaneState) → slice_get m.subscribers place ≡ at
    → subscriber_fits_at at (Begin c) ≡ true → UsesKept m → UsesKept (subscriber_begins m place c at)
begun_subscriber m place c None e fit u = absurd (cc)
begun_subscriber m place c (Some lane) e fit u = record {
  publishers = λ who z got. let was = u.publishers who z got in record {
    counted = was.counted;
    lacking = was.lacking;
    balanced = λ at route link order here found after slot. elim (eqb_tells link.subscriber place) [
      | inl own ↦
          let before : slice_get m.subscribers link.subscriber ≡ Some lane = ap (slice_get m.subscribers) own.1 ∙ e in
          let now : slice_get (set m.subscribers place (subscriber_begun m.moments c lane)) link.subscriber
          ≡ Some (subscriber_begun m.moments c lane)
          = ap (slice_get (set m.subscribers place (subscriber_begun m.moments c lane))) own.1 ∙ set_same m.subscribers place
          (subscriber_begun m.moments c lane) lane e in
          omega (
            arith,
            was.balanced at route link order here found after slot,
            ap (λ (o : Option SubscriberLaneState). one_if (borrows route.connection slot o)) before,
            ap (λ (o : Option SubscriberLaneState). one_if (borrows route.connection slot o)) now,
            ap one_if (no_change lane (subscriber_begun m.moments c lane) route.connection (subscriber_routes m.moments c lane)
                (begun_samples m.moments c lane) slot),
          )
      | inr other ↦ omega (
        arith,
        was.balanced at route link order here found after slot,
        ap
            (λ (o : Option SubscriberLaneState). one_if (borrows route.connection slot o))
            (set_other m.subscribers place link.subscriber (subscriber_begun m.moments c lane) other.1),
      )
    ];
  };
  subscribers = λ who z got. elim (eqb_tells who place) [
    | inl same ↦
        let now : z ≡ subscriber_begun m.moments c lane
        = set_is m.subscribers place who lane (subscriber_begun m.moments c lane) z e same.1 got in
        let was = u.subscribers place lane e in
        subst (SubscriberUses (subscriber_begins m place c (Some lane))) (sym now)
        (record {
          all = ap length (begun_samples m.moments c lane) ∙ was.all;
          borrowed = begun_borrowed m.moments c lane fit was.borrowed;
          placed = subst (λ (xs : List (Option ℕ)). ArePlaced xs (length (subscriber_begun m.moments c lane).port.routes))
              (sym (begun_samples m.moments c lane))
              (subst (λ (rs : List Route). ArePlaced lane.port.samples (length rs)) (sym (subscriber_routes m.moments c lane)) was.placed);
        })
    | inr other ↦
        let was : slice_get m.subscribers who ≡ Some z
        = sym (set_other m.subscribers place who (subscriber_begun m.moments c lane) other.1) ∙ got in
        let same = u.subscribers who z was in
        record { all = same.all; borrowed = same.borrowed; placed = same.placed }
  ];
  senders = u.senders;
  pairs = u.pairs;
}

-- A publisher's step keeps its record of who has which slot.
use Rattle.std.proofs.Common.{ℕ, ◌≡◌, ◌<◌, ◌^◌, true, List, [], length, get_or, slice_get, Option, Some, None, refl, sym, ◌∙◌, ap, subst}
use Rattle.std.proofs.Common.{inl, inr, arith, length-set}
use Rattle.std.proofs.lemmas.Bool.Decides.{eqb_tells}
use Rattle.std.proofs.lemmas.Option.{slice_get_within, slice_get-get_or}
use Rattle.iox_lanes_machine.specs.QueuesSteps.Access.{RingWords}
use Rattle.iox_lanes_machine.specs.QueuesSteps.declared.access.Word.TheVariants.{Read}
use Rattle.iox_lanes_machine.specs.QueuesSteps.declared.order.Act.{Act}
use Rattle.iox_lanes_machine.specs.QueuesSteps.declared.order.Placed.{Placed}
use Rattle.iox_lanes_machine.specs.QueuesSteps.Refusing as refusing
use Rattle.iox_lanes_machine.specs.QueuesSteps.Ends.{cells_of}
use Rattle.iox_lanes_machine.specs.QueuesSteps.declared.rings.ends.Push.{Push}
use Rattle.iox_lanes_machine.specs.LanesBase.Table.{held_by}
use Rattle.iox_lanes_machine.specs.LanesBase.declared.words.sizes.TableSizes.{TableSizes}
use Rattle.iox_lanes_machine.specs.LanesBase.Answers.{refusing_pop_answer}
use Rattle.iox_lanes_machine.specs.LanesBase.Publishing.{publisher_next, publisher_change, push_change}
use Rattle.iox_lanes_machine.specs.LanesBase.declared.calls.publisher.PublisherCall.{PublisherCall}
use Rattle.iox_lanes_machine.specs.LanesBase.declared.calls.publisher.PublisherCall.TheVariants as publishing
use Rattle.iox_lanes_machine.specs.LanesBase.declared.calls.publisher.PublisherChange.{PublisherChange}
use Rattle.iox_lanes_machine.specs.LanesBase.declared.calls.route.Route.{Route}
use Rattle.iox_lanes_machine.specs.LanesParties.PublisherKeeping.{BookState, changed}
use Rattle.iox_lanes_machine.specs.LanesParties.Publishers.{words_of}
use Rattle.iox_lanes_machine.specs.LanesParties.Parties.{PublisherLaneState, SubscriberLaneState, publisher_fits, publisher_begun}
use Rattle.iox_lanes_machine.specs.LanesParties.Parties.{publisher_after, head_of}
use Rattle.iox_lanes_machine.specs.LanesParties.Within.{IsPublisher, IsPublishing}
use Rattle.iox_lanes_machine.specs.LanesParties.declared.call.Call.{Call}
use Rattle.iox_lanes_machine.specs.LanesParties.declared.call.Call.TheVariants as call
use Rattle.iox_lanes_machine.specs.LanesParties.declared.call.Move.TheVariants.{Begin, GoOn}
use Rattle.iox_lanes_machine.proofs.LanesParties.Rings.{all_at}
use Rattle.iox_lanes_machine.proofs.LanesParties.PublishersWithin.{publishers_stay_within}
use Rattle.iox_lanes_machine.specs.Stored.{aside}
use Rattle.iox_lanes_machine.specs.Sending.{SendsLacking}
use Rattle.iox_lanes_machine.specs.LedgerUses.{one_if, count, refers_to, UsesCounted, ChangeFits}
use Rattle.iox_lanes_machine.proofs.Books.{changes_keep_count}
use Rattle.iox_lanes_machine.proofs.Changes.{else_refers, refers_there, refers_elsewhere, fits_of, lost_le}
use Rattle.iox_lanes_machine.proofs.Sending.{IsThere, take_lacking, push_known, back_known, loan_lacks_none, write_lacking, head_lacking}
use Rattle.iox_lanes_machine.specs.Rings.{sent_word, push_on}
use Rattle.iox_lanes_machine.specs.Returns.{ReturnsKept, AreReturning}
use Rattle.iox_lanes_machine.specs.Sends.{AreConnected}
use Rattle.iox_lanes_machine.specs.Slots.{StandsAtLoan, LoansStand}
use Rattle.iox_lanes_machine.specs.World.{World, publisher_stage, pushes_to, push_acts, added, publisher_given, publisher_begins}
use Rattle.iox_lanes_machine.specs.World.{publisher_goes_on, publisher_fits_at}
use Rattle.iox_lanes_machine.specs.Kept.{IsLinkOf, sender, IsWithin, AreKept}
use Rattle.iox_lanes_machine.specs.Uses.{stands_at, IsBalanced, PublisherUses, SubscriberUses, UsesKept}
use Rattle.iox_lanes_machine.specs.Links.{LinkState}
use Rattle.iox_lanes_machine.proofs.Calls.{set_is}
use Rattle.iox_lanes_machine.proofs.Ends.{some_is, push_begins}
use Rattle.iox_lanes_machine.specs.LanesBase.declared.words.word.ConnectionRing.TheVariants.{Submission, Completion}
use Rattle.iox_lanes_machine.proofs.InTable.{access_elsewhere}
use Rattle.iox_lanes_machine.proofs.Kept.{seat}
use Rattle.iox_lanes_machine.proofs.Returns.{reclaims_at, publisher_off}
use Rattle.iox_lanes_machine.proofs.ReturnSteps.{back_seat, reclaims_own}
use Rattle.iox_lanes_machine.proofs.SlotMoves.{Setting, Spot, told, Moves, loan_reclaims_here, send_reclaims_here, pushes_here}
use Rattle.iox_lanes_machine.proofs.SlotMoves.{publisher_moves}
use Rattle.iox_lanes_machine.proofs.Standing.{back_same}
use Rattle.iox_lanes_machine.proofs.Steps.{publisher_elsewhere, added_other, pushes_own}
use Rattle.iox_lanes_machine.proofs.Within.{added_length, set_other, sizes_stay}

-- a connection has an order
pub order_there : (m : World) (connection : ℕ) (link : LinkState) → slice_get m.links connection ≡ Some link → IsWithin m
    → slice_get m.orders connection ≡ Some (get_or m.orders connection [])
order_there m connection link found w =
    let below : connection < length m.orders = omega (arith, slice_get_within m.links connection link found, w.orders) in
    slice_get-get_or m.orders connection [] below

pub order_after : (m : World) (to : Option ℕ) (acts : List Act) (connection : ℕ) (link : LinkState)
    → slice_get m.links connection ≡ Some link → IsWithin m
    → slice_get (added m.orders to m.moments acts) connection ≡ Some (get_or (added m.orders to m.moments acts) connection [])
order_after m to acts connection link found w =
    let below : connection < length (added m.orders to m.moments acts)
    = omega (arith, slice_get_within m.links connection link found, w.orders, added_length m.orders to m.moments acts) in
    slice_get-get_or (added m.orders to m.moments acts) connection [] below

-- what the record says of each connection
abbrev pub Balanced : World → List Route → BookState → PublisherCall → Type 0
Balanced m routes book call = (place : ℕ) (route : Route) (link : LinkState) (order : List Placed) → slice_get routes place ≡ Some route
    → slice_get m.links route.connection ≡ Some link → slice_get m.orders route.connection ≡ Some order
    → (slot : ℕ) → stands_at m.table route.connection link order call (slice_get m.subscribers link.subscriber) slot
    ≡ one_if (refers_to book place slot)

-- the spot of a place
spot_of : (m : World) (who : ℕ) (routes : List Route) (stored : List ℕ) (c : PublisherCall) (place : ℕ) (route : Route)
    (k : Setting m who routes stored c) (here : slice_get routes place ≡ Some route)
    → Spot m who routes c place route (all_at (IsLinkOf m.links sender who) routes place route here k.links).link
    (get_or m.orders route.connection []) (get_or (added m.orders (pushes_to c) m.moments (push_acts m.table c)) route.connection [])
spot_of m who routes stored c place route k here =
    let mine : IsLinkOf m.links sender who route = all_at (IsLinkOf m.links sender who) routes place route here k.links in
    record {
      here = here;
      found = mine.found;
      sender_is = mine.own;
      got = order_there m route.connection mine.link mine.found k.within;
      after = order_after m (pushes_to c) (push_acts m.table c) route.connection mine.link mine.found k.within;
    }

-- the next change of a publisher fits
pub change_fits : (m : World) (who : ℕ) (routes : List Route) (stored : List ℕ) (book : BookState) (c : PublisherCall)
    → Setting m who routes stored c → StandsAtLoan book c → SendsLacking (length routes) book c → Balanced m routes book c
    → ChangeFits (length routes) book (publisher_change c (told m c))
change_fits m who routes stored book publishing.Idle k stands lacking b = tt
change_fits m who routes stored book (publishing.LoanReclaims place route p) k stands lacking b =
    let spot = spot_of m who routes stored (publishing.LoanReclaims place route p) place route k k.call_is in
    let moved = loan_reclaims_here m who routes stored place route _ _ _
    (slice_get m.subscribers (all_at (IsLinkOf m.links sender who) routes place route k.call_is k.links).link.subscriber) p k spot in
    fits_of (length routes) place book (publisher_change (publishing.LoanReclaims place route p)
    (told m (publishing.LoanReclaims place route p))) moved.0 (slice_get_within routes place route k.call_is)
    (λ s. omega (
      arith,
      lost_le
          (publisher_change (publishing.LoanReclaims place route p) (told m (publishing.LoanReclaims place route p))) s _ _ (moved.1 s),
      b place route _ _ k.call_is spot.found spot.got s,
    ))
    (back_known book place (refusing_pop_answer (refusing.pop_take p (told m (publishing.LoanReclaims place route p)))))
change_fits m who routes stored book publishing.Lending k stands lacking b = tt
change_fits m who routes stored book (publishing.Writing slot word value) k stands lacking b = tt
change_fits m who routes stored book (publishing.Written slot) k stands lacking b = stands
change_fits m who routes stored book (publishing.Heading slot word value) k stands lacking b = tt
change_fits m who routes stored book (publishing.Remembering slot) k stands lacking b = stands
change_fits m who routes stored book (publishing.SendReclaims slot place route p) k stands lacking b =
    let spot = spot_of m who routes stored (publishing.SendReclaims slot place route p) place route k k.call_is in
    let moved = send_reclaims_here m who routes stored slot place route _ _ _
    (slice_get m.subscribers (all_at (IsLinkOf m.links sender who) routes place route k.call_is k.links).link.subscriber) p k spot in
    fits_of (length routes) place book (publisher_change (publishing.SendReclaims slot place route p)
    (told m (publishing.SendReclaims slot place route p))) moved.0 (slice_get_within routes place route k.call_is)
    (λ s. omega (
      arith,
      lost_le
          (publisher_change (publishing.SendReclaims slot place route p) (told m (publishing.SendReclaims slot place route p))) s _ _
          (moved.1 s),
      b place route _ _ k.call_is spot.found spot.got s,
    ))
    (back_known book place (refusing_pop_answer (refusing.pop_take p (told m (publishing.SendReclaims slot place route p)))))
change_fits m who routes stored book (publishing.Pushing slot place route p delivery) k stands lacking b =
    let spot = spot_of m who routes stored (publishing.Pushing slot place route p delivery) place route k k.call_is in
    let moved = pushes_here m who routes stored slot place route _ _ _
    (slice_get m.subscribers (all_at (IsLinkOf m.links sender who) routes place route k.call_is k.links).link.subscriber) p delivery
    k spot in
    fits_of (length routes) place book (push_change place p (told m (publishing.Pushing slot place route p delivery))) moved.0
    (slice_get_within routes place route k.call_is)
    (λ s. omega (
      arith,
      lost_le (push_change place p (told m (publishing.Pushing slot place route p delivery))) s _ _ (moved.1 s),
      b place
          route _ _ k.call_is spot.found spot.got s,
    ))
    (push_known book place slot p (told m (publishing.Pushing slot place route p delivery)) lacking.0 lacking.1)
change_fits m who routes stored book (publishing.Sent slot delivery) k stands lacking b = tt
change_fits m who routes stored book (publishing.Dropping slot) k stands lacking b = stands

-- a call that stands at a connection stands at one of the list
pub is_there : (sizes : TableSizes) (routes : List Route) (stored : List ℕ) (c : PublisherCall) → IsPublishing sizes routes stored c
    → IsThere routes c
is_there sizes routes stored publishing.Idle h = tt
is_there sizes routes stored (publishing.LoanReclaims place route p) h = h
is_there sizes routes stored publishing.Lending h = tt
is_there sizes routes stored (publishing.Writing slot word value) h = tt
is_there sizes routes stored (publishing.Written slot) h = tt
is_there sizes routes stored (publishing.Heading slot word value) h = tt
is_there sizes routes stored (publishing.Remembering slot) h = tt
is_there sizes routes stored (publishing.SendReclaims slot place route p) h = h
is_there sizes routes stored (publishing.Pushing slot place route p delivery) h = h
is_there sizes routes stored (publishing.Sent slot delivery) h = tt
is_there sizes routes stored (publishing.Dropping slot) h = tt

-- the record follows what a step does at a connection
follows : (connections place : ℕ) (book : BookState) (c : PublisherChange) (before after : ℕ → ℕ) → Moves place c before after
    → ChangeFits connections book c → UsesCounted connections book → ((s : ℕ) → before s ≡ one_if (refers_to book place s))
    → (s : ℕ) → after s ≡ one_if (refers_to (changed c book) place s)
follows connections place book c before after (inl there) fits k was s
    = omega (arith, there.1 s, refers_there connections place book c there.0 fits k s, was s)
follows connections place book c before after (inr (inl other, same)) fits k was s
    = omega (arith, same s, ap one_if (else_refers book c other place s), was s)
follows connections place book c before after (inr (inr away, same)) fits k was s
    = omega (arith, same s, ap one_if (refers_elsewhere connections away.0 book c away.2 fits place s away.1), was s)

-- the setting of a publisher
pub setting_of : (m : World) (place : ℕ) (lane : PublisherLaneState) → slice_get m.publishers place ≡ Some lane → m.moments < 2 ^ 63
    → IsWithin m → AreKept m → ReturnsKept m → AreReturning m → AreConnected m
    → Setting m place lane.port.routes (words_of lane.port) lane.port.call
setting_of m place lane e bound w k r b s =
    let is : IsPublisher m.table.sizes lane = all_at (IsPublisher m.table.sizes) m.publishers place lane e w.publishers in
    record {
      bound = bound;
      within = w;
      kept = k;
      some = r.some;
      returning = b;
      round = r.publishers place lane e;
      links = w.senders place lane e;
      call_is = is.call;
      access = (publishers_stay_within m.table.sizes lane is).2;
      once = (s place lane e).once;
      stage = ap publisher_stage e;
    }

-- the publisher itself
gone_own : (m : World) (place : ℕ) (lane : PublisherLaneState) → slice_get m.publishers place ≡ Some lane
    → Setting m place lane.port.routes (words_of lane.port) lane.port.call → StandsAtLoan lane.port.book lane.port.call
    → PublisherUses m lane
    → PublisherUses (publisher_goes_on (record m
    { orders = added m.orders (pushes_to lane.port.call) m.moments (push_acts m.table lane.port.call) }) place (Some lane))
    (publisher_after (publisher_given m.table lane) lane)
gone_own m place lane e k stands u =
    let fits = change_fits m place lane.port.routes (words_of lane.port) lane.port.book lane.port.call k stands u.lacking u.balanced in
    record {
      counted = changes_keep_count (length lane.port.routes) lane.port.book (publisher_change lane.port.call (told m lane.port.call))
          fits u.counted;
      lacking = take_lacking lane.port.book lane.port.routes (words_of lane.port) lane.port.call (told m lane.port.call)
          (is_there m.table.sizes lane.port.routes (words_of lane.port) lane.port.call k.call_is) fits u.counted u.lacking;
      balanced = λ at route link order here found got slot.
          let mine : IsLinkOf m.links sender place route = all_at (IsLinkOf m.links sender place) lane.port.routes at route here k.links in
          let same : mine.link ≡ link = some_is mine.link link (sym mine.found ∙ found) in
          let spot : Spot m place lane.port.routes lane.port.call at route link (get_or m.orders route.connection []) order =
          record {
            here = here;
            found = found;
            sender_is = ap sender (sym same) ∙ mine.own;
            got
                = order_there m route.connection link found k.within;
            after = got;
          } in
          follows (length lane.port.routes) at lane.port.book (publisher_change lane.port.call (told m lane.port.call)) _ _
          (publisher_moves m place lane.port.routes (words_of lane.port) lane.port.call at route link
          (get_or m.orders route.connection []) order (slice_get m.subscribers link.subscriber) k spot) fits u.counted
          (u.balanced at route link (get_or m.orders route.connection []) here found spot.got) slot;
    }

-- another publisher
gone_other : (m : World) (place who : ℕ) (lane other : PublisherLaneState) → slice_get m.publishers place ≡ Some lane
    → slice_get m.publishers who ≡ Some other → (who ≡ place → ⊥) → IsWithin m → 0 < m.table.sizes.completion_cells
    → Setting m place lane.port.routes (words_of lane.port) lane.port.call → PublisherUses m other
    → PublisherUses (publisher_goes_on (record m
    { orders = added m.orders (pushes_to lane.port.call) m.moments (push_acts m.table lane.port.call) }) place (Some lane)) other
gone_other m place who lane other e f not w some k u = record {
  counted = u.counted;
  lacking = u.lacking;
  balanced = λ at route link order here found got slot.
      let mine : IsLinkOf m.links sender who route
      = all_at (IsLinkOf m.links sender who) other.port.routes at route here (w.senders who other f) in
      let same : mine.link ≡ link = some_is mine.link link (sym mine.found ∙ found) in
      let who_is : link.publisher ≡ who = ap sender (sym same) ∙ mine.own in
      let off : pushes_to lane.port.call ≡ Some route.connection
      → ⊥ = λ h. not (sym who_is ∙ pushes_own m place lane route.connection link e w found h) in
      let off_back : reclaims_at lane.port.call ≡ Some route.connection
      → ⊥ = λ h. not (sym who_is ∙ reclaims_own m place lane route.connection link e w found h) in
      let was : slice_get m.orders route.connection ≡ Some order
      = sym (added_other m.orders (pushes_to lane.port.call) m.moments (push_acts m.table lane.port.call) route.connection off) ∙ got in
      omega (
        arith,
        u.balanced at route link order here found was slot,
        ap (λ (ws : RingWords). count slot (aside ws.read (push_on route.connection link.kind other.port.call)))
            (access_elsewhere Submission m.table route.connection (cells_of link.kind link.limit) (publisher_next lane.port.call)
            (seat m route.connection link found w) (publisher_elsewhere m.table route.connection lane.port.call off k.access)),
        back_same m.table (publisher_next lane.port.call) route.connection
            (access_elsewhere Completion m.table route.connection m.table.sizes.completion_cells (publisher_next lane.port.call)
            (back_seat m route.connection link found some w)
            (publisher_off m.table route.connection lane.port.call off_back k.access)) slot,
      );
}

-- a subscriber has the same samples
same_subscriber : (m n : World) (lane : SubscriberLaneState) → n.table.sizes ≡ m.table.sizes → SubscriberUses m lane → SubscriberUses n lane
same_subscriber m n lane e u = record
    { all = u.all ∙ ap (λ (sizes : TableSizes). sizes.slots) (sym e); borrowed = u.borrowed; placed = u.placed }

pub gone_publisher : (m : World) (place : ℕ) (at : Option PublisherLaneState) → slice_get m.publishers place ≡ at
    → publisher_fits_at at GoOn ≡ true → m.moments < 2 ^ 63 → IsWithin m → AreKept m → ReturnsKept m → AreReturning m → AreConnected m
    → LoansStand m → UsesKept m
    → UsesKept (publisher_goes_on (record m
    { orders = added m.orders (pushes_to (publisher_stage at)) m.moments (push_acts m.table (publisher_stage at)) }) place at)
gone_publisher m place None e fit bound w k r b s l u = absurd (cc)
gone_publisher m place (Some lane) e fit bound w k r b s l u =
    let setting = setting_of m place lane e bound w k r b s in
    record {
      publishers = λ who z got. elim (eqb_tells who place) [
        | inl same ↦
            let is : z ≡ publisher_after (publisher_given m.table lane) lane
            = set_is m.publishers place who lane (publisher_after (publisher_given m.table lane) lane) z e same.1 got in
            subst (PublisherUses (publisher_goes_on
            (record m { orders = added m.orders (pushes_to lane.port.call) m.moments (push_acts m.table lane.port.call) }) place
            (Some lane))) (sym is)
            (gone_own m place lane e setting (l.stages place lane e) (u.publishers place lane e))
        | inr other ↦
            let was : slice_get m.publishers who ≡ Some z
            = sym (set_other m.publishers place who (publisher_after (publisher_given m.table lane) lane) other.1) ∙ got in
            gone_other m place who lane z e was other.1 w r.some setting (u.publishers who z was)
      ];
      subscribers = λ who z got. same_subscriber m _ z ((sizes_stay m.table (publisher_next lane.port.call)).0) (u.subscribers who z got);
      senders = λ connection link found. omega
          (arith, u.senders connection link found, length-set m.publishers place (publisher_after (publisher_given m.table lane) lane));
      pairs = u.pairs;
    }

-- a begin
begun_own : (m : World) (place : ℕ) (c : Call) (lane : PublisherLaneState) → publisher_fits lane (Begin c) ≡ true → PublisherUses m lane
    → PublisherUses (publisher_begins m place c (Some lane)) (publisher_begun m.moments c lane)
begun_own m place c lane fit u = by_call c refl
  where
    balanced : (d : Call) → d ≡ c → (publisher_begun m.moments d lane).port.routes ≡ lane.port.routes
        → (publisher_begun m.moments d lane).port.book ≡ lane.port.book
        → IsBalanced (publisher_begins m place c (Some lane)) (publisher_begun m.moments d lane)
    balanced d is routes book = λ at route link order here found got slot.
        let idle = push_begins route.connection link.kind m.moments c lane fit in
        let now : push_on route.connection link.kind (publisher_begun m.moments d lane).port.call
        ≡ push_on route.connection link.kind lane.port.call
        = ap (λ (x : Call). push_on route.connection link.kind (publisher_begun m.moments x lane).port.call) is ∙ idle.1 ∙ sym idle.0 in
        omega (
          arith,
          u.balanced at route link order (ap (λ (rs : List Route). slice_get rs at) (sym routes) ∙ here) found got slot,
          ap (λ (x : Push). count slot (aside (held_by m.table (sent_word route.connection Read)) x)) now,
          ap (λ (bk : BookState). one_if (refers_to bk at slot)) book,
        )

    by_call : (d : Call) → d ≡ c → PublisherUses (publisher_begins m place c (Some lane)) (publisher_begun m.moments d lane)
    by_call call.LoanUninit is
        = record {
          counted = u.counted;
          lacking
              = loan_lacks_none (length lane.port.routes) lane.port.book 0 (slice_get lane.port.routes 0);
          balanced = balanced call.LoanUninit is refl refl;
        }
    by_call (call.Write loan payload user_header) is
        = record {
          counted = u.counted;
          lacking
              = write_lacking (length lane.port.routes) lane.port.book loan 0 (slice_get payload.items 0);
          balanced = balanced (call.Write loan payload user_header) is refl refl;
        }
    by_call (call.Send loan) is
        = record {
          counted = u.counted;
          lacking
              = head_lacking (length lane.port.routes) lane.port.book loan 0 (slice_get (head_of loan lane) 0);
          balanced = balanced (call.Send loan) is refl refl;
        }
    by_call (call.DropLoan loan) is = record { counted = u.counted; lacking = tt; balanced = balanced (call.DropLoan loan) is refl refl }
    by_call call.Receive is = record { counted = u.counted; lacking = u.lacking; balanced = balanced call.Receive is refl refl }
    by_call (call.Read sample) is = record { counted = u.counted; lacking = u.lacking; balanced = balanced (call.Read sample) is refl refl }
    by_call (call.Release sample) is = record
        { counted = u.counted; lacking = u.lacking; balanced = balanced (call.Release sample) is refl refl }

pub begun_publisher : (m : World) (place : ℕ) (c : Call) (at : Option PublisherLaneState) → slice_get m.publishers place ≡ at
    → publisher_fits_at at (Begin c) ≡ true → UsesKept m → UsesKept (publisher_begins m place c at)
begun_publisher m place c None e fit u = absurd (cc)
begun_publisher m place c (Some lane) e fit u = record {
  publishers = λ who z got. elim (eqb_tells who place) [
    | inl same ↦
        let is : z ≡ publisher_begun m.moments c lane
        = set_is m.publishers place who lane (publisher_begun m.moments c lane) z e same.1 got in
        subst (PublisherUses (publisher_begins m place c (Some lane))) (sym is) (begun_own m place c lane fit (u.publishers place lane e))
    | inr other ↦
        let was : slice_get m.publishers who ≡ Some z
        = sym (set_other m.publishers place who (publisher_begun m.moments c lane) other.1) ∙ got in
        let same = u.publishers who z was in
        record { counted = same.counted; lacking = same.lacking; balanced = same.balanced }
  ];
  subscribers = λ who z got. let same
      = u.subscribers who z got in record { all = same.all; borrowed = same.borrowed; placed = same.placed };
  senders = λ connection link found. omega
      (arith, u.senders connection link found, length-set m.publishers place (publisher_begun m.moments c lane));
  pairs = u.pairs;
}

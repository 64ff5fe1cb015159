-- Whatever is run keeps that orders answer by the numbers of their messages.
use Rattle.std.proofs.Common.{ℕ, zero, suc, ◌≡◌, ◌<◌, ◌≤◌, ◌^◌, true, List, [], ◌∷◌, ◌++◌, map, set, slice_get, Option, Some}
use Rattle.std.proofs.Common.{None, append-nil, refl, sym, ◌∙◌, ap, subst, inl, inr, arith}
use Rattle.std.proofs.lemmas.Bool.Decides.{eqb_tells}
use Rattle.std.proofs.lemmas.List.Elements.{All-nil}
use Rattle.iox_lanes_machine.specs.LedgerUses.{one_if, count}
use Rattle.iox_lanes_machine.specs.QueuesSteps.Access.{successor}
use Rattle.iox_lanes_machine.specs.QueuesSteps.Ends.{overflows}
use Rattle.iox_lanes_machine.specs.QueuesSteps.Order.{Acts, acts_of, at}
use Rattle.iox_lanes_machine.specs.QueuesSteps.declared.order.Act.{Act}
use Rattle.iox_lanes_machine.specs.QueuesSteps.declared.order.Placed.{Placed}
use Rattle.iox_lanes_machine.specs.LanesParties.Parties.{PublisherLaneState, SubscriberLaneState}
use Rattle.iox_lanes_machine.specs.LanesParties.declared.call.Call.{Call}
use Rattle.iox_lanes_machine.specs.LanesParties.declared.call.Call.TheVariants as call
use Rattle.iox_lanes_machine.specs.LanesParties.declared.call.Entry.{Entry}
use Rattle.iox_lanes_machine.specs.LanesParties.declared.call.Move.{Move}
use Rattle.iox_lanes_machine.specs.LanesParties.declared.call.Move.TheVariants.{Begin, GoOn}
use Rattle.iox_lanes_machine.specs.LanesParties.declared.call.Party.{Party}
use Rattle.iox_lanes_machine.specs.LanesParties.declared.call.Party.TheVariants.{Publisher, Subscriber}
use Rattle.iox_lanes_machine.specs.Kept.{IsKept}
use Rattle.iox_lanes_machine.specs.Links.{LinkState}
use Rattle.iox_lanes_machine.specs.Rings.{waiting}
use Rattle.iox_lanes_machine.specs.World.{World, acts_at, added, added_to, connection_at, ends, fits, happens, placed}
use Rattle.iox_lanes_machine.specs.World.{publisher_begins, publisher_goes_on, subscriber_begins, subscriber_goes_on}
use Rattle.iox_lanes_machine.proofs.Calls.{set_is}
use Rattle.iox_lanes_machine.proofs.Ends.{some_is}
use Rattle.iox_lanes_machine.proofs.Fixed.{steps_fixed}
use Rattle.iox_lanes_machine.proofs.Paces.{came_kept}
use Rattle.iox_lanes_machine.proofs.Steps.{happens_moments}
use Rattle.iox_lanes_machine.proofs.Whole.{step_made, happens_keeps}
use Rattle.iox_lanes_machine.proofs.Within.{set_other}
use Rattle.iox_lanes_laws.specs.Messages.{MessageState, begun_messages, message_of, sent_by}
use Rattle.iox_lanes_laws.specs.Numbered.{number_by}
use Rattle.iox_lanes_laws.specs.Recorded.{RecordState, recorded_after, RecordsRun, ArePast, OrdersFollowNumbers}
use Rattle.iox_lanes_laws.proofs.NumberedOrders.{NumberedSo, begins_so, stands_so, stays_so}
use Rattle.iox_lanes_laws.proofs.Records.{later, sends, step_early}
use Rattle.iox_lanes_laws.proofs.Whole.{few_before, grows, kept_sends_nothing, up}

-- what stands in a list is counted there
counted_first : (slot : ℕ) (xs : List ℕ) → 0 < count slot (slot ∷ xs)
counted_first slot xs = elim (eqb_tells slot slot) [
  | inl same ↦ omega (arith, ap one_if same.0)
  | inr other ↦ absurd (other.1 refl)
]

pub counted_at : (xs : List ℕ) (k slot : ℕ) → slice_get xs k ≡ Some slot → 0 < count slot xs
counted_at [] k slot is = absurd (cc is)
counted_at (x ∷ xs) zero slot is = subst (λ (first : ℕ). 0 < count slot (first ∷ xs)) (sym (some_is x slot is)) (counted_first slot xs)
counted_at (x ∷ xs) (suc k) slot is = omega (arith, counted_at xs k slot is)

-- the order of each connection answers by numbers, those of what was found being as these messages had them
abbrev AllNumbered : List MessageState → World → List MessageState → Type 0
AllNumbered first m ms = (connection : ℕ) (link : LinkState) (order : List Placed) → slice_get m.links connection ≡ Some link
    → slice_get m.orders connection ≡ Some order
    → NumberedSo (overflows link.kind) link.limit (map (number_by first 0) link.found) link.found m.moments ms order

-- nothing begins and nothing stands at a step
quiet : (first ms : List MessageState) (m n : World) → n.links ≡ m.links → n.orders ≡ m.orders → m.moments < n.moments → ArePast m ms
    → AllNumbered first m ms → AllNumbered first n (ms ++ [])
quiet first ms m n links orders up early all = λ connection link order there got.
    subst (λ (xs : List MessageState). NumberedSo (overflows link.kind) link.limit (map (number_by first 0) link.found) link.found n.moments
    xs order) (sym (append-nil ms))
    (stays_so (overflows link.kind) link.limit (map (number_by first 0) link.found) link.found m.moments n.moments ms up early order
    (all connection link order (ap (λ (ls : List LinkState). slice_get ls connection) (sym links) ∙ there)
    (ap (λ (os : List (List Placed)). slice_get os connection) (sym orders) ∙ got)))

-- a send begins
sends_one : (first ms : List MessageState) (m n : World) (place loan : ℕ) (lane : PublisherLaneState)
    → slice_get m.publishers place ≡ Some lane → fits m (Publisher place) (Begin (call.Send loan)) ≡ true → IsKept m → m.moments ≤ 2 ^ 63
    → n.links ≡ m.links → n.orders ≡ m.orders → m.moments < n.moments → ArePast m ms → AllNumbered first m ms
    → AllNumbered first n (ms ++ message_of m.table m.moments place loan lane ∷ [])
sends_one first ms m n place loan lane found fit k few links orders up early all = λ connection link order there got.
    let message : MessageState = message_of m.table m.moments place loan lane in
    let linked : slice_get m.links connection ≡ Some link = ap (λ (ls : List LinkState). slice_get ls connection) (sym links) ∙ there in
    let ordered : slice_get m.orders connection ≡ Some order
    = ap (λ (os : List (List Placed)). slice_get os connection) (sym orders) ∙ got in
    begins_so (overflows link.kind) link.limit (map (number_by first 0) link.found) link.found m.moments n.moments ms up early order message
    refl
    (λ at slot is. kept_sends_nothing m k few slot (inr (record {
      connection = connection;
      link = link;
      order = order;
      found = linked;
      got = ordered;
      has = omega (arith, counted_at (waiting link order) at slot is);
    })) (Publisher place) (Begin (call.Send loan)) message fit (ap (sent_by m place (call.Send loan)) found))
    (all connection link order linked ordered)

-- a publisher begins a call
begins : (first ms : List MessageState) (m : World) (place : ℕ) (c : Call) (at : Option PublisherLaneState)
    → slice_get m.publishers place ≡ at → fits m (Publisher place) (Begin c) ≡ true → IsKept m → m.moments ≤ 2 ^ 63
    → m.moments < (publisher_begins m place c at).moments → ArePast m ms → AllNumbered first m ms
    → AllNumbered first (publisher_begins m place c at) (ms ++ sent_by m place c at)
begins first ms m place c None e fit k few up early all = quiet first ms m m refl refl up early all
begins first ms m place call.LoanUninit (Some lane) e fit k few up early all
    = quiet first ms m (publisher_begins m place call.LoanUninit (Some lane)) refl refl up early all
begins first ms m place (call.Write loan payload user_header) (Some lane) e fit k few up early all
    = quiet first ms m (publisher_begins m place (call.Write loan payload user_header) (Some lane)) refl refl up early all
begins first ms m place (call.Send loan) (Some lane) e fit k few up early all
    = sends_one first ms m (publisher_begins m place (call.Send loan) (Some lane)) place loan lane e fit k few refl refl up early all
begins first ms m place (call.DropLoan loan) (Some lane) e fit k few up early all
    = quiet first ms m (publisher_begins m place (call.DropLoan loan) (Some lane)) refl refl up early all
begins first ms m place call.Receive (Some lane) e fit k few up early all
    = quiet first ms m (publisher_begins m place call.Receive (Some lane)) refl refl up early all
begins first ms m place (call.Read sample) (Some lane) e fit k few up early all
    = quiet first ms m (publisher_begins m place (call.Read sample) (Some lane)) refl refl up early all
begins first ms m place (call.Release sample) (Some lane) e fit k few up early all
    = quiet first ms m (publisher_begins m place (call.Release sample) (Some lane)) refl refl up early all

-- a subscriber's begin leaves the orders
subscriber_orders : (m : World) (place : ℕ) (c : Call) (at : Option SubscriberLaneState) → (subscriber_begins m place c at).orders
    ≡ m.orders
subscriber_orders m place c None = refl
subscriber_orders m place c (Some lane) = refl

-- the orders after a step that goes on
publisher_orders : (m : World) (place : ℕ) (at : Option PublisherLaneState) → (publisher_goes_on m place at).orders ≡ m.orders
publisher_orders m place None = refl
publisher_orders m place (Some lane) = refl

reader_orders : (m : World) (place : ℕ) (at : Option SubscriberLaneState) → (subscriber_goes_on m place at).orders ≡ m.orders
reader_orders m place None = refl
reader_orders m place (Some lane) = refl

-- acts stand after one order
stands : (first ms : List MessageState) (m n : World) (acts : List Act) (at_one : Option ℕ) → n.links ≡ m.links
    → n.orders ≡ added m.orders at_one m.moments acts → m.moments < n.moments → IsKept n → n.moments ≤ 2 ^ 63 → ArePast m ms
    → AllNumbered first m ms → AllNumbered first n (ms ++ [])
stands first ms m n acts None links orders up k few early all = quiet first ms m n links orders up early all
stands first ms m n acts (Some one) links orders up k few early all = by_order (slice_get m.orders one) refl orders
  where
    by_order : (own : Option (List Placed)) → slice_get m.orders one ≡ own → n.orders ≡ added_to m.orders one m.moments acts own
        → AllNumbered first n (ms ++ [])
    by_order None is now = quiet first ms m n links now up early all
    by_order (Some own) is now = λ connection link order there got.
        let linked : slice_get m.links connection ≡ Some link = ap (λ (ls : List LinkState). slice_get ls connection) (sym links) ∙ there in
        let here : slice_get (set m.orders one (own ++ at m.moments acts)) connection ≡ Some order
        = ap (λ (os : List (List Placed)). slice_get os connection) (sym now) ∙ got in
        subst (λ (xs : List MessageState). NumberedSo (overflows link.kind) link.limit (map (number_by first 0) link.found) link.found
        n.moments xs order) (sym (append-nil ms)) (elim (eqb_tells connection one) [
          | inl same ↦
              let new : order ≡ own ++ at m.moments acts
              = set_is m.orders one connection own (own ++ at m.moments acts) order is same.1 here in
              let was : slice_get m.orders connection ≡ Some own = ap (slice_get m.orders) same.1 ∙ is in
              let answers : Acts (overflows link.kind) link.limit link.found (acts_of (own ++ at m.moments acts))
              = subst (λ (o : List Placed). Acts (overflows link.kind) link.limit link.found (acts_of o)) new
              ((k.rings few connection link order there got).mailbox).acts in
              subst (NumberedSo (overflows link.kind) link.limit (map (number_by first 0) link.found) link.found n.moments ms) (sym new)
              (stands_so (overflows link.kind) link.limit (map (number_by first 0) link.found) link.found m.moments n.moments ms up early
              own acts answers (all connection link own linked was))
          | inr other ↦
              stays_so (overflows link.kind) link.limit (map (number_by first 0) link.found) link.found m.moments n.moments ms up early
              order
              (all connection link order linked
              (sym (set_other m.orders one connection (own ++ at m.moments acts) other.1) ∙ here))
        ])

next_up : (n k : ℕ) → k ≡ successor n → n < 2 ^ 63 → n < k
next_up n k e h = omega (arith, e, h)

pub links_stay : (m : World) (party : Party) (step : Move) → fits m party step ≡ true → (happens m party step).links ≡ m.links
links_stay m party step fit =
    let made = step_made m party step fit (ends m party step) refl in
    (steps_fixed m party step made.0 (happens m party step) made.1).links

numbered_step : (first ms : List MessageState) (m : World) (party : Party) (step : Move) → fits m party step ≡ true → IsKept m
    → m.moments < 2 ^ 63 → (happens m party step).moments ≤ 2 ^ 63 → ArePast m ms → AllNumbered first m ms
    → AllNumbered first (happens m party step) (ms ++ begun_messages m party step)
numbered_step first ms m (Publisher place) (Begin c) fit k less few early all =
    begins first ms m place c (slice_get m.publishers place) refl fit k (omega (arith, less))
    (next_up m.moments (happens m (Publisher place) (Begin c)).moments (happens_moments m (Publisher place) (Begin c) fit) less) early all
numbered_step first ms m (Subscriber place) (Begin c) fit k less few early all =
    quiet first ms m (happens m (Subscriber place) (Begin c)) (links_stay m (Subscriber place) (Begin c) fit)
    (subscriber_orders m place c (slice_get m.subscribers place))
    (next_up m.moments (happens m (Subscriber place) (Begin c)).moments (happens_moments m (Subscriber place) (Begin c) fit) less) early all
numbered_step first ms m (Publisher place) GoOn fit k less few early all =
    let n : World = happens m (Publisher place) GoOn in
    stands first ms m n (acts_at m (Publisher place)) (connection_at m (Publisher place)) (links_stay m (Publisher place) GoOn fit)
    (publisher_orders (placed m (Publisher place)) place (slice_get m.publishers place))
    (next_up m.moments n.moments (happens_moments m (Publisher place) GoOn fit) less) (happens_keeps m (Publisher place) GoOn fit k) few
    early
    all
numbered_step first ms m (Subscriber place) GoOn fit k less few early all =
    let n : World = happens m (Subscriber place) GoOn in
    stands first ms m n (acts_at m (Subscriber place)) (connection_at m (Subscriber place)) (links_stay m (Subscriber place) GoOn fit)
    (reader_orders (placed m (Subscriber place)) place (slice_get m.subscribers place))
    (next_up m.moments n.moments (happens_moments m (Subscriber place) GoOn fit) less) (happens_keeps m (Subscriber place) GoOn fit k) few
    early all

numbered_run : (first : List MessageState) (r : RecordState) (entries : List Entry) (made : ℕ) (n : RecordState)
    → RecordsRun r entries made n → n.lanes.moments ≤ 2 ^ 63 → IsKept r.lanes → ArePast r.lanes r.messages
    → AllNumbered first r.lanes r.messages → AllNumbered first n.lanes n.messages
numbered_run first r [] made n h few k early all = subst (λ (x : RecordState). AllNumbered first x.lanes x.messages) (sym h.1) all
numbered_run first r (entry ∷ entries) made n (inl h) few k early all = numbered_run first r entries made n h.1 few k early all
numbered_run first r (entry ∷ entries) made n (inr (inl h)) few k early all =
    let after = recorded_after r entry.party entry.step in
    let s = sends after entries (h.1).0 n (h.1).2 in
    let rest = grows after.lanes s.entries s.sent n.lanes s.through few in
    let next = happens_moments r.lanes entry.party entry.step h.0 in
    let bound : r.lanes.moments < 2 ^ 63 = few_before r.lanes.moments n.lanes.moments (omega (arith, next, rest)) few in
    numbered_run first after entries (h.1).0 n (h.1).2 few (happens_keeps r.lanes entry.party entry.step h.0 k)
    (later r.lanes.moments after.lanes.moments r.messages (begun_messages r.lanes entry.party entry.step)
    (omega (arith, next, up r.lanes.moments bound)) early (step_early r.lanes entry.party entry.step))
    (numbered_step first r.messages r.lanes entry.party entry.step h.0 k bound (omega (arith, rest, few)) early all)
numbered_run first r (entry ∷ entries) made n (inr (inr h)) few k early all = numbered_run first r entries made n h.2 few k early all

-- before the first step nothing stands in an order
begun_numbered : (r : RecordState) → IsKept r.lanes → r.lanes.moments ≡ 0 → AllNumbered r.messages r.lanes r.messages
begun_numbered r k none connection link order there got =
    subst (NumberedSo (overflows link.kind) link.limit (map (number_by r.messages 0) link.found) link.found r.lanes.moments r.messages)
    (sym ((k.fresh none).orders connection order got))
    (record {
      acts = tt;
      left = ap (λ (now : ℕ). map (number_by r.messages now) link.found) (sym none);
      past = All-nil (λ (placed : Placed). placed.moment < r.lanes.moments);
    })

pub orders_follow_numbers : OrdersFollowNumbers
orders_follow_numbers r entries made n came none early run few connection link order there got =
    let k = (came_kept r.lanes came).0 in
    (numbered_run r.messages r entries made n run few k early (begun_numbered r k none) connection link order there got).acts

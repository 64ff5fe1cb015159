-- A receive that no other call overlaps, place by place.
use Rattle.std.proofs.Common.{ℕ, ◌≡◌, ◌+◌, ◌<◌, ◌≤◌, ◌^◌, ◌⊎◌, ◌||◌, not, Bool, true, false, nat_lt, List, [], ◌∷◌, ◌++◌, length, get_or}
use Rattle.std.proofs.Common.{slice_get, Option, Some, None, refl, sym, ◌∙◌, ap, subst, inl, inr, arith}
use Rattle.std.proofs.lemmas.Bool.{cases_lt, ltb-true, ltb-false}
use Rattle.std.proofs.lemmas.Bool.Decides.{eqb_tells}
use Rattle.std.proofs.lemmas.Option.{slice_get_within, unwrap_or-slice_get}
use Rattle.std.specs.Option.{unwrap_or}
use Rattle.iox_lanes_machine.specs.QueuesSteps.Access.{successor}
use Rattle.iox_lanes_machine.specs.QueuesSteps.Order.{Acts, acts_of}
use Rattle.iox_lanes_machine.specs.QueuesSteps.declared.order.Placed.{Placed}
use Rattle.iox_lanes_machine.specs.QueuesSteps.declared.order.PopAnswer.{PopAnswer}
use Rattle.iox_lanes_machine.specs.QueuesSteps.declared.order.PopAnswer.TheVariants.{Got, Saw}
use Rattle.iox_lanes_machine.proofs.QueuesSteps.Orders.{acts_more}
use Rattle.iox_lanes_machine.specs.QueuesSteps.Ends.{overflows, push_idle, pop_take, pop_looks}
use Rattle.iox_lanes_machine.specs.QueuesSteps.declared.rings.ends.RingKind.{RingKind}
use Rattle.iox_lanes_machine.specs.QueuesSteps.declared.rings.ends.Pop.{Pop}
use Rattle.iox_lanes_machine.specs.LanesBase.Table.{shared_answer}
use Rattle.iox_lanes_machine.specs.LanesBase.Answers.{pop_answer}
use Rattle.iox_lanes_machine.specs.LanesBase.Publishing.{publisher_is_idle}
use Rattle.iox_lanes_machine.specs.LanesBase.Subscribing.{subscriber_is_over, subscriber_next, subscriber_take, subscriber_change}
use Rattle.iox_lanes_machine.specs.LanesBase.Subscribing.{borrowed_by, is_full, is_full_at, receive_at, receive_from, received}
use Rattle.iox_lanes_machine.specs.LanesBase.Subscribing.{nothing_received}
use Rattle.iox_lanes_machine.specs.LanesBase.declared.calls.publisher.PublisherCall.{PublisherCall}
use Rattle.iox_lanes_machine.specs.LanesBase.declared.calls.route.Route.{Route}
use Rattle.iox_lanes_machine.specs.LanesBase.declared.calls.subscriber.Receipt.{Receipt}
use Rattle.iox_lanes_machine.specs.LanesBase.declared.calls.subscriber.Receipt.TheVariants as receipt
use Rattle.iox_lanes_machine.specs.LanesBase.declared.calls.subscriber.SubscriberChange.{SubscriberChange}
use Rattle.iox_lanes_machine.specs.LanesBase.declared.calls.subscriber.SubscriberChange.TheVariants as change
use Rattle.iox_lanes_machine.specs.LanesBase.declared.calls.subscriber.SubscriberCall.{SubscriberCall}
use Rattle.iox_lanes_machine.specs.LanesBase.declared.calls.subscriber.SubscriberCall.TheVariants as subscribing
use Rattle.iox_lanes_machine.specs.LanesParties.Parties.{SubscriberLaneState, subscriber_begun, subscriber_answer}
use Rattle.iox_lanes_machine.specs.LanesParties.Within.{IsPublisher}
use Rattle.iox_lanes_machine.specs.LanesParties.declared.call.Answer.TheVariants as answer
use Rattle.iox_lanes_machine.specs.LanesParties.declared.call.Call.TheVariants as call
use Rattle.iox_lanes_machine.specs.LanesParties.declared.call.CallName.TheVariants as name
use Rattle.iox_lanes_machine.specs.LanesParties.declared.call.Move.TheVariants.{Begin, GoOn}
use Rattle.iox_lanes_machine.specs.LanesParties.declared.call.Party.TheVariants.{Subscriber}
use Rattle.iox_lanes_machine.proofs.LanesParties.Rings.{all_at}
use Rattle.iox_lanes_machine.specs.LedgerRooms.{borrowed_of, CountsBorrowed}
use Rattle.iox_lanes_machine.proofs.BorrowCounts.{numbers_are, numbers_after}
use Rattle.iox_lanes_machine.proofs.Entries.{put_at_same, put_at_other}
use Rattle.iox_lanes_machine.proofs.RoomSteps.{none_within}
use Rattle.iox_lanes_machine.proofs.Samples.{samples_are, samples_after}
use Rattle.iox_lanes_machine.specs.Kept.{IsKept, IsLinkOf, receiver, IsKeptAt}
use Rattle.iox_lanes_machine.specs.Links.{LinkState}
use Rattle.iox_lanes_machine.specs.Owned.{IsSlotOf}
use Rattle.iox_lanes_machine.specs.Resting.{AllBetween, mail_at, mail_by}
use Rattle.iox_lanes_machine.specs.Rings.{push_on, waiting}
use Rattle.iox_lanes_machine.specs.World.{World, happens, publisher_stage, subscriber_stage, subscriber_given, sender_stage, push_at}
use Rattle.iox_lanes_machine.specs.World.{pops_from, pop_acts, added}
use Rattle.iox_lanes_machine.proofs.Ends.{some_is}
use Rattle.iox_lanes_machine.proofs.Kept.{seat}
use Rattle.iox_lanes_machine.proofs.Mailboxes.{order_there}
use Rattle.iox_lanes_machine.proofs.Paces.{came_kept}
use Rattle.iox_lanes_machine.proofs.Owned.{mail_is_own}
use Rattle.iox_lanes_machine.proofs.RestingRings.{mail_is}
use Rattle.iox_lanes_machine.proofs.Steps.{added_here, added_other}
use Rattle.iox_lanes_laws.specs.Subscribing.{OnlySubscriber, SamplesStay, SomeWait, Gives, NoneBefore, NoneOf, OneOf, TakesNone, Receives}
use Rattle.iox_lanes_laws.specs.Subscribing.{ReceivesInTurn}
use Rattle.iox_lanes_laws.specs.Turns.{IsAnswered, MailStays}
use Rattle.iox_lanes_laws.proofs.Orders.{waits_more, answered_more}
use Rattle.iox_lanes_laws.proofs.Pops.{Given, StaysKind, stays_kind, first_unanswered, first_looks, popped}
use Rattle.iox_lanes_laws.proofs.PublisherLaws.{stage_idle, idle_pushes}
use Rattle.iox_lanes_laws.proofs.Subscribers.{Alone, Keeps, next_lane, next_call, orders_are, links_are, next_samples, begun_mail}
use Rattle.iox_lanes_laws.proofs.Subscribers.{few_first, WholeCall, whole, answered_by}

-- what waits at each connection after a step of a pop or a look
record MailMoves (k n : World) (route : Route) (a : Option PopAnswer) : Type 0 where
  here : Given (mail_at k route.connection) (mail_at n route.connection) a
  elsewhere : (connection : ℕ) → (connection ≡ route.connection → ⊥) → mail_at n connection ≡ mail_at k connection

get_same : (xs ys : List (List Placed)) (i : ℕ) → slice_get xs i ≡ slice_get ys i → get_or xs i [] ≡ get_or ys i []
get_same xs ys i e = sym (unwrap_or-slice_get xs i []) ∙ ap (λ (o : Option (List Placed)). unwrap_or o []) e ∙ unwrap_or-slice_get ys i []

mail_moves : (m k : World) (place : ℕ) (before lane : SubscriberLaneState) (at : ℕ) (route : Route) (p : Pop) (waits : Bool)
    → Alone m place before name.Receive k lane → Alone m place before name.Receive (happens k (Subscriber place) GoOn) (next_lane k lane)
    → k.moments < 2 ^ 63 → (happens k (Subscriber place) GoOn).moments ≡ k.moments + 1 → AllBetween m
    → lane.port.call ≡ subscribing.Receiving at route p waits → slice_get lane.port.routes at ≡ Some route
    → MailMoves k (happens k (Subscriber place) GoOn) route
    (pop_answer (pop_take p (shared_answer k.table (subscriber_next (subscribing.Receiving at route p waits)))))
mail_moves m k place before lane at route p waits a a' bound next between e here = record { here = now; elsewhere = off }
  where
    n : World
    n = happens k (Subscriber place) GoOn

    stage : SubscriberCall
    stage = subscribing.Receiving at route p waits

    mine : IsLinkOf k.links receiver place route
    mine = all_at (IsLinkOf k.links receiver place) lane.port.routes at route here (a.kept.within.receivers place lane a.found)

    orders : n.orders ≡ added k.orders (Some route.connection) k.moments (pop_acts k stage)
    orders = orders_are k place lane a.found ∙ ap (λ (s : SubscriberCall). added k.orders (pops_from s) k.moments (pop_acts k s)) e

    found_after : slice_get n.links route.connection ≡ Some mine.link
    found_after = ap (λ (ls : List LinkState). slice_get ls route.connection) (links_are k place lane a.found) ∙ mine.found

    sends : PublisherCall
    sends = publisher_stage (slice_get k.publishers (mine.link).publisher)

    idle : push_on route.connection (mine.link).kind sends ≡ push_idle (mine.link).kind
    idle = idle_pushes sends route.connection (mine.link).kind
        (ap (λ ps. publisher_is_idle (publisher_stage (slice_get ps (mine.link).publisher))) a.others.publishers ∙ stage_idle m
        (mine.link).publisher between)

    push_is : push_at k route.connection route.kind ≡ push_on route.connection (mine.link).kind sends
    push_is = ap (λ (x : Option LinkState). push_on route.connection route.kind (sender_stage k x)) mine.found ∙ ap
        (λ (kd : RingKind). push_on route.connection kd sends) mine.kind

    kept_at : IsKeptAt k.table k.moments route.connection mine.link (get_or k.orders route.connection []) sends stage
    kept_at = subst (λ (s : SubscriberCall). IsKeptAt k.table k.moments route.connection mine.link (get_or k.orders route.connection [])
        sends s)
        (ap subscriber_stage (ap (slice_get k.subscribers) mine.own ∙ a.found) ∙ e)
        ((a.kept.rings (omega (arith, bound))) route.connection mine.link (get_or k.orders route.connection []) mine.found
        (order_there k route.connection mine.link a.kept mine.found))

    more : acts_of (get_or n.orders route.connection []) ≡ acts_of (get_or k.orders route.connection []) ++ pop_acts k stage
    more =
        let mid = added_here k.orders (Some route.connection) k.moments (pop_acts k stage) route.connection
        (get_or n.orders route.connection []) refl
        (ap (λ (os : List (List Placed)). slice_get os route.connection) (sym orders) ∙ order_there n route.connection mine.link
        a'.kept found_after) in
        ap acts_of mid.2 ∙ acts_more mid.0 k.moments (pop_acts k stage)
        ∙ ap (λ (o : List Placed). acts_of o ++ pop_acts k stage)
        (some_is mid.0 (get_or k.orders route.connection []) (sym mid.1 ∙ order_there k route.connection mine.link a.kept mine.found))

    right : Acts (overflows (mine.link).kind) (mine.link).limit (waiting mine.link (get_or k.orders route.connection [])) (pop_acts k stage)
    right = answered_more mine.link (get_or k.orders route.connection []) (get_or n.orders route.connection []) (pop_acts k stage) more
        ((a'.kept.rings (omega (arith, next, bound))) route.connection mine.link (get_or n.orders route.connection []) found_after
        (order_there n route.connection mine.link a'.kept found_after)).mailbox.acts

    now : Given (mail_at k route.connection) (mail_at n route.connection)
        (pop_answer (pop_take p (shared_answer k.table (subscriber_next stage))))
    now = subst (λ (q : List ℕ). Given q (mail_at n route.connection)
        (pop_answer (pop_take p (shared_answer k.table (subscriber_next stage))))) (sym (mail_is k route.connection mine.link mine.found))
        (subst (λ (q : List ℕ). Given (waiting mine.link (get_or k.orders route.connection [])) q
        (pop_answer (pop_take p (shared_answer k.table (subscriber_next stage)))))
        (sym (mail_is n route.connection mine.link found_after ∙ waits_more mine.link (get_or k.orders route.connection [])
        (get_or n.orders route.connection []) (pop_acts k stage) more))
        (popped k.table k.moments at route p waits mine.link (get_or k.orders route.connection []) sends route.submission_cells
        (push_at k route.connection route.kind) mine.cells push_is idle (seat k route.connection mine.link mine.found a.kept.within)
        bound kept_at right))

    off : (connection : ℕ) → (connection ≡ route.connection → ⊥) → mail_at n connection ≡ mail_at k connection
    off connection apart =
        ap (λ (ls : List LinkState). mail_by (slice_get ls connection) (get_or n.orders connection [])) (links_are k place lane a.found)
        ∙ ap (λ (o : List Placed). mail_by (slice_get k.links connection) o)
        (get_same n.orders k.orders connection (ap (λ (os : List (List Placed)). slice_get os connection) orders
        ∙ added_other k.orders (Some route.connection) k.moments (pop_acts k stage) connection
        (λ h. apart (sym (some_is route.connection connection h)))))

-- what a receive knows of the connections before a place
pub record Past (m : World) (before : SubscriberLaneState) (place : ℕ) (waits : Bool) : Type 0 where
  pub none : NoneBefore before place (Gives m before)
  pub silent : waits ≡ false → NoneBefore before place (SomeWait m)
  pub some : waits ≡ true → OneOf before (SomeWait m)

-- a receive that is at a place took nothing yet
pub record Sweeps (m : World) (before : SubscriberLaneState) (k : World) (lane : SubscriberLaneState) (place : ℕ) (route : Route)
    (p : Pop) (waits : Bool) : Type 0 where
  pub at : slice_get before.port.routes place ≡ Some route
  pub few : place ≤ k.moments
  pub unanswered : pop_answer p ≡ None
  pub looks : pop_looks p ≡ is_full_at before.port.borrowed before.port.most_borrowed place
  pub mail : MailStays m k
  pub samples : lane.port.samples ≡ before.port.samples
  pub borrowed : lane.port.borrowed ≡ before.port.borrowed
  pub past : Past m before place waits

-- what stands where a receive is
abbrev pub Since : World → SubscriberLaneState → World → SubscriberLaneState → SubscriberCall → Type 0
Since m before k lane subscribing.Idle = ⊥
Since m before k lane (subscribing.Receiving place route p waits) = Sweeps m before k lane place route p waits
Since m before k lane (subscribing.Received given) = Receives m before given k lane
Since m before k lane (subscribing.Reading slot word extent) = ⊥
Since m before k lane (subscribing.WasRead slot) = ⊥
Since m before k lane (subscribing.Releasing place route p) = ⊥
Since m before k lane (subscribing.Released done) = ⊥

samples_stay : (before lane : SubscriberLaneState) → lane.port.samples ≡ before.port.samples → SamplesStay before lane
samples_stay before lane e = λ slot. ap (λ (xs : List (Option ℕ)). get_or xs slot None) e

-- after the last place
all_past : (m : World) (before : SubscriberLaneState) (place : ℕ) (Is : Route → Type 0) → slice_get before.port.routes place ≡ None
    → NoneBefore before place Is → NoneOf before Is
all_past m before place Is none h = λ at route there. h at route
    (omega (arith, none_within before.port.routes place none, slice_get_within before.port.routes at route there)) there

-- a receive goes to a place
to_place : (m : World) (before : SubscriberLaneState) (n : World) (after : SubscriberLaneState) (place : ℕ) (waits : Bool)
    → place ≤ n.moments → MailStays m n → after.port.samples ≡ before.port.samples → after.port.borrowed ≡ before.port.borrowed
    → Past m before place waits
    → Since m before n after (receive_at before.port.routes before.port.borrowed before.port.most_borrowed place waits)
to_place m before n after place waits few mail samples borrowed past = by_route (slice_get before.port.routes place) refl
  where
    ends : (b : Bool) → waits ≡ b → slice_get before.port.routes place ≡ None → Receives m before (nothing_received b) n after
    ends true e none = (
      record
          { mail = mail; samples = samples_stay before after samples; none = all_past m before place (Gives m before) none past.none },
      past.some e,
    )
    ends false e none = (
      record
          { mail = mail; samples = samples_stay before after samples; none = all_past m before place (Gives m before) none past.none },
      all_past m before place (SomeWait m) none (past.silent e),
    )

    by_route : (at : Option Route) → slice_get before.port.routes place ≡ at
        → Since m before n after (receive_from place (is_full_at before.port.borrowed before.port.most_borrowed place) waits at)
    by_route None e = ends waits refl e
    by_route (Some route) e = record {
      at = e;
      few = few;
      unanswered = first_unanswered route.kind (is_full_at before.port.borrowed before.port.most_borrowed place);
      looks = first_looks route.kind (is_full_at before.port.borrowed before.port.most_borrowed place);
      mail = mail;
      samples = samples;
      borrowed = borrowed;
      past = past;
    }

-- one place more
past_more : (m : World) (before : SubscriberLaneState) (place : ℕ) (route : Route) (waits now : Bool)
    → slice_get before.port.routes place ≡ Some route → Past m before place waits → (Gives m before route → ⊥)
    → (now ≡ false → (waits ≡ false) × (SomeWait m route → ⊥))
    → (now ≡ true → (waits ≡ true) ⊎ SomeWait m route) → Past m before (place + 1) now
past_more m before place route waits now at past none silent some = record {
  none = λ earlier other below there. elim (cases_lt earlier place) [
    | inl less ↦ past.none earlier other less there
    | inr ge ↦ let is : earlier ≡ place = omega (arith, ge, below) in
        λ h. none (subst (Gives m before) (some_is other route (sym there ∙ ap (slice_get before.port.routes) is ∙ at)) h)
  ];
  silent = λ e earlier other below there. let quiet = silent e in elim (cases_lt earlier place) [
    | inl less ↦ past.silent quiet.0 earlier other less there
    | inr ge ↦ let is : earlier ≡ place = omega (arith, ge, below) in
        λ h. quiet.1 (subst (SomeWait m) (some_is other route (sym there ∙ ap (slice_get before.port.routes) is ∙ at)) h)
  ];
  some = λ e. elim (some e) [
    | inl was ↦ past.some was
    | inr here ↦ record { place = place; route = route; at = at; is = here }
  ];
}

-- as many are borrowed as may be, or fewer
full_is : (m : World) (before : SubscriberLaneState) (place : ℕ) (route : Route) → CountsBorrowed before
    → slice_get before.port.routes place ≡ Some route → (b : Bool) → is_full_at before.port.borrowed before.port.most_borrowed place ≡ b
    → (b ≡ true → before.port.most_borrowed ≤ borrowed_of route.connection before)
    × (b ≡ false → borrowed_of route.connection before < before.port.most_borrowed)
full_is m before place route counts at b e =
    let number = (counts.numbers place route at).0 in
    let is : not (nat_lt (borrowed_of route.connection before) before.port.most_borrowed) ≡ b
    = sym (ap (is_full before.port.most_borrowed) number) ∙ e in (
      λ h. ltb-false (borrowed_of route.connection before) before.port.most_borrowed
          (not_true (nat_lt (borrowed_of route.connection before) before.port.most_borrowed) (is ∙ h)),
      λ h. ltb-true (borrowed_of route.connection before) before.port.most_borrowed
          (not_false (nat_lt (borrowed_of route.connection before) before.port.most_borrowed) (is ∙ h)),
    )
  where
    not_true : (x : Bool) → not x ≡ true → x ≡ false
    not_true true h = absurd (cc h)
    not_true false h = refl

    not_false : (x : Bool) → not x ≡ false → x ≡ true
    not_false true h = refl
    not_false false h = absurd (cc h)

-- a slot that waits is one of the service
waits_within : (m k : World) (connection : ℕ) (link : LinkState) (slot : ℕ) (rest : List ℕ) → IsKept k → k.moments ≤ 2 ^ 63
    → slice_get k.links connection ≡ Some link → mail_at k connection ≡ slot ∷ rest → slot < k.table.sizes.slots
waits_within m k connection link slot rest kept few found is =
    let own : IsSlotOf k link.publisher slot
    = mail_is_own k connection kept few link found 0 slot (ap (λ (q : List ℕ). slice_get q 0) is) in
    let port = all_at (IsPublisher k.table.sizes) k.publishers link.publisher own.lane own.found kept.within.publishers in
    omega (arith, own.below, port.slots)

-- what a step of a receive leaves in the subscriber's own record
record NextOwn (k : World) (before lane : SubscriberLaneState) (at : ℕ) (route : Route) (p : Pop) (waits : Bool) (a : Option PopAnswer)
    : Type 0 where
  call : (next_lane k lane).port.call ≡ received before.port.routes before.port.borrowed before.port.most_borrowed at route p waits a
  samples : (next_lane k lane).port.samples ≡ samples_after (borrowed_by at a) before.port.samples
  borrowed : borrowed_by at a ≡ change.Nothing → (next_lane k lane).port.borrowed ≡ before.port.borrowed

next_own : (m k : World) (place : ℕ) (before lane : SubscriberLaneState) (at : ℕ) (route : Route) (p : Pop) (waits : Bool)
    → Alone m place before name.Receive k lane → lane.port.call ≡ subscribing.Receiving at route p waits
    → Sweeps m before k lane at route p waits
    → NextOwn k before lane at route (pop_take p (shared_answer k.table (subscriber_next (subscribing.Receiving at route p waits))))
    waits (pop_answer (pop_take p (shared_answer k.table (subscriber_next (subscribing.Receiving at route p waits)))))
next_own m k place before lane at route p waits a e s =
    let stage : SubscriberCall = subscribing.Receiving at route p waits in
    let g : ℕ = shared_answer k.table (subscriber_next stage) in
    let moved : SubscriberChange = subscriber_change lane.port.call (subscriber_given k.table lane) in
    let moved_is : moved ≡ borrowed_by at (pop_answer (pop_take p g))
    = ap (λ (c : SubscriberCall). subscriber_change c (shared_answer k.table (subscriber_next c))) e in
    record {
      call = next_call k lane ∙ ap (λ (c : SubscriberCall). subscriber_take lane.port.routes lane.port.borrowed lane.port.most_borrowed
          c (shared_answer k.table (subscriber_next c))) e
          ∙ ap (λ (rs : List Route). subscriber_take rs lane.port.borrowed lane.port.most_borrowed stage g) a.routes
          ∙ ap (λ (bs : List ℕ). subscriber_take before.port.routes bs lane.port.most_borrowed stage g) s.borrowed
          ∙ ap (λ (most : ℕ). subscriber_take before.port.routes before.port.borrowed most stage g) a.most;
      samples = samples_are moved _ ∙ ap (λ (xs : List (Option ℕ)). samples_after moved xs) s.samples ∙ ap
          (λ (c : SubscriberChange). samples_after c before.port.samples) moved_is;
      borrowed = λ none. (numbers_are moved _).0 ∙ ap (λ (c : SubscriberChange). numbers_after c lane.port.borrowed) (moved_is ∙ none) ∙
          s.borrowed;
    }

-- one step of a receive
sweeps_on : (m k : World) (place : ℕ) (before lane : SubscriberLaneState) (at : ℕ) (route : Route) (p : Pop) (waits : Bool) → IsKept m
    → m.moments ≤ 2 ^ 63 → slice_get m.subscribers place ≡ Some before → AllBetween m
    → Alone m place before name.Receive k lane
    → Alone m place before name.Receive (happens k (Subscriber place) GoOn) (next_lane k lane) → k.moments < 2 ^ 63
    → (happens k (Subscriber place) GoOn).moments ≡ k.moments + 1
    → lane.port.call ≡ subscribing.Receiving at route p waits → Sweeps m before k lane at route p waits
    → Since m before (happens k (Subscriber place) GoOn) (next_lane k lane) (next_lane k lane).port.call
sweeps_on m k place before lane at route p waits was few found between a a' bound next e s =
    subst (Since m before n after) (sym own.call) (by_answer (pop_answer q) refl)
  where
    n : World
    n = happens k (Subscriber place) GoOn

    after : SubscriberLaneState
    after = next_lane k lane

    g : ℕ
    g = shared_answer k.table (subscriber_next (subscribing.Receiving at route p waits))

    q : Pop
    q = pop_take p g

    own : NextOwn k before lane at route q waits (pop_answer q)
    own = next_own m k place before lane at route p waits a e s

    moves : MailMoves k n route (pop_answer q)
    moves = mail_moves m k place before lane at route p waits a a' bound next between e
        (ap (λ (rs : List Route). slice_get rs at) a.routes ∙ s.at)

    kinds : StaysKind p q
    kinds = stays_kind p g s.unanswered

    counts : CountsBorrowed before
    counts = (was.rooms few).subscribers place before found

    next_place : successor at ≡ at + 1
    next_place = omega (arith, s.few, bound)

    mail_on : mail_at n route.connection ≡ mail_at k route.connection → MailStays m n
    mail_on same = λ connection. elim (eqb_tells connection route.connection) [
      | inl here ↦ ap (mail_at n) here.1 ∙ same ∙ ap (mail_at k) (sym here.1) ∙ s.mail connection
      | inr apart ↦ moves.elsewhere connection apart.1 ∙ s.mail connection
    ]

    went : (a : Option PopAnswer) (now : Bool) → pop_answer q ≡ a → borrowed_by at a ≡ change.Nothing
        → mail_at n route.connection ≡ mail_at k route.connection → Past m before (at + 1) now
        → Since m before n after (receive_at before.port.routes before.port.borrowed before.port.most_borrowed (successor at) now)
    went a now is none same past =
        let change_is : borrowed_by at (pop_answer q) ≡ change.Nothing = ap (borrowed_by at) is ∙ none in
        subst (λ (i : ℕ). Since m before n after (receive_at before.port.routes before.port.borrowed before.port.most_borrowed i now))
        (sym next_place)
        (to_place m before n after (at + 1) now (omega (arith, next, s.few)) (mail_on same)
        (own.samples ∙ ap (λ (c : SubscriberChange). samples_after c before.port.samples) change_is) (own.borrowed change_is) past)

    by_answer : (a : Option PopAnswer) → pop_answer q ≡ a
        → Since m before n after (received before.port.routes before.port.borrowed before.port.most_borrowed at route q waits a)
    by_answer None is =
        let change_is : borrowed_by at (pop_answer q) ≡ change.Nothing = ap (borrowed_by at) is in
        record {
          at = s.at;
          few = omega (arith, next, s.few);
          unanswered = is;
          looks = kinds.none is ∙ s.looks;
          mail = mail_on (moves.here.none is);
          samples = own.samples ∙ ap (λ (c : SubscriberChange). samples_after c before.port.samples) change_is;
          borrowed = own.borrowed change_is;
          past = s.past;
        }
    by_answer (Some (Got (Some slot))) is =
        let oldest : mail_at k route.connection ≡ slot ∷ mail_at n route.connection = moves.here.one slot is in
        let fewer = (full_is m before at route counts s.at false (sym s.looks ∙ kinds.got (Some slot) is)).1 refl in
        let link = all_at (IsLinkOf k.links receiver place) lane.port.routes at route
        (ap (λ (rs : List Route). slice_get rs at) a.routes ∙ s.at) (a.kept.within.receivers place lane a.found) in
        let within = waits_within m k route.connection link.link slot (mail_at n route.connection) a.kept (omega (arith, bound))
        link.found oldest in
        let room : length lane.port.samples ≡ k.table.sizes.slots
        = ((a.kept.uses (omega (arith, bound))).subscribers place lane a.found).all in
        let here : slot < length before.port.samples = omega (arith, within, room, ap (λ (xs : List (Option ℕ)). length xs) s.samples) in
        let samples : after.port.samples ≡ samples_after (borrowed_by at (Some (Got (Some slot)))) before.port.samples
        = own.samples ∙ ap (λ (x : Option PopAnswer). samples_after (borrowed_by at x) before.port.samples) is in
        record {
          route = route;
          at = s.at;
          fewer = fewer;
          oldest = sym (s.mail route.connection) ∙ oldest;
          elsewhere = λ connection apart. moves.elsewhere connection apart ∙ s.mail connection;
          first = s.past.none;
          borrowed = ap (λ (xs : List (Option ℕ)). get_or xs slot None) samples ∙ put_at_same before.port.samples slot (Some at) None here;
          others = λ other apart. ap (λ (xs : List (Option ℕ)). get_or xs other None) samples ∙ put_at_other before.port.samples slot
              other (Some at) None apart;
        }
    by_answer (Some (Got None)) is =
        let empty = moves.here.empty is in
        let none : mail_at m route.connection ≡ [] = sym (s.mail route.connection) ∙ empty.0 in
        let silent : SomeWait m route → ⊥ = λ some. absurd (omega (arith, some, ap (λ (xs : List ℕ). length xs) none)) in
        went (Some (Got None)) waits is refl (empty.1 ∙ sym empty.0)
        (past_more m before at route waits waits s.at s.past (λ gives. silent gives.0) (λ quiet. (quiet, silent)) (λ loud. inl loud))
    by_answer (Some (Saw some)) is =
        let seen = moves.here.saw some is in
        let some_is : some ≡ nat_lt 0 (length (mail_at m route.connection))
        = seen.0 ∙ ap (λ (xs : List ℕ). nat_lt 0 (length xs)) (s.mail route.connection) in
        let full = (full_is m before at route counts s.at true (sym s.looks ∙ kinds.saw some is)).0 refl in
        went (Some (Saw some)) (waits || some) is refl seen.1
        (past_more m before at route waits (waits || some) s.at s.past (λ gives. absurd (omega (arith, gives.1, full)))
        (λ quiet. (
          or_left waits some quiet,
          λ waiting. absurd
              (omega (arith, waiting, ltb-false 0 (length (mail_at m route.connection)) (sym some_is ∙ or_right waits some quiet))),
        ))
        (λ loud. or_true waits some (ltb-true 0 (length (mail_at m route.connection))) some_is loud))
      where
        or_left : (x y : Bool) → (x || y) ≡ false → x ≡ false
        or_left true y h = absurd (cc h)
        or_left false y h = refl

        or_right : (x y : Bool) → (x || y) ≡ false → y ≡ false
        or_right true y h = absurd (cc h)
        or_right false y h = h

        or_true : (x y : Bool) {b : Bool} {Q : Type 0} → (b ≡ true → Q) → y ≡ b → (x || y) ≡ true → (x ≡ true) ⊎ Q
        or_true true y f e h = inl refl
        or_true false y f e h = inr (f (sym e ∙ h))

receive_keeps : (m : World) (place : ℕ) (before : SubscriberLaneState) → IsKept m → m.moments ≤ 2 ^ 63
    → slice_get m.subscribers place ≡ Some before → AllBetween m
    → Keeps m place before name.Receive (λ k lane. Since m before k lane lane.port.call)
receive_keeps m place before was few found between
    = λ k lane a a' bound next over s. by_call k lane a a' bound next lane.port.call refl over s
  where
    by_call : (k : World) (lane : SubscriberLaneState) → Alone m place before name.Receive k lane
        → Alone m place before name.Receive (happens k (Subscriber place) GoOn) (next_lane k lane) → k.moments < 2 ^ 63
        → (happens k (Subscriber place) GoOn).moments ≡ k.moments + 1
        → (c : SubscriberCall) → lane.port.call ≡ c → subscriber_is_over c ≡ false → Since m before k lane c
        → Since m before (happens k (Subscriber place) GoOn) (next_lane k lane) (next_lane k lane).port.call
    by_call k lane a a' bound next subscribing.Idle e over s = absurd s
    by_call k lane a a' bound next (subscribing.Receiving at route p waits) e over s
        = sweeps_on m k place before lane at route p waits was few found between a a' bound next e s
    by_call k lane a a' bound next (subscribing.Received given) e over s = absurd (cc over)
    by_call k lane a a' bound next (subscribing.Reading slot word extent) e over s = absurd s
    by_call k lane a a' bound next (subscribing.WasRead slot) e over s = absurd s
    by_call k lane a a' bound next (subscribing.Releasing at route p) e over s = absurd s
    by_call k lane a a' bound next (subscribing.Released done) e over s = absurd s

-- where the last step of a receive stands
received_stage : (m : World) (before : SubscriberLaneState) (k : World) (lane : SubscriberLaneState) (c : SubscriberCall)
    → subscriber_is_over c ≡ true → Since m before k lane c → (given : Receipt) × (c ≡ subscribing.Received given)
    × Receives m before given k lane
received_stage m before k lane subscribing.Idle over s = absurd s
received_stage m before k lane (subscribing.Receiving at route p waits) over s = absurd (cc over)
received_stage m before k lane (subscribing.Received given) over s = (given, refl, s)
received_stage m before k lane (subscribing.Reading slot word extent) over s = absurd s
received_stage m before k lane (subscribing.WasRead slot) over s = absurd s
received_stage m before k lane (subscribing.Releasing at route p) over s = absurd s
received_stage m before k lane (subscribing.Released done) over s = absurd s

-- the last step changes nothing of it
receives_on : (m : World) (before : SubscriberLaneState) (given : Receipt) (k n : World) (lane after : SubscriberLaneState)
    → ((connection : ℕ) → mail_at n connection ≡ mail_at k connection) → after.port.samples ≡ lane.port.samples
    → Receives m before given k lane → Receives m before given n after
receives_on m before (receipt.Taken place slot) k n lane after mail samples r = record {
  route = r.route;
  at = r.at;
  fewer = r.fewer;
  oldest = r.oldest ∙ ap (λ (q : List ℕ). slot ∷ q) (sym (mail (r.route).connection));
  elsewhere = λ connection apart. mail connection ∙ r.elsewhere connection apart;
  first = r.first;
  borrowed = ap (λ (xs : List (Option ℕ)). get_or xs slot None) samples ∙ r.borrowed;
  others = λ other apart. ap (λ (xs : List (Option ℕ)). get_or xs other None) samples ∙ r.others other apart;
}
receives_on m before receipt.Nothing k n lane after mail samples r = (none_on r.0, r.1)
  where
    none_on : TakesNone m before k lane → TakesNone m before n after
    none_on t = record {
      mail = λ connection. mail connection ∙ t.mail connection;
      samples
          = λ slot. ap (λ (xs : List (Option ℕ)). get_or xs slot None) samples ∙ t.samples slot;
      none = t.none;
    }
receives_on m before receipt.ExceedsMaxBorrows k n lane after mail samples r = (none_on r.0, r.1)
  where
    none_on : TakesNone m before k lane → TakesNone m before n after
    none_on t = record {
      mail = λ connection. mail connection ∙ t.mail connection;
      samples
          = λ slot. ap (λ (xs : List (Option ℕ)). get_or xs slot None) samples ∙ t.samples slot;
      none = t.none;
    }

-- a whole receive
received_whole : (m n : World) (place : ℕ) (before after : SubscriberLaneState)
    (w : WholeCall m place call.Receive before (λ k lane. Since m before k lane lane.port.call) n after)
    → (given : Receipt) × IsAnswered m (Subscriber place) call.Receive (answer.Received given) n × OnlySubscriber m place n
    × Receives m before given n after
received_whole m n place before after w =
    let stage = received_stage m before w.last.k w.last.lane (w.last.lane).port.call w.last.over w.last.holds in
    let samples : after.port.samples ≡ (w.last.lane).port.samples
    = ap (λ (x : SubscriberLaneState). x.port.samples) w.after_is ∙ next_samples w.last.k w.last.lane
    ∙ ap (λ (c : SubscriberCall). samples_after (subscriber_change c (shared_answer (w.last.k).table (subscriber_next c)))
    (w.last.lane).port.samples) stage.1 in (
      stage.0,
      answered_by m place call.Receive before (λ k lane. Since m before k lane lane.port.call) n after w (answer.Received stage.0)
          (ap (λ (c : SubscriberCall). subscriber_answer c (length (w.last.k).read)) stage.1),
      w.others,
      receives_on m before stage.0 w.last.k n w.last.lane after w.mail samples stage.2,
    )

-- nothing is known of the connections before the first place
none_past : (m : World) (before : SubscriberLaneState) → Past m before 0 false
none_past m before = record {
  none = λ earlier route below. absurd (omega (arith, below));
  silent = λ e earlier route below. absurd (omega (arith, below));
  some
      = λ e. absurd (cc e);
}

pub receives_in_turn : ReceivesInTurn
receives_in_turn = λ m n place before after t found now.
    received_whole m n place before after
    (whole m place call.Receive before (λ k lane. Since m before k lane lane.port.call) n after
    (receive_keeps m place before (came_kept m t.came).0 (few_first m n place call.Receive t) found t.between)
    (λ may k bound. to_place m before (happens m (Subscriber place) (Begin call.Receive))
    (subscriber_begun m.moments call.Receive before) 0 false (omega arith) (begun_mail m place call.Receive before found) refl refl
    (none_past m before))
    t found now)

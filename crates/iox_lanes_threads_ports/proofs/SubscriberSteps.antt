-- A subscriber stands where its port knows what the next step needs, from one step to the next.
use Rattle.std.proofs.Common.{ℕ, ◌≡◌, ◌+◌, ◌<◌, ◌||◌, Bool, true, false, if◌then◌else◌, nat_lt, List, length, get_or, slice_get, Option}
use Rattle.std.proofs.Common.{Some, None, refl, sym, ◌∙◌, ap, subst, inl, inr, arith, set, length-set}
use Rattle.std.proofs.lemmas.Bool.{cases_lt}
use Rattle.std.proofs.lemmas.List.{get_or_past}
use Rattle.std.specs.List.{All}
use Rattle.iox_lanes_machine.specs.QueuesSteps.Access.{successor}
use Rattle.iox_lanes_machine.specs.QueuesSteps.declared.order.PushAnswer.{PushAnswer}
use Rattle.iox_lanes_machine.specs.QueuesSteps.declared.order.PushAnswer.TheVariants.{Kept, LeftOut, Refused}
use Rattle.iox_lanes_machine.specs.QueuesSteps.declared.order.PopAnswer.{PopAnswer}
use Rattle.iox_lanes_machine.specs.QueuesSteps.declared.order.PopAnswer.TheVariants.{Got, Saw}
use Rattle.iox_lanes_machine.specs.QueuesSteps.Refusing as refusing
use Rattle.iox_lanes_machine.specs.QueuesSteps.declared.rings.refusing.push.Push as refusing_push_type
use Rattle.iox_lanes_machine.specs.QueuesSteps.Ends.{pop_first, pop_next, pop_take}
use Rattle.iox_lanes_machine.specs.QueuesSteps.declared.rings.ends.RingKind.{RingKind}
use Rattle.iox_lanes_machine.specs.QueuesSteps.declared.rings.ends.RingKind.TheVariants as kind
use Rattle.iox_lanes_machine.specs.QueuesSteps.declared.rings.ends.Pop.{Pop}
use Rattle.iox_lanes_machine.specs.QueuesSteps.declared.rings.ends.Pop.TheVariants as ring_pop
use Rattle.iox_lanes_machine.specs.LanesBase.Numbers.{slot_words, words_of}
use Rattle.iox_lanes_machine.specs.LanesBase.Table.{IsOfTable}
use Rattle.iox_lanes_machine.specs.LanesBase.Words.{on_ring}
use Rattle.iox_lanes_machine.specs.LanesBase.declared.words.word.ConnectionRing.TheVariants.{Submission, Completion}
use Rattle.iox_lanes_machine.specs.LanesBase.Answers.{refusing_push_answer, pop_answer}
use Rattle.iox_lanes_machine.specs.LanesBase.Subscribing.{subscriber_is_idle, subscriber_next, subscriber_take, subscriber_change}
use Rattle.iox_lanes_machine.specs.LanesBase.Subscribing.{is_full_at, receive_from, received, released}
use Rattle.iox_lanes_machine.specs.LanesBase.declared.calls.route.Route.{Route}
use Rattle.iox_lanes_machine.specs.LanesBase.declared.calls.subscriber.SlotExtent.{SlotExtent}
use Rattle.iox_lanes_machine.specs.LanesBase.declared.calls.subscriber.SubscriberCall.{SubscriberCall}
use Rattle.iox_lanes_machine.specs.LanesBase.declared.calls.subscriber.SubscriberCall.TheVariants as subscribing
use Rattle.iox_lanes_machine.specs.LanesBase.declared.calls.subscriber.SubscriberChange.{SubscriberChange}
use Rattle.iox_lanes_machine.specs.LanesBase.declared.calls.subscriber.SubscriberChange.TheVariants as change
use Rattle.iox_lanes_machine.specs.LanesParties.Keeping.{SubscriberState, changed, put_at}
use Rattle.iox_lanes_machine.specs.LanesParties.Parties.{SubscriberLaneState, subscriber_may, subscriber_fits, subscriber_begun}
use Rattle.iox_lanes_machine.specs.LanesParties.Parties.{subscriber_after, release_begun, place_of, route_at}
use Rattle.iox_lanes_machine.specs.LanesParties.Within.{IsAt, IsSubscribing, IsSubscriber, IsRoute}
use Rattle.iox_lanes_machine.specs.LanesParties.declared.call.Call.{Call}
use Rattle.iox_lanes_machine.specs.LanesParties.declared.call.Call.TheVariants as call
use Rattle.iox_lanes_machine.specs.LanesParties.declared.call.Move.TheVariants.{Begin}
use Rattle.iox_lanes_machine.specs.LanesParties.declared.call.Party.{Party}
use Rattle.iox_lanes_machine.proofs.LanesParties.Rings.{and_right, all_at}
use Rattle.iox_lanes_machine.proofs.LanesParties.SubscribersWithin.{subscribers_stay_within}
use Rattle.iox_lanes_threads_rule.specs.Service.{Refuses, IsReceiver, IsLoneReader}
use Rattle.iox_lanes_threads_rule.specs.Rule.{Overflows}
use Rattle.iox_lanes_threads_rule.specs.Acts.{stepped, MayAct, ToldBy}
use Rattle.iox_lanes_threads_rule.specs.declared.service.Line.{Line}
use Rattle.iox_lanes_threads_rule.specs.declared.service.Service.{Service}
use Rattle.iox_lanes_threads_rule.specs.declared.view.Port.{Port}
use Rattle.iox_lanes_threads_rule.specs.declared.view.PortParty.{PortParty}
use Rattle.iox_lanes_threads_ports.specs.Courses.{subscriber_party, subscriber_stepped}
use Rattle.iox_lanes_threads_ports.specs.Ends.{LonePush, PopKnows}
use Rattle.iox_lanes_threads_ports.specs.Ports.{receiver_of, IsEnd, back_write, SubscriberKnows, SubscriberStands, SubscribersGoOn}
use Rattle.iox_lanes_threads_ports.proofs.PublisherSteps.{SamePort, step_same, moved_over}
use Rattle.iox_lanes_threads_ports.proofs.Rings.{lone_pop_may, lone_push_may, over_pop_may, lone_pop_goes, lone_push_goes, over_pop_goes}
use Rattle.iox_lanes_threads_ports.proofs.Coming.{subscriber_came, subscriber_began}

receives : (at : Option Line) (line : Line) (name : Party) → at ≡ Some line → name ≡ receiver_of line → IsReceiver at name
receives None line name e own = absurd (cc e)
receives (Some other) line name e own = let same : other ≡ line = cc e in own ∙ ap receiver_of (sym same)

reads_alone : (at : Option Line) (line : Line) (name : Party) → at ≡ Some line → name ≡ receiver_of line → line.kind ≡ kind.Refusing
    → IsLoneReader at name
reads_alone None line name e own k = absurd (cc e)
reads_alone (Some other) line name e own k = let same : other ≡ line
    = cc e in (subst Refuses (sym (ap (λ (l : Line). l.kind) same ∙ k)) tt, own ∙ ap receiver_of (sym same))

pub is_receiver : (s : Service) (name : Party) (route : Route) → IsEnd s receiver_of name route
    → IsReceiver (slice_get s.lines route.connection) name
is_receiver s name route end = receives (slice_get s.lines route.connection) end.line name end.found end.own

overflows : (s : Service) (name : Party) (route : Route) (end : IsEnd s receiver_of name route) → IsRoute s.sizes route
    → route.kind ≡ kind.Overflowing → Overflows s route.connection end.line
overflows s name route end is k = record { there = is.connection; found = end.found; kind = sym end.kind ∙ k }

pop_begun_knows : (q : Port) (route : Route) (k : RingKind) (full : Bool) → route.kind ≡ k → PopKnows q route (pop_first k full)
pop_begun_knows q route kind.Overflowing true e = (e, tt)
pop_begun_knows q route kind.Overflowing false e = (e, tt)
pop_begun_knows q route kind.Refusing true e = (e, tt)
pop_begun_knows q route kind.Refusing false e = (e, tt)

receive_knows : (q : Port) (place : ℕ) (full waits : Bool) (at : Option Route) → SubscriberKnows q (receive_from place full waits at)
receive_knows q place full waits None = tt
receive_knows q place full waits (Some route) = pop_begun_knows q route route.kind full refl

received_knows : (q : Port) (routes : List Route) (borrowed : List ℕ) (most place : ℕ) (route : Route) (pop : Pop) (waits : Bool)
    (a : Option PopAnswer) → PopKnows q route pop
    → SubscriberKnows q (received routes borrowed most place route pop waits a)
received_knows q routes borrowed most place route pop waits None k = k
received_knows q routes borrowed most place route pop waits (Some (Got (Some slot))) k = tt
received_knows q routes borrowed most place route pop waits (Some (Got None)) k
    = receive_knows q (successor place) (is_full_at borrowed most (successor place)) waits (slice_get routes (successor place))
received_knows q routes borrowed most place route pop waits (Some (Saw some)) k
    = receive_knows q (successor place) (is_full_at borrowed most (successor place)) (waits || some) (slice_get routes (successor place))

read_knows : (q : Port) (slot word : ℕ) (extent : SlotExtent) (b : Bool)
    → SubscriberKnows q (if b then subscribing.Reading slot word extent else subscribing.WasRead slot)
read_knows q slot word extent true = tt
read_knows q slot word extent false = tt

released_knows : (q : Port) (place : ℕ) (route : Route) (push : refusing_push_type.Push) (a : Option PushAnswer)
    → LonePush q (back_write route) push → SubscriberKnows q (released place route push a)
released_knows q place route push None k = k
released_knows q place route push (Some Kept) k = tt
released_knows q place route push (Some (LeftOut oldest)) k = tt
released_knows q place route push (Some Refused) k = tt

pub changed_stays : (c : SubscriberChange) (state : SubscriberState) → ((changed c state).routes ≡ state.routes)
    × ((changed c state).call ≡ state.call)
changed_stays change.Nothing state = (refl, refl)
changed_stays (change.Borrow place slot) state = (refl, refl)
changed_stays (change.Note word value) state = (refl, refl)
changed_stays (change.GiveBack place slot) state = (refl, refl)

-- a step leaves the room for the words that are read
put_length : {X : Type 0} (xs : List X) (w : ℕ) (x : X) → length (put_at xs w x) ≡ length xs
put_length xs w x = by_test (nat_lt w (length xs))
  where
    by_test : (b : Bool) → length (if b then set xs w x else xs) ≡ length xs
    by_test true = length-set xs w x
    by_test false = refl

changed_words : (c : SubscriberChange) (state : SubscriberState) → length (changed c state).words ≡ length state.words
changed_words change.Nothing state = refl
changed_words (change.Borrow place slot) state = refl
changed_words (change.Note word value) state = put_length state.words word value
changed_words (change.GiveBack place slot) state = refl

module _ (p : Port) (lane : SubscriberLaneState) (stands : SubscriberStands p lane) where
  pub end_at : (place : ℕ) (route : Route) → IsAt lane.port.routes place route → IsEnd p.service receiver_of p.name route
  end_at place route at = all_at (IsEnd p.service receiver_of p.name) lane.port.routes place route at stands.routes

  pub is_route_at : (place : ℕ) (route : Route) → IsAt lane.port.routes place route → IsRoute p.service.sizes route
  is_route_at place route at = all_at (IsRoute p.service.sizes) lane.port.routes place route at stands.within.routes

  pop_may : (place : ℕ) (route : Route) (pop : Pop) → IsAt lane.port.routes place route → PopKnows p route pop
      → IsOfTable p.service.sizes (on_ring route.connection Submission route.submission_cells (pop_next pop))
      → MayAct p (on_ring route.connection Submission route.submission_cells (pop_next pop))
  pop_may place route (ring_pop.Overflowing pop) at k is =
      let end = end_at place route at in
      over_pop_may p route.connection end.line route.submission_cells pop
      (overflows p.service p.name route end (is_route_at place route at) k.0) end.own k.1 is
  pop_may place route (ring_pop.Refusing pop) at k is =
      let end = end_at place route at in
      lone_pop_may p route.connection Submission route.submission_cells pop
      (reads_alone (slice_get p.service.lines route.connection) end.line p.name end.found end.own (sym end.kind ∙ k.0)) k.1 is

  may_at : (c : SubscriberCall) → IsSubscribing p.service.sizes lane.port.routes c → SubscriberKnows p c
      → IsOfTable p.service.sizes (subscriber_next c) → MayAct p (subscriber_next c)
  may_at subscribing.Idle at k is = tt
  may_at (subscribing.Receiving place route pop waits) at k is = pop_may place route pop at k is
  may_at (subscribing.Received receipt) at k is = tt
  may_at (subscribing.Reading slot word extent) at k is = is
  may_at (subscribing.WasRead slot) at k is = tt
  may_at (subscribing.Releasing place route push) at k is =
      let receiver = is_receiver p.service p.name route (end_at place route at) in
      lone_push_may p route.connection Completion route.completion_cells push receiver (λ cell. receiver) k is
  may_at (subscribing.Released done) at k is = tt

  of_table : IsOfTable p.service.sizes (subscriber_next lane.port.call)
  of_table = (subscribers_stay_within p.service.sizes lane stands.within).2

  pub may_act : MayAct p (subscriber_next lane.port.call)
  may_act = may_at lane.port.call stands.within.call stands.knows of_table

  module _ (n : ℕ) (after : ℕ → PortParty) where
    pop_goes : (place : ℕ) (route : Route) (pop : Pop) → IsAt lane.port.routes place route → PopKnows p route pop
        → IsOfTable p.service.sizes (on_ring route.connection Submission route.submission_cells (pop_next pop))
        → ToldBy p (on_ring route.connection Submission route.submission_cells (pop_next pop)) n
        → PopKnows (stepped p (on_ring route.connection Submission route.submission_cells (pop_next pop)) n after) route (pop_take pop n)
    pop_goes place route (ring_pop.Overflowing own) at k is told =
        let end = end_at place route at in (
          k.0,
          over_pop_goes p route.connection end.line route.submission_cells after stands.wide
              (overflows p.service p.name route end (is_route_at place route at) k.0) own n end.own is k.1 told,
        )
    pop_goes place route (ring_pop.Refusing own) at k is told =
        let r : IsRoute p.service.sizes route = is_route_at place route at in (
          k.0,
          lone_pop_goes p route.connection Submission route.submission_cells after stands.wide (r.connection, tt) (r.connection, tt)
              own n is k.1 told,
        )

    goes_at : (c : SubscriberCall) → IsSubscribing p.service.sizes lane.port.routes c → SubscriberKnows p c
        → IsOfTable p.service.sizes (subscriber_next c) → ToldBy p (subscriber_next c) n
        → SubscriberKnows (stepped p (subscriber_next c) n after)
        (subscriber_take lane.port.routes lane.port.borrowed lane.port.most_borrowed c n)
    goes_at subscribing.Idle at k is told = tt
    goes_at (subscribing.Receiving place route pop waits) at k is told =
        received_knows (stepped p (subscriber_next (subscribing.Receiving place route pop waits)) n after) lane.port.routes
        lane.port.borrowed lane.port.most_borrowed place route (pop_take pop n) waits (pop_answer (pop_take pop n))
        (pop_goes place route pop at k is told)
    goes_at (subscribing.Received receipt) at k is told = tt
    goes_at (subscribing.Reading slot word extent) at k is told =
        read_knows (stepped p (subscriber_next (subscribing.Reading slot word extent)) n after) slot (successor word) extent
        (nat_lt (successor word) (3 + extent.user_header_words + extent.payload_words))
    goes_at (subscribing.WasRead slot) at k is told = tt
    goes_at (subscribing.Releasing place route push) at k is told =
        let r : IsRoute p.service.sizes route = is_route_at place route at in
        released_knows (stepped p (subscriber_next (subscribing.Releasing place route push)) n after) place route
        (refusing.push_take push n) (refusing_push_answer (refusing.push_take push n))
        (lone_push_goes p route.connection Completion route.completion_cells after stands.wide (r.connection, tt) (r.connection, tt)
        push n is k told)
    goes_at (subscribing.Released done) at k is told = tt

  pub goes_on : (n : ℕ) → ToldBy p (subscriber_next lane.port.call) n
      → SubscriberStands (subscriber_stepped p lane n) (subscriber_after n lane)
  goes_on n told =
      let same : SamePort p (subscriber_stepped p lane n) = step_same p (subscriber_next lane.port.call) n (subscriber_party lane) in
      let stays = changed_stays (subscriber_change lane.port.call n)
      (record lane.port { call = subscriber_take lane.port.routes lane.port.borrowed lane.port.most_borrowed lane.port.call n }) in
      record {
        wide = same.wide ∙ stands.wide ∙ ap (λ (s : Service). words_of s.sizes) (sym same.service);
        room = changed_words (subscriber_change lane.port.call n)
            (record lane.port { call = subscriber_take lane.port.routes lane.port.borrowed lane.port.most_borrowed lane.port.call n })
            ∙ stands.room ∙ ap (λ (s : Service). slot_words s.sizes) (sym same.service);
        within = subst (λ (s : Service). IsSubscriber s.sizes (subscriber_after n lane)) (sym same.service)
            ((subscribers_stay_within p.service.sizes lane stands.within).1 n);
        routes = subst (All (IsEnd (subscriber_stepped p lane n).service receiver_of (subscriber_stepped p lane n).name)) (sym stays.0)
            (moved_over (λ s name. All (IsEnd s receiver_of name) lane.port.routes) same stands.routes);
        knows = subst (SubscriberKnows (subscriber_stepped p lane n)) (sym stays.1)
            (goes_at n (subscriber_party lane) lane.port.call stands.within.call stands.knows of_table told);
        comes = subscriber_came p lane n (subscriber_next lane.port.call) refl told stands.comes;
      }

-- a sample that is borrowed is a slot of the service
borrowed_below : (samples : List (Option ℕ)) (sample place : ℕ) → get_or samples sample None ≡ Some place → sample < length samples
borrowed_below samples sample place e = elim (cases_lt sample (length samples)) [
  | inl less ↦ less
  | inr past ↦ absurd (cc (e, get_or_past samples sample None past))
]

begun_at : (p : Port) (moment : ℕ) (c : Call) (lane : SubscriberLaneState) → subscriber_fits lane (Begin c) ≡ true
    → SubscriberStands p lane → SubscriberKnows p (subscriber_begun moment c lane).port.call
    × ((subscriber_begun moment c lane).port.routes ≡ lane.port.routes) × ((subscriber_begun moment c lane).port.words ≡ lane.port.words)
begun_at p moment call.LoanUninit lane fit stands
    = absurd (cc (and_right (subscriber_is_idle lane.port.call) (subscriber_may lane call.LoanUninit) fit))
begun_at p moment (call.Write loan payload user_header) lane fit stands
    = absurd (cc (and_right (subscriber_is_idle lane.port.call) (subscriber_may lane (call.Write loan payload user_header)) fit))
begun_at p moment (call.Send loan) lane fit stands
    = absurd (cc (and_right (subscriber_is_idle lane.port.call) (subscriber_may lane (call.Send loan)) fit))
begun_at p moment (call.DropLoan loan) lane fit stands
    = absurd (cc (and_right (subscriber_is_idle lane.port.call) (subscriber_may lane (call.DropLoan loan)) fit))
begun_at p moment call.Receive lane fit stands
    = (receive_knows p 0 (is_full_at lane.port.borrowed lane.port.most_borrowed 0) false (slice_get lane.port.routes 0), refl, refl)
begun_at p moment (call.Read sample) lane fit stands
    = (
      read_knows p sample 0 lane.port.extent (nat_lt 0 (3 + lane.port.extent.user_header_words + lane.port.extent.payload_words)),
      refl,
      refl,
    )
begun_at p moment (call.Release sample) lane fit stands = release_at (place_of sample lane) (route_at (place_of sample lane) lane) refl
  where
    release_at : (place : Option ℕ) (route : Option Route) → place_of sample lane ≡ place
        → SubscriberKnows p (release_begun moment sample place route lane).port.call
        × ((release_begun moment sample place route lane).port.routes ≡ lane.port.routes)
        × ((release_begun moment sample place route lane).port.words ≡ lane.port.words)
    release_at None route e = (stands.knows, refl, refl)
    release_at (Some place) None e = (stands.knows, refl, refl)
    release_at (Some place) (Some route) e
        = ((λ some_slot. omega (arith, borrowed_below lane.port.samples sample place e, stands.within.slots)), refl, refl)

pub begins : (p : Port) (lane : SubscriberLaneState) (moment : ℕ) (c : Call) → SubscriberStands p lane
    → subscriber_fits lane (Begin c) ≡ true → SubscriberStands p (subscriber_begun moment c lane)
begins p lane moment c stands fit =
    let b = begun_at p moment c lane fit stands in
    record {
      wide = stands.wide;
      room = ap (λ (words : List ℕ). length words) b.2 ∙ stands.room;
      within = (subscribers_stay_within p.service.sizes lane stands.within).0 moment c fit;
      routes = subst (All (IsEnd p.service receiver_of p.name)) (sym b.1) stands.routes;
      knows = b.0;
      comes = subscriber_began p.party lane moment c stands.comes fit;
    }

pub subscribers_go_on : SubscribersGoOn
subscribers_go_on p lane stands
    = ((λ moment c fit. begins p lane moment c stands fit), may_act p lane stands, (λ n told. goes_on p lane stands n told))

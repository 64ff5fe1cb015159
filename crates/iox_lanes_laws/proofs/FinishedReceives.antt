-- Each receive that ended took so at its connections.
use Rattle.std.proofs.Common.{ℕ, ◌≡◌, ◌≤◌, ◌^◌, not, Bool, true, false, List, [], ◌∷◌, ◌++◌, Contains, length, set}
use Rattle.std.proofs.Common.{slice_get, slice_index_or, Option, Some, None, refl, sym, ◌∙◌, ap, subst, inl, inr, arith, append_assoc}
use Rattle.std.proofs.lemmas.Bool.Decides.{eqb_tells}
use Rattle.std.proofs.lemmas.List.Elements.{Contains-append_cases}
use Rattle.iox_queues_steps.specs.declared.order.Placed.{Placed}
use Rattle.iox_lanes_base.specs.Publishing.{publisher_is_idle}
use Rattle.iox_lanes_base.specs.Subscribing.{subscriber_is_idle}
use Rattle.iox_lanes_base.specs.declared.calls.publisher.PublisherCall.{PublisherCall}
use Rattle.iox_lanes_base.specs.declared.calls.publisher.PublisherCall.TheVariants as publishing
use Rattle.iox_lanes_base.specs.declared.calls.route.Route.{Route}
use Rattle.iox_lanes_base.specs.declared.calls.subscriber.Receipt.{Receipt}
use Rattle.iox_lanes_base.specs.declared.calls.subscriber.SubscriberCall.{SubscriberCall}
use Rattle.iox_lanes_base.specs.declared.calls.subscriber.SubscriberCall.TheVariants as subscribing
use Rattle.iox_lanes_machine.specs.LanesParties.Parties.{PublisherLaneState, SubscriberLaneState, subscriber_may, subscriber_fits}
use Rattle.iox_lanes_machine.specs.LanesParties.Parties.{subscriber_begun, subscriber_after, subscriber_answer, release_begun, is_route}
use Rattle.iox_lanes_machine.specs.LanesParties.Parties.{place_of, route_at}
use Rattle.iox_lanes_machine.specs.LanesParties.declared.call.Answer.{Answer}
use Rattle.iox_lanes_machine.specs.LanesParties.declared.call.Answer.TheVariants as answer
use Rattle.iox_lanes_machine.specs.LanesParties.declared.call.Call.{Call}
use Rattle.iox_lanes_machine.specs.LanesParties.declared.call.Call.TheVariants as call
use Rattle.iox_lanes_machine.specs.LanesParties.declared.call.CallName.{CallName}
use Rattle.iox_lanes_machine.specs.LanesParties.declared.call.CallName.TheVariants as name
use Rattle.iox_lanes_machine.specs.LanesParties.declared.call.Entry.{Entry}
use Rattle.iox_lanes_machine.specs.LanesParties.declared.call.FinishedCall.{FinishedCall}
use Rattle.iox_lanes_machine.specs.LanesParties.declared.call.Move.{Move}
use Rattle.iox_lanes_machine.specs.LanesParties.declared.call.Move.TheVariants.{Begin, GoOn}
use Rattle.iox_lanes_machine.specs.LanesParties.declared.call.Party.{Party}
use Rattle.iox_lanes_machine.specs.LanesParties.declared.call.Party.TheVariants.{Publisher, Subscriber}
use Rattle.iox_lanes_machine.proofs.LanesParties.Rings.{and_right}
use Rattle.iox_lanes_machine.specs.Calls.{CallsFollow, IsStageOf, IsReceiverStageOf}
use Rattle.iox_lanes_machine.specs.Findings.{AreFound, with_found}
use Rattle.iox_lanes_machine.specs.Fresh.{IsFresh}
use Rattle.iox_lanes_machine.specs.Kept.{IsKept}
use Rattle.iox_lanes_machine.specs.Made.{start}
use Rattle.iox_lanes_machine.specs.Paces.{after_entry, led}
use Rattle.iox_lanes_machine.specs.Receipts.{is_receiver}
use Rattle.iox_lanes_machine.specs.WholeReads.{CameTo}
use Rattle.iox_lanes_machine.specs.World.{World, ended, fits, happens, placed, publisher_begins, publisher_fits_at, publisher_goes_on}
use Rattle.iox_lanes_machine.specs.World.{subscriber_begins, subscriber_fits_at, subscriber_given, subscriber_goes_on, RunsTo}
use Rattle.iox_lanes_machine.specs.declared.found.Found.{Found}
use Rattle.iox_lanes_machine.proofs.Ends.{some_is}
use Rattle.iox_lanes_machine.proofs.FoundKeptWhole.{all_found, found_moments}
use Rattle.iox_lanes_machine.proofs.Paces.{came_kept}
use Rattle.iox_lanes_machine.proofs.Runs.{came_on}
use Rattle.iox_lanes_machine.proofs.StartUses.{start_kept}
use Rattle.iox_lanes_machine.proofs.Steps.{happens_moments}
use Rattle.iox_lanes_machine.proofs.Within.{set_other, set_same}
use Rattle.iox_lanes_laws.specs.FinishedReceives.{WasReceived, AllReceivesTook, FinishedReceivesFollow}
use Rattle.iox_lanes_laws.specs.Takes.{Visits, own_takes}
use Rattle.iox_lanes_laws.proofs.SubscriberCourses.{begun_first}
use Rattle.iox_lanes_laws.proofs.Takes.{receive_takes}

-- entries and one more
led_more : (m : World) (entries : List Entry) (entry : Entry) → led m (entries ++ entry ∷ [])
    ≡ after_entry (fits (led m entries) entry.party entry.step) (led m entries) entry
led_more m [] entry = refl
led_more m (first ∷ entries) entry = led_more (after_entry (fits m first.party first.step) m first) entries entry

-- where entries lead, a step that fits leads on
led_on : (from : World) (entries : List Entry) (m : World) (party : Party) (step : Move) → led from entries ≡ m
    → fits m party step ≡ true → led from (entries ++ record { party = party; step = step } ∷ []) ≡ happens m party step
led_on from entries m party step leads fit =
    let entry : Entry = record { party = party; step = step } in
    led_more from entries entry ∙ ap (λ (w : World). after_entry (fits w party step) w entry) leads ∙ ap
    (λ (b : Bool). after_entry b m entry) fit

-- a receive that is in progress, by the moment of its begin
record IsGoing (m : World) (place first : ℕ) : Type 0 where
  before : World
  came : CameTo before
  lane : SubscriberLaneState
  during : List Entry
  found : slice_get before.subscribers place ≡ Some lane
  may : subscriber_fits lane (Begin call.Receive) ≡ true
  since : first ≡ before.moments
  leads : led (happens before (Subscriber place) (Begin call.Receive)) during ≡ m

-- what is known of receives on the way to these lanes
record Follows (m : World) : Type 0 where
  going : (place : ℕ) (lane : SubscriberLaneState) → slice_get m.subscribers place ≡ Some lane
      → subscriber_is_idle lane.port.call ≡ false → lane.call ≡ name.Receive → IsGoing m place lane.first
  done : AllReceivesTook m

going_on : (m : World) (party : Party) (step : Move) (place first : ℕ) → fits m party step ≡ true → IsGoing m place first
    → IsGoing (happens m party step) place first
going_on m party step place first fit g = record {
  before = g.before;
  came = g.came;
  lane = g.lane;
  during = g.during ++ record { party = party; step = step } ∷ [];
  found = g.found;
  may = g.may;
  since = g.since;
  leads = led_on (happens g.before (Subscriber place) (Begin call.Receive)) g.during m party step g.leads fit;
}

done_on : (m : World) (party : Party) (step : Move) (over : FinishedCall) → fits m party step ≡ true → WasReceived m over
    → WasReceived (happens m party step) over
done_on m party step over fit w =
    let last : Entry = record { party = Subscriber w.place; step = GoOn } in
    let more : List Entry = record { party = party; step = step } ∷ [] in
    let begun : World = happens w.before (Subscriber w.place) (Begin call.Receive) in
    record {
      before = w.before;
      came = w.came;
      place = w.place;
      lane = w.lane;
      during = w.during;
      behind = w.behind ++ more;
      own = w.own;
      found = w.found;
      may = w.may;
      first = w.first;
      last = w.last;
      leads = ap (led begun) (sym (append_assoc w.during (last ∷ w.behind) more))
          ∙ led_on begun (w.during ++ last ∷ w.behind) m party step w.leads fit;
      took = w.took;
    }

-- a call that is recorded at a step
record IsRecorded (party : Party) (called : CallName) (first last : ℕ) (given : Option Answer) (call : FinishedCall) : Type 0 where
  answer : Answer
  gives : given ≡ Some answer
  is : record { party = party; call = called; answer = answer; first = first; last = last } ≡ call

recorded : (party : Party) (called : CallName) (first last : ℕ) (given : Option Answer) (call : FinishedCall)
    → Contains (ended party called first last given) call → IsRecorded party called first last given call
recorded party called first last None call h = absurd (omega (arith, h.1))
recorded party called first last (Some a) call h =
    let one : FinishedCall = record { party = party; call = called; answer = a; first = first; last = last } in
    let none : h.0 ≡ 0 = omega (arith, h.1) in
    record {
      answer = a;
      gives = refl;
      is = ap (λ (k : ℕ). slice_index_or (one ∷ []) k call) (sym none) ∙ h.2;
    }

-- no call of a publisher is a receive
not_receive : (called : CallName) (c : PublisherCall) → publisher_is_idle c ≡ false → IsStageOf called c → called ≡ name.Receive → ⊥
not_receive called publishing.Idle busy is e = absurd (cc busy)
not_receive called (publishing.LoanReclaims at route p) busy is e = absurd (cc (sym is ∙ e))
not_receive called publishing.Lending busy is e = absurd (cc (sym is ∙ e))
not_receive called (publishing.Writing slot word value) busy is e = absurd (cc (sym is ∙ e))
not_receive called (publishing.Written slot) busy is e = absurd (cc (sym is ∙ e))
not_receive called (publishing.Heading slot word value) busy is e = absurd (cc (sym is ∙ e))
not_receive called (publishing.Remembering slot) busy is e = absurd (cc (sym is ∙ e))
not_receive called (publishing.SendReclaims slot at route p) busy is e = absurd (cc (sym is ∙ e))
not_receive called (publishing.Pushing slot at route push delivery) busy is e = absurd (cc (sym is.0 ∙ e))
not_receive called (publishing.Sent slot delivery) busy is e = absurd (cc (sym is ∙ e))
not_receive called (publishing.Dropping slot) busy is e = absurd (cc (sym is ∙ e))

-- a receive that answers is about to answer what it received
given_at_end : (called : CallName) (c : SubscriberCall) (from : ℕ) (a : Answer) → subscriber_answer c from ≡ Some a
    → IsReceiverStageOf called c → called ≡ name.Receive
    → (given : Receipt) × (a ≡ answer.Received given) × (c ≡ subscribing.Received given)
given_at_end called subscribing.Idle from a e is receives = absurd (cc e)
given_at_end called (subscribing.Receiving place route p waits) from a e is receives = absurd (cc e)
given_at_end called (subscribing.Received got) from a e is receives = (got, sym (some_is (answer.Received got) a e), refl)
given_at_end called (subscribing.Reading slot word extent) from a e is receives = absurd (cc e)
given_at_end called (subscribing.WasRead slot) from a e is receives = absurd (cc (sym is ∙ receives))
given_at_end called (subscribing.Releasing place route p) from a e is receives = absurd (cc e)
given_at_end called (subscribing.Released done) from a e is receives = absurd (cc (sym is.1 ∙ receives))

-- a call that a subscriber begins, if it is named so, is a receive
released_name : (moment sample : ℕ) (place : Option ℕ) (route : Option Route) (lane : SubscriberLaneState) → is_route route ≡ true
    → route ≡ route_at place lane → (release_begun moment sample place route lane).call ≡ name.Release sample
released_name moment sample None route lane there e = absurd (cc (sym there ∙ ap is_route e))
released_name moment sample (Some place) None lane there e = absurd (cc there)
released_name moment sample (Some place) (Some route) lane there e = refl

begun_receive : (moment : ℕ) (c : Call) (lane : SubscriberLaneState) → subscriber_fits lane (Begin c) ≡ true
    → (subscriber_begun moment c lane).call ≡ name.Receive → c ≡ call.Receive
begun_receive moment call.LoanUninit lane fit e
    = absurd (cc (and_right (subscriber_is_idle lane.port.call) (subscriber_may lane call.LoanUninit) fit))
begun_receive moment (call.Write loan payload user_header) lane fit e
    = absurd (cc (and_right (subscriber_is_idle lane.port.call) (subscriber_may lane (call.Write loan payload user_header)) fit))
begun_receive moment (call.Send loan) lane fit e
    = absurd (cc (and_right (subscriber_is_idle lane.port.call) (subscriber_may lane (call.Send loan)) fit))
begun_receive moment (call.DropLoan loan) lane fit e
    = absurd (cc (and_right (subscriber_is_idle lane.port.call) (subscriber_may lane (call.DropLoan loan)) fit))
begun_receive moment call.Receive lane fit e = refl
begun_receive moment (call.Read sample) lane fit e = absurd (cc e)
begun_receive moment (call.Release sample) lane fit e =
    absurd (cc (sym (released_name moment sample (place_of sample lane) (route_at (place_of sample lane) lane) lane
    (and_right (subscriber_is_idle lane.port.call) (subscriber_may lane (call.Release sample)) fit) refl) ∙ e))

not_true : (b : Bool) → not b ≡ true → b ≡ false
not_true true h = absurd (cc h)
not_true false h = refl

-- where no subscriber changes and no receive is recorded
same_follows : (m : World) (party : Party) (step : Move) → fits m party step ≡ true → Follows m
    → (happens m party step).subscribers ≡ m.subscribers
    → ((call : FinishedCall) → Contains (happens m party step).finished call → call.call ≡ name.Receive → Contains m.finished call)
    → Follows (happens m party step)
same_follows m party step fit f same old = record {
  going = λ place lane found busy is. going_on m party step place lane.first fit
      (f.going place lane (ap (λ (xs : List SubscriberLaneState). slice_get xs place) (sym same) ∙ found) busy is);
  done = λ call has is. done_on m party step call fit (f.done call (old call has is) is);
}

publisher_begins_subscribers : (m : World) (who : ℕ) (c : Call) (at : Option PublisherLaneState)
    → (publisher_begins m who c at).subscribers ≡ m.subscribers
publisher_begins_subscribers m who c None = refl
publisher_begins_subscribers m who c (Some lane) = refl

publisher_begins_finished : (m : World) (who : ℕ) (c : Call) (at : Option PublisherLaneState)
    → (publisher_begins m who c at).finished ≡ m.finished
publisher_begins_finished m who c None = refl
publisher_begins_finished m who c (Some lane) = refl

publisher_goes_subscribers : (m : World) (who : ℕ) (orders : List (List Placed)) (at : Option PublisherLaneState)
    → (publisher_goes_on (record m { orders = orders }) who at).subscribers ≡ m.subscribers
publisher_goes_subscribers m who orders None = refl
publisher_goes_subscribers m who orders (Some lane) = refl

publisher_goes_old : (m : World) (who : ℕ) (orders : List (List Placed)) (at : Option PublisherLaneState)
    → slice_get m.publishers who ≡ at → publisher_fits_at at GoOn ≡ true → CallsFollow m → (call : FinishedCall)
    → Contains (publisher_goes_on (record m { orders = orders }) who at).finished call → call.call ≡ name.Receive
    → Contains m.finished call
publisher_goes_old m who orders None e fit k call has is = absurd (cc fit)
publisher_goes_old m who orders (Some lane) e fit k call has is = elim (Contains-append_cases m.finished _ call has) [
  | inl before ↦ before
  | inr now ↦
      let r = recorded (Publisher who) lane.call lane.first m.moments _ call now in
      absurd (not_receive lane.call lane.port.call (not_true (publisher_is_idle lane.port.call) fit) (k.publishers who lane e).0
      (ap (λ (x : FinishedCall). x.call) r.is ∙ is))
]

-- a subscriber begins a call
begins_follows : (m : World) (who : ℕ) (c : Call) (at : Option SubscriberLaneState) → slice_get m.subscribers who ≡ at
    → subscriber_fits_at at (Begin c) ≡ true → fits m (Subscriber who) (Begin c) ≡ true → CameTo m → Follows m
    → Follows (happens m (Subscriber who) (Begin c))
begins_follows m who c None e may fit came f = absurd (cc may)
begins_follows m who c (Some lane) e may fit came f = record {
  going = λ place other found busy is. elim (eqb_tells who place) [
    | inl same ↦ subst (λ (i : ℕ). IsGoing (happens m (Subscriber who) (Begin c)) i other.first) same.1
        (own other (some_is begun other (sym (set_same m.subscribers who begun lane e) ∙ ap (slice_get (set m.subscribers who begun))
        same.1 ∙ sym (there place) ∙ found)) is)
    | inr differs ↦ going_on m (Subscriber who) (Begin c) place other.first fit
        (f.going place other (sym (set_other m.subscribers who place begun (λ h. differs.1 (sym h))) ∙ sym (there place) ∙ found) busy is)
  ];
  done = λ call has is. done_on m (Subscriber who) (Begin c) call fit
      (f.done call (subst (λ (xs : List FinishedCall). Contains xs call) (ap (λ (w : World). w.finished) now) has) is);
}
  where
    begun : SubscriberLaneState
    begun = subscriber_begun m.moments c lane

    now : happens m (Subscriber who) (Begin c) ≡ subscriber_begins m who c (Some lane)
    now = ap (subscriber_begins m who c) e

    there : (place : ℕ) → slice_get (happens m (Subscriber who) (Begin c)).subscribers place
        ≡ slice_get (set m.subscribers who begun) place
    there place = ap (λ (w : World). slice_get w.subscribers place) now

    own : (other : SubscriberLaneState) → begun ≡ other → other.call ≡ name.Receive
        → IsGoing (happens m (Subscriber who) (Begin c)) who other.first
    own other same is =
        let receives : c ≡ call.Receive
        = begun_receive m.moments c lane may (ap (λ (x : SubscriberLaneState). x.call) same ∙ is) in
        record {
          before = m;
          came = came;
          lane = lane;
          during = [];
          found = e;
          may = subst (λ (k : Call). subscriber_fits lane (Begin k) ≡ true) receives may;
          since = ap (λ (x : SubscriberLaneState). x.first) (sym same) ∙ begun_first m.moments c lane may;
          leads = ap (λ (k : Call). happens m (Subscriber who) (Begin k)) (sym receives);
        }

-- a receive that ends
ends_now : (m : World) (who : ℕ) (lane : SubscriberLaneState) (over : FinishedCall) → slice_get m.subscribers who ≡ Some lane
    → subscriber_is_idle lane.port.call ≡ false → fits m (Subscriber who) GoOn ≡ true → m.moments ≤ 2 ^ 63 → CallsFollow m
    → IsRecorded (Subscriber who) lane.call lane.first m.moments (subscriber_answer lane.port.call (length m.read)) over
    → lane.call ≡ name.Receive → IsGoing m who lane.first → WasReceived (happens m (Subscriber who) GoOn) over
ends_now m who lane over e busy fit few k r receives g = record {
  before = g.before;
  came = g.came;
  place = who;
  lane = g.lane;
  during = g.during;
  behind = [];
  own = ap (λ (x : FinishedCall). x.party) (sym r.is);
  found = g.found;
  may = g.may;
  first = ap (λ (x : FinishedCall). x.first) (sym r.is) ∙ g.since;
  last = ap (λ (x : FinishedCall). x.last) (sym r.is) ∙ ap (λ (w : World). w.moments) (sym g.leads);
  leads = led_on begun g.during m (Subscriber who) GoOn g.leads fit;
  took = λ small. (
    gives.0,
    ap (λ (x : FinishedCall). x.answer) (sym r.is) ∙ gives.1,
    subst (λ (c : SubscriberCall). Visits g.lane.port.borrowed g.lane.port.most_borrowed 0 false g.lane.port.routes
        (own_takes (λ party. is_receiver party who) begun g.during) c) gives.2
        (receive_takes g.before g.came who g.lane g.during g.found g.may small
        (subst (λ (w : World). w.moments ≤ 2 ^ 63) (sym g.leads) few) (record {
          lane = lane;
          found = ap (λ (w : World). slice_get w.subscribers who) g.leads ∙ e;
          since = g.since;
          busy = busy;
        })),
  );
}
  where
    begun : World
    begun = happens g.before (Subscriber who) (Begin call.Receive)

    gives : (given : Receipt) × (r.answer ≡ answer.Received given) × (lane.port.call ≡ subscribing.Received given)
    gives = given_at_end lane.call lane.port.call (length m.read) r.answer r.gives (k.subscribers who lane e).0 receives

-- a subscriber goes on
goes_follows : (m : World) (who : ℕ) (at : Option SubscriberLaneState) → slice_get m.subscribers who ≡ at
    → subscriber_fits_at at GoOn ≡ true → fits m (Subscriber who) GoOn ≡ true → m.moments ≤ 2 ^ 63 → CallsFollow m → Follows m
    → Follows (happens m (Subscriber who) GoOn)
goes_follows m who None e may fit few k f = absurd (cc may)
goes_follows m who (Some lane) e may fit few k f = record {
  going = λ place other found busy is. elim (eqb_tells who place) [
    | inl same ↦ subst (λ (i : ℕ). IsGoing (happens m (Subscriber who) GoOn) i other.first) same.1
        (own other (some_is after other (sym (set_same m.subscribers who after lane e) ∙ ap (slice_get (set m.subscribers who after))
        same.1 ∙ sym (there place) ∙ found)) is)
    | inr differs ↦ going_on m (Subscriber who) GoOn place other.first fit
        (f.going place other (sym (set_other m.subscribers who place after (λ h. differs.1 (sym h))) ∙ sym (there place) ∙ found) busy is)
  ];
  done = λ call has is. elim (Contains-append_cases m.finished
      (ended (Subscriber who) lane.call lane.first m.moments (subscriber_answer lane.port.call (length m.read))) call
      (subst (λ (xs : List FinishedCall). Contains xs call) (ap (λ (w : World). w.finished) now) has)) [
        | inl old ↦ done_on m (Subscriber who) GoOn call fit (f.done call old is)
        | inr new ↦
            let r = recorded (Subscriber who) lane.call lane.first m.moments (subscriber_answer lane.port.call (length m.read)) call new in
            let receives : lane.call ≡ name.Receive = ap (λ (x : FinishedCall). x.call) r.is ∙ is in
            ends_now m who lane call e inside fit few k r receives (f.going who lane e inside receives)
      ];
}
  where
    after : SubscriberLaneState
    after = subscriber_after (subscriber_given m.table lane) lane

    inside : subscriber_is_idle lane.port.call ≡ false
    inside = not_true (subscriber_is_idle lane.port.call) may

    now : happens m (Subscriber who) GoOn ≡ subscriber_goes_on (placed m (Subscriber who)) who (Some lane)
    now = ap (subscriber_goes_on (placed m (Subscriber who)) who) e

    there : (place : ℕ) → slice_get (happens m (Subscriber who) GoOn).subscribers place ≡ slice_get (set m.subscribers who after) place
    there place = ap (λ (w : World). slice_get w.subscribers place) now

    own : (other : SubscriberLaneState) → after ≡ other → other.call ≡ name.Receive
        → IsGoing (happens m (Subscriber who) GoOn) who other.first
    own other same is =
        subst (λ (n : ℕ). IsGoing (happens m (Subscriber who) GoOn) who n) (ap (λ (x : SubscriberLaneState). x.first) same)
        (going_on m (Subscriber who) GoOn who lane.first fit
        (f.going who lane e inside (ap (λ (x : SubscriberLaneState). x.call) same ∙ is)))

follows_on : (m : World) (party : Party) (step : Move) → fits m party step ≡ true → m.moments ≤ 2 ^ 63 → CameTo m → Follows m
    → Follows (happens m party step)
follows_on m (Publisher who) (Begin c) fit few came f =
    same_follows m (Publisher who) (Begin c) fit f (publisher_begins_subscribers m who c (slice_get m.publishers who))
    (λ call has is. subst (λ (xs : List FinishedCall). Contains xs call)
    (publisher_begins_finished m who c (slice_get m.publishers who)) has)
follows_on m (Publisher who) GoOn fit few came f =
    same_follows m (Publisher who) GoOn fit f
    (publisher_goes_subscribers m who (placed m (Publisher who)).orders (slice_get m.publishers who))
    (publisher_goes_old m who (placed m (Publisher who)).orders (slice_get m.publishers who) refl fit (((came_kept m came).0).calls few))
follows_on m (Subscriber who) (Begin c) fit few came f = begins_follows m who c (slice_get m.subscribers who) refl fit fit came f
follows_on m (Subscriber who) GoOn fit few came f
    = goes_follows m who (slice_get m.subscribers who) refl fit fit few (((came_kept m came).0).calls few) f

-- moments only grow
run_past : (m : World) (entries : List Entry) (made : ℕ) (n : World) → RunsTo m entries made n → n.moments ≤ 2 ^ 63
    → m.moments ≤ n.moments
run_past m [] made n h few = omega (arith, ap (λ (w : World). w.moments) h.1)
run_past m (entry ∷ entries) made n (inl h) few = run_past m entries made n h.1 few
run_past m (entry ∷ entries) made n (inr (inl h)) few =
    let next = happens_moments m entry.party entry.step h.0 in
    let rest = run_past (happens m entry.party entry.step) entries (h.1).0 n (h.1).2 few in
    omega (arith, next, rest, few)
run_past m (entry ∷ entries) made n (inr (inr h)) few = run_past m entries made n h.2 few

run_follows : (m : World) (entries : List Entry) (made : ℕ) (n : World) → RunsTo m entries made n → n.moments ≤ 2 ^ 63 → CameTo m
    → Follows m → Follows n
run_follows m [] made n h few came f = subst Follows (sym h.1) f
run_follows m (entry ∷ entries) made n (inl h) few came f = run_follows m entries made n h.1 few came f
run_follows m (entry ∷ entries) made n (inr (inl h)) few came f =
    let past = run_past m (entry ∷ entries) made n (inr (inl h)) few in
    run_follows (happens m entry.party entry.step) entries (h.1).0 n (h.1).2 few (came_on m entry.party entry.step came h.0)
    (follows_on m entry.party entry.step h.0 (omega (arith, past, few)) came f)
run_follows m (entry ∷ entries) made n (inr (inr h)) few came f = run_follows m entries made n h.2 few came f

found_first : (m : World) (fs : List Found) (n : World) → AreFound m fs n → m.moments ≡ 0 → n.moments ≡ 0
found_first m [] n h zero = ap (λ (w : World). w.moments) h ∙ zero
found_first m (f ∷ fs) n h zero = found_first (with_found m f) fs n h.1 (found_moments m f ∙ zero)

-- before the first step nobody is inside a call, and none ended
fresh_follows : (m : World) → IsFresh m → Follows m
fresh_follows m fresh = record {
  going = λ place lane found busy is. absurd
      (cc (sym busy ∙ ap subscriber_is_idle (fresh.subscribers place lane found).idle));
  done = λ call has is.
      let none = subst (λ (xs : List FinishedCall). Contains xs call) fresh.finished has in
      absurd (omega (arith, none.1));
}

pub finished_receives_follow : FinishedReceivesFollow
finished_receives_follow m came few =
    let kept : IsKept came.begun = all_found (start came.sizes) came.found came.begun came.finds
    (start_kept came.sizes came.some came.ports came.small) in
    let fresh : IsFresh came.begun = kept.fresh (found_first (start came.sizes) came.found came.begun came.finds refl) in
    (run_follows came.begun came.schedule came.made m came.runs few (record {
      sizes = came.sizes;
      some = came.some;
      ports = came.ports;
      small = came.small;
      found = came.found;
      begun = came.begun;
      finds = came.finds;
      schedule = [];
      made = 0;
      runs = (refl, refl);
    }) (fresh_follows came.begun fresh)).done

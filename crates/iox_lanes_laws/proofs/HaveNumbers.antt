-- Each message of an order has a number: what is put has that of its send, and what is left out or taken was put or found.
use Rattle.std.proofs.Common.{ℕ, zero, suc, ◌≡◌, ◌+◌, ◌-◌, ◌<◌, ◌≤◌, ◌^◌, ◌==◌, ◌&&◌, Bool, true, false, if◌then◌else◌, nat_lt, List, []}
use Rattle.std.proofs.Common.{◌∷◌, ◌++◌, length, map, take, drop, get_or, slice_get, slice_index, None, Some, refl, sym, ◌∙◌, ap}
use Rattle.std.proofs.Common.{subst, inl, inr, arith}
use Rattle.std.specs.List.{All, AllZip}
use Rattle.std.proofs.lemmas.Bool.{cases_lt, le-ltb, lt-ltb}
use Rattle.std.proofs.lemmas.Bool.Decides.{eqb_tells}
use Rattle.std.proofs.lemmas.List.Elements.{All-append, All-cons, All-head, All-nil, All-tail, All-weaker}
use Rattle.std.proofs.lemmas.Option.{get_or_from_slice_get, slice_get-get_or, slice_get_within}
use Rattle.iox_lanes_machine.specs.LanesBase.Publishing.{publisher_is_idle}
use Rattle.iox_lanes_machine.specs.LanesBase.declared.calls.publisher.Delivery.{Delivery}
use Rattle.iox_lanes_machine.specs.LanesBase.declared.calls.publisher.PublisherCall.{PublisherCall}
use Rattle.iox_lanes_machine.specs.LanesBase.declared.calls.publisher.PublisherCall.TheVariants as publishing
use Rattle.iox_lanes_machine.specs.LanesBase.declared.calls.route.Route.{Route}
use Rattle.iox_lanes_machine.specs.LanesParties.Parties.{PublisherLaneState}
use Rattle.iox_lanes_machine.specs.LanesParties.declared.call.CallName.TheVariants as name
use Rattle.iox_lanes_machine.specs.LanesParties.declared.call.Entry.{Entry}
use Rattle.iox_lanes_machine.specs.LanesParties.declared.call.FinishedCall.{FinishedCall}
use Rattle.iox_lanes_machine.specs.LanesParties.declared.call.Party.{Party}
use Rattle.iox_lanes_machine.specs.LanesParties.declared.call.Party.TheVariants.{Publisher, Subscriber}
use Rattle.iox_lanes_machine.specs.QueuesSteps.Ends.{overflows, push_idle, push_value, put_in_hand}
use Rattle.iox_lanes_machine.specs.QueuesSteps.Order.{Acts, IsAnswered, PutInside, PutNow, Rises, acts_of}
use Rattle.iox_lanes_machine.specs.QueuesSteps.Order.{after_act, push_call, put_of, puts}
use Rattle.iox_lanes_machine.specs.QueuesSteps.declared.order.Act.{Act}
use Rattle.iox_lanes_machine.specs.QueuesSteps.declared.order.Act.TheVariants.{Put, Take}
use Rattle.iox_lanes_machine.specs.QueuesSteps.declared.order.Placed.{Placed}
use Rattle.iox_lanes_machine.specs.QueuesSteps.declared.order.PopAnswer.TheVariants.{Got, Saw}
use Rattle.iox_lanes_machine.specs.QueuesSteps.declared.order.PushAnswer.{PushAnswer}
use Rattle.iox_lanes_machine.specs.QueuesSteps.declared.order.PushAnswer.TheVariants.{Kept, LeftOut, Refused}
use Rattle.iox_lanes_machine.specs.QueuesSteps.declared.order.PushCall.{PushCall}
use Rattle.iox_lanes_machine.specs.QueuesSteps.declared.rings.ends.Push.{Push}
use Rattle.iox_lanes_machine.specs.QueuesSteps.declared.rings.ends.Push.TheVariants as push
use Rattle.iox_lanes_machine.specs.QueuesSteps.declared.rings.overflowing.push.Push.TheVariants as overflowing_push
use Rattle.iox_lanes_machine.specs.QueuesSteps.declared.rings.refusing.push.Push.TheVariants as refusing_push
use Rattle.iox_lanes_machine.specs.Calls.{IsStageOf}
use Rattle.iox_lanes_machine.specs.Kept.{IsKept}
use Rattle.iox_lanes_machine.specs.Links.{LinkState}
use Rattle.iox_lanes_machine.specs.Sends.{ArePut, IsPutAt, IsPushing, PutSoFar, SendsPut, done_at, in_hand_at, is_send, is_sender}
use Rattle.iox_lanes_machine.specs.Sends.{puts_at, read_at, sends_of}
use Rattle.iox_lanes_machine.specs.Rings.{push_on}
use Rattle.iox_lanes_machine.specs.World.{World}
use Rattle.iox_lanes_machine.proofs.Connected.{sends_connected}
use Rattle.iox_lanes_machine.proofs.Ends.{some_is, push_off}
use Rattle.iox_lanes_machine.proofs.Paces.{came_kept}
use Rattle.iox_lanes_machine.proofs.Puts.{idle_hand, rise_le}
use Rattle.iox_lanes_machine.proofs.SubscriberUses.{recorded}
use Rattle.iox_lanes_machine.proofs.Whole.{happens_keeps}
use Rattle.iox_lanes_laws.specs.HaveNumbers.{OrderHasNumbers, HasNumber, OrdersHaveNumbers, slots_named}
use Rattle.iox_lanes_laws.specs.Messages.{MessageState}
use Rattle.iox_lanes_laws.specs.Recorded.{RecordState, recorded_after, RecordsRun}
use Rattle.iox_lanes_laws.proofs.Mail.{zip_at}
use Rattle.iox_lanes_laws.proofs.NumberedRuns.{links_stay}
use Rattle.iox_lanes_laws.proofs.SentNumbers.{Has, SentHave, at_behind, found_has, has_later, has_number}
use Rattle.iox_lanes_laws.proofs.SentNumbers.{run_have, run_keeps, start_have}

-- a send of a publisher is one of the calls that ended
pub record IsAmongEnded (who : ℕ) (finished : List FinishedCall) (send : FinishedCall) : Type 0 where
  pub at : ℕ
  pub found : slice_get finished at ≡ Some send
  pub own : send.party ≡ Publisher who

own_party : (party : Party) (who : ℕ) (b : Bool) → is_sender party who && b ≡ true → party ≡ Publisher who
own_party (Subscriber place) who b h = absurd (cc h)
own_party (Publisher place) who b h = elim (eqb_tells place who) [
  | inl same ↦ ap (λ (n : ℕ). Publisher n) same.1
  | inr other ↦ absurd (cc (sym (ap (λ (t : Bool). t && b) other.0) ∙ h))
]

later_ended : (who : ℕ) (call : FinishedCall) (finished : List FinishedCall) (send : FinishedCall) → IsAmongEnded who finished send
    → IsAmongEnded who (call ∷ finished) send
later_ended who call finished send h = record { at = suc h.at; found = h.found; own = h.own }

pub among_ended : (who : ℕ) (finished : List FinishedCall) (number : ℕ) (send : FinishedCall)
    → slice_get (sends_of who finished) number ≡ Some send → IsAmongEnded who finished send
among_ended who [] number send h = absurd (cc h)
among_ended who (call ∷ finished) number send h
    = by_test (λ k. among_ended who finished k send) (is_sender call.party who && is_send call.answer) refl number h
  where
    by_test : ((k : ℕ) → slice_get (sends_of who finished) k ≡ Some send → IsAmongEnded who finished send) → (b : Bool)
        → is_sender call.party who && is_send call.answer ≡ b → (number : ℕ)
        → slice_get ((if b then call ∷ [] else []) ++ sends_of who finished) number ≡ Some send
        → IsAmongEnded who (call ∷ finished) send
    by_test before true is zero h = record {
      at = 0;
      found = h;
      own = subst (λ (x : FinishedCall). x.party ≡ Publisher who) (some_is call send h)
          (own_party call.party who (is_send call.answer) is);
    }
    by_test before true is (suc number) h = later_ended who call finished send (before number h)
    by_test before false is number h = later_ended who call finished send (before number h)

-- what a push has in hand is its value
hand_value : (read : ℕ) (p : Push) (k : ℕ) (put : PutNow) → slice_get (put_in_hand read p) k ≡ Some put → put.value ≡ push_value p
hand_value read (push.Overflowing overflowing_push.Idle) k put h = absurd (cc h)
hand_value read (push.Overflowing (overflowing_push.Begun limit value)) k put h = absurd (cc h)
hand_value read (push.Overflowing (overflowing_push.SawWrite limit value write next)) k put h = absurd (cc h)
hand_value read (push.Overflowing (overflowing_push.SawRead limit value write next seen)) k put h = absurd (cc h)
hand_value read (push.Overflowing (overflowing_push.Filled limit value write next seen)) k put h = absurd (cc h)
hand_value read (push.Overflowing (overflowing_push.Full value seen next)) k put h = if_one (read == seen) value k put h
  where
    if_one : (b : Bool) (value k : ℕ) (put : PutNow)
        → slice_get (if b then [] else record { value = value; answer = Kept } ∷ []) k ≡ Some put → put.value ≡ value
    if_one true value k put h = absurd (cc h)
    if_one false value zero put h = ap (λ (x : PutNow). x.value) (sym (some_is (record { value = value; answer = Kept }) put h))
    if_one false value (suc k) put h = absurd (cc h)
hand_value read (push.Overflowing (overflowing_push.SawOldest value seen next oldest)) k put h = if_one (read == seen) value k put h
  where
    if_one : (b : Bool) (value k : ℕ) (put : PutNow)
        → slice_get (if b then [] else record { value = value; answer = Kept } ∷ []) k ≡ Some put → put.value ≡ value
    if_one true value k put h = absurd (cc h)
    if_one false value zero put h = ap (λ (x : PutNow). x.value) (sym (some_is (record { value = value; answer = Kept }) put h))
    if_one false value (suc k) put h = absurd (cc h)
hand_value read (push.Overflowing (overflowing_push.Pushed value answer)) zero put h
    = ap (λ (x : PutNow). x.value) (sym (some_is (record { value = value; answer = answer }) put h))
hand_value read (push.Overflowing (overflowing_push.Pushed value answer)) (suc k) put h = absurd (cc h)
hand_value read (push.Refusing refusing_push.Idle) k put h = absurd (cc h)
hand_value read (push.Refusing (refusing_push.Begun limit value)) k put h = absurd (cc h)
hand_value read (push.Refusing (refusing_push.SawWrite limit value write next)) k put h = absurd (cc h)
hand_value read (push.Refusing (refusing_push.SawRoom value write next)) k put h = absurd (cc h)
hand_value read (push.Refusing (refusing_push.Filled value next)) k put h = absurd (cc h)
hand_value read (push.Refusing (refusing_push.Pushed value answer)) zero put h
    = ap (λ (x : PutNow). x.value) (sym (some_is (record { value = value; answer = answer }) put h))
hand_value read (push.Refusing (refusing_push.Pushed value answer)) (suc k) put h = absurd (cc h)

-- of two lists of as many, what stands in the second stands beside something of the first
record IsBeside (hand : List PutNow) (first last : ℕ) (put : PushCall) : Type 0 where
  k : ℕ
  now : PutNow
  there : slice_get hand k ≡ Some now
  inside : PutInside (push_call first last now) put

beside : (hand : List PutNow) (first last : ℕ) (ps : List PushCall) (k : ℕ) (put : PushCall)
    → AllZip PutInside (map (push_call first last) hand) ps → slice_get ps k ≡ Some put → IsBeside hand first last put
beside hand first last [] k put h e = absurd (cc e)
beside [] first last (p ∷ ps) k put h e = absurd h
beside (now ∷ hand) first last (p ∷ ps) zero put h e
    = record {
      k = 0;
      now = now;
      there = refl;
      inside = subst (λ (x : PushCall). PutInside (push_call first last now) x) (some_is p put e) h.0;
    }
beside (now ∷ hand) first last (p ∷ ps) (suc k) put h e =
    let rest = beside hand first last ps k put h.1 e in
    record { k = suc rest.k; now = rest.now; there = rest.there; inside = rest.inside }

dropped : (ps : List PushCall) (few k : ℕ) (put : PushCall) → few ≤ k → slice_get ps k ≡ Some put
    → slice_get (drop few ps) (k - few) ≡ Some put
dropped ps zero k put le h = ap (slice_get ps) (omega arith) ∙ h
dropped [] (suc few) k put le h = absurd (cc h)
dropped (p ∷ ps) (suc few) zero put le h = absurd (omega (arith, le))
dropped (p ∷ ps) (suc few) (suc k) put le h =
    let next : suc k - suc few ≡ k - few = omega (arith, le) in
    ap (slice_get (drop few ps)) next ∙ dropped ps few k put (omega (arith, le)) h

taken : (routes : List Route) (place few : ℕ) (route : Route) → slice_get routes place ≡ Some route → place < few
    → slice_get (take few routes) place ≡ Some route
taken routes place zero route h below = absurd (omega (arith, below))
taken [] place (suc few) route h below = absurd (cc h)
taken (r ∷ routes) zero (suc few) route h below = h
taken (r ∷ routes) (suc place) (suc few) route h below = taken routes place few route h (omega (arith, below))

-- how many puts a push has in hand
hand_few : (read : ℕ) (p : Push) → length (put_in_hand read p) ≤ 1
hand_few read (push.Overflowing overflowing_push.Idle) = omega arith
hand_few read (push.Overflowing (overflowing_push.Begun limit value)) = omega arith
hand_few read (push.Overflowing (overflowing_push.SawWrite limit value write next)) = omega arith
hand_few read (push.Overflowing (overflowing_push.SawRead limit value write next seen)) = omega arith
hand_few read (push.Overflowing (overflowing_push.Filled limit value write next seen)) = omega arith
hand_few read (push.Overflowing (overflowing_push.Full value seen next)) = if_one (read == seen) value
  where
    if_one : (b : Bool) (value : ℕ) → length {A = PutNow} (if b then [] else record { value = value; answer = Kept } ∷ []) ≤ 1
    if_one true value = omega arith
    if_one false value = omega arith
hand_few read (push.Overflowing (overflowing_push.SawOldest value seen next oldest)) = if_one (read == seen) value
  where
    if_one : (b : Bool) (value : ℕ) → length {A = PutNow} (if b then [] else record { value = value; answer = Kept } ∷ []) ≤ 1
    if_one true value = omega arith
    if_one false value = omega arith
hand_few read (push.Overflowing (overflowing_push.Pushed value answer)) = omega arith
hand_few read (push.Refusing refusing_push.Idle) = omega arith
hand_few read (push.Refusing (refusing_push.Begun limit value)) = omega arith
hand_few read (push.Refusing (refusing_push.SawWrite limit value write next)) = omega arith
hand_few read (push.Refusing (refusing_push.SawRoom value write next)) = omega arith
hand_few read (push.Refusing (refusing_push.Filled value next)) = omega arith
hand_few read (push.Refusing (refusing_push.Pushed value answer)) = omega arith

-- what each ended send of a publisher has of its slot while it lasts, by its number among them
abbrev EndedHave : World → ℕ → (ℕ → ℕ → ℕ → Type 0) → Type 0
EndedHave m who P = (number : ℕ) (send : FinishedCall) → slice_get (sends_of who m.finished) number ≡ Some send → (slot : ℕ)
    → send.call ≡ name.Send slot → (moment : ℕ) → send.first ≤ moment → moment ≤ send.last → P number slot moment

-- and what the one has that goes on, from its begin on
abbrev GoingHas : World → ℕ → PublisherLaneState → (ℕ → ℕ → ℕ → Type 0) → Type 0
GoingHas m who lane P = (slot : ℕ) → publisher_is_idle lane.port.call ≡ false → lane.call ≡ name.Send slot → (moment : ℕ)
    → lane.first ≤ moment → P (length (sends_of who m.finished)) slot moment

-- a put at a connection of a publisher has what its send has
module _ (m : World) (who : ℕ) (lane : PublisherLaneState) (P : ℕ → ℕ → ℕ → Type 0) (ended_have : EndedHave m who P)
    (going_has : GoingHas m who lane P) (sends : SendsPut m who lane.fails lane.port.routes lane.first lane.port.call)
    (stage : IsStageOf lane.call lane.port.call) (place : ℕ) (route : Route) (at : slice_get lane.port.routes place ≡ Some route)
    (number : ℕ) (put : PushCall) (there : slice_get (puts_at m.orders route) number ≡ Some put) where
  abbrev ended_so_far : ℕ
  ended_so_far = length (sends_of who m.finished)

  abbrev Wanted : Type 0
  Wanted = P number put.value put.first

  -- it is the one that a send has there
  by_put : (slot first last : ℕ) (answer : PushAnswer) → IsPutAt m.orders number slot first last route answer
      → ((moment : ℕ) → first ≤ moment → moment ≤ last → P number slot moment) → Wanted
  by_put slot first last answer is has =
      let same : is.put ≡ put = some_is is.put put (sym is.found ∙ there) in
      subst (λ (x : PushCall). P number x.value x.first) same
      (subst (λ (s : ℕ). P number s (is.put).first) (sym is.value) (has (is.put).first (is.inside).begun (is.inside).not_ended))

  -- of a send that ended
  by_ended : number < ended_so_far → Wanted
  by_ended below =
      let some = has_one (sends_of who m.finished) number below in
      let send : FinishedCall = some.0 in
      let is = sends.sent number send some.1 in
      let one = zip_at (IsPutAt m.orders number is.slot send.first send.last) lane.port.routes (is.puts).answers place route
      (is.puts).puts at in
      by_put is.slot send.first send.last one.0 one.1 (ended_have number send some.1 is.slot is.asked)
    where
      has_one : (xs : List FinishedCall) (k : ℕ) → k < length xs → (x : FinishedCall) × (slice_get xs k ≡ Some x)
      has_one [] k lt = absurd (omega (arith, lt))
      has_one (x ∷ xs) zero lt = (x, refl)
      has_one (x ∷ xs) (suc k) lt = has_one xs k (omega (arith, lt))

  -- what the send that goes on has
  own_has : (slot : ℕ) → number ≡ ended_so_far → publisher_is_idle lane.port.call ≡ false → lane.call ≡ name.Send slot → (moment : ℕ)
      → lane.first ≤ moment → P number slot moment
  own_has slot same inside asked moment begun
      = subst (λ (n : ℕ). P n slot moment) (sym same) (going_has slot inside asked moment begun)

  -- of the send that goes on, which has put it at a connection of some
  by_going : (slot last : ℕ) (delivery : Delivery) (routes : List Route) → slice_get routes place ≡ Some route → number ≡ ended_so_far
      → ArePut m.orders routes ended_so_far slot lane.first last delivery → publisher_is_idle lane.port.call ≡ false
      → lane.call ≡ name.Send slot → Wanted
  by_going slot last delivery routes here same are inside asked =
      let one = zip_at (IsPutAt m.orders ended_so_far slot lane.first last) routes are.answers place route are.puts here in
      by_put slot lane.first last one.0
      (subst (λ (n : ℕ). IsPutAt m.orders n slot lane.first last route one.0) (sym same) one.1)
      (λ moment begun not_ended. own_has slot same inside asked moment begun)

  -- or has it in hand
  by_hand : (slot since : ℕ) (p : Push) → number ≡ ended_so_far → push_value p ≡ slot → lane.first ≤ since
      → AllZip PutInside (map (push_call since m.moments) (put_in_hand (read_at m.table route) p))
      (drop ended_so_far (puts_at m.orders route))
      → publisher_is_idle lane.port.call ≡ false → lane.call ≡ name.Send slot → Wanted
  by_hand slot since p same value begun here inside asked =
      let own = beside (put_in_hand (read_at m.table route) p) since m.moments (drop ended_so_far (puts_at m.orders route))
      (number - ended_so_far) put here
      (dropped (puts_at m.orders route) ended_so_far number put (omega (arith, same)) there) in
      let is : slot ≡ put.value = sym value ∙ sym (hand_value (read_at m.table route) p own.k own.now own.there)
      ∙ (own.inside).answer.same_value in
      subst (λ (s : ℕ). P number s put.first) is
      (own_has slot same inside asked put.first (omega (arith, begun, (own.inside).inside.begun)))

  all_there : number < length (puts_at m.orders route)
  all_there = slice_get_within (puts_at m.orders route) number put there

  none_in_hand : (c : PublisherCall) → push_on route.connection route.kind c ≡ push_idle route.kind → in_hand_at m.table route c ≡ 0
  none_in_hand c idle = ap (λ (p : Push). length (put_in_hand (read_at m.table route) p)) idle
      ∙ ap (λ (xs : List PutNow). length xs) (idle_hand (read_at m.table route) route.kind)

  -- none stands after those of the sends that ended
  none_more : (c : PublisherCall) → length (puts_at m.orders route) ≡ ended_so_far + done_at place c + in_hand_at m.table route c
      → done_at place c ≡ 0 → push_on route.connection route.kind c ≡ push_idle route.kind → ended_so_far ≤ number → ⊥
  none_more c all done idle past = absurd (omega (arith, all_there, all, done, none_in_hand c idle, past))

  -- or one alone does
  one_more : (c : PublisherCall) → length (puts_at m.orders route) ≡ ended_so_far + done_at place c + in_hand_at m.table route c
      → done_at place c ≡ 1 → push_on route.connection route.kind c ≡ push_idle route.kind → ended_so_far ≤ number → number ≡ ended_so_far
  one_more c all done idle past = omega (arith, all_there, all, done, none_in_hand c idle, past)

  by_push : (slot here : ℕ) (route' : Route) (p : Push) (delivery : Delivery)
      → IsPushing m.orders lane.port.routes ended_so_far lane.first m.moments slot here (read_at m.table route') route' p delivery
      → length (puts_at m.orders route) ≡ ended_so_far + done_at place (publishing.Pushing slot here route' p delivery)
      + in_hand_at m.table route (publishing.Pushing slot here route' p delivery)
      → publisher_is_idle lane.port.call ≡ false → lane.call ≡ name.Send slot → ended_so_far ≤ number → Wanted
  by_push slot here route' p delivery is all inside asked past =
      let c : PublisherCall = publishing.Pushing slot here route' p delivery in
      let apart : (route'.connection ≡ route.connection → ⊥) → push_on route.connection route.kind c ≡ push_idle route.kind
      = λ other. push_off route.connection route.kind c (λ same. other (some_is route'.connection route.connection same)) in
      let one_place : route'.connection ≡ route.connection → place ≡ here
      = λ same. (sends.connections).once place here route route' at is.at (sym same) in
      elim (cases_lt place here) [
        | inl below ↦
            let done : done_at place c ≡ 1 = ap (λ (b : Bool). if b then 1 else 0) (lt-ltb place here below) in
            by_going slot is.since delivery (take here lane.port.routes) (taken lane.port.routes place here route at below)
            (one_more c all done (apart (λ same. absurd (omega (arith, below, one_place same)))) past) is.before inside asked
        | inr not ↦
            let done : done_at place c ≡ 0 = ap (λ (b : Bool). if b then 1 else 0) (le-ltb place here not) in
            elim (eqb_tells route'.connection route.connection) [
              | inl same ↦
                  let same_route : route' ≡ route = some_is route' route
                  (sym is.at ∙ ap (slice_get lane.port.routes) (sym (one_place same.1)) ∙ at) in
                  let own : number ≡ ended_so_far = omega (
                    arith,
                    all_there,
                    all,
                    done,
                    hand_few (read_at m.table route) (push_on route.connection route.kind c),
                    past,
                  ) in
                  by_hand slot is.since p own is.value
                  (rise_le m.orders ended_so_far lane.first (take here lane.port.routes) is.since (is.before).in_order)
                  (subst (λ (x : Route). AllZip PutInside (map (push_call is.since m.moments) (put_in_hand (read_at m.table x) p))
                  (drop ended_so_far (puts_at m.orders x))) same_route is.here) inside asked
              | inr other ↦ absurd (none_more c all done (apart other.1) past)
            ]
      ]

  by_call : (c : PublisherCall) → PutSoFar m.table m.orders lane.port.routes ended_so_far lane.first m.moments c
      → length (puts_at m.orders route) ≡ ended_so_far + done_at place c + in_hand_at m.table route c
      → IsStageOf lane.call c → publisher_is_idle lane.port.call ≡ publisher_is_idle c → ended_so_far ≤ number → Wanted
  by_call publishing.Idle so_far all asked idle past = absurd (none_more publishing.Idle all refl refl past)
  by_call (publishing.LoanReclaims at' route' pop) so_far all asked idle past
      = absurd (none_more (publishing.LoanReclaims at' route' pop) all refl refl past)
  by_call publishing.Lending so_far all asked idle past = absurd (none_more publishing.Lending all refl refl past)
  by_call (publishing.Writing slot word value) so_far all asked idle past
      = absurd (none_more (publishing.Writing slot word value) all refl refl past)
  by_call (publishing.Written slot) so_far all asked idle past = absurd (none_more (publishing.Written slot) all refl refl past)
  by_call (publishing.Heading slot word value) so_far all asked idle past
      = absurd (none_more (publishing.Heading slot word value) all refl refl past)
  by_call (publishing.Remembering slot) so_far all asked idle past = absurd (none_more (publishing.Remembering slot) all refl refl past)
  by_call (publishing.SendReclaims slot at' route' pop) so_far all asked idle past
      = absurd (none_more (publishing.SendReclaims slot at' route' pop) all refl refl past)
  by_call (publishing.Pushing slot here route' p delivery) so_far all asked idle past
      = by_push slot here route' p delivery so_far all idle asked.0 past
  by_call (publishing.Sent slot delivery) so_far all asked idle past
      = by_going slot m.moments delivery lane.port.routes at (one_more (publishing.Sent slot delivery) all refl refl past) so_far idle asked
  by_call (publishing.Dropping slot) so_far all asked idle past = absurd (none_more (publishing.Dropping slot) all refl refl past)

  put_has : Wanted
  put_has = elim (cases_lt number ended_so_far) [
    | inl below ↦ by_ended below
    | inr past ↦ by_call lane.port.call sends.so_far (sends.no_more place route at) stage refl past
  ]

-- so each put at a connection has what its send has
pub put_at_has : (m : World) → IsKept m → m.moments ≤ 2 ^ 63 → (connection : ℕ) (link : LinkState) (order : List Placed)
    → slice_get m.links connection ≡ Some link → slice_get m.orders connection ≡ Some order → (P : ℕ → ℕ → ℕ → Type 0)
    → EndedHave m link.publisher P
    → ((lane : PublisherLaneState) → slice_get m.publishers link.publisher ≡ Some lane → GoingHas m link.publisher lane P)
    → (number : ℕ) (put : PushCall) → slice_get (puts order) number ≡ Some put → P number put.value put.first
put_at_has m k few connection link order linked ordered P ended_have going_has number put there =
    let r = recorded m connection link order linked ordered (sends_connected m (k.sends few)) (k.uses few) 0 in
    let same : get_or m.orders (r.route).connection [] ≡ order
    = ap (λ (n : ℕ). get_or m.orders n []) r.same ∙ get_or_from_slice_get m.orders connection order [] ordered in
    put_has m link.publisher r.lane P ended_have (going_has r.lane r.found) (k.sends few link.publisher r.lane r.found)
    ((k.calls few).publishers link.publisher r.lane r.found).0 r.place r.route r.at number put
    (subst (λ (o : List Placed). slice_get (puts o) number ≡ Some put) (sym same) there)

-- each put at a connection has a message by its moment
abbrev PutsHave : List MessageState → List Placed → Type 0
PutsHave ms order = (number : ℕ) (put : PushCall) → slice_get (puts order) number ≡ Some put → Has ms put.value put.first

puts_have : (m : World) (ms : List MessageState) → IsKept m → m.moments ≤ 2 ^ 63 → SentHave m ms → (connection : ℕ) (link : LinkState)
    (order : List Placed) → slice_get m.links connection ≡ Some link → slice_get m.orders connection ≡ Some order → PutsHave ms order
puts_have m ms k few have connection link order linked ordered =
    put_at_has m k few connection link order linked ordered (λ number slot moment. Has ms slot moment)
    (λ number send found slot asked moment begun not_ended.
    let ended = among_ended link.publisher m.finished number send found in
    has_later ms slot send.first moment begun (have.ended ended.at link.publisher slot send ended.found ended.own asked))
    (λ lane found slot inside asked moment begun.
    has_later ms slot lane.first moment begun (have.going link.publisher slot lane found inside asked))

-- what is left out or taken was put or found before
module _ (ms : List MessageState) where
  abbrev HaveBy : ℕ → List ℕ → Type 0
  HaveBy moment slots = All (λ (slot : ℕ). Has ms slot moment) slots

  one_by : (moment slot : ℕ) → Has ms slot moment → HaveBy moment (slot ∷ [])
  one_by moment slot h = All-cons (λ (s : ℕ). Has ms s moment) slot [] h (All-nil (λ (s : ℕ). Has ms s moment))

  more_by : (moment slot : ℕ) (waiting : List ℕ) → HaveBy moment waiting → Has ms slot moment → HaveBy moment (waiting ++ slot ∷ [])
  more_by moment slot waiting all h = All-append (λ (s : ℕ). Has ms s moment) waiting (slot ∷ []) all (one_by moment slot h)

  rest_by : (moment : ℕ) (waiting : List ℕ) → HaveBy moment waiting → HaveBy moment (drop 1 waiting)
  rest_by moment [] all = All-nil (λ (s : ℕ). Has ms s moment)
  rest_by moment (x ∷ xs) all = All-tail (λ (s : ℕ). Has ms s moment) x xs all

  first_by : (moment : ℕ) (waiting : List ℕ) (slot : ℕ) → HaveBy moment (waiting ++ slot ∷ [])
      → Has ms (slice_index (waiting ++ slot ∷ []) 0) moment
  first_by moment [] slot all = All-head (λ (s : ℕ). Has ms s moment) slot [] all
  first_by moment (x ∷ xs) slot all = All-head (λ (s : ℕ). Has ms s moment) x (xs ++ slot ∷ []) all

  oldest_by : (moment slot : ℕ) (waiting : List ℕ) → Some slot ≡ slice_get waiting 0 → HaveBy moment waiting → Has ms slot moment
  oldest_by moment slot [] is all = absurd (cc is)
  oldest_by moment slot (x ∷ xs) is all = subst (λ (s : ℕ). Has ms s moment) (sym (some_is slot x is))
      (All-head (λ (s : ℕ). Has ms s moment) x xs all)

  left_by : (moment slot oldest : ℕ) (o fits : Bool) (waiting : List ℕ)
      → LeftOut oldest ≡ (if fits then Kept else (if o then LeftOut (slice_index (waiting ++ slot ∷ []) 0) else Refused))
      → HaveBy moment (waiting ++ slot ∷ []) → Has ms oldest moment
  left_by moment slot oldest o true waiting is all = absurd (cc is)
  left_by moment slot oldest false false waiting is all = absurd (cc is)
  left_by moment slot oldest true false waiting is all =
      let same : oldest ≡ slice_index (waiting ++ slot ∷ []) 0 = cc is in
      subst (λ (s : ℕ). Has ms s moment) (sym same) (first_by moment waiting slot all)

  -- what an act names
  named_by : (o : Bool) (limit moment : ℕ) (waiting : List ℕ) (act : Act) → IsAnswered o limit waiting act → HaveBy moment waiting
      → ((put : PutNow) → slice_get (put_of act) 0 ≡ Some put → Has ms put.value moment) → HaveBy moment (slots_named act)
  named_by o limit moment waiting (Put value Kept) is all own = one_by moment value (own (record { value = value; answer = Kept }) refl)
  named_by o limit moment waiting (Put value (LeftOut oldest)) is all own =
      let now = own (record { value = value; answer = LeftOut oldest }) refl in
      All-cons (λ (s : ℕ). Has ms s moment) value (oldest ∷ []) now (one_by moment oldest
      (left_by moment value oldest o (nat_lt (length waiting) limit) waiting is (more_by moment value waiting all now)))
  named_by o limit moment waiting (Put value Refused) is all own
      = one_by moment value (own (record { value = value; answer = Refused }) refl)
  named_by o limit moment waiting (Take (Got None)) is all own = All-nil (λ (s : ℕ). Has ms s moment)
  named_by o limit moment waiting (Take (Got (Some slot))) is all own = one_by moment slot (oldest_by moment slot waiting is all)
  named_by o limit moment waiting (Take (Saw some)) is all own = All-nil (λ (s : ℕ). Has ms s moment)

  put_by : (moment slot : ℕ) (o fits : Bool) (waiting : List ℕ) → HaveBy moment waiting → Has ms slot moment
      → HaveBy moment (if o then (if fits then waiting ++ slot ∷ [] else drop 1 (waiting ++ slot ∷ []))
      else (if fits then waiting ++ slot ∷ [] else waiting))
  put_by moment slot true true waiting all h = more_by moment slot waiting all h
  put_by moment slot true false waiting all h = rest_by moment (waiting ++ slot ∷ []) (more_by moment slot waiting all h)
  put_by moment slot false true waiting all h = more_by moment slot waiting all h
  put_by moment slot false false waiting all h = all

  -- and what waits after it
  after_by : (o : Bool) (limit moment : ℕ) (waiting : List ℕ) (act : Act) → HaveBy moment waiting
      → ((put : PutNow) → slice_get (put_of act) 0 ≡ Some put → Has ms put.value moment) → HaveBy moment (after_act o limit waiting act)
  after_by o limit moment waiting (Put value answer) all own =
      put_by moment value o (nat_lt (length waiting) limit) waiting all (own (record { value = value; answer = answer }) refl)
  after_by o limit moment waiting (Take (Got got)) all own = rest_by moment waiting all
  after_by o limit moment waiting (Take (Saw some)) all own = all

  first_mapped : (f : PutNow → PushCall) (xs : List PutNow) (rest : List PushCall) (x : PutNow) → slice_get xs 0 ≡ Some x
      → slice_get (map f xs ++ rest) 0 ≡ Some (f x)
  first_mapped f [] rest x h = absurd (cc h)
  first_mapped f (y ∷ ys) rest x h = ap (λ (p : PutNow). Some (f p)) (some_is y x h)

  order_by : (o : Bool) (limit low high : ℕ) (order : List Placed) (waiting : List ℕ) → Rises low order high
      → Acts o limit waiting (acts_of order) → HaveBy low waiting → PutsHave ms order → OrderHasNumbers ms order
  order_by o limit low high [] waiting rises acts all puts
      = All-nil (λ (placed : Placed). All (HasNumber ms placed.moment) (slots_named placed.act))
  order_by o limit low high (placed ∷ order) waiting rises acts all have =
      let moment : ℕ = placed.moment in
      let call : PutNow → PushCall = push_call moment moment in
      let now : HaveBy moment waiting = All-weaker (λ (s : ℕ). Has ms s low) (λ (s : ℕ). Has ms s moment)
      (λ slot h. has_later ms slot low moment rises.0 h) waiting all in
      let own : (put : PutNow) → slice_get (put_of placed.act) 0 ≡ Some put → Has ms put.value moment
      = λ put is. have 0 (call put) (first_mapped call (put_of placed.act) (puts order) put is) in
      let rest : PutsHave ms order = λ number put is. have (length (map call (put_of placed.act)) + number) put
      (at_behind (map call (put_of placed.act)) (puts order) number ∙ is) in
      All-cons (λ (entry : Placed). All (HasNumber ms entry.moment) (slots_named entry.act)) placed order
      (All-weaker (λ (s : ℕ). Has ms s moment) (HasNumber ms moment) (λ slot h. has_number ms slot moment h) (slots_named placed.act)
      (named_by o limit moment waiting placed.act acts.0 now own))
      (order_by o limit moment high order (after_act o limit waiting placed.act) rises.1 acts.1
      (after_by o limit moment waiting placed.act now own) rest)

all_from : (P : ℕ → Type 0) (xs : List ℕ) → ((at slot : ℕ) → slice_get xs at ≡ Some slot → P slot) → All P xs
all_from P xs f = λ at d below. f at (get_or xs at d) (slice_get-get_or xs at d below)

-- what is run leaves lanes as they are kept, with the same connections
pub record StaysKept (m n : World) : Type 0 where
  pub kept : IsKept n
  pub links : n.links ≡ m.links

pub run_kept : (r : RecordState) (entries : List Entry) (made : ℕ) (n : RecordState) → RecordsRun r entries made n → IsKept r.lanes
    → StaysKept r.lanes n.lanes
run_kept r [] made n run k = subst (λ (x : RecordState). StaysKept r.lanes x.lanes) (sym run.1) (record { kept = k; links = refl })
run_kept r (entry ∷ entries) made n (inl run) k = run_kept r entries made n run.1 k
run_kept r (entry ∷ entries) made n (inr (inl run)) k =
    let rest = run_kept (recorded_after r entry.party entry.step) entries (run.1).0 n (run.1).2
    (happens_keeps r.lanes entry.party entry.step run.0 k) in
    record { kept = rest.kept; links = rest.links ∙ links_stay r.lanes entry.party entry.step run.0 }
run_kept r (entry ∷ entries) made n (inr (inr run)) k = run_kept r entries made n run.2 k

pub orders_have_numbers : OrdersHaveNumbers
orders_have_numbers r entries made n came none found run few connection link order there got =
    let k = (came_kept r.lanes came).0 in
    let on = run_kept r entries made n run k in
    let linked : slice_get r.lanes.links connection ≡ Some link
    = ap (λ (ls : List LinkState). slice_get ls connection) (sym on.links) ∙ there in
    let waits : (at slot : ℕ) → slice_get link.found at ≡ Some slot → Has r.messages slot 0 = λ at slot is.
    subst (λ (ms : List MessageState). Has ms slot 0) (sym found) (found_has r.lanes connection at slot link k none linked is) in
    let mail = ((on.kept).rings few connection link order there got).mailbox in (
      all_from (HasNumber r.messages 0) link.found (λ at slot is. has_number r.messages slot 0 (waits at slot is)),
      order_by n.messages (overflows link.kind) link.limit 0 n.lanes.moments order link.found mail.rises mail.acts
          (all_from (λ (slot : ℕ). Has n.messages slot 0) link.found
          (λ at slot is. run_keeps r entries made n run slot 0 (waits at slot is)))
          (puts_have n.lanes n.messages on.kept few (run_have r entries made n run (start_have r.lanes r.messages k none)) connection link
          order there got),
    )

-- A send from one stage to the next keeps that it puts just what stands at its connections.
use Rattle.std.proofs.Common.{ℕ, zero, suc, ◌≡◌, ◌+◌, ◌<◌, ◌≤◌, ◌^◌, ◌==◌, ◌&&◌, ◌⊎◌, Bool, true, false, if◌then◌else◌, nat_lt, List, []}
use Rattle.std.proofs.Common.{◌∷◌, ◌++◌, length, map, take, drop, slice_get, Option, Some, None, refl, sym, ◌∙◌, ap, subst, inl, inr}
use Rattle.std.proofs.Common.{arith, append-nil, append_assoc, length-append}
use Rattle.std.specs.List.{AllZip}
use Rattle.std.proofs.lemmas.Bool.{cases_lt, lt-ltb, le-ltb, eq-eqb}
use Rattle.std.proofs.lemmas.Bool.Decides.{eqb_tells}
use Rattle.std.proofs.lemmas.List.{length-map, length-drop, length-take, take_all, drop_all, take_more}
use Rattle.std.proofs.lemmas.Option.{slice_get_within, get_or_from_slice_get}
use Rattle.iox_lanes_machine.specs.QueuesSteps.Access.{successor}
use Rattle.iox_lanes_machine.specs.QueuesSteps.Order.{push_call, PutNow, PutInside}
use Rattle.iox_lanes_machine.specs.QueuesSteps.declared.order.Placed.{Placed}
use Rattle.iox_lanes_machine.specs.QueuesSteps.declared.order.PushAnswer.{PushAnswer}
use Rattle.iox_lanes_machine.specs.QueuesSteps.declared.order.PushCall.{PushCall}
use Rattle.iox_lanes_machine.specs.QueuesSteps.Ends.{push_begun, push_idle, push_value, put_in_hand}
use Rattle.iox_lanes_machine.specs.QueuesSteps.declared.rings.ends.RingKind.{RingKind}
use Rattle.iox_lanes_machine.specs.QueuesSteps.declared.rings.ends.Push.{Push}
use Rattle.iox_lanes_machine.specs.LanesBase.Answers.{push_answer}
use Rattle.iox_lanes_machine.specs.LanesBase.Publishing.{push_from, push_at, counted, nothing_sent}
use Rattle.iox_lanes_machine.specs.LanesBase.declared.calls.publisher.Delivery.{Delivery}
use Rattle.iox_lanes_machine.specs.LanesBase.declared.calls.publisher.PublisherCall.{PublisherCall}
use Rattle.iox_lanes_machine.specs.LanesBase.declared.calls.publisher.PublisherCall.TheVariants as publishing
use Rattle.iox_lanes_machine.specs.LanesBase.declared.calls.route.Route.{Route}
use Rattle.iox_lanes_machine.specs.LanesParties.SendAnswers.{send_answer}
use Rattle.iox_lanes_machine.specs.LanesParties.declared.call.Answer.{Answer}
use Rattle.iox_lanes_machine.specs.LanesParties.declared.call.Answer.TheVariants as answer
use Rattle.iox_lanes_machine.specs.LanesParties.declared.call.CallName.{CallName}
use Rattle.iox_lanes_machine.specs.LanesParties.declared.call.CallName.TheVariants as name
use Rattle.iox_lanes_machine.specs.LanesParties.declared.call.FinishedCall.{FinishedCall}
use Rattle.iox_lanes_machine.specs.LanesParties.declared.call.Party.{Party}
use Rattle.iox_lanes_machine.specs.LanesParties.declared.call.Party.TheVariants.{Publisher}
use Rattle.iox_lanes_machine.specs.LanesBase.Table.{TableWords}
use Rattle.iox_lanes_machine.specs.Rings.{push_on}
use Rattle.iox_lanes_machine.specs.Links.{LinkState}
use Rattle.iox_lanes_machine.specs.Sends.{puts_at, IsPutAt, ArePut, IsSent, is_sender, is_send, sends_of, read_at, IsPushing, PutSoFar}
use Rattle.iox_lanes_machine.specs.Sends.{done_at, in_hand_at, HasConnections, SendsPut}
use Rattle.iox_lanes_machine.specs.World.{World, ended}
use Rattle.iox_lanes_machine.proofs.Ends.{some_is, choose_one, choose_other, push_off, push_here}
use Rattle.iox_lanes_machine.proofs.Puts.{first_behind, Grow, grow_none, rise_le, rise_more, zip_append, zip_length, are_put_stay}
use Rattle.iox_lanes_machine.proofs.Puts.{sent_stays, hand_grows, hand_done, idle_hand, begun_hand, begun_value, counted_more}

-- no push stands, and none is done with
abbrev pub is_quiet : PublisherCall → Bool
is_quiet publishing.Idle = true
is_quiet (publishing.LoanReclaims place route pop) = true
is_quiet publishing.Lending = true
is_quiet (publishing.Writing slot word value) = true
is_quiet (publishing.Written slot) = true
is_quiet (publishing.Heading slot word value) = true
is_quiet (publishing.Remembering slot) = true
is_quiet (publishing.SendReclaims slot place route pop) = true
is_quiet (publishing.Pushing slot place route push delivery) = false
is_quiet (publishing.Sent slot delivery) = false
is_quiet (publishing.Dropping slot) = true

-- what a step may do at a connection: the put of the push that stands there joins what that push has in hand
pub record RouteGrows (moments : ℕ) (orders orders' : List (List Placed)) (table table' : TableWords) (call call' : PublisherCall)
    (route : Route) : Type 0 where
  pub new : List PutNow
  pub puts : puts_at orders' route ≡ puts_at orders route ++ map (push_call moments moments) new
  pub hand : put_in_hand (read_at table' route) (push_on route.connection route.kind call')
      ≡ put_in_hand (read_at table route) (push_on route.connection route.kind call) ++ new

grown_count : (m n : World) (call call' : PublisherCall) (route : Route) (before : ℕ)
    → RouteGrows m.moments m.orders n.orders m.table n.table call call' route
    → length (puts_at m.orders route) ≡ before + in_hand_at m.table route call
    → length (puts_at n.orders route) ≡ before + in_hand_at n.table route call'
grown_count m n call call' route before g h =
    omega (
      arith,
      ap (λ (ps : List PushCall). length ps) g.puts,
      length-append (puts_at m.orders route) (map (push_call m.moments m.moments) g.new),
      length-map g.new (push_call m.moments m.moments),
      ap (λ (ps : List PutNow). length ps) g.hand,
      length-append (put_in_hand (read_at m.table route) (push_on route.connection route.kind call)) g.new,
      h,
    )

-- a push that goes on
pub pushing_grows : (m n : World) (routes : List Route) (number first slot place : ℕ) (route : Route) (p p' : Push)
    (delivery : Delivery) → Grow m.orders n.orders → m.moments ≤ n.moments → first ≤ m.moments → number ≤ length (puts_at m.orders route)
    → push_value p' ≡ push_value p → RouteGrows m.moments m.orders n.orders m.table n.table
    (publishing.Pushing slot place route p delivery) (publishing.Pushing slot place route p' delivery) route
    → IsPushing m.orders routes number first m.moments slot place (read_at m.table route) route p delivery
    → IsPushing n.orders routes number first n.moments slot place (read_at n.table route) route p' delivery
pushing_grows m n routes number first slot place route p p' delivery grow later begun some value g h = record {
  at = h.at;
  few = omega (arith, h.few, later);
  value = value ∙ h.value;
  since = h.since;
  begun = omega (arith, h.begun, later);
  before = are_put_stay m.orders n.orders (take place routes) number slot first h.since h.since delivery grow (omega arith) h.before;
  here = hand_grows h.since m.moments n.moments number (put_in_hand (read_at m.table route) p) (put_in_hand (read_at n.table route) p')
      g.new (puts_at m.orders route) (puts_at n.orders route) h.begun later some
      (sym (ap (put_in_hand (read_at n.table route)) (push_here slot place route route.kind p' delivery)) ∙ g.hand ∙ ap
      (λ (x : Push). put_in_hand (read_at m.table route) x ++ g.new) (push_here slot place route route.kind p delivery))
      g.puts h.here;
}

-- each connection of a publisher
abbrev pub AllGrow : World → World → List Route → PublisherCall → PublisherCall → Type 0
AllGrow m n routes call call' = (place : ℕ) (route : Route) → slice_get routes place ≡ Some route
    → RouteGrows m.moments m.orders n.orders m.table n.table call call' route

-- a step that leaves the publisher where it stands
so_far_grows : (m n : World) (routes : List Route) (number first : ℕ) (call : PublisherCall) → Grow m.orders n.orders
    → m.moments ≤ n.moments → (is_quiet call ≡ false → first ≤ m.moments)
    → ((place : ℕ) (route : Route) → slice_get routes place ≡ Some route → number ≤ length (puts_at m.orders route))
    → AllGrow m n routes call call
    → PutSoFar m.table m.orders routes number first m.moments call → PutSoFar n.table n.orders routes number first n.moments call
so_far_grows m n routes number first publishing.Idle grow later begun some all h = tt
so_far_grows m n routes number first (publishing.LoanReclaims place route p) grow later begun some all h = tt
so_far_grows m n routes number first publishing.Lending grow later begun some all h = tt
so_far_grows m n routes number first (publishing.Writing slot word value) grow later begun some all h = tt
so_far_grows m n routes number first (publishing.Written slot) grow later begun some all h = tt
so_far_grows m n routes number first (publishing.Heading slot word value) grow later begun some all h = tt
so_far_grows m n routes number first (publishing.Remembering slot) grow later begun some all h = tt
so_far_grows m n routes number first (publishing.SendReclaims slot place route p) grow later begun some all h = tt
so_far_grows m n routes number first (publishing.Pushing slot place route p delivery) grow later begun some all h =
    pushing_grows m n routes number first slot place route p p delivery grow later (begun refl) (some place route h.at) refl
    (all place route h.at) h
so_far_grows m n routes number first (publishing.Sent slot delivery) grow later begun some all h
    = are_put_stay m.orders n.orders routes number slot first m.moments n.moments delivery grow later h
so_far_grows m n routes number first (publishing.Dropping slot) grow later begun some all h = tt

same_length : (xs ys : List FinishedCall) → ys ≡ xs → length ys ≡ length xs
same_length xs ys e = ap (λ (zs : List FinishedCall). length zs) e

pub grows : (m n : World) (who : ℕ) (fails : Bool) (routes : List Route) (first : ℕ) (call : PublisherCall) → n.links ≡ m.links
    → sends_of who n.finished ≡ sends_of who m.finished → Grow m.orders n.orders → m.moments ≤ n.moments
    → (is_quiet call ≡ false → first ≤ m.moments) → AllGrow m n routes call call → SendsPut m who fails routes first call
    → SendsPut n who fails routes first call
grows m n who fails routes first call links sends grow later begun all h = record {
  connections = subst (λ (ls : List LinkState). HasConnections ls who routes) (sym links) h.connections;
  sent = λ number send found. sent_stays m.orders n.orders fails routes number send grow
      (h.sent number send (ap (λ (xs : List FinishedCall). slice_get xs number) (sym sends) ∙ found));
  so_far = subst (λ (k : ℕ). PutSoFar n.table n.orders routes k first n.moments call) (sym (same_length _ _ sends))
      (so_far_grows m n routes (length (sends_of who m.finished)) first call grow later begun
      (λ place route found. omega (arith, h.no_more place route found)) all h.so_far);
  no_more = λ place route found. subst
      (λ (k : ℕ). length (puts_at n.orders route) ≡ k + done_at place call + in_hand_at n.table route call) (sym (same_length _ _ sends))
      (grown_count m n call call route (length (sends_of who m.finished) + done_at place call) (all place route found)
      (h.no_more place route found));
}

-- the push in hand makes its next access
pub push_moves : (m n : World) (who : ℕ) (fails : Bool) (routes : List Route) (first slot place : ℕ) (route : Route) (p p' : Push)
    (delivery : Delivery) → n.links ≡ m.links → sends_of who n.finished ≡ sends_of who m.finished → Grow m.orders n.orders
    → m.moments ≤ n.moments
    → first ≤ m.moments → push_value p' ≡ push_value p
    → AllGrow m n routes (publishing.Pushing slot place route p delivery) (publishing.Pushing slot place route p' delivery)
    → SendsPut m who fails routes first (publishing.Pushing slot place route p delivery)
    → SendsPut n who fails routes first (publishing.Pushing slot place route p' delivery)
push_moves m n who fails routes first slot place route p p' delivery links sends grow later begun value all h = record {
  connections = subst (λ (ls : List LinkState). HasConnections ls who routes) (sym links) h.connections;
  sent = λ number send found. sent_stays m.orders n.orders fails routes number send grow
      (h.sent number send (ap (λ (xs : List FinishedCall). slice_get xs number) (sym sends) ∙ found));
  so_far = subst (λ (k : ℕ). IsPushing n.orders routes k first n.moments slot place (read_at n.table route) route p' delivery)
      (sym (same_length _ _ sends))
      (pushing_grows m n routes (length (sends_of who m.finished)) first slot place route p p' delivery grow later begun
      (omega (arith, h.no_more place route (h.so_far).at)) value (all place route (h.so_far).at) h.so_far);
  no_more = λ i other found. subst (λ (k : ℕ). length (puts_at n.orders other)
      ≡ k + done_at i (publishing.Pushing slot place route p' delivery) + in_hand_at n.table other
      (publishing.Pushing slot place route p' delivery)) (sym (same_length _ _ sends))
      (grown_count m n (publishing.Pushing slot place route p delivery) (publishing.Pushing slot place route p' delivery) other
      (length (sends_of who m.finished) + done_at i (publishing.Pushing slot place route p delivery)) (all i other found)
      (h.no_more i other found));
}

-- a send that comes to the connection of a place, or after the last one
past : {X : Type 0} (xs : List X) (i : ℕ) → slice_get xs i ≡ None → length xs ≤ i
past [] i e = omega arith
past (x ∷ xs) zero e = absurd (cc)
past (x ∷ xs) (suc i) e = omega (arith, past xs i e)

no_hand : (read : ℕ) (k : RingKind) (test : Bool) (begun : Push) → put_in_hand read begun ≡ []
    → length (put_in_hand read (if test then begun else push_idle k)) ≡ 0
no_hand read k true begun e = ap (λ (ps : List PutNow). length ps) e
no_hand read k false begun e = ap (λ (ps : List PutNow). length ps) (idle_hand read k)

-- how many puts of a send stand at the connection of a place, if it stands at no push
abbrev pub HasCount : ℕ → ℕ → ℕ → ℕ → Type 0
HasCount number place i count = (i < place → count ≡ number + 1) × (place ≤ i → count ≡ number)

count_done : (number place i count : ℕ) → HasCount number place i count → count ≡ number + (if nat_lt i place then 1 else 0)
count_done number place i count h = elim (cases_lt i place) [
  | inl lt ↦ h.0 lt ∙ ap (λ (k : ℕ). number + k) (sym (choose_one {X = ℕ} (nat_lt i place) 1 0 (lt-ltb i place lt)))
  | inr ge ↦ omega (arith, h.1 ge, choose_other {X = ℕ} (nat_lt i place) 1 0 (le-ltb i place ge))
]

pub fresh : (m : World) (who : ℕ) (fails : Bool) (routes : List Route) (first slot place : ℕ) (delivery : Delivery) (at : Option Route)
    → slice_get routes place ≡ at → place ≤ m.moments → HasConnections m.links who routes
    → ((number : ℕ) (send : FinishedCall) → slice_get (sends_of who m.finished) number ≡ Some send
    → IsSent m.orders fails routes number send)
    → ArePut m.orders (take place routes) (length (sends_of who m.finished)) slot first m.moments delivery
    → ((i : ℕ) (other : Route) → slice_get routes i ≡ Some other
    → HasCount (length (sends_of who m.finished)) place i (length (puts_at m.orders other)))
    → SendsPut m who fails routes first (push_from slot place delivery at)
fresh m who fails routes first slot place delivery None e few connections sent before counts =
    let all : take place routes ≡ routes = take_all place routes (past routes place e) in
    record {
      connections = connections;
      sent = sent;
      so_far = subst (λ (rs : List Route). ArePut m.orders rs (length (sends_of who m.finished)) slot first m.moments delivery) all before;
      no_more = λ i other found.
          omega (
            arith,
            (counts i other found).0 (omega (arith, slice_get_within routes i other found, past routes place e)),
            ap
                (λ (ps : List PutNow). length ps) (idle_hand (read_at m.table other) other.kind),
          );
    }
fresh m who fails routes first slot place delivery (Some route) e few connections sent before counts =
    let number : ℕ = length (sends_of who m.finished) in
    let none : drop number (puts_at m.orders route) ≡ []
    = drop_all number (puts_at m.orders route) (omega (arith, (counts place route e).1 (omega arith))) in
    record {
      connections = connections;
      sent = sent;
      so_far = record {
        at = e;
        few = few;
        value = begun_value route.kind route.limit slot;
        since = m.moments;
        begun = omega arith;
        before = before;
        here = subst (λ (xs : List PutNow). AllZip PutInside (map (push_call m.moments m.moments) xs)
            (drop number (puts_at m.orders route))) (sym (begun_hand (read_at m.table route) route.kind route.limit slot))
            (subst (λ (ys : List PushCall). AllZip PutInside [] ys) (sym none) tt);
      };
      no_more = λ i other found.
          let hand : length (put_in_hand (read_at m.table other)
          (if route.connection == other.connection then push_begun route.kind route.limit slot else push_idle other.kind)) ≡ 0 =
          no_hand (read_at m.table other) other.kind (route.connection == other.connection) (push_begun route.kind route.limit slot)
          (begun_hand (read_at m.table other) route.kind route.limit slot) in
          omega (arith, count_done number place i (length (puts_at m.orders other)) (counts i other found), hand);
    }

-- a send begins to push
pub pushes_begin : (m : World) (who : ℕ) (fails : Bool) (routes : List Route) (first slot : ℕ) → first ≤ m.moments
    → HasConnections m.links who routes
    → ((number : ℕ) (send : FinishedCall) → slice_get (sends_of who m.finished) number ≡ Some send
    → IsSent m.orders fails routes number send)
    → ((i : ℕ) (other : Route) → slice_get routes i ≡ Some other → length (puts_at m.orders other) ≡ length (sends_of who m.finished))
    → SendsPut m who fails routes first (push_at routes slot 0 nothing_sent)
pushes_begin m who fails routes first slot begun connections sent counts =
    fresh m who fails routes first slot 0 nothing_sent (slice_get routes 0) refl (omega arith) connections sent
    (record { answers = []; puts = tt; in_order = begun; counted = refl })
    (λ i other found. (λ below. absurd (omega (arith, below)), λ le. counts i other found))

-- one put alone stands after those of the sends that ended
record OnePut (call : PushCall) (ps : List PushCall) : Type 0 where
  put : PushCall
  is : ps ≡ put ∷ []
  own : PutInside call put

one_put : (call : PushCall) (ps : List PushCall) → AllZip PutInside (call ∷ []) ps → OnePut call ps
one_put call [] h = absurd h
one_put call (p ∷ []) h = record { put = p; is = refl; own = h.0 }
one_put call (p ∷ q ∷ ps) h = absurd h.1

-- a push that was answered: the send goes to the next place
pub push_answered : (m : World) (who : ℕ) (fails : Bool) (routes : List Route) (first slot place : ℕ) (route : Route) (p : Push)
    (delivery : Delivery) (given : PushAnswer) → push_answer p ≡ Some given → place + 1 ≤ m.moments → m.moments ≤ 2 ^ 63
    → SendsPut m who fails routes first (publishing.Pushing slot place route p delivery)
    → SendsPut m who fails routes first (push_at routes slot (successor place) (counted delivery given))
push_answered m who fails routes first slot place route p delivery given done few bound h =
    let number : ℕ = length (sends_of who m.finished) in
    let is : IsPushing m.orders routes number first m.moments slot place (read_at m.table route) route p delivery = h.so_far in
    let next : successor place ≡ place + 1 = omega (arith, few, bound) in
    let one = one_put (push_call is.since m.moments (record { value = push_value p; answer = given }))
    (drop number (puts_at m.orders route))
    (subst (λ (xs : List PutNow). AllZip PutInside (map (push_call is.since m.moments) xs) (drop number (puts_at m.orders route)))
    (hand_done (read_at m.table route) p given done) is.here) in
    let found : slice_get (puts_at m.orders route) number ≡ Some one.put = first_behind (puts_at m.orders route) [] number one.put one.is in
    let started : first ≤ is.since = rise_le m.orders number first (take place routes) is.since (is.before).in_order in
    let put : IsPutAt m.orders number slot first m.moments route given = record {
      put = one.put;
      found = found;
      value = sym (one.own).answer.same_value ∙ is.value;
      answered = sym (one.own).answer.same_answer;
      inside = record { begun = omega (arith, started, (one.own).inside.begun); not_ended = (one.own).inside.not_ended };
    } in
    let more : take (successor place) routes ≡ take place routes ++ route ∷ [] =
    ap (λ (k : ℕ). take k routes) next ∙ take_more routes place route (slice_get_within routes place route is.at) ∙ ap
    (λ (r : Route). take place routes ++ r ∷ []) (get_or_from_slice_get routes place route route is.at) in
    let sofar : ArePut m.orders (take place routes) number slot first m.moments delivery
    = are_put_stay m.orders m.orders (take place routes) number slot first is.since m.moments delivery (grow_none m.orders) is.begun
    is.before in
    let answers : length sofar.answers < 2 ^ 63
    = omega (
      arith,
      zip_length (IsPutAt m.orders number slot first m.moments) (take place routes) sofar.answers sofar.puts,
      length-take
          place routes,
      few,
      bound,
    ) in
    let before : ArePut m.orders (take place routes ++ route ∷ []) number slot first m.moments (counted delivery given) = record {
      answers = sofar.answers ++ given ∷ [];
      puts = zip_append (IsPutAt m.orders number slot first m.moments) (take place routes) sofar.answers (route ∷ []) (given ∷ [])
          sofar.puts (put, tt);
      in_order = rise_more m.orders number first (take place routes) is.since m.moments route one.put found (one.own).inside.begun
          (one.own).inside.not_ended (is.before).in_order;
      counted = ap (λ (d : Delivery). counted d given) sofar.counted ∙ counted_more sofar.answers given answers;
    } in
    fresh m who fails routes first slot (successor place) (counted delivery given) (slice_get routes (successor place)) refl
    (omega (arith, next, few)) h.connections h.sent
    (subst (λ (rs : List Route). ArePut m.orders rs number slot first m.moments (counted delivery given)) (sym more) before)
    (λ i other found. elim (eqb_tells i place) [
      | inl same ↦
          let here : other ≡ route = some_is other route (sym found ∙ ap (slice_get routes) same.1 ∙ is.at) in
          let count : length (puts_at m.orders other) ≡ number + 1 =
          ap (λ (r : Route). length (puts_at m.orders r)) here ∙ omega
          (arith, length-drop number (puts_at m.orders route), ap (λ (ps : List PushCall). length ps) one.is) in
          (λ below. count, λ le. absurd (omega (arith, same.1, le, next)))
      | inr differs ↦
          let off : Some route.connection ≡ Some other.connection
          → ⊥ = λ e. differs.1 (sym ((h.connections).once place i route other is.at found
          (some_is route.connection other.connection e))) in
          let hand : in_hand_at m.table other (publishing.Pushing slot place route p delivery) ≡ 0 =
          ap (λ (x : Push). length (put_in_hand (read_at m.table other) x))
          (push_off other.connection other.kind (publishing.Pushing slot place route p delivery) off) ∙ ap
          (λ (ps : List PutNow). length ps) (idle_hand (read_at m.table other) other.kind) in (
            λ below. let lower : i < place = omega_below i place differs.1 below next in
                omega (arith, h.no_more i other found, hand, choose_one {X = ℕ} (nat_lt i place) 1 0 (lt-ltb i place lower)),
            λ le. omega (
              arith,
              h.no_more i other found,
              hand,
              choose_other {X = ℕ} (nat_lt i place) 1 0
                  (le-ltb i place (omega (arith, le, next))),
            ),
          )
    ])
  where
    omega_below : (i place : ℕ) → (i ≡ place → ⊥) → i < successor place → successor place ≡ place + 1 → i < place
    omega_below i place differs below next = elim (cases_lt i place) [
      | inl lt ↦ lt
      | inr ge ↦ absurd (differs (omega (arith, ge, below, next)))
    ]

-- what is so of a publisher that pushes nothing
pub record IsQuiet (table : TableWords) (orders : List (List Placed)) (routes : List Route) (number first last : ℕ)
    (call : PublisherCall) : Type 0 where
  pub so_far : PutSoFar table orders routes number first last call
  pub done : (place : ℕ) → done_at place call ≡ 0
  pub hand : (route : Route) → push_on route.connection route.kind call ≡ push_idle route.kind

quiet : (table : TableWords) (orders : List (List Placed)) (routes : List Route) (number first last : ℕ) (call : PublisherCall)
    → is_quiet call ≡ true → IsQuiet table orders routes number first last call
quiet table orders routes number first last publishing.Idle h = record { so_far = tt; done = λ place. refl; hand = λ route. refl }
quiet table orders routes number first last (publishing.LoanReclaims place route p) h
    = record { so_far = tt; done = λ at. refl; hand = λ other. refl }
quiet table orders routes number first last publishing.Lending h = record { so_far = tt; done = λ place. refl; hand = λ route. refl }
quiet table orders routes number first last (publishing.Writing slot word value) h
    = record { so_far = tt; done = λ place. refl; hand = λ route. refl }
quiet table orders routes number first last (publishing.Written slot) h = record { so_far = tt; done = λ place. refl; hand = λ route. refl }
quiet table orders routes number first last (publishing.Heading slot word value) h
    = record { so_far = tt; done = λ place. refl; hand = λ route. refl }
quiet table orders routes number first last (publishing.Remembering slot) h
    = record { so_far = tt; done = λ place. refl; hand = λ route. refl }
quiet table orders routes number first last (publishing.SendReclaims slot place route p) h
    = record { so_far = tt; done = λ at. refl; hand = λ other. refl }
quiet table orders routes number first last (publishing.Pushing slot place route p delivery) h = absurd (cc)
quiet table orders routes number first last (publishing.Sent slot delivery) h = absurd (cc)
quiet table orders routes number first last (publishing.Dropping slot) h
    = record { so_far = tt; done = λ place. refl; hand = λ route. refl }

-- how many puts stand at the connections of such a publisher
pub quiet_count : (m : World) (who : ℕ) (fails : Bool) (routes : List Route) (first : ℕ) (call : PublisherCall) → is_quiet call ≡ true
    → SendsPut m who fails routes first call
    → (i : ℕ) (other : Route) → slice_get routes i ≡ Some other → length (puts_at m.orders other) ≡ length (sends_of who m.finished)
quiet_count m who fails routes first call q h = λ i other found.
    let g = quiet m.table m.orders routes (length (sends_of who m.finished)) first m.moments call q in
    let hand : in_hand_at m.table other call ≡ 0
    = ap (λ (x : Push). length (put_in_hand (read_at m.table other) x)) (g.hand other) ∙ ap (λ (ps : List PutNow). length ps)
    (idle_hand (read_at m.table other) other.kind) in
    omega (arith, h.no_more i other found, g.done i, hand)

-- from one such stage to another
pub quiet_change : (m : World) (who : ℕ) (fails : Bool) (routes : List Route) (first first' : ℕ) (call call' : PublisherCall)
    → is_quiet call ≡ true → is_quiet call' ≡ true → SendsPut m who fails routes first call → SendsPut m who fails routes first' call'
quiet_change m who fails routes first first' call call' q q' h =
    let g = quiet m.table m.orders routes (length (sends_of who m.finished)) first' m.moments call' q' in
    record {
      connections = h.connections;
      sent = h.sent;
      so_far = g.so_far;
      no_more = λ i other found.
          let hand : in_hand_at m.table other call' ≡ 0
          = ap (λ (x : Push). length (put_in_hand (read_at m.table other) x)) (g.hand other) ∙ ap (λ (ps : List PutNow). length ps)
          (idle_hand (read_at m.table other) other.kind) in
          omega (arith, quiet_count m who fails routes first call q h i other found, g.done i, hand);
    }

-- a publisher that pushes nothing begins to push
pub quiet_pushes : (m : World) (who : ℕ) (fails : Bool) (routes : List Route) (first slot : ℕ) (call : PublisherCall)
    → first ≤ m.moments → is_quiet call ≡ true → SendsPut m who fails routes first call
    → SendsPut m who fails routes first (push_at routes slot 0 nothing_sent)
quiet_pushes m who fails routes first slot call begun q h
    = pushes_begin m who fails routes first slot begun h.connections h.sent (quiet_count m who fails routes first call q h)

-- the calls of all parties, one list after the other
sends_append : (who : ℕ) (xs ys : List FinishedCall) → sends_of who (xs ++ ys) ≡ sends_of who xs ++ sends_of who ys
sends_append who [] ys = refl
sends_append who (x ∷ xs) ys =
    ap (λ (zs : List FinishedCall). (if is_sender x.party who && is_send x.answer then x ∷ [] else []) ++ zs) (sends_append who xs ys)
    ∙ sym (append_assoc (if is_sender x.party who && is_send x.answer then x ∷ [] else []) (sends_of who xs) (sends_of who ys))

-- an answer, if there is one, that is no send's
abbrev pub sends_nothing : Option Answer → Bool
sends_nothing None = true
sends_nothing (Some a) = if is_send a then false else true

and_false : (a b : Bool) → b ≡ false → (a && b) ≡ false
and_false true b h = h
and_false false b h = refl

false_and : (a b : Bool) → a ≡ false → (a && b) ≡ false
false_and true b h = absurd (cc)
false_and false b h = refl

not_sent : (test : Bool) → (if test then false else true) ≡ true → test ≡ false
not_sent true h = absurd (cc)
not_sent false h = refl

no_sends : (who : ℕ) (party : Party) (call : CallName) (first last : ℕ) (a : Option Answer) → (is_sender party who ≡ false)
    ⊎ (sends_nothing a ≡ true) → sends_of who (ended party call first last a) ≡ []
no_sends who party call first last None h = refl
no_sends who party call first last (Some a) (inl h)
    = append-nil _ ∙ choose_other (is_sender party who && is_send a)
    (record { party = party; call = call; answer = a; first = first; last = last } ∷ []) [] (false_and (is_sender party who) (is_send a) h)
no_sends who party call first last (Some a) (inr h)
    = append-nil _ ∙ choose_other (is_sender party who && is_send a)
    (record { party = party; call = call; answer = a; first = first; last = last } ∷ []) []
    (and_false (is_sender party who) (is_send a) (not_sent (is_send a) h))

-- a call that is no send of the publisher
pub same_sends : (who : ℕ) (finished : List FinishedCall) (party : Party) (call : CallName) (first last : ℕ) (a : Option Answer)
    → (is_sender party who ≡ false) ⊎ (sends_nothing a ≡ true)
    → sends_of who (finished ++ ended party call first last a) ≡ sends_of who finished
same_sends who finished party call first last a h =
    sends_append who finished (ended party call first last a) ∙ ap (λ (zs : List FinishedCall). sends_of who finished ++ zs)
    (no_sends who party call first last a h) ∙ append-nil (sends_of who finished)

-- what stands at a place of a list with one more
pub last_or : {X : Type 0} (xs : List X) (x y : X) (k : ℕ) → slice_get (xs ++ x ∷ []) k ≡ Some y → (slice_get xs k ≡ Some y)
    ⊎ ((k ≡ length xs) × (y ≡ x))
last_or [] x y zero e = inr (refl, some_is y x (sym e))
last_or [] x y (suc k) e = absurd (cc)
last_or (z ∷ xs) x y zero e = inl e
last_or (z ∷ xs) x y (suc k) e = elim (last_or xs x y k e) [
  | inl h ↦ inl h
  | inr h ↦ inr (omega (arith, h.0), h.1)
]

-- a send that ends is one of those that ended
pub send_ends : (m : World) (who : ℕ) (fails : Bool) (routes : List Route) (first slot : ℕ) (delivery : Delivery) (call : CallName)
    → call ≡ name.Send slot → SendsPut m who fails routes first (publishing.Sent slot delivery)
    → SendsPut (record m {
      finished = m.finished
          ++ ended (Publisher who) call first m.moments (Some (answer.Sent (send_answer fails delivery)));
    }) who fails routes first publishing.Idle
send_ends m who fails routes first slot delivery call asked h =
    let number : ℕ = length (sends_of who m.finished) in
    let new : FinishedCall
    = record { party = Publisher who; call = call; answer = answer.Sent (send_answer fails delivery); first = first; last = m.moments } in
    let one : sends_of who (new ∷ []) ≡ new ∷ []
    = append-nil _ ∙ choose_one ((who == who) && true) (new ∷ []) [] (ap (λ (b : Bool). b && true) (eq-eqb who who refl)) in
    let all : sends_of who (m.finished ++ new ∷ []) ≡ sends_of who m.finished ++ new ∷ []
    = sends_append who m.finished (new ∷ []) ∙ ap (λ (zs : List FinishedCall). sends_of who m.finished ++ zs) one in
    let count : length (sends_of who (m.finished ++ new ∷ [])) ≡ number + 1
    = ap (λ (zs : List FinishedCall). length zs) all ∙ omega (arith, length-append (sends_of who m.finished) (new ∷ [])) in
    record {
      connections = h.connections;
      sent = λ k send found. elim (last_or (sends_of who m.finished) new send k
          (ap (λ (zs : List FinishedCall). slice_get zs k) (sym all) ∙ found)) [
            | inl old ↦ h.sent k send old
            | inr is ↦ subst (λ (c : FinishedCall). IsSent m.orders fails routes k c) (sym is.1)
                (subst (λ (i : ℕ). IsSent m.orders fails routes i new) (sym is.0)
                (record { slot = slot; delivery = delivery; asked = asked; answered = refl; puts = h.so_far }))
          ];
      so_far = tt;
      no_more = λ i other found.
          let hand : length (put_in_hand (read_at m.table other) (push_idle other.kind)) ≡ 0
          = ap (λ (ps : List PutNow). length ps) (idle_hand (read_at m.table other) other.kind) in
          omega (arith, h.no_more i other found, count, hand);
    }

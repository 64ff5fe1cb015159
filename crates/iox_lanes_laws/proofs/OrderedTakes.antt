-- The takes of receives stand in the order of their connection.
use Rattle.std.proofs.Common.{ℕ, ◌≡◌, ◌+◌, ◌<◌, ◌≤◌, ◌^◌, ◌==◌, ◌&&◌, Bool, true, false, if◌then◌else◌, List, [], ◌∷◌, ◌++◌, map}
use Rattle.std.proofs.Common.{get_or, slice_get, Option, Some, None, refl, sym, ◌∙◌, ap, subst, inl, inr, arith, append-nil, append_assoc}
use Rattle.std.specs.List.{All, AllZip}
use Rattle.std.proofs.lemmas.Bool.{eq-eqb}
use Rattle.std.proofs.lemmas.Bool.Decides.{eqb_tells}
use Rattle.std.proofs.lemmas.List.Elements.{All-append, All-cons, All-nil}
use Rattle.iox_lanes_machine.specs.QueuesSteps.Order.{Rises, pop_call, take_of, take_values, takes}
use Rattle.iox_lanes_machine.specs.QueuesSteps.declared.order.Act.{Act}
use Rattle.iox_lanes_machine.specs.QueuesSteps.declared.order.Act.TheVariants.{Put, Take}
use Rattle.iox_lanes_machine.specs.QueuesSteps.declared.order.Placed.{Placed}
use Rattle.iox_lanes_machine.specs.QueuesSteps.declared.order.PopAnswer.{PopAnswer}
use Rattle.iox_lanes_machine.specs.QueuesSteps.declared.order.PopCall.{PopCall}
use Rattle.iox_lanes_machine.proofs.QueuesSteps.Orders.{takes_more}
use Rattle.iox_lanes_machine.specs.LanesParties.Parties.{PublisherLaneState, SubscriberLaneState}
use Rattle.iox_lanes_machine.specs.LanesParties.declared.call.Call.{Call}
use Rattle.iox_lanes_machine.specs.LanesParties.declared.call.Call.TheVariants as call
use Rattle.iox_lanes_machine.specs.LanesParties.declared.call.Entry.{Entry}
use Rattle.iox_lanes_machine.specs.LanesParties.declared.call.FinishedCall.{FinishedCall}
use Rattle.iox_lanes_machine.specs.LanesParties.declared.call.Move.{Move}
use Rattle.iox_lanes_machine.specs.LanesParties.declared.call.Move.TheVariants.{Begin, GoOn}
use Rattle.iox_lanes_machine.specs.LanesParties.declared.call.Party.{Party}
use Rattle.iox_lanes_machine.specs.LanesParties.declared.call.Party.TheVariants.{Publisher, Subscriber}
use Rattle.iox_lanes_machine.specs.Kept.{IsKept}
use Rattle.iox_lanes_machine.specs.Links.{LinkState}
use Rattle.iox_lanes_machine.specs.Paces.{after_entry, led}
use Rattle.iox_lanes_machine.specs.Receipts.{is_receiver}
use Rattle.iox_lanes_machine.specs.World.{World, acts_at, added, connection_at, fits, happens, placed, pops_from}
use Rattle.iox_lanes_machine.specs.World.{publisher_begins, publisher_goes_on, publisher_stage, subscriber_begins, subscriber_fits_at}
use Rattle.iox_lanes_machine.specs.World.{subscriber_goes_on, subscriber_stage}
use Rattle.iox_lanes_machine.proofs.Ends.{some_is}
use Rattle.iox_lanes_machine.proofs.Mailboxes.{order_there}
use Rattle.iox_lanes_machine.proofs.Paces.{came_kept, later, one_more}
use Rattle.iox_lanes_machine.proofs.Receipts.{publisher_no_takes}
use Rattle.iox_lanes_machine.proofs.Steps.{added_here, added_other, happens_moments, pops_own, stands}
use Rattle.iox_lanes_machine.proofs.Whole.{happens_keeps}
use Rattle.iox_lanes_laws.specs.FinishedReceives.{WasReceived}
use Rattle.iox_lanes_laws.specs.OrderedTakes.{answers_there, StandsBetween, TakesFollow, TakesStandInOrder, StandInside}
use Rattle.iox_lanes_laws.specs.OrderedTakes.{ReceivesStandInOrder, StepsTakeNow}
use Rattle.iox_lanes_laws.specs.Takes.{PlacedTake, placed_takes, takes_on, step_takes, own_takes}
use Rattle.iox_lanes_laws.proofs.FinishedReceives.{finished_receives_follow}
use Rattle.iox_lanes_laws.proofs.NumberedRuns.{links_stay}

-- takes at the connection, and at another
at_it : (connection : ℕ) (answers : List PopAnswer) → answers_there connection (placed_takes connection answers) ≡ answers
at_it connection [] = refl
at_it connection (answer ∷ answers) =
    ap (λ (b : Bool). (if b then answer ∷ [] else []) ++ answers_there connection (placed_takes connection answers))
    (eq-eqb connection connection refl)
    ∙ ap (λ (more : List PopAnswer). answer ∷ more) (at_it connection answers)

at_none : (connection place : ℕ) (answers : List PopAnswer) → (place == connection) ≡ false
    → answers_there connection (placed_takes place answers) ≡ []
at_none connection place [] e = refl
at_none connection place (answer ∷ answers) e =
    ap (λ (b : Bool). (if b then answer ∷ [] else []) ++ answers_there connection (placed_takes place answers)) e
    ∙ at_none connection place answers e

on_it : (connection : ℕ) (to : Option ℕ) (answers : List PopAnswer) → to ≡ Some connection
    → answers_there connection (takes_on to answers) ≡ answers
on_it connection to answers here = ap (λ (o : Option ℕ). answers_there connection (takes_on o answers)) here ∙ at_it connection answers

off_it : (connection : ℕ) (to : Option ℕ) (answers : List PopAnswer) → (to ≡ Some connection → ⊥)
    → answers_there connection (takes_on to answers) ≡ []
off_it connection None answers off = refl
off_it connection (Some place) answers off = elim (eqb_tells place connection) [
  | inl same ↦ absurd (off (ap (λ (n : ℕ). Some n) same.1))
  | inr other ↦ at_none connection place answers other.0
]

there_append : (connection : ℕ) (xs ys : List PlacedTake)
    → answers_there connection (xs ++ ys) ≡ answers_there connection xs ++ answers_there connection ys
there_append connection [] ys = refl
there_append connection (x ∷ xs) ys =
    ap (λ (more : List PopAnswer). (if x.connection == connection then x.answer ∷ [] else []) ++ more) (there_append connection xs ys)
    ∙ sym (append_assoc (if x.connection == connection then x.answer ∷ [] else []) (answers_there connection xs)
    (answers_there connection ys))

-- takes that stand between two moments, one list of them after the other
wider : (low less high most : ℕ) (xs : List PopCall) (ys : List PopAnswer) → less ≤ low → high ≤ most
    → AllZip (StandsBetween low high) xs ys → AllZip (StandsBetween less most) xs ys
wider low less high most [] [] le ge h = h
wider low less high most [] (y ∷ ys) le ge h = absurd h
wider low less high most (x ∷ xs) [] le ge h = absurd h
wider low less high most (x ∷ xs) (y ∷ ys) le ge h = (
  record {
    answered = (h.0).answered;
    begun = omega (arith, le, (h.0).begun);
    not_yet = omega (arith, ge, (h.0).not_yet);
  },
  wider low less high most xs ys le ge h.1,
)

both : (low high : ℕ) (xs : List PopCall) (firsts : List PopAnswer) (ys : List PopCall) (seconds : List PopAnswer)
    → AllZip (StandsBetween low high) xs firsts → AllZip (StandsBetween low high) ys seconds
    → AllZip (StandsBetween low high) (xs ++ ys) (firsts ++ seconds)
both low high [] [] ys seconds h g = g
both low high [] (a ∷ firsts) ys seconds h g = absurd h
both low high (x ∷ xs) [] ys seconds h g = absurd h
both low high (x ∷ xs) (a ∷ firsts) ys seconds h g = (h.0, both low high xs firsts ys seconds h.1 g)

now_between : (now high : ℕ) (answers : List PopAnswer) → now < high
    → AllZip (StandsBetween now high) (map (pop_call now now) answers) answers
now_between now high [] below = tt
now_between now high (answer ∷ answers) below =
    (record { answered = refl; begun = omega arith; not_yet = below }, now_between now high answers below)

-- the orders after a step
publisher_begins_orders : (m : World) (who : ℕ) (c : Call) (at : Option PublisherLaneState)
    → (publisher_begins m who c at).orders ≡ m.orders
publisher_begins_orders m who c None = refl
publisher_begins_orders m who c (Some lane) = refl

subscriber_begins_orders : (m : World) (who : ℕ) (c : Call) (at : Option SubscriberLaneState)
    → (subscriber_begins m who c at).orders ≡ m.orders
subscriber_begins_orders m who c None = refl
subscriber_begins_orders m who c (Some lane) = refl

publisher_goes_orders : (m : World) (who : ℕ) (at : Option PublisherLaneState) → (publisher_goes_on m who at).orders ≡ m.orders
publisher_goes_orders m who None = refl
publisher_goes_orders m who (Some lane) = refl

subscriber_goes_orders : (m : World) (who : ℕ) (at : Option SubscriberLaneState) → (subscriber_goes_on m who at).orders ≡ m.orders
subscriber_goes_orders m who None = refl
subscriber_goes_orders m who (Some lane) = refl

goes_orders : (m : World) (party : Party) → (happens m party GoOn).orders
    ≡ added m.orders (connection_at m party) m.moments (acts_at m party)
goes_orders m (Publisher who) = publisher_goes_orders (placed m (Publisher who)) who (slice_get m.publishers who)
goes_orders m (Subscriber who) = subscriber_goes_orders (placed m (Subscriber who)) who (slice_get m.subscribers who)

-- which subscriber takes at a connection
taker : (m : World) (connection : ℕ) (link : LinkState) (who : ℕ) (at : Option SubscriberLaneState) → IsKept m
    → slice_get m.subscribers who ≡ at → slice_get m.links connection ≡ Some link → pops_from (subscriber_stage at) ≡ Some connection
    → link.subscriber ≡ who
taker m connection link who None k e found here = absurd (cc here)
taker m connection link who (Some lane) k e found here = pops_own m who lane connection link e k.within found here

-- what a step takes at a connection
abbrev taken_at : World → Party → Move → ℕ → ℕ → List PopAnswer
taken_at m party step who connection = answers_there connection (if is_receiver party who then step_takes m party step else [])

-- where the step puts, takes or looks there
here_taken : (m : World) (connection : ℕ) (link : LinkState) (party : Party) → IsKept m → slice_get m.links connection ≡ Some link
    → connection_at m party ≡ Some connection → take_values (acts_at m party) ≡ taken_at m party GoOn link.subscriber connection
here_taken m connection link (Publisher who) k found here = publisher_no_takes m.table (publisher_stage (slice_get m.publishers who))
here_taken m connection link (Subscriber who) k found here =
    let same : link.subscriber ≡ who = taker m connection link who (slice_get m.subscribers who) k refl found here in
    let own : is_receiver (Subscriber who) link.subscriber ≡ true = eq-eqb who link.subscriber (sym same) in
    sym (ap (λ (b : Bool). answers_there connection (if b then step_takes m (Subscriber who) GoOn else [])) own
    ∙ on_it connection (connection_at m (Subscriber who)) (take_values (acts_at m (Subscriber who))) here)

-- and where it does so elsewhere, or nowhere
elsewhere_taken : (m : World) (connection who : ℕ) (party : Party) (b : Bool) → (connection_at m party ≡ Some connection → ⊥)
    → answers_there connection (if b then step_takes m party GoOn else []) ≡ []
elsewhere_taken m connection who party true off = off_it connection (connection_at m party) (take_values (acts_at m party)) off
elsewhere_taken m connection who party false off = refl

begin_takes : (m : World) (party : Party) (c : Call) (connection : ℕ) (b : Bool)
    → answers_there connection (if b then step_takes m party (Begin c) else []) ≡ []
begin_takes m party c connection true = refl
begin_takes m party c connection false = refl

-- after a step an order has the takes that it had, and those of the step
record StepTakes (connection moment : ℕ) (before : List Placed) (answers : List PopAnswer) (n : World) : Type 0 where
  order : List Placed
  got : slice_get n.orders connection ≡ Some order
  more : takes order ≡ takes before ++ map (pop_call moment moment) answers

quiet_takes : (m n : World) (connection : ℕ) (before : List Placed) (answers : List PopAnswer) → slice_get m.orders connection ≡ Some before
    → slice_get n.orders connection ≡ slice_get m.orders connection → answers ≡ [] → StepTakes connection m.moments before answers n
quiet_takes m n connection before answers got same none = record {
  order = before;
  got = same ∙ got;
  more = sym (append-nil (takes before))
      ∙ ap (λ (new : List PopAnswer). takes before ++ map (pop_call m.moments m.moments) new) (sym none);
}

goes_takes : (m : World) (party : Party) (connection : ℕ) (link : LinkState) (before : List Placed) → fits m party GoOn ≡ true → IsKept m
    → slice_get m.links connection ≡ Some link → slice_get m.orders connection ≡ Some before
    → StepTakes connection m.moments before (taken_at m party GoOn link.subscriber connection) (happens m party GoOn)
goes_takes m party connection link before fit k found got = elim (stands (connection_at m party) connection) [
  | inl here ↦
      let n : World = happens m party GoOn in
      let after : List Placed = get_or n.orders connection [] in
      let there : slice_get n.orders connection ≡ Some after
      = order_there n connection link (happens_keeps m party GoOn fit k)
      (ap (λ (ls : List LinkState). slice_get ls connection) (links_stay m party GoOn fit) ∙ found) in
      let mid = added_here m.orders (connection_at m party) m.moments (acts_at m party) connection after here
      (ap (λ (os : List (List Placed)). slice_get os connection) (sym (goes_orders m party)) ∙ there) in
      let was : mid.0 ≡ before = some_is mid.0 before (sym mid.1 ∙ got) in
      record {
        order = after;
        got = there;
        more = ap takes mid.2 ∙ takes_more mid.0 m.moments (acts_at m party)
            ∙ ap (λ (order : List Placed). takes order ++ map (pop_call m.moments m.moments) (take_values (acts_at m party))) was
            ∙ ap (λ (new : List PopAnswer). takes before ++ map (pop_call m.moments m.moments) new)
            (here_taken m connection link party k found here);
      }
  | inr off ↦
      quiet_takes m (happens m party GoOn) connection before (taken_at m party GoOn link.subscriber connection) got
      (ap (λ (os : List (List Placed)). slice_get os connection) (goes_orders m party)
      ∙ added_other m.orders (connection_at m party) m.moments (acts_at m party) connection off)
      (elsewhere_taken m connection link.subscriber party (is_receiver party link.subscriber) off)
]

step_follows : (m : World) (party : Party) (step : Move) (connection : ℕ) (link : LinkState) (before : List Placed)
    → fits m party step ≡ true → IsKept m → slice_get m.links connection ≡ Some link → slice_get m.orders connection ≡ Some before
    → StepTakes connection m.moments before (taken_at m party step link.subscriber connection) (happens m party step)
step_follows m (Publisher who) (Begin c) connection link before fit k found got =
    quiet_takes m (happens m (Publisher who) (Begin c)) connection before [] got
    (ap (λ (os : List (List Placed)). slice_get os connection) (publisher_begins_orders m who c (slice_get m.publishers who))) refl
step_follows m (Subscriber who) (Begin c) connection link before fit k found got =
    quiet_takes m (happens m (Subscriber who) (Begin c)) connection before
    (taken_at m (Subscriber who) (Begin c) link.subscriber connection) got
    (ap (λ (os : List (List Placed)). slice_get os connection) (subscriber_begins_orders m who c (slice_get m.subscribers who)))
    (begin_takes m (Subscriber who) c connection (is_receiver (Subscriber who) link.subscriber))
step_follows m (Publisher who) GoOn connection link before fit k found got
    = goes_takes m (Publisher who) connection link before fit k found got
step_follows m (Subscriber who) GoOn connection link before fit k found got
    = goes_takes m (Subscriber who) connection link before fit k found got

-- whatever entries follow
abbrev Follows : World → ℕ → LinkState → List Placed → List Entry → Type 0
Follows m connection link before entries =
    TakesFollow connection m.moments before (own_takes (λ party. is_receiver party link.subscriber) m entries) (led m entries)

one_then : (m : World) (entry : Entry) (entries : List Entry) (connection : ℕ) (link : LinkState) (before : List Placed)
    (s : StepTakes connection m.moments before (taken_at m entry.party entry.step link.subscriber connection)
    (happens m entry.party entry.step))
    → m.moments < (happens m entry.party entry.step).moments
    → (happens m entry.party entry.step).moments ≤ (led (happens m entry.party entry.step) entries).moments
    → Follows (happens m entry.party entry.step) connection link s.order entries
    → TakesFollow connection m.moments before
    ((if is_receiver entry.party link.subscriber then step_takes m entry.party entry.step else [])
    ++ own_takes (λ party. is_receiver party link.subscriber) (happens m entry.party entry.step) entries)
    (led (happens m entry.party entry.step) entries)
one_then m entry entries connection link before s up past rest =
    let n : World = happens m entry.party entry.step in
    let end : World = led n entries in
    let mine : List PlacedTake = if is_receiver entry.party link.subscriber then step_takes m entry.party entry.step else [] in
    let others : List PlacedTake = own_takes (λ party. is_receiver party link.subscriber) n entries in
    let first : List PopCall = map (pop_call m.moments m.moments) (answers_there connection mine) in
    record {
      order = rest.order;
      got = rest.got;
      new = first ++ rest.new;
      more = rest.more ∙ ap (λ (xs : List PopCall). xs ++ rest.new) s.more ∙ append_assoc (takes before) first rest.new;
      stand = subst (AllZip (StandsBetween m.moments end.moments) (first ++ rest.new)) (sym (there_append connection mine others))
          (both m.moments end.moments first (answers_there connection mine) rest.new (answers_there connection others)
          (now_between m.moments end.moments (answers_there connection mine) (omega (arith, up, past)))
          (wider n.moments m.moments end.moments end.moments rest.new (answers_there connection others) (omega (arith, up)) (omega arith)
          rest.stand));
    }

-- what is so of the entries after one is so of it and them
entry_follows : (m : World) (entry : Entry) (entries : List Entry) (connection : ℕ) (link : LinkState) (before : List Placed) (b : Bool)
    → fits m entry.party entry.step ≡ b → IsKept m → (led (after_entry b m entry) entries).moments ≤ 2 ^ 63
    → slice_get m.links connection ≡ Some link → slice_get m.orders connection ≡ Some before
    → ((n : World) (order : List Placed) → IsKept n → (led n entries).moments ≤ 2 ^ 63 → slice_get n.links connection ≡ Some link
    → slice_get n.orders connection ≡ Some order → Follows n connection link order entries)
    → TakesFollow connection m.moments before
    ((if b && is_receiver entry.party link.subscriber then step_takes m entry.party entry.step else [])
    ++ own_takes (λ party. is_receiver party link.subscriber) (after_entry b m entry) entries)
    (led (after_entry b m entry) entries)
entry_follows m entry entries connection link before true e k few found got rest =
    let n : World = happens m entry.party entry.step in
    let next = happens_moments m entry.party entry.step e in
    let past = later n entries few in
    let bound : m.moments < 2 ^ 63 = omega (arith, next, past, few) in
    let s = step_follows m entry.party entry.step connection link before e k found got in
    one_then m entry entries connection link before s (omega (arith, next, one_more m.moments bound)) past
    (rest n s.order (happens_keeps m entry.party entry.step e k) few
    (ap (λ (ls : List LinkState). slice_get ls connection) (links_stay m entry.party entry.step e) ∙ found) s.got)
entry_follows m entry entries connection link before false e k few found got rest = rest m before k few found got

all_follow : (m : World) (entries : List Entry) (connection : ℕ) (link : LinkState) (before : List Placed) → IsKept m
    → (led m entries).moments ≤ 2 ^ 63 → slice_get m.links connection ≡ Some link → slice_get m.orders connection ≡ Some before
    → Follows m connection link before entries
all_follow m [] connection link before k few found got = record {
  order = before;
  got = got;
  new = [];
  more = sym (append-nil (takes before));
  stand = tt;
}
all_follow m (entry ∷ entries) connection link before k few found got =
    entry_follows m entry entries connection link before (fits m entry.party entry.step) refl k few found got
    (λ n order kept less there stands_there. all_follow n entries connection link order kept less there stands_there)

pub steps_take_now : StepsTakeNow
steps_take_now m came party step fit connection link before found got =
    let s = step_follows m party step connection link before fit (came_kept m came).0 found got in (s.order, s.got, s.more)

pub takes_stand_in_order : TakesStandInOrder
takes_stand_in_order m came entries few connection link before found got =
    all_follow m entries connection link before (came_kept m came).0 few found got

-- the takes of an order that rises stand up to where it rises
rises_end : (low : ℕ) (order : List Placed) (high : ℕ) → Rises low order high → low ≤ high
rises_end low [] high h = h
rises_end low (one ∷ order) high h = omega (arith, h.0, rises_end one.moment order high h.1)

act_takes : (moment high : ℕ) (act : Act) → moment ≤ high → All (λ (take : PopCall). take.first ≤ high)
    (map (pop_call moment moment) (take_of act))
act_takes moment high (Put value answer) le = All-nil (λ (take : PopCall). take.first ≤ high)
act_takes moment high (Take answer) le =
    All-cons (λ (take : PopCall). take.first ≤ high) (pop_call moment moment answer) [] le (All-nil (λ (take : PopCall). take.first ≤ high))

rises_takes : (low : ℕ) (order : List Placed) (high : ℕ) → Rises low order high → All (λ (take : PopCall). take.first ≤ high) (takes order)
rises_takes low [] high h = All-nil (λ (take : PopCall). take.first ≤ high)
rises_takes low (one ∷ order) high h =
    All-append (λ (take : PopCall). take.first ≤ high) (map (pop_call one.moment one.moment) (take_of one.act)) (takes order)
    (act_takes one.moment high one.act (rises_end one.moment order high h.1)) (rises_takes one.moment order high h.1)

-- takes that stand after a moment
all_behind : (last low high : ℕ) (xs : List PopCall) (ys : List PopAnswer) → last ≤ low → AllZip (StandsBetween low high) xs ys
    → All (λ (take : PopCall). last ≤ take.first) xs
all_behind last low high [] ys le h = All-nil (λ (take : PopCall). last ≤ take.first)
all_behind last low high (x ∷ xs) [] le h = absurd h
all_behind last low high (x ∷ xs) (y ∷ ys) le h =
    All-cons (λ (take : PopCall). last ≤ take.first) x xs (omega (arith, le, (h.0).begun)) (all_behind last low high xs ys le h.1)

-- where entries lead, one list of them after the other
led_both : (m : World) (entries more : List Entry) → led m (entries ++ more) ≡ led (led m entries) more
led_both m [] more = refl
led_both m (entry ∷ entries) more = led_both (after_entry (fits m entry.party entry.step) m entry) entries more

-- they lead to lanes with these connections
record LeadsWithin (m n : World) : Type 0 where
  kept : IsKept n
  links : n.links ≡ m.links

entry_leads : (m : World) (entry : Entry) (b : Bool) → fits m entry.party entry.step ≡ b → IsKept m → LeadsWithin m (after_entry b m entry)
entry_leads m entry true e k =
    record { kept = happens_keeps m entry.party entry.step e k; links = links_stay m entry.party entry.step e }
entry_leads m entry false e k = record { kept = k; links = refl }

all_lead : (m : World) (entries : List Entry) → IsKept m → LeadsWithin m (led m entries)
all_lead m [] k = record { kept = k; links = refl }
all_lead m (entry ∷ entries) k =
    let next = entry_leads m entry (fits m entry.party entry.step) refl k in
    let rest = all_lead (after_entry (fits m entry.party entry.step) m entry) entries next.kept in
    record { kept = rest.kept; links = rest.links ∙ next.links }

-- a receive that ended, at one of its connections
module _ (m : World) (ended : FinishedCall) (w : WasReceived m ended) (few : m.moments ≤ 2 ^ 63) (connection : ℕ) (link : LinkState)
    (order : List Placed) (found : slice_get m.links connection ≡ Some link) (own : link.subscriber ≡ w.place)
    (got : slice_get m.orders connection ≡ Some order) where
  abbrev begun : World
  begun = happens w.before (Subscriber w.place) (Begin call.Receive)

  abbrev behind : List Entry
  behind = record { party = Subscriber w.place; step = GoOn } ∷ w.behind

  abbrev mid : World
  mid = led begun w.during

  fit : fits w.before (Subscriber w.place) (Begin call.Receive) ≡ true
  fit = ap (λ (at : Option SubscriberLaneState). subscriber_fits_at at (Begin call.Receive)) w.found ∙ w.may

  kept : IsKept w.before
  kept = (came_kept w.before w.came).0

  kept_begun : IsKept begun
  kept_begun = happens_keeps w.before (Subscriber w.place) (Begin call.Receive) fit kept

  to_mid : LeadsWithin begun mid
  to_mid = all_lead begun w.during kept_begun

  to_end : LeadsWithin mid (led mid behind)
  to_end = all_lead mid behind to_mid.kept

  is_end : led mid behind ≡ m
  is_end = sym (led_both begun w.during behind) ∙ w.leads

  found_mid : slice_get mid.links connection ≡ Some link
  found_mid = ap (λ (ls : List LinkState). slice_get ls connection)
      (sym to_end.links ∙ ap (λ (v : World). v.links) is_end) ∙ found

  found_begun : slice_get begun.links connection ≡ Some link
  found_begun = ap (λ (ls : List LinkState). slice_get ls connection) (sym to_mid.links) ∙ found_mid

  found_before : slice_get (w.before).links connection ≡ Some link
  found_before = ap (λ (ls : List LinkState). slice_get ls connection)
      (sym (links_stay w.before (Subscriber w.place) (Begin call.Receive) fit)) ∙ found_begun

  few_end : (led mid behind).moments ≤ 2 ^ 63
  few_end = subst (λ (v : World). v.moments ≤ 2 ^ 63) (sym is_end) few

  few_mid : mid.moments ≤ 2 ^ 63
  few_mid = omega (arith, later mid behind few_end, few_end)

  few_before : (w.before).moments < 2 ^ 63
  few_before = omega (
    arith,
    happens_moments w.before (Subscriber w.place) (Begin call.Receive) fit,
    later begun w.during few_mid,
    few_mid,
  )

  abbrev first_order : List Placed
  first_order = get_or (w.before).orders connection []

  first_there : slice_get (w.before).orders connection ≡ Some first_order
  first_there = order_there w.before connection link kept found_before

  abbrev answers_first : List PopAnswer
  answers_first = taken_at w.before (Subscriber w.place) (Begin call.Receive) link.subscriber connection

  first_step : StepTakes connection (w.before).moments first_order answers_first begun
  first_step = step_follows w.before (Subscriber w.place) (Begin call.Receive) connection link first_order fit kept found_before first_there

  same_takes : takes first_step.order ≡ takes first_order
  same_takes = first_step.more
      ∙ ap (λ (new : List PopAnswer). takes first_order ++ map (pop_call (w.before).moments (w.before).moments) new)
      (begin_takes w.before (Subscriber w.place) call.Receive connection (is_receiver (Subscriber w.place) link.subscriber))
      ∙ append-nil (takes first_order)

  during : Follows begun connection link first_step.order w.during
  during = all_follow begun w.during connection link first_step.order kept_begun few_mid found_begun first_step.got

  rest : Follows mid connection link during.order behind
  rest = all_follow mid behind connection link during.order to_mid.kept few_end found_mid during.got

  same_order : rest.order ≡ order
  same_order = some_is rest.order order
      (sym rest.got ∙ ap (λ (v : World). slice_get v.orders connection) is_end ∙ got)

  inside : AllZip (StandsBetween (ended.first + 1) ended.last) during.new
      (answers_there connection (own_takes (λ party. is_receiver party link.subscriber) begun w.during))
  inside =
      let next = happens_moments w.before (Subscriber w.place) (Begin call.Receive) fit in
      wider begun.moments (ended.first + 1) mid.moments ended.last during.new
      (answers_there connection (own_takes (λ party. is_receiver party link.subscriber) begun w.during))
      (omega (arith, next, one_more (w.before).moments few_before, w.first)) (omega (arith, w.last)) during.stand

  stands_inside : StandInside connection ended.first ended.last order (own_takes (λ party. is_receiver party w.place) begun w.during)
  stands_inside = record {
    earlier = takes first_order;
    here = during.new;
    later = rest.new;
    all = ap takes (sym same_order) ∙ rest.more ∙ ap (λ (xs : List PopCall). xs ++ rest.new)
        (during.more ∙ ap (λ (xs : List PopCall). xs ++ during.new) same_takes);
    before = subst (λ (first : ℕ). All (λ (take : PopCall). take.first ≤ first) (takes first_order)) (sym w.first)
        (rises_takes 0 first_order (w.before).moments
        (((kept.rings (omega (arith, few_before))) connection link first_order found_before first_there).mailbox).rises);
    inside = subst (λ (who : ℕ). AllZip (StandsBetween (ended.first + 1) ended.last) during.new
        (answers_there connection (own_takes (λ party. is_receiver party who) begun w.during))) own inside;
    behind = all_behind ended.last mid.moments (led mid behind).moments rest.new _ (omega (arith, w.last)) rest.stand;
  }

pub receives_stand_in_order : ReceivesStandInOrder
receives_stand_in_order m came few ended has is = record {
  was = finished_receives_follow m came few ended has is;
  stands = λ connection link order found own got.
      stands_inside m ended (finished_receives_follow m came few ended has is) few connection link order found own got;
}

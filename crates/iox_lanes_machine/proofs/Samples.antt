-- The samples that a subscriber borrows, step by step.
use Rattle.std.proofs.Common.{ℕ, ◌≡◌, ◌+◌, ◌-◌, ◌<◌, ◌==◌, ◌||◌, Bool, true, false, if◌then◌else◌, nat_lt, List, length, get_or}
use Rattle.std.proofs.Common.{slice_get, Option, Some, None, refl, sym, ◌∙◌, ap, subst, inl, inr, arith}
use Rattle.std.proofs.lemmas.Bool.{cases_lt}
use Rattle.std.proofs.lemmas.Bool.Decides.{eqb_tells}
use Rattle.std.proofs.lemmas.List.{get_or_past}
use Rattle.iox_lanes_parties.specs.QueuesSteps.Access.{successor}
use Rattle.iox_lanes_parties.specs.QueuesSteps.declared.order.PushAnswer.{PushAnswer}
use Rattle.iox_lanes_parties.specs.QueuesSteps.declared.order.PushAnswer.TheVariants.{Kept, LeftOut, Refused}
use Rattle.iox_lanes_parties.specs.QueuesSteps.declared.order.PopAnswer.{PopAnswer}
use Rattle.iox_lanes_parties.specs.QueuesSteps.declared.order.PopAnswer.TheVariants.{Got, Saw}
use Rattle.iox_lanes_parties.specs.QueuesSteps.Refusing as refusing
use Rattle.iox_lanes_parties.specs.QueuesSteps.declared.rings.refusing.push.Push as refusing_push_type
use Rattle.iox_lanes_parties.specs.QueuesSteps.declared.rings.refusing.push.Push.TheVariants as refusing_push
use Rattle.iox_lanes_parties.specs.QueuesSteps.Ends.{pop_take}
use Rattle.iox_lanes_parties.specs.QueuesSteps.declared.rings.ends.Pop.{Pop}
use Rattle.iox_lanes_parties.specs.LanesBase.Answers.{pop_answer, refusing_push_answer}
use Rattle.iox_lanes_parties.specs.LanesBase.Subscribing.{subscriber_is_idle, subscriber_take, subscriber_change, receive_from, received}
use Rattle.iox_lanes_parties.specs.LanesBase.Subscribing.{is_full_at, released, given_back_by, borrowed_by}
use Rattle.iox_lanes_parties.specs.LanesBase.declared.calls.route.Route.{Route}
use Rattle.iox_lanes_parties.specs.LanesBase.declared.calls.subscriber.SlotExtent.{SlotExtent}
use Rattle.iox_lanes_parties.specs.LanesBase.declared.calls.subscriber.SubscriberCall.{SubscriberCall}
use Rattle.iox_lanes_parties.specs.LanesBase.declared.calls.subscriber.SubscriberCall.TheVariants as subscribing
use Rattle.iox_lanes_parties.specs.LanesBase.declared.calls.subscriber.SubscriberChange.{SubscriberChange}
use Rattle.iox_lanes_parties.specs.LanesBase.declared.calls.subscriber.SubscriberChange.TheVariants as change
use Rattle.iox_lanes_parties.specs.PublisherKeeping.{put_at}
use Rattle.iox_lanes_parties.specs.Keeping.{SubscriberState, changed}
use Rattle.iox_lanes_parties.specs.Parties.{SubscriberLaneState, is_borrowed, place_of, route_at, release_begun, subscriber_may}
use Rattle.iox_lanes_parties.specs.Parties.{subscriber_fits, subscriber_begun}
use Rattle.iox_lanes_parties.specs.declared.call.Call.{Call}
use Rattle.iox_lanes_parties.specs.declared.call.Call.TheVariants as call
use Rattle.iox_lanes_parties.specs.declared.call.Move.TheVariants.{Begin}
use Rattle.iox_lanes_parties.proofs.Rings.{and_right}
use Rattle.iox_lanes_machine.specs.Borrowing.{is_at, borrows, IsBorrowedAt, ArePlaced, GivesBorrowed, UsesBorrowed}
use Rattle.iox_lanes_machine.specs.LedgerUses.{one_if, count}
use Rattle.iox_lanes_machine.proofs.Changes.{borrowed_in, returned_in, IsOwnChangeAt}
use Rattle.iox_lanes_machine.proofs.Entries.{put_at_length, put_at_same, put_at_other}

-- the samples after a change
abbrev pub samples_after : SubscriberChange → List (Option ℕ) → List (Option ℕ)
samples_after change.Nothing samples = samples
samples_after (change.Borrow place slot) samples = put_at samples slot (Some place)
samples_after (change.Note word value) samples = samples
samples_after (change.GiveBack place slot) samples = put_at samples slot None

pub samples_are : (c : SubscriberChange) (state : SubscriberState) → (changed c state).samples ≡ samples_after c state.samples
samples_are change.Nothing state = refl
samples_are (change.Borrow place slot) state = refl
samples_are (change.Note word value) state = refl
samples_are (change.GiveBack place slot) state = refl

pub samples_length : (c : SubscriberChange) (samples : List (Option ℕ)) → length (samples_after c samples) ≡ length samples
samples_length change.Nothing samples = refl
samples_length (change.Borrow place slot) samples = put_at_length samples slot (Some place)
samples_length (change.Note word value) samples = refl
samples_length (change.GiveBack place slot) samples = put_at_length samples slot None

-- a receive reads nothing and gives nothing back
from_borrowed : (samples : List (Option ℕ)) (place : ℕ) (full waits : Bool) (at : Option Route)
    → UsesBorrowed samples (receive_from place full waits at)
from_borrowed samples place full waits None = tt
from_borrowed samples place full waits (Some route) = tt

received_borrowed : (samples : List (Option ℕ)) (routes : List Route) (borrowed : List ℕ) (most place : ℕ) (route : Route) (p : Pop)
    (waits : Bool) (a : Option PopAnswer) → UsesBorrowed samples (received routes borrowed most place route p waits a)
received_borrowed samples routes borrowed most place route p waits None = tt
received_borrowed samples routes borrowed most place route p waits (Some (Got (Some slot))) = tt
received_borrowed samples routes borrowed most place route p waits (Some (Got None))
    = from_borrowed samples (successor place) (is_full_at borrowed most (successor place)) waits (slice_get routes (successor place))
received_borrowed samples routes borrowed most place route p waits (Some (Saw some))
    = from_borrowed samples (successor place) (is_full_at borrowed most (successor place)) (waits || some)
    (slice_get routes (successor place))

read_borrowed : (samples : List (Option ℕ)) (slot word : ℕ) (extent : SlotExtent) (test : Bool)
    → is_borrowed (get_or samples slot None) ≡ true
    → UsesBorrowed samples (if test then subscribing.Reading slot word extent else subscribing.WasRead slot)
read_borrowed samples slot word extent true h = h
read_borrowed samples slot word extent false h = h

-- a release whose push goes on
gives_on : (samples : List (Option ℕ)) (place : ℕ) (p : refusing_push_type.Push) (a : ℕ) → GivesBorrowed samples place p
    → GivesBorrowed (samples_after (given_back_by place p) samples) place (refusing.push_take p a)
gives_on samples place refusing_push.Idle a h = tt
gives_on samples place (refusing_push.Begun limit value) a h = h
gives_on samples place (refusing_push.SawWrite limit value write next) a h = by_test (nat_lt (write - a) limit)
  where
    by_test : (b : Bool) → GivesBorrowed samples place
        (if b then refusing_push.SawRoom value write next else refusing_push.Pushed value Refused)
    by_test true = h
    by_test false = tt
gives_on samples place (refusing_push.SawRoom value write next) a h = h
gives_on samples place (refusing_push.Filled value next) a h = tt
gives_on samples place (refusing_push.Pushed value answered) a h = tt

released_borrowed : (samples : List (Option ℕ)) (place : ℕ) (route : Route) (p : refusing_push_type.Push) (a : Option PushAnswer)
    → GivesBorrowed samples place p → UsesBorrowed samples (released place route p a)
released_borrowed samples place route p None h = h
released_borrowed samples place route p (Some Kept) h = tt
released_borrowed samples place route p (Some (LeftOut oldest)) h = tt
released_borrowed samples place route p (Some Refused) h = tt

pub take_borrowed : (samples : List (Option ℕ)) (routes : List Route) (borrowed : List ℕ) (most : ℕ) (c : SubscriberCall) (a : ℕ)
    → UsesBorrowed samples c → UsesBorrowed (samples_after (subscriber_change c a) samples) (subscriber_take routes borrowed most c a)
take_borrowed samples routes borrowed most subscribing.Idle a h = tt
take_borrowed samples routes borrowed most (subscribing.Receiving place route p waits) a h
    = received_borrowed (samples_after (borrowed_by place (pop_answer (pop_take p a))) samples) routes borrowed most place route
    (pop_take p a) waits (pop_answer (pop_take p a))
take_borrowed samples routes borrowed most (subscribing.Received given) a h = tt
take_borrowed samples routes borrowed most (subscribing.Reading slot word extent) a h
    = read_borrowed samples slot (successor word) extent (nat_lt (successor word) (3 + extent.user_header_words + extent.payload_words)) h
take_borrowed samples routes borrowed most (subscribing.WasRead slot) a h = tt
take_borrowed samples routes borrowed most (subscribing.Releasing place route p) a h
    = released_borrowed (samples_after (given_back_by place p) samples) place route (refusing.push_take p a)
    (refusing_push_answer (refusing.push_take p a)) (gives_on samples place p a h)
take_borrowed samples routes borrowed most (subscribing.Released done) a h = tt

-- a begin
release_borrowed : (moment sample : ℕ) (at : Option ℕ) (to : Option Route) (lane : SubscriberLaneState) → place_of sample lane ≡ at
    → UsesBorrowed lane.port.samples lane.port.call
    → UsesBorrowed (release_begun moment sample at to lane).port.samples (release_begun moment sample at to lane).port.call
release_borrowed moment sample None to lane e h = h
release_borrowed moment sample (Some place) None lane e h = h
release_borrowed moment sample (Some place) (Some route) lane e h = e

pub begun_borrowed : (moment : ℕ) (c : Call) (lane : SubscriberLaneState) → subscriber_fits lane (Begin c) ≡ true
    → UsesBorrowed lane.port.samples lane.port.call
    → UsesBorrowed (subscriber_begun moment c lane).port.samples (subscriber_begun moment c lane).port.call
begun_borrowed moment call.LoanUninit lane fit h = h
begun_borrowed moment (call.Write loan payload user_header) lane fit h = h
begun_borrowed moment (call.Send loan) lane fit h = h
begun_borrowed moment (call.DropLoan loan) lane fit h = h
begun_borrowed moment call.Receive lane fit h
    = from_borrowed lane.port.samples 0 (is_full_at lane.port.borrowed lane.port.most_borrowed 0) false (slice_get lane.port.routes 0)
begun_borrowed moment (call.Read sample) lane fit h =
    read_borrowed lane.port.samples sample 0 lane.port.extent
    (nat_lt 0 (3 + lane.port.extent.user_header_words + lane.port.extent.payload_words))
    (and_right (subscriber_is_idle lane.port.call) (subscriber_may lane (call.Read sample)) fit)
begun_borrowed moment (call.Release sample) lane fit h
    = release_borrowed moment sample (place_of sample lane) (route_at (place_of sample lane) lane) lane refl h

release_samples : (moment sample : ℕ) (at : Option ℕ) (to : Option Route) (lane : SubscriberLaneState)
    → (release_begun moment sample at to lane).port.samples ≡ lane.port.samples
release_samples moment sample None to lane = refl
release_samples moment sample (Some place) None lane = refl
release_samples moment sample (Some place) (Some route) lane = refl

pub begun_samples : (moment : ℕ) (c : Call) (lane : SubscriberLaneState) → (subscriber_begun moment c lane).port.samples ≡ lane.port.samples
begun_samples moment call.LoanUninit lane = refl
begun_samples moment (call.Write loan payload user_header) lane = refl
begun_samples moment (call.Send loan) lane = refl
begun_samples moment (call.DropLoan loan) lane = refl
begun_samples moment call.Receive lane = refl
begun_samples moment (call.Read sample) lane = refl
begun_samples moment (call.Release sample) lane
    = release_samples moment sample (place_of sample lane) (route_at (place_of sample lane) lane) lane

-- the connections stay, so what stands for a slot does
route_same : (lane after : SubscriberLaneState) (at : Option ℕ) → after.port.routes ≡ lane.port.routes
    → route_at at after ≡ route_at at lane
route_same lane after None e = refl
route_same lane after (Some place) e = ap (λ (rs : List Route). slice_get rs place) e

pub borrows_same : (lane after : SubscriberLaneState) (connection slot : ℕ) → after.port.routes ≡ lane.port.routes
    → get_or after.port.samples slot None ≡ get_or lane.port.samples slot None
    → borrows connection slot (Some after) ≡ borrows connection slot (Some lane)
borrows_same lane after connection slot e h
    = ap (is_at connection) (route_same lane after (place_of slot after) e ∙ ap (λ (at : Option ℕ). route_at at lane) h)

pub borrows_is : (lane : SubscriberLaneState) (connection slot : ℕ) (at : Option ℕ) → get_or lane.port.samples slot None ≡ at
    → borrows connection slot (Some lane) ≡ is_at connection (route_at at lane)
borrows_is lane connection slot at h = ap (λ (o : Option ℕ). is_at connection (route_at o lane)) h

-- a slot that is borrowed is one of the service
pub borrowed_within : (samples : List (Option ℕ)) (place slot : ℕ) → IsBorrowedAt samples place slot → slot < length samples
borrowed_within samples place slot h = elim (cases_lt slot (length samples)) [
  | inl lt ↦ lt
  | inr past ↦ absurd (cc (sym h ∙ get_or_past samples slot None past))
]

-- what a change wants of the slot that it borrows or gives back: one of the service that isn't borrowed of this connection yet,
-- or one that is borrowed at its place
abbrev pub OwnFits : SubscriberLaneState → ℕ → ℕ → SubscriberChange → Type 0
OwnFits lane connection at change.Nothing = Unit {0}
OwnFits lane connection at (change.Borrow place slot) = (slot < length lane.port.samples) × (borrows connection slot (Some lane) ≡ false)
OwnFits lane connection at (change.Note word value) = Unit {0}
OwnFits lane connection at (change.GiveBack place slot) = IsBorrowedAt lane.port.samples at slot

-- a subscriber and itself after a change
pub record Changes (lane after : SubscriberLaneState) (c : SubscriberChange) : Type 0 where
  pub routes : after.port.routes ≡ lane.port.routes
  pub samples : after.port.samples ≡ samples_after c lane.port.samples

at_own : (connection at : ℕ) (route : Route) (lane : SubscriberLaneState) (b : Bool) → slice_get lane.port.routes at ≡ Some route
    → (route.connection == connection) ≡ b → is_at connection (route_at (Some at) lane) ≡ b
at_own connection at route lane b here e = ap (is_at connection) here ∙ e

changed_here : (lane after : SubscriberLaneState) (slot : ℕ) (value : Option ℕ) (connection : ℕ) → after.port.routes ≡ lane.port.routes
    → after.port.samples ≡ put_at lane.port.samples slot value → slot < length lane.port.samples
    → borrows connection slot (Some after) ≡ is_at connection (route_at value lane)
changed_here lane after slot value connection routes samples below =
    borrows_is after connection slot value
    (ap (λ (xs : List (Option ℕ)). get_or xs slot None) samples ∙ put_at_same lane.port.samples slot value None below) ∙ ap
    (is_at connection) (route_same lane after value routes)

changed_other : (lane after : SubscriberLaneState) (slot other : ℕ) (value : Option ℕ) (connection : ℕ)
    → after.port.routes ≡ lane.port.routes → after.port.samples ≡ put_at lane.port.samples slot value → (slot ≡ other → ⊥)
    → borrows connection other (Some after) ≡ borrows connection other (Some lane)
changed_other lane after slot other value connection routes samples not =
    borrows_same lane after connection other routes
    (ap (λ (xs : List (Option ℕ)). get_or xs other None) samples ∙ put_at_other lane.port.samples slot other value None
    (λ e. not (sym e)))

-- at its own connection a change adds what it borrows, and takes away what it gives back
pub own_there : (lane after : SubscriberLaneState) (connection at : ℕ) (route : Route) (c : SubscriberChange) → Changes lane after c
    → IsOwnChangeAt at c → slice_get lane.port.routes at ≡ Some route → (route.connection == connection) ≡ true
    → OwnFits lane connection at c
    → (s : ℕ) → one_if (borrows connection s (Some after)) + count s (returned_in c)
    ≡ one_if (borrows connection s (Some lane)) + count s (borrowed_in c)
own_there lane after connection at route change.Nothing k own here same fits s
    = ap (λ (b : Bool). one_if b + 0)
    (borrows_same lane after connection s k.routes (ap (λ (xs : List (Option ℕ)). get_or xs s None) k.samples))
own_there lane after connection at route (change.Note word value) k own here same fits s
    = ap (λ (b : Bool). one_if b + 0)
    (borrows_same lane after connection s k.routes (ap (λ (xs : List (Option ℕ)). get_or xs s None) k.samples))
own_there lane after connection at route (change.Borrow place slot) k own here same fits s = elim (eqb_tells slot s) [
  | inl is ↦
      let now : borrows connection slot (Some after) ≡ true
      = changed_here lane after slot (Some place) connection k.routes k.samples fits.0 ∙ ap
      (λ (p : ℕ). is_at connection (route_at (Some p) lane)) own ∙ at_own connection at route lane true here same in
      omega (
        arith,
        ap one_if is.0,
        ap (λ (x : ℕ). one_if (borrows connection x (Some after))) is.1,
        ap
            (λ (x : ℕ). one_if (borrows connection x (Some lane))) is.1,
        ap one_if now,
        ap one_if fits.1,
      )
  | inr other ↦ omega (
    arith,
    ap one_if other.0,
    ap one_if
        (changed_other lane after slot s (Some place) connection k.routes k.samples other.1),
  )
]
own_there lane after connection at route (change.GiveBack place slot) k own here same fits s = elim (eqb_tells slot s) [
  | inl is ↦
      let now : borrows connection slot (Some after) ≡ false
      = changed_here lane after slot None connection k.routes k.samples (borrowed_within lane.port.samples at slot fits) in
      let was : borrows connection slot (Some lane) ≡ true
      = borrows_is lane connection slot (Some at) fits ∙ at_own connection at route lane true here same in
      omega (
        arith,
        ap one_if is.0,
        ap (λ (x : ℕ). one_if (borrows connection x (Some after))) is.1,
        ap
            (λ (x : ℕ). one_if (borrows connection x (Some lane))) is.1,
        ap one_if now,
        ap one_if was,
      )
  | inr other ↦ omega (arith, ap one_if other.0, ap one_if (changed_other lane after slot s None connection k.routes k.samples other.1))
]

-- at others it changes nothing
pub own_elsewhere : (lane after : SubscriberLaneState) (connection at : ℕ) (route : Route) (c : SubscriberChange) → Changes lane after c
    → IsOwnChangeAt at c → slice_get lane.port.routes at ≡ Some route → (route.connection == connection) ≡ false
    → OwnFits lane connection at c
    → (s : ℕ) → borrows connection s (Some after) ≡ borrows connection s (Some lane)
own_elsewhere lane after connection at route change.Nothing k own here not fits s
    = borrows_same lane after connection s k.routes (ap (λ (xs : List (Option ℕ)). get_or xs s None) k.samples)
own_elsewhere lane after connection at route (change.Note word value) k own here not fits s
    = borrows_same lane after connection s k.routes (ap (λ (xs : List (Option ℕ)). get_or xs s None) k.samples)
own_elsewhere lane after connection at route (change.Borrow place slot) k own here not fits s = elim (eqb_tells slot s) [
  | inl is ↦ subst (λ (x : ℕ). borrows connection x (Some after) ≡ borrows connection x (Some lane)) is.1
      (changed_here lane after slot (Some place) connection k.routes k.samples fits.0 ∙ ap
      (λ (p : ℕ). is_at connection (route_at (Some p) lane)) own ∙ at_own connection at route lane false here not ∙ sym fits.1)
  | inr other ↦ changed_other lane after slot s (Some place) connection k.routes k.samples other.1
]
own_elsewhere lane after connection at route (change.GiveBack place slot) k own here not fits s = elim (eqb_tells slot s) [
  | inl is ↦ subst (λ (x : ℕ). borrows connection x (Some after) ≡ borrows connection x (Some lane)) is.1
      (changed_here lane after slot None connection k.routes k.samples (borrowed_within lane.port.samples at slot fits) ∙ sym
      (borrows_is lane connection slot (Some at) fits ∙ at_own connection at route lane false here not))
  | inr other ↦ changed_other lane after slot s None connection k.routes k.samples other.1
]

-- a release gives back what it borrows
pub gives_fit : (lane : SubscriberLaneState) (connection at : ℕ) (p : refusing_push_type.Push) → GivesBorrowed lane.port.samples at p
    → OwnFits lane connection at (given_back_by at p)
gives_fit lane connection at refusing_push.Idle h = tt
gives_fit lane connection at (refusing_push.Begun limit value) h = tt
gives_fit lane connection at (refusing_push.SawWrite limit value write next) h = tt
gives_fit lane connection at (refusing_push.SawRoom value write next) h = tt
gives_fit lane connection at (refusing_push.Filled value next) h = h
gives_fit lane connection at (refusing_push.Pushed value answered) h = tt

-- a receive borrows what it takes
pub takes_fit : (lane : SubscriberLaneState) (connection at : ℕ) (a : Option PopAnswer)
    → ((v : ℕ) → a ≡ Some (Got (Some v)) → (v < length lane.port.samples) × (borrows connection v (Some lane) ≡ false))
    → OwnFits lane connection at (borrowed_by at a)
takes_fit lane connection at None h = tt
takes_fit lane connection at (Some (Got (Some slot))) h = h slot refl
takes_fit lane connection at (Some (Got None)) h = tt
takes_fit lane connection at (Some (Saw some)) h = tt

-- a change borrows of a connection that there is
pub placed_after : (samples : List (Option ℕ)) (connections at : ℕ) (c : SubscriberChange) → IsOwnChangeAt at c → at < connections
    → ArePlaced samples connections → ArePlaced (samples_after c samples) connections
placed_after samples connections at change.Nothing own below h = h
placed_after samples connections at (change.Note word value) own below h = h
placed_after samples connections at (change.Borrow place slot) own below h = λ s p is. elim (eqb_tells slot s) [
  | inl same ↦ elim (cases_lt slot (length samples)) [
    | inl lt ↦
        let now : Some place ≡ Some p = sym (put_at_same samples slot (Some place) None lt) ∙ ap
        (λ (x : ℕ). get_or (put_at samples slot (Some place)) x None) same.1 ∙ is in
        let same_place : place ≡ p = cc now in
        omega (arith, same_place, own, below)
    | inr past ↦
        let none : get_or (put_at samples slot (Some place)) s None ≡ None
        = get_or_past (put_at samples slot (Some place)) s None
        (omega (arith, past, same.1, put_at_length samples slot (Some place))) in
        absurd (cc (sym is ∙ none))
  ]
  | inr other ↦ h s p (sym (put_at_other samples slot s (Some place) None (λ e. other.1 (sym e))) ∙ is)
]
placed_after samples connections at (change.GiveBack place slot) own below h = λ s p is. elim (eqb_tells slot s) [
  | inl same ↦ elim (cases_lt slot (length samples)) [
    | inl lt ↦
        let none : get_or (put_at samples slot None) s None ≡ None
        = ap (λ (x : ℕ). get_or (put_at samples slot None) x None) (sym same.1) ∙ put_at_same samples slot None None lt in
        absurd (cc (sym is ∙ none))
    | inr past ↦
        let none : get_or (put_at samples slot None) s None ≡ None
        = get_or_past (put_at samples slot None) s None (omega (arith, past, same.1, put_at_length samples slot None)) in
        absurd (cc (sym is ∙ none))
  ]
  | inr other ↦ h s p (sym (put_at_other samples slot s None None (λ e. other.1 (sym e))) ∙ is)
]

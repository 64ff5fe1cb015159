-- A subscriber counts what it borrows, step by step.
use Rattle.std.proofs.Common.{ℕ, ◌≡◌, ◌+◌, ◌-◌, ◌<◌, ◌≤◌, ◌^◌, ◌==◌, ◌||◌, not, Bool, true, false, if◌then◌else◌, nat_lt, List, [], ◌∷◌}
use Rattle.std.proofs.Common.{length, get_or, slice_get, Option, Some, None, refl, sym, ◌∙◌, ap, subst, inl, inr, arith}
use Rattle.std.proofs.lemmas.Bool.{ltb-true}
use Rattle.std.proofs.lemmas.Bool.Decides.{eqb_tells}
use Rattle.std.proofs.lemmas.Option.{slice_get_within, slice_get-get_or}
use Rattle.iox_lanes_parties.specs.QueuesSteps.Access.{successor}
use Rattle.iox_lanes_parties.specs.QueuesSteps.declared.order.PushAnswer.TheVariants.{Refused}
use Rattle.iox_lanes_parties.specs.QueuesSteps.declared.order.PopAnswer.{PopAnswer}
use Rattle.iox_lanes_parties.specs.QueuesSteps.declared.order.PopAnswer.TheVariants.{Got, Saw}
use Rattle.iox_lanes_parties.specs.QueuesSteps.declared.rings.overflowing.pop.Pop.TheVariants as overflowing_pop
use Rattle.iox_lanes_parties.specs.QueuesSteps.Refusing as refusing
use Rattle.iox_lanes_parties.specs.QueuesSteps.declared.rings.refusing.push.Push as refusing_push_type
use Rattle.iox_lanes_parties.specs.QueuesSteps.declared.rings.refusing.push.Push.TheVariants as refusing_push
use Rattle.iox_lanes_parties.specs.QueuesSteps.declared.rings.refusing.pop.Pop.TheVariants as refusing_pop
use Rattle.iox_lanes_parties.specs.QueuesSteps.Ends.{pop_take, pop_first}
use Rattle.iox_lanes_parties.specs.QueuesSteps.declared.rings.ends.RingKind.{RingKind}
use Rattle.iox_lanes_parties.specs.QueuesSteps.declared.rings.ends.RingKind.TheVariants as kind
use Rattle.iox_lanes_parties.specs.QueuesSteps.declared.rings.ends.Pop.{Pop}
use Rattle.iox_lanes_parties.specs.QueuesSteps.declared.rings.ends.Pop.TheVariants as ring
use Rattle.iox_lanes_parties.specs.LanesBase.Answers.{pop_answer, refusing_push_answer}
use Rattle.iox_lanes_parties.specs.LanesBase.Subscribing.{subscriber_take, subscriber_change, receive_from, received, released, is_full}
use Rattle.iox_lanes_parties.specs.LanesBase.Subscribing.{is_full_at, borrowed_by, given_back_by}
use Rattle.iox_lanes_parties.specs.LanesBase.declared.calls.route.Route.{Route}
use Rattle.iox_lanes_parties.specs.LanesBase.declared.calls.subscriber.SlotExtent.{SlotExtent}
use Rattle.iox_lanes_parties.specs.LanesBase.declared.calls.subscriber.SubscriberCall.{SubscriberCall}
use Rattle.iox_lanes_parties.specs.LanesBase.declared.calls.subscriber.SubscriberCall.TheVariants as subscribing
use Rattle.iox_lanes_parties.specs.LanesBase.declared.calls.subscriber.SubscriberChange.{SubscriberChange}
use Rattle.iox_lanes_parties.specs.LanesBase.declared.calls.subscriber.SubscriberChange.TheVariants as change
use Rattle.iox_lanes_parties.specs.PublisherKeeping.{put_at}
use Rattle.iox_lanes_parties.specs.Keeping.{SubscriberState, changed, counted_up, counted_down}
use Rattle.iox_lanes_parties.specs.Parties.{SubscriberLaneState}
use Rattle.iox_lanes_machine.specs.Borrowing.{borrows}
use Rattle.iox_lanes_machine.specs.LedgerRooms.{borrowed_of, may_take, MayBorrow, ReleasesOk, CountsBorrowed}
use Rattle.iox_lanes_machine.specs.LedgerUses.{one_if, count, total}
use Rattle.iox_lanes_machine.proofs.Changes.{borrowed_in, returned_in, IsOwnChangeAt}
use Rattle.iox_lanes_machine.proofs.Entries.{total_same, put_at_length, put_at_same, put_at_other}
use Rattle.iox_lanes_machine.proofs.Samples.{samples_length, Changes, OwnFits, own_there, own_elsewhere, borrowed_within, borrows_same}
use Rattle.iox_lanes_machine.proofs.Sums.{sum, total_is, sum_same, sum_plus, sum_count}

-- how many are borrowed of each connection after a change
abbrev pub numbers_after : SubscriberChange → List ℕ → List ℕ
numbers_after change.Nothing borrowed = borrowed
numbers_after (change.Borrow place slot) borrowed = counted_up borrowed place
numbers_after (change.Note word value) borrowed = borrowed
numbers_after (change.GiveBack place slot) borrowed = counted_down borrowed place

-- a subscriber and itself after a change
pub record Alters (lane after : SubscriberLaneState) (c : SubscriberChange) : Type 0 where
  pub samples : Changes lane after c
  pub borrowed : after.port.borrowed ≡ numbers_after c lane.port.borrowed
  pub most : after.port.most_borrowed ≡ lane.port.most_borrowed

pub numbers_are : (c : SubscriberChange) (state : SubscriberState) → ((changed c state).borrowed ≡ numbers_after c state.borrowed)
    × ((changed c state).most_borrowed ≡ state.most_borrowed)
numbers_are change.Nothing state = (refl, refl)
numbers_are (change.Borrow place slot) state = (refl, refl)
numbers_are (change.Note word value) state = (refl, refl)
numbers_are (change.GiveBack place slot) state = (refl, refl)

-- the samples of a connection as a sum
sum_of : (connection : ℕ) (lane : SubscriberLaneState) (n : ℕ) → length lane.port.samples ≡ n
    → borrowed_of connection lane ≡ sum (λ s. one_if (borrows connection s (Some lane))) n
sum_of connection lane n e = ap (total (λ s. borrows connection s (Some lane))) e ∙ total_is (λ s. borrows connection s (Some lane)) n

one_is : (v x : ℕ) → 0 < count x (v ∷ []) → v ≡ x
one_is v x some = elim (eqb_tells v x) [
  | inl same ↦ same.1
  | inr other ↦ absurd (omega (arith, some, ap one_if other.0))
]

within_borrowed : (lane : SubscriberLaneState) (connection at : ℕ) (c : SubscriberChange) → OwnFits lane connection at c → (x : ℕ)
    → 0 < count x (borrowed_in c) → (0 ≤ x) × (x < 0 + length lane.port.samples)
within_borrowed lane connection at change.Nothing fits x some = absurd (omega (arith, some))
within_borrowed lane connection at (change.Borrow place slot) fits x some = let is
    = one_is slot x some in (omega arith, omega (arith, is, fits.0))
within_borrowed lane connection at (change.Note word value) fits x some = absurd (omega (arith, some))
within_borrowed lane connection at (change.GiveBack place slot) fits x some = absurd (omega (arith, some))

within_returned : (lane : SubscriberLaneState) (connection at : ℕ) (c : SubscriberChange) → OwnFits lane connection at c → (x : ℕ)
    → 0 < count x (returned_in c) → (0 ≤ x) × (x < 0 + length lane.port.samples)
within_returned lane connection at change.Nothing fits x some = absurd (omega (arith, some))
within_returned lane connection at (change.Borrow place slot) fits x some = absurd (omega (arith, some))
within_returned lane connection at (change.Note word value) fits x some = absurd (omega (arith, some))
within_returned lane connection at (change.GiveBack place slot) fits x some = let is
    = one_is slot x some in (omega arith, omega (arith, is, borrowed_within lane.port.samples at slot fits))

-- at its own connection a change adds what it borrows, and takes away what it gives back
pub borrowed_there : (lane after : SubscriberLaneState) (at : ℕ) (route : Route) (c : SubscriberChange) → Changes lane after c
    → IsOwnChangeAt at c → slice_get lane.port.routes at ≡ Some route → OwnFits lane route.connection at c
    → borrowed_of route.connection after + length (returned_in c) ≡ borrowed_of route.connection lane + length (borrowed_in c)
borrowed_there lane after at route c k own here fits =
    let n : ℕ = length lane.port.samples in
    let same : length after.port.samples ≡ n = ap (λ (xs : List (Option ℕ)). length xs) k.samples ∙ samples_length c lane.port.samples in
    let now : ℕ → ℕ = λ s. one_if (borrows route.connection s (Some after)) in
    let was : ℕ → ℕ = λ s. one_if (borrows route.connection s (Some lane)) in
    let gone : ℕ → ℕ = λ s. count s (returned_in c) in
    let came : ℕ → ℕ = λ s. count s (borrowed_in c) in
    omega (
      arith,
      sum_of route.connection after n same,
      sum_of route.connection lane n refl,
      all_of n (returned_in c) (within_returned lane route.connection at c fits),
      all_of n (borrowed_in c) (within_borrowed lane route.connection at c fits),
      sum_plus now gone n,
      sum_plus was came n,
      sum_same (λ s. now s + gone s) (λ s. was s + came s) n
          (λ s lt. own_there lane after route.connection at route c k own here (eqb_here route.connection) fits s),
    )
  where
    eqb_here : (n : ℕ) → (n == n) ≡ true
    eqb_here n = elim (eqb_tells n n) [
      | inl same ↦ same.0
      | inr other ↦ absurd (other.1 refl)
    ]

    all_of : (n : ℕ) (xs : List ℕ) → ((x : ℕ) → 0 < count x xs → (0 ≤ x) × (x < 0 + n)) → sum (λ s. count s xs) n ≡ length xs
    all_of n xs h = sum_same (λ s. count s xs) (λ s. count (0 + s) xs) n
        (λ s lt. let e : s ≡ 0 + s = omega arith in ap (λ (i : ℕ). count i xs) e) ∙ sum_count 0 n xs h

-- at others it changes nothing
pub borrowed_elsewhere : (lane after : SubscriberLaneState) (at connection : ℕ) (route : Route) (c : SubscriberChange)
    → Changes lane after c → IsOwnChangeAt at c → slice_get lane.port.routes at ≡ Some route → (route.connection ≡ connection → ⊥)
    → OwnFits lane connection at c
    → borrowed_of connection after ≡ borrowed_of connection lane
borrowed_elsewhere lane after at connection route c k own here apart fits =
    let n : ℕ = length lane.port.samples in
    let same : length after.port.samples ≡ n = ap (λ (xs : List (Option ℕ)). length xs) k.samples ∙ samples_length c lane.port.samples in
    let other : (route.connection == connection) ≡ false = elim (eqb_tells route.connection connection) [
      | inl is ↦ absurd (apart is.1)
      | inr is ↦ is.0
    ] in
    sum_of connection after n same ∙ sum_same _ _ n
    (λ s lt. ap one_if (own_elsewhere lane after connection at route c k own here other fits s)) ∙ sym (sum_of connection lane n refl)

-- what each place of the list says
abbrev pub Numbers : SubscriberLaneState → Type 0
Numbers lane = (place : ℕ) (route : Route) → slice_get lane.port.routes place ≡ Some route
    → (slice_get lane.port.borrowed place ≡ Some (borrowed_of route.connection lane))
    × (borrowed_of route.connection lane ≤ lane.port.most_borrowed)

-- a subscriber's connections, each once
abbrev pub IsOnce : List Route → Type 0
IsOnce routes = (i j : ℕ) (one other : Route) → slice_get routes i ≡ Some one → slice_get routes j ≡ Some other
    → one.connection ≡ other.connection → i ≡ j

some_is : {X : Type 0} (x y : X) → Some x ≡ Some y → x ≡ y
some_is {X} x y e = cc e

-- a number of the list
get_is : (xs : List ℕ) (at x : ℕ) → slice_get xs at ≡ Some x → (at < length xs) × (get_or xs at 0 ≡ x)
get_is xs at x e =
    let below : at < length xs = slice_get_within xs at x e in
    (below, some_is (get_or xs at 0) x (sym (slice_get-get_or xs at 0 below) ∙ e))

is_get : (xs : List ℕ) (at x : ℕ) → at < length xs → get_or xs at 0 ≡ x → slice_get xs at ≡ Some x
is_get xs at x below e = slice_get-get_or xs at 0 below ∙ ap (λ (n : ℕ). Some n) e

put_other : (xs : List ℕ) (at place x y : ℕ) → (place ≡ at → ⊥) → slice_get xs place ≡ Some y → slice_get (put_at xs at x) place ≡ Some y
put_other xs at place x y apart e =
    let was = get_is xs place y e in
    is_get (put_at xs at x) place y (omega (arith, was.0, put_at_length xs at x)) (put_at_other xs at place x 0 apart ∙ was.1)

put_here : (xs : List ℕ) (at x : ℕ) → at < length xs → slice_get (put_at xs at x) at ≡ Some x
put_here xs at x below = is_get (put_at xs at x) at x (omega (arith, below, put_at_length xs at x)) (put_at_same xs at x 0 below)

-- a change that borrows wants room
abbrev pub HasRoom : ℕ → ℕ → SubscriberChange → Type 0
HasRoom borrowed most change.Nothing = Unit {0}
HasRoom borrowed most (change.Borrow place slot) = borrowed < most
HasRoom borrowed most (change.Note word value) = Unit {0}
HasRoom borrowed most (change.GiveBack place slot) = Unit {0}

-- the number of the place itself
number_here : (lane after : SubscriberLaneState) (at : ℕ) (route : Route) (c : SubscriberChange) → Alters lane after c
    → IsOwnChangeAt at c → slice_get lane.port.routes at ≡ Some route → OwnFits lane route.connection at c
    → lane.port.most_borrowed < 2 ^ 62 → HasRoom (borrowed_of route.connection lane) lane.port.most_borrowed c
    → Numbers lane → (slice_get after.port.borrowed at ≡ Some (borrowed_of route.connection after))
    × (borrowed_of route.connection after ≤ after.port.most_borrowed)
number_here lane after at route change.Nothing k own here fits small room h =
    let there = borrowed_there lane after at route change.Nothing k.samples own here fits in
    let same : borrowed_of route.connection lane ≡ borrowed_of route.connection after = omega (arith, there) in (
      ap (λ (xs : List ℕ). slice_get xs at) k.borrowed ∙ (h at route here).0 ∙ ap (λ (n : ℕ). Some n) same,
      omega
          (arith, same, (h at route here).1, k.most),
    )
number_here lane after at route (change.Note word value) k own here fits small room h = absurd own
number_here lane after at route (change.Borrow place slot) k own here fits small room h =
    let there = borrowed_there lane after at route (change.Borrow place slot) k.samples own here fits in
    let was = get_is lane.port.borrowed at (borrowed_of route.connection lane) (h at route here).0 in
    let now : successor (get_or lane.port.borrowed at 0) ≡ borrowed_of route.connection after
    = omega (arith, was.1, there, room, small) in (
      ap (λ (xs : List ℕ). slice_get xs at) k.borrowed ∙ ap (λ (p : ℕ). slice_get (counted_up lane.port.borrowed p) at) own ∙ put_here
          lane.port.borrowed at (successor (get_or lane.port.borrowed at 0)) was.0 ∙ ap (λ (n : ℕ). Some n) now,
      omega (arith, there, room, k.most),
    )
number_here lane after at route (change.GiveBack place slot) k own here fits small room h =
    let there = borrowed_there lane after at route (change.GiveBack place slot) k.samples own here fits in
    let was = get_is lane.port.borrowed at (borrowed_of route.connection lane) (h at route here).0 in
    let now : get_or lane.port.borrowed at 0 - 1 ≡ borrowed_of route.connection after = omega (arith, was.1, there) in (
      ap (λ (xs : List ℕ). slice_get xs at) k.borrowed ∙ ap (λ (p : ℕ). slice_get (counted_down lane.port.borrowed p) at) own ∙ put_here
          lane.port.borrowed at (get_or lane.port.borrowed at 0 - 1) was.0 ∙ ap (λ (n : ℕ). Some n) now,
      omega (arith, there, (h at route here).1, k.most),
    )

-- those of other places
number_there : (at place y : ℕ) (borrowed : List ℕ) (c : SubscriberChange) → IsOwnChangeAt at c → (place ≡ at → ⊥)
    → slice_get borrowed place ≡ Some y → slice_get (numbers_after c borrowed) place ≡ Some y
number_there at place y borrowed change.Nothing own apart e = e
number_there at place y borrowed (change.Borrow p slot) own apart e
    = put_other borrowed p place (successor (get_or borrowed p 0)) y (λ is. apart (is ∙ own)) e
number_there at place y borrowed (change.Note word value) own apart e = e
number_there at place y borrowed (change.GiveBack p slot) own apart e
    = put_other borrowed p place (get_or borrowed p 0 - 1) y (λ is. apart (is ∙ own)) e

pub numbers_follow : (lane after : SubscriberLaneState) (at : ℕ) (route : Route) (c : SubscriberChange) → Alters lane after c
    → IsOwnChangeAt at c → slice_get lane.port.routes at ≡ Some route
    → ((place : ℕ) (other : Route) → slice_get lane.port.routes place ≡ Some other → OwnFits lane other.connection at c)
    → IsOnce lane.port.routes → lane.port.most_borrowed < 2 ^ 62 → HasRoom (borrowed_of route.connection lane) lane.port.most_borrowed c
    → Numbers lane → Numbers after
numbers_follow lane after at route c k own here fits once small room h = λ place other found.
    let was : slice_get lane.port.routes place ≡ Some other = ap (λ (rs : List Route). slice_get rs place) (sym k.samples.routes) ∙ found in
    elim (eqb_tells place at) [
      | inl same ↦
          let is : route ≡ other = some_is route other (sym here ∙ ap (slice_get lane.port.routes) (sym same.1) ∙ was) in
          subst (λ (r : Route). (slice_get after.port.borrowed place ≡ Some (borrowed_of r.connection after))
          × (borrowed_of r.connection after ≤ after.port.most_borrowed)) is
          (subst (λ (p : ℕ). (slice_get after.port.borrowed p ≡ Some (borrowed_of route.connection after))
          × (borrowed_of route.connection after ≤ after.port.most_borrowed)) (sym same.1)
          (number_here lane after at route c k own here (fits at route here) small room h))
      | inr apart ↦
          let away : route.connection ≡ other.connection → ⊥ = λ e. apart.1 (sym (once at place route other here was e)) in
          let same = borrowed_elsewhere lane after at other.connection route c k.samples own here away (fits place other was) in (
            ap (λ (xs : List ℕ). slice_get xs place) k.borrowed ∙ number_there at place (borrowed_of other.connection lane)
                lane.port.borrowed c own apart.1 (h place other was).0 ∙ ap (λ (n : ℕ). Some n) (sym same),
            omega (arith, same, (h place other was).1, k.most),
          )
    ]

-- a pop that may take still might before
took_on : (p : Pop) (a : ℕ) → may_take (pop_take p a) ≡ true → may_take p ≡ true
took_on (ring.Overflowing overflowing_pop.Idle) a h = absurd (cc h)
took_on (ring.Overflowing overflowing_pop.Begun) a h = refl
took_on (ring.Overflowing (overflowing_pop.SawRead seen)) a h = refl
took_on (ring.Overflowing (overflowing_pop.Nonempty seen next)) a h = refl
took_on (ring.Overflowing (overflowing_pop.SawCell seen next value)) a h = refl
took_on (ring.Overflowing (overflowing_pop.Popped got)) a h = absurd (cc h)
took_on (ring.Overflowing overflowing_pop.LookBegun) a h = absurd (cc h)
took_on (ring.Overflowing (overflowing_pop.LookRead seen)) a h = absurd (cc h)
took_on (ring.Overflowing (overflowing_pop.Looked some)) a h = absurd (cc h)
took_on (ring.Refusing refusing_pop.Idle) a h = absurd (cc h)
took_on (ring.Refusing refusing_pop.Begun) a h = refl
took_on (ring.Refusing (refusing_pop.SawRead seen)) a h = refl
took_on (ring.Refusing (refusing_pop.Nonempty seen next)) a h = refl
took_on (ring.Refusing (refusing_pop.SawCell next value)) a h = refl
took_on (ring.Refusing (refusing_pop.Popped got)) a h = absurd (cc h)
took_on (ring.Refusing refusing_pop.LookBegun) a h = absurd (cc h)
took_on (ring.Refusing (refusing_pop.LookRead seen)) a h = absurd (cc h)
took_on (ring.Refusing (refusing_pop.Looked some)) a h = absurd (cc h)

-- so might one that took
took : (p : Pop) (a v : ℕ) → pop_answer (pop_take p a) ≡ Some (Got (Some v)) → may_take p ≡ true
took (ring.Overflowing overflowing_pop.Idle) a v h = absurd (cc h)
took (ring.Overflowing overflowing_pop.Begun) a v h = refl
took (ring.Overflowing (overflowing_pop.SawRead seen)) a v h = refl
took (ring.Overflowing (overflowing_pop.Nonempty seen next)) a v h = refl
took (ring.Overflowing (overflowing_pop.SawCell seen next value)) a v h = refl
took (ring.Overflowing (overflowing_pop.Popped got)) a v h = absurd (cc h)
took (ring.Overflowing overflowing_pop.LookBegun) a v h = absurd (cc h)
took (ring.Overflowing (overflowing_pop.LookRead seen)) a v h = absurd (cc h)
took (ring.Overflowing (overflowing_pop.Looked some)) a v h = absurd (cc h)
took (ring.Refusing refusing_pop.Idle) a v h = absurd (cc h)
took (ring.Refusing refusing_pop.Begun) a v h = refl
took (ring.Refusing (refusing_pop.SawRead seen)) a v h = refl
took (ring.Refusing (refusing_pop.Nonempty seen next)) a v h = refl
took (ring.Refusing (refusing_pop.SawCell next value)) a v h = refl
took (ring.Refusing (refusing_pop.Popped got)) a v h = absurd (cc h)
took (ring.Refusing refusing_pop.LookBegun) a v h = absurd (cc h)
took (ring.Refusing (refusing_pop.LookRead seen)) a v h = absurd (cc h)
took (ring.Refusing (refusing_pop.Looked some)) a v h = absurd (cc h)

-- a receive goes on to a place where it looks, if as many are borrowed as may be
pub from_may : (lane after : SubscriberLaneState) (place : ℕ) (waits : Bool) (at : Option Route) → slice_get lane.port.routes place ≡ at
    → Numbers lane → ((connection : ℕ) → borrowed_of connection after ≡ borrowed_of connection lane)
    → after.port.most_borrowed ≡ lane.port.most_borrowed
    → MayBorrow after (receive_from place (is_full_at lane.port.borrowed lane.port.most_borrowed place) waits at)
from_may lane after place waits None e h same most = tt
from_may lane after place waits (Some route) e h same most
    = λ takes. by_test (nat_lt (borrowed_of route.connection lane) lane.port.most_borrowed) refl
    (subst (λ (b : Bool). may_take (pop_first route.kind b) ≡ true) full_is takes)
  where
    full_is : is_full_at lane.port.borrowed lane.port.most_borrowed place
        ≡ not (nat_lt (borrowed_of route.connection lane) lane.port.most_borrowed)
    full_is = ap (is_full lane.port.most_borrowed) (h place route e).0

    no_look : (k : RingKind) → may_take (pop_first k true) ≡ true → ⊥
    no_look kind.Overflowing t = absurd (cc t)
    no_look kind.Refusing t = absurd (cc t)

    by_test : (b : Bool) → nat_lt (borrowed_of route.connection lane) lane.port.most_borrowed ≡ b
        → may_take (pop_first route.kind (not b)) ≡ true → borrowed_of route.connection after < after.port.most_borrowed
    by_test true is t = omega (arith, ltb-true (borrowed_of route.connection lane) lane.port.most_borrowed is, same route.connection, most)
    by_test false is t = absurd (no_look route.kind t)

-- a change of no sample leaves how many are borrowed
pub borrowed_same : (lane after : SubscriberLaneState) (connection : ℕ) → after.port.routes ≡ lane.port.routes
    → after.port.samples ≡ lane.port.samples → borrowed_of connection after ≡ borrowed_of connection lane
borrowed_same lane after connection routes samples =
    total_same _ _ (length after.port.samples)
    (λ s. borrows_same lane after connection s routes (ap (λ (xs : List (Option ℕ)). get_or xs s None) samples))
    ∙ ap (λ (xs : List (Option ℕ)). total (λ s. borrows connection s (Some lane)) (length xs)) samples

pub quiet_numbers : (lane after : SubscriberLaneState) → after.port.routes ≡ lane.port.routes → after.port.samples ≡ lane.port.samples
    → after.port.borrowed ≡ lane.port.borrowed → after.port.most_borrowed ≡ lane.port.most_borrowed → Numbers lane → Numbers after
quiet_numbers lane after routes samples borrowed most h = λ place route found.
    let was = h place route (ap (λ (rs : List Route). slice_get rs place) (sym routes) ∙ found) in
    let same = borrowed_same lane after route.connection routes samples in
    (ap (λ (xs : List ℕ). slice_get xs place) borrowed ∙ was.0 ∙ ap (λ (n : ℕ). Some n) (sym same), omega (arith, was.1, same, most))

-- the place where a call borrows or gives back fits its change there
abbrev pub FitsAt : SubscriberLaneState → ℕ → ℕ → SubscriberCall → Type 0
FitsAt lane connection a subscribing.Idle = Unit {0}
FitsAt lane connection a (subscribing.Receiving place route p waits)
    = OwnFits lane connection place (borrowed_by place (pop_answer (pop_take p a)))
FitsAt lane connection a (subscribing.Received given) = Unit {0}
FitsAt lane connection a (subscribing.Reading slot word extent) = Unit {0}
FitsAt lane connection a (subscribing.WasRead slot) = Unit {0}
FitsAt lane connection a (subscribing.Releasing place route p) = OwnFits lane connection place (given_back_by place p)
FitsAt lane connection a (subscribing.Released done) = Unit {0}

-- a call stands at a connection of its subscriber
abbrev pub IsPlaced : List Route → SubscriberCall → Type 0
IsPlaced routes subscribing.Idle = Unit {0}
IsPlaced routes (subscribing.Receiving place route p waits) = slice_get routes place ≡ Some route
IsPlaced routes (subscribing.Received given) = Unit {0}
IsPlaced routes (subscribing.Reading slot word extent) = Unit {0}
IsPlaced routes (subscribing.WasRead slot) = Unit {0}
IsPlaced routes (subscribing.Releasing place route p) = slice_get routes place ≡ Some route
IsPlaced routes (subscribing.Released done) = Unit {0}

-- a push of a sample given back that is about to see how full its ring is finds room there
abbrev pub PushFindsRoom : refusing_push_type.Push → ℕ → Type 0
PushFindsRoom refusing_push.Idle a = Unit {0}
PushFindsRoom (refusing_push.Begun limit value) a = Unit {0}
PushFindsRoom (refusing_push.SawWrite limit value write next) a = nat_lt (write - a) limit ≡ true
PushFindsRoom (refusing_push.SawRoom value write next) a = Unit {0}
PushFindsRoom (refusing_push.Filled value next) a = Unit {0}
PushFindsRoom (refusing_push.Pushed value answered) a = Unit {0}

-- so does a release
abbrev pub ReleaseFindsRoom : SubscriberCall → ℕ → Type 0
ReleaseFindsRoom subscribing.Idle a = Unit {0}
ReleaseFindsRoom (subscribing.Receiving place route p waits) a = Unit {0}
ReleaseFindsRoom (subscribing.Received given) a = Unit {0}
ReleaseFindsRoom (subscribing.Reading slot word extent) a = Unit {0}
ReleaseFindsRoom (subscribing.WasRead slot) a = Unit {0}
ReleaseFindsRoom (subscribing.Releasing place route p) a = PushFindsRoom p a
ReleaseFindsRoom (subscribing.Released done) a = Unit {0}

-- what all of it wants to know of a step of a subscriber
pub record Stepping (lane after : SubscriberLaneState) (call : SubscriberCall) (a : ℕ) : Type 0 where
  pub alters : Alters lane after (subscriber_change call a)
  pub stage : lane.port.call ≡ call
  pub taken : after.port.call ≡ subscriber_take lane.port.routes lane.port.borrowed lane.port.most_borrowed call a
  pub fits : (place : ℕ) (route : Route) → slice_get lane.port.routes place ≡ Some route → FitsAt lane route.connection a call
  pub placed : IsPlaced lane.port.routes call
  pub finds : ReleaseFindsRoom call a
  pub once : IsOnce lane.port.routes
  pub small : (place : ℕ) (route : Route) → slice_get lane.port.routes place ≡ Some route → lane.port.most_borrowed < 2 ^ 62
  pub was : CountsBorrowed lane

-- a stage at which nothing is wanted
record IsPlain (lane : SubscriberLaneState) (call : SubscriberCall) : Type 0 where
  may : MayBorrow lane call
  ok : ReleasesOk call

counted_at : (lane after : SubscriberLaneState) (call : SubscriberCall) (a : ℕ) → Stepping lane after call a → Numbers after
    → IsPlain after (subscriber_take lane.port.routes lane.port.borrowed lane.port.most_borrowed call a) → CountsBorrowed after
counted_at lane after call a k numbers plain
    = record { numbers = numbers; may = subst (MayBorrow after) (sym k.taken) plain.may; ok = subst ReleasesOk (sym k.taken) plain.ok }

-- a call that changes no sample
quiet_counts : (lane after : SubscriberLaneState) (call : SubscriberCall) (a : ℕ) → Stepping lane after call a
    → after.port.samples ≡ lane.port.samples → after.port.borrowed ≡ lane.port.borrowed
    → IsPlain after (subscriber_take lane.port.routes lane.port.borrowed lane.port.most_borrowed call a) → CountsBorrowed after
quiet_counts lane after call a k samples borrowed plain
    = counted_at lane after call a k (quiet_numbers lane after k.alters.samples.routes samples borrowed k.alters.most k.was.numbers) plain

read_plain : (lane : SubscriberLaneState) (slot word : ℕ) (extent : SlotExtent) (test : Bool)
    → IsPlain lane (if test then subscribing.Reading slot word extent else subscribing.WasRead slot)
read_plain lane slot word extent true = record { may = tt; ok = tt }
read_plain lane slot word extent false = record { may = tt; ok = tt }

receive_ok : (place : ℕ) (full waits : Bool) (at : Option Route) → ReleasesOk (receive_from place full waits at)
receive_ok place full waits None = tt
receive_ok place full waits (Some route) = tt

-- a receive
borrow_at : (place : ℕ) (a : Option PopAnswer) → IsOwnChangeAt place (borrowed_by place a)
borrow_at place None = tt
borrow_at place (Some (Got (Some slot))) = refl
borrow_at place (Some (Got None)) = tt
borrow_at place (Some (Saw some)) = tt

borrow_room : (p : Pop) (a place borrowed most : ℕ) → (may_take p ≡ true → borrowed < most) → (answer : Option PopAnswer)
    → pop_answer (pop_take p a) ≡ answer → HasRoom borrowed most (borrowed_by place answer)
borrow_room p a place borrowed most h None e = tt
borrow_room p a place borrowed most h (Some (Got (Some slot))) e = h (took p a slot e)
borrow_room p a place borrowed most h (Some (Got None)) e = tt
borrow_room p a place borrowed most h (Some (Saw some)) e = tt

receive_plain : (lane after : SubscriberLaneState) (place : ℕ) (route : Route) (p : Pop) (waits : Bool) (a : ℕ)
    → (may_take p ≡ true → borrowed_of route.connection lane < lane.port.most_borrowed) → Numbers lane
    → after.port.most_borrowed ≡ lane.port.most_borrowed
    → (answer : Option PopAnswer) → pop_answer (pop_take p a) ≡ answer → Changes lane after (borrowed_by place answer)
    → IsPlain after (received lane.port.routes lane.port.borrowed lane.port.most_borrowed place route (pop_take p a) waits answer)
receive_plain lane after place route p waits a h numbers most None e ch =
    record {
      may = λ takes. omega (arith, h (took_on p a takes), borrowed_same lane after route.connection ch.routes ch.samples, most);
      ok
          = tt;
    }
receive_plain lane after place route p waits a h numbers most (Some (Got (Some slot))) e ch = record { may = tt; ok = tt }
receive_plain lane after place route p waits a h numbers most (Some (Got None)) e ch = record {
  may = from_may lane after (successor place) waits (slice_get lane.port.routes (successor place)) refl numbers
      (λ connection. borrowed_same lane after connection ch.routes ch.samples) most;
  ok = receive_ok (successor place) (is_full_at lane.port.borrowed lane.port.most_borrowed (successor place)) waits
      (slice_get lane.port.routes (successor place));
}
receive_plain lane after place route p waits a h numbers most (Some (Saw some)) e ch = record {
  may = from_may lane after (successor place) (waits || some) (slice_get lane.port.routes (successor place)) refl numbers
      (λ connection. borrowed_same lane after connection ch.routes ch.samples) most;
  ok = receive_ok (successor place) (is_full_at lane.port.borrowed lane.port.most_borrowed (successor place)) (waits || some)
      (slice_get lane.port.routes (successor place));
}

-- a release
give_at : (place : ℕ) (p : refusing_push_type.Push) → IsOwnChangeAt place (given_back_by place p)
give_at place refusing_push.Idle = tt
give_at place (refusing_push.Begun limit value) = tt
give_at place (refusing_push.SawWrite limit value write next) = tt
give_at place (refusing_push.SawRoom value write next) = tt
give_at place (refusing_push.Filled value next) = refl
give_at place (refusing_push.Pushed value answered) = tt

give_room : (place borrowed most : ℕ) (p : refusing_push_type.Push) → HasRoom borrowed most (given_back_by place p)
give_room place borrowed most refusing_push.Idle = tt
give_room place borrowed most (refusing_push.Begun limit value) = tt
give_room place borrowed most (refusing_push.SawWrite limit value write next) = tt
give_room place borrowed most (refusing_push.SawRoom value write next) = tt
give_room place borrowed most (refusing_push.Filled value next) = tt
give_room place borrowed most (refusing_push.Pushed value answered) = tt

release_plain : (lane : SubscriberLaneState) (place : ℕ) (route : Route) (p : refusing_push_type.Push) (a : ℕ) → PushFindsRoom p a
    → IsPlain lane (released place route (refusing.push_take p a) (refusing_push_answer (refusing.push_take p a)))
release_plain lane place route refusing_push.Idle a finds = record { may = tt; ok = tt }
release_plain lane place route (refusing_push.Begun limit value) a finds = record { may = tt; ok = tt }
release_plain lane place route (refusing_push.SawWrite limit value write next) a finds = by_test (nat_lt (write - a) limit) finds
  where
    by_test : (b : Bool) → b ≡ true → IsPlain lane
        (released place route (if b then refusing_push.SawRoom value write next else refusing_push.Pushed value Refused)
        (refusing_push_answer (if b then refusing_push.SawRoom value write next else refusing_push.Pushed value Refused)))
    by_test true e = record { may = tt; ok = tt }
    by_test false e = absurd (cc e)
release_plain lane place route (refusing_push.SawRoom value write next) a finds = record { may = tt; ok = tt }
release_plain lane place route (refusing_push.Filled value next) a finds = record { may = tt; ok = refl }
release_plain lane place route (refusing_push.Pushed value answered) a finds = record { may = tt; ok = tt }

pub take_counts : (lane after : SubscriberLaneState) (call : SubscriberCall) (a : ℕ) → Stepping lane after call a → CountsBorrowed after
take_counts lane after subscribing.Idle a k
    = quiet_counts lane after subscribing.Idle a k k.alters.samples.samples k.alters.borrowed (record { may = tt; ok = tt })
take_counts lane after (subscribing.Receiving place route p waits) a k =
    let was : may_take p ≡ true → borrowed_of route.connection lane < lane.port.most_borrowed
    = subst (MayBorrow lane) k.stage (k.was.may) in
    counted_at lane after (subscribing.Receiving place route p waits) a k
    (numbers_follow lane after place route (borrowed_by place (pop_answer (pop_take p a))) k.alters
    (borrow_at place (pop_answer (pop_take p a))) k.placed k.fits k.once (k.small place route k.placed)
    (borrow_room p a place (borrowed_of route.connection lane) lane.port.most_borrowed was (pop_answer (pop_take p a)) refl) k.was.numbers)
    (receive_plain lane after place route p waits a was k.was.numbers k.alters.most (pop_answer (pop_take p a)) refl k.alters.samples)
take_counts lane after (subscribing.Received given) a k
    = quiet_counts lane after (subscribing.Received given) a k k.alters.samples.samples k.alters.borrowed (record { may = tt; ok = tt })
take_counts lane after (subscribing.Reading slot word extent) a k =
    quiet_counts lane after (subscribing.Reading slot word extent) a k k.alters.samples.samples k.alters.borrowed
    (read_plain after slot (successor word) extent (nat_lt (successor word) (3 + extent.user_header_words + extent.payload_words)))
take_counts lane after (subscribing.WasRead slot) a k
    = quiet_counts lane after (subscribing.WasRead slot) a k k.alters.samples.samples k.alters.borrowed (record { may = tt; ok = tt })
take_counts lane after (subscribing.Releasing place route p) a k =
    counted_at lane after (subscribing.Releasing place route p) a k
    (numbers_follow lane after place route (given_back_by place p) k.alters (give_at place p) k.placed k.fits k.once
    (k.small place route k.placed) (give_room place (borrowed_of route.connection lane) lane.port.most_borrowed p) k.was.numbers)
    (release_plain after place route p a k.finds)
take_counts lane after (subscribing.Released done) a k
    = quiet_counts lane after (subscribing.Released done) a k k.alters.samples.samples k.alters.borrowed (record { may = tt; ok = tt })

-- What a call takes back at a connection is at most what its ring of samples given back has cells, from one step to the next.
use Rattle.std.proofs.Common.{ℕ, suc, ◌≡◌, ◌+◌, ◌<◌, ◌≤◌, ◌⊎◌, ◌==◌, Bool, true, false, if◌then◌else◌, List, length}
use Rattle.std.proofs.Common.{slice_get, Option, Some, None, refl, sym, ap, subst, inl, inr, arith}
use Rattle.std.proofs.lemmas.Bool.Decides.{eqb_tells}
use Rattle.iox_lanes_machine.specs.QueuesSteps.Access.{successor}
use Rattle.iox_lanes_machine.specs.QueuesSteps.declared.order.PushAnswer.{PushAnswer}
use Rattle.iox_lanes_machine.specs.QueuesSteps.declared.rings.overflowing.push.Push.TheVariants as overflowing_push
use Rattle.iox_lanes_machine.specs.QueuesSteps.Refusing as refusing
use Rattle.iox_lanes_machine.specs.QueuesSteps.declared.rings.refusing.push.Push.TheVariants as refusing_push
use Rattle.iox_lanes_machine.specs.QueuesSteps.declared.rings.refusing.pop.Pop.{Pop}
use Rattle.iox_lanes_machine.specs.QueuesSteps.declared.rings.refusing.pop.Pop.TheVariants as pop
use Rattle.iox_lanes_machine.specs.QueuesSteps.Ends.{push_take}
use Rattle.iox_lanes_machine.specs.QueuesSteps.declared.rings.ends.Push.{Push}
use Rattle.iox_lanes_machine.specs.QueuesSteps.declared.rings.ends.Push.TheVariants as ring
use Rattle.iox_lanes_machine.specs.LanesBase.Answers.{push_answer, refusing_pop_answer}
use Rattle.iox_lanes_machine.specs.LanesBase.Publishing.{publisher_next, publisher_take, publisher_change, push_change, taken_back}
use Rattle.iox_lanes_machine.specs.LanesBase.Publishing.{loan_from, write_from, head_from, push_from, sweep_from, nothing_sent, counted}
use Rattle.iox_lanes_machine.specs.LanesBase.Publishing.{loan_reclaimed, send_reclaimed, pushed}
use Rattle.iox_lanes_machine.specs.LanesBase.declared.calls.publisher.Delivery.{Delivery}
use Rattle.iox_lanes_machine.specs.LanesBase.declared.calls.publisher.PublisherCall.{PublisherCall}
use Rattle.iox_lanes_machine.specs.LanesBase.declared.calls.publisher.PublisherCall.TheVariants as publishing
use Rattle.iox_lanes_machine.specs.LanesBase.declared.calls.publisher.PublisherChange.{PublisherChange}
use Rattle.iox_lanes_machine.specs.LanesBase.declared.calls.publisher.PublisherChange.TheVariants as change
use Rattle.iox_lanes_machine.specs.LanesBase.declared.calls.route.Route.{Route}
use Rattle.iox_lanes_machine.specs.LanesBase.declared.words.access.SharedAccess.{SharedAccess}
use Rattle.iox_lanes_machine.specs.LanesBase.declared.words.access.SharedAccess.TheVariants.{Load, Store, Exchange, Local}
use Rattle.iox_lanes_machine.specs.LanesParties.PublisherKeeping.{BookState, changed}
use Rattle.iox_lanes_machine.specs.LedgerRooms.{slots_at}
use Rattle.iox_lanes_machine.specs.LedgerUses.{ChangeFits, UsesCounted}
use Rattle.iox_lanes_machine.proofs.Rooms.{slots_there, slots_elsewhere}
use Rattle.iox_lanes_threads_ports.specs.Pace.{HasNotLoaded}
use Rattle.iox_lanes_threads_ports.specs.Paces.{back_at}
use Rattle.iox_lanes_threads_ports.proofs.Pacing.{taken_after}

-- nothing was taken back yet
abbrev pub TookNone : (ℕ → ℕ) → Type 0
TookNone taken = (place : ℕ) → taken place ≡ 0

-- no more was taken back at each of n connections than a ring has cells
abbrev pub TookFew : ℕ → ℕ → (ℕ → ℕ) → Type 0
TookFew cells connections taken = (place : ℕ) → place < connections → taken place ≤ cells

-- nor with what the connection has still
abbrev pub TookOfSlots : ℕ → ℕ → (ℕ → ℕ) → BookState → Type 0
TookOfSlots cells connections taken book = (place : ℕ) → place < connections → taken place + slots_at book place ≤ cells

-- so it is where a pop stands that takes back: from its first load on it is known, and what it found is a slot of the connection's
abbrev pub PopSweeps : ℕ → ℕ → (ℕ → ℕ) → BookState → ℕ → Pop → Type 0
PopSweeps cells connections taken book at pop.Idle = ⊥
PopSweeps cells connections taken book at pop.Begun = TookNone taken ⊎ TookOfSlots cells connections taken book
PopSweeps cells connections taken book at (pop.SawRead seen) = TookOfSlots cells connections taken book
PopSweeps cells connections taken book at (pop.Nonempty seen next) = TookOfSlots cells connections taken book
PopSweeps cells connections taken book at (pop.SawCell next value) =
    TookOfSlots cells connections taken book × ChangeFits connections book (change.TakenBack at value) × UsesCounted connections book
PopSweeps cells connections taken book at (pop.Popped got) = ⊥
PopSweeps cells connections taken book at pop.LookBegun = ⊥
PopSweeps cells connections taken book at (pop.LookRead seen) = ⊥
PopSweeps cells connections taken book at (pop.Looked some) = ⊥

-- and where a call stands: before it takes back, while it does, and after that
abbrev pub CallSweeps : ℕ → ℕ → (ℕ → ℕ) → BookState → PublisherCall → Type 0
CallSweeps cells connections taken book publishing.Idle = TookFew cells connections taken
CallSweeps cells connections taken book (publishing.LoanReclaims at route p) = PopSweeps cells connections taken book at p
CallSweeps cells connections taken book publishing.Lending = TookFew cells connections taken
CallSweeps cells connections taken book (publishing.Writing slot word value) = TookFew cells connections taken
CallSweeps cells connections taken book (publishing.Written slot) = TookFew cells connections taken
CallSweeps cells connections taken book (publishing.Heading slot word value) = TookNone taken
CallSweeps cells connections taken book (publishing.Remembering slot) = TookNone taken
CallSweeps cells connections taken book (publishing.SendReclaims slot at route p) = PopSweeps cells connections taken book at p
CallSweeps cells connections taken book (publishing.Pushing slot at route push delivery) = TookFew cells connections taken
CallSweeps cells connections taken book (publishing.Sent slot delivery) = TookFew cells connections taken
CallSweeps cells connections taken book (publishing.Dropping slot) = TookFew cells connections taken

-- What lanes have of a publisher that stands there: at each connection no more slots than its ring has cells, all uses counted, and
-- its next change fits.
pub record HasItsSlots (cells connections : ℕ) (book : BookState) (c : PublisherCall) : Type 0 where
  pub most : (place : ℕ) → place < connections → slots_at book place ≤ cells
  pub counted : UsesCounted connections book
  pub answer : ℕ
  pub fits : ChangeFits connections book (publisher_change c answer)

-- so it is after an access, if it is a load
abbrev pub IfLoaded : SharedAccess → Type 0 → Type 0
IfLoaded (Load w) holds = holds
IfLoaded (Store w new) holds = Unit {0}
IfLoaded (Exchange w old new) holds = Unit {0}
IfLoaded Local holds = Unit {0}

-- a call that has loaded nothing took nothing back
pub none_taken_first : (cells connections : ℕ) (book : BookState) (c : PublisherCall) → HasNotLoaded c
    → CallSweeps cells connections (λ place. 0) book c
none_taken_first cells connections book publishing.Idle first = λ place below. omega arith
none_taken_first cells connections book (publishing.LoanReclaims at route p) first
    = subst (PopSweeps cells connections (λ place. 0) book at) (sym first) (inl (λ place. refl))
none_taken_first cells connections book publishing.Lending first = λ place below. omega arith
none_taken_first cells connections book (publishing.Writing slot word value) first = λ place below. omega arith
none_taken_first cells connections book (publishing.Written slot) first = λ place below. omega arith
none_taken_first cells connections book (publishing.Heading slot word value) first = λ place. refl
none_taken_first cells connections book (publishing.Remembering slot) first = λ place. refl
none_taken_first cells connections book (publishing.SendReclaims slot at route p) first
    = subst (PopSweeps cells connections (λ place. 0) book at) (sym first) (inl (λ place. refl))
none_taken_first cells connections book (publishing.Pushing slot at route push delivery) first = λ place below. omega arith
none_taken_first cells connections book (publishing.Sent slot delivery) first = λ place below. omega arith
none_taken_first cells connections book (publishing.Dropping slot) first = λ place below. omega arith

module _ (cells connections : ℕ) (taken : ℕ → ℕ) (book : BookState) where
  none_few : TookNone taken → TookFew cells connections taken
  none_few none = λ place below. omega (arith, none place)

  slots_few : TookOfSlots cells connections taken book → TookFew cells connections taken
  slots_few left = λ place below. omega (arith, left place below)

  pop_few : (at : ℕ) (p : Pop) → PopSweeps cells connections taken book at p → TookFew cells connections taken
  pop_few at pop.Idle k = absurd k
  pop_few at pop.Begun k = elim k [
    | inl none ↦ none_few none
    | inr left ↦ slots_few left
  ]
  pop_few at (pop.SawRead seen) k = slots_few k
  pop_few at (pop.Nonempty seen next) k = slots_few k
  pop_few at (pop.SawCell next value) k = slots_few k.0
  pop_few at (pop.Popped got) k = absurd k
  pop_few at pop.LookBegun k = absurd k
  pop_few at (pop.LookRead seen) k = absurd k
  pop_few at (pop.Looked some) k = absurd k

  -- so wherever a call stands, it took few back
  pub sweeps_few : (c : PublisherCall) → CallSweeps cells connections taken book c → TookFew cells connections taken
  sweeps_few publishing.Idle k = k
  sweeps_few (publishing.LoanReclaims at route p) k = pop_few at p k
  sweeps_few publishing.Lending k = k
  sweeps_few (publishing.Writing slot word value) k = k
  sweeps_few (publishing.Written slot) k = k
  sweeps_few (publishing.Heading slot word value) k = none_few k
  sweeps_few (publishing.Remembering slot) k = none_few k
  sweeps_few (publishing.SendReclaims slot at route p) k = pop_few at p k
  sweeps_few (publishing.Pushing slot at route push delivery) k = k
  sweeps_few (publishing.Sent slot delivery) k = k
  sweeps_few (publishing.Dropping slot) k = k

  -- where a call comes to after what it took back
  loan_behind : (n : ℕ) (at : Option Route) → TookOfSlots cells connections taken book
      → CallSweeps cells connections taken book (loan_from n at)
  loan_behind n None left = slots_few left
  loan_behind n (Some route) left = inr left

  push_behind : (slot n : ℕ) (delivery : Delivery) (at : Option Route) → TookFew cells connections taken
      → CallSweeps cells connections taken book (push_from slot n delivery at)
  push_behind slot n delivery None few = few
  push_behind slot n delivery (Some route) few = few

  sweep_behind : (routes : List Route) (slot n : ℕ) (at : Option Route)
      → TookNone taken ⊎ TookOfSlots cells connections taken book
      → CallSweeps cells connections taken book (sweep_from routes slot n at)
  sweep_behind routes slot n None k = push_behind slot 0 nothing_sent (slice_get routes 0) (pop_few 0 pop.Begun k)
  sweep_behind routes slot n (Some route) k = k

  write_behind : (slot n : ℕ) (at : Option ℕ) → TookFew cells connections taken
      → CallSweeps cells connections taken book (write_from slot n at)
  write_behind slot n None few = few
  write_behind slot n (Some value) few = few

  head_behind : (slot n : ℕ) (at : Option ℕ) → TookNone taken → CallSweeps cells connections taken book (head_from slot n at)
  head_behind slot n None none = none
  head_behind slot n (Some value) none = none

  pushed_behind : (routes : List Route) (slot at : ℕ) (route : Route) (push : Push) (delivery : Delivery) (a : Option PushAnswer)
      → TookFew cells connections taken → CallSweeps cells connections taken book (pushed routes slot at route push delivery a)
  pushed_behind routes slot at route push delivery None few = few
  pushed_behind routes slot at route push delivery (Some a) few =
      push_behind slot (successor at) (counted delivery a) (slice_get routes (successor at)) few

-- a push takes nothing back
push_back : (at : ℕ) (push : Push) (n place : ℕ) → back_at place (push_change at push n) ≡ 0
push_back at (ring.Overflowing overflowing_push.Idle) n place = refl
push_back at (ring.Overflowing (overflowing_push.Begun limit value)) n place = refl
push_back at (ring.Overflowing (overflowing_push.SawWrite limit value write next)) n place = refl
push_back at (ring.Overflowing (overflowing_push.SawRead limit value write next seen)) n place = refl
push_back at (ring.Overflowing (overflowing_push.Filled limit value write next seen)) n place = refl
push_back at (ring.Overflowing (overflowing_push.Full value seen next)) n place = refl
push_back at (ring.Overflowing (overflowing_push.SawOldest value seen next oldest)) n place = by_test (n == seen)
  where
    by_test : (b : Bool) → back_at place (if b then change.LeftOut at oldest else change.Nothing) ≡ 0
    by_test true = refl
    by_test false = refl
push_back at (ring.Overflowing (overflowing_push.Pushed value answered)) n place = refl
push_back at (ring.Refusing refusing_push.Idle) n place = refl
push_back at (ring.Refusing (refusing_push.Begun limit value)) n place = refl
push_back at (ring.Refusing (refusing_push.SawWrite limit value write next)) n place = refl
push_back at (ring.Refusing (refusing_push.SawRoom value write next)) n place = refl
push_back at (ring.Refusing (refusing_push.Filled value next)) n place = refl
push_back at (ring.Refusing (refusing_push.Pushed value answered)) n place = refl

-- a sample that is taken back is one of the slots that the connection has no more
one_taken : (cells connections : ℕ) (taken : ℕ → ℕ) (book : BookState) (at value : ℕ) → TookOfSlots cells connections taken book
    → ChangeFits connections book (change.TakenBack at value) → UsesCounted connections book
    → TookOfSlots cells connections (λ place. taken place + back_at place (change.TakenBack at value))
    (changed (change.TakenBack at value) book)
one_taken cells connections taken book at value left fits uses place below = elim (eqb_tells at place) [
  | inl same ↦
      let c : PublisherChange = change.TakenBack at value in
      let one : back_at place c ≡ suc 0 = ap (λ (b : Bool). if b then suc 0 else 0) same.0 in
      omega (
        arith,
        left place below,
        one,
        slots_there connections at (change.TakenBack at value) book refl fits uses,
        ap (slots_at book) same.1,
        ap (slots_at (changed (change.TakenBack at value) book)) same.1,
      )
  | inr other ↦
      let c : PublisherChange = change.TakenBack at value in
      let none : back_at place c ≡ 0 = ap (λ (b : Bool). if b then suc 0 else 0) other.0 in
      omega (
        arith,
        left place below,
        none,
        slots_elsewhere connections at (change.TakenBack at value) book place refl fits (λ e. other.1 (sym e)),
      )
]

module _ (cells : ℕ) (routes : List Route) (stored : List ℕ) (taken : ℕ → ℕ) (book : BookState) where
  abbrev Sweeps : (ℕ → ℕ) → BookState → PublisherCall → Type 0
  Sweeps after own c = CallSweeps cells (length routes) after own c

  -- what a step leaves, if the lanes after a load have it
  abbrev SweepsOn : PublisherCall → ℕ → Type 0
  SweepsOn c n =
      IfLoaded (publisher_next c)
      (HasItsSlots cells (length routes) (changed (publisher_change c n) book) (publisher_take routes stored c n))
      → Sweeps (taken_after taken c n) (changed (publisher_change c n) book) (publisher_take routes stored c n)

  none_on : TookNone taken → TookNone (λ place. taken place + 0)
  none_on none = λ place. omega (arith, none place)

  few_on : TookFew cells (length routes) taken → TookFew cells (length routes) (λ place. taken place + 0)
  few_on few = λ place below. omega (arith, few place below)

  left_on : TookOfSlots cells (length routes) taken book → TookOfSlots cells (length routes) (λ place. taken place + 0) book
  left_on left = λ place below. omega (arith, left place below)

  -- the first load of a call tells how many slots each connection has
  loaded : TookNone taken ⊎ TookOfSlots cells (length routes) taken book
      → ((place : ℕ) → place < length routes → slots_at book place ≤ cells)
      → TookOfSlots cells (length routes) (λ place. taken place + 0) book
  loaded (inl none) most = λ place below. omega (arith, none place, most place below)
  loaded (inr left) most = left_on left

  loan_on : (at : ℕ) (route : Route) (p : Pop) (n : ℕ) → PopSweeps cells (length routes) taken book at p
      → SweepsOn (publishing.LoanReclaims at route p) n
  loan_on at route pop.Idle n k had = absurd k
  loan_on at route pop.Begun n k had =
      let slots : HasItsSlots cells (length routes) book (publishing.LoanReclaims at route (pop.SawRead n)) = had in
      loaded k slots.most
  loan_on at route (pop.SawRead seen) n k had = by_test (n == seen)
    where
      by_test : (b : Bool) → Sweeps
          (λ place. taken place + back_at place (taken_back at (refusing_pop_answer (refusing.pop_emptied b seen))))
          (changed (taken_back at (refusing_pop_answer (refusing.pop_emptied b seen))) book)
          (loan_reclaimed routes at route (refusing.pop_emptied b seen) (refusing_pop_answer (refusing.pop_emptied b seen)))
      by_test true = loan_behind cells (length routes) (λ place. taken place + 0) book (successor at)
          (slice_get routes (successor at)) (left_on k)
      by_test false = left_on k
  loan_on at route (pop.Nonempty seen next) n k had =
      let slots : HasItsSlots cells (length routes) book (publishing.LoanReclaims at route (pop.SawCell next n)) = had in
      (left_on k, slots.fits, slots.counted)
  loan_on at route (pop.SawCell next value) n k had
      = inr (one_taken cells (length routes) taken book at value k.0 k.1 k.2)
  loan_on at route (pop.Popped got) n k had = absurd k
  loan_on at route pop.LookBegun n k had = absurd k
  loan_on at route (pop.LookRead seen) n k had = absurd k
  loan_on at route (pop.Looked some) n k had = absurd k

  send_on : (slot at : ℕ) (route : Route) (p : Pop) (n : ℕ) → PopSweeps cells (length routes) taken book at p
      → SweepsOn (publishing.SendReclaims slot at route p) n
  send_on slot at route pop.Idle n k had = absurd k
  send_on slot at route pop.Begun n k had =
      let slots : HasItsSlots cells (length routes) book (publishing.SendReclaims slot at route (pop.SawRead n)) = had in
      loaded k slots.most
  send_on slot at route (pop.SawRead seen) n k had = by_test (n == seen)
    where
      by_test : (b : Bool) → Sweeps
          (λ place. taken place + back_at place (taken_back at (refusing_pop_answer (refusing.pop_emptied b seen))))
          (changed (taken_back at (refusing_pop_answer (refusing.pop_emptied b seen))) book)
          (send_reclaimed routes slot at route (refusing.pop_emptied b seen) (refusing_pop_answer (refusing.pop_emptied b seen)))
      by_test true = sweep_behind cells (length routes) (λ place. taken place + 0) book routes slot (successor at)
          (slice_get routes (successor at)) (inr (left_on k))
      by_test false = left_on k
  send_on slot at route (pop.Nonempty seen next) n k had =
      let slots : HasItsSlots cells (length routes) book (publishing.SendReclaims slot at route (pop.SawCell next n)) = had in
      (left_on k, slots.fits, slots.counted)
  send_on slot at route (pop.SawCell next value) n k had
      = inr (one_taken cells (length routes) taken book at value k.0 k.1 k.2)
  send_on slot at route (pop.Popped got) n k had = absurd k
  send_on slot at route pop.LookBegun n k had = absurd k
  send_on slot at route (pop.LookRead seen) n k had = absurd k
  send_on slot at route (pop.Looked some) n k had = absurd k

  -- each step keeps it
  pub sweeps_on : (c : PublisherCall) (n : ℕ) → Sweeps taken book c → SweepsOn c n
  sweeps_on publishing.Idle n k had = few_on k
  sweeps_on (publishing.LoanReclaims at route p) n k had = loan_on at route p n k had
  sweeps_on publishing.Lending n k had = few_on k
  sweeps_on (publishing.Writing slot word value) n k had =
      write_behind cells (length routes) (λ place. taken place + 0) book slot (successor word) (slice_get stored (successor word))
      (few_on k)
  sweeps_on (publishing.Written slot) n k had = few_on k
  sweeps_on (publishing.Heading slot word value) n k had =
      head_behind cells (length routes) (λ place. taken place + 0) book slot (successor word) (slice_get stored (successor word))
      (none_on k)
  sweeps_on (publishing.Remembering slot) n k had =
      sweep_behind cells (length routes) (λ place. taken place + 0) (changed (change.Remember slot) book) routes slot 0
      (slice_get routes 0) (inl (none_on k))
  sweeps_on (publishing.SendReclaims slot at route p) n k had = send_on slot at route p n k had
  sweeps_on (publishing.Pushing slot at route push delivery) n k had =
      pushed_behind cells (length routes) (λ place. taken place + back_at place (push_change at push n))
      (changed (push_change at push n) book) routes slot at route (push_take push n) delivery (push_answer (push_take push n))
      (λ place below. omega (arith, k place below, push_back at push n place))
  sweeps_on (publishing.Sent slot delivery) n k had = few_on k
  sweeps_on (publishing.Dropping slot) n k had = few_on k

-- Each step of a publisher's call leaves it fewer, unless it took too many samples back at one connection.
use Rattle.std.proofs.Common.{ℕ, suc, ◌≡◌, ◌+◌, ◌-◌, ◌*◌, ◌<◌, ◌≤◌, ◌^◌, ◌⊎◌, ◌==◌, Bool, true, false, nat_lt, if◌then◌else◌, List}
use Rattle.std.proofs.Common.{length, slice_get, Option, Some, None, refl, ◌∙◌, ap, inl, inr, arith}
use Rattle.std.proofs.lemmas.Bool.{cases_lt, eq-eqb}
use Rattle.std.proofs.lemmas.Option.{slice_get_within}
use Rattle.iox_lanes_machine.specs.QueuesSteps.Access.{successor}
use Rattle.iox_lanes_machine.specs.QueuesSteps.declared.order.PushAnswer.TheVariants.{Kept, LeftOut, Refused}
use Rattle.iox_lanes_machine.specs.QueuesSteps.declared.rings.overflowing.push.Push.TheVariants as overflowing_push
use Rattle.iox_lanes_machine.specs.QueuesSteps.Refusing as refusing
use Rattle.iox_lanes_machine.specs.QueuesSteps.declared.rings.refusing.push.Push.TheVariants as refusing_push
use Rattle.iox_lanes_machine.specs.QueuesSteps.declared.rings.refusing.pop.Pop.{Pop}
use Rattle.iox_lanes_machine.specs.QueuesSteps.declared.rings.refusing.pop.Pop.TheVariants as pop
use Rattle.iox_lanes_machine.specs.QueuesSteps.Ends.{push_begun}
use Rattle.iox_lanes_machine.specs.QueuesSteps.declared.rings.ends.RingKind.{RingKind}
use Rattle.iox_lanes_machine.specs.QueuesSteps.declared.rings.ends.RingKind.TheVariants as kind
use Rattle.iox_lanes_machine.specs.QueuesSteps.declared.rings.ends.Push.{Push}
use Rattle.iox_lanes_machine.specs.QueuesSteps.declared.rings.ends.Push.TheVariants as ring
use Rattle.iox_lanes_machine.specs.LanesBase.Numbers.{IsSmall}
use Rattle.iox_lanes_machine.specs.LanesBase.declared.words.sizes.TableSizes.{TableSizes}
use Rattle.iox_lanes_machine.specs.LanesBase.Answers.{push_answer, refusing_pop_answer}
use Rattle.iox_lanes_machine.specs.LanesBase.Publishing.{publisher_is_over, loan_from, push_from, sweep_from, nothing_sent, counted}
use Rattle.iox_lanes_machine.specs.LanesBase.Publishing.{pushed, taken_back, loan_reclaimed, send_reclaimed, publisher_take}
use Rattle.iox_lanes_machine.specs.LanesBase.Publishing.{publisher_change, write_from, head_from}
use Rattle.iox_lanes_machine.specs.LanesBase.declared.calls.publisher.Delivery.{Delivery}
use Rattle.iox_lanes_machine.specs.LanesBase.declared.calls.publisher.PublisherCall.{PublisherCall}
use Rattle.iox_lanes_machine.specs.LanesBase.declared.calls.publisher.PublisherCall.TheVariants as publishing
use Rattle.iox_lanes_machine.specs.LanesBase.declared.calls.publisher.PublisherChange.TheVariants as change
use Rattle.iox_lanes_machine.specs.LanesBase.declared.calls.route.Route.{Route}
use Rattle.iox_lanes_machine.specs.Pace.{pushing_left, sweeps_left}
use Rattle.iox_lanes_machine.specs.LedgerRooms.{TakesSome, PushGoes}
use Rattle.iox_lanes_machine.specs.LanesParties.Within.{IsAt, IsPublishing}
use Rattle.iox_lanes_threads_ports.specs.Pace.{IsGoing, steps_to_go}
use Rattle.iox_lanes_threads_ports.specs.Paces.{back_at}

-- one connection fewer to take back at
one_sweep : (most connections n : ℕ) → n < connections
    → sweeps_left most (connections - n) ≡ sweeps_left most (connections - n - 1) + (4 * most + 2)
one_sweep most connections n below =
    let e : connections - n ≡ suc (connections - n - 1) = omega (arith, below) in
    ap (λ (k : ℕ). k * (4 * most + 2)) e ∙ row (connections - n - 1) (4 * most + 2)
  where
    row : (k c : ℕ) → suc k * c ≡ k * c + c
    row k c = omega arith

-- Where a call stands next: it is in progress, with at most n steps to go.
pub record GoesOn (sizes : TableSizes) (most connections words left : ℕ) (taken : ℕ → ℕ) (c : PublisherCall) : Type 0 where
  pub going : IsGoing sizes words c
  pub few : steps_to_go most connections words taken c ≤ left

module _ (sizes : TableSizes) (most connections words : ℕ) (routes : List Route) (wide : length routes ≤ connections)
    (small : connections < 2 ^ 62) where
  pub loan_left : (taken : ℕ → ℕ) (n : ℕ) (at : Option Route) → slice_get routes n ≡ at
      → GoesOn sizes most connections words (sweeps_left most (connections - n) + 1) taken (loan_from n at)
  loan_left taken n None e = record { going = tt; few = omega arith }
  loan_left taken n (Some route) e =
      let below : n < length routes = slice_get_within routes n route e in
      record { going = tt; few = omega (arith, one_sweep most connections n (omega (arith, below, wide))) }

  pub push_left : (taken : ℕ → ℕ) (slot n : ℕ) (delivery : Delivery) (at : Option Route) → slice_get routes n ≡ at
      → GoesOn sizes most connections words (6 * (connections - n) + 1) taken (push_from slot n delivery at)
  push_left taken slot n delivery None e = record { going = tt; few = omega arith }
  push_left taken slot n delivery (Some route) e =
      let below : n < length routes = slice_get_within routes n route e in
      record { going = goes route.kind route.limit slot; few = omega (arith, below, wide, six route.kind route.limit slot) }
    where
      six : (k : RingKind) (limit value : ℕ) → pushing_left (push_begun k limit value) ≤ 6
      six kind.Overflowing limit value = omega arith
      six kind.Refusing limit value = omega arith

      goes : (k : RingKind) (limit value : ℕ) → PushGoes (push_begun k limit value)
      goes kind.Overflowing limit value = tt
      goes kind.Refusing limit value = tt

  pub sweep_left : (taken : ℕ → ℕ) (slot n : ℕ) (at : Option Route) → slice_get routes n ≡ at
      → GoesOn sizes most connections words (sweeps_left most (connections - n) + 6 * connections + 1) taken (sweep_from routes slot n at)
  sweep_left taken slot n None e =
      let g = push_left taken slot 0 nothing_sent (slice_get routes 0) refl in
      record { going = g.going; few = omega (arith, g.few) }
  sweep_left taken slot n (Some route) e =
      let below : n < length routes = slice_get_within routes n route e in
      record { going = tt; few = omega (arith, one_sweep most connections n (omega (arith, below, wide))) }

-- too many samples of some connection came back
pub record TooMany (most : ℕ) (routes : List Route) (taken : ℕ → ℕ) : Type 0 where
  pub place : ℕ
  pub route : Route
  pub found : slice_get routes place ≡ Some route
  pub more : most ≤ taken place

-- one more at its own place
here : (at : ℕ) → back_at at (change.TakenBack at 0) ≡ suc 0
here at = ap (λ (b : Bool). if b then suc 0 else 0) (eq-eqb at at refl)

-- what was taken back after a step
abbrev pub taken_after : (ℕ → ℕ) → PublisherCall → ℕ → ℕ → ℕ
taken_after taken c n place = taken place + back_at place (publisher_change c n)

-- a call stands at one of n words, or at a connection of its own
abbrev pub IsPlaced : List Route → ℕ → PublisherCall → Type 0
IsPlaced routes words publishing.Idle = Unit {0}
IsPlaced routes words (publishing.LoanReclaims at route p) = IsAt routes at route
IsPlaced routes words publishing.Lending = Unit {0}
IsPlaced routes words (publishing.Writing slot word value) = (word < words) × (word < 2 ^ 64 - 1)
IsPlaced routes words (publishing.Written slot) = Unit {0}
IsPlaced routes words (publishing.Heading slot word value) = (word < words) × (word < 2 ^ 64 - 1)
IsPlaced routes words (publishing.Remembering slot) = Unit {0}
IsPlaced routes words (publishing.SendReclaims slot at route p) = IsAt routes at route
IsPlaced routes words (publishing.Pushing slot at route push delivery) = IsAt routes at route
IsPlaced routes words (publishing.Sent slot delivery) = Unit {0}
IsPlaced routes words (publishing.Dropping slot) = Unit {0}

pub placed : (sizes : TableSizes) (routes : List Route) (stored : List ℕ) (words : ℕ) (c : PublisherCall) → IsSmall sizes
    → IsGoing sizes words c → IsPublishing sizes routes stored c → IsPlaced routes words c
placed sizes routes stored words publishing.Idle small going is = tt
placed sizes routes stored words (publishing.LoanReclaims at route p) small going is = is
placed sizes routes stored words publishing.Lending small going is = tt
placed sizes routes stored words (publishing.Writing slot word value) small going is
    = let few : 3 + sizes.user_header_words + sizes.payload_words < 2 ^ 64
    = small.slot in (omega (arith, is.1, going), omega (arith, is.1, few))
placed sizes routes stored words (publishing.Written slot) small going is = tt
placed sizes routes stored words (publishing.Heading slot word value) small going is
    = let few : 3 + sizes.user_header_words + sizes.payload_words < 2 ^ 64
    = small.slot in (omega (arith, is.1, going), omega (arith, is.1, few))
placed sizes routes stored words (publishing.Remembering slot) small going is = tt
placed sizes routes stored words (publishing.SendReclaims slot at route p) small going is = is
placed sizes routes stored words (publishing.Pushing slot at route push delivery) small going is = is
placed sizes routes stored words (publishing.Sent slot delivery) small going is = tt
placed sizes routes stored words (publishing.Dropping slot) small going is = tt

-- a call that is in progress has a step to go
pub some_to_go : (sizes : TableSizes) (most connections words : ℕ) (taken : ℕ → ℕ) (c : PublisherCall) → IsGoing sizes words c
    → 0 < steps_to_go most connections words taken c
some_to_go sizes most connections words taken publishing.Idle going = absurd going
some_to_go sizes most connections words taken (publishing.LoanReclaims at route p) going = omega arith
some_to_go sizes most connections words taken publishing.Lending going = omega arith
some_to_go sizes most connections words taken (publishing.Writing slot word value) going = omega arith
some_to_go sizes most connections words taken (publishing.Written slot) going = omega arith
some_to_go sizes most connections words taken (publishing.Heading slot word value) going = omega arith
some_to_go sizes most connections words taken (publishing.Remembering slot) going = omega arith
some_to_go sizes most connections words taken (publishing.SendReclaims slot at route p) going = omega arith
some_to_go sizes most connections words taken (publishing.Pushing slot at route push delivery) going = omega arith
some_to_go sizes most connections words taken (publishing.Sent slot delivery) going = omega arith
some_to_go sizes most connections words taken (publishing.Dropping slot) going = omega arith

-- a step leaves a call that is in progress, with fewer steps to go
pub record Fewer (sizes : TableSizes) (most connections words : ℕ) (routes : List Route) (taken taken' : ℕ → ℕ) (c next : PublisherCall)
    : Type 0 where
  pub going : IsGoing sizes words next
  pub left : (steps_to_go most connections words taken' next < steps_to_go most connections words taken c) ⊎ TooMany most routes taken

module _ (sizes : TableSizes) (most connections words : ℕ) (routes : List Route) (wide : length routes ≤ connections)
    (small : connections < 2 ^ 62) (stored : List ℕ) (taken : ℕ → ℕ) where
  abbrev Falls : PublisherCall → ℕ → Type 0
  Falls c n = Fewer sizes most connections words routes taken (taken_after taken c n) c (publisher_take routes stored c n)

  next_at : (at : ℕ) (route : Route) → slice_get routes at ≡ Some route → (successor at ≡ at + 1)
      × (connections - successor at ≡ connections - at - 1)
  next_at at route found =
      let below : at < length routes = slice_get_within routes at route found in
      let next : successor at ≡ at + 1 = omega (arith, below, wide, small) in
      (next, omega (arith, next))

  loan_falls : (at : ℕ) (route : Route) (p : Pop) (n : ℕ) → slice_get routes at ≡ Some route → TakesSome 1 p
      → Falls (publishing.LoanReclaims at route p) n
  loan_falls at route pop.Idle n found t = absurd t
  loan_falls at route pop.Begun n found t = record { going = tt; left = inl (omega arith) }
  loan_falls at route (pop.SawRead seen) n found t = by_test (n == seen)
    where
      by_test : (b : Bool) → Fewer sizes most connections words routes taken
          (λ place. taken place + back_at place (taken_back at (refusing_pop_answer (refusing.pop_emptied b seen))))
          (publishing.LoanReclaims at route (pop.SawRead seen))
          (loan_reclaimed routes at route (refusing.pop_emptied b seen) (refusing_pop_answer (refusing.pop_emptied b seen)))
      by_test true =
          let left = loan_left sizes most connections words routes wide small (λ place. taken place + 0) (successor at)
          (slice_get routes (successor at)) refl in
          let next = next_at at route found in
          record { going = left.going; left = inl (omega (arith, left.few, ap (sweeps_left most) next.1)) }
      by_test false = record { going = omega arith; left = inl (omega arith) }
  loan_falls at route (pop.Nonempty seen next) n found t = elim (cases_lt (taken at) most) [
    | inl less ↦ record { going = omega arith; left = inl (omega (arith, less)) }
    | inr past ↦ record { going = omega arith; left = inr (record { place = at; route = route; found = found; more = past }) }
  ]
  loan_falls at route (pop.SawCell next value) n found t = elim (cases_lt (taken at) most) [
    | inl less ↦
        let one = here at in
        record { going = tt; left = inl (omega (arith, less, one)) }
    | inr past ↦ record { going = tt; left = inr (record { place = at; route = route; found = found; more = past }) }
  ]
  loan_falls at route (pop.Popped got) n found t = absurd t
  loan_falls at route pop.LookBegun n found t = absurd t
  loan_falls at route (pop.LookRead seen) n found t = absurd t
  loan_falls at route (pop.Looked some) n found t = absurd t

  send_falls : (slot at : ℕ) (route : Route) (p : Pop) (n : ℕ) → slice_get routes at ≡ Some route → TakesSome 1 p
      → Falls (publishing.SendReclaims slot at route p) n
  send_falls slot at route pop.Idle n found t = absurd t
  send_falls slot at route pop.Begun n found t = record { going = tt; left = inl (omega arith) }
  send_falls slot at route (pop.SawRead seen) n found t = by_test (n == seen)
    where
      by_test : (b : Bool) → Fewer sizes most connections words routes taken
          (λ place. taken place + back_at place (taken_back at (refusing_pop_answer (refusing.pop_emptied b seen))))
          (publishing.SendReclaims slot at route (pop.SawRead seen))
          (send_reclaimed routes slot at route (refusing.pop_emptied b seen) (refusing_pop_answer (refusing.pop_emptied b seen)))
      by_test true =
          let left = sweep_left sizes most connections words routes wide small (λ place. taken place + 0) slot (successor at)
          (slice_get routes (successor at)) refl in
          let next = next_at at route found in
          record { going = left.going; left = inl (omega (arith, left.few, ap (sweeps_left most) next.1)) }
      by_test false = record { going = omega arith; left = inl (omega arith) }
  send_falls slot at route (pop.Nonempty seen next) n found t = elim (cases_lt (taken at) most) [
    | inl less ↦ record { going = omega arith; left = inl (omega (arith, less)) }
    | inr past ↦ record { going = omega arith; left = inr (record { place = at; route = route; found = found; more = past }) }
  ]
  send_falls slot at route (pop.SawCell next value) n found t = elim (cases_lt (taken at) most) [
    | inl less ↦
        let one = here at in
        record { going = tt; left = inl (omega (arith, less, one)) }
    | inr past ↦ record { going = tt; left = inr (record { place = at; route = route; found = found; more = past }) }
  ]
  send_falls slot at route (pop.Popped got) n found t = absurd t
  send_falls slot at route pop.LookBegun n found t = absurd t
  send_falls slot at route (pop.LookRead seen) n found t = absurd t
  send_falls slot at route (pop.Looked some) n found t = absurd t

  -- a push that is over goes on to the next connection
  over_left : (taken' : ℕ → ℕ) (slot at : ℕ) (route : Route) (delivery : Delivery) → slice_get routes at ≡ Some route
      → GoesOn sizes most connections words (6 * (connections - at - 1) + 1) taken'
      (push_from slot (successor at) delivery (slice_get routes (successor at)))
  over_left taken' slot at route delivery found =
      let left = push_left sizes most connections words routes wide small taken' slot (successor at) delivery
      (slice_get routes (successor at)) refl in
      let next = next_at at route found in
      record { going = left.going; few = omega (arith, left.few, next.1) }

  over_falls : (taken' : ℕ → ℕ) (slot at : ℕ) (route : Route) (p : Push) (delivery now : Delivery) → slice_get routes at ≡ Some route
      → 0 < pushing_left p
      → Fewer sizes most connections words routes taken taken' (publishing.Pushing slot at route p delivery)
      (push_from slot (successor at) now (slice_get routes (successor at)))
  over_falls taken' slot at route p delivery now found some =
      let left = over_left taken' slot at route now found in
      record { going = left.going; left = inl (omega (arith, some, left.few)) }

  push_falls : (slot at : ℕ) (route : Route) (p : Push) (delivery : Delivery) (n : ℕ) → slice_get routes at ≡ Some route → PushGoes p
      → Fewer sizes most connections words routes taken (taken_after taken (publishing.Pushing slot at route p delivery) n)
      (publishing.Pushing slot at route p delivery) (publisher_take routes stored (publishing.Pushing slot at route p delivery) n)
  push_falls slot at route (ring.Overflowing overflowing_push.Idle) delivery n found goes = absurd goes
  push_falls slot at route (ring.Overflowing (overflowing_push.Begun limit value)) delivery n found goes
      = record { going = tt; left = inl (omega arith) }
  push_falls slot at route (ring.Overflowing (overflowing_push.SawWrite limit value write next)) delivery n found goes
      = record { going = tt; left = inl (omega arith) }
  push_falls slot at route (ring.Overflowing (overflowing_push.SawRead limit value write next seen)) delivery n found goes
      = record { going = tt; left = inl (omega arith) }
  push_falls slot at route (ring.Overflowing (overflowing_push.Filled limit value write next seen)) delivery n found goes
      = by_test (nat_lt limit (next - seen))
    where
      by_test : (b : Bool) → Fewer sizes most connections words routes taken (λ place. taken place + 0)
          (publishing.Pushing slot at route (ring.Overflowing (overflowing_push.Filled limit value write next seen)) delivery)
          (pushed routes slot at route (ring.Overflowing
          (if b then overflowing_push.Full value seen (successor seen) else overflowing_push.Pushed value Kept)) delivery
          (push_answer (ring.Overflowing (if b then overflowing_push.Full value seen (successor seen) else overflowing_push.Pushed value
          Kept))))
      by_test true = record { going = tt; left = inl (omega arith) }
      by_test false = over_falls (λ place. taken place + 0) slot at route
          (ring.Overflowing (overflowing_push.Filled limit value write next seen)) delivery (counted delivery Kept) found (omega arith)
  push_falls slot at route (ring.Overflowing (overflowing_push.Full value seen next)) delivery n found goes
      = record { going = tt; left = inl (omega arith) }
  push_falls slot at route (ring.Overflowing (overflowing_push.SawOldest value seen next oldest)) delivery n found goes
      = by_test (n == seen)
    where
      by_test : (b : Bool) → Fewer sizes most connections words routes taken
          (λ place. taken place + back_at place (if b then change.LeftOut at oldest else change.Nothing))
          (publishing.Pushing slot at route (ring.Overflowing (overflowing_push.SawOldest value seen next oldest)) delivery)
          (push_from slot (successor at) (counted delivery (if b then LeftOut oldest else Kept)) (slice_get routes (successor at)))
      by_test true = over_falls (λ place. taken place + 0) slot at route
          (ring.Overflowing (overflowing_push.SawOldest value seen next oldest)) delivery (counted delivery (LeftOut oldest)) found
          (omega arith)
      by_test false = over_falls (λ place. taken place + 0) slot at route
          (ring.Overflowing (overflowing_push.SawOldest value seen next oldest)) delivery (counted delivery Kept) found (omega arith)
  push_falls slot at route (ring.Overflowing (overflowing_push.Pushed value answered)) delivery n found goes = absurd goes
  push_falls slot at route (ring.Refusing refusing_push.Idle) delivery n found goes = absurd goes
  push_falls slot at route (ring.Refusing (refusing_push.Begun limit value)) delivery n found goes
      = record { going = tt; left = inl (omega arith) }
  push_falls slot at route (ring.Refusing (refusing_push.SawWrite limit value write next)) delivery n found goes
      = by_test (nat_lt (write - n) limit)
    where
      by_test : (b : Bool) → Fewer sizes most connections words routes taken (λ place. taken place + 0)
          (publishing.Pushing slot at route (ring.Refusing (refusing_push.SawWrite limit value write next)) delivery)
          (pushed routes slot at route (ring.Refusing
          (if b then refusing_push.SawRoom value write next else refusing_push.Pushed value Refused)) delivery
          (push_answer (ring.Refusing (if b then refusing_push.SawRoom value write next else refusing_push.Pushed value Refused))))
      by_test true = record { going = tt; left = inl (omega arith) }
      by_test false = over_falls (λ place. taken place + 0) slot at route
          (ring.Refusing (refusing_push.SawWrite limit value write next)) delivery (counted delivery Refused) found (omega arith)
  push_falls slot at route (ring.Refusing (refusing_push.SawRoom value write next)) delivery n found goes
      = record { going = tt; left = inl (omega arith) }
  push_falls slot at route (ring.Refusing (refusing_push.Filled value next)) delivery n found goes =
      over_falls (λ place. taken place + 0) slot at route (ring.Refusing (refusing_push.Filled value next)) delivery
      (counted delivery Kept) found (omega arith)
  push_falls slot at route (ring.Refusing (refusing_push.Pushed value answered)) delivery n found goes = absurd goes

  pub write_left : (taken' : ℕ → ℕ) (slot word : ℕ) (at : Option ℕ) → sizes.payload_words ≤ words
      → GoesOn sizes most connections words (words - word + 1) taken' (write_from slot word at)
  write_left taken' slot word None fit = record { going = tt; few = omega arith }
  write_left taken' slot word (Some value) fit = record { going = fit; few = omega arith }

  pub head_left : (taken' : ℕ → ℕ) (slot word : ℕ) (at : Option ℕ) → 3 + sizes.user_header_words ≤ words
      → GoesOn sizes most connections words (words - word + sweeps_left most connections + 6 * connections + 2) taken'
      (head_from slot word at)
  head_left taken' slot word None fit = record { going = tt; few = omega arith }
  head_left taken' slot word (Some value) fit = record { going = fit; few = omega arith }

  -- each step but the last
  pub steps_fall : (c : PublisherCall) (n : ℕ) → IsGoing sizes words c → publisher_is_over c ≡ false → IsPlaced routes words c → Falls c n
  steps_fall publishing.Idle n going busy is = absurd going
  steps_fall (publishing.LoanReclaims at route p) n going busy is = loan_falls at route p n is going
  steps_fall publishing.Lending n going busy is = absurd (cc busy)
  steps_fall (publishing.Writing slot word value) n going busy is =
      let left = write_left (λ place. taken place + 0) slot (successor word) (slice_get stored (successor word)) going in
      record { going = left.going; left = inl (omega (arith, left.few, is.0, is.1)) }
  steps_fall (publishing.Written slot) n going busy is = absurd (cc busy)
  steps_fall (publishing.Heading slot word value) n going busy is =
      let left = head_left (λ place. taken place + 0) slot (successor word) (slice_get stored (successor word)) going in
      record { going = left.going; left = inl (omega (arith, left.few, is.0, is.1)) }
  steps_fall (publishing.Remembering slot) n going busy is =
      let left = sweep_left sizes most connections words routes wide small (λ place. taken place + 0) slot 0 (slice_get routes 0) refl in
      let all : connections - 0 ≡ connections = omega arith in
      record { going = left.going; left = inl (omega (arith, left.few, ap (sweeps_left most) all)) }
  steps_fall (publishing.SendReclaims slot at route p) n going busy is = send_falls slot at route p n is going
  steps_fall (publishing.Pushing slot at route p delivery) n going busy is = push_falls slot at route p delivery n is going
  steps_fall (publishing.Sent slot delivery) n going busy is = absurd (cc busy)
  steps_fall (publishing.Dropping slot) n going busy is = absurd (cc busy)

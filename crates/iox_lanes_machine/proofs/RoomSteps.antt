-- A step of a publisher leaves room at its connections.
use Rattle.std.proofs.Common.{ℕ, ◌≡◌, ◌+◌, ◌-◌, ◌<◌, ◌≤◌, ◌^◌, ◌==◌, Bool, true, false, nat_lt, if◌then◌else◌, List, [], ◌∷◌, length}
use Rattle.std.proofs.Common.{slice_get, Option, Some, None, refl, sym, ◌∙◌, ap, subst, inl, inr, arith}
use Rattle.std.proofs.lemmas.Bool.{cases_lt}
use Rattle.std.proofs.lemmas.Bool.Decides.{eqb_tells}
use Rattle.std.proofs.lemmas.Option.{slice_get_within, slice_get-get_or}
use Rattle.iox_lanes_parties.specs.QueuesSteps.Access.{successor}
use Rattle.iox_lanes_parties.specs.QueuesSteps.declared.order.PushAnswer.TheVariants.{Kept, LeftOut, Refused}
use Rattle.iox_lanes_parties.specs.QueuesSteps.Refusing as refusing
use Rattle.iox_lanes_parties.specs.QueuesSteps.declared.rings.refusing.pop.Pop.{Pop}
use Rattle.iox_lanes_parties.specs.QueuesSteps.declared.rings.refusing.pop.Pop.TheVariants as pop
use Rattle.iox_lanes_parties.specs.QueuesSteps.declared.rings.ends.RingKind.{RingKind}
use Rattle.iox_lanes_parties.specs.QueuesSteps.declared.rings.ends.RingKind.TheVariants as kind
use Rattle.iox_lanes_parties.specs.QueuesSteps.declared.rings.overflowing.push.Push.TheVariants as overflowing_push
use Rattle.iox_lanes_parties.specs.QueuesSteps.declared.rings.refusing.push.Push.TheVariants as refusing_push
use Rattle.iox_lanes_parties.specs.QueuesSteps.Ends.{push_begun}
use Rattle.iox_lanes_parties.specs.QueuesSteps.declared.rings.ends.Push.{Push}
use Rattle.iox_lanes_parties.specs.QueuesSteps.declared.rings.ends.Push.TheVariants as ring
use Rattle.iox_lanes_parties.specs.LanesBase.Answers.{push_answer, refusing_pop_answer}
use Rattle.iox_lanes_parties.specs.LanesBase.Publishing.{loan_from, push_from, sweep_from, nothing_sent, counted, pushed, taken_back}
use Rattle.iox_lanes_parties.specs.LanesBase.Publishing.{loan_reclaimed, send_reclaimed, publisher_take, publisher_change, push_change}
use Rattle.iox_lanes_parties.specs.LanesBase.Publishing.{write_from, head_from}
use Rattle.iox_lanes_parties.specs.LanesBase.declared.calls.publisher.Delivery.{Delivery}
use Rattle.iox_lanes_parties.specs.LanesBase.declared.calls.publisher.PublisherCall.{PublisherCall}
use Rattle.iox_lanes_parties.specs.LanesBase.declared.calls.publisher.PublisherCall.TheVariants as publishing
use Rattle.iox_lanes_parties.specs.LanesBase.declared.calls.publisher.PublisherChange.{PublisherChange}
use Rattle.iox_lanes_parties.specs.LanesBase.declared.calls.publisher.PublisherChange.TheVariants as change
use Rattle.iox_lanes_parties.specs.LanesBase.declared.calls.route.Route.{Route}
use Rattle.iox_lanes_parties.specs.PublisherKeeping.{BookState, changed}
use Rattle.iox_lanes_machine.specs.LedgerRooms.{slots_at, PushWaits, PushGoes, HasSwept, CallGoes, CountsLoans, HasRooms}
use Rattle.iox_lanes_machine.specs.LedgerUses.{UsesCounted, ChangeFits}
use Rattle.iox_lanes_machine.proofs.Changes.{IsElse}
use Rattle.iox_lanes_machine.proofs.LoanCounts.{counts_after}
use Rattle.iox_lanes_machine.proofs.Rooms.{slots_there, slots_elsewhere, slots_else}
use Rattle.iox_lanes_machine.proofs.Sending.{IsThere}

pub none_within : (routes : List Route) (n : ℕ) → slice_get routes n ≡ None → length routes ≤ n
none_within routes n none = elim (cases_lt n (length routes)) [
  | inl lt ↦ absurd (past routes n lt none)
  | inr ge ↦ ge
]
  where
    past : (xs : List Route) (i : ℕ) → i < length xs → slice_get xs i ≡ None → ⊥
    past [] i lt h = absurd (omega (arith, lt))
    past (x ∷ xs) i lt h = absurd (cc (sym (slice_get-get_or (x ∷ xs) i x lt) ∙ h))

-- places before one have room for a put, or those from one on
abbrev ReadyBefore : ℕ → ℕ → BookState → ℕ → Type 0
ReadyBefore cells connections book n = (place : ℕ) → place < connections → place < n → slots_at book place < cells

abbrev ReadyFrom : ℕ → ℕ → BookState → ℕ → Type 0
ReadyFrom cells connections book n = (place : ℕ) → place < connections → n ≤ place → slots_at book place < cells

-- the same record at another stage
pub restaged : (cells connections : ℕ) (book : BookState) (call after : PublisherCall)
    → ((place : ℕ) → place < connections → HasSwept after place → slots_at book place < cells) → CallGoes book after
    → HasRooms cells connections book call → HasRooms cells connections book after
restaged cells connections book call after swept takes k = record { most = k.most; swept = swept; takes = takes; counts = k.counts }

pub loan_rooms : (cells : ℕ) (routes : List Route) (book : BookState) (call : PublisherCall) (n : ℕ) (at : Option Route)
    → slice_get routes n ≡ at → ReadyBefore cells (length routes) book n → HasRooms cells (length routes) book call
    → HasRooms cells (length routes) book (loan_from n at)
loan_rooms cells routes book call n None e ready k =
    let all : length routes ≤ n = none_within routes n e in
    restaged cells (length routes) book call publishing.Lending (λ place below swept. ready place below (omega (arith, below, all))) tt k
loan_rooms cells routes book call n (Some route) e ready k
    = restaged cells (length routes) book call (publishing.LoanReclaims n route pop.Begun)
    (λ place below swept. ready place below swept) tt k

begun_goes : (k : RingKind) (limit value : ℕ) → PushGoes (push_begun k limit value)
begun_goes kind.Overflowing limit value = tt
begun_goes kind.Refusing limit value = tt

pub push_rooms : (cells : ℕ) (routes : List Route) (book : BookState) (call : PublisherCall) (slot n : ℕ) (delivery : Delivery)
    (at : Option Route) → slice_get routes n ≡ at → ReadyFrom cells (length routes) book n → HasRooms cells (length routes) book call
    → HasRooms cells (length routes) book (push_from slot n delivery at)
push_rooms cells routes book call slot n delivery None e ready k
    = restaged cells (length routes) book call (publishing.Sent slot delivery) (λ place below swept. absurd swept) tt k
push_rooms cells routes book call slot n delivery (Some route) e ready k =
    restaged cells (length routes) book call (publishing.Pushing slot n route (push_begun route.kind route.limit slot) delivery)
    (λ place below swept. elim swept [
      | inl lt ↦ ready place below (omega (arith, lt))
      | inr here ↦ ready place below (omega (arith, here.0))
    ]) (begun_goes route.kind route.limit slot) k

pub sweep_rooms : (cells : ℕ) (routes : List Route) (book : BookState) (call : PublisherCall) (slot n : ℕ) (at : Option Route)
    → slice_get routes n ≡ at → ReadyBefore cells (length routes) book n → HasRooms cells (length routes) book call
    → HasRooms cells (length routes) book (sweep_from routes slot n at)
sweep_rooms cells routes book call slot n None e ready k =
    let all : length routes ≤ n = none_within routes n e in
    push_rooms cells routes book call slot 0 nothing_sent (slice_get routes 0) refl
    (λ place below from. ready place below (omega (arith, below, all))) k
sweep_rooms cells routes book call slot n (Some route) e ready k
    = restaged cells (length routes) book call (publishing.SendReclaims slot n route pop.Begun)
    (λ place below swept. ready place below swept) tt k

-- what a pop that takes back finds: nothing only where the connection has room, and something only where it has a slot
abbrev pub PopFinds : ℕ → ℕ → Pop → ℕ → Type 0
PopFinds cells slots pop.Idle a = Unit {0}
PopFinds cells slots pop.Begun a = Unit {0}
PopFinds cells slots (pop.SawRead seen) a = ((a == seen) ≡ true → slots < cells) × ((a == seen) ≡ false → 0 < slots)
PopFinds cells slots (pop.Nonempty seen next) a = Unit {0}
PopFinds cells slots (pop.SawCell next value) a = Unit {0}
PopFinds cells slots (pop.Popped got) a = Unit {0}
PopFinds cells slots pop.LookBegun a = Unit {0}
PopFinds cells slots (pop.LookRead seen) a = Unit {0}
PopFinds cells slots (pop.Looked some) a = Unit {0}

-- so does a call
abbrev pub CallFinds : ℕ → BookState → PublisherCall → ℕ → Type 0
CallFinds cells book publishing.Idle a = Unit {0}
CallFinds cells book (publishing.LoanReclaims at route p) a = PopFinds cells (slots_at book at) p a
CallFinds cells book publishing.Lending a = Unit {0}
CallFinds cells book (publishing.Writing slot word value) a = Unit {0}
CallFinds cells book (publishing.Written slot) a = Unit {0}
CallFinds cells book (publishing.Heading slot word value) a = Unit {0}
CallFinds cells book (publishing.Remembering slot) a = Unit {0}
CallFinds cells book (publishing.SendReclaims slot at route p) a = PopFinds cells (slots_at book at) p a
CallFinds cells book (publishing.Pushing slot at route push delivery) a = Unit {0}
CallFinds cells book (publishing.Sent slot delivery) a = Unit {0}
CallFinds cells book (publishing.Dropping slot) a = Unit {0}

-- a change that takes a slot away from a connection
pub taken_rooms : (cells connections at : ℕ) (book : BookState) (call after : PublisherCall) (v : ℕ)
    → ChangeFits connections book (change.TakenBack at v) → UsesCounted connections book
    → ((place : ℕ) → HasSwept after place → HasSwept call place) → CallGoes (changed (change.TakenBack at v) book) after
    → HasRooms cells connections book call → HasRooms cells connections (changed (change.TakenBack at v) book) after
taken_rooms cells connections at book call after v fits c same takes k =
    record {
      most = λ place below. fewer place (k.most place below);
      swept
          = λ place below swept. fewer_lt place (k.swept place below (same place swept));
      takes = takes;
      counts = record { out = k.counts.out; few = k.counts.few; kept = k.counts.kept };
    }
  where
    less : (place : ℕ) → slots_at (changed (change.TakenBack at v) book) place ≤ slots_at book place
    less place = elim (eqb_tells place at) [
      | inl is ↦ omega (
        arith,
        slots_there connections at (change.TakenBack at v) book refl fits c,
        ap (slots_at book) is.1,
        ap
            (slots_at (changed (change.TakenBack at v) book)) is.1,
      )
      | inr other ↦ omega (arith, slots_elsewhere connections at (change.TakenBack at v) book place refl fits other.1)
    ]

    fewer : (place : ℕ) → slots_at book place ≤ cells → slots_at (changed (change.TakenBack at v) book) place ≤ cells
    fewer place h = omega (arith, less place, h)

    fewer_lt : (place : ℕ) → slots_at book place < cells → slots_at (changed (change.TakenBack at v) book) place < cells
    fewer_lt place h = omega (arith, less place, h)

-- a loan that takes back
loan_next : (cells : ℕ) (routes : List Route) (stored : List ℕ) (book : BookState) (at : ℕ) (route : Route) (p : Pop) (a : ℕ)
    → at < length routes
    → PopFinds cells (slots_at book at) p a → ChangeFits (length routes) book (publisher_change (publishing.LoanReclaims at route p) a)
    → UsesCounted (length routes) book → HasRooms cells (length routes) book (publishing.LoanReclaims at route p)
    → HasRooms cells (length routes) (changed (publisher_change (publishing.LoanReclaims at route p) a) book)
    (publisher_take routes stored (publishing.LoanReclaims at route p) a)
loan_next cells routes stored book at route pop.Idle a there finds fits c k = absurd k.takes
loan_next cells routes stored book at route pop.Begun a there finds fits c k
    = restaged cells (length routes) book (publishing.LoanReclaims at route pop.Begun)
    (publishing.LoanReclaims at route (pop.SawRead a)) k.swept tt k
loan_next cells routes stored book at route (pop.SawRead seen) a there finds fits c k = by_test (a == seen) finds.0 finds.1
  where
    by_test : (b : Bool) → (b ≡ true → slots_at book at < cells) → (b ≡ false → 0 < slots_at book at)
        → HasRooms cells (length routes) (changed (taken_back at (refusing_pop_answer (refusing.pop_emptied b seen))) book)
        (loan_reclaimed routes at route (refusing.pop_emptied b seen) (refusing_pop_answer (refusing.pop_emptied b seen)))
    by_test true room some =
        let next : successor at ≡ at + 1 = omega (arith, there, c.few) in
        loan_rooms cells routes book (publishing.LoanReclaims at route (pop.SawRead seen)) (successor at)
        (slice_get routes (successor at)) refl (λ place below lt. elim (cases_lt place at) [
          | inl before ↦ k.swept place below before
          | inr ge ↦ let is : at ≡ place = omega (arith, lt, ge, next) in subst (λ (i : ℕ). slots_at book i < cells) is (room refl)
        ]) k
    by_test false room some = restaged cells (length routes) book (publishing.LoanReclaims at route (pop.SawRead seen))
        (publishing.LoanReclaims at route (pop.Nonempty seen (successor seen))) k.swept (some refl) k
loan_next cells routes stored book at route (pop.Nonempty seen next) a there finds fits c k
    = restaged cells (length routes) book (publishing.LoanReclaims at route (pop.Nonempty seen next))
    (publishing.LoanReclaims at route (pop.SawCell next a)) k.swept k.takes k
loan_next cells routes stored book at route (pop.SawCell next value) a there finds fits c k
    = taken_rooms cells (length routes) at book (publishing.LoanReclaims at route (pop.SawCell next value))
    (publishing.LoanReclaims at route pop.Begun) value fits c (λ place swept. swept) tt k
loan_next cells routes stored book at route (pop.Popped got) a there finds fits c k = absurd k.takes
loan_next cells routes stored book at route pop.LookBegun a there finds fits c k = absurd k.takes
loan_next cells routes stored book at route (pop.LookRead seen) a there finds fits c k = absurd k.takes
loan_next cells routes stored book at route (pop.Looked some) a there finds fits c k = absurd k.takes

-- so does a send that takes back
send_next : (cells : ℕ) (routes : List Route) (stored : List ℕ) (book : BookState) (slot at : ℕ) (route : Route) (p : Pop) (a : ℕ)
    → at < length routes
    → PopFinds cells (slots_at book at) p a
    → ChangeFits (length routes) book (publisher_change (publishing.SendReclaims slot at route p) a)
    → UsesCounted (length routes) book → HasRooms cells (length routes) book (publishing.SendReclaims slot at route p)
    → HasRooms cells (length routes) (changed (publisher_change (publishing.SendReclaims slot at route p) a) book)
    (publisher_take routes stored (publishing.SendReclaims slot at route p) a)
send_next cells routes stored book slot at route pop.Idle a there finds fits c k = absurd k.takes
send_next cells routes stored book slot at route pop.Begun a there finds fits c k
    = restaged cells (length routes) book (publishing.SendReclaims slot at route pop.Begun)
    (publishing.SendReclaims slot at route (pop.SawRead a)) k.swept tt k
send_next cells routes stored book slot at route (pop.SawRead seen) a there finds fits c k = by_test (a == seen) finds.0 finds.1
  where
    by_test : (b : Bool) → (b ≡ true → slots_at book at < cells) → (b ≡ false → 0 < slots_at book at)
        → HasRooms cells (length routes) (changed (taken_back at (refusing_pop_answer (refusing.pop_emptied b seen))) book)
        (send_reclaimed routes slot at route (refusing.pop_emptied b seen) (refusing_pop_answer (refusing.pop_emptied b seen)))
    by_test true room some =
        let next : successor at ≡ at + 1 = omega (arith, there, c.few) in
        sweep_rooms cells routes book (publishing.SendReclaims slot at route (pop.SawRead seen)) slot (successor at)
        (slice_get routes (successor at)) refl (λ place below lt. elim (cases_lt place at) [
          | inl before ↦ k.swept place below before
          | inr ge ↦ let is : at ≡ place = omega (arith, lt, ge, next) in subst (λ (i : ℕ). slots_at book i < cells) is (room refl)
        ]) k
    by_test false room some = restaged cells (length routes) book (publishing.SendReclaims slot at route (pop.SawRead seen))
        (publishing.SendReclaims slot at route (pop.Nonempty seen (successor seen))) k.swept (some refl) k
send_next cells routes stored book slot at route (pop.Nonempty seen next) a there finds fits c k
    = restaged cells (length routes) book (publishing.SendReclaims slot at route (pop.Nonempty seen next))
    (publishing.SendReclaims slot at route (pop.SawCell next a)) k.swept k.takes k
send_next cells routes stored book slot at route (pop.SawCell next value) a there finds fits c k
    = taken_rooms cells (length routes) at book (publishing.SendReclaims slot at route (pop.SawCell next value))
    (publishing.SendReclaims slot at route pop.Begun) value fits c (λ place swept. swept) tt k
send_next cells routes stored book slot at route (pop.Popped got) a there finds fits c k = absurd k.takes
send_next cells routes stored book slot at route pop.LookBegun a there finds fits c k = absurd k.takes
send_next cells routes stored book slot at route (pop.LookRead seen) a there finds fits c k = absurd k.takes
send_next cells routes stored book slot at route (pop.Looked some) a there finds fits c k = absurd k.takes

-- a put at a place, and what a send has left to do
put_rooms : (cells connections at : ℕ) (book : BookState) (slot v : ℕ) (route : Route) (p : Push) (delivery : Delivery) → PushWaits p
    → ChangeFits connections book (change.Put at v) → UsesCounted connections book
    → (after : PublisherCall) → ((place : ℕ) → HasSwept after place → at < place) → CallGoes (changed (change.Put at v) book) after
    → HasRooms cells connections book (publishing.Pushing slot at route p delivery)
    → HasRooms cells connections (changed (change.Put at v) book) after
put_rooms cells connections at book slot v route p delivery waits fits c after later takes k = record {
  most = λ place below. elim (eqb_tells place at) [
    | inl is ↦
        let room : slots_at book at < cells = k.swept at (omega (arith, below, is.1)) (inr (refl, waits)) in
        omega (
          arith,
          room,
          slots_there connections at (change.Put at v) book refl fits c,
          ap (slots_at (changed (change.Put at v) book))
              is.1,
        )
    | inr other ↦ omega (arith, k.most place below, slots_elsewhere connections at (change.Put at v) book place refl fits other.1)
  ];
  swept = λ place below swept.
      let lt : at < place = later place swept in
      omega (
        arith,
        k.swept place below (inl lt),
        slots_elsewhere connections at (change.Put at v) book place refl fits
            (λ e. absurd (omega (arith, lt, e))),
      );
  takes = takes;
  counts = record { out = k.counts.out; few = k.counts.few; kept = k.counts.kept };
}

-- the push of a send is over at a place
push_over : (cells : ℕ) (routes : List Route) (book before : BookState) (slot at : ℕ) (route : Route) (p : Push)
    (delivery delivery' : Delivery) → at < 2 ^ 62 → ((place : ℕ) → at < place → slots_at book place ≡ slots_at before place)
    → ((place : ℕ) → place < length routes → slots_at book place ≤ cells) → CountsLoans book
    → HasRooms cells (length routes) before (publishing.Pushing slot at route p delivery)
    → HasRooms cells (length routes) book (push_from slot (successor at) delivery' (slice_get routes (successor at)))
push_over cells routes book before slot at route p delivery delivery' small same most counts k =
    let next : successor at ≡ at + 1 = omega (arith, small) in
    push_rooms cells routes book (publishing.Sent slot delivery) slot (successor at) delivery' (slice_get routes (successor at)) refl
    (λ place below from. let lt : at < place = omega (arith, from, next) in omega (arith, k.swept place below (inl lt), same place lt))
    (record { most = most; swept = λ place below swept. absurd swept; takes = tt; counts = counts })

push_next : (cells : ℕ) (routes : List Route) (stored : List ℕ) (book : BookState) (slot at : ℕ) (route : Route) (p : Push)
    (delivery : Delivery) (a : ℕ) → at < length routes
    → ChangeFits (length routes) book (push_change at p a) → UsesCounted (length routes) book
    → HasRooms cells (length routes) book (publishing.Pushing slot at route p delivery)
    → HasRooms cells (length routes) (changed (push_change at p a) book)
    (publisher_take routes stored (publishing.Pushing slot at route p delivery) a)
push_next cells routes stored book slot at route (ring.Overflowing overflowing_push.Idle) delivery a there fits c k = absurd k.takes
push_next cells routes stored book slot at route (ring.Overflowing (overflowing_push.Begun limit value)) delivery a there fits c k =
    restaged cells (length routes) book
    (publishing.Pushing slot at route (ring.Overflowing (overflowing_push.Begun limit value)) delivery)
    (publishing.Pushing slot at route (ring.Overflowing (overflowing_push.SawWrite limit value a (successor a))) delivery) k.swept tt k
push_next cells routes stored book slot at route (ring.Overflowing (overflowing_push.SawWrite limit value write next)) delivery a there
    fits c k =
    restaged cells (length routes) book
    (publishing.Pushing slot at route (ring.Overflowing (overflowing_push.SawWrite limit value write next)) delivery)
    (publishing.Pushing slot at route (ring.Overflowing (overflowing_push.SawRead limit value write next a)) delivery) k.swept tt k
push_next cells routes stored book slot at route (ring.Overflowing (overflowing_push.SawRead limit value write next seen)) delivery a
    there fits c k =
    restaged cells (length routes) book
    (publishing.Pushing slot at route (ring.Overflowing (overflowing_push.SawRead limit value write next seen)) delivery)
    (publishing.Pushing slot at route (ring.Overflowing (overflowing_push.Filled limit value write next seen)) delivery) k.swept tt k
push_next cells routes stored book slot at route (ring.Overflowing (overflowing_push.Filled limit value write next seen)) delivery a
    there fits c k = by_test (nat_lt limit (next - seen))
  where
    old : Push
    old = ring.Overflowing (overflowing_push.Filled limit value write next seen)

    put : HasRooms cells (length routes) (changed (change.Put at value) book) (publishing.Sent slot delivery)
    put = put_rooms cells (length routes) at book slot value route old delivery tt fits c (publishing.Sent slot delivery)
        (λ place swept. absurd swept) tt k

    by_test : (b : Bool) → HasRooms cells (length routes) (changed (change.Put at value) book)
        (pushed routes slot at route (ring.Overflowing
        (if b then overflowing_push.Full value seen (successor seen) else overflowing_push.Pushed value Kept)) delivery
        (push_answer (ring.Overflowing (if b then overflowing_push.Full value seen (successor seen) else overflowing_push.Pushed value
        Kept))))
    by_test true = put_rooms cells (length routes) at book slot value route old delivery tt fits c
        (publishing.Pushing slot at route (ring.Overflowing (overflowing_push.Full value seen (successor seen))) delivery)
        (λ place swept. elim swept [
          | inl lt ↦ lt
          | inr here ↦ absurd here.1
        ]) tt k
    by_test false = push_over cells routes (changed (change.Put at value) book) book slot at route old delivery (counted delivery Kept)
        (omega (arith, there, c.few))
        (λ place lt. slots_elsewhere (length routes) at (change.Put at value) book place refl fits (λ e. absurd (omega (arith, lt, e))))
        put.most put.counts k
push_next cells routes stored book slot at route (ring.Overflowing (overflowing_push.Full value seen next)) delivery a there fits c k =
    restaged cells (length routes) book
    (publishing.Pushing slot at route (ring.Overflowing (overflowing_push.Full value seen next)) delivery)
    (publishing.Pushing slot at route (ring.Overflowing (overflowing_push.SawOldest value seen next a)) delivery) k.swept tt k
push_next cells routes stored book slot at route (ring.Overflowing (overflowing_push.SawOldest value seen next oldest)) delivery a there
    fits c k = by_test (a == seen) fits
  where
    old : Push
    old = ring.Overflowing (overflowing_push.SawOldest value seen next oldest)

    by_test : (b : Bool) → ChangeFits (length routes) book (if b then change.LeftOut at oldest else change.Nothing)
        → HasRooms cells (length routes) (changed (if b then change.LeftOut at oldest else change.Nothing) book)
        (push_from slot (successor at) (counted delivery (if b then LeftOut oldest else Kept)) (slice_get routes (successor at)))
    by_test true fit = push_over cells routes (changed (change.LeftOut at oldest) book) book slot at route old delivery
        (counted delivery (LeftOut oldest)) (omega (arith, there, c.few))
        (λ place lt. slots_elsewhere (length routes) at (change.LeftOut at oldest) book place refl fit (λ e. absurd (omega (arith, lt, e))))
        (λ place below. elim (eqb_tells place at) [
          | inl is ↦ omega (
            arith,
            k.most place below,
            slots_there (length routes) at (change.LeftOut at oldest) book refl fit c,
            ap
                (slots_at book) is.1,
            ap (slots_at (changed (change.LeftOut at oldest) book)) is.1,
          )
          | inr other ↦ omega (
            arith,
            k.most place below,
            slots_elsewhere (length routes) at (change.LeftOut at oldest) book place refl
                fit other.1,
          )
        ]) (record { out = k.counts.out; few = k.counts.few; kept = k.counts.kept }) k
    by_test false fit = push_over cells routes book book slot at route old delivery (counted delivery Kept)
        (omega (arith, there, c.few)) (λ place lt. refl) k.most k.counts k
push_next cells routes stored book slot at route (ring.Overflowing (overflowing_push.Pushed value answered)) delivery a there fits c k
    = absurd k.takes
push_next cells routes stored book slot at route (ring.Refusing refusing_push.Idle) delivery a there fits c k = absurd k.takes
push_next cells routes stored book slot at route (ring.Refusing (refusing_push.Begun limit value)) delivery a there fits c k =
    restaged cells (length routes) book (publishing.Pushing slot at route (ring.Refusing (refusing_push.Begun limit value)) delivery)
    (publishing.Pushing slot at route (ring.Refusing (refusing_push.SawWrite limit value a (successor a))) delivery) k.swept tt k
push_next cells routes stored book slot at route (ring.Refusing (refusing_push.SawWrite limit value write next)) delivery a there fits c
    k = by_test (nat_lt (write - a) limit)
  where
    old : Push
    old = ring.Refusing (refusing_push.SawWrite limit value write next)

    by_test : (b : Bool) → HasRooms cells (length routes) book
        (pushed routes slot at route (ring.Refusing
        (if b then refusing_push.SawRoom value write next else refusing_push.Pushed value Refused)) delivery
        (push_answer (ring.Refusing (if b then refusing_push.SawRoom value write next else refusing_push.Pushed value Refused))))
    by_test true = restaged cells (length routes) book (publishing.Pushing slot at route old delivery)
        (publishing.Pushing slot at route (ring.Refusing (refusing_push.SawRoom value write next)) delivery) k.swept tt k
    by_test false = push_over cells routes book book slot at route old delivery (counted delivery Refused) (omega (arith, there, c.few))
        (λ place lt. refl) k.most k.counts k
push_next cells routes stored book slot at route (ring.Refusing (refusing_push.SawRoom value write next)) delivery a there fits c k =
    restaged cells (length routes) book
    (publishing.Pushing slot at route (ring.Refusing (refusing_push.SawRoom value write next)) delivery)
    (publishing.Pushing slot at route (ring.Refusing (refusing_push.Filled value next)) delivery) k.swept tt k
push_next cells routes stored book slot at route (ring.Refusing (refusing_push.Filled value next)) delivery a there fits c k =
    let put = put_rooms cells (length routes) at book slot value route (ring.Refusing (refusing_push.Filled value next)) delivery tt
    fits c (publishing.Sent slot delivery) (λ place swept. absurd swept) tt k in
    push_over cells routes (changed (change.Put at value) book) book slot at route (ring.Refusing (refusing_push.Filled value next))
    delivery (counted delivery Kept) (omega (arith, there, c.few))
    (λ place lt. slots_elsewhere (length routes) at (change.Put at value) book place refl fits (λ e. absurd (omega (arith, lt, e))))
    put.most put.counts k
push_next cells routes stored book slot at route (ring.Refusing (refusing_push.Pushed value answered)) delivery a there fits c k
    = absurd k.takes

-- a record that changes at no connection
else_rooms : (cells connections : ℕ) (book : BookState) (c : PublisherChange) (call after : PublisherCall) → IsElse c
    → ((place : ℕ) → HasSwept after place → ⊥) → CallGoes (changed c book) after → ChangeFits connections book c
    → UsesCounted connections book → HasRooms cells connections book call → HasRooms cells connections (changed c book) after
else_rooms cells connections book c call after els none takes fits k r = record {
  most = λ place below. omega (arith, r.most place below, slots_else c book place els);
  swept = λ place below swept. absurd (none place swept);
  takes = takes;
  counts = counts_after connections book c fits k r.counts;
}

write_rooms : (cells connections : ℕ) (book : BookState) (call : PublisherCall) (slot word : ℕ) (at : Option ℕ)
    → HasRooms cells connections book call → HasRooms cells connections book (write_from slot word at)
write_rooms cells connections book call slot word None k
    = restaged cells connections book call (publishing.Written slot) (λ place below swept. absurd swept) tt k
write_rooms cells connections book call slot word (Some value) k
    = restaged cells connections book call (publishing.Writing slot word value) (λ place below swept. absurd swept) tt k

head_rooms : (cells connections : ℕ) (book : BookState) (call : PublisherCall) (slot word : ℕ) (at : Option ℕ)
    → HasRooms cells connections book call → HasRooms cells connections book (head_from slot word at)
head_rooms cells connections book call slot word None k
    = restaged cells connections book call (publishing.Remembering slot) (λ place below swept. absurd swept) tt k
head_rooms cells connections book call slot word (Some value) k
    = restaged cells connections book call (publishing.Heading slot word value) (λ place below swept. absurd swept) tt k

-- a step of a publisher
pub take_rooms : (cells : ℕ) (routes : List Route) (stored : List ℕ) (book : BookState) (call : PublisherCall) (a : ℕ)
    → IsThere routes call → CallFinds cells book call a → ChangeFits (length routes) book (publisher_change call a)
    → UsesCounted (length routes) book
    → HasRooms cells (length routes) book call
    → HasRooms cells (length routes) (changed (publisher_change call a) book) (publisher_take routes stored call a)
take_rooms cells routes stored book publishing.Idle a there finds fits c k = k
take_rooms cells routes stored book (publishing.LoanReclaims at route p) a there finds fits c k
    = loan_next cells routes stored book at route p a (slice_get_within routes at route there) finds fits c k
take_rooms cells routes stored book publishing.Lending a there finds fits c k
    = else_rooms cells (length routes) book change.Lend publishing.Lending publishing.Idle tt (λ place swept. swept) tt fits c k
take_rooms cells routes stored book (publishing.Writing slot word value) a there finds fits c k
    = write_rooms cells (length routes) book (publishing.Writing slot word value) slot (successor word)
    (slice_get stored (successor word)) k
take_rooms cells routes stored book (publishing.Written slot) a there finds fits c k
    = else_rooms cells (length routes) book (change.Mark slot) (publishing.Written slot) publishing.Idle tt (λ place swept. swept) tt
    fits c k
take_rooms cells routes stored book (publishing.Heading slot word value) a there finds fits c k
    = head_rooms cells (length routes) book (publishing.Heading slot word value) slot (successor word) (slice_get stored (successor word)) k
take_rooms cells routes stored book (publishing.Remembering slot) a there finds fits c k =
    let after = else_rooms cells (length routes) book (change.Remember slot) (publishing.Remembering slot) publishing.Idle tt
    (λ place swept. swept) tt fits c k in
    sweep_rooms cells routes (changed (change.Remember slot) book) publishing.Idle slot 0 (slice_get routes 0) refl
    (λ place below lt. absurd (omega (arith, lt))) after
take_rooms cells routes stored book (publishing.SendReclaims slot at route p) a there finds fits c k
    = send_next cells routes stored book slot at route p a (slice_get_within routes at route there) finds fits c k
take_rooms cells routes stored book (publishing.Pushing slot at route p delivery) a there finds fits c k
    = push_next cells routes stored book slot at route p delivery a (slice_get_within routes at route there) fits c k
take_rooms cells routes stored book (publishing.Sent slot delivery) a there finds fits c k
    = restaged cells (length routes) book (publishing.Sent slot delivery) publishing.Idle (λ place below swept. absurd swept) tt k
take_rooms cells routes stored book (publishing.Dropping slot) a there finds fits c k
    = else_rooms cells (length routes) book (change.DropLoan slot) (publishing.Dropping slot) publishing.Idle tt (λ place swept. swept)
    tt fits c k

-- a begin of a call at no connection that was swept
pub begun_rooms : (cells : ℕ) (routes : List Route) (book : BookState) (call : PublisherCall) → HasRooms cells (length routes) book call
    → HasRooms cells (length routes) book (loan_from 0 (slice_get routes 0))
    × ((slot word : ℕ) (at : Option ℕ) → HasRooms cells (length routes) book (write_from slot word at))
    × ((slot word : ℕ) (at : Option ℕ) → HasRooms cells (length routes) book (head_from slot word at))
    × ((slot : ℕ) → HasRooms cells (length routes) book (publishing.Dropping slot))
begun_rooms cells routes book call k = (
  loan_rooms cells routes book call 0 (slice_get routes 0) refl (λ place below lt. absurd (omega (arith, lt))) k,
  λ slot word at. write_rooms cells (length routes) book call slot word at k,
  λ slot word at. head_rooms cells (length routes) book call slot word at k,
  λ slot. restaged cells (length routes) book call (publishing.Dropping slot) (λ place below swept. absurd swept) tt k,
)

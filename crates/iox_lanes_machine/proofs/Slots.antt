-- Every step stores words of slots only into loans of its own party.
use Rattle.std.proofs.Common.{ℕ, ◌≡◌, ◌+◌, ◌-◌, ◌<◌, ◌≤◌, ◌==◌, ◌&&◌, Bool, true, false, if◌then◌else◌, nat_lt, List, [], ◌∷◌, ◌++◌}
use Rattle.std.proofs.Common.{length, remove, set, get_or, slice_get, Option, Some, None, refl, sym, ◌∙◌, ap, subst, inl, inr, arith}
use Rattle.std.proofs.Common.{length-set}
use Rattle.std.proofs.lemmas.Bool.{cases_lt, lt-ltb, le-ltb}
use Rattle.std.proofs.lemmas.Bool.Decides.{eqb_tells}
use Rattle.std.proofs.lemmas.List.{get_or_past}
use Rattle.iox_lanes_machine.specs.QueuesSteps.Access.{successor}
use Rattle.iox_lanes_machine.specs.QueuesSteps.declared.access.Access.{Access}
use Rattle.iox_lanes_machine.specs.QueuesSteps.declared.access.Access.TheVariants as own
use Rattle.iox_lanes_machine.specs.QueuesSteps.declared.order.Placed.{Placed}
use Rattle.iox_lanes_machine.specs.QueuesSteps.declared.order.PushAnswer.{PushAnswer}
use Rattle.iox_lanes_machine.specs.QueuesSteps.declared.order.PopAnswer.{PopAnswer}
use Rattle.iox_lanes_machine.specs.QueuesSteps.declared.order.PopAnswer.TheVariants.{Got, Saw}
use Rattle.iox_lanes_machine.specs.QueuesSteps.declared.schedule.Stepped.{Stepped}
use Rattle.iox_lanes_machine.specs.QueuesSteps.Refusing as refusing
use Rattle.iox_lanes_machine.specs.QueuesSteps.declared.rings.refusing.pop.Pop as refusing_pop_type
use Rattle.iox_lanes_machine.specs.QueuesSteps.Ends.{push_take}
use Rattle.iox_lanes_machine.specs.QueuesSteps.declared.rings.ends.Push.{Push}
use Rattle.iox_lanes_machine.specs.LanesBase.Words.{on_ring}
use Rattle.iox_lanes_machine.specs.LanesBase.declared.words.word.ConnectionRing.{ConnectionRing}
use Rattle.iox_lanes_machine.specs.LanesBase.declared.words.word.SlotWord.{SlotWord}
use Rattle.iox_lanes_machine.specs.LanesBase.declared.words.word.SharedWord.TheVariants.{Slot}
use Rattle.iox_lanes_machine.specs.LanesBase.Answers.{push_answer, refusing_pop_answer}
use Rattle.iox_lanes_machine.specs.LanesBase.Publishing.{publisher_is_idle, publisher_next, publisher_take, publisher_change, loan_from}
use Rattle.iox_lanes_machine.specs.LanesBase.Publishing.{loan_reclaimed, write_from, head_from, push_from, sweep_from, send_reclaimed}
use Rattle.iox_lanes_machine.specs.LanesBase.Publishing.{pushed, counted, nothing_sent}
use Rattle.iox_lanes_machine.specs.LanesBase.Subscribing.{subscriber_next}
use Rattle.iox_lanes_machine.specs.LanesBase.declared.calls.publisher.Delivery.{Delivery}
use Rattle.iox_lanes_machine.specs.LanesBase.declared.calls.publisher.PublisherCall.{PublisherCall}
use Rattle.iox_lanes_machine.specs.LanesBase.declared.calls.publisher.PublisherCall.TheVariants as publishing
use Rattle.iox_lanes_machine.specs.LanesBase.declared.calls.publisher.PublisherChange.{PublisherChange}
use Rattle.iox_lanes_machine.specs.LanesBase.declared.calls.publisher.PublisherChange.TheVariants as change
use Rattle.iox_lanes_machine.specs.LanesBase.declared.calls.route.Route.{Route}
use Rattle.iox_lanes_machine.specs.LanesBase.declared.calls.subscriber.SubscriberCall.{SubscriberCall}
use Rattle.iox_lanes_machine.specs.LanesBase.declared.calls.subscriber.SubscriberCall.TheVariants as subscribing
use Rattle.iox_lanes_machine.specs.LanesParties.PublisherKeeping.{BookState, changed, put_at, lent, lent_from, first_free, counted_down}
use Rattle.iox_lanes_machine.specs.LanesParties.PublisherKeeping.{dropped, loan_of, newest_of, unlent, remembered}
use Rattle.iox_lanes_machine.specs.LanesParties.Publishers.{words_of}
use Rattle.iox_lanes_machine.specs.LanesParties.declared.publisher.slot_book.LoanMark.{LoanMark}
use Rattle.iox_lanes_machine.specs.LanesParties.declared.publisher.slot_book.LoanMark.TheVariants as mark
use Rattle.iox_lanes_machine.specs.LanesParties.declared.publisher.slot_book.LoanAnswer.TheVariants as answer
use Rattle.iox_lanes_machine.specs.LanesParties.Parties.{PublisherLaneState, SubscriberLaneState, is_out, is_written, publisher_may}
use Rattle.iox_lanes_machine.specs.LanesParties.Parties.{publisher_fits, publisher_begun, publisher_after, head_of}
use Rattle.iox_lanes_machine.specs.LanesParties.declared.call.Call.{Call}
use Rattle.iox_lanes_machine.specs.LanesParties.declared.call.Call.TheVariants as call
use Rattle.iox_lanes_machine.specs.LanesParties.declared.call.Move.{Move}
use Rattle.iox_lanes_machine.specs.LanesParties.declared.call.Move.TheVariants.{Begin, GoOn}
use Rattle.iox_lanes_machine.specs.LanesParties.declared.call.Party.{Party}
use Rattle.iox_lanes_machine.specs.LanesParties.declared.call.Party.TheVariants.{Publisher, Subscriber}
use Rattle.iox_lanes_machine.proofs.LanesParties.Rings.{and_left, and_right}
use Rattle.iox_lanes_machine.specs.Apart.{MayChange, access_of, publisher_access, subscriber_access, StaysApart}
use Rattle.iox_lanes_machine.specs.Slots.{IsLoanAt, IsLoanOf, SlotsStay, LoansApart, StandsAtLoan, LoansStand}
use Rattle.iox_lanes_machine.specs.World.{World, fits, happens, publisher_fits_at, publisher_begins, publisher_goes_on, publisher_given}
use Rattle.iox_lanes_machine.specs.World.{subscriber_begins, subscriber_goes_on}
use Rattle.iox_lanes_machine.proofs.Calls.{set_is}
use Rattle.iox_lanes_machine.proofs.Ends.{choose_one, choose_other}
use Rattle.iox_lanes_machine.proofs.Within.{set_other}

-- where a publisher begins, it stands at a loan
loan_stands : (book : BookState) (place : ℕ) (at : Option Route) → StandsAtLoan book (loan_from place at)
loan_stands book place None = tt
loan_stands book place (Some route) = tt

write_stands : (book : BookState) (slot word : ℕ) (at : Option ℕ) → is_out (loan_of slot book) ≡ true
    → StandsAtLoan book (write_from slot word at)
write_stands book slot word None h = h
write_stands book slot word (Some value) h = h

head_stands : (book : BookState) (slot word : ℕ) (at : Option ℕ) → is_out (loan_of slot book) ≡ true
    → StandsAtLoan book (head_from slot word at)
head_stands book slot word None h = h
head_stands book slot word (Some value) h = h

written_is_out : (m : LoanMark) → is_written m ≡ true → is_out m ≡ true
written_is_out mark.No h = absurd (cc)
written_is_out mark.Lent h = refl
written_is_out mark.Written h = refl

begun_stands : (moment : ℕ) (c : Call) (lane : PublisherLaneState) → publisher_fits lane (Begin c) ≡ true
    → StandsAtLoan (publisher_begun moment c lane).port.book (publisher_begun moment c lane).port.call
begun_stands moment call.LoanUninit lane fit = loan_stands lane.port.book 0 (slice_get lane.port.routes 0)
begun_stands moment (call.Write loan payload user_header) lane fit =
    let may : publisher_may lane (call.Write loan payload user_header) ≡ true
    = and_right (publisher_is_idle lane.port.call) (publisher_may lane (call.Write loan payload user_header)) fit in
    let fits_payload : (is_out (loan_of loan lane.port.book) && (length payload.items == length lane.port.payload)) ≡ true =
    and_left (is_out (loan_of loan lane.port.book) && (length payload.items == length lane.port.payload))
    (3 + length user_header.items == length lane.port.head) may in
    write_stands lane.port.book loan 0 (slice_get payload.items 0)
    (and_left (is_out (loan_of loan lane.port.book)) (length payload.items == length lane.port.payload) fits_payload)
begun_stands moment (call.Send loan) lane fit =
    head_stands lane.port.book loan 0 (slice_get (head_of loan lane) 0)
    (written_is_out (loan_of loan lane.port.book)
    (and_right (publisher_is_idle lane.port.call) (publisher_may lane (call.Send loan)) fit))
begun_stands moment (call.DropLoan loan) lane fit
    = and_right (publisher_is_idle lane.port.call) (publisher_may lane (call.DropLoan loan)) fit
begun_stands moment call.Receive lane fit = absurd (cc (and_right (publisher_is_idle lane.port.call) (publisher_may lane call.Receive) fit))
begun_stands moment (call.Read sample) lane fit
    = absurd (cc (and_right (publisher_is_idle lane.port.call) (publisher_may lane (call.Read sample)) fit))
begun_stands moment (call.Release sample) lane fit
    = absurd (cc (and_right (publisher_is_idle lane.port.call) (publisher_may lane (call.Release sample)) fit))

-- a step leaves it at that loan, or at none
reclaimed_stands : (book : BookState) (routes : List Route) (place : ℕ) (route : Route) (p : refusing_pop_type.Pop)
    (a : Option PopAnswer) → StandsAtLoan book (loan_reclaimed routes place route p a)
reclaimed_stands book routes place route p None = tt
reclaimed_stands book routes place route p (Some (Got (Some slot))) = tt
reclaimed_stands book routes place route p (Some (Got None)) = loan_stands book (successor place) (slice_get routes (successor place))
reclaimed_stands book routes place route p (Some (Saw some)) = loan_stands book (successor place) (slice_get routes (successor place))

push_stands : (book : BookState) (slot place : ℕ) (delivery : Delivery) (at : Option Route)
    → StandsAtLoan book (push_from slot place delivery at)
push_stands book slot place delivery None = tt
push_stands book slot place delivery (Some route) = tt

pushed_stands : (book : BookState) (routes : List Route) (slot place : ℕ) (route : Route) (p : Push) (delivery : Delivery)
    (a : Option PushAnswer) → StandsAtLoan book (pushed routes slot place route p delivery a)
pushed_stands book routes slot place route p delivery None = tt
pushed_stands book routes slot place route p delivery (Some a)
    = push_stands book slot (successor place) (counted delivery a) (slice_get routes (successor place))

sweep_stands : (book : BookState) (routes : List Route) (slot place : ℕ) (at : Option Route)
    → StandsAtLoan book (sweep_from routes slot place at)
sweep_stands book routes slot place None = push_stands book slot 0 nothing_sent (slice_get routes 0)
sweep_stands book routes slot place (Some route) = tt

swept_stands : (book : BookState) (routes : List Route) (slot place : ℕ) (route : Route) (p : refusing_pop_type.Pop)
    (a : Option PopAnswer) → StandsAtLoan book (send_reclaimed routes slot place route p a)
swept_stands book routes slot place route p None = tt
swept_stands book routes slot place route p (Some (Got (Some back))) = tt
swept_stands book routes slot place route p (Some (Got None))
    = sweep_stands book routes slot (successor place) (slice_get routes (successor place))
swept_stands book routes slot place route p (Some (Saw some))
    = sweep_stands book routes slot (successor place) (slice_get routes (successor place))

take_stands : (book : BookState) (routes : List Route) (words : List ℕ) (c : PublisherCall) (a : ℕ) → StandsAtLoan book c
    → StandsAtLoan (changed (publisher_change c a) book) (publisher_take routes words c a)
take_stands book routes words publishing.Idle a h = tt
take_stands book routes words (publishing.LoanReclaims place route p) a h
    = reclaimed_stands (changed (publisher_change (publishing.LoanReclaims place route p) a) book) routes place route
    (refusing.pop_take p a) (refusing_pop_answer (refusing.pop_take p a))
take_stands book routes words publishing.Lending a h = tt
take_stands book routes words (publishing.Writing slot word value) a h
    = write_stands book slot (successor word) (slice_get words (successor word)) h
take_stands book routes words (publishing.Written slot) a h = tt
take_stands book routes words (publishing.Heading slot word value) a h
    = head_stands book slot (successor word) (slice_get words (successor word)) h
take_stands book routes words (publishing.Remembering slot) a h
    = sweep_stands (changed (publisher_change (publishing.Remembering slot) a) book) routes slot 0 (slice_get routes 0)
take_stands book routes words (publishing.SendReclaims slot place route p) a h
    = swept_stands (changed (publisher_change (publishing.SendReclaims slot place route p) a) book) routes slot place route
    (refusing.pop_take p a) (refusing_pop_answer (refusing.pop_take p a))
take_stands book routes words (publishing.Pushing slot place route p delivery) a h
    = pushed_stands (changed (publisher_change (publishing.Pushing slot place route p delivery) a) book) routes slot place route
    (push_take p a) delivery (push_answer (push_take p a))
take_stands book routes words (publishing.Sent slot delivery) a h = tt
take_stands book routes words (publishing.Dropping slot) a h = tt

-- no step moves a publisher's slots
pub record SameSlots (book after : BookState) : Type 0 where
  pub first : after.first ≡ book.first
  pub loans : length after.loans ≡ length book.loans

put_at_length : {X : Type 0} (xs : List X) (at : ℕ) (x : X) → length (put_at xs at x) ≡ length xs
put_at_length {X} xs at x = by_test (nat_lt at (length xs))
  where
    by_test : (b : Bool) → length (if b then set xs at x else xs) ≡ length xs
    by_test true = length-set xs at x
    by_test false = refl

same_slots : (book : BookState) → SameSlots book book
same_slots book = record { first = refl; loans = refl }

lent_slots : (book : BookState) → SameSlots book (lent book)
lent_slots book = by_test (nat_lt book.out book.most_loans)
  where
    by_free : (at : Option ℕ) → SameSlots book (lent_from book at)
    by_free None = record { first = refl; loans = refl }
    by_free (Some index) = record { first = refl; loans = put_at_length book.loans index mark.Lent }

    by_test : (b : Bool) → SameSlots book
        (if b then lent_from book (first_free book.uses 0) else record book { answer = Some answer.ExceedsMaxLoans })
    by_test true = by_free (first_free book.uses 0)
    by_test false = record { first = refl; loans = refl }

newest_slots : (slot : ℕ) (book after : BookState) → SameSlots book after → SameSlots book (newest_of slot after)
newest_slots slot book after h = by_test (nat_lt (length after.history) after.kept)
  where
    by_test : (b : Bool) → SameSlots book
        (if b then record after { history = after.history ++ slot ∷ [] } else record after
        { history = remove after.history 0 ++ slot ∷ []; uses = counted_down after.uses (get_or after.history 0 0 - after.first) })
    by_test true = record { first = h.first; loans = h.loans }
    by_test false = record { first = h.first; loans = h.loans }

remembered_slots : (slot : ℕ) (book : BookState) → SameSlots book (remembered slot book)
remembered_slots slot book = by_test (nat_lt 0 book.kept)
  where
    by_test : (b : Bool) → SameSlots book (if b then newest_of slot (unlent slot book) else dropped slot book)
    by_test true = newest_slots slot book (unlent slot book)
        (record { first = refl; loans = put_at_length book.loans (slot - book.first) mark.No })
    by_test false = record { first = refl; loans = put_at_length book.loans (slot - book.first) mark.No }

pub changed_slots : (c : PublisherChange) (book : BookState) → SameSlots book (changed c book)
changed_slots change.Nothing book = same_slots book
changed_slots change.Lend book = lent_slots book
changed_slots (change.Mark slot) book = record { first = refl; loans = put_at_length book.loans (slot - book.first) mark.Written }
changed_slots (change.Remember slot) book = remembered_slots slot book
changed_slots (change.TakenBack place slot) book = record { first = refl; loans = refl }
changed_slots (change.Put place slot) book = record { first = refl; loans = refl }
changed_slots (change.LeftOut place slot) book = record { first = refl; loans = refl }
changed_slots (change.DropLoan slot) book = record { first = refl; loans = put_at_length book.loans (slot - book.first) mark.No }

pub begun_slots : (moment : ℕ) (c : Call) (lane : PublisherLaneState) → SameSlots lane.port.book (publisher_begun moment c lane).port.book
begun_slots moment call.LoanUninit lane = same_slots lane.port.book
begun_slots moment (call.Write loan payload user_header) lane = same_slots lane.port.book
begun_slots moment (call.Send loan) lane = same_slots lane.port.book
begun_slots moment (call.DropLoan loan) lane = same_slots lane.port.book
begun_slots moment call.Receive lane = same_slots lane.port.book
begun_slots moment (call.Read sample) lane = same_slots lane.port.book
begun_slots moment (call.Release sample) lane = same_slots lane.port.book

-- the rows stay as one publisher changes and keeps its slots
rows_set : (lanes : List PublisherLaneState) (place i : ℕ) (lane after z : PublisherLaneState) → slice_get lanes place ≡ Some lane
    → SameSlots lane.port.book after.port.book → slice_get (set lanes place after) i ≡ Some z
    → (old : PublisherLaneState) × (slice_get lanes i ≡ Some old) × SameSlots old.port.book z.port.book
rows_set lanes place i lane after z found same got = elim (eqb_tells i place) [
  | inl here ↦ (
    lane,
    ap (slice_get lanes) here.1 ∙ found,
    subst (λ (x : PublisherLaneState). SameSlots lane.port.book x.port.book)
        (sym (set_is lanes place i lane after z found here.1 got)) same,
  )
  | inr there ↦ (z, sym (set_other lanes place i after there.1) ∙ got, same_slots z.port.book)
]

-- a publisher that changed stands at a loan and keeps its slots
stand : (m n : World) (place : ℕ) (lane after : PublisherLaneState) → slice_get m.publishers place ≡ Some lane
    → n.publishers ≡ set m.publishers place after → StandsAtLoan after.port.book after.port.call → SameSlots lane.port.book after.port.book
    → LoansStand m → LoansStand n
stand m n place lane after found is stage slots k = record {
  stages = λ i z got. let now : slice_get (set m.publishers place after) i ≡ Some z
      = sym (ap (λ (xs : List PublisherLaneState). slice_get xs i) is) ∙ got in elim (eqb_tells i place) [
        | inl here ↦ subst (λ (x : PublisherLaneState). StandsAtLoan x.port.book x.port.call)
            (sym (set_is m.publishers place i lane after z found here.1 now)) stage
        | inr there ↦ k.stages i z (sym (set_other m.publishers place i after there.1) ∙ now)
      ];
  rows = λ one other x y got there less.
      let first = rows_set m.publishers place one lane after x found slots
      (sym (ap (λ (xs : List PublisherLaneState). slice_get xs one) is) ∙ got) in
      let second = rows_set m.publishers place other lane after y found slots
      (sym (ap (λ (xs : List PublisherLaneState). slice_get xs other) is) ∙ there) in
      omega (arith, k.rows one other first.0 second.0 first.1 second.1 less, first.2.first, first.2.loans, second.2.first);
}

begun_publisher : (m : World) (place : ℕ) (c : Call) (at : Option PublisherLaneState) → slice_get m.publishers place ≡ at
    → publisher_fits_at at (Begin c) ≡ true → LoansStand m → LoansStand (publisher_begins m place c at)
begun_publisher m place c None e fit k = absurd (cc)
begun_publisher m place c (Some lane) e fit k =
    stand m (publisher_begins m place c (Some lane)) place lane (publisher_begun m.moments c lane) e refl
    (begun_stands m.moments c lane fit) (begun_slots m.moments c lane) k

gone_publisher : (m : World) (place : ℕ) (orders : List (List Placed)) (at : Option PublisherLaneState)
    → slice_get m.publishers place ≡ at → publisher_fits_at at GoOn ≡ true → LoansStand m
    → LoansStand (publisher_goes_on (record m { orders = orders }) place at)
gone_publisher m place orders None e fit k = absurd (cc)
gone_publisher m place orders (Some lane) e fit k =
    stand m (publisher_goes_on (record m { orders = orders }) place (Some lane)) place lane
    (publisher_after (publisher_given m.table lane) lane) e refl
    (take_stands lane.port.book lane.port.routes (words_of lane.port) lane.port.call (publisher_given m.table lane) (k.stages place lane e))
    (changed_slots (publisher_change lane.port.call (publisher_given m.table lane)) lane.port.book) k

same_publishers : (m n : World) → n.publishers ≡ m.publishers → LoansStand m → LoansStand n
same_publishers m n is k = record {
  stages = λ i z got. k.stages i z (sym (ap (λ (xs : List PublisherLaneState). slice_get xs i) is) ∙ got);
  rows = λ one other x y got there less. k.rows one other x y (sym (ap (λ (xs : List PublisherLaneState). slice_get xs one) is) ∙ got)
      (sym (ap (λ (xs : List PublisherLaneState). slice_get xs other) is) ∙ there) less;
}

begun_subscriber : (m : World) (place : ℕ) (c : Call) (at : Option SubscriberLaneState) → LoansStand m
    → LoansStand (subscriber_begins m place c at)
begun_subscriber m place c None k = k
begun_subscriber m place c (Some lane) k = same_publishers m (subscriber_begins m place c (Some lane)) refl k

gone_subscriber : (m : World) (place : ℕ) (orders : List (List Placed)) (at : Option SubscriberLaneState) → LoansStand m
    → LoansStand (subscriber_goes_on (record m { orders = orders }) place at)
gone_subscriber m place orders None k = same_publishers m (record m { orders = orders }) refl k
gone_subscriber m place orders (Some lane) k
    = same_publishers m (subscriber_goes_on (record m { orders = orders }) place (Some lane)) refl k

pub happens_loans : (m : World) (party : Party) (step : Move) → fits m party step ≡ true → LoansStand m → LoansStand (happens m party step)
happens_loans m (Publisher place) (Begin c) fit k = begun_publisher m place c (slice_get m.publishers place) refl fit k
happens_loans m (Subscriber place) (Begin c) fit k = begun_subscriber m place c (slice_get m.subscribers place) k
happens_loans m (Publisher place) GoOn fit k = gone_publisher m place _ (slice_get m.publishers place) refl fit k
happens_loans m (Subscriber place) GoOn fit k = gone_subscriber m place _ (slice_get m.subscribers place) k

-- a loan is one of its publisher's slots
inside : (book : BookState) (slot : ℕ) → is_out (loan_of slot book) ≡ true → (book.first ≤ slot) × (slot < book.first + length book.loans)
inside book slot out = elim (cases_lt slot book.first) [
  | inl lt ↦ absurd (cc (before lt, out))
  | inr ge ↦ elim (cases_lt slot (book.first + length book.loans)) [
    | inl lt ↦ (ge, lt)
    | inr past ↦ absurd (cc (behind ge past, out))
  ]
]
  where
    before : slot < book.first → is_out (loan_of slot book) ≡ false
    before lt = ap is_out (choose_one (nat_lt slot book.first) mark.No (get_or book.loans (slot - book.first) mark.No)
        (lt-ltb slot book.first lt))

    behind : book.first ≤ slot → book.first + length book.loans ≤ slot → is_out (loan_of slot book) ≡ false
    behind ge past =
        ap is_out (choose_other (nat_lt slot book.first) mark.No (get_or book.loans (slot - book.first) mark.No) (le-ltb slot book.first ge)
        ∙ get_or_past book.loans (slot - book.first) mark.No (omega (arith, ge, past)))

pub loans_apart : (m : World) → LoansStand m → LoansApart m
loans_apart m k = λ one other slot h g. elim (cases_lt one other) [
  | inl lt ↦ absurd (clash one other slot h g lt)
  | inr ge ↦ elim (cases_lt other one) [
    | inl lt ↦ absurd (clash other one slot g h lt)
    | inr le ↦ omega (arith, ge, le)
  ]
]
  where
    clash : (one other slot : ℕ) → IsLoanAt m one slot → IsLoanAt m other slot → one < other → ⊥
    clash one other slot h g less =
        let x = inside (h.lane).port.book slot h.out in
        let y = inside (g.lane).port.book slot g.out in
        omega (arith, x.1, y.0, k.rows one other h.lane g.lane h.found g.found less)

-- an access of a ring touches no word of a slot
pub ring_touches : (connection : ℕ) (ring : ConnectionRing) (cells : ℕ) (access : Access) (slot : ℕ) (word : SlotWord)
    → MayChange (on_ring connection ring cells access) (Slot slot word) → ⊥
ring_touches connection ring cells (own.Load w) slot word h = h
ring_touches connection ring cells (own.Store w value) slot word h = absurd (cc h)
ring_touches connection ring cells (own.Exchange w old new) slot word h = absurd (cc h)
ring_touches connection ring cells own.Local slot word h = h

pub publisher_touches : (book : BookState) (c : PublisherCall) (slot : ℕ) (word : SlotWord) → StandsAtLoan book c
    → MayChange (publisher_next c) (Slot slot word) → is_out (loan_of slot book) ≡ true
publisher_touches book publishing.Idle slot word h t = absurd t
publisher_touches book (publishing.LoanReclaims place route p) slot word h t = absurd (ring_touches _ _ _ _ slot word t)
publisher_touches book publishing.Lending slot word h t = absurd t
publisher_touches book (publishing.Writing own_slot at value) slot word h t = subst (λ (s : ℕ). is_out (loan_of s book) ≡ true) (cc t) h
publisher_touches book (publishing.Written own_slot) slot word h t = absurd t
publisher_touches book (publishing.Heading own_slot at value) slot word h t = subst (λ (s : ℕ). is_out (loan_of s book) ≡ true) (cc t) h
publisher_touches book (publishing.Remembering own_slot) slot word h t = absurd t
publisher_touches book (publishing.SendReclaims own_slot place route p) slot word h t = absurd (ring_touches _ _ _ _ slot word t)
publisher_touches book (publishing.Pushing own_slot place route p delivery) slot word h t = absurd (ring_touches _ _ _ _ slot word t)
publisher_touches book (publishing.Sent own_slot delivery) slot word h t = absurd t
publisher_touches book (publishing.Dropping own_slot) slot word h t = absurd t

pub subscriber_touches : (c : SubscriberCall) (slot : ℕ) (word : SlotWord) → MayChange (subscriber_next c) (Slot slot word) → ⊥
subscriber_touches subscribing.Idle slot word t = t
subscriber_touches (subscribing.Receiving place route p waits) slot word t = ring_touches _ _ _ _ slot word t
subscriber_touches (subscribing.Received given) slot word t = t
subscriber_touches (subscribing.Reading own_slot at extent) slot word t = t
subscriber_touches (subscribing.WasRead own_slot) slot word t = t
subscriber_touches (subscribing.Releasing place route p) slot word t = ring_touches _ _ _ _ slot word t
subscriber_touches (subscribing.Released done) slot word t = t

-- what a party's next access may change of a slot
publisher_loan : (m : World) (place : ℕ) (at : Option PublisherLaneState) (slot : ℕ) (word : SlotWord)
    → slice_get m.publishers place ≡ at → LoansStand m → MayChange (publisher_access at) (Slot slot word) → IsLoanAt m place slot
publisher_loan m place None slot word e k t = absurd t
publisher_loan m place (Some lane) slot word e k t
    = record { lane = lane; found = e; out = publisher_touches lane.port.book lane.port.call slot word (k.stages place lane e) t }

subscriber_loan : (at : Option SubscriberLaneState) (slot : ℕ) (word : SlotWord) → MayChange (subscriber_access at) (Slot slot word) → ⊥
subscriber_loan None slot word t = t
subscriber_loan (Some lane) slot word t = subscriber_touches lane.port.call slot word t

touches_loan : (m : World) (party : Party) (step : Move) (slot : ℕ) (word : SlotWord) → LoansStand m
    → MayChange (access_of m party step) (Slot slot word) → IsLoanOf m party slot
touches_loan m party (Begin c) slot word k t = absurd t
touches_loan m (Publisher place) GoOn slot word k t = publisher_loan m place (slice_get m.publishers place) slot word refl k t
touches_loan m (Subscriber place) GoOn slot word k t = subscriber_loan (slice_get m.subscribers place) slot word t

pub slots_stay : (m : World) (party : Party) (step : Move) (r : Stepped) (n : World) → LoansStand m → StaysApart m party step r n
    → SlotsStay m party n
slots_stay m party step r n k apart
    = λ slot word there not. apart.words (Slot slot word) there (λ touched. not (touches_loan m party step slot word k touched))

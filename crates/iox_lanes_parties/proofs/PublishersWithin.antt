-- A publisher stays within its service.
use Rattle.std.proofs.Common.{ℕ, ◌≡◌, ◌+◌, ◌-◌, ◌<◌, ◌≤◌, ◌==◌, ◌&&◌, Bool, true, false, if◌then◌else◌, nat_lt, List, [], length, take}
use Rattle.std.proofs.Common.{set, get_or, slice_get, Option, Some, None, refl, sym, ◌∙◌, ap, inl, inr, arith, length-append}
use Rattle.std.proofs.lemmas.Bool.{cases_lt, ltb-true, ltb-false, eqb-true}
use Rattle.std.proofs.lemmas.List.{length-set, length-take, get_or_past}
use Rattle.std.proofs.lemmas.List.Elements.{All-get_or, All-set}
use Rattle.std.proofs.lemmas.Option.{slice_get_within}
use Rattle.std.specs.List.{All}
use Rattle.iox_lanes_parties.specs.QueuesSteps.Access.{successor}
use Rattle.iox_lanes_parties.specs.QueuesSteps.declared.order.PushAnswer.{PushAnswer}
use Rattle.iox_lanes_parties.specs.QueuesSteps.declared.order.PopAnswer.{PopAnswer}
use Rattle.iox_lanes_parties.specs.QueuesSteps.declared.order.PopAnswer.TheVariants.{Got, Saw}
use Rattle.iox_lanes_parties.specs.QueuesSteps.Refusing.{pop_next, pop_take}
use Rattle.iox_lanes_parties.specs.QueuesSteps.declared.rings.refusing.pop.Pop.{Pop}
use Rattle.iox_lanes_parties.specs.QueuesSteps.Ends.{push_next, push_take}
use Rattle.iox_lanes_parties.specs.QueuesSteps.declared.rings.ends.Push.{Push}
use Rattle.iox_lanes_parties.specs.LanesBase.Table.{IsOfTable}
use Rattle.iox_lanes_parties.specs.LanesBase.Numbers.{IsSlotWord}
use Rattle.iox_lanes_parties.specs.LanesBase.declared.words.sizes.TableSizes.{TableSizes}
use Rattle.iox_lanes_parties.specs.LanesBase.declared.words.word.ConnectionRing.TheVariants.{Submission, Completion}
use Rattle.iox_lanes_parties.specs.LanesBase.declared.words.word.SlotWord.TheVariants.{Header, UserHeader}
use Rattle.iox_lanes_parties.specs.LanesBase.Answers.{refusing_pop_answer, push_answer}
use Rattle.iox_lanes_parties.specs.LanesBase.Publishing.{publisher_next, publisher_take, publisher_change, publisher_is_idle, loan_from}
use Rattle.iox_lanes_parties.specs.LanesBase.Publishing.{loan_reclaimed, write_from, head_from, push_from, sweep_from, send_reclaimed}
use Rattle.iox_lanes_parties.specs.LanesBase.Publishing.{pushed, counted, nothing_sent}
use Rattle.iox_lanes_parties.specs.LanesBase.declared.calls.publisher.Delivery.{Delivery}
use Rattle.iox_lanes_parties.specs.LanesBase.declared.calls.publisher.PublisherCall.{PublisherCall}
use Rattle.iox_lanes_parties.specs.LanesBase.declared.calls.publisher.PublisherCall.TheVariants as publishing
use Rattle.iox_lanes_parties.specs.LanesBase.declared.calls.publisher.PublisherChange.{PublisherChange}
use Rattle.iox_lanes_parties.specs.LanesBase.declared.calls.publisher.PublisherChange.TheVariants as change
use Rattle.iox_lanes_parties.specs.LanesBase.declared.calls.route.Route.{Route}
use Rattle.iox_lanes_parties.specs.PublisherKeeping.{BookState, loan_of, put_at, lent_from, unlent, dropped, newest_of, changed, first_free}
use Rattle.iox_lanes_parties.specs.Publishers.{words_of}
use Rattle.iox_lanes_parties.specs.declared.publisher.slot_book.LoanMark.{LoanMark}
use Rattle.iox_lanes_parties.specs.declared.publisher.slot_book.LoanMark.TheVariants as mark
use Rattle.iox_lanes_parties.specs.Parties.{PublisherLaneState, is_out, is_written, index_of, head_of, kept_head, with_user_header}
use Rattle.iox_lanes_parties.specs.Parties.{publisher_may}
use Rattle.iox_lanes_parties.specs.Parties.{publisher_fits, publisher_begun, publisher_after}
use Rattle.iox_lanes_parties.specs.Sequences.{number_after, with_number}
use Rattle.iox_lanes_parties.specs.Within.{IsRoute, IsAt, IsPublishing, IsPublisher, PublishersStayWithin}
use Rattle.iox_lanes_parties.specs.declared.call.Call.{Call}
use Rattle.iox_lanes_parties.specs.declared.call.Call.TheVariants as call
use Rattle.iox_lanes_parties.specs.declared.call.Move.TheVariants.{Begin}
use Rattle.iox_lanes_parties.proofs.Rings.{and_left, and_right, all_at, ring_within}

loan_from_within : (sizes : TableSizes) (routes : List Route) (words : List ℕ) (place : ℕ) (at : Option Route)
    → slice_get routes place ≡ at → IsPublishing sizes routes words (loan_from place at)
loan_from_within sizes routes words place None e = tt
loan_from_within sizes routes words place (Some route) e = e

loan_within : (sizes : TableSizes) (routes : List Route) (words : List ℕ) (place : ℕ) (route : Route) (pop : Pop)
    (answer : Option PopAnswer) → IsAt routes place route
    → IsPublishing sizes routes words (loan_reclaimed routes place route pop answer)
loan_within sizes routes words place route pop None at = at
loan_within sizes routes words place route pop (Some (Got (Some slot))) at = at
loan_within sizes routes words place route pop (Some (Got None)) at
    = loan_from_within sizes routes words (successor place) (slice_get routes (successor place)) refl
loan_within sizes routes words place route pop (Some (Saw some)) at
    = loan_from_within sizes routes words (successor place) (slice_get routes (successor place)) refl

write_within : (sizes : TableSizes) (routes : List Route) (words : List ℕ) (slot word : ℕ) (value : Option ℕ) → slot < sizes.slots
    → length words ≤ sizes.payload_words → slice_get words word ≡ value
    → IsPublishing sizes routes words (write_from slot word value)
write_within sizes routes words slot word None there room e = tt
write_within sizes routes words slot word (Some value) there room e = (there, omega (arith, slice_get_within words word value e), room)

head_within : (sizes : TableSizes) (routes : List Route) (words : List ℕ) (slot word : ℕ) (value : Option ℕ) → slot < sizes.slots
    → length words ≤ 3 + sizes.user_header_words → slice_get words word ≡ value
    → IsPublishing sizes routes words (head_from slot word value)
head_within sizes routes words slot word None there room e = tt
head_within sizes routes words slot word (Some value) there room e = (there, omega (arith, slice_get_within words word value e), room)

push_within : (sizes : TableSizes) (routes : List Route) (words : List ℕ) (slot place : ℕ) (delivery : Delivery) (at : Option Route)
    → slice_get routes place ≡ at
    → IsPublishing sizes routes words (push_from slot place delivery at)
push_within sizes routes words slot place delivery None e = tt
push_within sizes routes words slot place delivery (Some route) e = e

sweep_within : (sizes : TableSizes) (routes : List Route) (words : List ℕ) (slot place : ℕ) (at : Option Route)
    → slice_get routes place ≡ at
    → IsPublishing sizes routes words (sweep_from routes slot place at)
sweep_within sizes routes words slot place None e = push_within sizes routes words slot 0 nothing_sent (slice_get routes 0) refl
sweep_within sizes routes words slot place (Some route) e = e

send_within : (sizes : TableSizes) (routes : List Route) (words : List ℕ) (slot place : ℕ) (route : Route) (pop : Pop)
    (answer : Option PopAnswer) → IsAt routes place route
    → IsPublishing sizes routes words (send_reclaimed routes slot place route pop answer)
send_within sizes routes words slot place route pop None at = at
send_within sizes routes words slot place route pop (Some (Got (Some back))) at = at
send_within sizes routes words slot place route pop (Some (Got None)) at
    = sweep_within sizes routes words slot (successor place) (slice_get routes (successor place)) refl
send_within sizes routes words slot place route pop (Some (Saw some)) at
    = sweep_within sizes routes words slot (successor place) (slice_get routes (successor place)) refl

pushed_within : (sizes : TableSizes) (routes : List Route) (words : List ℕ) (slot place : ℕ) (route : Route) (push : Push)
    (delivery : Delivery) (answer : Option PushAnswer) → IsAt routes place route
    → IsPublishing sizes routes words (pushed routes slot place route push delivery answer)
pushed_within sizes routes words slot place route push delivery None at = at
pushed_within sizes routes words slot place route push delivery (Some answer) at
    = push_within sizes routes words slot (successor place) (counted delivery answer) (slice_get routes (successor place)) refl

take_within : (sizes : TableSizes) (routes : List Route) (words : List ℕ) (c : PublisherCall) (answer : ℕ)
    → IsPublishing sizes routes words c → IsPublishing sizes routes words (publisher_take routes words c answer)
take_within sizes routes words publishing.Idle answer h = tt
take_within sizes routes words (publishing.LoanReclaims place route pop) answer h
    = loan_within sizes routes words place route (pop_take pop answer) (refusing_pop_answer (pop_take pop answer)) h
take_within sizes routes words publishing.Lending answer h = tt
take_within sizes routes words (publishing.Writing slot word value) answer h
    = write_within sizes routes words slot (successor word) (slice_get words (successor word)) h.0 h.2 refl
take_within sizes routes words (publishing.Written slot) answer h = tt
take_within sizes routes words (publishing.Heading slot word value) answer h
    = head_within sizes routes words slot (successor word) (slice_get words (successor word)) h.0 h.2 refl
take_within sizes routes words (publishing.Remembering slot) answer h = sweep_within sizes routes words slot 0 (slice_get routes 0) refl
take_within sizes routes words (publishing.SendReclaims slot place route pop) answer h
    = send_within sizes routes words slot place route (pop_take pop answer) (refusing_pop_answer (pop_take pop answer)) h
take_within sizes routes words (publishing.Pushing slot place route push delivery) answer h
    = pushed_within sizes routes words slot place route (push_take push answer) delivery (push_answer (push_take push answer)) h
take_within sizes routes words (publishing.Sent slot delivery) answer h = tt
take_within sizes routes words (publishing.Dropping slot) answer h = tt

header_within : (sizes : TableSizes) (word : ℕ) (b : Bool) → nat_lt word 3 ≡ b → word < 3 + sizes.user_header_words
    → IsSlotWord sizes (if b then Header word else UserHeader (word - 3))
header_within sizes word true e h = ltb-true word 3 e
header_within sizes word false e h = omega (arith, ltb-false word 3 e)

next_within : (sizes : TableSizes) (routes : List Route) (words : List ℕ) (c : PublisherCall) → All (IsRoute sizes) routes
    → IsPublishing sizes routes words c → IsOfTable sizes (publisher_next c)
next_within sizes routes words publishing.Idle all h = tt
next_within sizes routes words (publishing.LoanReclaims place route pop) all h =
    let r : IsRoute sizes route = all_at (IsRoute sizes) routes place route h all in
    ring_within sizes route.connection Completion route.completion_cells (pop_next pop) r.connection r.gives_back r.completion
next_within sizes routes words publishing.Lending all h = tt
next_within sizes routes words (publishing.Writing slot word value) all h = (h.0, h.1)
next_within sizes routes words (publishing.Written slot) all h = tt
next_within sizes routes words (publishing.Heading slot word value) all h = (h.0, header_within sizes word (nat_lt word 3) refl h.1)
next_within sizes routes words (publishing.Remembering slot) all h = tt
next_within sizes routes words (publishing.SendReclaims slot place route pop) all h =
    let r : IsRoute sizes route = all_at (IsRoute sizes) routes place route h all in
    ring_within sizes route.connection Completion route.completion_cells (pop_next pop) r.connection r.gives_back r.completion
next_within sizes routes words (publishing.Pushing slot place route push delivery) all h =
    let r : IsRoute sizes route = all_at (IsRoute sizes) routes place route h all in
    ring_within sizes route.connection Submission route.submission_cells (push_next push) r.connection r.sends r.submission
next_within sizes routes words (publishing.Sent slot delivery) all h = tt
next_within sizes routes words (publishing.Dropping slot) all h = tt

-- the slots of a publisher stay the same
record KeepsSlots (before after : BookState) : Type 0 where
  first : after.first ≡ before.first
  loans : length after.loans ≡ length before.loans

put_length : {X : Type 0} (xs : List X) (at : ℕ) (x : X) → length (put_at xs at x) ≡ length xs
put_length {X} xs at x = by_test (nat_lt at (length xs))
  where
    by_test : (b : Bool) → length (if b then set xs at x else xs) ≡ length xs
    by_test true = length-set xs at x
    by_test false = refl

either_keeps : (before one other : BookState) (test : Bool) → KeepsSlots before one → KeepsSlots before other
    → KeepsSlots before (if test then one else other)
either_keeps before one other true h g = h
either_keeps before one other false h g = g

lent_keeps : (book : BookState) (at : Option ℕ) → KeepsSlots book (lent_from book at)
lent_keeps book None = record { first = refl; loans = refl }
lent_keeps book (Some index) = record { first = refl; loans = put_length book.loans index mark.Lent }

newest_keeps : (slot : ℕ) (book before : BookState) → KeepsSlots before book → KeepsSlots before (newest_of slot book)
newest_keeps slot book before h =
    either_keeps before _ _ (nat_lt (length book.history) book.kept) (record { first = h.first; loans = h.loans })
    (record { first = h.first; loans = h.loans })

unlent_keeps : (slot : ℕ) (book : BookState) → KeepsSlots book (unlent slot book)
unlent_keeps slot book = record { first = refl; loans = put_length book.loans (slot - book.first) mark.No }

dropped_keeps : (slot : ℕ) (book : BookState) → KeepsSlots book (dropped slot book)
dropped_keeps slot book = record { first = refl; loans = put_length book.loans (slot - book.first) mark.No }

changed_keeps : (c : PublisherChange) (book : BookState) → KeepsSlots book (changed c book)
changed_keeps change.Nothing book = record { first = refl; loans = refl }
changed_keeps change.Lend book = either_keeps book _ _ (nat_lt book.out book.most_loans) (lent_keeps book (first_free book.uses 0))
    (record { first = refl; loans = refl })
changed_keeps (change.Mark slot) book = record { first = refl; loans = put_length book.loans (slot - book.first) mark.Written }
changed_keeps (change.Remember slot) book
    = either_keeps book _ _ (nat_lt 0 book.kept) (newest_keeps slot (unlent slot book) book (unlent_keeps slot book))
    (dropped_keeps slot book)
changed_keeps (change.TakenBack place slot) book = record { first = refl; loans = refl }
changed_keeps (change.Put place slot) book = record { first = refl; loans = refl }
changed_keeps (change.LeftOut place slot) book = record { first = refl; loans = refl }
changed_keeps (change.DropLoan slot) book = dropped_keeps slot book

after_within : (sizes : TableSizes) (lane : PublisherLaneState) (answer : ℕ) → IsPublisher sizes lane
    → IsPublisher sizes (publisher_after answer lane)
after_within sizes lane answer k =
    let g = changed_keeps (publisher_change lane.port.call answer) lane.port.book in
    record {
      routes = k.routes;
      call = take_within sizes lane.port.routes (words_of lane.port) lane.port.call answer k.call;
      slots = omega (arith, k.slots, g.first, g.loans);
      payload = k.payload;
      head = k.head;
      heads = k.heads ∙ sym g.loans;
      widths = k.widths;
    }

-- a slot that is out is one of the publisher's
record IsOwn (book : BookState) (slot : ℕ) : Type 0 where
  above : book.first ≤ slot
  below : slot - book.first < length book.loans

no_loan : (book : BookState) (slot : ℕ) → is_out mark.No ≡ true → IsOwn book slot
no_loan book slot h = absurd (cc)

own_at : (book : BookState) (slot : ℕ) (b : Bool) → nat_lt slot book.first ≡ b
    → is_out (if b then mark.No else get_or book.loans (slot - book.first) mark.No) ≡ true → IsOwn book slot
own_at book slot true e h = no_loan book slot h
own_at book slot false e h =
    elim (cases_lt (slot - book.first) (length book.loans)) [
      | inl lt ↦ record { above = ltb-false slot book.first e; below = lt }
      | inr ge ↦ no_loan book slot (sym (ap is_out (get_or_past book.loans (slot - book.first) mark.No ge)) ∙ h)
    ]

own : (book : BookState) (slot : ℕ) → is_out (loan_of slot book) ≡ true → IsOwn book slot
own book slot h = own_at book slot (nat_lt slot book.first) refl h

written_is_out : (m : LoanMark) → is_written m ≡ true → is_out m ≡ true
written_is_out mark.No h = h
written_is_out mark.Lent h = refl
written_is_out mark.Written h = refl

-- a number takes no room
pub numbered_length : (number : Option ℕ) (head : List ℕ) → length (with_number number head) ≡ length head
numbered_length None head = refl
numbered_length (Some number) head = by_test (nat_lt 3 (length head))
  where
    by_test : (b : Bool) → length (if b then set head 3 number else head) ≡ length head
    by_test true = length-set head 3 number
    by_test false = refl

kept_head_width : (sizes : TableSizes) (lane : PublisherLaneState) (slot : ℕ) → IsPublisher sizes lane → IsOwn lane.port.book slot
    → length (kept_head slot lane) ≡ 3 + sizes.user_header_words
kept_head_width sizes lane slot k o = All-get_or (λ (head : List ℕ). length head ≡ 3 + sizes.user_header_words) lane.heads
    (index_of slot lane) [] (omega (arith, k.heads, o.below)) k.widths

head_width : (sizes : TableSizes) (lane : PublisherLaneState) (slot : ℕ) → IsPublisher sizes lane → IsOwn lane.port.book slot
    → length (head_of slot lane) ≡ 3 + sizes.user_header_words
head_width sizes lane slot k o
    = numbered_length (number_after lane.last) (kept_head slot lane) ∙ kept_head_width sizes lane slot k o

kept_width : (head user_header : List ℕ) (words : ℕ) → length head ≡ 3 + words → 3 + length user_header ≡ 3 + words
    → length (with_user_header head user_header) ≡ 3 + words
kept_width head user_header words h g = omega (arith, length-append (take 3 head) user_header, length-take 3 head, h, g)

begun_within : (sizes : TableSizes) (lane : PublisherLaneState) (moment : ℕ) (c : Call) → publisher_fits lane (Begin c) ≡ true
    → IsPublisher sizes lane → IsPublisher sizes (publisher_begun moment c lane)
begun_within sizes lane moment call.LoanUninit fit k = record {
  routes = k.routes;
  call = loan_from_within sizes lane.port.routes (words_of lane.port) 0 (slice_get lane.port.routes 0) refl;
  slots = k.slots;
  payload = k.payload;
  head = k.head;
  heads = k.heads;
  widths = k.widths;
}
begun_within sizes lane moment (call.Write loan payload user_header) fit k =
    let fills_test : Bool = length payload.items == length lane.port.payload in
    let heads_test : Bool = 3 + length user_header.items == length lane.port.head in
    let may = and_right (publisher_is_idle lane.port.call) (publisher_may lane (call.Write loan payload user_header)) fit in
    let sized = and_left (is_out (loan_of loan lane.port.book) && fills_test) heads_test may in
    let out = and_left (is_out (loan_of loan lane.port.book)) fills_test sized in
    let fills : length payload.items ≡ length lane.port.payload
    = eqb-true (length payload.items) (length lane.port.payload) (and_right (is_out (loan_of loan lane.port.book)) fills_test sized) in
    let heads : 3 + length user_header.items ≡ length lane.port.head
    = eqb-true (3 + length user_header.items) (length lane.port.head)
    (and_right (is_out (loan_of loan lane.port.book) && fills_test) heads_test may) in
    let o = own lane.port.book loan out in
    record {
      routes = k.routes;
      call = write_within sizes lane.port.routes payload.items loan 0 (slice_get payload.items 0)
          (omega (arith, k.slots, o.above, o.below)) (omega (arith, k.payload, fills)) refl;
      slots = k.slots;
      payload = fills ∙ k.payload;
      head = k.head;
      heads = length-set lane.heads (index_of loan lane) (with_user_header (kept_head loan lane) user_header.items) ∙ k.heads;
      widths = All-set (λ (head : List ℕ). length head ≡ 3 + sizes.user_header_words) lane.heads (index_of loan lane)
          (with_user_header (kept_head loan lane) user_header.items)
          (kept_width (kept_head loan lane) user_header.items sizes.user_header_words (kept_head_width sizes lane loan k o)
          (heads ∙ k.head))
          k.widths;
    }
begun_within sizes lane moment (call.Send loan) fit k =
    let out = written_is_out (loan_of loan lane.port.book)
    (and_right (publisher_is_idle lane.port.call) (is_written (loan_of loan lane.port.book)) fit) in
    let o = own lane.port.book loan out in
    let width : length (head_of loan lane) ≡ 3 + sizes.user_header_words = head_width sizes lane loan k o in
    record {
      routes = k.routes;
      call = head_within sizes lane.port.routes (head_of loan lane) loan 0 (slice_get (head_of loan lane) 0)
          (omega (arith, k.slots, o.above, o.below)) (omega (arith, width)) refl;
      slots = k.slots;
      payload = k.payload;
      head = width;
      heads = k.heads;
      widths = k.widths;
    }
begun_within sizes lane moment (call.DropLoan loan) fit k =
    record { routes = k.routes; call = tt; slots = k.slots; payload = k.payload; head = k.head; heads = k.heads; widths = k.widths }
begun_within sizes lane moment call.Receive fit k = k
begun_within sizes lane moment (call.Read sample) fit k = k
begun_within sizes lane moment (call.Release sample) fit k = k

pub publishers_stay_within : PublishersStayWithin
publishers_stay_within sizes lane k = (
  λ moment c fit. begun_within sizes lane moment c fit k,
  λ answer. after_within sizes lane answer k,
  next_within sizes lane.port.routes (words_of lane.port) lane.port.call k.routes k.call,
)

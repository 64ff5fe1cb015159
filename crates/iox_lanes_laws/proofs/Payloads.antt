-- What a call that no other call overlaps leaves of the payloads that slots hold, and of the ports.
use Rattle.std.proofs.Common.{ℕ, zero, suc, ◌≡◌, ◌-◌, ◌<◌, ◌≤◌, ◌^◌, Bool, true, false, nat_lt, if◌then◌else◌, List, length}
use Rattle.std.proofs.Common.{set, slice_get, Option, Some, None, refl, sym, ◌∙◌, ap, subst, arith}
use Rattle.std.specs.Global.{Vec}
use Rattle.std.proofs.lemmas.List.{ext_get_or, length-set}
use Rattle.iox_lanes_machine.specs.QueuesSteps.Access.{successor}
use Rattle.iox_lanes_machine.specs.QueuesSteps.declared.schedule.Stepped.TheVariants as stepped
use Rattle.iox_lanes_machine.specs.LanesBase.Table.{TableWords, held_by, after_shared}
use Rattle.iox_lanes_machine.specs.LanesBase.declared.words.sizes.TableSizes.{TableSizes}
use Rattle.iox_lanes_machine.specs.LanesBase.declared.words.word.SharedWord.TheVariants.{Slot}
use Rattle.iox_lanes_machine.specs.LanesBase.declared.words.word.SlotWord.TheVariants.{Payload}
use Rattle.iox_lanes_machine.specs.LanesBase.Publishing.{publisher_next, publisher_change, publisher_is_over}
use Rattle.iox_lanes_machine.specs.LanesBase.Subscribing.{subscriber_change}
use Rattle.iox_lanes_machine.specs.LanesBase.declared.calls.publisher.PublisherCall.{PublisherCall}
use Rattle.iox_lanes_machine.specs.LanesBase.declared.calls.publisher.PublisherCall.TheVariants as publishing
use Rattle.iox_lanes_machine.specs.LanesParties.PublisherKeeping.{BookState, changed, put_at, lent, lent_from, first_free}
use Rattle.iox_lanes_machine.specs.LanesParties.declared.publisher.slot_book.LoanAnswer.TheVariants as loan
use Rattle.iox_lanes_machine.specs.LanesParties.declared.publisher.slot_book.LoanMark.{LoanMark}
use Rattle.iox_lanes_machine.specs.LanesParties.declared.publisher.slot_book.LoanMark.TheVariants as mark
use Rattle.iox_lanes_machine.specs.LanesParties.Parties.{PublisherLaneState, SubscriberLaneState, name_of, publisher_begun}
use Rattle.iox_lanes_machine.specs.LanesParties.Within.{IsPublisher}
use Rattle.iox_lanes_machine.specs.LanesParties.declared.call.Call.{Call}
use Rattle.iox_lanes_machine.specs.LanesParties.declared.call.Call.TheVariants as call
use Rattle.iox_lanes_machine.specs.LanesParties.declared.call.CallName.{CallName}
use Rattle.iox_lanes_machine.specs.LanesParties.declared.call.CallName.TheVariants as name
use Rattle.iox_lanes_machine.specs.LanesParties.declared.call.Move.TheVariants.{Begin, GoOn}
use Rattle.iox_lanes_machine.specs.LanesParties.declared.call.Party.{Party}
use Rattle.iox_lanes_machine.specs.LanesParties.declared.call.Party.TheVariants.{Publisher, Subscriber}
use Rattle.iox_lanes_machine.proofs.LanesParties.Rings.{all_at}
use Rattle.iox_lanes_machine.specs.Apart.{MayChange, access_of, publisher_access}
use Rattle.iox_lanes_machine.specs.Calls.{IsStageOf}
use Rattle.iox_lanes_machine.specs.Kept.{IsKept}
use Rattle.iox_lanes_machine.specs.Left.{StoresHeld, HoldsPayload}
use Rattle.iox_lanes_machine.specs.Made.{listed}
use Rattle.iox_lanes_machine.specs.Told.{BegunCall, begun, call_of, publisher_call}
use Rattle.iox_lanes_machine.specs.World.{World, fits, ends, happens, publisher_given, publisher_fits_at, publisher_ends_at}
use Rattle.iox_lanes_machine.specs.World.{subscriber_given}
use Rattle.iox_lanes_machine.proofs.Apart.{steps_apart}
use Rattle.iox_lanes_machine.proofs.Ends.{some_is}
use Rattle.iox_lanes_machine.proofs.Paces.{came_kept}
use Rattle.iox_lanes_machine.proofs.ReturnSteps.{happens_ends}
use Rattle.iox_lanes_machine.proofs.Slots.{ring_touches, slots_stay}
use Rattle.iox_lanes_machine.proofs.Start.{listed_get, listed_length}
use Rattle.iox_lanes_machine.proofs.Steps.{happens_moments}
use Rattle.iox_lanes_machine.proofs.Told.{steps_told}
use Rattle.iox_lanes_machine.proofs.Whole.{happens_keeps, step_made}
use Rattle.iox_lanes_machine.proofs.BorrowCounts.{numbers_are}
use Rattle.iox_lanes_machine.proofs.Within.{set_same, changed_routes}
use Rattle.iox_lanes_laws.specs.Messages.{payload_held}
use Rattle.iox_lanes_laws.specs.Payloads.{PayloadsStayInTurn, WritesHoldInTurn}
use Rattle.iox_lanes_laws.specs.Payloads.{PublishersStayInTurn, SubscribersStayInTurn}
use Rattle.iox_lanes_laws.specs.Turns.{GoesToEnd, IsInTurn}
use Rattle.iox_lanes_laws.proofs.Books.{SameBook, SentBook, BookAlone}
use Rattle.iox_lanes_laws.proofs.Publishers as publishers
use Rattle.iox_lanes_laws.proofs.Publishers.{next_lane}
use Rattle.iox_lanes_laws.proofs.PublisherLaws.{write_stage}
use Rattle.iox_lanes_laws.proofs.Stages.{head_is_no_payload}
use Rattle.iox_lanes_laws.proofs.Subscribers as subscribers

-- the payload of a slot is its words
held_same : (t u : TableWords) (slot : ℕ) → u.sizes ≡ t.sizes
    → ((word : ℕ) → word < t.sizes.payload_words → held_by u (Slot slot (Payload word)) ≡ held_by t (Slot slot (Payload word)))
    → payload_held u slot ≡ payload_held t slot
held_same t u slot e same =
    ap (λ (sizes : TableSizes). listed (λ word. held_by u (Slot slot (Payload word))) sizes.payload_words) e
    ∙ ext_get_or 0 (listed (λ word. held_by u (Slot slot (Payload word))) t.sizes.payload_words) (payload_held t slot)
    (listed_length (λ word. held_by u (Slot slot (Payload word))) t.sizes.payload_words
    ∙ sym (listed_length (λ word. held_by t (Slot slot (Payload word))) t.sizes.payload_words))
    (λ word below.
    let within : word < t.sizes.payload_words
    = omega (arith, below, listed_length (λ w. held_by u (Slot slot (Payload w))) t.sizes.payload_words) in
    listed_get (λ w. held_by u (Slot slot (Payload w))) t.sizes.payload_words word 0 within ∙ same word within
    ∙ sym (listed_get (λ w. held_by t (Slot slot (Payload w))) t.sizes.payload_words word 0 within))

-- only a write stores words of a payload, of its own slot
only_writes : (called : CallName) (c : PublisherCall) (slot word : ℕ) → IsStageOf called c
    → MayChange (publisher_next c) (Slot slot (Payload word)) → called ≡ name.Write slot
only_writes called publishing.Idle slot word stage t = absurd t
only_writes called (publishing.LoanReclaims place route p) slot word stage t = absurd (ring_touches _ _ _ _ slot (Payload word) t)
only_writes called publishing.Lending slot word stage t = absurd t
only_writes called (publishing.Writing own at value) slot word stage t = stage ∙ ap (λ (s : ℕ). name.Write s) (same t)
  where
    same : Slot slot (Payload word) ≡ Slot own (Payload at) → own ≡ slot
    same e = cc e
only_writes called (publishing.Written own) slot word stage t = absurd t
only_writes called (publishing.Heading own at value) slot word stage t = absurd (head_is_no_payload slot own at word (nat_lt at 3) t)
only_writes called (publishing.Remembering own) slot word stage t = absurd t
only_writes called (publishing.SendReclaims own place route p) slot word stage t
    = absurd (ring_touches _ _ _ _ slot (Payload word) t)
only_writes called (publishing.Pushing own place route p delivery) slot word stage t
    = absurd (ring_touches _ _ _ _ slot (Payload word) t)
only_writes called (publishing.Sent own delivery) slot word stage t = absurd t
only_writes called (publishing.Dropping own) slot word stage t = absurd t

-- the call that a publisher began last has a name
asked_of : (m : World) (place : ℕ) (lane : PublisherLaneState) (at : BegunCall) → slice_get m.publishers place ≡ Some lane
    → call_of m (Publisher place) ≡ Some at → lane.call ≡ at.call
asked_of m place lane at found e =
    ap (λ (c : BegunCall). c.call)
    (some_is (begun lane.call lane.first) at (sym (ap publisher_call found) ∙ e))

-- what a step of a publisher may change of payloads
touches : (m : World) (place : ℕ) (at : BegunCall) (slot word : ℕ) → IsKept m → m.moments ≤ 2 ^ 63
    → fits m (Publisher place) GoOn ≡ true → call_of m (Publisher place) ≡ Some at
    → MayChange (access_of m (Publisher place) GoOn) (Slot slot (Payload word)) → at.call ≡ name.Write slot
touches m place at slot word k few fit e t = by_lane (slice_get m.publishers place) refl fit t
  where
    by_lane : (o : Option PublisherLaneState) → slice_get m.publishers place ≡ o → publisher_fits_at o GoOn ≡ true
        → MayChange (publisher_access o) (Slot slot (Payload word)) → at.call ≡ name.Write slot
    by_lane None found fit t = absurd (cc fit)
    by_lane (Some lane) found fit t =
        sym (asked_of m place lane at found e)
        ∙ only_writes lane.call lane.port.call slot word ((k.calls few).publishers place lane found).0 t

-- a begin leaves all payloads
begin_payload : (m : World) (party : Party) (c : Call) (slot : ℕ) → IsKept m → fits m party (Begin c) ≡ true
    → slot < m.table.sizes.slots
    → payload_held (happens m party (Begin c)).table slot ≡ payload_held m.table slot
begin_payload m party c slot k fit there =
    let made = step_made m party (Begin c) fit (ends m party (Begin c)) refl in
    let apart = steps_apart m party (Begin c) made.0 (happens m party (Begin c)) made.1 k.within in
    held_same m.table (happens m party (Begin c)).table slot (happens_ends m party (Begin c) fit k.returns).sizes
    (λ word below. apart.words (Slot slot (Payload word)) (there, below) (λ t. t))

-- and so does each step inside a call that doesn't write the slot
step_payload : (m : World) (party : Party) (at : BegunCall) (slot : ℕ) → IsKept m → m.moments ≤ 2 ^ 63
    → fits m party GoOn ≡ true → call_of m party ≡ Some at → slot < m.table.sizes.slots → (at.call ≡ name.Write slot → ⊥)
    → payload_held (happens m party GoOn).table slot ≡ payload_held m.table slot
step_payload m (Publisher place) at slot k few fit e there not =
    let made = step_made m (Publisher place) GoOn fit (ends m (Publisher place) GoOn) refl in
    let apart = steps_apart m (Publisher place) GoOn made.0 (happens m (Publisher place) GoOn) made.1 k.within in
    held_same m.table (happens m (Publisher place) GoOn).table slot (happens_ends m (Publisher place) GoOn fit k.returns).sizes
    (λ word below. apart.words (Slot slot (Payload word)) (there, below)
    (λ t. not (touches m place at slot word k few fit e t)))
step_payload m (Subscriber place) at slot k few fit e there not =
    let made = step_made m (Subscriber place) GoOn fit (ends m (Subscriber place) GoOn) refl in
    let apart = steps_apart m (Subscriber place) GoOn made.0 (happens m (Subscriber place) GoOn) made.1 k.within in
    held_same m.table (happens m (Subscriber place) GoOn).table slot (happens_ends m (Subscriber place) GoOn fit k.returns).sizes
    (λ word below. slots_stay m (Subscriber place) GoOn made.0 (happens m (Subscriber place) GoOn) k.loans apart slot (Payload word)
    (there, below) (λ none. none))

-- moments only grow
grows_to : (party : Party) (more : ℕ) (k n : World) → GoesToEnd party more k n → n.moments ≤ 2 ^ 63 → k.moments < n.moments
grows_to party zero k n h few =
    let next : n.moments ≡ successor k.moments = ap (λ (w : World). w.moments) h.2 ∙ happens_moments k party GoOn h.0 in
    omega (arith, next, few)
grows_to party (suc more) k n h few =
    let next : (h.0).moments ≡ successor k.moments
    = ap (λ (w : World). w.moments) (h.1).2 ∙ happens_moments k party GoOn (h.1).0 in
    omega (arith, next, grows_to party more h.0 n h.2 few, few)

-- so the rest of a call leaves them, and the sizes
record RestStays (k n : World) (slot : ℕ) : Type 0 where
  sizes : n.table.sizes ≡ k.table.sizes
  payload : payload_held n.table slot ≡ payload_held k.table slot

rest_stays : (party : Party) (more : ℕ) (k n : World) (at : BegunCall) (slot : ℕ) → IsKept k → GoesToEnd party more k n
    → n.moments ≤ 2 ^ 63 → call_of k party ≡ Some at → slot < k.table.sizes.slots → (at.call ≡ name.Write slot → ⊥)
    → RestStays k n slot
rest_stays party zero k n at slot kept h few e there not = record {
  sizes = ap (λ (w : World). w.table.sizes) h.2 ∙ (happens_ends k party GoOn h.0 kept.returns).sizes;
  payload = ap (λ (w : World). payload_held w.table slot) h.2
      ∙ step_payload k party at slot kept (omega (arith, grows_to party zero k n h few, few)) h.0 e there not;
}
rest_stays party (suc more) k n at slot kept h few e there not =
    let next = happens k party GoOn in
    let same : h.0 ≡ next = (h.1).2 in
    let goes = subst (λ (w : World). GoesToEnd party more w n) same h.2 in
    let few_first : k.moments ≤ 2 ^ 63 = omega (arith, grows_to party (suc more) k n h few, few) in
    let sizes = (happens_ends k party GoOn (h.1).0 kept.returns).sizes in
    let told = steps_told k party GoOn stepped.Went next ((h.1).0, (h.1).1, refl) in
    let rest = rest_stays party more next n at slot (happens_keeps k party GoOn (h.1).0 kept) goes few (told.0 ∙ e)
    (subst (λ (s : TableSizes). slot < s.slots) (sym sizes) there) not in
    record {
      sizes = rest.sizes ∙ sizes;
      payload = rest.payload ∙ step_payload k party at slot kept few_first (h.1).0 e there not;
    }

pub payloads_stay_in_turn : PayloadsStayInTurn
payloads_stay_in_turn = λ m n party c t slot there not.
    let kept = (came_kept m t.came).0 in
    let fit = t.begins.0 in
    let next = happens m party (Begin c) in
    let goes = subst (λ (w : World). GoesToEnd party t.more w n) t.begins.2 t.goes in
    let told = steps_told m party (Begin c) stepped.Went next (t.begins.0, t.begins.1, refl) in
    let sizes = (happens_ends m party (Begin c) fit kept.returns).sizes in
    let rest = rest_stays party t.more next n (begun (name_of c) m.moments) slot (happens_keeps m party (Begin c) fit kept) goes t.few
    told.0 (subst (λ (s : TableSizes). slot < s.slots) (sym sizes) there) not in
    rest.payload ∙ begin_payload m party c slot kept fit there

-- what a write stores is what it was given
record Stores (items : List ℕ) (slot : ℕ) (k : World) (lane : PublisherLaneState) (place : ℕ) : Type 0 where
  kept : IsKept k
  found : slice_get k.publishers place ≡ Some lane
  payload : lane.port.payload ≡ items
  asked : lane.call ≡ name.Write slot

store_step : (items : List ℕ) (slot : ℕ) (k : World) (lane : PublisherLaneState) (place : ℕ) → fits k (Publisher place) GoOn ≡ true
    → Stores items slot k lane place → Stores items slot (happens k (Publisher place) GoOn) (next_lane k lane) place
store_step items slot k lane place fit s = record {
  kept = happens_keeps k (Publisher place) GoOn fit s.kept;
  found = ap (λ (w : World). slice_get w.publishers place) (publishers.goes_is k place lane s.found)
      ∙ set_same k.publishers place (next_lane k lane) lane s.found;
  payload = s.payload;
  asked = s.asked;
}

-- after its last step the slot holds that
last_holds : (items : List ℕ) (slot : ℕ) (k : World) (lane : PublisherLaneState) (place : ℕ) → Stores items slot k lane place
    → k.moments ≤ 2 ^ 63 → publisher_is_over lane.port.call ≡ true
    → payload_held (happens k (Publisher place) GoOn).table slot ≡ items
last_holds items slot k lane place s few over =
    let stage : lane.port.call ≡ publishing.Written slot = write_stage slot lane.port.call over
    (subst (λ (called : CallName). IsStageOf called lane.port.call) s.asked ((s.kept.calls few).publishers place lane s.found).0) in
    let holds : HoldsPayload k.table slot k.table.sizes.payload_words lane.port.payload
    = subst (StoresHeld k.table lane.port.sends lane.port.payload lane.port.head) stage ((s.kept.left few) place lane s.found) in
    let table : (happens k (Publisher place) GoOn).table ≡ k.table
    = ap (λ (w : World). w.table) (publishers.goes_is k place lane s.found)
    ∙ ap (λ (c : PublisherCall). after_shared k.table (publisher_next c)) stage in
    let is : IsPublisher k.table.sizes lane
    = all_at (IsPublisher k.table.sizes) k.publishers place lane s.found s.kept.within.publishers in
    let wide = listed_length (λ w. held_by k.table (Slot slot (Payload w))) k.table.sizes.payload_words in
    ap (λ (t : TableWords). payload_held t slot) table
    ∙ ext_get_or 0 (payload_held k.table slot) lane.port.payload (wide ∙ sym is.payload)
    (λ word below.
    let within : word < k.table.sizes.payload_words = omega (arith, below, wide) in
    listed_get (λ w. held_by k.table (Slot slot (Payload w))) k.table.sizes.payload_words word 0 within ∙ sym (holds word within))
    ∙ s.payload

stored_at_end : (items : List ℕ) (slot place more : ℕ) (k n : World) (lane : PublisherLaneState) → Stores items slot k lane place
    → GoesToEnd (Publisher place) more k n → n.moments ≤ 2 ^ 63 → payload_held n.table slot ≡ items
stored_at_end items slot place zero k n lane s h few =
    ap (λ (w : World). payload_held w.table slot) h.2
    ∙ last_holds items slot k lane place s (omega (arith, grows_to (Publisher place) zero k n h few, few))
    (sym (ap publisher_ends_at s.found) ∙ h.1)
stored_at_end items slot place (suc more) k n lane s h few =
    stored_at_end items slot place more (happens k (Publisher place) GoOn) n (next_lane k lane)
    (store_step items slot k lane place (h.1).0 s)
    (subst (λ (w : World). GoesToEnd (Publisher place) more w n) (h.1).2 h.2) few

pub writes_hold_in_turn : WritesHoldInTurn
writes_hold_in_turn = λ m n place slot payload user_header t.
    let c : Call = call.Write slot payload user_header in
    let kept = (came_kept m t.came).0 in
    let next = happens m (Publisher place) (Begin c) in
    let goes = subst (λ (w : World). GoesToEnd (Publisher place) t.more w n) t.begins.2 t.goes in
    by_lane m n place slot payload user_header (slice_get m.publishers place) refl t.begins.0 t.more goes kept t.few
  where
    by_lane : (m n : World) (place slot : ℕ) (payload user_header : Vec ℕ) (at : Option PublisherLaneState)
        → slice_get m.publishers place ≡ at → publisher_fits_at at (Begin (call.Write slot payload user_header)) ≡ true → (more : ℕ)
        → GoesToEnd (Publisher place) more (happens m (Publisher place) (Begin (call.Write slot payload user_header))) n → IsKept m
        → n.moments ≤ 2 ^ 63
        → payload_held n.table slot ≡ payload.items
    by_lane m n place slot payload user_header None found fit more goes kept few = absurd (cc fit)
    by_lane m n place slot payload user_header (Some before) found fit more goes kept few =
        let c : Call = call.Write slot payload user_header in
        let begun = publisher_begun m.moments c before in
        let fits_there : fits m (Publisher place) (Begin c) ≡ true
        = ap (λ (x : Option PublisherLaneState). publisher_fits_at x (Begin c)) found ∙ fit in
        stored_at_end payload.items slot place more (happens m (Publisher place) (Begin c)) n begun
        (record {
          kept = happens_keeps m (Publisher place) (Begin c) fits_there kept;
          found = ap (λ (w : World). slice_get w.publishers place) (publishers.begins_is m place c before found)
              ∙ set_same m.publishers place begun before found;
          payload = refl;
          asked = refl;
        })
        goes few

-- what the numbers of a publisher's record are after its last step
record SameNumbers (was now : BookState) : Type 0 where
  first : now.first ≡ was.first
  most_loans : now.most_loans ≡ was.most_loans
  kept : now.kept ≡ was.kept
  slots : length now.loans ≡ length was.loans

put_length : (marks : List LoanMark) (at : ℕ) (value : LoanMark) → length (put_at marks at value) ≡ length marks
put_length marks at value = by_test (nat_lt at (length marks))
  where
    by_test : (b : Bool) → length (if b then set marks at value else marks) ≡ length marks
    by_test true = length-set marks at value
    by_test false = refl

lent_numbers : (book : BookState) → SameNumbers book (lent book)
lent_numbers book = by_test (nat_lt book.out book.most_loans)
  where
    by_free : (at : Option ℕ) → SameNumbers book (lent_from book at)
    by_free None = record { first = refl; most_loans = refl; kept = refl; slots = refl }
    by_free (Some index) = record { first = refl; most_loans = refl; kept = refl; slots = put_length book.loans index mark.Lent }

    by_test : (b : Bool) → SameNumbers book
        (if b then lent_from book (first_free book.uses 0) else record book { answer = Some loan.ExceedsMaxLoans })
    by_test true = by_free (first_free book.uses 0)
    by_test false = record { first = refl; most_loans = refl; kept = refl; slots = refl }

numbers_on : (was book now : BookState) → SameNumbers was book → SameNumbers book now → SameNumbers was now
numbers_on was book now g h = record {
  first = h.first ∙ g.first;
  most_loans = h.most_loans ∙ g.most_loans;
  kept = h.kept ∙ g.kept;
  slots = h.slots ∙ g.slots;
}

of_same : (was now : BookState) → SameBook was now → SameNumbers was now
of_same was now h = record {
  first = h.first;
  most_loans = h.most_loans;
  kept = h.kept;
  slots = ap (λ (l : List LoanMark). length l) h.loans;
}

of_sent : (was now : BookState) (slot : ℕ) → SentBook was slot now → SameNumbers was now
of_sent was now slot h = record {
  first = h.first;
  most_loans = h.most_loans;
  kept = h.kept;
  slots = ap (λ (l : List LoanMark). length l) h.loans ∙ put_length was.loans (slot - was.first) mark.No;
}

-- a call that ends leaves them
ended_numbers : (was book : BookState) (c : PublisherCall) (given : ℕ) → publisher_is_over c ≡ true → BookAlone was c book
    → SameNumbers was (changed (publisher_change c given) book)
ended_numbers was book publishing.Idle given over h = absurd (cc over)
ended_numbers was book (publishing.LoanReclaims place route p) given over h = absurd (cc over)
ended_numbers was book publishing.Lending given over h
    = numbers_on was book (lent book) (of_same was book h) (lent_numbers book)
ended_numbers was book (publishing.Writing slot word value) given over h = absurd (cc over)
ended_numbers was book (publishing.Written slot) given over h = numbers_on was book _ (of_same was book h)
    (record { first = refl; most_loans = refl; kept = refl; slots = put_length book.loans (slot - book.first) mark.Written })
ended_numbers was book (publishing.Heading slot word value) given over h = absurd (cc over)
ended_numbers was book (publishing.Remembering slot) given over h = absurd (cc over)
ended_numbers was book (publishing.SendReclaims slot place route p) given over h = absurd (cc over)
ended_numbers was book (publishing.Pushing slot place route p delivery) given over h = absurd (cc over)
ended_numbers was book (publishing.Sent slot delivery) given over h = of_sent was book slot h
ended_numbers was book (publishing.Dropping slot) given over h = numbers_on was book _ (of_same was book h)
    (record { first = refl; most_loans = refl; kept = refl; slots = put_length book.loans (slot - book.first) mark.No })

-- the sizes stay through a whole call
sizes_stay : (party : Party) (more : ℕ) (k n : World) → IsKept k → GoesToEnd party more k n → n.table.sizes ≡ k.table.sizes
sizes_stay party zero k n kept h
    = ap (λ (w : World). w.table.sizes) h.2 ∙ (happens_ends k party GoOn h.0 kept.returns).sizes
sizes_stay party (suc more) k n kept h =
    sizes_stay party more (happens k party GoOn) n (happens_keeps k party GoOn (h.1).0 kept)
    (subst (λ (w : World). GoesToEnd party more w n) (h.1).2 h.2)
    ∙ (happens_ends k party GoOn (h.1).0 kept.returns).sizes

sizes_same : (m : World) (party : Party) (c : Call) (n : World) → IsInTurn m party c n → n.table.sizes ≡ m.table.sizes
sizes_same m party c n t =
    let kept = (came_kept m t.came).0 in
    sizes_stay party t.more (happens m party (Begin c)) n (happens_keeps m party (Begin c) t.begins.0 kept)
    (subst (λ (w : World). GoesToEnd party t.more w n) t.begins.2 t.goes)
    ∙ (happens_ends m party (Begin c) t.begins.0 kept.returns).sizes

pub publishers_stay_in_turn : PublishersStayInTurn
publishers_stay_in_turn = λ m n place c before t found.
    let there = publishers.ends_there m place c before n t found in
    let w = publishers.whole m place c before n there.0 t found there.1 in
    let a = w.last.alone in
    let numbers = ended_numbers before.port.book (w.last.lane).port.book (w.last.lane).port.call
    (publisher_given (w.last.k).table w.last.lane) w.last.over a.book in
    let book = ap (λ (x : PublisherLaneState). x.port.book) w.after_is in (
      record { links = w.links; sizes = sizes_same m (Publisher place) c n t },
      (
        there.0,
        there.1,
        record {
          routes = ap (λ (x : PublisherLaneState). x.port.routes) w.after_is ∙ a.routes;
          fails = ap (λ (x : PublisherLaneState). x.fails) w.after_is ∙ a.fails;
          first = ap (λ (b : BookState). b.first) book ∙ numbers.first;
          most_loans = ap (λ (b : BookState). b.most_loans) book ∙ numbers.most_loans;
          kept = ap (λ (b : BookState). b.kept) book ∙ numbers.kept;
          slots = ap (λ (b : BookState). length b.loans) book ∙ numbers.slots;
        },
      ),
    )

pub subscribers_stay_in_turn : SubscribersStayInTurn
subscribers_stay_in_turn = λ m n place c before t found.
    let there = subscribers.ends_there m place c before n t found in
    let w = subscribers.whole m place c before (λ k lane. Unit {0}) n there.0 (λ k lane a a' bound next over s. tt) (λ may k bound. tt) t
    found there.1 in
    let a = w.last.alone in (
      record {
        links = ap (λ (v : World). v.links) w.last.now ∙ subscribers.links_are w.last.k place w.last.lane a.found ∙ a.links;
        sizes = sizes_same m (Subscriber place) c n t;
      },
      (
        there.0,
        there.1,
        record {
          routes = ap (λ (x : SubscriberLaneState). x.port.routes) w.after_is
              ∙ (changed_routes (subscriber_change (w.last.lane).port.call (subscriber_given (w.last.k).table w.last.lane)) _).0 ∙ a.routes;
          most_borrowed = ap (λ (x : SubscriberLaneState). x.port.most_borrowed) w.after_is
              ∙ (numbers_are (subscriber_change (w.last.lane).port.call (subscriber_given (w.last.k).table w.last.lane)) _).1 ∙ a.most;
        },
      ),
    )

-- What a call leaves of the loans and of the history, where nobody else makes a step.
use Rattle.std.proofs.Common.{ℕ, zero, suc, ◌≡◌, ◌+◌, ◌-◌, ◌<◌, ◌≤◌, ◌==◌, Bool, true, false, nat_lt, if◌then◌else◌, List, [], ◌∷◌, ◌++◌}
use Rattle.std.proofs.Common.{length, drop, get_or, set, slice_get, remove, Option, Some, None, refl, sym, ◌∙◌, ap, arith, length-append}
use Rattle.std.proofs.lemmas.Bool.{ltb-true, ltb-false}
use Rattle.std.proofs.lemmas.List.{get_or-set_same, get_or-set_other}
use Rattle.iox_lanes_machine.specs.QueuesSteps.Access.{successor}
use Rattle.iox_lanes_machine.specs.QueuesSteps.declared.order.PopAnswer.{PopAnswer}
use Rattle.iox_lanes_machine.specs.QueuesSteps.declared.order.PopAnswer.TheVariants.{Got, Saw}
use Rattle.iox_lanes_machine.specs.QueuesSteps.declared.order.PushAnswer.{PushAnswer}
use Rattle.iox_lanes_machine.specs.QueuesSteps.declared.rings.overflowing.push.Push.TheVariants as overflowing_push
use Rattle.iox_lanes_machine.specs.QueuesSteps.declared.rings.refusing.push.Push.TheVariants as refusing_push
use Rattle.iox_lanes_machine.specs.QueuesSteps.declared.rings.refusing.pop.Pop.{Pop}
use Rattle.iox_lanes_machine.specs.QueuesSteps.Refusing.{pop_take}
use Rattle.iox_lanes_machine.specs.QueuesSteps.Ends.{push_take}
use Rattle.iox_lanes_machine.specs.QueuesSteps.declared.rings.ends.Push.{Push}
use Rattle.iox_lanes_machine.specs.QueuesSteps.declared.rings.ends.Push.TheVariants as push
use Rattle.iox_lanes_machine.specs.LanesBase.Answers.{refusing_pop_answer, push_answer}
use Rattle.iox_lanes_machine.specs.LanesBase.Publishing.{publisher_take, publisher_change, publisher_is_over, publisher_is_idle}
use Rattle.iox_lanes_machine.specs.LanesBase.Publishing.{taken_back, push_change, loan_from, loan_reclaimed, write_from, head_from}
use Rattle.iox_lanes_machine.specs.LanesBase.Publishing.{push_from, sweep_from, send_reclaimed, pushed, counted, nothing_sent}
use Rattle.iox_lanes_machine.specs.LanesBase.declared.calls.publisher.Delivery.{Delivery}
use Rattle.iox_lanes_machine.specs.LanesBase.declared.calls.publisher.PublisherCall.{PublisherCall}
use Rattle.iox_lanes_machine.specs.LanesBase.declared.calls.publisher.PublisherCall.TheVariants as publishing
use Rattle.iox_lanes_machine.specs.LanesBase.declared.calls.publisher.PublisherChange.{PublisherChange}
use Rattle.iox_lanes_machine.specs.LanesBase.declared.calls.publisher.PublisherChange.TheVariants as change
use Rattle.iox_lanes_machine.specs.LanesBase.declared.calls.route.Route.{Route}
use Rattle.iox_lanes_machine.specs.LanesParties.PublisherKeeping.{BookState, changed, put_at, loan_of, unlent, dropped, newest_of}
use Rattle.iox_lanes_machine.specs.LanesParties.PublisherKeeping.{remembered, counted_down}
use Rattle.iox_lanes_machine.specs.LanesParties.declared.publisher.slot_book.LoanMark.{LoanMark}
use Rattle.iox_lanes_machine.specs.LanesParties.declared.publisher.slot_book.LoanMark.TheVariants as mark
use Rattle.iox_lanes_machine.specs.LanesParties.Parties.{PublisherLaneState, publisher_fits, publisher_may, publisher_begun, head_of}
use Rattle.iox_lanes_machine.specs.LanesParties.Parties.{is_out}
use Rattle.iox_lanes_machine.specs.LanesParties.declared.call.Call.{Call}
use Rattle.iox_lanes_machine.specs.LanesParties.declared.call.Call.TheVariants as call
use Rattle.iox_lanes_machine.specs.LanesParties.declared.call.Move.TheVariants.{Begin}
use Rattle.iox_lanes_machine.proofs.LanesParties.Rings.{and_right}
use Rattle.iox_lanes_machine.proofs.Changes.{IsChangeAt}
use Rattle.iox_lanes_laws.specs.Publishing.{newest}

-- loans and history are what they were
pub record SameBook (was now : BookState) : Type 0 where
  pub first : now.first ≡ was.first
  pub most_loans : now.most_loans ≡ was.most_loans
  pub kept : now.kept ≡ was.kept
  pub loans : now.loans ≡ was.loans
  pub history : now.history ≡ was.history

-- a slot is no loan any longer, and the newest of the history
pub record SentBook (was : BookState) (slot : ℕ) (now : BookState) : Type 0 where
  pub first : now.first ≡ was.first
  pub most_loans : now.most_loans ≡ was.most_loans
  pub kept : now.kept ≡ was.kept
  pub loans : now.loans ≡ put_at was.loans (slot - was.first) mark.No
  pub history : now.history ≡ newest was.kept (was.history ++ slot ∷ [])

-- what a publisher's record says up to where its call stands
abbrev pub BookAlone : BookState → PublisherCall → BookState → Type 0
BookAlone was publishing.Idle now = ⊥
BookAlone was (publishing.LoanReclaims place route pop) now = SameBook was now
BookAlone was publishing.Lending now = SameBook was now
BookAlone was (publishing.Writing slot word value) now = SameBook was now
BookAlone was (publishing.Written slot) now = SameBook was now
BookAlone was (publishing.Heading slot word value) now = SameBook was now
BookAlone was (publishing.Remembering slot) now = SameBook was now
BookAlone was (publishing.SendReclaims slot place route pop) now = SentBook was slot now
BookAlone was (publishing.Pushing slot place route push delivery) now = SentBook was slot now
BookAlone was (publishing.Sent slot delivery) now = SentBook was slot now
BookAlone was (publishing.Dropping slot) now = SameBook was now

pub same_book : (book : BookState) → SameBook book book
same_book book = record { first = refl; most_loans = refl; kept = refl; loans = refl; history = refl }

-- what happens at a connection leaves loans and history
kept_by : (here : ℕ) (c : PublisherChange) (book : BookState) → IsChangeAt here c → SameBook book (changed c book)
kept_by here change.Nothing book is = same_book book
kept_by here change.Lend book is = absurd is
kept_by here (change.Mark slot) book is = absurd is
kept_by here (change.Remember slot) book is = absurd is
kept_by here (change.TakenBack place slot) book is = record { first = refl; most_loans = refl; kept = refl; loans = refl; history = refl }
kept_by here (change.Put place slot) book is = record { first = refl; most_loans = refl; kept = refl; loans = refl; history = refl }
kept_by here (change.LeftOut place slot) book is = record { first = refl; most_loans = refl; kept = refl; loans = refl; history = refl }
kept_by here (change.DropLoan slot) book is = absurd is

same_on : (was book now : BookState) → SameBook was book → SameBook book now → SameBook was now
same_on was book now g h
    = record {
      first = h.first ∙ g.first;
      most_loans = h.most_loans ∙ g.most_loans;
      kept = h.kept ∙ g.kept;
      loans
          = h.loans ∙ g.loans;
      history = h.history ∙ g.history;
    }

sent_on : (was book now : BookState) (slot : ℕ) → SentBook was slot book → SameBook book now → SentBook was slot now
sent_on was book now slot g h
    = record {
      first = h.first ∙ g.first;
      most_loans = h.most_loans ∙ g.most_loans;
      kept = h.kept ∙ g.kept;
      loans
          = h.loans ∙ g.loans;
      history = h.history ∙ g.history;
    }

taken_there : (place : ℕ) (a : Option PopAnswer) → IsChangeAt place (taken_back place a)
taken_there place None = tt
taken_there place (Some (Got (Some slot))) = refl
taken_there place (Some (Got None)) = tt
taken_there place (Some (Saw some)) = tt

pushed_there : (place : ℕ) (p : Push) (a : ℕ) → IsChangeAt place (push_change place p a)
pushed_there place (push.Overflowing overflowing_push.Idle) a = tt
pushed_there place (push.Overflowing (overflowing_push.Begun limit value)) a = tt
pushed_there place (push.Overflowing (overflowing_push.SawWrite limit value write next)) a = tt
pushed_there place (push.Overflowing (overflowing_push.SawRead limit value write next seen)) a = tt
pushed_there place (push.Overflowing (overflowing_push.Filled limit value write next seen)) a = refl
pushed_there place (push.Overflowing (overflowing_push.Full value seen next)) a = tt
pushed_there place (push.Overflowing (overflowing_push.SawOldest value seen next oldest)) a = by_test (a == seen)
  where
    by_test : (b : Bool) → IsChangeAt place (if b then change.LeftOut place oldest else change.Nothing)
    by_test true = refl
    by_test false = tt
pushed_there place (push.Overflowing (overflowing_push.Pushed value answered)) a = tt
pushed_there place (push.Refusing refusing_push.Idle) a = tt
pushed_there place (push.Refusing (refusing_push.Begun limit value)) a = tt
pushed_there place (push.Refusing (refusing_push.SawWrite limit value write next)) a = tt
pushed_there place (push.Refusing (refusing_push.SawRoom value write next)) a = tt
pushed_there place (push.Refusing (refusing_push.Filled value next)) a = refl
pushed_there place (push.Refusing (refusing_push.Pushed value answered)) a = tt

-- the stages that follow
loan_book : (was now : BookState) (place : ℕ) (at : Option Route) → SameBook was now → BookAlone was (loan_from place at) now
loan_book was now place None h = h
loan_book was now place (Some route) h = h

loaned_book : (was now : BookState) (routes : List Route) (place : ℕ) (route : Route) (p : Pop) (a : Option PopAnswer)
    → SameBook was now → BookAlone was (loan_reclaimed routes place route p a) now
loaned_book was now routes place route p None h = h
loaned_book was now routes place route p (Some (Got (Some slot))) h = h
loaned_book was now routes place route p (Some (Got None)) h = loan_book was now (successor place) (slice_get routes (successor place)) h
loaned_book was now routes place route p (Some (Saw some)) h = loan_book was now (successor place) (slice_get routes (successor place)) h

write_book : (was now : BookState) (slot word : ℕ) (at : Option ℕ) → SameBook was now → BookAlone was (write_from slot word at) now
write_book was now slot word None h = h
write_book was now slot word (Some value) h = h

head_book : (was now : BookState) (slot word : ℕ) (at : Option ℕ) → SameBook was now → BookAlone was (head_from slot word at) now
head_book was now slot word None h = h
head_book was now slot word (Some value) h = h

push_book : (was now : BookState) (slot place : ℕ) (delivery : Delivery) (at : Option Route) → SentBook was slot now
    → BookAlone was (push_from slot place delivery at) now
push_book was now slot place delivery None h = h
push_book was now slot place delivery (Some route) h = h

sweep_book : (was now : BookState) (routes : List Route) (slot place : ℕ) (at : Option Route) → SentBook was slot now
    → BookAlone was (sweep_from routes slot place at) now
sweep_book was now routes slot place None h = push_book was now slot 0 nothing_sent (slice_get routes 0) h
sweep_book was now routes slot place (Some route) h = h

swept_book : (was now : BookState) (routes : List Route) (slot place : ℕ) (route : Route) (p : Pop) (a : Option PopAnswer)
    → SentBook was slot now → BookAlone was (send_reclaimed routes slot place route p a) now
swept_book was now routes slot place route p None h = h
swept_book was now routes slot place route p (Some (Got (Some back))) h = h
swept_book was now routes slot place route p (Some (Got None)) h
    = sweep_book was now routes slot (successor place) (slice_get routes (successor place)) h
swept_book was now routes slot place route p (Some (Saw some)) h
    = sweep_book was now routes slot (successor place) (slice_get routes (successor place)) h

pushed_book : (was now : BookState) (routes : List Route) (slot place : ℕ) (route : Route) (p : Push) (delivery : Delivery)
    (a : Option PushAnswer) → SentBook was slot now → BookAlone was (pushed routes slot place route p delivery a) now
pushed_book was now routes slot place route p delivery None h = h
pushed_book was now routes slot place route p delivery (Some given) h
    = push_book was now slot (successor place) (counted delivery given) (slice_get routes (successor place)) h

-- what is remembered is no loan, and the newest
remembered_loans : (slot : ℕ) (book : BookState) → (remembered slot book).loans ≡ put_at book.loans (slot - book.first) mark.No
remembered_loans slot book = by_kept (nat_lt 0 book.kept)
  where
    by_room : (b : Bool) → (if b then record (unlent slot book) { history = book.history ++ slot ∷ [] } else record (unlent slot book)
        { history = remove book.history 0 ++ slot ∷ []; uses = counted_down book.uses (get_or book.history 0 0 - book.first) }).loans
        ≡ put_at book.loans (slot - book.first) mark.No
    by_room true = refl
    by_room false = refl

    by_kept : (b : Bool) → (if b then newest_of slot (unlent slot book) else dropped slot book).loans
        ≡ put_at book.loans (slot - book.first) mark.No
    by_kept true = by_room (nat_lt (length book.history) book.kept)
    by_kept false = refl

record SameNumbers (was now : BookState) : Type 0 where
  first : now.first ≡ was.first
  most_loans : now.most_loans ≡ was.most_loans
  kept : now.kept ≡ was.kept

remembered_numbers : (slot : ℕ) (book : BookState) → SameNumbers book (remembered slot book)
remembered_numbers slot book = by_kept (nat_lt 0 book.kept)
  where
    by_room : (b : Bool) → SameNumbers book
        (if b then record (unlent slot book) { history = book.history ++ slot ∷ [] } else record (unlent slot book)
        { history = remove book.history 0 ++ slot ∷ []; uses = counted_down book.uses (get_or book.history 0 0 - book.first) })
    by_room true = record { first = refl; most_loans = refl; kept = refl }
    by_room false = record { first = refl; most_loans = refl; kept = refl }

    by_kept : (b : Bool) → SameNumbers book (if b then newest_of slot (unlent slot book) else dropped slot book)
    by_kept true = by_room (nat_lt (length book.history) book.kept)
    by_kept false = record { first = refl; most_loans = refl; kept = refl }

drop_none : (n : ℕ) (xs : List ℕ) → n ≡ 0 → drop n xs ≡ xs
drop_none n xs e = ap (λ (k : ℕ). drop k xs) e

drop_one : (n : ℕ) (xs : List ℕ) (x : ℕ) → n ≡ 1 → 0 < length xs → remove xs 0 ++ x ∷ [] ≡ drop n (xs ++ x ∷ [])
drop_one n [] x e some = absurd (omega (arith, some))
drop_one n (y ∷ xs) x e some = sym (ap (λ (k : ℕ). drop k (y ∷ xs ++ x ∷ [])) e)

drop_all : (n : ℕ) (xs : List ℕ) (x : ℕ) → n ≡ 1 → length xs ≡ 0 → xs ≡ drop n (xs ++ x ∷ [])
drop_all n [] x e none = sym (ap (λ (k : ℕ). drop k (x ∷ [])) e)
drop_all n (y ∷ xs) x e none = absurd (omega (arith, none))

remembered_history : (slot : ℕ) (book : BookState) → length book.history ≤ book.kept
    → (remembered slot book).history ≡ newest book.kept (book.history ++ slot ∷ [])
remembered_history slot book few = by_kept (nat_lt 0 book.kept) refl
  where
    more : length (book.history ++ slot ∷ []) ≡ length book.history + 1
    more = length-append book.history (slot ∷ [])

    by_room : (b : Bool) → nat_lt (length book.history) book.kept ≡ b → 0 < book.kept
        → (if b then record (unlent slot book) { history = book.history ++ slot ∷ [] } else record (unlent slot book)
        { history = remove book.history 0 ++ slot ∷ []; uses = counted_down book.uses (get_or book.history 0 0 - book.first) }).history
        ≡ newest book.kept (book.history ++ slot ∷ [])
    by_room true e some = sym (drop_none (length (book.history ++ slot ∷ []) - book.kept) (book.history ++ slot ∷ [])
        (omega (arith, more, ltb-true (length book.history) book.kept e)))
    by_room false e some = let full = ltb-false (length book.history) book.kept e in
        drop_one (length (book.history ++ slot ∷ []) - book.kept) book.history slot (omega (arith, more, full, few))
        (omega (arith, full, some))

    by_kept : (b : Bool) → nat_lt 0 book.kept ≡ b
        → (if b then newest_of slot (unlent slot book) else dropped slot book).history ≡ newest book.kept (book.history ++ slot ∷ [])
    by_kept true e = by_room (nat_lt (length book.history) book.kept) refl (ltb-true 0 book.kept e)
    by_kept false e = let none = ltb-false 0 book.kept e in
        drop_all (length (book.history ++ slot ∷ []) - book.kept) book.history slot (omega (arith, more, few, none))
        (omega (arith, few, none))

sent_book : (was book : BookState) (slot : ℕ) → length book.history ≤ book.kept → SameBook was book
    → SentBook was slot (remembered slot book)
sent_book was book slot few h =
    let numbers = remembered_numbers slot book in
    record {
      first = numbers.first ∙ h.first;
      most_loans = numbers.most_loans ∙ h.most_loans;
      kept = numbers.kept ∙ h.kept;
      loans = remembered_loans slot book ∙ ap (λ (f : ℕ). put_at book.loans (slot - f) mark.No) h.first ∙ ap
          (λ (l : List LoanMark). put_at l (slot - was.first) mark.No) h.loans;
      history = remembered_history slot book few ∙ ap (λ (most : ℕ). newest most (book.history ++ slot ∷ [])) h.kept ∙ ap
          (λ (xs : List ℕ). newest was.kept (xs ++ slot ∷ [])) h.history;
    }

-- each step that does not end a call
pub book_on : (was book : BookState) (routes : List Route) (stored : List ℕ) (c : PublisherCall) (a : ℕ) → publisher_is_over c ≡ false
    → length book.history ≤ book.kept → BookAlone was c book
    → BookAlone was (publisher_take routes stored c a) (changed (publisher_change c a) book)
book_on was book routes stored publishing.Idle a over few h = absurd h
book_on was book routes stored (publishing.LoanReclaims place route p) a over few h =
    loaned_book was _ routes place route (pop_take p a) (refusing_pop_answer (pop_take p a))
    (same_on was book _ h (kept_by place (taken_back place (refusing_pop_answer (pop_take p a))) book
    (taken_there place (refusing_pop_answer (pop_take p a)))))
book_on was book routes stored publishing.Lending a over few h = absurd (cc over)
book_on was book routes stored (publishing.Writing slot word value) a over few h
    = write_book was book slot (successor word) (slice_get stored (successor word)) h
book_on was book routes stored (publishing.Written slot) a over few h = absurd (cc over)
book_on was book routes stored (publishing.Heading slot word value) a over few h
    = head_book was book slot (successor word) (slice_get stored (successor word)) h
book_on was book routes stored (publishing.Remembering slot) a over few h
    = sweep_book was (remembered slot book) routes slot 0 (slice_get routes 0) (sent_book was book slot few h)
book_on was book routes stored (publishing.SendReclaims slot place route p) a over few h =
    swept_book was _ routes slot place route (pop_take p a) (refusing_pop_answer (pop_take p a))
    (sent_on was book _ slot h (kept_by place (taken_back place (refusing_pop_answer (pop_take p a))) book
    (taken_there place (refusing_pop_answer (pop_take p a)))))
book_on was book routes stored (publishing.Pushing slot place route p delivery) a over few h =
    pushed_book was _ routes slot place route (push_take p a) delivery (push_answer (push_take p a))
    (sent_on was book _ slot h (kept_by place (push_change place p a) book (pushed_there place p a)))
book_on was book routes stored (publishing.Sent slot delivery) a over few h = absurd (cc over)
book_on was book routes stored (publishing.Dropping slot) a over few h = absurd (cc over)

-- a call begins
pub book_begun : (moment : ℕ) (c : Call) (lane : PublisherLaneState) → publisher_fits lane (Begin c) ≡ true
    → BookAlone lane.port.book (publisher_begun moment c lane).port.call (publisher_begun moment c lane).port.book
book_begun moment call.LoanUninit lane fit
    = loan_book lane.port.book lane.port.book 0 (slice_get lane.port.routes 0) (same_book lane.port.book)
book_begun moment (call.Write loan payload user_header) lane fit
    = write_book lane.port.book lane.port.book loan 0 (slice_get payload.items 0) (same_book lane.port.book)
book_begun moment (call.Send loan) lane fit
    = head_book lane.port.book lane.port.book loan 0 (slice_get (head_of loan lane) 0) (same_book lane.port.book)
book_begun moment (call.DropLoan loan) lane fit = same_book lane.port.book
book_begun moment call.Receive lane fit = absurd (cc (and_right (publisher_is_idle lane.port.call) (publisher_may lane call.Receive) fit))
book_begun moment (call.Read sample) lane fit
    = absurd (cc (and_right (publisher_is_idle lane.port.call) (publisher_may lane (call.Read sample)) fit))
book_begun moment (call.Release sample) lane fit
    = absurd (cc (and_right (publisher_is_idle lane.port.call) (publisher_may lane (call.Release sample)) fit))

-- another value at a place of a list of marks
put_same : (marks : List LoanMark) (at : ℕ) → get_or (put_at marks at mark.No) at mark.No ≡ mark.No
put_same marks at = by_test (nat_lt at (length marks)) refl
  where
    beyond : (xs : List LoanMark) (i : ℕ) → length xs ≤ i → get_or xs i mark.No ≡ mark.No
    beyond [] i h = refl
    beyond (x ∷ xs) zero h = absurd (omega (arith, h))
    beyond (x ∷ xs) (suc i) h = beyond xs i (omega (arith, h))

    by_test : (b : Bool) → nat_lt at (length marks) ≡ b → get_or (if b then set marks at mark.No else marks) at mark.No ≡ mark.No
    by_test true e = get_or-set_same marks at mark.No mark.No (ltb-true at (length marks) e)
    by_test false e = beyond marks at (ltb-false at (length marks) e)

pub put_other : (marks : List LoanMark) (at other : ℕ) (value : LoanMark) → (other ≡ at → ⊥)
    → get_or (put_at marks at value) other mark.No ≡ get_or marks other mark.No
put_other marks at other value apart = by_test (nat_lt at (length marks))
  where
    by_test : (b : Bool) → get_or (if b then set marks at value else marks) other mark.No ≡ get_or marks other mark.No
    by_test true = get_or-set_other marks at other value mark.No apart
    by_test false = refl

-- a slot that is a loan is not below the first
pub loan_above : (slot : ℕ) (book : BookState) → is_out (loan_of slot book) ≡ true → book.first ≤ slot
loan_above slot book out = by_test (nat_lt slot book.first) refl out
  where
    by_test : (b : Bool) → nat_lt slot book.first ≡ b
        → is_out (if b then mark.No else get_or book.loans (slot - book.first) mark.No) ≡ true → book.first ≤ slot
    by_test true e h = absurd (cc h)
    by_test false e h = ltb-false slot book.first e

loan_by : (slot : ℕ) (was now : BookState) (m : LoanMark) → now.first ≡ was.first → was.first ≤ slot
    → get_or now.loans (slot - was.first) mark.No ≡ m → loan_of slot now ≡ m
loan_by slot was now m first above e = by_test (nat_lt slot now.first) refl
  where
    by_test : (b : Bool) → nat_lt slot now.first ≡ b → (if b then mark.No else get_or now.loans (slot - now.first) mark.No) ≡ m
    by_test true t = absurd (omega (arith, ltb-true slot now.first t, first, above))
    by_test false t = ap (λ (f : ℕ). get_or now.loans (slot - f) mark.No) first ∙ e

-- of two records with the same first slot and the same mark of a slot
loan_same : (slot : ℕ) (was now : BookState) → now.first ≡ was.first
    → (was.first ≤ slot → get_or now.loans (slot - was.first) mark.No ≡ get_or was.loans (slot - was.first) mark.No)
    → loan_of slot now ≡ loan_of slot was
loan_same slot was now first e = ap (λ (f : ℕ). if nat_lt slot f then mark.No else get_or now.loans (slot - f) mark.No) first ∙ by_test
    (nat_lt slot was.first) refl
  where
    by_test : (b : Bool) → nat_lt slot was.first ≡ b
        → (if b then mark.No else get_or now.loans (slot - was.first) mark.No)
        ≡ (if b then mark.No else get_or was.loans (slot - was.first) mark.No)
    by_test true t = refl
    by_test false t = e (ltb-false slot was.first t)

pub loans_same : (was now : BookState) → now.first ≡ was.first → now.loans ≡ was.loans → (slot : ℕ) → loan_of slot now ≡ loan_of slot was
loans_same was now first loans slot
    = loan_same slot was now first (λ above. ap (λ (l : List LoanMark). get_or l (slot - was.first) mark.No) loans)

-- a loan that ended, and each other slot
pub loan_ended : (slot : ℕ) (was now : BookState) → is_out (loan_of slot was) ≡ true → now.first ≡ was.first
    → now.loans ≡ put_at was.loans (slot - was.first) mark.No → is_out (loan_of slot now) ≡ false
loan_ended slot was now out first loans =
    ap is_out (loan_by slot was now mark.No first (loan_above slot was out)
    (ap (λ (l : List LoanMark). get_or l (slot - was.first) mark.No) loans ∙ put_same was.loans (slot - was.first)))

pub others_same : (slot other : ℕ) (was now : BookState) (value : LoanMark) → is_out (loan_of slot was) ≡ true → now.first ≡ was.first
    → now.loans ≡ put_at was.loans (slot - was.first) value → (other ≡ slot → ⊥) → loan_of other now ≡ loan_of other was
others_same slot other was now value out first loans apart =
    loan_same other was now first (λ above. ap (λ (l : List LoanMark). get_or l (other - was.first) mark.No) loans
    ∙ put_other was.loans (slot - was.first) (other - was.first) value (λ e. apart (omega (arith, e, above, loan_above slot was out))))

-- a loan that is written is one still
pub loan_marked : (slot : ℕ) (was now : BookState) → is_out (loan_of slot was) ≡ true → now.first ≡ was.first
    → now.loans ≡ put_at was.loans (slot - was.first) mark.Written → loan_of slot now ≡ mark.Written
loan_marked slot was now out first loans =
    let above = loan_above slot was out in
    loan_by slot was now mark.Written first above (ap (λ (l : List LoanMark). get_or l (slot - was.first) mark.No) loans ∙ put_there above)
  where
    there : (marks : List LoanMark) (i : ℕ) → is_out (get_or marks i mark.No) ≡ true → i < length marks
    there [] i h = absurd (cc h)
    there (x ∷ marks) zero h = omega arith
    there (x ∷ marks) (suc i) h = omega (arith, there marks i h)

    loan_at : (s : ℕ) (book : BookState) → book.first ≤ s → loan_of s book ≡ get_or book.loans (s - book.first) mark.No
    loan_at s book above = by_test (nat_lt s book.first) refl
      where
        by_test : (b : Bool) → nat_lt s book.first ≡ b
            → (if b then mark.No else get_or book.loans (s - book.first) mark.No) ≡ get_or book.loans (s - book.first) mark.No
        by_test true e = absurd (omega (arith, ltb-true s book.first e, above))
        by_test false e = refl

    put_there : was.first ≤ slot → get_or (put_at was.loans (slot - was.first) mark.Written) (slot - was.first) mark.No ≡ mark.Written
    put_there above = by_test (nat_lt (slot - was.first) (length was.loans)) refl
      where
        by_test : (b : Bool) → nat_lt (slot - was.first) (length was.loans) ≡ b
            → get_or (if b then set was.loans (slot - was.first) mark.Written else was.loans) (slot - was.first) mark.No ≡ mark.Written
        by_test true e = get_or-set_same was.loans (slot - was.first) mark.Written mark.No
            (ltb-true (slot - was.first) (length was.loans) e)
        by_test false e = absurd
            (omega (
              arith,
              ltb-false (slot - was.first) (length was.loans) e,
              there was.loans (slot - was.first)
                  (sym (ap is_out (loan_at slot was above)) ∙ out),
            ))

-- What a loan is answered.
use Rattle.std.proofs.Common.{ℕ, ◌≡◌, ◌+◌, ◌-◌, ◌<◌, ◌≤◌, ◌^◌, ◌⊎◌, Bool, true, false, nat_lt, if◌then◌else◌, List, [], ◌∷◌, ◌++◌, length}
use Rattle.std.proofs.Common.{get_or, slice_get, Option, Some, None, refl, sym, ◌∙◌, ap, subst, inl, inr, arith}
use Rattle.std.proofs.lemmas.Bool.{cases_lt, ltb-true, ltb-false}
use Rattle.std.proofs.lemmas.Option.{slice_get-get_or}
use Rattle.iox_lanes_machine.specs.QueuesSteps.declared.schedule.Stepped.{Stepped}
use Rattle.iox_lanes_machine.specs.QueuesSteps.declared.schedule.Stepped.TheVariants as stepped
use Rattle.iox_lanes_machine.specs.LanesBase.Publishing.{publisher_change}
use Rattle.iox_lanes_machine.specs.LanesBase.declared.calls.publisher.PublisherCall.{PublisherCall}
use Rattle.iox_lanes_machine.specs.LanesBase.declared.calls.publisher.PublisherCall.TheVariants as publishing
use Rattle.iox_lanes_machine.specs.LanesBase.declared.calls.route.Route.{Route}
use Rattle.iox_lanes_machine.specs.LanesParties.PublisherKeeping.{BookState, put_at, changed, lent, lent_from, first_free, number_in}
use Rattle.iox_lanes_machine.specs.LanesParties.PublisherKeeping.{loan_of}
use Rattle.iox_lanes_machine.specs.LanesParties.declared.publisher.slot_book.LoanAnswer.{LoanAnswer}
use Rattle.iox_lanes_machine.specs.LanesParties.declared.publisher.slot_book.LoanAnswer.TheVariants as loan
use Rattle.iox_lanes_machine.specs.LanesParties.declared.publisher.slot_book.LoanMark.TheVariants as mark
use Rattle.iox_lanes_machine.specs.LanesParties.Parties as parties
use Rattle.iox_lanes_machine.specs.LanesParties.Parties.{PublisherLaneState, is_out, publisher_after, publisher_answer}
use Rattle.iox_lanes_machine.specs.LanesParties.declared.call.Answer.{Answer}
use Rattle.iox_lanes_machine.specs.LanesParties.declared.call.Answer.TheVariants as answer
use Rattle.iox_lanes_machine.specs.LanesParties.declared.call.FinishedCall.{FinishedCall}
use Rattle.iox_lanes_machine.specs.LanesParties.declared.call.Move.{Move}
use Rattle.iox_lanes_machine.specs.LanesParties.declared.call.Move.TheVariants.{Begin, GoOn}
use Rattle.iox_lanes_machine.specs.LanesParties.declared.call.Party.{Party}
use Rattle.iox_lanes_machine.specs.LanesParties.declared.call.Party.TheVariants.{Publisher, Subscriber}
use Rattle.iox_lanes_machine.proofs.LanesParties.Rings.{all_at}
use Rattle.iox_lanes_machine.specs.LedgerRooms.{loans_out, HasRooms}
use Rattle.iox_lanes_machine.specs.LedgerUses.{one_if, count, entry, refers_to, references, IsOwn}
use Rattle.iox_lanes_machine.proofs.Books.{first_free_is}
use Rattle.iox_lanes_machine.proofs.Entries.{entry_is, entry_same}
use Rattle.iox_lanes_machine.proofs.Permitted.{none_free, all_used, some_place}
use Rattle.iox_lanes_machine.specs.Alone.{IsAtConnection}
use Rattle.iox_lanes_machine.specs.Kept.{IsLinkOf, sender, IsWithin}
use Rattle.iox_lanes_machine.specs.Loans.{IsUsed, IsLent, LoansLent}
use Rattle.iox_lanes_machine.specs.Rooms.{RoomsKept}
use Rattle.iox_lanes_machine.specs.Slots.{IsLoanAt}
use Rattle.iox_lanes_machine.specs.Told.{Told}
use Rattle.iox_lanes_machine.specs.Uses.{stands_at, PublisherUses, UsesKept}
use Rattle.iox_lanes_machine.specs.World.{World, happens, ends, ended, placed, publisher_stage, publisher_given, publisher_goes_on}
use Rattle.iox_lanes_machine.specs.World.{publisher_ending, StepsTo}
use Rattle.iox_lanes_machine.proofs.Ends.{some_is}
use Rattle.iox_lanes_machine.proofs.Held.{none_more, same_last}
use Rattle.iox_lanes_machine.proofs.PublisherUses.{order_there}
use Rattle.iox_lanes_machine.proofs.Within.{set_same}

-- a slot with a use is a loan, stands in the history, or at a connection
used : (m : World) (place : ℕ) (lane : PublisherLaneState) (slot : ℕ) → slice_get m.publishers place ≡ Some lane → IsWithin m
    → PublisherUses m lane → 0 < entry lane.port.book.first lane.port.book.uses slot 0 → IsUsed m lane slot
used m place lane slot found w u some = by_loan (is_out (entry lane.port.book.first lane.port.book.loans slot mark.No)) refl
  where
    here : (b : Bool) (at : ℕ) (route : Route) → at < length lane.port.routes → slice_get lane.port.routes at ≡ Some route
        → refers_to lane.port.book at slot ≡ true → IsAtConnection m slot
    here b at route below is has =
        let mine : IsLinkOf m.links sender place route
        = all_at (IsLinkOf m.links sender place) lane.port.routes at route is (w.senders place lane found) in
        let got = order_there m route.connection mine.link mine.found w in
        let sends : publisher_stage (slice_get m.publishers mine.link.publisher) ≡ lane.port.call
        = ap publisher_stage (ap (slice_get m.publishers) mine.own ∙ found) in
        record {
          connection = route.connection;
          link = mine.link;
          order = get_or m.orders route.connection [];
          found = mine.found;
          got = got;
          has = subst (λ (c : PublisherCall). 0 < stands_at m.table route.connection mine.link (get_or m.orders route.connection []) c
              (slice_get m.subscribers mine.link.subscriber) slot) (sym sends)
              (omega (arith, u.balanced at route mine.link (get_or m.orders route.connection []) is mine.found got slot, ap one_if has));
        }

    at_connection : 0 < references lane.port.book.first (length lane.port.book.uses) lane.port.book.referred (length lane.port.routes)
        slot → IsAtConnection m slot
    at_connection more =
        let at = some_place (λ p. refers_to lane.port.book p slot) (length lane.port.routes) more in
        let route : Route = get_or lane.port.routes at.0 (first_of lane.port.routes at.0 at.1) in
        here true at.0 route at.1 (slice_get-get_or lane.port.routes at.0 (first_of lane.port.routes at.0 at.1) at.1) at.2
      where
        first_of : (xs : List Route) (i : ℕ) → i < length xs → Route
        first_of [] i lt = absurd (omega (arith, lt))
        first_of (x ∷ xs) i lt = x

    by_loan : (b : Bool) → is_out (entry lane.port.book.first lane.port.book.loans slot mark.No) ≡ b → IsUsed m lane slot
    by_loan true e = inl e
    by_loan false e = elim (cases_lt 0 (count slot lane.port.book.history)) [
      | inl lt ↦ inr (inl lt)
      | inr none ↦ inr (inr (at_connection (omega (arith, some, none, (u.counted.each slot).counted, ap one_if e))))
    ]

-- what a loan finds in the record
abbrev pub Found : BookState → LoanAnswer → Type 0
Found book given =
    ((book.out < book.most_loans) × (first_free book.uses 0 ≡ None) × (given ≡ loan.OutOfMemory))
    ⊎ (((book.out < book.most_loans) × ((index : ℕ) × (first_free book.uses 0 ≡ Some index)
    × (given ≡ loan.Slot (number_in book.first index))))
    ⊎ ((book.most_loans ≤ book.out) × (given ≡ loan.ExceedsMaxLoans)))

given_is : (x y : LoanAnswer) → answer.Lent x ≡ answer.Lent y → y ≡ x
given_is x y e = cc e

pub finds : (book : BookState) (given : LoanAnswer) → parties.lent (lent book).answer ≡ answer.Lent given → Found book given
finds book given = by_test (nat_lt book.out book.most_loans) refl
  where
    by_free : (at : Option ℕ) → first_free book.uses 0 ≡ at → book.out < book.most_loans
        → parties.lent (lent_from book at).answer ≡ answer.Lent given → Found book given
    by_free None e room h = inl (room, e, given_is loan.OutOfMemory given h)
    by_free (Some index) e room h = inr (inl (room, (index, e, given_is (loan.Slot (number_in book.first index)) given h)))

    by_test : (b : Bool) → nat_lt book.out book.most_loans ≡ b
        → parties.lent (if b then lent_from book (first_free book.uses 0) else record book
        { answer = Some loan.ExceedsMaxLoans }).answer ≡ answer.Lent given → Found book given
    by_test true e h = by_free (first_free book.uses 0) refl (ltb-true book.out book.most_loans e) h
    by_test false e h = inr (inr (ltb-false book.out book.most_loans e, given_is loan.ExceedsMaxLoans given h))

-- only a loan that looks for a slot is answered so
pub lends_at : (fails : Bool) (c : PublisherCall) (said : Option LoanAnswer) (given : LoanAnswer)
    → publisher_answer fails c said ≡ Some (answer.Lent given) → (c ≡ publishing.Lending) × (parties.lent said ≡ answer.Lent given)
lends_at fails publishing.Idle said given e = absurd (cc e)
lends_at fails (publishing.LoanReclaims at route p) said given e = absurd (cc e)
lends_at fails publishing.Lending said given e = (refl, some_is (parties.lent said) (answer.Lent given) e)
lends_at fails (publishing.Writing slot word value) said given e = absurd (cc e)
lends_at fails (publishing.Written slot) said given e = absurd (cc e)
lends_at fails (publishing.Heading slot word value) said given e = absurd (cc e)
lends_at fails (publishing.Remembering slot) said given e = absurd (cc e)
lends_at fails (publishing.SendReclaims slot at route p) said given e = absurd (cc e)
lends_at fails (publishing.Pushing slot at route push delivery) said given e = absurd (cc e)
lends_at fails (publishing.Sent slot delivery) said given e = absurd (cc e)
lends_at fails (publishing.Dropping slot) said given e = absurd (cc e)

-- the publisher of a call that a step ended
pub record EndsNow (m n : World) (call : FinishedCall) (place : ℕ) (lane : PublisherLaneState) : Type 0 where
  pub answered : publisher_ending m.table lane ≡ Some call.answer
  pub after : slice_get n.publishers place ≡ Some (publisher_after (publisher_given m.table lane) lane)

last_is : (finished : List FinishedCall) (party : Party) (name : _) (first last : ℕ) (a : Option Answer) (call : FinishedCall)
    → finished ++ ended party name first last a ≡ finished ++ call ∷ [] → a ≡ Some call.answer
last_is finished party name first last None call e = absurd (none_more finished call (nothing finished ∙ e))
  where
    nothing : (xs : List FinishedCall) → xs ≡ xs ++ []
    nothing [] = refl
    nothing (x ∷ xs) = ap (λ (ys : List FinishedCall). x ∷ ys) (nothing xs)
last_is finished party name first last (Some a) call e = ap (λ (c : FinishedCall). Some c.answer) (same_last finished _ call e)

pub goes : (m : World) (place : ℕ) (at : Option PublisherLaneState) (lane : PublisherLaneState) (call : FinishedCall)
    → slice_get m.publishers place ≡ at → at ≡ Some lane
    → (publisher_goes_on (placed m (Publisher place)) place at).finished ≡ m.finished ++ call ∷ []
    → EndsNow m (publisher_goes_on (placed m (Publisher place)) place at) call place lane
goes m place None lane call found is more = absurd (cc is)
goes m place (Some x) lane call found is more =
    subst (λ (z : PublisherLaneState). EndsNow m (publisher_goes_on (placed m (Publisher place)) place (Some x)) call place z)
    (some_is x lane is)
    (record {
      answered = last_is m.finished (Publisher place) x.call x.first m.moments (publisher_ending m.table x) call more;
      after = set_same m.publishers place (publisher_after (publisher_given m.table x) x) x found;
    })

pub ends_now : (m : World) (party : Party) (step : Move) (n : World) (call : FinishedCall) (place : ℕ) (lane : PublisherLaneState)
    → party ≡ Publisher place → slice_get m.publishers place ≡ Some lane → n ≡ happens m party step
    → n.finished ≡ m.finished ++ call ∷ [] → ends m party step ≡ true → EndsNow m n call place lane
ends_now m (Subscriber other) step n call place lane is found now more over = absurd (cc is)
ends_now m (Publisher own) (Begin c) n call place lane is found now more over = absurd (cc over)
ends_now m (Publisher own) GoOn n call place lane is found now more over =
    let same : own ≡ place = cc is in
    subst (λ (w : World). EndsNow m w call place lane) (sym now)
    (subst (λ (i : ℕ). EndsNow m (happens m (Publisher own) GoOn) call i lane) same
    (goes m own (slice_get m.publishers own) lane call refl (ap (slice_get m.publishers) same ∙ found)
    (ap (λ (w : World). w.finished) (sym now) ∙ more)))

pub step_ends_now : (m : World) (party : Party) (step : Move) (r : Stepped) (n : World) → StepsTo m party step r n
    → Told m party step r n → (call : FinishedCall) (place : ℕ) (lane : PublisherLaneState) → n.finished ≡ m.finished ++ call ∷ []
    → call.party ≡ Publisher place → slice_get m.publishers place ≡ Some lane
    → EndsNow m n call place lane
step_ends_now m party step stepped.Went n h told call place lane more is found = absurd (none_more m.finished call (sym told.2 ∙ more))
step_ends_now m party step stepped.Finished n h told call place lane more is found =
    let same = same_last m.finished (told.2).call call (sym (told.2).more ∙ more) in
    ends_now m party step n call place lane (sym (told.2).own ∙ ap (λ (x : FinishedCall). x.party) same ∙ is) found h.2 more h.1
step_ends_now m party step stepped.Skipped n h told call place lane more is found
    = absurd (none_more m.finished call (sym (ap (λ (x : World). x.finished) h.1) ∙ more))
step_ends_now m party step stepped.NoMemory n h told call place lane more is found
    = absurd (none_more m.finished call (sym (ap (λ (x : World). x.finished) h.2) ∙ more))

not_lent : (given x y : LoanAnswer) → given ≡ x → given ≡ y → x ≡ y
not_lent given x y e h = sym e ∙ h

-- the publisher's record says it all
pub lent_as_found : (m n : World) (place : ℕ) (lane : PublisherLaneState) (given : LoanAnswer)
    → slice_get m.publishers place ≡ Some lane → IsWithin m → PublisherUses m lane
    → HasRooms m.table.sizes.completion_cells (length lane.port.routes) lane.port.book publishing.Lending
    → lane.port.book.first + length lane.port.book.loans < 2 ^ 64 → (after : PublisherLaneState)
    → slice_get n.publishers place ≡ Some after → after.port.book ≡ lent lane.port.book → Found lane.port.book given
    → IsLent m n place lane given
lent_as_found m n place lane given found w u r small after now book_is (inl none) = record {
  refused = λ e. absurd (cc (not_lent given loan.ExceedsMaxLoans loan.OutOfMemory e none.2));
  refuses = λ e. absurd (omega (arith, e, out_is, none.0));
  full = λ e slot own. used m place lane slot found w u (some slot own);
  gives = λ slot e. absurd (cc (not_lent given (loan.Slot slot) loan.OutOfMemory e none.2));
  permitted = λ room worst. absurd (omega
      (arith, room, worst, all_used m.table.sizes.completion_cells (length lane.port.routes) lane.port.book none.1 u.counted r));
}
  where
    out_is : lane.port.book.out ≡ loans_out lane.port.book
    out_is = (r.counts).out (omega (arith, small))

    some : (slot : ℕ) → IsOwn lane.port.book slot → 0 < entry lane.port.book.first lane.port.book.uses slot 0
    some slot own =
        let is = entry_is lane.port.book.first slot lane.port.book.uses 0 own.above in
        omega (arith, is, none_free lane.port.book.uses 0 (slot - lane.port.book.first) none.1 (omega (arith, own.above, own.below)))
lent_as_found m n place lane given found w u r small after now book_is (inr (inl lends)) = record {
  refused = λ e. absurd (cc (not_lent given loan.ExceedsMaxLoans _ e lends.1.2));
  refuses = λ e. absurd (omega (arith, e, out_is, lends.0));
  full = λ e slot own. absurd (cc (not_lent given loan.OutOfMemory _ e lends.1.2));
  gives = λ slot e. gives_slot slot (slot_is slot _ (not_lent given (loan.Slot slot) _ e lends.1.2));
  permitted = λ room worst. (number_in lane.port.book.first lends.1.0, lends.1.2);
}
  where
    book : BookState
    book = lane.port.book

    index : ℕ
    index = lends.1.0

    out_is : book.out ≡ loans_out book
    out_is = (r.counts).out (omega (arith, small))

    slot_is : (x y : ℕ) → loan.Slot x ≡ loan.Slot y → x ≡ y
    slot_is x y e = cc e

    place_is : (k : ℕ) × (index ≡ 0 + k) × (k < length book.uses) × (get_or book.uses k 0 ≡ 0)
    place_is = first_free_is book.uses 0 index lends.1.1

    below : index < length book.loans
    below = omega (arith, place_is.1, place_is.2, u.counted.loans_each)

    no_use : get_or book.uses index 0 ≡ 0
    no_use = let e : place_is.0 ≡ index = omega (arith, place_is.1) in ap (λ (i : ℕ). get_or book.uses i 0) (sym e) ∙ place_is.3

    none : (b : Bool) → one_if b ≡ 0 → b ≡ false
    none true h = absurd (omega (arith, h))
    none false h = refl

    lent_is : (lent book).loans ≡ put_at book.loans index mark.Lent
    lent_is = by_test (nat_lt book.out book.most_loans) refl
      where
        by_free : (at : Option ℕ) → at ≡ Some index → (lent_from book at).loans ≡ put_at book.loans index mark.Lent
        by_free None e = absurd (cc e)
        by_free (Some i) e = ap (λ (j : ℕ). put_at book.loans j mark.Lent) (some_is i index e)

        by_test : (b : Bool) → nat_lt book.out book.most_loans ≡ b
            → (if b then lent_from book (first_free book.uses 0) else record book { answer = Some loan.ExceedsMaxLoans }).loans
            ≡ put_at book.loans index mark.Lent
        by_test true e = by_free (first_free book.uses 0) lends.1.1
        by_test false e = absurd (omega (arith, lends.0, ltb-false book.out book.most_loans e))

    first_is : (lent book).first ≡ book.first
    first_is = by_test (nat_lt book.out book.most_loans)
      where
        by_free : (at : Option ℕ) → (lent_from book at).first ≡ book.first
        by_free None = refl
        by_free (Some i) = refl

        by_test : (b : Bool) → (if b then lent_from book (first_free book.uses 0) else record book
            { answer = Some loan.ExceedsMaxLoans }).first ≡ book.first
        by_test true = by_free (first_free book.uses 0)
        by_test false = refl

    gives_slot : (slot : ℕ) → slot ≡ number_in book.first index → IsOwn book slot × (is_out (loan_of slot book) ≡ false)
        × IsLoanAt n place slot
    gives_slot slot e =
        let is : slot ≡ book.first + index = omega (arith, e, below, small) in
        let above : book.first ≤ slot = omega (arith, is) in
        let at : slot - book.first ≡ index = omega (arith, is) in
        let free : entry book.first book.uses slot 0 ≡ 0
        = entry_is book.first slot book.uses 0 above ∙ ap (λ (i : ℕ). get_or book.uses i 0) at ∙ no_use in
        let out : is_out (entry book.first (put_at book.loans (slot - book.first) mark.Lent) slot mark.No) ≡ true
        = ap is_out (entry_same book.first slot book.loans mark.Lent mark.No above (omega (arith, is, below))) in
        let loans : after.port.book.loans ≡ put_at book.loans (slot - book.first) mark.Lent
        = ap (λ (b : BookState). b.loans) book_is ∙ lent_is ∙ ap (λ (i : ℕ). put_at book.loans i mark.Lent) (sym at) in
        let first : after.port.book.first ≡ book.first = ap (λ (b : BookState). b.first) book_is ∙ first_is in (
          record { above = above; below = omega (arith, is, below, u.counted.loans_each) },
          none (is_out (loan_of slot book)) (omega (arith, free, (u.counted.each slot).counted)),
          record {
            lane = after;
            found = now;
            out = ap (λ (f : ℕ). is_out (entry f after.port.book.loans slot mark.No)) first ∙ ap
                (λ (l : List _). is_out (entry book.first l slot mark.No)) loans ∙ out;
          },
        )
lent_as_found m n place lane given found w u r small after now book_is (inr (inr full)) = record {
  refused = λ e. omega (arith, (r.counts).out (omega (arith, small)), full.0, (r.counts).few);
  refuses = λ e. full.1;
  full = λ e slot own. absurd (cc (not_lent given loan.OutOfMemory loan.ExceedsMaxLoans e full.1));
  gives = λ slot e. absurd (cc (not_lent given (loan.Slot slot) loan.ExceedsMaxLoans e full.1));
  permitted = λ room worst. absurd (omega (arith, room, (r.counts).out (omega (arith, small)), full.0));
}

pub loans_lent : (m : World) (party : Party) (step : Move) (r : Stepped) (n : World) → StepsTo m party step r n → Told m party step r n
    → IsWithin m → (m.moments ≤ 2 ^ 63 → UsesKept m) → (m.moments ≤ 2 ^ 63 → RoomsKept m) → LoansLent m n
loans_lent m party step r n h told w u rooms = λ few call place lane given more is found answered small.
    let end = step_ends_now m party step r n h told call place lane more is found in
    let says = lends_at lane.fails lane.port.call (publisher_after (publisher_given m.table lane) lane).port.book.answer given
    (end.answered ∙ ap (λ (a : Answer). Some a) answered) in
    let book_is : (publisher_after (publisher_given m.table lane) lane).port.book ≡ lent lane.port.book
    = ap (λ (c : PublisherCall). changed (publisher_change c (publisher_given m.table lane)) lane.port.book) says.0 in
    lent_as_found m n place lane given found w ((u few).publishers place lane found)
    (subst (HasRooms m.table.sizes.completion_cells (length lane.port.routes) lane.port.book) says.0
    ((rooms few).publishers place lane found)) small
    (publisher_after (publisher_given m.table lane) lane) end.after book_is
    (finds lane.port.book given (ap (λ (b : BookState). parties.lent b.answer) (sym book_is) ∙ says.1))

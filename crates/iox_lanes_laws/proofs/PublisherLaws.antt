-- The laws on calls of a publisher that no other call overlaps.
use Rattle.std.proofs.Common.{ℕ, ◌≡◌, ◌+◌, ◌-◌, ◌<◌, ◌≤◌, ◌^◌, ◌==◌, ◌⊎◌, ◌&&◌, min, Bool, true, false, nat_lt, if◌then◌else◌, List, []}
use Rattle.std.proofs.Common.{◌∷◌, ◌++◌, length, get_or, set, slice_get, Option, Some, None, refl, sym, ◌∙◌, ap, subst, inl, inr, arith}
use Rattle.std.proofs.lemmas.Bool.{cases_lt, ltb-false, ltb-true}
use Rattle.std.proofs.lemmas.List.{get_or-set_same}
use Rattle.iox_lanes_machine.specs.QueuesSteps.declared.schedule.Stepped.TheVariants as stepped
use Rattle.iox_lanes_machine.specs.QueuesSteps.Ends.{push_idle}
use Rattle.iox_lanes_machine.specs.QueuesSteps.declared.rings.ends.RingKind.{RingKind}
use Rattle.iox_lanes_machine.specs.LanesBase.Table.{held_by}
use Rattle.iox_lanes_machine.specs.QueuesSteps.declared.access.Word.TheVariants.{Read}
use Rattle.iox_lanes_machine.specs.LanesBase.Publishing.{publisher_is_idle, publisher_is_over, publisher_change}
use Rattle.iox_lanes_machine.specs.LanesBase.declared.calls.publisher.Delivery.{Delivery}
use Rattle.iox_lanes_machine.specs.LanesBase.declared.calls.publisher.PublisherCall.{PublisherCall}
use Rattle.iox_lanes_machine.specs.LanesBase.declared.calls.publisher.PublisherCall.TheVariants as publishing
use Rattle.iox_lanes_machine.specs.LanesParties.PublisherKeeping.{BookState, changed, loan_of, lent, lent_from, first_free, put_at}
use Rattle.iox_lanes_machine.specs.LanesParties.PublisherKeeping.{number_in}
use Rattle.iox_lanes_machine.specs.LanesParties.declared.publisher.slot_book.LoanAnswer.{LoanAnswer}
use Rattle.iox_lanes_machine.specs.LanesParties.declared.publisher.slot_book.LoanAnswer.TheVariants as loan
use Rattle.iox_lanes_machine.specs.LanesParties.declared.publisher.slot_book.LoanMark.{LoanMark}
use Rattle.iox_lanes_machine.specs.LanesParties.declared.publisher.slot_book.LoanMark.TheVariants as mark
use Rattle.iox_lanes_machine.specs.LanesParties.Parties as parties
use Rattle.iox_lanes_machine.specs.LanesParties.Parties.{PublisherLaneState, is_out, is_written, name_of, publisher_may, publisher_fits}
use Rattle.iox_lanes_machine.specs.LanesParties.Parties.{publisher_answer}
use Rattle.iox_lanes_machine.specs.LanesParties.SendAnswers.{send_answer}
use Rattle.iox_lanes_machine.specs.LanesParties.declared.call.Answer.{Answer}
use Rattle.iox_lanes_machine.specs.LanesParties.declared.call.Answer.TheVariants as answer
use Rattle.iox_lanes_machine.specs.LanesParties.declared.call.Call.{Call}
use Rattle.iox_lanes_machine.specs.LanesParties.declared.call.Call.TheVariants as call
use Rattle.iox_lanes_machine.specs.LanesParties.declared.call.CallName.{CallName}
use Rattle.iox_lanes_machine.specs.LanesParties.declared.call.CallName.TheVariants as name
use Rattle.iox_lanes_machine.specs.LanesParties.declared.call.FinishedCall.{FinishedCall}
use Rattle.iox_lanes_machine.specs.LanesParties.declared.call.Move.TheVariants.{Begin, GoOn}
use Rattle.iox_lanes_machine.specs.LanesParties.declared.call.Party.TheVariants.{Publisher}
use Rattle.iox_lanes_machine.proofs.LanesParties.Rings.{all_at, and_left, and_right}
use Rattle.iox_lanes_machine.specs.Borrowing.{borrows}
use Rattle.iox_lanes_machine.specs.LedgerRooms.{loans_out}
use Rattle.iox_lanes_machine.specs.Stored.{aside}
use Rattle.iox_lanes_machine.specs.LedgerUses.{one_if, count, total, IsOwn}
use Rattle.iox_lanes_machine.proofs.Books.{first_free_is}
use Rattle.iox_lanes_machine.proofs.Rings.{idle_aside}
use Rattle.iox_lanes_machine.specs.Calls.{IsStageOf}
use Rattle.iox_lanes_machine.specs.FullLoans.{IsInUse}
use Rattle.iox_lanes_machine.specs.Links.{LinkState}
use Rattle.iox_lanes_machine.specs.Loans.{IsLent}
use Rattle.iox_lanes_machine.specs.Paces.{IsInCall}
use Rattle.iox_lanes_machine.specs.Resting.{AllBetween}
use Rattle.iox_lanes_machine.specs.Rings.{sent_word, push_on, waiting}
use Rattle.iox_lanes_machine.specs.Slots.{IsLoanAt}
use Rattle.iox_lanes_machine.specs.Uses.{aside_at}
use Rattle.iox_lanes_machine.specs.World.{World, StepsTo, happens, publisher_stage, publisher_ends_at, publisher_given, publisher_ending}
use Rattle.iox_lanes_machine.proofs.Alone.{loans_alone}
use Rattle.iox_lanes_machine.proofs.Ends.{some_is}
use Rattle.iox_lanes_machine.proofs.FullLoans.{loans_find_all_used}
use Rattle.iox_lanes_machine.proofs.Loans.{loans_lent}
use Rattle.iox_lanes_machine.proofs.Mailboxes.{order_there}
use Rattle.iox_lanes_machine.proofs.Told.{steps_told}
use Rattle.iox_lanes_laws.specs.Publishing.{AllInUse, LoansInTurn, WritesInTurn, SendsInTurn, DropsInTurn}
use Rattle.iox_lanes_laws.proofs.Books.{SameBook, SentBook, BookAlone, loans_same, loan_ended, others_same, loan_marked, put_other}
use Rattle.iox_lanes_laws.proofs.Mail.{answered_by, mail_elsewhere, waits_on, mail_stays, sent_now, mail_put, counted}
use Rattle.iox_lanes_laws.proofs.Publishers.{WholeCall, next_lane, whole}

-- where the last step of each call stands
loan_stage : (c : PublisherCall) → publisher_is_over c ≡ true → IsStageOf name.LoanUninit c → c ≡ publishing.Lending
loan_stage publishing.Idle over h = absurd (cc over)
loan_stage (publishing.LoanReclaims place route p) over h = absurd (cc over)
loan_stage publishing.Lending over h = refl
loan_stage (publishing.Writing slot word value) over h = absurd (cc over)
loan_stage (publishing.Written slot) over h = absurd (cc h)
loan_stage (publishing.Heading slot word value) over h = absurd (cc over)
loan_stage (publishing.Remembering slot) over h = absurd (cc over)
loan_stage (publishing.SendReclaims slot place route p) over h = absurd (cc over)
loan_stage (publishing.Pushing slot place route p delivery) over h = absurd (cc over)
loan_stage (publishing.Sent slot delivery) over h = absurd (cc h)
loan_stage (publishing.Dropping slot) over h = absurd (cc h)

slot_is : (slot own : ℕ) → name.Write slot ≡ name.Write own → own ≡ slot
slot_is slot own h = cc h

pub write_stage : (slot : ℕ) (c : PublisherCall) → publisher_is_over c ≡ true → IsStageOf (name.Write slot) c → c ≡ publishing.Written slot
write_stage slot publishing.Idle over h = absurd (cc over)
write_stage slot (publishing.LoanReclaims place route p) over h = absurd (cc over)
write_stage slot publishing.Lending over h = absurd (cc h)
write_stage slot (publishing.Writing own word value) over h = absurd (cc over)
write_stage slot (publishing.Written own) over h = ap (λ (s : ℕ). publishing.Written s) (slot_is slot own h)
write_stage slot (publishing.Heading own word value) over h = absurd (cc over)
write_stage slot (publishing.Remembering own) over h = absurd (cc over)
write_stage slot (publishing.SendReclaims own place route p) over h = absurd (cc over)
write_stage slot (publishing.Pushing own place route p delivery) over h = absurd (cc over)
write_stage slot (publishing.Sent own delivery) over h = absurd (cc h)
write_stage slot (publishing.Dropping own) over h = absurd (cc h)

send_stage : (slot : ℕ) (c : PublisherCall) → publisher_is_over c ≡ true → IsStageOf (name.Send slot) c → (delivery : Delivery)
    × (c ≡ publishing.Sent slot delivery)
send_stage slot publishing.Idle over h = absurd (cc over)
send_stage slot (publishing.LoanReclaims place route p) over h = absurd (cc over)
send_stage slot publishing.Lending over h = absurd (cc h)
send_stage slot (publishing.Writing own word value) over h = absurd (cc over)
send_stage slot (publishing.Written own) over h = absurd (cc h)
send_stage slot (publishing.Heading own word value) over h = absurd (cc over)
send_stage slot (publishing.Remembering own) over h = absurd (cc over)
send_stage slot (publishing.SendReclaims own place route p) over h = absurd (cc over)
send_stage slot (publishing.Pushing own place route p delivery) over h = absurd (cc over)
send_stage slot (publishing.Sent own delivery) over h = (delivery, ap (λ (s : ℕ). publishing.Sent s delivery) (same h))
  where
    same : name.Send slot ≡ name.Send own → own ≡ slot
    same e = cc e
send_stage slot (publishing.Dropping own) over h = absurd (cc h)

drop_stage : (slot : ℕ) (c : PublisherCall) → publisher_is_over c ≡ true → IsStageOf (name.DropLoan slot) c → c ≡ publishing.Dropping slot
drop_stage slot publishing.Idle over h = absurd (cc over)
drop_stage slot (publishing.LoanReclaims place route p) over h = absurd (cc over)
drop_stage slot publishing.Lending over h = absurd (cc h)
drop_stage slot (publishing.Writing own word value) over h = absurd (cc over)
drop_stage slot (publishing.Written own) over h = absurd (cc h)
drop_stage slot (publishing.Heading own word value) over h = absurd (cc over)
drop_stage slot (publishing.Remembering own) over h = absurd (cc over)
drop_stage slot (publishing.SendReclaims own place route p) over h = absurd (cc over)
drop_stage slot (publishing.Pushing own place route p delivery) over h = absurd (cc over)
drop_stage slot (publishing.Sent own delivery) over h = absurd (cc h)
drop_stage slot (publishing.Dropping own) over h = ap (λ (s : ℕ). publishing.Dropping s) (same h)
  where
    same : name.DropLoan slot ≡ name.DropLoan own → own ≡ slot
    same e = cc e

-- the stage of the last step
stage_of : (m : World) (place : ℕ) (c : Call) (before : PublisherLaneState) (n : World) (after : PublisherLaneState)
    (w : WholeCall m place c before n after) → IsStageOf (name_of c) (w.last.lane).port.call
stage_of m place c before n after w =
    let few : (w.last.k).moments ≤ 2 ^ 63 = omega (arith, w.few_before) in
    subst (λ (called : CallName). IsStageOf called (w.last.lane).port.call) w.last.alone.asked
    ((w.last.alone.kept.calls few).publishers place w.last.lane w.last.alone.found).0

-- what the last step makes of the record
book_is : (m : World) (place : ℕ) (c : Call) (before : PublisherLaneState) (n : World) (after : PublisherLaneState)
    (w : WholeCall m place c before n after) (stage : PublisherCall) → (w.last.lane).port.call ≡ stage
    → after.port.book ≡ changed (publisher_change stage (publisher_given (w.last.k).table w.last.lane)) (w.last.lane).port.book
book_is m place c before n after w stage is =
    ap (λ (x : PublisherLaneState). x.port.book) w.after_is ∙ ap
    (λ (s : PublisherCall). changed (publisher_change s (publisher_given (w.last.k).table w.last.lane)) (w.last.lane).port.book) is

said_is : (m : World) (place : ℕ) (c : Call) (before : PublisherLaneState) (n : World) (after : PublisherLaneState)
    (w : WholeCall m place c before n after) (stage : PublisherCall) → (w.last.lane).port.call ≡ stage
    → publisher_ending (w.last.k).table w.last.lane
    ≡ publisher_answer (w.last.lane).fails stage (next_lane w.last.k w.last.lane).port.book.answer
said_is m place c before n after w stage is
    = ap (λ (s : PublisherCall). publisher_answer (w.last.lane).fails s (next_lane w.last.k w.last.lane).port.book.answer) is

book_there : (m : World) (place : ℕ) (c : Call) (before : PublisherLaneState) (n : World) (after : PublisherLaneState)
    (w : WholeCall m place c before n after) (stage : PublisherCall) → (w.last.lane).port.call ≡ stage
    → BookAlone before.port.book stage (w.last.lane).port.book
book_there m place c before n after w stage is
    = subst (λ (s : PublisherCall). BookAlone before.port.book s (w.last.lane).port.book) is w.last.alone.book

written_out : (x : LoanMark) → is_written x ≡ true → is_out x ≡ true
written_out mark.No h = absurd (cc h)
written_out mark.Lent h = absurd (cc h)
written_out mark.Written h = refl

-- a send
pub sends_in_turn : SendsInTurn
sends_in_turn = λ m n place slot before after t found now.
    let w = whole m place (call.Send slot) before n after t found now in
    let stage = send_stage slot (w.last.lane).port.call w.last.over (stage_of m place (call.Send slot) before n after w) in
    let delivery : Delivery = stage.0 in
    let said = said_is m place (call.Send slot) before n after w (publishing.Sent slot delivery) stage.1
    ∙ ap (λ (f : Bool). Some (answer.Sent (send_answer f delivery))) w.last.alone.fails in
    let book : SentBook before.port.book slot (w.last.lane).port.book
    = book_there m place (call.Send slot) before n after w (publishing.Sent slot delivery) stage.1 in
    let same = book_is m place (call.Send slot) before n after w (publishing.Sent slot delivery) stage.1 in
    let first = ap (λ (b : BookState). b.first) same ∙ book.first in
    let loans = ap (λ (b : BookState). b.loans) same ∙ book.loans in
    let out : is_out (loan_of slot before.port.book) ≡ true
    = written_out (loan_of slot before.port.book)
    (and_right (publisher_is_idle before.port.call) (publisher_may before (call.Send slot)) w.may) in
    let s = sent_now m place slot before n after w delivery now said in
    let counts = counted m place slot before n after w delivery s found now in (
      delivery,
      answered_by m place (call.Send slot) before n after w (answer.Sent (send_answer before.fails delivery)) said,
      w.others,
      record {
        put = λ connection link there own. mail_put m place slot before n after w delivery s found now connection link there own;
        elsewhere = λ connection link there other. mail_elsewhere m place (call.Send slot) before n after w connection link there other;
        taken = counts.0;
        refused = counts.1;
        loans = record {
          ended = loan_ended slot before.port.book after.port.book out first loans;
          others = λ other apart. others_same slot other before.port.book after.port.book mark.No out first loans apart;
        };
        history = ap (λ (b : BookState). b.history) same ∙ book.history;
      },
    )

-- the giving up of a loan
pub drops_in_turn : DropsInTurn
drops_in_turn = λ m n place slot before after t found now.
    let w = whole m place (call.DropLoan slot) before n after t found now in
    let stage = drop_stage slot (w.last.lane).port.call w.last.over (stage_of m place (call.DropLoan slot) before n after w) in
    let said = said_is m place (call.DropLoan slot) before n after w (publishing.Dropping slot) stage in
    let book : SameBook before.port.book (w.last.lane).port.book
    = book_there m place (call.DropLoan slot) before n after w (publishing.Dropping slot) stage in
    let same = book_is m place (call.DropLoan slot) before n after w (publishing.Dropping slot) stage in
    let first = ap (λ (b : BookState). b.first) same ∙ book.first in
    let loans : after.port.book.loans ≡ put_at before.port.book.loans (slot - before.port.book.first) mark.No =
    ap (λ (b : BookState). b.loans) same ∙ ap (λ (f : ℕ). put_at (w.last.lane).port.book.loans (slot - f) mark.No) book.first ∙ ap
    (λ (l : List LoanMark). put_at l (slot - before.port.book.first) mark.No) book.loans in
    let out : is_out (loan_of slot before.port.book) ≡ true
    = and_right (publisher_is_idle before.port.call) (publisher_may before (call.DropLoan slot)) w.may in (
      answered_by m place (call.DropLoan slot) before n after w answer.Dropped said,
      w.others,
      mail_stays m place (call.DropLoan slot) before n after w answer.Dropped found now said refl,
      ap (λ (b : BookState). b.history) same ∙ book.history,
      record {
        ended = loan_ended slot before.port.book after.port.book out first loans;
        others = λ other apart. others_same slot other before.port.book after.port.book mark.No out first loans apart;
      },
    )

-- a write
write_out : (slot : ℕ) (c : Call) (lane : PublisherLaneState) → name_of c ≡ name.Write slot → publisher_fits lane (Begin c) ≡ true
    → is_out (loan_of slot lane.port.book) ≡ true
write_out slot call.LoanUninit lane is fit = absurd (cc is)
write_out slot (call.Write own payload user_header) lane is fit =
    subst (λ (s : ℕ). is_out (loan_of s lane.port.book) ≡ true) (slot_is slot own (sym is))
    (and_left (is_out (loan_of own lane.port.book)) (length payload.items == length lane.port.payload)
    (and_left (is_out (loan_of own lane.port.book) && (length payload.items == length lane.port.payload))
    (3 + length user_header.items == length lane.port.head)
    (and_right (publisher_is_idle lane.port.call) (publisher_may lane (call.Write own payload user_header)) fit)))
write_out slot (call.Send own) lane is fit = absurd (cc is)
write_out slot (call.DropLoan own) lane is fit = absurd (cc is)
write_out slot call.Receive lane is fit = absurd (cc is)
write_out slot (call.Read sample) lane is fit = absurd (cc is)
write_out slot (call.Release sample) lane is fit = absurd (cc is)

pub writes_in_turn : WritesInTurn
writes_in_turn = λ m n place slot c before after is t found now.
    let w = whole m place c before n after t found now in
    let stage = write_stage slot (w.last.lane).port.call w.last.over
    (subst (λ (called : CallName). IsStageOf called (w.last.lane).port.call) is (stage_of m place c before n after w)) in
    let said = said_is m place c before n after w (publishing.Written slot) stage in
    let book : SameBook before.port.book (w.last.lane).port.book = book_there m place c before n after w (publishing.Written slot) stage in
    let same = book_is m place c before n after w (publishing.Written slot) stage in
    let first = ap (λ (b : BookState). b.first) same ∙ book.first in
    let loans : after.port.book.loans ≡ put_at before.port.book.loans (slot - before.port.book.first) mark.Written =
    ap (λ (b : BookState). b.loans) same ∙ ap (λ (f : ℕ). put_at (w.last.lane).port.book.loans (slot - f) mark.Written) book.first ∙ ap
    (λ (l : List LoanMark). put_at l (slot - before.port.book.first) mark.Written) book.loans in
    let out = write_out slot c before is w.may in
    let marked = loan_marked slot before.port.book after.port.book out first loans in (
      answered_by m place c before n after w answer.Written said,
      w.others,
      mail_stays m place c before n after w answer.Written found now said refl,
      ap (λ (b : BookState). b.history) same ∙ book.history,
      λ other apart. others_same slot other before.port.book after.port.book mark.Written out first loans apart,
      marked,
    )

-- what a loan says
given_of : Option LoanAnswer → LoanAnswer
given_of None = loan.OutOfMemory
given_of (Some given) = given

given_is : (said : Option LoanAnswer) → parties.lent said ≡ answer.Lent (given_of said)
unfolding given_of
given_is None = refl
given_is (Some given) = refl

lent_keeps : (book : BookState) → (lent book).first ≡ book.first × ((lent book).history ≡ book.history)
lent_keeps book = by_test (nat_lt book.out book.most_loans)
  where
    by_free : (at : Option ℕ) → ((lent_from book at).first ≡ book.first) × ((lent_from book at).history ≡ book.history)
    by_free None = (refl, refl)
    by_free (Some index) = (refl, refl)

    by_test : (b : Bool) → ((if b then lent_from book (first_free book.uses 0) else record book
        { answer = Some loan.ExceedsMaxLoans }).first ≡ book.first)
        × ((if b then lent_from book (first_free book.uses 0) else record book { answer = Some loan.ExceedsMaxLoans }).history
        ≡ book.history)
    by_test true = by_free (first_free book.uses 0)
    by_test false = (refl, refl)

below_min : (n : ℕ) → n < 2 ^ 64 → min n (2 ^ 64 - 1) ≡ n
below_min n h = omega (arith, h)

-- a loan makes no other slot a loan than the one that it gives
lent_others : (book : BookState) (given : LoanAnswer) → parties.lent (lent book).answer ≡ answer.Lent given
    → book.first + length book.loans < 2 ^ 64 → length book.uses ≡ length book.loans → (slot : ℕ) → (given ≡ loan.Slot slot → ⊥)
    → loan_of slot (lent book) ≡ loan_of slot book
lent_others book given says small sizes slot apart = by_test (nat_lt book.out book.most_loans) says
  where
    said : (x y : LoanAnswer) → answer.Lent x ≡ answer.Lent y → y ≡ x
    said x y e = cc e

    put : (index : ℕ) → (slot - book.first ≡ index → ⊥) ⊎ (slot < book.first)
        → loan_of slot (lent_from book (Some index)) ≡ loan_of slot book
    put index h = by_first (nat_lt slot book.first) refl h
      where
        by_first : (b : Bool) → nat_lt slot book.first ≡ b → (slot - book.first ≡ index → ⊥) ⊎ (slot < book.first)
            → (if b then mark.No else get_or (put_at book.loans index mark.Lent) (slot - book.first) mark.No)
            ≡ (if b then mark.No else get_or book.loans (slot - book.first) mark.No)
        by_first true t h = refl
        by_first false t (inl h) = put_other book.loans index (slot - book.first) mark.Lent h
        by_first false t (inr h) = absurd (omega (arith, ltb-false slot book.first t, h))

    by_free : (at : Option ℕ) → first_free book.uses 0 ≡ at → parties.lent (lent_from book at).answer ≡ answer.Lent given
        → loan_of slot (lent_from book at) ≡ loan_of slot book
    by_free None e h = refl
    by_free (Some index) e h =
        let there = first_free_is book.uses 0 index e in
        let fits : book.first + index < 2 ^ 64 = omega (arith, small, sizes, there.1, there.2) in
        elim (cases_lt slot book.first) [
          | inl below ↦ put index (inr below)
          | inr above ↦ put index (inl (λ same. apart (said (loan.Slot (number_in book.first index)) given h
              ∙ ap (λ (s : ℕ). loan.Slot s) (below_min (book.first + index) fits ∙ omega (arith, same, above)))))
        ]

    by_test : (b : Bool) → parties.lent
        (if b then lent_from book (first_free book.uses 0) else record book { answer = Some loan.ExceedsMaxLoans }).answer
        ≡ answer.Lent given
        → loan_of slot (if b then lent_from book (first_free book.uses 0) else record book { answer = Some loan.ExceedsMaxLoans })
        ≡ loan_of slot book
    by_test true h = by_free (first_free book.uses 0) refl h
    by_test false h = refl

-- and that slot is a loan that isn't written
lent_mark : (book : BookState) (slot : ℕ) → parties.lent (lent book).answer ≡ answer.Lent (loan.Slot slot)
    → book.first + length book.loans < 2 ^ 64 → length book.uses ≡ length book.loans → loan_of slot (lent book) ≡ mark.Lent
lent_mark book slot says small sizes = by_test (nat_lt book.out book.most_loans) says
  where
    said : (one : ℕ) → answer.Lent (loan.Slot one) ≡ answer.Lent (loan.Slot slot) → slot ≡ one
    said one e = cc e

    marked : (index : ℕ) → slot ≡ book.first + index → index < length book.loans → loan_of slot (lent_from book (Some index)) ≡ mark.Lent
    marked index same there = by_first (nat_lt slot book.first) refl
      where
        put_there : (b : Bool) → nat_lt index (length book.loans) ≡ b
            → get_or (if b then set book.loans index mark.Lent else book.loans) index mark.No ≡ mark.Lent
        put_there true e = get_or-set_same book.loans index mark.Lent mark.No there
        put_there false e = absurd (omega (arith, there, ltb-false index (length book.loans) e))

        by_first : (b : Bool) → nat_lt slot book.first ≡ b
            → (if b then mark.No else get_or (put_at book.loans index mark.Lent) (slot - book.first) mark.No) ≡ mark.Lent
        by_first true t = absurd (omega (arith, same, ltb-true slot book.first t))
        by_first false t = ap (λ (at : ℕ). get_or (put_at book.loans index mark.Lent) at mark.No) (omega (arith, same))
            ∙ put_there (nat_lt index (length book.loans)) refl

    by_free : (at : Option ℕ) → first_free book.uses 0 ≡ at → parties.lent (lent_from book at).answer ≡ answer.Lent (loan.Slot slot)
        → loan_of slot (lent_from book at) ≡ mark.Lent
    by_free None e h = absurd (cc h)
    by_free (Some index) e h =
        let there = first_free_is book.uses 0 index e in
        let fits : book.first + index < 2 ^ 64 = omega (arith, small, sizes, there.1, there.2) in
        marked index (said (number_in book.first index) h ∙ below_min (book.first + index) fits) (omega (arith, sizes, there.1, there.2))

    by_test : (b : Bool) → parties.lent
        (if b then lent_from book (first_free book.uses 0) else record book { answer = Some loan.ExceedsMaxLoans }).answer
        ≡ answer.Lent (loan.Slot slot)
        → loan_of slot (if b then lent_from book (first_free book.uses 0) else record book { answer = Some loan.ExceedsMaxLoans })
        ≡ mark.Lent
    by_test true h = by_free (first_free book.uses 0) refl h
    by_test false h = absurd (cc h)

-- who is between calls pushes nothing, so that nothing lies aside
pub stage_idle : (m : World) (place : ℕ) → AllBetween m → publisher_is_idle (publisher_stage (slice_get m.publishers place)) ≡ true
stage_idle m place between = by_lane (slice_get m.publishers place) refl
  where
    by_lane : (at : Option PublisherLaneState) → slice_get m.publishers place ≡ at → publisher_is_idle (publisher_stage at) ≡ true
    by_lane None e = refl
    by_lane (Some lane) e = all_at (λ (x : PublisherLaneState). publisher_is_idle x.port.call ≡ true) m.publishers place lane e
        between.publishers

pub idle_pushes : (c : PublisherCall) (connection : ℕ) (k : RingKind) → publisher_is_idle c ≡ true → push_on connection k c ≡ push_idle k
idle_pushes publishing.Idle connection k h = refl
idle_pushes (publishing.LoanReclaims place route p) connection k h = absurd (cc h)
idle_pushes publishing.Lending connection k h = absurd (cc h)
idle_pushes (publishing.Writing slot word value) connection k h = absurd (cc h)
idle_pushes (publishing.Written slot) connection k h = absurd (cc h)
idle_pushes (publishing.Heading slot word value) connection k h = absurd (cc h)
idle_pushes (publishing.Remembering slot) connection k h = absurd (cc h)
idle_pushes (publishing.SendReclaims slot place route p) connection k h = absurd (cc h)
idle_pushes (publishing.Pushing slot place route p delivery) connection k h = absurd (cc h)
idle_pushes (publishing.Sent slot delivery) connection k h = absurd (cc h)
idle_pushes (publishing.Dropping slot) connection k h = absurd (cc h)

pub none_aside : (m : World) (connection place : ℕ) (link : LinkState) → AllBetween m
    → aside_at m.table connection link (publisher_stage (slice_get m.publishers place)) ≡ []
none_aside m connection place link between =
    let read : ℕ = held_by m.table (sent_word connection Read) in
    ap (aside read) (idle_pushes (publisher_stage (slice_get m.publishers place)) connection link.kind (stage_idle m place between)) ∙
    idle_aside read link.kind

-- a loan that ended, with what was known of it before its last step
record LoanNow (m : World) (place : ℕ) (before : PublisherLaneState) (n : World) (after : PublisherLaneState)
    (w : WholeCall m place call.LoanUninit before n after) : Type 0 where
  given : LoanAnswer
  said : publisher_ending (w.last.k).table w.last.lane ≡ Some (answer.Lent given)
  book : SameBook before.port.book (w.last.lane).port.book
  lent_now : after.port.book ≡ lent (w.last.lane).port.book
  stage : (w.last.lane).port.call ≡ publishing.Lending
  is_lent : (w.last.lane).port.book.first + length (w.last.lane).port.book.loans < 2 ^ 64 → IsLent w.last.k n place w.last.lane given

loan_now : (m : World) (place : ℕ) (before : PublisherLaneState) (n : World) (after : PublisherLaneState)
    (w : WholeCall m place call.LoanUninit before n after) → LoanNow m place before n after w
loan_now m place before n after w =
    let stage = loan_stage (w.last.lane).port.call w.last.over (stage_of m place call.LoanUninit before n after w) in
    let given : LoanAnswer = given_of (next_lane w.last.k w.last.lane).port.book.answer in
    let said = said_is m place call.LoanUninit before n after w publishing.Lending stage ∙ ap (λ (a : Answer). Some a)
    (given_is (next_lane w.last.k w.last.lane).port.book.answer) in
    let a = w.last.alone in
    let few : (w.last.k).moments ≤ 2 ^ 63 = omega (arith, w.few_before) in
    let steps : StepsTo w.last.k (Publisher place) GoOn stepped.Finished n
    = (w.last.fit, ap publisher_ends_at a.found ∙ w.last.over, w.last.now) in
    let answered = answered_by m place call.LoanUninit before n after w (answer.Lent given) said in
    record {
      given = given;
      said = said;
      book = book_there m place call.LoanUninit before n after w publishing.Lending stage;
      lent_now = book_is m place call.LoanUninit before n after w publishing.Lending stage;
      stage = stage;
      is_lent = λ small. loans_lent w.last.k (Publisher place) GoOn stepped.Finished n steps
          (steps_told w.last.k (Publisher place) GoOn stepped.Finished n steps) a.kept.within a.kept.uses a.kept.rooms few answered.call
          place w.last.lane given
          (answered.more ∙ ap (λ (xs : List FinishedCall). xs ++ answered.call ∷ []) (sym a.finished)) answered.own a.found
          answered.answered small;
    }

loans_counted : (was now : BookState) → now.loans ≡ was.loans → loans_out now ≡ loans_out was
loans_counted was now e = ap (λ (l : List LoanMark). total (λ index. is_out (get_or l index mark.No)) (length l)) e

-- the slot that a loan gives was in no use
not_used : (m : World) (place : ℕ) (before : PublisherLaneState) (n : World) (after : PublisherLaneState)
    (w : WholeCall m place call.LoanUninit before n after) (l : LoanNow m place before n after w) (slot : ℕ)
    → slice_get m.publishers place ≡ Some before → slice_get n.publishers place ≡ Some after → AllBetween m
    → is_out (loan_of slot (w.last.lane).port.book) ≡ false → IsLoanAt n place slot → IsInUse m before slot → ⊥
not_used m place before n after w l slot found now between out lent_at (inl used) =
    absurd (cc (sym out ∙ ap is_out (loans_same before.port.book (w.last.lane).port.book l.book.first l.book.loans slot) ∙ used))
not_used m place before n after w l slot found now between out lent_at (inr (inl used)) =
    let none = (loans_alone n w.kept w.few place slot lent_at).0 place after now in
    let same : after.port.book.history ≡ before.port.book.history
    = ap (λ (b : BookState). b.history) l.lent_now ∙ (lent_keeps (w.last.lane).port.book).1 ∙ l.book.history in
    absurd (omega (arith, used, none, ap (count slot) same))
not_used m place before n after w l slot found now between out lent_at (inr (inr held)) =
    let links : slice_get n.links held.connection ≡ Some held.link
    = ap (λ (ls : List LinkState). slice_get ls held.connection) w.links ∙ held.found in
    let none = (loans_alone n w.kept w.few place slot lent_at).1 held.connection held.link (get_or n.orders held.connection []) links
    (order_there n held.connection held.link w.kept links) in
    let order : held.order ≡ get_or m.orders held.connection []
    = some_is held.order (get_or m.orders held.connection [])
    (sym held.got ∙ order_there m held.connection held.link w.was held.found) in
    let waits : waiting held.link (get_or n.orders held.connection []) ≡ waiting held.link held.order =
    waits_on m place call.LoanUninit before n after w (answer.Lent l.given) found now l.said refl held.connection held.link held.found ∙
    sym (ap (waiting held.link) order) in
    let borrowed = ap (λ xs. borrows held.connection slot (slice_get xs (held.link).subscriber)) (sym w.others.subscribers) ∙
    none.borrowed in
    absurd (omega (
      arith,
      held.has,
      none.waits,
      ap (count slot) waits,
      ap (count slot)
          (none_aside m held.connection (held.link).publisher held.link between),
      ap one_if borrowed,
    ))

-- a loan
pub loans_in_turn : LoansInTurn
loans_in_turn = λ m n place before after t found now small.
    let w = whole m place call.LoanUninit before n after t found now in
    let l = loan_now m place before n after w in
    let book = l.book in
    let size : length (w.last.lane).port.book.loans ≡ length before.port.book.loans = ap (λ (xs : List LoanMark). length xs) book.loans in
    let there : (w.last.lane).port.book.first + length (w.last.lane).port.book.loans < 2 ^ 64 = omega (arith, small, size, book.first) in
    let is = l.is_lent there in
    let few : (w.last.k).moments ≤ 2 ^ 63 = omega (arith, w.few_before) in
    let counted_then = ((w.last.alone.kept.uses few).publishers place w.last.lane w.last.alone.found).counted in
    let counted_first = ((w.was.uses w.few_first).publishers place before found).counted in
    let counts = ((w.was.rooms w.few_first).publishers place before found).counts in
    let out = loans_counted before.port.book (w.last.lane).port.book book.loans in
    let said_so : parties.lent (lent (w.last.lane).port.book).answer ≡ answer.Lent l.given =
    some_is _ (answer.Lent l.given) (sym
    (said_is m place call.LoanUninit before n after w publishing.Lending l.stage ∙ ap
    (λ (b : BookState). Some (parties.lent b.answer)) (sym (ap (λ (x : PublisherLaneState). x.port.book) w.after_is) ∙ l.lent_now))
    ∙ l.said) in
    let own : (slot : ℕ) → IsOwn (w.last.lane).port.book slot → IsOwn before.port.book slot = λ slot o.
    record {
      above = omega (arith, o.above, book.first);
      below
          = omega (arith, o.below, book.first, size, counted_then.loans_each, counted_first.loans_each);
    } in
    let gives : (slot : ℕ) → l.given ≡ loan.Slot slot → IsOwn before.port.book slot × (IsInUse m before slot → ⊥)
    × (loan_of slot after.port.book ≡ mark.Lent) = λ slot e.
    let g = is.gives slot e in (
      own slot g.0,
      not_used m place before n after w l slot found now t.between g.1 g.2,
      ap (loan_of slot) l.lent_now ∙ lent_mark (w.last.lane).port.book slot
          (said_so ∙ ap (λ (g : LoanAnswer). answer.Lent g) e) there (sym counted_then.loans_each),
    ) in
    let refuses : loans_out before.port.book ≡ before.port.book.most_loans
    → l.given ≡ loan.ExceedsMaxLoans = λ e. is.refuses (out ∙ e ∙ sym book.most_loans) in
    let lacks : l.given ≡ loan.OutOfMemory → (loans_out before.port.book < before.port.book.most_loans) × AllInUse m before = λ e. (
      fewer_out before l.given (omega (arith, counts.few, counts.out (omega (arith, small)))) refuses e,
      λ slot o. loans_find_all_used m t.came place w.last.entries w.fit
          (subst (λ (v : World). v.moments ≤ 2 ^ 63) w.last.led_to few)
          (subst (λ (v : World). IsInCall v place m.moments) w.last.led_to
          (record { lane = w.last.lane; found = w.last.alone.found; since = w.last.alone.first; busy = ap publisher_is_idle l.stage }))
          (answered_by m place call.LoanUninit before n after w (answer.Lent l.given) l.said).call
          (subst (λ (v : World). (happens v (Publisher place) GoOn).finished ≡ v.finished
          ++ (answered_by m place call.LoanUninit before n after w (answer.Lent l.given) l.said).call ∷ []) w.last.led_to
          (sym (ap (λ (v : World). v.finished) w.last.now) ∙
          (answered_by m place call.LoanUninit before n after w (answer.Lent l.given) l.said).more ∙ ap
          (λ (xs : List FinishedCall). xs
          ++ (answered_by m place call.LoanUninit before n after w (answer.Lent l.given) l.said).call ∷ [])
          (sym w.last.alone.finished)))
          ((answered_by m place call.LoanUninit before n after w (answer.Lent l.given) l.said).answered ∙ ap
          (λ (g : LoanAnswer). answer.Lent g) e) before found slot o,
    ) in (
      l.given,
      answered_by m place call.LoanUninit before n after w (answer.Lent l.given) l.said,
      w.others,
      mail_stays m place call.LoanUninit before n after w (answer.Lent l.given) found now l.said refl,
      ap (λ (b : BookState). b.history) l.lent_now ∙ (lent_keeps (w.last.lane).port.book).1 ∙ book.history,
      record {
        refused = (λ e. sym out ∙ is.refused e ∙ book.most_loans, refuses);
        lacks = (
          lacks,
          λ h. must_lack m before l.given h.1 (λ slot e. ((gives slot e).0, (gives slot e).1))
              (λ e. sym out ∙ is.refused e ∙ book.most_loans) h.0,
        );
        gives = gives;
        others = λ slot apart. ap (loan_of slot) l.lent_now ∙ lent_others (w.last.lane).port.book l.given said_so there
            (sym counted_then.loans_each) slot apart ∙ loans_same before.port.book (w.last.lane).port.book book.first book.loans slot;
      },
    )
  where
    not_refused : loan.ExceedsMaxLoans ≡ loan.OutOfMemory → ⊥
    not_refused e = cc e

    fewer_out : (lane : PublisherLaneState) (given : LoanAnswer) → loans_out lane.port.book ≤ lane.port.book.most_loans
        → (loans_out lane.port.book ≡ lane.port.book.most_loans → given ≡ loan.ExceedsMaxLoans) → given ≡ loan.OutOfMemory
        → loans_out lane.port.book < lane.port.book.most_loans
    fewer_out lane given most refuses e = elim (cases_lt (loans_out lane.port.book) lane.port.book.most_loans) [
      | inl less ↦ less
      | inr full ↦ absurd (not_refused (sym (refuses (omega (arith, full, most))) ∙ e))
    ]

    must_lack : (m : World) (lane : PublisherLaneState) (given : LoanAnswer) → AllInUse m lane
        → ((slot : ℕ) → given ≡ loan.Slot slot → IsOwn lane.port.book slot × (IsInUse m lane slot → ⊥))
        → (given ≡ loan.ExceedsMaxLoans → loans_out lane.port.book ≡ lane.port.book.most_loans)
        → loans_out lane.port.book < lane.port.book.most_loans → given ≡ loan.OutOfMemory
    must_lack m lane loan.OutOfMemory all gives refused room = refl
    must_lack m lane loan.ExceedsMaxLoans all gives refused room = absurd (omega (arith, room, refused refl))
    must_lack m lane (loan.Slot slot) all gives refused room = let g = gives slot refl in absurd (g.1 (all slot g.0))

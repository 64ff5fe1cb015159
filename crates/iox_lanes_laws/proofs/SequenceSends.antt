-- While a send lasts, its slot has the sequence number of its message.
use Rattle.std.proofs.Common.{ℕ, ◌≡◌, ◌+◌, ◌<◌, ◌≤◌, ◌^◌, ◌&&◌, ◌⊎◌, Bool, true, false, List, [], ◌∷◌, ◌++◌}
use Rattle.std.proofs.Common.{is_some, length, set, slice_get, unwrap_or, Option, None, Some, append-nil, refl, sym, ◌∙◌, ap, ap₂, subst}
use Rattle.std.proofs.Common.{inl}
use Rattle.std.proofs.Common.{inr, arith}
use Rattle.std.specs.Option.{option_map_or}
use Rattle.std.proofs.lemmas.Bool.{eq-eqb, le-leb}
use Rattle.std.proofs.lemmas.Bool.Decides.{eqb_tells}
use Rattle.std.proofs.lemmas.List.{length-append}
use Rattle.std.proofs.lemmas.Option.{slice_get_within}
use Rattle.iox_lanes_machine.specs.LanesBase.Publishing.{publisher_is_idle, publisher_is_over}
use Rattle.iox_lanes_machine.specs.LanesBase.declared.calls.publisher.Delivery.{Delivery}
use Rattle.iox_lanes_machine.specs.LanesBase.declared.calls.publisher.PublisherCall.{PublisherCall}
use Rattle.iox_lanes_machine.specs.LanesBase.declared.calls.publisher.PublisherCall.TheVariants as publishing
use Rattle.iox_lanes_machine.specs.LanesParties.Parties.{head_of, lent, publisher_after, publisher_answer, publisher_begun, publisher_fits}
use Rattle.iox_lanes_machine.specs.LanesParties.Parties.{PublisherLaneState, SubscriberLaneState}
use Rattle.iox_lanes_machine.specs.LanesParties.Publishers.{words_of}
use Rattle.iox_lanes_machine.specs.LanesParties.SendAnswers.{send_answer}
use Rattle.iox_lanes_machine.specs.LanesParties.Within.{IsPublisher}
use Rattle.iox_lanes_machine.specs.LanesParties.declared.call.Answer.{Answer}
use Rattle.iox_lanes_machine.specs.LanesParties.declared.call.Answer.TheVariants as answer
use Rattle.iox_lanes_machine.specs.LanesParties.declared.call.Call.{Call}
use Rattle.iox_lanes_machine.specs.LanesParties.declared.call.Call.TheVariants as call
use Rattle.iox_lanes_machine.specs.LanesParties.declared.call.CallName.TheVariants as name
use Rattle.iox_lanes_machine.specs.LanesParties.declared.call.FinishedCall.{FinishedCall}
use Rattle.iox_lanes_machine.specs.LanesParties.declared.call.Move.{Move}
use Rattle.iox_lanes_machine.specs.LanesParties.declared.call.Move.TheVariants.{Begin, GoOn}
use Rattle.iox_lanes_machine.specs.LanesParties.declared.call.Party.{Party}
use Rattle.iox_lanes_machine.specs.LanesParties.declared.call.Party.TheVariants.{Publisher, Subscriber}
use Rattle.iox_lanes_machine.specs.LanesParties.declared.publisher.slot_book.LoanAnswer.{LoanAnswer}
use Rattle.iox_lanes_machine.proofs.LanesParties.PublishersWithin.{publishers_stay_within}
use Rattle.iox_lanes_machine.proofs.LanesParties.Rings.{all_at}
use Rattle.iox_lanes_machine.specs.Calls.{IsEnded, IsStageOf}
use Rattle.iox_lanes_machine.specs.Kept.{IsKept}
use Rattle.iox_lanes_machine.specs.Sends.{is_sender, sends_of}
use Rattle.iox_lanes_machine.specs.Slots.{IsLoanAt}
use Rattle.iox_lanes_machine.specs.World.{World, ended, fits, happens, placed, publisher_begins, publisher_ending, publisher_fits_at}
use Rattle.iox_lanes_machine.specs.World.{publisher_given, publisher_goes_on, subscriber_begins, subscriber_goes_on}
use Rattle.iox_lanes_machine.proofs.Alone.{only_one}
use Rattle.iox_lanes_machine.proofs.Apart.{publisher_answers}
use Rattle.iox_lanes_machine.proofs.Calls.{set_is}
use Rattle.iox_lanes_machine.proofs.Ends.{some_is}
use Rattle.iox_lanes_machine.proofs.Sends.{last_or, same_sends, sends_nothing}
use Rattle.iox_lanes_machine.proofs.Within.{set_other}
use Rattle.iox_lanes_laws.specs.Messages.{begun_messages, message_of, MessageState, sent_by}
use Rattle.iox_lanes_laws.specs.Numbered.{last_number, number_by, was_sent_by}
use Rattle.iox_lanes_laws.specs.Sequences.{messages_of, sequence_of, sequence_under}
use Rattle.iox_lanes_laws.proofs.HaveNumbers.{among_ended}
use Rattle.iox_lanes_laws.proofs.Lanes.{begun_loan, stage_own}
use Rattle.iox_lanes_laws.proofs.Mail.{sends_one}
use Rattle.iox_lanes_laws.proofs.NumberedOrders.{comes_later, in_another, kept_at, next_at, own_last, same_last}
use Rattle.iox_lanes_laws.proofs.SequenceRuns.{begun_sequence, CountsOn, messages_more, never, none_more, of_other, own_one, reader_begun}
use Rattle.iox_lanes_laws.proofs.SequenceRuns.{reader_gone}
use Rattle.iox_lanes_laws.proofs.Stages.{head_sends, loan_begins, sending, sends_on, sends_over, write_sends}
use Rattle.iox_lanes_laws.proofs.Whole.{idle_sends}

-- by a moment a slot has a message of a sequence number
pub record HasSequence (ms : List MessageState) (slot moment sequence : ℕ) : Type 0 where
  pub number : ℕ
  pub message : MessageState
  pub last : last_number ms slot moment (length ms) ≡ Some number
  pub there : slice_get ms number ≡ Some message
  pub same : sequence_of message ≡ sequence

pub sequence_tells : (ms : List MessageState) (slot moment sequence : ℕ) → HasSequence ms slot moment sequence
    → sequence_under ms (number_by ms moment slot) ≡ sequence
sequence_tells ms slot moment sequence h =
    ap (λ (n : Option ℕ). sequence_under ms (unwrap_or n 0)) h.last
    ∙ ap (λ (one : Option MessageState). option_map_or sequence_of one 0) h.there ∙ h.same

sequence_kept : (ms : List MessageState) (one : MessageState) (slot moment sequence : ℕ) → was_sent_by slot moment (Some one) ≡ false
    → HasSequence ms slot moment sequence → HasSequence (ms ++ one ∷ []) slot moment sequence
sequence_kept ms one slot moment sequence not h = record {
  number = h.number;
  message = h.message;
  last = same_last ms one slot moment not ∙ h.last;
  there = kept_at ms (one ∷ []) h.number (slice_get_within ms h.number h.message h.there) ∙ h.there;
  same = h.same;
}

sequence_new : (ms : List MessageState) (one : MessageState) (slot moment sequence : ℕ) → one.slot ≡ slot → one.moment ≤ moment
    → sequence_of one ≡ sequence → HasSequence (ms ++ one ∷ []) slot moment sequence
sequence_new ms one slot moment sequence own early same = record {
  number = length ms;
  message = one;
  last = own_last ms one slot moment (ap₂ (λ (b c : Bool). b && c) (eq-eqb one.slot slot own) (le-leb one.moment moment early));
  there = next_at ms one;
  same = same;
}

-- it has it with what a begin sends, too, unless that is in the slot by then
more_sequence : (m : World) (place : ℕ) (c : Call) (own : PublisherLaneState) (ms : List MessageState) (slot moment sequence : ℕ)
    → ((loan : ℕ) → c ≡ call.Send loan → was_sent_by slot moment (Some (message_of m.table m.moments place loan own)) ≡ false)
    → HasSequence ms slot moment sequence → HasSequence (ms ++ sent_by m place c (Some own)) slot moment sequence
more_sequence m place c own ms slot moment sequence not h = by_call c not
  where
    none : HasSequence (ms ++ []) slot moment sequence
    none = subst (λ (xs : List MessageState). HasSequence xs slot moment sequence) (sym (append-nil ms)) h

    by_call : (c : Call)
        → ((loan : ℕ) → c ≡ call.Send loan → was_sent_by slot moment (Some (message_of m.table m.moments place loan own)) ≡ false)
        → HasSequence (ms ++ sent_by m place c (Some own)) slot moment sequence
    by_call call.LoanUninit not = none
    by_call (call.Write loan payload user_header) not = none
    by_call (call.Send loan) not
        = sequence_kept ms (message_of m.table m.moments place loan own) slot moment sequence (not loan refl) h
    by_call (call.DropLoan loan) not = none
    by_call call.Receive not = none
    by_call (call.Read sample) not = none
    by_call (call.Release sample) not = none

-- one where a slot is sent, else none
abbrev pub sends_now : Option ℕ → ℕ
sends_now None = 0
sends_now (Some slot) = 1

-- Each send of a publisher that ended, by its place among them, and the one that goes on: while it lasts, its slot has the message whose
-- sequence number is as far after `last`. n messages were sent as sends ended, and one more where one goes on.
pub record SendsOn (who last : ℕ) (publishers : List PublisherLaneState) (calls : List FinishedCall) (ms sent : List MessageState) : Type 0
  where
    pub ended_have : (number : ℕ) (send : FinishedCall) → slice_get calls number ≡ Some send → (slot : ℕ) → send.call ≡ name.Send slot
        → (moment : ℕ) → send.first ≤ moment → moment ≤ send.last → HasSequence ms slot moment (last + number + 1)
    pub going_has : (lane : PublisherLaneState) → slice_get publishers who ≡ Some lane → (slot : ℕ) → sending lane.port.call ≡ Some slot
        → (moment : ℕ) → lane.first ≤ moment → HasSequence ms slot moment (last + length calls + 1)
    pub many : (lane : PublisherLaneState) → slice_get publishers who ≡ Some lane
        → length (messages_of who sent) ≡ length calls + sends_now (sending lane.port.call)

same_on : (who last : ℕ) (ps qs : List PublisherLaneState) (calls after : List FinishedCall) (ms sent : List MessageState) → qs ≡ ps
    → after ≡ calls → SendsOn who last ps calls ms sent → SendsOn who last qs after (ms ++ []) (sent ++ [])
same_on who last ps qs calls after ms sent lanes ends h =
    subst (λ (xs : List MessageState). SendsOn who last qs after (ms ++ []) xs) (sym (append-nil sent))
    (subst (λ (xs : List MessageState). SendsOn who last qs after xs sent) (sym (append-nil ms))
    (subst (λ (xs : List FinishedCall). SendsOn who last qs xs ms sent) (sym ends)
    (subst (λ (xs : List PublisherLaneState). SendsOn who last xs calls ms sent) (sym lanes) h)))

left_of : (a b : Bool) → a && b ≡ true → a ≡ true
left_of true b h = refl
left_of false b h = absurd (cc h)

-- a publisher begins a call
module _ (who last : ℕ) (m : World) (place : ℕ) (own : PublisherLaneState) (ms sent : List MessageState)
    (e : slice_get m.publishers place ≡ Some own) (k : IsKept m) (less : m.moments < 2 ^ 63) (low : last < 2 ^ 63)
    (wide : 0 < m.table.sizes.user_header_words) (on : CountsOn who last m.publishers m.moments sent)
    (h : SendsOn who last m.publishers (sends_of who m.finished) ms sent) where
  abbrev calls : List FinishedCall
  calls = sends_of who m.finished

  few_steps : m.moments ≤ 2 ^ 63
  few_steps = omega (arith, less)

  ended_more : (c : Call) (number : ℕ) (send : FinishedCall) → slice_get calls number ≡ Some send → (slot : ℕ)
      → send.call ≡ name.Send slot → (moment : ℕ) → send.first ≤ moment → moment ≤ send.last
      → HasSequence (ms ++ sent_by m place c (Some own)) slot moment (last + number + 1)
  ended_more c number send found slot asked moment begun not_ended =
      let among = among_ended who m.finished number send found in
      let is : IsEnded m.moments send
      = all_at (IsEnded m.moments) m.finished among.at send among.found (k.calls few_steps).ended in
      more_sequence m place c own ms slot moment (last + number + 1)
      (λ loan asks. comes_later (message_of m.table m.moments place loan own) slot moment (omega (arith, not_ended, is.past)))
      (h.ended_have number send found slot asked moment begun not_ended)

  begins_other : (c : Call) → publisher_fits own (Begin c) ≡ true → (who ≡ place → ⊥)
      → SendsOn who last (set m.publishers place (publisher_begun m.moments c own)) calls (ms ++ sent_by m place c (Some own))
      (sent ++ sent_by m place c (Some own))
  begins_other c may other = record {
    ended_have = ended_more c;
    going_has = λ lane found slot at moment begun.
        let was : slice_get m.publishers who ≡ Some lane
        = sym (set_other m.publishers place who (publisher_begun m.moments c own) other) ∙ found in
        let its = stage_own m who lane slot was k.loans (k.uses few_steps) at in
        more_sequence m place c own ms slot moment (last + length calls + 1)
        (λ loan asks. in_another (message_of m.table m.moments place loan own) slot moment
        (λ same. other (only_one m place who slot
        (subst (IsLoanAt m place) same
        (begun_loan m place loan own e (subst (λ (asked : Call). publisher_fits own (Begin asked) ≡ true) asks may)))
        lane k.loans was its.0 its.1)))
        (h.going_has lane was slot at moment begun);
    many = λ lane found.
        ap (λ (xs : List MessageState). length xs)
        (none_more who sent (sent_by m place c (Some own)) (of_other m who place c (Some own) other))
        ∙ h.many lane (sym (set_other m.publishers place who (publisher_begun m.moments c own) other) ∙ found);
  }

  -- this one, and what it begins is no send
  begins_quiet : (now : PublisherLaneState) → who ≡ place → sending own.port.call ≡ None → sending now.port.call ≡ None
      → SendsOn who last (set m.publishers place now) calls (ms ++ []) (sent ++ [])
  begins_quiet now same was none = same_on who last (set m.publishers place now) (set m.publishers place now) calls calls ms sent refl refl
      (record {
        ended_have = h.ended_have;
        going_has = λ lane found slot at moment begun.
            absurd (cc (sym (ap (λ (l : PublisherLaneState). sending l.port.call) (set_is m.publishers place who own now lane e same found)
            ∙ none) ∙ at));
        many = λ lane found.
            h.many own (ap (slice_get m.publishers) same ∙ e)
            ∙ ap (λ (o : Option ℕ). length calls + sends_now o)
            (was ∙ sym none ∙ sym (ap (λ (l : PublisherLaneState). sending l.port.call)
            (set_is m.publishers place who own now lane e same found)));
      })

  -- or a send
  begins_sent : (loan : ℕ) → publisher_fits own (Begin (call.Send loan)) ≡ true → who ≡ place → sending own.port.call ≡ None
      → SendsOn who last (set m.publishers place (publisher_begun m.moments (call.Send loan) own)) calls
      (ms ++ message_of m.table m.moments place loan own ∷ []) (sent ++ message_of m.table m.moments place loan own ∷ [])
  begins_sent loan may same was =
      let now : PublisherLaneState = publisher_begun m.moments (call.Send loan) own in
      let message : MessageState = message_of m.table m.moments place loan own in
      let here : slice_get m.publishers who ≡ Some own = ap (slice_get m.publishers) same ∙ e in
      let x : ℕ = last + length (messages_of who sent) in
      let is : IsPublisher m.table.sizes own = all_at (IsPublisher m.table.sizes) m.publishers place own e k.within.publishers in
      let next : sequence_of message ≡ x + 1
      = begun_sequence m place loan x own ((publishers_stay_within m.table.sizes own is).0 m.moments (call.Send loan) may) wide
      (on.given own here) (omega (arith, on.few, less, low)) in
      let all : length (messages_of who sent) ≡ length calls
      = h.many own here ∙ ap (λ (o : Option ℕ). length calls + sends_now o) was ∙ omega arith in
      let begins : sending now.port.call ≡ Some loan = head_sends loan 0 (slice_get (head_of loan own) 0) in
      record {
        ended_have = ended_more (call.Send loan);
        going_has = λ lane found slot at moment begun.
            let now_is : lane ≡ now = set_is m.publishers place who own now lane e same found in
            sequence_new ms message slot moment (last + length calls + 1)
            (some_is loan slot (sym begins ∙ sym (ap (λ (l : PublisherLaneState). sending l.port.call) now_is) ∙ at))
            (omega (arith, begun, ap (λ (l : PublisherLaneState). l.first) now_is))
            (next ∙ omega (arith, all));
        many = λ lane found.
            ap (λ (xs : List MessageState). length xs) (messages_more who sent (message ∷ [])
            ∙ ap (λ (xs : List MessageState). messages_of who sent ++ xs) (own_one who message (sym same)))
            ∙ length-append (messages_of who sent) (message ∷ [])
            ∙ omega (arith, all)
            ∙ ap (λ (o : Option ℕ). length calls + sends_now o) (sym begins
            ∙ sym (ap (λ (l : PublisherLaneState). sending l.port.call) (set_is m.publishers place who own now lane e same found)));
      }

  begins_own : (c : Call) → publisher_fits own (Begin c) ≡ true → who ≡ place → sending own.port.call ≡ None
      → SendsOn who last (set m.publishers place (publisher_begun m.moments c own)) calls (ms ++ sent_by m place c (Some own))
      (sent ++ sent_by m place c (Some own))
  begins_own call.LoanUninit may same was
      = begins_quiet (publisher_begun m.moments call.LoanUninit own) same was (loan_begins own.port.routes)
  begins_own (call.Write loan payload user_header) may same was
      = begins_quiet (publisher_begun m.moments (call.Write loan payload user_header) own) same was
      (write_sends loan 0 (slice_get payload.items 0))
  begins_own (call.Send loan) may same was = begins_sent loan may same was
  begins_own (call.DropLoan loan) may same was = begins_quiet (publisher_begun m.moments (call.DropLoan loan) own) same was refl
  begins_own call.Receive may same was = absurd (never (publisher_is_idle own.port.call) may)
  begins_own (call.Read sample) may same was = absurd (never (publisher_is_idle own.port.call) may)
  begins_own (call.Release sample) may same was = absurd (never (publisher_is_idle own.port.call) may)

begins_send : (who last : ℕ) (m : World) (place : ℕ) (c : Call) (at : Option PublisherLaneState) (ms sent : List MessageState)
    → slice_get m.publishers place ≡ at → publisher_fits_at at (Begin c) ≡ true → IsKept m → m.moments < 2 ^ 63 → last < 2 ^ 63
    → 0 < m.table.sizes.user_header_words → CountsOn who last m.publishers m.moments sent
    → SendsOn who last m.publishers (sends_of who m.finished) ms sent
    → SendsOn who last (publisher_begins m place c at).publishers (sends_of who (publisher_begins m place c at).finished)
    (ms ++ sent_by m place c at) (sent ++ sent_by m place c at)
begins_send who last m place c None ms sent e fit k less low wide on h = absurd (cc fit)
begins_send who last m place c (Some own) ms sent e fit k less low wide on h = elim (eqb_tells who place) [
  | inl same ↦ begins_own who last m place own ms sent e k less low wide on h c fit same.1
      (idle_sends own.port.call (left_of (publisher_is_idle own.port.call) _ fit))
  | inr other ↦ begins_other who last m place own ms sent e k less low wide on h c fit other.1
]

-- a call that ends: a send, or no send was in progress
record EndsSend (c : PublisherCall) : Type 0 where
  slot : ℕ
  delivery : Delivery
  is : c ≡ publishing.Sent slot delivery

record EndsNone (c : PublisherCall) : Type 0 where
  none : sending c ≡ None
  nothing : (fails : Bool) (loan : Option LoanAnswer) → sends_nothing (publisher_answer fails c loan) ≡ true

lends_nothing : (loan : Option LoanAnswer) → sends_nothing (Some (lent loan)) ≡ true
lends_nothing None = refl
lends_nothing (Some given) = refl

what_ends : (c : PublisherCall) → publisher_is_over c ≡ true → EndsSend c ⊎ EndsNone c
what_ends publishing.Idle over = absurd (cc over)
what_ends (publishing.LoanReclaims place route p) over = absurd (cc over)
what_ends publishing.Lending over = inr (record { none = refl; nothing = λ fails loan. lends_nothing loan })
what_ends (publishing.Writing slot word value) over = absurd (cc over)
what_ends (publishing.Written slot) over = inr (record { none = refl; nothing = λ fails loan. refl })
what_ends (publishing.Heading slot word value) over = absurd (cc over)
what_ends (publishing.Remembering slot) over = absurd (cc over)
what_ends (publishing.SendReclaims slot place route p) over = absurd (cc over)
what_ends (publishing.Pushing slot place route p delivery) over = absurd (cc over)
what_ends (publishing.Sent slot delivery) over = inl (record { slot = slot; delivery = delivery; is = refl })
what_ends (publishing.Dropping slot) over = inr (record { none = refl; nothing = λ fails loan. refl })

none_nothing : (o : Option Answer) → is_some o ≡ false → sends_nothing o ≡ true
none_nothing None h = refl
none_nothing (Some a) h = absurd (cc h)

-- a publisher goes on
module _ (who last : ℕ) (m : World) (place : ℕ) (own : PublisherLaneState) (ms sent : List MessageState)
    (e : slice_get m.publishers place ≡ Some own) (k : IsKept m) (few : m.moments ≤ 2 ^ 63)
    (h : SendsOn who last m.publishers (sends_of who m.finished) ms sent) where
  abbrev now : PublisherLaneState
  now = publisher_after (publisher_given m.table own) own

  abbrev ending : List FinishedCall
  ending = ended (Publisher place) own.call own.first m.moments (publisher_ending m.table own)

  abbrev Wanted : Type 0
  Wanted = SendsOn who last (set m.publishers place now) (sends_of who (m.finished ++ ending)) (ms ++ []) (sent ++ [])

  goes_other : (who ≡ place → ⊥) → Wanted
  goes_other other = same_on who last (set m.publishers place now) (set m.publishers place now) (sends_of who m.finished)
      (sends_of who (m.finished ++ ending)) ms sent refl
      (same_sends who m.finished (Publisher place) own.call own.first m.moments (publisher_ending m.table own) (inl not_its))
      (record {
        ended_have = h.ended_have;
        going_has = λ lane found. h.going_has lane (sym (set_other m.publishers place who now other) ∙ found);
        many = λ lane found. h.many lane (sym (set_other m.publishers place who now other) ∙ found);
      })
    where
      not_its : is_sender (Publisher place) who ≡ false
      not_its = elim (eqb_tells place who) [
        | inl same ↦ absurd (other (sym same.1))
        | inr not ↦ not.0
      ]

  -- nothing of it ends but what sends nothing
  goes_quiet : who ≡ place → sending now.port.call ≡ sending own.port.call → sends_nothing (publisher_ending m.table own) ≡ true → Wanted
  goes_quiet same stays nothing = same_on who last (set m.publishers place now) (set m.publishers place now) (sends_of who m.finished)
      (sends_of who (m.finished ++ ending)) ms sent refl
      (same_sends who m.finished (Publisher place) own.call own.first m.moments (publisher_ending m.table own) (inr nothing))
      (record {
        ended_have = h.ended_have;
        going_has = λ lane found slot at moment begun.
            let is : lane ≡ now = set_is m.publishers place who own now lane e same found in
            h.going_has own here slot (sym stays ∙ sym (ap (λ (l : PublisherLaneState). sending l.port.call) is) ∙ at) moment
            (omega (arith, begun, ap (λ (l : PublisherLaneState). l.first) is));
        many = λ lane found.
            let is : lane ≡ now = set_is m.publishers place who own now lane e same found in
            h.many own here ∙ ap (λ (o : Option ℕ). length (sends_of who m.finished) + sends_now o)
            (sym stays ∙ sym (ap (λ (l : PublisherLaneState). sending l.port.call) is));
      })
    where
      here : slice_get m.publishers who ≡ Some own
      here = ap (slice_get m.publishers) same ∙ e

  -- its send ends
  goes_sent : who ≡ place → publisher_is_over own.port.call ≡ true → EndsSend own.port.call → Wanted
  goes_sent same over s =
      let calls : List FinishedCall = sends_of who m.finished in
      let here : slice_get m.publishers who ≡ Some own = ap (slice_get m.publishers) same ∙ e in
      let told : Answer = answer.Sent (send_answer own.fails s.delivery) in
      let new : FinishedCall
      = record { party = Publisher place; call = own.call; answer = told; first = own.first; last = m.moments } in
      let ends : publisher_ending m.table own ≡ Some told
      = ap (λ (c : PublisherCall). publisher_answer own.fails c now.port.book.answer) s.is in
      let all : sends_of who (m.finished ++ ending) ≡ calls ++ new ∷ []
      = ap (λ (o : Option Answer). sends_of who (m.finished ++ ended (Publisher place) own.call own.first m.moments o)) ends
      ∙ sends_one who m.finished new (ap (λ (n : ℕ). Publisher n) (sym same)) refl in
      let asked : own.call ≡ name.Send s.slot
      = subst (IsStageOf own.call) s.is ((k.calls few).publishers place own e).0 in
      let at : sending own.port.call ≡ Some s.slot = ap sending s.is in
      let over_none : sending now.port.call ≡ None
      = sends_over own.port.routes (words_of own.port) own.port.call (publisher_given m.table own) over in
      let one_more : length (calls ++ new ∷ []) ≡ length calls + 1 = length-append calls (new ∷ []) ∙ omega arith in
      same_on who last (set m.publishers place now) (set m.publishers place now) (calls ++ new ∷ []) (sends_of who (m.finished ++ ending))
      ms sent refl all
      (record {
        ended_have = λ number send found slot asks moment begun not_ended. elim (last_or calls new send number found) [
          | inl old ↦ h.ended_have number send old slot asks moment begun not_ended
          | inr is ↦
              let its : s.slot ≡ slot = same_slot s.slot slot (sym asked ∙ ap (λ (c : FinishedCall). c.call) (sym is.1) ∙ asks) in
              subst (λ (n : ℕ). HasSequence ms slot moment (last + n + 1)) (sym is.0)
              (h.going_has own here slot (at ∙ ap (λ (n : ℕ). Some n) its) moment
              (omega (arith, begun, ap (λ (c : FinishedCall). c.first) is.1)))
        ];
        going_has = λ lane found slot goes moment begun.
            absurd (cc (sym (ap (λ (l : PublisherLaneState). sending l.port.call)
            (set_is m.publishers place who own now lane e same found) ∙ over_none) ∙ goes));
        many = λ lane found.
            h.many own here ∙ ap (λ (o : Option ℕ). length calls + sends_now o) at ∙ omega (arith, one_more)
            ∙ ap (λ (o : Option ℕ). length (calls ++ new ∷ []) + sends_now o)
            (sym (ap (λ (l : PublisherLaneState). sending l.port.call) (set_is m.publishers place who own now lane e same found)
            ∙ over_none));
      })
    where
      same_slot : (one other : ℕ) → name.Send one ≡ name.Send other → one ≡ other
      same_slot one other is = cc is

  goes_own : who ≡ place → Wanted
  goes_own same = by_over (publisher_is_over own.port.call) refl
    where
      by_over : (b : Bool) → publisher_is_over own.port.call ≡ b → Wanted
      by_over true over = elim (what_ends own.port.call over) [
        | inl is ↦ goes_sent same over is
        | inr none ↦ goes_quiet same
            (sends_over own.port.routes (words_of own.port) own.port.call (publisher_given m.table own) over ∙ sym none.none)
            (none.nothing own.fails now.port.book.answer)
      ]
      by_over false inside = goes_quiet same
          (sends_on own.port.routes (words_of own.port) own.port.call (publisher_given m.table own) inside)
          (none_nothing (publisher_ending m.table own)
          (publisher_answers own.fails own.port.call now.port.book.answer ∙ inside))

goes_send : (who last : ℕ) (m : World) (place : ℕ) (at : Option PublisherLaneState) (ms sent : List MessageState)
    → slice_get m.publishers place ≡ at → publisher_fits_at at GoOn ≡ true → IsKept m → m.moments ≤ 2 ^ 63
    → SendsOn who last m.publishers (sends_of who m.finished) ms sent
    → SendsOn who last (publisher_goes_on (placed m (Publisher place)) place at).publishers
    (sends_of who (publisher_goes_on (placed m (Publisher place)) place at).finished) (ms ++ []) (sent ++ [])
goes_send who last m place None ms sent e fit k few h = absurd (cc fit)
goes_send who last m place (Some own) ms sent e fit k few h = elim (eqb_tells who place) [
  | inl same ↦ goes_own who last m place own ms sent e k few h same.1
  | inr other ↦ goes_other who last m place own ms sent e k few h other.1
]

-- a subscriber steps
reader_ends : (m : World) (who place : ℕ) (at : Option SubscriberLaneState)
    → sends_of who (subscriber_goes_on m place at).finished ≡ sends_of who m.finished
reader_ends m who place None = refl
reader_ends m who place (Some lane) = same_sends who m.finished (Subscriber place) lane.call lane.first m.moments _ (inl refl)

reader_starts : (m : World) (place : ℕ) (c : Call) (at : Option SubscriberLaneState)
    → (subscriber_begins m place c at).finished ≡ m.finished
reader_starts m place c None = refl
reader_starts m place c (Some lane) = refl

pub step_sends : (who last : ℕ) (m : World) (party : Party) (step : Move) (ms sent : List MessageState) → fits m party step ≡ true
    → IsKept m → m.moments < 2 ^ 63 → last < 2 ^ 63 → 0 < m.table.sizes.user_header_words
    → CountsOn who last m.publishers m.moments sent → SendsOn who last m.publishers (sends_of who m.finished) ms sent
    → SendsOn who last (happens m party step).publishers (sends_of who (happens m party step).finished)
    (ms ++ begun_messages m party step) (sent ++ begun_messages m party step)
step_sends who last m (Publisher place) (Begin c) ms sent fit k less low wide on h
    = begins_send who last m place c (slice_get m.publishers place) ms sent refl fit k less low wide on h
step_sends who last m (Publisher place) GoOn ms sent fit k less low wide on h
    = goes_send who last m place (slice_get m.publishers place) ms sent refl fit k (omega (arith, less)) h
step_sends who last m (Subscriber place) (Begin c) ms sent fit k less low wide on h =
    let n : World = happens m (Subscriber place) (Begin c) in
    same_on who last m.publishers n.publishers (sends_of who m.finished) (sends_of who n.finished) ms sent
    (reader_begun m place c (slice_get m.subscribers place))
    (ap (sends_of who) (reader_starts m place c (slice_get m.subscribers place))) h
step_sends who last m (Subscriber place) GoOn ms sent fit k less low wide on h =
    let n : World = happens m (Subscriber place) GoOn in
    same_on who last m.publishers n.publishers (sends_of who m.finished) (sends_of who n.finished) ms sent
    (reader_gone (placed m (Subscriber place)) place (slice_get m.subscribers place))
    (reader_ends (placed m (Subscriber place)) who place (slice_get m.subscribers place)) h

-- before the first step no send has ended, and none goes on
pub starts_sends : (who last : ℕ) (m : World) (ms : List MessageState) → IsKept m → m.moments ≡ 0
    → SendsOn who last m.publishers (sends_of who m.finished) ms []
starts_sends who last m ms k none =
    subst (λ (xs : List FinishedCall). SendsOn who last m.publishers xs ms []) (sym (ap (sends_of who) (k.fresh none).finished))
    (record {
      ended_have = λ number send found slot asks moment begun not_ended. absurd (cc found);
      going_has = λ lane found slot at moment begun.
          absurd (cc (sym (ap sending ((k.fresh none).publishers who lane found).idle) ∙ at));
      many = λ lane found. ap sends_now (sym (ap sending ((k.fresh none).publishers who lane found).idle)) ∙ omega arith;
    })

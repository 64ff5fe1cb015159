-- Every step keeps that calls follow one another and are answered in their own kinds.
use Rattle.std.proofs.Common.{ℕ, ◌≡◌, ◌+◌, ◌<◌, ◌≤◌, ◌^◌, Bool, true, false, not, if◌then◌else◌, nat_lt, List, [], ◌∷◌, ◌++◌, length, set}
use Rattle.std.proofs.Common.{slice_get, Option, Some, None, refl, sym, ◌∙◌, ap, subst, inl, inr, arith, append-nil}
use Rattle.std.specs.List.{All}
use Rattle.std.proofs.lemmas.Bool.Decides.{eqb_tells}
use Rattle.std.proofs.lemmas.List.Elements.{All-nil, All-cons, All-head, All-tail, All-push, All-weaker}
use Rattle.iox_lanes_machine.specs.QueuesSteps.Access.{successor}
use Rattle.iox_lanes_machine.specs.QueuesSteps.declared.order.PushAnswer.{PushAnswer}
use Rattle.iox_lanes_machine.specs.QueuesSteps.declared.order.PushAnswer.TheVariants.{Kept, LeftOut, Refused}
use Rattle.iox_lanes_machine.specs.QueuesSteps.declared.order.PopAnswer.{PopAnswer}
use Rattle.iox_lanes_machine.specs.QueuesSteps.declared.order.PopAnswer.TheVariants.{Got, Saw}
use Rattle.iox_lanes_machine.specs.QueuesSteps.declared.order.Placed.{Placed}
use Rattle.iox_lanes_machine.specs.QueuesSteps.Refusing as refusing
use Rattle.iox_lanes_machine.specs.QueuesSteps.declared.rings.refusing.pop.Pop as refusing_pop_type
use Rattle.iox_lanes_machine.specs.QueuesSteps.declared.rings.refusing.push.Push as refusing_push_type
use Rattle.iox_lanes_machine.specs.QueuesSteps.Ends.{push_begun, push_take, pop_take}
use Rattle.iox_lanes_machine.specs.QueuesSteps.declared.rings.ends.RingKind.{RingKind}
use Rattle.iox_lanes_machine.specs.QueuesSteps.declared.rings.ends.RingKind.TheVariants as kind
use Rattle.iox_lanes_machine.specs.QueuesSteps.declared.rings.ends.Push.{Push}
use Rattle.iox_lanes_machine.specs.QueuesSteps.declared.rings.ends.Pop.{Pop}
use Rattle.iox_lanes_machine.specs.LanesBase.Answers.{push_answer, pop_answer, refusing_pop_answer, refusing_push_answer}
use Rattle.iox_lanes_machine.specs.LanesBase.Publishing.{publisher_is_idle, publisher_take, loan_from, loan_reclaimed, write_from}
use Rattle.iox_lanes_machine.specs.LanesBase.Publishing.{head_from, push_from, sweep_from, send_reclaimed, pushed, counted, nothing_sent}
use Rattle.iox_lanes_machine.specs.LanesBase.Subscribing.{subscriber_is_idle, subscriber_take, subscriber_change, receive_from, received}
use Rattle.iox_lanes_machine.specs.LanesBase.Subscribing.{is_full_at, released}
use Rattle.iox_lanes_machine.specs.LanesBase.declared.calls.publisher.Delivery.{Delivery}
use Rattle.iox_lanes_machine.specs.LanesBase.declared.calls.publisher.PublisherCall.{PublisherCall}
use Rattle.iox_lanes_machine.specs.LanesBase.declared.calls.publisher.PublisherCall.TheVariants as publishing
use Rattle.iox_lanes_machine.specs.LanesBase.declared.calls.route.Route.{Route}
use Rattle.iox_lanes_machine.specs.LanesBase.declared.calls.subscriber.SlotExtent.{SlotExtent}
use Rattle.iox_lanes_machine.specs.LanesBase.declared.calls.subscriber.SubscriberCall.{SubscriberCall}
use Rattle.iox_lanes_machine.specs.LanesBase.declared.calls.subscriber.SubscriberCall.TheVariants as subscribing
use Rattle.iox_lanes_machine.specs.LanesParties.Publishers.{words_of}
use Rattle.iox_lanes_machine.specs.LanesParties.declared.publisher.slot_book.LoanAnswer.{LoanAnswer}
use Rattle.iox_lanes_machine.specs.LanesParties.Parties.{PublisherLaneState, SubscriberLaneState, publisher_may, publisher_fits}
use Rattle.iox_lanes_machine.specs.LanesParties.Parties.{publisher_begun, publisher_after, publisher_answer, head_of, subscriber_may}
use Rattle.iox_lanes_machine.specs.LanesParties.Parties.{subscriber_fits, subscriber_begun, subscriber_after, subscriber_answer}
use Rattle.iox_lanes_machine.specs.LanesParties.Parties.{release_begun, is_route, place_of, route_at, lent}
use Rattle.iox_lanes_machine.specs.LanesParties.declared.call.Answer.{Answer}
use Rattle.iox_lanes_machine.specs.LanesParties.declared.call.Call.{Call}
use Rattle.iox_lanes_machine.specs.LanesParties.declared.call.Call.TheVariants as call
use Rattle.iox_lanes_machine.specs.LanesParties.declared.call.CallName.{CallName}
use Rattle.iox_lanes_machine.specs.LanesParties.declared.call.CallName.TheVariants as name
use Rattle.iox_lanes_machine.specs.LanesParties.declared.call.FinishedCall.{FinishedCall}
use Rattle.iox_lanes_machine.specs.LanesParties.declared.call.Move.{Move}
use Rattle.iox_lanes_machine.specs.LanesParties.declared.call.Move.TheVariants.{Begin, GoOn}
use Rattle.iox_lanes_machine.specs.LanesParties.declared.call.Party.{Party}
use Rattle.iox_lanes_machine.specs.LanesParties.declared.call.Party.TheVariants.{Publisher, Subscriber}
use Rattle.iox_lanes_machine.proofs.LanesParties.Rings.{and_right}
use Rattle.iox_lanes_machine.specs.Calls.{IsAnswerOf, IsEnded, IsBefore, AreInTurn, EndedBefore, IsStageOf, IsReceiverStageOf, IsInHand}
use Rattle.iox_lanes_machine.specs.Calls.{PublisherFollows, SubscriberFollows, CallsFollow}
use Rattle.iox_lanes_machine.specs.World.{World, ended, fits, happens, publisher_fits_at, subscriber_fits_at, publisher_begins}
use Rattle.iox_lanes_machine.specs.World.{publisher_goes_on, publisher_given, publisher_ending, subscriber_begins, subscriber_goes_on}
use Rattle.iox_lanes_machine.specs.World.{subscriber_given}
use Rattle.iox_lanes_machine.proofs.Ends.{some_is}
use Rattle.iox_lanes_machine.proofs.Within.{set_other, set_same, changed_routes}

next : (n : ℕ) → n < 2 ^ 63 → n < successor n
next n h = omega arith

next_le : (n : ℕ) → n < 2 ^ 63 → n ≤ successor n
next_le n h = omega arith

not_true : (b : Bool) → not b ≡ true → b ≡ false
not_true true h = absurd (cc)
not_true false h = refl

-- the value at a place that was changed is the new one
pub set_is : {X : Type 0} (xs : List X) (place i : ℕ) (x y z : X) → slice_get xs place ≡ Some x → i ≡ place
    → slice_get (set xs place y) i ≡ Some z → z ≡ y
set_is xs place i x y z found same got = some_is z y (sym got ∙ ap (slice_get (set xs place y)) same ∙ set_same xs place y x found)

all_both : {X : Type 0} (P Q R : X → Type 0) → ((x : X) → P x → Q x → R x) → (xs : List X) → All P xs → All Q xs → All R xs
all_both P Q R f [] p q = All-nil R
all_both P Q R f (x ∷ xs) p q = All-cons R x xs (f x (All-head P x xs p) (All-head Q x xs q))
    (all_both P Q R f xs (All-tail P x xs p) (All-tail Q x xs q))

ended_later : (moments moments' : ℕ) (calls : List FinishedCall) → moments ≤ moments' → All (IsEnded moments) calls
    → All (IsEnded moments') calls
ended_later moments moments' calls le h
    = All-weaker (IsEnded moments) (IsEnded moments')
    (λ c g. record { kind = g.kind; lasts = g.lasts; past = omega (arith, g.past, le) }) calls h

hand_later : (party : Party) (first moments moments' : ℕ) (calls : List FinishedCall) → moments ≤ moments'
    → IsInHand party first moments calls → IsInHand party first moments' calls
hand_later party first moments moments' calls le h = record { begun = omega (arith, h.begun, le); behind = h.behind }

-- a call that begins now began after all that ended
fresh_hand : (party : Party) (moments : ℕ) (calls : List FinishedCall) → moments < 2 ^ 63 → All (IsEnded moments) calls
    → IsInHand party moments (successor moments) calls
fresh_hand party moments calls bound h = record {
  begun = next moments bound;
  behind = All-weaker (IsEnded moments) (λ c. c.party ≡ party → c.last < moments) (λ c g same. g.past) calls h;
}

in_turn_more : (calls : List FinishedCall) (call : FinishedCall) → AreInTurn calls → All (λ c. IsBefore c call) calls
    → AreInTurn (calls ++ call ∷ [])
in_turn_more [] call h g = (All-nil (IsBefore call), tt)
in_turn_more (c ∷ calls) call h g = (
  All-push (IsBefore c) calls call h.0 (All-head (λ x. IsBefore x call) c calls g),
  in_turn_more calls call h.1 (All-tail (λ x. IsBefore x call) c calls g),
)

abbrev AnswersKind : CallName → Option Answer → Type 0
AnswersKind call None = Unit {0}
AnswersKind call (Some a) = IsAnswerOf call a

record Grown (moments : ℕ) (calls : List FinishedCall) : Type 0 where
  ended_all : All (IsEnded moments) calls
  in_turn : AreInTurn calls

-- one more call, or none
grow : (moments : ℕ) (finished : List FinishedCall) (party : Party) (call : CallName) (first : ℕ) (a : Option Answer) → moments < 2 ^ 63
    → IsInHand party first moments finished → AnswersKind call a → All (IsEnded moments) finished → AreInTurn finished
    → Grown (successor moments) (finished ++ ended party call first moments a)
grow moments finished party call first None bound hand kind e t =
    subst (Grown (successor moments)) (sym (append-nil finished))
    (record { ended_all = ended_later moments (successor moments) finished (next_le moments bound) e; in_turn = t })
grow moments finished party call first (Some a) bound hand kind e t =
    let new : FinishedCall = record { party = party; call = call; answer = a; first = first; last = moments } in
    record {
      ended_all = All-push (IsEnded (successor moments)) finished new
          (ended_later moments (successor moments) finished (next_le moments bound) e)
          (record { kind = kind; lasts = hand.begun; past = next moments bound });
      in_turn = in_turn_more finished new t
          (all_both (IsEnded moments) (λ c. c.party ≡ party → c.last < first) (λ c. IsBefore c new)
          (λ c x y. record { ended = x.past; apart = y }) finished e hand.behind);
    }

-- a call of another party changes nothing of a party's own
others_before : (other party : Party) (moment : ℕ) (finished : List FinishedCall) (call : CallName) (first last : ℕ) (a : Option Answer)
    → (party ≡ other → ⊥)
    → EndedBefore other moment finished → EndedBefore other moment (finished ++ ended party call first last a)
others_before other party moment finished call first last None apart h = subst (EndedBefore other moment) (sym (append-nil finished)) h
others_before other party moment finished call first last (Some a) apart h =
    All-push (λ c. c.party ≡ other → c.last < moment) finished
    (record { party = party; call = call; answer = a; first = first; last = last }) h (λ same. absurd (apart same))

others_hand : (other party : Party) (own moments : ℕ) (finished : List FinishedCall) (call : CallName) (first last : ℕ)
    (a : Option Answer) → moments < 2 ^ 63 → (party ≡ other → ⊥)
    → IsInHand other own moments finished → IsInHand other own (successor moments) (finished ++ ended party call first last a)
others_hand other party own moments finished call first last a bound apart h = record {
  begun = omega (arith, h.begun, next_le moments bound);
  behind = others_before other party own finished call first last a apart h.behind;
}

same_hand : (party other : Party) (own moments : ℕ) (finished : List FinishedCall) (call : CallName) (first last : ℕ)
    (a : Option Answer) → moments < 2 ^ 63 → a ≡ None
    → IsInHand party own moments finished → IsInHand party own (successor moments) (finished ++ ended other call first last a)
same_hand party other own moments finished call first last a bound none h =
    subst (λ (x : Option Answer). IsInHand party own (successor moments) (finished ++ ended other call first last x)) (sym none)
    (subst (IsInHand party own (successor moments)) (sym (append-nil finished))
    (hand_later party own moments (successor moments) finished (next_le moments bound) h))

-- the stages of each call
loan_stage : (call : CallName) (place : ℕ) (at : Option Route) → call ≡ name.LoanUninit → IsStageOf call (loan_from place at)
loan_stage call place None h = h
loan_stage call place (Some route) h = h

reclaimed_stage : (call : CallName) (routes : List Route) (place : ℕ) (route : Route) (p : refusing_pop_type.Pop) (a : Option PopAnswer)
    → call ≡ name.LoanUninit → IsStageOf call (loan_reclaimed routes place route p a)
reclaimed_stage call routes place route p None h = h
reclaimed_stage call routes place route p (Some (Got (Some slot))) h = h
reclaimed_stage call routes place route p (Some (Got None)) h = loan_stage call (successor place) (slice_get routes (successor place)) h
reclaimed_stage call routes place route p (Some (Saw some)) h = loan_stage call (successor place) (slice_get routes (successor place)) h

write_stage : (call : CallName) (slot word : ℕ) (at : Option ℕ) → call ≡ name.Write slot → IsStageOf call (write_from slot word at)
write_stage call slot word None h = h
write_stage call slot word (Some value) h = h

head_stage : (call : CallName) (slot word : ℕ) (at : Option ℕ) → call ≡ name.Send slot → IsStageOf call (head_from slot word at)
head_stage call slot word None h = h
head_stage call slot word (Some value) h = h

begun_open : (k : RingKind) (limit value : ℕ) → push_answer (push_begun k limit value) ≡ None
begun_open kind.Overflowing limit value = refl
begun_open kind.Refusing limit value = refl

push_stage : (call : CallName) (slot place : ℕ) (delivery : Delivery) (at : Option Route) → call ≡ name.Send slot
    → IsStageOf call (push_from slot place delivery at)
push_stage call slot place delivery None h = h
push_stage call slot place delivery (Some route) h = (h, begun_open route.kind route.limit slot)

pushed_stage : (call : CallName) (routes : List Route) (slot place : ℕ) (route : Route) (p : Push) (delivery : Delivery)
    (a : Option PushAnswer) → push_answer p ≡ a → call ≡ name.Send slot
    → IsStageOf call (pushed routes slot place route p delivery a)
pushed_stage call routes slot place route p delivery None e h = (h, e)
pushed_stage call routes slot place route p delivery (Some a) e h
    = push_stage call slot (successor place) (counted delivery a) (slice_get routes (successor place)) h

sweep_stage : (call : CallName) (routes : List Route) (slot place : ℕ) (at : Option Route) → call ≡ name.Send slot
    → IsStageOf call (sweep_from routes slot place at)
sweep_stage call routes slot place None h = push_stage call slot 0 nothing_sent (slice_get routes 0) h
sweep_stage call routes slot place (Some route) h = h

swept_stage : (call : CallName) (routes : List Route) (slot place : ℕ) (route : Route) (p : refusing_pop_type.Pop)
    (a : Option PopAnswer) → call ≡ name.Send slot → IsStageOf call (send_reclaimed routes slot place route p a)
swept_stage call routes slot place route p None h = h
swept_stage call routes slot place route p (Some (Got (Some back))) h = h
swept_stage call routes slot place route p (Some (Got None)) h
    = sweep_stage call routes slot (successor place) (slice_get routes (successor place)) h
swept_stage call routes slot place route p (Some (Saw some)) h
    = sweep_stage call routes slot (successor place) (slice_get routes (successor place)) h

take_stage : (call : CallName) (routes : List Route) (words : List ℕ) (stage : PublisherCall) (a : ℕ) → IsStageOf call stage
    → IsStageOf call (publisher_take routes words stage a)
take_stage call routes words publishing.Idle a h = tt
take_stage call routes words (publishing.LoanReclaims place route p) a h
    = reclaimed_stage call routes place route (refusing.pop_take p a) (refusing_pop_answer (refusing.pop_take p a)) h
take_stage call routes words publishing.Lending a h = tt
take_stage call routes words (publishing.Writing slot word value) a h
    = write_stage call slot (successor word) (slice_get words (successor word)) h
take_stage call routes words (publishing.Written slot) a h = tt
take_stage call routes words (publishing.Heading slot word value) a h
    = head_stage call slot (successor word) (slice_get words (successor word)) h
take_stage call routes words (publishing.Remembering slot) a h = sweep_stage call routes slot 0 (slice_get routes 0) h
take_stage call routes words (publishing.SendReclaims slot place route p) a h
    = swept_stage call routes slot place route (refusing.pop_take p a) (refusing_pop_answer (refusing.pop_take p a)) h
take_stage call routes words (publishing.Pushing slot place route p delivery) a h
    = pushed_stage call routes slot place route (push_take p a) delivery (push_answer (push_take p a)) refl h.0
take_stage call routes words (publishing.Sent slot delivery) a h = tt
take_stage call routes words (publishing.Dropping slot) a h = tt

lent_kind : (call : CallName) (loan : Option LoanAnswer) → call ≡ name.LoanUninit → IsAnswerOf call (lent loan)
lent_kind call None h = h
lent_kind call (Some given) h = h

-- what a call answers is of its kind
publisher_kind : (fails : Bool) (call : CallName) (stage : PublisherCall) (loan : Option LoanAnswer) → IsStageOf call stage
    → AnswersKind call (publisher_answer fails stage loan)
publisher_kind fails call publishing.Idle loan h = tt
publisher_kind fails call (publishing.LoanReclaims place route p) loan h = tt
publisher_kind fails call publishing.Lending loan h = lent_kind call loan h
publisher_kind fails call (publishing.Writing slot word value) loan h = tt
publisher_kind fails call (publishing.Written slot) loan h = (slot, h)
publisher_kind fails call (publishing.Heading slot word value) loan h = tt
publisher_kind fails call (publishing.Remembering slot) loan h = tt
publisher_kind fails call (publishing.SendReclaims slot place route p) loan h = tt
publisher_kind fails call (publishing.Pushing slot place route p delivery) loan h = tt
publisher_kind fails call (publishing.Sent slot delivery) loan h = (slot, h)
publisher_kind fails call (publishing.Dropping slot) loan h = (slot, h)

-- a call that goes on was not answered
publisher_silent : (fails : Bool) (routes : List Route) (words : List ℕ) (stage : PublisherCall) (a : ℕ) (loan : Option LoanAnswer)
    → publisher_is_idle (publisher_take routes words stage a) ≡ false → publisher_answer fails stage loan ≡ None
publisher_silent fails routes words publishing.Idle a loan h = refl
publisher_silent fails routes words (publishing.LoanReclaims place route p) a loan h = refl
publisher_silent fails routes words publishing.Lending a loan h = absurd (cc)
publisher_silent fails routes words (publishing.Writing slot word value) a loan h = refl
publisher_silent fails routes words (publishing.Written slot) a loan h = absurd (cc)
publisher_silent fails routes words (publishing.Heading slot word value) a loan h = refl
publisher_silent fails routes words (publishing.Remembering slot) a loan h = refl
publisher_silent fails routes words (publishing.SendReclaims slot place route p) a loan h = refl
publisher_silent fails routes words (publishing.Pushing slot place route p delivery) a loan h = refl
publisher_silent fails routes words (publishing.Sent slot delivery) a loan h = absurd (cc)
publisher_silent fails routes words (publishing.Dropping slot) a loan h = absurd (cc)

receive_stage : (call : CallName) (place : ℕ) (full waits : Bool) (at : Option Route) → call ≡ name.Receive
    → IsReceiverStageOf call (receive_from place full waits at)
receive_stage call place full waits None h = h
receive_stage call place full waits (Some route) h = h

received_stage : (call : CallName) (routes : List Route) (borrowed : List ℕ) (most place : ℕ) (route : Route) (p : Pop) (waits : Bool)
    (a : Option PopAnswer) → call ≡ name.Receive
    → IsReceiverStageOf call (received routes borrowed most place route p waits a)
received_stage call routes borrowed most place route p waits None h = h
received_stage call routes borrowed most place route p waits (Some (Got (Some slot))) h = h
received_stage call routes borrowed most place route p waits (Some (Got None)) h
    = receive_stage call (successor place) (is_full_at borrowed most (successor place)) waits (slice_get routes (successor place)) h
received_stage call routes borrowed most place route p waits (Some (Saw some)) h
    = receive_stage call (successor place) (is_full_at borrowed most (successor place)) _ (slice_get routes (successor place)) h

read_stage : (call : CallName) (slot word : ℕ) (extent : SlotExtent) (test : Bool) → call ≡ name.Read slot
    → IsReceiverStageOf call (if test then subscribing.Reading slot word extent else subscribing.WasRead slot)
read_stage call slot word extent true h = h
read_stage call slot word extent false h = h

released_stage : (call : CallName) (place : ℕ) (route : Route) (p : refusing_push_type.Push) (a : Option PushAnswer) → (sample : ℕ)
    × (call ≡ name.Release sample) → IsReceiverStageOf call (released place route p a)
released_stage call place route p None h = h
released_stage call place route p (Some Kept) h = h
released_stage call place route p (Some (LeftOut oldest)) h = h
released_stage call place route p (Some Refused) h = h

take_receiver : (call : CallName) (routes : List Route) (borrowed : List ℕ) (most : ℕ) (stage : SubscriberCall) (a : ℕ)
    → IsReceiverStageOf call stage → IsReceiverStageOf call (subscriber_take routes borrowed most stage a)
take_receiver call routes borrowed most subscribing.Idle a h = tt
take_receiver call routes borrowed most (subscribing.Receiving place route p waits) a h
    = received_stage call routes borrowed most place route (pop_take p a) waits (pop_answer (pop_take p a)) h
take_receiver call routes borrowed most (subscribing.Received given) a h = tt
take_receiver call routes borrowed most (subscribing.Reading slot word extent) a h
    = read_stage call slot (successor word) extent (nat_lt (successor word) (3 + extent.user_header_words + extent.payload_words)) h
take_receiver call routes borrowed most (subscribing.WasRead slot) a h = tt
take_receiver call routes borrowed most (subscribing.Releasing place route p) a h
    = released_stage call place route (refusing.push_take p a) (refusing_push_answer (refusing.push_take p a)) h
take_receiver call routes borrowed most (subscribing.Released done) a h = tt

subscriber_kind : (call : CallName) (stage : SubscriberCall) (from : ℕ) → IsReceiverStageOf call stage
    → AnswersKind call (subscriber_answer stage from)
subscriber_kind call subscribing.Idle from h = tt
subscriber_kind call (subscribing.Receiving place route p waits) from h = tt
subscriber_kind call (subscribing.Received given) from h = h
subscriber_kind call (subscribing.Reading slot word extent) from h = tt
subscriber_kind call (subscribing.WasRead slot) from h = (slot, h)
subscriber_kind call (subscribing.Releasing place route p) from h = tt
subscriber_kind call (subscribing.Released done) from h = h

subscriber_silent : (routes : List Route) (borrowed : List ℕ) (most : ℕ) (stage : SubscriberCall) (a from : ℕ)
    → subscriber_is_idle (subscriber_take routes borrowed most stage a) ≡ false → subscriber_answer stage from ≡ None
subscriber_silent routes borrowed most subscribing.Idle a from h = refl
subscriber_silent routes borrowed most (subscribing.Receiving place route p waits) a from h = refl
subscriber_silent routes borrowed most (subscribing.Received given) a from h = absurd (cc)
subscriber_silent routes borrowed most (subscribing.Reading slot word extent) a from h = refl
subscriber_silent routes borrowed most (subscribing.WasRead slot) a from h = absurd (cc)
subscriber_silent routes borrowed most (subscribing.Releasing place route p) a from h = refl
subscriber_silent routes borrowed most (subscribing.Released done) a from h = absurd (cc)

-- a party that begins a call
publisher_starts : (moments : ℕ) (finished : List FinishedCall) (place : ℕ) (c : Call) (lane : PublisherLaneState)
    → publisher_fits lane (Begin c) ≡ true → moments < 2 ^ 63 → All (IsEnded moments) finished
    → PublisherFollows (successor moments) finished place (publisher_begun moments c lane)
publisher_starts moments finished place call.LoanUninit lane fit bound h
    = (loan_stage name.LoanUninit 0 (slice_get lane.port.routes 0) refl, λ busy. fresh_hand (Publisher place) moments finished bound h)
publisher_starts moments finished place (call.Write loan payload user_header) lane fit bound h
    = (write_stage (name.Write loan) loan 0 (slice_get payload.items 0) refl, λ busy. fresh_hand (Publisher place) moments finished bound h)
publisher_starts moments finished place (call.Send loan) lane fit bound h
    = (
      head_stage (name.Send loan) loan 0 (slice_get (head_of loan lane) 0) refl,
      λ busy. fresh_hand (Publisher place) moments finished
          bound h,
    )
publisher_starts moments finished place (call.DropLoan loan) lane fit bound h
    = (refl, λ busy. fresh_hand (Publisher place) moments finished bound h)
publisher_starts moments finished place call.Receive lane fit bound h
    = absurd (cc (and_right (publisher_is_idle lane.port.call) (publisher_may lane call.Receive) fit))
publisher_starts moments finished place (call.Read sample) lane fit bound h
    = absurd (cc (and_right (publisher_is_idle lane.port.call) (publisher_may lane (call.Read sample)) fit))
publisher_starts moments finished place (call.Release sample) lane fit bound h
    = absurd (cc (and_right (publisher_is_idle lane.port.call) (publisher_may lane (call.Release sample)) fit))

release_starts : (moments : ℕ) (finished : List FinishedCall) (who sample : ℕ) (place : Option ℕ) (route : Option Route)
    (lane : SubscriberLaneState) → (route ≡ None → ⊥) → (place ≡ None → ⊥) → moments < 2 ^ 63 → All (IsEnded moments) finished
    → SubscriberFollows (successor moments) finished who (release_begun moments sample place route lane)
release_starts moments finished who sample None route lane there at bound h = absurd (at refl)
release_starts moments finished who sample (Some place) None lane there at bound h = absurd (there refl)
release_starts moments finished who sample (Some place) (Some route) lane there at bound h
    = ((sample, refl), λ busy. fresh_hand (Subscriber who) moments finished bound h)

pub no_route : (at : Option Route) → is_route at ≡ true → at ≡ None → ⊥
no_route None h e = absurd (cc h)
no_route (Some route) h e = absurd (cc e)

pub no_place : (place : Option ℕ) (lane : SubscriberLaneState) → is_route (route_at place lane) ≡ true → place ≡ None → ⊥
no_place None lane h e = absurd (cc h)
no_place (Some place) lane h e = absurd (cc e)

subscriber_starts : (moments : ℕ) (finished : List FinishedCall) (who : ℕ) (c : Call) (lane : SubscriberLaneState)
    → subscriber_fits lane (Begin c) ≡ true → moments < 2 ^ 63 → All (IsEnded moments) finished
    → SubscriberFollows (successor moments) finished who (subscriber_begun moments c lane)
subscriber_starts moments finished who call.LoanUninit lane fit bound h
    = absurd (cc (and_right (subscriber_is_idle lane.port.call) (subscriber_may lane call.LoanUninit) fit))
subscriber_starts moments finished who (call.Write loan payload user_header) lane fit bound h
    = absurd (cc (and_right (subscriber_is_idle lane.port.call) (subscriber_may lane (call.Write loan payload user_header)) fit))
subscriber_starts moments finished who (call.Send loan) lane fit bound h
    = absurd (cc (and_right (subscriber_is_idle lane.port.call) (subscriber_may lane (call.Send loan)) fit))
subscriber_starts moments finished who (call.DropLoan loan) lane fit bound h
    = absurd (cc (and_right (subscriber_is_idle lane.port.call) (subscriber_may lane (call.DropLoan loan)) fit))
subscriber_starts moments finished who call.Receive lane fit bound h = (
  receive_stage name.Receive 0 (is_full_at lane.port.borrowed lane.port.most_borrowed 0) false (slice_get lane.port.routes 0) refl,
  λ busy. fresh_hand (Subscriber who) moments finished bound h,
)
subscriber_starts moments finished who (call.Read sample) lane fit bound h = (
  read_stage (name.Read sample) sample 0 lane.port.extent
      (nat_lt 0 (3 + lane.port.extent.user_header_words + lane.port.extent.payload_words)) refl,
  λ busy. fresh_hand (Subscriber who) moments finished bound h,
)
subscriber_starts moments finished who (call.Release sample) lane fit bound h =
    let may : is_route (route_at (place_of sample lane) lane) ≡ true
    = and_right (subscriber_is_idle lane.port.call) (subscriber_may lane (call.Release sample)) fit in
    release_starts moments finished who sample (place_of sample lane) (route_at (place_of sample lane) lane) lane
    (no_route (route_at (place_of sample lane) lane) may) (no_place (place_of sample lane) lane may) bound h

publisher_waits : (moments : ℕ) (finished : List FinishedCall) (place : ℕ) (lane : PublisherLaneState) → moments < 2 ^ 63
    → PublisherFollows moments finished place lane → PublisherFollows (successor moments) finished place lane
publisher_waits moments finished place lane bound h
    = (h.0, λ busy. hand_later (Publisher place) lane.first moments (successor moments) finished (next_le moments bound) (h.1 busy))

subscriber_waits : (moments : ℕ) (finished : List FinishedCall) (place : ℕ) (lane : SubscriberLaneState) → moments < 2 ^ 63
    → SubscriberFollows moments finished place lane → SubscriberFollows (successor moments) finished place lane
subscriber_waits moments finished place lane bound h
    = (h.0, λ busy. hand_later (Subscriber place) lane.first moments (successor moments) finished (next_le moments bound) (h.1 busy))

begun_publisher : (m : World) (place : ℕ) (c : Call) (at : Option PublisherLaneState) → slice_get m.publishers place ≡ at
    → publisher_fits_at at (Begin c) ≡ true → m.moments < 2 ^ 63 → CallsFollow m → CallsFollow (publisher_begins m place c at)
begun_publisher m place c None e fit bound k = absurd (cc)
begun_publisher m place c (Some lane) e fit bound k = record {
  ended = ended_later m.moments (successor m.moments) m.finished (next_le m.moments bound) k.ended;
  in_turn = k.in_turn;
  publishers = λ i other got. elim (eqb_tells i place) [
    | inl same ↦ subst (λ (j : ℕ). PublisherFollows (successor m.moments) m.finished j other) (sym same.1)
        (subst (PublisherFollows (successor m.moments) m.finished place)
        (sym (set_is m.publishers place i lane (publisher_begun m.moments c lane) other e same.1 got))
        (publisher_starts m.moments m.finished place c lane fit bound k.ended))
    | inr differs ↦ publisher_waits m.moments m.finished i other bound
        (k.publishers i other (sym (set_other m.publishers place i (publisher_begun m.moments c lane) differs.1) ∙ got))
  ];
  subscribers = λ i other got. subscriber_waits m.moments m.finished i other bound (k.subscribers i other got);
}

begun_subscriber : (m : World) (place : ℕ) (c : Call) (at : Option SubscriberLaneState) → slice_get m.subscribers place ≡ at
    → subscriber_fits_at at (Begin c) ≡ true → m.moments < 2 ^ 63 → CallsFollow m → CallsFollow (subscriber_begins m place c at)
begun_subscriber m place c None e fit bound k = absurd (cc)
begun_subscriber m place c (Some lane) e fit bound k = record {
  ended = ended_later m.moments (successor m.moments) m.finished (next_le m.moments bound) k.ended;
  in_turn = k.in_turn;
  publishers = λ i other got. publisher_waits m.moments m.finished i other bound (k.publishers i other got);
  subscribers = λ i other got. elim (eqb_tells i place) [
    | inl same ↦ subst (λ (j : ℕ). SubscriberFollows (successor m.moments) m.finished j other) (sym same.1)
        (subst (SubscriberFollows (successor m.moments) m.finished place)
        (sym (set_is m.subscribers place i lane (subscriber_begun m.moments c lane) other e same.1 got))
        (subscriber_starts m.moments m.finished place c lane fit bound k.ended))
    | inr differs ↦ subscriber_waits m.moments m.finished i other bound
        (k.subscribers i other (sym (set_other m.subscribers place i (subscriber_begun m.moments c lane) differs.1) ∙ got))
  ];
}

same_publisher : (i j : ℕ) → Publisher i ≡ Publisher j → i ≡ j
same_publisher i j e = cc e

same_subscriber : (i j : ℕ) → Subscriber i ≡ Subscriber j → i ≡ j
same_subscriber i j e = cc e

gone_publisher : (m : World) (place : ℕ) (orders : List (List Placed)) (at : Option PublisherLaneState)
    → slice_get m.publishers place ≡ at → publisher_fits_at at GoOn ≡ true → m.moments < 2 ^ 63 → CallsFollow m
    → CallsFollow (publisher_goes_on (record m { orders = orders }) place at)
gone_publisher m place orders None e fit bound k = absurd (cc)
gone_publisher m place orders (Some lane) e fit bound k =
    let was : PublisherFollows m.moments m.finished place lane = k.publishers place lane e in
    let hand : IsInHand (Publisher place) lane.first m.moments m.finished = was.1 (not_true (publisher_is_idle lane.port.call) fit) in
    let a : Option Answer = publisher_ending m.table lane in
    let g : Grown (successor m.moments) (m.finished ++ ended (Publisher place) lane.call lane.first m.moments a) =
    grow m.moments m.finished (Publisher place) lane.call lane.first a bound hand
    (publisher_kind lane.fails lane.call lane.port.call (publisher_after (publisher_given m.table lane) lane).port.book.answer
    was.0) k.ended k.in_turn in
    record {
      ended = g.ended_all;
      in_turn = g.in_turn;
      publishers = λ i other got. elim (eqb_tells i place) [
        | inl same ↦ subst (λ (j : ℕ). PublisherFollows (successor m.moments)
            (m.finished ++ ended (Publisher place) lane.call lane.first m.moments a) j other) (sym same.1)
            (subst (PublisherFollows (successor m.moments) (m.finished ++ ended (Publisher place) lane.call lane.first m.moments a) place)
            (sym (set_is m.publishers place i lane (publisher_after (publisher_given m.table lane) lane) other e same.1 got)) (
              take_stage lane.call lane.port.routes (words_of lane.port) lane.port.call (publisher_given m.table lane) was.0,
              λ busy. same_hand (Publisher place) (Publisher place) lane.first m.moments m.finished lane.call lane.first m.moments a bound
                  (publisher_silent lane.fails lane.port.routes (words_of lane.port) lane.port.call (publisher_given m.table lane)
                  (publisher_after (publisher_given m.table lane) lane).port.book.answer busy) hand,
            ))
        | inr differs ↦
            let old = k.publishers i other (sym
            (set_other m.publishers place i (publisher_after (publisher_given m.table lane) lane) differs.1) ∙ got) in (
              old.0,
              λ busy. others_hand (Publisher i) (Publisher place) other.first m.moments m.finished lane.call lane.first m.moments a
                  bound (λ same. differs.1 (sym (same_publisher place i same))) (old.1 busy),
            )
      ];
      subscribers = λ i other got. let old = k.subscribers i other got in (
        old.0,
        λ busy. others_hand (Subscriber i) (Publisher place) other.first m.moments m.finished lane.call lane.first m.moments a bound
            (λ same. absurd (cc same)) (old.1 busy),
      );
    }

gone_subscriber : (m : World) (place : ℕ) (orders : List (List Placed)) (at : Option SubscriberLaneState)
    → slice_get m.subscribers place ≡ at → subscriber_fits_at at GoOn ≡ true → m.moments < 2 ^ 63 → CallsFollow m
    → CallsFollow (subscriber_goes_on (record m { orders = orders }) place at)
gone_subscriber m place orders None e fit bound k = absurd (cc)
gone_subscriber m place orders (Some lane) e fit bound k =
    let was : SubscriberFollows m.moments m.finished place lane = k.subscribers place lane e in
    let hand : IsInHand (Subscriber place) lane.first m.moments m.finished = was.1 (not_true (subscriber_is_idle lane.port.call) fit) in
    let a : Option Answer = subscriber_answer lane.port.call (length m.read) in
    let taken : (subscriber_after (subscriber_given m.table lane) lane).port.call
    ≡ subscriber_take lane.port.routes lane.port.borrowed lane.port.most_borrowed lane.port.call (subscriber_given m.table lane) =
    (changed_routes (subscriber_change lane.port.call (subscriber_given m.table lane)) _).1 in
    let g : Grown (successor m.moments) (m.finished ++ ended (Subscriber place) lane.call lane.first m.moments a) =
    grow m.moments m.finished (Subscriber place) lane.call lane.first a bound hand
    (subscriber_kind lane.call lane.port.call (length m.read) was.0) k.ended k.in_turn in
    record {
      ended = g.ended_all;
      in_turn = g.in_turn;
      publishers = λ i other got. let old = k.publishers i other got in (
        old.0,
        λ busy. others_hand (Publisher i) (Subscriber place) other.first m.moments m.finished lane.call lane.first m.moments a bound
            (λ same. absurd (cc same)) (old.1 busy),
      );
      subscribers = λ i other got. elim (eqb_tells i place) [
        | inl same ↦ subst (λ (j : ℕ). SubscriberFollows (successor m.moments)
            (m.finished ++ ended (Subscriber place) lane.call lane.first m.moments a) j other) (sym same.1)
            (subst (SubscriberFollows (successor m.moments) (m.finished ++ ended (Subscriber place) lane.call lane.first m.moments a) place)
            (sym (set_is m.subscribers place i lane (subscriber_after (subscriber_given m.table lane) lane) other e same.1 got)) (
              subst (IsReceiverStageOf lane.call) (sym taken)
                  (take_receiver lane.call lane.port.routes lane.port.borrowed lane.port.most_borrowed lane.port.call
                  (subscriber_given m.table lane) was.0),
              λ busy. same_hand (Subscriber place) (Subscriber place) lane.first m.moments m.finished lane.call lane.first m.moments a bound
                  (subscriber_silent lane.port.routes lane.port.borrowed lane.port.most_borrowed lane.port.call
                  (subscriber_given m.table lane) (length m.read) (sym (ap subscriber_is_idle taken) ∙ busy)) hand,
            ))
        | inr differs ↦
            let old = k.subscribers i other (sym
            (set_other m.subscribers place i (subscriber_after (subscriber_given m.table lane) lane) differs.1) ∙ got) in (
              old.0,
              λ busy. others_hand (Subscriber i) (Subscriber place) other.first m.moments m.finished lane.call lane.first m.moments a
                  bound (λ same. differs.1 (sym (same_subscriber place i same))) (old.1 busy),
            )
      ];
    }

pub happens_calls : (m : World) (party : Party) (step : Move) → fits m party step ≡ true → m.moments < 2 ^ 63 → CallsFollow m
    → CallsFollow (happens m party step)
happens_calls m (Publisher place) (Begin c) fit bound k = begun_publisher m place c (slice_get m.publishers place) refl fit bound k
happens_calls m (Subscriber place) (Begin c) fit bound k = begun_subscriber m place c (slice_get m.subscribers place) refl fit bound k
happens_calls m (Publisher place) GoOn fit bound k = gone_publisher m place _ (slice_get m.publishers place) refl fit bound k
happens_calls m (Subscriber place) GoOn fit bound k = gone_subscriber m place _ (slice_get m.subscribers place) refl fit bound k

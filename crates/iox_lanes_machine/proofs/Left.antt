-- Every step keeps that what a write or a send stored is in its slot.
use Rattle.std.proofs.Common.{ℕ, ◌≡◌, ◌+◌, ◌-◌, ◌<◌, ◌≤◌, ◌^◌, Bool, true, false, if◌then◌else◌, nat_lt, List, [], ◌∷◌, ◌++◌, length, set}
use Rattle.std.proofs.Common.{get_or, slice_get, Option, Some, None, refl, sym, ◌∙◌, ap, subst, inl, inr, arith}
use Rattle.std.proofs.lemmas.Bool.{cases_lt, ltb-true, ltb-false}
use Rattle.std.proofs.lemmas.Bool.Decides.{eqb_tells}
use Rattle.std.proofs.lemmas.List.{get_or-set_same, get_or-set_other}
use Rattle.std.proofs.lemmas.Option.{get_or_from_slice_get, slice_get-get_or}
use Rattle.iox_lanes_machine.specs.QueuesSteps.Access.{successor}
use Rattle.iox_lanes_machine.specs.QueuesSteps.declared.order.Placed.{Placed}
use Rattle.iox_lanes_machine.specs.QueuesSteps.declared.order.PushAnswer.{PushAnswer}
use Rattle.iox_lanes_machine.specs.QueuesSteps.declared.order.PopAnswer.{PopAnswer}
use Rattle.iox_lanes_machine.specs.QueuesSteps.declared.order.PopAnswer.TheVariants.{Got, Saw}
use Rattle.iox_lanes_machine.specs.QueuesSteps.declared.schedule.Stepped.{Stepped}
use Rattle.iox_lanes_machine.specs.QueuesSteps.declared.schedule.Stepped.TheVariants as stepped
use Rattle.iox_lanes_machine.specs.QueuesSteps.Refusing as refusing
use Rattle.iox_lanes_machine.specs.QueuesSteps.declared.rings.refusing.pop.Pop as refusing_pop_type
use Rattle.iox_lanes_machine.specs.QueuesSteps.Ends.{push_take}
use Rattle.iox_lanes_machine.specs.QueuesSteps.declared.rings.ends.Push.{Push}
use Rattle.iox_lanes_machine.specs.LanesBase.Numbers.{words_of as all_words, IsWord, IsSlotWord, number_of}
use Rattle.iox_lanes_machine.specs.LanesBase.Table.{TableWords, held_by, stored_in, shared_answer, after_shared}
use Rattle.iox_lanes_machine.specs.LanesBase.declared.words.sizes.TableSizes.{TableSizes}
use Rattle.iox_lanes_machine.specs.LanesBase.declared.words.word.SharedWord.{SharedWord}
use Rattle.iox_lanes_machine.specs.LanesBase.declared.words.word.SharedWord.TheVariants.{Slot}
use Rattle.iox_lanes_machine.specs.LanesBase.declared.words.word.SlotWord.TheVariants.{Header, UserHeader, Payload}
use Rattle.iox_lanes_machine.proofs.LanesBase.Numbering.{apart, within}
use Rattle.iox_lanes_machine.specs.LanesBase.Answers.{push_answer, refusing_pop_answer}
use Rattle.iox_lanes_machine.specs.LanesBase.Publishing.{header_word, publisher_is_over, publisher_next, publisher_take, loan_from}
use Rattle.iox_lanes_machine.specs.LanesBase.Publishing.{loan_reclaimed, write_from, head_from, push_from, sweep_from, send_reclaimed}
use Rattle.iox_lanes_machine.specs.LanesBase.Publishing.{pushed, counted, nothing_sent}
use Rattle.iox_lanes_machine.specs.LanesBase.Subscribing.{subscriber_next}
use Rattle.iox_lanes_machine.specs.LanesBase.declared.calls.publisher.Delivery.{Delivery}
use Rattle.iox_lanes_machine.specs.LanesBase.declared.calls.publisher.PublisherCall.{PublisherCall}
use Rattle.iox_lanes_machine.specs.LanesBase.declared.calls.publisher.PublisherCall.TheVariants as publishing
use Rattle.iox_lanes_machine.specs.LanesBase.declared.calls.route.Route.{Route}
use Rattle.iox_lanes_machine.specs.LanesParties.PublisherKeeping.{BookState, loan_of}
use Rattle.iox_lanes_machine.specs.LanesParties.Publishers.{words_of}
use Rattle.iox_lanes_machine.specs.LanesParties.Parties.{PublisherLaneState, SubscriberLaneState, is_out, publisher_fits, publisher_begun}
use Rattle.iox_lanes_machine.specs.LanesParties.Parties.{publisher_after, head_of}
use Rattle.iox_lanes_machine.specs.LanesParties.Within.{IsPublisher, IsPublishing}
use Rattle.iox_lanes_machine.specs.LanesParties.declared.call.Call.{Call}
use Rattle.iox_lanes_machine.specs.LanesParties.declared.call.Call.TheVariants as call
use Rattle.iox_lanes_machine.specs.LanesParties.declared.call.CallName.{CallName}
use Rattle.iox_lanes_machine.specs.LanesParties.declared.call.CallName.TheVariants as name
use Rattle.iox_lanes_machine.specs.LanesParties.declared.call.FinishedCall.{FinishedCall}
use Rattle.iox_lanes_machine.specs.LanesParties.declared.call.Move.{Move}
use Rattle.iox_lanes_machine.specs.LanesParties.declared.call.Move.TheVariants.{Begin, GoOn}
use Rattle.iox_lanes_machine.specs.LanesParties.declared.call.Party.{Party}
use Rattle.iox_lanes_machine.specs.LanesParties.declared.call.Party.TheVariants.{Publisher, Subscriber}
use Rattle.iox_lanes_machine.proofs.LanesParties.Rings.{all_at}
use Rattle.iox_lanes_machine.proofs.LanesParties.PublishersWithin.{publishers_stay_within}
use Rattle.iox_lanes_machine.specs.Sending.{IsSending, SendsLacking}
use Rattle.iox_lanes_machine.specs.Calls.{IsStageOf, CallsFollow}
use Rattle.iox_lanes_machine.specs.Kept.{IsWithin}
use Rattle.iox_lanes_machine.specs.Left.{HoldsPayload, HoldsHead, HoldsAllHead, StoresHeld, StoresHold, StoresLeft}
use Rattle.iox_lanes_machine.specs.Slots.{IsLoanOf, SlotsStay, StandsAtLoan, LoansStand}
use Rattle.iox_lanes_machine.specs.Told.{BegunCall, begun, call_of, publisher_call, Told, EndTold}
use Rattle.iox_lanes_machine.specs.Uses.{PublisherUses, UsesKept}
use Rattle.iox_lanes_machine.specs.World.{World, happens, ends, publisher_ends_at, StepsTo, publisher_fits_at, publisher_given}
use Rattle.iox_lanes_machine.specs.World.{publisher_begins, publisher_goes_on, subscriber_begins, subscriber_goes_on, placed, fits}
use Rattle.iox_lanes_machine.proofs.Alone.{only_one, loan_within}
use Rattle.iox_lanes_machine.proofs.Calls.{set_is}
use Rattle.iox_lanes_machine.proofs.Ends.{some_is}
use Rattle.iox_lanes_machine.proofs.Held.{same_last, none_more}
use Rattle.iox_lanes_machine.proofs.Slots.{loans_apart}
use Rattle.iox_lanes_machine.proofs.Within.{set_other, sizes_stay}

-- a word that was stored, and any other
stored_word : (table : TableWords) (word : SharedWord) (value : ℕ) → IsWord table.sizes word
    → length table.words ≡ all_words table.sizes → held_by (stored_in table word value) word ≡ value
stored_word table word value is size
    = get_or-set_same table.words (number_of table.sizes word) value 0 (omega (arith, (within table.sizes word is).1, size))

stored_other : (table : TableWords) (word other : SharedWord) (value : ℕ) → IsWord table.sizes word → IsWord table.sizes other
    → (other ≡ word → ⊥) → held_by (stored_in table word value) other ≡ held_by table other
stored_other table word other value is is' not
    = get_or-set_other table.words (number_of table.sizes word) (number_of table.sizes other) value 0
    (λ e. not (apart table.sizes other word is' is e))

-- a slot has each word of its header and user header
head_is : (sizes : TableSizes) (word : ℕ) (b : Bool) → nat_lt word 3 ≡ b → word < 3 + sizes.user_header_words
    → IsSlotWord sizes (if b then Header word else UserHeader (word - 3))
head_is sizes word true e h = ltb-true word 3 e
head_is sizes word false e h = omega (arith, ltb-false word 3 e, h)

head_apart : (one other : ℕ) (b d : Bool) → nat_lt one 3 ≡ b → nat_lt other 3 ≡ d
    → (if b then Header one else UserHeader (one - 3)) ≡ (if d then Header other else UserHeader (other - 3)) → one ≡ other
head_apart one other true true e f h = cc h
head_apart one other true false e f h = absurd (cc h)
head_apart one other false true e f h = absurd (cc h)
head_apart one other false false e f h =
    let same : one - 3 ≡ other - 3 = cc h in
    omega (arith, same, ltb-false one 3 e, ltb-false other 3 f)

slot_apart : (slot : ℕ) (one other : ℕ) → Slot slot (header_word one) ≡ Slot slot (header_word other) → one ≡ other
slot_apart slot one other h = head_apart one other (nat_lt one 3) (nat_lt other 3) refl refl (cc h)

next_le : (n : ℕ) → successor n ≤ n + 1
next_le n = omega arith

-- one word more of a payload
more_payload : (table : TableWords) (slot word value : ℕ) (payload : List ℕ) → slot < table.sizes.slots
    → word < table.sizes.payload_words → length table.words ≡ all_words table.sizes → value ≡ get_or payload word 0
    → HoldsPayload table slot word payload
    → HoldsPayload (stored_in table (Slot slot (Payload word)) value) slot (word + 1) payload
more_payload table slot word value payload there room size is h = λ at below. elim (eqb_tells at word) [
  | inl same ↦ ap (λ (k : ℕ). get_or payload k 0) same.1 ∙ sym is ∙ sym
      (stored_word table (Slot slot (Payload word)) value (there, room) size) ∙ ap
      (λ (k : ℕ). held_by (stored_in table (Slot slot (Payload word)) value) (Slot slot (Payload k))) (sym same.1)
  | inr other ↦
      let less : at < word = omega (arith, below, other.1) in
      let apart_from : Slot slot (Payload at) ≡ Slot slot (Payload word) → ⊥ = λ e. other.1 (cc e) in
      h at less ∙ sym (stored_other table (Slot slot (Payload word)) (Slot slot (Payload at)) value (there, room)
      (there, omega (arith, less, room)) apart_from)
]

more_head : (table : TableWords) (slot word value : ℕ) (head : List ℕ) → slot < table.sizes.slots
    → word < 3 + table.sizes.user_header_words → length table.words ≡ all_words table.sizes → value ≡ get_or head word 0
    → HoldsHead table slot word head
    → HoldsHead (stored_in table (Slot slot (header_word word)) value) slot (word + 1) head
more_head table slot word value head there room size is h = λ at below.
    let here : IsWord table.sizes (Slot slot (header_word word)) = (there, head_is table.sizes word (nat_lt word 3) refl room) in
    elim (eqb_tells at word) [
      | inl same ↦ ap (λ (k : ℕ). get_or head k 0) same.1 ∙ sym is ∙ sym
          (stored_word table (Slot slot (header_word word)) value here size) ∙ ap
          (λ (k : ℕ). held_by (stored_in table (Slot slot (header_word word)) value) (Slot slot (header_word k))) (sym same.1)
      | inr other ↦
          let less : at < word = omega (arith, below, other.1) in
          h at less ∙ sym (stored_other table (Slot slot (header_word word)) (Slot slot (header_word at)) value here
          (there, head_is table.sizes at (nat_lt at 3) refl (omega (arith, less, room))) (λ e. other.1 (slot_apart slot at word e)))
    ]

past : (xs : List ℕ) (i : ℕ) → slice_get xs i ≡ None → length xs ≤ i
past xs i e = elim (cases_lt i (length xs)) [
  | inl lt ↦ absurd (cc (sym (slice_get-get_or xs i 0 lt) ∙ e))
  | inr ge ↦ ge
]

-- a write goes to its next word, or ends
write_stores : (table : TableWords) (sends : Bool) (payload head : List ℕ) (slot word : ℕ) (at : Option ℕ) → slice_get payload word ≡ at
    → sends ≡ false → table.sizes.payload_words ≤ length payload → HoldsPayload table slot word payload
    → StoresHeld table sends payload head (write_from slot word at)
write_stores table sends payload head slot word None e s wide h = λ k below. h k (omega (arith, past payload word e, wide, below))
write_stores table sends payload head slot word (Some value) e s wide h = (s, sym (get_or_from_slice_get payload word value 0 e), h)

head_stores : (table : TableWords) (sends : Bool) (payload head : List ℕ) (slot word : ℕ) (at : Option ℕ) → slice_get head word ≡ at
    → sends ≡ true → 3 + table.sizes.user_header_words ≤ length head → HoldsHead table slot word head
    → StoresHeld table sends payload head (head_from slot word at)
head_stores table sends payload head slot word None e s wide h = λ k below. h k (omega (arith, past head word e, wide, below))
head_stores table sends payload head slot word (Some value) e s wide h = (s, sym (get_or_from_slice_get head word value 0 e), h)

-- a send that pushes or takes back leaves its slot
push_stores : (table : TableWords) (sends : Bool) (payload head : List ℕ) (slot place : ℕ) (delivery : Delivery) (at : Option Route)
    → HoldsAllHead table slot head → StoresHeld table sends payload head (push_from slot place delivery at)
push_stores table sends payload head slot place delivery None h = h
push_stores table sends payload head slot place delivery (Some route) h = h

sweep_stores : (table : TableWords) (sends : Bool) (payload head : List ℕ) (routes : List Route) (slot place : ℕ) (at : Option Route)
    → HoldsAllHead table slot head → StoresHeld table sends payload head (sweep_from routes slot place at)
sweep_stores table sends payload head routes slot place None h
    = push_stores table sends payload head slot 0 nothing_sent (slice_get routes 0) h
sweep_stores table sends payload head routes slot place (Some route) h = h

swept_stores : (table : TableWords) (sends : Bool) (payload head : List ℕ) (routes : List Route) (slot place : ℕ) (route : Route)
    (p : refusing_pop_type.Pop) (a : Option PopAnswer) → HoldsAllHead table slot head
    → StoresHeld table sends payload head (send_reclaimed routes slot place route p a)
swept_stores table sends payload head routes slot place route p None h = h
swept_stores table sends payload head routes slot place route p (Some (Got (Some back))) h = h
swept_stores table sends payload head routes slot place route p (Some (Got None)) h
    = sweep_stores table sends payload head routes slot (successor place) (slice_get routes (successor place)) h
swept_stores table sends payload head routes slot place route p (Some (Saw some)) h
    = sweep_stores table sends payload head routes slot (successor place) (slice_get routes (successor place)) h

pushed_stores : (table : TableWords) (sends : Bool) (payload head : List ℕ) (routes : List Route) (slot place : ℕ) (route : Route)
    (p : Push) (delivery : Delivery) (a : Option PushAnswer) → HoldsAllHead table slot head
    → StoresHeld table sends payload head (pushed routes slot place route p delivery a)
pushed_stores table sends payload head routes slot place route p delivery None h = h
pushed_stores table sends payload head routes slot place route p delivery (Some answer) h
    = push_stores table sends payload head slot (successor place) (counted delivery answer) (slice_get routes (successor place)) h

loan_stores : (table : TableWords) (sends : Bool) (payload head : List ℕ) (place : ℕ) (at : Option Route)
    → StoresHeld table sends payload head (loan_from place at)
loan_stores table sends payload head place None = tt
loan_stores table sends payload head place (Some route) = tt

loaned_stores : (table : TableWords) (sends : Bool) (payload head : List ℕ) (routes : List Route) (place : ℕ) (route : Route)
    (p : refusing_pop_type.Pop) (a : Option PopAnswer) → StoresHeld table sends payload head (loan_reclaimed routes place route p a)
loaned_stores table sends payload head routes place route p None = tt
loaned_stores table sends payload head routes place route p (Some (Got (Some slot))) = tt
loaned_stores table sends payload head routes place route p (Some (Got None))
    = loan_stores table sends payload head (successor place) (slice_get routes (successor place))
loaned_stores table sends payload head routes place route p (Some (Saw some))
    = loan_stores table sends payload head (successor place) (slice_get routes (successor place))

-- a send that pushes or takes back is one of this slot
abbrev SendsAt : ℕ → PublisherCall → Type 0
SendsAt slot publishing.Idle = ⊥
SendsAt slot (publishing.LoanReclaims place route p) = ⊥
SendsAt slot publishing.Lending = ⊥
SendsAt slot (publishing.Writing own word value) = ⊥
SendsAt slot (publishing.Written own) = ⊥
SendsAt slot (publishing.Heading own word value) = ⊥
SendsAt slot (publishing.Remembering own) = ⊥
SendsAt slot (publishing.SendReclaims own place route p) = own ≡ slot
SendsAt slot (publishing.Pushing own place route p delivery) = own ≡ slot
SendsAt slot (publishing.Sent own delivery) = own ≡ slot
SendsAt slot (publishing.Dropping own) = ⊥

-- every step of the publisher itself; a step of a ring leaves the words of the slot that is sent
own_stores : (table : TableWords) (routes : List Route) (sends : Bool) (payload head : List ℕ) (c : PublisherCall)
    → length table.words ≡ all_words table.sizes → length payload ≡ table.sizes.payload_words
    → length head ≡ 3 + table.sizes.user_header_words
    → IsPublishing table.sizes routes (if sends then head else payload) c
    → ((slot : ℕ) → HoldsAllHead table slot head → SendsAt slot c → HoldsAllHead (after_shared table (publisher_next c)) slot head)
    → StoresHeld table sends payload head c
    → StoresHeld (after_shared table (publisher_next c)) sends payload head
    (publisher_take routes (if sends then head else payload) c (shared_answer table (publisher_next c)))
own_stores table routes sends payload head publishing.Idle size wide high is stay h = tt
own_stores table routes sends payload head (publishing.LoanReclaims place route p) size wide high is stay h =
    loaned_stores (after_shared table (publisher_next (publishing.LoanReclaims place route p))) sends payload head routes place route
    (refusing.pop_take p (shared_answer table (publisher_next (publishing.LoanReclaims place route p))))
    (refusing_pop_answer (refusing.pop_take p (shared_answer table (publisher_next (publishing.LoanReclaims place route p)))))
own_stores table routes sends payload head publishing.Lending size wide high is stay h = tt
own_stores table routes sends payload head (publishing.Writing slot word value) size wide high is stay h =
    let now : HoldsPayload (stored_in table (Slot slot (Payload word)) value) slot (word + 1) payload
    = more_payload table slot word value payload is.0 is.1 size h.1 h.2 in
    subst (λ (b : Bool). StoresHeld (stored_in table (Slot slot (Payload word)) value) sends payload head
    (write_from slot (successor word) (slice_get (if b then head else payload) (successor word)))) (sym h.0)
    (write_stores (stored_in table (Slot slot (Payload word)) value) sends payload head slot (successor word)
    (slice_get payload (successor word)) refl h.0 (omega (arith, wide)) (λ k below. now k (omega (arith, below, next_le word))))
own_stores table routes sends payload head (publishing.Written slot) size wide high is stay h = tt
own_stores table routes sends payload head (publishing.Heading slot word value) size wide high is stay h =
    let now : HoldsHead (stored_in table (Slot slot (header_word word)) value) slot (word + 1) head
    = more_head table slot word value head is.0 is.1 size h.1 h.2 in
    subst (λ (b : Bool). StoresHeld (stored_in table (Slot slot (header_word word)) value) sends payload head
    (head_from slot (successor word) (slice_get (if b then head else payload) (successor word)))) (sym h.0)
    (head_stores (stored_in table (Slot slot (header_word word)) value) sends payload head slot (successor word)
    (slice_get head (successor word)) refl h.0 (omega (arith, high)) (λ k below. now k (omega (arith, below, next_le word))))
own_stores table routes sends payload head (publishing.Remembering slot) size wide high is stay h
    = sweep_stores table sends payload head routes slot 0 (slice_get routes 0) h
own_stores table routes sends payload head (publishing.SendReclaims slot place route p) size wide high is stay h =
    swept_stores (after_shared table (publisher_next (publishing.SendReclaims slot place route p))) sends payload head routes slot place
    route (refusing.pop_take p (shared_answer table (publisher_next (publishing.SendReclaims slot place route p))))
    (refusing_pop_answer (refusing.pop_take p (shared_answer table (publisher_next (publishing.SendReclaims slot place route p)))))
    (stay slot h refl)
own_stores table routes sends payload head (publishing.Pushing slot place route p delivery) size wide high is stay h =
    pushed_stores (after_shared table (publisher_next (publishing.Pushing slot place route p delivery))) sends payload head routes slot
    place route (push_take p (shared_answer table (publisher_next (publishing.Pushing slot place route p delivery)))) delivery
    (push_answer (push_take p (shared_answer table (publisher_next (publishing.Pushing slot place route p delivery))))) (stay slot h refl)
own_stores table routes sends payload head (publishing.Sent slot delivery) size wide high is stay h = tt
own_stores table routes sends payload head (publishing.Dropping slot) size wide high is stay h = tt

-- a slot that is no loan of the party that steps keeps its header and its payload
head_stays : (m n : World) (party : Party) (slot words : ℕ) (head : List ℕ) → SlotsStay m party n → (IsLoanOf m party slot → ⊥)
    → slot < m.table.sizes.slots → words ≤ 3 + m.table.sizes.user_header_words → HoldsHead m.table slot words head
    → HoldsHead n.table slot words head
head_stays m n party slot words head stay not there le h
    = λ word below. h word below ∙ sym
    (stay slot (header_word word) (there, head_is m.table.sizes word (nat_lt word 3) refl (omega (arith, below, le))) not)

all_head_stays : (m n : World) (party : Party) (slot : ℕ) (head : List ℕ) → n.table.sizes ≡ m.table.sizes → SlotsStay m party n
    → (IsLoanOf m party slot → ⊥) → slot < m.table.sizes.slots → HoldsAllHead m.table slot head → HoldsAllHead n.table slot head
all_head_stays m n party slot head e stay not there h =
    subst (λ (sizes : TableSizes). HoldsHead n.table slot (3 + sizes.user_header_words) head) (sym e)
    (head_stays m n party slot (3 + m.table.sizes.user_header_words) head stay not there (omega arith) h)

payload_stays : (m n : World) (party : Party) (slot words : ℕ) (payload : List ℕ) → SlotsStay m party n → (IsLoanOf m party slot → ⊥)
    → slot < m.table.sizes.slots → words ≤ m.table.sizes.payload_words → HoldsPayload m.table slot words payload
    → HoldsPayload n.table slot words payload
payload_stays m n party slot words payload stay not there le h
    = λ word below. h word below ∙ sym (stay slot (Payload word) (there, omega (arith, below, le)) not)

-- what a step of another party wants of the slots of a publisher: none of them is its loan
record Spares (m : World) (party : Party) (who : ℕ) (lane : PublisherLaneState) : Type 0 where
  loans : (slot : ℕ) → is_out (loan_of slot lane.port.book) ≡ true → IsLoanOf m party slot → ⊥
  others : (slot : ℕ) → IsSending lane.port.book slot → IsLoanOf m party slot → ⊥

-- the slot of a call is one of the service
loan_slot : (m : World) (who slot : ℕ) (lane : PublisherLaneState) → slice_get m.publishers who ≡ Some lane → IsWithin m
    → is_out (loan_of slot lane.port.book) ≡ true → slot < m.table.sizes.slots
loan_slot m who slot lane found w out =
    let own = loan_within m who slot (record { lane = lane; found = found; out = out }) in
    let is : IsPublisher m.table.sizes lane = all_at (IsPublisher m.table.sizes) m.publishers who lane found w.publishers in
    omega (arith, own.1, is.slots)

sending_slot : (m : World) (who slot : ℕ) (lane : PublisherLaneState) → slice_get m.publishers who ≡ Some lane → IsWithin m
    → PublisherUses m lane → IsSending lane.port.book slot → slot < m.table.sizes.slots
sending_slot m who slot lane found w u s =
    let is : IsPublisher m.table.sizes lane = all_at (IsPublisher m.table.sizes) m.publishers who lane found w.publishers in
    omega (arith, (s.own).below, u.counted.loans_each, is.slots)

others_store : (m n : World) (party : Party) (who : ℕ) (lane : PublisherLaneState) (c : PublisherCall)
    → slice_get m.publishers who ≡ Some lane → IsWithin m → PublisherUses m lane → n.table.sizes ≡ m.table.sizes → SlotsStay m party n
    → Spares m party who lane
    → IsPublishing m.table.sizes lane.port.routes (words_of lane.port) c → StandsAtLoan lane.port.book c
    → SendsLacking (length lane.port.routes) lane.port.book c
    → StoresHeld m.table lane.port.sends lane.port.payload lane.port.head c
    → StoresHeld n.table lane.port.sends lane.port.payload lane.port.head c
others_store m n party who lane publishing.Idle found w u e stay sp is stands sending h = tt
others_store m n party who lane (publishing.LoanReclaims place route p) found w u e stay sp is stands sending h = tt
others_store m n party who lane publishing.Lending found w u e stay sp is stands sending h = tt
others_store m n party who lane (publishing.Writing slot word value) found w u e stay sp is stands sending h =
    (h.0, h.1, payload_stays m n party slot word lane.port.payload stay (sp.loans slot stands) is.0 (omega (arith, is.1)) h.2)
others_store m n party who lane (publishing.Written slot) found w u e stay sp is stands sending h =
    subst (λ (sizes : TableSizes). HoldsPayload n.table slot sizes.payload_words lane.port.payload) (sym e)
    (payload_stays m n party slot m.table.sizes.payload_words lane.port.payload stay (sp.loans slot stands)
    (loan_slot m who slot lane found w stands) (omega arith) h)
others_store m n party who lane (publishing.Heading slot word value) found w u e stay sp is stands sending h =
    (h.0, h.1, head_stays m n party slot word lane.port.head stay (sp.loans slot stands) is.0 (omega (arith, is.1)) h.2)
others_store m n party who lane (publishing.Remembering slot) found w u e stay sp is stands sending h
    = all_head_stays m n party slot lane.port.head e stay (sp.loans slot stands) (loan_slot m who slot lane found w stands) h
others_store m n party who lane (publishing.SendReclaims slot place route p) found w u e stay sp is stands sending h
    = all_head_stays m n party slot lane.port.head e stay (sp.others slot sending.0) (sending_slot m who slot lane found w u sending.0) h
others_store m n party who lane (publishing.Pushing slot place route p delivery) found w u e stay sp is stands sending h
    = all_head_stays m n party slot lane.port.head e stay (sp.others slot sending.0) (sending_slot m who slot lane found w u sending.0) h
others_store m n party who lane (publishing.Sent slot delivery) found w u e stay sp is stands sending h
    = all_head_stays m n party slot lane.port.head e stay (sp.others slot sending) (sending_slot m who slot lane found w u sending) h
others_store m n party who lane (publishing.Dropping slot) found w u e stay sp is stands sending h = tt

other_lane : (m n : World) (party : Party) (who : ℕ) (lane : PublisherLaneState) → slice_get m.publishers who ≡ Some lane → IsWithin m
    → LoansStand m → UsesKept m → n.table.sizes ≡ m.table.sizes → SlotsStay m party n → Spares m party who lane → StoresHold m
    → StoresHeld n.table lane.port.sends lane.port.payload lane.port.head lane.port.call
other_lane m n party who lane found w l u e stay sp h =
    let is : IsPublisher m.table.sizes lane = all_at (IsPublisher m.table.sizes) m.publishers who lane found w.publishers in
    let uses : PublisherUses m lane = u.publishers who lane found in
    others_store m n party who lane lane.port.call found w uses e stay sp is.call (l.stages who lane found) uses.lacking (h who lane found)

-- another publisher spares its slots, and so does each subscriber
spares_publisher : (m : World) (place who : ℕ) (lane : PublisherLaneState) → slice_get m.publishers who ≡ Some lane → (who ≡ place → ⊥)
    → LoansStand m → UsesKept m → Spares m (Publisher place) who lane
spares_publisher m place who lane found not l u = record {
  loans = λ slot out loan. not (loans_apart m l who place slot (record { lane = lane; found = found; out = out }) loan);
  others = λ slot s loan.
      let uses : PublisherUses m lane = u.publishers who lane found in
      not (only_one m place who slot loan lane l found (s.own).above (omega (arith, (s.own).below, uses.counted.loans_each)));
}

spares_subscriber : (m : World) (place who : ℕ) (lane : PublisherLaneState) → Spares m (Subscriber place) who lane
spares_subscriber m place who lane = record { loans = λ slot out loan. loan; others = λ slot s loan. loan }

-- its own send spares it too
own_spares : (m : World) (place : ℕ) (lane : PublisherLaneState) (slot : ℕ) → slice_get m.publishers place ≡ Some lane
    → IsSending lane.port.book slot → IsLoanOf m (Publisher place) slot → ⊥
own_spares m place lane slot found s loan =
    let same : loan.lane ≡ lane = some_is loan.lane lane (sym loan.found ∙ found) in
    cc (sym loan.out ∙ ap (λ (x : PublisherLaneState). is_out (loan_of slot x.port.book)) same ∙ s.not_out)

sends_of : (connections : ℕ) (book : BookState) (slot : ℕ) (c : PublisherCall) → SendsLacking connections book c → SendsAt slot c
    → IsSending book slot
sends_of connections book slot publishing.Idle h at = absurd at
sends_of connections book slot (publishing.LoanReclaims place route p) h at = absurd at
sends_of connections book slot publishing.Lending h at = absurd at
sends_of connections book slot (publishing.Writing own word value) h at = absurd at
sends_of connections book slot (publishing.Written own) h at = absurd at
sends_of connections book slot (publishing.Heading own word value) h at = absurd at
sends_of connections book slot (publishing.Remembering own) h at = absurd at
sends_of connections book slot (publishing.SendReclaims own place route p) h at = subst (IsSending book) at h.0
sends_of connections book slot (publishing.Pushing own place route p delivery) h at = subst (IsSending book) at h.0
sends_of connections book slot (publishing.Sent own delivery) h at = subst (IsSending book) at h
sends_of connections book slot (publishing.Dropping own) h at = absurd at

-- the publisher that steps
gone_own : (m n : World) (place : ℕ) (lane : PublisherLaneState) → slice_get m.publishers place ≡ Some lane
    → n.table ≡ after_shared m.table (publisher_next lane.port.call) → IsWithin m → UsesKept m → SlotsStay m (Publisher place) n
    → StoresHold m
    → StoresHeld n.table (publisher_after (publisher_given m.table lane) lane).port.sends
    (publisher_after (publisher_given m.table lane) lane).port.payload
    (publisher_after (publisher_given m.table lane) lane).port.head (publisher_after (publisher_given m.table lane) lane).port.call
gone_own m n place lane found table w u stay h =
    let is : IsPublisher m.table.sizes lane = all_at (IsPublisher m.table.sizes) m.publishers place lane found w.publishers in
    let uses : PublisherUses m lane = u.publishers place lane found in
    let sizes : n.table.sizes ≡ m.table.sizes
    = ap (λ (t : TableWords). t.sizes) table ∙ (sizes_stay m.table (publisher_next lane.port.call)).0 in
    subst (λ (t : TableWords). StoresHeld t lane.port.sends lane.port.payload lane.port.head
    (publisher_take lane.port.routes (words_of lane.port) lane.port.call (publisher_given m.table lane))) (sym table)
    (own_stores m.table lane.port.routes lane.port.sends lane.port.payload lane.port.head lane.port.call w.words is.payload is.head is.call
    (λ slot all at. let s = sends_of (length lane.port.routes) lane.port.book slot lane.port.call uses.lacking at in
    subst (λ (t : TableWords). HoldsAllHead t slot lane.port.head) table
    (all_head_stays m n (Publisher place) slot lane.port.head sizes stay (own_spares m place lane slot found s)
    (sending_slot m place slot lane found w uses s) all))
    (h place lane found))

-- a begin has stored nothing
begun_own : (m : World) (moment : ℕ) (c : Call) (lane : PublisherLaneState) → publisher_fits lane (Begin c) ≡ true
    → IsPublisher m.table.sizes lane → StoresHeld m.table lane.port.sends lane.port.payload lane.port.head lane.port.call
    → IsPublisher m.table.sizes (publisher_begun moment c lane)
    → StoresHeld m.table (publisher_begun moment c lane).port.sends (publisher_begun moment c lane).port.payload
    (publisher_begun moment c lane).port.head (publisher_begun moment c lane).port.call
begun_own m moment call.LoanUninit lane fit is h after
    = loan_stores m.table lane.port.sends lane.port.payload lane.port.head 0 (slice_get lane.port.routes 0)
begun_own m moment (call.Write loan payload user_header) lane fit is h after
    = write_stores m.table false payload.items lane.port.head loan 0 (slice_get payload.items 0) refl refl
    (omega (arith, after.payload)) (λ k below. absurd (omega (arith, below)))
begun_own m moment (call.Send loan) lane fit is h after
    = head_stores m.table true lane.port.payload (head_of loan lane) loan 0 (slice_get (head_of loan lane) 0) refl refl
    (omega (arith, after.head)) (λ k below. absurd (omega (arith, below)))
begun_own m moment (call.DropLoan loan) lane fit is h after = tt
begun_own m moment call.Receive lane fit is h after = h
begun_own m moment (call.Read sample) lane fit is h after = h
begun_own m moment (call.Release sample) lane fit is h after = h

begun_publisher : (m : World) (place : ℕ) (c : Call) (at : Option PublisherLaneState) → slice_get m.publishers place ≡ at
    → publisher_fits_at at (Begin c) ≡ true → IsWithin m → StoresHold m → StoresHold (publisher_begins m place c at)
begun_publisher m place c None e fit w h = absurd (cc fit)
begun_publisher m place c (Some own) e fit w h = λ who lane found. elim (eqb_tells who place) [
  | inl same ↦
      let now : lane ≡ publisher_begun m.moments c own
      = set_is m.publishers place who own (publisher_begun m.moments c own) lane e same.1 found in
      let is : IsPublisher m.table.sizes own = all_at (IsPublisher m.table.sizes) m.publishers place own e w.publishers in
      subst (λ (x : PublisherLaneState). StoresHeld m.table x.port.sends x.port.payload x.port.head x.port.call) (sym now)
      (begun_own m m.moments c own fit is (h place own e) ((publishers_stay_within m.table.sizes own is).0 m.moments c fit))
  | inr other ↦ h who lane (sym (set_other m.publishers place who (publisher_begun m.moments c own) other.1) ∙ found)
]

gone_publisher : (m n : World) (place : ℕ) (at : Option PublisherLaneState) → slice_get m.publishers place ≡ at
    → publisher_fits_at at GoOn ≡ true → IsWithin m → LoansStand m → UsesKept m → SlotsStay m (Publisher place) n → StoresHold m
    → n.publishers ≡ (publisher_goes_on m place at).publishers → n.table ≡ (publisher_goes_on m place at).table → StoresHold n
gone_publisher m n place None e fit w l u stay h lanes table = absurd (cc fit)
gone_publisher m n place (Some own) e fit w l u stay h lanes table = λ who lane found.
    let got : slice_get (set m.publishers place (publisher_after (publisher_given m.table own) own)) who ≡ Some lane
    = ap (λ (xs : List PublisherLaneState). slice_get xs who) (sym lanes) ∙ found in
    elim (eqb_tells who place) [
      | inl same ↦
          let now : lane ≡ publisher_after (publisher_given m.table own) own
          = set_is m.publishers place who own (publisher_after (publisher_given m.table own) own) lane e same.1 got in
          subst (λ (x : PublisherLaneState). StoresHeld n.table x.port.sends x.port.payload x.port.head x.port.call) (sym now)
          (gone_own m n place own e table w u stay h)
      | inr other ↦
          let was : slice_get m.publishers who ≡ Some lane
          = sym (set_other m.publishers place who (publisher_after (publisher_given m.table own) own) other.1) ∙ got in
          let sizes : n.table.sizes ≡ m.table.sizes
          = ap (λ (t : TableWords). t.sizes) table ∙ (sizes_stay m.table (publisher_next own.port.call)).0 in
          other_lane m n (Publisher place) who lane was w l u sizes stay (spares_publisher m place who lane was other.1 l u) h
    ]

-- what a step of a subscriber leaves of the publishers
subscriber_same : (m : World) (place : ℕ) (orders : List (List Placed)) (at : Option SubscriberLaneState)
    → ((subscriber_goes_on (record m { orders = orders }) place at).table.sizes ≡ m.table.sizes)
    × ((subscriber_goes_on (record m { orders = orders }) place at).publishers ≡ m.publishers)
subscriber_same m place orders None = (refl, refl)
subscriber_same m place orders (Some lane) = ((sizes_stay m.table (subscriber_next lane.port.call)).0, refl)

subscriber_begun_same : (m : World) (place : ℕ) (c : Call) (at : Option SubscriberLaneState)
    → ((subscriber_begins m place c at).table ≡ m.table) × ((subscriber_begins m place c at).publishers ≡ m.publishers)
subscriber_begun_same m place c None = (refl, refl)
subscriber_begun_same m place c (Some lane) = (refl, refl)

publisher_same : (m : World) (place : ℕ) (orders : List (List Placed)) (at : Option PublisherLaneState)
    → ((publisher_goes_on (record m { orders = orders }) place at).publishers ≡ (publisher_goes_on m place at).publishers)
    × ((publisher_goes_on (record m { orders = orders }) place at).table ≡ (publisher_goes_on m place at).table)
publisher_same m place orders None = (refl, refl)
publisher_same m place orders (Some lane) = (refl, refl)

pub happens_left : (m : World) (party : Party) (step : Move) → fits m party step ≡ true → IsWithin m → LoansStand m → UsesKept m
    → SlotsStay m party (happens m party step) → StoresHold m → StoresHold (happens m party step)
happens_left m (Publisher place) (Begin c) fit w l u stay h = begun_publisher m place c (slice_get m.publishers place) refl fit w h
happens_left m (Subscriber place) (Begin c) fit w l u stay h = λ who lane found.
    let same = subscriber_begun_same m place c (slice_get m.subscribers place) in
    subst (λ (t : TableWords). StoresHeld t lane.port.sends lane.port.payload lane.port.head lane.port.call) (sym same.0)
    (h who lane (ap (λ (xs : List PublisherLaneState). slice_get xs who) (sym same.1) ∙ found))
happens_left m (Publisher place) GoOn fit w l u stay h =
    let same = publisher_same m place (placed m (Publisher place)).orders (slice_get m.publishers place) in
    gone_publisher m (happens m (Publisher place) GoOn) place (slice_get m.publishers place) refl fit w l u stay h same.0 same.1
happens_left m (Subscriber place) GoOn fit w l u stay h = λ who lane found.
    let same = subscriber_same m place (placed m (Subscriber place)).orders (slice_get m.subscribers place) in
    let was : slice_get m.publishers who ≡ Some lane = ap (λ (xs : List PublisherLaneState). slice_get xs who) (sym same.1) ∙ found in
    other_lane m (happens m (Subscriber place) GoOn) (Subscriber place) who lane was w l u same.0 stay
    (spares_subscriber m place who lane) h

-- where a call ends, its publisher stands after its last word
write_slot : (call : CallName) (c : PublisherCall) (loan : ℕ) → publisher_is_over c ≡ true → IsStageOf call c → call ≡ name.Write loan
    → c ≡ publishing.Written loan
write_slot call publishing.Idle loan over h e = absurd (cc over)
write_slot call (publishing.LoanReclaims place route p) loan over h e = absurd (cc over)
write_slot call publishing.Lending loan over h e = absurd (cc (sym h ∙ e))
write_slot call (publishing.Writing slot word value) loan over h e = absurd (cc over)
write_slot call (publishing.Written slot) loan over h e = let same : slot ≡ loan
    = cc (sym h ∙ e) in ap (λ (s : ℕ). publishing.Written s) same
write_slot call (publishing.Heading slot word value) loan over h e = absurd (cc over)
write_slot call (publishing.Remembering slot) loan over h e = absurd (cc over)
write_slot call (publishing.SendReclaims slot place route p) loan over h e = absurd (cc over)
write_slot call (publishing.Pushing slot place route p delivery) loan over h e = absurd (cc over)
write_slot call (publishing.Sent slot delivery) loan over h e = absurd (cc (sym h ∙ e))
write_slot call (publishing.Dropping slot) loan over h e = absurd (cc (sym h ∙ e))

send_slot : (table : TableWords) (sends : Bool) (payload head : List ℕ) (call : CallName) (c : PublisherCall) (loan : ℕ)
    → publisher_is_over c ≡ true → IsStageOf call c → call ≡ name.Send loan → StoresHeld table sends payload head c
    → HoldsAllHead table loan head
send_slot table sends payload head call publishing.Idle loan over h e k = absurd (cc over)
send_slot table sends payload head call (publishing.LoanReclaims place route p) loan over h e k = absurd (cc over)
send_slot table sends payload head call publishing.Lending loan over h e k = absurd (cc (sym h ∙ e))
send_slot table sends payload head call (publishing.Writing slot word value) loan over h e k = absurd (cc over)
send_slot table sends payload head call (publishing.Written slot) loan over h e k = absurd (cc (sym h ∙ e))
send_slot table sends payload head call (publishing.Heading slot word value) loan over h e k = absurd (cc over)
send_slot table sends payload head call (publishing.Remembering slot) loan over h e k = absurd (cc over)
send_slot table sends payload head call (publishing.SendReclaims slot place route p) loan over h e k = absurd (cc over)
send_slot table sends payload head call (publishing.Pushing slot place route p delivery) loan over h e k = absurd (cc over)
send_slot table sends payload head call (publishing.Sent slot delivery) loan over h e k = let same : slot ≡ loan
    = cc (sym h ∙ e) in subst (λ (s : ℕ). HoldsAllHead table s head) same k
send_slot table sends payload head call (publishing.Dropping slot) loan over h e k = absurd (cc (sym h ∙ e))

-- the publisher of a call that ended, and where it stood
record Ended (m : World) (call : FinishedCall) (place : ℕ) (lane : PublisherLaneState) : Type 0 where
  over : publisher_is_over lane.port.call ≡ true
  call_is : lane.call ≡ call.call

over_at : (m : World) (party : Party) (step : Move) (place : ℕ) (lane : PublisherLaneState) → party ≡ Publisher place
    → slice_get m.publishers place ≡ Some lane → ends m party step ≡ true → publisher_is_over lane.port.call ≡ true
over_at m (Subscriber other) step place lane is found over = absurd (cc is)
over_at m (Publisher own) (Begin c) place lane is found over = absurd (cc over)
over_at m (Publisher own) GoOn place lane is found over =
    let same : own ≡ place = cc is in
    ap publisher_ends_at (sym (ap (slice_get m.publishers) same ∙ found)) ∙ over

call_at : (m : World) (party : Party) (call : FinishedCall) (place : ℕ) (lane : PublisherLaneState) → party ≡ Publisher place
    → slice_get m.publishers place ≡ Some lane → call_of m party ≡ Some (begun call.call call.first) → lane.call ≡ call.call
call_at m (Subscriber other) call place lane is found of = absurd (cc is)
call_at m (Publisher own) call place lane is found of =
    let same : own ≡ place = cc is in
    ap (λ (b : BegunCall). b.call) (some_is (begun lane.call lane.first) (begun call.call call.first)
    (ap publisher_call (sym (ap (slice_get m.publishers) same ∙ found)) ∙ of))

ended : (m : World) (party : Party) (step : Move) (r : Stepped) (n : World) → StepsTo m party step r n → Told m party step r n
    → (call : FinishedCall) (place : ℕ) (lane : PublisherLaneState) → n.finished ≡ m.finished ++ call ∷ []
    → call.party ≡ Publisher place → slice_get m.publishers place ≡ Some lane
    → Ended m call place lane
ended m party step stepped.Went n h told call place lane more is found = absurd (none_more m.finished call (sym told.2 ∙ more))
ended m party step stepped.Finished n h told call place lane more is found =
    let end : EndTold m party n = told.2 in
    let same : end.call ≡ call = same_last m.finished end.call call (sym end.more ∙ more) in
    let party_is : party ≡ Publisher place = sym end.own ∙ ap (λ (x : FinishedCall). x.party) same ∙ is in
    record {
      over = over_at m party step place lane party_is found h.1;
      call_is = call_at m party end.call place lane party_is found end.of ∙ ap (λ (x : FinishedCall). x.call) same;
    }
ended m party step stepped.Skipped n h told call place lane more is found
    = absurd (none_more m.finished call (sym (ap (λ (x : World). x.finished) h.1) ∙ more))
ended m party step stepped.NoMemory n h told call place lane more is found
    = absurd (none_more m.finished call (sym (ap (λ (x : World). x.finished) h.2) ∙ more))

pub stores_left : (m : World) (party : Party) (step : Move) (r : Stepped) (n : World) → StepsTo m party step r n → Told m party step r n
    → (m.moments ≤ 2 ^ 63 → CallsFollow m) → (m.moments ≤ 2 ^ 63 → StoresHold m) → StoresLeft m n
stores_left m party step r n h told c held = record {
  payload = λ few call place loan lane more is found asked.
      let end = ended m party step r n h told call place lane more is found in
      let stage : lane.port.call ≡ publishing.Written loan
      = write_slot lane.call lane.port.call loan end.over ((c few).publishers place lane found).0 (end.call_is ∙ asked) in
      subst (StoresHeld m.table lane.port.sends lane.port.payload lane.port.head) stage (held few place lane found);
  head = λ few call place loan lane more is found asked.
      let end = ended m party step r n h told call place lane more is found in
      send_slot m.table lane.port.sends lane.port.payload lane.port.head lane.call lane.port.call loan end.over
      ((c few).publishers place lane found).0 (end.call_is ∙ asked) (held few place lane found);
}

-- Which slot a publisher sends, by the stage where its call stands.
use Rattle.std.proofs.Common.{ℕ, ◌≡◌, ◌+◌, ◌-◌, ◌<◌, ◌≤◌, ◌==◌, Bool, true, false, if◌then◌else◌, nat_lt, List, length, slice_get, Option}
use Rattle.std.proofs.Common.{Some, None, refl, sym, ◌∙◌, ap, subst, arith}
use Rattle.iox_lanes_machine.specs.QueuesSteps.Access.{successor}
use Rattle.iox_lanes_machine.specs.QueuesSteps.declared.access.Access.{Access}
use Rattle.iox_lanes_machine.specs.QueuesSteps.declared.access.Access.TheVariants as own_access
use Rattle.iox_lanes_machine.specs.QueuesSteps.declared.order.PushAnswer.{PushAnswer}
use Rattle.iox_lanes_machine.specs.QueuesSteps.declared.order.PopAnswer.{PopAnswer}
use Rattle.iox_lanes_machine.specs.QueuesSteps.declared.order.PopAnswer.TheVariants.{Got, Saw}
use Rattle.iox_lanes_machine.specs.QueuesSteps.declared.rings.overflowing.push.Push.TheVariants as overflowing_push
use Rattle.iox_lanes_machine.specs.QueuesSteps.Refusing as refusing
use Rattle.iox_lanes_machine.specs.QueuesSteps.declared.rings.refusing.push.Push.TheVariants as refusing_push
use Rattle.iox_lanes_machine.specs.QueuesSteps.declared.rings.refusing.pop.Pop as refusing_pop_type
use Rattle.iox_lanes_machine.specs.QueuesSteps.Ends.{push_take}
use Rattle.iox_lanes_machine.specs.QueuesSteps.declared.rings.ends.Push.{Push}
use Rattle.iox_lanes_machine.specs.QueuesSteps.declared.rings.ends.Push.TheVariants as push
use Rattle.iox_lanes_machine.specs.LanesBase.Words.{on_ring}
use Rattle.iox_lanes_machine.specs.LanesBase.Table.{TableWords}
use Rattle.iox_lanes_machine.specs.LanesBase.declared.words.word.ConnectionRing.{ConnectionRing}
use Rattle.iox_lanes_machine.specs.LanesBase.declared.words.word.SlotWord.{SlotWord}
use Rattle.iox_lanes_machine.specs.LanesBase.declared.words.word.SlotWord.TheVariants.{Header, UserHeader, Payload}
use Rattle.iox_lanes_machine.specs.LanesBase.declared.words.word.SharedWord.TheVariants.{Slot}
use Rattle.iox_lanes_machine.specs.LanesBase.Answers.{push_answer, refusing_pop_answer}
use Rattle.iox_lanes_machine.specs.LanesBase.Publishing.{publisher_is_over, publisher_next, publisher_take, publisher_change}
use Rattle.iox_lanes_machine.specs.LanesBase.Publishing.{push_change, taken_back}
use Rattle.iox_lanes_machine.specs.LanesBase.Publishing.{loan_from, loan_reclaimed, write_from, head_from, push_from, sweep_from}
use Rattle.iox_lanes_machine.specs.LanesBase.Publishing.{send_reclaimed, pushed, counted, nothing_sent}
use Rattle.iox_lanes_machine.specs.LanesBase.declared.calls.publisher.Delivery.{Delivery}
use Rattle.iox_lanes_machine.specs.LanesBase.declared.calls.publisher.PublisherCall.{PublisherCall}
use Rattle.iox_lanes_machine.specs.LanesBase.declared.calls.publisher.PublisherCall.TheVariants as publishing
use Rattle.iox_lanes_machine.specs.LanesBase.declared.calls.publisher.PublisherChange.TheVariants as change
use Rattle.iox_lanes_machine.specs.LanesBase.declared.calls.route.Route.{Route}
use Rattle.iox_lanes_machine.specs.LanesParties.PublisherKeeping.{BookState}
use Rattle.iox_lanes_machine.specs.LanesParties.declared.publisher.slot_book.LoanMark.TheVariants as mark
use Rattle.iox_lanes_machine.specs.LanesParties.Parties.{is_out}
use Rattle.iox_lanes_machine.specs.Sending.{SendsLacking, PushLacks, IsSending}
use Rattle.iox_lanes_machine.specs.LedgerUses.{UsesCounted}
use Rattle.iox_lanes_machine.proofs.Entries.{entry_own}
use Rattle.iox_lanes_machine.specs.Apart.{MayChange}
use Rattle.iox_lanes_machine.specs.Left.{StoresHeld, HoldsAllHead}
use Rattle.iox_lanes_machine.specs.Slots.{StandsAtLoan}
use Rattle.iox_lanes_laws.proofs.MessagesBooks.{IsGiven, PutsOwn}

-- the slot of a send that is in progress
abbrev pub sending : PublisherCall → Option ℕ
sending publishing.Idle = None
sending (publishing.LoanReclaims place route p) = None
sending publishing.Lending = None
sending (publishing.Writing slot word value) = None
sending (publishing.Written slot) = None
sending (publishing.Heading slot word value) = Some slot
sending (publishing.Remembering slot) = Some slot
sending (publishing.SendReclaims slot place route p) = Some slot
sending (publishing.Pushing slot place route p delivery) = Some slot
sending (publishing.Sent slot delivery) = Some slot
sending (publishing.Dropping slot) = None

loan_sends : (place : ℕ) (at : Option Route) → sending (loan_from place at) ≡ None
loan_sends place None = refl
loan_sends place (Some route) = refl

loaned_sends : (routes : List Route) (place : ℕ) (route : Route) (p : refusing_pop_type.Pop) (a : Option PopAnswer)
    → sending (loan_reclaimed routes place route p a) ≡ None
loaned_sends routes place route p None = refl
loaned_sends routes place route p (Some (Got (Some slot))) = refl
loaned_sends routes place route p (Some (Got None)) = loan_sends (successor place) (slice_get routes (successor place))
loaned_sends routes place route p (Some (Saw some)) = loan_sends (successor place) (slice_get routes (successor place))

pub write_sends : (slot word : ℕ) (at : Option ℕ) → sending (write_from slot word at) ≡ None
write_sends slot word None = refl
write_sends slot word (Some value) = refl

pub loan_begins : (routes : List Route) → sending (loan_from 0 (slice_get routes 0)) ≡ None
loan_begins routes = loan_sends 0 (slice_get routes 0)

pub head_sends : (slot word : ℕ) (at : Option ℕ) → sending (head_from slot word at) ≡ Some slot
head_sends slot word None = refl
head_sends slot word (Some value) = refl

push_sends : (slot place : ℕ) (delivery : Delivery) (at : Option Route) → sending (push_from slot place delivery at) ≡ Some slot
push_sends slot place delivery None = refl
push_sends slot place delivery (Some route) = refl

sweep_sends : (routes : List Route) (slot place : ℕ) (at : Option Route) → sending (sweep_from routes slot place at) ≡ Some slot
sweep_sends routes slot place None = push_sends slot 0 nothing_sent (slice_get routes 0)
sweep_sends routes slot place (Some route) = refl

swept_sends : (routes : List Route) (slot place : ℕ) (route : Route) (p : refusing_pop_type.Pop) (a : Option PopAnswer)
    → sending (send_reclaimed routes slot place route p a) ≡ Some slot
swept_sends routes slot place route p None = refl
swept_sends routes slot place route p (Some (Got (Some back))) = refl
swept_sends routes slot place route p (Some (Got None)) = sweep_sends routes slot (successor place) (slice_get routes (successor place))
swept_sends routes slot place route p (Some (Saw some)) = sweep_sends routes slot (successor place) (slice_get routes (successor place))

pushed_sends : (routes : List Route) (slot place : ℕ) (route : Route) (p : Push) (delivery : Delivery) (a : Option PushAnswer)
    → sending (pushed routes slot place route p delivery a) ≡ Some slot
pushed_sends routes slot place route p delivery None = refl
pushed_sends routes slot place route p delivery (Some answer)
    = push_sends slot (successor place) (counted delivery answer) (slice_get routes (successor place))

-- a step inside a call leaves what is sent
pub sends_on : (routes : List Route) (words : List ℕ) (c : PublisherCall) (a : ℕ) → publisher_is_over c ≡ false
    → sending (publisher_take routes words c a) ≡ sending c
sends_on routes words publishing.Idle a inside = refl
sends_on routes words (publishing.LoanReclaims place route p) a inside
    = loaned_sends routes place route (refusing.pop_take p a) (refusing_pop_answer (refusing.pop_take p a))
sends_on routes words publishing.Lending a inside = absurd (cc inside)
sends_on routes words (publishing.Writing own word value) a inside
    = write_sends own (successor word) (slice_get words (successor word))
sends_on routes words (publishing.Written own) a inside = absurd (cc inside)
sends_on routes words (publishing.Heading own word value) a inside = head_sends own (successor word) (slice_get words (successor word))
sends_on routes words (publishing.Remembering own) a inside = sweep_sends routes own 0 (slice_get routes 0)
sends_on routes words (publishing.SendReclaims own place route p) a inside
    = swept_sends routes own place route (refusing.pop_take p a) (refusing_pop_answer (refusing.pop_take p a))
sends_on routes words (publishing.Pushing own place route p delivery) a inside
    = pushed_sends routes own place route (push_take p a) delivery (push_answer (push_take p a))
sends_on routes words (publishing.Sent own delivery) a inside = absurd (cc inside)
sends_on routes words (publishing.Dropping own) a inside = absurd (cc inside)

-- after a last step nothing is sent
pub sends_over : (routes : List Route) (words : List ℕ) (c : PublisherCall) (a : ℕ) → publisher_is_over c ≡ true
    → sending (publisher_take routes words c a) ≡ None
sends_over routes words publishing.Idle a over = absurd (cc over)
sends_over routes words (publishing.LoanReclaims place route p) a over = absurd (cc over)
sends_over routes words publishing.Lending a over = refl
sends_over routes words (publishing.Writing own word value) a over = absurd (cc over)
sends_over routes words (publishing.Written own) a over = refl
sends_over routes words (publishing.Heading own word value) a over = absurd (cc over)
sends_over routes words (publishing.Remembering own) a over = absurd (cc over)
sends_over routes words (publishing.SendReclaims own place route p) a over = absurd (cc over)
sends_over routes words (publishing.Pushing own place route p delivery) a over = absurd (cc over)
sends_over routes words (publishing.Sent own delivery) a over = refl
sends_over routes words (publishing.Dropping own) a over = refl

-- who sends a slot after a step sent it before
pub sent_before : (routes : List Route) (words : List ℕ) (c : PublisherCall) (a slot : ℕ)
    → sending (publisher_take routes words c a) ≡ Some slot → sending c ≡ Some slot
sent_before routes words c a slot h = by_test (publisher_is_over c) refl
  where
    by_test : (b : Bool) → publisher_is_over c ≡ b → sending c ≡ Some slot
    by_test true over = absurd (cc (sym (sends_over routes words c a over) ∙ h))
    by_test false inside = sym (sends_on routes words c a inside) ∙ h

-- the slot that a publisher sends is its own
pub sends_own : (connections : ℕ) (book : BookState) (c : PublisherCall) (slot : ℕ) → sending c ≡ Some slot → StandsAtLoan book c
    → SendsLacking connections book c → UsesCounted connections book → (book.first ≤ slot) × (slot < book.first + length book.loans)
sends_own connections book publishing.Idle slot h stands lacks k = absurd (cc h)
sends_own connections book (publishing.LoanReclaims place route p) slot h stands lacks k = absurd (cc h)
sends_own connections book publishing.Lending slot h stands lacks k = absurd (cc h)
sends_own connections book (publishing.Writing own word value) slot h stands lacks k = absurd (cc h)
sends_own connections book (publishing.Written own) slot h stands lacks k = absurd (cc h)
sends_own connections book (publishing.Heading own word value) slot h stands lacks k =
    let within = entry_own book.first own book.loans mark.No (λ none. cc (sym stands ∙ ap is_out none)) in
    let same : own ≡ slot = cc h in
    omega (arith, within.0, within.1, same)
sends_own connections book (publishing.Remembering own) slot h stands lacks k =
    let within = entry_own book.first own book.loans mark.No (λ none. cc (sym stands ∙ ap is_out none)) in
    let same : own ≡ slot = cc h in
    omega (arith, within.0, within.1, same)
sends_own connections book (publishing.SendReclaims own place route p) slot h stands lacks k =
    let same : own ≡ slot = cc h in
    omega (arith, (lacks.0).own.above, (lacks.0).own.below, k.loans_each, same)
sends_own connections book (publishing.Pushing own place route p delivery) slot h stands lacks k =
    let same : own ≡ slot = cc h in
    omega (arith, (lacks.0).own.above, (lacks.0).own.below, k.loans_each, same)
sends_own connections book (publishing.Sent own delivery) slot h stands lacks k =
    let same : own ≡ slot = cc h in
    omega (arith, lacks.own.above, lacks.own.below, k.loans_each, same)
sends_own connections book (publishing.Dropping own) slot h stands lacks k = absurd (cc h)

-- an access of a ring touches no word of a slot
ring_touches : (connection : ℕ) (ring : ConnectionRing) (cells : ℕ) (access : Access) (slot : ℕ) (word : SlotWord)
    → MayChange (on_ring connection ring cells access) (Slot slot word) → ⊥
ring_touches connection ring cells (own_access.Load w) slot word h = h
ring_touches connection ring cells (own_access.Store w value) slot word h = absurd (cc h)
ring_touches connection ring cells (own_access.Exchange w old new) slot word h = absurd (cc h)
ring_touches connection ring cells own_access.Local slot word h = h

pub head_is_no_payload : (one slot at word : ℕ) (b : Bool)
    → Slot one (Payload word) ≡ Slot slot (if b then Header at else UserHeader (at - 3)) → ⊥
head_is_no_payload one slot at word true h = absurd (cc h)
head_is_no_payload one slot at word false h = absurd (cc h)

-- who sends stores no word of a payload
pub payload_spared : (c : PublisherCall) (slot one word : ℕ) → sending c ≡ Some slot
    → MayChange (publisher_next c) (Slot one (Payload word)) → ⊥
payload_spared publishing.Idle slot one word h t = absurd (cc h)
payload_spared (publishing.LoanReclaims place route p) slot one word h t = absurd (cc h)
payload_spared publishing.Lending slot one word h t = absurd (cc h)
payload_spared (publishing.Writing own at value) slot one word h t = absurd (cc h)
payload_spared (publishing.Written own) slot one word h t = absurd (cc h)
payload_spared (publishing.Heading own at value) slot one word h t = head_is_no_payload one own at word (nat_lt at 3) t
payload_spared (publishing.Remembering own) slot one word h t = t
payload_spared (publishing.SendReclaims own place route p) slot one word h t = ring_touches _ _ _ _ one (Payload word) t
payload_spared (publishing.Pushing own place route p delivery) slot one word h t = ring_touches _ _ _ _ one (Payload word) t
payload_spared (publishing.Sent own delivery) slot one word h t = t
payload_spared (publishing.Dropping own) slot one word h t = absurd (cc h)

-- a slot gets a use only where it is sent, its head is stored, and no word of a slot is touched
pub record GivesAt (table : TableWords) (sends : Bool) (payload head : List ℕ) (c : PublisherCall) (slot : ℕ) : Type 0 where
  pub sent : sending c ≡ Some slot
  pub stored : StoresHeld table sends payload head c → HoldsAllHead table slot head
  pub spared : (one : ℕ) (word : SlotWord) → MayChange (publisher_next c) (Slot one word) → ⊥

taken_gives : (place : ℕ) (a : Option PopAnswer) (slot : ℕ) → IsGiven (taken_back place a) slot → ⊥
taken_gives place None slot h = h
taken_gives place (Some (Got (Some back))) slot h = h
taken_gives place (Some (Got None)) slot h = h
taken_gives place (Some (Saw some)) slot h = h

push_gives : (book : BookState) (place own : ℕ) (p : Push) (a slot : ℕ) → PushLacks book place own p
    → IsGiven (push_change place p a) slot → own ≡ slot
push_gives book place own (push.Overflowing overflowing_push.Idle) a slot l h = absurd h
push_gives book place own (push.Overflowing (overflowing_push.Begun limit value)) a slot l h = absurd h
push_gives book place own (push.Overflowing (overflowing_push.SawWrite limit value write next)) a slot l h = absurd h
push_gives book place own (push.Overflowing (overflowing_push.SawRead limit value write next seen)) a slot l h = absurd h
push_gives book place own (push.Overflowing (overflowing_push.Filled limit value write next seen)) a slot l h = sym l.same ∙ h
push_gives book place own (push.Overflowing (overflowing_push.Full value seen next)) a slot l h = absurd h
push_gives book place own (push.Overflowing (overflowing_push.SawOldest value seen next oldest)) a slot l h = absurd (by_test (a == seen) h)
  where
    by_test : (b : Bool) → IsGiven (if b then change.LeftOut place oldest else change.Nothing) slot → ⊥
    by_test true g = g
    by_test false g = g
push_gives book place own (push.Overflowing (overflowing_push.Pushed value answered)) a slot l h = absurd h
push_gives book place own (push.Refusing refusing_push.Idle) a slot l h = absurd h
push_gives book place own (push.Refusing (refusing_push.Begun limit value)) a slot l h = absurd h
push_gives book place own (push.Refusing (refusing_push.SawWrite limit value write next)) a slot l h = absurd h
push_gives book place own (push.Refusing (refusing_push.SawRoom value write next)) a slot l h = absurd h
push_gives book place own (push.Refusing (refusing_push.Filled value next)) a slot l h = sym l.same ∙ h
push_gives book place own (push.Refusing (refusing_push.Pushed value answered)) a slot l h = absurd h

pub gives_at : (table : TableWords) (sends : Bool) (payload head : List ℕ) (connections : ℕ) (book : BookState) (c : PublisherCall)
    (a slot : ℕ) → SendsLacking connections book c → IsGiven (publisher_change c a) slot → GivesAt table sends payload head c slot
gives_at table sends payload head connections book publishing.Idle a slot l h = absurd h
gives_at table sends payload head connections book (publishing.LoanReclaims place route p) a slot l h
    = absurd (taken_gives place (refusing_pop_answer (refusing.pop_take p a)) slot h)
gives_at table sends payload head connections book publishing.Lending a slot l h = absurd h
gives_at table sends payload head connections book (publishing.Writing own word value) a slot l h = absurd h
gives_at table sends payload head connections book (publishing.Written own) a slot l h = absurd h
gives_at table sends payload head connections book (publishing.Heading own word value) a slot l h = absurd h
gives_at table sends payload head connections book (publishing.Remembering own) a slot l h = record {
  sent = ap Some h;
  stored = λ all. subst (λ (s : ℕ). HoldsAllHead table s head) h all;
  spared = λ one word t. t;
}
gives_at table sends payload head connections book (publishing.SendReclaims own place route p) a slot l h
    = absurd (taken_gives place (refusing_pop_answer (refusing.pop_take p a)) slot h)
gives_at table sends payload head connections book (publishing.Pushing own place route p delivery) a slot l h =
    let same : own ≡ slot = push_gives book place own p a slot (l.1) h in
    record {
      sent = ap Some same;
      stored = λ all. subst (λ (s : ℕ). HoldsAllHead table s head) same all;
      spared = λ one word t. ring_touches _ _ _ _ one word t;
    }
gives_at table sends payload head connections book (publishing.Sent own delivery) a slot l h = absurd h
gives_at table sends payload head connections book (publishing.Dropping own) a slot l h = absurd h

-- what a publisher puts is its own
taken_puts : (book : BookState) (place : ℕ) (a : Option PopAnswer) → PutsOwn book (taken_back place a)
taken_puts book place None = tt
taken_puts book place (Some (Got (Some back))) = tt
taken_puts book place (Some (Got None)) = tt
taken_puts book place (Some (Saw some)) = tt

push_puts : (book : BookState) (place own : ℕ) (p : Push) (a : ℕ) → PushLacks book place own p → IsSending book own
    → PutsOwn book (push_change place p a)
push_puts book place own (push.Overflowing overflowing_push.Idle) a l s = tt
push_puts book place own (push.Overflowing (overflowing_push.Begun limit value)) a l s = tt
push_puts book place own (push.Overflowing (overflowing_push.SawWrite limit value write next)) a l s = tt
push_puts book place own (push.Overflowing (overflowing_push.SawRead limit value write next seen)) a l s = tt
push_puts book place own (push.Overflowing (overflowing_push.Filled limit value write next seen)) a l s
    = record { above = omega (arith, s.own.above, l.same); below = omega (arith, s.own.below, l.same) }
push_puts book place own (push.Overflowing (overflowing_push.Full value seen next)) a l s = tt
push_puts book place own (push.Overflowing (overflowing_push.SawOldest value seen next oldest)) a l s = by_test (a == seen)
  where
    by_test : (b : Bool) → PutsOwn book (if b then change.LeftOut place oldest else change.Nothing)
    by_test true = tt
    by_test false = tt
push_puts book place own (push.Overflowing (overflowing_push.Pushed value answered)) a l s = tt
push_puts book place own (push.Refusing refusing_push.Idle) a l s = tt
push_puts book place own (push.Refusing (refusing_push.Begun limit value)) a l s = tt
push_puts book place own (push.Refusing (refusing_push.SawWrite limit value write next)) a l s = tt
push_puts book place own (push.Refusing (refusing_push.SawRoom value write next)) a l s = tt
push_puts book place own (push.Refusing (refusing_push.Filled value next)) a l s
    = record { above = omega (arith, s.own.above, l.same); below = omega (arith, s.own.below, l.same) }
push_puts book place own (push.Refusing (refusing_push.Pushed value answered)) a l s = tt

pub puts_own : (connections : ℕ) (book : BookState) (c : PublisherCall) (a : ℕ) → SendsLacking connections book c
    → PutsOwn book (publisher_change c a)
puts_own connections book publishing.Idle a l = tt
puts_own connections book (publishing.LoanReclaims place route p) a l = taken_puts book place (refusing_pop_answer (refusing.pop_take p a))
puts_own connections book publishing.Lending a l = tt
puts_own connections book (publishing.Writing own word value) a l = tt
puts_own connections book (publishing.Written own) a l = tt
puts_own connections book (publishing.Heading own word value) a l = tt
puts_own connections book (publishing.Remembering own) a l = tt
puts_own connections book (publishing.SendReclaims own place route p) a l
    = taken_puts book place (refusing_pop_answer (refusing.pop_take p a))
puts_own connections book (publishing.Pushing own place route p delivery) a l = push_puts book place own p a (l.1) (l.0)
puts_own connections book (publishing.Sent own delivery) a l = tt
puts_own connections book (publishing.Dropping own) a l = tt

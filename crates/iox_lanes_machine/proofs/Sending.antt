-- The connections that a send has not come to lack its slot, step by step.
use Rattle.std.proofs.Common.{ℕ, ◌≡◌, ◌+◌, ◌-◌, ◌<◌, ◌^◌, ◌==◌, Bool, true, false, if◌then◌else◌, nat_lt, List, length, slice_get, Option}
use Rattle.std.proofs.Common.{Some, None, refl, sym, ◌∙◌, ap, subst, inl, inr, arith}
use Rattle.std.proofs.lemmas.Option.{slice_get_within}
use Rattle.iox_lanes_parties.specs.QueuesSteps.Access.{successor}
use Rattle.iox_lanes_parties.specs.QueuesSteps.declared.order.PushAnswer.{PushAnswer}
use Rattle.iox_lanes_parties.specs.QueuesSteps.declared.order.PushAnswer.TheVariants.{Kept, Refused}
use Rattle.iox_lanes_parties.specs.QueuesSteps.declared.order.PopAnswer.{PopAnswer}
use Rattle.iox_lanes_parties.specs.QueuesSteps.declared.order.PopAnswer.TheVariants.{Got, Saw}
use Rattle.iox_lanes_parties.specs.QueuesSteps.declared.rings.overflowing.push.Push.TheVariants as overflowing_push
use Rattle.iox_lanes_parties.specs.QueuesSteps.Refusing as refusing
use Rattle.iox_lanes_parties.specs.QueuesSteps.declared.rings.refusing.push.Push.TheVariants as refusing_push
use Rattle.iox_lanes_parties.specs.QueuesSteps.declared.rings.refusing.pop.Pop as refusing_pop_type
use Rattle.iox_lanes_parties.specs.QueuesSteps.Ends.{push_begun, push_take}
use Rattle.iox_lanes_parties.specs.QueuesSteps.declared.rings.ends.RingKind.{RingKind}
use Rattle.iox_lanes_parties.specs.QueuesSteps.declared.rings.ends.RingKind.TheVariants as kind
use Rattle.iox_lanes_parties.specs.QueuesSteps.declared.rings.ends.Push.{Push}
use Rattle.iox_lanes_parties.specs.QueuesSteps.declared.rings.ends.Push.TheVariants as push
use Rattle.iox_lanes_parties.specs.LanesBase.Answers.{push_answer, refusing_pop_answer}
use Rattle.iox_lanes_parties.specs.LanesBase.Publishing.{publisher_take, publisher_change, loan_from, loan_reclaimed, write_from}
use Rattle.iox_lanes_parties.specs.LanesBase.Publishing.{head_from, push_from, sweep_from, send_reclaimed, pushed, counted, nothing_sent}
use Rattle.iox_lanes_parties.specs.LanesBase.Publishing.{push_change, taken_back}
use Rattle.iox_lanes_parties.specs.LanesBase.declared.calls.publisher.Delivery.{Delivery}
use Rattle.iox_lanes_parties.specs.LanesBase.declared.calls.publisher.PublisherCall.{PublisherCall}
use Rattle.iox_lanes_parties.specs.LanesBase.declared.calls.publisher.PublisherCall.TheVariants as publishing
use Rattle.iox_lanes_parties.specs.LanesBase.declared.calls.publisher.PublisherChange.{PublisherChange}
use Rattle.iox_lanes_parties.specs.LanesBase.declared.calls.publisher.PublisherChange.TheVariants as change
use Rattle.iox_lanes_parties.specs.LanesBase.declared.calls.route.Route.{Route}
use Rattle.iox_lanes_parties.specs.PublisherKeeping.{BookState, changed, remembered}
use Rattle.iox_lanes_parties.specs.declared.publisher.slot_book.LoanMark.{LoanMark}
use Rattle.iox_lanes_parties.specs.declared.publisher.slot_book.LoanMark.TheVariants as mark
use Rattle.iox_lanes_parties.specs.Parties.{is_out}
use Rattle.iox_lanes_machine.specs.Sending.{IsSending, OverflowingLacks, RefusingLacks, PushLacks, LacksFrom, SendsLacking}
use Rattle.iox_lanes_machine.specs.LedgerUses.{entry, refers_to, IsOwn, UsesCounted, ChangeFits}
use Rattle.iox_lanes_machine.proofs.Changes.{IsChangeAt, PutKnown, else_refers, back_follows, push_change_at, lacks_after, own_after}
use Rattle.iox_lanes_machine.proofs.Changes.{loans_after, remembered_own, loan_lacks}

-- a call that begins
push_begins : (book : BookState) (place slot : ℕ) (k : RingKind) (limit : ℕ) → refers_to book place slot ≡ false
    → PushLacks book place slot (push_begun k limit slot)
push_begins book place slot kind.Overflowing limit lacks = record { same = refl; lacks = lacks }
push_begins book place slot kind.Refusing limit lacks = record { same = refl; lacks = lacks }

push_lacking : (book : BookState) (routes : List Route) (slot place : ℕ) (delivery : Delivery) (at : Option Route)
    → slice_get routes place ≡ at → IsSending book slot → LacksFrom (length routes) book place slot
    → SendsLacking (length routes) book (push_from slot place delivery at)
push_lacking book routes slot place delivery None e s l = s
push_lacking book routes slot place delivery (Some route) e s l =
    let below : place < length routes = slice_get_within routes place route e in
    (s, push_begins book place slot route.kind route.limit (l place (omega arith) below), λ later le lt. l later (omega (arith, le)) lt)

sweep_lacking : (book : BookState) (routes : List Route) (slot place : ℕ) (at : Option Route) → IsSending book slot
    → LacksFrom (length routes) book 0 slot → SendsLacking (length routes) book (sweep_from routes slot place at)
sweep_lacking book routes slot place None s l = push_lacking book routes slot 0 nothing_sent (slice_get routes 0) refl s l
sweep_lacking book routes slot place (Some route) s l = (s, l)

swept_lacking : (book : BookState) (routes : List Route) (slot place : ℕ) (route : Route) (p : refusing_pop_type.Pop)
    (a : Option PopAnswer) → IsSending book slot → LacksFrom (length routes) book 0 slot
    → SendsLacking (length routes) book (send_reclaimed routes slot place route p a)
swept_lacking book routes slot place route p None s l = (s, l)
swept_lacking book routes slot place route p (Some (Got (Some back))) s l = (s, l)
swept_lacking book routes slot place route p (Some (Got None)) s l
    = sweep_lacking book routes slot (successor place) (slice_get routes (successor place)) s l
swept_lacking book routes slot place route p (Some (Saw some)) s l
    = sweep_lacking book routes slot (successor place) (slice_get routes (successor place)) s l

loan_lacking : (connections : ℕ) (book : BookState) (place : ℕ) (at : Option Route) → SendsLacking connections book (loan_from place at)
loan_lacking connections book place None = tt
loan_lacking connections book place (Some route) = tt

loaned_lacking : (connections : ℕ) (book : BookState) (routes : List Route) (place : ℕ) (route : Route) (p : refusing_pop_type.Pop)
    (a : Option PopAnswer) → SendsLacking connections book (loan_reclaimed routes place route p a)
loaned_lacking connections book routes place route p None = tt
loaned_lacking connections book routes place route p (Some (Got (Some slot))) = tt
loaned_lacking connections book routes place route p (Some (Got None))
    = loan_lacking connections book (successor place) (slice_get routes (successor place))
loaned_lacking connections book routes place route p (Some (Saw some))
    = loan_lacking connections book (successor place) (slice_get routes (successor place))

pub write_lacking : (connections : ℕ) (book : BookState) (slot word : ℕ) (at : Option ℕ)
    → SendsLacking connections book (write_from slot word at)
write_lacking connections book slot word None = tt
write_lacking connections book slot word (Some value) = tt

pub head_lacking : (connections : ℕ) (book : BookState) (slot word : ℕ) (at : Option ℕ)
    → SendsLacking connections book (head_from slot word at)
head_lacking connections book slot word None = tt
head_lacking connections book slot word (Some value) = tt

pub loan_lacks_none : (connections : ℕ) (book : BookState) (place : ℕ) (at : Option Route)
    → SendsLacking connections book (loan_from place at)
loan_lacks_none connections book place at = loan_lacking connections book place at

-- what a push puts, the connection lacked
pub push_known : (book : BookState) (place slot : ℕ) (p : Push) (a : ℕ) → IsSending book slot → PushLacks book place slot p
    → PutKnown book place (push_change place p a)
push_known book place slot (push.Overflowing overflowing_push.Idle) a s l = tt
push_known book place slot (push.Overflowing (overflowing_push.Begun limit value)) a s l = tt
push_known book place slot (push.Overflowing (overflowing_push.SawWrite limit value write next)) a s l = tt
push_known book place slot (push.Overflowing (overflowing_push.SawRead limit value write next seen)) a s l = tt
push_known book place slot (push.Overflowing (overflowing_push.Filled limit value write next seen)) a s l =
    subst (λ (v : ℕ). IsOwn book v × (refers_to book place v ≡ false) × (is_out (entry book.first book.loans v mark.No) ≡ false))
    (sym l.same) (s.own, l.lacks, s.not_out)
push_known book place slot (push.Overflowing (overflowing_push.Full value seen next)) a s l = tt
push_known book place slot (push.Overflowing (overflowing_push.SawOldest value seen next oldest)) a s l = by_test (a == seen)
  where
    by_test : (b : Bool) → PutKnown book place (if b then change.LeftOut place oldest else change.Nothing)
    by_test true = tt
    by_test false = tt
push_known book place slot (push.Overflowing (overflowing_push.Pushed value answered)) a s l = tt
push_known book place slot (push.Refusing refusing_push.Idle) a s l = tt
push_known book place slot (push.Refusing (refusing_push.Begun limit value)) a s l = tt
push_known book place slot (push.Refusing (refusing_push.SawWrite limit value write next)) a s l = tt
push_known book place slot (push.Refusing (refusing_push.SawRoom value write next)) a s l = tt
push_known book place slot (push.Refusing (refusing_push.Filled value next)) a s l =
    subst (λ (v : ℕ). IsOwn book v × (refers_to book place v ≡ false) × (is_out (entry book.first book.loans v mark.No) ≡ false))
    (sym l.same) (s.own, l.lacks, s.not_out)
push_known book place slot (push.Refusing (refusing_push.Pushed value answered)) a s l = tt

-- a pop puts nothing
pub back_known : (book : BookState) (place : ℕ) (a : Option PopAnswer) → PutKnown book place (taken_back place a)
back_known book place None = tt
back_known book place (Some (Got (Some slot))) = tt
back_known book place (Some (Got None)) = tt
back_known book place (Some (Saw some)) = tt

-- a push that goes on
push_goes_on : (book : BookState) (place slot : ℕ) (p : Push) (a : ℕ) → PushLacks book place slot p
    → PushLacks (changed (push_change place p a) book) place slot (push_take p a)
push_goes_on book place slot (push.Overflowing overflowing_push.Idle) a l = tt
push_goes_on book place slot (push.Overflowing (overflowing_push.Begun limit value)) a l = l
push_goes_on book place slot (push.Overflowing (overflowing_push.SawWrite limit value write next)) a l = l
push_goes_on book place slot (push.Overflowing (overflowing_push.SawRead limit value write next seen)) a l = l
push_goes_on book place slot (push.Overflowing (overflowing_push.Filled limit value write next seen)) a l
    = by_test (nat_lt limit (next - seen))
  where
    by_test : (b : Bool) → OverflowingLacks (changed (change.Put place value) book) place slot
        (if b then overflowing_push.Full value seen (successor seen) else overflowing_push.Pushed value Kept)
    by_test true = tt
    by_test false = tt
push_goes_on book place slot (push.Overflowing (overflowing_push.Full value seen next)) a l = tt
push_goes_on book place slot (push.Overflowing (overflowing_push.SawOldest value seen next oldest)) a l = tt
push_goes_on book place slot (push.Overflowing (overflowing_push.Pushed value answered)) a l = tt
push_goes_on book place slot (push.Refusing refusing_push.Idle) a l = tt
push_goes_on book place slot (push.Refusing (refusing_push.Begun limit value)) a l = l
push_goes_on book place slot (push.Refusing (refusing_push.SawWrite limit value write next)) a l = by_test (nat_lt (write - a) limit)
  where
    by_test : (b : Bool) → RefusingLacks book place slot
        (if b then refusing_push.SawRoom value write next else refusing_push.Pushed value Refused)
    by_test true = l
    by_test false = tt
push_goes_on book place slot (push.Refusing (refusing_push.SawRoom value write next)) a l = l
push_goes_on book place slot (push.Refusing (refusing_push.Filled value next)) a l = tt
push_goes_on book place slot (push.Refusing (refusing_push.Pushed value answered)) a l = tt

sending_after : (here : ℕ) (book : BookState) (c : PublisherChange) (slot : ℕ) → IsChangeAt here c → IsSending book slot
    → IsSending (changed c book) slot
sending_after here book c slot at s =
    let same = loans_after here book c at in
    record {
      own = own_after here book c slot at s.own;
      not_out = ap (λ (f : ℕ). is_out (entry f (changed c book).loans slot mark.No)) same.1 ∙ ap
          (λ (l : List LoanMark). is_out (entry book.first l slot mark.No)) same.0 ∙ s.not_out;
    }

pushed_lacking : (book : BookState) (routes : List Route) (slot place : ℕ) (route : Route) (p : Push) (delivery : Delivery)
    (a : Option PushAnswer) → place < 2 ^ 62 → IsSending book slot → PushLacks book place slot p
    → LacksFrom (length routes) book (place + 1) slot
    → SendsLacking (length routes) book (pushed routes slot place route p delivery a)
pushed_lacking book routes slot place route p delivery None few s l f = (s, l, f)
pushed_lacking book routes slot place route p delivery (Some answer) few s l f =
    let next : successor place ≡ place + 1 = omega (arith, few) in
    push_lacking book routes slot (successor place) (counted delivery answer) (slice_get routes (successor place)) refl s
    (subst (λ (n : ℕ). LacksFrom (length routes) book n slot) (sym next) f)

-- a loan that is sent
pub remembered_lacking : (book : BookState) (routes : List Route) (slot : ℕ) → is_out (entry book.first book.loans slot mark.No) ≡ true
    → UsesCounted (length routes) book → SendsLacking (length routes) (remembered slot book) (sweep_from routes slot 0 (slice_get routes 0))
remembered_lacking book routes slot out k =
    let own = remembered_own (length routes) slot book out k in
    sweep_lacking (remembered slot book) routes slot 0 (slice_get routes 0) (record { own = own.0; not_out = own.1 })
    (λ later le below. else_refers book (change.Remember slot) tt later slot ∙ loan_lacks (length routes) slot book out k later below)

-- every step of a publisher's call
abbrev pub IsThere : List Route → PublisherCall → Type 0
IsThere routes publishing.Idle = Unit {0}
IsThere routes (publishing.LoanReclaims place route p) = slice_get routes place ≡ Some route
IsThere routes publishing.Lending = Unit {0}
IsThere routes (publishing.Writing slot word value) = Unit {0}
IsThere routes (publishing.Written slot) = Unit {0}
IsThere routes (publishing.Heading slot word value) = Unit {0}
IsThere routes (publishing.Remembering slot) = Unit {0}
IsThere routes (publishing.SendReclaims slot place route p) = slice_get routes place ≡ Some route
IsThere routes (publishing.Pushing slot place route p delivery) = slice_get routes place ≡ Some route
IsThere routes (publishing.Sent slot delivery) = Unit {0}
IsThere routes (publishing.Dropping slot) = Unit {0}

pub take_lacking : (book : BookState) (routes : List Route) (words : List ℕ) (c : PublisherCall) (a : ℕ) → IsThere routes c
    → ChangeFits (length routes) book (publisher_change c a) → UsesCounted (length routes) book
    → SendsLacking (length routes) book c
    → SendsLacking (length routes) (changed (publisher_change c a) book) (publisher_take routes words c a)
take_lacking book routes words publishing.Idle a there fits k h = tt
take_lacking book routes words (publishing.LoanReclaims place route p) a there fits k h
    = loaned_lacking (length routes) _ routes place route (refusing.pop_take p a) (refusing_pop_answer (refusing.pop_take p a))
take_lacking book routes words publishing.Lending a there fits k h = tt
take_lacking book routes words (publishing.Writing slot word value) a there fits k h
    = write_lacking (length routes) book slot (successor word) (slice_get words (successor word))
take_lacking book routes words (publishing.Written slot) a there fits k h = tt
take_lacking book routes words (publishing.Heading slot word value) a there fits k h
    = head_lacking (length routes) book slot (successor word) (slice_get words (successor word))
take_lacking book routes words (publishing.Remembering slot) a there fits k h = remembered_lacking book routes slot fits k
take_lacking book routes words (publishing.SendReclaims slot place route p) a there fits k h =
    let follows = back_follows place a p in
    swept_lacking (changed (publisher_change (publishing.SendReclaims slot place route p) a) book) routes slot place route
    (refusing.pop_take p a) (refusing_pop_answer (refusing.pop_take p a))
    (sending_after place book (publisher_change (publishing.SendReclaims slot place route p) a) slot follows.at h.0)
    (λ later le below. lacks_after (length routes) place book (publisher_change (publishing.SendReclaims slot place route p) a) later
    slot follows.at fits k (inl follows.puts) (h.1 later le below))
take_lacking book routes words (publishing.Pushing slot place route p delivery) a there fits k h =
    let below : place < length routes = slice_get_within routes place route there in
    let at = push_change_at place p a in
    pushed_lacking (changed (push_change place p a) book) routes slot place route (push_take p a) delivery (push_answer (push_take p a))
    (omega (arith, below, k.few))
    (sending_after place book (push_change place p a) slot at h.0) (push_goes_on book place slot p a h.1)
    (λ later le lt. lacks_after (length routes) place book (push_change place p a) later slot at fits k
    (inr (λ e. absurd (omega (arith, e, le)))) (h.2 later le lt))
take_lacking book routes words (publishing.Sent slot delivery) a there fits k h = tt
take_lacking book routes words (publishing.Dropping slot) a there fits k h = tt

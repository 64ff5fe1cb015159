-- The ends of a ring of samples given back: a publisher that takes back there, and a subscriber that gives back.
use Rattle.std.proofs.Common.{ℕ, ◌≡◌, ◌+◌, ◌<◌, ◌^◌, ◌==◌, ◌||◌, ◌⊎◌, Bool, true, false, if◌then◌else◌, nat_lt, List, slice_get}
use Rattle.std.proofs.Common.{Option, Some, None, refl, sym, ap, subst, inl, inr, arith}
use Rattle.std.proofs.lemmas.Bool.{eq-eqb}
use Rattle.std.proofs.lemmas.Bool.Decides.{eqb_tells}
use Rattle.iox_lanes_machine.specs.QueuesSteps.Access.{RingWords, successor, answer_of, after_access}
use Rattle.iox_lanes_machine.specs.QueuesSteps.declared.access.Access.{Access}
use Rattle.iox_lanes_machine.specs.QueuesSteps.declared.access.Access.TheVariants as own
use Rattle.iox_lanes_machine.specs.QueuesSteps.declared.order.PushAnswer.{PushAnswer}
use Rattle.iox_lanes_machine.specs.QueuesSteps.declared.order.PushAnswer.TheVariants.{Kept, LeftOut, Refused}
use Rattle.iox_lanes_machine.specs.QueuesSteps.declared.order.PopAnswer.{PopAnswer}
use Rattle.iox_lanes_machine.specs.QueuesSteps.declared.order.PopAnswer.TheVariants.{Got, Saw}
use Rattle.iox_lanes_machine.specs.QueuesSteps.Refusing as refusing
use Rattle.iox_lanes_machine.specs.QueuesSteps.Refusing.{Shape}
use Rattle.iox_lanes_machine.specs.QueuesSteps.declared.rings.refusing.push.Push.{Push}
use Rattle.iox_lanes_machine.specs.QueuesSteps.declared.rings.refusing.push.Push.TheVariants as push
use Rattle.iox_lanes_machine.specs.QueuesSteps.declared.rings.refusing.pop.Pop.{Pop}
use Rattle.iox_lanes_machine.specs.QueuesSteps.declared.rings.refusing.pop.Pop.TheVariants as pop
use Rattle.iox_lanes_machine.proofs.QueuesSteps.RefusingSteps as refusing_steps
use Rattle.iox_lanes_machine.specs.QueuesSteps.Ends.{push_take, pop_take}
use Rattle.iox_lanes_machine.specs.QueuesSteps.declared.rings.ends.Push as ring_push_type
use Rattle.iox_lanes_machine.specs.QueuesSteps.declared.rings.ends.Pop as ring_pop_type
use Rattle.iox_lanes_machine.specs.LanesBase.Table.{TableWords, shared_answer, after_shared, IsOfTable}
use Rattle.iox_lanes_machine.specs.LanesBase.Words.{on_ring}
use Rattle.iox_lanes_machine.specs.LanesBase.declared.words.word.ConnectionRing.TheVariants.{Submission, Completion}
use Rattle.iox_lanes_machine.specs.LanesBase.Answers.{push_answer, pop_answer, refusing_pop_answer, refusing_push_answer}
use Rattle.iox_lanes_machine.specs.LanesBase.Publishing.{publisher_next, publisher_take, loan_from, loan_reclaimed, write_from, head_from}
use Rattle.iox_lanes_machine.specs.LanesBase.Publishing.{push_from, sweep_from, send_reclaimed, pushed, counted, nothing_sent}
use Rattle.iox_lanes_machine.specs.LanesBase.Subscribing.{subscriber_next, subscriber_take, receive_from, received, is_full_at, released}
use Rattle.iox_lanes_machine.specs.LanesBase.declared.calls.publisher.Delivery.{Delivery}
use Rattle.iox_lanes_machine.specs.LanesBase.declared.calls.publisher.PublisherCall.{PublisherCall}
use Rattle.iox_lanes_machine.specs.LanesBase.declared.calls.publisher.PublisherCall.TheVariants as publishing
use Rattle.iox_lanes_machine.specs.LanesBase.declared.calls.route.Route.{Route}
use Rattle.iox_lanes_machine.specs.LanesBase.declared.calls.subscriber.SlotExtent.{SlotExtent}
use Rattle.iox_lanes_machine.specs.LanesBase.declared.calls.subscriber.SubscriberCall.{SubscriberCall}
use Rattle.iox_lanes_machine.specs.LanesBase.declared.calls.subscriber.SubscriberCall.TheVariants as subscribing
use Rattle.iox_lanes_machine.specs.Returns.{back_ring, reclaim_on, release_on}
use Rattle.iox_lanes_machine.proofs.Ends.{choose_one, choose_other}
use Rattle.iox_lanes_machine.proofs.InTable.{IsSeat, GoesElsewhere, access_answer, access_after}

-- the connection where a publisher takes back
abbrev pub reclaims_at : PublisherCall → Option ℕ
reclaims_at publishing.Idle = None
reclaims_at (publishing.LoanReclaims place route p) = Some route.connection
reclaims_at publishing.Lending = None
reclaims_at (publishing.Writing slot word value) = None
reclaims_at (publishing.Written slot) = None
reclaims_at (publishing.Heading slot word value) = None
reclaims_at (publishing.Remembering slot) = None
reclaims_at (publishing.SendReclaims slot place route p) = Some route.connection
reclaims_at (publishing.Pushing slot place route p delivery) = None
reclaims_at (publishing.Sent slot delivery) = None
reclaims_at (publishing.Dropping slot) = None

-- the connection where a subscriber gives back
abbrev pub releases_at : SubscriberCall → Option ℕ
releases_at subscribing.Idle = None
releases_at (subscribing.Receiving place route p waits) = None
releases_at (subscribing.Received given) = None
releases_at (subscribing.Reading slot word extent) = None
releases_at (subscribing.WasRead slot) = None
releases_at (subscribing.Releasing place route p) = Some route.connection
releases_at (subscribing.Released done) = None

-- a pop that has just begun, or none
abbrev pub IsFresh : Pop → Type 0
IsFresh p = (p ≡ pop.Idle) ⊎ (p ≡ pop.Begun)

pub fresh_shape : (cells : ℕ) (words : RingWords) (q : List ℕ) (p : Push) (c c' : Pop) → IsFresh c' → Shape cells words q p c
    → Shape cells words q p c'
fresh_shape cells words q p c c' (inl e) s
    = subst (λ (x : Pop). Shape cells words q p x) (sym e) (refusing_steps.restage cells words q p p c pop.Idle s s.push_knows tt)
fresh_shape cells words q p c c' (inr e) s
    = subst (λ (x : Pop). Shape cells words q p x) (sym e) (refusing_steps.restage cells words q p p c pop.Begun s s.push_knows tt)

pub idle_shape : (cells : ℕ) (words : RingWords) (q : List ℕ) (p : Push) (c : Pop) → Shape cells words q p c
    → Shape cells words q push.Idle c
idle_shape cells words q p c s = refusing_steps.restage cells words q p push.Idle c c s tt s.pop_knows

pub reclaim_off : (connection : ℕ) (call : PublisherCall) → (reclaims_at call ≡ Some connection → ⊥) → reclaim_on connection call ≡ pop.Idle
reclaim_off connection publishing.Idle off = refl
reclaim_off connection (publishing.LoanReclaims place route p) off = elim (eqb_tells route.connection connection) [
  | inl here ↦ absurd (off (ap (λ (n : ℕ). Some n) here.1))
  | inr there ↦ choose_other (route.connection == connection) p pop.Idle there.0
]
reclaim_off connection publishing.Lending off = refl
reclaim_off connection (publishing.Writing slot word value) off = refl
reclaim_off connection (publishing.Written slot) off = refl
reclaim_off connection (publishing.Heading slot word value) off = refl
reclaim_off connection (publishing.Remembering slot) off = refl
reclaim_off connection (publishing.SendReclaims slot place route p) off = elim (eqb_tells route.connection connection) [
  | inl here ↦ absurd (off (ap (λ (n : ℕ). Some n) here.1))
  | inr there ↦ choose_other (route.connection == connection) p pop.Idle there.0
]
reclaim_off connection (publishing.Pushing slot place route p delivery) off = refl
reclaim_off connection (publishing.Sent slot delivery) off = refl
reclaim_off connection (publishing.Dropping slot) off = refl

pub release_off : (connection : ℕ) (call : SubscriberCall) → (releases_at call ≡ Some connection → ⊥)
    → release_on connection call ≡ push.Idle
release_off connection subscribing.Idle off = refl
release_off connection (subscribing.Receiving place route p waits) off = refl
release_off connection (subscribing.Received given) off = refl
release_off connection (subscribing.Reading slot word extent) off = refl
release_off connection (subscribing.WasRead slot) off = refl
release_off connection (subscribing.Releasing place route p) off = elim (eqb_tells route.connection connection) [
  | inl here ↦ absurd (off (ap (λ (n : ℕ). Some n) here.1))
  | inr there ↦ choose_other (route.connection == connection) p push.Idle there.0
]
release_off connection (subscribing.Released done) off = refl

pub loan_here : (place : ℕ) (route : Route) (p : Pop) → reclaim_on route.connection (publishing.LoanReclaims place route p) ≡ p
loan_here place route p = choose_one (route.connection == route.connection) p pop.Idle (eq-eqb route.connection route.connection refl)

pub send_here : (slot place : ℕ) (route : Route) (p : Pop) → reclaim_on route.connection (publishing.SendReclaims slot place route p) ≡ p
send_here slot place route p = choose_one (route.connection == route.connection) p pop.Idle (eq-eqb route.connection route.connection refl)

pub release_here : (place : ℕ) (route : Route) (p : Push) → release_on route.connection (subscribing.Releasing place route p) ≡ p
release_here place route p = choose_one (route.connection == route.connection) p push.Idle (eq-eqb route.connection route.connection refl)

-- a publisher that comes to a connection begins a pop there
fresh_if : (test : Bool) → IsFresh (if test then pop.Begun else pop.Idle)
fresh_if true = inr refl
fresh_if false = inl refl

pub loan_fresh : (connection place : ℕ) (at : Option Route) → IsFresh (reclaim_on connection (loan_from place at))
loan_fresh connection place None = inl refl
loan_fresh connection place (Some route) = fresh_if (route.connection == connection)

loan_again : (connection place : ℕ) (route : Route) → IsFresh (reclaim_on connection (publishing.LoanReclaims place route pop.Begun))
loan_again connection place route = fresh_if (route.connection == connection)

send_again : (connection slot place : ℕ) (route : Route)
    → IsFresh (reclaim_on connection (publishing.SendReclaims slot place route pop.Begun))
send_again connection slot place route = fresh_if (route.connection == connection)

pub push_none : (connection slot place : ℕ) (delivery : Delivery) (at : Option Route)
    → reclaim_on connection (push_from slot place delivery at) ≡ pop.Idle
push_none connection slot place delivery None = refl
push_none connection slot place delivery (Some route) = refl

pub sweep_fresh : (connection : ℕ) (routes : List Route) (slot place : ℕ) (at : Option Route)
    → IsFresh (reclaim_on connection (sweep_from routes slot place at))
sweep_fresh connection routes slot place None = inl (push_none connection slot 0 nothing_sent (slice_get routes 0))
sweep_fresh connection routes slot place (Some route) = send_again connection slot place route

write_none : (connection slot word : ℕ) (at : Option ℕ) → reclaim_on connection (write_from slot word at) ≡ pop.Idle
write_none connection slot word None = refl
write_none connection slot word (Some value) = refl

head_none : (connection slot word : ℕ) (at : Option ℕ) → reclaim_on connection (head_from slot word at) ≡ pop.Idle
head_none connection slot word None = refl
head_none connection slot word (Some value) = refl

pushed_none : (connection : ℕ) (routes : List Route) (slot place : ℕ) (route : Route) (p : ring_push_type.Push) (delivery : Delivery)
    (a : Option PushAnswer) → reclaim_on connection (pushed routes slot place route p delivery a) ≡ pop.Idle
pushed_none connection routes slot place route p delivery None = refl
pushed_none connection routes slot place route p delivery (Some a)
    = push_none connection slot (successor place) (counted delivery a) (slice_get routes (successor place))

-- one that found something there, or nothing
reclaimed_fresh : (connection : ℕ) (routes : List Route) (place : ℕ) (route : Route) (p : Pop) (a : Option PopAnswer)
    → (Some route.connection ≡ Some connection → ⊥) → IsFresh (reclaim_on connection (loan_reclaimed routes place route p a))
reclaimed_fresh connection routes place route p None off = inl (reclaim_off connection (publishing.LoanReclaims place route p) off)
reclaimed_fresh connection routes place route p (Some (Got (Some slot))) off = loan_again connection place route
reclaimed_fresh connection routes place route p (Some (Got None)) off
    = loan_fresh connection (successor place) (slice_get routes (successor place))
reclaimed_fresh connection routes place route p (Some (Saw some)) off
    = loan_fresh connection (successor place) (slice_get routes (successor place))

swept_fresh : (connection : ℕ) (routes : List Route) (slot place : ℕ) (route : Route) (p : Pop) (a : Option PopAnswer)
    → (Some route.connection ≡ Some connection → ⊥) → IsFresh (reclaim_on connection (send_reclaimed routes slot place route p a))
swept_fresh connection routes slot place route p None off = inl (reclaim_off connection (publishing.SendReclaims slot place route p) off)
swept_fresh connection routes slot place route p (Some (Got (Some back))) off = send_again connection slot place route
swept_fresh connection routes slot place route p (Some (Got None)) off
    = sweep_fresh connection routes slot (successor place) (slice_get routes (successor place))
swept_fresh connection routes slot place route p (Some (Saw some)) off
    = sweep_fresh connection routes slot (successor place) (slice_get routes (successor place))

-- after a step elsewhere a publisher may begin to take back
pub take_fresh : (connection : ℕ) (routes : List Route) (words : List ℕ) (call : PublisherCall) (a : ℕ)
    → (reclaims_at call ≡ Some connection → ⊥) → IsFresh (reclaim_on connection (publisher_take routes words call a))
take_fresh connection routes words publishing.Idle a off = inl refl
take_fresh connection routes words (publishing.LoanReclaims place route p) a off
    = reclaimed_fresh connection routes place route (refusing.pop_take p a) (refusing_pop_answer (refusing.pop_take p a)) off
take_fresh connection routes words publishing.Lending a off = inl refl
take_fresh connection routes words (publishing.Writing slot word value) a off
    = inl (write_none connection slot (successor word) (slice_get words (successor word)))
take_fresh connection routes words (publishing.Written slot) a off = inl refl
take_fresh connection routes words (publishing.Heading slot word value) a off
    = inl (head_none connection slot (successor word) (slice_get words (successor word)))
take_fresh connection routes words (publishing.Remembering slot) a off = sweep_fresh connection routes slot 0 (slice_get routes 0)
take_fresh connection routes words (publishing.SendReclaims slot place route p) a off
    = swept_fresh connection routes slot place route (refusing.pop_take p a) (refusing_pop_answer (refusing.pop_take p a)) off
take_fresh connection routes words (publishing.Pushing slot place route p delivery) a off
    = inl (pushed_none connection routes slot place route (push_take p a) delivery (push_answer (push_take p a)))
take_fresh connection routes words (publishing.Sent slot delivery) a off = inl refl
take_fresh connection routes words (publishing.Dropping slot) a off = inl refl

-- after a step of the pop itself it goes on, or another may begin
pub next_reclaim : (cells : ℕ) (words : RingWords) (q : List ℕ) (given : Push) (routes : List Route) (place : ℕ) (route : Route)
    (p : Pop) (a : Option PopAnswer) → Shape cells words q given p
    → Shape cells words q given (reclaim_on route.connection (loan_reclaimed routes place route p a))
next_reclaim cells words q given routes place route p None s
    = subst (λ (x : Pop). Shape cells words q given x) (sym (loan_here place route p)) s
next_reclaim cells words q given routes place route p (Some (Got (Some slot))) s
    = fresh_shape cells words q given p _ (loan_again route.connection place route) s
next_reclaim cells words q given routes place route p (Some (Got None)) s
    = fresh_shape cells words q given p _ (loan_fresh route.connection (successor place) (slice_get routes (successor place))) s
next_reclaim cells words q given routes place route p (Some (Saw some)) s
    = fresh_shape cells words q given p _ (loan_fresh route.connection (successor place) (slice_get routes (successor place))) s

pub next_sweep : (cells : ℕ) (words : RingWords) (q : List ℕ) (given : Push) (routes : List Route) (slot place : ℕ) (route : Route)
    (p : Pop) (a : Option PopAnswer) → Shape cells words q given p
    → Shape cells words q given (reclaim_on route.connection (send_reclaimed routes slot place route p a))
next_sweep cells words q given routes slot place route p None s
    = subst (λ (x : Pop). Shape cells words q given x) (sym (send_here slot place route p)) s
next_sweep cells words q given routes slot place route p (Some (Got (Some back))) s
    = fresh_shape cells words q given p _ (send_again route.connection slot place route) s
next_sweep cells words q given routes slot place route p (Some (Got None)) s
    = fresh_shape cells words q given p _
    (sweep_fresh route.connection routes slot (successor place) (slice_get routes (successor place))) s
next_sweep cells words q given routes slot place route p (Some (Saw some)) s
    = fresh_shape cells words q given p _
    (sweep_fresh route.connection routes slot (successor place) (slice_get routes (successor place))) s

-- a subscriber elsewhere gives nothing back there
pub receive_none : (connection place : ℕ) (full waits : Bool) (at : Option Route)
    → release_on connection (receive_from place full waits at) ≡ push.Idle
receive_none connection place full waits None = refl
receive_none connection place full waits (Some route) = refl

received_none : (connection : ℕ) (routes : List Route) (borrowed : List ℕ) (most place : ℕ) (route : Route) (p : ring_pop_type.Pop)
    (waits : Bool) (a : Option PopAnswer) → release_on connection (received routes borrowed most place route p waits a) ≡ push.Idle
received_none connection routes borrowed most place route p waits None = refl
received_none connection routes borrowed most place route p waits (Some (Got (Some slot))) = refl
received_none connection routes borrowed most place route p waits (Some (Got None))
    = receive_none connection (successor place) (is_full_at borrowed most (successor place)) waits (slice_get routes (successor place))
received_none connection routes borrowed most place route p waits (Some (Saw some))
    = receive_none connection (successor place) (is_full_at borrowed most (successor place)) (waits || some)
    (slice_get routes (successor place))

pub read_none : (connection slot word : ℕ) (extent : SlotExtent) (test : Bool)
    → release_on connection (if test then subscribing.Reading slot word extent else subscribing.WasRead slot) ≡ push.Idle
read_none connection slot word extent true = refl
read_none connection slot word extent false = refl

released_none : (connection place : ℕ) (route : Route) (p : Push) (a : Option PushAnswer)
    → (Some route.connection ≡ Some connection → ⊥) → release_on connection (released place route p a) ≡ push.Idle
released_none connection place route p None off = release_off connection (subscribing.Releasing place route p) off
released_none connection place route p (Some Kept) off = refl
released_none connection place route p (Some (LeftOut oldest)) off = refl
released_none connection place route p (Some Refused) off = refl

pub take_none : (connection : ℕ) (routes : List Route) (borrowed : List ℕ) (most : ℕ) (call : SubscriberCall) (a : ℕ)
    → (releases_at call ≡ Some connection → ⊥) → release_on connection (subscriber_take routes borrowed most call a) ≡ push.Idle
take_none connection routes borrowed most subscribing.Idle a off = refl
take_none connection routes borrowed most (subscribing.Receiving place route p waits) a off
    = received_none connection routes borrowed most place route (pop_take p a) waits (pop_answer (pop_take p a))
take_none connection routes borrowed most (subscribing.Received given) a off = refl
take_none connection routes borrowed most (subscribing.Reading slot word extent) a off
    = read_none connection slot (successor word) extent (nat_lt (successor word) (3 + extent.user_header_words + extent.payload_words))
take_none connection routes borrowed most (subscribing.WasRead slot) a off = refl
take_none connection routes borrowed most (subscribing.Releasing place route p) a off
    = released_none connection place route (refusing.push_take p a) (refusing_push_answer (refusing.push_take p a)) off
take_none connection routes borrowed most (subscribing.Released done) a off = refl

-- after a step of the push itself it goes on, or is over
pub next_release : (cells : ℕ) (words : RingWords) (q : List ℕ) (c : Pop) (place : ℕ) (route : Route) (p : Push) (a : Option PushAnswer)
    → Shape cells words q p c → Shape cells words q (release_on route.connection (released place route p a)) c
next_release cells words q c place route p None s = subst (λ (x : Push). Shape cells words q x c) (sym (release_here place route p)) s
next_release cells words q c place route p (Some Kept) s = idle_shape cells words q p c s
next_release cells words q c place route p (Some (LeftOut oldest)) s = idle_shape cells words q p c s
next_release cells words q c place route p (Some Refused) s = idle_shape cells words q p c s

-- an access elsewhere
sent_off : (table : TableWords) (here connection cells : ℕ) (access : Access)
    → IsOfTable table.sizes (on_ring connection Submission cells access)
    → GoesElsewhere Completion table here (on_ring connection Submission cells access)
sent_off table here connection cells (own.Load word) h = tt
sent_off table here connection cells (own.Store word value) h = (h, tt)
sent_off table here connection cells (own.Exchange word old new) h = (h, tt)
sent_off table here connection cells own.Local h = tt

other_off : (table : TableWords) (here connection cells : ℕ) (access : Access) → (Some connection ≡ Some here → ⊥)
    → IsOfTable table.sizes (on_ring connection Completion cells access)
    → GoesElsewhere Completion table here (on_ring connection Completion cells access)
other_off table here connection cells (own.Load word) off h = tt
other_off table here connection cells (own.Store word value) off h = (h, λ e. off (ap (λ (n : ℕ). Some n) e))
other_off table here connection cells (own.Exchange word old new) off h = (h, λ e. off (ap (λ (n : ℕ). Some n) e))
other_off table here connection cells own.Local off h = tt

pub publisher_off : (table : TableWords) (here : ℕ) (call : PublisherCall) → (reclaims_at call ≡ Some here → ⊥)
    → IsOfTable table.sizes (publisher_next call) → GoesElsewhere Completion table here (publisher_next call)
publisher_off table here publishing.Idle off h = tt
publisher_off table here (publishing.LoanReclaims place route p) off h
    = other_off table here route.connection route.completion_cells _ off h
publisher_off table here publishing.Lending off h = tt
publisher_off table here (publishing.Writing slot word value) off h = (h, tt)
publisher_off table here (publishing.Written slot) off h = tt
publisher_off table here (publishing.Heading slot word value) off h = (h, tt)
publisher_off table here (publishing.Remembering slot) off h = tt
publisher_off table here (publishing.SendReclaims slot place route p) off h
    = other_off table here route.connection route.completion_cells _ off h
publisher_off table here (publishing.Pushing slot place route p delivery) off h
    = sent_off table here route.connection route.submission_cells _ h
publisher_off table here (publishing.Sent slot delivery) off h = tt
publisher_off table here (publishing.Dropping slot) off h = tt

pub subscriber_off : (table : TableWords) (here : ℕ) (call : SubscriberCall) → (releases_at call ≡ Some here → ⊥)
    → IsOfTable table.sizes (subscriber_next call) → GoesElsewhere Completion table here (subscriber_next call)
subscriber_off table here subscribing.Idle off h = tt
subscriber_off table here (subscribing.Receiving place route p waits) off h
    = sent_off table here route.connection route.submission_cells _ h
subscriber_off table here (subscribing.Received given) off h = tt
subscriber_off table here (subscribing.Reading slot word extent) off h = tt
subscriber_off table here (subscribing.WasRead slot) off h = tt
subscriber_off table here (subscribing.Releasing place route p) off h = other_off table here route.connection route.completion_cells _ off h
subscriber_off table here (subscribing.Released done) off h = tt

-- one access of an end of the ring
pub record Back (cells moments : ℕ) (words : RingWords) (p : Push) (c : Pop) : Type 0 where
  pub list : List ℕ
  pub shape : Shape cells words list p c
  pub few : words.write < moments + 2 ^ 63

later : (n : ℕ) → n < 2 ^ 63 → successor n ≡ n + 1
later n h = omega arith

pub pop_goes : (cells : ℕ) (table : TableWords) (moments connection : ℕ) (q : List ℕ) (p : Push) (c : Pop)
    → IsSeat Completion table connection cells → moments < 2 ^ 63 → (back_ring table connection cells).write < moments + 2 ^ 63
    → Shape cells (back_ring table connection cells) q p c
    → Back cells (successor moments) (back_ring (after_shared table (on_ring connection Completion cells (refusing.pop_next c)))
    connection cells) p (refusing.pop_take c (shared_answer table (on_ring connection Completion cells (refusing.pop_next c))))
pop_goes cells table moments connection q p c st bound few s =
    let words : RingWords = back_ring table connection cells in
    let g = refusing_steps.pop_goes cells words q p c (omega (arith, few, bound)) s in
    let given : answer_of words (refusing.pop_next c) ≡ shared_answer table (on_ring connection Completion cells (refusing.pop_next c))
    = access_answer Completion table connection cells (refusing.pop_next c) st in
    let after : after_access words (refusing.pop_next c)
    ≡ back_ring (after_shared table (on_ring connection Completion cells (refusing.pop_next c))) connection cells
    = access_after Completion table connection cells (refusing.pop_next c) st in
    record {
      list = g.list;
      shape = subst (λ (a : ℕ). Shape cells
          (back_ring (after_shared table (on_ring connection Completion cells (refusing.pop_next c))) connection cells) g.list p
          (refusing.pop_take c a)) given
          (subst (λ (ws : RingWords). Shape cells ws g.list p (refusing.pop_take c (answer_of words (refusing.pop_next c)))) after g.shape);
      few = omega (arith, ap (λ (ws : RingWords). ws.write) after, refusing_steps.pop_grows words c, few, later moments bound);
    }

pub push_goes : (cells : ℕ) (table : TableWords) (moments connection : ℕ) (q : List ℕ) (p : Push) (c : Pop)
    → IsSeat Completion table connection cells → moments < 2 ^ 63 → (back_ring table connection cells).write < moments + 2 ^ 63
    → Shape cells (back_ring table connection cells) q p c
    → Back cells (successor moments) (back_ring (after_shared table (on_ring connection Completion cells (refusing.push_next p)))
    connection cells) (refusing.push_take p (shared_answer table (on_ring connection Completion cells (refusing.push_next p)))) c
push_goes cells table moments connection q p c st bound few s =
    let words : RingWords = back_ring table connection cells in
    let g = refusing_steps.push_goes cells words q p c (omega (arith, few, bound)) s in
    let given : answer_of words (refusing.push_next p)
    ≡ shared_answer table (on_ring connection Completion cells (refusing.push_next p))
    = access_answer Completion table connection cells (refusing.push_next p) st in
    let after : after_access words (refusing.push_next p)
    ≡ back_ring (after_shared table (on_ring connection Completion cells (refusing.push_next p))) connection cells
    = access_after Completion table connection cells (refusing.push_next p) st in
    record {
      list = g.list;
      shape = subst (λ (a : ℕ). Shape cells
          (back_ring (after_shared table (on_ring connection Completion cells (refusing.push_next p))) connection cells) g.list
          (refusing.push_take p a) c) given
          (subst (λ (ws : RingWords). Shape cells ws g.list (refusing.push_take p (answer_of words (refusing.push_next p))) c) after
          g.shape);
      few = omega (
        arith,
        ap (λ (ws : RingWords). ws.write) after,
        refusing_steps.push_grows cells words q p s.push_knows,
        few,
        later
            moments bound,
      );
    }

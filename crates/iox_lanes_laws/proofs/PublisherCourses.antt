-- A publisher's call makes the accesses of its course in any run, and ends right after the last one.
use Rattle.std.proofs.Common.{ℕ, ◌≡◌, ◌+◌, ◌-◌, ◌<◌, ◌≤◌, ◌^◌, ◌==◌, ◌&&◌, ◌⊎◌, nat_lt, Bool, true, false, if◌then◌else◌, List, [], ◌∷◌}
use Rattle.std.proofs.Common.{◌++◌, length, slice_get, Option, Some, None, refl, sym, ◌∙◌, ap, ap₂, subst, inl, inr, arith, append-nil}
use Rattle.std.proofs.Common.{append_assoc}
use Rattle.std.proofs.lemmas.Bool.Decides.{eqb_tells}
use Rattle.iox_queues_steps.specs.Access.{successor}
use Rattle.iox_queues_steps.specs.declared.access.Access.{Access}
use Rattle.iox_queues_steps.specs.declared.access.Access.TheVariants as own
use Rattle.iox_queues_steps.specs.declared.order.PopAnswer.{PopAnswer}
use Rattle.iox_queues_steps.specs.declared.order.PopAnswer.TheVariants.{Got, Saw}
use Rattle.iox_queues_steps.specs.declared.order.PushAnswer.{PushAnswer}
use Rattle.iox_queues_steps.specs.declared.order.PushAnswer.TheVariants.{Kept, Refused}
use Rattle.iox_queues_steps.specs.Refusing as refusing
use Rattle.iox_queues_steps.specs.Overflowing as overflowing
use Rattle.iox_queues_steps.specs.Ends.{push_begun, push_next, push_take}
use Rattle.iox_queues_steps.specs.declared.rings.refusing.pop.Pop as refusing_pop_type
use Rattle.iox_queues_steps.specs.declared.rings.refusing.pop.Pop.TheVariants as pop
use Rattle.iox_queues_steps.specs.declared.rings.refusing.push.Push as refusing_push_type
use Rattle.iox_queues_steps.specs.declared.rings.refusing.push.Push.TheVariants as refusing_push
use Rattle.iox_queues_steps.specs.declared.rings.overflowing.push.Push as overflowing_push_type
use Rattle.iox_queues_steps.specs.declared.rings.overflowing.push.Push.TheVariants as overflowing_push
use Rattle.iox_queues_steps.specs.declared.rings.ends.RingKind.{RingKind}
use Rattle.iox_queues_steps.specs.declared.rings.ends.RingKind.TheVariants as kind
use Rattle.iox_queues_steps.specs.declared.rings.ends.Push.{Push}
use Rattle.iox_queues_steps.specs.declared.rings.ends.Push.TheVariants as push
use Rattle.iox_lanes_base.specs.Answers.{refusing_pop_answer, push_answer, refusing_push_answer}
use Rattle.iox_lanes_base.specs.Table.{shared_answer}
use Rattle.iox_lanes_base.specs.Words.{on_ring}
use Rattle.iox_lanes_base.specs.Publishing.{publisher_next, publisher_take, publisher_is_idle, publisher_is_over, loan_from}
use Rattle.iox_lanes_base.specs.Publishing.{loan_reclaimed, write_from, head_from, push_from, sweep_from, send_reclaimed, pushed}
use Rattle.iox_lanes_base.specs.Publishing.{nothing_sent, counted}
use Rattle.iox_lanes_base.specs.declared.words.word.ConnectionRing.{ConnectionRing}
use Rattle.iox_lanes_base.specs.declared.words.access.SharedAccess.{SharedAccess}
use Rattle.iox_lanes_base.specs.declared.words.access.SharedAccess.TheVariants.{Local}
use Rattle.iox_lanes_base.specs.declared.calls.publisher.Delivery.{Delivery}
use Rattle.iox_lanes_base.specs.declared.calls.publisher.PublisherCall.{PublisherCall}
use Rattle.iox_lanes_base.specs.declared.calls.publisher.PublisherCall.TheVariants as publishing
use Rattle.iox_lanes_base.specs.declared.calls.route.Route.{Route}
use Rattle.iox_lanes_machine.specs.LanesParties.Publishers.{words_of}
use Rattle.iox_lanes_machine.specs.LanesParties.Parties.{PublisherLaneState, publisher_may, publisher_fits, publisher_begun}
use Rattle.iox_lanes_machine.specs.LanesParties.Parties.{publisher_after, head_of}
use Rattle.iox_lanes_machine.specs.LanesParties.declared.call.Call.{Call}
use Rattle.iox_lanes_machine.specs.LanesParties.declared.call.Call.TheVariants as call
use Rattle.iox_lanes_machine.specs.LanesParties.declared.call.Entry.{Entry}
use Rattle.iox_lanes_machine.specs.LanesParties.declared.call.Move.{Move}
use Rattle.iox_lanes_machine.specs.LanesParties.declared.call.Move.TheVariants.{Begin, GoOn}
use Rattle.iox_lanes_machine.specs.LanesParties.declared.call.Party.{Party}
use Rattle.iox_lanes_machine.specs.LanesParties.declared.call.Party.TheVariants.{Publisher, Subscriber}
use Rattle.iox_lanes_machine.proofs.LanesParties.Rings.{and_left, and_right}
use Rattle.iox_lanes_machine.specs.Apart.{access_of, publisher_access}
use Rattle.iox_lanes_machine.specs.Paces.{after_entry, led}
use Rattle.iox_lanes_machine.specs.Sends.{is_sender}
use Rattle.iox_lanes_machine.specs.World.{World, fits, happens, publisher_begins, publisher_ends_at, publisher_fits_at}
use Rattle.iox_lanes_machine.specs.World.{publisher_given, publisher_stage}
use Rattle.iox_lanes_machine.proofs.Ends.{some_is}
use Rattle.iox_lanes_machine.proofs.Paces.{begun_first, later, one_more, turn}
use Rattle.iox_lanes_machine.proofs.Steps.{happens_moments}
use Rattle.iox_lanes_machine.proofs.Within.{set_same}
use Rattle.iox_lanes_laws.specs.Accesses.{own_accesses, own_answers, publisher_call_course, words_stored, IsPublisherCall}
use Rattle.iox_lanes_laws.specs.Accesses.{PublishersKeepCourse, PublishersEndAtOnce}
use Rattle.iox_lanes_laws.specs.Courses.{publisher_course, quiet_course}
use Rattle.iox_lanes_laws.proofs.CourseLaws.{idle_course, loans_take_back, writes_store}
use Rattle.iox_lanes_laws.proofs.SendLaws.{sends_push}

-- an access to a ring touches a word if that of its end does
pub quiet_ring : (connection : ℕ) (ring : ConnectionRing) (cells : ℕ) (a : Access) → on_ring connection ring cells a ≡ Local → a ≡ own.Local
quiet_ring connection ring cells (own.Load word) h = absurd (cc h)
quiet_ring connection ring cells (own.Store word value) h = absurd (cc h)
quiet_ring connection ring cells (own.Exchange word old new) h = absurd (cc h)
quiet_ring connection ring cells own.Local h = refl

-- a pop that goes on touches a word
emptied_goes : (b : Bool) (read : ℕ) → refusing_pop_answer (refusing.pop_emptied b read) ≡ None
    → refusing.pop_next (refusing.pop_emptied b read) ≡ own.Local → ⊥
emptied_goes true read goes quiet = absurd (cc goes)
emptied_goes false read goes quiet = absurd (cc quiet)

pub pop_goes : (p : refusing_pop_type.Pop) (given : ℕ) → (refusing.pop_next p ≡ own.Local → ⊥)
    → refusing_pop_answer (refusing.pop_take p given) ≡ None → refusing.pop_next (refusing.pop_take p given) ≡ own.Local → ⊥
pop_goes pop.Idle given was goes quiet = was refl
pop_goes pop.Begun given was goes quiet = absurd (cc quiet)
pop_goes (pop.SawRead read) given was goes quiet = emptied_goes (given == read) read goes quiet
pop_goes (pop.Nonempty read next) given was goes quiet = absurd (cc quiet)
pop_goes (pop.SawCell next value) given was goes quiet = absurd (cc goes)
pop_goes (pop.Popped got) given was goes quiet = was refl
pop_goes pop.LookBegun given was goes quiet = absurd (cc quiet)
pop_goes (pop.LookRead read) given was goes quiet = absurd (cc goes)
pop_goes (pop.Looked some) given was goes quiet = was refl

-- a push that goes on touches a word
measured_goes : (b : Bool) (value write next : ℕ)
    → refusing_push_answer (if b then refusing_push.SawRoom value write next else refusing_push.Pushed value Refused) ≡ None
    → refusing.push_next (if b then refusing_push.SawRoom value write next else refusing_push.Pushed value Refused) ≡ own.Local → ⊥
measured_goes true value write next goes quiet = absurd (cc quiet)
measured_goes false value write next goes quiet = absurd (cc goes)

pub refusing_goes : (p : refusing_push_type.Push) (given : ℕ) → (refusing.push_next p ≡ own.Local → ⊥)
    → refusing_push_answer (refusing.push_take p given) ≡ None → refusing.push_next (refusing.push_take p given) ≡ own.Local → ⊥
refusing_goes refusing_push.Idle given was goes quiet = was refl
refusing_goes (refusing_push.Begun limit value) given was goes quiet = absurd (cc quiet)
refusing_goes (refusing_push.SawWrite limit value write next) given was goes quiet
    = measured_goes (nat_lt (write - given) limit) value write next goes quiet
refusing_goes (refusing_push.SawRoom value write next) given was goes quiet = absurd (cc quiet)
refusing_goes (refusing_push.Filled value next) given was goes quiet = absurd (cc goes)
refusing_goes (refusing_push.Pushed value answered) given was goes quiet = was refl

filled_goes : (limit value next read : ℕ) (b : Bool)
    → push_answer (push.Overflowing
    (if b then overflowing_push.Full value read (successor read) else overflowing_push.Pushed value Kept)) ≡ None
    → overflowing.push_next (if b then overflowing_push.Full value read (successor read) else overflowing_push.Pushed value Kept)
    ≡ own.Local → ⊥
filled_goes limit value next read true goes quiet = absurd (cc quiet)
filled_goes limit value next read false goes quiet = absurd (cc goes)

overflowing_goes : (p : overflowing_push_type.Push) (given : ℕ) → (overflowing.push_next p ≡ own.Local → ⊥)
    → push_answer (push.Overflowing (overflowing.push_take p given)) ≡ None
    → overflowing.push_next (overflowing.push_take p given) ≡ own.Local → ⊥
overflowing_goes overflowing_push.Idle given was goes quiet = was refl
overflowing_goes (overflowing_push.Begun limit value) given was goes quiet = absurd (cc quiet)
overflowing_goes (overflowing_push.SawWrite limit value write next) given was goes quiet = absurd (cc quiet)
overflowing_goes (overflowing_push.SawRead limit value write next read) given was goes quiet = absurd (cc quiet)
overflowing_goes (overflowing_push.Filled limit value write next read) given was goes quiet
    = filled_goes limit value next read (nat_lt limit (next - read)) goes quiet
overflowing_goes (overflowing_push.Full value read next) given was goes quiet = absurd (cc quiet)
overflowing_goes (overflowing_push.SawOldest value read next oldest) given was goes quiet = absurd (cc goes)
overflowing_goes (overflowing_push.Pushed value answered) given was goes quiet = was refl

push_goes : (p : Push) (given : ℕ) → (push_next p ≡ own.Local → ⊥) → push_answer (push_take p given) ≡ None
    → push_next (push_take p given) ≡ own.Local → ⊥
push_goes (push.Overflowing p) given was goes quiet = overflowing_goes p given was goes quiet
push_goes (push.Refusing p) given was goes quiet = refusing_goes p given was goes quiet

begun_goes : (k : RingKind) (limit slot : ℕ) → push_next (push_begun k limit slot) ≡ own.Local → ⊥
begun_goes kind.Overflowing limit slot quiet = absurd (cc quiet)
begun_goes kind.Refusing limit slot quiet = absurd (cc quiet)

-- a stage whose step touches no word is the last one, or that of the history, or no call is in progress
abbrev Goes : PublisherCall → Type 0
Goes publishing.Idle = Unit {0}
Goes (publishing.LoanReclaims place route p) = refusing.pop_next p ≡ own.Local → ⊥
Goes publishing.Lending = Unit {0}
Goes (publishing.Writing slot word value) = Unit {0}
Goes (publishing.Written slot) = Unit {0}
Goes (publishing.Heading slot word value) = Unit {0}
Goes (publishing.Remembering slot) = Unit {0}
Goes (publishing.SendReclaims slot place route p) = refusing.pop_next p ≡ own.Local → ⊥
Goes (publishing.Pushing slot place route p delivery) = push_next p ≡ own.Local → ⊥
Goes (publishing.Sent slot delivery) = Unit {0}
Goes (publishing.Dropping slot) = Unit {0}

loan_goes : (place : ℕ) (at : Option Route) → Goes (loan_from place at)
loan_goes place None = tt
loan_goes place (Some route) = λ quiet. absurd (cc quiet)

write_goes : (slot word : ℕ) (at : Option ℕ) → Goes (write_from slot word at)
write_goes slot word None = tt
write_goes slot word (Some value) = tt

head_goes : (slot word : ℕ) (at : Option ℕ) → Goes (head_from slot word at)
head_goes slot word None = tt
head_goes slot word (Some value) = tt

put_goes : (slot place : ℕ) (delivery : Delivery) (at : Option Route) → Goes (push_from slot place delivery at)
put_goes slot place delivery None = tt
put_goes slot place delivery (Some route) = begun_goes route.kind route.limit slot

sweep_goes : (routes : List Route) (slot place : ℕ) (at : Option Route) → Goes (sweep_from routes slot place at)
sweep_goes routes slot place None = put_goes slot 0 nothing_sent (slice_get routes 0)
sweep_goes routes slot place (Some route) = λ quiet. absurd (cc quiet)

loan_on : (routes : List Route) (place : ℕ) (route : Route) (p : refusing_pop_type.Pop) (a : Option PopAnswer)
    → (a ≡ None → refusing.pop_next p ≡ own.Local → ⊥) → Goes (loan_reclaimed routes place route p a)
loan_on routes place route p None h = h refl
loan_on routes place route p (Some (Got (Some slot))) h = λ quiet. absurd (cc quiet)
loan_on routes place route p (Some (Got None)) h = loan_goes (successor place) (slice_get routes (successor place))
loan_on routes place route p (Some (Saw some)) h = loan_goes (successor place) (slice_get routes (successor place))

sweep_on : (routes : List Route) (slot place : ℕ) (route : Route) (p : refusing_pop_type.Pop) (a : Option PopAnswer)
    → (a ≡ None → refusing.pop_next p ≡ own.Local → ⊥) → Goes (send_reclaimed routes slot place route p a)
sweep_on routes slot place route p None h = h refl
sweep_on routes slot place route p (Some (Got (Some back))) h = λ quiet. absurd (cc quiet)
sweep_on routes slot place route p (Some (Got None)) h = sweep_goes routes slot (successor place) (slice_get routes (successor place))
sweep_on routes slot place route p (Some (Saw some)) h = sweep_goes routes slot (successor place) (slice_get routes (successor place))

push_on : (routes : List Route) (slot place : ℕ) (route : Route) (p : Push) (delivery : Delivery) (a : Option PushAnswer)
    → (a ≡ None → push_next p ≡ own.Local → ⊥) → Goes (pushed routes slot place route p delivery a)
push_on routes slot place route p delivery None h = h refl
push_on routes slot place route p delivery (Some a) h
    = put_goes slot (successor place) (counted delivery a) (slice_get routes (successor place))

goes_on : (routes : List Route) (words : List ℕ) (c : PublisherCall) (given : ℕ) → Goes c → Goes (publisher_take routes words c given)
goes_on routes words publishing.Idle given g = tt
goes_on routes words (publishing.LoanReclaims place route p) given g
    = loan_on routes place route (refusing.pop_take p given) (refusing_pop_answer (refusing.pop_take p given)) (pop_goes p given g)
goes_on routes words publishing.Lending given g = tt
goes_on routes words (publishing.Writing slot word value) given g = write_goes slot (successor word) (slice_get words (successor word))
goes_on routes words (publishing.Written slot) given g = tt
goes_on routes words (publishing.Heading slot word value) given g = head_goes slot (successor word) (slice_get words (successor word))
goes_on routes words (publishing.Remembering slot) given g = sweep_goes routes slot 0 (slice_get routes 0)
goes_on routes words (publishing.SendReclaims slot place route p) given g
    = sweep_on routes slot place route (refusing.pop_take p given) (refusing_pop_answer (refusing.pop_take p given)) (pop_goes p given g)
goes_on routes words (publishing.Pushing slot place route p delivery) given g
    = push_on routes slot place route (push_take p given) delivery (push_answer (push_take p given)) (push_goes p given g)
goes_on routes words (publishing.Sent slot delivery) given g = tt
goes_on routes words (publishing.Dropping slot) given g = tt

-- so a quiet step inside a call is the last one, or that of the history
quiet_ends : (c : PublisherCall) → Goes c → publisher_is_idle c ≡ false → publisher_next c ≡ Local → (publisher_is_over c ≡ true)
    ⊎ ((slot : ℕ) × (c ≡ publishing.Remembering slot))
quiet_ends publishing.Idle g busy quiet = absurd (cc busy)
quiet_ends (publishing.LoanReclaims place route p) g busy quiet = absurd (g (quiet_ring _ _ _ (refusing.pop_next p) quiet))
quiet_ends publishing.Lending g busy quiet = inl refl
quiet_ends (publishing.Writing slot word value) g busy quiet = absurd (cc quiet)
quiet_ends (publishing.Written slot) g busy quiet = inl refl
quiet_ends (publishing.Heading slot word value) g busy quiet = absurd (cc quiet)
quiet_ends (publishing.Remembering slot) g busy quiet = inr (slot, refl)
quiet_ends (publishing.SendReclaims slot place route p) g busy quiet = absurd (g (quiet_ring _ _ _ (refusing.pop_next p) quiet))
quiet_ends (publishing.Pushing slot place route p delivery) g busy quiet = absurd (g (quiet_ring _ _ _ (push_next p) quiet))
quiet_ends (publishing.Sent slot delivery) g busy quiet = inl refl
quiet_ends (publishing.Dropping slot) g busy quiet = inl refl

-- a begun call goes
begun_call_goes : (moment : ℕ) (c : Call) (lane : PublisherLaneState) → publisher_fits lane (Begin c) ≡ true
    → Goes (publisher_begun moment c lane).port.call
begun_call_goes moment call.LoanUninit lane may = loan_goes 0 (slice_get lane.port.routes 0)
begun_call_goes moment (call.Write loan payload user_header) lane may = write_goes loan 0 (slice_get payload.items 0)
begun_call_goes moment (call.Send loan) lane may = head_goes loan 0 (slice_get (head_of loan lane) 0)
begun_call_goes moment (call.DropLoan loan) lane may = tt
begun_call_goes moment call.Receive lane may
    = absurd (cc (and_right (publisher_is_idle lane.port.call) (publisher_may lane call.Receive) may))
begun_call_goes moment (call.Read sample) lane may
    = absurd (cc (and_right (publisher_is_idle lane.port.call) (publisher_may lane (call.Read sample)) may))
begun_call_goes moment (call.Release sample) lane may
    = absurd (cc (and_right (publisher_is_idle lane.port.call) (publisher_may lane (call.Release sample)) may))

-- the access of a publisher's own step
own_access : (m : World) (party : Party) (step : Move) (place : ℕ) (lane : PublisherLaneState) → fits m party step ≡ true
    → slice_get m.publishers place ≡ Some lane → publisher_is_idle lane.port.call ≡ false → is_sender party place ≡ true
    → access_of m party step ≡ publisher_next lane.port.call
own_access m (Publisher who) step place lane fit found busy own = elim (eqb_tells who place) [
  | inl same ↦ subst (λ (i : ℕ). access_of m (Publisher i) step ≡ publisher_next lane.port.call) (sym same.1)
      (at_place step (subst (λ (i : ℕ). fits m (Publisher i) step ≡ true) same.1 fit))
  | inr other ↦ absurd (cc (own, other.0))
]
  where
    at_place : (s : Move) → fits m (Publisher place) s ≡ true → access_of m (Publisher place) s ≡ publisher_next lane.port.call
    at_place (Begin c) fit' = absurd (cc
        (sym busy ∙ and_left (publisher_is_idle lane.port.call) (publisher_may lane c)
        (ap (λ (at : Option PublisherLaneState). publisher_fits_at at (Begin c)) (sym found) ∙ fit')))
    at_place GoOn fit' = ap publisher_access found
own_access m (Subscriber who) step place lane fit found busy own = absurd (cc own)

-- what every step keeps of a call since its begin: what it did is a beginning of its course
record Coursed (place first : ℕ) (routes : List Route) (words : List ℕ) (start : PublisherCall) (w : World) (did : List SharedAccess)
    (told : List ℕ) : Type 0 where
  past : first < w.moments
  on : (lane : PublisherLaneState) → slice_get w.publishers place ≡ Some lane → lane.first ≡ first
      → publisher_is_idle lane.port.call ≡ false
      → (lane.port.routes ≡ routes) × (words_of lane.port ≡ words) × Goes lane.port.call
      × ((more : List ℕ) → publisher_course routes words start (told ++ more) ≡ did
      ++ publisher_course routes words lane.port.call more)

coursed_on : (place first : ℕ) (routes : List Route) (words : List ℕ) (start : PublisherCall) (w : World) (did : List SharedAccess)
    (told : List ℕ) (party : Party) (step : Move) → fits w party step ≡ true → w.moments < 2 ^ 63
    → Coursed place first routes words start w did told
    → Coursed place first routes words start (happens w party step)
    (did ++ (if is_sender party place then access_of w party step ∷ [] else []))
    (told ++ (if is_sender party place then shared_answer w.table (access_of w party step) ∷ [] else []))
coursed_on place first routes words start w did told party step fit bound p =
    let next : (happens w party step).moments ≡ w.moments + 1 = happens_moments w party step fit ∙ one_more w.moments bound in
    record {
      past = omega (arith, next, p.past);
      on = λ lane found since busy. elim (turn w party step place fit) [
        | inl same ↦
            let was = p.on lane (sym same.0 ∙ found) since busy in (
              was.0,
              was.1,
              was.2,
              λ more.
                  subst (λ (b : Bool). publisher_course routes words start
                  ((told ++ (if b then shared_answer w.table (access_of w party step) ∷ [] else [])) ++ more)
                  ≡ (did ++ (if b then access_of w party step ∷ [] else [])) ++ publisher_course routes words lane.port.call more)
                  (sym same.1)
                  (ap (λ (xs : List ℕ). publisher_course routes words start (xs ++ more)) (append-nil told) ∙ was.3 more
                  ∙ ap (λ (xs : List SharedAccess). xs ++ publisher_course routes words lane.port.call more) (sym (append-nil did))),
            )
        | inr (inl began) ↦
            let is : publisher_begun w.moments began.0 began.1 ≡ lane = some_is _ lane (sym began.4 ∙ found) in
            let now : w.moments ≡ first = sym (begun_first w.moments began.0 began.1 began.3) ∙ ap (λ (x : PublisherLaneState). x.first)
            is ∙ since in
            absurd (omega (arith, now, p.past))
        | inr (inr went) ↦
            let is : publisher_after (publisher_given w.table went.0) went.0 ≡ lane = some_is _ lane (sym went.3 ∙ found) in
            let was = p.on went.0 went.1 (ap (λ (x : PublisherLaneState). x.first) is ∙ since) went.2 in
            let does : access_of w party step ≡ publisher_next went.0.port.call
            = own_access w party step place went.0 fit went.1 went.2 went.4 in
            subst (λ (x : PublisherLaneState). (x.port.routes ≡ routes) × (words_of x.port ≡ words) × Goes x.port.call
            × ((more : List ℕ) → publisher_course routes words start
            ((told ++ (if is_sender party place then shared_answer w.table (access_of w party step) ∷ [] else [])) ++ more)
            ≡ (did ++ (if is_sender party place then access_of w party step ∷ [] else []))
            ++ publisher_course routes words x.port.call more)) is (
              was.0,
              was.1,
              goes_on went.0.port.routes (words_of went.0.port) went.0.port.call (publisher_given w.table went.0) was.2,
              λ more.
                  subst (λ (b : Bool). publisher_course routes words start
                  ((told ++ (if b then shared_answer w.table (access_of w party step) ∷ [] else [])) ++ more)
                  ≡ (did ++ (if b then access_of w party step ∷ [] else []))
                  ++ publisher_course routes words (publisher_after (publisher_given w.table went.0) went.0).port.call more)
                  (sym went.4)
                  (subst (λ (a : SharedAccess). publisher_course routes words start ((told ++ shared_answer w.table a ∷ []) ++ more)
                  ≡ (did ++ a ∷ []) ++ publisher_course routes words
                  (publisher_after (publisher_given w.table went.0) went.0).port.call more) (sym does)
                  (ap (publisher_course routes words start) (append_assoc told (publisher_given w.table went.0 ∷ []) more) ∙ was.3
                  (publisher_given w.table went.0 ∷ more)
                  ∙ ap₂ (λ (rs : List Route) (ws : List ℕ). did ++ publisher_next went.0.port.call
                  ∷ publisher_course routes words (publisher_take rs ws went.0.port.call (publisher_given w.table went.0)) more)
                  (sym was.0) (sym was.1)
                  ∙ sym (append_assoc did (publisher_next went.0.port.call ∷ [])
                  (publisher_course routes words (publisher_after (publisher_given w.table went.0) went.0).port.call more)))),
            )
      ];
    }

-- so it is after an entry, and after all of them
entry_coursed : (place first : ℕ) (routes : List Route) (words : List ℕ) (start : PublisherCall) (w : World) (did : List SharedAccess)
    (told : List ℕ) (entry : Entry) (end : ℕ) → end ≤ 2 ^ 63
    → (b : Bool) → fits w entry.party entry.step ≡ b → (after_entry b w entry).moments ≤ end
    → Coursed place first routes words start w did told
    → Coursed place first routes words start (after_entry b w entry)
    (did ++ (if b && is_sender entry.party place then access_of w entry.party entry.step ∷ [] else []))
    (told ++ (if b && is_sender entry.party place then shared_answer w.table (access_of w entry.party entry.step) ∷ [] else []))
entry_coursed place first routes words start w did told entry end few true e h p =
    coursed_on place first routes words start w did told entry.party entry.step e
    (omega (arith, happens_moments w entry.party entry.step e, h, few)) p
entry_coursed place first routes words start w did told entry end few false e h p =
    subst (λ (xs : List SharedAccess). Coursed place first routes words start w xs (told ++ [])) (sym (append-nil did))
    (subst (Coursed place first routes words start w did) (sym (append-nil told)) p)

all_coursed : (place first : ℕ) (routes : List Route) (words : List ℕ) (start : PublisherCall) (w : World) (did : List SharedAccess)
    (told : List ℕ) (entries : List Entry) → (led w entries).moments ≤ 2 ^ 63
    → Coursed place first routes words start w did told
    → Coursed place first routes words start (led w entries) (did ++ own_accesses (λ party. is_sender party place) w entries)
    (told ++ own_answers (λ party. is_sender party place) w entries)
all_coursed place first routes words start w did told [] few p =
    subst (λ (xs : List SharedAccess). Coursed place first routes words start w xs (told ++ [])) (sym (append-nil did))
    (subst (Coursed place first routes words start w did) (sym (append-nil told)) p)
all_coursed place first routes words start w did told (entry ∷ entries) few p =
    let b : Bool = fits w entry.party entry.step in
    let a : List SharedAccess = if b && is_sender entry.party place then access_of w entry.party entry.step ∷ [] else [] in
    let t : List ℕ = if b && is_sender entry.party place then shared_answer w.table (access_of w entry.party entry.step) ∷ [] else [] in
    let rest = all_coursed place first routes words start (after_entry b w entry) (did ++ a) (told ++ t) entries few
    (entry_coursed place first routes words start w did told entry (led w (entry ∷ entries)).moments few b refl
    (later (after_entry b w entry) entries few) p) in
    subst (λ (xs : List SharedAccess). Coursed place first routes words start (led w (entry ∷ entries)) xs
    (told ++ own_answers (λ party. is_sender party place) w (entry ∷ entries)))
    (append_assoc did a (own_accesses (λ party. is_sender party place) (after_entry b w entry) entries))
    (subst (Coursed place first routes words start (led w (entry ∷ entries))
    ((did ++ a) ++ own_accesses (λ party. is_sender party place) (after_entry b w entry) entries))
    (append_assoc told t (own_answers (λ party. is_sender party place) (after_entry b w entry) entries)) rest)

-- a call from its begin on
since_begin : (m : World) (place : ℕ) (lane : PublisherLaneState) (c : Call) (entries : List Entry) → IsPublisherCall m place lane c entries
    → Coursed place m.moments (publisher_begun m.moments c lane).port.routes (words_of (publisher_begun m.moments c lane).port)
    (publisher_begun m.moments c lane).port.call (led (happens m (Publisher place) (Begin c)) entries)
    ([] ++ own_accesses (λ party. is_sender party place) (happens m (Publisher place) (Begin c)) entries)
    ([] ++ own_answers (λ party. is_sender party place) (happens m (Publisher place) (Begin c)) entries)
since_begin m place lane c entries is =
    let fit : fits m (Publisher place) (Begin c) ≡ true
    = ap (λ (at : Option PublisherLaneState). publisher_fits_at at (Begin c)) is.found ∙ is.may in
    let next = happens_moments m (Publisher place) (Begin c) fit in
    let after = later (happens m (Publisher place) (Begin c)) entries is.few in
    let bound : m.moments < 2 ^ 63 = omega (arith, next, after, is.few) in
    let there : slice_get (happens m (Publisher place) (Begin c)).publishers place ≡ Some (publisher_begun m.moments c lane) =
    ap (λ (at : Option PublisherLaneState). slice_get (publisher_begins m place c at).publishers place) is.found ∙ set_same m.publishers
    place (publisher_begun m.moments c lane) lane is.found in
    all_coursed place m.moments (publisher_begun m.moments c lane).port.routes (words_of (publisher_begun m.moments c lane).port)
    (publisher_begun m.moments c lane).port.call (happens m (Publisher place) (Begin c)) [] [] entries is.few
    (record {
      past = omega (arith, next, one_more m.moments bound);
      on = λ other found since busy.
          subst (λ (x : PublisherLaneState). (x.port.routes ≡ (publisher_begun m.moments c lane).port.routes)
          × (words_of x.port ≡ words_of (publisher_begun m.moments c lane).port) × Goes x.port.call
          × ((more : List ℕ) → publisher_course (publisher_begun m.moments c lane).port.routes
          (words_of (publisher_begun m.moments c lane).port) (publisher_begun m.moments c lane).port.call ([] ++ more) ≡ []
          ++ publisher_course (publisher_begun m.moments c lane).port.routes (words_of (publisher_begun m.moments c lane).port)
          x.port.call more))
          (some_is _ other (sym there ∙ found)) (refl, refl, begun_call_goes m.moments c lane is.may, λ more. refl);
    })

-- the course of each call from its begin on
dropping_course : (routes : List Route) (words : List ℕ) (slot : ℕ) (answers : List ℕ)
    → publisher_course routes words (publishing.Dropping slot) answers ≡ quiet_course answers
dropping_course routes words slot [] = refl
dropping_course routes words slot (answer ∷ answers) = ap (λ (rest : List SharedAccess). Local ∷ rest) (idle_course routes words answers)

call_course : (moment : ℕ) (lane : PublisherLaneState) (c : Call) (answers : List ℕ) → publisher_fits lane (Begin c) ≡ true
    → length lane.port.routes < 2 ^ 64 - 1 → words_stored lane c < 2 ^ 64 - 1
    → publisher_course (publisher_begun moment c lane).port.routes (words_of (publisher_begun moment c lane).port)
    (publisher_begun moment c lane).port.call answers ≡ publisher_call_course lane c answers
call_course moment lane call.LoanUninit answers may small few = loans_take_back lane.port.routes (words_of lane.port) answers small
call_course moment lane (call.Write loan payload user_header) answers may small few
    = writes_store lane.port.routes payload.items answers loan few
call_course moment lane (call.Send loan) answers may small few = sends_push lane.port.routes (head_of loan lane) answers loan small few
call_course moment lane (call.DropLoan loan) answers may small few = dropping_course lane.port.routes (words_of lane.port) loan answers
call_course moment lane call.Receive answers may small few
    = absurd (cc (and_right (publisher_is_idle lane.port.call) (publisher_may lane call.Receive) may))
call_course moment lane (call.Read sample) answers may small few
    = absurd (cc (and_right (publisher_is_idle lane.port.call) (publisher_may lane (call.Read sample)) may))
call_course moment lane (call.Release sample) answers may small few
    = absurd (cc (and_right (publisher_is_idle lane.port.call) (publisher_may lane (call.Release sample)) may))

pub publishers_keep_course : PublishersKeepCourse
publishers_keep_course m place lane c entries is =
    let told : List ℕ = own_answers (λ party. is_sender party place) (happens m (Publisher place) (Begin c)) entries in
    let did : List SharedAccess = own_accesses (λ party. is_sender party place) (happens m (Publisher place) (Begin c)) entries in
    let begun : PublisherLaneState = publisher_begun m.moments c lane in
    let at = (since_begin m place lane c entries is).on is.inside.lane is.inside.found is.inside.since is.inside.busy in
    sym (append-nil did) ∙ sym (at.3 []) ∙ ap (publisher_course begun.port.routes (words_of begun.port) begun.port.call) (append-nil told)
    ∙ call_course m.moments lane c told is.may is.connections is.words

pub publishers_end_at_once : PublishersEndAtOnce
publishers_end_at_once m place lane c entries is quiet =
    let n : World = led (happens m (Publisher place) (Begin c)) entries in
    let at = (since_begin m place lane c entries is).on is.inside.lane is.inside.found is.inside.since is.inside.busy in
    elim (quiet_ends is.inside.lane.port.call at.2 is.inside.busy (sym (ap publisher_access is.inside.found) ∙ quiet)) [
      | inl over ↦ inl (ap publisher_ends_at is.inside.found ∙ over)
      | inr history ↦ inr (history.0, ap publisher_stage is.inside.found ∙ history.1)
    ]

-- What a subscriber has read of a sample stays, after calls none of which gives the sample back.
use Rattle.std.proofs.Common.{ℕ, ◌≡◌, ◌+◌, ◌-◌, ◌<◌, ◌||◌, Bool, true, false, if◌then◌else◌, nat_lt, List, length, set, get_or, slice_get}
use Rattle.std.proofs.Common.{Option, None, Some, refl, sym, ◌∙◌, ap, subst, inl, inr, arith}
use Rattle.std.proofs.lemmas.Bool.{ltb-true}
use Rattle.std.proofs.lemmas.Bool.Decides.{eqb_tells}
use Rattle.std.proofs.lemmas.Grind.{same_number_lists}
use Rattle.std.proofs.lemmas.List.{get_or-set_same, get_or-set_other}
use Rattle.iox_lanes_machine.specs.QueuesSteps.Access.{successor}
use Rattle.iox_lanes_machine.specs.QueuesSteps.Ends.{pop_take, pop_next}
use Rattle.iox_lanes_machine.specs.QueuesSteps.Refusing as refusing
use Rattle.iox_lanes_machine.specs.QueuesSteps.declared.access.Access.{Access}
use Rattle.iox_lanes_machine.specs.QueuesSteps.declared.access.Access.TheVariants as own
use Rattle.iox_lanes_machine.specs.QueuesSteps.declared.order.PopAnswer.{PopAnswer}
use Rattle.iox_lanes_machine.specs.QueuesSteps.declared.order.PopAnswer.TheVariants.{Got, Saw}
use Rattle.iox_lanes_machine.specs.QueuesSteps.declared.order.PushAnswer.{PushAnswer}
use Rattle.iox_lanes_machine.specs.QueuesSteps.declared.order.PushAnswer.TheVariants.{Kept, LeftOut, Refused}
use Rattle.iox_lanes_machine.specs.QueuesSteps.declared.rings.ends.Pop.{Pop}
use Rattle.iox_lanes_machine.specs.QueuesSteps.declared.rings.refusing.push.Push as push_type
use Rattle.iox_lanes_machine.specs.QueuesSteps.declared.rings.refusing.push.Push.TheVariants as push
use Rattle.iox_lanes_machine.specs.LanesBase.Answers.{pop_answer, refusing_push_answer}
use Rattle.iox_lanes_machine.specs.LanesBase.Subscribing.{word_at, subscriber_is_idle, subscriber_next, subscriber_take, subscriber_change}
use Rattle.iox_lanes_machine.specs.LanesBase.Subscribing.{is_full_at, receive_from, received, released, borrowed_by, given_back_by}
use Rattle.iox_lanes_machine.specs.LanesBase.Words.{on_ring}
use Rattle.iox_lanes_machine.specs.LanesBase.declared.calls.route.Route.{Route}
use Rattle.iox_lanes_machine.specs.LanesBase.declared.calls.subscriber.SlotExtent.{SlotExtent}
use Rattle.iox_lanes_machine.specs.LanesBase.declared.calls.subscriber.SubscriberCall.{SubscriberCall}
use Rattle.iox_lanes_machine.specs.LanesBase.declared.calls.subscriber.SubscriberCall.TheVariants as subscribing
use Rattle.iox_lanes_machine.specs.LanesBase.declared.words.sizes.TableSizes.{TableSizes}
use Rattle.iox_lanes_machine.specs.LanesBase.declared.words.word.ConnectionRing.{ConnectionRing}
use Rattle.iox_lanes_machine.specs.LanesBase.declared.words.word.SharedWord.TheVariants.{Slot}
use Rattle.iox_lanes_machine.specs.LanesParties.Keeping.{SubscriberState, changed, put_at}
use Rattle.iox_lanes_machine.specs.LanesParties.Parties.{SubscriberLaneState, is_borrowed, place_of, route_at, release_begun}
use Rattle.iox_lanes_machine.specs.LanesParties.Parties.{subscriber_begun, subscriber_after, subscriber_fits}
use Rattle.iox_lanes_machine.specs.LanesParties.Within.{IsExtent}
use Rattle.iox_lanes_machine.specs.LanesParties.declared.call.Answer.TheVariants as answer
use Rattle.iox_lanes_machine.specs.LanesParties.declared.call.Call.TheVariants as call
use Rattle.iox_lanes_machine.specs.LanesParties.declared.call.Move.TheVariants.{Begin}
use Rattle.iox_lanes_machine.proofs.LanesParties.Rings.{and_right}
use Rattle.iox_lanes_threads_rule.specs.Acts.{ToldBy}
use Rattle.iox_lanes_threads_rule.specs.declared.service.Service.{Service}
use Rattle.iox_lanes_threads_rule.specs.declared.view.Port.{Port}
use Rattle.iox_lanes_threads_ports.specs.Courses.{subscriber_party, SubscriberGoes, SubscriberEnds}
use Rattle.iox_lanes_threads_ports.specs.Courses.SubscriberGoes.{stays, goes}
use Rattle.iox_lanes_threads_ports.specs.Holding.{StandsBetween, HasRead, IsReadEarly, GoesOnHolding, HeldReadsStay, HeldReadsAgree}
use Rattle.iox_lanes_threads_ports.specs.Holding.{HeldReadsAreKnown}
use Rattle.iox_lanes_threads_ports.specs.Holding.GoesOnHolding.{stays as no_calls, receives, reads, releases}
use Rattle.iox_lanes_threads_ports.specs.OneValue.{IsAnsweredEarly, AreAnsweredEarly, HasThroughout}
use Rattle.iox_lanes_threads_ports.specs.Ports.{SubscriberStands}
use Rattle.iox_lanes_threads_ports.specs.Values.{SubscriberPort, Unmoved, Reads, ReadsWords, Releases}
use Rattle.iox_lanes_threads_ports.specs.declared.subscriber.ReleaseAnswer.{ReleaseAnswer}
use Rattle.iox_lanes_threads_ports.specs.declared.subscriber.ReleaseAnswer.TheVariants as answers
use Rattle.iox_lanes_threads_ports.proofs.Between.{along, receive_fits}
use Rattle.iox_lanes_threads_ports.proofs.OneValue.{goes_on_knowing}
use Rattle.iox_lanes_threads_ports.proofs.PublisherSteps.{step_same}
use Rattle.iox_lanes_threads_ports.proofs.SubscriberSteps.{begins}

-- the push doesn't put this slot
abbrev PutsOther : ℕ → push_type.Push → Type 0
PutsOther sample push.Idle = Unit {0}
PutsOther sample (push.Begun limit value) = value ≡ sample → ⊥
PutsOther sample (push.SawWrite limit value write next) = value ≡ sample → ⊥
PutsOther sample (push.SawRoom value write next) = value ≡ sample → ⊥
PutsOther sample (push.Filled value next) = value ≡ sample → ⊥
PutsOther sample (push.Pushed value given) = Unit {0}

-- a call at this stage doesn't give the sample back, and reads only such slots
abbrev Spares : (ℕ → Type 0) → ℕ → SubscriberCall → Type 0
Spares R sample subscribing.Idle = Unit {0}
Spares R sample (subscribing.Receiving place route pop waits) = Unit {0}
Spares R sample (subscribing.Received receipt) = Unit {0}
Spares R sample (subscribing.Reading slot word extent) = R slot
Spares R sample (subscribing.WasRead slot) = Unit {0}
Spares R sample (subscribing.Releasing place route push) = PutsOther sample push
Spares R sample (subscribing.Released done) = Unit {0}

-- the sample is held
abbrev Has : ℕ → SubscriberLaneState → Type 0
Has sample lane = is_borrowed (place_of sample lane) ≡ true

-- any slot, and any but this
abbrev Any : ℕ → Type 0
Any slot = Unit {0}

abbrev Another : ℕ → ℕ → Type 0
Another sample slot = slot ≡ sample → ⊥

push_on : (sample : ℕ) (p : push_type.Push) (n : ℕ) → PutsOther sample p → PutsOther sample (refusing.push_take p n)
push_on sample push.Idle n h = tt
push_on sample (push.Begun limit value) n h = h
push_on sample (push.SawWrite limit value write next) n h = by_test (nat_lt (write - n) limit)
  where
    by_test : (b : Bool) → PutsOther sample (if b then push.SawRoom value write next else push.Pushed value Refused)
    by_test true = h
    by_test false = tt
push_on sample (push.SawRoom value write next) n h = h
push_on sample (push.Filled value next) n h = tt
push_on sample (push.Pushed value given) n h = tt

module _ (R : ℕ → Type 0) (sample : ℕ) where
  receive_spares : (place : ℕ) (full waits : Bool) (at : Option Route) → Spares R sample (receive_from place full waits at)
  receive_spares place full waits None = tt
  receive_spares place full waits (Some route) = tt

  received_spares : (routes : List Route) (borrowed : List ℕ) (most place : ℕ) (route : Route) (pop : Pop) (waits : Bool)
      (a : Option PopAnswer) → Spares R sample (received routes borrowed most place route pop waits a)
  received_spares routes borrowed most place route pop waits None = tt
  received_spares routes borrowed most place route pop waits (Some (Got (Some slot))) = tt
  received_spares routes borrowed most place route pop waits (Some (Got None))
      = receive_spares (successor place) (is_full_at borrowed most (successor place)) waits (slice_get routes (successor place))
  received_spares routes borrowed most place route pop waits (Some (Saw some))
      = receive_spares (successor place) (is_full_at borrowed most (successor place)) (waits || some) (slice_get routes (successor place))

  read_spares : (slot word : ℕ) (extent : SlotExtent) (b : Bool) → R slot
      → Spares R sample (if b then subscribing.Reading slot word extent else subscribing.WasRead slot)
  read_spares slot word extent true r = r
  read_spares slot word extent false r = tt

  released_spares : (place : ℕ) (route : Route) (p : push_type.Push) (a : Option PushAnswer) → PutsOther sample p
      → Spares R sample (released place route p a)
  released_spares place route p None h = h
  released_spares place route p (Some Kept) h = tt
  released_spares place route p (Some (LeftOut oldest)) h = tt
  released_spares place route p (Some Refused) h = tt

  idle_spares : (c : SubscriberCall) → subscriber_is_idle c ≡ true → Spares R sample c
  idle_spares subscribing.Idle h = tt
  idle_spares (subscribing.Receiving place route pop waits) h = absurd (cc h)
  idle_spares (subscribing.Received receipt) h = absurd (cc h)
  idle_spares (subscribing.Reading slot word extent) h = absurd (cc h)
  idle_spares (subscribing.WasRead slot) h = absurd (cc h)
  idle_spares (subscribing.Releasing place route p) h = absurd (cc h)
  idle_spares (subscribing.Released done) h = absurd (cc h)

  -- so it is at the next stage
  take_spares : (routes : List Route) (borrowed : List ℕ) (most n : ℕ) (c : SubscriberCall) → Spares R sample c
      → Spares R sample (subscriber_take routes borrowed most c n)
  take_spares routes borrowed most n subscribing.Idle h = tt
  take_spares routes borrowed most n (subscribing.Receiving place route pop waits) h
      = received_spares routes borrowed most place route (pop_take pop n) waits (pop_answer (pop_take pop n))
  take_spares routes borrowed most n (subscribing.Received receipt) h = tt
  take_spares routes borrowed most n (subscribing.Reading slot word extent) h
      = read_spares slot (successor word) extent (nat_lt (successor word) (3 + extent.user_header_words + extent.payload_words)) h
  take_spares routes borrowed most n (subscribing.WasRead slot) h = tt
  take_spares routes borrowed most n (subscribing.Releasing place route p) h
      = released_spares place route (refusing.push_take p n) (refusing_push_answer (refusing.push_take p n)) (push_on sample p n h)
  take_spares routes borrowed most n (subscribing.Released done) h = tt

  -- one more is borrowed
  put_has : (samples : List (Option ℕ)) (slot place : ℕ) → is_borrowed (get_or samples sample None) ≡ true
      → is_borrowed (get_or (put_at samples slot (Some place)) sample None) ≡ true
  put_has samples slot place h = by_test (nat_lt slot (length samples)) refl
    where
      by_test : (b : Bool) → nat_lt slot (length samples) ≡ b
          → is_borrowed (get_or (if b then set samples slot (Some place) else samples) sample None) ≡ true
      by_test true less = elim (eqb_tells sample slot) [
        | inl same ↦
            ap (λ (i : ℕ). is_borrowed (get_or (set samples slot (Some place)) i None)) same.1
            ∙ ap is_borrowed (get_or-set_same samples slot (Some place) None (ltb-true slot (length samples) less))
        | inr other ↦ ap is_borrowed (get_or-set_other samples slot sample (Some place) None other.1) ∙ h
      ]
      by_test false less = h

  -- another is given back
  take_has : (samples : List (Option ℕ)) (slot : ℕ) → (slot ≡ sample → ⊥) → is_borrowed (get_or samples sample None) ≡ true
      → is_borrowed (get_or (put_at samples slot None) sample None) ≡ true
  take_has samples slot off h = by_test (nat_lt slot (length samples))
    where
      by_test : (b : Bool) → is_borrowed (get_or (if b then set samples slot None else samples) sample None) ≡ true
      by_test true = ap is_borrowed (get_or-set_other samples slot sample None None (λ e. off (sym e))) ∙ h
      by_test false = h

  borrowed_has : (state : SubscriberState) (place : ℕ) (a : Option PopAnswer) → is_borrowed (get_or state.samples sample None) ≡ true
      → is_borrowed (get_or (changed (borrowed_by place a) state).samples sample None) ≡ true
  borrowed_has state place None h = h
  borrowed_has state place (Some (Got (Some slot))) h = put_has state.samples slot place h
  borrowed_has state place (Some (Got None)) h = h
  borrowed_has state place (Some (Saw some)) h = h

  given_back_has : (state : SubscriberState) (place : ℕ) (p : push_type.Push) → PutsOther sample p
      → is_borrowed (get_or state.samples sample None) ≡ true
      → is_borrowed (get_or (changed (given_back_by place p) state).samples sample None) ≡ true
  given_back_has state place push.Idle off h = h
  given_back_has state place (push.Begun limit value) off h = h
  given_back_has state place (push.SawWrite limit value write next) off h = h
  given_back_has state place (push.SawRoom value write next) off h = h
  given_back_has state place (push.Filled value next) off h = take_has state.samples value off h
  given_back_has state place (push.Pushed value given) off h = h

  change_has : (c : SubscriberCall) (n : ℕ) (state : SubscriberState) → Spares R sample c
      → is_borrowed (get_or state.samples sample None) ≡ true
      → is_borrowed (get_or (changed (subscriber_change c n) state).samples sample None) ≡ true
  change_has subscribing.Idle n state spares h = h
  change_has (subscribing.Receiving place route pop waits) n state spares h = borrowed_has state place (pop_answer (pop_take pop n)) h
  change_has (subscribing.Received receipt) n state spares h = h
  change_has (subscribing.Reading slot word extent) n state spares h = h
  change_has (subscribing.WasRead slot) n state spares h = h
  change_has (subscribing.Releasing place route p) n state spares h = given_back_has state place p spares h
  change_has (subscribing.Released done) n state spares h = h

  -- a step keeps the sample
  step_has : (lane : SubscriberLaneState) (n : ℕ) → Spares R sample lane.port.call → Has sample lane → Has sample (subscriber_after n lane)
  step_has lane n spares has =
      change_has lane.port.call n (record lane.port
      { call = subscriber_take lane.port.routes lane.port.borrowed lane.port.most_borrowed lane.port.call n }) spares has

  -- all steps do
  throughout : (p : Port) (lane : SubscriberLaneState) (q : Port) (now : SubscriberLaneState) (steps : SubscriberGoes p lane q now)
      → Spares R sample lane.port.call → Has sample lane → HasThroughout sample steps × Has sample now
  throughout p lane _ _ stays spares has = (tt, has)
  throughout p lane _ _ (goes q now n before told) spares has =
      let was = throughout p lane q now before spares has in
      let on : Has sample (subscriber_after n now)
      = step_has now n (along (Spares R sample) take_spares p lane q now before spares) was.1 in
      ((was.0, on), on)

  -- and so does the last step of the call
  held_behind : (p : Port) (lane : SubscriberLaneState) (q : Port) (last now : SubscriberLaneState) → SubscriberGoes p lane q last
      → Spares R sample lane.port.call → Has sample lane → now ≡ subscriber_after 0 last → Has sample now
  held_behind p lane q last now steps spares has after =
      subst (Has sample) (sym after)
      (step_has last 0 (along (Spares R sample) take_spares p lane q last steps spares) (throughout p lane q last steps spares has).1)

  release_spares : (lane : SubscriberLaneState) (other : ℕ) (place : Option ℕ) (route : Option Route) → (other ≡ sample → ⊥)
      → subscriber_is_idle lane.port.call ≡ true → Has sample lane
      → Spares R sample (release_begun 0 other place route lane).port.call × Has sample (release_begun 0 other place route lane)
  release_spares lane other None route off idle has = (idle_spares lane.port.call idle, has)
  release_spares lane other (Some place) None off idle has = (idle_spares lane.port.call idle, has)
  release_spares lane other (Some place) (Some route) off idle has = (off, has)

-- an access to a ring loads no word of a slot
ring_early : (sample : ℕ) (q : Port) (connection : ℕ) (ring : ConnectionRing) (cells n : ℕ) (access : Access)
    (told : ToldBy q (on_ring connection ring cells access) n) → IsAnsweredEarly sample q (on_ring connection ring cells access) n told
ring_early sample q connection ring cells n (own.Load word) told = tt
ring_early sample q connection ring cells n (own.Store word value) told = tt
ring_early sample q connection ring cells n (own.Exchange word old new) told = tt
ring_early sample q connection ring cells n own.Local told = tt

-- nor does a call that reads others
step_early : (sample : ℕ) (q : Port) (c : SubscriberCall) (n : ℕ) (told : ToldBy q (subscriber_next c) n)
    → Spares (Another sample) sample c → IsAnsweredEarly sample q (subscriber_next c) n told
step_early sample q subscribing.Idle n told h = tt
step_early sample q (subscribing.Receiving place route pop waits) n told h
    = ring_early sample q route.connection _ route.submission_cells n (pop_next pop) told
step_early sample q (subscribing.Received receipt) n told h = tt
step_early sample q (subscribing.Reading slot word extent) n told h = λ same. absurd (h same)
step_early sample q (subscribing.WasRead slot) n told h = tt
step_early sample q (subscribing.Releasing place route p) n told h
    = ring_early sample q route.connection _ route.completion_cells n (refusing.push_next p) told
step_early sample q (subscribing.Released done) n told h = tt

all_early : (sample : ℕ) (p : Port) (lane : SubscriberLaneState) (q : Port) (now : SubscriberLaneState)
    (steps : SubscriberGoes p lane q now) → Spares (Another sample) sample lane.port.call → AreAnsweredEarly sample steps
all_early sample p lane _ _ stays spares = tt
all_early sample p lane _ _ (goes q now n before told) spares = (
  all_early sample p lane q now before spares,
  step_early sample q now.port.call n told
      (along (Spares (Another sample) sample) (take_spares (Another sample) sample) p lane q now before spares),
)

-- a service stays
service_stays : (p : Port) (lane : SubscriberLaneState) (q : Port) (now : SubscriberLaneState) → SubscriberGoes p lane q now
    → q.service ≡ p.service
service_stays p lane _ _ stays = refl
service_stays p lane _ _ (goes q now n before told) =
    (step_same q (subscriber_next now.port.call) n (subscriber_party now)).service ∙ service_stays p lane q now before

-- a subscriber of this service that holds a sample, and has read it
record HoldsRead (s : Service) (sample : ℕ) (extent : SlotExtent) (lent : List ℕ) (p : Port) (lane : SubscriberLaneState) : Type 0 where
  service : p.service ≡ s
  has : Has sample lane
  read : HasRead p extent sample lent

module _ (s : Service) (sample : ℕ) (extent : SlotExtent) (lent : List ℕ) (fits : IsExtent s.sizes extent) where
  -- a call
  called_on : (R : ℕ → Type 0) (p : Port) (lane begun : SubscriberLaneState) (q : Port) (last now : SubscriberLaneState)
      (steps : SubscriberGoes p begun q last) → HoldsRead s sample extent lent p lane → SubscriberStands p begun
      → Spares R sample begun.port.call → Has sample begun → AreAnsweredEarly sample steps → now ≡ subscriber_after 0 last
      → HoldsRead s sample extent lent q now
  called_on R p lane begun q last now steps was stands spares has early after =
      let own : IsExtent p.service.sizes extent = subst (λ (t : Service). IsExtent t.sizes extent) (sym was.service) fits in
      let on = goes_on_knowing p begun q last steps extent sample stands own (throughout R sample p begun q last steps spares has).0 early
      was.read.listed in
      record {
        service = on.service ∙ was.service;
        has = held_behind R sample p begun q last now steps spares has after;
        read
            = record { listed = on.lists; known = λ k within less. on.known k less ∙ was.read.known k within less; whole = was.read.whole };
      }

  unmoved_on : (old new : SubscriberPort) → Unmoved old new → HoldsRead s sample extent lent old.port old.lane
      → HoldsRead s sample extent lent new.port new.lane
  unmoved_on old new stayed was =
      subst (λ (z : Port × SubscriberLaneState). HoldsRead s sample extent lent z.0 z.1) (λ i. (sym stayed.1 i, sym stayed.2 i)) was

  -- a read
  read_on : (old new : SubscriberPort) (other : ℕ) (read : ReadsWords old new other) → StandsBetween old
      → (other ≡ sample → AreAnsweredEarly other read.goes) → HoldsRead s sample extent lent old.port old.lane
      → HoldsRead s sample extent lent new.port new.lane
  read_on old new other read stands early was =
      let from : SubscriberStands old.port (subscriber_begun 0 (call.Read other) old.lane)
      = begins old.port old.lane 0 (call.Read other) stands.stands read.fits in
      let words : ℕ = 3 + old.lane.port.extent.user_header_words + old.lane.port.extent.payload_words in
      elim (eqb_tells other sample) [
        | inl same ↦
            called_on Any old.port old.lane (subscriber_begun 0 (call.Read other) old.lane) new.port read.last new.lane read.goes was from
            (read_spares Any sample other 0 old.lane.port.extent (nat_lt 0 words) tt) was.has
            (subst (λ (slot : ℕ). AreAnsweredEarly slot read.goes) same.1 (early same.1)) read.after
        | inr off ↦
            let spares : Spares (Another sample) sample (subscriber_begun 0 (call.Read other) old.lane).port.call
            = read_spares (Another sample) sample other 0 old.lane.port.extent (nat_lt 0 words) off.1 in
            called_on (Another sample) old.port old.lane (subscriber_begun 0 (call.Read other) old.lane) new.port read.last new.lane
            read.goes was from spares was.has
            (all_early sample old.port (subscriber_begun 0 (call.Read other) old.lane) new.port read.last read.goes spares) read.after
      ]

  asked_on : (old new : SubscriberPort) (other : ℕ) (done : Bool) (read : Reads old other new done) → StandsBetween old
      → (other ≡ sample → IsReadEarly old other new done read) → HoldsRead s sample extent lent old.port old.lane
      → HoldsRead s sample extent lent new.port new.lane
  asked_on old new other false read stands early was = unmoved_on old new read.1 was
  asked_on old new other true read stands early was = read_on old new other read stands early was

  -- a release of another sample
  done_on : (old new : SubscriberPort) (other : ℕ) (done : Bool) → subscriber_fits old.lane (Begin (call.Release other)) ≡ true
      → SubscriberEnds old.port (subscriber_begun 0 (call.Release other) old.lane) new.port new.lane (answer.Released done)
      → StandsBetween old → (other ≡ sample → ⊥) → HoldsRead s sample extent lent old.port old.lane
      → HoldsRead s sample extent lent new.port new.lane
  done_on old new other done fit ends stands off was =
      let both = release_spares (Another sample) sample old.lane other (place_of other old.lane)
      (route_at (place_of other old.lane) old.lane) off stands.idle was.has in
      called_on (Another sample) old.port old.lane (subscriber_begun 0 (call.Release other) old.lane) new.port ends.last new.lane
      ends.goes was (begins old.port old.lane 0 (call.Release other) stands.stands fit) both.0 both.1
      (all_early sample old.port (subscriber_begun 0 (call.Release other) old.lane) new.port ends.last ends.goes both.0)
      ends.after

  release_on : (old new : SubscriberPort) (other : ℕ) (told : ReleaseAnswer) → Releases old other new told → StandsBetween old
      → (other ≡ sample → ⊥) → HoldsRead s sample extent lent old.port old.lane → HoldsRead s sample extent lent new.port new.lane
  release_on old new other answers.Released release stands off was = done_on old new other true release.0 release.1 stands off was
  release_on old new other answers.NotMine none stands off was = unmoved_on old new none.1 was
  release_on old new other answers.RingFull late stands off was = done_on old new other false late.fits late.ends stands off was

  -- all calls
  calls_on : (from to : SubscriberPort) → GoesOnHolding sample from to → HoldsRead s sample extent lent from.port from.lane
      → HoldsRead s sample extent lent to.port to.lane
  calls_on from _ no_calls was = was
  calls_on from _ (receives old new receipt before stands asks) was =
      let spares : Spares (Another sample) sample (subscriber_begun 0 call.Receive old.lane).port.call =
      receive_spares (Another sample) sample 0 (is_full_at old.lane.port.borrowed old.lane.port.most_borrowed 0) false
      (slice_get old.lane.port.routes 0) in
      let had = calls_on from old before was in
      called_on (Another sample) old.port old.lane (subscriber_begun 0 call.Receive old.lane) new.port asks.last new.lane asks.goes had
      (begins old.port old.lane 0 call.Receive stands.stands (receive_fits old.lane stands.idle)) spares had.has
      (all_early sample old.port (subscriber_begun 0 call.Receive old.lane) new.port asks.last asks.goes spares) asks.after
  calls_on from _ (reads old new other done before stands read early) was
      = asked_on old new other done read stands early (calls_on from old before was)
  calls_on from _ (releases old new other told before stands release off) was
      = release_on old new other told release stands off (calls_on from old before was)

pub held_reads_stay : HeldReadsStay
held_reads_stay sample from to extent lent calls fits has read =
    let on = calls_on from.port.service sample extent lent fits from to calls (record { service = refl; has = has; read = read }) in
    (on.has, on.read)

one_extent : (sizes : TableSizes) (a b : SlotExtent) → IsExtent sizes a → IsExtent sizes b → a ≡ b
one_extent sizes a b h k =
    λ i. record { user_header_words = (h.user_header ∙ sym k.user_header) i; payload_words = (h.payload ∙ sym k.payload) i }

pub held_reads_agree : HeldReadsAgree
held_reads_agree sample before first between second stood one lent calls stands again early lent_again =
    let had : Has sample before.lane = and_right (subscriber_is_idle before.lane.port.call) (is_borrowed (place_of sample before.lane))
    one.fits in
    let words : ℕ = 3 + before.lane.port.extent.user_header_words + before.lane.port.extent.payload_words in
    let has : Has sample first.lane = held_behind Any sample before.port (subscriber_begun 0 (call.Read sample) before.lane) first.port
    one.last first.lane one.goes (read_spares Any sample sample 0 before.lane.port.extent (nat_lt 0 words) tt) had one.after in
    let same : first.port.service ≡ before.port.service
    = service_stays before.port (subscriber_begun 0 (call.Read sample) before.lane) first.port one.last one.goes in
    let fits : IsExtent first.port.service.sizes before.lane.port.extent
    = subst (λ (t : Service). IsExtent t.sizes before.lane.port.extent) (sym same) stood.stands.within.extent in
    let upto = calls_on first.port.service sample before.lane.port.extent first.words fits first between calls
    (record { service = refl; has = has; read = lent }) in
    let on = read_on first.port.service sample before.lane.port.extent first.words fits between second sample again stands
    (λ e. early) upto in
    let extents : between.lane.port.extent ≡ before.lane.port.extent =
    one_extent first.port.service.sizes between.lane.port.extent before.lane.port.extent
    (subst (λ (t : Service). IsExtent t.sizes between.lane.port.extent) upto.service stands.stands.within.extent) fits in
    let reread : HasRead second.port before.lane.port.extent sample second.words
    = subst (λ (e : SlotExtent). HasRead second.port e sample second.words) extents lent_again in
    same_number_lists second.words first.words (omega (arith, reread.whole, on.read.whole))
    (λ k less. sym (reread.known k less (omega (arith, less, reread.whole)))
    ∙ on.read.known k (omega (arith, less, reread.whole, on.read.whole)) (omega (arith, less, reread.whole)))

pub held_reads_are_known : HeldReadsAreKnown
held_reads_are_known ports at number q p extent sample lent agree early here there read k within stores =
    let less : k < 3 + extent.user_header_words + extent.payload_words = omega (arith, within, read.whole) in
    let among = read.listed k less in
    sym (agree at number among.0 q p (Slot sample (word_at extent k)) here there early among.1 stores) ∙ read.known k within less

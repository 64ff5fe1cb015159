-- Calls on other loans leave the payload of a loan: only its own write stores words of it.
use Rattle.std.proofs.Common.{ℕ, ◌≡◌, ◌<◌, Bool, true, false, List, slice_get, set, Option, None, Some, is_some, refl, sym, ap, subst, inl}
use Rattle.std.proofs.Common.{inr, ◌∙◌}
use Rattle.iox_lanes_machine.specs.QueuesSteps.Access.{successor}
use Rattle.iox_lanes_machine.specs.QueuesSteps.declared.access.Access.{Access}
use Rattle.iox_lanes_machine.specs.QueuesSteps.declared.order.PushAnswer.{PushAnswer}
use Rattle.iox_lanes_machine.specs.QueuesSteps.declared.order.PopAnswer.{PopAnswer}
use Rattle.iox_lanes_machine.specs.QueuesSteps.declared.order.PopAnswer.TheVariants.{Got, Saw}
use Rattle.iox_lanes_machine.specs.QueuesSteps.Refusing as refusing
use Rattle.iox_lanes_machine.specs.QueuesSteps.declared.rings.refusing.pop.Pop as refusing_pop_type
use Rattle.iox_lanes_machine.specs.QueuesSteps.Ends.{push_next, push_take}
use Rattle.iox_lanes_machine.specs.QueuesSteps.declared.rings.ends.Push.{Push}
use Rattle.iox_lanes_machine.specs.LanesBase.Numbers.{number_of, IsWord}
use Rattle.iox_lanes_machine.specs.LanesBase.Table.{IsOfTable}
use Rattle.iox_lanes_machine.specs.LanesBase.Words.{on_ring}
use Rattle.iox_lanes_machine.specs.LanesBase.declared.words.word.ConnectionRing.{ConnectionRing}
use Rattle.iox_lanes_machine.specs.LanesBase.declared.words.word.ConnectionRing.TheVariants.{Submission, Completion}
use Rattle.iox_lanes_machine.specs.LanesBase.declared.words.word.SlotWord.{SlotWord}
use Rattle.iox_lanes_machine.specs.LanesBase.declared.words.word.SlotWord.TheVariants.{Payload}
use Rattle.iox_lanes_machine.specs.LanesBase.declared.words.word.SharedWord.TheVariants.{Slot}
use Rattle.iox_lanes_machine.specs.LanesBase.Answers.{refusing_pop_answer, push_answer}
use Rattle.iox_lanes_machine.specs.LanesBase.Publishing.{header_word, publisher_next, publisher_take, loan_from, loan_reclaimed, write_from}
use Rattle.iox_lanes_machine.specs.LanesBase.Publishing.{head_from, push_from, sweep_from, send_reclaimed, pushed, counted, nothing_sent}
use Rattle.iox_lanes_machine.specs.LanesBase.declared.calls.publisher.Delivery.{Delivery}
use Rattle.iox_lanes_machine.specs.LanesBase.declared.calls.publisher.PublisherCall.{PublisherCall}
use Rattle.iox_lanes_machine.specs.LanesBase.declared.calls.publisher.PublisherCall.TheVariants as publishing
use Rattle.iox_lanes_machine.specs.LanesBase.declared.calls.route.Route.{Route}
use Rattle.iox_lanes_machine.specs.LanesParties.Publishers.{words_of as call_words}
use Rattle.iox_lanes_machine.specs.LanesParties.Parties.{PublisherLaneState, publisher_fits, publisher_begun, publisher_after, head_of}
use Rattle.iox_lanes_machine.specs.LanesParties.Within.{IsPublishing}
use Rattle.iox_lanes_machine.specs.LanesParties.declared.call.Answer.{Answer}
use Rattle.iox_lanes_machine.specs.LanesParties.declared.call.Call.TheVariants as call
use Rattle.iox_lanes_machine.specs.LanesParties.declared.call.Move.{Move}
use Rattle.iox_lanes_machine.specs.LanesParties.declared.call.Move.TheVariants.{Begin, GoOn}
use Rattle.iox_lanes_threads_rule.specs.Steps.{learned}
use Rattle.iox_lanes_threads_rule.specs.Acts.{stepped, ToldBy}
use Rattle.iox_lanes_threads_rule.specs.declared.service.Service.{Service}
use Rattle.iox_lanes_threads_rule.specs.declared.view.Port.{Port}
use Rattle.iox_lanes_threads_rule.specs.declared.view.PortParty.{PortParty}
use Rattle.iox_lanes_threads_rule.proofs.Held.{at_other}
use Rattle.iox_lanes_threads_ports.specs.Courses.{publisher_party, publisher_stepped}
use Rattle.iox_lanes_threads_ports.specs.Ends.{knows}
use Rattle.iox_lanes_threads_ports.specs.Known.{payload_word, KeepsPayload}
use Rattle.iox_lanes_threads_ports.specs.Paces.{loan_steps, send_steps}
use Rattle.iox_lanes_threads_ports.specs.OtherLoans.{SparesPayload, SparedPayloadsStay, CallsKeepPayloads}
use Rattle.iox_lanes_threads_ports.specs.Ports.{PublisherStands}
use Rattle.iox_lanes_threads_ports.specs.Values.{PublisherPort, PublisherDoes, Publishes, Asks, Drops}
use Rattle.iox_lanes_threads_ports.specs.Values.{as_lent, as_sent, publisher_begins}
use Rattle.iox_lanes_threads_ports.proofs.KnownSends.{ring_leaves, head_in, no_payload}
use Rattle.iox_lanes_threads_ports.proofs.KnownWrites.{publisher_along}
use Rattle.iox_lanes_threads_ports.proofs.PublisherSteps as publishers
use Rattle.iox_lanes_threads_ports.proofs.Running.{publisher_begun_stands}

-- what comes of a stage that writes no payload into a slot writes none either
module _ (slot : ℕ) where
  spares_loan : (place : ℕ) (at : Option Route) → SparesPayload slot (loan_from place at)
  spares_loan place None = tt
  spares_loan place (Some route) = tt

  spares_reclaimed : (routes : List Route) (place : ℕ) (route : Route) (pop : refusing_pop_type.Pop) (a : Option PopAnswer)
      → SparesPayload slot (loan_reclaimed routes place route pop a)
  spares_reclaimed routes place route pop None = tt
  spares_reclaimed routes place route pop (Some (Got (Some back))) = tt
  spares_reclaimed routes place route pop (Some (Got None)) = spares_loan (successor place) (slice_get routes (successor place))
  spares_reclaimed routes place route pop (Some (Saw some)) = spares_loan (successor place) (slice_get routes (successor place))

  spares_write : (other word : ℕ) (at : Option ℕ) → (other ≡ slot → ⊥) → SparesPayload slot (write_from other word at)
  spares_write other word None off = tt
  spares_write other word (Some value) off = off

  spares_head : (other word : ℕ) (at : Option ℕ) → SparesPayload slot (head_from other word at)
  spares_head other word None = tt
  spares_head other word (Some value) = tt

  spares_push : (other place : ℕ) (delivery : Delivery) (at : Option Route) → SparesPayload slot (push_from other place delivery at)
  spares_push other place delivery None = tt
  spares_push other place delivery (Some route) = tt

  spares_sweep : (routes : List Route) (other place : ℕ) (at : Option Route) → SparesPayload slot (sweep_from routes other place at)
  spares_sweep routes other place None = spares_push other 0 nothing_sent (slice_get routes 0)
  spares_sweep routes other place (Some route) = tt

  spares_swept : (routes : List Route) (other place : ℕ) (route : Route) (pop : refusing_pop_type.Pop) (a : Option PopAnswer)
      → SparesPayload slot (send_reclaimed routes other place route pop a)
  spares_swept routes other place route pop None = tt
  spares_swept routes other place route pop (Some (Got (Some back))) = tt
  spares_swept routes other place route pop (Some (Got None))
      = spares_sweep routes other (successor place) (slice_get routes (successor place))
  spares_swept routes other place route pop (Some (Saw some))
      = spares_sweep routes other (successor place) (slice_get routes (successor place))

  spares_pushed : (routes : List Route) (other place : ℕ) (route : Route) (push : Push) (delivery : Delivery) (a : Option PushAnswer)
      → SparesPayload slot (pushed routes other place route push delivery a)
  spares_pushed routes other place route push delivery None = tt
  spares_pushed routes other place route push delivery (Some a) =
      spares_push other (successor place) (counted delivery a) (slice_get routes (successor place))

  spares_next : (routes : List Route) (words : List ℕ) (c : PublisherCall) (n : ℕ) → SparesPayload slot c
      → SparesPayload slot (publisher_take routes words c n)
  spares_next routes words publishing.Idle n h = tt
  spares_next routes words (publishing.LoanReclaims place route pop) n h =
      spares_reclaimed routes place route (refusing.pop_take pop n) (refusing_pop_answer (refusing.pop_take pop n))
  spares_next routes words publishing.Lending n h = tt
  spares_next routes words (publishing.Writing s w v) n h = spares_write s (successor w) (slice_get words (successor w)) h
  spares_next routes words (publishing.Written s) n h = tt
  spares_next routes words (publishing.Heading s w v) n h = spares_head s (successor w) (slice_get words (successor w))
  spares_next routes words (publishing.Remembering s) n h = spares_sweep routes s 0 (slice_get routes 0)
  spares_next routes words (publishing.SendReclaims s place route pop) n h =
      spares_swept routes s place route (refusing.pop_take pop n) (refusing_pop_answer (refusing.pop_take pop n))
  spares_next routes words (publishing.Pushing s place route push delivery) n h =
      spares_pushed routes s place route (push_take push n) delivery (push_answer (push_take push n))
  spares_next routes words (publishing.Sent s delivery) n h = tt
  spares_next routes words (publishing.Dropping s) n h = tt

same_word : (s t : ℕ) (x y : SlotWord) → Slot s x ≡ Slot t y → x ≡ y
same_word s t x y e = cc e

same_slot : (s t : ℕ) (x y : SlotWord) → Slot s x ≡ Slot t y → s ≡ t
same_slot s t x y e = cc e

-- a step of such a stage leaves what the port knows of the slot's payload
module _ (p : Port) (slot : ℕ) (q : Port) (now : PublisherLaneState) (stands : PublisherStands q now) (n : ℕ) (after : ℕ → PortParty)
    (words : List ℕ) (service : q.service ≡ p.service) (there : slot < q.service.sizes.slots) (kept : KeepsPayload p q slot) where
  in_slot : (k : ℕ) → k < p.service.sizes.payload_words → IsWord q.service.sizes (payload_word slot k)
  in_slot k less = (there, subst (λ (s : Service). k < s.sizes.payload_words) (sym service) less)

  ring_keeps : (c : ℕ) (ring : ConnectionRing) (cells : ℕ) (access : Access) → IsOfTable q.service.sizes (on_ring c ring cells access)
      → KeepsPayload p (stepped q (on_ring c ring cells access) n after) slot
  ring_keeps c ring cells access is = λ k less.
      ring_leaves q stands.place c ring cells n after stands.name slot (Payload k) (in_slot k less) access is ∙ kept k less

  store_keeps : (s : ℕ) (x : SlotWord) (v : ℕ) (party : PortParty) → IsWord q.service.sizes (Slot s x)
      → ((k : ℕ) → payload_word slot k ≡ Slot s x → ⊥)
      → KeepsPayload p (learned q (set q.known (number_of q.service.sizes (Slot s x)) v) party) slot
  store_keeps s x v party is off = λ k less.
      at_other q.service q.known (Slot s x) (payload_word slot k) v is (in_slot k less) (off k) ∙ kept k less

  goes_keeps : (c : PublisherCall) → IsPublishing q.service.sizes now.port.routes words c → IsOfTable q.service.sizes (publisher_next c)
      → SparesPayload slot c → KeepsPayload p (stepped q (publisher_next c) n after) slot
  goes_keeps publishing.Idle at is h = kept
  goes_keeps (publishing.LoanReclaims place route pop) at is h =
      ring_keeps route.connection Completion route.completion_cells (refusing.pop_next pop) is
  goes_keeps publishing.Lending at is h = kept
  goes_keeps (publishing.Writing s w v) at is h =
      store_keeps s (Payload w) v (after 0) (at.0, at.1) (λ k e. h (sym (same_slot slot s (Payload k) (Payload w) e)))
  goes_keeps (publishing.Written s) at is h = kept
  goes_keeps (publishing.Heading s w v) at is h =
      store_keeps s (header_word w) v (after n) (at.0, head_in q.service.sizes w at.1)
      (λ k e. no_payload q.service.sizes s k w at.1 (ap (Slot s) (same_word slot s (Payload k) (header_word w) e)))
  goes_keeps (publishing.Remembering s) at is h = kept
  goes_keeps (publishing.SendReclaims s place route pop) at is h =
      ring_keeps route.connection Completion route.completion_cells (refusing.pop_next pop) is
  goes_keeps (publishing.Pushing s place route push delivery) at is h =
      ring_keeps route.connection Submission route.submission_cells (push_next push) is
  goes_keeps (publishing.Sent s delivery) at is h = kept
  goes_keeps (publishing.Dropping s) at is h = kept

-- a port whose service is the one at the begin, whose call writes no payload into a slot, and which knows of this what it knew
record Spares (p : Port) (slot : ℕ) (q : Port) (lane : PublisherLaneState) : Type 0 where
  service : q.service ≡ p.service
  there : slot < q.service.sizes.slots
  spares : SparesPayload slot lane.port.call
  payload : KeepsPayload p q slot

spares_on : (p : Port) (slot : ℕ) (q : Port) (now : PublisherLaneState) (n : ℕ) → PublisherStands q now
    → ToldBy q (publisher_next now.port.call) n → Spares p slot q now → Spares p slot (publisher_stepped q now n) (publisher_after n now)
spares_on p slot q now n stands told h =
    let kept = publishers.step_same q (publisher_next now.port.call) n (publisher_party now) in
    record {
      service = kept.service ∙ h.service;
      there = subst (λ (s : Service). slot < s.sizes.slots) (sym kept.service) h.there;
      spares = spares_next slot now.port.routes (call_words now.port) now.port.call n h.spares;
      payload = goes_keeps p slot q now stands n (publisher_party now) (call_words now.port) h.service h.there h.payload now.port.call
          stands.within.call (publishers.of_table q now stands) h.spares;
    }

pub spared_payloads_stay : SparedPayloadsStay
spared_payloads_stay slot p lane q now stands there spares goes =
    (publisher_along (Spares p slot) (spares_on p slot) p lane q now goes stands
    (record { service = refl; there = there; spares = spares; payload = λ k less. refl })).1.payload

put_keeps : (p q : Port) (slot : ℕ) → q ≡ p → KeepsPayload p q slot
put_keeps p q slot same = λ k less. ap (λ (z : Port). knows z (payload_word slot k)) same

-- a call that writes no payload into the slot leaves it, be it answered or not
publishes_keeps : (slot : ℕ) (old new : PublisherPort) (fits : Bool) (begun : PublisherLaneState) (most : ℕ) (given : Option Answer)
    → (fits ≡ true → PublisherStands old.port begun) → slot < old.port.service.sizes.slots → SparesPayload slot begun.port.call
    → Publishes old new fits begun most given → KeepsPayload old.port new.port slot
publishes_keeps slot old new fits begun most None stands there spares does = elim does [
  | inl none ↦ put_keeps old.port new.port slot none.1.1
  | inr inside ↦ spared_payloads_stay slot old.port begun new.port new.lane (stands inside.0) there spares inside.1.goes
]
publishes_keeps slot old new fits begun most (Some a) stands there spares does =
    spared_payloads_stay slot old.port begun new.port does.1.last (stands does.0) there spares does.1.goes

pub calls_keep_payloads : CallsKeepPayloads
calls_keep_payloads slot old new stands there = (
  λ given loans. publishes_keeps slot old new (publisher_fits old.lane (Begin call.LoanUninit))
      (publisher_begun 0 call.LoanUninit old.lane) (loan_steps old.port.service.sizes) (as_lent given)
      (λ fit. publisher_begun_stands old.port old.lane (Begin call.LoanUninit) stands fit) there
      (spares_loan slot 0 (slice_get old.lane.port.routes 0)) loans,
  λ loan told sends. publishes_keeps slot old new (publisher_fits old.lane (Begin (call.Send loan)))
      (publisher_begun 0 (call.Send loan) old.lane) (send_steps old.port.service.sizes) (as_sent told)
      (λ fit. publisher_begun_stands old.port old.lane (Begin (call.Send loan)) stands fit) there
      (spares_head slot loan 0 (slice_get (head_of loan old.lane) 0)) sends,
  λ loan done drops. drop_keeps loan done drops,
)
  where
    drop_keeps : (loan : ℕ) (done : Bool) → Drops old loan new done → KeepsPayload old.port new.port slot
    drop_keeps loan false drops = put_keeps old.port new.port slot drops.1.1
    drop_keeps loan true drops = put_keeps old.port new.port slot drops.2

-- what begins a write into another slot writes no payload into this one
spares_asked : (slot : ℕ) (lane : PublisherLaneState) (loan : ℕ) (payload user_header : List ℕ) (step : Move)
    → Asks loan payload user_header step → (loan ≡ slot → ⊥) → SparesPayload slot (publisher_begins step lane).port.call
spares_asked slot lane loan payload user_header GoOn asks off = absurd asks
spares_asked slot lane loan payload user_header (Begin call.LoanUninit) asks off = absurd asks
spares_asked slot lane loan payload user_header (Begin (call.Write s words header)) asks off =
    spares_write slot s 0 (slice_get words.items 0) (λ e. off (sym asks.0 ∙ e))
spares_asked slot lane loan payload user_header (Begin (call.Send s)) asks off = absurd asks
spares_asked slot lane loan payload user_header (Begin (call.DropLoan s)) asks off = absurd asks
spares_asked slot lane loan payload user_header (Begin call.Receive) asks off = absurd asks
spares_asked slot lane loan payload user_header (Begin (call.Read sample)) asks off = absurd asks
spares_asked slot lane loan payload user_header (Begin (call.Release sample)) asks off = absurd asks

-- a write that was answered leaves the payloads of all other slots
pub write_keeps_others : (most : ℕ) (p : Port) (lane : PublisherLaneState) (q : Port) (now : PublisherLaneState) (loan : ℕ)
    (payload user_header : List ℕ) (step : Move) (given : Option Answer) → PublisherStands p lane → Asks loan payload user_header step
    → PublisherDoes most p lane step q now given → is_some given ≡ true
    → (other : ℕ) → (loan ≡ other → ⊥) → other < p.service.sizes.slots → KeepsPayload p q other
write_keeps_others most p lane q now loan payload user_header step None stands asks does some other off there = absurd (cc some)
write_keeps_others most p lane q now loan payload user_header step (Some a) stands asks does some other off there = elim does [
  | inl none ↦ absurd (cc none.1)
  | inr done ↦ spared_payloads_stay other p (publisher_begins step lane) q done.1.last
      (publisher_begun_stands p lane step stands done.0) there
      (spares_asked other lane loan payload user_header step asks off) done.1.goes
]

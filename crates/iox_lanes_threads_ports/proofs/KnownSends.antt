-- After a send the port knows header and user header in the slot, whose payload is as it was.
use Rattle.std.proofs.Common.{ℕ, ◌≡◌, ◌+◌, ◌-◌, ◌*◌, ◌<◌, ◌≤◌, ◌⊎◌, ◌==◌, Bool, true, false, if◌then◌else◌, nat_lt, List, length, set}
use Rattle.std.proofs.Common.{slice_get, slice_index, Option, Some, None, is_some, refl, sym, ◌∙◌, ap, subst, inl, inr, arith}
use Rattle.std.proofs.lemmas.Bool.{cases_order, ltb-true, ltb-false}
use Rattle.iox_lanes_machine.specs.QueuesSteps.Access.{successor}
use Rattle.iox_lanes_machine.specs.QueuesSteps.declared.access.Word.{Word}
use Rattle.iox_lanes_machine.specs.QueuesSteps.declared.access.Access.{Access}
use Rattle.iox_lanes_machine.specs.QueuesSteps.declared.access.Access.TheVariants as own
use Rattle.iox_lanes_machine.specs.QueuesSteps.declared.order.PushAnswer.{PushAnswer}
use Rattle.iox_lanes_machine.specs.QueuesSteps.declared.order.PopAnswer.{PopAnswer}
use Rattle.iox_lanes_machine.specs.QueuesSteps.declared.order.PopAnswer.TheVariants.{Got, Saw}
use Rattle.iox_lanes_machine.specs.QueuesSteps.Refusing as refusing
use Rattle.iox_lanes_machine.specs.QueuesSteps.declared.rings.refusing.pop.Pop as refusing_pop_type
use Rattle.iox_lanes_machine.specs.QueuesSteps.Ends.{push_next, push_take}
use Rattle.iox_lanes_machine.specs.QueuesSteps.declared.rings.ends.Push.{Push}
use Rattle.iox_lanes_machine.specs.LanesBase.Numbers.{slot_words, slots_first, slot_word_number, number_of, words_of, IsSlotWord, IsWord}
use Rattle.iox_lanes_machine.specs.LanesBase.Table.{IsOfTable}
use Rattle.iox_lanes_machine.specs.LanesBase.Words.{cell_word, on_ring}
use Rattle.iox_lanes_machine.specs.LanesBase.declared.words.sizes.TableSizes.{TableSizes}
use Rattle.iox_lanes_machine.specs.LanesBase.declared.words.word.ConnectionRing.{ConnectionRing}
use Rattle.iox_lanes_machine.specs.LanesBase.declared.words.word.ConnectionRing.TheVariants.{Submission, Completion}
use Rattle.iox_lanes_machine.specs.LanesBase.declared.words.word.SlotWord.{SlotWord}
use Rattle.iox_lanes_machine.specs.LanesBase.declared.words.word.SlotWord.TheVariants.{Header, UserHeader, Payload}
use Rattle.iox_lanes_machine.specs.LanesBase.declared.words.word.SharedWord.TheVariants.{Ring, Slot}
use Rattle.iox_lanes_machine.specs.LanesBase.Answers.{refusing_pop_answer, push_answer}
use Rattle.iox_lanes_machine.specs.LanesBase.Publishing.{header_word, publisher_next, publisher_take, publisher_is_over, head_from}
use Rattle.iox_lanes_machine.specs.LanesBase.Publishing.{push_from, sweep_from, send_reclaimed, pushed, counted, nothing_sent}
use Rattle.iox_lanes_machine.specs.LanesBase.declared.calls.publisher.Delivery.{Delivery}
use Rattle.iox_lanes_machine.specs.LanesBase.declared.calls.publisher.PublisherCall.{PublisherCall}
use Rattle.iox_lanes_machine.specs.LanesBase.declared.calls.publisher.PublisherCall.TheVariants as publishing
use Rattle.iox_lanes_machine.specs.LanesBase.declared.calls.route.Route.{Route}
use Rattle.iox_lanes_machine.specs.LanesParties.Publishers.{words_of as call_words}
use Rattle.iox_lanes_machine.specs.LanesParties.declared.publisher.slot_book.LoanAnswer.{LoanAnswer}
use Rattle.iox_lanes_machine.specs.LanesParties.Parties.{PublisherLaneState, publisher_fits, publisher_begun, publisher_after}
use Rattle.iox_lanes_machine.specs.LanesParties.Parties.{publisher_answer, head_of}
use Rattle.iox_lanes_machine.specs.LanesParties.Within.{IsPublishing}
use Rattle.iox_lanes_machine.specs.LanesParties.declared.call.Answer.{Answer}
use Rattle.iox_lanes_machine.specs.LanesParties.SendAnswers.{send_answer}
use Rattle.iox_lanes_machine.specs.LanesParties.declared.call.SendAnswer.{SendAnswer}
use Rattle.iox_lanes_machine.specs.LanesParties.declared.call.Answer.TheVariants as answer
use Rattle.iox_lanes_machine.specs.LanesParties.declared.call.Call.TheVariants as call
use Rattle.iox_lanes_machine.specs.LanesParties.declared.call.Move.TheVariants.{Begin}
use Rattle.iox_lanes_machine.specs.LanesParties.declared.call.Party.{Party}
use Rattle.iox_lanes_machine.specs.LanesParties.declared.call.Party.TheVariants.{Publisher, Subscriber}
use Rattle.iox_lanes_threads_rule.specs.Steps.{known_lost, learned}
use Rattle.iox_lanes_threads_rule.specs.Rule.{held}
use Rattle.iox_lanes_threads_rule.specs.Acts.{stepped, ToldBy}
use Rattle.iox_lanes_threads_rule.specs.declared.service.Service.{Service}
use Rattle.iox_lanes_threads_rule.specs.declared.view.Port.{Port}
use Rattle.iox_lanes_threads_rule.specs.declared.view.PortParty.{PortParty}
use Rattle.iox_lanes_threads_rule.proofs.Held.{word_at, at_other}
use Rattle.iox_lanes_threads_ports.specs.Courses.{publisher_party, publisher_stepped}
use Rattle.iox_lanes_threads_ports.specs.Paces.{send_steps, PublisherEnds}
use Rattle.iox_lanes_threads_ports.specs.Ends.{knows}
use Rattle.iox_lanes_threads_ports.specs.Known.{payload_word, KnowsHead, KeepsPayload}
use Rattle.iox_lanes_threads_ports.specs.Ports.{PublisherStands}
use Rattle.iox_lanes_threads_ports.specs.Values as calls
use Rattle.iox_lanes_threads_ports.specs.Values.{PublisherPort, PublisherDoes, sent_of}
use Rattle.iox_lanes_threads_ports.proofs.PublisherSteps as publishers
use Rattle.iox_lanes_threads_ports.proofs.KnownWrites.{publisher_along, none_past, some_value}
use Rattle.iox_lanes_threads_ports.proofs.Running.{publisher_begun_stands}

-- a word of header and user header has its place as its number
head_number : (sizes : TableSizes) (k : ℕ) → slot_word_number sizes (header_word k) ≡ k
head_number sizes k = by_test (nat_lt k 3) refl
  where
    by_test : (b : Bool) → nat_lt k 3 ≡ b → slot_word_number sizes (if b then Header k else UserHeader (k - 3)) ≡ k
    by_test true e = refl
    by_test false e = let past : 3 ≤ k = ltb-false k 3 e in omega (arith, past)

pub head_in : (sizes : TableSizes) (k : ℕ) → k < 3 + sizes.user_header_words → IsSlotWord sizes (header_word k)
head_in sizes k less = by_test (nat_lt k 3) refl
  where
    by_test : (b : Bool) → nat_lt k 3 ≡ b → IsSlotWord sizes (if b then Header k else UserHeader (k - 3))
    by_test true e = ltb-true k 3 e
    by_test false e = let past : 3 ≤ k = ltb-false k 3 e in omega (arith, past, less)

number_in_slot : (sizes : TableSizes) (slot : ℕ) (x y : SlotWord) → Slot slot x ≡ Slot slot y
    → slot_word_number sizes x ≡ slot_word_number sizes y
number_in_slot sizes slot x y e =
    let g : slots_first sizes + slot * slot_words sizes + slot_word_number sizes x
    ≡ slots_first sizes + slot * slot_words sizes + slot_word_number sizes y = ap (number_of sizes) e in
    omega (arith, g)

same_head : (sizes : TableSizes) (slot k w : ℕ) → Slot slot (header_word k) ≡ Slot slot (header_word w) → k ≡ w
same_head sizes slot k w e
    = omega (arith, number_in_slot sizes slot (header_word k) (header_word w) e, head_number sizes k, head_number sizes w)

pub no_payload : (sizes : TableSizes) (slot k w : ℕ) → w < 3 + sizes.user_header_words → payload_word slot k ≡ Slot slot (header_word w) → ⊥
no_payload sizes slot k w less e = absurd
    (omega (arith, number_in_slot sizes slot (Payload k) (header_word w) e, head_number sizes w, less))

-- the first words of header and user header, and the payload as it was
record Heads (p : Port) (slot : ℕ) (head : List ℕ) (n : ℕ) (q : Port) : Type 0 where
  words : (k : ℕ) → k < n → k < length head → knows q (Slot slot (header_word k)) ≡ slice_index head k
  payload : KeepsPayload p q slot

-- all of them
record Headed (p : Port) (slot : ℕ) (head : List ℕ) (q : Port) : Type 0 where
  words : KnowsHead q slot head
  payload : KeepsPayload p q slot

abbrev InSend : Port → ℕ → List ℕ → Port → PublisherCall → Type 0
InSend p slot head q publishing.Idle = Headed p slot head q
InSend p slot head q (publishing.LoanReclaims place route pop) = ⊥
InSend p slot head q publishing.Lending = ⊥
InSend p slot head q (publishing.Writing s w v) = ⊥
InSend p slot head q (publishing.Written s) = ⊥
InSend p slot head q (publishing.Heading s w v) = (s ≡ slot) × (slice_get head w ≡ Some v) × Heads p slot head w q
InSend p slot head q (publishing.Remembering s) = Headed p slot head q
InSend p slot head q (publishing.SendReclaims s place route pop) = Headed p slot head q
InSend p slot head q (publishing.Pushing s place route push delivery) = Headed p slot head q
InSend p slot head q (publishing.Sent s delivery) = Headed p slot head q
InSend p slot head q (publishing.Dropping s) = ⊥

from_word : (p : Port) (slot : ℕ) (head : List ℕ) (q : Port) (n : ℕ) (at : Option ℕ) → slice_get head n ≡ at → Heads p slot head n q
    → InSend p slot head q (head_from slot n at)
from_word p slot head q n None e h = record
    { words = λ k less. let past = none_past head n e in h.words k (omega (arith, less, past)) less; payload = h.payload }
from_word p slot head q n (Some v) e h = (refl, e, h)

push_headed : (p : Port) (slot : ℕ) (head : List ℕ) (q : Port) (s place : ℕ) (delivery : Delivery) (at : Option Route)
    → Headed p slot head q → InSend p slot head q (push_from s place delivery at)
push_headed p slot head q s place delivery None h = h
push_headed p slot head q s place delivery (Some route) h = h

sweep_headed : (p : Port) (slot : ℕ) (head : List ℕ) (q : Port) (routes : List Route) (s place : ℕ) (at : Option Route)
    → Headed p slot head q → InSend p slot head q (sweep_from routes s place at)
sweep_headed p slot head q routes s place None h = push_headed p slot head q s 0 nothing_sent (slice_get routes 0) h
sweep_headed p slot head q routes s place (Some route) h = h

swept_headed : (p : Port) (slot : ℕ) (head : List ℕ) (q : Port) (routes : List Route) (s place : ℕ) (route : Route)
    (pop : refusing_pop_type.Pop) (a : Option PopAnswer) → Headed p slot head q
    → InSend p slot head q (send_reclaimed routes s place route pop a)
swept_headed p slot head q routes s place route pop None h = h
swept_headed p slot head q routes s place route pop (Some (Got (Some back))) h = h
swept_headed p slot head q routes s place route pop (Some (Got None)) h
    = sweep_headed p slot head q routes s (successor place) (slice_get routes (successor place)) h
swept_headed p slot head q routes s place route pop (Some (Saw some)) h
    = sweep_headed p slot head q routes s (successor place) (slice_get routes (successor place)) h

pushed_headed : (p : Port) (slot : ℕ) (head : List ℕ) (q : Port) (routes : List Route) (s place : ℕ) (route : Route) (push : Push)
    (delivery : Delivery) (a : Option PushAnswer) → Headed p slot head q
    → InSend p slot head q (pushed routes s place route push delivery a)
pushed_headed p slot head q routes s place route push delivery None h = h
pushed_headed p slot head q routes s place route push delivery (Some a) h
    = push_headed p slot head q s (successor place) (counted delivery a) (slice_get routes (successor place)) h

no_ring : (slot c : ℕ) (x : SlotWord) (ring : ConnectionRing) (word : Word) → Slot slot x ≡ Ring c ring word → ⊥
no_ring slot c x ring word e = cc e

-- an access to a ring of a publisher leaves what it knows of slots
module _ (q : Port) (place c : ℕ) (ring : ConnectionRing) (cells n : ℕ) (after : ℕ → PortParty) (name : q.name ≡ Publisher place)
    (slot : ℕ) (x : SlotWord) (there : IsWord q.service.sizes (Slot slot x)) where
  beside : (word : Word) (y : ℕ) → IsWord q.service.sizes (Ring c ring (cell_word cells word))
      → held q.service (set q.known (number_of q.service.sizes (Ring c ring (cell_word cells word))) y) (Slot slot x)
      ≡ knows q (Slot slot x)
  beside word y is = at_other q.service q.known (Ring c ring (cell_word cells word)) (Slot slot x) y is there
      (no_ring slot c x ring (cell_word cells word))

  exchanged_beside : (word : Word) (new : ℕ) (b : Bool) (who : Party) → who ≡ Publisher place
      → IsWord q.service.sizes (Ring c ring (cell_word cells word))
      → held q.service (if b then set q.known (number_of q.service.sizes (Ring c ring (cell_word cells word))) new else known_lost who
      q.known (number_of q.service.sizes (Ring c ring (cell_word cells word))) n) (Slot slot x) ≡ knows q (Slot slot x)
  exchanged_beside word new true who e is = beside word new is
  exchanged_beside word new false (Publisher y) e is = beside word n is
  exchanged_beside word new false (Subscriber y) e is = absurd (cc e)

  pub ring_leaves : (access : Access) → IsOfTable q.service.sizes (on_ring c ring cells access)
      → knows (stepped q (on_ring c ring cells access) n after) (Slot slot x) ≡ knows q (Slot slot x)
  ring_leaves (own.Load word) is = beside word n is
  ring_leaves (own.Store word value) is = beside word value is
  ring_leaves (own.Exchange word old new) is = exchanged_beside word new (n == old) q.name name is
  ring_leaves own.Local is = refl

-- a port whose service is the one at the begin, and whose slot and words are those of a send
record Sends (p : Port) (slot : ℕ) (head : List ℕ) (q : Port) (lane : PublisherLaneState) : Type 0 where
  service : q.service ≡ p.service
  there : slot < q.service.sizes.slots
  sends : lane.port.sends ≡ true
  words : lane.port.head ≡ head
  wide : length head ≡ 3 + q.service.sizes.user_header_words
  stage : InSend p slot head q lane.port.call

ring_headed : (p : Port) (slot : ℕ) (head : List ℕ) (q : Port) (place c : ℕ) (ring : ConnectionRing) (cells n : ℕ)
    (after : ℕ → PortParty) (access : Access) → q.name ≡ Publisher place → q.service ≡ p.service → slot < q.service.sizes.slots
    → length head ≡ 3 + q.service.sizes.user_header_words → IsOfTable q.service.sizes (on_ring c ring cells access)
    → Headed p slot head q → Headed p slot head (stepped q (on_ring c ring cells access) n after)
ring_headed p slot head q place c ring cells n after access name service there wide is h = record {
  words = λ k less. ring_leaves q place c ring cells n after name slot (header_word k)
      (there, head_in q.service.sizes k (omega (arith, less, wide))) access is ∙ h.words k less;
  payload = λ k less. ring_leaves q place c ring cells n after name slot (Payload k)
      (there, subst (λ (s : Service). k < s.sizes.payload_words) (sym service) less) access is ∙ h.payload k less;
}

-- one more word of header and user header
one_more : (p : Port) (slot w v : ℕ) (head : List ℕ) (q : Port) (party : PortParty) → length q.known ≡ words_of q.service.sizes
    → q.service ≡ p.service → slot < q.service.sizes.slots → w < 3 + q.service.sizes.user_header_words → slice_get head w ≡ Some v
    → length head ≡ 3 + q.service.sizes.user_header_words → Heads p slot head w q
    → Heads p slot head (successor w) (learned q (set q.known (number_of q.service.sizes (Slot slot (header_word w))) v) party)
one_more p slot w v head q party wide service there below at long h =
    let is_w : IsWord q.service.sizes (Slot slot (header_word w)) = (there, head_in q.service.sizes w below) in
    record {
      words = λ k less within.
          let is_k : IsWord q.service.sizes (Slot slot (header_word k))
          = (there, head_in q.service.sizes k (omega (arith, within, long))) in
          elim (word_at q.service q.known (Slot slot (header_word w)) (Slot slot (header_word k)) v wide is_w is_k) [
            | inl same ↦ same.1 ∙ sym (ap (slice_index head) (same_head q.service.sizes slot k w same.0) ∙ some_value head w v at)
            | inr other ↦ other.1 ∙ h.words k (below_w k less (cases_order k w)
                (λ e. other.0 (ap (λ (z : ℕ). Slot slot (header_word z)) e))) within
          ];
      payload = λ k less.
          at_other q.service q.known (Slot slot (header_word w)) (payload_word slot k) v is_w
          (there, subst (λ (s : Service). k < s.sizes.payload_words) (sym service) less) (no_payload q.service.sizes slot k w below)
          ∙ h.payload k less;
    }
  where
    below_w : (k : ℕ) → k < successor w → (k ≡ w) ⊎ ((k < w) ⊎ (w < k)) → (k ≡ w → ⊥) → k < w
    below_w k less (inl f) off = absurd (off f)
    below_w k less (inr (inl g)) off = g
    below_w k less (inr (inr g)) off = absurd (omega (arith, g, less))

module _ (p : Port) (slot : ℕ) (head : List ℕ) (q : Port) (now : PublisherLaneState) (stands : PublisherStands q now) (n : ℕ)
    (after : ℕ → PortParty) (words : List ℕ) (same : words ≡ head) (service : q.service ≡ p.service) (there : slot < q.service.sizes.slots)
    (long : length head ≡ 3 + q.service.sizes.user_header_words) where
  send_goes : (c : PublisherCall) → IsPublishing q.service.sizes now.port.routes words c → IsOfTable q.service.sizes (publisher_next c)
      → InSend p slot head q c
      → InSend p slot head (stepped q (publisher_next c) n after) (publisher_take now.port.routes words c n)
  send_goes publishing.Idle at is h = h
  send_goes (publishing.LoanReclaims place route pop) at is h = absurd h
  send_goes publishing.Lending at is h = absurd h
  send_goes (publishing.Writing s w v) at is h = absurd h
  send_goes (publishing.Written s) at is h = absurd h
  send_goes (publishing.Heading s w v) at is h =
      subst (λ (z : ℕ). InSend p slot head (stepped q (publisher_next (publishing.Heading z w v)) n after)
      (head_from z (successor w) (slice_get words (successor w)))) (sym h.0)
      (from_word p slot head (stepped q (publisher_next (publishing.Heading slot w v)) n after) (successor w)
      (slice_get words (successor w)) (ap (λ (xs : List ℕ). slice_get xs (successor w)) (sym same))
      (one_more p slot w v head q (after n) stands.wide service there at.1 h.1 long h.2))
  send_goes (publishing.Remembering s) at is h = sweep_headed p slot head q now.port.routes s 0 (slice_get now.port.routes 0) h
  send_goes (publishing.SendReclaims s place route pop) at is h =
      swept_headed p slot head (stepped q (publisher_next (publishing.SendReclaims s place route pop)) n after) now.port.routes s place
      route (refusing.pop_take pop n) (refusing_pop_answer (refusing.pop_take pop n))
      (ring_headed p slot head q stands.place route.connection Completion route.completion_cells n after (refusing.pop_next pop)
      stands.name service there long is h)
  send_goes (publishing.Pushing s place route push delivery) at is h =
      pushed_headed p slot head (stepped q (publisher_next (publishing.Pushing s place route push delivery)) n after) now.port.routes s
      place route (push_take push n) delivery (push_answer (push_take push n))
      (ring_headed p slot head q stands.place route.connection Submission route.submission_cells n after (push_next push) stands.name
      service there long is h)
  send_goes (publishing.Sent s delivery) at is h = h
  send_goes (publishing.Dropping s) at is h = absurd h

sends_on : (p : Port) (slot : ℕ) (head : List ℕ) (q : Port) (now : PublisherLaneState) (n : ℕ) → PublisherStands q now
    → ToldBy q (publisher_next now.port.call) n → Sends p slot head q now
    → Sends p slot head (publisher_stepped q now n) (publisher_after n now)
sends_on p slot head q now n stands told h =
    let kept = publishers.step_same q (publisher_next now.port.call) n (publisher_party now) in
    record {
      service = kept.service ∙ h.service;
      there = subst (λ (s : Service). slot < s.sizes.slots) (sym kept.service) h.there;
      sends = h.sends;
      words = h.words;
      wide = subst (λ (s : Service). length head ≡ 3 + s.sizes.user_header_words) (sym kept.service) h.wide;
      stage = send_goes p slot head q now stands n (publisher_party now) (call_words now.port)
          (ap (λ (b : Bool). if b then now.port.head else now.port.payload) h.sends ∙ h.words) h.service h.there h.wide now.port.call
          stands.within.call
          (publishers.of_table q now stands) h.stage;
    }

over_known : (p : Port) (slot : ℕ) (head : List ℕ) (q : Port) (c : PublisherCall) → InSend p slot head q c → publisher_is_over c ≡ true
    → Headed p slot head q
over_known p slot head q publishing.Idle h over = h
over_known p slot head q (publishing.LoanReclaims place route pop) h over = absurd h
over_known p slot head q publishing.Lending h over = absurd h
over_known p slot head q (publishing.Writing s w v) h over = absurd h
over_known p slot head q (publishing.Written s) h over = absurd h
over_known p slot head q (publishing.Heading s w v) h over = absurd (cc over)
over_known p slot head q (publishing.Remembering s) h over = h
over_known p slot head q (publishing.SendReclaims s place route pop) h over = h
over_known p slot head q (publishing.Pushing s place route push delivery) h over = h
over_known p slot head q (publishing.Sent s delivery) h over = h
over_known p slot head q (publishing.Dropping s) h over = absurd h

over_answer : (fails : Bool) (p : Port) (slot : ℕ) (head : List ℕ) (q : Port) (c : PublisherCall) (loan : Option LoanAnswer)
    (a : Answer) → InSend p slot head q c → publisher_is_over c ≡ true → publisher_answer fails c loan ≡ Some a → (given : SendAnswer)
    × (a ≡ answer.Sent given)
over_answer fails p slot head q publishing.Idle loan a h over e = absurd (cc e)
over_answer fails p slot head q (publishing.LoanReclaims place route pop) loan a h over e = absurd h
over_answer fails p slot head q publishing.Lending loan a h over e = absurd h
over_answer fails p slot head q (publishing.Writing s w v) loan a h over e = absurd h
over_answer fails p slot head q (publishing.Written s) loan a h over e = absurd h
over_answer fails p slot head q (publishing.Heading s w v) loan a h over e = absurd (cc over)
over_answer fails p slot head q (publishing.Remembering s) loan a h over e = absurd (cc over)
over_answer fails p slot head q (publishing.SendReclaims s place route pop) loan a h over e = absurd (cc over)
over_answer fails p slot head q (publishing.Pushing s place route push delivery) loan a h over e = absurd (cc over)
over_answer fails p slot head q (publishing.Sent s delivery) loan a h over e = (send_answer fails delivery, cc e)
over_answer fails p slot head q (publishing.Dropping s) loan a h over e = absurd h

-- a send that was answered
send_ends : (most : ℕ) (p : Port) (lane : PublisherLaneState) (loan : ℕ) (q : Port) (now : PublisherLaneState) (a : Answer)
    → PublisherStands p lane → publisher_fits lane (Begin (call.Send loan)) ≡ true
    → PublisherEnds most p (publisher_begun 0 (call.Send loan) lane) q now a → Headed p loan (head_of loan lane) q
    × ((given : SendAnswer) × (a ≡ answer.Sent given))
send_ends most p lane loan q now a stands fit run =
    let ready : PublisherStands p (publisher_begun 0 (call.Send loan) lane)
    = publisher_begun_stands p lane (Begin (call.Send loan)) stands fit in
    let mine = publishers.send_is_own lane loan fit in
    let first : Sends p loan (head_of loan lane) p (publisher_begun 0 (call.Send loan) lane) = record {
      service = refl;
      there = omega (arith, mine.1, stands.within.slots);
      sends = refl;
      words = refl;
      wide = ready.within.head;
      stage = from_word p loan (head_of loan lane) p 0 (slice_get (head_of loan lane) 0) refl
          (record { words = λ k less within. absurd (omega (arith, less)); payload = λ k less. refl });
    } in
    let end = publisher_along (Sends p loan (head_of loan lane)) (sends_on p loan (head_of loan lane)) p
    (publisher_begun 0 (call.Send loan) lane) q run.last run.goes ready first in (
      over_known p loan (head_of loan lane) q run.last.port.call end.1.stage run.ends,
      over_answer run.last.fails p loan (head_of loan lane) q run.last.port.call now.port.book.answer a end.1.stage run.ends run.answers,
    )

pub send_known : (most : ℕ) (p : Port) (lane : PublisherLaneState) (loan : ℕ) (q : Port) (now : PublisherLaneState)
    (given : Option Answer) → PublisherStands p lane → PublisherDoes most p lane (Begin (call.Send loan)) q now given
    → is_some (sent_of given) ≡ true → KnowsHead q loan (head_of loan lane) × KeepsPayload p q loan
send_known most p lane loan q now None stands does some = absurd (cc some)
send_known most p lane loan q now (Some a) stands does some = elim does [
  | inl none ↦ absurd (cc none.1)
  | inr done ↦ let h = (send_ends most p lane loan q now a stands done.0 done.1).0 in (h.words, h.payload)
]

-- what a send does
pub send_called : (old new : PublisherPort) (loan : ℕ) (given : Option Answer) → PublisherStands old.port old.lane → new.table ≡ old.table
    → PublisherDoes (send_steps old.port.service.sizes) old.port old.lane (Begin (call.Send loan)) new.port new.lane given
    → calls.Sends old loan new (sent_of given)
send_called old new loan None stands table does = elim does [
  | inl none ↦ inl (none.0, (table, none.2, none.3))
  | inr inside ↦ inr inside
]
send_called old new loan (Some a) stands table does = elim does [
  | inl none ↦ absurd (cc none.1)
  | inr done ↦
      let told = (send_ends (send_steps old.port.service.sizes) old.port old.lane loan new.port new.lane a stands done.0 done.1).1 in
      subst (λ (x : Answer). calls.Sends old loan new (sent_of (Some x))) (sym told.1) (
        done.0,
        subst (λ (x : Answer). PublisherEnds (send_steps old.port.service.sizes) old.port
            (publisher_begun 0 (call.Send loan) old.lane) new.port new.lane x) told.1 done.1,
      )
]

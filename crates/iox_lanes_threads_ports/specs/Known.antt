-- What a port knows of the words of a slot, and of a ring.
use Rattle.std.specs.Prelude.{ℕ, ◌≡◌, ◌+◌, ◌<◌, ◌%◌, Bool, true, false, not, List, length, slice_get, slice_index, Some}
use Rattle.iox_lanes_machine.specs.QueuesSteps.Access.{successor}
use Rattle.iox_lanes_machine.specs.QueuesSteps.declared.access.Word.TheVariants.{Write, Cell}
use Rattle.iox_lanes_machine.specs.QueuesSteps.declared.rings.ends.RingKind.TheVariants.{Refusing}
use Rattle.iox_lanes_machine.specs.LanesBase.declared.words.word.ConnectionRing.{ConnectionRing}
use Rattle.iox_lanes_machine.specs.LanesBase.declared.words.word.ConnectionRing.TheVariants.{Submission, Completion}
use Rattle.iox_lanes_machine.specs.LanesBase.declared.words.word.SharedWord.{SharedWord}
use Rattle.iox_lanes_machine.specs.LanesBase.declared.words.word.SharedWord.TheVariants.{Ring, Slot}
use Rattle.iox_lanes_machine.specs.LanesBase.declared.words.word.SlotWord.TheVariants.{Payload}
use Rattle.iox_lanes_machine.specs.LanesBase.Publishing.{header_word}
use Rattle.iox_lanes_machine.specs.LanesBase.Subscribing.{word_at}
use Rattle.iox_lanes_machine.specs.LanesBase.declared.calls.publisher.Delivery.{Delivery}
use Rattle.iox_lanes_machine.specs.LanesBase.declared.calls.route.Route.{Route}
use Rattle.iox_lanes_machine.specs.LanesBase.declared.calls.subscriber.SlotExtent.{SlotExtent}
use Rattle.iox_lanes_machine.specs.LedgerUses.{total}
use Rattle.iox_lanes_machine.specs.LanesParties.Parties.{SubscriberLaneState, place_of}
use Rattle.iox_lanes_machine.specs.LanesParties.SendAnswers.{send_answer}
use Rattle.iox_lanes_machine.specs.LanesParties.declared.call.SendAnswer.{SendAnswer}
use Rattle.iox_lanes_threads_rule.specs.declared.view.Port.{Port}
use Rattle.iox_lanes_threads_ports.specs.Ends.{knows}

-- The word `k` of the payload of a slot.
abbrev pub payload_word : ℕ → ℕ → SharedWord
payload_word slot k = Slot slot (Payload k)

-- The port knows that the slot has this payload.
abbrev pub KnowsPayload : Port → ℕ → List ℕ → Type 0
KnowsPayload p slot payload = (k : ℕ) → k < length payload → knows p (payload_word slot k) ≡ slice_index payload k

-- The port knows that the slot has these words of header and user header.
abbrev pub KnowsHead : Port → ℕ → List ℕ → Type 0
KnowsHead p slot head = (k : ℕ) → k < length head → knows p (Slot slot (header_word k)) ≡ slice_index head k

-- The port knows that these words are those of the slot's header, user header and payload, up to the shorter of the two.
abbrev pub KnowsRead : Port → SlotExtent → ℕ → List ℕ → Type 0
KnowsRead p extent slot words =
    (k : ℕ) → k < length words → k < 3 + extent.user_header_words + extent.payload_words
    → knows p (Slot slot (word_at extent k)) ≡ slice_index words k

-- The port's view lists all words of the slot's header, user header and payload as loaded.
abbrev pub ListsRead : Port → SlotExtent → ℕ → Type 0
ListsRead p extent slot = (k : ℕ) → k < 3 + extent.user_header_words + extent.payload_words
    → (place : ℕ) × (slice_get p.seen place ≡ Some (Slot slot (word_at extent k)))

-- A value was put into a ring that the port writes: it is in the cell of the write position that the port knew, and the write position is
-- now one higher (2^64 - 1 stays as it is).
abbrev pub KnowsPut : Port → Port → ℕ → ConnectionRing → ℕ → ℕ → Type 0
KnowsPut old new connection ring cells value =
    (knows new (Ring connection ring Write) ≡ successor (knows old (Ring connection ring Write)))
    × (knows new (Ring connection ring (Cell (knows old (Ring connection ring Write) % cells))) ≡ value)

-- The port knows the same write position of the ring before and after.
abbrev pub KeepsWrite : Port → Port → ℕ → ConnectionRing → Type 0
KeepsWrite old new connection ring = knows new (Ring connection ring Write) ≡ knows old (Ring connection ring Write)

-- The port knows that the subscriber put the sample into the completion ring of the connection that the sample was borrowed from.
abbrev pub KnowsGivenBack : Port → Port → SubscriberLaneState → ℕ → Type 0
KnowsGivenBack old new lane sample =
    (place : ℕ) (route : Route) → place_of sample lane ≡ Some place → slice_get lane.port.routes place ≡ Some route
    → KnowsPut old new route.connection Completion route.completion_cells sample

-- The port knows the same payload of the slot before and after.
abbrev pub KeepsPayload : Port → Port → ℕ → Type 0
KeepsPayload old new slot = (k : ℕ) → k < old.service.sizes.payload_words
    → knows new (payload_word slot k) ≡ knows old (payload_word slot k)

-- The sample wasn't returned: the completion ring of the connection that it is borrowed from has the same write position before and after.
abbrev pub KeepsGivenBack : Port → Port → SubscriberLaneState → ℕ → Type 0
KeepsGivenBack old new lane sample =
    (place : ℕ) (route : Route) → place_of sample lane ≡ Some place → slice_get lane.port.routes place ≡ Some route
    → KeepsWrite old new route.connection Completion

-- What a send did at each of its connections: those that got the slot have it in their submission rings, and their number is that of the
-- answer; the others refuse when full, and the write positions of their submission rings stayed as they were. The answer is
-- `UnableToDeliver` exactly if the publisher's sends fail at a full mailbox and some connection refused the slot.
pub record KnowsSent (old new : Port) (fails : Bool) (routes : List Route) (slot : ℕ) (answer : SendAnswer) : Type 0 where
  pub delivery : Delivery
  pub told : answer ≡ send_answer fails delivery
  pub got : ℕ → Bool
  pub puts : (place : ℕ) (route : Route) → slice_get routes place ≡ Some route → got place ≡ true
      → KnowsPut old new route.connection Submission route.submission_cells slot
  pub left : (place : ℕ) (route : Route) → slice_get routes place ≡ Some route → got place ≡ false → (route.kind ≡ Refusing)
      × KeepsWrite old new route.connection Submission
  pub taken : delivery.taken ≡ total got (length routes)
  pub refused : delivery.refused ≡ total (λ place. not (got place)) (length routes)

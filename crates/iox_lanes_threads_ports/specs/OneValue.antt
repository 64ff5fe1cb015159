-- Two reads of one sample, with the steps between them.
use Rattle.std.specs.Prelude.{ℕ, ◌≡◌, ◌+◌, ◌<◌, true, List, length, slice_index}
use Rattle.iox_lanes_machine.specs.LanesBase.Subscribing.{subscriber_next}
use Rattle.iox_lanes_machine.specs.LanesBase.declared.calls.subscriber.SlotExtent.{SlotExtent}
use Rattle.iox_lanes_machine.specs.LanesBase.declared.words.access.SharedAccess.{SharedAccess}
use Rattle.iox_lanes_machine.specs.LanesBase.declared.words.access.SharedAccess.TheVariants.{Load, Store, Exchange, Local}
use Rattle.iox_lanes_machine.specs.LanesBase.declared.words.word.SharedWord.TheVariants.{Ring, Slot}
use Rattle.iox_lanes_machine.specs.LanesParties.Parties.{SubscriberLaneState, is_borrowed, place_of, subscriber_after}
use Rattle.iox_lanes_machine.specs.LanesParties.Within.{IsExtent}
use Rattle.iox_lanes_threads_rule.specs.Acts.{ToldBy}
use Rattle.iox_lanes_threads_rule.specs.Lanes.{IsEarly, as_table}
use Rattle.iox_lanes_threads_rule.specs.declared.view.Port.{Port}
use Rattle.iox_lanes_threads_ports.specs.Courses.{SubscriberGoes}
use Rattle.iox_lanes_threads_ports.specs.Courses.SubscriberGoes.{stays, goes}
use Rattle.iox_lanes_threads_ports.specs.Known.{KnowsRead, ListsRead}
use Rattle.iox_lanes_threads_ports.specs.Ports.{SubscriberStands}

-- If this access is a load of a word of this slot, no write position was 2^64 - 1 when it was answered.
abbrev pub IsAnsweredEarly : (slot : ℕ) (p : Port) (access : SharedAccess) (answer : ℕ) → ToldBy p access answer → Type 0
IsAnsweredEarly slot p (Load (Ring connection ring word)) answer told = Unit {0}
IsAnsweredEarly slot p (Load (Slot other word)) answer told = other ≡ slot → IsEarly (as_table p.service told.1.words)
IsAnsweredEarly slot p (Store w new) answer told = Unit {0}
IsAnsweredEarly slot p (Exchange w old new) answer told = Unit {0}
IsAnsweredEarly slot p Local answer told = Unit {0}

-- No write position was 2^64 - 1 at any of these steps that loaded a word of this slot.
abbrev pub AreAnsweredEarly : {p : Port} {lane : SubscriberLaneState} {q : Port} {now : SubscriberLaneState} → ℕ
    → SubscriberGoes p lane q now → Type 0
AreAnsweredEarly slot stays = Unit {0}
AreAnsweredEarly slot (goes q now answer before told) =
    AreAnsweredEarly slot before × IsAnsweredEarly slot q (subscriber_next now.port.call) answer told

-- The subscriber holds the sample after each of these steps.
abbrev pub HasThroughout : {p : Port} {lane : SubscriberLaneState} {q : Port} {now : SubscriberLaneState} → ℕ
    → SubscriberGoes p lane q now → Type 0
HasThroughout sample stays = Unit {0}
HasThroughout sample (goes q now answer before told) =
    HasThroughout sample before × (is_borrowed (place_of sample (subscriber_after answer now)) ≡ true)

-- A port that holds a sample, and whose view lists all words of it, still lists them after any steps of its calls that keep the sample, and
-- knows the same values of them, if no write position was 2^64 - 1 when these steps loaded a word of the sample. So two reads before and
-- after these steps return the same words, one by one.
abbrev pub ReadsGiveOneValue : Type 0
ReadsGiveOneValue = (p : Port) (lane : SubscriberLaneState) (q : Port) (now : SubscriberLaneState) (steps : SubscriberGoes p lane q now)
    (extent : SlotExtent) (sample : ℕ) (lent : List ℕ)
    → SubscriberStands p lane → IsExtent p.service.sizes extent → HasThroughout sample steps → AreAnsweredEarly sample steps
    → ListsRead p extent sample → KnowsRead p extent sample lent
    → ListsRead q extent sample × KnowsRead q extent sample lent
    × ((again : List ℕ) (k : ℕ) → KnowsRead q extent sample again → k < 3 + extent.user_header_words + extent.payload_words
    → k < length lent → k < length again → slice_index again k ≡ slice_index lent k)

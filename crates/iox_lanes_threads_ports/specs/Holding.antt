-- Two reads of one sample, with the calls between them.
use Rattle.std.specs.Prelude.{ℕ, ◌≡◌, ◌+◌, ◌<◌, Bool, true, false, List, length, slice_index}
use mathlib.Core.Option.{some}
use lib.ListN.{get_elem?}
use Rattle.iox_lanes_machine.specs.LanesBase.Subscribing.{word_at, subscriber_is_idle}
use Rattle.iox_lanes_machine.specs.LanesBase.declared.calls.subscriber.Receipt.{Receipt}
use Rattle.iox_lanes_machine.specs.LanesBase.declared.calls.subscriber.SlotExtent.{SlotExtent}
use Rattle.iox_lanes_machine.specs.LanesBase.declared.words.word.SharedWord.TheVariants.{Slot}
use Rattle.iox_lanes_machine.specs.LanesParties.Parties.{subscriber_begun, is_borrowed, place_of}
use Rattle.iox_lanes_machine.specs.LanesParties.Within.{IsExtent}
use Rattle.iox_lanes_machine.specs.LanesParties.declared.call.Answer.TheVariants as answer
use Rattle.iox_lanes_machine.specs.LanesParties.declared.call.Call.TheVariants as call
use Rattle.iox_lanes_threads_rule.specs.Gathered.{KnowEarly, Agree}
use Rattle.iox_lanes_threads_rule.specs.Rule.{held}
use Rattle.iox_lanes_threads_rule.specs.Service.{Stores}
use Rattle.iox_lanes_threads_rule.specs.declared.view.Port.{Port}
use Rattle.iox_lanes_threads_ports.specs.Courses.{SubscriberEnds}
use Rattle.iox_lanes_threads_ports.specs.Known.{KnowsRead, ListsRead}
use Rattle.iox_lanes_threads_ports.specs.OneValue.{AreAnsweredEarly}
use Rattle.iox_lanes_threads_ports.specs.Ports.{SubscriberStands}
use Rattle.iox_lanes_threads_ports.specs.Values.{SubscriberPort, Reads, ReadsWords, Releases}
use Rattle.iox_lanes_threads_ports.specs.declared.subscriber.ReleaseAnswer.{ReleaseAnswer}

-- The subscriber is between calls, and its port knows what the next step needs.
pub record StandsBetween (s : SubscriberPort) : Type 0 where
  pub stands : SubscriberStands s.port s.lane
  pub idle : subscriber_is_idle s.lane.port.call ≡ true

-- `lent` is all words of the sample's header, user header and payload, and the port's view lists these words as loaded, with these values.
pub record HasRead (p : Port) (extent : SlotExtent) (sample : ℕ) (lent : List ℕ) : Type 0 where
  pub listed : ListsRead p extent sample
  pub known : KnowsRead p extent sample lent
  pub whole : length lent ≡ 3 + extent.user_header_words + extent.payload_words

-- No write position was 2^64 - 1 when the read loaded its words; a read that wasn't made needs nothing.
abbrev pub IsReadEarly : (old : SubscriberPort) (sample : ℕ) (new : SubscriberPort) (done : Bool) → Reads old sample new done → Type 0
IsReadEarly old sample new false read = Unit {0}
IsReadEarly old sample new true read = AreAnsweredEarly sample read.goes

-- A subscriber goes from one state to another by calls, one after the other, each as its contract says: receives, reads (also of this
-- sample), and releases of other samples. No write position was 2^64 - 1 when these calls loaded words of this sample.
pub data GoesOnHolding (sample : ℕ) (from : SubscriberPort) : SubscriberPort → Type 0 where
  stays : GoesOnHolding sample from from
  receives : (old new : SubscriberPort) (receipt : Receipt) → GoesOnHolding sample from old → StandsBetween old
      → SubscriberEnds old.port (subscriber_begun 0 call.Receive old.lane) new.port new.lane (answer.Received receipt)
      → GoesOnHolding sample from new
  reads : (old new : SubscriberPort) (other : ℕ) (done : Bool) → GoesOnHolding sample from old → StandsBetween old
      → (read : Reads old other new done) → (other ≡ sample → IsReadEarly old other new done read) → GoesOnHolding sample from new
  releases : (old new : SubscriberPort) (other : ℕ) (told : ReleaseAnswer) → GoesOnHolding sample from old → StandsBetween old
      → Releases old other new told → (other ≡ sample → ⊥) → GoesOnHolding sample from new

-- A subscriber that has read a sample still holds it after any calls that don't release it, and still knows its words to be these.
abbrev pub HeldReadsStay : Type 0
HeldReadsStay = (sample : ℕ) (from to : SubscriberPort) (extent : SlotExtent) (lent : List ℕ)
    → GoesOnHolding sample from to → IsExtent from.port.service.sizes extent → is_borrowed (place_of sample from.lane) ≡ true
    → HasRead from.port extent sample lent
    → (is_borrowed (place_of sample to.lane) ≡ true) × HasRead to.port extent sample lent

-- Two reads of one sample return the same words, if no call between them releases it, and no write position was 2^64 - 1 when they loaded
-- the words. `first` is the subscriber after the first read, and `second` after the second one.
abbrev pub HeldReadsAgree : Type 0
HeldReadsAgree = (sample : ℕ) (before first between second : SubscriberPort)
    → StandsBetween before → ReadsWords before first sample → HasRead first.port before.lane.port.extent sample first.words
    → GoesOnHolding sample first between
    → StandsBetween between → (again : ReadsWords between second sample) → AreAnsweredEarly sample again.goes
    → HasRead second.port between.lane.port.extent sample second.words
    → second.words ≡ first.words

-- If ports agree (`Agree`) and know that no write position is 2^64 - 1, then the words that one of them has read of a sample that it still
-- holds are what the port that stores the slot's words knows of them.
abbrev pub HeldReadsAreKnown : Type 0
HeldReadsAreKnown = (ports : List Port) (at number : ℕ) (q p : Port) (extent : SlotExtent) (sample : ℕ) (lent : List ℕ)
    → Agree ports → KnowEarly q.service ports → get_elem? ports at ≡ some q → get_elem? ports number ≡ some p
    → HasRead q extent sample lent
    → (k : ℕ) → k < length lent → Stores q.service p.name (Slot sample (word_at extent k))
    → held q.service p.known (Slot sample (word_at extent k)) ≡ slice_index lent k

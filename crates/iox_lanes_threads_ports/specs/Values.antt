-- A port in threads as its callers see it, and what its calls leave.
use Rattle.std.specs.Prelude.{ℕ, ◌≡◌, ◌+◌, ◌-◌, ◌<◌, ◌⊎◌, ◌==◌, Bool, true, false, ◌&&◌, ◌||◌, if◌then◌else◌, List, length, Option, None}
use Rattle.std.specs.Prelude.{Some}
use Rattle.atomic_table.specs.Seated.{TableId}
use Rattle.atomic_table.specs.Table.{Me}
use Rattle.iox_lanes_machine.specs.LanesBase.Numbers.{words_of, IsSmall}
use Rattle.iox_lanes_machine.specs.LanesBase.declared.words.sizes.TableSizes.{TableSizes}
use Rattle.iox_lanes_machine.specs.QueuesSteps.declared.rings.refusing.push.Push.TheVariants as push
use Rattle.iox_lanes_machine.specs.LanesBase.Publishing.{publisher_is_idle}
use Rattle.iox_lanes_machine.specs.LanesBase.Subscribing.{subscriber_is_idle, subscriber_is_over}
use Rattle.iox_lanes_machine.specs.LanesBase.declared.calls.subscriber.SubscriberCall.{SubscriberCall}
use Rattle.iox_lanes_machine.specs.LanesBase.declared.calls.subscriber.SubscriberCall.TheVariants as subscribing
use Rattle.iox_lanes_machine.specs.LanesBase.declared.calls.subscriber.Receipt.{Receipt}
use Rattle.iox_lanes_machine.specs.LanesBase.declared.calls.subscriber.Receipt.TheVariants as receipt
use Rattle.iox_lanes_machine.specs.LanesParties.PublisherKeeping.{loan_of}
use Rattle.iox_lanes_machine.specs.LanesParties.declared.publisher.slot_book.LoanAnswer.{LoanAnswer}
use Rattle.iox_lanes_machine.specs.LanesParties.Parties.{PublisherLaneState, SubscriberLaneState, is_out, publisher_fits, publisher_begun}
use Rattle.iox_lanes_machine.specs.LanesParties.Parties.{write_begun, subscriber_fits, subscriber_begun, subscriber_after}
use Rattle.iox_lanes_machine.specs.LanesParties.Values.{HasWidths, IsWriteOf}
use Rattle.iox_lanes_machine.specs.LanesParties.declared.call.SendAnswer.{SendAnswer}
use Rattle.iox_lanes_machine.specs.LanesParties.declared.call.Answer.{Answer}
use Rattle.iox_lanes_machine.specs.LanesParties.declared.call.Answer.TheVariants as answer
use Rattle.iox_lanes_machine.specs.LanesParties.declared.call.Call.TheVariants as call
use Rattle.iox_lanes_machine.specs.LanesParties.declared.call.CallName.TheVariants as name
use Rattle.iox_lanes_machine.specs.LanesParties.declared.call.Move.{Move}
use Rattle.iox_lanes_machine.specs.LanesParties.declared.call.Move.TheVariants.{Begin, GoOn}
use Rattle.iox_lanes_threads_rule.specs.Acts.{single, port_of}
use Rattle.iox_lanes_threads_rule.specs.declared.view.Port.{Port}
use Rattle.iox_lanes_threads_rule.specs.declared.view.View.{View}
use Rattle.iox_lanes_threads_ports.specs.Courses.{SubscriberGoes, SubscriberEnds}
use Rattle.iox_lanes_threads_ports.specs.Paces.{loan_steps, write_steps, send_steps, PublisherEnds, StaysInside, PublisherRuns}
use Rattle.iox_lanes_threads_ports.specs.Paces.{AreFoundEarly}
use Rattle.iox_lanes_threads_ports.specs.declared.subscriber.ReleaseAnswer.{ReleaseAnswer}
use Rattle.iox_lanes_threads_ports.specs.declared.subscriber.ReleaseAnswer.TheVariants as release

-- A publisher: the table of words that it steps on, what its port knows, and its lane.
pub record PublisherPort : Type 0 where
  pub table : TableId
  pub port : Port
  pub lane : PublisherLaneState

-- A subscriber: the table of words that it steps on, what its port knows, its lane, and the words that its last call read, if it was a
-- read.
pub record SubscriberPort : Type 0 where
  pub table : TableId
  pub port : Port
  pub lane : SubscriberLaneState
  pub words : List ℕ

-- The seat has one port, whose service has these sizes, and the table has exactly the words of these sizes.
pub record IsSeated (table : TableId) (me : Me ℕ View) (sizes : TableSizes) : Type 0 where
  pub alone : me ≡ single (port_of me)
  pub sizes_are : (port_of me).service.sizes ≡ sizes
  pub small : IsSmall sizes
  pub words : table.words ≡ words_of sizes

-- The move begins a write, with memory for the words of a payload and of a user header of these sizes.
abbrev pub HasRoom : TableSizes → Move → Type 0
HasRoom sizes GoOn = ⊥
HasRoom sizes (Begin c) = HasWidths sizes.payload_words sizes.user_header_words c

-- The move begins the write of these words into the slot `loan`.
abbrev pub Asks : ℕ → List ℕ → List ℕ → Move → Type 0
Asks loan payload user_header GoOn = ⊥
Asks loan payload user_header (Begin c) = IsWriteOf loan payload user_header c

-- The publisher after it began the call of this move, if the move begins one.
abbrev pub publisher_begins : Move → PublisherLaneState → PublisherLaneState
publisher_begins GoOn lane = lane
publisher_begins (Begin c) lane = publisher_begun 0 c lane

-- The subscriber after it began the call of this move, if the move begins one.
abbrev pub subscriber_begins : Move → SubscriberLaneState → SubscriberLaneState
subscriber_begins GoOn lane = lane
subscriber_begins (Begin c) lane = subscriber_begun 0 c lane

-- What a publisher does when it is asked to make a move. If the move doesn't fit, it does nothing, and there is no answer. Otherwise it
-- runs the steps of its call, at most `most`.
abbrev pub PublisherDoes : ℕ → Port → PublisherLaneState → Move → Port → PublisherLaneState → Option Answer → Type 0
PublisherDoes most p lane step q now given =
    ((publisher_fits lane step ≡ false) × (given ≡ None) × (q ≡ p) × (now ≡ lane))
    ⊎ ((publisher_fits lane step ≡ true) × PublisherRuns most p (publisher_begins step lane) q now given)

-- The publisher is the same port of the same service, on the same table.
abbrev pub SamePublisher : PublisherPort → PublisherPort → Type 0
SamePublisher old new = (new.table ≡ old.table) × (new.port.name ≡ old.port.name) × (new.port.service ≡ old.port.service)

-- The subscriber is the same port of the same service, on the same table.
abbrev pub SameSubscriber : SubscriberPort → SubscriberPort → Type 0
SameSubscriber old new = (new.table ≡ old.table) × (new.port.name ≡ old.port.name) × (new.port.service ≡ old.port.service)

-- The answer of a loan, if this is one.
abbrev pub lent_of : Option Answer → Option LoanAnswer
lent_of None = None
lent_of (Some (answer.Lent given)) = Some given
lent_of (Some answer.Written) = None
lent_of (Some (answer.Sent told)) = None
lent_of (Some answer.Dropped) = None
lent_of (Some (answer.Received receipt)) = None
lent_of (Some (answer.Read from)) = None
lent_of (Some (answer.Released done)) = None

-- The answer of a send, if this is one.
abbrev pub sent_of : Option Answer → Option SendAnswer
sent_of None = None
sent_of (Some (answer.Lent given)) = None
sent_of (Some answer.Written) = None
sent_of (Some (answer.Sent told)) = Some told
sent_of (Some answer.Dropped) = None
sent_of (Some (answer.Received receipt)) = None
sent_of (Some (answer.Read from)) = None
sent_of (Some (answer.Released done)) = None

-- Nothing was done: table, port and lane are as they were.
abbrev pub StaysPut : PublisherPort → PublisherPort → Type 0
StaysPut old new = (new.table ≡ old.table) × (new.port ≡ old.port) × (new.lane ≡ old.lane)

-- What a call of a publisher does: `fits` says whether the call fits, `begun` is the lane when it begins, and `most` is its maximum number
-- of steps. There is no answer if the call doesn't fit, and then nothing is done, or if the publisher is still inside the call after `most`
-- steps. Otherwise the answer is that of the call's last step.
abbrev pub Publishes : PublisherPort → PublisherPort → Bool → PublisherLaneState → ℕ → Option Answer → Type 0
Publishes old new fits begun most None = ((fits ≡ false) × StaysPut old new)
    ⊎ ((fits ≡ true) × StaysInside most old.port begun new.port new.lane)
Publishes old new fits begun most (Some answer) = (fits ≡ true) × PublisherEnds most old.port begun new.port new.lane answer

-- The lane's answer to a loan, if this is what the loan returns.
abbrev pub as_lent : Option LoanAnswer → Option Answer
as_lent None = None
as_lent (Some given) = Some (answer.Lent given)

-- The publisher makes a loan with this answer.
abbrev pub Loans : PublisherPort → PublisherPort → Option LoanAnswer → Type 0
Loans old new given =
    Publishes old new (publisher_fits old.lane (Begin call.LoanUninit)) (publisher_begun 0 call.LoanUninit old.lane)
    (loan_steps old.port.service.sizes) (as_lent given)

-- The lane's answer to a send, if this is what the send returns.
abbrev pub as_sent : Option SendAnswer → Option Answer
as_sent None = None
as_sent (Some told) = Some (answer.Sent told)

-- The publisher makes a send of the slot `loan` with this answer.
abbrev pub Sends : PublisherPort → ℕ → PublisherPort → Option SendAnswer → Type 0
Sends old loan new given =
    Publishes old new (publisher_fits old.lane (Begin (call.Send loan))) (publisher_begun 0 (call.Send loan) old.lane)
    (send_steps old.port.service.sizes) (as_sent given)

-- A write fits if the publisher is between calls, the slot is a loan of the port, and the numbers of words are those of a payload and a
-- user header.
abbrev pub write_fits : PublisherLaneState → ℕ → List ℕ → List ℕ → Bool
write_fits lane loan payload user_header =
    publisher_is_idle lane.port.call
    && (is_out (loan_of loan lane.port.book) && (length payload == length lane.port.payload)
    && (3 + length user_header == length lane.port.head))

-- The publisher's lane when the write begins.
abbrev pub write_begins : PublisherLaneState → ℕ → List ℕ → List ℕ → PublisherLaneState
write_begins lane loan payload user_header = record (write_begun loan payload user_header lane) { call = name.Write loan; first = 0 }

-- A write that fits is always answered, by the steps of its call; a write that doesn't fit does nothing.
abbrev pub Writes : PublisherPort → ℕ → List ℕ → List ℕ → PublisherPort → Bool → Type 0
Writes old loan payload user_header new false = (write_fits old.lane loan payload user_header ≡ false) × StaysPut old new
Writes old loan payload user_header new true =
    (write_fits old.lane loan payload user_header ≡ true)
    × PublisherEnds (write_steps old.port.service.sizes) old.port (write_begins old.lane loan payload user_header) new.port new.lane
    answer.Written

-- A drop of a loan that fits is one step, which accesses no shared word, and has an answer; a drop that doesn't fit does nothing.
abbrev pub Drops : PublisherPort → ℕ → PublisherPort → Bool → Type 0
Drops old loan new false = (publisher_fits old.lane (Begin (call.DropLoan loan)) ≡ false) × StaysPut old new
Drops old loan new true =
    (publisher_fits old.lane (Begin (call.DropLoan loan)) ≡ true) × (new.table ≡ old.table) × (new.port ≡ old.port)
    × PublisherEnds 1 old.port (publisher_begun 0 (call.DropLoan loan) old.lane) new.port new.lane answer.Dropped

-- The subscriber after the last step of its call, which touches no shared word, if only that step is left; otherwise the subscriber as it
-- is.
abbrev pub settled : SubscriberLaneState → SubscriberLaneState
settled lane = if subscriber_is_over lane.port.call then subscriber_after 0 lane else lane

-- No call is in progress, or only the last step of one is left, which touches no shared word.
abbrev pub IsBetween : SubscriberCall → Type 0
IsBetween c = (subscriber_is_idle c || subscriber_is_over c) ≡ true

-- The call is a read or a release that isn't answered yet, so the number of its steps is known.
abbrev pub IsShort : SubscriberCall → Type 0
IsShort subscribing.Idle = ⊥
IsShort (subscribing.Receiving place route pop waits) = ⊥
IsShort (subscribing.Received receipt) = ⊥
IsShort (subscribing.Reading slot word extent) = word < 3 + extent.user_header_words + extent.payload_words
IsShort (subscribing.WasRead slot) = Unit {0}
IsShort (subscribing.Releasing place route push.Idle) = ⊥
IsShort (subscribing.Releasing place route (push.Begun limit value)) = Unit {0}
IsShort (subscribing.Releasing place route (push.SawWrite limit value write next)) = Unit {0}
IsShort (subscribing.Releasing place route (push.SawRoom value write next)) = Unit {0}
IsShort (subscribing.Releasing place route (push.Filled value next)) = Unit {0}
IsShort (subscribing.Releasing place route (push.Pushed value given)) = ⊥
IsShort (subscribing.Released done) = Unit {0}

-- The number of steps that a read or a release makes before its last one.
abbrev pub steps_left : SubscriberCall → ℕ
steps_left subscribing.Idle = 0
steps_left (subscribing.Receiving place route pop waits) = 0
steps_left (subscribing.Received receipt) = 0
steps_left (subscribing.Reading slot word extent) = 3 + extent.user_header_words + extent.payload_words - word
steps_left (subscribing.WasRead slot) = 0
steps_left (subscribing.Releasing place route push.Idle) = 0
steps_left (subscribing.Releasing place route (push.Begun limit value)) = 4
steps_left (subscribing.Releasing place route (push.SawWrite limit value write next)) = 3
steps_left (subscribing.Releasing place route (push.SawRoom value write next)) = 2
steps_left (subscribing.Releasing place route (push.Filled value next)) = 1
steps_left (subscribing.Releasing place route (push.Pushed value given)) = 0
steps_left (subscribing.Released done) = 0

-- Nothing was done: table, port and lane are as they were.
abbrev pub Unmoved : SubscriberPort → SubscriberPort → Type 0
Unmoved old new = (new.table ≡ old.table) × (new.port ≡ old.port) × (new.lane ≡ old.lane)

-- The receipt in the answer of a receive; `Nothing` for any other answer.
abbrev pub received_of : Option Answer → Receipt
received_of None = receipt.Nothing
received_of (Some (answer.Lent given)) = receipt.Nothing
received_of (Some answer.Written) = receipt.Nothing
received_of (Some (answer.Sent told)) = receipt.Nothing
received_of (Some answer.Dropped) = receipt.Nothing
received_of (Some (answer.Received got)) = got
received_of (Some (answer.Read from)) = receipt.Nothing
received_of (Some (answer.Released done)) = receipt.Nothing

-- What a release that made its steps returns for its answer; `RingFull` for any other answer.
abbrev pub release_answer_of : Option Answer → ReleaseAnswer
release_answer_of None = release.RingFull
release_answer_of (Some (answer.Lent given)) = release.RingFull
release_answer_of (Some answer.Written) = release.RingFull
release_answer_of (Some (answer.Sent told)) = release.RingFull
release_answer_of (Some answer.Dropped) = release.RingFull
release_answer_of (Some (answer.Received got)) = release.RingFull
release_answer_of (Some (answer.Read from)) = release.RingFull
release_answer_of (Some (answer.Released done)) = if done then release.Released else release.RingFull

-- A release that fits made the steps of its call, and found the completion ring full, so the sample is still borrowed. This happens only
-- where some write position was 2^64 - 1 when one of these steps loaded a word.
pub record IsReleasedLate (old : SubscriberPort) (sample : ℕ) (new : SubscriberPort) : Type 0 where
  pub fits : subscriber_fits old.lane (Begin (call.Release sample)) ≡ true
  pub ends : SubscriberEnds old.port (subscriber_begun 0 (call.Release sample) old.lane) new.port new.lane (answer.Released false)
  pub late : AreFoundEarly ends.goes → ⊥

-- A release that fits makes the steps of its call, and the sample went back, as long as no write position was 2^64 - 1
-- (`IsReleasedLate`). A release that doesn't fit does nothing.
abbrev pub Releases : SubscriberPort → ℕ → SubscriberPort → ReleaseAnswer → Type 0
Releases old sample new release.Released =
    (subscriber_fits old.lane (Begin (call.Release sample)) ≡ true)
    × SubscriberEnds old.port (subscriber_begun 0 (call.Release sample) old.lane) new.port new.lane (answer.Released true)
Releases old sample new release.NotMine = (subscriber_fits old.lane (Begin (call.Release sample)) ≡ false) × Unmoved old new
Releases old sample new release.RingFull = IsReleasedLate old sample new

-- A read that fits made its steps, and keeps the words that they loaded.
pub record ReadsWords (old new : SubscriberPort) (sample : ℕ) : Type 0 where
  pub last : SubscriberLaneState
  pub fits : subscriber_fits old.lane (Begin (call.Read sample)) ≡ true
  pub goes : SubscriberGoes old.port (subscriber_begun 0 (call.Read sample) old.lane) new.port last
  pub ends : last.port.call ≡ subscribing.WasRead sample
  pub after : new.lane ≡ subscriber_after 0 last
  pub words : new.words ≡ last.port.words

-- A read that fits makes its steps and keeps the words that they loaded; a read that doesn't fit does nothing.
abbrev pub Reads : SubscriberPort → ℕ → SubscriberPort → Bool → Type 0
Reads old sample new false = (subscriber_fits old.lane (Begin (call.Read sample)) ≡ false) × Unmoved old new
Reads old sample new true = ReadsWords old new sample

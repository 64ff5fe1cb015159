-- The sequence numbers of messages on lanes: how they rise, that they stay, that a read returns them, and what a gap among them means.
use Rattle.std.specs.Prelude.{ℕ, ◌≡◌, ◌+◌, ◌-◌, ◌<◌, ◌≤◌, ◌^◌, ◌==◌, ◌⊎◌, List, [], ◌∷◌, ◌++◌, length, map, filter, drop, get_or, slice_get}
use Rattle.std.specs.Prelude.{None, Some}
use Rattle.std.specs.Option.{option_map_or}
use Rattle.iox_lanes_machine.specs.QueuesSteps.Ends.{overflows}
use Rattle.iox_lanes_machine.specs.QueuesSteps.Order.{after_acts}
use Rattle.iox_lanes_machine.specs.QueuesSteps.declared.order.Act.{Act}
use Rattle.iox_lanes_machine.specs.QueuesSteps.declared.order.Act.TheVariants.{Put, Take}
use Rattle.iox_lanes_machine.specs.QueuesSteps.declared.order.Placed.{Placed}
use Rattle.iox_lanes_machine.specs.QueuesSteps.declared.order.PopAnswer.TheVariants.{Got, Saw}
use Rattle.iox_lanes_machine.specs.QueuesSteps.declared.order.PushAnswer.TheVariants.{Kept, LeftOut, Refused}
use Rattle.iox_lanes_machine.specs.QueuesSteps.declared.schedule.Stepped.{Stepped}
use Rattle.iox_lanes_machine.specs.LanesParties.Parties.{PublisherLaneState}
use Rattle.iox_lanes_machine.specs.LanesParties.declared.call.CallName.TheVariants as name
use Rattle.iox_lanes_machine.specs.LanesParties.declared.call.Entry.{Entry}
use Rattle.iox_lanes_machine.specs.LanesParties.declared.call.FinishedCall.{FinishedCall}
use Rattle.iox_lanes_machine.specs.LanesParties.declared.call.Move.{Move}
use Rattle.iox_lanes_machine.specs.LanesParties.declared.call.Party.{Party}
use Rattle.iox_lanes_machine.specs.Alone.{IsAtConnection, IsRemembered}
use Rattle.iox_lanes_machine.specs.LedgerUses.{count}
use Rattle.iox_lanes_machine.specs.Links.{LinkState}
use Rattle.iox_lanes_machine.specs.Resting.{AllBetween}
use Rattle.iox_lanes_machine.specs.WholeReads.{CameTo}
use Rattle.iox_lanes_laws.specs.Messages.{MessageState}
use Rattle.iox_lanes_laws.specs.Numbered.{found_messages, last_number, number_by, numbered, numbered_act}
use Rattle.iox_lanes_laws.specs.Recorded.{AreAsHeld, ArePast, RecordState, RecordsRun, RecordsTo}

-- The sequence number of a message, where messages have one: the word after the node, the publisher and the number of elements.
abbrev pub sequence_of : MessageState → ℕ
sequence_of message = get_or message.words 3 0

-- The sequence number of the message with this number; 0 if there is none.
abbrev pub sequence_under : List MessageState → ℕ → ℕ
sequence_under messages number = option_map_or sequence_of (slice_get messages number) 0

-- The messages of this publisher among these.
abbrev pub messages_of : ℕ → List MessageState → List MessageState
messages_of who messages = filter (λ message. message.publisher == who) messages

-- The messages that a publisher sent in a run, in their order.
abbrev pub sent_between : RecordState → RecordState → ℕ → List MessageState
sent_between r n who = messages_of who (drop (length r.messages) n.messages)

-- Each number is one more than the one before it, and the first is one more than `last`.
abbrev pub CountUp : ℕ → List ℕ → Type 0
CountUp last [] = Unit {0}
CountUp last (number ∷ more) = (number ≡ last + 1) × CountUp number more

-- The messages of one publisher whose sends began in a run have sequence numbers that rise by one, beginning after the publisher's last
-- number before the run; and its last number after the run is larger by the number of these messages. This holds for a publisher whose last
-- number was less than 2^63, if headers have a word for the number, and as long as at most 2^63 steps were made.
abbrev pub SequencesCountUp : Type 0
SequencesCountUp = (r : RecordState) (entries : List Entry) (made : ℕ) (n : RecordState) → CameTo r.lanes → RecordsRun r entries made n
    → n.lanes.moments ≤ 2 ^ 63 → 0 < r.lanes.table.sizes.user_header_words
    → (who last : ℕ) (lane : PublisherLaneState) → slice_get r.lanes.publishers who ≡ Some lane → lane.last ≡ Some last → last < 2 ^ 63
    → CountUp last (map sequence_of (sent_between r n who))
    × ((after : PublisherLaneState) → slice_get n.lanes.publishers who ≡ Some after
    → after.last ≡ Some (last + length (sent_between r n who)))

-- In each run from a state in which nobody is inside a call and the kept messages are as their slots have them: a read that ends returns as
-- its fourth word the sequence number with which the message of its slot was sent. This holds as long as at most 2^63 steps were made.
abbrev pub ReadsGiveSequences : Type 0
ReadsGiveSequences = (r : RecordState) (entries : List Entry) (made : ℕ) (n : RecordState) → CameTo r.lanes → AllBetween r.lanes
    → AreAsHeld r.lanes r.messages → ArePast r.lanes r.messages → RecordsRun r entries made n → n.lanes.moments ≤ 2 ^ 63
    → (party : Party) (step : Move) (answer : Stepped) (after : RecordState) → RecordsTo n party step answer after
    → (call : FinishedCall) (slot : ℕ) → after.lanes.finished ≡ n.lanes.finished ++ call ∷ [] → call.call ≡ name.Read slot
    → (number : ℕ) (message : MessageState) → last_number n.messages slot n.lanes.moments (length n.messages) ≡ Some number
    → slice_get n.messages number ≡ Some message → get_or after.lanes.read (length n.lanes.read + 3) 0 ≡ sequence_of message

-- While a slot is in a history or at a connection, no step changes which message it has: it has the message with the same number as before
-- the step. This holds if the first kept messages were sent or found before the step, and as long as at most 2^63 steps were made.
abbrev pub UsedSlotsKeepMessages : Type 0
UsedSlotsKeepMessages = (r : RecordState) → CameTo r.lanes → ArePast r.lanes r.messages → r.lanes.moments ≤ 2 ^ 63 → (slot : ℕ)
    → IsRemembered r.lanes slot ⊎ IsAtConnection r.lanes slot
    → (party : Party) (step : Move) (answer : Stepped) (n : RecordState) → RecordsTo r party step answer n
    → (moment : ℕ) → r.lanes.moments ≤ moment
    → last_number n.messages slot moment (length n.messages) ≡ last_number r.messages slot r.lanes.moments (length r.messages)

-- The numbers rise from `low`, each larger than the one before it, and end at `high` at most.
abbrev pub GoUpTo : ℕ → List ℕ → ℕ → Type 0
GoUpTo low [] high = low ≤ high
GoUpTo low (number ∷ more) high = (low < number) × GoUpTo number more high

-- The sequence numbers of the messages that were found to wait at a connection.
abbrev pub sequences_found : List MessageState → LinkState → List ℕ
sequences_found messages link = map (sequence_under messages) (map (number_by messages 0) link.found)

-- The acts of an order, with the sequence numbers of their messages in place of their slots.
abbrev pub sequenced : List MessageState → List Placed → List Act
sequenced messages order = map (numbered_act (sequence_under messages)) (numbered messages order)

-- The sequence numbers of the messages that these acts take.
abbrev pub sequences_taken : List Act → List ℕ
sequences_taken [] = []
sequences_taken (Put value answer ∷ acts) = sequences_taken acts
sequences_taken (Take (Got None) ∷ acts) = sequences_taken acts
sequences_taken (Take (Got (Some value)) ∷ acts) = value ∷ sequences_taken acts
sequences_taken (Take (Saw some) ∷ acts) = sequences_taken acts

-- The sequence numbers of the messages that are lost by these acts: a put drops the oldest, or is refused.
abbrev pub sequences_lost : List Act → List ℕ
sequences_lost [] = []
sequences_lost (Put value Kept ∷ acts) = sequences_lost acts
sequences_lost (Put value (LeftOut oldest) ∷ acts) = oldest ∷ sequences_lost acts
sequences_lost (Put value Refused ∷ acts) = value ∷ sequences_lost acts
sequences_lost (Take answer ∷ acts) = sequences_lost acts

-- The number is that of a message that was sent: of the one at the place that the number says, if numbers began after `last`.
pub record IsSequenceOf (last : ℕ) (sent : List MessageState) (number : ℕ) : Type 0 where
  pub message : MessageState
  pub there : slice_get sent (number - last - 1) ≡ Some message
  pub same : sequence_of message ≡ number

-- A sequence number was missed at a connection where these acts were made, beginning with what was found to wait there. No message with
-- this number was taken, and none waits. If it is larger than the last number from before the run, it is that of a message that was sent in
-- the run, and lost here once. Otherwise it was lost here in the run exactly if its message was found to wait.
pub record IsMissed (last : ℕ) (sent : List MessageState) (found waits : List ℕ) (acts : List Act) (number : ℕ) : Type 0 where
  pub not_taken : count number (sequences_taken acts) ≡ 0
  pub not_waiting : count number waits ≡ 0
  pub sent_here : last < number → IsSequenceOf last sent number
  pub lost_here : last < number → count number (sequences_lost acts) ≡ 1
  pub found_here : number ≤ last → count number (sequences_lost acts) ≡ count number found

-- Of two messages that were taken at a connection one directly after the other, the second one has the larger sequence number, and exactly
-- the numbers between theirs were missed there. This holds in each run from before the first step on, for a publisher whose last number was
-- less than 2^63, if headers have a word for the number, if the numbers of the messages found to wait rise up to that last number at most,
-- and as long as at most 2^63 steps were made.
abbrev pub GapsAreMissed : Type 0
GapsAreMissed = (r : RecordState) (entries : List Entry) (made : ℕ) (n : RecordState) → CameTo r.lanes → r.lanes.moments ≡ 0
    → r.messages ≡ found_messages r.lanes → RecordsRun r entries made n → n.lanes.moments ≤ 2 ^ 63
    → 0 < r.lanes.table.sizes.user_header_words
    → (connection : ℕ) (link : LinkState) (order : List Placed) → slice_get n.lanes.links connection ≡ Some link
    → slice_get n.lanes.orders connection ≡ Some order
    → (last : ℕ) (lane : PublisherLaneState) → slice_get r.lanes.publishers link.publisher ≡ Some lane → lane.last ≡ Some last
    → last < 2 ^ 63 → GoUpTo 0 (sequences_found r.messages link) last
    → let acts = sequenced n.messages order in
    (earlier later : List ℕ) (low high : ℕ) → sequences_taken acts ≡ earlier ++ low ∷ high ∷ later
    → (low < high)
    × ((number : ℕ) → low < number → number < high
    → IsMissed last (sent_between r n link.publisher) (sequences_found r.messages link)
    (after_acts (overflows link.kind) link.limit (sequences_found r.messages link) acts) acts number)

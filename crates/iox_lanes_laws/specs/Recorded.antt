-- Lanes with the messages that were sent on them.
use Rattle.std.specs.Prelude.{ℕ, ◌≡◌, ◌+◌, ◌<◌, ◌≤◌, ◌^◌, ◌⊎◌, true, false, List, [], ◌∷◌, ◌++◌, length, map, slice_get, Some}
use Rattle.std.specs.List.{All}
use Rattle.iox_lanes_machine.specs.QueuesSteps.Ends.{overflows}
use Rattle.iox_lanes_machine.specs.QueuesSteps.Order.{Acts}
use Rattle.iox_lanes_machine.specs.QueuesSteps.declared.order.Placed.{Placed}
use Rattle.iox_lanes_machine.specs.QueuesSteps.declared.schedule.Stepped.{Stepped}
use Rattle.iox_lanes_machine.specs.QueuesSteps.declared.schedule.Stepped.TheVariants as stepped
use Rattle.iox_lanes_machine.specs.LanesParties.declared.call.CallName.TheVariants as name
use Rattle.iox_lanes_machine.specs.LanesParties.declared.call.Entry.{Entry}
use Rattle.iox_lanes_machine.specs.LanesParties.declared.call.FinishedCall.{FinishedCall}
use Rattle.iox_lanes_machine.specs.LanesParties.declared.call.Move.{Move}
use Rattle.iox_lanes_machine.specs.LanesParties.declared.call.Party.{Party}
use Rattle.iox_lanes_machine.specs.Held.{slot_held}
use Rattle.iox_lanes_machine.specs.Links.{LinkState}
use Rattle.iox_lanes_machine.specs.Resting.{AllBetween}
use Rattle.iox_lanes_machine.specs.WholeReads.{CameTo}
use Rattle.iox_lanes_machine.specs.World.{World, Records, StepsTo, fits, happens}
use Rattle.iox_lanes_laws.specs.Messages.{MessageState, begun_messages, last_in}
use Rattle.iox_lanes_laws.specs.Numbered.{last_number, number_by, numbered}

-- The lanes, and the messages whose sends began on them, in their order.
pub record RecordState : Type 0 where
  pub lanes : World
  pub messages : List MessageState

-- The lanes and messages after a step that fits.
abbrev pub recorded_after : RecordState → Party → Move → RecordState
recorded_after r party step = record { lanes = happens r.lanes party step; messages = r.messages ++ begun_messages r.lanes party step }

-- The step records something: the lanes record something, or a send begins.
abbrev pub RecordsAt : RecordState → Party → Move → Type 0
RecordsAt r party step = Records r.lanes party step ⊎ (0 < length (begun_messages r.lanes party step))

-- The answer of a step, and what it leaves: the lanes make their step, and the message whose send begins is appended to the others. An
-- allocation fails only if something is recorded.
abbrev pub RecordsTo : RecordState → Party → Move → Stepped → RecordState → Type 0
RecordsTo r party step stepped.Went n = StepsTo r.lanes party step stepped.Went n.lanes
    × (n.messages ≡ r.messages ++ begun_messages r.lanes party step)
RecordsTo r party step stepped.Finished n = StepsTo r.lanes party step stepped.Finished n.lanes
    × (n.messages ≡ r.messages ++ begun_messages r.lanes party step)
RecordsTo r party step stepped.Skipped n = (fits r.lanes party step ≡ false) × (n ≡ r)
RecordsTo r party step stepped.NoMemory n = (fits r.lanes party step ≡ true) × RecordsAt r party step × (n ≡ r)

-- The lanes and messages after a list of entries, of which `made` were made, one after the other. An entry that doesn't fit is skipped, and
-- so is one that finds no memory for what it records.
abbrev pub RecordsRun : RecordState → List Entry → ℕ → RecordState → Type 0
RecordsRun r [] made n = (made ≡ 0) × (n ≡ r)
RecordsRun r (entry ∷ entries) made n =
    ((fits r.lanes entry.party entry.step ≡ false) × RecordsRun r entries made n)
    ⊎ (((fits r.lanes entry.party entry.step ≡ true)
    × ((fewer : ℕ) × (made ≡ fewer + 1) × RecordsRun (recorded_after r entry.party entry.step) entries fewer n))
    ⊎ ((fits r.lanes entry.party entry.step ≡ true) × RecordsAt r entry.party entry.step × RecordsRun r entries made n))

-- Each of these messages has the words that its slot contains. This holds for messages that are found, and for an empty list.
abbrev pub AreAsHeld : World → List MessageState → Type 0
AreAsHeld m messages = All (λ message. message.words ≡ slot_held m.table message.slot) messages

-- Each of these messages was sent or found by now.
abbrev pub ArePast : World → List MessageState → Type 0
ArePast m messages = All (λ message. message.moment ≤ m.moments) messages

-- In each run from a state in which nobody is inside a call and the kept messages are as their slots have them: a read that ends after the
-- run returns exactly the words of the last message that is kept for its slot, or the words that the slot had at first if none is kept.
-- This holds as long as at most 2^63 steps were made.
abbrev pub ReadsGiveWhatIsKept : Type 0
ReadsGiveWhatIsKept = (r : RecordState) (entries : List Entry) (made : ℕ) (n : RecordState) → CameTo r.lanes → AllBetween r.lanes
    → AreAsHeld r.lanes r.messages → RecordsRun r entries made n → n.lanes.moments ≤ 2 ^ 63
    → (party : Party) (step : Move) (answer : Stepped) (after : RecordState) → RecordsTo n party step answer after
    → (call : FinishedCall) (slot : ℕ) → after.lanes.finished ≡ n.lanes.finished ++ call ∷ [] → call.call ≡ name.Read slot
    → after.lanes.read ≡ n.lanes.read ++ last_in (slot_held r.lanes.table slot) n.messages slot

-- If a message is kept for the slot of such a read (`ReadsGiveWhatIsKept`), the read returns the message with this number: the last one
-- that was sent in the slot by the end of the read.
abbrev pub ReadsGiveMessages : Type 0
ReadsGiveMessages = (r : RecordState) (entries : List Entry) (made : ℕ) (n : RecordState) → CameTo r.lanes → AllBetween r.lanes
    → AreAsHeld r.lanes r.messages → ArePast r.lanes r.messages → RecordsRun r entries made n → n.lanes.moments ≤ 2 ^ 63
    → (party : Party) (step : Move) (answer : Stepped) (after : RecordState) → RecordsTo n party step answer after
    → (call : FinishedCall) (slot : ℕ) → after.lanes.finished ≡ n.lanes.finished ++ call ∷ [] → call.call ≡ name.Read slot
    → (number : ℕ) (message : MessageState) → last_number n.messages slot n.lanes.moments (length n.messages) ≡ Some number
    → slice_get n.messages number ≡ Some message → after.lanes.read ≡ n.lanes.read ++ message.words

-- In each run from before the first step on: the order of each connection answers as a mailbox does with the numbers of its messages in
-- place of their slots; the mailbox begins with the numbers of the messages that were found to wait. So a take gives the number of the
-- oldest message that waits, under which it was put. A slot without a message counts as 0, so found messages have different numbers only if
-- `with_found` kept them. This holds as long as at most 2^63 steps were made.
abbrev pub OrdersFollowNumbers : Type 0
OrdersFollowNumbers = (r : RecordState) (entries : List Entry) (made : ℕ) (n : RecordState) → CameTo r.lanes → r.lanes.moments ≡ 0
    → ArePast r.lanes r.messages → RecordsRun r entries made n → n.lanes.moments ≤ 2 ^ 63
    → (connection : ℕ) (link : LinkState) (order : List Placed) → slice_get n.lanes.links connection ≡ Some link
    → slice_get n.lanes.orders connection ≡ Some order
    → Acts (overflows link.kind) link.limit (map (number_by r.messages 0) link.found) (numbered n.messages order)

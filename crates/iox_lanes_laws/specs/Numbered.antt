-- The numbers of messages on lanes: what was found there, and which message an entry of an order has.
use Rattle.std.specs.Prelude.{ℕ, zero, suc, ◌+◌, ◌==◌, ◌&&◌, Bool, false, nat_le, nat_lt, if◌then◌else◌, List, [], ◌∷◌, ◌++◌, length}
use Rattle.std.specs.Prelude.{get_or, option_map, slice_get, unwrap_or, Option, None, Some}
use Rattle.iox_lanes_machine.specs.QueuesSteps.declared.order.Act.{Act}
use Rattle.iox_lanes_machine.specs.QueuesSteps.declared.order.Act.TheVariants.{Put, Take}
use Rattle.iox_lanes_machine.specs.QueuesSteps.declared.order.Placed.{Placed}
use Rattle.iox_lanes_machine.specs.QueuesSteps.declared.order.PopAnswer.{PopAnswer}
use Rattle.iox_lanes_machine.specs.QueuesSteps.declared.order.PopAnswer.TheVariants.{Got, Saw}
use Rattle.iox_lanes_machine.specs.QueuesSteps.declared.order.PushAnswer.{PushAnswer}
use Rattle.iox_lanes_machine.specs.QueuesSteps.declared.order.PushAnswer.TheVariants.{Kept, LeftOut, Refused}
use Rattle.iox_lanes_machine.specs.LanesParties.Parties.{PublisherLaneState}
use Rattle.iox_lanes_machine.specs.Held.{slot_held}
use Rattle.iox_lanes_machine.specs.World.{World}
use Rattle.iox_lanes_laws.specs.Messages.{MessageState}
use Rattle.iox_lanes_laws.specs.declared.messages.placed_message.PlacedMessage.{PlacedMessage}

-- The message found in a publisher's slot with this many uses: if the slot has any use, a message with the words that the slot contains.
abbrev pub found_in : World → ℕ → ℕ → ℕ → List MessageState
found_in m publisher slot uses =
    if nat_lt 0 uses
    then record { publisher = publisher; slot = slot; moment = m.moments; words = slot_held m.table slot } ∷ []
    else []

-- The messages found in the first `count` slots of a publisher.
abbrev pub found_first : World → ℕ → PublisherLaneState → ℕ → List MessageState
found_first m publisher lane zero = []
found_first m publisher lane (suc count) = found_first m publisher lane count
    ++ found_in m publisher (lane.port.book.first + count) (get_or lane.port.book.uses count 0)

-- The messages found in all slots of a publisher, if there is one.
abbrev pub found_of : World → ℕ → Option PublisherLaneState → List MessageState
found_of m publisher None = []
found_of m publisher (Some lane) = found_first m publisher lane (length lane.port.book.loans)

-- The messages found in the slots of the first `count` publishers.
abbrev pub found_before : World → ℕ → List MessageState
found_before m zero = []
found_before m (suc count) = found_before m count ++ found_of m count (slice_get m.publishers count)

-- The messages that are found on lanes: publisher by publisher, and slot by slot.
abbrev pub found_messages : World → List MessageState
found_messages m = found_before m (length m.publishers)

-- Whether there is a message, and it is in this slot and was sent by this moment.
abbrev pub was_sent_by : ℕ → ℕ → Option MessageState → Bool
was_sent_by slot moment None = false
was_sent_by slot moment (Some message) = (message.slot == slot) && nat_le message.moment moment

-- The number of the last of the first `count` messages that was sent in this slot by this moment.
abbrev pub last_number : List MessageState → ℕ → ℕ → ℕ → Option ℕ
last_number messages slot moment zero = None
last_number messages slot moment (suc count) =
    if was_sent_by slot moment (slice_get messages count) then Some count else last_number messages slot moment count

-- The slot that an act puts or takes; none for a look and for a take that finds nothing.
abbrev pub acted_slot : Act → Option ℕ
acted_slot (Put value answer) = Some value
acted_slot (Take (Got got)) = got
acted_slot (Take (Saw some)) = None

-- The number of the last message that was sent in the slot by this moment, if there is a slot.
abbrev pub number_in : List MessageState → Option ℕ → ℕ → Option ℕ
number_in messages None moment = None
number_in messages (Some slot) moment = last_number messages slot moment (length messages)

-- The number of the message that an entry of an order puts or takes: the last one that was sent in its slot by its moment.
abbrev pub number_of_placed : List MessageState → Option Placed → Option ℕ
number_of_placed messages None = None
number_of_placed messages (Some placed) = number_in messages (acted_slot placed.act) placed.moment

-- The entry of an order, with the number of the message that it puts or takes.
abbrev pub with_number : List MessageState → Placed → PlacedMessage
with_number messages placed = record { placed = placed; number = number_of_placed messages (Some placed) }

-- The number of the last message that was sent in this slot by this moment; 0 if none was.
abbrev pub number_by : List MessageState → ℕ → ℕ → ℕ
number_by messages moment slot = unwrap_or (last_number messages slot moment (length messages)) 0

-- The answer of a put, with numbers in place of slots.
abbrev pub numbered_put : (ℕ → ℕ) → PushAnswer → PushAnswer
numbered_put number Kept = Kept
numbered_put number (LeftOut slot) = LeftOut (number slot)
numbered_put number Refused = Refused

-- The answer of a take or a look, with numbers in place of slots.
abbrev pub numbered_take : (ℕ → ℕ) → PopAnswer → PopAnswer
numbered_take number (Got got) = Got (option_map number got)
numbered_take number (Saw some) = Saw some

-- The act, with numbers in place of slots.
abbrev pub numbered_act : (ℕ → ℕ) → Act → Act
numbered_act number (Put value answer) = Put (number value) (numbered_put number answer)
numbered_act number (Take answer) = Take (numbered_take number answer)

-- The acts of an order, with the numbers of their messages in place of their slots.
abbrev pub numbered : List MessageState → List Placed → List Act
numbered messages [] = []
numbered messages (placed ∷ order) = numbered_act (number_by messages placed.moment) placed.act ∷ numbered messages order

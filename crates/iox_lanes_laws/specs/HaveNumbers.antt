-- Each message of an order has a number.
use Rattle.std.specs.Prelude.{ℕ, ◌≡◌, ◌≤◌, ◌^◌, List, [], ◌∷◌, length, slice_get, None, Some}
use Rattle.std.specs.List.{All}
use Rattle.iox_lanes_machine.specs.QueuesSteps.declared.order.Act.{Act}
use Rattle.iox_lanes_machine.specs.QueuesSteps.declared.order.Act.TheVariants.{Put, Take}
use Rattle.iox_lanes_machine.specs.QueuesSteps.declared.order.Placed.{Placed}
use Rattle.iox_lanes_machine.specs.QueuesSteps.declared.order.PopAnswer.TheVariants.{Got, Saw}
use Rattle.iox_lanes_machine.specs.QueuesSteps.declared.order.PushAnswer.TheVariants.{Kept, LeftOut, Refused}
use Rattle.iox_lanes_machine.specs.LanesParties.declared.call.Entry.{Entry}
use Rattle.iox_lanes_machine.specs.Links.{LinkState}
use Rattle.iox_lanes_machine.specs.WholeReads.{CameTo}
use Rattle.iox_lanes_laws.specs.Messages.{MessageState}
use Rattle.iox_lanes_laws.specs.Numbered.{found_messages, last_number}
use Rattle.iox_lanes_laws.specs.Recorded.{RecordState, RecordsRun}

-- Some message was sent or found in this slot by this moment, so the slot has a number at this moment.
abbrev pub HasNumber : List MessageState → ℕ → ℕ → Type 0
HasNumber messages moment slot = (number : ℕ) × (last_number messages slot moment (length messages) ≡ Some number)

-- The slots that an act names: those of a put, of the message that it drops, and of a take.
abbrev pub slots_named : Act → List ℕ
slots_named (Put value Kept) = value ∷ []
slots_named (Put value (LeftOut oldest)) = value ∷ oldest ∷ []
slots_named (Put value Refused) = value ∷ []
slots_named (Take (Got None)) = []
slots_named (Take (Got (Some slot))) = slot ∷ []
slots_named (Take (Saw some)) = []

-- Each slot that the order names has a number by the moment of its entry.
abbrev pub OrderHasNumbers : List MessageState → List Placed → Type 0
OrderHasNumbers messages order = All (λ placed. All (HasNumber messages placed.moment) (slots_named placed.act)) order

-- In each run from before the first step on, if the messages that were found were kept then: each message that was found to wait has a
-- number, and so has each message that an order puts, drops or takes. This holds as long as at most 2^63 steps were made.
abbrev pub OrdersHaveNumbers : Type 0
OrdersHaveNumbers = (r : RecordState) (entries : List Entry) (made : ℕ) (n : RecordState) → CameTo r.lanes → r.lanes.moments ≡ 0
    → r.messages ≡ found_messages r.lanes → RecordsRun r entries made n → n.lanes.moments ≤ 2 ^ 63
    → (connection : ℕ) (link : LinkState) (order : List Placed) → slice_get n.lanes.links connection ≡ Some link
    → slice_get n.lanes.orders connection ≡ Some order
    → All (HasNumber r.messages 0) link.found × OrderHasNumbers n.messages order

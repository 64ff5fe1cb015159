-- Calls on other loans leave the payload and the user header of a loan.
use Rattle.std.specs.Prelude.{ℕ, ◌≡◌, ◌<◌, Bool, true, List, Option}
use Rattle.iox_lanes_machine.specs.LanesBase.declared.calls.publisher.PublisherCall.{PublisherCall}
use Rattle.iox_lanes_machine.specs.LanesBase.declared.calls.publisher.PublisherCall.TheVariants as publishing
use Rattle.iox_lanes_machine.specs.LanesParties.Parties.{PublisherLaneState, is_out, kept_head}
use Rattle.iox_lanes_machine.specs.LanesParties.PublisherKeeping.{loan_of}
use Rattle.iox_lanes_machine.specs.LanesParties.declared.call.SendAnswer.{SendAnswer}
use Rattle.iox_lanes_machine.specs.LanesParties.declared.publisher.slot_book.LoanAnswer.{LoanAnswer}
use Rattle.iox_lanes_threads_rule.specs.declared.view.Port.{Port}
use Rattle.iox_lanes_threads_ports.specs.Courses.{PublisherGoes}
use Rattle.iox_lanes_threads_ports.specs.Known.{KeepsPayload}
use Rattle.iox_lanes_threads_ports.specs.Ports.{PublisherStands}
use Rattle.iox_lanes_threads_ports.specs.Values.{PublisherPort, Loans, Sends, Drops, Writes}

-- The call writes no payload into this slot.
abbrev pub SparesPayload : ℕ → PublisherCall → Type 0
SparesPayload slot publishing.Idle = Unit {0}
SparesPayload slot (publishing.LoanReclaims place route pop) = Unit {0}
SparesPayload slot publishing.Lending = Unit {0}
SparesPayload slot (publishing.Writing other word value) = other ≡ slot → ⊥
SparesPayload slot (publishing.Written other) = Unit {0}
SparesPayload slot (publishing.Heading other word value) = Unit {0}
SparesPayload slot (publishing.Remembering other) = Unit {0}
SparesPayload slot (publishing.SendReclaims other place route pop) = Unit {0}
SparesPayload slot (publishing.Pushing other place route push delivery) = Unit {0}
SparesPayload slot (publishing.Sent other delivery) = Unit {0}
SparesPayload slot (publishing.Dropping other) = Unit {0}

-- After any steps of a call that writes no payload into a slot, the slot's payload is as it was.
abbrev pub SparedPayloadsStay : Type 0
SparedPayloadsStay = (slot : ℕ) (p : Port) (lane : PublisherLaneState) (q : Port) (now : PublisherLaneState)
    → PublisherStands p lane → slot < p.service.sizes.slots → SparesPayload slot lane.port.call → PublisherGoes p lane q now
    → KeepsPayload p q slot

-- A loan, a send and a drop of a loan leave the payload of every slot as it was, with or without an answer.
abbrev pub CallsKeepPayloads : Type 0
CallsKeepPayloads = (slot : ℕ) (old new : PublisherPort) → PublisherStands old.port old.lane → slot < old.port.service.sizes.slots
    → ((given : Option LoanAnswer) → Loans old new given → KeepsPayload old.port new.port slot)
    × ((loan : ℕ) (told : Option SendAnswer) → Sends old loan new told → KeepsPayload old.port new.port slot)
    × ((loan : ℕ) (done : Bool) → Drops old loan new done → KeepsPayload old.port new.port slot)

-- The words that a send of this slot stores as header and user header, besides a sequence number, are as they were.
abbrev pub KeepsHead : ℕ → PublisherPort → PublisherPort → Type 0
KeepsHead slot old new = kept_head slot new.lane ≡ kept_head slot old.lane

-- A loan, a send and a drop of a loan leave the user header that is kept for each slot, with or without an answer. A write leaves those of
-- all other loans.
abbrev pub CallsKeepHeads : Type 0
CallsKeepHeads = (slot : ℕ) (old new : PublisherPort)
    → ((given : Option LoanAnswer) → Loans old new given → KeepsHead slot old new)
    × ((loan : ℕ) (told : Option SendAnswer) → Sends old loan new told → KeepsHead slot old new)
    × ((loan : ℕ) (done : Bool) → Drops old loan new done → KeepsHead slot old new)
    × ((loan : ℕ) (payload user_header : List ℕ) (done : Bool) → Writes old loan payload user_header new done → (loan ≡ slot → ⊥)
    → is_out (loan_of slot old.lane.port.book) ≡ true → KeepsHead slot old new)

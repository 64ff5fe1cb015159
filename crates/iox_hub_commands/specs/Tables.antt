-- Which port, loan or sample has a number.
use Rattle.std.specs.Prelude.{ℕ, ◌≡◌, ◌≤◌, ◌||◌, ◌==◌, [], length, Option, None, Some, if◌then◌else◌}
use Rattle.iox_container.specs.NumberTable.{NumberTable, removed}
use Rattle.iox_delivery.specs.declared.port_id.PortId.{PortId}
use Rattle.iox_hub_commands.specs.declared.ports.made.Made.{Made}
use Rattle.iox_hub_commands.specs.declared.ports.made.MadePublisher.{MadePublisher}

-- A table without values and capacity, whose first number is 1.
abbrev pub no_numbers : {V : Type 0} → NumberTable V
no_numbers = record { entries = []; next = 1; room = 0 }

-- Nothing was made.
abbrev pub IsEmpty : Made → Type 0
IsEmpty made = made ≡ record { publishers = no_numbers; subscribers = no_numbers; loans = no_numbers; samples = no_numbers }

-- The table has the same values under the same numbers, the same next number, and at least as much capacity.
abbrev pub SameNumbers : {V : Type 0} → NumberTable V → NumberTable V → Type 0
SameNumbers old new = (new.entries ≡ old.entries) × (new.next ≡ old.next) × (old.room ≤ new.room)

-- Nothing changed, except that there may be more capacity.
abbrev pub IsRoomier : Made → Made → Type 0
IsRoomier old new = SameNumbers old.publishers new.publishers × SameNumbers old.subscribers new.subscribers
    × SameNumbers old.loans new.loans × SameNumbers old.samples new.samples

-- The tables of loans and of samples are as they were, with the capacity that they had.
abbrev pub SameMessages : Made → Made → Type 0
SameMessages old new = (new.loans ≡ old.loans) × (new.samples ≡ old.samples)

-- The table has no capacity for one more value.
abbrev pub IsFull : {V : Type 0} → NumberTable V → Type 0
IsFull table = table.room ≤ length table.entries

-- The port of the publisher, if there is one.
abbrev pub port_under : Option MadePublisher → Option PortId
port_under None = None
port_under (Some made) = Some made.port

-- The port of the publisher, if its messages may have this many elements; messages that aren't slices have one.
abbrev pub lender : ℕ → Option MadePublisher → Option PortId
lender elements None = None
lender elements (Some made) = if made.holds_slices || (elements == 1) then Some made.port else None

-- The tables without this publisher's number.
abbrev pub without_publisher : ℕ → Made → Made
without_publisher number made = record made { publishers = removed made.publishers number }

-- The tables without this subscriber's number.
abbrev pub without_subscriber : ℕ → Made → Made
without_subscriber number made = record made { subscribers = removed made.subscribers number }

-- The tables without this loan's number.
abbrev pub without_loan : ℕ → Made → Made
without_loan number made = record made { loans = removed made.loans number }

-- The tables without this sample's number.
abbrev pub without_sample : ℕ → Made → Made
without_sample number made = record made { samples = removed made.samples number }

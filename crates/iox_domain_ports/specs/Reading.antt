-- What a subscriber does at one publisher.
use Rattle.std.specs.Prelude.{ℕ, ◌==◌, ◌&&◌, Bool, length, is_some, not, position, Option, None, Some}
use Rattle.std.specs.List.{list_any, find}
use Rattle.iox_domain_slots.specs.Uses.{Connection, is_there, taken, given_back}
use Rattle.iox_domain_ports.specs.Messages.{Message}
use Rattle.iox_domain_ports.specs.Ports.{connection_of, with_connection_of}
use Rattle.iox_domain_ports.specs.declared.publisher_port.PublisherPort.{PublisherPort}

-- The place of the first borrowed message in this slot.
abbrev pub place_of : {T U : Type 0} → ℕ → Connection (Message T U) → Option ℕ
place_of slot connection = position (λ message. message.slot == slot) connection.borrowed

-- The first borrowed message in this slot.
abbrev pub borrowed_in : {T U : Type 0} → ℕ → Connection (Message T U) → Option (Message T U)
borrowed_in slot connection = find (λ message. message.slot == slot) connection.borrowed

-- The publisher after the oldest waiting message of the connection at this index was borrowed.
abbrev pub taken_at : {T U : Type 0} → ℕ → PublisherPort T U → PublisherPort T U
taken_at index port = with_connection_of index (taken (connection_of index port)) port

-- The publisher after the borrowed message at this place, if one is given, was released.
abbrev pub given_back_at : {T U : Type 0} → ℕ → Option ℕ → PublisherPort T U → PublisherPort T U
given_back_at index None port = port
given_back_at index (Some at) port = with_connection_of index (given_back at (connection_of index port)) port

-- Whether a publisher is over: it is closed, and has neither loans nor connections nor a blocked send.
abbrev pub is_over : {T U : Type 0} → PublisherPort T U → Bool
is_over port =
    not port.stands && ((length port.sender.uses.loans == 0)
    && (not (is_some port.sender.uses.sending) && not (list_any is_there port.sender.uses.connections)))

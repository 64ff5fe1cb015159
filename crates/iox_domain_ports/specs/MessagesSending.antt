-- One publisher with its messages.
use Rattle.std.specs.Prelude.{false, ℕ, ◌+◌, ◌<◌, ◌≤◌, ◌≡◌, ◌==◌, Bool, List, [], ◌∷◌, length, get_or, map, Option, None, Some}
use Rattle.std.specs.Prelude.{option_map, if◌then◌else◌, eqb, nat_lt, ◌&&◌, is_some, slice_get}
use Rattle.std.specs.List.{All, list_any, find, position, position_or_len}
use Rattle.iox_domain_slots.specs.Uses.{Uses, Connection, in_use, loaned, segment_opened}
use Rattle.iox_domain_slots.specs.Counting.{times}
use Rattle.iox_domain_ports.specs.Messages.{Message, Loan, new_loan, is_written}
use Rattle.iox_domain_ports.specs.Payloads.{PayloadsState, payload_at}
use Rattle.iox_domain_ports.specs.declared.messages.slot_header.SlotHeader.{SlotHeader}

-- A publisher: the maximum number of values of a new loan, how many segments exist and may exist, the user header of a new
-- loan, and who uses which message.
pub record SenderState (T U : Type 0) : Type 0 where
  pub room : ℕ
  pub segments : ℕ
  pub most_segments : ℕ
  pub user_header : U
  pub uses : Uses (Loan T U) (Message T U)

-- The sender with these uses, and otherwise unchanged.
abbrev pub with_uses : {T U : Type 0} → Uses (Loan T U) (Message T U) → SenderState T U → SenderState T U
with_uses uses sender = record sender { uses = uses }

-- The connection with this function applied to each message.
abbrev pub connection_by : {X Y : Type 0} → (X → Y) → Connection X → Connection Y
connection_by name connection = record {
  stage = connection.stage;
  limit = connection.limit;
  waiting = map name connection.waiting;
  borrowed = map name connection.borrowed;
}

-- The uses with these functions applied to each loan and each message.
abbrev pub uses_by : {L X M Y : Type 0} → (L → M) → (X → Y) → Uses L X → Uses M Y
uses_by loan message uses = record {
  first = uses.first;
  size = uses.size;
  most_loans = uses.most_loans;
  kept = uses.kept;
  most_waiting = uses.most_waiting;
  most_borrowed = uses.most_borrowed;
  overflows = uses.overflows;
  sending = option_map message uses.sending;
  loans = map loan uses.loans;
  history = map message uses.history;
  connections = map (connection_by message) uses.connections;
}

-- The uses with each loan and each message replaced by its slot.
abbrev pub slots_of : {T U : Type 0} → SenderState T U → Uses ℕ ℕ
slots_of sender = uses_by (λ loan. loan.slot) (λ message. message.slot) sender.uses

-- A loan is made in any slot of the current segment that isn't in use. It answers None, and changes nothing, exactly if each of
-- them is in use.
abbrev pub LoanMade : {T U : Type 0} → SenderState T U → ℕ → ℕ → Option ℕ → SenderState T U → Type 0
LoanMade old values elements None new =
    ((slot : ℕ) → old.uses.first ≤ slot → slot < old.uses.first + old.uses.size → 0 < times slot (in_use (slots_of old))) × (new ≡ old)
LoanMade old values elements (Some slot) new =
    (old.uses.first ≤ slot) × (slot < old.uses.first + old.uses.size) × (times slot (in_use (slots_of old)) ≡ 0)
    × (new ≡ with_uses (loaned (new_loan slot values elements old.user_header) old.uses) old)

-- The uses after the loan in this slot, if one exists, was changed.
abbrev pub change_loan : {T U : Type 0} → ℕ → (Loan T U → Loan T U) → Uses (Loan T U) (Message T U) → Uses (Loan T U) (Message T U)
change_loan slot change uses = record uses { loans = map (λ loan. if eqb slot loan.slot then change loan else loan) uses.loans }

-- Whether one of the loans is in this slot.
abbrev pub has_loan : {T U : Type 0} → ℕ → Uses (Loan T U) (Message T U) → Bool
has_loan slot uses = list_any (λ loan. eqb slot loan.slot) uses.loans

-- Whether one of the loans is in this slot and has a value at this place.
abbrev pub has_place : {T U : Type 0} → ℕ → ℕ → Uses (Loan T U) (Message T U) → Bool
has_place slot place uses = list_any (λ loan. eqb slot loan.slot && nat_lt place (length loan.values)) uses.loans

-- Whether one of the loans is in this slot and its value at this place is written.
abbrev pub has_value : {T U : Type 0} → ℕ → ℕ → Uses (Loan T U) (Message T U) → Bool
has_value slot place uses = list_any (λ loan. eqb slot loan.slot && is_some (get_or loan.values place None)) uses.loans

-- Whether one of the loans is in this slot and has `count` values.
abbrev pub has_length : {T U : Type 0} → ℕ → ℕ → Uses (Loan T U) (Message T U) → Bool
has_length slot count uses = list_any (λ loan. eqb slot loan.slot && eqb count (length loan.values)) uses.loans

-- A message in the same slot is this message.
abbrev pub IsIfInSlot : {T U : Type 0} → Message T U → Message T U → Type 0
IsIfInSlot message other = other.slot ≡ message.slot → other ≡ message

-- No loan is in the slot of this message, and each message in that slot, in the history or in a connection, is this message.
pub record StandsAlone {T U : Type 0} (message : Message T U) (uses : Uses (Loan T U) (Message T U)) : Type 0 where
  pub loans : has_loan message.slot uses ≡ false
  pub history : All (IsIfInSlot message) uses.history
  pub connections : All (λ connection. All (IsIfInSlot message) connection.waiting
      × All (IsIfInSlot message) connection.borrowed) uses.connections

-- The place of the first loan in this slot in the list of loans, or the list's length if there is none.
abbrev pub place_in : {T U : Type 0} → ℕ → Uses (Loan T U) (Message T U) → ℕ
place_in slot uses = position_or_len (λ loan. loan.slot == slot) uses.loans

-- Whether a message in this slot is borrowed from the connection.
abbrev pub has_borrowed : {T U : Type 0} → ℕ → Connection (Message T U) → Bool
has_borrowed slot connection = is_some (position (λ message. message.slot == slot) connection.borrowed)

-- The place of the oldest borrowed message in this slot in the connection's list, or the list's length if there is none.
abbrev pub borrowed_place : {T U : Type 0} → ℕ → Connection (Message T U) → ℕ
borrowed_place slot connection = position_or_len (λ message. message.slot == slot) connection.borrowed

-- The loan in this slot, if one exists.
abbrev pub loan_at : {T U : Type 0} → ℕ → Uses (Loan T U) (Message T U) → Option (Loan T U)
loan_at slot uses = find (λ loan. loan.slot == slot) uses.loans

-- Whether the loan exists and is completely written.
abbrev pub is_written_loan : {T U : Type 0} → Option (Loan T U) → Bool
is_written_loan None = false
is_written_loan (Some loan) = is_written loan

-- Whether a loan is at this place of the list and is completely written.
abbrev pub is_written_at : {T U : Type 0} → ℕ → Uses (Loan T U) (Message T U) → Bool
is_written_at at uses = is_written_loan (slice_get uses.loans at)

-- The contents of the slots: the values, which of them are written, and the headers. A slot that doesn't exist has the header
-- `blank`.
pub record Store (T U : Type 0) : Type 0 where
  pub values : PayloadsState T
  pub written : PayloadsState Bool
  pub headers : List (SlotHeader U)
  pub blank : SlotHeader U

-- The values, each of them only if its mark says that it is written.
abbrev pub masked : {T : Type 0} → List Bool → List T → List (Option T)
masked [] values = []
masked (written ∷ marks) [] = []
masked (written ∷ marks) (value ∷ values) = (if written then Some value else None) ∷ masked marks values

-- The contents of this slot as a message.
abbrev pub message_in : {T U : Type 0} → Store T U → ℕ → Message T U
message_in store slot = record {
  slot = slot;
  sequence = (get_or store.headers slot store.blank).sequence;
  elements = (get_or store.headers slot store.blank).elements;
  user_header = (get_or store.headers slot store.blank).user_header;
  values = payload_at slot store.values;
}

-- The contents of this slot as a loan.
abbrev pub loan_in : {T U : Type 0} → Store T U → ℕ → Loan T U
loan_in store slot = record {
  slot = slot;
  elements = (get_or store.headers slot store.blank).elements;
  user_header = (get_or store.headers slot store.blank).user_header;
  values = masked (payload_at slot store.written) (payload_at slot store.values);
}

-- A publisher with the capacities of these payloads, the user header of `blank`, and these uses.
abbrev pub sender_of : {T U : Type 0} → PayloadsState T → SlotHeader U → Uses (Loan T U) (Message T U) → SenderState T U
sender_of payloads blank uses = record {
  room = payloads.room;
  segments = payloads.segments;
  most_segments = payloads.most_segments;
  user_header = blank.user_header;
  uses = uses;
}

-- The publisher as seen from outside: who uses which message, as read from the slots.
abbrev pub seen_sender : {T U : Type 0} → Store T U → Uses ℕ ℕ → SenderState T U
seen_sender store uses = sender_of store.values store.blank (uses_by (loan_in store) (message_in store) uses)

-- The publisher after a segment was opened whose slots have capacity for `room` values each.
abbrev pub opened_for : {T U : Type 0} → ℕ → SenderState T U → SenderState T U
opened_for room sender = record sender { room = room; segments = sender.segments + 1; uses = segment_opened sender.uses }

-- Each slot has as many values as marks, and a header. A loaned slot isn't used for anything else. Each used slot exists.
pub record IsSender {T U : Type 0} (store : Store T U) (uses : Uses ℕ ℕ) : Type 0 where
  pub values : length store.values.payloads ≡ uses.first + uses.size
  pub written : length store.written.payloads ≡ uses.first + uses.size
  pub headers : length store.headers ≡ uses.first + uses.size
  pub values_size : store.values.size ≡ uses.size
  pub written_size : store.written.size ≡ uses.size
  pub room : store.written.room ≡ store.values.room
  pub segments : store.written.segments ≡ store.values.segments
  pub most_segments : store.written.most_segments ≡ store.values.most_segments
  pub marks : (slot : ℕ) → length (payload_at slot store.written) ≡ length (payload_at slot store.values)
  pub sole : (slot : ℕ) → 0 < times slot uses.loans → times slot (in_use uses) ≡ 1
  pub within : (slot : ℕ) → 0 < times slot (in_use uses) → slot < uses.first + uses.size

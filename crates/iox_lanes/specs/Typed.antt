-- Ports in threads that know the types of their service.
use Rattle.std.specs.Prelude.{ℕ, ◌==◌, ◌&&◌, ◌+◌, Bool, List, ◌∷◌, drop, slice_index, Option, None, Some}
use Rattle.iox_lanes_parties.specs.Values.{AreValues}
use Rattle.iox_lanes_parties.specs.declared.with_sequence.WithSequence.{WithSequence}
use Rattle.iox_lanes_threads.specs.Ports.{BoardPublisher, BoardSubscriber}

-- A publisher: the port without types, and its id in the domain.
pub record TypedPublisher : Type 0 where
  pub port : BoardPublisher
  pub id : ℕ

-- A subscriber: the port without types, and its id in the domain.
pub record TypedSubscriber : Type 0 where
  pub port : BoardSubscriber
  pub id : ℕ

-- A loan or a sample: its slot, and the number of the board and the place of the port that it came from.
pub record Token : Type 0 where
  pub slot : ℕ
  pub board : ℕ
  pub place : ℕ

-- The loan came from a publisher with the board number and the place of this one.
abbrev pub is_loan_of : TypedPublisher → Token → Bool
is_loan_of publisher loan = (loan.board == publisher.port.board) && (loan.place == publisher.port.place)

-- The sample came from a subscriber with the board number and the place of this one.
abbrev pub is_sample_of : TypedSubscriber → Token → Bool
is_sample_of subscriber sample = (sample.board == subscriber.port.board) && (sample.place == subscriber.port.place)

-- The words that a write names between header and payload: those of the user header and, in front of them if messages have sequence
-- numbers, one word for the number.
abbrev pub middle_parts : Option ℕ → List ℕ → List ℕ
middle_parts None user_header = user_header
middle_parts (Some last) user_header = 0 ∷ user_header

-- The sequence number in the first of these words, and the user header in the others.
abbrev pub numbered_of : {U : Type 0} → (List ℕ → U) → List ℕ → WithSequence U
numbered_of header_of words = record { sequence = slice_index words 0; user_header = header_of (drop 1 words) }

-- User header and value are those of a message with these words. If the message has a sequence number, the number is the fourth word.
abbrev pub HasValues : {T U : Type 0} → (List ℕ → T) → (List ℕ → U) → ℕ → ℕ → List ℕ → Option ℕ → U → T → Type 0
HasValues value_of header_of payload_count header_count words None user_header value =
    AreValues value_of header_of payload_count header_count words (user_header, value)
HasValues value_of header_of payload_count header_count words (Some number) user_header value =
    AreValues value_of (numbered_of header_of) payload_count (1 + header_count) words
    (record { sequence = number; user_header = user_header }, value)

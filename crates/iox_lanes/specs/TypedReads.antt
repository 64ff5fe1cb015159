-- What subscribers read that know the types of their service.
use Rattle.std.specs.Prelude.{ℕ, ◌≡◌, ◌+◌, ◌⊎◌, true, false, List, length, slice_index, Option, None, Some, Result, Ok, Err}
use Rattle.iox_lanes_base.specs.declared.calls.subscriber.Receipt.{Receipt}
use Rattle.iox_lanes_base.specs.declared.calls.subscriber.Receipt.TheVariants as receipt
use Rattle.iox_lanes_threads_ports.specs.Holding.{HasRead, StandsBetween}
use Rattle.iox_lanes_threads_ports.specs.Values.{Reads, Releases, Unmoved}
use Rattle.iox_lanes_threads_ports.specs.declared.subscriber.ReleaseAnswer.TheVariants as release
use Rattle.iox_lanes.specs.HeldByNone.{StandsInSlot}
use Rattle.iox_lanes.specs.Typed.{TypedSubscriber, Token, is_sample_of, HasValues}
use Rattle.iox_lanes.specs.declared.threads.errors.ReceiveError.{ReceiveError}
use Rattle.iox_lanes.specs.declared.threads.errors.ReceiveError.TheVariants as receive_error
use Rattle.iox_lanes.specs.declared.threads.errors.ReleaseError.{ReleaseError}
use Rattle.iox_lanes.specs.declared.threads.errors.ReleaseError.TheVariants as release_error
use Rattle.iox_lanes.specs.declared.threads.message.Message.{Message}

-- A message is made of these words: three words of its header, its sequence number if messages have one, its user header and its value.
pub record IsMessage {T U : Type 0} (value_of : List ℕ → T) (header_of : List ℕ → U) (payload_count header_count : ℕ) (words : List ℕ)
    (message : Message T U) : Type 0 where
  pub node_id : message.header.node_id ≡ slice_index words 0
  pub publisher_id : message.header.publisher_id ≡ slice_index words 1
  pub number_of_elements : message.header.number_of_elements ≡ slice_index words 2
  pub values : HasValues value_of header_of payload_count header_count words message.header.sequence message.user_header message.value

-- A subscriber read a sample, and the message is made of the words that it read. They are still the words of the sample's slot
-- (`StandsInSlot`). `stood` and `has_read` are what two reads of one sample need to agree.
pub record ReadsMessage {T U : Type 0} (value_of : List ℕ → T) (header_of : List ℕ → U) (payload_count header_count : ℕ)
    (old : TypedSubscriber) (sample : Token) (new : TypedSubscriber) (message : Message T U) : Type 0 where
  pub mine : is_sample_of old sample ≡ true
  pub call : Reads old.port.own sample.slot new.port.own true
  pub stood : StandsBetween old.port.own
  pub has_read : HasRead new.port.own.port old.port.own.lane.port.extent sample.slot new.port.own.words
  pub stands : StandsInSlot new.port.own.port old.port.own.lane.port.extent sample.slot new.port.own.words
  pub message_is : IsMessage value_of header_of payload_count header_count new.port.own.words message

-- A read found no message: the sample isn't one of the subscriber, so nothing was done; or the slot isn't a sample of the port; or the
-- slot was read, and its words are those of no message of these widths, with or without a sequence number.
abbrev pub FindsNoMessage : ℕ → ℕ → TypedSubscriber → Token → TypedSubscriber → Type 0
FindsNoMessage payload_count header_count old sample new =
    ((is_sample_of old sample ≡ false) × Unmoved old.port.own new.port.own)
    ⊎ Reads old.port.own sample.slot new.port.own false
    ⊎ (Reads old.port.own sample.slot new.port.own true × (length new.port.own.words ≡ 3 + header_count + payload_count → ⊥)
    × (length new.port.own.words ≡ 4 + header_count + payload_count → ⊥))

-- A release was refused with this error. `NotMine`: the sample isn't one of the subscriber, or its slot isn't a sample of the port, and
-- nothing was done. `RingFull`: its steps found the ring full.
abbrev pub IsUnreleased : TypedSubscriber → Token → TypedSubscriber → ReleaseError → Type 0
IsUnreleased old sample new release_error.NotMine = ((is_sample_of old sample ≡ false) × Unmoved old.port.own new.port.own)
    ⊎ Releases old.port.own sample.slot new.port.own release.NotMine
IsUnreleased old sample new release_error.RingFull = Releases old.port.own sample.slot new.port.own release.RingFull

-- What a typed receive returns for the receipt of the port: the sample of the slot that was taken, none if nothing waited, or the error.
abbrev pub answer_to : TypedSubscriber → Receipt → Result (Option Token) ReceiveError
answer_to subscriber receipt.Nothing = Ok None
answer_to subscriber receipt.ExceedsMaxBorrows = Err receive_error.ExceedsMaxBorrows
answer_to subscriber (receipt.Taken place slot) =
    Ok (Some (record { slot = slot; board = subscriber.port.board; place = subscriber.port.place }))

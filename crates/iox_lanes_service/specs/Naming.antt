-- The numbers under which the machine has what lanes have.
use Rattle.std.specs.Prelude.{ℕ, ◌==◌, ◌&&◌, Bool, true, false, List, [], ◌∷◌, filter, map, slice_get, Option, None, Some, if◌then◌else◌}
use Rattle.std.specs.Option.{option_map_or}
use Rattle.iox_lanes_machine.specs.LanesBase.Table.{TableWords, held_by}
use Rattle.iox_lanes_machine.specs.LanesBase.declared.words.word.SharedWord.TheVariants.{Slot}
use Rattle.iox_lanes_machine.specs.LanesBase.declared.words.word.SlotWord.TheVariants.{UserHeader}
use Rattle.iox_lanes_machine.specs.LanesParties.PublisherKeeping.{loan_of}
use Rattle.iox_lanes_machine.specs.LanesParties.Parties.{PublisherLaneState, is_written}
use Rattle.iox_lanes_machine.specs.Links.{LinkState}
use Rattle.iox_lanes_machine.specs.Resting.{mail_at}
use Rattle.iox_lanes_machine.specs.World.{World}
use Rattle.iox_lanes_laws.specs.Messages.{payload_held}
use Rattle.iox_machine.specs.Mailbox.{Mailbox}
use Rattle.iox_machine.specs.Message.{Loan, Message, Sample}

-- The numbers that the machine has for a publisher and a subscriber, by its place among those of its kind, and for the message in a slot;
-- and whether messages have sequence numbers.
pub record LaneNaming : Type 0 where
  pub publisher : ℕ → ℕ
  pub subscriber : ℕ → ℕ
  pub message : ℕ → ℕ
  pub numbered : Bool

-- A loan that has a number: the place of its publisher, and its slot.
pub record LaneLoan : Type 0 where
  pub publisher : ℕ
  pub slot : ℕ

-- A sample that has a number: the places of its publisher and its subscriber, and its slot.
pub record LaneSample : Type 0 where
  pub publisher : ℕ
  pub subscriber : ℕ
  pub slot : ℕ

-- The slots of the numbered loans of the publisher at this place.
abbrev pub slots_lent_at : ℕ → List (ℕ × LaneLoan) → List ℕ
slots_lent_at place lent =
    map (λ (entry : ℕ × LaneLoan). entry.1.slot) (filter (λ (entry : ℕ × LaneLoan). entry.1.publisher == place) lent)

-- Whether the sample came from the publisher of this connection to its subscriber.
abbrev pub came_over : LinkState → LaneSample → Bool
came_over link sample = (sample.publisher == link.publisher) && (sample.subscriber == link.subscriber)

-- The slots of the numbered samples that came over this connection.
abbrev pub slots_held_over : LinkState → List (ℕ × LaneSample) → List ℕ
slots_held_over link held =
    map (λ (entry : ℕ × LaneSample). entry.1.slot) (filter (λ (entry : ℕ × LaneSample). came_over link entry.1) held)

-- The name of the subscriber of a connection; 0 if there is no connection.
abbrev pub reader_name : LaneNaming → List LinkState → ℕ → ℕ
reader_name names links connection = option_map_or (λ (link : LinkState). names.subscriber link.subscriber) (slice_get links connection) 0

-- The name of the publisher of a connection; 0 if there is no connection.
abbrev pub writer_name : LaneNaming → List LinkState → ℕ → ℕ
writer_name names links connection = option_map_or (λ (link : LinkState). names.publisher link.publisher) (slice_get links connection) 0

-- Whether there is a publisher, and the slot is a written loan of it.
abbrev pub has_written : ℕ → Option PublisherLaneState → Bool
has_written slot None = false
has_written slot (Some lane) = is_written (loan_of slot lane.port.book)

-- The sequence number in the header of a slot, which is its fourth word.
abbrev pub number_held : TableWords → ℕ → ℕ
number_held table slot = held_by table (Slot slot (UserHeader 0))

-- The sequence number of the message in a slot, if messages have one.
abbrev pub slot_sequence : Bool → TableWords → ℕ → Option ℕ
slot_sequence true table slot = Some (number_held table slot)
slot_sequence false table slot = None

-- Messages have one value, which is read from the words of a payload.
module _ {T : Type 0} (value : List ℕ → T) (names : LaneNaming) where
  -- The value that a slot contains.
  abbrev pub slot_value : TableWords → ℕ → T
  slot_value table slot = value (payload_held table slot)

  -- The message in a slot.
  abbrev pub slot_message : TableWords → ℕ → Message T
  slot_message table slot = record {
    number = names.message slot;
    sequence = slot_sequence names.numbered table slot;
    values = slot_value table slot ∷ [];
  }

  -- The value of a loan that is written; none if it isn't written.
  abbrev pub written_value : World → LaneLoan → Option T
  written_value m loan =
      if has_written loan.slot (slice_get m.publishers loan.publisher) then Some (slot_value m.table loan.slot) else None

  -- The loan as the machine has it, with the machine's numbers.
  abbrev pub loan_by_numbers : World → LaneLoan → Loan T
  loan_by_numbers m loan = record {
    publisher = names.publisher loan.publisher;
    number = names.message loan.slot;
    values = written_value m loan ∷ [];
  }

  -- The sample as the machine has it, with the machine's numbers.
  abbrev pub sample_by_numbers : World → LaneSample → Sample T
  sample_by_numbers m sample = record {
    publisher = names.publisher sample.publisher;
    subscriber = names.subscriber sample.subscriber;
    message = slot_message m.table sample.slot;
  }

  -- The mailbox of the machine for this connection: what waits there, and what its subscriber borrows from it.
  abbrev pub lane_mailbox : World → List (ℕ × LaneSample) → ℕ → LinkState → Mailbox T
  lane_mailbox m held connection link = record {
    limit = link.limit;
    waiting = map (slot_message m.table) (mail_at m connection);
    borrowed = map (slot_message m.table) (slots_held_over link held);
  }

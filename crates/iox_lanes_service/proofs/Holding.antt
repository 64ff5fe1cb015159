-- What lanes hold stays through a call of a subscriber.
use Rattle.std.proofs.Common.{ℕ, ◌≡◌, ◌<◌, ◌&&◌, Bool, true, false, List, map, slice_get, Some, refl, sym}
use Rattle.std.proofs.Common.{◌∙◌}
use Rattle.std.proofs.Common.{ap, inl, inr, arith}
use Rattle.std.proofs.lemmas.Bool.Decides.{eqb_tells}
use Rattle.iox_lanes_machine.specs.LanesParties.Parties.{SubscriberLaneState, place_of}
use Rattle.iox_lanes_machine.specs.Borrowing.{borrows}
use Rattle.iox_lanes_machine.specs.FullLoans.{IsHeld}
use Rattle.iox_lanes_machine.specs.LedgerUses.{count}
use Rattle.iox_lanes_machine.specs.Links.{LinkState}
use Rattle.iox_lanes_machine.specs.Resting.{mail_at}
use Rattle.iox_lanes_machine.specs.World.{World}
use Rattle.iox_lanes_laws.specs.Subscribing.{OnlySubscriber}
use Rattle.iox_lanes_service.specs.Naming.{LaneNaming, LaneLoan, LaneSample, came_over, slots_held_over, slot_message, sample_by_numbers}
use Rattle.iox_lanes_service.specs.Standing.{LanesStandFor}
use Rattle.iox_lanes_service.proofs.Carrying.{same_message}
use Rattle.iox_lanes_service.proofs.Subscribing.{ReaderCall, one_is, reader_same}
use Rattle.iox_lanes_service.proofs.Tables.{map_same, entries_same, entry_counted, named}
use Rattle.iox_lanes_service.proofs.Used.{IsBorrowedOf, held_waits, held_borrowed, held_there, borrows_alike}
use Rattle.iox_machine.specs.Choices.{Choices}
use Rattle.iox_machine.specs.Service.{Service}

-- a subscriber borrows what it did, where the lane at the place of the call says the same of a slot
pub borrows_stay : (m n : World) (place : ℕ) (before after : SubscriberLaneState) → ReaderCall m n place before after
    → OnlySubscriber m place n → (slot : ℕ) → place_of slot after ≡ place_of slot before → (connection who : ℕ)
    → borrows connection slot (slice_get n.subscribers who) ≡ borrows connection slot (slice_get m.subscribers who)
borrows_stay m n place before after c others slot same connection who = elim (eqb_tells who place) [
  | inl here ↦
      ap (borrows connection slot) (ap (slice_get n.subscribers) here.1 ∙ c.now)
      ∙ borrows_alike before after connection slot c.routes same
      ∙ sym (ap (borrows connection slot) (ap (slice_get m.subscribers) here.1 ∙ c.found))
  | inr apart ↦ ap (borrows connection slot) (others.subscribers who apart.1)
]

pub both_left : (a b : Bool) → (a && b) ≡ true → a ≡ true
both_left true b e = refl
both_left false b e = absurd (cc e)

pub both_right : (a b : Bool) → (a && b) ≡ true → b ≡ true
both_right true b e = e
both_right false b e = absurd (cc e)

module _ {T : Type 0} (choices : Choices T) (value : List ℕ → T) (names : LaneNaming) (lent : List (ℕ × LaneLoan))
    (held : List (ℕ × LaneSample)) (m : World) (service : Service T) (s : LanesStandFor choices value names lent held m service) where
  -- what goes by numbers over a connection is borrowed of it
  pub over_borrowed : (connection : ℕ) (link : LinkState) (slot : ℕ) → slice_get m.links connection ≡ Some link
      → 0 < count slot (slots_held_over link held) → borrows connection slot (slice_get m.subscribers link.subscriber) ≡ true
  over_borrowed connection link slot found some =
      one_is (borrows connection slot (slice_get m.subscribers link.subscriber))
      (omega (arith, some, s.samples_all connection link slot found))

  -- a sample that goes by a number is borrowed of its connection
  pub sample_borrowed : (index : ℕ) (entry : ℕ × LaneSample) → slice_get held index ≡ Some entry → IsBorrowedOf m entry.1.slot
  sample_borrowed index entry is =
      let o = s.samples_there index entry is in
      record {
        connection = o.connection;
        link = o.link;
        found = o.found;
        has = over_borrowed o.connection o.link entry.1.slot o.found
            (entry_counted (λ (sample : LaneSample). sample.slot) (came_over o.link) held index entry is o.over);
      }

  module _ (n : World) (place : ℕ) (before after : SubscriberLaneState) (c : ReaderCall m n place before after) where
    -- the message in a slot that is held stays
    pub held_message : (slot : ℕ) → IsHeld m slot → slot_message value names n.table slot ≡ slot_message value names m.table slot
    held_message slot h = same_message choices value names m n slot (reader_same names.numbered m n place before after c s.numbers slot
        (held_there m slot c.kept c.few h))

    -- so do those that wait
    pub mail_messages : (connection : ℕ) → map (slot_message value names n.table) (mail_at m connection)
        ≡ map (slot_message value names m.table) (mail_at m connection)
    mail_messages connection = map_same (slot_message value names n.table) (slot_message value names m.table) (mail_at m connection)
        (λ slot some. held_message slot (held_waits m slot c.kept (record { connection = connection; some = some })))

    -- and those that came over a connection
    pub over_messages : (connection : ℕ) (link : LinkState) → slice_get m.links connection ≡ Some link
        → map (slot_message value names n.table) (slots_held_over link held)
        ≡ map (slot_message value names m.table) (slots_held_over link held)
    over_messages connection link found =
        map_same (slot_message value names n.table) (slot_message value names m.table) (slots_held_over link held)
        (λ slot some. held_message slot (held_borrowed m slot c.kept
        (record { connection = connection; link = link; found = found; has = over_borrowed connection link slot found some })))

    -- and the samples that go by numbers
    pub sample_entry : (index : ℕ) (entry : ℕ × LaneSample) → slice_get held index ≡ Some entry
        → sample_by_numbers value names n entry.1 ≡ sample_by_numbers value names m entry.1
    sample_entry index entry is =
        ap (λ message. record {
          publisher = names.publisher entry.1.publisher;
          subscriber = names.subscriber entry.1.subscriber;
          message = message;
        })
        (held_message entry.1.slot (held_borrowed m entry.1.slot c.kept (sample_borrowed index entry is)))

    pub sample_entries : named (sample_by_numbers value names n) held ≡ named (sample_by_numbers value names m) held
    sample_entries = entries_same (sample_by_numbers value names n) (sample_by_numbers value names m) held sample_entry

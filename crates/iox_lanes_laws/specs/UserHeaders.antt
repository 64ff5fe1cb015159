-- The user headers that a write that no other call overlaps leaves, and what a later send and read make of them.
use Rattle.std.specs.Prelude.{ℕ, ◌≡◌, ◌≤◌, ◌^◌, true, List, [], ◌∷◌, ◌++◌, slice_get, Some, take}
use Rattle.std.specs.Global.{Vec}
use Rattle.iox_lanes_machine.specs.LanesParties.Parties.{PublisherLaneState, kept_head}
use Rattle.iox_lanes_machine.specs.LanesParties.Sequences.{number_after, with_number}
use Rattle.iox_lanes_machine.specs.LanesParties.declared.call.Call.TheVariants as call
use Rattle.iox_lanes_machine.specs.LanesParties.declared.call.CallName.TheVariants as name
use Rattle.iox_lanes_machine.specs.LanesParties.declared.call.Entry.{Entry}
use Rattle.iox_lanes_machine.specs.LanesParties.declared.call.FinishedCall.{FinishedCall}
use Rattle.iox_lanes_machine.specs.LanesParties.declared.call.Move.{Move}
use Rattle.iox_lanes_machine.specs.LanesParties.declared.call.Move.TheVariants.{Begin}
use Rattle.iox_lanes_machine.specs.LanesParties.declared.call.Party.{Party}
use Rattle.iox_lanes_machine.specs.LanesParties.declared.call.Party.TheVariants.{Publisher}
use Rattle.iox_lanes_machine.specs.LedgerUses.{IsOwn}
use Rattle.iox_lanes_machine.specs.World.{World, fits, happens}
use Rattle.iox_lanes_laws.specs.Messages.{MessageState, begun_messages, last_in}
use Rattle.iox_lanes_laws.specs.Turns.{IsInTurn}
use Rattle.iox_lanes_laws.specs.WholeMessages.{SendsThrough}

-- The publisher keeps for the slot the first three words that it kept for it, followed by exactly this user header; for each other slot of
-- its own it keeps what it kept; and its last sequence number is the same.
pub record KeepsUserHeader (before after : PublisherLaneState) (slot : ℕ) (user_header : List ℕ) : Type 0 where
  pub own : kept_head slot after ≡ take 3 (kept_head slot before) ++ user_header
  pub others : (other : ℕ) → IsOwn before.port.book other → (other ≡ slot → ⊥) → kept_head other after ≡ kept_head other before
  pub last : after.last ≡ before.last

-- After a write that no other call overlaps, its publisher keeps the user header that the write was given (`KeepsUserHeader`).
abbrev pub WritesKeepUserHeaders : Type 0
WritesKeepUserHeaders = (m n : World) (place slot : ℕ) (payload user_header : Vec ℕ) (before after : PublisherLaneState)
    → IsInTurn m (Publisher place) (call.Write slot payload user_header) n → slice_get m.publishers place ≡ Some before
    → slice_get n.publishers place ≡ Some after → KeepsUserHeader before after slot user_header.items

-- The words of the message that a publisher sends in a slot after this user header and payload were written there: the first three words
-- that it keeps for the slot, the user header, whose first word becomes the next sequence number if messages have one, and the payload.
abbrev pub written_words : ℕ → PublisherLaneState → List ℕ → List ℕ → List ℕ
written_words slot lane user_header payload =
    with_number (number_after lane.last) (take 3 (kept_head slot lane) ++ user_header) ++ payload

-- A send that begins directly after a write of its slot that no other call overlaps sends exactly these words (`written_words`).
abbrev pub SendsBeginAsWritten : Type 0
SendsBeginAsWritten = (m n : World) (place slot : ℕ) (payload user_header : Vec ℕ) (before : PublisherLaneState)
    → IsInTurn m (Publisher place) (call.Write slot payload user_header) n → slice_get m.publishers place ≡ Some before
    → begun_messages n (Publisher place) (Begin (call.Send slot)) ≡ record {
      publisher = place;
      slot = slot;
      moment = n.moments;
      words = written_words slot before user_header.items payload.items;
    } ∷ []

-- Whatever steps follow the beginning of that send (`SendsBeginAsWritten`): a read of the slot returns exactly the words that it sends, or,
-- if a later send began in the slot, those of the last one. This holds as long as at most 2^63 steps were made.
abbrev pub ReadsGiveWhatWasWritten : Type 0
ReadsGiveWhatWasWritten = (m n : World) (place slot : ℕ) (payload user_header : Vec ℕ) (before : PublisherLaneState)
    → IsInTurn m (Publisher place) (call.Write slot payload user_header) n → slice_get m.publishers place ≡ Some before
    → fits n (Publisher place) (Begin (call.Send slot)) ≡ true
    → (entries : List Entry) (sent : List MessageState) (after : World)
    → SendsThrough (happens n (Publisher place) (Begin (call.Send slot))) entries sent after → after.moments ≤ 2 ^ 63
    → (party : Party) (step : Move) (read : FinishedCall) → fits after party step ≡ true
    → (happens after party step).finished ≡ after.finished ++ read ∷ [] → read.call ≡ name.Read slot
    → (happens after party step).read ≡ after.read ++ last_in (written_words slot before user_header.items payload.items) sent slot

-- When a port changes its record of who has which slot, and when a receive only looks.
use Rattle.std.specs.Prelude.{ℕ, ◌≡◌, ◌<◌, ◌≤◌, Bool, true, false, ◌==◌, List, slice_get, Some}
use Rattle.iox_queues_steps.specs.declared.access.Word.{Word}
use Rattle.iox_queues_steps.specs.declared.access.Word.TheVariants.{Write, Read, Cell}
use Rattle.iox_lanes_base.specs.declared.words.word.SharedWord.{SharedWord}
use Rattle.iox_lanes_base.specs.declared.words.word.SharedWord.TheVariants.{Ring, Slot}
use Rattle.iox_lanes_base.specs.declared.words.access.SharedAccess.{SharedAccess}
use Rattle.iox_lanes_base.specs.declared.words.access.SharedAccess.TheVariants.{Load, Store, Exchange, Local}
use Rattle.iox_lanes_base.specs.Publishing.{publisher_next, publisher_change}
use Rattle.iox_lanes_base.specs.Subscribing.{subscriber_next, subscriber_change, is_full_at}
use Rattle.iox_lanes_base.specs.declared.calls.publisher.PublisherCall.{PublisherCall}
use Rattle.iox_lanes_base.specs.declared.calls.publisher.PublisherChange.{PublisherChange}
use Rattle.iox_lanes_base.specs.declared.calls.publisher.PublisherChange.TheVariants as publisher
use Rattle.iox_lanes_base.specs.declared.calls.subscriber.SubscriberCall.{SubscriberCall}
use Rattle.iox_lanes_base.specs.declared.calls.subscriber.SubscriberChange.{SubscriberChange}
use Rattle.iox_lanes_base.specs.declared.calls.subscriber.SubscriberChange.TheVariants as subscriber

-- Whether the word of a ring is a position.
abbrev pub is_position_of : Word → Bool
is_position_of Write = true
is_position_of Read = true
is_position_of (Cell cell) = false

-- Whether the shared word is a position of a ring.
abbrev pub is_position : SharedWord → Bool
is_position (Ring connection ring word) = is_position_of word
is_position (Slot slot word) = false

-- Whether the access moves a position: it stores one, or its exchange succeeds.
abbrev pub moves : SharedAccess → ℕ → Bool
moves (Load word) answer = false
moves (Store word value) answer = is_position word
moves (Exchange word old new) answer = answer == old
moves Local answer = false

-- Whether by this change a connection gets or loses a slot.
abbrev pub is_of_slots : PublisherChange → Bool
is_of_slots publisher.Nothing = false
is_of_slots publisher.Lend = false
is_of_slots (publisher.Mark slot) = false
is_of_slots (publisher.Remember slot) = false
is_of_slots (publisher.TakenBack place slot) = true
is_of_slots (publisher.Put place slot) = true
is_of_slots (publisher.LeftOut place slot) = true
is_of_slots (publisher.DropLoan slot) = false

-- Whether by this change a sample is borrowed or returned.
abbrev pub is_of_samples : SubscriberChange → Bool
is_of_samples subscriber.Nothing = false
is_of_samples (subscriber.Borrow place slot) = true
is_of_samples (subscriber.Note word value) = false
is_of_samples (subscriber.GiveBack place slot) = true

-- A publisher's connections get and lose slots at exactly the steps that move a position.
abbrev pub PublishersKeepPace : Type 0
PublishersKeepPace = (call : PublisherCall) (answer : ℕ) → is_of_slots (publisher_change call answer) ≡ moves (publisher_next call) answer

-- Samples are borrowed and returned at exactly the steps that move a position.
abbrev pub SubscribersKeepPace : Type 0
SubscribersKeepPace = (call : SubscriberCall) (answer : ℕ)
    → is_of_samples (subscriber_change call answer) ≡ moves (subscriber_next call) answer

-- A receive only looks at a connection exactly if the maximum number of samples is borrowed from the connection.
abbrev pub LimitsHold : Type 0
LimitsHold = (borrowed : List ℕ) (most place count : ℕ) → slice_get borrowed place ≡ Some count
    → (most ≤ count → is_full_at borrowed most place ≡ true) × (count < most → is_full_at borrowed most place ≡ false)

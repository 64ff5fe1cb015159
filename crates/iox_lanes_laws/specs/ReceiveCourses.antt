-- The accesses of a whole receive, read and release, as far as their steps were answered.
use Rattle.std.specs.Prelude.{ℕ, suc, zero, ◌≡◌, ◌+◌, ◌-◌, ◌<◌, ◌^◌, ◌%◌, ◌==◌, if◌then◌else◌, Bool, List, [], ◌∷◌, length}
use Rattle.iox_queues_steps.specs.Access.{successor}
use Rattle.iox_queues_steps.specs.declared.access.Word.TheVariants.{Write, Read, Cell}
use Rattle.iox_queues_steps.specs.declared.rings.refusing.push.Push.TheVariants.{Begun}
use Rattle.iox_queues_steps.specs.declared.rings.ends.RingKind.{RingKind}
use Rattle.iox_queues_steps.specs.declared.rings.ends.RingKind.TheVariants.{Overflowing, Refusing}
use Rattle.iox_lanes_base.specs.declared.words.word.SlotWord.TheVariants.{Header, UserHeader, Payload}
use Rattle.iox_lanes_base.specs.declared.words.word.SharedWord.TheVariants.{Slot}
use Rattle.iox_lanes_base.specs.declared.words.access.SharedAccess.{SharedAccess}
use Rattle.iox_lanes_base.specs.declared.words.access.SharedAccess.TheVariants.{Load, Store, Exchange, Local}
use Rattle.iox_lanes_base.specs.Subscribing.{subscriber_next, subscriber_take, is_full_at, receive_at, read_at, word_at}
use Rattle.iox_lanes_base.specs.declared.calls.route.Route.{Route}
use Rattle.iox_lanes_base.specs.declared.calls.subscriber.SlotExtent.{SlotExtent}
use Rattle.iox_lanes_base.specs.declared.calls.subscriber.SubscriberCall.{SubscriberCall}
use Rattle.iox_lanes_base.specs.declared.calls.subscriber.SubscriberCall.TheVariants.{Releasing}
use Rattle.iox_lanes_laws.specs.Courses.{quiet_course, back}
use Rattle.iox_lanes_laws.specs.SendCourses.{sent, refusing_course}

-- The accesses of a subscriber's call, one for each answer.
abbrev pub subscriber_course : List Route → List ℕ → ℕ → SubscriberCall → List ℕ → List SharedAccess
subscriber_course routes borrowed most call [] = []
subscriber_course routes borrowed most call (answer ∷ answers) =
    subscriber_next call ∷ subscriber_course routes borrowed most (subscriber_take routes borrowed most call answer) answers

-- The accesses of a pop from this position of an overflowing ring: the cell of the position is loaded, and the read position is exchanged.
-- If the exchange fails, the same is done from the position that it found.
abbrev pub popping_course : Route → ℕ → List ℕ → List SharedAccess
popping_course route read [] = []
popping_course route read (slot ∷ []) = Load (sent route (Cell (read % route.submission_cells))) ∷ []
popping_course route read (slot ∷ found ∷ answers) =
    Load (sent route (Cell (read % route.submission_cells))) ∷ Exchange (sent route Read) read (successor read)
    ∷ (if found == read then quiet_course answers else popping_course route found answers)

-- The accesses of a pop from this position of a refusing ring: the cell of the position is loaded, and the read position stored.
abbrev pub taking_course : Route → ℕ → List ℕ → List SharedAccess
taking_course route read [] = []
taking_course route read (slot ∷ []) = Load (sent route (Cell (read % route.submission_cells))) ∷ []
taking_course route read (slot ∷ stored ∷ answers) =
    Load (sent route (Cell (read % route.submission_cells))) ∷ Store (sent route Read) (successor read) ∷ quiet_course answers

-- The accesses of a pop from this position of a ring of either kind.
abbrev pub got_course : RingKind → Route → ℕ → List ℕ → List SharedAccess
got_course Overflowing route read answers = popping_course route read answers
got_course Refusing route read answers = taking_course route read answers

-- The accesses of a receive at a connection: both positions are loaded; if nothing waits, or the maximum number of samples is borrowed,
-- `next` follows; otherwise the oldest slot is taken.
abbrev pub visit_course : Bool → Route → (List ℕ → List SharedAccess) → List ℕ → List SharedAccess
visit_course full route next [] = []
visit_course full route next (read ∷ []) = Load (sent route Read) ∷ []
visit_course full route next (read ∷ write ∷ answers) =
    Load (sent route Read) ∷ Load (sent route Write)
    ∷ (if full then next answers else if write == read then next answers else got_course route.kind route read answers)

-- The accesses of a receive: one connection after the other is visited, then no word is touched.
abbrev pub receive_course : List ℕ → ℕ → ℕ → List Route → List ℕ → List SharedAccess
receive_course borrowed most place [] answers = quiet_course answers
receive_course borrowed most place (route ∷ routes) answers =
    visit_course (is_full_at borrowed most place) route (receive_course borrowed most (place + 1) routes) answers

-- The accesses of a receive are its course (`receive_course`), for fewer than 2^64 - 1 connections.
abbrev pub ReceivesVisit : Type 0
ReceivesVisit = (routes : List Route) (borrowed answers : List ℕ) (most : ℕ) (waits : Bool) → length routes < 2 ^ 64 - 1
    → subscriber_course routes borrowed most (receive_at routes borrowed most 0 waits) answers
    ≡ receive_course borrowed most 0 routes answers

-- The accesses of a read: `left` words of the slot are loaded, from this word on, then no word is touched.
abbrev pub read_course : ℕ → SlotExtent → ℕ → ℕ → List ℕ → List SharedAccess
read_course slot extent word left [] = []
read_course slot extent word zero (answer ∷ answers) = Local ∷ quiet_course answers
read_course slot extent word (suc left) (answer ∷ answers) = Load (Slot slot (word_at extent word))
    ∷ read_course slot extent (word + 1) left answers

-- The number of words of a slot.
abbrev pub words_in : SlotExtent → ℕ
words_in extent = 3 + extent.user_header_words + extent.payload_words

-- The accesses of a read are those of loading all words of its slot (`read_course`), for fewer than 2^64 - 1 words.
abbrev pub ReadsLoad : Type 0
ReadsLoad = (routes : List Route) (borrowed answers : List ℕ) (most slot : ℕ) (extent : SlotExtent) → words_in extent < 2 ^ 64 - 1
    → subscriber_course routes borrowed most (read_at slot extent 0) answers ≡ read_course slot extent 0 (words_in extent) answers

-- The words of a slot are three of the header, then those of the user header, with the sequence number before them where messages have one,
-- then those of the payload.
abbrev pub ReadsInOrder : Type 0
ReadsInOrder = (extent : SlotExtent) (word : ℕ)
    → (word < 3 → word_at extent word ≡ Header word)
    × (word < extent.user_header_words → word_at extent (3 + word) ≡ UserHeader word)
    × (word < extent.payload_words → word_at extent (3 + extent.user_header_words + word) ≡ Payload word)

-- The accesses of a release are those of a push of its slot into the completion ring; after that it touches no word.
abbrev pub ReleasesPush : Type 0
ReleasesPush = (routes : List Route) (borrowed answers : List ℕ) (most place slot : ℕ) (route : Route)
    → subscriber_course routes borrowed most (Releasing place route (Begun route.completion_cells slot)) answers
    ≡ refusing_course (back route) route.completion_cells route.completion_cells slot quiet_course answers

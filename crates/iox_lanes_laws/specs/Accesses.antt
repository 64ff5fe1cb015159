-- The accesses of a whole call in any run of lanes, however the steps of other parties come between its own.
use Rattle.std.specs.Prelude.{ℕ, ◌≡◌, ◌-◌, ◌<◌, ◌≤◌, ◌^◌, ◌&&◌, ◌⊎◌, Bool, true, false, if◌then◌else◌, List, [], ◌∷◌, ◌++◌, length}
use Rattle.std.specs.Prelude.{slice_get, Option, Some, None}
use Rattle.iox_lanes_base.specs.Subscribing.{subscriber_is_idle}
use Rattle.iox_lanes_base.specs.Table.{shared_answer}
use Rattle.iox_lanes_base.specs.declared.words.access.SharedAccess.{SharedAccess}
use Rattle.iox_lanes_base.specs.declared.words.access.SharedAccess.TheVariants.{Local}
use Rattle.iox_lanes_base.specs.declared.calls.publisher.PublisherCall.TheVariants.{Remembering}
use Rattle.iox_lanes_base.specs.declared.calls.route.Route.{Route}
use Rattle.iox_lanes_machine.specs.LanesParties.Parties.{PublisherLaneState, SubscriberLaneState, publisher_fits, subscriber_fits}
use Rattle.iox_lanes_machine.specs.LanesParties.Parties.{head_of, place_of, route_at}
use Rattle.iox_lanes_machine.specs.LanesParties.declared.call.Call.{Call}
use Rattle.iox_lanes_machine.specs.LanesParties.declared.call.Call.TheVariants as call
use Rattle.iox_lanes_machine.specs.LanesParties.declared.call.Entry.{Entry}
use Rattle.iox_lanes_machine.specs.LanesParties.declared.call.Move.TheVariants.{Begin, GoOn}
use Rattle.iox_lanes_machine.specs.LanesParties.declared.call.Party.{Party}
use Rattle.iox_lanes_machine.specs.LanesParties.declared.call.Party.TheVariants.{Publisher, Subscriber}
use Rattle.iox_lanes_machine.specs.Apart.{access_of}
use Rattle.iox_lanes_machine.specs.Paces.{IsInCall, after_entry, led}
use Rattle.iox_lanes_machine.specs.Receipts.{is_receiver}
use Rattle.iox_lanes_machine.specs.Sends.{is_sender}
use Rattle.iox_lanes_machine.specs.World.{World, ends, fits, happens, publisher_stage}
use Rattle.iox_lanes_laws.specs.Courses.{quiet_course, back, loan_course, write_course}
use Rattle.iox_lanes_laws.specs.ReceiveCourses.{receive_course, read_course, words_in}
use Rattle.iox_lanes_laws.specs.SendCourses.{refusing_course, send_course}

-- The accesses of the entries that are made and whose party is selected, one after the other.
abbrev pub own_accesses : (Party → Bool) → World → List Entry → List SharedAccess
own_accesses own m [] = []
own_accesses own m (entry ∷ entries) =
    (if fits m entry.party entry.step && own entry.party then access_of m entry.party entry.step ∷ [] else [])
    ++ own_accesses own (after_entry (fits m entry.party entry.step) m entry) entries

-- The answers of the accesses of the entries that are made and whose party is selected.
abbrev pub own_answers : (Party → Bool) → World → List Entry → List ℕ
own_answers own m [] = []
own_answers own m (entry ∷ entries) =
    (if fits m entry.party entry.step && own entry.party then shared_answer m.table (access_of m entry.party entry.step) ∷ [] else [])
    ++ own_answers own (after_entry (fits m entry.party entry.step) m entry) entries

-- The accesses of a publisher's call, by their answers; a call that isn't a publisher's makes none.
abbrev pub publisher_call_course : PublisherLaneState → Call → List ℕ → List SharedAccess
publisher_call_course lane call.LoanUninit answers = loan_course lane.port.routes answers
publisher_call_course lane (call.Write loan payload user_header) answers = write_course loan 0 payload.items answers
publisher_call_course lane (call.Send loan) answers = send_course loan (head_of loan lane) lane.port.routes answers
publisher_call_course lane (call.DropLoan loan) answers = quiet_course answers
publisher_call_course lane call.Receive answers = []
publisher_call_course lane (call.Read sample) answers = []
publisher_call_course lane (call.Release sample) answers = []

-- The number of words of a slot that a publisher's call stores.
abbrev pub words_stored : PublisherLaneState → Call → ℕ
words_stored lane call.LoanUninit = 0
words_stored lane (call.Write loan payload user_header) = length payload.items
words_stored lane (call.Send loan) = length (head_of loan lane)
words_stored lane (call.DropLoan loan) = 0
words_stored lane call.Receive = 0
words_stored lane (call.Read sample) = 0
words_stored lane (call.Release sample) = 0

-- A publisher's call that began, and is still in progress after these entries, on lanes that made at most 2^63 steps; there are fewer than
-- 2^64 - 1 connections, and fewer than 2^64 - 1 stored words.
pub record IsPublisherCall (m : World) (place : ℕ) (lane : PublisherLaneState) (c : Call) (entries : List Entry) : Type 0 where
  pub found : slice_get m.publishers place ≡ Some lane
  pub may : publisher_fits lane (Begin c) ≡ true
  pub connections : length lane.port.routes < 2 ^ 64 - 1
  pub words : words_stored lane c < 2 ^ 64 - 1
  pub few : (led (happens m (Publisher place) (Begin c)) entries).moments ≤ 2 ^ 63
  pub inside : IsInCall (led (happens m (Publisher place) (Begin c)) entries) place m.moments

-- In any run the accesses of a publisher's call are the course of the call, as its answers determine it. This holds for fewer than 2^64 - 1
-- connections and words, as long as at most 2^63 steps were made.
abbrev pub PublishersKeepCourse : Type 0
PublishersKeepCourse = (m : World) (place : ℕ) (lane : PublisherLaneState) (c : Call) (entries : List Entry)
    → IsPublisherCall m place lane c entries
    → own_accesses (λ party. is_sender party place) (happens m (Publisher place) (Begin c)) entries
    ≡ publisher_call_course lane c (own_answers (λ party. is_sender party place) (happens m (Publisher place) (Begin c)) entries)

-- A publisher's call ends directly after its last access: a next step that touches no word is the last one of the call, except the step
-- that a send makes for the history after its header words.
abbrev pub PublishersEndAtOnce : Type 0
PublishersEndAtOnce = (m : World) (place : ℕ) (lane : PublisherLaneState) (c : Call) (entries : List Entry)
    → IsPublisherCall m place lane c entries
    → access_of (led (happens m (Publisher place) (Begin c)) entries) (Publisher place) GoOn ≡ Local
    → (ends (led (happens m (Publisher place) (Begin c)) entries) (Publisher place) GoOn ≡ true)
    ⊎ ((slot : ℕ) × (publisher_stage (slice_get (led (happens m (Publisher place) (Begin c)) entries).publishers place) ≡ Remembering slot))

-- The accesses of a release to a connection; none if there is no connection.
abbrev pub release_course : ℕ → Option Route → List ℕ → List SharedAccess
release_course sample None answers = []
release_course sample (Some route) answers
    = refusing_course (back route) route.completion_cells route.completion_cells sample quiet_course answers

-- The accesses of a subscriber's call, by their answers; a call that isn't a subscriber's makes none.
abbrev pub subscriber_call_course : SubscriberLaneState → Call → List ℕ → List SharedAccess
subscriber_call_course lane call.LoanUninit answers = []
subscriber_call_course lane (call.Write loan payload user_header) answers = []
subscriber_call_course lane (call.Send loan) answers = []
subscriber_call_course lane (call.DropLoan loan) answers = []
subscriber_call_course lane call.Receive answers = receive_course lane.port.borrowed lane.port.most_borrowed 0 lane.port.routes answers
subscriber_call_course lane (call.Read sample) answers = read_course sample lane.port.extent 0 (words_in lane.port.extent) answers
subscriber_call_course lane (call.Release sample) answers = release_course sample (route_at (place_of sample lane) lane) answers

-- The subscriber is still in the call that it began at this moment.
pub record IsInSubscriberCall (m : World) (place first : ℕ) : Type 0 where
  pub lane : SubscriberLaneState
  pub found : slice_get m.subscribers place ≡ Some lane
  pub since : lane.first ≡ first
  pub busy : subscriber_is_idle lane.port.call ≡ false

-- A subscriber's call that began, and is still in progress after these entries, on lanes that made at most 2^63 steps; there are fewer than
-- 2^64 - 1 connections, and a slot has fewer than 2^64 - 1 words.
pub record IsSubscriberCall (m : World) (place : ℕ) (lane : SubscriberLaneState) (c : Call) (entries : List Entry) : Type 0 where
  pub found : slice_get m.subscribers place ≡ Some lane
  pub may : subscriber_fits lane (Begin c) ≡ true
  pub connections : length lane.port.routes < 2 ^ 64 - 1
  pub words : words_in lane.port.extent < 2 ^ 64 - 1
  pub few : (led (happens m (Subscriber place) (Begin c)) entries).moments ≤ 2 ^ 63
  pub inside : IsInSubscriberCall (led (happens m (Subscriber place) (Begin c)) entries) place m.moments

-- In any run the accesses of a subscriber's call are the course of the call, as its answers determine it. This holds for fewer than
-- 2^64 - 1 connections and words, as long as at most 2^63 steps were made.
abbrev pub SubscribersKeepCourse : Type 0
SubscribersKeepCourse = (m : World) (place : ℕ) (lane : SubscriberLaneState) (c : Call) (entries : List Entry)
    → IsSubscriberCall m place lane c entries
    → own_accesses (λ party. is_receiver party place) (happens m (Subscriber place) (Begin c)) entries
    ≡ subscriber_call_course lane c (own_answers (λ party. is_receiver party place) (happens m (Subscriber place) (Begin c)) entries)

-- A subscriber's call ends directly after its last access: a next step that touches no word is the last one of the call.
abbrev pub SubscribersEndAtOnce : Type 0
SubscribersEndAtOnce = (m : World) (place : ℕ) (lane : SubscriberLaneState) (c : Call) (entries : List Entry)
    → IsSubscriberCall m place lane c entries
    → access_of (led (happens m (Subscriber place) (Begin c)) entries) (Subscriber place) GoOn ≡ Local
    → ends (led (happens m (Subscriber place) (Begin c)) entries) (Subscriber place) GoOn ≡ true

-- A release that is still in progress made at most four steps since it began. So it ends with its sixth entry, counting its beginning and
-- its last step.
abbrev pub ReleasesEndSoon : Type 0
ReleasesEndSoon = (m : World) (place sample : ℕ) (lane : SubscriberLaneState) (entries : List Entry)
    → IsSubscriberCall m place lane (call.Release sample) entries
    → length (own_answers (λ party. is_receiver party place) (happens m (Subscriber place) (Begin (call.Release sample))) entries) ≤ 4

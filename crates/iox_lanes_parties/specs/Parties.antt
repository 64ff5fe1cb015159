-- A publisher and a subscriber with the call that each is in: which calls fit, what a step leaves, and what a call answers.
use Rattle.std.specs.Prelude.{ℕ, ◌+◌, ◌-◌, Bool, true, false, not, ◌&&◌, ◌==◌, if◌then◌else◌, nat_lt, List, [], ◌++◌, length, map, take}
use Rattle.std.specs.Prelude.{set, get_or, slice_get, Option, Some, None}
use Rattle.iox_lanes_parties.specs.LanesBase.Publishing.{publisher_is_idle}
use Rattle.iox_lanes_parties.specs.LanesBase.Subscribing.{subscriber_is_idle}
use Rattle.iox_lanes_parties.specs.LanesBase.declared.calls.publisher.PublisherCall.{PublisherCall}
use Rattle.iox_lanes_parties.specs.LanesBase.declared.calls.publisher.PublisherCall.TheVariants as publishing
use Rattle.iox_lanes_parties.specs.LanesBase.declared.calls.route.Route.{Route}
use Rattle.iox_lanes_parties.specs.LanesBase.declared.calls.subscriber.SubscriberCall.{SubscriberCall}
use Rattle.iox_lanes_parties.specs.LanesBase.declared.calls.subscriber.SubscriberCall.TheVariants as subscribing
use Rattle.iox_lanes_parties.specs.PublisherKeeping.{loan_of}
use Rattle.iox_lanes_parties.specs.Publishers as publishers
use Rattle.iox_lanes_parties.specs.Publishers.{PublisherState}
use Rattle.iox_lanes_parties.specs.declared.publisher.slot_book.LoanMark.{LoanMark}
use Rattle.iox_lanes_parties.specs.declared.publisher.slot_book.LoanMark.TheVariants as mark
use Rattle.iox_lanes_parties.specs.declared.publisher.slot_book.LoanAnswer.{LoanAnswer}
use Rattle.iox_lanes_parties.specs.declared.publisher.slot_book.LoanAnswer.TheVariants as loan_answer
use Rattle.iox_lanes_parties.specs.Keeping as subscribers
use Rattle.iox_lanes_parties.specs.Keeping.{SubscriberState}
use Rattle.iox_lanes_parties.specs.SendAnswers.{send_answer}
use Rattle.iox_lanes_parties.specs.Sequences.{number_after, with_number}
use Rattle.iox_lanes_parties.specs.declared.call.Call.{Call}
use Rattle.iox_lanes_parties.specs.declared.call.Call.TheVariants as call
use Rattle.iox_lanes_parties.specs.declared.call.CallName.{CallName}
use Rattle.iox_lanes_parties.specs.declared.call.CallName.TheVariants as name
use Rattle.iox_lanes_parties.specs.declared.call.Move.{Move}
use Rattle.iox_lanes_parties.specs.declared.call.Move.TheVariants.{Begin, GoOn}
use Rattle.iox_lanes_parties.specs.declared.call.Answer.{Answer}
use Rattle.iox_lanes_parties.specs.declared.call.Answer.TheVariants as answer

-- A publisher: its port, for each of its slots the header and user header that a send stores, whether its sends fail at a full mailbox, its
-- last sequence number (if messages have them), and the call that it began last, with the moment of its first step.
pub record PublisherLaneState : Type 0 where
  pub port : PublisherState
  pub fails : Bool
  pub heads : List (List ℕ)
  pub last : Option ℕ
  pub call : CallName
  pub first : ℕ

-- A subscriber: its port, and the call that it began last, with the moment of its first step.
pub record SubscriberLaneState : Type 0 where
  pub port : SubscriberState
  pub call : CallName
  pub first : ℕ

-- The publisher after lanes found this slot at its connection of this place.
abbrev pub lane_found : ℕ → ℕ → PublisherLaneState → PublisherLaneState
lane_found place slot lane = record lane { port = publishers.found_at place slot lane.port }

-- The publisher after lanes found that this slot is the newest of its history.
abbrev pub lane_remembers : ℕ → PublisherLaneState → PublisherLaneState
lane_remembers slot lane = record lane { port = publishers.found_last slot lane.port }

-- The publisher after its connection with the number of this route was replaced by this route.
abbrev pub lane_meets : Route → PublisherLaneState → PublisherLaneState
lane_meets route lane = record lane { port = publishers.met_anew route lane.port }

-- The publisher with only its first `slots` slots, and with this loan limit.
abbrev pub lane_resized : ℕ → ℕ → PublisherLaneState → PublisherLaneState
lane_resized slots most_loans lane = record lane { port = publishers.with_slots slots most_loans lane.port; heads = take slots lane.heads }

-- The words of header and user header, whose first two words name this node and publisher.
abbrev pub with_origin : ℕ → ℕ → List ℕ → List ℕ
with_origin node_id publisher_id head = if nat_lt 1 (length head) then set (set head 0 node_id) 1 publisher_id else head

-- The publisher whose headers name this node and publisher, whose sends fail at a full mailbox or don't, and whose last sequence number is
-- this one, if messages have them.
abbrev pub lane_named : ℕ → ℕ → Bool → Option ℕ → PublisherLaneState → PublisherLaneState
lane_named node_id publisher_id fails last lane =
    record lane { fails = fails; heads = map (with_origin node_id publisher_id) lane.heads; last = last }

-- The subscriber after the connections at two places were swapped.
abbrev pub receiver_swapped : ℕ → ℕ → SubscriberLaneState → SubscriberLaneState
receiver_swapped one other lane = record lane { port = subscribers.swapped one other lane.port }

-- The subscriber after its connection with the number of this route was replaced by this route.
abbrev pub receiver_meets : Route → SubscriberLaneState → SubscriberLaneState
receiver_meets route lane = record lane { port = subscribers.met_anew route lane.port }

-- The call without the words of a write.
abbrev pub name_of : Call → CallName
name_of call.LoanUninit = name.LoanUninit
name_of (call.Write loan payload user_header) = name.Write loan
name_of (call.Send loan) = name.Send loan
name_of (call.DropLoan loan) = name.DropLoan loan
name_of call.Receive = name.Receive
name_of (call.Read sample) = name.Read sample
name_of (call.Release sample) = name.Release sample

-- Whether the slot is a loan, written or not.
abbrev pub is_out : LoanMark → Bool
is_out mark.No = false
is_out mark.Lent = true
is_out mark.Written = true

-- Whether the slot is a written loan.
abbrev pub is_written : LoanMark → Bool
is_written mark.No = false
is_written mark.Lent = false
is_written mark.Written = true

-- Whether the slot is borrowed from some connection.
abbrev pub is_borrowed : Option ℕ → Bool
is_borrowed None = false
is_borrowed (Some place) = true

-- Whether a publisher may begin this call: the call is one of a publisher's; a slot that it names is a loan, and for a send a written one;
-- and the numbers of words of a write are those of a slot.
abbrev pub publisher_may : PublisherLaneState → Call → Bool
publisher_may lane call.LoanUninit = true
publisher_may lane (call.Write loan payload user_header) =
    is_out (loan_of loan lane.port.book)
    && (length payload.items == length lane.port.payload)
    && (3 + length user_header.items == length lane.port.head)
publisher_may lane (call.Send loan) = is_written (loan_of loan lane.port.book)
publisher_may lane (call.DropLoan loan) = is_out (loan_of loan lane.port.book)
publisher_may lane call.Receive = false
publisher_may lane (call.Read sample) = false
publisher_may lane (call.Release sample) = false

-- Whether a publisher may make this move: it begins a call only between calls, and goes on only inside one.
abbrev pub publisher_fits : PublisherLaneState → Move → Bool
publisher_fits lane (Begin c) = publisher_is_idle lane.port.call && publisher_may lane c
publisher_fits lane GoOn = not (publisher_is_idle lane.port.call)

-- The index among the publisher's own slots of a slot of the service.
abbrev pub index_of : ℕ → PublisherLaneState → ℕ
index_of slot lane = slot - lane.port.book.first

-- The header and user header that are kept for the slot.
abbrev pub kept_head : ℕ → PublisherLaneState → List ℕ
kept_head slot lane = get_or lane.heads (index_of slot lane) []

-- The header and user header that a send of the slot stores, with the next sequence number if messages have one.
abbrev pub head_of : ℕ → PublisherLaneState → List ℕ
head_of slot lane = with_number (number_after lane.last) (kept_head slot lane)

-- The header with this user header after its three words.
abbrev pub with_user_header : List ℕ → List ℕ → List ℕ
with_user_header head user_header = take 3 head ++ user_header

-- The publisher that keeps this user header for the send of the slot.
abbrev pub kept : ℕ → List ℕ → PublisherLaneState → PublisherLaneState
kept slot user_header lane =
    record lane { heads = set lane.heads (index_of slot lane) (with_user_header (kept_head slot lane) user_header) }

-- The publisher that begins a write of the slot.
abbrev pub write_begun : ℕ → List ℕ → List ℕ → PublisherLaneState → PublisherLaneState
write_begun slot payload user_header lane =
    record (kept slot user_header lane) { port = publishers.begun_write slot payload lane.port }

-- The publisher that begins a send of the slot, with the next sequence number if messages have one.
abbrev pub send_begun : ℕ → PublisherLaneState → PublisherLaneState
send_begun slot lane =
    record lane { port = publishers.begun_send slot (head_of slot lane) lane.port; last = number_after lane.last }

-- The publisher that begins a call; a call that isn't a publisher's leaves it as it is.
abbrev pub publisher_begun : ℕ → Call → PublisherLaneState → PublisherLaneState
publisher_begun moment call.LoanUninit lane =
    record lane { port = publishers.begun_loan lane.port; call = name.LoanUninit; first = moment }
publisher_begun moment (call.Write loan payload user_header) lane =
    record (write_begun loan payload.items user_header.items lane) { call = name.Write loan; first = moment }
publisher_begun moment (call.Send loan) lane = record (send_begun loan lane) { call = name.Send loan; first = moment }
publisher_begun moment (call.DropLoan loan) lane =
    record lane { port = publishers.begun_drop loan lane.port; call = name.DropLoan loan; first = moment }
publisher_begun moment call.Receive lane = lane
publisher_begun moment (call.Read sample) lane = lane
publisher_begun moment (call.Release sample) lane = lane

-- The publisher after the answer of its next access.
abbrev pub publisher_after : ℕ → PublisherLaneState → PublisherLaneState
publisher_after given lane = record lane { port = publishers.after_answer given lane.port }

-- The answer of a loan that ended.
abbrev pub lent : Option LoanAnswer → Answer
lent None = answer.Lent loan_answer.OutOfMemory
lent (Some given) = answer.Lent given

-- The answer of a publisher's call, if its next step is its last one; `loan` is the answer of a loan after that step, and `fails` says
-- whether sends fail at a full mailbox.
abbrev pub publisher_answer : Bool → PublisherCall → Option LoanAnswer → Option Answer
publisher_answer fails publishing.Idle loan = None
publisher_answer fails (publishing.LoanReclaims place route pop) loan = None
publisher_answer fails publishing.Lending loan = Some (lent loan)
publisher_answer fails (publishing.Writing slot word value) loan = None
publisher_answer fails (publishing.Written slot) loan = Some answer.Written
publisher_answer fails (publishing.Heading slot word value) loan = None
publisher_answer fails (publishing.Remembering slot) loan = None
publisher_answer fails (publishing.SendReclaims slot place route pop) loan = None
publisher_answer fails (publishing.Pushing slot place route push delivery) loan = None
publisher_answer fails (publishing.Sent slot delivery) loan = Some (answer.Sent (send_answer fails delivery))
publisher_answer fails (publishing.Dropping slot) loan = Some answer.Dropped

-- The place of the connection that the subscriber borrows the slot from.
abbrev pub place_of : ℕ → SubscriberLaneState → Option ℕ
place_of slot lane = get_or lane.port.samples slot None

-- The connection at this place, if there is one.
abbrev pub route_at : Option ℕ → SubscriberLaneState → Option Route
route_at None lane = None
route_at (Some place) lane = slice_get lane.port.routes place

-- Whether there is a connection.
abbrev pub is_route : Option Route → Bool
is_route None = false
is_route (Some route) = true

-- Whether a subscriber may begin this call: the call is one of a subscriber's, and a sample that it names is borrowed from one of its
-- connections.
abbrev pub subscriber_may : SubscriberLaneState → Call → Bool
subscriber_may lane call.LoanUninit = false
subscriber_may lane (call.Write loan payload user_header) = false
subscriber_may lane (call.Send loan) = false
subscriber_may lane (call.DropLoan loan) = false
subscriber_may lane call.Receive = true
subscriber_may lane (call.Read sample) = is_borrowed (place_of sample lane)
subscriber_may lane (call.Release sample) = is_route (route_at (place_of sample lane) lane)

-- Whether a subscriber may make this move: it begins a call only between calls, and goes on only inside one.
abbrev pub subscriber_fits : SubscriberLaneState → Move → Bool
subscriber_fits lane (Begin c) = subscriber_is_idle lane.port.call && subscriber_may lane c
subscriber_fits lane GoOn = not (subscriber_is_idle lane.port.call)

-- The subscriber that begins to release the sample to the connection that the sample is borrowed from.
abbrev pub release_begun : ℕ → ℕ → Option ℕ → Option Route → SubscriberLaneState → SubscriberLaneState
release_begun moment sample None route lane = lane
release_begun moment sample (Some place) None lane = lane
release_begun moment sample (Some place) (Some route) lane =
    record lane { port = subscribers.begun_release place route sample lane.port; call = name.Release sample; first = moment }

-- The subscriber that begins a call; a call that isn't a subscriber's leaves it as it is.
abbrev pub subscriber_begun : ℕ → Call → SubscriberLaneState → SubscriberLaneState
subscriber_begun moment call.LoanUninit lane = lane
subscriber_begun moment (call.Write loan payload user_header) lane = lane
subscriber_begun moment (call.Send loan) lane = lane
subscriber_begun moment (call.DropLoan loan) lane = lane
subscriber_begun moment call.Receive lane =
    record lane { port = subscribers.begun_receive lane.port; call = name.Receive; first = moment }
subscriber_begun moment (call.Read sample) lane =
    record lane { port = subscribers.begun_read sample lane.port; call = name.Read sample; first = moment }
subscriber_begun moment (call.Release sample) lane =
    release_begun moment sample (place_of sample lane) (route_at (place_of sample lane) lane) lane

-- The subscriber after the answer of its next access.
abbrev pub subscriber_after : ℕ → SubscriberLaneState → SubscriberLaneState
subscriber_after given lane = record lane { port = subscribers.after_answer given lane.port }

-- The answer of a subscriber's call, if its next step is its last one; the words of a read begin at `from` among all that were read.
abbrev pub subscriber_answer : SubscriberCall → ℕ → Option Answer
subscriber_answer subscribing.Idle from = None
subscriber_answer (subscribing.Receiving place route pop waits) from = None
subscriber_answer (subscribing.Received receipt) from = Some (answer.Received receipt)
subscriber_answer (subscribing.Reading slot word extent) from = None
subscriber_answer (subscribing.WasRead slot) from = Some (answer.Read from)
subscriber_answer (subscribing.Releasing place route push) from = None
subscriber_answer (subscribing.Released done) from = Some (answer.Released done)

-- The words that a read loaded, if its next step is its last one; otherwise none.
abbrev pub words_read : SubscriberCall → List ℕ → List ℕ
words_read subscribing.Idle words = []
words_read (subscribing.Receiving place route pop waits) words = []
words_read (subscribing.Received receipt) words = []
words_read (subscribing.Reading slot word extent) words = []
words_read (subscribing.WasRead slot) words = words
words_read (subscribing.Releasing place route push) words = []
words_read (subscribing.Released done) words = []

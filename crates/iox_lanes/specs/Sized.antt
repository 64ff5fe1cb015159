-- The sizes of a domain's lanes, and what follows for their loans and sends.
use Rattle.std.specs.Prelude.{ℕ, ◌≡◌, ◌+◌, ◌*◌, ◌<◌, ◌≤◌, ◌^◌, List, [], ◌∷◌, ◌++◌, true, length, max, slice_get, Some}
use Rattle.iox_domain_values.specs.declared.service_sizes.ServiceSizes.{ServiceSizes}
use Rattle.iox_lanes_machine.specs.LanesParties.Parties.{PublisherLaneState, SubscriberLaneState}
use Rattle.iox_lanes_machine.specs.LanesParties.declared.call.Answer.TheVariants as answer
use Rattle.iox_lanes_machine.specs.LanesParties.declared.call.Call.TheVariants as call
use Rattle.iox_lanes_machine.specs.LanesParties.declared.call.Entry.{Entry}
use Rattle.iox_lanes_machine.specs.LanesParties.declared.call.FinishedCall.{FinishedCall}
use Rattle.iox_lanes_machine.specs.LanesParties.declared.call.Move.TheVariants.{Begin, GoOn}
use Rattle.iox_lanes_machine.specs.LanesParties.declared.call.Party.TheVariants.{Publisher}
use Rattle.iox_lanes_machine.specs.LanesParties.declared.publisher.slot_book.LoanAnswer.{LoanAnswer}
use Rattle.iox_lanes_machine.specs.LanesParties.declared.publisher.slot_book.LoanAnswer.TheVariants as loan
use Rattle.iox_lanes_machine.specs.LedgerRooms.{loans_out}
use Rattle.iox_lanes_machine.specs.Paces.{led, own_steps, IsInCall}
use Rattle.iox_lanes_machine.specs.World.{World, fits, happens, RunsTo}
use Rattle.iox_lanes_machine.specs.declared.sizes.LaneSizes.{LaneSizes}
use Rattle.iox_lanes.specs.Finding.{WasFound}
use Rattle.iox_lanes.specs.Holding.{kind_of}

-- The maximum number of waiting messages at a connection of the lanes: the agreed buffer size, and at least one.
abbrev pub most_waiting : ServiceSizes → ℕ
most_waiting agreed = max agreed.subscriber_max_buffer_size 1

-- The maximum number of messages of a connection of the lanes that wait or are borrowed, taken together.
abbrev pub most_at : ServiceSizes → ℕ
most_at agreed = most_waiting agreed + agreed.subscriber_max_borrowed_samples

-- The most slots that a publisher of the lanes uses: those of its connections to this many subscribers, its history and its loans.
abbrev pub slots_used : ServiceSizes → ℕ → ℕ → ℕ
slots_used agreed subscribers loans = subscribers * most_at agreed + agreed.history_size + loans

-- These sizes are the agreed ones, for this many publishers, subscribers and words: the kind of ring, the maximum number of waiting
-- messages, the borrow limit and the history size.
pub record AreAgreed (agreed : ServiceSizes) (publishers subscribers payload_count header_count : ℕ) (sizes : LaneSizes) : Type 0 where
  pub as_many_publishers : sizes.publishers ≡ publishers
  pub as_many_subscribers : sizes.subscribers ≡ subscribers
  pub kind : sizes.kind ≡ kind_of agreed.enable_safe_overflow
  pub buffer : sizes.buffer ≡ most_waiting agreed
  pub most_borrowed : sizes.most_borrowed ≡ agreed.subscriber_max_borrowed_samples
  pub history : sizes.history ≡ agreed.history_size
  pub user_header : sizes.user_header_words ≡ header_count
  pub payload : sizes.payload_words ≡ payload_count

-- Lanes before their first step have the agreed sizes: they were made of them. A completion ring has a cell for each message that may wait
-- or be borrowed at its connection, and one more. Each publisher has a connection to each subscriber, and the agreed history size. Each
-- subscriber has the agreed borrow limit.
pub record AreSized (agreed : ServiceSizes) (publishers subscribers payload_count header_count : ℕ) (m : World) : Type 0 where
  pub sizes : LaneSizes
  pub are_agreed : AreAgreed agreed publishers subscribers payload_count header_count sizes
  pub found : WasFound sizes m
  pub cells : m.table.sizes.completion_cells ≡ most_at agreed + 1
  pub routes : (place : ℕ) (lane : PublisherLaneState) → slice_get m.publishers place ≡ Some lane → length lane.port.routes ≡ subscribers
  pub kept : (place : ℕ) (lane : PublisherLaneState) → slice_get m.publishers place ≡ Some lane → lane.port.book.kept ≡ agreed.history_size
  pub borrowing : (place : ℕ) (lane : SubscriberLaneState) → slice_get m.subscribers place ≡ Some lane
      → lane.port.most_borrowed ≡ agreed.subscriber_max_borrowed_samples

-- Lanes of agreed sizes (`AreSized`) made any steps, at most 2^63 of them. For a loan that isn't over yet, its beginning, the steps that
-- its publisher made since then and the next one are at most 4 * S * (B + R + 2) + 2, for S subscribers, the agreed maximum of B waiting
-- messages at each, and the agreed borrow limit R.
abbrev pub AgreedLoansEndSoon : Type 0
AgreedLoansEndSoon = (agreed : ServiceSizes) (publishers subscribers payload_count header_count : ℕ) (begun : World)
    → AreSized agreed publishers subscribers payload_count header_count begun
    → (schedule : List Entry) (made : ℕ) (m : World) → RunsTo begun schedule made m
    → (place : ℕ) (entries : List Entry) → fits m (Publisher place) (Begin call.LoanUninit) ≡ true
    → (led (happens m (Publisher place) (Begin call.LoanUninit)) entries).moments ≤ 2 ^ 63
    → IsInCall (led (happens m (Publisher place) (Begin call.LoanUninit)) entries) place m.moments
    → 1 + own_steps (happens m (Publisher place) (Begin call.LoanUninit)) place entries + 1 ≤ 4 * subscribers * (most_at agreed + 2) + 2

-- Lanes of agreed sizes (`AreSized`) made any steps, at most 2^63 of them. For a send that isn't over yet, its beginning, the steps that
-- its publisher made since then and the next one are at most 4 * S * (B + R + 3) + W + 7, where W is the number of words between the three
-- words of the header and the payload, and is less than 2^61.
abbrev pub AgreedSendsEndSoon : Type 0
AgreedSendsEndSoon = (agreed : ServiceSizes) (publishers subscribers payload_count header_count : ℕ) (begun : World)
    → AreSized agreed publishers subscribers payload_count header_count begun → header_count < 2 ^ 61
    → (schedule : List Entry) (made : ℕ) (m : World) → RunsTo begun schedule made m
    → (place loan : ℕ) (entries : List Entry) → fits m (Publisher place) (Begin (call.Send loan)) ≡ true
    → (led (happens m (Publisher place) (Begin (call.Send loan))) entries).moments ≤ 2 ^ 63
    → IsInCall (led (happens m (Publisher place) (Begin (call.Send loan))) entries) place m.moments
    → 1 + own_steps (happens m (Publisher place) (Begin (call.Send loan))) place entries + 1
    ≤ 4 * subscribers * (most_at agreed + 3) + header_count + 7

-- Lanes of agreed sizes (`AreSized`) made any steps, at most 2^63 of them. A loan of theirs ends with a slot if the publisher was below its
-- loan limit when the loan began, and has as many slots as it can use, with numbers below 2^64.
abbrev pub AgreedSlotsSuffice : Type 0
AgreedSlotsSuffice = (agreed : ServiceSizes) (publishers subscribers payload_count header_count : ℕ) (begun : World)
    → AreSized agreed publishers subscribers payload_count header_count begun
    → (schedule : List Entry) (made : ℕ) (m : World) → RunsTo begun schedule made m
    → (place : ℕ) (entries : List Entry) → fits m (Publisher place) (Begin call.LoanUninit) ≡ true
    → (led (happens m (Publisher place) (Begin call.LoanUninit)) entries).moments ≤ 2 ^ 63
    → IsInCall (led (happens m (Publisher place) (Begin call.LoanUninit)) entries) place m.moments
    → (ended : FinishedCall) → (happens (led (happens m (Publisher place) (Begin call.LoanUninit)) entries) (Publisher place) GoOn).finished
    ≡ (led (happens m (Publisher place) (Begin call.LoanUninit)) entries).finished ++ ended ∷ []
    → (given : LoanAnswer) → ended.answer ≡ answer.Lent given
    → (lane : PublisherLaneState) → slice_get m.publishers place ≡ Some lane → lane.port.book.first + length lane.port.book.loans < 2 ^ 64
    → loans_out lane.port.book < lane.port.book.most_loans
    → slots_used agreed subscribers lane.port.book.most_loans ≤ length lane.port.book.uses
    → (slot : ℕ) × (given ≡ loan.Slot slot)

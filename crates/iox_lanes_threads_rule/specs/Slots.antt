-- What is true in threads of the slots that subscribers hold, as long as no write position is 2^64 - 1.
use Rattle.std.specs.Prelude.{ℕ, ◌≡◌, ◌+◌, ◌<◌, ◌≤◌, ◌==◌, true, false, if◌then◌else◌, List, length, set, slice_get, Some}
use mathlib.Core.Option.{some}
use lib.ListN.{get_elem?}
use Rattle.iox_lanes_machine.specs.QueuesSteps.declared.access.Word.TheVariants.{Write, Read}
use Rattle.iox_lanes_machine.specs.QueuesSteps.Ends.{cells_of}
use Rattle.iox_lanes_machine.specs.LanesBase.Numbers.{number_of, IsWord}
use Rattle.iox_lanes_machine.specs.LanesBase.declared.calls.route.Route.{Route}
use Rattle.iox_lanes_machine.specs.LanesBase.declared.words.access.SharedAccess.TheVariants.{Load, Store, Exchange}
use Rattle.iox_lanes_machine.specs.LanesBase.declared.words.word.SharedWord.{SharedWord}
use Rattle.iox_lanes_machine.specs.LanesBase.declared.words.word.ConnectionRing.TheVariants.{Submission, Completion}
use Rattle.iox_lanes_machine.specs.LanesBase.declared.words.word.SharedWord.TheVariants.{Ring, Slot}
use Rattle.iox_lanes_machine.specs.LanesBase.declared.words.word.SlotWord.{SlotWord}
use Rattle.iox_lanes_machine.specs.LanesParties.PublisherKeeping.{loan_of}
use Rattle.iox_lanes_machine.specs.LanesParties.Parties.{PublisherLaneState, SubscriberLaneState, is_out, is_borrowed, place_of}
use Rattle.iox_lanes_machine.specs.LanesParties.declared.call.Party.TheVariants.{Subscriber}
use Rattle.iox_lanes_machine.specs.Borrowing.{borrows}
use Rattle.iox_lanes_machine.specs.LedgerUses.{one_if, count, refers_to}
use Rattle.iox_lanes_machine.specs.Rings.{ring_in}
use Rattle.iox_lanes_machine.specs.Stored.{between}
use Rattle.iox_lanes_machine.specs.Uses.{given_back}
use Rattle.iox_lanes_threads_rule.specs.Lanes.{MakesNext, IsEarly, IsBacked, as_table}
use Rattle.iox_lanes_threads_rule.specs.Rule.{held, Fits}
use Rattle.iox_lanes_threads_rule.specs.Service.{Stores}
use Rattle.iox_lanes_threads_rule.specs.Steps.{saw, learned, known_exchanged, MayStore, MayExchange}
use Rattle.iox_lanes_threads_rule.specs.declared.service.Line.{Line}
use Rattle.iox_lanes_threads_rule.specs.declared.service.Service.{Service}
use Rattle.iox_lanes_threads_rule.specs.declared.view.Port.{Port}
use Rattle.iox_lanes_threads_rule.specs.declared.view.PortParty.{PortParty}
use Rattle.iox_lanes_threads_rule.specs.declared.view.PortParty.TheVariants as party

-- If words and ports are those of some lanes, they still are after a load that a port makes next.
abbrev pub LoadsLeaveLanes : Type 0
LoadsLeaveLanes = (s : Service) (words : List ℕ) (ports : List Port) (p : Port) (w : SharedWord) (after : ℕ → PortParty)
    → Fits s words ports → get_elem? ports p.number ≡ some p → IsWord s.sizes w → MakesNext p.party (Load w) after
    → IsBacked s words ports
    → IsBacked s (set words (number_of s.sizes w) (held s words w))
    (set ports p.number (learned (saw p w) (set p.known (number_of s.sizes w) (held s words w)) (after (held s words w))))

-- If words and ports are those of some lanes, they still are after a store that a port may make and makes next.
abbrev pub StoresLeaveLanes : Type 0
StoresLeaveLanes = (s : Service) (words : List ℕ) (ports : List Port) (p : Port) (w : SharedWord) (new : ℕ) (after : ℕ → PortParty)
    → Fits s words ports → get_elem? ports p.number ≡ some p → MayStore s p w new → MakesNext p.party (Store w new) after
    → IsBacked s words ports
    → IsBacked s (set words (number_of s.sizes w) new)
    (set ports p.number (learned p (set p.known (number_of s.sizes w) new) (after 0)))

-- If words and ports are those of some lanes, they still are after an exchange that a port may make and makes next.
abbrev pub ExchangesLeaveLanes : Type 0
ExchangesLeaveLanes = (s : Service) (words : List ℕ) (ports : List Port) (p : Port) (w : SharedWord) (old new : ℕ)
    (after : ℕ → PortParty)
    → Fits s words ports → get_elem? ports p.number ≡ some p → MayExchange s p w old new → MakesNext p.party (Exchange w old new) after
    → IsBacked s words ports
    → IsBacked s (set words (number_of s.sizes w) (if held s words w == old then new else held s words w))
    (set ports p.number (learned p (known_exchanged p.name p.known (number_of s.sizes w) old new (held s words w))
    (after (held s words w))))

-- The slot is a sample in the port's view.
abbrev pub IsSampleOf : PortParty → ℕ → Type 0
IsSampleOf (party.Publisher lane) slot = ⊥
IsSampleOf (party.Subscriber lane) slot = is_borrowed (place_of slot lane) ≡ true

-- The slot is a loan in the port's view, and none of its connections has it.
abbrev pub IsLoneLoanOf : PortParty → ℕ → Type 0
IsLoneLoanOf (party.Publisher lane) slot = (is_out (loan_of slot lane.port.book) ≡ true)
    × ((place : ℕ) → place < length lane.port.routes → refers_to lane.port.book place slot ≡ false)
IsLoneLoanOf (party.Subscriber lane) slot = ⊥

-- If a port's next access stores a word of a slot, the slot is a loan in the port's view after the store, and none of its connections has
-- the slot; and no port's view has the slot as a sample.
abbrev pub SlotStoresAreOfLoans : Type 0
SlotStoresAreOfLoans = (s : Service) (words : List ℕ) (ports : List Port) (p : Port) (slot : ℕ) (word : SlotWord) (new : ℕ)
    (after : ℕ → PortParty)
    → IsBacked s words ports → IsEarly (as_table s words) → get_elem? ports p.number ≡ some p
    → MakesNext p.party (Store (Slot slot word) new) after
    → IsLoneLoanOf (after 0) slot
    × ((number : ℕ) (q : Port) → get_elem? ports number ≡ some q → IsSampleOf q.party slot → ⊥)

-- The cells between the two positions of a connection's submission ring.
abbrev pub sent_between : Service → List ℕ → Line → ℕ → List ℕ
sent_between s words line connection = between (ring_in (as_table s words) connection (cells_of line.kind line.limit))

-- A connection of a publisher's view, and the view of its subscriber.
pub record JoinsViews (s : Service) (ports : List Port) (publisher subscriber : Port) (lane : PublisherLaneState)
    (own : SubscriberLaneState) (place : ℕ) (route : Route) (line : Line) : Type 0 where
  pub sends : get_elem? ports publisher.number ≡ some publisher
  pub sender : publisher.party ≡ party.Publisher lane
  pub route_is : slice_get lane.port.routes place ≡ Some route
  pub line_is : slice_get s.lines route.connection ≡ Some line
  pub receives : get_elem? ports subscriber.number ≡ some subscriber
  pub name : subscriber.name ≡ Subscriber line.subscriber
  pub receiver : subscriber.party ≡ party.Subscriber own

-- A publisher's view says that a connection has a slot exactly if the slot is there: it waits or lies aside in the submission ring, the
-- subscriber's view has it as a sample, or it is in the completion ring. It is there once.
abbrev pub ReferencesAreCounted : Type 0
ReferencesAreCounted = (s : Service) (words : List ℕ) (ports : List Port) (publisher subscriber : Port) (lane : PublisherLaneState)
    (own : SubscriberLaneState) (place : ℕ) (route : Route) (line : Line)
    → IsBacked s words ports → IsEarly (as_table s words) → JoinsViews s ports publisher subscriber lane own place route line → (slot : ℕ)
    → count slot (sent_between s words line route.connection) + one_if (borrows route.connection slot (Some own))
    + count slot (given_back (as_table s words) route.connection) ≡ one_if (refers_to lane.port.book place slot)

-- No read position is beyond its write position, or smaller by more than the number of its ring's cells.
pub record AreNearAt (s : Service) (words : List ℕ) (connection : ℕ) (line : Line) : Type 0 where
  pub behind : held s words (Ring connection Submission Read) ≤ held s words (Ring connection Submission Write)
  pub near : held s words (Ring connection Submission Write)
      ≤ held s words (Ring connection Submission Read) + cells_of line.kind line.limit
  pub back_behind : held s words (Ring connection Completion Read) ≤ held s words (Ring connection Completion Write)
  pub back_near : held s words (Ring connection Completion Write)
      ≤ held s words (Ring connection Completion Read) + s.sizes.completion_cells

-- The positions of each connection are near (`AreNearAt`), as long as no write position is 2^64 - 1.
abbrev pub PositionsAreNear : Type 0
PositionsAreNear = (s : Service) (words : List ℕ) (ports : List Port) (connection : ℕ) (line : Line) → IsBacked s words ports
    → IsEarly (as_table s words) → slice_get s.lines connection ≡ Some line
    → AreNearAt s words connection line

-- A word that a port has loaded of a sample that it still holds has the value that the port knows, and the port that stores the word knows
-- the same value.
abbrev pub SeenWordsStand : Type 0
SeenWordsStand = (s : Service) (words : List ℕ) (ports : List Port) (at number place : ℕ) (q p : Port) (w : SharedWord)
    → Fits s words ports → IsBacked s words ports → IsEarly (as_table s words)
    → get_elem? ports at ≡ some q → slice_get q.seen place ≡ Some w
    → (held s words w ≡ held s q.known w)
    × (get_elem? ports number ≡ some p → Stores s p.name w → held s q.known w ≡ held s p.known w)

-- The lanes whose words and ports threads have, and how a port comes to its next access.
use Rattle.std.specs.Prelude.{ℕ, ◌≡◌, ◌-◌, ◌<◌, ◌^◌, true, List, map, slice_get, Some}
use Rattle.std.specs.List.{All}
use mathlib.Core.Option.{some}
use lib.ListN.{get_elem?}
use Rattle.iox_lanes_machine.specs.QueuesSteps.declared.access.Word.TheVariants.{Write}
use Rattle.iox_lanes_machine.specs.LanesBase.Numbers.{IsWord}
use Rattle.iox_lanes_machine.specs.LanesBase.Table.{TableWords, held_by}
use Rattle.iox_lanes_machine.specs.LanesBase.Publishing.{publisher_next}
use Rattle.iox_lanes_machine.specs.LanesBase.Subscribing.{subscriber_next}
use Rattle.iox_lanes_machine.specs.LanesBase.declared.words.access.SharedAccess.{SharedAccess}
use Rattle.iox_lanes_machine.specs.LanesBase.declared.words.access.SharedAccess.TheVariants.{Local}
use Rattle.iox_lanes_machine.specs.LanesBase.declared.words.word.ConnectionRing.{ConnectionRing}
use Rattle.iox_lanes_machine.specs.LanesBase.declared.words.word.SharedWord.{SharedWord}
use Rattle.iox_lanes_machine.specs.LanesBase.declared.words.word.SharedWord.TheVariants.{Ring}
use Rattle.iox_lanes_machine.specs.LanesParties.Parties.{PublisherLaneState, SubscriberLaneState, publisher_fits, publisher_begun}
use Rattle.iox_lanes_machine.specs.LanesParties.Parties.{publisher_after, subscriber_fits, subscriber_begun, subscriber_after}
use Rattle.iox_lanes_machine.specs.LanesParties.declared.call.Call.{Call}
use Rattle.iox_lanes_machine.specs.LanesParties.declared.call.Move.TheVariants.{Begin}
use Rattle.iox_lanes_machine.specs.LanesParties.declared.call.Party.{Party}
use Rattle.iox_lanes_machine.specs.LanesParties.declared.call.Party.TheVariants.{Publisher, Subscriber}
use Rattle.iox_lanes_machine.specs.Links.{LinkState}
use Rattle.iox_lanes_machine.specs.Rooms.{RoomsKept}
use Rattle.iox_lanes_machine.specs.Together.{HoldTogether}
use Rattle.iox_lanes_machine.specs.World.{World}
use Rattle.iox_lanes_threads_rule.specs.Rule.{held}
use Rattle.iox_lanes_threads_rule.specs.Steps.{is_of_sample}
use Rattle.iox_lanes_threads_rule.specs.declared.service.Line.{Line}
use Rattle.iox_lanes_threads_rule.specs.declared.service.Service.{Service}
use Rattle.iox_lanes_threads_rule.specs.declared.view.Port.{Port}
use Rattle.iox_lanes_threads_rule.specs.declared.view.PortParty.{PortParty}
use Rattle.iox_lanes_threads_rule.specs.declared.view.PortParty.TheVariants as party

-- A publisher comes from one state to another by beginning calls that fit, and by local steps.
pub data PublisherLeads (lane : PublisherLaneState) : PublisherLaneState → Type 0 where
  stays : PublisherLeads lane lane
  begins : (now : PublisherLaneState) (moment : ℕ) (call : Call) → PublisherLeads lane now → publisher_fits now (Begin call) ≡ true
      → PublisherLeads lane (publisher_begun moment call now)
  goes : (now : PublisherLaneState) → PublisherLeads lane now → publisher_next now.port.call ≡ Local
      → PublisherLeads lane (publisher_after 0 now)

-- A subscriber comes from one state to another by beginning calls that fit, and by local steps.
pub data SubscriberLeads (lane : SubscriberLaneState) : SubscriberLaneState → Type 0 where
  stays : SubscriberLeads lane lane
  begins : (now : SubscriberLaneState) (moment : ℕ) (call : Call) → SubscriberLeads lane now → subscriber_fits now (Begin call) ≡ true
      → SubscriberLeads lane (subscriber_begun moment call now)
  goes : (now : SubscriberLaneState) → SubscriberLeads lane now → subscriber_next now.port.call ≡ Local
      → SubscriberLeads lane (subscriber_after 0 now)

-- The party in a port's view comes to this publisher by beginning calls and by local steps.
abbrev pub ComesToPublisher : PortParty → PublisherLaneState → Type 0
ComesToPublisher (party.Publisher lane) now = PublisherLeads lane now
ComesToPublisher (party.Subscriber lane) now = ⊥

-- The party in a port's view comes to this subscriber by beginning calls and by local steps.
abbrev pub ComesToSubscriber : PortParty → SubscriberLaneState → Type 0
ComesToSubscriber (party.Publisher lane) now = ⊥
ComesToSubscriber (party.Subscriber lane) now = SubscriberLeads lane now

-- The party in a port's view comes to a publisher that makes this access next, and `after` gives the party after each answer.
pub record PublisherActs (own : PortParty) (access : SharedAccess) (after : ℕ → PortParty) : Type 0 where
  pub now : PublisherLaneState
  pub comes : ComesToPublisher own now
  pub next : publisher_next now.port.call ≡ access
  pub after_is : (answer : ℕ) → after answer ≡ party.Publisher (publisher_after answer now)

-- The party in a port's view comes to a subscriber that makes this access next, and `after` gives the party after each answer.
pub record SubscriberActs (own : PortParty) (access : SharedAccess) (after : ℕ → PortParty) : Type 0 where
  pub now : SubscriberLaneState
  pub comes : ComesToSubscriber own now
  pub next : subscriber_next now.port.call ≡ access
  pub after_is : (answer : ℕ) → after answer ≡ party.Subscriber (subscriber_after answer now)

-- The party makes this access next, and `after` says what it is after each answer.
abbrev pub MakesNext : PortParty → SharedAccess → (ℕ → PortParty) → Type 0
MakesNext (party.Publisher lane) access after = PublisherActs (party.Publisher lane) access after
MakesNext (party.Subscriber lane) access after = SubscriberActs (party.Subscriber lane) access after

-- The words of a service as a table of lanes.
abbrev pub as_table : Service → List ℕ → TableWords
as_table s words = record { sizes = s.sizes; words = words }

-- No write position is 2^64 - 1, the largest value of a word.
abbrev pub IsEarly : TableWords → Type 0
IsEarly table = (connection : ℕ) (ring : ConnectionRing) → connection < table.sizes.connections
    → held_by table (Ring connection ring Write) < 2 ^ 64 - 1

-- The publisher at this place of the lanes is this one, whenever its call began.
abbrev pub HasPublisher : World → ℕ → PublisherLaneState → Type 0
HasPublisher m place lane = (first : ℕ) × (slice_get m.publishers place ≡ Some (record lane { first = first }))

-- The subscriber at this place of the lanes is this one, whenever its call began.
abbrev pub HasSubscriber : World → ℕ → SubscriberLaneState → Type 0
HasSubscriber m place lane = (first : ℕ) × (slice_get m.subscribers place ≡ Some (record lane { first = first }))

-- The lanes have this party.
abbrev pub HasParty : World → Party → PortParty → Type 0
HasParty m (Publisher place) (party.Publisher lane) = HasPublisher m place lane
HasParty m (Publisher place) (party.Subscriber lane) = ⊥
HasParty m (Subscriber place) (party.Publisher lane) = ⊥
HasParty m (Subscriber place) (party.Subscriber lane) = HasSubscriber m place lane

-- The port has loaded this word of a sample: it still holds the sample, and the word has the value that the port knows.
pub record IsSeen (s : Service) (words : List ℕ) (p : Port) (w : SharedWord) : Type 0 where
  pub word : IsWord s.sizes w
  pub sample : is_of_sample p.party w ≡ true
  pub known : held s p.known w ≡ held s words w

-- A link as a connection of the service.
abbrev pub line_of : LinkState → Line
line_of link = record { publisher = link.publisher; subscriber = link.subscriber; kind = link.kind; limit = link.limit }

-- Some lanes have these words and connections, and each port as its last step on a shared word left it. The words, ports and slots of the
-- lanes agree (`HoldTogether`), and each connection has enough cells for all samples that may come back. Each word that a port has loaded
-- of a sample that it holds has the value that the port knows.
pub record StandBehind (s : Service) (words : List ℕ) (all : List Port) : Type 0 where
  pub lanes : World
  pub together : HoldTogether lanes
  pub rooms : RoomsKept lanes
  pub few : lanes.moments < 2 ^ 63
  pub table : lanes.table ≡ as_table s words
  pub lines : s.lines ≡ map line_of lanes.links
  pub ports : (number : ℕ) (p : Port) → get_elem? all number ≡ some p → HasParty lanes p.name p.party
  pub seen : (number : ℕ) (p : Port) → get_elem? all number ≡ some p → All (IsSeen s words p) p.seen

-- Words and ports are those of some lanes (`StandBehind`), as long as no write position is 2^64 - 1.
abbrev pub IsBacked : Service → List ℕ → List Port → Type 0
IsBacked s words all = IsEarly (as_table s words) → StandBehind s words all

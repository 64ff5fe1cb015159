-- Lanes as a service that threads share: its connections and slots, and what each port knows at first.
use Rattle.std.specs.Prelude.{ℕ, ◌≡◌, ◌+◌, List, [], ◌∷◌, ◌++◌, map, length}
use Rattle.atomic_table.specs.Seated.{TableId}
use Rattle.atomic_table.specs.Table.{Me}
use Rattle.iox_lanes_machine.specs.LanesParties.Parties.{PublisherLaneState, SubscriberLaneState}
use Rattle.iox_lanes_machine.specs.LanesParties.declared.call.Party.{Party}
use Rattle.iox_lanes_machine.specs.LanesParties.declared.call.Party.TheVariants.{Publisher, Subscriber}
use Rattle.iox_lanes_machine.specs.World.{World}
use Rattle.iox_lanes_threads_ports.specs.LanesThreadsRule.Lanes.{line_of, IsBacked}
use Rattle.iox_lanes_threads_ports.specs.LanesThreadsRule.Rule.{Fits}
use Rattle.iox_lanes_threads_ports.specs.LanesThreadsRule.Seats.{waits}
use Rattle.iox_lanes_threads_ports.specs.LanesThreadsRule.declared.service.Service.{Service}
use Rattle.iox_lanes_threads_ports.specs.LanesThreadsRule.declared.service.SlotRange.{SlotRange}
use Rattle.iox_lanes_threads_ports.specs.LanesThreadsRule.declared.view.Port.{Port}
use Rattle.iox_lanes_threads_ports.specs.LanesThreadsRule.declared.view.PortParty.{PortParty}
use Rattle.iox_lanes_threads_ports.specs.LanesThreadsRule.declared.view.PortParty.TheVariants as party
use Rattle.iox_lanes_threads_ports.specs.LanesThreadsRule.declared.view.View.{View}

-- The slots of a publisher.
abbrev pub range_of : PublisherLaneState → SlotRange
range_of lane = record { first = lane.port.book.first; count = length lane.port.book.loans }

-- The service whose connections and slots these lanes have.
abbrev pub service_of : World → Service
service_of m = record { sizes = m.table.sizes; lines = map line_of m.links; ranges = map range_of m.publishers }

-- A port that knows what each word of the lanes contains, and has made no access yet.
abbrev pub opened : World → ℕ → Party → PortParty → Port
opened m number name own = record {
  number = number;
  name = name;
  service = service_of m;
  known = m.table.words;
  accesses = 0;
  party = own;
  seen = [];
}

-- These publishers as ports, the first of them at this place.
abbrev pub publishers_from : World → ℕ → List PublisherLaneState → List Port
publishers_from m place [] = []
publishers_from m place (lane ∷ lanes) = opened m place (Publisher place) (party.Publisher lane) ∷ publishers_from m (place + 1) lanes

-- These subscribers as ports, the first of them at this place; they are numbered after all publishers.
abbrev pub subscribers_from : World → ℕ → List SubscriberLaneState → List Port
subscribers_from m place [] = []
subscribers_from m place (lane ∷ lanes) = opened m (length m.publishers + place) (Subscriber place) (party.Subscriber lane)
    ∷ subscribers_from m (place + 1) lanes

-- All ports of the lanes, the publishers first.
abbrev pub ports_of : World → List Port
ports_of m = publishers_from m 0 m.publishers ++ subscribers_from m 0 m.subscribers

-- The first view of the lanes' words, in which all ports wait.
abbrev pub first_view : World → View
first_view m = waits 0 (ports_of m)

-- The words and the ports of the lanes fit (`Fits`), and are those of some lanes (`IsBacked`).
abbrev pub Fitting : World → Type 0
Fitting m = Fits (service_of m) m.table.words (ports_of m) × IsBacked (service_of m) m.table.words (ports_of m)

-- `me` is the seat at which these ports wait, the first of them with number `from`, and the table has as many words as the lanes.
pub record WaitsFor (m : World) (table : TableId) (me : Me ℕ View) (from : ℕ) (ports : List Port) : Type 0 where
  pub words : table.words ≡ length m.table.words
  pub me_is : me ≡ (waits from ports, [])

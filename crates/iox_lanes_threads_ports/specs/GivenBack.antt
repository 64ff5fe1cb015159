-- How many samples come back in one call of a publisher.
use Rattle.std.specs.Prelude.{ℕ, ◌<◌, ◌≤◌, length}
use Rattle.iox_lanes_machine.specs.LanesParties.Parties.{PublisherLaneState}
use Rattle.iox_lanes_threads_rule.specs.declared.view.Port.{Port}
use Rattle.iox_lanes_threads_ports.specs.Courses.{PublisherGoes}
use Rattle.iox_lanes_threads_ports.specs.Pace.{HasNotLoaded}
use Rattle.iox_lanes_threads_ports.specs.Paces.{taken_in, AreLoadedEarly}
use Rattle.iox_lanes_threads_ports.specs.Ports.{PublisherStands}

-- After any steps of a call that begins, no more samples were taken back at a connection than its completion ring has cells, provided that
-- no write position was 2^64 - 1 when these steps loaded a word.
abbrev pub NoMoreComesBack : Type 0
NoMoreComesBack = (p : Port) (lane : PublisherLaneState) (q : Port) (now : PublisherLaneState) (steps : PublisherGoes p lane q now)
    → PublisherStands p lane → HasNotLoaded lane.port.call → AreLoadedEarly steps
    → (place : ℕ) → place < length lane.port.routes → taken_in steps place ≤ p.service.sizes.completion_cells

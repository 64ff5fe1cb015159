use Rattle.iox_lanes_threads_rule.specs.Acts.{port_of}
use Rattle.iox_lanes_threads_ports.proofs.ahead.access_ahead.Given as goal

abbrev pub ghosts-access_as : goal.ghosts-access_as
ghosts-access_as g a = record { port = port_of a.seat.now.me; after = g.L.Ahead.kind.party (g.L.Ahead.kind.called a.call a.lane.now) }

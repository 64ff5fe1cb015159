-- The connections that each publisher has are those of its sends.
use Rattle.iox_lanes_machine.specs.Sends.{AllSendsPut, AreConnected}
use Rattle.iox_lanes_machine.specs.World.{World}

pub sends_connected : (m : World) → AllSendsPut m → AreConnected m
sends_connected m sends who lane found = (sends who lane found).connections

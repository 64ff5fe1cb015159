-- Every step keeps who has which slot.
use Rattle.std.proofs.Common.{◌≡◌, ◌<◌, ◌^◌, true, slice_get, refl}
use Rattle.iox_lanes_machine.specs.LanesParties.declared.call.Move.{Move}
use Rattle.iox_lanes_machine.specs.LanesParties.declared.call.Move.TheVariants.{Begin, GoOn}
use Rattle.iox_lanes_machine.specs.LanesParties.declared.call.Party.{Party}
use Rattle.iox_lanes_machine.specs.LanesParties.declared.call.Party.TheVariants.{Publisher, Subscriber}
use Rattle.iox_lanes_machine.specs.Kept.{IsWithin, AreKept}
use Rattle.iox_lanes_machine.specs.Returns.{ReturnsKept, AreReturning}
use Rattle.iox_lanes_machine.specs.Sends.{AreConnected}
use Rattle.iox_lanes_machine.specs.Slots.{LoansStand}
use Rattle.iox_lanes_machine.specs.Uses.{UsesKept}
use Rattle.iox_lanes_machine.specs.World.{World, fits, happens}
use Rattle.iox_lanes_machine.proofs.PublisherUses.{begun_publisher, gone_publisher}
use Rattle.iox_lanes_machine.proofs.SubscriberUses.{begun_subscriber, gone_subscriber}

pub happens_uses : (m : World) (party : Party) (step : Move) → fits m party step ≡ true → m.moments < 2 ^ 63 → IsWithin m → AreKept m
    → ReturnsKept m → AreReturning m → AreConnected m → LoansStand m → UsesKept m → UsesKept (happens m party step)
happens_uses m (Publisher place) (Begin c) fit bound w k r b s l u = begun_publisher m place c (slice_get m.publishers place) refl fit u
happens_uses m (Subscriber place) (Begin c) fit bound w k r b s l u = begun_subscriber m place c (slice_get m.subscribers place) refl fit u
happens_uses m (Publisher place) GoOn fit bound w k r b s l u
    = gone_publisher m place (slice_get m.publishers place) refl fit bound w k r b s l u
happens_uses m (Subscriber place) GoOn fit bound w k r b s l u
    = gone_subscriber m place (slice_get m.subscribers place) refl fit bound w k r b s l u

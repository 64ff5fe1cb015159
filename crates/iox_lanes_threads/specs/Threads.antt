-- What opening lanes gives, and when it is refused.
use Rattle.std.specs.Prelude.{ℕ, ◌≡◌, ◌<◌, ◌^◌, length}
use Rattle.iox_lanes_machine.specs.Resting.{AllBetween, NoneOut}
use Rattle.iox_lanes_machine.specs.World.{World}
use Rattle.iox_lanes_threads.specs.Ports.{MayOpen, opened_publishers, opened_subscribers}
use Rattle.iox_lanes_threads.specs.declared.errors.OpenError.{OpenError}
use Rattle.iox_lanes_threads.specs.declared.errors.OpenError.TheVariants as open_error
use Rattle.iox_lanes_threads.specs.declared.threads.LaneThreads.{LaneThreads}

-- The reason why lanes aren't opened: the first that applies, in the order of the cases.
abbrev pub RefusesToOpen : OpenError → World → Type 0
RefusesToOpen open_error.PartyInCall m = AllBetween m → ⊥
RefusesToOpen open_error.SamplesOut m = AllBetween m × (NoneOut m → ⊥)
RefusesToOpen open_error.TooManySteps m = AllBetween m × NoneOut m × (2 ^ 63 < m.moments)
RefusesToOpen open_error.OutOfMemory m = MayOpen m

-- The threads are these lanes, opened on a board with this number: they have each port of the lanes, and each port knows what each word
-- contains.
pub record OpenedAs (board : ℕ) (m : World) (threads : LaneThreads) : Type 0 where
  pub number : threads.board.number ≡ board
  pub publishers_are : threads.publishers.items ≡ opened_publishers board threads.board.table m 0 m.publishers
  pub subscribers_are : threads.subscribers.items ≡ opened_subscribers board threads.board.table m 0 m.subscribers
  pub publishers_many : threads.board.publishers ≡ length m.publishers
  pub subscribers_many : threads.board.subscribers ≡ length m.subscribers

-- What opening the lanes of a domain for threads gives.
use Rattle.std.specs.Prelude.{ℕ, ◌≡◌, List}
use Rattle.iox_domain.specs.declared.domain.Domain.{Domain}
use Rattle.iox_lanes_machine.specs.World.{World}
use Rattle.iox_lanes_threads.specs.Threads.{OpenedAs}
use Rattle.iox_lanes_threads.specs.declared.threads.LaneThreads.{LaneThreads}
use Rattle.iox_lanes.specs.declared.threads.threads.DomainThreads.{DomainThreads}

-- The ports with the board of the lanes, without the domain.
abbrev pub threads_of : {T U B D : Type 0} → DomainThreads T U B D → LaneThreads
threads_of threads = record { board = threads.board.board; publishers = threads.publishers; subscribers = threads.subscribers }

-- The lanes are opened on a board with this number, which keeps the domain as it was, and the numbers of its publishers and subscribers.
pub record IsOpened {T U B D : Type 0} (board : ℕ) (lanes : World) (domain : Domain T U B D) (senders receivers : List ℕ)
    (threads : DomainThreads T U B D) : Type 0 where
  pub threads_are : OpenedAs board lanes (threads_of threads)
  pub domain_is : threads.board.domain ≡ domain
  pub publishers_are : threads.board.publishers ≡ senders
  pub subscribers_are : threads.board.subscribers ≡ receivers

-- What a board gives back whose ports are lost.
use Rattle.std.specs.Prelude.{ℕ, ◌≡◌, true, List}
use Rattle.iox_domain.specs.declared.domain.Domain.{Domain}
use Rattle.iox_lanes_threads.specs.Ending.{has_publisher, has_subscriber, knows_publishers, knows_subscribers}
use Rattle.iox_lanes_threads.specs.Ports.{BoardPublisher, BoardSubscriber}
use Rattle.iox_lanes.specs.Boards.{DomainBoardState}
use Rattle.iox_lanes.specs.Emptied.{IsEnded}
use Rattle.iox_lanes.specs.Missing.{missing}

-- The board knows all of these ports by its number.
abbrev pub AreOfBoard : {T U B D : Type 0} → DomainBoardState T U B D → List BoardPublisher → List BoardSubscriber → Type 0
AreOfBoard board ps ss = (knows_publishers board.board ps ≡ true) × (knows_subscribers board.board ss ≡ true)

-- A board is abandoned with these ports: its domain has no messages, and each publisher whose port came back goes on after the last
-- sequence number of its port. `publishers` and `subscribers` are the numbers, in the domain, of the ports that didn't come back.
pub record IsAbandoned {T U B D : Type 0} (board : DomainBoardState T U B D) (ps : List BoardPublisher) (ss : List BoardSubscriber)
    (domain : Domain T U B D) (publishers subscribers : List ℕ) : Type 0 where
  pub emptied : IsEnded board.publishers ps board.domain domain
  pub publishers_are : publishers ≡ missing (λ place. has_publisher board.board place ps) 0 board.publishers
  pub subscribers_are : subscribers ≡ missing (λ place. has_subscriber board.board place ss) 0 board.subscribers

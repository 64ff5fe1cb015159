-- The ports of a board, by their ids in the domain.
use Rattle.std.specs.Prelude.{ℕ, ◌==◌, ◌&&◌, Bool, false, slice_get, Option, None, Some}
use Rattle.iox_lanes_threads.specs.Ports.{BoardPublisher, BoardSubscriber}
use Rattle.iox_lanes.specs.Boards.{DomainBoardState}

-- The id of a port is known, and it is this one.
abbrev pub is_id : Option ℕ → ℕ → Bool
is_id None id = false
is_id (Some own) id = own == id

-- The publisher has the board's number, and this id in the domain.
abbrev pub has_publisher_id : {T U B D : Type 0} → DomainBoardState T U B D → ℕ → BoardPublisher → Bool
has_publisher_id board id p = (p.board == board.board.number) && is_id (slice_get board.publishers p.place) id

-- The subscriber has the board's number, and this id in the domain.
abbrev pub has_subscriber_id : {T U B D : Type 0} → DomainBoardState T U B D → ℕ → BoardSubscriber → Bool
has_subscriber_id board id p = (p.board == board.board.number) && is_id (slice_get board.subscribers p.place) id

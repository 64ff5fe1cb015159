-- Boards of a domain's ports in threads.
use Rattle.std.specs.Prelude.{ℕ, List}
use Rattle.iox_domain.specs.declared.domain.Domain.{Domain}
use Rattle.iox_lanes_threads.specs.Ports.{BoardState}

-- A board of a domain: the board of its lanes, the domain as it was when the lanes began, and the numbers of its publishers and of its
-- subscribers by place.
pub record DomainBoardState (T U B D : Type 0) : Type 0 where
  pub board : BoardState
  pub domain : Domain T U B D
  pub publishers : List ℕ
  pub subscribers : List ℕ

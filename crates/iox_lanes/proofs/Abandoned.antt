-- What a board gives back is that of the parts that it is taken apart into.
use Rattle.std.proofs.Common.{ℕ, ◌≡◌, List, ◌∙◌, ap, subst}
use Rattle.iox_domain.specs.declared.domain.Domain.{Domain}
use Rattle.iox_lanes_threads.specs.Ending.{has_publisher, has_subscriber}
use Rattle.iox_lanes_threads.specs.Ports.{BoardPublisher, BoardSubscriber, BoardState}
use Rattle.iox_lanes.specs.Abandoned.{IsAbandoned}
use Rattle.iox_lanes.specs.Boards.{DomainBoardState}
use Rattle.iox_lanes.specs.Emptied.{IsEnded}
use Rattle.iox_lanes.specs.Missing.{missing}

pub abandoned : {T U B D : Type 0} (board : DomainBoardState T U B D) (ps : List BoardPublisher) (ss : List BoardSubscriber)
    (own : BoardState) (domain new : Domain T U B D) (senders receivers publishers subscribers : List ℕ)
    → own ≡ board.board → domain ≡ board.domain → senders ≡ board.publishers → receivers ≡ board.subscribers
    → IsEnded senders ps domain new
    → publishers ≡ missing (λ place. has_publisher own place ps) 0 senders
    → subscribers ≡ missing (λ place. has_subscriber own place ss) 0 receivers
    → IsAbandoned board ps ss new publishers subscribers
abandoned {T} {U} {B} {D} board ps ss own domain new senders receivers publishers subscribers o d s r ended first second = record {
  emptied = subst (λ (n : List ℕ). IsEnded n ps board.domain new) s (subst (λ (x : Domain T U B D). IsEnded senders ps x new) d ended);
  publishers_are = first ∙ ap (λ (b : BoardState). missing (λ place. has_publisher b place ps) 0 senders) o
      ∙ ap (λ (n : List ℕ). missing (λ place. has_publisher board.board place ps) 0 n) s;
  subscribers_are = second ∙ ap (λ (b : BoardState). missing (λ place. has_subscriber b place ss) 0 receivers) o
      ∙ ap (λ (n : List ℕ). missing (λ place. has_subscriber board.board place ss) 0 n) r;
}

use Rattle.std.proofs.Common.{◌≡◌, List, sym, subst}
use Rattle.std.specs.List.{All}
use Rattle.iox_lanes_threads.specs.Ports.{BoardPublisher, BoardSubscriber}
use Rattle.iox_lanes_threads.proofs.Owning.{publishers_own, subscribers_own}
use Rattle.iox_lanes_threads.proofs.opening.open_threads.Goals as goal

pub returns-in-Ok-clause-own : goal.returns-in-Ok-clause-own
returns-in-Ok-clause-own c =
    let b = c.seat.result.board in (
      subst (λ (ps : List BoardPublisher). All (λ (p : BoardPublisher). p.board ≡ b.number → p.own.table ≡ b.table) ps)
          (sym c.seat.ensures.publishers_are) (publishers_own b.number c.args.board b.table c.args.lanes 0 c.args.lanes.publishers),
      subst (λ (ss : List BoardSubscriber). All (λ (s : BoardSubscriber). s.board ≡ b.number → s.own.table ≡ b.table) ss)
          (sym c.seat.ensures.subscribers_are) (subscribers_own b.number c.args.board b.table c.args.lanes 0 c.args.lanes.subscribers),
    )

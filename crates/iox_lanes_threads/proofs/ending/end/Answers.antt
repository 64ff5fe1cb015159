use Rattle.std.proofs.Common.{◌≡◌, true, List, ◌++◌, map, sym, subst, ap, ◌∙◌}
use Rattle.std.specs.List.{All}
use Rattle.iox_lanes_threads_ports.specs.LanesThreadsRule.Gathered.{Agree}
use Rattle.iox_lanes_threads_ports.specs.LanesThreadsRule.declared.view.Port.{Port}
use Rattle.iox_lanes_threads.specs.Ending.{knows_publishers, knows_subscribers}
use Rattle.iox_lanes_threads.specs.Ports.{BoardPublisher, BoardSubscriber, BoardState}
use Rattle.iox_lanes_threads.proofs.Owning.{all_own}
use Rattle.iox_lanes_threads.proofs.ending.end.Goals as goal

pub returns-clause-agree : goal.returns-clause-agree
returns-clause-agree c =
    subst Agree
    (c.gather_subscribers-subscribers.ensures.home
    ∙ ap (λ (ports : List Port). ports ++ map (λ (s : BoardSubscriber). s.own.port) c.args.subscribers.items)
    (c.gather_publishers-publishers.ensures.home
    ∙ ap (λ (ports : List Port). ports ++ map (λ (p : BoardPublisher). p.own.port) c.args.publishers.items) c.board.invariant.6))
    c.agree.ensures.agree

pub gather_publishers-publishers-requires-clause-tables : goal.gather_publishers-publishers-requires-clause-tables
gather_publishers-publishers-requires-clause-tables c =
    subst (λ (b : BoardState). All (λ (p : BoardPublisher). p.own.table ≡ b.table) c.args.publishers.items) (sym c.board.view_is)
    (all_own c.args.board.number c.args.board.table (λ (p : BoardPublisher). p.board) (λ (p : BoardPublisher). p.own.table)
    c.args.publishers.items c.requires.publishers
    (subst (λ (ps : List BoardPublisher). knows_publishers c.args.board ps ≡ true) c.deref.ensures.value
    (c.are_all.ensures.all c.if-not-are_all.false).publishers_known))

pub gather_subscribers-subscribers-requires-clause-tables : goal.gather_subscribers-subscribers-requires-clause-tables
gather_subscribers-subscribers-requires-clause-tables c =
    subst (λ (b : BoardState). All (λ (s : BoardSubscriber). s.own.table ≡ b.table) c.args.subscribers.items) (sym c.board.view_is)
    (all_own c.args.board.number c.args.board.table (λ (s : BoardSubscriber). s.board) (λ (s : BoardSubscriber). s.own.table)
    c.args.subscribers.items c.requires.subscribers
    (subst (λ (ss : List BoardSubscriber). knows_subscribers c.args.board ss ≡ true) c.deref-2.ensures.value
    (c.are_all.ensures.all c.if-not-are_all.false).subscribers_known))

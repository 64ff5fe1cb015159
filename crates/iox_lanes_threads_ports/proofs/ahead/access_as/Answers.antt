use Rattle.std.proofs.Common.{ℕ, sym, subst}
use Rattle.iox_lanes_machine.specs.LanesBase.declared.words.access.SharedAccess.{SharedAccess}
use Rattle.iox_lanes_threads_rule.specs.Acts.{MayAct}
use Rattle.iox_lanes_threads_rule.specs.Lanes.{MakesNext}
use Rattle.iox_lanes_threads_rule.specs.declared.view.PortParty.{PortParty}
use Rattle.iox_lanes_threads_ports.proofs.ahead.access_as.Goals as goal

pub act-requires-clause-may : goal.act-requires-clause-may
act-requires-clause-may g c =
    subst (λ (access : SharedAccess). MayAct g.M.Doing.port access) c.requires.next
    (c.goes_ahead.ensures.may g.M.Doing.port c.args.call c.args.lane.now c.requires.stands)

pub act-requires-clause-next : goal.act-requires-clause-next
act-requires-clause-next g c =
    subst (λ (access : SharedAccess). MakesNext g.M.Doing.port.party access g.M.Doing.after) c.requires.next
    (subst (λ (after : ℕ → PortParty). MakesNext g.M.Doing.port.party (g.L.Ahead.kind.next c.args.call) after) (sym c.requires.after)
    (c.goes_ahead.ensures.makes g.M.Doing.port c.args.call c.args.lane.now c.requires.stands))

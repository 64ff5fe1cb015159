use Rattle.iox_lanes_sound.proofs.Strays as lemmas
use Rattle.iox_lanes_sound.proofs.refused_where_ports_lag.Goals as goal

pub returns : goal.returns
returns g c = lemmas.refused_where_ports_lag g.B.FixedDecision.decision g.D.AsksCaller.asks c.args.domain.now c.requires.without
    c.requires.told

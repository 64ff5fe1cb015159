use Rattle.iox_lanes_sound.proofs.Having.{have_messages}
use Rattle.iox_lanes_sound.proofs.lanes_have_messages.Goals as goal

pub returns : goal.returns
returns g c = λ names lent held buffer service stands back.
    have_messages g.B.FixedDecision.decision g.D.AsksCaller.asks g.T.Words.parts g.U.Words.parts g.T.Words.of_parts g.T.Words.WORDS
    g.U.Words.WORDS g.met.T.Words.as_many
    c.args.opened.now.domain c.requires.none c.args.opened.now.lanes.lanes c.requires.came c.args.opened.now.publishers.items
    c.args.opened.now.subscribers.items c.args.opened.now.connections.items c.requires.holds back names lent held buffer service stands

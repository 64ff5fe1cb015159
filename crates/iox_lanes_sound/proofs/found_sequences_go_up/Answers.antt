use Rattle.std.proofs.Common.{sym, subst}
use Rattle.iox_lanes_sound.proofs.Sequences.{found_go_up}
use Rattle.iox_lanes_sound.proofs.found_sequences_go_up.Goals as goal
use Rattle.iox_lanes_sound.specs.Sequences.{SequencesFound}

pub returns : goal.returns
returns g c = λ wait.
    subst (λ messages. SequencesFound c.args.opened.now.lanes.lanes messages) (sym c.requires.messages)
    (found_go_up g.B.FixedDecision.decision g.D.AsksCaller.asks g.T.Words.parts g.U.Words.parts g.T.Words.WORDS g.U.Words.WORDS
    c.args.opened.now.domain c.requires.none c.args.opened.now.lanes.lanes c.requires.came c.args.opened.now.publishers.items
    c.args.opened.now.subscribers.items c.args.opened.now.connections.items c.requires.holds wait)

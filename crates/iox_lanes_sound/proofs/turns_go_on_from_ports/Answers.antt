use Rattle.iox_lanes_service.proofs.Chaining.{turns_are_runs}
use Rattle.iox_lanes_sound.proofs.Lanes.{stand}
use Rattle.iox_lanes_sound.proofs.turns_go_on_from_ports.Goals as goal
use Rattle.iox_lanes_sound.specs.Having.{lane_names}
use Rattle.iox_lanes_sound.specs.Lanes.{begun_numbers}
use Rattle.iox_machine.specs.Choices.{chosen_by}

pub returns : goal.returns
returns g c = λ handed types most_buffered names lent held buffer service stands roomy back chosen state calls n alone goes.
    turns_are_runs (chosen_by (λ value. g.T.Default.is_default value) (λ who. g.B.Decides.decides who)
    (λ who. g.B.Degrades.degrades who) (λ who. g.D.Degrades.degrades who) handed) g.T.Words.of_parts types most_buffered
    (begun_numbers (lane_names names c.args.opened.now.domain.state.ports.sizes.sequence_numbers c.args.opened.now.publishers.items
    c.args.opened.now.subscribers.items c.args.opened.now.lanes.lanes)) c.args.opened.now.lanes.lanes n service state calls
    (stand g.H.FixedDecision.decision g.K.AsksCaller.asks g.T.Words.parts g.U.Words.parts g.T.Words.of_parts g.T.Words.WORDS
    g.U.Words.WORDS g.met.T.Words.as_many
    c.args.opened.now.domain c.requires.none c.args.opened.now.lanes.lanes c.requires.came c.args.opened.now.publishers.items
    c.args.opened.now.subscribers.items c.args.opened.now.connections.items c.requires.holds back names lent held buffer service stands
    roomy c.requires.between c.requires.sized c.requires.fails
    (chosen_by (λ value. g.T.Default.is_default value) (λ who. g.B.Decides.decides who) (λ who. g.B.Degrades.degrades who)
    (λ who. g.D.Degrades.degrades who) handed) chosen)
    (record { loans = λ index entry is. absurd (cc is); samples = λ index entry is. absurd (cc is) }) alone c.requires.slots goes

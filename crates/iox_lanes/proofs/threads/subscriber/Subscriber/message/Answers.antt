use Rattle.std.proofs.Common.{sym, ◌∙◌, ap}
use Rattle.iox_lanes.specs.Typed.{TypedSubscriber}
use Rattle.iox_lanes.proofs.ReadWhole.{read_whole}
use Rattle.iox_lanes.proofs.threads.subscriber.Subscriber.message.Goals as goal

pub returns-clause-reads : goal.returns-clause-reads
returns-clause-reads g c = read_whole g.T.Words.of_parts g.U.Words.of_parts g.T.Words.WORDS g.U.Words.WORDS c.args.self.now c.read.new.self
    c.args.sample.now c.slot.result c.read.result c.words.result.now c.message_in.result (sym c.took.ensures ∙ c.if-not-took.false)
    c.slot.ensures c.if-not-read.false c.read.ensures.call c.read.ensures.stood (c.read.ensures.has_read c.if-not-read.false)
    (c.read.ensures.stands c.if-not-read.false) (c.words.ensures ∙ ap (λ (s : TypedSubscriber). s.port.own.words) c.self.view_is)
    c.message_in.ensures.some

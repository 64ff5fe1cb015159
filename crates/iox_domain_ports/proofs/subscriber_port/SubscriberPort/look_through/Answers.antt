use Rattle.std.proofs.Common.{rules, arith, ◌∙◌}
use Rattle.iox_domain_ports.specs.Subscribing.{gives, has_data}
use Rattle.iox_domain_ports.proofs.Asking.{looked_none, looked_on, looked_past}
use Rattle.iox_domain_ports.proofs.First.{none_first}
use Rattle.iox_domain_ports.proofs.Unmet.{no_data_left, none_gives_left, one_of_all}
use Rattle.iox_domain_ports.proofs.subscriber_port.SubscriberPort.look_through.Goals as goal
use Rattle.iox_domain_ports.proofs.subscriber_port.SubscriberPort.look_through.Goals.{then-not-has+else-asked, else-not-has}

pub loop-key-init : goal.loop-key-init
loop-key-init g c = record {
  looked = looked_none c.args.self.now c.args.publishers.now c.args.met.count c.args.met.unread c.requires.unread;
  unmet = c.len-unmet.ensures.value;
}

pub loop-key-preserved : goal.loop-key-preserved
loop-key-preserved g c = record {
  looked = elim c.if-not-has.branch [
    | then-not-has+else-asked w ↦
        looked_on c.args.self.now c.args.publishers.now c.args.met.count c.loop-key.key c.loop-key.unread c.if-not-has.unread
        w.asked-asked.result.gives w.asked-asked.result.data c.loop-key.invariant.looked w.asked-asked.ensures.gives w.if-asked.false
        w.asked-asked.ensures.data (w.unread-is ∙ w.first_of-unread.ensures)
    | else-not-has w ↦
        looked_past c.args.self.now c.args.publishers.now c.args.met.count c.loop-key.key c.loop-key.unread c.if-not-has.unread
        c.loop-key.invariant.looked c.requires.met c.requires.all (c.has.ensures.there (search (rules, w.if-not-has.false)))
        w.unread-is
  ];
  unmet = c.unmet_behind-unmet.ensures;
}

pub returns-then-unmet-eq0-clause-giver : goal.returns-then-unmet-eq0-clause-giver
returns-then-unmet-eq0-clause-giver g c =
    none_first (gives c.args.self.now c.args.publishers.now) c.loop-key.key c.loop-key.invariant.looked.none
    (λ other past. none_gives_left c.args.self.now c.args.publishers.now c.loop-key.key other
    (omega (arith, c.loop-key.invariant.unmet)) past)

pub returns-then-unmet-eq0-clause-unread : goal.returns-then-unmet-eq0-clause-unread
returns-then-unmet-eq0-clause-unread g c = λ none.
    one_of_all (has_data c.args.self.now c.args.publishers.now) c.loop-key.key c.loop-key.unread c.loop-key.invariant.looked.below
    (λ other past. no_data_left c.args.self.now c.args.publishers.now c.loop-key.key other
    (omega (arith, c.loop-key.invariant.unmet)) past)

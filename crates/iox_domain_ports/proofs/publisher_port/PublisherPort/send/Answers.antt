use Rattle.std.proofs.Common.{rules, ◌≡◌, ◌∙◌, Some, ap}
use Rattle.iox_domain_values.specs.Sequences.{is_used_up}
use Rattle.iox_domain_ports.specs.MessagesSending.{place_in}
use Rattle.iox_domain_ports.specs.Sending.{begun_at, dropped_at, ready_loan}
use Rattle.iox_domain_ports.proofs.Asked.{sends_refused, sends_used_up, sends_sent, finishes_else}
use Rattle.iox_domain_ports.proofs.publisher_port.PublisherPort.send.Goals as goal

pub returns-in-Err-clause-sends : goal.returns-in-Err-clause-sends
returns-in-Err-clause-sends g c =
    let ready : ready_loan c.args.slot c.args.self.now ≡ Some (place_in c.args.slot c.args.self.now.sender.uses)
    = search (rules, c.is_ready.ensures.ready, c.if-not-is_ready.false) in
    let same : place_in c.args.slot c.update.new.self.sender.uses ≡ place_in c.args.slot c.args.self.now.sender.uses =
    ap (λ port. place_in c.args.slot port.sender.uses) c.update.ensures.only in
    sends_refused _ _ _ _ _ (place_in c.args.slot c.args.self.now.sender.uses) _ c.update.new.self _ c.update.result c.in-Err.failure
    ready (search (rules, c.if-not-self.false))
    (search (rules, c.if-is_used_up.false, c.is_used_up.ensures)) c.update.ensures.updates c.in-Err.is
    (c.drop_loan-in-Err.ensures ∙ ap (λ at. dropped_at at c.update.new.self) same)

pub returns-then-is_used_up-clause-sends : goal.returns-then-is_used_up-clause-sends
returns-then-is_used_up-clause-sends g c =
    let ready : ready_loan c.args.slot c.args.self.now ≡ Some (place_in c.args.slot c.args.self.now.sender.uses)
    = search (rules, c.is_ready.ensures.ready, c.if-not-is_ready.false) in
    sends_used_up _ _ _ _ _ (place_in c.args.slot c.args.self.now.sender.uses) _ _ ready (search (rules, c.if-not-self.false))
    (search (rules, c.if-is_used_up.true, c.is_used_up.ensures)) c.drop_loan-then-is_used_up.ensures

pub begin-requires-clause-left : goal.begin-requires-clause-left
begin-requires-clause-left g c =
    ap (λ port. is_used_up port.last_sequence) c.update.ensures.only ∙ search (rules, c.if-is_used_up.false, c.is_used_up.ensures)

pub returns-clause-sends : goal.returns-clause-sends
returns-clause-sends g c =
    let ready : ready_loan c.args.slot c.args.self.now ≡ Some (place_in c.args.slot c.args.self.now.sender.uses)
    = search (rules, c.is_ready.ensures.ready, c.if-not-is_ready.false) in
    let same : place_in c.args.slot c.update.new.self.sender.uses ≡ place_in c.args.slot c.args.self.now.sender.uses =
    ap (λ port. place_in c.args.slot port.sender.uses) c.update.ensures.only in
    sends_sent _ _ _ _ _ (place_in c.args.slot c.args.self.now.sender.uses) _ c.update.new.self c.begin.new.self _ c.update.result _
    c.deliver.result ready (search (rules, c.if-not-self.false))
    (search (rules, c.if-is_used_up.false, c.is_used_up.ensures)) c.update.ensures.updates c.in_default.is
    (c.begin.ensures.begun ∙ ap (λ at. begun_at at c.update.new.self) same) c.deliver.ensures.sends

pub returns-clause-enough : goal.returns-clause-enough
returns-clause-enough g c = λ room failure.
    finishes_else (g.B.Decides.decides c.args.handlers.now) c.begin.new.self c.deliver.new.self c.deliver.result c.deliver.ensures.sends
    failure

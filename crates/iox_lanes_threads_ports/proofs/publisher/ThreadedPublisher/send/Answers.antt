use Rattle.std.proofs.Common.{ℕ, is_some, sym, ap, subst, ◌∙◌}
use Rattle.iox_lanes_machine.specs.LanesBase.Numbers.{IsSmall}
use Rattle.iox_lanes_machine.specs.LanesParties.Parties.{head_of}
use Rattle.iox_lanes_machine.specs.LanesParties.declared.call.Call.TheVariants as call
use Rattle.iox_lanes_machine.specs.LanesParties.declared.call.Move.TheVariants.{Begin}
use Rattle.iox_lanes_threads_rule.specs.Acts.{port_of}
use Rattle.iox_lanes_threads_ports.specs.Known.{KnowsHead, KeepsPayload}
use Rattle.iox_lanes_threads_ports.specs.Paces.{send_steps}
use Rattle.iox_lanes_threads_ports.specs.Ports.{PublisherStands}
use Rattle.iox_lanes_threads_ports.specs.Values.{PublisherPort, PublisherDoes, Sends}
use Rattle.iox_lanes_threads_ports.proofs.KnownPushes.{send_sent}
use Rattle.iox_lanes_threads_ports.proofs.KnownSends.{send_known, send_called}
use Rattle.iox_lanes_threads_ports.proofs.OtherHeads.{calls_keep_heads}
use Rattle.iox_lanes_threads_ports.proofs.OtherLoans.{calls_keep_payloads}
use Rattle.iox_lanes_threads_ports.proofs.publisher.ThreadedPublisher.send.Goals as goal

pub returns-clause-call : goal.returns-clause-call
returns-clause-call g c =
    let was : PublisherPort
    = record { table = c.self.inside.seat.table_id; port = port_of c.self.inside.seat.me; lane = c.self.inside.lane } in
    let now : PublisherPort
    = record { table = c.does-answer.new.seat.table_id; port = port_of c.does-answer.new.seat.me; lane = c.does-answer.new.lane } in
    let done = subst (λ (most : ℕ). PublisherDoes most was.port was.lane (Begin (call.Send c.args.loan)) now.port now.lane
    c.does-answer.result) (c.send_steps-most.ensures ∙ ap send_steps (sym c.self.invariant.0.sizes_are)) c.does-answer.ensures.does in
    subst (λ (v : PublisherPort). Sends v c.args.loan now c.sent.result) c.self.view_is
    (subst (Sends was c.args.loan now) (sym c.sent.ensures)
    (send_called was now c.args.loan c.does-answer.result c.self.invariant.1 c.does-answer.ensures.table done))

pub returns-clause-slot : goal.returns-clause-slot
returns-clause-slot g c = λ e.
    subst (λ (v : PublisherPort). KnowsHead (port_of c.does-answer.new.seat.me) c.args.loan (head_of c.args.loan v.lane)
    × KeepsPayload v.port (port_of c.does-answer.new.seat.me) c.args.loan) c.self.view_is
    (send_known c.send_steps-most.result (port_of c.self.inside.seat.me) c.self.inside.lane c.args.loan
    (port_of c.does-answer.new.seat.me) c.does-answer.new.lane c.does-answer.result c.self.invariant.1 c.does-answer.ensures.does
    (sym (ap is_some c.sent.ensures) ∙ e))

pub returns-clause-sent : goal.returns-clause-sent
returns-clause-sent g c =
    let now : PublisherPort
    = record { table = c.does-answer.new.seat.table_id; port = port_of c.does-answer.new.seat.me; lane = c.does-answer.new.lane } in
    send_sent c.args.self.now now c.args.loan c.sent.result
    (subst (λ (v : PublisherPort). IsSmall v.port.service.sizes) c.self.view_is
    (subst IsSmall (sym c.self.invariant.0.sizes_are) c.self.invariant.0.small))
    (subst (λ (v : PublisherPort). PublisherStands v.port v.lane) c.self.view_is c.self.invariant.1) (returns-clause-call g c)

pub returns-clause-others : goal.returns-clause-others
returns-clause-others g c other there =
    let now : PublisherPort
    = record { table = c.does-answer.new.seat.table_id; port = port_of c.does-answer.new.seat.me; lane = c.does-answer.new.lane } in
    (calls_keep_payloads other c.args.self.now now
    (subst (λ (v : PublisherPort). PublisherStands v.port v.lane) c.self.view_is c.self.invariant.1) there).1 c.args.loan c.sent.result
    (returns-clause-call g c)

pub returns-clause-headers : goal.returns-clause-headers
returns-clause-headers g c other =
    let now : PublisherPort
    = record { table = c.does-answer.new.seat.table_id; port = port_of c.does-answer.new.seat.me; lane = c.does-answer.new.lane } in
    (calls_keep_heads other c.args.self.now now).1 c.args.loan c.sent.result (returns-clause-call g c)

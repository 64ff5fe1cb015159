use Rattle.std.proofs.Common.{ℕ, sym, ap, subst, ◌∙◌}
use Rattle.iox_lanes_machine.specs.LanesParties.declared.call.Call.TheVariants as call
use Rattle.iox_lanes_machine.specs.LanesParties.declared.call.Move.TheVariants.{Begin}
use Rattle.iox_lanes_threads_rule.specs.Acts.{port_of}
use Rattle.iox_lanes_threads_ports.specs.Paces.{loan_steps}
use Rattle.iox_lanes_threads_ports.specs.Ports.{PublisherStands}
use Rattle.iox_lanes_threads_ports.specs.Values.{PublisherPort, PublisherDoes, Loans}
use Rattle.iox_lanes_threads_ports.proofs.KnownLoans.{loan_called}
use Rattle.iox_lanes_threads_ports.proofs.OtherHeads.{calls_keep_heads}
use Rattle.iox_lanes_threads_ports.proofs.OtherLoans.{calls_keep_payloads}
use Rattle.iox_lanes_threads_ports.proofs.publisher.ThreadedPublisher.loan_uninit.Goals as goal

pub returns-clause-call : goal.returns-clause-call
returns-clause-call g c =
    let was : PublisherPort
    = record { table = c.self.inside.seat.table_id; port = port_of c.self.inside.seat.me; lane = c.self.inside.lane } in
    let now : PublisherPort
    = record { table = c.does-answer.new.seat.table_id; port = port_of c.does-answer.new.seat.me; lane = c.does-answer.new.lane } in
    let done = subst (λ (most : ℕ). PublisherDoes most was.port was.lane (Begin call.LoanUninit) now.port now.lane c.does-answer.result)
    (c.loan_steps-most.ensures ∙ ap loan_steps (sym c.self.invariant.0.sizes_are)) c.does-answer.ensures.does in
    subst (λ (v : PublisherPort). Loans v now c.lent.result) c.self.view_is
    (subst (Loans was now) (sym c.lent.ensures)
    (loan_called was now c.does-answer.result c.self.invariant.1 c.does-answer.ensures.table done))

pub returns-clause-others : goal.returns-clause-others
returns-clause-others g c other there =
    let now : PublisherPort
    = record { table = c.does-answer.new.seat.table_id; port = port_of c.does-answer.new.seat.me; lane = c.does-answer.new.lane } in
    (calls_keep_payloads other c.args.self.now now
    (subst (λ (v : PublisherPort). PublisherStands v.port v.lane) c.self.view_is c.self.invariant.1) there).0 c.lent.result
    (returns-clause-call g c)

pub returns-clause-headers : goal.returns-clause-headers
returns-clause-headers g c other =
    let now : PublisherPort
    = record { table = c.does-answer.new.seat.table_id; port = port_of c.does-answer.new.seat.me; lane = c.does-answer.new.lane } in
    (calls_keep_heads other c.args.self.now now).0 c.lent.result (returns-clause-call g c)

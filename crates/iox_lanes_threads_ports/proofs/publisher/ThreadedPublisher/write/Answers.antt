use Rattle.std.proofs.Common.{ℕ, ◌≡◌, ◌<◌, refl, false, sym, ap, subst, ◌∙◌}
use Rattle.iox_lanes_machine.specs.LanesBase.declared.words.sizes.TableSizes.{TableSizes}
use Rattle.iox_lanes_threads_rule.specs.Acts.{port_of}
use Rattle.iox_lanes_threads_ports.specs.Known.{KeepsPayload}
use Rattle.iox_lanes_threads_ports.specs.Paces.{write_steps}
use Rattle.iox_lanes_threads_ports.specs.Ports.{PublisherStands}
use Rattle.iox_lanes_threads_ports.specs.Values.{PublisherPort, PublisherDoes, Writes}
use Rattle.iox_lanes_threads_ports.proofs.KnownWrites.{write_known, write_called, write_refused, write_keeps}
use Rattle.iox_lanes_threads_ports.proofs.OtherHeads.{calls_keep_heads}
use Rattle.iox_lanes_threads_ports.proofs.OtherLoans.{write_keeps_others}
use Rattle.iox_lanes_threads_ports.proofs.publisher.ThreadedPublisher.write.Goals as goal

pub invariant_of-self : goal.invariant_of-self
invariant_of-self g c = (c.self.invariant.0, c.self.invariant.1, (c.fill.ensures.refuses c.self.inside.sizes c.self.invariant.2).0)

pub invariant_of-self-2 : goal.invariant_of-self-2
invariant_of-self-2 g c
    = (c.does-answer.ensures.seat, c.does-answer.ensures.stands, (c.fill.ensures.refuses c.self.inside.sizes c.self.invariant.2).0)

pub returns-then-not-fill-clause-call : goal.returns-then-not-fill-clause-call
returns-then-not-fill-clause-call g c =
    let was : PublisherPort
    = record { table = c.self.inside.seat.table_id; port = port_of c.self.inside.seat.me; lane = c.self.inside.lane } in
    let same = c.self.invariant.0.sizes_are in
    let off = write_refused was c.args.loan c.args.payload.now c.args.user_header.now c.self.invariant.1
    (λ a b. (c.fill.ensures.refuses c.self.inside.sizes c.self.invariant.2).1 c.if-not-fill.true
    (a ∙ ap (λ (z : TableSizes). z.payload_words) same) (b ∙ ap (λ (z : TableSizes). z.user_header_words) same)) in
    subst (λ (v : PublisherPort). Writes v c.args.loan c.args.payload.now c.args.user_header.now was false) c.self.view_is
    (off, (refl, refl, refl))

pub returns-clause-call : goal.returns-clause-call
returns-clause-call g c =
    let was : PublisherPort
    = record { table = c.self.inside.seat.table_id; port = port_of c.self.inside.seat.me; lane = c.self.inside.lane } in
    let now : PublisherPort
    = record { table = c.does-answer.new.seat.table_id; port = port_of c.does-answer.new.seat.me; lane = c.does-answer.new.lane } in
    let done = subst (λ (most : ℕ). PublisherDoes most was.port was.lane c.fill.new.asked now.port now.lane c.does-answer.result)
    (c.write_steps-most.ensures ∙ ap write_steps (sym c.self.invariant.0.sizes_are)) c.does-answer.ensures.does in
    subst (λ (v : PublisherPort). Writes v c.args.loan c.args.payload.now c.args.user_header.now now c.is_some.result) c.self.view_is
    (subst (Writes was c.args.loan c.args.payload.now c.args.user_header.now now) (sym c.is_some.ensures)
    (write_called was now c.args.loan c.args.payload.now c.args.user_header.now c.fill.new.asked c.does-answer.result c.self.invariant.1
    c.does-answer.ensures.table (c.fill.ensures.fills c.if-not-fill.false) done))

pub returns-clause-payload : goal.returns-clause-payload
returns-clause-payload g c = λ e.
    write_known c.write_steps-most.result (port_of c.self.inside.seat.me) c.self.inside.lane (port_of c.does-answer.new.seat.me)
    c.does-answer.new.lane c.args.loan c.args.payload.now c.args.user_header.now c.fill.new.asked c.does-answer.result
    c.self.invariant.1 (c.fill.ensures.fills c.if-not-fill.false) c.does-answer.ensures.does (sym c.is_some.ensures ∙ e)

pub returns-clause-header : goal.returns-clause-header
returns-clause-header g c = λ e.
    let now : PublisherPort
    = record { table = c.does-answer.new.seat.table_id; port = port_of c.does-answer.new.seat.me; lane = c.does-answer.new.lane } in
    write_keeps c.args.self.now now c.args.loan c.args.payload.now c.args.user_header.now c.is_some.result
    (subst (λ (v : PublisherPort). PublisherStands v.port v.lane) c.self.view_is c.self.invariant.1) (returns-clause-call g c) e

pub returns-clause-others : goal.returns-clause-others
returns-clause-others g c = λ e.
    subst (λ (v : PublisherPort). (other : ℕ) → (c.args.loan ≡ other → ⊥) → other < v.port.service.sizes.slots
    → KeepsPayload v.port (port_of c.does-answer.new.seat.me) other) c.self.view_is
    (write_keeps_others c.write_steps-most.result (port_of c.self.inside.seat.me) c.self.inside.lane (port_of c.does-answer.new.seat.me)
    c.does-answer.new.lane c.args.loan c.args.payload.now c.args.user_header.now c.fill.new.asked c.does-answer.result c.self.invariant.1
    (c.fill.ensures.fills c.if-not-fill.false) c.does-answer.ensures.does (sym c.is_some.ensures ∙ e))

pub returns-clause-headers : goal.returns-clause-headers
returns-clause-headers g c = λ e other apart out.
    let now : PublisherPort
    = record { table = c.does-answer.new.seat.table_id; port = port_of c.does-answer.new.seat.me; lane = c.does-answer.new.lane } in
    (calls_keep_heads other c.args.self.now now).3 c.args.loan c.args.payload.now c.args.user_header.now c.is_some.result
    (returns-clause-call g c) apart out

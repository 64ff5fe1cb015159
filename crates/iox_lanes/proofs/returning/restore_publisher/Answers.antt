use Rattle.std.proofs.Common.{◌≡◌, ◌*◌, slice_get, Some, ap, subst, sym, ◌∙◌}
use Rattle.std.specs.Option.{option_copied_mut}
use Rattle.iox_domain.specs.DomainPorts.Publishers.{port_of, with_port}
use Rattle.iox_lanes.specs.Joined.{row_of}
use Rattle.iox_lanes.specs.Returning.{IsPortLeftIf, JoinsAt}
use Rattle.iox_lanes.specs.Spelling.{reading_back}
use Rattle.iox_lanes.proofs.Numbers.{put_there, put_elsewhere}
use Rattle.iox_lanes.proofs.returning.restore_publisher.Goals as goal

pub returns-in-Some-clause-others : goal.returns-in-Some-clause-others
returns-in-Some-clause-others g c = λ other apart.
    let there : port_of c.args.number c.args.publishers.now ≡ Some c.in-Some.port.now
    = sym c.get_mut.ensures.value ∙ ap option_copied_mut c.in-Some.is in
    put_elsewhere c.args.number c.args.publishers.now c.in-Some.port.now c.restore_port.new.port there other apart

pub returns-in-Some-clause-this : goal.returns-in-Some-clause-this
returns-in-Some-clause-this g c = λ rest joins.
    let there : port_of c.args.number c.args.publishers.now ≡ Some c.in-Some.port.now
    = sym c.get_mut.ensures.value ∙ ap option_copied_mut c.in-Some.is in
    subst (λ old. IsPortLeftIf (reading_back c.args.left.now.numbered g.T.Words.of_parts g.U.Words.of_parts) c.args.left.now.lanes.now
    (c.args.place * c.args.left.now.readers)
    (row_of c.args.left.now.readers c.args.left.now.indices.now c.args.place)
    (slice_get c.args.left.now.lanes.now.publishers c.args.place) old
    (port_of c.args.number (with_port c.args.number c.args.publishers.now c.restore_port.new.port))) (sym there)
    (subst (λ new. IsPortLeftIf (reading_back c.args.left.now.numbered g.T.Words.of_parts g.U.Words.of_parts) c.args.left.now.lanes.now
    (c.args.place * c.args.left.now.readers)
    (row_of c.args.left.now.readers c.args.left.now.indices.now c.args.place) (slice_get c.args.left.now.lanes.now.publishers c.args.place)
    (Some c.in-Some.port.now) new)
    (sym (put_there c.args.number c.args.publishers.now c.in-Some.port.now c.restore_port.new.port there))
    (c.restore_port.ensures.left rest (subst
    (λ port. JoinsAt c.args.left.now.lanes.now port c.args.place c.args.left.now.readers c.args.left.now.indices.now)
    there joins)))

use Rattle.std.proofs.Common.{◌≡◌, Err, Some, ap, arith, refl}
use Rattle.std.proofs.lemmas.Grind.{common_steps}
use Rattle.iox_domain_ports.specs.Publishers.{AttachesTo}
use Rattle.iox_domain_ports.specs.declared.subscriber_port.SubscriberPort.{SubscriberPort}
use Rattle.iox_domain_ports.proofs.Lacking.{attach_refused}
use Rattle.iox_domain_ports.proofs.subscriber_port.SubscriberPort.connect.Goals as goal

pub returns-in-Some-Err : goal.returns-in-Some-Err
returns-in-Some-Err g c =
    let attaches : AttachesTo c.args.number c.args.self.now.number c.args.self.now.buffer_size c.args.publishers.now
    (Some (Err c.in-Some-Err.field-0-0)) c.attach.new.self =
    rw c.in-Some-Err.field-0-is at c.in-Some-Err.ensures in
    let refused = attach_refused c.args.place c.args.number c.args.self.now.number c.args.self.now.buffer_size c.args.self.now
    c.args.publishers.now c.attach.new.self c.in-Some-Err.field-0-0 refl attaches in
    let kept : c.cut.new.self ≡ c.args.self.now.places = grind (arith, common_steps) in
    let port : SubscriberPort = c.args.self.now in
    (refl, refused.0, ap (λ places. record port { places = places }) kept, refused.1)

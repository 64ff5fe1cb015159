use Rattle.std.proofs.Common.{◌≡◌, ap, ap₂, subst, ◌∙◌, Ok, Err}
use Rattle.iox_delivery_factories.specs.DescribeBase.Detail.{Detail, detail}
use Rattle.iox_delivery_factories.specs.DescribeBase.declared.type_detail.TypeVariant.TheVariants.{FixedSize}
use Rattle.iox_command.specs.DomainValues.declared.create_error.DomainError.TheVariants.{OutOfMemory}
use Rattle.iox_hub_base.specs.Hubs.{with_factory}
use Rattle.iox_hub_base.specs.Opening.{IsClosedAgain}
use Rattle.iox_hub_base.specs.ServicesOpening.{Opens}
use Rattle.iox_hub_base.proofs.hub.Hub.enter.Goals as goal

pub returns-in-Ok : goal.returns-in-Ok
returns-in-Ok g c =
    let payload : Detail = detail FixedSize g.T.ZeroCopySend.name g.T.ZeroCopySend.size g.T.ZeroCopySend.alignment in
    let user_header : Detail = detail FixedSize g.U.ZeroCopySend.name g.U.ZeroCopySend.size g.U.ZeroCopySend.alignment in
    let counts : c.one_more.result ≡ with_factory c.args.service.membership.service.number c.args.room.counts
    = c.one_more.ensures ∙ ap (λ number. with_factory number c.args.room.counts) c.number-number.ensures in (
      ap (λ owner. (c.args.service.membership, owner)) c.saturating_add-self.ensures,
      subst (λ number. Opens payload user_header c.args.self.now.expired_connection_buffer number
          c.args.service.membership.service.description.settings c.args.room.services (Ok tt) c.in-Ok.services)
          c.number-number.ensures
          (subst (λ description. Opens payload user_header c.args.self.now.expired_connection_buffer c.number-number.result
          description.settings c.args.room.services (Ok tt) c.in-Ok.services) c.description.ensures.value c.in-Ok.ensures),
      ap₂ (λ made kept. record c.args.self.now { factories = made; factory_counts = kept; services = c.in-Ok.services })
          c.saturating_add-self.ensures counts,
    )

pub returns-in-Err : goal.returns-in-Err
returns-in-Err g c =
    let payload : Detail = detail FixedSize g.T.ZeroCopySend.name g.T.ZeroCopySend.size g.T.ZeroCopySend.alignment in
    let user_header : Detail = detail FixedSize g.U.ZeroCopySend.name g.U.ZeroCopySend.size g.U.ZeroCopySend.alignment in
    let (lacking, shut, fits, still) = subst (λ number. Opens payload user_header c.args.self.now.expired_connection_buffer number
    c.args.service.membership.service.description.settings c.args.room.services (Err OutOfMemory) c.in-Err.services)
    c.number-number.ensures
    (subst (λ description. Opens payload user_header c.args.self.now.expired_connection_buffer c.number-number.result
    description.settings c.args.room.services (Err OutOfMemory) c.in-Err.services) c.description.ensures.value c.in-Err.ensures) in (
      c.give_back.ensures.was_new,
      (shut, fits),
      subst (λ hub. IsClosedAgain c.args.service.membership hub c.give_back.new.self)
          (ap₂ (λ counts services. record c.args.self.now { factory_counts = counts; services = services }) c.into_counts.ensures still)
          c.give_back.ensures.closed,
    )

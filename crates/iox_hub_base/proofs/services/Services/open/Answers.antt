use Rattle.std.proofs.Common.{Ok, subst}
use Rattle.iox_domain.specs.DescribeBase.Detail.{Detail, detail}
use Rattle.iox_domain.specs.DescribeBase.declared.type_detail.TypeVariant.TheVariants.{FixedSize}
use Rattle.iox_hub_base.specs.ServicesOpening.{Opens}
use Rattle.iox_hub_base.proofs.services.Services.open.Goals as goal

pub returns-in-Ok-open : goal.returns-in-Ok-open
returns-in-Ok-open g c =
    let payload : Detail = detail FixedSize g.T.ZeroCopySend.name g.T.ZeroCopySend.size g.T.ZeroCopySend.alignment in
    let user_header : Detail = detail FixedSize g.U.ZeroCopySend.name g.U.ZeroCopySend.size g.U.ZeroCopySend.alignment in
    subst (λ services. Opens payload user_header c.args.expired_connection_buffer c.args.number c.args.description.now.settings services
    (Ok tt) c.in-Ok-open.services) c.in-Ok.ensures.ok c.in-Ok-open.ensures

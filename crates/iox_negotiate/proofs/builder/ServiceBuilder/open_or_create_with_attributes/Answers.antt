use Rattle.iox_negotiate_base.specs.DescribeBase.Hash.{service_hash_of}
use Rattle.iox_negotiate_base.specs.DescribeSettings.Agreement.{agreement, AreWithinLimits, HasNoRoomForHistory}
use Rattle.iox_negotiate.proofs.Moving.{either-of}
use Rattle.iox_negotiate.proofs.builder.ServiceBuilder.open_or_create_with_attributes.Goals as goal

pub returns : goal.returns
returns g c =
    let p = g.P.Pattern in
    let asks = g.P.RequiredPattern in
    let agrees = g.P.AgreedPattern in
    let s = c.args.self in
    either-of _ _ asks.verdict _ _ _ _ _ _
    (λ r. agreement s.name (service_hash_of agrees.pattern s.name) (agrees.settings (p.adjusted (asks.asked r))) (asks.attributes r).pairs)
    (λ r. AreWithinLimits (agrees.settings (p.adjusted (asks.asked r))))
    (λ r. HasNoRoomForHistory (agrees.settings (p.adjusted (asks.asked r))))
    _ _ c.with_attributes.ensures c.opened_or_created.ensures

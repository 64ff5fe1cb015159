use Rattle.std.proofs.Common.{refl}
use Rattle.iox_hub_base.specs.ServicesOpening.{IsNewHere}
use Rattle.iox_hub_base.specs.declared.presence.Presence.TheVariants.{Here}
use Rattle.iox_hub_base.proofs.BoxedIn.{holds-boxed}
use Rattle.iox_hub_base.proofs.service_room.new_here.Goals as goal

pub returns : goal.returns
returns g c =
    holds-boxed (λ presence. IsNewHere c.args.id c.args.expired_connection_buffer c.args.description.now.settings presence)
    (Here c.in_ok-domain.domain) c.boxed.result c.boxed.ensures (c.in_ok-domain.domain, c.in_ok-domain.ensures, refl)

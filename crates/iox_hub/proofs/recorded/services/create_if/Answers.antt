use Rattle.std.proofs.Common.{refl, rules}
use Rattle.iox_hub.proofs.RecordedOpening.{created_there}
use Rattle.iox_hub_commands.specs.Asked.{types_of}
use Rattle.iox_hub_commands.specs.DescribeBase.Detail.{detail}
use Rattle.iox_hub_commands.specs.DescribeBase.declared.type_detail.TypeVariant.TheVariants.{FixedSize}
use Rattle.iox_hub_commands.specs.declared.services.made.MadeFactory.TheVariants as made_factory
use Rattle.iox_hub.proofs.recorded.services.create_if.Goals as goal

pub returns : goal.returns
returns g c =
    let (numbered, as_asked, here) = created_there (λ it. made_factory.PublishSubscribe it)
    (λ factory. (factory.service.membership, factory.owner)) (λ factory. refl) (λ factory. refl)
    (detail FixedSize g.T.ZeroCopySend.name g.T.ZeroCopySend.size g.T.ZeroCopySend.alignment)
    (detail FixedSize g.U.ZeroCopySend.name g.U.ZeroCopySend.size g.U.ZeroCopySend.alignment)
    (types_of g.T.ZeroCopySend.name g.T.ZeroCopySend.size g.T.ZeroCopySend.alignment g.U.ZeroCopySend.name g.U.ZeroCopySend.size
    g.U.ZeroCopySend.alignment) c.id.result c.args.node c.args.name c.args.asked.now c.of_hub-builder.result
    c.of_hub-builder.ensures c.args.hub.now c.creates.new.hub (search rules) c.args.attributes.now c.creates.result c.creates.ensures.opens
    c.creates.ensures.form in
    record { opens = numbered; agreed = as_asked; here = here }

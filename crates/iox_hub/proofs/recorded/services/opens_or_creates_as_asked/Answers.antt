use Rattle.std.proofs.Common.{[], subst}
use Rattle.std.specs.Result.{result_map_both}
use Rattle.iox_hub_base.specs.OfPattern.{EitherOfPattern}
use Rattle.iox_hub_base.specs.DescribeSettings.Agreement.{AreWithinLimits, HasNoRoomForHistory}
use Rattle.iox_hub_commands.specs.DescribeBase.Detail.{detail}
use Rattle.iox_hub_commands.specs.DescribeBase.declared.type_detail.TypeVariant.TheVariants.{FixedSize}
use Rattle.iox_hub.proofs.recorded.services.opens_or_creates_as_asked.Goals as goal

pub returns : goal.returns
returns g c = λ asked is.
    subst (λ it. EitherOfPattern
    (detail FixedSize g.T.ZeroCopySend.name g.T.ZeroCopySend.size g.T.ZeroCopySend.alignment)
    (detail FixedSize g.U.ZeroCopySend.name g.U.ZeroCopySend.size g.U.ZeroCopySend.alignment) g.P.AgreedPattern.pattern
    (g.P.AgreedPattern.settings (g.P.Pattern.adjusted (g.P.RequiredPattern.asked
    (g.P.RequiredPattern.with_attributes it c.args.attributes))))
    (AreWithinLimits (g.P.AgreedPattern.settings (g.P.Pattern.adjusted (g.P.RequiredPattern.asked
    (g.P.RequiredPattern.with_attributes it c.args.attributes)))))
    (HasNoRoomForHistory (g.P.AgreedPattern.settings (g.P.Pattern.adjusted (g.P.RequiredPattern.asked
    (g.P.RequiredPattern.with_attributes it c.args.attributes)))))
    (λ given. g.P.RequiredPattern.verdict (g.P.RequiredPattern.with_attributes it c.args.attributes) given)
    g.P.Negotiated.open_or_create_error c.args.builder.node c.args.builder.name
    (g.P.RequiredPattern.attributes (g.P.RequiredPattern.with_attributes it c.args.attributes)).pairs [] c.args.hub.now
    (result_map_both (λ factory. (factory.service.membership, factory.owner)) (λ error. error) c.open_or_create_with_attributes_in.result)
    c.open_or_create_with_attributes_in.new.hub) is
    (subst (λ it. EitherOfPattern
    (detail FixedSize g.T.ZeroCopySend.name g.T.ZeroCopySend.size g.T.ZeroCopySend.alignment)
    (detail FixedSize g.U.ZeroCopySend.name g.U.ZeroCopySend.size g.U.ZeroCopySend.alignment) g.P.AgreedPattern.pattern
    (g.P.AgreedPattern.settings (g.P.Pattern.adjusted (g.P.RequiredPattern.asked
    (g.P.RequiredPattern.with_attributes c.args.requirement c.args.attributes))))
    (AreWithinLimits (g.P.AgreedPattern.settings (g.P.Pattern.adjusted (g.P.RequiredPattern.asked
    (g.P.RequiredPattern.with_attributes c.args.requirement c.args.attributes)))))
    (HasNoRoomForHistory (g.P.AgreedPattern.settings (g.P.Pattern.adjusted (g.P.RequiredPattern.asked
    (g.P.RequiredPattern.with_attributes c.args.requirement c.args.attributes)))))
    (λ given. g.P.RequiredPattern.verdict (g.P.RequiredPattern.with_attributes c.args.requirement c.args.attributes) given)
    g.P.Negotiated.open_or_create_error c.args.builder.node c.args.builder.name
    (g.P.RequiredPattern.attributes (g.P.RequiredPattern.with_attributes c.args.requirement c.args.attributes)).pairs it c.args.hub.now
    (result_map_both (λ factory. (factory.service.membership, factory.owner)) (λ error. error) c.open_or_create_with_attributes_in.result)
    c.open_or_create_with_attributes_in.new.hub) c.new.ensures.items
    (subst (λ it. EitherOfPattern
    (detail FixedSize g.T.ZeroCopySend.name g.T.ZeroCopySend.size g.T.ZeroCopySend.alignment)
    (detail FixedSize g.U.ZeroCopySend.name g.U.ZeroCopySend.size g.U.ZeroCopySend.alignment) g.P.AgreedPattern.pattern
    (g.P.AgreedPattern.settings (g.P.Pattern.adjusted (g.P.RequiredPattern.asked
    (g.P.RequiredPattern.with_attributes it.requirement c.args.attributes))))
    (AreWithinLimits (g.P.AgreedPattern.settings (g.P.Pattern.adjusted (g.P.RequiredPattern.asked
    (g.P.RequiredPattern.with_attributes it.requirement c.args.attributes)))))
    (HasNoRoomForHistory (g.P.AgreedPattern.settings (g.P.Pattern.adjusted (g.P.RequiredPattern.asked
    (g.P.RequiredPattern.with_attributes it.requirement c.args.attributes)))))
    (λ given. g.P.RequiredPattern.verdict (g.P.RequiredPattern.with_attributes it.requirement c.args.attributes) given)
    g.P.Negotiated.open_or_create_error it.node it.name
    (g.P.RequiredPattern.attributes (g.P.RequiredPattern.with_attributes it.requirement c.args.attributes)).pairs
    c.new.result.items c.args.hub.now
    (result_map_both (λ factory. (factory.service.membership, factory.owner)) (λ error. error) c.open_or_create_with_attributes_in.result)
    c.open_or_create_with_attributes_in.new.hub) c.with_requirement-required.ensures c.open_or_create_with_attributes_in.ensures))

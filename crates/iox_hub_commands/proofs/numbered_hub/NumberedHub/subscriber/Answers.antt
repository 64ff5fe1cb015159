use Rattle.std.proofs.Common.{◌∙◌, ℕ, sym, subst}
use Rattle.iox_hub_commands.specs.PortRoom.{GrowsFor}
use Rattle.iox_hub_commands.proofs.Coming.{subscriber_comes}
use Rattle.iox_hub_commands.proofs.GrowingFor.{at_factory}
use Rattle.iox_hub_commands.proofs.numbered_hub.NumberedHub.subscriber.Goals as goal

pub returns-clause-comes : goal.returns-clause-comes
returns-clause-comes g c =
    subscriber_comes g.D.SubscriberHandler.fixed (λ handler. g.D.Degrades.degrades handler) _ c.in-Some.domain c.in-Some.owner
    c.args.options.now c.args.self.now c.subscriber_with.new.self c.subscriber_with.result (sym c.place.ensures ∙ c.in-Some.is)
    (rw c.subscriber_handler.ensures at c.subscriber_with.ensures.comes.0) c.subscriber_with.ensures.comes.1

pub returns-clause-grows : goal.returns-clause-grows
returns-clause-grows g c =
    subst (λ (samples : ℕ). GrowsFor 0 samples c.args.self.now c.subscriber_with.new.self)
    (at_factory _ c.in-Some.domain c.in-Some.owner c.args.self.now (sym c.place.ensures ∙ c.in-Some.is)) c.subscriber_with.ensures.grows

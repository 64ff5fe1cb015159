use Rattle.std.proofs.Common.{◌∙◌, ℕ, sym, subst}
use Rattle.iox_hub_commands.specs.Naming.{most_loans}
use Rattle.iox_hub_commands.specs.PortRoom.{GrowsFor}
use Rattle.iox_hub_commands.proofs.Coming.{publisher_comes}
use Rattle.iox_hub_commands.proofs.GrowingFor.{from_factory}
use Rattle.iox_hub_commands.proofs.numbered_hub.NumberedHub.publisher.Goals as goal

pub returns-clause-comes : goal.returns-clause-comes
returns-clause-comes g c =
    publisher_comes g.U.Default.is_default g.B.PublisherHandlers.fixed (λ handlers. g.B.Degrades.degrades handlers) _ c.in-Some.domain
    c.in-Some.owner c.args.options.now c.args.self.now c.publisher_with.new.self c.publisher_with.result
    (sym c.place.ensures ∙ c.in-Some.is)
    (rw c.publisher_handlers.ensures at c.publisher_with.ensures.comes.0) c.publisher_with.ensures.comes.1

pub returns-clause-grows : goal.returns-clause-grows
returns-clause-grows g c =
    subst (λ (samples : ℕ). GrowsFor (most_loans c.args.options.now) samples c.args.self.now c.publisher_with.new.self)
    (from_factory _ c.in-Some.domain c.in-Some.owner c.args.self.now (sym c.place.ensures ∙ c.in-Some.is)) c.publisher_with.ensures.grows

use Rattle.iox_hub_commands.specs.Terms.{terms_of}
use Rattle.iox_hub_commands.proofs.AsAgreed.{are_as_agreed}
use Rattle.iox_hub_commands.proofs.PortRooms.{step_room, lacks_in_room, no_port}
use Rattle.iox_hub_commands.proofs.StepChanges.{step_changes, changes_count}
use Rattle.iox_hub_commands.proofs.StepMoves.{step_goes}
use Rattle.iox_hub_commands.proofs.numbered_hub.NumberedHub.step_port.Goals as goal

pub returns-clause-one : goal.returns-clause-one
returns-clause-one g c = step_changes (terms_of g.T.ZeroCopySend.name g.T.ZeroCopySend.size g.T.ZeroCopySend.alignment
    (λ value. g.T.Default.is_default value) g.U.ZeroCopySend.name g.U.ZeroCopySend.size g.U.ZeroCopySend.alignment
    (λ value. g.U.Default.is_default value) g.B.PublisherHandlers.fixed (λ handlers. g.B.Degrades.degrades handlers)
    (λ handlers. g.B.Decides.decides handlers) g.D.SubscriberHandler.fixed (λ handler. g.D.Degrades.degrades handler)) _ c.args.self.now
    c.carry_out_port.new.self c.carry_out_port.result c.carry_out_port.ensures.steps

pub returns-clause-counts : goal.returns-clause-counts
returns-clause-counts g c = changes_count c.args.self.now c.carry_out_port.new.self
    (step_changes (terms_of g.T.ZeroCopySend.name g.T.ZeroCopySend.size g.T.ZeroCopySend.alignment (λ value. g.T.Default.is_default value)
    g.U.ZeroCopySend.name g.U.ZeroCopySend.size g.U.ZeroCopySend.alignment (λ value. g.U.Default.is_default value)
    g.B.PublisherHandlers.fixed (λ handlers. g.B.Degrades.degrades handlers) (λ handlers. g.B.Decides.decides handlers)
    g.D.SubscriberHandler.fixed (λ handler. g.D.Degrades.degrades handler)) _ c.args.self.now c.carry_out_port.new.self
    c.carry_out_port.result c.carry_out_port.ensures.steps)

pub returns-clause-grows : goal.returns-clause-grows
returns-clause-grows g c = let ((id, moves), agrees)
    = step_goes (terms_of g.T.ZeroCopySend.name g.T.ZeroCopySend.size g.T.ZeroCopySend.alignment (λ value. g.T.Default.is_default value)
    g.U.ZeroCopySend.name g.U.ZeroCopySend.size g.U.ZeroCopySend.alignment (λ value. g.U.Default.is_default value)
    g.B.PublisherHandlers.fixed (λ handlers. g.B.Degrades.degrades handlers) (λ handlers. g.B.Decides.decides handlers)
    g.D.SubscriberHandler.fixed (λ handler. g.D.Degrades.degrades handler)) _ c.args.self.now c.carry_out_port.new.self
    c.carry_out_port.result c.carry_out_port.ensures.steps in moves.1

pub returns-clause-apart : goal.returns-clause-apart
returns-clause-apart g c = let ((id, moves), agrees)
    = step_goes (terms_of g.T.ZeroCopySend.name g.T.ZeroCopySend.size g.T.ZeroCopySend.alignment (λ value. g.T.Default.is_default value)
    g.U.ZeroCopySend.name g.U.ZeroCopySend.size g.U.ZeroCopySend.alignment (λ value. g.U.Default.is_default value)
    g.B.PublisherHandlers.fixed (λ handlers. g.B.Degrades.degrades handlers) (λ handlers. g.B.Decides.decides handlers)
    g.D.SubscriberHandler.fixed (λ handler. g.D.Degrades.degrades handler)) _ c.args.self.now c.carry_out_port.new.self
    c.carry_out_port.result c.carry_out_port.ensures.steps in (id, moves.0)

pub returns-clause-agreed : goal.returns-clause-agreed
returns-clause-agreed g c = λ grown. are_as_agreed c.carry_out_port.new.self.hub.services.domains (returns-clause-grows g c grown)

pub returns-clause-one_agreement : goal.returns-clause-one_agreement
returns-clause-one_agreement g c = let (serves, agrees)
    = step_goes (terms_of g.T.ZeroCopySend.name g.T.ZeroCopySend.size g.T.ZeroCopySend.alignment (λ value. g.T.Default.is_default value)
    g.U.ZeroCopySend.name g.U.ZeroCopySend.size g.U.ZeroCopySend.alignment (λ value. g.U.Default.is_default value)
    g.B.PublisherHandlers.fixed (λ handlers. g.B.Degrades.degrades handlers) (λ handlers. g.B.Decides.decides handlers)
    g.D.SubscriberHandler.fixed (λ handler. g.D.Degrades.degrades handler)) _ c.args.self.now c.carry_out_port.new.self
    c.carry_out_port.result c.carry_out_port.ensures.steps in agrees

pub returns-clause-room : goal.returns-clause-room
returns-clause-room g c = step_room (terms_of g.T.ZeroCopySend.name g.T.ZeroCopySend.size g.T.ZeroCopySend.alignment
    (λ value. g.T.Default.is_default value) g.U.ZeroCopySend.name g.U.ZeroCopySend.size g.U.ZeroCopySend.alignment
    (λ value. g.U.Default.is_default value) g.B.PublisherHandlers.fixed (λ handlers. g.B.Degrades.degrades handlers)
    (λ handlers. g.B.Decides.decides handlers) g.D.SubscriberHandler.fixed (λ handler. g.D.Degrades.degrades handler)) _ c.args.self.now
    c.carry_out_port.new.self c.carry_out_port.result c.carry_out_port.ensures.steps (no_port _ c.args.command)
    c.carry_out_port.ensures.pledged

pub returns-clause-lacks : goal.returns-clause-lacks
returns-clause-lacks g c = lacks_in_room (terms_of g.T.ZeroCopySend.name g.T.ZeroCopySend.size g.T.ZeroCopySend.alignment
    (λ value. g.T.Default.is_default value) g.U.ZeroCopySend.name g.U.ZeroCopySend.size g.U.ZeroCopySend.alignment
    (λ value. g.U.Default.is_default value) g.B.PublisherHandlers.fixed (λ handlers. g.B.Degrades.degrades handlers)
    (λ handlers. g.B.Decides.decides handlers) g.D.SubscriberHandler.fixed (λ handler. g.D.Degrades.degrades handler)) _ c.args.self.now
    c.carry_out_port.new.self c.carry_out_port.result c.carry_out_port.ensures.steps c.carry_out_port.ensures.finds

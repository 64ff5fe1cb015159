use Rattle.iox_hub_commands.specs.Terms.{terms_of}
use Rattle.iox_hub_commands.proofs.AsAgreed.{are_as_agreed}
use Rattle.iox_hub_commands.proofs.StepChanges.{changes_count}
use Rattle.iox_hub.proofs.HandledGoing.{step_goes_on}
use Rattle.iox_hub.proofs.RunWords.{changes_by_step, grows_by_step, apart_by_step, agrees_by_step}
use Rattle.iox_hub.proofs.stepping.step.Goals as goal

pub returns-clause-one : goal.returns-clause-one
returns-clause-one g c = changes_by_step (terms_of g.T.ZeroCopySend.name g.T.ZeroCopySend.size g.T.ZeroCopySend.alignment
    (λ value. g.T.Default.is_default value) g.U.ZeroCopySend.name g.U.ZeroCopySend.size g.U.ZeroCopySend.alignment
    (λ value. g.U.Default.is_default value) g.B.PublisherHandlers.fixed (λ handlers. g.B.Degrades.degrades handlers)
    (λ handlers. g.B.Decides.decides handlers) g.D.SubscriberHandler.fixed (λ handler. g.D.Degrades.degrades handler))
    (λ strategy action degrading at_full at_failure. g.B.TakesHandlers.handled strategy action degrading at_full at_failure)
    c.args.command
    (c.args.hub.now, c.args.given.now.places.items) (c.carry_out.new.hub, c.carry_out.new.given.places.items) c.carry_out.result
    c.carry_out.ensures.steps

pub returns-clause-grows : goal.returns-clause-grows
returns-clause-grows g c = grows_by_step (terms_of g.T.ZeroCopySend.name g.T.ZeroCopySend.size g.T.ZeroCopySend.alignment
    (λ value. g.T.Default.is_default value) g.U.ZeroCopySend.name g.U.ZeroCopySend.size g.U.ZeroCopySend.alignment
    (λ value. g.U.Default.is_default value) g.B.PublisherHandlers.fixed (λ handlers. g.B.Degrades.degrades handlers)
    (λ handlers. g.B.Decides.decides handlers) g.D.SubscriberHandler.fixed (λ handler. g.D.Degrades.degrades handler))
    (λ strategy action degrading at_full at_failure. g.B.TakesHandlers.handled strategy action degrading at_full at_failure)
    c.args.command
    (c.args.hub.now, c.args.given.now.places.items) (c.carry_out.new.hub, c.carry_out.new.given.places.items) c.carry_out.result
    c.carry_out.ensures.steps

pub returns-clause-apart : goal.returns-clause-apart
returns-clause-apart g c = apart_by_step (terms_of g.T.ZeroCopySend.name g.T.ZeroCopySend.size g.T.ZeroCopySend.alignment
    (λ value. g.T.Default.is_default value) g.U.ZeroCopySend.name g.U.ZeroCopySend.size g.U.ZeroCopySend.alignment
    (λ value. g.U.Default.is_default value) g.B.PublisherHandlers.fixed (λ handlers. g.B.Degrades.degrades handlers)
    (λ handlers. g.B.Decides.decides handlers) g.D.SubscriberHandler.fixed (λ handler. g.D.Degrades.degrades handler))
    (λ strategy action degrading at_full at_failure. g.B.TakesHandlers.handled strategy action degrading at_full at_failure)
    c.args.command
    (c.args.hub.now, c.args.given.now.places.items) (c.carry_out.new.hub, c.carry_out.new.given.places.items) c.carry_out.result
    c.carry_out.ensures.steps

pub returns-clause-one_agreement : goal.returns-clause-one_agreement
returns-clause-one_agreement g c = agrees_by_step
    (terms_of g.T.ZeroCopySend.name g.T.ZeroCopySend.size g.T.ZeroCopySend.alignment (λ value. g.T.Default.is_default value)
    g.U.ZeroCopySend.name g.U.ZeroCopySend.size g.U.ZeroCopySend.alignment (λ value. g.U.Default.is_default value)
    g.B.PublisherHandlers.fixed (λ handlers. g.B.Degrades.degrades handlers) (λ handlers. g.B.Decides.decides handlers)
    g.D.SubscriberHandler.fixed (λ handler. g.D.Degrades.degrades handler)) (λ strategy action degrading at_full
    at_failure. g.B.TakesHandlers.handled strategy action degrading at_full at_failure) c.args.command
    (c.args.hub.now, c.args.given.now.places.items) (c.carry_out.new.hub, c.carry_out.new.given.places.items) c.carry_out.result
    c.carry_out.ensures.steps

pub returns-clause-counts : goal.returns-clause-counts
returns-clause-counts g c = changes_count c.args.hub.now c.carry_out.new.hub (returns-clause-one g c)

pub returns-clause-agreed : goal.returns-clause-agreed
returns-clause-agreed g c = λ grown. are_as_agreed c.carry_out.new.hub.hub.services.domains (returns-clause-grows g c grown)

pub returns-clause-joins : goal.returns-clause-joins
returns-clause-joins g c = step_goes_on (terms_of g.T.ZeroCopySend.name g.T.ZeroCopySend.size g.T.ZeroCopySend.alignment
    (λ value. g.T.Default.is_default value) g.U.ZeroCopySend.name g.U.ZeroCopySend.size g.U.ZeroCopySend.alignment
    (λ value. g.U.Default.is_default value) g.B.PublisherHandlers.fixed (λ handlers. g.B.Degrades.degrades handlers)
    (λ handlers. g.B.Decides.decides handlers) g.D.SubscriberHandler.fixed (λ handler. g.D.Degrades.degrades handler))
    (λ strategy action degrading at_full at_failure. g.B.TakesHandlers.handled strategy action degrading at_full at_failure)
    c.runs_with_handlers_go_on.ensures c.args.command
    (c.args.hub.now, c.args.given.now.places.items) (c.carry_out.new.hub, c.carry_out.new.given.places.items) c.carry_out.result
    c.carry_out.ensures.steps

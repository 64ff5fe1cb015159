use Rattle.iox_hub_commands.specs.Terms.{terms_of}
use Rattle.iox_hub_commands.proofs.AsAgreed.{are_as_agreed}
use Rattle.iox_hub.proofs.RunWords.{goes_on_by_run, grows_by_run, agrees_by_run}
use Rattle.iox_hub.proofs.TakenRuns.{run_once}
use Rattle.iox_hub.proofs.running.run.Goals as goal

pub returns-clause-goes_on : goal.returns-clause-goes_on
returns-clause-goes_on g c =
    goes_on_by_run (terms_of g.T.ZeroCopySend.name g.T.ZeroCopySend.size g.T.ZeroCopySend.alignment
    (λ value. g.T.Default.is_default value) g.U.ZeroCopySend.name g.U.ZeroCopySend.size g.U.ZeroCopySend.alignment
    (λ value. g.U.Default.is_default value) g.B.PublisherHandlers.fixed (λ handlers. g.B.Degrades.degrades handlers)
    (λ handlers. g.B.Decides.decides handlers) g.D.SubscriberHandler.fixed (λ handler. g.D.Degrades.degrades handler))
    (λ strategy action degrading at_full at_failure. g.B.TakesHandlers.handled strategy action degrading at_full at_failure) _
    (c.args.hub.now, c.args.given.now.places.items)
    (c.carry_out_all.new.hub, c.carry_out_all.new.given.places.items) _ _ c.carry_out_all.ensures.ran

pub returns-clause-grows : goal.returns-clause-grows
returns-clause-grows g c =
    grows_by_run (terms_of g.T.ZeroCopySend.name g.T.ZeroCopySend.size g.T.ZeroCopySend.alignment (λ value. g.T.Default.is_default value)
    g.U.ZeroCopySend.name g.U.ZeroCopySend.size g.U.ZeroCopySend.alignment (λ value. g.U.Default.is_default value)
    g.B.PublisherHandlers.fixed (λ handlers. g.B.Degrades.degrades handlers) (λ handlers. g.B.Decides.decides handlers)
    g.D.SubscriberHandler.fixed (λ handler. g.D.Degrades.degrades handler)) (λ strategy action degrading at_full
    at_failure. g.B.TakesHandlers.handled strategy action degrading at_full at_failure) _ (c.args.hub.now, c.args.given.now.places.items)
    (c.carry_out_all.new.hub, c.carry_out_all.new.given.places.items) _ _ c.carry_out_all.ensures.ran

pub returns-clause-one_agreement : goal.returns-clause-one_agreement
returns-clause-one_agreement g c =
    agrees_by_run (terms_of g.T.ZeroCopySend.name g.T.ZeroCopySend.size g.T.ZeroCopySend.alignment (λ value. g.T.Default.is_default value)
    g.U.ZeroCopySend.name g.U.ZeroCopySend.size g.U.ZeroCopySend.alignment (λ value. g.U.Default.is_default value)
    g.B.PublisherHandlers.fixed (λ handlers. g.B.Degrades.degrades handlers) (λ handlers. g.B.Decides.decides handlers)
    g.D.SubscriberHandler.fixed (λ handler. g.D.Degrades.degrades handler)) (λ strategy action degrading at_full
    at_failure. g.B.TakesHandlers.handled strategy action degrading at_full at_failure) _ (c.args.hub.now, c.args.given.now.places.items)
    (c.carry_out_all.new.hub, c.carry_out_all.new.given.places.items) _ _ c.carry_out_all.ensures.ran

pub returns-clause-once : goal.returns-clause-once
returns-clause-once g c =
    run_once (terms_of g.T.ZeroCopySend.name g.T.ZeroCopySend.size g.T.ZeroCopySend.alignment (λ value. g.T.Default.is_default value)
    g.U.ZeroCopySend.name g.U.ZeroCopySend.size g.U.ZeroCopySend.alignment (λ value. g.U.Default.is_default value)
    g.B.PublisherHandlers.fixed (λ handlers. g.B.Degrades.degrades handlers) (λ handlers. g.B.Decides.decides handlers)
    g.D.SubscriberHandler.fixed (λ handler. g.D.Degrades.degrades handler)) (λ strategy action degrading at_full
    at_failure. g.B.TakesHandlers.handled strategy action degrading at_full at_failure) _ (c.args.hub.now, c.args.given.now.places.items)
    (c.carry_out_all.new.hub, c.carry_out_all.new.given.places.items) _ _ c.carry_out_all.ensures.ran

pub returns-clause-agreed : goal.returns-clause-agreed
returns-clause-agreed g c = λ grown. are_as_agreed c.carry_out_all.new.hub.hub.services.domains (returns-clause-grows g c grown)

pub returns-clause-answers : goal.returns-clause-answers
returns-clause-answers g c = λ config. c.runs_with_handlers_answer.ensures config _ (c.args.hub.now, c.args.given.now.places.items)
    (c.carry_out_all.new.hub, c.carry_out_all.new.given.places.items) _ _ c.carry_out_all.ensures.ran
    (λ stopped. c.carry_out_all.ensures.each)

pub returns-clause-joins : goal.returns-clause-joins
returns-clause-joins g c = c.runs_with_handlers_go_on.ensures _ (c.args.hub.now, c.args.given.now.places.items)
    (c.carry_out_all.new.hub, c.carry_out_all.new.given.places.items) _ _ c.carry_out_all.ensures.ran

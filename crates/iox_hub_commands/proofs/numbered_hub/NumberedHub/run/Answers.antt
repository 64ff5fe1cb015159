use Rattle.iox_hub_commands.proofs.AsAgreed.{are_as_agreed}
use Rattle.iox_hub_commands.proofs.RunLemmas.{run_goes}
use Rattle.iox_hub_commands.proofs.StepChanges.{step_changes, numbers_still, numbers_go_on, numbers_on_and_on}
use Rattle.iox_hub_commands.proofs.StepMoves.{step_goes}
use Rattle.iox_hub_commands.specs.Agreements.{AreOfOneAgreement}
use Rattle.iox_hub_commands.specs.Grown.{GrowsOn}
use Rattle.iox_hub_commands.specs.Lives.{NumbersGoOn}
use Rattle.iox_hub_commands.specs.CommandSteps.{Step}
use Rattle.iox_hub_commands.specs.Terms.{terms_of}
use Rattle.iox_hub_commands.proofs.numbered_hub.NumberedHub.run.Goals as goal

pub returns-clause-goes_on : goal.returns-clause-goes_on
returns-clause-goes_on g c =
    run_goes (Step (terms_of g.T.ZeroCopySend.name g.T.ZeroCopySend.size g.T.ZeroCopySend.alignment
    (λ value. g.T.Default.is_default value) g.U.ZeroCopySend.name g.U.ZeroCopySend.size g.U.ZeroCopySend.alignment
    (λ value. g.U.Default.is_default value) g.B.PublisherHandlers.fixed (λ handlers. g.B.Degrades.degrades handlers)
    (λ handlers. g.B.Decides.decides handlers) g.D.SubscriberHandler.fixed (λ handler. g.D.Degrades.degrades handler))) NumbersGoOn
    numbers_still numbers_on_and_on (λ command old new answer does. numbers_go_on old new
    (step_changes (terms_of g.T.ZeroCopySend.name g.T.ZeroCopySend.size g.T.ZeroCopySend.alignment (λ value. g.T.Default.is_default value)
    g.U.ZeroCopySend.name g.U.ZeroCopySend.size g.U.ZeroCopySend.alignment (λ value. g.U.Default.is_default value)
    g.B.PublisherHandlers.fixed (λ handlers. g.B.Degrades.degrades handlers) (λ handlers. g.B.Decides.decides handlers)
    g.D.SubscriberHandler.fixed (λ handler. g.D.Degrades.degrades handler)) command old new answer does))
    _ c.args.self.now c.carry_out_all.new.self _ _ c.carry_out_all.ensures.ran

pub returns-clause-grows : goal.returns-clause-grows
returns-clause-grows g c =
    run_goes (Step (terms_of g.T.ZeroCopySend.name g.T.ZeroCopySend.size g.T.ZeroCopySend.alignment
    (λ value. g.T.Default.is_default value) g.U.ZeroCopySend.name g.U.ZeroCopySend.size g.U.ZeroCopySend.alignment
    (λ value. g.U.Default.is_default value) g.B.PublisherHandlers.fixed (λ handlers. g.B.Degrades.degrades handlers)
    (λ handlers. g.B.Decides.decides handlers) g.D.SubscriberHandler.fixed (λ handler. g.D.Degrades.degrades handler)))
    (λ old new. GrowsOn old.hub new.hub) (λ one grown. grown) (λ old mid new first second grown. second (first grown))
    (λ command old new answer does. let ((id, moves), agrees)
    = step_goes (terms_of g.T.ZeroCopySend.name g.T.ZeroCopySend.size g.T.ZeroCopySend.alignment (λ value. g.T.Default.is_default value)
    g.U.ZeroCopySend.name g.U.ZeroCopySend.size g.U.ZeroCopySend.alignment (λ value. g.U.Default.is_default value)
    g.B.PublisherHandlers.fixed (λ handlers. g.B.Degrades.degrades handlers) (λ handlers. g.B.Decides.decides handlers)
    g.D.SubscriberHandler.fixed (λ handler. g.D.Degrades.degrades handler)) command old new answer does in moves.1)
    _ c.args.self.now c.carry_out_all.new.self _ _ c.carry_out_all.ensures.ran

pub returns-clause-agreed : goal.returns-clause-agreed
returns-clause-agreed g c = λ grown. are_as_agreed c.carry_out_all.new.self.hub.services.domains (returns-clause-grows g c grown)

pub returns-clause-one_agreement : goal.returns-clause-one_agreement
returns-clause-one_agreement g c =
    run_goes (Step (terms_of g.T.ZeroCopySend.name g.T.ZeroCopySend.size g.T.ZeroCopySend.alignment
    (λ value. g.T.Default.is_default value) g.U.ZeroCopySend.name g.U.ZeroCopySend.size g.U.ZeroCopySend.alignment
    (λ value. g.U.Default.is_default value) g.B.PublisherHandlers.fixed (λ handlers. g.B.Degrades.degrades handlers)
    (λ handlers. g.B.Decides.decides handlers) g.D.SubscriberHandler.fixed (λ handler. g.D.Degrades.degrades handler)))
    (λ old new. AreOfOneAgreement old.factories.made old.hub → AreOfOneAgreement new.factories.made new.hub) (λ one are. are)
    (λ old mid new first second are. second (first are))
    (λ command old new answer does. let (serves, agrees)
    = step_goes (terms_of g.T.ZeroCopySend.name g.T.ZeroCopySend.size g.T.ZeroCopySend.alignment (λ value. g.T.Default.is_default value)
    g.U.ZeroCopySend.name g.U.ZeroCopySend.size g.U.ZeroCopySend.alignment (λ value. g.U.Default.is_default value)
    g.B.PublisherHandlers.fixed (λ handlers. g.B.Degrades.degrades handlers) (λ handlers. g.B.Decides.decides handlers)
    g.D.SubscriberHandler.fixed (λ handler. g.D.Degrades.degrades handler)) command old new answer does in agrees)
    _ c.args.self.now c.carry_out_all.new.self _ _ c.carry_out_all.ensures.ran

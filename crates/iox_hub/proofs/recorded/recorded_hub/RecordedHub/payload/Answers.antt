use Rattle.std.proofs.Common.{◌∙◌, subst, sym, refl}
use Rattle.iox_domain.specs.Fitting.{asked_types}
use Rattle.iox_hub.proofs.RecordedSent.{reads_as_sent}
use Rattle.iox_hub.specs.RecordedLaws.{WasSentBefore}
use Rattle.iox_machine.specs.Choices.{chosen_by}
use Rattle.iox_hub.proofs.RecordedRuns.{for_one, may_be_used, read_so}
use Rattle.iox_hub.proofs.RecordedSkips.{never_so}
use Rattle.iox_hub.proofs.RecordedTold.{gives_newest}
use Rattle.iox_hub_commands.specs.DescribeBase.Detail.{detail}
use Rattle.iox_hub_commands.specs.DescribeBase.declared.type_detail.TypeVariant.TheVariants.{FixedSize, Dynamic}
use Rattle.iox_hub.proofs.recorded.recorded_hub.RecordedHub.payload.Goals as goal

pub returns-clause-gives : goal.returns-clause-gives
returns-clause-gives g c = rw (← c.self.view_is)
    (gives_newest c.self.inside.hub c.self.inside.history.calls c.args.sample.now.number.value
    (record { port = c.args.sample.now.it.port; taken = c.args.sample.now.it.taken }) c.payload.result.now
    (rw (← c.self.view_is) at c.requires) c.payload.ensures)

pub returns-clause-reads : goal.returns-clause-reads
returns-clause-reads g c = rw (← c.self.view_is)
    (λ handed followed small. read_so _ refl handed (c.typed_calls_are_a_run.ensures.goes_on handed g.B.PublisherHandlers.fixed
    g.D.SubscriberHandler.fixed Dynamic)
    (c.typed_subscriber_calls_are_steps.ensures handed g.B.PublisherHandlers.fixed g.D.SubscriberHandler.fixed Dynamic).payload
    c.self.inside.history.calls c.self.inside.hub c.args.sample.now.number.value
    (record { port = c.args.sample.now.it.port; taken = c.args.sample.now.it.taken })
    c.payload.result.now (rw (← c.self.view_is) at c.requires) (sym c.payload.ensures) (for_one _ c.self.invariant handed) followed small)

pub returns-clause-sent : goal.returns-clause-sent
returns-clause-sent g c = rw (← c.self.view_is)
    (λ handed followed small. let (told, are, answers) = read_so _ refl handed
    (c.typed_calls_are_a_run.ensures.goes_on handed g.B.PublisherHandlers.fixed g.D.SubscriberHandler.fixed Dynamic)
    (c.typed_subscriber_calls_are_steps.ensures handed g.B.PublisherHandlers.fixed g.D.SubscriberHandler.fixed Dynamic).payload
    c.self.inside.history.calls c.self.inside.hub c.args.sample.now.number.value
    (record { port = c.args.sample.now.it.port; taken = c.args.sample.now.it.taken })
    c.payload.result.now (rw (← c.self.view_is) at c.requires) (sym c.payload.ensures) (for_one _ c.self.invariant handed) followed small in
    subst (λ values. WasSentBefore (asked_types Dynamic
    (detail FixedSize g.T.ZeroCopySend.name g.T.ZeroCopySend.size g.T.ZeroCopySend.alignment)
    (detail FixedSize g.U.ZeroCopySend.name g.U.ZeroCopySend.size g.U.ZeroCopySend.alignment))
    (chosen_by (λ value. g.T.Default.is_default value) (λ handlers. g.B.Decides.decides handlers)
    (λ handlers. g.B.Degrades.degrades handlers) (λ handler. g.D.Degrades.degrades handler) handed)
    c.self.inside.history.calls.config.expired_connection_buffer
    c.args.sample.now.number.value values c.self.inside.history.calls.asked c.self.inside.history.calls.answers) are
    (reads_as_sent (chosen_by (λ value. g.T.Default.is_default value) (λ handlers. g.B.Decides.decides handlers)
    (λ handlers. g.B.Degrades.degrades handlers) (λ handler. g.D.Degrades.degrades handler) handed)
    (c.received_was_sent.ensures handed)
    (c.samples_read_the_same.ensures handed)
    (asked_types Dynamic (detail FixedSize g.T.ZeroCopySend.name g.T.ZeroCopySend.size g.T.ZeroCopySend.alignment)
    (detail FixedSize g.U.ZeroCopySend.name g.U.ZeroCopySend.size g.U.ZeroCopySend.alignment))
    c.self.inside.history.calls.config.expired_connection_buffer c.self.inside.history.calls.asked c.self.inside.history.calls.answers
    c.args.sample.now.number.value told
    (c.self.invariant.told.came c.args.sample.now.number.value
    (record { port = c.args.sample.now.it.port; taken = c.args.sample.now.it.taken }) (rw (← c.self.view_is) at c.requires)) answers))

pub returns-then-not-holds-clause-held : goal.returns-then-not-holds-clause-held
returns-then-not-holds-clause-held g c = λ handed followed.
    never_so c.holds.result (c.holds.ensures ∙ (may_be_used _ refl handed
    (c.what_is_held_may_be_used.ensures handed g.B.PublisherHandlers.fixed g.D.SubscriberHandler.fixed Dynamic)
    c.self.inside.history.calls c.self.inside.hub (for_one _ c.self.invariant handed)
    (rw (← c.self.view_is) at followed)).samples c.args.sample.now.number.value
    (record { port = c.args.sample.now.it.port; taken = c.args.sample.now.it.taken }) (rw (← c.self.view_is) at c.requires))
    c.if-not-holds.true

use Rattle.iox_hub.proofs.recorded.recorded_hub.RecordedHub.open_or_create.Given as goal

abbrev pub ghost-given : goal.ghost-given
ghost-given g a = a._from.now.calls.factories.next

abbrev pub ghost-opened_or_created : goal.ghost-opened_or_created
ghost-opened_or_created g a = a.attributes

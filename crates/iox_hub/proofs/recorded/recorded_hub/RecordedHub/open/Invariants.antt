use Rattle.iox_hub.proofs.recorded.recorded_hub.RecordedHub.open.Given as goal

abbrev pub ghost-given : goal.ghost-given
ghost-given g a = a._from.now.calls.factories.next

abbrev pub ghost-opened : goal.ghost-opened
ghost-opened g a = a.attributes

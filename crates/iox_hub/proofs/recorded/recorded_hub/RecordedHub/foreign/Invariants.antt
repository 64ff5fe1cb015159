use Rattle.iox_hub.proofs.recorded.recorded_hub.RecordedHub.foreign.Given as goal

abbrev pub ghost-told_foreign : goal.ghost-told_foreign
ghost-told_foreign g a = a.steps.now

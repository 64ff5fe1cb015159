use Rattle.iox_hub.proofs.recorded.recorded_hub.RecordedHub.send_slice.Given as goal

abbrev pub ghost-told_put : goal.ghost-told_put
ghost-told_put g a = a.values.now

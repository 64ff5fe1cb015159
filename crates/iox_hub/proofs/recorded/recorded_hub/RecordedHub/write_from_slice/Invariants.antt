use Rattle.iox_hub.proofs.recorded.recorded_hub.RecordedHub.write_from_slice.Given as goal

abbrev pub ghost-told_filled : goal.ghost-told_filled
ghost-told_filled g a = a.values.now

use Rattle.iox_hub.proofs.recorded.calls.told_received.Given as goal

abbrev pub ghost-told : goal.ghost-told
ghost-told g a = g.calls

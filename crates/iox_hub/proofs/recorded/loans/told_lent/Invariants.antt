use Rattle.iox_hub.proofs.recorded.loans.told_lent.Given as goal

abbrev pub ghost-told : goal.ghost-told
ghost-told g a = g.calls

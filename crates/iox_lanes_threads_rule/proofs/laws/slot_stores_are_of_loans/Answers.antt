use Rattle.iox_lanes_threads_rule.proofs.Loans as lemmas
use Rattle.iox_lanes_threads_rule.proofs.laws.slot_stores_are_of_loans.Goals as goal

pub returns : goal.returns
returns c = lemmas.slot_stores_are_of_loans

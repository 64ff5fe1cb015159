use Rattle.iox_lanes_threads_rule.proofs.PortsBehind as lemmas
use Rattle.iox_lanes_threads_rule.proofs.laws.accesses_leave_lanes.Goals as goal

pub returns-clause-loads : goal.returns-clause-loads
returns-clause-loads c = lemmas.load_backed

pub returns-clause-stores : goal.returns-clause-stores
returns-clause-stores c = lemmas.store_backed

pub returns-clause-exchanges : goal.returns-clause-exchanges
returns-clause-exchanges c = lemmas.exchange_backed

use Rattle.iox_lanes_laws.proofs.Payloads as laws
use Rattle.iox_lanes_laws.proofs.in_turn.stay_in_turn.Goals as goal

pub returns-clause-payloads : goal.returns-clause-payloads
returns-clause-payloads c = laws.payloads_stay_in_turn

pub returns-clause-writes : goal.returns-clause-writes
returns-clause-writes c = laws.writes_hold_in_turn

pub returns-clause-publishers : goal.returns-clause-publishers
returns-clause-publishers c = laws.publishers_stay_in_turn

pub returns-clause-subscribers : goal.returns-clause-subscribers
returns-clause-subscribers c = laws.subscribers_stay_in_turn

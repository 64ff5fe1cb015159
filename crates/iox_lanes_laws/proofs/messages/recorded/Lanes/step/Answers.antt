use Rattle.iox_lanes_laws.proofs.RecordedRuns.{records_come_on}
use Rattle.iox_lanes_laws.proofs.messages.recorded.Lanes.step.Goals as goal

pub returns-clause-steps : goal.returns-clause-steps
returns-clause-steps c = c.make.ensures.steps

pub returns-clause-came : goal.returns-clause-came
returns-clause-came c = records_come_on c.args.self.now c.args.party c.args.step.now c.make.result c.make.new.self c.make.ensures.steps

pub returns-clause-apart : goal.returns-clause-apart
returns-clause-apart c = c.make.ensures.apart

pub returns-clause-told : goal.returns-clause-told
returns-clause-told c = c.make.ensures.told

pub returns-clause-slots : goal.returns-clause-slots
returns-clause-slots c = c.make.ensures.slots

pub returns-clause-fixed : goal.returns-clause-fixed
returns-clause-fixed c = c.make.ensures.fixed

pub returns-clause-uses : goal.returns-clause-uses
returns-clause-uses c = c.make.ensures.uses

pub returns-clause-left : goal.returns-clause-left
returns-clause-left c = c.make.ensures.left

pub returns-clause-lent : goal.returns-clause-lent
returns-clause-lent c = c.make.ensures.lent

pub returns-clause-turns : goal.returns-clause-turns
returns-clause-turns c = c.make.ensures.turns

pub returns-clause-whole : goal.returns-clause-whole
returns-clause-whole c = c.make.ensures.whole

pub returns-clause-orders : goal.returns-clause-orders
returns-clause-orders c = c.make.ensures.follow.orders

pub returns-clause-receipts : goal.returns-clause-receipts
returns-clause-receipts c = c.make.ensures.follow.receipts

pub returns-clause-sends : goal.returns-clause-sends
returns-clause-sends c = c.make.ensures.follow.sends

pub returns-clause-calls : goal.returns-clause-calls
returns-clause-calls c = c.make.ensures.follow.calls

pub returns-clause-loans : goal.returns-clause-loans
returns-clause-loans c = c.make.ensures.follow.loans

pub returns-clause-alone : goal.returns-clause-alone
returns-clause-alone c = c.make.ensures.follow.alone

pub returns-clause-reads : goal.returns-clause-reads
returns-clause-reads c = c.make.ensures.follow.reads

pub returns-clause-releases : goal.returns-clause-releases
returns-clause-releases c = c.make.ensures.follow.releases

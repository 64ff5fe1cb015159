use Rattle.std.proofs.Common.{rules, ◌≡◌, if◌then◌else◌, [], subst, sym}
use Rattle.iox_lanes_machine.specs.World.{fits}
use Rattle.iox_lanes_laws.specs.Messages.{begun_messages}
use Rattle.iox_lanes_laws.specs.Recorded.{RecordState}
use Rattle.iox_lanes_laws.specs.RecordedSteps.{MakesStep}
use Rattle.iox_lanes_laws.proofs.RecordedSteps.{keeps_none}
use Rattle.iox_lanes_laws.proofs.messages.recorded.Lanes.make.Goals as goal

pub returns-in-Ok-None : goal.returns-in-Ok-None
returns-in-Ok-None c =
    let before : RecordState = record { lanes = c.self.inside.lanes; messages = c.self.inside.messages.items } in
    let is : c.args.self.now ≡ before = cc c.self.view_is in
    let none : (if fits c.args.self.now.lanes c.args.party c.args.step.now then begun_messages c.args.self.now.lanes c.args.party
    c.args.step.now else []) ≡ [] = search rules in
    let none_before : (if fits before.lanes c.args.party c.args.step.now then begun_messages before.lanes c.args.party
    c.args.step.now else []) ≡ []
    = subst (λ (r : RecordState). (if fits r.lanes c.args.party c.args.step.now then begun_messages r.lanes c.args.party c.args.step.now
    else []) ≡ []) is none in
    subst (λ (r : RecordState). MakesStep r c.args.party c.args.step.now c.step.result
    (record { lanes = c.step.new.self; messages = c.self.inside.messages.items })) (sym is)
    (record {
      steps = keeps_none before c.args.party c.args.step.now c.step.result c.step.new.self c.step.ensures.steps none_before;
      apart = c.step.ensures.apart;
      told = c.step.ensures.told;
      slots = c.step.ensures.slots;
      fixed = c.step.ensures.fixed;
      uses = c.step.ensures.uses;
      left = c.step.ensures.left;
      lent = c.step.ensures.lent;
      turns = c.step.ensures.turns;
      whole = c.step.ensures.whole;
      follow = record {
        orders = c.step.ensures.orders;
        receipts = c.step.ensures.receipts;
        sends = c.step.ensures.sends;
        calls = c.step.ensures.calls;
        loans = c.step.ensures.loans;
        alone = c.step.ensures.alone;
        reads = c.step.ensures.reads;
        releases = c.step.ensures.releases;
      };
    })

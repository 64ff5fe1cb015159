use Rattle.std.proofs.Common.{rules, ◌≡◌, ◌∷◌, ◌++◌, [], List, true, subst, sym}
use Rattle.iox_lanes_machine.specs.World.{fits}
use Rattle.iox_lanes_laws.specs.Messages.{MessageState, begun_messages}
use Rattle.iox_lanes_laws.specs.Recorded.{RecordState, RecordsTo}
use Rattle.iox_lanes_laws.specs.RecordedSteps.{MakesStep}
use Rattle.iox_lanes_laws.proofs.RecordedSteps.{keeps_one}
use Rattle.iox_lanes_laws.proofs.messages.recorded.Lanes.send.Goals as goal

pub returns : goal.returns
returns c =
    let before : RecordState = record { lanes = c.self.inside.lanes; messages = c.self.inside.messages.items } in
    let is : c.args.self.now ≡ before = cc c.self.view_is in
    let kept : c.push_reserved.new.self.items ≡ c.self.inside.messages.items ++ c.args.message ∷ [] = search rules in
    let fit : fits before.lanes c.args.party c.args.step.now ≡ true
    = subst (λ (r : RecordState). fits r.lanes c.args.party c.args.step.now ≡ true) is c.requires.fits in
    let begun : begun_messages before.lanes c.args.party c.args.step.now ≡ c.args.message ∷ []
    = subst (λ (r : RecordState). begun_messages r.lanes c.args.party c.args.step.now ≡ c.args.message ∷ []) is c.requires.begins in
    subst (λ (r : RecordState). MakesStep r c.args.party c.args.step.now c.step-stepped.result
    (record { lanes = c.step-stepped.new.self; messages = c.push_reserved.new.self.items })) (sym is)
    (record {
      steps = subst (λ (ms : List MessageState). RecordsTo before c.args.party c.args.step.now c.step-stepped.result
          (record { lanes = c.step-stepped.new.self; messages = ms })) (sym kept)
          (keeps_one before c.args.party c.args.step.now c.step-stepped.result c.step-stepped.new.self c.args.message
          c.step-stepped.ensures.steps fit begun);
      apart = c.step-stepped.ensures.apart;
      told = c.step-stepped.ensures.told;
      slots = c.step-stepped.ensures.slots;
      fixed = c.step-stepped.ensures.fixed;
      uses = c.step-stepped.ensures.uses;
      left = c.step-stepped.ensures.left;
      lent = c.step-stepped.ensures.lent;
      turns = c.step-stepped.ensures.turns;
      whole = c.step-stepped.ensures.whole;
      follow = record {
        orders = c.step-stepped.ensures.orders;
        receipts = c.step-stepped.ensures.receipts;
        sends = c.step-stepped.ensures.sends;
        calls = c.step-stepped.ensures.calls;
        loans = c.step-stepped.ensures.loans;
        alone = c.step-stepped.ensures.alone;
        reads = c.step-stepped.ensures.reads;
        releases = c.step-stepped.ensures.releases;
      };
    })

use Rattle.std.proofs.Common.{◌≡◌, List, length, slice_get, Some, sym, subst, arith, refl}
use Rattle.iox_lanes_machine.specs.LanesParties.declared.call.FinishedCall.{FinishedCall}
use Rattle.iox_lanes_service.proofs.Stopping.{begun_inside}
use Rattle.iox_lanes_service.proofs.Turns.{get_there}
use Rattle.iox_lanes_service.proofs.turn.take_turn.Goals as goal

pub goes_to_end-requires : goal.goes_to_end-requires
goes_to_end-requires c = begun_inside c.args.lanes.now c.args.party _ c.step.new.self c.in-Went.ensures.steps

pub returns-in-Err : goal.returns-in-Err
returns-in-Err c = record {
  begun = c.step.new.self;
  begins = c.in-Went.ensures.steps;
  stopped = c.in-Err.ensures;
}

pub returns-then-moments-gt9223372036854775808 : goal.returns-then-moments-gt9223372036854775808
returns-then-moments-gt9223372036854775808 c = record {
  begun = c.step.new.self;
  begins = c.in-Went.ensures.steps;
  stopped = (omega (arith, c.if-moments-gt9223372036854775808.true), sym c.moments-moments.ensures, c.in-Ok.ensures.0);
}

pub returns : goal.returns
returns c =
    let got = c.in-Some.ensures.lookup in
    record {
      in_turn = record {
        came = c.requires.came;
        between = c.requires.between;
        begun = c.step.new.self;
        begins = c.in-Went.ensures.steps;
        more = c.in-Ok.ensures.0.0;
        goes = c.in-Ok.ensures.0.1;
        few = omega (arith, c.if-moments-gt9223372036854775808.false, c.moments-moments.ensures);
      };
      call = c.in-Some.call.now;
      ended = subst (λ (xs : List FinishedCall). slice_get xs (length c.args.lanes.now.finished) ≡ Some c.in-Some.call.now)
          c.finished.ensures.value
          (subst (λ (ys : List FinishedCall). slice_get c.finished.result.now (length ys) ≡ Some c.in-Some.call.now)
          c.finished-ended.ensures.value
          (get_there c.finished.result.now (length c.finished-ended.result.now) c.in-Some.call.now got.3.0 got.1));
      answered = refl;
    }

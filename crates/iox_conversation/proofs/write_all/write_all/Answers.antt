use Rattle.std.proofs.Common.{◌≡◌, ◌∙◌, ◌||◌, Bool, true, false, refl, sym, arith, take, drop, length-drop, take-append-drop}
use Rattle.std.proofs.KnownBytes.{Appends-kept, Appends-trans}
use Rattle.std.proofs.Math.Seq.{take-add}
use Rattle.iox_conversation.proofs.Rest.{take-rest}
use Rattle.iox_conversation.proofs.write_all.write_all.Goals as goal

or-false : (b : Bool) → (b || false) ≡ b
or-false true = refl
or-false false = refl

pub loop-start-preserved : goal.loop-start-preserved
loop-start-preserved g c =
    let bound = rw (take-rest c.args.bytes.now c.loop-start.start) at c.in-Some.ensures.bound in
    let bytes = rw (take-rest c.args.bytes.now c.loop-start.start) at c.in-Some.ensures.taken in record {
      within = omega (arith, bound.1, length-drop c.loop-start.start c.args.bytes.now, c.loop-start-test.true);
      written = rw (take-add c.loop-start.start c.in-Some.count c.args.bytes.now)
          (Appends-trans _ _ _ _ _ c.loop-start.invariant.written bytes);
      failed = c.in-Some.ensures.failed ∙ or-false _ ∙ c.loop-start.invariant.failed;
    }

pub returns-in_default-clause-begun : goal.returns-in_default-clause-begun
returns-in_default-clause-begun g c = (
  take c.loop-start.start c.args.bytes.now,
  drop c.loop-start.start c.args.bytes.now,
  sym (take-append-drop c.loop-start.start c.args.bytes.now),
  Appends-kept _ _ _ _ c.loop-start.invariant.written c.in_default.ensures.kept,
)

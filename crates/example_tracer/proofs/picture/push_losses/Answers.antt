use Rattle.std.proofs.Common.{ℕ, Bool, sym, ◌∙◌, refl}
use Rattle.std.specs.Prelude.{Option}
use Rattle.example_tracer.specs.Frame.{ways_in}
use Rattle.example_tracer.specs.Trace.{sent_at, is_lost}
use Rattle.example_tracer.proofs.PictureLemmas.{one_more, none_more}
use Rattle.example_tracer.proofs.picture.push_losses.Goals as goal
use Rattle.example_tracer.proofs.picture.push_losses.Goals.{then-is_lost+in_ok-push, else-is_lost}

pub loop-line-preserved : goal.loop-line-preserved
loop-line-preserved c =
    let test : Option ℕ × ℕ → Bool = λ rows. is_lost c.args.before.now c.args.arrow.now rows.1 c.unwrap_or-since.result
    (sent_at c.args.conversation.now rows.1) in
    elim c.if-is_lost.branch [
      | then-is_lost+in_ok-push w ↦
          rw (w.shapes-is, w.in_ok-push.ensures.items)
          (one_more c.loop-line.shapes.items _ (ways_in c.args.shapes.now.items) test c.loop-line.line c.loop-line.invariant refl
          (sym c.is_lost.ensures ∙ w.if-is_lost.true))
      | else-is_lost w ↦
          rw w.shapes-is (none_more c.loop-line.shapes.items (ways_in c.args.shapes.now.items) test c.loop-line.line
          c.loop-line.invariant (sym c.is_lost.ensures ∙ w.if-is_lost.false))
    ]

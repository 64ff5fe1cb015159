use Rattle.std.proofs.Common.{◌∙◌, ◌++◌, Ok, Err, codes, refl, sym}
use Rattle.iox_conversation.proofs.Advancing.{OnOk-follows}
use Rattle.iox_line.proofs.ReadLineLemmas.{other_none, other_some}
use Rattle.iox_line.specs.LineFault.{fault_text}
use Rattle.iox_line.specs.ReplyText.{reply_text}
use Rattle.iox_line.specs.declared.error.LineError.TheVariants as fault
use Rattle.iox_script.proofs.script.Script.answer_other.Goals as goal

pub returns-in-Some-clause-answers : goal.returns-in-Some-clause-answers
returns-in-Some-clause-answers c = λ line so_far.
    OnOk-follows c.print_answer.result
    (λ printed. (
      reply_text printed.0,
      printed.2,
      (
        Ok c.in-Some.command,
        other_some line c.args.other c.in-Some.command so_far (sym c.in_ok-command.ensures ∙ c.in-Some.is),
        (printed.0, rw printed.1 at c.step-answered.ensures.steps, refl),
      ),
    ))
    c.print_answer.ensures.ok

pub returns-in-None-clause-answers : goal.returns-in-None-clause-answers
returns-in-None-clause-answers c = λ line so_far.
    OnOk-follows c.print_fault.result
    (λ printed. (
      codes "err " ++ fault_text fault.Faulty,
      printed,
      (Err fault.Faulty, other_none line c.args.other so_far (sym c.in_ok-command.ensures ∙ c.in-None.is), (refl, refl)),
    ))
    c.print_fault.ensures.ok

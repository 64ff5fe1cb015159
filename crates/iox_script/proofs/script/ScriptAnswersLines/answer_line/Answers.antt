use Rattle.std.proofs.Common.{◌++◌, Ok, Err, codes, refl}
use Rattle.iox_conversation.proofs.Advancing.{OnOk-follows}
use Rattle.iox_hub_commands.specs.CommandPorts.{command_of}
use Rattle.iox_line.specs.LineFault.{fault_text}
use Rattle.iox_line.specs.ReplyText.{reply_text}
use Rattle.iox_script.proofs.script.ScriptAnswersLines.answer_line.Goals as goal

pub returns-in-OfPort-clause-answers : goal.returns-in-OfPort-clause-answers
returns-in-OfPort-clause-answers c =
    OnOk-follows c.print_answer.result
    (λ printed. (
      reply_text printed.0,
      printed.2,
      (Ok (command_of c.in-OfPort.command), c.in-OfPort.ensures, (printed.0, rw printed.1 at c.step_port-answered.ensures.steps, refl)),
    ))
    c.print_answer.ensures.ok

pub returns-in-Other-clause-answers : goal.returns-in-Other-clause-answers
returns-in-Other-clause-answers c = c.answer_other.ensures.answers c.args.line.now c.in-Other.ensures

pub returns-in-Fault-clause-answers : goal.returns-in-Fault-clause-answers
returns-in-Fault-clause-answers c =
    OnOk-follows c.print_fault.result
    (λ printed. (codes "err " ++ fault_text c.in-Fault.fault, printed, (Err c.in-Fault.fault, c.in-Fault.ensures, (refl, refl))))
    c.print_fault.ensures.ok

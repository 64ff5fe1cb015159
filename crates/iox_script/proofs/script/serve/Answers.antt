use Rattle.std.proofs.Common.{[], refl, inr, arith}
use Rattle.std.proofs.KnownBytes.{Consumes-nil, Appends-nil}
use Rattle.iox_conversation.proofs.Advancing.{Advances-none, BreaksOff-answered, BreaksOff-beginning}
use Rattle.iox_conversation.specs.declared.error.ServeError.TheVariants.{OutOfMemory}
use Rattle.iox_hub_commands.specs.Numbers.{numbers_used}
use Rattle.iox_script.proofs.Following.{IfErr-each, breaks_off_as_new_machine, conversation_as_new_machine}
use Rattle.iox_script.specs.Conversation.{AnswersLine}
use Rattle.iox_script.proofs.script.serve.Goals as goal

pub returns-in_default-clause-broken : goal.returns-in_default-clause-broken
returns-in_default-clause-broken g c = (
  record { hub = c.new-hub.result; scratch = [] },
  c.new-hub.ensures.is_new,
  BreaksOff-answered AnswersLine (λ script. numbers_used script.hub) OutOfMemory _ _ _ _ _ _ _ [] [] (Consumes-nil _) (omega arith)
      (Appends-nil _) (Advances-none _ _ _) refl (λ _. inr (refl, refl)),
)

pub returns-in_default-clause-beginning : goal.returns-in_default-clause-beginning
returns-in_default-clause-beginning g c =
    let broken = returns-in_default-clause-broken g c in (
      broken.0,
      broken.1,
      BreaksOff-beginning AnswersLine (λ script. numbers_used script.hub) OutOfMemory _ broken.0 _ _ _ _ broken.2,
    )

pub returns-in_default-clause-begun : goal.returns-in_default-clause-begun
returns-in_default-clause-begun g c =
    let broken = returns-in_default-clause-broken g c in
    breaks_off_as_new_machine c.runs_answer.ensures c.args.config broken.0 OutOfMemory _ _ _ _ _ broken.1 broken.2

pub returns-clause-answered : goal.returns-clause-answered
returns-clause-answered g c =
    conversation_as_new_machine c.runs_answer.ensures c.args.config (record { hub = c.new-hub.result; scratch = c.in-Ok.scratch }) _ _ _
    c.serve.result c.new-hub.ensures.is_new c.serve.ensures.conversation c.serve.ensures.few

pub returns-clause-begun : goal.returns-clause-begun
returns-clause-begun g c =
    IfErr-each c.serve.result
    (λ error broken. breaks_off_as_new_machine c.runs_answer.ensures c.args.config
    (record { hub = c.new-hub.result; scratch = c.in-Ok.scratch }) error _ _ _ _ _ c.new-hub.ensures.is_new broken)
    c.serve.ensures.broken

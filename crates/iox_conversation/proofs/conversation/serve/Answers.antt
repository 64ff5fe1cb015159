use Rattle.std.proofs.Common.{[], refl, inr, arith}
use Rattle.std.proofs.KnownBytes.{Consumes-nil, Appends-nil}
use Rattle.iox_conversation.proofs.Advancing.{Advances-none, BreaksOff-answered, BreaksOff-beginning, Converses-conversation, Converses-few}
use Rattle.iox_conversation.proofs.Advancing.{OnOk-follows, IfErr-follows}
use Rattle.iox_conversation.specs.declared.error.ServeError.TheVariants.{OutOfMemory}
use Rattle.iox_conversation.proofs.conversation.serve.Goals as goal

pub returns-clause-conversation : goal.returns-clause-conversation
returns-clause-conversation g c =
    OnOk-follows c.converse.result (Converses-conversation _ _ c.args.machine _ _ _ _)
    (rw c.in-Ok.ensures at c.converse.ensures.conversation)

pub returns-clause-few : goal.returns-clause-few
returns-clause-few g c =
    OnOk-follows c.converse.result (Converses-few _ g.M.AnswersLines.used _ _ _ _ _)
    (rw c.in-Ok.ensures at c.converse.ensures.conversation)

pub returns-in_default-clause-broken : goal.returns-in_default-clause-broken
returns-in_default-clause-broken g c =
    BreaksOff-answered _ _ OutOfMemory _ _ _ _ _ _ _ [] [] (Consumes-nil _) (omega arith) (Appends-nil _) (Advances-none _ _ _) refl
    (λ _. inr (refl, refl))

pub returns-in_default-clause-beginning : goal.returns-in_default-clause-beginning
returns-in_default-clause-beginning g c =
    BreaksOff-beginning _ g.M.AnswersLines.used OutOfMemory _ _ _ _ _ _ (returns-in_default-clause-broken g c)

pub returns-clause-broken : goal.returns-clause-broken
returns-clause-broken g c = rw c.in-Ok.ensures at c.converse.ensures.broken

pub returns-clause-beginning : goal.returns-clause-beginning
returns-clause-beginning g c =
    IfErr-follows c.converse.result (λ error broken. BreaksOff-beginning _ g.M.AnswersLines.used error _ c.args.machine _ _ _ _ broken)
    (rw c.in-Ok.ensures at c.converse.ensures.broken)

pub returns-in_default-vec-clause-broken : goal.returns-in_default-vec-clause-broken
returns-in_default-vec-clause-broken g c =
    BreaksOff-answered _ _ OutOfMemory _ _ _ _ _ _ _ [] [] (Consumes-nil _) (omega arith) (Appends-nil _) (Advances-none _ _ _) refl
    (λ _. inr (refl, refl))

pub returns-in_default-vec-clause-beginning : goal.returns-in_default-vec-clause-beginning
returns-in_default-vec-clause-beginning g c =
    BreaksOff-beginning _ g.M.AnswersLines.used OutOfMemory _ _ _ _ _ _ (returns-in_default-vec-clause-broken g c)

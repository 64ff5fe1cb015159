use Rattle.std.proofs.Common.{List, ◌++◌, length}
use Rattle.example_tracer.specs.declared.exchange.Exchange.{Exchange}
use Rattle.example_tracer.specs.Conversation.{IsConversation}
use Rattle.example_tracer.proofs.exchange.conversation.Given as goal

-- whatever rows the rest is, the text is those so far with these after them
abbrev pub invariant-loop-rest : goal.invariant-loop-rest
invariant-loop-rest l = (others : List Exchange) → IsConversation l.rest others → IsConversation l.text (l.rows.items ++ others)

abbrev pub decreases-loop-rest : goal.decreases-loop-rest
decreases-loop-rest l = length l.rest

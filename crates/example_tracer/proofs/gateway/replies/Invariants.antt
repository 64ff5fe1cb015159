use Rattle.std.proofs.Common.{◌≡◌, ◌++◌, ◌∷◌, [], take}
use Rattle.std.specs.List.{flat_map}
use Rattle.example_tracer.proofs.gateway.replies.Given as goal

-- the replies so far, each with a newline
abbrev pub invariant-loop-it : goal.invariant-loop-it
invariant-loop-it l = l.text.items ≡ flat_map (λ it. it.reply.now ++ 10 ∷ []) (take l.it-index l.conversation)

use Rattle.std.proofs.Common.{◌≡◌, ◌==◌, ◌++◌, true, not, List, ℕ, length}
use Rattle.std.specs.List.{list_all}
use Rattle.iox_conversation.specs.Conversation.{Advances}
use Rattle.iox_conversation.proofs.session.Session.take_bytes.Given as goal

abbrev pub invariant-loop-end : goal.invariant-loop-end
invariant-loop-end g l = (taken : List ℕ) × (l.bytes ≡ taken ++ l.rest) × (text : List ℕ) × (l.out.items ≡ l.initial.out.items ++ text)
    × Advances g.M.AnswersLines.answers g.M.AnswersLines.used l.initial.self taken text l.self
    × (list_all (λ b. not (b == 10)) l.self.line ≡ true)

abbrev pub decreases-loop-end : goal.decreases-loop-end
decreases-loop-end g l = length l.rest

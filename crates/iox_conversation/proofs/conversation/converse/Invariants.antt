use Rattle.std.proofs.Common.{◌≡◌, ◌==◌, true, not, ◌+◌, ◌*◌, ◌≤◌, List, [], ℕ, length}
use Rattle.std.specs.List.{list_all}
use Rattle.std.specs.Io.KnownBytes.{Consumes, Appends}
use Rattle.iox_conversation.specs.Conversation.{Advances}
use Rattle.iox_conversation.proofs.conversation.converse.Given as goal

abbrev pub invariant-loop-turn : goal.invariant-loop-turn
invariant-loop-turn g l = record {
  bytes : List ℕ;
  text : List ℕ;
  consumed : Consumes (g.R.Read.remaining l.initial.input.reader) (g.R.Read.remaining l.input.reader) bytes;
  written : Appends (g.W.Write.contents l.initial.output.writer) (g.W.Write.contents l.output.writer) text;
  advances : Advances g.M.AnswersLines.answers g.M.AnswersLines.used l.initial.session bytes text l.session;
  whole : list_all (λ b. not (b == 10)) l.session.line ≡ true;
  empty : l.out.items ≡ [];
  few : length bytes ≤ l.turn * 65536;
  calls : l.input.calls ≡ l.initial.input.calls + l.turn;
}

use Rattle.std.proofs.Common.{◌≡◌}
use Rattle.std.specs.Io.KnownBytes.{Keeps}
use Rattle.iox_conversation.proofs.output.Output.write.Given as goal

abbrev pub invariant-loop : goal.invariant-loop
invariant-loop g l = record {
  kept : Keeps (g.W.Write.contents l.initial.self.writer) (g.W.Write.contents l.self.writer);
  failed : l.self.failed ≡ l.initial.self.failed;
}

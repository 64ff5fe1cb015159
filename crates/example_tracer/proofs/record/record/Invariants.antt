use Rattle.std.proofs.Common.{◌≡◌, take}
use Rattle.example_tracer.specs.Record.{table_of}
use Rattle.example_tracer.proofs.record.record.Given as goal

abbrev pub invariant-loop-it : goal.invariant-loop-it
invariant-loop-it l = l.table.items ≡ table_of (take l.it-index l.conversation)

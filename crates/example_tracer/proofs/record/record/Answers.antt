use Rattle.std.proofs.Common.{◌≡◌, ◌∙◌, ap, ℕ, length, take, arith}
use Rattle.std.proofs.Math.Seq.{take-length}
use Rattle.example_tracer.specs.Record.{table_of}
use Rattle.example_tracer.proofs.RecordLemmas.{reads_back}
use Rattle.example_tracer.proofs.record.record.Goals as goal

pub returns-clause-read_back : goal.returns-clause-read_back
returns-clause-read_back c =
    let ended : c.loop-it.it-index ≡ length c.args.conversation.now = omega arith in
    let table : c.loop-it.table.items ≡ table_of c.args.conversation.now =
    c.loop-it.invariant ∙ ap table_of (ap (λ (n : ℕ). take n c.args.conversation.now) ended ∙ take-length c.args.conversation.now) in
    rw table (reads_back c.args.conversation.now)

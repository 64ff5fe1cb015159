use Rattle.std.proofs.Common.{subst, Some}
use Rattle.iox_hub_commands.proofs.Arrived.{comes_under, replies_taken}
use Rattle.iox_hub_commands.specs.Receiving.{IsShown, values_held}
use Rattle.iox_hub_commands.specs.declared.ports.made.MadeSample.{MadeSample}
use Rattle.iox_hub_commands.proofs.receiving.reply_to.Goals as goal

pub returns-in-Some-Ok-Some : goal.returns-in-Some-Ok-Some
returns-in-Some-Ok-Some g c =
    let taken = c.in-Some-Ok-Some.taken in
    let sample : MadeSample = record { port = c.args.port; taken = taken } in
    let is_ok = rw c.in-Some-Ok-Some.is at c.in-Some-Ok-Some.field-0-is in
    let is_some = rw (c.in-Some-Ok-Some.is, is_ok) at c.in-Some-Ok-Some.field-0-0-is in
    rw c.in-Some-Ok-Some.is
    (replies_taken c.args.port (Some c.args.ports.now) c.in-Some-Ok-Some.field-0 c.in-Some-Ok-Some.field-0-0 taken c.args.samples.now
    c.insert_next.new.self c.arrival.result is_ok is_some (
      subst (λ number. IsShown number (values_held taken (Some c.args.ports.now)) c.arrival.result) c.next_number-sample.ensures.value
          c.arrival.ensures,
      c.insert_next.ensures.table,
      comes_under c.args.samples.now sample c.insert_next.new.self c.next_number-sample.ensures.rises c.insert_next.ensures.table,
    ))

use Rattle.std.proofs.Common.{rules, ◌≡◌, ap, replicate}
use Rattle.iox_domain_ports.specs.Rows.{rows_in}
use Rattle.iox_domain_ports.proofs.RowsIn.{rows_empty}
use Rattle.iox_domain_ports.proofs.messages.rows.Rows.new.Goals as goal

pub returns : goal.returns
returns g c =
    let lengths : c.in_ok-vec-2.field-0.items ≡ replicate c.args.rows 0 = search (rules, c.in_ok-vec-2.ensures) in
    rw (← rows_empty c.args.room c.args.rows c.in_ok-vec.field-0.items)
    (ap (λ ns. record { room = c.args.room; rows = rows_in c.args.room ns c.in_ok-vec.field-0.items }) lengths)

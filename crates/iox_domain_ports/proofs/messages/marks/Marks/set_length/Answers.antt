use Rattle.std.proofs.Common.{arith, ap, length}
use Rattle.iox_domain_ports.proofs.Marking.{slot_there, as_many_rows, row_seen, row_long}
use Rattle.iox_domain_ports.proofs.messages.marks.Marks.set_length.Goals as goal

pub set_length-requires-clause-slot : goal.set_length-requires-clause-slot
set_length-requires-clause-slot c = slot_there c.self.inside.markings.items c.self.inside.rows c.args.self.now c.args.slot
    c.self.view_is c.requires.slot

pub set_length-requires-clause-last : goal.set_length-requires-clause-last
set_length-requires-clause-last c
    = omega (
      arith,
      c.requires.last,
      as_many_rows c.self.inside.markings.items c.self.inside.rows.payloads,
      ap (λ s. length s.payloads)
          c.self.view_is,
      ap (λ s. s.size) c.self.view_is,
    )

pub returns-clause-length : goal.returns-clause-length
returns-clause-length c = row_long c.self.inside.markings.items c.set_length.new.self c.args.slot c.args.count c.set_length.ensures.length

pub returns-clause-rest : goal.returns-clause-rest
returns-clause-rest c = row_seen c.self.inside.markings.items c.self.inside.rows c.set_length.new.self c.args.self.now c.args.slot
    c.self.view_is c.set_length.ensures.rest

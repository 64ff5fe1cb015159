use Rattle.std.proofs.Common.{arith}
use Rattle.std.proofs.lemmas.List.{length_push}
use Rattle.iox_domain_ports.proofs.Flagging.{flagged_pushed, all_flagged_pushed}
use Rattle.iox_domain_ports.proofs.keys.Keys.push.Goals as goal

pub invariant_of-self : goal.invariant_of-self
invariant_of-self c = let k = c.self.inside in (
  omega (arith, c.push_reserved.ensures.capacity, c.self.invariant.0),
  rw c.push_reserved.ensures.items (omega (arith, length_push k.items.items c.args.key, c.len.ensures, c.if-len-self.true)),
  rw c.push_reserved.ensures.items (flagged_pushed k.flags.items c.flag.new.flags.items k.items.items c.args.key c.flag.ensures.others
      c.self.invariant.2),
  rw c.push_reserved.ensures.items (all_flagged_pushed k.flags.items c.flag.new.flags.items k.items.items k.most_flags c.args.key
      c.flag.ensures.others c.flag.ensures.set c.self.invariant.3),
  c.flag.ensures.short,
  omega (arith, c.flag.ensures.room, c.self.invariant.5),
)

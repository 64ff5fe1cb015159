use Rattle.std.proofs.Common.{rules, arith, ◌≡◌, ◌==◌, ◌<◌, ◌∙◌, true, false, length, get_or, remove, sym, ap}
use Rattle.std.specs.List.{list_any}
use Rattle.iox_domain_ports.proofs.Flagging.{unflagged, still_flagged, all_flagged_removed, all_flagged_cleared}
use Rattle.iox_domain_ports.proofs.keys.Keys.remove.Goals as goal

pub invariant_of-self : goal.invariant_of-self
invariant_of-self c =
    let k = c.self.inside in
    let inside : c.args.place < length k.items.items = omega arith in
    let is : c.remove-key.result ≡ get_or k.items.items c.args.place c.remove-key.result = search (rules, c.remove-key.ensures) in
    let none : list_any (λ other. other == c.remove-key.result) (remove k.items.items c.args.place) ≡ false
    = ap (λ keys. list_any (λ other. other == c.remove-key.result) keys)
    (sym c.remove-key.ensures.items ∙ sym c.as_slice.ensures.value)
    ∙ sym c.is_in.ensures ∙ c.if-not-is_in.true in (
      omega (arith, c.remove-key.ensures.capacity, c.self.invariant.0),
      omega arith,
      rw c.remove-key.ensures.items (unflagged k.flags.items c.unflag.new.flags.items k.items.items c.args.place
          c.remove-key.result inside is c.unflag.ensures.none c.unflag.ensures.others c.self.invariant.2),
      rw c.remove-key.ensures.items (all_flagged_cleared k.flags.items c.unflag.new.flags.items k.items.items k.most_flags
          c.args.place c.remove-key.result inside c.unflag.ensures.others none c.self.invariant.3),
      omega (arith, c.unflag.ensures.short, c.self.invariant.4),
      omega (arith, c.unflag.ensures.room, c.self.invariant.5),
    )

pub invariant_of-self-else-not-is_in : goal.invariant_of-self-else-not-is_in
invariant_of-self-else-not-is_in c =
    let k = c.self.inside in
    let inside : c.args.place < length k.items.items = omega arith in
    let is : c.remove-key.result ≡ get_or k.items.items c.args.place c.remove-key.result = search (rules, c.remove-key.ensures) in
    let left : list_any (λ other. other == c.remove-key.result) (remove k.items.items c.args.place) ≡ true
    = ap (λ keys. list_any (λ other. other == c.remove-key.result) keys)
    (sym c.remove-key.ensures.items ∙ sym c.as_slice.ensures.value)
    ∙ sym c.is_in.ensures ∙ c.if-not-is_in.false in (
      omega (arith, c.remove-key.ensures.capacity, c.self.invariant.0),
      omega arith,
      rw c.remove-key.ensures.items (still_flagged k.flags.items k.items.items c.args.place c.remove-key.result inside is left
          c.self.invariant.2),
      rw c.remove-key.ensures.items (all_flagged_removed k.flags.items k.items.items k.most_flags c.args.place inside
          c.self.invariant.3),
      c.self.invariant.4,
      c.self.invariant.5,
    )

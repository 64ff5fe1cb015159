use Rattle.std.proofs.Common.{rules, arith, ℕ, ◌≡◌, ◌++◌, ◌∷◌, [], ◌∙◌, ap, false, length, replicate}
use Rattle.std.proofs.lemmas.List.{length-replicate, length_push}
use Rattle.iox_domain_slots.proofs.Loaned.{none_yet, IsList}
use Rattle.iox_domain_slots.proofs.loans.Loans.new.Goals as goal

pub invariant_of-result : goal.invariant_of-result
invariant_of-result c =
    let older : c.in_ok-older.older.items ≡ replicate c.args.slots 0 = search (rules, c.in_ok-older.ensures) in
    let newer : c.in_ok-newer.newer.items ≡ replicate c.args.slots 0 = search (rules, c.in_ok-newer.ensures) in
    let lent : c.in_ok-lent.lent.items ≡ replicate c.args.slots false = search (rules, c.in_ok-lent.ensures) in
    let pushed : c.push.new.self.items ≡ c.in_ok-newer.newer.items ++ 0 ∷ [] = search (rules, c.in_ok-push.ensures.items) in
    let is : IsList c.in_ok-older.older.items c.push.new.self.items c.args.slots 0 c.in_ok-lent.lent.items
    = none_yet _ _ _ c.args.slots (ap length older ∙ length-replicate c.args.slots 0)
    (omega (arith, ap length pushed, length_push c.in_ok-newer.newer.items 0, ap length newer, length-replicate {A = ℕ} c.args.slots 0))
    lent in (
      is.0,
      is.1,
      is.2,
      is.3,
      omega arith,
      omega (arith, ap length pushed, length_push c.in_ok-newer.newer.items 0, c.push.new.self.ok.0, c.push.new.self.ok.1),
      omega arith,
    )

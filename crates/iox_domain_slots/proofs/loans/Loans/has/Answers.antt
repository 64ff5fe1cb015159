use Rattle.std.proofs.Common.{arith, ◌≡◌, ◌≤◌, ◌∙◌, sym, ap, length, false, nat_lt}
use Rattle.std.proofs.lemmas.Bool.Decides.{nat_tests}
use Rattle.std.proofs.lemmas.List.{get_or_past, get_or_read}
use Rattle.iox_container.specs.Links.{walk}
use Rattle.iox_container.specs.Unique.{is_among}
use Rattle.iox_domain_slots.proofs.Loaned.{among_reverse}
use Rattle.iox_domain_slots.proofs.loans.Loans.has.Goals as goal

pub returns-then-slot-len-clause-there : goal.returns-then-slot-len-clause-there
returns-then-slot-len-clause-there c =
    let l = c.self.inside in
    get_or_read l.lent.items _ _ (grind (arith, nat_tests, c.if-slot-len.true, c.len.ensures)) c.index.ensures false
    ∙ c.self.invariant.1 c.args.slot ∙ sym (among_reverse c.args.slot (walk l.older.items l.len l.newest)) ∙ ap
    (λ s. is_among c.args.slot s.items) c.self.view_is

pub returns-then-slot-len-clause-made : goal.returns-then-slot-len-clause-made
returns-then-slot-len-clause-made c is =
    omega (arith, c.if-slot-len.true, c.len.ensures, c.self.invariant.2, ap (λ s. s.made) c.self.view_is)

pub returns-else-slot-len-clause-there : goal.returns-else-slot-len-clause-there
returns-else-slot-len-clause-there c =
    let l = c.self.inside in
    let past : length l.lent.items ≤ c.args.slot = omega (arith, c.if-slot-len.false, c.len.ensures) in
    let test : nat_lt c.args.slot c.len.result ≡ false = grind (arith, nat_tests, c.if-slot-len.false) in
    test ∙ sym (get_or_past l.lent.items c.args.slot false past)
    ∙ c.self.invariant.1 c.args.slot ∙ sym (among_reverse c.args.slot (walk l.older.items l.len l.newest)) ∙ ap
    (λ s. is_among c.args.slot s.items) c.self.view_is

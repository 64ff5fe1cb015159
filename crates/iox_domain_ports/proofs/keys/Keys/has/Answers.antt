use Rattle.std.proofs.Common.{arith, ◌≡◌, ◌==◌, ◌≤◌, ◌∙◌, true, false, length, get_or, sym, ap, subst}
use Rattle.std.specs.List.{list_any}
use Rattle.std.proofs.lemmas.List.{get_or_past}
use Rattle.iox_domain_slots.proofs.Loaned.{not_true}
use Rattle.iox_domain_ports.specs.Keys.{IsKeyOf}
use Rattle.iox_domain_ports.proofs.Flagging.{found_there, there_found}
use Rattle.iox_domain_ports.proofs.keys.Keys.has.Goals as goal

pub returns-else-key-len-clause-all : goal.returns-else-key-len-clause-all
returns-else-key-len-clause-all c = λ among.
    let there : IsKeyOf c.args.key c.self.inside.items.items
    = subst (λ keys. IsKeyOf c.args.key keys.items) (sym c.self.view_is) among in
    let flagged : get_or c.self.inside.flags.items c.args.key false ≡ true = c.self.invariant.3 c.args.key (omega arith) there in
    let past : length c.self.inside.flags.items ≤ c.args.key = omega arith in
    let no : false ≡ true = sym (get_or_past c.self.inside.flags.items c.args.key false past) ∙ flagged in
    absurd (not_true no)

pub returns-else-key-self-clause-there : goal.returns-else-key-self-clause-there
returns-else-key-self-clause-there c = λ found.
    subst (λ keys. IsKeyOf c.args.key keys.items) c.self.view_is (found_there c.args.key c.self.inside.items.items
    (sym (ap (λ keys. list_any (λ other. other == c.args.key) keys) c.as_slice.ensures.value) ∙ sym c.is_in.ensures ∙ found))

pub returns-else-key-self-clause-all : goal.returns-else-key-self-clause-all
returns-else-key-self-clause-all c = λ among.
    c.is_in.ensures ∙ ap (λ keys. list_any (λ other. other == c.args.key) keys) c.as_slice.ensures.value
    ∙ there_found c.args.key c.self.inside.items.items (subst (λ keys. IsKeyOf c.args.key keys.items) (sym c.self.view_is) among)

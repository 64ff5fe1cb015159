use Rattle.std.proofs.Common.{arith, ◌≡◌, ◌<◌, ◌∙◌, ℕ, true, false, List, get_or, Option, None, Some, refl, sym}
use Rattle.std.specs.List.{position}
use Rattle.std.proofs.lemmas.List.Quantifiers.{position-Some}
use Rattle.iox_domain_ports.specs.Places.{leads_to, IsUpTo}
use Rattle.iox_domain_ports.specs.declared.reader.Reader.{Reader}
use Rattle.iox_domain_ports.proofs.readers.Readers.connection_to.Goals as goal

-- who has no higher number isn't a subscriber of a higher one
other_leads : (subscriber newest : ℕ) (found : Option Reader) → newest < subscriber → IsUpTo newest found
    → leads_to subscriber found ≡ false
other_leads subscriber newest None above up = refl
other_leads subscriber newest (Some reader) above up = grind (arith, above, up)

-- where none leads to a subscriber none is found
none_found : (subscriber : ℕ) (readers : List (Option Reader))
    → ((index : ℕ) → leads_to subscriber (get_or readers index None) ≡ false) → position (leads_to subscriber) readers ≡ None
none_found subscriber readers none = at (position (leads_to subscriber) readers) refl
  where
    at : (found : Option ℕ) → position (leads_to subscriber) readers ≡ found → position (leads_to subscriber) readers ≡ None
    at None is = is
    at (Some index) is =
        let no : true ≡ false = sym (position-Some (leads_to subscriber) readers index None is).1 ∙ none index in absurd (cc)

pub returns-then-self-subscriber : goal.returns-then-self-subscriber
returns-then-self-subscriber c = rw (← c.self.view_is) (sym (none_found c.args.subscriber c.self.inside.items.items
    (λ index. other_leads c.args.subscriber c.self.inside.newest (get_or c.self.inside.items.items index None)
    c.if-self-subscriber.true (c.self.invariant.0 index))))

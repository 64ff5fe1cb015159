use Rattle.std.proofs.Common.{◌∙◌, ap}
use Rattle.iox_container.specs.Unique.{is_among}
use Rattle.iox_domain_slots.specs.Borrowed.{slots_in}
use Rattle.iox_domain_slots.proofs.Borrowing.{found_tells}
use Rattle.iox_domain_slots.proofs.borrowed.Borrowed.has.Goals as goal

pub returns : goal.returns
returns c =
    c.is_some.ensures
    ∙ found_tells c.as_slice.result.now c.self.inside.order.items c.args.slot c.oldest.result c.oldest.ensures.some c.oldest.ensures.none
    ∙ ap (λ slots. is_among c.args.slot (slots_in slots c.self.inside.order.items)) c.as_slice.ensures.value
    ∙ ap (λ b. is_among c.args.slot b.items) c.self.view_is

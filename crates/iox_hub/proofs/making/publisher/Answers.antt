use Rattle.std.proofs.Common.{◌∙◌, sym, ap}
use Rattle.std.specs.Prelude.{is_some}
use Rattle.iox_hub_commands.proofs.Coming.{publisher_comes}
use Rattle.iox_hub.specs.Places.{named, degradation_of, emptied_if}
use Rattle.iox_hub.proofs.Coming.{publisher_taken}
use Rattle.iox_hub.proofs.PlaceLemmas.{other_kind_stays}
use Rattle.iox_hub.proofs.making.publisher.Goals as goal

pub returns-clause-takes : goal.returns-clause-takes
returns-clause-takes g c =
    let full = c.take_backpressure-at_full.result in
    let failing = c.take_degradation-at_failure.result in
    let there = other_kind_stays c.args.named.0 c.args.named.1 c.args.given.now.places.items
    (ap (λ o. is_some o) c.take_backpressure-at_full.ensures.was) in
    let makes = publisher_comes g.U.Default.is_default
    (λ strategy action degrading. g.B.TakesHandlers.handled strategy action degrading full failing)
    (λ handlers. g.B.Degrades.degrades handlers) _ c.in-Some.place.0 c.in-Some.place.1 c.args.options.now c.args.hub.now
    c.publisher_with.new.self c.publisher_with.result c.in-Some.ensures.found
    (rw c.publisher_handlers-handlers.ensures at c.publisher_with.ensures.comes.0) c.publisher_with.ensures.comes.1 in
    publisher_taken g.U.Default.is_default
    (λ strategy action degrading at_full at_failure. g.B.TakesHandlers.handled strategy action degrading at_full at_failure)
    (λ handlers. g.B.Degrades.degrades handlers) _ _ full failing _ c.args.factory c.args.options.now _
    (c.args.hub.now, c.args.given.now.places.items) (c.publisher_with.new.self, c.take_degradation-at_failure.new.self.places.items)
    c.publisher_with.result
    c.take_backpressure-at_full.ensures.was
    (sym there ∙ (ap (λ given. named (λ lies. degradation_of lies) c.args.named.1 given) (sym c.take_backpressure-at_full.ensures.left)
    ∙ c.take_degradation-at_failure.ensures.was))
    (sym c.in-Some.ensures.here) makes
    (c.take_degradation-at_failure.ensures.left ∙ ap (λ given. emptied_if c.args.named.1 given) c.take_backpressure-at_full.ensures.left)

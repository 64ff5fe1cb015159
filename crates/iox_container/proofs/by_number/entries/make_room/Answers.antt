use Rattle.std.proofs.Common.{rules, ◌≡◌, ◌∙◌, is_some, ap}
use Rattle.std.proofs.lemmas.Fn.{filter_same}
use Rattle.std.specs.List.{filter}
use Rattle.iox_container.specs.ByNumber.{values_in}
use Rattle.iox_container.proofs.Valued.{rising-kept, shown-kept}
use Rattle.iox_container.proofs.by_number.entries.make_room.Goals as goal

pub returns-clause-rises : goal.returns-clause-rises
returns-clause-rises g c =
    let kept : c.reserve.new.self.items ≡ filter (λ entry. is_some entry.1) c.args.entries.now.items
    = c.reserve.ensures.items ∙ filter_same _ _ _ (λ x b f' k. search rules) _ _ c.retain.ensures.filtered in
    rw kept (rising-kept (λ entry. is_some entry.1) c.args.entries.now.items c.requires)

pub returns-clause-values : goal.returns-clause-values
returns-clause-values g c =
    let kept : c.reserve.new.self.items ≡ filter (λ entry. is_some entry.1) c.args.entries.now.items
    = c.reserve.ensures.items ∙ filter_same _ _ _ (λ x b f' k. search rules) _ _ c.retain.ensures.filtered in
    ap values_in kept ∙ shown-kept c.args.entries.now.items

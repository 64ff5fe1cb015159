use Rattle.std.proofs.Common.{rules, ◌<◌, ◌^◌, length, refl, ◌∙◌, ap}
use Rattle.iox_lanes.proofs.Built.{words_counted}
use Rattle.iox_lanes.proofs.Found.{was_made}
use Rattle.iox_lanes.proofs.finding.NewLanes.new.Goals as goal

pub returns-clause-small : goal.returns-clause-small
returns-clause-small c =
    let few : length c.words-words.result.now < 2 ^ 64 = search rules in
    words_counted c.args.sizes c.in_ok-lanes.lanes c.words-words.result.now (length c.words-words.result.now) c.in_ok-lanes.ensures
    (c.words-words.ensures ∙ ap (λ t. t.words) c.table.ensures) refl few

pub invariant_of-result : goal.invariant_of-result
invariant_of-result c =
    let some : 0 < c.args.sizes.buffer = search rules in
    let buffer : c.args.sizes.buffer < 2 ^ 61 = search rules in
    let borrowed : c.args.sizes.most_borrowed < 2 ^ 61 = search rules in
    let ports : c.args.sizes.subscribers < 2 ^ 61 = search rules in
    was_made c.args.sizes c.in_ok-lanes.lanes some buffer borrowed ports c.in_ok-lanes.ensures

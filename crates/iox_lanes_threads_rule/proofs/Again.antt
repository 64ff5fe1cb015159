-- What a load gives of a word that its port has loaded before.
use Rattle.std.proofs.Common.{sym, ◌∙◌}
use Rattle.iox_lanes_threads_rule.specs.Again.{LoadsGiveTheKnown}
use Rattle.iox_lanes_threads_rule.proofs.Seen.{seen_words_stand}

pub loads_give_the_known : LoadsGiveTheKnown
loads_give_the_known p w found place moment early seen =
    let stand = seen_words_stand p.service moment.words moment.ports p.number p.number place p p w moment.fit moment.backed early
    moment.there seen in
    sym stand.0 ∙ moment.holds

use Rattle.std.proofs.Common.{ap, ◌∙◌}
use Rattle.iox_domain_ports.specs.Census.{subscriber_share, share_at}
use Rattle.iox_domain.specs.Subscribers.{subscriber_of}
use Rattle.iox_domain_ports.proofs.Tallied.{subscriber_small, roomy_now}
use Rattle.iox_domain.proofs.ports.subscribers.note_another.Goals as goal

pub lend-requires : goal.lend-requires
lend-requires c =
    roomy_now subscriber_share c.args.census.now c.args.ports.now c.share_in-before.result subscriber_small c.requires
    (c.share_in-before.ensures ∙ ap (λ number. share_at subscriber_share (subscriber_of number c.args.ports.now)) c.lent-lent.ensures)

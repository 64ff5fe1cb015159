use Rattle.std.proofs.Common.{ap, ◌∙◌}
use Rattle.iox_domain_ports.specs.Census.{publisher_share, share_at}
use Rattle.iox_domain_ports.specs.Publishers.{port_of}
use Rattle.iox_domain_ports.proofs.Tallied.{publisher_small, roomy_now}
use Rattle.iox_domain_ports.proofs.publishers.note_another.Goals as goal

pub lend-requires : goal.lend-requires
lend-requires g c =
    roomy_now publisher_share c.args.census.now c.args.ports.now c.share_in-before.result publisher_small c.requires
    (c.share_in-before.ensures ∙ ap (λ number. share_at publisher_share (port_of number c.args.ports.now)) c.lent-lent.ensures)

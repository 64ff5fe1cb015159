use Rattle.iox_hub_commands.proofs.Put.{puts_here}
use Rattle.iox_hub_commands.proofs.ports.made.Made.put.Goals as goal

pub returns : goal.returns
returns g c =
    puts_here g.H.LendsDomains.domain_of g.H.LendsDomains.changed g.met.H.LendsDomains.changed_found g.met.H.LendsDomains.alike
    g.met.H.LendsDomains.unchanged g.met.H.LendsDomains.again
    (λ kept. g.H.ForPublishers.Degrades.degrades kept) (λ kept. g.H.ForPublishers.Decides.decides kept)
    c.in_ok-port.port c.args.values.now c.args.home.now c.put.new.home _ c.put.result c.in_ok-port.ensures c.put.ensures

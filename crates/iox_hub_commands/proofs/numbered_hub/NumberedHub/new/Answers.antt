use Rattle.std.proofs.Common.{arith, ◌≡◌, length, ap, inl}
use Rattle.iox_hub_base.specs.Room.{loans_left_in, samples_left_in}
use Rattle.iox_hub_commands.proofs.ServicesAgree.{nothing_agrees}
use Rattle.iox_hub_commands.proofs.numbered_hub.NumberedHub.new.Goals as goal

pub returns-clause-one_agreement : goal.returns-clause-one_agreement
returns-clause-one_agreement g c =
    nothing_agrees c.new-2.result.made c.new.result c.args.config.id (ap (λ table. table.entries) c.new-2.ensures)
    (ap (λ services. services.domains) c.new.ensures.services) c.new.ensures.table

pub returns-clause-room : goal.returns-clause-room
returns-clause-room g c =
    let none = ap (λ services. services.domains) c.new.ensures.services in
    let made = c.new-3.ensures in
    let loans = ap (λ made. length made.loans.entries) made in
    let samples = ap (λ made. length made.samples.entries) made in
    let left : loans_left_in c.new.result.services.domains ≡ 0 = ap loans_left_in none in
    let come : samples_left_in c.new.result.services.domains ≡ 0 = ap samples_left_in none in (
      (omega (arith, loans, left), inl (ap (λ made. made.publishers.entries) made)),
      (omega (arith, samples, come), inl (ap (λ made. made.subscribers.entries) made)),
    )

use Rattle.iox_domain_machine.proofs.Ample.{ample}
use Rattle.iox_domain_machine.proofs.EndedHeld.{lends_one, no_more_ended, none_besides, of_found}
use Rattle.iox_domain_machine.proofs.FewConnections.{few_always, few_in_run}
use Rattle.iox_machine.specs.Choices.{chosen_by}
use Rattle.iox_machine.specs.Ports.{publisher_in}
use Rattle.iox_machine.specs.RunLaws.{CameAs}
use Rattle.iox_machine.specs.State.{new_state}
use Rattle.std.specs.Prelude.{is_some}
use Rattle.iox_domain_machine.proofs.connections_are_few.Goals as goal

pub returns : goal.returns
returns g c = λ handed. record {
  always = few_always;
  followed = λ types buffer asked answers state names lent held ports service number port run found standing apart there stands seen.
      few_in_run names lent held buffer ports service number port standing apart there stands
      (chosen_by g.T.Default.is_default (λ who. g.B.Decides.decides who) (λ who. g.B.Degrades.degrades who)
      (λ who. g.D.Degrades.degrades who) handed) types asked answers state run
      (c.a_publisher_is_connected_as_listed.ensures handed) found seen;
  ample = λ types buffer asked answers state names lent held ports service number port run found standing apart allowed there stands seen.
      ample ports number port allowed there (few_in_run names lent held buffer ports service number port standing apart there stands
      (chosen_by g.T.Default.is_default (λ who. g.B.Decides.decides who) (λ who. g.B.Degrades.degrades who)
      (λ who. g.D.Degrades.degrades who) handed) types asked answers state run
      (c.a_publisher_is_connected_as_listed.ensures handed) found seen);
  ended = λ names lent held buffer ports service number port standing there.
      no_more_ended names lent held buffer ports service number port standing there;
  agreed = λ types buffer asked answers state names lent held ports service number port run found standing roomy there stands seen none
      enough. ample ports number port roomy.allowed there (few_in_run names lent held buffer ports service number port standing roomy.tied
      there stands (chosen_by g.T.Default.is_default (λ who. g.B.Decides.decides who) (λ who. g.B.Degrades.degrades who)
      (λ who. g.D.Degrades.degrades who) handed) types asked answers state run
      (c.a_publisher_is_connected_as_listed.ensures handed) found seen)
      (none_besides names lent held buffer ports service number port standing there none enough);
  lends = λ types buffer asked answers state names lent held ports service number port new allocation values elements run found standing
      roomy there stands seen suffices fits loans. lends_one names lent held buffer ports service number port standing there roomy
      (λ named options. CameAs types (chosen_by g.T.Default.is_default (λ who. g.B.Decides.decides who)
      (λ who. g.B.Degrades.degrades who) (λ who. g.D.Degrades.degrades who) handed) buffer named options asked new_state answers state run)
      (of_found _ (λ other. is_some (publisher_in (names.publisher number) other)) state.services service found
      (c.sizes_are_agreed.ensures handed types buffer asked answers state run))
      (few_in_run names lent held buffer ports service number port standing roomy.tied there stands
      (chosen_by g.T.Default.is_default (λ who. g.B.Decides.decides who) (λ who. g.B.Degrades.degrades who)
      (λ who. g.D.Degrades.degrades who) handed) types asked answers state run
      (c.a_publisher_is_connected_as_listed.ensures handed) found seen)
      new allocation values elements suffices fits loans;
}

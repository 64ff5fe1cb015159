-- Which services of the machine the domains of a hub are of, where there is one factory or one domain more.
use Rattle.std.proofs.Common.{◌≡◌, ℕ, true, List, [], ◌∷◌, ◌++◌, Some, refl, sym, ap, subst, ◌∙◌}
use Rattle.std.proofs.lemmas.Bool.{eq-eqb}
use Rattle.std.specs.Prelude.{is_some}
use Rattle.iox_container.specs.NumberTable.{value_at}
use Rattle.iox_domain.specs.declared.ports.service_ports.ServicePorts.{ServicePorts}
use Rattle.iox_domain_machine.proofs.Found.{at_head}
use Rattle.iox_hub_base.specs.Open.{OpenServices, domain_of}
use Rattle.iox_hub_commands.specs.ServicesTables.{FactoryTable}
use Rattle.iox_hub_commands.specs.declared.services.made.MadeFactory.{MadeFactory}
use Rattle.iox_hub_machine.proofs.TableMore.{some_behind}
use Rattle.iox_hub_machine.specs.Services.{AreServedInTurn, IsServedBy}
use Rattle.iox_machine.specs.Service.{Service}
use Rattle.iox_machine.specs.Table.{at}

module _ {T U B D : Type 0} (table later : FactoryTable) (services then : OpenServices T U B D)
    (still : (number : ℕ) (made : MadeFactory) → value_at table number ≡ Some made → value_at later number ≡ Some made) where
  -- where factories go by their numbers still, and the domains are as they were, these are of the same services
  pub served_still : (domains : List (ℕ × ServicePorts T U))
      → ((number : ℕ) → is_some (at number domains) ≡ true → domain_of number then.domains ≡ domain_of number services.domains)
      → (these : List (Service T)) → AreServedInTurn table services domains these → AreServedInTurn later then domains these
  served_still [] same these is = is
  served_still (one ∷ domains) same [] is = absurd is
  served_still (one ∷ domains) same (service ∷ these) (it, rest) = (
    record {
      factory = it.factory;
      made = it.made;
      found = still it.factory it.made it.found;
      pattern = it.pattern;
      number_is = it.number_is;
      name = it.name;
      carried = it.carried;
      agreed = λ domain found. it.agreed domain
          (sym (same one.0 (ap is_some (at_head one.0 one domains (eq-eqb one.0 one.0 refl)))) ∙ found);
    },
    served_still domains (λ number is. same number (some_behind number one domains is)) these rest,
  )

  -- and one more may be of one more
  pub served_more : (domains : List (ℕ × ServicePorts T U)) (number : ℕ) (ports : ServicePorts T U) (these : List (Service T))
      (service : Service T) → AreServedInTurn later then domains these → IsServedBy later then number service
      → AreServedInTurn later then (domains ++ (number, ports) ∷ []) (these ++ service ∷ [])
  served_more [] number ports these service is one =
      subst (λ (l : List (Service T)). AreServedInTurn later then ((number, ports) ∷ []) (l ++ service ∷ [])) (sym is) (one, refl)
  served_more (first ∷ domains) number ports [] service is one = absurd is
  served_more (first ∷ domains) number ports (another ∷ these) service (it, rest) one =
      (it, served_more domains number ports these service rest one)

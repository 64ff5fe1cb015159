-- Factories of one service carry the same, and its domain serves them.
use Rattle.std.proofs.Common.{◌≡◌, ℕ, Some, sym}
use Rattle.std.specs.Prelude.{nat_eq}
use Rattle.std.specs.Ordering.{nat_cmp}
use Rattle.std.specs.BTreeMap.{is_at}
use Rattle.std.proofs.lemmas.Map.Lookups.{exact_unsigned}
use Rattle.iox_delivery.specs.DescribeSettings.declared.static_config.Settings.TheVariants.{PublishSubscribe}
use Rattle.iox_hub_base.specs.declared.hub.Hub.{Hub}
use Rattle.iox_delivery.specs.Container.NumberTable.{value_at}
use Rattle.iox_hub_commands.specs.ServicesTables.{FactoryTable}
use Rattle.iox_hub_commands.specs.declared.services.made.MadeFactory.{MadeFactory}
use Rattle.iox_negotiate.proofs.Changes.{equal-of}
use Rattle.iox_negotiate.proofs.Maps.{among, among-all}
use Rattle.iox_hub_commands.specs.Agreements.{IsAgreement, AreOfOneAgreement, agreed_in}
use Rattle.iox_hub_commands.specs.AgreementLaws.{service_of, carried_by, FactoriesAgree, DomainsServe, AgreementIsOne}

module _ {T U B D : Type 0} (table : FactoryTable) (hub : Hub T U B D) (one_each : AreOfOneAgreement table hub) where
  -- what the service of a factory that goes by a number agreed on
  agreed_by : (number : ℕ) (factory : MadeFactory) → value_at table number ≡ Some factory
      → IsAgreement (service_of factory) (carried_by factory) table hub
  agreed_by number factory found =
      let (under, at, there) = among (nat_eq number) table.entries factory found in
      among-all (λ one. IsAgreement (service_of one.1) (carried_by one.1) table hub) table.entries (under, factory) there
      one_each.of_factories

  pub factories_agree : FactoriesAgree table
  factories_agree one other first second found_first found_second same =
      let (under, at, there) = among (nat_eq other) table.entries second found_second in
      let agreement = agreed_by one first found_first in
      let carries : service_of second ≡ service_of first → carried_by second ≡ carried_by first =
      among-all (λ factory. service_of factory.1 ≡ service_of first → carried_by factory.1 ≡ carried_by first) table.entries
      (under, second) there agreement.carried in
      sym (carries (sym same))

  pub domains_serve : DomainsServe table hub
  domains_serve one factory presence found is_there =
      let (under, at, there) = among (is_at (nat_cmp (service_of factory))) hub.services.domains presence is_there in
      let agreement = agreed_by one factory found in
      let serves : under ≡ service_of factory → (carried_by factory).settings ≡ PublishSubscribe (agreed_in presence) =
      among-all (λ service. service.0 ≡ service_of factory → (carried_by factory).settings ≡ PublishSubscribe (agreed_in service.1))
      hub.services.domains (under, presence) there agreement.served in
      serves (sym (exact_unsigned (service_of factory) under (equal-of (nat_cmp (service_of factory) under) at)))

pub agreement_is_one : {T U B D : Type 0} → AgreementIsOne T U B D
agreement_is_one table hub one_each = (factories_agree table hub one_each, domains_serve table hub one_each)

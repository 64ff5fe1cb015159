-- Each command on services leaves each service of one agreement, where each was.
use Rattle.std.proofs.Common.{◌≡◌, ◌∙◌, ◌⊎◌, ⊎_elim, ℕ, Bool, true, false, List, [], Option, None, Some, Result, Ok, Err, refl, sym, ap}
use Rattle.std.proofs.Common.{subst, inl, inr, if◌then◌else◌, nat_eq}
use Rattle.std.specs.BTreeMap.{is_at}
use Rattle.std.specs.List.{AllByRecursion}
use Rattle.std.specs.Map.{remove_entry}
use Rattle.std.specs.Ordering.{nat_cmp}
use Rattle.std.specs.Result.{result_map_both}
use Rattle.std.specs.declared.alloc.AllocError.{AllocError}
use Rattle.iox_command.specs.declared.refusal.HubError.{HubError}
use Rattle.iox_command.specs.declared.refusal.Refusal.{Refusal}
use Rattle.iox_command.specs.declared.service.ServiceOptions.{ServiceOptions}
use Rattle.iox_command.specs.declared.service.ServiceOptions.TheVariants as options
use Rattle.iox_command.specs.declared.step.ForeignStep.{ForeignStep as Named}
use Rattle.iox_command.specs.declared.step.StepBefore.{StepBefore}
use Rattle.iox_negotiate.specs.Describe.Within.{HasForm, IsWithinLimits}
use Rattle.iox_delivery.specs.DescribeBase.Attributes.{Required}
use Rattle.iox_delivery.specs.DescribeBase.Detail.{Detail}
use Rattle.iox_delivery.specs.DescribeBase.declared.attribute.Attribute.{Attribute}
use Rattle.iox_delivery.specs.DescribeBase.declared.hash.ServiceHash.{ServiceHash}
use Rattle.iox_delivery.specs.DescribeBase.declared.message_type.MessageTypeDetails.{MessageTypeDetails}
use Rattle.iox_delivery.specs.DescribeBase.declared.pattern.MessagingPattern.{MessagingPattern}
use Rattle.iox_delivery.specs.DescribeSettings.Agreement.{Agreement, AreWithinLimits}
use Rattle.iox_delivery.specs.DescribeSettings.declared.static_config.Settings.{Settings}
use Rattle.iox_delivery.specs.DescribeSettings.declared.static_config.Settings.TheVariants.{PublishSubscribe}
use Rattle.iox_hub_base.specs.Closing.{is_last, less_one}
use Rattle.iox_hub_base.specs.Opening.{Made, Settles, OpensInHub}
use Rattle.iox_hub_base.specs.declared.hub.Hub.{Hub}
use Rattle.iox_hub_base.specs.Open.{OpenServices}
use Rattle.iox_hub_base.specs.ServicesOpening.{Opens as ServiceOpens}
use Rattle.iox_hub_base.specs.declared.presence.Presence.{Presence}
use Rattle.iox_hub_base.specs.declared.presence.Presence.TheVariants.{Here}
use Rattle.iox_hub_commands.specs.Closing.{ClosesUnless, ClosesIfOf, ClosesNumbered}
use Rattle.iox_hub_commands.specs.Creating.{CreatesAs, CreatesPrepared, CreatesNumbered}
use Rattle.iox_hub_commands.specs.Either.{EitherAs, EitherPrepared, EitherNumbered}
use Rattle.iox_hub_commands.specs.Foreign.{ActsNamed}
use Rattle.iox_hub_commands.specs.ServicesNumbering.{Prepares, Numbers, GetsNumber}
use Rattle.iox_hub_commands.specs.Opening.{OpensAs, OpensPrepared, OpensNumbered}
use Rattle.iox_hub_commands.specs.ServicesTables.{FactoryTable, parts_of}
use Rattle.iox_hub_commands.specs.declared.services.asked.ServiceAsked.{ServiceAsked}
use Rattle.iox_hub_commands.specs.declared.services.made.MadeFactory.{MadeFactory}
use Rattle.iox_negotiate.proofs.Meeting.{opens-met, either-met}
use Rattle.iox_negotiate.specs.Asked.{IsRefusal}
use Rattle.iox_negotiate.specs.Factory.{membership}
use Rattle.iox_negotiate.specs.Negotiation.{Negotiates, Creates, Either}
use Rattle.iox_negotiate.specs.declared.factory.Membership.{Membership}
use Rattle.iox_negotiate.specs.NegotiateBase.declared.errors.close.CloseError.{CloseError}
use Rattle.iox_negotiate.proofs.Agreements.{agrees, past-on, no-past, stepped-went-past, went-past, reached-on, was-agreed-on}
use Rattle.iox_negotiate.proofs.Maps.{Among, among-all}
use Rattle.iox_negotiate.proofs.Stepping.{Past, acts-ran}
use Rattle.iox_negotiate.specs.Agreements.{WasAgreed}
use Rattle.iox_negotiate.specs.Calls as call
use Rattle.iox_negotiate.specs.Histories.{IsReached}
use Rattle.iox_negotiate.proofs.NegotiateBase.Counting.{creates-service}
use Rattle.iox_negotiate.specs.NegotiateBase.Creating.{CreatesIf}
use Rattle.iox_negotiate.specs.NegotiateBase.Opening.{Opens, OpensOrCreates}
use Rattle.iox_negotiate.specs.NegotiateBase.Runs.{Does}
use Rattle.iox_negotiate.specs.NegotiateBase.declared.failure.CreateFailure.{CreateFailure}
use Rattle.iox_negotiate.specs.NegotiateBase.declared.failure.OpenFailure.{OpenFailure}
use Rattle.iox_negotiate.specs.NegotiateBase.declared.failure.OpenOrCreateFailure.{OpenOrCreateFailure}
use Rattle.iox_negotiate.specs.NegotiateBase.declared.request.Opened.{Opened}
use Rattle.iox_negotiate.specs.NegotiateTable.Contents.{Contents, empty_table}
use Rattle.iox_negotiate.specs.NegotiateTable.Stepped.{Steps, SteppedSight}
use Rattle.iox_negotiate.specs.NegotiateTable.declared.step.ForeignStep.{ForeignStep}
use Rattle.iox_hub_commands.specs.Agreements.{agreed_in, IsAgreement, AreOfOneAgreement}
use Rattle.iox_hub_commands.proofs.Agreeing.{all_among, among_left, among_more, KeepsFactories, same_factories, factories_on, HadDomain}
use Rattle.iox_hub_commands.proofs.Agreeing.{KeepsAgreed, same_agreed, domains_on, gone_agreed, come_agreed}

-- ---- what a negotiation comes to

-- the service was agreed, and just as whoever agreed on it before
abbrev Agrees : Contents → Contents → Opened → Type 0
Agrees old new service = WasAgreed service.number service.description new
    × ((agreed : Agreement) → WasAgreed service.number agreed old → agreed ≡ service.description)

-- the table went on, and a service that a node came into agrees
record IsNegotiated {E : Type 0} (old new : Contents) (answer : Result Membership E) : Type 0 where
  past : Past old new
  goes_well : (member : Membership) → answer ≡ Ok member → HasForm member.service.description → Agrees old new member.service

within_of : (agreed : Agreement) → HasForm agreed → AreWithinLimits agreed.settings → IsWithinLimits agreed
within_of agreed form limits = record
    { name = form.name; service_hash = form.service_hash; settings = form.settings; limits = limits; attributes = form.attributes }

abbrev start : List (List ForeignStep) → Contents → Steps
start lists table = record { table = table; lists = lists }

-- what goes well, and what doesn't
abbrev good : {A : Type 0} (E : Type 0) → A → Result A E
good E value = Ok value

abbrev bad : {E : Type 0} (A : Type 0) → E → Result A E
bad A error = Err error

same-good : {A E : Type 0} (one other : A) → good E one ≡ good E other → one ≡ other
same-good one other e = cc

not-bad : {A E : Type 0} (value : A) (error : E) → good E value ≡ bad A error → ⊥
not-bad value error e = cc

not-refused : (failure : CreateFailure) → Some failure ≡ None → ⊥
not-refused failure e = cc

created_agrees : (node : ℕ) (lists : List (List ForeignStep)) (old : Contents) (new : Steps) (is_reached : IsReached old)
    (agreed : Agreement) (is_too_long : Type 0) (refusal : Option CreateFailure) (service : Opened)
    → IsRefusal (AreWithinLimits agreed.settings) is_too_long refusal
    → Does SteppedSight (start lists old) (λ made. CreatesIf agreed.service_hash node agreed refusal made (Ok service)) new
    → HasForm service.description → Agrees old new.table service
created_agrees node lists old new is_reached agreed is_too_long (Some failure) service refused does form
    = absurd (not-bad service failure does.told.1)
created_agrees node lists old new is_reached agreed is_too_long None service refused does form =
    let creation = creates-service agreed.service_hash node agreed None does.made service does.told in
    agrees (λ kind. Unit {0}) (call.Creates node agreed None (Ok service)) old new.table service is_reached (lists, new, does, refl) refl
    (within_of service.description form (subst (λ a. AreWithinLimits a.settings) (sym creation.1) refused.0))

unrefused : (limits is_too_long : Type 0) (refusal : Option CreateFailure) → IsRefusal limits is_too_long refusal → refusal ≡ None → limits
unrefused limits is_too_long None refused is = refused.0
unrefused limits is_too_long (Some failure) refused is = absurd (not-refused failure is)

member_is : {E F : Type 0} (storage node : ℕ) (error : F → E) (result : Result Opened F) (member : Membership)
    → result_map_both (membership storage node) error result ≡ Ok member → (service : Opened) × (result ≡ Ok service)
    × (service ≡ member.service)
member_is {E} storage node error (Ok service) member is
    = (service, refl, ap (λ m. m.service) (same-good {E = E} (membership storage node service) member is))
member_is {E} storage node error (Err failure) member is = absurd (not-bad member (error failure) (sym is))

module _ {E : Type 0} (storage node : ℕ) (lists : List (List ForeignStep)) (old : Contents) (new : Steps) (is_reached : IsReached old) where
  creates_negotiated : (agreed : Agreement) (is_too_long : Type 0) (error : CreateFailure → E) (answer : Result Membership E)
      → Creates SteppedSight storage agreed.service_hash node agreed (AreWithinLimits agreed.settings) is_too_long error
      (start lists old) answer new → IsNegotiated old new.table answer
  creates_negotiated agreed is_too_long error answer creates = record {
    past = stepped-went-past creates.negotiated.done.made (start lists old) new creates.negotiated.done.went;
    goes_well = well;
  }
    where
      well : (member : Membership) → answer ≡ Ok member → HasForm member.service.description → Agrees old new.table member.service
      well member is form =
          let (service, came, same) = member_is storage node error creates.negotiated.answer member (sym creates.negotiated.told ∙ is) in
          let does = subst (λ a. Does SteppedSight (start lists old)
          (λ made. CreatesIf agreed.service_hash node agreed creates.refusal made a) new) came creates.negotiated.done in
          subst (λ s. Agrees old new.table s) same
          (created_agrees node lists old new is_reached agreed is_too_long creates.refusal service creates.refused does
          (subst (λ s. HasForm s.description) (sym same) form))

  opens_negotiated : {V : Type 0} (hash : ServiceHash) (verdict : Agreement → Result (Unit {0}) V) (error : OpenFailure V → E)
      (answer : Result Membership E)
      → Negotiates SteppedSight storage node error (λ made came. Opens hash node verdict made came) (start lists old) answer new
      → IsNegotiated old new.table answer
  opens_negotiated {V} hash verdict error answer opens = record {
    past = stepped-went-past opens.done.made (start lists old) new opens.done.went;
    goes_well = well;
  }
    where
      well : (member : Membership) → answer ≡ Ok member → HasForm member.service.description → Agrees old new.table member.service
      well member is form =
          let (service, came, same) = member_is storage node error opens.answer member (sym opens.told ∙ is) in
          let does = subst (λ a. Does SteppedSight (start lists old) (λ made. Opens hash node verdict made a) new) came opens.done in
          let met = opens-met V hash node verdict does.made service does.told in
          subst (λ s. Agrees old new.table s) same
          (agrees (λ kind. V) (call.Opening 0 hash node verdict (Ok service)) old new.table service is_reached
          (lists, new, does, refl) refl met.2)

  either_negotiated : {V : Type 0} (verdict : Agreement → Result (Unit {0}) V) (agreed : Agreement) (is_too_long : Type 0)
      (error : OpenOrCreateFailure V → E) (answer : Result Membership E)
      → Either SteppedSight storage agreed.service_hash node verdict agreed (AreWithinLimits agreed.settings) is_too_long error
      (start lists old) answer new → IsNegotiated old new.table answer
  either_negotiated {V} verdict agreed is_too_long error answer either = record {
    past = stepped-went-past either.negotiated.done.made (start lists old) new either.negotiated.done.went;
    goes_well = well;
  }
    where
      well : (member : Membership) → answer ≡ Ok member → HasForm member.service.description → Agrees old new.table member.service
      well member is form =
          let (service, came, same) = member_is storage node error either.negotiated.answer member (sym either.negotiated.told ∙ is) in
          let does = subst (λ a. Does SteppedSight (start lists old)
          (λ made. OpensOrCreates agreed.service_hash node verdict agreed either.refusal made a) new) came either.negotiated.done in
          let within : IsWithinLimits service.description = ⊎_elim
          (λ met. met.2)
          (λ created. within_of service.description (subst (λ s. HasForm s.description) (sym same) form)
          (subst (λ a. AreWithinLimits a.settings) (sym created.0)
          (unrefused (AreWithinLimits agreed.settings) is_too_long either.refusal either.refused created.1)))
          (either-met V agreed.service_hash node verdict agreed either.refusal does.made service does.told) in
          subst (λ s. Agrees old new.table s) same
          (agrees (λ kind. V) (call.Either 0 node verdict agreed either.refusal (Ok service)) old new.table service is_reached
          (lists, new, does, refl) refl within)

-- ---- what is of one agreement stays so

module _ {T U B D : Type 0} (table after : FactoryTable) (old new : Hub T U B D) (past : Past old.table new.table) where
  module _ (keeps : KeepsFactories table after) (stay : KeepsAgreed old.services.domains new.services.domains) where
    kept_agreement : (number : ℕ) (agreed : Agreement) → IsAgreement number agreed table old → IsAgreement number agreed after new
    kept_agreement number agreed is = record {
      was = was-agreed-on number agreed old.table new.table is.was past;
      carried = factories_on (λ other carries. other ≡ number → carries ≡ agreed) table after keeps is.carried;
      served = domains_on (λ other config. other ≡ number → agreed.settings ≡ PublishSubscribe config) old.services.domains
          new.services.domains stay is.served;
    }

    -- factories and domains may go, none comes
    pub kept_agrees : AreOfOneAgreement table old → AreOfOneAgreement after new
    kept_agrees are = record {
      is_reached = reached-on old.table new.table are.is_reached past;
      of_factories = all_among (λ factory. IsAgreement (parts_of factory.1).0.service.number (parts_of factory.1).0.service.description
          after new) after.entries
          (λ factory in_it. kept_agreement (parts_of factory.1).0.service.number (parts_of factory.1).0.service.description
          (among-all (λ one. IsAgreement (parts_of one.1).0.service.number (parts_of one.1).0.service.description table old)
          table.entries factory (keeps factory in_it) are.of_factories));
      of_domains = all_among (λ service. (agreed : Agreement) × IsAgreement service.0 agreed after new
          × (agreed.settings ≡ PublishSubscribe (agreed_in service.1))) new.services.domains domain;
    }
      where
        domain : (service : ℕ × Presence T U B D) → Among service new.services.domains → (agreed : Agreement)
            × IsAgreement service.0 agreed after new × (agreed.settings ≡ PublishSubscribe (agreed_in service.1))
        domain service in_it =
            let (before, there, same) = stay service.0 service.1 in_it in
            let (agreed, is, settings) = among-all
            (λ other. (agreed : Agreement) × IsAgreement other.0 agreed table old
            × (agreed.settings ≡ PublishSubscribe (agreed_in other.1))) old.services.domains (service.0, before) there are.of_domains in
            (agreed, kept_agreement service.0 agreed is, settings ∙ ap (λ config. PublishSubscribe config) (sym same))

  module _ (factory : MadeFactory) (comes : (one : ℕ × MadeFactory) → Among one after.entries → Among one table.entries
      ⊎ (one.1 ≡ factory)) where
    -- the number of its service, and what it carries
    abbrev number_in : MadeFactory → ℕ
    number_in made = (parts_of made).0.service.number

    abbrev carried_in : MadeFactory → Agreement
    carried_in made = (parts_of made).0.service.description

    module _ (serves : (number : ℕ) (presence : Presence T U B D) → Among (number, presence) new.services.domains
        → HadDomain number presence old.services.domains
        ⊎ ((number ≡ number_in factory) × ((carried_in factory).settings ≡ PublishSubscribe (agreed_in presence))))
        (agrees_now : Agrees old.table new.table (parts_of factory).0.service) where
      -- what was agreed on of the same number
      as_before : (number : ℕ) (agreed : Agreement) → WasAgreed number agreed old.table → number ≡ number_in factory
          → agreed ≡ carried_in factory
      as_before number agreed was same = agrees_now.1 agreed (subst (λ n. WasAgreed n agreed old.table) same was)

      came_agreement : (number : ℕ) (agreed : Agreement) → IsAgreement number agreed table old → IsAgreement number agreed after new
      came_agreement number agreed is = record {
        was = was-agreed-on number agreed old.table new.table is.was past;
        carried = all_among (λ one. number_in one.1 ≡ number → carried_in one.1 ≡ agreed) after.entries
            (λ one in_it. carries one (comes one in_it));
        served = all_among (λ service. service.0 ≡ number → agreed.settings ≡ PublishSubscribe (agreed_in service.1))
            new.services.domains (λ service in_it. serves_it service (serves service.0 service.1 in_it));
      }
        where
          carries : (one : ℕ × MadeFactory) → Among one table.entries ⊎ (one.1 ≡ factory) → number_in one.1 ≡ number
              → carried_in one.1 ≡ agreed
          carries one (inl there) same = among-all (λ other. number_in other.1 ≡ number → carried_in other.1 ≡ agreed) table.entries one
              there is.carried same
          carries one (inr new_one) same = ap carried_in new_one ∙ sym (as_before number agreed is.was (sym same ∙ ap number_in new_one))

          serves_it : (service : ℕ × Presence T U B D) → HadDomain service.0 service.1 old.services.domains
              ⊎ ((service.0 ≡ number_in factory) × ((carried_in factory).settings ≡ PublishSubscribe (agreed_in service.1)))
              → service.0 ≡ number → agreed.settings ≡ PublishSubscribe (agreed_in service.1)
          serves_it service (inl (before, there, same)) here =
              among-all (λ other. other.0 ≡ number → agreed.settings ≡ PublishSubscribe (agreed_in other.1)) old.services.domains
              (service.0, before) there is.served here ∙ ap (λ config. PublishSubscribe config) (sym same)
          serves_it service (inr (is_new, settings)) here
              = ap (λ a. a.settings) (as_before number agreed is.was (sym here ∙ is_new)) ∙ settings

      -- the new factory's
      new_agreement : AreOfOneAgreement table old → IsAgreement (number_in factory) (carried_in factory) after new
      new_agreement are = record {
        was = agrees_now.0;
        carried = all_among (λ one. number_in one.1 ≡ number_in factory → carried_in one.1 ≡ carried_in factory) after.entries
            (λ one in_it. carries one (comes one in_it));
        served = all_among (λ service. service.0 ≡ number_in factory
            → (carried_in factory).settings ≡ PublishSubscribe (agreed_in service.1)) new.services.domains
            (λ service in_it. serves_it service (serves service.0 service.1 in_it));
      }
        where
          carries : (one : ℕ × MadeFactory) → Among one table.entries ⊎ (one.1 ≡ factory) → number_in one.1 ≡ number_in factory
              → carried_in one.1 ≡ carried_in factory
          carries one (inl there) same =
              let is = among-all (λ other. IsAgreement (number_in other.1) (carried_in other.1) table old) table.entries one there
              are.of_factories in
              as_before (number_in one.1) (carried_in one.1) is.was same
          carries one (inr new_one) same = ap carried_in new_one

          serves_it : (service : ℕ × Presence T U B D) → HadDomain service.0 service.1 old.services.domains
              ⊎ ((service.0 ≡ number_in factory) × ((carried_in factory).settings ≡ PublishSubscribe (agreed_in service.1)))
              → service.0 ≡ number_in factory → (carried_in factory).settings ≡ PublishSubscribe (agreed_in service.1)
          serves_it service (inl (before, there, same)) here =
              let (agreed, is, settings) = among-all
              (λ other. (agreed : Agreement) × IsAgreement other.0 agreed table old
              × (agreed.settings ≡ PublishSubscribe (agreed_in other.1))) old.services.domains (service.0, before) there
              are.of_domains in
              ap (λ a. a.settings) (sym (as_before service.0 agreed is.was here)) ∙ settings ∙ ap (λ config. PublishSubscribe config)
              (sym same)
          serves_it service (inr (is_new, settings)) here = settings

      -- one factory comes, and a domain of its service where it has none
      pub came_agrees : AreOfOneAgreement table old → AreOfOneAgreement after new
      came_agrees are = record {
        is_reached = reached-on old.table new.table are.is_reached past;
        of_factories = all_among (λ one. IsAgreement (number_in one.1) (carried_in one.1) after new) after.entries
            (λ one in_it. of_factory one (comes one in_it));
        of_domains = all_among (λ service. (agreed : Agreement) × IsAgreement service.0 agreed after new
            × (agreed.settings ≡ PublishSubscribe (agreed_in service.1))) new.services.domains
            (λ service in_it. of_domain service (serves service.0 service.1 in_it));
      }
        where
          of_factory : (one : ℕ × MadeFactory) → Among one table.entries ⊎ (one.1 ≡ factory)
              → IsAgreement (number_in one.1) (carried_in one.1) after new
          of_factory one (inl there) =
              came_agreement (number_in one.1) (carried_in one.1)
              (among-all (λ other. IsAgreement (number_in other.1) (carried_in other.1) table old) table.entries one there
              are.of_factories)
          of_factory one (inr new_one) = subst (λ made. IsAgreement (number_in made) (carried_in made) after new) (sym new_one)
              (new_agreement are)

          of_domain : (service : ℕ × Presence T U B D) → HadDomain service.0 service.1 old.services.domains
              ⊎ ((service.0 ≡ number_in factory) × ((carried_in factory).settings ≡ PublishSubscribe (agreed_in service.1)))
              → (agreed : Agreement) × IsAgreement service.0 agreed after new × (agreed.settings ≡ PublishSubscribe (agreed_in service.1))
          of_domain service (inl (before, there, same)) =
              let (agreed, is, settings) = among-all
              (λ other. (agreed : Agreement) × IsAgreement other.0 agreed table old
              × (agreed.settings ≡ PublishSubscribe (agreed_in other.1))) old.services.domains (service.0, before) there
              are.of_domains in
              (agreed, came_agreement service.0 agreed is, settings ∙ ap (λ config. PublishSubscribe config) (sym same))
          of_domain service (inr (is_new, settings))
              = (carried_in factory, subst (λ n. IsAgreement n (carried_in factory) after new) (sym is_new) (new_agreement are), settings)

-- ---- a factory is made

module _ {T U B D : Type 0} where
  -- where the same number stands for the same
  pub same_agrees : (table after : FactoryTable) (old new : Hub T U B D) → after.entries ≡ table.entries → new ≡ old
      → AreOfOneAgreement table old → AreOfOneAgreement after new
  same_agrees table after old new same is =
      kept_agrees table after old new (no-past old.table new.table (ap (λ hub. hub.table) is)) (same_factories table after same)
      (same_agreed old.services.domains new.services.domains (ap (λ hub. hub.services.domains) is))

  opens_serve : (payload user_header : Detail) (buffer number : ℕ) (settings : Settings) (old new : OpenServices T U B D)
      → ServiceOpens payload user_header buffer number settings old (Ok tt) new
      → (other : ℕ) (presence : Presence T U B D) → Among (other, presence) new.domains → HadDomain other presence old.domains
      ⊎ ((other ≡ number) × (settings ≡ PublishSubscribe (agreed_in presence)))
  opens_serve payload user_header buffer number settings old new (inl (why, same)) other presence in_it
      = inl (same_agreed old.domains new.domains (ap (λ services. services.domains) same) other presence in_it)
  opens_serve payload user_header buffer number settings old new (inr (closed, fits, (domain, is_new, is))) other presence in_it =
      ⊎_elim
      (λ had. inl had)
      (λ (same, what). inr (same, is_new.agreed ∙ ap (λ one. PublishSubscribe (agreed_in one)) (sym what)))
      (come_agreed number old.domains (Here domain) other presence
      (subst (λ domains. Among (other, presence) domains) (ap (λ services. services.domains) is) in_it))

  module _ {E : Type 0} (payload user_header : Detail) (lacking : Bool → E) (pattern : MessagingPattern) (refusal : E → Refusal)
      (table after : FactoryTable) (old new : Hub T U B D) (mid : Contents) (reply : Result ℕ Refusal)
      (are : AreOfOneAgreement table old) where
    -- a refusal: no factory gets a number
    refused_agrees : (result : Result Made E) (error : E) → result ≡ Err error → Numbers pattern refusal result table reply after
        → Past old.table new.table → new.services ≡ old.services → AreOfOneAgreement after new
    refused_agrees (Ok parts) error is numbers past same = absurd (not-bad parts error is)
    refused_agrees (Err other) error is numbers past same =
        kept_agrees table after old new past (same_factories table after (ap (λ t. t.entries) numbers.1))
        (same_agreed old.services.domains new.services.domains (ap (λ services. services.domains) same)) are

    made_agrees : (member : Membership) (owner : ℕ) (result : Result Made E) → result ≡ Ok (member, owner)
        → Numbers pattern refusal result table reply after
        → Past old.table new.table → ServiceOpens payload user_header old.expired_connection_buffer member.service.number
        member.service.description.settings old.services (Ok tt) new.services
        → (HasForm member.service.description → Agrees old.table new.table member.service) → AreOfOneAgreement after new
    made_agrees member owner (Err error) is numbers past opens agrees_now = absurd (not-bad (member, owner) error (sym is))
    made_agrees member owner (Ok parts) is (factory, is_pattern, is_parts, is_new, is_answer, form) past opens agrees_now =
        let own : (parts_of factory).0 ≡ member = ap (λ p. p.0) (is_parts ∙ same-good {E = E} parts (member, owner) is) in
        came_agrees table after old new past factory more
        (subst (λ m. (number : ℕ) (presence : Presence T U B D) → Among (number, presence) new.services.domains
        → HadDomain number presence old.services.domains
        ⊎ ((number ≡ m.service.number) × (m.service.description.settings ≡ PublishSubscribe (agreed_in presence)))) (sym own)
        (opens_serve payload user_header old.expired_connection_buffer member.service.number member.service.description.settings
        old.services new.services opens))
        (subst (λ m. Agrees old.table new.table m.service) (sym own)
        (agrees_now (subst (λ m. HasForm m.service.description) (ap (λ p. p.0) (same-good {E = E} parts (member, owner) is)) form)))
        are
      where
        more : (one : ℕ × MadeFactory) → Among one after.entries → Among one table.entries ⊎ (one.1 ≡ factory)
        more one in_it = ⊎_elim
            (λ there. inl there)
            (λ here. inr (sym (ap (λ e. e.1) here)))
            (among_more table.entries (table.next, factory) one (subst (λ entries. Among one entries) (ap (λ t. t.entries) is_new) in_it))

    settles_agrees : (answer : Result Membership E) (result : Result Made E) → IsNegotiated old.table mid answer
        → Settles payload user_header lacking answer (record old { table = mid }) result new
        → Numbers pattern refusal result table reply after → AreOfOneAgreement after new
    settles_agrees (Err error) result negotiated (is, same) numbers =
        refused_agrees result error is numbers (subst (λ t. Past old.table t) (sym (ap (λ hub. hub.table) same)) negotiated.past)
        (ap (λ hub. hub.services) same)
    settles_agrees (Ok member) result negotiated (Ok made, (is_made, opens, is), came) numbers =
        let tables : new.table ≡ mid = ap (λ hub. hub.table) is in
        made_agrees member made.1 result (came ∙ ap (λ m. Ok (m, made.1)) (ap (λ p. p.0) is_made)) numbers
        (subst (λ t. Past old.table t) (sym tables) negotiated.past) opens
        (λ form. subst (λ t. Agrees old.table t member.service) (sym tables) (negotiated.goes_well member refl form))
    settles_agrees (Ok member) result negotiated (Err was_new, (is_new, wants, ((closed, does), is)), came) numbers =
        refused_agrees result (lacking was_new) came numbers
        (past-on old.table mid new.table negotiated.past (went-past does.made mid new.table does.went)) (ap (λ hub. hub.services) is)

  -- where a negotiation is such, what is made of it is, too
  made_in_hub : {E : Type 0} (payload user_header : Detail) (can_be : Type 0) (lacking : Bool → E)
      (negotiates : Steps → Result Membership E → Steps → Type 0) (lists : List (List ForeignStep)) (pattern : MessagingPattern)
      (refusal : E → Refusal)
      (table after : FactoryTable) (old new : Hub T U B D) (reply : Result ℕ Refusal)
      → (IsReached old.table → (answer : Result Membership E) (mid : Steps)
      → negotiates (record { table = old.table; lists = lists }) answer mid → IsNegotiated old.table mid.table answer)
      → GetsNumber pattern refusal (OpensInHub payload user_header can_be lacking negotiates lists) table old reply after new
      → AreOfOneAgreement table old → AreOfOneAgreement after new
  made_in_hub payload user_header can_be lacking negotiates lists pattern refusal table after old new reply is_negotiated
      (opened, inr (can, is, same), numbers) are =
      refused_agrees payload user_header lacking pattern refusal table after old new old.table reply are opened (lacking false) is numbers
      (no-past old.table new.table (ap (λ hub. hub.table) same)) (ap (λ hub. hub.services) same)
  made_in_hub payload user_header can_be lacking negotiates lists pattern refusal table after old new reply is_negotiated
      (opened, inl opens, numbers) are =
      settles_agrees payload user_header lacking pattern refusal table after old new opens.mid.table reply are opens.answer opened
      (is_negotiated are.is_reached opens.answer opens.mid opens.negotiated) opens.settled numbers

  prepared_agrees : (name : List ℕ) (types : MessageTypeDetails) (steps : List StepBefore) (table roomier : FactoryTable)
      (prepared : Result (List (List ForeignStep)) AllocError) (old : Hub T U B D) → Prepares name types steps table prepared roomier
      → AreOfOneAgreement table old → AreOfOneAgreement roomier old
  prepared_agrees name types steps table roomier (Ok lists) old (same, is, room, forms) = same_agrees table roomier old old same.0 refl
  prepared_agrees name types steps table roomier (Err lacking) old (same, full) = same_agrees table roomier old old same.0 refl

  -- ---- each command

  create_as : (named : ServiceOptions) (payload user_header : Detail) (types : MessageTypeDetails) (node : ℕ) (name : List ℕ)
      (attributes : List Attribute) (lists : List (List ForeignStep)) (table after : FactoryTable) (old new : Hub T U B D)
      (answer : Result ℕ Refusal)
      → CreatesAs named payload user_header types node name attributes lists table old answer after new → AreOfOneAgreement table old
      → AreOfOneAgreement after new
  create_as (options.PublishSubscribe named) payload user_header types node name attributes lists table after old new answer gets =
      made_in_hub payload user_header _ _ _ lists _ _ table after old new answer
      (λ is_reached came mid negotiates. creates_negotiated _ node lists old.table mid is_reached _ _ _ came negotiates) gets
  create_as (options.Event named) payload user_header types node name attributes lists table after old new answer gets =
      made_in_hub payload user_header _ _ _ lists _ _ table after old new answer
      (λ is_reached came mid negotiates. creates_negotiated _ node lists old.table mid is_reached _ _ _ came negotiates) gets
  create_as (options.RequestResponse named) payload user_header types node name attributes lists table after old new answer gets =
      made_in_hub payload user_header _ _ _ lists _ _ table after old new answer
      (λ is_reached came mid negotiates. creates_negotiated _ node lists old.table mid is_reached _ _ _ came negotiates) gets

  create_prepared : (prepared : Result (List (List ForeignStep)) AllocError) (payload user_header : Detail) (types : MessageTypeDetails)
      (asked : ServiceAsked) (attributes : List Attribute) (table after : FactoryTable) (old new : Hub T U B D) (answer : Result ℕ Refusal)
      → CreatesPrepared prepared payload user_header types asked attributes table old answer after new → AreOfOneAgreement table old
      → AreOfOneAgreement after new
  create_prepared (Err lacking) payload user_header types asked attributes table after old new answer does
      = same_agrees table after old new (ap (λ t. t.entries) does.1) does.2
  create_prepared (Ok lists) payload user_header types asked attributes table after old new answer does
      = create_as asked.options payload user_header types asked.node asked.name attributes lists table after old new answer does

  pub create_agrees : (is_node : Bool) (payload user_header : Detail) (types : MessageTypeDetails) (asked : ServiceAsked)
      (attributes : List Attribute) (steps : List StepBefore) (table after : FactoryTable) (old new : Hub T U B D)
      (answer : Option (Result ℕ Refusal))
      → CreatesNumbered is_node payload user_header types asked attributes steps table old answer after new
      → AreOfOneAgreement table old → AreOfOneAgreement after new
  create_agrees false payload user_header types asked attributes steps table after old new answer does
      = same_agrees table after old new (ap (λ t. t.entries) does.1) does.2
  create_agrees true payload user_header types asked attributes steps table after old new answer (Some failure, unfit, (is, same, hub))
      = same_agrees table after old new (ap (λ t. t.entries) same) hub
  create_agrees true payload user_header types asked attributes steps table after old new answer
      (None, fit, (prepared, roomier, reply, prepares, does, is)) = λ are.
      create_prepared prepared payload user_header types asked attributes roomier after old new reply does
      (prepared_agrees asked.name types steps table roomier prepared old prepares are)

  open_as : (named : ServiceOptions) (payload user_header : Detail) (types : MessageTypeDetails) (node : ℕ) (name : List ℕ)
      (attributes : Required) (lists : List (List ForeignStep)) (table after : FactoryTable) (old new : Hub T U B D)
      (answer : Result ℕ Refusal)
      → OpensAs named payload user_header types node name attributes lists table old answer after new → AreOfOneAgreement table old
      → AreOfOneAgreement after new
  open_as (options.PublishSubscribe named) payload user_header types node name attributes lists table after old new answer gets =
      made_in_hub payload user_header _ _ _ lists _ _ table after old new answer
      (λ is_reached came mid negotiates. opens_negotiated _ node lists old.table mid is_reached _ _ _ came negotiates) gets
  open_as (options.Event named) payload user_header types node name attributes lists table after old new answer gets =
      made_in_hub payload user_header _ _ _ lists _ _ table after old new answer
      (λ is_reached came mid negotiates. opens_negotiated _ node lists old.table mid is_reached _ _ _ came negotiates) gets
  open_as (options.RequestResponse named) payload user_header types node name attributes lists table after old new answer gets =
      made_in_hub payload user_header _ _ _ lists _ _ table after old new answer
      (λ is_reached came mid negotiates. opens_negotiated _ node lists old.table mid is_reached _ _ _ came negotiates) gets

  open_prepared : (prepared : Result (List (List ForeignStep)) AllocError) (payload user_header : Detail) (types : MessageTypeDetails)
      (asked : ServiceAsked) (attributes : Required) (table after : FactoryTable) (old new : Hub T U B D) (answer : Result ℕ Refusal)
      → OpensPrepared prepared payload user_header types asked attributes table old answer after new → AreOfOneAgreement table old
      → AreOfOneAgreement after new
  open_prepared (Err lacking) payload user_header types asked attributes table after old new answer does
      = same_agrees table after old new (ap (λ t. t.entries) does.1) does.2
  open_prepared (Ok lists) payload user_header types asked attributes table after old new answer does
      = open_as asked.options payload user_header types asked.node asked.name attributes lists table after old new answer does

  pub open_agrees : (is_node : Bool) (payload user_header : Detail) (types : MessageTypeDetails) (asked : ServiceAsked)
      (attributes : Required) (steps : List StepBefore) (table after : FactoryTable) (old new : Hub T U B D)
      (answer : Option (Result ℕ Refusal))
      → OpensNumbered is_node payload user_header types asked attributes steps table old answer after new → AreOfOneAgreement table old
      → AreOfOneAgreement after new
  open_agrees false payload user_header types asked attributes steps table after old new answer does
      = same_agrees table after old new (ap (λ t. t.entries) does.1) does.2
  open_agrees true payload user_header types asked attributes steps table after old new answer (inl (told, finds, (is, same, hub)))
      = same_agrees table after old new (ap (λ t. t.entries) same) hub
  open_agrees true payload user_header types asked attributes steps table after old new answer
      (inr (prepared, roomier, reply, prepares, does, is)) = λ are.
      open_prepared prepared payload user_header types asked attributes roomier after old new reply does
      (prepared_agrees asked.name types steps table roomier prepared old prepares are)

  either_as : (named : ServiceOptions) (payload user_header : Detail) (types : MessageTypeDetails) (node : ℕ) (name : List ℕ)
      (attributes : Required) (lists : List (List ForeignStep)) (table after : FactoryTable) (old new : Hub T U B D)
      (answer : Result ℕ Refusal)
      → EitherAs named payload user_header types node name attributes lists table old answer after new → AreOfOneAgreement table old
      → AreOfOneAgreement after new
  either_as (options.PublishSubscribe named) payload user_header types node name attributes lists table after old new answer gets =
      made_in_hub payload user_header _ _ _ lists _ _ table after old new answer
      (λ is_reached came mid negotiates. either_negotiated _ node lists old.table mid is_reached _ _ _ _ came negotiates) gets
  either_as (options.Event named) payload user_header types node name attributes lists table after old new answer gets =
      made_in_hub payload user_header _ _ _ lists _ _ table after old new answer
      (λ is_reached came mid negotiates. either_negotiated _ node lists old.table mid is_reached _ _ _ _ came negotiates) gets
  either_as (options.RequestResponse named) payload user_header types node name attributes lists table after old new answer gets =
      made_in_hub payload user_header _ _ _ lists _ _ table after old new answer
      (λ is_reached came mid negotiates. either_negotiated _ node lists old.table mid is_reached _ _ _ _ came negotiates) gets

  either_prepared : (prepared : Result (List (List ForeignStep)) AllocError) (payload user_header : Detail) (types : MessageTypeDetails)
      (asked : ServiceAsked) (attributes : Required) (table after : FactoryTable) (old new : Hub T U B D) (answer : Result ℕ Refusal)
      → EitherPrepared prepared payload user_header types asked attributes table old answer after new → AreOfOneAgreement table old
      → AreOfOneAgreement after new
  either_prepared (Err lacking) payload user_header types asked attributes table after old new answer does
      = same_agrees table after old new (ap (λ t. t.entries) does.1) does.2
  either_prepared (Ok lists) payload user_header types asked attributes table after old new answer does
      = either_as asked.options payload user_header types asked.node asked.name attributes lists table after old new answer does

  pub either_agrees : (is_node : Bool) (payload user_header : Detail) (types : MessageTypeDetails) (asked : ServiceAsked)
      (attributes : Required) (steps : List StepBefore) (table after : FactoryTable) (old new : Hub T U B D)
      (answer : Option (Result ℕ Refusal))
      → EitherNumbered is_node payload user_header types asked attributes steps table old answer after new → AreOfOneAgreement table old
      → AreOfOneAgreement after new
  either_agrees false payload user_header types asked attributes steps table after old new answer does
      = same_agrees table after old new (ap (λ t. t.entries) does.1) does.2
  either_agrees true payload user_header types asked attributes steps table after old new answer
      (inl (refused, told, fit, finds, (is, same, hub))) = same_agrees table after old new (ap (λ t. t.entries) same) hub
  either_agrees true payload user_header types asked attributes steps table after old new answer
      (inr (prepared, roomier, reply, prepares, does, is)) = λ are.
      either_prepared prepared payload user_header types asked attributes roomier after old new reply does
      (prepared_agrees asked.name types steps table roomier prepared old prepares are)

  one_less_keeps_at : (number : ℕ) (hub : Hub T U B D) (last : Bool) (fewer gone : Hub T U B D)
      → gone.services.domains ≡ remove_entry (is_at (nat_cmp number)) hub.services.domains → fewer.services.domains ≡ hub.services.domains
      → KeepsAgreed hub.services.domains (if last then gone else fewer).services.domains
  one_less_keeps_at number hub true fewer gone is_gone same
      = subst (λ domains. KeepsAgreed hub.services.domains domains) (sym is_gone) (gone_agreed number hub.services.domains)
  one_less_keeps_at number hub false fewer gone is_gone same = same_agreed hub.services.domains fewer.services.domains same

  one_less_keeps : (number : ℕ) (hub : Hub T U B D) → KeepsAgreed hub.services.domains (less_one number hub).services.domains
  one_less_keeps number hub = one_less_keeps_at number hub (is_last number hub.factory_counts) _ _ refl refl

  close_unless : (used : Bool) (number : ℕ) (member : Membership) (table after : FactoryTable) (old new : Hub T U B D)
      (answer : Option (Result (Unit {0}) CloseError)) → ClosesUnless used number member table old answer after new
      → AreOfOneAgreement table old → AreOfOneAgreement after new
  close_unless true number member table after old new answer closes
      = same_agrees table after old new (ap (λ t. t.entries) closes.1) closes.2
  close_unless false number member table after old new answer (closed, (does, is), is_answer, is_after) =
      kept_agrees table after old new
      (went-past does.made old.table new.table does.went)
      (λ factory in_it. among_left (nat_eq number) table.entries factory
      (subst (λ entries. Among factory entries) (ap (λ t. t.entries) is_after) in_it))
      (subst (λ domains. KeepsAgreed old.services.domains domains) (sym (ap (λ hub. hub.services.domains) is))
      (one_less_keeps member.service.number (record old { table = new.table })))

  close_if : (is_of : Bool) (number : ℕ) (made : MadeFactory) (table after : FactoryTable) (old new : Hub T U B D)
      (answer : Option (Result (Unit {0}) CloseError)) → ClosesIfOf is_of number made table old answer after new
      → AreOfOneAgreement table old → AreOfOneAgreement after new
  close_if false number made table after old new answer closes = same_agrees table after old new (ap (λ t. t.entries) closes.1) closes.2
  close_if true number made table after old new answer closes = close_unless _ number (parts_of made).0 table after old new answer closes

  pub close_agrees : (number : ℕ) (found : Option MadeFactory) (table after : FactoryTable) (old new : Hub T U B D)
      (answer : Option (Result (Unit {0}) CloseError)) → ClosesNumbered number found table old answer after new
      → AreOfOneAgreement table old → AreOfOneAgreement after new
  close_agrees number None table after old new answer closes = same_agrees table after old new (ap (λ t. t.entries) closes.1) closes.2
  close_agrees number (Some made) table after old new answer closes = close_if _ number made table after old new answer closes

  pub foreign_agrees : (pattern : MessagingPattern) (name : List ℕ) (types : MessageTypeDetails) (steps : List Named)
      (table after : FactoryTable) (old new : Hub T U B D) (answer : Result (Unit {0}) HubError)
      → ActsNamed pattern name types steps old answer new
      → after ≡ table → AreOfOneAgreement table old → AreOfOneAgreement after new
  foreign_agrees pattern name types steps table after old new answer (inl (((happened, acts, told), is), forms)) same =
      kept_agrees table after old new (acts-ran _ _ old.table new.table happened acts)
      (same_factories table after (ap (λ t. t.entries) same))
      (same_agreed old.services.domains new.services.domains (ap (λ hub. hub.services.domains) is))
  foreign_agrees pattern name types steps table after old new answer (inr (some, is_answer, is)) same
      = same_agrees table after old new (ap (λ t. t.entries) same) is

  -- where there is neither factory nor domain, and nothing happened to the table
  pub nothing_agrees : (table : FactoryTable) (hub : Hub T U B D) (id : ℕ) → table.entries ≡ [] → hub.services.domains ≡ []
      → hub.table ≡ empty_table id → AreOfOneAgreement table hub
  nothing_agrees table hub id no_factory no_domain is = record {
    is_reached = record { id = id; events = []; ran = is };
    of_factories = subst (λ entries. AllByRecursion
        (λ factory. IsAgreement (parts_of factory.1).0.service.number (parts_of factory.1).0.service.description table hub) entries)
        (sym no_factory) tt;
    of_domains = subst (λ domains. AllByRecursion
        (λ service. (agreed : Agreement) × IsAgreement service.0 agreed table hub
        × (agreed.settings ≡ PublishSubscribe (agreed_in service.1))) domains) (sym no_domain) tt;
  }

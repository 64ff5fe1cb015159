-- Which service of the machine is that of a factory of a hub.
use Rattle.std.proofs.Common.{◌≡◌, ◌≢◌, ◌≤◌, ◌<◌, ℕ, Bool, true, false, cond, ◌||◌, List, [], ◌∷◌, ◌++◌, Option, Some, refl, sym, ap}
use Rattle.std.proofs.Common.{subst, ◌∙◌, arith}
use Rattle.std.proofs.lemmas.Bool.{and_from, and_parts, eq-eqb, false_from_ne_true}
use Rattle.std.specs.BTreeMap.{is_at}
use Rattle.std.specs.Cmp.Lexicographic.{same_text}
use Rattle.std.specs.List.{list_any}
use Rattle.std.specs.Map.{keys_of}
use Rattle.std.specs.Option.{option_map}
use Rattle.std.specs.Ordering.{nat_cmp}
use Rattle.std.specs.Prelude.{is_some, ◌==◌, bytes_eq}
use Rattle.iox_command.specs.DomainValues.declared.backpressure.BackpressureDecision.{BackpressureDecision}
use Rattle.iox_command.specs.DomainValues.declared.backpressure.BackpressureInfo.{BackpressureInfo}
use Rattle.iox_command.specs.DomainValues.declared.degradation.DegradationAction.{DegradationAction}
use Rattle.iox_command.specs.DomainValues.declared.degradation.DegradationCause.{DegradationCause}
use Rattle.iox_command.specs.DomainValues.declared.degradation.DegradationInfo.{DegradationInfo}
use Rattle.iox_command.specs.NegotiateBase.DescribeBase.declared.pattern.MessagingPattern.{MessagingPattern}
use Rattle.iox_command.specs.NegotiateBase.DescribeBase.declared.pattern.MessagingPattern.TheVariants.{PublishSubscribe}
use Rattle.iox_command.specs.NegotiateBase.DescribeSettings.Agreement.{Agreement as Description, AreWithinLimits}
use Rattle.iox_command.specs.NegotiateBase.DescribeSettings.PublishSubscribeSettings.{IsWithinLimits}
use Rattle.iox_command.specs.NegotiateBase.DescribeSettings.declared.static_config.publish_subscribe.Setting.TheVariants as setting
use Rattle.iox_command.specs.NegotiateBase.DescribeSettings.declared.static_config.publish_subscribe.StaticConfig.{StaticConfig}
use Rattle.iox_command.specs.NegotiateBase.declared.request.Opened.{Opened}
use Rattle.iox_container.specs.NumberTable.{value_at}
use Rattle.iox_domain.proofs.Keys.{adds_same}
use Rattle.iox_domain.specs.DomainPorts.declared.attached.Taken.{Taken}
use Rattle.iox_domain.specs.Tries.{how_often}
use Rattle.iox_domain.specs.declared.domain.Domain.{Domain}
use Rattle.iox_domain.specs.declared.domain_id.DomainId.{DomainId}
use Rattle.iox_domain.specs.declared.ports.service_ports.ServicePorts.{ServicePorts}
use Rattle.iox_domain_machine.specs.Naming.{Naming}
use Rattle.iox_domain_machine.specs.Services.{StandInTurn}
use Rattle.iox_domain_machine.specs.Tables.{LentSlot}
use Rattle.iox_domain_machine.proofs.Found.{never_true}
use Rattle.iox_hub_base.specs.HomeLaws.{at_hub}
use Rattle.iox_hub_base.specs.Open.{OpenServices, here, here_if, presence_of}
use Rattle.iox_hub_base.specs.ServicesAsHome.{domain_at}
use Rattle.iox_hub_base.specs.declared.presence.Presence.{Presence}
use Rattle.iox_hub_base.specs.declared.presence.Presence.TheVariants.{Here, Out}
use Rattle.iox_hub_commands.specs.AgreementLaws.{service_of, carried_by, FactoriesAgree}
use Rattle.iox_hub_commands.specs.ServicesTables.{FactoryTable, parts_of, pattern_in}
use Rattle.iox_hub_commands.specs.declared.numbered_hub.NumberedHub.{NumberedHub}
use Rattle.iox_hub_commands.specs.declared.services.made.MadeFactory.{MadeFactory}
use Rattle.iox_hub_machine.proofs.Numbered.{goes_so}
use Rattle.iox_hub_machine.specs.Ports.{AreHere}
use Rattle.iox_hub_machine.specs.Services.{AreServedInTurn, FactoryStands, HubStandsFor, IsServedBy, factory_as}
use Rattle.iox_machine.specs.Choices.{Choices}
use Rattle.iox_machine.specs.Phase.{Phase, Published, same_pattern}
use Rattle.iox_machine.specs.Service.{Service}
use Rattle.iox_machine.specs.State.{State, is_service_of}
use Rattle.iox_machine.specs.Table.{at}
use Rattle.iox_negotiate_machine.specs.CallLaws.{IsServiceIn}
use Rattle.iox_negotiate_machine.specs.Standing.{IsLast, Lies}
use Rattle.iox_negotiate_table.specs.Contents.{Contents}

-- a name is the same as itself
same_itself : (name : List ℕ) → bytes_eq name name ≡ true
same_itself [] = refl
same_itself (code ∷ codes) = and_from (code == code) (bytes_eq codes codes) (eq-eqb code code refl) (same_itself codes)

-- ---- what is published

-- two numbers that were taken last are one
last_same : (one other : ℕ) (taken : List ℕ) → IsLast (λ number. one ≡ number) taken → IsLast (λ number. other ≡ number) taken
    → one ≡ other
last_same one other [] is also = absurd is
last_same one other (number ∷ before) is also = is ∙ sym also

last_of : (node : ℕ) (pattern : MessagingPattern) (name taken : List ℕ) (phase : Phase) (opened : Opened)
    → IsServiceIn node pattern name phase taken opened → IsLast (λ number. opened.number ≡ number) taken
last_of node pattern name taken (Published life agreed nodes) opened is = is.1
last_of node pattern name taken other opened is = absurd is

-- what is published is within its limits
within_of : (node : ℕ) (pattern : MessagingPattern) (name : List ℕ) (table : Contents) (taken : List ℕ) (phase : Phase) (opened : Opened)
    → Lies pattern name table phase taken → IsServiceIn node pattern name phase taken opened
    → AreWithinLimits opened.description.settings
within_of node pattern name table [] (Published life agreed nodes) opened lies is = absurd lies
within_of node pattern name table (number ∷ before) (Published life agreed nodes) opened lies is =
    subst (λ (described : Description). AreWithinLimits described.settings) (sym is.2) lies.0.within.limits
within_of node pattern name table taken other opened lies is = absurd is

-- one message may wait for a subscriber at least
one_may_wait : (settings : StaticConfig) → IsWithinLimits settings → 0 < settings.subscriber_max_buffer_size
one_may_wait settings within =
    let least : 1 ≤ settings.subscriber_max_buffer_size = (within 7 setting.SubscriberMaxBufferSize (omega arith)).0 in
    omega (arith, least)

-- ---- a service that is here

found_here : {T U B D : Type 0} (b : Bool) (presence : Presence T U B D) (rest : Option (Presence T U B D))
    → is_some (here presence) ≡ true → is_some (cond b (Some presence) rest) ≡ true
    → (is_some rest ≡ true → (domain : Domain T U B D) × (rest ≡ Some (Here domain)))
    → (domain : Domain T U B D) × (cond b (Some presence) rest ≡ Some (Here domain))
found_here true (Here domain) rest is there later = (domain, refl)
found_here true (Out agreed) rest is there later = never_true is
found_here false presence rest is there later = later there

pub here_found : {T U B D : Type 0} (number : ℕ) (services : List (ℕ × Presence T U B D)) → AreHere services
    → is_some (presence_of number services) ≡ true
    → (domain : Domain T U B D) × (presence_of number services ≡ Some (Here domain))
here_found number [] are there = never_true there
here_found number (service ∷ services) are there =
    found_here (is_at (nat_cmp number) service.0) service.1 (presence_of number services) are.0 there (here_found number services are.1)

-- ---- the service of a factory

module _ {T U B D : Type 0} (choices : Choices T) (degrades : B → DegradationCause → DegradationInfo → DegradationAction → Type 0)
    (decides : B → BackpressureInfo → BackpressureDecision → Type 0)
    (reader_degrades : D → DegradationCause → DegradationInfo → DegradationAction → Type 0)
    (names : List (List ℕ)) (taken : MessagingPattern → List ℕ → List ℕ) (naming : ℕ → Naming) (order : List (ℕ × ServicePorts T U))
    (old : NumberedHub T U B D) (state : State T)
    (stands : HubStandsFor choices degrades decides reader_degrades names taken naming order old state)
    (agree : FactoriesAgree old.factories.made) (number : ℕ) (made : MadeFactory)
    (there : value_at old.factories.made number ≡ Some made) (kind : pattern_in made ≡ PublishSubscribe) where
  abbrev pub id : DomainId
  id = record { hub = (parts_of made).0.storage; service = service_of made }

  -- a number was taken last for the service of a pattern and name
  abbrev IsTaken : ℕ → MessagingPattern → List ℕ → Type 0
  IsTaken which pattern name = IsLast (λ (last : ℕ). which ≡ last) (taken pattern name)

  mine : FactoryStands names taken old.hub.table state number made
  mine = stands.factories.each number made there

  pub machine_has : at number state.factories ≡ Some (factory_as made)
  machine_has = ap (at number) stands.factories.same ∙ goes_so number factory_as old.factories.made ∙ ap (option_map factory_as) there

  pub presence : (domain : Domain T U B D) × (presence_of id.service old.hub.services.domains ≡ Some (Here domain))
  presence = here_found id.service old.hub.services.domains stands.ports.here (stands.factories.opened number made there kind)

  pub domain_there : domain_at id old.hub.services ≡ Some presence.0
  domain_there = at_hub id old.hub.services (mine.storage ∙ sym stands.id) ∙ ap here_if presence.1

  -- the domain that a factory is of is of the factory's name
  pub is_its_own : (service : Service T) → IsServedBy old.factories.made old.hub.services id.service service
      → is_service_of (factory_as made) service ≡ true
  is_its_own service served =
      and_from (same_pattern (pattern_in made) PublishSubscribe) (bytes_eq service.name (carried_by made).name)
      (ap (λ (pattern : MessagingPattern). same_pattern pattern PublishSubscribe) kind)
      (ap (λ (name : List ℕ). bytes_eq name (carried_by made).name)
      (served.name
      ∙ ap (λ (described : Description). described.name)
      (agree served.factory number served.made made served.found there served.number_is))
      ∙ same_itself (carried_by made).name)

  -- no other is
  pub is_another : (other : ℕ) (service : Service T) → other ≢ id.service
      → IsServedBy old.factories.made old.hub.services other service → is_service_of (factory_as made) service ≡ false
  is_another other service off served = false_from_ne_true (is_service_of (factory_as made) service) (λ is. off (same is))
    where
      its : FactoryStands names taken old.hub.table state served.factory served.made
      its = stands.factories.each served.factory served.made served.found

      same : is_service_of (factory_as made) service ≡ true → other ≡ id.service
      same is =
          let named : (carried_by served.made).name ≡ (carried_by made).name =
          sym served.name ∙ same_text service.name (carried_by made).name
          (sym (and_parts (same_pattern (pattern_in made) PublishSubscribe) (bytes_eq service.name (carried_by made).name) is).1) in
          sym served.number_is
          ∙ last_same (service_of served.made) (service_of made) (taken PublishSubscribe (carried_by made).name)
          (subst (IsTaken (service_of served.made) PublishSubscribe) named
          (subst (λ (pattern : MessagingPattern). IsTaken (service_of served.made) pattern (carried_by served.made).name) served.pattern
          (last_of (parts_of served.made).0.node (pattern_in served.made) (carried_by served.made).name
          (taken (pattern_in served.made) (carried_by served.made).name)
          (state.phases (pattern_in served.made) (carried_by served.made).name) (parts_of served.made).0.service its.serves)))
          (subst (λ (pattern : MessagingPattern). IsTaken (service_of made) pattern (carried_by made).name) kind
          (last_of (parts_of made).0.node (pattern_in made) (carried_by made).name (taken (pattern_in made) (carried_by made).name)
          (state.phases (pattern_in made) (carried_by made).name) (parts_of made).0.service mine.serves))

  pub some_room : (service : Service T) → IsServedBy old.factories.made old.hub.services id.service service
      → 0 < service.settings.subscriber_max_buffer_size
  some_room service served =
      let its = stands.factories.each served.factory served.made served.found in
      let pattern = pattern_in served.made in
      let name = (carried_by served.made).name in
      one_may_wait service.settings
      (subst AreWithinLimits served.carried
      (within_of (parts_of served.made).0.node pattern name old.hub.table (taken pattern name) (state.phases pattern name)
      (parts_of served.made).0.service (stands.table.phases pattern name its.asked).lies its.serves))

-- ---- services in turn

module _ {T U B D : Type 0} (table : FactoryTable) (services : OpenServices T U B D) where
  pub served_parted : (naming : ℕ → Naming) (lent : List (ℕ × (ℕ × LentSlot))) (held : List (ℕ × (ℕ × Taken))) (buffer : ℕ)
      (before behind : List (ℕ × ServicePorts T U)) (domain : ℕ × ServicePorts T U) (first : List (Service T)) (service : Service T)
      (last : List (Service T)) → StandInTurn naming lent held buffer before first
      → AreServedInTurn table services (before ++ domain ∷ behind) (first ++ service ∷ last)
      → AreServedInTurn table services before first × IsServedBy table services domain.0 service
      × AreServedInTurn table services behind last
  served_parted naming lent held buffer [] behind domain [] service last stand served = (refl, served.0, served.1)
  served_parted naming lent held buffer [] behind domain (other ∷ first) service last stand served = absurd (never stand)
    where
      never : (other ∷ first) ≡ [] → ⊥
      never e = cc
  served_parted naming lent held buffer (one ∷ before) behind domain [] service last stand served = absurd stand
  served_parted naming lent held buffer (one ∷ before) behind domain (other ∷ first) service last stand served =
      let rest = served_parted naming lent held buffer before behind domain first service last stand.1 served.1 in
      ((served.0, rest.0), rest.1, rest.2)

  pub served_joined : (before behind : List (ℕ × ServicePorts T U)) (domain : ℕ × ServicePorts T U) (first : List (Service T))
      (service : Service T) (last : List (Service T)) → AreServedInTurn table services before first
      → IsServedBy table services domain.0 service → AreServedInTurn table services behind last
      → AreServedInTurn table services (before ++ domain ∷ behind) (first ++ service ∷ last)
  served_joined [] behind domain [] service last before_it it behind_it = (it, behind_it)
  served_joined [] behind domain (other ∷ first) service last before_it it behind_it = absurd (never before_it)
    where
      never : (other ∷ first) ≡ [] → ⊥
      never e = cc
  served_joined (one ∷ before) behind domain [] service last before_it it behind_it = absurd before_it
  served_joined (one ∷ before) behind domain (other ∷ first) service last before_it it behind_it =
      (before_it.0, served_joined before behind domain first service last before_it.1 it behind_it)

  pub served_later : (later : OpenServices T U B D)
      → ((number : ℕ) (service : Service T) → IsServedBy table services number service → IsServedBy table later number service)
      → (domains : List (ℕ × ServicePorts T U)) (these : List (Service T)) → AreServedInTurn table services domains these
      → AreServedInTurn table later domains these
  served_later later still [] these served = served
  served_later later still (domain ∷ domains) [] served = absurd served
  served_later later still (domain ∷ domains) (service ∷ these) served =
      (still domain.0 service served.0, served_later later still domains these served.1)

  -- no service passes a test where those of the domains that aren't one don't
  pub none_passing : (test : Service T → Bool) (number : ℕ)
      → ((other : ℕ) (service : Service T) → other ≢ number → IsServedBy table services other service → test service ≡ false)
      → (domains : List (ℕ × ServicePorts T U)) (these : List (Service T)) → how_often number (keys_of domains) ≡ 0
      → AreServedInTurn table services domains these → list_any test these ≡ false
  none_passing test number fails [] these none served = ap (list_any test) served
  none_passing test number fails (domain ∷ domains) [] none served = absurd served
  none_passing test number fails (domain ∷ domains) (service ∷ these) none served =
      ap (λ (b : Bool). b || list_any test these)
      (fails domain.0 service (λ same. omega (arith, none, adds_same number domain.0 (sym same))) served.0)
      ∙ none_passing test number fails domains these (omega (arith, none)) served.1

-- A node of a hub got a factory of a service: the hub stands for the machine in which it has one.
use Rattle.std.proofs.Common.{◌≡◌, ◌≢◌, ◌≤◌, ◌<◌, ◌+◌, ◌^◌, ◌&&◌, ℕ, Bool, true, false, cond, List, [], ◌∷◌, ◌++◌, length, map, Some, Ok}
use Rattle.std.proofs.Common.{refl, sym, ap, subst, ◌∙◌, inl, inr, arith, true≢false}
use Rattle.std.proofs.Math.Logic.{⊎_elim}
use Rattle.std.proofs.lemmas.List.{length-map, map-append}
use Rattle.std.specs.List.{IsAmong, list_any}
use Rattle.std.specs.Prelude.{is_some, ◌==◌, bytes_eq}
use Rattle.iox_command.specs.DomainValues.declared.backpressure.BackpressureDecision.{BackpressureDecision}
use Rattle.iox_command.specs.DomainValues.declared.backpressure.BackpressureInfo.{BackpressureInfo}
use Rattle.iox_command.specs.DomainValues.declared.degradation.DegradationAction.{DegradationAction}
use Rattle.iox_command.specs.DomainValues.declared.degradation.DegradationCause.{DegradationCause}
use Rattle.iox_command.specs.DomainValues.declared.degradation.DegradationInfo.{DegradationInfo}
use Rattle.iox_command.specs.NegotiateBase.DescribeBase.Detail.{Detail}
use Rattle.iox_command.specs.NegotiateBase.DescribeBase.declared.pattern.MessagingPattern.{MessagingPattern}
use Rattle.iox_command.specs.NegotiateBase.DescribeBase.declared.pattern.MessagingPattern.TheVariants.{PublishSubscribe}
use Rattle.iox_command.specs.NegotiateBase.DescribeSettings.Agreement.{AreWithinLimits, pattern_of}
use Rattle.iox_command.specs.NegotiateBase.DescribeSettings.declared.static_config.Settings.{Settings}
use Rattle.iox_command.specs.NegotiateBase.DescribeSettings.declared.static_config.Settings.TheVariants as settings
use Rattle.iox_command.specs.NegotiateBase.DescribeSettings.declared.static_config.publish_subscribe.StaticConfig.{StaticConfig}
use Rattle.iox_command.specs.NegotiateBase.declared.request.Opened.{Opened}
use Rattle.iox_container.proofs.Rising.{lookup-above}
use Rattle.iox_container.specs.NumberTable.{Rises, inserted, value_at}
use Rattle.iox_domain.proofs.Keys.{adds, often_end}
use Rattle.iox_domain.specs.Domains.{IsNewDomain}
use Rattle.iox_domain.specs.Fitting.{Fits}
use Rattle.iox_domain.specs.Tries.{how_often}
use Rattle.iox_domain.specs.declared.domain.Domain.{Domain}
use Rattle.iox_domain.specs.declared.ports.service_ports.ServicePorts.{ServicePorts}
use Rattle.iox_domain_machine.proofs.Found.{same_some}
use Rattle.iox_domain_machine.specs.Naming.{Naming, nameless, with_name}
use Rattle.iox_hub_base.specs.Hubs.{factories_of, one_more, with_factory}
use Rattle.iox_hub_base.specs.Open.{OpenServices, domain_of, here_if}
use Rattle.iox_hub_base.specs.ServicesOpening.{Opens, is_open}
use Rattle.iox_hub_commands.specs.AgreementLaws.{carried_by, service_of}
use Rattle.iox_hub_commands.specs.ServicesTables.{FactoryTable, parts_of, pattern_in}
use Rattle.iox_hub_commands.specs.declared.numbered_hub.NumberedHub.{NumberedHub}
use Rattle.iox_hub_commands.specs.declared.room.Pledged.{Pledged}
use Rattle.iox_hub_commands.specs.declared.services.made.MadeFactory.{MadeFactory}
use Rattle.iox_hub_machine.proofs.DomainMore.{grown, new_there, open_still, others_there}
use Rattle.iox_hub_machine.proofs.Entering.{IsEntered, entered_services}
use Rattle.iox_hub_machine.proofs.OpenDomain.{open_so}
use Rattle.iox_hub_machine.proofs.PhaseThen.{factory_then}
use Rattle.iox_hub_machine.proofs.PortsMore.{not_ordered, one_more_domain, other_factories}
use Rattle.iox_hub_machine.proofs.SeatsMore.{factory_got, is_its, is_not_its, its_own, more_of_node, seats_entered}
use Rattle.iox_hub_machine.proofs.ServedMore.{served_more, served_still}
use Rattle.iox_hub_machine.proofs.TableMore.{counted_more, new_goes, often_few, rising_few, still_goes, went_or_new}
use Rattle.iox_hub_machine.specs.Seats.{factories_of_node, seats_for, seats_in}
use Rattle.iox_hub_machine.specs.Services.{FactoriesStandFor, FactoryStands, HubStandsFor, IsServedBy, factory_as, services_in}
use Rattle.iox_machine.specs.Choices.{Choices}
use Rattle.iox_machine.specs.Factories.{with_open}
use Rattle.iox_machine.specs.Phase.{Phase, Published, same_pattern}
use Rattle.iox_machine.specs.Service.{Service, new_service}
use Rattle.iox_machine.specs.State.{Factory, State, with_phase}
use Rattle.iox_machine.specs.Table.{at}
use Rattle.iox_negotiate.specs.Factory.{membership}
use Rattle.iox_negotiate.specs.declared.factory.Membership.{Membership}
use Rattle.iox_negotiate_machine.proofs.Acted.{named}
use Rattle.iox_negotiate_machine.specs.CallLaws.{IsServiceIn}
use Rattle.iox_negotiate_machine.specs.Laws.{GoOn, HaveOwnHashes}
use Rattle.iox_negotiate_machine.specs.Standing.{Lies, TableStands}
use Rattle.iox_negotiate_table.specs.Contents.{Contents}

-- ---- what is opened in a phase

-- its name is that of the service
name_in : (node : ℕ) (pattern : MessagingPattern) (name numbers : List ℕ) (opened : Opened) (phase : Phase)
    → IsServiceIn node pattern name phase numbers opened → opened.description.name ≡ name
name_in node pattern name numbers opened (Published life agreed nodes) is = ap (λ description. description.name) is.2
name_in node pattern name numbers opened phase is = absurd is

-- its settings are of the pattern, and within the limits
described_in : (node : ℕ) (pattern : MessagingPattern) (name numbers : List ℕ) (table : Contents) (opened : Opened) (phase : Phase)
    → Lies pattern name table phase numbers → IsServiceIn node pattern name phase numbers opened
    → (pattern_of opened.description.settings ≡ pattern) × AreWithinLimits opened.description.settings
described_in node pattern name [] table opened (Published life agreed nodes) lies is = absurd lies
described_in node pattern name (number ∷ before) table opened (Published life agreed nodes) lies is = (
  ap (λ description. pattern_of description.settings) is.2 ∙ lies.0.kind,
  subst AreWithinLimits (sym (ap (λ description. description.settings) is.2)) lies.0.within.limits,
)
described_in node pattern name numbers table opened phase lies is = absurd is

not_publish_subscribe : {X : Type 0} (all : Settings) (c : StaticConfig) → all ≡ settings.PublishSubscribe c
    → pattern_of all ≢ PublishSubscribe → X
not_publish_subscribe all c is off = absurd (off (ap pattern_of is))

module _ {T U B D : Type 0} (choices : Choices T) (degrades : B → DegradationCause → DegradationInfo → DegradationAction → Type 0)
    (decides : B → BackpressureInfo → BackpressureDecision → Type 0)
    (reader_degrades : D → DegradationCause → DegradationInfo → DegradationAction → Type 0)
    (names : List (List ℕ)) (own : HaveOwnHashes names) (pattern : MessagingPattern) (name : List ℕ) (asked : IsAmong names name)
    (taken since : MessagingPattern → List ℕ → List ℕ) (goes_on : GoOn taken since) (naming : ℕ → Naming)
    (order : List (ℕ × ServicePorts T U)) (hub : NumberedHub T U B D) (state : State T)
    (stands : HubStandsFor choices degrades decides reader_degrades names taken naming order hub state) (phase : Phase) (node : ℕ)
    (opened : Opened) (table : Contents) (id : table.id ≡ hub.hub.table.id)
    (enters : IsEntered pattern name (taken pattern name) (state.phases pattern name) node phase)
    (serves : IsServiceIn node pattern name phase (since pattern name) opened)
    (stands_then : TableStands names since table (with_phase pattern name phase state))
    (rises : Rises 1 hub.factories.made.entries hub.factories.made.next) (few : hub.factories.made.next + 1 < 2 ^ 64)
    (room : ℕ) (pledged : Pledged) (made : MadeFactory) (is_pattern : pattern_in made ≡ pattern)
    (is_parts : parts_of made ≡ (membership hub.hub.table.id node opened, one_more hub.hub.factories)) where
  -- the factories of the hub then
  abbrev pub table_then : FactoryTable
  table_then = inserted (record hub.factories.made { room = room }) made

  -- the hub then, with these open services
  abbrev pub entered_hub : OpenServices T U B D → NumberedHub T U B D
  entered_hub services = record hub {
    hub = record hub.hub {
      factories = one_more hub.hub.factories;
      table = table;
      factory_counts = with_factory opened.number hub.hub.factory_counts;
      services = services;
    };
    factories = record { made = table_then };
    pledged = pledged;
  }

  -- the machine then, with these services
  abbrev pub entered_state : List (Service T) → State T
  entered_state services = record (with_phase pattern name phase state) {
    made = record state.made { factories = state.made.factories + 1 };
    factories = state.factories ++ (state.made.factories + 1, factory_got pattern name node) ∷ [];
    services = services;
  }

  phase_here : (with_phase pattern name phase state).phases pattern name ≡ phase
  phase_here = ap (λ (b : Bool). cond b phase (state.phases pattern name))
      (its_own pattern name)

  serves_here : IsServiceIn node pattern name ((with_phase pattern name phase state).phases pattern name) (since pattern name) opened
  serves_here = subst (λ (p : Phase). IsServiceIn node pattern name p (since pattern name) opened) (sym phase_here) serves

  described : (pattern_of opened.description.settings ≡ pattern) × AreWithinLimits opened.description.settings
  described = described_in node pattern name (since pattern name) table opened
      ((with_phase pattern name phase state).phases pattern name) (stands_then.phases pattern name asked).lies serves_here

  -- ---- the new factory

  number_is : service_of made ≡ opened.number
  number_is = ap (λ (parts : Membership × ℕ). parts.0.service.number) is_parts

  carried_is : carried_by made ≡ opened.description
  carried_is = ap (λ (parts : Membership × ℕ). parts.0.service.description) is_parts

  carried_name : (carried_by made).name ≡ name
  carried_name = ap (λ description. description.name) carried_is
      ∙ name_in node pattern name (since pattern name) opened phase serves

  next_is : hub.factories.made.next ≡ state.made.factories + 1
  next_is = stands.factories.numbers

  owner_is : one_more hub.hub.factories ≡ hub.factories.made.next
  owner_is = owners hub.hub.factories state.made.factories hub.factories.made.next stands.factories.owners next_is few
    where
      owners : (held count next : ℕ) → held ≡ count → next ≡ count + 1 → next + 1 < 2 ^ 64 → one_more held ≡ next
      owners held count next same is few = omega (arith, same, is, few)

  new_stands : FactoryStands names since table (with_phase pattern name phase state) hub.factories.made.next made
  new_stands = record {
    asked = subst (IsAmong names) (sym carried_name) asked;
    owner = ap (λ (parts : Membership × ℕ). parts.1) is_parts ∙ owner_is;
    storage = ap (λ (parts : Membership × ℕ). parts.0.storage) is_parts ∙ sym id;
    serves = subst (λ (member : Membership). IsServiceIn member.node (pattern_in made) (carried_by made).name
        ((with_phase pattern name phase state).phases (pattern_in made) (carried_by made).name)
        (since (pattern_in made) (carried_by made).name) member.service)
        (sym (ap (λ (parts : Membership × ℕ). parts.0) is_parts))
        (subst (λ (n : List ℕ). IsServiceIn node (pattern_in made) n ((with_phase pattern name phase state).phases (pattern_in made) n)
        (since (pattern_in made) n) opened) (sym carried_name)
        (subst (λ (p : MessagingPattern). IsServiceIn node p name ((with_phase pattern name phase state).phases p name) (since p name)
        opened) (sym is_pattern) serves_here));
  }

  new_as : factory_as made ≡ factory_got pattern name node
  new_as =
      ap (λ (p : MessagingPattern). record { pattern = p; name = (carried_by made).name; node = (parts_of made).0.node }) is_pattern
      ∙ ap (λ (n : List ℕ). record { pattern = pattern; name = n; node = (parts_of made).0.node }) carried_name
      ∙ ap (λ (parts : Membership × ℕ). factory_got pattern name parts.0.node) is_parts

  -- ---- the factories

  each_before : (number : ℕ) (one : MadeFactory) → value_at hub.factories.made number ≡ Some one
      → FactoryStands names since table (with_phase pattern name phase state) number one
  each_before number one found =
      factory_then names own pattern name asked taken state phase
      (entered_services pattern name (taken pattern name) (state.phases pattern name) node phase enters) hub.hub.table table stands.table
      id since goes_on stands_then number one (stands.factories.each number one found)

  each_then : (number : ℕ) (one : MadeFactory) → value_at table_then number ≡ Some one
      → FactoryStands names since table (with_phase pattern name phase state) number one
  each_then number one found = ⊎_elim (λ was. each_before number one was)
      (λ is. subst (λ (n : ℕ). FactoryStands names since table (with_phase pattern name phase state) n one) (sym is.0)
      (subst (FactoryStands names since table (with_phase pattern name phase state) hub.factories.made.next) is.1 new_stands))
      (went_or_new hub.factories.made.next made number one hub.factories.made.entries found)

  -- each factory goes by its number still
  still_by : (number : ℕ) (one : MadeFactory) → value_at hub.factories.made number ≡ Some one → value_at table_then number ≡ Some one
  still_by number one found = still_goes hub.factories.made.next made number one hub.factories.made.entries found

  new_by : value_at table_then hub.factories.made.next ≡ Some made
  new_by = new_goes hub.factories.made.next made hub.factories.made.entries
      (lookup-above hub.factories.made.next 1 hub.factories.made.next hub.factories.made.entries rises (omega arith))

  same_then : state.factories ++ (state.made.factories + 1, factory_got pattern name node) ∷ []
      ≡ map (λ (entry : ℕ × MadeFactory). (entry.0, factory_as entry.1)) table_then.entries
  same_then =
      ap (λ (l : List (ℕ × Factory)). l ++ (state.made.factories + 1, factory_got pattern name node) ∷ []) stands.factories.same
      ∙ ap (λ (n : ℕ). map (λ (entry : ℕ × MadeFactory). (entry.0, factory_as entry.1)) hub.factories.made.entries
      ++ (n, factory_got pattern name node) ∷ []) (sym next_is)
      ∙ ap (λ (one : Factory). map (λ (entry : ℕ × MadeFactory). (entry.0, factory_as entry.1)) hub.factories.made.entries
      ++ (hub.factories.made.next, one) ∷ []) (sym new_as)
      ∙ sym (map-append (λ (entry : ℕ × MadeFactory). (entry.0, factory_as entry.1)) hub.factories.made.entries
      ((hub.factories.made.next, made) ∷ []))

  -- ---- the seats

  abbrev many : ℕ → ℕ
  many which = factories_of_node pattern name which state.factories

  seats_here : (which : ℕ) → seats_in which phase ≡ seats_for (many which + cond (node == which) 1 0)
  seats_here which =
      ap (seats_in which) enters.is
      ∙ seats_entered node many enters.nodes (λ other. enters.had.seats other ∙ stands.factories.seats pattern name other asked) which

  more_here : (which : ℕ) (factories : List (ℕ × Factory))
      → factories_of_node pattern name which (factories ++ (state.made.factories + 1, factory_got pattern name node) ∷ [])
      ≡ factories_of_node pattern name which factories + cond (node == which) 1 0
  more_here which factories =
      more_of_node pattern name which (state.made.factories + 1) (factory_got pattern name node) factories
      ∙ ap (λ (b : Bool). factories_of_node pattern name which factories + cond b 1 0) (is_its pattern name node which)

  none_more : (one : MessagingPattern) (other : List ℕ) (which : ℕ) (factories : List (ℕ × Factory))
      → (same_pattern one pattern && bytes_eq other name) ≡ false
      → factories_of_node one other which (factories ++ (state.made.factories + 1, factory_got pattern name node) ∷ [])
      ≡ factories_of_node one other which factories
  none_more one other which factories isnt =
      more_of_node one other which (state.made.factories + 1) (factory_got pattern name node) factories
      ∙ ap (λ (b : Bool). factories_of_node one other which factories + cond b 1 0) (is_not_its pattern name node one other which isnt)
      ∙ nothing (factories_of_node one other which factories)
    where
      nothing : (n : ℕ) → n + 0 ≡ n
      nothing n = omega arith

  seats_by : (one : MessagingPattern) (other : List ℕ) (which : ℕ) → IsAmong names other → (b : Bool)
      → (same_pattern one pattern && bytes_eq other name) ≡ b
      → seats_in which (cond b phase (state.phases one other))
      ≡ seats_for (factories_of_node one other which
      (state.factories ++ (state.made.factories + 1, factory_got pattern name node) ∷ []))
  seats_by one other which among true is =
      let same = named names own pattern name asked taken one other is in
      seats_here which ∙ ap seats_for (sym (more_here which state.factories))
      ∙ ap (λ (p : MessagingPattern). seats_for (factories_of_node p name which
      (state.factories ++ (state.made.factories + 1, factory_got pattern name node) ∷ []))) (sym same.0)
      ∙ ap (λ (n : List ℕ). seats_for (factories_of_node one n which
      (state.factories ++ (state.made.factories + 1, factory_got pattern name node) ∷ []))) (sym same.1)
  seats_by one other which among false isnt =
      stands.factories.seats one other which among ∙ ap seats_for (sym (none_more one other which state.factories isnt))

  -- ---- how many there are

  counts_then : (service : ℕ) → factories_of service (with_factory opened.number hub.hub.factory_counts)
      ≡ how_often service (services_in table_then)
  counts_then service =
      counted_more opened.number service hub.hub.factory_counts
      (bound (factories_of opened.number hub.hub.factory_counts) (how_often opened.number (services_in hub.factories.made))
      (length (services_in hub.factories.made)) (length hub.factories.made.entries) hub.factories.made.next
      (stands.factories.counts opened.number) (often_few opened.number (services_in hub.factories.made))
      (length-map hub.factories.made.entries (λ (entry : ℕ × MadeFactory). service_of entry.1))
      (rising_few 1 hub.factories.made.next hub.factories.made.entries rises) few)
      ∙ ap (λ (n : ℕ). n + adds service opened.number) (stands.factories.counts service)
      ∙ ap (λ (n : ℕ). how_often service (services_in hub.factories.made) + adds service n) (sym number_is)
      ∙ sym (often_end service (service_of made) (services_in hub.factories.made))
      ∙ ap (how_often service) (sym (map-append (λ (entry : ℕ × MadeFactory). service_of entry.1) hub.factories.made.entries
      ((hub.factories.made.next, made) ∷ [])))
    where
      bound : (counted often all entries next : ℕ) → counted ≡ often → often ≤ all → all ≡ entries → entries + 1 ≤ next
          → next + 1 < 2 ^ 64 → counted + 1 < 2 ^ 64
      bound counted often all entries next is less same below few = omega (arith, is, less, same, below, few)

  opened_then : (services : OpenServices T U B D)
      → ((other : ℕ) → is_open other hub.hub.services ≡ true → is_open other services ≡ true)
      → (pattern ≡ PublishSubscribe → is_open opened.number services ≡ true)
      → (number : ℕ) (one : MadeFactory) → value_at table_then number ≡ Some one → pattern_in one ≡ PublishSubscribe
      → is_open (service_of one) services ≡ true
  opened_then services still new number one found kind = ⊎_elim
      (λ was. still (service_of one) (stands.factories.opened number one was kind))
      (λ is. ap (λ (n : ℕ). is_open n services) (ap service_of (sym is.1) ∙ number_is)
      ∙ new (sym is_pattern ∙ ap pattern_in is.1 ∙ kind))
      (went_or_new hub.factories.made.next made number one hub.factories.made.entries found)

  factories_then : (services : OpenServices T U B D) (these : List (Service T))
      → ((other : ℕ) → is_open other hub.hub.services ≡ true → is_open other services ≡ true)
      → (pattern ≡ PublishSubscribe → is_open opened.number services ≡ true)
      → FactoriesStandFor names since (entered_hub services) (entered_state these)
  factories_then services these still new = record {
    numbers = ap (λ (n : ℕ). n + 1) next_is;
    owners = owner_is ∙ next_is;
    same = same_then;
    each = λ number one found.
        let it = each_then number one found in
        record { asked = it.asked; owner = it.owner; storage = it.storage; serves = it.serves };
    seats = λ one other which among. seats_by one other which among (same_pattern one pattern && bytes_eq other name) refl;
    counts = counts_then;
    opened = opened_then services still new;
  }

  -- ---- the hub, where no domain is new

  same_services : (these : List (Service T)) → these ≡ state.services
      → (pattern ≡ PublishSubscribe → is_open opened.number hub.hub.services ≡ true)
      → HubStandsFor choices degrades decides reader_degrades names since naming order (entered_hub hub.hub.services) (entered_state these)
  same_services these same new =
      subst (λ (l : List (Service T)). HubStandsFor choices degrades decides reader_degrades names since naming order
      (entered_hub hub.hub.services) (entered_state l)) (sym same)
      (record {
        nodes = stands.nodes;
        table = record { reached = stands_then.reached; phases = stands_then.phases };
        id = stands.id ∙ sym id;
        factories = factories_then hub.hub.services state.services (λ other is. is) new;
        served = served_still hub.factories.made table_then hub.hub.services hub.hub.services still_by order (λ number is. refl)
            state.services stands.served;
        ports = other_factories choices degrades decides reader_degrades naming order hub state stands.ports table
            (one_more hub.hub.factories)
            (state.made.factories + 1) (with_factory opened.number hub.hub.factory_counts) (record { made = table_then }) pledged
            (with_phase pattern name phase state).phases
            (state.factories ++ (state.made.factories + 1, factory_got pattern name node) ∷ []);
      })

  -- ---- the hub, where one is

  module _ (c : StaticConfig) (is_settings : opened.description.settings ≡ settings.PublishSubscribe c) (domain : Domain T U B D)
      (is_new : IsNewDomain (record { hub = hub.hub.services.hub; service = opened.number }) hub.hub.expired_connection_buffer
      opened.description.settings domain)
      (closed : is_open opened.number hub.hub.services ≡ false) where
    agreed_is : domain.agreed ≡ c
    agreed_is = same_config (sym is_new.agreed ∙ is_settings)
      where
        same_config : settings.PublishSubscribe domain.agreed ≡ settings.PublishSubscribe c → domain.agreed ≡ c
        same_config e = cc

    abbrev services_then : OpenServices T U B D
    services_then = grown opened.number domain hub.hub.services closed

    abbrev these_then : List (Service T)
    these_then = state.services ++ new_service name c ∷ []

    elsewhere : (number : ℕ) → is_some (at number order) ≡ true
        → domain_of number services_then.domains ≡ domain_of number hub.hub.services.domains
    elsewhere number is =
        ap here_if (others_there opened.number domain hub.hub.services closed number
        (λ same. true≢false (sym is ∙ ap (λ (n : ℕ). is_some (at n order)) same
        ∙ ap is_some (not_ordered choices degrades decides reader_degrades naming order hub state stands.ports opened.number domain name c
        closed
        is_new.ports agreed_is))))

    serves_new : IsServedBy table_then services_then opened.number (new_service {T = T} name c)
    serves_new = record {
      factory = hub.factories.made.next;
      made = made;
      found = new_by;
      pattern = is_pattern ∙ sym described.0 ∙ ap pattern_of is_settings;
      number_is = number_is;
      name = sym carried_name;
      carried = ap (λ description. description.settings) carried_is ∙ is_settings;
      agreed = λ other found.
          ap (λ (it : Domain T U B D). it.agreed)
          (sym (same_some domain other
          (sym (ap here_if (new_there opened.number domain hub.hub.services closed)) ∙ found))) ∙ agreed_is;
    }

    new_service_stands : HubStandsFor choices degrades decides reader_degrades names since (with_name opened.number nameless naming)
        (order ++ (opened.number, domain.state.ports) ∷ []) (entered_hub services_then) (entered_state these_then)
    new_service_stands = record {
      nodes = stands.nodes;
      table = record { reached = stands_then.reached; phases = stands_then.phases };
      id = stands.id ∙ sym id;
      factories = factories_then services_then these_then (open_still opened.number domain hub.hub.services closed)
          (λ kind. ap is_some (new_there opened.number domain hub.hub.services closed));
      served = served_more hub.factories.made table_then hub.hub.services services_then still_by order opened.number domain.state.ports
          state.services (new_service name c)
          (served_still hub.factories.made table_then hub.hub.services services_then still_by order elsewhere state.services stands.served)
          serves_new;
      ports = one_more_domain choices degrades decides reader_degrades naming order
          (record hub {
            hub = record hub.hub {
              factories = one_more hub.hub.factories;
              table = table;
              factory_counts = with_factory opened.number hub.hub.factory_counts;
            };
            factories = record { made = table_then };
            pledged = pledged;
          })
          (entered_state state.services)
          (other_factories choices degrades decides reader_degrades naming order hub state stands.ports table (one_more hub.hub.factories)
          (state.made.factories + 1) (with_factory opened.number hub.hub.factory_counts) (record { made = table_then }) pledged
          (with_phase pattern name phase state).phases
          (state.factories ++ (state.made.factories + 1, factory_got pattern name node) ∷ []))
          opened.number domain name c closed is_new.ports agreed_is;
    }

  -- ---- either

  -- the services of the machine then, by the settings of the one that is open
  abbrev these_by : Settings → List (Service T)
  these_by (settings.PublishSubscribe c) =
      cond (list_any (λ (service : Service T). bytes_eq service.name name) state.services) state.services
      (state.services ++ new_service name c ∷ [])
  these_by other = state.services

  these_are : (all : Settings) → elim all [
    | settings.PublishSubscribe c ↦ cond (list_any (λ (service : Service T). bytes_eq service.name name) state.services) state.services
        (state.services ++ new_service name c ∷ [])
    | settings.Event c ↦ state.services
    | settings.RequestResponse c ↦ state.services
  ] ≡ these_by all
  these_are (settings.PublishSubscribe c) = refl
  these_are (settings.Event c) = refl
  these_are (settings.RequestResponse c) = refl

  these_open : (one : Phase) → IsServiceIn node pattern name one (since pattern name) opened
      → with_open name one state.services ≡ these_by opened.description.settings
  these_open (Published life agreed nodes) is =
      these_are agreed.settings ∙ ap these_by (sym (ap (λ description. description.settings) is.2))
  these_open other is = absurd is

  module _ (payload user_header : Detail)
      (fits : pattern ≡ PublishSubscribe → (c : StaticConfig) → opened.description.settings ≡ settings.PublishSubscribe c
      → AreWithinLimits opened.description.settings → Fits payload user_header opened.description.settings) where
    -- the service is open in the hub just if the machine has it
    open_there : pattern ≡ PublishSubscribe → is_open opened.number hub.hub.services
        ≡ list_any (λ (service : Service T). bytes_eq service.name name) state.services
    open_there kind = open_so names own pattern kind name asked since table (with_phase pattern name phase state) stands_then node opened
        serves_here hub.factories.made hub.hub.services each_before order state.services stands.served stands.ports.here stands.ports.same
        stands.factories.opened

    -- the hub stands for the machine with these services
    abbrev StandsWith : OpenServices T U B D → List (Service T) → Type 0
    StandsWith services these = (names_then : ℕ → Naming) × (order_then : List (ℕ × ServicePorts T U))
        × HubStandsFor choices degrades decides reader_degrades names since names_then order_then (entered_hub services)
        (entered_state these)

    same_hub : (services : OpenServices T U B D) (these : List (Service T)) → services ≡ hub.hub.services → these ≡ state.services
        → (pattern ≡ PublishSubscribe → is_open opened.number hub.hub.services ≡ true) → StandsWith services these
    same_hub services these same unchanged new = (
      naming,
      order,
      subst (λ (s : OpenServices T U B D). HubStandsFor choices degrades decides reader_degrades names since naming order (entered_hub s)
          (entered_state these)) (sym same) (same_services these unchanged new),
    )

    other_kind : (services : OpenServices T U B D) (these : List (Service T)) → these ≡ state.services
        → pattern_of opened.description.settings ≢ PublishSubscribe
        → Opens payload user_header hub.hub.expired_connection_buffer opened.number opened.description.settings hub.hub.services (Ok tt)
        services
        → StandsWith services these
    other_kind services these unchanged off (inl (why, same)) =
        same_hub services these same unchanged (λ kind. absurd (off (described.0 ∙ kind)))
    other_kind services these unchanged off (inr (closed, fit, new)) = not_publish_subscribe opened.description.settings fit.0 fit.1 off

    settles : (all : Settings) → opened.description.settings ≡ all → (services : OpenServices T U B D)
        → Opens payload user_header hub.hub.expired_connection_buffer opened.number opened.description.settings hub.hub.services (Ok tt)
        services
        → StandsWith services (these_by all)
    settles (settings.PublishSubscribe c) is services (inl (inl is_one, same)) =
        same_hub services (these_by (settings.PublishSubscribe c)) same
        (ap (λ (b : Bool). cond b state.services (state.services ++ new_service name c ∷ []))
        (sym (open_there (sym described.0 ∙ ap pattern_of is)) ∙ is_one)) (λ kind. is_one)
    settles (settings.PublishSubscribe c) is services (inl (inr unfit, same))
        = absurd (unfit (fits (sym described.0 ∙ ap pattern_of is) c is described.1))
    settles (settings.PublishSubscribe c) is services (inr (closed, fit, (domain, is_new, same))) = (
      with_name opened.number nameless naming,
      order ++ (opened.number, domain.state.ports) ∷ [],
      subst (λ (s : OpenServices T U B D). HubStandsFor choices degrades decides reader_degrades names since
          (with_name opened.number nameless naming) (order ++ (opened.number, domain.state.ports) ∷ []) (entered_hub s)
          (entered_state (these_by (settings.PublishSubscribe c)))) (sym same)
          (subst (λ (b : Bool). HubStandsFor choices degrades decides reader_degrades names since (with_name opened.number nameless naming)
          (order ++ (opened.number, domain.state.ports) ∷ []) (entered_hub (services_then c is domain is_new closed))
          (entered_state (cond b state.services (state.services ++ new_service name c ∷ []))))
          (sym (sym (open_there (sym described.0 ∙ ap pattern_of is)) ∙ closed))
          (new_service_stands c is domain is_new closed)),
    )
    settles (settings.Event c) is services opens =
        other_kind services state.services refl (λ kind. event_differs (sym (ap pattern_of is) ∙ kind)) opens
      where
        event_differs : pattern_of (settings.Event c) ≡ PublishSubscribe → ⊥
        event_differs e = cc
    settles (settings.RequestResponse c) is services opens =
        other_kind services state.services refl (λ kind. request_differs (sym (ap pattern_of is) ∙ kind)) opens
      where
        request_differs : pattern_of (settings.RequestResponse c) ≡ PublishSubscribe → ⊥
        request_differs e = cc

    -- the hub stands for the machine that its node entered, by some names and in some order
    pub entered_stands : (services : OpenServices T U B D)
        → Opens payload user_header hub.hub.expired_connection_buffer opened.number opened.description.settings hub.hub.services (Ok tt)
        services
        → (names_then : ℕ → Naming) × (order_then : List (ℕ × ServicePorts T U))
        × HubStandsFor choices degrades decides reader_degrades names since names_then order_then (entered_hub services)
        (entered_state (with_open name phase state.services))
    entered_stands services opens =
        subst (λ (these : List (Service T)). StandsWith services these) (sym (these_open phase serves))
        (settles opened.description.settings refl services opens)

-- What a run keeps of its hub: how much was counted so far, and that its domains, numbers and agreements are as they came to be.
use Rattle.std.proofs.Common.{◌≡◌, ℕ, ◌+◌, ◌*◌, ◌^◌, ◌<◌, ◌≤◌, Bool, true, false, cond, List, [], ◌∷◌, length, Option, None, Some}
use Rattle.std.proofs.Common.{Ok, refl, sym, ap, subst, arith, inl, inr, ◌≢◌}
use Rattle.std.proofs.lemmas.Bool.{eqb-true, lt-ltb}
use Rattle.std.proofs.lemmas.Cmp.{ranked, tied_itself}
use Rattle.std.proofs.lemmas.List.Sums.{sum_by-cons}
use Rattle.std.proofs.lemmas.Map.Lookups.{exact_unsigned}
use Rattle.std.specs.BTreeMap.{is_at}
use Rattle.std.specs.Cmp.{nat_cmp_is, nat_cmp_total}
use Rattle.std.specs.List.{AllByRecursion}
use Rattle.std.specs.Map.{keys_of, values_of}
use Rattle.std.specs.Ordering.{nat_cmp}
use Rattle.std.specs.Prelude.{◌==◌}
use Rattle.std.specs.declared.cmp.Ordering.TheVariants.{Less}
use Rattle.iox_command.specs.DomainValues.declared.backpressure.BackpressureAction.{BackpressureAction}
use Rattle.iox_command.specs.DomainValues.declared.backpressure_strategy.BackpressureStrategy.{BackpressureStrategy}
use Rattle.iox_command.specs.DomainValues.declared.degradation.DegradationAction.{DegradationAction}
use Rattle.iox_command.specs.DomainValues.declared.degradation.DegradationCause.{DegradationCause}
use Rattle.iox_command.specs.DomainValues.declared.degradation.DegradationInfo.{DegradationInfo}
use Rattle.iox_command.specs.NegotiateBase.DescribeBase.Detail.{Detail}
use Rattle.iox_command.specs.NegotiateBase.DescribeSettings.declared.static_config.Settings.{Settings}
use Rattle.iox_command.specs.declared.command.Command.{Command}
use Rattle.iox_command.specs.declared.command.Command.TheVariants as command
use Rattle.iox_command.specs.declared.port.PublisherOptions.{PublisherOptions}
use Rattle.iox_command.specs.declared.port.SubscriberOptions.{SubscriberOptions}
use Rattle.iox_command.specs.declared.reply.Reply.{Reply}
use Rattle.iox_container.specs.NumberTable.{value_at}
use Rattle.iox_domain.specs.Rolls.{may_change}
use Rattle.iox_domain.specs.Tries.{how_often}
use Rattle.iox_domain.specs.declared.domain.Domain.{Domain}
use Rattle.iox_domain.specs.declared.domain_id.DomainId.{DomainId}
use Rattle.iox_domain.specs.declared.ports.making.PublisherConfig.{PublisherConfig}
use Rattle.iox_domain.specs.declared.ports.service_ports.ServicePorts.{ServicePorts}
use Rattle.iox_domain_machine.specs.Services.{ComesOnce}
use Rattle.iox_hub_base.specs.AsHome.{hub_ports}
use Rattle.iox_hub_base.specs.Numbered.{one_value}
use Rattle.iox_hub_base.specs.Open.{OpenServices, presence_of}
use Rattle.iox_hub_base.specs.Opening.{Made as Opened}
use Rattle.iox_hub_base.specs.ServicesAsHome.{domain_at}
use Rattle.iox_hub_base.specs.ServicesOpening.{Opens, without_service}
use Rattle.iox_hub_base.specs.declared.hub.Hub.{Hub}
use Rattle.iox_hub_base.specs.declared.hub.HubConfig.{HubConfig}
use Rattle.iox_hub_base.specs.declared.presence.Presence.{Presence}
use Rattle.iox_hub_base.specs.declared.presence.Presence.TheVariants.{Here, Out}
use Rattle.iox_hub_base.specs.Room.{counted_at}
use Rattle.iox_hub_commands.specs.CommandSteps as hub
use Rattle.iox_hub_commands.specs.Grown.{HaveGrown}
use Rattle.iox_hub_commands.specs.Naming.{publisher_config, publisher_handlers, subscriber_config, subscriber_handler}
use Rattle.iox_hub_commands.specs.Numbers.{IsNew}
use Rattle.iox_hub_commands.specs.PortRoom.{HasRoom, OfPorts}
use Rattle.iox_hub_commands.specs.Services.{PublisherComes, SubscriberComes, domain_of_factory, owner_of_factory}
use Rattle.iox_hub_commands.specs.ServicesTables.{publish_subscribe_in}
use Rattle.iox_hub_commands.specs.declared.numbered_hub.NumberedHub.{NumberedHub}
use Rattle.iox_hub_commands.specs.Terms.{Terms}
use Rattle.iox_hub_commands.proofs.Measures.{AreFine, IsFineAt, total}
use Rattle.iox_hub_commands.proofs.PortsCount.{Balances, brought_at, held_at, publisher_balances, subscriber_balances}
use Rattle.iox_hub_commands.proofs.ServicesAgree.{nothing_agrees}
use Rattle.iox_hub_commands.proofs.ServicesGo.{close_go, create_go, either_go, foreign_go, open_go}
use Rattle.iox_hub_commands.proofs.StepChanges.{changes_count, numbers_go_on, step_changes}
use Rattle.iox_hub_commands.proofs.StepKeeps.{step_holds}
use Rattle.iox_hub_commands.proofs.StepMoves.{step_goes}
use Rattle.iox_hub_machine.proofs.Housed.{some_ports, stands_here}
use Rattle.iox_hub_machine.proofs.LocksTaken.{TakesFew, close_takes, create_takes, either_takes, foreign_takes, most_taken, open_takes}
use Rattle.iox_hub_machine.proofs.LocksTaken.{takes_more}
use Rattle.iox_hub_machine.proofs.PortMeasure.{port_measure}
use Rattle.iox_hub_machine.proofs.PortsRest.{port_leaves}
use Rattle.iox_hub_machine.specs.Ran.{AreRising, RanAtMost, port_count}
use Rattle.iox_hub_machine.specs.RunLaws.{steps_named}
use Rattle.iox_machine.proofs.Ported.{is_of_ports}
use Rattle.iox_negotiate.proofs.Maps.{Distinct, Rising, insert-rising, remove-rising, rising-distinct, weaker}

-- ---- rising numbers

module _ {X : Type 0} where
  pub to_rising : (entries : List (ℕ × X)) → AreRising entries → Rising nat_cmp entries
  to_rising [] rising = tt
  to_rising (entry ∷ entries) rising = (
    weaker (λ later. entry.0 < later.0) (λ later. nat_cmp entry.0 later.0 ≡ Less)
        (λ later below. sym (nat_cmp_is entry.0 later.0 Less below)) entries rising.0,
    to_rising entries rising.1,
  )

  pub from_rising : (entries : List (ℕ × X)) → Rising nat_cmp entries → AreRising entries
  from_rising [] rising = tt
  from_rising (entry ∷ entries) rising = (
    weaker (λ later. nat_cmp entry.0 later.0 ≡ Less) (λ later. entry.0 < later.0)
        (λ later less. ranked entry.0 later.0 Less (sym less)) entries rising.0,
    from_rising entries rising.1,
  )

-- ---- ports that come

brought_few : {T U : Type 0} (config : PublisherConfig) (found : Option (ServicePorts T U)) → brought_at port_measure config found ≤ 6
brought_few config None = omega arith
brought_few config (Some ports) = omega arith

held_few : {T U : Type 0} (found : Option (ServicePorts T U)) → held_at port_measure found ≤ 6
held_few None = omega arith
held_few (Some ports) = omega arith

module _ {T U B D : Type 0} where
  -- ---- a new hub

  no_services : (domains : List (ℕ × Presence T U B D)) → domains ≡ [] → HaveGrown domains × (total port_measure domains ≡ 0)
  no_services domains none = rw none (tt, refl)

  pub new_runs_on : (config : HubConfig) (hub : NumberedHub T U B D) → IsNew config hub → RanAtMost 0 hub
  new_runs_on config hub new =
      let none = ap (λ services. services.domains) new.services in
      let made = ap (λ table. table.next) new.no_factory in
      let entries = ap (λ table. table.entries) new.no_factory in
      let nodes = new.nodes in
      let next = ap (λ table. table.next) new.table in
      let counts = (no_services hub.hub.services.domains none).1 in
      let publishers = new.publishers.1 in
      let subscribers = new.subscribers.1 in
      let loans = new.loans.1 in
      let samples = new.samples.1 in record {
        grown = (no_services hub.hub.services.domains none).0;
        rise = (
          rw (entries, made) (omega arith),
          rw (new.publishers.0, publishers) (omega arith),
          rw (new.subscribers.0, subscribers) (omega arith),
          rw (new.loans.0, loans) (omega arith),
          rw (new.samples.0, samples) (omega arith),
        );
        agreed = nothing_agrees hub.factories.made hub.hub config.id entries none new.table;
        services = rw none tt;
        counts = rw new.factory_counts tt;
        nodes = omega (arith, nodes);
        numbers = omega (arith, made, publishers, subscribers, loans, samples);
        locks = omega (arith, next);
        ports = omega (arith, counts);
      }

  -- a new hub has room for its ports: it has none
  pub new_has_room : (config : HubConfig) (hub : NumberedHub T U B D) → IsNew config hub → HasRoom hub
  new_has_room config hub new =
      let none = ap (λ services. services.domains) new.services in (
        (rw (new.loans.0, none) (omega arith), inl new.publishers.0),
        (rw (new.samples.0, none) (omega arith), inl new.subscribers.0),
      )

  -- ---- a step

  fine_at : (presence : Presence T U B D) → IsFineAt port_measure presence
  fine_at (Here domain) = tt
  fine_at (Out agreed) = tt

  pub all_fine : (domains : List (ℕ × Presence T U B D)) → AreFine port_measure domains
  all_fine domains = λ k d within. fine_at _

  balanced : (brings : ℕ) (old new : NumberedHub T U B D) → brings ≤ 6
      → Balances port_measure brings old.made old.hub new.made new.hub
      → total port_measure new.hub.services.domains ≤ total port_measure old.hub.services.domains + 6
  balanced brings old new few balances =
      let (fine, less) = balances (all_fine old.hub.services.domains) in omega (arith, few, less)

  -- where nothing changed
  same_total : (old new : NumberedHub T U B D) → new ≡ old
      → total port_measure new.hub.services.domains ≤ total port_measure old.hub.services.domains + 6
  same_total old new same =
      let even = ap (λ (it : NumberedHub T U B D). total port_measure it.hub.services.domains) same in omega (arith, even)

  publisher_few : (is_default : U → Type 0) (fixed : BackpressureStrategy → Option BackpressureAction → DegradationAction → B)
      (degrades : B → DegradationCause → DegradationInfo → DegradationAction → Type 0) (opened : Option Opened)
      (options : PublisherOptions) (old new : NumberedHub T U B D) (answer : Reply T)
      → PublisherComes is_default fixed degrades opened options old answer new
      → total port_measure new.hub.services.domains ≤ total port_measure old.hub.services.domains + 6
  publisher_few is_default fixed degrades None options old new answer comes = same_total old new comes.1
  publisher_few is_default fixed degrades (Some opened) options old new answer (comes, same) =
      let config = publisher_config (owner_of_factory opened) options in
      balanced (brought_at port_measure config (hub_ports (domain_of_factory opened) old.hub)) old new
      (brought_few config (hub_ports (domain_of_factory opened) old.hub))
      (publisher_balances port_measure degrades is_default (domain_of_factory opened) config options.preallocated_samples
      (publisher_handlers fixed options) old.made new.made old.hub new.hub answer comes)

  subscriber_few : (fixed : DegradationAction → D) (degrades : D → DegradationCause → DegradationInfo → DegradationAction → Type 0)
      (opened : Option Opened) (options : SubscriberOptions) (old new : NumberedHub T U B D) (answer : Reply T)
      → SubscriberComes fixed degrades opened options old answer new
      → total port_measure new.hub.services.domains ≤ total port_measure old.hub.services.domains + 6
  subscriber_few fixed degrades None options old new answer comes = same_total old new comes.1
  subscriber_few fixed degrades (Some opened) options old new answer (comes, same) =
      balanced (held_at port_measure (hub_ports (domain_of_factory opened) old.hub)) old new
      (held_few (hub_ports (domain_of_factory opened) old.hub))
      (subscriber_balances port_measure degrades (domain_of_factory opened) (subscriber_config (owner_of_factory opened) options)
      (subscriber_handler fixed options) old.made new.made old.hub new.hub answer comes)

  -- What a step takes of the table and of nodes; the config stays, and counts of factories stand by rising numbers where they did.
  pub record TakesSome (few : ℕ) (old new : Hub T U B D) : Type 0 where
    pub buffer : new.expired_connection_buffer ≡ old.expired_connection_buffer
    pub nodes : new.nodes ≤ old.nodes + 1
    pub locks : new.table.next ≤ old.table.next + few
    pub counts : Rising nat_cmp old.factory_counts → Rising nat_cmp new.factory_counts

  few_taken : (count : ℕ) (old new : Hub T U B D) → TakesFew (most_taken count) old new → TakesSome (17 * (1 + count)) old new
  few_taken count old new takes =
      let nodes = takes.nodes in let locks = takes.locks in record {
        buffer = takes.buffer;
        nodes = omega (arith, nodes);
        locks = omega (arith, locks);
        counts = takes.rising;
      }

  -- services stand by rising numbers, where they did
  abbrev Ascends : OpenServices T U B D → OpenServices T U B D → Type 0
  Ascends old new = Rising nat_cmp old.domains → Rising nat_cmp new.domains

  still : (old new : OpenServices T U B D) → new ≡ old → Ascends old new
  still old new same = λ rises. subst (λ (services : OpenServices T U B D). Rising nat_cmp services.domains) (sym same) rises

  opening : (payload user_header : Detail) (buffer number : ℕ) (settings : Settings) (old new : OpenServices T U B D)
      → Opens payload user_header buffer number settings old (Ok tt) new → Ascends old new
  opening payload user_header buffer number settings old new (inl (why, same)) = still old new same
  opening payload user_header buffer number settings old new (inr (closed, fits, (domain, is_new, is))) =
      λ rises. subst (λ (services : OpenServices T U B D). Rising nat_cmp services.domains) (sym is)
      (insert-rising nat_cmp nat_cmp_total (λ x y same. exact_unsigned x y same) number (Here domain) old.domains rises)

  closing : (number : ℕ) (old : OpenServices T U B D) → Ascends old (without_service number old)
  closing number old =
      λ rises. remove-rising nat_cmp nat_cmp_total (λ x y same. exact_unsigned x y same) (is_at (nat_cmp number)) old.domains rises

  module _ (terms : Terms T U B D) (old new : NumberedHub T U B D) (answer : Reply T) where
    abbrev Steps : Command T → Type 0
    Steps asked = hub.Step terms asked old (Ok answer) new

    abbrev FewMore : Type 0
    FewMore = total port_measure new.hub.services.domains ≤ total port_measure old.hub.services.domains + 6

    of_ports : (asked : Command T) → Steps asked → OfPorts FewMore asked
    of_ports (command.Publisher factory options) step =
        publisher_few terms.is_default_header terms.fixed terms.degrades (publish_subscribe_in (value_at old.factories.made factory))
        options old new answer step
    of_ports (command.Subscriber factory options) step =
        subscriber_few terms.fixed_reader terms.reader_degrades (publish_subscribe_in (value_at old.factories.made factory)) options old
        new answer step
    of_ports other step = tt

    few_more : (asked : Command T) → Steps asked → FewMore
    few_more asked step =
        step_holds port_measure terms old new FewMore (λ keeps. balanced 0 old new (omega arith) keeps.1) asked (Ok answer) step
        (of_ports asked step)

    by_ports : (asked : Command T) → Steps asked → is_of_ports asked ≡ true → TakesSome 17 old.hub new.hub
    by_ports asked step is =
        let leaves = port_leaves terms old new answer asked is step in
        let nodes = ap (λ (it : Hub T U B D). it.nodes) leaves.hub.rest in
        let locks = ap (λ (it : Hub T U B D). it.table.next) leaves.hub.rest in record {
          buffer = ap (λ (it : Hub T U B D). it.expired_connection_buffer) leaves.hub.rest;
          nodes = omega (arith, nodes);
          locks = omega (arith, locks);
          counts = λ rises. subst (λ (it : Hub T U B D). Rising nat_cmp it.factory_counts) (sym leaves.hub.rest) rises;
        }

    pub step_takes : (asked : Command T) → Steps asked → TakesSome (17 * (1 + steps_named asked)) old.hub new.hub
    step_takes command.Node step =
        let nodes = ap (λ (it : NumberedHub T U B D). it.hub.nodes) step.1 in
        let locks = ap (λ (it : NumberedHub T U B D). it.hub.table.next) step.1 in record {
          buffer = ap (λ (it : NumberedHub T U B D). it.hub.expired_connection_buffer) step.1;
          nodes = omega (arith, nodes);
          locks = omega (arith, locks);
          counts = λ rises. subst (λ (it : NumberedHub T U B D). Rising nat_cmp it.hub.factory_counts) (sym step.1) rises;
        }
    step_takes (command.Create node name options attributes steps) (made, does, same, told) =
        few_taken (length steps) old.hub new.hub
        (create_takes terms.payload terms.user_header terms.types _ steps old.factories.made new.factories.made old.hub new.hub _
        attributes made does)
    step_takes (command.Open node name options required steps) (made, does, same, told) =
        few_taken (length steps) old.hub new.hub
        (open_takes terms.payload terms.user_header terms.types _ steps old.factories.made new.factories.made old.hub new.hub _ required
        made does)
    step_takes (command.OpenOrCreate node name options required steps) (made, does, same, told) =
        few_taken (length steps) old.hub new.hub
        (either_takes terms.payload terms.user_header terms.types _ steps old.factories.made new.factories.made old.hub new.hub _ required
        made does)
    step_takes (command.Foreign pattern name steps) (acted, acts, same, told) =
        few_taken (length steps) old.hub new.hub (foreign_takes pattern name terms.types steps old.hub new.hub acted acts)
    step_takes (command.Close factory) (closed, closes, same, told) =
        few_taken 0 old.hub new.hub
        (takes_more 17 (most_taken 0) old.hub new.hub (omega arith)
        (close_takes factory _ old.factories.made new.factories.made old.hub new.hub closed closes))
    step_takes (command.Publisher factory options) step = by_ports (command.Publisher factory options) step refl
    step_takes (command.Subscriber factory options) step = by_ports (command.Subscriber factory options) step refl
    step_takes (command.Loan publisher elements) step = by_ports (command.Loan publisher elements) step refl
    step_takes (command.LoanUninit publisher elements) step = by_ports (command.LoanUninit publisher elements) step refl
    step_takes (command.Set loan place value) step = by_ports (command.Set loan place value) step refl
    step_takes (command.Fill loan values) step = by_ports (command.Fill loan values) step refl
    step_takes (command.Drop loan) step = by_ports (command.Drop loan) step refl
    step_takes (command.Send loan) step = by_ports (command.Send loan) step refl
    step_takes (command.Put publisher values) step = by_ports (command.Put publisher values) step refl
    step_takes (command.Retry publisher nanoseconds) step = by_ports (command.Retry publisher nanoseconds) step refl
    step_takes (command.GiveUp publisher) step = by_ports (command.GiveUp publisher) step refl
    step_takes (command.Receive subscriber) step = by_ports (command.Receive subscriber) step refl
    step_takes (command.Read sample) step = by_ports (command.Read sample) step refl
    step_takes (command.Sequence sample) step = by_ports (command.Sequence sample) step refl
    step_takes (command.Release sample) step = by_ports (command.Release sample) step refl
    step_takes (command.Update it) step = by_ports (command.Update it) step refl
    step_takes (command.Leave it) step = by_ports (command.Leave it) step refl
    step_takes (command.Has subscriber) step = by_ports (command.Has subscriber) step refl

    rests : (asked : Command T) → Steps asked → is_of_ports asked ≡ true → Ascends old.hub.services new.hub.services
    rests asked step is =
        (port_leaves terms old new answer asked is step).hub.rising

    step_ascends : (asked : Command T) → Steps asked → Ascends old.hub.services new.hub.services
    step_ascends command.Node step =
        still old.hub.services new.hub.services (ap (λ (it : NumberedHub T U B D). it.hub.services) step.1)
    step_ascends (command.Create node name options attributes steps) (made, does, same, told) =
        create_go Ascends still opening closing _ terms.payload terms.user_header terms.types _ attributes steps old.factories.made
        new.factories.made old.hub new.hub made does
    step_ascends (command.Open node name options required steps) (made, does, same, told) =
        open_go Ascends still opening closing _ terms.payload terms.user_header terms.types _ required steps old.factories.made
        new.factories.made old.hub new.hub made does
    step_ascends (command.OpenOrCreate node name options required steps) (made, does, same, told) =
        either_go Ascends still opening closing _ terms.payload terms.user_header terms.types _ required steps old.factories.made
        new.factories.made old.hub new.hub made does
    step_ascends (command.Foreign pattern name steps) (acted, acts, same, told) =
        foreign_go Ascends still opening closing pattern name terms.types steps old.hub new.hub acted acts
    step_ascends (command.Close factory) (closed, closes, same, told) =
        close_go Ascends still opening closing factory _ old.factories.made new.factories.made old.hub new.hub closed closes
    step_ascends (command.Publisher factory options) step = rests (command.Publisher factory options) step refl
    step_ascends (command.Subscriber factory options) step = rests (command.Subscriber factory options) step refl
    step_ascends (command.Loan publisher elements) step = rests (command.Loan publisher elements) step refl
    step_ascends (command.LoanUninit publisher elements) step = rests (command.LoanUninit publisher elements) step refl
    step_ascends (command.Set loan place value) step = rests (command.Set loan place value) step refl
    step_ascends (command.Fill loan values) step = rests (command.Fill loan values) step refl
    step_ascends (command.Drop loan) step = rests (command.Drop loan) step refl
    step_ascends (command.Send loan) step = rests (command.Send loan) step refl
    step_ascends (command.Put publisher values) step = rests (command.Put publisher values) step refl
    step_ascends (command.Retry publisher nanoseconds) step = rests (command.Retry publisher nanoseconds) step refl
    step_ascends (command.GiveUp publisher) step = rests (command.GiveUp publisher) step refl
    step_ascends (command.Receive subscriber) step = rests (command.Receive subscriber) step refl
    step_ascends (command.Read sample) step = rests (command.Read sample) step refl
    step_ascends (command.Sequence sample) step = rests (command.Sequence sample) step refl
    step_ascends (command.Release sample) step = rests (command.Release sample) step refl
    step_ascends (command.Update it) step = rests (command.Update it) step refl
    step_ascends (command.Leave it) step = rests (command.Leave it) step refl
    step_ascends (command.Has subscriber) step = rests (command.Has subscriber) step refl

    -- one command more
    pub step_runs_on : (most : ℕ) (asked : Command T) → Steps asked → RanAtMost most old → RanAtMost (most + (1 + steps_named asked)) new
    step_runs_on most asked step on =
        let changes = step_changes terms asked old new (Ok answer) step in
        let ((id, moves), agrees)
        = step_goes terms asked old new (Ok answer) step in
        let goes = numbers_go_on old new changes in
        let takes = step_takes asked step in
        let used = changes_count old new changes in
        let more = few_more asked step in
        let nodes = takes.nodes in
        let locks = takes.locks in
        let nodes_before = on.nodes in
        let numbers_before = on.numbers in
        let locks_before = on.locks in
        let ports_before = on.ports in record {
          grown = moves.1 on.grown;
          rise = (
            (goes.0 on.rise.0).0,
            (goes.1 on.rise.1).0,
            (goes.2 on.rise.2).0,
            (goes.3 on.rise.3).0,
            (goes.4 on.rise.4).0,
          );
          agreed = agrees on.agreed;
          services = from_rising new.hub.services.domains (step_ascends asked step (to_rising old.hub.services.domains on.services));
          counts = from_rising new.hub.factory_counts (takes.counts (to_rising old.hub.factory_counts on.counts));
          nodes = omega (arith, nodes, nodes_before);
          numbers = omega (arith, used, numbers_before);
          locks = omega (arith, locks, locks_before);
          ports = omega (arith, more, ports_before);
        }

  -- ---- what each port comes to

  count_here : (b : Bool) (service : ℕ × Presence T U B D) (services : List (ℕ × Presence T U B D)) (number : ℕ) (domain : Domain T U B D)
      → cond b (Some service.1) (presence_of number services) ≡ Some (Here domain)
      → (presence_of number services ≡ Some (Here domain) → port_count domain.state.ports ≤ total port_measure services)
      → port_count domain.state.ports ≤ total port_measure (service ∷ services)
  count_here true service services number domain found rest =
      let sums = sum_by-cons (λ presence. counted_at (λ ports. port_count ports) presence) service.1 (values_of services) in
      let same = ap (λ (presence : Presence T U B D). counted_at (λ ports. port_count ports) presence) (one_value found) in
      omega (arith, sums, same)
  count_here false service services number domain found rest =
      let sums = sum_by-cons (λ presence. counted_at (λ ports. port_count ports) presence) service.1 (values_of services) in
      let less = rest found in omega (arith, sums, less)

  count_of : (number : ℕ) (domains : List (ℕ × Presence T U B D)) (domain : Domain T U B D) → presence_of number domains
      ≡ Some (Here domain)
      → port_count domain.state.ports ≤ total port_measure domains
  count_of number [] domain found = cc
  count_of number (service ∷ services) domain found =
      count_here (is_at (nat_cmp number) service.0) service services number domain found
      (λ later. count_of number services domain later)

  -- the ports of a domain can be counted on
  pub can_count : (most : ℕ) (hub : NumberedHub T U B D) → RanAtMost most hub → most < 2 ^ 56 → (id : DomainId) (ports : ServicePorts T U)
      → hub_ports id hub.hub ≡ Some ports
      → (ports.next_port + 1 < 2 ^ 64) × (may_change ports.publisher_list ≡ true) × (may_change ports.subscriber_list ≡ true)
  can_count most hub on few id ports found =
      let (domain, is, same) = some_ports (domain_at id hub.hub.services) ports found in
      let here = count_of id.service hub.hub.services.domains domain (stands_here id ports hub.hub domain is) in
      let even = ap port_count same in
      let all = on.ports in (
        omega (arith, here, even, all, few),
        lt-ltb _ _ (omega (arith, here, even, all, few)),
        lt-ltb _ _ (omega (arith, here, even, all, few)),
      )

-- ---- no number stands twice

none_often : {X : Type 0} (number : ℕ) (entries : List (ℕ × X)) → AllByRecursion (λ later. later.0 ≢ number) entries
    → how_often number (keys_of entries) ≡ 0
none_often number [] all = refl
none_often number (entry ∷ entries) all = here (number == entry.0) refl (none_often number entries all.1)
  where
    here : (b : Bool) → (number == entry.0) ≡ b → how_often number (keys_of entries) ≡ 0
        → (cond b 1 0) + how_often number (keys_of entries) ≡ 0
    here true is none = absurd (all.0 (sym (eqb-true number entry.0 is)))
    here false is none = omega (arith, none)

once_each : {X : Type 0} (entries : List (ℕ × X)) → Distinct (λ e. e.0) entries → ComesOnce entries
once_each [] distinct number = omega arith
once_each (entry ∷ entries) distinct number = here (number == entry.0) refl (once_each entries distinct.1 number)
  where
    here : (b : Bool) → (number == entry.0) ≡ b → how_often number (keys_of entries) ≤ 1
        → (cond b 1 0) + how_often number (keys_of entries) ≤ 1
    here true is few =
        let none = none_often number entries (subst (λ (n : ℕ). AllByRecursion (λ later. later.0 ≢ n) entries)
        (sym (eqb-true number entry.0 is)) distinct.0) in
        omega (arith, none)
    here false is few = omega (arith, few)

rising_once : {X : Type 0} (entries : List (ℕ × X)) → Rising nat_cmp entries → ComesOnce entries
rising_once entries rises =
    once_each entries (rising-distinct nat_cmp nat_cmp_total (λ x y same. exact_unsigned x y same)
    (λ k. tied_itself nat_cmp_total k) entries rises)

-- no service, and no count of factories, stands twice by its number
pub each_once : {T U B D : Type 0} (most : ℕ) (hub : NumberedHub T U B D) → RanAtMost most hub
    → ComesOnce hub.hub.services.domains × ComesOnce hub.hub.factory_counts
each_once most hub on = (
  rising_once hub.hub.services.domains (to_rising hub.hub.services.domains on.services),
  rising_once hub.hub.factory_counts (to_rising hub.hub.factory_counts on.counts),
)

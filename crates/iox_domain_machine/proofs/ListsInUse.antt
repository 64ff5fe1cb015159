-- What is true of the header of each message in use of a list of publishers, after each step of a subscriber and after each call.
use Rattle.std.proofs.Common.{◌≡◌, ℕ, Bool, true, false, List, min, Option, None, Some, Result, Ok, Err, refl}
use Rattle.std.proofs.Common.{sym, subst, All, if◌then◌else◌}
use Rattle.std.proofs.lemmas.List.Elements.{All-nil}
use Rattle.std.specs.Prelude.{⊤}
use Rattle.std.specs.declared.alloc.AllocError.{AllocError}
use Rattle.iox_domain.proofs.Numbered.{all_came, all_gone, all_set, at_number, found_of_all}
use Rattle.iox_domain.proofs.Walks.{Walks, WalksTaking, WalksLeaving, left_all_walk, walked_receives, walked_updates}
use Rattle.iox_domain.specs.Calls.{AsksForSamples, GivesLoanUp, GivesSendUp, Happens, Lends, PortCall, PublisherComes, PublisherLeaves}
use Rattle.iox_domain.specs.Calls.{PublisherUpdates, Receives, Releases, Retries, Sends, SubscriberComes, SubscriberLeaves}
use Rattle.iox_domain.specs.Calls.{SubscriberUpdates, Writes}
use Rattle.iox_domain.specs.DescribeBase.declared.header.Header.{Header}
use Rattle.iox_domain.specs.DomainPorts.Arriving.{new_subscriber}
use Rattle.iox_domain.specs.DomainPorts.Leaving.{departed, new_port}
use Rattle.iox_domain.specs.DomainPorts.Messages.{Message}
use Rattle.iox_domain.specs.DomainPorts.Ports.{detached_at}
use Rattle.iox_domain.specs.DomainPorts.Publishers.{AttachesAtPort, changed, changed_at_port, connection_in, ended_if_left, is_over_in}
use Rattle.iox_domain.specs.DomainPorts.Publishers.{port_of, removed, settled, with_port}
use Rattle.iox_domain.specs.DomainPorts.Reading.{given_back_at, place_of, taken_at}
use Rattle.iox_domain.specs.DomainPorts.Writing.{changed_if, given_up, loan_of}
use Rattle.iox_domain.specs.DomainPorts.declared.attached.Taken.{Taken}
use Rattle.iox_domain.specs.DomainPorts.declared.publisher_entry.PublisherEntry.{PublisherEntry}
use Rattle.iox_domain.specs.DomainPorts.declared.publisher_port.PublisherPort.{PublisherPort}
use Rattle.iox_domain.specs.DomainPorts.declared.subscriber_port.SubscriberPort.{SubscriberPort}
use Rattle.iox_domain.specs.DomainValues.Sizes.{buffer_of}
use Rattle.iox_domain.specs.DomainValues.declared.backpressure.BackpressureDecision.{BackpressureDecision}
use Rattle.iox_domain.specs.DomainValues.declared.backpressure.BackpressureInfo.{BackpressureInfo}
use Rattle.iox_domain.specs.DomainValues.declared.connection_failure.ConnectionFailure.{ConnectionFailure}
use Rattle.iox_domain.specs.DomainValues.declared.create_error.PublisherCreateError.{PublisherCreateError}
use Rattle.iox_domain.specs.DomainValues.declared.create_error.SubscriberCreateError.{SubscriberCreateError}
use Rattle.iox_domain.specs.DomainValues.declared.degradation.DegradationAction.{DegradationAction}
use Rattle.iox_domain.specs.DomainValues.declared.degradation.DegradationInfo.{DegradationInfo}
use Rattle.iox_domain.specs.DomainValues.declared.port_error.ReceiveError.{ReceiveError}
use Rattle.iox_domain.specs.DomainValues.declared.port_owner.PortOwner.{PortOwner}
use Rattle.iox_domain.specs.Lending.{LoansOne}
use Rattle.iox_domain.specs.Making.{AddsPublisher, AddsSubscriber, CreatesPublisher, CreatesSubscriber, identity_of, publisher_place}
use Rattle.iox_domain.specs.Making.{sender_config, sequence_before, slots_needed, subscriber_place}
use Rattle.iox_domain.specs.Ports.{AtPublisher, AtSubscriber}
use Rattle.iox_domain.specs.PortsPublishing as publishing
use Rattle.iox_domain.specs.PortsPublishing.{is_free}
use Rattle.iox_domain.specs.PortsSubscribing as subscribing
use Rattle.iox_domain.specs.Rolls.{RollState}
use Rattle.iox_domain.specs.Subscribers.{subscriber_of}
use Rattle.iox_domain.specs.declared.ports.making.PublisherConfig.{PublisherConfig}
use Rattle.iox_domain.specs.declared.ports.service_ports.ServicePorts.{ServicePorts}
use Rattle.iox_domain_machine.proofs.Found.{never_some}
use Rattle.iox_domain_machine.proofs.MessagesInUse.{Passes, back_passes, so_attaches, so_departed, so_detached, so_ended_if_left}
use Rattle.iox_domain_machine.proofs.MessagesInUse.{so_updates}
use Rattle.iox_domain_machine.proofs.MessagesInUse.{taken_passes}
use Rattle.iox_domain_machine.proofs.SendsInUse.{BeginsSo, passes_changed, passes_given_up, passes_gives_up, passes_loans, passes_retries}
use Rattle.iox_domain_machine.proofs.SendsInUse.{passes_sends, passes_updates}

module _ {T U : Type 0} (P : Header → Message T U → Type 0) where
  abbrev Entry : ℕ × PublisherPort T U → Type 0
  Entry entry = Passes P entry.1

  -- so it is at each publisher
  abbrev pub AllPass : List (ℕ × PublisherPort T U) → Type 0
  AllPass ports = All Entry ports

  -- and still is
  abbrev Goes : List (ℕ × PublisherPort T U) → List (ℕ × PublisherPort T U) → Type 0
  Goes old new = AllPass old → AllPass new

  there_passes : (number : ℕ) (ports : List (ℕ × PublisherPort T U)) (port : PublisherPort T U) → port_of number ports ≡ Some port
      → AllPass ports → Passes P port
  there_passes number ports port there all = (found_of_all Entry (at_number number) ports port all there).holds

  -- one publisher takes a step
  with_goes : (number : ℕ) (ports : List (ℕ × PublisherPort T U)) (port after : PublisherPort T U) → port_of number ports ≡ Some port
      → (Passes P port → Passes P after) → Goes ports (with_port number ports after)
  with_goes number ports port after there step all =
      all_set Entry (at_number number) ports after (λ one is. step (there_passes number ports port there all)) all

  changed_goes_by : (number : ℕ) (step : PublisherPort T U → PublisherPort T U) (found : Option (PublisherPort T U))
      (ports : List (ℕ × PublisherPort T U)) → port_of number ports ≡ found → ((port : PublisherPort T U) → Passes P port
      → Passes P (step port)) → Goes ports (changed_at_port number step found ports)
  changed_goes_by number step None ports there keeps all = all
  changed_goes_by number step (Some port) ports there keeps all = with_goes number ports port (step port) there (keeps port) all

  changed_goes : (number : ℕ) (step : PublisherPort T U → PublisherPort T U) (ports : List (ℕ × PublisherPort T U))
      → ((port : PublisherPort T U) → Passes P port → Passes P (step port)) → Goes ports (changed number step ports)
  changed_goes number step ports keeps = changed_goes_by number step (port_of number ports) ports refl keeps

  goes_if : (b : Bool) (ports one other : List (ℕ × PublisherPort T U)) → Goes ports one → Goes ports other
      → Goes ports (if b then one else other)
  goes_if true ports one other is_one is_other = is_one
  goes_if false ports one other is_one is_other = is_other

  -- one that is over is gone
  settled_goes : (number : ℕ) (ports : List (ℕ × PublisherPort T U)) → Goes ports (settled number ports)
  settled_goes number ports =
      goes_if (is_over_in number ports) ports (removed number ports) ports (λ all. all_gone Entry (at_number number) ports all) (λ all. all)

  stays_goes : (ports new : List (ℕ × PublisherPort T U)) → new ≡ ports → Goes ports new
  stays_goes ports new is all = subst AllPass (sym is) all

  -- ---- steps of a subscriber

  attached_goes : (number subscriber limit : ℕ) (found : Option (PublisherPort T U)) (old new : List (ℕ × PublisherPort T U))
      (answer : Option (Result ℕ AllocError)) → port_of number old ≡ found
      → AttachesAtPort number subscriber limit found old answer new → Goes old new
  attached_goes number subscriber limit None old new answer there attaches all = stays_goes old new attaches.1 all
  attached_goes number subscriber limit (Some port) old new None there attaches all = absurd attaches
  attached_goes number subscriber limit (Some port) old new (Some (Err error)) there attaches all = stays_goes old new attaches.1 all
  attached_goes number subscriber limit (Some port) old new (Some (Ok index)) there attaches all =
      subst AllPass (sym attaches.2)
      (with_goes number old port attaches.0 there
      (λ passes. (so_attaches P (λ loans last owner one. ⊤) subscriber (min limit port.sender.uses.most_waiting) port attaches.0 (Ok index)
      attaches.1 (passes, tt)).0) all)

  ended_passes : (index : ℕ) (port : PublisherPort T U) → Passes P port → Passes P (ended_if_left index port)
  ended_passes index port passes = (so_ended_if_left P (λ loans last owner number. ⊤) index port (passes, tt)).0

  walks : (subscriber : ℕ) → Walks subscriber Goes
  walks subscriber = record {
    stays = λ ports all. all;
    on = λ old between new one two all. two (one all);
    attach = λ number limit old new answer attaches.
        attached_goes number subscriber limit (port_of number old) old new answer refl attaches;
    end = λ attached ports all.
        settled_goes attached.publisher (changed attached.publisher (ended_if_left attached.index) ports)
        (changed_goes attached.publisher (ended_if_left attached.index) ports (ended_passes attached.index) all);
  }

  leaving : WalksLeaving Goes
  leaving attached ports all = changed_goes attached.publisher (detached_at attached.index) ports
      (λ port passes. (so_detached P (λ loans last owner number. ⊤) attached.index port (passes, tt)).0) all

  takes : WalksTaking Goes
  takes attached ports below all = changed_goes attached.publisher (taken_at attached.index) ports (taken_passes P attached.index) all

  -- ---- calls

  -- the ports are these, or as they were
  to_pass : (ports new : ServicePorts T U) → new ≡ ports → AllPass ports.publishers → AllPass new.publishers
  to_pass ports new is all = subst (λ (one : ServicePorts T U). AllPass one.publishers) (sym is) all

  at_publisher_goes : {A : Type 0} (number : ℕ) (step : PublisherPort T U → Option A → PublisherPort T U → Type 0)
      (found : Option (PublisherPort T U)) (old new : ServicePorts T U) (answer : Option A) → port_of number old.publishers ≡ found
      → ((port after : PublisherPort T U) → found ≡ Some port → step port answer after → Passes P port → Passes P after)
      → AtPublisher number step found old answer new → Goes old.publishers new.publishers
  at_publisher_goes number step None old new answer there keeps happens all = to_pass old new happens.1 all
  at_publisher_goes number step (Some port) old new None there keeps happens all = to_pass old new happens.2 all
  at_publisher_goes number step (Some port) old new (Some value) there keeps happens all =
      to_pass _ new happens.2
      (settled_goes number (with_port number old.publishers happens.0)
      (with_goes number old.publishers port happens.0 there (keeps port happens.0 refl happens.1) all))

  at_subscriber_goes : {A : Type 0} (number : ℕ)
      (step : SubscriberPort → List (ℕ × PublisherPort T U) → Option A → SubscriberPort → List (ℕ × PublisherPort T U) → Type 0)
      (found : Option SubscriberPort) (old new : ServicePorts T U) (answer : Option A)
      → ((port after : SubscriberPort) (ports ports_after : List (ℕ × PublisherPort T U)) → step port ports answer after ports_after
      → Goes ports ports_after)
      → AtSubscriber number step found old answer new → Goes old.publishers new.publishers
  at_subscriber_goes number step None old new answer keeps happens all = to_pass old new happens.1 all
  at_subscriber_goes number step (Some port) old new None keeps happens all = to_pass old new happens.3 all
  at_subscriber_goes number step (Some port) old new (Some value) keeps happens all =
      to_pass _ new happens.3 (keeps port happens.0 old.publishers happens.1 happens.2 all)

  updates_goes : (stands : Bool) (may : DegradationInfo → DegradationAction → Type 0) (list : RollState PublisherEntry)
      (port after : SubscriberPort) (ports ports_after : List (ℕ × PublisherPort T U))
      (answer : Option (Result (Unit {0}) ConnectionFailure))
      → subscribing.UpdatesIf stands may list port ports answer after ports_after → Goes ports ports_after
  updates_goes false may list port after ports ports_after answer updates = stays_goes ports ports_after updates.2
  updates_goes true may list port after ports ports_after answer updates =
      (walked_updates (walks port.number) may updates.0 list.changes port after ports ports_after updates.2 refl updates.3).walked

  asks_goes : (stands : Bool) (may : DegradationInfo → DegradationAction → Type 0) (list : RollState PublisherEntry)
      (port after : SubscriberPort) (ports ports_after : List (ℕ × PublisherPort T U)) (answer : Option (Result Bool ConnectionFailure))
      → subscribing.HasSamplesIf stands may list port ports answer after ports_after → Goes ports ports_after
  asks_goes false may list port after ports ports_after answer has = stays_goes ports ports_after has.2
  asks_goes true may list port after ports ports_after answer has =
      (walked_updates (walks port.number) may has.0 list.changes port after ports ports_after has.3.0 refl has.3.1).walked

  receives_goes : (stands : Bool) (may : DegradationInfo → DegradationAction → Type 0) (list : RollState PublisherEntry)
      (port after : SubscriberPort) (ports ports_after : List (ℕ × PublisherPort T U))
      (answer : Option (Result (Option Taken) ReceiveError))
      → subscribing.ReceivesIf stands may list port ports answer after ports_after → Goes ports ports_after
  receives_goes false may list port after ports ports_after answer receives = stays_goes ports ports_after receives.2
  receives_goes true may list port after ports ports_after answer receives =
      (walked_receives (walks port.number) takes may receives.0 list.changes port receives.3 ports ports_after receives.2 refl
      receives.4).walked

  -- a publisher comes, of which nothing is in use
  comes_by : (may : DegradationInfo → DegradationAction → Type 0) (config : PublisherConfig) (user_header : U) (place slots : ℕ)
      (old new : ServicePorts T U) (outcome : Result ℕ AllocError) → AddsPublisher may config user_header place slots old outcome new
      → Goes old.publishers new.publishers
  comes_by may config user_header place slots old new (Err error) adds all = to_pass old new adds all
  comes_by may config user_header place slots old new (Ok number) adds all =
      let (listed, is_list, outcome, port, updates, is_number, is_new) = adds in
      let first : PublisherPort T U = new_port (identity_of config.owner place old) old.sizes.max_subscribers config.allocation config.unit
      (sequence_before config old) (sender_config config slots old) user_header in
      let here : Passes P port = (so_updates P (λ loans last owner one. ⊤) may listed old.subscriber_list.changes first port outcome updates
      ((λ message sends. never_some message sends, All-nil _, λ index. (All-nil _, All-nil _)), tt)).0 in
      to_pass _ new is_new (all_came Entry old.next_port old.publishers port here (λ one is. here) all)

  creates_goes : (overrides : ℕ → ℕ → Type 0) (may : DegradationInfo → DegradationAction → Type 0) (config : PublisherConfig)
      (user_header : U) (needed place : Option ℕ) (old new : ServicePorts T U) (answer : Result ℕ PublisherCreateError)
      → CreatesPublisher overrides may config user_header needed place old answer new → Goes old.publishers new.publishers
  creates_goes overrides may config user_header None place old new answer creates = to_pass old new creates.1
  creates_goes overrides may config user_header (Some needed) None old new answer creates = to_pass old new creates.1
  creates_goes overrides may config user_header (Some needed) (Some place) old new answer creates =
      comes_by may config user_header place _ old new creates.2 creates.3

  -- a subscriber comes
  subscribes_goes : (may : DegradationInfo → DegradationAction → Type 0) (owner : PortOwner) (place buffer_size : ℕ)
      (old new : ServicePorts T U) (outcome : Result ℕ AllocError) → AddsSubscriber may owner place buffer_size old outcome new
      → Goes old.publishers new.publishers
  subscribes_goes may owner place buffer_size old new (Err error) adds all = to_pass old new adds all
  subscribes_goes may owner place buffer_size old new (Ok number) adds all =
      let (between, follows, is_number, is_new) = adds in
      let (listed, is_list, outcome, after, publishers_after, updates, is_between) = follows in
      let first : SubscriberPort = new_subscriber (identity_of owner place old) buffer_size old.sizes.max_publishers
      old.sizes.expired_connections in
      to_pass _ new is_new
      (to_pass _ between is_between
      ((walked_updates (walks first.number) may listed old.publisher_list.changes first after old.publishers publishers_after
      outcome refl updates).walked all))

  creates_subscriber_goes : (may : DegradationInfo → DegradationAction → Type 0) (owner : PortOwner)
      (buffer_size : Result ℕ SubscriberCreateError) (place : Option ℕ) (old new : ServicePorts T U)
      (answer : Result ℕ SubscriberCreateError) → CreatesSubscriber may owner buffer_size place old answer new
      → Goes old.publishers new.publishers
  creates_subscriber_goes may owner (Err refusal) place old new answer creates = to_pass old new creates.1
  creates_subscriber_goes may owner (Ok buffer_size) None old new answer creates = to_pass old new creates.1
  creates_subscriber_goes may owner (Ok buffer_size) (Some place) old new answer creates =
      subscribes_goes may owner place buffer_size old new creates.0 creates.1

  -- a port leaves
  leaves_if : (free : Bool) (number : ℕ) (port : PublisherPort T U) (old new : ServicePorts T U) (answer : Bool)
      → port_of number old.publishers ≡ Some port → publishing.LeavesPortIf free number port old answer new
      → Goes old.publishers new.publishers
  leaves_if false number port old new answer there leaves all = to_pass old new leaves.1 all
  leaves_if true number port old new answer there leaves all =
      to_pass _ new leaves.1
      (settled_goes number (with_port number old.publishers (departed port))
      (with_goes number old.publishers port (departed port) there
      (λ passes. (so_departed P (λ loans last owner one. ⊤) port (passes, tt)).0) all))

  leaves_at : (number : ℕ) (found : Option (PublisherPort T U)) (old new : ServicePorts T U) (answer : Bool)
      → port_of number old.publishers ≡ found → publishing.LeavesAt number found old answer new → Goes old.publishers new.publishers
  leaves_at number None old new answer there leaves = to_pass old new leaves.1
  leaves_at number (Some port) old new answer there leaves = leaves_if (is_free port) number port old new answer there leaves

  reader_leaves_if : (stands : Bool) (number : ℕ) (port : SubscriberPort) (old new : ServicePorts T U) (answer : Bool)
      → subscribing.LeavesPortIf stands number port old answer new → Goes old.publishers new.publishers
  reader_leaves_if false number port old new answer leaves all = to_pass old new leaves.1 all
  reader_leaves_if true number port old new answer leaves all =
      to_pass _ new leaves.1 (left_all_walk (walks port.number) leaving port.connections.values old.publishers all)

  reader_leaves_at : (number : ℕ) (found : Option SubscriberPort) (old new : ServicePorts T U) (answer : Bool)
      → subscribing.LeavesAt number found old answer new → Goes old.publishers new.publishers
  reader_leaves_at number None old new answer leaves = to_pass old new leaves.1
  reader_leaves_at number (Some port) old new answer leaves = reader_leaves_if port.stands number port old new answer leaves

  -- a sample is released
  releases_at : (number : ℕ) (given : Taken) (place : Option ℕ) (old new : ServicePorts T U) (answer : Bool)
      → subscribing.ReleasesAt number given place old answer new → Goes old.publishers new.publishers
  releases_at number given None old new answer releases all = to_pass old new releases.1 all
  releases_at number given (Some at) old new answer releases all =
      to_pass _ new releases.1
      (settled_goes given.publisher (changed given.publisher (given_back_at given.index (Some at)) old.publishers)
      (changed_goes given.publisher (given_back_at given.index (Some at)) old.publishers (back_passes P given.index (Some at)) all))

  releases_of : (found : Option SubscriberPort) (number : ℕ) (given : Taken) (old new : ServicePorts T U) (answer : Bool)
      → subscribing.ReleasesOf found number given old answer new → Goes old.publishers new.publishers
  releases_of None number given old new answer releases = to_pass old new releases.1
  releases_of (Some port) number given old new answer releases =
      releases_at number given (place_of given.slot (connection_in given.publisher given.index old.publishers)) old new answer releases

  -- what a call begins to send passes
  abbrev pub BegunPasses : PortCall T U → ServicePorts T U → Type 0
  BegunPasses (Sends number slot answer) old = (port : PublisherPort T U) → port_of number old.publishers ≡ Some port
      → BeginsSo P port answer (loan_of slot port)
  BegunPasses call old = ⊤

  -- so it is after each call
  pub calls_go : (overrides : ℕ → ℕ → Type 0) (may : DegradationInfo → DegradationAction → Type 0)
      (decide : BackpressureInfo → BackpressureDecision → Type 0) (call : PortCall T U) (old new : ServicePorts T U)
      → Happens overrides may decide call old new → BegunPasses call old → AllPass old.publishers → AllPass new.publishers
  calls_go overrides may decide (PublisherComes config user_header answer) old new happens begun all =
      creates_goes overrides may config user_header (slots_needed config old) (publisher_place old) old new answer happens all
  calls_go overrides may decide (SubscriberComes owner buffer_size answer) old new happens begun all =
      creates_subscriber_goes may owner (buffer_of buffer_size old.sizes) (subscriber_place old) old new answer happens all
  calls_go overrides may decide (Lends number values elements answer) old new happens begun all =
      at_publisher_goes number (LoansOne values elements) (port_of number old.publishers) old new answer refl
      (λ port after there loans. passes_loans P values elements port after answer loans) happens all
  calls_go overrides may decide (Writes number slot test change) old new happens begun all =
      to_pass _ new happens
      (changed_goes number (λ port. changed_if (test port) slot change port) old.publishers
      (λ port. passes_changed P (test port) slot change port) all)
  calls_go overrides may decide (GivesLoanUp number slot) old new happens begun all =
      to_pass _ new happens
      (settled_goes number (changed number (given_up slot) old.publishers)
      (changed_goes number (given_up slot) old.publishers (passes_given_up P slot) all))
  calls_go overrides may decide (PublisherUpdates number answer) old new happens begun all =
      at_publisher_goes number (publishing.UpdatesOne may old.subscriber_list) (port_of number old.publishers) old new answer refl
      (λ port after there updates. passes_updates P may old.subscriber_list port after answer updates) happens all
  calls_go overrides may decide (Sends number slot answer) old new happens begun all =
      at_publisher_goes number (publishing.SendsOne may decide old.subscriber_list slot) (port_of number old.publishers) old new answer refl
      (λ port after there sends. passes_sends P may decide old.subscriber_list slot port after answer (begun port there) sends) happens all
  calls_go overrides may decide (Retries number elapsed answer) old new happens begun all =
      at_publisher_goes number (publishing.RetriesOne decide elapsed) (port_of number old.publishers) old new answer refl
      (λ port after there retries. passes_retries P decide elapsed port after answer retries) happens all
  calls_go overrides may decide (GivesSendUp number answer) old new happens begun all =
      at_publisher_goes number publishing.GivesUpOne (port_of number old.publishers) old new answer refl
      (λ port after there gives. passes_gives_up P port after answer gives) happens all
  calls_go overrides may decide (PublisherLeaves number answer) old new happens begun all =
      leaves_at number (port_of number old.publishers) old new answer refl happens all
  calls_go overrides may decide (SubscriberUpdates number answer) old new happens begun all =
      at_subscriber_goes number (subscribing.UpdatesOne may old.publisher_list) (subscriber_of number old.subscribers) old new answer
      (λ port after ports ports_after updates. updates_goes port.stands may old.publisher_list port after ports ports_after answer updates)
      happens all
  calls_go overrides may decide (AsksForSamples number answer) old new happens begun all =
      at_subscriber_goes number (subscribing.HasSamplesOne may old.publisher_list) (subscriber_of number old.subscribers) old new answer
      (λ port after ports ports_after has. asks_goes port.stands may old.publisher_list port after ports ports_after answer has) happens all
  calls_go overrides may decide (Receives number answer) old new happens begun all =
      at_subscriber_goes number (subscribing.ReceivesOne may old.publisher_list) (subscriber_of number old.subscribers) old new answer
      (λ port after ports ports_after receives. receives_goes port.stands may old.publisher_list port after ports ports_after answer
      receives) happens all
  calls_go overrides may decide (Releases number given answer) old new happens begun all =
      releases_of (subscribing.taker_of number given old.subscribers) number given old new answer happens all
  calls_go overrides may decide (SubscriberLeaves number answer) old new happens begun all =
      reader_leaves_at number (subscriber_of number old.subscribers) old new answer happens all

-- Each call of a recorded hub keeps it tied to what was asked of it.
use Rattle.std.proofs.Common.{◌≡◌, ◌∙◌, ℕ, ◌+◌, ◌^◌, ◌<◌, ◌&&◌, Bool, true, false, List, [], ◌∷◌, ◌++◌, length, Option, None, Some, Result}
use Rattle.std.proofs.Common.{Ok, Err}
use Rattle.std.proofs.Common.{IsSome, option_map, refl, sym, ap, subst, arith, append-nil}
use Rattle.std.proofs.lemmas.Bool.Decides.{nat_tests}
use Rattle.std.specs.Option.{unwrap_or}
use Rattle.std.specs.Prelude.{nat_lt}
use Rattle.std.specs.Result.{result_ok}
use Rattle.std.specs.Vec.{vec_items}
use Rattle.std.specs.Global.{Vec}
use Rattle.iox_command.specs.declared.command.Command.{Command}
use Rattle.iox_command.specs.declared.command.Command.TheVariants as command
use Rattle.iox_command.specs.declared.port.PortNumber.TheVariants as port
use Rattle.iox_command.specs.declared.port.PublisherOptions.{PublisherOptions}
use Rattle.iox_command.specs.declared.port.SubscriberOptions.{SubscriberOptions}
use Rattle.iox_command.specs.declared.refusal.HubError.{HubError}
use Rattle.iox_command.specs.declared.refusal.Refusal.TheVariants as refusal
use Rattle.iox_command.specs.declared.reply.Reply.{Reply}
use Rattle.iox_command.specs.declared.reply.Reply.TheVariants as reply
use Rattle.iox_container.proofs.Rising.{Rises-push, Rises-removed}
use Rattle.iox_container.proofs.Telling.{put as found_next}
use Rattle.iox_container.specs.NumberTable.{value_at}
use Rattle.iox_delivery.specs.Holding.{holds_message, message_found, publisher_blocked, publisher_stands, subscriber_stands}
use Rattle.iox_delivery.specs.Slices.{SendsSlice}
use Rattle.iox_delivery.specs.Subscribing.{DropsSample, EndsSubscriber, ReceivesSample, header_found}
use Rattle.iox_delivery.specs.Publishing.{EndsPublisher, EndsSend, RetriesSend}
use Rattle.iox_delivery.specs.declared.kind.Slice.{Slice}
use Rattle.iox_delivery.specs.declared.port_id.PortId.{PortId}
use Rattle.iox_delivery.specs.declared.sample.Sample.{Sample}
use Rattle.iox_delivery.specs.declared.sent.Sent.{Sent}
use Rattle.iox_domain.proofs.Homely.{put_is_there}
use Rattle.iox_domain.proofs.TakenHeld.{received_is_held}
use Rattle.iox_domain.specs.AtHomes.{AtDomain, MakesAt}
use Rattle.iox_domain.specs.DomainPorts.Publishers.{port_of}
use Rattle.iox_domain.specs.DomainPorts.declared.attached.Taken.{Taken}
use Rattle.iox_domain.specs.DomainPorts.declared.publisher_port.PublisherPort.{PublisherPort}
use Rattle.iox_domain.specs.Fitting.{asked_types}
use Rattle.iox_domain.specs.Reading.{header_at_port, header_of, sample_at_port}
use Rattle.iox_domain.specs.Steps.{GivesUpBy, PublisherComes, PublisherLeaves, ReceivesBy, SubscriberComes, SubscriberLeaves}
use Rattle.iox_domain.specs.Steps.{why_no_publisher, why_no_subscriber}
use Rattle.iox_domain.specs.DomainPorts.Messages.{Message}
use Rattle.iox_domain.specs.declared.domain_id.DomainId.{DomainId}
use Rattle.iox_domain.specs.declared.ports.service_ports.ServicePorts.{ServicePorts}
use Rattle.iox_hub_base.specs.AsHome.{hub_ports, with_hub_ports, with_hub_publisher, with_hub_subscriber, without_hub_publisher}
use Rattle.iox_hub_base.specs.AsHome.{without_hub_subscriber}
use Rattle.iox_hub_base.specs.AsHome.{hub_changed, hub_state}
use Rattle.iox_hub_base.specs.HomeLaws.{changed_found}
use Rattle.iox_hub_base.specs.Hubs.{IsNewHub, one_more}
use Rattle.iox_hub_base.specs.Opening.{Made as Opened}
use Rattle.iox_hub_base.specs.declared.hub.Hub.{Hub}
use Rattle.iox_hub_base.specs.declared.hub.HubConfig.{HubConfig}
use Rattle.iox_hub_base.specs.declared.node.NodeHandle.{NodeHandle}
use Rattle.iox_hub_commands.proofs.Rooms.{new_rises}
use Rattle.iox_hub_commands.specs.CommandSteps as numbered_hub
use Rattle.iox_hub_commands.specs.CommandSteps.{publisher_may_decide, publisher_may_degrade, subscriber_may_degrade}
use Rattle.iox_hub_commands.specs.DescribeBase.declared.header.Header.{Header}
use Rattle.iox_hub_commands.specs.DescribeBase.declared.message_type.MessageTypeDetails.{MessageTypeDetails}
use Rattle.iox_hub_commands.specs.DescribeBase.declared.type_detail.TypeVariant.TheVariants.{Dynamic}
use Rattle.iox_hub_commands.specs.DomainValues.declared.create_error.PublisherCreateError.{PublisherCreateError}
use Rattle.iox_hub_commands.specs.DomainValues.declared.create_error.SubscriberCreateError.{SubscriberCreateError}
use Rattle.iox_hub_commands.specs.DomainValues.declared.degradation.DegradationAction.{DegradationAction}
use Rattle.iox_hub_commands.specs.DomainValues.declared.degradation.DegradationCause.{DegradationCause}
use Rattle.iox_hub_commands.specs.DomainValues.declared.degradation.DegradationCause.TheVariants.{FailedToEstablishConnection}
use Rattle.iox_hub_commands.specs.DomainValues.declared.degradation.DegradationInfo.{DegradationInfo}
use Rattle.iox_hub_commands.specs.DomainValues.declared.port_error.ReceiveError.{ReceiveError}
use Rattle.iox_hub_commands.specs.DomainValues.declared.port_error.SendError.{SendError}
use Rattle.iox_hub_commands.specs.Calls.{AtPort, Puts, Retries, may_lend}
use Rattle.iox_hub_commands.specs.Services as services
use Rattle.iox_hub_commands.specs.Making.{with_publisher, with_subscriber}
use Rattle.iox_hub_commands.specs.Naming.{publisher_config, publisher_handlers, subscriber_config, subscriber_handler}
use Rattle.iox_hub_commands.specs.Lives.{NumbersRise}
use Rattle.iox_hub_commands.specs.Numbering.{removed_if, with_sample}
use Rattle.iox_hub_commands.specs.Numbers.{IsNew}
use Rattle.iox_hub_commands.specs.Reading.{sequence_under, values_under}
use Rattle.iox_hub_commands.specs.Replies.{done_reply, given_up_reply, sequence_reply}
use Rattle.iox_hub_commands.specs.Services.{domain_of_factory, owner_of_factory}
use Rattle.iox_hub_commands.specs.ServicesTables.{FactoryTable, publish_subscribe_in}
use Rattle.iox_hub_commands.specs.Tables.{port_under, without_publisher, without_sample, without_subscriber}
use Rattle.iox_hub_commands.specs.declared.numbered_hub.NumberedHub.{NumberedHub}
use Rattle.iox_hub_commands.specs.declared.ports.made.Made.{Made}
use Rattle.iox_hub_commands.specs.declared.ports.made.MadeSample.{MadeSample}
use Rattle.iox_hub_machine.specs.RunLaws.{AsksAmong, all_asked, names_in, steps_named}
use Rattle.iox_hub_machine.specs.TypedPublishing.{GiveUpIsStep, PublisherLeaveIsStep, RetryIsStep, SendSliceIsStep}
use Rattle.iox_hub_machine.proofs.TypedSteps.{IsChosen, as_roomy, by_chosen_step}
use Rattle.iox_hub_machine.specs.Ran.{StandsAfter}
use Rattle.iox_hub_machine.specs.TypedReading.{HeldMayBeUsed, MayBeUsed}
use Rattle.iox_hub_machine.specs.TypedRuns.{CallsBegin, CallsGoOn}
use Rattle.iox_hub_machine.specs.TypedSubscribing.{PayloadIsStep, ReceiveIsStep, ReleaseIsStep, SubscriberLeaveIsStep}
use Rattle.iox_hub_machine.specs.TypedServices.{NewNodeIsStep, PublisherIsStep, SubscriberIsStep, told_node}
use Rattle.iox_hub_machine.specs.TypedSteps.{IsStepBy, payload_there, told_sent}
use Rattle.iox_machine.specs.Choices.{Handed}
use Rattle.iox_machine.specs.Run.{Answers, Runs}
use Rattle.iox_machine.specs.State.{State, new_state}
use Rattle.iox_hub.proofs.AskedNames.{all_among, both_all, both_asked}
use Rattle.iox_hub.proofs.RecordedChosen.{are_chosen}
use Rattle.iox_hub.proofs.RecordedCame.{told_left, told_none, told_received, told_released, told_too}
use Rattle.iox_hub.proofs.Recording.{below, calls_publisher, calls_received, calls_subscriber, vector, vector_if}
use Rattle.iox_hub.proofs.RecordedSkips.{drops_held, err_ok, never_so, none_ready, not_waiting, skipped_chosen, tries_none}
use Rattle.iox_hub.specs.Recorded.{AreFollowed, Calls, asked_too, none_handed}
use Rattle.iox_hub.specs.RecordedNames.{received_by}
use Rattle.iox_hub.specs.declared.recorded.named.Number.{Number}
use Rattle.iox_hub.specs.Recording.{IsDoneIf, IsDoneOrBack, IsRecorded, IsRecordedBy, IsRun, newest_is_known, numbered}
use Rattle.iox_hub.specs.Recording.{AllFit, AreChosen, asked_with, no_calls, told_sent_if, values_there}
use Rattle.iox_hub.proofs.RecordedIds.{at_keeps, drops_keeps, leaves_keeps, makes_keeps, receive_keeps, retry_keeps}
use Rattle.iox_hub.proofs.RecordedIds.{slice_keeps}
use Rattle.iox_hub_commands.specs.Terms.{Terms}
use Rattle.iox_hub.specs.Turns.{choices_of}

-- what is below is told to be
low : (n m : ℕ) → n < m → nat_lt n m ≡ true
low n m is = grind (arith, nat_tests, is)

both_so : (a b : Bool) → (a && b) ≡ true → (a ≡ true) × (b ≡ true)
both_so true true is = (refl, refl)
both_so true false is = cc
both_so false true is = cc
both_so false false is = cc

so_both : (a b : Bool) → a ≡ true → b ≡ true → (a && b) ≡ true
so_both true true first second = refl
so_both true false first second = cc
so_both false b first second = cc

and_true : (a : Bool) → (a && true) ≡ a
and_true true = refl
and_true false = refl

items_if : {T : Type 0} (values : List T) (fits : Bool) (is : nat_lt (length values) (2 ^ 63) ≡ fits) → length values < 2 ^ 63
    → vec_items (vector_if values fits is) ≡ values
items_if values true is small = refl
items_if values false is small = absurd (grind (arith, nat_tests, small, is))

-- the vector of values that fit has these
pub vector_is : {T : Type 0} (values : List T) → length values < 2 ^ 63 → vec_items (vector values) ≡ values
vector_is values small = items_if values (nat_lt (length values) (2 ^ 63)) refl small

there_is : {A : Type 0} (found : Option (List A)) → IsSome found → found ≡ Some (unwrap_or found [])
there_is (Some values) there = refl
there_is None there = cc

-- one call more
abbrev pub then : {T : Type 0} → Calls T → Command T → Reply T → Made → FactoryTable → List (List T) → Calls T
then calls asked answer made factories received = record {
  asked = calls.asked ++ asked ∷ [];
  answers = calls.answers ++ answer ∷ [];
  made = made;
  factories = factories;
  received = received;
  config = calls.config;
}

both_fit : {T : Type 0} (first rest : List (List T)) → AllFit (first ++ rest) → AllFit first × AllFit rest
both_fit [] rest all = (tt, all)
both_fit (values ∷ first) rest all = let (before, behind) = both_fit first rest all.1 in ((all.0, before), behind)

one_fits : {T : Type 0} (first : List (List T)) (values : List T) → AllFit first → length values < 2 ^ 63 → AllFit (first ++ values ∷ [])
one_fits [] values all small = (small, tt)
one_fits (other ∷ first) values all small = (all.0, one_fits first values all.1 small)

module _ {T U B D : Type 0} where
  -- ports that are put into a domain that is here are there
  pub put_there : (id : DomainId) (ports : ServicePorts T U) (hub : Hub T U B D) → IsSome (hub_ports id hub)
      → hub_ports id (with_hub_ports id ports hub) ≡ Some ports
  put_there id ports hub there =
      put_is_there hub_state hub_changed (λ (id : DomainId) step (hub : Hub T U B D). changed_found id step hub.services) id ports hub there

-- the sequence number that a header tells is that of the message
module _ {T U : Type 0} (taken : Taken) (header : Header) where
  sequence_at : (port : Option (PublisherPort T U)) → Some header ≡ header_at_port taken port
      → Some header.sequence ≡ option_map (λ (message : Message T U). message.sequence) (sample_at_port taken port)
  sequence_at None is = cc
  sequence_at (Some port) is = of (sample_at_port taken (Some port)) is
    where
      of : (message : Option (Message T U)) → Some header ≡ option_map (header_of port) message
          → Some header.sequence ≡ option_map (λ (it : Message T U). it.sequence) message
      of None is = cc
      of (Some message) is = ap (option_map (λ (it : Header). it.sequence)) is

  sequence_told : (found : Option (ServicePorts T U)) → Some header ≡ header_found taken found
      → Some header.sequence ≡ option_map (λ (message : Message T U). message.sequence) (message_found taken found)
  sequence_told None is = cc
  sequence_told (Some ports) is = sequence_at (port_of taken.publisher ports.publishers) is

module _ {T U B D : Type 0} (degrades : D → DegradationCause → DegradationInfo → DegradationAction → Type 0) where
  found_there : (receiver : PortId) (found : Option (ServicePorts T U)) (old new : Hub T U B D) (sample : Taken)
      → hub_ports receiver.domain old ≡ found
      → AtDomain (λ after. with_hub_ports receiver.domain after old)
      (ReceivesBy (subscriber_may_degrade degrades receiver.domain receiver.number old) receiver.number) found old
      (Some (Ok (Some sample))) new
      → IsSome (option_map (λ (message : Message T U). message.values) (message_found sample (hub_ports receiver.domain new)))
  found_there receiver None old new sample is happens = cc (happens.0)
  found_there receiver (Some ports) old new sample is (after, receives, is_new) =
      let (message, held) = received_is_held (subscriber_may_degrade degrades receiver.domain receiver.number old) receiver.number ports
      after sample receives in
      let there : hub_ports receiver.domain new ≡ Some after
      = ap (hub_ports receiver.domain) is_new ∙ put_there receiver.domain after old (rw is refl) in
      rw (there, held) refl

  -- a sample that came is held then
  came_there : (receiver : PortId) (old new : Hub T U B D) (sample : Sample T U Slice)
      → ReceivesSample hub_ports with_hub_ports (subscriber_may_degrade degrades) receiver old (Ok (Some sample)) new
      → IsSome (payload_there sample new)
  came_there receiver old new sample (Ok (Some taken), takes, is) =
      let same : sample ≡ record { port = receiver; taken = taken; of = record {} } = cc in
      subst (λ (it : Sample T U Slice). IsSome (payload_there it new)) (sym same)
      (found_there receiver (hub_ports receiver.domain old) old new taken refl takes)
  came_there receiver old new sample (Ok None, takes, is) = cc
  came_there receiver old new sample (Err why, takes, is) = cc

-- the messages of a hub on these terms are slices
abbrev pub AreOfSlices : {T U B D : Type 0} → Terms T U B D → Type 0
AreOfSlices terms = terms.types ≡ asked_types Dynamic terms.payload terms.user_header

-- what a hub does, where it stands for a state, is a step of the machine
abbrev IsStepWhere : {T U B D : Type 0} → Terms T U B D → Handed B D → Command T → NumberedHub T U B D → NumberedHub T U B D → Reply T
    → Type 0
IsStepWhere {T} terms handed asked old new answer =
    ((names : List (List ℕ)) (most : ℕ) (state : State T)
    → StandsAfter terms.types (choices_of terms handed) terms.degrades terms.decides terms.reader_degrades names most old state
    → numbered_hub.Step terms asked old (Ok answer) new)
    → IsStepBy terms (choices_of terms handed) asked old answer new

-- what is recorded for any handlers, and for these ones
module _ {T U B D : Type 0} (terms : Terms T U B D) {fit : Bool} {calls : Calls T} {hub : Hub T U B D} where
  pub for_all : ((handed : Handed B D) → IsRecordedBy terms handed fit calls hub) → IsRecorded terms fit calls hub
  for_all was = record {
    rise = (was none_handed).rise;
    id = (was none_handed).id;
    all_fit = (was none_handed).all_fit;
    told = (was none_handed).told;
    run = λ handed. (was handed).run;
  }

  pub for_one : IsRecorded terms fit calls hub → (handed : Handed B D) → IsRecordedBy terms handed fit calls hub
  for_one was handed = record {
    rise = was.rise;
    id = was.id;
    all_fit = was.all_fit;
    told = was.told;
    run = was.run handed;
  }

module _ {T U B D : Type 0} (terms : Terms T U B D) (of_slices : AreOfSlices terms) (handed : Handed B D) where
  abbrev pub Run : Bool → Calls T → Hub T U B D → Type 0
  Run fit calls hub
      = IsRun terms handed fit calls hub

  abbrev pub Recorded : Bool → Calls T → Hub T U B D → Type 0
  Recorded fit calls hub
      = IsRecordedBy terms handed fit calls hub

  abbrev pub Steps : Command T → NumberedHub T U B D → Reply T → NumberedHub T U B D → Type 0
  Steps = IsStepBy terms (choices_of terms handed)

  abbrev pub Followed : Calls T → Type 0
  Followed calls = AreFollowed terms.fixed terms.degrades terms.decides terms.fixed_reader terms.reader_degrades handed calls

  abbrev pub Stood : List (List ℕ) → ℕ → NumberedHub T U B D → State T → Type 0
  Stood names most hub state = StandsAfter terms.types (choices_of terms handed) terms.degrades terms.decides terms.reader_degrades names
      most hub state

  -- what a hub of slices does, where it stands for a state, is a step of the machine
  pub by_slices : (asked : Command T) (old new : NumberedHub T U B D) (answer : Reply T)
      → IsChosen Dynamic terms (choices_of terms handed) asked old answer → IsStepWhere terms handed asked old new answer
  by_slices asked old new answer chosen =
      subst (λ (types : MessageTypeDetails). IsStepWhere (record terms { types = types }) handed asked old new answer) (sym of_slices)
      (by_chosen_step Dynamic terms (choices_of terms handed) asked old new answer chosen)

  -- what the handlers of ports may decide may be chosen for them
  abbrev pub ChosenSo : Type 0
  ChosenSo = AreChosen (choices_of terms handed) terms.fixed terms.degrades terms.decides terms.fixed_reader terms.reader_degrades

  -- one call more, which is a step, and what is known then
  run_to : (fit known : Bool) → CallsGoOn terms (choices_of terms handed)
      → (old : Calls T) (hub after : Hub T U B D) (asked : Command T) (answer : Reply T) (made : Made) (factories : FactoryTable)
      (received : List (List T)) → (AllFit received → AllFit old.received)
      → (ChosenSo → AllFit received
      → Steps asked (numbered old hub) answer (numbered (then old asked answer made factories received) after))
      → ((names : List (List ℕ)) (most : ℕ) (state : State T)
      → Stood names most (numbered (then old asked answer made factories received) after) state
      → AllFit received → fit ≡ true → known ≡ true)
      → Run fit old hub → Run known (then old asked answer made factories received) after
  run_to fit known goes_on old hub after asked answer made factories received less does knows was names chosen_so own all few
      fits =
      let (before, (asks, nothing)) = both_all (λ it. AsksAmong names it) old.asked (asked ∷ []) all in
      let both = both_asked old.asked (asked ∷ []) in
      let (called, same, so) = was names chosen_so own before (omega (arith, few, both)) (less fits) in
      let fewer : all_asked old.asked + (1 + steps_named asked) < 2 ^ 56 = omega (arith, few, both) in
      let kept = (does chosen_so fits names (all_asked old.asked) called.state own asks fewer called.stands).1 in
      let now = goes_on names
      old.asked old.answers asked answer (numbered old hub) (numbered (then old asked answer made factories received) after)
      own asks fewer called (does chosen_so fits) in
      (now, kept ∙ same, knows names (all_asked (old.asked ++ asked ∷ [])) now.state now.stands fits so)

  -- one call more, which is a step by what its port's handlers may decide, and nothing more is known then
  run_by : {fit : Bool} → CallsGoOn terms (choices_of terms handed)
      → (old : Calls T) (hub after : Hub T U B D) (asked : Command T) (answer : Reply T) (made : Made) (factories : FactoryTable)
      → (ChosenSo → Steps asked (numbered old hub) answer (numbered (then old asked answer made factories old.received) after))
      → Run fit old hub → Run fit (then old asked answer made factories old.received) after
  run_by {fit} goes_on old hub after asked answer made factories does was =
      run_to fit fit goes_on old hub after asked answer made factories old.received (λ fits. fits)
      (λ chosen_so fits. does chosen_so) (λ names most state stands fits so. so) was

  -- one call more, which is a step, and nothing more is known then
  pub run_on : {fit : Bool} → CallsGoOn terms (choices_of terms handed)
      → (old : Calls T) (hub after : Hub T U B D) (asked : Command T) (answer : Reply T) (made : Made) (factories : FactoryTable)
      → Steps asked (numbered old hub) answer (numbered (then old asked answer made factories old.received) after)
      → Run fit old hub → Run fit (then old asked answer made factories old.received) after
  run_on {fit} goes_on old hub after asked answer made factories does was =
      run_by goes_on old hub after asked answer made factories (λ chosen_so. does) was

  abbrev pub Skips : Command T → Calls T → Hub T U B D → Hub T U B D → Type 0
  Skips asked old hub after = numbered_hub.Step terms asked (numbered old hub) (Ok reply.Skipped) (numbered old after)

  -- a call that leaves what the program holds as it was
  pub plain_on : {fit : Bool} → CallsGoOn terms (choices_of terms handed)
      → (old : Calls T) (hub after : Hub T U B D) (asked : Command T) (answer : Reply T)
      → after.table.id ≡ hub.table.id → Steps asked (numbered old hub) answer (numbered old after)
      → Recorded fit old hub → Recorded fit (asked_too asked answer old) after
  plain_on goes_on old hub after asked answer kept does was = record {
    rise = was.rise;
    id = kept ∙ was.id;
    all_fit = was.all_fit;
    told = told_too asked answer was.told;
    run = run_on goes_on old hub after asked answer old.made old.factories does was.run;
  }

  -- a call that isn't made is a command that is skipped
  pub skipped_on : {fit : Bool} → CallsGoOn terms (choices_of terms handed)
      → (old : Calls T) (hub after : Hub T U B D) (asked : Command T) → after.table.id ≡ hub.table.id
      → ((names : List (List ℕ)) (most : ℕ) (state : State T) → Stood names most (numbered old hub) state → Skips asked old hub after)
      → Recorded fit old hub → Recorded fit (asked_too asked reply.Skipped old) after
  skipped_on goes_on old hub after asked kept skips was =
      plain_on goes_on old hub after asked reply.Skipped kept
      (by_slices asked (numbered old hub) (numbered old after) reply.Skipped (skipped_chosen terms (choices_of terms handed) asked
      (numbered old hub)) skips) was

  -- a subscriber that the program holds stands, so that no call of it is skipped
  pub absent_on : {fit : Bool} → CallsGoOn terms (choices_of terms handed)
      → HeldMayBeUsed terms (choices_of terms handed)
      → (old : Calls T) (hub after : Hub T U B D) (asked : Command T) → (number : ℕ) (who : PortId)
      → value_at old.made.subscribers number ≡ Some who → subscriber_stands who.number (hub_ports who.domain hub) ≡ false → after ≡ hub
      → Recorded fit old hub → Recorded fit (asked_too asked reply.Skipped old) after
  absent_on {fit} goes_on may_use old hub after asked number who there never same was =
      subst (λ (it : Hub T U B D). Recorded fit (asked_too asked reply.Skipped old) it) (sym same)
      (skipped_on goes_on old hub hub asked refl
      (λ names most state it. never_so (subscriber_stands who.number (hub_ports who.domain hub))
      ((may_use names most (numbered old hub) state it).subscribers number who there) never) was)

  -- nothing was asked of a new hub
  pub new_recorded : CallsBegin terms (choices_of terms handed)
      → (config : HubConfig) (hub : Hub T U B D) → IsNewHub config hub
      → Recorded true (no_calls config) hub
  new_recorded begins config hub is =
      let is_new : IsNew config (numbered (no_calls {T = T} config) hub) = record {
        expired_connection_buffer = is.expired_connection_buffer;
        nodes = is.nodes;
        factories = is.factories;
        table = is.table;
        factory_counts = is.factory_counts;
        services = is.services;
        no_factory = refl;
        publishers = (refl, refl);
        subscribers = (refl, refl);
        loans = (refl, refl);
        samples = (refl, refl);
      } in record {
        rise = new_rises config (numbered (no_calls config) hub) is_new;
        id = ap (λ table. table.id) is.table;
        all_fit = λ is. tt;
        told = told_none;
        run = λ names chosen_so own all few fit. (
          begins names config (numbered (no_calls config) hub) is_new,
          is.expired_connection_buffer,
          refl,
        );
      }

  -- what was asked and answered is a run of the machine
  pub answers_so : {fit : Bool} (calls : Calls T) (hub : Hub T U B D) → Run fit calls hub → Followed calls
      → Answers terms.types (choices_of terms handed) calls.config.expired_connection_buffer calls.asked false calls.answers
  answers_so calls hub run (decides_so, replies_so, own, few, fit) =
      let (called, same, known) = run (names_in calls.asked) (are_chosen terms handed decides_so replies_so) own (all_among
      calls.asked) few fit in (
        calls.asked,
        [],
        called.state,
        sym (append-nil calls.asked),
        refl,
        subst (λ (n : ℕ). Runs terms.types (choices_of terms handed) n calls.asked new_state calls.answers called.state) same called.run,
      )

  -- by the premises it is known that all that was received fits
  pub known_so : {fit : Bool} (calls : Calls T) (hub : Hub T U B D) → Run fit calls hub → Followed calls → fit ≡ true
  known_so calls hub run (decides_so, replies_so, own, few, fit) =
      (run (names_in calls.asked) (are_chosen terms handed decides_so replies_so) own (all_among calls.asked) few fit).2

  -- what the program holds may be used
  pub may_be_used : {fit : Bool} → HeldMayBeUsed terms (choices_of terms handed)
      → (calls : Calls T) (hub : Hub T U B D) → Recorded fit calls hub → Followed calls → MayBeUsed (numbered calls hub)
  may_be_used may calls hub recorded (decides_so, replies_so, own, few, fit) =
      let (called, same, known) = recorded.run (names_in calls.asked) (are_chosen terms handed decides_so replies_so) own (all_among
      calls.asked) few fit in
      may (names_in calls.asked) (all_asked calls.asked) (numbered calls hub) called.state called.stands

  pub node_recorded : {fit : Bool} → CallsGoOn terms (choices_of terms handed)
      → NewNodeIsStep terms (choices_of terms handed)
      → (old : Calls T) (hub after : Hub T U B D) (answer : Result NodeHandle HubError)
      → answer ≡ Ok (record { hub = hub.table.id; number = one_more hub.nodes })
      → after ≡ record hub { nodes = one_more hub.nodes }
      → Recorded fit old hub → Recorded fit (asked_too command.Node (told_node answer) old) after
  node_recorded goes_on steps old hub after answer is same was =
      plain_on goes_on old hub after command.Node (told_node answer) (ap (λ hub. hub.table.id) same)
      (steps (numbered old hub) after answer is same) was

  pub put_recorded : {fit : Bool} → CallsGoOn terms (choices_of terms handed)
      → SendSliceIsStep Slice terms (choices_of terms handed)
      → (old : Calls T) (hub after : Hub T U B D) (number : ℕ) (lender : PortId) (values : List T)
      (answer : Option (Result (Sent T U) SendError)) → port_under (value_at old.made.publishers number) ≡ Some lender
      → IsDoneIf (may_lend hub_ports lender hub)
      (SendsSlice hub_ports with_hub_ports (publisher_may_degrade terms.degrades) (publisher_may_decide terms.decides) lender values) hub
      answer after
      → Recorded fit old hub → Recorded fit (asked_too (command.Put number values) (told_sent_if answer) old) after
  put_recorded {fit} goes_on steps old hub after number lender values None there (never, same) was =
      subst (λ (it : Hub T U B D). Recorded fit (asked_too (command.Put number values) reply.Skipped old) it) (sym same)
      (skipped_on goes_on old hub hub (command.Put number values) refl
      (λ names most state it. (
        (
          None,
          subst (λ (found : Option PortId). AtPort (Puts hub_ports with_hub_ports (publisher_may_degrade terms.degrades)
              (publisher_may_decide terms.decides) values) found hub None hub)
              (sym (none_ready (length values) (value_at old.made.publishers number) lender hub there never)) (refl, refl),
          refl,
        ),
        refl,
      )) was)
  put_recorded goes_on steps old hub after number lender values (Some answer) there (may, sends) was =
      plain_on goes_on old hub after (command.Put number values) (told_sent answer)
      (slice_keeps terms.degrades terms.decides lender values hub after answer sends)
      (steps number lender values (numbered old hub) after answer there
      (not_waiting (publisher_stands lender.number (hub_ports lender.domain hub))
      (publisher_blocked lender.number (hub_ports lender.domain hub)) may) sends) was

  -- a blocked send is tried again, or what isn't blocked is handed back
  pub retry_recorded : {fit : Bool} {W : Type 0}
      → CallsGoOn terms (choices_of terms handed)
      → RetryIsStep Slice terms (choices_of terms handed)
      → (old : Calls T) (hub after : Hub T U B D) (number nanoseconds : ℕ) (sender : PortId) (waits : W)
      (answer : Result (Result (Sent T U) SendError) W) → port_under (value_at old.made.publishers number) ≡ Some sender
      → IsDoneOrBack (publisher_blocked sender.number (hub_ports sender.domain hub)) waits
      (RetriesSend hub_ports with_hub_ports (publisher_may_decide terms.decides) sender nanoseconds) hub answer after
      → Recorded fit old hub → Recorded fit (asked_too (command.Retry number nanoseconds) (told_sent_if (result_ok answer)) old) after
  retry_recorded {fit} goes_on steps old hub after number nanoseconds sender waits (Err back) there (never, is, same) was =
      subst (λ (it : Hub T U B D). Recorded fit (asked_too (command.Retry number nanoseconds) reply.Skipped old) it) (sym same)
      (skipped_on goes_on old hub hub (command.Retry number nanoseconds) refl
      (λ names most state it. (
        (
          None,
          subst (λ (found : Option PortId). AtPort (Retries hub_ports with_hub_ports (publisher_may_decide terms.decides) nanoseconds) found
              hub None hub) (sym there)
              (tries_none (publisher_may_decide terms.decides sender.domain sender.number hub) nanoseconds sender hub
              (hub_ports sender.domain hub) refl never),
          refl,
        ),
        refl,
      )) was)
  retry_recorded goes_on steps old hub after number nanoseconds sender waits (Ok answer) there tries was =
      plain_on goes_on old hub after (command.Retry number nanoseconds) (told_sent answer)
      (retry_keeps terms.decides sender nanoseconds hub after answer tries)
      (steps number nanoseconds sender (numbered old hub) after answer there tries) was

  pub give_up_recorded : {fit : Bool} → CallsGoOn terms (choices_of terms handed)
      → GiveUpIsStep Slice terms (choices_of terms handed)
      → (old : Calls T) (hub after : Hub T U B D) (number : ℕ) (sender : PortId) (answer : Option ℕ)
      → port_under (value_at old.made.publishers number) ≡ Some sender
      → EndsSend hub_ports with_hub_ports sender hub answer after
      → Recorded fit old hub → Recorded fit (asked_too (command.GiveUp number) (given_up_reply answer) old) after
  give_up_recorded goes_on steps old hub after number sender answer there ends was =
      plain_on goes_on old hub after (command.GiveUp number) (given_up_reply answer)
      (at_keeps sender.domain (GivesUpBy sender.number) (hub_ports sender.domain hub) hub after answer ends)
      (steps number sender (numbered old hub) after answer there ends) was

  -- a sample that came is told with its values; a subscriber that the program holds stands
  pub receive_recorded : {fit : Bool} → CallsGoOn terms (choices_of terms handed)
      → ReceiveIsStep Slice terms (choices_of terms handed)
      → HeldMayBeUsed terms (choices_of terms handed)
      → (old : Calls T) (hub after : Hub T U B D) (number : ℕ) (receiver : PortId)
      (answer : Option (Result (Option (Sample T U Slice)) ReceiveError)) → value_at old.made.subscribers number ≡ Some receiver
      → IsDoneIf (subscriber_stands receiver.number (hub_ports receiver.domain hub))
      (ReceivesSample hub_ports with_hub_ports (subscriber_may_degrade terms.reader_degrades) receiver) hub answer after
      → Recorded fit old hub → Recorded (fit && newest_is_known answer after) (calls_received after number answer old) after
  receive_recorded {fit} goes_on steps may_use old hub after number receiver None there (never, same) was =
      subst (λ (it : Bool). Recorded it (asked_too (command.Receive number) reply.Skipped old) after) (sym (and_true fit))
      (absent_on goes_on may_use old hub after (command.Receive number) number receiver there never same was)
  receive_recorded {fit} goes_on steps may_use old hub after number receiver (Some (Ok (Some sample))) there (may, receives) was =
      let values : List T = values_there sample after in
      let it : MadeSample = record { port = sample.port; taken = sample.taken } in
      let held : Bool = holds_message sample.port.number sample.taken (hub_ports sample.port.domain after) in
      let short : Bool = nat_lt (length values) (2 ^ 63) in
      let (factories, publishers, subscribers, loans, samples) = was.rise in record {
        rise = (factories, publishers, subscribers, loans, Rises-push 1 old.made.samples.next old.made.samples.entries it samples);
        id = receive_keeps terms.reader_degrades receiver hub after (Ok (Some sample)) receives ∙ was.id;
        all_fit = λ is. let (before, newest) = both_so fit (held && short) is in
            one_fits old.received values (was.all_fit before) (below (length values) (2 ^ 63) (both_so held short newest).1);
        told = told_received number (vector values) it was.told;
        run = run_to fit (fit && (held && short)) goes_on old hub after (command.Receive number)
            (reply.Received old.made.samples.next (vector values))
            (with_sample sample.port sample.taken old.made) old.factories (old.received ++ values ∷ [])
            (λ fits. (both_fit old.received (values ∷ []) fits).0)
            (λ chosen_so fits. steps number receiver (numbered old hub) after (Ok (Some sample))
            (reply.Received old.made.samples.next (vector values)) there receives (
              vector values,
              there_is (payload_there sample after) (came_there terms.reader_degrades receiver hub after sample receives)
                  ∙ ap Some (sym (vector_is values (both_fit old.received (values ∷ []) fits).1.0)),
              refl,
            ))
            (λ names most state stands fits so. so_both fit (held && short) so (so_both held short
            ((may_use names most (numbered (then old (command.Receive number) (reply.Received old.made.samples.next (vector values))
            (with_sample sample.port sample.taken old.made) old.factories (old.received ++ values ∷ [])) after) state stands).samples
            old.made.samples.next it (found_next old.made.samples it samples))
            (low (length values) (2 ^ 63) (both_fit old.received (values ∷ []) fits).1.0))) was.run;
      }
  receive_recorded {fit} goes_on steps may_use old hub after number receiver (Some (Ok None)) there (may, receives) was =
      subst (λ (it : Bool). Recorded it (asked_too (command.Receive number) reply.NothingWaits old) after) (sym (and_true fit))
      (plain_on goes_on old hub after (command.Receive number) reply.NothingWaits
      (receive_keeps terms.reader_degrades receiver hub after (Ok None) receives)
      (steps number receiver (numbered old hub) after (Ok None) reply.NothingWaits there receives refl) was)
  receive_recorded {fit} goes_on steps may_use old hub after number receiver (Some (Err why)) there (may, receives) was =
      subst (λ (it : Bool). Recorded it (asked_too (command.Receive number) (reply.Refused (refusal.Receive why)) old) after)
      (sym (and_true fit))
      (plain_on goes_on old hub after (command.Receive number) (reply.Refused (refusal.Receive why))
      (receive_keeps terms.reader_degrades receiver hub after (Err why) receives)
      (steps number receiver (numbered old hub) after (Err why) (reply.Refused (refusal.Receive why)) there receives refl) was)

  -- a subscriber that the program holds receives
  pub receives_some : {fit : Bool} → HeldMayBeUsed terms (choices_of terms handed)
      → (old : Calls T) (hub after : Hub T U B D) (number : ℕ) (receiver : PortId)
      (answer : Option (Result (Option (Sample T U Slice)) ReceiveError)) (named : Number)
      → value_at old.made.subscribers number ≡ Some receiver
      → IsDoneIf (subscriber_stands receiver.number (hub_ports receiver.domain hub))
      (ReceivesSample hub_ports with_hub_ports (subscriber_may_degrade terms.reader_degrades) receiver) hub answer after
      → Recorded fit old hub → Followed old → IsSome (received_by named answer)
  receives_some may_use old hub after number receiver None named there (never, same) was followed =
      never_so (subscriber_stands receiver.number (hub_ports receiver.domain hub))
      ((may_be_used may_use old hub was followed).subscribers number receiver there) never
  receives_some may_use old hub after number receiver (Some (Ok (Some sample))) named there done was followed = refl
  receives_some may_use old hub after number receiver (Some (Ok None)) named there done was followed = refl
  receives_some may_use old hub after number receiver (Some (Err why)) named there done was followed = refl

  -- what a sample that goes by a number is read as, the machine may answer
  pub read_so : {fit : Bool} → CallsGoOn terms (choices_of terms handed)
      → PayloadIsStep Slice terms (choices_of terms handed)
      → (calls : Calls T) (hub : Hub T U B D) (number : ℕ) (made : MadeSample) (values : List T)
      → value_at calls.made.samples number ≡ Some made → values_under hub_ports (Some made) hub ≡ Some values → Recorded fit calls hub
      → Followed (record calls { asked = calls.asked ++ command.Read number ∷ [] }) → length values < 2 ^ 63
      → (told : Vec T) × (vec_items told ≡ values)
      × Answers terms.types (choices_of terms handed) calls.config.expired_connection_buffer (calls.asked ++ command.Read number ∷ [])
      false (calls.answers ++ reply.Values told ∷ [])
  read_so goes_on steps calls hub number made values there read was followed small = (
    vector values,
    vector_is values small,
    answers_so (then calls (command.Read number) (reply.Values (vector values)) calls.made calls.factories calls.received) hub
        (run_on goes_on calls hub hub (command.Read number) (reply.Values (vector values)) calls.made calls.factories
        (steps number made (numbered calls hub) (vector values) there
        (read ∙ ap Some (sym (vector_is values small)))) was.run) followed,
  )

  -- what the header of a sample that goes by a number tells as its sequence number, the machine may answer
  pub sequence_so : {fit : Bool} → CallsGoOn terms (choices_of terms handed)
      → (calls : Calls T) (hub : Hub T U B D) (number : ℕ) (made : MadeSample) (header : Header)
      → value_at calls.made.samples number ≡ Some made → Some header ≡ header_found made.taken (hub_ports made.port.domain hub)
      → Recorded fit calls hub → Followed (record calls { asked = calls.asked ++ command.Sequence number ∷ [] })
      → Answers terms.types (choices_of terms handed) calls.config.expired_connection_buffer (calls.asked ++ command.Sequence number ∷ [])
      false (calls.answers ++ reply.Sequence header.sequence ∷ [])
  sequence_so goes_on calls hub number made header there is was followed =
      answers_so (then calls (command.Sequence number) (reply.Sequence header.sequence) calls.made calls.factories calls.received) hub
      (run_on goes_on calls hub hub (command.Sequence number) (reply.Sequence header.sequence) calls.made calls.factories
      (by_slices (command.Sequence number) (numbered calls hub) (numbered calls hub) (reply.Sequence header.sequence) tt
      (λ names most state it. (
        ap sequence_reply (sequence_told made.taken header (hub_ports made.port.domain hub) is
            ∙ sym (ap (λ (found : Option MadeSample). sequence_under hub_ports found hub) there)),
        refl,
      ))) was.run) followed

  pub release_recorded : {fit : Bool} → CallsGoOn terms (choices_of terms handed)
      → ReleaseIsStep Slice terms (choices_of terms handed)
      → (old : Calls T) (hub after : Hub T U B D) (number : ℕ) (made : MadeSample) (released : Bool)
      → value_at old.made.samples number ≡ Some made
      → DropsSample hub_ports with_hub_ports made.port made.taken hub released after
      → Recorded fit old hub
      → Recorded fit (asked_with (without_sample number old.made) (command.Release number) (done_reply true) old) after
  release_recorded goes_on steps old hub after number made released there drops was =
      let (factories, publishers, subscribers, loans, samples) = was.rise in record {
        rise = (
          factories,
          publishers,
          subscribers,
          loans,
          Rises-removed number 1 old.made.samples.next old.made.samples.entries samples,
        );
        id = drops_keeps made.port.domain made.port.number made.taken (hub_ports made.port.domain hub) hub after released drops ∙ was.id;
        all_fit = was.all_fit;
        told = told_released number (done_reply true) samples was.told;
        run = run_on goes_on old hub after (command.Release number) (done_reply true)
            (without_sample number old.made) old.factories (steps number made (numbered old hub) after released there drops) was.run;
      }

  -- a sample that goes by a number was held
  pub release_held : {fit : Bool} → HeldMayBeUsed terms (choices_of terms handed)
      → (old : Calls T) (hub after : Hub T U B D) (number : ℕ) (made : MadeSample) (released : Bool)
      → value_at old.made.samples number ≡ Some made
      → DropsSample hub_ports with_hub_ports made.port made.taken hub released after
      → Recorded fit old hub → Followed old → released ≡ true
  release_held may_use old hub after number made released there drops was followed =
      drops_held made.port.number made.taken made.port.domain hub after (hub_ports made.port.domain hub) released
      ((may_be_used may_use old hub was followed).samples number made there) drops

  -- ---- ports that come and leave

  pub subscriber_ended : {fit : Bool} → CallsGoOn terms (choices_of terms handed)
      → SubscriberLeaveIsStep Slice terms (choices_of terms handed)
      → (old : Calls T) (hub after : Hub T U B D) (number : ℕ) (leaver : PortId) (left : Bool)
      → value_at old.made.subscribers number ≡ Some leaver
      → EndsSubscriber hub_ports with_hub_ports without_hub_subscriber leaver hub left after
      → Recorded fit old hub
      → Recorded fit (asked_with (removed_if left (without_subscriber number) old.made) (command.Leave (port.Subscriber number))
      (done_reply left) old) after
  subscriber_ended goes_on steps old hub after number leaver left there ends was = record {
    rise = rises left;
    id = leaves_keeps leaver.domain (without_hub_subscriber leaver.domain leaver.number) (λ hub. refl)
        (SubscriberLeaves leaver.number) (hub_ports leaver.domain hub) hub after left ends ∙ was.id;
    all_fit = was.all_fit;
    told = told_left left (without_subscriber number) old.made (λ it. refl)
        (command.Leave (port.Subscriber number)) (done_reply left) was.told;
    run = run_on goes_on old hub after (command.Leave (port.Subscriber number)) (done_reply left)
        (removed_if left (without_subscriber number) old.made) old.factories
        (steps number leaver (numbered old hub) after left there ends) was.run;
  }
    where
      rises : (left : Bool)
          → NumbersRise (numbered (asked_with (removed_if left (without_subscriber number) old.made)
          (command.Leave (port.Subscriber number)) (done_reply left) old) after)
      rises true = let (factories, publishers, subscribers, loans, samples) = was.rise in (
        factories,
        publishers,
        Rises-removed number 1 old.made.subscribers.next old.made.subscribers.entries subscribers,
        loans,
        samples,
      )
      rises false = was.rise

  pub publisher_ended : {fit : Bool} → CallsGoOn terms (choices_of terms handed)
      → PublisherLeaveIsStep Slice terms (choices_of terms handed)
      → (old : Calls T) (hub after : Hub T U B D) (number : ℕ) (leaver : PortId) (left : Bool)
      → port_under (value_at old.made.publishers number) ≡ Some leaver
      → EndsPublisher hub_ports with_hub_ports without_hub_publisher leaver hub left after
      → Recorded fit old hub
      → Recorded fit (asked_with (removed_if left (without_publisher number) old.made) (command.Leave (port.Publisher number))
      (done_reply left) old) after
  publisher_ended goes_on steps old hub after number leaver left there ends was = record {
    rise = rises left;
    id = leaves_keeps leaver.domain (without_hub_publisher leaver.domain leaver.number) (λ hub. refl)
        (PublisherLeaves leaver.number) (hub_ports leaver.domain hub) hub after left ends ∙ was.id;
    all_fit = was.all_fit;
    told = told_left left (without_publisher number) old.made (λ it. refl)
        (command.Leave (port.Publisher number)) (done_reply left) was.told;
    run = run_on goes_on old hub after (command.Leave (port.Publisher number)) (done_reply left)
        (removed_if left (without_publisher number) old.made) old.factories
        (steps number leaver (numbered old hub) after left there ends) was.run;
  }
    where
      rises : (left : Bool)
          → NumbersRise (numbered (asked_with (removed_if left (without_publisher number) old.made)
          (command.Leave (port.Publisher number)) (done_reply left) old) after)
      rises true = let (factories, publishers, subscribers, loans, samples) = was.rise in (
        factories,
        Rises-removed number 1 old.made.publishers.next old.made.publishers.entries publishers,
        subscribers,
        loans,
        samples,
      )
      rises false = was.rise

  module _ (old : Calls T) (hub after : Hub T U B D) (factory : ℕ) (parts : Opened)
      (there : publish_subscribe_in (value_at old.factories factory) ≡ Some parts) where
    publisher_keeps : (named : PublisherOptions) (header : U) (answer : Option (Result ℕ PublisherCreateError))
        → MakesAt (λ after. with_hub_ports (domain_of_factory parts) after hub)
        (λ number. with_hub_publisher (domain_of_factory parts) number (publisher_handlers terms.fixed named))
        (PublisherComes (λ worst_case slots. slots ≡ unwrap_or named.preallocated_samples worst_case)
        (terms.degrades (publisher_handlers terms.fixed named) FailedToEstablishConnection)
        (publisher_config (owner_of_factory parts) named) header) (why_no_publisher (publisher_config (owner_of_factory parts) named))
        (hub_ports (domain_of_factory parts) hub) hub answer after
        → after.table.id ≡ hub.table.id
    publisher_keeps named header answer makes =
        makes_keeps (domain_of_factory parts)
        (λ number. with_hub_publisher (domain_of_factory parts) number (publisher_handlers terms.fixed named))
        (λ number hub. refl) (PublisherComes (λ worst_case slots. slots ≡ unwrap_or named.preallocated_samples worst_case)
        (terms.degrades (publisher_handlers terms.fixed named) FailedToEstablishConnection)
        (publisher_config (owner_of_factory parts) named) header) (why_no_publisher (publisher_config (owner_of_factory parts) named))
        (hub_ports (domain_of_factory parts) hub) hub after answer makes

    pub publisher_recorded : {fit : Bool} → CallsGoOn terms (choices_of terms handed)
        → (named : PublisherOptions)
        → PublisherIsStep terms (choices_of terms handed) (λ worst_case slots. slots ≡ unwrap_or named.preallocated_samples worst_case)
        → (header : U) (answer : Option (Result ℕ PublisherCreateError))
        → terms.is_default_header header
        → MakesAt (λ after. with_hub_ports (domain_of_factory parts) after hub)
        (λ number. with_hub_publisher (domain_of_factory parts) number (publisher_handlers terms.fixed named))
        (PublisherComes (λ worst_case slots. slots ≡ unwrap_or named.preallocated_samples worst_case)
        (terms.degrades (publisher_handlers terms.fixed named) FailedToEstablishConnection)
        (publisher_config (owner_of_factory parts) named) header) (why_no_publisher (publisher_config (owner_of_factory parts) named))
        (hub_ports (domain_of_factory parts) hub) hub answer after
        → Recorded fit old hub → Recorded fit (calls_publisher factory named (domain_of_factory parts) answer old) after
    publisher_recorded goes_on named steps header None default makes was =
        skipped_on goes_on old hub after (command.Publisher factory named) (publisher_keeps named header None makes)
        (λ names most state it. subst (λ (found : Option Opened). services.PublisherComes terms.is_default_header terms.fixed terms.degrades
        found named (numbered old hub) reply.Skipped (numbered old after)) (sym there) (
          (header, default, None, (old.made, as_roomy old.made, (None, makes, (refl, refl))), refl),
          refl,
        )) was
    publisher_recorded goes_on named steps header (Some (Ok number)) default makes was =
        let (factories, publishers, subscribers, loans, samples) = was.rise in record {
          rise = (
            factories,
            Rises-push 1 old.made.publishers.next old.made.publishers.entries
                (record { port = record { domain = domain_of_factory parts; number = number }; holds_slices = true }) publishers,
            subscribers,
            loans,
            samples,
          );
          id = publisher_keeps named header (Some (Ok number)) makes ∙ was.id;
          all_fit = was.all_fit;
          told = told_too (command.Publisher factory named) (reply.PublisherMade old.made.publishers.next) was.told;
          run = run_by goes_on old hub after (command.Publisher factory named) (reply.PublisherMade old.made.publishers.next)
              (with_publisher (domain_of_factory parts) true number old.made) old.factories
              (λ chosen_so. steps factory parts named header (numbered old hub) after (Ok number) there
              (λ worst_case slots is. is) default makes (λ given is. chosen_so.publishers old.made.publishers.next named)) was.run;
        }
    publisher_recorded goes_on named steps header (Some (Err why)) default makes was =
        plain_on goes_on old hub after (command.Publisher factory named) (reply.Refused (refusal.Publisher why))
        (publisher_keeps named header (Some (Err why)) makes)
        (steps factory parts named header (numbered old hub) after (Err why) there (λ worst_case slots is. is) default makes
        (λ given is. absurd (err_ok why given is))) was

    subscriber_keeps : (named : SubscriberOptions) (answer : Option (Result ℕ SubscriberCreateError))
        → MakesAt (λ after. with_hub_ports (domain_of_factory parts) after hub)
        (λ number. with_hub_subscriber (domain_of_factory parts) number (subscriber_handler terms.fixed_reader named))
        (SubscriberComes (terms.reader_degrades (subscriber_handler terms.fixed_reader named) FailedToEstablishConnection)
        (subscriber_config (owner_of_factory parts) named)) (why_no_subscriber (subscriber_config (owner_of_factory parts) named))
        (hub_ports (domain_of_factory parts) hub) hub answer after
        → after.table.id ≡ hub.table.id
    subscriber_keeps named answer makes =
        makes_keeps (domain_of_factory parts)
        (λ number. with_hub_subscriber (domain_of_factory parts) number (subscriber_handler terms.fixed_reader named)) (λ number hub. refl)
        (SubscriberComes (terms.reader_degrades (subscriber_handler terms.fixed_reader named) FailedToEstablishConnection)
        (subscriber_config (owner_of_factory parts) named)) (why_no_subscriber (subscriber_config (owner_of_factory parts) named))
        (hub_ports (domain_of_factory parts) hub) hub after answer makes

    pub subscriber_recorded : {fit : Bool} → CallsGoOn terms (choices_of terms handed)
        → SubscriberIsStep terms (choices_of terms handed)
        → (named : SubscriberOptions) (answer : Option (Result ℕ SubscriberCreateError))
        → MakesAt (λ after. with_hub_ports (domain_of_factory parts) after hub)
        (λ number. with_hub_subscriber (domain_of_factory parts) number (subscriber_handler terms.fixed_reader named))
        (SubscriberComes (terms.reader_degrades (subscriber_handler terms.fixed_reader named) FailedToEstablishConnection)
        (subscriber_config (owner_of_factory parts) named)) (why_no_subscriber (subscriber_config (owner_of_factory parts) named))
        (hub_ports (domain_of_factory parts) hub) hub answer after
        → Recorded fit old hub → Recorded fit (calls_subscriber factory named (domain_of_factory parts) answer old) after
    subscriber_recorded goes_on steps named None makes was =
        skipped_on goes_on old hub after (command.Subscriber factory named) (subscriber_keeps named None makes)
        (λ names most state it. subst (λ (found : Option Opened). services.SubscriberComes terms.fixed_reader terms.reader_degrades found
        named (numbered old hub) reply.Skipped (numbered old after)) (sym there) (
          (None, (old.made, as_roomy old.made, (None, makes, (refl, refl))), refl),
          refl,
        )) was
    subscriber_recorded goes_on steps named (Some (Ok number)) makes was =
        let (factories, publishers, subscribers, loans, samples) = was.rise in record {
          rise = (
            factories,
            publishers,
            Rises-push 1 old.made.subscribers.next old.made.subscribers.entries
                (record { domain = domain_of_factory parts; number = number }) subscribers,
            loans,
            samples,
          );
          id = subscriber_keeps named (Some (Ok number)) makes ∙ was.id;
          all_fit = was.all_fit;
          told = told_too (command.Subscriber factory named) (reply.SubscriberMade old.made.subscribers.next) was.told;
          run = run_by goes_on old hub after (command.Subscriber factory named) (reply.SubscriberMade old.made.subscribers.next)
              (with_subscriber (domain_of_factory parts) number old.made) old.factories
              (λ chosen_so. steps factory parts named (numbered old hub) after (Ok number) there makes
              (λ given is. chosen_so.subscribers old.made.subscribers.next named)) was.run;
        }
    subscriber_recorded goes_on steps named (Some (Err why)) makes was =
        plain_on goes_on old hub after (command.Subscriber factory named) (reply.Refused (refusal.Subscriber why))
        (subscriber_keeps named (Some (Err why)) makes)
        (steps factory parts named (numbered old hub) after (Err why) there makes (λ given is. absurd (err_ok why given is))) was

-- What a command with handlers did: what the machine's command says, with who is handed in by it, or nothing.
use Rattle.std.proofs.Common.{◌≡◌, ◌∙◌, ◌⊎◌, ◌++◌, ℕ, Bool, true, false, List, Option, None, Some, Ok, refl, sym, ap}
use Rattle.std.proofs.Common.{subst, inl, inr}
use Rattle.std.specs.Option.{option_and_then, option_flatten, option_map, option_map_or, unwrap_or}
use Rattle.std.specs.Prelude.{◌-◌, fold, is_some, option_to_list, slice_set, ◌&&◌}
use Rattle.iox_hub_commands.specs.Command.declared.command.Command.{Command}
use Rattle.iox_hub_commands.specs.Command.declared.port.PublisherOptions.{PublisherOptions}
use Rattle.iox_hub_commands.specs.Command.declared.port.SubscriberOptions.{SubscriberOptions}
use Rattle.iox_hub_commands.specs.Command.declared.reply.Reply.{Reply}
use Rattle.iox_hub_commands.specs.Command.declared.reply.Reply.TheVariants as reply
use Rattle.iox_hub_commands.specs.CommandSteps.{Step}
use Rattle.iox_hub_commands.specs.Container.NumberTable.{value_at}
use Rattle.iox_hub_commands.specs.Domain.declared.ports.service_ports.ServicePorts.{ServicePorts}
use Rattle.iox_hub_commands.specs.DomainValues.declared.backpressure.BackpressureAction.{BackpressureAction}
use Rattle.iox_hub_commands.specs.DomainValues.declared.backpressure_strategy.BackpressureStrategy.{BackpressureStrategy}
use Rattle.iox_hub_commands.specs.DomainValues.declared.degradation.DegradationAction.{DegradationAction}
use Rattle.iox_hub_commands.specs.HubBase.AsHome.{hub_ports}
use Rattle.iox_hub_commands.specs.HubBase.Opening.{Made as Opened}
use Rattle.iox_hub_commands.specs.Services.{PublisherComes, MakesPublisher, MakesSubscriber, SubscriberComes, domain_of_factory}
use Rattle.iox_hub_commands.specs.ServicesTables.{publish_subscribe_in}
use Rattle.iox_hub_commands.specs.declared.numbered_hub.NumberedHub.{NumberedHub}
use Rattle.iox_hub_commands.specs.Terms.{Terms}
use Rattle.iox_hub.proofs.TakenRuns.{publisher_replied, subscriber_replied}
use Rattle.iox_hub.specs.Places.{named, lies_at, backpressure_of, degradation_of, emptied, emptied_if}
use Rattle.iox_hub.specs.Steps.{HandledStep, PublisherTakes, SubscriberTakes, ports_of_factory}
use Rattle.iox_hub.specs.Taking.{is_skipped, places_of}
use Rattle.iox_hub.specs.Turns.{finds_handlers, without_places}
use Rattle.iox_hub.specs.declared.given.GivenHandler.{GivenHandler}
use Rattle.iox_hub.specs.declared.handled_command.HandledCommand.{HandledCommand}
use Rattle.iox_hub.specs.declared.handled_command.HandledCommand.TheVariants as asked

pub never_true : {A : Type 0} → false ≡ true → A
never_true e = absurd (differ e)
  where
    differ : false ≡ true → ⊥
    differ e = cc

pub never_some : {V : Type 0} {A : Type 0} (v : V) → None ≡ Some v → A
never_some v e = absurd (differ e)
  where
    differ : None ≡ Some v → ⊥
    differ e = cc

pub same_some : {V : Type 0} (one other : V) → Some one ≡ Some other → one ≡ other
same_some one other e = cc

-- the ports of each publish-subscribe factory's service are here
abbrev pub PortsAreHere : {T U B D : Type 0} → NumberedHub T U B D → Type 0
PortsAreHere hub = (factory : ℕ) (opened : Opened) → publish_subscribe_in (value_at hub.factories.made factory) ≡ Some opened
    → is_some (hub_ports (domain_of_factory opened) hub.hub) ≡ true

-- ---- handlers at places

some_mapped : {H : Type 0} (found : Option H) → is_some found ≡ is_some (option_map (λ (handler : H). Some handler) found)
some_mapped None = refl
some_mapped (Some handler) = refl

flat_mapped : {H : Type 0} (found : Option H) → found ≡ option_flatten (option_map (λ (handler : H). Some handler) found)
flat_mapped None = refl
flat_mapped (Some handler) = refl

module _ {X H : Type 0} (kind : Option X → Option H) where
  -- whether a handler lies at a place, if one is named
  some_named : (named_at : Option ℕ) (given : List (Option X))
      → option_map_or (λ place. is_some (kind (lies_at place given))) named_at true ≡ is_some (named kind named_at given)
  some_named None given = refl
  some_named (Some place) given = some_mapped (kind (lies_at place given))

  -- the handler that lies there
  flat_named : (named_at : Option ℕ) (given : List (Option X))
      → option_and_then (λ place. kind (lies_at place given)) named_at ≡ option_flatten (named kind named_at given)
  flat_named None given = refl
  flat_named (Some place) given = flat_mapped (kind (lies_at place given))

-- ---- what is left of handlers

module _ {T P D : Type 0} where
  -- the handlers that are left by a command
  abbrev pub left_by_turn : HandledCommand T → Reply T → List (Option (GivenHandler P D)) → List (Option (GivenHandler P D))
  left_by_turn command answer given = elim answer [
    | reply.Skipped ↦ given
    | other ↦ fold (λ left place. slice_set left (place - 1) None) given (places_of command)
  ]

  left_by_plain : (command : Command T) (answer : Reply T) (given : List (Option (GivenHandler P D)))
      → given ≡ left_by_turn (asked.Plain command) answer given
  left_by_plain command reply.Skipped given = refl
  left_by_plain command other given = refl

  -- a command that is skipped takes nothing
  pub left_by_skipped : (one : HandledCommand T) (answer : Reply T) (given : List (Option (GivenHandler P D))) → answer ≡ reply.Skipped
      → left_by_turn one answer given ≡ given
  left_by_skipped one answer given told = ap (λ (it : Reply T). left_by_turn one it given) told

  -- one that isn't takes what lies at its places
  left_by_replied : (one : HandledCommand T) (answer : Reply T) (given fewer : List (Option (GivenHandler P D)))
      → is_skipped answer ≡ false → fold (λ left place. emptied place left) given (places_of one) ≡ fewer
      → left_by_turn one answer given ≡ fewer
  left_by_replied one reply.Skipped given fewer told is = never_true (sym told)
  left_by_replied one other given fewer told is = is

module _ {P D : Type 0} where
  both_emptied : (at_full at_failure : Option ℕ) (given : List (Option (GivenHandler P D)))
      → fold (λ left place. emptied place left) given (option_to_list at_full ++ option_to_list at_failure)
      ≡ emptied_if at_failure (emptied_if at_full given)
  both_emptied None None given = refl
  both_emptied None (Some failure) given = refl
  both_emptied (Some full) None given = refl
  both_emptied (Some full) (Some failure) given = refl

module _ {T B D P : Type 0} (fixed : BackpressureStrategy → Option BackpressureAction → DegradationAction → B)
    (handled : BackpressureStrategy → Option BackpressureAction → DegradationAction → Option P → Option D → B) where
  -- who is made for a publisher that comes by a command
  abbrev pub fixed_by : HandledCommand T → List (Option (GivenHandler P D))
      → BackpressureStrategy → Option BackpressureAction → DegradationAction → B
  fixed_by (asked.Publisher factory options at_full at_failure) given = λ strategy action degrading.
      handled strategy action degrading (option_and_then (λ place. backpressure_of (lies_at place given)) at_full)
      (option_and_then (λ place. degradation_of (lies_at place given)) at_failure)
  fixed_by other given = fixed

module _ {T P D : Type 0} (fixed_reader : DegradationAction → D) where
  -- who is made for a subscriber
  abbrev pub reader_by : HandledCommand T → List (Option (GivenHandler P D)) → DegradationAction → D
  reader_by (asked.Subscriber factory options at_failure) given = λ action.
      unwrap_or (degradation_of (lies_at at_failure given)) (fixed_reader action)
  reader_by other given = fixed_reader

module _ {T U B D P : Type 0} (terms : Terms T U B D)
    (handled : BackpressureStrategy → Option BackpressureAction → DegradationAction → Option P → Option D → B) where
  -- A command that found its handlers did what the machine's command says, with who is made, and took them.
  pub record DidAsDecided (one : HandledCommand T) (old : NumberedHub T U B D × List (Option (GivenHandler P D))) (answer : Reply T)
      (new : NumberedHub T U B D × List (Option (GivenHandler P D))) : Type 0 where
    pub finds : finds_handlers one old.1 ≡ true
    pub step : Step (record terms {
      fixed = fixed_by terms.fixed handled one old.1;
      fixed_reader = reader_by terms.fixed_reader one old.1;
    }) (without_places one) old.0 (Ok answer) new.0
    pub left : new.1 ≡ left_by_turn one answer old.1

  -- One that didn't was skipped.
  pub record DidNothing (one : HandledCommand T) (old : NumberedHub T U B D × List (Option (GivenHandler P D))) (answer : Reply T)
      (new : NumberedHub T U B D × List (Option (GivenHandler P D))) : Type 0 where
    pub lacks : finds_handlers one old.1 ≡ false
    pub told : answer ≡ reply.Skipped
    pub same : new ≡ old

  abbrev pub Did : HandledCommand T → NumberedHub T U B D × List (Option (GivenHandler P D)) → Reply T
      → NumberedHub T U B D × List (Option (GivenHandler P D)) → Type 0
  Did one old answer new = DidAsDecided one old answer new ⊎ DidNothing one old answer new

  -- ---- a publisher

  unknown_publisher : (by : BackpressureStrategy → Option BackpressureAction → DegradationAction → B) (opened : Option Opened)
      (options : PublisherOptions) (old new : NumberedHub T U B D) (answer : Reply T) → ports_of_factory opened old.hub ≡ None
      → ((one : Opened) → opened ≡ Some one → is_some (hub_ports (domain_of_factory one) old.hub) ≡ true)
      → answer ≡ reply.Skipped → new ≡ old → PublisherComes terms.is_default_header by terms.degrades opened options old answer new
  unknown_publisher by None options old new answer none here told same = (told, same)
  unknown_publisher by (Some one) options old new answer none here told same =
      never_true (sym (ap (λ (ports : Option (ServicePorts T U)). is_some ports) none) ∙ here one refl)

  abbrev full_at : Option ℕ → List (Option (GivenHandler P D)) → Option (Option P)
  full_at place given = named (λ lies. backpressure_of lies) place given

  abbrev failing_at : Option ℕ → List (Option (GivenHandler P D)) → Option (Option D)
  failing_at place given = named (λ lies. degradation_of lies) place given

  found_so : (at_full at_failure : Option ℕ) (given : List (Option (GivenHandler P D)))
      → (option_map_or (λ place. is_some (backpressure_of (lies_at place given))) at_full true
      && option_map_or (λ place. is_some (degradation_of (lies_at place given))) at_failure true)
      ≡ (is_some (full_at at_full given) && is_some (failing_at at_failure given))
  found_so at_full at_failure given =
      ap (λ (b : Bool). b && option_map_or (λ place. is_some (degradation_of (lies_at place given))) at_failure true)
      (some_named (λ lies. backpressure_of lies) at_full given)
      ∙ ap (λ (b : Bool). is_some (full_at at_full given) && b) (some_named (λ lies. degradation_of lies) at_failure given)

  -- whether both lie there
  both_found : (at_full at_failure : Option ℕ) (full : Option P) (failing : Option (Option D)) (given : List (Option (GivenHandler P D)))
      → full_at at_full given ≡ Some full → failing_at at_failure given ≡ failing
      → (is_some (full_at at_full given) && is_some (failing_at at_failure given)) ≡ is_some failing
  both_found at_full at_failure full failing given is_full is_failing =
      ap (λ (found : Option (Option P)). is_some found && is_some (failing_at at_failure given)) is_full
      ∙ ap (λ (found : Option (Option D)). is_some found) is_failing

  -- the handlers that were found are those that lay there
  found_both : (at_full at_failure : Option ℕ) (full : Option P) (failing : Option D) (factory : ℕ) (options : PublisherOptions)
      (given : List (Option (GivenHandler P D))) (old new : NumberedHub T U B D) (answer : Reply T)
      → full_at at_full given ≡ Some full → failing_at at_failure given ≡ Some failing
      → MakesPublisher terms.is_default_header (λ strategy action degrading. handled strategy action degrading full failing)
      terms.degrades factory options old answer new
      → MakesPublisher terms.is_default_header (λ strategy action degrading. handled strategy action degrading
      (option_and_then (λ place. backpressure_of (lies_at place given)) at_full)
      (option_and_then (λ place. degradation_of (lies_at place given)) at_failure)) terms.degrades factory options old answer new
  found_both at_full at_failure full failing factory options given old new answer is_full is_failing makes =
      subst (λ (found : Option P). MakesPublisher terms.is_default_header
      (λ strategy action degrading. handled strategy action degrading found
      (option_and_then (λ place. degradation_of (lies_at place given)) at_failure)) terms.degrades factory options old answer new)
      (sym (flat_named (λ lies. backpressure_of lies) at_full given ∙ ap (λ (found : Option (Option P)). option_flatten found) is_full))
      (subst (λ (found : Option D). MakesPublisher terms.is_default_header
      (λ strategy action degrading. handled strategy action degrading full found) terms.degrades factory options old answer new)
      (sym (flat_named (λ lies. degradation_of lies) at_failure given
      ∙ ap (λ (found : Option (Option D)). option_flatten found) is_failing)) makes)

  publisher_did : (at_full at_failure : Option ℕ) (full : Option (Option P)) (failing : Option (Option D))
      (ports : Option (ServicePorts T U)) (factory : ℕ) (options : PublisherOptions)
      (old new : NumberedHub T U B D × List (Option (GivenHandler P D))) (answer : Reply T) → PortsAreHere old.0
      → full_at at_full old.1 ≡ full → failing_at at_failure old.1 ≡ failing
      → ports_of_factory (publish_subscribe_in (value_at old.0.factories.made factory)) old.0.hub ≡ ports
      → PublisherTakes terms.is_default_header handled terms.degrades full failing ports factory options
      (emptied_if at_failure (emptied_if at_full old.1)) old answer new
      → Did (asked.Publisher factory options at_full at_failure) old answer new
  publisher_did at_full at_failure None failing ports factory options old new answer here is_full is_failing there takes = inr (record {
    lacks = found_so at_full at_failure old.1
        ∙ ap (λ (found : Option (Option P)). is_some found && is_some (failing_at at_failure old.1)) is_full;
    told = takes.0;
    same = takes.1;
  })
  publisher_did at_full at_failure (Some full) None ports factory options old new answer here is_full is_failing there takes =
      inr (record {
        lacks = found_so at_full at_failure old.1 ∙ both_found at_full at_failure full None old.1 is_full is_failing;
        told = takes.0;
        same = takes.1;
      })
  publisher_did at_full at_failure (Some full) (Some failing) None factory options old new answer here is_full is_failing there takes =
      inl (record {
        finds = found_so at_full at_failure old.1 ∙ both_found at_full at_failure full (Some failing) old.1 is_full is_failing;
        step = unknown_publisher (fixed_by {T = T} terms.fixed handled (asked.Publisher factory options at_full at_failure) old.1) _
            options old.0 new.0 answer there (λ one is. here factory one is) takes.0
            (ap (λ (state : NumberedHub T U B D × List (Option (GivenHandler P D))). state.0) takes.1);
        left = ap (λ (state : NumberedHub T U B D × List (Option (GivenHandler P D))). state.1) takes.1
            ∙ sym (left_by_skipped (asked.Publisher factory options at_full at_failure) answer old.1 takes.0);
      })
  publisher_did at_full at_failure (Some full) (Some failing) (Some ports) factory options old new answer here is_full is_failing there
      takes = inl (record {
        finds = found_so at_full at_failure old.1 ∙ both_found at_full at_failure full (Some failing) old.1 is_full is_failing;
        step = found_both at_full at_failure full failing factory options old.1 old.0 new.0 answer is_full is_failing takes.0;
        left = takes.1
            ∙ sym (left_by_replied (asked.Publisher factory options at_full at_failure) answer old.1
            (emptied_if at_failure (emptied_if at_full old.1))
            (publisher_replied terms.is_default_header (λ strategy action degrading. handled strategy action degrading full failing)
            terms.degrades _ options old.0 new.0 answer ports there takes.0) (both_emptied at_full at_failure old.1));
      })

  -- ---- a subscriber

  unknown_subscriber : (by : DegradationAction → D) (opened : Option Opened) (options : SubscriberOptions) (old new : NumberedHub T U B D)
      (answer : Reply T) → ports_of_factory opened old.hub ≡ None
      → ((one : Opened) → opened ≡ Some one → is_some (hub_ports (domain_of_factory one) old.hub) ≡ true)
      → answer ≡ reply.Skipped → new ≡ old → SubscriberComes by terms.reader_degrades opened options old answer new
  unknown_subscriber by None options old new answer none here told same = (told, same)
  unknown_subscriber by (Some one) options old new answer none here told same =
      never_true (sym (ap (λ (ports : Option (ServicePorts T U)). is_some ports) none) ∙ here one refl)

  subscriber_did : (at_failure : ℕ) (found : Option D) (ports : Option (ServicePorts T U)) (factory : ℕ) (options : SubscriberOptions)
      (old new : NumberedHub T U B D × List (Option (GivenHandler P D))) (answer : Reply T) → PortsAreHere old.0
      → degradation_of (lies_at at_failure old.1) ≡ found
      → ports_of_factory (publish_subscribe_in (value_at old.0.factories.made factory)) old.0.hub ≡ ports
      → SubscriberTakes terms.reader_degrades found ports factory options (emptied at_failure old.1) old answer new
      → Did (asked.Subscriber factory options at_failure) old answer new
  subscriber_did at_failure None ports factory options old new answer here is_found there takes = inr (record {
    lacks = ap (λ (found : Option D). is_some found) is_found;
    told = takes.0;
    same = takes.1;
  })
  subscriber_did at_failure (Some handler) None factory options old new answer here is_found there takes = inl (record {
    finds = ap (λ (found : Option D). is_some found) is_found;
    step = unknown_subscriber (reader_by {T = T} terms.fixed_reader (asked.Subscriber factory options at_failure) old.1) _ options old.0
        new.0 answer there (λ one is. here factory one is) takes.0
        (ap (λ (state : NumberedHub T U B D × List (Option (GivenHandler P D))). state.0) takes.1);
    left = ap (λ (state : NumberedHub T U B D × List (Option (GivenHandler P D))). state.1) takes.1
        ∙ sym (left_by_skipped (asked.Subscriber factory options at_failure) answer old.1 takes.0);
  })
  subscriber_did at_failure (Some handler) (Some ports) factory options old new answer here is_found there takes = inl (record {
    finds = ap (λ (found : Option D). is_some found) is_found;
    step = subst (λ (found : Option D). MakesSubscriber (λ action. unwrap_or found (terms.fixed_reader action)) terms.reader_degrades
        factory options old.0 answer new.0) (sym is_found) takes.0;
    left = takes.1
        ∙ sym (left_by_replied (asked.Subscriber factory options at_failure) answer old.1 (emptied at_failure old.1)
        (subscriber_replied (λ action. handler) terms.reader_degrades _ options old.0 new.0 answer ports there takes.0) refl);
  })

  -- ---- any command

  pub handled_did : (one : HandledCommand T) (old new : NumberedHub T U B D × List (Option (GivenHandler P D))) (answer : Reply T)
      → PortsAreHere old.0
      → HandledStep terms handled one old (Ok answer) new
      → Did one old answer new
  handled_did (asked.Plain command) old new answer here step =
      inl (record { finds = refl; step = step.0; left = step.1 ∙ left_by_plain command answer old.1 })
  handled_did (asked.Publisher factory options at_full at_failure) old new answer here step =
      publisher_did at_full at_failure _ _ _ factory options old new answer here refl refl refl step
  handled_did (asked.Subscriber factory options at_failure) old new answer here step =
      subscriber_did at_failure _ _ factory options old new answer here refl refl step

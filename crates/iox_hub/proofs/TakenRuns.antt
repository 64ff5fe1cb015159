-- What the commands of a run take.
use Rattle.std.proofs.Common.{◌≡◌, ◌∙◌, ◌++◌, ℕ, Bool, true, false, List, [], ◌∷◌, Option, None, Some, Result, Ok, Err, refl, sym, ap}
use Rattle.std.proofs.Common.{subst, inl, inr}
use Rattle.std.proofs.lemmas.List.{append-nil}
use Rattle.std.specs.declared.alloc.AllocError.{AllocError}
use Rattle.std.specs.Prelude.{is_some, option_to_list, if◌then◌else◌}
use Rattle.iox_hub_commands.specs.Command.declared.port.PublisherOptions.{PublisherOptions}
use Rattle.iox_hub_commands.specs.Command.declared.port.SubscriberOptions.{SubscriberOptions}
use Rattle.iox_hub_commands.specs.Command.declared.reply.Reply.{Reply}
use Rattle.iox_hub_commands.specs.HubBase.AsHome.{with_hub_ports, with_hub_publisher, with_hub_subscriber}
use Rattle.iox_hub_commands.specs.HubBase.Opening.{Made as Opened}
use Rattle.iox_hub_commands.specs.Domain.AtHomes.{MakesAt}
use Rattle.iox_hub_commands.specs.Domain.Steps.{why_no_publisher, why_no_subscriber}
use Rattle.iox_hub_commands.specs.Domain.declared.ports.service_ports.ServicePorts.{ServicePorts}
use Rattle.iox_hub_commands.specs.DomainValues.declared.backpressure.BackpressureAction.{BackpressureAction}
use Rattle.iox_hub_commands.specs.DomainValues.declared.backpressure_strategy.BackpressureStrategy.{BackpressureStrategy}
use Rattle.iox_hub_commands.specs.DomainValues.declared.create_error.PublisherCreateError.{PublisherCreateError}
use Rattle.iox_hub_commands.specs.DomainValues.declared.create_error.SubscriberCreateError.{SubscriberCreateError}
use Rattle.iox_hub_commands.specs.DomainValues.declared.degradation.DegradationAction.{DegradationAction}
use Rattle.iox_hub_commands.specs.DomainValues.declared.degradation.DegradationCause.{DegradationCause}
use Rattle.iox_hub_commands.specs.DomainValues.declared.degradation.DegradationInfo.{DegradationInfo}
use Rattle.iox_hub_commands.specs.Making.{NumbersPort}
use Rattle.iox_hub_commands.specs.declared.ports.made.Made.{Made}
use Rattle.iox_hub_commands.specs.Naming.{publisher_config, publisher_handlers, subscriber_config, subscriber_handler}
use Rattle.iox_hub_commands.specs.Replies.{publisher_reply, subscriber_reply}
use Rattle.iox_hub_commands.specs.Container.NumberTable.{value_at}
use Rattle.iox_hub_commands.specs.ServicesTables.{publish_subscribe_in}
use Rattle.iox_hub_commands.specs.Runs.{Runs, IsRun}
use Rattle.iox_hub_commands.specs.Services.{PublisherComes, SubscriberComes, domain_of_factory, owner_of_factory}
use Rattle.iox_hub_commands.specs.declared.numbered_hub.NumberedHub.{NumberedHub}
use Rattle.iox_hub_commands.specs.Terms.{Terms}
use Rattle.iox_hub.specs.Places.{named, lies_at, backpressure_of, degradation_of, emptied, emptied_if}
use Rattle.iox_hub.specs.Steps.{HandledStep, PublisherTakes, SubscriberTakes, ports_of_factory}
use Rattle.iox_hub.specs.Taking.{is_skipped, places_of, taken, TakesOnce}
use Rattle.iox_hub.specs.declared.given.GivenHandler.{GivenHandler}
use Rattle.iox_hub.specs.declared.handled_command.HandledCommand.{HandledCommand}
use Rattle.iox_hub.specs.declared.handled_command.HandledCommand.TheVariants as asked
use Rattle.iox_hub.proofs.PlaceLemmas.{other_kind_stays, backpressure_lies, degradation_lies, some_degradation_lies}
use Rattle.iox_hub.proofs.TakenOnce.{none_taken, one_taken, taken_then}

-- ---- a port that came or was refused isn't skipped

outcome_there : {S H E : Type 0} (with_ports : S → H) (keeping : ℕ → H → H) (step : S → ℕ → S → Type 0) (refusal : S → E)
    (found : Option S) (old new : H) (outcome : Option (Result ℕ E)) (ports : S) → found ≡ Some ports
    → MakesAt with_ports keeping step refusal found old outcome new → is_some outcome ≡ true
outcome_there with_ports keeping step refusal None old new outcome ports is at = cc
outcome_there with_ports keeping step refusal (Some found) old new None ports is at = absurd at
outcome_there with_ports keeping step refusal (Some found) old new (Some result) ports is at = refl

numbered_there : {E : Type 0} (numbered : ℕ → Made → Made) (next : ℕ) (outcome came : Option (Result ℕ E)) (made after : Made)
    → is_some outcome ≡ true → NumbersPort numbered next outcome made came after → is_some came ≡ true
numbered_there numbered next None came made after there numbers = cc
numbered_there numbered next (Some (Err error)) came made after there numbers = ap (λ o. is_some o) numbers.0
numbered_there numbered next (Some (Ok number)) came made after there numbers = ap (λ o. is_some o) numbers.0

publisher_replied_to : (T : Type 0) (came : Option (Result ℕ PublisherCreateError)) → is_some came ≡ true
    → is_skipped {T = T} (publisher_reply came) ≡ false
publisher_replied_to T None there = cc
publisher_replied_to T (Some (Ok number)) there = refl
publisher_replied_to T (Some (Err error)) there = refl

subscriber_replied_to : (T : Type 0) (came : Option (Result ℕ SubscriberCreateError)) → is_some came ≡ true
    → is_skipped {T = T} (subscriber_reply came) ≡ false
subscriber_replied_to T None there = cc
subscriber_replied_to T (Some (Ok number)) there = refl
subscriber_replied_to T (Some (Err error)) there = refl

module _ {T U B D : Type 0} where
  pub publisher_replied : (is_default : U → Type 0) (fixed : BackpressureStrategy → Option BackpressureAction → DegradationAction → B)
      (degrades : B → DegradationCause → DegradationInfo → DegradationAction → Type 0) (opened : Option Opened) (options : PublisherOptions)
      (old new : NumberedHub T U B D) (answer : Reply T) (ports : ServicePorts T U) → ports_of_factory opened old.hub ≡ Some ports
      → PublisherComes is_default fixed degrades opened options old answer new → is_skipped answer ≡ false
  publisher_replied is_default fixed degrades None options old new answer ports there comes = cc
  publisher_replied is_default fixed degrades (Some opened) options old new answer ports there
      ((user_header, is_header, came, (roomier, is_roomier, (outcome, comes, numbers)), is_answer), same) =
      ap (λ (reply : Reply T). is_skipped reply) is_answer ∙ publisher_replied_to T came
      (numbered_there _ _ outcome came roomier new.made
      (outcome_there (λ after. with_hub_ports (domain_of_factory opened) after old.hub)
      (λ number. with_hub_publisher (domain_of_factory opened) number (publisher_handlers fixed options)) _
      (why_no_publisher (publisher_config (owner_of_factory opened) options)) _ old.hub new.hub outcome ports there comes) numbers)

  pub subscriber_replied : (fixed : DegradationAction → D) (degrades : D → DegradationCause → DegradationInfo → DegradationAction → Type 0)
      (opened : Option Opened) (options : SubscriberOptions)
      (old new : NumberedHub T U B D) (answer : Reply T) (ports : ServicePorts T U) → ports_of_factory opened old.hub ≡ Some ports
      → SubscriberComes fixed degrades opened options old answer new → is_skipped answer ≡ false
  subscriber_replied fixed degrades None options old new answer ports there comes = cc
  subscriber_replied fixed degrades (Some opened) options old new answer ports there
      ((came, (roomier, is_roomier, (outcome, comes, numbers)), is_answer), same) =
      ap (λ (reply : Reply T). is_skipped reply) is_answer ∙ subscriber_replied_to T came
      (numbered_there _ _ outcome came roomier new.made
      (outcome_there (λ after. with_hub_ports (domain_of_factory opened) after old.hub)
      (λ number. with_hub_subscriber (domain_of_factory opened) number (subscriber_handler fixed options)) _
      (why_no_subscriber (subscriber_config (owner_of_factory opened) options)) _ old.hub new.hub outcome ports there comes) numbers)

-- ---- what a port takes

module _ {P D : Type 0} where
  full_taken : (at_full : Option ℕ) (given : List (Option (GivenHandler P D)))
      → is_some (named (λ lies. backpressure_of lies) at_full given) ≡ true
      → TakesOnce (option_to_list at_full) given (emptied_if at_full given)
  full_taken None given lies = none_taken given given refl
  full_taken (Some place) given lies = one_taken place given (backpressure_lies (lies_at place given) lies)

  failure_taken : (at_failure : Option ℕ) (given : List (Option (GivenHandler P D)))
      → is_some (named (λ lies. degradation_of lies) at_failure given) ≡ true
      → TakesOnce (option_to_list at_failure) given (emptied_if at_failure given)
  failure_taken None given lies = none_taken given given refl
  failure_taken (Some place) given lies = one_taken place given (degradation_lies (lies_at place given) lies)

  both_taken : (at_full at_failure : Option ℕ) (given : List (Option (GivenHandler P D)))
      → is_some (named (λ lies. backpressure_of lies) at_full given) ≡ true
      → is_some (named (λ lies. degradation_of lies) at_failure given) ≡ true
      → TakesOnce (option_to_list at_full ++ option_to_list at_failure) given (emptied_if at_failure (emptied_if at_full given))
  both_taken at_full at_failure given full failing =
      taken_then (option_to_list at_full) (option_to_list at_failure) given (emptied_if at_full given)
      (emptied_if at_failure (emptied_if at_full given)) (full_taken at_full given full)
      (failure_taken at_failure (emptied_if at_full given)
      (ap (λ (o : Option (Option D)). is_some o) (other_kind_stays at_full at_failure given full) ∙ failing))

  nothing_either : (b : Bool) (old new : List (Option (GivenHandler P D))) → new ≡ old → TakesOnce (if b then [] else []) old new
  nothing_either true old new is = none_taken old new is
  nothing_either false old new is = none_taken old new is

-- nothing is taken where nothing is replied
taken_nothing : {T : Type 0} (commands : List (HandledCommand T)) → taken commands [] ≡ []
taken_nothing [] = refl
taken_nothing (command ∷ commands) = refl

module _ {T U B D P : Type 0} (terms : Terms T U B D)
    (handled : BackpressureStrategy → Option BackpressureAction → DegradationAction → Option P → Option D → B) where
  skipped_takes : (places : List ℕ) (old new : NumberedHub T U B D × List (Option (GivenHandler P D))) (answer : Reply T)
      → is_skipped answer ≡ true → new ≡ old → TakesOnce (if is_skipped answer then [] else places) old.1 new.1
  skipped_takes places old new answer skipped is =
      subst (λ b. TakesOnce (if b then [] else places) old.1 new.1) (sym skipped)
      (none_taken old.1 new.1 (ap (λ (state : NumberedHub T U B D × List (Option (GivenHandler P D))). state.1) is))

  replied_takes : (places : List ℕ) (old new : NumberedHub T U B D × List (Option (GivenHandler P D))) (answer : Reply T)
      (fewer : List (Option (GivenHandler P D))) → is_skipped answer ≡ false → new.1 ≡ fewer → TakesOnce places old.1 fewer
      → TakesOnce (if is_skipped answer then [] else places) old.1 new.1
  replied_takes places old new answer fewer replied is takes =
      subst (λ b. TakesOnce (if b then [] else places) old.1 new.1) (sym replied)
      (subst (λ given. TakesOnce places old.1 given) (sym is) takes)

  publisher_once : (at_full at_failure : Option ℕ) (full : Option (Option P)) (failing : Option (Option D))
      (ports : Option (ServicePorts T U)) (factory : ℕ) (options : PublisherOptions)
      (old new : NumberedHub T U B D × List (Option (GivenHandler P D))) (answer : Reply T)
      → named (λ lies. backpressure_of lies) at_full old.1 ≡ full → named (λ lies. degradation_of lies) at_failure old.1 ≡ failing
      → ports_of_factory (publish_subscribe_in (value_at old.0.factories.made factory)) old.0.hub ≡ ports
      → PublisherTakes terms.is_default_header handled terms.degrades full failing ports factory options
      (emptied_if at_failure (emptied_if at_full old.1)) old answer new
      → TakesOnce (if is_skipped answer then [] else (option_to_list at_full ++ option_to_list at_failure)) old.1 new.1
  publisher_once at_full at_failure None failing ports factory options old new answer is_full is_failing there takes
      = skipped_takes _ old new answer (ap (λ (reply : Reply T). is_skipped reply) takes.0) takes.1
  publisher_once at_full at_failure (Some full) None ports factory options old new answer is_full is_failing there takes
      = skipped_takes _ old new answer (ap (λ (reply : Reply T). is_skipped reply) takes.0) takes.1
  publisher_once at_full at_failure (Some full) (Some failing) None factory options old new answer is_full is_failing there takes
      = skipped_takes _ old new answer (ap (λ (reply : Reply T). is_skipped reply) takes.0) takes.1
  publisher_once at_full at_failure (Some full) (Some failing) (Some ports) factory options old new answer is_full is_failing there takes =
      replied_takes (option_to_list at_full ++ option_to_list at_failure) old new answer (emptied_if at_failure (emptied_if at_full old.1))
      (publisher_replied terms.is_default_header (λ strategy action degrading. handled strategy action degrading full failing)
      terms.degrades _ options old.0 new.0 answer ports there takes.0) takes.1
      (both_taken at_full at_failure old.1 (ap (λ (o : Option (Option P)). is_some o) is_full)
      (ap (λ (o : Option (Option D)). is_some o) is_failing))

  subscriber_once : (at_failure : ℕ) (found : Option D) (ports : Option (ServicePorts T U)) (factory : ℕ) (options : SubscriberOptions)
      (old new : NumberedHub T U B D × List (Option (GivenHandler P D))) (answer : Reply T)
      → degradation_of (lies_at at_failure old.1) ≡ found
      → ports_of_factory (publish_subscribe_in (value_at old.0.factories.made factory)) old.0.hub ≡ ports
      → SubscriberTakes terms.reader_degrades found ports factory options (emptied at_failure old.1) old answer new
      → TakesOnce (if is_skipped answer then [] else (at_failure ∷ [])) old.1 new.1
  subscriber_once at_failure None ports factory options old new answer is_found there takes
      = skipped_takes _ old new answer (ap (λ (reply : Reply T). is_skipped reply) takes.0) takes.1
  subscriber_once at_failure (Some handler) None factory options old new answer is_found there takes
      = skipped_takes _ old new answer (ap (λ (reply : Reply T). is_skipped reply) takes.0) takes.1
  subscriber_once at_failure (Some handler) (Some ports) factory options old new answer is_found there takes =
      replied_takes (at_failure ∷ []) old new answer (emptied at_failure old.1)
      (subscriber_replied (λ action. handler) terms.reader_degrades _ options old.0 new.0 answer ports there takes.0) takes.1
      (one_taken at_failure old.1 (some_degradation_lies (lies_at at_failure old.1) handler is_found))

  -- what a command takes that is replied to
  handled_once : (command : HandledCommand T) (old new : NumberedHub T U B D × List (Option (GivenHandler P D))) (answer : Reply T)
      → HandledStep terms handled command old (Ok answer) new
      → TakesOnce (if is_skipped answer then [] else places_of command) old.1 new.1
  handled_once (asked.Plain command) old new answer step = nothing_either (is_skipped answer) old.1 new.1 step.1
  handled_once (asked.Publisher factory options at_full at_failure) old new answer step
      = publisher_once at_full at_failure _ _ _ factory options old new answer refl refl refl step
  handled_once (asked.Subscriber factory options at_failure) old new answer step
      = subscriber_once at_failure _ _ factory options old new answer refl refl step

  -- a command that isn't replied to takes nothing
  lacking_leaves : (command : HandledCommand T) (old new : NumberedHub T U B D × List (Option (GivenHandler P D))) (lacking : AllocError)
      → HandledStep terms handled command old (Err lacking) new → new.1 ≡ old.1
  lacking_leaves (asked.Plain command) old new lacking step = step.1
  lacking_leaves (asked.Publisher factory options at_full at_failure) old new lacking step = absurd step
  lacking_leaves (asked.Subscriber factory options at_failure) old new lacking step = absurd step

  unbegun_once : (commands : List (HandledCommand T)) (old new : NumberedHub T U B D × List (Option (GivenHandler P D)))
      (replies : List (Reply T)) → replies ≡ [] → new ≡ old → TakesOnce (taken commands replies) old.1 new.1
  unbegun_once commands old new replies none same =
      subst (λ (answers : List (Reply T)). TakesOnce (taken commands answers) old.1 new.1) (sym none)
      (subst (λ places. TakesOnce places old.1 new.1) (sym (taken_nothing commands))
      (none_taken old.1 new.1 (ap (λ (state : NumberedHub T U B D × List (Option (GivenHandler P D))). state.1) same)))

  runs_once : (first more : List (HandledCommand T)) (old new : NumberedHub T U B D × List (Option (GivenHandler P D)))
      (replies : List (Reply T))
      → Runs (HandledStep terms handled) first old replies new
      → TakesOnce (taken (first ++ more) replies) old.1 new.1
  runs_once [] more old new replies (none, same) = unbegun_once more old new replies none same
  runs_once (command ∷ first) more old new replies (answer, mid, rest, does, runs, is) =
      subst (λ (answers : List (Reply T)). TakesOnce (taken (command ∷ (first ++ more)) answers) old.1 new.1) (sym is)
      (taken_then (if is_skipped answer then [] else places_of command) (taken (first ++ more) rest) old.1 mid.1 new.1
      (handled_once command old mid answer does) (runs_once first more mid new rest runs))

  -- what a run takes
  pub run_once : (commands : List (HandledCommand T)) (old new : NumberedHub T U B D × List (Option (GivenHandler P D)))
      (replies : List (Reply T)) (stopped : Bool)
      → IsRun (HandledStep terms handled) commands old replies stopped new
      → TakesOnce (taken commands replies) old.1 new.1
  run_once commands old new replies false runs =
      subst (λ (all : List (HandledCommand T)). TakesOnce (taken all replies) old.1 new.1) (append-nil commands)
      (runs_once commands [] old new replies runs)
  run_once commands old new replies true (inl (some, none, same)) = unbegun_once commands old new replies none same
  run_once commands old new replies true (inr (first, command, rest, mid, lacking, is, runs, does)) =
      subst (λ (all : List (HandledCommand T)). TakesOnce (taken all replies) old.1 new.1) (sym is)
      (subst (λ given. TakesOnce (taken (first ++ command ∷ rest) replies) old.1 given)
      (sym (lacking_leaves command mid new lacking does)) (runs_once first (command ∷ rest) old mid replies runs))

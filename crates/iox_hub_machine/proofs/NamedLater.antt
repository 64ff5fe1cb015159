-- What was named may be chosen for ports that come later, as a hub goes on.
use Rattle.std.proofs.Common.{◌≡◌, ◌∙◌, ◌≤◌, ◌++◌, Bool, true, false, List, [], ◌∷◌, map, Option, Result, Ok, Err}
use Rattle.std.proofs.Common.{refl, sym, ap, subst, inl, inr, arith}
use Rattle.std.specs.Option.{unwrap_or}
use Rattle.std.specs.declared.alloc.AllocError.{AllocError}
use Rattle.iox_command.specs.DomainValues.Actions.{decision_of}
use Rattle.iox_command.specs.DomainValues.declared.backpressure.BackpressureAction.{BackpressureAction}
use Rattle.iox_command.specs.DomainValues.declared.backpressure.BackpressureDecision.{BackpressureDecision}
use Rattle.iox_command.specs.DomainValues.declared.backpressure.BackpressureInfo.{BackpressureInfo}
use Rattle.iox_command.specs.DomainValues.declared.backpressure_strategy.BackpressureStrategy.{BackpressureStrategy}
use Rattle.iox_command.specs.DomainValues.declared.backpressure_strategy.BackpressureStrategy.TheVariants.{RetryUntilDelivered}
use Rattle.iox_command.specs.DomainValues.declared.degradation.DegradationAction.{DegradationAction}
use Rattle.iox_command.specs.DomainValues.declared.degradation.DegradationAction.TheVariants.{Warn}
use Rattle.iox_command.specs.DomainValues.declared.degradation.DegradationCause.{DegradationCause}
use Rattle.iox_command.specs.DomainValues.declared.degradation.DegradationInfo.{DegradationInfo}
use Rattle.iox_command.specs.declared.command.Command.{Command}
use Rattle.iox_command.specs.declared.command.Command.TheVariants as command
use Rattle.iox_command.specs.declared.port.PublisherOptions.{PublisherOptions}
use Rattle.iox_command.specs.declared.port.SubscriberOptions.{SubscriberOptions}
use Rattle.iox_command.specs.declared.reply.Reply.{Reply}
use Rattle.iox_hub_commands.proofs.StepChanges.{numbers_go_on, step_changes}
use Rattle.iox_hub_commands.specs.CommandSteps as hub
use Rattle.iox_hub_commands.specs.Lives.{NumbersRise}
use Rattle.iox_hub_commands.specs.Naming.{publisher_handlers, subscriber_handler}
use Rattle.iox_hub_commands.specs.Runs.{IsRun, Runs}
use Rattle.iox_hub_commands.specs.declared.numbered_hub.NumberedHub.{NumberedHub}
use Rattle.iox_hub_commands.specs.Terms.{Terms}
use Rattle.iox_hub_machine.specs.ArrivalLaws.{AnswersAsChosen, AnswersAsFixed, DecidesAsChosen, DecidesAsFixed, MayBeNamedLater}
use Rattle.iox_hub_machine.specs.GoingOnLaws.{ComesAsChosen, Decided, DecidedStep, asked_of}
use Rattle.iox_machine.specs.Choices.{Choices, as_named}

-- what was named is chosen for each port
pub all_named : {T U B D : Type 0} (is_default : T → Type 0) (hub : NumberedHub T U B D) → MayBeNamedLater (as_named is_default) hub
all_named is_default hub =
    ((λ publisher retries elapsed named later. refl), (λ publisher named later. refl), (λ subscriber named later. refl))

-- the numbers that come next may be those, or later ones
later_still : {T U B D : Type 0} (choices : Choices T) (old new : NumberedHub T U B D) → old.made.publishers.next ≤ new.made.publishers.next
    → old.made.subscribers.next ≤ new.made.subscribers.next → MayBeNamedLater choices old → MayBeNamedLater choices new
later_still choices old new more also may_name = (
  λ publisher retries elapsed named later. may_name.0 publisher retries elapsed named (omega (arith, more, later)),
  λ publisher named later. may_name.1 publisher named (omega (arith, more, later)),
  λ subscriber named later. may_name.2 subscriber named (omega (arith, also, later)),
)

module _ {T B D : Type 0} (fixed : BackpressureStrategy → Option BackpressureAction → DegradationAction → B)
    (fixed_reader : DegradationAction → D) where
  -- commands whose ports decide by actions
  abbrev pub by_actions : List (Command T) → List (Decided T B D)
  by_actions commands = map (λ (asked : Command T). record { asked = asked; fixed = fixed; fixed_reader = fixed_reader }) commands

  pub own_commands : (commands : List (Command T)) → asked_of (by_actions commands) ≡ commands
  own_commands [] = refl
  own_commands (asked ∷ more) = ap (λ (them : List (Command T)). asked ∷ them) (own_commands more)

  both_by : (first rest : List (Command T)) → by_actions (first ++ rest) ≡ by_actions first ++ by_actions rest
  both_by [] rest = refl
  both_by (one ∷ first) rest = ap (λ (them : List (Decided T B D)).
      record { asked = one; fixed = fixed; fixed_reader = fixed_reader } ∷ them) (both_by first rest)

module _ {T U B D : Type 0} (choices : Choices T) where
  -- who decides by fixed actions for a publisher that comes decides as may be chosen
  pub decided : (fixed : BackpressureStrategy → Option BackpressureAction → DegradationAction → B)
      (degrades : B → DegradationCause → DegradationInfo → DegradationAction → Type 0)
      (decides : B → BackpressureInfo → BackpressureDecision → Type 0) → DecidesAsFixed fixed degrades decides
      → (hub : NumberedHub T U B D) → MayBeNamedLater choices hub → (options : PublisherOptions)
      → DecidesAsChosen choices degrades decides (publisher_handlers fixed options) hub.made.publishers.next options
  decided fixed degrades decides so hub may_name options =
      let next = hub.made.publishers.next in
      let strategy = unwrap_or options.backpressure_strategy RetryUntilDelivered in
      let named = unwrap_or options.degradation_handler Warn in record {
        failed = λ info action may.
            subst (choices.publisher_acts next named)
            (sym (so.failed strategy options.backpressure_handler named action info may))
            (may_name.1 next named (omega arith));
        full = λ info decision retries may told.
            let its = decision_of strategy options.backpressure_handler in
            subst (choices.publisher_decides next retries info.elapsed_time its)
            (sym (so.full strategy options.backpressure_handler named info decision may))
            (may_name.0 next retries info.elapsed_time its (omega arith));
      }

  -- who answers a fixed action for a subscriber that comes answers as may be chosen
  pub answered : (fixed_reader : DegradationAction → D)
      (reader_degrades : D → DegradationCause → DegradationInfo → DegradationAction → Type 0) → AnswersAsFixed fixed_reader reader_degrades
      → (hub : NumberedHub T U B D) → MayBeNamedLater choices hub → (options : SubscriberOptions)
      → AnswersAsChosen choices reader_degrades (subscriber_handler fixed_reader options) hub.made.subscribers.next options
  answered fixed_reader reader_degrades so hub may_name options info action may =
      let next = hub.made.subscribers.next in
      let named = unwrap_or options.degradation_handler Warn in
      subst (choices.subscriber_acts next named) (sym (so named action info may)) (may_name.2 next named (omega arith))

  module _ (terms : Terms T U B D) where
    abbrev Steps : Command T → NumberedHub T U B D → Result (Reply T) AllocError → NumberedHub T U B D → Type 0
    Steps = hub.Step (record terms { is_default = choices.is_default })

    -- after a command
    named_later : (old new : NumberedHub T U B D) (answer : Reply T) (asked : Command T) → Steps asked old (Ok answer) new
        → NumbersRise old → MayBeNamedLater choices old → NumbersRise new × MayBeNamedLater choices new
    named_later old new answer asked step rise may_name =
        let changes = step_changes (record terms { is_default = choices.is_default }) asked old new (Ok answer) step in
        let goes = numbers_go_on old new changes in
        let factories = goes.0 rise.0 in
        let publishers = goes.1 rise.1 in
        let subscribers = goes.2 rise.2 in (
          (factories.0, publishers.0, subscribers.0, (goes.3 rise.3).0, (goes.4 rise.4).0),
          later_still choices old new publishers.1 subscribers.1 may_name,
        )

    abbrev Chosen : Decided T B D → NumberedHub T U B D → Result (Reply T) AllocError → NumberedHub T U B D → Type 0
    Chosen = DecidedStep terms.types choices terms.degrades terms.decides terms.reader_degrades terms.payload terms.user_header
        terms.is_default_header

    abbrev with_actions : Command T → Decided T B D
    with_actions asked = record { asked = asked; fixed = terms.fixed; fixed_reader = terms.fixed_reader }

    module _ (decides_so : DecidesAsFixed terms.fixed terms.degrades terms.decides)
        (answers_so : AnswersAsFixed terms.fixed_reader terms.reader_degrades) where
      comes_chosen : (asked : Command T) (old : NumberedHub T U B D) (told : Reply T) → MayBeNamedLater choices old
          → ComesAsChosen terms.types choices terms.degrades terms.decides terms.reader_degrades asked terms.fixed terms.fixed_reader old
          told
      comes_chosen (command.Publisher factory options) old told may_name = λ made.
          decided terms.fixed terms.degrades terms.decides decides_so old may_name options
      comes_chosen (command.Subscriber factory options) old told may_name = λ made.
          answered terms.fixed_reader terms.reader_degrades answers_so old may_name options
      comes_chosen command.Node old told may_name = tt
      comes_chosen (command.Create node name options attributes steps) old told may_name = tt
      comes_chosen (command.Open node name options required steps) old told may_name = tt
      comes_chosen (command.OpenOrCreate node name options required steps) old told may_name = tt
      comes_chosen (command.Foreign pattern name steps) old told may_name = tt
      comes_chosen (command.Close factory) old told may_name = tt
      comes_chosen (command.Loan publisher elements) old told may_name = tt
      comes_chosen (command.LoanUninit publisher elements) old told may_name = tt
      comes_chosen (command.Set loan place value) old told may_name = tt
      comes_chosen (command.Fill loan values) old told may_name = tt
      comes_chosen (command.Drop loan) old told may_name = tt
      comes_chosen (command.Send loan) old told may_name = tt
      comes_chosen (command.Put publisher values) old told may_name = tt
      comes_chosen (command.Retry publisher nanoseconds) old told may_name = tt
      comes_chosen (command.GiveUp publisher) old told may_name = tt
      comes_chosen (command.Receive subscriber) old told may_name = tt
      comes_chosen (command.Read sample) old told may_name = tt
      comes_chosen (command.Sequence sample) old told may_name = tt
      comes_chosen (command.Release sample) old told may_name = tt
      comes_chosen (command.Update it) old told may_name = tt
      comes_chosen (command.Leave it) old told may_name = tt
      comes_chosen (command.Has subscriber) old told may_name = tt

      one_chosen : (asked : Command T) (old new : NumberedHub T U B D) (answer : Result (Reply T) AllocError) → MayBeNamedLater choices old
          → Steps asked old answer new → Chosen (with_actions asked) old answer new
      one_chosen asked old new answer may_name step = (step, λ told is. comes_chosen asked old told may_name)

      all_chosen : (commands : List (Command T)) (old new : NumberedHub T U B D) (replies : List (Reply T)) → NumbersRise old
          → MayBeNamedLater choices old → Runs Steps commands old replies new
          → Runs Chosen (by_actions terms.fixed terms.fixed_reader commands) old replies new × MayBeNamedLater choices new
      all_chosen [] old new replies rise may_name runs =
          (runs, subst (λ (hub : NumberedHub T U B D). MayBeNamedLater choices hub) (sym runs.1) may_name)
      all_chosen (asked ∷ more) old new replies rise may_name (reply, mid, rest, step, runs, is) =
          let (also, named) = named_later old mid reply asked step rise may_name in
          let (rests, later) = all_chosen more mid new rest also named runs in
          ((reply, mid, rest, one_chosen asked old mid (Ok reply) may_name step, rests, is), later)

      -- a run whose ports that come decide by actions
      pub run_chosen : (commands : List (Command T)) (old new : NumberedHub T U B D) (replies : List (Reply T)) (stopped : Bool)
          → NumbersRise old → MayBeNamedLater choices old → IsRun Steps commands old replies stopped new
          → IsRun Chosen (by_actions terms.fixed terms.fixed_reader commands) old replies stopped new
      run_chosen commands old new replies false rise may_name runs = (all_chosen commands old new replies rise may_name runs).0
      run_chosen [] old new replies true rise may_name (inl (some, none, same)) = inl (some, none, same)
      run_chosen (asked ∷ more) old new replies true rise may_name (inl (some, none, same)) = inl (omega arith, none, same)
      run_chosen commands old new replies true rise may_name (inr (first, asked, rest, mid, lacking, is, runs, lack)) =
          let (went, later) = all_chosen first old mid replies rise may_name runs in
          inr (
            by_actions terms.fixed terms.fixed_reader first,
            with_actions asked,
            by_actions terms.fixed terms.fixed_reader rest,
            mid,
            lacking,
            ap (λ (them : List (Command T)). by_actions terms.fixed terms.fixed_reader them) is ∙ both_by terms.fixed terms.fixed_reader
                first (asked ∷ rest),
            went,
            one_chosen asked mid new (Err lacking) later lack,
          )

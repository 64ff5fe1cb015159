-- Whatever may be decided for a port that comes may be chosen, by who was handed in.
use Rattle.std.proofs.Common.{◌≡◌, ◌∙◌, ℕ, ◌+◌, ◌-◌, ◌^◌, ◌<◌, ◌≤◌, min, Bool, false, List, ◌∷◌, Option, None, Some}
use Rattle.std.proofs.Common.{refl, sym, ap, subst, arith, inl, inr}
use Rattle.std.proofs.lemmas.Bool.{eq-eqb, eqb-true, false_from_ne_true}
use Rattle.std.specs.Option.{option_and_then, unwrap_or}
use Rattle.std.specs.Prelude.{MatchOption, ◌==◌, if◌then◌else◌}
use Rattle.iox_hub_commands.specs.Command.declared.command.Command.TheVariants as command
use Rattle.iox_hub_commands.specs.Command.declared.port.PublisherOptions.{PublisherOptions}
use Rattle.iox_hub_commands.specs.Command.declared.port.SubscriberOptions.{SubscriberOptions}
use Rattle.iox_hub_commands.specs.Command.declared.reply.Reply.{Reply}
use Rattle.iox_hub_commands.specs.Command.declared.reply.Reply.TheVariants as reply
use Rattle.iox_hub_commands.specs.DescribeBase.declared.message_type.MessageTypeDetails.{MessageTypeDetails}
use Rattle.iox_hub_commands.specs.DomainValues.Actions.{decision_of}
use Rattle.iox_hub_commands.specs.DomainValues.declared.backpressure.BackpressureAction.{BackpressureAction}
use Rattle.iox_hub_commands.specs.DomainValues.declared.backpressure.BackpressureDecision.{BackpressureDecision}
use Rattle.iox_hub_commands.specs.DomainValues.declared.backpressure.BackpressureInfo.{BackpressureInfo}
use Rattle.iox_hub_commands.specs.DomainValues.declared.backpressure_strategy.BackpressureStrategy.{BackpressureStrategy}
use Rattle.iox_hub_commands.specs.DomainValues.declared.backpressure_strategy.BackpressureStrategy.TheVariants.{RetryUntilDelivered}
use Rattle.iox_hub_commands.specs.DomainValues.declared.degradation.DegradationAction.{DegradationAction}
use Rattle.iox_hub_commands.specs.DomainValues.declared.degradation.DegradationAction.TheVariants.{Warn}
use Rattle.iox_hub_commands.specs.DomainValues.declared.degradation.DegradationCause.{DegradationCause}
use Rattle.iox_hub_commands.specs.DomainValues.declared.degradation.DegradationCause.TheVariants.{FailedToEstablishConnection}
use Rattle.iox_hub_commands.specs.DomainValues.declared.degradation.DegradationInfo.{DegradationInfo}
use Rattle.iox_hub_commands.specs.Naming.{publisher_handlers, subscriber_handler}
use Rattle.iox_hub_commands.specs.declared.numbered_hub.NumberedHub.{NumberedHub}
use Rattle.iox_hub_machine.specs.ArrivalLaws.{AnswersAsChosen, AnswersAsFixed, DecidesAsChosen, DecidesAsFixed}
use Rattle.iox_hub_machine.specs.GoingOnLaws.{ComesAsChosen}
use Rattle.iox_hub_machine.specs.Standing.{AreAsMany}
use Rattle.iox_hub.proofs.HandledTurns.{fixed_by, reader_by}
use Rattle.iox_hub.specs.Places.{backpressure_of, degradation_of, lies_at}
use Rattle.iox_hub.specs.Turns.{Turn, handed_in, without_places}
use Rattle.iox_hub.specs.declared.given.GivenHandler.{GivenHandler}
use Rattle.iox_hub.specs.declared.handled_command.HandledCommand.{HandledCommand}
use Rattle.iox_hub.specs.declared.handled_command.HandledCommand.TheVariants as asked
use Rattle.iox_machine.proofs.Kept.{IsNext}
use Rattle.iox_machine.specs.AgreementLaws.{HasOne}
use Rattle.iox_machine.specs.Choices.{Choices, Handed, chosen_by}
use Rattle.iox_machine.specs.State.{Made, counted}

-- ---- numbers that are told

module _ {T : Type 0} where
  publishers_up : (made : Made) (answer : Reply T) → made.publishers ≤ (counted answer made).publishers
  publishers_up made (reply.PublisherMade number) = omega arith
  publishers_up made other = omega arith

  subscribers_up : (made : Made) (answer : Reply T) → made.subscribers ≤ (counted answer made).subscribers
  subscribers_up made (reply.SubscriberMade number) = omega arith
  subscribers_up made other = omega arith

-- a later number isn't told
not_told : (told last number : ℕ) → told ≡ last + 1 → last + 1 < number → (told == number) ≡ false
not_told told last number next above = false_from_ne_true (told == number) (λ same. differ (eqb-true told number same))
  where
    differ : told ≡ number → ⊥
    differ same = omega (arith, next, above, same)

module _ {T D P : Type 0} where
  -- who is handed in by a command for a subscriber: the handler at its place
  abbrev subscriber_by : HandledCommand T → List (Option (GivenHandler P D)) → Option D
  subscriber_by one given = elim one [
    | asked.Subscriber factory options at_failure ↦ degradation_of (lies_at at_failure given)
    | other ↦ None
  ]

module _ {T B D P : Type 0}
    (handled : BackpressureStrategy → Option BackpressureAction → DegradationAction → Option P → Option D → B) where
  -- who is handed in by a command for a publisher
  abbrev publisher_by : HandledCommand T → List (Option (GivenHandler P D)) → Option B
  publisher_by one given = elim one [
    | asked.Publisher factory options at_full at_failure ↦ Some (handled
        (unwrap_or options.backpressure_strategy RetryUntilDelivered) options.backpressure_handler
        (unwrap_or options.degradation_handler Warn)
        (option_and_then (λ place. backpressure_of (lies_at place given)) at_full)
        (option_and_then (λ place. degradation_of (lies_at place given)) at_failure))
    | other ↦ None
  ]

module _ {T B D P : Type 0}
    (handled : BackpressureStrategy → Option BackpressureAction → DegradationAction → Option P → Option D → B) where
  -- who is handed in where these answered so, before later turns
  abbrev handed_before : HandledCommand T → List (Option (GivenHandler P D)) → List (Turn T P D) → Reply T → Handed B D
  handed_before one given later answer = handed_in handled (record { command = one; answer = answer; given = given } ∷ later)

  -- by a turn that tells the number
  publisher_here : (one : HandledCommand T) (given : List (Option (GivenHandler P D))) (later : List (Turn T P D)) (number : ℕ)
      → (handed_before one given later (reply.PublisherMade number)).publishers number ≡ publisher_by handled one given
  publisher_here one given later number =
      ap (λ (b : Bool). if b then publisher_by handled one given else (handed_in handled later).publishers number)
      (eq-eqb number number refl)

  subscriber_here : (one : HandledCommand T) (given : List (Option (GivenHandler P D))) (later : List (Turn T P D)) (number : ℕ)
      → (handed_before one given later (reply.SubscriberMade number)).subscribers number ≡ subscriber_by one given
  subscriber_here one given later number =
      ap (λ (b : Bool). if b then subscriber_by one given else (handed_in handled later).subscribers number) (eq-eqb number number refl)

  -- nobody by one that doesn't
  publisher_later : (one : HandledCommand T) (given : List (Option (GivenHandler P D))) (later : List (Turn T P D)) (answer : Reply T)
      (made : Made) (number : ℕ) → IsNext made answer → (counted answer made).publishers < number
      → (handed_before one given later answer).publishers number ≡ (handed_in handled later).publishers number
  publisher_later one given later (reply.PublisherMade told) made number next above =
      ap (λ (b : Bool). if b then publisher_by handled one given else (handed_in handled later).publishers number)
      (not_told told made.publishers number next above)
  publisher_later one given later other made number next above = refl

  subscriber_later : (one : HandledCommand T) (given : List (Option (GivenHandler P D))) (later : List (Turn T P D)) (answer : Reply T)
      (made : Made) (number : ℕ) → IsNext made answer → (counted answer made).subscribers < number
      → (handed_before one given later answer).subscribers number ≡ (handed_in handled later).subscribers number
  subscriber_later one given later (reply.SubscriberMade told) made number next above =
      ap (λ (b : Bool). if b then subscriber_by one given else (handed_in handled later).subscribers number)
      (not_told told made.subscribers number next above)
  subscriber_later one given later other made number next above = refl

module _ {T B D P : Type 0}
    (handled : BackpressureStrategy → Option BackpressureAction → DegradationAction → Option P → Option D → B)
    (handed : Handed B D) where
  -- For each port that comes after these by one of these turns it is known who was handed in: who was in these turns.
  pub record AreKnown (all : List (Turn T P D)) (made : Made) : Type 0 where
    pub publishers : (number : ℕ) → made.publishers < number → HasOne (λ (turn : Turn T P D). turn.answer ≡ reply.PublisherMade number) all
        → handed.publishers number ≡ (handed_in handled all).publishers number
    pub subscribers : (number : ℕ) → made.subscribers < number
        → HasOne (λ (turn : Turn T P D). turn.answer ≡ reply.SubscriberMade number) all
        → handed.subscribers number ≡ (handed_in handled all).subscribers number

  -- so it is after one turn
  pub known_later : (one : HandledCommand T) (given : List (Option (GivenHandler P D))) (later : List (Turn T P D)) (answer : Reply T)
      (made : Made) → IsNext made answer → AreKnown (record { command = one; answer = answer; given = given } ∷ later) made
      → AreKnown later (counted answer made)
  known_later one given later answer made next known = record {
    publishers = λ number above has.
        let more = publishers_up made answer in
        known.publishers number (omega (arith, more, above))
        (inr has) ∙ publisher_later handled one given later answer made number next above;
    subscribers = λ number above has.
        let more = subscribers_up made answer in
        known.subscribers number (omega (arith, more, above))
        (inr has) ∙ subscriber_later handled one given later answer made number next above;
  }

module _ {T B D : Type 0} (is_default : T → Type 0)
    (fixed : BackpressureStrategy → Option BackpressureAction → DegradationAction → B)
    (degrades : B → DegradationCause → DegradationInfo → DegradationAction → Type 0)
    (decides : B → BackpressureInfo → BackpressureDecision → Type 0)
    (fixed_reader : DegradationAction → D) (reader_degrades : D → DegradationCause → DegradationInfo → DegradationAction → Type 0)
    (decides_so : DecidesAsFixed fixed degrades decides) (answers_so : AnswersAsFixed fixed_reader reader_degrades)
    (handed : Handed B D) where
  abbrev choices : Choices T
  choices = chosen_by is_default decides degrades reader_degrades handed

  abbrev MayAct : DegradationAction → DegradationAction → Option B → Type 0
  MayAct named action who = MatchOption who (action ≡ named)
      (λ it. (info : DegradationInfo) × degrades it FailedToEstablishConnection info action)

  abbrev MayDecide : ℕ → ℕ → BackpressureDecision → BackpressureDecision → Option B → Type 0
  MayDecide retries elapsed named decision who = MatchOption who (decision ≡ named)
      (λ it. (info : BackpressureInfo) × (info.retries ≡ min retries (2 ^ 64 - 1)) × (info.elapsed_time ≡ elapsed)
      × decides it info decision)

  abbrev MayAnswer : DegradationAction → DegradationAction → Option D → Type 0
  MayAnswer named action who = MatchOption who (action ≡ named)
      (λ it. (info : DegradationInfo) × reader_degrades it FailedToEstablishConnection info action)

  -- who was handed in decides as may be chosen
  publisher_chosen : (who : B) (next : ℕ) (options : PublisherOptions) → handed.publishers next ≡ Some who
      → DecidesAsChosen choices degrades decides who next options
  publisher_chosen who next options is = record {
    failed = λ info action may. subst (MayAct (unwrap_or options.degradation_handler Warn) action) (sym is) (info, may);
    full = λ info decision retries may told.
        subst (MayDecide retries info.elapsed_time
        (decision_of (unwrap_or options.backpressure_strategy RetryUntilDelivered) options.backpressure_handler) decision)
        (sym is) (info, told, refl, may);
  }

  -- so does who is made of actions, where nobody was handed in
  publisher_named : (next : ℕ) (options : PublisherOptions) → handed.publishers next ≡ None
      → DecidesAsChosen choices degrades decides (publisher_handlers fixed options) next options
  publisher_named next options is =
      let strategy = unwrap_or options.backpressure_strategy RetryUntilDelivered in
      let named = unwrap_or options.degradation_handler Warn in record {
        failed = λ info action may.
            subst (MayAct named action) (sym is) (decides_so.failed strategy options.backpressure_handler named action info may);
        full = λ info decision retries may told.
            subst (MayDecide retries info.elapsed_time (decision_of strategy options.backpressure_handler) decision) (sym is)
            (decides_so.full strategy options.backpressure_handler named info decision may);
      }

  -- a subscriber's, whether somebody was handed in or not
  subscriber_chosen : (found : Option D) (next : ℕ) (options : SubscriberOptions) → handed.subscribers next ≡ found
      → AnswersAsChosen choices reader_degrades (subscriber_handler (λ action. unwrap_or found (fixed_reader action)) options) next options
  subscriber_chosen (Some who) next options is info action may =
      subst (MayAnswer (unwrap_or options.degradation_handler Warn) action) (sym is) (info, may)
  subscriber_chosen None next options is info action may =
      let named = unwrap_or options.degradation_handler Warn in
      subst (MayAnswer named action) (sym is) (answers_so named action info may)

module _ {T U B D P : Type 0} (types : MessageTypeDetails) (is_default : T → Type 0)
    (fixed : BackpressureStrategy → Option BackpressureAction → DegradationAction → B)
    (handled : BackpressureStrategy → Option BackpressureAction → DegradationAction → Option P → Option D → B)
    (degrades : B → DegradationCause → DegradationInfo → DegradationAction → Type 0)
    (decides : B → BackpressureInfo → BackpressureDecision → Type 0)
    (fixed_reader : DegradationAction → D) (reader_degrades : D → DegradationCause → DegradationInfo → DegradationAction → Type 0)
    (decides_so : DecidesAsFixed fixed degrades decides) (answers_so : AnswersAsFixed fixed_reader reader_degrades)
    (handed : Handed B D) where
  module _ (one : HandledCommand T) (given : List (Option (GivenHandler P D))) (answer : Reply T) (later : List (Turn T P D))
      (hub : NumberedHub T U B D) (made : Made) (many : AreAsMany hub.made made)
      (known : AreKnown handled handed (record { command = one; answer = answer; given = given } ∷ later) made) where
    -- who was handed in for the publisher that comes
    publisher_known : answer ≡ reply.PublisherMade hub.made.publishers.next
        → handed.publishers hub.made.publishers.next ≡ publisher_by handled one given
    publisher_known is =
        let next = hub.made.publishers.next in
        let so = many.publishers in
        known.publishers next (omega (arith, so)) (inl is)
        ∙ (ap (λ (it : Reply T). (handed_before handled one given later it).publishers next) is
        ∙ publisher_here handled one given later next)

    subscriber_known : answer ≡ reply.SubscriberMade hub.made.subscribers.next
        → handed.subscribers hub.made.subscribers.next ≡ subscriber_by one given
    subscriber_known is =
        let next = hub.made.subscribers.next in
        let so = many.subscribers in
        known.subscribers next (omega (arith, so)) (inl is)
        ∙ (ap (λ (it : Reply T). (handed_before handled one given later it).subscribers next) is
        ∙ subscriber_here handled one given later next)

  -- whoever decides for a port that comes by a command does as may be chosen
  pub comes_chosen : (one : HandledCommand T) (given : List (Option (GivenHandler P D))) (answer : Reply T) (later : List (Turn T P D))
      (hub : NumberedHub T U B D) (made : Made) → AreAsMany hub.made made
      → AreKnown handled handed (record { command = one; answer = answer; given = given } ∷ later) made
      → ComesAsChosen types (chosen_by is_default decides degrades reader_degrades handed) degrades decides reader_degrades
      (without_places one) (fixed_by fixed handled one given) (reader_by fixed_reader one given) hub answer
  comes_chosen (asked.Publisher factory options at_full at_failure) given answer later hub made many known = λ is.
      publisher_chosen is_default fixed degrades decides fixed_reader reader_degrades decides_so answers_so handed _
      hub.made.publishers.next options
      (publisher_known (asked.Publisher factory options at_full at_failure) given answer later hub made many known is)
  comes_chosen (asked.Subscriber factory options at_failure) given answer later hub made many known = λ is.
      subscriber_chosen is_default fixed degrades decides fixed_reader reader_degrades decides_so answers_so handed
      (degradation_of (lies_at at_failure given)) hub.made.subscribers.next options
      (subscriber_known (asked.Subscriber factory options at_failure) given answer later hub made many known is)
  comes_chosen (asked.Plain (command.Publisher factory options)) given answer later hub made many known = λ is.
      publisher_named is_default fixed degrades decides fixed_reader reader_degrades decides_so answers_so handed
      hub.made.publishers.next options
      (publisher_known (asked.Plain (command.Publisher factory options)) given answer later hub made many known is)
  comes_chosen (asked.Plain (command.Subscriber factory options)) given answer later hub made many known = λ is.
      subscriber_chosen is_default fixed degrades decides fixed_reader reader_degrades decides_so answers_so handed None
      hub.made.subscribers.next options
      (subscriber_known (asked.Plain (command.Subscriber factory options)) given answer later hub made many known is)
  comes_chosen (asked.Plain other) given answer later hub made many known = tt

-- Nodes of a recorded hub ask for services, nodes outside it act, and factories are closed.
use Rattle.std.proofs.Common.{◌≡◌, ◌∙◌, ℕ, Bool, true, false, List, [], Option, None, Some, Result, Ok, Err, refl, sym, subst}
use Rattle.iox_command.specs.NegotiateBase.declared.errors.close.CloseError.{CloseError}
use Rattle.iox_command.specs.NegotiateBase.declared.errors.publish_subscribe.PublishSubscribeCreateError.{PublishSubscribeCreateError}
use Rattle.iox_command.specs.NegotiateBase.declared.errors.publish_subscribe.PublishSubscribeOpenError.{PublishSubscribeOpenError}
use Rattle.iox_negotiate_base.specs.declared.errors.publish_subscribe.PublishSubscribeOpenOrCreateError.{PublishSubscribeOpenOrCreateError}
use Rattle.iox_command.specs.declared.command.Command.{Command}
use Rattle.iox_command.specs.declared.command.Command.TheVariants as command
use Rattle.iox_command.specs.declared.refusal.HubError.{HubError}
use Rattle.iox_command.specs.declared.refusal.Refusal.{Refusal}
use Rattle.iox_command.specs.declared.refusal.Refusal.TheVariants as refusal
use Rattle.iox_command.specs.declared.reply.Reply.TheVariants as reply
use Rattle.iox_command.specs.declared.service.PublishSubscribeOptions.{PublishSubscribeOptions}
use Rattle.iox_command.specs.declared.service.ServiceOptions.TheVariants as options
use Rattle.iox_command.specs.declared.step.ForeignStep.{ForeignStep}
use Rattle.iox_container.proofs.Rising.{Rises-push, Rises-removed}
use Rattle.iox_container.specs.NumberTable.{Rises, inserted, value_at}
use Rattle.iox_hub_base.specs.Closing.{Closes, in_use}
use Rattle.iox_hub_base.specs.Hubs.{is_node}
use Rattle.iox_hub_base.specs.declared.hub.Hub.{Hub}
use Rattle.iox_hub_commands.specs.Creating.{CreatesAs, CreatesNumbered}
use Rattle.iox_hub_commands.specs.DescribeBase.Attributes.{Required}
use Rattle.iox_hub_commands.specs.DescribeBase.declared.attribute.Attribute.{Attribute}
use Rattle.iox_hub_commands.specs.DescribeBase.declared.pattern.MessagingPattern.{MessagingPattern}
use Rattle.iox_hub_commands.specs.Either.{EitherAs, EitherNumbered}
use Rattle.iox_hub_commands.specs.Foreign.{ActsNamed}
use Rattle.iox_hub_commands.specs.Opening.{OpensAs, OpensNumbered}
use Rattle.iox_hub_commands.specs.Replies.{factory_reply, foreign_reply}
use Rattle.iox_hub_commands.specs.ServicesTables.{FactoryTable, parts_of}
use Rattle.iox_hub_commands.specs.declared.services.made.MadeFactory.{MadeFactory}
use Rattle.iox_hub_machine.specs.TypedOpening.{CreateIsStep, OpenIsStep, OpenOrCreateIsStep, opened_then}
use Rattle.iox_hub_machine.specs.TypedRuns.{CallsGoOn}
use Rattle.iox_hub_machine.specs.TypedServices.{CloseIsStep, factories_then, told_closed}
use Rattle.iox_hub.proofs.RecordedCame.{told_too}
use Rattle.iox_hub.proofs.RecordedIds.{closes_keeps, creates_keeps, either_keeps, foreign_keeps, opens_keeps}
use Rattle.iox_hub.proofs.RecordedRuns.{AreOfSlices, Recorded, Skips, Steps, by_slices, plain_on, run_on, skipped_on}
use Rattle.iox_hub.specs.Recorded.{Calls, asked_too}
use Rattle.iox_hub.specs.Recording.{OpensIf, calls_closed, calls_opened, numbered}
use Rattle.iox_hub_commands.specs.Terms.{Terms}
use Rattle.iox_hub.specs.Turns.{choices_of}
use Rattle.iox_machine.specs.Choices.{Handed}

module _ {T U B D : Type 0} (terms : Terms T U B D) (of_slices : AreOfSlices terms) (handed : Handed B D) where
  abbrev GoesOn : Type 0
  GoesOn = CallsGoOn terms (choices_of terms handed)

  abbrev Kept : Bool → Calls T → Hub T U B D → Type 0
  Kept fit calls hub
      = Recorded terms of_slices handed fit calls hub

  -- a node asks for a service by a command, which is a step
  module _ {E : Type 0} (asked : Command T) (refused : E → Refusal) (node : ℕ)
      (asks : FactoryTable → Hub T U B D → Result ℕ Refusal → FactoryTable → Hub T U B D → Type 0) (old : Calls T)
      (hub after : Hub T U B D)
      (keeps : (answer : Result ℕ Refusal) (table : FactoryTable) → asks old.factories hub answer table after
      → after.table.id ≡ hub.table.id)
      (steps : (answer : Result ℕ Refusal) (table : FactoryTable) → is_node node hub.nodes ≡ true
      → asks old.factories hub answer table after
      → Steps terms of_slices handed asked (numbered old hub) (factory_reply (Some answer)) (opened_then (numbered old hub) table after))
      (skips : is_node node hub.nodes ≡ false
      → Skips terms of_slices handed asked old hub hub)
    where
      asked_recorded : {fit : Bool} → GoesOn → (answer : Option (Result MadeFactory E))
          → OpensIf refused node asks old.factories hub answer after → Kept fit old hub
          → Kept fit (calls_opened asked refused answer old) after
      asked_recorded {fit} goes_on None (never, same) was =
          subst (λ (it : Hub T U B D). Kept fit (asked_too asked reply.Skipped old) it) (sym same)
          (skipped_on terms of_slices handed goes_on old hub hub asked refl (λ names most state it. skips never) was)
      asked_recorded goes_on (Some (Ok factory)) (there, opens) was =
          let (factories, publishers, subscribers, loans, samples) = was.rise in record {
            rise = (
              Rises-push 1 old.factories.next old.factories.entries factory factories,
              publishers,
              subscribers,
              loans,
              samples,
            );
            id = keeps (Ok old.factories.next) (inserted old.factories factory) opens ∙ was.id;
            all_fit = was.all_fit;
            told = told_too asked (reply.FactoryMade old.factories.next) was.told;
            run = run_on terms of_slices handed goes_on old hub after asked (reply.FactoryMade old.factories.next) old.made
                (inserted old.factories factory) (steps (Ok old.factories.next) (inserted old.factories factory) there opens) was.run;
          }
      asked_recorded goes_on (Some (Err why)) (there, opens) was =
          plain_on terms of_slices handed goes_on old hub after asked (reply.Refused (refused why)) (keeps (Err
          (refused why)) old.factories opens)
          (steps (Err (refused why)) old.factories there opens) was

  module _ (old : Calls T) (hub after : Hub T U B D) (node : ℕ) (name : List ℕ) (named : PublishSubscribeOptions) where
    pub created_recorded : {fit : Bool} → GoesOn
        → CreateIsStep terms (choices_of terms handed)
        → (attributes : List Attribute) (answer : Option (Result MadeFactory PublishSubscribeCreateError))
        → OpensIf refusal.PublishSubscribeCreate node
        (CreatesAs (options.PublishSubscribe named) terms.payload terms.user_header terms.types node name attributes []) old.factories hub
        answer after
        → Kept fit old hub
        → Kept fit (calls_opened (command.Create node name (options.PublishSubscribe named) attributes [])
        refusal.PublishSubscribeCreate answer old) after
    created_recorded goes_on steps attributes answer opens was =
        asked_recorded (command.Create node name (options.PublishSubscribe named) attributes []) refusal.PublishSubscribeCreate node
        (CreatesAs (options.PublishSubscribe named) terms.payload terms.user_header terms.types node name attributes []) old hub after
        (λ answer table creates. creates_keeps terms.payload terms.user_header terms.types node name named attributes old.factories table
        hub after answer creates)
        (λ answer table there creates. steps node name (options.PublishSubscribe named) attributes [] (numbered old hub) after answer table
        there tt creates)
        (λ never. (
          None,
          subst (λ (b : Bool). CreatesNumbered b terms.payload terms.user_header terms.types
              (record { node = node; name = name; options = options.PublishSubscribe named }) attributes [] old.factories hub None
              old.factories hub) (sym never) (refl, refl, refl),
          refl,
          refl,
        )) goes_on answer opens was

    pub opened_recorded : {fit : Bool} → GoesOn
        → OpenIsStep terms (choices_of terms handed)
        → (required : Required) (answer : Option (Result MadeFactory PublishSubscribeOpenError))
        → OpensIf refusal.PublishSubscribeOpen node
        (OpensAs (options.PublishSubscribe named) terms.payload terms.user_header terms.types node name required []) old.factories hub
        answer after
        → Kept fit old hub
        → Kept fit (calls_opened (command.Open node name (options.PublishSubscribe named) required []) refusal.PublishSubscribeOpen answer
        old) after
    opened_recorded goes_on steps required answer opens was =
        asked_recorded (command.Open node name (options.PublishSubscribe named) required []) refusal.PublishSubscribeOpen node
        (OpensAs (options.PublishSubscribe named) terms.payload terms.user_header terms.types node name required []) old hub after
        (λ answer table does. opens_keeps terms.payload terms.user_header terms.types node name named required old.factories table hub after
        answer does)
        (λ answer table there does. steps node name (options.PublishSubscribe named) required [] (numbered old hub) after answer table
        there tt does)
        (λ never. (
          None,
          subst (λ (b : Bool). OpensNumbered b terms.payload terms.user_header terms.types
              (record { node = node; name = name; options = options.PublishSubscribe named }) required [] old.factories hub None
              old.factories hub) (sym never) (refl, refl, refl),
          refl,
          refl,
        )) goes_on answer opens was

    pub either_recorded : {fit : Bool} → GoesOn
        → OpenOrCreateIsStep terms (choices_of terms handed)
        → (required : Required) (answer : Option (Result MadeFactory PublishSubscribeOpenOrCreateError))
        → OpensIf refusal.PublishSubscribeOpenOrCreate node
        (EitherAs (options.PublishSubscribe named) terms.payload terms.user_header terms.types node name required []) old.factories hub
        answer after
        → Kept fit old hub
        → Kept fit (calls_opened (command.OpenOrCreate node name (options.PublishSubscribe named) required [])
        refusal.PublishSubscribeOpenOrCreate answer old) after
    either_recorded goes_on steps required answer opens was =
        asked_recorded (command.OpenOrCreate node name (options.PublishSubscribe named) required [])
        refusal.PublishSubscribeOpenOrCreate node
        (EitherAs (options.PublishSubscribe named) terms.payload terms.user_header terms.types node name required []) old hub after
        (λ answer table does. either_keeps terms.payload terms.user_header terms.types node name named required old.factories table hub
        after answer does)
        (λ answer table there does. steps node name (options.PublishSubscribe named) required [] (numbered old hub) after answer table
        there tt does)
        (λ never. (
          None,
          subst (λ (b : Bool). EitherNumbered b terms.payload terms.user_header terms.types
              (record { node = node; name = name; options = options.PublishSubscribe named }) required [] old.factories hub None
              old.factories hub) (sym never) (refl, refl, refl),
          refl,
          refl,
        )) goes_on answer opens was

  pub foreign_recorded : {fit : Bool} → GoesOn → (old : Calls T) (hub after : Hub T U B D) (kind : MessagingPattern) (name : List ℕ)
      (steps : List ForeignStep) (answer : Result (Unit {0}) HubError) → ActsNamed kind name terms.types steps hub answer after
      → Kept fit old hub → Kept fit (asked_too (command.Foreign kind name steps) (foreign_reply answer) old) after
  foreign_recorded goes_on old hub after kind name steps answer acts was =
      plain_on terms of_slices handed goes_on old hub after (command.Foreign kind name steps) (foreign_reply answer)
      (foreign_keeps kind name terms.types steps hub after answer acts)
      (by_slices terms of_slices handed (command.Foreign kind name steps) (numbered old hub) (numbered old after) (foreign_reply answer) tt
      (λ names most state it. (answer, acts, refl, refl))) was

  -- ---- a factory that is closed

  closed_rises : {F : Type 0} (answer : Result (Unit {0}) (CloseError × Option F)) (number : ℕ) (table : FactoryTable)
      → Rises 1 table.entries table.next → Rises 1 (factories_then answer number table).entries (factories_then answer number table).next
  closed_rises (Ok done) number table rises = Rises-removed number 1 table.next table.entries rises
  closed_rises (Err (why, None)) number table rises = Rises-removed number 1 table.next table.entries rises
  closed_rises (Err (why, Some factory)) number table rises = rises

  pub closed_recorded : {fit : Bool} {F : Type 0} → GoesOn
      → CloseIsStep terms (choices_of terms handed) F
      → (old : Calls T) (hub after : Hub T U B D) (number : ℕ) (made : MadeFactory) (factory : F)
      (answer : Result (Unit {0}) (CloseError × Option F)) → value_at old.factories number ≡ Some made
      → Closes (parts_of made).0 (parts_of made).1 factory hub answer after
      → Kept fit old hub → Kept fit (calls_closed number answer old) after
  closed_recorded goes_on steps old hub after number made factory answer there closes was =
      let (factories, publishers, subscribers, loans, samples) = was.rise in record {
        rise = (closed_rises answer number old.factories factories, publishers, subscribers, loans, samples);
        id = closes_keeps (in_use (parts_of made).0.service.number (parts_of made).1 hub) (parts_of made).0 factory hub after answer closes
            ∙ was.id;
        all_fit = was.all_fit;
        told = told_too (command.Close number) (told_closed answer) was.told;
        run = run_on terms of_slices handed goes_on old hub after (command.Close number) (told_closed answer) old.made
            (factories_then answer number old.factories) (steps number made factory (numbered old hub) after answer there closes) was.run;
      }

-- Two runs that replied to all commands are one run of a new machine.
use Rattle.std.proofs.Common.{◌≡◌, ◌+◌, ◌++◌, ◌∷◌, ◌∙◌, ℕ, Bool, false, List, [], map, MatchOption, Option, None, Some, Result}
use Rattle.std.proofs.Common.{ap, append-nil, arith, refl, subst, sym}
use Rattle.std.specs.Option.{option_map_or}
use Rattle.std.specs.List.{AllByRecursion}
use Rattle.iox_hub.specs.DomainValues.declared.backpressure.BackpressureAction.{BackpressureAction}
use Rattle.iox_hub.specs.DomainValues.declared.backpressure_strategy.BackpressureStrategy.{BackpressureStrategy}
use Rattle.iox_hub.specs.DomainValues.declared.degradation.DegradationAction.{DegradationAction}
use Rattle.iox_hub.specs.DomainValues.declared.port_error.SendError.{SendError}
use Rattle.iox_hub.specs.Delivery.declared.sent.Sent.{Sent}
use Rattle.iox_hub.specs.HandledGoing.{GoesOnWithHandlers, TwoRunsAreOne}
use Rattle.iox_hub.specs.HubBase.declared.hub.HubConfig.{HubConfig}
use Rattle.iox_hub.specs.DescribeBase.declared.message_type.MessageTypeDetails.{MessageTypeDetails}
use Rattle.iox_hub.specs.Machine.Choices.{Choices, Handed}
use Rattle.iox_hub.specs.Machine.Run.{Runs, Step}
use Rattle.iox_hub.specs.Machine.State.{State, new_state}
use Rattle.iox_hub.specs.Turns.{answered_in, asked_in, choices_of, turns, without_places}
use Rattle.iox_hub.specs.declared.given.GivenHandler.{GivenHandler}
use Rattle.iox_hub.specs.declared.handled_command.HandledCommand.{HandledCommand}
use Rattle.iox_hub_commands.specs.Command.declared.command.Command.{Command}
use Rattle.iox_hub_commands.specs.Command.declared.command.Command.TheVariants as command
use Rattle.iox_hub_commands.specs.Command.declared.reply.Reply.{Reply}
use Rattle.iox_hub_commands.specs.Numbers.{IsNew}
use Rattle.iox_hub_commands.specs.Terms.{Terms}
use Rattle.iox_hub_commands.specs.declared.numbered_hub.NumberedHub.{NumberedHub}
use Rattle.iox_hub_machine.specs.GoingOnLaws.{NewHubBegins}
use Rattle.iox_hub_machine.specs.Ran.{StandsAfter}
use Rattle.iox_hub_machine.specs.RunLaws.{AsksAmong, all_asked}
use Rattle.iox_hub_machine.specs.TypedSteps.{told_sent}
use Rattle.example_bus.specs.Joined.{AreOneRun, IsHandledStep}

module _ {T : Type 0} where
  both_asked : (first rest : List (Command T)) → all_asked (first ++ rest) ≡ all_asked first + all_asked rest
  both_asked [] rest = omega arith
  both_asked (asked ∷ first) rest = let both = both_asked first rest in omega (arith, both)

  both_all : (P : Command T → Type 0) (first rest : List (Command T)) → AllByRecursion P (first ++ rest)
      → AllByRecursion P first × AllByRecursion P rest
  both_all P [] rest all = (tt, all)
  both_all P (asked ∷ first) rest all = let (before, behind) = both_all P first rest all.1 in ((all.0, before), behind)

module _ {T : Type 0} (types : MessageTypeDetails) (choices : Choices T) (buffer : ℕ) where
  -- a run after a run
  runs_both : (first second : List (Command T)) (old mid new : State T) (answers told : List (Reply T))
      → Runs types choices buffer first old answers mid → Runs types choices buffer second mid told new
      → Runs types choices buffer (first ++ second) old (answers ++ told) new
  runs_both [] second old mid new answers told (none, same) rest =
      subst (λ (these : List (Reply T)). Runs types choices buffer second old (these ++ told) new) (sym none)
      (subst (λ (from : State T). Runs types choices buffer second from told new) same rest)
  runs_both (one ∷ first) second old mid new answers told (answer, between, more, step, runs, is) rest = (
    answer,
    between,
    more ++ told,
    step,
    runs_both first second between mid new more told runs rest,
    ap (λ (these : List (Reply T)). these ++ told) is,
  )

module _ {B D P : Type 0} (terms : Terms ℕ ℕ B D)
    (handled : BackpressureStrategy → Option BackpressureAction → DegradationAction → Option P → Option D → B) where
  are_one : TwoRunsAreOne terms handled
      → ((handed : Handed B D) → NewHubBegins ℕ terms.types (choices_of terms handed) terms.degrades terms.decides terms.reader_degrades)
      → (config : HubConfig) (old mid new : NumberedHub ℕ ℕ B D) (first second : List (HandledCommand ℕ))
      (given left : List (Option (GivenHandler P D))) (replies told : List (Reply ℕ)) (stopped ended : Bool)
      → IsNew config old → stopped ≡ false → ended ≡ false
      → GoesOnWithHandlers terms handled first old given replies stopped mid
      → GoesOnWithHandlers terms handled second mid left told ended new
      → AreOneRun terms handled config.expired_connection_buffer first given replies [] [] second left told
  are_one law begins config old mid new first second given left replies told stopped ended is_new whole wholly goes later_goes handed
      names decides_so answers_so own asks_all few have also =
      let asked = map (λ (command : HandledCommand ℕ). without_places command) first in
      let later = map (λ (command : HandledCommand ℕ). without_places command) second in
      let (asks, asks_later) = both_all (AsksAmong names) asked later asks_all in
      let both = both_asked asked later in
      let (after, count, most, runs, stands, kept) = law first second old mid new given left replies told
      (subst (λ (is : Bool). GoesOnWithHandlers terms handled first old given replies is mid) whole goes)
      (subst (λ (is : Bool). GoesOnWithHandlers terms handled second mid left told is new) wholly later_goes)
      handed names 0 new_state decides_so answers_so own asks asks_later (omega (arith, both, few)) have also
      (begins handed names config old is_new) in
      let all = asked_in (turns first replies given) ++ asked_in (turns second told left) in (
        all,
        [],
        after,
        sym (append-nil all),
        refl,
        subst (λ (n : ℕ). Runs terms.types (choices_of terms handed) n all new_state
            (answered_in (turns first replies given) ++ answered_in (turns second told left)) after) is_new.expired_connection_buffer runs,
      )

  are_one_around : ((handed : Handed B D)
      → NewHubBegins ℕ terms.types (choices_of terms handed) terms.degrades terms.decides terms.reader_degrades)
      → (config : HubConfig) (old mid there new : NumberedHub ℕ ℕ B D) (first second : List (HandledCommand ℕ))
      (given left : List (Option (GivenHandler P D))) (replies told : List (Reply ℕ)) (stopped ended : Bool)
      (number : ℕ) (values : List ℕ) (said : Reply ℕ)
      → IsNew config old → stopped ≡ false → ended ≡ false
      → GoesOnWithHandlers terms handled first old given replies stopped mid
      → IsHandledStep terms (command.Put number values) mid said there
      → GoesOnWithHandlers terms handled second there left told ended new
      → AreOneRun terms handled config.expired_connection_buffer first given replies (command.Put number values ∷ []) (said ∷ [])
      second left told
  are_one_around begins config old mid there new first second given left replies told stopped ended number values said is_new whole wholly
      goes puts later_goes handed names decides_so answers_so own asks_all few have also =
      let one = command.Put number values in
      let asked = map (λ (command : HandledCommand ℕ). without_places command) first in
      let later = map (λ (command : HandledCommand ℕ). without_places command) second in
      let buffer = config.expired_connection_buffer in
      let choices = choices_of terms handed in
      let asks = both_all (AsksAmong names) asked (one ∷ later) asks_all in
      let both = both_asked asked (one ∷ later) in
      let (between, reached, count, most, runs, stood, kept, skips, same, was_stopped) =
      (subst (λ (is : Bool). GoesOnWithHandlers terms handled first old given replies is mid) whole goes) handed names 0
      new_state decides_so answers_so own asks.0 (omega (arith, both, few)) have (begins handed names config old is_new) in
      let is : reached ≡ mid = same refl in
      let stands = subst (λ (hub : NumberedHub ℕ ℕ B D). StandsAfter terms.types choices terms.degrades terms.decides terms.reader_degrades
      names count hub between) is stood in
      let put = puts handed names count between own tt (omega (arith, both, few, most)) stands in
      let (after, at_last, later_count, little, more, stand, keeps, skipped, equal, was_ended) =
      (subst (λ (is : Bool). GoesOnWithHandlers terms handled second there left told is new) wholly later_goes) handed names
      (count + 1) put.0.after decides_so answers_so own asks.1.1 (omega (arith, both, few, most)) also put.0.stands in
      let first_buffer : mid.hub.expired_connection_buffer ≡ buffer =
      subst (λ (hub : NumberedHub ℕ ℕ B D). hub.hub.expired_connection_buffer ≡ old.hub.expired_connection_buffer) is kept
      ∙ is_new.expired_connection_buffer in
      let before = turns first replies given in
      let behind = turns second told left in (
        asked_in before ++ one ∷ asked_in behind,
        [],
        after,
        sym (append-nil (asked_in before ++ one ∷ asked_in behind)),
        refl,
        runs_both terms.types choices buffer (asked_in before) (one ∷ asked_in behind) new_state between after (answered_in before)
            (said ∷ answered_in behind)
            (subst (λ (n : ℕ). Runs terms.types choices n (asked_in before) new_state (answered_in before) between)
            is_new.expired_connection_buffer runs) (
              said,
              put.0.after,
              answered_in behind,
              subst (λ (n : ℕ). Step terms.types choices n one between said put.0.after) first_buffer put.0.step,
              subst (λ (n : ℕ). Runs terms.types choices n (asked_in behind) put.0.after (answered_in behind) after)
                  (put.1 ∙ first_buffer) more,
              refl,
            ),
      )

  pub are_joined : TwoRunsAreOne terms handled
      → ((handed : Handed B D) → NewHubBegins ℕ terms.types (choices_of terms handed) terms.degrades terms.decides terms.reader_degrades)
      → (config : HubConfig) (old mid there new : NumberedHub ℕ ℕ B D) (first second : List (HandledCommand ℕ))
      (given left : List (Option (GivenHandler P D))) (replies told : List (Reply ℕ)) (stopped ended : Bool)
      (number : ℕ) (values : List ℕ) (sent : Option (Result (Sent ℕ ℕ) SendError))
      → IsNew config old → stopped ≡ false → ended ≡ false
      → GoesOnWithHandlers terms handled first old given replies stopped mid
      → MatchOption sent (there ≡ mid) (λ it. IsHandledStep terms (command.Put number values) mid (told_sent it) there)
      → GoesOnWithHandlers terms handled second there left told ended new
      → AreOneRun terms handled config.expired_connection_buffer first given replies
      (option_map_or (λ (it : Result (Sent ℕ ℕ) SendError). command.Put number values ∷ []) sent [])
      (option_map_or (λ (it : Result (Sent ℕ ℕ) SendError). told_sent it ∷ []) sent []) second left told
  are_joined law begins config old mid there new first second given left replies told stopped ended number values None is_new whole wholly
      goes same later =
      are_one law begins config old mid new first second given left replies told stopped ended is_new whole wholly goes
      (subst (λ (hub : NumberedHub ℕ ℕ B D). GoesOnWithHandlers terms handled second hub left told ended new) same later)
  are_joined law begins config old mid there new first second given left replies told stopped ended number values (Some it) is_new whole
      wholly goes puts later =
      are_one_around begins config old mid there new first second given left replies told stopped ended number values (told_sent it) is_new
      whole wholly goes puts later

-- What a new hub replies to commands with handlers is what a new machine may answer.
use Rattle.std.proofs.Common.{◌≡◌, ◌∙◌, ◌+◌, ◌^◌, ◌<◌, ℕ, ◌++◌, Bool, true, false, List, [], ◌∷◌, map, length, Option, Result, Err, refl}
use Rattle.std.proofs.Common.{sym, ap, subst, inl, inr, drop, arith}
use Rattle.std.specs.declared.alloc.AllocError.{AllocError}
use Rattle.iox_hub_commands.specs.Command.declared.command.Command.{Command}
use Rattle.iox_hub_commands.specs.Command.declared.reply.Reply.{Reply}
use Rattle.iox_hub_commands.specs.DomainValues.declared.backpressure.BackpressureAction.{BackpressureAction}
use Rattle.iox_hub_commands.specs.DomainValues.declared.backpressure_strategy.BackpressureStrategy.{BackpressureStrategy}
use Rattle.iox_hub_commands.specs.DomainValues.declared.degradation.DegradationAction.{DegradationAction}
use Rattle.iox_hub_commands.specs.Grown.{HaveGrown}
use Rattle.iox_hub_commands.specs.HubBase.declared.hub.HubConfig.{HubConfig}
use Rattle.iox_hub_commands.specs.PortRoom.{HasRoom}
use Rattle.iox_hub_commands.specs.Runs.{IsRun, Runs}
use Rattle.iox_hub_commands.specs.declared.numbered_hub.NumberedHub.{NumberedHub}
use Rattle.iox_hub_commands.specs.Terms.{Terms}
use Rattle.iox_hub_machine.proofs.Running.{all_among}
use Rattle.iox_hub_machine.proofs.RunsOn.{new_has_room, new_runs_on}
use Rattle.iox_hub_machine.proofs.Stopping.{one_step, would_give}
use Rattle.iox_hub_machine.specs.GoingOnLaws.{Decided, DecidedRunsGoOn, NewHubBegins}
use Rattle.iox_hub_machine.specs.Ran.{StandsAfter}
use Rattle.iox_hub_machine.specs.RunLaws.{AsksAmong, names_in, steps_named}
use Rattle.iox_hub.proofs.HandledRuns.{as_many, asks_one, before_one, goes, whole_goes}
use Rattle.iox_hub.proofs.RunWords.{grows_by_run}
use Rattle.iox_hub.specs.HandledAnswers.{AnswersWithHandlers}
use Rattle.iox_hub.specs.HandledLaws.{HandledRunsAnswer, HandledRunsStand}
use Rattle.iox_hub.specs.Room.{HandledStepInRoom}
use Rattle.iox_hub.specs.Steps.{HandledStep}
use Rattle.iox_hub.specs.Turns.{answered_in, asked_in, handed_in, turns, without_places}
use Rattle.iox_hub.specs.declared.given.GivenHandler.{GivenHandler}
use Rattle.iox_hub.specs.declared.handled_command.HandledCommand.{HandledCommand}
use Rattle.iox_hub.specs.declared.handled_command.HandledCommand.TheVariants as asked
use Rattle.iox_machine.specs.Choices.{Choices, Handed, chosen_by}
use Rattle.iox_machine.specs.Run as machine
use Rattle.iox_machine.specs.RunLaws.{MessagesAreShort}
use Rattle.iox_machine.specs.State.{State, new_state}
use Rattle.iox_negotiate_machine.specs.Laws.{HaveOwnHashes}

-- ---- where a run stops

never_below : 0 < 0 → ⊥
never_below less = omega (arith, less)

module _ {T : Type 0} where
  -- what is left of commands, without the places that they name
  abbrev left_plainly : ℕ → List (HandledCommand T) → List (Command T)
  left_plainly replied commands = map (λ (command : HandledCommand T). without_places command) (drop replied commands)

  left_behind : (first more : List (HandledCommand T)) → left_plainly (length first) (first ++ more)
      ≡ map (λ (command : HandledCommand T). without_places command) more
  left_behind [] more = refl
  left_behind (one ∷ first) more = left_behind first more

module _ {T S : Type 0} (step : HandledCommand T → S → Result (Reply T) AllocError → S → Type 0) where
  -- a run that doesn't stop leaves nothing
  none_left : (commands : List (HandledCommand T)) (old new : S) (replies : List (Reply T)) → Runs step commands old replies new
      → drop (length replies) commands ≡ []
  none_left [] old new replies runs = ap (λ (these : List (Reply T)). drop (length these) []) runs.0
  none_left (command ∷ commands) old new replies (answer, mid, rest, does, runs, is) =
      ap (λ (these : List (Reply T)). drop (length these) (command ∷ commands)) is ∙ none_left commands mid new rest runs

module _ {T U B D P : Type 0} (terms : Terms T U B D)
    (handled : BackpressureStrategy → Option BackpressureAction → DegradationAction → Option P → Option D → B) where
  abbrev choices_of : Handed B D → Choices T
  choices_of handed = chosen_by terms.is_default terms.decides terms.degrades terms.reader_degrades handed

  abbrev Hubs : Type 0
  Hubs = NumberedHub T U B D × List (Option (GivenHandler P D))

  abbrev InRoom : HandledCommand T → Hubs → Result (Reply T) AllocError → Hubs → Type 0
  InRoom = HandledStepInRoom terms handled

  -- the commands of a run are carried out as `HandledStep` says, and the ports keep their capacity
  plain_runs : (commands : List (HandledCommand T)) (old new : Hubs) (replies : List (Reply T)) → Runs InRoom commands old replies new
      → Runs (HandledStep terms handled) commands old replies new
  plain_runs [] old new replies runs = runs
  plain_runs (one ∷ more) old new replies (answer, mid, rest, step, runs, is) =
      (answer, mid, rest, step.step, plain_runs more mid new rest runs, is)

  room_on : (commands : List (HandledCommand T)) (old new : Hubs) (replies : List (Reply T)) → HaveGrown old.0.hub.services.domains
      → HasRoom old.0 → Runs InRoom commands old replies new → HasRoom new.0
  room_on [] old new replies grown room runs = subst (λ (it : Hubs). HasRoom it.0) (sym runs.1) room
  room_on (one ∷ more) old new replies grown room (answer, mid, rest, step, runs, is) =
      room_on more mid new rest
      (grows_by_run terms handled (one ∷ []) old mid (answer ∷ []) false (answer, mid, [], step.step, (refl, refl), refl) grown)
      (step.room.0 room.0, step.room.1 grown room.1) runs

  module _ (handed : Handed B D) (on : DecidedRunsGoOn terms.types (choices_of handed) terms.degrades terms.decides
      terms.reader_degrades terms.payload terms.user_header terms.is_default_header) (short : MessagesAreShort (choices_of handed))
      (names : List (List ℕ)) (own : HaveOwnHashes names) where
    -- a command without a reply: the machine may give values to it
    gives_at : (one : HandledCommand T) (most : ℕ) (mid new : Hubs) (state : State T) (lacking : AllocError)
        → AsksAmong names (without_places one) → most + (1 + steps_named (without_places one)) < 2 ^ 56
        → StandsAfter terms.types (choices_of handed) terms.degrades terms.decides terms.reader_degrades names most mid.0 state
        → HasRoom mid.0 → InRoom one mid (Err lacking) new
        → machine.MayGiveValues terms.types (choices_of handed) mid.0.hub.expired_connection_buffer (without_places one) state
    gives_at (asked.Plain one) most mid new state lacking asks few stood room lack =
        let ran = stood.ran in
        let numbers = ran.numbers in
        let (commands_so, answers_so, runs_so) = stood.came in
        let (answer, next, step, comes, gives) = would_give terms (choices_of handed) stood.naming stood.order mid.0 new.0 state
        stood.stands.ports ran.grown ran.rise (omega (arith, few, numbers))
        (short terms.types mid.0.hub.expired_connection_buffer commands_so answers_so state runs_so) lacking one lack.step.0
        (lack.lacks room) in
        let plainly : Decided T B D = record { asked = one; fixed = terms.fixed; fixed_reader = terms.fixed_reader } in
        let went = on names most (plainly ∷ []) mid.0 next state (answer ∷ []) false own (asks, tt) (omega (arith, few)) stood
        (answer, next, [], (step, λ told is. comes told), (refl, refl), refl) in
        gives mid.0.hub.expired_connection_buffer state went.after
        (one_step terms.types (choices_of handed) mid.0.hub.expired_connection_buffer one state went.after answer went.runs)
    gives_at (asked.Publisher factory options at_full at_failure) most mid new state lacking asks few stood room lack =
        absurd (lack.lacks room)
    gives_at (asked.Subscriber factory options at_failure) most mid new state lacking asks few stood room lack =
        absurd (lack.lacks room)

  module _ (on : (handed : Handed B D) → DecidedRunsGoOn terms.types (choices_of handed) terms.degrades terms.decides
      terms.reader_degrades terms.payload terms.user_header terms.is_default_header)
      (begins : (handed : Handed B D) → NewHubBegins U terms.types (choices_of handed) terms.degrades terms.decides
      terms.reader_degrades)
      (short : (handed : Handed B D) → MessagesAreShort (choices_of handed)) (config : HubConfig) where
    abbrev Answers : List (HandledCommand T) → Hubs → List (Reply T) → Bool → Type 0
    Answers commands old replies stopped = AnswersWithHandlers terms.types terms.is_default terms.fixed handled terms.degrades
        terms.decides terms.fixed_reader terms.reader_degrades config commands old.0 old.1 replies stopped

    -- a run that replied to all
    whole_answers : (commands : List (HandledCommand T)) (old new : Hubs) (replies : List (Reply T))
        → Runs (HandledStep terms handled) commands old replies new → Answers commands old replies false
    whole_answers commands old new replies runs decides_so answers_so is_new own few =
        let handed : Handed B D = handed_in handled (turns commands replies old.1) in
        let plainly = map (λ (command : HandledCommand T). without_places command) commands in
        let it = whole_goes terms handled decides_so answers_so handed (on handed) (names_in plainly) own commands 0 old new new_state
        replies (all_among plainly) (omega (arith, few))
        (record { publishers = λ number above has. refl; subscribers = λ number above has. refl })
        (begins handed (names_in plainly) config old.0 is_new) runs in (
          (
            asked_in (turns commands replies old.1),
            left_plainly (length replies) commands,
            it.after,
            refl,
            ap (λ (these : List (HandledCommand T)). map (λ (command : HandledCommand T). without_places command) these)
                (none_left (HandledStep terms handled) commands old new replies runs),
            subst (λ (n : ℕ). machine.Runs terms.types (choices_of handed) n (asked_in (turns commands replies old.1)) new_state
                (answered_in (turns commands replies old.1)) it.after) is_new.expired_connection_buffer it.runs,
          ),
          it.skips,
        )

    -- one that never began
    never_answers : (commands : List (HandledCommand T)) (old : Hubs) → 0 < length commands → Answers commands old [] true
    never_answers [] old some = absurd (never_below some)
    never_answers (one ∷ commands) old some = λ decides_so answers_so is_new own few. (
      ([], left_plainly 0 (one ∷ commands), new_state, refl, inl refl, (refl, refl)),
      tt,
    )

    -- one that ended at a command
    ends_answers : (first : List (HandledCommand T)) (one : HandledCommand T) (rest : List (HandledCommand T)) (old mid new : Hubs)
        (replies : List (Reply T)) (lacking : AllocError) → Runs InRoom first old replies mid → InRoom one mid (Err lacking) new
        → Answers (first ++ one ∷ rest) old replies true
    ends_answers first one rest old mid new replies lacking runs lack decides_so answers_so is_new own few =
        let commands : List (HandledCommand T) = first ++ one ∷ rest in
        let all = turns commands replies old.1 in
        let handed : Handed B D = handed_in handled all in
        let plainly = map (λ (command : HandledCommand T). without_places command) commands in
        let names = names_in plainly in
        let it = goes terms handled decides_so answers_so handed (on handed) names own first (one ∷ rest) 0 old mid new_state replies
        (all_among plainly) (omega (arith, few))
        (record { publishers = λ number above has. refl; subscribers = λ number above has. refl })
        (begins handed names config old.0 is_new) (plain_runs first old mid replies runs) in
        let fewer = it.few in
        let before = before_one terms handled decides_so answers_so handed (on handed) names own first one rest in
        let gives = gives_at handed (on handed) (short handed) names own one it.later mid new it.after lacking
        (asks_one terms handled decides_so answers_so handed (on handed) names own first one rest (all_among plainly))
        (omega (arith, few, fewer, before)) it.stands
        (room_on first old mid replies (new_runs_on config old.0 is_new).grown (new_has_room config old.0 is_new) runs) lack in (
          (
            asked_in all,
            left_plainly (length replies) commands,
            it.after,
            refl,
            subst (λ (left : List (Command T)). machine.MayStop terms.types (choices_of handed) config.expired_connection_buffer left
                it.after (answered_in all))
                (sym (ap (λ (n : ℕ). left_plainly n commands)
                (sym (as_many terms handled decides_so answers_so handed (on handed) names own first old mid replies
                (plain_runs first old mid replies runs)))
                ∙ left_behind first (one ∷ rest)))
                (inr (subst (λ (n : ℕ). machine.MayGiveValues terms.types (choices_of handed) n (without_places one) it.after)
                (it.kept ∙ is_new.expired_connection_buffer) gives)),
            subst (λ (n : ℕ). machine.Runs terms.types (choices_of handed) n (asked_in all) new_state (answered_in all) it.after)
                is_new.expired_connection_buffer it.runs,
          ),
          it.skips,
        )

    stopped_answers : (commands : List (HandledCommand T)) (old new : Hubs) (replies : List (Reply T))
        → IsRun InRoom commands old replies true new → Answers commands old replies true
    stopped_answers commands old new replies (inl (some, none, same)) =
        subst (λ (these : List (Reply T)). Answers commands old these true) (sym none) (never_answers commands old some)
    stopped_answers commands old new replies (inr (first, one, rest, mid, lacking, is, runs, lack)) =
        subst (λ (all : List (HandledCommand T)). Answers all old replies true) (sym is)
        (ends_answers first one rest old mid new replies lacking runs lack)

  pub runs_answer : ((handed : Handed B D) → DecidedRunsGoOn terms.types (choices_of handed) terms.degrades terms.decides
      terms.reader_degrades terms.payload terms.user_header terms.is_default_header)
      → ((handed : Handed B D) → NewHubBegins U terms.types (choices_of handed) terms.degrades terms.decides terms.reader_degrades)
      → ((handed : Handed B D) → MessagesAreShort (choices_of handed))
      → HandledRunsAnswer terms handled
  runs_answer on begins short config commands old new replies false runs stops =
      whole_answers on begins short config commands old new replies runs
  runs_answer on begins short config commands old new replies true runs stops =
      stopped_answers on begins short config commands old new replies (stops refl)

  pub runs_stand : ((handed : Handed B D) → DecidedRunsGoOn terms.types (choices_of handed) terms.degrades terms.decides
      terms.reader_degrades terms.payload terms.user_header terms.is_default_header)
      → ((handed : Handed B D) → NewHubBegins U terms.types (choices_of handed) terms.degrades terms.decides terms.reader_degrades)
      → HandledRunsStand terms handled
  runs_stand on begins config commands old new replies runs decides_so answers_so is_new own few =
      let handed : Handed B D = handed_in handled (turns commands replies old.1) in
      let plainly = map (λ (command : HandledCommand T). without_places command) commands in
      let it = whole_goes terms handled
      decides_so answers_so handed (on handed) (names_in plainly) own commands 0 old new new_state replies (all_among plainly)
      (omega (arith, few)) (record { publishers = λ number above has. refl; subscribers = λ number above has. refl })
      (begins handed (names_in plainly) config old.0 is_new) runs in (
        it.stands.taken,
        it.stands.naming,
        it.stands.order,
        it.after,
        subst (λ (n : ℕ). machine.Runs terms.types (choices_of handed) n (asked_in (turns commands replies old.1)) new_state
            (answered_in (turns commands replies old.1)) it.after) is_new.expired_connection_buffer it.runs,
        it.stands.stands,
      )

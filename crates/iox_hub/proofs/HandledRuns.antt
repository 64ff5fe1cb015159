-- A run with handlers is a run of the machine, where those were handed in who were.
use Rattle.std.proofs.Common.{◌≡◌, ◌∙◌, ℕ, ◌+◌, ◌^◌, ◌<◌, ◌≤◌, ◌++◌, Bool, true, false, cond, List, [], ◌∷◌, length, map}
use Rattle.std.proofs.Common.{◌⊎◌, Option, None, Some, Result, Ok, Err, refl, sym, ap, subst, inl, inr, arith}
use Rattle.std.proofs.Math.Logic.{⊎_elim}
use Rattle.std.proofs.lemmas.List.{append-nil}
use Rattle.std.specs.List.{AllByRecursion}
use Rattle.std.specs.Prelude.{is_some, filter}
use Rattle.std.specs.declared.alloc.AllocError.{AllocError}
use Rattle.iox_hub_commands.proofs.OneAgreement.{agreement_is_one}
use Rattle.iox_hub_commands.specs.Command.declared.command.Command.{Command}
use Rattle.iox_hub_commands.specs.Command.declared.command.Command.TheVariants as command
use Rattle.iox_hub_commands.specs.Command.declared.reply.Reply.{Reply}
use Rattle.iox_hub_commands.specs.Command.declared.reply.Reply.TheVariants as reply
use Rattle.iox_hub_commands.specs.CommandSteps.{Step}
use Rattle.iox_hub_commands.specs.Container.NumberTable.{value_at}
use Rattle.iox_hub_commands.specs.DescribeBase.declared.message_type.MessageTypeDetails.{MessageTypeDetails}
use Rattle.iox_hub_commands.specs.Domain.declared.domain.Domain.{Domain}
use Rattle.iox_hub_commands.specs.DomainValues.declared.backpressure.BackpressureAction.{BackpressureAction}
use Rattle.iox_hub_commands.specs.DomainValues.declared.backpressure.BackpressureDecision.{BackpressureDecision}
use Rattle.iox_hub_commands.specs.DomainValues.declared.backpressure.BackpressureInfo.{BackpressureInfo}
use Rattle.iox_hub_commands.specs.DomainValues.declared.backpressure_strategy.BackpressureStrategy.{BackpressureStrategy}
use Rattle.iox_hub_commands.specs.DomainValues.declared.degradation.DegradationAction.{DegradationAction}
use Rattle.iox_hub_commands.specs.DomainValues.declared.degradation.DegradationCause.{DegradationCause}
use Rattle.iox_hub_commands.specs.DomainValues.declared.degradation.DegradationInfo.{DegradationInfo}
use Rattle.iox_hub_commands.specs.HubBase.AsHome.{hub_ports}
use Rattle.iox_hub_commands.specs.HubBase.Opening.{Made as Opened}
use Rattle.iox_hub_commands.specs.HubBase.ServicesAsHome.{ports_if}
use Rattle.iox_hub_commands.specs.Runs.{IsRun, Runs}
use Rattle.iox_hub_commands.specs.Services.{domain_of_factory}
use Rattle.iox_hub_commands.specs.ServicesTables.{publish_subscribe_in}
use Rattle.iox_hub_commands.specs.declared.numbered_hub.NumberedHub.{NumberedHub}
use Rattle.iox_hub_commands.specs.declared.services.made.MadeFactory.{MadeFactory}
use Rattle.iox_hub_commands.specs.declared.services.made.MadeFactory.TheVariants as made
use Rattle.iox_hub_commands.specs.Terms.{Terms}
use Rattle.iox_hub_machine.proofs.ComesServed.{domain_there}
use Rattle.iox_hub_machine.proofs.RunsOn.{step_takes}
use Rattle.iox_hub_machine.specs.ArrivalLaws.{AnswersAsFixed, DecidesAsFixed}
use Rattle.iox_hub_machine.specs.GoingOnLaws.{ComesAsChosen, Decided, DecidedRunsGoOn, DecidedStep, IsOneOn, NewestFits}
use Rattle.iox_hub_machine.specs.Ran.{StandsAfter}
use Rattle.iox_hub_machine.specs.RunLaws.{AsksAmong, all_asked, steps_named}
use Rattle.iox_hub_machine.specs.Standing.{AreAsMany}
use Rattle.iox_hub.proofs.HandledChoices.{AreKnown, comes_chosen, known_later}
use Rattle.iox_hub.proofs.HandledTurns.{PortsAreHere, fixed_by, handled_did, left_by_skipped, left_by_turn, never_some, never_true}
use Rattle.iox_hub.proofs.HandledTurns.{reader_by, same_some}
use Rattle.iox_hub.specs.HandledGoing.{StandsStopped}
use Rattle.iox_hub.specs.Steps.{HandledStep}
use Rattle.iox_hub.specs.Turns.{Turn, answered_in, asked_in, finds_handlers, turns, without_places}
use Rattle.iox_hub.specs.declared.given.GivenHandler.{GivenHandler}
use Rattle.iox_hub.specs.declared.handled_command.HandledCommand.{HandledCommand}
use Rattle.iox_hub.specs.declared.handled_command.HandledCommand.TheVariants as asked
use Rattle.iox_machine.proofs.Counted.{Passes, step-passes}
use Rattle.iox_machine.specs.Choices.{Choices, Handed, chosen_by}
use Rattle.iox_machine.specs.Run as machine
use Rattle.iox_machine.specs.State.{Made, State}
use Rattle.iox_negotiate_machine.specs.Laws.{HaveOwnHashes}

-- ---- turns

module _ {T P D : Type 0} where
  -- there are none before a reply
  pub none_turned : (commands : List (HandledCommand T)) (given : List (Option (GivenHandler P D))) → turns commands [] given ≡ []
  none_turned [] given = refl
  none_turned (one ∷ commands) given = refl

-- ---- what stands for the machine

module _ {T U B D : Type 0} (types : MessageTypeDetails) (choices : Choices T)
    (degrades : B → DegradationCause → DegradationInfo → DegradationAction → Type 0)
    (decides : B → BackpressureInfo → BackpressureDecision → Type 0)
    (reader_degrades : D → DegradationCause → DegradationInfo → DegradationAction → Type 0)
    (names : List (List ℕ)) (most : ℕ) (hub : NumberedHub T U B D) (state : State T)
    (it : StandsAfter types choices degrades decides reader_degrades names most hub state) where
  found_here : (factory : ℕ) (opened : Opened) (one : Option MadeFactory) → value_at hub.factories.made factory ≡ one
      → publish_subscribe_in one ≡ Some opened → is_some (hub_ports (domain_of_factory opened) hub.hub) ≡ true
  found_here factory opened None there is = never_some opened is
  found_here factory opened (Some (made.Event one)) there is = never_some opened is
  found_here factory opened (Some (made.RequestResponse one)) there is = never_some opened is
  found_here factory opened (Some (made.PublishSubscribe one)) there is =
      subst (λ (which : Opened). is_some (hub_ports (domain_of_factory which) hub.hub) ≡ true) (same_some _ opened is)
      (ap (λ (found : Option (Domain T U B D)). is_some (ports_if found))
      (domain_there choices degrades decides reader_degrades names it.taken it.naming it.order hub state it.stands
      (agreement_is_one hub.factories.made hub.hub it.ran.agreed).0 factory (made.PublishSubscribe one) there refl))

  -- the ports of each factory's service are here
  pub all_here : PortsAreHere hub
  all_here factory opened is = found_here factory opened (value_at hub.factories.made factory) refl is

module _ {T U B D P : Type 0} (terms : Terms T U B D)
    (handled : BackpressureStrategy → Option BackpressureAction → DegradationAction → Option P → Option D → B)
    (decides_so : DecidesAsFixed terms.fixed terms.degrades terms.decides)
    (answers_so : AnswersAsFixed terms.fixed_reader terms.reader_degrades) (handed : Handed B D) where
  abbrev pub choices : Choices T
  choices = chosen_by terms.is_default terms.decides terms.degrades terms.reader_degrades handed

  abbrev Handles : HandledCommand T → NumberedHub T U B D × List (Option (GivenHandler P D)) → Result (Reply T) AllocError
      → NumberedHub T U B D × List (Option (GivenHandler P D)) → Type 0
  Handles = HandledStep terms handled

  abbrev pub Stands : List (List ℕ) → ℕ → NumberedHub T U B D → State T → Type 0
  Stands = StandsAfter terms.types choices terms.degrades terms.decides terms.reader_degrades

  abbrev Decides : Decided T B D → NumberedHub T U B D → Result (Reply T) AllocError → NumberedHub T U B D → Type 0
  Decides = DecidedStep terms.types choices terms.degrades terms.decides terms.reader_degrades terms.payload terms.user_header
      terms.is_default_header

  -- the machine's command, and who is made for a port that comes by it
  abbrev decided_by : HandledCommand T → List (Option (GivenHandler P D)) → Decided T B D
  decided_by one given =
      record {
        asked = without_places one;
        fixed = fixed_by terms.fixed handled one given;
        fixed_reader = reader_by terms.fixed_reader one given;
      }

  abbrev pub Known : List (Turn T P D) → State T → Type 0
  Known all state = AreKnown handled handed all state.made

  -- The machine may answer so in its turns, and the hub stands for what it is then; whoever doesn't find handlers is skipped.
  pub record HaveGone (names : List (List ℕ)) (most buffer : ℕ) (all : List (Turn T P D)) (asked : List (Command T)) (state : State T)
      (answers : List (Reply T)) (hub : NumberedHub T U B D) : Type 0 where
    pub after : State T
    pub later : ℕ
    pub few : later ≤ most
    pub runs : machine.Runs terms.types choices buffer asked state answers after
    pub stands : Stands names later hub after
    pub kept : hub.hub.expired_connection_buffer ≡ buffer
    pub skips : AllByRecursion (λ turn. finds_handlers turn.command turn.given ≡ false → turn.answer ≡ reply.Skipped) all

  module _ (on : DecidedRunsGoOn terms.types choices terms.degrades terms.decides terms.reader_degrades terms.payload terms.user_header
      terms.is_default_header) (names : List (List ℕ)) (own : HaveOwnHashes names) where
    abbrev pub asked_plainly : List (HandledCommand T) → List (Command T)
    asked_plainly commands = map (λ (command : HandledCommand T). without_places command) commands

    -- one command
    one_goes : (it : Decided T B D) (most : ℕ) (old new : NumberedHub T U B D) (state : State T) (answer : Reply T)
        → AsksAmong names it.asked → most + (1 + steps_named it.asked) < 2 ^ 56
        → Stands names most old state → Decides it old (Ok answer) new
        → IsOneOn terms.types choices terms.degrades terms.decides terms.reader_degrades names most old.hub.expired_connection_buffer
        it.asked state answer new
    one_goes it most old new state answer asks few stands step =
        let all = on names most (it ∷ []) old new state (answer ∷ []) false own (asks, tt) (omega (arith, few)) stands
        (answer, new, [], step, (refl, refl), refl) in
        let even : most + (1 + steps_named it.asked + 0) ≡ most + (1 + steps_named it.asked) = omega arith in
        let (told, mid, rest, did, (none, same), is) = all.runs in record {
          after = all.after;
          step = subst (λ (one : Reply T). machine.Step terms.types choices old.hub.expired_connection_buffer it.asked state one
              all.after) (sym (same_first answer told [] rest is))
              (subst (λ (one : State T). machine.Step terms.types choices old.hub.expired_connection_buffer it.asked state told one)
              (sym same) did);
          stands = subst (λ (n : ℕ). Stands names n new all.after) even all.stands;
        }
      where
        same_first : (one other : Reply T) (more others : List (Reply T)) → one ∷ more ≡ other ∷ others → one ≡ other
        same_first one other more others e = cc

    -- what is known then
    known_then : (turn : Turn T P D) (later : List (Turn T P D)) (asked : Command T) (buffer : ℕ) (state after : State T)
        → machine.Step terms.types choices buffer asked state turn.answer after → Known (turn ∷ later) state → Known later after
    known_then turn later asked buffer state after step known =
        let passes : Passes state turn.answer after = step-passes terms.types choices buffer asked state turn.answer after step in
        subst (λ (made : Made). AreKnown handled handed later made) (sym passes.made)
        (known_later handled handed turn.command turn.given later turn.answer state.made passes.next known)

    -- what is known where a command was skipped
    known_still : (one : HandledCommand T) (answer : Reply T) (given : List (Option (GivenHandler P D))) (later : List (Turn T P D))
        (made : Made) → answer ≡ reply.Skipped
        → AreKnown handled handed (record { command = one; answer = answer; given = given } ∷ later) made
        → AreKnown handled handed later made
    known_still one answer given later made told known =
        known_later handled handed one given later reply.Skipped made tt
        (subst (λ (it : Reply T). AreKnown handled handed (record { command = one; answer = it; given = given } ∷ later) made) told known)

    abbrev pub Gone : ℕ → ℕ → List (Turn T P D) → State T → NumberedHub T U B D → Type 0
    Gone most buffer all state hub = HaveGone names most buffer all (asked_in all) state (answered_in all) hub

    -- one turn before others, whether the machine takes it, too, or not
    abbrev those : Bool → Turn T P D → List (Turn T P D) → List (Turn T P D)
    those finds turn all =
        cond finds (turn ∷ filter (λ (one : Turn T P D). finds_handlers one.command one.given) all)
        (filter (λ (one : Turn T P D). finds_handlers one.command one.given) all)

    abbrev GoneWith : Bool → ℕ → ℕ → Turn T P D → List (Turn T P D) → State T → NumberedHub T U B D → Type 0
    GoneWith finds most buffer turn all state hub = HaveGone names most buffer (turn ∷ all)
        (map (λ (one : Turn T P D). without_places one.command) (those finds turn all)) state
        (map (λ (one : Turn T P D). one.answer) (those finds turn all)) hub

    -- the machine takes it
    taken_turn : (turn : Turn T P D) (all : List (Turn T P D)) (most buffer : ℕ) (state mid : State T) (hub : NumberedHub T U B D)
        → finds_handlers turn.command turn.given ≡ true
        → machine.Step terms.types choices buffer (without_places turn.command) state turn.answer mid → Gone most buffer all mid hub
        → Gone most buffer (turn ∷ all) state hub
    taken_turn turn all most buffer state mid hub finds step rests =
        subst (λ (b : Bool). GoneWith b most buffer turn all state hub) (sym finds) (record {
          after = rests.after;
          later = rests.later;
          few = rests.few;
          runs = (turn.answer, mid, answered_in all, step, rests.runs, refl);
          stands = rests.stands;
          kept = rests.kept;
          skips = (λ lacks. never_true (sym lacks ∙ finds), rests.skips);
        })

    -- it doesn't
    skipped_turn : (turn : Turn T P D) (all : List (Turn T P D)) (fewer most buffer : ℕ) (state : State T) (hub : NumberedHub T U B D)
        → finds_handlers turn.command turn.given ≡ false → turn.answer ≡ reply.Skipped → fewer ≤ most → Gone fewer buffer all state hub
        → Gone most buffer (turn ∷ all) state hub
    skipped_turn turn all fewer most buffer state hub lacks told less rests =
        let few = rests.few in
        subst (λ (b : Bool). GoneWith b most buffer turn all state hub) (sym lacks) (record {
          after = rests.after;
          later = rests.later;
          few = omega (arith, few, less);
          runs = rests.runs;
          stands = rests.stands;
          kept = rests.kept;
          skips = (λ so. told, rests.skips);
        })

    same_ok : (one other : Reply T) → ◌≡◌ {A = Result (Reply T) AllocError} (Ok one) (Ok other) → one ≡ other
    same_ok one other is = cc

    -- what a command did, whoever is made for a port that comes
    decided_so : (one : HandledCommand T) (old : NumberedHub T U B D × List (Option (GivenHandler P D))) (mid : NumberedHub T U B D)
        (answer : Reply T) (later : List (Turn T P D)) (state : State T) → AreAsMany old.0.made state.made
        → Known (record { command = one; answer = answer; given = old.1 } ∷ later) state
        → Step (record terms { fixed = fixed_by terms.fixed handled one old.1; fixed_reader = reader_by terms.fixed_reader one old.1 })
        (without_places one) old.0 (Ok answer) mid
        → Decides (decided_by one old.1) old.0 (Ok answer) mid
    decided_so one old mid answer later state many known step = (
      step,
      λ told is. subst (λ (it : Reply T). ComesAsChosen terms.types choices terms.degrades terms.decides terms.reader_degrades
          (without_places one) (fixed_by terms.fixed handled one old.1) (reader_by terms.fixed_reader one old.1) old.0 it)
          (same_ok answer told is)
          (comes_chosen terms.types terms.is_default terms.fixed handled terms.degrades terms.decides terms.fixed_reader
          terms.reader_degrades decides_so answers_so handed one old.1 answer later old.0 state.made many known),
    )

    pub goes : (first more : List (HandledCommand T)) (most : ℕ) (old new : NumberedHub T U B D × List (Option (GivenHandler P D)))
        (state : State T) (replies : List (Reply T))
        → AllByRecursion (AsksAmong names) (asked_plainly (first ++ more))
        → most + all_asked (asked_plainly (first ++ more)) < 2 ^ 56
        → Known (turns (first ++ more) replies old.1) state → Stands names most old.0 state
        → Runs Handles first old replies new
        → Gone (most + all_asked (asked_plainly first)) old.0.hub.expired_connection_buffer (turns (first ++ more) replies old.1) state
        new.0
    goes [] more most old new state replies asks few known it (none, same) =
        let is : turns more replies old.1 ≡ [] =
        ap (λ (these : List (Reply T)). turns more these old.1) none ∙ none_turned more old.1 in
        subst (λ (all : List (Turn T P D)). Gone (most + all_asked (asked_plainly [])) old.0.hub.expired_connection_buffer all state
        new.0) (sym is) (record {
          after = state;
          later = most;
          few = omega arith;
          runs = (refl, refl);
          stands = subst (λ (state_then : NumberedHub T U B D × List (Option (GivenHandler P D))). Stands names most state_then.0 state)
              (sym same) it;
          kept = ap (λ (state_then : NumberedHub T U B D × List (Option (GivenHandler P D))).
              state_then.0.hub.expired_connection_buffer) same;
          skips = tt;
        })
    goes (one ∷ first) more most old new state replies asks few known it (answer, mid, rest, step, runs, is) =
        subst (λ (these : List (Reply T)). Gone (most + all_asked (asked_plainly (one ∷ first)))
        old.0.hub.expired_connection_buffer (turns (one ∷ (first ++ more)) these old.1) state new.0) (sym is)
        (⊎_elim
        (λ did.
        let on_one = one_goes (decided_by one old.1) most old.0 mid.0 state answer asks.0 (omega (arith, few)) it
        (decided_so one old mid.0 answer (behind (left_by_turn one answer old.1)) state it.stands.ports.numbers known_now did.step) in
        let takes = step_takes (record terms {
          fixed = fixed_by terms.fixed handled one old.1;
          fixed_reader = reader_by terms.fixed_reader one old.1;
        }) old.0 mid.0 answer (without_places one) did.step in
        let rests = goes first more (most + (1 + steps_named (without_places one))) mid new on_one.after rest asks.1
        (omega (arith, few))
        (subst (λ (given : List (Option (GivenHandler P D))). Known (behind given) on_one.after) (sym did.left)
        (known_then turn (behind (left_by_turn one answer old.1)) (without_places one) old.0.hub.expired_connection_buffer state
        on_one.after on_one.step known_now)) on_one.stands runs in
        let even : most + (1 + steps_named (without_places one)) + all_asked (asked_plainly first)
        ≡ most + all_asked (asked_plainly (one ∷ first)) = omega arith in
        taken_turn turn (behind (left_by_turn one answer old.1)) (most + all_asked (asked_plainly (one ∷ first)))
        old.0.hub.expired_connection_buffer state on_one.after new.0 did.finds on_one.step
        (subst (λ (given : List (Option (GivenHandler P D))). Gone (most + all_asked (asked_plainly (one ∷ first)))
        old.0.hub.expired_connection_buffer (behind given) on_one.after new.0) did.left
        (subst (λ (n : ℕ). Gone (most + all_asked (asked_plainly (one ∷ first))) n (behind mid.1) on_one.after new.0)
        takes.buffer
        (subst (λ (n : ℕ). Gone n mid.0.hub.expired_connection_buffer (behind mid.1) on_one.after new.0) even rests))))
        (λ nothing.
        let left = left_by_skipped one answer old.1 nothing.told in
        let rests = goes first more most old new state rest asks.1 (omega (arith, few))
        (subst (λ (given : List (Option (GivenHandler P D))). Known (behind given) state) left
        (known_still one answer old.1 (behind (left_by_turn one answer old.1)) state.made nothing.told known_now)) it
        (subst (λ (from : NumberedHub T U B D × List (Option (GivenHandler P D))). Runs Handles first from rest new) nothing.same
        runs) in
        skipped_turn turn (behind (left_by_turn one answer old.1)) (most + all_asked (asked_plainly first))
        (most + all_asked (asked_plainly (one ∷ first))) old.0.hub.expired_connection_buffer state new.0 nothing.lacks
        nothing.told (omega arith)
        (subst (λ (given : List (Option (GivenHandler P D))). Gone (most + all_asked (asked_plainly first))
        old.0.hub.expired_connection_buffer (behind given) state new.0) (sym left) rests))
        (handled_did terms handled one old mid answer
        (all_here terms.types choices terms.degrades terms.decides terms.reader_degrades names most old.0 state it) step))
      where
        turn : Turn T P D
        turn = record { command = one; answer = answer; given = old.1 }

        behind : List (Option (GivenHandler P D)) → List (Turn T P D)
        behind given = turns (first ++ more) rest given

        known_now : Known (turn ∷ behind (left_by_turn one answer old.1)) state
        known_now = subst (λ (these : List (Reply T)). Known (turns (one ∷ (first ++ more)) these old.1) state) is known

    -- a run that replied to all
    pub whole_goes : (commands : List (HandledCommand T)) (most : ℕ) (old new : NumberedHub T U B D × List (Option (GivenHandler P D)))
        (state : State T) (replies : List (Reply T)) → AllByRecursion (AsksAmong names) (asked_plainly commands)
        → most + all_asked (asked_plainly commands) < 2 ^ 56 → Known (turns commands replies old.1) state → Stands names most old.0 state
        → Runs Handles commands old replies new
        → Gone (most + all_asked (asked_plainly commands)) old.0.hub.expired_connection_buffer (turns commands replies old.1) state new.0
    whole_goes commands most old new state replies asks few known it runs = whole (append-nil commands) asks few known
      where
        whole : commands ++ [] ≡ commands → AllByRecursion (AsksAmong names) (asked_plainly commands)
            → most + all_asked (asked_plainly commands) < 2 ^ 56 → Known (turns commands replies old.1) state
            → Gone (most + all_asked (asked_plainly commands)) old.0.hub.expired_connection_buffer (turns commands replies old.1) state
            new.0
        whole same = subst (λ (all : List (HandledCommand T)). AllByRecursion (AsksAmong names) (asked_plainly all)
            → most + all_asked (asked_plainly all) < 2 ^ 56 → Known (turns all replies old.1) state
            → Gone (most + all_asked (asked_plainly commands)) old.0.hub.expired_connection_buffer (turns all replies old.1) state new.0)
            same
            (λ asks few known. goes commands [] most old new state replies asks few known it runs)

    -- ---- a run that stopped

    -- the commands before one are fewer than all
    pub before_one : (first : List (HandledCommand T)) (one : HandledCommand T) (rest : List (HandledCommand T))
        → all_asked (asked_plainly first) + (1 + steps_named (without_places one)) ≤ all_asked (asked_plainly (first ++ one ∷ rest))
    before_one [] one rest = omega arith
    before_one (other ∷ first) one rest = let it = before_one first one rest in omega (arith, it)

    -- it asks among the names
    pub asks_one : (first : List (HandledCommand T)) (one : HandledCommand T) (rest : List (HandledCommand T))
        → AllByRecursion (AsksAmong names) (asked_plainly (first ++ one ∷ rest)) → AsksAmong names (without_places one)
    asks_one [] one rest asks = asks.0
    asks_one (other ∷ first) one rest asks = asks_one first one rest asks.1

    -- each has a reply
    pub as_many : (first : List (HandledCommand T)) (old new : NumberedHub T U B D × List (Option (GivenHandler P D)))
        (replies : List (Reply T)) → Runs Handles first old replies new → length first ≡ length replies
    as_many [] old new replies (none, same) = sym (ap (λ (these : List (Reply T)). length these) none)
    as_many (one ∷ first) old new replies (answer, mid, rest, step, runs, is) =
        let so = as_many first mid new rest runs in
        let these = ap (λ (these : List (Reply T)). length these) is in omega (arith, so, these)

    -- what the hub represents where a command has no reply
    abbrev Lacking : ℕ → ℕ → Command T → State T → NumberedHub T U B D → Type 0
    Lacking most buffer one state hub = Stands names most hub state
        ⊎ ((subscriber : ℕ) × (one ≡ command.Receive subscriber)
        × (NewestFits hub → (answer : Reply T) × IsOneOn terms.types choices terms.degrades terms.decides terms.reader_degrades names most
        buffer one state answer hub))

    same_head : (one other : Command T) (more others : List (Command T)) → one ∷ more ≡ other ∷ others → one ≡ other
    same_head one other more others e = cc

    never_two : (one other it : Command T) (more rest : List (Command T)) → one ∷ [] ≡ other ∷ (more ++ it ∷ rest) → ⊥
    never_two one other it [] rest e = cc
    never_two one other it (next ∷ more) rest e = cc

    -- of one command, the first without a reply is this one
    of_one : (most buffer : ℕ) (one : Command T) (first : List (Command T)) (it : Command T) (rest : List (Command T))
        (state after : State T) (hub : NumberedHub T U B D) → one ∷ [] ≡ first ++ it ∷ rest
        → machine.Runs terms.types choices buffer first state [] after → Lacking (most + all_asked first) buffer it after hub
        → Lacking most buffer one state hub
    of_one most buffer one [] it rest state after hub are (none, same) lacks =
        let even : most + all_asked {T = T} [] ≡ most = omega arith in
        subst (λ (n : ℕ). Lacking n buffer one state hub) even
        (subst (λ (from : State T). Lacking (most + all_asked {T = T} []) buffer one from hub) same
        (subst (λ (asked : Command T). Lacking (most + all_asked {T = T} []) buffer asked after hub) (sym (same_head one it [] rest are))
        lacks))
    of_one most buffer one (other ∷ first) it rest state after hub are runs lacks = absurd (never_two one other it first rest are)

    no_reply : (lacking : AllocError) (told : Reply T) → ◌≡◌ {A = Result (Reply T) AllocError} (Err lacking) (Ok told) → ⊥
    no_reply lacking told is = cc

    -- a command without a reply
    lacks_goes : (one : HandledCommand T) (most : ℕ) (old new : NumberedHub T U B D × List (Option (GivenHandler P D))) (state : State T)
        (lacking : AllocError) → AsksAmong names (without_places one) → most + (1 + steps_named (without_places one)) < 2 ^ 56
        → Stands names most old.0 state → Handles one old (Err lacking) new
        → Lacking most old.0.hub.expired_connection_buffer (without_places one) state new.0
    lacks_goes (asked.Plain one) most old new state lacking asks few it lacks =
        let plainly : Decided T B D = record { asked = one; fixed = terms.fixed; fixed_reader = terms.fixed_reader } in
        let until = on names most (plainly ∷ []) old.0 new.0 state [] true own (asks, tt) (omega (arith, few)) it
        (inr ([], plainly, [], old.0, lacking, refl, (refl, refl), (lacks.0, λ told is. absurd (no_reply lacking told is)))) in
        of_one most old.0.hub.expired_connection_buffer one until.first until.asked until.rest state until.after new.0 until.are until.runs
        until.stands
    lacks_goes (asked.Publisher factory options at_full at_failure) most old new state lacking asks few it lacks = absurd lacks
    lacks_goes (asked.Subscriber factory options at_failure) most old new state lacking asks few it lacks = absurd lacks

    -- more commands may have been asked
    abbrev widened : (fewer most buffer : ℕ) (all : List (Turn T P D)) (state : State T) (hub : NumberedHub T U B D)
        → (it : Gone fewer buffer all state hub) → it.later ≤ most → Gone most buffer all state hub
    widened fewer most buffer all state hub it few = record {
      after = it.after;
      later = it.later;
      few = few;
      runs = it.runs;
      stands = it.stands;
      kept = it.kept;
      skips = it.skips;
    }

    -- A run that stopped: up to the hub that it came to before, and what the hub after it represents.
    abbrev pub Stopped : ℕ → List (HandledCommand T) → NumberedHub T U B D × List (Option (GivenHandler P D)) → State T → List (Reply T)
        → NumberedHub T U B D → Type 0
    Stopped most commands old state replies new = (hub : NumberedHub T U B D)
        × (it : Gone (most + all_asked (asked_plainly commands)) old.0.hub.expired_connection_buffer (turns commands replies old.1) state
        hub)
        × StandsStopped terms handled handed names it.later old.0.hub.expired_connection_buffer commands replies new it.after

    pub stopped_goes : (commands : List (HandledCommand T)) (most : ℕ) (old new : NumberedHub T U B D × List (Option (GivenHandler P D)))
        (state : State T) (replies : List (Reply T)) → AllByRecursion (AsksAmong names) (asked_plainly commands)
        → most + all_asked (asked_plainly commands) < 2 ^ 56 → Known (turns commands replies old.1) state → Stands names most old.0 state
        → IsRun Handles commands old replies true new → Stopped most commands old state replies new.0
    stopped_goes commands most old new state replies asks few known it (inl (some, none, same)) =
        let gone = goes [] commands most old old state replies asks few known it (none, refl) in
        let fewer = gone.few in (
          old.0,
          widened (most + all_asked (asked_plainly [])) (most + all_asked (asked_plainly commands)) old.0.hub.expired_connection_buffer
              (turns commands replies old.1) state old.0 gone (omega (arith, fewer)),
          inl (subst (λ (to : NumberedHub T U B D × List (Option (GivenHandler P D))). Stands names gone.later to.0 gone.after) (sym same)
              gone.stands),
        )
    stopped_goes commands most old new state replies asks few known it (inr (first, one, rest, mid, lacking, is, runs, lack)) =
        until (sym is) asks few known
      where
        until : first ++ one ∷ rest ≡ commands → AllByRecursion (AsksAmong names) (asked_plainly commands)
            → most + all_asked (asked_plainly commands) < 2 ^ 56 → Known (turns commands replies old.1) state
            → Stopped most commands old state replies new.0
        until same = subst (λ (all : List (HandledCommand T)). AllByRecursion (AsksAmong names) (asked_plainly all)
            → most + all_asked (asked_plainly all) < 2 ^ 56 → Known (turns all replies old.1) state
            → Stopped most all old state replies new.0) same
            (λ asks few known.
            let gone = goes first (one ∷ rest) most old mid state replies asks few known it runs in
            let fewer = gone.few in
            let room = before_one first one rest in (
              mid.0,
              widened (most + all_asked (asked_plainly first)) (most + all_asked (asked_plainly (first ++ one ∷ rest)))
                  old.0.hub.expired_connection_buffer (turns (first ++ one ∷ rest) replies old.1) state mid.0 gone
                  (omega (arith, fewer, room)),
              ⊎_elim (λ stands. inl stands)
                  (λ receives. inr (first, one, rest, receives.0, refl, as_many first old mid replies runs, receives.1, receives.2))
                  (subst (λ (n : ℕ). Lacking gone.later n (without_places one) gone.after new.0) gone.kept
                  (lacks_goes one gone.later mid new gone.after lacking (asks_one first one rest asks) (omega (arith, few, fewer, room))
                  gone.stands lack)),
            ))

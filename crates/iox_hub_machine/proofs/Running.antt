-- A run of a hub is a run of the machine, where each command is followed.
use Rattle.std.proofs.Common.{◌≡◌, ℕ, suc, ◌+◌, ◌^◌, ◌<◌, Bool, true, false, List, [], ◌∷◌, ◌++◌, length, Option, Result, Ok}
use Rattle.std.proofs.Common.{refl, sym, ap, subst, ◌∙◌, inl, inr, arith}
use Rattle.std.proofs.Math.Logic.{⊎_elim}
use Rattle.std.proofs.lemmas.List.{append-nil}
use Rattle.std.specs.List.{AllByRecursion, IsAmong}
use Rattle.std.specs.declared.alloc.AllocError.{AllocError}
use Rattle.iox_command.specs.DomainValues.declared.backpressure.BackpressureAction.{BackpressureAction}
use Rattle.iox_command.specs.DomainValues.declared.backpressure.BackpressureDecision.{BackpressureDecision}
use Rattle.iox_command.specs.DomainValues.declared.backpressure.BackpressureInfo.{BackpressureInfo}
use Rattle.iox_command.specs.DomainValues.declared.backpressure_strategy.BackpressureStrategy.{BackpressureStrategy}
use Rattle.iox_command.specs.DomainValues.declared.degradation.DegradationAction.{DegradationAction}
use Rattle.iox_command.specs.DomainValues.declared.degradation.DegradationCause.{DegradationCause}
use Rattle.iox_command.specs.DomainValues.declared.degradation.DegradationInfo.{DegradationInfo}
use Rattle.iox_command.specs.NegotiateBase.DescribeBase.Detail.{Detail}
use Rattle.iox_command.specs.NegotiateBase.DescribeBase.declared.message_type.MessageTypeDetails.{MessageTypeDetails}
use Rattle.iox_command.specs.NegotiateBase.DescribeBase.declared.pattern.MessagingPattern.{MessagingPattern}
use Rattle.iox_command.specs.declared.command.Command.{Command}
use Rattle.iox_command.specs.declared.command.Command.TheVariants as command
use Rattle.iox_command.specs.declared.reply.Reply.{Reply}
use Rattle.iox_domain.specs.declared.ports.service_ports.ServicePorts.{ServicePorts}
use Rattle.iox_domain_machine.specs.Naming.{Naming}
use Rattle.iox_hub_base.specs.declared.hub.HubConfig.{HubConfig}
use Rattle.iox_hub_commands.specs.CommandSteps as hub
use Rattle.iox_hub_commands.specs.PortRoom.{HasRoom}
use Rattle.iox_hub_commands.specs.Runs as hub_runs
use Rattle.iox_hub_commands.specs.Numbers.{IsNew}
use Rattle.iox_hub_commands.specs.Runs.{IsRun}
use Rattle.iox_hub_commands.specs.declared.numbered_hub.NumberedHub.{NumberedHub}
use Rattle.iox_hub_commands.specs.declared.room.Pledged.{Pledged}
use Rattle.iox_hub_commands.specs.Terms.{Terms}
use Rattle.iox_hub_machine.proofs.Going.{same_stands}
use Rattle.iox_hub_machine.proofs.Lacking.{lacks}
use Rattle.iox_hub_machine.proofs.NamedLater.{all_named, by_actions, own_commands, run_chosen}
use Rattle.iox_hub_machine.proofs.RunsOn.{new_has_room, new_runs_on, step_runs_on, step_takes}
use Rattle.iox_hub_machine.proofs.Stopping.{one_step, would_give}
use Rattle.iox_hub_machine.specs.ClosingLaws.{IsCome}
use Rattle.iox_hub_machine.specs.GoingOnLaws.{AreAllOn, ComesAsChosen, Decided, DecidedRunsGoOn, DecidedStep, IsOnUntil, IsOneOn}
use Rattle.iox_hub_machine.specs.GoingOnLaws.{RunGoesOn, RunsGoOn, asked_of, NewHubBegins, decided_terms}
use Rattle.iox_hub_machine.specs.ArrivalLaws.{AnswersAsFixed, DecidesAsFixed}
use Rattle.iox_hub_machine.specs.Ran.{RanAtMost, StandsAfter}
use Rattle.iox_hub_machine.specs.RunLaws.{AsksAmong, RunAnswers, RunStands, all_asked, names_in, steps_named}
use Rattle.iox_hub_machine.specs.ServiceLaws.{IsFollowed}
use Rattle.iox_hub_machine.specs.Services.{HubStandsFor}
use Rattle.iox_machine.specs.Choices.{Choices, as_named}
use Rattle.iox_machine.specs.Run as machine
use Rattle.iox_machine.specs.RunLaws.{MessagesAreShort}
use Rattle.iox_machine.specs.State.{State, new_state}
use Rattle.iox_negotiate_machine.specs.Laws.{HaveOwnHashes}

-- ---- what is asked

never_below : 0 < 0 → ⊥
never_below less = omega (arith, less)

first_among : (name : List ℕ) (names : List (List ℕ)) → IsAmong (name ∷ names) name
first_among name names = (0, (omega arith, refl))

later_among : (other name : List ℕ) (names : List (List ℕ)) → IsAmong names name → IsAmong (other ∷ names) name
later_among other name names (place, (within, is)) = (suc place, (omega (arith, within), is))

module _ {T : Type 0} where
  its_own : (asked : Command T) (more : List (Command T)) → AsksAmong (names_in (asked ∷ more)) asked
  its_own (command.Create node name options attributes steps) more = first_among name (names_in more)
  its_own (command.Open node name options required steps) more = first_among name (names_in more)
  its_own (command.OpenOrCreate node name options required steps) more = first_among name (names_in more)
  its_own (command.Foreign pattern name steps) more = first_among name (names_in more)
  its_own other more = tt

  wider : (asked : Command T) (name : List ℕ) (more : List (Command T)) → IsAmong (names_in more) name
      → IsAmong (names_in (asked ∷ more)) name
  wider (command.Create node other options attributes steps) name more among = later_among other name (names_in more) among
  wider (command.Open node other options required steps) name more among = later_among other name (names_in more) among
  wider (command.OpenOrCreate node other options required steps) name more among = later_among other name (names_in more) among
  wider (command.Foreign pattern other steps) name more among = later_among other name (names_in more) among
  wider other name more among = among

  asks_wider : (one asked : Command T) (more : List (Command T)) → AsksAmong (names_in more) asked
      → AsksAmong (names_in (one ∷ more)) asked
  asks_wider one (command.Create node name options attributes steps) more among = wider one name more among
  asks_wider one (command.Open node name options required steps) more among = wider one name more among
  asks_wider one (command.OpenOrCreate node name options required steps) more among = wider one name more among
  asks_wider one (command.Foreign pattern name steps) more among = wider one name more among
  asks_wider one other more among = tt

  all_wider : (one : Command T) (commands more : List (Command T)) → AllByRecursion (AsksAmong (names_in more)) commands
      → AllByRecursion (AsksAmong (names_in (one ∷ more))) commands
  all_wider one [] more all = tt
  all_wider one (asked ∷ commands) more all = (asks_wider one asked more all.0, all_wider one commands more all.1)

  -- the names of commands are those for which they ask
  pub all_among : (commands : List (Command T)) → AllByRecursion (AsksAmong (names_in commands)) commands
  all_among [] = tt
  all_among (asked ∷ more) = (its_own asked more, all_wider asked more more (all_among more))

  pub both_asked : (first rest : List (Command T)) → all_asked (first ++ rest) ≡ all_asked first + all_asked rest
  both_asked [] rest = omega arith
  both_asked (asked ∷ first) rest = let both = both_asked first rest in omega (arith, both)

  both_of : {B D : Type 0} (first rest : List (Decided T B D)) → asked_of (first ++ rest) ≡ asked_of first ++ asked_of rest
  both_of [] rest = refl
  both_of (one ∷ first) rest = ap (λ (them : List (Command T)). one.asked ∷ them) (both_of first rest)

  both_all : (P : Command T → Type 0) (first rest : List (Command T)) → AllByRecursion P (first ++ rest)
      → AllByRecursion P first × AllByRecursion P rest
  both_all P [] rest all = (tt, all)
  both_all P (asked ∷ first) rest all = let (before, behind) = both_all P first rest all.1 in ((all.0, before), behind)

-- ---- runs

module _ {T : Type 0} (types : MessageTypeDetails) (choices : Choices T) (buffer : ℕ) where
  pub came_by : (first : List (Command T)) (asked : Command T) (old mid new : State T) (answers : List (Reply T)) (answer : Reply T)
      → machine.Runs types choices buffer first old answers mid → machine.Step types choices buffer asked mid answer new
      → machine.Runs types choices buffer (first ++ asked ∷ []) old (answers ++ answer ∷ []) new
  came_by [] asked old mid new answers answer (none, same) step = (
    answer,
    new,
    [],
    subst (λ (it : State T). machine.Step types choices buffer asked it answer new) same step,
    (refl, refl),
    ap (λ (all : List (Reply T)). all ++ answer ∷ []) none,
  )
  came_by (one ∷ first) asked old mid new answers answer (its, between, others, did, runs, is) step = (
    its,
    between,
    others ++ answer ∷ [],
    did,
    came_by first asked between mid new others answer runs step,
    ap (λ (all : List (Reply T)). all ++ answer ∷ []) is,
  )

  -- a state to which one command more leads
  pub came_more : (asked : Command T) (old new : State T) (answer : Reply T) → IsCome types choices buffer old
      → machine.Step types choices buffer asked old answer new → IsCome types choices buffer new
  came_more asked old new answer (commands, answers, runs) step =
      (commands ++ asked ∷ [], answers ++ answer ∷ [], came_by commands asked new_state old new answers answer runs step)

module _ {T U B D : Type 0} where
  -- A hub may be asked a command that names n steps: fewer than 2 ^ 56 commands and steps are asked with it.
  abbrev pub MayBeAsked : ℕ → NumberedHub T U B D → Type 0
  MayBeAsked steps hub = (most : ℕ) × RanAtMost most hub × (most + (1 + steps) < 2 ^ 56)

module _ {T U B D : Type 0} (payload user_header : Detail) (types : MessageTypeDetails) (choices : Choices T)
    (is_default_header : U → Type 0)
    (degrades : B → DegradationCause → DegradationInfo → DegradationAction → Type 0)
    (decides : B → BackpressureInfo → BackpressureDecision → Type 0)
    (reader_degrades : D → DegradationCause → DegradationInfo → DegradationAction → Type 0) where
  -- the terms of a hub, where these decide for a port that comes
  abbrev terms_by : (BackpressureStrategy → Option BackpressureAction → DegradationAction → B) → (DegradationAction → D) → Terms T U B D
  terms_by = decided_terms types choices degrades decides reader_degrades payload user_header is_default_header

  -- Each command is followed, whoever decides for a port that comes by it, from a hub that may be asked so, and stands for what a run of
  -- a new machine led to.
  abbrev pub EachFollows : Type 0
  EachFollows = (fixed : BackpressureStrategy → Option BackpressureAction → DegradationAction → B) (fixed_reader : DegradationAction → D)
      (names : List (List ℕ)) (asked : Command T) (taken : MessagingPattern → List ℕ → List ℕ) (naming : ℕ → Naming)
      (order : List (ℕ × ServicePorts T U)) (old new : NumberedHub T U B D) (state : State T) (answer : Reply T)
      → HaveOwnHashes names → AsksAmong names asked
      → ComesAsChosen types choices degrades decides reader_degrades asked fixed fixed_reader old answer
      → MayBeAsked (steps_named asked) old
      → IsCome types choices old.hub.expired_connection_buffer state
      → HubStandsFor choices degrades decides reader_degrades names taken naming order old state
      → hub.Step (terms_by fixed fixed_reader) asked old (Ok answer) new
      → IsFollowed (terms_by fixed fixed_reader) choices names asked old new state answer

  abbrev Steps : Decided T B D → NumberedHub T U B D → Result (Reply T) AllocError → NumberedHub T U B D → Type 0
  Steps = DecidedStep types choices degrades decides reader_degrades payload user_header is_default_header

  abbrev Stands : List (List ℕ) → ℕ → NumberedHub T U B D → State T → Type 0
  Stands = StandsAfter types choices degrades decides reader_degrades

  abbrev OneOn : List (List ℕ) → ℕ → ℕ → Command T → State T → Reply T → NumberedHub T U B D → Type 0
  OneOn = IsOneOn types choices degrades decides reader_degrades

  abbrev AllOn : List (List ℕ) → ℕ → ℕ → List (Command T) → State T → List (Reply T) → NumberedHub T U B D → Type 0
  AllOn = AreAllOn types choices degrades decides reader_degrades

  abbrev OnUntil : List (List ℕ) → ℕ → ℕ → List (Command T) → State T → List (Reply T) → NumberedHub T U B D → Type 0
  OnUntil = IsOnUntil types choices degrades decides reader_degrades

  -- the config stays
  buffer_stays : (commands : List (Decided T B D)) (old new : NumberedHub T U B D) (replies : List (Reply T))
      → hub_runs.Runs Steps commands old replies new → new.hub.expired_connection_buffer ≡ old.hub.expired_connection_buffer
  buffer_stays [] old new replies runs = ap (λ (it : NumberedHub T U B D). it.hub.expired_connection_buffer) runs.1
  buffer_stays (asked ∷ more) old new replies (reply, mid, rest, step, runs, is) =
      buffer_stays more mid new rest runs
      ∙ (step_takes (terms_by asked.fixed asked.fixed_reader) old mid reply asked.asked step.0).buffer

  -- what is pledged isn't looked at
  repledged : (names : List (List ℕ)) (most : ℕ) (old : NumberedHub T U B D) (state : State T) (pledged : Pledged)
      → Stands names most old state → Stands names most (record old { pledged = pledged }) state
  repledged names most old state pledged it =
      let factories = it.stands.factories in
      let ran = it.ran in record {
        taken = it.taken;
        naming = it.naming;
        order = it.order;
        stands = record {
          nodes = it.stands.nodes;
          table = it.stands.table;
          id = it.stands.id;
          factories = record {
            numbers = factories.numbers;
            owners = factories.owners;
            same = factories.same;
            each = factories.each;
            seats = factories.seats;
            counts = factories.counts;
            opened = factories.opened;
          };
          served = it.stands.served;
          ports = same_stands choices degrades decides reader_degrades it.naming it.order old state it.stands.ports 0
              (record old { pledged = pledged }) refl refl;
        };
        came = it.came;
        ran = record {
          grown = ran.grown;
          rise = ran.rise;
          agreed = ran.agreed;
          services = ran.services;
          counts = ran.counts;
          nodes = ran.nodes;
          numbers = ran.numbers;
          locks = ran.locks;
          ports = ran.ports;
        };
      }

  module _ (each : EachFollows) (names : List (List ℕ)) (own : HaveOwnHashes names) where
    one_on : (it : Decided T B D) (most : ℕ) (old new : NumberedHub T U B D) (state : State T) (answer : Reply T)
        → AsksAmong names it.asked → most + (1 + steps_named it.asked) < 2 ^ 56
        → Stands names most old state → Steps it old (Ok answer) new
        → OneOn names most old.hub.expired_connection_buffer it.asked state answer new
    one_on it most old new state answer asks few stood (step, chosen) =
        let followed = each it.fixed it.fixed_reader names it.asked stood.taken stood.naming stood.order old new state answer own asks
        (chosen answer refl) (most, stood.ran, few) stood.came stood.stands step in
        let takes = step_takes (terms_by it.fixed it.fixed_reader) old new answer it.asked step in record {
          after = followed.after;
          step = followed.step;
          stands = record {
            taken = followed.taken;
            naming = followed.naming;
            order = followed.order;
            stands = followed.stands;
            came = subst (λ (buffer : ℕ). IsCome types choices buffer followed.after) (sym takes.buffer)
                (came_more types choices old.hub.expired_connection_buffer it.asked state followed.after answer stood.came followed.step);
            ran = step_runs_on (terms_by it.fixed it.fixed_reader) old new answer most it.asked step stood.ran;
          };
        }

    all_on : (commands : List (Decided T B D)) (most : ℕ) (old new : NumberedHub T U B D) (state : State T) (replies : List (Reply T))
        → AllByRecursion (AsksAmong names) (asked_of commands)
        → most + all_asked (asked_of commands) < 2 ^ 56 → Stands names most old state → hub_runs.Runs Steps commands old replies new
        → AllOn names most old.hub.expired_connection_buffer (asked_of commands) state replies new
    all_on [] most old new state replies asks few it runs =
        let even : most ≡ most + 0 = omega arith in record {
          after = state;
          runs = (runs.0, refl);
          stands = subst (λ (n : ℕ). Stands names n new state) even
              (subst (λ (hub : NumberedHub T U B D). Stands names most hub state) (sym runs.1) it);
        }
    all_on (asked ∷ more) most old new state replies asks few it (reply, mid, rest, step, runs, is) =
        let one = one_on asked most old mid state reply asks.0 (omega (arith, few)) it step in
        let later = all_on more (most + (1 + steps_named asked.asked)) mid new one.after rest asks.1 (omega (arith, few)) one.stands
        runs in
        let takes = step_takes (terms_by asked.fixed asked.fixed_reader) old mid reply asked.asked step.0 in
        let even : most + (1 + steps_named asked.asked) + all_asked (asked_of more)
        ≡ most + (1 + steps_named asked.asked + all_asked (asked_of more))
        = omega arith in record {
          after = later.after;
          runs = (
            reply,
            one.after,
            rest,
            one.step,
            subst (λ (n : ℕ). machine.Runs types choices n (asked_of more) one.after rest later.after) takes.buffer later.runs,
            is,
          );
          stands = subst (λ (n : ℕ). Stands names n new later.after) even later.stands;
        }

    -- a run that never began
    before_all : (commands : List (Decided T B D)) (most : ℕ) (old new : NumberedHub T U B D) (state : State T) (replies : List (Reply T))
        → Stands names most old state → hub_runs.NeverBegins Steps commands old replies new
        → OnUntil names most old.hub.expired_connection_buffer (asked_of commands) state replies new
    before_all [] most old new state replies it (some, none, same) = absurd (never_below some)
    before_all (asked ∷ more) most old new state replies it (some, none, same) =
        let even : most ≡ most + 0 = omega arith in record {
          first = [];
          asked = asked.asked;
          rest = asked_of more;
          are = refl;
          after = state;
          runs = (none, refl);
          stands = inl (subst (λ (n : ℕ). Stands names n new state) even
              (subst (λ (hub : NumberedHub T U B D). Stands names most hub state) (sym same) it));
        }

    until : (commands : List (Decided T B D)) (most : ℕ) (old new : NumberedHub T U B D) (state : State T) (replies : List (Reply T))
        → AllByRecursion (AsksAmong names) (asked_of commands)
        → most + all_asked (asked_of commands) < 2 ^ 56 → Stands names most old state → hub_runs.EndsAt Steps commands old replies new
        → OnUntil names most old.hub.expired_connection_buffer (asked_of commands) state replies new
    until commands most old new state replies asks few it (first, asked, rest, mid, lacking, is, runs, lack) =
        let are = ap (λ (them : List (Decided T B D)). asked_of them) is ∙ both_of first (asked ∷ rest) in
        let (asks_first, asks_rest) = both_all (AsksAmong names) (asked_of first) (asked.asked ∷ asked_of rest)
        (subst (AllByRecursion (AsksAmong names)) are asks) in
        let all = ap (λ (them : List (Command T)). all_asked them) are in
        let both = both_asked (asked_of first) (asked.asked ∷ asked_of rest) in
        let went = all_on first most old mid state replies asks_first (omega (arith, few, all, both)) it runs in
        let same = buffer_stays first old mid replies runs in record {
          first = asked_of first;
          asked = asked.asked;
          rest = asked_of rest;
          are = are;
          after = went.after;
          runs = went.runs;
          stands = ⊎_elim
              (λ only. inl (subst (λ (hub : NumberedHub T U B D). Stands names (most + all_asked (asked_of first)) hub went.after)
              (sym only)
              (repledged names (most + all_asked (asked_of first)) mid went.after new.pledged went.stands)))
              (λ (subscriber, receives, might). inr (
                subscriber,
                receives,
                λ fit.
                    let (answer, did) = might fit in (
                      answer,
                      subst (λ (buffer : ℕ). OneOn names (most + all_asked (asked_of first)) buffer asked.asked went.after answer new) same
                          (one_on asked (most + all_asked (asked_of first)) mid new went.after answer asks_rest.0
                          (omega (arith, few, all, both)) went.stands (
                            did,
                            λ told is. subst (λ (it : Command T). ComesAsChosen types choices degrades decides reader_degrades it
                                asked.fixed asked.fixed_reader mid told) (sym receives) tt,
                          )),
                    ),
              ))
              (lacks (terms_by asked.fixed asked.fixed_reader) mid new lacking asked.asked lack.0);
        }

    goes_on : (commands : List (Decided T B D)) (most : ℕ) (old new : NumberedHub T U B D) (state : State T) (replies : List (Reply T))
        (stopped : Bool) → AllByRecursion (AsksAmong names) (asked_of commands)
        → most + all_asked (asked_of commands) < 2 ^ 56 → Stands names most old state → IsRun Steps commands old replies stopped new
        → RunGoesOn types choices degrades decides reader_degrades names most
        old.hub.expired_connection_buffer (asked_of commands) state replies stopped new
    goes_on commands most old new state replies false asks few it runs =
        all_on commands most old new state replies asks few it runs
    goes_on commands most old new state replies true asks few it (inl never) =
        before_all commands most old new state replies it never
    goes_on commands most old new state replies true asks few it (inr ends) =
        until commands most old new state replies asks few it ends

  pub decided_go_on : EachFollows
      → DecidedRunsGoOn types choices degrades decides reader_degrades payload user_header is_default_header
  decided_go_on each names most commands old new state replies stopped own asks few it runs =
      goes_on each names own commands most old new state replies stopped asks few it runs

module _ {T U B D : Type 0} (terms : Terms T U B D) (choices : Choices T) where
  pub runs_go_on : DecidedRunsGoOn terms.types choices terms.degrades terms.decides terms.reader_degrades terms.payload terms.user_header
      terms.is_default_header
      → RunsGoOn terms choices
  runs_go_on on names most commands old new state replies stopped decides_so answers_so may_name own asks few it runs =
      let same = own_commands terms.fixed terms.fixed_reader commands in
      subst (λ (them : List (Command T)). RunGoesOn terms.types choices terms.degrades terms.decides terms.reader_degrades names most
      old.hub.expired_connection_buffer them state replies stopped new) same
      (on names most (by_actions terms.fixed terms.fixed_reader commands) old new state replies stopped own
      (subst (AllByRecursion (AsksAmong names)) (sym same) asks)
      (subst (λ (them : List (Command T)). most + all_asked them < 2 ^ 56) (sym same) few) it
      (run_chosen choices terms decides_so answers_so commands old new replies stopped it.ran.rise may_name runs))

module _ {T U B D : Type 0} (terms : Terms T U B D) where
  -- ---- a new hub

  module _ (on : RunsGoOn terms (as_named terms.is_default))
      (begins : NewHubBegins U terms.types (as_named terms.is_default) terms.degrades terms.decides terms.reader_degrades) where
    -- the commands of a run are carried out as `Step` says; the ports keep their capacity, and the config stays
    plain_runs : (commands : List (Command T)) (old new : NumberedHub T U B D) (replies : List (Reply T))
        → hub_runs.Runs (hub.StepInRoom terms) commands old replies new → hub_runs.Runs (hub.Step terms) commands old replies new
    plain_runs [] old new replies runs = runs
    plain_runs (asked ∷ more) old new replies (reply, mid, rest, step, runs, is) =
        (reply, mid, rest, step.step, plain_runs more mid new rest runs, is)

    room_on : (commands : List (Command T)) (most : ℕ) (old new : NumberedHub T U B D) (replies : List (Reply T)) → RanAtMost most old
        → HasRoom old → hub_runs.Runs (hub.StepInRoom terms) commands old replies new
        → HasRoom new × (new.hub.expired_connection_buffer ≡ old.hub.expired_connection_buffer)
    room_on [] most old new replies ran room runs = (
      subst (λ (hub : NumberedHub T U B D). HasRoom hub) (sym runs.1) room,
      ap (λ (it : NumberedHub T U B D). it.hub.expired_connection_buffer) runs.1,
    )
    room_on (asked ∷ more) most old new replies ran room (reply, mid, rest, step, runs, is) =
        let on = room_on more (most + (1 + steps_named asked)) mid new rest
        (step_runs_on terms old mid reply most asked step.step ran) (step.room.0 room.0, step.room.1 ran.grown room.1) runs in
        (on.0, on.1 ∙ (step_takes terms old mid reply asked step.step).buffer)

    module _ (short : MessagesAreShort (as_named terms.is_default)) where
      -- A run ends at a command: the machine may give values to it.
      ends_so : (config : HubConfig) (commands : List (Command T)) (old new : NumberedHub T U B D) (replies : List (Reply T))
          → DecidesAsFixed terms.fixed terms.degrades terms.decides → AnswersAsFixed terms.fixed_reader terms.reader_degrades
          → IsNew config old → HaveOwnHashes (names_in commands) → all_asked commands < 2 ^ 56
          → hub_runs.EndsAt (hub.StepInRoom terms) commands old replies new
          → machine.Answers terms.types (as_named terms.is_default) config.expired_connection_buffer commands true replies
      ends_so config commands old new replies decides_so answers_fixed is_new own few (first, asked, rest, mid, lacking, is, runs, lack) =
          let all = ap (λ (them : List (Command T)). all_asked them) is in
          let both = both_asked first (asked ∷ rest) in
          let (asks_first, asks_rest) = both_all (AsksAmong (names_in commands)) first (asked ∷ rest)
          (subst (AllByRecursion (AsksAmong (names_in commands))) is (all_among commands)) in
          let went = on (names_in commands) 0 first old mid new_state replies false decides_so answers_fixed
          (all_named terms.is_default old) own asks_first (omega (arith, few, all, both)) (begins (names_in commands) config old is_new)
          (plain_runs first old mid replies runs) in
          let (room, same) = room_on first 0 old mid replies (new_runs_on config old is_new) (new_has_room config old is_new) runs in
          let ran = went.stands.ran in
          let numbers = ran.numbers in
          let (commands_so, answers_so, runs_so) = went.stands.came in
          let (answer, next, step, comes, gives) = would_give terms (as_named terms.is_default) went.stands.naming went.stands.order mid new
          went.after went.stands.stands.ports ran.grown ran.rise (omega (arith, few, all, both, numbers))
          (short terms.types mid.hub.expired_connection_buffer commands_so answers_so went.after runs_so) lacking asked lack.step
          (lack.lacks room) in
          let one = on (names_in commands) (0 + all_asked first) (asked ∷ []) mid next went.after (answer ∷ []) false decides_so
          answers_fixed (all_named terms.is_default mid) own (asks_rest.0, tt) (omega (arith, few, all, both)) went.stands
          (answer, next, [], step, (refl, refl), refl) in (
            first,
            asked ∷ rest,
            went.after,
            is,
            inr (subst (λ (n : ℕ). machine.MayGiveValues terms.types (as_named terms.is_default) n asked went.after)
                (same ∙ is_new.expired_connection_buffer)
                (gives mid.hub.expired_connection_buffer went.after one.after
                (one_step terms.types (as_named terms.is_default) mid.hub.expired_connection_buffer asked went.after one.after answer
                one.runs))),
            subst (λ (n : ℕ). machine.Runs terms.types (as_named terms.is_default) n first new_state replies went.after)
                is_new.expired_connection_buffer went.runs,
          )

      pub run_answers : RunAnswers terms
      run_answers config commands old new replies false runs stops decides_so answers_fixed is_new own few =
          let it = on (names_in commands) 0 commands old new new_state replies false decides_so answers_fixed
          (all_named terms.is_default old) own (all_among commands) (omega (arith, few)) (begins (names_in commands) config old is_new)
          runs in (
            commands,
            [],
            it.after,
            sym (append-nil commands),
            refl,
            subst (λ (n : ℕ). machine.Runs terms.types (as_named terms.is_default) n commands new_state replies it.after)
                is_new.expired_connection_buffer it.runs,
          )
      run_answers config commands old new replies true runs stops decides_so answers_fixed is_new own few =
          ⊎_elim
          (λ (some, none, same). ([], commands, new_state, refl, begins_so commands some none, (none, refl)))
          (λ ends. ends_so config commands old new replies decides_so answers_fixed is_new own few ends)
          (stops refl)
        where
          begins_so : (asked : List (Command T)) → 0 < length asked → replies ≡ []
              → machine.MayStop terms.types (as_named terms.is_default) config.expired_connection_buffer asked new_state replies
          begins_so [] some none = absurd (never_below some)
          begins_so (asked ∷ more) some none = inl none

    pub run_stands : RunStands terms
    run_stands config commands old new replies runs decides_so answers_fixed is_new own few =
        let it = on (names_in commands) 0 commands old new new_state replies false decides_so answers_fixed
        (all_named terms.is_default old) own (all_among commands)
        (omega (arith, few)) (begins (names_in commands) config old is_new) runs in (
          it.stands.taken,
          it.stands.naming,
          it.stands.order,
          it.after,
          subst (λ (n : ℕ). machine.Runs terms.types (as_named terms.is_default) n commands new_state replies it.after)
              is_new.expired_connection_buffer it.runs,
          it.stands.stands,
        )

-- What a call does that is what a command does is a step of the machine.
use Rattle.std.proofs.Common.{◌≡◌, ℕ, ◌+◌, false, List, [], ◌∷◌, Result, Ok, refl, sym, subst, arith}
use Rattle.iox_command.specs.NegotiateBase.DescribeBase.declared.message_type.MessageTypeDetails.{MessageTypeDetails}
use Rattle.iox_command.specs.NegotiateBase.DescribeBase.declared.type_detail.TypeVariant.{TypeVariant}
use Rattle.iox_command.specs.declared.command.Command.{Command}
use Rattle.iox_command.specs.declared.command.Command.TheVariants as command
use Rattle.iox_command.specs.declared.reply.Reply.{Reply}
use Rattle.iox_domain.specs.Fitting.{asked_types}
use Rattle.iox_hub_commands.specs.CommandSteps as hub
use Rattle.iox_hub_commands.specs.Tables.{IsRoomier}
use Rattle.iox_hub_commands.specs.declared.numbered_hub.NumberedHub.{NumberedHub}
use Rattle.iox_hub_commands.specs.declared.ports.made.Made.{Made}
use Rattle.iox_hub_commands.specs.Terms.{Terms}
use Rattle.iox_hub_machine.proofs.AllCommands.{decided_commands_go_on}
use Rattle.iox_hub_machine.proofs.RunsOn.{step_takes}
use Rattle.iox_hub_machine.specs.GoingOnLaws.{AreAllOn, ComesAsChosen, IsOneOn, decided_terms}
use Rattle.iox_hub_machine.specs.Ran.{StandsAfter}
use Rattle.iox_hub_machine.specs.RunLaws.{all_asked, steps_named}
use Rattle.iox_hub_machine.specs.TypedSteps.{IsStepBy}
use Rattle.iox_hub_machine.specs.TypedTerms.{asked_terms}
use Rattle.iox_machine.specs.Run as machine
use Rattle.iox_machine.specs.State.{State}
use Rattle.iox_machine.specs.Choices.{Choices}

first_is : {X : Type 0} (x y : X) (xs ys : List X) → x ∷ xs ≡ y ∷ ys → x ≡ y
first_is x y xs ys same = cc

ok_is : {X E : Type 0} (x y : X) → ◌≡◌ {A = Result X E} (Ok x) (Ok y) → x ≡ y
ok_is x y same = cc

-- there is as much room as there is
pub as_roomy : (made : Made) → IsRoomier made made
as_roomy made = (
  (refl, refl, omega arith),
  (refl, refl, omega arith),
  (refl, refl, omega arith),
  (refl, refl, omega arith),
)

module _ {T U B D : Type 0} (variant : TypeVariant) (terms : Terms T U B D) (choices : Choices T) where
  -- the terms of a hub whose messages are values, or slices of them
  abbrev terms_so : Terms T U B D
  terms_so = asked_terms variant terms

  -- the types of the messages: values, or slices of them
  abbrev types : MessageTypeDetails
  types = asked_types variant terms.payload terms.user_header

  -- the same terms, with the default values of the choices
  abbrev chosen_terms : Terms T U B D
  chosen_terms = decided_terms types choices terms.degrades terms.decides terms.reader_degrades terms.payload terms.user_header
      terms.is_default_header terms.fixed terms.fixed_reader

  -- a port that the command creates decides as may be chosen
  abbrev pub IsChosen : Command T → NumberedHub T U B D → Reply T → Type 0
  IsChosen asked old answer =
      ComesAsChosen types choices terms.degrades terms.decides terms.reader_degrades asked terms.fixed terms.fixed_reader old answer

  -- what a command does
  abbrev pub Does : Command T → NumberedHub T U B D → Reply T → NumberedHub T U B D → Type 0
  Does asked old answer new
      = hub.Step chosen_terms asked old (Ok answer) new

  abbrev pub Stands : List (List ℕ) → ℕ → NumberedHub T U B D → State T → Type 0
  Stands names most hub state = StandsAfter types choices terms.degrades terms.decides terms.reader_degrades names most
      hub state

  one_of : (names : List (List ℕ)) (most : ℕ) (asked : Command T) (old new : NumberedHub T U B D) (state : State T) (answer : Reply T)
      → AreAllOn types choices terms.degrades terms.decides terms.reader_degrades names
      most old.hub.expired_connection_buffer (asked ∷ []) state (answer ∷ []) new
      → IsOneOn types choices terms.degrades terms.decides terms.reader_degrades names
      most old.hub.expired_connection_buffer asked state answer new
  one_of names most asked old new state answer it =
      let (its, mid, rest, did, (none, same), are) = it.runs in
      let even : most + all_asked (asked ∷ []) ≡ most + (1 + steps_named asked) = omega arith in record {
        after = it.after;
        step = subst (λ (a : Reply T). machine.Step types choices old.hub.expired_connection_buffer asked state a
            it.after) (sym (first_is answer its [] rest are))
            (subst (λ (s : State T). machine.Step types choices old.hub.expired_connection_buffer asked state its s)
            (sym same) did);
        stands = subst (λ (n : ℕ). Stands names n new it.after) even it.stands;
      }

  -- what a hub does, where it stands for a state, is a step of the machine, if a port that comes decides as may be chosen
  pub by_chosen_step : (asked : Command T) (old new : NumberedHub T U B D) (answer : Reply T) → IsChosen asked old answer
      → ((names : List (List ℕ)) (most : ℕ) (state : State T) → Stands names most old state → Does asked old answer new)
      → IsStepBy terms_so choices asked old answer new
  by_chosen_step asked old new answer chosen does names most state own asks few it =
      let did = does names most state it in (
        one_of names most asked old new state answer
            (decided_commands_go_on terms.payload terms.user_header variant choices terms.is_default_header terms.degrades terms.decides
            terms.reader_degrades names most (record { asked = asked; fixed = terms.fixed; fixed_reader = terms.fixed_reader } ∷ []) old new
            state (answer ∷ []) false own (asks, tt) (omega (arith, few)) it
            (answer, new, [], (did, (λ told same. subst (IsChosen asked old) (ok_is answer told same) chosen)), (refl, refl), refl)),
        (step_takes chosen_terms old new answer asked did).buffer,
      )

  -- a command by which no port comes
  abbrev pub IsPlain : Command T → Type 0
  IsPlain (command.Publisher factory options) = ⊥
  IsPlain (command.Subscriber factory options) = ⊥
  IsPlain other = Unit {0}

  plain_chosen : (asked : Command T) (old : NumberedHub T U B D) (answer : Reply T) → IsPlain asked → IsChosen asked old answer
  plain_chosen (command.Publisher factory options) old answer plain = absurd plain
  plain_chosen (command.Subscriber factory options) old answer plain = absurd plain
  plain_chosen other old answer plain = tt

  pub by_step : (asked : Command T) → IsPlain asked → (old new : NumberedHub T U B D) (answer : Reply T)
      → ((names : List (List ℕ)) (most : ℕ) (state : State T) → Stands names most old state → Does asked old answer new)
      → IsStepBy terms_so choices asked old answer new
  by_step asked plain old new answer does = by_chosen_step asked old new answer (plain_chosen asked old answer plain) does

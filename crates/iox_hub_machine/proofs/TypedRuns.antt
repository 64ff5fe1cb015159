-- What a program called of a hub is a run of the machine.
use Rattle.std.proofs.Common.{◌≡◌, ◌+◌, ◌++◌, ℕ, [], ◌∷◌, refl, sym, subst, arith}
use Rattle.iox_command.specs.NegotiateBase.DescribeBase.declared.message_type.MessageTypeDetails.{MessageTypeDetails}
use Rattle.iox_command.specs.NegotiateBase.DescribeBase.declared.type_detail.TypeVariant.{TypeVariant}
use Rattle.iox_domain.specs.Fitting.{asked_types}
use Rattle.iox_hub_commands.specs.Terms.{Terms}
use Rattle.iox_hub_machine.proofs.Begun.{hub_begins}
use Rattle.iox_hub_machine.proofs.Running.{both_asked, came_by}
use Rattle.iox_hub_machine.specs.Ran.{StandsAfter}
use Rattle.iox_hub_machine.specs.RunLaws.{all_asked, steps_named}
use Rattle.iox_hub_machine.specs.TypedRuns.{CallsBegin, CallsGoOn}
use Rattle.iox_hub_machine.specs.TypedTerms.{asked_terms}
use Rattle.iox_machine.specs.Run.{Runs}
use Rattle.iox_machine.specs.State.{new_state}
use Rattle.iox_machine.specs.Choices.{Choices}

module _ {T U B D : Type 0} (variant : TypeVariant) (terms : Terms T U B D) (choices : Choices T) where
  -- the terms of a hub whose messages are values, or slices of them
  abbrev terms_so : Terms T U B D
  terms_so = asked_terms variant terms

  -- the types of the messages: values, or slices of them
  abbrev types : MessageTypeDetails
  types = asked_types variant terms.payload terms.user_header

  pub calls_begin : CallsBegin terms_so choices
  calls_begin names config hub is_new = record {
    state = new_state;
    run = (refl, refl);
    stands = hub_begins types choices terms.degrades terms.decides terms.reader_degrades names config hub is_new;
  }

  pub calls_go_on : CallsGoOn terms_so choices
  calls_go_on names asked answers one answer old new own asks few called does =
      let (next, same) = does names (all_asked asked) called.state own asks few called.stands in
      let both = both_asked asked (one ∷ []) in
      let even : all_asked asked + (1 + steps_named one) ≡ all_asked (asked ++ one ∷ []) = omega (arith, both) in record {
        state = next.after;
        run = subst (λ (n : ℕ). Runs types choices n (asked ++ one ∷ []) new_state (answers ++ answer ∷ []) next.after)
            (sym same)
            (came_by types choices old.hub.expired_connection_buffer asked one new_state called.state next.after answers
            answer
            called.run next.step);
        stands = subst (λ (n : ℕ). StandsAfter types choices terms.degrades terms.decides terms.reader_degrades names n
            new next.after) even next.stands;
      }

-- What a builder does that opens a service, or creates it if it doesn't exist, for all names of a machine.
use Rattle.std.proofs.Common.{ℕ, List, IfOk, sym, subst, arith}
use Rattle.iox_command.specs.NegotiateBase.declared.failure.OpenFailure.{OpenFailure}
use Rattle.iox_command.specs.NegotiateBase.declared.failure.OpenFailure.TheVariants as unopened
use Rattle.iox_command.specs.NegotiateBase.declared.failure.OpenOrCreateFailure.{OpenOrCreateFailure}
use Rattle.iox_command.specs.NegotiateBase.declared.failure.OpenOrCreateFailure.TheVariants as neither
use Rattle.iox_command.specs.NegotiateBase.DescribeBase.Hash.{service_hash_of}
use Rattle.iox_command.specs.Patterns.{pattern_of}
use Rattle.iox_machine.specs.Agreement.{Agreement}
use Rattle.iox_machine.specs.Asked.{settings_of}
use Rattle.iox_machine.specs.Negotiation.{Call}
use Rattle.iox_negotiate_machine.proofs.Acted.{all-stand, goes-on, later, own-hash}
use Rattle.iox_negotiate_machine.proofs.Acting.{OwnHash, kind-of}
use Rattle.iox_negotiate_machine.proofs.CreateCalls.{later-here}
use Rattle.iox_negotiate_machine.proofs.Either.{EitherOnce, either-once}
use Rattle.iox_negotiate_machine.proofs.Opening.{OpensOnce, opens-once}
use Rattle.iox_negotiate_machine.proofs.Preceding.{begins}
use Rattle.iox_negotiate_machine.proofs.Refusing.{unfit-is}
use Rattle.iox_negotiate_machine.proofs.Rounds.{AllRounds, all-rounds}
use Rattle.iox_negotiate_machine.specs.CallLaws.{IsServiceIn, OpenMatches, OpenOrCreateMatches}
use Rattle.iox_negotiate_machine.specs.Standing.{description_of}
use Rattle.iox_negotiate_table.specs.NegotiateBase.Opening as rounds

pub open-matches : (T V E : Type 0) → OpenMatches T V E
open-matches T V E names types pattern name node storage judge verdict steps lists taken old end error result state own asked form room
    listed stands few
    judged h =
    record {
      later = later names own pattern name asked taken made.2.more;
      goes_on = goes-on names own pattern name asked taken made.2.more;
      found = h.answer;
      told = h.told;
      after = made.0;
      calls = made.1;
      opened = subst (λ (numbers : List ℕ). IfOk h.answer (λ service. IsServiceIn node pattern name made.0.phase numbers service))
          (sym (later-here names own pattern name asked taken made.2.more)) made.3;
      stands = all-stand names own pattern name asked taken old end.table state stands made.2.leaves made.2.more made.0.phase made.2.stands;
    }
  where
    lone : OwnHash pattern name
    lone = own-hash names own pattern name asked taken

    call : Call
    call = record { phase = state.phases pattern name; accesses = 0 }

    made : AllRounds types pattern name lone steps form old (taken pattern name) node (OpenFailure V)
        (rounds.OpenRound (service_hash_of pattern name) node judge)
        (OpensOnce types pattern name lone steps form old (taken pattern name) node V judge verdict judged)
        unopened.ServiceInCorruptedState 0
        (λ left. opens-once types pattern name lone steps form old (taken pattern name) node V judge verdict judged left 0) 5 call
        h.answer end
    made = all-rounds types pattern name lone steps form old (taken pattern name) node (OpenFailure V)
        (rounds.OpenRound (service_hash_of pattern name) node judge)
        (OpensOnce types pattern name lone steps form old (taken pattern name) node V judge verdict judged)
        unopened.ServiceInCorruptedState 0
        (λ left. opens-once types pattern name lone steps form old (taken pattern name) node V judge verdict judged left 0)
        h.done.made h.answer call (record { table = old; lists = lists }) end
        (begins types pattern name lone steps form old (taken pattern name) 10 0 lists (state.phases pattern name) stands.reached
        (stands.phases pattern name asked) listed (omega arith) (omega (arith, room))) few h.done.told h.done.went

pub open-or-create-matches : (T V E : Type 0) → OpenOrCreateMatches T V E
open-or-create-matches T V E names types name node storage judge verdict named attributes steps lists taken old end error result state
    own asked form
    room listed stands few judged h =
    record {
      later = later names own (pattern_of named) name asked taken made.2.more;
      goes_on = goes-on names own (pattern_of named) name asked taken made.2.more;
      found = h.negotiated.answer;
      told = h.negotiated.told;
      after = made.0;
      calls = made.1;
      opened = subst (λ (numbers : List ℕ). IfOk h.negotiated.answer
          (λ service. IsServiceIn node (pattern_of named) name made.0.phase numbers service))
          (sym (later-here names own (pattern_of named) name asked taken made.2.more)) made.3;
      stands = all-stand names own (pattern_of named) name asked taken old end.table state stands made.2.leaves made.2.more made.0.phase
          made.2.stands;
    }
  where
    lone : OwnHash (pattern_of named) name
    lone = own-hash names own (pattern_of named) name asked taken

    call : Call
    call = record { phase = state.phases (pattern_of named) name; accesses = 0 }

    new : Agreement
    new = record { settings = settings_of types named; attributes = attributes }

    made : AllRounds types (pattern_of named) name lone steps form old (taken (pattern_of named) name) node (OpenOrCreateFailure V)
        (rounds.EitherRound (service_hash_of (pattern_of named) name) node judge (description_of (pattern_of named) name new) h.refusal)
        (EitherOnce types (pattern_of named) name lone steps form old (taken (pattern_of named) name) node V judge verdict judged new)
        neither.SystemInFlux 1
        (λ left. either-once types (pattern_of named) name lone steps form old (taken (pattern_of named) name) node V judge verdict
        judged new
        h.refusal (kind-of types named) h.within (unfit-is types named h.refusal h.refused) 1 (omega arith) left) 5 call
        h.negotiated.answer end
    made = all-rounds types (pattern_of named) name lone steps form old (taken (pattern_of named) name) node (OpenOrCreateFailure V)
        (rounds.EitherRound (service_hash_of (pattern_of named) name) node judge (description_of (pattern_of named) name new) h.refusal)
        (EitherOnce types (pattern_of named) name lone steps form old (taken (pattern_of named) name) node V judge verdict judged new)
        neither.SystemInFlux 1
        (λ left. either-once types (pattern_of named) name lone steps form old (taken (pattern_of named) name) node V judge verdict
        judged new
        h.refusal (kind-of types named) h.within (unfit-is types named h.refusal h.refused) 1 (omega arith) left)
        h.negotiated.done.made h.negotiated.answer call (record { table = old; lists = lists }) end
        (begins types (pattern_of named) name lone steps form old (taken (pattern_of named) name) 10 1 lists
        (state.phases (pattern_of named) name)
        stands.reached (stands.phases (pattern_of named) name asked) listed (omega arith) room) few h.negotiated.done.told
        h.negotiated.done.went

-- What a machine does that has one service alone.
use Rattle.std.proofs.Common.{◌≡◌, Option, None, Some, refl}
use Rattle.iox_command.specs.declared.reply.Reply.{Reply}
use Rattle.iox_command.specs.declared.reply.Reply.TheVariants as reply
use Rattle.iox_domain_machine.specs.Laws.{with_alone}
use Rattle.iox_machine.specs.Service.{Service}
use Rattle.iox_machine.specs.State.{State, AtOne, counted}

module _ {T V : Type 0} (found : Service T → Option V) (Does : V → Service T → Reply T → Service T → Type 0) (state : State T) where
  -- where the service has it, that is done
  pub alone_does : (old new : Service T) (answer : Reply T) (one : V) → found old ≡ Some one → Does one old answer new
      → AtOne found Does (with_alone old state) answer (record (with_alone new state) { made = counted answer state.made })
  alone_does old new answer one is does = rw is (new, rw is does, refl)

  -- where it doesn't, the command is skipped
  pub alone_skips : (old : Service T) → found old ≡ None
      → AtOne found Does (with_alone old state) reply.Skipped (record
      (with_alone old state) { made = counted {T = T} reply.Skipped state.made })
  alone_skips old is = rw is (refl, refl)

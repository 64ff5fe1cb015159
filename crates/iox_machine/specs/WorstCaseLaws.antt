-- That the slots of the worst case are enough.
use Rattle.std.specs.Prelude.{ℕ, ◌+◌, ◌<◌, ◌≡◌, ◌⊎◌, true, nat_lt, List, length, filter, find, Some, is_some}
use Rattle.iox_machine.specs.Choices.{Choices}
use Rattle.iox_machine.specs.Ports.{publisher_in}
use Rattle.iox_machine.specs.Run.{Runs, Step}
use Rattle.iox_machine.specs.RunLaws.{CameAs}
use Rattle.iox_machine.specs.Service.{Publisher, Service, mailbox}
use Rattle.iox_machine.specs.State.{State, new_state}
use Rattle.iox_command.specs.DomainValues.declared.port_error.LoanError.TheVariants.{OutOfMemory}
use Rattle.iox_command.specs.NegotiateBase.DescribeBase.declared.message_type.MessageTypeDetails.{MessageTypeDetails}
use Rattle.iox_command.specs.declared.command.Command.{Command}
use Rattle.iox_command.specs.declared.command.Command.TheVariants as command
use Rattle.iox_command.specs.declared.port.PublisherOptions.{PublisherOptions}
use Rattle.iox_command.specs.declared.refusal.Refusal.TheVariants as refusal
use Rattle.iox_command.specs.declared.reply.Reply.{Reply}
use Rattle.iox_command.specs.declared.reply.Reply.TheVariants as reply

module _ {T : Type 0} where
  -- How many subscribers of the service, open or closed, have messages of this publisher waiting or borrowed.
  abbrev pub subscribers_met : ℕ → Service T → ℕ
  subscribers_met number service = length (filter
      (λ entry. nat_lt 0 (length (mailbox number entry.0 service).waiting + length (mailbox number entry.0 service).borrowed))
      service.subscribers)

module _ {T : Type 0} (choices : Choices T) where
  -- In every run of a new machine, a loan is refused for memory only if it is longer than the current segment allows; or fewer slots than
  -- the worst case needs were named for the publisher; or more subscribers than may be open at once have messages of it, since closed ones
  -- still have samples.
  abbrev pub WorstCaseIsEnough : Type 0
  WorstCaseIsEnough = (types : MessageTypeDetails) (buffer : ℕ) (asked : List (Command T)) (answers : List (Reply T)) (old : State T)
      (run : Runs types choices buffer asked new_state answers old)
      (publisher count : ℕ) (new : State T)
      → Step types choices buffer (command.Loan publisher count) old (reply.Refused (refusal.Loan OutOfMemory)) new
      ⊎ Step types choices buffer (command.LoanUninit publisher count) old (reply.Refused (refusal.Loan OutOfMemory)) new
      → (service : Service T) × (one : Publisher T) × (named : PublisherOptions)
      × (find (λ other. is_some (publisher_in publisher other)) old.services ≡ Some service) × (publisher_in publisher service ≡ Some one)
      × CameAs types choices buffer publisher named asked new_state answers old run
      × ((one.room < count) ⊎ ((is_some named.preallocated_samples ≡ true)
      ⊎ (service.settings.max_subscribers < subscribers_met publisher service)))

-- How calls of ports are answered, and what those that are done at once change.
use Rattle.std.specs.Prelude.{ℕ, ◌+◌, ◌-◌, ◌^◌, ◌≡◌, ◌⊎◌, Bool, true, false, not, ◌&&◌, ◌==◌, List, [], ◌∷◌, map, filter, find, zip, None}
use Rattle.std.specs.Prelude.{Some, is_some, if◌then◌else◌}
use Rattle.iox_machine.specs.Choices.{Choices}
use Rattle.iox_machine.specs.DeliveredLaws.{is_going}
use Rattle.iox_machine.specs.FailedLaws.{IsFirstFailure}
use Rattle.iox_machine.specs.Message.{Message, Sample}
use Rattle.iox_machine.specs.OnceLaws.{is_skipped}
use Rattle.iox_machine.specs.PortList.{PortList, unless}
use Rattle.iox_machine.specs.Ports.{publisher_in, subscriber_in}
use Rattle.iox_machine.specs.RefusalLaws.{IsSentBy, is_sending}
use Rattle.iox_machine.specs.Run.{Step}
use Rattle.iox_machine.specs.Service.{Publisher, Service, Subscriber, mailbox}
use Rattle.iox_machine.specs.State.{State, replaced}
use Rattle.iox_machine.specs.Table.{at, changed}
use Rattle.iox_command.specs.DomainValues.declared.connection_failure.ConnectionFailure.{ConnectionFailure}
use Rattle.iox_command.specs.DomainValues.declared.port_error.LoanError.{LoanError}
use Rattle.iox_command.specs.DomainValues.declared.port_error.SendError.TheVariants as error
use Rattle.iox_command.specs.NegotiateBase.DescribeBase.declared.message_type.MessageTypeDetails.{MessageTypeDetails}
use Rattle.iox_command.specs.declared.command.Command.{Command}
use Rattle.iox_command.specs.declared.command.Command.TheVariants as command
use Rattle.iox_command.specs.declared.port.PortNumber.{PortNumber}
use Rattle.iox_command.specs.declared.port.PortNumber.TheVariants as port
use Rattle.iox_command.specs.declared.refusal.Refusal.TheVariants as refusal
use Rattle.iox_command.specs.declared.reply.Reply.{Reply}
use Rattle.iox_command.specs.declared.reply.Reply.TheVariants as reply

-- The table has this number no longer, and all other numbers have what they had.
abbrev pub IsWithout : {V : Type 0} → ℕ → List (ℕ × V) → List (ℕ × V) → Type 0
IsWithout number before behind = (at number behind ≡ None) × ((other : ℕ) → (other ≡ number → ⊥) → at other behind ≡ at other before)

-- The list changed once more: this port is at no place any longer, and all other places are as before.
abbrev pub HasLeft : ℕ → PortList → PortList → Type 0
HasLeft number before behind = (behind.changes ≡ before.changes + 1) × (behind.places ≡ map (unless (number ∷ [])) before.places)

module _ {T : Type 0} where
  -- Whether the command sets, fills or drops a loan, releases a sample, or closes a port.
  abbrev pub is_done_at_once : Command T → Bool
  is_done_at_once (command.Set loan place value) = true
  is_done_at_once (command.Fill loan values) = true
  is_done_at_once (command.Drop loan) = true
  is_done_at_once (command.Release sample) = true
  is_done_at_once (command.Leave number) = true
  is_done_at_once other = false

  -- The sample's message is no longer borrowed from the connection from which it was received. What else is borrowed there stays in its
  -- order, what waits there stays, and so do all other mailboxes.
  abbrev pub IsReturned : Sample T → Service T → Service T → Type 0
  IsReturned one old new = (publisher subscriber : ℕ) → mailbox publisher subscriber new
      ≡ (if (publisher == one.publisher) && (subscriber == one.subscriber)
      then record (mailbox publisher subscriber old) {
        borrowed = filter (λ message. not (message.number == one.message.number)) (mailbox publisher subscriber old).borrowed;
      }
      else mailbox publisher subscriber old)

module _ {T : Type 0} (choices : Choices T) where
  -- How a send is answered by this publisher, as it was before, and by its service afterwards. It is refused if the publisher is closed;
  -- otherwise if no sequence number is left; otherwise with the first failure at which the publisher is to fail, once it has followed the
  -- list of subscribers. Otherwise the send goes on.
  abbrev pub IsRefusedOrGoes : ℕ → Publisher T → Reply T → Service T → Type 0
  IsRefusedOrGoes number one answer after =
      ((one.stands ≡ false) × (answer ≡ reply.Refused (refusal.Send error.ConnectionBrokenSinceSenderNoLongerExists)))
      ⊎ (((one.stands ≡ true) × (one.last_sequence ≡ Some (2 ^ 64 - 1)) × (answer ≡ reply.Refused (refusal.Send error.InternalError)))
      ⊎ ((one.stands ≡ true) × (one.last_sequence ≡ Some (2 ^ 64 - 1) → ⊥)
      × (((failure : ConnectionFailure) × (now : Publisher T) × (at number after.publishers ≡ Some now)
      × (now.seen ≡ after.subscriber_list.changes)
      × IsFirstFailure (choices.publisher_acts number one.degradation) (zip after.subscriber_list.places now.connected) failure
      × (answer ≡ reply.Refused (refusal.Send (error.ConnectionError failure))))
      ⊎ (is_going answer ≡ true))))

  -- A send, or a put whose loan isn't refused, is answered as `IsRefusedOrGoes` says, unless it is skipped.
  abbrev pub SendsAreRefusedSo : Type 0
  SendsAreRefusedSo = (types : MessageTypeDetails) (buffer : ℕ) (asked : Command T) (old : State T) (answer : Reply T) (new : State T)
      → is_sending asked ≡ true → is_skipped answer ≡ false
      → ((why : LoanError) → answer ≡ reply.Refused (refusal.Send (error.LoanError why)) → ⊥)
      → Step types choices buffer asked old answer new
      → (has : Service T → Bool) × (service : Service T) × (after : Service T)
      × (number : ℕ) × (one : Publisher T) × (message : Message T)
      × (find has old.services ≡ Some service) × (new.services ≡ replaced has after old.services)
      × IsSentBy asked service number message × (at number service.publishers ≡ Some one) × IsRefusedOrGoes number one answer after

  -- A command that sets, fills or drops a loan, releases a sample or closes a port is answered `Done`, unless it is skipped.
  abbrev pub DoneUnlessSkipped : Type 0
  DoneUnlessSkipped = (types : MessageTypeDetails) (buffer : ℕ) (asked : Command T) (old : State T) (answer : Reply T) (new : State T)
      → is_done_at_once asked ≡ true → is_skipped answer ≡ false → Step types choices buffer asked old answer new → answer ≡ reply.Done

  -- A loan that is dropped no longer exists, and all else stays.
  abbrev pub DropsEndLoans : Type 0
  DropsEndLoans = (types : MessageTypeDetails) (buffer loan : ℕ) (old new : State T)
      → Step types choices buffer (command.Drop loan) old reply.Done new
      → (service : Service T) × (after : Service T)
      × (find (λ other. is_some (at loan other.loans)) old.services ≡ Some service)
      × (new ≡ record old { services = replaced (λ other. is_some (at loan other.loans)) after old.services })
      × IsWithout loan service.loans after.loans × (after ≡ record service { loans = after.loans })

  -- A sample that is released no longer exists, its message is no longer borrowed, and all else stays.
  abbrev pub ReleasesEndSamples : Type 0
  ReleasesEndSamples = (types : MessageTypeDetails) (buffer sample : ℕ) (old new : State T)
      → Step types choices buffer (command.Release sample) old reply.Done new
      → (service : Service T) × (after : Service T) × (one : Sample T)
      × (find (λ other. is_some (at sample other.samples)) old.services ≡ Some service)
      × (new ≡ record old { services = replaced (λ other. is_some (at sample other.samples)) after old.services })
      × (at sample service.samples ≡ Some one) × IsWithout sample service.samples after.samples × IsReturned one service after
      × (after ≡ record service { mailboxes = after.mailboxes; samples = after.samples })

  -- A publisher or a subscriber that leaves is closed, its list has it no longer, and all else stays.
  abbrev pub LeavesClosePorts : Type 0
  LeavesClosePorts = (types : MessageTypeDetails) (buffer number : ℕ) (old new : State T)
      → (Step types choices buffer (command.Leave (port.Publisher number)) old reply.Done new
      → (service : Service T) × (after : Service T) × (one : Publisher T)
      × (find (λ other. is_some (publisher_in number other)) old.services ≡ Some service)
      × (new ≡ record old { services = replaced (λ other. is_some (publisher_in number other)) after old.services })
      × (publisher_in number service ≡ Some one) × HasLeft number service.publisher_list after.publisher_list
      × (after ≡ record service {
        publishers = changed number (record one { stands = false }) service.publishers;
        publisher_list = after.publisher_list;
      }))
      × (Step types choices buffer (command.Leave (port.Subscriber number)) old reply.Done new
      → (service : Service T) × (after : Service T) × (one : Subscriber)
      × (find (λ other. is_some (subscriber_in number other)) old.services ≡ Some service)
      × (new ≡ record old { services = replaced (λ other. is_some (subscriber_in number other)) after old.services })
      × (subscriber_in number service ≡ Some one) × HasLeft number service.subscriber_list after.subscriber_list
      × (after ≡ record service {
        subscribers = changed number (record one { stands = false }) service.subscribers;
        subscriber_list = after.subscriber_list;
      }))

  -- An update that isn't skipped is answered `Done`, or refused with a failure of a connection. A look for data that isn't skipped is
  -- refused exactly as an update alone; otherwise it says whether data waits.
  abbrev pub LooksAnswerAsUpdates : Type 0
  LooksAnswerAsUpdates = (types : MessageTypeDetails) (buffer : ℕ) (old : State T) (answer : Reply T) (new : State T)
      → is_skipped answer ≡ false
      → ((which : PortNumber) → Step types choices buffer (command.Update which) old answer new
      → (answer ≡ reply.Done) ⊎ ((failure : ConnectionFailure) × (answer ≡ reply.Refused (refusal.Connection failure))))
      × ((number : ℕ) → Step types choices buffer (command.Has number) old answer new
      → ((waits : Bool) × (answer ≡ reply.Has waits))
      ⊎ ((failure : ConnectionFailure) × (answer ≡ reply.Refused (refusal.Connection failure))
      × Step types choices buffer (command.Update (port.Subscriber number)) old answer new))

-- When a factory can be closed, and whose a name is once the hub has no factory of it.
use Rattle.std.specs.Prelude.{ℕ, ◌≡◌, ◌⊎◌, ⊤, true, false, ◌&&◌, bytes_eq, List, slice_get, is_some, None, Some}
use Rattle.std.specs.List.{AllByRecursion, list_any}
use Rattle.iox_machine.specs.AgreementLaws.{HasOne}
use Rattle.iox_machine.specs.Choices.{Choices}
use Rattle.iox_machine.specs.Phase.{Foreign, Node, Phase, Absent, BeingMade, Published, Emptied, same_pattern}
use Rattle.iox_machine.specs.Run.{Runs, Step}
use Rattle.iox_machine.specs.Service.{Publisher, Service, Subscriber}
use Rattle.iox_machine.specs.State.{Factory, State, is_service_of, new_state}
use Rattle.iox_machine.specs.Table.{at}
use Rattle.iox_command.specs.NegotiateBase.DescribeBase.declared.message_type.MessageTypeDetails.{MessageTypeDetails}
use Rattle.iox_command.specs.NegotiateBase.DescribeBase.declared.pattern.MessagingPattern.{MessagingPattern}
use Rattle.iox_command.specs.NegotiateBase.declared.errors.close.CloseError.TheVariants.{StillInUse}
use Rattle.iox_command.specs.declared.command.Command.{Command}
use Rattle.iox_command.specs.declared.command.Command.TheVariants as command
use Rattle.iox_command.specs.declared.refusal.Refusal.TheVariants as refusal
use Rattle.iox_command.specs.declared.reply.Reply.{Reply}
use Rattle.iox_command.specs.declared.reply.Reply.TheVariants as reply

-- A node of another process.
abbrev pub IsOfOthers : Node → Type 0
IsOfOthers node = (number : ℕ) × (node ≡ Foreign number)

-- A name is free, or other processes have it: a node of theirs makes the service, has emptied it, or is in it, and no node of the hub is.
abbrev pub IsFreeOrOfOthers : Phase → Type 0
IsFreeOrOfOthers (Absent lives) = ⊤
IsFreeOrOfOthers (BeingMade life by) = IsOfOthers by
IsFreeOrOfOthers (Published life agreed nodes) = (is_some (slice_get nodes 0) ≡ true) × AllByRecursion (λ entry. IsOfOthers entry.0) nodes
IsFreeOrOfOthers (Emptied life agreed by) = IsOfOthers by

module _ {T : Type 0} (number : ℕ) where
  -- Something of this factory exists in the service: an open publisher or subscriber, a loan of a publisher of the factory, or a sample of
  -- a subscriber of it, be the port open or closed.
  abbrev pub HasPartsOf : Service T → Type 0
  HasPartsOf service =
      HasOne (λ entry. (entry.1.stands ≡ true) × (entry.1.factory ≡ number)) service.publishers
      ⊎ (HasOne (λ entry. (entry.1.stands ≡ true) × (entry.1.factory ≡ number)) service.subscribers
      ⊎ (HasOne (λ entry. (one : Publisher T) × (at entry.1.publisher service.publishers ≡ Some one) × (one.factory ≡ number)) service.loans
      ⊎ HasOne (λ entry. (one : Subscriber) × (at entry.1.subscriber service.subscribers ≡ Some one) × (one.factory ≡ number))
      service.samples))

module _ {T : Type 0} (choices : Choices T) where
  -- A factory that exists is closed, and exists no longer, exactly if nothing of it exists in its service. Otherwise it is refused as in
  -- use.
  abbrev pub ClosesUnlessUsed : Type 0
  ClosesUnlessUsed = (types : MessageTypeDetails) (buffer number : ℕ) (factory : Factory) (old : State T) (answer : Reply T)
      (new : State T) → at number old.factories ≡ Some factory → Step types choices buffer (command.Close number) old answer new
      → ((answer ≡ reply.Done) × (at number new.factories ≡ None)
      × (HasOne (λ service. (is_service_of factory service ≡ true) × HasPartsOf number service) old.services → ⊥))
      ⊎ ((answer ≡ reply.Refused (refusal.Close StillInUse))
      × HasOne (λ service. (is_service_of factory service ≡ true) × HasPartsOf number service) old.services)

  -- In every run of a new machine, a pattern and name of which the hub has no factory is free, unless other processes have it.
  abbrev pub NamesBecomeFree : Type 0
  NamesBecomeFree = (types : MessageTypeDetails) (buffer : ℕ) (asked : List (Command T)) (answers : List (Reply T)) (new : State T)
      → Runs types choices buffer asked new_state answers new
      → (pattern : MessagingPattern) (name : List ℕ)
      → list_any (λ entry. same_pattern entry.1.pattern pattern && bytes_eq entry.1.name name) new.factories ≡ false
      → IsFreeOrOfOthers (new.phases pattern name)

-- Calls at a domain match commands at the machine's service; `Matches` says what that means.
use Rattle.std.specs.Prelude.{ℕ, ◌≡◌, ◌≢◌, Bool, true, false, List, [], ◌∷◌, length, is_some, Option, None, Some, if◌then◌else◌}
use Rattle.std.specs.Global.{Vec}
use Rattle.std.specs.Vec.{vec_items}
use Rattle.iox_command.specs.NegotiateBase.DescribeBase.declared.message_type.MessageTypeDetails.{MessageTypeDetails}
use Rattle.iox_command.specs.NegotiateBase.DescribeSettings.declared.static_config.publish_subscribe.StaticConfig.{StaticConfig}
use Rattle.iox_command.specs.declared.command.Command.{Command}
use Rattle.iox_command.specs.declared.command.Command.TheVariants as command
use Rattle.iox_command.specs.declared.reply.Reply.{Reply}
use Rattle.iox_command.specs.declared.reply.Reply.TheVariants as reply
use Rattle.iox_domain.specs.DomainPorts.Messages.{write_value, write_all}
use Rattle.iox_domain.specs.DomainPorts.Messages as domain
use Rattle.iox_domain.specs.DomainPorts.MessagesSending.{has_place, has_length, is_written_loan}
use Rattle.iox_domain.specs.DomainPorts.Writing.{place_of}
use Rattle.iox_domain.specs.DomainPorts.declared.attached.Taken.{Taken}
use Rattle.iox_domain.specs.Lending.{passes, written_in, loan_in, gave_up_in}
use Rattle.iox_domain.specs.PortLawsLaws.{IsSound}
use Rattle.iox_domain.specs.Ports.{no_ports}
use Rattle.iox_domain.specs.Reading.{sample_in}
use Rattle.iox_domain.specs.Sizes.{sizes}
use Rattle.iox_domain.specs.Steps.{GivesUpBy}
use Rattle.iox_domain.specs.declared.ports.service_ports.ServicePorts.{ServicePorts}
use Rattle.iox_domain_machine.specs.Naming.{Naming, nameless}
use Rattle.iox_domain_machine.specs.Standing.{StandsFor}
use Rattle.iox_domain_machine.specs.Tables.{LentSlot}
use Rattle.iox_machine.specs.Choices.{Choices}
use Rattle.iox_machine.specs.Run.{Step}
use Rattle.iox_machine.specs.Service.{Service, new_service}
use Rattle.iox_machine.specs.State.{State, counted}
use Rattle.iox_machine.specs.Table.{at, removed}

-- The reply after a call that did something, or nothing.
abbrev pub done_or_skipped : {T : Type 0} → Bool → Reply T
done_or_skipped true = reply.Done
done_or_skipped false = reply.Skipped

-- The reply after a send was given up, with how many connections took its message; or the reply if no send was blocked.
abbrev pub gave_up_or_skipped : {T : Type 0} → Option ℕ → Reply T
gave_up_or_skipped None = reply.Skipped
gave_up_or_skipped (Some count) = reply.Delivered count

-- The machine whose only service is this one.
abbrev pub with_alone : {T : Type 0} → Service T → State T → State T
with_alone service state = record state { services = service ∷ [] }

-- The ports of a new domain represent a new service, which has no ports yet.
abbrev pub NewStands : Type 0 → Type 0 → Type 0
NewStands T U = (buffer number : ℕ) (name : List ℕ) (settings : StaticConfig)
    → StandsFor {T = T} {U = U} nameless [] [] buffer (no_ports number (sizes buffer settings)) (new_service name settings)

-- The machine's messages have certain types, `choices` says what handlers may choose, and each subscriber keeps at least
-- `buffer` connections of closed publishers.
module _ (T U : Type 0) (choices : Choices T) where
  -- A machine whose only service is this one gives this reply to the command, and its service afterwards is represented by
  -- these ports.
  abbrev pub Matches : MessageTypeDetails → ℕ → Command T → Reply T → State T → Service T → Naming → List (ℕ × LentSlot) → List (ℕ × Taken)
      → ServicePorts T U → Type 0
  Matches types buffer command answer state service names lent held ports =
      (after : Service T)
      × Step types choices buffer command (with_alone service state) answer
      (record (with_alone after state) { made = counted answer state.made })
      × StandsFor names lent held buffer ports after

  -- Setting one value of a written loan matches the command.
  abbrev pub SetMatches : Type 0
  SetMatches = (types : MessageTypeDetails) (buffer : ℕ) (names : Naming) (lent : List (ℕ × LentSlot)) (held : List (ℕ × Taken))
      (ports : ServicePorts T U) (service : Service T) (state : State T) (loan place : ℕ) (value : T) (out : LentSlot)
      → StandsFor names lent held buffer ports service → at loan lent ≡ Some out
      → Matches types buffer (command.Set loan place value)
      (done_or_skipped (if is_written_loan (loan_in out.publisher out.slot ports) then passes out.publisher
      (λ port. has_place out.slot place port.sender.uses) ports else false)) state service names lent held
      (if is_written_loan (loan_in out.publisher out.slot ports) then written_in out.publisher
      (λ port. has_place out.slot place port.sender.uses) out.slot (write_value place value) ports else ports)

  -- Filling a loan with values matches the command.
  abbrev pub FillMatches : Type 0
  FillMatches = (types : MessageTypeDetails) (buffer : ℕ) (names : Naming) (lent : List (ℕ × LentSlot)) (held : List (ℕ × Taken))
      (ports : ServicePorts T U) (service : Service T) (state : State T) (loan : ℕ) (values : List T) (out : LentSlot)
      → StandsFor names lent held buffer ports service → at loan lent ≡ Some out
      → Matches types buffer (command.Fill loan values)
      (done_or_skipped (passes out.publisher (λ port. has_length out.slot (length values) port.sender.uses) ports)) state service names
      lent held
      (written_in out.publisher (λ port. has_length out.slot (length values) port.sender.uses) out.slot (write_all values) ports)

  -- Dropping a loan matches the command, if the ports are sound, as they are after any calls (`HeldStays`).
  abbrev pub DropMatches : Type 0
  DropMatches = (types : MessageTypeDetails) (buffer : ℕ) (names : Naming) (lent : List (ℕ × LentSlot)) (held : List (ℕ × Taken))
      (ports : ServicePorts T U) (service : Service T) (state : State T) (loan : ℕ) (out : LentSlot)
      → StandsFor names lent held buffer ports service → IsSound ports → at loan lent ≡ Some out
      → Matches types buffer (command.Drop loan)
      (done_or_skipped (passes out.publisher (λ port. is_some (place_of out.slot port)) ports)) state service names
      (removed loan lent) held (gave_up_in out.publisher out.slot ports)

  -- The sample with this number exists, and reading its values matches the command, if these fit into a vector.
  abbrev pub ReadMatches : Type 0
  ReadMatches = (types : MessageTypeDetails) (buffer : ℕ) (names : Naming) (lent : List (ℕ × LentSlot)) (held : List (ℕ × Taken))
      (ports : ServicePorts T U) (service : Service T) (state : State T) (sample : ℕ) (taken : Taken)
      → StandsFor names lent held buffer ports service → at sample held ≡ Some taken
      → (message : domain.Message T U) × (sample_in taken ports ≡ Some message)
      × ((values : Vec T) → vec_items values ≡ message.values
      → Matches types buffer (command.Read sample) (reply.Values values) state service names lent held ports)

  -- The sample with this number exists, and answering the sequence number of its message, if it has one, matches the command.
  abbrev pub SequenceMatches : Type 0
  SequenceMatches = (types : MessageTypeDetails) (buffer : ℕ) (names : Naming) (lent : List (ℕ × LentSlot)) (held : List (ℕ × Taken))
      (ports : ServicePorts T U) (service : Service T) (state : State T) (sample : ℕ) (taken : Taken)
      → StandsFor names lent held buffer ports service → at sample held ≡ Some taken
      → (message : domain.Message T U) × (sample_in taken ports ≡ Some message)
      × Matches types buffer (command.Sequence sample) (reply.Sequence message.sequence) state service names lent held ports

  -- Giving up a blocked send matches the command.
  abbrev pub GiveUpMatches : Type 0
  GiveUpMatches = (types : MessageTypeDetails) (buffer : ℕ) (names : Naming) (lent : List (ℕ × LentSlot)) (held : List (ℕ × Taken))
      (old new : ServicePorts T U)
      (service : Service T) (state : State T) (number : ℕ) (answer : Option ℕ)
      → StandsFor names lent held buffer old service → names.publisher number ≢ 0 → GivesUpBy number old answer new
      → Matches types buffer (command.GiveUp (names.publisher number)) (gave_up_or_skipped answer) state service names lent held new

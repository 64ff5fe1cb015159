-- Calls on headers and user headers, compared with the machine.
use Rattle.std.specs.Prelude.{ℕ, ◌≡◌, ◌⊎◌, List, Contains, Some, option_map}
use Rattle.iox_command.specs.declared.command.Command.{Command}
use Rattle.iox_command.specs.declared.command.Command.TheVariants as command
use Rattle.iox_command.specs.declared.reply.Reply.{Reply}
use Rattle.iox_command.specs.declared.reply.Reply.TheVariants as reply
use Rattle.iox_container.specs.NumberTable.{value_at}
use Rattle.iox_delivery.specs.Holding.{message_found}
use Rattle.iox_delivery.specs.Publishing.{WritesUserHeader, loan_changed}
use Rattle.iox_delivery.specs.Subscribing.{header_found}
use Rattle.iox_delivery.specs.declared.port_id.PortId.{PortId}
use Rattle.iox_domain.specs.DescribeBase.declared.header.Header.{Header}
use Rattle.iox_domain.specs.DomainPorts.Messages.{write_user_header}
use Rattle.iox_domain_machine.specs.SentHeaders.{SentHeader}
use Rattle.iox_hub_base.specs.AsHome.{hub_ports, with_hub_ports}
use Rattle.iox_hub_base.specs.declared.hub.Hub.{Hub}
use Rattle.iox_hub_commands.specs.Tables.{port_under}
use Rattle.iox_hub_commands.specs.Terms.{Terms}
use Rattle.iox_hub_commands.specs.declared.numbered_hub.NumberedHub.{NumberedHub}
use Rattle.iox_hub_commands.specs.declared.ports.made.MadeSample.{MadeSample}
use Rattle.iox_hub_machine.specs.Ports.{among}
use Rattle.iox_hub_machine.specs.Ran.{StandsAfter}
use Rattle.iox_hub_machine.specs.TypedRuns.{HasCalled}
use Rattle.iox_hub_machine.specs.TypedTelling.{TellInHub}
use Rattle.iox_hub_machine.specs.TypedSteps.{IsStepBy, hub_after_call}
use Rattle.iox_machine.specs.Choices.{Choices}
use Rattle.iox_machine.specs.Message.{Sample}
use Rattle.iox_machine.specs.State.{State}

-- The parameters: the terms of the hub.
module _ {T U B D : Type 0} (terms : Terms T U B D) (choices : Choices T) where
  -- The user header of a loan is written by a call; or it is the last value that was written through the reference that `user_header_mut`
  -- returned.
  abbrev pub ChangesUserHeader : PortId → ℕ → U → Hub T U B D → Hub T U B D → Type 0
  ChangesUserHeader lender slot written old new =
      WritesUserHeader hub_ports with_hub_ports lender slot written old new
      ⊎ (new ≡ loan_changed hub_ports with_hub_ports lender slot (write_user_header written) old)

  -- After a user header is written, the hub, with what its program holds, represents the same state as before.
  abbrev pub UserHeadersKeepStanding : Type 0
  UserHeadersKeepStanding = (slot : ℕ) (lender : PortId) (written : U) (old : NumberedHub T U B D) (hub : Hub T U B D)
      (names : List (List ℕ)) (most : ℕ) (state : State T)
      → ChangesUserHeader lender slot written old.hub hub
      → StandsAfter terms.types choices terms.degrades terms.decides terms.reader_degrades names most old state
      → StandsAfter terms.types choices terms.degrades terms.decides terms.reader_degrades names most
      (hub_after_call old old.made hub) state

  -- After a user header is written, the calls of a program are the same run of the machine as before: writing a user header needs no
  -- command.
  abbrev pub UserHeadersNeedNoCommand : Type 0
  UserHeadersNeedNoCommand = (slot : ℕ) (lender : PortId) (written : U) (old : NumberedHub T U B D) (hub : Hub T U B D)
      (names : List (List ℕ)) (asked : List (Command T)) (answers : List (Reply T))
      → ChangesUserHeader lender slot written old.hub hub
      → HasCalled terms choices names asked answers old
      → HasCalled terms choices names asked answers (hub_after_call old old.made hub)

  -- The header of a numbered sample reports the sequence number of the machine's sample. If a publisher of the sample's domain has a
  -- number, and the header reports its id, it is the publisher of the machine's sample.
  abbrev pub HeaderNamesPublisher : Type 0
  HeaderNamesPublisher = (names : List (List ℕ)) (most : ℕ) (hub : NumberedHub T U B D) (state : State T) (number : ℕ) (made : MadeSample)
      (header : Header)
      → StandsAfter terms.types choices terms.degrades terms.decides terms.reader_degrades names most hub state
      → value_at hub.made.samples number ≡ Some made
      → header_found made.taken (hub_ports made.port.domain hub.hub) ≡ Some header
      → (sample : Sample T) × (among (λ service. service.samples) number state.services ≡ Some sample)
      × (header.sequence ≡ sample.message.sequence)
      × ((publisher : ℕ) (port : PortId) → port_under (value_at hub.made.publishers publisher) ≡ Some port
      → port.domain.service ≡ made.port.domain.service → port.number ≡ header.publisher_id → sample.publisher ≡ publisher)

  -- Reading the header of a sample is a step: the sequence number that the header reports is the machine's answer for the sample. Nothing
  -- changes.
  abbrev pub HeaderIsStep : Type 0
  HeaderIsStep = (number : ℕ) (made : MadeSample) (old : NumberedHub T U B D) (header : Header)
      → value_at old.made.samples number ≡ Some made
      → header_found made.taken (hub_ports made.port.domain old.hub) ≡ Some header
      → IsStepBy terms choices (command.Sequence number) old (reply.Sequence header.sequence) old

  -- What a numbered sample has in its header and its user header was recorded when a send began, by its domain's own numbers, with the
  -- values and the sequence number of the machine's sample. If the publisher that sent it has a number, it is the publisher of the
  -- machine's sample.
  abbrev pub HeaderReadAsSent : Type 0
  HeaderReadAsSent = (names : List (List ℕ)) (most : ℕ) (hub : NumberedHub T U B D) (state : State T) (number : ℕ) (made : MadeSample)
      (sent : List (SentHeader T U))
      → StandsAfter terms.types choices terms.degrades terms.decides terms.reader_degrades names most hub state
      → value_at hub.made.samples number ≡ Some made → TellInHub sent made.port.domain hub.hub
      → (sample : Sample T) × (among (λ service. service.samples) number state.services ≡ Some sample)
      × (told : SentHeader T U) × Contains sent told
      × (told.message.values ≡ sample.message.values) × (told.message.sequence ≡ sample.message.sequence)
      × (header_found made.taken (hub_ports made.port.domain hub.hub) ≡ Some told.header)
      × (option_map (λ message. message.user_header) (message_found made.taken (hub_ports made.port.domain hub.hub))
      ≡ Some told.user_header)
      × ((publisher : ℕ) (port : PortId) → port_under (value_at hub.made.publishers publisher) ≡ Some port
      → port.domain.service ≡ made.port.domain.service → port.number ≡ told.publisher → sample.publisher ≡ publisher)

-- Creating a subscriber in a domain matches the machine's command.
use Rattle.std.specs.Prelude.{ℕ, ◌+◌, ◌^◌, ◌<◌, ◌≡◌, true, List, None, Some, Result, Ok, Err}
use Rattle.iox_command.specs.DomainValues.declared.create_error.SubscriberCreateError.{SubscriberCreateError}
use Rattle.iox_command.specs.DomainValues.declared.degradation.DegradationAction.{DegradationAction}
use Rattle.iox_command.specs.DomainValues.declared.degradation.DegradationInfo.{DegradationInfo}
use Rattle.iox_command.specs.NegotiateBase.DescribeBase.declared.message_type.MessageTypeDetails.{MessageTypeDetails}
use Rattle.iox_command.specs.declared.command.Command.TheVariants as command
use Rattle.iox_command.specs.declared.port.SubscriberOptions.{SubscriberOptions}
use Rattle.iox_command.specs.declared.refusal.Refusal.TheVariants as refusal
use Rattle.iox_command.specs.declared.reply.Reply.{Reply}
use Rattle.iox_command.specs.declared.reply.Reply.TheVariants as reply
use Rattle.iox_domain.specs.DomainPorts.declared.attached.Taken.{Taken}
use Rattle.iox_domain.specs.DomainValues.Sizes.{buffer_of}
use Rattle.iox_domain.specs.Making.{CreatesSubscriber, subscriber_place}
use Rattle.iox_domain.specs.Rolls.{may_change}
use Rattle.iox_domain.specs.Roomy.{AreRoomy}
use Rattle.iox_domain.specs.declared.ports.making.SubscriberConfig.{SubscriberConfig}
use Rattle.iox_domain.specs.declared.ports.service_ports.ServicePorts.{ServicePorts}
use Rattle.iox_domain_machine.specs.Laws.{Matches}
use Rattle.iox_domain_machine.specs.Naming.{Naming, with_name}
use Rattle.iox_domain_machine.specs.Standing.{StandsFor}
use Rattle.iox_domain_machine.specs.Tables.{LentSlot}
use Rattle.iox_machine.specs.Choices.{Choices}
use Rattle.iox_machine.specs.Service.{Service}
use Rattle.iox_machine.specs.State.{State, Factory, is_service_of}
use Rattle.iox_machine.specs.Table.{at}

-- The reply to the creation of a subscriber: it was created under this number, or refused.
abbrev pub came_or_refused : {T : Type 0} → ℕ → Result ℕ SubscriberCreateError → Reply T
came_or_refused name (Ok number) = reply.SubscriberMade name
came_or_refused name (Err why) = reply.Refused (refusal.Subscriber why)

-- The names after the creation of a subscriber: if the one with number `number` was created, it got this name.
abbrev pub with_came : ℕ → ℕ → Result ℕ SubscriberCreateError → Naming → Naming
with_came number name (Ok came) names = record names { subscriber = with_name number name names.subscriber }
with_came number name (Err why) names = names

-- The command asks for what the domain is asked for: a subscriber of this factory, with this buffer size.
pub record IsAskedSo (factory : ℕ) (options : SubscriberOptions) (config : SubscriberConfig) : Type 0 where
  pub owner : config.owner.number ≡ factory
  pub buffer_size : config.buffer_size ≡ options.buffer_size

-- Creating a subscriber through a factory of the service matches the command: it follows the list of publishers, or the reply
-- says why it isn't created. The theorem assumes that no subscriber has the next number, that the service lets at least one
-- message wait, that one more port and one more change of the list of subscribers can be counted, and that the ports are roomy,
-- as they are after any calls (`SamplesLeft`).
abbrev pub SubscriberComesMatches : (T U : Type 0) → Choices T → (DegradationInfo → DegradationAction → Type 0) → Type 0
SubscriberComesMatches T U choices may = (types : MessageTypeDetails) (buffer : ℕ) (names : Naming) (lent : List (ℕ × LentSlot))
    (held : List (ℕ × Taken)) (old new : ServicePorts T U) (service : Service T) (state : State T) (factory : ℕ) (made : Factory)
    (options : SubscriberOptions) (config : SubscriberConfig) (answer : Result ℕ SubscriberCreateError)
    → StandsFor names lent held buffer old service → AreRoomy old → at factory state.factories ≡ Some made
    → is_service_of made service ≡ true → IsAskedSo factory options config → 0 < service.settings.subscriber_max_buffer_size
    → at (state.made.subscribers + 1) service.subscribers ≡ None → old.next_port + 1 < 2 ^ 64 → may_change old.subscriber_list ≡ true
    → CreatesSubscriber may config.owner (buffer_of config.buffer_size old.sizes) (subscriber_place old) old answer new
    → (reader : ℕ → ℕ → ℕ) × Matches T U choices types buffer (command.Subscriber factory options)
    (came_or_refused (state.made.subscribers + 1) answer) state service
    (record (with_came old.next_port (state.made.subscribers + 1) answer names) { reader = reader }) lent held new

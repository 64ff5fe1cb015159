-- Creating a publisher in a domain matches the machine's command.
use Rattle.std.specs.Prelude.{ℕ, ◌+◌, ◌^◌, ◌<◌, ◌≡◌, true, List, None, Some, Result, Ok, Err, unwrap_or}
use Rattle.iox_command.specs.DomainValues.declared.create_error.PublisherCreateError.{PublisherCreateError}
use Rattle.iox_command.specs.DomainValues.declared.degradation.DegradationAction.{DegradationAction}
use Rattle.iox_command.specs.DomainValues.declared.degradation.DegradationInfo.{DegradationInfo}
use Rattle.iox_command.specs.NegotiateBase.DescribeBase.declared.message_type.MessageTypeDetails.{MessageTypeDetails}
use Rattle.iox_command.specs.declared.command.Command.TheVariants as command
use Rattle.iox_command.specs.declared.port.PublisherOptions.{PublisherOptions}
use Rattle.iox_command.specs.declared.refusal.Refusal.TheVariants as refusal
use Rattle.iox_command.specs.declared.reply.Reply.{Reply}
use Rattle.iox_command.specs.declared.reply.Reply.TheVariants as reply
use Rattle.iox_domain.specs.DomainPorts.declared.attached.Taken.{Taken}
use Rattle.iox_domain.specs.Making.{CreatesPublisher, publisher_place, slots_needed}
use Rattle.iox_domain.specs.PortSettings.{publisher_defaults}
use Rattle.iox_domain.specs.Rolls.{may_change}
use Rattle.iox_domain.specs.Roomy.{AreRoomy}
use Rattle.iox_domain.specs.declared.ports.making.PublisherConfig.{PublisherConfig}
use Rattle.iox_domain.specs.declared.ports.service_ports.ServicePorts.{ServicePorts}
use Rattle.iox_domain_machine.specs.Laws.{Matches}
use Rattle.iox_domain_machine.specs.Naming.{Naming, with_name}
use Rattle.iox_domain_machine.specs.Standing.{StandsFor}
use Rattle.iox_domain_machine.specs.Tables.{LentSlot}
use Rattle.iox_machine.specs.Choices.{Choices}
use Rattle.iox_machine.specs.Service.{Service}
use Rattle.iox_machine.specs.State.{State, Factory, is_service_of}
use Rattle.iox_machine.specs.Table.{at}

-- The reply to the creation of a publisher: it was created under this number, or refused.
abbrev pub publisher_came_or_refused : {T : Type 0} → ℕ → Result ℕ PublisherCreateError → Reply T
publisher_came_or_refused name (Ok number) = reply.PublisherMade name
publisher_came_or_refused name (Err why) = reply.Refused (refusal.Publisher why)

-- The names after the creation of a publisher: if the one with number `number` was created, it got this name.
abbrev pub with_publisher_came : ℕ → ℕ → Result ℕ PublisherCreateError → Naming → Naming
with_publisher_came number name (Ok came) names = record names { publisher = with_name number name names.publisher }
with_publisher_came number name (Err why) names = names

-- The command asks for what the domain is asked for: a publisher of this factory, with these limits of loans and of values in a
-- slot of the first segment, single values, and this allocation strategy, each with the domain's default if the command doesn't
-- give it; and with the domain's default as its first sequence number. The override answers as many slots as the command says,
-- or as the worst case needs.
pub record IsPublisherAskedSo (overrides : ℕ → ℕ → Type 0) (factory : ℕ) (options : PublisherOptions)
    (config : PublisherConfig) : Type 0 where
  pub owner : config.owner.number ≡ factory
  pub max_loaned_samples : config.max_loaned_samples ≡ unwrap_or options.max_loaned_samples publisher_defaults.max_loaned_samples
  pub values : config.values ≡ unwrap_or options.initial_max_slice_len publisher_defaults.initial_max_slice_len
  pub unit : config.unit ≡ 1
  pub allocation : config.allocation ≡ unwrap_or options.allocation_strategy publisher_defaults.allocation
  pub first_sequence : config.first_sequence ≡ publisher_defaults.first_sequence
  pub slots : (needed named : ℕ) → overrides needed named → named ≡ unwrap_or options.preallocated_samples needed

-- Creating a publisher through a factory of the service matches the command: it follows the list of subscribers, or the reply
-- says why it isn't created. Connections that it makes get names. The theorem assumes that no publisher has the next number,
-- that one more port and one more change of the list of publishers can be counted, and that the ports are roomy, as they are
-- after any calls (`SamplesLeft`).
abbrev pub PublisherComesMatches : (T U : Type 0) → Choices T → (ℕ → ℕ → Type 0) → (DegradationInfo → DegradationAction → Type 0)
    → Type 0
PublisherComesMatches T U choices overrides may = (types : MessageTypeDetails) (buffer : ℕ) (names : Naming)
    (lent : List (ℕ × LentSlot)) (held : List (ℕ × Taken)) (old new : ServicePorts T U) (service : Service T) (state : State T)
    (factory : ℕ) (made : Factory) (options : PublisherOptions) (config : PublisherConfig) (user_header : U)
    (answer : Result ℕ PublisherCreateError)
    → StandsFor names lent held buffer old service → AreRoomy old → at factory state.factories ≡ Some made
    → is_service_of made service ≡ true → IsPublisherAskedSo overrides factory options config
    → at (state.made.publishers + 1) service.publishers ≡ None → old.next_port + 1 < 2 ^ 64 → may_change old.publisher_list ≡ true
    → CreatesPublisher overrides may config user_header (slots_needed config old) (publisher_place old) old answer new
    → (reader : ℕ → ℕ → ℕ) × Matches T U choices types buffer (command.Publisher factory options)
    (publisher_came_or_refused (state.made.publishers + 1) answer) state service
    (record (with_publisher_came old.next_port (state.made.publishers + 1) answer names) { reader = reader }) lent held new

-- What a node hears, compared with what was sent.
use Rattle.std.specs.Prelude.{ℕ, ◌≡◌, List, Option, None, Some, option_map}
use Rattle.iox_hub.specs.Domain.declared.domain_id.DomainId.{DomainId}
use Rattle.iox_hub.specs.Domain.declared.nobody.Nobody.{Nobody}
use Rattle.iox_hub.specs.Domain.declared.ports.service_ports.ServicePorts.{ServicePorts}
use Rattle.iox_hub.specs.DomainPorts.Messages.{Message}
use Rattle.iox_hub.specs.Delivery.Holding.{message_found}
use Rattle.iox_hub.specs.Delivery.Subscribing.{ReleasesSample}
use Rattle.iox_hub.specs.Delivery.declared.sample.Sample.{Sample}
use Rattle.iox_hub.specs.HubBase.declared.hub.Hub.{Hub}
use Rattle.iox_hub_commands.specs.Command.declared.command.Command.TheVariants as command
use Rattle.iox_hub_commands.specs.Command.declared.reply.Reply.TheVariants as reply
use Rattle.iox_hub_commands.specs.Tables.{without_sample}
use Rattle.iox_hub_commands.specs.Terms.{Terms}
use Rattle.iox_hub_commands.specs.declared.numbered_hub.NumberedHub.{NumberedHub}
use Rattle.example_bus.specs.Steps.{IsBusStep}
use Rattle.example_bus.specs.declared.bus.Heard.{Heard}

-- The time stamp and the values that a node heard.
abbrev pub as_heard : Heard → ℕ × List ℕ
as_heard heard = (heard.stamp, heard.values.items)

-- The time stamp and the values that were sent.
abbrev pub as_sent : Message ℕ ℕ → ℕ × List ℕ
as_sent message = (message.user_header, message.values)

-- What was heard are the time stamp and the values of the message that was received, if one was.
abbrev pub IsHeard : {K : Type 0} → Option Heard → Option (Sample ℕ ℕ K) → Option (ServicePorts ℕ ℕ) → Type 0
IsHeard None None ports = Unit {0}
IsHeard (Some heard) (Some sample) ports = Some (as_heard heard) ≡ option_map as_sent (message_found sample.taken ports)
IsHeard heard sample ports = ⊥

-- The sample that was received is released again, if there is one.
abbrev pub LetsGo : {K H : Type 0} → (DomainId → H → Option (ServicePorts ℕ ℕ)) → (DomainId → ServicePorts ℕ ℕ → H → H)
    → Option (Sample ℕ ℕ K) → H → H → Type 0
LetsGo ports_of with_ports None old new = new ≡ old
LetsGo ports_of with_ports (Some sample) old new = ReleasesSample ports_of with_ports sample.port sample.taken old new

-- In the machine's terms the subscriber with this number receives what is heard, and its sample is released; or nothing waits.
abbrev pub HearsBySteps : Terms ℕ ℕ Nobody Nobody → ℕ → NumberedHub ℕ ℕ Nobody Nobody → Option Heard → Hub ℕ ℕ Nobody Nobody → Type 0
HearsBySteps terms number old None hub = IsBusStep terms (command.Receive number) old reply.NothingWaits (record old { hub = hub })
HearsBySteps terms number old (Some heard) hub = (mid : NumberedHub ℕ ℕ Nobody Nobody)
    × IsBusStep terms (command.Receive number) old (reply.Received old.made.samples.next heard.values) mid
    × IsBusStep terms (command.Release old.made.samples.next) mid reply.Done
    (record mid { hub = hub; made = without_sample old.made.samples.next mid.made })

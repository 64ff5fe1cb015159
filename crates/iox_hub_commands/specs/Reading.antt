-- How numbered samples are read and released, and their sequence numbers reported.
use Rattle.std.specs.Prelude.{ℕ, ◌≡◌, Bool, true, false, List, Option, None, Some, option_map}
use Rattle.iox_delivery.specs.Domain.declared.ports.service_ports.ServicePorts.{ServicePorts}
use Rattle.iox_delivery.specs.Domain.declared.domain_id.DomainId.{DomainId}
use Rattle.iox_delivery.specs.Holding.{message_found, holds_message}
use Rattle.iox_delivery.specs.Subscribing.{ReleasesSample}
use Rattle.iox_hub_commands.specs.declared.ports.made.MadeSample.{MadeSample}

-- The values of the sample with this number, if it is held.
abbrev pub values_under : {T U H : Type 0} → (DomainId → H → Option (ServicePorts T U)) → Option MadeSample → H → Option (List T)
values_under ports_of None home = None
values_under ports_of (Some held) home = option_map (λ message. message.values) (message_found held.taken (ports_of held.port.domain home))

-- The sequence number of the message of the sample with this number, if the sample is held; the message may have none.
abbrev pub sequence_under : {T U H : Type 0} → (DomainId → H → Option (ServicePorts T U)) → Option MadeSample → H → Option (Option ℕ)
sequence_under ports_of None home = None
sequence_under ports_of (Some held) home
    = option_map (λ message. message.sequence) (message_found held.taken (ports_of held.port.domain home))

-- Whether the sample with this number is held.
abbrev pub is_held : {T U H : Type 0} → (DomainId → H → Option (ServicePorts T U)) → Option MadeSample → H → Bool
is_held ports_of None home = false
is_held ports_of (Some held) home = holds_message held.port.number held.taken (ports_of held.port.domain home)

-- The sample with this number is released, if it is held; otherwise nothing happens.
abbrev pub ReleasesUnder : {T U H : Type 0} → (DomainId → H → Option (ServicePorts T U)) → (DomainId → ServicePorts T U → H → H)
    → Option MadeSample → H → Bool → H → Type 0
ReleasesUnder ports_of with_ports held old false new = new ≡ old
ReleasesUnder ports_of with_ports None old true new = ⊥
ReleasesUnder ports_of with_ports (Some held) old true new = ReleasesSample ports_of with_ports held.port held.taken old new

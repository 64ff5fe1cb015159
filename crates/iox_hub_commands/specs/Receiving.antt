-- What the command that receives does.
use Rattle.std.specs.Prelude.{ℕ, ◌≡◌, List, Option, None, Some, IsSome, Result, Ok, Err, option_map}
use Rattle.std.specs.Vec.{vec_items}
use Rattle.std.specs.Global.{Vec}
use Rattle.std.specs.declared.alloc.AllocError.{AllocError}
use Rattle.iox_command.specs.declared.refusal.Refusal.TheVariants as refusal
use Rattle.iox_command.specs.declared.reply.Reply.{Reply}
use Rattle.iox_command.specs.declared.reply.Reply.TheVariants as reply
use Rattle.iox_delivery.specs.Domain.declared.domain_id.DomainId.{DomainId}
use Rattle.iox_delivery.specs.Domain.declared.ports.service_ports.ServicePorts.{ServicePorts}
use Rattle.iox_command.specs.DomainValues.declared.degradation.DegradationAction.{DegradationAction}
use Rattle.iox_command.specs.DomainValues.declared.degradation.DegradationInfo.{DegradationInfo}
use Rattle.iox_command.specs.DomainValues.declared.port_error.ReceiveError.{ReceiveError}
use Rattle.iox_delivery.specs.DomainPorts.declared.attached.Taken.{Taken}
use Rattle.iox_delivery.specs.Holding.{message_found}
use Rattle.iox_delivery.specs.declared.port_id.PortId.{PortId}
use Rattle.iox_hub_commands.specs.Calls.{Receives}
use Rattle.iox_hub_commands.specs.Growing.{GrowsFirst}
use Rattle.iox_hub_commands.specs.Numbering.{ReceivesNumbered}
use Rattle.iox_hub_commands.specs.Reading.{values_under}
use Rattle.iox_hub_commands.specs.Tables.{IsFull}
use Rattle.iox_hub_commands.specs.declared.ports.made.Made.{Made}
use Rattle.iox_hub_commands.specs.declared.ports.made.MadeSample.{MadeSample}
use Rattle.iox_delivery.specs.Container.NumberTable.{NumberTable, inserted, value_at}
use Rattle.iox_hub_commands.specs.Messages.{SomeValues}

module _ {T : Type 0} where
  -- The reply to a received sample: its number, and the values that are read under it.
  abbrev pub IsArrival : ℕ → Option (List T) → Reply T → Type 0
  IsArrival sample None answer = ⊥
  IsArrival sample (Some found) answer = (values : Vec T) × (vec_items values ≡ found) × (answer ≡ reply.Received sample values)

  -- The reply to a receive, if `read` returns the values of a sample by its number.
  abbrev pub IsReceiveReply : (ℕ → Option (List T)) → Option (Result (Option ℕ) ReceiveError) → Reply T → Type 0
  IsReceiveReply read None answer = answer ≡ reply.Skipped
  IsReceiveReply read (Some (Err error)) answer = answer ≡ reply.Refused (refusal.Receive error)
  IsReceiveReply read (Some (Ok None)) answer = answer ≡ reply.NothingWaits
  IsReceiveReply read (Some (Ok (Some sample))) answer = IsArrival sample (read sample) answer

-- The reply to a received sample; there is none if the sample has values and memory runs out for them.
abbrev pub IsShown : {T : Type 0} → ℕ → Option (List T) → Result (Reply T) AllocError → Type 0
IsShown sample found (Ok answer) = IsArrival sample found answer
IsShown sample found (Err lacking) = SomeValues found

-- A sample with at least one value was received.
abbrev pub HasCome : {T : Type 0} → (ℕ → Option (List T)) → Option (Result (Option ℕ) ReceiveError) → Type 0
HasCome read None = ⊥
HasCome read (Some (Err error)) = ⊥
HasCome read (Some (Ok None)) = ⊥
HasCome read (Some (Ok (Some sample))) = SomeValues (read sample)

-- The reply to a receive; there is none if memory runs out for one more number, or for the values of a received sample.
abbrev pub IsTold : {T : Type 0} → (ℕ → Option (List T)) → Result (Option (Result (Option ℕ) ReceiveError)) AllocError
    → Result (Reply T) AllocError → Type 0
IsTold read (Err lacking) answer = answer ≡ Err lacking
IsTold read (Ok received) (Ok told) = IsReceiveReply read received told
IsTold read (Ok received) (Err lacking) = HasCome read received

-- A subscriber receives, and a received sample gets the next number.
abbrev pub ReceiveStep : {T U H : Type 0} → (DomainId → H → Option (ServicePorts T U)) → (DomainId → ServicePorts T U → H → H)
    → (DomainId → ℕ → H → DegradationInfo → DegradationAction → Type 0) → ℕ → Made → H → Result (Reply T) AllocError → Made → H → Type 0
ReceiveStep ports_of with_ports degrades subscriber made old answer made_after new =
    (received : Result (Option (Result (Option ℕ) ReceiveError)) AllocError)
    × GrowsFirst (IsFull made.samples) (ReceivesNumbered ports_of with_ports degrades (value_at made.subscribers subscriber)) made old
    received made_after new
    × IsTold (λ sample. values_under ports_of (value_at made_after.samples sample) new) received answer

-- The values of a held sample. `ports` are those of its domain, if the home contains it.
abbrev pub values_held : {T U : Type 0} → Taken → Option (ServicePorts T U) → Option (List T)
values_held taken ports = option_map (λ message. message.values) (message_found taken ports)

-- A received sample is held.
abbrev pub IsHeldIn : {T U : Type 0} → Option (ServicePorts T U) → Option (Result (Option Taken) ReceiveError) → Type 0
IsHeldIn ports received = (taken : Taken) → received ≡ Some (Ok (Some taken)) → IsSome (values_held taken ports)

-- The reply to what a port received, and the table of samples after it: a received sample gets the next number, and is found under it.
abbrev pub RepliesTo : {T U : Type 0} → PortId → Option (ServicePorts T U) → Option (Result (Option Taken) ReceiveError)
    → NumberTable MadeSample → Result (Reply T) AllocError → NumberTable MadeSample → Type 0
RepliesTo port ports None samples answer after = (answer ≡ Ok reply.Skipped) × (after ≡ samples)
RepliesTo port ports (Some (Err error)) samples answer after = (answer ≡ Ok (reply.Refused (refusal.Receive error))) × (after ≡ samples)
RepliesTo port ports (Some (Ok None)) samples answer after = (answer ≡ Ok reply.NothingWaits) × (after ≡ samples)
RepliesTo port ports (Some (Ok (Some taken))) samples answer after = IsShown samples.next (values_held taken ports) answer
    × (after ≡ inserted samples (record { port = port; taken = taken }))
    × (value_at after samples.next ≡ Some (record { port = port; taken = taken }))

-- A port receives, and what it received is replied.
abbrev pub ReceivesAt : {T U H : Type 0} → (DomainId → H → Option (ServicePorts T U)) → (DomainId → ServicePorts T U → H → H)
    → (DomainId → ℕ → H → DegradationInfo → DegradationAction → Type 0) → PortId → NumberTable MadeSample → H → Result (Reply T) AllocError
    → NumberTable MadeSample → H → Type 0
ReceivesAt ports_of with_ports degrades port samples old answer after new = (received : Option (Result (Option Taken) ReceiveError))
    × Receives ports_of with_ports degrades port old received new × RepliesTo port (ports_of port.domain new) received samples answer after

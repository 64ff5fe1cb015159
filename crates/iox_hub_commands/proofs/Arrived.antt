-- What a port receives is held, and replied with its values.
use Rattle.std.proofs.Common.{◌≡◌, ◌∙◌, ℕ, List, Option, None, Some, IsSome, Result, Ok, Err, option_map, refl, sym, ap, subst, le_refl}
use Rattle.std.specs.declared.alloc.AllocError.{AllocError}
use Rattle.iox_command.specs.declared.reply.Reply.{Reply}
use Rattle.iox_command.specs.declared.reply.Reply.TheVariants as reply
use Rattle.iox_container.proofs.Telling.{found_and_gone}
use Rattle.iox_delivery.specs.Container.NumberTable.{NumberTable, Rises, inserted, value_at}
use Rattle.iox_delivery.specs.declared.port_id.PortId.{PortId}
use Rattle.iox_delivery.specs.Domain.Reading.{sample_in}
use Rattle.iox_delivery.specs.Domain.States.{ports_in}
use Rattle.iox_delivery.specs.Domain.Steps.{ReceivesBy}
use Rattle.iox_delivery.specs.Domain.declared.domain_id.DomainId.{DomainId}
use Rattle.iox_delivery.specs.Domain.declared.ports.service_ports.ServicePorts.{ServicePorts}
use Rattle.iox_delivery.specs.Domain.declared.state.DomainState.{DomainState}
use Rattle.iox_delivery.proofs.Domain.TakenHeld.{received_is_held}
use Rattle.iox_delivery.specs.DomainPorts.Messages.{Message}
use Rattle.iox_delivery.specs.DomainPorts.declared.attached.Taken.{Taken}
use Rattle.iox_command.specs.DomainValues.declared.degradation.DegradationAction.{DegradationAction}
use Rattle.iox_command.specs.DomainValues.declared.degradation.DegradationInfo.{DegradationInfo}
use Rattle.iox_command.specs.DomainValues.declared.port_error.ReceiveError.{ReceiveError}
use Rattle.iox_hub_commands.specs.Calls.{AtPort, Receives}
use Rattle.iox_hub_commands.specs.Numbering.{NumbersSample, ReceivesNumbered}
use Rattle.iox_hub_commands.specs.Reading.{values_under}
use Rattle.iox_hub_commands.specs.Receiving.{IsHeldIn, IsShown, IsTold, ReceivesAt, ReceiveStep, RepliesTo, values_held}
use Rattle.iox_hub_commands.specs.Tables.{IsFull, SameNumbers}
use Rattle.iox_hub_commands.specs.declared.ports.made.Made.{Made}
use Rattle.iox_hub_commands.specs.declared.ports.made.MadeSample.{MadeSample}

-- a message that is held has values
read_some : {T U : Type 0} (ports : Option (ServicePorts T U)) (after : ServicePorts T U) (sample : Taken) (message : Message T U)
    → ports ≡ Some after → sample_in sample after ≡ Some message → IsSome (values_held sample ports)
read_some ports after sample message is held = rw (is, held) refl

-- what is received is held
pub received_held : {T U : Type 0} (may : DegradationInfo → DegradationAction → Type 0) (number : ℕ) (old new : ServicePorts T U)
    (received : Option (Result (Option Taken) ReceiveError)) → ReceivesBy may number old received new → IsHeldIn (Some new) received
received_held may number old new received receives = λ sample is.
    let (message, held) = received_is_held may number old new sample
    (subst (λ one. ReceivesBy may number old one new) is receives) in
    read_some (Some new) new sample message refl held

-- the ports that a step leaves are found at home
pub left_at_home : {T U B D H : Type 0} (domain_of : DomainId → H → Option (DomainState T U B D))
    (changed : DomainId → (DomainState T U B D → DomainState T U B D) → H → H)
    → ((id : DomainId) (step : DomainState T U B D → DomainState T U B D) (home : H)
    → domain_of id (changed id step home) ≡ option_map step (domain_of id home))
    → (id : DomainId) (home : H) (domain after : DomainState T U B D) → domain_of id home ≡ Some domain
    → ports_in (domain_of id (changed id (λ before. after) home)) ≡ Some after.ports
left_at_home domain_of changed changed_found id home domain after found
    = ap ports_in (changed_found id (λ before. after) home) ∙ ap (λ one. ports_in (option_map (λ before. after) one)) found

-- a sample that gets a number is found under it
pub comes_under : (samples : NumberTable MadeSample) (sample : MadeSample) (after : NumberTable MadeSample)
    → Rises 1 samples.entries samples.next → after ≡ inserted samples sample → value_at after samples.next ≡ Some sample
comes_under samples sample after rises is
    = ap (λ table. value_at table samples.next) is ∙ (found_and_gone MadeSample).put samples sample rises

-- what is replied where a sample came
pub replies_taken : {T U : Type 0} (port : PortId) (ports : Option (ServicePorts T U)) (received : Result (Option Taken) ReceiveError)
    (some : Option Taken) (taken : Taken) (samples after : NumberTable MadeSample) (answer : Result (Reply T) AllocError)
    → received ≡ Ok some → some ≡ Some taken → RepliesTo port ports (Some (Ok (Some taken))) samples answer after
    → RepliesTo port ports (Some received) samples answer after
replies_taken port ports received some taken samples after answer is_ok is_some replies =
    subst (λ one. RepliesTo port ports (Some one) samples answer after) (sym is_ok)
    (subst (λ one. RepliesTo port ports (Some (Ok one)) samples answer after) (sym is_some) replies)

-- what is told of a sample that came
told : {T : Type 0} (read : ℕ → Option (List T)) (number : ℕ) (answer : Result (Reply T) AllocError) → IsShown number (read number) answer
    → IsTold read (Ok (Some (Ok (Some number)))) answer
told read number (Ok reply) arrives = arrives
told read number (Err lacking) arrives = arrives

module _ {T U H : Type 0} (ports_of : DomainId → H → Option (ServicePorts T U)) (with_ports : DomainId → ServicePorts T U → H → H)
    (degrades : DomainId → ℕ → H → DegradationInfo → DegradationAction → Type 0) where
  -- what came gets its number
  numbered : (port : PortId) (made : Made) (samples after : NumberTable MadeSample) (new : H) (answer : Result (Reply T) AllocError)
      (came : Option (Result (Option Taken) ReceiveError)) → RepliesTo port (ports_of port.domain new) came samples answer after
      → (numbers : Option (Result (Option ℕ) ReceiveError))
      × NumbersSample (Some port) came (record made { samples = samples }) numbers (record made { samples = after })
      × IsTold (λ sample. values_under ports_of (value_at after sample) new) (Ok numbers) answer
  numbered port made samples after new answer None (is, same) =
      (None, (refl, ap (λ table. record made { samples = table }) same), rw is refl)
  numbered port made samples after new answer (Some (Err error)) (is, same) =
      (Some (Err error), (refl, ap (λ table. record made { samples = table }) same), rw is refl)
  numbered port made samples after new answer (Some (Ok None)) (is, same) =
      (Some (Ok None), (refl, ap (λ table. record made { samples = table }) same), rw is refl)
  numbered port made samples after new answer (Some (Ok (Some taken))) (shows, comes, found) = (
    Some (Ok (Some samples.next)),
    (refl, ap (λ table. record made { samples = table }) comes),
    told (λ sample. values_under ports_of (value_at after sample) new) samples.next answer (rw found shows),
  )

  -- what a port receives is the step of its number
  pub received_under : (subscriber : ℕ) (port : PortId) (made : Made) (samples after : NumberTable MadeSample) (old new : H)
      (answer : Result (Reply T) AllocError) → Some port ≡ value_at made.subscribers subscriber → SameNumbers made.samples samples
      → ReceivesAt ports_of with_ports degrades port samples old answer after new
      → ReceiveStep ports_of with_ports degrades subscriber made old answer (record made { samples = after }) new
  received_under subscriber port made samples after old new answer there same (came, receives, replies) =
      let (numbers, gets, told) = numbered port made samples after new answer came replies in
      let P : Option PortId → Type 0 = λ found. ReceivesNumbered ports_of with_ports degrades found (record made { samples = samples }) old
      numbers (record made { samples = after }) new in (
        Ok numbers,
        (
          record made { samples = samples },
          ((refl, refl, le_refl _), (refl, refl, le_refl _), (refl, refl, le_refl _), same),
          subst P there (came, receives, gets),
        ),
        told,
      )

  -- a command at a number without a subscriber is skipped
  pub nobody_receives : (subscriber : ℕ) (made : Made) (home : H) (found : Option PortId) → found ≡ value_at made.subscribers subscriber
      → ((port : PortId) → found ≡ Some port → ⊥)
      → ReceiveStep ports_of with_ports degrades subscriber made home (Ok reply.Skipped) made home
  nobody_receives subscriber made home None there nobody = (
    Ok None,
    (
      made,
      ((refl, refl, le_refl _), (refl, refl, le_refl _), (refl, refl, le_refl _), (refl, refl, le_refl _)),
      (None, subst (λ found. AtPort (Receives ports_of with_ports degrades) found home None home) there (refl, refl), (refl, refl)),
    ),
    refl,
  )
  nobody_receives subscriber made home (Some port) there nobody = absurd (nobody port refl)

  -- without memory for a number nothing happens
  pub lacks_number : (subscriber : ℕ) (made : Made) (after : NumberTable MadeSample) (home : H) (lacking : AllocError)
      (answer : Result (Reply T) AllocError) → IsFull made.samples → after ≡ made.samples → answer ≡ Err lacking
      → ReceiveStep ports_of with_ports degrades subscriber made home answer (record made { samples = after }) home
  lacks_number subscriber made after home lacking answer full same is =
      (Err lacking, (full, ap (λ table. record made { samples = table }) same, refl), is)

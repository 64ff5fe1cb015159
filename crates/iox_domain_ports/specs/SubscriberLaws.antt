-- Theorems about the steps of a subscriber.
use Rattle.std.specs.Prelude.{ℕ, ◌≡◌, true, List, Option, Some, Result, Ok}
use Rattle.iox_domain_values.specs.declared.port_error.ReceiveError.{ReceiveError}
use Rattle.iox_domain_ports.specs.declared.publisher_port.PublisherPort.{PublisherPort}
use Rattle.iox_domain_ports.specs.Subscribing.{gives}
use Rattle.iox_domain_ports.specs.Receiving.{Receives}
use Rattle.iox_domain_ports.specs.declared.attached.Taken.{Taken}
use Rattle.iox_domain_ports.specs.declared.subscriber_port.SubscriberPort.{SubscriberPort}

-- A subscriber receives a message exactly if some connection below the limit of borrowed messages has data.
pub record ReceivesIfGiven (T U : Type 0) : Type 0 where
  pub some : (port new : SubscriberPort) (ports new_ports : List (ℕ
      × PublisherPort T U)) (answer : Result (Option Taken) ReceiveError) (key : ℕ)
      → Receives port ports answer new new_ports → gives port ports key ≡ true → (taken : Taken) × (answer ≡ Ok (Some taken))
  pub none : (port new : SubscriberPort) (ports new_ports : List (ℕ
      × PublisherPort T U)) (answer : Result (Option Taken) ReceiveError) (taken : Taken)
      → Receives port ports answer new new_ports → answer ≡ Ok (Some taken) → (key : ℕ) × (gives port ports key ≡ true)

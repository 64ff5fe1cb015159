-- What is heard on a bus is heard by steps of the machine.
use Rattle.std.proofs.Common.{◌≡◌, ℕ, List, Option, None, Some, Result, Ok, Err, ap, option_map, refl, subst, sym}
use Rattle.iox_hub.specs.Delivery.Holding.{message_found}
use Rattle.iox_hub.specs.Delivery.Publishing.{FollowsSubscribers}
use Rattle.iox_hub.specs.Delivery.Subscribing.{ReceivesSample}
use Rattle.iox_hub.specs.Delivery.declared.kind.Slice.{Slice}
use Rattle.iox_hub.specs.Delivery.declared.port_id.PortId.{PortId}
use Rattle.iox_hub.specs.Delivery.declared.sample.Sample.{Sample}
use Rattle.iox_hub.specs.Domain.declared.nobody.Nobody.{Nobody}
use Rattle.iox_hub.specs.DomainPorts.Messages.{Message}
use Rattle.iox_hub.specs.DomainValues.declared.connection_failure.ConnectionFailure.{ConnectionFailure}
use Rattle.iox_hub.specs.HubBase.AsHome.{hub_ports, with_hub_ports}
use Rattle.iox_hub.specs.HubBase.declared.hub.Hub.{Hub}
use Rattle.iox_hub.specs.Recorded.{all_handed}
use Rattle.iox_hub.specs.Turns.{choices_of}
use Rattle.iox_hub_commands.specs.Command.declared.command.Command.TheVariants as command
use Rattle.iox_hub_commands.specs.Command.declared.reply.Reply.TheVariants as reply
use Rattle.iox_hub_commands.specs.CommandSteps.{publisher_may_degrade, subscriber_may_degrade}
use Rattle.iox_hub_commands.specs.Container.NumberTable.{value_at}
use Rattle.iox_hub_commands.specs.Numbering.{with_sample}
use Rattle.iox_hub_commands.specs.Terms.{Terms}
use Rattle.iox_hub_commands.specs.declared.numbered_hub.NumberedHub.{NumberedHub}
use Rattle.iox_hub_machine.specs.TypedSteps.{hub_after_call}
use Rattle.iox_hub_machine.specs.TypedSubscribing.{SubscriberCallsAreSteps}
use Rattle.example_bus.proofs.ReceivedOnce.{released_next}
use Rattle.example_bus.specs.Heard.{HearsBySteps, IsHeard, LetsGo, as_heard, as_sent}
use Rattle.example_bus.specs.declared.bus.Heard.{Heard}

-- a publisher that is named otherwise, and whose answer is known, followed
pub followed : {T : Type 0} (terms : Terms T ℕ Nobody Nobody) (port named : PortId) (old new : Hub T ℕ Nobody Nobody)
    (answer : Result (Unit {0}) ConnectionFailure) → port ≡ named → answer ≡ Ok tt
    → FollowsSubscribers hub_ports with_hub_ports (publisher_may_degrade terms.degrades) port old answer new
    → FollowsSubscribers hub_ports with_hub_ports (publisher_may_degrade terms.degrades) named old (Ok tt) new
followed terms port named old new answer same was follows =
    subst (λ (id : PortId). FollowsSubscribers hub_ports with_hub_ports (publisher_may_degrade terms.degrades) id old (Ok tt) new) same
    (subst (λ (it : Result (Unit {0}) ConnectionFailure). FollowsSubscribers hub_ports with_hub_ports (publisher_may_degrade terms.degrades)
    port old it new) was follows)

values_so : (heard : Heard) (found : Option (Message ℕ ℕ)) → Some (as_heard heard) ≡ option_map as_sent found
    → option_map (λ (message : Message ℕ ℕ). message.values) found ≡ Some heard.values.items
values_so heard None is = cc
values_so heard (Some message) is = sym (ap (λ (found : Option (ℕ × List ℕ)). option_map (λ (it : ℕ × List ℕ). it.1) found) is)

module _ (terms : Terms ℕ ℕ Nobody Nobody)
    (steps : SubscriberCallsAreSteps Slice terms (choices_of terms (all_handed (record {}) (record {})))) where
  pub hears_by_steps : (port : PortId) (old : NumberedHub ℕ ℕ Nobody Nobody) (received new : Hub ℕ ℕ Nobody Nobody)
      (heard : Option Heard) (sample : Option (Sample ℕ ℕ Slice)) (number : ℕ) → value_at old.made.subscribers number ≡ Some port
      → ReceivesSample hub_ports with_hub_ports (subscriber_may_degrade terms.reader_degrades) port old.hub (Ok sample) received
      → IsHeard heard sample (hub_ports port.domain received) → LetsGo hub_ports with_hub_ports sample received new
      → HearsBySteps terms number old heard new
  hears_by_steps port old received new None None number there receives nothing same =
      subst (λ (hub : Hub ℕ ℕ Nobody Nobody). HearsBySteps terms number old None hub) (sym same)
      (steps.receive number port old received (Ok None) reply.NothingWaits there receives refl)
  hears_by_steps port old received new None (Some sample) number there receives never goes = absurd never
  hears_by_steps port old received new (Some heard) None number there receives never goes = absurd never
  hears_by_steps port old received new (Some heard) (Some sample) number there receives is goes =
      let of_port : sample.port ≡ port = sample_of receives in (
        hub_after_call old (with_sample sample.port sample.taken old.made) received,
        steps.receive number port old received (Ok (Some sample)) (reply.Received old.made.samples.next heard.values) there receives (
          heard.values,
          values_so heard (message_found sample.taken (hub_ports sample.port.domain received))
              (subst (λ (id : PortId). Some (as_heard heard) ≡ option_map as_sent (message_found sample.taken
              (hub_ports id.domain received))) (sym of_port) is),
          refl,
        ),
        released_next terms (choices_of terms (all_handed (record {}) (record {}))) steps old sample received new goes,
      )
    where
      sample_of : ReceivesSample hub_ports with_hub_ports (subscriber_may_degrade terms.reader_degrades) port old.hub (Ok (Some sample))
          received → sample.port ≡ port
      sample_of (Ok (Some taken), takes, told) = cc
      sample_of (Ok None, takes, told) = cc
      sample_of (Err why, takes, told) = cc

-- A node is made.
use Rattle.std.proofs.Common.{◌≡◌, ℕ, ◌+◌, ◌^◌, ◌<◌, List, sym, ap, subst, ◌∙◌, inl, arith}
use Rattle.iox_command.specs.DomainValues.declared.backpressure.BackpressureDecision.{BackpressureDecision}
use Rattle.iox_command.specs.DomainValues.declared.backpressure.BackpressureInfo.{BackpressureInfo}
use Rattle.iox_command.specs.DomainValues.declared.degradation.DegradationAction.{DegradationAction}
use Rattle.iox_command.specs.DomainValues.declared.degradation.DegradationCause.{DegradationCause}
use Rattle.iox_command.specs.DomainValues.declared.degradation.DegradationInfo.{DegradationInfo}
use Rattle.iox_command.specs.NegotiateBase.DescribeBase.declared.pattern.MessagingPattern.{MessagingPattern}
use Rattle.iox_command.specs.declared.reply.Reply.{Reply}
use Rattle.iox_command.specs.declared.reply.Reply.TheVariants as reply
use Rattle.iox_domain.specs.declared.ports.service_ports.ServicePorts.{ServicePorts}
use Rattle.iox_domain_machine.specs.Naming.{Naming}
use Rattle.iox_hub_base.specs.Hubs.{one_more}
use Rattle.iox_hub_commands.specs.declared.numbered_hub.NumberedHub.{NumberedHub}
use Rattle.iox_hub_commands.specs.Terms.{Terms}
use Rattle.iox_hub_machine.proofs.PortsStay.{ports_stay}
use Rattle.iox_hub_machine.specs.ServiceLaws.{NodeMatches}
use Rattle.iox_hub_machine.specs.Services.{HubStandsFor}
use Rattle.iox_machine.specs.Choices.{Choices}
use Rattle.iox_machine.specs.State.{State, counted}

one_node_more : (nodes : ℕ) → nodes + 1 < 2 ^ 64 → one_more nodes ≡ nodes + 1
one_node_more nodes few = omega (arith, few)

module _ {T U B D : Type 0} (choices : Choices T) (degrades : B → DegradationCause → DegradationInfo → DegradationAction → Type 0)
    (decides : B → BackpressureInfo → BackpressureDecision → Type 0)
    (reader_degrades : D → DegradationCause → DegradationInfo → DegradationAction → Type 0) where
  node_stands : (names : List (List ℕ)) (taken : MessagingPattern → List ℕ → List ℕ) (naming : ℕ → Naming)
      (order : List (ℕ × ServicePorts T U)) (hub : NumberedHub T U B D)
      (state : State T) (nodes nodes_made : ℕ) → nodes ≡ nodes_made
      → HubStandsFor choices degrades decides reader_degrades names taken naming order hub state
      → HubStandsFor choices degrades decides reader_degrades names taken naming order
      (record hub { hub = record hub.hub { nodes = nodes } })
      (record state { made = record state.made { nodes = nodes_made } })
  node_stands names taken naming order hub state nodes nodes_made same stands = record {
    nodes = same;
    table = record { reached = stands.table.reached; phases = stands.table.phases };
    id = stands.id;
    factories = record {
      numbers = stands.factories.numbers;
      owners = stands.factories.owners;
      same = stands.factories.same;
      each = λ number made found.
          let it = stands.factories.each number made found in
          record { asked = it.asked; owner = it.owner; storage = it.storage; serves = it.serves };
      seats = stands.factories.seats;
      counts = stands.factories.counts;
      opened = stands.factories.opened;
    };
    served = stands.served;
    ports = ports_stay choices degrades decides reader_degrades naming order hub state hub.hub.table nodes nodes_made hub.factories
        hub.pledged
        state.phases stands.ports;
  }

pub node_matches : {T U B D : Type 0} (terms : Terms T U B D) (choices : Choices T) → NodeMatches terms choices
node_matches {T} {U} {B} {D} terms choices names taken naming order old new state answer few stands does =
    let one : one_more old.hub.nodes ≡ state.made.nodes + 1 =
    one_node_more old.hub.nodes few ∙ ap (λ (n : ℕ). n + 1) stands.nodes in
    let told : answer ≡ reply.NodeMade (state.made.nodes + 1) = does.0 ∙ ap (λ (n : ℕ). reply.NodeMade n) one in
    record {
      taken = taken;
      naming = naming;
      order = order;
      after = record state { made = record state.made { nodes = state.made.nodes + 1 } };
      step = inl (told, ap (λ (a : Reply T). record state { made = counted a state.made }) (sym told));
      stands = subst (λ (hub : NumberedHub T U B D). HubStandsFor choices terms.degrades terms.decides terms.reader_degrades names taken
          naming order hub (record state { made = record state.made { nodes = state.made.nodes + 1 } })) (sym does.1)
          (node_stands choices terms.degrades terms.decides terms.reader_degrades names taken naming order old state
          (one_more old.hub.nodes) (state.made.nodes + 1) one stands);
    }

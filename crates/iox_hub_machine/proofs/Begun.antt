-- A new hub stands for a new machine, after no command.
use Rattle.std.proofs.Common.{[], refl}
use Rattle.iox_command.specs.DomainValues.declared.backpressure.BackpressureDecision.{BackpressureDecision}
use Rattle.iox_command.specs.DomainValues.declared.backpressure.BackpressureInfo.{BackpressureInfo}
use Rattle.iox_command.specs.DomainValues.declared.degradation.DegradationAction.{DegradationAction}
use Rattle.iox_command.specs.DomainValues.declared.degradation.DegradationCause.{DegradationCause}
use Rattle.iox_command.specs.DomainValues.declared.degradation.DegradationInfo.{DegradationInfo}
use Rattle.iox_command.specs.NegotiateBase.DescribeBase.declared.message_type.MessageTypeDetails.{MessageTypeDetails}
use Rattle.iox_domain_machine.specs.Naming.{nameless}
use Rattle.iox_hub_machine.proofs.NewHub.{new_hub_stands}
use Rattle.iox_hub_machine.proofs.RunsOn.{new_runs_on}
use Rattle.iox_hub_machine.specs.GoingOnLaws.{NewHubBegins}
use Rattle.iox_machine.specs.Choices.{Choices}

module _ {T U B D : Type 0} (types : MessageTypeDetails) (choices : Choices T)
    (degrades : B → DegradationCause → DegradationInfo → DegradationAction → Type 0)
    (decides : B → BackpressureInfo → BackpressureDecision → Type 0)
    (reader_degrades : D → DegradationCause → DegradationInfo → DegradationAction → Type 0) where
  pub hub_begins : NewHubBegins U types choices degrades decides reader_degrades
  hub_begins names config old is_new = record {
    taken = λ pattern name. [];
    naming = λ service. nameless;
    order = [];
    stands = new_hub_stands T U choices degrades decides reader_degrades names config old is_new;
    came = ([], [], (refl, refl));
    ran = new_runs_on config old is_new;
  }

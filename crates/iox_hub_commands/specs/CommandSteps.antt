-- What each command does to a hub, and what the reply is.
use Rattle.std.specs.Prelude.{ℕ, ◌≡◌, Result, Ok, Err, OnErr}
use Rattle.std.specs.declared.alloc.AllocError.{AllocError}
use Rattle.iox_command.specs.declared.command.Command.{Command}
use Rattle.iox_command.specs.declared.command.Command.TheVariants as command
use Rattle.iox_command.specs.Ports.{command_of}
use Rattle.iox_command.specs.declared.ports.port_command.PortCommand.{PortCommand}
use Rattle.iox_command.specs.declared.reply.Reply.{Reply}
use Rattle.iox_delivery.specs.Domain.Handling.{kept_degrades, kept_decides}
use Rattle.iox_hub_base.specs.AsHome.{hub_ports, with_hub_ports, without_hub_publisher, without_hub_subscriber}
use Rattle.iox_hub_base.specs.declared.hub.Hub.{Hub}
use Rattle.iox_hub_base.specs.ServicesAsHome.{domain_at, publisher_handlers_in, subscriber_handler_in}
use Rattle.iox_delivery.specs.Domain.declared.domain_id.DomainId.{DomainId}
use Rattle.iox_command.specs.DomainValues.declared.backpressure.BackpressureDecision.{BackpressureDecision}
use Rattle.iox_command.specs.DomainValues.declared.backpressure.BackpressureInfo.{BackpressureInfo}
use Rattle.iox_command.specs.DomainValues.declared.degradation.DegradationAction.{DegradationAction}
use Rattle.iox_command.specs.DomainValues.declared.degradation.DegradationCause.{DegradationCause}
use Rattle.iox_command.specs.DomainValues.declared.degradation.DegradationInfo.{DegradationInfo}
use Rattle.iox_hub_commands.specs.Following.{UpdateStep, HasStep, LeaveStep}
use Rattle.iox_hub_commands.specs.Lending.{LoanStep, LoanUninitStep, PutStep}
use Rattle.iox_hub_commands.specs.Messages.{SetStep, FillStep, DropStep, SendStep, RetryStep, GiveUpStep, ReadStep, SequenceStep}
use Rattle.iox_hub_commands.specs.Messages.{ReleaseStep}
use Rattle.iox_hub_commands.specs.PortRoom.{GrowsAs, HasRoom, KeepsRoom, LacksInRoom}
use Rattle.iox_hub_commands.specs.Receiving.{ReceiveStep}
use Rattle.iox_hub_commands.specs.Services.{NodeMakes, Creates, Opens, OpensOrCreates, Acts, Closes, MakesPublisher, MakesSubscriber}
use Rattle.iox_hub_commands.specs.declared.numbered_hub.NumberedHub.{NumberedHub}
use Rattle.iox_hub_commands.specs.Terms.{Terms}

-- The command always has a reply, for which `does` holds.
abbrev pub IsReplied : {T : Type 0} → (Reply T → Type 0) → Result (Reply T) AllocError → Type 0
IsReplied does (Ok reply) = does reply
IsReplied does (Err lacking) = ⊥

-- A command does this to a hub, with this reply; or it is a command on a port, and nothing happens yet.
abbrev pub StepsUnlessOfPort : {T H : Type 0} → (Command T → H → Result (Reply T) AllocError → H → Type 0) → Command T → H
    → Result (Reply T) (PortCommand T) → H → Type 0
StepsUnlessOfPort steps asked old (Ok reply) new = steps asked old (Ok reply) new
StepsUnlessOfPort steps asked old (Err of_port) new = (asked ≡ command_of of_port) × (new ≡ old)

module _ {T U B D : Type 0} where
  -- The actions that the handlers of a publisher of the hub may answer if a connection of the publisher failed.
  abbrev pub publisher_may_degrade : (B → DegradationCause → DegradationInfo → DegradationAction → Type 0) → DomainId → ℕ → Hub T U B D
      → DegradationInfo → DegradationAction → Type 0
  publisher_may_degrade degrades id number hub = kept_degrades degrades (publisher_handlers_in number (domain_at id hub.services))

  -- The decisions that the handlers of a publisher of the hub may answer if a mailbox is full.
  abbrev pub publisher_may_decide : (B → BackpressureInfo → BackpressureDecision → Type 0) → DomainId → ℕ → Hub T U B D
      → BackpressureInfo → BackpressureDecision → Type 0
  publisher_may_decide decides id number hub = kept_decides decides (publisher_handlers_in number (domain_at id hub.services))

  -- The actions that the handler of a subscriber of the hub may answer if a connection of the subscriber failed.
  abbrev pub subscriber_may_degrade : (D → DegradationCause → DegradationInfo → DegradationAction → Type 0) → DomainId → ℕ → Hub T U B D
      → DegradationInfo → DegradationAction → Type 0
  subscriber_may_degrade degrades id number hub = kept_degrades degrades (subscriber_handler_in number (domain_at id hub.services))

  -- What each command does to a hub with these terms, and what its reply is. `Err` is a command without a reply: memory ran out for a
  -- number, or for the values of the reply.
  abbrev pub Step : Terms T U B D → Command T → NumberedHub T U B D → Result (Reply T) AllocError → NumberedHub T U B D → Type 0
  Step terms command.Node old answer new =
      IsReplied (λ reply. NodeMakes old reply new) answer
  Step terms (command.Create node name options attributes steps) old answer new =
      IsReplied (λ reply. Creates terms.payload terms.user_header terms.types (record { node = node; name = name; options = options })
      attributes steps old reply new) answer
  Step terms (command.Open node name options requirements steps) old answer new =
      IsReplied (λ reply. Opens terms.payload terms.user_header terms.types (record { node = node; name = name; options = options })
      requirements steps old reply new) answer
  Step terms (command.OpenOrCreate node name options requirements steps) old answer new =
      IsReplied (λ reply. OpensOrCreates terms.payload terms.user_header terms.types
      (record { node = node; name = name; options = options }) requirements steps old reply new) answer
  Step terms (command.Foreign pattern name steps) old answer new =
      IsReplied (λ reply. Acts pattern name terms.types steps old reply new) answer
  Step terms (command.Close factory) old answer new =
      IsReplied (λ reply. Closes factory old reply new) answer
  Step terms (command.Publisher factory options) old answer new =
      IsReplied (λ reply. MakesPublisher terms.is_default_header terms.fixed terms.degrades factory options old reply new) answer
  Step terms (command.Subscriber factory options) old answer new =
      IsReplied (λ reply. MakesSubscriber terms.fixed_reader terms.reader_degrades factory options old reply new) answer
  Step terms (command.Loan publisher length) old answer new =
      LoanStep hub_ports with_hub_ports terms.is_default publisher length old.made old.hub answer new.made new.hub
      × (new.factories ≡ old.factories)
  Step terms (command.LoanUninit publisher length) old answer new =
      LoanUninitStep hub_ports with_hub_ports publisher length old.made old.hub answer new.made new.hub × (new.factories ≡ old.factories)
  Step terms (command.Set loan place value) old answer new =
      IsReplied (λ reply. SetStep hub_ports with_hub_ports loan place value old.made old.hub reply new.hub
      × (new ≡ record old { hub = new.hub })) answer
  Step terms (command.Fill loan values) old answer new =
      IsReplied (λ reply. FillStep hub_ports with_hub_ports loan values old.made old.hub reply new.hub
      × (new ≡ record old { hub = new.hub })) answer
  Step terms (command.Drop loan) old answer new =
      IsReplied (λ reply. DropStep hub_ports with_hub_ports loan old.made old.hub reply new.made new.hub
      × (new.factories ≡ old.factories)) answer
  Step terms (command.Send loan) old answer new =
      IsReplied (λ reply. SendStep hub_ports with_hub_ports (publisher_may_degrade terms.degrades) (publisher_may_decide terms.decides)
      loan old.made old.hub reply new.made new.hub × (new.factories ≡ old.factories)) answer
  Step terms (command.Put publisher values) old answer new =
      IsReplied (λ reply. PutStep hub_ports with_hub_ports (publisher_may_degrade terms.degrades) (publisher_may_decide terms.decides)
      publisher values old.made old.hub reply new.hub × (new ≡ record old { hub = new.hub })) answer
  Step terms (command.Retry publisher nanoseconds) old answer new =
      IsReplied (λ reply. RetryStep hub_ports with_hub_ports (publisher_may_decide terms.decides) publisher nanoseconds old.made old.hub
      reply new.hub × (new ≡ record old { hub = new.hub })) answer
  Step terms (command.GiveUp publisher) old answer new =
      IsReplied (λ reply. GiveUpStep hub_ports with_hub_ports publisher old.made old.hub reply new.hub
      × (new ≡ record old { hub = new.hub })) answer
  Step terms (command.Receive subscriber) old answer new =
      ReceiveStep hub_ports with_hub_ports (subscriber_may_degrade terms.reader_degrades) subscriber old.made old.hub answer new.made
      new.hub × (new.factories ≡ old.factories)
  Step terms (command.Read sample) old answer new =
      ReadStep hub_ports sample old.made old.hub answer × (new ≡ old)
  Step terms (command.Sequence sample) old answer new =
      IsReplied (λ reply. SequenceStep hub_ports sample old.made old.hub reply × (new ≡ old)) answer
  Step terms (command.Release sample) old answer new =
      IsReplied (λ reply. ReleaseStep hub_ports with_hub_ports sample old.made old.hub reply new.made new.hub
      × (new.factories ≡ old.factories)) answer
  Step terms (command.Update port) old answer new =
      IsReplied (λ reply. UpdateStep hub_ports with_hub_ports (publisher_may_degrade terms.degrades)
      (subscriber_may_degrade terms.reader_degrades) port old.made old.hub reply new.hub × (new ≡ record old { hub = new.hub })) answer
  Step terms (command.Leave port) old answer new =
      IsReplied (λ reply. LeaveStep hub_ports with_hub_ports without_hub_publisher without_hub_subscriber port old.made old.hub reply
      new.made new.hub × (new.factories ≡ old.factories)) answer
  Step terms (command.Has subscriber) old answer new =
      IsReplied (λ reply. HasStep hub_ports with_hub_ports (subscriber_may_degrade terms.reader_degrades) subscriber old.made old.hub
      reply new.hub × (new ≡ record old { hub = new.hub })) answer

  -- What each command does, as `Step` says, how far the capacity for numbers grows where it creates a port, and, if the ports have the
  -- capacity that they need, that they keep it, and for which values memory ran out where there is no reply.
  pub record StepInRoom (terms : Terms T U B D) (asked : Command T) (old : NumberedHub T U B D) (answer : Result (Reply T) AllocError)
      (new : NumberedHub T U B D) : Type 0 where
    pub step : Step terms asked old answer new
    pub capacity : GrowsAs asked old new
    pub room : KeepsRoom old new
    pub lacks : HasRoom old → OnErr answer (LacksInRoom asked old new)

-- What a hub does where a call can't be made: nothing, as for a command that is skipped.
use Rattle.std.proofs.Common.{◌≡◌, ◌∙◌, ◌==◌, ◌&&◌, ◌||◌, ℕ, Bool, true, false, not, Option, None, Some, refl, sym, ap, subst}
use Rattle.std.proofs.Common.{if◌then◌else◌, Result, Ok, Err}
use Rattle.std.specs.Option.{unwrap_or}
use Rattle.iox_delivery.proofs.Ready.{sample_releases}
use Rattle.iox_delivery.specs.Holding.{holds_message, publisher_blocked, publisher_stands}
use Rattle.iox_delivery.specs.Subscribing.{DropsAt}
use Rattle.iox_delivery.specs.declared.port_id.PortId.{PortId}
use Rattle.iox_domain.specs.AtHomes.{AtDomain}
use Rattle.iox_domain.specs.DomainPorts.Publishers.{port_of}
use Rattle.iox_domain.specs.DomainPorts.declared.attached.Taken.{Taken}
use Rattle.iox_domain.specs.DomainPorts.declared.publisher_port.PublisherPort.{PublisherPort}
use Rattle.iox_domain.specs.Lending.{passes_port}
use Rattle.iox_domain.specs.Ports.{AtPublisher}
use Rattle.iox_domain.specs.PortsPublishing.{RetriesIf, RetriesOne, UpdatesIf, UpdatesOne, is_blocked}
use Rattle.iox_domain.specs.Steps.{RetriesBy, UpdatesBy}
use Rattle.iox_domain.specs.declared.domain_id.DomainId.{DomainId}
use Rattle.iox_domain.specs.declared.ports.service_ports.ServicePorts.{ServicePorts}
use Rattle.iox_hub_base.specs.AsHome.{hub_ports, with_hub_ports}
use Rattle.iox_hub_base.specs.declared.hub.Hub.{Hub}
use Rattle.iox_hub_commands.specs.Calls.{may_lend, ready}
use Rattle.iox_hub_commands.specs.DomainValues.declared.backpressure.BackpressureDecision.{BackpressureDecision}
use Rattle.iox_hub_commands.specs.DomainValues.declared.backpressure.BackpressureInfo.{BackpressureInfo}
use Rattle.iox_hub_commands.specs.DomainValues.declared.degradation.DegradationAction.{DegradationAction}
use Rattle.iox_hub_commands.specs.DomainValues.declared.degradation.DegradationInfo.{DegradationInfo}
use Rattle.iox_hub_commands.specs.Tables.{lender, port_under}
use Rattle.iox_hub_commands.specs.declared.ports.made.MadePublisher.{MadePublisher}
use Rattle.iox_hub_commands.specs.Terms.{Terms}
use Rattle.iox_hub_commands.specs.declared.numbered_hub.NumberedHub.{NumberedHub}
use Rattle.iox_hub_machine.proofs.Housed.{put_again}
use Rattle.iox_hub_machine.proofs.TypedSteps.{IsChosen}
use Rattle.iox_machine.specs.Choices.{Choices}
use Rattle.iox_command.specs.declared.command.Command.{Command}
use Rattle.iox_command.specs.declared.command.Command.TheVariants as command
use Rattle.iox_command.specs.declared.reply.Reply.{Reply}
use Rattle.iox_command.specs.declared.reply.Reply.TheVariants as reply
use Rattle.iox_hub_commands.specs.DescribeBase.declared.type_detail.TypeVariant.TheVariants.{Dynamic}

-- what is so isn't not so
pub never_so : {X : Type 0} (b : Bool) → b ≡ true → b ≡ false → X
never_so true is never = cc
never_so false is never = cc

-- who may lend has no blocked send
pub not_waiting : (stands waits : Bool) → (stands && not waits) ≡ true → waits ≡ false
not_waiting true true may = cc
not_waiting true false may = refl
not_waiting false true may = cc
not_waiting false false may = refl

module _ {T U B D : Type 0} where
  ready_if : (b : Bool) (who : PortId) (hub : Hub T U B D) → may_lend hub_ports who hub ≡ false
      → ready hub_ports (if b then Some who else None) hub ≡ None
  ready_if true who hub never = rw never refl
  ready_if false who hub never = refl

  -- a publisher that may not lend isn't ready
  pub none_ready : (elements : ℕ) (found : Option MadePublisher) (who : PortId) (hub : Hub T U B D) → port_under found ≡ Some who
      → may_lend hub_ports who hub ≡ false → ready hub_ports (lender elements found) hub ≡ None
  none_ready elements None who hub there never = refl
  none_ready elements (Some made) who hub there never =
      let same : made.port ≡ who = ap (λ (it : Option PortId). unwrap_or it who) there in
      ready_if (made.holds_slices || (elements == 1)) made.port hub
      (ap (λ (port : PortId). may_lend hub_ports port hub) same ∙ never)

module _ {T U : Type 0} (may : BackpressureInfo → BackpressureDecision → Type 0) (number elapsed : ℕ) (ports : ServicePorts T U) where
  not_tried : (port : Option (PublisherPort T U)) → passes_port is_blocked port ≡ false
      → AtPublisher number (RetriesOne may elapsed) port ports None ports
  not_tried None never = (refl, refl)
  not_tried (Some port) never =
      (port, subst (λ (b : Bool). RetriesIf b may elapsed port None port) (sym never) (refl, refl), refl)

module _ {T U : Type 0} (may : DegradationInfo → DegradationAction → Type 0) (number : ℕ) (ports : ServicePorts T U) where
  not_followed : (port : Option (PublisherPort T U)) → (passes_port (λ it. it.stands) port && not (passes_port is_blocked port)) ≡ false
      → AtPublisher number (UpdatesOne may ports.subscriber_list) port ports None ports
  not_followed None never = (refl, refl)
  not_followed (Some port) never =
      (port, subst (λ (b : Bool). UpdatesIf b may ports.subscriber_list port None port) (sym never) (refl, refl), refl)

module _ {T U B D : Type 0} where
  -- a publisher that may not lend follows nothing
  pub follows_none : (may : DegradationInfo → DegradationAction → Type 0) (who : PortId) (hub : Hub T U B D)
      (found : Option (ServicePorts T U)) → hub_ports who.domain hub ≡ found
      → (publisher_stands who.number found && not (publisher_blocked who.number found)) ≡ false
      → AtDomain (λ (after : ServicePorts T U). with_hub_ports who.domain after hub) (UpdatesBy may who.number) found hub None hub
  follows_none may who hub None is never = (refl, refl)
  follows_none may who hub (Some ports) is never = (
    ports,
    not_followed may who.number ports (port_of who.number ports.publishers) never,
    sym (put_again who.domain ports hub is),
  )

  -- where no send of a publisher waits, none is tried again
  pub tries_none : (may : BackpressureInfo → BackpressureDecision → Type 0) (elapsed : ℕ) (who : PortId) (hub : Hub T U B D)
      (found : Option (ServicePorts T U)) → hub_ports who.domain hub ≡ found → publisher_blocked who.number found ≡ false
      → AtDomain (λ (after : ServicePorts T U). with_hub_ports who.domain after hub) (RetriesBy may who.number elapsed) found hub None hub
  tries_none may elapsed who hub None is never = (refl, refl)
  tries_none may elapsed who hub (Some ports) is never = (
    ports,
    not_tried may who.number elapsed ports (port_of who.number ports.publishers) never,
    sym (put_again who.domain ports hub is),
  )

  -- a sample that is held is released
  pub drops_held : (number : ℕ) (taken : Taken) (domain : DomainId) (old hub : Hub T U B D) (found : Option (ServicePorts T U))
      (released : Bool) → holds_message number taken found ≡ true
      → DropsAt (λ (after : ServicePorts T U). with_hub_ports domain after old) number taken found old released hub → released ≡ true
  drops_held number taken domain old hub None released held drops = never_so false held refl
  drops_held number taken domain old hub (Some ports) true held drops = refl
  drops_held number taken domain old hub (Some ports) false held (after, releases, is) =
      absurd (sample_releases number taken ports after held releases)

-- what is refused isn't done
pub err_ok : {X E : Type 0} (why : E) (given : X) → ◌≡◌ {A = Result X E} (Err why) (Ok given) → ⊥
err_ok why given e = cc

module _ {T U B D : Type 0} (terms : Terms T U B D) (choices : Choices T) where
  -- no port comes by a command that is skipped
  pub skipped_chosen : (asked : Command T) (old : NumberedHub T U B D) → IsChosen Dynamic terms choices asked old reply.Skipped
  skipped_chosen (command.Publisher factory options) old = λ told. absurd (differ told)
    where
      differ : ◌≡◌ {A = Reply T} reply.Skipped (reply.PublisherMade old.made.publishers.next) → ⊥
      differ e = cc
  skipped_chosen (command.Subscriber factory options) old = λ told. absurd (differ told)
    where
      differ : ◌≡◌ {A = Reply T} reply.Skipped (reply.SubscriberMade old.made.subscribers.next) → ⊥
      differ e = cc
  skipped_chosen other old = tt

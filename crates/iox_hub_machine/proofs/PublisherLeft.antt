-- Publishers of a hub leave.
use Rattle.std.proofs.Common.{◌≡◌, ◌≢◌, ◌≤◌, ℕ, Bool, true, false, List, Option, None, Some, refl, sym, ap, subst, inl, inr, ◌∙◌}
use Rattle.std.proofs.Common.{true≢false}
use Rattle.std.proofs.Math.Logic.{⊎_elim}
use Rattle.std.proofs.lemmas.Bool.Decides.{eqb_tells}
use Rattle.std.specs.Map.{keys_of}
use Rattle.std.specs.Option.{option_map}
use Rattle.std.specs.Prelude.{MatchOption}
use Rattle.iox_command.specs.DomainValues.declared.backpressure.BackpressureDecision.{BackpressureDecision}
use Rattle.iox_command.specs.DomainValues.declared.backpressure.BackpressureInfo.{BackpressureInfo}
use Rattle.iox_command.specs.DomainValues.declared.degradation.DegradationAction.{DegradationAction}
use Rattle.iox_command.specs.DomainValues.declared.degradation.DegradationCause.{DegradationCause}
use Rattle.iox_command.specs.DomainValues.declared.degradation.DegradationInfo.{DegradationInfo}
use Rattle.iox_command.specs.NegotiateBase.DescribeBase.declared.message_type.MessageTypeDetails.{MessageTypeDetails}
use Rattle.iox_command.specs.declared.command.Command.{Command}
use Rattle.iox_command.specs.declared.command.Command.TheVariants as command
use Rattle.iox_command.specs.declared.port.PortNumber.TheVariants as number_of
use Rattle.iox_command.specs.declared.reply.Reply.{Reply}
use Rattle.iox_command.specs.declared.reply.Reply.TheVariants as reply
use Rattle.iox_container.proofs.Telling.{lookup-removed, lookup-removed_other}
use Rattle.iox_container.specs.NumberTable.{Rises, removed, value_at}
use Rattle.iox_delivery.specs.Holding.{publisher_stands, subscriber_stands}
use Rattle.iox_delivery.specs.declared.port_id.PortId.{PortId}
use Rattle.iox_domain.specs.AtHomes.{LeavesDomain, dropped_if}
use Rattle.iox_domain.specs.DomainPorts.Leaving.{departed}
use Rattle.iox_domain.specs.DomainPorts.Publishers.{port_of}
use Rattle.iox_domain.specs.DomainPorts.declared.publisher_port.PublisherPort.{PublisherPort}
use Rattle.iox_domain.specs.Kept.{forgotten}
use Rattle.iox_domain.specs.PortsPublishing.{LeavesAt, LeavesPortIf, is_free}
use Rattle.iox_domain.specs.Steps.{PublisherLeaves}
use Rattle.iox_domain.specs.Tries.{how_often}
use Rattle.iox_domain.specs.declared.domain_id.DomainId.{DomainId}
use Rattle.iox_domain.specs.declared.ports.service_ports.ServicePorts.{ServicePorts}
use Rattle.iox_domain_machine.specs.Laws.{Matches, done_or_skipped}
use Rattle.iox_domain_machine.specs.Naming.{Naming, with_name}
use Rattle.iox_domain_machine.specs.Services.{those_of}
use Rattle.iox_domain_machine.specs.Standing.{StandsFor}
use Rattle.iox_domain_machine.proofs.AloneDid.{by_option}
use Rattle.iox_domain_machine.proofs.Found.{never_some, at_changed_other}
use Rattle.iox_domain_machine.proofs.Leaving.{publisher_leave_matches}
use Rattle.iox_hub_base.specs.AsHome.{hub_ports, with_hub_ports, without_hub_publisher}
use Rattle.iox_hub_base.specs.ServicesAsHome.{domain_at, publisher_handlers_in, subscriber_handler_in}
use Rattle.iox_hub_base.specs.declared.hub.Hub.{Hub}
use Rattle.iox_hub_commands.specs.Calls.{AtPortIf, PublisherGoes}
use Rattle.iox_hub_commands.specs.Grown.{HaveGrown}
use Rattle.iox_hub_commands.specs.Numbering.{removed_if}
use Rattle.iox_hub_commands.specs.Replies.{done_reply}
use Rattle.iox_hub_commands.specs.Tables.{port_under, without_publisher}
use Rattle.iox_hub_commands.specs.declared.numbered_hub.NumberedHub.{NumberedHub}
use Rattle.iox_hub_commands.specs.declared.ports.made.Made.{Made}
use Rattle.iox_hub_commands.specs.declared.ports.made.MadePublisher.{MadePublisher}
use Rattle.iox_hub_machine.specs.Laws.{answered_with}
use Rattle.iox_hub_machine.specs.LeavingLaws.{ListsCanChange, PublisherLeaveIsSimulated}
use Rattle.iox_hub_machine.specs.Ports.{among}
use Rattle.iox_hub_machine.specs.Standing.{PortsStandFor, publisher_is_up, subscriber_is_up, lent_in, held_in}
use Rattle.iox_hub_machine.proofs.Absent.{no_publisher_goes}
use Rattle.iox_hub_machine.proofs.Amidst.{at_one_skips, at_one_keeps}
use Rattle.iox_hub_machine.proofs.Deciding.{DecideAlike, deciding, acting, same_ports, at_one_decides}
use Rattle.iox_hub_machine.proofs.Departing.{as_kept, goes_less, names_still, not_it, was_up, name_apart, changed, order_then, keys_then}
use Rattle.iox_hub_machine.proofs.Departing.{up_elsewhere, reader_up_here, reader_up_elsewhere, same_handlers, handlers_elsewhere, up_here}
use Rattle.iox_hub_machine.proofs.Departing.{same_readers, readers_elsewhere, machine_left, stands_without}
use Rattle.iox_hub_machine.proofs.Going.{same_stands, some_service}
use Rattle.iox_hub_machine.proofs.Housed.{one_or_other}
use Rattle.iox_hub_machine.proofs.Known.{goes_by_number}
use Rattle.iox_hub_machine.proofs.Loans.{done_so}
use Rattle.iox_hub_machine.proofs.Moving.{IsMatched, machine_does}
use Rattle.iox_hub_machine.proofs.Rooming.{roomy_there}
use Rattle.iox_hub_machine.proofs.Settled.{gone_publisher_is_down, publishers_beside, kept_beside}
use Rattle.iox_machine.specs.Choices.{Choices}
use Rattle.iox_machine.specs.Ports.{publisher_in}
use Rattle.iox_machine.specs.Service.{Service, Publisher}
use Rattle.iox_machine.proofs.Shorthands.{with_publisher, left, IsSkipped}
use Rattle.iox_machine.specs.State.{State, AtOne}
use Rattle.iox_machine.specs.Table.{at}

-- ---- the machine's publisher

module _ {T : Type 0} (name : ℕ) where
  abbrev Leaves : Publisher T → Service T → Reply T → Service T → Type 0
  Leaves one service answer after =
      (answer ≡ reply.Done)
      × (after ≡ with_publisher name (record one { stands = false })
      (record service { publisher_list = left name service.publisher_list }))

  abbrev LeavesIf : Publisher T → Service T → Reply T → Service T → Type 0
  LeavesIf one service answer after =
      MatchOption one.blocked (Leaves one service answer after) (λ send. IsSkipped service answer after)

  not_done : ◌≡◌ {A = Reply T} reply.Skipped reply.Done → ⊥
  not_done same = cc

  -- where it is skipped all ports decide as they did
  skipped_alike : (state new : State T) → AtOne (publisher_in name) LeavesIf state reply.Skipped new
      → DecideAlike state.services new.services
  skipped_alike state new did =
      at_one_decides (publisher_in name) LeavesIf state new reply.Skipped
      (λ one service after is does.
      elim (by_option one.blocked (Leaves one service reply.Skipped after) (λ send. IsSkipped service reply.Skipped after) does) [
        | inl leaves ↦ absurd (not_done leaves.1.0)
        | inr skipped ↦ same_ports service after (ap (λ (it : Service T). it.publishers) skipped.2.1)
            (ap (λ (it : Service T). it.subscribers) skipped.2.1)
      ]) did

  -- publishers of other names stand as they stood, and so do all subscribers
  others_alike : (state new : State T) (answer : Reply T) (other : ℕ) → other ≢ name
      → AtOne (publisher_in name) LeavesIf state answer new
      → option_map deciding (among (λ (service : Service T). service.publishers) other new.services)
      ≡ option_map deciding (among (λ (service : Service T). service.publishers) other state.services)
  others_alike state new answer other off did =
      at_one_keeps (publisher_in name) LeavesIf (λ (service : Service T). service.publishers) deciding state new answer other
      (λ one service after is does.
      elim (by_option one.blocked (Leaves one service answer after) (λ send. IsSkipped service answer after) does) [
        | inl leaves ↦ ap (λ (it : Service T). option_map deciding (at other it.publishers)) leaves.1.1
            ∙ ap (option_map deciding) (at_changed_other name other (record one { stands = false }) service.publishers off)
        | inr skipped ↦ ap (λ (it : Service T). option_map deciding (at other it.publishers)) skipped.2.1
      ]) did

  readers_alike : (state new : State T) (answer : Reply T) (other : ℕ) → AtOne (publisher_in name) LeavesIf state answer new
      → option_map acting (among (λ (service : Service T). service.subscribers) other new.services)
      ≡ option_map acting (among (λ (service : Service T). service.subscribers) other state.services)
  readers_alike state new answer other did =
      at_one_keeps (publisher_in name) LeavesIf (λ (service : Service T). service.subscribers) acting state new answer other
      (λ one service after is does.
      elim (by_option one.blocked (Leaves one service answer after) (λ send. IsSkipped service answer after) does) [
        | inl leaves ↦ ap (λ (it : Service T). option_map acting (at other it.subscribers)) leaves.1.1
        | inr skipped ↦ ap (λ (it : Service T). option_map acting (at other it.subscribers)) skipped.2.1
      ]) did

-- ---- the domain's

-- a publisher that left doesn't stand; all others stand as they stood
pub record HasLeft {T U : Type 0} (number : ℕ) (ports after : ServicePorts T U) : Type 0 where
  pub down : publisher_stands number (Some after) ≡ false
  pub others : (other : ℕ) → other ≢ number → publisher_stands other (Some after) ≡ publisher_stands other (Some ports)
  pub readers : (other : ℕ) → subscriber_stands other (Some after) ≡ subscriber_stands other (Some ports)

module _ {T U : Type 0} (number : ℕ) (ports : ServicePorts T U) (once : how_often number (keys_of ports.publishers) ≤ 1) where
  left_if : (free : Bool) (port : PublisherPort T U) (after : ServicePorts T U) → port_of number ports.publishers ≡ Some port
      → LeavesPortIf free number port ports true after → HasLeft number ports after
  left_if false port after there goes = absurd (true≢false goes.0)
  left_if true port after there goes = record {
    down = ap (λ (it : ServicePorts T U). publisher_stands number (Some it)) goes.1 ∙ gone_publisher_is_down number ports port there once;
    others = λ other off. ap (λ (it : ServicePorts T U). publisher_stands other (Some it)) goes.1
        ∙ publishers_beside number ports (departed port) other off;
    readers = λ other. ap (λ (it : ServicePorts T U). subscriber_stands other (Some it)) goes.1;
  }

  left_at : (found : Option (PublisherPort T U)) (after : ServicePorts T U) → port_of number ports.publishers ≡ found
      → LeavesAt number found ports true after → HasLeft number ports after
  left_at None after none goes = absurd (true≢false goes.0)
  left_at (Some port) after there goes = left_if (is_free port) port after there goes

  has_left : (after : ServicePorts T U) → PublisherLeaves number ports true after → HasLeft number ports after
  has_left after goes = left_at (port_of number ports.publishers) after refl goes

-- ---- the law

module _ {T U B D : Type 0} (choices : Choices T) (is_default_header : U → Type 0)
    (degrades : B → DegradationCause → DegradationInfo → DegradationAction → Type 0)
    (decides : B → BackpressureInfo → BackpressureDecision → Type 0)
    (reader_degrades : D → DegradationCause → DegradationInfo → DegradationAction → Type 0) where
  module _ (types : MessageTypeDetails) (naming : ℕ → Naming) (order : List (ℕ × ServicePorts T U)) (old new : NumberedHub T U B D)
      (state : State T) (stands : PortsStandFor choices degrades decides reader_degrades naming order old state) (number : ℕ)
      (grown : HaveGrown old.hub.services.domains) (rises : Rises 1 old.made.publishers.entries old.made.publishers.next)
      (counted : ListsCanChange old.hub) where
    abbrev asked : Command T
    asked = command.Leave (number_of.Publisher number)

    abbrev Result : Bool → NumberedHub T U B D → Type 0
    Result done later = IsMatched degrades decides reader_degrades types choices naming order old state asked (done_reply done) stands
        later

    -- nothing goes by its number
    goes_by_none : port_under (value_at (removed old.made.publishers number) number) ≡ None
    goes_by_none = ap port_under (lookup-removed number 1 old.made.publishers.next old.made.publishers.entries rises)

    by_others : (other : ℕ) → other ≢ number
        → value_at (removed old.made.publishers number) other ≡ value_at old.made.publishers other
    by_others other off = lookup-removed_other number other old.made.publishers.entries off

    were_there : (other : ℕ) (made : MadePublisher) → value_at (removed old.made.publishers number) other ≡ Some made
        → value_at old.made.publishers other ≡ Some made
    were_there other made is = ⊎_elim
        (λ same. never_some made (sym (lookup-removed number 1 old.made.publishers.next old.made.publishers.entries rises)
        ∙ ap (value_at (removed old.made.publishers number)) (sym same.1) ∙ is))
        (λ off. sym (by_others other off.1) ∙ is) (eqb_tells other number)

    module _ (port : PortId) (there : port_under (value_at old.made.publishers number) ≡ Some port) (ports : ServicePorts T U)
        (found : hub_ports port.domain old.hub ≡ Some ports) (known : (naming port.domain.service).publisher port.number ≡ number)
        (some : (naming port.domain.service).publisher port.number ≢ 0) where
      abbrev id : DomainId
      id = port.domain

      its_once : how_often port.number (keys_of ports.publishers) ≤ 1
      its_once =
          let (one, its) = some_service choices degrades decides reader_degrades naming order old state stands id ports found in
          its.once port.number

      matches : (done : Bool) (after : ServicePorts T U) (service : Service T) → PublisherLeaves port.number ports done after
          → StandsFor (naming id.service) (those_of id.service (lent_in old.made)) (those_of id.service (held_in old.made))
          old.hub.expired_connection_buffer ports service
          → Matches T U choices types old.hub.expired_connection_buffer asked (done_reply done) state service (naming id.service)
          (those_of id.service (lent_in old.made)) (those_of id.service (held_in old.made)) after
      matches done after service leaves its =
          subst (λ (it : Reply T). Matches T U choices types old.hub.expired_connection_buffer asked it state service (naming id.service)
          (those_of id.service (lent_in old.made)) (those_of id.service (held_in old.made)) after) (sym (done_so done))
          (subst (λ (name : ℕ). Matches T U choices types old.hub.expired_connection_buffer (command.Leave (number_of.Publisher name))
          (done_or_skipped done) state service (naming id.service) (those_of id.service (lent_in old.made))
          (those_of id.service (held_in old.made)) after) known
          (publisher_leave_matches T U choices types old.hub.expired_connection_buffer (naming id.service)
          (those_of id.service (lent_in old.made)) (those_of id.service (held_in old.made)) ports after service state port.number done its
          (roomy_there id ports old.hub grown found).sound some (counted id ports found).0 leaves))

      -- a send of it waits
      stays : (after : ServicePorts T U) → PublisherLeaves port.number ports false after
          → Result false (record new { hub = with_hub_ports id after old.hub; made = old.made })
      stays after leaves =
          let (order_after, services, keys, does, then) = machine_does degrades decides reader_degrades types choices naming order old
          (record new { hub = with_hub_ports id after old.hub; made = old.made }) state asked reply.Skipped id ports after
          (naming id.service) stands found refl refl refl (port.number, known, λ zero. some (known ∙ zero))
          (λ other off. refl, stands.domains.loans) (λ other off. refl, stands.domains.samples)
          (λ first service last are its. matches false after service leaves its)
          (λ services did. skipped_alike number state (answered_with reply.Skipped services state) did)
          refl refl stands.numbers stands.loans stands.samples in
          (with_name id.service (naming id.service) naming, order_after, services, keys, does, then)

      module _ (after : ServicePorts T U) (leaves : PublisherLeaves port.number ports true after) where
        its_left : HasLeft port.number ports after
        its_left = has_left port.number ports its_once after leaves

        abbrev now : Hub T U B D
        now = changed choices degrades decides reader_degrades naming order old state stands id ports after found (forgotten port.number)
            as_kept

        down : publisher_is_up now id port.number ≡ false
        down = up_here choices degrades decides reader_degrades naming order old state stands id ports after found (forgotten port.number)
            as_kept
            port.number ∙ its_left.down

        apart : (place : ℕ) → (port.number ≡ place → ⊥) → place ≢ port.number
        apart place off same = off (sym same)

        others_stay : (other : DomainId) (place : ℕ) → (id ≡ other → port.number ≡ place → ⊥)
            → publisher_is_up now other place ≡ publisher_is_up old.hub other place
        others_stay other place off = ⊎_elim
            (λ same. ap (λ (it : DomainId). publisher_is_up now it place) (sym same)
            ∙ up_here choices degrades decides reader_degrades naming order old state stands id ports after found (forgotten port.number)
            as_kept
            place
            ∙ its_left.others place (apart place (off same)) ∙ ap (publisher_stands place) (sym found)
            ∙ ap (λ (it : DomainId). publisher_is_up old.hub it place) same)
            (λ elsewhere. up_elsewhere choices degrades decides reader_degrades naming order old state stands id ports after found
            (forgotten port.number) as_kept other place elsewhere) (one_or_other id other)

        readers_stay : (other : DomainId) (place : ℕ) → subscriber_is_up now other place ≡ subscriber_is_up old.hub other place
        readers_stay other place = ⊎_elim
            (λ same. ap (λ (it : DomainId). subscriber_is_up now it place) (sym same)
            ∙ reader_up_here choices degrades decides reader_degrades naming order old state stands id ports after found
            (forgotten port.number)
            as_kept
            place
            ∙ its_left.readers place ∙ ap (subscriber_stands place) (sym found)
            ∙ ap (λ (it : DomainId). subscriber_is_up old.hub it place) same)
            (λ elsewhere. reader_up_elsewhere choices degrades decides reader_degrades naming order old state stands id ports after found
            (forgotten port.number) as_kept other place elsewhere) (one_or_other id other)

        handlers_stay : (other : DomainId) (place : ℕ) → (id ≡ other → port.number ≡ place → ⊥)
            → publisher_handlers_in place (domain_at other now.services) ≡ publisher_handlers_in place (domain_at other old.hub.services)
        handlers_stay other place off = ⊎_elim
            (λ same. ap (λ (it : DomainId). publisher_handlers_in place (domain_at it now.services)) (sym same)
            ∙ same_handlers choices degrades decides reader_degrades naming order old state stands id ports after found
            (forgotten port.number)
            as_kept
            place (kept_beside port.number place (apart place (off same)))
            ∙ ap (λ (it : DomainId). publisher_handlers_in place (domain_at it old.hub.services)) same)
            (λ elsewhere. handlers_elsewhere choices degrades decides reader_degrades naming order old state stands id ports after found
            (forgotten port.number) as_kept other place elsewhere) (one_or_other id other)

        reader_handlers_stay : (other : DomainId) (place : ℕ)
            → subscriber_handler_in place (domain_at other now.services) ≡ subscriber_handler_in place (domain_at other old.hub.services)
        reader_handlers_stay other place = ⊎_elim
            (λ same. ap (λ (it : DomainId). subscriber_handler_in place (domain_at it now.services)) (sym same)
            ∙ same_readers choices degrades decides reader_degrades naming order old state stands id ports after found
            (forgotten port.number)
            as_kept place (λ kept. refl)
            ∙ ap (λ (it : DomainId). subscriber_handler_in place (domain_at it old.hub.services)) same)
            (λ elsewhere. readers_elsewhere choices degrades decides reader_degrades naming order old state stands id ports after found
            (forgotten port.number) as_kept other place elsewhere) (one_or_other id other)

        abbrev under_then : ℕ → Option PortId
        under_then other = port_under (value_at (removed old.made.publishers number) other)

        others_go : (other : ℕ) → other ≢ number → under_then other ≡ port_under (value_at old.made.publishers other)
        others_go other off = ap port_under (by_others other off)

        abbrev name : ℕ → ℕ → ℕ
        name service = (naming service).publisher

        -- it leaves
        leaves_then : Result true (record new {
          hub = without_hub_publisher id port.number (with_hub_ports id after old.hub);
          made = without_publisher number old.made;
        })
        leaves_then =
            let (services, does, all)
            = machine_left choices degrades decides reader_degrades naming order old state stands id ports after found
            (forgotten port.number) as_kept types asked (port.number, known, λ zero. some (known ∙ zero))
            (λ service its. matches true after service leaves its) in
            let then = stands_without choices degrades decides reader_degrades naming order old state stands id ports after found
            (forgotten port.number) as_kept new (removed old.made.publishers number) old.made.subscribers services all refl refl
            (goes_less name (publisher_is_up old.hub) (publisher_is_up now) (λ other. port_under (value_at old.made.publishers other))
            under_then stands.publishers number port there goes_by_none others_go down others_stay)
            (names_still (λ service. (naming service).subscriber) (subscriber_is_up old.hub) (subscriber_is_up now)
            (value_at old.made.subscribers) stands.subscribers readers_stay)
            were_there
            (λ other place up. (
              was_up name (publisher_is_up old.hub) (publisher_is_up now) (λ one. port_under (value_at old.made.publishers one))
                  under_then stands.publishers number port there goes_by_none others_go down others_stay other place up,
              others_alike number state (answered_with reply.Done services state) reply.Done (name other.service place)
                  (name_apart name (publisher_is_up old.hub) (publisher_is_up now) (λ one. port_under (value_at old.made.publishers one))
                  under_then stands.publishers number port there goes_by_none others_go down others_stay other place up) does,
              handlers_stay other place (not_it name (publisher_is_up old.hub) (publisher_is_up now)
                  (λ one. port_under (value_at old.made.publishers one))
                  under_then stands.publishers number port there goes_by_none others_go down others_stay other place up),
            ))
            (λ other place up. (
              sym (readers_stay other place) ∙ up,
              readers_alike number state (answered_with reply.Done services state) reply.Done ((naming other.service).subscriber place)
                  does,
              reader_handlers_stay other place,
            )) in (
              naming,
              order_then choices degrades decides reader_degrades naming order old state stands id ports after found (forgotten port.number)
                  as_kept,
              services,
              keys_then choices degrades decides reader_degrades naming order old state stands id ports after found (forgotten port.number)
                  as_kept,
              does,
              then,
            )

    leave_by : (done : Bool) (found : Option PortId) → port_under (value_at old.made.publishers number) ≡ found
        → AtPortIf (PublisherGoes hub_ports with_hub_ports without_hub_publisher) found old.hub done new.hub
        → new.made ≡ removed_if done (without_publisher number) old.made → Result done new
    leave_by done None none (nothing, same) less =
        subst (λ (it : Bool). Result it new) (sym nothing) (
          naming,
          order,
          state.services,
          refl,
          at_one_skips (publisher_in number) (LeavesIf number) state
              (no_publisher_goes choices degrades decides reader_degrades naming order old state stands number none),
          same_stands choices degrades decides reader_degrades naming order old state stands number new same
              (less ∙ ap (λ (it : Bool). removed_if it (without_publisher number) old.made) nothing),
        )
    leave_by done (Some port) there goes less =
        let it = goes_by_number choices degrades decides reader_degrades naming order old state stands number port there in
        let (after, leaves, same) = subst (λ (it : Option (ServicePorts T U)). LeavesDomain
        (λ (one : ServicePorts T U). with_hub_ports port.domain one old.hub) (without_hub_publisher port.domain port.number)
        (PublisherLeaves port.number) it old.hub done new.hub) it.found goes in
        by done port there it.ports it.found it.named it.some after leaves same less
      where
        by : (done : Bool) (port : PortId) (there : port_under (value_at old.made.publishers number) ≡ Some port)
            (ports : ServicePorts T U) (found : hub_ports port.domain old.hub ≡ Some ports)
            (known : (naming port.domain.service).publisher port.number ≡ number)
            (some : (naming port.domain.service).publisher port.number ≢ 0) (after : ServicePorts T U)
            → PublisherLeaves port.number ports done after
            → new.hub ≡ dropped_if done (without_hub_publisher port.domain port.number) (with_hub_ports port.domain after old.hub)
            → new.made ≡ removed_if done (without_publisher number) old.made → Result done new
        by false port there ports found known some after leaves same less =
            subst (λ (it : Hub T U B D). Result false (record new { hub = it })) (sym same)
            (subst (λ (it : Made). Result false (record new { hub = with_hub_ports port.domain after old.hub; made = it })) (sym less)
            (stays port there ports found known some after leaves))
        by true port there ports found known some after leaves same less =
            subst (λ (it : Hub T U B D). Result true (record new { hub = it })) (sym same)
            (subst (λ (it : Made). Result true (record new {
              hub = without_hub_publisher port.domain port.number (with_hub_ports port.domain after old.hub);
              made = it;
            })) (sym less) (leaves_then port there ports found known some after leaves))

  pub publisher_leave_simulated : PublisherLeaveIsSimulated choices is_default_header degrades decides reader_degrades
  publisher_leave_simulated number old grown rise counted payload user_header types fixed fixed_reader naming order new state answer stands
      ((done, goes, less, told), same) =
      subst (λ (it : Reply T). IsMatched degrades decides reader_degrades types choices naming order old state
      (command.Leave (number_of.Publisher number)) it stands new) (sym told)
      (leave_by types naming order old new state stands number grown rise.1 counted done
      (port_under (value_at old.made.publishers number)) refl goes less)

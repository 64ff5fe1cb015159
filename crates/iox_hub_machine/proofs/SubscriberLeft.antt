-- Subscribers of a hub leave.
use Rattle.std.proofs.Common.{◌≡◌, ◌≢◌, ℕ, Bool, true, false, List, Option, None, Some, refl, sym, ap, subst, ◌∙◌, true≢false}
use Rattle.std.proofs.Math.Logic.{⊎_elim}
use Rattle.std.specs.Option.{option_map}
use Rattle.iox_command.specs.DomainValues.declared.backpressure.BackpressureDecision.{BackpressureDecision}
use Rattle.iox_command.specs.DomainValues.declared.backpressure.BackpressureInfo.{BackpressureInfo}
use Rattle.iox_command.specs.DomainValues.declared.degradation.DegradationAction.{DegradationAction}
use Rattle.iox_command.specs.DomainValues.declared.degradation.DegradationCause.{DegradationCause}
use Rattle.iox_command.specs.DomainValues.declared.degradation.DegradationInfo.{DegradationInfo}
use Rattle.iox_command.specs.NegotiateBase.DescribeBase.declared.message_type.MessageTypeDetails.{MessageTypeDetails}
use Rattle.iox_command.specs.declared.command.Command.{Command}
use Rattle.iox_command.specs.declared.command.Command.TheVariants as command
use Rattle.iox_command.specs.declared.port.PortNumber.TheVariants as number_of
use Rattle.iox_command.specs.declared.reply.Reply.{Reply}
use Rattle.iox_command.specs.declared.reply.Reply.TheVariants as reply
use Rattle.iox_container.proofs.Telling.{lookup-removed, lookup-removed_other}
use Rattle.iox_container.specs.NumberTable.{Rises, removed, value_at}
use Rattle.iox_delivery.specs.Holding.{publisher_stands, subscriber_stands}
use Rattle.iox_delivery.specs.declared.port_id.PortId.{PortId}
use Rattle.iox_domain.specs.AtHomes.{LeavesDomain, dropped_if}
use Rattle.iox_domain.specs.DomainPorts.Receiving.{left_all}
use Rattle.iox_domain.specs.DomainPorts.declared.attached.Taken.{Taken}
use Rattle.iox_domain.specs.DomainPorts.declared.subscriber_port.SubscriberPort.{SubscriberPort}
use Rattle.iox_domain.specs.Kept.{forgotten}
use Rattle.iox_domain.specs.PortsSubscribing.{LeavesAt, LeavesPortIf}
use Rattle.iox_domain.specs.Roomy.{AreRoomy}
use Rattle.iox_domain.specs.Steps.{SubscriberLeaves}
use Rattle.iox_domain.specs.Subscribers.{subscriber_of}
use Rattle.iox_domain.specs.declared.domain_id.DomainId.{DomainId}
use Rattle.iox_domain.specs.declared.ports.service_ports.ServicePorts.{ServicePorts}
use Rattle.iox_domain_machine.specs.Laws.{Matches, done_or_skipped}
use Rattle.iox_domain_machine.specs.Naming.{Naming, with_name}
use Rattle.iox_domain_machine.specs.Services.{those_of}
use Rattle.iox_domain_machine.specs.Standing.{StandsFor}
use Rattle.iox_domain_machine.specs.Tables.{LentSlot}
use Rattle.iox_domain_machine.proofs.Found.{at_changed_other}
use Rattle.iox_domain_machine.proofs.LeavingReader.{leaves_keys, subscriber_leave_matches}
use Rattle.iox_hub_base.specs.AsHome.{hub_ports, with_hub_ports, without_hub_subscriber}
use Rattle.iox_hub_base.specs.ServicesAsHome.{domain_at, publisher_handlers_in, subscriber_handler_in}
use Rattle.iox_hub_base.specs.declared.hub.Hub.{Hub}
use Rattle.iox_hub_commands.specs.Calls.{AtPortIf, SubscriberGoes}
use Rattle.iox_hub_commands.specs.Grown.{HaveGrown}
use Rattle.iox_hub_commands.specs.Numbering.{removed_if}
use Rattle.iox_hub_commands.specs.Replies.{done_reply}
use Rattle.iox_hub_commands.specs.Tables.{port_under, without_subscriber}
use Rattle.iox_hub_commands.specs.declared.numbered_hub.NumberedHub.{NumberedHub}
use Rattle.iox_hub_commands.specs.declared.ports.made.Made.{Made}
use Rattle.iox_hub_machine.specs.Laws.{answered_with}
use Rattle.iox_hub_machine.specs.LeavingLaws.{ListsCanChange, SubscriberLeaveIsSimulated}
use Rattle.iox_hub_machine.specs.Ports.{among}
use Rattle.iox_hub_machine.specs.Standing.{PortsStandFor, publisher_is_up, subscriber_is_up, lent_in, held_in}
use Rattle.iox_hub_machine.proofs.Amidst.{at_one_skips, at_one_keeps}
use Rattle.iox_hub_machine.proofs.Deciding.{DecideAlike, deciding, acting, at_one_decides}
use Rattle.iox_hub_machine.proofs.Departing.{as_kept, goes_less, names_still, not_it, was_up, name_apart, changed, order_then, keys_then}
use Rattle.iox_hub_machine.proofs.Departing.{up_elsewhere, reader_up_here, reader_up_elsewhere, same_handlers, handlers_elsewhere, up_here}
use Rattle.iox_hub_machine.proofs.Departing.{same_readers, readers_elsewhere, machine_left, stands_without}
use Rattle.iox_hub_machine.proofs.Going.{same_stands, some_service}
use Rattle.iox_hub_machine.proofs.Housed.{one_or_other}
use Rattle.iox_hub_machine.proofs.Loans.{done_so}
use Rattle.iox_hub_machine.proofs.Moving.{IsMatched, machine_does}
use Rattle.iox_hub_machine.proofs.Placed.{publisher_as}
use Rattle.iox_hub_machine.proofs.Readers.{reader_goes, no_subscriber_goes}
use Rattle.iox_hub_machine.proofs.Rooming.{roomy_there}
use Rattle.iox_hub_machine.proofs.Settled.{gone_subscriber_is_down, subscribers_beside, kept_beside}
use Rattle.iox_machine.specs.Choices.{Choices}
use Rattle.iox_machine.specs.Ports.{subscriber_in}
use Rattle.iox_machine.specs.Service.{Service, Subscriber}
use Rattle.iox_machine.proofs.Shorthands.{with_subscriber, left}
use Rattle.iox_machine.specs.State.{State, AtOne}
use Rattle.iox_machine.specs.Table.{at}

-- ---- the machine's subscriber

module _ {T : Type 0} (name : ℕ) where
  abbrev Leaves : Subscriber → Service T → Reply T → Service T → Type 0
  Leaves one service answer after =
      (answer ≡ reply.Done)
      × (after ≡ with_subscriber name (record one { stands = false })
      (record service { subscriber_list = left name service.subscriber_list }))

  not_done : ◌≡◌ {A = Reply T} reply.Skipped reply.Done → ⊥
  not_done same = cc

  -- where it is skipped all ports decide as they did
  skipped_alike : (state new : State T) → AtOne (subscriber_in name) Leaves state reply.Skipped new
      → DecideAlike state.services new.services
  skipped_alike state new did =
      at_one_decides (subscriber_in name) Leaves state new reply.Skipped (λ one service after is does. absurd (not_done does.0)) did

  -- subscribers of other names stand as they stood, and so do all publishers
  others_alike : (state new : State T) (answer : Reply T) (other : ℕ) → other ≢ name → AtOne (subscriber_in name) Leaves state answer new
      → option_map acting (among (λ (service : Service T). service.subscribers) other new.services)
      ≡ option_map acting (among (λ (service : Service T). service.subscribers) other state.services)
  others_alike state new answer other off did =
      at_one_keeps (subscriber_in name) Leaves (λ (service : Service T). service.subscribers) acting state new answer other
      (λ one service after is does.
      ap (λ (it : Service T). option_map acting (at other it.subscribers)) does.1
      ∙ ap (option_map acting) (at_changed_other name other (record one { stands = false }) service.subscribers off)) did

  publishers_alike : (state new : State T) (answer : Reply T) (other : ℕ) → AtOne (subscriber_in name) Leaves state answer new
      → option_map deciding (among (λ (service : Service T). service.publishers) other new.services)
      ≡ option_map deciding (among (λ (service : Service T). service.publishers) other state.services)
  publishers_alike state new answer other did =
      at_one_keeps (subscriber_in name) Leaves (λ (service : Service T). service.publishers) deciding state new answer other
      (λ one service after is does. ap (λ (it : Service T). option_map deciding (at other it.publishers)) does.1) did

-- ---- the domain's

-- a subscriber that left doesn't stand; all others stand as they stood
pub record ReaderHasLeft {T U : Type 0} (number : ℕ) (ports after : ServicePorts T U) : Type 0 where
  pub down : subscriber_stands number (Some after) ≡ false
  pub others : (other : ℕ) → other ≢ number → subscriber_stands other (Some after) ≡ subscriber_stands other (Some ports)
  pub publishers : (other : ℕ) → publisher_stands other (Some after) ≡ publisher_stands other (Some ports)

module _ {T U : Type 0} (names : Naming) (lent : List (ℕ × LentSlot)) (held : List (ℕ × Taken)) (buffer number : ℕ)
    (ports : ServicePorts T U) (service : Service T) (stands : StandsFor names lent held buffer ports service) (roomy : AreRoomy ports)
  where
    -- who reads no longer leaves all publishers as they stood
    same_publishers : (port : SubscriberPort) → subscriber_of number ports.subscribers ≡ Some port → port.stands ≡ true → (other : ℕ)
        → publisher_stands other (Some (record ports { publishers = left_all port.connections.values ports.publishers }))
        ≡ publisher_stands other (Some ports)
    same_publishers port there standing other =
        let walked = (leaves_keys names lent held buffer ports service number stands roomy port there standing).walk in
        publisher_as names lent held buffer (record ports { publishers = left_all port.connections.values ports.publishers })
        (record service { mailboxes = walked.mailboxes }) walked.stands other
        ∙ sym (publisher_as names lent held buffer ports service stands other)

    left_if : (standing : Bool) (port : SubscriberPort) (after : ServicePorts T U) → port.stands ≡ standing
        → subscriber_of number ports.subscribers ≡ Some port
        → LeavesPortIf standing number port ports true after → ReaderHasLeft number ports after
    left_if false port after gone there goes = absurd (true≢false goes.0)
    left_if true port after standing there goes = record {
      down = ap (λ (it : ServicePorts T U). subscriber_stands number (Some it)) goes.1
          ∙ gone_subscriber_is_down number ports port (record port { stands = false }) there (stands.once_subscribers number) refl;
      others = λ other off. ap (λ (it : ServicePorts T U). subscriber_stands other (Some it)) goes.1
          ∙ subscribers_beside number ports (record port { stands = false }) other off;
      publishers = λ other. ap (λ (it : ServicePorts T U). publisher_stands other (Some it)) goes.1
          ∙ same_publishers port there standing other;
    }

    left_at : (found : Option SubscriberPort) (after : ServicePorts T U) → subscriber_of number ports.subscribers ≡ found
        → LeavesAt number found ports true after → ReaderHasLeft number ports after
    left_at None after none goes = absurd (true≢false goes.0)
    left_at (Some port) after there goes = left_if port.stands port after refl there goes

    reader_has_left : (after : ServicePorts T U) → SubscriberLeaves number ports true after → ReaderHasLeft number ports after
    reader_has_left after goes = left_at (subscriber_of number ports.subscribers) after refl goes

-- ---- the law

module _ {T U B D : Type 0} (choices : Choices T) (is_default_header : U → Type 0)
    (degrades : B → DegradationCause → DegradationInfo → DegradationAction → Type 0)
    (decides : B → BackpressureInfo → BackpressureDecision → Type 0)
    (reader_degrades : D → DegradationCause → DegradationInfo → DegradationAction → Type 0) where
  module _ (types : MessageTypeDetails) (naming : ℕ → Naming) (order : List (ℕ × ServicePorts T U)) (old new : NumberedHub T U B D)
      (state : State T) (stands : PortsStandFor choices degrades decides reader_degrades naming order old state) (number : ℕ)
      (grown : HaveGrown old.hub.services.domains) (rises : Rises 1 old.made.subscribers.entries old.made.subscribers.next)
      (counted : ListsCanChange old.hub) where
    abbrev asked : Command T
    asked = command.Leave (number_of.Subscriber number)

    abbrev Result : Bool → NumberedHub T U B D → Type 0
    Result done later = IsMatched degrades decides reader_degrades types choices naming order old state asked (done_reply done) stands
        later

    -- nothing goes by its number
    goes_by_none : value_at (removed old.made.subscribers number) number ≡ None
    goes_by_none = lookup-removed number 1 old.made.subscribers.next old.made.subscribers.entries rises

    others_go : (other : ℕ) → other ≢ number
        → value_at (removed old.made.subscribers number) other ≡ value_at old.made.subscribers other
    others_go other off = lookup-removed_other number other old.made.subscribers.entries off

    module _ (port : PortId) (there : value_at old.made.subscribers number ≡ Some port) (ports : ServicePorts T U)
        (found : hub_ports port.domain old.hub ≡ Some ports) (known : (naming port.domain.service).subscriber port.number ≡ number)
        (some : (naming port.domain.service).subscriber port.number ≢ 0) where
      abbrev id : DomainId
      id = port.domain

      abbrev Stands : Service T → Type 0
      Stands service = StandsFor (naming id.service) (those_of id.service (lent_in old.made)) (those_of id.service (held_in old.made))
          old.hub.expired_connection_buffer ports service

      roomy : AreRoomy ports
      roomy = roomy_there id ports old.hub grown found

      matches : (done : Bool) (after : ServicePorts T U) (service : Service T) → SubscriberLeaves port.number ports done after
          → Stands service
          → Matches T U choices types old.hub.expired_connection_buffer asked (done_reply done) state service (naming id.service)
          (those_of id.service (lent_in old.made)) (those_of id.service (held_in old.made)) after
      matches done after service leaves its =
          subst (λ (it : Reply T). Matches T U choices types old.hub.expired_connection_buffer asked it state service (naming id.service)
          (those_of id.service (lent_in old.made)) (those_of id.service (held_in old.made)) after) (sym (done_so done))
          (subst (λ (name : ℕ). Matches T U choices types old.hub.expired_connection_buffer (command.Leave (number_of.Subscriber name))
          (done_or_skipped done) state service (naming id.service) (those_of id.service (lent_in old.made))
          (those_of id.service (held_in old.made)) after) known
          (subscriber_leave_matches T U choices types old.hub.expired_connection_buffer (naming id.service)
          (those_of id.service (lent_in old.made)) (those_of id.service (held_in old.made)) ports after service state port.number done its
          roomy some (counted id ports found).1 leaves))

      -- it isn't there
      stays : (after : ServicePorts T U) → SubscriberLeaves port.number ports false after
          → Result false (record new { hub = with_hub_ports id after old.hub; made = old.made })
      stays after leaves =
          let (order_after, services, keys, does, then) = machine_does degrades decides reader_degrades types choices naming order old
          (record new { hub = with_hub_ports id after old.hub; made = old.made }) state asked reply.Skipped id ports after
          (naming id.service) stands found refl refl refl (port.number, known, λ zero. some (known ∙ zero))
          (λ other off. refl, stands.domains.loans) (λ other off. refl, stands.domains.samples)
          (λ first service last are its. matches false after service leaves its)
          (λ services did. skipped_alike number state (answered_with reply.Skipped services state) did)
          refl refl stands.numbers stands.loans stands.samples in
          (with_name id.service (naming id.service) naming, order_after, services, keys, does, then)

      module _ (after : ServicePorts T U) (leaves : SubscriberLeaves port.number ports true after) where
        its_left : ReaderHasLeft port.number ports after
        its_left =
            let (one, its) = some_service choices degrades decides reader_degrades naming order old state stands id ports found in
            reader_has_left (naming id.service) (those_of id.service (lent_in old.made)) (those_of id.service (held_in old.made))
            old.hub.expired_connection_buffer port.number ports one its roomy after leaves

        abbrev now : Hub T U B D
        now = changed choices degrades decides reader_degrades naming order old state stands id ports after found as_kept
            (forgotten port.number)

        down : subscriber_is_up now id port.number ≡ false
        down = reader_up_here choices degrades decides reader_degrades naming order old state stands id ports after found as_kept
            (forgotten port.number) port.number ∙ its_left.down

        apart : (place : ℕ) → (port.number ≡ place → ⊥) → place ≢ port.number
        apart place off same = off (sym same)

        others_stay : (other : DomainId) (place : ℕ) → (id ≡ other → port.number ≡ place → ⊥)
            → subscriber_is_up now other place ≡ subscriber_is_up old.hub other place
        others_stay other place off = ⊎_elim
            (λ same. ap (λ (it : DomainId). subscriber_is_up now it place) (sym same)
            ∙ reader_up_here choices degrades decides reader_degrades naming order old state stands id ports after found as_kept
            (forgotten port.number) place
            ∙ its_left.others place (apart place (off same)) ∙ ap (subscriber_stands place) (sym found)
            ∙ ap (λ (it : DomainId). subscriber_is_up old.hub it place) same)
            (λ elsewhere. reader_up_elsewhere choices degrades decides reader_degrades naming order old state stands id ports after found
            as_kept
            (forgotten port.number) other place elsewhere) (one_or_other id other)

        publishers_stay : (other : DomainId) (place : ℕ) → publisher_is_up now other place ≡ publisher_is_up old.hub other place
        publishers_stay other place = ⊎_elim
            (λ same. ap (λ (it : DomainId). publisher_is_up now it place) (sym same)
            ∙ up_here choices degrades decides reader_degrades naming order old state stands id ports after found as_kept
            (forgotten port.number)
            place
            ∙ its_left.publishers place ∙ ap (publisher_stands place) (sym found)
            ∙ ap (λ (it : DomainId). publisher_is_up old.hub it place) same)
            (λ elsewhere. up_elsewhere choices degrades decides reader_degrades naming order old state stands id ports after found as_kept
            (forgotten port.number) other place elsewhere) (one_or_other id other)

        handlers_stay : (other : DomainId) (place : ℕ)
            → publisher_handlers_in place (domain_at other now.services) ≡ publisher_handlers_in place (domain_at other old.hub.services)
        handlers_stay other place = ⊎_elim
            (λ same. ap (λ (it : DomainId). publisher_handlers_in place (domain_at it now.services)) (sym same)
            ∙ same_handlers choices degrades decides reader_degrades naming order old state stands id ports after found as_kept
            (forgotten port.number) place (λ kept. refl)
            ∙ ap (λ (it : DomainId). publisher_handlers_in place (domain_at it old.hub.services)) same)
            (λ elsewhere. handlers_elsewhere choices degrades decides reader_degrades naming order old state stands id ports after found
            as_kept
            (forgotten port.number) other place elsewhere) (one_or_other id other)

        reader_handlers_stay : (other : DomainId) (place : ℕ) → (id ≡ other → port.number ≡ place → ⊥)
            → subscriber_handler_in place (domain_at other now.services) ≡ subscriber_handler_in place (domain_at other old.hub.services)
        reader_handlers_stay other place off = ⊎_elim
            (λ same. ap (λ (it : DomainId). subscriber_handler_in place (domain_at it now.services)) (sym same)
            ∙ same_readers choices degrades decides reader_degrades naming order old state stands id ports after found as_kept
            (forgotten port.number) place (kept_beside port.number place (apart place (off same)))
            ∙ ap (λ (it : DomainId). subscriber_handler_in place (domain_at it old.hub.services)) same)
            (λ elsewhere. readers_elsewhere choices degrades decides reader_degrades naming order old state stands id ports after found
            as_kept
            (forgotten port.number) other place elsewhere) (one_or_other id other)

        abbrev name : ℕ → ℕ → ℕ
        name service = (naming service).subscriber

        -- it leaves
        leaves_then : Result true (record new {
          hub = without_hub_subscriber id port.number (with_hub_ports id after old.hub);
          made = without_subscriber number old.made;
        })
        leaves_then =
            let (services, does, all)
            = machine_left choices degrades decides reader_degrades naming order old state stands id ports after found
            as_kept (forgotten port.number) types asked (port.number, known, λ zero. some (known ∙ zero))
            (λ service its. matches true after service leaves its) in
            let then = stands_without choices degrades decides reader_degrades naming order old state stands id ports after found
            as_kept (forgotten port.number) new old.made.publishers (removed old.made.subscribers number) services all refl refl
            (names_still (λ service. (naming service).publisher) (publisher_is_up old.hub) (publisher_is_up now)
            (λ other. port_under (value_at old.made.publishers other)) stands.publishers publishers_stay)
            (goes_less name (subscriber_is_up old.hub) (subscriber_is_up now) (value_at old.made.subscribers)
            (value_at (removed old.made.subscribers number)) stands.subscribers number port there goes_by_none others_go down others_stay)
            (λ other made is. is)
            (λ other place up. (
              sym (publishers_stay other place) ∙ up,
              publishers_alike number state (answered_with reply.Done services state) reply.Done ((naming other.service).publisher place)
                  does,
              handlers_stay other place,
            ))
            (λ other place up. (
              was_up name (subscriber_is_up old.hub) (subscriber_is_up now) (value_at old.made.subscribers)
                  (value_at (removed old.made.subscribers number)) stands.subscribers number port there goes_by_none others_go down
                  others_stay other place up,
              others_alike number state (answered_with reply.Done services state) reply.Done (name other.service place)
                  (name_apart name (subscriber_is_up old.hub) (subscriber_is_up now) (value_at old.made.subscribers)
                  (value_at (removed old.made.subscribers number)) stands.subscribers number port there goes_by_none others_go down
                  others_stay other place up) does,
              reader_handlers_stay other place (not_it name (subscriber_is_up old.hub) (subscriber_is_up now)
                  (value_at old.made.subscribers) (value_at (removed old.made.subscribers number)) stands.subscribers number port there
                  goes_by_none others_go down others_stay other place up),
            )) in (
              naming,
              order_then choices degrades decides reader_degrades naming order old state stands id ports after found as_kept
                  (forgotten port.number),
              services,
              keys_then choices degrades decides reader_degrades naming order old state stands id ports after found as_kept
                  (forgotten port.number),
              does,
              then,
            )

    leave_by : (done : Bool) (found : Option PortId) → value_at old.made.subscribers number ≡ found
        → AtPortIf (SubscriberGoes hub_ports with_hub_ports without_hub_subscriber) found old.hub done new.hub
        → new.made ≡ removed_if done (without_subscriber number) old.made → Result done new
    leave_by done None none (nothing, same) less =
        subst (λ (it : Bool). Result it new) (sym nothing) (
          naming,
          order,
          state.services,
          refl,
          at_one_skips (subscriber_in number) (Leaves number) state
              (no_subscriber_goes choices degrades decides reader_degrades naming order old state stands number none),
          same_stands choices degrades decides reader_degrades naming order old state stands number new same
              (less ∙ ap (λ (it : Bool). removed_if it (without_subscriber number) old.made) nothing),
        )
    leave_by done (Some port) there goes less =
        let it = reader_goes choices degrades decides reader_degrades naming order old state stands number port there in
        let (after, leaves, same) = subst (λ (it : Option (ServicePorts T U)). LeavesDomain
        (λ (one : ServicePorts T U). with_hub_ports port.domain one old.hub) (without_hub_subscriber port.domain port.number)
        (SubscriberLeaves port.number) it old.hub done new.hub) it.found goes in
        by done port there it.ports it.found it.named it.some after leaves same less
      where
        by : (done : Bool) (port : PortId) (there : value_at old.made.subscribers number ≡ Some port) (ports : ServicePorts T U)
            (found : hub_ports port.domain old.hub ≡ Some ports) (known : (naming port.domain.service).subscriber port.number ≡ number)
            (some : (naming port.domain.service).subscriber port.number ≢ 0) (after : ServicePorts T U)
            → SubscriberLeaves port.number ports done after
            → new.hub ≡ dropped_if done (without_hub_subscriber port.domain port.number) (with_hub_ports port.domain after old.hub)
            → new.made ≡ removed_if done (without_subscriber number) old.made → Result done new
        by false port there ports found known some after leaves same less =
            subst (λ (it : Hub T U B D). Result false (record new { hub = it })) (sym same)
            (subst (λ (it : Made). Result false (record new { hub = with_hub_ports port.domain after old.hub; made = it })) (sym less)
            (stays port there ports found known some after leaves))
        by true port there ports found known some after leaves same less =
            subst (λ (it : Hub T U B D). Result true (record new { hub = it })) (sym same)
            (subst (λ (it : Made). Result true (record new {
              hub = without_hub_subscriber port.domain port.number (with_hub_ports port.domain after old.hub);
              made = it;
            })) (sym less) (leaves_then port there ports found known some after leaves))

  pub subscriber_leave_simulated : SubscriberLeaveIsSimulated choices is_default_header degrades decides reader_degrades
  subscriber_leave_simulated number old grown rise counted payload user_header types fixed fixed_reader naming order new state answer stands
      ((done, goes, less, told), same) =
      subst (λ (it : Reply T). IsMatched degrades decides reader_degrades types choices naming order old state
      (command.Leave (number_of.Subscriber number)) it stands new) (sym told)
      (leave_by types naming order old new state stands number grown rise.2 counted done (value_at old.made.subscribers number) refl goes
      less)

-- Subscribers of a hub bring their connections up to date, and are told whether some of these have data.
use Rattle.std.proofs.Common.{◌≡◌, ◌≢◌, ℕ, Bool, List, Option, None, Some, Result, Ok, Err, refl, sym, ap, subst}
use Rattle.std.proofs.Common.{◌∙◌}
use Rattle.std.specs.Prelude.{find, is_some}
use Rattle.iox_command.specs.DomainValues.declared.backpressure.BackpressureDecision.{BackpressureDecision}
use Rattle.iox_command.specs.DomainValues.declared.backpressure.BackpressureInfo.{BackpressureInfo}
use Rattle.iox_command.specs.DomainValues.declared.connection_failure.ConnectionFailure.{ConnectionFailure}
use Rattle.iox_command.specs.DomainValues.declared.degradation.DegradationAction.{DegradationAction}
use Rattle.iox_command.specs.DomainValues.declared.degradation.DegradationCause.{DegradationCause}
use Rattle.iox_command.specs.DomainValues.declared.degradation.DegradationInfo.{DegradationInfo}
use Rattle.iox_command.specs.NegotiateBase.DescribeBase.declared.message_type.MessageTypeDetails.{MessageTypeDetails}
use Rattle.iox_command.specs.declared.command.Command.{Command}
use Rattle.iox_command.specs.declared.command.Command.TheVariants as command
use Rattle.iox_command.specs.declared.port.PortNumber.TheVariants as port
use Rattle.iox_command.specs.declared.refusal.Refusal.TheVariants as refusal
use Rattle.iox_command.specs.declared.reply.Reply.{Reply}
use Rattle.iox_command.specs.declared.reply.Reply.TheVariants as reply
use Rattle.iox_container.specs.NumberTable.{value_at}
use Rattle.iox_delivery.specs.declared.port_id.PortId.{PortId}
use Rattle.iox_domain.specs.AtHomes.{AtDomain}
use Rattle.iox_domain.specs.DomainPorts.declared.attached.Taken.{Taken}
use Rattle.iox_domain.specs.Roomy.{AreRoomy}
use Rattle.iox_domain.specs.Steps.{FollowsBy, TellsBy}
use Rattle.iox_domain.specs.declared.ports.service_ports.ServicePorts.{ServicePorts}
use Rattle.iox_domain_machine.specs.Laws.{Matches}
use Rattle.iox_domain_machine.specs.Naming.{Naming}
use Rattle.iox_domain_machine.specs.ReceiveLaws.{told_or_skipped}
use Rattle.iox_domain_machine.specs.ServiceLaws.{IsNamed, NamesOf}
use Rattle.iox_domain_machine.specs.Services.{those_of}
use Rattle.iox_domain_machine.specs.Standing.{StandsFor}
use Rattle.iox_domain_machine.specs.SubscriberUpdateLaws.{ActsAs, updated_or_skipped}
use Rattle.iox_domain_machine.specs.Tables.{LentSlot}
use Rattle.iox_domain_machine.proofs.Asking.{has_matches}
use Rattle.iox_domain_machine.proofs.UpdateMatches.{subscriber_update_matches}
use Rattle.iox_hub_base.specs.AsHome.{hub_ports, with_hub_ports}
use Rattle.iox_hub_base.specs.declared.hub.Hub.{Hub}
use Rattle.iox_hub_commands.specs.Calls.{AtPort}
use Rattle.iox_hub_commands.specs.CommandSteps.{subscriber_may_degrade}
use Rattle.iox_hub_commands.specs.Grown.{HaveGrown}
use Rattle.iox_hub_commands.specs.Replies.{updated_reply, has_reply}
use Rattle.iox_hub_commands.specs.declared.numbered_hub.NumberedHub.{NumberedHub}
use Rattle.iox_hub_machine.specs.Laws.{answered_with}
use Rattle.iox_hub_machine.specs.ReceiveLaws.{SubscriberUpdateIsSimulated, HasIsSimulated}
use Rattle.iox_hub_machine.specs.Standing.{PortsStandFor, lent_in, held_in}
use Rattle.iox_hub_machine.proofs.Acting.{reader_acts_as}
use Rattle.iox_hub_machine.proofs.Amidst.{at_one_skips}
use Rattle.iox_hub_machine.proofs.Attending.{attending_alike, answered_alike, standing_found}
use Rattle.iox_hub_machine.proofs.Deciding.{DecideAlike, at_one_decides}
use Rattle.iox_hub_machine.proofs.Going.{same_stands}
use Rattle.iox_hub_machine.proofs.Moving.{IsMatched}
use Rattle.iox_hub_machine.proofs.Readers.{reader_goes, no_subscriber_goes}
use Rattle.iox_hub_machine.proofs.Renaming.{ports_alone_named}
use Rattle.iox_hub_machine.proofs.Rooming.{roomy_there}
use Rattle.iox_machine.specs.Choices.{Choices}
use Rattle.iox_machine.specs.Ports.{subscriber_in}
use Rattle.iox_machine.specs.Receiving.{has_samples}
use Rattle.iox_machine.specs.Run.{Step}
use Rattle.iox_machine.specs.Service.{Service, Subscriber}
use Rattle.iox_machine.specs.State.{State, Made, AtOne, counted}
use Rattle.iox_machine.specs.SubscriberUpdate.{UpdatesFirst}
use Rattle.iox_machine.specs.Table.{at}

-- the machine's subscriber brings its connections up to date
abbrev ReaderUpdates : {T : Type 0} → Choices T → ℕ → ℕ → Subscriber → Service T → Reply T → Service T → Type 0
ReaderUpdates choices buffer number = UpdatesFirst choices buffer number refusal.Connection
    (λ one service answered after. (answered ≡ reply.Done) × (after ≡ service))

following_alike : {T : Type 0} (choices : Choices T) (buffer number : ℕ) (state new : State T) (answer : Reply T)
    → AtOne (subscriber_in number) (ReaderUpdates choices buffer number) state answer new → DecideAlike state.services new.services
following_alike {T} choices buffer number state new answer did =
    at_one_decides (subscriber_in number) (ReaderUpdates choices buffer number) state new answer
    (λ one service after is does.
    attending_alike choices buffer number refusal.Connection (λ other mid answered later. (answered ≡ reply.Done) × (later ≡ mid)) one
    service after
    answer
    (standing_found (λ (it : Subscriber). it.stands) (at number service.subscribers) one is)
    (λ other mid attends done. answered_alike number service mid after other attends done.1) does) did

-- it is told whether some connection of it has data
abbrev ReaderTells : {T : Type 0} → Choices T → ℕ → ℕ → Subscriber → Service T → Reply T → Service T → Type 0
ReaderTells choices buffer number = UpdatesFirst choices buffer number refusal.Connection
    (λ one service answered after. (answered ≡ reply.Has (has_samples number one service)) × (after ≡ service))

telling_alike : {T : Type 0} (choices : Choices T) (buffer number : ℕ) (state new : State T) (answer : Reply T)
    → AtOne (subscriber_in number) (ReaderTells choices buffer number) state answer new → DecideAlike state.services new.services
telling_alike {T} choices buffer number state new answer did =
    at_one_decides (subscriber_in number) (ReaderTells choices buffer number) state new answer
    (λ one service after is does.
    attending_alike choices buffer number refusal.Connection
    (λ other mid answered later. (answered ≡ reply.Has (has_samples number other mid)) × (later ≡ mid)) one service after answer
    (standing_found (λ (it : Subscriber). it.stands) (at number service.subscribers) one is)
    (λ other mid attends done. answered_alike number service mid after other attends done.1) does) did

pub updated_so : {T : Type 0} (outcome : Option (Result (Unit {0}) ConnectionFailure)) → updated_or_skipped {T = T} outcome
    ≡ updated_reply outcome
updated_so None = refl
updated_so (Some (Ok done)) = refl
updated_so (Some (Err failure)) = refl

pub updated_counts : (T : Type 0) (outcome : Option (Result (Unit {0}) ConnectionFailure)) (made : Made)
    → counted {T = T} (updated_reply outcome) made ≡ made
updated_counts T None made = refl
updated_counts T (Some (Ok done)) made = refl
updated_counts T (Some (Err failure)) made = refl

has_so : {T : Type 0} (outcome : Option (Result Bool ConnectionFailure)) → told_or_skipped {T = T} outcome ≡ has_reply outcome
has_so None = refl
has_so (Some (Ok has)) = refl
has_so (Some (Err failure)) = refl

has_counts : (T : Type 0) (outcome : Option (Result Bool ConnectionFailure)) (made : Made) → counted {T = T} (has_reply outcome) made ≡ made
has_counts T None made = refl
has_counts T (Some (Ok has)) made = refl
has_counts T (Some (Err failure)) made = refl

module _ {T U B D : Type 0} (choices : Choices T) (is_default_header : U → Type 0)
    (degrades : B → DegradationCause → DegradationInfo → DegradationAction → Type 0)
    (decides : B → BackpressureInfo → BackpressureDecision → Type 0)
    (reader_degrades : D → DegradationCause → DegradationInfo → DegradationAction → Type 0) where
  module _ (types : MessageTypeDetails) (naming : ℕ → Naming) (order : List (ℕ × ServicePorts T U)) (old new : NumberedHub T U B D)
      (state : State T) (stands : PortsStandFor choices degrades decides reader_degrades naming order old state) (number : ℕ)
      (grown : HaveGrown old.hub.services.domains) (same : new ≡ record old { hub = new.hub }) where
    -- what a command on a subscriber does at its domain, how that is replied, and how the machine matches it
    module _ {A : Type 0} (asked : ℕ → Command T)
        (does_by : (DegradationInfo → DegradationAction → Type 0) → ℕ → ServicePorts T U → Option A → ServicePorts T U → Type 0)
        (told : Option A → Reply T) (skipped : told None ≡ reply.Skipped)
        (counts : (outcome : Option A) → counted (told outcome) state.made ≡ state.made)
        (names_reader : (domain : ℕ) → IsNamed (naming domain).subscriber number
        → NamesOf domain (naming domain) (lent_in old.made) (held_in old.made) (asked number))
        (skips : find (λ (service : Service T). is_some (subscriber_in number service)) state.services ≡ None
        → Step types choices old.hub.expired_connection_buffer (asked number) state reply.Skipped state)
        (alike : (answer : Reply T) (services : List (Service T))
        → Step types choices old.hub.expired_connection_buffer (asked number) state answer (answered_with answer services state)
        → DecideAlike state.services services)
        (matches : (may : DegradationInfo → DegradationAction → Type 0) (names : Naming) (lent : List (ℕ × LentSlot))
        (held : List (ℕ × Taken)) (before after : ServicePorts T U) (service : Service T) (reader : ℕ) (outcome : Option A)
        → StandsFor names lent held old.hub.expired_connection_buffer before service → AreRoomy before → names.subscriber reader ≢ 0
        → ActsAs choices may (names.subscriber reader) service → does_by may reader before outcome after
        → (later : ℕ → ℕ → ℕ) × Matches T U choices types old.hub.expired_connection_buffer (asked (names.subscriber reader))
        (told outcome) state service (record names { reader = later }) lent held after) where
      does_at : (outcome : Option A) (found : Option PortId) → value_at old.made.subscribers number ≡ found
          → AtPort (λ (id : PortId) (home : Hub T U B D) (answer : Option A) (home_then : Hub T U B D).
          AtDomain (λ after. with_hub_ports id.domain after home)
          (does_by (subscriber_may_degrade reader_degrades id.domain id.number home) id.number)
          (hub_ports id.domain home) home answer home_then) found old.hub outcome new.hub
          → IsMatched degrades decides reader_degrades types choices naming order old state (asked number) (told outcome) stands new
      does_at outcome None none (nothing, changes) =
          subst (λ (it : Reply T). IsMatched degrades decides reader_degrades types choices naming order old state (asked number) it
          stands new) (sym (ap told nothing ∙ skipped)) (
            naming,
            order,
            state.services,
            refl,
            skips (no_subscriber_goes choices degrades decides reader_degrades naming order old state stands number none),
            same_stands choices degrades decides reader_degrades naming order old state stands number new changes
                (ap (λ (it : NumberedHub T U B D). it.made) same),
          )
      does_at outcome (Some it) there does =
          let goes = reader_goes choices degrades decides reader_degrades naming order old state stands number it there in
          let id = it.domain in
          let names : Naming = naming id.service in
          let lent = those_of id.service (lent_in old.made) in
          let held = those_of id.service (held_in old.made) in
          let buffer = old.hub.expired_connection_buffer in
          let may = subscriber_may_degrade reader_degrades id it.number old.hub in
          let (after, does_there, changes) = subst (λ (ports : Option (ServicePorts T U)). AtDomain
          (λ (one : ServicePorts T U). with_hub_ports id one old.hub) (does_by may it.number) ports old.hub outcome new.hub)
          goes.found does in
          ports_alone_named degrades decides reader_degrades types choices naming order old new state (asked number) (told outcome) id
          goes.ports after stands goes.found (same ∙ ap (λ (hub : Hub T U B D). record old { hub = hub }) changes) (counts outcome)
          (names_reader id.service (it.number, goes.named, λ zero. goes.some (goes.named ∙ zero)))
          (λ first service last are stood.
          let (later, matched) = matches may names lent held goes.ports after service it.number outcome stood
          (roomy_there id goes.ports old.hub grown goes.found) goes.some
          (reader_acts_as choices degrades decides reader_degrades naming order old state stands id goes.ports goes.found first service
          last are
          stood
          it.number) does_there in (
            record names { reader = later },
            refl,
            refl,
            subst (λ (name : ℕ). Matches T U choices types buffer (asked name) (told outcome) state service
                (record names { reader = later }) lent held after) goes.named matched,
          ))
          (λ services did. alike (told outcome) services did)

  pub subscriber_update_simulated : SubscriberUpdateIsSimulated choices is_default_header degrades decides reader_degrades
  subscriber_update_simulated number old grown payload user_header types fixed fixed_reader naming order new state answer stands
      ((outcome, does, told), same) =
      let buffer = old.hub.expired_connection_buffer in
      subst (λ (it : Reply T). IsMatched degrades decides reader_degrades types choices naming order old state
      (command.Update (port.Subscriber number)) it stands new) (sym told)
      (does_at types naming order old new state stands number grown same (λ (name : ℕ). command.Update (port.Subscriber name)) FollowsBy
      updated_reply refl (λ told. updated_counts T told state.made) (λ domain named. named)
      (λ none. at_one_skips (subscriber_in number) (ReaderUpdates choices buffer number) state none)
      (λ told services did. following_alike choices buffer number state (answered_with told services state) told did)
      (λ may names lent held before after service reader told its roomy named acts follows.
      let (later, matched) = subscriber_update_matches T U choices may types buffer names lent held before after service state reader
      told its roomy named acts follows in (
        later,
        subst (λ (it : Reply T). Matches T U choices types buffer (command.Update (port.Subscriber (names.subscriber reader))) it state
            service (record names { reader = later }) lent held after) (updated_so told) matched,
      ))
      outcome (value_at old.made.subscribers number) refl does)

  pub has_simulated : HasIsSimulated choices is_default_header degrades decides reader_degrades
  has_simulated number old grown payload user_header types fixed fixed_reader naming order new state answer stands
      ((outcome, does, told), same) =
      let buffer = old.hub.expired_connection_buffer in
      subst (λ (it : Reply T). IsMatched degrades decides reader_degrades types choices naming order old state (command.Has number) it
      stands new) (sym told)
      (does_at types naming order old new state stands number grown same (λ (name : ℕ). command.Has name) TellsBy
      has_reply refl (λ told. has_counts T told state.made) (λ domain named. named)
      (λ none. at_one_skips (subscriber_in number) (ReaderTells choices buffer number) state none)
      (λ told services did. telling_alike choices buffer number state (answered_with told services state) told did)
      (λ may names lent held before after service reader told its roomy named acts tells.
      let (later, matched) = has_matches T U choices may types buffer names lent held before after service state reader told its roomy
      named acts tells in (
        later,
        subst (λ (it : Reply T). Matches T U choices types buffer (command.Has (names.subscriber reader)) it state service
            (record names { reader = later }) lent held after) (has_so told) matched,
      ))
      outcome (value_at old.made.subscribers number) refl does)

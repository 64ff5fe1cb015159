-- A port comes at one domain among others.
use Rattle.std.proofs.Common.{◌≡◌, ◌≢◌, ℕ, true, false, List, [], ◌∷◌, ◌++◌, Option, None, refl, sym, ap, subst, ◌∙◌}
use Rattle.std.specs.List.{list_any}
use Rattle.std.specs.Map.{keys_of}
use Rattle.std.specs.Option.{option_or}
use Rattle.iox_command.specs.NegotiateBase.DescribeBase.declared.message_type.MessageTypeDetails.{MessageTypeDetails}
use Rattle.iox_command.specs.declared.command.Command.{Command}
use Rattle.iox_command.specs.declared.reply.Reply.{Reply}
use Rattle.iox_domain.specs.DomainPorts.declared.attached.Taken.{Taken}
use Rattle.iox_domain.specs.Tries.{how_often}
use Rattle.iox_domain.specs.declared.ports.service_ports.ServicePorts.{ServicePorts}
use Rattle.iox_domain_machine.specs.Laws.{with_alone}
use Rattle.iox_domain_machine.specs.Naming.{Naming, with_name}
use Rattle.iox_domain_machine.specs.Services.{those_of, StandInTurn}
use Rattle.iox_domain_machine.specs.Standing.{StandsFor}
use Rattle.iox_domain_machine.specs.Tables.{LentSlot}
use Rattle.iox_domain_machine.proofs.Services.{joined, others_stand}
use Rattle.iox_hub_machine.proofs.Amidst.{is_none}
use Rattle.iox_hub_machine.proofs.ComesNamed.{named_aside, named_there}
use Rattle.iox_hub_machine.specs.Ports.{among}
use Rattle.iox_machine.specs.Choices.{Choices}
use Rattle.iox_machine.proofs.Among.{steps-among}
use Rattle.iox_machine.specs.Named.{has_named, is_on_ports}
use Rattle.iox_machine.specs.Run.{Step}
use Rattle.iox_machine.specs.Service.{Service, Publisher, Subscriber}
use Rattle.iox_machine.specs.State.{State, counted}
use Rattle.iox_machine.specs.Table.{at}

module _ {T : Type 0} (choices : Choices T) (types : MessageTypeDetails) (buffer : ℕ) (state : State T) (asked : Command T)
    (answer : Reply T) (first : List (Service T)) (service after : Service T)
    (last : List (Service T)) (are : state.services ≡ first ++ service ∷ last) (on : is_on_ports asked ≡ true)
    (none_before : list_any (has_named state.factories asked) first ≡ false)
    (none_behind : list_any (has_named state.factories asked) last ≡ false)
    (does : Step types choices buffer asked (with_alone service state) answer
    (record (with_alone after state) { made = counted answer state.made })) where
  -- what one service does alone all do
  pub all_do : Step types choices buffer asked state answer
      (record state { made = counted answer state.made; services = first ++ after ∷ last })
  all_do =
      subst (λ (services : List (Service T)). Step types choices buffer asked (record state { services = services }) answer
      (record state { made = counted answer state.made; services = first ++ after ∷ last })) (sym are)
      (steps-among choices types buffer asked state answer first last service after on none_before none_behind does)

module _ {T U : Type 0} (buffer : ℕ) (naming : ℕ → Naming) (lent : List (ℕ × (ℕ × LentSlot))) (held : List (ℕ × (ℕ × Taken)))
    (before behind : List (ℕ × ServicePorts T U)) (number : ℕ) (first last : List (Service T)) (after : Service T)
    (ports_then : ServicePorts T U) (names_then : Naming) (alone_before : how_often number (keys_of before) ≡ 0)
    (alone_behind : how_often number (keys_of behind) ≡ 0) (stand_before : StandInTurn naming lent held buffer before first)
    (stand_behind : StandInTurn naming lent held buffer behind last)
    (stands_then : StandsFor names_then (those_of number lent) (those_of number held) buffer ports_then after) where
  abbrev naming_then : ℕ → Naming
  naming_then = with_name number names_then naming

  still : (domains : List (ℕ × ServicePorts T U)) (services : List (Service T)) → how_often number (keys_of domains) ≡ 0
      → StandInTurn naming lent held buffer domains services → StandInTurn naming_then lent held buffer domains services
  still domains services none stand =
      others_stand {T = T} {U = U} naming naming_then lent lent held held buffer number
      (λ other off. named_aside number other names_then naming off) (λ other off. refl) (λ other off. refl) domains services none stand

  -- all stand then, whatever names the ports of one have
  pub all_stand : StandInTurn naming_then lent held buffer (before ++ (number, ports_then) ∷ behind) (first ++ after ∷ last)
  all_stand =
      joined naming_then lent held buffer before behind (number, ports_then) first after last
      (still before first alone_before stand_before)
      (subst (λ (names : Naming). StandsFor names (those_of number lent) (those_of number held) buffer ports_then after)
      (sym (named_there number names_then naming)) stands_then)
      (still behind last alone_behind stand_behind)

module _ {T U : Type 0} (naming : ℕ → Naming) (lent : List (ℕ × (ℕ × LentSlot))) (held : List (ℕ × (ℕ × Taken))) (buffer name : ℕ) where
  -- no service has a subscriber of a name that none has
  pub no_subscriber_so : ((one other : ℕ) → (naming one).subscriber other ≢ name) → (domains : List (ℕ × ServicePorts T U))
      (services : List (Service T)) → StandInTurn naming lent held buffer domains services
      → among (λ service. service.subscribers) name services ≡ None
  no_subscriber_so new [] services stand = ap (among (λ service. service.subscribers) name) stand
  no_subscriber_so new (domain ∷ domains) [] stand = absurd stand
  no_subscriber_so new (domain ∷ domains) (service ∷ services) (it, rest) =
      ap (λ (found : Option Subscriber). option_or found (among (λ service. service.subscribers) name services))
      (is_none (at name service.subscribers)
      (λ is. let named = it.named_subscribers.each name is in new domain.0 named.0 named.1))
      ∙ no_subscriber_so new domains services rest

  -- so it is with publishers
  pub no_publisher_so : ((one other : ℕ) → (naming one).publisher other ≢ name) → (domains : List (ℕ × ServicePorts T U))
      (services : List (Service T)) → StandInTurn naming lent held buffer domains services
      → among (λ service. service.publishers) name services ≡ None
  no_publisher_so new [] services stand = ap (among (λ service. service.publishers) name) stand
  no_publisher_so new (domain ∷ domains) [] stand = absurd stand
  no_publisher_so new (domain ∷ domains) (service ∷ services) (it, rest) =
      ap (λ (found : Option (Publisher T)). option_or found (among (λ service. service.publishers) name services))
      (is_none (at name service.publishers)
      (λ is. let named = it.named_publishers.each name is in new domain.0 named.0 named.1))
      ∙ no_publisher_so new domains services rest

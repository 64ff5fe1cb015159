-- A new hub.
use Rattle.std.proofs.Common.{◌≡◌, ℕ, Bool, true, false, cond, List, [], Option, None, refl, sym, ap, subst, ◌∙◌, arith}
use Rattle.iox_command.specs.DomainValues.declared.backpressure.BackpressureDecision.{BackpressureDecision}
use Rattle.iox_command.specs.DomainValues.declared.backpressure.BackpressureInfo.{BackpressureInfo}
use Rattle.iox_command.specs.DomainValues.declared.degradation.DegradationAction.{DegradationAction}
use Rattle.iox_command.specs.DomainValues.declared.degradation.DegradationCause.{DegradationCause}
use Rattle.iox_command.specs.DomainValues.declared.degradation.DegradationInfo.{DegradationInfo}
use Rattle.iox_delivery.specs.Holding.{publisher_stands, subscriber_stands}
use Rattle.iox_domain.specs.declared.domain.Domain.{Domain}
use Rattle.iox_domain.specs.declared.domain_id.DomainId.{DomainId}
use Rattle.iox_domain_machine.proofs.Found.{never_some, never_true}
use Rattle.iox_domain_machine.specs.Naming.{nameless}
use Rattle.iox_hub_base.specs.ServicesAsHome.{domain_at, ports_if}
use Rattle.iox_hub_commands.specs.ServicesTables.{no_factories}
use Rattle.iox_hub_commands.specs.declared.numbered_hub.NumberedHub.{NumberedHub}
use Rattle.iox_hub_commands.specs.declared.room.Pledged.{Pledged}
use Rattle.iox_hub_machine.specs.ServiceLaws.{NewHubStands}
use Rattle.iox_hub_machine.specs.Services.{FactoriesStandFor, HubStandsFor}
use Rattle.iox_hub_machine.specs.Standing.{PortsStandFor, publisher_is_up, subscriber_is_up}
use Rattle.iox_machine.specs.Choices.{Choices}
use Rattle.iox_machine.specs.State.{new_state}
use Rattle.iox_negotiate_machine.proofs.Beginning.{new-stands}
use Rattle.iox_negotiate_table.specs.Contents.{empty_table}

module _ (T U B D : Type 0) (buffer id publishers subscribers loans samples : ℕ) (pledged : Pledged) where
  -- a hub in which nothing was made, with room for n numbers
  abbrev pub new_hub : NumberedHub T U B D
  new_hub = record {
    hub = record {
      expired_connection_buffer = buffer;
      nodes = 0;
      factories = 0;
      table = empty_table id;
      factory_counts = [];
      services = record { hub = id; domains = [] };
    };
    factories = record { made = no_factories };
    made = record {
      publishers = record { entries = []; next = 1; room = publishers };
      subscribers = record { entries = []; next = 1; room = subscribers };
      loans = record { entries = []; next = 1; room = loans };
      samples = record { entries = []; next = 1; room = samples };
    };
    pledged = pledged;
  }

  no_domain : (domain : DomainId) → domain_at domain new_hub.hub.services ≡ None
  no_domain domain = there _
    where
      there : (b : Bool) → ◌≡◌ {A = Option (Domain T U B D)} (cond b None None) None
      there true = refl
      there false = refl

  no_publisher : (domain : DomainId) (number : ℕ) → publisher_is_up new_hub.hub domain number ≡ false
  no_publisher domain number =
      ap (λ (found : Option (Domain T U B D)). publisher_stands number (ports_if found)) (no_domain domain)

  no_subscriber : (domain : DomainId) (number : ℕ) → subscriber_is_up new_hub.hub domain number ≡ false
  no_subscriber domain number =
      ap (λ (found : Option (Domain T U B D)). subscriber_stands number (ports_if found)) (no_domain domain)

  module _ (choices : Choices T) (degrades : B → DegradationCause → DegradationInfo → DegradationAction → Type 0)
      (decides : B → BackpressureInfo → BackpressureDecision → Type 0)
      (reader_degrades : D → DegradationCause → DegradationInfo → DegradationAction → Type 0) where
    no_ports_stand : PortsStandFor choices degrades decides reader_degrades (λ service. nameless) [] new_hub new_state
    no_ports_stand = record {
      here = tt;
      same = λ number. refl;
      domains = record {
        each = refl;
        once = λ number. omega arith;
        loans = λ number. omega arith;
        samples = λ number. omega arith;
        publishers = λ one other port another some same. absurd (some refl);
        subscribers = λ one other port another some same. absurd (some refl);
      };
      numbers = record { publishers = refl; subscribers = refl; loans = refl; samples = refl };
      loans = λ number made found. never_some made found;
      samples = λ number made found. never_some made found;
      publishers = record {
        known = λ number port found. never_some port found;
        each = λ domain number up. never_true (sym (no_publisher domain number) ∙ up);
      };
      subscribers = record {
        known = λ number port found. never_some port found;
        each = λ domain number up. never_true (sym (no_subscriber domain number) ∙ up);
      };
      named = record { publishers = λ service number. omega arith; subscribers = λ service number. omega arith };
      slices = λ number made found. never_some made found;
      publishers_handled = λ domain number publisher up found. never_true (sym (no_publisher domain number) ∙ up);
      subscribers_handled = λ domain number subscriber up found. never_true (sym (no_subscriber domain number) ∙ up);
    }

    no_factories_stand : (names : List (List ℕ)) → FactoriesStandFor names (λ pattern name. []) new_hub new_state
    no_factories_stand names = record {
      numbers = refl;
      owners = refl;
      same = refl;
      each = λ number made found. never_some made found;
      seats = λ pattern name node among. refl;
      counts = λ service. refl;
      opened = λ number made found is. never_some made found;
    }

    new_one_stands : (names : List (List ℕ))
        → HubStandsFor choices degrades decides reader_degrades names (λ pattern name. []) (λ service. nameless) [] new_hub new_state
    new_one_stands names = record {
      nodes = refl;
      table = new-stands T names id;
      id = refl;
      factories = no_factories_stand names;
      served = refl;
      ports = no_ports_stand;
    }

pub new_hub_stands : (T U : Type 0) {B D : Type 0} (choices : Choices T)
    (degrades : B → DegradationCause → DegradationInfo → DegradationAction → Type 0)
    (decides : B → BackpressureInfo → BackpressureDecision → Type 0)
    (reader_degrades : D → DegradationCause → DegradationInfo → DegradationAction → Type 0)
    → NewHubStands T U choices degrades decides reader_degrades
new_hub_stands T U {B} {D} choices degrades decides reader_degrades names config hub new =
    subst (λ (one : NumberedHub T U B D). HubStandsFor choices degrades decides reader_degrades names (λ pattern name. [])
    (λ service. nameless)
    [] one
    new_state)
    (sym (λ i. record {
      hub = record {
        expired_connection_buffer = new.expired_connection_buffer i;
        nodes = new.nodes i;
        factories = new.factories i;
        table = new.table i;
        factory_counts = new.factory_counts i;
        services = new.services i;
      };
      factories = record { made = new.no_factory i };
      made = record {
        publishers = record { entries = new.publishers.0 i; next = new.publishers.1 i; room = hub.made.publishers.room };
        subscribers = record { entries = new.subscribers.0 i; next = new.subscribers.1 i; room = hub.made.subscribers.room };
        loans = record { entries = new.loans.0 i; next = new.loans.1 i; room = hub.made.loans.room };
        samples = record { entries = new.samples.0 i; next = new.samples.1 i; room = hub.made.samples.room };
      };
      pledged = hub.pledged;
    }))
    (new_one_stands T U B D config.expired_connection_buffer config.id hub.made.publishers.room hub.made.subscribers.room
    hub.made.loans.room hub.made.samples.room hub.pledged choices degrades decides reader_degrades names)

-- Who stands of what a domain has where one left, and is gone from there if it is over.
use Rattle.std.proofs.Common.{◌≡◌, ◌≢◌, ◌≤◌, ℕ, Bool, true, false, cond, List, Option, None, Some, refl, sym, ap, subst, ◌∙◌}
use Rattle.std.proofs.lemmas.Map.{keys-set_value}
use Rattle.std.specs.Map.{keys_of, lookup, remove_entry, set_value}
use Rattle.iox_delivery.specs.Holding.{publisher_stands, subscriber_stands, stands_there}
use Rattle.iox_domain.proofs.Numbered.{at_number, same_set, other_gone, other_fails}
use Rattle.iox_domain.specs.DomainPorts.Leaving.{departed}
use Rattle.iox_domain.specs.DomainPorts.Publishers.{port_of, with_port, is_over_in}
use Rattle.iox_domain.specs.DomainPorts.declared.publisher_port.PublisherPort.{PublisherPort}
use Rattle.iox_domain.specs.DomainPorts.declared.subscriber_port.SubscriberPort.{SubscriberPort}
use Rattle.iox_domain.specs.Kept.{kept_under, forgotten}
use Rattle.iox_domain.specs.Lending.{passes_port}
use Rattle.iox_domain.specs.Ports.{with_publisher}
use Rattle.iox_domain.specs.Subscribers.{subscriber_of, with_subscriber, settled}
use Rattle.iox_domain.specs.Subscribers as subscribers
use Rattle.iox_domain.specs.Tries.{how_often}
use Rattle.iox_domain.specs.declared.ports.service_ports.ServicePorts.{ServicePorts}
use Rattle.iox_domain_machine.proofs.Found.{other_found}
use Rattle.iox_domain_machine.proofs.LeavePort.{parts}
use Rattle.iox_domain_machine.proofs.Settling.{gone_found}

module _ {X : Type 0} (number : ℕ) (x : X) (entries : List (ℕ × X)) where
  abbrev set : List (ℕ × X)
  set = set_value (at_number number) entries x

  abbrev gone_if : Bool → List (ℕ × X)
  gone_if over = cond over (remove_entry (at_number number) set) set

  -- others are found as before
  others_found : (over : Bool) (other : ℕ) → other ≢ number → lookup (at_number other) (gone_if over) ≡ lookup (at_number other) entries
  others_found true other off = other_gone (at_number number) (at_number other) set (other_fails other number off)
      ∙ other_found number other x entries off
  others_found false other off = other_found number other x entries off

  -- it passes no test that it doesn't pass, and that nobody passes who isn't there
  it_fails : (over : Bool) (was : X) (test : Option X → Bool) → lookup (at_number number) entries ≡ Some was
      → how_often number (keys_of entries) ≤ 1 → test None ≡ false → test (Some x) ≡ false
      → test (lookup (at_number number) (gone_if over)) ≡ false
  it_fails true was test there once none fails =
      ap test (gone_found number set
      (subst (λ (keys : List ℕ). how_often number keys ≤ 1) (sym (keys-set_value (at_number number) entries x)) once)) ∙ none
  it_fails false was test there once none fails = ap test (same_set (at_number number) entries x was there) ∙ fails

module _ {T U : Type 0} (number : ℕ) (ports : ServicePorts T U) where
  -- a publisher that left doesn't stand; others do if they did
  pub gone_publisher_is_down : (port : PublisherPort T U) → port_of number ports.publishers ≡ Some port
      → how_often number (keys_of ports.publishers) ≤ 1
      → publisher_stands number (Some (with_publisher number (departed port) ports)) ≡ false
  gone_publisher_is_down port there once =
      it_fails number (departed port) ports.publishers (is_over_in number (with_port number ports.publishers (departed port))) port
      (passes_port (λ (one : PublisherPort T U). one.stands)) there once refl
      (ap (λ (one : PublisherPort T U). one.stands) (parts port).same)

  pub publishers_beside : (after : PublisherPort T U) (other : ℕ) → other ≢ number
      → publisher_stands other (Some (with_publisher number after ports)) ≡ publisher_stands other (Some ports)
  publishers_beside after other off =
      ap (passes_port (λ (one : PublisherPort T U). one.stands))
      (others_found number after ports.publishers (is_over_in number (with_port number ports.publishers after)) other off)

  abbrev pub with_readers : List (ℕ × SubscriberPort) → ServicePorts T U
  with_readers these = record ports { subscribers = these }

  -- so it is with subscribers
  pub gone_subscriber_is_down : (port after : SubscriberPort) → subscriber_of number ports.subscribers ≡ Some port
      → how_often number (keys_of ports.subscribers) ≤ 1 → after.stands ≡ false
      → subscriber_stands number (Some (with_readers (settled number (with_subscriber number ports.subscribers after)))) ≡ false
  gone_subscriber_is_down port after there once left =
      it_fails number after ports.subscribers (subscribers.is_over_in number (with_subscriber number ports.subscribers after)) port
      stands_there there once refl left

  pub subscribers_beside : (after : SubscriberPort) (other : ℕ) → other ≢ number
      → subscriber_stands other (Some (with_readers (settled number (with_subscriber number ports.subscribers after))))
      ≡ subscriber_stands other (Some ports)
  subscribers_beside after other off =
      ap stands_there
      (others_found number after ports.subscribers (subscribers.is_over_in number (with_subscriber number ports.subscribers after)) other
      off)

-- who is kept for others is kept still where one is forgotten
pub kept_beside : {K : Type 0} (number other : ℕ) → other ≢ number → (values : List (ℕ × K))
    → kept_under other (forgotten number values) ≡ kept_under other values
kept_beside number other off values = other_gone (at_number number) (at_number other) values (other_fails other number off)

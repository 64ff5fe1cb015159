-- Whether a connection of a subscriber is idle, and whether it gives, of a domain and of the machine.
use Rattle.std.proofs.Common.{◌≡◌, ◌&&◌, ◌==◌, ℕ, zero, suc, Bool, true, false, not, List, length, map, Option, None, Some, refl, sym, ap}
use Rattle.std.proofs.Common.{◌∙◌, arith}
use Rattle.std.proofs.lemmas.Bool.{lt-ltb, ne_eqb}
use Rattle.std.specs.Prelude.{is_some, nat_lt}
use Rattle.iox_domain.proofs.Numbered.{at_number, found_of_all}
use Rattle.iox_domain.specs.DomainPorts.Publishers.{most_borrowed_at_port}
use Rattle.iox_domain.specs.DomainPorts.Subscribing as domain
use Rattle.iox_domain.specs.DomainPorts.Subscribing.{attached_at, connection_by, most_by, is_below}
use Rattle.iox_domain.specs.DomainPorts.declared.attached.Attached.{Attached}
use Rattle.iox_domain.specs.DomainPorts.declared.attached.Taken.{Taken}
use Rattle.iox_domain.specs.DomainPorts.declared.subscriber_port.SubscriberPort.{SubscriberPort}
use Rattle.iox_domain.specs.Roomy.{AreRoomy}
use Rattle.iox_domain.specs.SizeLaws.{IsMadeFor, allowed_by}
use Rattle.iox_domain.specs.Subscribers.{subscriber_of}
use Rattle.iox_domain.specs.declared.ports.service_ports.ServicePorts.{ServicePorts}
use Rattle.iox_domain_machine.specs.Naming.{Naming, message_as}
use Rattle.iox_domain_machine.specs.Standing.{StandsFor}
use Rattle.iox_domain_machine.specs.Subscribers.{publisher_by}
use Rattle.iox_domain_machine.specs.Tables.{LentSlot}
use Rattle.iox_domain_machine.proofs.Found.{never_true}
use Rattle.iox_machine.specs.Mailbox.{Mailbox, is_idle}
use Rattle.iox_machine.specs.Receiving as machine
use Rattle.iox_machine.specs.Service.{Service, mailbox}
use Rattle.iox_domain_machine.proofs.Hearing.{Hears, length_same, told}
use Rattle.iox_machine.proofs.Shorthands.{has_data}

and_same : (one other : Bool) → (one && other) ≡ (other && one)
and_same true true = refl
and_same true false = refl
and_same false true = refl
and_same false false = refl

none_or_some : (count : ℕ) → not (nat_lt 0 count) ≡ (count == 0)
none_or_some zero = refl
none_or_some (suc count) =
    ap not (lt-ltb 0 (suc count) (omega arith)) ∙ sym (ne_eqb (suc count) 0 (λ same. absurd (omega (arith, same))))

module _ {T U : Type 0} (names : Naming) (lent : List (ℕ × LentSlot)) (held : List (ℕ × Taken)) (buffer : ℕ) (ports : ServicePorts T U)
    (service : Service T) (number : ℕ) (port : SubscriberPort) (stands : StandsFor names lent held buffer ports service)
    (there : subscriber_of number ports.subscribers ≡ Some port) (hears : Hears number port ports.publishers) where
  abbrev by_key : ℕ → ℕ
  by_key = publisher_by names.publisher port

  abbrev box_by : ℕ → Mailbox T
  box_by key = mailbox (by_key key) (names.subscriber number) service

  pub idle_same : (key : ℕ) → is_some (attached_at key port) ≡ true → is_idle (box_by key) ≡ domain.is_idle port ports.publishers key
  idle_same = told names lent held buffer ports service number port stands there hears is_idle
      (λ connection. (length connection.waiting == 0) && (length connection.borrowed == 0))
      (λ name connection.
      ap (λ count. not (nat_lt 0 count) && (length (map (message_as name) connection.borrowed) == 0))
      (length_same name connection.waiting)
      ∙ ap (λ b. b && (length (map (message_as name) connection.borrowed) == 0)) (none_or_some (length connection.waiting))
      ∙ ap (λ count. (length connection.waiting == 0) && (count == 0)) (length_same name connection.borrowed))

  -- as many may be borrowed of each connection as the service allows
  most_same : (roomy : AreRoomy ports) (key : ℕ) → is_some (attached_at key port) ≡ true
      → most_by (attached_at key port) ports.publishers ≡ service.settings.subscriber_max_borrowed_samples
  most_same roomy key = by (attached_at key port) refl
    where
      by : (found : Option Attached) → attached_at key port ≡ found → is_some (attached_at key port) ≡ true
          → most_by (attached_at key port) ports.publishers ≡ service.settings.subscriber_max_borrowed_samples
      by None is there = never_true (sym (ap (λ (one : Option Attached). is_some one) is) ∙ there)
      by (Some attached) is there =
          let it = hears.reads key attached is in
          let made = (found_of_all (IsMadeFor (allowed_by ports.sizes)) (at_number attached.publisher) ports.publishers it.0 roomy.allowed
          it.1).holds.0 in
          ap (λ one. most_by one ports.publishers) is ∙ ap (λ found. most_borrowed_at_port found) it.1
          ∙ ap (λ one. one.most_borrowed) made ∙ ap (λ sizes. sizes.subscriber_max_borrowed_samples) stands.sizes

  pub gives_same : (roomy : AreRoomy ports) (key : ℕ) → is_some (attached_at key port) ≡ true
      → machine.gives (names.subscriber number) service (by_key key) ≡ domain.gives port ports.publishers key
  gives_same roomy key key_held =
      let most = service.settings.subscriber_max_borrowed_samples in
      told names lent held buffer ports service number port stands there hears
      (λ box. has_data box && nat_lt (length box.borrowed) most)
      (λ connection. nat_lt 0 (length connection.waiting) && nat_lt (length connection.borrowed) most)
      (λ name connection.
      ap (λ count. nat_lt 0 count && nat_lt (length (map (message_as name) connection.borrowed)) most)
      (length_same name connection.waiting)
      ∙ ap (λ count. nat_lt 0 (length connection.waiting) && nat_lt count most) (length_same name connection.borrowed))
      key key_held
      ∙ ap (λ limit. domain.has_data port ports.publishers key
      && nat_lt (length (connection_by (attached_at key port) ports.publishers).borrowed) limit) (sym (most_same roomy key key_held))
      ∙ and_same (domain.has_data port ports.publishers key) (is_below port ports.publishers key)

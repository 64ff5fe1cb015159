-- What is in use of a publisher after it followed the list of subscribers was in use before.
use Rattle.std.proofs.Common.{◌≡◌, ◌≤◌, ◌<◌, ℕ, List, map, inl, inr, ap, arith}
use Rattle.std.proofs.lemmas.List.{map-append}
use Rattle.std.proofs.lemmas.Bool.{cases_eq}
use Rattle.iox_domain.proofs.DomainPorts.Naming.{connection_at_by}
use Rattle.iox_domain.proofs.DomainSlots.Counts.{times_append}
use Rattle.iox_domain.specs.DomainPorts.Messages.{Message}
use Rattle.iox_domain.specs.DomainPorts.MessagesSending.{slots_of, connection_by}
use Rattle.iox_domain.specs.DomainPorts.Ports.{connection_of, with_connections}
use Rattle.iox_domain.specs.DomainPorts.declared.publisher_port.PublisherPort.{PublisherPort}
use Rattle.iox_domain.specs.DomainSlots.Counting.{times}
use Rattle.iox_domain.specs.DomainSlots.Uses.{Connection, Uses, connection_at, held, held_by, in_use}
use Rattle.iox_domain_machine.specs.Mailboxes.{times_held}
use Rattle.iox_domain_machine.specs.Publishers.{NamesSlots}
use Rattle.iox_domain_machine.proofs.LeavePort.{held_each}
use Rattle.iox_domain_machine.proofs.Named.{lent_used}
use Rattle.iox_domain_machine.proofs.ReleasePort.{used}

module _ {T U : Type 0} (port : PublisherPort T U) (connections : List (Connection (Message T U)))
    (less : (slot : ℕ) → times slot (slots_of port.sender).history ≡ 0 → (index : ℕ)
    → times_held slot index (with_connections connections port) ≤ times_held slot index port) where
  abbrev after : PublisherPort T U
  after = with_connections connections port

  abbrev slot_of : Message T U → ℕ
  slot_of message = message.slot

  abbrev new : Uses ℕ ℕ
  new = slots_of after.sender

  abbrev old : Uses ℕ ℕ
  old = slots_of port.sender

  -- what is held at a connection, by slots
  seen_held : (slot index : ℕ) (one : PublisherPort T U)
      → times slot (held_by (connection_at index (slots_of one.sender))) ≡ times_held slot index one
  seen_held slot index one =
      let connection : Connection (Message T U) = connection_of index one in
      let same = ap (λ (it : Connection ℕ). times slot (held_by it)) (connection_at_by (λ loan. loan.slot) slot_of index one.sender.uses) in
      omega (
        arith,
        same,
        ap (times slot) (map-append slot_of connection.waiting connection.borrowed),
        times_append slot (map slot_of connection.waiting) (map slot_of connection.borrowed),
        times_append slot (connection_by slot_of connection).waiting (connection_by slot_of connection).borrowed,
      )

  held_less : (slot : ℕ) → times slot old.history ≡ 0 → times slot (held new.connections) ≤ times slot (held old.connections)
  held_less slot none =
      held_each slot new.connections old.connections
      (λ index. omega (arith, seen_held slot index after, seen_held slot index port, less slot none index))

  used_less : (slot : ℕ) → times slot old.history ≡ 0 → times slot (in_use new) ≤ times slot (in_use old)
  used_less slot none = omega (arith, held_less slot none, used slot new, used slot old)

  used_before : (slot : ℕ) → 0 < times slot (in_use new) → 0 < times slot (in_use old)
  used_before slot is = elim (cases_eq (times slot old.history) 0) [
    | inl none ↦ omega (arith, is, used_less slot none)
    | inr some ↦ omega (arith, some, used slot old)
  ]

  -- slots have names still
  pub named_still : (name : ℕ → ℕ) (first next : ℕ) → NamesSlots name old first next → NamesSlots name new first next
  named_still name first next named = record {
    apart = λ one other is_one is_other same. named.apart one other (used_before one is_one) (used_before other is_other) same;
    below = λ slot is. named.below slot (used_before slot is);
    current = λ slot is. named.current slot (used_before slot is);
    within = λ slot is. named.within slot (used_before slot is);
    sole = λ slot is.
        let before = named.sole slot is in
        let none : times slot old.history ≡ 0 = omega (arith, before, is, used slot old) in
        omega (arith, before, is, used_less slot none, lent_used new slot);
    ahead = named.ahead;
  }

-- The numbers under which the machine has what a domain has.
use Rattle.std.specs.Prelude.{ℕ, ◌==◌, ◌≡◌, ◌≢◌, true, List, map, is_some, option_map, if◌then◌else◌}
use Rattle.iox_domain.specs.Container.declared.container.Member.{Member}
use Rattle.iox_domain.specs.DomainPorts.Messages as domain
use Rattle.iox_domain.specs.DomainSlots.Uses.{Connection}
use Rattle.iox_domain.specs.Rolls.{RollState}
use Rattle.iox_machine.specs.Mailbox.{Mailbox}
use Rattle.iox_machine.specs.Message.{Message}
use Rattle.iox_machine.specs.PortList.{PortList}
use Rattle.iox_machine.specs.Table.{at}

-- The numbers that the machine has, called names: for a publisher and for a subscriber, by the port's number in its domain; for
-- a message, by its publisher and its slot; and for the subscriber of a connection, by its publisher and its index.
pub record Naming : Type 0 where
  pub publisher : ℕ → ℕ
  pub subscriber : ℕ → ℕ
  pub message : ℕ → ℕ → ℕ
  pub reader : ℕ → ℕ → ℕ

-- The names of a new domain: 0 for everything.
abbrev pub nameless : Naming
nameless = record {
  publisher = λ number. 0;
  subscriber = λ number. 0;
  message = λ number slot. 0;
  reader = λ number index. 0;
}

-- The names after this number got this name.
abbrev pub with_name : {V : Type 0} → ℕ → V → (ℕ → V) → ℕ → V
with_name number name names other = if other == number then name else names other

-- Each port has a name of its own, under which a table of the machine has it; a number that no port ever had has the name 0.
pub record NamesPorts {V : Type 0} (name : ℕ → ℕ) (table : List (ℕ × V)) : Type 0 where
  pub known : (number : ℕ) → name number ≢ 0 → is_some (at (name number) table) ≡ true
  pub apart : (one other : ℕ) → name one ≢ 0 → name one ≡ name other → one ≡ other
  pub each : (name_there : ℕ) → is_some (at name_there table) ≡ true → (number : ℕ) × (name number ≡ name_there) × (name_there ≢ 0)

-- The list of the ports of one kind, by their names.
abbrev pub list_as : {V : Type 0} → (V → ℕ) → RollState V → PortList
list_as name roll = record { places = map (option_map (λ (member : Member _). name member.value)) roll.places; changes = roll.changes }

module _ {T U : Type 0} (name : ℕ → ℕ) where
  -- The message by its name, with the same sequence number and values.
  abbrev pub message_as : domain.Message T U → Message T
  message_as message = record { number = name message.slot; sequence = message.sequence; values = message.values }

  -- The mailbox that the connection represents: what waits in it and is borrowed from it, by names.
  abbrev pub mailbox_as : Connection (domain.Message T U) → Mailbox T
  mailbox_as connection = record {
    limit = connection.limit;
    waiting = map message_as connection.waiting;
    borrowed = map message_as connection.borrowed;
  }

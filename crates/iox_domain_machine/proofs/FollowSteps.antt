-- What a publisher that follows the list of subscribers changes at one place: one of its connections, and the mailbox of its subscriber.
use Rattle.std.proofs.Common.{◌≡◌, ◌≢◌, ◌≤◌, [], ℕ, true, List, get_or, length, Option, None, Some}
use Rattle.std.specs.Prelude.{option_map}
use Rattle.iox_domain.specs.Container.declared.container.Member.{Member}
use Rattle.iox_domain.specs.DomainPorts.MessagesSending.{slots_of}
use Rattle.iox_domain.specs.DomainPorts.Ports.{connection_of, with_connections}
use Rattle.iox_domain.specs.DomainPorts.declared.publisher_port.PublisherPort.{PublisherPort}
use Rattle.iox_domain.specs.DomainPorts.declared.reader.Reader.{Reader}
use Rattle.iox_domain.specs.DomainPorts.declared.subscriber_entry.SubscriberEntry.{SubscriberEntry}
use Rattle.iox_domain.specs.DomainSlots.Counting.{times}
use Rattle.iox_domain.specs.PortLawsLaws.{IsTiedWell}
use Rattle.iox_domain_machine.specs.Mailboxes.{MailboxesStandFor, times_held}
use Rattle.iox_domain_machine.proofs.FollowBoxes.{ChangesAt}
use Rattle.iox_machine.specs.Mailbox.{Mailbox}
use Rattle.iox_machine.specs.Service.{Subscriber}

-- all that waits is lost
abbrev pub emptied : {T : Type 0} → Mailbox T → Mailbox T
emptied box = record box { waiting = [] }

-- no place lists a subscriber of this name
abbrev pub IsUnlisted : (ℕ → ℕ) → List (Option (Member SubscriberEntry)) → ℕ → Type 0
IsUnlisted name places its_name =
    (place : ℕ) (member : Member SubscriberEntry) → get_or places place None ≡ Some member → name member.value.subscriber ≢ its_name

-- Only the connections, ties and readers of a publisher changed.
abbrev pub OnlyTied : {T U : Type 0} → PublisherPort T U → PublisherPort T U → Type 0
OnlyTied port after =
    after ≡ record (with_connections after.sender.uses.connections port) { ties = after.ties; readers = after.readers }

-- A step at one place: the connection of one index changed, and the mailbox of its subscriber. What is borrowed stays, and no message is
-- held that wasn't and isn't in the history; no other place is tied to the connection, and no other place lists its subscriber.
pub record StepsAt {T U : Type 0} (name subscriber_name : ℕ → ℕ) (next : ℕ) (places : List (Option (Member SubscriberEntry)))
    (subscribers : List (ℕ × Subscriber)) (place index : ℕ) (port after : PublisherPort T U) (reader new_reader : ℕ → ℕ)
    (mailboxes new_mailboxes : ℕ → Option (Mailbox T)) : Type 0 where
  pub change : ChangesAt port after reader new_reader mailboxes new_mailboxes index
  pub only : OnlyTied port after
  pub items : (other : ℕ) → other ≢ place → get_or after.ties.items other None ≡ get_or port.ties.items other None
  pub size : length after.ties.items ≤ length places
  pub free : (other : ℕ) → other ≢ place → get_or port.ties.items other None ≢ Some index
  pub borrowed : (connection_of index after).borrowed ≡ (connection_of index port).borrowed
  pub held : (slot : ℕ) → times slot (slots_of port.sender).history ≡ 0 → times_held slot index after ≤ times_held slot index port
  pub named : (connection_of index port).borrowed ≢ [] → new_reader index ≡ reader index
  pub read : (to : Reader) → get_or after.readers index None ≡ Some to → to.attached ≡ true → get_or port.readers index None ≡ Some to
  pub whose : (other : ℕ) (member : Member SubscriberEntry) → get_or places other None ≡ Some member
      → subscriber_name member.value.subscriber ≡ new_reader index → other ≡ place
  pub lost : (other : ℕ) → IsUnlisted subscriber_name places other
      → option_map emptied (new_mailboxes other) ≡ option_map emptied (mailboxes other)
  pub well : IsTiedWell next places after
  pub boxes : MailboxesStandFor name new_reader subscriber_name after new_mailboxes subscribers

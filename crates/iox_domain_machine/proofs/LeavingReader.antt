-- A subscriber leaves, of a domain and of the machine.
use Rattle.std.proofs.Common.{◌≡◌, ◌≢◌, ℕ, Bool, true, false, List, get_or, Option, None, Some, refl, sym, ap, ◌∙◌}
use Rattle.iox_command.specs.NegotiateBase.DescribeBase.declared.message_type.MessageTypeDetails.{MessageTypeDetails}
use Rattle.iox_command.specs.declared.command.Command.TheVariants as command
use Rattle.iox_command.specs.declared.port.PortNumber.TheVariants as number_of
use Rattle.iox_command.specs.declared.reply.Reply.{Reply}
use Rattle.iox_command.specs.declared.reply.Reply.TheVariants as reply
use Rattle.iox_domain.specs.DomainPorts.Publishers.{port_of}
use Rattle.iox_domain.specs.DomainPorts.Receiving.{left_all}
use Rattle.iox_domain.specs.DomainPorts.Subscribing.{attached_at}
use Rattle.iox_domain.specs.DomainPorts.declared.attached.Attached.{Attached}
use Rattle.iox_domain.specs.DomainPorts.declared.attached.Taken.{Taken}
use Rattle.iox_domain.specs.DomainPorts.declared.publisher_port.PublisherPort.{PublisherPort}
use Rattle.iox_domain.specs.DomainPorts.declared.reader.Reader.{Reader}
use Rattle.iox_domain.specs.DomainPorts.declared.subscriber_port.SubscriberPort.{SubscriberPort}
use Rattle.iox_domain.specs.PortsSubscribing.{LeavesAt, LeavesPortIf}
use Rattle.iox_domain.specs.Rolls.{left, may_change}
use Rattle.iox_domain.specs.Roomy.{AreRoomy}
use Rattle.iox_domain.specs.Subscribers.{subscriber_of, with_subscriber, settled}
use Rattle.iox_domain.specs.declared.ports.service_ports.ServicePorts.{ServicePorts}
use Rattle.iox_domain_machine.specs.LeaveLaws.{SubscriberLeaveMatches}
use Rattle.iox_domain_machine.specs.Laws.{Matches, done_or_skipped}
use Rattle.iox_domain.proofs.StayRoomy.{entry_found}
use Rattle.iox_domain_machine.specs.Naming.{Naming}
use Rattle.iox_domain_machine.specs.Standing.{StandsFor, SubscriberIs}
use Rattle.iox_domain_machine.specs.Tables.{LentSlot}
use Rattle.iox_domain_machine.proofs.Alone.{alone_does, alone_skips}
use Rattle.iox_domain_machine.proofs.Found.{at_changed, same_some}
use Rattle.iox_domain_machine.proofs.GivingUp.{some_of}
use Rattle.iox_domain_machine.proofs.LeaveDetaching.{LeadsToName}
use Rattle.iox_domain_machine.proofs.LeaveReading.{WalkedOff, walked_off}
use Rattle.iox_domain_machine.proofs.LeaveSubscriber.{service_after, leave_stands}
use Rattle.iox_domain_machine.proofs.LeaveUnmet.{put_back}
use Rattle.iox_machine.specs.Choices.{Choices}
use Rattle.iox_machine.proofs.Shorthands as shorthands
use Rattle.iox_machine.specs.Ports.{subscriber_in}
use Rattle.iox_machine.specs.Service.{Service, Subscriber}
use Rattle.iox_machine.proofs.Shorthands as shorthands
use Rattle.iox_machine.specs.State.{State}
use Rattle.iox_machine.specs.Table.{at}

module _ {T : Type 0} (service : Service T) (number : ℕ) (subscriber : Subscriber)
    (is : at number service.subscribers ≡ Some subscriber) where
  -- a subscriber that left isn't one that stands
  pub isn't_subscriber_in : subscriber.stands ≡ false → subscriber_in number service ≡ None
  isn't_subscriber_in left = rw is (rw left refl)

  pub is_subscriber_in : subscriber.stands ≡ true → subscriber_in number service ≡ Some subscriber
  is_subscriber_in stands = rw is (rw stands refl)

module _ {T U : Type 0} (names : Naming) (lent : List (ℕ × LentSlot)) (held : List (ℕ × Taken)) (buffer : ℕ) (old : ServicePorts T U)
    (service : Service T) (number : ℕ) (stands : StandsFor names lent held buffer old service) (roomy : AreRoomy old)
    (port : SubscriberPort) (there : subscriber_of number old.subscribers ≡ Some port) (standing : port.stands ≡ true) where
  -- the connections of a subscriber that stands are its own
  leads_to_it : (key : ℕ) (found : Option Attached) → attached_at key port ≡ found
      → LeadsToName names (names.subscriber number) found
  leads_to_it key None is = tt
  leads_to_it key (Some attached) is =
      let it = (entry_found number port old there roomy standing).reads key attached is in
      ((stands.publishers attached.publisher it.0 it.1).3.read attached.index (record { subscriber = number; attached = true })
      it.2.reader).0

  -- nobody reads at them any longer, and those end of which their publishers don't know yet
  pub leaves_keys : WalkedOff names lent held buffer service (names.subscriber number) port.connections.values old
  leaves_keys = walked_off names lent held buffer service (names.subscriber number) port.connections.values old
      (λ key. leads_to_it key (attached_at key port) refl) roomy.sound stands

module _ {T U : Type 0} (types : MessageTypeDetails) (choices : Choices T) (buffer : ℕ) (names : Naming) (lent : List (ℕ × LentSlot))
    (held : List (ℕ × Taken)) (old : ServicePorts T U) (service : Service T) (state : State T) (number : ℕ)
    (stands : StandsFor names lent held buffer old service) (roomy : AreRoomy old) (named_so : names.subscriber number ≢ 0)
    (may : may_change old.subscriber_list ≡ true) where
  abbrev name : ℕ
  name = names.subscriber number

  abbrev Does : Subscriber → Service T → Reply T → Service T → Type 0
  Does one before answered later =
      (answered ≡ reply.Done)
      × (later ≡ shorthands.with_subscriber name (record one { stands = false })
      (record before { subscriber_list = shorthands.left name before.subscriber_list }))

  abbrev Result : Bool → ServicePorts T U → Type 0
  Result answer new = Matches T U choices types buffer (command.Leave (number_of.Subscriber name)) (done_or_skipped answer) state
      service names lent held new

  -- nothing happens where the machine has no such subscriber that stands
  skips_left : (subscriber : Subscriber) → at name service.subscribers ≡ Some subscriber → subscriber.stands ≡ false → Result false old
  skips_left subscriber is gone =
      (service, alone_skips (subscriber_in name) Does state service (isn't_subscriber_in service name subscriber is gone), stands)

  there_none : subscriber_of number old.subscribers ≡ None → Result false old
  there_none none =
      let found = some_of (at name service.subscribers) (stands.named_subscribers.known number named_so) in
      skips_left found.0 found.1 (stands.gone_subscribers number found.0 none found.1)

  module _ (port : SubscriberPort) (there : subscriber_of number old.subscribers ≡ Some port) where
    abbrev found : SubscriberIs names old service number port
    found = stands.subscribers number port there

    abbrev publishers : List (ℕ × PublisherPort T U)
    publishers = left_all port.connections.values old.publishers

    abbrev between : ServicePorts T U
    between = record old { publishers = publishers }

    module _ (standing : port.stands ≡ true) where
      walked : WalkedOff names lent held buffer service name port.connections.values old
      walked = leaves_keys names lent held buffer old service number stands roomy port there standing

      abbrev its_service : Service T
      its_service = record service { mailboxes = walked.walk.mailboxes }

      -- nobody reads any longer where the subscriber did
      unread : (other index : ℕ) (one : PublisherPort T U) (to : Reader) → port_of other publishers ≡ Some one
          → get_or one.readers index None ≡ Some to → to.attached ≡ true → to.subscriber ≢ number
      unread other index one to is reads attached same =
          let key = walked.walk.stands.keyed other one is index to reads attached in
          let its : key.0 ≡ port = same_some key.0 port (sym key.1 ∙ ap (λ n. subscriber_of n old.subscribers) same ∙ there) in
          (walked.still other index (record { port = one; there = is; to = to; read = reads; attached = attached })).1 key.3
          (ap (attached_at key.3) (sym its) ∙ key.4)

      abbrev after_without : Service T
      after_without = service_after names lent held buffer between its_service number port found walked.walk.stands there standing
          named_so may unread

      abbrev after : Service T
      after = record after_without { mailboxes = service.mailboxes }

      left_so : StandsFor names lent held buffer (record old {
        subscribers = settled number (with_subscriber number old.subscribers (record port { stands = false }));
        publishers = publishers;
        subscriber_list = left port.place old.subscriber_list;
      }) after
      left_so =
          put_back names lent held buffer _ after walked.walk.mailboxes name (record found.0 { stands = false })
          (leave_stands names lent held buffer between its_service number port found walked.walk.stands there standing named_so may unread)
          walked.walk.emptied (at_changed name (record found.0 { stands = false }) found.0 service.subscribers found.1) refl
          (λ one other is. (stands.joined one other is).0)

      leaves : Result true (record old {
        subscribers = settled number (with_subscriber number old.subscribers (record port { stands = false }));
        publishers = publishers;
        subscriber_list = left port.place old.subscriber_list;
      })
      leaves = (
        after,
        alone_does (subscriber_in name) Does state service after reply.Done found.0
            (is_subscriber_in service name found.0 found.1 (found.2.stands ∙ standing)) (refl, refl),
        left_so,
      )

    by : (answer : Bool) (new : ServicePorts T U) (standing : Bool) → port.stands ≡ standing
        → LeavesPortIf standing number port old answer new → Result answer new
    by answer new false gone call = rw call.0 (rw call.1 (skips_left found.0 found.1 (found.2.stands ∙ gone)))
    by answer new true standing call = rw call.0 (rw call.1 (leaves standing))

  by_port : (found : Option SubscriberPort) → subscriber_of number old.subscribers ≡ found → (answer : Bool) (new : ServicePorts T U)
      → LeavesAt number found old answer new → Result answer new
  by_port None none answer new call = rw call.0 (rw call.1 (there_none none))
  by_port (Some port) there answer new call = by port there answer new port.stands refl call

  subscriber_leaves : (answer : Bool) (new : ServicePorts T U)
      → LeavesAt number (subscriber_of number old.subscribers) old answer new → Result answer new
  subscriber_leaves answer new call = by_port (subscriber_of number old.subscribers) refl answer new call

pub subscriber_leave_matches : (T U : Type 0) (choices : Choices T) → SubscriberLeaveMatches T U choices
subscriber_leave_matches T U choices types buffer names lent held old new service state number answer stands roomy named may call =
    subscriber_leaves types choices buffer names lent held old service state number stands roomy named may answer new call

-- How a subscriber receives.
use Rattle.std.specs.Prelude.{ℕ, ◌≡◌, Bool, true, false, ◌&&◌, nat_lt, List, [], ◌∷◌, ◌++◌, length, take, drop, find, slice_get, Option}
use Rattle.std.specs.Prelude.{None, Some, MatchOption, if◌then◌else◌}
use Rattle.std.specs.Global.{Vec}
use Rattle.std.specs.List.{list_any}
use Rattle.std.specs.Vec.{vec_items}
use Rattle.iox_machine.specs.Message.{Message}
use Rattle.iox_machine.specs.Mailbox.{is_idle}
use Rattle.iox_machine.specs.PortList.{those}
use Rattle.iox_machine.specs.Service.{Service, Subscriber, mailbox, with_mailbox}
use Rattle.iox_machine.specs.Table.{changed, contains}
use Rattle.iox_command.specs.DomainValues.declared.port_error.ReceiveError.TheVariants.{ExceedsMaxBorrows}
use Rattle.iox_command.specs.declared.refusal.Refusal.TheVariants as refusal
use Rattle.iox_command.specs.declared.reply.Reply.{Reply}
use Rattle.iox_command.specs.declared.reply.Reply.TheVariants as reply

module _ {T : Type 0} (number : ℕ) where
  -- Whether any connection of the subscriber, expired ones too, has a waiting message.
  abbrev pub has_samples : Subscriber → Service T → Bool
  has_samples subscriber service = list_any (λ publisher. nat_lt 0 (length (mailbox publisher number service).waiting))
      (those subscriber.connected ++ subscriber.expired)

  -- Whether the connection to this publisher gives a message: one waits, and fewer messages are borrowed from it than the service allows.
  abbrev pub gives : Service T → ℕ → Bool
  gives service publisher =
      nat_lt 0 (length (mailbox publisher number service).waiting)
      && nat_lt (length (mailbox publisher number service).borrowed) service.settings.subscriber_max_borrowed_samples

  -- The expired connections without the idle ones that come before the first that gives a message.
  abbrev pub lasting : Service T → List ℕ → List ℕ
  lasting service [] = []
  lasting service (publisher ∷ more) =
      if gives service publisher then publisher ∷ more
      else (if is_idle (mailbox publisher number service) then lasting service more else publisher ∷ lasting service more)

  -- The connection that gives the message: the first expired one that gives one, if there is one; otherwise any other connection that gives
  -- one, or none if none does.
  abbrev pub IsGiver : Option ℕ → Subscriber → Service T → Option ℕ → Type 0
  IsGiver (Some expired) subscriber service giver = giver ≡ Some expired
  IsGiver None subscriber service None = list_any (gives service) (those subscriber.connected) ≡ false
  IsGiver None subscriber service (Some publisher) = (contains (those subscriber.connected) publisher && gives service publisher) ≡ true

  -- The subscriber borrows the oldest message that waits in the connection, and holds it as a sample with this number.
  abbrev pub Takes : ℕ → ℕ → Service T → Reply T → Service T → Type 0
  Takes sample publisher old answer new =
      let box = mailbox publisher number old in
      (message : Message T) × (values : Vec T)
      × (slice_get box.waiting 0 ≡ Some message) × (vec_items values ≡ message.values) × (answer ≡ reply.Received sample values)
      × (new ≡ with_mailbox publisher number
      (record box { waiting = drop 1 box.waiting; borrowed = box.borrowed ++ take 1 box.waiting })
      (record old { samples = old.samples ++ (sample, record { publisher = publisher; subscriber = number; message = message }) ∷ [] }))

  -- A subscriber receives. Idle expired connections are ended if they come before the first expired connection that gives a message. If no
  -- connection gives a message, the receive is refused if a message waits in some connection, since the maximum is borrowed there;
  -- otherwise the reply is that nothing waits.
  abbrev pub Receives : ℕ → Subscriber → Service T → Reply T → Service T → Type 0
  Receives sample subscriber old answer new =
      let swept = record old {
        subscribers = changed number (record subscriber { expired = lasting old subscriber.expired }) old.subscribers;
      } in
      (giver : Option ℕ) × IsGiver (find (gives old) subscriber.expired) subscriber old giver
      × MatchOption giver
      ((answer ≡ (if has_samples subscriber old then reply.Refused (refusal.Receive ExceedsMaxBorrows) else reply.NothingWaits)) ×
      (new ≡ swept))
      (λ publisher. Takes sample publisher swept answer new)

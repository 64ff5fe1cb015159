-- A blocked send is given up, of a domain and of the machine.
use Rattle.std.proofs.Common.{◌≡◌, ◌≢◌, ◌≤◌, ℕ, Bool, true, false, List, [], Option, None, Some, refl, sym, ap, subst, ◌∙◌, arith}
use Rattle.std.specs.Prelude.{is_some, option_to_list, MatchOption}
use Rattle.iox_command.specs.NegotiateBase.DescribeBase.declared.message_type.MessageTypeDetails.{MessageTypeDetails}
use Rattle.iox_command.specs.declared.command.Command.TheVariants as command
use Rattle.iox_command.specs.declared.reply.Reply.{Reply}
use Rattle.iox_command.specs.declared.reply.Reply.TheVariants as reply
use Rattle.iox_domain.proofs.DomainSlots.Counts.{times_append}
use Rattle.iox_domain.specs.DomainPorts.Messages.{Message}
use Rattle.iox_domain.specs.DomainPorts.MessagesSending.{slots_of}
use Rattle.iox_domain.specs.DomainPorts.Progress.{ProgressState}
use Rattle.iox_domain.specs.DomainPorts.Publishers.{port_of, with_port, settled}
use Rattle.iox_domain.specs.DomainPorts.Sending.{concluded}
use Rattle.iox_domain.specs.DomainPorts.declared.attached.Taken.{Taken}
use Rattle.iox_domain.specs.DomainPorts.declared.publisher_port.PublisherPort.{PublisherPort}
use Rattle.iox_domain.specs.DomainSlots.Counting.{times}
use Rattle.iox_domain.specs.DomainSlots.Uses.{in_use}
use Rattle.iox_domain.specs.Ports.{AtPublisher, with_publisher}
use Rattle.iox_domain.specs.PortsPublishing.{GivesUpIf, GivesUpOne}
use Rattle.iox_domain.specs.declared.ports.service_ports.ServicePorts.{ServicePorts}
use Rattle.iox_domain.proofs.Numbered.{at_number, same_set}
use Rattle.iox_domain_machine.specs.Laws.{Matches, GiveUpMatches, gave_up_or_skipped}
use Rattle.iox_domain_machine.specs.Mailboxes.{MailboxesStandFor}
use Rattle.iox_domain_machine.specs.Naming.{Naming}
use Rattle.iox_domain_machine.specs.Publishers.{PublisherStandsFor, BlockedStandsFor, NamesSlots}
use Rattle.iox_domain_machine.specs.Standing.{StandsFor}
use Rattle.iox_domain_machine.specs.Tables.{LentSlot}
use Rattle.iox_domain_machine.proofs.Alone.{alone_does, alone_skips}
use Rattle.iox_domain_machine.proofs.Changing.{one_changed}
use Rattle.iox_domain_machine.proofs.Found.{same_some, never_some, at_changed, at_changed_other}
use Rattle.iox_domain_machine.proofs.Kept.{loans_kept, samples_kept}
use Rattle.iox_domain_machine.proofs.Named.{named_less, lent_in_use}
use Rattle.iox_machine.specs.Choices.{Choices}
use Rattle.iox_machine.specs.Mailbox.{Mailbox}
use Rattle.iox_machine.specs.Ports.{publisher_in}
use Rattle.iox_machine.proofs.Shorthands.{IsSkipped}
use Rattle.iox_machine.specs.Service.{Service, Publisher, Send, Subscriber}
use Rattle.iox_machine.proofs.Shorthands as shorthands
use Rattle.iox_machine.specs.State.{State}
use Rattle.iox_machine.specs.Table.{at, changed}

pub some_of : {V : Type 0} (o : Option V) → is_some o ≡ true → (v : V) × (o ≡ Some v)
some_of None is = absurd (cc)
some_of (Some v) is = (v, refl)

module _ {T : Type 0} (service : Service T) (number : ℕ) (publisher : Publisher T)
    (is : at number service.publishers ≡ Some publisher) where
  pub isn't_in : publisher.stands ≡ false → publisher_in number service ≡ None
  isn't_in left = rw is (rw left refl)

  pub is_in : publisher.stands ≡ true → publisher_in number service ≡ Some publisher
  is_in stands = rw is (rw stands refl)

-- where no send is blocked of a publisher of a domain, none is of the machine's
pub none_blocked : {T U : Type 0} (name : ℕ → ℕ) (connected : List (Option ℕ)) (progress : ProgressState) (sending : Option (Message T U))
    (blocked : Option (Send T)) → sending ≡ None → BlockedStandsFor name connected progress sending blocked → blocked ≡ None
none_blocked name connected progress None blocked is stands = stands
none_blocked name connected progress (Some message) blocked is stands = never_some message (sym is)

module _ {T U : Type 0} (port : PublisherPort T U) where
  less : (slot : ℕ) → times slot (in_use (slots_of (concluded true port).sender)) ≤ times slot (in_use (slots_of port.sender))
  less slot = omega (
    arith,
    times_append slot (option_to_list (slots_of port.sender).sending) (in_use (slots_of
        (concluded true port).sender)),
  )

  named_concluded : (name : ℕ → ℕ) (first next : ℕ) → NamesSlots name (slots_of port.sender) first next
      → NamesSlots name (slots_of (concluded true port).sender) first next
  named_concluded name first next named =
      named_less name (slots_of port.sender) (slots_of (concluded true port).sender) first next refl refl less (λ slot. omega arith)
      (λ slot. lent_in_use slot [] (slots_of port.sender).loans _) named

  concluded_stands : (name reader : ℕ → ℕ) (most : ℕ) (publisher : Publisher T) → PublisherStandsFor name reader most port publisher
      → PublisherStandsFor name reader most (concluded true port) (record publisher { blocked = None })
  concluded_stands name reader most publisher is = record {
    factory = is.factory;
    stands = is.stands;
    max_loaned_samples = is.max_loaned_samples;
    allocation = is.allocation;
    slots = is.slots;
    room = is.room;
    segments = is.segments;
    last_sequence = is.last_sequence;
    history = is.history;
    once = is.once;
    seen = is.seen;
    connected = is.connected;
    ties = is.ties;
    blocked = refl;
    left = λ left. refl;
    named = named_concluded name publisher.first publisher.next is.named;
    unit = is.unit;
    most_segments = is.most_segments;
    ample = is.ample;
  }

  concluded_boxes : (name reader subscriber : ℕ → ℕ) (mailboxes : ℕ → Option (Mailbox T)) (subscribers : List (ℕ × Subscriber))
      → MailboxesStandFor name reader subscriber port mailboxes subscribers
      → MailboxesStandFor name reader subscriber (concluded true port) mailboxes subscribers
  concluded_boxes name reader subscriber mailboxes subscribers boxes = record {
    live = boxes.live;
    ended = boxes.ended;
    quiet = boxes.quiet;
    others = boxes.others;
    none = boxes.none;
    known = boxes.known;
    apart = boxes.apart;
    led = boxes.led;
    heard = boxes.heard;
    read = boxes.read;
    unmet = boxes.unmet;
    once = boxes.once;
    due = λ message sending. never_some message sending;
  }

-- a publisher that stands isn't over
pub kept_there : {T U : Type 0} (number : ℕ) (port : PublisherPort T U) (ports : List (ℕ × PublisherPort T U))
    → port_of number ports ≡ Some port
    → port.stands ≡ true → settled number ports ≡ ports
kept_there number port ports there standing = rw there (rw standing refl)

module _ {T U : Type 0} (types : MessageTypeDetails) (choices : Choices T) (buffer : ℕ) (names : Naming) (lent : List (ℕ × LentSlot))
    (held : List (ℕ × Taken)) (old : ServicePorts T U) (service : Service T) (state : State T) (number : ℕ)
    (stands : StandsFor names lent held buffer old service) where
  abbrev name : ℕ
  name = names.publisher number

  abbrev Gives : Publisher T → Service T → Reply T → Service T → Type 0
  Gives one service answered after = MatchOption one.blocked (IsSkipped service answered after)
      (λ send. (answered ≡ reply.Delivered send.delivered)
      × (after ≡ shorthands.with_publisher name (record one { blocked = None }) service))

  abbrev Result : Option ℕ → ServicePorts T U → Type 0
  Result answer new = Matches T U choices types buffer (command.GiveUp name) (gave_up_or_skipped answer) state service names lent held new

  -- nothing happens where the machine has no such publisher that stands
  skips : publisher_in name service ≡ None → Result None old
  skips none = (service, alone_skips (publisher_in name) Gives state service none, stands)

  skips_left : (publisher : Publisher T) → at name service.publishers ≡ Some publisher → publisher.stands ≡ false → Result None old
  skips_left publisher is left = skips (isn't_in service name publisher is left)

  -- or none of which a send is blocked
  skips_free : (publisher : Publisher T) (standing : Bool) → publisher.stands ≡ standing → at name service.publishers ≡ Some publisher
      → publisher.blocked ≡ None → Result None old
  skips_free publisher false is_left is free = skips_left publisher is is_left
  skips_free publisher true standing is free = (
    service,
    alone_does (publisher_in name) Gives state service service reply.Skipped publisher
        (is_in service name publisher is standing) (rw free (refl, refl)),
    stands,
  )

  there_none : names.publisher number ≢ 0 → port_of number old.publishers ≡ None → Result None old
  there_none named none =
      let found = some_of (at name service.publishers) (stands.named_publishers.known number named) in
      skips_left found.0 found.1 (stands.gone_publishers number found.0 none found.1)

  there_free : (port : PublisherPort T U) → port_of number old.publishers ≡ Some port → port.sender.uses.sending ≡ None → Result None old
  there_free port there free =
      let was = stands.publishers number port there in
      skips_free was.0 was.0.stands refl was.1
      (none_blocked (names.message number) was.0.connected port.progress port.sender.uses.sending was.0.blocked free was.2.blocked)

  ends : (port : PublisherPort T U) (message : Message T U) → port_of number old.publishers ≡ Some port
      → port.sender.uses.sending ≡ Some message
      → (standing : Bool) → port.stands ≡ standing → Result (Some port.progress.delivered) (with_publisher number (concluded true port) old)
  ends port message there waits false left = never_some message (sym ((stands.publishers number port there).2.left left) ∙ waits)
  ends port message there waits true standing =
      let was = stands.publishers number port there in
      let blocked = subst (λ (sending : Option (Message T U)). BlockedStandsFor
      (names.message number) was.0.connected port.progress sending was.0.blocked) waits was.2.blocked in
      let after : PublisherPort T U = concluded true port in
      let publisher : Publisher T = record was.0 { blocked = None } in
      let new : Service T = shorthands.with_publisher name publisher service in
      let there_now = same_set (at_number number) old.publishers after port there in (
        new,
        alone_does (publisher_in name) Gives state service new (reply.Delivered port.progress.delivered) was.0
            (is_in service name was.0 was.1 (was.2.stands
            ∙ standing)) (rw blocked.1 (ap (λ count. reply.Delivered count) (sym blocked.2.delivered), refl)),
        subst (λ (ports : List (ℕ × PublisherPort T U)). StandsFor names lent held buffer (record old { publishers = ports }) new)
            (sym (kept_there number after (with_port number old.publishers after) there_now standing))
            (one_changed names names.message lent lent held buffer old service number port after publisher
            (changed name publisher service.publishers) service.loans stands there (λ other off. refl)
            (at_changed name publisher was.0 service.publishers was.1)
            (λ other off. at_changed_other name other publisher service.publishers off)
            (concluded_stands port (names.message number) (names.reader number) old.sizes.max_subscribers was.0 was.2)
            (concluded_boxes port (names.message number) (names.reader number) names.subscriber
            (service.mailboxes name) service.subscribers was.3)
            refl refl refl refl
            (loans_kept number port after old there names lent service.loans refl stands.loans)
            (samples_kept number port after old there names held service.samples refl stands.samples)),
      )

  -- what comes of a call at a publisher that is there
  by_waiting : (port : PublisherPort T U) → port_of number old.publishers ≡ Some port → (waiting : Option (Message T U))
      → port.sender.uses.sending ≡ waiting
      → (answer : Option ℕ) (new : ServicePorts T U)
      → AtPublisher number (λ (one : PublisherPort T U). GivesUpIf (is_some waiting) one) (Some port) old answer new
      → Result answer new
  by_waiting port there None free None new call = rw call.2 (there_free port there free)
  by_waiting port there None free (Some count) new call = never_some count (sym call.1.0)
  by_waiting port there (Some message) waits None new call = never_some port.progress.delivered call.1.0
  by_waiting port there (Some message) waits (Some count) new call =
      rw (same_some count port.progress.delivered call.1.0)
      (rw call.2 (rw call.1.1 (ends port message there waits port.stands refl)))

  by_port : names.publisher number ≢ 0 → (found : Option (PublisherPort T U)) → port_of number old.publishers ≡ found
      → (answer : Option ℕ) (new : ServicePorts T U)
      → AtPublisher number GivesUpOne found old answer new → Result answer new
  by_port named None none answer new call = rw call.0 (rw call.1 (there_none named none))
  by_port named (Some port) there answer new call = by_waiting port there port.sender.uses.sending refl answer new call

  pub gives_up : (answer : Option ℕ) (new : ServicePorts T U) → names.publisher number ≢ 0
      → AtPublisher number GivesUpOne (port_of number old.publishers) old answer new
      → Result answer new
  gives_up answer new named call = by_port named (port_of number old.publishers) refl answer new call

pub give_up_matches : (T U : Type 0) (choices : Choices T) → GiveUpMatches T U choices
give_up_matches T U choices types buffer names lent held old new service state number answer stands named call =
    gives_up types choices buffer names lent held old service state number stands answer new named call

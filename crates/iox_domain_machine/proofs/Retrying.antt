-- A blocked send is tried again, of a domain and of the machine.
use Rattle.std.proofs.Common.{◌≡◌, ◌≢◌, ◌+◌, ◌-◌, ℕ, Bool, true, false, List, length, get_or, Option, None, Some, Result, refl, sym, ap}
use Rattle.std.proofs.Common.{subst, ◌∙◌, arith}
use Rattle.std.specs.Prelude.{is_some, min, option_map, ◌^◌, MatchOption}
use Rattle.iox_command.specs.DomainValues.declared.backpressure.BackpressureDecision.{BackpressureDecision}
use Rattle.iox_command.specs.DomainValues.declared.backpressure.BackpressureInfo.{BackpressureInfo}
use Rattle.iox_command.specs.DomainValues.declared.port_error.SendError.{SendError}
use Rattle.iox_command.specs.NegotiateBase.DescribeBase.declared.message_type.MessageTypeDetails.{MessageTypeDetails}
use Rattle.iox_command.specs.declared.command.Command.TheVariants as command
use Rattle.iox_command.specs.declared.reply.Reply.{Reply}
use Rattle.iox_command.specs.declared.reply.Reply.TheVariants as reply
use Rattle.iox_domain.proofs.Numbered.{at_number, same_set}
use Rattle.iox_domain.specs.DomainPorts.Messages.{Message}
use Rattle.iox_domain.specs.DomainPorts.MessagesSending.{slots_of, with_uses}
use Rattle.iox_domain.specs.DomainPorts.Progress.{tried_again}
use Rattle.iox_domain.specs.DomainPorts.Publishers.{port_of, with_port}
use Rattle.iox_domain.specs.DomainPorts.Sending.{with_progress, Finishes}
use Rattle.iox_domain.specs.DomainPorts.declared.attached.Taken.{Taken}
use Rattle.iox_domain.specs.DomainPorts.declared.meeting.Sent.{Sent}
use Rattle.iox_domain.specs.DomainPorts.declared.publisher_port.PublisherPort.{PublisherPort}
use Rattle.iox_domain.specs.Ports.{AtPublisher, with_publisher}
use Rattle.iox_domain.specs.PortsPublishing.{RetriesIf, RetriesOne}
use Rattle.iox_domain.specs.Roomy.{AreRoomy}
use Rattle.iox_domain.specs.declared.ports.service_ports.ServicePorts.{ServicePorts}
use Rattle.iox_domain_machine.specs.Laws.{Matches}
use Rattle.iox_domain_machine.specs.Naming.{Naming}
use Rattle.iox_domain_machine.specs.Mailboxes.{MailboxesStandFor}
use Rattle.iox_domain_machine.specs.Publishers.{BlockedStandsFor, NamesSlots}
use Rattle.iox_domain_machine.specs.SendLaws.{RetryMatches, DecidesAs, sent_or_skipped}
use Rattle.iox_domain_machine.specs.Standing.{StandsFor, PublisherIs}
use Rattle.iox_domain_machine.specs.Tables.{LentSlot, LoansStandFor}
use Rattle.iox_domain_machine.proofs.Alone.{alone_does, alone_skips}
use Rattle.iox_domain_machine.proofs.Changing.{with_one}
use Rattle.iox_domain_machine.proofs.Found.{same_some, never_some, never_true}
use Rattle.iox_domain_machine.proofs.GivingUp.{some_of, is_in, isn't_in, none_blocked, kept_there}
use Rattle.iox_domain_machine.proofs.Kept.{loans_kept}
use Rattle.iox_domain_machine.proofs.SendEnds.{Finished, finishes, reader_at}
use Rattle.iox_domain_machine.proofs.SendPut.{further}
use Rattle.iox_domain_machine.proofs.SendReady.{is_ready, within_limit}
use Rattle.iox_machine.specs.Choices.{Choices}
use Rattle.iox_machine.specs.Ports.{publisher_in}
use Rattle.iox_machine.proofs.Shorthands.{IsSkipped}
use Rattle.iox_machine.specs.Sending.{GoesOn}
use Rattle.iox_machine.specs.Service.{Service, Publisher, Send}
use Rattle.iox_machine.specs.State.{State}
use Rattle.iox_machine.specs.Table.{at}

once_more : (retries counted most : ℕ) → counted ≡ min retries most → min (counted + 1) most ≡ min (retries + 1) most
once_more retries counted most same = omega (arith, same)

module _ {T U : Type 0} (types : MessageTypeDetails) (choices : Choices T) (buffer : ℕ)
    (may : BackpressureInfo → BackpressureDecision → Type 0) (names : Naming) (lent : List (ℕ × LentSlot)) (held : List (ℕ × Taken))
    (old : ServicePorts T U) (service : Service T) (state : State T) (number nanoseconds : ℕ)
    (stands : StandsFor names lent held buffer old service) (roomy : AreRoomy old)
    (decides : (publisher : Publisher T) → at (names.publisher number) service.publishers ≡ Some publisher → publisher.stands ≡ true
    → DecidesAs choices may (names.publisher number) publisher) where
  abbrev name : ℕ
  name = names.publisher number

  -- the send of the machine, tried once more
  abbrev again : Send T → Send T
  again send = record send { retries = send.retries + 1; elapsed = nanoseconds }

  abbrev Does : Publisher T → Service T → Reply T → Service T → Type 0
  Does one before answered after = MatchOption one.blocked (IsSkipped before answered after)
      (λ send. GoesOn choices name one (again send) before answered after)

  abbrev Comes : Option (Result Sent SendError) → ServicePorts T U → Type 0
  Comes answer new = Matches T U choices types buffer (command.Retry name nanoseconds) (sent_or_skipped answer) state service names lent
      held new

  -- nothing happens where the machine has no such publisher that stands
  skips_left : (publisher : Publisher T) → at name service.publishers ≡ Some publisher → publisher.stands ≡ false → Comes None old
  skips_left publisher is left =
      (service, alone_skips (publisher_in name) Does state service (isn't_in service name publisher is left), stands)

  -- or none of which a send is blocked
  skips_free : (publisher : Publisher T) (standing : Bool) → publisher.stands ≡ standing → at name service.publishers ≡ Some publisher
      → publisher.blocked ≡ None → Comes None old
  skips_free publisher false is_left is free = skips_left publisher is is_left
  skips_free publisher true standing is free = (
    service,
    alone_does (publisher_in name) Does state service service reply.Skipped publisher
        (is_in service name publisher is standing) (rw free (refl, refl)),
    stands,
  )

  there_none : name ≢ 0 → port_of number old.publishers ≡ None → Comes None old
  there_none named none =
      let found = some_of (at name service.publishers) (stands.named_publishers.known number named) in
      skips_left found.0 found.1 (stands.gone_publishers number found.0 none found.1)

  module _ (port : PublisherPort T U) (there : port_of number old.publishers ≡ Some port) where
    abbrev was : PublisherIs names old service number port
    was = stands.publishers number port there

    there_free : port.sender.uses.sending ≡ None → Comes None old
    there_free free =
        skips_free was.0 was.0.stands refl was.1
        (none_blocked (names.message number) was.0.connected port.progress port.sender.uses.sending was.0.blocked free was.2.blocked)

    module _ (message : Message T U) (waits : port.sender.uses.sending ≡ Some message) (standing : port.stands ≡ true) where
      blocked : BlockedStandsFor (names.message number) was.0.connected port.progress (Some message) was.0.blocked
      blocked = subst (λ (sending : Option (Message T U)). BlockedStandsFor (names.message number) was.0.connected port.progress sending
          was.0.blocked) waits was.2.blocked

      -- where it waits somebody is connected
      somebody : {A : Type 0} → get_or port.ties.items port.progress.place None ≡ None → A
      somebody nobody =
          never_true (sym (ap is_some (ap (λ connected. get_or connected port.progress.place None) was.2.connected
          ∙ reader_at (names.reader number) port.progress.place (old.sizes.max_subscribers - length port.ties.items) port.ties.items
          ∙ ap (option_map (names.reader number)) nobody)) ∙ blocked.2.meets)

      abbrev Goes : Option (Message T U) → Result Sent SendError → PublisherPort T U → Type 0
      Goes sending answer after = Finishes may (record port {
        sender = with_uses (record port.sender.uses { sending = sending }) port.sender;
        progress = tried_again nanoseconds port.progress;
      }) answer after

      goes : (answer : Result Sent SendError) (after : PublisherPort T U)
          → Finishes may (with_progress (tried_again nanoseconds port.progress) port) answer after
          → Finished choices names lent lent held buffer old service number port stands there (tried_again nanoseconds port.progress)
          port.last_sequence was.0.last_sequence port.sender.uses.loans port.sender.uses.history was.0.history service.loans message
          (again blocked.0) may answer after
      goes answer after finished =
          finishes choices names lent lent held buffer old service number port stands there (tried_again nanoseconds port.progress)
          port.last_sequence was.0.last_sequence port.sender.uses.loans port.sender.uses.history was.0.history service.loans message
          (again blocked.0) may standing was.2.last_sequence was.2.history was.2.once
          (subst (λ (sending : Option (Message T U)). NamesSlots (names.message number)
          (slots_of (with_uses (record port.sender.uses { sending = sending }) port.sender)) was.0.first was.0.next) waits was.2.named)
          (record {
            carries = blocked.2.message;
            left = blocked.2.left;
            delivered = blocked.2.delivered;
            fails = blocked.2.fails;
            retries = once_more blocked.0.retries port.progress.retries (2 ^ 64 - 1) blocked.2.retries;
            elapsed = refl;
            untried = somebody;
          })
          (subst (λ (sending : Option (Message T U)). MailboxesStandFor (names.message number) (names.reader number) names.subscriber
          (record port {
            sender = with_uses (record port.sender.uses { sending = sending }) port.sender;
            progress = tried_again nanoseconds port.progress;
          }) (service.mailboxes name) service.subscribers) waits
          (further (names.message number) (names.reader number) names.subscriber port (tried_again nanoseconds port.progress)
          (service.mailboxes name) service.subscribers was.3 (omega arith)))
          (within_limit old roomy number port there)
          (let is = is_ready choices names lent held buffer old service stands roomy number port there standing may was.0
          (decides was.0 was.1 (was.2.stands ∙ standing)) in
          record {
            overflows = is.overflows;
            keeps = is.keeps;
            apart = is.apart;
            live = is.live;
            readers = is.readers;
            decides = is.decides;
          })
          (subst (λ (sending : Option (Message T U)). LoansStandFor names (with_one number (record port {
            sender = with_uses (record port.sender.uses { sending = sending }) port.sender;
            progress = tried_again nanoseconds port.progress;
          }) old) lent service.loans) waits
          (loans_kept number port (with_progress (tried_again nanoseconds port.progress) port) old there names lent service.loans refl
          stands.loans))
          answer after (subst (λ (sending : Option (Message T U)). Goes sending answer after) waits finished)

      ends : (answer : Result Sent SendError) (after : PublisherPort T U)
          → Finishes may (with_progress (tried_again nanoseconds port.progress) port) answer after
          → Comes (Some answer) (with_publisher number after old)
      ends answer after finished =
          let to = goes answer after finished in (
            to.0,
            alone_does (publisher_in name) Does state service to.0 (sent_or_skipped (Some answer)) was.0
                (is_in service name was.0 was.1 (was.2.stands ∙ standing))
                (subst (λ (send : Option (Send T)). MatchOption send (IsSkipped {T = T} service (sent_or_skipped (Some answer)) to.0)
                (λ one. GoesOn choices name was.0 (again one) service (sent_or_skipped (Some answer)) to.0)) (sym blocked.1) to.1),
            subst (λ (ports : List (ℕ × PublisherPort T U)). StandsFor names lent held buffer (record old { publishers = ports }) to.0)
                (sym (kept_there number after (with_port number old.publishers after)
                (same_set (at_number number) old.publishers after port there) to.3)) to.2,
          )

    by_standing : (message : Message T U) → port.sender.uses.sending ≡ Some message → (standing : Bool) → port.stands ≡ standing
        → (answer : Result Sent SendError) (after : PublisherPort T U)
        → Finishes may (with_progress (tried_again nanoseconds port.progress) port) answer after
        → Comes (Some answer) (with_publisher number after old)
    by_standing message waits false left answer after finished = never_some message (sym (was.2.left left) ∙ waits)
    by_standing message waits true standing answer after finished = ends message waits standing answer after finished

    -- what comes of a call at a publisher that is there
    by_waiting : (waiting : Option (Message T U)) → port.sender.uses.sending ≡ waiting
        → (answer : Option (Result Sent SendError)) (new : ServicePorts T U)
        → AtPublisher number (λ (one : PublisherPort T U). RetriesIf (is_some waiting) may nanoseconds one) (Some port) old answer new
        → Comes answer new
    by_waiting None free None new call = rw call.2 (there_free free)
    by_waiting None free (Some result) new call = never_some result (sym call.1.0)
    by_waiting (Some message) waits None new call = never_some call.1.0 call.1.2
    by_waiting (Some message) waits (Some result) new call =
        subst (λ (ports : ServicePorts T U). Comes (Some result) ports) (sym call.2)
        (subst (λ (one : Result Sent SendError). Comes (Some one) (with_publisher number call.0 old))
        (sym (same_some result call.1.0 call.1.2))
        (by_standing message waits port.stands refl call.1.0 call.0 call.1.1))

  by_port : name ≢ 0 → (found : Option (PublisherPort T U)) → port_of number old.publishers ≡ found
      → (answer : Option (Result Sent SendError)) (new : ServicePorts T U)
      → AtPublisher number (RetriesOne may nanoseconds) found old answer new → Comes answer new
  by_port named None none answer new call = rw call.0 (rw call.1 (there_none named none))
  by_port named (Some port) there answer new call = by_waiting port there port.sender.uses.sending refl answer new call

pub retry_matches : (T U : Type 0) (choices : Choices T) (may : BackpressureInfo → BackpressureDecision → Type 0)
    → RetryMatches T U choices may
retry_matches T U choices may types buffer names lent held old new service state number nanoseconds answer stands roomy named decides
    call =
    by_port types choices buffer may names lent held old service state number nanoseconds stands roomy decides named
    (port_of number old.publishers) refl answer new call

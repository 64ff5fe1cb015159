-- What each command does it does where all goes by other numbers.
use Rattle.std.proofs.Common.{◌≡◌, ◌+◌, ℕ, ◌&&◌, length, map, set, false, None, Some, sym, ap, subst, inl, inr, ◌∙◌}
use Rattle.std.specs.Global.{Vec}
use Rattle.std.specs.Prelude.{◌==◌, nat_le, nat_lt}
use Rattle.std.specs.Vec.{vec_items}
use Rattle.iox_machine.proofs.Shorthands.{factory_of, left, with_subscriber, with_publisher}
use Rattle.iox_machine.specs.Choices.{Choices}
use Rattle.iox_machine.specs.Arriving.{PublisherArrives, SubscriberArrives, new_publisher, new_subscriber}
use Rattle.iox_machine.specs.Asked.{settings_of}
use Rattle.iox_machine.specs.Agreement.{unfit}
use Rattle.iox_machine.specs.Message.{Loan, Sample}
use Rattle.iox_machine.specs.RunLaws.{is_written}
use Rattle.iox_machine.specs.Negotiation.{Creates}
use Rattle.iox_machine.specs.Phase.{Own}
use Rattle.iox_machine.specs.Ports.{LendsLoan, Puts, SendsLoan, Writes, Releases}
use Rattle.iox_machine.specs.PublisherUpdate as publishing
use Rattle.iox_machine.specs.Receiving.{Receives, has_samples}
use Rattle.iox_machine.specs.Renaming.{renamed}
use Rattle.iox_machine.specs.Run.{Step}
use Rattle.iox_machine.specs.Sending.{GoesOn}
use Rattle.iox_machine.specs.Service.{Service, Publisher, Subscriber, Send}
use Rattle.iox_machine.specs.State.{State, Made}
use Rattle.iox_machine.specs.SubscriberUpdate as subscribing
use Rattle.iox_machine.specs.Table.{removed}
use Rattle.iox_machine.proofs.Kept.{IsNext}
use Rattle.iox_machine.proofs.Mapped.{over-bool}
use Rattle.iox_machine.proofs.Unfit.{over-fitness}
use Rattle.iox_machine.proofs.Renumbered.{other_choices, Numberings, renaming_of, other_reply, other_service}
use Rattle.iox_machine.proofs.RenumberedPorts.{lends-loan-by, puts-by, drops-by, sends-loan-by, writes-by, releases-by, turns-by}
use Rattle.iox_machine.proofs.RenumberedPorts.{publisher-leaves-by, subscriber-leaves-by, publisher-arrives-by, subscriber-arrives-by}
use Rattle.iox_machine.proofs.RenumberedPublishers.{updates-by, goes-on-by}
use Rattle.iox_machine.proofs.RenumberedSteps.{other_state, other_end, state-refused, state-skipped, at-free-by, at-blocked-by}
use Rattle.iox_machine.proofs.RenumberedSteps.{at-loan-by, at-sample-by, at-factory-by, negotiates-by, opens-by, either-by, acts-by}
use Rattle.iox_machine.proofs.RenumberedSteps.{closes-by, at-subscriber-by}
use Rattle.iox_machine.proofs.RenumberedSubscribers.{subscriber-updates-by, has-by, receives-by}
use Rattle.iox_command.specs.DomainValues.declared.port_error.ReceiveError.TheVariants as receive_error
use Rattle.iox_command.specs.NegotiateBase.DescribeBase.declared.message_type.MessageTypeDetails.{MessageTypeDetails}
use Rattle.iox_command.specs.NegotiateBase.declared.failure.CreateFailure.TheVariants as uncreated
use Rattle.iox_command.specs.declared.command.Command.{Command}
use Rattle.iox_command.specs.declared.command.Command.TheVariants as command
use Rattle.iox_command.specs.declared.port.PortNumber.TheVariants as port
use Rattle.iox_command.specs.declared.refusal.HubError.TheVariants.{OutOfMemory}
use Rattle.iox_command.specs.declared.refusal.Refusal.TheVariants as refusal
use Rattle.iox_command.specs.declared.reply.Reply.{Reply}
use Rattle.iox_command.specs.declared.reply.Reply.TheVariants as reply
use Rattle.iox_machine.specs.Refusals.{create_refusal}

module _ {T : Type 0} (by : Numberings) (types : MessageTypeDetails) (choices : Choices T) (buffer : ℕ) (made : Made) where
  -- What is told is the next number, by its other number.
  told-next : (answer told : Reply T) → IsNext made (other_reply by answer) → answer ≡ told → IsNext made (other_reply by told)
  told-next answer told next same = subst (λ (it : Reply T). IsNext made (other_reply by it)) same next

  -- A port does nothing else than to come up to date.
  done-by : (answer : Reply T) (service after : Service T) → (answer ≡ reply.Done) × (after ≡ service)
      → (other_reply by answer ≡ reply.Done) × (other_service by after ≡ other_service by service)
  done-by answer service after (told, same) = (ap (other_reply by) told, ap (other_service by) same)

  pub step-by : (asked : Command T) (old : State T) (answer : Reply T) (new : State T)
      → made.nodes ≡ old.made.nodes → IsNext made (other_reply by answer) → Step types choices buffer asked old answer new
      → Step types (other_choices by choices) buffer (renamed (renaming_of by) asked) (other_state by made old) (other_reply by answer)
      (other_end by made answer new)
  step-by command.Node old answer new nodes next (inl (told, came)) =
      inl (
        ap (other_reply by) told ∙ ap (λ (count : ℕ). reply.NodeMade (count + 1)) (sym nodes),
        ap (other_end by made answer) came,
      )
  step-by command.Node old answer new nodes next (inr refused) =
      inr (state-refused by made (refusal.Hub OutOfMemory) old answer new refused)
  step-by (command.Create node name named attributes steps) old answer new nodes next h =
      over-fitness (unfit (settings_of types named)) (λ negotiates. negotiates-by by made
      (Creates types (factory_of node name named).pattern steps (Own node)
      (record { settings = settings_of types named; attributes = attributes }))
      (create_refusal named) (λ is_new. uncreated.OutOfMemory) (factory_of node name named) old answer new nodes next negotiates)
      (λ failure refuses. over-bool (nat_le 1 node && nat_le node old.made.nodes) (nat_le 1 node && nat_le node made.nodes)
      (ap (λ (count : ℕ). nat_le 1 node && nat_le node count) nodes)
      (state-refused by made (create_refusal named failure) old answer new) (state-skipped by made old answer new) refuses) h
  step-by (command.Open node name named required steps) old answer new nodes next h =
      opens-by by made types steps (factory_of node name named) named required old answer new nodes next h
  step-by (command.OpenOrCreate node name named required steps) old answer new nodes next h =
      either-by by made types steps (factory_of node name named) named required old answer new nodes next h
  step-by (command.Foreign pattern name steps) old answer new nodes next h = acts-by by made types pattern name steps old answer new h
  step-by (command.Close factory) old answer new nodes next h = closes-by by made factory old answer new h
  step-by (command.Publisher factory options) old answer new nodes next h =
      at-factory-by by made types choices buffer factory
      (λ (service : Service T). PublisherArrives (old.made.publishers + 1) (new_publisher factory options service.settings) service)
      (λ (service : Service T). PublisherArrives (made.publishers + 1)
      (new_publisher (by.factories.to factory) options service.settings) service) old answer new
      (λ service after did. publisher-arrives-by by (old.made.publishers + 1) (made.publishers + 1) factory options service answer after
      (told-next answer (reply.PublisherMade (old.made.publishers + 1)) next) did) h
  step-by (command.Subscriber factory options) old answer new nodes next h =
      at-factory-by by made types choices buffer factory
      (λ (service : Service T). SubscriberArrives buffer (old.made.subscribers + 1)
      (new_subscriber factory options service.settings) service)
      (λ (service : Service T). SubscriberArrives buffer (made.subscribers + 1)
      (new_subscriber (by.factories.to factory) options service.settings) service) old answer new
      (λ service after did. subscriber-arrives-by by buffer (old.made.subscribers + 1) (made.subscribers + 1) factory options service answer
      after (told-next answer (reply.SubscriberMade (old.made.subscribers + 1)) next) did) h
  step-by (command.Loan publisher count) old answer new nodes next (value, default, h) = (
    value,
    default,
    at-free-by by made publisher (LendsLoan (old.made.loans + 1) publisher count (Some value))
        (LendsLoan (made.loans + 1) (by.publishers.to publisher) count (Some value)) old answer new
        (λ one service after did. lends-loan-by by (old.made.loans + 1) (made.loans + 1) publisher count (Some value) one service answer
        after (told-next answer (reply.LoanMade (old.made.loans + 1)) next) did) h,
  )
  step-by (command.LoanUninit publisher count) old answer new nodes next h =
      at-free-by by made publisher (LendsLoan (old.made.loans + 1) publisher count None)
      (LendsLoan (made.loans + 1) (by.publishers.to publisher) count None) old answer new
      (λ one service after did. lends-loan-by by (old.made.loans + 1) (made.loans + 1) publisher count None one service answer
      after (told-next answer (reply.LoanMade (old.made.loans + 1)) next) did) h
  step-by (command.Set loan place value) old answer new nodes next h =
      at-loan-by by made loan
      (λ (one : Loan T). Writes loan one (is_written one && nat_lt place (length one.values)) (set one.values place (Some value)))
      (λ (one : Loan T). Writes (by.loans.to loan) one (is_written one && nat_lt place (length one.values))
      (set one.values place (Some value))) old answer new
      (λ one service after did. writes-by by loan one (is_written one && nat_lt place (length one.values))
      (set one.values place (Some value)) service answer after did) h
  step-by (command.Fill loan values) old answer new nodes next h =
      at-loan-by by made loan (λ (one : Loan T). Writes loan one (length values == length one.values) (map Some values))
      (λ (one : Loan T). Writes (by.loans.to loan) one (length values == length one.values) (map Some values)) old answer new
      (λ one service after did. writes-by by loan one (length values == length one.values) (map Some values) service answer after did) h
  step-by (command.Drop loan) old answer new nodes next h =
      at-loan-by by made loan
      (λ (one : Loan T) (service : Service T) (answered : Reply T) (after : Service T). (answered ≡ reply.Done)
      × (after ≡ record service { loans = removed loan service.loans }))
      (λ (one : Loan T) (service : Service T) (answered : Reply T) (after : Service T). (answered ≡ reply.Done)
      × (after ≡ record service { loans = removed (by.loans.to loan) service.loans })) old answer new
      (λ one service after did. drops-by by loan service answer after did) h
  step-by (command.Send loan) old answer new nodes next h =
      at-loan-by by made loan (SendsLoan choices loan) (SendsLoan (other_choices by choices) (by.loans.to loan)) old answer new
      (λ one service after did. sends-loan-by by choices loan one service answer after did) h
  step-by (command.Put publisher values) old answer new nodes next h =
      at-free-by by made publisher (Puts choices publisher values) (Puts (other_choices by choices) (by.publishers.to publisher) values)
      old answer new
      (λ one service after did. puts-by by choices publisher values one service answer after did) h
  step-by (command.Retry publisher nanoseconds) old answer new nodes next h =
      at-blocked-by by made publisher
      (λ (one : Publisher T) (send : Send T). GoesOn choices publisher one
      (record send { retries = send.retries + 1; elapsed = nanoseconds }))
      (λ (one : Publisher T) (send : Send T). GoesOn (other_choices by choices) (by.publishers.to publisher) one
      (record send { retries = send.retries + 1; elapsed = nanoseconds })) old answer new
      (λ one send service after did. goes-on-by by choices publisher one
      (record send { retries = send.retries + 1; elapsed = nanoseconds }) service
      answer after did) h
  step-by (command.GiveUp publisher) old answer new nodes next h =
      at-blocked-by by made publisher
      (λ (one : Publisher T) (send : Send T) (service : Service T) (answered : Reply T) (after : Service T).
      (answered ≡ reply.Delivered send.delivered) × (after ≡ with_publisher publisher (record one { blocked = None }) service))
      (λ (one : Publisher T) (send : Send T) (service : Service T) (answered : Reply T) (after : Service T).
      (answered ≡ reply.Delivered send.delivered)
      × (after ≡ with_publisher (by.publishers.to publisher) (record one { blocked = None }) service)) old answer new
      (λ one send service after did. turns-by by publisher (record one { blocked = None }) (reply.Delivered send.delivered) service answer
      after did) h
  step-by (command.Receive subscriber) old answer new nodes next h =
      at-subscriber-by by made subscriber
      (subscribing.UpdatesFirst choices buffer subscriber (λ failure. refusal.Receive (receive_error.ConnectionFailure failure))
      (Receives subscriber (old.made.samples + 1)))
      (subscribing.UpdatesFirst (other_choices by choices) buffer (by.subscribers.to subscriber)
      (λ failure. refusal.Receive (receive_error.ConnectionFailure failure))
      (Receives (by.subscribers.to subscriber) (made.samples + 1))) old answer new
      (λ one service after did. subscriber-updates-by by choices buffer subscriber
      (λ failure. refusal.Receive (receive_error.ConnectionFailure failure)) (Receives subscriber (old.made.samples + 1))
      (Receives (by.subscribers.to subscriber) (made.samples + 1)) one service answer after
      (λ it mid took. receives-by by subscriber (old.made.samples + 1) (made.samples + 1) it mid answer after
      (λ values told. told-next answer (reply.Received (old.made.samples + 1) values) next told) took) did) h
  step-by (command.Read sample) old answer new nodes next h =
      at-sample-by by made sample
      (λ (one : Sample T) (service : Service T) (answered : Reply T) (after : Service T). (values : Vec T)
      × (vec_items values ≡ one.message.values) × (answered ≡ reply.Values values) × (after ≡ service))
      (λ (one : Sample T) (service : Service T) (answered : Reply T) (after : Service T). (values : Vec T)
      × (vec_items values ≡ one.message.values) × (answered ≡ reply.Values values) × (after ≡ service)) old answer new
      (λ one service after did. (did.0, did.1, ap (other_reply by) did.2, ap (other_service by) did.3)) h
  step-by (command.Sequence sample) old answer new nodes next h =
      at-sample-by by made sample
      (λ (one : Sample T) (service : Service T) (answered : Reply T) (after : Service T).
      (answered ≡ reply.Sequence one.message.sequence) × (after ≡ service))
      (λ (one : Sample T) (service : Service T) (answered : Reply T) (after : Service T).
      (answered ≡ reply.Sequence one.message.sequence) × (after ≡ service)) old answer new
      (λ one service after did. (ap (other_reply by) did.0, ap (other_service by) did.1)) h
  step-by (command.Release sample) old answer new nodes next h =
      at-sample-by by made sample (Releases sample) (Releases (by.samples.to sample)) old answer new
      (λ one service after did. releases-by by sample one service answer after did) h
  step-by (command.Update (port.Publisher number)) old answer new nodes next h =
      at-free-by by made number
      (publishing.UpdatesFirst choices number refusal.Connection
      (λ (one : Publisher T) (service : Service T) (answered : Reply T) (after : Service T). (answered ≡ reply.Done) × (after ≡ service)))
      (publishing.UpdatesFirst (other_choices by choices) (by.publishers.to number) refusal.Connection
      (λ (one : Publisher T) (service : Service T) (answered : Reply T) (after : Service T). (answered ≡ reply.Done) × (after ≡ service)))
      old answer new
      (λ one service after did. updates-by by choices number refusal.Connection
      (λ (it : Publisher T) (mid : Service T) (answered : Reply T) (end : Service T). (answered ≡ reply.Done) × (end ≡ mid))
      (λ (it : Publisher T) (mid : Service T) (answered : Reply T) (end : Service T). (answered ≡ reply.Done) × (end ≡ mid)) one service
      answer after (λ it mid done. done-by answer mid after done) did) h
  step-by (command.Update (port.Subscriber number)) old answer new nodes next h =
      at-subscriber-by by made number
      (subscribing.UpdatesFirst choices buffer number refusal.Connection
      (λ (one : Subscriber) (service : Service T) (answered : Reply T) (after : Service T). (answered ≡ reply.Done) × (after ≡ service)))
      (subscribing.UpdatesFirst (other_choices by choices) buffer (by.subscribers.to number) refusal.Connection
      (λ (one : Subscriber) (service : Service T) (answered : Reply T) (after : Service T). (answered ≡ reply.Done) × (after ≡ service)))
      old answer new
      (λ one service after did. subscriber-updates-by by choices buffer number refusal.Connection
      (λ (it : Subscriber) (mid : Service T) (answered : Reply T) (end : Service T). (answered ≡ reply.Done) × (end ≡ mid))
      (λ (it : Subscriber) (mid : Service T) (answered : Reply T) (end : Service T). (answered ≡ reply.Done) × (end ≡ mid)) one service
      answer after (λ it mid done. done-by answer mid after done) did) h
  step-by (command.Leave (port.Publisher number)) old answer new nodes next h =
      at-free-by by made number
      (λ (one : Publisher T) (service : Service T) (answered : Reply T) (after : Service T). (answered ≡ reply.Done)
      × (after ≡ with_publisher number (record one { stands = false })
      (record service { publisher_list = left number service.publisher_list })))
      (λ (one : Publisher T) (service : Service T) (answered : Reply T) (after : Service T). (answered ≡ reply.Done)
      × (after ≡ with_publisher (by.publishers.to number) (record one { stands = false })
      (record service { publisher_list = left (by.publishers.to number) service.publisher_list }))) old answer new
      (λ one service after did. publisher-leaves-by by number one service answer after did) h
  step-by (command.Leave (port.Subscriber number)) old answer new nodes next h =
      at-subscriber-by by made number
      (λ (one : Subscriber) (service : Service T) (answered : Reply T) (after : Service T). (answered ≡ reply.Done)
      × (after ≡ with_subscriber number (record one { stands = false })
      (record service { subscriber_list = left number service.subscriber_list })))
      (λ (one : Subscriber) (service : Service T) (answered : Reply T) (after : Service T). (answered ≡ reply.Done)
      × (after ≡ with_subscriber (by.subscribers.to number) (record one { stands = false })
      (record service { subscriber_list = left (by.subscribers.to number) service.subscriber_list }))) old answer new
      (λ one service after did. subscriber-leaves-by by number one service answer after did) h
  step-by (command.Has subscriber) old answer new nodes next h =
      at-subscriber-by by made subscriber
      (subscribing.UpdatesFirst choices buffer subscriber refusal.Connection
      (λ (one : Subscriber) (service : Service T) (answered : Reply T) (after : Service T).
      (answered ≡ reply.Has (has_samples subscriber one service)) × (after ≡ service)))
      (subscribing.UpdatesFirst (other_choices by choices) buffer (by.subscribers.to subscriber) refusal.Connection
      (λ (one : Subscriber) (service : Service T) (answered : Reply T) (after : Service T).
      (answered ≡ reply.Has (has_samples (by.subscribers.to subscriber) one service)) × (after ≡ service))) old answer new
      (λ one service after did. subscriber-updates-by by choices buffer subscriber refusal.Connection
      (λ (it : Subscriber) (mid : Service T) (answered : Reply T) (end : Service T).
      (answered ≡ reply.Has (has_samples subscriber it mid)) × (end ≡ mid))
      (λ (it : Subscriber) (mid : Service T) (answered : Reply T) (end : Service T).
      (answered ≡ reply.Has (has_samples (by.subscribers.to subscriber) it mid)) × (end ≡ mid)) one service answer after
      (λ it mid told. (ap (other_reply by) told.0 ∙ ap reply.Has (sym (has-by by subscriber it mid)), ap (other_service by) told.1)) did) h

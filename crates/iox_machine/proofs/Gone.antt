-- What each command comes to: an answer, which reports that memory ran out only where more memory is no help.
use Rattle.std.proofs.Common.{◌≡◌, ◌+◌, ◌^◌, ℕ, true, false, ◌&&◌, ◌||◌, List, length, map}
use Rattle.std.proofs.Common.{set, None, Some, refl, sym, subst, inl, inr}
use Rattle.std.specs.Global.{Vec}
use Rattle.std.specs.List.{AllByRecursion}
use Rattle.std.specs.Prelude.{◌==◌, nat_lt, nat_le, is_some, fold, unwrap_or}
use Rattle.std.specs.Vec.{vec_items}
use Rattle.iox_machine.proofs.Shorthands.{RefusesNode, factory_of, given_back, left, with_subscriber}
use Rattle.iox_machine.proofs.Shorthands.{either_lacking, Opens, OpensOrCreates, AtFree}
use Rattle.iox_machine.proofs.Going.{Answered, Fits, at-blocked-goes, at-factory-goes, at-free-goes, at-one-goes}
use Rattle.iox_machine.proofs.Going.{can-be-told, close-goes, goes-on-goes, if-bool, if-option, loan-goes, negotiation-goes, never}
use Rattle.iox_machine.proofs.Going.{publisher-goes, publisher-updates, put-goes, receive-goes, refuse, send-goes, skip, subscriber-goes}
use Rattle.iox_machine.proofs.Going.{subscriber-updates, write-goes}
use Rattle.iox_machine.proofs.Calling.{creates-end, creates-other, either-ends, opens-end, unfit-other}
use Rattle.iox_machine.specs.MemoryLaws.{MemoryMaySuffice, NeedsMore}
use Rattle.iox_machine.specs.PortRefusalLaws.{IsTooLarge}
use Rattle.std.proofs.lemmas.Bool.{leb-true, or_cases}
use Rattle.iox_machine.specs.Choices.{Choices}
use Rattle.iox_machine.specs.Agreement.{unfit, verdict}
use Rattle.iox_machine.specs.Arriving.{PublisherArrives, SubscriberArrives, new_publisher, new_subscriber, worst_case}
use Rattle.iox_machine.specs.Asked.{settings_of}
use Rattle.iox_machine.specs.Factories.{Negotiates, CreatesService, OpensService, OpensOrCreatesService}
use Rattle.iox_machine.specs.GoingLaws.{EachIsAnswered, AlwaysChoose}
use Rattle.iox_machine.specs.Message.{Loan, Sample}
use Rattle.iox_machine.specs.Negotiation.{Creates}
use Rattle.iox_machine.specs.Phase.{Own, acted}
use Rattle.iox_machine.specs.Ports.{subscriber_in, LendsLoan, Puts, SendsLoan, Writes, Releases}
use Rattle.iox_machine.specs.PublisherUpdate as publishing
use Rattle.iox_machine.specs.Receiving.{Receives, has_samples}
use Rattle.iox_machine.specs.Run.{Step}
use Rattle.iox_machine.specs.RunLaws.{AllMessages, is_written}
use Rattle.iox_machine.specs.Sending.{GoesOn}
use Rattle.iox_machine.specs.Service.{Service, Publisher, Subscriber, Send, mailbox, with_mailbox}
use Rattle.iox_machine.proofs.Shorthands.{with_publisher, IsSkipped, IsRefused}
use Rattle.iox_machine.specs.Refusals.{open_refusal, either_refusal, create_refusal}
use Rattle.iox_machine.specs.State.{State, Factory, with_phase}
use Rattle.iox_machine.specs.SubscriberUpdate as subscribing
use Rattle.iox_machine.specs.Table.{at, removed}
use Rattle.iox_machine.proofs.Lists.{all-at}
use Rattle.iox_machine.proofs.Runs.{all-found}
use Rattle.iox_command.specs.DomainValues.declared.port_error.ReceiveError.TheVariants as receive_error
use Rattle.iox_command.specs.NegotiateBase.DescribeBase.declared.message_type.MessageTypeDetails.{MessageTypeDetails}
use Rattle.iox_command.specs.NegotiateBase.DescribeBase.Attributes.{Required}
use Rattle.iox_command.specs.NegotiateBase.DescribeBase.declared.attribute.Attribute.{Attribute}
use Rattle.iox_command.specs.NegotiateBase.declared.failure.CreateFailure.TheVariants as uncreated
use Rattle.iox_command.specs.NegotiateBase.declared.failure.OpenFailure.TheVariants as unopened
use Rattle.iox_command.specs.declared.command.Command.{Command}
use Rattle.iox_command.specs.declared.command.Command.TheVariants as command
use Rattle.iox_command.specs.declared.port.PortNumber.TheVariants as port
use Rattle.iox_command.specs.declared.refusal.Refusal.TheVariants as refusal
use Rattle.iox_command.specs.declared.reply.Reply.{Reply}
use Rattle.iox_command.specs.declared.reply.Reply.TheVariants as reply
use Rattle.iox_command.specs.declared.service.ServiceOptions.{ServiceOptions}
use Rattle.iox_command.specs.declared.step.StepBefore.{StepBefore}

module _ {T : Type 0} (choices : Choices T) (always : AlwaysChoose choices) (May : Type 0) where
  module _ (types : MessageTypeDetails) (buffer : ℕ) (default : T) (is_default : choices.is_default default) where
    creation-goes : (steps : List StepBefore) (factory : Factory) (named : ServiceOptions) (attributes : List Attribute) (old : State T)
        → Answered May (CreatesService types steps factory named attributes old)
    creation-goes steps factory named attributes old =
        if-option (unfit (settings_of types named))
        (Negotiates (Creates types factory.pattern steps (Own factory.node)
        (record { settings = settings_of types named; attributes = attributes })) (create_refusal named) (λ is_new. uncreated.OutOfMemory)
        factory old)
        (λ failure. RefusesNode factory.node (create_refusal named failure) old)
        (λ fit. negotiation-goes choices always May (Creates types factory.pattern steps (Own factory.node)
        (record { settings = settings_of types named; attributes = attributes })) (create_refusal named) (λ is_new. uncreated.OutOfMemory)
        factory old (creates-end types factory.pattern steps (Own factory.node)
        (record { settings = settings_of types named; attributes = attributes }) named fit))
        (λ failure is. if-bool (nat_le 1 factory.node && nat_le factory.node old.made.nodes)
        (IsRefused (create_refusal named failure) old) (IsSkipped old)
        (λ made. refuse (create_refusal named failure) old
        (unfit-other (create_refusal named) (creates-other named) (settings_of types named) failure is)) (λ none. skip old))

    opening-goes : (steps : List StepBefore) (factory : Factory) (named : ServiceOptions) (required : Required) (old : State T)
        → Answered May (OpensService types steps factory named required old)
    opening-goes steps factory named required old =
        negotiation-goes choices always May (Opens types factory.pattern steps (Own factory.node) (verdict types named required))
        (open_refusal named) (λ is_new. unopened.OutOfMemory) factory old
        (opens-end types factory.pattern steps (Own factory.node) named required)

    either-goes : (steps : List StepBefore) (factory : Factory) (named : ServiceOptions) (required : Required) (old : State T)
        → Answered May (OpensOrCreatesService types steps factory named required old)
    either-goes steps factory named required old =
        negotiation-goes choices always May (OpensOrCreates types factory.pattern steps (Own factory.node) (verdict types named required)
        (record { settings = settings_of types named; attributes = required.pairs }))
        (either_refusal named) either_lacking factory old
        (either-ends types factory.pattern steps (Own factory.node) named required
        (record { settings = settings_of types named; attributes = required.pairs }))

    -- What each command comes to.
    goes : (old : State T) → AllByRecursion (AllMessages (λ publisher message. Fits choices always May message)) old.services
        → (asked : Command T)
        → (NeedsMore asked old → May) → Answered May (Step types choices buffer asked old)
    goes old told command.Node may = (
      reply.NodeMade (old.made.nodes + 1),
      record old { made = record old.made { nodes = old.made.nodes + 1 } },
      inl (refl, refl),
      never,
    )
    goes old told (command.Create node name named attributes steps) may =
        creation-goes steps (factory_of node name named) named attributes old
    goes old told (command.Open node name named required steps) may = opening-goes steps (factory_of node name named) named required old
    goes old told (command.OpenOrCreate node name named required steps) may =
        either-goes steps (factory_of node name named) named required old
    goes old told (command.Foreign pattern name steps) may =
        (reply.Done, with_phase pattern name (fold (acted types pattern) (old.phases pattern name) steps) old, inl (refl, refl), never)
    goes old told (command.Close factory) may = close-goes choices always May factory old
    goes old told (command.Publisher factory named) may =
        at-factory-goes choices always May types choices buffer factory
        (λ service. PublisherArrives (old.made.publishers + 1) (new_publisher factory named service.settings) service) old
        (λ service first. publisher-goes choices always May (old.made.publishers + 1) (new_publisher factory named service.settings) service
        (λ is. may (service, first, large service is)))
      where
        large : (service : Service T)
            → (nat_le (2 ^ 32) (worst_case service.settings (unwrap_or named.max_loaned_samples 2))
            || nat_le (2 ^ 32) (unwrap_or named.initial_max_slice_len 1)) ≡ true → IsTooLarge named service.settings
        large service is = elim (or_cases (nat_le (2 ^ 32) (worst_case service.settings (unwrap_or named.max_loaned_samples 2)))
            (nat_le (2 ^ 32) (unwrap_or named.initial_max_slice_len 1)) is) [
              | inl many ↦ inl (leb-true (2 ^ 32) (worst_case service.settings (unwrap_or named.max_loaned_samples 2)) many)
              | inr long ↦ inr (leb-true (2 ^ 32) (unwrap_or named.initial_max_slice_len 1) long)
            ]
    goes old told (command.Subscriber factory named) may =
        at-factory-goes choices always May types choices buffer factory
        (λ service. SubscriberArrives buffer (old.made.subscribers + 1) (new_subscriber factory named service.settings) service) old
        (λ service first. subscriber-goes choices always May buffer (old.made.subscribers + 1)
        (new_subscriber factory named service.settings) service)
    goes old told (command.Loan publisher count) may =
        let did : Answered May (AtFree publisher (LendsLoan (old.made.loans + 1) publisher count (Some default)) old) =
        at-free-goes choices always May publisher (LendsLoan (old.made.loans + 1) publisher count (Some default)) old
        (λ one service first found. loan-goes choices always May (old.made.loans + 1) publisher count (Some default) one service
        (λ beyond. may (service, one, first, found, beyond))) in
        (did.0, did.1, (default, is_default, did.2), did.3)
    goes old told (command.LoanUninit publisher count) may =
        at-free-goes choices always May publisher (LendsLoan (old.made.loans + 1) publisher count None) old
        (λ one service first found. loan-goes choices always May (old.made.loans + 1) publisher count None one service
        (λ beyond. may (service, one, first, found, beyond)))
    goes old told (command.Set loan place value) may =
        at-one-goes choices always May (λ (service : Service T). at loan service.loans)
        (λ (one : Loan T). Writes loan one (is_written one && nat_lt place (length one.values)) (set one.values place (Some value))) old
        (λ one service first found. write-goes choices always May loan one (is_written one && nat_lt place (length one.values))
        (set one.values place (Some value)) service)
    goes old told (command.Fill loan values) may =
        at-one-goes choices always May (λ (service : Service T). at loan service.loans)
        (λ (one : Loan T). Writes loan one (length values == length one.values) (map Some values)) old
        (λ one service first found. write-goes choices always May loan one (length values == length one.values) (map Some values) service)
    goes old told (command.Drop loan) may =
        at-one-goes choices always May (λ (service : Service T). at loan service.loans)
        (λ (one : Loan T) (service : Service T) (answered : Reply T) (after : Service T). (answered ≡ reply.Done)
        × (after ≡ record service { loans = removed loan service.loans })) old
        (λ one service first found. (reply.Done, record service { loans = removed loan service.loans }, (refl, refl), never))
    goes old told (command.Send loan) may =
        at-one-goes choices always May (λ (service : Service T). at loan service.loans) (SendsLoan choices loan) old
        (λ one service first found. send-goes choices always May loan one service)
    goes old told (command.Put publisher values) may =
        at-free-goes choices always May publisher (Puts choices publisher values) old
        (λ one service first found. put-goes choices always May publisher values one service
        (λ beyond. may (service, one, first, found, beyond)))
    goes old told (command.Retry publisher nanoseconds) may =
        at-blocked-goes choices always May publisher
        (λ (one : Publisher T) (send : Send T). GoesOn choices publisher one
        (record send { retries = send.retries + 1; elapsed = nanoseconds })) old
        (λ one send service. goes-on-goes choices always May publisher one
        (record send { retries = send.retries + 1; elapsed = nanoseconds }) service)
    goes old told (command.GiveUp publisher) may =
        at-blocked-goes choices always May publisher
        (λ (one : Publisher T) (send : Send T) (service : Service T) (answered : Reply T) (after : Service T).
        (answered ≡ reply.Delivered send.delivered)
        × (after ≡ with_publisher publisher (record one { blocked = None }) service)) old
        (λ one send service. (
          reply.Delivered send.delivered,
          with_publisher publisher (record one { blocked = None }) service,
          (refl, refl),
          never,
        ))
    goes old told (command.Receive subscriber) may =
        at-one-goes choices always May (subscriber_in subscriber)
        (subscribing.UpdatesFirst choices buffer subscriber (λ failure. refusal.Receive (receive_error.ConnectionFailure failure))
        (Receives subscriber (old.made.samples + 1))) old
        (λ one service first found. subscriber-updates choices always May buffer subscriber
        (λ failure. refusal.Receive (receive_error.ConnectionFailure failure)) (Receives subscriber (old.made.samples + 1)) one service refl
        (λ next mid same. receive-goes choices always May subscriber (old.made.samples + 1) next mid
        (λ publisher other. subst (AllByRecursion (Fits choices always May)) (sym (same publisher other))
        (can-be-told choices always May service (all-found (AllMessages (λ publisher message. Fits choices always May message))
        (λ (it : Service T). is_some (subscriber_in subscriber it)) old.services service first told) publisher other))))
    goes old told (command.Read sample) may =
        at-one-goes choices always May (λ (service : Service T). at sample service.samples)
        (λ (one : Sample T) (service : Service T) (answered : Reply T) (after : Service T). (values : Vec T) ×
        (vec_items values ≡ one.message.values)
        × (answered ≡ reply.Values values) × (after ≡ service)) old
        (λ one service first found.
        let fits : Fits choices always May one.message =
        all-at (λ (number : ℕ) (it : Sample T). Fits choices always May it.message) sample one service.samples found
        (all-found (AllMessages (λ publisher message. Fits choices always May message))
        (λ (it : Service T). is_some (at sample it.samples)) old.services service first told).2 in
        (reply.Values fits.0, service, (fits.0, fits.1, refl, refl), never))
    goes old told (command.Sequence sample) may =
        at-one-goes choices always May (λ (service : Service T). at sample service.samples)
        (λ (one : Sample T) (service : Service T) (answered : Reply T) (after : Service T).
        (answered ≡ reply.Sequence one.message.sequence) × (after ≡ service)) old
        (λ one service first found. (reply.Sequence one.message.sequence, service, (refl, refl), never))
    goes old told (command.Release sample) may =
        at-one-goes choices always May (λ (service : Service T). at sample service.samples) (Releases sample) old
        (λ one service first found. (
          reply.Done,
          with_mailbox one.publisher one.subscriber (given_back one.message.number (mailbox one.publisher one.subscriber service))
              (record service { samples = removed sample service.samples }),
          (refl, refl),
          never,
        ))
    goes old told (command.Update (port.Publisher number)) may =
        at-free-goes choices always May number
        (publishing.UpdatesFirst choices number refusal.Connection
        (λ (one : Publisher T) (service : Service T) (answered : Reply T) (after : Service T). (answered ≡ reply.Done) × (after ≡ service)))
        old
        (λ one service first found. publisher-updates choices always May number refusal.Connection
        (λ (it : Publisher T) (mid : Service T) (answered : Reply T) (after : Service T). (answered ≡ reply.Done) × (after ≡ mid)) one
        service refl (λ it mid. (reply.Done, mid, (refl, refl), never)))
    goes old told (command.Update (port.Subscriber number)) may =
        at-one-goes choices always May (subscriber_in number)
        (subscribing.UpdatesFirst choices buffer number refusal.Connection
        (λ (one : Subscriber) (service : Service T) (answered : Reply T) (after : Service T). (answered ≡ reply.Done) × (after ≡ service)))
        old
        (λ one service first found. subscriber-updates choices always May buffer number refusal.Connection
        (λ (it : Subscriber) (mid : Service T) (answered : Reply T) (after : Service T). (answered ≡ reply.Done) × (after ≡ mid)) one
        service refl (λ it mid same. (reply.Done, mid, (refl, refl), never)))
    goes old told (command.Leave (port.Publisher number)) may =
        at-free-goes choices always May number
        (λ (one : Publisher T) (service : Service T) (answered : Reply T) (after : Service T). (answered ≡ reply.Done)
        × (after ≡ with_publisher number (record one { stands = false })
        (record service { publisher_list = left number service.publisher_list }))) old
        (λ one service first found. (
          reply.Done,
          with_publisher number (record one { stands = false })
              (record service { publisher_list = left number service.publisher_list }),
          (refl, refl),
          never,
        ))
    goes old told (command.Leave (port.Subscriber number)) may =
        at-one-goes choices always May (subscriber_in number)
        (λ (one : Subscriber) (service : Service T) (answered : Reply T) (after : Service T). (answered ≡ reply.Done)
        × (after ≡ with_subscriber number (record one { stands = false })
        (record service { subscriber_list = left number service.subscriber_list }))) old
        (λ one service first found. (
          reply.Done,
          with_subscriber number (record one { stands = false })
              (record service { subscriber_list = left number service.subscriber_list }),
          (refl, refl),
          never,
        ))
    goes old told (command.Has subscriber) may =
        at-one-goes choices always May (subscriber_in subscriber)
        (subscribing.UpdatesFirst choices buffer subscriber refusal.Connection
        (λ (one : Subscriber) (service : Service T) (answered : Reply T) (after : Service T).
        (answered ≡ reply.Has (has_samples subscriber one service))
        × (after ≡ service))) old
        (λ one service first found. subscriber-updates choices always May buffer subscriber refusal.Connection
        (λ (it : Subscriber) (mid : Service T) (answered : Reply T) (after : Service T).
        (answered ≡ reply.Has (has_samples subscriber it mid)) × (after ≡ mid)) one service refl
        (λ it mid same. (reply.Has (has_samples subscriber it mid), mid, (refl, refl), never)))

pub memory-may-suffice : {T : Type 0} (choices : Choices T) → MemoryMaySuffice choices
memory-may-suffice {T} choices types buffer default is_default always old told asked =
    goes choices always (NeedsMore asked old) types buffer default is_default old told asked (λ needed. needed)

pub each-is-answered : {T : Type 0} (choices : Choices T) → EachIsAnswered choices
each-is-answered {T} choices types buffer default is_default always old told asked =
    let did = memory-may-suffice choices types buffer default is_default always old told asked in (did.0, did.1, did.2)

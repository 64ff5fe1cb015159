-- A command on ports, loans or samples is skipped, or does something at one service, of which it leaves what is kept.
use Rattle.std.proofs.Common.{◌≡◌, ◌⊎◌, ◌+◌, ℕ, Bool, true, false, cond, ap, ◌∙◌, true≢false, ◌&&◌, List, length, map, set, Option, None}
use Rattle.std.proofs.Common.{Some, refl, sym, inl, inr}
use Rattle.std.proofs.lemmas.Bool.{false_from_ne_true}
use Rattle.std.specs.Global.{Vec}
use Rattle.std.specs.Option.{option_map_or}
use Rattle.std.specs.Prelude.{◌==◌, nat_lt, is_some, find, MatchOption}
use Rattle.std.specs.Vec.{vec_items}
use Rattle.iox_machine.specs.Choices.{Choices}
use Rattle.iox_machine.specs.Arriving.{PublisherArrives, SubscriberArrives, new_publisher, new_subscriber}
use Rattle.iox_machine.specs.IndependenceLaws.{is_factory_of, is_of, is_first, asks}
use Rattle.iox_machine.specs.Message.{Loan, Sample}
use Rattle.iox_machine.specs.RunLaws.{is_written}
use Rattle.iox_machine.specs.Ports.{publisher_in, subscriber_in, LendsLoan, Puts, SendsLoan, Writes, Releases}
use Rattle.iox_machine.specs.PublisherUpdate as publishing
use Rattle.iox_machine.specs.Receiving.{Receives, has_samples}
use Rattle.iox_machine.specs.Run.{Step, AtFactory}
use Rattle.iox_machine.specs.Sending.{GoesOn}
use Rattle.iox_machine.specs.Service.{Service, Publisher, Subscriber, Send}
use Rattle.iox_machine.proofs.Shorthands.{with_publisher, with_subscriber, left, IsSkipped, AtFree, AtBlocked}
use Rattle.iox_machine.specs.State.{State, Made, Factory, AtOne, is_service_of, counted, replaced}
use Rattle.iox_machine.specs.SubscriberUpdate as subscribing
use Rattle.iox_machine.specs.Table.{at, removed}
use Rattle.iox_machine.proofs.Cases.{by-option, chosen, never-some}
use Rattle.iox_machine.proofs.Kept.{Kept, IsPortNext, itself, ends, publisher-turned, updates-first, goes-on, lends-loan, puts, drops}
use Rattle.iox_machine.proofs.Kept.{sends-loan, writes, subscriber-updates, receives, releases, publisher-arrives, subscriber-arrives}
use Rattle.iox_machine.proofs.Kept.{publisher-leaves, subscriber-leaves}
use Rattle.iox_machine.proofs.Moving.{at-one}
use Rattle.iox_machine.proofs.Names.{service-at}
use Rattle.iox_command.specs.DomainValues.declared.port_error.ReceiveError.TheVariants as receive_error
use Rattle.iox_command.specs.NegotiateBase.DescribeBase.declared.message_type.MessageTypeDetails.{MessageTypeDetails}
use Rattle.iox_command.specs.NegotiateBase.DescribeBase.declared.pattern.MessagingPattern.{MessagingPattern}
use Rattle.iox_command.specs.declared.command.Command.{Command}
use Rattle.iox_command.specs.declared.command.Command.TheVariants as command
use Rattle.iox_command.specs.declared.port.PortNumber.TheVariants as port
use Rattle.iox_command.specs.declared.refusal.Refusal.TheVariants as refusal
use Rattle.iox_command.specs.declared.reply.Reply.{Reply}
use Rattle.iox_command.specs.declared.reply.Reply.TheVariants as reply

-- whether a command is one on ports, loans and samples
abbrev pub is_of_ports : {T : Type 0} → Command T → Bool
is_of_ports command.Node = false
is_of_ports (command.Create node name options attributes steps) = false
is_of_ports (command.Open node name options required steps) = false
is_of_ports (command.OpenOrCreate node name options required steps) = false
is_of_ports (command.Foreign pattern name steps) = false
is_of_ports (command.Close factory) = false
is_of_ports other = true

module _ {T : Type 0} where
  -- One service is another, of which is kept what a command leaves.
  abbrev pub IsMoved : Command T → State T → Reply T → State T → Type 0
  IsMoved asked old answer new =
      (has : Service T → Bool) × (service : Service T) × (after : Service T) × (find has old.services ≡ Some service)
      × Kept old.made service answer after
      × ((pattern : MessagingPattern) (name : List ℕ) → asks pattern name asked old ≡ false → is_of pattern name service ≡ false)
      × (new ≡ record old { made = counted answer old.made; services = replaced has after old.services })

  abbrev pub IsBeside : Command T → State T → Reply T → State T → Type 0
  IsBeside asked old answer new = IsSkipped old answer new ⊎ IsMoved asked old answer new

  -- A command asks the first service that has what it names.
  abbrev AsksFirst : Command T → (Service T → Bool) → State T → Type 0
  AsksFirst asked has old = (pattern : MessagingPattern) (name : List ℕ) → asks pattern name asked old ≡ is_first pattern name has old

  moves : {V : Type 0} (asked : Command T) (found : Service T → Option V) (Does : V → Service T → Reply T → Service T → Type 0)
      (old : State T)
      (answer : Reply T) (new : State T)
      → ((service : Service T) (one : V) → find (λ (other : Service T). is_some (found other)) old.services ≡ Some service
      → found service ≡ Some one
      → (pattern : MessagingPattern) (name : List ℕ) → asks pattern name asked old ≡ false → is_of pattern name service ≡ false)
      → ((one : V) (service after : Service T) → Does one service answer after → Kept old.made service answer after)
      → AtOne found Does old answer new → IsBeside asked old answer new
  moves asked found Does old answer new first_so does h =
      elim (at-one found Does old answer new h) [
        | inl skipped ↦ inl skipped
        | inr w ↦ inr ((λ (other : Service T). is_some (found other)), w.0, w.2, w.3, does w.1 w.0 w.2 w.5, first_so w.0 w.1 w.3 w.4, w.6)
      ]

  by-first : {V : Type 0} (asked : Command T) (found : Service T → Option V) (old : State T)
      → AsksFirst asked (λ (other : Service T). is_some (found other)) old
      → (service : Service T) (one : V) → find (λ (other : Service T). is_some (found other)) old.services ≡ Some service
      → found service ≡ Some one
      → (pattern : MessagingPattern) (name : List ℕ) → asks pattern name asked old ≡ false → is_of pattern name service ≡ false
  by-first asked found old so service one first is pattern name off =
      sym (ap (λ (o : Option (Service T)). option_map_or (is_of pattern name) o false) first) ∙ (sym (so pattern name) ∙ off)

  pub stays : (made : Made) (service after : Service T) (answer told : Reply T) → (answer ≡ told) × (after ≡ service) → IsPortNext made told
      → Kept made service answer after
  stays made service after answer told h next = ends made service answer told service after (itself made service) h next

  at-free : (asked : Command T) (number : ℕ) (Does : Publisher T → Service T → Reply T → Service T → Type 0) (old : State T)
      (answer : Reply T) (new : State T)
      → AsksFirst asked (λ (other : Service T). is_some (publisher_in number other)) old
      → ((one : Publisher T) (service after : Service T) → Does one service answer after → Kept old.made service answer after)
      → AtFree number Does old answer new → IsBeside asked old answer new
  at-free asked number Does old answer new so does h =
      moves asked (publisher_in number)
      (λ (publisher : Publisher T) (service : Service T) (told : Reply T) (after : Service T). MatchOption publisher.blocked
      (Does publisher service told after) (λ send. IsSkipped service told after)) old answer new
      (by-first asked (publisher_in number) old so)
      (λ one service after did. elim
      (by-option one.blocked (Does one service answer after) (λ send. IsSkipped service answer after) did) [
        | inl w ↦ does one service after w.1
        | inr w ↦ stays old.made service after answer reply.Skipped w.2 tt
      ]) h

  at-blocked : (asked : Command T) (number : ℕ) (Does : Publisher T → Send T → Service T → Reply T → Service T → Type 0) (old : State T)
      (answer : Reply T)
      (new : State T)
      → AsksFirst asked (λ (other : Service T). is_some (publisher_in number other)) old
      → ((one : Publisher T) (send : Send T) (service after : Service T) → Does one send service answer after
      → Kept old.made service answer after)
      → AtBlocked number Does old answer new → IsBeside asked old answer new
  at-blocked asked number Does old answer new so does h =
      moves asked (publisher_in number)
      (λ (publisher : Publisher T) (service : Service T) (told : Reply T) (after : Service T). MatchOption publisher.blocked
      (IsSkipped service told after) (λ send. Does publisher send service told after)) old answer new
      (by-first asked (publisher_in number) old so)
      (λ one service after did. elim
      (by-option one.blocked (IsSkipped service answer after) (λ send. Does one send service answer after) did) [
        | inl w ↦ stays old.made service after answer reply.Skipped w.1 tt
        | inr w ↦ does one w.0 service after w.2
      ]) h

  pub found-of : (factory : Factory) (service one : Service T) → cond (is_service_of factory service) (Some service) None ≡ Some one
      → is_service_of factory service ≡ true
  found-of factory service one e = elim (chosen (is_service_of factory service) (Some service) None (Some one) e) [
    | inl w ↦ w.0
    | inr w ↦ never-some one w.1
  ]

  at-factory : (asked : Command T) (types : MessageTypeDetails) (choices : Choices T) (buffer number : ℕ)
      (Does : Service T → Reply T → Service T → Type 0)
      (old : State T) (answer : Reply T) (new : State T)
      → ((pattern : MessagingPattern) (name : List ℕ)
      → asks pattern name asked old ≡ option_map_or (is_factory_of pattern name) (at number old.factories) false)
      → ((service after : Service T) → Does service answer after → Kept old.made service answer after)
      → AtFactory types choices buffer number Does old answer new → IsBeside asked old answer new
  at-factory asked types choices buffer number Does old answer new so does h =
      elim (by-option (at number old.factories) (IsSkipped old answer new)
      (λ factory. AtOne (λ (service : Service T). cond (is_service_of factory service) (Some service) None)
      (λ (service : Service T). Does) old answer new) h) [
        | inl w ↦ inl w.1
        | inr w ↦ moves asked (λ (service : Service T). cond (is_service_of w.0 service) (Some service) None)
            (λ (service : Service T). Does)
            old answer new
            (λ service one first found pattern name off. false_from_ne_true (is_of pattern name service)
            (λ is. true≢false (sym (service-at pattern name service w.0 is (found-of w.0 service one found))
            ∙ (sym (so pattern name ∙ ap (λ (o : Option Factory). option_map_or (is_factory_of pattern name) o false) w.1) ∙ off))))
            (λ one service after did. does service after did) w.2
      ]

  module _ (types : MessageTypeDetails) (choices : Choices T) (buffer : ℕ) where
    pub ports-move : (asked : Command T) (old : State T) (answer : Reply T) (new : State T) → is_of_ports asked ≡ true
        → Step types choices buffer asked old answer new → IsBeside asked old answer new
    ports-move (command.Publisher factory options) old answer new is h =
        at-factory (command.Publisher factory options) types choices buffer factory
        (λ (service : Service T). PublisherArrives (old.made.publishers + 1)
        (new_publisher factory options service.settings) service) old answer new (λ pattern name. refl)
        (λ service after did. publisher-arrives old.made service answer (old.made.publishers + 1)
        (new_publisher factory options service.settings)
        service after (itself old.made service) refl did) h
    ports-move (command.Subscriber factory options) old answer new is h =
        at-factory (command.Subscriber factory options) types choices buffer factory
        (λ (service : Service T). SubscriberArrives buffer (old.made.subscribers + 1)
        (new_subscriber factory options service.settings) service) old answer new (λ pattern name. refl)
        (λ service after did. subscriber-arrives old.made service answer buffer (old.made.subscribers + 1)
        (new_subscriber factory options service.settings) service after (itself old.made service) refl did) h
    ports-move (command.Loan publisher count) old answer new is (value, default, h) =
        at-free (command.Loan publisher count) publisher (LendsLoan (old.made.loans + 1) publisher count (Some value)) old answer new
        (λ pattern name. refl)
        (λ one service after did. lends-loan old.made service answer (old.made.loans + 1) publisher count (Some value) one service after
        (itself old.made service) refl did) h
    ports-move (command.LoanUninit publisher count) old answer new is h =
        at-free (command.LoanUninit publisher count) publisher (LendsLoan (old.made.loans + 1) publisher count None) old answer new
        (λ pattern name. refl)
        (λ one service after did. lends-loan old.made service answer (old.made.loans + 1) publisher count None one service after
        (itself old.made service) refl did) h
    ports-move (command.Set loan place value) old answer new is h =
        moves (command.Set loan place value) (λ (service : Service T). at loan service.loans)
        (λ (one : Loan T). Writes loan one (is_written one && nat_lt place (length one.values))
        (set one.values place (Some value))) old answer new (by-first (command.Set loan place value)
        (λ (service : Service T). at loan service.loans) old (λ pattern name. refl))
        (λ one service after did. writes old.made service answer loan one (is_written one && nat_lt place (length one.values))
        (set one.values place (Some value)) service after (itself old.made service) did) h
    ports-move (command.Fill loan values) old answer new is h =
        moves (command.Fill loan values) (λ (service : Service T). at loan service.loans)
        (λ (one : Loan T). Writes loan one (length values == length one.values) (map Some values)) old answer new
        (by-first (command.Fill loan values) (λ (service : Service T). at loan service.loans) old (λ pattern name. refl))
        (λ one service after did. writes old.made service answer loan one (length values == length one.values)
        (map Some values) service after
        (itself old.made service) did) h
    ports-move (command.Drop loan) old answer new is h =
        moves (command.Drop loan) (λ (service : Service T). at loan service.loans)
        (λ (one : Loan T) (service : Service T) (answered : Reply T) (after : Service T). (answered ≡ reply.Done)
        × (after ≡ record service { loans = removed loan service.loans })) old answer new
        (by-first (command.Drop loan) (λ (service : Service T). at loan service.loans) old (λ pattern name. refl))
        (λ one service after did. drops old.made service answer loan service after (itself old.made service) did) h
    ports-move (command.Send loan) old answer new is h =
        moves (command.Send loan) (λ (service : Service T). at loan service.loans) (SendsLoan choices loan) old answer new
        (by-first (command.Send loan) (λ (service : Service T). at loan service.loans) old (λ pattern name. refl))
        (λ one service after did. sends-loan old.made service answer choices loan one service after (itself old.made service) did) h
    ports-move (command.Put publisher values) old answer new is h =
        at-free (command.Put publisher values) publisher (Puts choices publisher values) old answer new (λ pattern name. refl)
        (λ one service after did. puts old.made service answer choices publisher values one service after (itself old.made service) did) h
    ports-move (command.Retry publisher nanoseconds) old answer new is h =
        at-blocked (command.Retry publisher nanoseconds) publisher
        (λ (one : Publisher T) (send : Send T). GoesOn choices publisher one
        (record send { retries = send.retries + 1; elapsed = nanoseconds })) old answer new (λ pattern name. refl)
        (λ one send service after did. goes-on old.made service answer choices publisher one
        (record send { retries = send.retries + 1; elapsed = nanoseconds }) service after (itself old.made service) did) h
    ports-move (command.GiveUp publisher) old answer new is h =
        at-blocked (command.GiveUp publisher) publisher
        (λ (one : Publisher T) (send : Send T) (service : Service T) (answered : Reply T) (after : Service T).
        (answered ≡ reply.Delivered send.delivered)
        × (after ≡ with_publisher publisher (record one { blocked = None }) service)) old answer new (λ pattern name. refl)
        (λ one send service after did. ends old.made service answer (reply.Delivered send.delivered)
        (with_publisher publisher (record one { blocked = None }) service) after
        (publisher-turned old.made service answer publisher (record one { blocked = None }) service (itself old.made service)) did tt) h
    ports-move (command.Receive subscriber) old answer new is h =
        moves (command.Receive subscriber) (subscriber_in subscriber)
        (subscribing.UpdatesFirst choices buffer subscriber (λ failure. refusal.Receive (receive_error.ConnectionFailure failure))
        (Receives subscriber (old.made.samples + 1))) old answer new
        (by-first (command.Receive subscriber) (subscriber_in subscriber) old (λ pattern name. refl))
        (λ one service after did. subscriber-updates old.made service answer choices buffer subscriber
        (λ failure. refusal.Receive (receive_error.ConnectionFailure failure)) (Receives subscriber (old.made.samples + 1)) one service
        after (itself old.made service)
        (λ next mid k took. receives old.made service answer subscriber (old.made.samples + 1) next mid after k refl took) did) h
    ports-move (command.Read sample) old answer new is h =
        moves (command.Read sample) (λ (service : Service T). at sample service.samples)
        (λ (one : Sample T) (service : Service T) (answered : Reply T) (after : Service T). (values : Vec T) ×
        (vec_items values ≡ one.message.values)
        × (answered ≡ reply.Values values) × (after ≡ service)) old answer new
        (by-first (command.Read sample) (λ (service : Service T). at sample service.samples) old (λ pattern name. refl))
        (λ one service after did. stays old.made service after answer (reply.Values did.0) (did.2, did.3) tt) h
    ports-move (command.Sequence sample) old answer new is h =
        moves (command.Sequence sample) (λ (service : Service T). at sample service.samples)
        (λ (one : Sample T) (service : Service T) (answered : Reply T) (after : Service T).
        (answered ≡ reply.Sequence one.message.sequence) × (after ≡ service)) old answer new
        (by-first (command.Sequence sample) (λ (service : Service T). at sample service.samples) old (λ pattern name. refl))
        (λ one service after did. stays old.made service after answer (reply.Sequence one.message.sequence) did tt) h
    ports-move (command.Release sample) old answer new is h =
        moves (command.Release sample) (λ (service : Service T). at sample service.samples) (Releases sample) old answer new
        (by-first (command.Release sample) (λ (service : Service T). at sample service.samples) old (λ pattern name. refl))
        (λ one service after did. releases old.made service answer sample one service after (itself old.made service) did) h
    ports-move (command.Update (port.Publisher number)) old answer new is h =
        at-free (command.Update (port.Publisher number)) number
        (publishing.UpdatesFirst choices number refusal.Connection
        (λ (one : Publisher T) (service : Service T) (answered : Reply T) (after : Service T). (answered ≡ reply.Done) × (after ≡ service)))
        old answer new (λ pattern name. refl)
        (λ one service after did. updates-first old.made service answer choices number refusal.Connection
        (λ (it : Publisher T) (mid : Service T) (answered : Reply T) (end : Service T). (answered ≡ reply.Done) × (end ≡ mid)) one service
        after (itself old.made service)
        (λ it mid k done. ends old.made service answer reply.Done mid after k done tt) did) h
    ports-move (command.Update (port.Subscriber number)) old answer new is h =
        moves (command.Update (port.Subscriber number)) (subscriber_in number)
        (subscribing.UpdatesFirst choices buffer number refusal.Connection
        (λ (one : Subscriber) (service : Service T) (answered : Reply T) (after : Service T). (answered ≡ reply.Done) × (after ≡ service)))
        old answer new (by-first (command.Update (port.Subscriber number)) (subscriber_in number) old (λ pattern name. refl))
        (λ one service after did. subscriber-updates old.made service answer choices buffer number refusal.Connection
        (λ (it : Subscriber) (mid : Service T) (answered : Reply T) (end : Service T). (answered ≡ reply.Done) × (end ≡ mid)) one service
        after (itself old.made service)
        (λ it mid k done. ends old.made service answer reply.Done mid after k done tt) did) h
    ports-move (command.Leave (port.Publisher number)) old answer new is h =
        at-free (command.Leave (port.Publisher number)) number
        (λ (one : Publisher T) (service : Service T) (answered : Reply T) (after : Service T). (answered ≡ reply.Done)
        × (after ≡ with_publisher number (record one { stands = false })
        (record service { publisher_list = left number service.publisher_list }))) old answer new (λ pattern name. refl)
        (λ one service after did. publisher-leaves old.made service answer number (record one { stands = false }) service after
        (itself old.made service) did) h
    ports-move (command.Leave (port.Subscriber number)) old answer new is h =
        moves (command.Leave (port.Subscriber number)) (subscriber_in number)
        (λ (one : Subscriber) (service : Service T) (answered : Reply T) (after : Service T). (answered ≡ reply.Done)
        × (after ≡ with_subscriber number (record one { stands = false })
        (record service { subscriber_list = left number service.subscriber_list }))) old answer new
        (by-first (command.Leave (port.Subscriber number)) (subscriber_in number) old (λ pattern name. refl))
        (λ one service after did. subscriber-leaves old.made service answer number (record one { stands = false }) service after
        (itself old.made service) did) h
    ports-move (command.Has subscriber) old answer new is h =
        moves (command.Has subscriber) (subscriber_in subscriber)
        (subscribing.UpdatesFirst choices buffer subscriber refusal.Connection
        (λ (one : Subscriber) (service : Service T) (answered : Reply T) (after : Service T).
        (answered ≡ reply.Has (has_samples subscriber one service))
        × (after ≡ service))) old answer new (by-first (command.Has subscriber) (subscriber_in subscriber) old (λ pattern name. refl))
        (λ one service after did. subscriber-updates old.made service answer choices buffer subscriber refusal.Connection
        (λ (it : Subscriber) (mid : Service T) (answered : Reply T) (end : Service T).
        (answered ≡ reply.Has (has_samples subscriber it mid)) × (end ≡ mid)) one service after (itself old.made service)
        (λ it mid k done. ends old.made service answer (reply.Has (has_samples subscriber it mid)) mid after k done tt) did) h
    ports-move other old answer new is h = absurd (true≢false (sym is))

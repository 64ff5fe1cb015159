-- What each step does to the services of the hub: one of them walks on, a port of it comes or leaves, or a service begins or ends.
use Rattle.std.proofs.Common.{◌≡◌, ◌⊎◌, ◌+◌, ℕ, Bool, true, false, cond, not, ◌&&◌, List, [], ◌∷◌, ◌++◌, Option, None, Some, refl, sym, ap}
use Rattle.std.proofs.Common.{subst, inl, inr, true≢false}
use Rattle.std.specs.List.{list_any}
use Rattle.std.specs.Prelude.{filter, find, slice_get, bytes_eq}
use Rattle.iox_machine.proofs.Delivering.{keeping, sending}
use Rattle.iox_machine.proofs.MoveForms.{IsNumbered, Loud, Loudly, Quiet, Quietly, is_port, with_send}
use Rattle.iox_machine.proofs.MoveForms as move
use Rattle.iox_machine.proofs.MoveLaws.{strides-by}
use Rattle.iox_machine.proofs.MoveSteps.{step-parts}
use Rattle.iox_machine.proofs.Moves.{Acts, IsTold, Parts}
use Rattle.iox_machine.proofs.Shorthands.{given_back, left, registered, taken, with_publisher, with_subscriber}
use Rattle.iox_machine.specs.Arriving.{new_publisher, new_subscriber}
use Rattle.iox_machine.specs.Choices.{Choices}
use Rattle.iox_machine.specs.Factories.{with_open}
use Rattle.iox_machine.specs.Mailbox.{Mailbox}
use Rattle.iox_machine.specs.Message.{Loan, Sample}
use Rattle.iox_machine.specs.Phase.{Phase, same_pattern}
use Rattle.iox_machine.specs.PublisherUpdate as publishing
use Rattle.iox_machine.specs.Run.{Step}
use Rattle.iox_machine.specs.Service.{Publisher, Send, Service, Subscriber, mailbox, with_mailbox}
use Rattle.iox_machine.specs.State.{Factory, Made, State, counted, is_service_of, replaced}
use Rattle.iox_machine.specs.SubscriberUpdate as subscribing
use Rattle.iox_machine.specs.Table.{at, changed, removed}
use Rattle.iox_command.specs.NegotiateBase.DescribeBase.declared.message_type.MessageTypeDetails.{MessageTypeDetails}
use Rattle.iox_command.specs.declared.command.Command.{Command}
use Rattle.iox_command.specs.declared.port.PublisherOptions.{PublisherOptions}
use Rattle.iox_command.specs.declared.port.SubscriberOptions.{SubscriberOptions}
use Rattle.iox_command.specs.declared.reply.Reply.{Reply}
use Rattle.iox_command.specs.declared.reply.Reply.TheVariants as reply

-- A relation between a service and what a port that stood made of it: it holds of each thing that a port does.
pub record Walks {T : Type 0} (R : Service T → Service T → Type 0) : Type 0 where
  pub none : (service : Service T) → R service service
  pub both : (one two three : Service T) → R one two → R two three → R one three
  pub lent : (loans : List (ℕ × Loan T)) (service : Service T) → R service (record service { loans = loans })
  pub held : (samples : List (ℕ × Sample T)) (service : Service T) → R service (record service { samples = samples })
  pub boxed : (publisher subscriber : ℕ) (box : Mailbox T) (service : Service T)
      → R service (with_mailbox publisher subscriber box service)
  pub turned : (number : ℕ) (was after : Publisher T) (service : Service T) → at number service.publishers ≡ Some was
      → after.stands ≡ was.stands → after.connected ≡ was.connected → after.seen ≡ was.seen
      → R service (with_publisher number after service)
  pub follows : (number : ℕ) (was : Publisher T) (service : Service T) (after : Publisher T) (new : Service T)
      → at number service.publishers ≡ Some was → publishing.Follows number was service after new → R service new
  pub swept : (number : ℕ) (was after : Subscriber) (service : Service T) → at number service.subscribers ≡ Some was
      → after.stands ≡ was.stands → after.connected ≡ was.connected → after.seen ≡ was.seen → after.again ≡ was.again
      → R service (with_subscriber number after service)
  pub attends : (buffer number : ℕ) (was : Subscriber) (service : Service T) (after : Subscriber) (new : Service T)
      → at number service.subscribers ≡ Some was → subscribing.Follows buffer number was service after new → R service new

module _ {T : Type 0} where
  -- A publisher follows the list of subscribers, and registers at a free place.
  abbrev pub Registers : ℕ → Publisher T → Service T → Reply T → Service T → Type 0
  Registers number one service answer new =
      (place : ℕ) × (slice_get service.publisher_list.places place ≡ Some None) × (after : Publisher T) × (mid : Service T)
      × publishing.Follows number one (record service { publishers = service.publishers ++ (number, one) ∷ [] }) after mid
      × (answer ≡ reply.PublisherMade number) × (new ≡ record mid { publisher_list = registered place number mid.publisher_list })

  -- A publisher comes.
  abbrev pub Publishes : Made → Service T → Reply T → Service T → Type 0
  Publishes made service answer new =
      (factory : ℕ) × (options : PublisherOptions)
      × Registers (made.publishers + 1) (new_publisher factory options service.settings) service answer new

  -- A subscriber follows the list of publishers, and registers at a free place.
  abbrev pub Enters : ℕ → ℕ → Subscriber → Service T → Reply T → Service T → Type 0
  Enters buffer number one service answer new =
      (place : ℕ) × (slice_get service.subscriber_list.places place ≡ Some None) × (after : Subscriber) × (mid : Service T)
      × subscribing.Follows buffer number one (record service { subscribers = service.subscribers ++ (number, one) ∷ [] }) after mid
      × (answer ≡ reply.SubscriberMade number) × (new ≡ record mid { subscriber_list = registered place number mid.subscriber_list })

  -- A subscriber comes.
  abbrev pub Subscribes : Made → Service T → Reply T → Service T → Type 0
  Subscribes made service answer new =
      (buffer : ℕ) × (factory : ℕ) × (options : SubscriberOptions)
      × Enters buffer (made.subscribers + 1) (new_subscriber factory options service.settings) service answer new

  -- A publisher leaves.
  abbrev pub Unpublishes : Service T → Service T → Type 0
  Unpublishes service new =
      (number : ℕ) × (one : Publisher T) × (at number service.publishers ≡ Some one)
      × (new ≡ with_publisher number (record one { stands = false })
      (record service { publisher_list = left number service.publisher_list }))

  -- A subscriber leaves.
  abbrev pub Unsubscribes : Service T → Service T → Type 0
  Unsubscribes service new =
      (number : ℕ) × (one : Subscriber) × (at number service.subscribers ≡ Some one)
      × (new ≡ with_subscriber number (record one { stands = false })
      (record service { subscriber_list = left number service.subscriber_list }))

  module _ (R : Service T → Service T → Type 0) (walks : Walks R) where
    -- A port that stands does something, or one comes or leaves.
    abbrev pub Moved : Made → Service T → Reply T → Service T → Type 0
    Moved made service answer after =
        R service after
        ⊎ (Publishes made service answer after
        ⊎ (Subscribes made service answer after ⊎ (Unpublishes service after ⊎ Unsubscribes service after)))

    -- One service moves, and all others stay.
    abbrev pub OneMoves : State T → Reply T → State T → Type 0
    OneMoves old answer new =
        (has : Service T → Bool) × (service : Service T) × (after : Service T) × (find has old.services ≡ Some service)
        × Moved old.made service answer after
        × (new ≡ record old { made = counted answer old.made; services = replaced has after old.services })

    -- What any step comes to: no service changes, or one moves, or one begins, or some end.
    abbrev pub Comes : State T → Reply T → State T → Type 0
    Comes old answer new =
        (new.made ≡ counted answer old.made)
        × ((new.services ≡ old.services)
        ⊎ (OneMoves old answer new
        ⊎ (((name : List ℕ) × (phase : Phase) × (new.services ≡ with_open name phase old.services))
        ⊎ ((test : Service T → Bool) × (new.services ≡ filter test old.services)))))

    -- ---- each move

    sends-so : (number : ℕ) (one : Publisher T) (blocked : Option (Send T)) (old : Service T) → at number old.publishers ≡ Some one
        → R old (with_send number one blocked old)
    sends-so number one blocked old found = walks.turned number one (record one { blocked = blocked }) old found refl refl refl

    walks-quiet : (one : Quiet T) (old new : Service T) → Quietly one old new → R old new
    walks-quiet (move.Retries number one send elapsed) old new (on, came) =
        subst (λ (s : Service T). R old s) (sym came) (sends-so number one _ old on.0)
    walks-quiet (move.Puts number one send subscriber more box) old new (on, waits, took, came) =
        subst (λ (s : Service T). R old s) (sym came)
        (walks.both old (with_send number one _ old) _ (sends-so number one _ old on.0)
        (walks.boxed number subscriber box (with_send number one _ old)))
    walks-quiet (move.Passes number one send subscriber more fails) old new (on, waits, full, came) =
        subst (λ (s : Service T). R old s) (sym came) (sends-so number one _ old on.0)
    walks-quiet (move.Concludes number one) old new (found, came) =
        subst (λ (s : Service T). R old s) (sym came) (sends-so number one None old found)
    walks-quiet (move.Follows number was after) old new ((found, free), did, is, came) = walks.follows number was old after new found did
    walks-quiet (move.Attends buffer number was after) old new (found, did, is, came) =
        walks.attends buffer number was old after new found did
    walks-quiet (move.Sweeps number was expired) old new (found, came) =
        subst (λ (s : Service T). R old s) (sym came)
        (walks.swept number was (record was { expired = expired }) old found refl refl refl refl)

    numbers-so : (number : ℕ) (was after : Publisher T) (old : Service T) → at number old.publishers ≡ Some was → IsNumbered was after
        → R old (with_publisher number after old)
    numbers-so number was after old found (room, segments, first, grown, is) =
        walks.turned number was after old found (ap (λ (it : Publisher T). it.stands) is)
        (ap (λ (it : Publisher T). it.connected) is) (ap (λ (it : Publisher T). it.seen) is)

    walks-loud : (factories : List (ℕ × Factory)) (one : Loud T) (old new : Service T) → is_port one ≡ false
        → Loudly factories one old new → R old new
    walks-loud factories (move.Lends number was after loan one) old new beside (found, up, (numbers, lent), by, next, came) =
        subst (λ (s : Service T). R old s) (sym came)
        (walks.both old (with_publisher number after old) _ (numbers-so number was after old found numbers)
        (walks.lent (old.loans ++ (loan, one) ∷ []) (with_publisher number after old)))
    walks-loud factories (move.Numbers number was after) old new beside (found, numbers, came) =
        subst (λ (s : Service T). R old s) (sym came) (numbers-so number was after old found numbers)
    walks-loud factories (move.Writes loan one values) old new beside (found, came) =
        subst (λ (s : Service T). R old s) (sym came) (walks.lent (changed loan (record one { values = values }) old.loans) old)
    walks-loud factories (move.Spends loan one) old new beside (found, came) =
        subst (λ (s : Service T). R old s) (sym came) (walks.lent (removed loan old.loans) old)
    walks-loud factories (move.Begins number one message) old new beside (found, free, came) =
        subst (λ (s : Service T). R old s) (sym came)
        (walks.turned number one (record (keeping message one old) { blocked = Some (sending message one) }) old found refl refl refl)
    walks-loud factories (move.Takes number sample) old new beside (holder, first, came) =
        let more : Service T = record old { samples = old.samples ++ (number, sample) ∷ [] } in
        subst (λ (s : Service T). R old s) (sym came)
        (walks.both old more _ (walks.held more.samples old)
        (walks.boxed sample.publisher sample.subscriber (taken (mailbox sample.publisher sample.subscriber old)) more))
    walks-loud factories (move.Releases number sample) old new beside (found, came) =
        let fewer : Service T = record old { samples = removed number old.samples } in
        subst (λ (s : Service T). R old s) (sym came)
        (walks.both old fewer _ (walks.held fewer.samples old)
        (walks.boxed sample.publisher sample.subscriber
        (given_back sample.message.number (mailbox sample.publisher sample.subscriber old)) fewer))
    walks-loud factories other old new beside h = absurd (true≢false beside)

    port-moves : (asked : Command T) (old : State T) (answer : Reply T) (one : Loud T) (service after : Service T) → is_port one ≡ true
        → IsTold asked old answer one → Loudly old.factories one service after → Moved old.made service answer after
    port-moves asked old answer (move.Publishes place number options one then) service after is (asks, next, told)
        (open_one, (made, free, mid, did, listed), follows, came) =
        inr (inl (
          one.factory,
          options,
          subst (λ (n : ℕ). Registers n (new_publisher one.factory options service.settings) service answer
              after) next (subst (λ (it : Publisher T). Registers number it service answer after) made.0
              (place, free, then, mid, did, told, listed)),
        ))
    port-moves asked old answer (move.Subscribes buffer place number options one then) service after is (asks, next, told)
        (open_one, (made, small, free, mid, did, listed), follows, came) =
        inr (inr (inl (
          buffer,
          one.factory,
          options,
          subst (λ (n : ℕ). Enters buffer n
              (new_subscriber one.factory options service.settings) service answer after) next
              (subst (λ (it : Subscriber). Enters buffer number it service answer after) made
              (place, free, then, mid, did, told, listed)),
        )))
    port-moves asked old answer (move.Unpublishes number one) service after is told (found, came) =
        inr (inr (inr (inl (number, one, found, came))))
    port-moves asked old answer (move.Unsubscribes number one) service after is told (found, came) =
        inr (inr (inr (inr (number, one, found, came))))
    port-moves asked old answer other service after is told did = absurd (true≢false (sym is))

    acts-move : (asked : Command T) (old : State T) (answer : Reply T) (service after : Service T) → Acts asked old answer service after
        → Moved old.made service answer after
    acts-move asked old answer service after (inl (loud, beside, told, walk)) =
        inl (strides-by R walks.none walks.both walks-quiet old.factories (walks-loud old.factories) loud service after beside walk)
    acts-move asked old answer service after (inr (one, is, told, did)) =
        port-moves asked old answer one service after is told.5.0 did

    module _ (types : MessageTypeDetails) (choices : Choices T) (buffer : ℕ) where
      pub step-comes : (asked : Command T) (old : State T) (answer : Reply T) (new : State T)
          → Step types choices buffer asked old answer new → Comes old answer new
      step-comes asked old answer new h = comes (step-parts types choices buffer asked old answer new h)
        where
          fewer : (b : Bool) (test : Service T → Bool) → new.services ≡ cond b old.services (filter test old.services)
              → (new.services ≡ old.services)
              ⊎ (OneMoves old answer new
              ⊎ (((name : List ℕ) × (phase : Phase) × (new.services ≡ with_open name phase old.services))
              ⊎ ((test : Service T → Bool) × (new.services ≡ filter test old.services))))
          fewer true test same = inl same
          fewer false test same = inr (inr (inr (test, same)))

          comes : Parts asked old answer new → Comes old answer new
          comes (made, inl (told, inl (services, factories))) = (made, inl services)
          comes (made, inl (told, inr (inl (factory, phase, factories, services)))) =
              (made, inr (inr (inl (factory.name, phase, services))))
          comes (made, inl (told, inr (inr (number, factory, found, unused, factories, services)))) = (
            made,
            fewer (list_any (λ (entry : ℕ × Factory). same_pattern entry.1.pattern factory.pattern
                && bytes_eq entry.1.name factory.name) (removed number old.factories))
                (λ (service : Service T). not (is_service_of factory service)) services,
          )
          comes (made, inr (has, service, after, first, acts, came)) =
              (made, inr (inl (has, service, after, first, acts-move asked old answer service after acts, came)))

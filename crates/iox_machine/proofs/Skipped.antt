-- A command is skipped exactly if it can't be carried out, and changes nothing then.
use Rattle.std.proofs.Common.{◌≡◌, ◌⊎◌, ◌+◌, ℕ, Bool, true, false, cond, not, ◌&&◌, List, [], ◌∷◌, length, map, set, Option, None, Some}
use Rattle.std.proofs.Common.{Result, Ok, Err, refl, sym, ap, subst, inl, inr, ◌∙◌, true≢false}
use Rattle.std.specs.Option.{option_map_or}
use Rattle.std.specs.List.{list_all, list_any}
use Rattle.std.specs.Prelude.{◌==◌, ◌||◌, ◌^◌, bytes_eq, filter, find, is_some, nat_le, nat_lt, slice_get, MatchBool, MatchOption}
use Rattle.std.specs.Prelude.{MatchResult}
use Rattle.std.specs.Global.{Vec}
use Rattle.std.specs.Vec.{vec_items}
use Rattle.iox_machine.proofs.Cases.{by-bool, by-option}
use Rattle.iox_machine.proofs.Delivering.{at_once, by-send, keeping, sending}
use Rattle.iox_machine.proofs.Frames.{PublisherComes, SubscriberComes, by-updates, publisher-stands, soft-updates, subscriber-stands}
use Rattle.iox_machine.proofs.Moving.{replaced-same}
use Rattle.iox_machine.proofs.Shorthands.{AtBlocked, AtFree, IsRefused, IsSkipped, Opens, OpensOrCreates, closed_by, either_lacking}
use Rattle.iox_machine.proofs.Shorthands.{factory_of, left}
use Rattle.iox_machine.proofs.Shorthands.{with_publisher, with_subscriber}
use Rattle.iox_machine.specs.Agreement.{unfit, verdict}
use Rattle.iox_machine.specs.Arriving.{PublisherArrives, SubscriberArrives, new_publisher, new_subscriber, worst_case}
use Rattle.iox_machine.specs.Asked.{settings_of}
use Rattle.iox_machine.specs.Choices.{Choices}
use Rattle.iox_machine.specs.Closing.{Closes, is_used_by}
use Rattle.iox_machine.specs.Factories.{CreatesService, Enters, Negotiates}
use Rattle.iox_machine.specs.Message.{Loan, Message, Sample}
use Rattle.iox_machine.specs.Named.{has_named}
use Rattle.iox_machine.specs.Negotiation.{Answer, Call, Creates}
use Rattle.iox_machine.specs.OnceLaws.{is_skipped}
use Rattle.iox_machine.specs.Phase.{Own, Phase, same_pattern}
use Rattle.iox_machine.specs.Ports.{LendsLoan, Puts, Releases, SendsLoan, Writes, publisher_in, subscriber_in}
use Rattle.iox_machine.specs.PublisherUpdate as publishing
use Rattle.iox_machine.specs.Receiving.{Receives, has_samples}
use Rattle.iox_machine.specs.Refusals.{create_refusal, either_refusal, open_refusal}
use Rattle.iox_machine.specs.Run.{AtFactory, Step}
use Rattle.iox_machine.specs.RunLaws.{SkippedChangesNothing, is_written, sent_as}
use Rattle.iox_machine.specs.Sending.{Begins, GoesOn, Sends}
use Rattle.iox_machine.specs.Service.{Publisher, Send, Service, Subscriber}
use Rattle.iox_machine.specs.SkippedLaws.{SkippedIfUnready, is_applicable, is_held_up, is_ready_for, sends_freely}
use Rattle.iox_machine.specs.State.{AtOne, Factory, Made, State, counted, is_service_of, replaced, with_phase}
use Rattle.iox_machine.specs.SubscriberUpdate as subscribing
use Rattle.iox_machine.specs.Table.{at, removed}
use Rattle.iox_command.specs.DomainValues.declared.connection_failure.ConnectionFailure.{ConnectionFailure}
use Rattle.iox_command.specs.DomainValues.declared.create_error.PublisherCreateError.TheVariants as publisher_error
use Rattle.iox_command.specs.DomainValues.declared.create_error.SubscriberCreateError.TheVariants as subscriber_error
use Rattle.iox_command.specs.DomainValues.declared.port_error.ReceiveError.TheVariants as receive_error
use Rattle.iox_command.specs.DomainValues.declared.port_error.SendError.TheVariants as error
use Rattle.iox_command.specs.NegotiateBase.DescribeBase.declared.attribute.Attribute.{Attribute}
use Rattle.iox_command.specs.NegotiateBase.DescribeBase.declared.message_type.MessageTypeDetails.{MessageTypeDetails}
use Rattle.iox_command.specs.NegotiateBase.declared.errors.close.CloseError.TheVariants.{StillInUse}
use Rattle.iox_command.specs.NegotiateBase.declared.failure.CreateFailure.{CreateFailure}
use Rattle.iox_command.specs.NegotiateBase.declared.failure.CreateFailure.TheVariants as uncreated
use Rattle.iox_command.specs.NegotiateBase.declared.failure.OpenFailure.TheVariants as unopened
use Rattle.iox_command.specs.declared.command.Command.{Command}
use Rattle.iox_command.specs.declared.command.Command.TheVariants as command
use Rattle.iox_command.specs.declared.port.PortNumber.TheVariants as port
use Rattle.iox_command.specs.declared.refusal.Refusal.{Refusal}
use Rattle.iox_command.specs.declared.refusal.Refusal.TheVariants as refusal
use Rattle.iox_command.specs.declared.reply.Reply.{Reply}
use Rattle.iox_command.specs.declared.reply.Reply.TheVariants as reply
use Rattle.iox_command.specs.declared.service.ServiceOptions.{ServiceOptions}
use Rattle.iox_command.specs.declared.step.StepBefore.{StepBefore}

pub find-alike : {X : Type 0} (one other : X → Bool) → ((x : X) → one x ≡ other x) → (xs : List X) → find one xs ≡ find other xs
find-alike one other same [] = refl
find-alike one other same (x ∷ xs) =
    ap (λ (b : Bool). cond b (Some x) (find one xs)) (same x)
    ∙ ap (λ (o : Option _). cond (other x) (Some x) o) (find-alike one other same xs)

module _ {T : Type 0} where
  -- the reply isn't that the command is skipped
  abbrev Tells : Reply T → Type 0
  Tells answer = is_skipped answer ≡ false

  refuses : (why : Refusal) (old : Service T) (answer : Reply T) (new : Service T) → IsRefused why old answer new → Tells answer
  refuses why old answer new h = ap is_skipped h.0

  -- The command is skipped exactly if it isn't ready, and nothing changes then.
  abbrev Exactly : {S : Type 0} → Bool → Reply T → S → S → Type 0
  Exactly ready answer old new = (is_skipped answer ≡ not ready) × (is_skipped answer ≡ true → new ≡ old)

  does-so : {S : Type 0} (ready : Bool) (answer : Reply T) (old new : S) → ready ≡ true → Tells answer → Exactly ready answer old new
  does-so ready answer old new is tells = (tells ∙ sym (ap not is), (λ skipped. absurd (true≢false (sym skipped ∙ tells))))

  skips-so : {S : Type 0} (ready : Bool) (answer : Reply T) (old new : S) → ready ≡ false → IsSkipped old answer new
      → Exactly ready answer old new
  skips-so ready answer old new is h = (ap is_skipped h.0 ∙ sym (ap not is), (λ skipped. h.1))

  skipped-counts : (answer : Reply T) (made : Made) → is_skipped answer ≡ true → counted answer made ≡ made
  skipped-counts reply.Skipped made is = refl
  skipped-counts other made is = absurd (true≢false (sym is))

  -- ---- sends

  goes-on-tells : (choices : Choices T) (number : ℕ) (one : Publisher T) (send : Send T) (old : Service T) (answer : Reply T)
      (new : Service T) → GoesOn choices number one send old answer new → Tells answer
  goes-on-tells choices number one send old answer new h = told (is_some (slice_get h.0.left 0)) h.0.fails h.0.delivered h.3
    where
      told : (waits fails : Bool) (count : ℕ)
          → answer ≡ cond waits reply.Blocked (cond fails (reply.Refused (refusal.Send error.UnableToDeliver)) (reply.Delivered count))
          → Tells answer
      told true fails count e = ap is_skipped e
      told false true count e = ap is_skipped e
      told false false count e = ap is_skipped e

  sends-tells : (choices : Choices T) (number : ℕ) (message : Message T) (one : Publisher T) (old : Service T) (answer : Reply T)
      (new : Service T) → Sends choices number message one old answer new → Tells answer
  sends-tells choices number message one old answer new h =
      elim (by-send choices number message one old answer new h) [
        | inl w ↦ by-updates choices (Tells answer) number (λ failure. refusal.Send (error.ConnectionError failure))
            (Begins choices number message) one old answer new
            (λ after mid on begun. goes-on-tells choices number (keeping message after mid) (sending message after) mid answer new begun)
            (λ why mid on refused. refuses why mid answer new refused) w
        | inr w ↦ refuses (refusal.Send (at_once w.0)) old answer new w.1
      ]

  puts-tells : (choices : Choices T) (number : ℕ) (values : List T) (one : Publisher T) (old : Service T) (answer : Reply T)
      (new : Service T) → Puts choices number values one old answer new → Tells answer
  puts-tells choices number values one old answer new (None, after, lent, sent) =
      sends-tells choices number (record { number = one.next; sequence = None; values = values }) after (with_publisher number after old)
      answer new sent
  puts-tells choices number values one old answer new (Some why, after, lent, (told, same)) = ap is_skipped told

  lends-tells : (loan number count : ℕ) (value : Option T) (one : Publisher T) (old : Service T) (answer : Reply T) (new : Service T)
      → LendsLoan loan number count value one old answer new → Tells answer
  lends-tells loan number count value one old answer new (None, after, lent, (told, came)) = ap is_skipped told
  lends-tells loan number count value one old answer new (Some why, after, lent, (told, same)) = ap is_skipped told

  receives-tells : (number sample : ℕ) (one : Subscriber) (old : Service T) (answer : Reply T) (new : Service T)
      → Receives number sample one old answer new → Tells answer
  receives-tells number sample one old answer new (None, giver, (told, came)) = here (has_samples number one old) told
    where
      here : (b : Bool) → answer ≡ cond b (reply.Refused (refusal.Receive receive_error.ExceedsMaxBorrows)) reply.NothingWaits
          → Tells answer
      here true e = ap is_skipped e
      here false e = ap is_skipped e
  receives-tells number sample one old answer new (Some publisher, giver, took) = ap is_skipped took.4

  -- ---- what is there, and ready

  at-one-exactly : {V : Type 0} (found : Service T → Option V) (Does : V → Service T → Reply T → Service T → Type 0) (old : State T)
      (answer : Reply T) (new : State T) (has ready : Service T → Bool) → ((service : Service T) → has service ≡ is_some (found service))
      → ((one : V) (service after : Service T) → found service ≡ Some one → Does one service answer after
      → Exactly (ready service) answer service after)
      → AtOne found Does old answer new → Exactly (option_map_or ready (find has old.services) false) answer old new
  at-one-exactly {V} found Does old answer new has ready same does h =
      elim (by-option (find (λ (other : Service T). is_some (found other)) old.services) (IsSkipped old answer new)
      (λ service. (after : Service T) × MatchOption (found service) ⊥ (λ one. Does one service answer after)
      × (new ≡ record old {
        made = counted answer old.made;
        services = replaced (λ (other : Service T). is_some (found other)) after old.services;
      })) h) [
        | inl w ↦ skips-so (option_map_or ready (find has old.services) false) answer old new (seen None w.0) w.1
        | inr w ↦ elim (by-option (found w.0) ⊥ (λ one. Does one w.0 answer w.2.0) w.2.1) [
          | inl k ↦ absurd k.1
          | inr k ↦ at_it w.0 w.2.0 w.1 (does k.0 w.0 w.2.0 k.1 k.2) w.2.2
        ]
      ]
    where
      seen : (o : Option (Service T)) → find (λ (other : Service T). is_some (found other)) old.services ≡ o
          → option_map_or ready (find has old.services) false ≡ option_map_or ready o false
      seen o is =
          ap (λ (it : Option (Service T)). option_map_or ready it false)
          (find-alike has (λ (other : Service T). is_some (found other)) same old.services ∙ is)

      at_it : (service after : Service T) → find (λ (other : Service T). is_some (found other)) old.services ≡ Some service
          → Exactly (ready service) answer service after
          → new ≡ record old {
            made = counted answer old.made;
            services = replaced (λ (other : Service T). is_some (found other)) after old.services;
          }
          → Exactly (option_map_or ready (find has old.services) false) answer old new
      at_it service after first exactly came = (
        exactly.0 ∙ sym (ap not (seen (Some service) first)),
        (λ skipped. came ∙ (λ i. record old {
          made = skipped-counts answer old.made skipped i;
          services = unmoved skipped i;
        })),
      )
        where
          unmoved : is_skipped answer ≡ true → replaced (λ (other : Service T). is_some (found other)) after old.services ≡ old.services
          unmoved skipped =
              ap (λ (it : Service T). replaced (λ (other : Service T). is_some (found other)) it old.services) (exactly.1 skipped)
              ∙ replaced-same (λ (other : Service T). is_some (found other)) service old.services first

  at-free-exactly : (number : ℕ) (Does : Publisher T → Service T → Reply T → Service T → Type 0) (old : State T) (answer : Reply T)
      (new : State T) → ((one : Publisher T) (service after : Service T) → Does one service answer after → Tells answer)
      → AtFree number Does old answer new
      → Exactly (option_map_or (sends_freely number) (find (λ (it : Service T). is_some (publisher_in number it)) old.services) false)
      answer old new
  at-free-exactly number Does old answer new does h =
      at-one-exactly (publisher_in number)
      (λ (publisher : Publisher T) (service : Service T) (told : Reply T) (after : Service T). MatchOption publisher.blocked
      (Does publisher service told after) (λ send. IsSkipped service told after))
      old answer new (λ (it : Service T). is_some (publisher_in number it)) (sends_freely number) (λ service. refl)
      (λ one service after found did. elim (by-option one.blocked (Does one service answer after)
      (λ send. IsSkipped service answer after) did) [
        | inl w ↦ does-so (sends_freely number service) answer service after (seen one service found None w.0) (does one service after w.1)
        | inr w ↦ skips-so (sends_freely number service) answer service after (seen one service found (Some w.0) w.1) w.2
      ]) h
    where
      seen : (one : Publisher T) (service : Service T) → publisher_in number service ≡ Some one → (o : Option (Send T)) → one.blocked ≡ o
          → sends_freely number service ≡ not (is_some o)
      seen one service found o is =
          ap (λ (it : Option (Publisher T)). option_map_or (λ (p : Publisher T). not (is_some p.blocked)) it false)
          (publisher-stands number service one found)
          ∙ ap (λ (it : Option (Send T)). not (is_some it)) is

  at-blocked-exactly : (number : ℕ) (Does : Publisher T → Send T → Service T → Reply T → Service T → Type 0) (old : State T)
      (answer : Reply T) (new : State T)
      → ((one : Publisher T) (send : Send T) (service after : Service T) → Does one send service answer after → Tells answer)
      → AtBlocked number Does old answer new
      → Exactly (option_map_or (is_held_up number) (find (λ (it : Service T). is_some (publisher_in number it)) old.services) false)
      answer old new
  at-blocked-exactly number Does old answer new does h =
      at-one-exactly (publisher_in number)
      (λ (publisher : Publisher T) (service : Service T) (told : Reply T) (after : Service T). MatchOption publisher.blocked
      (IsSkipped service told after) (λ send. Does publisher send service told after))
      old answer new (λ (it : Service T). is_some (publisher_in number it)) (is_held_up number) (λ service. refl)
      (λ one service after found did. elim (by-option one.blocked (IsSkipped service answer after)
      (λ send. Does one send service answer after) did) [
        | inl w ↦ skips-so (is_held_up number service) answer service after (seen one service found None w.0) w.1
        | inr w ↦ does-so (is_held_up number service) answer service after (seen one service found (Some w.0) w.1)
            (does one w.0 service after w.2)
      ]) h
    where
      seen : (one : Publisher T) (service : Service T) → publisher_in number service ≡ Some one → (o : Option (Send T)) → one.blocked ≡ o
          → is_held_up number service ≡ is_some o
      seen one service found o is =
          ap (λ (it : Option (Publisher T)). option_map_or (λ (p : Publisher T). is_some p.blocked) it false)
          (publisher-stands number service one found)
          ∙ ap (λ (it : Option (Send T)). is_some it) is

  -- ---- nodes

  enters-tells : (factory : Factory) (phase : Phase) (lacking : Refusal) (old : State T) (answer : Reply T) (new : State T)
      → Enters factory phase lacking old answer new → Tells answer
  enters-tells factory phase lacking old answer new (inl (told, came)) = ap is_skipped told
  enters-tells factory phase lacking old answer new (inr (told, came)) = ap is_skipped told

  negotiated-exactly : {F : Type 0} (Calls : Call → Answer F → Call → Type 0) (told : F → Refusal) (lacking : Bool → F) (factory : Factory)
      (old : State T) (answer : Reply T) (new : State T) → Negotiates Calls told lacking factory old answer new
      → Exactly (nat_le 1 factory.node && nat_le factory.node old.made.nodes) answer old new
  negotiated-exactly {F} Calls told lacking factory old answer new h =
      elim (by-bool (nat_le 1 factory.node && nat_le factory.node old.made.nodes) Called (IsSkipped old answer new) h) [
        | inl w ↦ does-so (nat_le 1 factory.node && nat_le factory.node old.made.nodes) answer old new w.0 (calls w.1)
        | inr w ↦ skips-so (nat_le 1 factory.node && nat_le factory.node old.made.nodes) answer old new w.0 w.1
      ]
    where
      Called : Type 0
      Called =
          IsRefused (told (lacking false)) old answer new
          ⊎ ((found : Result Bool F) × (after : Call)
          × Calls (record { phase = old.phases factory.pattern factory.name; accesses = 0 }) (Some found) after
          × MatchResult found
          (λ is_new. Enters factory after.phase (told (lacking is_new)) old answer new)
          (λ failure. IsRefused (told failure) (with_phase factory.pattern factory.name after.phase old) answer new))

      calls : Called → Tells answer
      calls (inl refused) = ap is_skipped refused.0
      calls (inr (Ok is_new, after, called, enters)) =
          enters-tells factory after.phase (told (lacking is_new)) old answer new enters
      calls (inr (Err failure, after, called, refused)) = ap is_skipped refused.0

  created-exactly : (types : MessageTypeDetails) (steps : List StepBefore) (factory : Factory) (named : ServiceOptions)
      (attributes : List Attribute) (old : State T) (answer : Reply T) (new : State T)
      → CreatesService types steps factory named attributes old answer new
      → Exactly (nat_le 1 factory.node && nat_le factory.node old.made.nodes) answer old new
  created-exactly types steps factory named attributes old answer new h =
      elim (by-option (unfit (settings_of types named)) Negotiated (λ failure. Refused failure) h) [
        | inl w ↦ negotiated-exactly (Creates types factory.pattern steps (Own factory.node)
            (record { settings = settings_of types named; attributes = attributes })) (create_refusal named)
            (λ is_new. uncreated.OutOfMemory) factory old answer new w.1
        | inr w ↦ elim (by-bool (nat_le 1 factory.node && nat_le factory.node old.made.nodes)
            (IsRefused (create_refusal named w.0) old answer new) (IsSkipped old answer new) w.2) [
              | inl k ↦ does-so (nat_le 1 factory.node && nat_le factory.node old.made.nodes) answer old new k.0 (ap is_skipped k.1.0)
              | inr k ↦ skips-so (nat_le 1 factory.node && nat_le factory.node old.made.nodes) answer old new k.0 k.1
            ]
      ]
    where
      Negotiated : Type 0
      Negotiated =
          Negotiates (Creates types factory.pattern steps (Own factory.node)
          (record { settings = settings_of types named; attributes = attributes }))
          (create_refusal named) (λ is_new. uncreated.OutOfMemory) factory old answer new

      Refused : CreateFailure → Type 0
      Refused failure =
          MatchBool (nat_le 1 factory.node && nat_le factory.node old.made.nodes)
          (IsRefused (create_refusal named failure) old answer new) (IsSkipped old answer new)

  closed-exactly : (number : ℕ) (old : State T) (answer : Reply T) (new : State T) → Closes number old answer new
      → Exactly (is_some (at number old.factories)) answer old new
  closed-exactly number old answer new h =
      elim (by-option (at number old.factories) (IsSkipped old answer new) (λ factory. Closing factory) h) [
        | inl w ↦ skips-so (is_some (at number old.factories)) answer old new (ap is_some w.0) w.1
        | inr w ↦ elim (by-bool (list_any (λ (service : Service T). is_service_of w.0 service && is_used_by number service) old.services)
            (IsRefused (refusal.Close StillInUse) old answer new) ((answer ≡ reply.Done) × (new ≡ closed w.0)) w.2) [
              | inl k ↦ does-so (is_some (at number old.factories)) answer old new (ap is_some w.1) (ap is_skipped k.1.0)
              | inr k ↦ does-so (is_some (at number old.factories)) answer old new (ap is_some w.1) (ap is_skipped k.1.0)
            ]
      ]
    where
      closed : Factory → State T
      closed factory = record (with_phase factory.pattern factory.name
          (closed_by factory.node (old.phases factory.pattern factory.name)) old) {
            factories = removed number old.factories;
            services = cond (list_any (λ (entry : ℕ × Factory). same_pattern entry.1.pattern factory.pattern
                && bytes_eq entry.1.name factory.name) (removed number old.factories))
                old.services (filter (λ (service : Service T). not (is_service_of factory service)) old.services);
          }

      Closing : Factory → Type 0
      Closing factory =
          MatchBool (list_any (λ (service : Service T). is_service_of factory service && is_used_by number service) old.services)
          (IsRefused (refusal.Close StillInUse) old answer new) ((answer ≡ reply.Done) × (new ≡ closed factory))

  publisher-tells : (number : ℕ) (one : Publisher T) (service : Service T) (answer : Reply T) (after : Service T)
      → PublisherArrives number one service answer after → Tells answer
  publisher-tells number one service answer after h =
      told (nat_le (2 ^ 32) (worst_case service.settings one.max_loaned_samples) || nat_le (2 ^ 32) one.room)
      (list_all is_some service.publisher_list.places) h
    where
      told : (b c : Bool)
          → MatchBool b (IsRefused (refusal.Publisher publisher_error.UnableToCreateDataSegment) service answer after)
          (MatchBool c (IsRefused (refusal.Publisher publisher_error.ExceedsMaxSupportedPublishers) service answer after)
          (IsRefused (refusal.Publisher publisher_error.UnableToCreateDataSegment) service answer after
          ⊎ PublisherComes number one service answer after)) → Tells answer
      told true c h = ap is_skipped h.0
      told false true h = ap is_skipped h.0
      told false false (inl h) = ap is_skipped h.0
      told false false (inr h) = ap is_skipped h.5

  subscriber-tells : (buffer number : ℕ) (one : Subscriber) (service : Service T) (answer : Reply T) (after : Service T)
      → SubscriberArrives buffer number one service answer after → Tells answer
  subscriber-tells buffer number one service answer after h =
      told (nat_lt service.settings.subscriber_max_buffer_size one.buffer_size) (list_all is_some service.subscriber_list.places) h
    where
      told : (b c : Bool)
          → MatchBool b
          (IsRefused (refusal.Subscriber subscriber_error.BufferSizeExceedsMaxSupportedBufferSizeOfService) service answer after)
          (MatchBool c (IsRefused (refusal.Subscriber subscriber_error.ExceedsMaxSupportedSubscribers) service answer after)
          (IsRefused (refusal.Subscriber subscriber_error.OutOfMemory) service answer after
          ⊎ SubscriberComes buffer number one service answer after)) → Tells answer
      told true c h = ap is_skipped h.0
      told false true h = ap is_skipped h.0
      told false false (inl h) = ap is_skipped h.0
      told false false (inr h) = ap is_skipped h.5

  module _ (types : MessageTypeDetails) (choices : Choices T) (buffer : ℕ) where
    at-factory-exactly : (number : ℕ) (Does : Service T → Reply T → Service T → Type 0) (asked : Command T) (old : State T)
        (answer : Reply T) (new : State T)
        → ((service : Service T) → has_named old.factories asked service
        ≡ option_map_or (λ (one : Factory). is_service_of one service) (at number old.factories) false)
        → ((service : Service T) → is_ready_for asked service ≡ true)
        → ((service after : Service T) → Does service answer after → Tells answer)
        → AtFactory types choices buffer number Does old answer new
        → Exactly (option_map_or (is_ready_for asked) (find (has_named old.factories asked) old.services) false) answer old new
    at-factory-exactly number Does asked old answer new named ready does h =
        elim (by-option (at number old.factories) (IsSkipped old answer new)
        (λ factory. AtOne (λ (service : Service T). cond (is_service_of factory service) (Some service) None)
        (λ (service : Service T). Does) old answer new) h) [
          | inl w ↦ skips-so (option_map_or (is_ready_for asked) (find (has_named old.factories asked) old.services) false) answer old new
              (ap (λ (o : Option (Service T)). option_map_or (is_ready_for asked) o false)
              (find-alike (has_named old.factories asked) (λ (it : Service T). false)
              (λ service. named service
              ∙ ap (λ (o : Option Factory). option_map_or (λ (one : Factory). is_service_of one service) o false) w.0) old.services
              ∙ find-nothing old.services)) w.1
          | inr w ↦ at-one-exactly (λ (service : Service T). cond (is_service_of w.0 service) (Some service) None)
              (λ (service : Service T). Does) old answer new (has_named old.factories asked) (is_ready_for asked)
              (λ service. named service
              ∙ (ap (λ (o : Option Factory). option_map_or (λ (one : Factory). is_service_of one service) o false) w.1
              ∙ some-if (is_service_of w.0 service) service))
              (λ one service after found did.
              does-so (is_ready_for asked service) answer service after (ready service) (does service after did)) w.2
        ]
      where
        find-nothing : (services : List (Service T)) → find (λ (it : Service T). false) services ≡ None
        find-nothing [] = refl
        find-nothing (service ∷ more) = find-nothing more

        some-if : (b : Bool) (service : Service T) → b ≡ is_some (cond b (Some service) None)
        some-if true service = refl
        some-if false service = refl

    attends-tells : (number : ℕ) (told : ConnectionFailure → Refusal) (Does : Subscriber → Service T → Reply T → Service T → Type 0)
        (one : Subscriber) (service : Service T) (answer : Reply T) (after : Service T) → subscriber_in number service ≡ Some one
        → ((next : Subscriber) (mid : Service T) → Does next mid answer after → Tells answer)
        → subscribing.UpdatesFirst choices buffer number told Does one service answer after → Tells answer
    attends-tells number told Does one service answer after found does h =
        soft-updates choices (Tells answer) buffer number told Does one service answer after
        (subscriber-stands number service one found).0 (λ next mid soft known holds did. does next mid did)
        (λ why mid soft refused. refuses why mid answer after refused) h

    writes-exactly : (loan : ℕ) (one : Loan T) (fit : Bool) (values : List (Option T)) (old : Service T) (answer : Reply T)
        (new : Service T) → Writes loan one fit values old answer new → Exactly fit answer old new
    writes-exactly loan one true values old answer new h = does-so true answer old new refl (ap is_skipped h.0)
    writes-exactly loan one false values old answer new h = skips-so false answer old new refl h

    -- what is said of a loan that is there
    at-loan : (test : Loan T → Bool) (loan : ℕ) (one : Loan T) (service : Service T) (answer : Reply T) (after : Service T)
        → at loan service.loans ≡ Some one → Exactly (test one) answer service after
        → Exactly (option_map_or test (at loan service.loans) false) answer service after
    at-loan test loan one service answer after found exactly =
        subst (λ (b : Bool). Exactly b answer service after) (sym (ap (λ (o : Option (Loan T)). option_map_or test o false) found)) exactly

    sends-loan-exactly : (loan : ℕ) (one : Loan T) (service : Service T) (answer : Reply T) (after : Service T)
        → SendsLoan choices loan one service answer after
        → Exactly (is_written one && sends_freely one.publisher service) answer service after
    sends-loan-exactly loan one service answer after h =
        elim (by-option (at one.publisher service.publishers) (IsSkipped service answer after)
        (λ publisher. MatchBool (is_written one && not (is_some publisher.blocked))
        (Sends choices one.publisher (sent_as one) publisher (record service { loans = removed loan service.loans }) answer after)
        (IsSkipped service answer after)) h) [
          | inl w ↦ skips-so (is_written one && sends_freely one.publisher service) answer service after
              (seen None w.0 ∙ never (is_written one)) w.1
          | inr w ↦ elim (by-bool (is_written one && not (is_some w.0.blocked))
              (Sends choices one.publisher (sent_as one) w.0 (record service { loans = removed loan service.loans }) answer after)
              (IsSkipped service answer after) w.2) [
                | inl k ↦ does-so (is_written one && sends_freely one.publisher service) answer service after
                    (seen (Some w.0) w.1 ∙ k.0)
                    (sends-tells choices one.publisher (sent_as one) w.0 (record service { loans = removed loan service.loans }) answer
                    after k.1)
                | inr k ↦ skips-so (is_written one && sends_freely one.publisher service) answer service after
                    (seen (Some w.0) w.1 ∙ k.0) k.1
              ]
        ]
      where
        seen : (o : Option (Publisher T)) → at one.publisher service.publishers ≡ o
            → (is_written one && sends_freely one.publisher service)
            ≡ (is_written one && option_map_or (λ (p : Publisher T). not (is_some p.blocked)) o false)
        seen o is =
            ap (λ (it : Option (Publisher T)). is_written one
            && option_map_or (λ (p : Publisher T). not (is_some p.blocked)) it false) is

        never : (b : Bool) → (b && false) ≡ false
        never true = refl
        never false = refl

    step-exactly : (asked : Command T) (old : State T) (answer : Reply T) (new : State T) → Step types choices buffer asked old answer new
        → Exactly (is_applicable asked old) answer old new
    step-exactly command.Node old answer new (inl (told, came)) = does-so true answer old new refl (ap is_skipped told)
    step-exactly command.Node old answer new (inr (told, same)) = does-so true answer old new refl (ap is_skipped told)
    step-exactly (command.Create node name options attributes steps) old answer new h =
        created-exactly types steps (factory_of node name options) options attributes old answer new h
    step-exactly (command.Open node name options required steps) old answer new h =
        negotiated-exactly (Opens types (factory_of node name options).pattern steps (Own node) (verdict types options required))
        (open_refusal options) (λ is_new. unopened.OutOfMemory) (factory_of node name options) old answer new h
    step-exactly (command.OpenOrCreate node name options required steps) old answer new h =
        negotiated-exactly (OpensOrCreates types (factory_of node name options).pattern steps (Own node) (verdict types options required)
        (record { settings = settings_of types options; attributes = required.pairs }))
        (either_refusal options) either_lacking (factory_of node name options) old answer new h
    step-exactly (command.Foreign pattern name steps) old answer new (inl (told, came)) =
        does-so true answer old new refl (ap is_skipped told)
    step-exactly (command.Foreign pattern name steps) old answer new (inr (done, few, (told, came))) =
        does-so true answer old new refl (ap is_skipped told)
    step-exactly (command.Close factory) old answer new h = closed-exactly factory old answer new h
    step-exactly (command.Publisher factory options) old answer new h =
        at-factory-exactly factory
        (λ (service : Service T). PublisherArrives (old.made.publishers + 1) (new_publisher factory options service.settings) service)
        (command.Publisher factory options) old answer new (λ service. refl) (λ service. refl)
        (λ service after did. publisher-tells (old.made.publishers + 1) (new_publisher factory options service.settings) service answer
        after did) h
    step-exactly (command.Subscriber factory options) old answer new h =
        at-factory-exactly factory
        (λ (service : Service T). SubscriberArrives buffer (old.made.subscribers + 1)
        (new_subscriber factory options service.settings) service)
        (command.Subscriber factory options) old answer new (λ service. refl) (λ service. refl)
        (λ service after did. subscriber-tells buffer (old.made.subscribers + 1) (new_subscriber factory options service.settings)
        service answer after did) h
    step-exactly (command.Loan publisher count) old answer new (value, is, h) =
        at-free-exactly publisher (LendsLoan (old.made.loans + 1) publisher count (Some value)) old answer new
        (λ one service after did. lends-tells (old.made.loans + 1) publisher count (Some value) one service answer after did) h
    step-exactly (command.LoanUninit publisher count) old answer new h =
        at-free-exactly publisher (LendsLoan (old.made.loans + 1) publisher count None) old answer new
        (λ one service after did. lends-tells (old.made.loans + 1) publisher count None one service answer after did) h
    step-exactly (command.Set loan place value) old answer new h =
        at-one-exactly (λ (service : Service T). at loan service.loans)
        (λ (one : Loan T). Writes loan one (is_written one && nat_lt place (length one.values)) (set one.values place (Some value)))
        old answer new (λ (service : Service T). is_some (at loan service.loans)) (is_ready_for (command.Set loan place value))
        (λ service. refl)
        (λ one service after found did.
        at-loan (λ (it : Loan T). is_written it && nat_lt place (length it.values)) loan one service answer after found
        (writes-exactly loan one (is_written one && nat_lt place (length one.values)) (set one.values place (Some value)) service answer
        after did)) h
    step-exactly (command.Fill loan values) old answer new h =
        at-one-exactly (λ (service : Service T). at loan service.loans)
        (λ (one : Loan T). Writes loan one (length values == length one.values) (map Some values)) old answer new
        (λ (service : Service T). is_some (at loan service.loans)) (is_ready_for (command.Fill loan values)) (λ service. refl)
        (λ one service after found did. at-loan (λ (it : Loan T). length values == length it.values) loan one service answer after found
        (writes-exactly loan one (length values == length one.values) (map Some values) service answer after did)) h
    step-exactly (command.Drop loan) old answer new h =
        at-one-exactly (λ (service : Service T). at loan service.loans)
        (λ (one : Loan T) (service : Service T) (answered : Reply T) (after : Service T). (answered ≡ reply.Done)
        × (after ≡ record service { loans = removed loan service.loans })) old answer new
        (λ (service : Service T). is_some (at loan service.loans)) (λ (service : Service T). true) (λ service. refl)
        (λ one service after found did. does-so true answer service after refl (ap is_skipped did.0)) h
    step-exactly (command.Send loan) old answer new h =
        at-one-exactly (λ (service : Service T). at loan service.loans) (SendsLoan choices loan) old answer new
        (λ (service : Service T). is_some (at loan service.loans)) (is_ready_for (command.Send loan)) (λ service. refl)
        (λ one service after found did.
        at-loan (λ (it : Loan T). is_written it && sends_freely it.publisher service) loan one service answer after found
        (sends-loan-exactly loan one service answer after did)) h
    step-exactly (command.Put publisher values) old answer new h =
        at-free-exactly publisher (Puts choices publisher values) old answer new
        (λ one service after did. puts-tells choices publisher values one service answer after did) h
    step-exactly (command.Retry publisher nanoseconds) old answer new h =
        at-blocked-exactly publisher
        (λ (one : Publisher T) (send : Send T). GoesOn choices publisher one
        (record send { retries = send.retries + 1; elapsed = nanoseconds })) old answer new
        (λ one send service after did. goes-on-tells choices publisher one
        (record send { retries = send.retries + 1; elapsed = nanoseconds }) service answer after did) h
    step-exactly (command.GiveUp publisher) old answer new h =
        at-blocked-exactly publisher
        (λ (one : Publisher T) (send : Send T) (service : Service T) (answered : Reply T) (after : Service T).
        (answered ≡ reply.Delivered send.delivered)
        × (after ≡ with_publisher publisher (record one { blocked = None }) service)) old answer new
        (λ one send service after did. ap is_skipped did.0) h
    step-exactly (command.Receive subscriber) old answer new h =
        at-one-exactly (subscriber_in subscriber)
        (subscribing.UpdatesFirst choices buffer subscriber (λ failure. refusal.Receive (receive_error.ConnectionFailure failure))
        (Receives subscriber (old.made.samples + 1))) old answer new (λ (service : Service T). is_some (subscriber_in subscriber service))
        (λ (service : Service T). true) (λ service. refl)
        (λ one service after found did. does-so true answer service after refl (attends-tells subscriber
        (λ failure. refusal.Receive (receive_error.ConnectionFailure failure)) (Receives subscriber (old.made.samples + 1)) one service
        answer after found (λ next mid took. receives-tells subscriber (old.made.samples + 1) next mid answer after took) did)) h
    step-exactly (command.Read sample) old answer new h =
        at-one-exactly (λ (service : Service T). at sample service.samples)
        (λ (one : Sample T) (service : Service T) (answered : Reply T) (after : Service T). (values : Vec T)
        × (vec_items values ≡ one.message.values) × (answered ≡ reply.Values values) × (after ≡ service)) old answer new
        (λ (service : Service T). is_some (at sample service.samples)) (λ (service : Service T). true) (λ service. refl)
        (λ one service after found did. does-so true answer service after refl (ap is_skipped did.2)) h
    step-exactly (command.Sequence sample) old answer new h =
        at-one-exactly (λ (service : Service T). at sample service.samples)
        (λ (one : Sample T) (service : Service T) (answered : Reply T) (after : Service T).
        (answered ≡ reply.Sequence one.message.sequence) × (after ≡ service)) old answer new
        (λ (service : Service T). is_some (at sample service.samples)) (λ (service : Service T). true) (λ service. refl)
        (λ one service after found did. does-so true answer service after refl (ap is_skipped did.0)) h
    step-exactly (command.Release sample) old answer new h =
        at-one-exactly (λ (service : Service T). at sample service.samples) (Releases sample) old answer new
        (λ (service : Service T). is_some (at sample service.samples)) (λ (service : Service T). true) (λ service. refl)
        (λ one service after found did. does-so true answer service after refl (ap is_skipped did.0)) h
    step-exactly (command.Update (port.Publisher number)) old answer new h =
        at-free-exactly number
        (publishing.UpdatesFirst choices number refusal.Connection
        (λ (one : Publisher T) (service : Service T) (answered : Reply T) (after : Service T). (answered ≡ reply.Done) × (after ≡ service)))
        old answer new
        (λ one service after did. by-updates choices (Tells answer) number refusal.Connection
        (λ (it : Publisher T) (mid : Service T) (answered : Reply T) (end : Service T). (answered ≡ reply.Done) × (end ≡ mid))
        one service answer after (λ it mid on done. ap is_skipped done.0) (λ why mid on refused. refuses why mid answer after refused) did)
        h
    step-exactly (command.Update (port.Subscriber number)) old answer new h =
        at-one-exactly (subscriber_in number)
        (subscribing.UpdatesFirst choices buffer number refusal.Connection
        (λ (one : Subscriber) (service : Service T) (answered : Reply T) (after : Service T). (answered ≡ reply.Done) × (after ≡ service)))
        old answer new (λ (service : Service T). is_some (subscriber_in number service)) (λ (service : Service T). true) (λ service. refl)
        (λ one service after found did. does-so true answer service after refl (attends-tells number refusal.Connection
        (λ (it : Subscriber) (mid : Service T) (answered : Reply T) (end : Service T). (answered ≡ reply.Done) × (end ≡ mid)) one service
        answer after found (λ it mid done. ap is_skipped done.0) did)) h
    step-exactly (command.Leave (port.Publisher number)) old answer new h =
        at-free-exactly number
        (λ (one : Publisher T) (service : Service T) (answered : Reply T) (after : Service T). (answered ≡ reply.Done)
        × (after ≡ with_publisher number (record one { stands = false })
        (record service { publisher_list = left number service.publisher_list }))) old answer new
        (λ one service after did. ap is_skipped did.0) h
    step-exactly (command.Leave (port.Subscriber number)) old answer new h =
        at-one-exactly (subscriber_in number)
        (λ (one : Subscriber) (service : Service T) (answered : Reply T) (after : Service T). (answered ≡ reply.Done)
        × (after ≡ with_subscriber number (record one { stands = false })
        (record service { subscriber_list = left number service.subscriber_list }))) old answer new
        (λ (service : Service T). is_some (subscriber_in number service)) (λ (service : Service T). true) (λ service. refl)
        (λ one service after found did. does-so true answer service after refl (ap is_skipped did.0)) h
    step-exactly (command.Has subscriber) old answer new h =
        at-one-exactly (subscriber_in subscriber)
        (subscribing.UpdatesFirst choices buffer subscriber refusal.Connection
        (λ (one : Subscriber) (service : Service T) (answered : Reply T) (after : Service T).
        (answered ≡ reply.Has (has_samples subscriber one service)) × (after ≡ service))) old answer new
        (λ (service : Service T). is_some (subscriber_in subscriber service)) (λ (service : Service T). true) (λ service. refl)
        (λ one service after found did. does-so true answer service after refl (attends-tells subscriber refusal.Connection
        (λ (it : Subscriber) (mid : Service T) (answered : Reply T) (end : Service T).
        (answered ≡ reply.Has (has_samples subscriber it mid)) × (end ≡ mid)) one service answer after found
        (λ it mid done. ap is_skipped done.0) did)) h

pub skipped-if-unready : {T : Type 0} (choices : Choices T) → SkippedIfUnready choices
skipped-if-unready choices types buffer asked old answer new h = (step-exactly types choices buffer asked old answer new h).0

pub skipped-changes-nothing : {T : Type 0} (choices : Choices T) → SkippedChangesNothing choices
skipped-changes-nothing choices types buffer asked old new h = (step-exactly types choices buffer asked old reply.Skipped new h).1 refl

-- What the machine's service is where a port comes.
use Rattle.std.proofs.Common.{◌≡◌, ◌≢◌, ◌⊎◌, ℕ, Bool, true, cond, List, [], ◌∷◌, ◌++◌, Option, None, Some, sym, ap, subst, inl, inr, ◌∙◌}
use Rattle.std.specs.List.{list_all}
use Rattle.std.specs.Option.{option_or}
use Rattle.std.specs.Prelude.{◌^◌, ◌||◌, filter, is_some, nat_le, nat_lt, not, slice_get, MatchBool}
use Rattle.iox_command.specs.DomainValues.declared.create_error.PublisherCreateError.TheVariants as publisher_error
use Rattle.iox_command.specs.DomainValues.declared.create_error.SubscriberCreateError.TheVariants as subscriber_error
use Rattle.iox_command.specs.DomainValues.declared.degradation.DegradationAction.{DegradationAction}
use Rattle.iox_command.specs.NegotiateBase.DescribeBase.declared.message_type.MessageTypeDetails.{MessageTypeDetails}
use Rattle.iox_command.specs.declared.refusal.Refusal.{Refusal}
use Rattle.iox_command.specs.declared.refusal.Refusal.TheVariants as refusal
use Rattle.iox_command.specs.declared.reply.Reply.{Reply}
use Rattle.iox_command.specs.declared.reply.Reply.TheVariants as reply
use Rattle.iox_domain_machine.specs.Laws.{with_alone}
use Rattle.iox_domain_machine.proofs.AloneDid.{alone_did, by_bool, by_option}
use Rattle.iox_domain_machine.proofs.ComesTables.{at_end_other}
use Rattle.iox_domain_machine.proofs.Found.{at_changed, at_changed_other, never_some, same_some}
use Rattle.iox_domain_machine.proofs.FollowMachine.{all_welcomed}
use Rattle.iox_domain_machine.proofs.TableEnds.{at_end}
use Rattle.iox_domain_machine.proofs.UpdateMachine.{connects, only_boxes}
use Rattle.iox_hub_machine.specs.Ports.{among}
use Rattle.iox_machine.specs.Choices.{Choices}
use Rattle.iox_machine.specs.Arriving.{PublisherArrives, SubscriberArrives, worst_case}
use Rattle.iox_machine.specs.PortList.{those}
use Rattle.iox_machine.specs.PublisherUpdate as publishing
use Rattle.iox_machine.specs.PublisherUpdate.{ended}
use Rattle.iox_machine.specs.Run.{AtFactory}
use Rattle.iox_machine.specs.Service.{Publisher, Service, Subscriber}
use Rattle.iox_machine.proofs.Shorthands.{with_publisher, with_subscriber, registered, IsSkipped, IsRefused}
use Rattle.iox_machine.specs.State.{Factory, State, AtOne, counted, is_service_of}
use Rattle.iox_machine.specs.SubscriberUpdate as subscribing
use Rattle.iox_machine.specs.Table.{at, changed, contains}

-- ---- at the service of a factory

module _ {T : Type 0} (types : MessageTypeDetails) (choices : Choices T) (buffer number : ℕ)
    (Does : Service T → Reply T → Service T → Type 0) (state : State T) (made : Factory) (service after : Service T) (answer : Reply T)
    (there : at number state.factories ≡ Some made) (its : is_service_of made service ≡ true) where
  abbrev state_then : State T
  state_then = record (with_alone after state) { made = counted answer state.made }

  abbrev found : Factory → Service T → Option (Service T)
  found factory one = cond (is_service_of factory one) (Some one) None

  -- what a command does at a factory's service it does at the one that there is
  pub at_factory_did : AtFactory types choices buffer number Does (with_alone service state) answer state_then
      → Does service answer after
  at_factory_did did = elim (by_option (at number state.factories) (IsSkipped (with_alone service state) answer state_then)
      (λ factory. AtOne (found factory) (λ one. Does) (with_alone service state) answer state_then) did) [
        | inl none ↦ never_some made (sym none.0 ∙ there)
        | inr one ↦ here one.0 (same_some one.0 made (sym one.1 ∙ there)) one.2
      ]
    where
      here : (factory : Factory) → factory ≡ made → AtOne (found factory) (λ one. Does) (with_alone service state) answer state_then
          → Does service answer after
      here factory same at_one = elim (alone_did (found made) (λ one. Does) state service after answer
          (subst (λ (it : Factory). AtOne (found it) (λ one. Does) (with_alone service state) answer state_then) same at_one)) [
            | inl does ↦ does.2
            | inr none ↦ never_some service (sym none.0 ∙ ap (λ (b : Bool). cond b (Some service) None) its)
          ]

-- ---- a subscriber

-- A subscriber came in a service, with this to do where a connection fails. All else that it tells others is as it was.
pub record SubscriberIsNew {T : Type 0} (number : ℕ) (degradation : DegradationAction) (old new : Service T) : Type 0 where
  pub name : new.name ≡ old.name
  pub settings : new.settings ≡ old.settings
  pub publishers : new.publishers ≡ old.publishers
  pub others : (other : ℕ) → other ≢ number → at other new.subscribers ≡ at other old.subscribers
  pub one : Subscriber
  pub there : at number new.subscribers ≡ Some one
  pub up : one.stands ≡ true
  pub acts : one.degradation ≡ degradation

module _ {T : Type 0} (buffer number : ℕ) (one : Subscriber) (old new : Service T) (answer : Reply T) where
  abbrev begun : Service T
  begun = record old { subscribers = old.subscribers ++ (number, one) ∷ [] }

  abbrev Registers : Type 0
  Registers =
      (place : ℕ) × (slice_get old.subscriber_list.places place ≡ Some None) × (after : Subscriber) × (mid : Service T)
      × subscribing.Follows buffer number one begun after mid × (answer ≡ reply.SubscriberMade number)
      × (new ≡ record mid { subscriber_list = registered place number mid.subscriber_list })

  abbrev IsRefusedSomehow : Type 0
  IsRefusedSomehow = (why : Refusal) × IsRefused why old answer new

  abbrev IsLacking : Type 0
  IsLacking = IsRefused (refusal.Subscriber subscriber_error.OutOfMemory) old answer new

  abbrev IsTooMany : Type 0
  IsTooMany = IsRefused (refusal.Subscriber subscriber_error.ExceedsMaxSupportedSubscribers) old answer new

  -- a subscriber that comes is refused, or follows and registers
  subscriber_arrived : SubscriberArrives buffer number one old answer new → IsRefusedSomehow ⊎ Registers
  subscriber_arrived arrives = elim (by_bool (nat_lt old.settings.subscriber_max_buffer_size one.buffer_size)
      (IsRefused (refusal.Subscriber subscriber_error.BufferSizeExceedsMaxSupportedBufferSizeOfService) old answer new)
      (MatchBool (list_all is_some old.subscriber_list.places) IsTooMany (IsLacking ⊎ Registers)) arrives) [
        | inl long ↦ inl (refusal.Subscriber subscriber_error.BufferSizeExceedsMaxSupportedBufferSizeOfService, long.1)
        | inr fits ↦ elim (by_bool (list_all is_some old.subscriber_list.places) IsTooMany (IsLacking ⊎ Registers) fits.1) [
          | inl full ↦ inl (refusal.Subscriber subscriber_error.ExceedsMaxSupportedSubscribers, full.1)
          | inr free ↦ elim free.1 [
            | inl lacking ↦ inl (refusal.Subscriber subscriber_error.OutOfMemory, lacking)
            | inr comes ↦ inr comes
          ]
        ]
      ]

module _ {T : Type 0} (buffer number : ℕ) (one : Subscriber) (old new : Service T) where
  came_by : (told : ℕ) → at number old.subscribers ≡ None → one.stands ≡ true
      → Registers buffer number one old new (reply.SubscriberMade told) → SubscriberIsNew number one.degradation old new
  came_by told fresh stands (place, free, after, mid, (refused, allowed, connected, places, is, came), same, registers) =
      let mid_is : mid ≡ record (with_subscriber number after (begun buffer number one old new (reply.SubscriberMade told))) {
        mailboxes = (connects one.buffer_size number
            (with_subscriber number after (begun buffer number one old new (reply.SubscriberMade told))) (those connected)).mailboxes;
      } = came
      ∙ only_boxes one.buffer_size number (those connected)
      (with_subscriber number after (begun buffer number one old new (reply.SubscriberMade told))) in
      let subscribers : new.subscribers ≡ changed number after (old.subscribers ++ (number, one) ∷ []) =
      ap (λ (it : Service T). it.subscribers) registers ∙ ap (λ (it : Service T). it.subscribers) mid_is in
      record {
        name = ap (λ (it : Service T). it.name) registers ∙ ap (λ (it : Service T). it.name) mid_is;
        settings = ap (λ (it : Service T). it.settings) registers ∙ ap (λ (it : Service T). it.settings) mid_is;
        publishers = ap (λ (it : Service T). it.publishers) registers ∙ ap (λ (it : Service T). it.publishers) mid_is;
        others = λ other off. ap (at other) subscribers
            ∙ at_changed_other number other after (old.subscribers ++ (number, one) ∷ []) off
            ∙ at_end_other number one other old.subscribers off;
        one = after;
        there = ap (at number) subscribers
            ∙ at_changed number after one (old.subscribers ++ (number, one) ∷ []) (at_end number one old.subscribers fresh);
        up = ap (λ (it : Subscriber). it.stands) is ∙ stands;
        acts = ap (λ (it : Subscriber). it.degradation) is;
      }

  pub subscriber_came : (told : ℕ) → at number old.subscribers ≡ None → one.stands ≡ true
      → SubscriberArrives buffer number one old (reply.SubscriberMade told) new → SubscriberIsNew number one.degradation old new
  subscriber_came told fresh stands arrives =
      elim (subscriber_arrived buffer number one old new (reply.SubscriberMade told) arrives) [
        | inl refused ↦ absurd (differ refused.0 refused.1.0)
        | inr comes ↦ came_by told fresh stands comes
      ]
    where
      differ : (why : Refusal) → ◌≡◌ {A = Reply T} (reply.SubscriberMade told) (reply.Refused why) → ⊥
      differ why e = cc

  -- where it is refused nothing changes
  pub subscriber_refused : (why : Refusal) → SubscriberArrives buffer number one old (reply.Refused why) new → new ≡ old
  subscriber_refused why arrives = elim (subscriber_arrived buffer number one old new (reply.Refused why) arrives) [
    | inl refused ↦ refused.1.1
    | inr comes ↦ absurd (differ comes.5)
  ]
    where
      differ : ◌≡◌ {A = Reply T} (reply.Refused why) (reply.SubscriberMade number) → ⊥
      differ e = cc

-- ---- a publisher

-- A publisher came in a service, which decides as one that is given. All else that it tells others is as it was.
pub record PublisherIsNew {T : Type 0} (number : ℕ) (given : Publisher T) (old new : Service T) : Type 0 where
  pub name : new.name ≡ old.name
  pub settings : new.settings ≡ old.settings
  pub subscribers : new.subscribers ≡ old.subscribers
  pub others : (other : ℕ) → other ≢ number → at other new.publishers ≡ at other old.publishers
  pub one : Publisher T
  pub there : at number new.publishers ≡ Some one
  pub up : one.stands ≡ true
  pub strategy : one.strategy ≡ given.strategy
  pub handler : one.handler ≡ given.handler
  pub acts : one.degradation ≡ given.degradation

module _ {T : Type 0} (number : ℕ) (one : Publisher T) (old new : Service T) (answer : Reply T) where
  abbrev begins : Service T
  begins = record old { publishers = old.publishers ++ (number, one) ∷ [] }

  abbrev Registered : Type 0
  Registered =
      (place : ℕ) × (slice_get old.publisher_list.places place ≡ Some None) × (after : Publisher T) × (mid : Service T)
      × publishing.Follows number one begins after mid × (answer ≡ reply.PublisherMade number)
      × (new ≡ record mid { publisher_list = registered place number mid.publisher_list })

  abbrev IsRefusedSo : Type 0
  IsRefusedSo = (why : Refusal) × IsRefused why old answer new

  abbrev LacksSegment : Type 0
  LacksSegment = IsRefused (refusal.Publisher publisher_error.UnableToCreateDataSegment) old answer new

  abbrev ExceedsPublishers : Type 0
  ExceedsPublishers = IsRefused (refusal.Publisher publisher_error.ExceedsMaxSupportedPublishers) old answer new

  abbrev is_too_big : Bool
  is_too_big = nat_le (2 ^ 32) (worst_case old.settings one.max_loaned_samples) || nat_le (2 ^ 32) one.room

  -- a publisher that comes is refused, or follows and registers
  publisher_arrived : PublisherArrives number one old answer new → IsRefusedSo ⊎ Registered
  publisher_arrived arrives = elim (by_bool is_too_big LacksSegment
      (MatchBool (list_all is_some old.publisher_list.places) ExceedsPublishers (LacksSegment ⊎ Registered)) arrives) [
        | inl big ↦ inl (refusal.Publisher publisher_error.UnableToCreateDataSegment, big.1)
        | inr fits ↦ elim (by_bool (list_all is_some old.publisher_list.places) ExceedsPublishers (LacksSegment ⊎ Registered) fits.1) [
          | inl full ↦ inl (refusal.Publisher publisher_error.ExceedsMaxSupportedPublishers, full.1)
          | inr free ↦ elim free.1 [
            | inl lacking ↦ inl (refusal.Publisher publisher_error.UnableToCreateDataSegment, lacking)
            | inr comes ↦ inr comes
          ]
        ]
      ]

module _ {T : Type 0} (number : ℕ) (one : Publisher T) (old new : Service T) where
  begun_by : (told : ℕ) → at number old.publishers ≡ None → one.stands ≡ true
      → Registered number one old new (reply.PublisherMade told) → PublisherIsNew number one old new
  begun_by told fresh stands (place, free, after, mid, (refused, allowed, is, came), same, registers) =
      let start = begins number one old new (reply.PublisherMade told) in
      let news : List ℕ = filter (λ (subscriber : ℕ). not (contains (those one.connected) subscriber)) (those after.connected) in
      let mid_is = came ∙ all_welcomed number one.history news (with_publisher number after (ended number start)) in
      let publishers : new.publishers ≡ changed number after (old.publishers ++ (number, one) ∷ []) =
      ap (λ (it : Service T). it.publishers) registers ∙ ap (λ (it : Service T). it.publishers) mid_is in
      record {
        name = ap (λ (it : Service T). it.name) registers ∙ ap (λ (it : Service T). it.name) mid_is;
        settings = ap (λ (it : Service T). it.settings) registers ∙ ap (λ (it : Service T). it.settings) mid_is;
        subscribers = ap (λ (it : Service T). it.subscribers) registers ∙ ap (λ (it : Service T). it.subscribers) mid_is;
        others = λ other off. ap (at other) publishers
            ∙ at_changed_other number other after (old.publishers ++ (number, one) ∷ []) off
            ∙ at_end_other number one other old.publishers off;
        one = after;
        there = ap (at number) publishers
            ∙ at_changed number after one (old.publishers ++ (number, one) ∷ []) (at_end number one old.publishers fresh);
        up = ap (λ (it : Publisher T). it.stands) is ∙ stands;
        strategy = ap (λ (it : Publisher T). it.strategy) is;
        handler = ap (λ (it : Publisher T). it.handler) is;
        acts = ap (λ (it : Publisher T). it.degradation) is;
      }

  pub publisher_came : (told : ℕ) → at number old.publishers ≡ None → one.stands ≡ true
      → PublisherArrives number one old (reply.PublisherMade told) new → PublisherIsNew number one old new
  publisher_came told fresh stands arrives =
      elim (publisher_arrived number one old new (reply.PublisherMade told) arrives) [
        | inl refused ↦ absurd (differ refused.0 refused.1.0)
        | inr comes ↦ begun_by told fresh stands comes
      ]
    where
      differ : (why : Refusal) → ◌≡◌ {A = Reply T} (reply.PublisherMade told) (reply.Refused why) → ⊥
      differ why e = cc

  -- where it is refused nothing changes
  pub publisher_refused : (why : Refusal) → PublisherArrives number one old (reply.Refused why) new → new ≡ old
  publisher_refused why arrives = elim (publisher_arrived number one old new (reply.Refused why) arrives) [
    | inl refused ↦ refused.1.1
    | inr comes ↦ absurd (differ comes.5)
  ]
    where
      differ : ◌≡◌ {A = Reply T} (reply.Refused why) (reply.PublisherMade number) → ⊥
      differ e = cc

-- ---- what goes by a number among services

module _ {T V : Type 0} (table : Service T → List (ℕ × V)) (number : ℕ) where
  -- one service has what another has in its place
  pub among_alike : (first : List (Service T)) (one other : Service T) (last : List (Service T))
      → at number (table one) ≡ at number (table other) → among table number (first ++ one ∷ last)
      ≡ among table number (first ++ other ∷ last)
  among_alike [] one other last same = ap (λ (found : Option V). option_or found (among table number last)) same
  among_alike (service ∷ first) one other last same =
      ap (option_or (at number (table service))) (among_alike first one other last same)

  first_by : (found rest later : Option V) (v : V) → option_or found rest ≡ None → (rest ≡ None → later ≡ Some v)
      → option_or found later ≡ Some v
  first_by None rest later v none so = so none
  first_by (Some other) rest later v none so = never_some other (sym none)

  -- what none of the first has one has
  pub among_first : (first : List (Service T)) (one : Service T) (last : List (Service T)) (v : V) → among table number first ≡ None
      → at number (table one) ≡ Some v → among table number (first ++ one ∷ last) ≡ Some v
  among_first [] one last v none is = ap (λ (found : Option V). option_or found (among table number last)) is
  among_first (service ∷ first) one last v none is =
      first_by (at number (table service)) (among table number first) (among table number (first ++ one ∷ last)) v none
      (λ rest. among_first first one last v rest is)

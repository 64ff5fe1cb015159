-- A machine that knows of one service alone does what the machine does there.
use Rattle.std.proofs.Common.{◌≡◌, ◌⊎◌, ◌+◌, ℕ, Bool, true, false, cond, not, ◌&&◌, List, [], ◌∷◌, length, map, set, take, Option, None}
use Rattle.std.proofs.Common.{Some, Result, Ok, Err, refl, sym, ap, subst, inl, inr, ◌∙◌, true≢false}
use Rattle.std.specs.Global.{Vec}
use Rattle.std.specs.List.{list_any}
use Rattle.std.specs.Option.{option_map_or}
use Rattle.std.specs.Prelude.{◌==◌, nat_lt, nat_le, is_some, find, filter, fold, MatchBool, MatchOption, MatchResult, bytes_eq}
use Rattle.std.specs.Vec.{vec_items}
use Rattle.iox_machine.proofs.Shorthands.{factory_of, left, with_subscriber, with_publisher, closed_by, IsRefused, IsSkipped}
use Rattle.iox_machine.proofs.Shorthands.{either_lacking, Opens, OpensOrCreates, AtFree, AtBlocked}
use Rattle.iox_machine.specs.Choices.{Choices}
use Rattle.iox_machine.specs.AgreementLaws.{agreed_in}
use Rattle.iox_machine.specs.Agreement.{Agreement, unfit, verdict}
use Rattle.iox_machine.specs.Arriving.{PublisherArrives, SubscriberArrives, new_publisher, new_subscriber}
use Rattle.iox_machine.specs.Closing.{Closes, is_used_by}
use Rattle.iox_machine.specs.Asked.{settings_of}
use Rattle.iox_machine.specs.Factories.{Acts, CreatesService, OpensService, OpensOrCreatesService, Negotiates, Enters}
use Rattle.iox_machine.specs.IndependenceLaws.{is_factory_of, is_of, is_first, asks, concerns, IsLeft, IsAlone, ServicesAreAsIfAlone}
use Rattle.iox_machine.specs.Message.{Loan, Sample}
use Rattle.iox_machine.specs.RunLaws.{is_written}
use Rattle.iox_machine.specs.Negotiation.{Call, Answer, Creates}
use Rattle.iox_machine.specs.Phase.{Own, Phase, Absent, same_pattern, acted}
use Rattle.iox_machine.specs.Ports.{publisher_in, subscriber_in, LendsLoan, Puts, SendsLoan, Writes, Releases}
use Rattle.iox_machine.specs.PublisherUpdate as publishing
use Rattle.iox_machine.specs.Receiving.{Receives, has_samples}
use Rattle.iox_machine.specs.Run.{Step, Runs, AtFactory}
use Rattle.iox_machine.specs.Sending.{GoesOn}
use Rattle.iox_machine.specs.Service.{Service, Publisher, Subscriber, Send}
use Rattle.iox_machine.specs.Refusals.{open_refusal, either_refusal, create_refusal}
use Rattle.iox_machine.specs.State.{State, Factory, AtOne, new_state, with_phase, is_service_of, counted, replaced}
use Rattle.iox_machine.specs.SubscriberUpdate as subscribing
use Rattle.iox_machine.specs.Table.{at, removed}
use Rattle.iox_machine.proofs.Agreed.{step-stands, new-stands}
use Rattle.iox_machine.proofs.Cases.{by-bool, by-option, both-true}
use Rattle.iox_machine.proofs.Kept.{Kept, itself, ends, publisher-turned, updates-first, goes-on, lends-loan, puts, drops, sends-loan}
use Rattle.iox_machine.proofs.Kept.{writes, subscriber-updates, receives, releases, publisher-arrives, subscriber-arrives}
use Rattle.iox_machine.proofs.Kept.{publisher-leaves, subscriber-leaves}
use Rattle.iox_machine.proofs.Left.{step-left}
use Rattle.iox_machine.proofs.Mapped.{over-bool}
use Rattle.iox_machine.proofs.Unfit.{over-fitness}
use Rattle.iox_machine.proofs.Names.{pattern-is, pattern-itself, name-is, name-itself, and-true, phase-there}
use Rattle.iox_machine.proofs.Own.{own_phases, own-at, own-open, into-bool, find-own, find-none, any-own, filter-swap, filter-joined-on}
use Rattle.iox_machine.proofs.Own.{replaced-own}
use Rattle.iox_machine.proofs.Ported.{stays}
use Rattle.iox_machine.proofs.Sound.{find-passes}
use Rattle.iox_machine.proofs.Stands.{Stands}
use Rattle.iox_command.specs.DomainValues.declared.port_error.ReceiveError.TheVariants as receive_error
use Rattle.iox_command.specs.NegotiateBase.DescribeBase.declared.message_type.MessageTypeDetails.{MessageTypeDetails}
use Rattle.iox_command.specs.NegotiateBase.DescribeBase.declared.pattern.MessagingPattern.{MessagingPattern}
use Rattle.iox_command.specs.NegotiateBase.DescribeBase.declared.pattern.MessagingPattern.TheVariants as messaging
use Rattle.iox_command.specs.NegotiateBase.DescribeSettings.Agreement as described
use Rattle.iox_command.specs.NegotiateBase.declared.errors.close.CloseError.TheVariants.{StillInUse}
use Rattle.iox_command.specs.NegotiateBase.DescribeBase.Attributes.{Required}
use Rattle.iox_command.specs.NegotiateBase.DescribeBase.declared.attribute.Attribute.{Attribute}
use Rattle.iox_command.specs.NegotiateBase.declared.failure.CreateFailure.TheVariants as uncreated
use Rattle.iox_command.specs.NegotiateBase.declared.failure.OpenFailure.TheVariants as unopened
use Rattle.iox_command.specs.Patterns.{pattern_of}
use Rattle.iox_command.specs.declared.service.ServiceOptions.{ServiceOptions}
use Rattle.iox_command.specs.declared.step.ForeignStep.{ForeignStep}
use Rattle.iox_command.specs.declared.step.StepBefore.{StepBefore}
use Rattle.iox_command.specs.declared.command.Command.{Command}
use Rattle.iox_command.specs.declared.command.Command.TheVariants as command
use Rattle.iox_command.specs.declared.port.PortNumber.TheVariants as port
use Rattle.iox_command.specs.declared.refusal.HubError.TheVariants.{OutOfMemory}
use Rattle.iox_command.specs.declared.refusal.Refusal.{Refusal}
use Rattle.iox_command.specs.declared.refusal.Refusal.TheVariants as refusal
use Rattle.iox_command.specs.declared.reply.Reply.{Reply}
use Rattle.iox_command.specs.declared.reply.Reply.TheVariants as reply

module _ {T : Type 0} (pattern : MessagingPattern) (name : List ℕ) where
  -- what a machine has that knows of one service alone
  abbrev pub own_of : State T → State T
  own_of state = record {
    made = state.made;
    phases = own_phases pattern name state.phases;
    factories = filter (λ (entry : ℕ × Factory). is_factory_of pattern name entry.1) state.factories;
    services = filter (is_of pattern name) state.services;
  }

  pub own-phase : (state : State T) → own_phases pattern name state.phases pattern name ≡ state.phases pattern name
  own-phase state =
      ap (λ (b : Bool). cond b (state.phases pattern name) (Absent 0))
      (and-true (same_pattern pattern pattern) (bytes_eq name name) (pattern-itself pattern) (name-itself name))

  -- another phase of the service
  own-with : (phase : Phase) (state : State T)
      → own_phases pattern name (with_phase pattern name phase state).phases ≡ (with_phase pattern name phase (own_of state)).phases
  own-with phase state = λ i one other. here (same_pattern one pattern && bytes_eq other name) (state.phases one other) i
    where
      here : (b : Bool) (was : Phase) → cond b (cond b phase was) (Absent 0) ≡ cond b phase (cond b was (Absent 0))
      here true was = refl
      here false was = refl

  own-phased : (phase : Phase) (state : State T)
      → own_of (with_phase pattern name phase state) ≡ with_phase pattern name phase (own_of state)
  own-phased phase state =
      ap (λ (phases : MessagingPattern → List ℕ → Phase). record (own_of state) { phases = phases }) (own-with phase state)

  -- where all is left, only numbers were given
  pub own-left : (old new : State T) → IsLeft pattern name old new → own_of new ≡ record (own_of old) { made = new.made }
  own-left old new (phase, factories, services) =
      λ i. record {
        made = new.made;
        phases = λ one other. here one other (same_pattern one pattern && bytes_eq other name) refl i;
        factories = factories i;
        services = services i;
      }
    where
      here : (one : MessagingPattern) (other : List ℕ) (b : Bool) → (same_pattern one pattern && bytes_eq other name) ≡ b
          → cond b (new.phases one other) (Absent 0) ≡ cond b (old.phases one other) (Absent 0)
      here one other true is =
          subst (λ (p : MessagingPattern). new.phases p other ≡ old.phases p other)
          (sym (pattern-is one pattern (both-true (same_pattern one pattern) (bytes_eq other name) is).0))
          (subst (λ (n : List ℕ). new.phases pattern n ≡ old.phases pattern n)
          (sym (name-is other name (both-true (same_pattern one pattern) (bytes_eq other name) is).1)) phase)
      here one other false is = refl

  refused-own : (why : Refusal) (old : State T) (answer : Reply T) (new : State T) → IsRefused why old answer new
      → IsRefused why (own_of old) answer (own_of new)
  refused-own why old answer new (told, same) = (told, ap own_of same)

  skipped-own : (old : State T) (answer : Reply T) (new : State T) → IsSkipped old answer new → IsSkipped (own_of old) answer (own_of new)
  skipped-own old answer new (told, same) = (told, ap own_of same)

  -- ---- ports

  own-one : {V : Type 0} (found : Service T → Option V) (Does : V → Service T → Reply T → Service T → Type 0) (old : State T)
      (answer : Reply T) (new : State T)
      → ((service : Service T) → find (λ (other : Service T). is_some (found other)) old.services ≡ Some service
      → is_of pattern name service ≡ true)
      → ((one : V) (service after : Service T) → Does one service answer after → Kept old.made service answer after)
      → AtOne found Does old answer new → AtOne found Does (own_of old) answer (own_of new)
  own-one {V} found Does old answer new on kept h =
      elim (by-option (find (λ (other : Service T). is_some (found other)) old.services) (IsSkipped old answer new)
      (λ service. (after : Service T) × MatchOption (found service) ⊥ (λ one. Does one service answer after) × (new ≡ record old {
        made = counted answer old.made;
        services = replaced (λ (other : Service T). is_some (found other)) after old.services;
      })) h) [
        | inl w ↦ found_or (sym (find-none (is_of pattern name) (λ (other : Service T). is_some (found other)) old.services w.0))
            (skipped-own old answer new w.1)
        | inr w ↦ does w.0 w.1 w.2.0 w.2.1 w.2.2
      ]
    where
      found_or : {o p : Option (Service T)} → o ≡ p
          → MatchOption o (IsSkipped (own_of old) answer (own_of new))
          (λ it. (end : Service T) × MatchOption (found it) ⊥ (λ one. Does one it answer end)
          × (own_of new ≡ record (own_of old) {
            made = counted answer old.made;
            services = replaced (λ (other : Service T). is_some (found other)) end (filter (is_of pattern name) old.services);
          }))
          → MatchOption p (IsSkipped (own_of old) answer (own_of new))
          (λ it. (end : Service T) × MatchOption (found it) ⊥ (λ one. Does one it answer end)
          × (own_of new ≡ record (own_of old) {
            made = counted answer old.made;
            services = replaced (λ (other : Service T). is_some (found other)) end (filter (is_of pattern name) old.services);
          }))
      found_or same it = subst (λ (o : Option (Service T)). MatchOption o (IsSkipped (own_of old) answer (own_of new))
          (λ it. (end : Service T) × MatchOption (found it) ⊥ (λ one. Does one it answer end)
          × (own_of new ≡ record (own_of old) {
            made = counted answer old.made;
            services = replaced (λ (other : Service T). is_some (found other)) end (filter (is_of pattern name) old.services);
          }))) same it

      does : (service : Service T) → find (λ (other : Service T). is_some (found other)) old.services ≡ Some service → (after : Service T)
          → MatchOption (found service) ⊥ (λ one. Does one service answer after)
          → new ≡ record old {
            made = counted answer old.made;
            services = replaced (λ (other : Service T). is_some (found other)) after old.services;
          }
          → AtOne found Does (own_of old) answer (own_of new)
      does service first after did came =
          found_or
          (sym (find-own (is_of pattern name) (λ (other : Service T). is_some (found other)) service
          (on service first) old.services first)) (
            after,
            did,
            ap own_of came
                ∙ ap (λ (list : List (Service T)). record (own_of old) { made = counted answer old.made; services = list })
                (replaced-own (λ (n : List ℕ). same_pattern pattern messaging.PublishSubscribe && bytes_eq n name)
                (λ (other : Service T). is_some (found other)) service after old.services
                (elim (by-option (found service) ⊥ (λ one. Does one service answer after) did) [
                  | inl v ↦ absurd v.1
                  | inr v ↦ (kept v.0 service after v.2).name
                ]) (on service first) first),
          )

  -- the first service that has something is the service, where that is asked
  by-asked : (has : Service T → Bool) (old : State T) → is_first pattern name has old ≡ true
      → (service : Service T) → find has old.services ≡ Some service → is_of pattern name service ≡ true
  by-asked has old on service first = sym (ap (λ (o : Option (Service T)). option_map_or (is_of pattern name) o false) first) ∙ on

  own-free : (number : ℕ) (Does : Publisher T → Service T → Reply T → Service T → Type 0) (old : State T) (answer : Reply T) (new : State T)
      → is_first pattern name (λ (other : Service T). is_some (publisher_in number other)) old ≡ true
      → ((one : Publisher T) (service after : Service T) → Does one service answer after → Kept old.made service answer after)
      → AtFree number Does old answer new → AtFree number Does (own_of old) answer (own_of new)
  own-free number Does old answer new on kept h =
      own-one (publisher_in number)
      (λ (publisher : Publisher T) (service : Service T) (told : Reply T) (after : Service T). MatchOption publisher.blocked
      (Does publisher service told after) (λ send. IsSkipped service told after)) old answer new
      (by-asked (λ (other : Service T). is_some (publisher_in number other)) old on)
      (λ one service after did. elim
      (by-option one.blocked (Does one service answer after) (λ send. IsSkipped service answer after) did) [
        | inl w ↦ kept one service after w.1
        | inr w ↦ stays old.made service after answer reply.Skipped w.2 tt
      ]) h

  own-blocked : (number : ℕ) (Does : Publisher T → Send T → Service T → Reply T → Service T → Type 0) (old : State T) (answer : Reply T)
      (new : State T)
      → is_first pattern name (λ (other : Service T). is_some (publisher_in number other)) old ≡ true
      → ((one : Publisher T) (send : Send T) (service after : Service T) → Does one send service answer after
      → Kept old.made service answer after)
      → AtBlocked number Does old answer new → AtBlocked number Does (own_of old) answer (own_of new)
  own-blocked number Does old answer new on kept h =
      own-one (publisher_in number)
      (λ (publisher : Publisher T) (service : Service T) (told : Reply T) (after : Service T). MatchOption publisher.blocked
      (IsSkipped service told after) (λ send. Does publisher send service told after)) old answer new
      (by-asked (λ (other : Service T). is_some (publisher_in number other)) old on)
      (λ one service after did. elim
      (by-option one.blocked (IsSkipped service answer after) (λ send. Does one send service answer after) did) [
        | inl w ↦ stays old.made service after answer reply.Skipped w.1 tt
        | inr w ↦ kept one w.0 service after w.2
      ]) h

  -- the service of a factory of the service
  own-service : (factory : Factory) (service : Service T) → is_factory_of pattern name factory ≡ true
      → is_service_of factory service ≡ true → is_of pattern name service ≡ true
  own-service factory service own of =
      and-true (same_pattern pattern messaging.PublishSubscribe) (bytes_eq service.name name)
      (subst (λ (p : MessagingPattern). same_pattern p messaging.PublishSubscribe ≡ true)
      (pattern-is factory.pattern pattern
      (both-true (same_pattern factory.pattern pattern) (bytes_eq factory.name name) own).0)
      (both-true (same_pattern factory.pattern messaging.PublishSubscribe) (bytes_eq service.name factory.name) of).0)
      (subst (λ (n : List ℕ). bytes_eq service.name n ≡ true)
      (name-is factory.name name (both-true (same_pattern factory.pattern pattern) (bytes_eq factory.name name) own).1)
      (both-true (same_pattern factory.pattern messaging.PublishSubscribe) (bytes_eq service.name factory.name) of).1)

  some-of : (b : Bool) (service : Service T) → is_some (cond b (Some service) None) ≡ true → b ≡ true
  some-of true service is = refl
  some-of false service is = is

  own-factory : (types : MessageTypeDetails) (choices : Choices T) (buffer number : ℕ) (Does : Service T → Reply T → Service T → Type 0)
      (old : State T) (answer : Reply T) (new : State T)
      → option_map_or (is_factory_of pattern name) (at number old.factories) false ≡ true
      → ((service after : Service T) → Does service answer after → Kept old.made service answer after)
      → AtFactory types choices buffer number Does old answer new
      → AtFactory types choices buffer number Does (own_of old) answer (own_of new)
  own-factory types choices buffer number Does old answer new on kept h =
      elim (by-option (at number old.factories) (IsSkipped old answer new)
      (λ factory. AtOne (λ (service : Service T). cond (is_service_of factory service) (Some service) None)
      (λ (service : Service T). Does) old answer new) h) [
        | inl w ↦ absurd (true≢false (sym on ∙ ap (λ (o : Option Factory). option_map_or (is_factory_of pattern name) o false) w.0))
        | inr w ↦ there w.0 w.1 w.2
      ]
    where
      there : (factory : Factory) → at number old.factories ≡ Some factory
          → AtOne (λ (service : Service T). cond (is_service_of factory service) (Some service) None)
          (λ (service : Service T). Does) old answer new
          → AtFactory types choices buffer number Does (own_of old) answer (own_of new)
      there factory found did =
          let own : is_factory_of pattern name factory ≡ true =
          sym (ap (λ (o : Option Factory). option_map_or (is_factory_of pattern name) o false) found) ∙ on in
          subst (λ (o : Option Factory). MatchOption o (IsSkipped (own_of old) answer (own_of new))
          (λ it. AtOne (λ (service : Service T). cond (is_service_of it service) (Some service) None) (λ (service : Service T). Does)
          (own_of old) answer (own_of new)))
          (sym (own-at pattern name number factory old.factories own found))
          (own-one (λ (service : Service T). cond (is_service_of factory service) (Some service) None) (λ (service : Service T). Does) old
          answer new
          (λ service first. own-service factory service own
          (some-of (is_service_of factory service) service
          (find-passes (λ (other : Service T). is_some (cond (is_service_of factory other) (Some other) None)) old.services service first)))
          (λ one service after went. kept service after went) did)

  -- ---- a negotiation

  -- What is agreed on once a node is in a service is of its pattern.
  abbrev Patterned : State T → Type 0
  Patterned new =
      (agreed : Agreement) → agreed_in (new.phases pattern name) ≡ Some agreed → described.pattern_of agreed.settings ≡ pattern

  own-entered : (factory : Factory) (phase : Phase) (lacking : Refusal) (old : State T) (answer : Reply T) (new : State T)
      → factory.pattern ≡ pattern → factory.name ≡ name → Patterned new → Enters factory phase lacking old answer new
      → Enters factory phase lacking (own_of old) answer (own_of new)
  own-entered factory phase lacking old answer new is named patterned h =
      subst (λ (f : Factory). Enters f phase lacking old answer new → Enters f phase lacking (own_of old) answer (own_of new))
      (λ i. record { pattern = sym is i; name = sym named i; node = factory.node }) so h
    where
      mine : Factory
      mine = record { pattern = pattern; name = name; node = factory.node }

      so : Enters (record { pattern = pattern; name = name; node = factory.node }) phase lacking old answer new
          → Enters (record { pattern = pattern; name = name; node = factory.node }) phase lacking (own_of old) answer (own_of new)
      so (inl (told, came)) =
          inl (
            told,
            ap own_of came
                ∙ (λ i. record {
                  made = counted answer old.made;
                  phases = own-with phase old i;
                  factories = filter-joined-on (λ (entry : ℕ × Factory). is_factory_of pattern name entry.1) old.factories
                      (old.made.factories + 1, record { pattern = pattern; name = name; node = factory.node })
                      (and-true (same_pattern pattern pattern) (bytes_eq name name) (pattern-itself pattern) (name-itself name)) i;
                  services = own-open pattern name phase old.services
                      (λ agreed told_so. patterned agreed
                      (ap agreed_in (ap (λ (state : State T). state.phases pattern name) came ∙ phase-there pattern name phase old)
                      ∙ told_so)) i;
                }),
          )
      so (inr (told, same)) = inr (told, ap own_of same ∙ own-phased (closed_by factory.node phase) old)

  own-negotiates : {F : Type 0} (Calls : Call → Answer F → Call → Type 0) (told : F → Refusal) (lacking : Bool → F) (factory : Factory)
      (old : State T) (answer : Reply T) (new : State T)
      → factory.pattern ≡ pattern → factory.name ≡ name → Patterned new → Negotiates Calls told lacking factory old answer new
      → Negotiates Calls told lacking factory (own_of old) answer (own_of new)
  own-negotiates {F} Calls told lacking factory old answer new is named patterned h =
      subst (λ (f : Factory). Negotiates Calls told lacking f old answer new
      → Negotiates Calls told lacking f (own_of old) answer (own_of new))
      (λ i. record { pattern = sym is i; name = sym named i; node = factory.node }) so h
    where
      called : IsRefused (told (lacking false)) old answer new
          ⊎ ((found : Result Bool F) × (after : Call) × Calls (record { phase = old.phases pattern name; accesses = 0 }) (Some found) after
          × MatchResult found
          (λ is_new. Enters (record { pattern = pattern; name = name; node = factory.node }) after.phase
          (told (lacking is_new)) old answer new)
          (λ failure. IsRefused (told failure) (with_phase pattern name after.phase old) answer new))
          → IsRefused (told (lacking false)) (own_of old) answer (own_of new)
          ⊎ ((found : Result Bool F) × (after : Call)
          × Calls (record { phase = own_phases pattern name old.phases pattern name; accesses = 0 }) (Some found) after
          × MatchResult found
          (λ is_new. Enters (record { pattern = pattern; name = name; node = factory.node }) after.phase (told (lacking is_new))
          (own_of old)
          answer (own_of new))
          (λ failure. IsRefused (told failure) (with_phase pattern name after.phase (own_of old)) answer (own_of new)))
      called (inl refused) = inl (refused-own (told (lacking false)) old answer new refused)
      called (inr (Ok is_new, after, went, entered)) =
          inr (
            Ok is_new,
            after,
            subst (λ (phase : Phase). Calls (record { phase = phase; accesses = 0 }) (Some (Ok is_new)) after) (sym (own-phase old)) went,
            own-entered (record { pattern = pattern; name = name; node = factory.node }) after.phase (told (lacking is_new)) old answer new
                refl refl patterned entered,
          )
      called (inr (Err failure, after, went, (said, same))) =
          inr (
            Err failure,
            after,
            subst (λ (phase : Phase). Calls (record { phase = phase; accesses = 0 }) (Some (Err failure)) after) (sym (own-phase old)) went,
            (said, ap own_of same ∙ own-phased after.phase old),
          )

      so : Negotiates Calls told lacking (record { pattern = pattern; name = name; node = factory.node }) old answer new
          → Negotiates Calls told lacking (record { pattern = pattern; name = name; node = factory.node }) (own_of old) answer (own_of new)
      so (did) =
          elim (by-bool (nat_le 1 factory.node && nat_le factory.node old.made.nodes)
          (IsRefused (told (lacking false)) old answer new
          ⊎ ((found : Result Bool F) × (after : Call) × Calls (record { phase = old.phases pattern name; accesses = 0 }) (Some found) after
          × MatchResult found
          (λ is_new. Enters (record { pattern = pattern; name = name; node = factory.node }) after.phase
          (told (lacking is_new)) old answer new)
          (λ failure. IsRefused (told failure) (with_phase pattern name after.phase old) answer new)))
          (IsSkipped old answer new) did) [
            | inl w ↦ into-bool (nat_le 1 factory.node && nat_le factory.node old.made.nodes)
                (IsRefused (told (lacking false)) (own_of old) answer (own_of new)
                ⊎ ((found : Result Bool F) × (after : Call)
                × Calls (record { phase = own_phases pattern name old.phases pattern name; accesses = 0 }) (Some found) after
                × MatchResult found
                (λ is_new. Enters (record { pattern = pattern; name = name; node = factory.node }) after.phase (told (lacking is_new))
                (own_of old) answer (own_of new))
                (λ failure. IsRefused (told failure) (with_phase pattern name after.phase (own_of old)) answer (own_of new))))
                (IsSkipped (own_of old) answer (own_of new)) (inl (w.0, called w.1))
            | inr w ↦ into-bool (nat_le 1 factory.node && nat_le factory.node old.made.nodes)
                (IsRefused (told (lacking false)) (own_of old) answer (own_of new)
                ⊎ ((found : Result Bool F) × (after : Call)
                × Calls (record { phase = own_phases pattern name old.phases pattern name; accesses = 0 }) (Some found) after
                × MatchResult found
                (λ is_new. Enters (record { pattern = pattern; name = name; node = factory.node }) after.phase (told (lacking is_new))
                (own_of old) answer (own_of new))
                (λ failure. IsRefused (told failure) (with_phase pattern name after.phase (own_of old)) answer (own_of new))))
                (IsSkipped (own_of old) answer (own_of new)) (inr (w.0, skipped-own old answer new w.1))
          ]

  module _ (types : MessageTypeDetails) (choices : Choices T) (buffer : ℕ) where
    own-creates : (steps : List StepBefore) (factory : Factory) (named : ServiceOptions) (attributes : List Attribute) (old : State T)
        (answer : Reply T) (new : State T) → factory.pattern ≡ pattern → factory.name ≡ name → Patterned new
        → CreatesService types steps factory named attributes old answer new
        → CreatesService types steps factory named attributes (own_of old) answer (own_of new)
    own-creates steps factory named attributes old answer new is same patterned h =
        over-fitness (unfit (settings_of types named)) (λ negotiates. own-negotiates
        (Creates types factory.pattern steps (Own factory.node) (record { settings = settings_of types named; attributes = attributes }))
        (create_refusal named) (λ is_new. uncreated.OutOfMemory) factory old answer new is same patterned negotiates)
        (λ failure refuses. over-bool (nat_le 1 factory.node && nat_le factory.node old.made.nodes) _ refl
        (refused-own (create_refusal named failure) old answer new) (skipped-own old answer new) refuses) h

    own-opens : (steps : List StepBefore) (factory : Factory) (named : ServiceOptions) (required : Required) (old : State T)
        (answer : Reply T) (new : State T)
        → factory.pattern ≡ pattern → factory.name ≡ name → Patterned new
        → OpensService types steps factory named required old answer new
        → OpensService types steps factory named required (own_of old) answer (own_of new)
    own-opens steps factory named required old answer new is same patterned h =
        own-negotiates (Opens types factory.pattern steps (Own factory.node) (verdict types named required))
        (open_refusal named) (λ is_new. unopened.OutOfMemory) factory old answer
        new is same patterned h

    own-either : (steps : List StepBefore) (factory : Factory) (named : ServiceOptions) (required : Required) (old : State T)
        (answer : Reply T) (new : State T)
        → factory.pattern ≡ pattern → factory.name ≡ name → Patterned new
        → OpensOrCreatesService types steps factory named required old answer new
        → OpensOrCreatesService types steps factory named required (own_of old) answer (own_of new)
    own-either steps factory named required old answer new is same patterned h =
        own-negotiates (OpensOrCreates types factory.pattern steps (Own factory.node) (verdict types named required)
        (record { settings = settings_of types named; attributes = required.pairs }))
        (either_refusal named) either_lacking factory old answer
        new is same patterned h

    own-acts : (one : MessagingPattern) (other : List ℕ) (steps : List ForeignStep) (old : State T) (answer : Reply T) (new : State T)
        → one ≡ pattern → other ≡ name → Acts types one other steps old answer new
        → Acts types one other steps (own_of old) answer (own_of new)
    own-acts one other steps old answer new is same =
        subst (λ (p : MessagingPattern). Acts types p other steps old answer new → Acts types p other steps (own_of old) answer
        (own_of new))
        (sym is)
        (subst (λ (n : List ℕ). Acts types pattern n steps old answer new → Acts types pattern n steps (own_of old) answer (own_of new))
        (sym same) so)
      where
        acted-own : (made : List ForeignStep)
            → own_of (with_phase pattern name (fold (acted types pattern) (old.phases pattern name) made) old)
            ≡ with_phase pattern name (fold (acted types pattern) (own_phases pattern name old.phases pattern name) made) (own_of old)
        acted-own made =
            own-phased (fold (acted types pattern) (old.phases pattern name) made) old
            ∙ ap (λ (phase : Phase). with_phase pattern name (fold (acted types pattern) phase made) (own_of old)) (sym (own-phase old))

        so : Acts types pattern name steps old answer new → Acts types pattern name steps (own_of old) answer (own_of new)
        so (inl (told, came)) = inl (told, ap own_of came ∙ acted-own steps)
        so (inr (done, few, (told, came))) = inr (done, few, (told, ap own_of came ∙ acted-own (take done steps)))

    -- a factory of the service is closed
    abbrev ClosesIt : ℕ → Factory → State T → Reply T → State T → Type 0
    ClosesIt number factory old answer new =
        MatchBool (list_any (λ (service : Service T). is_service_of factory service && is_used_by number service) old.services)
        (IsRefused (refusal.Close StillInUse) old answer new)
        ((answer ≡ reply.Done)
        × (new ≡ record (with_phase factory.pattern factory.name (closed_by factory.node (old.phases factory.pattern factory.name)) old) {
          factories = removed number old.factories;
          services = cond (list_any (λ (entry : ℕ × Factory). same_pattern entry.1.pattern factory.pattern
              && bytes_eq entry.1.name factory.name)
              (removed number old.factories))
              old.services (filter (λ (service : Service T). not (is_service_of factory service)) old.services);
        }))

    abbrev of_node : ℕ → Factory
    of_node node = record { pattern = pattern; name = name; node = node }

    own-services : (r : Bool) (node : ℕ) (services : List (Service T))
        → filter (is_of pattern name)
        (cond r services (filter (λ (service : Service T). not (is_service_of (of_node node) service)) services))
        ≡ cond r (filter (is_of pattern name) services)
        (filter (λ (service : Service T). not (is_service_of (of_node node) service)) (filter (is_of pattern name) services))
    own-services true node services = refl
    own-services false node services =
        filter-swap (is_of pattern name) (λ (service : Service T). not (is_service_of (of_node node) service)) services

    closes-own : (number node : ℕ) (old : State T) (answer : Reply T) (new : State T) → ClosesIt number (of_node node) old answer new
        → ClosesIt number (of_node node) (own_of old) answer (own_of new)
    closes-own number node old answer new h =
        elim (by-bool used (IsRefused (refusal.Close StillInUse) old answer new) ((answer ≡ reply.Done) × (new ≡ after)) h) [
          | inl w ↦ into-bool used-own (IsRefused (refusal.Close StillInUse) (own_of old) answer (own_of new))
              ((answer ≡ reply.Done) × (own_of new ≡ after-own))
              (inl (used-same ∙ w.0, refused-own (refusal.Close StillInUse) old answer new w.1))
          | inr w ↦ into-bool used-own (IsRefused (refusal.Close StillInUse) (own_of old) answer (own_of new))
              ((answer ≡ reply.Done) × (own_of new ≡ after-own))
              (inr (used-same ∙ w.0, (w.1.0, ap own_of w.1.1 ∙ ends)))
        ]
      where
        used : Bool
        used = list_any (λ (service : Service T). is_service_of (of_node node) service && is_used_by number service) old.services

        used-own : Bool
        used-own = list_any (λ (service : Service T). is_service_of (of_node node) service && is_used_by number service)
            (filter (is_of pattern name) old.services)

        used-same : list_any (λ (service : Service T). is_service_of (of_node node) service && is_used_by number service)
            (filter (is_of pattern name) old.services)
            ≡ list_any (λ (service : Service T). is_service_of (of_node node) service && is_used_by number service) old.services
        used-same =
            any-own (is_of pattern name) (λ (service : Service T). is_service_of (of_node node) service && is_used_by number service)
            (λ service both. own-service (of_node node) service
            (and-true (same_pattern pattern pattern) (bytes_eq name name) (pattern-itself pattern) (name-itself name))
            (both-true (is_service_of (of_node node) service) (is_used_by number service) both).0) old.services

        after : State T
        after = record (with_phase pattern name (closed_by node (old.phases pattern name)) old) {
          factories = removed number old.factories;
          services = cond (list_any (λ (entry : ℕ × Factory). is_factory_of pattern name entry.1) (removed number old.factories))
              old.services (filter (λ (service : Service T). not (is_service_of (of_node node) service)) old.services);
        }

        after-own : State T
        after-own = record (with_phase pattern name (closed_by node (own_phases pattern name old.phases pattern name)) (own_of old)) {
          factories = removed number (filter (λ (entry : ℕ × Factory). is_factory_of pattern name entry.1) old.factories);
          services = cond (list_any (λ (entry : ℕ × Factory). is_factory_of pattern name entry.1)
              (removed number (filter (λ (entry : ℕ × Factory). is_factory_of pattern name entry.1) old.factories)))
              (filter (is_of pattern name) old.services)
              (filter (λ (service : Service T). not (is_service_of (of_node node) service)) (filter (is_of pattern name) old.services));
        }

        removed-same : filter (λ (entry : ℕ × Factory). is_factory_of pattern name entry.1) (removed number old.factories)
            ≡ removed number (filter (λ (entry : ℕ × Factory). is_factory_of pattern name entry.1) old.factories)
        removed-same =
            filter-swap (λ (entry : ℕ × Factory). is_factory_of pattern name entry.1) (λ (entry : ℕ × Factory). not (entry.0 == number))
            old.factories

        remains-same : list_any (λ (entry : ℕ × Factory). is_factory_of pattern name entry.1) (removed number old.factories)
            ≡ list_any (λ (entry : ℕ × Factory). is_factory_of pattern name entry.1)
            (removed number (filter (λ (entry : ℕ × Factory). is_factory_of pattern name entry.1) old.factories))
        remains-same =
            sym (any-own (λ (entry : ℕ × Factory). is_factory_of pattern name entry.1)
            (λ (entry : ℕ × Factory). is_factory_of pattern name entry.1) (λ entry is. is) (removed number old.factories))
            ∙ ap (list_any (λ (entry : ℕ × Factory). is_factory_of pattern name entry.1)) removed-same

        services-same : filter (is_of pattern name)
            (cond (list_any (λ (entry : ℕ × Factory). is_factory_of pattern name entry.1) (removed number old.factories)) old.services
            (filter (λ (service : Service T). not (is_service_of (of_node node) service)) old.services))
            ≡ cond (list_any (λ (entry : ℕ × Factory). is_factory_of pattern name entry.1)
            (removed number (filter (λ (entry : ℕ × Factory). is_factory_of pattern name entry.1) old.factories)))
            (filter (is_of pattern name) old.services)
            (filter (λ (service : Service T). not (is_service_of (of_node node) service)) (filter (is_of pattern name) old.services))
        services-same =
            own-services (list_any (λ (entry : ℕ × Factory). is_factory_of pattern name entry.1) (removed number old.factories)) node
            old.services
            ∙ ap (λ (b : Bool). cond b (filter (is_of pattern name) old.services)
            (filter (λ (service : Service T). not (is_service_of (of_node node) service)) (filter (is_of pattern name) old.services)))
            remains-same

        phases-same : own_phases pattern name (with_phase pattern name (closed_by node (old.phases pattern name)) old).phases
            ≡ (with_phase pattern name (closed_by node (own_phases pattern name old.phases pattern name)) (own_of old)).phases
        phases-same =
            own-with (closed_by node (old.phases pattern name)) old
            ∙ ap (λ (phase : Phase). (with_phase pattern name (closed_by node phase) (own_of old)).phases) (sym (own-phase old))

        ends : own_of (record (with_phase pattern name (closed_by node (old.phases pattern name)) old) {
          factories = removed number old.factories;
          services = cond (list_any (λ (entry : ℕ × Factory). is_factory_of pattern name entry.1) (removed number old.factories))
              old.services (filter (λ (service : Service T). not (is_service_of (of_node node) service)) old.services);
        }) ≡ record (with_phase pattern name (closed_by node (own_phases pattern name old.phases pattern name)) (own_of old)) {
          factories = removed number (filter (λ (entry : ℕ × Factory). is_factory_of pattern name entry.1) old.factories);
          services = cond (list_any (λ (entry : ℕ × Factory). is_factory_of pattern name entry.1)
              (removed number (filter (λ (entry : ℕ × Factory). is_factory_of pattern name entry.1) old.factories)))
              (filter (is_of pattern name) old.services)
              (filter (λ (service : Service T). not (is_service_of (of_node node) service)) (filter (is_of pattern name) old.services));
        }
        ends = λ i. record {
          made = old.made;
          phases = phases-same i;
          factories = removed-same i;
          services = services-same i;
        }

    own-closes : (number : ℕ) (old : State T) (answer : Reply T) (new : State T)
        → option_map_or (is_factory_of pattern name) (at number old.factories) false ≡ true → Closes number old answer new
        → Closes number (own_of old) answer (own_of new)
    own-closes number old answer new on h =
        elim (by-option (at number old.factories) (IsSkipped old answer new) (λ factory. ClosesIt number factory old answer new) h) [
          | inl w ↦ absurd (true≢false (sym on ∙ ap (λ (o : Option Factory). option_map_or (is_factory_of pattern name) o false) w.0))
          | inr w ↦ there w.0 w.1 w.2
        ]
      where
        there : (factory : Factory) → at number old.factories ≡ Some factory → ClosesIt number factory old answer new
            → Closes number (own_of old) answer (own_of new)
        there factory found did =
            let own : is_factory_of pattern name factory ≡ true =
            sym (ap (λ (o : Option Factory). option_map_or (is_factory_of pattern name) o false) found) ∙ on in
            subst (λ (o : Option Factory). MatchOption o (IsSkipped (own_of old) answer (own_of new))
            (λ it. ClosesIt number it (own_of old) answer (own_of new))) (sym (own-at pattern name number factory old.factories own found))
            (subst (λ (f : Factory). ClosesIt number f old answer new → ClosesIt number f (own_of old) answer (own_of new))
            (λ i. record {
              pattern = sym (pattern-is factory.pattern pattern
                  (both-true (same_pattern factory.pattern pattern) (bytes_eq factory.name name) own).0) i;
              name = sym (name-is factory.name name
                  (both-true (same_pattern factory.pattern pattern) (bytes_eq factory.name name) own).1) i;
              node = factory.node;
            }) (closes-own number factory.node old answer new) did)

    pub own-step : (asked : Command T) (old : State T) (answer : Reply T) (new : State T) → Stands new
        → Step types choices buffer asked old answer new → concerns pattern name asked old ≡ true
        → Step types choices buffer asked (own_of old) answer (own_of new)
    own-step command.Node old answer new stands (inl (told, came)) on = inl (told, ap own_of came)
    own-step command.Node old answer new stands (inr refused) on = inr (refused-own (refusal.Hub OutOfMemory) old answer new refused)
    own-step (command.Create node other named attributes steps) old answer new stands h on =
        own-creates steps (factory_of node other named) named attributes old answer new
        (pattern-is (pattern_of named) pattern (both-true (same_pattern (pattern_of named) pattern) (bytes_eq other name) on).0)
        (name-is other name (both-true (same_pattern (pattern_of named) pattern) (bytes_eq other name) on).1)
        (stands.fits pattern name).patterned h
    own-step (command.Open node other named required steps) old answer new stands h on =
        own-opens steps (factory_of node other named) named required old answer new
        (pattern-is (pattern_of named) pattern (both-true (same_pattern (pattern_of named) pattern) (bytes_eq other name) on).0)
        (name-is other name (both-true (same_pattern (pattern_of named) pattern) (bytes_eq other name) on).1)
        (stands.fits pattern name).patterned h
    own-step (command.OpenOrCreate node other named required steps) old answer new stands h on =
        own-either steps (factory_of node other named) named required old answer new
        (pattern-is (pattern_of named) pattern (both-true (same_pattern (pattern_of named) pattern) (bytes_eq other name) on).0)
        (name-is other name (both-true (same_pattern (pattern_of named) pattern) (bytes_eq other name) on).1)
        (stands.fits pattern name).patterned h
    own-step (command.Foreign one other steps) old answer new stands h on =
        own-acts one other steps old answer new
        (pattern-is one pattern (both-true (same_pattern one pattern) (bytes_eq other name) on).0)
        (name-is other name (both-true (same_pattern one pattern) (bytes_eq other name) on).1) h
    own-step (command.Close factory) old answer new stands h on = own-closes factory old answer new on h
    own-step (command.Publisher factory options) old answer new stands h on =
        own-factory types choices buffer factory
        (λ (service : Service T). PublisherArrives (old.made.publishers + 1)
        (new_publisher factory options service.settings) service) old answer new on
        (λ service after did. publisher-arrives old.made service answer (old.made.publishers + 1)
        (new_publisher factory options service.settings) service after (itself old.made service) refl did) h
    own-step (command.Subscriber factory options) old answer new stands h on =
        own-factory types choices buffer factory
        (λ (service : Service T). SubscriberArrives buffer (old.made.subscribers + 1)
        (new_subscriber factory options service.settings) service) old answer new on
        (λ service after did. subscriber-arrives old.made service answer buffer (old.made.subscribers + 1)
        (new_subscriber factory options service.settings) service after (itself old.made service) refl did) h
    own-step (command.Loan publisher count) old answer new stands (value, default, h) on = (
      value,
      default,
      own-free publisher (LendsLoan (old.made.loans + 1) publisher count (Some value)) old answer new on
          (λ one service after did. lends-loan old.made service answer (old.made.loans + 1) publisher count (Some value) one service after
          (itself old.made service) refl did) h,
    )
    own-step (command.LoanUninit publisher count) old answer new stands h on =
        own-free publisher (LendsLoan (old.made.loans + 1) publisher count None) old answer new on
        (λ one service after did. lends-loan old.made service answer (old.made.loans + 1) publisher count None one service after
        (itself old.made service) refl did) h
    own-step (command.Set loan place value) old answer new stands h on =
        own-one (λ (service : Service T). at loan service.loans)
        (λ (one : Loan T). Writes loan one (is_written one && nat_lt place (length one.values))
        (set one.values place (Some value))) old answer new (by-asked
        (λ (other : Service T). is_some ((λ (service : Service T). at loan service.loans) other)) old on)
        (λ one service after did. writes old.made service answer loan one (is_written one && nat_lt place (length one.values))
        (set one.values place (Some value)) service after (itself old.made service) did) h
    own-step (command.Fill loan values) old answer new stands h on =
        own-one (λ (service : Service T). at loan service.loans)
        (λ (one : Loan T). Writes loan one (length values == length one.values) (map Some values)) old answer new
        (by-asked (λ (other : Service T). is_some ((λ (service : Service T). at loan service.loans) other)) old on)
        (λ one service after did. writes old.made service answer loan one (length values == length one.values)
        (map Some values) service after (itself old.made service) did) h
    own-step (command.Drop loan) old answer new stands h on =
        own-one (λ (service : Service T). at loan service.loans)
        (λ (one : Loan T) (service : Service T) (answered : Reply T) (after : Service T). (answered ≡ reply.Done)
        × (after ≡ record service { loans = removed loan service.loans })) old answer new
        (by-asked (λ (other : Service T). is_some ((λ (service : Service T). at loan service.loans) other)) old on)
        (λ one service after did. drops old.made service answer loan service after (itself old.made service) did) h
    own-step (command.Send loan) old answer new stands h on =
        own-one (λ (service : Service T). at loan service.loans) (SendsLoan choices loan) old answer new
        (by-asked (λ (other : Service T). is_some ((λ (service : Service T). at loan service.loans) other)) old on)
        (λ one service after did. sends-loan old.made service answer choices loan one service after (itself old.made service) did) h
    own-step (command.Put publisher values) old answer new stands h on =
        own-free publisher (Puts choices publisher values) old answer new on
        (λ one service after did. puts old.made service answer choices publisher values one service after (itself old.made service) did) h
    own-step (command.Retry publisher nanoseconds) old answer new stands h on =
        own-blocked publisher (λ (one : Publisher T) (send : Send T). GoesOn choices publisher one
        (record send { retries = send.retries + 1; elapsed = nanoseconds })) old answer new on
        (λ one send service after did. goes-on old.made service answer choices publisher one
        (record send { retries = send.retries + 1; elapsed = nanoseconds }) service after (itself old.made service) did) h
    own-step (command.GiveUp publisher) old answer new stands h on =
        own-blocked publisher
        (λ (one : Publisher T) (send : Send T) (service : Service T) (answered : Reply T) (after : Service T).
        (answered ≡ reply.Delivered send.delivered) × (after ≡ with_publisher publisher (record one { blocked = None }) service))
        old answer new on
        (λ one send service after did. ends old.made service answer (reply.Delivered send.delivered)
        (with_publisher publisher (record one { blocked = None }) service) after
        (publisher-turned old.made service answer publisher (record one { blocked = None }) service (itself old.made service)) did tt) h
    own-step (command.Receive subscriber) old answer new stands h on =
        own-one (subscriber_in subscriber)
        (subscribing.UpdatesFirst choices buffer subscriber (λ failure. refusal.Receive (receive_error.ConnectionFailure failure))
        (Receives subscriber (old.made.samples + 1))) old answer new
        (by-asked (λ (other : Service T). is_some ((subscriber_in subscriber) other)) old on)
        (λ one service after did. subscriber-updates old.made service answer choices buffer subscriber
        (λ failure. refusal.Receive (receive_error.ConnectionFailure failure)) (Receives subscriber (old.made.samples + 1)) one service
        after (itself old.made service)
        (λ next mid k took. receives old.made service answer subscriber (old.made.samples + 1) next mid after k refl took) did) h
    own-step (command.Read sample) old answer new stands h on =
        own-one (λ (service : Service T). at sample service.samples)
        (λ (one : Sample T) (service : Service T) (answered : Reply T) (after : Service T). (values : Vec T) ×
        (vec_items values ≡ one.message.values) × (answered ≡ reply.Values values) × (after ≡ service)) old answer new
        (by-asked (λ (other : Service T). is_some ((λ (service : Service T). at sample service.samples) other)) old on)
        (λ one service after did. stays old.made service after answer (reply.Values did.0) (did.2, did.3) tt) h
    own-step (command.Sequence sample) old answer new stands h on =
        own-one (λ (service : Service T). at sample service.samples)
        (λ (one : Sample T) (service : Service T) (answered : Reply T) (after : Service T).
        (answered ≡ reply.Sequence one.message.sequence) × (after ≡ service)) old answer new
        (by-asked (λ (other : Service T). is_some ((λ (service : Service T). at sample service.samples) other)) old on)
        (λ one service after did. stays old.made service after answer (reply.Sequence one.message.sequence) did tt) h
    own-step (command.Release sample) old answer new stands h on =
        own-one (λ (service : Service T). at sample service.samples) (Releases sample) old answer new
        (by-asked (λ (other : Service T). is_some ((λ (service : Service T). at sample service.samples) other)) old on)
        (λ one service after did. releases old.made service answer sample one service after (itself old.made service) did) h
    own-step (command.Update (port.Publisher number)) old answer new stands h on =
        own-free number
        (publishing.UpdatesFirst choices number refusal.Connection
        (λ (one : Publisher T) (service : Service T) (answered : Reply T) (after : Service T). (answered ≡ reply.Done) × (after ≡ service)))
        old answer new on
        (λ one service after did. updates-first old.made service answer choices number refusal.Connection
        (λ (it : Publisher T) (mid : Service T) (answered : Reply T) (end : Service T). (answered ≡ reply.Done) × (end ≡ mid)) one service
        after (itself old.made service) (λ it mid k done. ends old.made service answer reply.Done mid after k done tt) did) h
    own-step (command.Update (port.Subscriber number)) old answer new stands h on =
        own-one (subscriber_in number)
        (subscribing.UpdatesFirst choices buffer number refusal.Connection
        (λ (one : Subscriber) (service : Service T) (answered : Reply T) (after : Service T). (answered ≡ reply.Done) × (after ≡ service)))
        old answer new (by-asked (λ (other : Service T). is_some ((subscriber_in number) other)) old on)
        (λ one service after did. subscriber-updates old.made service answer choices buffer number refusal.Connection
        (λ (it : Subscriber) (mid : Service T) (answered : Reply T) (end : Service T). (answered ≡ reply.Done) × (end ≡ mid)) one service
        after (itself old.made service) (λ it mid k done. ends old.made service answer reply.Done mid after k done tt) did) h
    own-step (command.Leave (port.Publisher number)) old answer new stands h on =
        own-free number
        (λ (one : Publisher T) (service : Service T) (answered : Reply T) (after : Service T). (answered ≡ reply.Done)
        × (after ≡ with_publisher number (record one { stands = false })
        (record service { publisher_list = left number service.publisher_list }))) old answer new on
        (λ one service after did. publisher-leaves old.made service answer number (record one { stands = false }) service after
        (itself old.made service) did) h
    own-step (command.Leave (port.Subscriber number)) old answer new stands h on =
        own-one (subscriber_in number)
        (λ (one : Subscriber) (service : Service T) (answered : Reply T) (after : Service T). (answered ≡ reply.Done)
        × (after ≡ with_subscriber number (record one { stands = false })
        (record service { subscriber_list = left number service.subscriber_list }))) old answer new
        (by-asked (λ (other : Service T). is_some ((subscriber_in number) other)) old on)
        (λ one service after did. subscriber-leaves old.made service answer number (record one { stands = false }) service after
        (itself old.made service) did) h
    own-step (command.Has subscriber) old answer new stands h on =
        own-one (subscriber_in subscriber)
        (subscribing.UpdatesFirst choices buffer subscriber refusal.Connection
        (λ (one : Subscriber) (service : Service T) (answered : Reply T) (after : Service T).
        (answered ≡ reply.Has (has_samples subscriber one service))
        × (after ≡ service))) old answer new (by-asked (λ (other : Service T). is_some ((subscriber_in subscriber) other)) old on)
        (λ one service after did. subscriber-updates old.made service answer choices buffer subscriber refusal.Connection
        (λ (it : Subscriber) (mid : Service T) (answered : Reply T) (end : Service T).
        (answered ≡ reply.Has (has_samples subscriber it mid)) × (end ≡ mid)) one service after (itself old.made service)
        (λ it mid k done. ends old.made service answer (reply.Has (has_samples subscriber it mid)) mid after k done tt) did) h

    pub left-asks : (asked : Command T) (old : State T) → concerns pattern name asked old ≡ false → asks pattern name asked old ≡ false
    left-asks command.Node old off = refl
    left-asks other old off = off

    alone : (asked : List (Command T)) (old : State T) (answers : List (Reply T)) (new : State T)
        (run : Runs types choices buffer asked old answers new) → Stands old
        → IsAlone types choices buffer pattern name asked old answers new run (own_of old)
    alone [] old answers new run stands = tt
    alone (one ∷ more) old answers new run stands =
        here (concerns pattern name one old) refl
        (alone more run.1 run.2 new run.4 (step-stands types choices buffer one old run.0 run.1 run.3 stands))
      where
        here : (b : Bool) → concerns pattern name one old ≡ b
            → IsAlone types choices buffer pattern name more run.1 run.2 new run.4 (own_of run.1)
            → MatchBool b
            ((mid : State T) × Step types choices buffer one (own_of old) run.0 mid
            × IsAlone types choices buffer pattern name more run.1 run.2 new run.4 mid)
            (IsAlone types choices buffer pattern name more run.1 run.2 new run.4 (record (own_of old) { made = run.1.made }))
        here true on rest = (
          own_of run.1,
          own-step one old run.0 run.1 (step-stands types choices buffer one old run.0 run.1 run.3 stands) run.3 on,
          rest,
        )
        here false off rest =
            subst (λ (own : State T). IsAlone types choices buffer pattern name more run.1 run.2 new run.4 own)
            (own-left old run.1 (step-left pattern name types choices buffer one old run.0 run.1 stands run.3 (left-asks one old off)))
            rest

  pub own-new : own_of new_state ≡ new_state
  own-new = λ i. record {
    made = record { nodes = 0; factories = 0; publishers = 0; subscribers = 0; loans = 0; samples = 0 };
    phases = λ one other. here (same_pattern one pattern && bytes_eq other name) i;
    factories = [];
    services = [];
  }
    where
      here : (b : Bool) → cond b (Absent 0) (Absent 0) ≡ Absent 0
      here true = refl
      here false = refl

pub as-if-alone : {T : Type 0} (choices : Choices T) → ServicesAreAsIfAlone choices
as-if-alone {T} choices types buffer asked answers new run pattern name =
    subst (λ (own : State T). IsAlone types choices buffer pattern name asked new_state answers new run own) (own-new pattern name)
    (alone pattern name types choices buffer asked new_state answers new run new-stands)

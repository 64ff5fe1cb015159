-- A step is a step where all goes by other numbers.
use Rattle.std.proofs.Common.{◌≡◌, ◌⊎◌, ◌+◌, ℕ, Bool, false, cond, not, ◌&&◌, ◌||◌, List, [], ◌∷◌, ◌++◌, map, take, fold, Option, None}
use Rattle.std.proofs.Common.{Some, Result, Ok, Err, refl, sym, ap, ap₂, subst, inl, inr, ◌∙◌}
use Rattle.std.proofs.lemmas.List.{map-append}
use Rattle.std.specs.List.{list_any}
use Rattle.std.specs.Option.{option_map_or}
use Rattle.std.specs.Prelude.{◌==◌, nat_le, option_map, option_and_then, is_some, find, filter, MatchBool, MatchOption, MatchResult}
use Rattle.iox_machine.specs.Choices.{Choices}
use Rattle.iox_machine.specs.Agreement.{verdict}
use Rattle.iox_machine.specs.Asked.{settings_of}
use Rattle.iox_machine.specs.Closing.{Closes, is_used_by}
use Rattle.iox_machine.specs.Factories.{Acts, OpensService, OpensOrCreatesService, Negotiates, Enters, with_open}
use Rattle.iox_machine.specs.Message.{Loan, Sample}
use Rattle.iox_machine.specs.Negotiation.{Call, Answer}
use Rattle.iox_machine.specs.Phase.{Own, Phase, Absent, BeingMade, Published, Emptied, same_pattern, acted}
use Rattle.iox_machine.specs.Ports.{publisher_in, subscriber_in}
use Rattle.iox_machine.proofs.Shorthands.{IsSkipped, IsRefused, closed_by, either_lacking, Opens, OpensOrCreates, AtFree, AtBlocked}
use Rattle.iox_machine.specs.Run.{AtFactory}
use Rattle.iox_machine.specs.Service.{Service, Publisher, Subscriber, Send, new_service}
use Rattle.iox_machine.specs.Refusals.{open_refusal, either_refusal}
use Rattle.iox_machine.specs.State.{State, Factory, Made, AtOne, counted, is_service_of, replaced, with_phase}
use Rattle.std.specs.Prelude.{bytes_eq}
use Rattle.iox_machine.specs.Table.{at, removed}
use Rattle.iox_machine.proofs.Kept.{IsNext}
use Rattle.iox_machine.proofs.Mapped.{cond-of, find-by, filter-by, any-by, some-by, or-by, replicate-by, over-bool, over-option}
use Rattle.iox_machine.proofs.Renumbered.{Numberings, same-to, placed, entered_by, at-by, removed-by, other_subscriber, subscriber_entry}
use Rattle.iox_machine.proofs.Renumbered.{other_reply, skipped-by, other_send, other_publisher, other_loan, other_sample, publisher_entry}
use Rattle.iox_machine.proofs.Renumbered.{loan_entry, sample_entry, other_service}
use Rattle.iox_command.specs.NegotiateBase.DescribeBase.Attributes.{Required}
use Rattle.iox_command.specs.NegotiateBase.DescribeBase.declared.message_type.MessageTypeDetails.{MessageTypeDetails}
use Rattle.iox_command.specs.NegotiateBase.DescribeBase.declared.pattern.MessagingPattern.{MessagingPattern}
use Rattle.iox_command.specs.NegotiateBase.DescribeSettings.declared.static_config.Settings.{Settings}
use Rattle.iox_command.specs.NegotiateBase.DescribeSettings.declared.static_config.Settings.TheVariants as settings
use Rattle.iox_command.specs.NegotiateBase.DescribeSettings.declared.static_config.publish_subscribe.StaticConfig.{StaticConfig}
use Rattle.iox_command.specs.NegotiateBase.declared.errors.close.CloseError.TheVariants.{StillInUse}
use Rattle.iox_command.specs.NegotiateBase.declared.failure.OpenFailure.TheVariants as unopened
use Rattle.iox_command.specs.declared.refusal.HubError.TheVariants.{OutOfMemory}
use Rattle.iox_command.specs.declared.refusal.Refusal.{Refusal}
use Rattle.iox_command.specs.declared.refusal.Refusal.TheVariants as refusal
use Rattle.iox_command.specs.declared.reply.Reply.{Reply}
use Rattle.iox_command.specs.declared.reply.Reply.TheVariants as reply
use Rattle.iox_command.specs.declared.service.ServiceOptions.{ServiceOptions}
use Rattle.iox_command.specs.declared.step.ForeignStep.{ForeignStep}
use Rattle.iox_command.specs.declared.step.StepBefore.{StepBefore}

-- the factory of a number, by another
abbrev pub factory_entry : Numberings → ℕ × Factory → ℕ × Factory
factory_entry by entry = entered_by by.factories (λ factory. factory) entry

subscriber-standing-by : (by : Numberings) (o : Option Subscriber)
    → option_and_then (λ (subscriber : Subscriber). cond subscriber.stands (Some subscriber) None) (option_map (other_subscriber by) o)
    ≡ option_map (other_subscriber by) (option_and_then (λ (subscriber : Subscriber). cond subscriber.stands (Some subscriber) None) o)
subscriber-standing-by by None = refl
subscriber-standing-by by (Some subscriber) = cond-of (option_map (other_subscriber by)) subscriber.stands (Some subscriber) None

module _ {T : Type 0} (by : Numberings) where
  -- a state in which all goes by other numbers, and n values were made
  abbrev pub other_state : Made → State T → State T
  other_state made state = record {
    made = made;
    phases = state.phases;
    factories = map (factory_entry by) state.factories;
    services = map (other_service by) state.services;
  }

  -- so the state after a command that was answered so
  abbrev pub other_end : Made → Reply T → State T → State T
  other_end made answer state = other_state (counted (other_reply by answer) made) state

  module _ (made : Made) where
    pub state-skipped : (old : State T) (answer : Reply T) (new : State T) → IsSkipped old answer new
        → IsSkipped (other_state made old) (other_reply by answer) (other_end made answer new)
    state-skipped old answer new (told, same) = (ap (other_reply by) told, ap₂ (other_end made) told same)

    pub state-refused : (why : Refusal) (old : State T) (answer : Reply T) (new : State T) → IsRefused why old answer new
        → IsRefused why (other_state made old) (other_reply by answer) (other_end made answer new)
    state-refused why old answer new (told, same) = (ap (other_reply by) told, ap₂ (other_end made) told same)

    -- ---- ports, loans and samples

    replaced-by : (q p : Service T → Bool) → ((service : Service T) → q (other_service by service) ≡ p service)
        → (after : Service T) (services : List (Service T))
        → replaced q (other_service by after) (map (other_service by) services) ≡ map (other_service by) (replaced p after services)
    replaced-by q p on after [] = refl
    replaced-by q p on after (service ∷ more) =
        ap₂ (λ (b : Bool) (rest : List (Service T)). cond b (other_service by after ∷ map (other_service by) more)
        (other_service by service ∷ rest)) (on service) (replaced-by q p on after more)
        ∙ cond-of (map (other_service by)) (p service) (after ∷ more) (service ∷ replaced p after more)

    at-one-by : {V W : Type 0} (f : V → W) (found : Service T → Option V) (other_found : Service T → Option W)
        → ((service : Service T) → other_found (other_service by service) ≡ option_map f (found service))
        → (Does : V → Service T → Reply T → Service T → Type 0) (Other : W → Service T → Reply T → Service T → Type 0)
        (old : State T) (answer : Reply T) (new : State T)
        → ((one : V) (service after : Service T) → Does one service answer after
        → Other (f one) (other_service by service) (other_reply by answer) (other_service by after))
        → AtOne found Does old answer new
        → AtOne other_found Other (other_state made old) (other_reply by answer) (other_end made answer new)
    at-one-by {V} {W} f found other_found same Does Other old answer new does h =
        over-option
        (λ (service : Service T). (after : Service T)
        × MatchOption (other_found service) ⊥ (λ one. Other one service (other_reply by answer) after)
        × (other_end made answer new ≡ record (other_state made old) {
          made = counted (other_reply by answer) made;
          services = replaced (λ (it : Service T). is_some (other_found it)) after (map (other_service by) old.services);
        })) (other_service by) (find (λ (it : Service T). is_some (found it)) old.services)
        (find (λ (it : Service T). is_some (other_found it)) (map (other_service by) old.services))
        (find-by (other_service by) (λ (it : Service T). is_some (other_found it)) (λ (it : Service T). is_some (found it)) has_same
        old.services)
        (state-skipped old answer new) there h
      where
        has_same : (service : Service T) → is_some (other_found (other_service by service)) ≡ is_some (found service)
        has_same service = ap is_some (same service) ∙ some-by f (found service)

        there : (service : Service T)
            → (after : Service T) × MatchOption (found service) ⊥ (λ one. Does one service answer after)
            × (new ≡ record old {
              made = counted answer old.made;
              services = replaced (λ (it : Service T). is_some (found it)) after old.services;
            })
            → (after : Service T)
            × MatchOption (other_found (other_service by service)) ⊥
            (λ one. Other one (other_service by service) (other_reply by answer) after)
            × (other_end made answer new ≡ record (other_state made old) {
              made = counted (other_reply by answer) made;
              services = replaced (λ (it : Service T). is_some (other_found it)) after (map (other_service by) old.services);
            })
        there service (after, did, came) = (
          other_service by after,
          over-option (λ (one : W). Other one (other_service by service) (other_reply by answer) (other_service by after)) f (found service)
              (other_found (other_service by service)) (same service) (λ (no : ⊥). no) (λ one. does one service after) did,
          ap (other_end made answer) came
              ∙ ap (λ (services : List (Service T)). record (other_state made old) {
                made = counted (other_reply by answer) made;
                services = services;
              })
              (sym (replaced-by (λ (it : Service T). is_some (other_found it)) (λ (it : Service T). is_some (found it)) has_same after
              old.services)),
        )

    standing-by : (o : Option (Publisher T))
        → option_and_then (λ (publisher : Publisher T). cond publisher.stands (Some publisher) None) (option_map (other_publisher by) o)
        ≡ option_map (other_publisher by) (option_and_then (λ (publisher : Publisher T). cond publisher.stands (Some publisher) None) o)
    standing-by None = refl
    standing-by (Some publisher) = cond-of (option_map (other_publisher by)) publisher.stands (Some publisher) None

    publisher-in-by : (number : ℕ) (service : Service T)
        → publisher_in (by.publishers.to number) (other_service by service) ≡ option_map (other_publisher by) (publisher_in number service)
    publisher-in-by number service =
        ap (option_and_then (λ (publisher : Publisher T). cond publisher.stands (Some publisher) None))
        (at-by by.publishers (other_publisher by) number service.publishers)
        ∙ standing-by (at number service.publishers)

    subscriber-in-by : (number : ℕ) (service : Service T)
        → subscriber_in (by.subscribers.to number) (other_service by service)
        ≡ option_map (other_subscriber by) (subscriber_in number service)
    subscriber-in-by number service =
        ap (option_and_then (λ (subscriber : Subscriber). cond subscriber.stands (Some subscriber) None))
        (at-by by.subscribers (other_subscriber by) number service.subscribers)
        ∙ subscriber-standing-by by (at number service.subscribers)

    pub at-free-by : (number : ℕ) (Does Other : Publisher T → Service T → Reply T → Service T → Type 0) (old : State T) (answer : Reply T)
        (new : State T)
        → ((one : Publisher T) (service after : Service T) → Does one service answer after
        → Other (other_publisher by one) (other_service by service) (other_reply by answer) (other_service by after))
        → AtFree number Does old answer new
        → AtFree (by.publishers.to number) Other (other_state made old) (other_reply by answer) (other_end made answer new)
    at-free-by number Does Other old answer new does h =
        at-one-by (other_publisher by) (publisher_in number) (publisher_in (by.publishers.to number)) (publisher-in-by number)
        (λ (one : Publisher T) (service : Service T) (told : Reply T) (after : Service T). MatchOption one.blocked
        (Does one service told after) (λ send. IsSkipped service told after))
        (λ (one : Publisher T) (service : Service T) (told : Reply T) (after : Service T). MatchOption one.blocked
        (Other one service told after) (λ send. IsSkipped service told after)) old answer new
        (λ one service after did. over-option
        (λ (send : Send T). IsSkipped (other_service by service) (other_reply by answer) (other_service by after)) (other_send by)
        one.blocked (option_map (other_send by) one.blocked) refl (does one service after)
        (λ send. skipped-by by (other_service by) service answer after) did) h

    pub at-blocked-by : (number : ℕ) (Does Other : Publisher T → Send T → Service T → Reply T → Service T → Type 0) (old : State T)
        (answer : Reply T) (new : State T)
        → ((one : Publisher T) (send : Send T) (service after : Service T) → Does one send service answer after
        → Other (other_publisher by one) (other_send by send) (other_service by service) (other_reply by answer) (other_service by after))
        → AtBlocked number Does old answer new
        → AtBlocked (by.publishers.to number) Other (other_state made old) (other_reply by answer) (other_end made answer new)
    at-blocked-by number Does Other old answer new does h =
        at-one-by (other_publisher by) (publisher_in number) (publisher_in (by.publishers.to number)) (publisher-in-by number)
        (λ (one : Publisher T) (service : Service T) (told : Reply T) (after : Service T). MatchOption one.blocked
        (IsSkipped service told after) (λ send. Does one send service told after))
        (λ (one : Publisher T) (service : Service T) (told : Reply T) (after : Service T). MatchOption one.blocked
        (IsSkipped service told after) (λ send. Other one send service told after)) old answer new
        (λ one service after did. over-option
        (λ (send : Send T). Other (other_publisher by one) send (other_service by service) (other_reply by answer) (other_service by after))
        (other_send by) one.blocked (option_map (other_send by) one.blocked) refl (skipped-by by (other_service by) service answer after)
        (λ send. does one send service after) did) h

    pub at-subscriber-by : (number : ℕ) (Does Other : Subscriber → Service T → Reply T → Service T → Type 0) (old : State T)
        (answer : Reply T) (new : State T)
        → ((one : Subscriber) (service after : Service T) → Does one service answer after
        → Other (other_subscriber by one) (other_service by service) (other_reply by answer) (other_service by after))
        → AtOne (subscriber_in number) Does old answer new
        → AtOne (subscriber_in (by.subscribers.to number)) Other (other_state made old) (other_reply by answer) (other_end made answer new)
    at-subscriber-by number Does Other old answer new does h =
        at-one-by (other_subscriber by) (subscriber_in number) (subscriber_in (by.subscribers.to number)) (subscriber-in-by number) Does
        Other old answer new does h

    pub at-loan-by : (number : ℕ) (Does Other : Loan T → Service T → Reply T → Service T → Type 0) (old : State T) (answer : Reply T)
        (new : State T)
        → ((one : Loan T) (service after : Service T) → Does one service answer after
        → Other (other_loan by one) (other_service by service) (other_reply by answer) (other_service by after))
        → AtOne (λ (service : Service T). at number service.loans) Does old answer new
        → AtOne (λ (service : Service T). at (by.loans.to number) service.loans) Other (other_state made old) (other_reply by answer)
        (other_end made answer new)
    at-loan-by number Does Other old answer new does h =
        at-one-by (other_loan by) (λ (service : Service T). at number service.loans)
        (λ (service : Service T). at (by.loans.to number) service.loans) (λ service. at-by by.loans (other_loan by) number service.loans)
        Does Other old answer new does h

    pub at-sample-by : (number : ℕ) (Does Other : Sample T → Service T → Reply T → Service T → Type 0) (old : State T) (answer : Reply T)
        (new : State T)
        → ((one : Sample T) (service after : Service T) → Does one service answer after
        → Other (other_sample by one) (other_service by service) (other_reply by answer) (other_service by after))
        → AtOne (λ (service : Service T). at number service.samples) Does old answer new
        → AtOne (λ (service : Service T). at (by.samples.to number) service.samples) Other (other_state made old) (other_reply by answer)
        (other_end made answer new)
    at-sample-by number Does Other old answer new does h =
        at-one-by (other_sample by) (λ (service : Service T). at number service.samples)
        (λ (service : Service T). at (by.samples.to number) service.samples)
        (λ service. at-by by.samples (other_sample by) number service.samples) Does Other old answer new does h

    found-factory : (number : ℕ) (old : State T)
        → at (by.factories.to number) (map (factory_entry by) old.factories) ≡ option_map (λ (factory : Factory). factory)
        (at number old.factories)
    found-factory number old = at-by by.factories (λ (factory : Factory). factory) number old.factories

    pub at-factory-by : (types : MessageTypeDetails) (choices : Choices T) (buffer number : ℕ)
        (Does Other : Service T → Reply T → Service T → Type 0) (old : State T) (answer : Reply T) (new : State T)
        → ((service after : Service T) → Does service answer after
        → Other (other_service by service) (other_reply by answer) (other_service by after))
        → AtFactory types choices buffer number Does old answer new
        → AtFactory types choices buffer (by.factories.to number) Other (other_state made old) (other_reply by answer)
        (other_end made answer new)
    at-factory-by types choices buffer number Does Other old answer new does h =
        over-option
        (λ (factory : Factory). AtOne (λ (service : Service T). cond (is_service_of factory service) (Some service) None)
        (λ (service : Service T). Other) (other_state made old) (other_reply by answer) (other_end made answer new))
        (λ (factory : Factory). factory) (at number old.factories) (at (by.factories.to number) (map (factory_entry by) old.factories))
        (found-factory number old) (state-skipped old answer new)
        (λ factory. at-one-by (other_service by) (λ (service : Service T). cond (is_service_of factory service) (Some service) None)
        (λ (service : Service T). cond (is_service_of factory service) (Some service) None)
        (λ service. cond-of (option_map (other_service by)) (is_service_of factory service) (Some service) None)
        (λ (service : Service T). Does) (λ (service : Service T). Other) old answer new (λ one service after. does service after)) h

    -- ---- services

    new-service-by : (name : List ℕ) (c : StaticConfig) → new_service {T = T} name c ≡ other_service by (new_service name c)
    new-service-by name c = λ i. record (new_service {T = T} name c) {
      publisher_list = record { places = replicate-by (placed by.publishers) c.max_publishers None i; changes = 0 };
      subscriber_list = record { places = replicate-by (placed by.subscribers) c.max_subscribers None i; changes = 0 };
    }

    with-open-by : (name : List ℕ) (phase : Phase) (services : List (Service T))
        → with_open name phase (map (other_service by) services) ≡ map (other_service by) (with_open name phase services)
    with-open-by name (Absent lives) services = refl
    with-open-by name (BeingMade life by_whom) services = refl
    with-open-by name (Emptied life agreed by_whom) services = refl
    with-open-by name (Published life agreed nodes) services = here agreed.settings
      where
        here : (s : Settings) → (elim s [
          | settings.PublishSubscribe c ↦ cond
              (list_any (λ (service : Service T). bytes_eq service.name name) (map (other_service {T = T} by) services))
              (map (other_service {T = T} by) services) (map (other_service {T = T} by) services ++ new_service name c ∷ [])
          | settings.Event c ↦ map (other_service {T = T} by) services
          | settings.RequestResponse c ↦ map (other_service {T = T} by) services
        ]) ≡ map (other_service {T = T} by) (elim s [
          | settings.PublishSubscribe c ↦ cond (list_any (λ (service : Service T). bytes_eq service.name name) services) services
              (services ++ new_service name c ∷ [])
          | settings.Event c ↦ services
          | settings.RequestResponse c ↦ services
        ])
        here (settings.PublishSubscribe c) =
            ap₂ (λ (b : Bool) (all : List (Service T)). cond b (map (other_service by) services) all)
            (any-by (other_service by) (λ (service : Service T). bytes_eq service.name name)
            (λ (service : Service T). bytes_eq service.name name) (λ service. refl) services)
            (ap (λ (one : Service T). map (other_service by) services ++ one ∷ []) (new-service-by name c)
            ∙ sym (map-append (other_service by) services (new_service name c ∷ [])))
            ∙ cond-of (map (other_service by)) (list_any (λ (service : Service T). bytes_eq service.name name) services) services
            (services ++ new_service name c ∷ [])
        here (settings.Event c) = refl
        here (settings.RequestResponse c) = refl

    enters-by : (factory : Factory) (phase : Phase) (lacking : Refusal) (old : State T) (answer : Reply T) (new : State T)
        → IsNext made (other_reply by answer) → Enters factory phase lacking old answer new
        → Enters factory phase lacking (other_state made old) (other_reply by answer) (other_end made answer new)
    enters-by factory phase lacking old answer new next (inl (told, came)) =
        let same : by.factories.to (old.made.factories + 1) ≡ made.factories + 1 =
        subst (λ (it : Reply T). IsNext made (other_reply by it)) told next in
        inl (
          ap (other_reply by) told ∙ ap reply.FactoryMade same,
          ap (other_end made answer) came
              ∙ ap₂ (λ (factories : List (ℕ × Factory)) (services : List (Service T)).
              record (with_phase factory.pattern factory.name phase (other_state made old)) {
                made = counted (other_reply by answer) made;
                factories = factories;
                services = services;
              })
              (map-append (factory_entry by) old.factories ((old.made.factories + 1, factory) ∷ [])
              ∙ ap (λ (number : ℕ). map (factory_entry by) old.factories ++ (number, factory) ∷ []) same)
              (sym (with-open-by factory.name phase old.services)),
        )
    enters-by factory phase lacking old answer new next (inr refused) =
        inr (state-refused lacking (with_phase factory.pattern factory.name (closed_by factory.node phase) old) answer new refused)

    pub negotiates-by : {F : Type 0} (Calls : Call → Answer F → Call → Type 0) (told : F → Refusal) (lacking : Bool → F) (factory : Factory)
        (old : State T) (answer : Reply T) (new : State T)
        → made.nodes ≡ old.made.nodes → IsNext made (other_reply by answer) → Negotiates Calls told lacking factory old answer new
        → Negotiates Calls told lacking factory (other_state made old) (other_reply by answer) (other_end made answer new)
    negotiates-by {F} Calls told lacking factory old answer new nodes next h =
        over-bool (nat_le 1 factory.node && nat_le factory.node old.made.nodes)
        (nat_le 1 factory.node && nat_le factory.node made.nodes)
        (ap (λ (count : ℕ). nat_le 1 factory.node && nat_le factory.node count) nodes) called (state-skipped old answer new) h
      where
        called : IsRefused (told (lacking false)) old answer new
            ⊎ ((found : Result Bool F) × (after : Call)
            × Calls (record { phase = old.phases factory.pattern factory.name; accesses = 0 }) (Some found) after
            × MatchResult found
            (λ is_new. Enters factory after.phase (told (lacking is_new)) old answer new)
            (λ failure. IsRefused (told failure) (with_phase factory.pattern factory.name after.phase old) answer new))
            → IsRefused (told (lacking false)) (other_state made old) (other_reply by answer) (other_end made answer new)
            ⊎ ((found : Result Bool F) × (after : Call)
            × Calls (record { phase = old.phases factory.pattern factory.name; accesses = 0 }) (Some found) after
            × MatchResult found
            (λ is_new. Enters factory after.phase (told (lacking is_new)) (other_state made old) (other_reply by answer)
            (other_end made answer new))
            (λ failure. IsRefused (told failure) (with_phase factory.pattern factory.name after.phase (other_state made old))
            (other_reply by answer) (other_end made answer new)))
        called (inl refused) = inl (state-refused (told (lacking false)) old answer new refused)
        called (inr (Ok is_new, after, went, entered)) =
            inr (Ok is_new, after, went, enters-by factory after.phase (told (lacking is_new)) old answer new next entered)
        called (inr (Err failure, after, went, refused)) =
            inr (
              Err failure,
              after,
              went,
              state-refused (told failure) (with_phase factory.pattern factory.name after.phase old) answer new refused,
            )

    pub opens-by : (types : MessageTypeDetails) (steps : List StepBefore) (factory : Factory) (named : ServiceOptions) (required : Required)
        (old : State T) (answer : Reply T) (new : State T)
        → made.nodes ≡ old.made.nodes → IsNext made (other_reply by answer)
        → OpensService types steps factory named required old answer new
        → OpensService types steps factory named required (other_state made old) (other_reply by answer) (other_end made answer new)
    opens-by types steps factory named required old answer new nodes next h =
        negotiates-by (Opens types factory.pattern steps (Own factory.node) (verdict types named required))
        (open_refusal named) (λ is_new. unopened.OutOfMemory) factory old answer
        new nodes next h

    pub either-by : (types : MessageTypeDetails) (steps : List StepBefore) (factory : Factory) (named : ServiceOptions)
        (required : Required) (old : State T) (answer : Reply T) (new : State T)
        → made.nodes ≡ old.made.nodes → IsNext made (other_reply by answer)
        → OpensOrCreatesService types steps factory named required old answer new
        → OpensOrCreatesService types steps factory named required (other_state made old) (other_reply by answer)
        (other_end made answer new)
    either-by types steps factory named required old answer new nodes next h =
        negotiates-by (OpensOrCreates types factory.pattern steps (Own factory.node) (verdict types named required)
        (record { settings = settings_of types named; attributes = required.pairs }))
        (either_refusal named) either_lacking factory old answer
        new nodes next h

    pub acts-by : (types : MessageTypeDetails) (pattern : MessagingPattern) (name : List ℕ) (steps : List ForeignStep) (old : State T)
        (answer : Reply T) (new : State T)
        → Acts types pattern name steps old answer new
        → Acts types pattern name steps (other_state made old) (other_reply by answer) (other_end made answer new)
    acts-by types pattern name steps old answer new (inl (told, came)) =
        inl (ap (other_reply by) told, ap₂ (other_end made) told came)
    acts-by types pattern name steps old answer new (inr (done, few, refused)) =
        inr (
          done,
          few,
          state-refused (refusal.Hub OutOfMemory)
              (with_phase pattern name (fold (acted types pattern) (old.phases pattern name) (take done steps)) old) answer new refused,
        )

    -- ---- a factory is closed

    used-by : (number : ℕ) (service : Service T)
        → is_used_by (by.factories.to number) (other_service by service) ≡ is_used_by number service
    used-by number service = λ i.
        any-by (publisher_entry by) (λ (entry : ℕ × Publisher T). entry.1.stands && entry.1.factory == by.factories.to number)
        (λ (entry : ℕ × Publisher T). entry.1.stands && entry.1.factory == number)
        (λ entry. ap (λ (b : Bool). entry.1.stands && b) (same-to by.factories entry.1.factory number)) service.publishers i
        || (any-by (subscriber_entry by) (λ (entry : ℕ × Subscriber). entry.1.stands && entry.1.factory == by.factories.to number)
        (λ (entry : ℕ × Subscriber). entry.1.stands && entry.1.factory == number)
        (λ entry. ap (λ (b : Bool). entry.1.stands && b) (same-to by.factories entry.1.factory number)) service.subscribers i
        || (any-by (loan_entry by)
        (λ (entry : ℕ × Loan T). option_map_or (λ (publisher : Publisher T). publisher.factory == by.factories.to number)
        (at entry.1.publisher (map (publisher_entry by) service.publishers)) false)
        (λ (entry : ℕ × Loan T). option_map_or (λ (publisher : Publisher T). publisher.factory == number)
        (at entry.1.publisher service.publishers) false) (λ entry. lender entry.1.publisher) service.loans i
        || any-by (sample_entry by)
        (λ (entry : ℕ × Sample T). option_map_or (λ (subscriber : Subscriber). subscriber.factory == by.factories.to number)
        (at entry.1.subscriber (map (subscriber_entry by) service.subscribers)) false)
        (λ (entry : ℕ × Sample T). option_map_or (λ (subscriber : Subscriber). subscriber.factory == number)
        (at entry.1.subscriber service.subscribers) false) (λ entry. holder entry.1.subscriber) service.samples i))
      where
        lender : (publisher : ℕ)
            → option_map_or (λ (one : Publisher T). one.factory == by.factories.to number)
            (at (by.publishers.to publisher) (map (publisher_entry by) service.publishers)) false
            ≡ option_map_or (λ (one : Publisher T). one.factory == number) (at publisher service.publishers) false
        lender publisher =
            ap (λ (found : Option (Publisher T)). option_map_or (λ (one : Publisher T). one.factory == by.factories.to number) found false)
            (at-by by.publishers (other_publisher by) publisher service.publishers)
            ∙ or-by (other_publisher by) (λ (one : Publisher T). one.factory == by.factories.to number)
            (λ (one : Publisher T). one.factory == number) false (λ one. same-to by.factories one.factory number)
            (at publisher service.publishers)

        holder : (subscriber : ℕ)
            → option_map_or (λ (one : Subscriber). one.factory == by.factories.to number)
            (at (by.subscribers.to subscriber) (map (subscriber_entry by) service.subscribers)) false
            ≡ option_map_or (λ (one : Subscriber). one.factory == number) (at subscriber service.subscribers) false
        holder subscriber =
            ap (λ (found : Option Subscriber). option_map_or (λ (one : Subscriber). one.factory == by.factories.to number) found false)
            (at-by by.subscribers (other_subscriber by) subscriber service.subscribers)
            ∙ or-by (other_subscriber by) (λ (one : Subscriber). one.factory == by.factories.to number)
            (λ (one : Subscriber). one.factory == number) false (λ one. same-to by.factories one.factory number)
            (at subscriber service.subscribers)

    -- A factory of a number is closed.
    abbrev ClosesIt : ℕ → State T → Reply T → State T → Factory → Type 0
    ClosesIt number old answer new factory =
        MatchBool (list_any (λ (service : Service T). is_service_of factory service && is_used_by number service) old.services)
        (IsRefused (refusal.Close StillInUse) old answer new)
        ((answer ≡ reply.Done)
        × (new ≡ record (with_phase factory.pattern factory.name (closed_by factory.node (old.phases factory.pattern factory.name)) old) {
          factories = removed number old.factories;
          services = cond (list_any (λ (entry : ℕ × Factory). same_pattern entry.1.pattern factory.pattern
              && bytes_eq entry.1.name factory.name)
              (removed number old.factories))
              old.services (filter (λ (service : Service T). not (is_service_of factory service)) old.services);
        }))

    closes-it-by : (number : ℕ) (old : State T) (answer : Reply T) (new : State T) (factory : Factory)
        → ClosesIt number old answer new factory
        → ClosesIt (by.factories.to number) (other_state made old) (other_reply by answer) (other_end made answer new) factory
    closes-it-by number old answer new factory h =
        over-bool (list_any (λ (service : Service T). is_service_of factory service && is_used_by number service) old.services)
        (list_any (λ (service : Service T). is_service_of factory service && is_used_by (by.factories.to number) service)
        (map (other_service by) old.services))
        (any-by (other_service by)
        (λ (service : Service T). is_service_of factory service && is_used_by (by.factories.to number) service)
        (λ (service : Service T). is_service_of factory service && is_used_by number service)
        (λ service. ap (λ (b : Bool). is_service_of factory service && b) (used-by number service)) old.services)
        (state-refused (refusal.Close StillInUse) old answer new) ends h
      where
        is_last : List (ℕ × Factory) → Bool
        is_last factories =
            list_any (λ (entry : ℕ × Factory). same_pattern entry.1.pattern factory.pattern && bytes_eq entry.1.name factory.name)
            factories

        removed-same : removed (by.factories.to number) (map (factory_entry by) old.factories)
            ≡ map (factory_entry by) (removed number old.factories)
        removed-same = removed-by by.factories (λ (it : Factory). it) number old.factories

        last-same : is_last (removed (by.factories.to number) (map (factory_entry by) old.factories))
            ≡ is_last (removed number old.factories)
        last-same =
            ap is_last removed-same
            ∙ any-by (factory_entry by)
            (λ (entry : ℕ × Factory). same_pattern entry.1.pattern factory.pattern && bytes_eq entry.1.name factory.name)
            (λ (entry : ℕ × Factory). same_pattern entry.1.pattern factory.pattern && bytes_eq entry.1.name factory.name) (λ entry. refl)
            (removed number old.factories)

        services-same : cond (is_last (removed (by.factories.to number) (map (factory_entry by) old.factories)))
            (map (other_service by) old.services)
            (filter (λ (service : Service T). not (is_service_of factory service)) (map (other_service by) old.services))
            ≡ map (other_service by) (cond (is_last (removed number old.factories)) old.services
            (filter (λ (service : Service T). not (is_service_of factory service)) old.services))
        services-same =
            ap₂ (λ (b : Bool) (rest : List (Service T)). cond b (map (other_service by) old.services) rest) last-same
            (filter-by (other_service by) (λ (service : Service T). not (is_service_of factory service))
            (λ (service : Service T). not (is_service_of factory service)) (λ service. refl) old.services)
            ∙ cond-of (map (other_service by)) (is_last (removed number old.factories)) old.services
            (filter (λ (service : Service T). not (is_service_of factory service)) old.services)

        ends : (answer ≡ reply.Done)
            × (new ≡ record (with_phase factory.pattern factory.name
            (closed_by factory.node (old.phases factory.pattern factory.name)) old) {
              factories = removed number old.factories;
              services = cond (is_last (removed number old.factories)) old.services
                  (filter (λ (service : Service T). not (is_service_of factory service)) old.services);
            })
            → (other_reply by answer ≡ reply.Done)
            × (other_end made answer new ≡ record (with_phase factory.pattern factory.name
            (closed_by factory.node (old.phases factory.pattern factory.name)) (other_state made old)) {
              factories = removed (by.factories.to number) (map (factory_entry by) old.factories);
              services = cond (is_last (removed (by.factories.to number) (map (factory_entry by) old.factories)))
                  (map (other_service by) old.services)
                  (filter (λ (service : Service T). not (is_service_of factory service)) (map (other_service by) old.services));
            })
        ends (told, came) = (
          ap (other_reply by) told,
          ap₂ (other_end made) told came
              ∙ ap₂ (λ (factories : List (ℕ × Factory)) (services : List (Service T)).
              record (with_phase factory.pattern factory.name
              (closed_by factory.node (old.phases factory.pattern factory.name)) (other_state made old)) {
                factories = factories;
                services = services;
              }) (sym removed-same) (sym services-same),
        )

    pub closes-by : (number : ℕ) (old : State T) (answer : Reply T) (new : State T) → Closes number old answer new
        → Closes (by.factories.to number) (other_state made old) (other_reply by answer) (other_end made answer new)
    closes-by number old answer new h =
        over-option
        (λ (factory : Factory). ClosesIt (by.factories.to number) (other_state made old) (other_reply by answer) (other_end made answer new)
        factory) (λ (factory : Factory). factory) (at number old.factories)
        (at (by.factories.to number) (map (factory_entry by) old.factories)) (found-factory number old) (state-skipped old answer new)
        (closes-it-by number old answer new) h

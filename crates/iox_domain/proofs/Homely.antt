-- A call on what is borrowed from a domain is a call on its home.
use Rattle.std.proofs.Common.{rules, ℕ, ◌≡◌, Bool, true, false, Option, None, Some, Result, Ok, Err, refl, sym, ap, subst, ◌∙◌}
use Rattle.std.specs.Option.{option_map}
use Rattle.std.specs.Prelude.{IsSome}
use Rattle.iox_domain.specs.DomainValues.Sizes.{buffer_of}
use Rattle.iox_domain.specs.DomainValues.declared.create_error.PublisherCreateError.{PublisherCreateError}
use Rattle.iox_domain.specs.DomainValues.declared.create_error.SubscriberCreateError.{SubscriberCreateError}
use Rattle.iox_domain.specs.DomainValues.declared.degradation.DegradationAction.{DegradationAction}
use Rattle.iox_domain.specs.DomainValues.declared.degradation.DegradationInfo.{DegradationInfo}
use Rattle.iox_domain.specs.DomainValues.declared.port_owner.PortOwner.{PortOwner}
use Rattle.iox_domain.specs.AtHomes.{AtDomain, LeavesDomain, MakesAt, dropped_if}
use Rattle.iox_domain.specs.Steps.{PublisherComes, SubscriberComes, why_no_publisher, why_no_subscriber}
use Rattle.iox_domain.specs.declared.domain_id.DomainId.{DomainId}
use Rattle.iox_domain.specs.Making.{slots_needed, publisher_place, CreatesPublisher, subscriber_place, CreatesSubscriber}
use Rattle.iox_domain.specs.declared.ports.making.PublisherConfig.{PublisherConfig}
use Rattle.iox_domain.specs.declared.ports.making.SubscriberConfig.{SubscriberConfig}
use Rattle.iox_domain.specs.declared.ports.service_ports.ServicePorts.{ServicePorts}
use Rattle.iox_domain.specs.Kept.{kept}
use Rattle.iox_domain.specs.Publishing.{MakesPublisher, kept_unless}
use Rattle.iox_domain.specs.States.{with_ports, ports_in, publisher_kept, subscriber_kept, publisher_forgotten, subscriber_forgotten}
use Rattle.iox_domain.specs.Subscribing.{MakesSubscriber}
use Rattle.iox_domain.specs.declared.state.DomainState.{DomainState}

-- a publisher that comes has the number that comes next
pub publisher_number : {T U : Type 0} (overrides : ℕ → ℕ → Type 0) (may : DegradationInfo → DegradationAction → Type 0)
    (config : PublisherConfig) (user_header : U) (needed place : Option ℕ) (old : ServicePorts T U) (number : ℕ) (new : ServicePorts T U)
    → CreatesPublisher overrides may config user_header needed place old (Ok number) new → number ≡ old.next_port
publisher_number overrides may config user_header None place old number new (refused, same) = cc
publisher_number overrides may config user_header (Some needed) None old number new (refused, same) = cc
publisher_number overrides may config user_header (Some needed) (Some place) old number new (slots, may_be, Err error, adds, answer) = cc
publisher_number overrides may config user_header (Some needed) (Some place) old number new
    (slots, may_be, Ok came, (listed, is, outcome, port, updates, next, rest), answer) = search (rules, next, answer)

-- a subscriber that comes has the number that comes next
pub subscriber_number : {T U : Type 0} (may : DegradationInfo → DegradationAction → Type 0) (owner : PortOwner)
    (buffer_size : Result ℕ SubscriberCreateError) (place : Option ℕ) (old : ServicePorts T U) (number : ℕ) (new : ServicePorts T U)
    → CreatesSubscriber may owner buffer_size place old (Ok number) new → number ≡ old.next_port
subscriber_number may owner (Err refusal) place old number new (refused, same) = cc
subscriber_number may owner (Ok buffer_size) None old number new (refused, same) = cc
subscriber_number may owner (Ok buffer_size) (Some place) old number new (Err error, adds, answer) = cc
subscriber_number may owner (Ok buffer_size) (Some place) old number new (Ok came, (between, follows, next, rest), answer)
    = search (rules, next, answer)

-- what becomes of a domain where a port is to come: it comes, and who decides for it is kept; or it is refused, and nothing has changed
abbrev pub Comes : {T U B D E : Type 0} → (ℕ → DomainState T U B D → DomainState T U B D)
    → (ServicePorts T U → ℕ → ServicePorts T U → Type 0) → (ServicePorts T U → E) → DomainState T U B D → Result ℕ E
    → DomainState T U B D → Type 0
Comes keep step refusal domain (Err error) after = (error ≡ refusal domain.ports) × (after ≡ domain)
Comes keep step refusal domain (Ok number) after = step domain.ports number after.ports
    × (after ≡ keep number (with_ports after.ports domain))

-- a publisher that comes is kept under the number that comes next
pub publisher_comes : {T U B D : Type 0} (overrides : ℕ → ℕ → Type 0) (may : DegradationInfo → DegradationAction → Type 0)
    (config : PublisherConfig) (user_header : U) (handlers : B) (domain after : DomainState T U B D)
    (answer : Result ℕ PublisherCreateError)
    → MakesPublisher overrides may config user_header handlers domain answer after
    → Comes (λ number. publisher_kept number handlers) (PublisherComes overrides may config user_header) (why_no_publisher config)
    domain answer after
publisher_comes overrides may config user_header handlers domain after (Err error) makes = makes
publisher_comes overrides may config user_header handlers domain after (Ok number) (comes, rest) =
    let next : number ≡ domain.ports.next_port
    = publisher_number overrides may config user_header (slots_needed config domain.ports) (publisher_place domain.ports)
    domain.ports number after.ports comes in (
      comes,
      rest ∙ ap (λ number. record (with_ports after.ports domain)
          { publisher_handlers = kept number handlers domain.publisher_handlers }) (sym next),
    )

-- a subscriber that comes is kept under the number that comes next
pub subscriber_comes : {T U B D : Type 0} (may : DegradationInfo → DegradationAction → Type 0) (config : SubscriberConfig) (handler : D)
    (domain after : DomainState T U B D) (answer : Result ℕ SubscriberCreateError)
    → MakesSubscriber may config handler domain answer after
    → Comes (λ number. subscriber_kept number handler) (SubscriberComes may config) (why_no_subscriber config) domain answer after
subscriber_comes may config handler domain after (Err error) makes = makes
subscriber_comes may config handler domain after (Ok number) (comes, rest) =
    let next : number ≡ domain.ports.next_port
    = subscriber_number may config.owner (buffer_of config.buffer_size domain.ports.sizes) (subscriber_place domain.ports)
    domain.ports number after.ports comes in (
      comes,
      rest ∙ ap (λ number. record (with_ports after.ports domain)
          { subscriber_handlers = kept number handler domain.subscriber_handlers }) (sym next),
    )

-- who decided for a publisher that left is forgotten
pub publisher_dropped : {T U B D : Type 0} (number : ℕ) (answer : Bool) (ports : ServicePorts T U) (domain : DomainState T U B D)
    → record (with_ports ports domain) { publisher_handlers = kept_unless answer number domain.publisher_handlers }
    ≡ dropped_if answer (publisher_forgotten number) (with_ports ports domain)
publisher_dropped number false ports domain = refl
publisher_dropped number true ports domain = refl

-- who decided for a subscriber that left is forgotten
pub subscriber_dropped : {T U B D : Type 0} (number : ℕ) (answer : Bool) (ports : ServicePorts T U) (domain : DomainState T U B D)
    → record (with_ports ports domain) { subscriber_handlers = kept_unless answer number domain.subscriber_handlers }
    ≡ dropped_if answer (subscriber_forgotten number) (with_ports ports domain)
subscriber_dropped number false ports domain = refl
subscriber_dropped number true ports domain = refl

-- a home, with the laws that hold of it
module _ {T U B D H : Type 0} (domain_of : DomainId → H → Option (DomainState T U B D))
    (changed : DomainId → (DomainState T U B D → DomainState T U B D) → H → H)
    (alike : (id : DomainId) (one other : DomainState T U B D → DomainState T U B D) (home : H)
    → option_map one (domain_of id home) ≡ option_map other (domain_of id home) → changed id one home ≡ changed id other home) where
  -- a domain that ends as a step of it is after that step
  pub ends : (id : DomainId) (step : DomainState T U B D → DomainState T U B D) (home : H) (domain after : DomainState T U B D)
      → domain_of id home ≡ Some domain → after ≡ step domain → changed id (λ before. after) home ≡ changed id step home
  ends id step home domain after found is =
      alike id (λ before. after) step home
      (ap (option_map (λ before. after)) found ∙ ap (λ state. Some state) is ∙ sym (ap (option_map step) found))

  -- a call of the ports of a domain is one at its home, by what may be answered by who decides there
  pub at_here : {A : Type 0} (id : DomainId)
      (step : Option (DomainState T U B D) → ServicePorts T U → Option A → ServicePorts T U → Type 0) (home : H)
      (domain after : DomainState T U B D) (answer : Option A) → domain_of id home ≡ Some domain
      → step (Some domain) domain.ports answer after.ports → after ≡ with_ports after.ports domain
      → AtDomain (λ ports. changed id (with_ports ports) home) (step (domain_of id home)) (ports_in (domain_of id home)) home answer
      (changed id (λ before. after) home)
  at_here id step home domain after answer found steps rest =
      subst (λ there. AtDomain (λ ports. changed id (with_ports ports) home) (step there) (ports_in there) home answer
      (changed id (λ before. after) home)) (sym found)
      (after.ports, steps, ends id (with_ports after.ports) home domain after found rest)

  module _ (again : (id : DomainId) (first second : DomainState T U B D → DomainState T U B D) (home : H)
      → changed id second (changed id first home) ≡ changed id (λ state. second (first state)) home) where
    then_step : (id : DomainId) (ports : ServicePorts T U) (step : DomainState T U B D → DomainState T U B D) (home : H)
        (domain after : DomainState T U B D) → domain_of id home ≡ Some domain → after ≡ step (with_ports ports domain)
        → changed id (λ before. after) home ≡ changed id step (changed id (with_ports ports) home)
    then_step id ports step home domain after found is =
        ends id (λ state. step (with_ports ports state)) home domain after found is ∙ sym (again id (with_ports ports) step home)

    left : (id : DomainId) (forget : DomainState T U B D → DomainState T U B D) (answer : Bool) (ports : ServicePorts T U) (home : H)
        (domain after : DomainState T U B D) → domain_of id home ≡ Some domain → after ≡ dropped_if answer forget (with_ports ports domain)
        → changed id (λ before. after) home ≡ dropped_if answer (changed id forget) (changed id (with_ports ports) home)
    left id forget false ports home domain after found is = ends id (with_ports ports) home domain after found is
    left id forget true ports home domain after found is = then_step id ports forget home domain after found is

    -- a port that leaves at home
    pub leaves_here : (id : DomainId) (forget : DomainState T U B D → DomainState T U B D)
        (step : ServicePorts T U → Bool → ServicePorts T U → Type 0) (home : H) (domain after : DomainState T U B D) (answer : Bool)
        → domain_of id home ≡ Some domain
        → step domain.ports answer after.ports → after ≡ dropped_if answer forget (with_ports after.ports domain)
        → LeavesDomain (λ ports. changed id (with_ports ports) home) (changed id forget) step (ports_in (domain_of id home)) home answer
        (changed id (λ before. after) home)
    leaves_here id forget step home domain after answer found steps rest =
        subst (λ there. LeavesDomain (λ ports. changed id (with_ports ports) home) (changed id forget) step (ports_in there) home answer
        (changed id (λ before. after) home)) (sym found)
        (after.ports, steps, left id forget answer after.ports home domain after found rest)

    module _ (unchanged : (id : DomainId) (home : H) → changed id (λ state. state) home ≡ home) where
      comes_found : {E : Type 0} (id : DomainId) (keep : ℕ → DomainState T U B D → DomainState T U B D)
          (step : ServicePorts T U → ℕ → ServicePorts T U → Type 0) (refusal : ServicePorts T U → E) (home : H)
          (domain after : DomainState T U B D) (answer : Result ℕ E) → domain_of id home ≡ Some domain
          → Comes keep step refusal domain answer after
          → MakesAt (λ ports. changed id (with_ports ports) home) (λ number. changed id (keep number)) step refusal (Some domain.ports)
          home (Some answer) (changed id (λ before. after) home)
      comes_found id keep step refusal home domain after (Err error) found (is, same)
          = (is, ends id (λ state. state) home domain after found same ∙ unchanged id home)
      comes_found id keep step refusal home domain after (Ok number) found (comes, rest)
          = (after.ports, comes, then_step id after.ports (keep number) home domain after found rest)

      -- a port that comes at home
      pub comes_here : {E : Type 0} (id : DomainId) (keep : ℕ → DomainState T U B D → DomainState T U B D)
          (step : ServicePorts T U → ℕ → ServicePorts T U → Type 0) (refusal : ServicePorts T U → E) (home : H)
          (domain after : DomainState T U B D) (answer : Result ℕ E) → domain_of id home ≡ Some domain
          → Comes keep step refusal domain answer after
          → MakesAt (λ ports. changed id (with_ports ports) home) (λ number. changed id (keep number)) step refusal
          (ports_in (domain_of id home)) home (Some answer) (changed id (λ before. after) home)
      comes_here id keep step refusal home domain after answer found comes =
          subst (λ there. MakesAt (λ ports. changed id (with_ports ports) home) (λ number. changed id (keep number)) step refusal
          (ports_in there) home (Some answer) (changed id (λ before. after) home)) (sym found)
          (comes_found id keep step refusal home domain after answer found comes)

put_if : {T U B D : Type 0} (ports : ServicePorts T U) (found : Option (DomainState T U B D)) → IsSome (ports_in found)
    → ports_in (option_map (with_ports ports) found) ≡ Some ports
put_if ports None there = cc
put_if ports (Some domain) there = refl

-- ports that were put into a domain are there
pub put_is_there : {T U B D H : Type 0} (domain_of : DomainId → H → Option (DomainState T U B D))
    (changed : DomainId → (DomainState T U B D → DomainState T U B D) → H → H)
    → ((id : DomainId) (step : DomainState T U B D → DomainState T U B D) (home : H)
    → domain_of id (changed id step home) ≡ option_map step (domain_of id home))
    → (id : DomainId) (ports : ServicePorts T U) (home : H) → IsSome (ports_in (domain_of id home))
    → ports_in (domain_of id (changed id (with_ports ports) home)) ≡ Some ports
put_is_there domain_of changed found id ports home there
    = ap ports_in (found id (with_ports ports) home) ∙ put_if ports (domain_of id home) there

same_if : {T U B D : Type 0} (ports : ServicePorts T U) (found : Option (DomainState T U B D)) → ports_in found ≡ Some ports
    → option_map (with_ports ports) found ≡ option_map (λ state. state) found
same_if ports None there = refl
same_if ports (Some domain) there = ap (λ one. Some (record domain { ports = one })) (sym (one_value there))
  where
    value_or : {X : Type 0} → X → Option X → X
    value_or default None = default
    value_or default (Some value) = value

    one_value : {X : Type 0} {x y : X} → Some x ≡ Some y → x ≡ y
    one_value {X} {x} {y} same = ap (value_or x) same

-- to put the ports that are there changes nothing
pub same_stays : {T U B D H : Type 0} (domain_of : DomainId → H → Option (DomainState T U B D))
    (changed : DomainId → (DomainState T U B D → DomainState T U B D) → H → H)
    → ((id : DomainId) (one other : DomainState T U B D → DomainState T U B D) (home : H)
    → option_map one (domain_of id home) ≡ option_map other (domain_of id home) → changed id one home ≡ changed id other home)
    → ((id : DomainId) (home : H) → changed id (λ state. state) home ≡ home)
    → (id : DomainId) (ports : ServicePorts T U) (home : H) → ports_in (domain_of id home) ≡ Some ports
    → changed id (with_ports ports) home ≡ home
same_stays domain_of changed alike unchanged id ports home there
    = alike id (with_ports ports) (λ state. state) home (same_if ports (domain_of id home) there) ∙ unchanged id home

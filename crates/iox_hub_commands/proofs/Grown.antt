-- A domain of a hub goes on by calls of ports, one comes or goes, and all others stay.
use Rattle.std.proofs.Common.{◌≡◌, ◌∙◌, ℕ, ◌+◌, ◌++◌, Bool, true, false, cond, List, [], ◌∷◌, Option, None, Some, Result, Ok, Err}
use Rattle.std.proofs.Common.{refl, sym, ap, subst}
use Rattle.std.specs.BTreeMap.{insert_entry, is_at}
use Rattle.std.specs.Map.{lookup, set_value, remove_entry}
use Rattle.std.specs.Ordering.{nat_cmp, is_eq, match_ordering}
use Rattle.std.specs.declared.cmp.Ordering.{Ordering}
use Rattle.std.specs.declared.cmp.Ordering.TheVariants.{Less, Equal, Greater}
use Rattle.iox_delivery.specs.Publishing.{changed_at}
use Rattle.iox_delivery.specs.Slices.{each_written}
use Rattle.iox_delivery.specs.Domain.Domains.{with_ports}
use Rattle.iox_delivery.specs.Domain.declared.domain.Domain.{Domain}
use Rattle.iox_hub_base.specs.AsHome.{hub_ports, with_hub_ports, with_services}
use Rattle.iox_hub_base.specs.declared.hub.Hub.{Hub}
use Rattle.iox_hub_base.specs.ServicesAsHome.{domain_at, ports_if, stepped_if, stepped}
use Rattle.iox_hub_base.specs.HomeLaws.{here_stands, stands_at, stepped_elsewhere}
use Rattle.iox_hub_base.specs.Numbered.{one_value, is_number, changed_found, changed_twice, same_unchanged}
use Rattle.iox_hub_base.specs.Open.{OpenServices, presence_of}
use Rattle.iox_hub_base.specs.declared.presence.Presence.{Presence}
use Rattle.iox_hub_base.specs.declared.presence.Presence.TheVariants.{Here}
use Rattle.iox_delivery.specs.Domain.AtHomes.{AtDomain, LeavesDomain, MakesAt}
use Rattle.iox_delivery.specs.Domain.declared.domain_id.DomainId.{DomainId}
use Rattle.iox_delivery.specs.Domain.Calls.{PortCall, Writes, Happens}
use Rattle.iox_delivery.specs.Domain.Order.{Happen}
use Rattle.iox_delivery.specs.Domain.Lending.{written_in}
use Rattle.iox_delivery.specs.Domain.declared.ports.service_ports.ServicePorts.{ServicePorts}
use Rattle.iox_delivery.specs.DomainPorts.Writing.{changed_if}
use Rattle.iox_delivery.specs.DomainPorts.declared.publisher_port.PublisherPort.{PublisherPort}
use Rattle.iox_delivery.specs.DomainPorts.Messages.{Loan, write_value}
use Rattle.iox_delivery.specs.DomainPorts.MessagesSending.{has_place}
use Rattle.iox_delivery.specs.DomainPorts.Publishers.{port_of, changed, changed_at_port, with_port}
use Rattle.iox_command.specs.DomainValues.declared.backpressure.BackpressureDecision.{BackpressureDecision}
use Rattle.iox_command.specs.DomainValues.declared.backpressure.BackpressureInfo.{BackpressureInfo}
use Rattle.iox_command.specs.DomainValues.declared.degradation.DegradationAction.{DegradationAction}
use Rattle.iox_command.specs.DomainValues.declared.degradation.DegradationInfo.{DegradationInfo}
use Rattle.iox_hub_commands.specs.Grown.{AnySlots, AnyAction, AnyDecision, LeadsTo, HasGrown, HaveGrown, GrowsOn, OthersStay}
use Rattle.iox_hub_commands.proofs.Agreeing.{KeepsAgreed, same_agreed, kept_twice, set_agreed}
use Rattle.iox_hub_commands.proofs.Loosening.{loosened}

-- calls, and then more calls
happen_more : {T U : Type 0} (calls more : List (PortCall T U × ServicePorts T U)) (old mid new : ServicePorts T U)
    → Happen AnySlots AnyAction AnyDecision calls old mid → Happen AnySlots AnyAction AnyDecision more mid new
    → Happen AnySlots AnyAction AnyDecision (calls ++ more) old new
happen_more [] more old mid new same later = rw (← same) later
happen_more ((call, next) ∷ calls) more old mid new (happens, happen) later = (happens, happen_more calls more next mid new happen later)

pub leads_on : {T U : Type 0} (old mid new : ServicePorts T U) → LeadsTo old mid → LeadsTo mid new → LeadsTo old new
leads_on old mid new (calls, happen) (more, later) = (calls ++ more, happen_more calls more old mid new happen later)

pub leads_nowhere : {T U : Type 0} (ports : ServicePorts T U) → LeadsTo ports ports
leads_nowhere ports = ([], refl)

-- one call
pub by_call : {T U : Type 0} (call : PortCall T U) (old new : ServicePorts T U) → Happens AnySlots AnyAction AnyDecision call old new
    → LeadsTo old new
by_call call old new happens = ((call, new) ∷ [], (happens, refl))

pub by_handlers : {T U : Type 0} (overrides : ℕ → ℕ → Type 0) (may : DegradationInfo → DegradationAction → Type 0)
    (decide : BackpressureInfo → BackpressureDecision → Type 0) (call : PortCall T U) (old new : ServicePorts T U)
    → Happens overrides may decide call old new → LeadsTo old new
by_handlers overrides may decide call old new happens = by_call call old new (loosened overrides may decide call old new happens)

module _ {T U : Type 0} (number : ℕ) where
  changed_again_at : (first second : PublisherPort T U → PublisherPort T U) (ports : List (ℕ × PublisherPort T U))
      (found : Option (PublisherPort T U)) → port_of number ports ≡ found
      → changed number second (changed_at_port number first found ports) ≡ changed_at_port number (λ port. second (first port)) found ports
  changed_again_at first second ports None is = ap (λ one. changed_at_port number second one ports) is
  changed_again_at first second ports (Some port) is =
      ap (λ one. changed_at_port number second one (with_port number ports (first port))) (changed_found number ports port (first port) is)
      ∙ changed_twice number ports (first port) (second (first port))

  -- a publisher that changes twice
  changed_again : (first second : PublisherPort T U → PublisherPort T U) (ports : List (ℕ × PublisherPort T U))
      → changed number second (changed number first ports) ≡ changed number (λ port. second (first port)) ports
  changed_again first second ports = changed_again_at first second ports (port_of number ports) refl

  unchanged_at : (slot place : ℕ) (ports : List (ℕ × PublisherPort T U)) (found : Option (PublisherPort T U))
      → port_of number ports ≡ found → changed_at_port number (each_written slot place []) found ports ≡ ports
  unchanged_at slot place ports None is = refl
  unchanged_at slot place ports (Some port) is = same_unchanged number ports port is

  -- values that are written one after the other, by what goes on with each
  module _ (Goes : ServicePorts T U → ServicePorts T U → Type 0) (still : (ports : ServicePorts T U) → Goes ports ports)
      (on : (old mid new : ServicePorts T U) → Goes old mid → Goes mid new → Goes old new)
      (writes : (slot : ℕ) (test : PublisherPort T U → Bool) (change : Loan T U → Loan T U) (ports : ServicePorts T U)
      → Goes ports (written_in number test slot change ports)) where
    pub each_goes : (slot place : ℕ) (values : List T) (ports : ServicePorts T U)
        → Goes ports (record ports { publishers = changed number (each_written slot place values) ports.publishers })
    each_goes slot place [] ports =
        subst (λ publishers. Goes ports (record ports { publishers = publishers }))
        (sym (unchanged_at slot place ports.publishers (port_of number ports.publishers) refl)) (still ports)
    each_goes slot place (value ∷ values) ports =
        let write : PublisherPort T U → PublisherPort T U
        = λ port. changed_if (has_place slot place port.sender.uses) slot (write_value place value) port in
        let next : ServicePorts T U = record ports { publishers = changed number write ports.publishers } in
        on ports next _ (writes slot (λ port. has_place slot place port.sender.uses) (write_value place value) ports)
        (subst (λ publishers. Goes next (record ports { publishers = publishers }))
        (changed_again write (each_written slot (place + 1) values) ports.publishers) (each_goes slot (place + 1) values next))

  -- values that are written one after the other
  pub each_leads : (slot place : ℕ) (values : List T) (ports : ServicePorts T U)
      → LeadsTo ports (record ports { publishers = changed number (each_written slot place values) ports.publishers })
  each_leads slot place values ports = each_goes LeadsTo leads_nowhere leads_on
      (λ slot test change ports. by_call (Writes number slot test change) ports (written_in number test slot change ports) refl) slot
      place values ports

module _ {T U B D : Type 0} where
  found_here : (number key : ℕ) (x presence : Presence T U B D) (rest : List (ℕ × Presence T U B D)) (is : Bool)
      → is_at (nat_cmp number) key ≡ is → (lookup (is_at (nat_cmp number)) rest ≡ Some presence → HasGrown number presence)
      → HasGrown key x → cond is (Some x) (lookup (is_at (nat_cmp number)) rest) ≡ Some presence → HasGrown number presence
  found_here number key x presence rest true is later grown found
      = subst (λ k. HasGrown k presence) (sym (is_number number key is)) (subst (λ p. HasGrown key p) (one_value found) grown)
  found_here number key x presence rest false is later grown found = later found

  -- what stands under a number
  grown_found : (number : ℕ) (domains : List (ℕ × Presence T U B D)) (presence : Presence T U B D) → HaveGrown domains
      → presence_of number domains ≡ Some presence → HasGrown number presence
  grown_found number [] presence grown found = cc
  grown_found number (service ∷ services) presence (grown, more) found =
      found_here number service.0 service.1 presence services (is_at (nat_cmp number) service.0) refl
      (λ later. grown_found number services presence more later) grown found

  set_here : (number key : ℕ) (x presence : Presence T U B D) (rest changed_rest : List (ℕ × Presence T U B D)) (is : Bool)
      → is_at (nat_cmp number) key ≡ is → HasGrown number presence → HasGrown key x → HaveGrown rest → HaveGrown changed_rest
      → HaveGrown (cond is ((key, presence) ∷ rest) ((key, x) ∷ changed_rest))
  set_here number key x presence rest changed_rest true is now grown more later
      = (subst (λ k. HasGrown k presence) (is_number number key is) now, more)
  set_here number key x presence rest changed_rest false is now grown more later = (grown, later)

  -- another in its place
  grown_set : (number : ℕ) (domains : List (ℕ × Presence T U B D)) (presence : Presence T U B D) → HaveGrown domains
      → HasGrown number presence → HaveGrown (set_value (is_at (nat_cmp number)) domains presence)
  grown_set number [] presence grown now = tt
  grown_set number (service ∷ services) presence (grown, more) now =
      set_here number service.0 service.1 presence services (set_value (is_at (nat_cmp number)) services presence)
      (is_at (nat_cmp number) service.0) refl now grown more (grown_set number services presence more now)

  gone_here : (key : ℕ) (x : Presence T U B D) (rest left : List (ℕ × Presence T U B D)) (is : Bool) → HasGrown key x → HaveGrown rest
      → HaveGrown left → HaveGrown (cond is rest ((key, x) ∷ left))
  gone_here key x rest left true grown more later = more
  gone_here key x rest left false grown more later = (grown, later)

  -- one that goes
  pub grown_gone : (number : ℕ) (domains : List (ℕ × Presence T U B D)) → HaveGrown domains
      → HaveGrown (remove_entry (is_at (nat_cmp number)) domains)
  grown_gone number [] grown = tt
  grown_gone number (service ∷ services) (grown, more) =
      gone_here service.0 service.1 services (remove_entry (is_at (nat_cmp number)) services) (is_at (nat_cmp number) service.0) grown
      more (grown_gone number services more)

  come_here : (number key : ℕ) (x presence : Presence T U B D) (rest later : List (ℕ × Presence T U B D)) (order : Ordering)
      → nat_cmp number key ≡ order → HasGrown number presence → HasGrown key x → HaveGrown rest → HaveGrown later
      → HaveGrown (match_ordering order ((number, presence) ∷ (key, x) ∷ rest) ((key, presence) ∷ rest) ((key, x) ∷ later))
  come_here number key x presence rest later Less is now grown more inserted = (now, (grown, more))
  come_here number key x presence rest later Equal is now grown more inserted
      = (subst (λ k. HasGrown k presence) (is_number number key (ap is_eq is)) now, more)
  come_here number key x presence rest later Greater is now grown more inserted = (grown, inserted)

  -- one that comes
  pub grown_come : (number : ℕ) (domains : List (ℕ × Presence T U B D)) (presence : Presence T U B D) → HaveGrown domains
      → HasGrown number presence → HaveGrown (insert_entry nat_cmp domains number presence)
  grown_come number [] presence grown now = (now, tt)
  grown_come number (service ∷ services) presence (grown, more) now =
      come_here number service.0 service.1 presence services (insert_entry nat_cmp services number presence) (nat_cmp number service.0)
      refl now grown more (grown_come number services presence more now)

  -- a domain whose ports went on by calls, and which agreed on the same
  abbrev Goes : Domain T U B D → Domain T U B D → Type 0
  Goes before after = (after.agreed ≡ before.agreed) × LeadsTo before.state.ports after.state.ports

  grows_more : (number : ℕ) (before after : Domain T U B D) → Goes before after
      → HasGrown {T = T} {U = U} {B = B} {D = D} number (Here before) → HasGrown {T = T} {U = U} {B = B} {D = D} number (Here after)
  grows_more number before after (agreed, leads) (buffer, grown)
      = (buffer, rw agreed (leads_on _ before.state.ports after.state.ports grown leads))

  step_grows_at : (id : DomainId) (step : Domain T U B D → Domain T U B D) (services : OpenServices T U B D)
      (found : Option (Domain T U B D)) → domain_at id services ≡ found
      → ((domain : Domain T U B D) → found ≡ Some domain → Goes domain (step domain)) → HaveGrown services.domains
      → HaveGrown (stepped_if found id.service step services).domains
  step_grows_at id step services None is goes grown = grown
  step_grows_at id step services (Some domain) is goes grown =
      let stands = here_stands (presence_of id.service services.domains) domain (stands_at id services domain is).found in
      grown_set id.service services.domains (Here (step domain)) grown
      (grows_more id.service domain (step domain) (goes domain refl)
      (grown_found id.service services.domains (Here domain) grown stands))

  step_keeps_at : (id : DomainId) (step : Domain T U B D → Domain T U B D) (services : OpenServices T U B D)
      (found : Option (Domain T U B D)) → domain_at id services ≡ found
      → ((domain : Domain T U B D) → found ≡ Some domain → Goes domain (step domain))
      → KeepsAgreed services.domains (stepped_if found id.service step services).domains
  step_keeps_at id step services None is goes = same_agreed services.domains services.domains refl
  step_keeps_at id step services (Some domain) is goes =
      let stands = here_stands (presence_of id.service services.domains) domain (stands_at id services domain is).found in
      let (agreed, leads) = goes domain refl in
      set_agreed (is_at (nat_cmp id.service)) services.domains (Here (step domain)) (Here domain) stands agreed

  -- the table stays, and each domain is for what it was for
  abbrev pub KeepsAll : Hub T U B D → Hub T U B D → Type 0
  KeepsAll old new = (new.table ≡ old.table) × KeepsAgreed old.services.domains new.services.domains

  -- the domain of an id moves, and no other
  abbrev pub Moves : DomainId → Hub T U B D → Hub T U B D → Type 0
  Moves id old new = OthersStay id old new × GrowsOn old new × KeepsAll old new

  -- some domain moves, and no other
  abbrev pub MovesOne : Hub T U B D → Hub T U B D → Type 0
  MovesOne old new = (id : DomainId) × Moves id old new

  -- one domain at most moves, comes or goes
  abbrev pub Serves : Hub T U B D → Hub T U B D → Type 0
  Serves old new = (id : DomainId) × (OthersStay id old new × GrowsOn old new)

  -- a step of one domain
  step_moves : (id : DomainId) (step : Domain T U B D → Domain T U B D) (hub : Hub T U B D)
      → ((domain : Domain T U B D) → domain_at id hub.services ≡ Some domain → Goes domain (step domain))
      → Moves id hub (with_services hub (stepped id step hub.services))
  step_moves id step hub goes
      = (
        λ other apart. stepped_elsewhere id other step hub.services apart,
        step_grows_at id step hub.services (domain_at id hub.services)
            refl goes,
        (refl, step_keeps_at id step hub.services (domain_at id hub.services) refl goes),
      )

  pub is_moves : (id : DomainId) (old new : Hub T U B D) → new ≡ old → Moves id old new
  is_moves id old new is = (
    λ other apart. ap (λ hub. domain_at other hub.services) is,
    λ grown. rw is grown,
    (ap (λ hub. hub.table) is, same_agreed old.services.domains new.services.domains (ap (λ hub. hub.services.domains) is)),
  )

  -- nothing moves
  pub none_moves : (old new : Hub T U B D) → new ≡ old → MovesOne old new
  none_moves old new is = (record { hub = 0; service = 0 }, is_moves (record { hub = 0; service = 0 }) old new is)

  -- no domain moves, comes or goes
  pub no_service_serves : (old new : Hub T U B D) → new.services ≡ old.services → Serves old new
  no_service_serves old new same = (record { hub = 0; service = 0 }, (λ other apart. ap (domain_at other) same, λ grown. rw same grown))

  pub none_serves : (old new : Hub T U B D) → new ≡ old → Serves old new
  none_serves old new is = no_service_serves old new (ap (λ hub. hub.services) is)

  pub moves_on : (id : DomainId) (old mid new : Hub T U B D) → Moves id old mid → Moves id mid new → Moves id old new
  moves_on id old mid new (stay, grow, (table, keep)) (stay_later, grow_later, (table_later, keep_later)) = (
    λ other apart. stay_later other apart ∙ stay other apart,
    λ grown. grow_later (grow grown),
    (table_later ∙ table, kept_twice old.services.domains mid.services.domains new.services.domains keep keep_later),
  )

  ports_go : (ports after : ServicePorts T U) (domain : Domain T U B D) (found : Option (Domain T U B D)) → LeadsTo ports after
      → ports_if found ≡ Some ports → found ≡ Some domain → Goes domain (with_ports after domain)
  ports_go ports after domain found leads are is =
      let own : domain.state.ports ≡ ports = one_value (ap ports_if (sym is) ∙ are) in
      (refl, rw own leads)

  -- a hub with other ports in one domain
  put_moves : (id : DomainId) (ports after : ServicePorts T U) (hub : Hub T U B D) → hub_ports id hub ≡ Some ports → LeadsTo ports after
      → Moves id hub (with_hub_ports id after hub)
  put_moves id ports after hub are leads
      = step_moves id (with_ports after) hub (λ domain is. ports_go ports after domain (domain_at id hub.services) leads are is)

  -- a step that touches neither ports nor what is agreed
  pub keep_moves : (id : DomainId) (step : Domain T U B D → Domain T U B D)
      → ((domain : Domain T U B D) → ((step domain).agreed ≡ domain.agreed) × ((step domain).state.ports ≡ domain.state.ports))
      → (hub : Hub T U B D)
      → Moves id hub (with_services hub (stepped id step hub.services))
  keep_moves id step keeps hub = step_moves id step hub
      (λ domain is. let (agreed, ports) = keeps domain in (agreed, rw ports (leads_nowhere domain.state.ports)))

  pub at_domain_moves : {A : Type 0} (id : DomainId) (step : ServicePorts T U → Option A → ServicePorts T U → Type 0)
      → ((ports after : ServicePorts T U) (answer : Option A) → step ports answer after → LeadsTo ports after)
      → (found : Option (ServicePorts T U)) (old new : Hub T U B D) (answer : Option A) → hub_ports id old ≡ found
      → AtDomain (λ after. with_hub_ports id after old) step found old answer new → Moves id old new
  at_domain_moves id step leads None old new answer are at = is_moves id old new at.1
  at_domain_moves id step leads (Some ports) old new answer are (after, does, is)
      = rw is (put_moves id ports after old are (leads ports after answer does))

  pub leaves_moves : (id : DomainId) (without : Hub T U B D → Hub T U B D) (step : ServicePorts T U → Bool → ServicePorts T U → Type 0)
      → ((hub : Hub T U B D) → Moves id hub (without hub))
      → ((ports after : ServicePorts T U) (answer : Bool) → step ports answer after → LeadsTo ports after)
      → (found : Option (ServicePorts T U)) (old new : Hub T U B D) (answer : Bool) → hub_ports id old ≡ found
      → LeavesDomain (λ after. with_hub_ports id after old) without step found old answer new → Moves id old new
  leaves_moves id without step spares leads None old new answer are at = is_moves id old new at.1
  leaves_moves id without step spares leads (Some ports) old new false are (after, does, is)
      = rw is (put_moves id ports after old are (leads ports after false does))
  leaves_moves id without step spares leads (Some ports) old new true are (after, does, is) =
      rw is (moves_on id old (with_hub_ports id after old) (without (with_hub_ports id after old))
      (put_moves id ports after old are (leads ports after true does)) (spares (with_hub_ports id after old)))

  pub makes_moves : {E : Type 0} (id : DomainId) (keeping : ℕ → Hub T U B D → Hub T U B D)
      (step : ServicePorts T U → ℕ → ServicePorts T U → Type 0) (refusal : ServicePorts T U → E)
      → ((number : ℕ) (hub : Hub T U B D) → Moves id hub (keeping number hub))
      → ((ports after : ServicePorts T U) (number : ℕ) → step ports number after → LeadsTo ports after)
      → (found : Option (ServicePorts T U)) (old new : Hub T U B D) (answer : Option (Result ℕ E)) → hub_ports id old ≡ found
      → MakesAt (λ after. with_hub_ports id after old) keeping step refusal found old answer new → Moves id old new
  makes_moves id keeping step refusal spares leads None old new answer are at = is_moves id old new at.1
  makes_moves id keeping step refusal spares leads (Some ports) old new None are at = absurd at
  makes_moves id keeping step refusal spares leads (Some ports) old new (Some (Err error)) are at = is_moves id old new at.1
  makes_moves id keeping step refusal spares leads (Some ports) old new (Some (Ok number)) are (after, does, is) =
      rw is (moves_on id old (with_hub_ports id after old) (keeping number (with_hub_ports id after old))
      (put_moves id ports after old are (leads ports after number does)) (spares number (with_hub_ports id after old)))

  changed_moves_at : (id : DomainId) (change : ServicePorts T U → ServicePorts T U)
      → ((ports : ServicePorts T U) → LeadsTo ports (change ports)) → (found : Option (ServicePorts T U)) (old : Hub T U B D)
      → hub_ports id old ≡ found
      → Moves id old (changed_at (λ after. with_hub_ports id after old) change found old)
  changed_moves_at id change leads None old are = is_moves id old old refl
  changed_moves_at id change leads (Some ports) old are = put_moves id ports (change ports) old are (leads ports)

  pub changed_moves : (id : DomainId) (change : ServicePorts T U → ServicePorts T U)
      → ((ports : ServicePorts T U) → LeadsTo ports (change ports)) → (old : Hub T U B D)
      → Moves id old (changed_at (λ after. with_hub_ports id after old) change (hub_ports id old) old)
  changed_moves id change leads old = changed_moves_at id change leads (hub_ports id old) old refl

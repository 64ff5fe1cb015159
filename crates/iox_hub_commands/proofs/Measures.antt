-- What is counted of the ports of all open services, what each call of a port makes of that, and what becomes of it as a domain
-- goes on, comes or goes.
use Rattle.std.proofs.Common.{arith, ◌≡◌, ◌∙◌, ◌+◌, ◌≤◌, ℕ, Bool, true, false, List, [], ◌∷◌, Option, None, Some, Result, Ok, Err}
use Rattle.std.proofs.Common.{if◌then◌else◌, refl, sym, ap, subst}
use Rattle.std.proofs.lemmas.List.Sums.{sum_by-cons}
use Rattle.std.proofs.lemmas.Map.Entries.{sum_by-set_value, sum_by-remove_entry}
use Rattle.std.proofs.lemmas.Map.Views.{All-values-set_value, All-map-remove_entry, All-values-insert_entry, IfSome-lookup_from_All}
use Rattle.std.specs.BTreeMap.{insert_entry, is_at}
use Rattle.std.specs.List.{All}
use Rattle.std.specs.Map.{remove_entry, values_of}
use Rattle.std.specs.Ordering.{nat_cmp, match_ordering}
use Rattle.std.specs.Prelude.{sum_by, IfSome}
use Rattle.std.specs.declared.cmp.Ordering.{Ordering}
use Rattle.std.specs.declared.cmp.Ordering.TheVariants.{Less, Equal, Greater}
use Rattle.iox_delivery.specs.Publishing.{changed_at}
use Rattle.iox_delivery.specs.Domain.AtHomes.{AtDomain, LeavesDomain, MakesAt}
use Rattle.iox_delivery.specs.Domain.declared.domain_id.DomainId.{DomainId}
use Rattle.iox_delivery.specs.Domain.Calls.{PortCall, PublisherComes, SubscriberComes, Lends, GivesLoanUp, Sends, Receives, Releases}
use Rattle.iox_delivery.specs.Domain.Calls.{Happens}
use Rattle.iox_delivery.specs.Domain.Ports.{no_ports}
use Rattle.iox_delivery.specs.Domain.declared.ports.making.PublisherConfig.{PublisherConfig}
use Rattle.iox_delivery.specs.Domain.declared.ports.service_ports.ServicePorts.{ServicePorts}
use Rattle.iox_delivery.specs.DomainPorts.declared.meeting.Sent.{Sent}
use Rattle.iox_delivery.specs.DomainPorts.declared.attached.Taken.{Taken}
use Rattle.iox_command.specs.DomainValues.declared.port_error.LoanError.{LoanError}
use Rattle.iox_command.specs.DomainValues.declared.port_error.ReceiveError.{ReceiveError}
use Rattle.iox_command.specs.DomainValues.declared.port_error.SendError.{SendError}
use Rattle.iox_command.specs.DomainValues.declared.service_sizes.ServiceSizes.{ServiceSizes}
use Rattle.iox_delivery.specs.Domain.Domains.{with_ports}
use Rattle.iox_delivery.specs.Domain.declared.domain.Domain.{Domain}
use Rattle.iox_hub_base.specs.AsHome.{hub_ports, with_hub_ports, with_services}
use Rattle.iox_hub_base.specs.declared.hub.Hub.{Hub}
use Rattle.iox_hub_base.specs.ServicesAsHome.{domain_at, ports_if, stepped_if, stepped}
use Rattle.iox_hub_base.specs.HomeLaws.{here_stands, stands_at}
use Rattle.iox_hub_base.specs.Numbered.{one_value}
use Rattle.iox_hub_base.specs.Open.{OpenServices, presence_of, with_domain}
use Rattle.iox_hub_base.specs.Room.{counted_at, counted_in}
use Rattle.iox_hub_base.specs.declared.presence.Presence.{Presence}
use Rattle.iox_hub_base.specs.declared.presence.Presence.TheVariants.{Here, Out}
use Rattle.iox_hub_commands.specs.Grown.{AnySlots, AnyAction, AnyDecision}

-- what a loan counts that was made, if one was
abbrev pub loaned : ℕ → Option (Result ℕ LoanError) → ℕ
loaned loan None = 0
loaned loan (Some (Err error)) = 0
loaned loan (Some (Ok slot)) = loan

-- what a sample counts that came, if one did
abbrev pub received : ℕ → Option (Result (Option Taken) ReceiveError) → ℕ
received sample None = 0
received sample (Some (Err error)) = 0
received sample (Some (Ok None)) = 0
received sample (Some (Ok (Some taken))) = sample

-- what a loan counts that was sent, if one was
abbrev pub sent : ℕ → Option (Result Sent SendError) → ℕ
sent loan None = 0
sent loan (Some answer) = loan

-- what a port counts that came, if it did
abbrev pub came : {E : Type 0} → ℕ → Result ℕ E → ℕ
came brings (Err error) = 0
came brings (Ok number) = brings

module _ {T U : Type 0} where
  -- what a call takes, where a loan and a sample count so much
  abbrev pub taken_by : ℕ → ℕ → PortCall T U → ℕ
  taken_by loan sample (Lends publisher values elements answer) = loaned loan answer
  taken_by loan sample (Receives subscriber answer) = received sample answer
  taken_by loan sample call = 0

  -- what a call gives
  abbrev pub given_by : ℕ → ℕ → PortCall T U → ℕ
  given_by loan sample (GivesLoanUp publisher slot) = loan
  given_by loan sample (Sends publisher slot answer) = sent loan answer
  given_by loan sample (Releases subscriber taken answer) = if answer then sample else 0
  given_by loan sample call = 0

  -- what a port brings that comes by a call
  abbrev pub brought_by : (PublisherConfig → ServicePorts T U → ℕ) → (ServicePorts T U → ℕ) → PortCall T U → ServicePorts T U → ℕ
  brought_by brings holds (PublisherComes config user_header answer) ports = came (brings config ports) answer
  brought_by brings holds (SubscriberComes owner buffer_size answer) ports = came (holds ports) answer
  brought_by brings holds call ports = 0

-- Something is counted of the ports of a service, of which each call takes no less than it gives and brings.
pub record Measure (T U : Type 0) : Type 1 where
  pub count : ServicePorts T U → ℕ
  -- what holds of the ports throughout
  pub Fine : ServicePorts T U → Type 0
  -- how much a loan counts, a sample, a publisher that comes to these ports, and a subscriber
  pub loan : ℕ
  pub sample : ℕ
  pub brings : PublisherConfig → ServicePorts T U → ℕ
  pub holds : ServicePorts T U → ℕ
  pub begins : (service : ℕ) (sizes : ServiceSizes) → Fine (no_ports service sizes)
  pub nothing : (service : ℕ) (sizes : ServiceSizes) → count (no_ports service sizes) ≡ 0
  pub goes_on : (call : PortCall T U) (old new : ServicePorts T U) → Happens AnySlots AnyAction AnyDecision call old new → Fine old
      → Fine new
  pub left : (call : PortCall T U) (old new : ServicePorts T U) → Happens AnySlots AnyAction AnyDecision call old new → Fine old
      → count new + taken_by loan sample call ≤ count old + given_by loan sample call + brought_by brings holds call old

-- what comes under a number is added to a sum at most
came_by : {X : Type 0} (f : X → ℕ) (number : ℕ) (order : Ordering) (e : ℕ × X) (es : List (ℕ × X)) (x : X)
    → sum_by f (values_of (insert_entry nat_cmp es number x)) ≤ sum_by f (values_of es) + f x
    → sum_by f (values_of (match_ordering order ((number, x) ∷ e ∷ es) ((e.0, x) ∷ es) (e ∷ insert_entry nat_cmp es number x)))
    ≤ sum_by f (values_of (e ∷ es)) + f x
came_by f number Less e es x rest = omega (arith, sum_by-cons f x (values_of (e ∷ es)))
came_by f number Equal e es x rest = omega (arith, sum_by-cons f x (values_of es), sum_by-cons f e.1 (values_of es))
came_by f number Greater e es x rest
    = omega (arith, sum_by-cons f e.1 (values_of (insert_entry nat_cmp es number x)), sum_by-cons f e.1 (values_of es), rest)

sum_came : {X : Type 0} (f : X → ℕ) (number : ℕ) (es : List (ℕ × X)) (x : X)
    → sum_by f (values_of (insert_entry nat_cmp es number x)) ≤ sum_by f (values_of es) + f x
sum_came f number [] x = omega (arith, sum_by-cons f x [])
sum_came f number (e ∷ es) x = came_by f number (nat_cmp number e.0) e es x (sum_came f number es x)

module _ {T U : Type 0} (m : Measure T U) where
  -- so much is taken of what is counted of ports, and so much is given
  abbrev pub Steps : ℕ → ℕ → ServicePorts T U → ServicePorts T U → Type 0
  Steps taken given old new = m.Fine old → m.Fine new × (m.count new + taken ≤ m.count old + given)

  pub steps_nowhere : (ports : ServicePorts T U) → Steps 0 0 ports ports
  steps_nowhere ports fine = (fine, omega arith)

  pub steps_on : (old mid new : ServicePorts T U) → Steps 0 0 old mid → Steps 0 0 mid new → Steps 0 0 old new
  steps_on old mid new first second fine =
      let (between, one) = first fine in
      let (fine_after, other) = second between in
      (fine_after, omega (arith, one, other))

  -- one call
  pub call_steps : (call : PortCall T U) (old new : ServicePorts T U) → Happens AnySlots AnyAction AnyDecision call old new
      → Steps (taken_by m.loan m.sample call) (given_by m.loan m.sample call + brought_by m.brings m.holds call old) old new
  call_steps call old new happens fine = let few
      = m.left call old new happens fine in (m.goes_on call old new happens fine, omega (arith, few))

  -- the same by other words
  pub steps_as : (taken given less more : ℕ) (old new : ServicePorts T U) → less + given ≤ taken + more → Steps taken given old new
      → Steps less more old new
  steps_as taken given less more old new fits steps fine = let (fine_after, few) = steps fine in (fine_after, omega (arith, few, fits))

module _ {T U B D : Type 0} (m : Measure T U) where
  -- the ports of a domain that is here are fine
  abbrev pub IsFineAt : Presence T U B D → Type 0
  IsFineAt (Here domain) = m.Fine domain.state.ports
  IsFineAt (Out agreed) = Unit {0}

  -- so it is with each service that is open
  abbrev pub AreFine : List (ℕ × Presence T U B D) → Type 0
  AreFine domains = All (λ presence. IsFineAt presence) (values_of domains)

  -- what is counted of all
  abbrev pub total : List (ℕ × Presence T U B D) → ℕ
  total domains = counted_in (λ ports. m.count ports) domains

  -- and of what is counted of all services
  abbrev pub CountsIn : ℕ → ℕ → List (ℕ × Presence T U B D) → List (ℕ × Presence T U B D) → Type 0
  CountsIn taken given old new = AreFine old → AreFine new × (total new + taken ≤ total old + given)

  abbrev pub Counts : ℕ → ℕ → Hub T U B D → Hub T U B D → Type 0
  Counts taken given old new = CountsIn taken given old.services.domains new.services.domains

  pub counts_as : (taken given less more : ℕ) (old new : List (ℕ × Presence T U B D)) → less + given ≤ taken + more
      → CountsIn taken given old new → CountsIn less more old new
  counts_as taken given less more old new fits counts fine = let (fine_after, few) = counts fine in (fine_after, omega (arith, few, fits))

  -- what is the same counts the same
  pub same_counts : (taken given : ℕ) (old new : List (ℕ × Presence T U B D)) → taken ≤ given → new ≡ old → CountsIn taken given old new
  same_counts taken given old new fits same fine = rw same (fine, omega (arith, fits))

  pub counts_on : (taken given more_taken more_given : ℕ) (old mid new : List (ℕ × Presence T U B D)) → CountsIn taken given old mid
      → CountsIn more_taken more_given mid new → CountsIn (taken + more_taken) (given + more_given) old new
  counts_on taken given more_taken more_given old mid new first second fine =
      let (between, one) = first fine in
      let (fine_after, other) = second between in
      (fine_after, omega (arith, one, other))

  fine_found : (found : Option (Presence T U B D)) (domain : Domain T U B D) → found ≡ Some (Here domain)
      → IfSome found (λ presence. IsFineAt presence) → m.Fine domain.state.ports
  fine_found found domain is fine = subst (λ one. IfSome one (λ presence. IsFineAt presence)) is fine

  -- another domain stands in the place of one
  set_counts : (taken given number : ℕ) (domains : List (ℕ × Presence T U B D)) (before after : Domain T U B D)
      → presence_of number domains ≡ Some (Here before) → Steps m taken given before.state.ports after.state.ports
      → CountsIn taken given domains (with_domain number domains after)
  set_counts taken given number domains before after there steps fine =
      let was : m.Fine before.state.ports
      = fine_found (presence_of number domains) before there
      (IfSome-lookup_from_All (λ presence. IsFineAt presence) (is_at (nat_cmp number)) domains fine) in
      let (fine_after, few) = steps was in
      let sums = sum_by-set_value (λ presence. counted_at (λ ports. m.count ports) presence) (is_at (nat_cmp number)) domains
      (Here before) (Here after) there in (
        All-values-set_value (is_at (nat_cmp number)) (λ presence. IsFineAt presence) domains (Here after) fine fine_after,
        omega
            (arith, few, sums),
      )

  -- a domain without ports comes
  pub come_counts : (number : ℕ) (domains : List (ℕ × Presence T U B D)) (domain : Domain T U B D) (service : ℕ) (sizes : ServiceSizes)
      → domain.state.ports ≡ no_ports service sizes
      → CountsIn 0 0 domains (insert_entry nat_cmp domains number (Here domain))
  come_counts number domains domain service sizes is fine =
      let none : m.count domain.state.ports ≡ 0 = ap (λ ports. m.count ports) is ∙ m.nothing service sizes in
      let few = sum_came (λ presence. counted_at (λ ports. m.count ports) presence) number domains (Here domain) in (
        All-values-insert_entry nat_cmp number (Here domain) (λ presence. IsFineAt presence) domains fine
            (subst (λ ports. m.Fine ports) (sym is) (m.begins service sizes)),
        omega (arith, few, none),
      )

  -- one that goes
  pub gone_counts : (number : ℕ) (domains : List (ℕ × Presence T U B D))
      → CountsIn 0 0 domains (remove_entry (is_at (nat_cmp number)) domains)
  gone_counts number domains fine =
      let few = sum_by-remove_entry (λ presence. counted_at (λ ports. m.count ports) presence) (is_at (nat_cmp number)) domains in
      (All-map-remove_entry (is_at (nat_cmp number)) (λ entry. entry.1) (λ presence. IsFineAt presence) domains fine, omega (arith, few))

  step_counts : (taken given : ℕ) (id : DomainId) (step : Domain T U B D → Domain T U B D) (services : OpenServices T U B D)
      (domain : Domain T U B D) → domain_at id services ≡ Some domain
      → Steps m taken given domain.state.ports (step domain).state.ports
      → CountsIn taken given services.domains (stepped_if (Some domain) id.service step services).domains
  step_counts taken given id step services domain is steps =
      set_counts taken given id.service services.domains domain (step domain)
      (here_stands (presence_of id.service services.domains) domain (stands_at id services domain is).found) steps

  own_ports : (ports : ServicePorts T U) (domain : Domain T U B D) (found : Option (Domain T U B D)) → ports_if found ≡ Some ports
      → found ≡ Some domain → ports ≡ domain.state.ports
  own_ports ports domain found are is = one_value (sym are ∙ ap ports_if is)

  put_counts_at : (taken given : ℕ) (id : DomainId) (ports after : ServicePorts T U) (services : OpenServices T U B D)
      (found : Option (Domain T U B D)) → domain_at id services ≡ found → ports_if found ≡ Some ports
      → Steps m taken given ports after → CountsIn taken given services.domains
      (stepped_if found id.service (with_ports after) services).domains
  put_counts_at taken given id ports after services None is are steps = cc
  put_counts_at taken given id ports after services (Some domain) is are steps =
      step_counts taken given id (with_ports after) services domain is
      (subst (λ own. Steps m taken given own after) (one_value (sym are)) steps)

  -- a hub with other ports in one domain
  pub put_counts : (taken given : ℕ) (id : DomainId) (ports after : ServicePorts T U) (hub : Hub T U B D)
      → hub_ports id hub ≡ Some ports → Steps m taken given ports after → Counts taken given hub (with_hub_ports id after hub)
  put_counts taken given id ports after hub are steps
      = put_counts_at taken given id ports after hub.services (domain_at id hub.services) refl are steps

  keep_counts_at : (id : DomainId) (step : Domain T U B D → Domain T U B D)
      → ((domain : Domain T U B D) → (step domain).state.ports ≡ domain.state.ports)
      → (services : OpenServices T U B D) (found : Option (Domain T U B D)) → domain_at id services ≡ found
      → CountsIn 0 0 services.domains (stepped_if found id.service step services).domains
  keep_counts_at id step keeps services None is = same_counts 0 0 services.domains services.domains (omega arith) refl
  keep_counts_at id step keeps services (Some domain) is
      = step_counts 0 0 id step services domain is
      (subst (λ own. Steps m 0 0 domain.state.ports own) (sym (keeps domain)) (steps_nowhere m domain.state.ports))

  -- a step that doesn't touch ports
  pub keep_counts : (id : DomainId) (step : Domain T U B D → Domain T U B D)
      → ((domain : Domain T U B D) → (step domain).state.ports ≡ domain.state.ports) → (hub : Hub T U B D)
      → Counts 0 0 hub (with_services hub (stepped id step hub.services))
  keep_counts id step keeps hub = keep_counts_at id step keeps hub.services (domain_at id hub.services) refl

  -- nothing changes
  pub is_counts : (taken given : ℕ) (old new : Hub T U B D) → taken ≤ given → new ≡ old → Counts taken given old new
  is_counts taken given old new fits is
      = same_counts taken given old.services.domains new.services.domains fits (ap (λ hub. hub.services.domains) is)

  -- a call of a port of a domain, if it is here
  pub at_domain_counts : {A : Type 0} (id : DomainId) (call : Option A → PortCall T U)
      (step : ServicePorts T U → Option A → ServicePorts T U → Type 0)
      → ((ports after : ServicePorts T U) (answer : Option A) → step ports answer after
      → Happens AnySlots AnyAction AnyDecision (call answer) ports after)
      → ((answer : Option A) (ports : ServicePorts T U) → brought_by m.brings m.holds (call answer) ports ≡ 0)
      → taken_by m.loan m.sample (call None) ≡ 0
      → (found : Option (ServicePorts T U)) (old new : Hub T U B D) (answer : Option A) → hub_ports id old ≡ found
      → AtDomain (λ after. with_hub_ports id after old) step found old answer new
      → Counts (taken_by m.loan m.sample (call answer)) (given_by m.loan m.sample (call answer)) old new
  at_domain_counts id call step happens brings none None old new answer are at =
      let nothing : taken_by m.loan m.sample (call answer) ≡ 0 = ap (λ one. taken_by m.loan m.sample (call one)) at.0 ∙ none in
      is_counts (taken_by m.loan m.sample (call answer)) (given_by m.loan m.sample (call answer)) old new (omega (arith, nothing)) at.1
  at_domain_counts id call step happens brings none (Some ports) old new answer are (after, does, is) =
      let steps : Steps m (taken_by m.loan m.sample (call answer)) (given_by m.loan m.sample (call answer)) ports after =
      λ fine. let (fine_after, few) = call_steps m (call answer) ports after (happens ports after answer does) fine in
      (fine_after, let nothing = brings answer ports in omega (arith, few, nothing)) in
      rw is (put_counts (taken_by m.loan m.sample (call answer)) (given_by m.loan m.sample (call answer)) id ports after old are steps)

  -- a port leaves
  pub leaves_counts : (id : DomainId) (without : Hub T U B D → Hub T U B D) (step : ServicePorts T U → Bool → ServicePorts T U → Type 0)
      → ((hub : Hub T U B D) → Counts 0 0 hub (without hub))
      → ((ports after : ServicePorts T U) (answer : Bool) → step ports answer after → Steps m 0 0 ports after)
      → (found : Option (ServicePorts T U)) (old new : Hub T U B D) (answer : Bool) → hub_ports id old ≡ found
      → LeavesDomain (λ after. with_hub_ports id after old) without step found old answer new → Counts 0 0 old new
  leaves_counts id without step spares steps None old new answer are at = is_counts 0 0 old new (omega arith) at.1
  leaves_counts id without step spares steps (Some ports) old new false are (after, does, is)
      = rw is (put_counts 0 0 id ports after old are (steps ports after false does))
  leaves_counts id without step spares steps (Some ports) old new true are (after, does, is) =
      let mid = with_hub_ports id after old in
      rw is (counts_on 0 0 0 0 old.services.domains mid.services.domains (without mid).services.domains
      (put_counts 0 0 id ports after old are (steps ports after true does)) (spares mid))

  -- a port comes, and brings so much
  pub makes_counts : {E : Type 0} (brings : ℕ) (id : DomainId) (keeping : ℕ → Hub T U B D → Hub T U B D)
      (step : ServicePorts T U → ℕ → ServicePorts T U → Type 0) (refusal : ServicePorts T U → E)
      → ((number : ℕ) (hub : Hub T U B D) → Counts 0 0 hub (keeping number hub))
      → (found : Option (ServicePorts T U))
      → ((ports after : ServicePorts T U) (number : ℕ) → found ≡ Some ports → step ports number after → Steps m 0 brings ports after)
      → (old new : Hub T U B D) (answer : Option (Result ℕ E)) → hub_ports id old ≡ found
      → MakesAt (λ after. with_hub_ports id after old) keeping step refusal found old answer new → Counts 0 brings old new
  makes_counts brings id keeping step refusal spares None steps old new answer are at = is_counts 0 brings old new (omega arith) at.1
  makes_counts brings id keeping step refusal spares (Some ports) steps old new None are at = absurd at
  makes_counts brings id keeping step refusal spares (Some ports) steps old new (Some (Err error)) are at
      = is_counts 0 brings old new (omega arith) at.1
  makes_counts brings id keeping step refusal spares (Some ports) steps old new (Some (Ok number)) are (after, does, is) =
      let mid = with_hub_ports id after old in
      let all = counts_on 0 brings 0 0 old.services.domains mid.services.domains (keeping number mid).services.domains
      (put_counts 0 brings id ports after old are (steps ports after number refl does)) (spares number mid) in
      rw is (λ fine. let (fine_after, few) = all fine in (fine_after, omega (arith, few)))

  changed_counts_at : (given : ℕ) (id : DomainId) (change : ServicePorts T U → ServicePorts T U)
      → ((ports : ServicePorts T U) → Steps m 0 given ports (change ports)) → (found : Option (ServicePorts T U)) (old : Hub T U B D)
      → hub_ports id old ≡ found
      → Counts 0 given old (changed_at (λ after. with_hub_ports id after old) change found old)
  changed_counts_at given id change steps None old are = is_counts 0 given old old (omega arith) refl
  changed_counts_at given id change steps (Some ports) old are = put_counts 0 given id ports (change ports) old are (steps ports)

  -- the ports of a domain change, if it is here
  pub changed_counts : (given : ℕ) (id : DomainId) (change : ServicePorts T U → ServicePorts T U)
      → ((ports : ServicePorts T U) → Steps m 0 given ports (change ports)) → (old : Hub T U B D)
      → Counts 0 given old (changed_at (λ after. with_hub_ports id after old) change (hub_ports id old) old)
  changed_counts given id change steps old = changed_counts_at given id change steps (hub_ports id old) old refl

-- Values that are put at once are lent, written and sent: what the one call of a domain does is what its three calls do in turn.
use Rattle.std.proofs.Common.{◌≡◌, ◌∙◌, ◌∷◌, [], ◌&&◌, ℕ, Bool, true, false, not, cond, if◌then◌else◌, List, length, is_some, Option}
use Rattle.std.proofs.Common.{None, Some, IsSome, option_map, Result, Ok, Err, refl, sym, ap, subst}
use Rattle.std.specs.BTreeMap.{is_at}
use Rattle.std.specs.Map.{set_value}
use Rattle.std.specs.Ordering.{nat_cmp}
use Rattle.iox_domain.specs.Homes as homes
use Rattle.iox_domain.specs.DomainValues.declared.backpressure.BackpressureDecision.{BackpressureDecision}
use Rattle.iox_domain.specs.DomainValues.declared.backpressure.BackpressureInfo.{BackpressureInfo}
use Rattle.iox_domain.specs.DomainValues.declared.degradation.DegradationAction.{DegradationAction}
use Rattle.iox_domain.specs.DomainValues.declared.degradation.DegradationCause.{DegradationCause}
use Rattle.iox_domain.specs.DomainValues.declared.degradation.DegradationInfo.{DegradationInfo}
use Rattle.iox_domain.specs.DomainValues.declared.port_error.LoanError.{LoanError}
use Rattle.iox_domain.specs.DomainValues.declared.port_error.SendError.{SendError}
use Rattle.iox_domain.specs.DomainPorts.Messages.{write_all}
use Rattle.iox_domain.specs.DomainPorts.MessagesSending.{has_length}
use Rattle.iox_domain.specs.DomainPorts.Loaning.{Loans}
use Rattle.iox_domain.specs.DomainPorts.declared.meeting.Sent.{Sent}
use Rattle.iox_domain.specs.DomainPorts.declared.publisher_port.PublisherPort.{PublisherPort}
use Rattle.iox_domain.specs.DomainPorts.Publishers.{port_of, with_port, changed_at_port, settled}
use Rattle.iox_domain.specs.AtHomes.{AtDomain}
use Rattle.iox_domain.specs.Handling.{kept_degrades, kept_decides}
use Rattle.iox_domain.specs.Lending.{LoansIf, LoansOne, passes_port, written_in}
use Rattle.iox_domain.specs.Ports.{AtPublisher, with_publisher}
use Rattle.iox_domain.specs.PortsPublishing.{is_blocked, is_free, SendsOne}
use Rattle.iox_domain.specs.Putting.{with_values, SendsLent, PutsIf, PutsOne}
use Rattle.iox_domain.specs.States.{with_ports, publisher_handlers_in}
use Rattle.iox_domain.specs.Steps.{LoansBy, PutsBy, SendsBy}
use Rattle.iox_domain.specs.declared.domain_id.DomainId.{DomainId}
use Rattle.iox_domain.specs.declared.ports.service_ports.ServicePorts.{ServicePorts}
use Rattle.iox_domain.specs.declared.state.DomainState.{DomainState}
use Rattle.iox_domain.proofs.Homely.{put_is_there, same_stays}
use Rattle.iox_domain.proofs.Lent.{still_there}
use Rattle.iox_domain.proofs.Numbered.{same_set}
use Rattle.iox_domain.proofs.Putting.{lender_stands}
use Rattle.iox_delivery.specs.Holding.{publisher_stands, publisher_blocked}
use Rattle.iox_delivery.specs.Lent.{IsReady}
use Rattle.iox_delivery.specs.Publishing.{changed_at}
use Rattle.iox_delivery.specs.Slices.{SendsValues}
use Rattle.iox_delivery.specs.declared.port_id.PortId.{PortId}
use Rattle.iox_delivery.proofs.Filled.{written_is_ready}
use Rattle.iox_delivery.proofs.Lent.{stepped}
use Rattle.iox_hub_commands.specs.Calls.{AtPort, Puts, ready}

left_of : (a b : Bool) → (a && b) ≡ true → a ≡ true
left_of true b both = refl
left_of false b both = both

-- a publisher that exists lends as it does
lends_so : {T U : Type 0} (stands : Bool) (count : ℕ) (port after : PublisherPort T U) (answer : Option (Result ℕ LoanError))
    → stands ≡ true → LoansIf stands count count port answer after
    → Loans port.allocation count count port answer after
lends_so true count port after answer is loans = loans
lends_so false count port after answer is loans = cc

-- an entry that changes twice is as it changed last
set_twice_by : {X : Type 0} (test : ℕ → Bool) (e : ℕ × X) (es : List (ℕ × X)) (x y : X) (passes : Bool) → test e.0 ≡ passes
    → set_value test (set_value test es x) y ≡ set_value test es y
    → set_value test (cond passes ((e.0, x) ∷ es) (e ∷ set_value test es x)) y ≡ cond passes ((e.0, y) ∷ es) (e ∷ set_value test es y)
set_twice_by test e es x y true is rest = rw is refl
set_twice_by test e es x y false is rest = rw is (ap (λ later. e ∷ later) rest)

set_twice : {X : Type 0} (test : ℕ → Bool) (entries : List (ℕ × X)) (x y : X)
    → set_value test (set_value test entries x) y ≡ set_value test entries y
set_twice test [] x y = refl
set_twice test (e ∷ es) x y = set_twice_by test e es x y (test e.0) refl (set_twice test es x y)

-- the ports of a service after a publisher lent, and after it wrote
module _ {T U : Type 0} (number : ℕ) (values : List T) (slot : ℕ) (lent : Result ℕ LoanError) (ports : ServicePorts T U)
    (port lender : PublisherPort T U) (there : port_of number ports.publishers ≡ Some port)
    (stands : port.stands ≡ true) (loans : LoansOne (length values) (length values) port (Some lent) lender) where
  abbrev lending : ServicePorts T U
  lending = with_publisher number lender ports

  abbrev writing : ServicePorts T U
  writing = written_in number (λ one. has_length slot (length values) one.sender.uses) slot (write_all values) lending

  lends : LoansBy number (length values) (length values) ports (Some lent) lending
  lends = subst (λ found. AtPublisher number (LoansOne (length values) (length values)) found ports (Some lent) lending) (sym there)
      (lender, loans, refl)

  put_back : lending.publishers ≡ with_port number ports.publishers lender
  put_back =
      let plain : Loans port.allocation (length values) (length values) port (Some lent) lender =
      lends_so port.stands (length values) port lender (Some lent) stands loans in
      let still : lender.stands ≡ true = lender_stands port.allocation (length values) (length values) port (Some lent) lender plain ∙
      stands in
      still_there number (with_port number ports.publishers lender) lender
      (same_set (is_at (nat_cmp number)) ports.publishers lender port there) still

  found_lent : port_of number lending.publishers ≡ Some lender
  found_lent = ap (port_of number) put_back ∙ same_set (is_at (nat_cmp number)) ports.publishers lender port there

  found_written : port_of number writing.publishers ≡ Some (with_values slot values lender)
  found_written = stepped number (with_values slot values) lending.publishers lender found_lent

  written_back : writing.publishers ≡ with_port number ports.publishers (with_values slot values lender)
  written_back =
      ap (λ found. changed_at_port number (with_values slot values) found lending.publishers) found_lent
      ∙ ap (λ list. with_port number list (with_values slot values lender)) put_back
      ∙ set_twice (is_at (nat_cmp number)) ports.publishers lender (with_values slot values lender)

  -- what is sent then is put into the ports as they were
  sent_back : (after : PublisherPort T U) → with_publisher number after ports ≡ with_publisher number after writing
  sent_back after =
      sym (ap (λ list. record ports { publishers = settled number list })
      (ap (λ list. with_port number list after) written_back ∙ set_twice (is_at (nat_cmp number)) ports.publishers
      (with_values slot values lender) after))

module _ {T U B D H : Type 0} (domain_of : DomainId → H → Option (DomainState T U B D))
    (changed : DomainId → (DomainState T U B D → DomainState T U B D) → H → H)
    (changed_found : (id : DomainId) (step : DomainState T U B D → DomainState T U B D) (home : H)
    → domain_of id (changed id step home) ≡ option_map step (domain_of id home))
    (alike : (id : DomainId) (one other : DomainState T U B D → DomainState T U B D) (home : H)
    → option_map one (domain_of id home) ≡ option_map other (domain_of id home) → changed id one home ≡ changed id other home)
    (unchanged : (id : DomainId) (home : H) → changed id (λ state. state) home ≡ home)
    (again : (id : DomainId) (first second : DomainState T U B D → DomainState T U B D) (home : H)
    → changed id second (changed id first home) ≡ changed id (λ state. second (first state)) home)
    (degrades : B → DegradationCause → DegradationInfo → DegradationAction → Type 0)
    (decides : B → BackpressureInfo → BackpressureDecision → Type 0) where
  abbrev of : DomainId → H → Option (ServicePorts T U)
  of id home = homes.ports_of domain_of id home

  abbrev put : DomainId → ServicePorts T U → H → H
  put id ports home = homes.with_ports changed id ports home

  there_is : (id : DomainId) (ports : ServicePorts T U) (home : H) → IsSome (of id home) → of id (put id ports home) ≡ Some ports
  there_is id ports home there = put_is_there domain_of changed changed_found id ports home there

  -- who decides for a publisher stays, whatever its ports are
  same_handlers : (number : ℕ) (ports : ServicePorts T U) (found : Option (DomainState T U B D))
      → publisher_handlers_in number (option_map (with_ports ports) found) ≡ publisher_handlers_in number found
  same_handlers number ports None = refl
  same_handlers number ports (Some domain) = refl

  handlers_stay : (id : DomainId) (number : ℕ) (ports : ServicePorts T U) (home : H)
      → publisher_handlers_in number (domain_of id (put id ports home)) ≡ publisher_handlers_in number (domain_of id home)
  handlers_stay id number ports home = ap (publisher_handlers_in number) (changed_found id (with_ports ports) home) ∙ same_handlers
      number ports (domain_of id home)

  -- ports that are put into a domain twice are those that were put last
  put_twice : (id : DomainId) (first second : ServicePorts T U) (home : H) → put id second (put id first home) ≡ put id second home
  put_twice id first second home = again id (with_ports first) (with_ports second) home

  abbrev DegradesThere : DomainId → ℕ → H → DegradationInfo → DegradationAction → Type 0
  DegradesThere id number home = homes.publisher_degrades degrades domain_of id number home

  abbrev DecidesThere : DomainId → ℕ → H → BackpressureInfo → BackpressureDecision → Type 0
  DecidesThere id number home = homes.publisher_decides decides domain_of id number home

  -- the loan and what follows it, at home
  module _ (port : PortId) (values : List T) (old new : H) (ports : ServicePorts T U) (publisher : PublisherPort T U)
      (here : of port.domain old ≡ Some ports) (there : port_of port.number ports.publishers ≡ Some publisher)
      (stands : publisher.stands ≡ true) where
    lent_at_home : (lent : Result ℕ LoanError) (lender : PublisherPort T U)
        → LoansOne (length values) (length values) publisher (Some lent) lender
        → AtDomain (λ after. put port.domain after old) (LoansBy port.number (length values) (length values)) (of port.domain old) old
        (Some lent) (put port.domain (with_publisher port.number lender ports) old)
    lent_at_home lent lender loans =
        subst (λ found. AtDomain (λ after. put port.domain after old) (LoansBy port.number (length values) (length values)) found old
        (Some lent) (put port.domain (with_publisher port.number lender ports) old)) (sym here)
        (with_publisher port.number lender ports, lends port.number values 0 lent ports publisher lender there stands loans, refl)

    sends_values : (lent : Result ℕ LoanError) (lender after : PublisherPort T U) (sent : Result Sent SendError)
        → LoansOne (length values) (length values) publisher (Some lent) lender
        → SendsLent (DegradesThere port.domain port.number old) (DecidesThere port.domain port.number old) ports.subscriber_list values
        lent lender sent after → new ≡ put port.domain (with_publisher port.number after ports) old
        → SendsValues of put DegradesThere DecidesThere port values old sent new
    sends_values (Err error) lender after sent loans (is, same) is_new = (
      Err error,
      put port.domain (with_publisher port.number lender ports) old,
      lent_at_home (Err error) lender loans,
      (is, is_new ∙ ap (λ one. put port.domain (with_publisher port.number one ports) old) same),
    )
    sends_values (Ok slot) lender after sent loans sends is_new =
        let id = port.domain in
        let number = port.number in
        let first = lending number values slot (Ok slot) ports publisher lender there stands loans in
        let second = writing number values slot (Ok slot) ports publisher lender there stands loans in
        let middle = put id first old in
        let held = put id second middle in
        let lends_home = lent_at_home (Ok slot) lender loans in
        let of_middle : of id middle ≡ Some first = there_is id first old (ap is_some here) in
        let of_held : of id held ≡ Some second = there_is id second middle (ap is_some of_middle) in
        let writes : held ≡ changed_at (λ one. put id one middle)
        (written_in number (λ one. has_length slot (length values) one.sender.uses) slot (write_all values)) (of id middle) middle =
        sym (ap (λ found. changed_at (λ one. put id one middle)
        (written_in number (λ one. has_length slot (length values) one.sender.uses) slot (write_all values)) found middle) of_middle) in
        let ready : IsReady number values (length values) slot (of id held) =
        written_is_ready (of id) (put id) (there_is id) number (length values) slot values old middle held lends_home writes in
        let handlers : publisher_handlers_in number (domain_of id held) ≡ publisher_handlers_in number (domain_of id old) =
        handlers_stay id number second middle ∙ handlers_stay id number first old in
        let sends_there : SendsOne (DegradesThere id number held) (DecidesThere id number held) second.subscriber_list slot
        (with_values slot values lender) (Some sent) after =
        subst (λ who. SendsOne (kept_degrades degrades who) (kept_decides decides who) ports.subscriber_list slot
        (with_values slot values lender) (Some sent) after) (sym handlers) sends in
        let sends_by : SendsBy (DegradesThere id number held) (DecidesThere id number held) number slot second (Some sent)
        (with_publisher number after ports) =
        subst (λ found. AtPublisher number (SendsOne (DegradesThere id number held) (DecidesThere id number held) second.subscriber_list
        slot) found second (Some sent) (with_publisher number after ports))
        (sym (found_written number values slot (Ok slot) ports publisher lender there stands loans))
        (after, sends_there, sent_back number values slot (Ok slot) ports publisher lender there stands loans after) in
        let goes : new ≡ put id (with_publisher number after ports) held =
        is_new ∙ sym (put_twice id second (with_publisher number after ports) middle ∙ put_twice id first
        (with_publisher number after ports) old) in (
          Ok slot,
          middle,
          lends_home,
          (
            held,
            writes,
            ready,
            subst (λ found. AtDomain (λ one. put id one held)
                (SendsBy (DegradesThere id number held) (DecidesThere id number held) number slot) found held (Some sent) new)
                (sym of_held) (with_publisher number after ports, sends_by, goes),
          ),
        )

  -- what is answered of a port: nothing where it may not lend
  abbrev Answers : PortId → List T → Bool → H → Option (Result Sent SendError) → H → Type 0
  Answers port values may old answer new
      = AtPort (Puts of put DegradesThere DecidesThere values) (if may then Some port else None) old answer new

  at_publisher : (port : PortId) (values : List T) (old new : H) (ports after : ServicePorts T U) (publisher : PublisherPort T U)
      (free : Bool) (answer : Option (Result Sent SendError)) → of port.domain old ≡ Some ports
      → port_of port.number ports.publishers ≡ Some publisher → is_free publisher ≡ free
      → AtPublisher port.number (λ one told later. PutsIf free (DegradesThere port.domain port.number old)
      (DecidesThere port.domain port.number old) ports.subscriber_list values one told later) (Some publisher) ports answer after
      → new ≡ put port.domain after old → Answers port values free old answer new
  at_publisher port values old new ports after publisher false None here there is (later, puts, same) is_new =
      (refl, is_new ∙ ap (λ one. put port.domain one old) same ∙ same_stays domain_of changed alike unchanged port.domain ports old here)
  at_publisher port values old new ports after publisher true None here there is (later, (sent, puts, told), same) is_new
      = let no : None ≡ Some sent = told in cc
  at_publisher port values old new ports after publisher false (Some answer) here there is (later, (told, same), is_after) is_new
      = let no : Some answer ≡ None = told in cc
  at_publisher port values old new ports after publisher true (Some answer) here there is
      (later, (sent, (lent, lender, loans, sends), told), is_after) is_new = (
        sent,
        sends_values port values old new ports publisher here there (left_of publisher.stands (not (is_blocked publisher)) is) lent
            lender later sent loans sends (is_new ∙ ap (λ one. put port.domain one old) is_after),
        told,
      )

  at_ports : (port : PortId) (values : List T) (old new : H) (ports after : ServicePorts T U) (found : Option (PublisherPort T U))
      (answer : Option (Result Sent SendError)) → of port.domain old ≡ Some ports
      → port_of port.number ports.publishers ≡ found
      → AtPublisher port.number (PutsOne (DegradesThere port.domain port.number old) (DecidesThere port.domain port.number old)
      ports.subscriber_list values) found ports answer after
      → new ≡ put port.domain after old → Answers port values
      (passes_port (λ one. one.stands) found && not (passes_port is_blocked found)) old answer new
  at_ports port values old new ports after None answer here there (told, same) is_new =
      (told, is_new ∙ ap (λ one. put port.domain one old) same ∙ same_stays domain_of changed alike unchanged port.domain ports old here)
  at_ports port values old new ports after (Some publisher) None here there puts is_new
      = at_publisher port values old new ports after publisher (is_free publisher) None here there refl puts is_new
  at_ports port values old new ports after (Some publisher) (Some answer) here there puts is_new
      = at_publisher port values old new ports after publisher (is_free publisher) (Some answer) here there refl puts is_new

  at_domain : (port : PortId) (values : List T) (old new : H) (found : Option (ServicePorts T U))
      (answer : Option (Result Sent SendError)) → of port.domain old ≡ found
      → AtDomain (λ after. put port.domain after old)
      (PutsBy (DegradesThere port.domain port.number old) (DecidesThere port.domain port.number old) port.number values) found old
      answer new
      → Answers port values (publisher_stands port.number found && not (publisher_blocked port.number found)) old answer new
  at_domain port values old new None answer here puts = puts
  at_domain port values old new (Some ports) answer here (after, puts, is_new)
      = at_ports port values old new ports after (port_of port.number ports.publishers) answer here refl puts is_new

  -- what the one call of a domain does is what is done at the port of a number
  pub puts_here : (port : PortId) (values : List T) (old new : H) (found : Option PortId) (answer : Option (Result Sent SendError))
      → Some port ≡ found
      → AtDomain (λ after. put port.domain after old)
      (PutsBy (DegradesThere port.domain port.number old) (DecidesThere port.domain port.number old) port.number values)
      (of port.domain old) old answer new
      → AtPort (Puts of put DegradesThere DecidesThere values) (ready of found old) old answer new
  puts_here port values old new found answer is puts =
      subst (λ one. AtPort (Puts of put DegradesThere DecidesThere values) (ready of one old) old answer new) is
      (at_domain port values old new (of port.domain old) answer refl puts)

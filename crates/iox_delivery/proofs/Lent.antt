-- A loan that was just made is found in its slot, and so is what is written there.
use Rattle.std.proofs.Common.{◌≡◌, ◌==◌, ◌&&◌, ◌∙◌, ℕ, Bool, true, false, List, map, is_some, Option, None, Some, IsSome, option_map, Ok}
use Rattle.std.proofs.Common.{refl, sym, ap}
use Rattle.std.specs.BTreeMap.{is_at}
use Rattle.std.specs.List.{list_any, find}
use Rattle.std.specs.Ordering.{nat_cmp}
use Rattle.std.proofs.Math.Dec.{eqb}
use Rattle.iox_domain.specs.DomainPorts.Messages.{Loan, new_loan}
use Rattle.iox_domain.specs.DomainPorts.MessagesSending.{is_written_loan}
use Rattle.iox_domain.proofs.DomainPorts.Lent.{loan_tells}
use Rattle.iox_domain.specs.DomainPorts.Writing.{loan_of, changed_there, changed_if}
use Rattle.iox_domain.specs.DomainPorts.declared.publisher_port.PublisherPort.{PublisherPort}
use Rattle.iox_domain.specs.DomainPorts.Publishers.{port_of, with_port, changed_at_port, changed}
use Rattle.iox_domain.proofs.Numbered.{same_set}
use Rattle.iox_domain.proofs.Lent.{stays_if, free_slot, found_last, same_number, still_there, one_passes, found_changed, all_written}
use Rattle.iox_domain.proofs.Lent.{not_none}
use Rattle.iox_domain.specs.Lending.{LoansIf, LoansOne, passes_port, passes, written_in, loan_at_port, loan_in, loan_header_at_port}
use Rattle.iox_domain.specs.Lending.{header_of_loan}
use Rattle.iox_domain.specs.Ports.{AtPublisher, with_publisher}
use Rattle.iox_domain.specs.PortsPublishing.{is_blocked}
use Rattle.iox_domain.specs.declared.ports.service_ports.ServicePorts.{ServicePorts}
use Rattle.iox_domain.specs.AtHomes.{AtDomain}
use Rattle.iox_domain.specs.Steps.{LoansBy}
use Rattle.iox_delivery.specs.Holding.{publisher_blocked, loan_found}
use Rattle.iox_delivery.specs.Lent.{IsFresh, LoanIsFresh, IsReady}
use Rattle.iox_delivery.specs.Publishing.{changed_at}

fresh_if : {T U : Type 0} (stands : Bool) (number values elements slot : ℕ) (port after : PublisherPort T U) (old new : ServicePorts T U)
    → port_of number old.publishers ≡ Some port → port.stands ≡ stands → LoansIf stands values elements port (Some (Ok slot)) after
    → new ≡ with_publisher number after old
    → IsFresh number values elements slot old new
fresh_if false number values elements slot port after old new found stands loans is = absurd (not_none (Ok slot) loans.0)
fresh_if true number values elements slot port after old new found stands loans is =
    let tells = loan_tells port.allocation values elements port after (Some (Ok slot)) loans in
    let lent = tells.2 in
    let stays = stays_if (is_some port.sender.uses.sending) port.allocation values elements slot port after loans in
    let still : after.stands ≡ true = ap (λ p. p.stands) stays.rest ∙ stands in
    let put : port_of number (with_port number old.publishers after) ≡ Some after
    = same_set (is_at (nat_cmp number)) old.publishers after port found in
    let there : port_of number new.publishers ≡ Some after =
    ap (λ ports. port_of number ports.publishers) is ∙ ap (λ ports. port_of number ports)
    (still_there number (with_port number old.publishers after) after put still) ∙ put in
    let loan : loan_of slot after ≡ Some (new_loan slot values elements port.sender.user_header) =
    ap (λ loans. find (λ one. one.slot == slot) loans) lent.loan
    ∙ found_last (λ one. one.slot == slot) port.sender.uses.loans (new_loan slot values elements port.sender.user_header)
    (free_slot slot port.sender lent.free) (same_number slot) in (
      port,
      found,
      ap (loan_at_port slot) there ∙ loan,
      ap (loan_header_at_port slot) there ∙ ap (λ one. option_map (header_of_loan after) one) loan
          ∙ ap (λ p. Some (header_of_loan p (new_loan slot values elements port.sender.user_header))) stays.rest,
      ap (passes_port (λ p. p.stands)) there ∙ still,
      ap (passes_port is_blocked) there ∙ ap is_some (stays.sending ∙ tells.0),
    )

fresh_at : {T U : Type 0} (found : Option (PublisherPort T U)) (number values elements slot : ℕ) (old new : ServicePorts T U)
    → port_of number old.publishers ≡ found → AtPublisher number (LoansOne values elements) found old (Some (Ok slot)) new
    → IsFresh number values elements slot old new
fresh_at None number values elements slot old new found loans = absurd (not_none (Ok slot) loans.0)
fresh_at (Some port) number values elements slot old new found loans
    = fresh_if port.stands number values elements slot port loans.0 old new found refl loans.1 loans.2

-- a loan that was just made is found in its slot
pub loan_is_fresh : {T U : Type 0} → LoanIsFresh T U
loan_is_fresh number values elements slot old new loans
    = fresh_at (port_of number old.publishers) number values elements slot old new refl loans

-- the publisher of a number, after a step of it
pub stepped : {T U : Type 0} (number : ℕ) (step : PublisherPort T U → PublisherPort T U) (ports : List (ℕ × PublisherPort T U))
    (port : PublisherPort T U)
    → port_of number ports ≡ Some port → port_of number (changed number step ports) ≡ Some (step port)
stepped number step ports port there =
    ap (λ found. port_of number (changed_at_port number step found ports)) there ∙ same_set (is_at (nat_cmp number)) ports (step port)
    port there

-- What is written into a loan is found there, and whether a send is blocked doesn't change.
pub record IsWritten {T U : Type 0} (number slot : ℕ) (loan : Loan T U) (old new : ServicePorts T U) : Type 0 where
  pub found : loan_in number slot new ≡ Some loan
  pub blocked : passes number is_blocked new ≡ passes number is_blocked old

written_at : {T U : Type 0} (found : Option (PublisherPort T U)) (number slot : ℕ) (test : Loan T U → Bool)
    (change : Loan T U → Loan T U) (ports : ServicePorts T U) (loan : Loan T U)
    → port_of number ports.publishers ≡ found → ((one : Loan T U) → (change one).slot ≡ one.slot) → loan_at_port slot found ≡ Some loan
    → test loan ≡ true
    → IsWritten number slot (change loan) ports
    (written_in number (λ port. list_any (λ one. eqb slot one.slot && test one) port.sender.uses.loans) slot change ports)
written_at None number slot test change ports loan there keeps holds passing = absurd (not_none loan (sym holds))
written_at {T} {U} (Some port) number slot test change ports loan there keeps holds passing =
    let step : PublisherPort T U → PublisherPort T U
    = λ one. changed_if (list_any (λ l. eqb slot l.slot && test l) one.sender.uses.loans) slot change one in
    let any : list_any (λ l. eqb slot l.slot && test l) port.sender.uses.loans ≡ true
    = one_passes slot test port.sender.uses.loans loan holds passing in
    let is : step port ≡ changed_there slot change port = rw any refl in
    let after : port_of number (changed number step ports.publishers) ≡ Some (changed_there slot change port)
    = stepped number step ports.publishers port there ∙ ap Some is in
    record {
      found = ap (loan_at_port slot) after ∙ found_changed slot change port.sender.uses.loans loan keeps holds;
      blocked = ap (passes_port is_blocked) after ∙ sym (ap (passes_port is_blocked) there);
    }

-- a loan that passes a test is written
pub written_there : {T U : Type 0} (number slot : ℕ) (test : Loan T U → Bool) (change : Loan T U → Loan T U) (ports : ServicePorts T U)
    (loan : Loan T U)
    → ((one : Loan T U) → (change one).slot ≡ one.slot) → loan_in number slot ports ≡ Some loan → test loan ≡ true
    → IsWritten number slot (change loan) ports
    (written_in number (λ port. list_any (λ one. eqb slot one.slot && test one) port.sender.uses.loans) slot change ports)
written_there number slot test change ports loan keeps holds passing
    = written_at (port_of number ports.publishers) number slot test change ports loan refl keeps holds passing

-- What a home has after a loan: the ports before it, and those after it, where the loan is fresh.
pub record LentAt {T U H : Type 0} (of : H → Option (ServicePorts T U)) (number values elements slot : ℕ) (old new : H) : Type 0 where
  pub before : ServicePorts T U
  pub after : ServicePorts T U
  pub were : of old ≡ Some before
  pub are : of new ≡ Some after
  pub fresh : IsFresh number values elements slot before after

lent_at : {T U H : Type 0} (found : Option (ServicePorts T U)) (of : H → Option (ServicePorts T U)) (put : ServicePorts T U → H → H)
    (there : (ports : ServicePorts T U) (home : H) → IsSome (of home) → of (put ports home) ≡ Some ports)
    (number values elements slot : ℕ) (old new : H) → of old ≡ found
    → AtDomain (λ after. put after old) (LoansBy number values elements) found old (Some (Ok slot)) new
    → LentAt of number values elements slot old new
lent_at None of put there number values elements slot old new found lends = absurd (not_none (Ok slot) lends.0)
lent_at (Some ports) of put there number values elements slot old new found lends = record {
  before = ports;
  after = lends.0;
  were = found;
  are = ap of lends.2 ∙ there lends.0 old (ap is_some found);
  fresh = loan_is_fresh number values elements slot ports lends.0 lends.1;
}

-- a loan that was just made is found in its home
pub lent_there : {T U H : Type 0} (of : H → Option (ServicePorts T U)) (put : ServicePorts T U → H → H)
    (there : (ports : ServicePorts T U) (home : H) → IsSome (of home) → of (put ports home) ≡ Some ports)
    (number values elements slot : ℕ) (old new : H)
    → AtDomain (λ after. put after old) (LoansBy number values elements) (of old) old (Some (Ok slot)) new
    → LentAt of number values elements slot old new
lent_there of put there number values elements slot old new lends
    = lent_at (of old) of put there number values elements slot old new refl lends

-- a change of the ports of a domain that is here
pub changed_there_at : {T U H : Type 0} (of : H → Option (ServicePorts T U)) (put : ServicePorts T U → H → H)
    (there : (ports : ServicePorts T U) (home : H) → IsSome (of home) → of (put ports home) ≡ Some ports)
    (change : ServicePorts T U → ServicePorts T U) (old new : H) (ports : ServicePorts T U) → of old ≡ Some ports
    → new ≡ changed_at (λ after. put after old) change (of old) old → of new ≡ Some (change ports)
changed_there_at of put there change old new ports are is =
    ap of (is ∙ ap (λ found. changed_at (λ after. put after old) change found old) are) ∙ there (change ports) old (ap is_some are)

-- a fresh loan that is written whole is ready
pub ready_there : {T U H : Type 0} (of : H → Option (ServicePorts T U)) (put : ServicePorts T U → H → H)
    (there : (ports : ServicePorts T U) (home : H) → IsSome (of home) → of (put ports home) ≡ Some ports)
    (number count elements slot : ℕ) (values : List T) (test : Loan T U → Bool) (change : Loan T U → Loan T U) (old middle new : H)
    → AtDomain (λ after. put after old) (LoansBy number count elements) (of old) old (Some (Ok slot)) middle
    → new ≡ changed_at (λ after. put after middle)
    (written_in number (λ port. list_any (λ one. eqb slot one.slot && test one) port.sender.uses.loans) slot change) (of middle) middle
    → ((one : Loan T U) → (change one).slot ≡ one.slot) → ((user_header : U) → test (new_loan slot count elements user_header) ≡ true)
    → ((user_header : U) → change (new_loan slot count elements user_header)
    ≡ record { slot = slot; elements = elements; user_header = user_header; values = map Some values })
    → IsReady number values elements slot (of new)
ready_there {T} {U} of put there number count elements slot values test change old middle new lends writes keeps passing gives =
    let lent = lent_there of put there number count elements slot old middle lends in
    let user_header = (lent.fresh.0).sender.user_header in
    let written = written_there number slot test change lent.after (new_loan slot count elements user_header) keeps lent.fresh.2
    (passing user_header) in
    let after = changed_there_at of put there
    (written_in number (λ port. list_any (λ one. eqb slot one.slot && test one) port.sender.uses.loans) slot change) middle new
    lent.after lent.are writes in (
      user_header,
      ap (loan_found number slot) after ∙ written.found ∙ ap Some (gives user_header),
      ap (publisher_blocked number) after ∙ written.blocked ∙ lent.fresh.5,
    )

-- what is ready is written
pub ready_is_written : {T U : Type 0} (number elements slot : ℕ) (values : List T) (ports : Option (ServicePorts T U))
    → IsReady number values elements slot ports → is_written_loan (loan_found number slot ports) ≡ true
ready_is_written number elements slot values ports ready = ap is_written_loan ready.1 ∙ all_written values

-- and no send is blocked
pub ready_is_free : {T U : Type 0} (number elements slot : ℕ) (values : List T) (ports : Option (ServicePorts T U))
    → IsReady number values elements slot ports → publisher_blocked number ports ≡ false
ready_is_free number elements slot values ports ready = ready.2

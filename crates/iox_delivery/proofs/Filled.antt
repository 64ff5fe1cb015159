-- Values that are written one after the other are found in the loan.
use Rattle.std.proofs.Common.{arith, ◌≡◌, ◌+◌, ◌<◌, ◌∙◌, ◌∷◌, [], ◌++◌, ℕ, Bool, true, false, List, length, map, take, set, replicate}
use Rattle.std.proofs.Common.{nat_lt, eqb, Option, None, Some, IsSome, is_some, Ok, refl, sym, ap}
use Rattle.std.proofs.Math.Logic.{⊎_elim}
use Rattle.std.proofs.lemmas.Bool.Decides.{eqb_tells}
use Rattle.std.proofs.lemmas.List.{append-nil, append_assoc, length-replicate, length-set, take_all, take_more_set, replicate_more}
use Rattle.iox_delivery.specs.DomainPorts.Messages.{Loan, write_value, write_all, new_loan}
use Rattle.iox_delivery.specs.DomainPorts.MessagesSending.{has_place, has_length}
use Rattle.iox_delivery.specs.DomainPorts.Writing.{loan_of, changed_if}
use Rattle.iox_delivery.specs.DomainPorts.declared.publisher_port.PublisherPort.{PublisherPort}
use Rattle.iox_delivery.specs.DomainPorts.Publishers.{port_of, with_port, changed_at_port, changed}
use Rattle.iox_delivery.specs.Domain.Lending.{loan_at_port, loan_in, passes, passes_port, written_in}
use Rattle.iox_delivery.specs.Domain.PortsPublishing.{is_blocked}
use Rattle.iox_delivery.specs.Domain.declared.ports.service_ports.ServicePorts.{ServicePorts}
use Rattle.iox_delivery.specs.Domain.AtHomes.{AtDomain}
use Rattle.iox_delivery.specs.Domain.Steps.{LoansBy}
use Rattle.iox_delivery.specs.Holding.{loan_found, publisher_blocked}
use Rattle.iox_delivery.specs.Lent.{IsReady}
use Rattle.iox_delivery.specs.Publishing.{changed_at}
use Rattle.iox_domain.proofs.Lent.{one_passes, found_changed}
use Rattle.iox_delivery.proofs.Lent.{stepped, changed_there_at, lent_there, ready_there}
use Rattle.iox_delivery.specs.Slices.{each_written, each_written_in}

not_none : {X : Type 0} (x : X) → None ≡ Some x → ⊥
not_none x is = cc

-- one value more is written after the others
pub one_more : {T U : Type 0} (slot place n : ℕ) (values : List T) (value : T) (port : PublisherPort T U) → n ≡ place + length values
    → each_written slot place (values ++ value ∷ []) port
    ≡ changed_if (has_place slot n (each_written slot place values port).sender.uses) slot (write_value n value)
    (each_written slot place values port)
one_more slot place n [] value port is =
    let here : place ≡ n = omega (arith, is) in
    ap (λ k. changed_if (has_place slot k port.sender.uses) slot (write_value k value) port) here
one_more slot place n (x ∷ xs) value port is
    = one_more slot (place + 1) n xs value (changed_if (has_place slot place port.sender.uses) slot (write_value place x) port)
    (omega (arith, is))

-- one more of the same
pub filled_more : {T U : Type 0} (slot n : ℕ) (value : T) (first now next : PublisherPort T U)
    → now ≡ each_written slot 0 (replicate n value) first
    → next ≡ changed_if (has_place slot n now.sender.uses) slot (write_value n value) now
    → next ≡ each_written slot 0 (replicate (n + 1) value) first
filled_more slot n value first now next are is =
    is ∙ ap (λ port. changed_if (has_place slot n port.sender.uses) slot (write_value n value) port) are
    ∙ sym (one_more slot 0 n (replicate n value) value first (omega (arith, length-replicate n value)))
    ∙ ap (λ values. each_written slot 0 values first) (replicate_more n value)

-- one more that was made
pub made_more : {T U : Type 0} (slot n : ℕ) (values : List T) (value : T) (first now next : PublisherPort T U) → length values ≡ n
    → now ≡ each_written slot 0 values first
    → next ≡ changed_if (has_place slot n now.sender.uses) slot (write_value n value) now
    → next ≡ each_written slot 0 (values ++ value ∷ []) first
made_more slot n values value first now next count are is =
    is ∙ ap (λ port. changed_if (has_place slot n port.sender.uses) slot (write_value n value) port) are
    ∙ sym (one_more slot 0 n values value first (omega (arith, count)))

-- a value is written where the loan has its place
pub one_written : {T U : Type 0} (slot place : ℕ) (value : T) (port : PublisherPort T U) (loan : Loan T U)
    → loan_of slot port ≡ Some loan → place < length loan.values
    → loan_of slot (changed_if (has_place slot place port.sender.uses) slot (write_value place value) port)
    ≡ Some (write_value place value loan)
one_written slot place value port loan found within =
    let has : nat_lt place (length loan.values) ≡ true = grind (arith, within) in
    let any : has_place slot place port.sender.uses ≡ true
    = one_passes slot (λ one. nat_lt place (length one.values)) port.sender.uses.loans loan found has in
    rw any (found_changed slot (write_value place value) port.sender.uses.loans loan (λ one. refl) found)

-- what is written from a place on stands there, and before it what stood there
pub from_place : {T U : Type 0} (slot place : ℕ) (values : List T) (port : PublisherPort T U) (loan : Loan T U)
    → loan_of slot port ≡ Some loan → place + length values ≡ length loan.values
    → loan_of slot (each_written slot place values port) ≡ Some (record loan { values = take place loan.values ++ map Some values })
from_place slot place [] port loan found count =
    let all : take place loan.values ++ [] ≡ loan.values
    = append-nil (take place loan.values) ∙ take_all place loan.values (omega (arith, count)) in
    found ∙ sym (ap (λ values. Some (record loan { values = values })) all)
from_place slot place (value ∷ values) port loan found count =
    let within : place < length loan.values = omega (arith, count) in
    let next = changed_if (has_place slot place port.sender.uses) slot (write_value place value) port in
    let there : loan_of slot next ≡ Some (write_value place value loan) = one_written slot place value port loan found within in
    let rest = from_place slot (place + 1) values next (write_value place value loan) there
    (omega (arith, count, length-set loan.values place (Some value))) in
    let taken : take (place + 1) (set loan.values place (Some value)) ++ map Some values ≡ take place loan.values ++ Some value
    ∷ map Some values =
    ap (λ before. before ++ map Some values) (take_more_set loan.values place (Some value) within) ∙ append_assoc
    (take place loan.values) (Some value ∷ []) (map Some values) in
    rest ∙ ap (λ values. Some (record loan { values = values })) taken

-- a loan of as many values has just those that are written
pub each_of : {T U : Type 0} (slot : ℕ) (values : List T) (port : PublisherPort T U) (loan : Loan T U) → loan_of slot port ≡ Some loan
    → length loan.values ≡ length values
    → loan_of slot (each_written slot 0 values port) ≡ Some (write_all values loan)
each_of slot values port loan found count = from_place slot 0 values port loan found (omega (arith, count))

-- whether a send is blocked stays
one_waits : {T U : Type 0} (test : Bool) (slot : ℕ) (change : Loan T U → Loan T U) (port : PublisherPort T U)
    → is_blocked (changed_if test slot change port) ≡ is_blocked port
one_waits true slot change port = refl
one_waits false slot change port = refl

pub each_waits : {T U : Type 0} (slot place : ℕ) (values : List T) (port : PublisherPort T U)
    → is_blocked (each_written slot place values port) ≡ is_blocked port
each_waits slot place [] port = refl
each_waits slot place (value ∷ values) port =
    each_waits slot (place + 1) values (changed_if (has_place slot place port.sender.uses) slot (write_value place value) port)
    ∙ one_waits (has_place slot place port.sender.uses) slot (write_value place value) port

in_port : {T U : Type 0} (found : Option (PublisherPort T U)) (number slot : ℕ) (values : List T) (ports : ServicePorts T U)
    (loan : Loan T U) → port_of number ports.publishers ≡ found
    → loan_at_port slot found ≡ Some loan → length loan.values ≡ length values
    → (loan_in number slot (each_written_in number slot values ports) ≡ Some (write_all values loan))
    × (passes number is_blocked (each_written_in number slot values ports) ≡ passes number is_blocked ports)
in_port None number slot values ports loan there found count = absurd (not_none loan found)
in_port (Some port) number slot values ports loan there found count =
    let after : port_of number (changed number (each_written slot 0 values) ports.publishers) ≡ Some (each_written slot 0 values port)
    = stepped number (each_written slot 0 values) ports.publishers port there in (
      ap (loan_at_port slot) after ∙ each_of slot values port loan found count,
      ap (passes_port is_blocked) after ∙ each_waits slot 0 values port ∙ sym (ap (passes_port is_blocked) there),
    )

-- what is written is found at the ports
pub in_ports : {T U : Type 0} (number slot : ℕ) (values : List T) (ports : ServicePorts T U) (loan : Loan T U)
    → loan_in number slot ports ≡ Some loan → length loan.values ≡ length values
    → (loan_in number slot (each_written_in number slot values ports) ≡ Some (write_all values loan))
    × (passes number is_blocked (each_written_in number slot values ports) ≡ passes number is_blocked ports)
in_ports number slot values ports loan found count
    = in_port (port_of number ports.publishers) number slot values ports loan refl found count

in_home_at : {T U H : Type 0} (here : Option (ServicePorts T U)) (of : H → Option (ServicePorts T U)) (put : ServicePorts T U → H → H)
    (there : (ports : ServicePorts T U) (home : H) → IsSome (of home) → of (put ports home) ≡ Some ports)
    (number slot : ℕ) (values : List T) (old new : H) → of old ≡ here
    → new ≡ changed_at (λ after. put after old) (each_written_in number slot values) here old
    → (loan : Loan T U) → loan_found number slot here ≡ Some loan → length loan.values ≡ length values
    → loan_found number slot (of new) ≡ Some (write_all values loan)
in_home_at None of put there number slot values old new is writes loan found count = absurd (not_none loan found)
in_home_at (Some ports) of put there number slot values old new is writes loan found count =
    let after : of new ≡ Some (each_written_in number slot values ports)
    = ap of writes ∙ there (each_written_in number slot values ports) old (ap is_some is) in
    ap (loan_found number slot) after ∙ (in_ports number slot values ports loan found count).0

-- what is written is found in the home
pub in_home : {T U H : Type 0} (of : H → Option (ServicePorts T U)) (put : ServicePorts T U → H → H)
    (there : (ports : ServicePorts T U) (home : H) → IsSome (of home) → of (put ports home) ≡ Some ports)
    (number slot : ℕ) (values : List T) (old new : H)
    → new ≡ changed_at (λ after. put after old) (each_written_in number slot values) (of old) old
    → (loan : Loan T U) → loan_found number slot (of old) ≡ Some loan → length loan.values ≡ length values
    → loan_found number slot (of new) ≡ Some (write_all values loan)
in_home of put there number slot values old new writes loan found count
    = in_home_at (of old) of put there number slot values old new refl writes loan found count

-- a fresh loan that is filled is ready
pub filled_is_ready : {T U H : Type 0} (of : H → Option (ServicePorts T U)) (put : ServicePorts T U → H → H)
    (there : (ports : ServicePorts T U) (home : H) → IsSome (of home) → of (put ports home) ≡ Some ports)
    (number len elements slot : ℕ) (value : T) (old middle new : H)
    → AtDomain (λ after. put after old) (LoansBy number len elements) (of old) old (Some (Ok slot)) middle
    → new ≡ changed_at (λ after. put after middle) (each_written_in number slot (replicate len value)) (of middle) middle
    → IsReady number (replicate len value) elements slot (of new)
filled_is_ready of put there number len elements slot value old middle new lends writes =
    let lent = lent_there of put there number len elements slot old middle lends in
    let loan = new_loan slot len elements (lent.fresh.0).sender.user_header in
    let count : length loan.values ≡ length (replicate len value) = length-replicate len None ∙ sym (length-replicate len value) in
    let written = in_ports number slot (replicate len value) lent.after loan lent.fresh.2 count in
    let after = changed_there_at of put there (each_written_in number slot (replicate len value)) middle new lent.after lent.are writes in (
      (lent.fresh.0).sender.user_header,
      ap (loan_found number slot) after ∙ written.0,
      ap (publisher_blocked number) after ∙ written.1 ∙ lent.fresh.5,
    )

-- the publisher that was written is put back
pub puts_each : {T U H : Type 0} (of : H → Option (ServicePorts T U)) (put : ServicePorts T U → H → H)
    (there : (ports : ServicePorts T U) (home : H) → IsSome (of home) → of (put ports home) ≡ Some ports)
    (number slot : ℕ) (values : List T) (old : H) (ports : ServicePorts T U) (port after : PublisherPort T U) → of old ≡ Some ports
    → port_of number ports.publishers ≡ Some port → after ≡ each_written slot 0 values port
    → (put (record ports { publishers = with_port number ports.publishers after }) old
    ≡ changed_at (λ one. put one old) (each_written_in number slot values) (of old) old)
    × ((loan : Loan T U) → loan_found number slot (of old) ≡ Some loan → length loan.values ≡ length values
    → loan_found number slot (of (put (record ports { publishers = with_port number ports.publishers after }) old))
    ≡ Some (write_all values loan))
puts_each {T} {U} {H} of put there number slot values old ports port after are found is =
    let new : H = put (record ports { publishers = with_port number ports.publishers after }) old in
    let writes : new ≡ changed_at (λ one. put one old) (each_written_in number slot values) (of old) old =
    ap (λ one. put (record ports { publishers = with_port number ports.publishers one }) old) is
    ∙ ap (λ one. put (record ports { publishers = changed_at_port number (each_written slot 0 values) one ports.publishers }) old)
    (sym found)
    ∙ ap (λ one. changed_at (λ after. put after old) (each_written_in number slot values) one old) (sym are) in
    (writes, λ loan there_is count. in_home of put there number slot values old new writes loan there_is count)

same_number : (n : ℕ) → eqb n n ≡ true
same_number n = ⊎_elim (λ same. same.0) (λ differs. absurd (differs.1 refl)) (eqb_tells n n)

-- a loan of n values has n
as_many : (T : Type 0) (n : ℕ) → eqb n (length (replicate {A = Option T} n None)) ≡ true
as_many T n = rw (length-replicate {A = Option T} n None) (same_number n)

-- a fresh loan of which all values are written at once is ready
pub written_is_ready : {T U H : Type 0} (of : H → Option (ServicePorts T U)) (put : ServicePorts T U → H → H)
    (there : (ports : ServicePorts T U) (home : H) → IsSome (of home) → of (put ports home) ≡ Some ports)
    (number elements slot : ℕ) (values : List T) (old middle new : H)
    → AtDomain (λ after. put after old) (LoansBy number (length values) elements) (of old) old (Some (Ok slot)) middle
    → new ≡ changed_at (λ after. put after middle)
    (written_in number (λ port. has_length slot (length values) port.sender.uses) slot (write_all values)) (of middle) middle
    → IsReady number values elements slot (of new)
written_is_ready {T} of put there number elements slot values old middle new lends writes =
    ready_there of put there number (length values) elements slot values (λ loan. eqb (length values) (length loan.values))
    (write_all values) old middle new lends writes
    (λ loan. refl) (λ user_header. as_many T (length values)) (λ user_header. refl)

-- A receive: each sample that comes is borrowed besides those that were.
use Rattle.std.proofs.Common.{arith, ◌≡◌, ◌∙◌, ◌+◌, ◌≤◌, ◌<◌, ◌∷◌, [], ℕ, Bool, true, List, length, min, take, slice_get, nat_lt, Option}
use Rattle.std.proofs.Common.{None, Some, Result, Ok, Err, refl, ap}
use Rattle.std.proofs.lemmas.List.{length-append}
use Rattle.std.specs.List.{All}
use Rattle.iox_domain.specs.Container.declared.container.Member.{Member}
use Rattle.iox_domain.specs.DomainPorts.Ports.{connection_of}
use Rattle.iox_domain.specs.DomainPorts.declared.publisher_port.PublisherPort.{PublisherPort}
use Rattle.iox_domain.specs.DomainSlots.Uses.{taken}
use Rattle.iox_domain.specs.DomainPorts.Publishers.{port_of, with_port, connection_at_port, connection_in, most_borrowed_at_port}
use Rattle.iox_domain.specs.DomainPorts.Publishers.{changed_at_port}
use Rattle.iox_domain.specs.DomainPorts.Reading.{taken_at}
use Rattle.iox_domain.specs.DomainPorts.Receiving.{Serves, IsReceiveAnswer, nothing_taken, given, given_ports}
use Rattle.iox_domain.specs.DomainPorts.Subscribing.{attached_at, connection_by, most_by, has_data, is_below, gives, taken_of, taken_ports}
use Rattle.iox_domain.specs.DomainPorts.SubscriberUpdating.{ReceivesAfter, ReceivesNext}
use Rattle.iox_domain.specs.DomainPorts.declared.attached.Attached.{Attached}
use Rattle.iox_domain.specs.DomainPorts.declared.attached.Taken.{Taken}
use Rattle.iox_domain.specs.DomainPorts.declared.publisher_entry.PublisherEntry.{PublisherEntry}
use Rattle.iox_domain.specs.DomainPorts.declared.subscriber_port.SubscriberPort.{SubscriberPort}
use Rattle.iox_domain.specs.DomainValues.declared.connection_failure.ConnectionFailure.{ConnectionFailure}
use Rattle.iox_domain.specs.DomainValues.declared.degradation.DegradationAction.{DegradationAction}
use Rattle.iox_domain.specs.DomainValues.declared.degradation.DegradationInfo.{DegradationInfo}
use Rattle.iox_domain.specs.DomainValues.declared.port_error.ReceiveError.{ReceiveError}
use Rattle.iox_domain.specs.DomainValues.declared.service_sizes.ServiceSizes.{ServiceSizes}
use Rattle.iox_domain.specs.PortLawsLaws.{IsSoundEntry}
use Rattle.iox_domain.specs.SizeLaws.{IsMadeFor, allowed_by}
use Rattle.iox_domain.proofs.BookedTakes.{taken_set, met_gives}
use Rattle.iox_domain.proofs.Numbered.{at_number, found_of_all, same_set}
use Rattle.iox_domain.specs.Samples.{borrowed_at, borrowed_of, received_in}
use Rattle.iox_domain.proofs.Bools.{both_true}
use Rattle.iox_domain.proofs.SamplesLending.{Lends, lends_stays, lends_on, lends_is, lends_takes}
use Rattle.iox_domain.proofs.Sparing.{FreeFit, borrowed_more, spared_updates, spared_swept, within_values}
use Rattle.iox_domain.proofs.SamplesSums.{one_fewer}

-- how many samples came
abbrev came : Option Taken → ℕ
came None = 0
came (Some taken) = 1

-- The effect of taking a message: publishers stay sound, no connection has fewer borrowed messages, and a received message is
-- borrowed in addition.
record Gives {T U : Type 0} (most came : ℕ) (port : SubscriberPort) (ports new_ports : List (ℕ × PublisherPort T U)) : Type 0 where
  lends : Lends ports new_ports
  less : (next : ℕ) → All (IsSoundEntry next) ports
      → borrowed_of most port.connections.values ports + came ≤ borrowed_of most port.connections.values new_ports

gives_none : {T U : Type 0} (most : ℕ) (port : SubscriberPort) (ports : List (ℕ × PublisherPort T U)) → Gives most 0 port ports ports
gives_none most port ports = record { lends = lends_stays ports; less = λ next all. omega arith }

some_first : {X : Type 0} (xs : List X) → 0 < length xs → length (take 1 xs) ≡ 1
some_first [] some = absurd (omega (arith, some))
some_first (x ∷ xs) some = omega arith

-- the connection of a publisher gives: one more is borrowed of it, and no more than may be
gave_at : {T U : Type 0} (sizes : ServiceSizes) (attached : Attached) (found : Option (PublisherPort T U))
    (ports : List (ℕ × PublisherPort T U)) → All (IsMadeFor (allowed_by sizes)) ports → port_of attached.publisher ports ≡ found
    → nat_lt (length (connection_at_port attached.index found).borrowed) (most_borrowed_at_port found) ≡ true
    → nat_lt 0 (length (connection_at_port attached.index found).waiting) ≡ true
    → min (length (connection_at_port attached.index found).borrowed) sizes.subscriber_max_borrowed_samples + 1
    ≤ min (length (connection_in attached.publisher attached.index
    (changed_at_port attached.publisher (taken_at attached.index) found ports)).borrowed) sizes.subscriber_max_borrowed_samples
gave_at sizes attached None ports all there below some = cc
gave_at {T} {U} sizes attached (Some port) ports all there below some =
    let old = connection_of attached.index port in
    let after : PublisherPort T U = taken_at attached.index port in
    let few : length old.borrowed < port.sender.uses.most_borrowed = grind (arith, below) in
    let waits : 0 < length old.waiting = grind (arith, some) in
    let made = (found_of_all (IsMadeFor (allowed_by sizes)) (at_number attached.publisher) ports port all there).holds.0 in
    let now : port_of attached.publisher (with_port attached.publisher ports after) ≡ Some after
    = same_set (at_number attached.publisher) ports after port there in
    omega (
      arith,
      few,
      ap (λ one. one.most_borrowed) made,
      ap (λ found. length (connection_at_port attached.index found).borrowed) now,
      ap (λ one. length one.borrowed) (taken_set port.sender.uses.connections attached.index),
      length-append old.borrowed (take 1 old.waiting),
      some_first old.waiting waits,
    )

gave : {T U : Type 0} (sizes : ServiceSizes) (key : ℕ) (found : Option Attached) (port : SubscriberPort)
    (ports : List (ℕ × PublisherPort T U)) → All (IsMadeFor (allowed_by sizes)) ports → attached_at key port ≡ found
    → nat_lt (length (connection_by found ports).borrowed) (most_by found ports) ≡ true
    → nat_lt 0 (length (connection_by found ports).waiting) ≡ true
    → Gives sizes.subscriber_max_borrowed_samples (came (taken_of port.number found ports)) port ports (taken_ports found ports)
gave sizes key None port ports all there below some = gives_none sizes.subscriber_max_borrowed_samples port ports
gave {T} {U} sizes key (Some attached) port ports all there below some =
    let most = sizes.subscriber_max_borrowed_samples in
    let lends : Lends ports (taken_ports (Some attached) ports) = lends_takes attached ports below in
    record {
      lends = lends;
      less = λ next sound.
          one_fewer (λ one. borrowed_at most one ports) (λ one. borrowed_at most one (taken_ports (Some attached) ports))
          port.connections.values key (Some attached) None
          (λ one. borrowed_more most one ports (taken_ports (Some attached) ports) (lends.more next sound))
          (within_values port.connections.values key attached there) there
          (gave_at sizes attached (port_of attached.publisher ports) ports all refl below some);
    }

given_gives : {T U : Type 0} (sizes : ServiceSizes) (giver : Option ℕ) (port : SubscriberPort) (ports : List (ℕ × PublisherPort T U))
    → All (IsMadeFor (allowed_by sizes)) ports → ((key : ℕ) → giver ≡ Some key → gives port ports key ≡ true)
    → Gives sizes.subscriber_max_borrowed_samples (came (given giver port ports)) port ports (given_ports giver port ports)
given_gives sizes None port ports all giving = gives_none sizes.subscriber_max_borrowed_samples port ports
given_gives sizes (Some key) port ports all giving =
    let both = both_true (is_below port ports key) (has_data port ports key) (giving key refl) in
    gave sizes key (attached_at key port) port ports all refl both.0 both.1

-- The effect of a receive: publishers stay sound, no connection has fewer borrowed messages, whether the subscriber exists stays, and
-- a received message is borrowed in addition.
pub record ReceivesLess {T U : Type 0} (most came : ℕ) (port : SubscriberPort) (ports : List (ℕ × PublisherPort T U))
    (new : SubscriberPort) (new_ports : List (ℕ × PublisherPort T U)) : Type 0 where
  pub lends : Lends ports new_ports
  pub stands : new.stands ≡ port.stands
  pub less : (next : ℕ) → All (IsSoundEntry next) ports → FreeFit port.connections
      → borrowed_of most port.connections.values ports + came ≤ borrowed_of most new.connections.values new_ports

serves_less : {T U : Type 0} (sizes : ServiceSizes) (port new : SubscriberPort) (ports new_ports : List (ℕ × PublisherPort T U))
    (taken : Option Taken) → All (IsMadeFor (allowed_by sizes)) ports → Serves port ports taken new new_ports
    → ReceivesLess sizes.subscriber_max_borrowed_samples (came taken) port ports new new_ports
serves_less {T} {U} sizes port new ports new_ports taken all (met, is_met, giver, is_giver, is_taken, is, are, is_there) =
    let most = sizes.subscriber_max_borrowed_samples in
    let between : List (ℕ × PublisherPort T U) = given_ports giver port ports in
    let one = given_gives sizes giver port ports all
    (λ key same. met_gives (gives port ports) port.expired.items met (slice_get port.expired.items met) giver key refl is_met
    is_giver same) in
    let two = spared_swept most 0 met port between in
    rw is (rw are (record {
      lends = lends_on ports between _ one.lends two.lends;
      stands = two.stands;
      less = λ next sound fit. omega
          (arith, ap (λ one. came one) is_taken, one.less next sound, two.less next (one.lends.keeps.sound next sound) fit);
    }))

-- what is answered tells what came
answer_tells : (taken : Option Taken) (test : ℕ → Bool) (answer : Result (Option Taken) ReceiveError)
    → IsReceiveAnswer taken test answer → received_in (Some answer) ≡ came taken
answer_tells (Some one) test answer is = ap (λ told. received_in (Some told)) is
answer_tells None test answer (unread, first, is) = ap (λ told. received_in (Some told)) is ∙ nothing unread
  where
    nothing : (unread : Option ℕ) → received_in (Some (nothing_taken unread)) ≡ 0
    nothing None = refl
    nothing (Some key) = refl

receives_after_less : {T U : Type 0} (sizes : ServiceSizes) (updated : Result (Unit {0}) ConnectionFailure) (port new : SubscriberPort)
    (ports new_ports : List (ℕ × PublisherPort T U)) (answer : Result (Option Taken) ReceiveError)
    → All (IsMadeFor (allowed_by sizes)) ports
    → ReceivesAfter updated port ports answer new new_ports
    → ReceivesLess sizes.subscriber_max_borrowed_samples (received_in (Some answer)) port ports new new_ports
receives_after_less sizes (Err failure) port new ports new_ports answer all (is_answer, is, are) = record {
  lends = lends_is ports new_ports are;
  stands = ap (λ one. one.stands) is;
  less = λ next sound fit. omega (
    arith,
    ap (λ told. received_in (Some told)) is_answer,
    ap (λ one. borrowed_of sizes.subscriber_max_borrowed_samples one.connections.values new_ports) is,
    ap (λ all. borrowed_of sizes.subscriber_max_borrowed_samples port.connections.values all) are,
  );
}
receives_after_less sizes (Ok done) port new ports new_ports answer all (taken, serves, is_answer) =
    let one = serves_less sizes port new ports new_ports taken all serves in
    record {
      lends = one.lends;
      stands = one.stands;
      less = λ next sound fit. omega (arith, one.less next sound fit, answer_tells taken (has_data new new_ports) answer is_answer);
    }

pub receives_less : {T U : Type 0} (sizes : ServiceSizes) (may : DegradationInfo → DegradationAction → Type 0)
    (listed : List (Option (Member PublisherEntry))) (changes : ℕ) (port new : SubscriberPort)
    (ports new_ports : List (ℕ × PublisherPort T U))
    (answer : Result (Option Taken) ReceiveError) → All (IsMadeFor (allowed_by sizes)) ports
    → ReceivesNext may listed changes port ports answer new new_ports
    → ReceivesLess sizes.subscriber_max_borrowed_samples (received_in (Some answer)) port ports new new_ports
receives_less sizes may listed changes port new ports new_ports answer all (updated, between, between_ports, updates, after) =
    let one = spared_updates sizes.subscriber_max_borrowed_samples may listed changes port between ports between_ports updated updates in
    let two = receives_after_less sizes updated between new between_ports new_ports answer
    (one.lends.keeps.sized (allowed_by sizes) all) after in
    record {
      lends = lends_on ports between_ports new_ports one.lends two.lends;
      stands = two.stands ∙ one.stands;
      less = λ next sound fit. omega (arith, one.less next sound fit, two.less next (one.lends.keeps.sound next sound) (one.free fit));
    }

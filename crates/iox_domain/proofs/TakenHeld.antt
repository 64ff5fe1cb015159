-- What a subscriber receives is held.
use Rattle.std.proofs.Common.{arith, ◌≡◌, ◌==◌, ◌∷◌, [], ℕ, zero, suc, ◌+◌, ◌<◌, Bool, true, false, List, get_or, set, map, length, take}
use Rattle.std.proofs.Common.{slice_get, Option, None, Some, Result, Ok, Err, refl, sym, ap, ◌∙◌, subst, if◌then◌else◌, inl, inr}
use Rattle.std.proofs.lemmas.Bool.{cases_eq, eq-eqb}
use Rattle.std.proofs.lemmas.List.Folds.{find-append}
use Rattle.std.specs.List.{find, list_any}
use Rattle.std.specs.Option.{option_or}
use Rattle.iox_domain.specs.DomainValues.declared.connection_failure.ConnectionFailure.{ConnectionFailure}
use Rattle.iox_domain.specs.DomainValues.declared.degradation.DegradationAction.{DegradationAction}
use Rattle.iox_domain.specs.DomainValues.declared.degradation.DegradationInfo.{DegradationInfo}
use Rattle.iox_domain.specs.DomainSlots.Uses.{Connection, nobody, is_there, ended, settled as settled_connection, taken}
use Rattle.iox_domain.specs.DomainSlots.declared.stage.Stage.TheVariants as stage
use Rattle.iox_domain.specs.DomainPorts.Messages.{Message}
use Rattle.iox_domain.specs.DomainPorts.Ports.{connection_of, is_live, ended_at}
use Rattle.iox_domain.specs.DomainPorts.declared.publisher_port.PublisherPort.{PublisherPort}
use Rattle.iox_domain.specs.DomainPorts.Publishers.{port_of, with_port, changed, changed_at_port, connection_at_port, is_over_port}
use Rattle.iox_domain.specs.DomainPorts.Publishers.{is_over_in, removed, settled, ended_if_left}
use Rattle.iox_domain.specs.DomainPorts.Reading.{borrowed_in, is_over, taken_at}
use Rattle.iox_domain.specs.DomainPorts.Receiving.{IsGiverThere, IsReceiveAnswer, dropped_port, dropped_ports, is_idle_at, swept, given}
use Rattle.iox_domain.specs.DomainPorts.Receiving.{given_ports}
use Rattle.iox_domain.specs.DomainPorts.Subscribing.{attached_at, connection_by, ended_ports, gives, has_data, taken_of, taken_ports}
use Rattle.iox_domain.specs.DomainPorts.SubscriberUpdating.{ReceivesAfter}
use Rattle.iox_domain.specs.DomainPorts.declared.attached.Attached.{Attached}
use Rattle.iox_domain.specs.DomainPorts.declared.attached.Taken.{Taken}
use Rattle.iox_domain.specs.DomainPorts.declared.subscriber_port.SubscriberPort.{SubscriberPort}
use Rattle.iox_domain.specs.Ports.{AtSubscriber}
use Rattle.iox_domain.specs.Reading.{sample_in, sample_at_port}
use Rattle.iox_domain.specs.Rolls.{RollState}
use Rattle.iox_domain.specs.Subscribers.{subscriber_of}
use Rattle.iox_domain.specs.PortsSubscribing.{ReceivesIf, ReceivesOne}
use Rattle.iox_domain.specs.declared.ports.service_ports.ServicePorts.{ServicePorts}
use Rattle.iox_domain.specs.DomainPorts.declared.publisher_entry.PublisherEntry.{PublisherEntry}
use Rattle.iox_domain.specs.PortLawsLaws.{ReceivedIsHeld}
use Rattle.iox_domain.proofs.BookedTakes.{giver_gives, met_gives, no_message, taken_set}
use Rattle.iox_domain.proofs.ListKeeps.{last_of, none_there}
use Rattle.iox_domain.proofs.Numbered.{at_number, other_fails, other_set, same_set, other_gone}

-- a message that is borrowed of a connection that is there stays so
record Goes {T U : Type 0} (old new : Connection (Message T U)) : Type 0 where
  goes : (slot : ℕ) (message : Message T U) → is_there old ≡ true → borrowed_in slot old ≡ Some message → (is_there new ≡ true)
      × (borrowed_in slot new ≡ Some message)

goes_same : {T U : Type 0} (connection : Connection (Message T U)) → Goes connection connection
goes_same connection = record { goes = λ slot message there held. (there, held) }

ended_by : {T U : Type 0} (connection : Connection (Message T U)) (borrowed : List (Message T U)) → connection.borrowed ≡ borrowed
    → Goes connection (settled_connection stage.Ended connection.limit [] borrowed)
ended_by connection [] is
    = record {
      goes = λ slot message there held. let no : None ≡ Some message
          = ap (λ all. find (λ one. one.slot == slot) all) (sym is) ∙ held in cc;
    }
ended_by connection (x ∷ xs) is = record
    { goes = λ slot message there held. (refl, ap (λ all. find (λ one. one.slot == slot) all) (sym is) ∙ held) }

goes_ended : {T U : Type 0} (connection : Connection (Message T U)) → Goes connection (ended connection)
goes_ended connection = ended_by connection connection.borrowed refl

set_goes : {T U : Type 0} (connections : List (Connection (Message T U))) (index : ℕ) (connection : Connection (Message T U))
    → Goes (get_or connections index nobody) connection → (other : ℕ)
    → Goes (get_or connections other nobody) (get_or (set connections index connection) other nobody)
set_goes [] index connection goes other = goes_same _
set_goes (x ∷ xs) zero connection goes zero = goes
set_goes (x ∷ xs) zero connection goes (suc other) = goes_same _
set_goes (x ∷ xs) (suc index) connection goes zero = goes_same _
set_goes (x ∷ xs) (suc index) connection goes (suc other) = set_goes xs index connection goes other

-- so it is at each connection of a publisher
record PortGoes {T U : Type 0} (old new : PublisherPort T U) : Type 0 where
  each : (index : ℕ) → Goes (connection_of index old) (connection_of index new)

port_goes : {T U : Type 0} (port : PublisherPort T U) → PortGoes port port
port_goes port = record { each = λ index. goes_same (connection_of index port) }

goes_if : {T U : Type 0} (test : Bool) (old one other : PublisherPort T U) → PortGoes old one → PortGoes old other
    → PortGoes old (if test then one else other)
goes_if true old one other goes_one goes_other = goes_one
goes_if false old one other goes_one goes_other = goes_other

port_ends : {T U : Type 0} (index : ℕ) (port : PublisherPort T U) → PortGoes port (ended_at index port)
port_ends index port = goes_if (is_live index port) port _ port
    (record {
      each = λ other. set_goes port.sender.uses.connections index (ended (connection_of index port))
          (goes_ended (connection_of index port)) other;
    }) (port_goes port)

port_ends_if_left : {T U : Type 0} (index : ℕ) (port : PublisherPort T U) → PortGoes port (ended_if_left index port)
port_ends_if_left index port = goes_if port.stands port port (ended_at index port) (port_goes port) (port_ends index port)

-- a sample is held of a connection that is there
record IsHeldThere {T U : Type 0} (sample : Taken) (message : Message T U) (ports : List (ℕ × PublisherPort T U)) : Type 0 where
  port : PublisherPort T U
  found : port_of sample.publisher ports ≡ Some port
  there : is_there (connection_of sample.index port) ≡ true
  held : borrowed_in sample.slot (connection_of sample.index port) ≡ Some message

-- a publisher takes a step
held_changed : {T U : Type 0} (number : ℕ) (step : PublisherPort T U → PublisherPort T U) (found : Option (PublisherPort T U))
    (ports : List (ℕ × PublisherPort T U)) (sample : Taken) (message : Message T U) → port_of number ports ≡ found
    → ((port : PublisherPort T U) → PortGoes port (step port)) → IsHeldThere sample message ports
    → IsHeldThere sample message (changed_at_port number step found ports)
held_changed number step None ports sample message is goes held = held
held_changed {T} {U} number step (Some port) ports sample message is goes held = elim (cases_eq sample.publisher number) [
  | inl same ↦
      let one : Some held.port ≡ Some port = sym held.found ∙ ap (λ n. port_of n ports) same ∙ is in
      let is_one : held.port ≡ port = cc in
      let both = ((goes port).each sample.index).goes sample.slot message
      (ap (λ p. is_there (connection_of sample.index p)) (sym is_one) ∙ held.there)
      (ap (λ p. borrowed_in sample.slot (connection_of sample.index p)) (sym is_one) ∙ held.held) in
      record {
        port = step port;
        found = ap (λ n. port_of n (with_port number ports (step port))) same ∙ same_set (at_number number) ports (step port) port is;
        there = both.0;
        held = both.1;
      }
  | inr other ↦ record {
    port = held.port;
    found = other_set (at_number number) (at_number sample.publisher) ports (step port) (other_fails sample.publisher number other) ∙
        held.found;
    there = held.there;
    held = held.held;
  }
]

-- a publisher that is over is gone
not_over : {T U : Type 0} (port : PublisherPort T U) (index : ℕ) → is_over port ≡ true → is_there (connection_of index port) ≡ true → ⊥
not_over port index over there =
    let none : list_any is_there port.sender.uses.connections ≡ false
    = last_of port.stands (length port.sender.uses.loans == 0) _ (list_any is_there port.sender.uses.connections) over in
    let no : false ≡ true = sym (none_there port.sender.uses.connections index none) ∙ there in
    cc

held_gone : {T U : Type 0} (number : ℕ) (ports : List (ℕ × PublisherPort T U)) (sample : Taken) (message : Message T U)
    → is_over_in number ports ≡ true → IsHeldThere sample message ports → IsHeldThere sample message (removed number ports)
held_gone number ports sample message over held = elim (cases_eq sample.publisher number) [
  | inl same ↦ absurd (not_over held.port sample.index (ap is_over_port (sym held.found ∙ ap (λ n. port_of n ports) same) ∙ over)
      held.there)
  | inr other ↦ record {
    port = held.port;
    found = other_gone (at_number number) (at_number sample.publisher) ports (other_fails sample.publisher number other) ∙ held.found;
    there = held.there;
    held = held.held;
  }
]

held_if : {T U : Type 0} (test : Bool) (sample : Taken) (message : Message T U) (one other : List (ℕ × PublisherPort T U))
    → (test ≡ true → IsHeldThere sample message one) → IsHeldThere sample message other
    → IsHeldThere sample message (if test then one else other)
held_if true sample message one other held_one held_other = held_one refl
held_if false sample message one other held_one held_other = held_other

held_settled : {T U : Type 0} (number : ℕ) (ports : List (ℕ × PublisherPort T U)) (sample : Taken) (message : Message T U)
    → IsHeldThere sample message ports → IsHeldThere sample message (settled number ports)
held_settled number ports sample message held
    = held_if (is_over_in number ports) sample message (removed number ports) ports
    (λ over. held_gone number ports sample message over held) held

-- connections end
held_ended : {T U : Type 0} (attached : Option Attached) (ports : List (ℕ × PublisherPort T U)) (sample : Taken) (message : Message T U)
    → IsHeldThere sample message ports → IsHeldThere sample message (ended_ports attached ports)
held_ended None ports sample message held = held
held_ended (Some attached) ports sample message held =
    held_settled attached.publisher (changed attached.publisher (ended_if_left attached.index) ports) sample message
    (held_changed attached.publisher (ended_if_left attached.index) (port_of attached.publisher ports) ports sample message refl
    (port_ends_if_left attached.index) held)

held_dropped : {T U : Type 0} (key : Option ℕ) (port : SubscriberPort) (ports : List (ℕ × PublisherPort T U)) (sample : Taken)
    (message : Message T U) → IsHeldThere sample message ports → IsHeldThere sample message (dropped_ports key port ports)
held_dropped None port ports sample message held = held
held_dropped (Some key) port ports sample message held = held_ended (attached_at key port) ports sample message held

held_either : {T U : Type 0} (test : Bool) (sample : Taken) (message : Message T U)
    (one other : SubscriberPort × List (ℕ × PublisherPort T U)) → IsHeldThere sample message one.1 → IsHeldThere sample message other.1
    → IsHeldThere sample message (if test then one else other).1
held_either true sample message one other held_one held_other = held_one
held_either false sample message one other held_one held_other = held_other

held_swept : {T U : Type 0} (place count : ℕ) (port : SubscriberPort) (ports : List (ℕ × PublisherPort T U)) (sample : Taken)
    (message : Message T U) → IsHeldThere sample message ports → IsHeldThere sample message (swept place count (port, ports)).1
held_swept place zero port ports sample message held = held
held_swept place (suc count) port ports sample message held =
    let key = slice_get port.expired.items place in
    held_either (is_idle_at key port ports) sample message
    (swept place count (dropped_port place key port, dropped_ports key port ports)) (swept (place + 1) count (port, ports))
    (held_swept place count (dropped_port place key port) (dropped_ports key port ports) sample message
    (held_dropped key port ports sample message held))
    (held_swept (place + 1) count port ports sample message held)

-- the oldest that waits is taken
some_or : {X : Type 0} (found : Option X) (x : X) → (one : X) × (option_or found (Some x) ≡ Some one)
some_or None x = (x, refl)
some_or (Some y) x = (y, refl)

oldest_found : {T U : Type 0} (message : Message T U) → find (λ one. one.slot == message.slot) (message ∷ []) ≡ Some message
oldest_found message = rw (eq-eqb message.slot message.slot refl) refl

taken_found : {T U : Type 0} (connection : Connection (Message T U)) (waiting : List (Message T U)) → connection.waiting ≡ waiting
    → 0 < length waiting
    → (message : Message T U) × (borrowed_in (get_or (map (λ message. message.slot) waiting) 0 0) (taken connection) ≡ Some message)
taken_found connection [] is some = absurd (omega (arith, some))
taken_found connection (x ∷ rest) is some =
    let first : find (λ one. one.slot == x.slot) (take 1 connection.waiting) ≡ Some x
    = ap (λ all. find (λ one. one.slot == x.slot) (take 1 all)) is ∙ oldest_found x in
    let all = find-append (λ one. one.slot == x.slot) connection.borrowed (take 1 connection.waiting) ∙ ap
    (λ other. option_or (find (λ one. one.slot == x.slot) connection.borrowed) other) first in
    let one = some_or (find (λ one. one.slot == x.slot) connection.borrowed) x in
    (one.0, all ∙ one.1)

taken_at_found : {T U : Type 0} (number : ℕ) (attached : Attached) (found : Option (PublisherPort T U))
    (ports : List (ℕ × PublisherPort T U)) → port_of attached.publisher ports ≡ found
    → is_there (connection_at_port attached.index found) ≡ true
    → 0 < length (connection_at_port attached.index found).waiting
    → (message : Message T U)
    × IsHeldThere (record {
      subscriber = number;
      publisher = attached.publisher;
      index = attached.index;
      slot
          = get_or (map (λ message. message.slot) (connection_at_port attached.index found).waiting) 0 0;
    }) message (changed_at_port attached.publisher (taken_at attached.index) found ports)
taken_at_found number attached None ports is there some = absurd (omega (arith, some))
taken_at_found number attached (Some port) ports is there some =
    let connection = connection_of attached.index port in
    let (message, held) = taken_found connection connection.waiting refl some in
    let now : connection_of attached.index (taken_at attached.index port) ≡ taken connection
    = taken_set port.sender.uses.connections attached.index in (
      message,
      record {
        port = taken_at attached.index port;
        found = same_set (at_number attached.publisher) ports (taken_at attached.index port) port is;
        there = ap (λ one. is_there one) now ∙ there;
        held = ap (λ one. borrowed_in (get_or (map (λ message. message.slot) connection.waiting) 0 0) one) now ∙ held;
      },
    )

taken_by : {T U : Type 0} (port : SubscriberPort) (ports : List (ℕ × PublisherPort T U)) (key : ℕ) (attached : Option Attached)
    (sample : Taken) → attached_at key port ≡ attached → gives port ports key ≡ true → is_there (connection_by attached ports) ≡ true
    → Some sample ≡ taken_of port.number attached ports → (message : Message T U) × IsHeldThere sample message (taken_ports attached ports)
taken_by port ports key None sample is giving there answer = cc
taken_by {T} {U} port ports key (Some attached) sample is giving there answer =
    let (message, held) = taken_at_found port.number attached (port_of attached.publisher ports) ports refl there
    (giver_gives port ports key attached giving is) in
    let same : record {
      subscriber = port.number;
      publisher = attached.publisher;
      index = attached.index;
      slot
          = get_or (map (λ message. message.slot) (connection_at_port attached.index (port_of attached.publisher ports)).waiting) 0 0;
    } ≡ sample = cc in
    (message, subst (λ (one : Taken). IsHeldThere one message (taken_ports (Some attached) ports)) same held)

given_held : {T U : Type 0} (port : SubscriberPort) (ports : List (ℕ × PublisherPort T U)) (giver : Option ℕ) (sample : Taken)
    → ((key : ℕ) → giver ≡ Some key → gives port ports key ≡ true) → IsGiverThere giver port ports
    → Some sample ≡ given giver port ports → (message : Message T U) × IsHeldThere sample message (given_ports giver port ports)
given_held port ports None sample giving there answer = cc
given_held port ports (Some key) sample giving there answer
    = taken_by port ports key (attached_at key port) sample refl (giving key refl) there answer

answered_is : (answered : Option Taken) (test : ℕ → Bool) (sample : Taken) → IsReceiveAnswer answered test (Ok (Some sample))
    → answered ≡ Some sample
answered_is None test sample answer = absurd (no_message answer.0 sample answer.2)
answered_is (Some other) test sample answer = let same : Ok (Some sample) ≡ Ok (Some other) = answer in cc

read_of : {T U : Type 0} (sample : Taken) (message : Message T U) (ports : List (ℕ × PublisherPort T U))
    → IsHeldThere sample message ports → sample_at_port sample (port_of sample.publisher ports) ≡ Some message
read_of sample message ports held = ap (λ found. sample_at_port sample found) held.found ∙ held.held

after_is_held : {T U : Type 0} (updated : Result (Unit {0}) ConnectionFailure) (port new : SubscriberPort)
    (ports new_ports : List (ℕ × PublisherPort T U)) (sample : Taken) → ReceivesAfter updated port ports (Ok (Some sample)) new new_ports
    → (message : Message T U) × (sample_at_port sample (port_of sample.publisher new_ports) ≡ Some message)
after_is_held (Err failure) port new ports new_ports sample receives = cc (receives.0)
after_is_held (Ok done) port new ports new_ports sample (answered, serves, is_answer) =
    let (met, is_met, giver, is_giver, is_given, is, are, is_giver_there) = serves in
    let (message, held) = given_held port ports giver sample
    (λ key named. met_gives (gives port ports) port.expired.items met (slice_get port.expired.items met) giver key refl is_met
    is_giver named) is_giver_there
    (sym (answered_is answered (has_data new new_ports) sample is_answer) ∙ is_given) in (
      message,
      ap (λ all. sample_at_port sample (port_of sample.publisher all)) are ∙ read_of sample message _
          (held_swept 0 met port (given_ports giver port ports) sample message held),
    )

if_is_held : {T U : Type 0} (stands : Bool) (may : DegradationInfo → DegradationAction → Type 0) (list : RollState PublisherEntry)
    (port after : SubscriberPort) (ports ports_after : List (ℕ × PublisherPort T U)) (sample : Taken)
    → ReceivesIf stands may list port ports (Some (Ok (Some sample))) after ports_after → (message : Message T U)
    × (sample_at_port sample (port_of sample.publisher ports_after) ≡ Some message)
if_is_held false may list port after ports ports_after sample receives = cc (receives.0)
if_is_held true may list port after ports ports_after sample
    (listed, is_list, outcome, received, (updated, between, between_ports, updates, receives), is_after, answer) =
    let same : Ok (Some sample) ≡ outcome = cc in
    after_is_held updated between received between_ports ports_after sample (rw same receives)

at_is_held : {T U : Type 0} (may : DegradationInfo → DegradationAction → Type 0) (number : ℕ) (found : Option SubscriberPort)
    (old new : ServicePorts T U) (sample : Taken)
    → AtSubscriber number (ReceivesOne may old.publisher_list) found old (Some (Ok (Some sample))) new → (message : Message T U)
    × (sample_in sample new ≡ Some message)
at_is_held may number None old new sample receives = cc (receives.0)
at_is_held may number (Some port) old new sample (after, ports_after, receives, is) =
    let (message, held) = if_is_held port.stands may old.publisher_list port after old.publishers ports_after sample receives in
    (message, ap (λ one. sample_in sample one) is ∙ held)

pub received_is_held : {T U : Type 0} (may : DegradationInfo → DegradationAction → Type 0) → ReceivedIsHeld T U may
received_is_held may number old new sample receives = at_is_held may number (subscriber_of number old.subscribers) old new sample receives

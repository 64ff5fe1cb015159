-- What a change of the publishers of a service leaves borrowed.
use Rattle.std.proofs.Common.{arith, ◌≡◌, ◌∙◌, ◌+◌, ◌≤◌, ◌==◌, ℕ, Bool, true, false, cond, List, ◌∷◌, [], length, min, is_some, Option}
use Rattle.std.proofs.Common.{None, Some, Result, Ok, Err, if◌then◌else◌, refl, ap, inl, inr}
use Rattle.std.proofs.lemmas.Bool.{cases_eq}
use Rattle.std.proofs.lemmas.Map.{length-set_value}
use Rattle.std.specs.List.{All, list_any}
use Rattle.std.specs.Map.{lookup, remove_entry}
use Rattle.std.specs.declared.alloc.AllocError.{AllocError}
use Rattle.iox_domain.specs.DomainPorts.Ports.{connection_of, detached_at, ended_at}
use Rattle.iox_domain.specs.DomainPorts.declared.publisher_port.PublisherPort.{PublisherPort}
use Rattle.iox_domain.specs.DomainSlots.Uses.{nobody, is_open, is_there}
use Rattle.iox_domain.specs.DomainSlots.declared.stage.Stage.{Stage}
use Rattle.iox_domain.specs.DomainSlots.declared.stage.Stage.TheVariants as stage
use Rattle.iox_domain.specs.DomainPorts.Publishers.{port_of, with_port, changed, changed_at_port, is_over_port, is_over_in, removed}
use Rattle.iox_domain.specs.DomainPorts.Publishers.{settled, ended_if_left, connection_at_port, connection_in, AttachesAtPort}
use Rattle.iox_domain.specs.DomainPorts.Reading.{is_over, taken_at}
use Rattle.iox_domain.specs.DomainPorts.declared.attached.Attached.{Attached}
use Rattle.iox_domain.specs.PortLawsLaws.{IsTidy, IsSoundEntry}
use Rattle.iox_domain.proofs.PortLawsKeeping.{PortKeeps, port_stays, port_if, port_ended}
use Rattle.iox_domain.proofs.ListKeeps.{ListKeeps, list_stays, list_on, list_with, list_changed, list_settled, tidy_found, none_there}
use Rattle.iox_domain.proofs.ListKeeps.{last_of, held_walks, held_takes, held_leaving}
use Rattle.iox_domain.proofs.Numbered.{at_number, other_fails, other_set, same_set, other_gone}
use Rattle.iox_domain.proofs.Walks.{Walks, WalksTaking, WalksLeaving}
use Rattle.iox_domain.proofs.Borrowing.{Borrows, borrows_ended_if, borrows_detached, borrows_attaches, borrows_taken}

-- publishers stay sound, none comes, and of each connection as much is borrowed as before, or more
pub record Lends {T U : Type 0} (old new : List (ℕ × PublisherPort T U)) : Type 0 where
  pub keeps : ListKeeps old new
  pub few : length new ≤ length old
  pub more : (next : ℕ) → All (IsSoundEntry next) old → (number index : ℕ)
      → length (connection_in number index old).borrowed ≤ length (connection_in number index new).borrowed

pub lends_stays : {T U : Type 0} (ports : List (ℕ × PublisherPort T U)) → Lends ports ports
lends_stays ports = record { keeps = list_stays ports; few = omega arith; more = λ next all number index. omega arith }

pub lends_on : {T U : Type 0} (old between new : List (ℕ × PublisherPort T U)) → Lends old between → Lends between new → Lends old new
lends_on old between new one two = record {
  keeps = list_on old between new one.keeps two.keeps;
  few = omega (arith, one.few, two.few);
  more = λ next all number index. omega (arith, one.more next all number index, two.more next (one.keeps.sound next all) number index);
}

pub lends_is : {T U : Type 0} (old new : List (ℕ × PublisherPort T U)) → new ≡ old → Lends old new
lends_is old new is = rw is (lends_stays old)

-- the publisher of a number took a step
more_with : {T U : Type 0} (number other index : ℕ) (ports : List (ℕ × PublisherPort T U)) (port after : PublisherPort T U)
    → port_of number ports ≡ Some port → Borrows port after
    → length (connection_in other index ports).borrowed ≤ length (connection_in other index (with_port number ports after)).borrowed
more_with number other index ports port after there borrows = elim (cases_eq other number) [
  | inl same ↦
      let was : port_of other ports ≡ Some port = ap (λ n. port_of n ports) same ∙ there in
      let now : port_of other (with_port number ports after) ≡ Some after
      = ap (λ n. port_of n (with_port number ports after)) same ∙ same_set (at_number number) ports after port there in
      omega (
        arith,
        borrows.each index,
        ap (λ found. length (connection_at_port index found).borrowed) was,
        ap
            (λ found. length (connection_at_port index found).borrowed) now,
      )
  | inr apart ↦
      let now : port_of other (with_port number ports after) ≡ port_of other ports
      = other_set (at_number number) (at_number other) ports after (other_fails other number apart) in
      omega (arith, ap (λ found. length (connection_at_port index found).borrowed) now)
]

lends_with : {T U : Type 0} (number : ℕ) (ports : List (ℕ × PublisherPort T U)) (port after : PublisherPort T U)
    → port_of number ports ≡ Some port → PortKeeps port after → Borrows port after → Lends ports (with_port number ports after)
lends_with number ports port after there keeps borrows = record {
  keeps = list_with number ports port after there keeps;
  few = omega (arith, length-set_value (at_number number) ports after);
  more = λ next all other index. more_with number other index ports port after there borrows;
}

more_changed : {T U : Type 0} (number other index : ℕ) (step : PublisherPort T U → PublisherPort T U)
    (found : Option (PublisherPort T U)) (ports : List (ℕ × PublisherPort T U)) → port_of number ports ≡ found
    → ((port : PublisherPort T U) → Borrows port (step port))
    → length (connection_in other index ports).borrowed
    ≤ length (connection_in other index (changed_at_port number step found ports)).borrowed
more_changed number other index step None ports there borrows = omega arith
more_changed number other index step (Some port) ports there borrows
    = more_with number other index ports port (step port) there (borrows port)

few_changed : {T U : Type 0} (number : ℕ) (step : PublisherPort T U → PublisherPort T U) (found : Option (PublisherPort T U))
    (ports : List (ℕ × PublisherPort T U)) → length (changed_at_port number step found ports) ≤ length ports
few_changed number step None ports = omega arith
few_changed number step (Some port) ports = omega (arith, length-set_value (at_number number) ports (step port))

pub lends_changed : {T U : Type 0} (number : ℕ) (step : PublisherPort T U → PublisherPort T U) (ports : List (ℕ × PublisherPort T U))
    → ListKeeps ports (changed number step ports) → ((port : PublisherPort T U) → Borrows port (step port))
    → Lends ports (changed number step ports)
lends_changed number step ports keeps borrows = record {
  keeps = keeps;
  few = few_changed number step (port_of number ports) ports;
  more = λ next all other index. more_changed number other index step (port_of number ports) ports refl borrows;
}

-- of a publisher that is over nothing is borrowed
vacant_of : (now : Stage) → is_open now ≡ false → now ≡ stage.Vacant
vacant_of stage.Vacant is = refl
vacant_of stage.Live is = cc
vacant_of stage.Ended is = cc

over_empty : {T U : Type 0} (index : ℕ) (port : PublisherPort T U) → is_over port ≡ true → IsTidy port → connection_of index port ≡ nobody
over_empty index port over tidy =
    let none : list_any is_there port.sender.uses.connections ≡ false
    = last_of port.stands (length port.sender.uses.loans == 0) (is_some port.sender.uses.sending)
    (list_any is_there port.sender.uses.connections) over in
    tidy index (vacant_of (connection_of index port).stage (none_there port.sender.uses.connections index none))

over_found : {T U : Type 0} (next number index : ℕ) (ports : List (ℕ × PublisherPort T U)) (found : Option (PublisherPort T U))
    → All (IsSoundEntry next) ports → port_of number ports ≡ found → is_over_port found ≡ true
    → length (connection_at_port index found).borrowed ≡ 0
over_found next number index ports None all there over = refl
over_found next number index ports (Some port) all there over
    = ap (λ one. length one.borrowed) (over_empty index port over (tidy_found next number ports port all there))

more_gone : {T U : Type 0} (over : Bool) (next number other index : ℕ) (ports : List (ℕ × PublisherPort T U))
    → is_over_in number ports ≡ over → All (IsSoundEntry next) ports
    → length (connection_in other index ports).borrowed
    ≤ length (connection_in other index (if over then removed number ports else ports)).borrowed
more_gone false next number other index ports over all = omega arith
more_gone true next number other index ports over all = elim (cases_eq other number) [
  | inl same ↦ omega (
    arith,
    over_found next number index ports (port_of number ports) all refl over,
    ap
        (λ n. length (connection_in n index ports).borrowed) same,
  )
  | inr apart ↦
      let now : port_of other (removed number ports) ≡ port_of other ports
      = other_gone (at_number number) (at_number other) ports (other_fails other number apart) in
      omega (arith, ap (λ found. length (connection_at_port index found).borrowed) now)
]

-- where one goes there is one less
gone_by : {X : Type 0} (test : ℕ → Bool) (passes : Bool) (e : ℕ × X) (es : List (ℕ × X)) → length (remove_entry test es) ≤ length es
    → length (cond passes es (e ∷ remove_entry test es)) ≤ length (e ∷ es)
gone_by test true e es few = omega arith
gone_by test false e es few = omega (arith, few)

few_gone : {X : Type 0} (test : ℕ → Bool) (es : List (ℕ × X)) → length (remove_entry test es) ≤ length es
few_gone test [] = omega arith
few_gone test (e ∷ es) = gone_by test (test e.0) e es (few_gone test es)

found_by : {X : Type 0} (test : ℕ → Bool) (passes : Bool) (e : ℕ × X) (es : List (ℕ × X)) (value : X)
    → (lookup test es ≡ Some value → length es ≡ length (remove_entry test es) + 1) → cond passes (Some e.1) (lookup test es) ≡ Some value
    → length (e ∷ es) ≡ length (cond passes es (e ∷ remove_entry test es)) + 1
found_by test true e es value rest there = omega arith
found_by test false e es value rest there = omega (arith, rest there)

pub one_gone : {X : Type 0} (test : ℕ → Bool) (es : List (ℕ × X)) (value : X) → lookup test es ≡ Some value
    → length es ≡ length (remove_entry test es) + 1
one_gone test [] value there = cc
one_gone test (e ∷ es) value there = found_by test (test e.0) e es value (one_gone test es value) there

few_settled : {T U : Type 0} (over : Bool) (number : ℕ) (ports : List (ℕ × PublisherPort T U))
    → length (if over then removed number ports else ports) ≤ length ports
few_settled true number ports = few_gone (at_number number) ports
few_settled false number ports = omega arith

pub few_stepped : {T U : Type 0} (number other : ℕ) (step : PublisherPort T U → PublisherPort T U) (found : Option (PublisherPort T U))
    (ports : List (ℕ × PublisherPort T U)) → length (settled other (changed_at_port number step found ports)) ≤ length ports
few_stepped number other step found ports =
    let stepped = changed_at_port number step found ports in
    omega (arith, few_settled (is_over_in other stepped) other stepped, few_changed number step found ports)

pub lends_settled : {T U : Type 0} (number : ℕ) (ports : List (ℕ × PublisherPort T U)) → Lends ports (settled number ports)
lends_settled number ports = record {
  keeps = list_settled number ports;
  few = few_settled (is_over_in number ports) number ports;
  more = λ next all other index. more_gone (is_over_in number ports) next number other index ports refl all;
}

pub lends_stepped : {T U : Type 0} (number : ℕ) (ports : List (ℕ × PublisherPort T U)) (port after : PublisherPort T U)
    → port_of number ports ≡ Some port → PortKeeps port after → Borrows port after
    → Lends ports (settled number (with_port number ports after))
lends_stepped number ports port after there keeps borrows
    = lends_on ports (with_port number ports after) _ (lends_with number ports port after there keeps borrows)
    (lends_settled number (with_port number ports after))

-- a subscriber attaches
more_attached : {T U : Type 0} (number subscriber limit other at : ℕ) (found : Option (PublisherPort T U))
    (old new : List (ℕ × PublisherPort T U)) (answer : Option (Result ℕ AllocError)) → port_of number old ≡ found
    → AttachesAtPort number subscriber limit found old answer new
    → length (connection_in other at old).borrowed ≤ length (connection_in other at new).borrowed
more_attached number subscriber limit other at None old new answer there attaches
    = omega (arith, ap (λ all. length (connection_in other at all).borrowed) attaches.1)
more_attached number subscriber limit other at (Some port) old new None there attaches = absurd attaches
more_attached number subscriber limit other at (Some port) old new (Some (Err error)) there attaches
    = omega (arith, ap (λ all. length (connection_in other at all).borrowed) attaches.1)
more_attached number subscriber limit other at (Some port) old new (Some (Ok index)) there attaches =
    omega (
      arith,
      more_with number other at old port attaches.0 there
          (borrows_attaches subscriber (min limit port.sender.uses.most_waiting) port attaches.0 (Ok index) attaches.1),
      ap (λ all. length (connection_in other at all).borrowed) attaches.2,
    )

few_attached : {T U : Type 0} (number subscriber limit : ℕ) (found : Option (PublisherPort T U))
    (old new : List (ℕ × PublisherPort T U)) (answer : Option (Result ℕ AllocError))
    → AttachesAtPort number subscriber limit found old answer new → length new ≤ length old
few_attached number subscriber limit None old new answer attaches = omega (arith, ap (λ all. length all) attaches.1)
few_attached number subscriber limit (Some port) old new None attaches = absurd attaches
few_attached number subscriber limit (Some port) old new (Some (Err error)) attaches = omega (arith, ap (λ all. length all) attaches.1)
few_attached number subscriber limit (Some port) old new (Some (Ok index)) attaches
    = omega (arith, ap (λ all. length all) attaches.2, length-set_value (at_number number) old attaches.0)

-- so it is with each step of a subscriber
port_ended_if : {T U : Type 0} (index : ℕ) (port : PublisherPort T U) → PortKeeps port (ended_if_left index port)
port_ended_if index port = port_if port.stands port port (ended_at index port) (λ stands. port_stays port) (λ left. port_ended index port)

pub lends_ended : {T U : Type 0} (attached : Attached) (ports : List (ℕ × PublisherPort T U))
    → Lends ports (settled attached.publisher (changed attached.publisher (ended_if_left attached.index) ports))
lends_ended {T} {U} attached ports =
    let changed_ports : List (ℕ × PublisherPort T U) = changed attached.publisher (ended_if_left attached.index) ports in
    lends_on ports changed_ports _
    (lends_changed attached.publisher (ended_if_left attached.index) ports
    (list_changed attached.publisher (ended_if_left attached.index) ports (port_ended_if attached.index))
    (λ port. borrows_ended_if attached.index port))
    (lends_settled attached.publisher changed_ports)

pub lends_walks : {T U : Type 0} (subscriber : ℕ)
    → Walks subscriber (λ (old : List (ℕ × PublisherPort T U)) (new : List (ℕ × PublisherPort T U)). Lends old new)
lends_walks subscriber = record {
  stays = lends_stays;
  on = lends_on;
  attach = λ number limit old new answer attaches. record {
    keeps = (held_walks subscriber).attach number limit old new answer attaches;
    few = few_attached number subscriber limit (port_of number old) old new answer attaches;
    more = λ next all other at. more_attached number subscriber limit other at (port_of number old) old new answer refl attaches;
  };
  end = lends_ended;
}

pub lends_leaving : {T U : Type 0}
    → WalksLeaving (λ (old : List (ℕ × PublisherPort T U)) (new : List (ℕ × PublisherPort T U)). Lends old new)
lends_leaving attached ports = lends_changed attached.publisher (detached_at attached.index) ports (held_leaving attached ports)
    (λ port. borrows_detached attached.index port)

pub lends_takes : {T U : Type 0} → WalksTaking (λ (old : List (ℕ × PublisherPort T U)) (new : List (ℕ × PublisherPort T U)). Lends old new)
lends_takes attached ports below = lends_changed attached.publisher (taken_at attached.index) ports (held_takes attached ports below)
    (λ port. borrows_taken attached.index port)

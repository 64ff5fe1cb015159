-- What a change of the publishers of a service leaves held.
use Rattle.std.proofs.Common.{arith, min, ◌≡◌, ◌<◌, ◌&&◌, ◌||◌, ◌==◌, ◌∷◌, [], ℕ, zero, suc, Bool, true, false, not, List, get_or, length}
use Rattle.std.proofs.Common.{is_some, Option, None, Some, Result, Ok, Err, refl, sym, ap, ◌∙◌, if◌then◌else◌, inl, inr, subst, nat_lt}
use Rattle.std.proofs.lemmas.Bool.{cases_eq}
use Rattle.std.specs.List.{All, list_any}
use Rattle.std.specs.declared.alloc.AllocError.{AllocError}
use Rattle.iox_domain.specs.DomainSlots.Uses.{Connection, nobody, is_open, is_there}
use Rattle.iox_domain.specs.DomainSlots.declared.stage.Stage.{Stage}
use Rattle.iox_domain.specs.DomainSlots.declared.stage.Stage.TheVariants as stage
use Rattle.iox_domain.specs.DomainPorts.Messages.{Message}
use Rattle.iox_domain.specs.DomainPorts.Ports.{connection_of, detached_at, ended_at}
use Rattle.iox_domain.specs.DomainPorts.declared.publisher_port.PublisherPort.{PublisherPort}
use Rattle.iox_domain.specs.DomainPorts.Publishers.{port_of, with_port, changed, changed_at_port, is_over_port, is_over_in, removed}
use Rattle.iox_domain.specs.DomainPorts.Publishers.{settled, ended_if_left, AttachesAtPort, connection_at_port, most_borrowed_at_port}
use Rattle.iox_domain.specs.DomainPorts.Reading.{borrowed_in, is_over, taken_at}
use Rattle.iox_domain.specs.DomainPorts.declared.attached.Taken.{Taken}
use Rattle.iox_domain.specs.SizeLaws.{MadeFor, IsWithin, IsMadeFor, made_for}
use Rattle.iox_domain.specs.PortLawsLaws.{IsTidy, IsSoundEntry}
use Rattle.iox_domain.specs.Reading.{sample_at_port}
use Rattle.iox_domain.proofs.PortLawsKeeping.{PortKeeps, port_stays, port_if, port_ended}
use Rattle.iox_domain.proofs.Numbered.{at_number, number_is, other_fails, other_set, same_set, other_gone, FoundEntry, found_of_all}
use Rattle.iox_domain.proofs.Numbered.{all_set, all_gone}
use Rattle.iox_domain.proofs.PublisherKeeps.{port_attaches, port_detached, port_taken}
use Rattle.iox_domain.proofs.Walks.{Walks, WalksTaking, WalksLeaving}

-- publishers stay sound, what is held of them stays so, and they are made for what they were made for
pub record ListKeeps {T U : Type 0} (old new : List (ℕ × PublisherPort T U)) : Type 0 where
  pub sound : (next : ℕ) → All (IsSoundEntry next) old → All (IsSoundEntry next) new
  pub held : (next : ℕ) → All (IsSoundEntry next) old → (sample : Taken) (message : Message T U)
      → sample_at_port sample (port_of sample.publisher old) ≡ Some message
      → sample_at_port sample (port_of sample.publisher new) ≡ Some message
  pub sized : (sizes : MadeFor) → All (IsMadeFor sizes) old → All (IsMadeFor sizes) new

pub list_stays : {T U : Type 0} (ports : List (ℕ × PublisherPort T U)) → ListKeeps ports ports
list_stays ports = record { sound = λ next all. all; held = λ next all sample message held. held; sized = λ sizes all. all }

pub list_on : {T U : Type 0} (old between new : List (ℕ × PublisherPort T U)) → ListKeeps old between → ListKeeps between new
    → ListKeeps old new
list_on old between new one two = record {
  sound = λ next all. two.sound next (one.sound next all);
  held = λ next all sample message held. two.held next (one.sound next all) sample message (one.held next all sample message held);
  sized = λ sizes all. two.sized sizes (one.sized sizes all);
}

-- a tidy publisher is tidy after a step
pub tidy_after : {T U : Type 0} (old new : PublisherPort T U) → PortKeeps old new → IsTidy old → IsTidy new
tidy_after old new keeps tidy index = (keeps.each index).tidy (tidy index)

-- a publisher that is found is sound
pub tidy_found : {T U : Type 0} (next number : ℕ) (ports : List (ℕ × PublisherPort T U)) (port : PublisherPort T U)
    → All (IsSoundEntry next) ports → port_of number ports ≡ Some port → IsTidy port
tidy_found next number ports port all there = (found_of_all (IsSoundEntry next) (at_number number) ports port all there).holds.1

pub number_found : {T U : Type 0} (next number : ℕ) (ports : List (ℕ × PublisherPort T U)) (port : PublisherPort T U)
    → All (IsSoundEntry next) ports → port_of number ports ≡ Some port → number < next
number_found next number ports port all there =
    let found : FoundEntry (IsSoundEntry next) (at_number number) port
    = found_of_all (IsSoundEntry next) (at_number number) ports port all there in
    omega (arith, found.holds.0, number_is number found.key found.passes)

-- what is held of a publisher is so after a step
held_after : {T U : Type 0} (old new : PublisherPort T U) (sample : Taken) (message : Message T U) → PortKeeps old new
    → sample_at_port sample (Some old) ≡ Some message → sample_at_port sample (Some new) ≡ Some message
held_after old new sample message keeps held = (keeps.each sample.index).held sample.slot message held

-- what a publisher is made for stays, and what keeps within it
pub made_still : {T U : Type 0} (sizes : MadeFor) (port after : PublisherPort T U) → made_for after ≡ made_for port
    → (((index : ℕ) → IsWithin (made_for port) (connection_of index port)) → (index : ℕ)
    → IsWithin (made_for after) (connection_of index after))
    → (made_for port ≡ sizes) × ((index : ℕ) → IsWithin sizes (connection_of index port)) → (made_for after ≡ sizes)
    × ((index : ℕ) → IsWithin sizes (connection_of index after))
made_still sizes port after same within (made, all) = (
  same ∙ made,
  λ index. subst (λ allowed. IsWithin allowed (connection_of index after)) (same ∙ made)
      (within (λ k. subst (λ allowed. IsWithin allowed (connection_of k port)) (sym made) (all k)) index),
)

-- what the publisher of a number is made for stays
pub sized_with : {T U : Type 0} (sizes : MadeFor) (number : ℕ) (ports : List (ℕ × PublisherPort T U)) (port after : PublisherPort T U)
    → port_of number ports ≡ Some port → made_for after ≡ made_for port
    → (((index : ℕ) → IsWithin (made_for port) (connection_of index port)) → (index : ℕ)
    → IsWithin (made_for after) (connection_of index after))
    → All (IsMadeFor sizes) ports → All (IsMadeFor sizes) (with_port number ports after)
sized_with sizes number ports port after there same within all =
    let found : FoundEntry (IsMadeFor sizes) (at_number number) port
    = found_of_all (IsMadeFor sizes) (at_number number) ports port all there in
    all_set (IsMadeFor sizes) (at_number number) ports after (λ one is. made_still sizes port after same within found.holds) all

-- the publisher of a number took a step
pub list_with : {T U : Type 0} (number : ℕ) (ports : List (ℕ × PublisherPort T U)) (port after : PublisherPort T U)
    → port_of number ports ≡ Some port → PortKeeps port after → ListKeeps ports (with_port number ports after)
list_with number ports port after there keeps = record {
  sound = λ next all. all_set (IsSoundEntry next) (at_number number) ports after
      (λ one sound. (sound.0, tidy_after port after keeps (tidy_found next number ports port all there))) all;
  held = λ next all sample message held. elim (cases_eq sample.publisher number) [
    | inl same ↦
        let before : sample_at_port sample (Some port) ≡ Some message
        = ap (λ found. sample_at_port sample found) (sym (ap (λ n. port_of n ports) same ∙ there)) ∙ held in
        ap (λ found. sample_at_port sample found)
        (ap (λ n. port_of n (with_port number ports after)) same ∙ same_set (at_number number) ports after port there)
        ∙ held_after port after sample message keeps before
    | inr other ↦
        ap (λ found. sample_at_port sample found)
        (other_set (at_number number) (at_number sample.publisher) ports after (other_fails sample.publisher number other)) ∙ held
  ];
  sized = λ sizes all. sized_with sizes number ports port after there keeps.sizes keeps.within all;
}

changed_found : {T U : Type 0} (number : ℕ) (step : PublisherPort T U → PublisherPort T U) (found : Option (PublisherPort T U))
    (ports : List (ℕ × PublisherPort T U)) → ((port : PublisherPort T U) → found ≡ Some port → PortKeeps port (step port))
    → port_of number ports ≡ found → ListKeeps ports (changed_at_port number step found ports)
changed_found number step None ports keeps there = list_stays ports
changed_found number step (Some port) ports keeps there = list_with number ports port (step port) there (keeps port refl)

pub list_changed : {T U : Type 0} (number : ℕ) (step : PublisherPort T U → PublisherPort T U) (ports : List (ℕ × PublisherPort T U))
    → ((port : PublisherPort T U) → PortKeeps port (step port)) → ListKeeps ports (changed number step ports)
list_changed number step ports keeps = changed_found number step (port_of number ports) ports (λ port is. keeps port) refl

-- of a publisher that is over nothing is held
vacant_of : (now : Stage) → is_open now ≡ false → now ≡ stage.Vacant
vacant_of stage.Vacant is = refl
vacant_of stage.Live is = cc
vacant_of stage.Ended is = cc

neither : (a b : Bool) → (a || b) ≡ false → (a ≡ false) × (b ≡ false)
neither true b is = absurd (cc)
neither false b is = (refl, is)

pub none_there : {T U : Type 0} (connections : List (Connection (Message T U))) (index : ℕ) → list_any is_there connections ≡ false
    → is_there (get_or connections index nobody) ≡ false
none_there [] index none = refl
none_there (x ∷ xs) zero none = (neither (is_there x) (list_any is_there xs) none).0
none_there (x ∷ xs) (suc index) none = none_there xs index (neither (is_there x) (list_any is_there xs) none).1

pub last_of : (stands loans sends connections : Bool) → (not stands && (loans && (not sends && not connections))) ≡ true
    → connections ≡ false
last_of true loans sends connections is = cc
last_of false false sends connections is = cc
last_of false true true connections is = cc
last_of false true false true is = cc
last_of false true false false is = refl

over_holds_none : {T U : Type 0} (port : PublisherPort T U) (sample : Taken) (message : Message T U) → is_over port ≡ true → IsTidy port
    → sample_at_port sample (Some port) ≡ Some message → ⊥
over_holds_none port sample message over tidy held =
    let none : list_any is_there port.sender.uses.connections ≡ false
    = last_of port.stands (length port.sender.uses.loans == 0) (is_some port.sender.uses.sending)
    (list_any is_there port.sender.uses.connections) over in
    let empty : connection_of sample.index port ≡ nobody
    = tidy sample.index (vacant_of (connection_of sample.index port).stage
    (none_there port.sender.uses.connections sample.index none)) in
    let no : None ≡ Some message = ap (λ connection. borrowed_in sample.slot connection) (sym empty) ∙ held in
    cc

over_found : {T U : Type 0} (next number : ℕ) (ports : List (ℕ × PublisherPort T U)) (found : Option (PublisherPort T U))
    (sample : Taken) (message : Message T U) → All (IsSoundEntry next) ports → port_of number ports ≡ found
    → is_over_port found ≡ true → sample_at_port sample found ≡ Some message → ⊥
over_found next number ports None sample message all there over held = cc
over_found next number ports (Some port) sample message all there over held
    = over_holds_none port sample message over (tidy_found next number ports port all there) held

-- a publisher that is over is gone
gone_keeps : {T U : Type 0} (number : ℕ) (ports : List (ℕ × PublisherPort T U)) → is_over_in number ports ≡ true
    → ListKeeps ports (removed number ports)
gone_keeps number ports over = record {
  sound = λ next all. all_gone (IsSoundEntry next) (at_number number) ports all;
  held = λ next all sample message held. elim (cases_eq sample.publisher number) [
    | inl same ↦ absurd (over_found next number ports (port_of number ports) sample message all refl over
        (ap (λ n. sample_at_port sample (port_of n ports)) (sym same) ∙ held))
    | inr other ↦
        ap (λ found. sample_at_port sample found)
        (other_gone (at_number number) (at_number sample.publisher) ports (other_fails sample.publisher number other)) ∙ held
  ];
  sized = λ sizes all. all_gone (IsMadeFor sizes) (at_number number) ports all;
}

list_if : {T U : Type 0} (test : Bool) (ports one other : List (ℕ × PublisherPort T U)) → (test ≡ true → ListKeeps ports one)
    → ListKeeps ports other → ListKeeps ports (if test then one else other)
list_if true ports one other keeps_one keeps_other = keeps_one refl
list_if false ports one other keeps_one keeps_other = keeps_other

pub list_settled : {T U : Type 0} (number : ℕ) (ports : List (ℕ × PublisherPort T U)) → ListKeeps ports (settled number ports)
list_settled number ports = list_if (is_over_in number ports) ports (removed number ports) ports (gone_keeps number ports)
    (list_stays ports)

-- a subscriber attaches
attached_found : {T U : Type 0} (number subscriber limit : ℕ) (found : Option (PublisherPort T U))
    (old new : List (ℕ × PublisherPort T U)) (answer : Option (Result ℕ AllocError)) → port_of number old ≡ found
    → AttachesAtPort number subscriber limit found old answer new → ListKeeps old new
attached_found number subscriber limit None old new answer there attaches = rw (attaches.1) (list_stays old)
attached_found number subscriber limit (Some port) old new None there attaches = absurd attaches
attached_found number subscriber limit (Some port) old new (Some (Err error)) there attaches = rw (attaches.1) (list_stays old)
attached_found {T} {U} number subscriber limit (Some port) old new (Some (Ok index)) there attaches =
    let after : PublisherPort T U = attaches.0 in
    rw (attaches.2) (list_with number old port after there
    (port_attaches subscriber (min limit port.sender.uses.most_waiting) port after (Ok index) (omega arith) attaches.1))

-- a connection of a publisher that left ends
port_ended_if : {T U : Type 0} (index : ℕ) (port : PublisherPort T U) → PortKeeps port (ended_if_left index port)
port_ended_if index port = port_if port.stands port port (ended_at index port) (λ stands. port_stays port) (λ left. port_ended index port)

-- so it is with each step of a subscriber
pub held_walks : {T U : Type 0} (subscriber : ℕ)
    → Walks subscriber (λ (old : List (ℕ × PublisherPort T U)) (new : List (ℕ × PublisherPort T U)). ListKeeps old new)
held_walks subscriber = record {
  stays = list_stays;
  on = list_on;
  attach = λ number limit old new answer attaches. attached_found number subscriber limit (port_of number old) old new answer refl attaches;
  end = λ attached ports. list_on ports (changed attached.publisher (ended_if_left attached.index) ports) _
      (list_changed attached.publisher (ended_if_left attached.index) ports (port_ended_if attached.index))
      (list_settled attached.publisher (changed attached.publisher (ended_if_left attached.index) ports));
}

pub held_leaving : {T U : Type 0} → WalksLeaving
    (λ (old : List (ℕ × PublisherPort T U)) (new : List (ℕ × PublisherPort T U)). ListKeeps old new)
held_leaving attached ports = list_changed attached.publisher (detached_at attached.index) ports (port_detached attached.index)

pub held_takes : {T U : Type 0} → WalksTaking
    (λ (old : List (ℕ × PublisherPort T U)) (new : List (ℕ × PublisherPort T U)). ListKeeps old new)
held_takes attached ports below =
    changed_found attached.publisher (taken_at attached.index) (port_of attached.publisher ports) ports
    (λ port there. port_taken attached.index port (below_there attached.index port (port_of attached.publisher ports) there below)) refl
  where
    below_there : {T U : Type 0} (index : ℕ) (port : PublisherPort T U) (found : Option (PublisherPort T U)) → found ≡ Some port
        → nat_lt (length (connection_at_port index found).borrowed) (most_borrowed_at_port found) ≡ true
        → length (connection_of index port).borrowed < port.sender.uses.most_borrowed
    below_there index port found there is =
        let own : nat_lt (length (connection_of index port).borrowed) port.sender.uses.most_borrowed ≡ true
        = ap (λ one. nat_lt (length (connection_at_port index one).borrowed) (most_borrowed_at_port one)) (sym there) ∙ is in
        grind (arith, own)

-- An update of a subscriber takes no memory where no connection has to be made.
use Rattle.std.proofs.Common.{arith, ◌≡◌, ◌≢◌, ◌+◌, ◌<◌, ◌≤◌, ◌==◌, ◌&&◌, ◌∷◌, [], ℕ, zero, suc, Bool, true, false, cond, not, is_some}
use Rattle.std.proofs.Common.{is_none, List, length, get_or, set, replicate, nat_lt, Option, None, Some, Result, Ok, Err, refl, sym, ap}
use Rattle.std.proofs.Common.{◌∙◌, subst, if◌then◌else◌, inl, inr}
use Rattle.std.proofs.lemmas.List.{length-replicate}
use Rattle.std.proofs.lemmas.Bool.{cases_eq, eq-eqb}
use Rattle.std.proofs.lemmas.List.{length-set}
use Rattle.std.proofs.lemmas.List.Folds.{position_or_len-set}
use Rattle.std.proofs.lemmas.List.Quantifiers.{position-Some}
use Rattle.std.specs.List.{position, position_or_len, range_with_len}
use Rattle.std.specs.declared.alloc.AllocError.{AllocError}
use Rattle.iox_domain.specs.Container.declared.container.Member.{Member}
use Rattle.iox_domain.specs.DomainValues.declared.connection_failure.ConnectionFailure.{ConnectionFailure}
use Rattle.iox_domain.specs.DomainValues.declared.connection_failure.ConnectionFailure.TheVariants.{FailedToEstablishConnection}
use Rattle.iox_domain.specs.DomainValues.declared.connection_failure.ZeroCopyCreationError.{ZeroCopyCreationError}
use Rattle.iox_domain.specs.DomainValues.declared.connection_failure.ZeroCopyCreationError.TheVariants as creation
use Rattle.iox_domain.specs.DomainValues.declared.degradation.DegradationAction.{DegradationAction}
use Rattle.iox_domain.specs.DomainValues.declared.degradation.DegradationAction.TheVariants as action
use Rattle.iox_domain.specs.DomainValues.declared.degradation.DegradationInfo.{DegradationInfo}
use Rattle.iox_domain.specs.DomainValues.declared.port_error.ReceiveError.{ReceiveError}
use Rattle.iox_domain.specs.DomainValues.declared.port_error.ReceiveError.TheVariants as receiving
use Rattle.iox_domain.specs.DomainValues.declared.port_owner.PortIdentity.{PortIdentity}
use Rattle.iox_domain.specs.Container.SlotTable.{value_at}
use Rattle.iox_domain.specs.DomainPorts.Places.{leads_to}
use Rattle.iox_domain.specs.DomainPorts.Ports.{connection_to, ended_at, attached_at, Joins}
use Rattle.iox_domain.specs.DomainPorts.PublisherUpdating.{first_failure, no_memory, update_answer}
use Rattle.iox_domain.specs.DomainPorts.declared.publisher_port.PublisherPort.{PublisherPort}
use Rattle.iox_domain.specs.DomainPorts.declared.reader.Reader.{Reader}
use Rattle.iox_domain.specs.DomainPorts.Arriving.{new_subscriber}
use Rattle.iox_domain.proofs.DomainPorts.Lacking.{attaches_at_once}
use Rattle.iox_domain.specs.DomainPorts.Following.{is_of, lacks_connection, unplaced, FollowsFreed, FollowsKey, FollowsAt, FollowsListed}
use Rattle.iox_domain.specs.DomainPorts.Publishers.{port_of, port_stands, stands_in, with_port, changed, changed_at_port, ended_if_left}
use Rattle.iox_domain.specs.DomainPorts.Publishers.{is_over_in, is_over_port, removed, AttachesAtPort}
use Rattle.iox_domain.specs.DomainPorts.Reading.{is_over}
use Rattle.iox_domain.specs.DomainPorts.Receiving.{given_ports, IsReceiveAnswer, nothing_taken, Receives}
use Rattle.iox_domain.specs.DomainPorts.Subscribing as subscribed
use Rattle.iox_domain.specs.DomainPorts.SubscriberUpdating.{FollowsOne, AsksOf, FollowsFrom, FollowsNoneIf, FollowsNones, is_listed}
use Rattle.iox_domain.specs.DomainPorts.SubscriberUpdating.{UpdatesIf, Updates, HasSamplesAfter, ReceivesAfter}
use Rattle.iox_domain.specs.DomainPorts.declared.attached.Attached.{Attached}
use Rattle.iox_domain.specs.DomainPorts.declared.attached.Taken.{Taken}
use Rattle.iox_domain.specs.DomainPorts.declared.publisher_entry.PublisherEntry.{PublisherEntry}
use Rattle.iox_domain.specs.DomainPorts.declared.subscriber_port.SubscriberPort.{SubscriberPort}
use Rattle.iox_domain.specs.Attaching.{KeysFit, ConnectsListed, AttachesWithoutMemory}
use Rattle.iox_domain.specs.Tries.{how_often}
use Rattle.iox_domain.proofs.Keys.{adds_same, adds_other}
use Rattle.iox_domain.proofs.Fitting.{PartsSo, parts_so, Goes, goes_same, goes_on, goes_unplaced, goes_connected, key_left, goes_swept}
use Rattle.iox_domain.proofs.Fitting.{goes_none_at}
use Rattle.iox_domain.proofs.Numbered.{at_number, other_fails, other_set, same_set, other_gone}
use Rattle.iox_domain.proofs.Walks.{Walks, walked_one, walked_parts}

-- Existing publishers still exist afterwards, and those with a connection to the subscriber still have one.
abbrev Stays : {T U : Type 0} → ℕ → List (ℕ × PublisherPort T U) → List (ℕ × PublisherPort T U) → Type 0
Stays subscriber old new = (number : ℕ) → stands_in number old ≡ true
    → (stands_in number new ≡ true) × (lacks_connection subscriber (port_of number old) ≡ false
    → lacks_connection subscriber (port_of number new) ≡ false)

-- what is known of one publisher
abbrev StaysAt : {T U : Type 0} → ℕ → Option (PublisherPort T U) → Option (PublisherPort T U) → Type 0
StaysAt subscriber old new = port_stands old ≡ true → (port_stands new ≡ true)
    × (lacks_connection subscriber old ≡ false → lacks_connection subscriber new ≡ false)

same_at : {T U : Type 0} (subscriber : ℕ) (old new : Option (PublisherPort T U)) → new ≡ old → StaysAt subscriber old new
same_at subscriber old new is stands = rw is (stands, λ has. has)

-- where a reader leads is the same
same_leads : (subscriber index : ℕ) (reader : Option Reader) (readers : List (Option Reader))
    → leads_to subscriber reader ≡ leads_to subscriber (get_or readers index None)
    → position (leads_to subscriber) (set readers index reader) ≡ position (leads_to subscriber) readers
same_leads subscriber index reader readers is =
    ap (λ n. cond (nat_lt n (length (set readers index reader))) (Some n) None)
    (position_or_len-set (leads_to subscriber) readers index reader None is)
    ∙ ap (λ m. cond (nat_lt (position_or_len (leads_to subscriber) readers) m) (Some (position_or_len (leads_to subscriber) readers))
    None) (length-set readers index reader)

same_lacks : {T U : Type 0} (subscriber : ℕ) (old new : PublisherPort T U) → new.stands ≡ old.stands
    → connection_to subscriber new ≡ connection_to subscriber old → StaysAt subscriber (Some old) (Some new)
same_lacks subscriber old new stands connects is = (stands ∙ is, λ has. ap (λ found. is_none found) connects ∙ has)

-- a publisher at a number took a step
one_stays : {T U : Type 0} (subscriber number : ℕ) (ports : List (ℕ × PublisherPort T U)) (port after : PublisherPort T U)
    → port_of number ports ≡ Some port → StaysAt subscriber (Some port) (Some after) → Stays subscriber ports (with_port number ports after)
one_stays {T} {U} subscriber number ports port after there stays other stands = elim (cases_eq other number) [
  | inl same ↦
      let before : port_of other ports ≡ Some port = ap (λ n. port_of n ports) same ∙ there in
      let now : port_of other (with_port number ports after) ≡ Some after
      = ap (λ n. port_of n (with_port number ports after)) same ∙ same_set (at_number number) ports after port there in
      let step = stays (sym (ap (λ found. port_stands found) before) ∙ stands) in (
        ap (λ found. port_stands found) now ∙ step.0,
        λ has. ap (λ found. lacks_connection subscriber found) now ∙ step.1
            (sym (ap (λ found. lacks_connection subscriber found) before) ∙ has),
      )
  | inr apart ↦ same_at subscriber (port_of other ports) (port_of other (with_port number ports after))
      (other_set (at_number number) (at_number other) ports after (other_fails other number apart)) stands
]

step_stays : {T U : Type 0} (subscriber number : ℕ) (step : PublisherPort T U → PublisherPort T U) (found : Option (PublisherPort T U))
    (ports : List (ℕ × PublisherPort T U)) → port_of number ports ≡ found
    → ((port : PublisherPort T U) → StaysAt subscriber (Some port) (Some (step port)))
    → Stays subscriber ports (changed_at_port number step found ports)
step_stays subscriber number step None ports there stays other stands = (stands, λ has. has)
step_stays subscriber number step (Some port) ports there stays other stands
    = one_stays subscriber number ports port (step port) there (stays port) other stands

-- one that is over didn't stand
over_left : {T U : Type 0} (port : PublisherPort T U) → is_over port ≡ true → port.stands ≡ false
over_left port over = by_case port.stands _ over
  where
    by_case : (stands rest : Bool) → (not stands && rest) ≡ true → stands ≡ false
    by_case true rest is = cc
    by_case false rest is = refl

over_found : {T U : Type 0} (found : Option (PublisherPort T U)) → is_over_port found ≡ true → port_stands found ≡ false
over_found None over = refl
over_found (Some port) over = over_left port over

settled_stays : {T U : Type 0} (subscriber number : ℕ) (over : Bool) (ports : List (ℕ × PublisherPort T U))
    → is_over_in number ports ≡ over → Stays subscriber ports (if over then removed number ports else ports)
settled_stays subscriber number false ports is other stands = (stands, λ has. has)
settled_stays {T} {U} subscriber number true ports is other stands = elim (cases_eq other number) [
  | inl same ↦ let no : true ≡ false = sym stands ∙ ap (λ n. stands_in n ports) same ∙ over_found (port_of number ports) is in absurd (cc)
  | inr apart ↦ same_at subscriber (port_of other ports) (port_of other (removed number ports))
      (other_gone (at_number number) (at_number other) ports (other_fails other number apart)) stands
]

stays_on : {T U : Type 0} (subscriber : ℕ) (old between new : List (ℕ × PublisherPort T U)) → Stays subscriber old between
    → Stays subscriber between new → Stays subscriber old new
stays_on subscriber old between new one two number stands =
    let first = one number stands in
    let second = two number first.0 in
    (second.0, λ has. second.1 (first.1 has))

-- a connection of one that left ends
ended_stays : {T U : Type 0} (subscriber index : ℕ) (port : PublisherPort T U)
    → StaysAt subscriber (Some port) (Some (ended_if_left index port))
ended_stays {T} {U} subscriber index port stands = rw so (stands, λ has. has)
  where
    so : ended_if_left index port ≡ port
    so = ap (λ b. if b then port else ended_at index port) stands

-- a subscriber attaches
attached_stays : {T U : Type 0} (subscriber limit index : ℕ) (found : Option ℕ) (old joined after : PublisherPort T U)
    → connection_to subscriber old ≡ found → Joins subscriber limit found old (Ok index) joined
    → after ≡ attached_at subscriber index joined
    → StaysAt subscriber (Some old) (Some after)
attached_stays subscriber limit index None old joined after is joins is_after stands = (
  ap (λ port. port.stands) is_after ∙ ap (λ port. port.stands) joins.2 ∙ stands,
  λ has. let no : true ≡ false
      = sym (ap (λ found. is_none found) is) ∙ has in absurd (cc),
)
attached_stays {T} {U} subscriber limit index (Some at) old joined after is joins is_after stands =
    let both : Ok index ≡ Ok at = joins.0 in
    let same : at ≡ index = cc in
    let leads : leads_to subscriber (get_or old.readers at None) ≡ true = (position-Some (leads_to subscriber) old.readers at None is).1 in
    let here : leads_to subscriber (get_or old.readers index None) ≡ true
    = ap (λ n. leads_to subscriber (get_or old.readers n None)) (sym same) ∙ leads in
    let readers : after.readers ≡ set old.readers index (Some (record { subscriber = subscriber; attached = true })) =
    ap (λ port. port.readers) is_after ∙ ap
    (λ port. set port.readers index (Some (record { subscriber = subscriber; attached = true }))) joins.1 in
    let connects : connection_to subscriber after ≡ connection_to subscriber old =
    ap (λ all. position (leads_to subscriber) all) readers ∙ same_leads subscriber index
    (Some (record { subscriber = subscriber; attached = true })) old.readers (eq-eqb subscriber subscriber refl ∙ sym here) in
    same_lacks subscriber old after (ap (λ port. port.stands) is_after ∙ ap (λ port. port.stands) joins.1) connects stands

attach_stays : {T U : Type 0} (subscriber number limit : ℕ) (found : Option (PublisherPort T U))
    (old new : List (ℕ × PublisherPort T U)) (answer : Option (Result ℕ AllocError)) → port_of number old ≡ found
    → AttachesAtPort number subscriber limit found old answer new → Stays subscriber old new
attach_stays subscriber number limit None old new answer there attaches = rw (attaches.1) (λ other stands. (stands, λ has. has))
attach_stays subscriber number limit (Some port) old new None there attaches = absurd attaches
attach_stays subscriber number limit (Some port) old new (Some (Err error)) there attaches
    = rw (attaches.1) (λ other stands. (stands, λ has. has))
attach_stays {T} {U} subscriber number limit (Some port) old new (Some (Ok index)) there attaches =
    let after : PublisherPort T U = attaches.0 in
    rw (attaches.2) (one_stays subscriber number old port after there
    (attached_stays subscriber _ index (connection_to subscriber port) port attaches.1.0 after refl attaches.1.1 attaches.1.2))

-- so it is with each step of a subscriber
stays_walks : {T U : Type 0} (subscriber : ℕ)
    → Walks subscriber (λ (old : List (ℕ × PublisherPort T U)) (new : List (ℕ × PublisherPort T U)). Stays subscriber old new)
stays_walks subscriber = record {
  stays = λ ports number stands. (stands, λ has. has);
  on = stays_on subscriber;
  attach = λ number limit old new answer attaches. attach_stays subscriber number limit (port_of number old) old new answer refl attaches;
  end = λ attached ports. stays_on subscriber ports (changed attached.publisher (ended_if_left attached.index) ports) _
      (step_stays subscriber attached.publisher (ended_if_left attached.index) (port_of attached.publisher ports) ports refl
      (ended_stays subscriber attached.index))
      (settled_stays subscriber attached.publisher
      (is_over_in attached.publisher (changed attached.publisher (ended_if_left attached.index) ports))
      (changed attached.publisher (ended_if_left attached.index) ports) refl);
}

-- a place that is untied has none
unset : (place : ℕ) (places : List (Option ℕ)) → get_or (set places place None) place None ≡ (let none : Option ℕ = None in none)
unset place [] = refl
unset zero (there ∷ places) = refl
unset (suc place) (there ∷ places) = unset place places

-- one place is followed, and the keys stay in order
goes_freed : {T U : Type 0} (is_free : Bool) (place number : ℕ) (port between new : SubscriberPort)
    (between_ports new_ports : List (ℕ × PublisherPort T U)) (outcome : Result (Unit {0}) ZeroCopyCreationError) → KeysFit port
    → place < port.places.room → PartsSo place is_free port between
    → FollowsFreed is_free place number between between_ports outcome new new_ports → Goes port new
goes_freed false place number port between new between_ports new_ports outcome fit within so follows =
    let is = so.stays refl in
    goes_same port new fit (ap (λ one. one.connections) follows.1 ∙ ap (λ one. one.connections) is)
    (ap (λ one. one.places) follows.1 ∙ ap (λ one. one.places) is) (ap (λ one. one.expired) follows.1 ∙ ap (λ one. one.expired) is)
goes_freed true place number port between new between_ports new_ports outcome fit within so follows =
    let freed = goes_unplaced place port between fit (so.parted refl) in
    goes_on port (unplaced place between) new freed
    (goes_connected place number (unplaced place between) new between_ports new_ports outcome freed.fit
    (unset place between.places.items) (omega (arith, within, freed.room)) follows)

goes_key : {T U : Type 0} (same : Bool) (key place number : ℕ) (port new : SubscriberPort)
    (ports new_ports : List (ℕ × PublisherPort T U)) (outcome : Result (Unit {0}) ZeroCopyCreationError) → KeysFit port
    → get_or port.places.items place None ≡ Some key → place < port.places.room
    → FollowsKey same key place number port ports outcome new new_ports → Goes port new
goes_key true key place number port new ports new_ports outcome fit there within follows
    = goes_same port new fit (ap (λ one. one.connections) follows.1) (ap (λ one. one.places) follows.1) (ap (λ one. one.expired) follows.1)
goes_key false key place number port new ports new_ports outcome fit there within (is_free, between, between_ports, parts, freed) =
    goes_freed is_free place number port between new between_ports new_ports outcome fit within
    (parts_so place key port between ports between_ports is_free fit there parts) freed

goes_at : {T U : Type 0} (found : Option ℕ) (place number : ℕ) (port new : SubscriberPort)
    (ports new_ports : List (ℕ × PublisherPort T U)) (outcome : Result (Unit {0}) ZeroCopyCreationError) → KeysFit port
    → get_or port.places.items place None ≡ found → place < port.places.room
    → FollowsAt found place number port ports outcome new new_ports → Goes port new
goes_at None place number port new ports new_ports outcome fit there within follows
    = goes_connected place number port new ports new_ports outcome fit there within follows
goes_at (Some key) place number port new ports new_ports outcome fit there within follows
    = goes_key (is_of number (subscribed.attached_at key port)) key place number port new ports new_ports outcome fit there within follows

goes_one : {T U : Type 0} (place : ℕ) (listed : Option (Member PublisherEntry)) (port new : SubscriberPort)
    (ports new_ports : List (ℕ × PublisherPort T U)) (outcome : Result (Unit {0}) ZeroCopyCreationError) → KeysFit port
    → place < port.places.room
    → FollowsOne place listed port ports outcome new new_ports → Goes port new
goes_one place None port new ports new_ports outcome fit within follows
    = goes_same port new fit (ap (λ one. one.connections) follows.1) (ap (λ one. one.places) follows.1) (ap (λ one. one.expired) follows.1)
goes_one place (Some member) port new ports new_ports outcome fit within follows
    = goes_at (get_or port.places.items place None) place member.value.publisher port new ports new_ports outcome fit refl within follows

goes_from : {T U : Type 0} (may : DegradationInfo → DegradationAction → Type 0) (place : ℕ)
    (listed : List (Option (Member PublisherEntry))) (found after : Option ConnectionFailure) (port new : SubscriberPort)
    (ports new_ports : List (ℕ × PublisherPort T U)) → KeysFit port
    → place + length listed ≤ port.places.room → FollowsFrom may place listed found port ports after new new_ports → Goes port new
goes_from may place [] found after port new ports new_ports fit within follows
    = goes_same port new fit (ap (λ one. one.connections) follows.1) (ap (λ one. one.places) follows.1) (ap (λ one. one.expired) follows.1)
goes_from may place (listed ∷ rest) found after port new ports new_ports fit within
    (outcome, next, next_ports, then_found, one, asks, further) =
    let first = goes_one place listed port next ports next_ports outcome fit (omega (arith, within)) one in
    goes_on port next new first (goes_from may (place + 1) rest then_found after next new next_ports new_ports first.fit
    (omega (arith, within, first.room)) further)

goes_none_if : {T U : Type 0} (there : Bool) (place : ℕ) (port new : SubscriberPort) (ports new_ports : List (ℕ × PublisherPort T U))
    → KeysFit port → FollowsNoneIf there place port ports new new_ports → Goes port new
goes_none_if true place port new ports new_ports fit follows
    = goes_same port new fit (ap (λ one. one.connections) follows.0) (ap (λ one. one.places) follows.0) (ap (λ one. one.expired) follows.0)
goes_none_if false place port new ports new_ports fit follows
    = goes_none_at (get_or port.places.items place None) place port new ports new_ports fit refl follows

goes_nones : {T U : Type 0} (listed : List (Option (Member PublisherEntry))) (place count : ℕ) (port new : SubscriberPort)
    (ports new_ports : List (ℕ × PublisherPort T U)) → KeysFit port → FollowsNones listed place count port ports new new_ports
    → Goes port new
goes_nones listed place zero port new ports new_ports fit follows
    = goes_same port new fit (ap (λ one. one.connections) follows.0) (ap (λ one. one.places) follows.0) (ap (λ one. one.expired) follows.0)
goes_nones listed place (suc count) port new ports new_ports fit (next, next_ports, one, further) =
    let first = goes_none_if (is_listed listed place) place port next ports next_ports fit one in
    goes_on port next new first (goes_nones listed (place + 1) count next new next_ports new_ports first.fit further)

begun_fits : (changes : ℕ) (port : SubscriberPort) → KeysFit port → Goes port (record port { seen = changes; again = false })
begun_fits changes port fit = goes_same port (record port { seen = changes; again = false }) fit refl refl refl

pub goes_updated : {T U : Type 0} (seen : Bool) (may : DegradationInfo → DegradationAction → Type 0)
    (listed : List (Option (Member PublisherEntry))) (changes : ℕ) (port new : SubscriberPort)
    (ports new_ports : List (ℕ × PublisherPort T U)) (answer : Result (Unit {0}) ConnectionFailure) → KeysFit port
    → length listed ≤ port.places.room → UpdatesIf seen may listed changes port ports answer new new_ports → Goes port new
goes_updated true may listed changes port new ports new_ports answer fit within updates
    = goes_same port new fit (ap (λ one. one.connections) updates.1) (ap (λ one. one.places) updates.1) (ap (λ one. one.expired) updates.1)
goes_updated false may listed changes port new ports new_ports answer fit within
    (found, between, between_ports, follows, nones, is_answer) =
    let begun : SubscriberPort = record port { seen = changes; again = false } in
    let begins = begun_fits changes port fit in
    let one = goes_from may 0 listed None found begun between ports between_ports begins.fit (omega (arith, within)) follows in
    goes_on port begun new begins (goes_on begun between new one
    (goes_nones listed 0 (length between.places.items) between new between_ports new_ports one.fit nones))

-- what is listed stands, and has a connection that leads to the subscriber
record Served {T U : Type 0} (listed : List (Option (Member PublisherEntry))) (subscriber : ℕ) (ports : List (ℕ × PublisherPort T U)) :
    Type 0 where
  served : (k : ℕ) (member : Member PublisherEntry) → get_or listed k None ≡ Some member
      → (stands_in member.value.publisher ports ≡ true) × (lacks_connection subscriber (port_of member.value.publisher ports) ≡ false)

still_served : {T U : Type 0} (listed : List (Option (Member PublisherEntry))) (subscriber : ℕ) (old new : List (ℕ × PublisherPort T U))
    → Stays subscriber old new → Served listed subscriber old → Served listed subscriber new
still_served listed subscriber old new stays all = record {
  served = λ k member there.
      let before = all.served k member there in
      let now = stays member.value.publisher before.0 in
      (now.0, now.1 before.1);
}

-- no failure is want of memory
made : (outcome : Result (Unit {0}) ZeroCopyCreationError) → outcome ≡ Ok tt → outcome ≢ Err creation.OutOfMemory
made outcome is lacked = let no : Ok tt ≡ Err creation.OutOfMemory = sym is ∙ lacked in cc

made_freed : {T U : Type 0} (is_free : Bool) (place number subscriber : ℕ) (port between new : SubscriberPort)
    (between_ports new_ports : List (ℕ × PublisherPort T U)) (outcome : Result (Unit {0}) ZeroCopyCreationError) → KeysFit port
    → place < port.places.room → PartsSo place is_free port between
    → between.number ≡ subscriber → lacks_connection subscriber (port_of number between_ports) ≡ false
    → FollowsFreed is_free place number between between_ports outcome new new_ports → outcome ≢ Err creation.OutOfMemory
made_freed false place number subscriber port between new between_ports new_ports outcome fit within so named has follows =
    λ lacked. let no : Err creation.ExpiredConnectionBufferFull ≡ Err creation.OutOfMemory = sym (follows.0) ∙ lacked in cc
made_freed {T} {U} true place number subscriber port between new between_ports new_ports outcome fit within so named has follows =
    let freed = goes_unplaced place port between fit (so.parted refl) in
    let none = unset place between.places.items in
    let room : place < (unplaced place between).places.room = omega (arith, within, freed.room) in
    let all : FollowsListed place number (unplaced place between) between_ports outcome new new_ports
    = subst (λ found. FollowsAt found place number (unplaced place between) between_ports outcome new new_ports) (sym none) follows in
    made outcome (attaches_at_once place number (unplaced place between) new between_ports new_ports outcome none room
    (key_left place (unplaced place between) freed.fit none room)
    (ap (λ n. lacks_connection n (port_of number between_ports)) named ∙ has) all)

made_key : {T U : Type 0} (same : Bool) (key place number subscriber : ℕ) (port new : SubscriberPort)
    (ports new_ports : List (ℕ × PublisherPort T U)) (outcome : Result (Unit {0}) ZeroCopyCreationError) → KeysFit port
    → get_or port.places.items place None ≡ Some key → place < port.places.room
    → port.number ≡ subscriber → stands_in number ports ≡ true → lacks_connection subscriber (port_of number ports) ≡ false
    → FollowsKey same key place number port ports outcome new new_ports → outcome ≢ Err creation.OutOfMemory
made_key true key place number subscriber port new ports new_ports outcome fit there within named stands has follows
    = made outcome follows.0
made_key {T} {U} false key place number subscriber port new ports new_ports outcome fit there within named stands has
    (is_free, between, between_ports, parts, freed) =
    let walk = walked_parts (stays_walks subscriber) key port between ports between_ports is_free parts in
    made_freed is_free place number subscriber port between new between_ports new_ports outcome fit within
    (parts_so place key port between ports between_ports is_free fit there parts) (walk.same ∙ named)
    ((walk.walked number stands).1 has) freed

made_at : {T U : Type 0} (found : Option ℕ) (place number subscriber : ℕ) (port new : SubscriberPort)
    (ports new_ports : List (ℕ × PublisherPort T U)) (outcome : Result (Unit {0}) ZeroCopyCreationError) → KeysFit port
    → get_or port.places.items place None ≡ found → place < port.places.room
    → port.number ≡ subscriber → stands_in number ports ≡ true → lacks_connection subscriber (port_of number ports) ≡ false
    → FollowsAt found place number port ports outcome new new_ports → outcome ≢ Err creation.OutOfMemory
made_at None place number subscriber port new ports new_ports outcome fit there within named stands has follows =
    made outcome (attaches_at_once place number port new ports new_ports outcome there within (key_left place port fit there within)
    (ap (λ n. lacks_connection n (port_of number ports)) named ∙ has)
    (subst (λ found. FollowsAt found place number port ports outcome new new_ports) (sym there) follows))
made_at (Some key) place number subscriber port new ports new_ports outcome fit there within named stands has follows =
    made_key (is_of number (subscribed.attached_at key port)) key place number subscriber port new ports new_ports outcome fit there
    within named stands has follows

made_one : {T U : Type 0} (place subscriber : ℕ) (listed : Option (Member PublisherEntry)) (port new : SubscriberPort)
    (ports new_ports : List (ℕ × PublisherPort T U)) (outcome : Result (Unit {0}) ZeroCopyCreationError) → KeysFit port
    → place < port.places.room → port.number ≡ subscriber
    → ((member : Member PublisherEntry) → listed ≡ Some member → (stands_in member.value.publisher ports ≡ true)
    × (lacks_connection subscriber (port_of member.value.publisher ports) ≡ false))
    → FollowsOne place listed port ports outcome new new_ports → outcome ≢ Err creation.OutOfMemory
made_one place subscriber None port new ports new_ports outcome fit within named served follows = made outcome follows.0
made_one place subscriber (Some member) port new ports new_ports outcome fit within named served follows =
    let has = served member refl in
    made_at (get_or port.places.items place None) place member.value.publisher subscriber port new ports new_ports outcome fit refl
    within named has.0 has.1 follows

-- what is found is no want of memory
first_made : (found : Option ConnectionFailure) (failure : ConnectionFailure) (asked : DegradationAction) → found ≢ Some no_memory
    → failure ≢ no_memory → first_failure found failure asked ≢ Some no_memory
first_made found failure action.Ignore none other is = none is
first_made found failure action.Warn none other is = none is
first_made None failure action.DegradeAndFail none other is = other (cc)
first_made (Some before) failure action.DegradeAndFail none other is = none is

asks_made : (may : DegradationInfo → DegradationAction → Type 0) (listed : Option (Member PublisherEntry)) (port : SubscriberPort)
    (found after : Option ConnectionFailure) (outcome : Result (Unit {0}) ZeroCopyCreationError) → found ≢ Some no_memory
    → outcome ≢ Err creation.OutOfMemory
    → AsksOf may listed port found outcome after → after ≢ Some no_memory
asks_made may None port found after outcome none made asks is = none (sym asks ∙ is)
asks_made may (Some member) port found after (Ok done) none made asks is = none (sym asks ∙ is)
asks_made may (Some member) port found after (Err failure) none made (asked, allowed, is_after) is =
    first_made found (FailedToEstablishConnection failure) asked none
    (λ same. let out : failure ≡ creation.OutOfMemory = cc in made (ap (λ one. Err one) out)) (sym is_after ∙ is)

made_from : {T U : Type 0} (may : DegradationInfo → DegradationAction → Type 0) (place subscriber : ℕ)
    (listed : List (Option (Member PublisherEntry))) (found after : Option ConnectionFailure) (port new : SubscriberPort)
    (ports new_ports : List (ℕ × PublisherPort T U)) → KeysFit port
    → place + length listed ≤ port.places.room → port.number ≡ subscriber → Served listed subscriber ports → found ≢ Some no_memory
    → FollowsFrom may place listed found port ports after new new_ports → after ≢ Some no_memory
made_from may place subscriber [] found after port new ports new_ports fit within named served none follows
    = λ is. none (sym (follows.0) ∙ is)
made_from may place subscriber (listed ∷ rest) found after port new ports new_ports fit within named served none
    (outcome, next, next_ports, then_found, one, asks, further) =
    let here : place < port.places.room = omega (arith, within) in
    let first = goes_one place listed port next ports next_ports outcome fit here one in
    let walk = walked_one (stays_walks subscriber) place listed port next ports next_ports outcome named one in
    let lacks = made_one place subscriber listed port next ports next_ports outcome fit here named
    (λ member is. served.served 0 member is) one in
    made_from may (place + 1) subscriber rest then_found after next new next_ports new_ports first.fit
    (omega (arith, within, first.room)) (walk.same ∙ named)
    (still_served rest subscriber ports next_ports walk.walked
    (record { served = λ k member there. served.served (suc k) member there }))
    (asks_made may listed next found then_found outcome none lacks asks) further

answered : (found : Option ConnectionFailure) → found ≢ Some no_memory → update_answer found ≢ Err no_memory
answered None none is = cc
answered (Some failure) none is = none (cc)

updated_made : {T U : Type 0} (seen : Bool) (may : DegradationInfo → DegradationAction → Type 0)
    (listed : List (Option (Member PublisherEntry))) (changes : ℕ) (port new : SubscriberPort)
    (ports new_ports : List (ℕ × PublisherPort T U)) (answer : Result (Unit {0}) ConnectionFailure) → KeysFit port
    → length listed ≤ port.places.room → ConnectsListed listed port.number ports
    → UpdatesIf seen may listed changes port ports answer new new_ports → answer ≢ Err no_memory
updated_made true may listed changes port new ports new_ports answer fit within connects updates is = let no : Ok tt ≡ Err no_memory
    = sym (updates.0) ∙ is in cc
updated_made false may listed changes port new ports new_ports answer fit within connects
    (found, between, between_ports, follows, nones, is_answer) is =
    let begun : SubscriberPort = record port { seen = changes; again = false } in
    let none = made_from may 0 port.number listed None found begun between ports between_ports (begun_fits changes port fit).fit
    (omega (arith, within)) refl
    (record { served = λ k member there. (connects.stands k member there, connects.connected k member there) }) (λ no. cc) follows in
    answered found none (sym is_answer ∙ is)

update_made : {T U : Type 0} (may : DegradationInfo → DegradationAction → Type 0) (listed : List (Option (Member PublisherEntry)))
    (changes : ℕ) (port new : SubscriberPort) (ports new_ports : List (ℕ × PublisherPort T U))
    (answer : Result (Unit {0}) ConnectionFailure) → KeysFit port
    → length listed ≤ port.places.room → ConnectsListed listed port.number ports
    → Updates may listed changes port ports answer new new_ports → answer ≢ Err no_memory
update_made may listed changes port new ports new_ports answer fit within connects updates
    = updated_made ((port.seen == changes) && not port.again) may listed changes port new ports new_ports answer fit within connects updates

has_made : {T U : Type 0} (updated : Result (Unit {0}) ConnectionFailure) (port : SubscriberPort) (ports : List (ℕ × PublisherPort T U))
    (answer : Result Bool ConnectionFailure) → updated ≢ Err no_memory → HasSamplesAfter updated port ports answer → answer ≢ Err no_memory
has_made (Err failure) port ports answer made has is = let same : Err failure ≡ Err no_memory = sym has ∙ is in made (cc)
has_made (Ok done) port ports answer made (unread, first, is_answer) is = let no : Ok (is_some unread) ≡ Err no_memory
    = sym is_answer ∙ is in cc

-- a receive fails for no other reason
receive_made : {T U : Type 0} (updated : Result (Unit {0}) ConnectionFailure) (port new : SubscriberPort)
    (ports new_ports : List (ℕ × PublisherPort T U)) (answer : Result (Option Taken) ReceiveError) → updated ≢ Err no_memory
    → ReceivesAfter updated port ports answer new new_ports
    → answer ≢ Err (receiving.ConnectionFailure no_memory)
receive_made (Err failure) port new ports new_ports answer made receives is =
    let same : Err (receiving.ConnectionFailure failure) ≡ Err (receiving.ConnectionFailure no_memory) = sym (receives.0) ∙ is in
    let one : failure ≡ no_memory = cc in
    made (ap (λ found. Err found) one)
receive_made (Ok done) port new ports new_ports answer made (taken, serves, is_answer) is = by_case taken is_answer
  where
    by_none : (unread : Option ℕ) → answer ≡ nothing_taken unread → ⊥
    by_none None told = let no : Ok None ≡ Err (receiving.ConnectionFailure no_memory) = sym told ∙ is in cc
    by_none (Some key) told = let no : Err receiving.ExceedsMaxBorrows ≡ Err (receiving.ConnectionFailure no_memory) = sym told ∙ is in cc

    by_case : (taken : Option Taken) → IsReceiveAnswer taken (subscribed.has_data new new_ports) answer → ⊥
    by_case None (unread, first, told) = by_none unread told
    by_case (Some one) told = let no : Ok (Some one) ≡ Err (receiving.ConnectionFailure no_memory) = sym told ∙ is in cc

-- a new subscriber has no keys in use
no_values : (n key : ℕ) → value_at (replicate n None) key ≡ (let none : Option Attached = None in none)
no_values zero key = refl
no_values (suc n) zero = refl
no_values (suc n) (suc key) = no_values n key

in_range : (from n key : ℕ) → from ≤ key → key < from + n → 0 < how_often key (range_with_len from n)
in_range from zero key low high = absurd (omega (arith, low, high))
in_range from (suc n) key low high = elim (cases_eq key from) [
  | inl same ↦ omega (arith, adds_same key from same)
  | inr other ↦ omega (arith, in_range (from + 1) n key (omega (arith, low, other)) (omega (arith, high)))
]

range_in : (from n key : ℕ) → 0 < how_often key (range_with_len from n) → key < from + n
range_in from zero key some = absurd (omega (arith, some))
range_in from (suc n) key some = elim (cases_eq key from) [
  | inl same ↦ omega (arith, same)
  | inr other ↦ omega (arith, range_in (from + 1) n key (omega (arith, some, adds_other key from other)))
]

pub new_fits : (identity : PortIdentity) (buffer_size most_connections most_expired : ℕ)
    → KeysFit (new_subscriber identity buffer_size most_connections most_expired)
new_fits identity buffer_size most_connections most_expired =
    let n : ℕ = most_connections + most_expired in
    let long : length (replicate n None) ≡ n = length-replicate n (let none : Option Attached = None in none) in
    record {
      used = λ key. sym (ap (λ found. if is_some found then 1 else 0) (no_values n key));
      free = λ key some. (omega (arith, long, range_in 0 n key some), no_values n key);
      unused = λ key below none. in_range 0 n key (omega arith) (omega (arith, long, below));
      room = omega (arith, long);
      places = omega arith;
      expired = omega arith;
    }

-- what is received leaves the keys in order
pub taken_fits : {T U : Type 0} (port new : SubscriberPort) (ports new_ports : List (ℕ × PublisherPort T U))
    (answer : Result (Option Taken) ReceiveError) → KeysFit port → Receives port ports answer new new_ports → Goes port new
taken_fits port new ports new_ports answer fit (taken, serves, is_answer) =
    let (met, is_met, giver, is_giver, is_given, is, are, is_there) = serves in
    rw is (goes_swept 0 met port (given_ports giver port ports) fit)

pub attaches_without_memory : {T U : Type 0} (may : DegradationInfo → DegradationAction → Type 0) → AttachesWithoutMemory T U may
attaches_without_memory may = record {
  begins = new_fits;
  update = update_made may;
  has_samples = λ listed changes port new ports new_ports answer fit within connects has.
      has_made has.0 new new_ports answer (update_made may listed changes port new ports new_ports has.0 fit within connects has.1) has.2;
  receive = λ listed changes port new ports new_ports answer fit within connects receives.
      receive_made receives.0 receives.1 new receives.2 new_ports answer
      (update_made may listed changes port receives.1 ports receives.2 receives.0 fit within connects receives.3) receives.4;
  goes_on = λ listed changes port new ports new_ports answer fit within updates.
      let goes = goes_updated ((port.seen == changes) && not port.again) may listed changes port new ports new_ports answer fit within
      updates in
      (goes.fit, goes.room);
  takes = λ port new ports new_ports answer fit receives.
      let goes = taken_fits port new ports new_ports answer fit receives in
      (goes.fit, goes.room);
}

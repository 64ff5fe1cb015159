-- The ties of the publishers of a service stay apart, step by step.
use Rattle.std.proofs.Common.{◌≡◌, ◌≢◌, ◌+◌, ◌&&◌, ◌∷◌, [], ℕ, zero, suc, Bool, true, false, not, List, get_or, set, length, Option, None}
use Rattle.std.proofs.Common.{is_some, Some, Result, Ok, Err, refl, sym, ap, ◌∙◌, if◌then◌else◌, inl, inr}
use Rattle.std.proofs.lemmas.Bool.{cases_eq}
use Rattle.std.proofs.lemmas.List.{get_or-set_other}
use Rattle.std.specs.List.{All, remove}
use Rattle.std.specs.declared.alloc.AllocError.{AllocError}
use Rattle.iox_domain.specs.Container.declared.container.Member.{Member}
use Rattle.iox_domain.specs.DomainValues.declared.backpressure.BackpressureDecision.{BackpressureDecision}
use Rattle.iox_domain.specs.DomainValues.declared.backpressure.BackpressureInfo.{BackpressureInfo}
use Rattle.iox_domain.specs.DomainValues.declared.connection_failure.ConnectionFailure.{ConnectionFailure}
use Rattle.iox_domain.specs.DomainValues.declared.degradation.DegradationAction.{DegradationAction}
use Rattle.iox_domain.specs.DomainValues.declared.degradation.DegradationInfo.{DegradationInfo}
use Rattle.iox_domain.specs.DomainValues.declared.port_error.SendError.{SendError}
use Rattle.iox_domain.specs.DomainSlots.Uses.{taken, given_back, settled, ended}
use Rattle.iox_domain.specs.DomainSlots.declared.stage.Stage.{Stage}
use Rattle.iox_domain.specs.DomainSlots.declared.stage.Stage.TheVariants as stage
use Rattle.iox_domain.specs.DomainPorts.Messages.{Message}
use Rattle.iox_domain.specs.DomainPorts.Leaving.{parted_at, parted_from, departed}
use Rattle.iox_domain.specs.DomainPorts.Places.{leads_to, left, is_attached}
use Rattle.iox_domain.specs.DomainPorts.Ports.{connection_of, connection_to, goes_on, is_live, ended_at, detached_at, Joins, Attaches}
use Rattle.iox_domain.specs.DomainPorts.Ports.{unread_at, with_connection_of}
use Rattle.iox_domain.specs.DomainPorts.Ties.{has_tie}
use Rattle.iox_domain.proofs.DomainPorts.Untied.{none_tied, some_tied}
use Rattle.iox_domain.specs.DomainPorts.Sending.{ready_loan}
use Rattle.iox_domain.specs.DomainPorts.PublisherUpdating.{Updates}
use Rattle.iox_domain.specs.DomainPorts.declared.meeting.Sent.{Sent}
use Rattle.iox_domain.specs.DomainPorts.declared.publisher_port.PublisherPort.{PublisherPort}
use Rattle.iox_domain.specs.DomainPorts.declared.reader.Reader.{Reader}
use Rattle.iox_domain.specs.DomainPorts.declared.subscriber_entry.SubscriberEntry.{SubscriberEntry}
use Rattle.iox_domain.specs.DomainPorts.Publishers as publishers
use Rattle.iox_domain.specs.DomainPorts.Publishers.{port_of, with_port, changed, changed_at_port, is_over_in, removed, ended_if_left}
use Rattle.iox_domain.specs.DomainPorts.Publishers.{released, AttachesAtPort}
use Rattle.iox_domain.specs.DomainPorts.Reading.{taken_at, given_back_at}
use Rattle.iox_domain.specs.PortLawsLaws.{IsListApart, IsTiedWell, IsWellEntry}
use Rattle.iox_domain.specs.PortsPublishing.{is_free, is_blocked, UpdatesOne, SendsOne}
use Rattle.iox_domain.specs.PortsPublishing as publishing
use Rattle.iox_domain.specs.Rolls.{RollState, IsListOf}
use Rattle.iox_domain.proofs.Carrying.{Carries, carry_sends}
use Rattle.iox_domain.proofs.Numbered.{at_number, FoundEntry, found_of_all, all_set, all_gone}
use Rattle.iox_domain.proofs.TiedWell.{Alike, alike_is, alike_still, alike_waiting, well_alike, well_kept, still_there, known_still}
use Rattle.iox_domain.proofs.TiedWell.{sole_still, well_gone}
use Rattle.iox_domain.proofs.TiedUpdates.{updates_well, attaches_well}
use Rattle.iox_domain.proofs.Walks.{Walks, WalksTaking, WalksLeaving}

-- a publisher that stands is tied well after a step if it was before
abbrev pub Goes : {T U : Type 0} → ℕ → List (Option (Member SubscriberEntry)) → PublisherPort T U → PublisherPort T U → Type 0
Goes next places old new = (old.stands ≡ true → IsTiedWell next places old) → new.stands ≡ true → IsTiedWell next places new

pub goes_alike : {T U : Type 0} (next : ℕ) (places : List (Option (Member SubscriberEntry))) (old new : PublisherPort T U)
    → Alike old new → Goes next places old new
goes_alike next places old new alike well stands = well_alike next places old new alike (well (sym alike.stands ∙ stands))

pub goes_carries : {T U : Type 0} (next : ℕ) (places : List (Option (Member SubscriberEntry)))
    → Carries (λ (old : PublisherPort T U) (new : PublisherPort T U). Goes next places old new)
goes_carries next places = record {
  is = λ old new is. goes_alike next places old new (alike_is old new is);
  on = λ old between new one two well. two (one well);
  still = λ old new connections ties readers stands sizes. goes_alike next places old new
      (alike_still old new connections ties readers stands);
  waiting = λ index waiting port live few. goes_alike next places port _
      (alike_waiting index (record (connection_of index port) { waiting = waiting }) port refl);
}

-- a list that is lent tells the same of each place
pub told_same : (listed : List (Option (Member SubscriberEntry))) (list : RollState SubscriberEntry) → IsListOf listed list
    → (place : ℕ) → get_or list.places place None ≡ get_or listed place None
told_same listed list is place = ap (λ all. get_or all place None) (sym is) ∙ still_there listed _ place

-- an update
pub goes_updates : {T U : Type 0} (next : ℕ) (list : RollState SubscriberEntry) (may : DegradationInfo → DegradationAction → Type 0)
    (listed : List (Option (Member SubscriberEntry))) (old new : PublisherPort T U) (answer : Result (Unit {0}) ConnectionFailure)
    → IsListApart next list.places → IsListOf listed list → old.stands ≡ true → Updates may listed list.changes old answer new
    → Goes next list.places old new
goes_updates next list may listed old new answer apart is stands updates well goes =
    (updates_well next list.places may listed list.changes old new answer apart (λ k within. told_same listed list is k) (well stands)
    updates).1

both_true : (a b : Bool) → a && b ≡ true → a ≡ true
both_true true b is = refl
both_true false b is = cc

goes_update_one : {T U : Type 0} (next : ℕ) (list : RollState SubscriberEntry) (free : Bool)
    (may : DegradationInfo → DegradationAction → Type 0) (old new : PublisherPort T U)
    (answer : Option (Result (Unit {0}) ConnectionFailure))
    → IsListApart next list.places → is_free old ≡ free → publishing.UpdatesIf free may list old answer new → Goes next list.places old new
goes_update_one next list false may old new answer apart free updates = goes_alike next list.places old new (alike_is old new updates.1)
goes_update_one next list true may old new answer apart free updates =
    goes_updates next list may updates.0 old new updates.2 apart updates.1 (both_true old.stands (not (is_blocked old)) free) updates.3

pub goes_updates_one : {T U : Type 0} (next : ℕ) (list : RollState SubscriberEntry) (may : DegradationInfo → DegradationAction → Type 0)
    (old new : PublisherPort T U) (answer : Option (Result (Unit {0}) ConnectionFailure))
    → IsListApart next list.places → UpdatesOne may list old answer new → Goes next list.places old new
goes_updates_one next list may old new answer apart updates = goes_update_one next list (is_free old) may old new answer apart refl updates

pub goes_sends_one : {T U : Type 0} (next : ℕ) (list : RollState SubscriberEntry)
    (may_degrade : DegradationInfo → DegradationAction → Type 0) (may : BackpressureInfo → BackpressureDecision → Type 0) (slot : ℕ)
    (old new : PublisherPort T U) (answer : Option (Result Sent SendError))
    → IsListApart next list.places → SendsOne may_degrade may list slot old answer new → Goes next list.places old new
goes_sends_one next list may_degrade may slot old new answer apart sends =
    carry_sends (goes_carries next list.places) may_degrade may sends.0 list.changes (ready_loan slot old) old new answer
    (λ stands outcome updated updates. goes_updates next list may_degrade sends.0 old updated outcome apart sends.1 stands updates) sends.2

-- a publisher that left
either_stands : {T U : Type 0} (test : Bool) (one other : PublisherPort T U) (stands : Bool) → one.stands ≡ stands
    → other.stands ≡ stands → (if test then one else other).stands ≡ stands
either_stands true one other stands same_one same_other = same_one
either_stands false one other stands same_one same_other = same_other

ended_stands : {T U : Type 0} (index : ℕ) (port : PublisherPort T U) → (ended_at index port).stands ≡ port.stands
ended_stands index port = either_stands (is_live index port) _ port port.stands refl refl

parted_stands : {T U : Type 0} (index : ℕ) (port : PublisherPort T U) → (parted_at index port).stands ≡ port.stands
parted_stands index port = either_stands (is_attached (get_or port.readers index None)) port (ended_at index port) port.stands refl
    (ended_stands index port)

parted_from_stands : {T U : Type 0} (count index : ℕ) (port : PublisherPort T U) → (parted_from count index port).stands ≡ port.stands
parted_from_stands zero index port = refl
parted_from_stands (suc count) index port = parted_from_stands count (index + 1) (parted_at index port) ∙ parted_stands index port

pub goes_departed : {T U : Type 0} (next : ℕ) (places : List (Option (Member SubscriberEntry))) (port : PublisherPort T U)
    → Goes next places port (departed port)
goes_departed {T} {U} next places port well stands =
    let gone : PublisherPort T U = record port { stands = false } in
    let no : false ≡ true = sym (parted_from_stands (length port.sender.uses.connections) 0 gone) ∙ stands in
    absurd (cc)

goes_if_left : {T U : Type 0} (next : ℕ) (places : List (Option (Member SubscriberEntry))) (index : ℕ) (stands : Bool)
    (port : PublisherPort T U) → port.stands ≡ stands → Goes next places port (if stands then port else ended_at index port)
goes_if_left next places index true port is well goes = well goes
goes_if_left next places index false port is well goes = let no : false ≡ true
    = sym is ∙ sym (ended_stands index port) ∙ goes in absurd (cc)

goes_ended : {T U : Type 0} (next : ℕ) (places : List (Option (Member SubscriberEntry))) (index : ℕ) (port : PublisherPort T U)
    → Goes next places port (ended_if_left index port)
goes_ended next places index port = goes_if_left next places index port.stands port refl

-- a subscriber reads, or no longer
goes_taken : {T U : Type 0} (next : ℕ) (places : List (Option (Member SubscriberEntry))) (index : ℕ) (port : PublisherPort T U)
    → Goes next places port (taken_at index port)
goes_taken next places index port = goes_alike next places port _ (alike_waiting index (taken (connection_of index port)) port refl)

pub settled_goes : {T U : Type 0} (now : Stage) (limit : ℕ) (waiting borrowed : List (Message T U))
    → goes_on (settled now limit waiting borrowed).stage ≡ goes_on now
settled_goes stage.Ended limit waiting [] = refl
settled_goes stage.Ended limit waiting (x ∷ xs) = refl
settled_goes stage.Live limit waiting borrowed = refl
settled_goes stage.Vacant limit waiting borrowed = refl

goes_given_back : {T U : Type 0} (next : ℕ) (places : List (Option (Member SubscriberEntry))) (index : ℕ) (at : Option ℕ)
    (port : PublisherPort T U) → Goes next places port (given_back_at index at port)
goes_given_back next places index None port = λ well. well
goes_given_back next places index (Some at) port =
    let old = connection_of index port in
    goes_alike next places port _ (alike_waiting index (given_back at old) port
    (settled_goes old.stage old.limit old.waiting (remove old.borrowed at)))

left_one : (subscriber : ℕ) (reader : Option Reader) → leads_to subscriber (left reader) ≡ leads_to subscriber reader
left_one subscriber None = refl
left_one subscriber (Some reader) = refl

pub left_leads : (subscriber index at : ℕ) (readers : List (Option Reader))
    → leads_to subscriber (get_or (set readers index (left (get_or readers index None))) at None)
    ≡ leads_to subscriber (get_or readers at None)
left_leads subscriber index at [] = refl
left_leads subscriber zero zero (reader ∷ readers) = left_one subscriber reader
left_leads subscriber zero (suc at) (reader ∷ readers) = refl
left_leads subscriber (suc index) zero (reader ∷ readers) = refl
left_leads subscriber (suc index) (suc at) (reader ∷ readers) = left_leads subscriber index at readers

left_one_some : (reader : Option Reader) → is_some (left reader) ≡ is_some reader
left_one_some None = refl
left_one_some (Some reader) = refl

left_some : (index at : ℕ) (readers : List (Option Reader))
    → is_some (get_or (set readers index (left (get_or readers index None))) at None) ≡ is_some (get_or readers at None)
left_some index at [] = refl
left_some zero zero (reader ∷ readers) = left_one_some reader
left_some zero (suc at) (reader ∷ readers) = refl
left_some (suc index) zero (reader ∷ readers) = refl
left_some (suc index) (suc at) (reader ∷ readers) = left_some index at readers

goes_gone : {T U : Type 0} (next : ℕ) (places : List (Option (Member SubscriberEntry))) (index : ℕ) (live : Bool)
    (port : PublisherPort T U) → ((place : ℕ) → get_or port.ties.items place None ≢ Some index)
    → Goes next places port (if live then record (with_connection_of index (ended (connection_of index port)) port)
    { readers = set port.readers index None } else port)
goes_gone next places index true port untied well stands = well_gone next places index port untied (well stands)
goes_gone next places index false port untied well stands = well stands

goes_unread : {T U : Type 0} (next : ℕ) (places : List (Option (Member SubscriberEntry))) (index : ℕ) (port : PublisherPort T U)
    → (place : ℕ) × (get_or port.ties.items place None ≡ Some index) → Goes next places port (unread_at index port)
goes_unread next places index port tied well stands =
    let was : IsTiedWell next places port = well stands in
    well_kept next places port (unread_at index port) (record {
      ties = refl;
      live = λ at live. live;
      leads = λ subscriber at live. left_leads subscriber index at port.readers;
      read = λ subscriber at leads. was.read subscriber at (sym (left_leads subscriber index at port.readers) ∙ leads);
      known = λ at live. elim (cases_eq at index) [
        | inl same ↦ inl (inr (tied.0, tied.1 ∙ ap (λ i. Some i) (sym same)))
        | inr not ↦ inr (live, known_still at port (unread_at index port) (get_or-set_other port.readers index at _ None not) refl)
      ];
      sole = λ sole. sole_still port (unread_at index port) (λ subscriber at. left_leads subscriber index at port.readers) sole;
      all = λ all at live. left_some index at port.readers ∙ all at live;
    }) was

goes_detached_by : {T U : Type 0} (next : ℕ) (places : List (Option (Member SubscriberEntry))) (index : ℕ) (tied : Bool)
    (port : PublisherPort T U) → has_tie index port.ties ≡ tied
    → Goes next places port (if tied then unread_at index port else ended_at index port)
goes_detached_by next places index true port is = goes_unread next places index port (some_tied index port.ties is)
goes_detached_by next places index false port is
    = goes_gone next places index (is_live index port) port (none_tied index port.ties is)

goes_detached : {T U : Type 0} (next : ℕ) (places : List (Option (Member SubscriberEntry))) (index : ℕ) (port : PublisherPort T U)
    → Goes next places port (detached_at index port)
goes_detached next places index port = goes_detached_by next places index (has_tie index port.ties) port refl

joined_stands : {T U : Type 0} (subscriber limit index : ℕ) (found : Option ℕ) (old joined : PublisherPort T U)
    → Joins subscriber limit found old (Ok index) joined → joined.stands ≡ old.stands
joined_stands subscriber limit index None old joined joins = ap (λ port. port.stands) joins.2
joined_stands subscriber limit index (Some there) old joined joins = ap (λ port. port.stands) joins.1

goes_attaches : {T U : Type 0} (next : ℕ) (places : List (Option (Member SubscriberEntry))) (subscriber limit index : ℕ)
    (old new : PublisherPort T U) → Attaches subscriber limit old (Ok index) new → Goes next places old new
goes_attaches next places subscriber limit index old new attaches well stands =
    let same : new.stands ≡ old.stands = ap (λ port. port.stands) attaches.2 ∙ joined_stands subscriber limit index
    (connection_to subscriber old) old attaches.0 attaches.1 in
    (attaches_well next places subscriber limit index old new attaches (well (sym same ∙ stands))).1

-- The same is true of each publisher of a service.
pub record ListWell {T U : Type 0} (next : ℕ) (places : List (Option (Member SubscriberEntry))) (old new : List (ℕ × PublisherPort T U))
    : Type 0 where
  pub well : All (IsWellEntry next places) old → All (IsWellEntry next places) new

pub wells_stay : {T U : Type 0} (next : ℕ) (places : List (Option (Member SubscriberEntry))) (ports : List (ℕ × PublisherPort T U))
    → ListWell next places ports ports
wells_stay next places ports = record { well = λ all. all }

pub wells_on : {T U : Type 0} (next : ℕ) (places : List (Option (Member SubscriberEntry)))
    (old between new : List (ℕ × PublisherPort T U)) → ListWell next places old between → ListWell next places between new
    → ListWell next places old new
wells_on next places old between new one two = record { well = λ all. two.well (one.well all) }

pub wells_with : {T U : Type 0} (next : ℕ) (places : List (Option (Member SubscriberEntry))) (number : ℕ)
    (ports : List (ℕ × PublisherPort T U)) (port after : PublisherPort T U) → port_of number ports ≡ Some port → Goes next places port after
    → ListWell next places ports (with_port number ports after)
wells_with {T} {U} next places number ports port after there goes = record {
  well = λ all.
      let found : FoundEntry (IsWellEntry next places) (at_number number) port
      = found_of_all (IsWellEntry next places) (at_number number) ports port all there in
      all_set (IsWellEntry next places) (at_number number) ports after (λ one is. goes found.holds) all;
}

wells_found : {T U : Type 0} (next : ℕ) (places : List (Option (Member SubscriberEntry))) (number : ℕ)
    (step : PublisherPort T U → PublisherPort T U) (found : Option (PublisherPort T U)) (ports : List (ℕ × PublisherPort T U))
    → ((port : PublisherPort T U) → Goes next places port (step port)) → port_of number ports ≡ found
    → ListWell next places ports (changed_at_port number step found ports)
wells_found next places number step None ports goes there = wells_stay next places ports
wells_found next places number step (Some port) ports goes there = wells_with next places number ports port (step port) there (goes port)

pub wells_changed : {T U : Type 0} (next : ℕ) (places : List (Option (Member SubscriberEntry))) (number : ℕ)
    (step : PublisherPort T U → PublisherPort T U) (ports : List (ℕ × PublisherPort T U))
    → ((port : PublisherPort T U) → Goes next places port (step port)) → ListWell next places ports (changed number step ports)
wells_changed next places number step ports goes = wells_found next places number step (port_of number ports) ports goes refl

wells_if : {T U : Type 0} (next : ℕ) (places : List (Option (Member SubscriberEntry))) (test : Bool)
    (ports one other : List (ℕ × PublisherPort T U)) → ListWell next places ports one → ListWell next places ports other
    → ListWell next places ports (if test then one else other)
wells_if next places true ports one other well_one well_other = well_one
wells_if next places false ports one other well_one well_other = well_other

pub wells_settled : {T U : Type 0} (next : ℕ) (places : List (Option (Member SubscriberEntry))) (number : ℕ)
    (ports : List (ℕ × PublisherPort T U)) → ListWell next places ports (publishers.settled number ports)
wells_settled next places number ports =
    wells_if next places (is_over_in number ports) ports (removed number ports) ports
    (record { well = λ all. all_gone (IsWellEntry next places) (at_number number) ports all }) (wells_stay next places ports)

wells_attach : {T U : Type 0} (next : ℕ) (places : List (Option (Member SubscriberEntry))) (number subscriber limit : ℕ)
    (found : Option (PublisherPort T U)) (old new : List (ℕ × PublisherPort T U)) (answer : Option (Result ℕ AllocError))
    → port_of number old ≡ found
    → AttachesAtPort number subscriber limit found old answer new → ListWell next places old new
wells_attach next places number subscriber limit None old new answer there attaches = rw (attaches.1) (wells_stay next places old)
wells_attach next places number subscriber limit (Some port) old new None there attaches = absurd attaches
wells_attach next places number subscriber limit (Some port) old new (Some (Err error)) there attaches
    = rw (attaches.1) (wells_stay next places old)
wells_attach {T} {U} next places number subscriber limit (Some port) old new (Some (Ok index)) there attaches =
    let after : PublisherPort T U = attaches.0 in
    rw (attaches.2) (wells_with next places number old port after there
    (goes_attaches next places subscriber _ index port after attaches.1))

-- and with each step of a subscriber
pub well_walks : {T U : Type 0} (next : ℕ) (places : List (Option (Member SubscriberEntry))) (subscriber : ℕ)
    → Walks subscriber (λ (old : List (ℕ × PublisherPort T U)) (new : List (ℕ × PublisherPort T U)). ListWell next places old new)
well_walks next places subscriber = record {
  stays = wells_stay next places;
  on = wells_on next places;
  attach = λ number limit old new answer attaches. wells_attach next places number subscriber limit (port_of number old) old new answer
      refl attaches;
  end = λ attached ports. wells_on next places ports (changed attached.publisher (ended_if_left attached.index) ports) _
      (wells_changed next places attached.publisher (ended_if_left attached.index) ports (goes_ended next places attached.index))
      (wells_settled next places attached.publisher (changed attached.publisher (ended_if_left attached.index) ports));
}

pub well_leaving : {T U : Type 0} (next : ℕ) (places : List (Option (Member SubscriberEntry)))
    → WalksLeaving (λ (old : List (ℕ × PublisherPort T U)) (new : List (ℕ × PublisherPort T U)). ListWell next places old new)
well_leaving next places attached ports = wells_changed next places attached.publisher (detached_at attached.index) ports
    (goes_detached next places attached.index)

pub well_takes : {T U : Type 0} (next : ℕ) (places : List (Option (Member SubscriberEntry)))
    → WalksTaking (λ (old : List (ℕ × PublisherPort T U)) (new : List (ℕ × PublisherPort T U)). ListWell next places old new)
well_takes next places attached ports below = wells_changed next places attached.publisher _ ports (goes_taken next places attached.index)

-- a message is given back
pub wells_released : {T U : Type 0} (next : ℕ) (places : List (Option (Member SubscriberEntry))) (number index at : ℕ)
    (ports : List (ℕ × PublisherPort T U)) → ListWell next places ports (released number index (Some at) ports)
wells_released next places number index at ports =
    wells_on next places ports (changed number (given_back_at index (Some at)) ports) _
    (wells_changed next places number (given_back_at index (Some at)) ports (goes_given_back next places index (Some at)))
    (wells_settled next places number (changed number (given_back_at index (Some at)) ports))

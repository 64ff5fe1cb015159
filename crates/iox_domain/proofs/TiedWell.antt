-- The ties of a publisher stay apart through its own steps.
use Rattle.std.proofs.Common.{arith, ◌≡◌, ◌≢◌, ◌+◌, ◌-◌, ◌≤◌, ◌∷◌, [], ◌++◌, ℕ, zero, suc, Bool, true, false, List, get_or}
use Rattle.std.proofs.Common.{set, length, length-append, replicate, Option, None, Some, refl, sym, ap, ◌∙◌}
use Rattle.std.proofs.Common.{◌⊎◌, if◌then◌else◌, inl, inr, is_some}
use Rattle.std.proofs.lemmas.Bool.{cases_eq, eqb-true}
use Rattle.std.proofs.lemmas.List.{get_or-set_other, length-replicate}
use Rattle.iox_domain.specs.Container.declared.container.Member.{Member}
use Rattle.iox_domain.specs.DomainSlots.Uses.{Connection, nobody, ended}
use Rattle.iox_domain.specs.DomainPorts.Messages.{Message}
use Rattle.iox_domain.specs.DomainPorts.Places.{is_attached, reached, leads_to}
use Rattle.iox_domain.specs.DomainPorts.Ports.{connection_of, goes_on, is_live, with_connection_of}
use Rattle.iox_domain.specs.DomainPorts.Ties.{tie_put}
use Rattle.iox_domain.specs.DomainPorts.PublisherUpdating.{is_tie_to, let_go_of, untied, untied_from}
use Rattle.iox_domain.specs.DomainPorts.declared.publisher_port.PublisherPort.{PublisherPort}
use Rattle.iox_domain.specs.DomainPorts.declared.reader.Reader.{Reader}
use Rattle.iox_domain.specs.DomainPorts.declared.subscriber_entry.SubscriberEntry.{SubscriberEntry}
use Rattle.iox_domain.specs.PortLawsLaws.{IsKnown, IsTiedWell, LeadApart, AllLead}

-- Ties don't change, and connections that exist continue to, with the same readers.
pub record Kept {T U : Type 0} (old new : PublisherPort T U) : Type 0 where
  pub ties : new.ties ≡ old.ties
  pub live : (index : ℕ) → is_live index old ≡ true → is_live index new ≡ true
  pub leads : (subscriber index : ℕ) → is_live index old ≡ true
      → leads_to subscriber (get_or new.readers index None) ≡ leads_to subscriber (get_or old.readers index None)
  pub read : (subscriber index : ℕ) → leads_to subscriber (get_or new.readers index None) ≡ true → is_live index new ≡ true
  pub known : (index : ℕ) → is_live index new ≡ true
      → IsKnown index new ⊎ ((is_live index old ≡ true) × (IsKnown index old → IsKnown index new))
  pub sole : LeadApart old → LeadApart new
  pub all : AllLead old → AllLead new

-- it is known still where its reader is the same, and each tie
pub known_still : {T U : Type 0} (index : ℕ) (old new : PublisherPort T U) → get_or new.readers index None ≡ get_or old.readers index None
    → new.ties ≡ old.ties → IsKnown index old → IsKnown index new
known_still index old new reader ties (inl reads) = inl (ap is_attached reader ∙ reads)
known_still index old new reader ties (inr (place, tie)) = inr (place, ap (λ all. get_or all.items place None) ties ∙ tie)

-- connections that lead to whom they did lead apart still
pub sole_still : {T U : Type 0} (old new : PublisherPort T U)
    → ((subscriber index : ℕ) → leads_to subscriber (get_or new.readers index None) ≡ leads_to subscriber (get_or old.readers index None))
    → LeadApart old → LeadApart new
sole_still old new same sole subscriber one other first second =
    sole subscriber one other (sym (same subscriber one) ∙ first) (sym (same subscriber other) ∙ second)

pub tie_kept : {T U : Type 0} (old new : PublisherPort T U) (subscriber : ℕ) (tie : Option ℕ)
    → ((index : ℕ) → tie ≡ Some index
    → leads_to subscriber (get_or new.readers index None) ≡ leads_to subscriber (get_or old.readers index None))
    → is_tie_to subscriber tie new ≡ is_tie_to subscriber tie old
tie_kept old new subscriber None same = refl
tie_kept old new subscriber (Some index) same = same index refl

pub well_kept : {T U : Type 0} (next : ℕ) (places : List (Option (Member SubscriberEntry))) (old new : PublisherPort T U) → Kept old new
    → IsTiedWell next places old → IsTiedWell next places new
well_kept {T} {U} next places old new kept well = record {
  apart = λ one other index is_one is_other. well.apart one other index (before one index is_one) (before other index is_other);
  live = λ place index is. kept.live index (well.live place index (before place index is));
  read = kept.read;
  alone = λ place other member listed not. tie_same member.value.subscriber other ∙ well.alone place other member listed not;
  below = λ place subscriber is. well.below place subscriber (sym (tie_same subscriber place) ∙ is);
  room = omega (arith, well.room, ap (λ ties. ties.room) kept.ties);
  known = λ index live. known index (kept.known index live);
  sole = kept.sole well.sole;
  all = kept.all well.all;
}
  where
    known : (index : ℕ) → IsKnown index new ⊎ ((is_live index old ≡ true) × (IsKnown index old → IsKnown index new)) → IsKnown index new
    known index (inl now) = now
    known index (inr was) = was.1 (well.known index was.0)

    before : (place index : ℕ) → get_or new.ties.items place None ≡ Some index → get_or old.ties.items place None ≡ Some index
    before place index is = ap (λ ties. get_or ties.items place None) (sym kept.ties) ∙ is

    tie_same : (subscriber place : ℕ) → is_tie_to subscriber (get_or new.ties.items place None) new
        ≡ is_tie_to subscriber (get_or old.ties.items place None) old
    tie_same subscriber place =
        ap (λ ties. is_tie_to subscriber (get_or ties.items place None) new) kept.ties
        ∙ tie_kept old new subscriber (get_or old.ties.items place None)
        (λ index is. kept.leads subscriber index (well.live place index is))

-- a value that isn't there after it was taken away
pub gone_there : {A : Type 0} (xs : List (Option A)) (place : ℕ)
    → get_or (set xs place None) place None ≡ (let none : Option A = None in none)
gone_there [] place = refl
gone_there (x ∷ xs) zero = refl
gone_there (x ∷ xs) (suc place) = gone_there xs place

pub still_there : {A : Type 0} (xs : List (Option A)) (n i : ℕ) → get_or (xs ++ replicate n None) i None ≡ get_or xs i None
still_there [] zero i = refl
still_there [] (suc n) zero = refl
still_there [] (suc n) (suc i) = still_there [] n i
still_there (x ∷ xs) n zero = refl
still_there (x ∷ xs) n (suc i) = still_there xs n i

pub long_enough : {A : Type 0} (xs : List (Option A)) (count : ℕ) → count ≤ length (reached count xs)
long_enough {A} xs count =
    let none : Option A = None in
    omega (arith, length-append xs (replicate (count - length xs) none), length-replicate {A = Option A} (count - length xs) none)

-- where one connection goes on if the one before did, so does each
live_set : {T U : Type 0} (connections : List (Connection (Message T U))) (index : ℕ) (connection : Connection (Message T U))
    → goes_on connection.stage ≡ goes_on (get_or connections index nobody).stage → (other : ℕ)
    → goes_on (get_or (set connections index connection) other nobody).stage ≡ goes_on (get_or connections other nobody).stage
live_set [] index connection same other = refl
live_set (x ∷ xs) zero connection same zero = same
live_set (x ∷ xs) zero connection same (suc other) = refl
live_set (x ∷ xs) (suc index) connection same zero = refl
live_set (x ∷ xs) (suc index) connection same (suc other) = live_set xs index connection same other

-- Ties and readers don't change, and the same connections continue.
pub record Alike {T U : Type 0} (old new : PublisherPort T U) : Type 0 where
  pub ties : new.ties ≡ old.ties
  pub readers : new.readers ≡ old.readers
  pub stands : new.stands ≡ old.stands
  pub live : (index : ℕ) → is_live index new ≡ is_live index old

pub alike_waiting : {T U : Type 0} (index : ℕ) (connection : Connection (Message T U)) (port : PublisherPort T U)
    → goes_on connection.stage ≡ is_live index port → Alike port (with_connection_of index connection port)
alike_waiting index connection port same = record {
  ties = refl;
  readers = refl;
  stands = refl;
  live = λ other. live_set port.sender.uses.connections index connection same other;
}

pub alike_is : {T U : Type 0} (old new : PublisherPort T U) → new ≡ old → Alike old new
alike_is old new is = record {
  ties = ap (λ port. port.ties) is;
  readers = ap (λ port. port.readers) is;
  stands = ap (λ port. port.stands) is;
  live = λ index. ap (λ port. is_live index port) is;
}

pub alike_on : {T U : Type 0} (old between new : PublisherPort T U) → Alike old between → Alike between new → Alike old new
alike_on old between new one two = record {
  ties = two.ties ∙ one.ties;
  readers = two.readers ∙ one.readers;
  stands = two.stands ∙ one.stands;
  live = λ index. two.live index ∙ one.live index;
}

pub alike_still : {T U : Type 0} (old new : PublisherPort T U) → new.sender.uses.connections ≡ old.sender.uses.connections
    → new.ties ≡ old.ties → new.readers ≡ old.readers → new.stands ≡ old.stands → Alike old new
alike_still old new connections ties readers stands = record {
  ties = ties;
  readers = readers;
  stands = stands;
  live = λ index. ap (λ all. goes_on (get_or all index nobody).stage) connections;
}

pub well_alike : {T U : Type 0} (next : ℕ) (places : List (Option (Member SubscriberEntry))) (old new : PublisherPort T U)
    → Alike old new → IsTiedWell next places old → IsTiedWell next places new
well_alike next places old new alike well = well_kept next places old new (record {
  ties = alike.ties;
  live = λ index live. alike.live index ∙ live;
  leads = λ subscriber index live. ap (λ readers. leads_to subscriber (get_or readers index None)) alike.readers;
  read = λ subscriber index leads. alike.live index ∙ well.read subscriber index
      (ap (λ readers. leads_to subscriber (get_or readers index None)) (sym alike.readers) ∙ leads);
  known = λ index live. inr (
    sym (alike.live index) ∙ live,
    known_still index old new (ap (λ readers. get_or readers index None) alike.readers) alike.ties,
  );
  sole = λ sole. sole_still old new (λ subscriber index. ap (λ readers. leads_to subscriber (get_or readers index None)) alike.readers)
      sole;
  all = λ all index live. ap (λ readers. is_some (get_or readers index None)) alike.readers
      ∙ all index (sym (alike.live index) ∙ live);
}) well

-- the connection that a place is tied to ends
record Ended {T U : Type 0} (place index : ℕ) (old new : PublisherPort T U) : Type 0 where
  items : new.ties.items ≡ set old.ties.items place None
  room : new.ties.room ≡ old.ties.room
  stands : new.stands ≡ old.stands
  readers : new.readers ≡ set old.readers index None
  live : (other : ℕ) → other ≢ index → is_live other new ≡ is_live other old
  over : is_live index new ≡ false

-- a connection that ended doesn't go on
ended_stops : {T U : Type 0} (connection : Connection (Message T U)) → goes_on (ended connection).stage ≡ false
ended_stops {T} {U} connection = by connection.borrowed
  where
    by : (borrowed : List (Message T U)) → goes_on (ended (record connection { borrowed = borrowed })).stage ≡ false
    by [] = refl
    by (message ∷ borrowed) = refl

over_there : {T U : Type 0} (connections : List (Connection (Message T U))) (index : ℕ) (connection : Connection (Message T U))
    → goes_on connection.stage ≡ false → goes_on (get_or (set connections index connection) index nobody).stage ≡ false
over_there [] index connection is = refl
over_there (one ∷ connections) zero connection is = is
over_there (one ∷ connections) (suc index) connection is = over_there connections index connection is

well_ended : {T U : Type 0} (next : ℕ) (places : List (Option (Member SubscriberEntry))) (place index : ℕ) (old new : PublisherPort T U)
    → get_or old.ties.items place None ≡ Some index → Ended place index old new
    → IsTiedWell next places old → IsTiedWell next places new
well_ended {T} {U} next places place index old new tie ended well = record {
  apart = λ one other at is_one is_other. well.apart one other at (before one at is_one).1 (before other at is_other).1;
  live = λ one at is. ended.live at (apart one at is) ∙ well.live one at (before one at is).1;
  read = λ subscriber at leads. let there = still_leads subscriber at leads in ended.live at there.0 ∙ well.read subscriber at there.1;
  alone = λ one other member listed not. elim (cases_eq other place) [
    | inl same ↦ ap (λ at. is_tie_to member.value.subscriber (get_or new.ties.items at None) new) same ∙ ap
        (λ t. is_tie_to member.value.subscriber t new) gone
    | inr apart ↦ tie_other member.value.subscriber other apart ∙ well.alone one other member listed not
  ];
  below = λ one subscriber is. elim (cases_eq one place) [
    | inl same ↦
        let no : false ≡ true = sym (ap (λ at. is_tie_to subscriber (get_or new.ties.items at None) new) same ∙ ap
        (λ t. is_tie_to subscriber t new) gone) ∙ is in cc
    | inr apart ↦ well.below one subscriber (sym (tie_other subscriber one apart) ∙ is)
  ];
  room = omega (arith, well.room, ended.room);
  known = λ at live. known at live (off at live) (well.known at (sym (ended.live at (off at live)) ∙ live));
  sole = λ subscriber one other first second.
      well.sole subscriber one other (still_leads subscriber one first).1 (still_leads subscriber other second).1;
  all = λ at live.
      ap (λ readers. is_some (get_or readers at None)) ended.readers
      ∙ ap (λ reader. is_some reader) (get_or-set_other old.readers index at None None (off at live))
      ∙ well.all at (sym (ended.live at (off at live)) ∙ live);
}
  where
    off : (at : ℕ) → is_live at new ≡ true → at ≢ index
    off at live same = let no : true ≡ false = sym live ∙ ap (λ i. is_live i new) same ∙ ended.over in cc

    known : (at : ℕ) → is_live at new ≡ true → at ≢ index → IsKnown at old → IsKnown at new
    known at live not (inl reads) =
        inl (ap (λ readers. is_attached (get_or readers at None)) ended.readers
        ∙ ap is_attached (get_or-set_other old.readers index at None None not) ∙ reads)
    known at live not (inr (one, there)) =
        let elsewhere : one ≢ place = λ same.
        let both : Some index ≡ Some at = sym tie ∙ ap (λ p. get_or old.ties.items p None) (sym same) ∙ there in
        let is : at ≡ index = cc in not is in
        inr (
          one,
          ap (λ items. get_or items one None) ended.items
              ∙ get_or-set_other old.ties.items place one None None elsewhere ∙ there,
        )

    gone : get_or new.ties.items place None ≡ None
    gone = ap (λ items. get_or items place None) ended.items ∙ gone_there old.ties.items place

    before : (one at : ℕ) → get_or new.ties.items one None ≡ Some at → (one ≢ place) × (get_or old.ties.items one None ≡ Some at)
    before one at is =
        let not : one ≢ place = λ same. let no : None ≡ Some at = sym (ap (λ p. get_or new.ties.items p None) same ∙ gone) ∙ is in cc in
        (not, sym (ap (λ items. get_or items one None) ended.items ∙ get_or-set_other old.ties.items place one None None not) ∙ is)

    apart : (one at : ℕ) → get_or new.ties.items one None ≡ Some at → at ≢ index
    apart one at is = λ same.
        let there = before one at is in
        there.0 (well.apart one place at there.1 (tie ∙ ap (λ i. Some i) (sym same)))

    still_leads : (subscriber at : ℕ) → leads_to subscriber (get_or new.readers at None) ≡ true → (at ≢ index)
        × (leads_to subscriber (get_or old.readers at None) ≡ true)
    still_leads subscriber at leads =
        let not : at ≢ index = λ same.
        let none : leads_to subscriber (get_or new.readers at None) ≡ false = ap (λ i. leads_to subscriber (get_or new.readers i None)) same
        ∙ ap (λ readers. leads_to subscriber (get_or readers index None)) ended.readers ∙ ap (λ reader. leads_to subscriber reader)
        (gone_there old.readers index) in
        let no : false ≡ true = sym none ∙ leads in cc in (
          not,
          sym (ap (λ readers. leads_to subscriber (get_or readers at None)) ended.readers ∙ ap (λ reader. leads_to subscriber reader)
              (get_or-set_other old.readers index at None None not)) ∙ leads,
        )

    tie_other : (subscriber other : ℕ) → other ≢ place
        → is_tie_to subscriber (get_or new.ties.items other None) new ≡ is_tie_to subscriber (get_or old.ties.items other None) old
    tie_other subscriber other not =
        let same : get_or new.ties.items other None ≡ get_or old.ties.items other None
        = ap (λ items. get_or items other None) ended.items ∙ get_or-set_other old.ties.items place other None None not in
        ap (λ t. is_tie_to subscriber t new) same
        ∙ tie_kept old new subscriber (get_or old.ties.items other None) (λ at is.
        ap (λ readers. leads_to subscriber (get_or readers at None)) ended.readers
        ∙ ap (λ reader. leads_to subscriber reader) (get_or-set_other old.readers index at None None (apart other at (same ∙ is))))

-- a connection to which no place is tied ends
abbrev gone_at : {T U : Type 0} → ℕ → PublisherPort T U → PublisherPort T U
gone_at index port = record (with_connection_of index (ended (connection_of index port)) port) { readers = set port.readers index None }

module _ {T U : Type 0} (next : ℕ) (places : List (Option (Member SubscriberEntry))) (index : ℕ) (old : PublisherPort T U)
    (untied : (place : ℕ) → get_or old.ties.items place None ≢ Some index) (well : IsTiedWell next places old) where
  off : (place at : ℕ) → get_or old.ties.items place None ≡ Some at → at ≢ index
  off place at is same = untied place (is ∙ ap (λ n. Some n) same)

  live_still : (other : ℕ) → other ≢ index → is_live other (gone_at index old) ≡ is_live other old
  live_still other not = ap (λ one. goes_on one.stage)
      (get_or-set_other old.sender.uses.connections index other (ended (connection_of index old)) nobody not)

  leads_still : (subscriber at : ℕ) → at ≢ index
      → leads_to subscriber (get_or (gone_at index old).readers at None) ≡ leads_to subscriber (get_or old.readers at None)
  leads_still subscriber at not = ap (λ reader. leads_to subscriber reader) (get_or-set_other old.readers index at None None not)

  same_tie : (subscriber place : ℕ) → is_tie_to subscriber (get_or old.ties.items place None) (gone_at index old)
      ≡ is_tie_to subscriber (get_or old.ties.items place None) old
  same_tie subscriber place = tie_kept old (gone_at index old) subscriber (get_or old.ties.items place None)
      (λ at is. leads_still subscriber at (off place at is))

  not_gone : (subscriber at : ℕ) → leads_to subscriber (get_or (gone_at index old).readers at None) ≡ true → at ≢ index
  not_gone subscriber at leads same =
      let none : leads_to subscriber (get_or (gone_at index old).readers at None) ≡ false
      = ap (λ i. leads_to subscriber (get_or (gone_at index old).readers i None)) same
      ∙ ap (λ reader. leads_to subscriber reader) (gone_there old.readers index) in
      let no : false ≡ true = sym none ∙ leads in cc

  not_live : (at : ℕ) → is_live at (gone_at index old) ≡ true → at ≢ index
  not_live at live same =
      let no : true ≡ false = sym live ∙ ap (λ i. is_live i (gone_at index old)) same
      ∙ over_there old.sender.uses.connections index (ended (connection_of index old)) (ended_stops (connection_of index old)) in cc

  pub well_gone : IsTiedWell next places (gone_at index old)
  well_gone = record {
    apart = well.apart;
    live = λ place at is. live_still at (off place at is) ∙ well.live place at is;
    read = λ subscriber at leads.
        let not = not_gone subscriber at leads in
        live_still at not ∙ well.read subscriber at (sym (leads_still subscriber at not) ∙ leads);
    alone = λ place other member listed not. same_tie member.value.subscriber other ∙ well.alone place other member listed not;
    below = λ place subscriber is. well.below place subscriber (sym (same_tie subscriber place) ∙ is);
    room = well.room;
    known = λ at live.
        let not = not_live at live in
        known_still at old (gone_at index old) (get_or-set_other old.readers index at None None not) refl
        (well.known at (sym (live_still at not) ∙ live));
    sole = λ subscriber one other first second. well.sole subscriber one other
        (sym (leads_still subscriber one (not_gone subscriber one first)) ∙ first)
        (sym (leads_still subscriber other (not_gone subscriber other second)) ∙ second);
    all = λ at live.
        let not = not_live at live in
        ap (λ reader. is_some reader) (get_or-set_other old.readers index at None None not)
        ∙ well.all at (sym (live_still at not) ∙ live);
  }

-- What a step of an update comes to.
pub record Steps {T U : Type 0} (next : ℕ) (places : List (Option (Member SubscriberEntry))) (old new : PublisherPort T U) : Type 0 where
  pub stands : new.stands ≡ old.stands
  pub well : IsTiedWell next places old → IsTiedWell next places new

steps_stay : {T U : Type 0} (next : ℕ) (places : List (Option (Member SubscriberEntry))) (port : PublisherPort T U)
    → Steps next places port port
steps_stay next places port = record { stands = refl; well = λ well. well }

steps_on : {T U : Type 0} (next : ℕ) (places : List (Option (Member SubscriberEntry))) (old between new : PublisherPort T U)
    → Steps next places old between → Steps next places between new → Steps next places old new
steps_on next places old between new one two = record { stands = two.stands ∙ one.stands; well = λ well. two.well (one.well well) }

pub steps_alike : {T U : Type 0} (next : ℕ) (places : List (Option (Member SubscriberEntry))) (old new : PublisherPort T U) → Alike old new
    → Steps next places old new
steps_alike next places old new alike = record { stands = alike.stands; well = well_alike next places old new alike }

pub steps_is : {T U : Type 0} (next : ℕ) (places : List (Option (Member SubscriberEntry))) (old new : PublisherPort T U) → new ≡ old
    → Steps next places old new
steps_is next places old new is = steps_alike next places old new (alike_is old new is)

pub steps_to : {T U : Type 0} (next : ℕ) (places : List (Option (Member SubscriberEntry))) (old new other : PublisherPort T U) → other ≡ new
    → Steps next places old new → Steps next places old other
steps_to next places old new other is steps = steps_on next places old new other steps (steps_is next places new other is)

-- a place is untied
let_go_by : {T U : Type 0} (next : ℕ) (places : List (Option (Member SubscriberEntry))) (place index : ℕ) (live : Bool)
    (port gone : PublisherPort T U) → get_or port.ties.items place None ≡ Some index → is_live index port ≡ live
    → gone ≡ record port { ties = tie_put place None port.ties }
    → Steps next places port (if live then record (with_connection_of index (ended (connection_of index gone)) gone)
    { readers = set gone.readers index None } else gone)
let_go_by {T} {U} next places place index true port gone tie live is =
    let new : PublisherPort T U = record (with_connection_of index (ended (connection_of index gone)) gone)
    { readers = set gone.readers index None } in
    let stands : new.stands ≡ port.stands = ap (λ one. one.stands) is in
    record {
      stands = stands;
      well = well_ended next places place index port new tie (record {
        items = ap (λ one. one.ties.items) is;
        room = ap (λ one. one.ties.room) is;
        stands = stands;
        readers = ap (λ one. set one.readers index None) is;
        live = λ other not. ap (λ one. goes_on one.stage)
            (get_or-set_other gone.sender.uses.connections index other (ended (connection_of index gone)) nobody not)
            ∙ ap (λ one. is_live other one) is;
        over = over_there gone.sender.uses.connections index (ended (connection_of index gone)) (ended_stops (connection_of index gone));
      });
    }
let_go_by next places place index false port gone tie live is = record {
  stands = ap (λ one. one.stands) is;
  well = λ well. let no : true ≡ false = sym (well.live place index tie) ∙ live in absurd (cc);
}

steps_let_go : {T U : Type 0} (next : ℕ) (places : List (Option (Member SubscriberEntry))) (place : ℕ) (tie : Option ℕ)
    (port : PublisherPort T U) → get_or port.ties.items place None ≡ tie → Steps next places port (let_go_of place tie port)
steps_let_go next places place None port is = steps_stay next places port
steps_let_go {T} {U} next places place (Some index) port is =
    let_go_by next places place index (is_live index port) port (record port { ties = tie_put place None port.ties }) is refl refl

pub steps_untied : {T U : Type 0} (next : ℕ) (places : List (Option (Member SubscriberEntry))) (place : ℕ) (port : PublisherPort T U)
    → Steps next places port (untied place port)
steps_untied next places place port = steps_let_go next places place (get_or port.ties.items place None) port refl

pub steps_untied_from : {T U : Type 0} (next : ℕ) (places : List (Option (Member SubscriberEntry))) (count place : ℕ)
    (port : PublisherPort T U) → Steps next places port (untied_from count place port)
steps_untied_from next places zero place port = steps_stay next places port
steps_untied_from next places (suc count) place port =
    steps_on next places port (untied place port) _ (steps_untied next places place port)
    (steps_untied_from next places count (place + 1) (untied place port))

-- what a reader leads to is one subscriber
pub leads_both : (one other : ℕ) (reader : Option Reader) → leads_to one reader ≡ true → leads_to other reader ≡ true → one ≡ other
leads_both one other None first second = cc
leads_both one other (Some reader) first second = sym (eqb-true reader.subscriber one first) ∙ eqb-true reader.subscriber other second

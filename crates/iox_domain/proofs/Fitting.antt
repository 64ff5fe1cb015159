-- The keys of a subscriber stay in order through its update and its receive.
use Rattle.std.proofs.Common.{arith, ◌≡◌, ◌≢◌, ◌+◌, ◌-◌, ◌<◌, ◌≤◌, ◌∷◌, [], ◌++◌, ℕ, zero, suc, Bool, true, false, is_some, List, length}
use Rattle.std.proofs.Common.{length-append, get_or, set, remove, replicate, slice_get, nat_lt, nat_le, Option, None, Some, Result, Ok}
use Rattle.std.proofs.Common.{Err, refl, sym, ap, ◌∙◌, subst, if◌then◌else◌, inl, inr}
use Rattle.std.proofs.lemmas.List.{length-replicate}
use Rattle.std.proofs.lemmas.Bool.{cases_eq}
use Rattle.std.proofs.lemmas.List.{get_or-set_other, get_or-set_same, length-set}
use Rattle.std.specs.declared.alloc.AllocError.{AllocError}
use Rattle.iox_domain.specs.Container.SlotTable.{SlotTable, value_at, released, stored, without}
use Rattle.iox_domain.specs.DomainValues.declared.connection_failure.ZeroCopyCreationError.{ZeroCopyCreationError}
use Rattle.iox_domain.specs.DomainPorts.Places.{reached}
use Rattle.iox_domain.specs.DomainPorts.declared.publisher_port.PublisherPort.{PublisherPort}
use Rattle.iox_domain.proofs.DomainPorts.Enough.{still}
use Rattle.iox_domain.specs.DomainPorts.Following.{is_unborrowed, expired_port, replaced_port, PartsFor, PartsBorrowed, PartsOver}
use Rattle.iox_domain.specs.DomainPorts.Following.{PartsIf, Parts, kept_at, ConnectsBy, Connects, unplaced, freed_if, FollowsNoneAt}
use Rattle.iox_domain.specs.DomainPorts.Keys.{KeysState, with_last}
use Rattle.iox_domain.specs.DomainPorts.Receiving.{is_idle_at, dropped_port, dropped_ports, swept}
use Rattle.iox_domain.specs.DomainPorts.Subscribing.{attached_at, is_idle, without_key, ended_key}
use Rattle.iox_domain.specs.DomainPorts.declared.attached.Attached.{Attached}
use Rattle.iox_domain.specs.DomainPorts.declared.subscriber_port.SubscriberPort.{SubscriberPort}
use Rattle.iox_domain.specs.Attaching.{keys_at, keys_of, KeysFit}
use Rattle.iox_domain.specs.Tries.{how_often}
use Rattle.iox_domain.proofs.Keys.{adds, adds_same, adds_other, often_append, often_end, often_remove, often_there, length_remove}
use Rattle.iox_domain.proofs.Keys.{often_without, none_without, keys_untied, keys_tied, keys_reached, keys_fewer, as_long}

-- how much a connection counts
abbrev held : Option Attached → ℕ
held found = if is_some found then 1 else 0

-- so often each key stands somewhere as it holds a connection, and the others are free
record Tallied (count : ℕ → ℕ) (table : SlotTable Attached) : Type 0 where
  used : (key : ℕ) → count key ≡ held (value_at table.values key)
  free : (key : ℕ) → 0 < how_often key table.free → (key < length table.values) × (value_at table.values key ≡ None)
  unused : (key : ℕ) → key < length table.values → value_at table.values key ≡ None → 0 < how_often key table.free

retallied : (count other : ℕ → ℕ) (table : SlotTable Attached) → ((key : ℕ) → other key ≡ count key) → Tallied count table
    → Tallied other table
retallied count other table same tally = record { used = λ key. same key ∙ tally.used key; free = tally.free; unused = tally.unused }

some_held : (found : Option Attached) → 0 < held found → is_some found ≡ true
some_held None some = absurd (omega (arith, some))
some_held (Some attached) some = refl

within_values : (values : List (Option Attached)) (key : ℕ) → is_some (value_at values key) ≡ true → key < length values
within_values [] key is = cc
within_values (x ∷ xs) zero is = omega arith
within_values (x ∷ xs) (suc key) is = omega (arith, within_values xs key is)

-- a key holds no connection any longer
released_tally : (count other : ℕ → ℕ) (out : ℕ) (table : SlotTable Attached) → ((key : ℕ) → other key + adds key out ≡ count key)
    → Tallied count table → Tallied other (released table out)
released_tally count other out table less tally =
    let there : is_some (value_at table.values out) ≡ true
    = some_held (value_at table.values out) (omega (arith, tally.used out, less out, adds_same out out refl)) in
    let within : out < length table.values = within_values table.values out there in
    let gone : value_at (set table.values out None) out ≡ None = get_or-set_same table.values out None None within in
    record {
      used = λ key. elim (cases_eq key out) [
        | inl same ↦
            let once : count out ≡ 1 = tally.used out ∙ ap (λ b. if b then 1 else 0) there in
            omega (
              arith,
              ap (λ n. other n) same,
              less out,
              adds_same out out refl,
              once,
              ap
                  (λ n. held (value_at (set table.values out None) n)) same,
              ap (λ found. held found) gone,
            )
        | inr apart ↦ omega (
          arith,
          less key,
          adds_other key out apart,
          tally.used key,
          ap (λ found. held found)
              (get_or-set_other table.values out key None None apart),
        )
      ];
      free = λ key some. elim (cases_eq key out) [
        | inl same ↦ (
          omega (arith, same, within, length-set table.values out None),
          ap (λ n. value_at (set table.values out None) n) same
              ∙ gone,
        )
        | inr apart ↦
            let was = tally.free key (omega (arith, some, adds_other key out apart)) in
            (omega (arith, was.0, length-set table.values out None), get_or-set_other table.values out key None None apart ∙ was.1)
      ];
      unused = λ key below none. elim (cases_eq key out) [
        | inl same ↦ omega (arith, adds_same key out same)
        | inr apart ↦ omega (
          arith,
          tally.unused key (omega (arith, below, length-set table.values out None))
              (sym (get_or-set_other table.values out key None None apart) ∙ none),
        )
      ];
    }

ended_tally : (count other : ℕ → ℕ) (out : ℕ) (found : Option Attached) (port : SubscriberPort) → attached_at out port ≡ found
    → ((key : ℕ) → other key + adds key out ≡ count key) → Tallied count port.connections
    → Tallied other (without_key out found port).connections
    × (length (without_key out found port).connections.values ≡ length port.connections.values)
ended_tally count other out None port is less tally
    = absurd (omega (arith, less out, adds_same out out refl, tally.used out, ap (λ one. held one) is))
ended_tally count other out (Some attached) port is less tally
    = (released_tally count other out port.connections less tally, length-set port.connections.values out None)

-- a key that is free holds a connection now
stored_tally : (count other : ℕ → ℕ) (new : ℕ) (attached : Attached) (table : SlotTable Attached) → slice_get table.free 0 ≡ Some new
    → ((key : ℕ) → other key ≡ count key + adds key new) → Tallied count table → Tallied other (stored table new attached)
stored_tally count other new attached table first more tally =
    let was = tally.free new (often_there new 0 table.free first) in
    let now : value_at (set table.values new (Some attached)) new ≡ Some attached
    = get_or-set_same table.values new (Some attached) None was.0 in
    record {
      used = λ key. elim (cases_eq key new) [
        | inl same ↦
            omega (
              arith,
              ap (λ n. other n) same,
              more new,
              adds_same new new refl,
              tally.used new,
              ap (λ found. held found) (was.1),
              ap
                  (λ n. held (value_at (set table.values new (Some attached)) n)) same,
              ap (λ found. held found) now,
            )
        | inr apart ↦ omega (
          arith,
          more key,
          adds_other key new apart,
          tally.used key,
          ap (λ found. held found)
              (get_or-set_other table.values new key (Some attached) None apart),
        )
      ];
      free = λ key some. elim (cases_eq key new) [
        | inl same ↦ absurd (omega (arith, some, ap (λ n. how_often n (without new table.free)) same, none_without new table.free))
        | inr apart ↦
            let before = tally.free key (omega (arith, some, often_without key new table.free apart)) in (
              omega (arith, before.0, length-set table.values new (Some attached)),
              get_or-set_other table.values new key (Some attached)
                  None apart ∙ before.1,
            )
      ];
      unused = λ key below none. elim (cases_eq key new) [
        | inl same ↦ let no : Some attached ≡ None
            = sym now ∙ ap (λ n. value_at (set table.values new (Some attached)) n) (sym same) ∙ none in cc
        | inr apart ↦ omega (
          arith,
          tally.unused key (omega (arith, below, length-set table.values new (Some attached)))
              (sym (get_or-set_other table.values new key (Some attached) None apart) ∙ none),
          often_without key new table.free apart,
        )
      ];
    }

-- how often a key stands among places and expired ones
abbrev among : List (Option ℕ) → List ℕ → ℕ → ℕ
among places expired key = how_often key (keys_at places) + how_often key expired

tally_of : (port : SubscriberPort) → KeysFit port → Tallied (among port.places.items port.expired.items) port.connections
tally_of port fit = record {
  used = λ key. omega (arith, often_append key (keys_at port.places.items) port.expired.items, fit.used key);
  free = fit.free;
  unused = fit.unused;
}

-- What is in order after a step.
record Fits (old new : SubscriberPort) : Type 0 where
  tally : Tallied (among new.places.items new.expired.items) new.connections
  values : length new.connections.values ≡ length old.connections.values
  room : new.places.room ≡ old.places.room
  expired_room : new.expired.room ≡ old.expired.room
  places : length new.places.items ≤ old.places.room
  expired : length new.expired.items ≤ old.expired.room

fit_of : (old new : SubscriberPort) → KeysFit old → Fits old new → KeysFit new
fit_of old new fit fits = record {
  used = λ key. omega (arith, often_append key (keys_at new.places.items) new.expired.items, fits.tally.used key);
  free = fits.tally.free;
  unused = fits.tally.unused;
  room = omega (arith, fits.values, fit.room, fits.room, fits.expired_room);
  places = omega (arith, fits.places, fits.room);
  expired = omega (arith, fits.expired, fits.expired_room);
}

-- an ended connection changes neither places nor expired ones
pub ended_rest : (key : ℕ) (found : Option Attached) (port : SubscriberPort) → ((without_key key found port).places ≡ port.places)
    × ((without_key key found port).expired ≡ port.expired)
ended_rest key None port = (refl, refl)
ended_rest key (Some attached) port = (refl, refl)

-- What is in order after a parting: the key of the place isn't counted there any longer.
pub record Parted (place : ℕ) (old new : SubscriberPort) : Type 0 where
  tally : Tallied (among (set old.places.items place None) new.expired.items) new.connections
  values : length new.connections.values ≡ length old.connections.values
  places : new.places ≡ old.places
  room : new.expired.room ≡ old.expired.room
  expired : length new.expired.items ≤ old.expired.room

-- the connection ends
parted_ended : (place key : ℕ) (port new : SubscriberPort) → KeysFit port → get_or port.places.items place None ≡ Some key
    → new ≡ ended_key key port → Parted place port new
parted_ended place key port new fit there is =
    let rest = ended_rest key (attached_at key port) port in
    let less : (k : ℕ) → among (set port.places.items place None) port.expired.items k + adds k key
    ≡ among port.places.items port.expired.items k = λ k. omega (arith, keys_untied k place key port.places.items there) in
    let ended = ended_tally (among port.places.items port.expired.items) (among (set port.places.items place None) port.expired.items)
    key (attached_at key port) port refl less (tally_of port fit) in
    rw is (record {
      tally = subst (λ expired. Tallied (among (set port.places.items place None) expired.items) (ended_key key port).connections)
          (sym (rest.1)) ended.0;
      values = ended.1;
      places = rest.0;
      room = ap (λ keys. keys.room) rest.1;
      expired = omega (arith, fit.expired, ap (λ keys. length keys.items) rest.1);
    })

-- one key more where there is room
last_items : (key : ℕ) (keys : KeysState) → length keys.items < keys.room → ((with_last key keys).items ≡ keys.items ++ key ∷ [])
    × ((with_last key keys).room ≡ keys.room)
last_items key keys some =
    let is : nat_lt (length keys.items) keys.room ≡ true = grind (arith, some) in (
      ap (λ b. (if b then record keys { items = keys.items ++ key ∷ [] } else keys).items) is,
      ap
          (λ b. (if b then record keys { items = keys.items ++ key ∷ [] } else keys).room) is,
    )

-- it expires
parted_expired : (place key : ℕ) (port new : SubscriberPort) → KeysFit port → get_or port.places.items place None ≡ Some key
    → length port.expired.items < port.expired.room → new ≡ expired_port key port → Parted place port new
parted_expired place key port new fit there some is =
    let last = last_items key port.expired some in
    let same : (k : ℕ) → among (set port.places.items place None) (with_last key port.expired).items k
    ≡ among port.places.items port.expired.items k = λ k.
    omega (arith, ap (λ all. how_often k all) last.0, often_end k key port.expired.items, keys_untied k place key port.places.items there)
    in
    rw is (record {
      tally = retallied (among port.places.items port.expired.items)
          (among (set port.places.items place None) (with_last key port.expired).items) port.connections same (tally_of port fit);
      values = refl;
      places = refl;
      room = last.1;
      expired = omega (arith, some, ap (λ all. length all) last.0, length-append port.expired.items (key ∷ []));
    })

-- an expired one ends
dropped_tally : (at out : ℕ) (port : SubscriberPort) → KeysFit port → slice_get port.expired.items at ≡ Some out
    → Tallied (among port.places.items (remove port.expired.items at)) (dropped_port at (Some out) port).connections
    × (length (dropped_port at (Some out) port).connections.values ≡ length port.connections.values)
dropped_tally at out port fit found =
    ended_tally (among port.places.items port.expired.items) (among port.places.items (remove port.expired.items at)) out
    (attached_at out port) port refl (λ k. omega (arith, often_remove k at out port.expired.items found)) (tally_of port fit)

-- one that expired makes room for it
parted_replaced : (place key at out : ℕ) (port new : SubscriberPort) → KeysFit port → get_or port.places.items place None ≡ Some key
    → slice_get port.expired.items at ≡ Some out → new ≡ replaced_port at out key port → Parted place port new
parted_replaced place key at out port new fit there found is =
    let rest = ended_rest out (attached_at out port) port in
    let dropped = dropped_tally at out port fit found in
    let fewer = length_remove at out port.expired.items found in
    let left : KeysState = record port.expired { items = remove port.expired.items at } in
    let last = last_items key left (omega (arith, fewer, fit.expired)) in
    let same : (k : ℕ) → among (set port.places.items place None) (with_last key left).items k
    ≡ among port.places.items (remove port.expired.items at) k = λ k.
    omega (
      arith,
      ap (λ all. how_often k all) last.0,
      often_end k key (remove port.expired.items at),
      keys_untied k place key
          port.places.items there,
    ) in
    rw is (record {
      tally = retallied (among port.places.items (remove port.expired.items at))
          (among (set port.places.items place None) (with_last key left).items) (dropped_port at (Some out) port).connections same
          dropped.0;
      values = dropped.1;
      places = rest.0;
      room = last.1;
      expired = omega (arith, fewer, fit.expired, ap (λ all. length all) last.0, length-append (remove port.expired.items at) (key ∷ []));
    })

-- what is free, and what stays
pub record PartsSo (place : ℕ) (is_free : Bool) (old new : SubscriberPort) : Type 0 where
  pub parted : is_free ≡ true → Parted place old new
  pub stays : is_free ≡ false → new ≡ old

freed : (place : ℕ) (is_free : Bool) (old new : SubscriberPort) → is_free ≡ true → Parted place old new → PartsSo place is_free old new
freed place is_free old new is parted = record { parted = λ so. parted; stays = λ so. let no : true ≡ false = sym is ∙ so in cc }

parts_for : {T U : Type 0} (found : Option ℕ) (place at key : ℕ) (port new : SubscriberPort)
    (ports new_ports : List (ℕ × PublisherPort T U)) (is_free : Bool) → KeysFit port → get_or port.places.items place None ≡ Some key
    → slice_get port.expired.items at ≡ found
    → PartsFor found at key port ports is_free new new_ports → PartsSo place is_free port new
parts_for None place at key port new ports new_ports is_free fit there found parts
    = record { parted = λ so. let no : false ≡ true = sym (parts.0) ∙ so in cc; stays = λ so. parts.1 }
parts_for (Some out) place at key port new ports new_ports is_free fit there found parts
    = freed place is_free port new parts.0 (parted_replaced place key at out port new fit there found parts.1)

parts_borrowed : {T U : Type 0} (unborrowed : Bool) (place key : ℕ) (port new : SubscriberPort)
    (ports new_ports : List (ℕ × PublisherPort T U)) (is_free : Bool) → KeysFit port → get_or port.places.items place None ≡ Some key
    → PartsBorrowed unborrowed key port ports is_free new new_ports → PartsSo place is_free port new
parts_borrowed true place key port new ports new_ports is_free fit there parts
    = freed place is_free port new parts.0 (parted_ended place key port new fit there parts.1)
parts_borrowed false place key port new ports new_ports is_free fit there parts
    = parts_for (slice_get port.expired.items parts.0) place parts.0 key port new ports new_ports is_free fit there refl parts.2

parts_over : {T U : Type 0} (found : Option ℕ) (place at key : ℕ) (port new : SubscriberPort)
    (ports new_ports : List (ℕ × PublisherPort T U)) (is_free : Bool) → KeysFit port → get_or port.places.items place None ≡ Some key
    → slice_get port.expired.items at ≡ found
    → PartsOver found at key port ports is_free new new_ports → PartsSo place is_free port new
parts_over None place at key port new ports new_ports is_free fit there found parts
    = parts_borrowed (is_unborrowed port ports key) place key port new ports new_ports is_free fit there parts
parts_over (Some out) place at key port new ports new_ports is_free fit there found parts
    = freed place is_free port new parts.0 (parted_replaced place key at out port new fit there found parts.1)

parts_if : {T U : Type 0} (idle full : Bool) (place key : ℕ) (port new : SubscriberPort)
    (ports new_ports : List (ℕ × PublisherPort T U)) (is_free : Bool) → KeysFit port → get_or port.places.items place None ≡ Some key
    → nat_le port.expired.room (length port.expired.items) ≡ full
    → PartsIf idle full key port ports is_free new new_ports → PartsSo place is_free port new
parts_if true full place key port new ports new_ports is_free fit there is_full parts
    = freed place is_free port new parts.0 (parted_ended place key port new fit there parts.1)
parts_if false false place key port new ports new_ports is_free fit there is_full parts
    = freed place is_free port new parts.0 (parted_expired place key port new fit there (grind (arith, is_full)) parts.1)
parts_if false true place key port new ports new_ports is_free fit there is_full parts
    = parts_over (slice_get port.expired.items parts.0) place parts.0 key port new ports new_ports is_free fit there refl parts.2

pub parts_so : {T U : Type 0} (place key : ℕ) (port new : SubscriberPort) (ports new_ports : List (ℕ × PublisherPort T U))
    (is_free : Bool) → KeysFit port → get_or port.places.items place None ≡ Some key → Parts key port ports is_free new new_ports
    → PartsSo place is_free port new
parts_so place key port new ports new_ports is_free fit there parts =
    parts_if (is_idle port ports key) (nat_le port.expired.room (length port.expired.items)) place key port new ports new_ports is_free
    fit there refl parts

-- What is in order after a step that keeps the number of places.
pub record Goes (old new : SubscriberPort) : Type 0 where
  pub fit : KeysFit new
  pub room : new.places.room ≡ old.places.room

pub goes_same : (old new : SubscriberPort) → KeysFit old → new.connections ≡ old.connections → new.places ≡ old.places
    → new.expired ≡ old.expired → Goes old new
goes_same old new fit connections places expired =
    let tally = subst (λ table. Tallied (among new.places.items new.expired.items) table) (sym connections)
    (retallied (among old.places.items old.expired.items) (among new.places.items new.expired.items) old.connections
    (λ key. omega (arith, ap (λ all. how_often key (keys_at all.items)) places, ap (λ all. how_often key all.items) expired))
    (tally_of old fit)) in
    record {
      fit = fit_of old new fit (record {
        tally = tally;
        values = ap (λ table. length table.values) connections;
        room = ap (λ all. all.room) places;
        expired_room = ap (λ all. all.room) expired;
        places = omega (arith, fit.places, ap (λ all. length all.items) places);
        expired = omega (arith, fit.expired, ap (λ all. length all.items) expired);
      });
      room = ap (λ all. all.room) places;
    }

pub goes_on : (old between new : SubscriberPort) → Goes old between → Goes between new → Goes old new
goes_on old between new one two = record { fit = two.fit; room = two.room ∙ one.room }

-- the place of one that parted has none
pub goes_unplaced : (place : ℕ) (old between : SubscriberPort) → KeysFit old → Parted place old between → Goes old (unplaced place between)
goes_unplaced place old between fit parted =
    let items : between.places.items ≡ old.places.items = ap (λ all. all.items) parted.places in
    record {
      fit = fit_of old (unplaced place between) fit (record {
        tally = retallied (among (set old.places.items place None) between.expired.items)
            (among (set between.places.items place None) between.expired.items) between.connections
            (λ key. ap (λ all. among (set all place None) between.expired.items key) items) parted.tally;
        values = parted.values;
        room = ap (λ all. all.room) parted.places;
        expired_room = parted.room;
        places = omega (arith, fit.places, length-set between.places.items place None, ap (λ all. length all) items);
        expired = parted.expired;
      });
      room = ap (λ all. all.room) parted.places;
    }

-- a connection comes to a place where there was none
goes_kept : (place key : ℕ) (attached : Attached) (port : SubscriberPort) → KeysFit port → get_or port.places.items place None ≡ None
    → place < port.places.room → slice_get port.connections.free 0 ≡ Some key → Goes port (kept_at place key attached port)
goes_kept place key attached port fit none within first =
    let more : ℕ = place + 1 - length port.places.items in
    let items : List (Option ℕ) = reached (place + 1) port.places.items in
    let long : length items ≡ length port.places.items + more
    = length-append port.places.items (replicate more None) ∙ ap (λ n. length port.places.items + n)
    (length-replicate more (let none : Option ℕ = None in none)) in
    let empty : get_or items place None ≡ None = still port.places.items more place ∙ none in
    record {
      fit = fit_of port (kept_at place key attached port) fit (record {
        tally = stored_tally (among port.places.items port.expired.items) (among (set items place (Some key)) port.expired.items) key
            attached port.connections first
            (λ k. omega (
              arith,
              keys_tied k place key items (omega (arith, long)) empty,
              ap (λ all. how_often k all)
                  (keys_reached more port.places.items),
            )) (tally_of port fit);
        values = length-set port.connections.values key (Some attached);
        room = refl;
        expired_room = refl;
        places = omega (arith, length-set items place (Some key), long, within, fit.places);
        expired = fit.expired;
      });
      room = refl;
    }

goes_by : (place number : ℕ) (answer : Option (Result ℕ AllocError)) (port new : SubscriberPort) → KeysFit port
    → get_or port.places.items place None ≡ None → place < port.places.room → ConnectsBy place number answer port new → Goes port new
goes_by place number None port new fit none within connects
    = goes_same port new fit (ap (λ one. one.connections) connects) (ap (λ one. one.places) connects) (ap (λ one. one.expired) connects)
goes_by place number (Some (Err error)) port new fit none within connects = absurd connects
goes_by place number (Some (Ok index)) port new fit none within (key, first, is)
    = rw is (goes_kept place key (record { publisher = number; index = index }) port fit none within first)

pub goes_connected : {T U : Type 0} (place number : ℕ) (port new : SubscriberPort) (ports new_ports : List (ℕ × PublisherPort T U))
    (outcome : Result (Unit {0}) ZeroCopyCreationError) → KeysFit port → get_or port.places.items place None ≡ None
    → place < port.places.room
    → Connects place number port ports outcome new new_ports → Goes port new
goes_connected place number port new ports new_ports (Err failure) fit none within connects
    = goes_same port new fit (ap (λ one. one.connections) connects.2) (ap (λ one. one.places) connects.2)
    (ap (λ one. one.expired) connects.2)
goes_connected place number port new ports new_ports (Ok done) fit none within connects
    = goes_by place number connects.0 port new fit none within connects.2

-- a place without a connection finds a key
pub key_left : (place : ℕ) (port : SubscriberPort) → KeysFit port → get_or port.places.items place None ≡ None
    → place < port.places.room → port.connections.free ≢ []
key_left place port fit none within empty =
    let full : length port.connections.values ≤ length (keys_of port)
    = as_long (length port.connections.values) (keys_of port) (λ key below. filled key below (attached_at key port) refl) in
    absurd (omega (
      arith,
      full,
      length-append (keys_at port.places.items) port.expired.items,
      fit.room,
      fit.expired,
      few
          (nat_lt place (length port.places.items)) refl,
    ))
  where
    filled : (key : ℕ) → key < length port.connections.values → (found : Option Attached) → attached_at key port ≡ found
        → 0 < how_often key (keys_of port)
    filled key below None is = absurd (omega (arith, fit.unused key below is, ap (λ all. how_often key all) empty))
    filled key below (Some attached) is = omega (arith, fit.used key, ap (λ one. held one) is)

    few : (there : Bool) → nat_lt place (length port.places.items) ≡ there → length (keys_at port.places.items) < port.places.room
    few true is = omega (arith, keys_fewer place port.places.items (grind (arith, is)) none, fit.places)
    few false is =
        let past : length port.places.items ≤ place = grind (arith, is) in
        omega (arith, past, within, keys_few_here port.places.items)
      where
        keys_few_here : (places : List (Option ℕ)) → length (keys_at places) ≤ length places
        keys_few_here [] = omega arith
        keys_few_here (None ∷ places) = omega (arith, keys_few_here places)
        keys_few_here (Some key ∷ places) = omega (arith, keys_few_here places)

-- an expired connection ends
pub goes_dropped : (at : ℕ) (found : Option ℕ) (port : SubscriberPort) → KeysFit port → slice_get port.expired.items at ≡ found
    → Goes port (dropped_port at found port)
goes_dropped at None port fit is = goes_same port port fit refl refl refl
goes_dropped at (Some out) port fit is =
    let rest = ended_rest out (attached_at out port) port in
    let dropped = dropped_tally at out port fit is in
    let places : (dropped_port at (Some out) port).places ≡ port.places = rest.0 in
    record {
      fit = fit_of port (dropped_port at (Some out) port) fit (record {
        tally = subst (λ all. Tallied (among all.items (remove port.expired.items at)) (dropped_port at (Some out) port).connections)
            (sym places) dropped.0;
        values = dropped.1;
        room = ap (λ all. all.room) places;
        expired_room = refl;
        places = omega (arith, fit.places, ap (λ all. length all.items) places);
        expired = omega (arith, fit.expired, length_remove at out port.expired.items is);
      });
      room = ap (λ all. all.room) places;
    }

goes_either : {T U : Type 0} (test : Bool) (port : SubscriberPort) (one other : SubscriberPort × List (ℕ × PublisherPort T U))
    → Goes port one.0 → Goes port other.0 → Goes port (if test then one else other).0
goes_either true port one other goes_one goes_other = goes_one
goes_either false port one other goes_one goes_other = goes_other

pub goes_swept : {T U : Type 0} (place count : ℕ) (port : SubscriberPort) (ports : List (ℕ × PublisherPort T U)) → KeysFit port
    → Goes port (swept place count (port, ports)).0
goes_swept place zero port ports fit = goes_same port port fit refl refl refl
goes_swept place (suc count) port ports fit =
    let key = slice_get port.expired.items place in
    let dropped = goes_dropped place key port fit refl in
    goes_either (is_idle_at key port ports) port (swept place count (dropped_port place key port, dropped_ports key port ports))
    (swept (place + 1) count (port, ports))
    (goes_on port (dropped_port place key port) _ dropped
    (goes_swept place count (dropped_port place key port) (dropped_ports key port ports) dropped.fit))
    (goes_swept (place + 1) count port ports fit)

-- a place that lists none is followed
goes_freed : (is_free : Bool) (place : ℕ) (old between : SubscriberPort) → KeysFit old → PartsSo place is_free old between
    → Goes old (freed_if is_free place between)
goes_freed true place old between fit so = goes_unplaced place old between fit (so.parted refl)
goes_freed false place old between fit so = let is
    = so.stays refl in goes_same old between fit (ap (λ one. one.connections) is) (ap (λ one. one.places) is) (ap (λ one. one.expired) is)

pub goes_none_at : {T U : Type 0} (found : Option ℕ) (place : ℕ) (port new : SubscriberPort)
    (ports new_ports : List (ℕ × PublisherPort T U)) → KeysFit port → get_or port.places.items place None ≡ found
    → FollowsNoneAt found place port ports new new_ports → Goes port new
goes_none_at None place port new ports new_ports fit there follows
    = goes_same port new fit (ap (λ one. one.connections) follows.0) (ap (λ one. one.places) follows.0) (ap (λ one. one.expired) follows.0)
goes_none_at (Some key) place port new ports new_ports fit there (is_free, between, parts, is) =
    rw is (goes_freed is_free place port between fit (parts_so place key port between ports new_ports is_free fit there parts))

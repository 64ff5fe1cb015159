-- A subscriber that follows the list of publishers and receives reads apart still, and so does each other.
use Rattle.std.proofs.Common.{arith, ◌≡◌, ◌≢◌, ◌∙◌, ◌+◌, ◌-◌, ◌==◌, ◌&&◌, ◌⊎◌, ◌∷◌, [], ℕ, zero, suc, Bool, true, false, not, List}
use Rattle.std.proofs.Common.{get_or, length, set, slice_get, nat_le, is_some, Option, None, Some, Result, Ok, Err, if◌then◌else◌, refl}
use Rattle.std.proofs.Common.{sym, ap, subst, inl, inr}
use Rattle.std.proofs.lemmas.Bool.{cases_eq, cases_lt, eq-eqb}
use Rattle.std.proofs.lemmas.List.{get_or-set_other, get_or-set_same, get_or_past, length-set}
use Rattle.std.specs.List.{All}
use Rattle.std.specs.declared.alloc.AllocError.{AllocError}
use Rattle.iox_domain.specs.Container.declared.container.Member.{Member}
use Rattle.iox_domain.specs.Container.SlotTable.{value_at}
use Rattle.iox_domain.specs.Rolls.{RollState, IsListOf}
use Rattle.iox_domain.specs.DomainPorts.Places.{reached}
use Rattle.iox_domain.specs.DomainPorts.declared.publisher_port.PublisherPort.{PublisherPort}
use Rattle.iox_domain.specs.DomainPorts.Following.{is_unborrowed, is_of, expired_port, replaced_port, PartsFor, PartsBorrowed, PartsOver}
use Rattle.iox_domain.specs.DomainPorts.Following.{PartsIf, Parts, kept_at, ConnectsBy, Connects, unplaced, FollowsFreed, FollowsKey}
use Rattle.iox_domain.specs.DomainPorts.Following.{FollowsAt, freed_if, FollowsNoneAt}
use Rattle.iox_domain.specs.DomainPorts.Publishers.{port_of, AttachesTo}
use Rattle.iox_domain.specs.DomainPorts.Receiving.{is_idle_at, dropped_port, dropped_ports, swept, given_ports, Serves}
use Rattle.iox_domain.specs.DomainPorts.Subscribing.{attached_at, is_idle, without_key, ended_key, ended_ports, taken_ports}
use Rattle.iox_domain.specs.DomainPorts.SubscriberUpdating.{FollowsOne, FollowsFrom, FollowsNoneIf, FollowsNones, UpdatesIf, Updates}
use Rattle.iox_domain.specs.DomainPorts.SubscriberUpdating.{ReceivesAfter, ReceivesNext}
use Rattle.iox_domain.specs.DomainPorts.SubscriberUpdating as updating
use Rattle.iox_domain.specs.DomainPorts.declared.attached.Attached.{Attached}
use Rattle.iox_domain.specs.DomainPorts.declared.attached.Taken.{Taken}
use Rattle.iox_domain.specs.DomainPorts.declared.publisher_entry.PublisherEntry.{PublisherEntry}
use Rattle.iox_domain.specs.DomainPorts.declared.subscriber_port.SubscriberPort.{SubscriberPort}
use Rattle.iox_domain.specs.DomainValues.declared.connection_failure.ConnectionFailure.{ConnectionFailure}
use Rattle.iox_domain.specs.DomainValues.declared.connection_failure.ZeroCopyCreationError.{ZeroCopyCreationError}
use Rattle.iox_domain.specs.DomainValues.declared.degradation.DegradationAction.{DegradationAction}
use Rattle.iox_domain.specs.DomainValues.declared.degradation.DegradationInfo.{DegradationInfo}
use Rattle.iox_domain.specs.DomainValues.declared.port_error.ReceiveError.{ReceiveError}
use Rattle.iox_domain.proofs.TiedWell.{gone_there, still_there, long_enough}
use Rattle.iox_domain.specs.Roomy.{IsListOnce, IsAttached, LeadsOnEntry}
use Rattle.iox_domain.proofs.Naming.{reads_same}
use Rattle.iox_domain.proofs.Reading.{attached_ended, leads_ended, attached_taken, leads_taken, attached_then, leads_then, is_attached_then}

-- A subscriber reads from each of its connections, no two of its keys belong to the same publisher, and the key of the connection to
-- a listed publisher is the key of its place.
pub record Reads {T U : Type 0} (subscriber : ℕ) (places : List (Option (Member PublisherEntry))) (port : SubscriberPort)
    (ports : List (ℕ × PublisherPort T U)) : Type 0 where
  pub named : port.number ≡ subscriber
  pub lead : All LeadsOnEntry ports
  pub reads : (key : ℕ) (attached : Attached) → attached_at key port ≡ Some attached → IsAttached subscriber attached ports
  pub apart : (key other : ℕ) (one two : Attached) → attached_at key port ≡ Some one → attached_at other port ≡ Some two
      → one.publisher ≡ two.publisher → key ≡ other
  pub placed : (key place : ℕ) (attached : Attached) (member : Member PublisherEntry) → attached_at key port ≡ Some attached
      → get_or places place None ≡ Some member
      → attached.publisher ≡ member.value.publisher → get_or port.places.items place None ≡ Some key

-- The effect of a step of a subscriber: it still reads in this way, and each other subscriber reads where it did.
pub record Done {T U : Type 0} (subscriber : ℕ) (places : List (Option (Member PublisherEntry))) (port : SubscriberPort)
    (ports : List (ℕ × PublisherPort T U)) (new : SubscriberPort) (new_ports : List (ℕ × PublisherPort T U)) : Type 0 where
  pub state : Reads subscriber places new new_ports
  pub others : (other : ℕ) (attached : Attached) → other ≢ subscriber → IsAttached other attached ports
      → IsAttached other attached new_ports
  pub stands : new.stands ≡ port.stands
  pub place : new.place ≡ port.place

done_on : {T U : Type 0} (subscriber : ℕ) (places : List (Option (Member PublisherEntry))) (port between new : SubscriberPort)
    (ports between_ports new_ports : List (ℕ × PublisherPort T U))
    → Done subscriber places port ports between between_ports → Done subscriber places between between_ports new new_ports
    → Done subscriber places port ports new new_ports
done_on subscriber places port between new ports between_ports new_ports one two = record {
  state = two.state;
  others = λ other attached not reads. two.others other attached not (one.others other attached not reads);
  stands = two.stands ∙ one.stands;
  place = two.place ∙ one.place;
}

-- nothing changed that matters here
record Alike (port new : SubscriberPort) : Type 0 where
  connections : new.connections ≡ port.connections
  places : new.places ≡ port.places
  number : new.number ≡ port.number
  stands : new.stands ≡ port.stands
  place : new.place ≡ port.place

alike_is : (port new : SubscriberPort) → new ≡ port → Alike port new
alike_is port new is = record {
  connections = ap (λ one. one.connections) is;
  places = ap (λ one. one.places) is;
  number = ap (λ one. one.number) is;
  stands = ap (λ one. one.stands) is;
  place = ap (λ one. one.place) is;
}

alike_to : (port between new : SubscriberPort) → Alike port between → new ≡ between → Alike port new
alike_to port between new alike is = record {
  connections = ap (λ one. one.connections) is ∙ alike.connections;
  places = ap (λ one. one.places) is ∙ alike.places;
  number = ap (λ one. one.number) is ∙ alike.number;
  stands = ap (λ one. one.stands) is ∙ alike.stands;
  place = ap (λ one. one.place) is ∙ alike.place;
}

done_alike : {T U : Type 0} (subscriber : ℕ) (places : List (Option (Member PublisherEntry))) (port new : SubscriberPort)
    (ports new_ports : List (ℕ × PublisherPort T U)) → Alike port new → new_ports ≡ ports → Reads subscriber places port ports
    → Done subscriber places port ports new new_ports
done_alike {T} {U} subscriber places port new ports new_ports alike are state =
    let back : (key : ℕ) (attached : Attached) → attached_at key new ≡ Some attached
    → attached_at key port ≡ Some attached = λ key attached is. ap (λ keys. value_at keys.values key) (sym alike.connections) ∙ is in
    rw are (record {
      state = record {
        named = alike.number ∙ state.named;
        lead = state.lead;
        reads = λ key attached is. state.reads key attached (back key attached is);
        apart = λ key other one two is_key is_other same. state.apart key other one two (back key one is_key) (back other two is_other)
            same;
        placed = λ key place attached member is there same. ap (λ ties. get_or ties.items place None) alike.places ∙ state.placed key
            place attached member (back key attached is) there same;
      };
      others = λ other attached not reads. reads;
      stands = alike.stands;
      place = alike.place;
    })

done_same : {T U : Type 0} (subscriber : ℕ) (places : List (Option (Member PublisherEntry))) (port new : SubscriberPort)
    (ports new_ports : List (ℕ × PublisherPort T U)) → new ≡ port → new_ports ≡ ports → Reads subscriber places port ports
    → Done subscriber places port ports new new_ports
done_same subscriber places port new ports new_ports is are state
    = done_alike subscriber places port new ports new_ports (alike_is port new is) are state

-- The effect of a parting: fewer keys, and the same places.
record Parted {T U : Type 0} (subscriber : ℕ) (places : List (Option (Member PublisherEntry))) (port : SubscriberPort)
    (ports : List (ℕ × PublisherPort T U)) (new : SubscriberPort) (new_ports : List (ℕ × PublisherPort T U)) : Type 0 where
  done : Done subscriber places port ports new new_ports
  fewer : (key : ℕ) (attached : Attached) → attached_at key new ≡ Some attached → attached_at key port ≡ Some attached

parted_alike : {T U : Type 0} (subscriber : ℕ) (places : List (Option (Member PublisherEntry))) (port new : SubscriberPort)
    (ports new_ports : List (ℕ × PublisherPort T U)) → Alike port new → new_ports ≡ ports → Reads subscriber places port ports
    → Parted subscriber places port ports new new_ports
parted_alike subscriber places port new ports new_ports alike are state = record {
  done = done_alike subscriber places port new ports new_ports alike are state;
  fewer = λ key attached is. ap (λ keys. value_at keys.values key) (sym alike.connections) ∙ is;
}

parted_on : {T U : Type 0} (subscriber : ℕ) (places : List (Option (Member PublisherEntry))) (port between new : SubscriberPort)
    (ports between_ports new_ports : List (ℕ × PublisherPort T U))
    → Parted subscriber places port ports between between_ports → Parted subscriber places between between_ports new new_ports
    → Parted subscriber places port ports new new_ports
parted_on subscriber places port between new ports between_ports new_ports one two = record {
  done = done_on subscriber places port between new ports between_ports new_ports one.done two.done;
  fewer = λ key attached is. one.fewer key attached (two.fewer key attached is);
}

-- a connection ends
still_held : (values : List (Option Attached)) (gone key : ℕ) (attached : Attached)
    → value_at (set values gone None) key ≡ Some attached → (key ≢ gone) × (value_at values key ≡ Some attached)
still_held values gone key attached is = elim (cases_eq key gone) [
  | inl same ↦
      let none : value_at (set values gone None) gone ≡ None = gone_there values gone in
      let no : None ≡ Some attached = sym none ∙ ap (λ k. value_at (set values gone None) k) (sym same) ∙ is in absurd (cc)
  | inr not ↦ (not, sym (get_or-set_other values gone key None None not) ∙ is)
]

parted_without : {T U : Type 0} (subscriber : ℕ) (places : List (Option (Member PublisherEntry))) (key : ℕ) (found : Option Attached)
    (port : SubscriberPort) (ports : List (ℕ × PublisherPort T U)) → attached_at key port ≡ found → Reads subscriber places port ports
    → Parted subscriber places port ports (without_key key found port) (ended_ports found ports)
parted_without subscriber places key None port ports there state
    = parted_alike subscriber places port port ports ports (alike_is port port refl) refl state
parted_without subscriber places key (Some gone) port ports there state =
    let still = still_held port.connections.values key in
    record {
      done = record {
        state = record {
          named = state.named;
          lead = leads_ended gone ports state.lead;
          reads = λ one attached is.
              let was = still one attached is in
              attached_ended subscriber attached gone ports
              (λ same. was.0 (state.apart one key gone gone (was.1 ∙ ap (λ a. Some a) same) there refl))
              (state.reads one attached was.1);
          apart = λ key other one two is_key is_other same. state.apart key other one two (still key one is_key).1
              (still other two is_other).1 same;
          placed = λ one place attached member is listed same. state.placed one place attached member (still one attached is).1 listed same;
        };
        others = λ other attached not reads.
            attached_ended other attached gone ports
            (λ same. not (reads_same other subscriber gone ports (subst (λ a. IsAttached other a ports) same reads)
            (state.reads key gone there))) reads;
        stands = refl;
        place = refl;
      };
      fewer = λ one attached is. (still one attached is).1;
    }

parted_to : {T U : Type 0} (subscriber : ℕ) (places : List (Option (Member PublisherEntry))) (key : ℕ) (port new : SubscriberPort)
    (ports new_ports : List (ℕ × PublisherPort T U)) → Alike (ended_key key port) new → new_ports ≡ ended_ports (attached_at key port) ports
    → Reads subscriber places port ports → Parted subscriber places port ports new new_ports
parted_to subscriber places key port new ports new_ports alike are state =
    let one = parted_without subscriber places key (attached_at key port) port ports refl state in
    parted_on subscriber places port (ended_key key port) new ports (ended_ports (attached_at key port) ports) new_ports one
    (parted_alike subscriber places (ended_key key port) new (ended_ports (attached_at key port) ports) new_ports alike are one.done.state)

-- a connection parts
alike_dropped : (key place : ℕ) (port : SubscriberPort) → Alike (ended_key key port) (dropped_port place (Some key) port)
alike_dropped key place port = record { connections = refl; places = refl; number = refl; stands = refl; place = refl }

replaced_alike : (place out key : ℕ) (port new : SubscriberPort) → new ≡ replaced_port place out key port → Alike (ended_key out port) new
replaced_alike place out key port new is =
    alike_to (ended_key out port) (replaced_port place out key port) new
    (record { connections = refl; places = refl; number = refl; stands = refl; place = refl }) is

parted_for : {T U : Type 0} (subscriber : ℕ) (places : List (Option (Member PublisherEntry))) (found : Option ℕ) (place key : ℕ)
    (port new : SubscriberPort) (ports new_ports : List (ℕ × PublisherPort T U)) (is_free : Bool)
    → PartsFor found place key port ports is_free new new_ports → Reads subscriber places port ports
    → Parted subscriber places port ports new new_ports
parted_for subscriber places None place key port new ports new_ports is_free parts state
    = parted_alike subscriber places port new ports new_ports (alike_is port new parts.1) parts.2 state
parted_for subscriber places (Some out) place key port new ports new_ports is_free parts state
    = parted_to subscriber places out port new ports new_ports (replaced_alike place out key port new parts.1) parts.2 state

parted_borrowed : {T U : Type 0} (subscriber : ℕ) (places : List (Option (Member PublisherEntry))) (unborrowed : Bool) (key : ℕ)
    (port new : SubscriberPort) (ports new_ports : List (ℕ × PublisherPort T U)) (is_free : Bool)
    → PartsBorrowed unborrowed key port ports is_free new new_ports → Reads subscriber places port ports
    → Parted subscriber places port ports new new_ports
parted_borrowed subscriber places true key port new ports new_ports is_free parts state
    = parted_to subscriber places key port new ports new_ports (alike_is (ended_key key port) new parts.1) parts.2 state
parted_borrowed subscriber places false key port new ports new_ports is_free (place, met, parts) state
    = parted_for subscriber places (slice_get port.expired.items place) place key port new ports new_ports is_free parts state

parted_over : {T U : Type 0} (subscriber : ℕ) (places : List (Option (Member PublisherEntry))) (found : Option ℕ) (place key : ℕ)
    (port new : SubscriberPort) (ports new_ports : List (ℕ × PublisherPort T U)) (is_free : Bool)
    → PartsOver found place key port ports is_free new new_ports → Reads subscriber places port ports
    → Parted subscriber places port ports new new_ports
parted_over subscriber places None place key port new ports new_ports is_free parts state
    = parted_borrowed subscriber places (is_unborrowed port ports key) key port new ports new_ports is_free parts state
parted_over subscriber places (Some out) place key port new ports new_ports is_free parts state
    = parted_to subscriber places out port new ports new_ports (replaced_alike place out key port new parts.1) parts.2 state

parted_if : {T U : Type 0} (subscriber : ℕ) (places : List (Option (Member PublisherEntry))) (idle full : Bool) (key : ℕ)
    (port new : SubscriberPort) (ports new_ports : List (ℕ × PublisherPort T U)) (is_free : Bool)
    → PartsIf idle full key port ports is_free new new_ports → Reads subscriber places port ports
    → Parted subscriber places port ports new new_ports
parted_if subscriber places true full key port new ports new_ports is_free parts state
    = parted_to subscriber places key port new ports new_ports (alike_is (ended_key key port) new parts.1) parts.2 state
parted_if subscriber places false false key port new ports new_ports is_free parts state =
    parted_alike subscriber places port new ports new_ports
    (alike_to port (expired_port key port) new
    (record { connections = refl; places = refl; number = refl; stands = refl; place = refl }) parts.1) parts.2 state
parted_if subscriber places false true key port new ports new_ports is_free (place, met, parts) state
    = parted_over subscriber places (slice_get port.expired.items place) place key port new ports new_ports is_free parts state

parted : {T U : Type 0} (subscriber : ℕ) (places : List (Option (Member PublisherEntry))) (key : ℕ) (port new : SubscriberPort)
    (ports new_ports : List (ℕ × PublisherPort T U)) (is_free : Bool) → Parts key port ports is_free new new_ports
    → Reads subscriber places port ports
    → Parted subscriber places port ports new new_ports
parted subscriber places key port new ports new_ports is_free parts state =
    parted_if subscriber places (is_idle port ports key) (nat_le port.expired.room (length port.expired.items)) key port new ports
    new_ports is_free parts state

-- none of its connections is to this publisher
abbrev HasNone : ℕ → SubscriberPort → Type 0
HasNone number port = (key : ℕ) (attached : Attached) → attached_at key port ≡ Some attached → attached.publisher ≢ number

-- the subscriber attaches to a publisher to which it has no connection, at the place where that is listed
now_held : (values : List (Option Attached)) (new key : ℕ) (came attached : Attached)
    → value_at (set values new (Some came)) key ≡ Some attached → ((key ≡ new) × (attached ≡ came))
    ⊎ ((key ≢ new) × (value_at values key ≡ Some attached))
now_held values new key came attached is = elim (cases_eq key new) [
  | inl same ↦
      let here : value_at (set values new (Some came)) new ≡ Some attached
      = ap (λ k. value_at (set values new (Some came)) k) (sym same) ∙ is in
      elim (cases_lt new (length values)) [
        | inl within ↦
            let both : Some came ≡ Some attached = sym (get_or-set_same values new (Some came) None within) ∙ here in
            let own : attached ≡ came = cc in
            inl (same, own)
        | inr past ↦
            let none : value_at (set values new (Some came)) new ≡ None
            = get_or_past (set values new (Some came)) new None (omega (arith, past, length-set values new (Some came))) in
            let no : None ≡ Some attached = sym none ∙ here in absurd (cc)
      ]
  | inr not ↦ inr (not, sym (get_or-set_other values new key (Some came) None not) ∙ is)
]

abbrev ties_items : ℕ → SubscriberPort → List (Option ℕ)
ties_items place port = reached (place + 1) port.places.items

done_kept : {T U : Type 0} (subscriber next : ℕ) (places : List (Option (Member PublisherEntry))) (place number index key : ℕ)
    (member : Member PublisherEntry) (port : SubscriberPort) (ports new_ports : List (ℕ × PublisherPort T U)) → IsListOnce next places
    → get_or places place None ≡ Some member → member.value.publisher ≡ number → HasNone number port
    → AttachesTo number port.number port.buffer_size ports (Some (Ok index)) new_ports → Reads subscriber places port ports
    → Done subscriber places port ports (kept_at place key (record { publisher = number; index = index }) port) new_ports
done_kept {T} {U} subscriber next places place number index key member port ports new_ports once listed is_member none attaches state =
    let came : Attached = record { publisher = number; index = index } in
    let new : SubscriberPort = kept_at place key came port in
    let on : (other : ℕ) (attached : Attached) → IsAttached other attached ports → IsAttached other attached new_ports = λ other attached.
    attached_then other attached number port.number port.buffer_size (port_of number ports) ports new_ports (Some (Ok index)) refl
    attaches in
    let named : (one : ℕ) (attached : Attached) → attached_at one new ≡ Some attached → ((one ≡ key) × (attached ≡ came))
    ⊎ ((one ≢ key) × (attached_at one port ≡ Some attached)) = λ one attached. now_held port.connections.values key one came attached in
    let here : get_or new.places.items place None ≡ Some key
    = get_or-set_same (ties_items place port) place (Some key) None (omega (arith, long_enough port.places.items (place + 1))) in
    let there : (other : ℕ) → other ≢ place → get_or new.places.items other None ≡ get_or port.places.items other None = λ other not.
    get_or-set_other (ties_items place port) place other (Some key) None not ∙ still_there port.places.items
    (place + 1 - length port.places.items) other in
    record {
      state = record {
        named = state.named;
        lead = leads_then number port.number port.buffer_size (port_of number ports) ports new_ports (Some (Ok index)) refl attaches
            state.lead;
        reads = λ one attached is. elim (named one attached is) [
          | inl own ↦
              subst (λ a. IsAttached subscriber a new_ports) (sym own.1)
              (subst (λ n. IsAttached n came new_ports) state.named
              (is_attached_then number port.number port.buffer_size index (port_of number ports) ports new_ports refl attaches
              state.lead))
          | inr was ↦ on subscriber attached (state.reads one attached was.1)
        ];
        apart = λ first second one two is_first is_second same. elim (named first one is_first) [
          | inl own ↦ elim (named second two is_second) [
            | inl other ↦ own.0 ∙ sym other.0
            | inr was ↦ absurd (none second two was.1 (sym same ∙ ap (λ a. a.publisher) own.1))
          ]
          | inr was ↦ elim (named second two is_second) [
            | inl own ↦ absurd (none first one was.1 (same ∙ ap (λ a. a.publisher) own.1))
            | inr other ↦ state.apart first second one two was.1 other.1 same
          ]
        ];
        placed = λ one at attached second is is_listed same. elim (named one attached is) [
          | inl own ↦
              let at_place : at ≡ place = once.apart at place second member is_listed listed
              (sym same ∙ ap (λ a. a.publisher) own.1 ∙ sym is_member) in
              ap (λ p. get_or new.places.items p None) at_place ∙ here ∙ ap (λ k. Some k) (sym own.0)
          | inr was ↦ elim (cases_eq at place) [
            | inl at_place ↦
                let both : Some second ≡ Some member = sym is_listed ∙ ap (λ p. get_or places p None) at_place ∙ listed in
                let own : second ≡ member = cc in
                absurd (none one attached was.1 (same ∙ ap (λ (m : Member PublisherEntry). m.value.publisher) own ∙ is_member))
            | inr not ↦ there at not ∙ state.placed one at attached second was.1 is_listed same
          ]
        ];
      };
      others = λ other attached not reads. on other attached reads;
      stands = refl;
      place = refl;
    }

done_by : {T U : Type 0} (subscriber next : ℕ) (places : List (Option (Member PublisherEntry))) (place number : ℕ)
    (member : Member PublisherEntry) (answer : Option (Result ℕ AllocError)) (port new : SubscriberPort)
    (ports new_ports : List (ℕ × PublisherPort T U)) → IsListOnce next places
    → get_or places place None ≡ Some member → member.value.publisher ≡ number → HasNone number port
    → AttachesTo number port.number port.buffer_size ports answer new_ports → ConnectsBy place number answer port new
    → Reads subscriber places port ports
    → Done subscriber places port ports new new_ports
done_by subscriber next places place number member (Some (Err error)) port new ports new_ports once listed is_member none attaches
    connects state = absurd connects
done_by subscriber next places place number member (Some (Ok index)) port new ports new_ports once listed is_member none attaches
    (key, first, is) state =
    rw is (done_kept subscriber next places place number index key member port ports new_ports once listed is_member none attaches state)
done_by subscriber next places place number member None port new ports new_ports once listed is_member none attaches connects state =
    let on : (other : ℕ) (attached : Attached) → IsAttached other attached ports → IsAttached other attached new_ports = λ other attached.
    attached_then other attached number port.number port.buffer_size (port_of number ports) ports new_ports None refl attaches in
    rw connects (record {
      state = record {
        named = state.named;
        lead = leads_then number port.number port.buffer_size (port_of number ports) ports new_ports None refl attaches state.lead;
        reads = λ key attached is. on subscriber attached (state.reads key attached is);
        apart = state.apart;
        placed = state.placed;
      };
      others = λ other attached not reads. on other attached reads;
      stands = refl;
      place = refl;
    })

done_connects : {T U : Type 0} (subscriber next : ℕ) (places : List (Option (Member PublisherEntry))) (place number : ℕ)
    (member : Member PublisherEntry) (port new : SubscriberPort) (ports new_ports : List (ℕ × PublisherPort T U))
    (answer : Result (Unit {0}) ZeroCopyCreationError)
    → IsListOnce next places → get_or places place None ≡ Some member → member.value.publisher ≡ number → HasNone number port
    → Connects place number port ports answer new new_ports → Reads subscriber places port ports
    → Done subscriber places port ports new new_ports
done_connects subscriber next places place number member port new ports new_ports (Err failure) once listed is_member none connects
    state = done_same subscriber places port new ports new_ports connects.2 connects.3 state
done_connects subscriber next places place number member port new ports new_ports (Ok done) once listed is_member none
    (answer, attaches, by) state =
    done_by subscriber next places place number member answer port new ports new_ports once listed is_member none attaches by state

-- no connection is at a place any longer, where none is to the publisher that is listed there
done_unplaced : {T U : Type 0} (subscriber : ℕ) (places : List (Option (Member PublisherEntry))) (place : ℕ) (port : SubscriberPort)
    (ports : List (ℕ × PublisherPort T U))
    → ((member : Member PublisherEntry) → get_or places place None ≡ Some member → HasNone member.value.publisher port)
    → Reads subscriber places port ports → Done subscriber places port ports (unplaced place port) ports
done_unplaced subscriber places place port ports none state = record {
  state = record {
    named = state.named;
    lead = state.lead;
    reads = state.reads;
    apart = state.apart;
    placed = λ key at attached member is listed same. elim (cases_eq at place) [
      | inl here ↦ absurd (none member (ap (λ p. get_or places p None) (sym here) ∙ listed) key attached is same)
      | inr not ↦ get_or-set_other port.places.items place at None None not ∙ state.placed key at attached member is listed same
    ];
  };
  others = λ other attached not reads. reads;
  stands = refl;
  place = refl;
}

-- a place is followed
done_freed : {T U : Type 0} (subscriber next : ℕ) (places : List (Option (Member PublisherEntry))) (is_free : Bool) (place number : ℕ)
    (member : Member PublisherEntry) (port new : SubscriberPort) (ports new_ports : List (ℕ × PublisherPort T U))
    (answer : Result (Unit {0}) ZeroCopyCreationError) → IsListOnce next places → get_or places place None ≡ Some member
    → member.value.publisher ≡ number → HasNone number port → FollowsFreed is_free place number port ports answer new new_ports
    → Reads subscriber places port ports → Done subscriber places port ports new new_ports
done_freed subscriber next places false place number member port new ports new_ports answer once listed is_member none follows state =
    done_alike subscriber places port new ports new_ports
    (alike_to port (record port { again = true }) new
    (record { connections = refl; places = refl; number = refl; stands = refl; place = refl }) follows.1) follows.2 state
done_freed subscriber next places true place number member port new ports new_ports answer once listed is_member none follows state =
    let one = done_unplaced subscriber places place port ports (λ second is key attached held same.
    let both : Some second ≡ Some member = sym is ∙ listed in
    let own : second ≡ member = cc in
    none key attached held (same ∙ ap (λ (m : Member PublisherEntry). m.value.publisher) own ∙ is_member)) state in
    done_on subscriber places port (unplaced place port) new ports ports new_ports one
    (done_connects subscriber next places place number member (unplaced place port) new ports new_ports answer once listed is_member
    none follows one.state)

not_of : (number : ℕ) (found : Option Attached) (attached : Attached) → found ≡ Some attached → is_of number found ≡ false
    → attached.publisher ≢ number
not_of number found attached is not same =
    let no : true ≡ false = sym (eq-eqb attached.publisher number same) ∙ ap (λ one. is_of number one) (sym is) ∙ not in cc

done_key : {T U : Type 0} (subscriber next : ℕ) (places : List (Option (Member PublisherEntry))) (same : Bool) (key place number : ℕ)
    (member : Member PublisherEntry) (port new : SubscriberPort) (ports new_ports : List (ℕ × PublisherPort T U))
    (answer : Result (Unit {0}) ZeroCopyCreationError) → IsListOnce next places → get_or places place None ≡ Some member
    → member.value.publisher ≡ number → get_or port.places.items place None ≡ Some key → is_of number (attached_at key port) ≡ same
    → FollowsKey same key place number port ports answer new new_ports → Reads subscriber places port ports
    → Done subscriber places port ports new new_ports
done_key subscriber next places true key place number member port new ports new_ports answer once listed is_member there is follows
    state = done_same subscriber places port new ports new_ports follows.1 follows.2 state
done_key {T} {U} subscriber next places false key place number member port new ports new_ports answer once listed is_member there is
    (is_free, between, between_ports, parts, freed) state =
    let one : Parted subscriber places port ports between between_ports
    = parted subscriber places key port between ports between_ports is_free parts state in
    let none : HasNone number port = λ other attached held same.
    let own : Some key ≡ Some other = sym there ∙ state.placed other place attached member held listed (same ∙ sym is_member) in
    let is_key : other ≡ key = cc in
    not_of number (attached_at key port) attached (ap (λ k. attached_at k port) (sym is_key) ∙ held) is same in
    done_on subscriber places port between new ports between_ports new_ports one.done
    (done_freed subscriber next places is_free place number member between new between_ports new_ports answer once listed is_member
    (λ other attached held. none other attached (one.fewer other attached held)) freed one.done.state)

done_at : {T U : Type 0} (subscriber next : ℕ) (places : List (Option (Member PublisherEntry))) (found : Option ℕ) (place number : ℕ)
    (member : Member PublisherEntry) (port new : SubscriberPort) (ports new_ports : List (ℕ × PublisherPort T U))
    (answer : Result (Unit {0}) ZeroCopyCreationError) → IsListOnce next places → get_or places place None ≡ Some member
    → member.value.publisher ≡ number → get_or port.places.items place None ≡ found
    → FollowsAt found place number port ports answer new new_ports → Reads subscriber places port ports
    → Done subscriber places port ports new new_ports
done_at subscriber next places None place number member port new ports new_ports answer once listed is_member there follows state =
    done_connects subscriber next places place number member port new ports new_ports answer once listed is_member
    (λ other attached held same. let no : None ≡ Some other
    = sym there ∙ state.placed other place attached member held listed (same ∙ sym is_member) in cc) follows state
done_at subscriber next places (Some key) place number member port new ports new_ports answer once listed is_member there follows state =
    done_key subscriber next places (is_of number (attached_at key port)) key place number member port new ports new_ports answer once
    listed is_member there refl follows state

done_one : {T U : Type 0} (subscriber next : ℕ) (places : List (Option (Member PublisherEntry))) (place : ℕ)
    (item : Option (Member PublisherEntry)) (port new : SubscriberPort) (ports new_ports : List (ℕ × PublisherPort T U))
    (outcome : Result (Unit {0}) ZeroCopyCreationError)
    → IsListOnce next places → get_or places place None ≡ item → FollowsOne place item port ports outcome new new_ports
    → Reads subscriber places port ports → Done subscriber places port ports new new_ports
done_one subscriber next places place None port new ports new_ports outcome once listed follows state
    = done_same subscriber places port new ports new_ports follows.1 follows.2 state
done_one subscriber next places place (Some member) port new ports new_ports outcome once listed follows state =
    done_at subscriber next places (get_or port.places.items place None) place member.value.publisher member port new ports new_ports
    outcome once listed refl refl follows state

done_from : {T U : Type 0} (subscriber next : ℕ) (places : List (Option (Member PublisherEntry)))
    (may : DegradationInfo → DegradationAction → Type 0) (first : ℕ) (listed : List (Option (Member PublisherEntry)))
    (found after : Option ConnectionFailure)
    (port new : SubscriberPort) (ports new_ports : List (ℕ × PublisherPort T U)) → IsListOnce next places
    → ((k : ℕ) → get_or places (first + k) None ≡ get_or listed k None)
    → FollowsFrom may first listed found port ports after new new_ports
    → Reads subscriber places port ports → Done subscriber places port ports new new_ports
done_from subscriber next places may first [] found after port new ports new_ports once same follows state
    = done_same subscriber places port new ports new_ports follows.1 follows.2 state
done_from subscriber next places may first (item ∷ rest) found after port new ports new_ports once same
    (outcome, between, between_ports, then_found, step, asks, further) state =
    let here : get_or places first None ≡ item = ap (λ n. get_or places n None) (omega arith) ∙ same zero in
    let one = done_one subscriber next places first item port between ports between_ports outcome once here step state in
    done_on subscriber places port between new ports between_ports new_ports one
    (done_from subscriber next places may (first + 1) rest then_found after between new between_ports new_ports once
    (λ k. ap (λ n. get_or places n None) (omega arith) ∙ same (suc k)) further one.state)

-- a place that lists none is followed
done_freed_if : {T U : Type 0} (subscriber : ℕ) (places : List (Option (Member PublisherEntry))) (is_free : Bool) (place : ℕ)
    (port : SubscriberPort) (ports : List (ℕ × PublisherPort T U)) → get_or places place None ≡ None → Reads subscriber places port ports
    → Done subscriber places port ports (freed_if is_free place port) ports
done_freed_if subscriber places true place port ports none state
    = done_unplaced subscriber places place port ports (λ member is. let no : None ≡ Some member = sym none ∙ is in absurd (cc)) state
done_freed_if subscriber places false place port ports none state = done_same subscriber places port port ports ports refl refl state

done_none_at : {T U : Type 0} (subscriber : ℕ) (places : List (Option (Member PublisherEntry))) (found : Option ℕ) (place : ℕ)
    (port new : SubscriberPort) (ports new_ports : List (ℕ × PublisherPort T U)) → get_or places place None ≡ None
    → FollowsNoneAt found place port ports new new_ports → Reads subscriber places port ports
    → Done subscriber places port ports new new_ports
done_none_at subscriber places None place port new ports new_ports none follows state
    = done_same subscriber places port new ports new_ports follows.0 follows.1 state
done_none_at subscriber places (Some key) place port new ports new_ports none (is_free, between, parts, is) state =
    let one = parted subscriber places key port between ports new_ports is_free parts state in
    let two = done_freed_if subscriber places is_free place between new_ports none one.done.state in
    done_on subscriber places port between new ports new_ports new_ports one.done
    (done_on subscriber places between (freed_if is_free place between) new new_ports new_ports new_ports two
    (done_same subscriber places (freed_if is_free place between) new new_ports new_ports is refl two.state))

none_of : {X : Type 0} (found : Option X) → is_some found ≡ false → found ≡ None
none_of None is = refl
none_of (Some x) is = cc

done_none_if : {T U : Type 0} (subscriber : ℕ) (places : List (Option (Member PublisherEntry))) (there : Bool) (place : ℕ)
    (port new : SubscriberPort) (ports new_ports : List (ℕ × PublisherPort T U)) → is_some (get_or places place None) ≡ there
    → FollowsNoneIf there place port ports new new_ports → Reads subscriber places port ports
    → Done subscriber places port ports new new_ports
done_none_if subscriber places true place port new ports new_ports is follows state
    = done_same subscriber places port new ports new_ports follows.0 follows.1 state
done_none_if subscriber places false place port new ports new_ports is follows state =
    done_none_at subscriber places (get_or port.places.items place None) place port new ports new_ports
    (none_of (get_or places place None) is) follows state

done_nones : {T U : Type 0} (subscriber : ℕ) (places listed : List (Option (Member PublisherEntry))) (place count : ℕ)
    (port new : SubscriberPort) (ports new_ports : List (ℕ × PublisherPort T U)) → ((k : ℕ) → get_or places k None ≡ get_or listed k None)
    → FollowsNones listed place count port ports new new_ports → Reads subscriber places port ports
    → Done subscriber places port ports new new_ports
done_nones subscriber places listed place zero port new ports new_ports same follows state
    = done_same subscriber places port new ports new_ports follows.0 follows.1 state
done_nones subscriber places listed place (suc count) port new ports new_ports same (between, between_ports, step, further) state =
    let one = done_none_if subscriber places (updating.is_listed listed place) place port between ports between_ports
    (ap (λ found. is_some found) (same place)) step state in
    done_on subscriber places port between new ports between_ports new_ports one
    (done_nones subscriber places listed (place + 1) count between new between_ports new_ports same further one.state)

-- an update
done_updates_if : {T U : Type 0} (subscriber next : ℕ) (places : List (Option (Member PublisherEntry))) (seen : Bool)
    (may : DegradationInfo → DegradationAction → Type 0) (listed : List (Option (Member PublisherEntry))) (changes : ℕ)
    (port new : SubscriberPort)
    (ports new_ports : List (ℕ × PublisherPort T U)) (answer : Result (Unit {0}) ConnectionFailure) → IsListOnce next places
    → ((k : ℕ) → get_or places k None ≡ get_or listed k None) → UpdatesIf seen may listed changes port ports answer new new_ports
    → Reads subscriber places port ports → Done subscriber places port ports new new_ports
done_updates_if subscriber next places true may listed changes port new ports new_ports answer once same updates state
    = done_same subscriber places port new ports new_ports updates.1 updates.2 state
done_updates_if subscriber next places false may listed changes port new ports new_ports answer once same
    (found, between, between_ports, follows, nones, is_answer) state =
    let begun : SubscriberPort = record port { seen = changes; again = false } in
    let first = done_alike subscriber places port begun ports ports
    (record { connections = refl; places = refl; number = refl; stands = refl; place = refl }) refl state in
    let one = done_from subscriber next places may 0 listed None found begun between ports between_ports once
    (λ k. ap (λ n. get_or places n None) (omega arith) ∙ same k) follows first.state in
    let two = done_nones subscriber places listed 0 (length between.places.items) between new between_ports new_ports same nones
    one.state in
    done_on subscriber places port begun new ports ports new_ports first
    (done_on subscriber places begun between new ports between_ports new_ports one two)

told : (listed : List (Option (Member PublisherEntry))) (list : RollState PublisherEntry) → IsListOf listed list → (k : ℕ)
    → get_or list.places k None ≡ get_or listed k None
told listed list is k = ap (λ all. get_or all k None) (sym is) ∙ still_there listed _ k

pub done_updates : {T U : Type 0} (subscriber next : ℕ) (list : RollState PublisherEntry)
    (may : DegradationInfo → DegradationAction → Type 0) (listed : List (Option (Member PublisherEntry))) (port new : SubscriberPort)
    (ports new_ports : List (ℕ × PublisherPort T U))
    (answer : Result (Unit {0}) ConnectionFailure) → IsListOnce next list.places → IsListOf listed list
    → Updates may listed list.changes port ports answer new new_ports → Reads subscriber list.places port ports
    → Done subscriber list.places port ports new new_ports
done_updates subscriber next list may listed port new ports new_ports answer once is updates state =
    done_updates_if subscriber next list.places ((port.seen == list.changes) && not port.again) may listed list.changes port new ports
    new_ports answer once (told listed list is) updates state

-- a message is received
done_taken : {T U : Type 0} (subscriber : ℕ) (places : List (Option (Member PublisherEntry))) (found : Option Attached)
    (port : SubscriberPort) (ports : List (ℕ × PublisherPort T U)) → Reads subscriber places port ports
    → Done subscriber places port ports port (taken_ports found ports)
done_taken subscriber places None port ports state = done_same subscriber places port port ports ports refl refl state
done_taken subscriber places (Some giver) port ports state = record {
  state = record {
    named = state.named;
    lead = leads_taken giver ports state.lead;
    reads = λ key attached is. attached_taken subscriber attached giver ports (state.reads key attached is);
    apart = state.apart;
    placed = state.placed;
  };
  others = λ other attached not reads. attached_taken other attached giver ports reads;
  stands = refl;
  place = refl;
}

done_given : {T U : Type 0} (subscriber : ℕ) (places : List (Option (Member PublisherEntry))) (giver : Option ℕ) (port : SubscriberPort)
    (ports : List (ℕ × PublisherPort T U)) → Reads subscriber places port ports
    → Done subscriber places port ports port (given_ports giver port ports)
done_given subscriber places None port ports state = done_same subscriber places port port ports ports refl refl state
done_given subscriber places (Some key) port ports state = done_taken subscriber places (attached_at key port) port ports state

done_dropped : {T U : Type 0} (subscriber : ℕ) (places : List (Option (Member PublisherEntry))) (place : ℕ) (found : Option ℕ)
    (port : SubscriberPort) (ports : List (ℕ × PublisherPort T U)) → Reads subscriber places port ports
    → Done subscriber places port ports (dropped_port place found port) (dropped_ports found port ports)
done_dropped subscriber places place None port ports state = done_same subscriber places port port ports ports refl refl state
done_dropped subscriber places place (Some key) port ports state =
    (parted_to subscriber places key port (dropped_port place (Some key) port) ports (dropped_ports (Some key) port ports)
    (alike_dropped key place port) refl state).done

done_either : {T U : Type 0} (subscriber : ℕ) (places : List (Option (Member PublisherEntry))) (test : Bool) (port : SubscriberPort)
    (ports : List (ℕ × PublisherPort T U)) (one other : SubscriberPort × List (ℕ × PublisherPort T U))
    → Done subscriber places port ports one.0 one.1 → Done subscriber places port ports other.0 other.1
    → Done subscriber places port ports (if test then one else other).0 (if test then one else other).1
done_either subscriber places true port ports one other done_one done_other = done_one
done_either subscriber places false port ports one other done_one done_other = done_other

done_swept : {T U : Type 0} (subscriber : ℕ) (places : List (Option (Member PublisherEntry))) (place count : ℕ) (port : SubscriberPort)
    (ports : List (ℕ × PublisherPort T U)) → Reads subscriber places port ports
    → Done subscriber places port ports (swept place count (port, ports)).0 (swept place count (port, ports)).1
done_swept subscriber places place zero port ports state = done_same subscriber places port port ports ports refl refl state
done_swept subscriber places place (suc count) port ports state =
    let key = slice_get port.expired.items place in
    let one = done_dropped subscriber places place key port ports state in
    done_either subscriber places (is_idle_at key port ports) port ports
    (swept place count (dropped_port place key port, dropped_ports key port ports)) (swept (place + 1) count (port, ports))
    (done_on subscriber places port (dropped_port place key port)
    (swept place count (dropped_port place key port, dropped_ports key port ports)).0 ports (dropped_ports key port ports)
    (swept place count (dropped_port place key port, dropped_ports key port ports)).1
    one (done_swept subscriber places place count (dropped_port place key port) (dropped_ports key port ports) one.state))
    (done_swept subscriber places (place + 1) count port ports state)

done_serves : {T U : Type 0} (subscriber : ℕ) (places : List (Option (Member PublisherEntry))) (port new : SubscriberPort)
    (ports new_ports : List (ℕ × PublisherPort T U)) (taken : Option Taken) → Serves port ports taken new new_ports
    → Reads subscriber places port ports
    → Done subscriber places port ports new new_ports
done_serves subscriber places port new ports new_ports taken (met, is_met, giver, is_giver, is_taken, is, are, is_there) state =
    let one = done_given subscriber places giver port ports state in
    let two = done_swept subscriber places 0 met port (given_ports giver port ports) one.state in
    rw is (rw are (done_on subscriber places port port _ ports (given_ports giver port ports) _ one two))

done_receives_after : {T U : Type 0} (subscriber : ℕ) (places : List (Option (Member PublisherEntry)))
    (updated : Result (Unit {0}) ConnectionFailure) (port new : SubscriberPort) (ports new_ports : List (ℕ × PublisherPort T U))
    (answer : Result (Option Taken) ReceiveError)
    → ReceivesAfter updated port ports answer new new_ports → Reads subscriber places port ports
    → Done subscriber places port ports new new_ports
done_receives_after subscriber places (Err failure) port new ports new_ports answer receives state
    = done_same subscriber places port new ports new_ports receives.1 receives.2 state
done_receives_after subscriber places (Ok done) port new ports new_ports answer receives state
    = done_serves subscriber places port new ports new_ports receives.0 receives.1 state

pub done_receives : {T U : Type 0} (subscriber next : ℕ) (list : RollState PublisherEntry)
    (may : DegradationInfo → DegradationAction → Type 0) (listed : List (Option (Member PublisherEntry))) (port new : SubscriberPort)
    (ports new_ports : List (ℕ × PublisherPort T U))
    (answer : Result (Option Taken) ReceiveError) → IsListOnce next list.places → IsListOf listed list
    → ReceivesNext may listed list.changes port ports answer new new_ports → Reads subscriber list.places port ports
    → Done subscriber list.places port ports new new_ports
done_receives subscriber next list may listed port new ports new_ports answer once is (updated, between, between_ports, updates, after)
    state =
    let one = done_updates subscriber next list may listed port between ports between_ports updated once is updates state in
    done_on subscriber list.places port between new ports between_ports new_ports one
    (done_receives_after subscriber list.places updated between new between_ports new_ports answer after one.state)

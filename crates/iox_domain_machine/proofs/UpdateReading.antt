-- A subscriber reads from its connections still, after each act of an update.
use Rattle.std.proofs.Common.{◌≡◌, ◌≢◌, ◌≤◌, ◌<◌, ◌⊎◌, ◌+◌, ◌-◌, ℕ, Bool, true, false, List, length, get_or, set, slice_get, is_some}
use Rattle.std.proofs.Common.{Option, None, Some, refl, sym, ap, subst, inl, inr, ◌∙◌, arith, if◌then◌else◌}
use Rattle.std.proofs.lemmas.Bool.{cases_eq, cases_lt}
use Rattle.std.proofs.lemmas.List.{get_or-set_other, get_or-set_same, get_or_past, length-set}
use Rattle.iox_domain.proofs.Keys.{often_append, often_there, key_there}
use Rattle.iox_domain.proofs.Numbered.{at_number, other_fails, other_gone}
use Rattle.iox_domain.proofs.TiedWell.{gone_there, long_enough, still_there}
use Rattle.iox_domain.specs.Attaching.{KeysFit, keys_at, keys_of}
use Rattle.iox_domain.specs.Container.SlotTable.{value_at}
use Rattle.iox_domain.specs.Container.declared.container.Member.{Member}
use Rattle.iox_domain.specs.DomainPorts.Following.{kept_at, unplaced}
use Rattle.iox_domain.specs.DomainPorts.Places.{reached}
use Rattle.iox_domain.specs.DomainPorts.Publishers.{port_of, changed, changed_at_port, ended_if_left, is_over_in, removed}
use Rattle.iox_domain.specs.DomainPorts.Subscribing.{attached_at, without_key, ended_ports}
use Rattle.iox_domain.specs.DomainPorts.declared.attached.Attached.{Attached}
use Rattle.iox_domain.specs.DomainPorts.declared.publisher_entry.PublisherEntry.{PublisherEntry}
use Rattle.iox_domain.specs.DomainPorts.declared.publisher_port.PublisherPort.{PublisherPort}
use Rattle.iox_domain.specs.DomainPorts.declared.subscriber_port.SubscriberPort.{SubscriberPort}
use Rattle.iox_domain.specs.Roomy.{IsListOnce, IsAttached}
use Rattle.iox_domain.specs.Tries.{how_often}
use Rattle.iox_domain_machine.proofs.Found.{other_found}

-- A subscriber reads from each of its connections, no two of its keys belong to the same publisher, and the key of the connection to
-- a listed publisher is the key of its place.
pub record IsReading {T U : Type 0} (subscriber : ℕ) (places : List (Option (Member PublisherEntry))) (port : SubscriberPort)
    (ports : List (ℕ × PublisherPort T U)) : Type 0 where
  pub named : port.number ≡ subscriber
  pub reads : (key : ℕ) (attached : Attached) → attached_at key port ≡ Some attached → IsAttached subscriber attached ports
  pub apart : (key other : ℕ) (one two : Attached) → attached_at key port ≡ Some one → attached_at other port ≡ Some two
      → one.publisher ≡ two.publisher → key ≡ other
  pub placed : (key place : ℕ) (attached : Attached) (member : Member PublisherEntry) → attached_at key port ≡ Some attached
      → get_or places place None ≡ Some member → attached.publisher ≡ member.value.publisher
      → get_or port.places.items place None ≡ Some key

-- none of its connections is to this publisher
abbrev pub HasNone : ℕ → SubscriberPort → Type 0
HasNone publisher port = (key : ℕ) (attached : Attached) → attached_at key port ≡ Some attached → attached.publisher ≢ publisher

-- a key that is one of its holds a connection
some_attached : (found : Option Attached) → 0 < (if is_some found then 1 else 0) → (attached : Attached) × (found ≡ Some attached)
some_attached None some = absurd (omega (arith, some))
some_attached (Some attached) some = (attached, refl)

pub key_attached : (port : SubscriberPort) (key : ℕ) → KeysFit port → 0 < how_often key (keys_of port)
    → (attached : Attached) × (attached_at key port ≡ Some attached)
key_attached port key fit some = some_attached (attached_at key port) (omega (arith, fit.used key, some))

pub placed_key : (port : SubscriberPort) (place key : ℕ) → get_or port.places.items place None ≡ Some key → 0 < how_often key (keys_of port)
placed_key port place key is =
    omega (arith, key_there place key port.places.items is, often_append key (keys_at port.places.items) port.expired.items)

pub expired_key : (port : SubscriberPort) (place key : ℕ) → slice_get port.expired.items place ≡ Some key → 0 < how_often key (keys_of port)
expired_key port place key is =
    omega (arith, often_there key place port.expired.items is, often_append key (keys_at port.places.items) port.expired.items)

-- a key isn't one of a place and one that expired at once
pub key_once : (port : SubscriberPort) (place other key : ℕ) → KeysFit port → get_or port.places.items place None ≡ Some key
    → slice_get port.expired.items other ≡ Some key → ⊥
key_once port place other key fit is also = by (attached_at key port) refl
  where
    by : (found : Option Attached) → attached_at key port ≡ found → ⊥
    by found held = omega (
      arith,
      key_there place key port.places.items is,
      often_there key other port.expired.items also,
      often_append key (keys_at port.places.items) port.expired.items,
      fit.used key,
      at_most (attached_at key port),
    )
      where
        at_most : (found : Option Attached) → (if is_some found then 1 else 0) ≤ 1
        at_most None = omega arith
        at_most (Some attached) = omega arith

-- a connection that ended isn't read any longer, and no other was it
pub held_still : (values : List (Option Attached)) (gone key : ℕ) (attached : Attached)
    → value_at (set values gone None) key ≡ Some attached
    → (key ≢ gone) × (value_at values key ≡ Some attached)
held_still values gone key attached is = elim (cases_eq key gone) [
  | inl same ↦
      let none : value_at (set values gone None) gone ≡ None = gone_there values gone in
      let no : None ≡ Some attached = sym none ∙ ap (λ k. value_at (set values gone None) k) (sym same) ∙ is in absurd (cc)
  | inr off ↦ (off, sym (get_or-set_other values gone key None None off) ∙ is)
]

held_new : (values : List (Option Attached)) (new key : ℕ) (came attached : Attached)
    → value_at (set values new (Some came)) key ≡ Some attached
    → ((key ≡ new) × (attached ≡ came)) ⊎ ((key ≢ new) × (value_at values key ≡ Some attached))
held_new values new key came attached is = elim (cases_eq key new) [
  | inl same ↦
      let here : value_at (set values new (Some came)) new
      ≡ Some attached = ap (λ k. value_at (set values new (Some came)) k) (sym same) ∙ is in
      elim (cases_lt new (length values)) [
        | inl within ↦
            let both : Some came ≡ Some attached = sym (get_or-set_same values new (Some came) None within) ∙ here in
            let own : attached ≡ came = cc in
            inl (same, own)
        | inr past ↦
            let none : value_at (set values new (Some came)) new ≡ None =
            get_or_past (set values new (Some came)) new None (omega (arith, past, length-set values new (Some came))) in
            let no : None ≡ Some attached = sym none ∙ here in absurd (cc)
      ]
  | inr off ↦ inr (off, sym (get_or-set_other values new key (Some came) None off) ∙ is)
]

-- another publisher is as it was where a connection of one ended
pub ended_else : {T U : Type 0} (gone : Attached) (ports : List (ℕ × PublisherPort T U)) (other : ℕ) → other ≢ gone.publisher
    → port_of other (ended_ports (Some gone) ports) ≡ port_of other ports
ended_else {T} {U} gone ports other off =
    settled_by (is_over_in gone.publisher after) ∙ changed_by (port_of gone.publisher ports)
  where
    after : List (ℕ × PublisherPort T U)
    after = changed gone.publisher (ended_if_left gone.index) ports

    changed_by : (found : Option (PublisherPort T U))
        → port_of other (changed_at_port gone.publisher (ended_if_left gone.index) found ports) ≡ port_of other ports
    changed_by None = refl
    changed_by (Some port) = other_found gone.publisher other (ended_if_left gone.index port) ports off

    settled_by : (over : Bool) → port_of other (if over then removed gone.publisher after else after) ≡ port_of other after
    settled_by true = other_gone (at_number gone.publisher) (at_number other) after (other_fails other gone.publisher off)
    settled_by false = refl

module _ {T U : Type 0} (subscriber : ℕ) (places : List (Option (Member PublisherEntry))) where
  -- nothing changed that matters here
  pub reads_alike : (port new : SubscriberPort) (ports : List (ℕ × PublisherPort T U)) → new.connections ≡ port.connections
      → new.places ≡ port.places → new.number ≡ port.number → IsReading subscriber places port ports → IsReading subscriber places new ports
  reads_alike port new ports same_connections same_places same_number state =
      let back : (key : ℕ) (attached : Attached) → attached_at key new ≡ Some attached → attached_at key port ≡ Some attached =
      λ key attached is. ap (λ keys. value_at keys.values key) (sym same_connections) ∙ is in
      record {
        named = same_number ∙ state.named;
        reads = λ key attached is. state.reads key attached (back key attached is);
        apart = λ key other one two is_key is_other same. state.apart key other one two (back key one is_key) (back other two is_other)
            same;
        placed = λ key place attached member is there same. ap (λ ties. get_or ties.items place None) same_places
            ∙ state.placed key place attached member (back key attached is) there same;
      }

  -- the connection of a key ended
  pub reads_ended : (key : ℕ) (gone : Attached) (port : SubscriberPort) (ports : List (ℕ × PublisherPort T U))
      → attached_at key port ≡ Some gone → IsReading subscriber places port ports
      → IsReading subscriber places (without_key key (Some gone) port) (ended_ports (Some gone) ports)
  reads_ended key gone port ports there state =
      let still = held_still port.connections.values key in
      record {
        named = state.named;
        reads = λ one attached is.
            let was = still one attached is in
            let before = state.reads one attached was.1 in (
              before.0,
              ended_else gone ports attached.publisher (λ same. was.0 (state.apart one key attached gone was.1 there same)) ∙ before.1,
              before.2,
            );
        apart = λ one other first second is_one is_other same.
            state.apart one other first second (still one first is_one).1 (still other second is_other).1 same;
        placed = λ one place attached member is listed same. state.placed one place attached member (still one attached is).1 listed same;
      }

  -- a place has no connection any longer
  pub reads_unplaced : (place : ℕ) (port : SubscriberPort) (ports : List (ℕ × PublisherPort T U))
      → ((member : Member PublisherEntry) → get_or places place None ≡ Some member → HasNone member.value.publisher port)
      → IsReading subscriber places port ports → IsReading subscriber places (unplaced place port) ports
  reads_unplaced place port ports none state = record {
    named = state.named;
    reads = state.reads;
    apart = state.apart;
    placed = λ key other attached member is listed same. elim (cases_eq other place) [
      | inl here ↦ absurd (none member (ap (λ p. get_or places p None) (sym here) ∙ listed) key attached is same)
      | inr off ↦ get_or-set_other port.places.items place other None None off ∙ state.placed key other attached member is listed same
    ];
  }

  -- a connection to a publisher came to a place
  pub reads_kept : (next place index key : ℕ) (member : Member PublisherEntry) (port : SubscriberPort)
      (ports new_ports : List (ℕ × PublisherPort T U)) → IsListOnce next places → get_or places place None ≡ Some member
      → HasNone member.value.publisher port
      → ((other : ℕ) → other ≢ member.value.publisher → port_of other new_ports ≡ port_of other ports)
      → IsAttached subscriber (record { publisher = member.value.publisher; index = index }) new_ports
      → IsReading subscriber places port ports
      → IsReading subscriber places (kept_at place key (record { publisher = member.value.publisher; index = index }) port) new_ports
  reads_kept next place index key member port ports new_ports once listed none elsewhere reads_it state =
      let number = member.value.publisher in
      let came : Attached = record { publisher = member.value.publisher; index = index } in
      let new : SubscriberPort = kept_at place key came port in
      let items : List (Option ℕ) = reached (place + 1) port.places.items in
      let by : (one : ℕ) (attached : Attached) → attached_at one new ≡ Some attached
      → ((one ≡ key) × (attached ≡ came)) ⊎ ((one ≢ key) × (attached_at one port ≡ Some attached)) =
      λ one attached. held_new port.connections.values key one came attached in
      let here : get_or new.places.items place None ≡ Some key =
      get_or-set_same items place (Some key) None (omega (arith, long_enough port.places.items (place + 1))) in
      let there : (other : ℕ) → other ≢ place → get_or new.places.items other None ≡ get_or port.places.items other None = λ other off.
      get_or-set_other items place other (Some key) None off ∙ still_there port.places.items (place + 1 - length port.places.items) other in
      record {
        named = state.named;
        reads = λ one attached is. elim (by one attached is) [
          | inl own ↦ subst (λ a. IsAttached subscriber a new_ports) (sym own.1) reads_it
          | inr was ↦
              let before = state.reads one attached was.1 in
              (before.0, elsewhere attached.publisher (none one attached was.1) ∙ before.1, before.2)
        ];
        apart = λ first second one two is_first is_second same. elim (by first one is_first) [
          | inl own ↦ elim (by second two is_second) [
            | inl other ↦ own.0 ∙ sym other.0
            | inr was ↦ absurd (none second two was.1 (sym same ∙ ap (λ (a : Attached). a.publisher) own.1))
          ]
          | inr was ↦ elim (by second two is_second) [
            | inl own ↦ absurd (none first one was.1 (same ∙ ap (λ (a : Attached). a.publisher) own.1))
            | inr other ↦ state.apart first second one two was.1 other.1 same
          ]
        ];
        placed = λ one at attached second is is_listed same. elim (by one attached is) [
          | inl own ↦
              let at_place : at ≡ place = once.apart at place second member is_listed listed
              (sym same ∙ ap (λ (a : Attached). a.publisher) own.1) in
              ap (λ p. get_or new.places.items p None) at_place ∙ here ∙ ap (λ k. Some k) (sym own.0)
          | inr was ↦ elim (cases_eq at place) [
            | inl at_place ↦
                let both : Some second ≡ Some member = sym is_listed ∙ ap (λ p. get_or places p None) at_place ∙ listed in
                let own : second ≡ member = cc in
                absurd (none one attached was.1 (same ∙ ap (λ (m : Member PublisherEntry). m.value.publisher) own))
            | inr off ↦ there at off ∙ state.placed one at attached second was.1 is_listed same
          ]
        ];
      }

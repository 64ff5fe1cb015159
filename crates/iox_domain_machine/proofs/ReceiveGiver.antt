-- Which connection of a subscriber gives, and which expired ones last, of a domain and of the machine.
use Rattle.std.proofs.Common.{◌≡◌, ◌<◌, ◌⊎◌, ◌∷◌, [], ◌++◌, ◌&&◌, ◌==◌, ℕ, zero, suc, Bool, true, false, cond, not, List, length, map}
use Rattle.std.proofs.Common.{Option, None, Some, refl, sym, ap, subst, inl, inr, ◌∙◌, arith}
use Rattle.std.proofs.Math.Logic.{⊎_elim}
use Rattle.std.proofs.lemmas.Bool.{and_from, and_parts, eq-eqb, eqb-true}
use Rattle.std.proofs.lemmas.List.{map-append}
use Rattle.std.specs.List.{list_any}
use Rattle.std.specs.Prelude.{find, is_some, option_map, slice_get, if◌then◌else◌}
use Rattle.iox_domain.proofs.Keys.{often_append}
use Rattle.iox_domain.specs.Attaching.{keys_at}
use Rattle.iox_domain.specs.DomainPorts.Receiving as domain
use Rattle.iox_domain.specs.DomainPorts.Receiving.{IsMet}
use Rattle.iox_domain.specs.DomainPorts.Subscribing as seen
use Rattle.iox_domain.specs.DomainPorts.Subscribing.{attached_at, is_below}
use Rattle.iox_domain.specs.DomainPorts.declared.attached.Taken.{Taken}
use Rattle.iox_domain.specs.DomainPorts.declared.subscriber_port.SubscriberPort.{SubscriberPort}
use Rattle.iox_domain.specs.Roomy.{AreRoomy}
use Rattle.iox_domain.specs.Subscribers.{subscriber_of}
use Rattle.iox_domain.specs.Tries.{how_often}
use Rattle.iox_domain.specs.declared.ports.service_ports.ServicePorts.{ServicePorts}
use Rattle.iox_domain_machine.specs.Naming.{Naming}
use Rattle.iox_domain_machine.specs.Standing.{StandsFor}
use Rattle.iox_domain_machine.specs.Subscribers.{SubscriberStandsFor, publisher_by}
use Rattle.iox_domain_machine.specs.Tables.{LentSlot}
use Rattle.iox_domain_machine.proofs.Found.{same_some, never_some, never_true}
use Rattle.iox_domain_machine.proofs.Hearing.{Hears, any_same, connected_keys, has_connection, is_used, any_none, often_behind}
use Rattle.iox_domain_machine.proofs.Hearing.{often_head, some_passes, with_data}
use Rattle.iox_domain_machine.proofs.ReceiveHearing.{gives_same}
use Rattle.iox_domain_machine.proofs.ReceiveSweeping.{not_idle}
use Rattle.iox_machine.specs.Mailbox.{is_idle}
use Rattle.iox_machine.specs.PortList.{those}
use Rattle.iox_machine.specs.Receiving.{IsGiver, gives, lasting}
use Rattle.iox_machine.specs.Service.{Service, Subscriber, mailbox}
use Rattle.iox_machine.specs.Table.{contains}

-- Keys as they are met one by one: none of the first ones passes a test, and the next, if there is one, does.
pub record SplitsAt (test : ℕ → Bool) (keys : List ℕ) (met : ℕ) : Type 0 where
  pub first : List ℕ
  pub more : List ℕ
  pub split : keys ≡ first ++ more
  pub count : length first ≡ met
  pub fails : (key : ℕ) → 0 < how_often key first → test key ≡ false
  pub next : slice_get keys met ≡ slice_get more 0
  pub passes : (key : ℕ) → slice_get more 0 ≡ Some key → test key ≡ true

none_met : (met : ℕ) → (met ≡ 0) ⊎ ((met < 0) × Unit {0}) → 0 ≡ met
none_met met (inl same) = sym same
none_met met (inr within) = absurd (omega (arith, within.0))

fails_by : (test : ℕ → Bool) (one key : ℕ) (keys : List ℕ) (same : Bool) → (one == key) ≡ same → test key ≡ false
    → (0 < how_often one keys → test one ≡ false) → 0 < how_often one (key ∷ keys) → test one ≡ false
fails_by test one key keys true is fails rest among = ap test (eqb-true one key is) ∙ fails
fails_by test one key keys false is fails rest among =
    let none : ◌≡◌ {A = ℕ} (cond (one == key) 1 0) 0 = ap (λ b. cond b 1 0) is in rest (omega (arith, none, among))

pub splits : (test : ℕ → Bool) (keys : List ℕ) (met : ℕ) → IsMet test keys met → SplitsAt test keys met
splits test [] met is = record {
  first = [];
  more = [];
  split = refl;
  count = none_met met (⊎_elim (λ same. inl same) (λ within. inr (within.0, tt)) is.1);
  fails = λ key among. absurd (omega (arith, among));
  next = refl;
  passes = λ key none. never_some key none;
}
splits test (key ∷ keys) zero is = record {
  first = [];
  more = key ∷ keys;
  split = refl;
  count = refl;
  fails = λ key among. absurd (omega (arith, among));
  next = refl;
  passes = λ one same. ap test (sym (same_some key one same))
      ∙ ⊎_elim (λ over. absurd (omega (arith, over))) (λ within. within.1) is.1;
}
splits test (key ∷ keys) (suc met) is =
    let rest = splits test keys met (
      (λ place below. is.0 (suc place) (omega (arith, below))),
      ⊎_elim (λ over. inl (omega (arith, over))) (λ within. inr (omega (arith, within.0), within.1)) is.1,
    ) in
    record {
      first = key ∷ rest.first;
      more = rest.more;
      split = ap (λ all. key ∷ all) rest.split;
      count = omega (arith, rest.count);
      fails = λ one among. fails_by test one key rest.first (one == key) refl (is.0 zero (omega arith)) (rest.fails one) among;
      next = rest.next;
      passes = rest.passes;
    }

-- who is found after those that fail
find_behind : (test : ℕ → Bool) (name : ℕ → ℕ) (first : List ℕ) (others : List ℕ)
    → ((key : ℕ) → 0 < how_often key first → test (name key) ≡ false) → find test (map name first ++ others) ≡ find test others
find_behind test name [] others fails = refl
find_behind test name (key ∷ first) others fails =
    ap (λ b. cond b (Some (name key)) (find test (map name first ++ others))) (fails key (often_head key first))
    ∙ find_behind test name first others (λ other among. fails other (often_behind other key first among))

find_first : (test : ℕ → Bool) (name : ℕ → ℕ) (more : List ℕ)
    → ((key : ℕ) → slice_get more 0 ≡ Some key → test (name key) ≡ true)
    → find test (map name more) ≡ option_map name (slice_get more 0)
find_first test name [] passes = refl
find_first test name (key ∷ more) passes =
    ap (λ b. cond b (Some (name key)) (find test (map name more))) (passes key refl)

nothing_more : (more : List ℕ) → slice_get more 0 ≡ None → more ≡ []
nothing_more [] none = refl
nothing_more (key ∷ more) none = never_some key (sym none)

module _ {T : Type 0} (number : ℕ) (service : Service T) (name : ℕ → ℕ) where
  -- of those that are met before one gives the idle ones end
  last_by : (idle : Bool) (one : ℕ) (more left others : List ℕ) → more ≡ left ++ others
      → (if idle then more else one ∷ more) ≡ cond (not idle) (one ∷ left) left ++ others
  last_by true one more left others same = same
  last_by false one more left others same = ap (λ all. one ∷ all) same

  lasting_behind : (first others : List ℕ) → ((key : ℕ) → 0 < how_often key first → gives number service (name key) ≡ false)
      → lasting number service (map name first ++ others) ≡ not_idle number service (map name first) ++ lasting number service others
  lasting_behind [] others fails = refl
  lasting_behind (key ∷ first) others fails =
      ap (λ b. if b then name key ∷ (map name first ++ others)
      else (if is_idle (mailbox (name key) number service) then lasting number service (map name first ++ others)
      else name key ∷ lasting number service (map name first ++ others))) (fails key (often_head key first))
      ∙ last_by (is_idle (mailbox (name key) number service)) (name key) (lasting number service (map name first ++ others))
      (not_idle number service (map name first)) (lasting number service others)
      (lasting_behind first others (λ other among. fails other (often_behind other key first among)))

  lasting_first : (more : List ℕ) → ((key : ℕ) → slice_get more 0 ≡ Some key → gives number service (name key) ≡ true)
      → lasting number service (map name more) ≡ map name more
  lasting_first [] passes = refl
  lasting_first (key ∷ more) passes =
      ap (λ b. if b then name key ∷ map name more
      else (if is_idle (mailbox (name key) number service) then lasting number service (map name more)
      else name key ∷ lasting number service (map name more))) (passes key refl)

module _ {T U : Type 0} (names : Naming) (lent : List (ℕ × LentSlot)) (held : List (ℕ × Taken)) (buffer : ℕ) (ports : ServicePorts T U)
    (service : Service T) (number : ℕ) (port : SubscriberPort) (stands : StandsFor names lent held buffer ports service)
    (there : subscriber_of number ports.subscribers ≡ Some port) (hears : Hears number port ports.publishers) (roomy : AreRoomy ports)
    (subscriber : Subscriber)
    (is : SubscriberStandsFor names.publisher ports.sizes.max_publishers ports.sizes.expired_connections port subscriber)
    (met : ℕ) (meeting : SplitsAt (seen.gives port ports.publishers) port.expired.items met) where
  abbrev test : ℕ → Bool
  test = seen.gives port ports.publishers

  abbrev gives_there : ℕ → Bool
  gives_there = gives (names.subscriber number) service

  abbrev by_key : ℕ → ℕ
  by_key = publisher_by names.publisher port

  pub same_test : (key : ℕ) → is_some (attached_at key port) ≡ true → gives_there (by_key key) ≡ test key
  same_test = gives_same names lent held buffer ports service number port stands there hears roomy

  expired_held : (key : ℕ) → 0 < how_often key port.expired.items → is_some (attached_at key port) ≡ true
  expired_held key expired =
      has_connection names lent held buffer ports service number port stands there hears key
      (omega (arith, expired, often_append key (keys_at port.places.items) port.expired.items))

  -- none that is met before it gives
  pub fails_there : (key : ℕ) → 0 < how_often key meeting.first → gives_there (by_key key) ≡ false
  fails_there key among =
      same_test key (expired_held key (omega (
        arith,
        among,
        ap (how_often key) meeting.split,
        often_append key meeting.first meeting.more,
      ))) ∙ meeting.fails key among

  heads : (key : ℕ) (more : List ℕ) → slice_get more 0 ≡ Some key → 0 < how_often key more
  heads key [] none = never_some key none
  heads key (first ∷ more) same = subst (λ one. 0 < how_often key (one ∷ more)) (sym (same_some first key same)) (often_head key more)

  passes_there : (key : ℕ) → slice_get meeting.more 0 ≡ Some key → gives_there (by_key key) ≡ true
  passes_there key head =
      same_test key (expired_held key (omega (
        arith,
        heads key meeting.more head,
        ap (how_often key) meeting.split,
        often_append key meeting.first meeting.more,
      ))) ∙ meeting.passes key head

  -- the expired ones are those that are met before, and the others
  pub expired_is : subscriber.expired ≡ map by_key meeting.first ++ map by_key meeting.more
  expired_is = is.expired hears.standing ∙ ap (map by_key) meeting.split ∙ map-append by_key meeting.first meeting.more

  -- the first expired one that gives
  found_is : find gives_there subscriber.expired ≡ option_map by_key (slice_get port.expired.items met)
  found_is =
      ap (find gives_there) expired_is ∙ find_behind gives_there by_key meeting.first (map by_key meeting.more) fails_there
      ∙ find_first gives_there by_key meeting.more passes_there ∙ ap (option_map by_key) (sym meeting.next)

  -- the expired ones that last
  pub lasting_is : lasting (names.subscriber number) service subscriber.expired
      ≡ not_idle (names.subscriber number) service (map by_key meeting.first) ++ map by_key meeting.more
  lasting_is =
      ap (lasting (names.subscriber number) service) expired_is
      ∙ lasting_behind (names.subscriber number) service by_key meeting.first (map by_key meeting.more) fails_there
      ∙ ap (λ all. not_idle (names.subscriber number) service (map by_key meeting.first) ++ all)
      (lasting_first (names.subscriber number) service by_key meeting.more passes_there)

  connected_held : (key : ℕ) → 0 < how_often key (keys_at port.places.items) → is_some (attached_at key port) ≡ true
  connected_held key placed =
      has_connection names lent held buffer ports service number port stands there hears key
      (omega (arith, placed, often_append key (keys_at port.places.items) port.expired.items))

  connected_are : those subscriber.connected ≡ map by_key (keys_at port.places.items)
  connected_are = connected_keys names lent held buffer ports service number port stands there hears subscriber is

  none_gives : ((key : ℕ) → test key ≡ false) → list_any gives_there (those subscriber.connected) ≡ false
  none_gives none =
      ap (list_any gives_there) connected_are
      ∙ any_same by_key gives_there test (keys_at port.places.items) (λ key placed. same_test key (connected_held key placed))
      ∙ any_none test (keys_at port.places.items) none

  -- who gives has a connection
  pub giver_held : (key : ℕ) → test key ≡ true → is_some (attached_at key port) ≡ true
  giver_held key passes =
      with_data names lent held buffer ports service number port stands there hears key
      (and_parts (is_below port ports.publishers key) (seen.has_data port ports.publishers key) passes).1

  not_expired : (key : ℕ) → slice_get port.expired.items met ≡ None → test key ≡ true → (count : ℕ)
      → how_often key port.expired.items ≡ count → how_often key port.expired.items ≡ 0
  not_expired key none passes zero is = is
  not_expired key none passes (suc count) is =
      let all : port.expired.items ≡ meeting.first ++ [] =
      meeting.split ∙ ap (λ more. meeting.first ++ more) (nothing_more meeting.more (sym meeting.next ∙ none)) in
      never_true (sym (meeting.fails key (omega (arith, is, ap (how_often key) all, often_append key meeting.first []))) ∙ passes)

  some_gives : (key : ℕ) → slice_get port.expired.items met ≡ None → test key ≡ true
      → (contains (those subscriber.connected) (by_key key) && gives_there (by_key key)) ≡ true
  some_gives key none passes =
      let held_there = giver_held key passes in
      let used = is_used names lent held buffer ports service number port stands there hears key held_there in
      let absent = not_expired key none passes (how_often key port.expired.items) refl in
      let placed : 0 < how_often key (keys_at port.places.items) =
      omega (arith, used, absent, often_append key (keys_at port.places.items) port.expired.items) in
      and_from (contains (those subscriber.connected) (by_key key)) (gives_there (by_key key))
      (ap (λ all. contains all (by_key key)) connected_are
      ∙ any_same by_key (λ other. other == by_key key) (λ other. by_key other == by_key key) (keys_at port.places.items)
      (λ other placed. refl)
      ∙ some_passes (λ other. by_key other == by_key key) key (keys_at port.places.items) (eq-eqb (by_key key) (by_key key) refl) placed)
      (same_test key held_there ∙ passes)

  giver_by : (at : Option ℕ) (giver : Option ℕ) → slice_get port.expired.items met ≡ at → domain.IsGiver at test giver
      → IsGiver (names.subscriber number) (option_map by_key at) subscriber service (option_map by_key giver)
  giver_by (Some key) giver is given = ap (option_map by_key) given
  giver_by None None is none = none_gives none
  giver_by None (Some key) is first = some_gives key is first.0

  -- the same connection gives
  pub giver_is : (giver : Option ℕ) → domain.IsGiver (slice_get port.expired.items met) test giver
      → IsGiver (names.subscriber number) (find gives_there subscriber.expired) subscriber service (option_map by_key giver)
  giver_is giver given =
      subst (λ found. IsGiver (names.subscriber number) found subscriber service (option_map by_key giver)) (sym found_is)
      (giver_by (slice_get port.expired.items met) giver refl given)

  giver_passes_by : (at : Option ℕ) (key : ℕ) → slice_get port.expired.items met ≡ at → domain.IsGiver at test (Some key)
      → test key ≡ true
  giver_passes_by None key is first = first.0
  giver_passes_by (Some one) key is given =
      ap test (same_some key one given) ∙ meeting.passes one (sym meeting.next ∙ is)

  -- and it may give
  pub giver_passes : (key : ℕ) → domain.IsGiver (slice_get port.expired.items met) test (Some key) → test key ≡ true
  giver_passes key given = giver_passes_by (slice_get port.expired.items met) key refl given

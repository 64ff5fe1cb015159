-- What stands for a service of the machine is sound.
use Rattle.std.proofs.Common.{ℕ, zero, suc, ◌≡◌, ◌+◌, ◌<◌, ◌≤◌, ◌==◌, ◌&&◌, ◌||◌, Bool, true, false, not, nat_lt, cond, List, []}
use Rattle.std.proofs.Common.{if◌then◌else◌}
use Rattle.std.proofs.Common.{◌∷◌, ◌++◌, length, map, get_or, slice_get, Option, Some, None}
use Rattle.std.proofs.Common.{refl, sym, ◌∙◌, ap, ap₂, subst, inl, inr, arith}
use Rattle.std.proofs.Math.Dec.{eqb}
use Rattle.std.proofs.lemmas.Bool.{eq-eqb, le-ltb}
use Rattle.std.proofs.lemmas.Bool.Decides.{eqb_tells}
use Rattle.std.proofs.lemmas.List.{map-append}
use Rattle.std.proofs.lemmas.List.Elements.{All-head, All-tail}
use Rattle.std.proofs.lemmas.List.Sums.{sum_by-append, sum_by-cons}
use Rattle.std.proofs.lemmas.Option.{get_or_from_slice_get}
use Rattle.std.specs.BTreeMap.{is_at}
use Rattle.std.specs.Bool.{beq}
use Rattle.std.specs.List.{All, list_any}
use Rattle.std.specs.Map.{keys_of, lookup}
use Rattle.std.specs.Cmp.{nat_cmp_is}
use Rattle.std.specs.FinMap.{nat_cmp-IsAntisymmetric}
use Rattle.std.specs.Ordering.{nat_cmp, is_eq}
use Rattle.std.specs.declared.cmp.Ordering.{Ordering}
use Rattle.std.specs.declared.cmp.Ordering.TheVariants.{Less, Equal, Greater}
use Rattle.iox_domain.specs.Container.declared.container.Member.{Member}
use Rattle.iox_domain.specs.DomainPorts.Messages.{Message}
use Rattle.iox_domain.specs.DomainPorts.Ports.{connection_of}
use Rattle.iox_domain.specs.DomainPorts.Publishers.{port_of}
use Rattle.iox_domain.specs.DomainPorts.Subscribing.{attached_at}
use Rattle.iox_domain.specs.DomainPorts.declared.attached.Attached.{Attached}
use Rattle.iox_domain.specs.DomainPorts.declared.attached.Taken.{Taken}
use Rattle.iox_domain.specs.DomainPorts.declared.publisher_port.PublisherPort.{PublisherPort}
use Rattle.iox_domain.specs.DomainPorts.declared.subscriber_port.SubscriberPort.{SubscriberPort}
use Rattle.iox_domain.specs.DomainSlots.Counting.{times}
use Rattle.iox_domain.specs.DomainSlots.Uses.{Connection, held_by, is_there, nobody}
use Rattle.iox_domain.specs.Roomy.{AreRoomy, ReadsApartEntry}
use Rattle.iox_domain.specs.SizeLaws.{IsMadeFor, MadeFor, allowed_by}
use Rattle.iox_domain.specs.Tries.{how_often}
use Rattle.iox_domain.specs.declared.ports.service_ports.ServicePorts.{ServicePorts}
use Rattle.iox_domain_machine.specs.Naming.{Naming}
use Rattle.iox_domain_machine.specs.Standing.{PublisherIs, StandsFor}
use Rattle.iox_domain_machine.specs.Tables.{LentSlot}
use Rattle.iox_lanes_opening.specs.Lingering.{is_lingering, publisher_lingers, subscriber_lingers}
use Rattle.iox_lanes_opening.specs.Listed.{holds_at, of_each_listed}
use Rattle.iox_lanes_opening.specs.Soundness.{any_below, are_placed, attaches_twice, comes_again, has_twice, is_misfit, is_misnumbered}
use Rattle.iox_lanes_opening.specs.Soundness.{is_publisher_place, is_publisher_placed, is_subscriber_place, is_subscriber_placed}
use Rattle.iox_lanes_opening.specs.Soundness.{is_unsound, remembers_ill, share_publisher, share_slot, stands_again, waits_ill}
use Rattle.iox_machine.specs.Service.{Service}
use Rattle.iox_lanes_sound.specs.Standing.{AllKeepToOne, KeepsToOne, StandingPortsAreSound}

some_is : {X : Type 0} (x y : X) → Some x ≡ Some y → x ≡ y
some_is x y h = cc h

neither : (a b : Bool) → a || b ≡ false → (a ≡ false) × (b ≡ false)
neither true b h = absurd (cc h)
neither false b h = (refl, h)

switch_same : (b : Bool) → beq b b ≡ true
switch_same true = refl
switch_same false = refl

not_false : (b : Bool) → not b ≡ false → b ≡ true
not_false true h = refl
not_false false h = absurd (cc h)

-- no element passes
none_of : {X : Type 0} (test : X → Bool) (xs : List X) → ((at : ℕ) (x : X) → slice_get xs at ≡ Some x → test x ≡ false)
    → list_any test xs ≡ false
none_of test [] h = refl
none_of test (x ∷ xs) h = ap₂ (λ (b c : Bool). b || c) (h 0 x refl) (none_of test xs (λ at. h (suc at)))

-- an element doesn't pass where none does
not_of : {X : Type 0} (test : X → Bool) (xs : List X) (at : ℕ) (x : X) → list_any test xs ≡ false → slice_get xs at ≡ Some x
    → test x ≡ false
not_of test [] at x none is = absurd (cc is)
not_of test (y ∷ ys) zero x none is = ap test (sym (some_is y x is)) ∙ (neither (test y) (list_any test ys) none).0
not_of test (y ∷ ys) (suc at) x none is = not_of test ys at x (neither (test y) (list_any test ys) none).1 is

none_below : (test : ℕ → Bool) (many : ℕ) → ((k : ℕ) → k < many → test k ≡ false) → any_below test many ≡ false
none_below test zero h = refl
none_below test (suc many) h = ap₂ (λ (b c : Bool). b || c) (none_below test many (λ k below. h k (omega (arith, below))))
    (h many (omega arith))

-- of each that is listed it holds
all_listed : {V : Type 0} (holds : ℕ → V → Bool) (first : ℕ) (places : List (Option (Member V)))
    → ((at : ℕ) (member : Member V) → get_or places at None ≡ Some member → holds (first + at) member.value ≡ true)
    → of_each_listed holds first places ≡ true
all_listed holds first [] h = refl
all_listed {V} holds first (place ∷ rest) h = ap₂ (λ (b c : Bool). b && c) (here place refl)
    (all_listed holds (first + 1) rest (λ at member is.
    let next : first + 1 + at ≡ first + suc at = omega arith in
    ap (λ (n : ℕ). holds n member.value) next ∙ h (suc at) member is))
  where
    here : (one : Option (Member V)) → place ≡ one → holds_at holds first one ≡ true
    here None e = refl
    here (Some member) e =
        let same : first ≡ first + 0 = omega arith in
        ap (λ (n : ℕ). holds n member.value) same ∙ h 0 member e

-- how often a slot stands among more
pub times_front : (slot : ℕ) (xs ys : List ℕ) → times slot (xs ++ ys) ≡ times slot xs + times slot ys
times_front slot xs ys = sum_by-append (λ other. cond (eqb slot other) 1 0) xs ys

times_next : (slot x : ℕ) (xs : List ℕ) → times slot (x ∷ xs) ≡ cond (eqb slot x) 1 0 + times slot xs
times_next slot x xs = sum_by-cons (λ other. cond (eqb slot other) 1 0) x xs

here_once : (slot x : ℕ) (xs : List ℕ) → slot ≡ x → times slot (x ∷ xs) ≡ 1 + times slot xs
here_once slot x xs same
    = times_next slot x xs ∙ ap (λ (b : Bool). cond b 1 0 + times slot xs) (eq-eqb slot x same)

pub times_some : (slot : ℕ) (xs : List ℕ) (at : ℕ) → slice_get xs at ≡ Some slot → 0 < times slot xs
times_some slot [] at is = absurd (cc is)
times_some slot (x ∷ xs) zero is = omega (arith, here_once slot x xs (sym (some_is x slot is)))
times_some slot (x ∷ xs) (suc at) is = omega (arith, times_next slot x xs, times_some slot xs at is)

-- what stands at two places stands there twice
times_two : (slot : ℕ) (xs : List ℕ) (one other : ℕ) → one < other → slice_get xs one ≡ Some slot → slice_get xs other ≡ Some slot
    → 1 < times slot xs
times_two slot [] one other before is too = absurd (cc is)
times_two slot (x ∷ xs) one zero before is too = absurd (omega (arith, before))
times_two slot (x ∷ xs) zero (suc other) before is too
    = omega (arith, here_once slot x xs (sym (some_is x slot is)), times_some slot xs other too)
times_two slot (x ∷ xs) (suc one) (suc other) before is too
    = omega (arith, times_next slot x xs, times_two slot xs one other (omega (arith, before)) is too)

module _ {T U : Type 0} where
  pub slot_at : (messages : List (Message T U)) (at : ℕ) (message : Message T U) → slice_get messages at ≡ Some message
      → slice_get (map (λ (one : Message T U). one.slot) messages) at ≡ Some message.slot
  slot_at [] at message is = absurd (cc is)
  slot_at (m ∷ ms) zero message is = ap (λ (one : Message T U). Some one.slot) (some_is m message is)
  slot_at (m ∷ ms) (suc at) message is = slot_at ms at message is

  -- messages whose slots each stand there at most once share none
  none_twice : (messages : List (Message T U)) → ((slot : ℕ) → times slot (map (λ (one : Message T U). one.slot) messages) ≤ 1)
      → has_twice messages ≡ false
  none_twice messages once = none_below (stands_again messages) (length messages) (λ place below.
      none_below (λ other. share_slot (slice_get messages other) (slice_get messages place)) place (λ other before.
      by_both other place before (slice_get messages other) (slice_get messages place) refl refl))
    where
      by_both : (other place : ℕ) → other < place → (one two : Option (Message T U)) → slice_get messages other ≡ one
          → slice_get messages place ≡ two → share_slot one two ≡ false
      by_both other place before None two is too = refl
      by_both other place before (Some one) None is too = refl
      by_both other place before (Some one) (Some two) is too = elim (eqb_tells one.slot two.slot) [
        | inl same ↦
            let first : slice_get (map (λ (m : Message T U). m.slot) messages) other ≡ Some two.slot
            = slot_at messages other one is ∙ ap (λ (n : ℕ). Some n) same.1 in
            absurd (omega (
              arith,
              times_two two.slot (map (λ (m : Message T U). m.slot) messages) other place before first
                  (slot_at messages place two too),
              once two.slot,
            ))
        | inr apart ↦ apart.0
      ]

-- what stands at a place of a table is found by its number, where no number comes twice
same_number : (number : ℕ) → is_at (nat_cmp number) number ≡ true
same_number number = ap is_eq (sym (nat_cmp_is number number Equal refl))

equal_of : (order : Ordering) → is_eq order ≡ true → order ≡ Equal
equal_of Less is = cc
equal_of Equal is = cc
equal_of Greater is = cc

same_key : (number other : ℕ) → is_at (nat_cmp number) other ≡ true → other ≡ number
same_key number other passes = sym (nat_cmp-IsAntisymmetric number other (equal_of (nat_cmp number other) passes))

often_next : (number key : ℕ) (keys : List ℕ) → how_often number keys ≤ how_often number (key ∷ keys)
often_next number key keys = omega arith

often_here : (number key : ℕ) (keys : List ℕ) → key ≡ number → how_often number (key ∷ keys) ≡ 1 + how_often number keys
often_here number key keys same = ap (λ (b : Bool). (if b then 1 else 0) + how_often number keys) (eq-eqb number key (sym same))

often_some : {V : Type 0} (number at : ℕ) (value : V) (entries : List (ℕ × V)) → slice_get entries at ≡ Some (number, value)
    → 0 < how_often number (keys_of entries)
often_some number at value [] is = absurd (cc is)
often_some {V} number zero value (entry ∷ rest) is =
    let same : entry.0 ≡ number = ap (λ (e : ℕ × V). e.0) (some_is entry (number, value) is) in
    omega (arith, often_here number entry.0 (keys_of rest) same)
often_some number (suc at) value (entry ∷ rest) is
    = omega (arith, often_next number entry.0 (keys_of rest), often_some number at value rest is)

found_entry : {V : Type 0} (entries : List (ℕ × V)) (at number : ℕ) (value : V) → slice_get entries at ≡ Some (number, value)
    → ((key : ℕ) → how_often key (keys_of entries) ≤ 1) → lookup (is_at (nat_cmp number)) entries ≡ Some value
found_entry [] at number value is once = absurd (cc is)
found_entry {V} (entry ∷ rest) zero number value is once =
    let same = some_is entry (number, value) is in
    let key : entry.0 ≡ number = ap (λ (e : ℕ × V). e.0) same in
    let passes : is_at (nat_cmp number) entry.0 ≡ true = ap (is_at (nat_cmp number)) key ∙ same_number number in
    ap (λ (b : Bool). cond b (Some entry.1) (lookup (is_at (nat_cmp number)) rest)) passes ∙ ap (λ (e : ℕ × V). Some e.1) same
found_entry {V} (entry ∷ rest) (suc at) number value is once =
    by_test (is_at (nat_cmp number) entry.0) refl
    (found_entry rest at number value is (λ key. omega (arith, often_next key entry.0 (keys_of rest), once key)))
    (often_some number at value rest is)
  where
    by_test : (b : Bool) → is_at (nat_cmp number) entry.0 ≡ b → lookup (is_at (nat_cmp number)) rest ≡ Some value
        → 0 < how_often number (keys_of rest) → lookup (is_at (nat_cmp number)) (entry ∷ rest) ≡ Some value
    by_test true passes beyond some
        = absurd (omega (arith, often_here number entry.0 (keys_of rest) (same_key number entry.0 passes), some, once number))
    by_test false passes beyond some
        = ap (λ (b : Bool). cond b (Some entry.1) (lookup (is_at (nat_cmp number)) rest)) passes ∙ beyond

at_place : {X : Type 0} (P : X → Type 0) (xs : List X) (at : ℕ) (x : X) → All P xs → slice_get xs at ≡ Some x → P x
at_place P [] at x all is = absurd (cc is)
at_place P (y ∷ ys) zero x all is = subst P (some_is y x is) (All-head P y ys all)
at_place P (y ∷ ys) (suc at) x all is = at_place P ys at x (All-tail P y ys all) is

all_false : (a b c : Bool) → a ≡ false → b ≡ false → c ≡ false → a || (b || c) ≡ false
all_false a b c x y z = ap (λ (t : Bool). t || (b || c)) x ∙ ap (λ (t : Bool). t || c) y ∙ z

module _ {T U : Type 0} (names : Naming) (lent : List (ℕ × LentSlot)) (held : List (ℕ × Taken)) (buffer : ℕ) (ports : ServicePorts T U)
    (service : Service T) (stands : StandsFor names lent held buffer ports service) (roomy : AreRoomy ports)
    (lingers : is_lingering ports ≡ false) (keep : AllKeepToOne ports) where
  placed : are_placed ports ≡ true
  placed = ap₂ (λ (b c : Bool). b && c)
      (all_listed (is_publisher_placed ports) 0 ports.publisher_list.places (λ place member is.
      let one = stands.present place member is in
      let same : 0 + place ≡ place = omega arith in
      ap (λ (found : Option (PublisherPort T U)). is_publisher_place (0 + place) found) one.1
      ∙ eq-eqb (one.0).place (0 + place) (one.3 ∙ sym same)))
      (all_listed (is_subscriber_placed ports) 0 ports.subscriber_list.places (λ place member is.
      let one = stands.present_subscribers place member is in
      let same : 0 + place ≡ place = omega arith in
      ap (λ (found : Option SubscriberPort). is_subscriber_place (0 + place) found) one.1
      ∙ eq-eqb (one.0).place (0 + place) (one.3 ∙ sym same)))

  module _ (at number : ℕ) (port : PublisherPort T U) (is : slice_get ports.publishers at ≡ Some (number, port)) where
    found : port_of number ports.publishers ≡ Some port
    found = found_entry ports.publishers at number port is stands.once

    kept : KeepsToOne port
    kept = at_place (λ (entry : ℕ × PublisherPort T U). KeepsToOne entry.1) ports.publishers at (number, port) keep is

    made : IsMadeFor (allowed_by ports.sizes) (number, port)
    made = at_place (IsMadeFor (allowed_by ports.sizes)) ports.publishers at (number, port) roomy.allowed is

    one_for : PublisherIs names ports service number port
    one_for = stands.publishers number port found

    as_agreed : port.sender.uses.kept ≡ ports.sizes.history_size
    as_agreed = ap (λ (m : MadeFor). m.history) made.0

    numbered : is_misnumbered ports.sizes port ≡ false
    numbered =
        ap (λ (b : Bool). not (beq b ports.sizes.sequence_numbers)) (ap (λ (m : MadeFor). m.numbered) made.0)
        ∙ ap not (switch_same ports.sizes.sequence_numbers)

    remembers : remembers_ill ports.sizes port ≡ false
    remembers = ap₂ (λ (b c : Bool). b || c)
        (le-ltb ports.sizes.history_size (length port.sender.uses.history) (omega (arith, kept.few, as_agreed)))
        (none_twice port.sender.uses.history (one_for.2).once)

    waits : (index : ℕ) (connection : Connection (Message T U)) → slice_get port.sender.uses.connections index ≡ Some connection
        → waits_ill ports.sizes connection ≡ false
    waits index connection there = by_stage (is_there connection) refl
      where
        here : connection_of index port ≡ connection
        here = get_or_from_slice_get port.sender.uses.connections index connection nobody there

        within : (length connection.waiting ≤ connection.limit) × (connection.limit ≤ ports.sizes.subscriber_max_buffer_size)
        within =
            let all = made.1 index in
            subst (λ (c : Connection (Message T U)). (length c.waiting ≤ c.limit) × (c.limit ≤ ports.sizes.subscriber_max_buffer_size)) here
            (all.0, all.1)

        once : (slot : ℕ) → times slot (map (λ (one : Message T U). one.slot) connection.waiting) ≤ 1
        once slot =
            let both : times slot (map (λ (one : Message T U). one.slot) (connection.waiting ++ connection.borrowed)) ≤ 1
            = subst (λ (c : Connection (Message T U)). times slot (map (λ (one : Message T U). one.slot) (held_by c)) ≤ 1) here
            ((one_for.3).once index slot) in
            let split : times slot (map (λ (one : Message T U). one.slot) (connection.waiting ++ connection.borrowed))
            ≡ times slot (map (λ (one : Message T U). one.slot) connection.waiting)
            + times slot (map (λ (one : Message T U). one.slot) connection.borrowed)
            = ap (times slot) (map-append (λ (one : Message T U). one.slot) connection.waiting connection.borrowed)
            ∙ times_front slot (map (λ (one : Message T U). one.slot) connection.waiting)
            (map (λ (one : Message T U). one.slot) connection.borrowed) in
            omega (arith, both, split)

        none_empty : is_there connection ≡ true → (connection.limit == 0) ≡ false
        none_empty opened =
            let some : 0 < connection.limit = subst (λ (c : Connection (Message T U)). 0 < c.limit) here
            (kept.some index (ap is_there here ∙ opened)) in
            elim (eqb_tells connection.limit 0) [
              | inl same ↦ absurd (omega (arith, same.1, some))
              | inr other ↦ other.0
            ]

        by_stage : (b : Bool) → is_there connection ≡ b → waits_ill ports.sizes connection ≡ false
        by_stage false is_it = ap (λ (b : Bool). b && ((connection.limit == 0)
            || (nat_lt ports.sizes.subscriber_max_buffer_size connection.limit
            || (nat_lt connection.limit (length connection.waiting) || has_twice connection.waiting)))) is_it
        by_stage true is_it = ap (λ (b : Bool). b && ((connection.limit == 0)
            || (nat_lt ports.sizes.subscriber_max_buffer_size connection.limit
            || (nat_lt connection.limit (length connection.waiting) || has_twice connection.waiting)))) is_it
            ∙ ap (λ (b : Bool). b || (nat_lt ports.sizes.subscriber_max_buffer_size connection.limit
            || (nat_lt connection.limit (length connection.waiting) || has_twice connection.waiting))) (none_empty is_it)
            ∙ all_false (nat_lt ports.sizes.subscriber_max_buffer_size connection.limit)
            (nat_lt connection.limit (length connection.waiting)) (has_twice connection.waiting)
            (le-ltb ports.sizes.subscriber_max_buffer_size connection.limit within.1)
            (le-ltb connection.limit (length connection.waiting) within.0) (none_twice connection.waiting once)

    fits : is_misfit ports.sizes port ≡ false
    fits =
        let one : nat_lt 0 port.sender.uses.first ≡ false = ap (nat_lt 0) kept.first in
        let two : not (port.sender.uses.kept == ports.sizes.history_size) ≡ false
        = ap not (eq-eqb port.sender.uses.kept ports.sizes.history_size as_agreed) in
        ap (λ (b : Bool). b || (nat_lt 0 port.sender.uses.first || (not (port.sender.uses.kept == ports.sizes.history_size)
        || (remembers_ill ports.sizes port || list_any (waits_ill ports.sizes) port.sender.uses.connections)))) numbered
        ∙ ap (λ (b : Bool). b || (not (port.sender.uses.kept == ports.sizes.history_size)
        || (remembers_ill ports.sizes port || list_any (waits_ill ports.sizes) port.sender.uses.connections))) one
        ∙ all_false (not (port.sender.uses.kept == ports.sizes.history_size)) (remembers_ill ports.sizes port)
        (list_any (waits_ill ports.sizes) port.sender.uses.connections) two remembers
        (none_of (waits_ill ports.sizes) port.sender.uses.connections waits)

  module _ (at number : ℕ) (port : SubscriberPort) (is : slice_get ports.subscribers at ≡ Some (number, port)) where
    standing : port.stands ≡ true
    standing =
        let none = (neither (list_any (publisher_lingers ports.publisher_list) ports.publishers)
        (list_any (subscriber_lingers ports.subscriber_list ports.publishers) ports.subscribers) lingers).1 in
        not_false port.stands (neither (not port.stands) _
        (not_of (subscriber_lingers ports.subscriber_list ports.publishers) ports.subscribers at (number, port) none is)).0

    once_attached : attaches_twice port ≡ false
    once_attached = none_below (comes_again port) (length port.connections.values) (λ key below.
        none_below (λ other. share_publisher (attached_at other port) (attached_at key port)) key (λ other before.
        by_both other key before (attached_at other port) (attached_at key port) refl refl))
      where
        apart : (key other : ℕ) (one two : Attached) → attached_at key port ≡ Some one → attached_at other port ≡ Some two
            → one.publisher ≡ two.publisher → key ≡ other
        apart = (at_place (λ (entry : ℕ × SubscriberPort). ReadsApartEntry ports entry) ports.subscribers at (number, port) roomy.apart is
            standing).apart

        by_both : (other key : ℕ) → other < key → (one two : Option Attached) → attached_at other port ≡ one → attached_at key port ≡ two
            → share_publisher one two ≡ false
        by_both other key before None two first second = refl
        by_both other key before (Some one) None first second = refl
        by_both other key before (Some one) (Some two) first second = elim (eqb_tells one.publisher two.publisher) [
          | inl same ↦ absurd (omega (arith, before, apart other key one two first second same.1))
          | inr different ↦ different.0
        ]

  sound : is_unsound ports ≡ false
  sound = all_false (not (are_placed ports)) (list_any (λ entry. is_misfit ports.sizes entry.1) ports.publishers)
      (list_any (λ entry. attaches_twice entry.1) ports.subscribers) (ap not placed)
      (none_of (λ entry. is_misfit ports.sizes entry.1) ports.publishers (λ at entry is. fits at entry.0 entry.1 is))
      (none_of (λ entry. attaches_twice entry.1) ports.subscribers (λ at entry is. once_attached at entry.0 entry.1 is))

pub standing_ports_are_sound : {T U : Type 0} → StandingPortsAreSound T U
standing_ports_are_sound names lent held buffer ports service stands roomy lingers keep
    = sound names lent held buffer ports service stands roomy lingers keep

-- A publisher gets what lanes leave that go with it.
use Rattle.std.proofs.Common.{arith, ◌≡◌, ◌+◌, ◌*◌, ◌<◌, ◌≤◌, ◌==◌, [], ◌∷◌, ℕ, zero, suc, Bool, true, false, cond, nat_lt, List, length}
use Rattle.std.proofs.Common.{inl, inr, take, drop, get_or, slice_get, Option, None, Some, option_map, refl, sym, subst, ap, ◌∙◌}
use Rattle.std.specs.List.{position_or_len}
use Rattle.std.specs.Bool.{OnTrue}
use Rattle.std.proofs.lemmas.Bool.{OnTrue_at, cond-true, cond-false, lt-ltb}
use Rattle.std.proofs.lemmas.Bool.Decides.{eqb_tells}
use Rattle.std.proofs.lemmas.List.Sums.{passes_at_first, position_or_len_is}
use Rattle.std.proofs.lemmas.Option.{get_or_from_slice_get, slice_get-get_or, slice_get_within}
use Rattle.iox_domain.specs.DomainPorts.Ports.{connection_of}
use Rattle.iox_domain.specs.DomainPorts.declared.publisher_port.PublisherPort.{PublisherPort}
use Rattle.iox_lanes_opening.specs.Restored.{IsRested, IsRestored, MayWaitAt, place_of, with_waiting}
use Rattle.iox_lanes_opening.specs.Restoring.{IsOwn, MayRememberAll, MayWaitAll}
use Rattle.iox_lanes_machine.specs.Fixed.{fixed_slots}
use Rattle.iox_lanes_machine.specs.Kept.{IsWithin}
use Rattle.iox_lanes_machine.specs.LanesParties.Parties.{PublisherLaneState}
use Rattle.iox_lanes_machine.specs.LanesParties.Within.{IsPublisher}
use Rattle.iox_lanes_machine.specs.Links.{LinkState}
use Rattle.iox_lanes_machine.specs.Owned.{IsSlotOf, MailIsOwn, MailHasRoom, RemembersOwn, HistoriesAreOwn}
use Rattle.iox_lanes_machine.specs.World.{World}
use Rattle.iox_lanes.specs.Joined.{HasSlotsIf, HasSlotsOf, IsLinkToIf, row_of}
use Rattle.iox_lanes.specs.Returning.{AllRest, IsPortLeft, JoinsAt}
use Rattle.iox_lanes.specs.Spelling.{ReadingBack}

-- what lanes keep, so far as it is wanted here
pub record LanesKeep (lanes : World) : Type 0 where
  pub within : IsWithin lanes
  pub mail : (connection : ℕ) → MailIsOwn lanes connection
  pub room : (connection : ℕ) → MailHasRoom lanes connection
  pub histories : HistoriesAreOwn lanes

one_lane : (one other : PublisherLaneState) → Some one ≡ Some other → one ≡ other
one_lane one other same = cc same

-- a slot of the publisher at a place is one of its lane
slot_of : (lanes : World) (place slot : ℕ) (lane : PublisherLaneState) → slice_get lanes.publishers place ≡ Some lane
    → IsSlotOf lanes place slot
    → (lane.port.book.first ≤ slot) × (slot < lane.port.book.first + length lane.port.book.loans)
slot_of lanes place slot lane found mine =
    subst (λ (l : PublisherLaneState). (l.port.book.first ≤ slot) × (slot < l.port.book.first + length l.port.book.loans))
    (one_lane mine.lane lane (sym mine.found ∙ found)) (mine.above, mine.below)

publisher_within : (lanes : World) (place : ℕ) (lane : PublisherLaneState) → IsWithin lanes
    → slice_get lanes.publishers place ≡ Some lane → IsPublisher lanes.table.sizes lane
publisher_within lanes place lane within found =
    subst (IsPublisher lanes.table.sizes) (get_or_from_slice_get lanes.publishers place lane lane found)
    (within.publishers place lane (slice_get_within lanes.publishers place lane found))

-- it is one of the publisher's current segment
own_of : {T U : Type 0} (lanes : World) (place slot : ℕ) (lane : PublisherLaneState) (port : PublisherPort T U) → IsWithin lanes
    → slice_get lanes.publishers place ≡ Some lane → HasSlotsOf port (fixed_slots lane) → IsSlotOf lanes place slot
    → IsOwn lane.port.book.first slot lanes.table.sizes.slots port.sender.uses
own_of lanes place slot lane port within found has mine =
    let there = slot_of lanes place slot lane found mine in
    let bounds = (publisher_within lanes place lane within found).slots in
    record {
      from = there.0;
      there = omega (arith, there.1, bounds);
      behind = omega (arith, has.first);
      within = omega (arith, there.0, there.1, has.first, has.slots);
    }

taken : (n s x : ℕ) (xs : List ℕ) → slice_get (take n xs) s ≡ Some x → slice_get xs s ≡ Some x
taken zero s x xs is = absurd (cc is)
taken (suc n) s x [] is = is
taken (suc n) zero x (y ∷ xs) is = is
taken (suc n) (suc s) x (y ∷ xs) is = taken n s x xs is

few_taken : (n s : ℕ) (xs : List ℕ) → s < length (take n xs) → s < n
few_taken zero s xs few = absurd (omega (arith, few))
few_taken (suc n) s [] few = absurd (omega (arith, few))
few_taken (suc n) zero (y ∷ xs) few = omega arith
few_taken (suc n) (suc s) (y ∷ xs) few = let less : s < n = few_taken n s xs (omega (arith, few)) in omega (arith, less)

dropped : (n s : ℕ) (xs : List ℕ) → slice_get (drop n xs) s ≡ slice_get xs (n + s)
dropped zero s xs = let same : s ≡ 0 + s = omega arith in ap (slice_get xs) same
dropped (suc n) s [] = refl
dropped (suc n) s (y ∷ xs) = let same : suc (n + s) ≡ suc n + s = omega arith in dropped n s xs ∙ ap (slice_get (y ∷ xs)) same

-- the index at a place of a row is one of all indices
pub row_get : (readers place s index : ℕ) (indices : List ℕ) → slice_get (row_of readers indices place) s ≡ Some index
    → slice_get indices (place * readers + s) ≡ Some index
row_get readers place s index indices is
    = sym (dropped (place * readers) s indices) ∙ taken readers s index (drop (place * readers) indices) is

-- the first place of an index has it
pub record IsFirst (line : List ℕ) (index s : ℕ) : Type 0 where
  pub below : s < length line
  pub has : slice_get line s ≡ Some index

pub first_is : (line : List ℕ) (index s : ℕ) → place_of index line ≡ Some s → IsFirst line index s
first_is line index s is = by (nat_lt n (length line)) refl
  where
    n : ℕ
    n = position_or_len (λ it. it == index) line

    equal : (x : ℕ) → (x == index) ≡ true → x ≡ index
    equal x same = elim (eqb_tells x index) [
      | inl both ↦ both.1
      | inr apart ↦ absurd (cc (sym same ∙ apart.0))
    ]

    by : (less : Bool) → nat_lt n (length line) ≡ less → IsFirst line index s
    by true less =
        let here : n ≡ s = cc (sym (cond-true (nat_lt n (length line)) (Some n) None less) ∙ is) in
        let below : n < length line = grind (arith, less) in
        subst (IsFirst line index) here (record {
          below = below;
          has = slice_get-get_or line n 0 below ∙ ap Some (equal (get_or line n 0) (passes_at_first (λ it. it == index) line 0 below));
        })
    by false less = absurd (cc (sym (cond-false (nat_lt n (length line)) (Some n) None less) ∙ is))

-- and a place that has it is the first, if none before it does
pub first_place : (line : List ℕ) (at index : ℕ) → slice_get line at ≡ Some index
    → ((k : ℕ) → k < at → slice_get line k ≡ Some index → ⊥) → place_of index line ≡ Some at
first_place line at index there before =
    ap (λ n. cond (nat_lt n (length line)) (Some n) None) first ∙ cond-true (nat_lt at (length line)) (Some at) None
    (lt-ltb at (length line) long)
  where
    long : at < length line
    long = slice_get_within line at index there

    equal : (get_or line at 0 == index) ≡ true
    equal = elim (eqb_tells (get_or line at 0) index) [
      | inl same ↦ same.0
      | inr apart ↦ absurd (apart.1 (get_or_from_slice_get line at index 0 there))
    ]

    unequal : (k : ℕ) → k < at → (get_or line k 0 == index) ≡ false
    unequal k less = elim (eqb_tells (get_or line k 0) index) [
      | inl same ↦ absurd (before k less (slice_get-get_or line k 0 (omega (arith, less, long)) ∙ ap Some same.1))
      | inr apart ↦ apart.0
    ]

    first : position_or_len (λ it. it == index) line ≡ at
    first = position_or_len_is (λ it. it == index) line at 0 (omega (arith, long)) unequal (λ less. equal)

-- what the lanes leave at the connection of an index may wait there
may_wait : {T U : Type 0} (lanes : World) (place readers : ℕ) (indices : List ℕ) (lane : PublisherLaneState) (port : PublisherPort T U)
    → LanesKeep lanes → AllRest lanes → slice_get lanes.publishers place ≡ Some lane
    → HasSlotsOf port (fixed_slots lane) → JoinsAt lanes (Some port) place readers indices
    → (index : ℕ) (at : Option ℕ) → place_of index (row_of readers indices place) ≡ at
    → MayWaitAt lanes (place * readers) lane.port.book.first index port.sender at
may_wait lanes place readers indices lane port keep rest found has joins index None is = tt
may_wait lanes place readers indices lane port keep rest found has joins index (Some s) is =
    let first = first_is (row_of readers indices place) index s is in
    let there = row_get readers place s index indices first.has in
    let link = joins.linking s (few_taken readers s (drop (place * readers) indices) first.below) in
    by (slice_get lanes.links (place * readers + s)) refl
    (subst (λ i. IsLinkToIf (Some port) place s (row_of readers indices place) i (slice_get lanes.links (place * readers + s)))
    there link)
  where
    by : (at : Option LinkState) → slice_get lanes.links (place * readers + s) ≡ at
        → IsLinkToIf (Some port) place s (row_of readers indices place) (Some index) at
        → MayWaitAll lanes (place * readers + s) lane.port.book.first index port.sender
    by None got to = absurd to
    by (Some link) got to = record {
      rests = rest (place * readers + s);
      own = λ at slot stands. own_of lanes place slot lane port keep.within found has
          (subst (λ p. IsSlotOf lanes p slot) to.from
          (keep.mail (place * readers + s) (rest (place * readers + s)).few link got at slot stands));
      live = to.live;
      room = omega (arith, keep.room (place * readers + s) (rest (place * readers + s)) link got, to.limit);
    }

-- and its history may be remembered
may_remember : {T U : Type 0} (lanes : World) (place : ℕ) (lane : PublisherLaneState) (port : PublisherPort T U) → LanesKeep lanes
    → AllRest lanes → slice_get lanes.publishers place ≡ Some lane → HasSlotsOf port (fixed_slots lane)
    → MayRememberAll lanes.table lane.port.book.history lane.port.book.first port.sender
may_remember lanes place lane port keep rest found has = record {
  own = λ at slot is. own_of lanes place slot lane port keep.within found has (remembers.own at slot is);
  room = omega (arith, remembers.few, has.kept);
}
  where
    remembers : RemembersOwn lanes place lane
    remembers = keep.histories (rest 0).few place lane found

-- so a publisher that was restored is as the lanes leave it
pub port_left : {T U : Type 0} (reading : ReadingBack T U) (lanes : World) (place readers : ℕ) (indices : List ℕ)
    (lane : PublisherLaneState) (old new : PublisherPort T U)
    → LanesKeep lanes → AllRest lanes → slice_get lanes.publishers place ≡ Some lane → JoinsAt lanes (Some old) place readers indices
    → new ≡ record old { last_sequence = lane.last; sender = new.sender }
    → (IsRested old.sender → IsRestored reading.payload reading.middle lanes (place * readers) (row_of readers indices place)
    lane.port.book.first
    lane.port.book.history old.sender new.sender)
    → IsPortLeft reading lanes (place * readers) (row_of readers indices place) lane old new
port_left reading lanes place readers indices lane old new keep rest found joins only restored = record {
  rest = only ∙ ap (λ sender. record old { last_sequence = lane.last; sender = sender }) done.rest;
  count = done.count;
  each = λ index. done.each index ∙ ap (with_waiting (connection_of index old))
      (done.waits index (may_wait lanes place readers indices lane old keep rest found has joins index
      (place_of index (row_of readers indices place)) refl));
  history = done.remembers (may_remember lanes place lane old keep rest found has);
}
  where
    has : HasSlotsOf old (fixed_slots lane)
    has = subst (λ at. HasSlotsIf (Some old) (option_map fixed_slots at)) found joins.slots

    done : IsRestored reading.payload reading.middle lanes (place * readers) (row_of readers indices place) lane.port.book.first
        lane.port.book.history old.sender new.sender
    done = restored has.rested

passed : (answer : Bool) → (answer ≡ false → ⊥) → answer ≡ true
passed true fails = refl
passed false fails = absurd (fails refl)

-- what a test that doesn't fail tells
pub told : {A : Type 0} (answer : Bool) → (answer ≡ false → ⊥) → OnTrue answer A → A
told answer fails given = OnTrue_at (passed answer fails) given

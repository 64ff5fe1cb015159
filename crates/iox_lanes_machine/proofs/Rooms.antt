-- How many slots a connection has, step by step.
use Rattle.std.proofs.Common.{ℕ, ◌≡◌, ◌+◌, ◌-◌, ◌<◌, ◌≤◌, Bool, true, false, nat_lt, if◌then◌else◌, List, [], ◌∷◌, ◌++◌, length, get_or}
use Rattle.std.proofs.Common.{remove, Option, Some, None, refl, sym, ◌∙◌, ap, inl, inr, arith}
use Rattle.std.proofs.lemmas.Bool.{cases_lt}
use Rattle.std.proofs.lemmas.Bool.Decides.{eqb_tells}
use Rattle.iox_lanes_parties.specs.QueuesSteps.Access.{successor}
use Rattle.iox_lanes_parties.specs.LanesBase.declared.calls.publisher.PublisherChange.{PublisherChange}
use Rattle.iox_lanes_parties.specs.LanesBase.declared.calls.publisher.PublisherChange.TheVariants as change
use Rattle.iox_lanes_parties.specs.PublisherKeeping.{BookState, changed, lent, lent_from, first_free, newest_of, unlent, dropped}
use Rattle.iox_lanes_parties.specs.PublisherKeeping.{remembered, counted_down}
use Rattle.iox_lanes_parties.specs.declared.publisher.slot_book.LoanAnswer.TheVariants as answer
use Rattle.iox_lanes_machine.specs.LedgerRooms.{slots_at}
use Rattle.iox_lanes_machine.specs.LedgerUses.{one_if, count, total, refers_to, UsesCounted, ChangeFits}
use Rattle.iox_lanes_machine.proofs.Changes.{put_by, lost_by, IsChangeAt, IsElse, else_refers, refers_there, refers_elsewhere}
use Rattle.iox_lanes_machine.proofs.Entries.{put_at_length, refers_own, total_none}
use Rattle.iox_lanes_machine.proofs.Sums.{sum, total_is, sum_same, sum_plus, sum_count, sum_count_le, sum_within, sum_at}

-- a change leaves which slots are the publisher's
pub record SameSlots (book after : BookState) : Type 0 where
  pub first : after.first ≡ book.first
  pub slots : length after.uses ≡ length book.uses

lent_slots : (book : BookState) → SameSlots book (lent book)
lent_slots book = by_test (nat_lt book.out book.most_loans)
  where
    by_free : (at : Option ℕ) → SameSlots book (lent_from book at)
    by_free None = record { first = refl; slots = refl }
    by_free (Some index) = record { first = refl; slots = put_at_length book.uses index (successor (get_or book.uses index 0)) }

    by_test : (b : Bool) → SameSlots book
        (if b then lent_from book (first_free book.uses 0) else record book { answer = Some answer.ExceedsMaxLoans })
    by_test true = by_free (first_free book.uses 0)
    by_test false = record { first = refl; slots = refl }

remembered_slots : (slot : ℕ) (book : BookState) → SameSlots book (remembered slot book)
remembered_slots slot book = by_kept (nat_lt 0 book.kept)
  where
    by_room : (b : Bool) → SameSlots book
        (if b then record (unlent slot book) { history = book.history ++ slot ∷ [] } else record (unlent slot book)
        { history = remove book.history 0 ++ slot ∷ []; uses = counted_down book.uses (get_or book.history 0 0 - book.first) })
    by_room true = record { first = refl; slots = refl }
    by_room false = record {
      first = refl;
      slots
          = put_at_length book.uses (get_or book.history 0 0 - book.first) (get_or book.uses (get_or book.history 0 0 - book.first) 0 - 1);
    }

    by_kept : (b : Bool) → SameSlots book (if b then newest_of slot (unlent slot book) else dropped slot book)
    by_kept true = by_room (nat_lt (length book.history) book.kept)
    by_kept false = record
        { first = refl; slots = put_at_length book.uses (slot - book.first) (get_or book.uses (slot - book.first) 0 - 1) }

pub same_slots : (c : PublisherChange) (book : BookState) → SameSlots book (changed c book)
same_slots change.Nothing book = record { first = refl; slots = refl }
same_slots change.Lend book = lent_slots book
same_slots (change.Mark v) book = record { first = refl; slots = refl }
same_slots (change.Remember v) book = remembered_slots v book
same_slots (change.TakenBack p v) book
    = record { first = refl; slots = put_at_length book.uses (v - book.first) (get_or book.uses (v - book.first) 0 - 1) }
same_slots (change.Put p v) book = record
    { first = refl; slots = put_at_length book.uses (v - book.first) (successor (get_or book.uses (v - book.first) 0)) }
same_slots (change.LeftOut p v) book
    = record { first = refl; slots = put_at_length book.uses (v - book.first) (get_or book.uses (v - book.first) 0 - 1) }
same_slots (change.DropLoan v) book
    = record { first = refl; slots = put_at_length book.uses (v - book.first) (get_or book.uses (v - book.first) 0 - 1) }

-- the slots of a connection as a sum
pub slots_sum : (book : BookState) (place : ℕ)
    → slots_at book place ≡ sum (λ k. one_if (refers_to book place (book.first + k))) (length book.uses)
slots_sum book place = total_is (λ k. refers_to book place (book.first + k)) (length book.uses)

-- after a change they are those of the slots before it
pub slots_after : (c : PublisherChange) (book : BookState) (place : ℕ)
    → slots_at (changed c book) place ≡ sum (λ k. one_if (refers_to (changed c book) place (book.first + k))) (length book.uses)
slots_after c book place =
    let same = same_slots c book in
    slots_sum (changed c book) place
    ∙ ap (λ (n : ℕ). sum (λ k. one_if (refers_to (changed c book) place ((changed c book).first + k))) n) same.slots
    ∙ ap (λ (f : ℕ). sum (λ k. one_if (refers_to (changed c book) place (f + k))) (length book.uses)) same.first

-- a change elsewhere leaves how many a connection has
pub slots_same : (c : PublisherChange) (book : BookState) (place : ℕ)
    → ((slot : ℕ) → refers_to (changed c book) place slot ≡ refers_to book place slot)
    → slots_at (changed c book) place ≡ slots_at book place
slots_same c book place h =
    slots_after c book place ∙ sum_same _ _ (length book.uses) (λ k lt. ap one_if (h (book.first + k))) ∙ sym (slots_sum book place)

pub slots_else : (c : PublisherChange) (book : BookState) (place : ℕ) → IsElse c → slots_at (changed c book) place ≡ slots_at book place
slots_else c book place h = slots_same c book place (λ slot. else_refers book c h place slot)

pub slots_elsewhere : (connections here : ℕ) (c : PublisherChange) (book : BookState) (place : ℕ) → IsChangeAt here c
    → ChangeFits connections book c → (place ≡ here → ⊥) → slots_at (changed c book) place ≡ slots_at book place
slots_elsewhere connections here c book place at fits not
    = slots_same c book place (λ slot. refers_elsewhere connections here book c at fits place slot not)

-- a change puts and takes away slots of the publisher
one_is : (v x : ℕ) → 0 < count x (v ∷ []) → v ≡ x
one_is v x some = elim (eqb_tells v x) [
  | inl same ↦ same.1
  | inr other ↦ absurd (omega (arith, some, ap one_if other.0))
]

own_put : (connections : ℕ) (book : BookState) (c : PublisherChange) → ChangeFits connections book c → (x : ℕ) → 0 < count x (put_by c)
    → (book.first ≤ x) × (x < book.first + length book.uses)
own_put connections book change.Nothing fits x some = absurd (omega (arith, some))
own_put connections book change.Lend fits x some = absurd (omega (arith, some))
own_put connections book (change.Mark v) fits x some = absurd (omega (arith, some))
own_put connections book (change.Remember v) fits x some = absurd (omega (arith, some))
own_put connections book (change.TakenBack p v) fits x some = absurd (omega (arith, some))
own_put connections book (change.Put p v) fits x some = let is
    = one_is v x some in (omega (arith, is, fits.own.above), omega (arith, is, fits.own.below))
own_put connections book (change.LeftOut p v) fits x some = absurd (omega (arith, some))
own_put connections book (change.DropLoan v) fits x some = absurd (omega (arith, some))

own_lost : (connections : ℕ) (book : BookState) (c : PublisherChange) → ChangeFits connections book c → (x : ℕ)
    → 0 < count x (lost_by c) → (book.first ≤ x) × (x < book.first + length book.uses)
own_lost connections book change.Nothing fits x some = absurd (omega (arith, some))
own_lost connections book change.Lend fits x some = absurd (omega (arith, some))
own_lost connections book (change.Mark v) fits x some = absurd (omega (arith, some))
own_lost connections book (change.Remember v) fits x some = absurd (omega (arith, some))
own_lost connections book (change.TakenBack p v) fits x some =
    let is = one_is v x some in
    let own = refers_own book.first (length book.uses) book.referred p v fits.has in
    (omega (arith, is, own.0), omega (arith, is, own.1))
own_lost connections book (change.Put p v) fits x some = absurd (omega (arith, some))
own_lost connections book (change.LeftOut p v) fits x some =
    let is = one_is v x some in
    let own = refers_own book.first (length book.uses) book.referred p v fits.has in
    (omega (arith, is, own.0), omega (arith, is, own.1))
own_lost connections book (change.DropLoan v) fits x some = absurd (omega (arith, some))

-- at its place a change adds as many as it puts, and takes away as many as it loses
pub slots_there : (connections here : ℕ) (c : PublisherChange) (book : BookState) → IsChangeAt here c → ChangeFits connections book c
    → UsesCounted connections book
    → slots_at (changed c book) here + length (lost_by c) ≡ slots_at book here + length (put_by c)
slots_there connections here c book at fits k =
    let n : ℕ = length book.uses in
    let after : ℕ → ℕ = λ i. one_if (refers_to (changed c book) here (book.first + i)) in
    let before : ℕ → ℕ = λ i. one_if (refers_to book here (book.first + i)) in
    let lost : ℕ → ℕ = λ i. count (book.first + i) (lost_by c) in
    let put : ℕ → ℕ = λ i. count (book.first + i) (put_by c) in
    omega (
      arith,
      slots_after c book here,
      slots_sum book here,
      sum_count book.first n (lost_by c) (own_lost connections book c fits),
      sum_count book.first n (put_by c) (own_put connections book c fits),
      sum_plus after lost n,
      sum_plus before put n,
      sum_same (λ i. after i + lost i) (λ i. before i + put i) n (λ i lt. refers_there connections here book c at fits k (book.first + i)),
    )

-- a connection that has a slot has some
pub some_slot : (book : BookState) (place slot : ℕ) → refers_to book place slot ≡ true → 0 < slots_at book place
some_slot book place slot has = elim (cases_lt 0 (slots_at book place)) [
  | inl lt ↦ lt
  | inr none ↦
      let own = refers_own book.first (length book.uses) book.referred place slot has in
      let e : book.first + (slot - book.first) ≡ slot = omega (arith, own.0) in
      let off : refers_to book place (book.first + (slot - book.first)) ≡ false
      = total_none (λ k. refers_to book place (book.first + k)) (length book.uses) (slot - book.first) (omega (arith, none))
      (omega (arith, own.0, own.1)) in
      absurd (cc (sym has ∙ ap (refers_to book place) (sym e) ∙ off))
]

-- what stands at a connection, slot by slot: waiting, aside, borrowed and given back
abbrev pub Balances : BookState → ℕ → List ℕ → List ℕ → (ℕ → Bool) → List ℕ → Type 0
Balances book place waits aside borrowed back = (s : ℕ)
    → count s waits + count s aside + one_if (borrowed s) + count s back ≡ one_if (refers_to book place s)

balanced_sum : (book : BookState) (place : ℕ) (waits aside : List ℕ) (borrowed : ℕ → Bool) (back : List ℕ)
    → Balances book place waits aside borrowed back
    → sum (λ k. count (book.first + k) waits) (length book.uses) + sum (λ k. count (book.first + k) aside) (length book.uses) + sum
    (λ k. one_if (borrowed (book.first + k))) (length book.uses) + sum (λ k. count (book.first + k) back) (length book.uses)
    ≡ slots_at book place
balanced_sum book place waits aside borrowed back h =
    let n : ℕ = length book.uses in
    let w : ℕ → ℕ = λ k. count (book.first + k) waits in
    let a : ℕ → ℕ = λ k. count (book.first + k) aside in
    let b : ℕ → ℕ = λ k. one_if (borrowed (book.first + k)) in
    let g : ℕ → ℕ = λ k. count (book.first + k) back in
    omega (
      arith,
      slots_sum book place,
      sum_plus w a n,
      sum_plus (λ k. w k + a k) b n,
      sum_plus (λ k. w k + a k + b k) g n,
      sum_same (λ k. w k + a k + b k + g k) (λ k. one_if (refers_to book place (book.first + k))) n (λ k lt. h (book.first + k)),
    )

-- a connection has no more slots than stand there
pub slots_most : (book : BookState) (place all : ℕ) (waits aside : List ℕ) (borrowed : ℕ → Bool) (back : List ℕ)
    → book.first + length book.uses ≤ all → Balances book place waits aside borrowed back
    → slots_at book place ≤ length waits + length aside + total borrowed all + length back
slots_most book place all waits aside borrowed back le h =
    let n : ℕ = length book.uses in
    omega (
      arith,
      balanced_sum book place waits aside borrowed back h,
      sum_count_le book.first n waits,
      sum_count_le book.first n aside,
      sum_count_le book.first n back,
      sum_within (λ s. one_if (borrowed s)) book.first n all le,
      total_is borrowed all,
    )

has_one : (b : Bool) (n : ℕ) → 0 < n → n ≤ one_if b → b ≡ true
has_one true n some le = refl
has_one false n some le = absurd (omega (arith, some, le))

-- while one of its slots is borrowed, a connection has more than were given back
pub slots_beside : (book : BookState) (place v : ℕ) (waits aside : List ℕ) (borrowed : ℕ → Bool) (back : List ℕ) → borrowed v ≡ true
    → Balances book place waits aside borrowed back → length back < slots_at book place
slots_beside book place v waits aside borrowed back on h =
    let n : ℕ = length book.uses in
    let own = refers_own book.first n book.referred place v
    (has_one (refers_to book place v) (one_if (borrowed v)) (omega (arith, ap one_if on)) (omega (arith, h v))) in
    let e : book.first + (v - book.first) ≡ v = omega (arith, own.0) in
    omega (
      arith,
      balanced_sum book place waits aside borrowed back h,
      sum_count book.first n back (λ x some. refers_own book.first n book.referred place x
          (has_one (refers_to book place x) (count x back) some (omega (arith, h x)))),
      sum_at (λ k. one_if (borrowed (book.first + k))) n (v - book.first) (omega (arith, own.0, own.1)),
      ap (λ (s : ℕ). one_if (borrowed s)) e,
      ap one_if on,
    )

-- a connection of which something was given back has a slot
pub slots_back : (book : BookState) (place : ℕ) (waits aside : List ℕ) (borrowed : ℕ → Bool) (back : List ℕ) → 0 < length back
    → Balances book place waits aside borrowed back → 0 < slots_at book place
slots_back book place waits aside borrowed back some h =
    let n : ℕ = length book.uses in
    omega (
      arith,
      some,
      balanced_sum book place waits aside borrowed back h,
      sum_count book.first n back (λ x some. refers_own book.first n book.referred place x
          (has_one (refers_to book place x) (count x back) some (omega (arith, h x)))),
    )

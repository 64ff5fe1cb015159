-- What the steps of calls change of the record of who has which slot: it follows what the rings take and give.
use Rattle.std.proofs.Common.{ℕ, ◌≡◌, ◌+◌, ◌-◌, ◌*◌, ◌<◌, ◌≤◌, ◌==◌, ◌⊎◌, Bool, true, false, if◌then◌else◌, nat_lt, List, [], ◌∷◌, ◌++◌}
use Rattle.std.proofs.Common.{length, get_or, remove, Option, Some, None, refl, sym, ◌∙◌, ap, subst, inl, inr, arith}
use Rattle.std.proofs.lemmas.Bool.Decides.{eqb_tells}
use Rattle.iox_lanes_parties.specs.QueuesSteps.Access.{RingWords, successor, answer_of}
use Rattle.iox_lanes_parties.specs.QueuesSteps.declared.rings.overflowing.push.Push.TheVariants as overflowing_push
use Rattle.iox_lanes_parties.specs.QueuesSteps.declared.rings.overflowing.pop.Pop.TheVariants as overflowing_pop
use Rattle.iox_lanes_parties.specs.QueuesSteps.Overflowing as overflowing
use Rattle.iox_lanes_parties.specs.QueuesSteps.Refusing as refusing
use Rattle.iox_lanes_parties.specs.QueuesSteps.declared.rings.refusing.push.Push as refusing_push_type
use Rattle.iox_lanes_parties.specs.QueuesSteps.declared.rings.refusing.push.Push.TheVariants as refusing_push
use Rattle.iox_lanes_parties.specs.QueuesSteps.declared.rings.refusing.pop.Pop as refusing_pop_type
use Rattle.iox_lanes_parties.specs.QueuesSteps.declared.rings.refusing.pop.Pop.TheVariants as refusing_pop
use Rattle.iox_lanes_parties.specs.QueuesSteps.Ends.{push_next, pop_next, pop_take}
use Rattle.iox_lanes_parties.specs.QueuesSteps.declared.rings.ends.Push.{Push}
use Rattle.iox_lanes_parties.specs.QueuesSteps.declared.rings.ends.Push.TheVariants as push
use Rattle.iox_lanes_parties.specs.QueuesSteps.declared.rings.ends.Pop.{Pop}
use Rattle.iox_lanes_parties.specs.QueuesSteps.declared.rings.ends.Pop.TheVariants as pop
use Rattle.iox_lanes_parties.specs.LanesBase.Answers.{pop_answer, refusing_pop_answer}
use Rattle.iox_lanes_parties.specs.LanesBase.Publishing.{taken_back, push_change}
use Rattle.iox_lanes_parties.specs.LanesBase.Subscribing.{borrowed_by, given_back_by}
use Rattle.iox_lanes_parties.specs.LanesBase.declared.calls.publisher.PublisherChange.{PublisherChange}
use Rattle.iox_lanes_parties.specs.LanesBase.declared.calls.publisher.PublisherChange.TheVariants as change
use Rattle.iox_lanes_parties.specs.LanesBase.declared.calls.subscriber.SubscriberChange.{SubscriberChange}
use Rattle.iox_lanes_parties.specs.LanesBase.declared.calls.subscriber.SubscriberChange.TheVariants as own_change
use Rattle.iox_lanes_parties.specs.PublisherKeeping.{BookState, changed, put_at, referred_at, unreferred_at, lent, lent_from, first_free}
use Rattle.iox_lanes_parties.specs.PublisherKeeping.{newest_of, unlent, dropped, remembered, counted_down}
use Rattle.iox_lanes_parties.specs.declared.publisher.slot_book.LoanMark.{LoanMark}
use Rattle.iox_lanes_parties.specs.declared.publisher.slot_book.LoanMark.TheVariants as mark
use Rattle.iox_lanes_parties.specs.declared.publisher.slot_book.LoanAnswer.TheVariants as answer
use Rattle.iox_lanes_parties.specs.Parties.{is_out}
use Rattle.iox_lanes_machine.specs.LedgerUses.{one_if, count, entry, refers, refers_to, IsOwn, UsesCounted, IsReferred, MayBeReferred}
use Rattle.iox_lanes_machine.specs.LedgerUses.{ChangeFits}
use Rattle.iox_lanes_machine.proofs.Entries.{put_at_length, entry_own, entry_same, total_none, refers_own, refers_same, refers_other}
use Rattle.iox_lanes_machine.proofs.Entries.{row_place}
use Rattle.iox_lanes_machine.proofs.Rings.{stores_now, hands_now, takes_now, taking_refusing, storing_refusing}

-- the slots that a connection is given by a change
abbrev pub put_by : PublisherChange → List ℕ
put_by change.Nothing = []
put_by change.Lend = []
put_by (change.Mark slot) = []
put_by (change.Remember slot) = []
put_by (change.TakenBack place slot) = []
put_by (change.Put place slot) = slot ∷ []
put_by (change.LeftOut place slot) = []
put_by (change.DropLoan slot) = []

-- the slots that a connection loses by a change
abbrev pub lost_by : PublisherChange → List ℕ
lost_by change.Nothing = []
lost_by change.Lend = []
lost_by (change.Mark slot) = []
lost_by (change.Remember slot) = []
lost_by (change.TakenBack place slot) = slot ∷ []
lost_by (change.Put place slot) = []
lost_by (change.LeftOut place slot) = slot ∷ []
lost_by (change.DropLoan slot) = []

-- a change of the record is at this place
abbrev pub IsChangeAt : ℕ → PublisherChange → Type 0
IsChangeAt here change.Nothing = Unit {0}
IsChangeAt here change.Lend = ⊥
IsChangeAt here (change.Mark slot) = ⊥
IsChangeAt here (change.Remember slot) = ⊥
IsChangeAt here (change.TakenBack place slot) = place ≡ here
IsChangeAt here (change.Put place slot) = place ≡ here
IsChangeAt here (change.LeftOut place slot) = place ≡ here
IsChangeAt here (change.DropLoan slot) = ⊥

-- a push changes what its ring changes
pub record Follows (place : ℕ) (c : PublisherChange) (stored lost : List ℕ) : Type 0 where
  pub at : IsChangeAt place c
  pub puts : put_by c ≡ stored
  pub loses : lost_by c ≡ lost

pub push_follows : (place : ℕ) (words : RingWords) (p : Push)
    → Follows place (push_change place p (answer_of words (push_next p))) (stores_now p) (hands_now words.read p)
push_follows place words (push.Overflowing overflowing_push.Idle) = record { at = tt; puts = refl; loses = refl }
push_follows place words (push.Overflowing (overflowing_push.Begun limit value)) = record { at = tt; puts = refl; loses = refl }
push_follows place words (push.Overflowing (overflowing_push.SawWrite limit value write next))
    = record { at = tt; puts = refl; loses = refl }
push_follows place words (push.Overflowing (overflowing_push.SawRead limit value write next seen))
    = record { at = tt; puts = refl; loses = refl }
push_follows place words (push.Overflowing (overflowing_push.Filled limit value write next seen))
    = record { at = refl; puts = refl; loses = refl }
push_follows place words (push.Overflowing (overflowing_push.Full value seen next)) = record { at = tt; puts = refl; loses = refl }
push_follows place words (push.Overflowing (overflowing_push.SawOldest value seen next oldest)) = by_test (words.read == seen)
  where
    by_test : (b : Bool) → Follows place (if b then change.LeftOut place oldest else change.Nothing) [] (if b then oldest ∷ [] else [])
    by_test true = record { at = refl; puts = refl; loses = refl }
    by_test false = record { at = tt; puts = refl; loses = refl }
push_follows place words (push.Overflowing (overflowing_push.Pushed value answered)) = record { at = tt; puts = refl; loses = refl }
push_follows place words (push.Refusing refusing_push.Idle) = record { at = tt; puts = refl; loses = refl }
push_follows place words (push.Refusing (refusing_push.Begun limit value)) = record { at = tt; puts = refl; loses = refl }
push_follows place words (push.Refusing (refusing_push.SawWrite limit value write next)) = record { at = tt; puts = refl; loses = refl }
push_follows place words (push.Refusing (refusing_push.SawRoom value write next)) = record { at = tt; puts = refl; loses = refl }
push_follows place words (push.Refusing (refusing_push.Filled value next)) = record { at = refl; puts = refl; loses = refl }
push_follows place words (push.Refusing (refusing_push.Pushed value answered)) = record { at = tt; puts = refl; loses = refl }

-- so does one that takes back
pub back_follows : (place a : ℕ) (c : refusing_pop_type.Pop)
    → Follows place (taken_back place (refusing_pop_answer (refusing.pop_take c a))) [] (taking_refusing c)
back_follows place a refusing_pop.Idle = record { at = tt; puts = refl; loses = refl }
back_follows place a refusing_pop.Begun = record { at = tt; puts = refl; loses = refl }
back_follows place a (refusing_pop.SawRead seen) = by_test (a == seen)
  where
    by_test : (b : Bool) → Follows place
        (taken_back place (refusing_pop_answer (if b then refusing_pop.Popped None else refusing_pop.Nonempty seen (successor seen)))) [] []
    by_test true = record { at = tt; puts = refl; loses = refl }
    by_test false = record { at = tt; puts = refl; loses = refl }
back_follows place a (refusing_pop.Nonempty seen next) = record { at = tt; puts = refl; loses = refl }
back_follows place a (refusing_pop.SawCell next value) = record { at = refl; puts = refl; loses = refl }
back_follows place a (refusing_pop.Popped got) = record { at = tt; puts = refl; loses = refl }
back_follows place a refusing_pop.LookBegun = record { at = tt; puts = refl; loses = refl }
back_follows place a (refusing_pop.LookRead seen) = record { at = tt; puts = refl; loses = refl }
back_follows place a (refusing_pop.Looked some) = record { at = tt; puts = refl; loses = refl }

-- a change of the rest
abbrev pub IsElse : PublisherChange → Type 0
IsElse change.Nothing = Unit {0}
IsElse change.Lend = Unit {0}
IsElse (change.Mark slot) = Unit {0}
IsElse (change.Remember slot) = Unit {0}
IsElse (change.TakenBack place slot) = ⊥
IsElse (change.Put place slot) = ⊥
IsElse (change.LeftOut place slot) = ⊥
IsElse (change.DropLoan slot) = Unit {0}

-- it leaves who has what as it was
record SameRecord (book after : BookState) : Type 0 where
  first : after.first ≡ book.first
  slots : length after.uses ≡ length book.uses
  referred : after.referred ≡ book.referred

same_refers : (book after : BookState) → SameRecord book after → (place slot : ℕ) → refers_to after place slot ≡ refers_to book place slot
same_refers book after h place slot =
    ap (λ (f : ℕ). refers f (length after.uses) after.referred place slot) h.first
    ∙ ap (λ (n : ℕ). refers book.first n after.referred place slot) h.slots
    ∙ ap (λ (r : List Bool). refers book.first (length book.uses) r place slot) h.referred

lent_same : (book : BookState) → SameRecord book (lent book)
lent_same book = by_test (nat_lt book.out book.most_loans)
  where
    by_free : (at : Option ℕ) → SameRecord book (lent_from book at)
    by_free None = record { first = refl; slots = refl; referred = refl }
    by_free (Some index) = record
        { first = refl; slots = put_at_length book.uses index (successor (get_or book.uses index 0)); referred = refl }

    by_test : (b : Bool) → SameRecord book
        (if b then lent_from book (first_free book.uses 0) else record book { answer = Some answer.ExceedsMaxLoans })
    by_test true = by_free (first_free book.uses 0)
    by_test false = record { first = refl; slots = refl; referred = refl }

remembered_same : (slot : ℕ) (book : BookState) → SameRecord book (remembered slot book)
remembered_same slot book = by_kept (nat_lt 0 book.kept)
  where
    by_room : (b : Bool) → SameRecord book
        (if b then record (unlent slot book) { history = book.history ++ slot ∷ [] } else record (unlent slot book)
        { history = remove book.history 0 ++ slot ∷ []; uses = counted_down book.uses (get_or book.history 0 0 - book.first) })
    by_room true = record { first = refl; slots = refl; referred = refl }
    by_room false = record {
      first = refl;
      slots
          = put_at_length book.uses (get_or book.history 0 0 - book.first) (get_or book.uses (get_or book.history 0 0 - book.first) 0 - 1);
      referred = refl;
    }

    by_kept : (b : Bool) → SameRecord book (if b then newest_of slot (unlent slot book) else dropped slot book)
    by_kept true = by_room (nat_lt (length book.history) book.kept)
    by_kept false = record
        { first = refl; slots = put_at_length book.uses (slot - book.first) (get_or book.uses (slot - book.first) 0 - 1); referred = refl }

pub else_refers : (book : BookState) (c : PublisherChange) → IsElse c → (place slot : ℕ)
    → refers_to (changed c book) place slot ≡ refers_to book place slot
else_refers book change.Nothing h place slot = refl
else_refers book change.Lend h place slot = same_refers book (lent book) (lent_same book) place slot
else_refers book (change.Mark v) h place slot = refl
else_refers book (change.Remember v) h place slot = same_refers book (remembered v book) (remembered_same v book) place slot
else_refers book (change.TakenBack p v) h place slot = absurd h
else_refers book (change.Put p v) h place slot = absurd h
else_refers book (change.LeftOut p v) h place slot = absurd h
else_refers book (change.DropLoan v) h place slot =
    same_refers book (dropped v book) (record
    { first = refl; slots = put_at_length book.uses (v - book.first) (get_or book.uses (v - book.first) 0 - 1); referred = refl })
    place slot

-- a place of the record is written
given_refers : (book : BookState) (p v : ℕ) (place slot : ℕ)
    → refers_to (referred_at p v book) place slot
    ≡ refers book.first (length book.uses) (put_at book.referred (p * length book.uses + (v - book.first)) true) place slot
given_refers book p v place slot = ap
    (λ (n : ℕ). refers book.first n (put_at book.referred (p * length book.uses + (v - book.first)) true) place slot)
    (put_at_length book.uses (v - book.first) (successor (get_or book.uses (v - book.first) 0)))

lost_refers : (book : BookState) (p v : ℕ) (place slot : ℕ)
    → refers_to (unreferred_at p v book) place slot
    ≡ refers book.first (length book.uses) (put_at book.referred (p * length book.uses + (v - book.first)) false) place slot
lost_refers book p v place slot = ap
    (λ (n : ℕ). refers book.first n (put_at book.referred (p * length book.uses + (v - book.first)) false) place slot)
    (put_at_length book.uses (v - book.first) (get_or book.uses (v - book.first) 0 - 1))

given_there : (connections here v : ℕ) (book : BookState) → MayBeReferred connections book here v → UsesCounted connections book
    → (slot : ℕ)
    → one_if (refers_to (referred_at here v book) here slot) + 0 ≡ one_if (refers_to book here slot) + count slot (v ∷ [])
given_there connections here v book fits k slot = elim (eqb_tells v slot) [
  | inl same ↦
      let is : refers_to (referred_at here v book) here v ≡ true
      = given_refers book here v here v ∙ refers_same book.first (length book.uses) book.referred here v true fits.own.above
      fits.own.below within in
      omega (
        arith,
        ap one_if same.0,
        ap one_if is,
        ap one_if fits.lacks,
        ap
            (λ (x : ℕ). one_if (refers_to (referred_at here v book) here x)) same.1,
        ap (λ (x : ℕ). one_if (refers_to book here x)) same.1,
      )
  | inr other ↦
      let is : refers_to (referred_at here v book) here slot ≡ refers_to book here slot =
      given_refers book here v here slot ∙ refers_other book.first (length book.uses) book.referred here v here slot true fits.own.above
      fits.own.below (λ both. other.1 (sym both.1)) in
      omega (arith, ap one_if other.0, ap one_if is)
]
  where
    within : here * length book.uses + (v - book.first) < length book.referred
    within = omega (arith, k.rows, row_place book.first (length book.uses) connections here v fits.own.above fits.own.below fits.there)

lost_there : (connections here v : ℕ) (book : BookState) → IsReferred connections book here v → UsesCounted connections book → (slot : ℕ)
    → one_if (refers_to (unreferred_at here v book) here slot) + count slot (v ∷ []) ≡ one_if (refers_to book here slot) + 0
lost_there connections here v book fits k slot = elim (eqb_tells v slot) [
  | inl same ↦
      let is : refers_to (unreferred_at here v book) here v ≡ false
      = lost_refers book here v here v ∙ refers_same book.first (length book.uses) book.referred here v false own.0 own.1 within in
      omega (
        arith,
        ap one_if same.0,
        ap one_if is,
        ap one_if fits.has,
        ap
            (λ (x : ℕ). one_if (refers_to (unreferred_at here v book) here x)) same.1,
        ap (λ (x : ℕ). one_if (refers_to book here x)) same.1,
      )
  | inr other ↦
      let is : refers_to (unreferred_at here v book) here slot ≡ refers_to book here slot =
      lost_refers book here v here slot ∙ refers_other book.first (length book.uses) book.referred here v here slot false own.0 own.1
      (λ both. other.1 (sym both.1)) in
      omega (arith, ap one_if other.0, ap one_if is)
]
  where
    own : (book.first ≤ v) × (v < book.first + length book.uses)
    own = refers_own book.first (length book.uses) book.referred here v fits.has

    within : here * length book.uses + (v - book.first) < length book.referred
    within = omega (arith, k.rows, row_place book.first (length book.uses) connections here v own.0 own.1 fits.there)

-- at its place a change adds what it puts, and takes away what it loses
pub refers_there : (connections here : ℕ) (book : BookState) (c : PublisherChange) → IsChangeAt here c → ChangeFits connections book c
    → UsesCounted connections book → (slot : ℕ)
    → one_if (refers_to (changed c book) here slot) + count slot (lost_by c) ≡ one_if (refers_to book here slot) + count slot (put_by c)
refers_there connections here book change.Nothing at fits k slot = refl
refers_there connections here book change.Lend at fits k slot = absurd at
refers_there connections here book (change.Mark v) at fits k slot = absurd at
refers_there connections here book (change.Remember v) at fits k slot = absurd at
refers_there connections here book (change.TakenBack p v) at fits k slot =
    subst (λ (p : ℕ). IsReferred connections book p v
    → one_if (refers_to (unreferred_at p v book) here slot) + count slot (v ∷ []) ≡ one_if (refers_to book here slot) + 0) (sym at)
    (λ f. lost_there connections here v book f k slot) fits
refers_there connections here book (change.Put p v) at fits k slot =
    subst (λ (p : ℕ). MayBeReferred connections book p v
    → one_if (refers_to (referred_at p v book) here slot) + 0 ≡ one_if (refers_to book here slot) + count slot (v ∷ [])) (sym at)
    (λ f. given_there connections here v book f k slot) fits
refers_there connections here book (change.LeftOut p v) at fits k slot =
    subst (λ (p : ℕ). IsReferred connections book p v
    → one_if (refers_to (unreferred_at p v book) here slot) + count slot (v ∷ []) ≡ one_if (refers_to book here slot) + 0) (sym at)
    (λ f. lost_there connections here v book f k slot) fits
refers_there connections here book (change.DropLoan v) at fits k slot = absurd at

-- at other places it changes nothing
pub refers_elsewhere : (connections here : ℕ) (book : BookState) (c : PublisherChange) → IsChangeAt here c
    → ChangeFits connections book c → (place slot : ℕ) → (place ≡ here → ⊥)
    → refers_to (changed c book) place slot ≡ refers_to book place slot
refers_elsewhere connections here book change.Nothing at fits place slot not = refl
refers_elsewhere connections here book change.Lend at fits place slot not = absurd at
refers_elsewhere connections here book (change.Mark v) at fits place slot not = absurd at
refers_elsewhere connections here book (change.Remember v) at fits place slot not = absurd at
refers_elsewhere connections here book (change.TakenBack p v) at fits place slot not =
    let own = refers_own book.first (length book.uses) book.referred p v fits.has in
    lost_refers book p v place slot ∙ refers_other book.first (length book.uses) book.referred p v place slot false own.0 own.1
    (λ both. not (both.0 ∙ at))
refers_elsewhere connections here book (change.Put p v) at fits place slot not =
    given_refers book p v place slot ∙ refers_other book.first (length book.uses) book.referred p v place slot true fits.own.above
    fits.own.below (λ both. not (both.0 ∙ at))
refers_elsewhere connections here book (change.LeftOut p v) at fits place slot not =
    let own = refers_own book.first (length book.uses) book.referred p v fits.has in
    lost_refers book p v place slot ∙ refers_other book.first (length book.uses) book.referred p v place slot false own.0 own.1
    (λ both. not (both.0 ∙ at))
refers_elsewhere connections here book (change.DropLoan v) at fits place slot not = absurd at

-- what a change at a place wants of a slot that it puts
abbrev pub PutKnown : BookState → ℕ → PublisherChange → Type 0
PutKnown book here change.Nothing = Unit {0}
PutKnown book here change.Lend = Unit {0}
PutKnown book here (change.Mark slot) = Unit {0}
PutKnown book here (change.Remember slot) = Unit {0}
PutKnown book here (change.TakenBack place slot) = Unit {0}
PutKnown book here (change.Put place slot) = IsOwn book slot × (refers_to book here slot ≡ false)
    × (is_out (entry book.first book.loans slot mark.No) ≡ false)
PutKnown book here (change.LeftOut place slot) = Unit {0}
PutKnown book here (change.DropLoan slot) = Unit {0}

one_here : (v : ℕ) → 0 < count v (v ∷ [])
one_here v = elim (eqb_tells v v) [
  | inl same ↦ omega (arith, ap one_if same.0)
  | inr other ↦ absurd (other.1 refl)
]

has_one : (b : Bool) (n : ℕ) → 0 < n → n ≤ one_if b → b ≡ true
has_one true n some le = refl
has_one false n some le = absurd (omega (arith, some, le))

-- a change fits, if the connection had what it loses
pub fits_of : (connections here : ℕ) (book : BookState) (c : PublisherChange) → IsChangeAt here c → here < connections
    → ((slot : ℕ) → count slot (lost_by c) ≤ one_if (refers_to book here slot)) → PutKnown book here c → ChangeFits connections book c
fits_of connections here book change.Nothing at there had known = tt
fits_of connections here book change.Lend at there had known = absurd at
fits_of connections here book (change.Mark v) at there had known = absurd at
fits_of connections here book (change.Remember v) at there had known = absurd at
fits_of connections here book (change.TakenBack p v) at there had known
    = subst (λ (x : ℕ). IsReferred connections book x v) (sym at)
    (record { there = there; has = has_one (refers_to book here v) (count v (v ∷ [])) (one_here v) (had v) })
fits_of connections here book (change.Put p v) at there had known
    = subst (λ (x : ℕ). MayBeReferred connections book x v) (sym at)
    (record { there = there; own = known.0; lacks = known.1; not_out = known.2 })
fits_of connections here book (change.LeftOut p v) at there had known
    = subst (λ (x : ℕ). IsReferred connections book x v) (sym at)
    (record { there = there; has = has_one (refers_to book here v) (count v (v ∷ [])) (one_here v) (had v) })
fits_of connections here book (change.DropLoan v) at there had known = absurd at

-- the sample that a subscriber borrows by a change
abbrev pub borrowed_in : SubscriberChange → List ℕ
borrowed_in own_change.Nothing = []
borrowed_in (own_change.Borrow place slot) = slot ∷ []
borrowed_in (own_change.Note word value) = []
borrowed_in (own_change.GiveBack place slot) = []

-- the sample that it gives back
abbrev pub returned_in : SubscriberChange → List ℕ
returned_in own_change.Nothing = []
returned_in (own_change.Borrow place slot) = []
returned_in (own_change.Note word value) = []
returned_in (own_change.GiveBack place slot) = slot ∷ []

-- it borrows or gives back at this place
abbrev pub IsOwnChangeAt : ℕ → SubscriberChange → Type 0
IsOwnChangeAt here own_change.Nothing = Unit {0}
IsOwnChangeAt here (own_change.Borrow place slot) = place ≡ here
IsOwnChangeAt here (own_change.Note word value) = ⊥
IsOwnChangeAt here (own_change.GiveBack place slot) = place ≡ here

-- a pop or a release changes what its ring changes
pub record OwnFollows (place : ℕ) (c : SubscriberChange) (taken stored : List ℕ) : Type 0 where
  pub at : IsOwnChangeAt place c
  pub takes : borrowed_in c ≡ taken
  pub gives : returned_in c ≡ stored

pub pop_follows : (place : ℕ) (words : RingWords) (c : Pop)
    → OwnFollows place (borrowed_by place (pop_answer (pop_take c (answer_of words (pop_next c))))) (takes_now words.read c) []
pop_follows place words (pop.Overflowing overflowing_pop.Idle) = record { at = tt; takes = refl; gives = refl }
pop_follows place words (pop.Overflowing overflowing_pop.Begun) = record { at = tt; takes = refl; gives = refl }
pop_follows place words (pop.Overflowing (overflowing_pop.SawRead seen)) = by_test (words.write == seen)
  where
    by_test : (b : Bool) → OwnFollows place (borrowed_by place (pop_answer (pop.Overflowing (overflowing.pop_emptied b seen)))) [] []
    by_test true = record { at = tt; takes = refl; gives = refl }
    by_test false = record { at = tt; takes = refl; gives = refl }
pop_follows place words (pop.Overflowing (overflowing_pop.Nonempty seen next)) = record { at = tt; takes = refl; gives = refl }
pop_follows place words (pop.Overflowing (overflowing_pop.SawCell seen next value)) = by_test (words.read == seen)
  where
    by_test : (b : Bool) → OwnFollows place
        (borrowed_by place (pop_answer (pop.Overflowing (overflowing.pop_swapped b words.read value)))) (if b then value ∷ [] else []) []
    by_test true = record { at = refl; takes = refl; gives = refl }
    by_test false = record { at = tt; takes = refl; gives = refl }
pop_follows place words (pop.Overflowing (overflowing_pop.Popped got)) = record { at = tt; takes = refl; gives = refl }
pop_follows place words (pop.Overflowing overflowing_pop.LookBegun) = record { at = tt; takes = refl; gives = refl }
pop_follows place words (pop.Overflowing (overflowing_pop.LookRead seen)) = record { at = tt; takes = refl; gives = refl }
pop_follows place words (pop.Overflowing (overflowing_pop.Looked some)) = record { at = tt; takes = refl; gives = refl }
pop_follows place words (pop.Refusing refusing_pop.Idle) = record { at = tt; takes = refl; gives = refl }
pop_follows place words (pop.Refusing refusing_pop.Begun) = record { at = tt; takes = refl; gives = refl }
pop_follows place words (pop.Refusing (refusing_pop.SawRead seen)) = by_test (words.write == seen)
  where
    by_test : (b : Bool) → OwnFollows place (borrowed_by place (pop_answer (pop.Refusing (refusing.pop_emptied b seen)))) [] []
    by_test true = record { at = tt; takes = refl; gives = refl }
    by_test false = record { at = tt; takes = refl; gives = refl }
pop_follows place words (pop.Refusing (refusing_pop.Nonempty seen next)) = record { at = tt; takes = refl; gives = refl }
pop_follows place words (pop.Refusing (refusing_pop.SawCell next value)) = record { at = refl; takes = refl; gives = refl }
pop_follows place words (pop.Refusing (refusing_pop.Popped got)) = record { at = tt; takes = refl; gives = refl }
pop_follows place words (pop.Refusing refusing_pop.LookBegun) = record { at = tt; takes = refl; gives = refl }
pop_follows place words (pop.Refusing (refusing_pop.LookRead seen)) = record { at = tt; takes = refl; gives = refl }
pop_follows place words (pop.Refusing (refusing_pop.Looked some)) = record { at = tt; takes = refl; gives = refl }

pub release_follows : (place : ℕ) (p : refusing_push_type.Push) → OwnFollows place (given_back_by place p) [] (storing_refusing p)
release_follows place refusing_push.Idle = record { at = tt; takes = refl; gives = refl }
release_follows place (refusing_push.Begun limit value) = record { at = tt; takes = refl; gives = refl }
release_follows place (refusing_push.SawWrite limit value write next) = record { at = tt; takes = refl; gives = refl }
release_follows place (refusing_push.SawRoom value write next) = record { at = tt; takes = refl; gives = refl }
release_follows place (refusing_push.Filled value next) = record { at = refl; takes = refl; gives = refl }
release_follows place (refusing_push.Pushed value answered) = record { at = tt; takes = refl; gives = refl }

-- a push changes the record at its own place
pub push_change_at : (place : ℕ) (p : Push) (a : ℕ) → IsChangeAt place (push_change place p a)
push_change_at place (push.Overflowing overflowing_push.Idle) a = tt
push_change_at place (push.Overflowing (overflowing_push.Begun limit value)) a = tt
push_change_at place (push.Overflowing (overflowing_push.SawWrite limit value write next)) a = tt
push_change_at place (push.Overflowing (overflowing_push.SawRead limit value write next seen)) a = tt
push_change_at place (push.Overflowing (overflowing_push.Filled limit value write next seen)) a = refl
push_change_at place (push.Overflowing (overflowing_push.Full value seen next)) a = tt
push_change_at place (push.Overflowing (overflowing_push.SawOldest value seen next oldest)) a = by_test (a == seen)
  where
    by_test : (b : Bool) → IsChangeAt place (if b then change.LeftOut place oldest else change.Nothing)
    by_test true = refl
    by_test false = tt
push_change_at place (push.Overflowing (overflowing_push.Pushed value answered)) a = tt
push_change_at place (push.Refusing refusing_push.Idle) a = tt
push_change_at place (push.Refusing (refusing_push.Begun limit value)) a = tt
push_change_at place (push.Refusing (refusing_push.SawWrite limit value write next)) a = tt
push_change_at place (push.Refusing (refusing_push.SawRoom value write next)) a = tt
push_change_at place (push.Refusing (refusing_push.Filled value next)) a = refl
push_change_at place (push.Refusing (refusing_push.Pushed value answered)) a = tt

-- what a change loses stood there before
pub lost_le : (c : PublisherChange) (s after before : ℕ) → after + count s (lost_by c) ≡ before + count s (put_by c)
    → count s (lost_by c) ≤ before
lost_le change.Nothing s after before e = omega arith
lost_le change.Lend s after before e = omega arith
lost_le (change.Mark slot) s after before e = omega arith
lost_le (change.Remember slot) s after before e = omega arith
lost_le (change.TakenBack place slot) s after before e = omega (arith, e)
lost_le (change.Put place slot) s after before e = omega arith
lost_le (change.LeftOut place slot) s after before e = omega (arith, e)
lost_le (change.DropLoan slot) s after before e = omega arith

-- a slot that a connection lacks it lacks still, unless it is given it
pub lacks_after : (connections here : ℕ) (book : BookState) (c : PublisherChange) (later slot : ℕ) → IsChangeAt here c
    → ChangeFits connections book c → UsesCounted connections book → (put_by c ≡ []) ⊎ (later ≡ here → ⊥)
    → refers_to book later slot ≡ false → refers_to (changed c book) later slot ≡ false
lacks_after connections here book c later slot at fits k (inr not) lacks
    = refers_elsewhere connections here book c at fits later slot not ∙ lacks
lacks_after connections here book c later slot at fits k (inl none) lacks = elim (eqb_tells later here) [
  | inl same ↦
      let there = refers_there connections here book c at fits k slot in
      let gone : one_if (refers_to book here slot) ≡ 0 = ap (λ (p : ℕ). one_if (refers_to book p slot)) (sym same.1) ∙ ap one_if lacks in
      let left : one_if (refers_to (changed c book) here slot) ≡ 0 = omega (arith, there, gone, ap (count slot) none) in
      ap (λ (p : ℕ). refers_to (changed c book) p slot) same.1 ∙ is_none (refers_to (changed c book) here slot) left
  | inr other ↦ refers_elsewhere connections here book c at fits later slot other.1 ∙ lacks
]
  where
    is_none : (b : Bool) → one_if b ≡ 0 → b ≡ false
    is_none true h = absurd (omega (arith, h))
    is_none false h = refl

-- a change at a place leaves the publisher's slots its own
pub own_after : (here : ℕ) (book : BookState) (c : PublisherChange) (slot : ℕ) → IsChangeAt here c → IsOwn book slot
    → IsOwn (changed c book) slot
own_after here book change.Nothing slot at own = own
own_after here book change.Lend slot at own = absurd at
own_after here book (change.Mark v) slot at own = absurd at
own_after here book (change.Remember v) slot at own = absurd at
own_after here book (change.TakenBack p v) slot at own
    = record {
      above = own.above;
      below
          = omega (arith, own.below, put_at_length book.uses (v - book.first) (get_or book.uses (v - book.first) 0 - 1));
    }
own_after here book (change.Put p v) slot at own
    = record {
      above = own.above;
      below
          = omega (arith, own.below, put_at_length book.uses (v - book.first) (successor (get_or book.uses (v - book.first) 0)));
    }
own_after here book (change.LeftOut p v) slot at own
    = record {
      above = own.above;
      below
          = omega (arith, own.below, put_at_length book.uses (v - book.first) (get_or book.uses (v - book.first) 0 - 1));
    }
own_after here book (change.DropLoan v) slot at own = absurd at

-- and lends none
pub loans_after : (here : ℕ) (book : BookState) (c : PublisherChange) → IsChangeAt here c → ((changed c book).loans ≡ book.loans)
    × ((changed c book).first ≡ book.first)
loans_after here book change.Nothing at = (refl, refl)
loans_after here book change.Lend at = absurd at
loans_after here book (change.Mark v) at = absurd at
loans_after here book (change.Remember v) at = absurd at
loans_after here book (change.TakenBack p v) at = (refl, refl)
loans_after here book (change.Put p v) at = (refl, refl)
loans_after here book (change.LeftOut p v) at = (refl, refl)
loans_after here book (change.DropLoan v) at = absurd at

-- a loan that was remembered is one of the publisher's slots still, and no loan
pub remembered_own : (connections slot : ℕ) (book : BookState) → is_out (entry book.first book.loans slot mark.No) ≡ true
    → UsesCounted connections book
    → IsOwn (remembered slot book) slot × (is_out (entry (remembered slot book).first (remembered slot book).loans slot mark.No) ≡ false)
remembered_own connections slot book out k = (
  record { above = omega (arith, own.0, same.first); below = omega (arith, own.1, same.first, same.slots, k.loans_each) },
  ap (λ (f : ℕ). is_out (entry f (remembered slot book).loans slot mark.No)) same.first ∙ ap
      (λ (l : List LoanMark). is_out (entry book.first l slot mark.No)) (loans_are slot book)
      ∙ ap is_out (entry_same book.first slot book.loans mark.No mark.No own.0 own.1),
)
  where
    own : (book.first ≤ slot) × (slot < book.first + length book.loans)
    own = entry_own book.first slot book.loans mark.No (λ none. cc (sym out ∙ ap is_out none))

    same : SameRecord book (remembered slot book)
    same = remembered_same slot book

    loans_are : (slot : ℕ) (book : BookState) → (remembered slot book).loans ≡ put_at book.loans (slot - book.first) mark.No
    loans_are slot book = by_kept (nat_lt 0 book.kept)
      where
        by_room : (b : Bool) →
            (if b then record (unlent slot book) { history = book.history ++ slot ∷ [] } else record (unlent slot book)
            { history = remove book.history 0 ++ slot ∷ []; uses = counted_down book.uses (get_or book.history 0 0 - book.first) }).loans
            ≡ put_at book.loans (slot - book.first) mark.No
        by_room true = refl
        by_room false = refl

        by_kept : (b : Bool) → (if b then newest_of slot (unlent slot book) else dropped slot book).loans
            ≡ put_at book.loans (slot - book.first) mark.No
        by_kept true = by_room (nat_lt (length book.history) book.kept)
        by_kept false = refl

-- no connection has a loan
pub loan_lacks : (connections slot : ℕ) (book : BookState) → is_out (entry book.first book.loans slot mark.No) ≡ true
    → UsesCounted connections book → (place : ℕ) → place < connections → refers_to book place slot ≡ false
loan_lacks connections slot book out k place below =
    let alone = (k.each slot).alone out in
    total_none (λ p. refers book.first (length book.uses) book.referred p slot) connections place alone.1 below

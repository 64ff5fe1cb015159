-- What a publisher's record has a slot for, besides a loan: its history, and its connections.
use Rattle.std.proofs.Common.{ℕ, ◌≡◌, ◌+◌, ◌-◌, ◌*◌, ◌<◌, ◌≤◌, ◌⊎◌, Bool, true, false, if◌then◌else◌, nat_lt, List, [], ◌∷◌, ◌++◌, length}
use Rattle.std.proofs.Common.{set, get_or, remove, Option, Some, None, refl, sym, ◌∙◌, ap, inl, inr, arith}
use Rattle.std.proofs.lemmas.Bool.{cases_lt, le-ltb}
use Rattle.std.proofs.lemmas.Bool.Decides.{eqb_tells}
use Rattle.iox_lanes_machine.specs.QueuesSteps.Access.{successor}
use Rattle.iox_lanes_machine.specs.LanesBase.declared.calls.publisher.PublisherChange.{PublisherChange}
use Rattle.iox_lanes_machine.specs.LanesBase.declared.calls.publisher.PublisherChange.TheVariants as change
use Rattle.iox_lanes_machine.specs.LanesParties.PublisherKeeping.{BookState, changed, lent, lent_from, first_free, put_at, referred_at}
use Rattle.iox_lanes_machine.specs.LanesParties.PublisherKeeping.{unreferred_at, remembered, unlent, newest_of, dropped, counted_down}
use Rattle.iox_lanes_machine.specs.LanesParties.declared.publisher.slot_book.LoanAnswer.TheVariants as answer
use Rattle.iox_lanes_machine.specs.LedgerUses.{one_if, count, refers, refers_to, IsOwn}
use Rattle.iox_lanes_machine.proofs.Entries.{choose_other, count_append, put_at_length, put_at_other, put_at_same, refers_is, refers_own}
use Rattle.iox_lanes_machine.proofs.Entries.{refers_other}
use Rattle.iox_lanes_machine.proofs.Changes.{else_refers}

-- a slot stands in the history, or one of n connections has it
abbrev pub IsUsed : ℕ → BookState → ℕ → Type 0
IsUsed connections book slot = (0 < count slot book.history) ⊎ ((place : ℕ) × (place < connections) × (refers_to book place slot ≡ true))

-- a change gives a slot a use: it is remembered, or put at a connection
abbrev pub IsGiven : PublisherChange → ℕ → Type 0
IsGiven change.Nothing slot = ⊥
IsGiven change.Lend slot = ⊥
IsGiven (change.Mark own) slot = ⊥
IsGiven (change.Remember own) slot = own ≡ slot
IsGiven (change.TakenBack place own) slot = ⊥
IsGiven (change.Put place own) slot = own ≡ slot
IsGiven (change.LeftOut place own) slot = ⊥
IsGiven (change.DropLoan own) slot = ⊥

-- what a change puts is the publisher's own
abbrev pub PutsOwn : BookState → PublisherChange → Type 0
PutsOwn book change.Nothing = Unit {0}
PutsOwn book change.Lend = Unit {0}
PutsOwn book (change.Mark own) = Unit {0}
PutsOwn book (change.Remember own) = Unit {0}
PutsOwn book (change.TakenBack place own) = Unit {0}
PutsOwn book (change.Put place own) = IsOwn book own
PutsOwn book (change.LeftOut place own) = Unit {0}
PutsOwn book (change.DropLoan own) = Unit {0}

-- the history with one more
has_more : (slot own : ℕ) (xs : List ℕ) → 0 < count slot (xs ++ own ∷ []) → (0 < count slot xs) ⊎ (own ≡ slot)
has_more slot own xs h = elim (eqb_tells own slot) [
  | inl same ↦ inr same.1
  | inr other ↦ inl (omega (arith, h, count_append slot xs (own ∷ []), ap one_if other.0))
]

fewer : (slot : ℕ) (xs : List ℕ) → count slot (remove xs 0) ≤ count slot xs
fewer slot [] = omega arith
fewer slot (x ∷ xs) = omega arith

remembers : (slot own : ℕ) (book : BookState) → 0 < count slot (remembered own book).history → (0 < count slot book.history) ⊎ (own ≡ slot)
remembers slot own book = by_kept (nat_lt 0 book.kept)
  where
    by_room : (b : Bool)
        → 0 < count slot (if b then record (unlent own book) { history = book.history ++ own ∷ [] } else record (unlent own book)
        { history = remove book.history 0 ++ own ∷ []; uses = counted_down book.uses (get_or book.history 0 0 - book.first) }).history
        → (0 < count slot book.history) ⊎ (own ≡ slot)
    by_room true h = has_more slot own book.history h
    by_room false h = elim (has_more slot own (remove book.history 0) h) [
      | inl was ↦ inl (omega (arith, was, fewer slot book.history))
      | inr is ↦ inr is
    ]

    by_kept : (b : Bool) → 0 < count slot (if b then newest_of own (unlent own book) else dropped own book).history
        → (0 < count slot book.history) ⊎ (own ≡ slot)
    by_kept true h = by_room (nat_lt (length book.history) book.kept) h
    by_kept false h = inl h

lent_history : (book : BookState) → (lent book).history ≡ book.history
lent_history book = by_test (nat_lt book.out book.most_loans)
  where
    by_free : (at : Option ℕ) → (lent_from book at).history ≡ book.history
    by_free None = refl
    by_free (Some index) = refl

    by_test : (b : Bool) → (if b then lent_from book (first_free book.uses 0) else record book
        { answer = Some answer.ExceedsMaxLoans }).history ≡ book.history
    by_test true = by_free (first_free book.uses 0)
    by_test false = refl

-- where a list says nothing after a place was cleared, it said so before
cleared : (xs : List Bool) (i k : ℕ) → get_or (put_at xs i false) k false ≡ true → get_or xs k false ≡ true
cleared xs i k h = elim (eqb_tells k i) [
  | inl same ↦ elim (cases_lt i (length xs)) [
    | inl lt ↦ absurd (cc (sym h ∙ ap (λ (j : ℕ). get_or (put_at xs i false) j false) same.1 ∙ put_at_same xs i false false lt))
    | inr ge ↦ ap (λ (l : List Bool). get_or l k false)
        (sym (choose_other (nat_lt i (length xs)) (set xs i false) xs (le-ltb i (length xs) ge))) ∙ h
  ]
  | inr other ↦ sym (put_at_other xs i k false false other.1) ∙ h
]

refers_back : (first width : ℕ) (referred : List Bool) (i place slot : ℕ)
    → refers first width (put_at referred i false) place slot ≡ true → refers first width referred place slot ≡ true
refers_back first width referred i place slot h =
    let own = refers_own first width (put_at referred i false) place slot h in
    refers_is first width referred place slot own.0 own.1 ∙ cleared referred i (place * width + (slot - first))
    (sym (refers_is first width (put_at referred i false) place slot own.0 own.1) ∙ h)

lost_back : (book : BookState) (at own place slot : ℕ) → refers_to (unreferred_at at own book) place slot ≡ true
    → refers_to book place slot ≡ true
lost_back book at own place slot h =
    refers_back book.first (length book.uses) book.referred (at * length book.uses + (own - book.first)) place slot
    (sym (ap (λ (n : ℕ). refers book.first n (put_at book.referred (at * length book.uses + (own - book.first)) false) place slot)
    (put_at_length book.uses (own - book.first) (get_or book.uses (own - book.first) 0 - 1))) ∙ h)

put_back : (book : BookState) (at own place slot : ℕ) → IsOwn book own → refers_to (referred_at at own book) place slot ≡ true
    → (refers_to book place slot ≡ true) ⊎ (own ≡ slot)
put_back book at own place slot is h = elim (eqb_tells own slot) [
  | inl same ↦ inr same.1
  | inr other ↦ inl (
      sym (refers_other book.first (length book.uses) book.referred at own place slot true is.above is.below (λ both. other.1 (sym both.1)))
      ∙ sym (ap (λ (n : ℕ). refers book.first n (put_at book.referred (at * length book.uses + (own - book.first)) true) place slot)
      (put_at_length book.uses (own - book.first) (successor (get_or book.uses (own - book.first) 0))))
      ∙ h
      )
]

-- a slot with a use after a change had one before, or the change gave it
pub given_or_was : (connections : ℕ) (book : BookState) (c : PublisherChange) (slot : ℕ) → PutsOwn book c
    → IsUsed connections (changed c book) slot → IsUsed connections book slot ⊎ IsGiven c slot
given_or_was connections book change.Nothing slot own h = inl h
given_or_was connections book change.Lend slot own (inl h) = inl (inl (omega (arith, h, ap (count slot) (lent_history book))))
given_or_was connections book change.Lend slot own (inr h) = inl (inr (h.0, h.1, sym (else_refers book change.Lend tt h.0 slot) ∙ h.2))
given_or_was connections book (change.Mark v) slot own h = inl h
given_or_was connections book (change.Remember v) slot own (inl h) = elim (remembers slot v book h) [
  | inl was ↦ inl (inl was)
  | inr is ↦ inr is
]
given_or_was connections book (change.Remember v) slot own (inr h)
    = inl (inr (h.0, h.1, sym (else_refers book (change.Remember v) tt h.0 slot) ∙ h.2))
given_or_was connections book (change.TakenBack at v) slot own (inl h) = inl (inl h)
given_or_was connections book (change.TakenBack at v) slot own (inr h) = inl (inr (h.0, h.1, lost_back book at v h.0 slot h.2))
given_or_was connections book (change.Put at v) slot own (inl h) = inl (inl h)
given_or_was connections book (change.Put at v) slot own (inr h) = elim (put_back book at v h.0 slot own h.2) [
  | inl was ↦ inl (inr (h.0, h.1, was))
  | inr is ↦ inr is
]
given_or_was connections book (change.LeftOut at v) slot own (inl h) = inl (inl h)
given_or_was connections book (change.LeftOut at v) slot own (inr h) = inl (inr (h.0, h.1, lost_back book at v h.0 slot h.2))
given_or_was connections book (change.DropLoan v) slot own (inl h) = inl (inl h)
given_or_was connections book (change.DropLoan v) slot own (inr h)
    = inl (inr (h.0, h.1, sym (else_refers book (change.DropLoan v) tt h.0 slot) ∙ h.2))

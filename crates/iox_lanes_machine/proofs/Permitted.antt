-- A publisher with as many slots as the worst case wants has a free one for a loan that it may give.
use Rattle.std.proofs.Common.{ℕ, zero, suc, ◌≡◌, ◌+◌, ◌-◌, ◌*◌, ◌<◌, ◌≤◌, ◌==◌, Bool, true, false, List, [], ◌∷◌, length, get_or, Some}
use Rattle.std.proofs.Common.{None, refl, sym, ◌∙◌, ap, inl, inr, arith}
use Rattle.std.proofs.lemmas.Bool.{cases_lt}
use Rattle.std.proofs.lemmas.Bool.Decides.{eqb_tells}
use Rattle.iox_lanes_parties.specs.LanesBase.declared.calls.publisher.PublisherCall.TheVariants as publishing
use Rattle.iox_lanes_parties.specs.PublisherKeeping.{BookState, first_free}
use Rattle.iox_lanes_parties.specs.declared.publisher.slot_book.LoanMark.TheVariants as mark
use Rattle.iox_lanes_parties.specs.Parties.{is_out}
use Rattle.iox_lanes_machine.specs.LedgerRooms.{slots_at, loans_out, HasRooms}
use Rattle.iox_lanes_machine.specs.LedgerUses.{one_if, count, total, entry, refers_to, references, UsesCounted}
use Rattle.iox_lanes_machine.proofs.Entries.{choose_one, choose_other, entry_is}
use Rattle.iox_lanes_machine.proofs.Rooms.{slots_sum}
use Rattle.iox_lanes_machine.proofs.Sums.{sum, total_is, sum_same, sum_le, sum_plus, sum_count_le, sum_turned}

-- where none is free, each has a use
pub none_free : (counts : List ℕ) (at k : ℕ) → first_free counts at ≡ None → k < length counts → 0 < get_or counts k 0
none_free [] at k e below = absurd (omega (arith, below))
none_free (x ∷ counts) at zero e below = elim (eqb_tells x 0) [
  | inl none ↦ absurd (cc (sym (choose_one (x == 0) (Some at) (first_free counts (at + 1)) none.0) ∙ e))
  | inr some ↦ elim (cases_lt 0 x) [
    | inl lt ↦ lt
    | inr ge ↦ absurd (some.1 (omega (arith, ge)))
  ]
]
none_free (x ∷ counts) at (suc k) e below = elim (eqb_tells x 0) [
  | inl none ↦ absurd (cc (sym (choose_one (x == 0) (Some at) (first_free counts (at + 1)) none.0) ∙ e))
  | inr some ↦ none_free counts (at + 1) k (sym (choose_other (x == 0) (Some at) (first_free counts (at + 1)) some.0) ∙ e)
      (omega (arith, below))
]

sum_ones : (n : ℕ) → sum (λ k. 1) n ≡ n
sum_ones zero = refl
sum_ones (suc n) = omega (arith, sum_ones n)

sum_each : (n c : ℕ) → sum (λ k. c) n ≡ n * c
sum_each zero c = omega arith
sum_each (suc n) c = omega (arith, sum_each n c)

-- the use of a slot by its index
use_is : (connections : ℕ) (book : BookState) (k : ℕ) → UsesCounted connections book
    → get_or book.uses k 0 ≡ one_if (is_out (get_or book.loans k mark.No)) + count (book.first + k) book.history + references book.first
    (length book.uses) book.referred connections (book.first + k)
use_is connections book k c =
    let le : book.first ≤ book.first + k = omega arith in
    let at : book.first + k - book.first ≡ k = omega arith in
    let uses : entry book.first book.uses (book.first + k) 0 ≡ get_or book.uses k 0
    = entry_is book.first (book.first + k) book.uses 0 le ∙ ap (λ (i : ℕ). get_or book.uses i 0) at in
    let loans : is_out (entry book.first book.loans (book.first + k) mark.No) ≡ is_out (get_or book.loans k mark.No)
    = ap is_out (entry_is book.first (book.first + k) book.loans mark.No le ∙ ap (λ (i : ℕ). get_or book.loans i mark.No) at) in
    omega (arith, (c.each (book.first + k)).counted, uses, ap one_if loans)

-- as many slots as have a use: those of loans, of the history and of the connections
pub all_used : (cells connections : ℕ) (book : BookState) → first_free book.uses 0 ≡ None → UsesCounted connections book
    → HasRooms cells connections book publishing.Lending
    → length book.uses ≤ loans_out book + book.kept + connections * (cells - 1)
all_used cells connections book none c k =
    let n : ℕ = length book.uses in
    let loans : ℕ → ℕ = λ i. one_if (is_out (get_or book.loans i mark.No)) in
    let history : ℕ → ℕ = λ i. count (book.first + i) book.history in
    let rows : ℕ → ℕ = λ i. references book.first n book.referred connections (book.first + i) in
    let cell : ℕ → ℕ → ℕ = λ i place. one_if (refers_to book place (book.first + i)) in
    let used : sum (λ i. 1) n ≤ sum (λ i. get_or book.uses i 0) n
    = sum_le (λ i. 1) (λ i. get_or book.uses i 0) n (λ i below. omega (arith, none_free book.uses 0 i none below)) in
    let parts : sum (λ i. get_or book.uses i 0) n ≡ sum (λ i. loans i + history i + rows i) n
    = sum_same _ _ n (λ i below. use_is connections book i c) in
    let out : loans_out book ≡ sum loans n
    = ap (total (λ i. is_out (get_or book.loans i mark.No))) c.loans_each ∙ total_is (λ i. is_out (get_or book.loans i mark.No)) n in
    let cells_of : sum rows n ≡ sum (λ i. sum (λ place. cell i place) connections) n
    = sum_same _ _ n (λ i below. total_is (λ place. refers_to book place (book.first + i)) connections) in
    let turned : sum (λ i. sum (λ place. cell i place) connections) n ≡ sum (λ place. sum (λ i. cell i place) n) connections
    = sum_turned cell n connections in
    let columns : sum (λ place. sum (λ i. cell i place) n) connections ≡ sum (λ place. slots_at book place) connections
    = sum_same _ _ connections (λ place below. sym (slots_sum book place)) in
    let few : sum (λ place. slots_at book place) connections ≤ sum (λ place. cells - 1) connections
    = sum_le _ _ connections (λ place below. omega (arith, k.swept place below tt)) in
    omega (
      arith,
      sum_ones n,
      used,
      parts,
      sum_plus loans history n,
      sum_plus (λ i. loans i + history i) rows n,
      out,
      sum_count_le book.first n book.history,
      (k.counts).kept,
      cells_of,
      turned,
      columns,
      few,
      sum_each connections (cells - 1),
    )

-- a test that holds somewhere
pub some_place : (f : ℕ → Bool) (n : ℕ) → 0 < total f n → (k : ℕ) × (k < n) × (f k ≡ true)
some_place f zero some = absurd (omega (arith, some))
some_place f (suc n) some = here (f n) refl (λ more. some_place f n more)
  where
    here : (b : Bool) → f n ≡ b → (0 < total f n → (k : ℕ) × (k < n) × (f k ≡ true)) → (k : ℕ) × (k < suc n) × (f k ≡ true)
    here true e h = (n, omega arith, e)
    here false e h =
        let below = h (omega (arith, some, ap one_if e)) in
        (below.0, omega (arith, below.1), below.2)

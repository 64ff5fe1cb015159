-- The loan that a slot contains.
use Rattle.std.proofs.Common.{◌≡◌, ◌≢◌, ◌<◌, ◌==◌, ◌&&◌, ◌||◌, ◌∙◌, ℕ, Bool, true, false, if◌then◌else◌, not, List, [], ◌∷◌, length}
use Rattle.std.proofs.Common.{get_or, map, is_some, nat_lt, position, None, Some, refl, sym, ap, arith}
use Rattle.std.specs.List.{list_any, find}
use Rattle.std.proofs.Math.Logic.{⊎_elim}
use Rattle.std.proofs.Math.Dec.{eqb}
use Rattle.std.proofs.lemmas.Bool.{cases_Bool}
use Rattle.std.proofs.lemmas.Bool.Decides.{eqb_tells}
use Rattle.std.proofs.lemmas.List.Folds.{find_at}
use Rattle.std.proofs.lemmas.List.Quantifiers.{position-Some}
use Rattle.iox_domain_slots.specs.Uses.{Uses}
use Rattle.iox_domain_slots.specs.Loans.{place_in as place_among}
use Rattle.iox_domain_ports.specs.Messages.{Loan, Message}
use Rattle.iox_domain_ports.specs.MessagesSending.{SenderState, Store, seen_sender, loan_in, has_loan, loan_at, place_in, is_written_loan}
use Rattle.iox_domain_ports.specs.MessagesSending.{is_written_at}
use Rattle.iox_domain_ports.specs.Sending.{ready_loan}
use Rattle.iox_domain_ports.specs.declared.publisher_port.PublisherPort.{PublisherPort}
use Rattle.iox_domain_ports.proofs.Finding.{no_loan}
use Rattle.iox_domain_ports.proofs.Naming.{first_by}
use Rattle.iox_domain_ports.proofs.Seen.{same_test, any_first, any_named}

found_among : {T U : Type 0} (store : Store T U) (slot : ℕ) (xs : List ℕ) → list_any (λ other. eqb slot other) xs ≡ true
    → find (λ loan. loan.slot == slot) (map (loan_in store) xs) ≡ Some (loan_in store slot)
found_among store slot [] is = let wrong : ◌≡◌ {A = ℕ} 0 1 = ap (λ b. if b then 1 else 0) is in absurd (omega (arith, wrong))
found_among store slot (x ∷ xs) is = ⊎_elim {A = (eqb slot x ≡ true) × (slot ≡ x)} {B = (eqb slot x ≡ false) × (slot ≢ x)}
    (λ same. let here : (x == slot) ≡ true = same_test slot x ∙ same.0 in rw here (ap (λ k. Some (loan_in store k)) (sym same.1)))
    (λ other.
    let away : (x == slot) ≡ false = same_test slot x ∙ other.0 in
    let rest : list_any (λ other. eqb slot other) xs ≡ true = rw other.0 at is in
    rw away (found_among store slot xs rest))
    (eqb_tells slot x)

-- the slots of the loans have this one if a loan is seen there
pub lent_there : {T U : Type 0} (store : Store T U) (old : Uses ℕ ℕ) (state : SenderState T U) (slot : ℕ) → seen_sender store old ≡ state
    → list_any (λ other. eqb slot other) old.loans ≡ has_loan slot state.uses
lent_there store old state slot is = sym (any_named store slot old.loans) ∙ ap (λ s. has_loan slot s.uses) is

-- then it is the one that is kept in the slot
pub loan_found : {T U : Type 0} (store : Store T U) (old : Uses ℕ ℕ) (state : SenderState T U) (slot : ℕ) → seen_sender store old ≡ state
    → has_loan slot state.uses ≡ true → loan_at slot state.uses ≡ Some (loan_in store slot)
loan_found store old state slot is there =
    ap (λ s. loan_at slot s.uses) (sym is) ∙ found_among store slot old.loans (lent_there store old state slot is ∙ there)

-- a loan that is written is there
pub written_there : {T U : Type 0} (slot : ℕ) (uses : Uses (Loan T U) (Message T U)) → is_written_loan (loan_at slot uses) ≡ true
    → has_loan slot uses ≡ true
written_there slot uses written = ⊎_elim
    (λ yes. yes)
    (λ no.
    let none : false ≡ true = sym (ap is_written_loan (no_loan slot uses.loans no)) ∙ written in
    let wrong : ◌≡◌ {A = ℕ} 0 1 = ap (λ b. if b then 1 else 0) none in
    absurd (omega (arith, wrong)))
    (cases_Bool (has_loan slot uses))

-- it is at the same place of both lists
pub places_are : {T U : Type 0} (store : Store T U) (old : Uses ℕ ℕ) (state : SenderState T U) (slot : ℕ) → seen_sender store old ≡ state
    → place_among slot old.loans ≡ place_in slot state.uses
places_are store old state slot is = sym (first_by (loan_in store) (λ loan. loan.slot == slot) old.loans) ∙ ap
    (λ s. place_in slot s.uses) is

-- where it is first
pub place_there : (slot : ℕ) (xs : List ℕ) → list_any (λ other. eqb slot other) xs ≡ true → (place_among slot xs < length xs)
    × (get_or xs (place_among slot xs) 0 ≡ slot)
place_there slot xs there =
    let within : nat_lt (place_among slot xs) (length xs) ≡ true = any_first (λ k. k) slot xs ∙ there in
    let is : position (λ other. other == slot) xs ≡ Some (place_among slot xs) = rw within refl in
    let first = position-Some (λ other. other == slot) xs (place_among slot xs) 0 is in
    (first.0, grind (arith, first.1))

-- the place of the loan in a slot, if one is there
pub place_found : {T U : Type 0} (slot : ℕ) (uses : Uses (Loan T U) (Message T U)) → has_loan slot uses ≡ true
    → position (λ loan. loan.slot == slot) uses.loans ≡ Some (place_in slot uses)
place_found slot uses there =
    let within : nat_lt (place_in slot uses) (length uses.loans) ≡ true = any_first (λ loan. loan.slot) slot uses.loans ∙ there in
    rw within refl

pub place_missing : {T U : Type 0} (slot : ℕ) (uses : Uses (Loan T U) (Message T U)) → has_loan slot uses ≡ false
    → position (λ loan. loan.slot == slot) uses.loans ≡ None
place_missing slot uses none =
    let past : nat_lt (place_in slot uses) (length uses.loans) ≡ false = any_first (λ loan. loan.slot) slot uses.loans ∙ none in
    rw past refl

-- whether the loan in a slot may be sent
pub ready_is : {T U : Type 0} (slot : ℕ) (port : PublisherPort T U) (waits written : Bool) → is_some port.sender.uses.sending ≡ waits
    → is_written_loan (loan_at slot port.sender.uses) ≡ written
    → ready_loan slot port ≡ (if not waits && written then Some (place_in slot port.sender.uses) else None)
ready_is slot port waits written is_waiting is = ⊎_elim
    (λ there.
    let at : is_written_at (place_in slot port.sender.uses) port.sender.uses ≡ written =
    ap is_written_loan (sym (find_at (λ loan. loan.slot == slot) port.sender.uses.loans)) ∙ is in
    let found = place_found slot port.sender.uses there in
    rw found (rw is_waiting (rw at (either waits written))))
    (λ none.
    let unwritten : false ≡ written = sym (ap is_written_loan (no_loan slot port.sender.uses.loans none)) ∙ is in
    let missing = place_missing slot port.sender.uses none in
    rw missing (rw (← unwritten) (neither waits)))
    (cases_Bool (has_loan slot port.sender.uses))
  where
    either : (waits written : Bool) → (if waits || not written then None else Some (place_in slot port.sender.uses))
        ≡ (if not waits && written then Some (place_in slot port.sender.uses) else None)
    either true true = refl
    either true false = refl
    either false true = refl
    either false false = refl

    neither : (waits : Bool) → None ≡ (if not waits && false then Some (place_in slot port.sender.uses) else None)
    neither true = refl
    neither false = refl

-- The loan in a slot is found.
use Rattle.std.proofs.Common.{arith, ◌≡◌, ◌≢◌, ◌==◌, ◌&&◌, ◌≤◌, ◌∙◌, ℕ, zero, suc, Bool, true, false, if◌then◌else◌, List, [], ◌∷◌}
use Rattle.std.proofs.Common.{length, get_or, is_some, nat_lt, slice_get, Option, None, Some, refl, sym, ap, position, unwrap_or}
use Rattle.std.specs.List.{list_any, find, position_or_len}
use Rattle.std.proofs.Math.Logic.{⊎_elim}
use Rattle.std.proofs.Math.Dec.{eqb}
use Rattle.std.proofs.lemmas.Bool.{cases_Bool}
use Rattle.std.proofs.lemmas.Bool.Decides.{eqb_tells}
use Rattle.std.proofs.lemmas.List.{get_or_past}
use Rattle.std.proofs.lemmas.List.Folds.{find_at}
use Rattle.std.proofs.lemmas.Option.{none-some, slice_get_cases}
use Rattle.iox_domain_ports.specs.Messages.{Loan, written_of}
use Rattle.iox_domain_ports.specs.MessagesSending.{is_written_loan}
use Rattle.iox_domain_ports.specs.Writing.{value_at, values_at}

-- false isn't true
not_true : false ≡ true → ⊥
not_true is = let wrong : ◌≡◌ {A = ℕ} 0 1 = ap (λ b. if b then 1 else 0) is in absurd (omega (arith, wrong))

-- two numbers that differ, tested the other way round
apart : (one other : ℕ) → one ≢ other → eqb other one ≡ false
apart one other differ = ⊎_elim (λ same. absurd (differ (sym same.1))) (λ differs. differs.0) (eqb_tells other one)

-- two numbers that are one, tested
alike : (one other : ℕ) → one ≡ other → eqb other one ≡ true
alike one other same = ⊎_elim (λ is. is.0) (λ differs. absurd (differs.1 (sym same))) (eqb_tells other one)

-- a loan that has this place stands in the slot: the first loan there is at some place of the list
pub found : {T U : Type 0} (slot place : ℕ) (loans : List (Loan T U))
    → list_any (λ loan. eqb slot loan.slot && nat_lt place (length loan.values)) loans ≡ true
    → (at : ℕ) × (loan : Loan T U) × (slice_get loans at ≡ Some loan) × (loan.slot ≡ slot)
    × (find (λ loan. loan.slot == slot) loans ≡ Some loan)
found slot place [] any = absurd (not_true any)
found slot place (loan ∷ loans) any = ⊎_elim
    (λ same. (zero, loan, refl, same.1, rw same.0 refl))
    (λ other.
    let rest : list_any (λ one. eqb slot one.slot && nat_lt place (length one.values)) loans ≡ true
    = rw (apart loan.slot slot other.1) at any in
    let more = found slot place loans rest in
    (suc more.0, more.1, more.2, more.3, rw other.0 more.4))
    (eqb_tells loan.slot slot)

-- no loan that has this place stands in the slot: nothing is written there
pub missing : {T U : Type 0} (slot place : ℕ) (loans : List (Loan T U))
    → list_any (λ loan. eqb slot loan.slot && nat_lt place (length loan.values)) loans ≡ false
    → value_at place (find (λ loan. loan.slot == slot) loans) ≡ None
missing slot place [] none = refl
missing slot place (loan ∷ loans) none = ⊎_elim
    (λ same.
    let here : eqb slot loan.slot ≡ true = alike loan.slot slot same.1 in
    ⊎_elim
    (λ within. absurd (not_true (let wrong : true ≡ false = rw within at (rw here at none) in sym wrong)))
    (λ past. rw same.0 (get_or_past loan.values place None (grind (arith, past))))
    (cases_Bool (nat_lt place (length loan.values))))
    (λ other.
    let rest : list_any (λ one. eqb slot one.slot && nat_lt place (length one.values)) loans ≡ false
    = rw (apart loan.slot slot other.1) at none in
    rw other.0 (missing slot place loans rest))
    (eqb_tells loan.slot slot)

-- a loan of one value has the first place
pub one_place : {T U : Type 0} (slot : ℕ) (loans : List (Loan T U))
    → list_any (λ loan. eqb slot loan.slot && eqb 1 (length loan.values)) loans ≡ true
    → list_any (λ loan. eqb slot loan.slot && nat_lt 0 (length loan.values)) loans ≡ true
one_place slot [] any = any
one_place slot (loan ∷ loans) any = ⊎_elim
    (λ here. ⊎_elim
    (λ single. let some : nat_lt 0 (length loan.values) ≡ true = grind (arith, single.1) in rw here (rw some refl))
    (λ other.
    let rest : list_any (λ one. eqb slot one.slot && eqb 1 (length one.values)) loans ≡ true = rw other.0 at (rw here at any) in
    ⊎_elim (λ yes. rw here (rw yes refl)) (λ no. rw here (rw no (one_place slot loans rest))) (cases_Bool (nat_lt 0 (length loan.values))))
    (eqb_tells 1 (length loan.values)))
    (λ away.
    let rest : list_any (λ one. eqb slot one.slot && eqb 1 (length one.values)) loans ≡ true = rw away at any in
    rw away (one_place slot loans rest))
    (cases_Bool (eqb slot loan.slot))

-- what stands at the first place that passes is what is found
pub at_place : {X : Type 0} (test : X → Bool) (xs : List X) (at : ℕ) → Some at ≡ position test xs → slice_get xs at ≡ find test xs
at_place test xs at is = ⊎_elim
    (λ within.
    let same : Some at ≡ Some (position_or_len test xs) = rw within at is in
    let equal : at ≡ position_or_len test xs = ap (λ some. unwrap_or some 0) same in
    rw equal (sym (find_at test xs)))
    (λ past. let none : Some at ≡ None = rw past at is in absurd (none-some at (sym none)))
    (cases_Bool (nat_lt (position_or_len test xs) (length xs)))

-- where no place passes nothing is found
pub at_none : {X : Type 0} (test : X → Bool) (xs : List X) → None ≡ position test xs → find test xs ≡ None
at_none test xs is = ⊎_elim
    (λ within. let some : None ≡ Some (position_or_len test xs) = rw within at is in absurd (none-some (position_or_len test xs) some))
    (λ past. let over : length xs ≤ position_or_len test xs = grind (arith, past) in
    find_at test xs ∙ ⊎_elim (λ inside. absurd (omega (arith, over, inside.1))) (λ outside. outside.1)
    (slice_get_cases xs (position_or_len test xs)).1)
    (cases_Bool (nat_lt (position_or_len test xs) (length xs)))

-- a loan stands in the slot: the first one there is at some place of the list
pub found_loan : {T U : Type 0} (slot : ℕ) (loans : List (Loan T U)) → list_any (λ loan. eqb slot loan.slot) loans ≡ true
    → (at : ℕ) × (loan : Loan T U) × (slice_get loans at ≡ Some loan) × (loan.slot ≡ slot)
    × (find (λ loan. loan.slot == slot) loans ≡ Some loan)
found_loan slot [] any = absurd (not_true any)
found_loan slot (loan ∷ loans) any = ⊎_elim
    (λ same. (zero, loan, refl, same.1, rw same.0 refl))
    (λ other.
    let rest : list_any (λ one. eqb slot one.slot) loans ≡ true = rw (apart loan.slot slot other.1) at any in
    let more = found_loan slot loans rest in
    (suc more.0, more.1, more.2, more.3, rw other.0 more.4))
    (eqb_tells loan.slot slot)

-- no loan stands in the slot
pub no_loan : {T U : Type 0} (slot : ℕ) (loans : List (Loan T U)) → list_any (λ loan. eqb slot loan.slot) loans ≡ false
    → find (λ loan. loan.slot == slot) loans ≡ None
no_loan slot [] none = refl
no_loan slot (loan ∷ loans) none = ⊎_elim
    (λ same. absurd (not_true (let wrong : true ≡ false = rw (alike loan.slot slot same.1) at none in sym wrong)))
    (λ other.
    let rest : list_any (λ one. eqb slot one.slot) loans ≡ false = rw (apart loan.slot slot other.1) at none in
    rw other.0 (no_loan slot loans rest))
    (eqb_tells loan.slot slot)

-- a loan in the slot that passes a test is one in the slot
pub some_loan : {T U : Type 0} (slot : ℕ) (test : Loan T U → Bool) (loans : List (Loan T U))
    → list_any (λ loan. eqb slot loan.slot && test loan) loans ≡ true
    → list_any (λ loan. eqb slot loan.slot) loans ≡ true
some_loan slot test [] any = any
some_loan slot test (loan ∷ loans) any = ⊎_elim
    (λ here. rw here refl)
    (λ away.
    let rest : list_any (λ one. eqb slot one.slot && test one) loans ≡ true = rw away at any in
    rw away (some_loan slot test loans rest))
    (cases_Bool (eqb slot loan.slot))

none_of : {X : Type 0} (one : Option X) → is_some one ≡ false → one ≡ None
none_of None isnt = refl
none_of (Some x) isnt = absurd (not_true (sym isnt))

-- the value at a place of the loan in the slot isn't written: none stands there
pub unwritten : {T U : Type 0} (slot place : ℕ) (loans : List (Loan T U))
    → list_any (λ loan. eqb slot loan.slot && is_some (get_or loan.values place None)) loans ≡ false
    → value_at place (find (λ loan. loan.slot == slot) loans) ≡ None
unwritten slot place [] none = refl
unwritten slot place (loan ∷ loans) none = ⊎_elim
    (λ same.
    let here : eqb slot loan.slot ≡ true = alike loan.slot slot same.1 in
    ⊎_elim
    (λ written. absurd (not_true (let wrong : true ≡ false = rw written at (rw here at none) in sym wrong)))
    (λ isnt. rw same.0 (none_of (get_or loan.values place None) isnt))
    (cases_Bool (is_some (get_or loan.values place None))))
    (λ other.
    let rest : list_any (λ one. eqb slot one.slot && is_some (get_or one.values place None)) loans ≡ false
    = rw (apart loan.slot slot other.1) at none in
    rw other.0 (unwritten slot place loans rest))
    (eqb_tells loan.slot slot)

-- a loan that isn't written has no values to be read
pub no_values : {T U : Type 0} (loan : Option (Loan T U)) → is_written_loan loan ≡ false → values_at loan ≡ None
no_values None unwritten = refl
no_values (Some loan) unwritten = rw unwritten refl

-- the values of a written loan
pub loan_values : {T U : Type 0} (loan : Option (Loan T U)) (values : List T) → is_written_loan loan ≡ true
    → ((one : Loan T U) → loan ≡ Some one → values ≡ written_of one.values) → Some values ≡ values_at loan
loan_values None values written are = absurd (not_true written)
loan_values (Some loan) values written are = rw written (ap Some (are loan refl))

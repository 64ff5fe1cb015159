-- What is read of loans and messages.
use Rattle.std.proofs.Common.{rules, arith, ◌≡◌, ◌<◌, ◌∷◌, [], ℕ, zero, suc, Bool, true, false, List, length, get_or, map, slice_get}
use Rattle.std.proofs.Common.{Option, None, Some, is_some, refl, sym, ap, ◌∙◌}
use Rattle.std.proofs.lemmas.List.{length-map}
use Rattle.std.specs.List.{list_all}
use Rattle.iox_domain_slots.specs.Uses.{Uses, connection_at, begun}
use Rattle.iox_domain_ports.specs.Payloads.{payload_at}
use Rattle.iox_domain_ports.specs.Messages.{Message, Loan, sent_as, written_of, is_written}
use Rattle.iox_domain_ports.specs.MessagesSending.{SenderState, Store, IsSender, seen_sender, with_uses, uses_by, loan_in, message_in}
use Rattle.iox_domain_ports.specs.MessagesSending.{masked, is_written_loan}
use Rattle.iox_domain_ports.proofs.Naming.{connection_at_by, begun_by}
use Rattle.iox_domain_ports.proofs.Seen.{seen_step}

-- what stands at a place of a list of names
named_at : {Y : Type 0} (name : ℕ → Y) (xs : List ℕ) (at : ℕ) (y : Y) → slice_get (map name xs) at ≡ Some y → y ≡ name (get_or xs at 0)
named_at name [] at y is = search (rules, is)
named_at name (x ∷ xs) zero y is = search (rules, is)
named_at name (x ∷ xs) (suc at) y is = named_at name xs at y is

-- the message at a place of a list of messages is the one in its slot
in_its_slot : {T U : Type 0} (store : Store T U) (xs : List ℕ) (slot at : ℕ) (message : Message T U)
    → slice_get (map (message_in store) xs) at ≡ Some message → message.slot ≡ slot → message_in store slot ≡ message
in_its_slot store xs slot at message seen stands =
    let it : message ≡ message_in store (get_or xs at 0) = named_at (message_in store) xs at message seen in
    let same : get_or xs at 0 ≡ slot = sym (ap (λ m. m.slot) it) ∙ stands in
    sym (it ∙ ap (message_in store) same)

-- the message at a place of what is borrowed is the one in its slot
pub borrowed_is : {T U : Type 0} (store : Store T U) (old : Uses ℕ ℕ) (state : SenderState T U) (slot index at : ℕ)
    (message : Message T U) → seen_sender store old ≡ state
    → slice_get (connection_at index state.uses).borrowed at ≡ Some message → message.slot ≡ slot → message_in store slot ≡ message
borrowed_is store old state slot index at message is there stands =
    let seen : slice_get (map (message_in store) (connection_at index old).borrowed) at ≡ Some message =
    ap (λ c. slice_get c.borrowed at) (sym (connection_at_by (loan_in store) (message_in store) index old)) ∙ ap
    (λ s. slice_get (connection_at index s.uses).borrowed at) is ∙ there in
    let it : message ≡ message_in store (get_or (connection_at index old).borrowed at 0)
    = named_at (message_in store) (connection_at index old).borrowed at message seen in
    let same : get_or (connection_at index old).borrowed at 0 ≡ slot = sym (ap (λ m. m.slot) it) ∙ stands in
    sym (it ∙ ap (message_in store) same)

-- so is the message at a place of what waits
pub waiting_is : {T U : Type 0} (store : Store T U) (old : Uses ℕ ℕ) (state : SenderState T U) (slot index at : ℕ)
    (message : Message T U) → seen_sender store old ≡ state
    → slice_get (connection_at index state.uses).waiting at ≡ Some message → message.slot ≡ slot → message_in store slot ≡ message
waiting_is store old state slot index at message is there stands =
    let seen : slice_get (map (message_in store) (connection_at index old).waiting) at ≡ Some message =
    ap (λ c. slice_get c.waiting at) (sym (connection_at_by (loan_in store) (message_in store) index old)) ∙ ap
    (λ s. slice_get (connection_at index s.uses).waiting at) is ∙ there in
    in_its_slot store (connection_at index old).waiting slot at message seen stands

-- and the message at a place of the history
pub remembered_is : {T U : Type 0} (store : Store T U) (old : Uses ℕ ℕ) (state : SenderState T U) (slot at : ℕ) (message : Message T U)
    → seen_sender store old ≡ state
    → slice_get state.uses.history at ≡ Some message → message.slot ≡ slot → message_in store slot ≡ message
remembered_is store old state slot at message is there stands =
    in_its_slot store old.history slot at message (ap (λ s. slice_get s.uses.history at) is ∙ there) stands

-- what stands at a place of a list that is long enough
pub stands_at : (xs : List ℕ) (at slot : ℕ) → at < length xs → slot ≡ get_or xs at 0 → slice_get xs at ≡ Some slot
stands_at [] at slot below is = absurd (omega (arith, below))
stands_at (x ∷ xs) zero slot below is = ap Some (sym is)
stands_at (x ∷ xs) (suc at) slot below is = stands_at xs at slot (omega (arith, below)) is

-- a place of the history as it is seen is one of the slots that are kept
pub remembered_below : {T U : Type 0} (store : Store T U) (old : Uses ℕ ℕ) (state : SenderState T U) (place : ℕ)
    → seen_sender store old ≡ state
    → place < length state.uses.history → place < length old.history
remembered_below store old state place is below
    = omega (arith, below, ap (λ s. length s.uses.history) is, length-map old.history (message_in store))

-- messages that are named by their slots stand in these
pub slot_named : {T U : Type 0} (store : Store T U) (xs : List ℕ) (at slot : ℕ) → slice_get xs at ≡ Some slot
    → slice_get (map (λ message. message.slot) (map (message_in store) xs)) at ≡ Some slot
slot_named store [] at slot found = search (rules, found)
slot_named store (x ∷ xs) zero slot found = found
slot_named store (x ∷ xs) (suc at) slot found = slot_named store xs at slot found

-- the loan at a place of the list is the one in its slot
pub loan_is : {T U : Type 0} (store : Store T U) (old : Uses ℕ ℕ) (state : SenderState T U) (at : ℕ) (loan : Loan T U)
    → seen_sender store old ≡ state
    → slice_get state.uses.loans at ≡ Some loan → loan ≡ loan_in store (get_or old.loans at 0)
loan_is store old state at loan is there = named_at (loan_in store) old.loans at loan (ap (λ s. slice_get s.uses.loans at) is ∙ there)

pub loan_in_is : {T U : Type 0} (store : Store T U) (old : Uses ℕ ℕ) (state : SenderState T U) (slot at : ℕ) (loan : Loan T U)
    → seen_sender store old ≡ state
    → slice_get state.uses.loans at ≡ Some loan → loan.slot ≡ slot → loan_in store slot ≡ loan
loan_in_is store old state slot at loan is there stands =
    let it = loan_is store old state at loan is there in
    let same : get_or old.loans at 0 ≡ slot = sym (ap (λ l. l.slot) it) ∙ stands in
    sym (it ∙ ap (loan_in store) same)

-- whether all values are written is told by their marks
pub all_written : {T : Type 0} (marks : List Bool) (values : List T) → length marks ≡ length values
    → list_all (λ mark. mark) marks ≡ list_all is_some (masked marks values)
all_written [] values same = refl
all_written (mark ∷ marks) [] same = absurd (omega (arith, same))
all_written (true ∷ marks) (value ∷ values) same = all_written marks values (omega (arith, same))
all_written (false ∷ marks) (value ∷ values) same = refl

-- a value is seen exactly if it is written
pub value_absent : {T : Type 0} (marks : List Bool) (values : List T) (place : ℕ) → get_or marks place false ≡ false
    → get_or (masked marks values) place None ≡ None
value_absent [] values place off = refl
value_absent (mark ∷ marks) [] place off = refl
value_absent (mark ∷ marks) (value ∷ values) zero off = rw off refl
value_absent (mark ∷ marks) (value ∷ values) (suc place) off = value_absent marks values place off

pub value_present : {T : Type 0} (marks : List Bool) (values : List T) (place : ℕ) (value : T) → place < length values
    → get_or marks place false ≡ true
    → get_or (masked marks values) place None ≡ Some (get_or values place value)
value_present [] values place value inside on = search (rules, on)
value_present (mark ∷ marks) [] place value inside on = absurd (omega (arith, inside))
value_present (mark ∷ marks) (v ∷ values) zero value inside on = rw on refl
value_present (mark ∷ marks) (v ∷ values) (suc place) value inside on = value_present marks values place value (omega (arith, inside)) on

-- the values of a written loan are its message's
whole : {T : Type 0} (marks : List Bool) (values : List T) → length marks ≡ length values
    → list_all is_some (masked marks values) ≡ true → written_of (masked marks values) ≡ values
whole [] [] same all = refl
whole [] (value ∷ values) same all = absurd (omega (arith, same))
whole (mark ∷ marks) [] same all = absurd (omega (arith, same))
whole (true ∷ marks) (value ∷ values) same all = ap (λ vs. value ∷ vs) (whole marks values (omega (arith, same)) all)
whole (false ∷ marks) (value ∷ values) same all = search (rules, all)

pub becomes : {T U : Type 0} (store : Store T U) (old : Uses ℕ ℕ) (slot : ℕ) → IsSender store old
    → is_written (loan_in store slot) ≡ true → message_in store slot ≡ sent_as (message_in store slot).sequence (loan_in store slot)
becomes store old slot is written =
    ap (λ values. record (message_in store slot) { values = values })
    (sym (whole (payload_at slot store.written) (payload_at slot store.values) (is.marks slot) written))

-- the values of a written loan are those that stand in its slot
pub loan_values_are : {T U : Type 0} (store : Store T U) (old : Uses ℕ ℕ) (state : SenderState T U) (at : ℕ) (loan : Loan T U)
    → seen_sender store old ≡ state → IsSender store old
    → slice_get state.uses.loans at ≡ Some loan → is_written loan ≡ true
    → payload_at (get_or old.loans at 0) store.values ≡ written_of loan.values
loan_values_are store old state at loan is sender there written =
    let it = loan_is store old state at loan is there in
    ap (λ message. message.values) (becomes store old (get_or old.loans at 0) sender (sym (ap is_written it) ∙ written)) ∙ sym
    (ap (λ l. written_of l.values) it)

-- the send of a written loan begins whose number stands in its slot
pub begin_seen : {T U : Type 0} (store : Store T U) (old new : Uses ℕ ℕ) (state : SenderState T U) (at : ℕ) (sequence : Option ℕ)
    (loan : Loan T U) → seen_sender store old ≡ state → IsSender store old
    → (message_in store (get_or old.loans at 0)).sequence ≡ sequence
    → slice_get state.uses.loans at ≡ Some loan → is_written loan ≡ true → new ≡ begun at (get_or old.loans at 0) old
    → seen_sender store new ≡ with_uses (begun at (sent_as sequence loan) state.uses) state
begin_seen store old new state at sequence loan is sender numbered there written made =
    let it = loan_is store old state at loan is there in
    let message : message_in store (get_or old.loans at 0) ≡ sent_as sequence loan
    = becomes store old (get_or old.loans at 0) sender (sym (ap is_written it) ∙ written)
    ∙ ap (λ number. sent_as number (loan_in store (get_or old.loans at 0))) numbered ∙ sym (ap (sent_as sequence) it) in
    seen_step store old new state (begun at (sent_as sequence loan)) is (
    ap (uses_by (loan_in store) (message_in store)) made ∙ begun_by (loan_in store) (message_in store) at (get_or old.loans at 0) old
    ∙ ap (λ m. begun at m (uses_by (loan_in store) (message_in store) old)) message
    )

-- the loan at a place is written if the one in its slot is
pub written_at : {T U : Type 0} (store : Store T U) (xs : List ℕ) (at : ℕ) → at < length xs
    → is_written_loan (slice_get (map (loan_in store) xs) at) ≡ is_written (loan_in store (get_or xs at 0))
written_at store [] at below = absurd (omega (arith, below))
written_at store (x ∷ xs) zero below = refl
written_at store (x ∷ xs) (suc at) below = written_at store xs at (omega (arith, below))

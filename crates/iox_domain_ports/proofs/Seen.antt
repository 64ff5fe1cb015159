-- What is seen of a publisher after each step.
use Rattle.std.proofs.Common.{rules, arith, ◌≡◌, ◌+◌, ◌<◌, ◌∷◌, [], ◌++◌, ℕ, Bool, true, is_some, option_map, List, length, get_or, map}
use Rattle.std.proofs.Common.{Option, None, Some, Result, Ok, Err, IfOk, replicate, zero, suc, refl, sym, ap, ◌∙◌, ◌==◌, nat_lt, ◌||◌}
use Rattle.std.proofs.Common.{◌&&◌, ◌≢◌, false}
use Rattle.iox_domain_slots.specs.Uses.{Uses, Connection, connection_at, with_connection, offered, newest, placed, connected}
use Rattle.iox_domain_ports.specs.Messages.{Message, Loan}
use Rattle.std.specs.declared.alloc.AllocError.{AllocError}
use Rattle.std.specs.Option.{option_to_list}
use Rattle.std.proofs.lemmas.List.{length-map, length-replicate}
use Rattle.iox_domain_slots.specs.Uses.{held}
use Rattle.iox_domain_ports.specs.Rows.{RowsState}
use Rattle.iox_domain_ports.specs.Payloads.{PayloadsState, payload_at, first_slots}
use Rattle.iox_domain_ports.specs.declared.messages.slot_header.SlotHeader.{SlotHeader}
use Rattle.iox_domain_slots.specs.Counting.{times}
use Rattle.std.specs.List.{list_any, position_or_len}
use Rattle.std.proofs.Math.Logic.{⊎_elim}
use Rattle.std.proofs.Math.Dec.{eqb}
use Rattle.std.proofs.lemmas.Bool.Decides.{eqb_tells}
use Rattle.iox_domain_slots.proofs.Counts.{times_cons, one_same}
use Rattle.iox_domain_slots.proofs.Publishing.{in_use_times}
use Rattle.iox_domain_ports.specs.MessagesSending.{SenderState, Store, IsSender, has_loan, has_place, has_value, has_length, seen_sender}
use Rattle.iox_domain_ports.specs.MessagesSending.{sender_of, with_uses, uses_by, connection_by, loan_in, message_in}
use Rattle.iox_domain_ports.proofs.MessagesWriting.{lent_at, test_at, same_of, marked, masked_length}
use Rattle.iox_domain_ports.proofs.Segments.{with_segment}
use Rattle.iox_domain_ports.proofs.Naming.{connection_at_by, with_connection_by, offered_by, placed_by, remembered_by}

-- a step of the uses alone
pub seen_step : {T U : Type 0} (store : Store T U) (old new : Uses ℕ ℕ) (state : SenderState T U)
    (step : Uses (Loan T U) (Message T U) → Uses (Loan T U) (Message T U))
    → seen_sender store old ≡ state → uses_by (loan_in store) (message_in store) new ≡ step (uses_by (loan_in store) (message_in store) old)
    → seen_sender store new ≡ with_uses (step state.uses) state
seen_step store old new state step is named =
    ap (λ uses. sender_of store.values store.blank uses) named ∙ ap (λ s. with_uses (step s.uses) s) is

-- a step of a connection
pub seen_connection : {T U : Type 0} (store : Store T U) (old new : Uses ℕ ℕ) (state : SenderState T U) (index : ℕ)
    (connection : Connection ℕ) (step : Uses (Loan T U) (Message T U) → Connection (Message T U))
    → seen_sender store old ≡ state → new ≡ with_connection index connection old
    → connection_by (message_in store) connection ≡ step (uses_by (loan_in store) (message_in store) old)
    → seen_sender store new ≡ with_uses (with_connection index (step state.uses) state.uses) state
seen_connection store old new state index connection step is made named =
    seen_step store old new state (λ uses. with_connection index (step uses) uses) is (
    ap (uses_by (loan_in store) (message_in store)) made ∙ with_connection_by (loan_in store) (message_in store) index connection old
    ∙ ap (λ c. with_connection index c (uses_by (loan_in store) (message_in store) old)) named
    )

none_of : {X Y : Type 0} (f : X → Y) (xs : List X) → map f xs ≡ [] → xs ≡ []
none_of f [] none = refl
none_of f (x ∷ xs) none = search (rules, none)

-- nothing waits where nothing is seen to wait
pub none_waits : {T U : Type 0} (store : Store T U) (old : Uses ℕ ℕ) (state : SenderState T U) (index : ℕ) → seen_sender store old ≡ state
    → (connection_at index state.uses).waiting ≡ [] → (connection_at index old).waiting ≡ []
none_waits store old state index is none =
    let seen : (connection_at index (uses_by (loan_in store) (message_in store) old)).waiting ≡ []
    = ap (λ s. (connection_at index s.uses).waiting) is ∙ none in
    none_of (message_in store) (connection_at index old).waiting
    (ap (λ c. c.waiting) (sym (connection_at_by (loan_in store) (message_in store) index old)) ∙ seen)

some_named : {X Y : Type 0} (f : X → Y) (one : Option X) → is_some (option_map f one) ≡ is_some one
some_named f None = refl
some_named f (Some x) = refl

-- a message is being sent where one is seen to be
pub sends : {T U : Type 0} (store : Store T U) (old : Uses ℕ ℕ) (state : SenderState T U) → seen_sender store old ≡ state
    → is_some state.uses.sending ≡ true → is_some old.sending ≡ true
sends store old state is there = sym (some_named (message_in store) old.sending) ∙ ap (λ s. is_some s.uses.sending) is ∙ there

-- a message that is sent is offered
pub offer_seen : {T U : Type 0} (store : Store T U) (old new : Uses ℕ ℕ) (state : SenderState T U) (index : ℕ)
    → seen_sender store old ≡ state
    → ((slot : ℕ) → old.sending ≡ Some slot → new ≡ with_connection index (offered old.overflows slot (connection_at index old)) old)
    → (message : Message T U) → state.uses.sending ≡ Some message
    → seen_sender store new ≡ with_uses
    (with_connection index (offered state.uses.overflows message (connection_at index state.uses)) state.uses) state
offer_seen {T = T} {U = U} store old new state index is made message sent = at old.sending refl
  where
    seen : option_map (message_in store) old.sending ≡ Some message
    seen = ap (λ s. s.uses.sending) is ∙ sent

    at : (sending : Option ℕ) → old.sending ≡ sending
        → seen_sender store new ≡ with_uses
        (with_connection index (offered state.uses.overflows message (connection_at index state.uses)) state.uses) state
    at None none = let wrong = ap (option_map (message_in store)) (sym none) ∙ seen in search (rules, wrong)
    at (Some slot) same =
        let one : Some (message_in store slot) ≡ Some message = ap (option_map (message_in store)) (sym same) ∙ seen in
        let is_it : message_in store slot ≡ message = search (rules, one) in
        seen_connection store old new state index (offered old.overflows slot (connection_at index old))
        (λ uses. offered uses.overflows message (connection_at index uses)) is (made slot same) (
        offered_by (message_in store) old.overflows slot (connection_at index old)
        ∙ ap (λ m. offered old.overflows m (connection_by (message_in store) (connection_at index old))) is_it
        ∙ ap (offered old.overflows message) (sym (connection_at_by (loan_in store) (message_in store) index old))
        )

-- a message that is sent is remembered
pub remember_seen : {T U : Type 0} (store : Store T U) (old new : Uses ℕ ℕ) (state : SenderState T U) → seen_sender store old ≡ state
    → ((slot : ℕ) → old.sending ≡ Some slot → new ≡ record old { history = newest old.kept (old.history ++ slot ∷ []) })
    → (message : Message T U) → state.uses.sending ≡ Some message
    → seen_sender store new ≡ with_uses (record state.uses { history = newest state.uses.kept (state.uses.history ++ message ∷ []) }) state
remember_seen {T = T} {U = U} store old new state is made message sent = at old.sending refl
  where
    seen : option_map (message_in store) old.sending ≡ Some message
    seen = ap (λ s. s.uses.sending) is ∙ sent

    at : (sending : Option ℕ) → old.sending ≡ sending
        → seen_sender store new ≡ with_uses
        (record state.uses { history = newest state.uses.kept (state.uses.history ++ message ∷ []) }) state
    at None none = let wrong = ap (option_map (message_in store)) (sym none) ∙ seen in search (rules, wrong)
    at (Some slot) same =
        let one : Some (message_in store slot) ≡ Some message = ap (option_map (message_in store)) (sym same) ∙ seen in
        let is_it : message_in store slot ≡ message = search (rules, one) in
        seen_step store old new state (λ uses. record uses { history = newest uses.kept (uses.history ++ message ∷ []) }) is (
        ap (uses_by (loan_in store) (message_in store)) (made slot same) ∙ remembered_by (loan_in store) (message_in store) slot old
        ∙ ap (λ m. record (uses_by (loan_in store) (message_in store) old)
        { history = newest old.kept (map (message_in store) old.history ++ m ∷ []) }) is_it
        )

none_of_option : {X Y : Type 0} (f : X → Y) (one : Option X) → option_map f one ≡ None → one ≡ None
none_of_option f None none = refl
none_of_option f (Some x) none = search (rules, none)

-- nothing is sent where nothing is seen to be
pub none_sends : {T U : Type 0} (store : Store T U) (old : Uses ℕ ℕ) (state : SenderState T U) → seen_sender store old ≡ state
    → state.uses.sending ≡ None → old.sending ≡ None
none_sends store old state is none = none_of_option (message_in store) old.sending (ap (λ s. s.uses.sending) is ∙ none)

-- nothing changes where nothing is sent
pub none_seen : {T U : Type 0} (store : Store T U) (old new : Uses ℕ ℕ) (state : SenderState T U) → seen_sender store old ≡ state
    → (old.sending ≡ None → new ≡ old) → state.uses.sending ≡ None → seen_sender store new ≡ state
none_seen store old new state is made none = ap (seen_sender store) (made (none_sends store old state is none)) ∙ is

-- a place of the list of loans that is seen is one of it
pub lent_below : {T U : Type 0} (store : Store T U) (old : Uses ℕ ℕ) (state : SenderState T U) (at : ℕ) → seen_sender store old ≡ state
    → at < length state.uses.loans → at < length old.loans
lent_below store old state at is below = omega (arith, below, ap (λ s. length s.uses.loans) is, length-map old.loans (loan_in store))

-- a slot that there is, as it is seen
pub slot_below : {T U : Type 0} (store : Store T U) (old : Uses ℕ ℕ) (state : SenderState T U) (slot : ℕ)
    → seen_sender store old ≡ state → IsSender store old
    → slot < state.uses.first + state.uses.size → slot < length store.headers
slot_below store old state slot is sender below = omega (arith, below, sender.headers, ap (λ s. s.uses.first) is, ap (λ s. s.uses.size) is)

-- the slot of a loan is one that there is
pub lent_slot : {T U : Type 0} (store : Store T U) (old : Uses ℕ ℕ) (slot : ℕ) → IsSender store old → 0 < times slot old.loans
    → slot < old.first + old.size
lent_slot store old slot sender lent = sender.within slot (omega (arith, lent, in_use_times old slot))

pub loan_below : {T U : Type 0} (store : Store T U) (old : Uses ℕ ℕ) (state : SenderState T U) (slot : ℕ)
    → seen_sender store old ≡ state → IsSender store old
    → has_loan slot state.uses ≡ true → slot < old.first + old.size
loan_below store old state slot is sender there
    = lent_slot store old slot sender (lent_at store slot old.loans (ap (λ s. has_loan slot s.uses) is ∙ there))

pub place_lent : {T U : Type 0} (store : Store T U) (old : Uses ℕ ℕ) (state : SenderState T U) (slot place : ℕ)
    → seen_sender store old ≡ state
    → has_place slot place state.uses ≡ true → (0 < times slot old.loans) × (place < length (loan_in store slot).values)
place_lent store old state slot place is there =
    let it = test_at store slot (λ loan. nat_lt place (length loan.values)) old.loans (ap (λ s. has_place slot place s.uses) is ∙ there) in
    (it.0, grind (arith, it.1))

pub value_lent : {T U : Type 0} (store : Store T U) (old : Uses ℕ ℕ) (state : SenderState T U) (slot place : ℕ)
    → seen_sender store old ≡ state → IsSender store old
    → has_value slot place state.uses ≡ true → (0 < times slot old.loans) × (get_or (payload_at slot store.written) place false ≡ true)
value_lent store old state slot place is sender there =
    let it = test_at store slot (λ loan. is_some (get_or loan.values place None)) old.loans
    (ap (λ s. has_value slot place s.uses) is ∙ there) in
    (it.0, sym (marked (payload_at slot store.written) (payload_at slot store.values) place (sender.marks slot)) ∙ it.1)

pub length_lent : {T U : Type 0} (store : Store T U) (old : Uses ℕ ℕ) (state : SenderState T U) (slot count : ℕ)
    → seen_sender store old ≡ state → IsSender store old
    → has_length slot count state.uses ≡ true → (0 < times slot old.loans) × (count ≡ length (payload_at slot store.values))
length_lent store old state slot count is sender there =
    let it = test_at store slot (λ loan. eqb count (length loan.values)) old.loans (ap (λ s. has_length slot count s.uses) is ∙ there) in (
      it.0,
      same_of count (length (loan_in store slot).values) it.1 ∙ masked_length (payload_at slot store.written)
          (payload_at slot store.values) (sender.marks slot),
    )

pub loan_lent : {T U : Type 0} (store : Store T U) (old : Uses ℕ ℕ) (state : SenderState T U) (slot : ℕ) → seen_sender store old ≡ state
    → has_loan slot state.uses ≡ true → 0 < times slot old.loans
loan_lent store old state slot is there = lent_at store slot old.loans (ap (λ s. has_loan slot s.uses) is ∙ there)

-- a connection is made
pub connect_seen : {T U : Type 0} (store : Store T U) (old new : Uses ℕ ℕ) (state : SenderState T U) (limit : ℕ)
    (result : Result ℕ AllocError) → seen_sender store old ≡ state
    → IfOk result (λ index. new ≡ record old { connections = placed index (connected limit) old.connections })
    → IfOk result (λ index. seen_sender store new
    ≡ with_uses (record state.uses { connections = placed index (connected limit) state.uses.connections }) state)
connect_seen store old new state limit (Err error) is made = made
connect_seen store old new state limit (Ok index) is made =
    seen_step store old new state (λ uses. record uses { connections = placed index (connected limit) uses.connections }) is (
    ap (uses_by (loan_in store) (message_in store)) made
    ∙ ap (λ connections. record (uses_by (loan_in store) (message_in store) old) { connections = connections })
    (placed_by (message_in store) index (connected limit) old.connections)
    )

empty_at : {T : Type 0} (size slot : ℕ) → get_or {A = List T} (replicate size []) slot [] ≡ []
empty_at zero slot = refl
empty_at (suc size) zero = refl
empty_at (suc size) (suc slot) = empty_at size slot

-- the slots of a first segment
pub first_segment : {T : Type 0} (new old : PayloadsState T) (segment : RowsState T) (size most room : ℕ) → new ≡ with_segment segment old
    → old ≡ (record { size = size; segments = 0; most_segments = most; room = 0; payloads = [] })
    → segment ≡ (record { room = room; rows = replicate size [] })
    → new ≡ first_slots size most room
first_segment new old segment size most room made is rows
    = made ∙ ap (with_segment segment) is ∙ ap
    (λ s. with_segment s (record { size = size; segments = 0; most_segments = most; room = 0; payloads = [] })) rows

-- a publisher that was just made
pub fresh : {T U : Type 0} (values : PayloadsState T) (written : PayloadsState Bool) (headers : List (SlotHeader U))
    (blank : SlotHeader U) (uses : Uses ℕ ℕ) (size most room : ℕ)
    → uses.first ≡ 0 → uses.size ≡ size → uses.sending ≡ None → uses.loans ≡ [] → uses.history ≡ [] → uses.connections ≡ []
    → values ≡ first_slots size most room → written ≡ first_slots size most room → length headers ≡ size
    → IsSender (record { values = values; written = written; headers = headers; blank = blank }) uses
fresh {T = T} values written headers blank uses size most room first size_is sending loans history connections values_are marks
    headers_are = record {
      values = omega (arith, first, size_is, ap (λ v. length v.payloads) values_are, length-replicate {A = List T} size []);
      written = omega (arith, first, size_is, ap (λ v. length v.payloads) marks, length-replicate {A = List Bool} size []);
      headers = omega (arith, first, size_is, headers_are);
      values_size = ap (λ v. v.size) values_are ∙ sym size_is;
      written_size = ap (λ v. v.size) marks ∙ sym size_is;
      room = ap (λ v. v.room) marks ∙ sym (ap (λ v. v.room) values_are);
      segments = ap (λ v. v.segments) marks ∙ sym (ap (λ v. v.segments) values_are);
      most_segments = ap (λ v. v.most_segments) marks ∙ sym (ap (λ v. v.most_segments) values_are);
      marks = λ k. ap (λ v. length (payload_at k v)) marks ∙ ap length (empty_at {T = Bool} size k) ∙ sym
          (ap (λ v. length (payload_at k v)) values_are ∙ ap length (empty_at {T = T} size k));
      sole = λ k lent. absurd (omega (arith, lent, ap (times k) loans));
      within = λ k used. absurd (omega (
        arith,
        used,
        in_use_times uses k,
        ap (λ s. times k (option_to_list s)) sending,
        ap (times k) loans,
        ap (times k) history,
        ap (λ cs. times k (held cs)) connections,
      ));
    }

-- what is seen of it
pub fresh_seen : {T U : Type 0} (values : PayloadsState T) (written : PayloadsState Bool) (headers : List (SlotHeader U))
    (blank : SlotHeader U) (uses made : Uses ℕ ℕ) (slots : PayloadsState T) → uses ≡ made → values ≡ slots
    → seen_sender (record { values = values; written = written; headers = headers; blank = blank }) uses ≡ sender_of slots blank
    (uses_by (loan_in (record { values = values; written = written; headers = headers; blank = blank }))
    (message_in (record { values = values; written = written; headers = headers; blank = blank })) made)
fresh_seen values written headers blank uses made slots uses_are values_are =
    ap (seen_sender (record { values = values; written = written; headers = headers; blank = blank })) uses_are
    ∙ ap (λ v. sender_of v blank (uses_by (loan_in (record { values = values; written = written; headers = headers; blank = blank }))
    (message_in (record { values = values; written = written; headers = headers; blank = blank })) made)) values_are

pub lent_times : (xs : List ℕ) (at : ℕ) → at < length xs → 0 < times (get_or xs at 0) xs
lent_times [] at below = absurd (omega (arith, below))
lent_times (x ∷ xs) zero below = omega (arith, times_cons x x xs, one_same x)
lent_times (x ∷ xs) (suc at) below = omega (arith, times_cons (get_or xs at 0) x xs, lent_times xs at (omega (arith, below)))

pub same_test : (slot x : ℕ) → (x == slot) ≡ eqb slot x
same_test slot x = ⊎_elim
    (λ same. rw same.0 (let is : x ≡ slot = sym same.1 in grind (arith, is)))
    (λ other. rw other.0 (at (x == slot) refl other.1))
    (eqb_tells slot x)
  where
    at : (b : Bool) → (x == slot) ≡ b → slot ≢ x → (x == slot) ≡ false
    at false is apart = is
    at true is apart = let same : x ≡ slot = grind (arith, is) in absurd (apart (sym same))

one_more_first : {X : Type 0} (name : X → ℕ) (slot : ℕ) (x : X) (xs : List X)
    → nat_lt (position_or_len (λ other. name other == slot) xs) (length xs) ≡ list_any (λ other. eqb slot (name other)) xs
    → (b : Bool) → (name x == slot) ≡ b
    → nat_lt (position_or_len (λ other. name other == slot) (x ∷ xs)) (length (x ∷ xs)) ≡ list_any (λ other. eqb slot (name other)) (x ∷ xs)
one_more_first name slot x xs rest true is =
    let first : nat_lt 0 (suc (length xs)) ≡ true = grind arith in
    rw (sym (same_test slot (name x))) (rw is first)
one_more_first name slot x xs rest false is =
    let further : nat_lt (1 + position_or_len (λ other. name other == slot) xs) (suc (length xs))
    ≡ nat_lt (position_or_len (λ other. name other == slot) xs) (length xs) = grind arith in
    rw (sym (same_test slot (name x))) (rw is (further ∙ rest))

-- what goes by a slot has a place in a list if something in the list goes by it
pub any_first : {X : Type 0} (name : X → ℕ) (slot : ℕ) (xs : List X)
    → nat_lt (position_or_len (λ other. name other == slot) xs) (length xs) ≡ list_any (λ other. eqb slot (name other)) xs
any_first name slot [] = refl
any_first name slot (x ∷ xs) = one_more_first name slot x xs (any_first name slot xs) (name x == slot) refl

pub any_named : {T U : Type 0} (store : Store T U) (slot : ℕ) (xs : List ℕ)
    → list_any (λ loan. eqb slot loan.slot) (map (loan_in store) xs) ≡ list_any (λ other. eqb slot other) xs
any_named store slot [] = refl
any_named store slot (x ∷ xs) = ap (λ b. eqb slot x || b) (any_named store slot xs)

-- a loan in a slot passes a test if the one that stands there does
tests_are : {T U : Type 0} (store : Store T U) (slot : ℕ) (test : Loan T U → Bool) (xs : List ℕ)
    → list_any (λ loan. eqb slot loan.slot && test loan) (map (loan_in store) xs)
    ≡ (list_any (λ loan. eqb slot loan.slot) (map (loan_in store) xs) && test (loan_in store slot))
tests_are store slot test [] = refl
tests_are store slot test (x ∷ xs) = ⊎_elim
    (λ same. rw same.0 (rw (sym same.1) (here (test (loan_in store slot)) refl (tests_are store slot test xs))))
    (λ other. rw other.0 (tests_are store slot test xs))
    (eqb_tells slot x)
  where
    none : (b : Bool) → (b && false) ≡ false
    none true = refl
    none false = refl

    here : (b : Bool) → test (loan_in store slot) ≡ b
        → list_any (λ loan. eqb slot loan.slot && test loan) (map (loan_in store) xs)
        ≡ (list_any (λ loan. eqb slot loan.slot) (map (loan_in store) xs) && test (loan_in store slot))
        → (test (loan_in store slot) || list_any (λ loan. eqb slot loan.slot && test loan) (map (loan_in store) xs))
        ≡ test (loan_in store slot)
    here true is rest = rw is refl
    here false is rest = rw rest (rw is (none (list_any (λ loan. eqb slot loan.slot) (map (loan_in store) xs))))

pub test_is : {T U : Type 0} (store : Store T U) (old : Uses ℕ ℕ) (state : SenderState T U) (slot : ℕ) (test : Loan T U → Bool)
    → seen_sender store old ≡ state
    → list_any (λ loan. eqb slot loan.slot && test loan) state.uses.loans ≡ (has_loan slot state.uses && test (loan_in store slot))
test_is store old state slot test is =
    ap (λ s. list_any (λ loan. eqb slot loan.slot && test loan) s.uses.loans) (sym is) ∙ tests_are store slot test old.loans
    ∙ ap (λ s. has_loan slot s.uses && test (loan_in store slot)) is

-- without a loan in a slot there is none that passes a test
no_loan : {T U : Type 0} (slot : ℕ) (test : Loan T U → Bool) (loans : List (Loan T U)) → list_any (λ loan. eqb slot loan.slot) loans ≡ false
    → false ≡ list_any (λ loan. eqb slot loan.slot && test loan) loans
no_loan slot test [] none = refl
no_loan slot test (loan ∷ loans) none = at (eqb slot loan.slot) refl none (λ rest. no_loan slot test loans rest)
  where
    at : (b : Bool) → eqb slot loan.slot ≡ b → (eqb slot loan.slot || list_any (λ l. eqb slot l.slot) loans) ≡ false
        → (list_any (λ l. eqb slot l.slot) loans ≡ false → false ≡ list_any (λ l. eqb slot l.slot && test l) loans)
        → false ≡ ((eqb slot loan.slot && test loan) || list_any (λ l. eqb slot l.slot && test l) loans)
    at true is none rest = let wrong = ap (λ b. b || list_any (λ l. eqb slot l.slot) loans) (sym is) ∙ none in search (rules, wrong)
    at false is none rest = rw is (rest (ap (λ b. b || list_any (λ l. eqb slot l.slot) loans) (sym is) ∙ none))

pub no_test : {T U : Type 0} (slot : ℕ) (test : Loan T U → Bool) (state : SenderState T U) → has_loan slot state.uses ≡ false
    → false ≡ list_any (λ loan. eqb slot loan.slot && test loan) state.uses.loans
no_test slot test state none = no_loan slot test state.uses.loans none

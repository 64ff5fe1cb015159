-- A loan that was just made is found in its slot, and may be sent once it is written.
use Rattle.std.proofs.Common.{arith, ◌≡◌, ◌≢◌, ◌==◌, ◌&&◌, ◌||◌, ◌∙◌, ◌∷◌, [], ◌++◌, ℕ, Bool, true, false, not, cond, if◌then◌else◌, List}
use Rattle.std.proofs.Common.{map, position, is_some, nat_le, nat_lt, unwrap_or, Option, None, Some, option_to_list, Result, Ok, Err}
use Rattle.std.proofs.Common.{refl, sym, ap}
use Rattle.std.specs.List.{list_any, list_all, find}
use Rattle.std.proofs.Math.Logic.{⊎_elim}
use Rattle.std.proofs.Math.Dec.{eqb}
use Rattle.std.proofs.lemmas.Bool.{cases_Bool}
use Rattle.std.proofs.lemmas.Bool.Decides.{eqb_tells}
use Rattle.iox_domain.specs.Container.declared.container.Member.{Member}
use Rattle.iox_domain.specs.DomainValues.Sequences.{is_used_up}
use Rattle.iox_domain.specs.DomainValues.declared.backpressure.BackpressureDecision.{BackpressureDecision}
use Rattle.iox_domain.specs.DomainValues.declared.backpressure.BackpressureInfo.{BackpressureInfo}
use Rattle.iox_domain.specs.DomainValues.declared.connection_failure.ConnectionFailure.{ConnectionFailure}
use Rattle.iox_domain.specs.DomainValues.declared.data_segment.AllocationStrategy.{AllocationStrategy}
use Rattle.iox_domain.specs.DomainValues.declared.degradation.DegradationAction.{DegradationAction}
use Rattle.iox_domain.specs.DomainValues.declared.degradation.DegradationInfo.{DegradationInfo}
use Rattle.iox_domain.specs.DomainValues.declared.port_error.LoanError.{LoanError}
use Rattle.iox_domain.specs.DomainSlots.Counting.{times}
use Rattle.iox_domain.specs.DomainSlots.Uses.{in_use, held}
use Rattle.iox_domain.proofs.DomainSlots.Counts.{times_append, times_cons}
use Rattle.iox_domain.specs.DomainPorts.Messages.{Loan}
use Rattle.iox_domain.specs.DomainPorts.MessagesSending.{SenderState, slots_of, is_written_loan}
use Rattle.iox_domain.proofs.DomainPorts.Finding.{no_loan, at_place, at_none}
use Rattle.iox_domain.specs.DomainPorts.Loaning as loaning
use Rattle.iox_domain.specs.DomainPorts.Lengths.{extent}
use Rattle.iox_domain.specs.DomainPorts.Loaning.{with_sender, first_refusal, LendsBeyond, LendsWhere, LendsUnless, Lends}
use Rattle.iox_domain.specs.DomainPorts.Sending.{ready_at, Sends, SendsStanding, SendsIf, SendsAfter}
use Rattle.iox_domain.specs.DomainPorts.Writing.{loan_of}
use Rattle.iox_domain.specs.DomainPorts.declared.publisher_port.PublisherPort.{PublisherPort}
use Rattle.iox_domain.specs.DomainPorts.declared.subscriber_entry.SubscriberEntry.{SubscriberEntry}
use Rattle.iox_domain.specs.DomainPorts.Publishers.{port_of, is_over_port, is_over_in, settled}
use Rattle.iox_domain.specs.PortsPublishing.{is_blocked}

-- what stays of a publisher that lent: all but its messages, and whether one is being sent
pub record Stays {T U : Type 0} (old new : PublisherPort T U) : Type 0 where
  pub sending : new.sender.uses.sending ≡ old.sender.uses.sending
  pub rest : new ≡ with_sender new.sender old

not_refused : (slot : ℕ) (error : LoanError) → ◌≡◌ {A = Result ℕ LoanError} (Ok slot) (Err error) → ⊥
not_refused slot error is = cc

pub not_none : {X : Type 0} (x : X) → Some x ≡ None → ⊥
not_none x is = cc

stays_beyond : {T U : Type 0} (room : Option ℕ) (more : Bool) (values elements slot : ℕ) (old new : PublisherPort T U)
    → LendsBeyond room more values elements old (Ok slot) new → Stays old new
stays_beyond None more values elements slot old new lends = absurd (not_refused slot _ lends.0)
stays_beyond (Some room) false values elements slot old new lends = absurd (not_refused slot _ lends.0)
stays_beyond (Some room) true values elements slot old new lends = ⊎_elim
    (λ made. record { sending = ap (λ s. s.uses.sending) (made.0).3; rest = made.1 })
    (λ lacks. absurd (not_refused slot _ lacks.0))
    lends

stays_where : {T U : Type 0} (fits : Bool) (allocation : AllocationStrategy) (values elements slot : ℕ) (old new : PublisherPort T U)
    → LendsWhere fits allocation values elements old (Ok slot) new → Stays old new
stays_where true allocation values elements slot old new lends = record { sending = ap (λ s. s.uses.sending) (lends.0).3; rest = lends.1 }
stays_where false allocation values elements slot old new lends
    = stays_beyond lends.0 (nat_lt old.sender.segments old.sender.most_segments) values elements slot old new lends.2

stays_unless : {T U : Type 0} (refusal : Option LoanError) (allocation : AllocationStrategy) (values elements slot : ℕ)
    (old new : PublisherPort T U)
    → LendsUnless refusal allocation values elements old (Ok slot) new → Stays old new
stays_unless (Some error) allocation values elements slot old new lends = absurd (not_refused slot error lends.0)
stays_unless None allocation values elements slot old new lends
    = stays_where (nat_le (extent old.unit values elements) old.sender.room) allocation values elements slot old new lends

stays_lent : {T U : Type 0} (lent : Result ℕ LoanError) (allocation : AllocationStrategy) (values elements slot : ℕ)
    (old new : PublisherPort T U)
    → Some (Ok slot) ≡ Some lent → Lends allocation values elements old lent new → Stays old new
stays_lent (Ok other) allocation values elements slot old new is lends
    = stays_unless (first_refusal allocation values elements old) allocation values elements other old new lends
stays_lent (Err error) allocation values elements slot old new is lends
    = absurd (not_refused slot error (ap (λ some. unwrap_or some (Ok slot)) is))

pub stays_if : {T U : Type 0} (waits : Bool) (allocation : AllocationStrategy) (values elements slot : ℕ) (old new : PublisherPort T U)
    → loaning.LoansIf waits allocation values elements old (Some (Ok slot)) new → Stays old new
stays_if true allocation values elements slot old new loans = absurd (not_none (Ok slot) loans.0)
stays_if false allocation values elements slot old new loans = stays_lent loans.0 allocation values elements slot old new loans.1 loans.2

-- a slot that no loan uses
unused : {T U : Type 0} (slot : ℕ) (loans : List (Loan T U)) → times slot (map (λ loan. loan.slot) loans) ≡ 0
    → list_any (λ loan. eqb slot loan.slot) loans ≡ false
unused slot [] none = refl
unused slot (loan ∷ loans) none =
    let step = times_cons slot loan.slot (map (λ one. one.slot) loans) in
    ⊎_elim
    (λ same. let one : ◌≡◌ {A = ℕ} (cond (eqb slot loan.slot) 1 0) 1
    = ap (λ b. cond b 1 0) same.0 in absurd (omega (arith, none, step, one)))
    (λ other.
    let nothing : ◌≡◌ {A = ℕ} (cond (eqb slot loan.slot) 1 0) 0 = ap (λ b. cond b 1 0) other.0 in
    rw other.0 (unused slot loans (omega (arith, none, step, nothing))))
    (eqb_tells slot loan.slot)

-- no loan is found in a slot that nothing uses
pub free_slot : {T U : Type 0} (slot : ℕ) (sender : SenderState T U) → times slot (in_use (slots_of sender)) ≡ 0
    → find (λ loan. loan.slot == slot) sender.uses.loans ≡ None
free_slot slot sender free =
    let uses = slots_of sender in
    let rest = uses.history ++ held uses.connections in
    let all : times slot (option_to_list uses.sending ++ (uses.loans ++ rest)) ≡ 0 = free in
    no_loan slot sender.uses.loans (unused slot sender.uses.loans
    (omega (arith, all, times_append slot (option_to_list uses.sending) (uses.loans ++ rest), times_append slot uses.loans rest)))

-- what is found after a list where nothing is found
pub found_last : {X : Type 0} (test : X → Bool) (xs : List X) (x : X) → find test xs ≡ None → test x ≡ true
    → find test (xs ++ x ∷ []) ≡ Some x
found_last test [] x none passes = rw passes refl
found_last test (y ∷ ys) x none passes = ⊎_elim
    (λ yes. absurd (not_none y (rw yes at none)))
    (λ no. rw no (found_last test ys x (rw no at none) passes))
    (cases_Bool (test y))

pub same_number : (slot : ℕ) → eqb slot slot ≡ true
same_number slot = ⊎_elim (λ same. same.0) (λ differs. absurd (differs.1 refl)) (eqb_tells slot slot)

-- a publisher that stands isn't over
pub still_there : {T U : Type 0} (number : ℕ) (ports : List (ℕ × PublisherPort T U)) (port : PublisherPort T U)
    → port_of number ports ≡ Some port → port.stands ≡ true → settled number ports ≡ ports
still_there number ports port there stands =
    let over : is_over_in number ports ≡ false = ap is_over_port there ∙ rw stands refl in
    rw over refl

-- two things in one option
one_of : {X : Type 0} (x y : X) → Some x ≡ Some y → x ≡ y
one_of x y is = ap (λ some. unwrap_or some x) is

turned : (one other : ℕ) → one ≡ other → eqb other one ≡ true
turned one other same = rw same (same_number other)

apart : (one other : ℕ) → one ≢ other → eqb other one ≡ false
apart one other differ = ⊎_elim (λ same. absurd (differ (sym same.1))) (λ differs. differs.0) (eqb_tells other one)

-- a loan that is found and passes a test is one in its slot that passes it
pub one_passes : {T U : Type 0} (slot : ℕ) (test : Loan T U → Bool) (loans : List (Loan T U)) (loan : Loan T U)
    → find (λ one. one.slot == slot) loans ≡ Some loan → test loan ≡ true
    → list_any (λ one. eqb slot one.slot && test one) loans ≡ true
one_passes slot test [] loan found passes = absurd (not_none loan (sym found))
one_passes slot test (other ∷ loans) loan found passes = ⊎_elim
    (λ same.
    let is : other ≡ loan = one_of other loan (rw same.0 at found) in
    let here : test other ≡ true = ap test is ∙ passes in
    rw (turned other.slot slot same.1) (rw here refl))
    (λ differs. rw (apart other.slot slot differs.1) (one_passes slot test loans loan (rw differs.0 at found) passes))
    (eqb_tells other.slot slot)

-- the loan that is found in a slot, after it changed
pub found_changed : {T U : Type 0} (slot : ℕ) (change : Loan T U → Loan T U) (loans : List (Loan T U)) (loan : Loan T U)
    → ((one : Loan T U) → (change one).slot ≡ one.slot)
    → find (λ one. one.slot == slot) loans ≡ Some loan
    → find (λ one. one.slot == slot) (map (λ one. if eqb slot one.slot then change one else one) loans) ≡ Some (change loan)
found_changed slot change [] loan keeps found = absurd (not_none loan (sym found))
found_changed slot change (other ∷ loans) loan keeps found = ⊎_elim
    (λ same.
    let is : other ≡ loan = one_of other loan (rw same.0 at found) in
    let here : eqb (change other).slot slot ≡ true = ap (λ number. eqb number slot) (keeps other) ∙ same.0 in
    rw (turned other.slot slot same.1) (rw here (ap (λ one. Some (change one)) is)))
    (λ differs. rw (apart other.slot slot differs.1) (rw differs.0 (found_changed slot change loans loan keeps (rw differs.0 at found))))
    (eqb_tells other.slot slot)

pub all_written : {T : Type 0} (values : List T) → list_all is_some (map Some values) ≡ true
all_written [] = refl
all_written (value ∷ values) = all_written values

no : false ≡ true → ⊥
no h = cc

may_be_sent : {T U : Type 0} (at : ℕ) (port : PublisherPort T U) (blocked written : Bool) → blocked ≡ false → written ≡ true
    → cond (blocked || not written) None (Some at) ≡ None → ⊥
may_be_sent at port true written free is none = no (sym free)
may_be_sent at port false false free is none = no is
may_be_sent at port false true free is none = cc

-- a written loan of a publisher of which no send is blocked may be sent
pub ready_there : {T U : Type 0} (slot : ℕ) (port : PublisherPort T U) (at : Option ℕ)
    → at ≡ position (λ loan. loan.slot == slot) port.sender.uses.loans
    → is_written_loan (loan_of slot port) ≡ true → is_blocked port ≡ false → ready_at at port ≡ None → ⊥
ready_there slot port None is written free none
    = no (sym (ap is_written_loan (at_none (λ loan. loan.slot == slot) port.sender.uses.loans is)) ∙ written)
ready_there slot port (Some at) is written free none =
    may_be_sent at port _ _ free (ap is_written_loan (at_place (λ loan. loan.slot == slot) port.sender.uses.loans at is) ∙ written) none

answers_after : {T U : Type 0} (may : BackpressureInfo → BackpressureDecision → Type 0) (at : ℕ)
    (outcome : Result (Unit {0}) ConnectionFailure) (updated new : PublisherPort T U)
    → SendsAfter may at outcome updated None new → ⊥
answers_after may at (Err failure) updated new sends = let is : None ≡ Some _ = sends.0 in cc
answers_after may at (Ok done) updated new sends = let is : None ≡ Some _ = sends.2 in cc

answers_standing : {T U : Type 0} (used : Bool) (may_degrade : DegradationInfo → DegradationAction → Type 0)
    (may : BackpressureInfo → BackpressureDecision → Type 0) (listed : List (Option (Member SubscriberEntry))) (changes at : ℕ)
    (old new : PublisherPort T U)
    → SendsStanding used may_degrade may listed changes at old None new → ⊥
answers_standing true may_degrade may listed changes at old new sends = let is : None ≡ Some _ = sends.0 in cc
answers_standing false may_degrade may listed changes at old new sends = answers_after may at sends.0 sends.1 new sends.3

answers_if : {T U : Type 0} (stands : Bool) (may_degrade : DegradationInfo → DegradationAction → Type 0)
    (may : BackpressureInfo → BackpressureDecision → Type 0) (listed : List (Option (Member SubscriberEntry))) (changes at : ℕ)
    (old new : PublisherPort T U)
    → SendsIf stands may_degrade may listed changes at old None new → ⊥
answers_if false may_degrade may listed changes at old new sends = let is : None ≡ Some _ = sends.0 in cc
answers_if true may_degrade may listed changes at old new sends
    = answers_standing (is_used_up old.last_sequence) may_degrade may listed changes at old new sends

-- only where no loan may be sent there is no answer
pub none_ready : {T U : Type 0} (may_degrade : DegradationInfo → DegradationAction → Type 0)
    (may : BackpressureInfo → BackpressureDecision → Type 0) (listed : List (Option (Member SubscriberEntry))) (changes : ℕ)
    (ready : Option ℕ) (old new : PublisherPort T U)
    → Sends may_degrade may listed changes ready old None new → ready ≡ None
none_ready may_degrade may listed changes None old new sends = refl
none_ready may_degrade may listed changes (Some at) old new sends
    = absurd (answers_if old.stands may_degrade may listed changes at old new sends)

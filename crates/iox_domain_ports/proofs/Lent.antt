-- What a loan results in.
use Rattle.std.proofs.Common.{rules, arith, ◌≡◌, inl, inr, ◌+◌, ◌<◌, ◌≤◌, ◌∙◌, ℕ, Bool, true, false, length, nat_lt, nat_le, is_some}
use Rattle.std.proofs.Common.{Option, None, Some, Result, Ok, Err, refl, ap, if◌then◌else◌}
use Rattle.std.proofs.Math.Logic.{⊎_elim}
use Rattle.std.proofs.lemmas.Bool.Decides.{nat_tests}
use Rattle.iox_domain_values.specs.declared.data_segment.AllocationStrategy.{AllocationStrategy}
use Rattle.iox_domain_values.specs.declared.data_segment.AllocationStrategy.TheVariants as strategy
use Rattle.iox_domain_values.specs.declared.port_error.LoanError.{LoanError}
use Rattle.iox_domain_values.specs.declared.port_error.LoanError.TheVariants as refusal
use Rattle.iox_domain_slots.specs.Uses.{in_use}
use Rattle.iox_domain_ports.specs.MessagesSending.{SenderState, slots_of, opened_for, LoanMade}
use Rattle.iox_domain_ports.proofs.Counted.{room_fits}
use Rattle.iox_domain_ports.specs.Lengths.{extent, SegmentRoom}
use Rattle.iox_domain_ports.specs.Loaning.{with_sender, is_too_long, LendsHere, LacksMemory, LendsBeyond, LendsWhere, LendsUnless, Lends, LoansIf}
use Rattle.iox_domain_ports.specs.LoanLaws.{MayBeLent, IsLent, Tells, LoanTells, NewSegmentIsFree}
use Rattle.iox_domain_ports.specs.declared.publisher_port.PublisherPort.{PublisherPort}

-- a segment that was just opened isn't full
pub new_segment_is_free : {T U : Type 0} → NewSegmentIsFree T U
new_segment_is_free room sender within some full =
    let first = sender.uses.first + sender.uses.size in
    let used : first < first = within first (full first (omega arith) (omega (arith, some))) in
    absurd (omega (arith, used))

-- what stood before a loan that is made here
record Ready {T U : Type 0} (allocation : AllocationStrategy) (values elements : ℕ) (old : PublisherPort T U) : Type 0 where
  idle : old.sender.uses.sending ≡ None
  may : MayBeLent allocation values elements old
  room : length old.sender.uses.loans < old.sender.uses.most_loans

-- a code for each refusal
abbrev code : LoanError → ℕ
code refusal.OutOfMemory = 0
code refusal.ExceedsMaxLoans = 1
code refusal.ExceedsMaxLoanSize = 2
code refusal.InternalFailure = 3

-- what a loan says that was made at a publisher which may have a new segment
lent : {T U : Type 0} (allocation : AllocationStrategy) (values elements slot : ℕ) (old new : PublisherPort T U) (base : SenderState T U)
    → length old.sender.uses.loans < old.sender.uses.most_loans → base.uses.loans ≡ old.sender.uses.loans
    → base.user_header ≡ old.sender.user_header
    → base.uses.connections ≡ old.sender.uses.connections → base.uses.history ≡ old.sender.uses.history
    → in_use (slots_of base) ≡ in_use (slots_of old.sender)
    → extent old.unit values elements ≤ base.room
    → (extent old.unit values elements ≤ old.sender.room → (base.room ≡ old.sender.room) × (base.segments ≡ old.sender.segments))
    → (old.sender.room < extent old.unit values elements → SegmentRoom allocation old.unit values elements (Some base.room)
    × (base.segments ≡ old.sender.segments + 1) × (old.sender.segments < old.sender.most_segments))
    → LoanMade base values elements (Some slot) new.sender → IsLent allocation values elements old slot new
lent allocation values elements slot old new base room loans user_header connections history uses fits stays grows made =
    let same_room : new.sender.room ≡ base.room = ap (λ s. s.room) made.3 in
    let same_segments : new.sender.segments ≡ base.segments = ap (λ s. s.segments) made.3 in
    record {
      room = room;
      loan = ap (λ s. s.uses.loans) made.3 ∙ (rw loans (rw user_header refl));
      free = rw uses at made.2;
      current = (
        omega (arith, made.0, ap (λ s. s.uses.first) made.3),
        omega
            (arith, made.1, ap (λ s. s.uses.first) made.3, ap (λ s. s.uses.size) made.3),
      );
      fits = omega (arith, fits, same_room);
      stays = λ within. (same_room ∙ (stays within).0, same_segments ∙ (stays within).1);
      grows = λ long. (rw same_room (grows long).0, same_segments ∙ (grows long).1, (grows long).2);
      connections = ap (λ s. s.uses.connections) made.3 ∙ connections;
      history = ap (λ s. s.uses.history) made.3 ∙ history;
    }

-- a loan in the current segment
here : {T U : Type 0} (allocation : AllocationStrategy) (values elements : ℕ) (old new : PublisherPort T U) (answer : Result ℕ LoanError)
    → Ready allocation values elements old → extent old.unit values elements ≤ old.sender.room
    → LendsHere values elements old answer new → Tells allocation values elements old (Some answer) new
here allocation values elements old new (Ok slot) ready fits lends = (
  ready.idle,
  ready.may,
  lent allocation values elements slot old new old.sender ready.room refl refl refl refl refl fits
      (λ within. (refl, refl)) (λ long. absurd (omega (arith, fits, long))) lends.0,
)
here allocation values elements old new (Err refusal.OutOfMemory) ready fits lends =
    (ready.idle, ready.may, ready.room, inl (fits, (lends.1).0, lends.2 ∙ ap (λ sender. with_sender sender old) (lends.1).1))
here allocation values elements old new (Err refusal.ExceedsMaxLoans) ready fits lends = let wrong : 1 ≡ 0
    = ap code lends.0 in absurd (omega (arith, wrong))
here allocation values elements old new (Err refusal.ExceedsMaxLoanSize) ready fits lends = let wrong : 2 ≡ 0
    = ap code lends.0 in absurd (omega (arith, wrong))
here allocation values elements old new (Err refusal.InternalFailure) ready fits lends = let wrong : 3 ≡ 0
    = ap code lends.0 in absurd (omega (arith, wrong))

-- a loan for which no segment was opened
lacks : {T U : Type 0} (allocation : AllocationStrategy) (values elements : ℕ) (old new : PublisherPort T U) (answer : Result ℕ LoanError)
    → Ready allocation values elements old → old.sender.room < extent old.unit values elements → LacksMemory old answer new
    → Tells allocation values elements old (Some answer) new
lacks allocation values elements old new answer ready long lacking
    = rw lacking.0 (ready.idle, ready.may, ready.room, inr (long, inl lacking.1))

-- a loan in a new segment
in_new : {T U : Type 0} (allocation : AllocationStrategy) (values elements room : ℕ) (old new : PublisherPort T U)
    (answer : Result ℕ LoanError)
    → Ready allocation values elements old → old.sender.room < extent old.unit values elements
    → SegmentRoom allocation old.unit values elements (Some room) → old.sender.segments < old.sender.most_segments
    → LendsHere values elements (with_sender (opened_for room old.sender) old) answer new
    → Tells allocation values elements old (Some answer) new
in_new allocation values elements room old new (Ok slot) ready long is more lends = (
  ready.idle,
  ready.may,
  lent allocation values elements slot old new (opened_for room old.sender) ready.room refl refl refl refl refl
      (room_fits allocation old.unit values elements room is)
      (λ within. absurd (omega (arith, within, long))) (λ longer. (is, refl, more)) lends.0,
)
in_new allocation values elements room old new (Err refusal.OutOfMemory) ready long is more lends =
    let same : new.sender ≡ opened_for room old.sender = (lends.1).1 in (
      ready.idle,
      ready.may,
      ready.room,
      inr
          (long, inr (room, is, lends.2 ∙ ap (λ sender. with_sender sender old) same, rw same (lends.1).0)),
    )
in_new allocation values elements room old new (Err refusal.ExceedsMaxLoans) ready long is more lends = let wrong : 1 ≡ 0
    = ap code lends.0 in absurd (omega (arith, wrong))
in_new allocation values elements room old new (Err refusal.ExceedsMaxLoanSize) ready long is more lends = let wrong : 2 ≡ 0
    = ap code lends.0 in absurd (omega (arith, wrong))
in_new allocation values elements room old new (Err refusal.InternalFailure) ready long is more lends = let wrong : 3 ≡ 0
    = ap code lends.0 in absurd (omega (arith, wrong))

-- a loan of a longer slice
beyond : {T U : Type 0} (allocation : AllocationStrategy) (values elements : ℕ) (room : Option ℕ) (more : Bool)
    (old new : PublisherPort T U) (answer : Result ℕ LoanError)
    → Ready allocation values elements old → old.sender.room < extent old.unit values elements
    → SegmentRoom allocation old.unit values elements room → nat_lt old.sender.segments old.sender.most_segments ≡ more
    → LendsBeyond room more values elements old answer new → Tells allocation values elements old (Some answer) new
beyond allocation values elements None more old new answer ready long is left lends
    = lacks allocation values elements old new answer ready long lends
beyond allocation values elements (Some room) false old new answer ready long is left lends
    = lacks allocation values elements old new answer ready long lends
beyond allocation values elements (Some room) true old new answer ready long is left lends = ⊎_elim
    (λ opened. in_new allocation values elements room old new answer ready long is (grind (arith, left)) opened)
    (λ lacking. lacks allocation values elements old new answer ready long lacking)
    lends

-- a loan where the slots decide
where_to : {T U : Type 0} (allocation : AllocationStrategy) (values elements : ℕ) (fits : Bool) (old new : PublisherPort T U)
    (answer : Result ℕ LoanError)
    → Ready allocation values elements old → nat_le (extent old.unit values elements) old.sender.room ≡ fits
    → LendsWhere fits allocation values elements old answer new → Tells allocation values elements old (Some answer) new
where_to allocation values elements true old new answer ready fits lends
    = here allocation values elements old new answer ready (grind (arith, fits)) lends
where_to allocation values elements false old new answer ready fits lends =
    beyond allocation values elements lends.0 (nat_lt old.sender.segments old.sender.most_segments) old new answer ready
    (grind (arith, fits)) lends.1 refl lends.2

-- a slice that is too long
too_long : {T U : Type 0} (allocation : AllocationStrategy) (values elements : ℕ) (port : PublisherPort T U)
    → is_too_long allocation values elements port ≡ true
    → (allocation ≡ strategy.Static) × (port.sender.room < extent port.unit values elements)
too_long strategy.BestFit values elements port is = let wrong : ◌≡◌ {A = ℕ} 0 1
    = ap (λ b. if b then 1 else 0) is in absurd (omega (arith, wrong))
too_long strategy.PowerOfTwo values elements port is = let wrong : ◌≡◌ {A = ℕ} 0 1
    = ap (λ b. if b then 1 else 0) is in absurd (omega (arith, wrong))
too_long strategy.Static values elements port is = (refl, grind (arith, is))

-- one that isn't
may_be_lent : {T U : Type 0} (allocation : AllocationStrategy) (values elements : ℕ) (port : PublisherPort T U)
    → is_too_long allocation values elements port ≡ false → MayBeLent allocation values elements port
may_be_lent allocation values elements port is static =
    let short : is_too_long strategy.Static values elements port ≡ false = rw static at is in grind (arith, short)

-- a loan where no send is blocked
unless : {T U : Type 0} (allocation : AllocationStrategy) (values elements : ℕ) (long room : Bool) (old new : PublisherPort T U)
    (answer : Result ℕ LoanError)
    → old.sender.uses.sending ≡ None → is_too_long allocation values elements old ≡ long
    → nat_lt (length old.sender.uses.loans) old.sender.uses.most_loans ≡ room
    → LendsUnless (if long then Some refusal.ExceedsMaxLoanSize else (if room then None else Some refusal.ExceedsMaxLoans)) allocation
    values elements old answer new
    → Tells allocation values elements old (Some answer) new
unless allocation values elements true room old new answer idle long left lends =
    rw lends.0 (idle, (too_long allocation values elements old long).0, (too_long allocation values elements old long).1, lends.1)
unless allocation values elements false false old new answer idle long left lends =
    rw lends.0 (idle, may_be_lent allocation values elements old long, grind (arith, left), lends.1)
unless allocation values elements false true old new answer idle long left lends =
    where_to allocation values elements (nat_le (extent old.unit values elements) old.sender.room) old new answer
    (record { idle = idle; may = may_be_lent allocation values elements old long; room = grind (arith, left) }) refl lends

-- whether a send is blocked
waiting : {T U : Type 0} (allocation : AllocationStrategy) (values elements : ℕ) (waits : Bool) (old new : PublisherPort T U)
    (answer : Option (Result ℕ LoanError))
    → is_some old.sender.uses.sending ≡ waits → LoansIf waits allocation values elements old answer new
    → Tells allocation values elements old answer new
waiting allocation values elements true old new answer waits loans = rw loans.0 (search (rules, waits), loans.1)
waiting allocation values elements false old new answer waits loans =
    rw loans.1 (unless allocation values elements (is_too_long allocation values elements old)
    (nat_lt (length old.sender.uses.loans) old.sender.uses.most_loans) old new loans.0 (search (rules, waits)) refl refl loans.2)

-- each answer tells what it tells
pub loan_tells : {T U : Type 0} → LoanTells T U
loan_tells allocation values elements old new answer loans
    = waiting allocation values elements (is_some old.sender.uses.sending) old new answer refl loans

-- a loan that fits isn't too long
fits_short : {T U : Type 0} (allocation : AllocationStrategy) (values elements : ℕ) (port : PublisherPort T U)
    → nat_le (extent port.unit values elements) port.sender.room ≡ true → is_too_long allocation values elements port ≡ false
fits_short strategy.BestFit values elements port fits = refl
fits_short strategy.PowerOfTwo values elements port fits = refl
fits_short strategy.Static values elements port fits = grind (arith, fits, nat_tests)

-- it is made where one more is allowed
pub lends_fitting : {T U : Type 0} (allocation : AllocationStrategy) (values elements : ℕ) (old new : PublisherPort T U)
    (answer : Result ℕ LoanError) → nat_le (extent old.unit values elements) old.sender.room ≡ true
    → nat_lt (length old.sender.uses.loans) old.sender.uses.most_loans ≡ true → LendsHere values elements old answer new
    → Lends allocation values elements old answer new
lends_fitting allocation values elements old new answer fits few lends =
    rw (fits_short allocation values elements old fits) (rw few (rw fits lends))

-- and refused where none is
pub refuses_fitting : {T U : Type 0} (allocation : AllocationStrategy) (values elements : ℕ) (old : PublisherPort T U)
    → nat_le (extent old.unit values elements) old.sender.room ≡ true
    → nat_lt (length old.sender.uses.loans) old.sender.uses.most_loans ≡ false
    → Lends allocation values elements old (Err refusal.ExceedsMaxLoans) old
refuses_fitting allocation values elements old fits many =
    rw (fits_short allocation values elements old fits) (rw many (refl, refl))

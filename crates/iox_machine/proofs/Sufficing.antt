-- That memory may suffice: connections, segments, and the calls of nodes.
use Rattle.std.proofs.Common.{arith, ◌≡◌, ◌⊎◌, ◌+◌, ◌<◌, ◌≤◌, ◌^◌, ◌/◌, ℕ, zero, suc, Bool, true, false, cond, ◌&&◌, List, [], ◌∷◌, length}
use Rattle.std.proofs.Common.{map, Option, None, Some, Result, Ok, Err, refl, sym, ap, subst, inl, inr, ◌∙◌}
use Rattle.std.proofs.Math.Nat.{pow-le-pow_right}
use Rattle.std.proofs.lemmas.Bool.{leb-true, lt-ltb, cases_lt}
use Rattle.std.specs.List.{AllByRecursion}
use Rattle.std.specs.Prelude.{◌==◌, filter, max, nat_le, nat_lt, zip, MatchBool, MatchOption}
use Rattle.iox_domain_values.proofs.Powers.{next_past}
use Rattle.iox_machine.proofs.Cases.{both-true, by-option, chosen, never-some, same-some}
use Rattle.iox_machine.proofs.Shorthands.{LendsLonger, is_static, now_at}
use Rattle.iox_machine.specs.Lending.{IsRoomFor as Fitting, Lends, how_many, in_use, loan_refusal, loans_of}
use Rattle.iox_machine.specs.LoanLaws.{IsLongEnough as Opening, MayOpenSegment}
use Rattle.iox_machine.specs.PortList.{unless}
use Rattle.iox_machine.specs.PublisherUpdate.{UpdateAnswers, failure_at}
use Rattle.iox_machine.specs.Service.{Publisher, Service}
use Rattle.iox_machine.specs.Table.{contains}
use Rattle.iox_command.specs.DomainValues.declared.connection_failure.ConnectionFailure.{ConnectionFailure}
use Rattle.iox_command.specs.DomainValues.declared.connection_failure.ConnectionFailure.TheVariants.{FailedToEstablishConnection}
use Rattle.iox_command.specs.DomainValues.declared.connection_failure.ZeroCopyCreationError.TheVariants.{ExpiredConnectionBufferFull}
use Rattle.iox_command.specs.DomainValues.declared.connection_failure.ZeroCopyCreationError.{ZeroCopyCreationError}
use Rattle.iox_command.specs.DomainValues.declared.data_segment.AllocationStrategy.{AllocationStrategy}
use Rattle.iox_command.specs.DomainValues.declared.data_segment.AllocationStrategy.TheVariants.{BestFit, PowerOfTwo, Static}
use Rattle.iox_command.specs.DomainValues.declared.degradation.DegradationAction.{DegradationAction}
use Rattle.iox_command.specs.DomainValues.declared.degradation.DegradationAction.TheVariants.{DegradeAndFail, Ignore, Warn}
use Rattle.iox_command.specs.DomainValues.declared.port_error.LoanError.{LoanError}
use Rattle.iox_command.specs.DomainValues.declared.port_error.LoanError.TheVariants.{ExceedsMaxLoans, ExceedsMaxLoanSize, OutOfMemory}

-- ---- connections

-- No connection at this place failed because memory ran out.
abbrev pub HasMemory : Option ℕ × Option ℕ → Type 0
HasMemory place = (failure_at place.0 place.1 ≡ None) ⊎ (failure_at place.0 place.1 ≡ Some ExpiredConnectionBufferFull)

same-or-other : (listed : ℕ) (other : ℕ) → HasMemory (Some listed, Some other)
same-or-other listed other = here (other == listed)
  where
    here : (b : Bool) → (cond b None (Some ExpiredConnectionBufferFull) ≡ None)
        ⊎ (cond b None (Some ExpiredConnectionBufferFull) ≡ Some ExpiredConnectionBufferFull)
    here true = inl refl
    here false = inr refl

unrefused : (listed : Option ℕ) → HasMemory (listed, unless [] listed)
unrefused None = inl refl
unrefused (Some listed) = same-or-other listed listed

pub listed-have-memory : (places : List (Option ℕ)) → AllByRecursion HasMemory (zip places (map (unless []) places))
listed-have-memory [] = tt
listed-have-memory (place ∷ more) = (unrefused place, listed-have-memory more)

pub kept-have-memory : (staying : List ℕ) (connected places : List (Option ℕ))
    → AllByRecursion HasMemory (zip places (map (now_at staying []) (zip connected places)))
kept-have-memory staying [] [] = tt
kept-have-memory staying [] (place ∷ more) = tt
kept-have-memory staying (one ∷ others) [] = tt
kept-have-memory staying (one ∷ others) (place ∷ more) = (here one place, kept-have-memory staying others more)
  where
    stays : (b : Bool) (other : ℕ) (place : Option ℕ) → HasMemory (place, cond b (Some other) (unless [] place))
    stays true other None = inl refl
    stays true other (Some listed) = same-or-other listed other
    stays false other place = unrefused place

    here : (one place : Option ℕ) → HasMemory (place, now_at staying [] (one, place))
    here None place = unrefused place
    here (Some other) place = stays (contains staying other) other place

-- an update that fails then does so since no more connections may be expired
pub fails-as-full : (May : DegradationAction → Type 0) (places : List (Option ℕ × Option ℕ)) (failure : ConnectionFailure)
    → AllByRecursion HasMemory places → UpdateAnswers May places (Err failure)
    → failure ≡ FailedToEstablishConnection ExpiredConnectionBufferFull
fails-as-full May [] failure all answers = absurd (differ answers)
  where
    differ : ◌≡◌ {A = Result (Unit {0}) ConnectionFailure} (Err failure) (Ok tt) → ⊥
    differ e = cc
fails-as-full May (place ∷ more) failure all answers =
    elim (by-option (failure_at place.0 place.1) (UpdateAnswers May more (Err failure))
    (λ why. (May DegradeAndFail
    × ◌≡◌ {A = Result (Unit {0}) ConnectionFailure} (Err failure) (Err (FailedToEstablishConnection why)))
    ⊎ ((May Warn ⊎ May Ignore) × UpdateAnswers May more (Err failure))) answers) [
      | inl w ↦ fails-as-full May more failure all.1 w.1
      | inr w ↦ here w.0 w.1 w.2 (λ on. fails-as-full May more failure all.1 on)
    ]
  where
    same : (one other : ConnectionFailure) → ◌≡◌ {A = Result (Unit {0}) ConnectionFailure} (Err one) (Err other) → one ≡ other
    same one other e = ap (λ (r : Result (Unit {0}) ConnectionFailure). elim r [ Ok done ↦ one | Err it ↦ it ]) e

    full : (why : ZeroCopyCreationError) → failure_at place.0 place.1 ≡ Some why → HasMemory place → why ≡ ExpiredConnectionBufferFull
    full why is (inl none) = never-some why (sym none ∙ is)
    full why is (inr some) = sym (same-some ExpiredConnectionBufferFull why (sym some ∙ is))

    here : (why : ZeroCopyCreationError) → failure_at place.0 place.1 ≡ Some why
        → ((May DegradeAndFail
        × ◌≡◌ {A = Result (Unit {0}) ConnectionFailure} (Err failure) (Err (FailedToEstablishConnection why)))
        ⊎ ((May Warn ⊎ May Ignore) × UpdateAnswers May more (Err failure)))
        → (UpdateAnswers May more (Err failure) → failure ≡ FailedToEstablishConnection ExpiredConnectionBufferFull)
        → failure ≡ FailedToEstablishConnection ExpiredConnectionBufferFull
    here why is (inl failed) rest =
        same failure (FailedToEstablishConnection why) failed.1 ∙ ap FailedToEstablishConnection (full why is all.0)
    here why is (inr on) rest = rest on.1

-- ---- segments

-- the least power of two that isn't below a number
least-power : (k values : ℕ) → values ≤ 2 ^ k → (j : ℕ) × (j ≤ k) × (values ≤ 2 ^ j) × ((2 ^ j) / 2 < max 1 values)
least-power zero values small = (zero, omega arith, small, omega arith)
least-power (suc k) values small = elim (cases_lt (2 ^ k) values) [
  | inl large ↦ (suc k, omega arith, small, omega (arith, large))
  | inr few ↦ let found = least-power k values few in (found.0, omega (arith, found.1), found.2, found.3)
]

module _ {T : Type 0} (number count : ℕ) (publisher : Publisher T) (service : Service T) where
  -- More memory is no help for the loan.
  abbrev pub IsBeyond : Type 0
  IsBeyond = (count ≤ publisher.room) ⊎ (MayOpenSegment number publisher service count → ⊥)

  -- The loan is made or refused; if it is refused because memory ran out, more memory is no help.
  abbrev pub LendsSo : Option LoanError → Publisher T → Type 0
  LendsSo refused after = Lends number count publisher service refused after × (refused ≡ Some OutOfMemory → IsBeyond)

  -- a segment that isn't long enough may open, or no length of it is possible
  opens-or-not : (allocation : AllocationStrategy) → publisher.allocation ≡ allocation
      → (after : Publisher T) × (refused : Option LoanError) × LendsLonger number count publisher refused after
      × (refused ≡ Some OutOfMemory → IsBeyond)
  opens-or-not allocation is = here allocation is (cases_lt publisher.segments 255)
    where
      refuse : (MayOpenSegment number publisher service count → ⊥)
          → (after : Publisher T) × (refused : Option LoanError) × LendsLonger number count publisher refused after
          × (refused ≡ Some OutOfMemory → IsBeyond)
      refuse beyond = (publisher, Some OutOfMemory, inl (refl, refl), λ told. inr beyond)

      opened : ℕ → Publisher T
      opened room = record publisher {
        room = room;
        segments = publisher.segments + 1;
        first = publisher.next;
        next = publisher.next + 1;
      }

      here : (allocation : AllocationStrategy) → publisher.allocation ≡ allocation → (publisher.segments < 255) ⊎ (255 ≤ publisher.segments)
          → (after : Publisher T) × (refused : Option LoanError) × LendsLonger number count publisher refused after
          × (refused ≡ Some OutOfMemory → IsBeyond)
      here allocation is (inr many) = refuse (λ may. omega (arith, many, may.3))
      here Static is (inl few) = refuse (λ may. subst (λ (it : AllocationStrategy). Opening it count may.0) is may.1)
      here BestFit is (inl few) = elim (cases_lt count (2 ^ 32)) [
        | inl short ↦ (
          opened count,
          None,
          inr (
            count,
            (subst (λ (it : AllocationStrategy). Fitting it count count) (sym is) refl, short),
            lt-ltb publisher.segments 255 few,
            refl,
            refl,
          ),
          λ told. never-some OutOfMemory told,
        )
        | inr long ↦ refuse (λ may.
            let room : may.0 ≡ count = subst (λ (it : AllocationStrategy). Opening it count may.0) is may.1 in
            omega (arith, long, room, may.2))
      ]
      here PowerOfTwo is (inl few) = elim (cases_lt (2 ^ 31) count) [
        | inl long ↦ refuse (λ may.
            let past : 4294967296 ≤ may.0 =
            next_past count may.0 long (subst (λ (it : AllocationStrategy). Opening it count may.0) is may.1) in
            omega (arith, past, may.2))
        | inr short ↦
            let power = least-power 31 count short in
            let below : 2 ^ power.0 ≤ 2 ^ 31 = pow-le-pow_right {n = 2} (omega arith) {i = power.0} {j = 31} power.1 in (
              opened (2 ^ power.0),
              None,
              inr (
                2 ^ power.0,
                (
                  subst (λ (it : AllocationStrategy). Fitting it count (2 ^ power.0)) (sym is) ((power.0, refl), power.2, power.3),
                  omega (arith, below),
                ),
                lt-ltb publisher.segments 255 few,
                refl,
                refl,
              ),
              λ told. never-some OutOfMemory told,
            )
      ]

  pub lends-or-beyond : (refused : Option LoanError) × (after : Publisher T) × LendsSo refused after
  lends-or-beyond = here (loan_refusal number count publisher service) refl
    where
      Body : Option LoanError → Option LoanError → Publisher T → Type 0
      Body why refused after =
          MatchOption why
          (MatchBool (nat_lt publisher.room count) (LendsLonger number count publisher refused after)
          ((refused ≡ None) × (after ≡ record publisher { next = publisher.next + 1 })))
          (λ why. (refused ≡ Some why) × (after ≡ publisher))

      fits : loan_refusal number count publisher service ≡ Some OutOfMemory → count ≤ publisher.room
      fits is =
          elim (chosen (nat_lt publisher.room count && is_static publisher.allocation) (Some ExceedsMaxLoanSize)
          (cond (nat_le publisher.max_loaned_samples (length (loans_of number service))) (Some ExceedsMaxLoans)
          (cond (nat_le count publisher.room && used) (Some OutOfMemory) None)) (Some OutOfMemory) is) [
            | inl w ↦ absurd (not-size w.1)
            | inr w ↦ elim (chosen (nat_le publisher.max_loaned_samples (length (loans_of number service))) (Some ExceedsMaxLoans)
                (cond (nat_le count publisher.room && used) (Some OutOfMemory) None) (Some OutOfMemory) w.1) [
                  | inl k ↦ absurd (not-many k.1)
                  | inr k ↦ elim (chosen (nat_le count publisher.room && used) (Some OutOfMemory) None (Some OutOfMemory) k.1) [
                    | inl u ↦ leb-true count publisher.room (both-true (nat_le count publisher.room) used u.0).0
                    | inr u ↦ never-some OutOfMemory u.1
                  ]
                ]
          ]
        where
          used : Bool
          used = nat_le publisher.slots (how_many (filter (nat_le publisher.first) (in_use number publisher service)))

          not-size : Some ExceedsMaxLoanSize ≡ Some OutOfMemory → ⊥
          not-size e = cc

          not-many : Some ExceedsMaxLoans ≡ Some OutOfMemory → ⊥
          not-many e = cc

      long : (b : Bool) → (refused : Option LoanError) × (after : Publisher T)
          × MatchBool b (LendsLonger number count publisher refused after)
          ((refused ≡ None) × (after ≡ record publisher { next = publisher.next + 1 })) × (refused ≡ Some OutOfMemory → IsBeyond)
      long true = let did = opens-or-not publisher.allocation refl in (did.1, did.0, did.2, did.3)
      long false = (None, record publisher { next = publisher.next + 1 }, (refl, refl), λ told. never-some OutOfMemory told)

      here : (why : Option LoanError) → loan_refusal number count publisher service ≡ why
          → (refused : Option LoanError) × (after : Publisher T) × LendsSo refused after
      here None is =
          let did = long (nat_lt publisher.room count) in
          (did.0, did.1, (subst (λ (it : Option LoanError). Body it did.0 did.1) (sym is) did.2, did.3))
      here (Some why) is = (
        Some why,
        publisher,
        (
          subst (λ (it : Option LoanError). Body it (Some why) publisher) (sym is) (refl, refl),
          λ told. inl (fits (is ∙ told)),
        ),
      )

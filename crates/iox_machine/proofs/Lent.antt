-- When a loan is refused.
use Rattle.std.proofs.Common.{◌≡◌, ◌≤◌, ◌<◌, ◌⊎◌, ◌+◌, ℕ, Bool, true, false, cond, ◌&&◌, ◌||◌, List, [], ◌∷◌, ◌++◌, length, map, Option}
use Rattle.std.proofs.Common.{None, Some, refl, sym, ap, subst, inl, inr, arith, ◌∙◌, true≢false}
use Rattle.std.proofs.lemmas.Bool.{and_parts, eq-eqb, eqb-true, le-leb, leb-false, leb-true, ltb-false, ltb-true, or_cases, or_left}
use Rattle.std.proofs.lemmas.Bool.{or_right}
use Rattle.std.specs.List.{list_any}
use Rattle.std.specs.Prelude.{◌==◌, filter, find, flat_map, is_some, nat_le, nat_lt, replicate, slice_get, zip, MatchBool, MatchOption}
use Rattle.iox_machine.proofs.Cases.{by-bool, by-option}
use Rattle.iox_machine.proofs.Closed.{one-any}
use Rattle.iox_machine.proofs.Counted.{distinct}
use Rattle.iox_machine.proofs.Counts.{one_if, times}
use Rattle.iox_machine.proofs.Delivering.{Outcomes, at_once, by-outcome, by-send, keeping, sending}
use Rattle.iox_machine.proofs.Frames.{publisher-stands}
use Rattle.iox_machine.proofs.Moving.{at-one}
use Rattle.iox_machine.proofs.Names.{and-true}
use Rattle.iox_machine.proofs.Order.{follows-publishers}
use Rattle.iox_machine.proofs.Parts.{contains-filter}
use Rattle.iox_machine.proofs.Shorthands.{AtFree, IsRefused, IsSkipped, LendsLonger, is_static, with_publisher}
use Rattle.iox_machine.proofs.Tables.{at-changed}
use Rattle.iox_machine.proofs.Waiting.{any-one}
use Rattle.iox_machine.specs.AgreementLaws.{HasOne}
use Rattle.iox_machine.specs.Choices.{Choices}
use Rattle.iox_machine.specs.Lending.{IsRoomFor, Lends, how_many, in_use, loan_refusal, loans_of}
use Rattle.iox_machine.specs.LoanLaws.{AreInUse, IsInUse, IsLeftBy, IsLentOrRefused, IsLongEnough, KeepsSegments, LoansAreRefusedSo}
use Rattle.iox_machine.specs.LoanLaws.{PutsAreRefusedSo, loans_out}
use Rattle.iox_machine.specs.Mailbox.{Mailbox, put}
use Rattle.iox_machine.specs.Message.{Loan, Message}
use Rattle.iox_machine.specs.OnceLaws.{is_skipped}
use Rattle.iox_machine.specs.Ports.{LendsLoan, Puts, publisher_in}
use Rattle.iox_machine.specs.PublisherUpdate as publishing
use Rattle.iox_machine.specs.PortList.{those}
use Rattle.iox_machine.specs.Sending.{Begins, Delivers, GoesOn, MayDecide, Sends}
use Rattle.iox_machine.specs.Service.{Publisher, Send, Service, Subscriber, mailbox, with_mailbox}
use Rattle.iox_machine.specs.State.{State, replaced}
use Rattle.iox_machine.specs.Table.{at, changed, contains}
use Rattle.iox_command.specs.DomainValues.declared.backpressure.BackpressureDecision.TheVariants.{Retry, DiscardData, DiscardDataAndFail}
use Rattle.iox_command.specs.DomainValues.declared.data_segment.AllocationStrategy.{AllocationStrategy}
use Rattle.iox_command.specs.DomainValues.declared.data_segment.AllocationStrategy.TheVariants.{BestFit, PowerOfTwo, Static}
use Rattle.iox_command.specs.DomainValues.declared.port_error.LoanError.{LoanError}
use Rattle.iox_command.specs.DomainValues.declared.port_error.LoanError.TheVariants as lacking
use Rattle.iox_command.specs.DomainValues.declared.port_error.SendError.TheVariants as error
use Rattle.iox_command.specs.declared.refusal.Refusal.TheVariants as refusal
use Rattle.iox_command.specs.declared.reply.Reply.{Reply}
use Rattle.iox_command.specs.declared.reply.Reply.TheVariants as reply

-- ---- lists

any-joined : {X : Type 0} (test : X → Bool) (xs ys : List X) → list_any test (xs ++ ys) ≡ (list_any test xs || list_any test ys)
any-joined test [] ys = refl
any-joined test (x ∷ xs) ys = here (test x) (any-joined test xs ys)
  where
    here : (b : Bool) → list_any test (xs ++ ys) ≡ (list_any test xs || list_any test ys)
        → (b || list_any test (xs ++ ys)) ≡ ((b || list_any test xs) || list_any test ys)
    here true on = refl
    here false on = on

any-mapped : {X Y : Type 0} (test : Y → Bool) (f : X → Y) (xs : List X) → list_any test (map f xs) ≡ list_any (λ (x : X). test (f x)) xs
any-mapped test f [] = refl
any-mapped test f (x ∷ xs) = ap (λ (b : Bool). test (f x) || b) (any-mapped test f xs)

any-flat : {X Y : Type 0} (test : Y → Bool) (f : X → List Y) (xs : List X) → list_any test (flat_map f xs)
    ≡ list_any (λ (x : X). list_any test (f x)) xs
any-flat test f [] = refl
any-flat test f (x ∷ xs) =
    any-joined test (f x) (flat_map f xs) ∙ ap (λ (b : Bool). list_any test (f x) || b) (any-flat test f xs)

any-kept : {X : Type 0} (test keeps : X → Bool) (xs : List X) → list_any test (filter keeps xs) ≡ list_any (λ (x : X). keeps x && test x) xs
any-kept test keeps [] = refl
any-kept test keeps (x ∷ xs) = here (keeps x) (any-kept test keeps xs)
  where
    here : (b : Bool) → list_any test (filter keeps xs) ≡ list_any (λ (y : _). keeps y && test y) xs
        → list_any test (cond b (x ∷ filter keeps xs) (filter keeps xs)) ≡ ((b && test x) || list_any (λ (y : _). keeps y && test y) xs)
    here true on = ap (λ (b : Bool). test x || b) on
    here false on = on

-- each number once
abbrev once : List ℕ → List ℕ
once [] = []
once (number ∷ more) = cond (contains more number) (once more) (number ∷ once more)

once-many : (xs : List ℕ) → how_many xs ≡ length (once xs)
once-many [] = refl
once-many (x ∷ xs) = here (contains xs x) (once-many xs)
  where
    here : (b : Bool) → how_many xs ≡ length (once xs) → cond b (how_many xs) (1 + how_many xs) ≡ length (cond b (once xs) (x ∷ once xs))
    here true on = on
    here false on = omega (arith, on)

once-has : (xs : List ℕ) (n : ℕ) → contains (once xs) n ≡ contains xs n
once-has [] n = refl
once-has (x ∷ xs) n = here (contains xs x) refl (once-has xs n)
  where
    here : (b : Bool) → contains xs x ≡ b → contains (once xs) n ≡ contains xs n
        → contains (cond b (once xs) (x ∷ once xs)) n ≡ ((x == n) || contains xs n)
    here true is on = on ∙ there (x == n) refl
      where
        there : (c : Bool) → (x == n) ≡ c → contains xs n ≡ (c || contains xs n)
        there true same = ap (contains xs) (sym (eqb-true x n same)) ∙ is
        there false other = refl
    here false is on = ap (λ (b : Bool). (x == n) || b) on

absent : (xs : List ℕ) (n : ℕ) → contains xs n ≡ false → times n xs ≡ 0
absent [] n e = refl
absent (x ∷ xs) n e = here (x == n) e (absent xs n)
  where
    here : (b : Bool) → (b || contains xs n) ≡ false → (contains xs n ≡ false → times n xs ≡ 0) → one_if b + times n xs ≡ 0
    here true e on = absurd (true≢false e)
    here false e on = omega (arith, on e)

once-times : (xs : List ℕ) (n : ℕ) → times n (once xs) ≤ 1
once-times [] n = omega arith
once-times (x ∷ xs) n = here (contains xs x) refl (once-times xs n)
  where
    alone : (k : ℕ) → k ≡ 0 → 1 + k ≤ 1
    alone k h = omega (arith, h)

    here : (b : Bool) → contains xs x ≡ b → times n (once xs) ≤ 1 → times n (cond b (once xs) (x ∷ once xs)) ≤ 1
    here true is on = on
    here false is on = there (x == n) refl
      where
        there : (c : Bool) → (x == n) ≡ c → one_if c + times n (once xs) ≤ 1
        there true same =
            alone (times n (once xs)) (absent (once xs) n (once-has xs n ∙ (ap (contains xs) (sym (eqb-true x n same)) ∙ is)))
        there false other = omega (arith, on)

out-mapped : {T : Type 0} (number : ℕ) (loans : List (ℕ × Loan T))
    → length (filter (λ (it : Loan T). it.publisher == number) (map (λ (entry : ℕ × Loan T). entry.1) loans))
    ≡ length (filter (λ (entry : ℕ × Loan T). entry.1.publisher == number) loans)
out-mapped number [] = refl
out-mapped {T} number (entry ∷ more) = here (entry.1.publisher == number) (out-mapped number more)
  where
    rest : List (Loan T)
    rest = filter (λ (it : Loan T). it.publisher == number) (map (λ (e : ℕ × Loan T). e.1) more)

    others : List (ℕ × Loan T)
    others = filter (λ (e : ℕ × Loan T). e.1.publisher == number) more

    here : (b : Bool) → length rest ≡ length others → length (cond b (entry.1 ∷ rest) rest) ≡ length (cond b (entry ∷ others) others)
    here true on = omega (arith, on)
    here false on = on

-- ---- what is in use

module _ {T : Type 0} (number : ℕ) (one : Publisher T) (service : Service T) where
  module _ (message : ℕ) where
    abbrev is_it : Message T → Bool
    is_it it = it.number == message

    abbrev is_lent : ℕ × Loan T → Bool
    is_lent entry = entry.1.publisher == number && entry.1.number == message

    abbrev is_met : ℕ × Subscriber → Bool
    is_met entry = list_any is_it (mailbox number entry.0 service).waiting || list_any is_it (mailbox number entry.0 service).borrowed

    abbrev uses : Bool
    uses = list_any is_lent service.loans || (list_any is_it one.history || list_any is_met service.subscribers)

    in-use-is : contains (in_use number one service) message ≡ uses
    in-use-is =
        any-joined (λ (n : ℕ). n == message) (map (λ (it : Loan T). it.number) (loans_of number service))
        (map (λ (it : Message T). it.number) messages)
        ∙ (ap (λ (b : Bool). b || list_any (λ (n : ℕ). n == message) (map (λ (it : Message T). it.number) messages))
        (any-mapped (λ (n : ℕ). n == message) (λ (it : Loan T). it.number) (loans_of number service)
        ∙ (any-kept (λ (it : Loan T). it.number == message) (λ (it : Loan T). it.publisher == number)
        (map (λ (entry : ℕ × Loan T). entry.1) service.loans)
        ∙ any-mapped (λ (it : Loan T). it.publisher == number && it.number == message) (λ (entry : ℕ × Loan T). entry.1) service.loans))
        ∙ ap (λ (b : Bool). list_any is_lent service.loans || b)
        (any-mapped (λ (n : ℕ). n == message) (λ (it : Message T). it.number) messages
        ∙ (any-joined is_it one.history (flat_map waits_or_borrowed service.subscribers)
        ∙ ap (λ (b : Bool). list_any is_it one.history || b)
        (any-flat is_it waits_or_borrowed service.subscribers ∙ any-alike service.subscribers))))
      where
        waits_or_borrowed : ℕ × Subscriber → List (Message T)
        waits_or_borrowed entry = (mailbox number entry.0 service).waiting ++ (mailbox number entry.0 service).borrowed

        messages : List (Message T)
        messages = one.history ++ flat_map waits_or_borrowed service.subscribers

        any-alike : (entries : List (ℕ × Subscriber))
            → list_any (λ (entry : ℕ × Subscriber). list_any is_it (waits_or_borrowed entry)) entries
            ≡ list_any is_met entries
        any-alike [] = refl
        any-alike (entry ∷ more) =
            ap (λ (b : Bool). b || list_any (λ (it : ℕ × Subscriber). list_any is_it (waits_or_borrowed it)) more)
            (any-joined is_it (mailbox number entry.0 service).waiting (mailbox number entry.0 service).borrowed)
            ∙ ap (λ (b : Bool). is_met entry || b) (any-alike more)

    abbrev Is : Message T → Type 0
    Is it = it.number ≡ message

    abbrev IsLent : ℕ × Loan T → Type 0
    IsLent entry = (entry.1.publisher ≡ number) × (entry.1.number ≡ message)

    abbrev IsMet : ℕ × Subscriber → Type 0
    IsMet entry = HasOne Is (mailbox number entry.0 service).waiting ⊎ HasOne Is (mailbox number entry.0 service).borrowed

    has-it : (xs : List (Message T)) → list_any is_it xs ≡ true → HasOne Is xs
    has-it xs e = any-one Is is_it (λ it is. eqb-true it.number message is) xs e

    it-had : (xs : List (Message T)) → HasOne Is xs → list_any is_it xs ≡ true
    it-had xs h = one-any Is is_it (λ it is. eq-eqb it.number message is) xs h

    uses-it : uses ≡ true → IsInUse number one service message
    uses-it e = elim (or_cases (list_any is_lent service.loans) (list_any is_it one.history || list_any is_met service.subscribers) e) [
      | inl is ↦ inl (any-one IsLent is_lent (λ entry k.
          let both = and_parts (entry.1.publisher == number) (entry.1.number == message) k in
          (eqb-true entry.1.publisher number both.0, eqb-true entry.1.number message both.1)) service.loans is)
      | inr more ↦ elim (or_cases (list_any is_it one.history) (list_any is_met service.subscribers) more) [
        | inl is ↦ inr (inl (has-it one.history is))
        | inr is ↦ inr (inr (any-one IsMet is_met (λ entry k.
            elim (or_cases (list_any is_it (mailbox number entry.0 service).waiting)
            (list_any is_it (mailbox number entry.0 service).borrowed) k) [
              | inl w ↦ inl (has-it (mailbox number entry.0 service).waiting w)
              | inr w ↦ inr (has-it (mailbox number entry.0 service).borrowed w)
            ]) service.subscribers is))
      ]
    ]

    it-used : IsInUse number one service message → uses ≡ true
    it-used (inl h) =
        or_left (list_any is_lent service.loans) (list_any is_it one.history || list_any is_met service.subscribers)
        (one-any IsLent is_lent (λ entry is. and-true (entry.1.publisher == number) (entry.1.number == message)
        (eq-eqb entry.1.publisher number is.0) (eq-eqb entry.1.number message is.1)) service.loans h)
    it-used (inr (inl h)) =
        or_right (list_any is_lent service.loans) (list_any is_it one.history || list_any is_met service.subscribers)
        (or_left (list_any is_it one.history) (list_any is_met service.subscribers) (it-had one.history h))
    it-used (inr (inr h)) =
        or_right (list_any is_lent service.loans) (list_any is_it one.history || list_any is_met service.subscribers)
        (or_right (list_any is_it one.history) (list_any is_met service.subscribers)
        (one-any IsMet is_met (λ entry is. elim is [
          | inl w ↦ or_left (list_any is_it (mailbox number entry.0 service).waiting)
              (list_any is_it (mailbox number entry.0 service).borrowed) (it-had (mailbox number entry.0 service).waiting w)
          | inr w ↦ or_right (list_any is_it (mailbox number entry.0 service).waiting)
              (list_any is_it (mailbox number entry.0 service).borrowed) (it-had (mailbox number entry.0 service).borrowed w)
        ]) service.subscribers h))

  abbrev counted_so : List ℕ
  counted_so = filter (nat_le one.first) (in_use number one service)

  in-segment : (message : ℕ) → contains (once counted_so) message ≡ (uses message && nat_le one.first message)
  in-segment message =
      once-has counted_so message
      ∙ (contains-filter message (nat_le one.first) (in_use number one service)
      ∙ ap (λ (b : Bool). b && nat_le one.first message) (in-use-is message))

  are-in-use : AreInUse number one service (once counted_so)
  are-in-use = (
    distinct (once counted_so) (once-times counted_so),
    (λ message. (
      (λ has.
          let both = and_parts (uses message) (nat_le one.first message) (sym (in-segment message) ∙ has) in
          (leb-true one.first message both.1, uses-it message both.0)),
      (λ late is. in-segment message
          ∙ and-true (uses message) (nat_le one.first message) (it-used message is) (le-leb one.first message late)),
    )),
  )

  -- ---- a loan

  static-is : (allocation : AllocationStrategy) → is_static allocation ≡ true → allocation ≡ Static
  static-is Static e = refl
  static-is BestFit e = absurd (true≢false (sym e))
  static-is PowerOfTwo e = absurd (true≢false (sym e))

  static-not : (allocation : AllocationStrategy) → is_static allocation ≡ false → allocation ≡ Static → ⊥
  static-not allocation off is = true≢false (sym (ap is_static is) ∙ off)

  long-enough : (allocation : AllocationStrategy) (count room : ℕ) → IsRoomFor allocation count room → IsLongEnough allocation count room
  long-enough Static count room h = h
  long-enough BestFit count room h = h
  long-enough PowerOfTwo count room h = h

  pub left-by : (count : ℕ) (refused : Option LoanError) (after : Publisher T) → Lends number count one service refused after
      → IsLeftBy count refused one after
  left-by count refused after h =
      elim (by-option (loan_refusal number count one service)
      (MatchBool (nat_lt one.room count) (LendsLonger number count one refused after)
      ((refused ≡ None) × (after ≡ record one { next = one.next + 1 }))) (λ why. (refused ≡ Some why) × (after ≡ one)) h) [
        | inl w ↦ elim (by-bool (nat_lt one.room count) (LendsLonger number count one refused after)
            ((refused ≡ None) × (after ≡ record one { next = one.next + 1 })) w.1) [
              | inl k ↦ elim k.1 [
                | inl (told, same) ↦ subst (λ (o : Option LoanError). IsLeftBy count o one after) (sym told) same
                | inr (room, (fits, less), segments, told, came) ↦
                    subst (λ (o : Option LoanError). IsLeftBy count o one after) (sym told)
                    (inr (
                      ltb-true one.room count k.0,
                      room,
                      long-enough one.allocation count room fits,
                      less,
                      ltb-true one.segments 255 segments,
                      came,
                    ))
              ]
              | inr k ↦ subst (λ (o : Option LoanError). IsLeftBy count o one after) (sym k.1.0)
                  (inl (ltb-false one.room count k.0, k.1.1))
            ]
        | inr w ↦ subst (λ (o : Option LoanError). IsLeftBy count o one after) (sym w.2.0) w.2.1
      ]

  pub lent-or-refused : (count : ℕ) (refused : Option LoanError) (after : Publisher T) → Lends number count one service refused after
      → IsLentOrRefused number one service count refused
  lent-or-refused count refused after h =
      here (nat_lt one.room count) (is_static one.allocation) (nat_le one.max_loaned_samples (length (loans_of number service)))
      (nat_le count one.room) (nat_le one.slots (how_many counted_so)) refl refl refl refl refl h
    where
      out-is : length (loans_of number service) ≡ loans_out number one service
      out-is = out-mapped number service.loans

      many-out : nat_le one.max_loaned_samples (length (loans_of number service)) ≡ true
          → one.max_loaned_samples ≤ loans_out number one service
      many-out e =
          subst (λ (n : ℕ). one.max_loaned_samples ≤ n) out-is (leb-true one.max_loaned_samples (length (loans_of number service)) e)

      few-out : nat_le one.max_loaned_samples (length (loans_of number service)) ≡ false
          → loans_out number one service < one.max_loaned_samples
      few-out e =
          subst (λ (n : ℕ). n < one.max_loaned_samples) out-is (leb-false one.max_loaned_samples (length (loans_of number service)) e)

      clash : {A : Type 0} → nat_lt one.room count ≡ true → nat_le count one.room ≡ true → A
      clash long short = absurd (never (ltb-true one.room count long) (leb-true count one.room short))
        where
          never : one.room < count → count ≤ one.room → ⊥
          never h k = omega (arith, h, k)

      gap : {A : Type 0} → nat_lt one.room count ≡ false → nat_le count one.room ≡ false → A
      gap short long = absurd (never (ltb-false one.room count short) (leb-false count one.room long))
        where
          never : count ≤ one.room → one.room < count → ⊥
          never h k = omega (arith, h, k)

      not-longer : nat_lt one.room count ≡ false → one.room < count → one.allocation ≡ Static → ⊥
      not-longer short long static = never (ltb-false one.room count short) long
        where
          never : count ≤ one.room → one.room < count → ⊥
          never h k = omega (arith, h, k)

      longer : nat_lt one.room count ≡ true → is_static one.allocation ≡ false
          → nat_le one.max_loaned_samples (length (loans_of number service)) ≡ false → LendsLonger number count one refused after
          → IsLentOrRefused number one service count refused
      longer long grows few (inl (told, same)) =
          inr (inr (inr (few-out few, ltb-true one.room count long, static-not one.allocation grows, inl told)))
      longer long grows few (inr (room, (fits, less), segments, told, came)) =
          inr (inr (inr (
            few-out few,
            ltb-true one.room count long,
            static-not one.allocation grows,
            inr ((room, long-enough one.allocation count room fits, less, ltb-true one.segments 255 segments), told),
          )))

      here : (long static many short full : Bool) → nat_lt one.room count ≡ long → is_static one.allocation ≡ static
          → nat_le one.max_loaned_samples (length (loans_of number service)) ≡ many → nat_le count one.room ≡ short
          → nat_le one.slots (how_many counted_so) ≡ full
          → MatchOption (cond (long && static) (Some lacking.ExceedsMaxLoanSize) (cond many (Some lacking.ExceedsMaxLoans)
          (cond (short && full) (Some lacking.OutOfMemory) None)))
          (MatchBool long (LendsLonger number count one refused after)
          ((refused ≡ None) × (after ≡ record one { next = one.next + 1 })))
          (λ why. (refused ≡ Some why) × (after ≡ one))
          → IsLentOrRefused number one service count refused
      here true true many short full l s m f k did = inl (ltb-true one.room count l, static-is one.allocation s, did.0)
      here true false true short full l s m f k did =
          inr (inl ((λ longer. static-not one.allocation s), many-out m, did.0))
      here true false false true full l s m f k did = clash l f
      here true false false false full l s m f k did = longer l s m did
      here false static true short full l s m f k did = inr (inl (not-longer l, many-out m, did.0))
      here false static false true true l s m f k did =
          inr (inr (inl (
            few-out m,
            ltb-false one.room count l,
            once counted_so,
            are-in-use,
            inl (subst (λ (n : ℕ). one.slots ≤ n) (once-many counted_so) (leb-true one.slots (how_many counted_so) k), did.0),
          )))
      here false static false true false l s m f k did =
          inr (inr (inl (
            few-out m,
            ltb-false one.room count l,
            once counted_so,
            are-in-use,
            inr (subst (λ (n : ℕ). n < one.slots) (once-many counted_so) (leb-false one.slots (how_many counted_so) k), did.0),
          )))
      here false static false false full l s m f k did = gap l f

-- ---- the commands

module _ {T : Type 0} where
  loan-refused-so : (publisher count next : ℕ) (value : Option T) (old : State T) (answer : Reply T) (new : State T)
      → is_skipped answer ≡ false → AtFree publisher (LendsLoan next publisher count value) old answer new
      → (service : Service T) × (one : Publisher T) × (refused : Option LoanError)
      × (find (λ (other : Service T). is_some (publisher_in publisher other)) old.services ≡ Some service)
      × (publisher_in publisher service ≡ Some one)
      × IsLentOrRefused publisher one service count refused
      × MatchOption refused (answer ≡ reply.LoanMade next) (λ why. answer ≡ reply.Refused (refusal.Loan why))
      × (after : Service T) × (now : Publisher T)
      × (new.services ≡ replaced (λ (other : Service T). is_some (publisher_in publisher other)) after old.services)
      × (at publisher after.publishers ≡ Some now) × IsLeftBy count refused one now
  loan-refused-so publisher count next value old answer new unskipped h =
      elim (at-one (publisher_in publisher)
      (λ (one : Publisher T) (service : Service T) (told : Reply T) (after : Service T). MatchOption one.blocked
      (LendsLoan next publisher count value one service told after) (λ send. IsSkipped service told after)) old answer new h) [
        | inl w ↦ absurd (true≢false (sym (ap is_skipped w.0) ∙ unskipped))
        | inr w ↦ elim (by-option w.1.blocked (LendsLoan next publisher count value w.1 w.0 answer w.2)
            (λ send. IsSkipped w.0 answer w.2) w.5) [
              | inl k ↦ (
                w.0,
                w.1,
                k.1.0,
                w.3,
                w.4,
                lent-or-refused publisher w.1 w.0 count k.1.0 k.1.1 k.1.2,
                told k.1.0 w.1 k.1.1 w.0 w.2 k.1.3,
                w.2,
                k.1.1,
                ap (λ (state : State T). state.services) w.6,
                leaves k.1.0 w.1 k.1.1 w.0 w.2 (publisher-stands publisher w.0 w.1 w.4) (left-by publisher w.1 w.0 count k.1.0 k.1.1 k.1.2)
                    k.1.3,
                left-by publisher w.1 w.0 count k.1.0 k.1.1 k.1.2,
              )
              | inr k ↦ absurd (true≢false (sym (ap is_skipped k.2.0) ∙ unskipped))
            ]
      ]
    where
      told : (refused : Option LoanError) (one lent : Publisher T) (service after : Service T)
          → MatchOption refused
          ((answer ≡ reply.LoanMade next)
          × (after ≡ record service {
            publishers = changed publisher lent service.publishers;
            loans = service.loans ++ (next, record { publisher = publisher; number = one.next; values = replicate count value }) ∷ [];
          }))
          (λ why. IsRefused (refusal.Loan why) service answer after)
          → MatchOption refused (answer ≡ reply.LoanMade next) (λ why. answer ≡ reply.Refused (refusal.Loan why))
      told None one lent service after h = h.0
      told (Some why) one lent service after h = h.0

      leaves : (refused : Option LoanError) (one lent : Publisher T) (service after : Service T)
          → at publisher service.publishers ≡ Some one → IsLeftBy count refused one lent
          → MatchOption refused
          ((answer ≡ reply.LoanMade next)
          × (after ≡ record service {
            publishers = changed publisher lent service.publishers;
            loans = service.loans ++ (next, record { publisher = publisher; number = one.next; values = replicate count value }) ∷ [];
          }))
          (λ why. IsRefused (refusal.Loan why) service answer after)
          → at publisher after.publishers ≡ Some lent
      leaves None one lent service after found left h =
          ap (λ (end : Service T). at publisher end.publishers) h.1 ∙ at-changed publisher lent one service.publishers found
      leaves (Some why) one lent service after found left h =
          ap (λ (end : Service T). at publisher end.publishers) h.1 ∙ (found ∙ ap (λ (it : Publisher T). Some it) (sym left))

  -- no send answers that a loan was refused
  abbrev loan_told : Reply T → Bool
  loan_told (reply.Refused (refusal.Send (error.LoanError why))) = true
  loan_told other = false

  goes-unlent : (choices : Choices T) (number : ℕ) (keeps : Publisher T) (send : Send T) (old : Service T) (answer : Reply T)
      (new : Service T) → GoesOn choices number keeps send old answer new → loan_told answer ≡ false
  goes-unlent choices number keeps send old answer new h = told (is_some (slice_get h.0.left 0)) h.0.fails h.0.delivered h.3
    where
      told : (waits fails : Bool) (count : ℕ)
          → answer ≡ cond waits reply.Blocked (cond fails (reply.Refused (refusal.Send error.UnableToDeliver)) (reply.Delivered count))
          → loan_told answer ≡ false
      told true fails count e = ap loan_told e
      told false true count e = ap loan_told e
      told false false count e = ap loan_told e

  sends-unlent : (choices : Choices T) (number : ℕ) (message : Message T) (one : Publisher T) (old : Service T) (answer : Reply T)
      (new : Service T) → Sends choices number message one old answer new → loan_told answer ≡ false
  sends-unlent choices number message one old answer new h =
      elim (by-send choices number message one old answer new h) [
        | inl w ↦ elim (by-bool (one.seen == old.subscriber_list.changes) (Begins choices number message one old answer new)
            ((after : Publisher T) × (mid : Service T) × publishing.Follows number one old after mid
            × Outcomes (choices.publisher_acts number one.degradation) (zip old.subscriber_list.places after.connected)
            (λ done. Begins choices number message after mid answer new)
            (λ failure. IsRefused (refusal.Send (error.ConnectionError failure)) mid answer new)) w) [
              | inl k ↦ goes-unlent choices number (keeping message one old) (sending message one) old answer new k.1
              | inr k ↦ elim (by-outcome (choices.publisher_acts number one.degradation)
                  (zip old.subscriber_list.places k.1.0.connected) (λ done. Begins choices number message k.1.0 k.1.1 answer new)
                  (λ failure. IsRefused (refusal.Send (error.ConnectionError failure)) k.1.1 answer new) k.1.3) [
                    | inl r ↦ goes-unlent choices number (keeping message k.1.0 k.1.1) (sending message k.1.0) k.1.1 answer new r.2
                    | inr r ↦ ap loan_told r.2.0
                  ]
            ]
        | inr w ↦ at-once w.0 w.1.0
      ]
    where
      at-once : (used_up : Bool) → answer ≡ reply.Refused (refusal.Send (at_once used_up)) → loan_told answer ≡ false
      at-once true e = ap loan_told e
      at-once false e = ap loan_told e

  -- ---- what a send leaves of its publisher's segments

  delivers-publishers : (choices : Choices T) (number : ℕ) (one : Publisher T) (left : List ℕ) (send : Send T) (old : Service T)
      (after : Send T) (new : Service T) → Delivers choices number one left send old after new → new.publishers ≡ old.publishers
  delivers-publishers choices number one [] send old after new (is, same) = ap (λ (end : Service T). end.publishers) same
  delivers-publishers choices number one (t ∷ more) send old after new went =
      here (put old.settings.enable_safe_overflow send.message (mailbox number t old))
      (λ next mid. delivers-publishers choices number one more next mid after new) went
    where
      here : (met : Option (Mailbox T))
          → ((next : Send T) (mid : Service T) → Delivers choices number one more next mid after new → new.publishers ≡ mid.publishers)
          → MatchOption met
          ((MayDecide choices number one t send old Retry × (after ≡ record send { left = t ∷ more }) × (new ≡ old))
          ⊎ (MayDecide choices number one t send old DiscardData
          × Delivers choices number one more (record send { retries = 0; elapsed = 0 }) old after new)
          ⊎ (MayDecide choices number one t send old DiscardDataAndFail
          × Delivers choices number one more (record send { retries = 0; elapsed = 0; fails = true }) old after new))
          (λ box. Delivers choices number one more (record send { retries = 0; elapsed = 0; delivered = send.delivered + 1 })
          (with_mailbox number t box old) after new)
          → new.publishers ≡ old.publishers
      here (Some box) on went =
          on (record send { retries = 0; elapsed = 0; delivered = send.delivered + 1 }) (with_mailbox number t box old) went
      here None on (inl (may, is, same)) = ap (λ (end : Service T). end.publishers) same
      here None on (inr (inl (may, went))) = on (record send { retries = 0; elapsed = 0 }) old went
      here None on (inr (inr (may, went))) = on (record send { retries = 0; elapsed = 0; fails = true }) old went

  -- a publisher of this number whose segments are as before
  abbrev HasSegments : ℕ → Publisher T → Service T → Type 0
  HasSegments number was service =
      (now : Publisher T) × (at number service.publishers ≡ Some now) × KeepsSegments was now

  begins-segments : (choices : Choices T) (number : ℕ) (message : Message T) (was one : Publisher T) (old : Service T) (answer : Reply T)
      (new : Service T) → at number old.publishers ≡ Some one → KeepsSegments was one
      → Begins choices number message one old answer new → HasSegments number was new
  begins-segments choices number message was one old answer new found kept (after, mid, went, told, came) =
      let now : Publisher T = record (keeping message one old) {
        blocked = cond (is_some (slice_get after.left 0)) (Some after) None;
      } in (
        now,
        ap (λ (end : Service T). at number end.publishers) came
            ∙ at-changed number now one mid.publishers
            (ap (at number) (delivers-publishers choices number (keeping message one old) (those one.connected) (sending message one) old
            after mid went) ∙ found),
        kept,
      )

  sends-segments : (choices : Choices T) (number : ℕ) (message : Message T) (one : Publisher T) (old : Service T) (answer : Reply T)
      (new : Service T) → at number old.publishers ≡ Some one → Sends choices number message one old answer new
      → HasSegments number one new
  sends-segments choices number message one old answer new found h =
      elim (by-send choices number message one old answer new h) [
        | inl w ↦ elim (by-bool (one.seen == old.subscriber_list.changes) (Begins choices number message one old answer new)
            ((after : Publisher T) × (mid : Service T) × publishing.Follows number one old after mid
            × Outcomes (choices.publisher_acts number one.degradation) (zip old.subscriber_list.places after.connected)
            (λ done. Begins choices number message after mid answer new)
            (λ failure. IsRefused (refusal.Send (error.ConnectionError failure)) mid answer new)) w) [
              | inl k ↦ begins-segments choices number message one one old answer new found (refl, refl, refl, refl, refl) k.1
              | inr k ↦ followed k.1.0 k.1.1 k.1.2 k.1.3
            ]
        | inr w ↦ (one, ap (λ (end : Service T). at number end.publishers) w.1.1 ∙ found, (refl, refl, refl, refl, refl))
      ]
    where
      followed : (after : Publisher T) (mid : Service T) → publishing.Follows number one old after mid
          → Outcomes (choices.publisher_acts number one.degradation) (zip old.subscriber_list.places after.connected)
          (λ done. Begins choices number message after mid answer new)
          (λ failure. IsRefused (refusal.Send (error.ConnectionError failure)) mid answer new)
          → HasSegments number one new
      followed after mid came told =
          let known : at number mid.publishers ≡ Some after = follows-publishers number 0 one old after mid found came in
          let kept : KeepsSegments one after =
          subst (λ (it : Publisher T). KeepsSegments one it) (sym came.2) (refl, refl, refl, refl, refl) in
          elim (by-outcome (choices.publisher_acts number one.degradation) (zip old.subscriber_list.places after.connected)
          (λ done. Begins choices number message after mid answer new)
          (λ failure. IsRefused (refusal.Send (error.ConnectionError failure)) mid answer new) told) [
            | inl r ↦ begins-segments choices number message one after mid answer new known kept r.2
            | inr r ↦ (after, ap (λ (end : Service T). at number end.publishers) r.2.1 ∙ known, kept)
          ]

pub loans-are-refused-so : {T : Type 0} (choices : Choices T) → LoansAreRefusedSo choices
loans-are-refused-so choices types buffer publisher count old answer new unskipped (inl h) =
    loan-refused-so publisher count (old.made.loans + 1) (Some h.0) old answer new unskipped h.2
loans-are-refused-so choices types buffer publisher count old answer new unskipped (inr h) =
    loan-refused-so publisher count (old.made.loans + 1) None old answer new unskipped h

pub puts-are-refused-so : {T : Type 0} (choices : Choices T) → PutsAreRefusedSo choices
puts-are-refused-so {T} choices types buffer publisher values old answer new unskipped h =
    elim (at-one (publisher_in publisher)
    (λ (one : Publisher T) (service : Service T) (told : Reply T) (after : Service T). MatchOption one.blocked
    (Puts choices publisher values one service told after) (λ send. IsSkipped service told after)) old answer new h) [
      | inl w ↦ absurd (true≢false (sym (ap is_skipped w.0) ∙ unskipped))
      | inr w ↦ elim (by-option w.1.blocked (Puts choices publisher values w.1 w.0 answer w.2) (λ send. IsSkipped w.0 answer w.2) w.5) [
        | inl k ↦ (
          w.0,
          w.1,
          k.1.0,
          w.3,
          w.4,
          lent-or-refused publisher w.1 w.0 (length values) k.1.0 k.1.1 k.1.2,
          told k.1.0 w.1 k.1.1 w.0 w.2 k.1.3,
          w.2,
          k.1.1,
          (ends k.1.0 w.1 k.1.1 w.0 w.2 (publisher-stands publisher w.0 w.1 w.4)
              (left-by publisher w.1 w.0 (length values) k.1.0 k.1.1 k.1.2) k.1.3).0,
          ap (λ (state : State T). state.services) w.6,
          left-by publisher w.1 w.0 (length values) k.1.0 k.1.1 k.1.2,
          (ends k.1.0 w.1 k.1.1 w.0 w.2 (publisher-stands publisher w.0 w.1 w.4)
              (left-by publisher w.1 w.0 (length values) k.1.0 k.1.1 k.1.2) k.1.3).1,
          (ends k.1.0 w.1 k.1.1 w.0 w.2 (publisher-stands publisher w.0 w.1 w.4)
              (left-by publisher w.1 w.0 (length values) k.1.0 k.1.1 k.1.2) k.1.3).2,
        )
        | inr k ↦ absurd (true≢false (sym (ap is_skipped k.2.0) ∙ unskipped))
      ]
    ]
  where
    told : (refused : Option LoanError) (one lent : Publisher T) (service after : Service T)
        → MatchOption refused
        (Sends choices publisher (record { number = one.next; sequence = None; values = values }) lent
        (with_publisher publisher lent service) answer after)
        (λ why. IsRefused (refusal.Send (error.LoanError why)) service answer after)
        → MatchOption refused ((why : LoanError) → answer ≡ reply.Refused (refusal.Send (error.LoanError why)) → ⊥)
        (λ why. answer ≡ reply.Refused (refusal.Send (error.LoanError why)))
    told None one lent service after sent =
        λ why same. true≢false (sym (ap loan_told same)
        ∙ sends-unlent choices publisher (record { number = one.next; sequence = None; values = values }) lent
        (with_publisher publisher lent service) answer after sent)
    told (Some why) one lent service after h = h.0

    ends : (refused : Option LoanError) (one lent : Publisher T) (service after : Service T)
        → at publisher service.publishers ≡ Some one → IsLeftBy (length values) refused one lent
        → MatchOption refused
        (Sends choices publisher (record { number = one.next; sequence = None; values = values }) lent
        (with_publisher publisher lent service) answer after)
        (λ why. IsRefused (refusal.Send (error.LoanError why)) service answer after)
        → (now : Publisher T) × (at publisher after.publishers ≡ Some now) × KeepsSegments lent now
    ends None one lent service after found left sent =
        sends-segments choices publisher (record { number = one.next; sequence = None; values = values }) lent
        (with_publisher publisher lent service) answer after (at-changed publisher lent one service.publishers found) sent
    ends (Some why) one lent service after found left h = (
      lent,
      ap (λ (end : Service T). at publisher end.publishers) h.1 ∙ (found ∙ ap (λ (it : Publisher T). Some it) (sym left)),
      (refl, refl, refl, refl, refl),
    )

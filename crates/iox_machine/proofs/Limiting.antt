-- What stays of loans and of their limits.
use Rattle.std.proofs.Common.{◌≡◌, ◌≤◌, ◌<◌, ◌+◌, ℕ, Bool, true, false, cond, not, List, [], ◌∷◌, ◌++◌, length}
use Rattle.std.proofs.Common.{Option, None, Some, refl, sym, ap, subst, inl, inr, arith, ◌∙◌, true≢false}
use Rattle.std.proofs.lemmas.Bool.{cases_Bool, eqb-false, eqb-true, or_parts}
use Rattle.std.specs.List.{AllByRecursion, list_any}
use Rattle.std.specs.Prelude.{◌==◌, filter, find, is_some, option_map}
use Rattle.iox_machine.proofs.Cases.{same-some}
use Rattle.iox_machine.proofs.Counted.{standing, times-append}
use Rattle.iox_machine.proofs.Counts.{one_if, times}
use Rattle.iox_machine.proofs.Delivering.{keeping, sending}
use Rattle.iox_machine.proofs.Lent.{lent-or-refused}
use Rattle.iox_machine.proofs.Lists.{all-at, all-changed, all-filtered, all-joined, all-weaker}
use Rattle.iox_machine.proofs.MoveForms.{Loud, Loudly, Quiets, Walk, has_port, is_port, is_write, writes_late}
use Rattle.iox_machine.proofs.MoveForms as move
use Rattle.iox_machine.proofs.MoveLaws.{Lasts, by-quiets}
use Rattle.iox_machine.proofs.Once.{AreSingle}
use Rattle.iox_machine.proofs.Shorthands.{with_publisher}
use Rattle.iox_machine.proofs.Tables.{at-appended, at-changed, at-changed-other, at-kept}
use Rattle.iox_machine.proofs.Totals.{total, total-part}
use Rattle.iox_machine.specs.LoanLaws.{IsLentOrRefused}
use Rattle.iox_machine.specs.Message.{Loan}
use Rattle.iox_machine.specs.NumberLaws.{numbers_in}
use Rattle.iox_machine.specs.Service.{Publisher, Service}
use Rattle.iox_machine.specs.State.{Factory}
use Rattle.iox_machine.specs.Table.{at, changed}
use Rattle.iox_command.specs.DomainValues.declared.port_error.LoanError.{LoanError}
use Rattle.iox_command.specs.DomainValues.declared.port_error.LoanError.TheVariants as lacking
use Rattle.iox_command.specs.declared.port.PublisherOptions.{PublisherOptions}

-- ---- loans by publisher

twice-filtered : {X : Type 0} (test keeps : X → Bool) (xs : List X) → length (filter test (filter keeps xs)) ≤ length (filter test xs)
twice-filtered test keeps [] = omega arith
twice-filtered {X} test keeps (x ∷ xs) = here (keeps x) (test x) refl (twice-filtered test keeps xs)
  where
    kept : List X
    kept = filter keeps xs

    same : (b : Bool) → length (filter test kept) ≤ length (filter test xs)
        → length (cond b (x ∷ filter test kept) (filter test kept)) ≤ length (cond b (x ∷ filter test xs) (filter test xs))
    same true on = omega (arith, on)
    same false on = on

    more : (b : Bool) → length (filter test kept) ≤ length (filter test xs)
        → length (filter test kept) ≤ length (cond b (x ∷ filter test xs) (filter test xs))
    more true on = omega (arith, on)
    more false on = on

    here : (b c : Bool) → test x ≡ c → length (filter test kept) ≤ length (filter test xs)
        → length (filter test (cond b (x ∷ kept) kept)) ≤ length (cond c (x ∷ filter test xs) (filter test xs))
    here true c is on =
        subst (λ (it : Bool). length (cond (test x) (x ∷ filter test kept) (filter test kept))
        ≤ length (cond it (x ∷ filter test xs) (filter test xs))) is (same (test x) on)
    here false c is on = more c on

pub nowhere : {V : Type 0} (number : ℕ) (table : List (ℕ × V)) → times number (numbers_in table) ≤ 0 → at number table ≡ None
nowhere number [] none = refl
nowhere {V} number (entry ∷ table) none = here (entry.0 == number) none (nowhere number table)
  where
    never : (r : ℕ) → 1 + r ≤ 0 → ⊥
    never r h = omega (arith, h)

    rest : (r : ℕ) → 0 + r ≤ 0 → r ≤ 0
    rest r h = omega (arith, h)

    here : (b : Bool) → one_if b + times number (numbers_in table) ≤ 0
        → (times number (numbers_in table) ≤ 0 → at number table ≡ None)
        → option_map (λ (it : ℕ × V). it.1) (cond b (Some entry) (find (λ (it : ℕ × V). it.0 == number) table)) ≡ None
    here true h on = absurd (never (times number (numbers_in table)) h)
    here false h on = on (rest (times number (numbers_in table)) h)

module _ {T : Type 0} where
  abbrev is_of : ℕ → ℕ × Loan T → Bool
  is_of number entry = entry.1.publisher == number

  abbrev out : ℕ → List (ℕ × Loan T) → ℕ
  out number loans = length (filter (is_of number) loans)

  -- By these limits of publishers no more loans are out than may be, and each loan is of one of these publishers.
  abbrev Good : (ℕ → Option ℕ) → List (ℕ × Loan T) → Type 0
  Good limit loans =
      AllByRecursion (λ (entry : ℕ × Loan T). is_some (limit entry.1.publisher) ≡ true) loans
      × ((number most : ℕ) → limit number ≡ Some most → out number loans ≤ most)

  abbrev pub most_of : Publisher T → ℕ
  most_of one = one.max_loaned_samples

  abbrev pub limits : Service T → ℕ → Option ℕ
  limits service number = option_map most_of (at number service.publishers)

  abbrev pub IsGood : Service T → Type 0
  IsGood service = Good (limits service) service.loans

  good-moved : (limit other : ℕ → Option ℕ) (loans : List (ℕ × Loan T)) → ((number : ℕ) → other number ≡ limit number) → Good limit loans
      → Good other loans
  good-moved limit other loans same good = (
    all-weaker (λ (entry : ℕ × Loan T). is_some (limit entry.1.publisher) ≡ true)
        (λ (entry : ℕ × Loan T). is_some (other entry.1.publisher) ≡ true)
        (λ entry is. ap is_some (same entry.1.publisher) ∙ is) loans good.0,
    (λ number most is. good.1 number most (sym (same number) ∙ is)),
  )

  pub good-fewer : (limit : ℕ → Option ℕ) (test : ℕ × Loan T → Bool) (loans : List (ℕ × Loan T)) → Good limit loans
      → Good limit (filter test loans)
  good-fewer limit test loans good = (
    all-filtered (λ (entry : ℕ × Loan T). is_some (limit entry.1.publisher) ≡ true) test loans good.0,
    (λ number most is. up (out number (filter test loans)) (out number loans) most (twice-filtered (is_of number) test loans)
        (good.1 number most is)),
  )
    where
      up : (x y z : ℕ) → x ≤ y → y ≤ z → x ≤ z
      up x y z h k = omega (arith, h, k)

  none-changed : (loan : ℕ) (now : Loan T) (table : List (ℕ × Loan T)) → times loan (numbers_in table) ≤ 0 → changed loan now table ≡ table
  none-changed loan now [] none = refl
  none-changed loan now (entry ∷ table) none = here (entry.0 == loan) none (none-changed loan now table)
    where
      never : (r : ℕ) → 1 + r ≤ 0 → ⊥
      never r h = omega (arith, h)

      rest : (r : ℕ) → 0 + r ≤ 0 → r ≤ 0
      rest r h = omega (arith, h)

      here : (b : Bool) → one_if b + times loan (numbers_in table) ≤ 0
          → (times loan (numbers_in table) ≤ 0 → changed loan now table ≡ table)
          → cond b (loan, now) entry ∷ changed loan now table ≡ entry ∷ table
      here true h on = absurd (never (times loan (numbers_in table)) h)
      here false h on = ap (λ (l : List (ℕ × Loan T)). entry ∷ l) (on (rest (times loan (numbers_in table)) h))

  out-written : (number loan : ℕ) (was now : Loan T) (table : List (ℕ × Loan T)) → now.publisher ≡ was.publisher → at loan table ≡ Some was
      → times loan (numbers_in table) ≤ 1 → out number (changed loan now table) ≡ out number table
  out-written number loan was now [] same found once = refl
  out-written number loan was now (entry ∷ table) same found once =
      here (entry.0 == loan) found once (out-written number loan was now table same)
    where
      only : (r : ℕ) → 1 + r ≤ 1 → r ≤ 0
      only r h = omega (arith, h)

      rest : (r : ℕ) → 0 + r ≤ 1 → r ≤ 1
      rest r h = omega (arith, h)

      longer : (b : Bool) (xs ys : List (ℕ × Loan T)) → length xs ≡ length ys
          → length (cond b (entry ∷ xs) xs) ≡ length (cond b (entry ∷ ys) ys)
      longer true xs ys is = omega (arith, is)
      longer false xs ys is = is

      other : (b : Bool) (xs : List (ℕ × Loan T)) → length (cond b ((loan, now) ∷ xs) xs) ≡ length (cond b (entry ∷ xs) xs)
      other true xs = omega arith
      other false xs = refl

      here : (b : Bool)
          → option_map (λ (it : ℕ × Loan T). it.1) (cond b (Some entry) (find (λ (it : ℕ × Loan T). it.0 == loan) table)) ≡ Some was
          → one_if b + times loan (numbers_in table) ≤ 1
          → (at loan table ≡ Some was → times loan (numbers_in table) ≤ 1 → out number (changed loan now table) ≡ out number table)
          → out number (cond b (loan, now) entry ∷ changed loan now table) ≡ out number (entry ∷ table)
      here true is h on =
          ap (λ (l : List (ℕ × Loan T)). out number ((loan, now) ∷ l))
          (none-changed loan now table (only (times loan (numbers_in table)) h))
          ∙ (ap (λ (n : ℕ). length (cond (n == number) ((loan, now) ∷ filter (is_of number) table) (filter (is_of number) table)))
          (same ∙ sym (ap (λ (it : Loan T). it.publisher) (same-some entry.1 was is)))
          ∙ other (entry.1.publisher == number) (filter (is_of number) table))
      here false is h on =
          longer (entry.1.publisher == number) (filter (is_of number) (changed loan now table)) (filter (is_of number) table)
          (on is (rest (times loan (numbers_in table)) h))

  good-written : (limit : ℕ → Option ℕ) (loan : ℕ) (was now : Loan T) (loans : List (ℕ × Loan T)) → now.publisher ≡ was.publisher
      → at loan loans ≡ Some was → times loan (numbers_in loans) ≤ 1 → Good limit loans → Good limit (changed loan now loans)
  good-written limit loan was now loans same found once good = (
    all-changed Is loan now loans
        (subst (λ (n : ℕ). is_some (limit n) ≡ true) (sym same) (all-at Is loan was loans found good.0)) good.0,
    (λ number most is. subst (λ (n : ℕ). n ≤ most) (sym (out-written number loan was now loans same found once)) (good.1 number most is)),
  )
    where
      Is : ℕ → Loan T → Type 0
      Is number one = is_some (limit one.publisher) ≡ true

  out-joined : (number : ℕ) (loans : List (ℕ × Loan T)) (entry : ℕ × Loan T)
      → out number (loans ++ entry ∷ []) ≡ out number loans + one_if (entry.1.publisher == number)
  out-joined number [] entry = here (entry.1.publisher == number)
    where
      here : (b : Bool) → length (cond b (entry ∷ []) []) ≡ 0 + one_if b
      here true = omega arith
      here false = omega arith
  out-joined number (one ∷ more) entry = here (one.1.publisher == number) (out-joined number more entry)
    where
      here : (b : Bool) → out number (more ++ entry ∷ []) ≡ out number more + one_if (entry.1.publisher == number)
          → length (cond b (one ∷ filter (is_of number) (more ++ entry ∷ [])) (filter (is_of number) (more ++ entry ∷ [])))
          ≡ length (cond b (one ∷ filter (is_of number) more) (filter (is_of number) more)) + one_if (entry.1.publisher == number)
      here true on = omega (arith, on)
      here false on = on

  good-lent : (limit : ℕ → Option ℕ) (entry : ℕ × Loan T) (most : ℕ) (loans : List (ℕ × Loan T)) → limit entry.1.publisher ≡ Some most
      → out entry.1.publisher loans < most → Good limit loans → Good limit (loans ++ entry ∷ [])
  good-lent limit entry most loans is few good = (
    all-joined (λ (it : ℕ × Loan T). is_some (limit it.1.publisher) ≡ true) loans (entry ∷ []) good.0 (ap is_some is, tt),
    (λ number other said. subst (λ (n : ℕ). n ≤ other) (sym (out-joined number loans entry))
        (here number other said (entry.1.publisher == number) refl)),
  )
    where
      one_more : (x m : ℕ) → x < m → x + 1 ≤ m
      one_more x m h = omega (arith, h)

      none_more : (x m : ℕ) → x ≤ m → x + 0 ≤ m
      none_more x m h = omega (arith, h)

      here : (number other : ℕ) → limit number ≡ Some other → (b : Bool) → (entry.1.publisher == number) ≡ b
          → out number loans + one_if b ≤ other
      here number other said true same =
          subst (λ (n : ℕ). out n loans + 1 ≤ other) (eqb-true entry.1.publisher number same)
          (subst (λ (m : ℕ). out entry.1.publisher loans + 1 ≤ m)
          (same-some most other (sym is ∙ (ap limit (eqb-true entry.1.publisher number same) ∙ said)))
          (one_more (out entry.1.publisher loans) most few))
      here number other said false off = none_more (out number loans) other (good.1 number other said)

  out-none : (limit : ℕ → Option ℕ) (number : ℕ) (loans : List (ℕ × Loan T)) → limit number ≡ None
      → AllByRecursion (λ (entry : ℕ × Loan T). is_some (limit entry.1.publisher) ≡ true) loans → out number loans ≡ 0
  out-none limit number [] none all = refl
  out-none limit number (entry ∷ more) none all = here (entry.1.publisher == number) refl (out-none limit number more none all.1)
    where
      here : (b : Bool) → (entry.1.publisher == number) ≡ b → out number more ≡ 0
          → length (cond b (entry ∷ filter (is_of number) more) (filter (is_of number) more)) ≡ 0
      here true same on =
          absurd (true≢false (sym all.0 ∙ ap is_some (ap limit (eqb-true entry.1.publisher number same) ∙ none)))
      here false off on = on

  -- ---- what stays of limits and loans

  abbrev pub Still : Service T → Service T → Type 0
  Still old new = ((number : ℕ) → limits new number ≡ limits old number) × (new.loans ≡ old.loans)

  still-itself : (service : Service T) → Still service service
  still-itself service = ((λ number. refl), refl)

  still-both : (one two three : Service T) → Still one two → Still two three → Still one three
  still-both one two three h k = ((λ number. k.0 number ∙ h.0 number), k.1 ∙ h.1)

  pub still-good : (old new : Service T) → Still old new → IsGood old → IsGood new
  still-good old new still good =
      subst (Good (limits new)) (sym still.1) (good-moved (limits old) (limits new) old.loans still.0 good)

  pub still-set : (number : ℕ) (was after : Publisher T) (service : Service T) → at number service.publishers ≡ Some was
      → after.max_loaned_samples ≡ was.max_loaned_samples → Still service (with_publisher number after service)
  still-set number was after service found same = (
    (λ other. elim (cases_Bool (other == number)) [
      | inl is ↦ subst (λ (k : ℕ). limits (with_publisher number after service) k ≡ limits service k) (sym (eqb-true other number is))
          (ap (option_map most_of) (at-changed number after was service.publishers found)
          ∙ (ap (λ (n : ℕ). Some n) same ∙ sym (ap (option_map most_of) found)))
      | inr off ↦ ap (option_map most_of) (at-changed-other number other after service.publishers (eqb-false other number off))
    ]),
    refl,
  )

  still-lasts : Lasts Still
  still-lasts = record {
    none = still-itself;
    both = still-both;
    boxed = λ boxes service. still-itself service;
    alike = λ number was after service found is. still-set number was after service found (ap most_of is);
    turned = λ number was after service found is. still-itself service;
  }

  lent-few : (number count : ℕ) (one : Publisher T) (service : Service T) → IsLentOrRefused number one service count None
      → out number service.loans < one.max_loaned_samples
  lent-few number count one service (inl (longer, static, told)) = absurd (differ told)
    where
      differ : ◌≡◌ {A = Option LoanError} None (Some lacking.ExceedsMaxLoanSize) → ⊥
      differ e = cc
  lent-few number count one service (inr (inl (longer, many, told))) = absurd (differ told)
    where
      differ : ◌≡◌ {A = Option LoanError} None (Some lacking.ExceedsMaxLoans) → ⊥
      differ e = cc
  lent-few number count one service (inr (inr (inl h))) = h.0
  lent-few number count one service (inr (inr (inr h))) = h.0

  -- ---- ports that come

  -- a publisher more has a limit
  good-appended : (number : ℕ) (one : Publisher T) (service : Service T) → IsGood service
      → IsGood (record service { publishers = service.publishers ++ (number, one) ∷ [] })
  good-appended number one service good = (
    all-weaker (λ (entry : ℕ × Loan T). is_some (limits service entry.1.publisher) ≡ true)
        (λ (entry : ℕ × Loan T). is_some (limits more entry.1.publisher) ≡ true)
        (λ entry is. there entry.1.publisher (at entry.1.publisher service.publishers) refl is) service.loans good.0,
    (λ n most is. here n most is (at n service.publishers) refl),
  )
    where
      more : Service T
      more = record service { publishers = service.publishers ++ (number, one) ∷ [] }

      kept : (n : ℕ) (was : Publisher T) → at n service.publishers ≡ Some was → limits more n ≡ Some (most_of was)
      kept n was found = ap (option_map most_of) (at-kept n was service.publishers ((number, one) ∷ []) found)

      there : (n : ℕ) (o : Option (Publisher T)) → at n service.publishers ≡ o → is_some (limits service n) ≡ true
          → is_some (limits more n) ≡ true
      there n None found is = absurd (true≢false (sym is ∙ ap (λ (it : Option (Publisher T)). is_some (option_map most_of it)) found))
      there n (Some was) found is = ap is_some (kept n was found)

      here : (n most : ℕ) → limits more n ≡ Some most → (o : Option (Publisher T)) → at n service.publishers ≡ o
          → out n service.loans ≤ most
      here n most is None found =
          subst (λ (k : ℕ). k ≤ most) (sym (out-none (limits service) n service.loans (ap (option_map most_of) found) good.0)) (omega arith)
      here n most is (Some was) found =
          good.1 n most (ap (option_map most_of) found ∙ (sym (kept n was found) ∙ is))

  -- ---- each move

  good-loud : (factories : List (ℕ × Factory)) (one : Loud T) (old new : Service T) → is_port one ≡ false
      → (is_write one ≡ true → AreSingle old) → Loudly factories one old new → IsGood old → IsGood new
  good-loud factories (move.Lends number was after loan one) old new beside single
      (found, up, ((room, segments, first, grown, is), (count, lent, whole)), by, next, came) good =
      let mid : Service T = with_publisher number after old in
      let on : Still old mid = still-set number was after old found (ap most_of is) in
      subst IsGood (sym came)
      (good-lent (limits mid) (loan, one) was.max_loaned_samples old.loans
      (ap (limits mid) by ∙ (on.0 number ∙ ap (option_map most_of) found))
      (subst (λ (n : ℕ). out n old.loans < was.max_loaned_samples) (sym by)
      (lent-few number count was old (lent-or-refused number was old count None after lent))) (still-good old mid on good))
  good-loud factories (move.Numbers number was after) old new beside single (found, (room, segments, first, grown, is), came) good =
      subst IsGood (sym came)
      (still-good old (with_publisher number after old) (still-set number was after old found (ap most_of is)) good)
  good-loud factories (move.Writes loan one values) old new beside single (found, came) good =
      subst IsGood (sym came)
      (good-written (limits old) loan one (record one { values = values }) old.loans refl found (single refl loan) good)
  good-loud factories (move.Spends loan one) old new beside single (found, came) good =
      subst IsGood (sym came) (good-fewer (limits old) (λ (entry : ℕ × Loan T). not (entry.0 == loan)) old.loans good)
  good-loud factories (move.Begins number one message) old new beside single (found, free, came) good =
      let begun : Publisher T = record (keeping message one old) { blocked = Some (sending message one) } in
      subst IsGood (sym came) (still-good old (with_publisher number begun old) (still-set number one begun old found refl) good)
  good-loud factories (move.Takes number sample) old new beside single (one, first, came) good = subst IsGood (sym came) good
  good-loud factories (move.Releases number sample) old new beside single (found, came) good = subst IsGood (sym came) good
  good-loud factories other old new beside single did good = absurd (true≢false beside)

  pub good-port : (factories : List (ℕ × Factory)) (one : Loud T) (old new : Service T) → is_port one ≡ true
      → ((place number : ℕ) (options : PublisherOptions) (it after : Publisher T) → one ≡ move.Publishes place number options it after
      → at number old.publishers ≡ None) → Loudly factories one old new → IsGood old → IsGood new
  good-port factories (move.Publishes place number options one after) old new is fresh (open_one, follows, turned, came) good =
      let more : Service T = record old { publishers = old.publishers ++ (number, one) ∷ [] } in
      subst IsGood (sym came)
      (still-good more (with_publisher number after more)
      (still-set number one after more
      (at-appended number one old.publishers (fresh place number options one after refl)) (ap most_of turned))
      (good-appended number one old good))
  good-port factories (move.Subscribes buffer place number options one after) old new is fresh (open_one, follows, turned, came) good =
      subst IsGood (sym came) good
  good-port factories (move.Unpublishes number one) old new is fresh (found, came) good =
      subst IsGood (sym came)
      (still-good old (with_publisher number (record one { stands = false }) old)
      (still-set number one (record one { stands = false }) old found refl) good)
  good-port factories (move.Unsubscribes number one) old new is fresh (found, came) good = subst IsGood (sym came) good
  good-port factories other old new is fresh did good = absurd (true≢false (sym is))

  quiets-good : (old new : Service T) → Quiets old new → IsGood old → IsGood new
  quiets-good old new h good = still-good old new (by-quiets Still still-lasts old new h) good

  unwritten-good : (factories : List (ℕ × Factory)) (loud : List (Loud T)) (old new : Service T) → has_port loud ≡ false
      → list_any is_write loud ≡ false → Walk factories loud old new → IsGood old → IsGood new
  unwritten-good factories [] old new beside none h good = quiets-good old new h good
  unwritten-good factories (one ∷ more) old new beside none h good =
      let parts : (is_port one ≡ false) × (has_port more ≡ false) = or_parts (is_port one) (has_port more) beside in
      let writes : (is_write one ≡ false) × (list_any is_write more ≡ false) = or_parts (is_write one) (list_any is_write more) none in
      unwritten-good factories more h.1 new parts.1 writes.1 h.4
      (good-loud factories one h.0 h.1 parts.0 (λ is. absurd (true≢false (sym is ∙ writes.0))) h.3 (quiets-good old h.0 h.2 good))

  pub walk-good : (factories : List (ℕ × Factory)) (loud : List (Loud T)) (old new : Service T) → has_port loud ≡ false
      → writes_late loud ≡ false → AreSingle old → Walk factories loud old new → IsGood old → IsGood new
  walk-good factories [] old new beside early single h good = quiets-good old new h good
  walk-good factories (one ∷ more) old new beside early single h good =
      let parts : (is_port one ≡ false) × (has_port more ≡ false) = or_parts (is_port one) (has_port more) beside in
      let on : Still old h.0 = by-quiets Still still-lasts old h.0 h.2 in
      unwritten-good factories more h.1 new parts.1 early h.4
      (good-loud factories one h.0 h.1 parts.0
      (λ is loan. subst (λ (l : List (ℕ × Loan T)). times loan (numbers_in l) ≤ 1) (sym on.1) (single loan)) h.3
      (still-good old h.0 on good))

  -- ---- numbers that are there once

  standing-total : {V : Type 0} (table : Service T → List (ℕ × V)) (number : ℕ) (services : List (Service T))
      → times number (standing table services) ≡ total (λ (service : Service T). times number (numbers_in (table service))) services
  standing-total table number [] = refl
  standing-total table number (service ∷ more) =
      times-append number (numbers_in (table service)) (standing table more)
      ∙ ap (λ (n : ℕ). times number (numbers_in (table service)) + n) (standing-total table number more)

  pub there-few : {V : Type 0} (table : Service T → List (ℕ × V)) (number most : ℕ) (has : Service T → Bool) (service : Service T)
      (services : List (Service T)) → find has services ≡ Some service → times number (standing table services) ≤ most
      → times number (numbers_in (table service)) ≤ most
  there-few table number most has service services first few =
      within (times number (numbers_in (table service))) (times number (standing table services))
      (total (λ (it : Service T). times number (numbers_in (table it))) services)
      (total-part (λ (it : Service T). times number (numbers_in (table it))) has service services first)
      (standing-total table number services) few
    where
      within : (x y z : ℕ) → x ≤ z → y ≡ z → y ≤ most → x ≤ most
      within x y z h is k = omega (arith, h, is, k)

-- The slots of the worst case are enough for what may be in use.
use Rattle.std.proofs.Common.{◌≡◌, ◌≤◌, ◌<◌, ◌⊎◌, ◌+◌, ◌*◌, ℕ, suc, Bool, true, false, cond, ◌&&◌, List, [], ◌∷◌, ◌++◌, length, map, Option}
use Rattle.std.proofs.Common.{None, Some, refl, sym, ap, subst, inl, inr, arith, ◌∙◌, length-append}
use Rattle.std.proofs.lemmas.Bool.{cases_Bool, leb-false, leb-true, ltb-false, ltb-true}
use Rattle.std.proofs.lemmas.List.{length-map}
use Rattle.std.proofs.lemmas.Nat.{mul-le}
use Rattle.std.specs.Prelude.{filter, find, flat_map, is_some, max, min, nat_le, nat_lt, unwrap_or, MatchBool, MatchOption}
use Rattle.iox_machine.proofs.Cases.{by-option}
use Rattle.iox_machine.proofs.Frames.{publisher-stands}
use Rattle.iox_machine.proofs.Lists.{all-at, filter-fits}
use Rattle.iox_machine.proofs.Moving.{at-one}
use Rattle.iox_machine.proofs.Runs.{all-found}
use Rattle.iox_machine.proofs.Shorthands.{AtFree, IsSkipped, LendsLonger, is_static}
use Rattle.iox_machine.proofs.Sized.{sizes-agreed}
use Rattle.iox_machine.specs.Arriving.{worst_case}
use Rattle.iox_machine.specs.Choices.{Choices}
use Rattle.iox_machine.specs.Lending.{Lends, how_many, in_use, loans_of}
use Rattle.iox_machine.specs.Mailbox.{Mailbox}
use Rattle.iox_machine.specs.Message.{Loan, Message}
use Rattle.iox_machine.specs.Ports.{LendsLoan, publisher_in}
use Rattle.iox_machine.specs.Run.{Step}
use Rattle.iox_machine.specs.RunLaws.{CameAs, IsSizedAs, IsWithinSizes}
use Rattle.iox_machine.specs.Service.{Publisher, Service, Subscriber, mailbox}
use Rattle.iox_machine.specs.State.{State, new_state}
use Rattle.iox_machine.specs.Table.{at, contains}
use Rattle.iox_machine.specs.WorstCaseLaws.{WorstCaseIsEnough, subscribers_met}
use Rattle.iox_command.specs.DomainValues.declared.port_error.LoanError.{LoanError}
use Rattle.iox_command.specs.DomainValues.declared.port_error.LoanError.TheVariants as lacking
use Rattle.iox_command.specs.declared.command.Command.TheVariants as command
use Rattle.iox_command.specs.declared.port.PublisherOptions.{PublisherOptions}
use Rattle.iox_command.specs.declared.refusal.Refusal.TheVariants as refusal
use Rattle.iox_command.specs.declared.reply.Reply.{Reply}
use Rattle.iox_command.specs.declared.reply.Reply.TheVariants as reply

-- ---- how many are in use

many-fit : (xs : List ℕ) → how_many xs ≤ length xs
many-fit [] = omega arith
many-fit (x ∷ xs) = here (contains xs x) (many-fit xs)
  where
    here : (b : Bool) → how_many xs ≤ length xs → cond b (how_many xs) (1 + how_many xs) ≤ length (x ∷ xs)
    here true on = omega (arith, on)
    here false on = omega (arith, on)

module _ {T : Type 0} (number : ℕ) (service : Service T) where
  abbrev met_at : ℕ × Subscriber → ℕ
  met_at entry = length (mailbox number entry.0 service).waiting + length (mailbox number entry.0 service).borrowed

  abbrev messages_at : ℕ × Subscriber → List (Message T)
  messages_at entry = (mailbox number entry.0 service).waiting ++ (mailbox number entry.0 service).borrowed

  -- how many wait or are borrowed at these subscribers
  abbrev sum_at : List (ℕ × Subscriber) → ℕ
  sum_at [] = 0
  sum_at (entry ∷ more) = met_at entry + sum_at more

  flat-length : (entries : List (ℕ × Subscriber)) → length (flat_map messages_at entries) ≡ sum_at entries
  flat-length [] = refl
  flat-length (entry ∷ more) =
      length-append (messages_at entry) (flat_map messages_at more)
      ∙ both (length (messages_at entry)) (met_at entry) (length (flat_map messages_at more)) (sum_at more)
      (length-append (mailbox number entry.0 service).waiting (mailbox number entry.0 service).borrowed) (flat-length more)
    where
      both : (a b c d : ℕ) → a ≡ b → c ≡ d → a + c ≡ b + d
      both a b c d h k = omega (arith, h, k)

  sum-fits : (most : ℕ) → ((entry : ℕ × Subscriber) → met_at entry ≤ most) → (entries : List (ℕ × Subscriber))
      → sum_at entries ≤ length (filter (λ (entry : ℕ × Subscriber). nat_lt 0 (met_at entry)) entries) * most
  sum-fits most few [] = omega arith
  sum-fits most few (entry ∷ more) =
      here (nat_lt 0 (met_at entry)) refl (filter (λ (it : ℕ × Subscriber). nat_lt 0 (met_at it)) more) (sum-fits most few more)
    where
      one-more : (k : ℕ) → suc k * most ≡ most + k * most
      one-more k = omega arith

      sum : (a s k r : ℕ) → a ≤ most → s ≤ k → r ≡ most + k → a + s ≤ r
      sum a s k r h l m = omega (arith, h, l, m)

      none : (a s k : ℕ) → a ≤ 0 → s ≤ k → a + s ≤ k
      none a s k h l = omega (arith, h, l)

      here : (b : Bool) → nat_lt 0 (met_at entry) ≡ b → (rest : List (ℕ × Subscriber)) → sum_at more ≤ length rest * most
          → met_at entry + sum_at more ≤ length (cond b (entry ∷ rest) rest) * most
      here true is rest on =
          sum (met_at entry) (sum_at more) (length rest * most) (length (entry ∷ rest) * most) (few entry) on (one-more (length rest))
      here false is rest on =
          none (met_at entry) (sum_at more) (length rest * most) (ltb-false 0 (met_at entry) is) on

  in-use-fits : (one : Publisher T) → how_many (filter (nat_le one.first) (in_use number one service))
      ≤ length (loans_of number service) + (length one.history + sum_at service.subscribers)
  in-use-fits one =
      within (how_many counted) (length counted) (length (in_use number one service)) (length loaned) (length (loans_of number service))
      (length told) (length messages) (length one.history) (length (flat_map messages_at service.subscribers))
      (sum_at service.subscribers) (many-fit counted) (filter-fits (nat_le one.first) (in_use number one service))
      (length-append loaned told) (length-map (loans_of number service) (λ (loan : Loan T). loan.number))
      (length-map messages (λ (message : Message T). message.number))
      (length-append one.history (flat_map messages_at service.subscribers)) (flat-length service.subscribers)
    where
      counted : List ℕ
      counted = filter (nat_le one.first) (in_use number one service)

      loaned : List ℕ
      loaned = map (λ (loan : Loan T). loan.number) (loans_of number service)

      messages : List (Message T)
      messages = one.history ++ flat_map messages_at service.subscribers

      told : List ℕ
      told = map (λ (message : Message T). message.number) messages

      within : (m c u l a t n h f s : ℕ) → m ≤ c → c ≤ u → u ≡ l + t → l ≡ a → t ≡ n → n ≡ h + f → f ≡ s → m ≤ a + (h + s)
      within m c u l a t n h f s p q r v w x y = omega (arith, p, q, r, v, w, x, y)

-- ---- why a loan is refused for memory

module _ {T : Type 0} where
  abbrev lacks : Reply T
  lacks = reply.Refused (refusal.Loan lacking.OutOfMemory)

  abbrev why_told : Reply T → Option LoanError
  why_told (reply.Refused (refusal.Loan why)) = Some why
  why_told other = None

  abbrev Lacks : ℕ → ℕ → Publisher T → Service T → Type 0
  Lacks number count one service =
      (one.room < count)
      ⊎ ((length (loans_of number service) < one.max_loaned_samples)
      × (one.slots ≤ how_many (filter (nat_le one.first) (in_use number one service))))

  lends-lacking : (number count : ℕ) (one : Publisher T) (service : Service T) (after : Publisher T)
      → Lends number count one service (Some lacking.OutOfMemory) after → Lacks number count one service
  lends-lacking number count one service after h =
      here (nat_lt one.room count) (is_static one.allocation) (nat_le one.max_loaned_samples (length (loans_of number service)))
      (nat_le count one.room) (nat_le one.slots (how_many (filter (nat_le one.first) (in_use number one service)))) refl refl refl refl h
    where
      other : ◌≡◌ {A = Option LoanError} (Some lacking.OutOfMemory) (Some lacking.ExceedsMaxLoans) → ⊥
      other e = cc

      none : ◌≡◌ {A = Option LoanError} (Some lacking.OutOfMemory) None → ⊥
      none e = cc

      here : (long static many short full : Bool) → nat_lt one.room count ≡ long
          → nat_le one.max_loaned_samples (length (loans_of number service)) ≡ many → nat_le count one.room ≡ short
          → nat_le one.slots (how_many (filter (nat_le one.first) (in_use number one service))) ≡ full
          → MatchOption (cond (long && static) (Some lacking.ExceedsMaxLoanSize) (cond many (Some lacking.ExceedsMaxLoans)
          (cond (short && full) (Some lacking.OutOfMemory) None)))
          (MatchBool long (LendsLonger number count one (Some lacking.OutOfMemory) after)
          ((Some lacking.OutOfMemory ≡ None) × (after ≡ record one { next = one.next + 1 })))
          (λ why. (Some lacking.OutOfMemory ≡ Some why) × (after ≡ one))
          → Lacks number count one service
      here true static many short full l m f k did = inl (ltb-true one.room count l)
      here false static true short full l m f k did = absurd (other did.0)
      here false static false true true l m f k did =
          inr (
            leb-false one.max_loaned_samples (length (loans_of number service)) m,
            leb-true one.slots (how_many (filter (nat_le one.first) (in_use number one service))) k,
          )
      here false static false true false l m f k did = absurd (none did.0)
      here false static false false full l m f k did = inl (leb-false count one.room f)

  loan-lacking : (publisher count next : ℕ) (value : Option T) (old new : State T)
      → AtFree publisher (LendsLoan next publisher count value) old lacks new
      → (service : Service T) × (one : Publisher T)
      × (find (λ (other : Service T). is_some (publisher_in publisher other)) old.services ≡ Some service)
      × (publisher_in publisher service ≡ Some one) × Lacks publisher count one service
  loan-lacking publisher count next value old new h =
      elim (at-one (publisher_in publisher)
      (λ (one : Publisher T) (service : Service T) (told : Reply T) (after : Service T). MatchOption one.blocked
      (LendsLoan next publisher count value one service told after) (λ send. IsSkipped service told after)) old lacks new h) [
        | inl w ↦ absurd (differ (ap why_told w.0))
        | inr w ↦ elim (by-option w.1.blocked (LendsLoan next publisher count value w.1 w.0 lacks w.2)
            (λ send. IsSkipped w.0 lacks w.2) w.5) [
              | inl k ↦ (w.0, w.1, w.3, w.4, refuses w.1 w.0 w.2 k.1)
              | inr k ↦ absurd (differ (ap why_told k.2.0))
            ]
      ]
    where
      differ : ◌≡◌ {A = Option LoanError} (Some lacking.OutOfMemory) None → ⊥
      differ e = cc

      refuses : (one : Publisher T) (service after : Service T) → LendsLoan next publisher count value one service lacks after
          → Lacks publisher count one service
      refuses one service after (None, lent, lends, (told, came)) = absurd (differ (ap why_told told))
      refuses one service after (Some why, lent, lends, (told, same)) =
          lends-lacking publisher count one service lent
          (subst (λ (o : Option LoanError). Lends publisher count one service o lent) (sym (ap why_told told)) lends)

  -- ---- the law

  box-few : (publisher : ℕ) (service : Service T) (Named : ℕ → PublisherOptions → Type 0) → IsWithinSizes Named service
      → (entry : ℕ × Subscriber) → met_at publisher service entry
      ≤ service.settings.subscriber_max_buffer_size + service.settings.subscriber_max_borrowed_samples
  box-few publisher service Named sizes entry = here (service.mailboxes publisher entry.0) (sizes.0 publisher entry.0)
    where
      most : ℕ
      most = service.settings.subscriber_max_buffer_size + service.settings.subscriber_max_borrowed_samples

      sum : (w l b x y : ℕ) → w ≤ l → l ≤ x → b ≤ y → w + b ≤ x + y
      sum w l b x y h k m = omega (arith, h, k, m)

      here : (o : Option (Mailbox T))
          → ((box : Mailbox T) → o ≡ Some box → (length box.waiting ≤ box.limit) × (box.limit ≤ service.settings.subscriber_max_buffer_size)
          × (length box.borrowed ≤ service.settings.subscriber_max_borrowed_samples))
          → length (unwrap_or o (record { limit = 0; waiting = []; borrowed = [] })).waiting
          + length (unwrap_or o (record { limit = 0; waiting = []; borrowed = [] })).borrowed ≤ most
      here None on = omega arith
      here (Some box) on =
          let fits = on box refl in
          sum (length box.waiting) box.limit (length box.borrowed) service.settings.subscriber_max_buffer_size
          service.settings.subscriber_max_borrowed_samples fits.0 fits.1 fits.2

  enough : (publisher count : ℕ) (service : Service T) (one : Publisher T) (named : PublisherOptions)
      (Named : ℕ → PublisherOptions → Type 0) → IsWithinSizes Named service → length one.history ≤ service.settings.history_size
      → IsSizedAs named service.settings one → Lacks publisher count one service
      → (one.room < count)
      ⊎ ((is_some named.preallocated_samples ≡ true) ⊎ (service.settings.max_subscribers < subscribers_met publisher service))
  enough publisher count service one named Named sizes kept sized (inl longer) = inl longer
  enough publisher count service one named Named sizes kept sized (inr (few, full)) =
      inr (here named.preallocated_samples refl)
    where
      most : ℕ
      most = service.settings.subscriber_max_buffer_size + service.settings.subscriber_max_borrowed_samples

      loans : ℕ
      loans = unwrap_or named.max_loaned_samples 2

      clash : (u a h s p slots w : ℕ) → slots ≤ u → u ≤ a + (h + s) → s ≤ p → h ≤ service.settings.history_size → a < loans
          → slots ≡ max 1 (min w w) → w ≡ p + (service.settings.history_size + loans) → ⊥
      clash u a h s p slots w c d e f g i j = omega (arith, c, d, e, f, g, i, j)

      never : one.slots ≡ max 1 (min (worst_case service.settings loans) (worst_case service.settings loans))
          → subscribers_met publisher service ≤ service.settings.max_subscribers → ⊥
      never slots met =
          clash (how_many (filter (nat_le one.first) (in_use publisher one service))) (length (loans_of publisher service))
          (length one.history) (sum_at publisher service service.subscribers) (service.settings.max_subscribers * most) one.slots
          (worst_case service.settings loans) full (in-use-fits publisher service one)
          (up (sum_at publisher service service.subscribers) (subscribers_met publisher service * most)
          (service.settings.max_subscribers * most)
          (sum-fits publisher service most (box-few publisher service Named sizes) service.subscribers)
          (mul-le (subscribers_met publisher service) most service.settings.max_subscribers most met (omega arith)))
          kept (subst (λ (n : ℕ). length (loans_of publisher service) < n) sized.0 few) slots refl
        where
          up : (x y z : ℕ) → x ≤ y → y ≤ z → x ≤ z
          up x y z h k = omega (arith, h, k)

      here : (o : Option ℕ) → named.preallocated_samples ≡ o
          → (is_some named.preallocated_samples ≡ true) ⊎ (service.settings.max_subscribers < subscribers_met publisher service)
      here (Some slots) is = inl (ap is_some is)
      here None is =
          elim (cases_Bool (nat_lt service.settings.max_subscribers (subscribers_met publisher service))) [
            | inl more ↦ inr (ltb-true service.settings.max_subscribers (subscribers_met publisher service) more)
            | inr fewer ↦ absurd (never
                (sized.1 ∙ ap (λ (it : Option ℕ). max 1 (min (worst_case service.settings loans)
                (unwrap_or it (worst_case service.settings loans)))) is)
                (ltb-false service.settings.max_subscribers (subscribers_met publisher service) fewer))
          ]

pub worst-case-is-enough : {T : Type 0} (choices : Choices T) → WorstCaseIsEnough choices
worst-case-is-enough {T} choices types buffer asked answers old run publisher count new h = tells (lacked h)
  where
    Named : ℕ → PublisherOptions → Type 0
    Named number named = CameAs types choices buffer number named asked new_state answers old run

    Found : Type 0
    Found =
        (service : Service T) × (one : Publisher T)
        × (find (λ (other : Service T). is_some (publisher_in publisher other)) old.services ≡ Some service)
        × (publisher_in publisher service ≡ Some one) × Lacks publisher count one service

    lacked : Step types choices buffer (command.Loan publisher count) old lacks new
        ⊎ Step types choices buffer (command.LoanUninit publisher count) old lacks new → Found
    lacked (inl h) = loan-lacking publisher count (old.made.loans + 1) (Some h.0) old new h.2
    lacked (inr h) = loan-lacking publisher count (old.made.loans + 1) None old new h

    tells : Found → (service : Service T) × (one : Publisher T) × (named : PublisherOptions)
        × (find (λ (other : Service T). is_some (publisher_in publisher other)) old.services ≡ Some service)
        × (publisher_in publisher service ≡ Some one)
        × CameAs types choices buffer publisher named asked new_state answers old run
        × ((one.room < count) ⊎ ((is_some named.preallocated_samples ≡ true)
        ⊎ (service.settings.max_subscribers < subscribers_met publisher service)))
    tells (service, one, first, there, why) =
        let sizes : IsWithinSizes Named service =
        all-found (IsWithinSizes Named) (λ (other : Service T). is_some (publisher_in publisher other)) old.services service first
        (sizes-agreed choices types buffer asked answers old run) in
        let known : at publisher service.publishers ≡ Some one = publisher-stands publisher service one there in
        let kept : length one.history ≤ service.settings.history_size =
        all-at (λ (number : ℕ) (it : Publisher T). length it.history ≤ service.settings.history_size) publisher one service.publishers
        known sizes.1 in
        let sized : (named : PublisherOptions) × Named publisher named × IsSizedAs named service.settings one =
        all-at (λ (number : ℕ) (it : Publisher T). (named : PublisherOptions) × Named number named
        × IsSizedAs named service.settings it) publisher one service.publishers known sizes.7 in (
          service,
          one,
          sized.0,
          first,
          there,
          sized.1,
          enough publisher count service one sized.0 Named sizes kept sized.2 why,
        )

-- What the commands of ports change of the numbers of ports, loans and samples.
use Rattle.std.proofs.Common.{arith, ◌≡◌, ◌≤◌, ◌+◌, ℕ, Bool, true, false, Option, None, Some, Result, Ok, Err, inl, inr, refl}
use Rattle.std.specs.declared.alloc.AllocError.{AllocError}
use Rattle.iox_delivery.specs.declared.port_id.PortId.{PortId}
use Rattle.iox_delivery.specs.Domain.declared.domain_id.DomainId.{DomainId}
use Rattle.iox_delivery.specs.DomainPorts.declared.attached.Taken.{Taken}
use Rattle.iox_command.specs.DomainValues.declared.port_error.LoanError.{LoanError}
use Rattle.iox_command.specs.DomainValues.declared.port_error.ReceiveError.{ReceiveError}
use Rattle.iox_hub_commands.specs.Growing.{GrowsFirst}
use Rattle.iox_hub_commands.specs.Making.{NumbersPort, with_publisher, with_subscriber}
use Rattle.iox_hub_commands.specs.Numbering.{NumbersLoan, NumbersSample, removed_if}
use Rattle.iox_hub_commands.specs.Tables.{IsRoomier, without_publisher, without_subscriber, without_loan, without_sample}
use Rattle.iox_hub_commands.specs.declared.ports.made.Made.{Made}
use Rattle.iox_hub_commands.specs.Lives.{AllStay, OneChanges}
use Rattle.iox_hub_commands.proofs.GoingOn.{stay_longer, stays_and_changes, one_more}

-- the numbers of ports, loans and samples that come next, all together
abbrev pub made_numbers : Made → ℕ
made_numbers made = made.publishers.next + (made.subscribers.next + (made.loans.next + made.samples.next))

pub all_stay : (made after : Made) → after ≡ made → AllStay made after
all_stay made after is = rw is ((refl, refl), (refl, refl), (refl, refl), (refl, refl))

-- what was made is the same
pub none_changes : (made after : Made) → after ≡ made → OneChanges made after
none_changes made after is = rw is (inl (inl (refl, refl), (refl, refl), (refl, refl), (refl, refl)))

-- a number is spent
pub publisher_spent : (done : Bool) (number : ℕ) (made after : Made) → after ≡ removed_if done (without_publisher number) made
    → OneChanges made after
publisher_spent true number made after is = rw is (inl (inr (inr (number, refl, refl)), (refl, refl), (refl, refl), (refl, refl)))
publisher_spent false number made after is = none_changes made after is

pub subscriber_spent : (done : Bool) (number : ℕ) (made after : Made) → after ≡ removed_if done (without_subscriber number) made
    → OneChanges made after
subscriber_spent true number made after is = rw is (inr (inl ((refl, refl), inr (inr (number, refl, refl)), (refl, refl), (refl, refl))))
subscriber_spent false number made after is = none_changes made after is

pub loan_spent : (done : Bool) (number : ℕ) (made after : Made) → after ≡ removed_if done (without_loan number) made → OneChanges made after
loan_spent true number made after is = rw is (inr (inr (inl ((refl, refl), (refl, refl), inr (inr (number, refl, refl)), (refl, refl)))))
loan_spent false number made after is = none_changes made after is

pub sample_spent : (done : Bool) (number : ℕ) (made after : Made) → after ≡ removed_if done (without_sample number) made
    → OneChanges made after
sample_spent true number made after is = rw is (inr (inr (inr ((refl, refl), (refl, refl), (refl, refl), inr (inr (number, refl, refl))))))
sample_spent false number made after is = none_changes made after is

-- a loan gets a number
pub loan_numbered : (port : Option PortId) (lent : Option (Result ℕ LoanError)) (made after : Made)
    (answer : Option (Result ℕ LoanError)) → NumbersLoan port lent made answer after → OneChanges made after
loan_numbered port None made after answer numbers = none_changes made after numbers.1
loan_numbered port (Some (Err error)) made after answer numbers = none_changes made after numbers.1
loan_numbered None (Some (Ok slot)) made after answer numbers = absurd numbers
loan_numbered (Some port) (Some (Ok slot)) made after answer numbers =
    rw numbers.1 (inr (inr (inl ((refl, refl), (refl, refl), inr (inl (record { port = port; slot = slot }, refl, refl)), (refl, refl)))))

-- a sample gets a number
pub sample_numbered : (port : Option PortId) (received : Option (Result (Option Taken) ReceiveError)) (made after : Made)
    (answer : Option (Result (Option ℕ) ReceiveError)) → NumbersSample port received made answer after → OneChanges made after
sample_numbered port None made after answer numbers = none_changes made after numbers.1
sample_numbered port (Some (Err error)) made after answer numbers = none_changes made after numbers.1
sample_numbered port (Some (Ok None)) made after answer numbers = none_changes made after numbers.1
sample_numbered None (Some (Ok (Some taken))) made after answer numbers = absurd numbers
sample_numbered (Some port) (Some (Ok (Some taken))) made after answer numbers =
    rw numbers.1 (inr (inr (inr ((refl, refl), (refl, refl), (refl, refl), inr (inl (record { port = port; taken = taken }, refl, refl))))))

-- room is made first, which changes no number
pub roomier_changes : (made roomier after : Made) → IsRoomier made roomier → OneChanges roomier after → OneChanges made after
roomier_changes made roomier after ((p, p_next, p_room), (s, s_next, s_room), (l, l_next, l_room), (m, m_next, m_room))
    (inl (publishers, subscribers, loans, samples)) =
    inl (
      stays_and_changes made.publishers roomier.publishers after.publishers (p, p_next) publishers,
      stay_longer made.subscribers
          roomier.subscribers after.subscribers (s, s_next) subscribers,
      stay_longer made.loans roomier.loans after.loans (l, l_next) loans,
      stay_longer made.samples roomier.samples after.samples (m, m_next) samples,
    )
roomier_changes made roomier after ((p, p_next, p_room), (s, s_next, s_room), (l, l_next, l_room), (m, m_next, m_room))
    (inr (inl (publishers, subscribers, loans, samples))) =
    inr (inl (
      stay_longer made.publishers roomier.publishers after.publishers (p, p_next) publishers,
      stays_and_changes made.subscribers
          roomier.subscribers after.subscribers (s, s_next) subscribers,
      stay_longer made.loans roomier.loans after.loans (l, l_next) loans,
      stay_longer made.samples roomier.samples after.samples (m, m_next) samples,
    ))
roomier_changes made roomier after ((p, p_next, p_room), (s, s_next, s_room), (l, l_next, l_room), (m, m_next, m_room))
    (inr (inr (inl (publishers, subscribers, loans, samples)))) =
    inr (inr (inl (
      stay_longer made.publishers roomier.publishers after.publishers (p, p_next) publishers,
      stay_longer made.subscribers
          roomier.subscribers after.subscribers (s, s_next) subscribers,
      stays_and_changes made.loans roomier.loans after.loans (l, l_next) loans,
      stay_longer made.samples roomier.samples after.samples (m, m_next) samples,
    )))
roomier_changes made roomier after ((p, p_next, p_room), (s, s_next, s_room), (l, l_next, l_room), (m, m_next, m_room))
    (inr (inr (inr (publishers, subscribers, loans, samples)))) =
    inr (inr (inr (
      stay_longer made.publishers roomier.publishers after.publishers (p, p_next) publishers,
      stay_longer made.subscribers
          roomier.subscribers after.subscribers (s, s_next) subscribers,
      stay_longer made.loans roomier.loans after.loans (l, l_next) loans,
      stays_and_changes made.samples roomier.samples after.samples (m, m_next) samples,
    )))

pub grown : {H A : Type 0} (is_full : Type 0) (call : Made → H → A → Made → H → Type 0)
    → ((made after : Made) (old new : H) (answer : A) → call made old answer after new → OneChanges made after)
    → (made after : Made) (old new : H) (answer : Result A AllocError) → GrowsFirst is_full call made old answer after new
    → OneChanges made after
grown is_full call changes made after old new (Err lacking) grows = none_changes made after grows.1
grown is_full call changes made after old new (Ok answer) (roomier, is_roomier, calls)
    = roomier_changes made roomier after is_roomier (changes roomier after old new answer calls)

-- a publisher gets a number
pub publisher_numbered : {E : Type 0} (domain : DomainId) (holds_slices : Bool) (next : ℕ) (came answer : Option (Result ℕ E))
    (made after : Made) → NumbersPort (with_publisher domain holds_slices) next came made answer after → OneChanges made after
publisher_numbered domain holds_slices next None answer made after numbers = none_changes made after numbers.1
publisher_numbered domain holds_slices next (Some (Err error)) answer made after numbers = none_changes made after numbers.1
publisher_numbered domain holds_slices next (Some (Ok number)) answer made after numbers =
    rw numbers.1 (inl (
      inr (inl (record { port = record { domain = domain; number = number }; holds_slices = holds_slices }, refl, refl)),
      (refl, refl),
      (refl, refl),
      (refl, refl),
    ))

-- a subscriber gets a number
pub subscriber_numbered : {E : Type 0} (domain : DomainId) (next : ℕ) (came answer : Option (Result ℕ E)) (made after : Made)
    → NumbersPort (with_subscriber domain) next came made answer after → OneChanges made after
subscriber_numbered domain next None answer made after numbers = none_changes made after numbers.1
subscriber_numbered domain next (Some (Err error)) answer made after numbers = none_changes made after numbers.1
subscriber_numbered domain next (Some (Ok number)) answer made after numbers =
    rw numbers.1 (inr (inl ((refl, refl), inr (inl (record { domain = domain; number = number }, refl, refl)), (refl, refl), (refl, refl))))

-- one number more at most
pub made_one_more : (made after : Made) → OneChanges made after → made_numbers after ≤ made_numbers made + 1
made_one_more made after (inl (publishers, (s, s_next), (l, l_next), (m, m_next)))
    = omega (arith, one_more made.publishers after.publishers publishers, s_next, l_next, m_next)
made_one_more made after (inr (inl ((p, p_next), subscribers, (l, l_next), (m, m_next))))
    = omega (arith, p_next, one_more made.subscribers after.subscribers subscribers, l_next, m_next)
made_one_more made after (inr (inr (inl ((p, p_next), (s, s_next), loans, (m, m_next)))))
    = omega (arith, p_next, s_next, one_more made.loans after.loans loans, m_next)
made_one_more made after (inr (inr (inr ((p, p_next), (s, s_next), (l, l_next), samples))))
    = omega (arith, p_next, s_next, l_next, one_more made.samples after.samples samples)

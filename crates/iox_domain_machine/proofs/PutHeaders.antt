-- The put of values reports what its send reports: the values are loaned, written and sent.
use Rattle.std.proofs.Common.{◌≡◌, ◌==◌, ◌∷◌, [], ◌++◌, ℕ, Bool, true, false, if◌then◌else◌, List, length, replicate, eqb, Option, None}
use Rattle.std.proofs.Common.{Some}
use Rattle.std.proofs.Common.{Result, Ok, Err, refl, sym, ap, subst, inl, inr, ◌∙◌, Contains, arith, find, is_some}
use Rattle.std.specs.Prelude.{⊤}
use Rattle.std.proofs.lemmas.List.Elements.{All-nil, Contains-append_right}
use Rattle.std.proofs.lemmas.List.{length-replicate}
use Rattle.iox_domain.proofs.DomainPorts.Lent.{loan_tells}
use Rattle.iox_domain.proofs.Lent.{found_changed, found_last, free_slot, one_passes, same_number, stays_if}
use Rattle.iox_domain.specs.Calls.{Lends, Sends, Writes}
use Rattle.iox_domain.specs.DomainPorts.Loaning.{Loans}
use Rattle.iox_domain.specs.DomainPorts.Messages.{Loan, Message, new_loan, sent_as, write_all}
use Rattle.iox_domain.specs.DomainPorts.MessagesSending.{has_length}
use Rattle.iox_domain.specs.DomainPorts.Publishers.{port_of}
use Rattle.iox_domain.specs.DomainPorts.Writing.{changed_if, changed_there, loan_of}
use Rattle.iox_domain.specs.DomainPorts.declared.meeting.Sent.{Sent}
use Rattle.iox_domain.specs.DomainPorts.declared.publisher_port.PublisherPort.{PublisherPort}
use Rattle.iox_domain.specs.DomainValues.Sequences.{next_sequence}
use Rattle.iox_domain.specs.DomainValues.declared.backpressure.BackpressureDecision.{BackpressureDecision}
use Rattle.iox_domain.specs.DomainValues.declared.backpressure.BackpressureInfo.{BackpressureInfo}
use Rattle.iox_domain.specs.DomainValues.declared.degradation.DegradationAction.{DegradationAction}
use Rattle.iox_domain.specs.DomainValues.declared.degradation.DegradationInfo.{DegradationInfo}
use Rattle.iox_domain.specs.DomainValues.declared.port_error.LoanError.{LoanError}
use Rattle.iox_domain.specs.DomainValues.declared.port_error.SendError.{SendError}
use Rattle.iox_domain.specs.Lending as lending
use Rattle.iox_domain.specs.Lending.{LoansOne}
use Rattle.iox_domain.specs.Order.{has_begun}
use Rattle.iox_domain.specs.Ports.{AtPublisher, no_ports, with_publisher}
use Rattle.iox_domain.specs.Putting.{with_values}
use Rattle.iox_domain.specs.Reading.{header_of}
use Rattle.iox_domain.specs.Steps.{LoansBy, PutsBy, SendsBy}
use Rattle.iox_domain.specs.declared.ports.service_ports.ServicePorts.{ServicePorts}
use Rattle.iox_domain_machine.specs.LendingLaws.{with_values_in}
use Rattle.iox_domain_machine.specs.Naming.{Naming}
use Rattle.iox_domain_machine.specs.SentHeaders.{AreStillNamed, HeadersAreAsSent, SentHeader, TellAsSent, headed_as_put, headed_by}
use Rattle.iox_domain_machine.specs.SentHeaders.{headed_where_put, own_numbers, put_from}
use Rattle.iox_domain_machine.proofs.Found.{never_some, same_some}
use Rattle.iox_domain_machine.proofs.ListsInUse.{BegunPasses, calls_go}
use Rattle.iox_domain_machine.proofs.PuttingParts.{PutParts, found_written, puts_in_parts}
use Rattle.iox_domain_machine.proofs.SendHeaders.{sends_tell}
use Rattle.iox_domain_machine.proofs.SentHeaders.{Among, TellsSo, headers_go_on, headers_through, longer, reads_so, renamed}

module _ {T U : Type 0} (values : List T) (slot : ℕ) where
  -- a loan that was made in a slot, and is written whole
  abbrev Written : PublisherPort T U → Loan T U
  Written port = write_all values (new_loan slot (length values) (length values) port.sender.user_header)

  -- What a publisher is after it loaned a slot for these values and wrote them: it has the loan, and nothing else changed.
  record HasWritten (port writer : PublisherPort T U) : Type 0 where
    loan : loan_of slot writer ≡ Some (Written port)
    last : writer.last_sequence ≡ port.last_sequence
    header : (message : Message T U) → header_of writer message ≡ header_of port message

  has_written : (port lender : PublisherPort T U)
      → Loans port.allocation (length values) (length values) port (Some (Ok slot)) lender
      → HasWritten port (with_values slot values lender)
  has_written port lender loans =
      let tells = loan_tells port.allocation (length values) (length values) port lender (Some (Ok slot)) loans in
      let lent = tells.2 in
      let stays = stays_if (is_some port.sender.uses.sending) port.allocation (length values) (length values) slot port lender loans in
      let loan : Loan T U = new_loan slot (length values) (length values) port.sender.user_header in
      let there : find (λ (one : Loan T U). one.slot == slot) lender.sender.uses.loans ≡ Some loan =
      ap (λ (loans : List (Loan T U)). find (λ (one : Loan T U). one.slot == slot) loans) lent.loan
      ∙ found_last (λ (one : Loan T U). one.slot == slot) port.sender.uses.loans loan (free_slot slot port.sender lent.free)
      (same_number slot) in
      let long : eqb (length values) (length (replicate {A = Option T} (length values) None)) ≡ true
      = ap (λ n. eqb (length values) n) (length-replicate {A = Option T} (length values) None) ∙ same_number (length values) in
      let any : has_length slot (length values) lender.sender.uses ≡ true
      = one_passes slot (λ (one : Loan T U). eqb (length values) (length one.values)) lender.sender.uses.loans loan there long in
      let is : with_values slot values lender ≡ changed_there slot (write_all values) lender
      = ap (λ b. changed_if b slot (write_all values) lender) any in
      record {
        loan = ap (loan_of slot) is ∙ found_changed slot (write_all values) lender.sender.uses.loans loan (λ one. refl) there;
        last = ap (λ (one : PublisherPort T U). one.last_sequence) is
            ∙ ap (λ (one : PublisherPort T U). one.last_sequence) stays.rest;
        header = λ message. ap (λ (one : PublisherPort T U). header_of one message) is
            ∙ ap (λ (one : PublisherPort T U). header_of one message) stays.rest;
      }

module _ {T U : Type 0} (may : DegradationInfo → DegradationAction → Type 0)
    (decide : BackpressureInfo → BackpressureDecision → Type 0) (names names_then : Naming) (sent : List (SentHeader T U)) (number : ℕ)
    (values : List T) (old : ServicePorts T U) (still : AreStillNamed names names_then old) (tell : TellAsSent names sent old) where
  abbrev any_slots : ℕ → ℕ → Type 0
  any_slots needed given = ⊤

  -- what is told is told beside more
  tell_more : (more : List (SentHeader T U)) → TellAsSent names_then (sent ++ more) old
  tell_more more = longer names_then sent more old (renamed names names_then sent old still tell)

  -- so it is where a loan is made, or refused
  pub lends_tell : (answer : Option (Result ℕ LoanError)) (new : ServicePorts T U)
      → LoansBy number (length values) (length values) old answer new → (more : List (SentHeader T U))
      → TellAsSent names_then (sent ++ more) new
  lends_tell answer new lends more =
      calls_go (Among names_then (sent ++ more)) any_slots may decide (Lends number (length values) (length values) answer) old new lends tt
      (tell_more more)

  abbrev Tells : ℕ → Option (Result Sent SendError) → ServicePorts T U → Type 0
  Tells slot answer new = TellAsSent names_then (sent ++ headed_as_put names_then number slot values answer old) new

  module _ (slot : ℕ) (port lender : PublisherPort T U) (there : port_of number old.publishers ≡ Some port)
      (loans : LoansOne (length values) (length values) port (Some (Ok slot)) lender) where
    abbrev written : ServicePorts T U
    written = with_values_in number slot values (with_publisher number lender old)

    standing : (stands : Bool) → port.stands ≡ stands
        → lending.LoansIf stands (length values) (length values) port (Some (Ok slot)) lender
        → (port.stands ≡ true) × Loans port.allocation (length values) (length values) port (Some (Ok slot)) lender
    standing false is lends = never_some (Ok slot) (sym lends.0)
    standing true is lends = (is, lends)

    lends_so : (port.stands ≡ true) × Loans port.allocation (length values) (length values) port (Some (Ok slot)) lender
    lends_so = standing port.stands refl loans

    wrote : HasWritten values slot port (with_values slot values lender)
    wrote = has_written values slot port lender lends_so.1

    abbrev more : Result Sent SendError → List (SentHeader T U)
    more result = headed_as_put names_then number slot values (Some result) old

    abbrev put : Message T U
    put = put_from slot values port

    more_is : (result : Result Sent SendError) → has_begun (Some result) ≡ true
        → more result ≡ headed_by names_then (header_of port put) put ∷ []
    more_is result on =
        ap (λ b. if b then headed_where_put names_then slot values (port_of number old.publishers) else []) on
        ∙ ap (λ (found : Option (PublisherPort T U)). headed_where_put names_then slot values found) there

    -- what is sent then is what was put
    begun : (result : Result Sent SendError)
        → BegunPasses (Among names_then (sent ++ more result)) (Sends number slot (Some result)) written
    begun result = λ writer found on loan is.
        let same : with_values slot values lender ≡ writer
        = same_some (with_values slot values lender) writer
        (sym (found_written may decide number values old port there lends_so.0 slot lender loans) ∙ found) in
        let loan_is : Written values slot port ≡ loan
        = same_some (Written values slot port) loan (sym wrote.loan ∙ ap (loan_of slot) same ∙ is) in
        let last : port.last_sequence ≡ writer.last_sequence
        = sym wrote.last ∙ ap (λ (one : PublisherPort T U). one.last_sequence) same in
        let message : put ≡ sent_as (next_sequence writer.last_sequence) loan
        = ap (λ last. sent_as (next_sequence last) (Written values slot port)) last
        ∙ ap (λ one. sent_as (next_sequence writer.last_sequence) one) loan_is in
        let header : header_of port put ≡ header_of writer (sent_as (next_sequence writer.last_sequence) loan)
        = sym (wrote.header put) ∙ ap (λ (one : PublisherPort T U). header_of one put) same ∙ ap (header_of writer) message in
        subst (λ header. Among names_then (sent ++ more result) header (sent_as (next_sequence writer.last_sequence) loan)) header
        (subst (λ message. Among names_then (sent ++ more result) (header_of port put) message) message
        (Contains-append_right sent (more result) (headed_by names_then (header_of port put) put)
        (subst (λ (told : List (SentHeader T U)). Contains told (headed_by names_then (header_of port put) put))
        (sym (more_is result on)) (0, omega arith, refl))))

    -- it is lent, written and sent
    sends_put : (result : Result Sent SendError) (new : ServicePorts T U)
        → SendsBy may decide number slot written (Some result) new
        → LoansBy number (length values) (length values) old (Some (Ok slot)) (with_publisher number lender old)
        → Tells slot (Some result) new
    sends_put result new sends lends =
        calls_go (Among names_then (sent ++ more result)) any_slots may decide (Sends number slot (Some result)) written new sends
        (begun result)
        (calls_go (Among names_then (sent ++ more result)) any_slots may decide
        (Writes number slot (λ one. has_length slot (length values) one.sender.uses) (write_all values))
        (with_publisher number lender old) written refl tt
        (lends_tell (Some (Ok slot)) (with_publisher number lender old) lends (more result)))

  pub made_puts : (slot : ℕ) (found : Option (PublisherPort T U)) (made new : ServicePorts T U) (result : Result Sent SendError)
      → port_of number old.publishers ≡ found
      → AtPublisher number (LoansOne (length values) (length values)) found old (Some (Ok slot)) made
      → SendsBy may decide number slot (with_values_in number slot values made) (Some result) new → Tells slot (Some result) new
  made_puts slot None made new result there call sends = never_some (Ok slot) (sym call.0)
  made_puts slot (Some port) made new result there (lender, loans, is) sends =
      sends_put slot port lender there loans result new
      (subst (λ (ports : ServicePorts T U). SendsBy may decide number slot (with_values_in number slot values ports) (Some result) new) is
      sends)
      (subst (λ (found : Option (PublisherPort T U)).
      AtPublisher number (LoansOne (length values) (length values)) found old (Some (Ok slot))
      (with_publisher number lender old)) (sym there) (lender, loans, refl))

  parts_put : (answer : Option (Result Sent SendError)) (new : ServicePorts T U) → PutParts may decide number values old answer new
      → (slot : ℕ) × Tells slot answer new
  parts_put answer new (inl busy) = (
    0,
    subst (λ (ports : ServicePorts T U). Tells 0 answer ports) (sym busy.1)
        (tell_more (headed_as_put names_then number 0 values answer old)),
  )
  parts_put answer new (inr (inl refused)) = (
    0,
    lends_tell (Some (Err refused.0)) new refused.2 (headed_as_put names_then number 0 values answer old),
  )
  parts_put answer new (inr (inr (slot, made, result, is, lends, goes))) = (
    slot,
    subst (λ (told : Option (Result Sent SendError)). Tells slot told new) (sym is)
        (made_puts slot (port_of number old.publishers) made new result refl lends goes),
  )

  puts_go_on : (new : ServicePorts T U) (answer : Option (Result Sent SendError)) → PutsBy may decide number values old answer new
      → (slot : ℕ) × Tells slot answer new
  puts_go_on new answer call = parts_put answer new (puts_in_parts may decide number values old answer new call)

pub headers_are_as_sent : (T U : Type 0) (overrides : ℕ → ℕ → Type 0) (may : DegradationInfo → DegradationAction → Type 0)
    (decide : BackpressureInfo → BackpressureDecision → Type 0) → HeadersAreAsSent T U overrides may decide
headers_are_as_sent T U overrides may decide = record {
  begins = λ names service sizes. All-nil (TellsSo names []);
  goes_on = headers_go_on overrides may decide;
  sends = λ names lent held buffer ports service state loan out answer stands goes.
      sends_tell names lent held buffer ports service state loan out stands goes answer;
  calls = λ service sizes calls new happen.
      headers_through overrides may decide [] calls (no_ports service sizes) new happen (All-nil (TellsSo own_numbers []));
  puts = λ names names_then sent number values old new answer call still tell.
      puts_go_on may decide names names_then sent number values old still tell new answer call;
  reads = reads_so;
}

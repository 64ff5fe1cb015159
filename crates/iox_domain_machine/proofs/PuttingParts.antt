-- Values that are put into a domain are loaned, written and sent.
use Rattle.std.proofs.Common.{◌≡◌, ◌⊎◌, ◌&&◌, ℕ, Bool, true, false, not, List, length, is_some, Option, None, Some, Result, Ok, Err, refl}
use Rattle.std.proofs.Common.{sym, ap, subst, inl, inr, ◌∙◌}
use Rattle.iox_domain.specs.DomainValues.declared.backpressure.BackpressureDecision.{BackpressureDecision}
use Rattle.iox_domain.specs.DomainValues.declared.backpressure.BackpressureInfo.{BackpressureInfo}
use Rattle.iox_domain.specs.DomainValues.declared.degradation.DegradationAction.{DegradationAction}
use Rattle.iox_domain.specs.DomainValues.declared.degradation.DegradationInfo.{DegradationInfo}
use Rattle.iox_domain.specs.DomainValues.declared.port_error.LoanError.{LoanError}
use Rattle.iox_domain.specs.DomainValues.declared.port_error.SendError.{SendError}
use Rattle.iox_domain.specs.DomainValues.declared.port_error.SendError.TheVariants as error
use Rattle.iox_domain.specs.DomainPorts.Loaning.{Loans}
use Rattle.iox_domain.specs.DomainPorts.Publishers.{port_of, with_port, settled, changed_at_port}
use Rattle.iox_domain.specs.DomainPorts.declared.meeting.Sent.{Sent}
use Rattle.iox_domain.specs.DomainPorts.declared.publisher_port.PublisherPort.{PublisherPort}
use Rattle.iox_domain.specs.Lending.{LoansOne, LoansIf}
use Rattle.iox_domain.specs.Ports.{AtPublisher, with_publisher}
use Rattle.iox_domain.specs.PortsPublishing.{is_free, SendsOne}
use Rattle.iox_domain.specs.Putting.{with_values, SendsLent, PutsIf, PutsOne}
use Rattle.iox_domain.specs.Steps.{LoansBy, PutsBy, SendsBy}
use Rattle.iox_domain.specs.declared.ports.service_ports.ServicePorts.{ServicePorts}
use Rattle.iox_domain.proofs.Numbered.{at_number, same_set}
use Rattle.iox_domain.proofs.Putting.{lender_stands}
use Rattle.iox_domain_machine.specs.LendingLaws.{with_values_in}
use Rattle.iox_domain_machine.proofs.Found.{never_some, never_true}
use Rattle.iox_domain_machine.proofs.GivingUp.{kept_there}
use Rattle.iox_domain_machine.proofs.SendEnds.{set_twice}

both_are : (one other : Bool) → (one && not other) ≡ true → (one ≡ true) × (other ≡ false)
both_are true true is = never_true is
both_are true false is = (refl, refl)
both_are false other is = never_true is

pub lends_none : {T U : Type 0} (stands waits : Bool) (values : ℕ) (port : PublisherPort T U) → port.stands ≡ stands
    → is_some port.sender.uses.sending ≡ waits → (stands && not waits) ≡ false → LoansOne values values port None port
lends_none false waits values port left waiting is = rw left (refl, refl)
lends_none true true values port stands waiting is = rw stands (rw waiting (refl, refl))
lends_none true false values port stands waiting is = never_true (sym is)

module _ {T U : Type 0} (may_degrade : DegradationInfo → DegradationAction → Type 0)
    (may : BackpressureInfo → BackpressureDecision → Type 0) (number : ℕ) (values : List T) (old : ServicePorts T U) where
  -- nobody may put; or the loan is refused; or it is made, written and sent
  abbrev pub PutParts : Option (Result Sent SendError) → ServicePorts T U → Type 0
  PutParts answer new =
      ((answer ≡ None) × (new ≡ old) × LoansBy number (length values) (length values) old None old)
      ⊎ (((why : LoanError) × (answer ≡ Some (Err (error.LoanError why)))
      × LoansBy number (length values) (length values) old (Some (Err why)) new)
      ⊎ ((slot : ℕ) × (made : ServicePorts T U) × (sent : Result Sent SendError) × (answer ≡ Some sent)
      × LoansBy number (length values) (length values) old (Some (Ok slot)) made
      × SendsBy may_degrade may number slot (with_values_in number slot values made) (Some sent) new))

  module _ (port : PublisherPort T U) (there : port_of number old.publishers ≡ Some port) where
    lends : (answer : Result ℕ LoanError) (lender : PublisherPort T U)
        → LoansOne (length values) (length values) port (Some answer) lender
        → LoansBy number (length values) (length values) old (Some answer) (with_publisher number lender old)
    lends answer lender loans =
        subst (λ (found : Option (PublisherPort T U)). AtPublisher number (LoansOne (length values) (length values)) found old (Some answer)
        (with_publisher number lender old)) (sym there) (lender, loans, refl)

    module _ (standing : port.stands ≡ true) (slot : ℕ) (lender : PublisherPort T U)
        (loans : LoansOne (length values) (length values) port (Some (Ok slot)) lender) where
      abbrev made : ServicePorts T U
      made = with_publisher number lender old

      abbrev written : ServicePorts T U
      written = with_values_in number slot values made

      abbrev writer : PublisherPort T U
      writer = with_values slot values lender

      lends_so : (stands : Bool) → stands ≡ true → LoansIf stands (length values) (length values) port (Some (Ok slot)) lender
          → Loans port.allocation (length values) (length values) port (Some (Ok slot)) lender
      lends_so true is loans = loans
      lends_so false is loans = never_true is

      still : lender.stands ≡ true
      still = lender_stands port.allocation (length values) (length values) port (Some (Ok slot)) lender
          (lends_so port.stands standing loans) ∙ standing

      put_back : made.publishers ≡ with_port number old.publishers lender
      put_back = kept_there number lender (with_port number old.publishers lender)
          (same_set (at_number number) old.publishers lender port there) still

      found_lent : port_of number made.publishers ≡ Some lender
      found_lent = ap (port_of number) put_back ∙ same_set (at_number number) old.publishers lender port there

      changed_is : written.publishers ≡ with_port number made.publishers writer
      changed_is = ap (λ found. changed_at_port number (with_values slot values) found made.publishers) found_lent

      pub found_written : port_of number written.publishers ≡ Some writer
      found_written = ap (port_of number) changed_is ∙ same_set (at_number number) made.publishers writer lender found_lent

      written_back : written.publishers ≡ with_port number old.publishers writer
      written_back = changed_is ∙ ap (λ list. with_port number list writer) put_back
          ∙ set_twice (at_number number) old.publishers lender writer

      -- what is sent then is put into the ports as they were
      sent_back : (after : PublisherPort T U) → with_publisher number after old ≡ with_publisher number after written
      sent_back after =
          sym (ap (λ (list : List (ℕ × PublisherPort T U)). record old { publishers = settled number list })
          (ap (λ list. with_port number list after) written_back ∙ set_twice (at_number number) old.publishers writer after))

      sends : (sent : Result Sent SendError) (after : PublisherPort T U)
          → SendsOne may_degrade may old.subscriber_list slot writer (Some sent) after
          → SendsBy may_degrade may number slot written (Some sent) (with_publisher number after old)
      sends sent after does =
          subst (λ (found : Option (PublisherPort T U)). AtPublisher number (SendsOne may_degrade may written.subscriber_list slot) found
          written (Some sent) (with_publisher number after old)) (sym found_written) (after, does, sent_back after)

    follows : (standing : port.stands ≡ true) (lent : Result ℕ LoanError) (lender after : PublisherPort T U)
        (sent : Result Sent SendError) (new : ServicePorts T U)
        → LoansOne (length values) (length values) port (Some lent) lender
        → SendsLent may_degrade may old.subscriber_list values lent lender sent after → new ≡ with_publisher number after old
        → PutParts (Some sent) new
    follows standing (Err why) lender after sent new loans (told, same) is =
        inr (inl (
          why,
          ap (λ (one : Result Sent SendError). Some one) told,
          subst (λ (ports : ServicePorts T U). LoansBy number (length values) (length values) old (Some (Err why)) ports)
              (sym (is ∙ ap (λ (one : PublisherPort T U). with_publisher number one old) same)) (lends (Err why) lender loans),
        ))
    follows standing (Ok slot) lender after sent new loans does is =
        inr (inr (
          slot,
          made standing slot lender loans,
          sent,
          refl,
          lends (Ok slot) lender loans,
          subst (λ (ports : ServicePorts T U). SendsBy may_degrade may number slot (written standing slot lender loans) (Some sent) ports)
              (sym is) (sends standing slot lender loans sent after does),
        ))

    by_free : (free : Bool) → is_free port ≡ free → (answer : Option (Result Sent SendError)) (new : ServicePorts T U)
        → AtPublisher number (λ (one : PublisherPort T U) (told : Option (Result Sent SendError)) (after : PublisherPort T U).
        PutsIf free may_degrade may old.subscriber_list values one told after) (Some port) old answer new
        → PutParts answer new
    by_free false busy None new call =
        inl (
          refl,
          call.2,
          subst (λ (found : Option (PublisherPort T U)). AtPublisher number (LoansOne (length values) (length values)) found old None old)
              (sym there)
              (port, lends_none port.stands (is_some port.sender.uses.sending) (length values) port refl refl busy, refl),
        )
    by_free false busy (Some sent) new call = never_some sent (sym call.1.0)
    by_free true free None new call = never_some call.1.0 call.1.2
    by_free true free (Some sent) new (after, (told, (lent, lender, loans, does), same), is) =
        subst (λ (one : Option (Result Sent SendError)). PutParts one new) (sym same)
        (follows (both_are port.stands (is_some port.sender.uses.sending) free).0 lent lender after told new loans does is)

  by_port : (found : Option (PublisherPort T U)) → port_of number old.publishers ≡ found → (answer : Option (Result Sent SendError))
      (new : ServicePorts T U) → AtPublisher number (PutsOne may_degrade may old.subscriber_list values) found old answer new
      → PutParts answer new
  by_port None none answer new call =
      inl (
        call.0,
        call.1,
        subst (λ (found : Option (PublisherPort T U)). AtPublisher number (LoansOne (length values) (length values)) found old None old)
            (sym none) (refl, refl),
      )
  by_port (Some port) there answer new call = by_free port there (is_free port) refl answer new call

  pub puts_in_parts : (answer : Option (Result Sent SendError)) (new : ServicePorts T U)
      → PutsBy may_degrade may number values old answer new → PutParts answer new
  puts_in_parts answer new call = by_port (port_of number old.publishers) refl answer new call

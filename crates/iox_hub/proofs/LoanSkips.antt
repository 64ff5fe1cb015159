-- What a hub does where a loan can't be made or sent: nothing, as for a command that is skipped. And what a loan has that was written.
use Rattle.std.proofs.Common.{◌≡◌, ◌∙◌, ◌==◌, ◌&&◌, ◌||◌, ◌-◌, ℕ, suc, Bool, true, false, not, cond, Option, None, Some}
use Rattle.std.proofs.Common.{List, [], ◌∷◌, ◌++◌, length, map, replicate, eqb, refl, sym, ap, subst, arith, append-nil, is_some}
use Rattle.std.proofs.Common.{inl, inr, ⊎_elim}
use Rattle.std.proofs.lemmas.Bool.{cases_Bool}
use Rattle.std.proofs.lemmas.Bool.Decides.{eqb_tells}
use Rattle.std.proofs.lemmas.List.{length-map}
use Rattle.std.specs.List.{find, list_all, list_any}
use Rattle.std.specs.Prelude.{position}
use Rattle.iox_delivery.proofs.Lent.{stepped}
use Rattle.iox_delivery.specs.Holding.{loan_found, publisher_blocked, publisher_stands}
use Rattle.iox_delivery.specs.Slices.{WritesAll}
use Rattle.iox_delivery.specs.declared.port_id.PortId.{PortId}
use Rattle.iox_domain.proofs.DomainPorts.Finding.{at_place}
use Rattle.iox_domain.proofs.Lent.{all_written, found_changed, one_passes, same_number}
use Rattle.iox_domain.specs.AtHomes.{AtDomain}
use Rattle.iox_domain.specs.DomainPorts.Loaning as loaning
use Rattle.iox_domain.specs.DomainPorts.Messages.{Loan, is_written, write_all, written_of}
use Rattle.iox_domain.specs.DomainPorts.MessagesSending.{has_length, is_written_loan}
use Rattle.iox_domain.specs.DomainPorts.Publishers.{changed_at_port, port_of}
use Rattle.iox_domain.specs.DomainPorts.Sending.{ready_at}
use Rattle.iox_domain.specs.DomainPorts.Writing.{changed_if, loan_of}
use Rattle.iox_domain.specs.DomainPorts.declared.publisher_port.PublisherPort.{PublisherPort}
use Rattle.iox_domain.specs.Lending as lending
use Rattle.iox_domain.specs.Lending.{LoansOne, loan_at_port, passes_port, written_in}
use Rattle.iox_domain.specs.Ports.{AtPublisher}
use Rattle.iox_domain.specs.PortsPublishing.{SendsOne, is_blocked}
use Rattle.iox_domain.specs.Steps.{LoansBy, SendsBy}
use Rattle.iox_domain.specs.declared.ports.service_ports.ServicePorts.{ServicePorts}
use Rattle.iox_hub_base.specs.AsHome.{hub_ports, with_hub_ports}
use Rattle.iox_hub_base.specs.declared.hub.Hub.{Hub}
use Rattle.iox_hub_commands.specs.DomainValues.declared.backpressure.BackpressureDecision.{BackpressureDecision}
use Rattle.iox_hub_commands.specs.DomainValues.declared.backpressure.BackpressureInfo.{BackpressureInfo}
use Rattle.iox_hub_commands.specs.DomainValues.declared.degradation.DegradationAction.{DegradationAction}
use Rattle.iox_hub_commands.specs.DomainValues.declared.degradation.DegradationInfo.{DegradationInfo}
use Rattle.iox_hub_commands.specs.Loans.{fits_in}
use Rattle.iox_hub_machine.proofs.Housed.{put_again}
use Rattle.iox_hub.proofs.RecordedRuns.{put_there}
use Rattle.iox_hub.proofs.RecordedSkips.{never_so}
use Rattle.iox_hub.specs.Recording.{is_written_with, may_send}

-- ---- a publisher that isn't free

module _ {T U : Type 0} (values elements : ℕ) (port : PublisherPort T U) where
  while_waiting : (waits : Bool) → not waits ≡ false → loaning.LoansIf waits port.allocation values elements port None port
  while_waiting true never = (refl, refl)
  while_waiting false never = cc

  while_standing : (stands : Bool) → (stands && not (is_blocked port)) ≡ false → lending.LoansIf stands values elements port None port
  while_standing false never = (refl, refl)
  while_standing true never = while_waiting (is_blocked port) never

module _ {T U : Type 0} (number values elements : ℕ) (ports : ServicePorts T U) where
  not_lent : (port : Option (PublisherPort T U)) → (passes_port (λ it. it.stands) port && not (passes_port is_blocked port)) ≡ false
      → AtPublisher number (LoansOne values elements) port ports None ports
  not_lent None never = (refl, refl)
  not_lent (Some port) never = (port, while_standing values elements port port.stands never, refl)

module _ {T U B D : Type 0} where
  -- a publisher that may not lend lends nothing
  pub lends_none : (elements : ℕ) (who : PortId) (hub : Hub T U B D) (found : Option (ServicePorts T U))
      → hub_ports who.domain hub ≡ found
      → (publisher_stands who.number found && not (publisher_blocked who.number found)) ≡ false
      → AtDomain (λ (after : ServicePorts T U). with_hub_ports who.domain after hub) (LoansBy who.number elements elements) found
      hub None hub
  lends_none elements who hub None is never = (refl, refl)
  lends_none elements who hub (Some ports) is never = (
    ports,
    not_lent who.number elements elements ports (port_of who.number ports.publishers) never,
    sym (put_again who.domain ports hub is),
  )

-- ---- a loan that may not be sent

-- places that are as many as there are need no more after them
no_more : {X : Type 0} (places : List (Option X)) → places ++ replicate (length places - length places) None ≡ places
no_more places =
    let none : length places - length places ≡ 0 = omega arith in
    ap (λ n. places ++ replicate n None) none ∙ append-nil places

module _ {T U : Type 0} (slot : ℕ) (port : PublisherPort T U) where
  not_at : (at : ℕ) (blocked written : Bool) → (written && not blocked) ≡ false → cond (blocked || not written) None (Some at) ≡ None
  not_at at true written never = refl
  not_at at false true never = cc
  not_at at false false never = refl

  not_ready : (at : Option ℕ) → at ≡ position (λ loan. loan.slot == slot) port.sender.uses.loans
      → (is_written_loan (loan_of slot port) && not (is_blocked port)) ≡ false → ready_at at port ≡ None
  not_ready None is never = refl
  not_ready (Some at) is never =
      not_at at (is_blocked port) _ (ap (λ found. is_written_loan found && not (is_blocked port))
      (at_place (λ loan. loan.slot == slot) port.sender.uses.loans at is) ∙ never)

module _ {T U : Type 0} (may_degrade : DegradationInfo → DegradationAction → Type 0)
    (may : BackpressureInfo → BackpressureDecision → Type 0) (number slot : ℕ) (ports : ServicePorts T U) where
  not_sent : (port : Option (PublisherPort T U)) → (is_written_loan (loan_at_port slot port) && not (passes_port is_blocked port)) ≡ false
      → AtPublisher number (SendsOne may_degrade may ports.subscriber_list slot) port ports None ports
  not_sent None never = (refl, refl)
  not_sent (Some port) never = (
    port,
    (
      ports.subscriber_list.places,
      no_more ports.subscriber_list.places,
      rw (not_ready slot port (position (λ loan. loan.slot == slot) port.sender.uses.loans) refl never) (refl, refl),
    ),
    refl,
  )

module _ {T U B D : Type 0} where
  sends_none_at : (may_degrade : DegradationInfo → DegradationAction → Type 0) (may : BackpressureInfo → BackpressureDecision → Type 0)
      (who : PortId) (slot : ℕ) (hub : Hub T U B D) (found : Option (ServicePorts T U)) → hub_ports who.domain hub ≡ found
      → (is_written_loan (loan_found who.number slot found) && not (publisher_blocked who.number found)) ≡ false
      → AtDomain (λ (after : ServicePorts T U). with_hub_ports who.domain after hub) (SendsBy may_degrade may who.number slot) found
      hub None hub
  sends_none_at may_degrade may who slot hub None is never = (refl, refl)
  sends_none_at may_degrade may who slot hub (Some ports) is never = (
    ports,
    not_sent may_degrade may who.number slot ports (port_of who.number ports.publishers) never,
    sym (put_again who.domain ports hub is),
  )

  -- a loan that may not be sent isn't
  pub sends_none : (may_degrade : DegradationInfo → DegradationAction → Type 0) (may : BackpressureInfo → BackpressureDecision → Type 0)
      (who : PortId) (slot : ℕ) (hub : Hub T U B D) → may_send hub_ports who slot hub ≡ false
      → AtDomain (λ (after : ServicePorts T U). with_hub_ports who.domain after hub) (SendsBy may_degrade may who.number slot)
      (hub_ports who.domain hub) hub None hub
  sends_none may_degrade may who slot hub never = sends_none_at may_degrade may who slot hub (hub_ports who.domain hub) refl never

-- ---- what a loan has that was written

-- n as there are, if each is written
length_written : {T : Type 0} (all : List (Option T)) → list_all is_some all ≡ true → length (written_of all) ≡ length all
length_written [] is = refl
length_written (Some value ∷ all) is = ap suc (length_written all is)
length_written (None ∷ all) is = cc

other_way : (a b : ℕ) → eqb a b ≡ false → eqb b a ≡ false
other_way a b differ = ⊎_elim
    (λ same. never_so (eqb a b) (subst (λ (n : ℕ). eqb a n ≡ true) (sym same.1) (same_number a)) differ)
    (λ differs. differs.0)
    (eqb_tells b a)

module _ {T U : Type 0} (slot : ℕ) where
  -- where no loan is found none of any length is there
  none_long : (count : ℕ) (loans : List (Loan T U)) → find (λ one. one.slot == slot) loans ≡ None
      → list_any (λ one. eqb slot one.slot && eqb count (length one.values)) loans ≡ false
  none_long count [] none = refl
  none_long count (one ∷ loans) none = ⊎_elim
      (λ same. let some : Some one ≡ None = rw same.0 at none in cc)
      (λ differs. let apart : eqb slot one.slot ≡ false = other_way one.slot slot differs.0 in
      rw apart (none_long count loans (rw differs.0 at none)))
      (eqb_tells one.slot slot)

module _ {T U : Type 0} (values : List T) where
  -- a loan of another length hasn't these values
  others_length : (loan : Loan T U) (written : Bool) → is_written loan ≡ written → eqb (length values) (length loan.values) ≡ false
      → is_written_with (Some loan) (length values) ≡ false
  others_length loan false is differs = rw is refl
  others_length loan true is differs = rw is (ap (λ n. n == length values) (length_written loan.values is)
      ∙ other_way (length values) (length loan.values) differs)

  -- a loan in which these were written has them
  has_these : (loan : Loan T U) → is_written_with (Some (write_all values loan)) (length values) ≡ true
  has_these loan =
      let all : list_all is_some (map Some values) ≡ true = all_written values in
      rw all (ap (λ n. n == length values) (length_written (map Some values) all ∙ length-map values Some) ∙ same_number (length values))

  module _ (slot : ℕ) (port : PublisherPort T U) where
    by_loan : (found : Option (Loan T U)) → loan_of slot port ≡ found → (has : Bool)
        → has_length slot (length values) port.sender.uses ≡ has
        → is_written_with (loan_of slot (changed_if has slot (write_all values) port)) (length values) ≡ has
    by_loan None is true has = never_so _ has (none_long slot (length values) port.sender.uses.loans is)
    by_loan None is false has = ap (λ found. is_written_with found (length values)) is
    by_loan (Some loan) is true has =
        ap (λ found. is_written_with found (length values))
        (found_changed slot (write_all values) port.sender.uses.loans loan (λ one. refl) is) ∙ has_these loan
    by_loan (Some loan) is false has =
        ap (λ found. is_written_with found (length values)) is
        ∙ others_length loan (is_written loan) refl (elim (cases_Bool (eqb (length values) (length loan.values))) [
          | inl same ↦ never_so _ (one_passes slot (λ one. eqb (length values) (length one.values)) port.sender.uses.loans loan is same) has
          | inr differs ↦ differs
        ])

  by_port : (number slot : ℕ) (ports : ServicePorts T U) (found : Option (PublisherPort T U)) → port_of number ports.publishers ≡ found
      → is_written_with (loan_found number slot (Some (written_in number (λ port. has_length slot (length values) port.sender.uses) slot
      (write_all values) ports))) (length values)
      ≡ passes_port (λ port. has_length slot (length values) port.sender.uses) found
  by_port number slot ports None is =
      ap (λ it. is_written_with (loan_at_port slot (port_of number (changed_at_port number
      (λ port. changed_if (has_length slot (length values) port.sender.uses) slot (write_all values) port) it ports.publishers)))
      (length values)) is
      ∙ ap (λ it. is_written_with (loan_at_port slot it) (length values)) is
  by_port number slot ports (Some port) is =
      ap (λ it. is_written_with (loan_at_port slot it) (length values))
      (stepped number (λ port. changed_if (has_length slot (length values) port.sender.uses) slot (write_all values) port) ports.publishers
      port is)
      ∙ by_loan slot port (loan_of slot port) refl (has_length slot (length values) port.sender.uses) refl

  by_ports : {B D : Type 0} (who : PortId) (slot : ℕ) (old new : Hub T U B D) (found : Option (ServicePorts T U))
      → hub_ports who.domain old ≡ found → WritesAll hub_ports with_hub_ports who slot values old new
      → is_written_with (loan_found who.number slot (hub_ports who.domain new)) (length values) ≡ fits_in values who.number slot found
  by_ports who slot old new None is writes =
      let same : new ≡ old = rw is at writes in
      let none : hub_ports who.domain new ≡ None = ap (hub_ports who.domain) same ∙ is in
      ap (λ it. is_written_with (loan_found who.number slot it) (length values)) none
  by_ports who slot old new (Some ports) is writes =
      let put : new ≡ with_hub_ports who.domain (written_in who.number (λ port. has_length slot (length values) port.sender.uses) slot
      (write_all values) ports) old = rw is at writes in
      let there : hub_ports who.domain new ≡ Some (written_in who.number (λ port. has_length slot (length values) port.sender.uses) slot
      (write_all values) ports) = ap (hub_ports who.domain) put ∙ put_there who.domain _ old (rw is refl) in
      ap (λ it. is_written_with (loan_found who.number slot it) (length values)) there
      ∙ by_port who.number slot ports (port_of who.number ports.publishers) refl

  -- a loan is written with these values just where it has as many
  pub written_where_fits : {B D : Type 0} (who : PortId) (slot : ℕ) (old new : Hub T U B D)
      → WritesAll hub_ports with_hub_ports who slot values old new
      → is_written_with (loan_found who.number slot (hub_ports who.domain new)) (length values)
      ≡ fits_in values who.number slot (hub_ports who.domain old)
  written_where_fits who slot old new writes = by_ports who slot old new (hub_ports who.domain old) refl writes

-- Values that are written one after the other in a loan of as many are all that it has.
use Rattle.std.proofs.Common.{◌≡◌, ◌≤◌, ◌<◌, ◌+◌, ℕ, Bool, true, false, cond, List, [], ◌∷◌, ◌++◌, length, map, take, nat_lt}
use Rattle.std.proofs.Common.{Option, Some, refl, sym, ap, subst, ◌∙◌, arith}
use Rattle.std.proofs.Math.Dec.{eqb}
use Rattle.std.proofs.Math.Logic.{⊎_elim}
use Rattle.std.proofs.lemmas.Bool.{eq-eqb}
use Rattle.std.proofs.lemmas.Bool.Decides.{eqb_tells}
use Rattle.std.proofs.lemmas.List.{append-nil, append_assoc, length-set, take_all, take_more_set}
use Rattle.std.specs.Prelude.{option_map}
use Rattle.iox_delivery.specs.Slices.{each_written, each_written_in}
use Rattle.iox_domain.proofs.DomainSlots.Counts.{one, times_cons}
use Rattle.iox_domain.specs.DomainPorts.Messages.{Loan, write_value, write_all}
use Rattle.iox_domain.specs.DomainPorts.MessagesSending.{has_place, has_length, with_uses}
use Rattle.iox_domain.specs.DomainPorts.Publishers.{port_of, with_port, changed_at_port}
use Rattle.iox_domain.specs.DomainPorts.Writing.{changed_if, changed_there}
use Rattle.iox_domain.specs.DomainPorts.declared.publisher_port.PublisherPort.{PublisherPort}
use Rattle.iox_domain.specs.DomainSlots.Counting.{times}
use Rattle.iox_domain.specs.Lending.{written_in}
use Rattle.iox_domain.specs.declared.ports.service_ports.ServicePorts.{ServicePorts}
use Rattle.iox_domain_machine.proofs.Found.{same_some, never_some}
use Rattle.iox_domain_machine.proofs.Loans.{alike, unlike, slots, in_slot, change_in, found_head, found_behind, found_changed, found_passes}
use Rattle.iox_domain_machine.proofs.Loans.{slots_same}

module _ {T U : Type 0} (slot : ℕ) where
  abbrev changed_by : Bool → (Loan T U → Loan T U) → Loan T U → Loan T U
  changed_by b change loan = cond b (change loan) loan

  -- where no loan is in the slot none changes
  none_changed : (change other : Loan T U → Loan T U) (loans : List (Loan T U)) → times slot (slots loans) ≡ 0
      → change_in slot change loans ≡ change_in slot other loans
  none_changed change other [] none = refl
  none_changed change other (loan ∷ loans) none = ⊎_elim
      (λ same.
      let here : one slot loan.slot ≡ 1 = ap (λ (b : Bool). cond b 1 0) (alike slot loan.slot same.1) in
      absurd (omega (arith, none, times_cons slot loan.slot (slots loans), here)))
      (λ off.
      ap (λ (b : Bool). changed_by b change loan ∷ change_in slot change loans) (unlike slot loan.slot off.1)
      ∙ ap (λ (more : List (Loan T U)). loan ∷ more)
      (none_changed change other loans (omega (arith, none, times_cons slot loan.slot (slots loans))))
      ∙ sym (ap (λ (b : Bool). changed_by b other loan ∷ change_in slot other loans) (unlike slot loan.slot off.1)))
      (eqb_tells loan.slot slot)

  -- changes that make the same of the loan in the slot are one
  pub changed_alike : (change other : Loan T U → Loan T U) (found : Loan T U) (loans : List (Loan T U)) → in_slot slot loans ≡ Some found
      → times slot (slots loans) ≤ 1 → change found ≡ other found → change_in slot change loans ≡ change_in slot other loans
  changed_alike change other found [] is once same = never_some found is
  changed_alike change other found (loan ∷ loans) is once same = ⊎_elim
      (λ here.
      let it : loan ≡ found = same_some loan found (sym (found_head slot loan loans here.0) ∙ is) in
      let some : one slot loan.slot ≡ 1 = ap (λ (b : Bool). cond b 1 0) (alike slot loan.slot here.1) in
      ap (λ (b : Bool). changed_by b change loan ∷ change_in slot change loans) (alike slot loan.slot here.1)
      ∙ ap (λ (first : Loan T U). first ∷ change_in slot change loans) (ap change it ∙ same ∙ sym (ap other it))
      ∙ ap (λ (more : List (Loan T U)). other loan ∷ more)
      (none_changed change other loans (omega (arith, once, times_cons slot loan.slot (slots loans), some)))
      ∙ sym (ap (λ (b : Bool). changed_by b other loan ∷ change_in slot other loans) (alike slot loan.slot here.1)))
      (λ off.
      let rest = changed_alike change other found loans (sym (found_behind slot loan loans off.0) ∙ is)
      (omega (arith, once, times_cons slot loan.slot (slots loans))) same in
      ap (λ (b : Bool). changed_by b change loan ∷ change_in slot change loans) (unlike slot loan.slot off.1)
      ∙ ap (λ (more : List (Loan T U)). loan ∷ more) rest
      ∙ sym (ap (λ (b : Bool). changed_by b other loan ∷ change_in slot other loans) (unlike slot loan.slot off.1)))
      (eqb_tells loan.slot slot)

  twice_by : (b : Bool) (first second : Loan T U → Loan T U) (loan : Loan T U) (test : Loan T U → Bool) → test loan ≡ b
      → test (changed_by b first loan) ≡ b
      → changed_by (test (changed_by (test loan) first loan)) second (changed_by (test loan) first loan)
      ≡ changed_by (test loan) (λ (it : Loan T U). second (first it)) loan
  twice_by true first second loan test is then =
      ap (λ (b : Bool). changed_by (test (changed_by b first loan)) second (changed_by b first loan)) is
      ∙ ap (λ (b : Bool). changed_by b second (first loan)) then
      ∙ sym (ap (λ (b : Bool). changed_by b (λ (it : Loan T U). second (first it)) loan) is)
  twice_by false first second loan test is then =
      ap (λ (b : Bool). changed_by (test (changed_by b first loan)) second (changed_by b first loan)) is
      ∙ ap (λ (b : Bool). changed_by b second loan) then
      ∙ sym (ap (λ (b : Bool). changed_by b (λ (it : Loan T U). second (first it)) loan) is)

  slot_by : (b : Bool) (first : Loan T U → Loan T U) (loan : Loan T U) → (first loan).slot ≡ loan.slot
      → (changed_by b first loan).slot ≡ loan.slot
  slot_by true first loan keeps = keeps
  slot_by false first loan keeps = refl

  -- two changes are one
  changed_twice : (first second : Loan T U → Loan T U) → ((loan : Loan T U) → (first loan).slot ≡ loan.slot) → (loans : List (Loan T U))
      → change_in slot second (change_in slot first loans) ≡ change_in slot (λ (it : Loan T U). second (first it)) loans
  changed_twice first second keeps [] = refl
  changed_twice first second keeps (loan ∷ loans) =
      ap (λ (it : Loan T U). it ∷ change_in slot second (change_in slot first loans))
      (twice_by (eqb slot loan.slot) first second loan (λ (it : Loan T U). eqb slot it.slot) refl
      (ap (eqb slot) (slot_by (eqb slot loan.slot) first loan (keeps loan))))
      ∙ ap (λ (more : List (Loan T U)). changed_by (eqb slot loan.slot) (λ (it : Loan T U). second (first it)) loan ∷ more)
      (changed_twice first second keeps loans)

  unchanged_by : (b : Bool) (loan : Loan T U) → changed_by b (λ (it : Loan T U). it) loan ≡ loan
  unchanged_by true loan = refl
  unchanged_by false loan = refl

  unchanged : (loans : List (Loan T U)) → change_in slot (λ (it : Loan T U). it) loans ≡ loans
  unchanged [] = refl
  unchanged (loan ∷ loans) =
      ap (λ (it : Loan T U). it ∷ change_in slot (λ (other : Loan T U). other) loans) (unchanged_by (eqb slot loan.slot) loan)
      ∙ ap (λ (more : List (Loan T U)). loan ∷ more) (unchanged loans)

  -- a publisher with other loans
  abbrev pub with_loans : PublisherPort T U → List (Loan T U) → PublisherPort T U
  with_loans port loans = record port { sender = with_uses (record port.sender.uses { loans = loans }) port.sender }

  -- what was there before a place, and what is written from it on
  abbrev written_from : ℕ → List T → Loan T U → Loan T U
  written_from place values loan = record loan { values = take place loan.values ++ map Some values }

  abbrev has_so : ℕ → PublisherPort T U → Bool
  has_so place port = has_place slot place port.sender.uses

  -- values that are written from a place to the end of a loan
  each_is : (place : ℕ) (values : List T) (port : PublisherPort T U) (loan : Loan T U) → in_slot slot port.sender.uses.loans ≡ Some loan
      → times slot (slots port.sender.uses.loans) ≤ 1 → place + length values ≡ length loan.values
      → each_written slot place values port ≡ changed_there slot (written_from place values) port
  each_is place [] port loan found once count =
      let kept : written_from place [] loan ≡ loan =
      ap (λ (values : List (Option T)). record loan { values = values })
      (append-nil (take place loan.values) ∙ take_all place loan.values (omega (arith, count))) in
      sym (ap (with_loans port)
      (changed_alike (written_from place []) (λ (it : Loan T U). it) loan port.sender.uses.loans found once kept
      ∙ unchanged port.sender.uses.loans))
  each_is place (value ∷ values) port loan found once count =
      let within : place < length loan.values = omega (arith, count) in
      let fits : nat_lt place (length loan.values) ≡ true = grind (arith, within) in
      let has : has_so place port ≡ true =
      found_passes slot (λ (one : Loan T U). nat_lt place (length one.values)) port.sender.uses.loans loan found once ∙ fits in
      let keeps : (it : Loan T U) → (write_value place value it).slot ≡ it.slot = (λ it. refl) in
      let next : PublisherPort T U = changed_there slot (write_value place value) port in
      let rest = each_is (place + 1) values next (write_value place value loan)
      (found_changed slot (write_value place value) keeps port.sender.uses.loans
      ∙ ap (λ (it : Option (Loan T U)). option_map (write_value place value) it) found)
      (subst (λ (these : List ℕ). times slot these ≤ 1)
      (sym (slots_same slot (write_value place value) keeps port.sender.uses.loans)) once)
      (omega (arith, count, length-set loan.values place (Some value))) in
      let same : written_from (place + 1) values (write_value place value loan) ≡ written_from place (value ∷ values) loan =
      ap (λ (these : List (Option T)). record loan { values = these })
      (ap (λ (before : List (Option T)). before ++ map Some values) (take_more_set loan.values place (Some value) within)
      ∙ append_assoc (take place loan.values) (Some value ∷ []) (map Some values)) in
      ap (λ (b : Bool). each_written slot (place + 1) values (changed_if b slot (write_value place value) port)) has
      ∙ rest
      ∙ ap (with_loans port)
      (changed_twice (write_value place value) (written_from (place + 1) values) keeps port.sender.uses.loans
      ∙ changed_alike (λ (it : Loan T U). written_from (place + 1) values (write_value place value it))
      (written_from place (value ∷ values)) loan port.sender.uses.loans found once same)

  -- all values of a loan of as many
  all_are : (values : List T) (port : PublisherPort T U) (loan : Loan T U) → in_slot slot port.sender.uses.loans ≡ Some loan
      → times slot (slots port.sender.uses.loans) ≤ 1 → length loan.values ≡ length values
      → each_written slot 0 values port ≡ changed_if (has_length slot (length values) port.sender.uses) slot (write_all values) port
  all_are values port loan found once count =
      let has : has_length slot (length values) port.sender.uses ≡ true =
      found_passes slot (λ (one : Loan T U). eqb (length values) (length one.values)) port.sender.uses.loans loan found once
      ∙ eq-eqb (length values) (length loan.values) (sym count) in
      each_is 0 values port loan found once (omega (arith, count))
      ∙ sym (ap (λ (b : Bool). changed_if b slot (write_all values) port) has)

  pub written_whole : (number : ℕ) (values : List T) (ports : ServicePorts T U) (port : PublisherPort T U) (loan : Loan T U)
      → port_of number ports.publishers ≡ Some port → in_slot slot port.sender.uses.loans ≡ Some loan
      → times slot (slots port.sender.uses.loans) ≤ 1 → length loan.values ≡ length values
      → each_written_in number slot values ports
      ≡ written_in number (λ (one : PublisherPort T U). has_length slot (length values) one.sender.uses) slot (write_all values) ports
  written_whole number values ports port loan there found once count =
      ap (λ (it : Option (PublisherPort T U)). with_these
      (changed_at_port number (each_written slot 0 values) it ports.publishers)) there
      ∙ ap (λ (it : PublisherPort T U). with_these (with_port number ports.publishers it)) (all_are values port loan found once count)
      ∙ sym (ap (λ (it : Option (PublisherPort T U)). with_these
      (changed_at_port number
      (λ (one : PublisherPort T U). changed_if (has_length slot (length values) one.sender.uses) slot (write_all values) one) it
      ports.publishers)) there)
    where
      with_these : List (ℕ × PublisherPort T U) → ServicePorts T U
      with_these publishers = record ports { publishers = publishers }

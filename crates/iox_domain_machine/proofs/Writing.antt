-- What is written in a loan of a domain is written in that of the machine.
use Rattle.std.proofs.Common.{◌≡◌, ◌≢◌, ◌≤◌, ◌<◌, [], ℕ, Bool, true, false, cond, ◌&&◌, List, length, map, set, Option, None, Some}
use Rattle.std.proofs.Common.{refl, sym, ap, subst, inl, inr, ◌∙◌, arith}
use Rattle.std.proofs.Math.Dec.{eqb}
use Rattle.std.proofs.Math.Logic.{⊎_elim}
use Rattle.std.proofs.lemmas.Bool.Decides.{eqb_tells}
use Rattle.std.proofs.lemmas.Map.Steps.{set_value_same}
use Rattle.std.specs.List.{All, list_all}
use Rattle.std.specs.Option.{option_map_or}
use Rattle.std.specs.Prelude.{is_some, nat_lt, option_map, if◌then◌else◌, ◌==◌}
use Rattle.iox_command.specs.declared.reply.Reply.{Reply}
use Rattle.iox_command.specs.declared.reply.Reply.TheVariants as reply
use Rattle.iox_domain.proofs.DomainSlots.Counts.{one}
use Rattle.iox_domain.proofs.Numbered.{at_number, all_then}
use Rattle.iox_domain.specs.DomainPorts.Messages.{Loan, write_value, write_all}
use Rattle.iox_domain.specs.DomainPorts.MessagesSending.{slots_of, is_written_loan, has_place, has_length}
use Rattle.iox_domain.specs.DomainPorts.Publishers.{port_of, with_port}
use Rattle.iox_domain.specs.DomainPorts.Writing.{changed_there, changed_if}
use Rattle.iox_domain.specs.DomainPorts.declared.attached.Taken.{Taken}
use Rattle.iox_domain.specs.DomainPorts.declared.publisher_port.PublisherPort.{PublisherPort}
use Rattle.iox_domain.specs.DomainSlots.Counting.{times}
use Rattle.iox_domain.specs.Lending.{loan_in, passes, passes_port, written_in}
use Rattle.iox_domain.specs.declared.ports.service_ports.ServicePorts.{ServicePorts}
use Rattle.iox_domain_machine.specs.Laws.{SetMatches, FillMatches, done_or_skipped, with_alone}
use Rattle.iox_domain_machine.specs.Naming.{Naming}
use Rattle.iox_domain_machine.specs.Standing.{StandsFor}
use Rattle.iox_domain_machine.specs.Tables.{LentSlot, LoansStandFor, loans_at_port, loan_as}
use Rattle.iox_domain_machine.proofs.Alone.{alone_does}
use Rattle.iox_domain_machine.proofs.Changing.{with_one}
use Rattle.iox_domain_machine.proofs.Entries.{hits, found_counts, all_either, IsEither, IsChanged, changed_mapped}
use Rattle.iox_domain_machine.proofs.Found.{other_found, at_mapped}
use Rattle.iox_domain_machine.proofs.Kept.{out_of, loan_by, slots_by}
use Rattle.iox_domain_machine.proofs.Loans.{slots, in_slot, found_changed, found_other, found_there, found_passes}
use Rattle.iox_domain_machine.proofs.Named.{lent_used}
use Rattle.iox_domain_machine.proofs.Rewriting.{rewritten_now, rewritten_slots, rewritten_stands}
use Rattle.iox_machine.specs.Choices.{Choices}
use Rattle.iox_machine.specs.Message as machine
use Rattle.iox_machine.specs.Ports.{Writes}
use Rattle.iox_machine.specs.Service.{Service}
use Rattle.iox_machine.specs.State.{State, AtOne, counted}
use Rattle.iox_machine.specs.Table.{at, changed}

not_both : {A : Type 0} (b : Bool) → b ≡ true → b ≡ false → A
not_both b is isn't = absurd (wrong (sym is ∙ isn't))
  where
    wrong : true ≡ false → ⊥
    wrong e = cc

-- The loan with this number exists, at this publisher; and no other loan of the publisher is in its slot.
pub record IsThere {T U : Type 0} (ports : ServicePorts T U) (out : LentSlot) : Type 0 where
  pub port : PublisherPort T U
  pub there : port_of out.publisher ports.publishers ≡ Some port
  pub loan : Loan T U
  pub found : in_slot out.slot port.sender.uses.loans ≡ Some loan
  pub once : times out.slot (slots port.sender.uses.loans) ≤ 1

module _ {T U : Type 0} (names : Naming) (lent : List (ℕ × LentSlot)) (held : List (ℕ × Taken)) (buffer : ℕ) (ports : ServicePorts T U)
    (service : Service T) (loan : ℕ) (out : LentSlot) (stands : StandsFor names lent held buffer ports service)
    (goes : at loan lent ≡ Some out) where
  counts : 0 < times out.slot (loans_at_port (port_of out.publisher ports.publishers))
  counts = subst (λ slots. 0 < times out.slot slots) (stands.loans.all out.publisher) (found_counts loan out lent goes)

  there_by : (port : Option (PublisherPort T U)) → port_of out.publisher ports.publishers ≡ port
      → 0 < times out.slot (loans_at_port port) → IsThere ports out
  there_by None none is = absurd (omega (arith, is))
  there_by (Some port) there is =
      let found = found_there out.slot port.sender.uses.loans is in
      let sole = (stands.publishers out.publisher port there).2.named.sole out.slot is in
      record {
        port = port;
        there = there;
        loan = found.0;
        found = found.1;
        once = omega (arith, sole, lent_used (slots_of port.sender) out.slot);
      }

  pub is_there : IsThere ports out
  is_there = there_by (port_of out.publisher ports.publishers) refl counts

  -- each entry is that loan, or is of another number and slot
  pub each_either : All (IsEither loan out) lent
  each_either =
      all_either loan out lent goes (stands.loans.once loan)
      (subst (λ (slots : List ℕ). times out.slot slots ≤ 1)
      (sym (stands.loans.all out.publisher ∙ ap loans_at_port is_there.there)) is_there.once)

  pub loan_found : loan_in out.publisher out.slot ports ≡ Some is_there.loan
  loan_found = loan_by out.slot (port_of out.publisher ports.publishers) ∙ ap (λ port. in_slot out.slot (out_of port)) is_there.there
      ∙ is_there.found

  pub goes_there : at loan service.loans ≡ Some (loan_as names ports out)
  goes_there =
      ap (λ loans. at loan loans) stands.loans.same ∙ at_mapped (loan_as names ports) loan lent ∙ ap (option_map (loan_as names ports)) goes

  pub same_values : (loan_as names ports out).values ≡ is_there.loan.values
  same_values = ap (λ (found : Option (Loan T U)). option_map_or (λ (one : Loan T U). one.values) found []) loan_found

  module _ (change : Loan T U → Loan T U) (keeps : (one : Loan T U) → (change one).slot ≡ one.slot) where
    abbrev whose : PublisherPort T U
    whose = is_there.port

    abbrev after : PublisherPort T U
    after = changed_there out.slot change whose

    abbrev new : ServicePorts T U
    new = with_one out.publisher after ports

    now : port_of out.publisher new.publishers ≡ Some after
    now = rewritten_now ports out.publisher out.slot whose is_there.there change

    abbrev written : machine.Loan T
    written = record (loan_as names ports out) { values = (change is_there.loan).values }

    here_now : loan_as names new out ≡ written
    here_now =
        ap (λ (found : Option (Loan T U)). record {
          publisher = names.publisher out.publisher;
          number = names.message out.publisher out.slot;
          values = option_map_or (λ (one : Loan T U). one.values) found [];
        }) (loan_by out.slot (port_of out.publisher new.publishers) ∙ ap (λ port. in_slot out.slot (out_of port)) now
        ∙ found_changed out.slot change keeps whose.sender.uses.loans ∙ ap (option_map change) is_there.found)

    elsewhere : (other : LentSlot) → hits out other ≡ 0
        → in_slot other.slot (out_of (port_of other.publisher new.publishers)) ≡ in_slot other.slot (out_of
        (port_of other.publisher ports.publishers))
    elsewhere other misses = ⊎_elim
        (λ same.
        let off : other.slot ≢ out.slot = λ it. absurd (omega (
          arith,
          misses,
          ap (λ b. cond b
              (one out.slot other.slot) 0) same.0,
          one_is other.slot it,
        )) in
        ap (λ n. in_slot other.slot (out_of (port_of n new.publishers))) same.1 ∙ ap (λ port. in_slot other.slot (out_of port)) now
        ∙ found_other out.slot change keeps other.slot whose.sender.uses.loans off
        ∙ sym (ap (λ n. in_slot other.slot (out_of (port_of n ports.publishers))) same.1
        ∙ ap (λ port. in_slot other.slot (out_of port)) is_there.there))
        (λ not. ap (λ port. in_slot other.slot (out_of port)) (other_found out.publisher other.publisher after ports.publishers not.1))
        (eqb_tells other.publisher out.publisher)
      where
        one_is : (slot : ℕ) → slot ≡ out.slot → one out.slot slot ≡ 1
        one_is slot it = ap (λ b. cond b 1 0) (⊎_elim (λ same. same.0) (λ other. absurd (other.1 (sym it))) (eqb_tells out.slot slot))

    not_here : (other : LentSlot) → hits out other ≡ 0 → loan_as names new other ≡ loan_as names ports other
    not_here other misses =
        ap (λ (found : Option (Loan T U)). record {
          publisher = names.publisher other.publisher;
          number = names.message other.publisher other.slot;
          values = option_map_or (λ (one : Loan T U). one.values) found [];
        }) (loan_by other.slot (port_of other.publisher new.publishers) ∙ elsewhere other misses
        ∙ sym (loan_by other.slot (port_of other.publisher ports.publishers)))

    each : (entry : ℕ × LentSlot) → IsEither loan out entry → IsChanged loan written (loan_as names ports) (loan_as names new) entry
    each entry (inl is) = (λ on. ap (loan_as names new) is.1 ∙ here_now, λ off. not_both (entry.0 == loan) is.0 off)
    each entry (inr is) = (λ on. not_both (entry.0 == loan) on is.0, λ off. not_here entry.1 is.1)

    loans_after : LoansStandFor names new lent (changed loan written service.loans)
    loans_after = record {
      same = ap (λ loans. changed loan written loans) stands.loans.same
          ∙ changed_mapped loan written (loan_as names ports) (loan_as names new) lent
          (all_then (IsEither loan out) (IsChanged loan written (loan_as names ports) (loan_as names new)) lent each each_either);
      once = stands.loans.once;
      all = λ other. stands.loans.all other ∙ slots_by (port_of other ports.publishers)
          ∙ rewritten_slots ports out.publisher out.slot whose is_there.there change keeps other
          (⊎_elim (λ same. inl same.1) (λ not. inr not.1) (eqb_tells other out.publisher))
          ∙ sym (slots_by (port_of other new.publishers));
    }

    pub written_stands : StandsFor names lent held buffer new (record service { loans = changed loan written service.loans })
    written_stands =
        rewritten_stands names lent held buffer ports service stands out.publisher out.slot whose is_there.there change keeps
        (changed loan written service.loans) loans_after

-- a loan of a domain changes, or nothing does
abbrev pub written_if : {T U : Type 0} → Bool → LentSlot → PublisherPort T U → (Loan T U → Loan T U) → ServicePorts T U → ServicePorts T U
written_if fits out port change ports = if fits then with_one out.publisher (changed_there out.slot change port) ports else ports

written_by : {T U : Type 0} (fits : Bool) (out : LentSlot) (port : PublisherPort T U) (change : Loan T U → Loan T U)
    (ports : ServicePorts T U)
    → port_of out.publisher ports.publishers ≡ Some port
    → record ports {
      publishers = with_port out.publisher ports.publishers
          (changed_if fits out.slot change port);
    } ≡ written_if fits out port change ports
written_by true out port change ports there = refl
written_by {T} {U} false out port change ports there =
    ap (λ (publishers : List (ℕ × PublisherPort T U)). record ports { publishers = publishers }) (set_value_same
    (at_number out.publisher) ports.publishers port there)

-- what is written where that passes a test
pub written_is : {T U : Type 0} (test : PublisherPort T U → Bool) (out : LentSlot) (port : PublisherPort T U)
    (change : Loan T U → Loan T U) (ports : ServicePorts T U)
    → port_of out.publisher ports.publishers ≡ Some port
    → written_in out.publisher test out.slot change ports ≡ written_if (test port) out port change ports
written_is test out port change ports there = rw there (written_by (test port) out port change ports there)

module _ {T U : Type 0} (names : Naming) (lent : List (ℕ × LentSlot)) (held : List (ℕ × Taken)) (buffer : ℕ) (ports : ServicePorts T U)
    (service : Service T) (state : State T) (loan : ℕ) (out : LentSlot) (stands : StandsFor names lent held buffer ports service)
    (goes : at loan lent ≡ Some out) (fit_of : machine.Loan T → Bool) (values_of : machine.Loan T → List (Option T))
    (change : Loan T U → Loan T U) (keeps : (one : Loan T U) → (change one).slot ≡ one.slot) where
  abbrev gone : IsThere ports out
  gone = is_there names lent held buffer ports service loan out stands goes

  abbrev Does : machine.Loan T → Service T → Reply T → Service T → Type 0
  Does one = Writes loan one (fit_of one) (values_of one)

  -- the machine writes it, or nothing happens
  pub writes : values_of (loan_as names ports out) ≡ (change gone.loan).values → (fits : Bool) → fit_of (loan_as names ports out) ≡ fits
      → (after : Service T)
      × AtOne (λ (one : Service T). at loan one.loans) Does (with_alone service state) (done_or_skipped fits) (record
      (with_alone after state) { made = counted {T = T} (done_or_skipped fits) state.made })
      × StandsFor names lent held buffer (written_if fits out gone.port change ports) after
  writes are_values true fits =
      let written : machine.Loan T = record (loan_as names ports out) { values = (change gone.loan).values } in
      let after : Service T = record service { loans = changed loan written service.loans } in (
        after,
        alone_does (λ (one : Service T). at loan one.loans) Does state service after reply.Done (loan_as names ports out)
            (goes_there names lent held buffer ports service loan out stands goes)
            (rw fits (
              refl,
              ap (λ (values : List (Option T)). record service {
                loans = changed loan (record
                    (loan_as names ports out) { values = values }) service.loans;
              }) (sym are_values),
            )),
        written_stands names lent held buffer ports service loan out stands goes change keeps,
      )
  writes are_values false fits = (
    service,
    alone_does (λ (one : Service T). at loan one.loans) Does state service service reply.Skipped (loan_as names ports out)
        (goes_there names lent held buffer ports service loan out stands goes) (rw fits (refl, refl)),
    stands,
  )

passes_there : {T U : Type 0} (test : PublisherPort T U → Bool) (number : ℕ) (port : PublisherPort T U) (ports : ServicePorts T U)
    → port_of number ports.publishers ≡ Some port → passes number test ports ≡ test port
passes_there test number port ports there = ap (passes_port test) there

and_if : (one other : Bool) → (one && other) ≡ (if one then other else false)
and_if true other = refl
and_if false other = refl

if_if : {A : Type 0} (one other : Bool) (x y : A)
    → (if one then (if other then x else y) else y) ≡ (if (if one then other else false) then x else y)
if_if true other x y = refl
if_if false other x y = refl

pub set_matches : (T U : Type 0) (choices : Choices T) → SetMatches T U choices
set_matches T U choices types buffer names lent held ports service state loan place value out stands goes =
    let gone = is_there names lent held buffer ports service loan out stands goes in
    let values = same_values names lent held buffer ports service loan out stands goes in
    let found = loan_found names lent held buffer ports service loan out stands goes in
    let test : PublisherPort T U → Bool = λ port. has_place out.slot place port.sender.uses in
    let change : Loan T U → Loan T U = write_value place value in
    let has : passes out.publisher test ports ≡ nat_lt place (length gone.loan.values) =
    passes_there test out.publisher gone.port ports gone.there
    ∙ found_passes out.slot (λ (one : Loan T U). nat_lt place
    (length one.values)) gone.port.sender.uses.loans gone.loan gone.found gone.once in
    let fits : (list_all is_some (loan_as names ports out).values && nat_lt place (length (loan_as names ports out).values))
    ≡ (if is_written_loan (loan_in out.publisher out.slot ports) then passes out.publisher test ports else false) =
    ap (λ (values : List (Option T)). list_all is_some values && nat_lt place (length values)) values
    ∙ and_if (list_all is_some gone.loan.values) (nat_lt place (length gone.loan.values))
    ∙ sym (ap (λ (one : Option (Loan T U)). if is_written_loan one then passes out.publisher test ports else false) found
    ∙ ap (λ b. if list_all is_some gone.loan.values then b else false) has) in
    let result = writes names lent held buffer ports service state loan out stands goes
    (λ one. list_all is_some one.values && nat_lt place (length one.values)) (λ one. set one.values place (Some value)) change (λ one. refl)
    (ap (λ (values : List (Option T)). set values place (Some value)) values)
    (if is_written_loan (loan_in out.publisher out.slot ports) then passes out.publisher test ports else false) fits in (
      result.0,
      result.1,
      subst (λ (ports_after : ServicePorts T U). StandsFor names lent held buffer ports_after result.0)
          (sym (ap (λ (written : ServicePorts T U). if is_written_loan (loan_in out.publisher out.slot ports) then written else ports)
          (written_is test out gone.port change ports gone.there
          ∙ ap (λ b. written_if b out gone.port change ports) (sym (passes_there test out.publisher gone.port ports gone.there)))
          ∙ if_if (is_written_loan (loan_in out.publisher out.slot ports)) (passes out.publisher test ports) (with_one out.publisher
          (changed_there out.slot change gone.port) ports) ports))
          result.2,
    )

pub fill_matches : (T U : Type 0) (choices : Choices T) → FillMatches T U choices
fill_matches T U choices types buffer names lent held ports service state loan values out stands goes =
    let gone = is_there names lent held buffer ports service loan out stands goes in
    let test : PublisherPort T U → Bool = λ port. has_length out.slot (length values) port.sender.uses in
    let change : Loan T U → Loan T U = write_all values in
    let fits : (length values == length (loan_as names ports out).values) ≡ passes out.publisher test ports =
    ap (λ (values_there : List (Option T)). length values == length values_there)
    (same_values names lent held buffer ports service loan out stands goes)
    ∙ sym (passes_there test out.publisher gone.port ports gone.there
    ∙ found_passes out.slot (λ (one : Loan T U). eqb (length values)
    (length one.values)) gone.port.sender.uses.loans gone.loan gone.found gone.once) in
    let result = writes names lent held buffer ports service state loan out stands goes
    (λ one. length values == length one.values) (λ one. map Some values) change (λ one. refl) refl
    (passes out.publisher test ports) fits in (
      result.0,
      result.1,
      subst (λ (ports_after : ServicePorts T U). StandsFor names lent held buffer ports_after result.0)
          (sym (written_is test out gone.port change ports gone.there
          ∙ ap (λ b. written_if b out gone.port change ports) (sym (passes_there test out.publisher gone.port ports gone.there))))
          result.2,
    )

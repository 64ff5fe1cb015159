-- Where a publisher of the domain loaned a slot, the domain's ports represent the machine's service after its publisher loaned its
-- next message.
use Rattle.std.proofs.Common.{◌≡◌, ◌≢◌, ◌≤◌, ◌<◌, ◌+◌, ◌⊎◌, ◌∷◌, [], ◌++◌, ℕ, cond, List, map, nat_le, replicate, Option, None, Some}
use Rattle.std.proofs.Common.{refl, sym, ap, subst, inl, inr, ◌∙◌, arith}
use Rattle.std.proofs.lemmas.Bool.{cases_eq, eq-eqb, ne_eqb}
use Rattle.std.proofs.lemmas.List.{map-append}
use Rattle.std.specs.Map.{keys_of}
use Rattle.std.specs.Option.{option_map_or}
use Rattle.iox_domain.proofs.DomainSlots.Counts.{one, times_append, one_same, one_at_most}
use Rattle.iox_domain.proofs.Numbered.{at_number, same_set}
use Rattle.iox_domain.specs.DomainPorts.Messages as domain
use Rattle.iox_domain.specs.DomainPorts.Messages.{Loan, new_loan}
use Rattle.iox_domain.specs.DomainPorts.MessagesSending.{slots_of}
use Rattle.iox_domain.specs.DomainPorts.Ports.{connection_of}
use Rattle.iox_domain.specs.DomainPorts.Publishers.{port_of, connection_at_port}
use Rattle.iox_domain.specs.DomainPorts.declared.attached.Taken.{Taken}
use Rattle.iox_domain.specs.DomainPorts.declared.publisher_port.PublisherPort.{PublisherPort}
use Rattle.iox_domain.specs.DomainSlots.Counting.{times}
use Rattle.iox_domain.specs.DomainSlots.Uses.{in_use}
use Rattle.iox_domain.specs.Tries.{how_often}
use Rattle.iox_domain.specs.declared.ports.service_ports.ServicePorts.{ServicePorts}
use Rattle.iox_domain_machine.specs.Mailboxes.{MailboxesStandFor}
use Rattle.iox_domain_machine.specs.Naming.{Naming, with_name}
use Rattle.iox_domain_machine.specs.Publishers.{PublisherStandsFor}
use Rattle.iox_domain_machine.specs.Standing.{StandsFor, PublisherIs}
use Rattle.iox_domain_machine.specs.Tables.{LentSlot, LoansStandFor, SamplesStandFor, loan_as, sample_as, slots_lent_by, slots_held_of}
use Rattle.iox_domain_machine.specs.Tables.{loans_at_port}
use Rattle.iox_domain_machine.proofs.Changing.{one_changed, with_one}
use Rattle.iox_domain_machine.proofs.Entries.{hits}
use Rattle.iox_domain_machine.proofs.Found.{at_changed, at_changed_other, other_found}
use Rattle.iox_domain_machine.proofs.Kept.{out_of, loan_by, samples_kept}
use Rattle.iox_domain_machine.proofs.LendingNames.{named, named_it, named_other, lent_at, not_held, not_lent, loans_end, port_now}
use Rattle.iox_domain_machine.proofs.LendingNames.{boxes_now}
use Rattle.iox_domain_machine.proofs.LendingTally.{is_none}
use Rattle.iox_domain_machine.proofs.LendingTables.{not_there, often_end, found_end, other_end, lent_kept, lent_end, others_end, held_kept}
use Rattle.iox_domain_machine.proofs.LendingUses.{message_slots}
use Rattle.iox_domain_machine.proofs.Loans.{in_slot}
use Rattle.iox_machine.specs.Message as machine
use Rattle.iox_machine.specs.Service.{Service, Publisher}
use Rattle.iox_machine.proofs.Shorthands as shorthands
use Rattle.iox_machine.specs.Table.{at, changed}

module _ {T U : Type 0} (names : Naming) (lent : List (ℕ × LentSlot)) (held : List (ℕ × Taken)) (buffer : ℕ) (ports : ServicePorts T U)
    (old : Service T) (number : ℕ) (port : PublisherPort T U) (loan slot values room segments first : ℕ)
    (stands : StandsFor names lent held buffer ports old) (there : port_of number ports.publishers ≡ Some port)
    (free : port.sender.uses.sending ≡ None) (unused : times slot (in_use (slots_of port.sender)) ≡ 0)
    (fresh : at loan lent ≡ None) where
  abbrev was : PublisherIs names ports old number port
  was = stands.publishers number port there

  abbrev next : ℕ
  next = was.0.next

  abbrev out : LentSlot
  out = record { publisher = number; slot = slot }

  abbrev names_after : Naming
  names_after = record names { message = with_name number (with_name slot next (names.message number)) names.message }

  abbrev after : PublisherPort T U
  after = lent_at slot values room segments first port

  abbrev new : ServicePorts T U
  new = with_one number after ports

  abbrev made : machine.Loan T
  made = record { publisher = names.publisher number; number = next; values = replicate values None }

  now : port_of number new.publishers ≡ Some after
  now = same_set (at_number number) ports.publishers after port there

  here : names_after.message number ≡ named slot next (names.message number)
  here = ap (λ b. cond b (named slot next (names.message number)) (names.message number)) (eq-eqb number number refl)

  elsewhere : (other : ℕ) → other ≢ number → names_after.message other ≡ names.message other
  elsewhere other off = ap (λ b. cond b (named slot next (names.message number)) (names.message other)) (ne_eqb other number off)

  -- the message in another slot, or of another publisher, has the name that it had
  name_kept : (which at_slot : ℕ) → (which ≡ number → at_slot ≢ slot) → (which ≡ number) ⊎ (which ≢ number)
      → names.message which at_slot ≡ names_after.message which at_slot
  name_kept which at_slot apart (inl is) =
      ap (λ n. names.message n at_slot) is
      ∙ sym (named_other slot next (names.message number) at_slot (apart is))
      ∙ sym (ap (λ n. names_after.message n at_slot) is ∙ ap (λ name. name at_slot) here)
  name_kept which at_slot apart (inr off) = sym (ap (λ name. name at_slot) (elsewhere which off))

  none_lent : times slot (slots_of port.sender).loans ≡ 0
  none_lent = not_lent (names.message number) (names.reader number) ports.sizes.max_subscribers port was.0 was.2 free slot values unused

  lent_here : slots_lent_by number lent ≡ (slots_of port.sender).loans
  lent_here = stands.loans.all number ∙ ap loans_at_port there

  made_here : loan_as names_after new out ≡ made
  made_here =
      ap (λ n. record { publisher = names.publisher number; number = n; values = (loan_as names_after new out).values })
      (ap (λ name. name slot) here ∙ named_it slot next (names.message number))
      ∙ ap (λ (found : Option (Loan T U)). record {
        publisher = names.publisher number;
        number = next;
        values = option_map_or (λ (one : Loan T U). one.values) found [];
      }) (loan_by slot (port_of number new.publishers) ∙ ap (λ found. in_slot slot (out_of found)) now
      ∙ found_end slot port.sender.uses.loans (new_loan slot values values port.sender.user_header) none_lent refl)

  misses : (other : LentSlot) → hits out other ≡ 0 → other.publisher ≡ number → other.slot ≢ slot
  misses other none is it =
      absurd (omega (
        arith,
        none,
        ap (λ b. cond b (one slot other.slot) 0) (eq-eqb other.publisher number is),
        ap (one slot) it,
        one_same slot,
      ))

  out_kept : (other : LentSlot) → hits out other ≡ 0 → (other.publisher ≡ number) ⊎ (other.publisher ≢ number)
      → in_slot other.slot (out_of (port_of other.publisher ports.publishers))
      ≡ in_slot other.slot (out_of (port_of other.publisher new.publishers))
  out_kept other none (inl is) =
      ap (λ n. in_slot other.slot (out_of (port_of n ports.publishers))) is ∙ ap (λ found. in_slot other.slot (out_of found)) there
      ∙ sym (ap (λ n. in_slot other.slot (out_of (port_of n new.publishers))) is ∙ ap (λ found. in_slot other.slot (out_of found)) now
      ∙ other_end other.slot port.sender.uses.loans (new_loan slot values values port.sender.user_header)
      (λ same. misses other none is (sym same)))
  out_kept other none (inr off) =
      ap (λ found. in_slot other.slot (out_of found)) (sym (other_found number other.publisher after ports.publishers off))

  loan_kept : (other : LentSlot) → hits out other ≡ 0 → loan_as names ports other ≡ loan_as names_after new other
  loan_kept other none =
      ap (λ n. record { publisher = names.publisher other.publisher; number = n; values = (loan_as names ports other).values })
      (name_kept other.publisher other.slot (misses other none) (cases_eq other.publisher number))
      ∙ ap (λ (found : Option (Loan T U)). record {
        publisher = names.publisher other.publisher;
        number = names_after.message other.publisher other.slot;
        values = option_map_or (λ (one : Loan T U). one.values) found [];
      }) (loan_by other.slot (port_of other.publisher ports.publishers)
      ∙ out_kept other none (cases_eq other.publisher number)
      ∙ sym (loan_by other.slot (port_of other.publisher new.publishers)))

  lent_now : (other : ℕ) → (other ≡ number) ⊎ (other ≢ number)
      → slots_lent_by other (lent ++ (loan, out) ∷ []) ≡ loans_at_port (port_of other new.publishers)
  lent_now other (inl is) =
      ap (λ n. slots_lent_by n (lent ++ (loan, out) ∷ [])) is ∙ lent_end loan out lent ∙ ap (λ all. all ++ slot ∷ []) lent_here
      ∙ sym (ap (λ n. loans_at_port (port_of n new.publishers)) is ∙ ap loans_at_port now
      ∙ loans_end (names.message number) (names.reader number) ports.sizes.max_subscribers port was.0 was.2 free slot values unused room
      segments first)
  lent_now other (inr off) =
      others_end loan other out lent off ∙ stands.loans.all other
      ∙ ap loans_at_port (sym (other_found number other after ports.publishers off))

  loans_now : LoansStandFor names_after new (lent ++ (loan, out) ∷ []) (old.loans ++ (loan, made) ∷ [])
  loans_now = record {
    same = ap (λ loans. loans ++ (loan, made) ∷ []) (stands.loans.same
        ∙ lent_kept out (loan_as names ports) (loan_as names_after new) lent (ap (times slot) lent_here ∙ none_lent) loan_kept)
        ∙ ap (λ (one : machine.Loan T). map (λ (entry : ℕ × LentSlot). (entry.0, loan_as names_after new entry.1)) lent
        ++ (loan, one) ∷ []) (sym made_here)
        ∙ sym (map-append (λ (entry : ℕ × LentSlot). (entry.0, loan_as names_after new entry.1)) lent ((loan, out) ∷ []));
    once = λ which. once which (cases_eq which loan);
    all = λ other. lent_now other (cases_eq other number);
  }
    where
      once : (which : ℕ) → (which ≡ loan) ⊎ (which ≢ loan) → how_often which (keys_of (lent ++ (loan, out) ∷ [])) ≤ 1
      once which (inl is) =
          omega (
            arith,
            often_end which lent (loan, out),
            one_at_most which loan,
            ap (λ n. how_often n (keys_of lent)) is,
            not_there loan lent fresh,
          )
      once which (inr off) =
          omega (arith, often_end which lent (loan, out), is_none which loan (λ same. off (sym same)), stands.loans.once which)

  samples_now : SamplesStandFor names_after new held old.samples
  samples_now =
      let kept = samples_kept number port after ports there names held old.samples refl stands.samples in record {
        same = kept.same
            ∙ held_kept number slot (sample_as names new) (sample_as names_after new) held none_held sample_kept;
        once = kept.once;
        all = kept.all;
        whose = kept.whose;
        counted = kept.counted;
      }
    where
      sample_kept : (taken : Taken) → (taken.publisher ≡ number → taken.slot ≢ slot)
          → sample_as names new taken ≡ sample_as names_after new taken
      sample_kept taken apart =
          ap (λ n. record {
            publisher = names.publisher taken.publisher;
            subscriber = names.subscriber taken.subscriber;
            message = record (sample_as names new taken).message { number = n };
          }) (name_kept taken.publisher taken.slot apart (cases_eq taken.publisher number))

      none_held : (index : ℕ) → times slot (slots_held_of number index held) ≡ 0
      none_held index =
          let connection = connection_of index port in
          let both = ap (times slot) (map-append (λ (message : domain.Message T U). message.slot) (connection_of index port).waiting
          (connection_of index port).borrowed) in
          let sum = times_append slot (message_slots connection.waiting) (message_slots connection.borrowed) in
          let none = not_held (names.message number) (names.reader number) ports.sizes.max_subscribers port was.0 was.2 free slot values
          unused index in
          let borrowed = ap (times slot) (stands.samples.all number index)
          ∙ ap (λ found. times slot (message_slots (connection_at_port index found).borrowed)) there in
          omega (arith, borrowed, none, both, sum)

  module _ (machine_room machine_segments machine_first : ℕ) (same_room : machine_room ≡ room) (same_segments : machine_segments ≡ segments)
      (ahead : machine_first ≤ next) (grows : port.sender.uses.first ≤ first) (low : first ≤ slot)
      (high : slot < first + port.sender.uses.size)
      (current : (which : ℕ) → 0 < times which (in_use (slots_of port.sender))
      → nat_le machine_first (names.message number which) ≡ nat_le first which) where
    abbrev pub publisher_after : Publisher T
    publisher_after = record was.0 { room = machine_room; segments = machine_segments; first = machine_first; next = next + 1 }

    abbrev pub service_after : Service T
    service_after = record (shorthands.with_publisher (names.publisher number) publisher_after old) {
      loans = old.loans ++ (loan, made) ∷ [];
    }

    pub lent_stands : StandsFor names_after (lent ++ (loan, out) ∷ []) held buffer new service_after
    lent_stands =
        one_changed names names_after.message lent (lent ++ (loan, out) ∷ []) held buffer ports old number port after publisher_after
        (changed (names.publisher number) publisher_after old.publishers) (old.loans ++ (loan, made) ∷ []) stands there elsewhere
        (at_changed (names.publisher number) publisher_after was.0 old.publishers was.1)
        (λ other off. at_changed_other (names.publisher number) other publisher_after old.publishers off)
        (subst (λ name. PublisherStandsFor name (names.reader number) ports.sizes.max_subscribers after publisher_after) (sym here)
        (port_now (names.message number) (names.reader number) ports.sizes.max_subscribers port was.0 was.2 free slot values unused room
        segments first machine_first ahead grows low high current machine_room machine_segments same_room same_segments))
        (subst (λ name. MailboxesStandFor name (names.reader number) names.subscriber after
        (old.mailboxes (names.publisher number)) old.subscribers) (sym here)
        (boxes_now (names.message number) (names.reader number) ports.sizes.max_subscribers port was.0 was.2 free slot values unused room
        segments first names.subscriber (old.mailboxes (names.publisher number)) old.subscribers was.3))
        refl refl refl refl loans_now samples_now

-- A loan is given up, of a domain and of the machine.
use Rattle.std.proofs.Common.{◌≡◌, ◌≢◌, ◌≤◌, ◌⊎◌, [], ◌++◌, ℕ, true, cond, List, Option, Some, refl, sym, ap, subst, inl, inr, ◌∙◌, arith}
use Rattle.std.proofs.Math.Logic.{⊎_elim}
use Rattle.std.proofs.lemmas.Bool.Decides.{eqb_tells}
use Rattle.std.specs.List.{position_or_len}
use Rattle.std.specs.Option.{option_map_or}
use Rattle.std.specs.Prelude.{is_some, option_to_list, ◌==◌}
use Rattle.iox_command.specs.declared.reply.Reply.{Reply}
use Rattle.iox_command.specs.declared.reply.Reply.TheVariants as reply
use Rattle.iox_domain.proofs.DomainSlots.Counts.{one, times_append}
use Rattle.iox_domain.proofs.Numbered.{at_number, found_of_all, same_set}
use Rattle.iox_domain.specs.DomainPorts.Messages.{Loan}
use Rattle.iox_domain.specs.DomainPorts.MessagesSending.{slots_of}
use Rattle.iox_domain.specs.DomainPorts.Publishers.{port_of}
use Rattle.iox_domain.specs.DomainPorts.Sending.{dropped_at}
use Rattle.iox_domain.specs.DomainPorts.Writing.{place_of}
use Rattle.iox_domain.specs.DomainPorts.declared.attached.Taken.{Taken}
use Rattle.iox_domain.specs.DomainPorts.declared.publisher_port.PublisherPort.{PublisherPort}
use Rattle.iox_domain.specs.DomainSlots.Counting.{times}
use Rattle.iox_domain.specs.DomainSlots.Uses.{held, in_use}
use Rattle.iox_domain.specs.Lending.{gave_up_in, passes, passes_port}
use Rattle.iox_domain.specs.PortLawsLaws.{IsSound, IsSoundEntry}
use Rattle.iox_domain.specs.declared.ports.service_ports.ServicePorts.{ServicePorts}
use Rattle.iox_domain_machine.specs.Laws.{DropMatches}
use Rattle.iox_domain_machine.specs.Mailboxes.{MailboxesStandFor}
use Rattle.iox_domain_machine.specs.Naming.{Naming}
use Rattle.iox_domain_machine.specs.Publishers.{PublisherStandsFor}
use Rattle.iox_domain_machine.specs.Standing.{StandsFor, PublisherIs}
use Rattle.iox_domain_machine.specs.Tables.{LentSlot, LoansStandFor, loan_as, slots_lent_by, loans_at_port}
use Rattle.iox_domain_machine.proofs.Alone.{alone_does}
use Rattle.iox_domain_machine.proofs.Changing.{one_changed, with_one}
use Rattle.iox_domain_machine.proofs.Entries.{hits}
use Rattle.iox_domain_machine.proofs.Found.{other_found}
use Rattle.iox_domain_machine.proofs.Kept.{out_of, loan_by, samples_kept}
use Rattle.iox_domain_machine.proofs.Loans.{slots, in_slot, alike}
use Rattle.iox_domain_machine.proofs.Named.{named_less, lent_used}
use Rattle.iox_domain_machine.proofs.Removing.{placed, but, but_less, slots_without, found_without, often_removed, lent_removed}
use Rattle.iox_domain_machine.proofs.Removing.{others_lent, removed_mapped}
use Rattle.iox_domain_machine.proofs.Settling.{settled_stands}
use Rattle.iox_domain_machine.proofs.Writing.{IsThere, is_there, each_either, goes_there}
use Rattle.iox_machine.specs.Choices.{Choices}
use Rattle.iox_machine.specs.Message as machine
use Rattle.iox_machine.specs.Service.{Service}
use Rattle.iox_machine.specs.Table.{at, removed}

module _ {T U : Type 0} (names : Naming) (lent : List (ℕ × LentSlot)) (held : List (ℕ × Taken)) (buffer : ℕ) (ports : ServicePorts T U)
    (service : Service T) (loan : ℕ) (out : LentSlot) (stands : StandsFor names lent held buffer ports service)
    (goes : at loan lent ≡ Some out) where
  abbrev there : IsThere ports out
  there = is_there names lent held buffer ports service loan out stands goes

  abbrev whose : PublisherPort T U
  whose = there.port

  abbrev pub place : ℕ
  place = position_or_len (λ (one : Loan T U). one.slot == out.slot) whose.sender.uses.loans

  abbrev pub after : PublisherPort T U
  after = dropped_at place whose

  abbrev new : ServicePorts T U
  new = with_one out.publisher after ports

  pub is_placed : place_of out.slot whose ≡ Some place
  is_placed = placed (λ (one : Loan T U). one.slot == out.slot) whose.sender.uses.loans there.loan there.found

  now : port_of out.publisher new.publishers ≡ Some after
  now = same_set (at_number out.publisher) ports.publishers after whose there.there

  pub fewer : slots after.sender.uses.loans ≡ but out.slot (slots whose.sender.uses.loans)
  fewer = slots_without out.slot whose.sender.uses.loans there.once

  elsewhere : (other : LentSlot) → hits out other ≡ 0
      → in_slot other.slot (out_of (port_of other.publisher new.publishers)) ≡ in_slot other.slot (out_of
      (port_of other.publisher ports.publishers))
  elsewhere other misses = ⊎_elim
      (λ same.
      let off : other.slot ≢ out.slot = λ it. absurd (omega (
        arith,
        misses,
        ap (λ b. cond b
            (one out.slot other.slot) 0) same.0,
        one_is it,
      )) in
      ap (λ n. in_slot other.slot (out_of (port_of n new.publishers))) same.1 ∙ ap (λ port. in_slot other.slot (out_of port)) now
      ∙ found_without out.slot other.slot whose.sender.uses.loans off
      ∙ sym (ap (λ n. in_slot other.slot (out_of (port_of n ports.publishers))) same.1
      ∙ ap (λ port. in_slot other.slot (out_of port)) there.there))
      (λ not. ap (λ port. in_slot other.slot (out_of port)) (other_found out.publisher other.publisher after ports.publishers not.1))
      (eqb_tells other.publisher out.publisher)
    where
      one_is : other.slot ≡ out.slot → one out.slot other.slot ≡ 1
      one_is it = ap (λ b. cond b 1 0) (alike out.slot other.slot it)

  not_here : (other : LentSlot) → hits out other ≡ 0 → loan_as names new other ≡ loan_as names ports other
  not_here other misses =
      ap (λ (found : Option (Loan T U)). record {
        publisher = names.publisher other.publisher;
        number = names.message other.publisher other.slot;
        values = option_map_or (λ (one : Loan T U). one.values) found [];
      }) (loan_by other.slot (port_of other.publisher new.publishers) ∙ elsewhere other misses
      ∙ sym (loan_by other.slot (port_of other.publisher ports.publishers)))

  lent_now : (other : ℕ) → (other ≡ out.publisher) ⊎ (other ≢ out.publisher)
      → slots_lent_by other (removed loan lent) ≡ loans_at_port (port_of other new.publishers)
  lent_now other (inl same) =
      ap (λ n. slots_lent_by n (removed loan lent)) same
      ∙ lent_removed loan out lent (each_either names lent held buffer ports service loan out stands goes)
      ∙ ap (but out.slot) (stands.loans.all out.publisher ∙ ap loans_at_port there.there) ∙ sym fewer
      ∙ sym (ap (λ n. loans_at_port (port_of n new.publishers)) same ∙ ap loans_at_port now)
  lent_now other (inr off) =
      others_lent loan out other lent off (each_either names lent held buffer ports service loan out stands goes) ∙ stands.loans.all other
      ∙ ap loans_at_port (sym (other_found out.publisher other after ports.publishers off))

  pub loans_after : LoansStandFor names new (removed loan lent) (removed loan service.loans)
  loans_after = record {
    same = ap (removed loan) stands.loans.same
        ∙ removed_mapped loan out (loan_as names ports) (loan_as names new) lent not_here
        (each_either names lent held buffer ports service loan out stands goes);
    once = λ number. let before = stands.loans.once number in omega (arith, before, often_removed loan number lent);
    all = λ other. lent_now other (⊎_elim (λ same. inl same.1) (λ not. inr not.1) (eqb_tells other out.publisher));
  }

  was : PublisherIs names ports service out.publisher whose
  was = stands.publishers out.publisher whose there.there

  fewer_lent : (slot : ℕ) → times slot (slots after.sender.uses.loans) ≤ times slot (slots whose.sender.uses.loans)
  fewer_lent slot = subst (λ (all : List ℕ). times slot all ≤ times slot (slots whose.sender.uses.loans)) (sym fewer)
      (but_less out.slot slot (slots whose.sender.uses.loans))

  fewer_used : (slot : ℕ) → times slot (in_use (slots_of after.sender)) ≤ times slot (in_use (slots_of whose.sender))
  fewer_used slot = used (option_to_list (slots_of whose.sender).sending) (slots after.sender.uses.loans)
      (slots whose.sender.uses.loans) _ (fewer_lent slot)
    where
      used : (sending less more rest : List ℕ) → times slot less ≤ times slot more
          → times slot (sending ++ (less ++ rest)) ≤ times slot (sending ++ (more ++ rest))
      used sending less more rest fewer =
          omega (
            arith,
            fewer,
            times_append slot sending (less ++ rest),
            times_append slot sending
                (more ++ rest),
            times_append slot less rest,
            times_append slot more rest,
          )

  port_after : PublisherStandsFor (names.message out.publisher) (names.reader out.publisher) ports.sizes.max_subscribers after was.0
  port_after = record {
    factory = was.2.factory;
    stands = was.2.stands;
    max_loaned_samples = was.2.max_loaned_samples;
    allocation = was.2.allocation;
    slots = was.2.slots;
    room = was.2.room;
    segments = was.2.segments;
    last_sequence = was.2.last_sequence;
    history = was.2.history;
    once = was.2.once;
    seen = was.2.seen;
    connected = was.2.connected;
    ties = was.2.ties;
    blocked = was.2.blocked;
    left = was.2.left;
    named = named_less (names.message out.publisher) (slots_of whose.sender)
        (slots_of after.sender) was.0.first was.0.next refl refl fewer_used fewer_lent
        (λ slot. lent_used (slots_of after.sender) slot) was.2.named;
    unit = was.2.unit;
    most_segments = was.2.most_segments;
    ample = was.2.ample;
  }

  boxes_after : MailboxesStandFor (names.message out.publisher) (names.reader out.publisher) names.subscriber after (service.mailboxes
      (names.publisher out.publisher)) service.subscribers
  boxes_after = record {
    live = was.3.live;
    ended = was.3.ended;
    quiet = was.3.quiet;
    others = was.3.others;
    none = was.3.none;
    known = was.3.known;
    apart = was.3.apart;
    led = was.3.led;
    heard = was.3.heard;
    read = was.3.read;
    unmet = was.3.unmet;
    once = was.3.once;
    due = was.3.due;
  }

  pub dropped_stands : StandsFor names (removed loan lent) held buffer new (record service { loans = removed loan service.loans })
  dropped_stands =
      one_changed names names.message lent
      (removed loan lent) held buffer ports service out.publisher whose after was.0 service.publishers
      (removed loan service.loans) stands
      there.there (λ other off. refl) was.1 (λ other off. refl) port_after boxes_after refl refl refl refl loans_after
      (samples_kept out.publisher whose after ports there.there names held service.samples refl stands.samples)

  pub gave_up_stands : IsSound ports
      → StandsFor names (removed loan lent) held buffer (gave_up_in out.publisher out.slot ports)
      (record service { loans = removed loan service.loans })
  gave_up_stands sound = rw there.there (rw is_placed
      (settled_stands names (removed loan lent) held buffer new
      (record service { loans = removed loan service.loans }) out.publisher after dropped_stands
      (found_of_all (IsSoundEntry ports.next_port) (at_number out.publisher) ports.publishers whose sound there.there).holds.1 now))

  pub is_given_up : passes out.publisher (λ (port : PublisherPort T U). is_some (place_of out.slot port)) ports ≡ true
  is_given_up = ap (passes_port (λ (port : PublisherPort T U). is_some (place_of out.slot port))) there.there ∙ ap is_some is_placed

pub drop_matches : (T U : Type 0) (choices : Choices T) → DropMatches T U choices
drop_matches T U choices types buffer names lent held ports service state loan out stands sound goes =
    let after : Service T = record service { loans = removed loan service.loans } in (
      after,
      rw (is_given_up names lent held buffer ports service loan out stands goes)
          (alone_does (λ (one : Service T). at loan one.loans)
          (λ (one : machine.Loan T) (before : Service T) (answered : Reply T)
          (later : Service T). (answered ≡ reply.Done) × (later ≡ record before { loans = removed loan before.loans }))
          state service after reply.Done (loan_as names ports out) (goes_there names lent held buffer ports service loan out stands goes)
          (refl, refl)),
      gave_up_stands names lent held buffer ports service loan out stands goes sound,
    )

-- A loan of a publisher changes, and stays in its slot: all but the values of loans is as it was.
use Rattle.std.proofs.Common.{◌≡◌, ◌≢◌, ◌⊎◌, ℕ, List, Some, refl, sym, ap, subst, inl, inr, ◌∙◌}
use Rattle.iox_domain.proofs.Numbered.{at_number, same_set}
use Rattle.iox_domain.specs.DomainPorts.Messages.{Loan}
use Rattle.iox_domain.specs.DomainPorts.MessagesSending.{slots_of}
use Rattle.iox_domain.specs.DomainPorts.Publishers.{port_of}
use Rattle.iox_domain.specs.DomainPorts.Writing.{changed_there}
use Rattle.iox_domain.specs.DomainPorts.declared.attached.Taken.{Taken}
use Rattle.iox_domain.specs.DomainPorts.declared.publisher_port.PublisherPort.{PublisherPort}
use Rattle.iox_domain.specs.declared.ports.service_ports.ServicePorts.{ServicePorts}
use Rattle.iox_domain_machine.specs.Mailboxes.{MailboxesStandFor}
use Rattle.iox_domain_machine.specs.Naming.{Naming}
use Rattle.iox_domain_machine.specs.Publishers.{PublisherStandsFor, NamesSlots}
use Rattle.iox_domain_machine.specs.Standing.{StandsFor, PublisherIs}
use Rattle.iox_domain_machine.specs.Tables.{LentSlot, LoansStandFor}
use Rattle.iox_domain_machine.proofs.Changing.{one_changed, with_one}
use Rattle.iox_domain_machine.proofs.Found.{other_found}
use Rattle.iox_domain_machine.proofs.Kept.{out_of, samples_kept}
use Rattle.iox_domain_machine.proofs.Loans.{slots, slots_same}
use Rattle.iox_machine.specs.Message as machine
use Rattle.iox_machine.specs.Service.{Service}

module _ {T U : Type 0} (ports : ServicePorts T U) (number slot : ℕ) (port : PublisherPort T U)
    (there : port_of number ports.publishers ≡ Some port) (change : Loan T U → Loan T U) where
  abbrev pub rewritten : PublisherPort T U
  rewritten = changed_there slot change port

  abbrev pub rewritten_ports : ServicePorts T U
  rewritten_ports = with_one number rewritten ports

  pub rewritten_now : port_of number rewritten_ports.publishers ≡ Some rewritten
  rewritten_now = same_set (at_number number) ports.publishers rewritten port there

  -- the same slots are lent
  pub rewritten_slots : ((one : Loan T U) → (change one).slot ≡ one.slot) → (other : ℕ) → (other ≡ number) ⊎ (other ≢ number)
      → slots (out_of (port_of other ports.publishers)) ≡ slots (out_of (port_of other rewritten_ports.publishers))
  rewritten_slots keeps other (inl same) =
      ap (λ n. slots (out_of (port_of n ports.publishers))) same ∙ ap (λ it. slots (out_of it)) there
      ∙ sym (slots_same slot change keeps port.sender.uses.loans)
      ∙ sym (ap (λ n. slots (out_of (port_of n rewritten_ports.publishers))) same ∙ ap (λ it. slots (out_of it)) rewritten_now)
  rewritten_slots keeps other (inr off) = ap (λ it. slots (out_of it)) (sym (other_found number other rewritten ports.publishers off))

module _ {T U : Type 0} (names : Naming) (lent : List (ℕ × LentSlot)) (held : List (ℕ × Taken)) (buffer : ℕ) (ports : ServicePorts T U)
    (service : Service T) (stands : StandsFor names lent held buffer ports service) (number slot : ℕ) (port : PublisherPort T U)
    (there : port_of number ports.publishers ≡ Some port) (change : Loan T U → Loan T U)
    (keeps : (one : Loan T U) → (change one).slot ≡ one.slot) where
  abbrev after : PublisherPort T U
  after = changed_there slot change port

  was : PublisherIs names ports service number port
  was = stands.publishers number port there

  port_after : PublisherStandsFor (names.message number) (names.reader number) ports.sizes.max_subscribers after was.0
  port_after = record {
    factory = was.2.factory;
    stands = was.2.stands;
    max_loaned_samples = was.2.max_loaned_samples;
    allocation = was.2.allocation;
    slots = was.2.slots;
    room = was.2.room;
    segments = was.2.segments;
    last_sequence = was.2.last_sequence;
    history = was.2.history;
    once = was.2.once;
    seen = was.2.seen;
    connected = was.2.connected;
    ties = was.2.ties;
    blocked = was.2.blocked;
    left = was.2.left;
    named = subst (λ (lent_slots : List ℕ). NamesSlots (names.message number) (record
        (slots_of port.sender) { loans = lent_slots }) was.0.first was.0.next)
        (sym (slots_same slot change keeps port.sender.uses.loans)) was.2.named;
    unit = was.2.unit;
    most_segments = was.2.most_segments;
    ample = was.2.ample;
  }

  boxes_after : MailboxesStandFor (names.message number) (names.reader number) names.subscriber after
      (service.mailboxes (names.publisher number)) service.subscribers
  boxes_after = record {
    live = was.3.live;
    ended = was.3.ended;
    quiet = was.3.quiet;
    others = was.3.others;
    none = was.3.none;
    known = was.3.known;
    apart = was.3.apart;
    led = was.3.led;
    heard = was.3.heard;
    read = was.3.read;
    unmet = was.3.unmet;
    once = was.3.once;
    due = was.3.due;
  }

  -- where loans are those of the machine, all stands for what it stood for
  pub rewritten_stands : (loans : List (ℕ × machine.Loan T)) → LoansStandFor names (with_one number after ports) lent loans
      → StandsFor names lent held buffer (with_one number after ports) (record service { loans = loans })
  rewritten_stands loans same_loans =
      one_changed names names.message lent lent held buffer ports service number port after was.0 service.publishers loans stands there
      (λ other off. refl) was.1 (λ other off. refl) port_after boxes_after refl refl refl refl same_loans
      (samples_kept number port after ports there names held service.samples refl stands.samples)

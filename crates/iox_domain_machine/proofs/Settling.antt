-- A publisher that is over is gone from a domain; the machine has it still, as one that left.
use Rattle.std.proofs.Common.{◌≡◌, ◌≢◌, ◌≤◌, ◌⊎◌, ◌∷◌, [], ◌&&◌, ◌||◌, ◌==◌, ℕ, zero, suc, Bool, true, false, cond, not, List, length}
use Rattle.std.proofs.Common.{get_or, map, Option, None, Some, refl, sym, ap, inl, inr, ◌∙◌, arith}
use Rattle.std.proofs.lemmas.Bool.{cases_eq, eqb-true, eq-eqb}
use Rattle.std.specs.List.{list_any}
use Rattle.std.specs.Map.{keys_of, lookup, remove_entry}
use Rattle.std.specs.Option.{option_map_or}
use Rattle.std.specs.Prelude.{is_some, find, option_and_then, if◌then◌else◌}
use Rattle.iox_domain.proofs.DomainSlots.Counts.{one}
use Rattle.iox_domain.proofs.Numbered.{at_number, number_is, other_fails, other_gone}
use Rattle.iox_domain.specs.DomainPorts.Messages.{Message, Loan}
use Rattle.iox_domain.specs.DomainPorts.Ports.{connection_of}
use Rattle.iox_domain.specs.DomainPorts.Publishers.{port_of, connection_in, connection_at_port, settled, removed}
use Rattle.iox_domain.specs.DomainPorts.Reading.{is_over, borrowed_in}
use Rattle.iox_domain.specs.DomainPorts.declared.attached.Taken.{Taken}
use Rattle.iox_domain.specs.DomainPorts.declared.publisher_port.PublisherPort.{PublisherPort}
use Rattle.iox_domain.specs.DomainSlots.Uses.{Connection, nobody, is_there, is_open}
use Rattle.iox_domain.specs.DomainSlots.declared.stage.Stage.{Stage}
use Rattle.iox_domain.specs.DomainSlots.declared.stage.Stage.TheVariants as stage
use Rattle.iox_domain.specs.PortLawsLaws.{IsTidy}
use Rattle.iox_domain.specs.Tries.{how_often}
use Rattle.iox_domain.specs.declared.ports.service_ports.ServicePorts.{ServicePorts}
use Rattle.iox_domain_machine.specs.Naming.{Naming}
use Rattle.iox_domain_machine.specs.Standing.{StandsFor}
use Rattle.iox_domain_machine.specs.Tables.{LentSlot, loan_as, sample_as}
use Rattle.iox_domain_machine.proofs.Found.{same_some, never_some, same_everywhere}
use Rattle.iox_domain_machine.proofs.Kept.{out_of, loan_by, slots_by, sample_by}
use Rattle.iox_machine.specs.Message as machine
use Rattle.iox_machine.specs.Service.{Service, Publisher}
use Rattle.iox_machine.specs.Table.{at}

-- an entry that went stands no more often
often_by : {X : Type 0} (test : ℕ → Bool) (which : ℕ) (b : Bool) (entry : ℕ × X) (entries : List (ℕ × X))
    → how_often which (keys_of (remove_entry test entries)) ≤ how_often which (keys_of entries)
    → how_often which (keys_of (cond b entries (entry ∷ remove_entry test entries))) ≤ how_often which (keys_of (entry ∷ entries))
often_by test which true entry entries rest = omega arith
often_by test which false entry entries rest = omega (arith, rest)

pub often_gone : {X : Type 0} (test : ℕ → Bool) (which : ℕ) (entries : List (ℕ × X))
    → how_often which (keys_of (remove_entry test entries)) ≤ how_often which (keys_of entries)
often_gone test which [] = omega arith
often_gone test which (entry ∷ entries) = often_by test which (test entry.0) entry entries (often_gone test which entries)

counts_once : (number key : ℕ) → number ≡ key → one number key ≡ 1
counts_once number key same = ap (λ b. cond b 1 0) (eq-eqb number key same)

-- where a number stands nowhere nothing is found
none_by : {X : Type 0} (number : ℕ) (b : Bool) (entry : ℕ × X) (entries : List (ℕ × X)) → at_number number entry.0 ≡ b
    → how_often number (keys_of (entry ∷ entries)) ≡ 0
    → (how_often number (keys_of entries) ≡ 0 → lookup (at_number number) entries ≡ None)
    → cond b (Some entry.1) (lookup (at_number number) entries) ≡ None
none_by number true entry entries is none rest = absurd (omega (arith, none, counts_once number entry.0 (number_is number entry.0 is)))
none_by number false entry entries is none rest = rest (omega (arith, none))

pub none_found : {X : Type 0} (number : ℕ) (entries : List (ℕ × X)) → how_often number (keys_of entries) ≡ 0
    → lookup (at_number number) entries ≡ None
none_found number [] none = refl
none_found number (entry ∷ entries) none = none_by number (at_number number entry.0) entry entries refl none (none_found number entries)

gone_by : {X : Type 0} (number : ℕ) (b : Bool) (entry : ℕ × X) (entries : List (ℕ × X)) → at_number number entry.0 ≡ b
    → how_often number (keys_of (entry ∷ entries)) ≤ 1
    → (how_often number (keys_of entries) ≤ 1 → lookup (at_number number) (remove_entry (at_number number) entries) ≡ None)
    → lookup (at_number number) (cond b entries (entry ∷ remove_entry (at_number number) entries)) ≡ None
gone_by number true entry entries is once rest = none_found number entries (omega (
  arith,
  once,
  counts_once number entry.0
      (number_is number entry.0 is),
))
gone_by number false entry entries is once rest = ap (λ b. cond b (Some entry.1) (lookup (at_number number) (remove_entry
    (at_number number) entries))) is ∙ rest (omega (arith, once))

pub gone_found : {X : Type 0} (number : ℕ) (entries : List (ℕ × X)) → how_often number (keys_of entries) ≤ 1
    → lookup (at_number number) (remove_entry (at_number number) entries) ≡ None
gone_found number [] once = refl
gone_found number (entry ∷ entries) once = gone_by number (at_number number entry.0) entry entries refl once (gone_found number entries)

pub both : (one other : Bool) → (one && other) ≡ true → (one ≡ true) × (other ≡ true)
both true other is = (refl, is)
both false other is = absurd (wrong is)
  where
    wrong : false ≡ true → ⊥
    wrong e = cc

pub isn't : (b : Bool) → not b ≡ true → b ≡ false
isn't false is = refl
isn't true is = absurd (wrong is)
  where
    wrong : false ≡ true → ⊥
    wrong e = cc

neither : (one other : Bool) → (one || other) ≡ false → (one ≡ false) × (other ≡ false)
neither false other is = (refl, is)
neither true other is = absurd (wrong is)
  where
    wrong : true ≡ false → ⊥
    wrong e = cc

empty : {X : Type 0} (xs : List X) → (length xs == 0) ≡ true → xs ≡ []
empty [] is = refl
empty (x ∷ xs) is = absurd (omega (arith, eqb-true (length (x ∷ xs)) 0 is))

-- none of these connections is there
none_there : {X : Type 0} (connections : List (Connection X)) → list_any (λ connection. is_there connection) connections ≡ false
    → (index : ℕ)
    → is_there (get_or connections index nobody) ≡ false
none_there [] none index = refl
none_there (connection ∷ connections) none zero = (neither (is_there connection) _ none).0
none_there (connection ∷ connections) none (suc index) = none_there connections (neither (is_there connection) _ none).1 index

vacant : (at : Stage) → is_open at ≡ false → at ≡ stage.Vacant
vacant stage.Vacant is = refl
vacant stage.Live is = cc
vacant stage.Ended is = cc

module _ {T U : Type 0} (names : Naming) (lent : List (ℕ × LentSlot)) (held : List (ℕ × Taken)) (buffer : ℕ) (ports : ServicePorts T U)
    (service : Service T) (number : ℕ) (port : PublisherPort T U) (stands : StandsFor names lent held buffer ports service)
    (tidy : IsTidy port)
    (there : port_of number ports.publishers ≡ Some port) (over : is_over port ≡ true) where
  abbrev new : ServicePorts T U
  new = record ports { publishers = removed number ports.publishers }

  nobody_there : port_of number new.publishers ≡ None
  nobody_there = gone_found number ports.publishers (stands.once number)

  elsewhere : (other : ℕ) → other ≢ number → port_of other new.publishers ≡ port_of other ports.publishers
  elsewhere other off = other_gone (at_number number) (at_number other) ports.publishers (other_fails other number off)

  left : port.stands ≡ false
  left = isn't port.stands (both (not port.stands) _ over).0

  nothing_lent : port.sender.uses.loans ≡ []
  nothing_lent = empty port.sender.uses.loans (both (length port.sender.uses.loans == 0) _ (both (not port.stands) _ over).1).0

  no_connection : (index : ℕ) → connection_of index port ≡ nobody
  no_connection index =
      tidy index
      (vacant (connection_of index port).stage (none_there port.sender.uses.connections
      (isn't (list_any (λ connection. is_there connection) port.sender.uses.connections)
      (both (not (is_some port.sender.uses.sending)) _ (both (length port.sender.uses.loans == 0) _ (both
      (not port.stands) _ over).1).1).1) index))

  out_same : (other : ℕ) → (other ≡ number) ⊎ (other ≢ number)
      → out_of (port_of other new.publishers) ≡ out_of (port_of other ports.publishers)
  out_same other (inl same) =
      ap (λ n. out_of (port_of n new.publishers)) same ∙ ap out_of nobody_there
      ∙ sym (ap (λ n. out_of (port_of n ports.publishers)) same ∙ ap out_of there ∙ nothing_lent)
  out_same other (inr off) = ap out_of (elsewhere other off)

  connections_same : (other index : ℕ) → (other ≡ number) ⊎ (other ≢ number)
      → connection_in other index new.publishers ≡ connection_in other index ports.publishers
  connections_same other index (inl same) =
      ap (λ n. connection_in n index new.publishers) same ∙ ap (connection_at_port index) nobody_there
      ∙ sym (ap (λ n. connection_in n index ports.publishers) same ∙ ap (connection_at_port index) there ∙ no_connection index)
  connections_same other index (inr off) = ap (connection_at_port index) (elsewhere other off)

  was_there : (other : ℕ) (found : PublisherPort T U) → (other ≡ number) ⊎ (other ≢ number) → port_of other new.publishers ≡ Some found
      → port_of other ports.publishers ≡ Some found
  was_there other found (inl same) it = never_some found (sym nobody_there ∙ sym (ap (λ n. port_of n new.publishers) same) ∙ it)
  was_there other found (inr off) it = sym (elsewhere other off) ∙ it

  gone : (other : ℕ) (publisher : Publisher T) → (other ≡ number) ⊎ (other ≢ number) → port_of other new.publishers ≡ None
      → at (names.publisher other) service.publishers ≡ Some publisher → publisher.stands ≡ false
  gone other publisher (inl same) none it =
      let was = stands.publishers number port there in
      ap (λ (one : Publisher T). one.stands) (same_some publisher was.0 (sym it
      ∙ ap (λ n. at (names.publisher n) service.publishers) same ∙ was.1)) ∙ was.2.stands ∙ left
  gone other publisher (inr off) none it = stands.gone_publishers other publisher (sym (elsewhere other off) ∙ none) it

  present : (other place : ℕ) (found : PublisherPort T U) → (other ≡ number) ⊎ (other ≢ number)
      → port_of other ports.publishers ≡ Some found → found.stands ≡ true → found.place ≡ place
      → (one : PublisherPort T U) × (port_of other new.publishers ≡ Some one) × (one.stands ≡ true) × (one.place ≡ place)
  present other place found (inl same) it standing placed =
      let is_port = same_some found port (sym it ∙ ap (λ n. port_of n ports.publishers) same ∙ there) in
      absurd (wrong (sym left ∙ sym (ap (λ (one : PublisherPort T U). one.stands) is_port) ∙ standing))
    where
      wrong : false ≡ true → ⊥
      wrong e = cc
  present other place found (inr off) it standing placed = (found, elsewhere other off ∙ it, standing, placed)

  loans_same : (lent : LentSlot) → loan_as names ports lent ≡ loan_as names new lent
  loans_same lent =
      ap (λ (found : Option (Loan T U)). record {
        publisher = names.publisher lent.publisher;
        number = names.message lent.publisher lent.slot;
        values = option_map_or (λ (loan : Loan T U). loan.values) found [];
      }) (loan_by lent.slot (port_of lent.publisher ports.publishers)
      ∙ ap (λ (out : List (Loan T U)). find (λ (loan : Loan T U). loan.slot == lent.slot) out) (sym (out_same lent.publisher
      (cases_eq lent.publisher number)))
      ∙ sym (loan_by lent.slot (port_of lent.publisher new.publishers)))

  samples_same : (taken : Taken) → sample_as names ports taken ≡ sample_as names new taken
  samples_same taken =
      ap (λ (found : Option (Message T U)). record {
        publisher = names.publisher taken.publisher;
        subscriber = names.subscriber taken.subscriber;
        message = record {
          number = names.message taken.publisher taken.slot;
          sequence = option_and_then (λ (message : Message T U). message.sequence) found;
          values = option_map_or (λ
              (message : Message T U). message.values) found [];
        };
      }) (sample_by taken ports
      ∙ ap (λ connection. borrowed_in taken.slot connection) (sym (connections_same taken.publisher taken.index
      (cases_eq taken.publisher number))) ∙ sym (sample_by taken new))

  pub gone_stands : StandsFor names lent held buffer new service
  gone_stands = record {
    sizes = stands.sizes;
    publisher_list = stands.publisher_list;
    subscriber_list = stands.subscriber_list;
    named_publishers = stands.named_publishers;
    named_subscribers = stands.named_subscribers;
    unnamed = stands.unnamed;
    publishers = λ other found it. stands.publishers other found (was_there other found (cases_eq other number) it);
    listed = λ other found it. stands.listed other found (was_there other found (cases_eq other number) it);
    present = λ place member listed_there.
        let before = stands.present place member listed_there in
        present member.value.publisher place before.0 (cases_eq member.value.publisher number) before.1 before.2 before.3;
    gone_publishers = λ other publisher none it. gone other publisher (cases_eq other number) none it;
    numbered = λ other found it. stands.numbered other found (was_there other found (cases_eq other number) it);
    once = λ other. let before = stands.once other in omega (arith, before, often_gone (at_number number) other ports.publishers);
    once_subscribers = stands.once_subscribers;
    keyed = λ other found it. stands.keyed other found (was_there other found (cases_eq other number) it);
    subscribers = stands.subscribers;
    gone_subscribers = stands.gone_subscribers;
    listed_subscribers = stands.listed_subscribers;
    present_subscribers = stands.present_subscribers;
    sized = stands.sized;
    joined = stands.joined;
    loans = record {
      same = stands.loans.same
          ∙ ap (λ (name : LentSlot → machine.Loan T). map (λ (entry : ℕ × LentSlot). (entry.0, name entry.1)) lent) (same_everywhere
          (loan_as names ports) (loan_as names new) loans_same);
      once = stands.loans.once;
      all = λ other. stands.loans.all other ∙ slots_by (port_of other ports.publishers)
          ∙ ap (λ (out : List (Loan T U)). map (λ (loan : Loan T U). loan.slot) out) (sym (out_same other (cases_eq other number)))
          ∙ sym (slots_by (port_of other new.publishers));
    };
    samples = record {
      same = stands.samples.same
          ∙ ap (λ (name : Taken → machine.Sample T). map (λ (entry : ℕ × Taken). (entry.0, name entry.1)) held) (same_everywhere
          (sample_as names ports) (sample_as names new) samples_same);
      once = stands.samples.once;
      all = λ other index. stands.samples.all other index
          ∙ ap (λ (connection : Connection (Message T U)). map (λ (message : Message T U). message.slot) connection.borrowed) (sym
          (connections_same other index (cases_eq other number)));
      whose = stands.samples.whose;
      counted = stands.samples.counted;
    };
  }

module _ {T U : Type 0} (names : Naming) (lent : List (ℕ × LentSlot)) (held : List (ℕ × Taken)) (buffer : ℕ) (ports : ServicePorts T U)
    (service : Service T) (number : ℕ) (port : PublisherPort T U) (stands : StandsFor names lent held buffer ports service)
    (tidy : IsTidy port)
    (there : port_of number ports.publishers ≡ Some port) where
  settled_by : (over : Bool) → is_over port ≡ over
      → StandsFor names lent held buffer
      (record ports { publishers = if over then removed number ports.publishers else ports.publishers }) service
  settled_by true over = gone_stands names lent held buffer ports service number port stands tidy there over
  settled_by false over = stands

  -- the machine's service is the same whether a publisher is over or not
  pub settled_stands : StandsFor names lent held buffer (record ports { publishers = settled number ports.publishers }) service
  settled_stands = rw there (settled_by (is_over port) refl)

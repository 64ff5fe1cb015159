-- Who reads still, once nobody reads any longer at the connections of a subscriber that leaves.
use Rattle.std.proofs.Common.{◌≡◌, ◌≢◌, ◌≤◌, ◌⊎◌, ◌∷◌, [], ℕ, zero, suc, Bool, true, false, List, get_or, set, Option, None, Some, refl}
use Rattle.std.proofs.Common.{sym, ap, subst, inl, inr, ◌∙◌}
use Rattle.std.proofs.lemmas.Bool.{cases_eq}
use Rattle.std.proofs.lemmas.List.{get_or-set_other}
use Rattle.std.proofs.lemmas.Map.{keys-set_value}
use Rattle.std.specs.Map.{keys_of}
use Rattle.std.specs.Prelude.{if◌then◌else◌}
use Rattle.iox_domain.proofs.ListKeeps.{held_walks, held_leaving}
use Rattle.iox_domain.proofs.Numbered.{at_number, same_set, other_fails, other_gone}
use Rattle.iox_domain.proofs.Walks.{left_all_walk}
use Rattle.iox_domain.specs.Container.SlotTable.{value_at}
use Rattle.iox_domain.specs.DomainPorts.Places.{left}
use Rattle.iox_domain.specs.DomainPorts.Ports.{connection_of, with_connection_of, detached_at, ended_at, is_live, unread_at}
use Rattle.iox_domain.specs.DomainPorts.Publishers.{port_of, with_port, removed, settled, is_over_in}
use Rattle.iox_domain.specs.DomainPorts.Receiving.{left_at, left_all}
use Rattle.iox_domain.specs.DomainPorts.Ties.{has_tie}
use Rattle.iox_domain.specs.DomainPorts.declared.attached.Attached.{Attached}
use Rattle.iox_domain.specs.DomainPorts.declared.attached.Taken.{Taken}
use Rattle.iox_domain.specs.DomainPorts.declared.publisher_port.PublisherPort.{PublisherPort}
use Rattle.iox_domain.specs.DomainPorts.declared.reader.Reader.{Reader}
use Rattle.iox_domain.specs.DomainSlots.Uses.{ended}
use Rattle.iox_domain.specs.PortLawsLaws.{IsSound}
use Rattle.iox_domain.specs.Tries.{how_often}
use Rattle.iox_domain.specs.declared.ports.service_ports.ServicePorts.{ServicePorts}
use Rattle.iox_domain_machine.specs.Naming.{Naming}
use Rattle.iox_domain_machine.specs.Standing.{StandsFor}
use Rattle.iox_domain_machine.specs.Tables.{LentSlot}
use Rattle.iox_domain_machine.proofs.Found.{same_some, never_some, never_true, other_found}
use Rattle.iox_domain_machine.proofs.LeaveDetaching.{reads_before, left_without, LeadsToName, StandsWithout}
use Rattle.iox_domain_machine.proofs.LeavePort.{none_set}
use Rattle.iox_domain_machine.proofs.LeaveUnmet.{none_emptied}
use Rattle.iox_domain_machine.proofs.Settling.{gone_found}
use Rattle.iox_machine.specs.Service.{Service}

-- nobody reads where the reader left
left_silent : (reader : Option Reader) (to : Reader) → left reader ≡ Some to → to.attached ≡ false
left_silent None to is = never_some to is
left_silent (Some reader) to is = sym (ap (λ (one : Reader). one.attached) (same_some (record reader { attached = false }) to is))

detached_silent : (readers : List (Option Reader)) (index : ℕ) (to : Reader)
    → get_or (set readers index (left (get_or readers index None))) index None ≡ Some to → to.attached ≡ false
detached_silent [] index to is = never_some to is
detached_silent (reader ∷ readers) zero to is = left_silent reader to is
detached_silent (reader ∷ readers) (suc index) to is = detached_silent readers index to is

-- The connection with this index of the publisher with this number has a reader.
pub record HasReaderAt {T U : Type 0} (number index : ℕ) (publishers : List (ℕ × PublisherPort T U)) : Type 0 where
  pub port : PublisherPort T U
  pub there : port_of number publishers ≡ Some port
  pub to : Reader
  pub read : get_or port.readers index None ≡ Some to
  pub attached : to.attached ≡ true

-- who reads still read before, and not at this connection
abbrev StillHasReader : {T U : Type 0} → ℕ → ℕ → Attached → List (ℕ × PublisherPort T U) → Type 0
StillHasReader number index attached publishers =
    HasReaderAt number index publishers × (number ≡ attached.publisher → index ≢ attached.index)

module _ {T U : Type 0} where
  reads_removed : (gone : ℕ) (ports : List (ℕ × PublisherPort T U)) → how_often gone (keys_of ports) ≤ 1 → (number index : ℕ)
      → (number ≡ gone) ⊎ (number ≢ gone) → HasReaderAt number index (removed gone ports) → HasReaderAt number index ports
  reads_removed gone ports once number index (inl same) reads =
      never_some reads.port (sym (gone_found gone ports once) ∙ ap (λ n. port_of n (removed gone ports)) (sym same) ∙ reads.there)
  reads_removed gone ports once number index (inr off) reads = record {
    port = reads.port;
    there = sym (other_gone (at_number gone) (at_number number) ports (other_fails number gone off)) ∙ reads.there;
    to = reads.to;
    read = reads.read;
    attached = reads.attached;
  }

  reads_settled : (over : Bool) (gone : ℕ) (ports : List (ℕ × PublisherPort T U)) → how_often gone (keys_of ports) ≤ 1
      → (number index : ℕ)
      → HasReaderAt number index (if over then removed gone ports else ports) → HasReaderAt number index ports
  reads_settled true gone ports once number index reads = reads_removed gone ports once number index (cases_eq number gone) reads
  reads_settled false gone ports once number index reads = reads

  -- what the readers of a publisher are told to be before
  abbrev ReadSo : ℕ → PublisherPort T U → PublisherPort T U → Type 0
  ReadSo at port after =
      (index : ℕ) (to : Reader) → get_or after.readers index None ≡ Some to → to.attached ≡ true
      → ((was : Reader) × (get_or port.readers index None ≡ Some was) × (was.attached ≡ true)) × (index ≢ at)

  reads_with : (attached : Attached) (port after : PublisherPort T U) (ports : List (ℕ × PublisherPort T U))
      → port_of attached.publisher ports ≡ Some port → ReadSo attached.index port after → (number index : ℕ)
      → (number ≡ attached.publisher) ⊎ (number ≢ attached.publisher)
      → HasReaderAt number index (with_port attached.publisher ports after) → StillHasReader number index attached ports
  reads_with attached port after ports there so number index (inl same) reads =
      let is : reads.port ≡ after = same_some reads.port after (sym reads.there
      ∙ ap (λ n. port_of n (with_port attached.publisher ports after)) same
      ∙ same_set (at_number attached.publisher) ports after port there) in
      let before = so index reads.to (ap (λ (one : PublisherPort T U). get_or one.readers index None) (sym is) ∙ reads.read)
      reads.attached in (
        record {
          port = port;
          there = ap (λ n. port_of n ports) same ∙ there;
          to = before.0.0;
          read = before.0.1;
          attached = before.0.2;
        },
        λ its. before.1,
      )
  reads_with attached port after ports there so number index (inr off) reads = (
    record {
      port = reads.port;
      there = sym (other_found attached.publisher number after ports off) ∙ reads.there;
      to = reads.to;
      read = reads.read;
      attached = reads.attached;
    },
    λ its. absurd (off its),
  )

  unread_so : (index : ℕ) (port : PublisherPort T U) → ReadSo index port (unread_at index port)
  unread_so index port i to is attached =
      let before = reads_before port.readers index i to is in (
        (before.was, before.is, before.still attached),
        λ same. never_true (sym (detached_silent port.readers index to
            (ap (λ n. get_or (set port.readers index (left (get_or port.readers index None))) n None) (sym same) ∙ is)) ∙ attached),
      )

  ended_so : (index : ℕ) (port : PublisherPort T U) (live : Bool) → is_live index port ≡ live
      → ((to : Reader) → get_or port.readers index None ≡ Some to → is_live index port ≡ true)
      → ReadSo index port (if live then record (with_connection_of index (ended (connection_of index port)) port)
      { readers = set port.readers index None } else port)
  ended_so index port true live heard i to is attached = elim (cases_eq i index) [
    | inl same ↦ never_some to (sym (none_set port.readers index) ∙ ap (λ n. get_or (set port.readers index None) n None) (sym same) ∙ is)
    | inr off ↦ ((to, sym (get_or-set_other port.readers index i None None off) ∙ is, attached), off)
  ]
  ended_so index port false live heard i to is attached = (
    (to, is, attached),
    λ same. never_true (sym live ∙ heard to (ap (λ n. get_or port.readers n None) (sym same) ∙ is)),
  )

  detached_so : (index : ℕ) (port : PublisherPort T U) (tied : Bool)
      → ((to : Reader) → get_or port.readers index None ≡ Some to → is_live index port ≡ true)
      → ReadSo index port (if tied then unread_at index port else ended_at index port)
  detached_so index port true heard = unread_so index port
  detached_so index port false heard = ended_so index port (is_live index port) refl heard

module _ {T U : Type 0} (names : Naming) (lent : List (ℕ × LentSlot)) (held : List (ℕ × Taken)) (buffer : ℕ) where
  module _ (service : Service T) (attached : Attached) (old : ServicePorts T U) (stands : StandsFor names lent held buffer old service)
      (number index : ℕ) where
    heard_there : (port : PublisherPort T U) → port_of attached.publisher old.publishers ≡ Some port → (to : Reader)
        → get_or port.readers attached.index None ≡ Some to → is_live attached.index port ≡ true
    heard_there port there to is = (stands.publishers attached.publisher port there).3.heard attached.index to is

    abbrev After : List (ℕ × PublisherPort T U) → Type 0
    After publishers = HasReaderAt number index publishers → StillHasReader number index attached old.publishers

    still_here : (port : PublisherPort T U) → port_of attached.publisher old.publishers ≡ Some port → (standing : Bool)
        → After (if standing then with_port attached.publisher old.publishers (detached_at attached.index port)
        else settled attached.publisher (with_port attached.publisher old.publishers (ended_at attached.index port)))
    still_here port there true reads =
        reads_with attached port (detached_at attached.index port) old.publishers there
        (detached_so attached.index port (has_tie attached.index port.ties) (heard_there port there)) number index
        (cases_eq number attached.publisher) reads
    still_here port there false reads =
        let ends : PublisherPort T U = ended_at attached.index port in
        let ports : List (ℕ × PublisherPort T U) = with_port attached.publisher old.publishers ends in
        reads_with attached port ends old.publishers there
        (ended_so attached.index port (is_live attached.index port) refl (heard_there port there)) number index
        (cases_eq number attached.publisher)
        (reads_settled (is_over_in attached.publisher ports) attached.publisher ports
        (subst (λ keys. how_often attached.publisher keys ≤ 1)
        (sym (keys-set_value (at_number attached.publisher) old.publishers ends)) (stands.once attached.publisher)) number index reads)

    still_port : (found : Option (PublisherPort T U)) → port_of attached.publisher old.publishers ≡ found
        → After (left_at (Some attached) old.publishers)
    still_port None none = rw none (rw none (λ reads. (
      reads,
      λ same. never_some reads.port (sym none ∙ ap (λ n. port_of n old.publishers) (sym same) ∙ reads.there),
    )))
    still_port (Some port) there = rw there (by port.stands refl)
      where
        by : (standing : Bool) → port.stands ≡ standing
            → After (if standing then with_port attached.publisher old.publishers (detached_at attached.index port)
            else settled attached.publisher (with_port attached.publisher old.publishers
            (if port.stands then port else ended_at attached.index port)))
        by true standing = still_here port there true
        by false gone =
            subst (λ standing. After (settled attached.publisher (with_port attached.publisher old.publishers
            (if standing then port else ended_at attached.index port)))) (sym gone) (still_here port there false)

  still_at : (service : Service T) (attached : Option Attached) (old : ServicePorts T U) → StandsFor names lent held buffer old service
      → (number index : ℕ) → HasReaderAt number index (left_at attached old.publishers)
      → HasReaderAt number index old.publishers × (attached ≢ Some (record { publisher = number; index = index }))
  still_at service None old stands number index reads = (reads, λ is. never_some _ is)
  still_at service (Some attached) old stands number index reads =
      let before = still_port service attached old stands number index (port_of attached.publisher old.publishers) refl reads in (
        before.0,
        λ is.
            let same = same_some attached (record { publisher = number; index = index }) is in
            before.1 (sym (ap (λ (one : Attached). one.publisher) same)) (sym (ap (λ (one : Attached). one.index) same)),
      )

  -- Nobody reads any longer at the connections of these keys, which lead to the subscriber of this name: the ports stand for the service
  -- but for its mailboxes that are taken away, and who reads then read before, and at none of these.
  pub record WalkedOff (service : Service T) (name : ℕ) (values : List (Option Attached)) (old : ServicePorts T U) : Type 0 where
    pub walk : StandsWithout names lent held buffer (record old { publishers = left_all values old.publishers }) service name
    pub still : (number index : ℕ) → HasReaderAt number index (left_all values old.publishers)
        → HasReaderAt number index old.publishers × ((key : ℕ) → value_at values key ≢ Some (record { publisher = number; index = index }))

  walks_off : (service : Service T) (name : ℕ) (values : List (Option Attached)) (old : ServicePorts T U)
      → ((key : ℕ) → LeadsToName names name (value_at values key)) → IsSound old
      → StandsWithout names lent held buffer old service name → WalkedOff service name values old
  walks_off service name [] old led sound walk = record { walk = walk; still = λ number index reads. (reads, λ key is. never_some _ is) }
  walks_off service name (attached ∷ values) old led sound walk =
      let rest = walks_off service name values (record old { publishers = left_at attached old.publishers }) (λ key. led (suc key))
      ((left_all_walk (held_walks 0) held_leaving (attached ∷ []) old.publishers).sound old.next_port sound)
      (left_without names lent held buffer service name attached old (led zero) sound walk) in
      record { walk = rest.walk; still = λ number index reads. still_reads rest number index reads }
    where
      at_key : (number index key : ℕ) → attached ≢ Some (record { publisher = number; index = index })
          → ((key : ℕ) → value_at values key ≢ Some (record { publisher = number; index = index }))
          → value_at (attached ∷ values) key ≢ Some (record { publisher = number; index = index })
      at_key number index zero first rest is = first is
      at_key number index (suc key) first rest is = rest key is

      still_reads : WalkedOff service name values (record old { publishers = left_at attached old.publishers }) → (number index : ℕ)
          → HasReaderAt number index (left_all values (left_at attached old.publishers))
          → HasReaderAt number index old.publishers
          × ((key : ℕ) → value_at (attached ∷ values) key ≢ Some (record { publisher = number; index = index }))
      still_reads rest number index reads =
          let further = rest.still number index reads in
          let first = still_at (record service { mailboxes = walk.mailboxes }) attached old walk.stands number index further.0 in
          (first.0, λ key. at_key number index key first.1 further.1)

  -- so it is where the ports stood for the whole service
  pub walked_off : (service : Service T) (name : ℕ) (values : List (Option Attached)) (old : ServicePorts T U)
      → ((key : ℕ) → LeadsToName names name (value_at values key)) → IsSound old → StandsFor names lent held buffer old service
      → WalkedOff service name values old
  walked_off service name values old led sound stands =
      walks_off service name values old led sound
      (record { mailboxes = service.mailboxes; emptied = none_emptied name service.mailboxes; stands = stands })

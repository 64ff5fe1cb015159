-- Nobody reads any longer at the connections of a subscriber that leaves.
use Rattle.std.proofs.Common.{◌≡◌, ◌≢◌, ℕ, zero, suc, Bool, true, false, ◌∷◌, [], List, get_or, set, Option, None, Some, refl, sym, ap}
use Rattle.std.proofs.Common.{subst, ◌∙◌}
use Rattle.std.proofs.Math.Logic.{⊎_elim}
use Rattle.std.specs.Prelude.{is_some, if◌then◌else◌}
use Rattle.iox_domain.proofs.DomainPorts.Untied.{none_tied}
use Rattle.iox_domain.proofs.ListKeeps.{tidy_found}
use Rattle.iox_domain.proofs.Numbered.{at_number, same_set}
use Rattle.iox_domain.specs.DomainPorts.Messages.{Message}
use Rattle.iox_domain.specs.DomainPorts.Places.{left}
use Rattle.iox_domain.specs.DomainPorts.Ports.{connection_of, detached_at, ended_at, is_live, unread_at, with_connection_of}
use Rattle.iox_domain.specs.DomainPorts.Publishers.{port_of, port_stands, with_port, settled}
use Rattle.iox_domain.specs.DomainPorts.Receiving.{left_at}
use Rattle.iox_domain.specs.DomainPorts.Ties.{has_tie}
use Rattle.iox_domain.specs.DomainPorts.declared.attached.Attached.{Attached}
use Rattle.iox_domain.specs.DomainPorts.declared.attached.Taken.{Taken}
use Rattle.iox_domain.specs.DomainPorts.declared.publisher_port.PublisherPort.{PublisherPort}
use Rattle.iox_domain.specs.DomainPorts.declared.reader.Reader.{Reader}
use Rattle.iox_domain.specs.DomainSlots.Uses.{Connection, nobody, ended, is_open}
use Rattle.iox_domain.specs.DomainSlots.declared.stage.Stage.TheVariants as stage
use Rattle.iox_domain.specs.PortLawsLaws.{IsSound, IsTidy}
use Rattle.iox_domain.specs.Subscribers.{subscriber_of}
use Rattle.iox_domain.specs.declared.ports.service_ports.ServicePorts.{ServicePorts}
use Rattle.iox_domain_machine.specs.Mailboxes.{IsKeyed}
use Rattle.iox_domain_machine.specs.Naming.{Naming}
use Rattle.iox_domain_machine.specs.Publishers.{PublisherStandsFor}
use Rattle.iox_domain_machine.specs.Standing.{StandsFor, PublisherIs}
use Rattle.iox_domain_machine.specs.Tables.{LentSlot}
use Rattle.iox_domain_machine.proofs.Changing.{all_changed, with_one}
use Rattle.iox_domain_machine.proofs.Found.{same_some, never_some, never_true}
use Rattle.iox_domain_machine.proofs.Kept.{loans_kept, samples_kept}
use Rattle.iox_domain_machine.proofs.LeavePort.{HasParted, ended_parts, left_port, left_boxes, borrowed_same, still_read, without_reader}
use Rattle.iox_domain_machine.proofs.LeaveSamples.{samples_alike}
use Rattle.iox_domain_machine.proofs.Settling.{settled_stands}
use Rattle.iox_domain_machine.proofs.LeaveUnmet.{AreEmptied, emptied_at, one_emptied, same_stands, unmet_stands, was_empty}
use Rattle.iox_machine.specs.Mailbox.{Mailbox}
use Rattle.iox_machine.specs.Service.{Service}

-- Each reader read there before; and each remaining reader read before.
pub record ReadBefore (before : Option Reader) (to : Reader) : Type 0 where
  pub was : Reader
  pub is : before ≡ Some was
  pub same : was.subscriber ≡ to.subscriber
  pub still : to.attached ≡ true → was.attached ≡ true

left_read : (reader : Option Reader) (to : Reader) → left reader ≡ Some to → ReadBefore reader to
left_read None to is = never_some to is
left_read (Some reader) to is =
    let it = same_some (record reader { attached = false }) to is in
    record {
      was = reader;
      is = refl;
      same = ap (λ (one : Reader). one.subscriber) it;
      still = λ attached. never_true (ap (λ (one : Reader). one.attached) it ∙ attached);
    }

pub reads_before : (readers : List (Option Reader)) (index i : ℕ) (to : Reader)
    → get_or (set readers index (left (get_or readers index None))) i None ≡ Some to → ReadBefore (get_or readers i None) to
reads_before [] index i to is = never_some to is
reads_before (reader ∷ readers) zero zero to is = left_read reader to is
reads_before (reader ∷ readers) zero (suc i) to is = record { was = to; is = is; same = refl; still = λ attached. attached }
reads_before (reader ∷ readers) (suc index) zero to is = record { was = to; is = is; same = refl; still = λ attached. attached }
reads_before (reader ∷ readers) (suc index) (suc i) to is = reads_before readers index i to is

left_some : (reader : Option Reader) → is_some (left reader) ≡ is_some reader
left_some None = refl
left_some (Some reader) = refl

some_still : (readers : List (Option Reader)) (index i : ℕ)
    → is_some (get_or (set readers index (left (get_or readers index None))) i None) ≡ is_some (get_or readers i None)
some_still [] index i = refl
some_still (reader ∷ readers) zero zero = left_some reader
some_still (reader ∷ readers) zero (suc i) = refl
some_still (reader ∷ readers) (suc index) zero = refl
some_still (reader ∷ readers) (suc index) (suc i) = some_still readers index i

ended_tidy : {X : Type 0} (connection : Connection X) → (ended connection).stage ≡ stage.Vacant → ended connection ≡ nobody
ended_tidy {X} connection = by connection.borrowed
  where
    by : (borrowed : List X) → (ended (record connection { borrowed = borrowed })).stage ≡ stage.Vacant
        → ended (record connection { borrowed = borrowed }) ≡ nobody
    by [] vacant = refl
    by (one ∷ borrowed) vacant = never_true (sym (ap is_open vacant))

module _ {T U : Type 0} (names : Naming) (lent : List (ℕ × LentSlot)) (held : List (ℕ × Taken)) (buffer : ℕ) (old : ServicePorts T U)
    (service : Service T) (number index : ℕ) (port : PublisherPort T U) (stands : StandsFor names lent held buffer old service)
    (there : port_of number old.publishers ≡ Some port) where
  abbrev after : PublisherPort T U
  after = unread_at index port

  abbrev was : PublisherIs names old service number port
  was = stands.publishers number port there

  keyed_still : IsKeyed number after old.subscribers
  keyed_still i to reads attached =
      let before = reads_before port.readers index i to reads in
      let keyed = stands.keyed number port there i before.was before.is (before.still attached) in
      (keyed.0, ap (λ n. subscriber_of n old.subscribers) (sym before.same) ∙ keyed.1, keyed.2, keyed.3, keyed.4)

  -- the machine's service is the same whether somebody reads at a connection still or not
  pub unread_stands : StandsFor names lent held buffer (with_one number after old) service
  unread_stands =
      all_changed names names.message lent lent held held buffer old service number port after was.0 service.publishers service.loans
      service.samples service.mailboxes old.subscribers stands there (λ other off. refl) was.1 (λ other off. refl)
      (record {
        factory = was.2.factory;
        stands = was.2.stands;
        max_loaned_samples = was.2.max_loaned_samples;
        allocation = was.2.allocation;
        slots = was.2.slots;
        room = was.2.room;
        segments = was.2.segments;
        last_sequence = was.2.last_sequence;
        history = was.2.history;
        once = was.2.once;
        seen = was.2.seen;
        connected = was.2.connected;
        ties = was.2.ties;
        blocked = was.2.blocked;
        left = was.2.left;
        named = was.2.named;
        unit = was.2.unit;
        most_segments = was.2.most_segments;
        ample = was.2.ample;
      })
      (record {
        live = was.3.live;
        ended = was.3.ended;
        quiet = was.3.quiet;
        others = was.3.others;
        none = was.3.none;
        known = was.3.known;
        apart = was.3.apart;
        led = λ i is. some_still port.readers index i ∙ was.3.led i is;
        heard = λ i to is. let before = reads_before port.readers index i to is in was.3.heard i before.was before.is;
        read = λ i to is.
            let before = reads_before port.readers index i to is in
            let reads = was.3.read i before.was before.is in
            (reads.0 ∙ ap names.subscriber before.same, λ none. reads.1 (ap names.subscriber before.same ∙ none));
        unmet = was.3.unmet;
        once = was.3.once;
        due = was.3.due;
      })
      (λ other off. refl) (λ one other there. there) (λ other. refl) stands.once_subscribers refl refl refl keyed_still
      (loans_kept number port after old there names lent service.loans refl stands.loans)
      (samples_kept number port after old there names held service.samples refl stands.samples)

module _ {T U : Type 0} (names : Naming) (lent : List (ℕ × LentSlot)) (held : List (ℕ × Taken)) (buffer : ℕ) (old : ServicePorts T U)
    (service : Service T) (number index : ℕ) (port : PublisherPort T U) (stands : StandsFor names lent held buffer old service)
    (there : port_of number old.publishers ≡ Some port) (gone : port.stands ≡ false) where
  abbrev ends : PublisherPort T U
  ends = ended_at index port

  abbrev before : PublisherIs names old service number port
  before = stands.publishers number port there

  parted : HasParted (record port { stands = false }) ends
  parted = subst (λ standing. HasParted (record port { stands = standing }) ends) gone (ended_parts index port)

  silent : port.sender.uses.sending ≡ None
  silent = before.2.left gone

  -- the machine's service is the same whether a connection of a publisher that left ended or not
  ended_stands : StandsFor names lent held buffer (with_one number ends old) service
  ended_stands =
      all_changed names names.message lent lent held held buffer old service number port ends before.0 service.publishers service.loans
      service.samples service.mailboxes old.subscribers stands there (λ other off. refl) before.1 (λ other off. refl)
      (subst (λ standing. PublisherStandsFor (names.message number) (names.reader number) old.sizes.max_subscribers ends
      (record before.0 { stands = standing })) (sym (before.2.stands ∙ gone))
      (left_port port ends parted silent (names.message number) (names.reader number) old.sizes.max_subscribers before.0 before.2))
      (left_boxes port ends parted silent (names.message number) (names.reader number) names.subscriber
      (service.mailboxes (names.publisher number)) service.subscribers before.3)
      (λ other off. refl) (λ one other there. there) (λ other. refl) stands.once_subscribers
      (ap (λ (one : PublisherPort T U). one.number) (ended_parts index port).same)
      (ap (λ (one : PublisherPort T U). one.stands) (ended_parts index port).same)
      (ap (λ (one : PublisherPort T U). one.place) (ended_parts index port).same)
      (λ i to reads attached. stands.keyed number port there i to (still_read port ends parted silent i to reads) attached)
      (loans_kept number port ends old there names lent service.loans
      (ap (λ (one : PublisherPort T U). one.sender.uses.loans) (ended_parts index port).same) stands.loans)
      (samples_alike names held old number port ends there (borrowed_same port ends parted silent) service.samples stands.samples)

  tidy_ends : IsTidy port → IsTidy ends
  tidy_ends tidy i vacant = ⊎_elim
      (λ stays. stays.same ∙ tidy i (ap (λ (one : Connection (Message T U)). one.stage) (sym stays.same) ∙ vacant))
      (λ over. over.ends ∙ ended_tidy (connection_of i port)
      (ap (λ (one : Connection (Message T U)). one.stage) (sym over.ends) ∙ vacant))
      ((ended_parts index port).each i)

  settled_ends : IsTidy port → StandsFor names lent held buffer
      (record old { publishers = settled number (with_port number old.publishers ends) }) service
  settled_ends tidy =
      settled_stands names lent held buffer (with_one number ends old) service number ends ended_stands (tidy_ends tidy)
      (same_set (at_number number) old.publishers ends port there)

-- The ports of a domain represent a service, except for empty mailboxes of a subscriber, which are removed.
pub record StandsWithout {T U : Type 0} (names : Naming) (lent : List (ℕ × LentSlot)) (held : List (ℕ × Taken)) (buffer : ℕ)
    (ports : ServicePorts T U) (service : Service T) (name : ℕ) : Type 0 where
  pub mailboxes : ℕ → ℕ → Option (Mailbox T)
  pub emptied : AreEmptied name service.mailboxes mailboxes
  pub stands : StandsFor names lent held buffer ports (record service { mailboxes = mailboxes })

-- it is the subscriber of this name to whom a connection leads
abbrev pub LeadsToName : Naming → ℕ → Option Attached → Type 0
LeadsToName names name None = Unit {0}
LeadsToName names name (Some attached) = names.reader attached.publisher attached.index ≡ name

-- the publishers where nobody reads any longer at the connection of one that stands, or left
abbrev left_so : {T U : Type 0} → Bool → Attached → ServicePorts T U → PublisherPort T U → List (ℕ × PublisherPort T U)
left_so standing attached old port =
    if standing then with_port attached.publisher old.publishers (detached_at attached.index port)
    else settled attached.publisher (with_port attached.publisher old.publishers
    (if standing then port else ended_at attached.index port))

module _ {T U : Type 0} (names : Naming) (lent : List (ℕ × LentSlot)) (held : List (ℕ × Taken)) (buffer : ℕ) where
  -- where the publisher left its connection ends
  pub left_stands : (service : Service T) (attached : Attached) (old : ServicePorts T U) (found : Option (PublisherPort T U))
      → port_of attached.publisher old.publishers ≡ found → port_stands found ≡ false → IsSound old
      → StandsFor names lent held buffer old service
      → StandsFor names lent held buffer (record old { publishers = left_at (Some attached) old.publishers }) service
  left_stands service attached old None none gone sound stands = rw none (rw none stands)
  left_stands service attached old (Some port) there gone sound stands =
      rw there (subst (λ standing. StandsFor names lent held buffer
      (record old { publishers = left_so standing attached old port }) service) (sym gone)
      (settled_ends names lent held buffer old service attached.publisher attached.index port stands there gone
      (tidy_found old.next_port attached.publisher old.publishers port sound there)))

  module _ (service : Service T) (name : ℕ) (attached : Attached) (old : ServicePorts T U)
      (led : names.reader attached.publisher attached.index ≡ name) (walk : StandsWithout names lent held buffer old service name)
      (port : PublisherPort T U) (there : port_of attached.publisher old.publishers ≡ Some port) (standing : port.stands ≡ true) where
    abbrev without : Service T
    without = record service { mailboxes = walk.mailboxes }

    abbrev After : PublisherPort T U → Type 0
    After after = StandsWithout names lent held buffer (with_one attached.publisher after old) service name

    unmet : (live : Bool) → is_live attached.index port ≡ live
        → ((place : ℕ) → get_or port.ties.items place None ≢ Some attached.index)
        → After (if live then record (with_connection_of attached.index (ended (connection_of attached.index port)) port)
        { readers = set port.readers attached.index None } else port)
    unmet true live untied = record {
      mailboxes = emptied_at (names.publisher attached.publisher) name walk.mailboxes;
      emptied = one_emptied name (names.publisher attached.publisher) service.mailboxes walk.mailboxes walk.emptied
          (subst (λ n. (box : Mailbox T) → walk.mailboxes (names.publisher attached.publisher) n ≡ Some box
          → (box.waiting ≡ []) × (box.borrowed ≡ [])) led
          (was_empty names lent held buffer old without attached.publisher attached.index port walk.stands there live standing untied));
      stands = subst (λ n. StandsFor names lent held buffer
          (with_one attached.publisher (without_reader attached.index port) old)
          (record service { mailboxes = emptied_at (names.publisher attached.publisher) n walk.mailboxes })) led
          (unmet_stands names lent held buffer old without attached.publisher attached.index port walk.stands there live standing untied);
    }
    unmet false live untied = record {
      mailboxes = walk.mailboxes;
      emptied = walk.emptied;
      stands = same_stands names lent held buffer old without attached.publisher attached.index port walk.stands there;
    }

    detached : (tied : Bool) → has_tie attached.index port.ties ≡ tied
        → After (if tied then unread_at attached.index port else ended_at attached.index port)
    detached true tied = record {
      mailboxes = walk.mailboxes;
      emptied = walk.emptied;
      stands = unread_stands names lent held buffer old without attached.publisher attached.index port walk.stands there;
    }
    detached false tied = unmet (is_live attached.index port) refl (none_tied attached.index port.ties tied)

    pub detached_stands : After (detached_at attached.index port)
    detached_stands = detached (has_tie attached.index port.ties) refl

  left_by : (service : Service T) (name : ℕ) (attached : Attached) (old : ServicePorts T U) (found : Option (PublisherPort T U))
      → port_of attached.publisher old.publishers ≡ found → (standing : Bool) → port_stands found ≡ standing
      → names.reader attached.publisher attached.index ≡ name → IsSound old → StandsWithout names lent held buffer old service name
      → StandsWithout names lent held buffer (record old { publishers = left_at (Some attached) old.publishers }) service name
  left_by service name attached old found there false gone led sound walk = record {
    mailboxes = walk.mailboxes;
    emptied = walk.emptied;
    stands = left_stands (record service { mailboxes = walk.mailboxes }) attached old found there gone sound walk.stands;
  }
  left_by service name attached old None there true standing led sound walk = never_true standing
  left_by service name attached old (Some port) there true standing led sound walk =
      rw there (subst (λ stands. StandsWithout names lent held buffer
      (record old { publishers = left_so stands attached old port }) service name) (sym standing)
      (detached_stands service name attached old led walk port there standing))

  pub left_without : (service : Service T) (name : ℕ) (attached : Option Attached) (old : ServicePorts T U)
      → LeadsToName names name attached → IsSound old → StandsWithout names lent held buffer old service name
      → StandsWithout names lent held buffer (record old { publishers = left_at attached old.publishers }) service name
  left_without service name None old led sound walk = walk
  left_without service name (Some attached) old led sound walk =
      left_by service name attached old (port_of attached.publisher old.publishers) refl
      (port_stands (port_of attached.publisher old.publishers)) refl led sound walk

-- A subscriber reads at a connection of a publisher exactly if the machine's subscriber exists and is connected to the publisher.
use Rattle.std.proofs.Common.{◌≡◌, ◌≢◌, ◌∷◌, [], ◌++◌, ◌&&◌, ℕ, zero, suc, Bool, true, false, List, get_or, map, Option, None, Some, refl}
use Rattle.std.proofs.Common.{sym, ap, subst, ◌∙◌}
use Rattle.std.proofs.Math.Logic.{⊎_elim}
use Rattle.std.proofs.lemmas.Bool.{cases_Bool, eq-eqb}
use Rattle.std.proofs.lemmas.Bool.Decides.{eqb_tells}
use Rattle.std.specs.Option.{option_map_or}
use Rattle.std.specs.Prelude.{option_map, ◌==◌, ◌||◌}
use Rattle.iox_domain.proofs.StayRoomy.{entry_found}
use Rattle.iox_domain.specs.DomainPorts.Places.{is_attached, reached}
use Rattle.iox_domain.specs.DomainPorts.Ports.{is_live, connection_of}
use Rattle.iox_domain.specs.DomainPorts.Publishers.{port_of}
use Rattle.iox_domain.specs.DomainPorts.Subscribing.{attached_at}
use Rattle.iox_domain.specs.DomainPorts.declared.attached.Attached.{Attached}
use Rattle.iox_domain.specs.DomainPorts.declared.attached.Taken.{Taken}
use Rattle.iox_domain.specs.DomainPorts.declared.publisher_port.PublisherPort.{PublisherPort}
use Rattle.iox_domain.specs.DomainPorts.declared.reader.Reader.{Reader}
use Rattle.iox_domain.specs.DomainPorts.declared.subscriber_port.SubscriberPort.{SubscriberPort}
use Rattle.iox_domain.specs.Roomy.{AreRoomy, IsAttached}
use Rattle.iox_domain.specs.Subscribers.{subscriber_of}
use Rattle.iox_domain.specs.declared.ports.service_ports.ServicePorts.{ServicePorts}
use Rattle.iox_domain_machine.specs.Mailboxes.{MailboxesStandFor}
use Rattle.iox_domain_machine.specs.Naming.{Naming}
use Rattle.iox_domain_machine.specs.Standing.{StandsFor, PublisherIs}
use Rattle.iox_domain_machine.specs.Subscribers.{publisher_by}
use Rattle.iox_domain_machine.specs.Tables.{LentSlot}
use Rattle.iox_domain_machine.proofs.Changing.{not_zero}
use Rattle.iox_domain_machine.proofs.Found.{same_some, never_some, never_true}
use Rattle.iox_domain_machine.proofs.GivingUp.{some_of}
use Rattle.iox_domain_machine.proofs.ReleasePort.{live_open}
use Rattle.iox_domain_machine.proofs.Settling.{both}
use Rattle.iox_machine.specs.PortList.{those}
use Rattle.iox_machine.specs.Service.{Service, Subscriber}
use Rattle.iox_machine.specs.Table.{at, contains}

-- the ports that keys lead to, at their places
abbrev ports_at : (ℕ → ℕ) → List (Option ℕ) → List ℕ
ports_at name places = those (map (option_map name) places)

held_first : (number : ℕ) (more : List ℕ) → contains (number ∷ more) number ≡ true
held_first number more = ap (λ b. b || contains more number) (eq-eqb number number refl)

held_behind : (number first : ℕ) (more : List ℕ) → contains more number ≡ true → contains (first ∷ more) number ≡ true
held_behind number first more is = ap (λ b. (first == number) || b) is ∙ or_true (first == number)
  where
    or_true : (b : Bool) → (b || true) ≡ true
    or_true true = refl
    or_true false = refl

-- the port of a key at some place is one of them
led_to : (name : ℕ → ℕ) (key place : ℕ) (places more : List (Option ℕ)) → get_or places place None ≡ Some key
    → contains (ports_at name (places ++ more)) (name key) ≡ true
led_to name key place [] more is = never_some key is
led_to name key zero (None ∷ places) more is = never_some key is
led_to name key zero (Some other ∷ places) more is =
    subst (λ n. contains (name n ∷ ports_at name (places ++ more)) (name key) ≡ true) (sym (same_some other key is))
    (held_first (name key) (ports_at name (places ++ more)))
led_to name key (suc place) (None ∷ places) more is = led_to name key place places more is
led_to name key (suc place) (Some other ∷ places) more is =
    held_behind (name key) (name other) (ports_at name (places ++ more)) (led_to name key place places more is)

-- and one of them is that of some key
led_from : (name : ℕ → ℕ) (number : ℕ) (places : List (Option ℕ)) → contains (ports_at name places) number ≡ true
    → (key : ℕ) × (name key ≡ number)
led_from name number [] is = never_true is
led_from name number (None ∷ places) is = led_from name number places is
led_from name number (Some key ∷ places) is = ⊎_elim
    (λ same. (key, same.1))
    (λ off. led_from name number places (sym (ap (λ b. b || contains (ports_at name places) number) off.0) ∙ is))
    (eqb_tells (name key) number)

-- whether a subscriber of the machine stands, and is connected to the publisher of a number
abbrev pub reads_still : ℕ → Subscriber → Bool
reads_still number one = one.stands && contains (those one.connected) number

module _ {T U : Type 0} (names : Naming) (lent : List (ℕ × LentSlot)) (held : List (ℕ × Taken)) (buffer : ℕ) (ports : ServicePorts T U)
    (service : Service T) (stands : StandsFor names lent held buffer ports service) (roomy : AreRoomy ports) (number index : ℕ)
    (port : PublisherPort T U) (there : port_of number ports.publishers ≡ Some port) (standing : port.stands ≡ true)
    (live : is_live index port ≡ true) where
  abbrev was : PublisherIs names ports service number port
  was = stands.publishers number port there

  abbrev boxes : MailboxesStandFor (names.message number) (names.reader number) names.subscriber port
      (service.mailboxes (names.publisher number)) service.subscribers
  boxes = was.3

  abbrev reads_on : Subscriber → Bool
  reads_on = reads_still (names.publisher number)

  named : names.publisher number ≢ 0
  named = not_zero names.publisher (names.publisher number) was.0 service.publishers stands.named_publishers was.1

  module _ (to : Reader) (is : get_or port.readers index None ≡ Some to) where
    abbrev reader_name : ℕ
    reader_name = names.reader number index

    is_reader : reader_name ≡ names.subscriber to.subscriber
    is_reader = (boxes.read index to is).0

    attached_reads : to.attached ≡ true → option_map_or reads_on (at reader_name service.subscribers) false ≡ true
    attached_reads attached =
        let keyed = stands.keyed number port there index to is attached in
        let one = stands.subscribers to.subscriber keyed.0 keyed.1 in
        let listed = stands.listed number port there standing in
        let apart = entry_found to.subscriber keyed.0 ports keyed.1 roomy keyed.2 in
        let name = publisher_by names.publisher keyed.0 in
        let placed = apart.placed keyed.3 port.place (record { publisher = number; index = index }) listed.0 keyed.4 listed.1
        (sym listed.2) in
        let it : name keyed.3 ≡ names.publisher number =
        ap (λ (found : Option Attached). option_map_or (λ attached. names.publisher attached.publisher) found 0) keyed.4 in
        let connected : contains (those one.0.connected) (names.publisher number) ≡ true =
        ap (λ connected. contains (those connected) (names.publisher number)) (one.2.connected keyed.2)
        ∙ subst (λ n. contains (ports_at name (reached ports.sizes.max_publishers keyed.0.places.items)) n ≡ true) it
        (led_to name keyed.3 port.place keyed.0.places.items _ placed) in
        ap (λ n. option_map_or reads_on (at n service.subscribers) false) is_reader
        ∙ ap (λ found. option_map_or reads_on found false) one.1
        ∙ ap (λ b. b && contains (those one.0.connected) (names.publisher number)) (one.2.stands ∙ keyed.2) ∙ connected

    -- who reads still reads there
    reads_there : (one : Subscriber) → at reader_name service.subscribers ≡ Some one → reads_on one ≡ true
        → (found : Option SubscriberPort) → subscriber_of to.subscriber ports.subscribers ≡ found → to.attached ≡ true
    reads_there one at_it reads None none =
        let left = stands.gone_subscribers to.subscriber one none (ap (λ n. at n service.subscribers) (sym is_reader) ∙ at_it) in
        never_true (sym left ∙ (both one.stands _ reads).0)
    reads_there one at_it reads (Some subscriber) found =
        let other = stands.subscribers to.subscriber subscriber found in
        let same : other.0 ≡ one = same_some other.0 one (sym other.1 ∙ ap (λ n. at n service.subscribers) (sym is_reader) ∙ at_it) in
        let parts = both one.stands _ reads in
        let stood : subscriber.stands ≡ true = sym other.2.stands ∙ ap (λ (it : Subscriber). it.stands) same ∙ parts.0 in
        let name = publisher_by names.publisher subscriber in
        let key = led_from name (names.publisher number) (reached ports.sizes.max_publishers subscriber.places.items)
        (ap (λ connected. contains (those connected) (names.publisher number)) (sym (other.2.connected stood))
        ∙ ap (λ (it : Subscriber). contains (those it.connected) (names.publisher number)) same ∙ parts.1) in
        by (entry_found to.subscriber subscriber ports found roomy stood).reads key.0 (attached_at key.0 subscriber) refl key.1
      where
        by : ((key : ℕ) (attached : Attached) → attached_at key subscriber ≡ Some attached
            → IsAttached to.subscriber attached ports.publishers) → (key : ℕ)
            → (attached : Option Attached) → attached_at key subscriber ≡ attached
            → option_map_or (λ (one : Attached). names.publisher one.publisher) attached 0 ≡ names.publisher number → to.attached ≡ true
        by reads key None none same = absurd (named (sym same))
        by reads key (Some attached) here same =
            let it = reads key attached here in
            let is_number : number ≡ attached.publisher =
            stands.named_publishers.apart number attached.publisher named (sym same) in
            let is_port : it.0 ≡ port =
            same_some it.0 port (sym it.1 ∙ ap (λ n. port_of n ports.publishers) (sym is_number) ∙ there) in
            let reader : get_or port.readers attached.index None ≡ Some (record { subscriber = to.subscriber; attached = true }) =
            ap (λ (one : PublisherPort T U). get_or one.readers attached.index None) (sym is_port) ∙ it.2.reader in
            let live_there : is_live attached.index port ≡ true =
            ap (λ (one : PublisherPort T U). is_live attached.index one) (sym is_port) ∙ it.2.live in
            let same_index : attached.index ≡ index =
            boxes.apart attached.index index (live_open (connection_of attached.index port).stage live_there)
            (live_open (connection_of index port).stage live)
            ((boxes.read attached.index (record { subscriber = to.subscriber; attached = true }) reader).0 ∙ sym is_reader) in
            ap (λ (one : Reader). one.attached)
            (same_some to (record { subscriber = to.subscriber; attached = true })
            (sym is ∙ ap (λ n. get_or port.readers n None) (sym same_index) ∙ reader))

    left_off : to.attached ≡ false → (found : Option Subscriber) → at reader_name service.subscribers ≡ found
        → option_map_or reads_on found false ≡ false
    left_off left None none = refl
    left_off left (Some one) at_it = ⊎_elim
        (λ reads. never_true (sym left ∙ reads_there one at_it reads (subscriber_of to.subscriber ports.subscribers) refl))
        (λ not. not)
        (cases_Bool (reads_on one))

    known_by : (attached : Bool) → to.attached ≡ attached → option_map_or reads_on (at reader_name service.subscribers) false ≡ attached
    known_by true attached = attached_reads attached
    known_by false left = left_off left (at reader_name service.subscribers) refl

  -- who reads at a connection that goes on is known to both
  pub reader_known : option_map_or reads_on (at (names.reader number index) service.subscribers) false
      ≡ is_attached (get_or port.readers index None)
  reader_known =
      let led = some_of (get_or port.readers index None) (boxes.led index live) in
      known_by led.0 led.1 led.0.attached refl ∙ ap is_attached (sym led.1)

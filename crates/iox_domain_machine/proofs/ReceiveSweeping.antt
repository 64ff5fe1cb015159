-- The idle expired connections of a subscriber that are met end, of a domain and of the machine.
use Rattle.std.proofs.Common.{◌≡◌, ◌∷◌, [], ◌++◌, ◌==◌, ◌+◌, ◌<◌, ℕ, suc, Bool, true, false, cond, not, List, length, map, Some, refl}
use Rattle.std.proofs.Common.{sym, ap, subst, ◌∙◌, arith}
use Rattle.std.proofs.lemmas.Bool.{eq-eqb}
use Rattle.std.proofs.lemmas.List.{append_assoc, map-append, length_push}
use Rattle.std.proofs.lemmas.Map.Steps.{set_value_same}
use Rattle.std.specs.Map.{set_value}
use Rattle.std.specs.Prelude.{filter, is_some, slice_get, if◌then◌else◌}
use Rattle.iox_domain.proofs.Keys.{often_append}
use Rattle.iox_domain.proofs.Numbered.{at_number, same_set}
use Rattle.iox_domain.specs.Attaching.{keys_at}
use Rattle.iox_domain.specs.DomainPorts.Receiving.{dropped_port, dropped_ports, is_idle_at, swept}
use Rattle.iox_domain.specs.DomainPorts.Subscribing as domain
use Rattle.iox_domain.specs.DomainPorts.Subscribing.{attached_at}
use Rattle.iox_domain.specs.DomainPorts.declared.attached.Taken.{Taken}
use Rattle.iox_domain.specs.DomainPorts.declared.publisher_port.PublisherPort.{PublisherPort}
use Rattle.iox_domain.specs.DomainPorts.declared.subscriber_port.SubscriberPort.{SubscriberPort}
use Rattle.iox_domain.specs.PortLawsLaws.{IsSound}
use Rattle.iox_domain.specs.Ports.{with_both}
use Rattle.iox_domain.specs.Subscribers.{subscriber_of}
use Rattle.iox_domain.specs.Tries.{how_often}
use Rattle.iox_domain.specs.declared.ports.service_ports.ServicePorts.{ServicePorts}
use Rattle.iox_domain_machine.specs.Mailboxes.{IsKeyed}
use Rattle.iox_domain_machine.specs.Naming.{Naming}
use Rattle.iox_domain_machine.specs.Standing.{StandsFor, SubscriberIs}
use Rattle.iox_domain_machine.specs.Subscribers.{SubscriberStandsFor, publisher_by}
use Rattle.iox_domain_machine.specs.Tables.{LentSlot}
use Rattle.iox_domain_machine.proofs.Found.{same_some, at_changed}
use Rattle.iox_domain_machine.proofs.Hearing.{Hears, has_connection, often_head}
use Rattle.iox_domain_machine.proofs.ReceiveDropping.{Dropped, drop_stands}
use Rattle.iox_domain_machine.proofs.ReceiveHearing.{idle_same}
use Rattle.iox_domain_machine.proofs.SubscriberChanging.{subscriber_set}
use Rattle.iox_machine.specs.Mailbox.{is_idle}
use Rattle.iox_machine.specs.Service.{Service, Subscriber, mailbox}
use Rattle.iox_machine.proofs.Shorthands.{with_subscriber}
use Rattle.iox_machine.specs.Table.{at, changed}

-- what was set is set again
set_again_by : {X : Type 0} (test : ℕ → Bool) (b : Bool) (entry : ℕ × X) (entries : List (ℕ × X)) (x y : X) → test entry.0 ≡ b
    → set_value test (set_value test entries x) y ≡ set_value test entries y
    → set_value test (cond b ((entry.0, x) ∷ entries) (entry ∷ set_value test entries x)) y
    ≡ cond b ((entry.0, y) ∷ entries) (entry ∷ set_value test entries y)
set_again_by test true entry entries x y is rest =
    ap (λ b. cond b ((entry.0, y) ∷ entries) ((entry.0, x) ∷ set_value test entries y)) is
set_again_by test false entry entries x y is rest =
    ap (λ b. cond b ((entry.0, y) ∷ set_value test entries x) (entry ∷ set_value test (set_value test entries x) y)) is
    ∙ ap (λ more. entry ∷ more) rest

pub set_again : {X : Type 0} (test : ℕ → Bool) (entries : List (ℕ × X)) (x y : X)
    → set_value test (set_value test entries x) y ≡ set_value test entries y
set_again test [] x y = refl
set_again test (entry ∷ entries) x y = set_again_by test (test entry.0) entry entries x y refl (set_again test entries x y)

pub changed_again : {V : Type 0} (number : ℕ) (v w : V) (table : List (ℕ × V))
    → changed number w (changed number v table) ≡ changed number w table
changed_again number v w [] = refl
changed_again {V} number v w (entry ∷ table) =
    ap (λ first. first ∷ changed number w (changed number v table)) (by (entry.0 == number) refl)
    ∙ ap (λ more. (if entry.0 == number then (number, w) else entry) ∷ more) (changed_again number v w table)
  where
    either : Bool → ℕ × V → ℕ × V → ℕ × V
    either b one other = if b then one else other

    by : (b : Bool) → (entry.0 == number) ≡ b
        → either ((either b (number, v) entry).0 == number) (number, w) (either b (number, v) entry) ≡ either b (number, w) entry
    by true is = ap (λ b. either b (number, w) (number, v)) (eq-eqb number number refl)
    by false is = ap (λ b. either b (number, w) entry) is

-- the key at a place
key_at : (before : List ℕ) (key : ℕ) (more : List ℕ) → slice_get (before ++ key ∷ more) (length before) ≡ Some key
key_at [] key more = refl
key_at (first ∷ before) key more = key_at before key more

module _ {T U : Type 0} where
  same_pair : (port other : SubscriberPort) (ports others : List (ℕ × PublisherPort T U)) → port ≡ other → ports ≡ others
      → ◌≡◌ {A = SubscriberPort × List (ℕ × PublisherPort T U)} (port, ports) (other, others)
  same_pair port other ports others same same_ports =
      ap (λ (one : SubscriberPort). (one, ports)) same ∙ ap (λ (all : List (ℕ × PublisherPort T U)). (other, all)) same_ports

  -- one that is met ends if it is idle, and else is passed over
  swept_idle : (place count key : ℕ) (port : SubscriberPort) (ports : List (ℕ × PublisherPort T U))
      → slice_get port.expired.items place ≡ Some key → domain.is_idle port ports key ≡ true
      → swept place (suc count) (port, ports)
      ≡ swept place count (dropped_port place (Some key) port, dropped_ports (Some key) port ports)
  swept_idle place count key port ports here idle =
      ap (λ found. if is_idle_at found port ports then swept place count (dropped_port place found port, dropped_ports found port ports)
      else swept (place + 1) count (port, ports)) here
      ∙ ap (λ b. if b then swept place count (dropped_port place (Some key) port, dropped_ports (Some key) port ports)
      else swept (place + 1) count (port, ports)) idle

  swept_busy : (place count key : ℕ) (port : SubscriberPort) (ports : List (ℕ × PublisherPort T U))
      → slice_get port.expired.items place ≡ Some key → domain.is_idle port ports key ≡ false
      → swept place (suc count) (port, ports) ≡ swept (place + 1) count (port, ports)
  swept_busy place count key port ports here not_idle =
      ap (λ found. if is_idle_at found port ports then swept place count (dropped_port place found port, dropped_ports found port ports)
      else swept (place + 1) count (port, ports)) here
      ∙ ap (λ b. if b then swept place count (dropped_port place (Some key) port, dropped_ports (Some key) port ports)
      else swept (place + 1) count (port, ports)) not_idle

-- which connections of a subscriber aren't idle
abbrev pub not_idle : {T : Type 0} → ℕ → Service T → List ℕ → List ℕ
not_idle number service publishers = filter (λ publisher. not (is_idle (mailbox publisher number service))) publishers

-- What is left of a subscriber and of the publishers once the idle ones among some expired connections ended: the machine's service is the
-- same without them, and the subscriber hears still.
pub record HasSwept {T U : Type 0} (names : Naming) (lent : List (ℕ × LentSlot)) (held : List (ℕ × Taken)) (buffer : ℕ)
    (ports : ServicePorts T U) (service : Service T) (number : ℕ) (subscriber : Subscriber) (expired : List ℕ)
    (end : SubscriberPort × List (ℕ × PublisherPort T U)) : Type 0 where
  pub stands : StandsFor names lent held buffer (with_both number end.0 end.1 ports)
      (with_subscriber (names.subscriber number) (record subscriber { expired = expired }) service)
  pub hears : Hears number end.0 end.1

-- what is swept of a subscriber, some of whose expired connections are met before others
abbrev pub Claim : (T U : Type 0) → Naming → List (ℕ × LentSlot) → List (ℕ × Taken) → ℕ → ℕ → List ℕ → Type 0
Claim T U names lent held buffer number first =
    (before more : List ℕ) (ports : ServicePorts T U) (service : Service T) (port : SubscriberPort) (subscriber : Subscriber)
    (named named_before named_more : List ℕ)
    → StandsFor names lent held buffer ports service → IsSound ports → subscriber_of number ports.subscribers ≡ Some port
    → at (names.subscriber number) service.subscribers ≡ Some subscriber → Hears number port ports.publishers
    → port.expired.items ≡ before ++ (first ++ more)
    → named ≡ map (publisher_by names.publisher port) first → named_before ≡ map (publisher_by names.publisher port) before
    → named_more ≡ map (publisher_by names.publisher port) more
    → HasSwept names lent held buffer ports service number subscriber
    (named_before ++ (not_idle (names.subscriber number) service named ++ named_more))
    (swept (length before) (length first) (port, ports.publishers))

module _ {T U : Type 0} (names : Naming) (lent : List (ℕ × LentSlot)) (held : List (ℕ × Taken)) (buffer : ℕ) (number : ℕ) where
  nothing_swept : (ports : ServicePorts T U) (service : Service T) (port : SubscriberPort) (subscriber : Subscriber)
      → StandsFor names lent held buffer ports service → subscriber_of number ports.subscribers ≡ Some port
      → at (names.subscriber number) service.subscribers ≡ Some subscriber → Hears number port ports.publishers
      → HasSwept names lent held buffer ports service number subscriber subscriber.expired (port, ports.publishers)
  nothing_swept ports service port subscriber stands there at_it hears = record {
    stands = subscriber_set names lent held buffer ports service number port port subscriber stands there
        (subst (λ (one : Subscriber). SubscriberStandsFor names.publisher ports.sizes.max_publishers ports.sizes.expired_connections port
        one) (same_some was.0 subscriber (sym was.1 ∙ at_it)) was.2)
        refl refl refl refl
        (λ other found it. subst (λ (all : List (ℕ × SubscriberPort)). IsKeyed other found all)
        (sym (set_value_same (at_number number) ports.subscribers port there)) (stands.keyed other found it));
    hears = hears;
  }
    where
      was : SubscriberIs names ports service number port
      was = stands.subscribers number port there

  pub swept_to : (ports : ServicePorts T U) (service : Service T) (subscriber : Subscriber) (one other : List ℕ)
      (end there : SubscriberPort × List (ℕ × PublisherPort T U)) → one ≡ other → there ≡ end
      → HasSwept names lent held buffer ports service number subscriber one end
      → HasSwept names lent held buffer ports service number subscriber other there
  swept_to ports service subscriber one other end there same is sweep_stands =
      subst (λ expired. HasSwept names lent held buffer ports service number subscriber expired there) same
      (subst (λ (end : SubscriberPort × List (ℕ × PublisherPort T U)). HasSwept names lent held buffer ports service number subscriber
      one end)
      (sym is) sweep_stands)

  step : (key : ℕ) (first : List ℕ) → Claim T U names lent held buffer number first → Claim T U names lent held buffer number (key ∷ first)
  step key first on before more ports service port subscriber named named_before named_more stands sound there at_it hears split
      is is_before is_more = by (domain.is_idle port ports.publishers key) refl
    where
      name : ℕ → ℕ
      name = publisher_by names.publisher port

      there_is : slice_get port.expired.items (length before) ≡ Some key
      there_is = ap (λ items. slice_get items (length before)) split ∙ key_at before key (first ++ more)

      is_expired : 0 < how_often key port.expired.items
      is_expired = omega (
        arith,
        ap (how_often key) split,
        often_append key before (key ∷ (first ++ more)),
        often_head key (first ++ more),
      )

      is_held : is_some (attached_at key port) ≡ true
      is_held = has_connection names lent held buffer ports service number port stands there hears key
          (omega (arith, is_expired, often_append key (keys_at port.places.items) port.expired.items))

      same_idle : is_idle (mailbox (name key) (names.subscriber number) service) ≡ domain.is_idle port ports.publishers key
      same_idle = idle_same names lent held buffer ports service number port stands there hears key is_held

      busy_now : (idle : Bool) → domain.is_idle port ports.publishers key ≡ idle
          → not_idle (names.subscriber number) service named
          ≡ cond (not idle) (name key ∷ not_idle (names.subscriber number) service (map name first))
          (not_idle (names.subscriber number) service (map name first))
      busy_now idle idles =
          ap (not_idle (names.subscriber number) service) is
          ∙ ap (λ b. cond (not b) (name key ∷ not_idle (names.subscriber number) service (map name first))
          (not_idle (names.subscriber number) service (map name first))) (same_idle ∙ idles)

      ends : domain.is_idle port ports.publishers key ≡ true
          → Dropped names lent held buffer ports service number port subscriber before key (first ++ more)
          → HasSwept names lent held buffer ports service number subscriber
          (named_before ++ (not_idle (names.subscriber number) service named ++ named_more))
          (swept (length before) (suc (length first)) (port, ports.publishers))
      ends idle drop =
          let next_ports : ServicePorts T U = with_both number drop.next drop.publishers ports in
          let later : Subscriber = record subscriber { expired = map name (before ++ (first ++ more)) } in
          let next_service : Service T = with_subscriber (names.subscriber number) later service in
          let end = swept (length before) (length first) (drop.next, drop.publishers) in
          let rest = on before more next_ports next_service drop.next later (map name first) named_before named_more drop.stands drop.sound
          (same_set (at_number number) ports.subscribers drop.next port there)
          (at_changed (names.subscriber number) later subscriber service.subscribers at_it) drop.hears drop.items
          (drop.same first (λ other among. omega (
            arith,
            among,
            often_append other before (first ++ more),
            often_append other first more,
          )))
          (is_before ∙ drop.same before (λ other among. omega (arith, among, often_append other before (first ++ more))))
          (is_more ∙ drop.same more (λ other among. omega (
            arith,
            among,
            often_append other before (first ++ more),
            often_append other first more,
          ))) in
          let expired = named_before ++ (not_idle (names.subscriber number) service (map name first) ++ named_more) in
          swept_to ports service subscriber expired (named_before ++ (not_idle (names.subscriber number) service named ++ named_more)) end
          (swept (length before) (suc (length first)) (port, ports.publishers))
          (ap (λ met. named_before ++ (met ++ named_more)) (sym (busy_now true idle)))
          (swept_idle (length before) (length first) key port ports.publishers there_is idle
          ∙ ap (swept (length before) (length first)) (same_pair (dropped_port (length before) (Some key) port) drop.next
          (dropped_ports (Some key) port ports.publishers) drop.publishers drop.is_port drop.are_ports))
          (record {
            stands = subst (λ (subscribers : List (ℕ × Subscriber)). StandsFor names lent held buffer (with_both number end.0 end.1 ports)
                (record service { subscribers = subscribers }))
                (changed_again (names.subscriber number) later (record subscriber { expired = expired }) service.subscribers)
                (subst (λ (all : List (ℕ × SubscriberPort)). StandsFor names lent held buffer (record ports {
                  subscribers = all;
                  publishers = end.1;
                }) (with_subscriber (names.subscriber number) (record subscriber { expired = expired }) next_service))
                (set_again (at_number number) ports.subscribers drop.next end.0) rest.stands);
            hears = rest.hears;
          })

      passes : domain.is_idle port ports.publishers key ≡ false
          → HasSwept names lent held buffer ports service number subscriber
          (named_before ++ (not_idle (names.subscriber number) service named ++ named_more))
          (swept (length before) (suc (length first)) (port, ports.publishers))
      passes off =
          let rest = on (before ++ key ∷ []) more ports service port subscriber (map name first) (named_before ++ name key ∷ []) named_more
          stands sound there at_it hears (split ∙ sym (append_assoc before (key ∷ []) (first ++ more))) refl
          (ap (λ all. all ++ name key ∷ []) is_before ∙ sym (map-append name before (key ∷ []))) is_more in
          swept_to ports service subscriber
          ((named_before ++ name key ∷ []) ++ (not_idle (names.subscriber number) service (map name first) ++ named_more))
          (named_before ++ (not_idle (names.subscriber number) service named ++ named_more))
          (swept (length (before ++ key ∷ [])) (length first) (port, ports.publishers))
          (swept (length before) (suc (length first)) (port, ports.publishers))
          (append_assoc named_before (name key ∷ []) (not_idle (names.subscriber number) service (map name first) ++ named_more)
          ∙ ap (λ met. named_before ++ (met ++ named_more)) (sym (busy_now false off)))
          (swept_busy (length before) (length first) key port ports.publishers there_is off
          ∙ ap (λ place. swept place (length first) (port, ports.publishers)) (sym (length_push before key)))
          rest

      by : (idle : Bool) → domain.is_idle port ports.publishers key ≡ idle
          → HasSwept names lent held buffer ports service number subscriber
          (named_before ++ (not_idle (names.subscriber number) service named ++ named_more))
          (swept (length before) (suc (length first)) (port, ports.publishers))
      by true idle =
          ends idle (drop_stands names lent held buffer ports service number port subscriber stands sound there at_it hears before key
          (first ++ more) split)
      by false off = passes off

  none_swept : Claim T U names lent held buffer number []
  none_swept before more ports service port subscriber named named_before named_more stands sound there at_it hears split is is_before
      is_more =
      let name = publisher_by names.publisher port in
      let was = stands.subscribers number port there in
      let expired : subscriber.expired ≡ named_before ++ named_more =
      ap (λ (one : Subscriber). one.expired) (same_some subscriber was.0 (sym at_it ∙ was.1)) ∙ was.2.expired hears.standing ∙ ap
      (map name) split
      ∙ map-append name before more ∙ ap (λ all. all ++ map name more) (sym is_before) ∙ ap (λ all. named_before ++ all) (sym is_more) in
      swept_to ports service subscriber subscriber.expired
      (named_before ++ (not_idle (names.subscriber number) service named ++ named_more)) (port, ports.publishers) (port, ports.publishers)
      (expired ∙ ap (λ met. named_before ++ (not_idle (names.subscriber number) service met ++ named_more)) (sym is)) refl
      (nothing_swept ports service port subscriber stands there at_it hears)

  -- those that are met end if they are idle
  pub sweep_stands : (first : List ℕ) → Claim T U names lent held buffer number first
  sweep_stands [] = none_swept
  sweep_stands (key ∷ first) = step key first (sweep_stands first)

-- The domain of a service ends, of which nothing lives, and all other ports of the hub stand.
use Rattle.std.proofs.Common.{◌≡◌, ◌⊎◌, ◌≤◌, ℕ, Bool, true, false, cond, not, ◌||◌, List, [], ◌∷◌, ◌++◌, Option, None, Some, refl, sym, ap}
use Rattle.std.proofs.Common.{subst, ◌∙◌, inl, inr, arith, true≢false}
use Rattle.std.proofs.Math.Logic.{⊎_elim}
use Rattle.std.proofs.lemmas.Bool.{eq-eqb}
use Rattle.std.proofs.lemmas.Bool.Decides.{eqb_tells}
use Rattle.std.specs.BTreeMap.{is_at}
use Rattle.std.specs.List.{list_any}
use Rattle.std.specs.Map.{keys_of}
use Rattle.std.specs.Option.{option_or}
use Rattle.std.specs.Ordering.{nat_cmp}
use Rattle.std.specs.Prelude.{◌==◌, filter, is_some}
use Rattle.iox_command.specs.DomainValues.declared.backpressure.BackpressureDecision.{BackpressureDecision}
use Rattle.iox_command.specs.DomainValues.declared.backpressure.BackpressureInfo.{BackpressureInfo}
use Rattle.iox_command.specs.DomainValues.declared.degradation.DegradationAction.{DegradationAction}
use Rattle.iox_command.specs.DomainValues.declared.degradation.DegradationCause.{DegradationCause}
use Rattle.iox_command.specs.DomainValues.declared.degradation.DegradationInfo.{DegradationInfo}
use Rattle.iox_container.specs.NumberTable.{value_at}
use Rattle.iox_delivery.specs.Holding.{publisher_stands, subscriber_stands, stands_there}
use Rattle.iox_domain.specs.DomainPorts.Publishers.{port_of}
use Rattle.iox_domain.specs.DomainPorts.declared.publisher_port.PublisherPort.{PublisherPort}
use Rattle.iox_domain.specs.DomainPorts.declared.subscriber_port.SubscriberPort.{SubscriberPort}
use Rattle.iox_domain.specs.Handling.{kept_decides, kept_degrades}
use Rattle.iox_domain.specs.Lending.{passes_port}
use Rattle.iox_domain.specs.Subscribers.{subscriber_of}
use Rattle.iox_domain.specs.Tries.{how_often}
use Rattle.iox_domain.specs.declared.domain.Domain.{Domain}
use Rattle.iox_domain.specs.declared.domain_id.DomainId.{DomainId}
use Rattle.iox_domain.specs.declared.ports.service_ports.ServicePorts.{ServicePorts}
use Rattle.iox_domain_machine.specs.Naming.{Naming}
use Rattle.iox_domain_machine.specs.Services.{those_of, ComesOnce, StandInTurn}
use Rattle.iox_domain_machine.specs.Standing.{StandsFor}
use Rattle.iox_domain_machine.proofs.Found.{same_some, never_some, at_head, at_behind}
use Rattle.iox_hub_base.specs.Open.{OpenServices, closed, domain_of, here_if, presence_of}
use Rattle.iox_hub_base.specs.ServicesAsHome.{domain_at, ports_if, publisher_handlers_in, subscriber_handler_in}
use Rattle.iox_hub_base.specs.declared.hub.Hub.{Hub}
use Rattle.iox_hub_base.specs.declared.presence.Presence.{Presence}
use Rattle.iox_hub_base.specs.declared.presence.Presence.TheVariants.{Here}
use Rattle.iox_hub_commands.specs.declared.numbered_hub.NumberedHub.{NumberedHub}
use Rattle.iox_hub_commands.specs.declared.ports.made.MadeLoan.{MadeLoan}
use Rattle.iox_hub_commands.specs.declared.ports.made.MadeSample.{MadeSample}
use Rattle.iox_hub_machine.proofs.Amidst.{is_none}
use Rattle.iox_hub_machine.proofs.Fewer.{gone_itself, gone_others}
use Rattle.iox_hub_machine.proofs.Going.{loan_goes, sample_goes}
use Rattle.iox_hub_machine.proofs.Parting.{found_beside, ports_under}
use Rattle.iox_hub_machine.proofs.Used.{Lives, lent_lives, held_lives, one_if}
use Rattle.iox_hub_machine.specs.Ports.{ports_here, AreHere, among}
use Rattle.iox_hub_machine.specs.Standing.{PortsStandFor, PublisherIsHandled, SubscriberIsHandled, publisher_is_up, subscriber_is_up}
use Rattle.iox_hub_machine.specs.Standing.{lent_in, held_in}
use Rattle.iox_machine.specs.Choices.{Choices}
use Rattle.iox_machine.specs.Service.{Service, Publisher, Subscriber}
use Rattle.iox_machine.specs.State.{State}
use Rattle.iox_machine.specs.Table.{at}

-- ---- lists

none_goes_by : {V : Type 0} (number : ℕ) (table : List (ℕ × V)) → how_often number (keys_of table) ≡ 0 → at number table ≡ None
none_goes_by number [] none = refl
none_goes_by number (entry ∷ table) none = ⊎_elim
    (λ same. absurd (omega (arith, none, ap one_if (eq-eqb number entry.0 (sym same.1)))))
    (λ off. at_behind number entry table off.0 ∙ none_goes_by number table (omega (arith, none))) (eqb_tells entry.0 number)

none_joined : {V : Type 0} (number : ℕ) (before behind : List (ℕ × V)) → at number before ≡ None
    → at number (before ++ behind) ≡ at number behind
none_joined number [] behind none = refl
none_joined number (entry ∷ before) behind none = ⊎_elim
    (λ same. never_some entry.1 (sym none ∙ at_head number entry before same.0))
    (λ off. at_behind number entry (before ++ behind) off.0
    ∙ none_joined number before behind (sym (at_behind number entry before off.0) ∙ none)) (eqb_tells entry.0 number)

fewer_often : {V : Type 0} (which : ℕ) (before behind : List (ℕ × V)) (entry : ℕ × V)
    → how_often which (keys_of (before ++ behind)) ≤ how_often which (keys_of (before ++ entry ∷ behind))
fewer_often which [] behind entry = omega arith
fewer_often which (one ∷ before) behind entry = omega (arith, fewer_often which before behind entry)

pub all_kept : {X : Type 0} (test : X → Bool) (xs : List X) → list_any test xs ≡ false → filter (λ (x : X). not (test x)) xs ≡ xs
all_kept test [] none = refl
all_kept {X} test (x ∷ xs) none = kept_by (test x) refl none (λ later. all_kept test xs later)
  where
    kept_by : (b : Bool) → test x ≡ b → (b || list_any test xs) ≡ false
        → (list_any test xs ≡ false → filter (λ (y : X). not (test y)) xs ≡ xs)
        → cond (not (test x)) (x ∷ filter (λ (y : X). not (test y)) xs) (filter (λ (y : X). not (test y)) xs) ≡ x ∷ xs
    kept_by true is none later = absurd (true≢false none)
    kept_by false is none later =
        ap (λ (c : Bool). cond (not c) (x ∷ filter (λ (y : X). not (test y)) xs) (filter (λ (y : X). not (test y)) xs)) is
        ∙ ap (λ (rest : List X). x ∷ rest) (later none)

-- one of a list doesn't pass, and all others do
pub one_dropped : {X : Type 0} (test : X → Bool) (first : List X) (x : X) (last : List X) → list_any test first ≡ false → test x ≡ true
    → list_any test last ≡ false → filter (λ (y : X). not (test y)) (first ++ x ∷ last) ≡ first ++ last
one_dropped {X} test [] x last before is behind =
    ap (λ (c : Bool). cond (not c) (x ∷ filter (λ (y : X). not (test y)) last) (filter (λ (y : X). not (test y)) last)) is
    ∙ all_kept test last behind
one_dropped {X} test (y ∷ first) x last before is behind =
    kept_by (test y) refl before (λ later. one_dropped test first x last later is behind)
  where
    kept_by : (b : Bool) → test y ≡ b → (b || list_any test first) ≡ false
        → (list_any test first ≡ false → filter (λ (z : X). not (test z)) (first ++ x ∷ last) ≡ first ++ last)
        → cond (not (test y)) (y ∷ filter (λ (z : X). not (test z)) (first ++ x ∷ last))
        (filter (λ (z : X). not (test z)) (first ++ x ∷ last)) ≡ y ∷ (first ++ last)
    kept_by true on none later = absurd (true≢false none)
    kept_by false off none later =
        ap (λ (c : Bool). cond (not c) (y ∷ filter (λ (z : X). not (test z)) (first ++ x ∷ last))
        (filter (λ (z : X). not (test z)) (first ++ x ∷ last))) off
        ∙ ap (λ (rest : List X). y ∷ rest) (later none)

among_without : {T V : Type 0} (table : Service T → List (ℕ × V)) (number : ℕ) (first : List (Service T)) (service : Service T)
    (last : List (Service T)) → at number (table service) ≡ None
    → among table number (first ++ service ∷ last) ≡ among table number (first ++ last)
among_without {T} {V} table number [] service last none = ap (λ (o : Option V). option_or o (among table number last)) none
among_without table number (one ∷ first) service last none =
    ap (option_or (at number (table one))) (among_without table number first service last none)

-- ---- the hub

module _ {T U B D : Type 0} where
  still_here : (number : ℕ) (services : List (ℕ × Presence T U B D)) → AreHere services → AreHere (closed number services)
  still_here number [] here = here
  still_here number (service ∷ services) here =
      here_by (is_at (nat_cmp number) service.0) (still_here number services here.1)
    where
      here_by : (b : Bool) → AreHere (closed number services)
          → AreHere (cond b services (service ∷ closed number services))
      here_by true rest = here.1
      here_by false rest = (here.0, rest)

  module _ (choices : Choices T) (degrades : B → DegradationCause → DegradationInfo → DegradationAction → Type 0)
      (decides : B → BackpressureInfo → BackpressureDecision → Type 0)
      (reader_degrades : D → DegradationCause → DegradationInfo → DegradationAction → Type 0) (naming : ℕ → Naming)
      (order : List (ℕ × ServicePorts T U)) (old : NumberedHub T U B D) (state : State T)
      (stands : PortsStandFor choices degrades decides reader_degrades naming order old state) (number : ℕ) (domain : Domain T U B D)
      (found : presence_of number old.hub.services.domains ≡ Some (Here domain)) (once : ComesOnce old.hub.services.domains)
      (before behind : List (ℕ × ServicePorts T U)) (now : order ≡ before ++ (number, domain.state.ports) ∷ behind)
      (first : List (Service T)) (service : Service T) (last : List (Service T)) (are : state.services ≡ first ++ service ∷ last)
      (stand_before : StandInTurn naming (lent_in old.made) (held_in old.made) old.hub.expired_connection_buffer before first)
      (it : StandsFor (naming number) (those_of number (lent_in old.made)) (those_of number (held_in old.made))
      old.hub.expired_connection_buffer domain.state.ports service)
      (stand_behind : StandInTurn naming (lent_in old.made) (held_in old.made) old.hub.expired_connection_buffer behind last)
      (off_before : how_often number (keys_of before) ≡ 0) (off_behind : how_often number (keys_of behind) ≡ 0)
      (dead : (owner : ℕ) → Lives owner domain.state.ports → ⊥) where
    abbrev services_then : OpenServices T U B D
    services_then = record old.hub.services { domains = closed number old.hub.services.domains }

    abbrev pub ended_hub : Hub T U B D
    ended_hub = record old.hub { services = services_then }

    joined_turn : (domains others : List (ℕ × ServicePorts T U)) (these those : List (Service T))
        → StandInTurn naming (lent_in old.made) (held_in old.made) old.hub.expired_connection_buffer domains these
        → StandInTurn naming (lent_in old.made) (held_in old.made) old.hub.expired_connection_buffer others those
        → StandInTurn naming (lent_in old.made) (held_in old.made) old.hub.expired_connection_buffer (domains ++ others) (these ++ those)
    joined_turn [] others these those turn rest =
        subst (λ (list : List (Service T)). StandInTurn naming (lent_in old.made) (held_in old.made) old.hub.expired_connection_buffer
        others (list ++ those)) (sym turn) rest
    joined_turn (one ∷ domains) others [] those turn rest = absurd turn
    joined_turn (one ∷ domains) others (this ∷ these) those turn rest =
        (turn.0, joined_turn domains others these those turn.1 rest)

    -- domains of others
    same_at : (id : DomainId) → (id.service ≡ number → ⊥) → domain_at id services_then ≡ domain_at id old.hub.services
    same_at id off =
        ap (λ (found : Option (Presence T U B D)). cond (id.hub == old.hub.services.hub) (here_if found) None)
        (gone_others number id.service old.hub.services.domains (λ same. off (sym same)))

    none_at : (id : DomainId) → id.service ≡ number → domain_at id services_then ≡ None
    none_at id same =
        ap (λ (n : ℕ). cond (id.hub == old.hub.services.hub) (domain_of n services_then.domains) None) same
        ∙ ap (λ (found : Option (Presence T U B D)). cond (id.hub == old.hub.services.hub) (here_if found) None)
        (gone_itself number old.hub.services.domains (once number))
        ∙ nothing (id.hub == old.hub.services.hub)
      where
        nothing : (b : Bool) → ◌≡◌ {A = Option (Domain T U B D)} (cond b None None) None
        nothing true = refl
        nothing false = refl

    -- whether a number is the one that ended
    is_it : (other : ℕ) → (other ≡ number) ⊎ (other ≡ number → ⊥)
    is_it other = ⊎_elim (λ same. inl same.1) (λ off. inr off.1) (eqb_tells other number)

    ports_there : (id : DomainId) → id.service ≡ number → (one : Domain T U B D) → domain_at id old.hub.services ≡ Some one → one ≡ domain
    ports_there id same one there = own_by (id.hub == old.hub.services.hub) there
      where
        own_by : (b : Bool) → cond b (domain_of id.service old.hub.services.domains) None ≡ Some one → one ≡ domain
        own_by true is =
            same_some one domain (sym is ∙ ap (λ (n : ℕ). domain_of n old.hub.services.domains) same ∙ ap here_if found)
        own_by false is = never_some one is

    -- no port of the service is up
    down : (id : DomainId) (port : ℕ) → id.service ≡ number → publisher_is_up old.hub id port ≡ true → ⊥
    down id port same up = down_by (domain_at id old.hub.services) refl up
      where
        port_by : (one : Option (PublisherPort T U)) → port_of port domain.state.ports.publishers ≡ one
            → publisher_stands port (Some domain.state.ports) ≡ true → ⊥
        port_by None none stood =
            true≢false (sym stood ∙ ap (λ (o : Option (PublisherPort T U)). passes_port (λ p. p.stands) o) none)
        port_by (Some one) there stood =
            dead one.owner.number (inl (
              port,
              one,
              there,
              omega (arith, ap one_if (sym (ap (λ (o : Option (PublisherPort T U)). passes_port (λ p. p.stands) o) there) ∙ stood)),
              refl,
            ))

        down_by : (one : Option (Domain T U B D)) → domain_at id old.hub.services ≡ one → publisher_stands port (ports_if one) ≡ true → ⊥
        down_by None none stood = true≢false (sym stood)
        down_by (Some one) there stood =
            port_by (port_of port domain.state.ports.publishers) refl
            (sym (ap (λ (d : Domain T U B D). publisher_stands port (Some d.state.ports)) (ports_there id same one there)) ∙ stood)

    reader_down : (id : DomainId) (port : ℕ) → id.service ≡ number → subscriber_is_up old.hub id port ≡ true → ⊥
    reader_down id port same up = down_by (domain_at id old.hub.services) refl up
      where
        port_by : (one : Option SubscriberPort) → subscriber_of port domain.state.ports.subscribers ≡ one
            → subscriber_stands port (Some domain.state.ports) ≡ true → ⊥
        port_by None none stood = true≢false (sym stood ∙ ap stands_there none)
        port_by (Some one) there stood =
            dead one.owner.number (inr (port, one, there, omega (arith, ap one_if (sym (ap stands_there there) ∙ stood)), refl))

        down_by : (one : Option (Domain T U B D)) → domain_at id old.hub.services ≡ one → subscriber_stands port (ports_if one) ≡ true → ⊥
        down_by None none stood = true≢false (sym stood)
        down_by (Some one) there stood =
            port_by (subscriber_of port domain.state.ports.subscribers) refl
            (sym (ap (λ (d : Domain T U B D). subscriber_stands port (Some d.state.ports)) (ports_there id same one there)) ∙ stood)

    up_still : (id : DomainId) (port : ℕ) → (id.service ≡ number → ⊥) → publisher_is_up ended_hub id port ≡ publisher_is_up old.hub id port
    up_still id port off = ap (λ (one : Option (Domain T U B D)). publisher_stands port (ports_if one)) (same_at id off)

    reader_up_still : (id : DomainId) (port : ℕ) → (id.service ≡ number → ⊥)
        → subscriber_is_up ended_hub id port ≡ subscriber_is_up old.hub id port
    reader_up_still id port off = ap (λ (one : Option (Domain T U B D)). subscriber_stands port (ports_if one)) (same_at id off)

    -- who is up then is of another service
    of_other : (id : DomainId) (port : ℕ) → publisher_is_up ended_hub id port ≡ true → id.service ≡ number → ⊥
    of_other id port up same =
        true≢false (sym up ∙ ap (λ (one : Option (Domain T U B D)). publisher_stands port (ports_if one)) (none_at id same))

    reader_of_other : (id : DomainId) (port : ℕ) → subscriber_is_up ended_hub id port ≡ true → id.service ≡ number → ⊥
    reader_of_other id port up same =
        true≢false (sym up ∙ ap (λ (one : Option (Domain T U B D)). subscriber_stands port (ports_if one)) (none_at id same))

    -- no loan is one of the service, nor a sample
    not_lent : (loan : ℕ) (made : MadeLoan) → value_at old.made.loans loan ≡ Some made → made.port.domain.service ≡ number → ⊥
    not_lent loan made there same =
        let goes = loan_goes choices degrades decides reader_degrades naming order old state stands loan made there in
        let (owner, lives) = lent_lives (naming number) (those_of number (lent_in old.made)) (those_of number (held_in old.made))
        old.hub.expired_connection_buffer domain.state.ports service it loan _
        (ap (λ (n : ℕ). at loan (those_of n (lent_in old.made))) (sym same) ∙ goes.mine) in
        dead owner lives

    not_held : (sample : ℕ) (made : MadeSample) → value_at old.made.samples sample ≡ Some made → made.port.domain.service ≡ number → ⊥
    not_held sample made there same =
        let goes = sample_goes choices degrades decides reader_degrades naming order old state stands sample made there in
        let (owner, lives) = held_lives (naming number) (those_of number (lent_in old.made)) (those_of number (held_in old.made))
        old.hub.expired_connection_buffer domain.state.ports service it sample _
        (ap (λ (n : ℕ). at sample (those_of n (held_in old.made))) (sym same) ∙ goes.mine) in
        dead owner lives

    not_there : (one : ℕ) → at one (before ++ behind) ≡ at one (ports_here (closed number old.hub.services.domains))
    not_there one = ⊎_elim
        (λ same. ap (λ (n : ℕ). at n (before ++ behind)) same
        ∙ none_joined number before behind (none_goes_by number before off_before) ∙ none_goes_by number behind off_behind
        ∙ sym (ports_under number (closed number old.hub.services.domains) (still_here number old.hub.services.domains stands.here)
        ∙ ap (λ (found : Option (Presence T U B D)). ports_if (here_if found))
        (gone_itself number old.hub.services.domains (once number)))
        ∙ sym (ap (λ (n : ℕ). at n (ports_here (closed number old.hub.services.domains))) same))
        (λ off. sym (found_beside number one domain.state.ports before behind off) ∙ ap (at one) (sym now) ∙ stands.same one
        ∙ ports_under one old.hub.services.domains stands.here
        ∙ ap (λ (found : Option (Presence T U B D)). ports_if (here_if found))
        (sym (gone_others number one old.hub.services.domains (λ same. off (sym same))))
        ∙ sym (ports_under one (closed number old.hub.services.domains) (still_here number old.hub.services.domains stands.here)))
        (is_it one)

    -- the service has none of the names that ports of others have
    unnamed : (other port : ℕ) → (other ≡ number → ⊥) → at ((naming other).publisher port) service.publishers ≡ None
    unnamed other port off = is_none (at ((naming other).publisher port) service.publishers)
        (λ is. let (mine, named, some) = it.named_publishers.each ((naming other).publisher port) is in
        off (stands.domains.publishers other number port mine some (sym named)))

    reader_unnamed : (other port : ℕ) → (other ≡ number → ⊥) → at ((naming other).subscriber port) service.subscribers ≡ None
    reader_unnamed other port off = is_none (at ((naming other).subscriber port) service.subscribers)
        (λ is. let (mine, named, some) = it.named_subscribers.each ((naming other).subscriber port) is in
        off (stands.domains.subscribers other number port mine some (sym named)))

    abbrev publishers_in : List (Service T) → ℕ → Option (Publisher T)
    publishers_in these number = among (λ (one : Service T). one.publishers) number these

    abbrev subscribers_in : List (Service T) → ℕ → Option Subscriber
    subscribers_in these number = among (λ (one : Service T). one.subscribers) number these

    handled : (id : DomainId) (port : ℕ) (publisher : Publisher T) → publisher_is_up ended_hub id port ≡ true
        → publishers_in (first ++ last) ((naming id.service).publisher port) ≡ Some publisher
        → PublisherIsHandled choices degrades decides ended_hub id port ((naming id.service).publisher port) publisher
    handled id port publisher up there =
        let off = of_other id port up in
        let was = stands.publishers_handled id port publisher (sym (up_still id port off) ∙ up)
        (ap (λ (these : List (Service T)). publishers_in these ((naming id.service).publisher port)) are
        ∙ among_without (λ (one : Service T). one.publishers) ((naming id.service).publisher port) first service last
        (unnamed id.service port off) ∙ there) in record {
          full = λ info decision retries may told. was.full info decision retries
              (subst (λ (kept : Option B). kept_decides decides kept info decision) (ap (publisher_handlers_in port) (same_at id off)) may)
              told;
          failed = λ info action may. was.failed info action
              (subst (λ (kept : Option B). kept_degrades degrades kept info action) (ap (publisher_handlers_in port) (same_at id off)) may);
        }

    reader_handled : (id : DomainId) (port : ℕ) (subscriber : Subscriber) → subscriber_is_up ended_hub id port ≡ true
        → subscribers_in (first ++ last) ((naming id.service).subscriber port) ≡ Some subscriber
        → SubscriberIsHandled choices reader_degrades ended_hub id port ((naming id.service).subscriber port) subscriber
    reader_handled id port subscriber up there =
        let off = reader_of_other id port up in
        let was = stands.subscribers_handled id port subscriber (sym (reader_up_still id port off) ∙ up)
        (ap (λ (these : List (Service T)). subscribers_in these ((naming id.service).subscriber port)) are
        ∙ among_without (λ (one : Service T). one.subscribers) ((naming id.service).subscriber port) first service last
        (reader_unnamed id.service port off) ∙ there) in
        (λ info action may. was info action
        (subst (λ (kept : Option D). kept_degrades reader_degrades kept info action) (ap (subscriber_handler_in port) (same_at id off))
        may))

    -- all other ports stand
    pub others_stay : PortsStandFor choices degrades decides reader_degrades naming (before ++ behind) (record old { hub = ended_hub })
        (record state { services = first ++ last })
    others_stay = record {
      here = still_here number old.hub.services.domains stands.here;
      same = not_there;
      domains = record {
        each = joined_turn before behind first last stand_before stand_behind;
        once = λ which. omega (
          arith,
          fewer_often which before behind (number, domain.state.ports),
          subst (λ (list : List (ℕ × ServicePorts T U)). how_often which (keys_of list) ≤ 1) now (stands.domains.once which),
        );
        loans = stands.domains.loans;
        samples = stands.domains.samples;
        publishers = stands.domains.publishers;
        subscribers = stands.domains.subscribers;
      };
      numbers = stands.numbers;
      named = stands.named;
      loans = λ loan made there.
          ap is_some (same_at made.port.domain (not_lent loan made there)) ∙ stands.loans loan made there;
      samples = λ sample made there. (
        ap is_some (same_at made.port.domain (not_held sample made there)) ∙ (stands.samples sample made there).0,
        (stands.samples sample made there).1,
      );
      publishers = record {
        known = λ name port there.
            let was = stands.publishers.known name port there in
            (was.0, up_still port.domain port.number (λ same. down port.domain port.number same was.1) ∙ was.1);
        each = λ id port up. stands.publishers.each id port (sym (up_still id port (of_other id port up)) ∙ up);
      };
      subscribers = record {
        known = λ name port there.
            let was = stands.subscribers.known name port there in
            (was.0, reader_up_still port.domain port.number (λ same. reader_down port.domain port.number same was.1) ∙ was.1);
        each = λ id port up. stands.subscribers.each id port (sym (reader_up_still id port (reader_of_other id port up)) ∙ up);
      };
      slices = stands.slices;
      publishers_handled = handled;
      subscribers_handled = reader_handled;
    }

-- A hub that has one factory less stands for the machine that has.
use Rattle.std.proofs.Common.{◌≡◌, ◌≤◌, ◌<◌, ◌+◌, ◌-◌, ℕ, Bool, true, false, List, [], ◌∷◌, ◌++◌, Option, None, Some, refl, sym, ap}
use Rattle.std.proofs.Common.{subst, ◌∙◌, arith, true≢false}
use Rattle.std.proofs.Math.Logic.{⊎_elim}
use Rattle.std.proofs.lemmas.Bool.{eq-eqb, leb-true, leb-false, lt-ltb}
use Rattle.std.proofs.lemmas.Bool.Decides.{eqb_tells}
use Rattle.std.specs.Map.{keys_of}
use Rattle.std.specs.Option.{unwrap_or}
use Rattle.std.specs.Prelude.{◌==◌, is_some}
use Rattle.iox_command.specs.DomainValues.declared.backpressure.BackpressureDecision.{BackpressureDecision}
use Rattle.iox_command.specs.DomainValues.declared.backpressure.BackpressureInfo.{BackpressureInfo}
use Rattle.iox_command.specs.DomainValues.declared.degradation.DegradationAction.{DegradationAction}
use Rattle.iox_command.specs.DomainValues.declared.degradation.DegradationCause.{DegradationCause}
use Rattle.iox_command.specs.DomainValues.declared.degradation.DegradationInfo.{DegradationInfo}
use Rattle.iox_command.specs.NegotiateBase.DescribeBase.declared.pattern.MessagingPattern.{MessagingPattern}
use Rattle.iox_command.specs.NegotiateBase.DescribeBase.declared.pattern.MessagingPattern.TheVariants as pattern
use Rattle.iox_container.specs.NumberTable.{value_at}
use Rattle.iox_domain.specs.Kept.{forgotten, kept}
use Rattle.iox_domain.proofs.Counting.{owner_within}
use Rattle.iox_domain.specs.Living.{living}
use Rattle.iox_domain.specs.Tries.{how_often}
use Rattle.iox_domain.specs.declared.domain.Domain.{Domain}
use Rattle.iox_domain.specs.declared.ports.service_ports.ServicePorts.{ServicePorts}
use Rattle.iox_domain_machine.specs.Naming.{Naming}
use Rattle.iox_domain_machine.specs.Services.{ComesOnce}
use Rattle.iox_domain_machine.proofs.Found.{never_some, at_head, at_behind}
use Rattle.iox_hub_base.specs.Closing.{in_use, is_last, lives_in, who_counts}
use Rattle.iox_hub_base.specs.Hubs.{factories_of}
use Rattle.iox_hub_base.specs.Numbered.{others_beside}
use Rattle.iox_hub_base.specs.Open.{OpenServices, here_if, presence_of}
use Rattle.iox_hub_base.specs.ServicesAsHome.{ports_if}
use Rattle.iox_hub_base.specs.ServicesOpening.{is_open, without_service}
use Rattle.iox_hub_base.specs.declared.presence.Presence.{Presence}
use Rattle.iox_hub_base.specs.declared.presence.Presence.TheVariants.{Here}
use Rattle.iox_hub_commands.specs.AgreementLaws.{service_of, carried_by, FactoriesAgree}
use Rattle.iox_hub_commands.specs.ServicesTables.{parts_of, pattern_in}
use Rattle.iox_hub_commands.specs.declared.numbered_hub.NumberedHub.{NumberedHub}
use Rattle.iox_hub_commands.specs.declared.room.Pledged.{Pledged}
use Rattle.iox_hub_commands.specs.declared.services.made.MadeFactory.{MadeFactory}
use Rattle.iox_hub_machine.proofs.Closed.{left_made, left_factories, none_out, opened_without, ports_still, same_left, seats_then}
use Rattle.iox_hub_machine.proofs.Closed.{served_joined, served_still, served_without, serves_then, was_there}
use Rattle.iox_hub_machine.proofs.ComesServed.{here_found}
use Rattle.iox_hub_machine.proofs.Ended.{others_stay}
use Rattle.iox_hub_machine.proofs.Fewer.{gone_itself, gone_others, often_less, put_there}
use Rattle.iox_hub_machine.proofs.InUse.{HasService, has_service, same_kind}
use Rattle.iox_hub_machine.proofs.Parting.{ports_under}
use Rattle.iox_hub_machine.proofs.Used.{Lives, lives_counts, one_if}
use Rattle.iox_hub_machine.specs.Services.{FactoriesStandFor, HubStandsFor, services_in}
use Rattle.iox_hub_machine.specs.Standing.{PortsStandFor}
use Rattle.iox_machine.specs.Choices.{Choices}
use Rattle.iox_machine.specs.Agreement.{Agreement}
use Rattle.iox_machine.specs.Phase.{Node, Own, Published, is_in}
use Rattle.iox_machine.proofs.Shorthands.{closed_by}
use Rattle.iox_machine.specs.Service.{Service}
use Rattle.iox_machine.specs.State.{State, with_phase}
use Rattle.iox_machine.specs.Table.{at}
use Rattle.iox_negotiate_machine.specs.Standing.{TableStands}
use Rattle.iox_negotiate_table.specs.Contents.{Contents}

comes_never : {V : Type 0} (number : ℕ) (table : List (ℕ × V)) → at number table ≡ None → how_often number (keys_of table) ≡ 0
comes_never number [] none = refl
comes_never number (entry ∷ table) none = ⊎_elim
    (λ same. never_some entry.1
    (sym none ∙ at_head number entry table (ap (λ (n : ℕ). n == number) (sym same.1) ∙ eq-eqb number number refl)))
    (λ off. omega (arith, ap one_if off.0, comes_never number table (sym (at_behind number entry table (apart off.1)) ∙ none)))
    (eqb_tells number entry.0)
  where
    apart : (number ≡ entry.0 → ⊥) → (entry.0 == number) ≡ false
    apart off = ⊎_elim (λ same. absurd (off (sym same.1))) (λ other. other.0) (eqb_tells entry.0 number)

module _ {T U B D : Type 0} (choices : Choices T) (degrades : B → DegradationCause → DegradationInfo → DegradationAction → Type 0)
    (decides : B → BackpressureInfo → BackpressureDecision → Type 0)
    (reader_degrades : D → DegradationCause → DegradationInfo → DegradationAction → Type 0)
    (names : List (List ℕ)) (taken : MessagingPattern → List ℕ → List ℕ) (naming : ℕ → Naming) (order : List (ℕ × ServicePorts T U))
    (old : NumberedHub T U B D) (state : State T)
    (stands : HubStandsFor choices degrades decides reader_degrades names taken naming order old state)
    (agree : FactoriesAgree old.factories.made) (number : ℕ) (made : MadeFactory)
    (there : value_at old.factories.made number ≡ Some made) (once : ComesOnce state.factories) (life : ℕ) (agreed : Agreement)
    (nodes : List (Node × ℕ)) (phase_is : state.phases (pattern_in made) (carried_by made).name ≡ Published life agreed nodes)
    (seated : is_in (Own (parts_of made).0.node) nodes ≡ true) (table : Contents) (id : table.id ≡ old.hub.table.id)
    (table_then : TableStands names taken table (with_phase (pattern_in made) (carried_by made).name
    (closed_by (parts_of made).0.node (state.phases (pattern_in made) (carried_by made).name)) state)) (pledged : Pledged) where
  abbrev service : ℕ
  service = service_of made

  abbrev counts : List (ℕ × ℕ)
  counts = old.hub.factory_counts

  -- the machine without the factory, with these services
  abbrev pub after : List (Service T) → State T
  after services = record (with_phase (pattern_in made) (carried_by made).name
      (closed_by (parts_of made).0.node (state.phases (pattern_in made) (carried_by made).name)) state) {
        factories = left_factories choices degrades decides reader_degrades names taken naming order old state stands agree number made
            there once;
        services = services;
      }

  -- the hub without it, with these counts and these services
  abbrev pub less_hub : List (ℕ × ℕ) → OpenServices T U B D → NumberedHub T U B D
  less_hub counts_then services = record {
    hub = record old.hub { table = table; factory_counts = counts_then; services = services };
    factories = record {
      made = left_made choices degrades decides reader_degrades names taken naming order old state stands agree number made there once;
    };
    made = old.made;
    pledged = pledged;
  }

  abbrev pub fewer : List (ℕ × ℕ)
  fewer = kept service (factories_of service counts - 1) counts

  abbrev pub without : OpenServices T U B D
  without = without_service service old.hub.services

  less : (one : ℕ) → how_often one (services_in
      (left_made choices degrades decides reader_degrades names taken naming order old state stands agree number made there once))
      + one_if (one == service) ≡ how_often one (services_in old.factories.made)
  less one = often_less one number made old.factories.made.entries there

  factories_stand : (counts_then : List (ℕ × ℕ)) (open_then : OpenServices T U B D) (services : List (Service T))
      → ((one : ℕ) → factories_of one counts_then ≡ how_often one (services_in
      (left_made choices degrades decides reader_degrades names taken naming order old state stands agree number made there once)))
      → ((other : ℕ) (which : MadeFactory) → value_at
      (left_made choices degrades decides reader_degrades names taken naming order old state stands agree number made there once) other
      ≡ Some which
      → pattern_in which ≡ pattern.PublishSubscribe → is_open (service_of which) open_then ≡ true)
      → FactoriesStandFor names taken (less_hub counts_then open_then) (after services)
  factories_stand counts_then open_then services counted opened = record {
    numbers = stands.factories.numbers;
    owners = stands.factories.owners;
    same = same_left choices degrades decides reader_degrades names taken naming order old state stands agree number made there once;
    each = λ other which found.
        let was = stands.factories.each other which
        (was_there choices degrades decides reader_degrades names taken naming order old state stands agree number made there once other
        which
        found).0 in record {
          asked = was.asked;
          owner = was.owner;
          storage = was.storage ∙ sym id;
          serves = serves_then choices degrades decides reader_degrades names taken naming order old state stands agree number made there
              once life
              agreed nodes phase_is seated other which found;
        };
    seats = seats_then choices degrades decides reader_degrades names taken naming order old state stands agree number made there once
        life agreed
        nodes phase_is seated;
    counts = counted;
    opened = opened;
  }

  -- ---- another factory of the service is left

  module _ (more : is_last service counts ≡ false) where
    pub some : 0 < how_often service (services_in
        (left_made choices degrades decides reader_degrades names taken naming order old state stands agree number made there once))
    some =
        let many : 1 < factories_of service counts = leb-false (factories_of service counts) 1 more in
        let one = less service in
        let it = ap one_if (eq-eqb service service refl) in
        let all = stands.factories.counts service in
        omega (arith, many, one, it, all)

    counted : (one : ℕ) → factories_of one fewer ≡ how_often one (services_in
        (left_made choices degrades decides reader_degrades names taken naming order old state stands agree number made there once))
    counted one = ⊎_elim
        (λ same. ap (λ (n : ℕ). factories_of n fewer) same.1
        ∙ ap (λ (found : Option ℕ). unwrap_or found 0) (put_there service counts (factories_of service counts - 1))
        ∙ left_so
        ∙ sym (ap (λ (n : ℕ). how_often n (services_in
        (left_made choices degrades decides reader_degrades names taken naming order old state stands agree number made there once)))
        same.1))
        (λ off. ap (λ (found : Option ℕ). unwrap_or found 0)
        (others_beside service one counts (factories_of service counts - 1) (λ same. off.1 (sym same)))
        ∙ stands.factories.counts one ∙ same_so (less one) off.0) (eqb_tells one service)
      where
        left_so : factories_of service counts - 1 ≡ how_often service (services_in
            (left_made choices degrades decides reader_degrades names taken naming order old state stands agree number made there once))
        left_so =
            let one = less service in
            let it = ap one_if (eq-eqb service service refl) in
            let all = stands.factories.counts service in
            omega (arith, one, it, all)

        same_so : {b : Bool} {one all : ℕ} → one + one_if b ≡ all → b ≡ false → all ≡ one
        same_so {b} {one} {all} is none = omega (arith, is, ap one_if none)

    pub goes_on : HubStandsFor choices degrades decides reader_degrades names taken naming order (less_hub fewer old.hub.services)
        (after state.services)
    goes_on = record {
      nodes = stands.nodes;
      table = record { reached = table_then.reached; phases = table_then.phases };
      id = stands.id ∙ sym id;
      factories = factories_stand fewer old.hub.services state.services counted
          (λ other which found is. stands.factories.opened other which
          (was_there choices degrades decides reader_degrades names taken naming order old state stands agree number made there once other
          which
          found).0 is);
      served = served_still choices degrades decides reader_degrades names taken naming order old state stands agree number made there
          once some
          order state.services stands.served;
      ports = ports_still choices degrades decides reader_degrades naming order old state table fewer
          (less_hub fewer old.hub.services).factories
          pledged (after state.services).phases (after state.services).factories stands.ports;
    }

  -- ---- it was the last

  module _ (last : is_last service counts ≡ true) (once_domains : ComesOnce old.hub.services.domains) (once_counts : ComesOnce counts)
      (alone : (other : ℕ) (which : MadeFactory) → value_at old.factories.made other ≡ Some which → service_of which ≡ service
      → other ≡ number) where
    counted_out : (one : ℕ) → factories_of one (forgotten service counts) ≡ how_often one (services_in
        (left_made choices degrades decides reader_degrades names taken naming order old state stands agree number made there once))
    counted_out one = ⊎_elim
        (λ same. ap (λ (n : ℕ). factories_of n (forgotten service counts)) same.1
        ∙ ap (λ (found : Option ℕ). unwrap_or found 0) (gone_itself service counts (once_counts service))
        ∙ none_so
        ∙ sym (ap (λ (n : ℕ). how_often n (services_in
        (left_made choices degrades decides reader_degrades names taken naming order old state stands agree number made there once)))
        same.1))
        (λ off. ap (λ (found : Option ℕ). unwrap_or found 0) (gone_others service one counts (λ same. off.1 (sym same)))
        ∙ stands.factories.counts one ∙ same_so (less one) off.0) (eqb_tells one service)
      where
        none_so : 0 ≡ how_often service (services_in
            (left_made choices degrades decides reader_degrades names taken naming order old state stands agree number made there once))
        none_so =
            let few : factories_of service counts ≤ 1 = leb-true (factories_of service counts) 1 last in
            let one = less service in
            let it = ap one_if (eq-eqb service service refl) in
            let all = stands.factories.counts service in
            omega (arith, few, one, it, all)

        same_so : {b : Bool} {one all : ℕ} → one + one_if b ≡ all → b ≡ false → all ≡ one
        same_so {b} {one} {all} is none = omega (arith, is, ap one_if none)

    factories_end : (services : List (Service T))
        → FactoriesStandFor names taken (less_hub (forgotten service counts) without) (after services)
    factories_end services =
        factories_stand (forgotten service counts) without services counted_out
        (opened_without choices degrades decides reader_degrades names taken naming order old state stands agree number made there once
        alone)

    -- with the last factory of a publish-subscribe service its domain ends
    module _ (domain : Domain T U B D) (found : presence_of service old.hub.services.domains ≡ Some (Here domain))
        (spare : in_use service (parts_of made).1 old.hub ≡ false) where
      abbrev pub its_own : HasService choices degrades decides reader_degrades names taken naming order old state stands agree service
          domain.state.ports
      its_own = has_service choices degrades decides reader_degrades names taken naming order old state stands agree service domain found

      dead : (owner : ℕ) → Lives owner domain.state.ports → ⊥
      dead owner lives = true≢false
          (sym (lt-ltb 0 (living None domain.state.ports)
          (omega (arith, lives_counts owner domain.state.ports lives, owner_within owner domain.state.ports)))
          ∙ sym (ap (λ (b : Bool). lives_in (who_counts b (parts_of made).1) (presence_of service old.hub.services.domains)) last
          ∙ ap (lives_in None) found)
          ∙ spare)

      pub ends : HubStandsFor choices degrades decides reader_degrades names taken naming (its_own.before ++ its_own.behind)
          (less_hub (forgotten service counts) without) (after (its_own.first ++ its_own.last))
      ends = record {
        nodes = stands.nodes;
        table = record { reached = table_then.reached; phases = table_then.phases };
        id = stands.id ∙ sym id;
        factories = factories_end (its_own.first ++ its_own.last);
        served = served_joined choices degrades decides reader_degrades names taken naming order old state stands agree number made there
            once alone
            its_own.before its_own.behind its_own.first its_own.last
            (served_without choices degrades decides reader_degrades names taken naming order old state stands agree number made there
            once alone
            its_own.before its_own.first its_own.off_before its_own.served_before)
            (served_without choices degrades decides reader_degrades names taken naming order old state stands agree number made there
            once alone
            its_own.behind its_own.last its_own.off_behind its_own.served_behind);
        ports = ports_still choices degrades decides reader_degrades naming (its_own.before ++ its_own.behind)
            (record old { hub = record old.hub { services = without } }) (record state { services = its_own.first ++ its_own.last }) table
            (forgotten service counts) (less_hub (forgotten service counts) without).factories pledged (after state.services).phases
            (after state.services).factories
            (others_stay choices degrades decides reader_degrades naming order old state stands.ports service domain found once_domains
            its_own.before its_own.behind its_own.now its_own.first its_own.service its_own.last its_own.are its_own.stand_before its_own.it
            its_own.stand_behind its_own.off_before its_own.off_behind dead);
      }

    -- with that of any other service no domain does
    module _ (off : pattern_in made ≡ pattern.PublishSubscribe → ⊥) where
      nothing_open : presence_of service old.hub.services.domains ≡ None
      nothing_open = open_by (presence_of service old.hub.services.domains) refl
        where
          open_by : (one : Option (Presence T U B D)) → presence_of service old.hub.services.domains ≡ one → one ≡ None
          open_by None none = refl
          open_by (Some presence) is =
              let (domain, found) = here_found service old.hub.services.domains stands.ports.here (ap is_some is) in
              let mine = has_service choices degrades decides reader_degrades names taken naming order old state stands agree service
              domain found
              in
              absurd (off (sym (same_kind choices degrades decides reader_degrades names taken naming order old state stands agree
              mine.served.factory number mine.served.made made mine.served.found there mine.served.number_is) ∙ mine.served.pattern))

      same_open : without ≡ old.hub.services
      same_open = ap (λ (domains : List (ℕ × Presence T U B D)). record old.hub.services { domains = domains })
          (none_out service old.hub.services.domains nothing_open)

      never : how_often service (keys_of order) ≡ 0
      never =
          comes_never service order (stands.ports.same service ∙ ports_under service old.hub.services.domains stands.ports.here
          ∙ ap (λ (one : Option (Presence T U B D)). ports_if (here_if one)) nothing_open)

      pub ends_elsewhere : HubStandsFor choices degrades decides reader_degrades names taken naming order
          (less_hub (forgotten service counts) without) (after state.services)
      ends_elsewhere = record {
        nodes = stands.nodes;
        table = record { reached = table_then.reached; phases = table_then.phases };
        id = stands.id ∙ sym id;
        factories = factories_end state.services;
        served = served_without choices degrades decides reader_degrades names taken naming order old state stands agree number made there
            once
            alone order state.services never stands.served;
        ports = ports_still choices degrades decides reader_degrades naming order
            (record old { hub = record old.hub { services = without } }) state
            table (forgotten service counts) (less_hub (forgotten service counts) without).factories pledged (after state.services).phases
            (after state.services).factories
            (subst (λ (these : OpenServices T U B D). PortsStandFor choices degrades decides reader_degrades naming order
            (record old { hub = record old.hub { services = these } }) state) (sym same_open) stands.ports);
      }

-- A factory is closed: what the hub and the machine have then.
use Rattle.std.proofs.Common.{◌≡◌, ◌≢◌, ◌≤◌, ◌<◌, ◌+◌, ◌-◌, ℕ, zero, suc, Bool, true, false, cond, ◌&&◌, List, [], ◌∷◌, ◌++◌, map}
use Rattle.std.proofs.Common.{None, Some, refl, sym, ap, subst, ◌∙◌, arith, true≢false}
use Rattle.std.proofs.Math.Logic.{⊎_elim}
use Rattle.std.proofs.lemmas.Bool.{and_from, and_right, eq-eqb, false_from_ne_true}
use Rattle.std.proofs.lemmas.Bool.Decides.{eqb_tells}
use Rattle.std.specs.BTreeMap.{is_at}
use Rattle.std.specs.List.{IsAmong, list_any}
use Rattle.std.specs.Map.{keys_of, lookup, remove_entry}
use Rattle.std.specs.Option.{option_map}
use Rattle.std.specs.Ordering.{nat_cmp}
use Rattle.std.specs.Prelude.{◌==◌, is_some, bytes_eq}
use Rattle.iox_command.specs.DomainValues.declared.backpressure.BackpressureDecision.{BackpressureDecision}
use Rattle.iox_command.specs.DomainValues.declared.backpressure.BackpressureInfo.{BackpressureInfo}
use Rattle.iox_command.specs.DomainValues.declared.degradation.DegradationAction.{DegradationAction}
use Rattle.iox_command.specs.DomainValues.declared.degradation.DegradationCause.{DegradationCause}
use Rattle.iox_command.specs.DomainValues.declared.degradation.DegradationInfo.{DegradationInfo}
use Rattle.iox_command.specs.NegotiateBase.DescribeBase.declared.pattern.MessagingPattern.{MessagingPattern}
use Rattle.iox_command.specs.NegotiateBase.DescribeBase.declared.pattern.MessagingPattern.TheVariants as pattern
use Rattle.iox_command.specs.NegotiateBase.DescribeSettings.Agreement.{Agreement as Description}
use Rattle.iox_command.specs.NegotiateBase.declared.request.Opened.{Opened}
use Rattle.iox_container.proofs.Telling.{lookup-removed_other}
use Rattle.iox_container.specs.NumberTable as numbers
use Rattle.iox_container.specs.NumberTable.{value_at}
use Rattle.iox_domain.specs.Tries.{how_often}
use Rattle.iox_domain.specs.declared.ports.service_ports.ServicePorts.{ServicePorts}
use Rattle.iox_domain_machine.specs.Naming.{Naming}
use Rattle.iox_domain_machine.specs.Services.{ComesOnce}
use Rattle.iox_domain_machine.proofs.Found.{same_some, never_some}
use Rattle.iox_domain_machine.proofs.Removing.{often_removed}
use Rattle.iox_hub_base.specs.Open.{closed, here_if}
use Rattle.iox_hub_base.specs.ServicesOpening.{is_open}
use Rattle.iox_hub_commands.specs.AgreementLaws.{service_of, carried_by, FactoriesAgree}
use Rattle.iox_hub_commands.specs.ServicesTables.{FactoryTable, parts_of, pattern_in}
use Rattle.iox_hub_commands.specs.declared.numbered_hub.NumberedHub.{NumberedHub}
use Rattle.iox_hub_commands.specs.declared.room.Pledged.{Pledged}
use Rattle.iox_hub_commands.specs.declared.services.factories.Factories.{Factories}
use Rattle.iox_hub_commands.specs.declared.services.made.MadeFactory.{MadeFactory}
use Rattle.iox_hub_machine.proofs.Fewer.{gone_others, some_of, one_fewer, one_passing, left_itself, left_others, closed_seats}
use Rattle.iox_hub_machine.proofs.Fewer.{closed_serves}
use Rattle.iox_hub_machine.proofs.InUse.{same_kind, same_number}
use Rattle.iox_hub_machine.proofs.Lessened.{none_goes, one_removed, went_so}
use Rattle.iox_hub_machine.proofs.Moving.{mapped_some}
use Rattle.iox_hub_machine.proofs.Numbered.{found_so, goes_so}
use Rattle.iox_hub_machine.proofs.Used.{all_go, both_pass, one_passes, some_passes, one_if}
use Rattle.iox_hub_machine.specs.Seats.{seats_in, seats_for, factories_of_node, is_factory_of_node}
use Rattle.iox_hub_machine.specs.Services.{AreServedInTurn, FactoryStands, HubStandsFor, IsServedBy, factories_as, factory_as, services_in}
use Rattle.iox_hub_machine.specs.Standing.{PortsStandFor}
use Rattle.iox_machine.specs.Choices.{Choices}
use Rattle.iox_machine.proofs.Names.{name-is, name-itself, pattern-is, pattern-itself}
use Rattle.iox_machine.specs.Agreement.{Agreement}
use Rattle.iox_machine.specs.Phase.{Node, Own, Phase, Published, is_in, left, same_pattern}
use Rattle.iox_machine.proofs.Shorthands.{closed_by}
use Rattle.iox_machine.specs.Service.{Service}
use Rattle.iox_machine.specs.State.{State, Factory, with_phase}
use Rattle.iox_machine.specs.Table.{at, removed}
use Rattle.iox_negotiate_machine.specs.CallLaws.{IsServiceIn}
use Rattle.iox_negotiate_machine.specs.Standing.{counts_of}
use Rattle.iox_negotiate_table.specs.Contents.{Contents}

seats_some : (count : ℕ) → 0 < count → seats_for count ≡ count ∷ []
seats_some zero some = absurd (omega (arith, some))
seats_some (suc count) some = refl

no_seats : (count : ℕ) → 0 < count → seats_for count ≡ [] → ⊥
no_seats zero some is = omega (arith, some)
no_seats (suc count) some is = cc

own_number : (one other : ℕ) → Own one ≡ Own other → one ≡ other
own_number one other same = ap number_of same
  where
    number_of : Node → ℕ
    number_of (Own number) = number
    number_of other = 0

keys_so : {V W : Type 0} (f : V → W) (entries : List (ℕ × V)) → keys_of (map (λ (entry : ℕ × V). (entry.0, f entry.1)) entries)
    ≡ keys_of entries
keys_so f [] = refl
keys_so f (entry ∷ entries) = ap (λ (keys : List ℕ). entry.0 ∷ keys) (keys_so f entries)

pub none_out : {V : Type 0} (number : ℕ) (entries : List (ℕ × V)) → lookup (is_at (nat_cmp number)) entries ≡ None
    → remove_entry (is_at (nat_cmp number)) entries ≡ entries
none_out number [] none = refl
none_out {V} number (entry ∷ entries) none = out_by (is_at (nat_cmp number) entry.0) none (λ later. none_out number entries later)
  where
    out_by : (b : Bool) → cond b (Some entry.1) (lookup (is_at (nat_cmp number)) entries) ≡ None
        → (lookup (is_at (nat_cmp number)) entries ≡ None → remove_entry (is_at (nat_cmp number)) entries ≡ entries)
        → cond b entries (entry ∷ remove_entry (is_at (nat_cmp number)) entries) ≡ entry ∷ entries
    out_by true none rest = never_some entry.1 (sym none)
    out_by false none rest = ap (λ (more : List (ℕ × V)). entry ∷ more) (rest none)

-- the ports of a hub stand where its table, its counts and its factories, or the phases and factories of the machine are others
pub ports_still : {T U B D : Type 0} (choices : Choices T) (degrades : B → DegradationCause → DegradationInfo → DegradationAction → Type 0)
    (decides : B → BackpressureInfo → BackpressureDecision → Type 0)
    (reader_degrades : D → DegradationCause → DegradationInfo → DegradationAction → Type 0) (naming : ℕ → Naming)
    (order : List (ℕ × ServicePorts T U)) (hub : NumberedHub T U B D) (state : State T) (table : Contents) (counts : List (ℕ × ℕ))
    (factories : Factories) (pledged : Pledged) (phases : MessagingPattern → List ℕ → Phase) (those : List (ℕ × Factory))
    → PortsStandFor choices degrades decides reader_degrades naming order hub state
    → PortsStandFor choices degrades decides reader_degrades naming order
    (record hub { hub = record hub.hub { table = table; factory_counts = counts }; factories = factories; pledged = pledged })
    (record state { phases = phases; factories = those })
ports_still choices degrades decides reader_degrades naming order hub state table counts factories pledged phases those stands = record {
  here = stands.here;
  same = stands.same;
  domains = stands.domains;
  numbers = stands.numbers;
  named = stands.named;
  loans = stands.loans;
  samples = stands.samples;
  publishers = record { known = stands.publishers.known; each = stands.publishers.each };
  subscribers = record { known = stands.subscribers.known; each = stands.subscribers.each };
  slices = stands.slices;
  publishers_handled = λ domain number publisher up found.
      let handled = stands.publishers_handled domain number publisher up found in record { full = handled.full; failed = handled.failed };
  subscribers_handled = stands.subscribers_handled;
}

module _ {T U B D : Type 0} (choices : Choices T) (degrades : B → DegradationCause → DegradationInfo → DegradationAction → Type 0)
    (decides : B → BackpressureInfo → BackpressureDecision → Type 0)
    (reader_degrades : D → DegradationCause → DegradationInfo → DegradationAction → Type 0)
    (names : List (List ℕ)) (taken : MessagingPattern → List ℕ → List ℕ) (naming : ℕ → Naming) (order : List (ℕ × ServicePorts T U))
    (old : NumberedHub T U B D) (state : State T)
    (stands : HubStandsFor choices degrades decides reader_degrades names taken naming order old state)
    (agree : FactoriesAgree old.factories.made) (number : ℕ) (made : MadeFactory)
    (there : value_at old.factories.made number ≡ Some made) (once : ComesOnce state.factories) where
  abbrev kind : MessagingPattern
  kind = pattern_in made

  abbrev name : List ℕ
  name = (carried_by made).name

  abbrev node : ℕ
  node = (parts_of made).0.node

  abbrev service : ℕ
  service = service_of made

  -- the factories that are left, of the hub and of the machine
  abbrev pub left_made : FactoryTable
  left_made = numbers.removed old.factories.made number

  abbrev pub left_factories : List (ℕ × Factory)
  left_factories = removed number state.factories

  its : FactoryStands names taken old.hub.table state number made
  its = stands.factories.each number made there

  once_as : ComesOnce (factories_as old.factories.made)
  once_as which = subst (λ (table : List (ℕ × Factory)). how_often which (keys_of table) ≤ 1) stands.factories.same (once which)

  pub same_left : left_factories ≡ factories_as left_made
  same_left =
      ap (removed number) stands.factories.same ∙ sym (one_removed number factory_as old.factories.made.entries (once_as number))

  once_left : ComesOnce left_made.entries
  once_left which =
      let fewer = often_removed number which state.factories in
      let few = once which in
      let keys = sym (keys_so factory_as left_made.entries) ∙ ap keys_of (sym same_left) in
      subst (λ (list : List ℕ). how_often which list ≤ 1) (sym keys) (omega (arith, fewer, few))

  at_left : (other : ℕ) (which : MadeFactory) → value_at left_made other ≡ Some which → at other left_factories ≡ Some (factory_as which)
  at_left other which found = ap (at other) same_left ∙ goes_so other factory_as left_made ∙ ap (option_map factory_as) found

  -- what is left was there, by another number
  pub was_there : (other : ℕ) (which : MadeFactory) → value_at left_made other ≡ Some which
      → (value_at old.factories.made other ≡ Some which) × (other ≢ number)
  was_there other which found = (
    went_so factory_as number other which old.factories.made (once_as number) found,
    λ same. never_some (factory_as which)
        (sym (ap (λ (n : ℕ). at n left_factories) same ∙ none_goes number state.factories) ∙ at_left other which found),
  )

  machine_has : at number state.factories ≡ Some (factory_as made)
  machine_has = ap (at number) stands.factories.same ∙ goes_so number factory_as old.factories.made ∙ ap (option_map factory_as) there

  -- ---- seats

  module _ (life : ℕ) (agreed : Agreement) (nodes : List (Node × ℕ)) (phase_is : state.phases kind name ≡ Published life agreed nodes)
      (seated : is_in (Own node) nodes ≡ true) where
    abbrev pub phases_then : MessagingPattern → List ℕ → Phase
    phases_then = (with_phase kind name (closed_by node (state.phases kind name)) state).phases

    fewer_of : (which : MessagingPattern) (called : List ℕ) (other : ℕ)
        → factories_of_node which called other left_factories + one_if (is_factory_of_node which called other (factory_as made))
        ≡ factories_of_node which called other state.factories
    fewer_of which called other =
        one_fewer (is_factory_of_node which called other) number (factory_as made) state.factories (once number) machine_has

    seats_were : (other : ℕ) → counts_of (Own other) nodes ≡ seats_for (factories_of_node kind name other state.factories)
    seats_were other = sym (ap (seats_in other) phase_is) ∙ stands.factories.seats kind name other its.asked

    is_mine : is_factory_of_node kind name node (factory_as made) ≡ true
    is_mine =
        and_from (same_pattern kind kind) (bytes_eq name name && (node == node)) (pattern-itself kind)
        (and_from (bytes_eq name name) (node == node) (name-itself name) (eq-eqb node node refl))

    own_left : counts_of (Own node) (left (Own node) nodes) ≡ seats_for (factories_of_node kind name node left_factories)
    own_left =
        let fewer = fewer_of kind name node in
        let mine = ap one_if is_mine in
        let all = factories_of_node kind name node state.factories in
        let some : 0 < all = omega (arith, fewer, mine) in
        let less : all - 1 ≡ factories_of_node kind name node left_factories = omega (arith, fewer, mine) in
        left_itself (Own node) all nodes (seats_were node ∙ seats_some all some) ∙ ap seats_for less

    left_seats : (other : ℕ) → counts_of (Own other) (left (Own node) nodes) ≡ seats_for (factories_of_node kind name other left_factories)
    left_seats other = ⊎_elim
        (λ same. ap (λ (n : ℕ). counts_of (Own n) (left (Own node) nodes)) (sym same.1) ∙ own_left
        ∙ ap (λ (n : ℕ). seats_for (factories_of_node kind name n left_factories)) same.1)
        (λ off. left_others (Own node) (Own other) nodes (λ e. off.1 (own_number node other e)) ∙ seats_were other
        ∙ ap seats_for (same_count (fewer_of kind name other)
        (and_right (same_pattern kind kind) (bytes_eq name name && (node == other))
        (and_right (bytes_eq name name) (node == other) off.0)))) (eqb_tells node other)
      where
        same_count : {b : Bool} {one all : ℕ} → one + one_if b ≡ all → b ≡ false → all ≡ one
        same_count {b} {one} {all} fewer none = omega (arith, fewer, ap one_if none)

    -- the name is that of the factory, or it isn't
    by_name : (P : MessagingPattern → List ℕ → Phase → Type 0) (which : MessagingPattern) (called : List ℕ)
        → (which ≡ kind → called ≡ name → P which called (closed_by node (state.phases kind name)))
        → ((same_pattern which kind && bytes_eq called name) ≡ false → P which called (state.phases which called))
        → P which called (phases_then which called)
    by_name P which called here elsewhere = tested (same_pattern which kind && bytes_eq called name) refl
      where
        tested : (b : Bool) → (same_pattern which kind && bytes_eq called name) ≡ b
            → P which called (cond b (closed_by node (state.phases kind name)) (state.phases which called))
        tested true is =
            let both = both_pass (same_pattern which kind) (bytes_eq called name) is in
            here (pattern-is which kind both.0) (name-is called name both.1)
        tested false is = elsewhere is

    seats_here : (other : ℕ) → seats_in other (closed_by node (state.phases kind name))
        ≡ seats_for (factories_of_node kind name other left_factories)
    seats_here other =
        ap (λ (phase : Phase). seats_in other (closed_by node phase)) phase_is ∙ closed_seats node life agreed nodes seated other
        ∙ left_seats other

    pub seats_then : (which : MessagingPattern) (called : List ℕ) (other : ℕ) → IsAmong names called
        → seats_in other (phases_then which called) ≡ seats_for (factories_of_node which called other left_factories)
    seats_then which called other among =
        by_name (λ p q phase. seats_in other phase ≡ seats_for (factories_of_node p q other left_factories)) which called
        (λ same named. seats_here other
        ∙ sym (ap (λ (p : MessagingPattern). seats_for (factories_of_node p called other left_factories)) same
        ∙ ap (λ (q : List ℕ). seats_for (factories_of_node kind q other left_factories)) named))
        (λ off. stands.factories.seats which called other among
        ∙ ap seats_for (same_count (fewer_of which called other)
        (false_from_ne_true (is_factory_of_node which called other (factory_as made))
        (λ is. apart off (both_pass (same_pattern kind which) (bytes_eq name called && (node == other)) is)))))
      where
        same_count : {b : Bool} {one all : ℕ} → one + one_if b ≡ all → b ≡ false → all ≡ one
        same_count {b} {one} {all} fewer none = omega (arith, fewer, ap one_if none)

        apart : (same_pattern which kind && bytes_eq called name) ≡ false
            → (same_pattern kind which ≡ true) × ((bytes_eq name called && (node == other)) ≡ true) → ⊥
        apart off both =
            let patterns = pattern-is kind which both.0 in
            let named = name-is name called (both_pass (bytes_eq name called) (node == other) both.1).0 in
            true≢false (sym (and_from (same_pattern which kind) (bytes_eq called name)
            (subst (λ (p : MessagingPattern). same_pattern p kind ≡ true) patterns (pattern-itself kind))
            (subst (λ (q : List ℕ). bytes_eq q name ≡ true) named (name-itself name))) ∙ off)

    -- each factory that is left is of a service that its node is in
    pub serves_then : (other : ℕ) (which : MadeFactory) → value_at left_made other ≡ Some which
        → IsServiceIn (parts_of which).0.node (pattern_in which) (carried_by which).name
        (phases_then (pattern_in which) (carried_by which).name) (taken (pattern_in which) (carried_by which).name)
        (parts_of which).0.service
    serves_then other which found =
        by_name (λ p q phase. IsServiceIn who p q phase (taken p q) what) (pattern_in which) (carried_by which).name serves_here
        (λ off. was.serves)
      where
        who : ℕ
        who = (parts_of which).0.node

        what : Opened
        what = (parts_of which).0.service

        was : FactoryStands names taken old.hub.table state other which
        was = stands.factories.each other which (was_there other which found).0

        serves_here : pattern_in which ≡ kind → (carried_by which).name ≡ name
            → IsServiceIn who (pattern_in which) (carried_by which).name (closed_by node (state.phases kind name))
            (taken (pattern_in which) (carried_by which).name) what
        serves_here same named =
            let phase_so : state.phases (pattern_in which) (carried_by which).name ≡ Published life agreed nodes =
            ap (λ (p : MessagingPattern). state.phases p (carried_by which).name) same ∙ ap (state.phases kind) named ∙ phase_is in
            let counted = one_passing (is_factory_of_node kind name who) other (factory_as which) left_factories (at_left other which found)
            (and_from (same_pattern (pattern_in which) kind) (bytes_eq (carried_by which).name name && (who == who))
            (subst (λ (p : MessagingPattern). same_pattern p kind ≡ true) (sym same) (pattern-itself kind))
            (and_from (bytes_eq (carried_by which).name name) (who == who)
            (subst (λ (q : List ℕ). bytes_eq q name ≡ true) (sym named) (name-itself name)) (eq-eqb who who refl))) in
            subst (λ (phase : Phase). IsServiceIn who (pattern_in which) (carried_by which).name (closed_by node phase)
            (taken (pattern_in which) (carried_by which).name) what) (sym phase_is)
            (closed_serves node life agreed nodes seated who (pattern_in which) (carried_by which).name
            (taken (pattern_in which) (carried_by which).name) what
            (λ none. no_seats (factories_of_node kind name who left_factories) counted (sym (left_seats who) ∙ none))
            (subst (λ (phase : Phase). IsServiceIn who (pattern_in which) (carried_by which).name phase
            (taken (pattern_in which) (carried_by which).name) what) phase_so was.serves))

  -- ---- whether others are left

  -- where a service is counted still a factory of it is left
  module _ (some : 0 < how_often service (services_in left_made)) where
    pub another : (other : ℕ) × (which : MadeFactory) × (value_at left_made other ≡ Some which) × (service_of which ≡ service)
    another =
        let (other, which, found, is) = some_of service left_made.entries left_made.entries (all_go left_made.entries once_left) some in
        (other, which, sym (found_so other left_made.entries) ∙ found, is)

    another_carried : carried_by another.1 ≡ carried_by made
    another_carried = agree another.0 number another.1 made (was_there another.0 another.1 another.2).0 there another.3

    another_kind : pattern_in another.1 ≡ kind
    another_kind =
        same_kind choices degrades decides reader_degrades names taken naming order old state stands agree another.0 number another.1 made
        (was_there another.0 another.1 another.2).0 there another.3

    pub others_left : list_any (λ (entry : ℕ × Factory). same_pattern entry.1.pattern kind && bytes_eq entry.1.name name) left_factories
        ≡ true
    others_left =
        one_passes (λ (factory : Factory). same_pattern factory.pattern kind && bytes_eq factory.name name) another.0
        (factory_as another.1) left_factories (at_left another.0 another.1 another.2)
        (and_from (same_pattern (pattern_in another.1) kind) (bytes_eq (carried_by another.1).name name)
        (subst (λ (p : MessagingPattern). same_pattern p kind ≡ true) (sym another_kind) (pattern-itself kind))
        (subst (λ (q : List ℕ). bytes_eq q name ≡ true) (sym (ap (λ (d : Description). d.name) another_carried)) (name-itself name)))

    -- a service that the factory stood for another does
    served_by_another : (m : ℕ) (one : Service T) → IsServedBy old.factories.made old.hub.services m one
        → IsServedBy left_made old.hub.services m one
    served_by_another m one served = ⊎_elim
        (λ same. of_another same.1)
        (λ off. record {
          factory = served.factory;
          made = served.made;
          found = lookup-removed_other number served.factory old.factories.made.entries off.1 ∙ served.found;
          pattern = served.pattern;
          number_is = served.number_is;
          name = served.name;
          carried = served.carried;
          agreed = served.agreed;
        }) (eqb_tells served.factory number)
      where
        of_another : served.factory ≡ number → IsServedBy left_made old.hub.services m one
        of_another same =
            let it : served.made ≡ made = same_some served.made made
            (sym served.found ∙ ap (value_at old.factories.made) same ∙ there) in
            let carried : carried_by another.1 ≡ carried_by served.made = another_carried ∙ ap carried_by (sym it) in record {
              factory = another.0;
              made = another.1;
              found = another.2;
              pattern = another_kind ∙ ap pattern_in (sym it) ∙ served.pattern;
              number_is = another.3 ∙ ap service_of (sym it) ∙ served.number_is;
              name = served.name ∙ ap (λ (d : Description). d.name) (sym carried);
              carried = ap (λ (d : Description). d.settings) carried ∙ served.carried;
              agreed = served.agreed;
            }

    pub served_still : (domains : List (ℕ × ServicePorts T U)) (these : List (Service T))
        → AreServedInTurn old.factories.made old.hub.services domains these → AreServedInTurn left_made old.hub.services domains these
    served_still [] these served = served
    served_still (domain ∷ domains) [] served = absurd served
    served_still (domain ∷ domains) (one ∷ these) served =
        (served_by_another domain.0 one served.0, served_still domains these served.1)

  -- where it isn't counted none is
  module _ (alone : (other : ℕ) (which : MadeFactory) → value_at old.factories.made other ≡ Some which → service_of which ≡ service
      → other ≡ number) where
    pub none_left : list_any (λ (entry : ℕ × Factory). same_pattern entry.1.pattern kind && bytes_eq entry.1.name name) left_factories
        ≡ false
    none_left = false_from_ne_true _ (λ is.
        let (other, factory, found, passes) =
        some_passes (λ (one : Factory). same_pattern one.pattern kind && bytes_eq one.name name) left_factories left_factories
        (all_go left_factories (λ which. omega (arith, often_removed number which state.factories, once which))) is in
        let (which, has, same) = mapped_some factory_as (value_at left_made other) factory
        (sym (ap (at other) same_left ∙ goes_so other factory_as left_made) ∙ found) in
        let both = both_pass (same_pattern factory.pattern kind) (bytes_eq factory.name name) passes in
        let was = was_there other which has in
        was.1 (alone other which was.0
        (same_number choices degrades decides reader_degrades names taken naming order old state stands agree other number which made
        was.0 there
        (ap (λ (one : Factory). one.pattern) same ∙ pattern-is factory.pattern kind both.0)
        (ap (λ (one : Factory). one.name) same ∙ name-is factory.name name both.1))))

    pub others_elsewhere : (other : ℕ) (which : MadeFactory) → value_at left_made other ≡ Some which → service ≡ service_of which → ⊥
    others_elsewhere other which found same =
        let was = was_there other which found in was.1 (alone other which was.0 (sym same))

    -- other domains are served as they were
    served_apart : (m : ℕ) (one : Service T) → m ≢ service → IsServedBy old.factories.made old.hub.services m one
        → IsServedBy left_made (record old.hub.services { domains = closed service old.hub.services.domains }) m one
    served_apart m one off served = record {
      factory = served.factory;
      made = served.made;
      found = lookup-removed_other number served.factory old.factories.made.entries
          (λ same. off (sym served.number_is ∙ ap service_of
          (same_some served.made made (sym served.found ∙ ap (value_at old.factories.made) same ∙ there)))) ∙ served.found;
      pattern = served.pattern;
      number_is = served.number_is;
      name = served.name;
      carried = served.carried;
      agreed = λ domain is. served.agreed domain
          (sym (ap here_if (gone_others service m old.hub.services.domains (λ same. off (sym same)))) ∙ is);
    }

    pub served_without : (domains : List (ℕ × ServicePorts T U)) (these : List (Service T)) → how_often service (keys_of domains) ≡ 0
        → AreServedInTurn old.factories.made old.hub.services domains these
        → AreServedInTurn left_made (record old.hub.services { domains = closed service old.hub.services.domains }) domains these
    served_without [] these none served = served
    served_without (domain ∷ domains) [] none served = absurd served
    served_without (domain ∷ domains) (one ∷ these) none served = (
      served_apart domain.0 one
          (λ same. omega (arith, none, ap one_if (eq-eqb service domain.0 (sym same)))) served.0,
      served_without domains these (omega (arith, none)) served.1,
    )

    pub served_joined : (domains others : List (ℕ × ServicePorts T U)) (these those : List (Service T))
        → AreServedInTurn left_made (record old.hub.services { domains = closed service old.hub.services.domains }) domains these
        → AreServedInTurn left_made (record old.hub.services { domains = closed service old.hub.services.domains }) others those
        → AreServedInTurn left_made (record old.hub.services { domains = closed service old.hub.services.domains }) (domains ++ others)
        (these ++ those)
    served_joined [] others these those served rest =
        subst (λ (list : List (Service T)). AreServedInTurn left_made
        (record old.hub.services { domains = closed service old.hub.services.domains }) others (list ++ those)) (sym served) rest
    served_joined (one ∷ domains) others [] those served rest = absurd served
    served_joined (one ∷ domains) others (this ∷ these) those served rest =
        (served.0, served_joined domains others these those served.1 rest)

    pub opened_without : (other : ℕ) (which : MadeFactory) → value_at left_made other ≡ Some which
        → pattern_in which ≡ pattern.PublishSubscribe
        → is_open (service_of which) (record old.hub.services { domains = closed service old.hub.services.domains }) ≡ true
    opened_without other which found is =
        ap is_some (gone_others service (service_of which) old.hub.services.domains (others_elsewhere other which found))
        ∙ stands.factories.opened other which (was_there other which found).0 is

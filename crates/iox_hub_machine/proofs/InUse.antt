-- Whether a factory is in use: of a hub, and of the machine.
use Rattle.std.proofs.Common.{◌≡◌, ◌≤◌, ◌<◌, ℕ, Bool, true, false, ◌&&◌, ◌||◌, List, [], ◌∷◌, ◌++◌, map, Option, None, Some}
use Rattle.std.proofs.Common.{refl, sym, ap, subst, ◌∙◌, inl, inr, arith, true≢false}
use Rattle.std.proofs.Math.Logic.{⊎_elim}
use Rattle.std.proofs.lemmas.Bool.{and_from, and_right, eq-eqb, false_from_ne_true, lt-ltb, ltb-true, leb-true, or_left, or_right}
use Rattle.std.proofs.lemmas.Bool.Decides.{eqb_tells}
use Rattle.std.specs.List.{AllByRecursion, IsDistinct, list_any}
use Rattle.std.specs.Map.{keys_of}
use Rattle.std.specs.Prelude.{◌==◌, flat_map, is_some, bytes_eq}
use Rattle.iox_command.specs.DomainValues.declared.backpressure.BackpressureDecision.{BackpressureDecision}
use Rattle.iox_command.specs.DomainValues.declared.backpressure.BackpressureInfo.{BackpressureInfo}
use Rattle.iox_command.specs.DomainValues.declared.degradation.DegradationAction.{DegradationAction}
use Rattle.iox_command.specs.DomainValues.declared.degradation.DegradationCause.{DegradationCause}
use Rattle.iox_command.specs.DomainValues.declared.degradation.DegradationInfo.{DegradationInfo}
use Rattle.iox_command.specs.NegotiateBase.DescribeBase.declared.pattern.MessagingPattern.{MessagingPattern}
use Rattle.iox_command.specs.NegotiateBase.DescribeBase.declared.pattern.MessagingPattern.TheVariants as pattern
use Rattle.iox_command.specs.NegotiateBase.DescribeSettings.Agreement.{Agreement as Description, pattern_of}
use Rattle.iox_command.specs.NegotiateBase.declared.request.Opened.{Opened}
use Rattle.iox_container.specs.NumberTable.{value_at}
use Rattle.iox_domain.proofs.Counting.{owner_within}
use Rattle.iox_domain.specs.DomainPorts.declared.attached.Taken.{Taken}
use Rattle.iox_domain.specs.Living.{living}
use Rattle.iox_domain.specs.Tries.{how_often}
use Rattle.iox_domain.specs.declared.domain.Domain.{Domain}
use Rattle.iox_domain.specs.declared.ports.service_ports.ServicePorts.{ServicePorts}
use Rattle.iox_domain_machine.specs.Naming.{Naming}
use Rattle.iox_domain_machine.specs.Services.{those_of, StandInTurn}
use Rattle.iox_domain_machine.specs.Standing.{StandsFor}
use Rattle.iox_domain_machine.specs.Tables.{LentSlot}
use Rattle.iox_domain_machine.proofs.Found.{same_some, never_some, at_head, at_behind}
use Rattle.iox_domain_machine.proofs.Services.{parted}
use Rattle.iox_hub_base.specs.Closing.{in_use, is_last, lives_in, who_counts}
use Rattle.iox_hub_base.specs.Hubs.{factories_of}
use Rattle.iox_hub_base.specs.Open.{presence_of}
use Rattle.iox_hub_base.specs.declared.presence.Presence.{Presence}
use Rattle.iox_hub_base.specs.declared.presence.Presence.TheVariants.{Here}
use Rattle.iox_hub_commands.specs.AgreementLaws.{service_of, carried_by, FactoriesAgree}
use Rattle.iox_hub_commands.specs.ServicesTables.{parts_of, pattern_in}
use Rattle.iox_hub_commands.specs.declared.numbered_hub.NumberedHub.{NumberedHub}
use Rattle.iox_hub_commands.specs.declared.services.made.MadeFactory.{MadeFactory}
use Rattle.iox_hub_machine.proofs.ComesServed.{here_found, none_passing, served_parted, is_another, is_its_own}
use Rattle.iox_hub_machine.proofs.Moving.{mapped_some}
use Rattle.iox_hub_machine.proofs.Numbered.{found_so, goes_so}
use Rattle.iox_hub_machine.proofs.Parting.{is_parted, order_has}
use Rattle.iox_hub_machine.proofs.Placed.{comes_alone}
use Rattle.iox_hub_machine.proofs.Used.{Lives, both_pass, lives_counts, lives_uses, some_lives, used_lives, Uses, uses_used, one_if}
use Rattle.iox_hub_machine.specs.Services.{AreServedInTurn, FactoryStands, HubStandsFor, IsServedBy, factory_as}
use Rattle.iox_hub_machine.specs.Standing.{lent_in, held_in}
use Rattle.iox_machine.specs.Choices.{Choices}
use Rattle.iox_machine.proofs.Names.{name-is, pattern-is}
use Rattle.iox_machine.specs.Closing.{is_used_by}
use Rattle.iox_machine.specs.NumberLaws.{numbers_in}
use Rattle.iox_machine.specs.Phase.{Phase, Published, same_pattern}
use Rattle.iox_machine.specs.Service.{Service}
use Rattle.iox_machine.specs.State.{State, Factory, is_service_of}
use Rattle.iox_machine.specs.Table.{at}
use Rattle.iox_machine.specs.UseLaws.{IsOpen, IsOfOpenFactories}
use Rattle.iox_negotiate_machine.specs.CallLaws.{IsServiceIn}
use Rattle.iox_negotiate_machine.specs.Standing.{IsLast, Lies}
use Rattle.iox_negotiate_table.specs.Contents.{Contents}

-- ---- lists

any_among : {X : Type 0} (test : X → Bool) (first : List X) (x : X) (last : List X) → test x ≡ true
    → list_any test (first ++ x ∷ last) ≡ true
any_among test [] x last is = or_left (test x) (list_any test last) is
any_among test (y ∷ first) x last is = or_right (test y) (list_any test (first ++ x ∷ last)) (any_among test first x last is)

none_among : {X : Type 0} (test : X → Bool) (first : List X) (x : X) (last : List X) → list_any test first ≡ false → test x ≡ false
    → list_any test last ≡ false → list_any test (first ++ x ∷ last) ≡ false
none_among test [] x last before is behind = ap (λ (b : Bool). b || list_any test last) is ∙ behind
none_among test (y ∷ first) x last before is behind = none_by (test y) (list_any test first) before (none_among test first x last)
  where
    none_by : (b c : Bool) → (b || c) ≡ false → (c ≡ false → test x ≡ false → list_any test last ≡ false
        → list_any test (first ++ x ∷ last) ≡ false) → (b || list_any test (first ++ x ∷ last)) ≡ false
    none_by true c none rest = absurd (true≢false none)
    none_by false c none rest = rest none is behind

pub all_among : {X : Type 0} (P : X → Type 0) (first : List X) (x : X) (last : List X) → AllByRecursion P (first ++ x ∷ last) → P x
all_among P [] x last all = all.0
all_among P (y ∷ first) x last all = all_among P first x last all.1

often_joined : (number : ℕ) (one other : List ℕ) → how_often number other ≤ how_often number (one ++ other)
often_joined number [] other = omega arith
often_joined number (x ∷ one) other = omega (arith, often_joined number one other)

often_first : (number : ℕ) (one other : List ℕ) → how_often number one ≤ how_often number (one ++ other)
often_first number [] other = omega arith
often_first number (x ∷ one) other = omega (arith, often_first number one other)

often_among : {X : Type 0} (f : X → List ℕ) (number : ℕ) (first : List X) (x : X) (last : List X)
    → how_often number (f x) ≤ how_often number (flat_map f (first ++ x ∷ last))
often_among f number [] x last = often_first number (f x) (flat_map f last)
often_among f number (y ∷ first) x last =
    omega (arith, often_among f number first x last, often_joined number (f y) (flat_map f (first ++ x ∷ last)))

none_often : (one : ℕ) (numbers : List ℕ) → AllByRecursion (λ other. (one == other) ≡ false) numbers → how_often one numbers ≡ 0
none_often one [] all = refl
none_often one (other ∷ numbers) all = omega (arith, ap one_if all.0, none_often one numbers all.1)

-- what is distinct comes once
pub distinct_once : (numbers : List ℕ) → IsDistinct (λ one other. one == other) numbers → (number : ℕ) → how_often number numbers ≤ 1
unfolding IsDistinct
distinct_once [] distinct number = omega arith
distinct_once (one ∷ numbers) distinct number = ⊎_elim
    (λ same. omega (
      arith,
      ap one_if same.0,
      ap (λ (n : ℕ). how_often n numbers) same.1,
      none_often one numbers distinct.0,
    ))
    (λ off. omega (arith, ap one_if off.0, distinct_once numbers distinct.1 number)) (eqb_tells number one)

none_at_all : {X : Type 0} (xs : List X) → list_any (λ (x : X). false) xs ≡ false
none_at_all [] = refl
none_at_all (x ∷ xs) = none_at_all xs

-- ---- how many factories a service has

-- the numbers of the services that factories are of
abbrev pub numbers_of : List (ℕ × MadeFactory) → List ℕ
numbers_of entries = map (λ (entry : ℕ × MadeFactory). service_of entry.1) entries

module _ (service : ℕ) where
  comes_with : (number : ℕ) (made : MadeFactory) (entries : List (ℕ × MadeFactory)) → at number entries ≡ Some made
      → service_of made ≡ service → 0 < how_often service (numbers_of entries)
  comes_with number made [] found is = never_some made found
  comes_with number made (entry ∷ entries) found is = ⊎_elim
      (λ same. omega (
        arith,
        ap one_if (eq-eqb service (service_of entry.1)
            (sym (ap service_of (same_some entry.1 made (sym (at_head number entry entries same.0) ∙ found)) ∙ is))),
      ))
      (λ off. omega (arith, comes_with number made entries (sym (at_behind number entry entries off.0) ∙ found) is))
      (eqb_tells entry.0 number)

  -- where a service has one factory at most two are one
  pub sole : (one other : ℕ) (first second : MadeFactory) (entries : List (ℕ × MadeFactory)) → at one entries ≡ Some first
      → at other entries ≡ Some second → service_of first ≡ service → service_of second ≡ service
      → how_often service (numbers_of entries) ≤ 1 → one ≡ other
  sole one other first second [] found there is also few = never_some first found
  sole one other first second (entry ∷ entries) found there is also few =
      sole_by (λ one_found other_found fewer. sole one other first second entries one_found other_found is also fewer)
    where
      head_counts : (number : ℕ) (made : MadeFactory) → (entry.0 == number) ≡ true → at number (entry ∷ entries) ≡ Some made
          → service_of made ≡ service → one_if (service == service_of entry.1) ≡ 1
      head_counts number made on has its =
          ap one_if (eq-eqb service (service_of entry.1)
          (sym (ap service_of (same_some entry.1 made (sym (at_head number entry entries on) ∙ has)) ∙ its)))

      sole_by : (at one entries ≡ Some first → at other entries ≡ Some second → how_often service (numbers_of entries) ≤ 1 → one ≡ other)
          → one ≡ other
      sole_by later = ⊎_elim
          (λ same. ⊎_elim
          (λ so. sym same.1 ∙ so.1)
          (λ off. absurd (omega (
            arith,
            few,
            head_counts one first same.0 found is,
            comes_with other second entries (sym (at_behind other entry entries off.0) ∙ there) also,
          )))
          (eqb_tells entry.0 other))
          (λ off. ⊎_elim
          (λ so. absurd (omega (
            arith,
            few,
            head_counts other second so.0 there also,
            comes_with one first entries (sym (at_behind one entry entries off.0) ∙ found) is,
          )))
          (λ neither. later (sym (at_behind one entry entries off.0) ∙ found) (sym (at_behind other entry entries neither.0) ∙ there)
          (omega (arith, few)))
          (eqb_tells entry.0 other))
          (eqb_tells entry.0 one)

-- ---- what is published

one_last : (one other : ℕ) (taken : List ℕ) → IsLast (λ number. one ≡ number) taken → IsLast (λ number. other ≡ number) taken
    → one ≡ other
one_last one other [] is also = absurd is
one_last one other (number ∷ before) is also = is ∙ sym also

taken_last : (node : ℕ) (pattern : MessagingPattern) (name taken : List ℕ) (phase : Phase) (opened : Opened)
    → IsServiceIn node pattern name phase taken opened → IsLast (λ number. opened.number ≡ number) taken
taken_last node pattern name taken (Published life agreed nodes) opened is = is.1
taken_last node pattern name taken other opened is = absurd is

kind_of : (node : ℕ) (pattern : MessagingPattern) (name : List ℕ) (table : Contents) (taken : List ℕ) (phase : Phase) (opened : Opened)
    → Lies pattern name table phase taken → IsServiceIn node pattern name phase taken opened
    → pattern_of opened.description.settings ≡ pattern
kind_of node pattern name table [] (Published life agreed nodes) opened lies is = absurd lies
kind_of node pattern name table (number ∷ before) (Published life agreed nodes) opened lies is =
    ap (λ (described : Description). pattern_of described.settings) is.2 ∙ lies.0.kind
kind_of node pattern name table taken other opened lies is = absurd is

-- ---- the factories of a hub

module _ {T U B D : Type 0} (choices : Choices T) (degrades : B → DegradationCause → DegradationInfo → DegradationAction → Type 0)
    (decides : B → BackpressureInfo → BackpressureDecision → Type 0)
    (reader_degrades : D → DegradationCause → DegradationInfo → DegradationAction → Type 0)
    (names : List (List ℕ)) (taken : MessagingPattern → List ℕ → List ℕ) (naming : ℕ → Naming) (order : List (ℕ × ServicePorts T U))
    (old : NumberedHub T U B D) (state : State T)
    (stands : HubStandsFor choices degrades decides reader_degrades names taken naming order old state)
    (agree : FactoriesAgree old.factories.made) where
  abbrev IsTaken : ℕ → MessagingPattern → List ℕ → Type 0
  IsTaken which pattern name = IsLast (λ (last : ℕ). which ≡ last) (taken pattern name)

  -- factories of one pattern and name are of one service
  pub same_number : (one other : ℕ) (first second : MadeFactory) → value_at old.factories.made one ≡ Some first
      → value_at old.factories.made other ≡ Some second → pattern_in first ≡ pattern_in second
      → (carried_by first).name ≡ (carried_by second).name → service_of first ≡ service_of second
  same_number one other first second found there patterns named =
      let mine = stands.factories.each one first found in
      let its = stands.factories.each other second there in
      one_last (service_of first) (service_of second) (taken (pattern_in second) (carried_by second).name)
      (subst (IsTaken (service_of first) (pattern_in second)) named
      (subst (λ (pattern : MessagingPattern). IsTaken (service_of first) pattern (carried_by first).name) patterns
      (taken_last (parts_of first).0.node (pattern_in first) (carried_by first).name (taken (pattern_in first) (carried_by first).name)
      (state.phases (pattern_in first) (carried_by first).name) (parts_of first).0.service mine.serves)))
      (taken_last (parts_of second).0.node (pattern_in second) (carried_by second).name (taken (pattern_in second) (carried_by second).name)
      (state.phases (pattern_in second) (carried_by second).name) (parts_of second).0.service its.serves)

  pub kind_carried : (number : ℕ) (made : MadeFactory) → value_at old.factories.made number ≡ Some made
      → pattern_of (carried_by made).settings ≡ pattern_in made
  kind_carried number made there =
      let its = stands.factories.each number made there in
      kind_of (parts_of made).0.node (pattern_in made) (carried_by made).name old.hub.table (taken (pattern_in made) (carried_by made).name)
      (state.phases (pattern_in made) (carried_by made).name) (parts_of made).0.service
      (stands.table.phases (pattern_in made) (carried_by made).name its.asked).lies its.serves

  -- factories of one service are of one pattern
  pub same_kind : (one other : ℕ) (first second : MadeFactory) → value_at old.factories.made one ≡ Some first
      → value_at old.factories.made other ≡ Some second → service_of first ≡ service_of second → pattern_in first ≡ pattern_in second
  same_kind one other first second found there same =
      sym (kind_carried one first found)
      ∙ ap (λ (described : Description). pattern_of described.settings) (agree one other first second found there same)
      ∙ kind_carried other second there

  -- a factory that the machine has open is one of the hub
  pub open_there : (name : List ℕ) (number : ℕ) → IsOpen state.factories name number
      → (made : MadeFactory) × (value_at old.factories.made number ≡ Some made) × (pattern_in made ≡ pattern.PublishSubscribe)
      × ((carried_by made).name ≡ name)
  open_there name number (factory, found, is) =
      let (made, there, same) = mapped_some factory_as (value_at old.factories.made number) factory
      (sym (ap (at number) stands.factories.same ∙ goes_so number factory_as old.factories.made) ∙ found) in
      let both = both_pass (same_pattern factory.pattern pattern.PublishSubscribe) (bytes_eq name factory.name) is in (
        made,
        there,
        ap (λ (one : Factory). one.pattern) same ∙ pattern-is factory.pattern pattern.PublishSubscribe both.0,
        ap (λ (one : Factory). one.name) same ∙ sym (name-is name factory.name both.1),
      )

  abbrev lent : ℕ → List (ℕ × LentSlot)
  lent service = those_of service (lent_in old.made)

  abbrev held : ℕ → List (ℕ × Taken)
  held service = those_of service (held_in old.made)

  abbrev buffer : ℕ
  buffer = old.hub.expired_connection_buffer

  abbrev InTurn : List (ℕ × ServicePorts T U) → List (Service T) → Type 0
  InTurn domains services = StandInTurn naming (lent_in old.made) (held_in old.made) buffer domains services

  abbrev Served : List (ℕ × ServicePorts T U) → List (Service T) → Type 0
  Served domains services = AreServedInTurn old.factories.made old.hub.services domains services

  -- The service of the machine that a domain is, among all others.
  pub record HasService (number : ℕ) (ports : ServicePorts T U) : Type 0 where
    pub before : List (ℕ × ServicePorts T U)
    pub behind : List (ℕ × ServicePorts T U)
    pub now : order ≡ before ++ (number, ports) ∷ behind
    pub first : List (Service T)
    pub service : Service T
    pub last : List (Service T)
    pub are : state.services ≡ first ++ service ∷ last
    pub stand_before : InTurn before first
    pub it : StandsFor (naming number) (lent number) (held number) buffer ports service
    pub stand_behind : InTurn behind last
    pub served_before : Served before first
    pub served : IsServedBy old.factories.made old.hub.services number service
    pub served_behind : Served behind last
    pub off_before : how_often number (keys_of before) ≡ 0
    pub off_behind : how_often number (keys_of behind) ≡ 0

  pub has_service : (number : ℕ) (domain : Domain T U B D) → presence_of number old.hub.services.domains ≡ Some (Here domain)
      → HasService number domain.state.ports
  has_service number domain found =
      let parts = is_parted number domain.state.ports order
      (order_has order old.hub.services.domains stands.ports.here stands.ports.same number domain found) in
      let (first, service, last, are, stand_before, it, stand_behind) = parted naming (lent_in old.made) (held_in old.made) buffer
      parts.before parts.behind (number, domain.state.ports) state.services
      (subst (λ (domains : List (ℕ × ServicePorts T U)). InTurn domains state.services) parts.now stands.ports.domains.each) in
      let (served_before, served, served_behind) = served_parted old.factories.made old.hub.services naming (lent_in old.made)
      (held_in old.made) buffer parts.before parts.behind (number, domain.state.ports) first service last stand_before
      (subst (λ (domains : List (ℕ × ServicePorts T U)). Served domains (first ++ service ∷ last)) parts.now
      (subst (Served order) are stands.served)) in
      let alone = comes_alone number domain.state.ports parts.before parts.behind
      (subst (λ (domains : List (ℕ × ServicePorts T U)). how_often number (keys_of domains) ≤ 1) parts.now
      (stands.ports.domains.once number)) in record {
        before = parts.before;
        behind = parts.behind;
        now = parts.now;
        first = first;
        service = service;
        last = last;
        are = are;
        stand_before = stand_before;
        it = it;
        stand_behind = stand_behind;
        served_before = served_before;
        served = served;
        served_behind = served_behind;
        off_before = alone.0;
        off_behind = alone.1;
      }

  module _ (owned : AllByRecursion (IsOfOpenFactories state.factories) state.services)
      (publishers : IsDistinct (λ one other. one == other) (flat_map (λ (one : Service T). numbers_in one.publishers) state.services))
      (subscribers : IsDistinct (λ one other. one == other) (flat_map (λ (one : Service T). numbers_in one.subscribers) state.services))
      (number : ℕ) (made : MadeFactory) (there : value_at old.factories.made number ≡ Some made) where
    -- who is used is open
    who_uses : (service : Service T) → IsOfOpenFactories state.factories service → (one : ℕ) → Uses one service
        → IsOpen state.factories service.name one
    who_uses service all one (inl (which, publisher, found, is, inl up)) =
        subst (IsOpen state.factories service.name) is (all.publishers which publisher found up)
    who_uses service all one (inl (which, publisher, found, is, inr (loan, out, goes, whose))) =
        let (lender, has, its_open) = all.loans loan out goes in
        subst (IsOpen state.factories service.name)
        (ap (λ p. p.factory) (same_some lender publisher (sym has ∙ ap (λ (n : ℕ). at n service.publishers) whose ∙ found)) ∙ is) its_open
    who_uses service all one (inr (which, subscriber, found, is, inl up)) =
        subst (IsOpen state.factories service.name) is (all.subscribers which subscriber found up)
    who_uses service all one (inr (which, subscriber, found, is, inr (sample, one_held, goes, whose))) =
        let (holder, has, its_open) = all.samples sample one_held goes in
        subst (IsOpen state.factories service.name)
        (ap (λ s. s.factory) (same_some holder subscriber (sym has ∙ ap (λ (n : ℕ). at n service.subscribers) whose ∙ found)) ∙ is) its_open

    abbrev number_is : ℕ
    number_is = service_of made

    abbrev owner : ℕ
    owner = (parts_of made).1

    abbrev pub is_used : Service T → Bool
    is_used service = is_service_of (factory_as made) service && is_used_by number service

    its : FactoryStands names taken old.hub.table state number made
    its = stands.factories.each number made there

    at_all : (one : ℕ) (which : MadeFactory) → value_at old.factories.made one ≡ Some which
        → at one old.factories.made.entries ≡ Some which
    at_all one which found = found_so one old.factories.made.entries ∙ found

    -- the last factory is the only one
    pub only : is_last number_is old.hub.factory_counts ≡ true → (one : ℕ) (which : MadeFactory) → value_at old.factories.made one
        ≡ Some which
        → service_of which ≡ number_is → one ≡ number
    only last one which found is =
        let few : factories_of number_is old.hub.factory_counts ≤ 1 = leb-true (factories_of number_is old.hub.factory_counts) 1 last in
        sole number_is one number which made old.factories.made.entries (at_all one which found) (at_all number made there) is refl
        (subst (λ (n : ℕ). n ≤ 1) (stands.factories.counts number_is) few)

    module _ (domain : Domain T U B D) (found : presence_of number_is old.hub.services.domains ≡ Some (Here domain)) where
      abbrev pub mine : HasService number_is domain.state.ports
      mine = has_service number_is domain found

      kind : pattern_in made ≡ pattern.PublishSubscribe
      kind = sym (same_kind mine.served.factory number mine.served.made made mine.served.found there mine.served.number_is) ∙
          mine.served.pattern

      uses_own : is_last number_is old.hub.factory_counts ≡ true → (one : ℕ) → Uses one mine.service → one ≡ number
      uses_own last one uses =
          let (which, at_one, patterns, named) = open_there mine.service.name one
          (who_uses mine.service
          (all_among (IsOfOpenFactories state.factories) mine.first mine.service mine.last
          (subst (AllByRecursion (IsOfOpenFactories state.factories)) mine.are owned)) one uses) in
          only last one which at_one
          (same_number one mine.served.factory which mine.served.made at_one mine.served.found (patterns ∙ sym mine.served.pattern)
          (named ∙ mine.served.name)
          ∙ mine.served.number_is)

      some_use : (one : ℕ) → one ≡ number → Uses one mine.service → list_any is_used state.services ≡ true
      some_use one same uses =
          ap (list_any is_used) mine.are
          ∙ any_among is_used mine.first mine.service mine.last
          (and_from (is_service_of (factory_as made) mine.service) (is_used_by number mine.service)
          (is_its_own choices degrades decides reader_degrades names taken naming order old state stands agree number made there kind
          mine.service
          mine.served)
          (uses_used number mine.service (subst (λ (n : ℕ). Uses n mine.service) same uses)))

      lives_used : (one : ℕ) → Lives one domain.state.ports → Uses one mine.service
      lives_used one lives =
          lives_uses (naming number_is) (lent number_is) (held number_is) buffer domain.state.ports mine.service mine.it one lives

      used_by : (b : Bool) → is_last number_is old.hub.factory_counts ≡ b → 0 < living (who_counts b owner) domain.state.ports
          → list_any is_used state.services ≡ true
      used_by true last some =
          let (one, counted, lives) = some_lives None domain.state.ports mine.it.once mine.it.once_subscribers some in
          some_use one (uses_own last one (lives_used one lives)) (lives_used one lives)
      used_by false last some =
          let (one, counted, lives) = some_lives (Some owner) domain.state.ports mine.it.once mine.it.once_subscribers some in
          some_use one (sym counted ∙ its.owner) (lives_used one lives)

      once_of : (numbers : Service T → List ℕ)
          → IsDistinct (λ one other. one == other) (flat_map numbers state.services) → (one : ℕ) → how_often one (numbers mine.service) ≤ 1
      once_of numbers distinct one =
          omega (
            arith,
            often_among numbers one mine.first mine.service mine.last,
            distinct_once (flat_map numbers (mine.first ++ mine.service ∷ mine.last))
                (subst (λ (services : List (Service T)). IsDistinct (λ one other. one == other) (flat_map numbers services)) mine.are
                distinct)
                one,
          )

      counts_so : (b : Bool) → Lives number domain.state.ports → 0 < living (who_counts b owner) domain.state.ports
      counts_so true lives =
          omega (arith, lives_counts number domain.state.ports lives, owner_within number domain.state.ports)
      counts_so false lives =
          subst (λ (n : ℕ). 0 < living (Some n) domain.state.ports) (sym its.owner) (lives_counts number domain.state.ports lives)

      unused : in_use number_is owner old.hub ≡ false → is_used_by number mine.service ≡ false
      unused spare = false_from_ne_true (is_used_by number mine.service) (λ used. true≢false
          (sym (lt-ltb 0 (living (who_counts (is_last number_is old.hub.factory_counts) owner) domain.state.ports)
          (counts_so (is_last number_is old.hub.factory_counts)
          (used_lives (naming number_is) (lent number_is) (held number_is) buffer domain.state.ports mine.service mine.it number
          (once_of (λ (one : Service T). numbers_in one.publishers) publishers)
          (once_of (λ (one : Service T). numbers_in one.subscribers) subscribers) used)))
          ∙ sym (ap (lives_in (who_counts (is_last number_is old.hub.factory_counts) owner)) found) ∙ spare))

      none_uses : in_use number_is owner old.hub ≡ false → list_any is_used state.services ≡ false
      none_uses spare =
          ap (list_any is_used) mine.are
          ∙ none_among is_used mine.first mine.service mine.last
          (none_passing old.factories.made old.hub.services is_used number_is others mine.before mine.first mine.off_before
          mine.served_before)
          (and_right (is_service_of (factory_as made) mine.service) (is_used_by number mine.service) (unused spare))
          (none_passing old.factories.made old.hub.services is_used number_is others mine.behind mine.last mine.off_behind
          mine.served_behind)
        where
          others : (other : ℕ) (service : Service T) → (other ≡ number_is → ⊥)
              → IsServedBy old.factories.made old.hub.services other service → is_used service ≡ false
          others other service off served =
              ap (λ (b : Bool). b && is_used_by number service)
              (is_another choices degrades decides reader_degrades names taken naming order old state stands agree number made there kind
              other
              service off served)

    -- a factory that is in use the machine uses
    pub used_so : in_use number_is owner old.hub ≡ true → list_any is_used state.services ≡ true
    used_so used = here_by (presence_of number_is old.hub.services.domains) refl
      where
        whose : Option ℕ
        whose = who_counts (is_last number_is old.hub.factory_counts) owner

        here_by : (found : Option (Presence T U B D)) → presence_of number_is old.hub.services.domains ≡ found
            → list_any is_used state.services ≡ true
        here_by None none = absurd (true≢false (sym used ∙ ap (lives_in whose) none))
        here_by (Some presence) some =
            let (domain, is) = here_found number_is old.hub.services.domains stands.ports.here (ap is_some some) in
            used_by domain is (is_last number_is old.hub.factory_counts) refl
            (ltb-true 0 (living whose domain.state.ports) (sym (ap (lives_in whose) is) ∙ used))

    -- one that isn't it doesn't
    pub unused_so : in_use number_is owner old.hub ≡ false → list_any is_used state.services ≡ false
    unused_so spare = by_kind (pattern_in made) refl
      where
        nothing : (which : MessagingPattern) → pattern_in made ≡ which → same_pattern which pattern.PublishSubscribe ≡ false
            → list_any is_used state.services ≡ false
        nothing which is off =
            ap (λ (b : Bool). list_any (λ (service : Service T). (b && bytes_eq service.name (carried_by made).name)
            && is_used_by number service) state.services)
            (ap (λ (one : MessagingPattern). same_pattern one pattern.PublishSubscribe) is ∙ off)
            ∙ none_at_all state.services

        by_kind : (which : MessagingPattern) → pattern_in made ≡ which → list_any is_used state.services ≡ false
        by_kind pattern.PublishSubscribe is =
            let (domain, found) = here_found number_is old.hub.services.domains stands.ports.here
            (stands.factories.opened number made there is) in none_uses domain found spare
        by_kind pattern.Event is = nothing pattern.Event is refl
        by_kind pattern.RequestResponse is = nothing pattern.RequestResponse is refl

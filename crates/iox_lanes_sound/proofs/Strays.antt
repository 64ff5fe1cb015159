-- Of ports that calls left: which are up to date, and why a domain isn't.
use Rattle.std.proofs.Common.{arith, ◌≡◌, ◌≢◌, ◌+◌, ◌==◌, ◌&&◌, ◌||◌, ◌⊎◌, ◌∷◌, [], ℕ, zero, suc, Bool, true, false, not, List, get_or}
use Rattle.std.proofs.Common.{length}
use Rattle.std.proofs.Common.{is_some, Option, None, Some, refl, sym, ap, ◌∙◌, subst, zero-add, if◌then◌else◌, inl, inr}
use Rattle.std.proofs.lemmas.Bool.{eq-eqb, eqb-true}
use Rattle.iox_domain.proofs.Numbered.{FoundEntry, at_number, found_of_all}
use Rattle.iox_domain.specs.Container.declared.container.Member.{Member}
use Rattle.iox_domain.specs.DomainPorts.Publishers.{port_of}
use Rattle.iox_domain.specs.DomainPorts.declared.publisher_port.PublisherPort.{PublisherPort}
use Rattle.iox_domain.specs.DomainPorts.declared.subscriber_port.SubscriberPort.{SubscriberPort}
use Rattle.iox_domain.specs.DomainValues.declared.backpressure.BackpressureDecision.{BackpressureDecision}
use Rattle.iox_domain.specs.DomainValues.declared.backpressure.BackpressureInfo.{BackpressureInfo}
use Rattle.iox_domain.specs.DomainValues.declared.degradation.DegradationAction.{DegradationAction}
use Rattle.iox_domain.specs.DomainValues.declared.degradation.DegradationInfo.{DegradationInfo}
use Rattle.iox_domain.specs.Ports.{no_ports}
use Rattle.iox_domain.specs.Rolls.{is_listed}
use Rattle.iox_domain.specs.Subscribers.{subscriber_of}
use Rattle.iox_domain.specs.declared.domain.Domain.{Domain}
use Rattle.iox_domain.specs.declared.ports.service_ports.ServicePorts.{ServicePorts}
use Rattle.iox_lanes_opening.specs.Deciding.{has_handlers, is_retrying}
use Rattle.iox_lanes_opening.specs.Lingering.{is_lingering}
use Rattle.iox_lanes_opening.specs.Listed.{of_each_listed}
use Rattle.iox_lanes_opening.specs.Refusals.{first_reason, has_growing, is_blocked}
use Rattle.iox_lanes_opening.specs.Sequences.{has_too_large}
use Rattle.iox_lanes_opening.specs.Slices.{has_slices}
use Rattle.iox_lanes_opening.specs.Soundness.{any_below, is_unsound}
use Rattle.iox_lanes_opening.specs.UpToDate.{has_stray_tie, is_connected, is_current_port, is_current_publisher, is_current_reader}
use Rattle.iox_lanes_opening.specs.UpToDate.{is_current_subscriber, is_stray, is_up_to_date}
use Rattle.iox_lanes_opening.specs.declared.refusals.into_lanes_error.IntoLanesError.{IntoLanesError}
use Rattle.iox_lanes_opening.specs.declared.refusals.into_lanes_error.IntoLanesError.TheVariants as reason
use Rattle.iox_lanes_sound.proofs.StrayCalls.{begins, goes_on, stay_without}
use Rattle.iox_lanes_sound.specs.Strays.{AreWithoutStrays, IsEntryWithoutStrays, IsWithoutStrays, LeaveNoStrays}
use Rattle.iox_lanes_sound.specs.Strays.{PublisherLags, SomePublisherLags, SomeSubscriberLags, SubscriberLags}

module _ {T U : Type 0} (ports : ServicePorts T U) (without : AreWithoutStrays ports) where
  -- a publisher of the service
  port_without : (number : ℕ) (port : PublisherPort T U) → port_of number ports.publishers ≡ Some port
      → IsWithoutStrays ports.subscriber_list port
  port_without number port there =
      let found : FoundEntry (IsEntryWithoutStrays ports.subscriber_list) (at_number number) port
      = found_of_all (IsEntryWithoutStrays ports.subscriber_list) (at_number number) ports.publishers port without there in
      found.holds

  tame_below : (port : PublisherPort T U) (count : ℕ) → IsWithoutStrays ports.subscriber_list port
      → port.seen ≡ ports.subscriber_list.changes → any_below (is_stray ports.subscriber_list port) count ≡ false
  tame_below port zero own seen = refl
  tame_below port (suc count) own seen =
      ap (λ b. b || is_stray ports.subscriber_list port count) (tame_below port count own seen)
      ∙ by (get_or port.ties.items count None) refl
    where
      by : (tie : Option ℕ) → get_or port.ties.items count None ≡ tie
          → is_some tie && not (is_listed count ports.subscriber_list) ≡ false
      by None is = refl
      by (Some index) is = ap not (own.listed seen count index is)

  -- one that has seen all changes has no stray tie
  tame : (number : ℕ) (port : PublisherPort T U) → port_of number ports.publishers ≡ Some port
      → port.seen ≡ ports.subscriber_list.changes → has_stray_tie ports.subscriber_list port ≡ false
  tame number port there seen = tame_below port (length port.ties.items) (port_without number port there) seen

  current_by : (seen each stray : Bool) → (seen ≡ true → stray ≡ false) → (seen && each) && not stray ≡ (seen && each)
  current_by false each stray none = refl
  current_by true false stray none = refl
  current_by true true stray none = ap not (none refl)

  current : (place number : ℕ) (port : PublisherPort T U) → port_of number ports.publishers ≡ Some port
      → is_current_port ports place number (Some port) ≡ (port.seen == ports.subscriber_list.changes)
      && of_each_listed (is_connected place number port ports.subscribers) 0 ports.subscriber_list.places
  current place number port there =
      current_by (port.seen == ports.subscriber_list.changes)
      (of_each_listed (is_connected place number port ports.subscribers) 0 ports.subscriber_list.places)
      (has_stray_tie ports.subscriber_list port)
      (λ seen. tame number port there (eqb-true port.seen ports.subscriber_list.changes seen))

pub leave_no_strays : {T U : Type 0} (overrides : ℕ → ℕ → Type 0) (may : DegradationInfo → DegradationAction → Type 0)
    (decide : BackpressureInfo → BackpressureDecision → Type 0) → LeaveNoStrays T U overrides may decide
leave_no_strays overrides may decide = record {
  begins = begins;
  goes_on = goes_on overrides may decide;
  stays = λ service sizes calls new happen. stay_without overrides may decide calls (no_ports service sizes) new happen
      (begins service sizes (no_ports service sizes) refl);
  tame = λ ports number port without there seen. tame ports without number port there seen;
  current = λ ports place number port without there. current ports without place number port there;
}

-- of two tests one fails
one_fails : (a b : Bool) → (a && b) ≡ false → (a ≡ false) ⊎ (b ≡ false)
one_fails true b fails = inr fails
one_fails false b fails = inl refl

-- who is listed, and of whom it doesn't hold
fails_at : {V : Type 0} (holds : ℕ → V → Bool) (first : ℕ) (places : List (Option (Member V))) → of_each_listed holds first places ≡ false
    → (place : ℕ) × (member : Member V) × (get_or places place None ≡ Some member) × (holds (first + place) member.value ≡ false)
fails_at holds first [] fails = absurd (cc fails)
fails_at holds first (None ∷ rest) fails =
    let (place, member, there, not_so) = fails_at holds (first + 1) rest fails in
    let same : first + 1 + place ≡ first + suc place = omega arith in
    (suc place, member, there, subst (λ n. holds n member.value ≡ false) same not_so)
fails_at holds first (Some here ∷ rest) fails = elim (one_fails (holds first here.value) (of_each_listed holds (first + 1) rest) fails) [
  | inl not_here ↦
      let same : first ≡ first + zero = omega arith in
      (zero, here, refl, subst (λ n. holds n here.value ≡ false) same not_here)
  | inr later ↦
      let (place, member, there, not_so) = fails_at holds (first + 1) rest later in
      let same : first + 1 + place ≡ first + suc place = omega arith in
      (suc place, member, there, subst (λ n. holds n member.value ≡ false) same not_so)
]

module _ {T U : Type 0} (ports : ServicePorts T U) (without : AreWithoutStrays ports) where
  -- a publisher that isn't up to date
  publisher_lags : (place number : ℕ) (found : Option (PublisherPort T U)) → port_of number ports.publishers ≡ found
      → is_current_port ports place number found ≡ false → PublisherLags ports place number found
  publisher_lags place number None there fails = tt
  publisher_lags place number (Some port) there fails =
      elim (one_fails (port.seen == ports.subscriber_list.changes)
      (of_each_listed (is_connected place number port ports.subscribers) 0 ports.subscriber_list.places)
      (sym (current ports without place number port there) ∙ fails)) [
        | inl unseen ↦ inl (omega (arith, (port_without ports without number port there).seen, apart unseen))
        | inr unmet ↦
            let (other, member, listed, lacks)
            = fails_at (is_connected place number port ports.subscribers) 0 ports.subscriber_list.places unmet in
            inr (
              other,
              member,
              listed,
              subst (λ n. is_connected place number port ports.subscribers n member.value ≡ false) (zero-add other) lacks,
            )
      ]
    where
      apart : (port.seen == ports.subscriber_list.changes) ≡ false → port.seen ≢ ports.subscriber_list.changes
      apart unseen same = let no : true ≡ false = sym (eq-eqb port.seen ports.subscriber_list.changes same) ∙ unseen in cc

  -- a subscriber that isn't
  subscriber_lags : (found : Option SubscriberPort) → is_current_reader ports found ≡ false → SubscriberLags ports found
  subscriber_lags None fails = tt
  subscriber_lags (Some port) fails = elim (one_fails (port.seen == ports.publisher_list.changes) (not port.again) fails) [
    | inl unseen ↦ inl (λ same. let no : true ≡ false = sym (eq-eqb port.seen ports.publisher_list.changes same) ∙ unseen in cc)
    | inr again ↦ inr (has_to port.again again)
  ]
    where
      has_to : (b : Bool) → not b ≡ false → b ≡ true
      has_to true is = refl
      has_to false is = absurd (cc is)

  -- so of ports that aren't up to date one lags that is listed
  some_lags : is_up_to_date ports ≡ false → SomePublisherLags ports ⊎ SomeSubscriberLags ports
  some_lags fails = elim (one_fails (of_each_listed (is_current_publisher ports) 0 ports.publisher_list.places)
      (of_each_listed (λ place entry. is_current_subscriber ports entry) 0 ports.subscriber_list.places) fails) [
        | inl publishers ↦
            let (place, member, listed, lags) = fails_at (is_current_publisher ports) 0 ports.publisher_list.places publishers in
            inl (
              place,
              member,
              listed,
              publisher_lags place member.value.publisher (port_of member.value.publisher ports.publishers) refl
                  (subst (λ n. is_current_publisher ports n member.value ≡ false) (zero-add place) lags),
            )
        | inr subscribers ↦
            let (place, member, listed, lags)
            = fails_at (λ place entry. is_current_subscriber ports entry) 0 ports.subscriber_list.places subscribers in
            inr (place, member, listed, subscriber_lags (subscriber_of member.value.subscriber ports.subscribers) lags)
      ]

-- another reason than the one that is told doesn't apply
other_reason : (test : Bool) (one told : IntoLanesError) (rest : Option IntoLanesError) → one ≢ told
    → (if test then Some one else rest) ≡ Some told → rest ≡ Some told
other_reason true one told rest apart is = absurd (apart (cc is))
other_reason false one told rest apart is = is

-- where the reason that is told isn't told later, it applies
this_reason : (test : Bool) (told : IntoLanesError) (rest : Option IntoLanesError) → (rest ≡ Some told → ⊥)
    → (if not test then Some told else rest) ≡ Some told → test ≡ false
this_reason true told rest later is = absurd (later is)
this_reason false told rest later is = refl

module _ {T U B D : Type 0} (decision : B → Option BackpressureDecision) (asks : D → Bool)
    (domain : Domain T U B D) where
  abbrev ports : ServicePorts T U
  ports = domain.state.ports

  -- what is told of ports that are up to date
  abbrev later_reason : Option IntoLanesError
  later_reason =
      if has_growing ports then Some reason.NotStatic
      else if has_handlers decision asks domain then Some reason.HasHandlers
      else if is_retrying decision domain then Some reason.Retrying
      else if is_lingering ports then Some reason.Lingering
      else if has_slices domain then Some reason.HasSlices
      else if is_unsound ports then Some reason.Unsound
      else if has_too_large ports then Some reason.SequenceTooLarge
      else None

  never_later : later_reason ≡ Some reason.ConnectionsNotUpToDate → ⊥
  never_later later =
      let growing = other_reason (has_growing ports) reason.NotStatic reason.ConnectionsNotUpToDate _ (λ same. cc same) later in
      let handled = other_reason (has_handlers decision asks domain) reason.HasHandlers reason.ConnectionsNotUpToDate _ (λ same. cc same)
      growing in
      let retrying = other_reason (is_retrying decision domain) reason.Retrying reason.ConnectionsNotUpToDate _ (λ same. cc same) handled in
      let lingering = other_reason (is_lingering ports) reason.Lingering reason.ConnectionsNotUpToDate _ (λ same. cc same) retrying in
      let sliced = other_reason (has_slices domain) reason.HasSlices reason.ConnectionsNotUpToDate _ (λ same. cc same) lingering in
      let sound = other_reason (is_unsound ports) reason.Unsound reason.ConnectionsNotUpToDate _ (λ same. cc same) sliced in
      let none : None ≡ Some reason.ConnectionsNotUpToDate =
      other_reason (has_too_large ports) reason.SequenceTooLarge reason.ConnectionsNotUpToDate _ (λ same. cc same) sound in
      cc none

  -- so where that is the reason they aren't
  is_behind : first_reason decision asks domain ≡ Some reason.ConnectionsNotUpToDate → is_up_to_date ports ≡ false
  is_behind told =
      this_reason (is_up_to_date ports) reason.ConnectionsNotUpToDate later_reason never_later
      (other_reason (is_blocked ports) reason.Blocked reason.ConnectionsNotUpToDate _ (λ same. cc same) told)

  pub refused_where_ports_lag : AreWithoutStrays ports → first_reason decision asks domain ≡ Some reason.ConnectionsNotUpToDate
      → SomePublisherLags ports ⊎ SomeSubscriberLags ports
  refused_where_ports_lag without told = some_lags ports without (is_behind told)

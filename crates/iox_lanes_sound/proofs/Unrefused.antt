-- A domain whose ports calls left is never refused as unsound.
use Rattle.std.proofs.Common.{◌≡◌, ◌≢◌, ◌∷◌, ◌||◌, [], ℕ, Bool, true, false, not, List, Option, None, Some, refl, if◌then◌else◌}
use Rattle.std.proofs.lemmas.List.Elements.{All-cons, All-head, All-nil, All-tail}
use Rattle.std.specs.List.{All, list_any}
use Rattle.iox_domain.proofs.StayRoomy.{new_roomy, stay_roomy}
use Rattle.iox_domain.specs.Calls.{PortCall}
use Rattle.iox_domain.specs.DomainPorts.declared.publisher_port.PublisherPort.{PublisherPort}
use Rattle.iox_domain.specs.DomainValues.declared.backpressure.BackpressureDecision.{BackpressureDecision}
use Rattle.iox_domain.specs.DomainValues.declared.backpressure.BackpressureInfo.{BackpressureInfo}
use Rattle.iox_domain.specs.DomainValues.declared.data_segment.AllocationStrategy.{AllocationStrategy}
use Rattle.iox_domain.specs.DomainValues.declared.data_segment.AllocationStrategy.TheVariants as strategy
use Rattle.iox_domain.specs.DomainValues.declared.degradation.DegradationAction.{DegradationAction}
use Rattle.iox_domain.specs.DomainValues.declared.degradation.DegradationInfo.{DegradationInfo}
use Rattle.iox_domain.specs.Order.{Happen}
use Rattle.iox_domain.specs.Ports.{no_ports}
use Rattle.iox_domain.specs.Roomy.{AreRoomy}
use Rattle.iox_domain.specs.declared.domain.Domain.{Domain}
use Rattle.iox_domain.specs.declared.ports.service_ports.ServicePorts.{ServicePorts}
use Rattle.iox_lanes_opening.specs.Deciding.{has_handlers, is_retrying}
use Rattle.iox_lanes_opening.specs.Lingering.{is_lingering}
use Rattle.iox_lanes_opening.specs.Refusals.{first_reason, has_growing, is_blocked, may_grow}
use Rattle.iox_lanes_opening.specs.Sequences.{has_too_large}
use Rattle.iox_lanes_opening.specs.Slices.{has_slices}
use Rattle.iox_lanes_opening.specs.Soundness.{is_unsound}
use Rattle.iox_lanes_opening.specs.UpToDate.{is_up_to_date}
use Rattle.iox_lanes_opening.specs.declared.refusals.into_lanes_error.IntoLanesError.{IntoLanesError}
use Rattle.iox_lanes_opening.specs.declared.refusals.into_lanes_error.IntoLanesError.TheVariants as reason
use Rattle.iox_lanes_sound.proofs.KeptCalls.{begins, goes_on, stay_to_one}
use Rattle.iox_lanes_sound.proofs.Sound as sound
use Rattle.iox_lanes_sound.specs.Keeping.{CallsKeepToOne, IsKeptToOne, KeepToOneIfStatic, KeepsToOneIfStatic, NeverUnsound}
use Rattle.iox_lanes_sound.specs.Standing.{AllKeepToOne, KeepsToOne}

-- room that doesn't grow is static
is_static : (allocation : AllocationStrategy) → may_grow allocation ≡ false → allocation ≡ strategy.Static
is_static strategy.BestFit is = absurd (cc is)
is_static strategy.PowerOfTwo is = absurd (cc is)
is_static strategy.Static is = refl

neither : (a b : Bool) → a || b ≡ false → (a ≡ false) × (b ≡ false)
neither true b is = absurd (cc is)
neither false b is = (refl, is)

module _ {T U : Type 0} where
  each_to_one : (publishers : List (ℕ × PublisherPort T U)) → list_any (λ entry. may_grow entry.1.allocation) publishers ≡ false
      → All IsKeptToOne publishers → All (λ (entry : ℕ × PublisherPort T U). KeepsToOne entry.1) publishers
  each_to_one [] none all = All-nil (λ (entry : ℕ × PublisherPort T U). KeepsToOne entry.1)
  each_to_one (one ∷ rest) none all =
      let (here, later) = neither (may_grow one.1.allocation)
      (list_any (λ (entry : ℕ × PublisherPort T U). may_grow entry.1.allocation) rest) none in
      let kept : KeepsToOneIfStatic one.1 = All-head IsKeptToOne one rest all in
      All-cons (λ (entry : ℕ × PublisherPort T U). KeepsToOne entry.1) one rest
      (record { first = kept.first (is_static one.1.allocation here); few = kept.few; some = kept.some })
      (each_to_one rest later (All-tail IsKeptToOne one rest all))

  static : (ports : ServicePorts T U) → KeepToOneIfStatic ports → has_growing ports ≡ false → AllKeepToOne ports
  static ports kept none = each_to_one ports.publishers none kept.publishers

pub calls_keep_to_one : {T U : Type 0} (overrides : ℕ → ℕ → Type 0) (may : DegradationInfo → DegradationAction → Type 0)
    (decide : BackpressureInfo → BackpressureDecision → Type 0) → CallsKeepToOne T U overrides may decide
calls_keep_to_one overrides may decide = record {
  begins = begins;
  goes_on = goes_on overrides may decide;
  stays = λ service sizes calls new some happen. stay_to_one overrides may decide calls (no_ports service sizes) new happen
      (begins service sizes (no_ports service sizes) some refl);
  static = static;
}

-- the ports of calls are in order
rooms_stay : {T U : Type 0} (overrides : ℕ → ℕ → Type 0) (may : DegradationInfo → DegradationAction → Type 0)
    (decide : BackpressureInfo → BackpressureDecision → Type 0) (calls : List (PortCall T U × ServicePorts T U))
    (old new : ServicePorts T U) → Happen overrides may decide calls old new → AreRoomy old → AreRoomy new
rooms_stay overrides may decide [] old new happen roomy = rw happen roomy
rooms_stay overrides may decide ((call, next) ∷ calls) old new happen roomy =
    rooms_stay overrides may decide calls next new happen.1 (stay_roomy overrides may decide call old next happen.0 roomy)

-- another reason than the one that is told doesn't apply
passed : (test : Bool) (one told : IntoLanesError) (rest : Option IntoLanesError) → one ≢ told
    → (if test then Some one else rest) ≡ Some told → (test ≡ false) × (rest ≡ Some told)
passed true one told rest apart is = absurd (apart (cc is))
passed false one told rest apart is = (refl, is)

passed_not : (test : Bool) (one told : IntoLanesError) (rest : Option IntoLanesError) → one ≢ told
    → (if not test then Some one else rest) ≡ Some told → rest ≡ Some told
passed_not false one told rest apart is = absurd (apart (cc is))
passed_not true one told rest apart is = is

-- nor does one that isn't so
never_told : (test large : Bool) → test ≡ false
    → (if test then Some reason.Unsound else if large then Some reason.SequenceTooLarge else None) ≡ Some reason.Unsound → ⊥
never_told true large not_so is = cc not_so
never_told false true not_so is = cc is
never_told false false not_so is = cc is

module _ {T U B D : Type 0} (decision : B → Option BackpressureDecision) (asks : D → Bool)
    (domain : Domain T U B D) where
  abbrev ports : ServicePorts T U
  ports = domain.state.ports

  -- where that is the reason the ports aren't sound, though no room grows and nothing lingers
  told_unsound : (has_growing ports ≡ false → is_lingering ports ≡ false → is_unsound ports ≡ false)
      → first_reason decision asks domain ≡ Some reason.Unsound → ⊥
  told_unsound so told =
      let unblocked = passed (is_blocked ports) reason.Blocked reason.Unsound _ (λ same. cc same) told in
      let current = passed_not (is_up_to_date ports) reason.ConnectionsNotUpToDate reason.Unsound _ (λ same. cc same) unblocked.1 in
      let growing = passed (has_growing ports) reason.NotStatic reason.Unsound _ (λ same. cc same) current in
      let handled = passed (has_handlers decision asks domain) reason.HasHandlers reason.Unsound _ (λ same. cc same) growing.1 in
      let retrying = passed (is_retrying decision domain) reason.Retrying reason.Unsound _ (λ same. cc same) handled.1 in
      let lingering = passed (is_lingering ports) reason.Lingering reason.Unsound _ (λ same. cc same) retrying.1 in
      let sliced = passed (has_slices domain) reason.HasSlices reason.Unsound _ (λ same. cc same) lingering.1 in
      never_told (is_unsound ports) (has_too_large ports) (so growing.0 lingering.0) sliced.1

  pub never_unsound : (overrides : ℕ → ℕ → Type 0) (may : DegradationInfo → DegradationAction → Type 0)
      (decide : BackpressureInfo → BackpressureDecision → Type 0) → NeverUnsound decision asks overrides may decide domain
  never_unsound overrides may decide = λ service sizes calls names lent held buffer machine some happen stands told.
      let kept : KeepToOneIfStatic ports =
      stay_to_one overrides may decide calls (no_ports service sizes) ports happen
      (begins service sizes (no_ports service sizes) some refl) in
      let roomy : AreRoomy ports =
      rooms_stay overrides may decide calls (no_ports service sizes) ports happen (new_roomy overrides may decide service sizes) in
      told_unsound (λ none quiet.
      sound.standing_ports_are_sound names lent held buffer ports machine stands roomy quiet (static ports kept none)) told

-- An update of a publisher leaves what it keeps, and its connections such that one may wait at each; and so does a send.
use Rattle.std.proofs.Common.{arith, ◌≡◌, ◌+◌, ◌-◌, ◌<◌, ◌==◌, ◌∷◌, [], ℕ, zero, suc, Bool, true, false, List, get_or, length, min, Option}
use Rattle.std.proofs.Common.{None, Some, Result, Ok, Err, refl, ◌∙◌}
use Rattle.std.specs.declared.alloc.AllocError.{AllocError}
use Rattle.iox_domain.proofs.WellKept.{told_same}
use Rattle.iox_domain.specs.Container.declared.container.Member.{Member}
use Rattle.iox_domain.specs.DomainPorts.Ports.{connection_to}
use Rattle.iox_domain.specs.DomainPorts.PublisherUpdating.{Follows, FollowsAll, FollowsTo, Ties, Updates, UpdatesIf, is_tie_to, let_go_of}
use Rattle.iox_domain.specs.DomainPorts.PublisherUpdating.{tied, untied, untied_from, within_reach}
use Rattle.iox_domain.specs.DomainPorts.Sending.{Sends, SendsIf, SendsStanding, dropped_at, ready_loan}
use Rattle.iox_domain.specs.DomainPorts.Ties.{tie_put}
use Rattle.iox_domain.specs.DomainPorts.declared.meeting.Sent.{Sent}
use Rattle.iox_domain.specs.DomainPorts.declared.publisher_port.PublisherPort.{PublisherPort}
use Rattle.iox_domain.specs.DomainPorts.declared.subscriber_entry.SubscriberEntry.{SubscriberEntry}
use Rattle.iox_domain.specs.DomainValues.Sequences.{is_used_up}
use Rattle.iox_domain.specs.DomainValues.declared.backpressure.BackpressureDecision.{BackpressureDecision}
use Rattle.iox_domain.specs.DomainValues.declared.backpressure.BackpressureInfo.{BackpressureInfo}
use Rattle.iox_domain.specs.DomainValues.declared.connection_failure.ConnectionFailure.{ConnectionFailure}
use Rattle.iox_domain.specs.DomainValues.declared.degradation.DegradationAction.{DegradationAction}
use Rattle.iox_domain.specs.DomainValues.declared.degradation.DegradationInfo.{DegradationInfo}
use Rattle.iox_domain.specs.DomainValues.declared.port_error.SendError.{SendError}
use Rattle.iox_domain.specs.PortsPublishing as publishing
use Rattle.iox_domain.specs.PortsPublishing.{SendsOne, UpdatesOne, is_free}
use Rattle.iox_domain.specs.Rolls.{IsListOf, RollState}
use Rattle.iox_lanes_sound.proofs.Kept.{Keeps, keeps_dropped, keeps_ended, keeps_is, keeps_joins, keeps_on, keeps_sends_after, keeps_stays}
use Rattle.iox_lanes_sound.proofs.Kept.{keeps_still, keeps_to, keeps_welcomed}

-- for each subscriber that is listed one may wait
abbrev pub AllMayWait : List (Option (Member SubscriberEntry)) → Type 0
AllMayWait places = (place : ℕ) (member : Member SubscriberEntry) → get_or places place None ≡ Some member → 0 < member.value.buffer_size

-- what is listed, by how the list is told
told_may_wait : (list : RollState SubscriberEntry) (listed : List (Option (Member SubscriberEntry))) → IsListOf listed list
    → AllMayWait list.places → AllMayWait listed
told_may_wait list listed is some place member there = some place member (told_same listed list is place ∙ there)

module _ {T U : Type 0} where
  -- a place is untied
  keeps_let_go : (place : ℕ) (tie : Option ℕ) (port : PublisherPort T U) → Keeps port (let_go_of place tie port)
  keeps_let_go place None port = keeps_stays port
  keeps_let_go place (Some index) port =
      let gone : PublisherPort T U = record port { ties = tie_put place None port.ties } in
      keeps_on port gone _ (keeps_still port gone refl refl) (keeps_ended index gone)

  keeps_untied : (place : ℕ) (port : PublisherPort T U) → Keeps port (untied place port)
  keeps_untied place port = keeps_let_go place (get_or port.ties.items place None) port

  keeps_untied_from : (count place : ℕ) (port : PublisherPort T U) → Keeps port (untied_from count place port)
  keeps_untied_from zero place port = keeps_stays port
  keeps_untied_from (suc count) place port =
      keeps_on port (untied place port) _ (keeps_untied place port) (keeps_untied_from count (place + 1) (untied place port))

  -- a place is tied, or followed
  keeps_ties : (place : ℕ) (entry : SubscriberEntry) (old new : PublisherPort T U) (outcome : Result (Unit {0}) AllocError)
      → 0 < entry.buffer_size → Ties place entry old outcome new → Keeps old new
  keeps_ties place entry old new (Err error) some ties = keeps_is old new ties.1
  keeps_ties place entry old new (Ok done) some ties =
      let (index, joined, joins, is) = ties in
      let given : PublisherPort T U = record joined { ties = tie_put place (Some index) joined.ties } in
      keeps_on old (within_reach place old) new (keeps_still old (within_reach place old) refl refl)
      (keeps_on (within_reach place old) joined new
      (keeps_joins entry.subscriber (min entry.buffer_size old.sender.uses.most_waiting) index (connection_to entry.subscriber old)
      (within_reach place old) joined (λ kept. omega (arith, some, kept.room)) joins)
      (keeps_to joined (tied place index joined) new is
      (keeps_on joined given _ (keeps_still joined given refl refl) (keeps_welcomed index given))))

  keeps_follows_to : (place : ℕ) (entry : SubscriberEntry) (is_tie : Bool) (old new : PublisherPort T U)
      (outcome : Result (Unit {0}) AllocError) → 0 < entry.buffer_size → FollowsTo place entry is_tie old outcome new → Keeps old new
  keeps_follows_to place entry true old new outcome some follows = keeps_is old new follows.1
  keeps_follows_to place entry false old new outcome some follows =
      keeps_on old (untied place old) new (keeps_untied place old) (keeps_ties place entry (untied place old) new outcome some follows)

  keeps_follows : (place : ℕ) (item : Option (Member SubscriberEntry)) (old new : PublisherPort T U)
      (outcome : Result (Unit {0}) AllocError) → ((member : Member SubscriberEntry) → item ≡ Some member → 0 < member.value.buffer_size)
      → Follows place item old outcome new → Keeps old new
  keeps_follows place None old new outcome some follows = keeps_to old (untied place old) new follows.1 (keeps_untied place old)
  keeps_follows place (Some member) old new outcome some follows =
      keeps_follows_to place member.value (is_tie_to member.value.subscriber (get_or old.ties.items place None) old) old new outcome
      (some member refl) follows

  keeps_follows_all : (may : DegradationInfo → DegradationAction → Type 0) (place : ℕ)
      (listed : List (Option (Member SubscriberEntry))) (found : Option ConnectionFailure) (old new : PublisherPort T U)
      (answer : Result (Unit {0}) ConnectionFailure) → AllMayWait listed → FollowsAll may place listed found old answer new
      → Keeps old new
  keeps_follows_all may place [] found old new answer some follows =
      keeps_to old _ new follows.1 (keeps_untied_from (length old.ties.items - place) place old)
  keeps_follows_all may place (item ∷ rest) found old new answer some follows =
      let (outcome, next, after, one, asks, further) = follows in
      keeps_on old next new (keeps_follows place item old next outcome (some zero) one)
      (keeps_follows_all may (place + 1) rest after next new answer (λ k. some (suc k)) further)

  -- an update
  keeps_updates_if : (seen : Bool) (may : DegradationInfo → DegradationAction → Type 0) (listed : List (Option (Member SubscriberEntry)))
      (changes : ℕ) (old new : PublisherPort T U) (answer : Result (Unit {0}) ConnectionFailure) → AllMayWait listed
      → UpdatesIf seen may listed changes old answer new → Keeps old new
  keeps_updates_if true may listed changes old new answer some updates = keeps_is old new updates.1
  keeps_updates_if false may listed changes old new answer some updates =
      let begun : PublisherPort T U = record old { seen = changes } in
      keeps_on old begun new (keeps_still old begun refl refl) (keeps_follows_all may 0 listed None begun new answer some updates)

  pub keeps_updates : (list : RollState SubscriberEntry) (may : DegradationInfo → DegradationAction → Type 0)
      (listed : List (Option (Member SubscriberEntry))) (old new : PublisherPort T U) (answer : Result (Unit {0}) ConnectionFailure)
      → AllMayWait list.places → IsListOf listed list → Updates may listed list.changes old answer new → Keeps old new
  keeps_updates list may listed old new answer some is updates =
      keeps_updates_if (old.seen == list.changes) may listed list.changes old new answer (told_may_wait list listed is some) updates

  keeps_updates_by : (list : RollState SubscriberEntry) (free : Bool) (may : DegradationInfo → DegradationAction → Type 0)
      (old new : PublisherPort T U) (answer : Option (Result (Unit {0}) ConnectionFailure)) → AllMayWait list.places
      → publishing.UpdatesIf free may list old answer new → Keeps old new
  keeps_updates_by list false may old new answer some updates = keeps_is old new updates.1
  keeps_updates_by list true may old new answer some updates =
      keeps_updates list may updates.0 old new updates.2 some updates.1 updates.3

  pub keeps_updates_one : (list : RollState SubscriberEntry) (may : DegradationInfo → DegradationAction → Type 0)
      (old new : PublisherPort T U) (answer : Option (Result (Unit {0}) ConnectionFailure)) → AllMayWait list.places
      → UpdatesOne may list old answer new → Keeps old new
  keeps_updates_one list may old new answer some updates = keeps_updates_by list (is_free old) may old new answer some updates

  -- a send
  keeps_sends_standing : (list : RollState SubscriberEntry) (used : Bool) (may_degrade : DegradationInfo → DegradationAction → Type 0)
      (may : BackpressureInfo → BackpressureDecision → Type 0) (listed : List (Option (Member SubscriberEntry))) (at : ℕ)
      (old new : PublisherPort T U) (answer : Option (Result Sent SendError)) → AllMayWait list.places → IsListOf listed list
      → SendsStanding used may_degrade may listed list.changes at old answer new → Keeps old new
  keeps_sends_standing list true may_degrade may listed at old new answer some is sends =
      keeps_to old (dropped_at at old) new sends.1 (keeps_dropped at old)
  keeps_sends_standing list false may_degrade may listed at old new answer some is sends =
      let (outcome, updated, updates, after) = sends in
      keeps_on old updated new (keeps_updates list may_degrade listed old updated outcome some is updates)
      (keeps_sends_after may at outcome updated new answer after)

  keeps_sends_if : (list : RollState SubscriberEntry) (stands : Bool) (may_degrade : DegradationInfo → DegradationAction → Type 0)
      (may : BackpressureInfo → BackpressureDecision → Type 0) (listed : List (Option (Member SubscriberEntry))) (at : ℕ)
      (old new : PublisherPort T U) (answer : Option (Result Sent SendError)) → AllMayWait list.places → IsListOf listed list
      → SendsIf stands may_degrade may listed list.changes at old answer new → Keeps old new
  keeps_sends_if list false may_degrade may listed at old new answer some is sends =
      keeps_to old (dropped_at at old) new sends.1 (keeps_dropped at old)
  keeps_sends_if list true may_degrade may listed at old new answer some is sends =
      keeps_sends_standing list (is_used_up old.last_sequence) may_degrade may listed at old new answer some is sends

  keeps_sends : (list : RollState SubscriberEntry) (ready : Option ℕ) (may_degrade : DegradationInfo → DegradationAction → Type 0)
      (may : BackpressureInfo → BackpressureDecision → Type 0) (listed : List (Option (Member SubscriberEntry)))
      (old new : PublisherPort T U) (answer : Option (Result Sent SendError)) → AllMayWait list.places → IsListOf listed list
      → Sends may_degrade may listed list.changes ready old answer new → Keeps old new
  keeps_sends list None may_degrade may listed old new answer some is sends = keeps_is old new sends.1
  keeps_sends list (Some at) may_degrade may listed old new answer some is sends =
      keeps_sends_if list old.stands may_degrade may listed at old new answer some is sends

  pub keeps_sends_one : (list : RollState SubscriberEntry) (may_degrade : DegradationInfo → DegradationAction → Type 0)
      (may : BackpressureInfo → BackpressureDecision → Type 0) (slot : ℕ) (old new : PublisherPort T U)
      (answer : Option (Result Sent SendError)) → AllMayWait list.places → SendsOne may_degrade may list slot old answer new
      → Keeps old new
  keeps_sends_one list may_degrade may slot old new answer some sends =
      keeps_sends list (ready_loan slot old) may_degrade may sends.0 old new answer some sends.1 sends.2

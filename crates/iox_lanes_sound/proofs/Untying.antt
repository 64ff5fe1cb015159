-- A publisher that follows the list of subscribers has no tie left to a place that lists nobody.
use Rattle.std.proofs.Common.{arith, ◌≡◌, ◌≢◌, ◌+◌, ◌-◌, ◌<◌, ◌≤◌, ◌==◌, ◌∷◌, [], ℕ, zero, suc, Bool, true, false, List, get_or, length}
use Rattle.std.proofs.Common.{min, set, is_some, Option, None, Some, Result, Ok, Err, refl, sym, ap, ◌∙◌, inl, inr}
use Rattle.std.proofs.lemmas.Bool.{cases_eq, cases_lt}
use Rattle.std.proofs.lemmas.List.{get_or-set_other, get_or_past}
use Rattle.std.specs.declared.alloc.AllocError.{AllocError}
use Rattle.iox_domain.proofs.TiedWell.{gone_there, still_there}
use Rattle.iox_domain.proofs.WellKept.{told_same}
use Rattle.iox_domain.specs.Container.declared.container.Member.{Member}
use Rattle.iox_domain.specs.DomainPorts.Places.{reached}
use Rattle.iox_domain.specs.DomainPorts.Ports.{connection_to, ended_at}
use Rattle.iox_domain.specs.DomainPorts.PublisherUpdating.{Follows, FollowsAll, FollowsTo, Ties, Updates, UpdatesIf, is_tie_to, let_go_of}
use Rattle.iox_domain.specs.DomainPorts.PublisherUpdating.{untied, untied_from, within_reach}
use Rattle.iox_domain.specs.DomainPorts.Sending.{Sends, SendsIf, SendsStanding, ready_loan}
use Rattle.iox_domain.specs.DomainPorts.Ties.{TiesState, tie_put}
use Rattle.iox_domain.specs.DomainPorts.declared.meeting.Sent.{Sent}
use Rattle.iox_domain.specs.DomainPorts.declared.publisher_port.PublisherPort.{PublisherPort}
use Rattle.iox_domain.specs.DomainPorts.declared.subscriber_entry.SubscriberEntry.{SubscriberEntry}
use Rattle.iox_domain.specs.DomainValues.Sequences.{is_used_up}
use Rattle.iox_domain.specs.DomainValues.declared.backpressure.BackpressureDecision.{BackpressureDecision}
use Rattle.iox_domain.specs.DomainValues.declared.backpressure.BackpressureInfo.{BackpressureInfo}
use Rattle.iox_domain.specs.DomainValues.declared.connection_failure.ConnectionFailure.{ConnectionFailure}
use Rattle.iox_domain.specs.DomainValues.declared.degradation.DegradationAction.{DegradationAction}
use Rattle.iox_domain.specs.DomainValues.declared.degradation.DegradationInfo.{DegradationInfo}
use Rattle.iox_domain.specs.DomainValues.declared.port_error.SendError.{SendError}
use Rattle.iox_domain.specs.PortsPublishing as publishing
use Rattle.iox_domain.specs.PortsPublishing.{SendsOne, UpdatesOne, is_free}
use Rattle.iox_domain.specs.Rolls.{IsListOf, RollState, is_listed}
use Rattle.iox_lanes_sound.proofs.Unfollowing.{ended_stays, followed, joins_stays, sends_after_stay, welcomed_stays}
use Rattle.iox_lanes_sound.specs.Strays.{IsWithoutStrays}

module _ {T U : Type 0} where
  -- What was tied after a step was so before, and isn't one of the places that the step untied.
  record Unties (first count : ℕ) (old new : PublisherPort T U) : Type 0 where
    seen : new.seen ≡ old.seen
    tied : (place index : ℕ) → get_or new.ties.items place None ≡ Some index → get_or old.ties.items place None ≡ Some index
    past : (place index : ℕ) → get_or new.ties.items place None ≡ Some index → first ≤ place → first + count ≤ place

  -- a place is untied
  unties_by : (place : ℕ) (tie : Option ℕ) (port : PublisherPort T U) → get_or port.ties.items place None ≡ tie
      → Unties place 1 port (let_go_of place tie port)
  unties_by place None port is = record {
    seen = refl;
    tied = λ other index there. there;
    past = λ other index there from. elim (cases_eq other place) [
      | inl same ↦ let no : None ≡ Some index = sym is ∙ ap (λ at. get_or port.ties.items at None) (sym same) ∙ there in absurd (cc)
      | inr not ↦ omega (arith, from, not)
    ];
  }
  unties_by place (Some index) port is =
      let gone : PublisherPort T U = record port { ties = tie_put place None port.ties } in
      let same : followed (ended_at index gone) ≡ followed gone = ended_stays index gone in
      let items : (ended_at index gone).ties.items ≡ set port.ties.items place None = ap (λ (f : ℕ × TiesState). f.1.items) same in
      let apart : (other at : ℕ) → get_or (ended_at index gone).ties.items other None ≡ Some at → other ≢ place = λ other at there here.
      let no : None ≡ Some at = sym (gone_there port.ties.items place)
      ∙ ap (λ n. get_or (set port.ties.items place None) n None) (sym here) ∙ ap (λ all. get_or all other None) (sym items) ∙ there in
      cc in
      record {
        seen = ap (λ (f : ℕ × TiesState). f.0) same;
        tied = λ other at there. sym (get_or-set_other port.ties.items place other None None (apart other at there))
            ∙ ap (λ all. get_or all other None) (sym items) ∙ there;
        past = λ other at there from. omega (arith, from, apart other at there);
      }

  unties : (place : ℕ) (port : PublisherPort T U) → Unties place 1 port (untied place port)
  unties place port = unties_by place (get_or port.ties.items place None) port refl

  unties_from : (count place : ℕ) (port : PublisherPort T U) → Unties place count port (untied_from count place port)
  unties_from zero place port = record {
    seen = refl;
    tied = λ other index there. there;
    past = λ other index there from. omega (arith, from);
  }
  unties_from (suc count) place port =
      let one : Unties place 1 port (untied place port) = unties place port in
      let more : Unties (place + 1) count (untied place port) (untied_from count (place + 1) (untied place port))
      = unties_from count (place + 1) (untied place port) in
      record {
        seen = more.seen ∙ one.seen;
        tied = λ other index there. one.tied other index (more.tied other index there);
        past = λ other index there from.
            let beyond : place + 1 + count ≤ other
            = more.past other index there (one.past other index (more.tied other index there) from) in
            omega (arith, beyond);
      }

  -- What became of a place that lists nobody, or somebody: other places are tied only where they were, and it is only where it lists
  -- somebody.
  record FollowedAt (first : ℕ) (item : Option (Member SubscriberEntry)) (old new : PublisherPort T U) : Type 0 where
    seen : new.seen ≡ old.seen
    others : (place index : ℕ) → place ≢ first → get_or new.ties.items place None ≡ Some index
        → get_or old.ties.items place None ≡ Some index
    here : (index : ℕ) → get_or new.ties.items first None ≡ Some index → is_some item ≡ true

  untied_is : (first : ℕ) (item : Option (Member SubscriberEntry)) (old new : PublisherPort T U) → new ≡ untied first old
      → FollowedAt first item old new
  untied_is first item old new is =
      let one : Unties first 1 old (untied first old) = unties first old in
      let before : (place index : ℕ) → get_or new.ties.items place None ≡ Some index
      → get_or (untied first old).ties.items place None ≡ Some index
      = λ place index there. ap (λ (port : PublisherPort T U). get_or port.ties.items place None) (sym is) ∙ there in
      record {
        seen = ap (λ (port : PublisherPort T U). port.seen) is ∙ one.seen;
        others = λ place index not there. one.tied place index (before place index there);
        here = λ index there. absurd (omega (arith, one.past first index (before first index there) (omega arith)));
      }

  ties_followed : (first : ℕ) (member : Member SubscriberEntry) (old new : PublisherPort T U) (outcome : Result (Unit {0}) AllocError)
      → Ties first member.value (untied first old) outcome new → FollowedAt first (Some member) old new
  ties_followed first member old new (Err error) ties = untied_is first (Some member) old new ties.1
  ties_followed first member old new (Ok done) ties =
      let (index, joined, joins, is) = ties in
      let freed : PublisherPort T U = untied first old in
      let one : Unties first 1 old freed = unties first old in
      let given : PublisherPort T U = record joined { ties = tie_put first (Some index) joined.ties } in
      let joined_is : followed joined ≡ followed (within_reach first freed)
      = joins_stays member.value.subscriber (min member.value.buffer_size freed.sender.uses.most_waiting) index
      (connection_to member.value.subscriber freed) (within_reach first freed) joined joins in
      let new_is : followed new ≡ followed given = ap followed is ∙ welcomed_stays index given in
      let items : new.ties.items ≡ set (reached (first + 1) freed.ties.items) first (Some index)
      = ap (λ (f : ℕ × TiesState). f.1.items) new_is
      ∙ ap (λ (f : ℕ × TiesState). set f.1.items first (Some index)) joined_is in
      record {
        seen = ap (λ (f : ℕ × TiesState). f.0) new_is ∙ ap (λ (f : ℕ × TiesState). f.0) joined_is ∙ one.seen;
        others = λ place at not there. one.tied place at
            (sym (ap (λ all. get_or all place None) items
            ∙ get_or-set_other (reached (first + 1) freed.ties.items) first place (Some index) None not
            ∙ still_there freed.ties.items (first + 1 - length freed.ties.items) place) ∙ there);
        here = λ at there. refl;
      }

  follows_to : (first : ℕ) (member : Member SubscriberEntry) (is_tie : Bool) (old new : PublisherPort T U)
      (outcome : Result (Unit {0}) AllocError) → FollowsTo first member.value is_tie old outcome new
      → FollowedAt first (Some member) old new
  follows_to first member true old new outcome follows = record {
    seen = ap (λ (port : PublisherPort T U). port.seen) follows.1;
    others = λ place index not there. ap (λ (port : PublisherPort T U). get_or port.ties.items place None) (sym follows.1) ∙ there;
    here = λ index there. refl;
  }
  follows_to first member false old new outcome follows = ties_followed first member old new outcome follows

  follows_at : (first : ℕ) (item : Option (Member SubscriberEntry)) (old new : PublisherPort T U) (outcome : Result (Unit {0}) AllocError)
      → Follows first item old outcome new → FollowedAt first item old new
  follows_at first None old new outcome follows = untied_is first None old new follows.1
  follows_at first (Some member) old new outcome follows =
      follows_to first member (is_tie_to member.value.subscriber (get_or old.ties.items first None) old) old new outcome follows

  -- each place that is tied lists somebody
  abbrev AllListed : RollState SubscriberEntry → PublisherPort T U → Type 0
  AllListed list port = (place index : ℕ) → get_or port.ties.items place None ≡ Some index → is_listed place list ≡ true

  -- all places are followed, and those after the end of the list
  follows_all : (list : RollState SubscriberEntry) (may : DegradationInfo → DegradationAction → Type 0) (first : ℕ)
      (listed : List (Option (Member SubscriberEntry))) (found : Option ConnectionFailure) (old new : PublisherPort T U)
      (answer : Result (Unit {0}) ConnectionFailure)
      → ((k : ℕ) → get_or list.places (first + k) None ≡ get_or listed k None)
      → ((place index : ℕ) → place < first → get_or old.ties.items place None ≡ Some index → is_listed place list ≡ true)
      → FollowsAll may first listed found old answer new → (new.seen ≡ old.seen) × AllListed list new
  follows_all list may first [] found old new answer same before follows =
      let gone : Unties first (length old.ties.items - first) old (untied_from (length old.ties.items - first) first old)
      = unties_from (length old.ties.items - first) first old in (
        ap (λ (port : PublisherPort T U). port.seen) follows.1 ∙ gone.seen,
        λ place index there.
            let left : get_or (untied_from (length old.ties.items - first) first old).ties.items place None ≡ Some index
            = ap (λ (port : PublisherPort T U). get_or port.ties.items place None) (sym follows.1) ∙ there in
            elim (cases_lt place first) [
              | inl within ↦ before place index within (gone.tied place index left)
              | inr behind ↦
                  let beyond : first + (length old.ties.items - first) ≤ place = gone.past place index left behind in
                  let no : None ≡ Some index = sym (get_or_past old.ties.items place None (omega (arith, beyond)))
                  ∙ gone.tied place index left in
                  absurd (cc)
            ],
      )
  follows_all list may first (item ∷ rest) found old new answer same before follows =
      let (outcome, between, after, one, asks, further) = follows in
      let at : get_or list.places first None ≡ item = ap (λ n. get_or list.places n None) (omega arith) ∙ same zero in
      let step : FollowedAt first item old between = follows_at first item old between outcome one in
      let more = follows_all list may (first + 1) rest after between new answer
      (λ k. ap (λ n. get_or list.places n None) (omega arith) ∙ same (suc k))
      (λ place index within there. elim (cases_eq place first) [
        | inl here ↦
            ap (λ n. is_listed n list) here ∙ ap (λ (o : Option (Member SubscriberEntry)). is_some o) at
            ∙ step.here index (ap (λ n. get_or between.ties.items n None) (sym here) ∙ there)
        | inr not ↦ before place index (omega (arith, within, not)) (step.others place index not there)
      ]) further in
      (more.0 ∙ step.seen, more.1)

  -- a publisher has no stray tie after a step if it had none before
  abbrev pub Goes : RollState SubscriberEntry → PublisherPort T U → PublisherPort T U → Type 0
  Goes list old new = IsWithoutStrays list old → IsWithoutStrays list new

  pub goes_same : (list : RollState SubscriberEntry) (old new : PublisherPort T U) → followed new ≡ followed old → Goes list old new
  goes_same list old new same without = record {
    seen = omega (arith, without.seen, ap (λ (f : ℕ × TiesState). f.0) same);
    listed = λ is place index there. without.listed (sym (ap (λ (f : ℕ × TiesState). f.0) same) ∙ is) place index
        (ap (λ (f : ℕ × TiesState). get_or f.1.items place None) (sym same) ∙ there);
  }

  -- an update
  goes_updates_by : (list : RollState SubscriberEntry) (seen : Bool) (may : DegradationInfo → DegradationAction → Type 0)
      (listed : List (Option (Member SubscriberEntry))) (old new : PublisherPort T U) (answer : Result (Unit {0}) ConnectionFailure)
      → IsListOf listed list → UpdatesIf seen may listed list.changes old answer new → Goes list old new
  goes_updates_by list true may listed old new answer is updates without = goes_same list old new (ap followed updates.1) without
  goes_updates_by list false may listed old new answer is updates without =
      let begun : PublisherPort T U = record old { seen = list.changes } in
      let all = follows_all list may 0 listed None begun new answer
      (λ k. ap (λ n. get_or list.places n None) (omega arith) ∙ told_same listed list is k)
      (λ place index none there. absurd (omega (arith, none))) updates in
      let seen : new.seen ≡ list.changes = all.0 in
      record { seen = omega (arith, seen); listed = λ same place index there. all.1 place index there }

  pub goes_updates : (list : RollState SubscriberEntry) (may : DegradationInfo → DegradationAction → Type 0)
      (listed : List (Option (Member SubscriberEntry))) (old new : PublisherPort T U) (answer : Result (Unit {0}) ConnectionFailure)
      → IsListOf listed list → Updates may listed list.changes old answer new → Goes list old new
  goes_updates list may listed old new answer is updates =
      goes_updates_by list (old.seen == list.changes) may listed old new answer is updates

  goes_update_by : (list : RollState SubscriberEntry) (free : Bool) (may : DegradationInfo → DegradationAction → Type 0)
      (old new : PublisherPort T U) (answer : Option (Result (Unit {0}) ConnectionFailure))
      → publishing.UpdatesIf free may list old answer new → Goes list old new
  goes_update_by list false may old new answer updates = goes_same list old new (ap followed updates.1)
  goes_update_by list true may old new answer updates = goes_updates list may updates.0 old new updates.2 updates.1 updates.3

  pub goes_updates_one : (list : RollState SubscriberEntry) (may : DegradationInfo → DegradationAction → Type 0)
      (old new : PublisherPort T U) (answer : Option (Result (Unit {0}) ConnectionFailure)) → UpdatesOne may list old answer new
      → Goes list old new
  goes_updates_one list may old new answer updates = goes_update_by list (is_free old) may old new answer updates

  -- a send
  goes_sends_standing : (list : RollState SubscriberEntry) (used : Bool) (may_degrade : DegradationInfo → DegradationAction → Type 0)
      (may : BackpressureInfo → BackpressureDecision → Type 0) (listed : List (Option (Member SubscriberEntry))) (at : ℕ)
      (old new : PublisherPort T U) (answer : Option (Result Sent SendError)) → IsListOf listed list
      → SendsStanding used may_degrade may listed list.changes at old answer new → Goes list old new
  goes_sends_standing list true may_degrade may listed at old new answer is sends without =
      goes_same list old new (ap followed sends.1) without
  goes_sends_standing list false may_degrade may listed at old new answer is sends without =
      let (outcome, updated, updates, after) = sends in
      goes_same list updated new (sends_after_stay may at outcome updated new answer after)
      (goes_updates list may_degrade listed old updated outcome is updates without)

  goes_sends_if : (list : RollState SubscriberEntry) (stands : Bool) (may_degrade : DegradationInfo → DegradationAction → Type 0)
      (may : BackpressureInfo → BackpressureDecision → Type 0) (listed : List (Option (Member SubscriberEntry))) (at : ℕ)
      (old new : PublisherPort T U) (answer : Option (Result Sent SendError)) → IsListOf listed list
      → SendsIf stands may_degrade may listed list.changes at old answer new → Goes list old new
  goes_sends_if list false may_degrade may listed at old new answer is sends = goes_same list old new (ap followed sends.1)
  goes_sends_if list true may_degrade may listed at old new answer is sends =
      goes_sends_standing list (is_used_up old.last_sequence) may_degrade may listed at old new answer is sends

  goes_sends : (list : RollState SubscriberEntry) (ready : Option ℕ) (may_degrade : DegradationInfo → DegradationAction → Type 0)
      (may : BackpressureInfo → BackpressureDecision → Type 0) (listed : List (Option (Member SubscriberEntry)))
      (old new : PublisherPort T U) (answer : Option (Result Sent SendError)) → IsListOf listed list
      → Sends may_degrade may listed list.changes ready old answer new → Goes list old new
  goes_sends list None may_degrade may listed old new answer is sends = goes_same list old new (ap followed sends.1)
  goes_sends list (Some at) may_degrade may listed old new answer is sends =
      goes_sends_if list old.stands may_degrade may listed at old new answer is sends

  pub goes_sends_one : (list : RollState SubscriberEntry) (may_degrade : DegradationInfo → DegradationAction → Type 0)
      (may : BackpressureInfo → BackpressureDecision → Type 0) (slot : ℕ) (old new : PublisherPort T U)
      (answer : Option (Result Sent SendError)) → SendsOne may_degrade may list slot old answer new → Goes list old new
  goes_sends_one list may_degrade may slot old new answer sends =
      goes_sends list (ready_loan slot old) may_degrade may sends.0 old new answer sends.1 sends.2

-- A read and a release of a sample that no other call overlaps.
use Rattle.std.proofs.Common.{ℕ, ◌≡◌, ◌+◌, ◌-◌, ◌≤◌, ◌^◌, Bool, true, false, nat_lt, if◌then◌else◌, List, [], ◌∷◌, ◌++◌, length, set}
use Rattle.std.proofs.Common.{get_or, Option, Some, None, refl, sym, ◌∙◌, ap, subst, arith, append-nil}
use Rattle.std.proofs.lemmas.Bool.{ltb-true, ltb-false}
use Rattle.std.proofs.lemmas.List.{get_or_past, get_or-set_same}
use Rattle.iox_lanes_machine.specs.QueuesSteps.Access.{successor}
use Rattle.iox_lanes_machine.specs.QueuesSteps.declared.order.PushAnswer.TheVariants.{Refused}
use Rattle.iox_lanes_machine.specs.QueuesSteps.declared.schedule.Stepped.TheVariants as stepped
use Rattle.iox_lanes_machine.specs.QueuesSteps.Refusing as refusing
use Rattle.iox_lanes_machine.specs.QueuesSteps.declared.rings.refusing.push.Push.{Push}
use Rattle.iox_lanes_machine.specs.QueuesSteps.declared.rings.refusing.push.Push.TheVariants as push
use Rattle.iox_lanes_machine.specs.LanesBase.Table.{TableWords, shared_answer, after_shared}
use Rattle.iox_lanes_machine.specs.LanesBase.Answers.{refusing_push_answer}
use Rattle.iox_lanes_machine.specs.LanesBase.Subscribing.{subscriber_is_idle, subscriber_is_over, subscriber_next, subscriber_take}
use Rattle.iox_lanes_machine.specs.LanesBase.Subscribing.{subscriber_change, given_back_by, read_at, released}
use Rattle.iox_lanes_machine.specs.LanesBase.declared.calls.route.Route.{Route}
use Rattle.iox_lanes_machine.specs.LanesBase.declared.calls.subscriber.SlotExtent.{SlotExtent}
use Rattle.iox_lanes_machine.specs.LanesBase.declared.calls.subscriber.SubscriberCall.{SubscriberCall}
use Rattle.iox_lanes_machine.specs.LanesBase.declared.calls.subscriber.SubscriberCall.TheVariants as subscribing
use Rattle.iox_lanes_machine.specs.LanesParties.Parties.{SubscriberLaneState, subscriber_may, subscriber_answer, release_begun, is_route}
use Rattle.iox_lanes_machine.specs.LanesParties.Parties.{place_of, route_at, words_read}
use Rattle.iox_lanes_machine.specs.LanesParties.declared.call.Answer.TheVariants as answer
use Rattle.iox_lanes_machine.specs.LanesParties.declared.call.Call.TheVariants as call
use Rattle.iox_lanes_machine.specs.LanesParties.declared.call.CallName.TheVariants as name
use Rattle.iox_lanes_machine.specs.LanesParties.declared.call.FinishedCall.{FinishedCall}
use Rattle.iox_lanes_machine.specs.LanesParties.declared.call.Move.TheVariants.{GoOn}
use Rattle.iox_lanes_machine.specs.LanesParties.declared.call.Party.TheVariants.{Subscriber}
use Rattle.iox_lanes_machine.proofs.LanesParties.Rings.{and_right}
use Rattle.iox_lanes_machine.specs.LanesParties.PublisherKeeping.{put_at}
use Rattle.iox_lanes_machine.specs.LedgerRooms.{ReleasesOk}
use Rattle.iox_lanes_machine.proofs.Entries.{put_at_other}
use Rattle.iox_lanes_machine.proofs.Samples.{samples_after}
use Rattle.iox_lanes_machine.specs.Held.{slot_held}
use Rattle.iox_lanes_machine.specs.World.{World, StepsTo, subscriber_ends_at, pops_from}
use Rattle.iox_lanes_machine.proofs.Calls.{no_place, no_route}
use Rattle.iox_lanes_machine.proofs.Held.{reads_whole}
use Rattle.iox_lanes_machine.proofs.Told.{steps_told}
use Rattle.iox_lanes_laws.specs.Subscribing.{OnlySubscriber, SamplesStay, OtherSamplesStay, ReleasesInTurn, ReadsInTurn}
use Rattle.iox_lanes_laws.specs.Turns.{IsAnswered, MailStays}
use Rattle.iox_lanes_laws.proofs.Subscribers.{Keeps, next_lane, next_call, next_samples, table_is, read_is, quiet_mail, begins_is}
use Rattle.iox_lanes_laws.proofs.Subscribers.{begun_mail, WholeCall, whole, answered_by}

-- a push that gives this sample back, and has not yet
abbrev pub GivesBack : ℕ → Push → Type 0
GivesBack sample push.Idle = ⊥
GivesBack sample (push.Begun limit value) = value ≡ sample
GivesBack sample (push.SawWrite limit value write next) = value ≡ sample
GivesBack sample (push.SawRoom value write next) = value ≡ sample
GivesBack sample (push.Filled value next) = value ≡ sample
GivesBack sample (push.Pushed value answered) = ⊥

-- the sample was given back, if the release is to say so
abbrev pub WasGiven : SubscriberLaneState → ℕ → SubscriberLaneState → Bool → Type 0
WasGiven before sample lane true = lane.port.samples ≡ put_at before.port.samples sample None
WasGiven before sample lane false = Unit {0}

-- what a release leaves up to where it stands
abbrev pub ReleaseSince : SubscriberLaneState → ℕ → SubscriberLaneState → SubscriberCall → Type 0
ReleaseSince before sample lane subscribing.Idle = ⊥
ReleaseSince before sample lane (subscribing.Receiving place route p waits) = ⊥
ReleaseSince before sample lane (subscribing.Received given) = ⊥
ReleaseSince before sample lane (subscribing.Reading slot word extent) = ⊥
ReleaseSince before sample lane (subscribing.WasRead slot) = ⊥
ReleaseSince before sample lane (subscribing.Releasing place route p) = GivesBack sample p × (lane.port.samples ≡ before.port.samples)
ReleaseSince before sample lane (subscribing.Released done) = WasGiven before sample lane done

-- so it is of lanes
pub record Releases (m : World) (before : SubscriberLaneState) (sample : ℕ) (k : World) (lane : SubscriberLaneState) : Type 0 where
  pub mail : MailStays m k
  pub since : ReleaseSince before sample lane lane.port.call

release_quiet : (before lane : SubscriberLaneState) (sample : ℕ) (c : SubscriberCall) → ReleaseSince before sample lane c
    → pops_from c ≡ None
release_quiet before lane sample subscribing.Idle s = absurd s
release_quiet before lane sample (subscribing.Receiving place route p waits) s = absurd s
release_quiet before lane sample (subscribing.Received given) s = absurd s
release_quiet before lane sample (subscribing.Reading slot word extent) s = absurd s
release_quiet before lane sample (subscribing.WasRead slot) s = absurd s
release_quiet before lane sample (subscribing.Releasing place route p) s = refl
release_quiet before lane sample (subscribing.Released done) s = refl

-- the push makes a step
push_on : (before after : SubscriberLaneState) (sample place : ℕ) (route : Route) (p : Push) (a : ℕ) → GivesBack sample p
    → after.port.samples ≡ samples_after (given_back_by place p) before.port.samples
    → ReleaseSince before sample after (released place route (refusing.push_take p a) (refusing_push_answer (refusing.push_take p a)))
push_on before after sample place route push.Idle a g e = absurd g
push_on before after sample place route (push.Begun limit value) a g e = (g, e)
push_on before after sample place route (push.SawWrite limit value write next) a g e = by_test (nat_lt (write - a) limit)
  where
    by_test : (b : Bool) → ReleaseSince before sample after
        (released place route (if b then push.SawRoom value write next else push.Pushed value Refused)
        (refusing_push_answer (if b then push.SawRoom value write next else push.Pushed value Refused)))
    by_test true = (g, e)
    by_test false = tt
push_on before after sample place route (push.SawRoom value write next) a g e = (g, e)
push_on before after sample place route (push.Filled value next) a g e = e ∙ ap (λ (s : ℕ). put_at before.port.samples s None) g
push_on before after sample place route (push.Pushed value answered) a g e = absurd g

release_keeps : (m : World) (place : ℕ) (before : SubscriberLaneState) (sample : ℕ)
    → Keeps m place before (name.Release sample) (Releases m before sample)
release_keeps m place before sample = λ k lane a a' bound next over s. record {
  mail = λ connection. quiet_mail k place lane a.found (release_quiet before lane sample lane.port.call s.since) connection ∙ s.mail
      connection;
  since = subst (ReleaseSince before sample (next_lane k lane)) (sym (next_call k lane))
      (by_call k lane lane.port.call over s.since (next_samples k lane));
}
  where
    by_call : (k : World) (lane : SubscriberLaneState) (c : SubscriberCall) → subscriber_is_over c ≡ false
        → ReleaseSince before sample lane c
        → (next_lane k lane).port.samples ≡ samples_after (subscriber_change c (shared_answer k.table (subscriber_next c)))
        lane.port.samples
        → ReleaseSince before sample (next_lane k lane)
        (subscriber_take lane.port.routes lane.port.borrowed lane.port.most_borrowed c (shared_answer k.table (subscriber_next c)))
    by_call k lane subscribing.Idle over s e = absurd s
    by_call k lane (subscribing.Receiving at route p waits) over s e = absurd s
    by_call k lane (subscribing.Received given) over s e = absurd s
    by_call k lane (subscribing.Reading slot word extent) over s e = absurd s
    by_call k lane (subscribing.WasRead slot) over s e = absurd s
    by_call k lane (subscribing.Releasing at route p) over s e =
        push_on before (next_lane k lane) sample at route p (shared_answer k.table (subscriber_next (subscribing.Releasing at route p)))
        s.0 (e ∙ ap (λ (xs : List (Option ℕ)). samples_after (given_back_by at p) xs) s.1)
    by_call k lane (subscribing.Released done) over s e = absurd (cc over)

release_starts : (moment sample : ℕ) (at : Option ℕ) (route : Option Route) (lane : SubscriberLaneState) → (at ≡ None → ⊥)
    → (route ≡ None → ⊥) → ReleaseSince lane sample (release_begun moment sample at route lane)
    (release_begun moment sample at route lane).port.call
release_starts moment sample None route lane there is = absurd (there refl)
release_starts moment sample (Some place) None lane there is = absurd (is refl)
release_starts moment sample (Some place) (Some route) lane there is = (refl, refl)

-- where the last step of a release stands
released_stage : (before lane : SubscriberLaneState) (sample : ℕ) (c : SubscriberCall) → subscriber_is_over c ≡ true
    → ReleaseSince before sample lane c → (done : Bool) × (c ≡ subscribing.Released done) × WasGiven before sample lane done
released_stage before lane sample subscribing.Idle over s = absurd s
released_stage before lane sample (subscribing.Receiving place route p waits) over s = absurd s
released_stage before lane sample (subscribing.Received given) over s = absurd s
released_stage before lane sample (subscribing.Reading slot word extent) over s = absurd s
released_stage before lane sample (subscribing.WasRead slot) over s = absurd s
released_stage before lane sample (subscribing.Releasing place route p) over s = absurd (cc over)
released_stage before lane sample (subscribing.Released done) over s = (done, refl, s)

-- nothing stands where nothing was put
none_put : (xs : List (Option ℕ)) (at : ℕ) → get_or (put_at xs at None) at None ≡ None
none_put xs at = by_test (nat_lt at (length xs)) refl
  where
    by_test : (b : Bool) → nat_lt at (length xs) ≡ b → get_or (if b then set xs at None else xs) at None ≡ None
    by_test true e = get_or-set_same xs at None None (ltb-true at (length xs) e)
    by_test false e = get_or_past xs at None (ltb-false at (length xs) e)

released_whole : (m n : World) (place sample : ℕ) (before after : SubscriberLaneState)
    (w : WholeCall m place (call.Release sample) before (Releases m before sample) n after)
    → IsAnswered m (Subscriber place) (call.Release sample) (answer.Released true) n × OnlySubscriber m place n × MailStays m n
    × (place_of sample after ≡ None) × OtherSamplesStay before sample after
released_whole m n place sample before after w =
    let stage = released_stage before w.last.lane sample (w.last.lane).port.call w.last.over w.last.holds.since in
    let done : stage.0 ≡ true = subst ReleasesOk stage.1
    ((w.last.alone.kept.rooms (omega (arith, w.few_before))).subscribers place w.last.lane w.last.alone.found).ok in
    let given : (w.last.lane).port.samples ≡ put_at before.port.samples sample None
    = subst (WasGiven before sample w.last.lane) done stage.2 in
    let samples : after.port.samples ≡ put_at before.port.samples sample None
    = ap (λ (x : SubscriberLaneState). x.port.samples) w.after_is ∙ next_samples w.last.k w.last.lane
    ∙ ap (λ (c : SubscriberCall). samples_after (subscriber_change c (shared_answer (w.last.k).table (subscriber_next c)))
    (w.last.lane).port.samples) stage.1 ∙ given in (
      answered_by m place (call.Release sample) before (Releases m before sample) n after w (answer.Released true)
          (ap (λ (c : SubscriberCall). subscriber_answer c (length (w.last.k).read)) stage.1 ∙ ap
          (λ (b : Bool). Some (answer.Released b)) done),
      w.others,
      λ connection. w.mail connection ∙ w.last.holds.mail connection,
      ap (λ (xs : List (Option ℕ)). get_or xs sample None) samples ∙ none_put before.port.samples sample,
      λ other apart. ap (λ (xs : List (Option ℕ)). get_or xs other None) samples ∙ put_at_other before.port.samples sample other None
          None apart,
    )

pub releases_in_turn : ReleasesInTurn
releases_in_turn = λ m n place sample before after t found now.
    released_whole m n place sample before after
    (whole m place (call.Release sample) before (Releases m before sample) n after (release_keeps m place before sample)
    (λ may k bound.
    let ok : is_route (route_at (place_of sample before) before) ≡ true
    = and_right (subscriber_is_idle before.port.call) (subscriber_may before (call.Release sample)) may in
    record {
      mail = begun_mail m place (call.Release sample) before found;
      since = release_starts m.moments sample (place_of sample before) (route_at (place_of sample before) before) before
          (no_place (place_of sample before) before ok) (no_route (route_at (place_of sample before) before) ok);
    })
    t found now)

-- a read of this sample is in progress
abbrev pub IsReading : ℕ → SubscriberCall → Type 0
IsReading sample subscribing.Idle = ⊥
IsReading sample (subscribing.Receiving place route p waits) = ⊥
IsReading sample (subscribing.Received given) = ⊥
IsReading sample (subscribing.Reading slot word extent) = slot ≡ sample
IsReading sample (subscribing.WasRead slot) = slot ≡ sample
IsReading sample (subscribing.Releasing place route p) = ⊥
IsReading sample (subscribing.Released done) = ⊥

-- a read leaves all as it was
pub record Reads (m : World) (before : SubscriberLaneState) (sample : ℕ) (k : World) (lane : SubscriberLaneState) : Type 0 where
  pub mail : MailStays m k
  pub table : k.table ≡ m.table
  pub read : k.read ≡ m.read
  pub samples : lane.port.samples ≡ before.port.samples
  pub reading : IsReading sample lane.port.call

reading_from : (sample slot : ℕ) (extent : SlotExtent) (word : ℕ) → slot ≡ sample → IsReading sample (read_at slot extent word)
reading_from sample slot extent word e = by_test (nat_lt word (3 + extent.user_header_words + extent.payload_words))
  where
    by_test : (b : Bool) → IsReading sample (if b then subscribing.Reading slot word extent else subscribing.WasRead slot)
    by_test true = e
    by_test false = e

-- what each step of a read does
record ReadStep (sample : ℕ) (k : World) (lane : SubscriberLaneState) (c : SubscriberCall) : Type 0 where
  quiet : pops_from c ≡ None
  table : after_shared k.table (subscriber_next c) ≡ k.table
  words : words_read c lane.port.words ≡ []
  samples : samples_after (subscriber_change c (shared_answer k.table (subscriber_next c))) lane.port.samples ≡ lane.port.samples
  reading : IsReading sample (subscriber_take lane.port.routes lane.port.borrowed lane.port.most_borrowed c
      (shared_answer k.table (subscriber_next c)))

read_step : (sample : ℕ) (k : World) (lane : SubscriberLaneState) (c : SubscriberCall) → subscriber_is_over c ≡ false
    → IsReading sample c → ReadStep sample k lane c
read_step sample k lane subscribing.Idle over s = absurd s
read_step sample k lane (subscribing.Receiving place route p waits) over s = absurd s
read_step sample k lane (subscribing.Received given) over s = absurd s
read_step sample k lane (subscribing.Reading slot word extent) over s
    = record { quiet = refl; table = refl; words = refl; samples = refl; reading = reading_from sample slot extent (successor word) s }
read_step sample k lane (subscribing.WasRead slot) over s = absurd (cc over)
read_step sample k lane (subscribing.Releasing place route p) over s = absurd s
read_step sample k lane (subscribing.Released done) over s = absurd s

read_keeps : (m : World) (place : ℕ) (before : SubscriberLaneState) (sample : ℕ)
    → Keeps m place before (name.Read sample) (Reads m before sample)
read_keeps m place before sample = λ k lane a a' bound next over s.
    let step = read_step sample k lane lane.port.call over s.reading in
    record {
      mail = λ connection. quiet_mail k place lane a.found step.quiet connection ∙ s.mail connection;
      table = table_is k place lane a.found ∙ step.table ∙ s.table;
      read = read_is k place lane a.found ∙ ap (λ (xs : List ℕ). k.read ++ xs) step.words ∙ append-nil k.read ∙ s.read;
      samples = next_samples k lane ∙ step.samples ∙ s.samples;
      reading = subst (IsReading sample) (sym (next_call k lane)) step.reading;
    }

read_stage : (sample : ℕ) (c : SubscriberCall) → subscriber_is_over c ≡ true → IsReading sample c → c ≡ subscribing.WasRead sample
read_stage sample subscribing.Idle over s = absurd s
read_stage sample (subscribing.Receiving place route p waits) over s = absurd s
read_stage sample (subscribing.Received given) over s = absurd s
read_stage sample (subscribing.Reading slot word extent) over s = absurd (cc over)
read_stage sample (subscribing.WasRead slot) over s = ap (λ (x : ℕ). subscribing.WasRead x) s
read_stage sample (subscribing.Releasing place route p) over s = absurd s
read_stage sample (subscribing.Released done) over s = absurd s

read_whole : (m n : World) (place sample : ℕ) (before after : SubscriberLaneState)
    (w : WholeCall m place (call.Read sample) before (Reads m before sample) n after)
    → IsAnswered m (Subscriber place) (call.Read sample) (answer.Read (length m.read)) n × (n.read ≡ m.read ++ slot_held m.table sample)
    × OnlySubscriber m place n × MailStays m n × SamplesStay before after
read_whole m n place sample before after w =
    let s = w.last.holds in
    let a = w.last.alone in
    let stage = read_stage sample (w.last.lane).port.call w.last.over s.reading in
    let few : (w.last.k).moments ≤ 2 ^ 63 = omega (arith, w.few_before) in
    let steps : StepsTo w.last.k (Subscriber place) GoOn stepped.Finished n
    = (w.last.fit, ap subscriber_ends_at a.found ∙ w.last.over, w.last.now) in
    let told = steps_told w.last.k (Subscriber place) GoOn stepped.Finished n steps in
    let answered = answered_by m place (call.Read sample) before (Reads m before sample) n after w (answer.Read (length m.read))
    (ap (λ (c : SubscriberCall). subscriber_answer c (length (w.last.k).read)) stage ∙ ap
    (λ (xs : List ℕ). Some (answer.Read (length xs))) s.read) in
    let whole_read = reads_whole w.last.k (Subscriber place) GoOn stepped.Finished n steps told a.kept.within a.kept.uses a.kept.reads
    a.kept.calls a.kept.held few answered.call sample
    (answered.more ∙ ap (λ (xs : List FinishedCall). xs ++ answered.call ∷ []) (sym a.finished)) answered.asked in
    let samples : after.port.samples ≡ before.port.samples
    = ap (λ (x : SubscriberLaneState). x.port.samples) w.after_is ∙ next_samples w.last.k w.last.lane
    ∙ ap (λ (c : SubscriberCall). samples_after (subscriber_change c (shared_answer (w.last.k).table (subscriber_next c)))
    (w.last.lane).port.samples) stage ∙ s.samples in (
      answered,
      whole_read.0 ∙ ap (λ (xs : List ℕ). xs ++ slot_held (w.last.k).table sample) s.read ∙ ap
          (λ (table : TableWords). m.read ++ slot_held table sample) s.table,
      w.others,
      λ connection. w.mail connection ∙ s.mail connection,
      λ slot. ap (λ (xs : List (Option ℕ)). get_or xs slot None) samples,
    )

pub reads_in_turn : ReadsInTurn
reads_in_turn = λ m n place sample before after t found now.
    read_whole m n place sample before after
    (whole m place (call.Read sample) before (Reads m before sample) n after (read_keeps m place before sample)
    (λ may k bound. record {
      mail = begun_mail m place (call.Read sample) before found;
      table = ap (λ (v : World). v.table) (begins_is m place (call.Read sample) before found);
      read = ap (λ (v : World). v.read) (begins_is m place (call.Read sample) before found);
      samples = refl;
      reading = reading_from sample sample before.port.extent 0 refl;
    })
    t found now)

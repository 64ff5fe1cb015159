-- No release finds its ring full, as long as no write position stood at 2^64 - 1 when it loaded a word.
use Rattle.std.proofs.Common.{ℕ, ◌≡◌, ◌-◌, Bool, true, false, if◌then◌else◌, nat_lt, List, set, Option, Some, None, refl, sym}
use Rattle.std.proofs.Common.{ap, subst}
use mathlib.Core.Option.{some}
use lib.ListN.{get_elem?}
use Rattle.atomic_table.proofs.Lists.{set_here}
use Rattle.iox_lanes_machine.specs.QueuesSteps.declared.order.PushAnswer.TheVariants.{Kept, LeftOut, Refused}
use Rattle.iox_lanes_machine.specs.QueuesSteps.declared.rings.refusing.push.Push as push_type
use Rattle.iox_lanes_machine.specs.QueuesSteps.declared.rings.refusing.push.Push.TheVariants as push
use Rattle.iox_lanes_machine.specs.LanesBase.Answers.{refusing_push_answer}
use Rattle.iox_lanes_machine.specs.LanesBase.Numbers.{number_of, IsWord}
use Rattle.iox_lanes_machine.specs.LanesBase.Subscribing.{subscriber_is_idle, subscriber_next, subscriber_take, released}
use Rattle.iox_lanes_machine.specs.LanesBase.declared.calls.route.Route.{Route}
use Rattle.iox_lanes_machine.specs.LanesBase.declared.calls.subscriber.SubscriberCall.{SubscriberCall}
use Rattle.iox_lanes_machine.specs.LanesBase.declared.calls.subscriber.SubscriberCall.TheVariants as subscribing
use Rattle.iox_lanes_machine.specs.LanesBase.declared.words.access.SharedAccess.{SharedAccess}
use Rattle.iox_lanes_machine.specs.LanesBase.declared.words.access.SharedAccess.TheVariants.{Load, Store, Exchange, Local}
use Rattle.iox_lanes_machine.specs.LanesBase.declared.words.word.SharedWord.{SharedWord}
use Rattle.iox_lanes_machine.specs.LanesParties.Parties.{SubscriberLaneState, subscriber_after, subscriber_answer, subscriber_begun}
use Rattle.iox_lanes_machine.specs.LanesParties.Parties.{subscriber_fits, subscriber_may, release_begun, place_of, route_at, is_route}
use Rattle.iox_lanes_machine.specs.LanesParties.declared.call.Answer.{Answer}
use Rattle.iox_lanes_machine.specs.LanesParties.declared.call.Answer.TheVariants as answer
use Rattle.iox_lanes_machine.specs.LanesParties.declared.call.Call.TheVariants as call
use Rattle.iox_lanes_machine.specs.LanesParties.declared.call.Move.TheVariants.{Begin}
use Rattle.iox_lanes_machine.specs.LanesParties.declared.call.Party.{Party}
use Rattle.iox_lanes_machine.specs.LanesParties.declared.call.Party.TheVariants.{Publisher, Subscriber}
use Rattle.iox_lanes_machine.specs.LedgerRooms.{ReleasesOk}
use Rattle.iox_lanes_machine.proofs.LanesParties.Rings.{and_right}
use Rattle.iox_lanes_threads_rule.specs.Acts.{MayAct, ToldBy}
use Rattle.iox_lanes_threads_rule.specs.Lanes.{IsEarly, MakesNext, HasParty, StandBehind, IsBacked, as_table}
use Rattle.iox_lanes_threads_rule.specs.Rule.{held}
use Rattle.iox_lanes_threads_rule.specs.Steps.{saw, learned}
use Rattle.iox_lanes_threads_rule.specs.declared.service.Service.{Service}
use Rattle.iox_lanes_threads_rule.specs.declared.view.Port.{Port}
use Rattle.iox_lanes_threads_rule.specs.declared.view.PortParty.TheVariants as party
use Rattle.iox_lanes_threads_rule.proofs.PortsBehind.{load_backed, set_held}
use Rattle.iox_lanes_threads_ports.specs.Courses.{subscriber_party, SubscriberGoes, SubscriberEnds}
use Rattle.iox_lanes_threads_ports.specs.Courses.SubscriberGoes.{stays, goes}
use Rattle.iox_lanes_threads_ports.specs.Paces.{IsLoadedEarly, AreFoundEarly}
use Rattle.iox_lanes_threads_ports.specs.Ports.{SubscriberStands}
use Rattle.iox_lanes_threads_ports.specs.Values.{SubscriberPort, release_answer_of, Releases}
use Rattle.iox_lanes_threads_ports.specs.declared.subscriber.ReleaseAnswer.TheVariants as release
use Rattle.iox_lanes_threads_ports.proofs.Between.{call_after}
use Rattle.iox_lanes_threads_ports.proofs.Coming.{subscriber_makes}
use Rattle.iox_lanes_threads_ports.proofs.Moments.{within_list}
use Rattle.iox_lanes_threads_ports.proofs.SubscriberSteps.{begins, goes_on, may_act}
use Rattle.iox_lanes_threads_ports.proofs.Sweeping.{IfLoaded}

-- what lanes that stand behind words and ports have of one of their subscribers
party_ok : (s : Service) (words : List ℕ) (all : List Port) (name : Party) (lane : SubscriberLaneState) (b : StandBehind s words all)
    → HasParty b.lanes name (party.Subscriber lane) → ReleasesOk lane.port.call
party_ok s words all (Publisher place) lane b has = absurd has
party_ok s words all (Subscriber place) lane b has = (b.rooms.subscribers place (record lane { first = has.0 }) has.1).ok

module _ (q : Port) (now : SubscriberLaneState) (n : ℕ) (stands : SubscriberStands q now) where
  load_ok : (w : SharedWord) → subscriber_next now.port.call ≡ Load w → (told : ToldBy q (Load w) n)
      → IsEarly (as_table q.service told.1.words) → ReleasesOk (subscriber_after n now).port.call
  load_ok w next told early =
      let s : Service = q.service in
      let t = told.1 in
      let found : ℕ = held s t.words w in
      let new : Port = learned (saw q w) (set q.known (number_of s.sizes w) found) (subscriber_party now found) in
      let is : IsWord s.sizes w = subst (MayAct q) next (may_act q now stands) in
      let makes : MakesNext q.party (Load w) (subscriber_party now)
      = subst (λ (a : SharedAccess). MakesNext q.party a (subscriber_party now)) next (subscriber_makes q.party now stands.comes) in
      let behind : IsBacked s (set t.words (number_of s.sizes w) found) (set t.ports q.number new)
      = load_backed s t.words t.ports q w (subscriber_party now) t.fit t.there is makes t.backed in
      let same : set t.words (number_of s.sizes w) found ≡ t.words = set_held t.words (number_of s.sizes w) in
      let b = behind (subst (λ (x : List ℕ). IsEarly (as_table s x)) (sym same) early) in
      let here : get_elem? (set t.ports q.number new) q.number ≡ some new
      = set_here t.ports q.number new (within_list t.ports q.number q t.there) in
      let has : HasParty b.lanes q.name (party.Subscriber (subscriber_after found now)) = b.ports q.number new here in
      subst (λ (a : ℕ). ReleasesOk (subscriber_after a now).port.call) t.holds
      (party_ok s (set t.words (number_of s.sizes w) found) (set t.ports q.number new) q.name (subscriber_after found now) b has)

  access_ok : (access : SharedAccess) → subscriber_next now.port.call ≡ access → (told : ToldBy q access n)
      → IsLoadedEarly q access n told → IfLoaded access (ReleasesOk (subscriber_after n now).port.call)
  access_ok (Load w) next told early = load_ok w next told early
  access_ok (Store w new) next told early = tt
  access_ok (Exchange w old new) next told early = tt
  access_ok Local next told early = tt

-- the push isn't refused
abbrev Goes : push_type.Push → Type 0
Goes push.Idle = Unit {0}
Goes (push.Begun limit value) = Unit {0}
Goes (push.SawWrite limit value write next) = Unit {0}
Goes (push.SawRoom value write next) = Unit {0}
Goes (push.Filled value next) = Unit {0}
Goes (push.Pushed value Kept) = Unit {0}
Goes (push.Pushed value (LeftOut oldest)) = Unit {0}
Goes (push.Pushed value Refused) = ⊥

-- a release at this stage isn't refused
abbrev GivesBack : SubscriberCall → Type 0
GivesBack subscribing.Idle = Unit {0}
GivesBack (subscribing.Receiving place route pop waits) = ⊥
GivesBack (subscribing.Received receipt) = ⊥
GivesBack (subscribing.Reading slot word extent) = ⊥
GivesBack (subscribing.WasRead slot) = ⊥
GivesBack (subscribing.Releasing place route push) = Goes push
GivesBack (subscribing.Released done) = done ≡ true

measured : (place : ℕ) (route : Route) (limit value write next n : ℕ) (b : Bool)
    → ReleasesOk (released place route (if b then push.SawRoom value write next else push.Pushed value Refused)
    (refusing_push_answer (if b then push.SawRoom value write next else push.Pushed value Refused)))
    → GivesBack (released place route (if b then push.SawRoom value write next else push.Pushed value Refused)
    (refusing_push_answer (if b then push.SawRoom value write next else push.Pushed value Refused)))
measured place route limit value write next n true ok = tt
measured place route limit value write next n false ok = ok

module _ (routes : List Route) (borrowed : List ℕ) (most n : ℕ) where
  step_gives : (c : SubscriberCall) → GivesBack c → IfLoaded (subscriber_next c) (ReleasesOk (subscriber_take routes borrowed most c n))
      → GivesBack (subscriber_take routes borrowed most c n)
  step_gives subscribing.Idle h ok = tt
  step_gives (subscribing.Receiving place route pop waits) h ok = absurd h
  step_gives (subscribing.Received receipt) h ok = absurd h
  step_gives (subscribing.Reading slot word extent) h ok = absurd h
  step_gives (subscribing.WasRead slot) h ok = absurd h
  step_gives (subscribing.Releasing place route push.Idle) h ok = tt
  step_gives (subscribing.Releasing place route (push.Begun limit value)) h ok = tt
  step_gives (subscribing.Releasing place route (push.SawWrite limit value write next)) h ok =
      measured place route limit value write next n (nat_lt (write - n) limit) ok
  step_gives (subscribing.Releasing place route (push.SawRoom value write next)) h ok = tt
  step_gives (subscribing.Releasing place route (push.Filled value next)) h ok = refl
  step_gives (subscribing.Releasing place route (push.Pushed value Kept)) h ok = tt
  step_gives (subscribing.Releasing place route (push.Pushed value (LeftOut oldest))) h ok = tt
  step_gives (subscribing.Releasing place route (push.Pushed value Refused)) h ok = absurd h
  step_gives (subscribing.Released done) h ok = tt

goes_give : (p : Port) (lane : SubscriberLaneState) (q : Port) (now : SubscriberLaneState) (steps : SubscriberGoes p lane q now)
    → SubscriberStands p lane → GivesBack lane.port.call → AreFoundEarly steps → SubscriberStands q now × GivesBack now.port.call
goes_give p lane _ _ stays stands h early = (stands, h)
goes_give p lane _ _ (goes q now n before told) stands h early =
    let was = goes_give p lane q now before stands h early.0 in
    let ok = subst (λ (c : SubscriberCall). IfLoaded (subscriber_next now.port.call) (ReleasesOk c)) (call_after now n)
    (access_ok q now n was.0 (subscriber_next now.port.call) refl told early.1) in (
      goes_on q now was.0 n told,
      subst GivesBack (sym (call_after now n))
          (step_gives now.port.routes now.port.borrowed now.port.most_borrowed n now.port.call was.1 ok),
    )

first_gives : (lane : SubscriberLaneState) (sample : ℕ) (place : Option ℕ) (route : Option Route) → is_route route ≡ true
    → route_at place lane ≡ route → GivesBack (release_begun 0 sample place route lane).port.call
first_gives lane sample None None h f = absurd (cc h)
first_gives lane sample None (Some route) h f = absurd (cc f)
first_gives lane sample (Some place) None h f = absurd (cc h)
first_gives lane sample (Some place) (Some route) h f = tt

not_refused : (c : SubscriberCall) → GivesBack c → subscriber_answer c 0 ≡ Some (answer.Released false) → ⊥
not_refused subscribing.Idle h e = cc e
not_refused (subscribing.Receiving place route pop waits) h e = h
not_refused (subscribing.Received receipt) h e = h
not_refused (subscribing.Reading slot word extent) h e = h
not_refused (subscribing.WasRead slot) h e = h
not_refused (subscribing.Releasing place route push) h e = cc e
not_refused (subscribing.Released true) h e = cc e
not_refused (subscribing.Released false) h e = cc h

-- so a release that found its ring full made some step late
pub refused_late : (old new : SubscriberPort) (sample : ℕ) → SubscriberStands old.port old.lane
    → subscriber_fits old.lane (Begin (call.Release sample)) ≡ true
    → (ends : SubscriberEnds old.port (subscriber_begun 0 (call.Release sample) old.lane) new.port new.lane (answer.Released false))
    → AreFoundEarly ends.goes → ⊥
refused_late old new sample stands fits ends early =
    let begun : SubscriberLaneState = subscriber_begun 0 (call.Release sample) old.lane in
    let first : GivesBack begun.port.call =
    first_gives old.lane sample (place_of sample old.lane) (route_at (place_of sample old.lane) old.lane)
    (and_right (subscriber_is_idle old.lane.port.call) (subscriber_may old.lane (call.Release sample)) fits) refl in
    not_refused ends.last.port.call
    (goes_give old.port begun new.port ends.last ends.goes (begins old.port old.lane 0 (call.Release sample) stands fits) first early).1
    ends.answers

-- a release that fits, by its last answer
pub releases_by : (old new : SubscriberPort) (sample : ℕ) (given : Option Answer) (done : Bool) → SubscriberStands old.port old.lane
    → subscriber_fits old.lane (Begin (call.Release sample)) ≡ true
    → SubscriberEnds old.port (subscriber_begun 0 (call.Release sample) old.lane) new.port new.lane (answer.Released done)
    → given ≡ Some (answer.Released done) → Releases old sample new (release_answer_of given)
releases_by old new sample given done stands fits ends told =
    subst (Releases old sample new) (sym (ap release_answer_of told)) (by done ends)
  where
    by : (b : Bool) → SubscriberEnds old.port (subscriber_begun 0 (call.Release sample) old.lane) new.port new.lane (answer.Released b)
        → Releases old sample new (if b then release.Released else release.RingFull)
    by true ends = (fits, ends)
    by false ends = record { fits = fits; ends = ends; late = refused_late old new sample stands fits ends }

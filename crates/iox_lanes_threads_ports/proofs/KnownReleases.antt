-- After a release that was taken the port knows its sample in the ring of what was given back.
use Rattle.std.proofs.Common.{ℕ, ◌≡◌, ◌-◌, ◌%◌, Bool, true, false, if◌then◌else◌, nat_lt, length, slice_get, Option, Some, None, refl}
use Rattle.std.proofs.Common.{sym, ◌∙◌, ap, subst, arith}
use Rattle.std.proofs.lemmas.Nat.{mod_below}
use Rattle.iox_lanes_machine.specs.QueuesSteps.Access.{successor}
use Rattle.iox_lanes_machine.specs.QueuesSteps.declared.access.Word.TheVariants.{Write, Read, Cell}
use Rattle.iox_lanes_machine.specs.QueuesSteps.declared.order.PushAnswer.TheVariants.{Kept, LeftOut, Refused}
use Rattle.iox_lanes_machine.specs.QueuesSteps.Refusing as refusing
use Rattle.iox_lanes_machine.specs.QueuesSteps.declared.rings.refusing.push.Push as push_type
use Rattle.iox_lanes_machine.specs.QueuesSteps.declared.rings.refusing.push.Push.TheVariants as push
use Rattle.iox_lanes_machine.specs.LanesBase.Numbers.{words_of, IsWord}
use Rattle.iox_lanes_machine.specs.LanesBase.Words.{on_ring}
use Rattle.iox_lanes_machine.specs.LanesBase.declared.words.word.ConnectionRing.{ConnectionRing}
use Rattle.iox_lanes_machine.specs.LanesBase.declared.words.word.ConnectionRing.TheVariants.{Completion}
use Rattle.iox_lanes_machine.specs.LanesBase.declared.words.word.SharedWord.TheVariants.{Ring}
use Rattle.iox_lanes_machine.specs.LanesBase.Answers.{refusing_push_answer}
use Rattle.iox_lanes_machine.specs.LanesBase.Subscribing.{subscriber_next, subscriber_take, released}
use Rattle.iox_lanes_machine.specs.LanesBase.declared.calls.route.Route.{Route}
use Rattle.iox_lanes_machine.specs.LanesBase.declared.calls.subscriber.SubscriberCall.{SubscriberCall}
use Rattle.iox_lanes_machine.specs.LanesBase.declared.calls.subscriber.SubscriberCall.TheVariants as subscribing
use Rattle.iox_lanes_machine.specs.LanesParties.Parties.{SubscriberLaneState, subscriber_begun, subscriber_after, subscriber_answer}
use Rattle.iox_lanes_machine.specs.LanesParties.Parties.{release_begun, place_of, route_at}
use Rattle.iox_lanes_machine.specs.LanesParties.Within.{IsSubscribing, IsRoute}
use Rattle.iox_lanes_machine.specs.LanesParties.declared.call.Answer.TheVariants as answer
use Rattle.iox_lanes_machine.specs.LanesParties.declared.call.Call.TheVariants as call
use Rattle.iox_lanes_threads_rule.specs.Service.{Stores}
use Rattle.iox_lanes_threads_rule.specs.Acts.{stepped, ToldBy}
use Rattle.iox_lanes_threads_rule.specs.declared.view.Port.{Port}
use Rattle.iox_lanes_threads_rule.specs.declared.view.PortParty.{PortParty}
use Rattle.iox_lanes_threads_rule.proofs.Held.{at_same, at_other}
use Rattle.iox_lanes_threads_ports.specs.Courses.{subscriber_party, subscriber_stepped, SubscriberGoes, SubscriberEnds}
use Rattle.iox_lanes_threads_ports.specs.Ends.{knows}
use Rattle.iox_lanes_threads_ports.specs.Known.{KnowsPut, KeepsWrite, KnowsGivenBack, KeepsGivenBack}
use Rattle.iox_lanes_threads_ports.specs.Ports.{SubscriberStands}
use Rattle.iox_lanes_threads_ports.specs.Values.{SubscriberPort, Releases}
use Rattle.iox_lanes_threads_ports.specs.declared.subscriber.ReleaseAnswer.{ReleaseAnswer}
use Rattle.iox_lanes_threads_ports.specs.declared.subscriber.ReleaseAnswer.TheVariants as release
use Rattle.iox_lanes_threads_ports.proofs.Between.{call_after}
use Rattle.iox_lanes_threads_ports.proofs.KnownReads.{subscriber_along}
use Rattle.iox_lanes_threads_ports.proofs.SubscriberSteps.{begins, is_receiver, end_at, is_route_at}

-- what a push on a ring that refuses has put by now, of what the port knew when it began
abbrev pub Putting : Port → ℕ → ConnectionRing → ℕ → ℕ → Port → push_type.Push → Type 0
Putting p c ring cells value q push.Idle = Unit {0}
Putting p c ring cells value q (push.Begun limit v) = (v ≡ value) × (knows q (Ring c ring Write) ≡ knows p (Ring c ring Write))
Putting p c ring cells value q (push.SawWrite limit v write next) = (v ≡ value) × (write ≡ knows p (Ring c ring Write))
    × (next ≡ successor write) × KeepsWrite p q c ring
Putting p c ring cells value q (push.SawRoom v write next) = (v ≡ value) × (write ≡ knows p (Ring c ring Write)) × (next ≡ successor write)
Putting p c ring cells value q (push.Filled v next) =
    (next ≡ successor (knows p (Ring c ring Write))) × (knows q (Ring c ring (Cell (knows p (Ring c ring Write) % cells))) ≡ value)
Putting p c ring cells value q (push.Pushed v Kept) = KnowsPut p q c ring cells value
Putting p c ring cells value q (push.Pushed v (LeftOut oldest)) = ⊥
Putting p c ring cells value q (push.Pushed v Refused) = KeepsWrite p q c ring

pub read_write : (c : ℕ) (ring : ConnectionRing) → Ring c ring Read ≡ Ring c ring Write → ⊥
read_write c ring e = cc e

pub write_cell : (c k : ℕ) (ring : ConnectionRing) → Ring c ring (Cell k) ≡ Ring c ring Write → ⊥
write_cell c k ring e = cc e

module _ (p : Port) (c : ℕ) (ring : ConnectionRing) (cells value : ℕ) (q : Port) (n : ℕ) (after : ℕ → PortParty)
    (wide : length q.known ≡ words_of q.service.sizes) (write : IsWord q.service.sizes (Ring c ring Write))
    (read : IsWord q.service.sizes (Ring c ring Read))
    (cell : (k : ℕ) → IsWord q.service.sizes (Ring c ring (Cell (k % cells)))) (mine : Stores q.service q.name (Ring c ring Write)) where
  measured : (q' : Port) (limit v at next seen : ℕ) (b : Bool) → v ≡ value → at ≡ knows p (Ring c ring Write) → next ≡ successor at
      → KeepsWrite p q' c ring
      → Putting p c ring cells value q' (if b then push.SawRoom v at next else push.Pushed v Refused)
  measured q' limit v at next seen true e f g k = (e, f, g)
  measured q' limit v at next seen false e f g k = k

  pub put_goes : (push : push_type.Push) → Putting p c ring cells value q push → ToldBy q (on_ring c ring cells (refusing.push_next push)) n
      → Putting p c ring cells value (stepped q (on_ring c ring cells (refusing.push_next push)) n after) (refusing.push_take push n)
  put_goes push.Idle h told = tt
  put_goes (push.Begun limit v) h told
      = (h.0, sym (told.0.own mine) ∙ h.1, refl, at_same q.service q.known (Ring c ring Write) n wide write ∙ sym (told.0.own mine) ∙ h.1)
  put_goes (push.SawWrite limit v at next) h told =
      measured (stepped q (on_ring c ring cells (refusing.push_next (push.SawWrite limit v at next))) n after) limit v at next n
      (nat_lt (at - n) limit) h.0 h.1 h.2
      (at_other q.service q.known (Ring c ring Read) (Ring c ring Write) n read write (λ e. read_write c ring (sym e)) ∙ h.3)
  put_goes (push.SawRoom v at next) h told = (
    h.2 ∙ ap successor h.1,
    subst (λ (k : ℕ). knows (stepped q (on_ring c ring cells (refusing.push_next (push.SawRoom v at next))) n after)
        (Ring c ring (Cell (k % cells))) ≡ value) h.1
        (at_same q.service q.known (Ring c ring (Cell (at % cells))) v wide (cell at) ∙ h.0),
  )
  put_goes (push.Filled v next) h told = (
    at_same q.service q.known (Ring c ring Write) next wide write ∙ h.0,
    at_other q.service q.known (Ring c ring Write) (Ring c ring (Cell (knows p (Ring c ring Write) % cells))) next write
        (cell (knows p (Ring c ring Write))) (write_cell c (knows p (Ring c ring Write) % cells) ring) ∙ h.1,
  )
  put_goes (push.Pushed v given) h told = tt

-- the stages of a release
abbrev InGiving : Port → Route → ℕ → Port → SubscriberCall → Type 0
InGiving p route sample q subscribing.Idle = Unit {0}
InGiving p route sample q (subscribing.Receiving place r pop waits) = ⊥
InGiving p route sample q (subscribing.Received receipt) = ⊥
InGiving p route sample q (subscribing.Reading slot word extent) = ⊥
InGiving p route sample q (subscribing.WasRead slot) = ⊥
InGiving p route sample q (subscribing.Releasing place r push) = (r ≡ route)
    × Putting p r.connection Completion r.completion_cells sample q push
InGiving p route sample q (subscribing.Released true) = KnowsPut p q route.connection Completion route.completion_cells sample
InGiving p route sample q (subscribing.Released false) = KeepsWrite p q route.connection Completion

released_from : (p : Port) (route : Route) (sample : ℕ) (q : Port) (place : ℕ) (r : Route) (push : push_type.Push) → r ≡ route
    → Putting p r.connection Completion r.completion_cells sample q push
    → InGiving p route sample q (released place r push (refusing_push_answer push))
released_from p route sample q place r push.Idle e h = (e, h)
released_from p route sample q place r (push.Begun limit v) e h = (e, h)
released_from p route sample q place r (push.SawWrite limit v at next) e h = (e, h)
released_from p route sample q place r (push.SawRoom v at next) e h = (e, h)
released_from p route sample q place r (push.Filled v next) e h = (e, h)
released_from p route sample q place r (push.Pushed v Kept) e h
    = subst (λ (z : Route). KnowsPut p q z.connection Completion z.completion_cells sample) e h
released_from p route sample q place r (push.Pushed v (LeftOut oldest)) e h = absurd h
released_from p route sample q place r (push.Pushed v Refused) e h = subst (λ (z : Route). KeepsWrite p q z.connection Completion) e h

module _ (p : Port) (route : Route) (sample : ℕ) (q : Port) (now : SubscriberLaneState) (stands : SubscriberStands q now) (n : ℕ)
    (after : ℕ → PortParty) where
  giving_goes : (c : SubscriberCall) → IsSubscribing q.service.sizes now.port.routes c → ToldBy q (subscriber_next c) n
      → InGiving p route sample q c
      → InGiving p route sample (stepped q (subscriber_next c) n after)
      (subscriber_take now.port.routes now.port.borrowed now.port.most_borrowed c n)
  giving_goes subscribing.Idle is told h = tt
  giving_goes (subscribing.Receiving place r pop waits) is told h = absurd h
  giving_goes (subscribing.Received receipt) is told h = absurd h
  giving_goes (subscribing.Reading slot word extent) is told h = absurd h
  giving_goes (subscribing.WasRead slot) is told h = absurd h
  giving_goes (subscribing.Releasing place r push) is told h =
      let own : IsRoute q.service.sizes r = is_route_at q now stands place r is in
      released_from p route sample (stepped q (subscriber_next (subscribing.Releasing place r push)) n after) place r
      (refusing.push_take push n) h.0
      (put_goes p r.connection Completion r.completion_cells sample q n after stands.wide (own.connection, tt) (own.connection, tt)
      (λ k. (own.connection, omega (arith, mod_below k r.completion_cells own.gives_back, own.completion)))
      (is_receiver q.service q.name r (end_at q now stands place r is)) push h.1 told)
  giving_goes (subscribing.Released done) is told h = tt

giving_on : (p : Port) (route : Route) (sample : ℕ) (q : Port) (now : SubscriberLaneState) (n : ℕ) → SubscriberStands q now
    → ToldBy q (subscriber_next now.port.call) n → InGiving p route sample q now.port.call
    → InGiving p route sample (subscriber_stepped q now n) (subscriber_after n now).port.call
giving_on p route sample q now n stands told h =
    subst (InGiving p route sample (subscriber_stepped q now n)) (sym (call_after now n))
    (giving_goes p route sample q now stands n (subscriber_party now) now.port.call stands.within.call told h)

giving_begins : (p : Port) (lane : SubscriberLaneState) (sample place : ℕ) (route : Route) (at : Option ℕ) (r : Option Route)
    → at ≡ Some place → r ≡ Some route → InGiving p route sample p (release_begun 0 sample at r lane).port.call
giving_begins p lane sample place route None r e f = absurd (cc e)
giving_begins p lane sample place route (Some x) None e f = absurd (cc f)
giving_begins p lane sample place route (Some x) (Some y) e f = (same f, (refl, refl))
  where
    same : Some y ≡ Some route → y ≡ route
    same h = cc h

not_given : (p : Port) (route : Route) (sample : ℕ) (q : Port) (c : SubscriberCall) → InGiving p route sample q c
    → subscriber_answer c 0 ≡ Some (answer.Released false) → KeepsWrite p q route.connection Completion
not_given p route sample q subscribing.Idle h e = absurd (cc e)
not_given p route sample q (subscribing.Receiving place r pop waits) h e = absurd h
not_given p route sample q (subscribing.Received receipt) h e = absurd h
not_given p route sample q (subscribing.Reading slot word extent) h e = absurd h
not_given p route sample q (subscribing.WasRead slot) h e = absurd h
not_given p route sample q (subscribing.Releasing place r push) h e = absurd (cc e)
not_given p route sample q (subscribing.Released true) h e = absurd (cc e)
not_given p route sample q (subscribing.Released false) h e = h

given_back : (p : Port) (route : Route) (sample : ℕ) (q : Port) (c : SubscriberCall) → InGiving p route sample q c
    → subscriber_answer c 0 ≡ Some (answer.Released true) → KnowsPut p q route.connection Completion route.completion_cells sample
given_back p route sample q subscribing.Idle h e = absurd (cc e)
given_back p route sample q (subscribing.Receiving place r pop waits) h e = absurd h
given_back p route sample q (subscribing.Received receipt) h e = absurd h
given_back p route sample q (subscribing.Reading slot word extent) h e = absurd h
given_back p route sample q (subscribing.WasRead slot) h e = absurd h
given_back p route sample q (subscribing.Releasing place r push) h e = absurd (cc e)
given_back p route sample q (subscribing.Released true) h e = h
given_back p route sample q (subscribing.Released false) h e = absurd (cc e)

module _ (p : Port) (lane : SubscriberLaneState) (sample : ℕ) (q : Port) (now : SubscriberLaneState)
    (stands : SubscriberStands p (subscriber_begun 0 (call.Release sample) lane)) (place : ℕ) (route : Route)
    (at : place_of sample lane ≡ Some place)
    (found : slice_get lane.port.routes place ≡ Some route) where
  last_stage : (last : SubscriberLaneState) → SubscriberGoes p (subscriber_begun 0 (call.Release sample) lane) q last
      → InGiving p route sample q last.port.call
  last_stage last run =
      let r : route_at (place_of sample lane) lane ≡ Some route = ap (λ (o : Option ℕ). route_at o lane) at ∙ found in
      (subscriber_along (λ z l. InGiving p route sample z l.port.call) (giving_on p route sample) p
      (subscriber_begun 0 (call.Release sample) lane) q last run stands
      (giving_begins p lane sample place route (place_of sample lane) (route_at (place_of sample lane) lane) at r)).1

  ends_known : SubscriberEnds p (subscriber_begun 0 (call.Release sample) lane) q now (answer.Released true)
      → KnowsPut p q route.connection Completion route.completion_cells sample
  ends_known ends = given_back p route sample q ends.last.port.call (last_stage ends.last ends.goes) ends.answers

  ends_kept : SubscriberEnds p (subscriber_begun 0 (call.Release sample) lane) q now (answer.Released false)
      → KeepsWrite p q route.connection Completion
  ends_kept ends = not_given p route sample q ends.last.port.call (last_stage ends.last ends.goes) ends.answers

-- a release that answers that its sample went back
pub release_known : (old new : SubscriberPort) (sample : ℕ) (told : ReleaseAnswer) → SubscriberStands old.port old.lane
    → Releases old sample new told → told ≡ release.Released → KnowsGivenBack old.port new.port old.lane sample
release_known old new sample release.NotMine stands h e = absurd (cc e)
release_known old new sample release.RingFull stands h e = absurd (cc e)
release_known old new sample release.Released stands h e
    = λ place route at found. ends_known old.port old.lane sample new.port new.lane
    (begins old.port old.lane 0 (call.Release sample) stands h.0) place route at found h.1

-- and one that answers that it did not
pub release_kept : (old new : SubscriberPort) (sample : ℕ) (told : ReleaseAnswer) → SubscriberStands old.port old.lane
    → Releases old sample new told → (told ≡ release.Released → ⊥) → KeepsGivenBack old.port new.port old.lane sample
release_kept old new sample release.Released stands h not = absurd (not refl)
release_kept old new sample release.NotMine stands h not =
    λ place route at found. ap (λ (z : Port). knows z (Ring route.connection Completion Write)) h.1.1
release_kept old new sample release.RingFull stands late not =
    λ place route at found. ends_kept old.port old.lane sample new.port new.lane
    (begins old.port old.lane 0 (call.Release sample) stands late.fits) place route at found late.ends

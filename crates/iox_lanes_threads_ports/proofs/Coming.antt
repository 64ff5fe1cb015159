-- How a port comes to its next access, and on from it.
use Rattle.std.proofs.Common.{ℕ, ◌≡◌, true, refl, sym, subst}
use Rattle.iox_lanes_machine.specs.LanesBase.Publishing.{publisher_next}
use Rattle.iox_lanes_machine.specs.LanesBase.Subscribing.{subscriber_next}
use Rattle.iox_lanes_machine.specs.LanesBase.declared.words.access.SharedAccess.{SharedAccess}
use Rattle.iox_lanes_machine.specs.LanesBase.declared.words.access.SharedAccess.TheVariants.{Load, Store, Exchange, Local}
use Rattle.iox_lanes_machine.specs.LanesParties.Parties.{PublisherLaneState, SubscriberLaneState, publisher_fits, publisher_begun}
use Rattle.iox_lanes_machine.specs.LanesParties.Parties.{publisher_after, subscriber_fits, subscriber_begun, subscriber_after}
use Rattle.iox_lanes_machine.specs.LanesParties.declared.call.Call.{Call}
use Rattle.iox_lanes_machine.specs.LanesParties.declared.call.Move.TheVariants.{Begin}
use Rattle.iox_lanes_threads_rule.specs.Acts.{stepped, ToldBy}
use Rattle.iox_lanes_threads_rule.specs.Lanes.{ComesToPublisher, ComesToSubscriber, MakesNext}
use Rattle.iox_lanes_threads_rule.specs.Lanes.PublisherLeads.{stays as publisher_stays, begins as publisher_begins, goes as publisher_moves}
use Rattle.iox_lanes_threads_rule.specs.Lanes.SubscriberLeads.{stays as subscriber_stays, begins as subscriber_begins}
use Rattle.iox_lanes_threads_rule.specs.Lanes.SubscriberLeads.{goes as subscriber_moves}
use Rattle.iox_lanes_threads_rule.specs.declared.view.Port.{Port}
use Rattle.iox_lanes_threads_rule.specs.declared.view.PortParty.{PortParty}
use Rattle.iox_lanes_threads_rule.specs.declared.view.PortParty.TheVariants as party
use Rattle.iox_lanes_threads_ports.specs.Courses.{publisher_party, subscriber_party}

publisher_goes : (own : PortParty) (lane : PublisherLaneState) → ComesToPublisher own lane → publisher_next lane.port.call ≡ Local
    → ComesToPublisher own (publisher_after 0 lane)
publisher_goes (party.Publisher old) lane run local = publisher_moves lane run local
publisher_goes (party.Subscriber old) lane run local = run

-- after an answer
pub publisher_came : (p : Port) (lane : PublisherLaneState) (n : ℕ) (access : SharedAccess) → publisher_next lane.port.call ≡ access
    → ToldBy p access n → ComesToPublisher p.party lane
    → ComesToPublisher (stepped p access n (publisher_party lane)).party (publisher_after n lane)
publisher_came p lane n (Load w) next told run = publisher_stays
publisher_came p lane n (Store w new) next told run = publisher_stays
publisher_came p lane n (Exchange w old new) next told run = publisher_stays
publisher_came p lane n Local next told run =
    subst (λ (a : ℕ). ComesToPublisher p.party (publisher_after a lane)) (sym told) (publisher_goes p.party lane run next)

-- after a begin
pub publisher_began : (own : PortParty) (lane : PublisherLaneState) (moment : ℕ) (c : Call) → ComesToPublisher own lane
    → publisher_fits lane (Begin c) ≡ true → ComesToPublisher own (publisher_begun moment c lane)
publisher_began (party.Publisher old) lane moment c run fit = publisher_begins lane moment c run fit
publisher_began (party.Subscriber old) lane moment c run fit = run

-- it makes the access of its lane next
pub publisher_makes : (own : PortParty) (lane : PublisherLaneState) → ComesToPublisher own lane
    → MakesNext own (publisher_next lane.port.call) (publisher_party lane)
publisher_makes (party.Publisher old) lane run = record { now = lane; comes = run; next = refl; after_is = λ answer. refl }
publisher_makes (party.Subscriber old) lane run = absurd run

subscriber_goes : (own : PortParty) (lane : SubscriberLaneState) → ComesToSubscriber own lane → subscriber_next lane.port.call ≡ Local
    → ComesToSubscriber own (subscriber_after 0 lane)
subscriber_goes (party.Publisher old) lane run local = run
subscriber_goes (party.Subscriber old) lane run local = subscriber_moves lane run local

pub subscriber_came : (p : Port) (lane : SubscriberLaneState) (n : ℕ) (access : SharedAccess) → subscriber_next lane.port.call ≡ access
    → ToldBy p access n → ComesToSubscriber p.party lane
    → ComesToSubscriber (stepped p access n (subscriber_party lane)).party (subscriber_after n lane)
subscriber_came p lane n (Load w) next told run = subscriber_stays
subscriber_came p lane n (Store w new) next told run = subscriber_stays
subscriber_came p lane n (Exchange w old new) next told run = subscriber_stays
subscriber_came p lane n Local next told run =
    subst (λ (a : ℕ). ComesToSubscriber p.party (subscriber_after a lane)) (sym told) (subscriber_goes p.party lane run next)

pub subscriber_began : (own : PortParty) (lane : SubscriberLaneState) (moment : ℕ) (c : Call) → ComesToSubscriber own lane
    → subscriber_fits lane (Begin c) ≡ true → ComesToSubscriber own (subscriber_begun moment c lane)
subscriber_began (party.Publisher old) lane moment c run fit = run
subscriber_began (party.Subscriber old) lane moment c run fit = subscriber_begins lane moment c run fit

pub subscriber_makes : (own : PortParty) (lane : SubscriberLaneState) → ComesToSubscriber own lane
    → MakesNext own (subscriber_next lane.port.call) (subscriber_party lane)
subscriber_makes (party.Publisher old) lane run = absurd run
subscriber_makes (party.Subscriber old) lane run = record { now = lane; comes = run; next = refl; after_is = λ answer. refl }

use Rattle.std.proofs.Common.{ℕ, ◌≡◌, subst}
use Rattle.iox_lanes_threads_ports.specs.Known.{KnowsGivenBack}
use Rattle.iox_lanes_threads_ports.specs.Values.{Releases}
use Rattle.iox_lanes_threads_ports.specs.declared.subscriber.ReleaseAnswer.TheVariants as answers
use Rattle.iox_lanes.specs.Typed.{TypedSubscriber}
use Rattle.iox_lanes.proofs.threads.subscriber.Subscriber.give_back.Goals as goal

pub returns-clause-call : goal.returns-clause-call
returns-clause-call g c =
    subst (λ (n : ℕ). Releases c.args.self.now.port.own n c.release.new.self.own c.release.result) c.slot.ensures
    (subst (λ (s : TypedSubscriber). Releases s.port.own c.slot.result c.release.new.self.own c.release.result) c.self.view_is
    c.release.ensures.call)

pub returns-clause-goes : goal.returns-clause-goes
returns-clause-goes g c =
    subst (λ (n : ℕ). c.release.result ≡ answers.Released
    → KnowsGivenBack c.args.self.now.port.own.port c.release.new.self.own.port c.args.self.now.port.own.lane n) c.slot.ensures
    (subst (λ (s : TypedSubscriber). c.release.result ≡ answers.Released
    → KnowsGivenBack s.port.own.port c.release.new.self.own.port s.port.own.lane c.slot.result) c.self.view_is c.release.ensures.put)

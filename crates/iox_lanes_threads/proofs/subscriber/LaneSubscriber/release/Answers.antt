use Rattle.std.proofs.Common.{◌≡◌, subst}
use Rattle.iox_lanes_threads_ports.specs.Known.{KnowsGivenBack, KeepsGivenBack}
use Rattle.iox_lanes_threads_ports.specs.declared.subscriber.ReleaseAnswer.TheVariants as answers
use Rattle.iox_lanes_threads.specs.Ports.{BoardSubscriber}
use Rattle.iox_lanes_threads.proofs.subscriber.LaneSubscriber.release.Goals as goal

pub returns-clause-put : goal.returns-clause-put
returns-clause-put c =
    subst (λ (v : BoardSubscriber). c.release.result ≡ answers.Released
    → KnowsGivenBack v.own.port c.release.new.self.port v.own.lane c.args.sample) c.self.view_is c.release.ensures.put

pub returns-clause-kept : goal.returns-clause-kept
returns-clause-kept c =
    subst (λ (v : BoardSubscriber). (c.release.result ≡ answers.Released → ⊥)
    → KeepsGivenBack v.own.port c.release.new.self.port v.own.lane c.args.sample) c.self.view_is c.release.ensures.kept

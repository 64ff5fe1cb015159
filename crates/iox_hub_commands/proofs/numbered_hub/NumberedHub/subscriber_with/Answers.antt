use Rattle.std.proofs.Common.{◌∙◌, ◌^◌, ◌-◌, ap, sym, refl}
use Rattle.iox_hub_base.specs.Room.{samples_left_in}
use Rattle.iox_hub_commands.specs.Naming.{subscriber_config}
use Rattle.iox_hub_commands.specs.PortRoom.{most_samples_at}
use Rattle.iox_hub_commands.proofs.Coming.{subscriber_in_room}
use Rattle.iox_hub_commands.proofs.GrowingFor.{grows_none, grows_samples, grows_still, least}
use Rattle.iox_hub_commands.proofs.PortRooms.{subscriber_room, keeps_nowhere, samples_pledged, pledges_brought}
use Rattle.iox_hub_commands.proofs.Rooms.{when_ok}
use Rattle.iox_hub_commands.proofs.numbered_hub.NumberedHub.subscriber_with.Goals as goal

pub returns-then-refuses_subscriber-clause-room : goal.returns-then-refuses_subscriber-clause-room
returns-then-refuses_subscriber-clause-room g c = keeps_nowhere c.args.self.now

pub returns-then-refuses_subscriber-clause-comes : goal.returns-then-refuses_subscriber-clause-comes
returns-then-refuses_subscriber-clause-comes g c
    = (c.subscriber_refused.ensures c.args.self.now.made c.args.handler, refl)

pub returns-then-is_err-clause-room : goal.returns-then-is_err-clause-room
returns-then-is_err-clause-room g c
    = samples_pledged c.pledge_samples.result c.most_samples.result c.args.self.now c.pledge_samples.new.self
    c.pledge_samples.ensures.same c.pledge_samples.ensures.room c.pledge_samples.ensures.stays c.pledge_samples.ensures.loans

pub returns-then-is_err-clause-comes : goal.returns-then-is_err-clause-comes
returns-then-is_err-clause-comes g c =
    let mid = c.pledge_samples.new.self in (
      subscriber_in_room (λ handler. g.D.Degrades.degrades handler) c.args.domain (subscriber_config c.args.owner c.args.options.now)
          c.args.handler c.args.self.now mid mid c.subscriber_refused-then-is_err.result
          c.pledge_samples.ensures.same (c.subscriber_refused-then-is_err.ensures mid.made c.args.handler),
      ap (λ hub. hub.factories) c.pledge_samples.ensures.same.1,
    )

pub returns-clause-room : goal.returns-clause-room
returns-clause-room g c =
    let mid = c.pledge_samples.new.self in
    let well = sym c.is_err.ensures.value ∙ c.if-is_err.false in
    subscriber_room (λ handler. g.D.Degrades.degrades handler) c.args.domain (subscriber_config c.args.owner c.args.options.now)
    c.args.handler c.args.self.now mid
    (record mid { hub = c.subscriber.new.home; made = c.subscriber.new.made }) c.subscriber.result c.pledge_samples.ensures.same
    c.pledge_samples.ensures.loans
    (λ room. when_ok c.pledge_samples.result
    (pledges_brought c.pledge_samples.result (samples_left_in c.args.self.now.hub.services.domains)
    (samples_left_in c.args.self.now.hub.services.domains) c.most_samples.result (most_samples_at c.args.domain c.args.self.now)
    mid.pledged.samples mid.made.samples refl c.most_samples.ensures (c.pledge_samples.ensures.room room)
    c.pledge_samples.ensures.small) well)
    refl c.subscriber.ensures.step

pub returns-clause-comes : goal.returns-clause-comes
returns-clause-comes g c =
    let mid = c.pledge_samples.new.self in (
      subscriber_in_room (λ handler. g.D.Degrades.degrades handler) c.args.domain (subscriber_config c.args.owner c.args.options.now)
          c.args.handler c.args.self.now mid
          (record mid { hub = c.subscriber.new.home; made = c.subscriber.new.made }) c.subscriber.result c.pledge_samples.ensures.same
          c.subscriber.ensures.step,
      ap (λ hub. hub.factories) c.pledge_samples.ensures.same.1,
    )

pub returns-then-refuses_subscriber-clause-grows : goal.returns-then-refuses_subscriber-clause-grows
returns-then-refuses_subscriber-clause-grows g c = grows_none 0 (most_samples_at c.args.domain c.args.self.now) c.args.self.now

pub returns-then-is_err-clause-grows : goal.returns-then-is_err-clause-grows
returns-then-is_err-clause-grows g c =
    grows_samples (most_samples_at c.args.domain c.args.self.now) c.most_samples.result c.args.self.now c.pledge_samples.new.self
    c.pledge_samples.ensures.loans_stay
    (least (most_samples_at c.args.domain c.args.self.now) (2 ^ 64 - 1) c.most_samples.result c.most_samples.ensures)
    c.pledge_samples.ensures.grows

pub returns-clause-grows : goal.returns-clause-grows
returns-clause-grows g c =
    let mid = c.pledge_samples.new.self in
    grows_still 0 (most_samples_at c.args.domain c.args.self.now) c.args.self.now mid
    (record mid { hub = c.subscriber.new.home; made = c.subscriber.new.made })
    (grows_samples (most_samples_at c.args.domain c.args.self.now) c.most_samples.result c.args.self.now mid
    c.pledge_samples.ensures.loans_stay
    (least (most_samples_at c.args.domain c.args.self.now) (2 ^ 64 - 1) c.most_samples.result c.most_samples.ensures)
    c.pledge_samples.ensures.grows)
    c.subscriber.ensures.messages

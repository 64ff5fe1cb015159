use Rattle.std.proofs.Common.{◌∙◌, ap, sym, refl, subst, ℕ}
use Rattle.iox_hub_commands.specs.Naming.{most_loans, publisher_config}
use Rattle.iox_hub_commands.specs.PortRoom.{GrowsFor, most_samples_from}
use Rattle.iox_hub_commands.proofs.Coming.{publisher_in_room}
use Rattle.iox_hub_commands.proofs.GrowingFor.{grows_none, grows_still}
use Rattle.iox_hub_commands.proofs.PortRooms.{publisher_room, keeps_nowhere}
use Rattle.iox_hub_commands.proofs.Rooms.{when_ok}
use Rattle.iox_hub_commands.proofs.numbered_hub.NumberedHub.publisher_with.Goals as goal

pub returns-then-refuses_publisher-clause-room : goal.returns-then-refuses_publisher-clause-room
returns-then-refuses_publisher-clause-room g c = keeps_nowhere c.args.self.now

pub returns-then-refuses_publisher-clause-comes : goal.returns-then-refuses_publisher-clause-comes
returns-then-refuses_publisher-clause-comes g c
    = (c.publisher_refused.ensures c.args.self.now.made c.args.handlers, refl)

pub returns-then-is_err-clause-room : goal.returns-then-is_err-clause-room
returns-then-is_err-clause-room g c = c.pledge_for_publisher.ensures.keeps

pub returns-then-is_err-clause-comes : goal.returns-then-is_err-clause-comes
returns-then-is_err-clause-comes g c =
    let mid = c.pledge_for_publisher.new.self in (
      publisher_in_room g.U.Default.is_default (λ handlers. g.B.Degrades.degrades handlers) c.args.domain
          (publisher_config c.args.owner c.args.options.now) c.args.options.now.preallocated_samples c.args.handlers c.args.self.now mid
          mid c.publisher_refused-then-is_err.result
          c.pledge_for_publisher.ensures.same (c.publisher_refused-then-is_err.ensures mid.made c.args.handlers),
      ap (λ hub. hub.factories) c.pledge_for_publisher.ensures.same.1,
    )

pub returns-clause-room : goal.returns-clause-room
returns-clause-room g c =
    let mid = c.pledge_for_publisher.new.self in
    let well = sym c.is_err.ensures.value ∙ c.if-is_err.false in
    publisher_room (λ handlers. g.B.Degrades.degrades handlers) g.U.Default.is_default c.args.domain
    (publisher_config c.args.owner c.args.options.now) c.args.options.now.preallocated_samples c.args.handlers c.args.self.now mid
    (record mid { hub = c.publisher.new.home; made = c.publisher.new.made }) c.publisher.result c.pledge_for_publisher.ensures.same
    (λ room. rw c.most_loans.ensures at (when_ok c.pledge_for_publisher.result (c.pledge_for_publisher.ensures.loans room) well))
    (λ room. when_ok c.pledge_for_publisher.result (c.pledge_for_publisher.ensures.samples room) well) refl c.publisher.ensures.step

pub returns-clause-comes : goal.returns-clause-comes
returns-clause-comes g c =
    let mid = c.pledge_for_publisher.new.self in (
      publisher_in_room g.U.Default.is_default (λ handlers. g.B.Degrades.degrades handlers) c.args.domain
          (publisher_config c.args.owner c.args.options.now) c.args.options.now.preallocated_samples c.args.handlers c.args.self.now mid
          (record mid { hub = c.publisher.new.home; made = c.publisher.new.made }) c.publisher.result
          c.pledge_for_publisher.ensures.same c.publisher.ensures.step,
      ap (λ hub. hub.factories) c.pledge_for_publisher.ensures.same.1,
    )

pub returns-then-refuses_publisher-clause-grows : goal.returns-then-refuses_publisher-clause-grows
returns-then-refuses_publisher-clause-grows g c =
    grows_none (most_loans c.args.options.now) (most_samples_from c.args.domain c.args.self.now) c.args.self.now

pub returns-then-is_err-clause-grows : goal.returns-then-is_err-clause-grows
returns-then-is_err-clause-grows g c =
    subst (λ (loans : ℕ). GrowsFor loans (most_samples_from c.args.domain c.args.self.now) c.args.self.now c.pledge_for_publisher.new.self)
    c.most_loans.ensures c.pledge_for_publisher.ensures.grows

pub returns-clause-grows : goal.returns-clause-grows
returns-clause-grows g c =
    let mid = c.pledge_for_publisher.new.self in
    grows_still (most_loans c.args.options.now) (most_samples_from c.args.domain c.args.self.now) c.args.self.now mid
    (record mid { hub = c.publisher.new.home; made = c.publisher.new.made })
    (subst (λ (loans : ℕ). GrowsFor loans (most_samples_from c.args.domain c.args.self.now) c.args.self.now mid)
    c.most_loans.ensures c.pledge_for_publisher.ensures.grows)
    c.publisher.ensures.messages

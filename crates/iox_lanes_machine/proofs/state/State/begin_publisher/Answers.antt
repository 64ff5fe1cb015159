use Rattle.std.proofs.Common.{ℕ, ◌≡◌, true, length, slice_get, Option, Some, sym, subst}
use Rattle.std.specs.List.{All}
use Rattle.iox_lanes_machine.specs.LanesParties.Parties.{PublisherLaneState}
use Rattle.iox_lanes_machine.specs.LanesParties.Within.{IsPublisher}
use Rattle.iox_lanes_machine.specs.LanesParties.declared.call.Move.TheVariants.{Begin}
use Rattle.iox_lanes_machine.specs.State.{world_of}
use Rattle.iox_lanes_machine.specs.World.{World, publisher_fits_at}
use Rattle.iox_lanes_machine.proofs.LanesParties.Rings.{all_at}
use Rattle.iox_lanes_machine.proofs.Findings.{get_is}
use Rattle.iox_lanes_machine.proofs.StateSteps.{publisher_began}
use Rattle.iox_lanes_machine.proofs.state.State.begin_publisher.Goals as goal

pub begin-requires : goal.begin-requires
begin-requires c =
    let m : World = world_of c.args.self.now in
    let lane : PublisherLaneState = c.in-Some.lane.now in
    let found : slice_get m.publishers c.args.place ≡ Some lane
    = get_is m.publishers c.args.place lane ((c.in-Some.ensures.item).3).0 (c.in-Some.ensures.item).1 in
    let is : IsPublisher m.table.sizes lane
    = all_at (IsPublisher m.table.sizes) m.publishers c.args.place lane found c.requires.within.publishers in
    record {
      fits = subst (λ (at : Option PublisherLaneState). publisher_fits_at at (Begin c.args.call.now) ≡ true) found c.requires.fits;
      heads = is.heads;
      widths = subst (λ (n : ℕ). All (λ head. length head ≡ n) lane.heads) (sym is.head) is.widths;
    }

pub returns : goal.returns
returns c =
    let m : World = world_of c.args.self.now in
    let lane : PublisherLaneState = c.in-Some.lane.now in
    publisher_began m c.args.place c.args.call.now lane c.begin.new.self c.saturating_add-self.result
    (get_is m.publishers c.args.place lane ((c.in-Some.ensures.item).3).0 (c.in-Some.ensures.item).1) c.begin.ensures
    c.saturating_add-self.ensures

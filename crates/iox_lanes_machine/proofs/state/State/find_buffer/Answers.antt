use Rattle.std.proofs.Common.{ℕ, ◌≡◌, true, set, slice_get, Option, Some, sym, ◌∙◌, ap, subst}
use Rattle.iox_lanes_machine.specs.LanesBase.declared.calls.route.Route.{Route}
use Rattle.iox_lanes_machine.specs.LanesParties.Publishers.{PublisherState}
use Rattle.iox_lanes_machine.specs.LanesParties.Parties.{PublisherLaneState, lane_meets}
use Rattle.iox_lanes_machine.specs.Findings.{buffers_of, with_buffer, subscribers_meet, buffered_in, buffered_at, buffered_of}
use Rattle.iox_lanes_machine.specs.Links.{LinkState}
use Rattle.iox_lanes_machine.specs.State.{world_of}
use Rattle.iox_lanes_machine.specs.World.{World}
use Rattle.iox_lanes_machine.proofs.Buffers.{buffer_fits}
use Rattle.iox_lanes_machine.proofs.Findings.{get_is}
use Rattle.iox_lanes_machine.proofs.state.State.find_buffer.Goals as goal

pub with_buffer-known-requires : goal.with_buffer-known-requires
with_buffer-known-requires c =
    let m : World = world_of c.args.self.now in
    let lane : PublisherLaneState = c.in-Some.lane.now in
    let route : Route = c.in-Some-route.route in
    let found : slice_get m.publishers c.args.publisher ≡ Some lane
    = get_is m.publishers c.args.publisher lane ((c.in-Some.ensures.item).3).0 (c.in-Some.ensures.item).1 in
    let here : slice_get lane.port.routes c.args.place ≡ Some route
    = sym (c.route.ensures ∙ ap (λ (port : PublisherState). slice_get port.routes c.args.place) c.port.ensures) ∙ c.in-Some-route.is in
    buffer_fits m c.args.publisher c.args.place c.args.messages lane route c.requires.within found here
    (subst (λ (at : Option PublisherLaneState). buffers_of m c.args.place c.args.messages at ≡ true) found c.requires.fits)

pub returns : goal.returns
returns c =
    let m : World = world_of c.args.self.now in
    let lane : PublisherLaneState = c.in-Some.lane.now in
    let route : Route = c.in-Some-route.route in
    let link : LinkState = c.in-Some-get_mut.link.now in
    let after : LinkState = record link { limit = c.args.messages } in
    let known : Route = with_buffer c.args.messages route in
    let found : slice_get m.publishers c.args.publisher ≡ Some lane
    = get_is m.publishers c.args.publisher lane ((c.in-Some.ensures.item).3).0 (c.in-Some.ensures.item).1 in
    let here : slice_get lane.port.routes c.args.place ≡ Some route
    = sym (c.route.ensures ∙ ap (λ (port : PublisherState). slice_get port.routes c.args.place) c.port.ensures) ∙ c.in-Some-route.is in
    let there : slice_get m.links route.connection ≡ Some link
    = get_is m.links route.connection link ((c.in-Some-get_mut.ensures.item).3).0 (c.in-Some-get_mut.ensures.item).1 in
    c.subscriber_meets.ensures
    ∙ ap (λ (l : LinkState). record m {
      links = set m.links route.connection l;
      publishers = set m.publishers c.args.publisher c.meet.new.self;
      subscribers = subscribers_meet m.subscribers c.subscriber-receiver.result c.with_buffer-known.result
          (slice_get m.subscribers c.subscriber-receiver.result);
    }) c.resize.ensures
    ∙ ap (λ (s : ℕ). record m {
      links = set m.links route.connection after;
      publishers = set m.publishers c.args.publisher c.meet.new.self;
      subscribers = subscribers_meet m.subscribers s c.with_buffer-known.result (slice_get m.subscribers s);
    }) c.subscriber-receiver.ensures
    ∙ ap (λ (r : Route). record m {
      links = set m.links route.connection after;
      publishers = set m.publishers c.args.publisher c.meet.new.self;
      subscribers = subscribers_meet m.subscribers link.subscriber r (slice_get m.subscribers link.subscriber);
    }) c.with_buffer-known.ensures
    ∙ ap (λ (l : PublisherLaneState). record m {
      links = set m.links route.connection after;
      publishers = set m.publishers c.args.publisher l;
      subscribers = subscribers_meet m.subscribers link.subscriber known (slice_get m.subscribers link.subscriber);
    }) (c.meet.ensures ∙ ap (λ (r : Route). lane_meets r lane) c.with_buffer-known.ensures)
    ∙ sym (ap (buffered_in m c.args.publisher c.args.messages lane route) there)
    ∙ sym (ap (buffered_at m c.args.publisher c.args.messages lane) here)
    ∙ sym (ap (buffered_of m c.args.publisher c.args.place c.args.messages) found)

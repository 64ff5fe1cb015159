use Rattle.std.proofs.Common.{arith, rules, ◌≡◌, ◌*◌, length, slice_get, slice_index_or, Some, sym, ◌∙◌, ap, option_map}
use Rattle.std.proofs.lemmas.List.{length-map}
use Rattle.std.proofs.lemmas.Option.{slice_get-get_or, slice_get-map, slice_get_within}
use Rattle.iox_domain.specs.Kept.{kept_under}
use Rattle.iox_lanes_opening.specs.Deciding.{would_fail}
use Rattle.iox_lanes.specs.Alone.{KeepAloneAt}
use Rattle.iox_lanes.proofs.Alone.{keeps_at}
use borrow.Author.Count.{below_more}
use Rattle.iox_lanes.specs.Failing.{asked, failing}
use Rattle.iox_lanes.proofs.Failing.{next_said}
use Rattle.iox_lanes.specs.Laid.{first_slot}
use Rattle.iox_lanes.specs.Spelling.{spelling_of}
use Rattle.iox_lanes.proofs.LaidPublishers.{next_publisher}
use Rattle.iox_lanes.proofs.Tied.{ties_next}
use Rattle.iox_lanes.proofs.building.find_publishers.Goals as goal

pub publisher_of-port-requires : goal.publisher_of-port-requires
publisher_of-port-requires g c =
    c.requires.there c.loop-place.place _ (slice_get-get_or c.args.publishers.now c.loop-place.place 0 (search rules))

pub loop-place-preserved : goal.loop-place-preserved
loop-place-preserved g c =
    let wanted = asked g.B.FixedDecision.decision c.args.domain.now.state.publisher_handlers c.args.publishers.now in
    let there : slice_get c.args.publishers.now c.loop-place.place ≡ Some (slice_index_or c.args.publishers.now c.loop-place.place 0) =
    slice_get-get_or c.args.publishers.now c.loop-place.place 0 (search rules) in
    let is = slice_get-map (λ number. would_fail g.B.FixedDecision.decision (kept_under number c.args.domain.now.state.publisher_handlers))
    c.args.publishers.now
    c.loop-place.place
    ∙ ap (option_map (λ number. would_fail g.B.FixedDecision.decision (kept_under number c.args.domain.now.state.publisher_handlers)))
    there in
    let as_many : length (failing c.args.lanes.now.lanes) ≡ length wanted = c.requires.publishers
    ∙ sym (length-map c.args.publishers.now (λ number. would_fail g.B.FixedDecision.decision (kept_under number
    c.args.domain.now.state.publisher_handlers))) in
    let next = ties_next c.args.domain.now.state.ports c.args.publishers.now c.args.subscribers.now c.loop-place.connections.items
    c.find_connections.new.connections.items c.loop-place.place _ c.publisher_of-port.result.now there
    c.publisher_of-port.ensures c.loop-place.invariant.2 c.in_ok-find_connections.ensures.ties c.loop-place.invariant.3 in (
      search rules,
      next_said wanted (failing c.args.lanes.now.lanes) (failing c.loop-place.lanes.lanes) _ c.loop-place.place _ is as_many
          c.loop-place.invariant.1
          (c.find_connections.ensures.fails ∙ c.find_history.ensures.fails ∙ c.in_ok-find_publisher.ensures.fails),
      next.0,
      next.1,
      next_publisher g.B.FixedDecision.decision
          (spelling_of c.args.domain.now.state.ports.sizes.sequence_numbers g.T.Words.parts g.T.Words.WORDS g.U.Words.parts g.U.Words.WORDS)
          c.args.domain.now c.args.publishers.now
          c.args.subscribers.now c.args.lanes.now.lanes c.loop-place.lanes.lanes c.find_publisher.new.lanes.lanes
          c.find_history.new.lanes.lanes c.find_connections.new.lanes.lanes
          c.loop-place.place c.first_slot-first.result c.publisher_of-port.result.now c.publisher_of-port.ensures
          c.loop-place.invariant.4 c.in_ok-find_publisher.ensures.behind
          (c.first_slot-first.ensures ∙ ap (λ w. first_slot (slice_get w.publishers c.loop-place.place)) c.lanes.ensures)
          c.in_ok-find_history.ensures.behind c.in_ok-find_connections.ensures.behind,
      below_more (λ k. KeepAloneAt c.args.domain.now.state.ports c.args.publishers.now c.args.subscribers.now k) c.loop-place.place
          c.loop-place.invariant.5
          (keeps_at c.args.domain.now.state.ports c.args.publishers.now c.args.subscribers.now c.loop-place.place _
          c.publisher_of-port.result.now there c.publisher_of-port.ensures
          (record { remembered = c.in_ok-find_history.ensures.alone; waiting = c.in_ok-find_connections.ensures.alone })),
    )

pub returns-clause-alone : goal.returns-clause-alone
returns-clause-alone g c = λ at number port there found.
    c.loop-place.invariant.5 at (omega (arith, c.loop-place-test.false, slice_get_within c.args.publishers.now at number there)) number
    port there found

pub returns-clause-ties : goal.returns-clause-ties
returns-clause-ties g c = record {
  count = c.loop-place.invariant.2 ∙ ap (λ n. n * length c.args.subscribers.now)
      (omega (arith, c.loop-place-test.false, c.loop-place.auto.place-end));
  rows = λ at number port there found. c.loop-place.invariant.3 at
      (omega (arith, c.loop-place-test.false, slice_get_within c.args.publishers.now at number there)) number port there found;
}

use Rattle.std.proofs.Common.{arith, rules, ◌≡◌, ◌++◌, ◌∷◌, [], Some, slice_get, slice_index, slice_index_or, sym, ap, subst, ◌∙◌}
use borrow.Author.Count.{below_more}
use Rattle.std.proofs.lemmas.Option.{slice_get-get_or}
use Rattle.iox_domain.specs.Subscribers.{subscriber_of}
use Rattle.iox_domain.specs.DomainPorts.Ports.{connection_of}
use Rattle.iox_lanes_machine.specs.declared.found.Found.TheVariants as found
use Rattle.iox_lanes.specs.Alone.{AreAlone}
use Rattle.iox_lanes.specs.Behind.{behind_findings, behind_finding}
use Rattle.iox_lanes.specs.Laid.{link_findings, waiting_findings}
use Rattle.iox_lanes.specs.Spelling.{spelling_of}
use Rattle.iox_lanes.specs.Tied.{tie_for}
use Rattle.iox_lanes.proofs.Behind.{behind_none, behind_one, next_flat}
use Rattle.iox_lanes.proofs.Rows.{one_more}
use Rattle.iox_lanes.proofs.building.find_connections.Goals as goal

pub loop-other-init : goal.loop-other-init
loop-other-init g c =
    (search rules, search rules, search rules, sym (behind_none c.args.lanes.now.lanes), λ k below. absurd (omega (arith, below)))

pub loop-other-preserved : goal.loop-other-preserved
loop-other-preserved g c =
    let there : slice_get c.args.subscribers.now c.loop-other.other ≡ Some (slice_index_or c.args.subscribers.now c.loop-other.other 0) =
    slice_get-get_or c.args.subscribers.now c.loop-other.other 0 (search rules) in
    let pushed : c.push.new.self.items ≡ c.loop-other.connections.items ++ c.tie_to-index.result ∷ [] = search rules in (
      search rules,
      search rules,
      one_more (λ number. tie_for c.args.port.now (subscriber_of number c.args.domain.now.state.ports.subscribers))
          c.args.subscribers.now c.loop-other.other _ c.args.connections.now.items _ _ there c.loop-other.invariant.2
          (pushed ∙ ap (λ index. c.loop-other.connections.items ++ index ∷ []) c.tie_to-index.ensures),
      next_flat c.args.lanes.now.lanes c.loop-other.lanes.lanes c.find_waiting.new.lanes.lanes
          (λ other. link_findings
          (spelling_of c.args.domain.now.state.ports.sizes.sequence_numbers g.T.Words.parts g.T.Words.WORDS g.U.Words.parts g.U.Words.WORDS)
          c.args.place other
          c.args.first
          c.args.port.now (tie_for c.args.port.now
          (subscriber_of (slice_index c.args.subscribers.now other) c.args.domain.now.state.ports.subscribers))) c.loop-other.other
          c.loop-other.invariant.3
          (behind_one c.loop-other.lanes.lanes c.find.new.self.lanes c.find_waiting.new.lanes.lanes
          (found.Buffer c.args.place c.loop-other.other (connection_of c.tie_to-index.result c.args.port.now).limit)
          (waiting_findings
          (spelling_of c.args.domain.now.state.ports.sizes.sequence_numbers g.T.Words.parts g.T.Words.WORDS g.U.Words.parts g.U.Words.WORDS)
          c.args.place
          c.loop-other.other c.args.first
          c.args.port.now (connection_of c.tie_to-index.result c.args.port.now).waiting)
          (c.in_ok-find.ensures.behind ∙ ap (λ n. behind_finding c.loop-other.lanes.lanes
          (found.Buffer c.args.place c.loop-other.other n)) c.limit_at.ensures) c.in_ok-find_waiting.ensures.behind
          ∙ ap (λ index. behind_findings c.loop-other.lanes.lanes
          (link_findings
          (spelling_of c.args.domain.now.state.ports.sizes.sequence_numbers g.T.Words.parts g.T.Words.WORDS g.U.Words.parts g.U.Words.WORDS)
          c.args.place
          c.loop-other.other
          c.args.first c.args.port.now index)) c.tie_to-index.ensures),
      below_more (λ k. AreAlone c.args.port.now
          (connection_of (tie_for c.args.port.now
          (subscriber_of (slice_index c.args.subscribers.now k) c.args.domain.now.state.ports.subscribers)) c.args.port.now).waiting)
          c.loop-other.other c.loop-other.invariant.4
          (subst (λ index. AreAlone c.args.port.now (connection_of index c.args.port.now).waiting) c.tie_to-index.ensures
          c.in_ok-find_waiting.ensures.alone),
    )

pub returns-clause-alone : goal.returns-clause-alone
returns-clause-alone g c = λ other below. c.loop-other.invariant.4 other (omega (arith, below, c.loop-other-test.false))

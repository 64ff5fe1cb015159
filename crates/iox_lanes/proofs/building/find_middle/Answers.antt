use Rattle.std.proofs.Common.{rules, slice_index, sym, ap, ◌∙◌}
use Rattle.iox_lanes_machine.specs.LanesBase.declared.words.word.SlotWord.TheVariants.{UserHeader}
use Rattle.iox_lanes_machine.specs.declared.found.Found.TheVariants as found
use Rattle.iox_lanes_opening.specs.Middles.{middle_words}
use Rattle.iox_lanes.specs.Behind.{behind_finding}
use Rattle.iox_lanes.proofs.Behind.{behind_none, next_listed}
use Rattle.iox_lanes.proofs.building.find_middle.Goals as goal

pub loop-word-init : goal.loop-word-init
loop-word-init g c = (search rules, search rules, sym (behind_none c.args.lanes.now.lanes), c.middle_count-word-end.ensures)

pub loop-word-preserved : goal.loop-word-preserved
loop-word-preserved g c = (
  search rules,
  search rules,
  next_listed c.args.lanes.now.lanes c.loop-word.lanes.lanes c.find_word.new.lanes.lanes
      (λ word. found.Held c.args.slot (UserHeader word) (slice_index
      ((middle_words c.args.numbered g.U.Words.parts) (c.args.sequence, c.args.user_header.now)) word)) c.loop-word.word
      c.loop-word.invariant.2
      (c.in_ok-find_word.ensures.behind ∙ ap
      (λ held. behind_finding c.loop-word.lanes.lanes (found.Held c.args.slot (UserHeader c.loop-word.word) held))
      c.middle_word-value.ensures),
  c.loop-word.invariant.3,
)

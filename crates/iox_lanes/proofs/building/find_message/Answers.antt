use Rattle.std.proofs.Common.{sym, ap, ◌∙◌}
use Rattle.std.proofs.lemmas.Result.{on_ok_weaker}
use Rattle.iox_lanes.specs.Behind.{behind_findings}
use Rattle.iox_lanes.specs.Laid.{slot_in}
use Rattle.iox_lanes.specs.Spelling.{spelling_of}
use Rattle.iox_lanes.proofs.Alone.{has_one}
use Rattle.iox_lanes.proofs.Behind.{behind_none, both_are, message_behind, no_value, one_value}
use Rattle.iox_lanes.proofs.building.find_message.Goals as goal

pub returns-in-Some-clause-waiting : goal.returns-in-Some-clause-waiting
returns-in-Some-clause-waiting g c = on_ok_weaker c.find_value.result
    (λ laid index at message there same. message_behind
    (spelling_of c.args.numbered g.T.Words.parts g.T.Words.WORDS g.U.Words.parts g.U.Words.WORDS) c.args.first c.args.port.now message
    c.args.lanes.now.lanes c.find_word.new.lanes.lanes c.find_word-2.new.lanes.lanes c.find_word-3.new.lanes.lanes
    c.find_middle.new.lanes.lanes c.find_value.new.lanes.lanes
    c.saturating_add-at.result c.elements.result (c.sequence.result, c.user_header.result.now) c.payload.result.now
    c.in_ok-find_word.ensures.behind c.in_ok-find_word-2.ensures.behind c.in_ok-find_word-3.ensures.behind
    c.in_ok-find_middle.ensures.behind
    (laid ∙ ap (behind_findings c.find_middle.new.lanes.lanes)
    (one_value g.T.Words.parts g.T.Words.WORDS c.saturating_add-at.result c.payload.result.now c.in-Some.value.now
    c.in-Some.ensures.value))
    (c.saturating_add-at.ensures ∙ ap (slot_in c.args.first) (sym same))
    (c.elements.ensures.waiting index at message there same) (both_are (c.sequence.ensures.waiting index at message there same)
    (c.user_header.ensures.waiting index at message there same))
    (c.payload.ensures.waiting index at message there same)) c.find_value.ensures.behind

pub returns-in-Some-clause-remembered : goal.returns-in-Some-clause-remembered
returns-in-Some-clause-remembered g c
    = on_ok_weaker c.find_value.result
    (λ laid at message there same. message_behind
    (spelling_of c.args.numbered g.T.Words.parts g.T.Words.WORDS g.U.Words.parts g.U.Words.WORDS) c.args.first c.args.port.now message
    c.args.lanes.now.lanes c.find_word.new.lanes.lanes c.find_word-2.new.lanes.lanes c.find_word-3.new.lanes.lanes
    c.find_middle.new.lanes.lanes c.find_value.new.lanes.lanes
    c.saturating_add-at.result c.elements.result (c.sequence.result, c.user_header.result.now) c.payload.result.now
    c.in_ok-find_word.ensures.behind c.in_ok-find_word-2.ensures.behind c.in_ok-find_word-3.ensures.behind
    c.in_ok-find_middle.ensures.behind
    (laid ∙ ap (behind_findings c.find_middle.new.lanes.lanes)
    (one_value g.T.Words.parts g.T.Words.WORDS c.saturating_add-at.result c.payload.result.now c.in-Some.value.now
    c.in-Some.ensures.value))
    (c.saturating_add-at.ensures ∙ ap (slot_in c.args.first) (sym same))
    (c.elements.ensures.remembered at message there same) (both_are (c.sequence.ensures.remembered at message there same)
    (c.user_header.ensures.remembered at message there same))
    (c.payload.ensures.remembered at message there same)) c.find_value.ensures.behind

pub returns-in-None-clause-waiting : goal.returns-in-None-clause-waiting
returns-in-None-clause-waiting g c = λ index at message there same. message_behind
    (spelling_of c.args.numbered g.T.Words.parts g.T.Words.WORDS g.U.Words.parts g.U.Words.WORDS) c.args.first c.args.port.now message
    c.args.lanes.now.lanes c.find_word.new.lanes.lanes c.find_word-2.new.lanes.lanes c.find_word-3.new.lanes.lanes
    c.find_middle.new.lanes.lanes c.find_middle.new.lanes.lanes
    c.saturating_add-at.result c.elements.result (c.sequence.result, c.user_header.result.now) c.payload.result.now
    c.in_ok-find_word.ensures.behind c.in_ok-find_word-2.ensures.behind c.in_ok-find_word-3.ensures.behind
    c.in_ok-find_middle.ensures.behind
    (sym (behind_none c.find_middle.new.lanes.lanes) ∙ ap (behind_findings c.find_middle.new.lanes.lanes)
    (no_value g.T.Words.parts g.T.Words.WORDS c.saturating_add-at.result c.payload.result.now c.in-None.ensures.value))
    (c.saturating_add-at.ensures ∙ ap (slot_in c.args.first) (sym same))
    (c.elements.ensures.waiting index at message there same) (both_are (c.sequence.ensures.waiting index at message there same)
    (c.user_header.ensures.waiting index at message there same))
    (c.payload.ensures.waiting index at message there same)

pub returns-in-None-clause-remembered : goal.returns-in-None-clause-remembered
returns-in-None-clause-remembered g c
    = λ at message there same. message_behind
    (spelling_of c.args.numbered g.T.Words.parts g.T.Words.WORDS g.U.Words.parts g.U.Words.WORDS) c.args.first c.args.port.now message
    c.args.lanes.now.lanes c.find_word.new.lanes.lanes c.find_word-2.new.lanes.lanes c.find_word-3.new.lanes.lanes
    c.find_middle.new.lanes.lanes c.find_middle.new.lanes.lanes
    c.saturating_add-at.result c.elements.result (c.sequence.result, c.user_header.result.now) c.payload.result.now
    c.in_ok-find_word.ensures.behind c.in_ok-find_word-2.ensures.behind c.in_ok-find_word-3.ensures.behind
    c.in_ok-find_middle.ensures.behind
    (sym (behind_none c.find_middle.new.lanes.lanes) ∙ ap (behind_findings c.find_middle.new.lanes.lanes)
    (no_value g.T.Words.parts g.T.Words.WORDS c.saturating_add-at.result c.payload.result.now c.in-None.ensures.value))
    (c.saturating_add-at.ensures ∙ ap (slot_in c.args.first) (sym same))
    (c.elements.ensures.remembered at message there same) (both_are (c.sequence.ensures.remembered at message there same)
    (c.user_header.ensures.remembered at message there same))
    (c.payload.ensures.remembered at message there same)

pub returns-in-Some-clause-one : goal.returns-in-Some-clause-one
returns-in-Some-clause-one g c = on_ok_weaker c.find_value.result
    (λ laid. has_one c.args.port.now c.args.slot c.sequence.result c.elements.result c.user_header.result.now c.payload.result.now
    c.sequence.ensures.remembered c.sequence.ensures.waiting c.elements.ensures.remembered c.elements.ensures.waiting
    c.user_header.ensures.remembered c.user_header.ensures.waiting
    c.payload.ensures.remembered c.payload.ensures.waiting) c.find_value.ensures.behind

pub returns-in-None-clause-one : goal.returns-in-None-clause-one
returns-in-None-clause-one g c = has_one c.args.port.now c.args.slot c.sequence.result c.elements.result c.user_header.result.now
    c.payload.result.now
    c.sequence.ensures.remembered c.sequence.ensures.waiting c.elements.ensures.remembered c.elements.ensures.waiting
    c.user_header.ensures.remembered c.user_header.ensures.waiting
    c.payload.ensures.remembered c.payload.ensures.waiting

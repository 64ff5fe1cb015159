use Rattle.std.proofs.Common.{◌∙◌, sym}
use Rattle.iox_line.proofs.WordLemmas.{take-rest}
use Rattle.iox_line.proofs.MarkLemmas.{cut_found, cut_none, cut_first, cut_separator}
use Rattle.iox_line.proofs.text.words.cut_text.Goals as goal

pub returns-then-separator-mark-clause-front : goal.returns-then-separator-mark-clause-front
returns-then-separator-mark-clause-front c = (cut_separator c.args.mark c.args.separator c.args.text.now c.if-separator-mark.true).0

pub returns-then-separator-mark-clause-back : goal.returns-then-separator-mark-clause-back
returns-then-separator-mark-clause-back c = (cut_separator c.args.mark c.args.separator c.args.text.now c.if-separator-mark.true).1

pub returns-then-begins-clause-front : goal.returns-then-begins-clause-front
returns-then-begins-clause-front c =
    (cut_first c.args.mark c.args.separator c.args.text.now c.if-separator-mark.false (sym c.begins.ensures ∙ c.if-begins.true)).0

pub returns-then-begins-clause-back : goal.returns-then-begins-clause-back
returns-then-begins-clause-back c =
    (cut_first c.args.mark c.args.separator c.args.text.now c.if-separator-mark.false (sym c.begins.ensures ∙ c.if-begins.true)).1

pub returns-in-Some-clause-front : goal.returns-in-Some-clause-front
returns-in-Some-clause-front c =
    (cut_found c.args.mark c.args.separator c.in-Some.place c.args.text.now c.if-separator-mark.false
    (sym c.begins.ensures ∙ c.if-begins.false) (sym c.marked_place.ensures.place ∙ c.in-Some.is)).1

pub returns-in-Some-clause-back : goal.returns-in-Some-clause-back
returns-in-Some-clause-back c =
    rw (take-rest c.args.text.now) (cut_found c.args.mark c.args.separator c.in-Some.place c.args.text.now c.if-separator-mark.false
    (sym c.begins.ensures ∙ c.if-begins.false) (sym c.marked_place.ensures.place ∙ c.in-Some.is)).2

pub returns-in-None-clause-front : goal.returns-in-None-clause-front
returns-in-None-clause-front c =
    (cut_none c.args.mark c.args.separator c.args.text.now c.if-separator-mark.false (sym c.begins.ensures ∙ c.if-begins.false)
    (sym c.marked_place.ensures.place ∙ c.in-None.is)).0

pub returns-in-None-clause-back : goal.returns-in-None-clause-back
returns-in-None-clause-back c =
    (cut_none c.args.mark c.args.separator c.args.text.now c.if-separator-mark.false (sym c.begins.ensures ∙ c.if-begins.false)
    (sym c.marked_place.ensures.place ∙ c.in-None.is)).1

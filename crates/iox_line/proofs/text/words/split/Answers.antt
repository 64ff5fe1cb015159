use Rattle.std.proofs.Common.{sym}
use Rattle.std.proofs.lemmas.List.{take_all}
use Rattle.iox_line.proofs.WordLemmas.{cut_there, take-rest, pieces_cut, before-alone, beyond-alone, pieces_of-alone}
use Rattle.iox_line.proofs.text.words.split.Goals as goal

pub returns-then-text-end-clause-first : goal.returns-then-text-end-clause-first
returns-then-text-end-clause-first c =
    (cut_there c.args.separator c.args.text.now c.loop-end.end c.loop-end-test.true c.if-text-end.true c.loop-end.invariant).0

pub returns-then-text-end-clause-rest : goal.returns-then-text-end-clause-rest
returns-then-text-end-clause-rest c =
    rw (take-rest c.args.text.now) (cut_there c.args.separator c.args.text.now c.loop-end.end c.loop-end-test.true c.if-text-end.true
    c.loop-end.invariant).1

pub returns-then-text-end-clause-pieces : goal.returns-then-text-end-clause-pieces
returns-then-text-end-clause-pieces c =
    rw (take-rest c.args.text.now) (pieces_cut c.args.separator c.args.text.now c.loop-end.end c.loop-end-test.true c.if-text-end.true
    c.loop-end.invariant)

pub returns-clause-first : goal.returns-clause-first
returns-clause-first c = sym (before-alone c.args.separator c.args.text.now
    (rw (take_all c.loop-end.end c.args.text.now c.loop-end-test.false) at c.loop-end.invariant))

pub returns-clause-rest : goal.returns-clause-rest
returns-clause-rest c = sym (beyond-alone c.args.separator c.args.text.now
    (rw (take_all c.loop-end.end c.args.text.now c.loop-end-test.false) at c.loop-end.invariant))

pub returns-clause-pieces : goal.returns-clause-pieces
returns-clause-pieces c = pieces_of-alone c.args.separator c.args.text.now
    (rw (take_all c.loop-end.end c.args.text.now c.loop-end-test.false) at c.loop-end.invariant)

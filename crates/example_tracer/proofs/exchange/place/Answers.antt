use Rattle.std.proofs.Common.{sym, arith, eq-eqb, ◌≡◌, length}
use Rattle.std.proofs.lemmas.List.Sums.{position_or_len_is}
use Rattle.example_tracer.specs.Exchange.{is_byte}
use Rattle.example_tracer.proofs.exchange.place.Goals as goal

pub returns-then-text-at-clause-place : goal.returns-then-text-at-clause-place
returns-then-text-at-clause-place c
    = sym (position_or_len_is (is_byte c.args.byte) c.args.text.now c.loop-at.at 0 (omega arith) c.loop-at.invariant
    (λ within. eq-eqb _ _ c.if-text-at.true))

pub returns-clause-place : goal.returns-clause-place
returns-clause-place c =
    let all : c.loop-at.at ≡ length c.args.text.now = omega arith in
    sym (position_or_len_is (is_byte c.args.byte) c.args.text.now (length c.args.text.now) 0 (omega arith)
    (λ k below. c.loop-at.invariant k (omega arith)) (λ within. absurd (omega arith)))

use Rattle.std.proofs.Common.{◌≡◌, ◌∙◌, ◌≤◌, ◌+◌, ◌-◌, ◌++◌, ap, arith, decimal, drop, length, rules}
use Rattle.std.proofs.lemmas.Fmt.{length-decimal-le}
use Rattle.iox_line.proofs.PrintLemmas.{after_front}
use Rattle.iox_line.proofs.print.write_number.Goals as goal

pub write_digits-digits-requires : goal.write_digits-digits-requires
write_digits-digits-requires c =
    let short : length (decimal c.args.number) ≤ 20 = search (rules, length-decimal-le 20) in
    (omega (arith, short), omega (arith, c.requires.text))

pub overflow_sub-start : goal.overflow_sub-start
overflow_sub-start c =
    let short : length (decimal c.args.number) ≤ 20 = search (rules, length-decimal-le 20) in
    omega (arith, short, c.write_digits-digits.ensures.start, c.requires.kind)

pub returns-clause-start : goal.returns-clause-start
returns-clause-start c =
    let short : length (decimal c.args.number) ≤ 20 = search (rules, length-decimal-le 20) in
    omega (arith, short, c.write_digits-digits.ensures.start, c.requires.kind)

pub returns-clause-written : goal.returns-clause-written
returns-clause-written c =
    let short : length (decimal c.args.number) ≤ 20 = search (rules, length-decimal-le 20) in
    let place : c.write_digits-digits.result - length c.args.kind.now + length c.args.kind.now ≡ c.write_digits-digits.result
    = omega (arith, short, c.write_digits-digits.ensures.start, c.requires.kind) in
    ap (λ l. drop (c.write_digits-digits.result - length c.args.kind.now) l) c.put.ensures
    ∙ after_front (c.write_digits-digits.result - length c.args.kind.now) c.write_digits-digits.new.buf _ (omega (arith, short))
    ∙ ap (λ k. c.args.kind.now ++ drop k c.write_digits-digits.new.buf) place
    ∙ ap (λ l. c.args.kind.now ++ l) c.write_digits-digits.ensures.written

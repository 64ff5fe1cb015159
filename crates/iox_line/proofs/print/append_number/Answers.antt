use Rattle.std.proofs.Common.{◌≡◌, ◌+◌, ◌-◌, ap, arith, drop, rules, take}
use Rattle.iox_line.proofs.PrintLemmas.{appended}
use Rattle.iox_line.proofs.print.append_number.Goals as goal

pub returns-clause-ok : goal.returns-clause-ok
returns-clause-ok c =
    let whole : c.write_number-start.result + 24 - c.write_number-start.result ≡ 24 = omega arith in
    appended _ _ _ _ _ _ _ _ c.write_number-start.result _ c.in_ok-extend_from_slice.ensures.items c.truncate.ensures.items
    c.write_number-start.ensures.written
    (ap (λ n. take n (drop c.write_number-start.result c.write_number-start.new.text)) whole)
    c.write_number-start.ensures.start
    (search rules)

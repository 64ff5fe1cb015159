use Rattle.std.proofs.Common.{◌<◌, ◌^◌, length, arith}
use Rattle.iox_hub_rows.proofs.recorded.put_values.Goals as goal

pub returns-then-values-lt9223372036854775808 : goal.returns-then-values-lt9223372036854775808
returns-then-values-lt9223372036854775808 g c =
    let is = c.if-values-lt9223372036854775808.true in
    let small : length c.in_ok-values.values.now < 2 ^ 63 = grind arith in
    record { put = λ handed followed. c.in_ok-values.ensures.sent handed followed small }

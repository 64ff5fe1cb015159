use Rattle.std.proofs.Common.{◌≡◌, ap, arith, max}
use Rattle.iox_negotiate_base.specs.DescribeBase.Detail.{detail}
use Rattle.iox_negotiate.proofs.laws.asks_the_larger.Goals as goal

pub returns : goal.returns
returns c = λ payload alignment. (
  λ smaller. let own : max payload.alignment alignment ≡ payload.alignment = omega (arith, smaller) in
      ap (λ a. detail payload.variant payload.name payload.size a) own,
  λ larger. let asked : max payload.alignment alignment ≡ alignment = omega (arith, larger) in
      ap (λ a. detail payload.variant payload.name payload.size a) asked,
)

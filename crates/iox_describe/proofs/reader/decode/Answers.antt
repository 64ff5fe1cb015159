-- Bytes that are more than any line are the line of no description.
use Rattle.std.proofs.Common.{◌<◌, ℕ, List, length, ap, arith}
use Rattle.iox_describe_verdict.specs.DescribeSettings.Agreement.{Agreement}
use Rattle.iox_describe.specs.Line.{Spells}
use Rattle.iox_describe.specs.Within.{IsWithinLimits}
use Rattle.iox_describe.proofs.Length.{line_length}
use Rattle.iox_describe.proofs.reader.decode.Goals as goal

too_long : (bytes : List ℕ) (a : Agreement) → 32768 < length bytes → IsWithinLimits a → Spells bytes a → ⊥
too_long bytes a long within spells = omega (arith, long, line_length spells.0 a within, ap length spells.2)

pub returns-then-bytes-gt-MAX_LINE_LENGTH-clause-read : goal.returns-then-bytes-gt-MAX_LINE_LENGTH-clause-read
returns-then-bytes-gt-MAX_LINE_LENGTH-clause-read c =
    λ a within is. absurd (too_long c.args.bytes.now a (omega arith) within is)

pub returns-then-bytes-gt-MAX_LINE_LENGTH-clause-invalid : goal.returns-then-bytes-gt-MAX_LINE_LENGTH-clause-invalid
returns-then-bytes-gt-MAX_LINE_LENGTH-clause-invalid c =
    λ refused a within is. too_long c.args.bytes.now a (omega arith) within is

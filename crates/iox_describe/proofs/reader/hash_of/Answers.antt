-- The digits that were written are the bytes that they were written for.
use Rattle.std.proofs.Common.{◌≡◌, ℕ, List, ap, ◌∙◌}
use Rattle.std.specs.Prelude.{Ok}
use Rattle.hex.specs.Hex.{decode_sized}
use Rattle.hex.proofs.HexLemmas.{decode_sized-encode_lower}
use Rattle.iox_describe_verdict.specs.DescribeBase.declared.hash.ServiceHash.{ServiceHash}
use Rattle.iox_describe.proofs.reader.hash_of.Goals as goal

abbrev of_digest : List ℕ → ServiceHash
of_digest digest = record { digest = digest }

pub returns : goal.returns
returns c =
    λ hash twenty is.
    let read : decode_sized c.as_bytes.result.now 20 ≡ Ok hash.digest
    = ap (λ t. decode_sized t 20) (c.as_bytes.ensures.value ∙ is) ∙ decode_sized-encode_lower hash.digest 20 twenty.whole
    twenty.bytes in
    let written = rw read at c.decode_to_slice.ensures.value in
    ap of_digest written.1

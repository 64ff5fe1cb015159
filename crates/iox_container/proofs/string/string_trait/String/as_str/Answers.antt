use Rattle.iox_container.proofs.Texts.{IsUtf8-from_string_bytes}
use Rattle.iox_container.proofs.string.string_trait.String.as_str.Goals as goal

pub from_utf8_unchecked-requires : goal.from_utf8_unchecked-requires
from_utf8_unchecked-requires g c =
    rw c.as_bytes.ensures.value (IsUtf8-from_string_bytes _ c.as_bytes.ensures.valid)

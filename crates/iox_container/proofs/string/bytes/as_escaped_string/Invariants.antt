use Rattle.std.proofs.Common.{◌≡◌, take, string_bytes}
use Rattle.std.specs.List.{flat_map}
use Rattle.iox_container.specs.Bytes.{escape_of}
use Rattle.iox_container.proofs.string.bytes.as_escaped_string.Given as goal

abbrev pub invariant-loop-byte : goal.invariant-loop-byte
invariant-loop-byte g l = string_bytes l.text ≡ flat_map escape_of (take l.byte-index l.bytes)

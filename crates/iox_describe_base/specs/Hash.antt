-- The hash that identifies a service.
use Rattle.std.specs.Prelude.{ℕ, List, ◌++◌, codes}
use Rattle.sha1.specs.Sha1.{sha1}
use Rattle.hex.specs.Hex.{encode_lower}
use Rattle.iox_describe_base.specs.declared.pattern.MessagingPattern.{MessagingPattern}
use Rattle.iox_describe_base.specs.declared.pattern.MessagingPattern.TheVariants.{RequestResponse, PublishSubscribe, Event}
use Rattle.iox_describe_base.specs.declared.hash.ServiceHash.{ServiceHash}

-- The ASCII digit of a pattern.
abbrev pub digit_of : MessagingPattern → List ℕ
digit_of RequestResponse = codes "0"
digit_of PublishSubscribe = codes "1"
digit_of Event = codes "2"

-- The hexadecimal text of a hash, in lower case.
abbrev pub hash_text : ServiceHash → List ℕ
hash_text h = encode_lower h.digest

-- The hash of a service: SHA-1 over the digit of the pattern and the name.
abbrev pub service_hash_of : MessagingPattern → List ℕ → ServiceHash
service_hash_of pattern name = record { digest = sha1 (digit_of pattern ++ name) }

-- The text of a service's hash: SHA-1 over the digit of the pattern and the name, in lower-case hexadecimal.
abbrev pub service_hash_text : MessagingPattern → List ℕ → List ℕ
service_hash_text pattern name = encode_lower (sha1 (digit_of pattern ++ name))

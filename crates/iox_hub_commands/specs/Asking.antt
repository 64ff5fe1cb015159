-- The agreement of a service that options ask for, whatever its pattern.
use Rattle.std.specs.Prelude.{ℕ, List}
use Rattle.iox_command.specs.Patterns.{pattern_of}
use Rattle.iox_command.specs.declared.service.ServiceOptions.{ServiceOptions}
use Rattle.iox_hub_base.specs.DescribeBase.Hash.{service_hash_of}
use Rattle.iox_hub_base.specs.DescribeBase.declared.attribute.Attribute.{Attribute}
use Rattle.iox_hub_base.specs.DescribeBase.declared.hash.ServiceHash.{ServiceHash}
use Rattle.iox_hub_base.specs.DescribeBase.declared.message_type.MessageTypeDetails.{MessageTypeDetails}
use Rattle.iox_hub_base.specs.DescribeSettings.Agreement.{Agreement, agreement}
use Rattle.iox_machine.specs.Asked.{settings_of}

-- The hash under which a service with these options and this name is found.
abbrev pub hash_of : List ℕ → ServiceOptions → ServiceHash
hash_of name named = service_hash_of (pattern_of named) name

-- The agreement of a service that is created with these options and attributes.
abbrev pub agreed_of : List ℕ → ServiceOptions → MessageTypeDetails → List Attribute → Agreement
agreed_of name named types attributes = agreement name (hash_of name named) (settings_of types named) attributes

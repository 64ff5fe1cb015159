-- The terms of a hub with typed calls.
use Rattle.iox_command.specs.NegotiateBase.DescribeBase.declared.type_detail.TypeVariant.{TypeVariant}
use Rattle.iox_domain.specs.Fitting.{asked_types}
use Rattle.iox_hub_commands.specs.Terms.{Terms}

-- The terms of a hub whose services have messages of the types that are asked for: values, or slices of them.
abbrev pub asked_terms : {T U B D : Type 0} → TypeVariant → Terms T U B D → Terms T U B D
asked_terms variant terms = record terms { types = asked_types variant terms.payload terms.user_header }

-- The pattern of a service's options.
use Rattle.iox_negotiate_base.specs.DescribeBase.declared.pattern.MessagingPattern.{MessagingPattern}
use Rattle.iox_negotiate_base.specs.DescribeBase.declared.pattern.MessagingPattern.TheVariants as pattern
use Rattle.iox_command.specs.declared.service.ServiceOptions.{ServiceOptions}
use Rattle.iox_command.specs.declared.service.ServiceOptions.TheVariants as options

-- The pattern to which these options belong.
abbrev pub pattern_of : ServiceOptions → MessagingPattern
pattern_of (options.PublishSubscribe o) = pattern.PublishSubscribe
pattern_of (options.Event o) = pattern.Event
pattern_of (options.RequestResponse o) = pattern.RequestResponse

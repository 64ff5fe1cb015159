use Rattle.std.proofs.Common.{refl}
use Rattle.iox_domain_values.proofs.create_error.PublisherCreateError.text.Goals as goal

pub returns-in-ExceedsMaxSupportedPublishers : goal.returns-in-ExceedsMaxSupportedPublishers
returns-in-ExceedsMaxSupportedPublishers c = rw c.in-ExceedsMaxSupportedPublishers.is refl

pub returns-in-UnableToCreateDataSegment : goal.returns-in-UnableToCreateDataSegment
returns-in-UnableToCreateDataSegment c = rw c.in-UnableToCreateDataSegment.is refl

pub returns-in-FailedToDeployThreadsafetyPolicy : goal.returns-in-FailedToDeployThreadsafetyPolicy
returns-in-FailedToDeployThreadsafetyPolicy c = rw c.in-FailedToDeployThreadsafetyPolicy.is refl

pub returns-in-UnableToCreatePortTag : goal.returns-in-UnableToCreatePortTag
returns-in-UnableToCreatePortTag c = rw c.in-UnableToCreatePortTag.is refl

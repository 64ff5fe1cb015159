pub mod Access
pub mod Creating
pub mod Describing
pub mod Failing
pub mod Laws
pub mod Opening
pub mod Runs
pub mod Sight
pub mod CloseText
pub mod EventErrors
pub mod EventTexts
pub mod PublishSubscribeErrors
pub mod PublishSubscribeTexts
pub mod RequestResponseErrors
pub mod RequestResponseTexts
pub use Rattle.iox_describe.specs as Describe
pub use Rattle.iox_describe.specs.DescribeBase as DescribeBase
pub use Rattle.iox_describe.specs.DescribeSettings as DescribeSettings
pub use Rattle.iox_describe.specs.DescribeVerdict as DescribeVerdict

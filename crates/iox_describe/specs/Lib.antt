-- The definitions that the contracts of descriptions use.
pub mod Line
pub mod Reading
pub mod Within
pub mod Plain
pub mod Writing
pub use Rattle.iox_describe_verdict.specs.DescribeBase as DescribeBase
pub use Rattle.iox_describe_verdict.specs.DescribeSettings as DescribeSettings
pub use Rattle.iox_describe_verdict.specs as DescribeVerdict

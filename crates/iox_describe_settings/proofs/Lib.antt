pub use Rattle.iox_describe_base.proofs as DescribeBase

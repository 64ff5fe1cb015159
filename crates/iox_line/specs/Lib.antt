-- The definitions that contracts about lines cite.
pub mod Words
pub mod Numbers
pub mod Options
pub mod Values
pub mod Visible
pub mod Memory
pub mod Services
pub mod ServicesReading
pub mod Attributes
pub mod AttributesReading
pub mod Steps
pub mod StepsReading
pub mod LineFault
pub mod Verbs
pub mod Spelling
pub mod Reading
pub mod Outcome
pub mod RefusalText
pub mod ReplyText
pub use Rattle.iox_command.specs.DescribeBase as DescribeBase
pub use Rattle.iox_domain_values.specs as DomainValues

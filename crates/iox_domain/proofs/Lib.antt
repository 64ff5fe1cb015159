pub mod Keeping
pub mod Limits
pub mod Homely
mod Apart
pub mod Agreeing
pub mod Rolling
pub mod Lifting
pub mod Coming
pub mod Names
pub mod Meaning
pub mod Counting
pub mod Lives
pub mod Outliving
pub mod Calling
pub mod KeepsLife
pub mod Received
pub mod GivenOut
pub mod PortLawsKeeping
pub mod Carrying
pub mod PublisherKeeps
pub mod Numbered
pub mod Walks
pub mod ListKeeps
pub mod Releasing
pub mod Held
pub mod TiedWell
pub mod TiedUpdates
mod Trimmed
pub mod WellKept
pub mod PortLawsApart
pub mod Roomy
pub mod Once
pub mod AtMostOnce
pub mod PortLawsParts
pub mod Gaps
pub mod Books
pub mod Followed
pub mod Sole
pub mod Booked
pub mod BookedLists
pub mod BookedSends
pub mod BookedTakes
pub mod TakenHeld
pub mod InOrder
pub mod GapsTold
pub mod Tried
pub mod Keys
pub mod Fitting
pub mod Attaching
pub mod Waiting
pub mod Keyed
pub mod Serviced
pub mod Sized
pub mod Sums
pub mod Allowing
pub mod Lending
pub mod Walking
pub mod AllowancesCalling
mod Bools
mod Borrowing
mod SamplesLending
mod SamplesSums
mod Sparing
mod Taking
mod GivingBack
mod Naming
mod FewHeld
pub mod LessLeft
mod Reading
mod Listening
mod Attached
mod Entries
mod Listed
pub mod StayRoomy
mod AskedThere
mod LettingGo
pub mod Bounds
pub mod Lent
pub mod Putting
pub use Rattle.iox_domain_ports.proofs.Container as Container
pub use Rattle.iox_describe_base.proofs as DescribeBase
pub use Rattle.iox_domain_ports.proofs as DomainPorts
pub use Rattle.iox_domain_ports.proofs.DomainSlots as DomainSlots

pub mod Settled
pub mod ConeTests
pub mod SignTests
pub mod ForcesSettled
pub mod MotionsSettled
pub mod Verdicts
pub mod Consequences

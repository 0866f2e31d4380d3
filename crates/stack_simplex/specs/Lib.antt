pub mod Ends
pub use Rattle.stack_run.specs.WrittenRun
pub use Rattle.stack_run.specs.ProblemRun
pub use Rattle.stack_tableau.specs.Written

pub mod Chains
pub mod SumsMade
pub mod ThreeSums
pub mod RatesMade
pub mod PowersMade
pub mod Worked

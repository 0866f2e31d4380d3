pub mod InTurn
pub mod SumNumbers
pub mod RateNumbers
pub mod PowerNumbers
pub mod WorkedNumbers

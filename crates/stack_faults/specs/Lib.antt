pub mod Outline
pub mod FaultLists
pub mod ContentFaults
pub mod AsListed
pub mod TableFaults
pub mod Laws
pub mod WorkedFaults

-- Device contracts: counts, what the traits say, what the devices in memory add, and what is seen across one call.
pub mod Faults
pub mod Shelves
pub mod Sinks
pub mod Held
pub mod Streams
pub mod Memory
pub mod Seen

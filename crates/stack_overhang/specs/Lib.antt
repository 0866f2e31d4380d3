pub mod Bricks
pub mod Built
pub mod Listing
pub mod Stacks
pub mod Wall
pub mod Limits
pub mod Gives

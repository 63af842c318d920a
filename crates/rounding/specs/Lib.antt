pub mod Rounds
pub mod Rules
pub mod Refusals
pub mod RoundsKept
pub mod Ties

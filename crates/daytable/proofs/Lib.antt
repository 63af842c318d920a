pub mod Bounded
pub mod Placing
pub mod Spread
pub mod Headed
pub mod Filled

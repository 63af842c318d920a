pub mod Effects
pub mod Billing
pub mod Keeping
pub mod Posts
pub mod Overlays
pub mod Calling
pub mod Exampled
pub mod Wording

pub mod Walking
pub mod Jobbing
pub mod Watching
pub mod Restoring

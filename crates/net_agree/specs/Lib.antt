pub mod Routed
pub mod Timed
pub mod Counted
pub mod Lifted
pub mod Settled
pub mod Recorded

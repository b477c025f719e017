pub mod PassedUp
pub mod AskedModes
pub mod LockRefusals
pub mod Arguments
pub mod RequestRoom

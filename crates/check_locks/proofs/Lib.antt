pub mod LockStates

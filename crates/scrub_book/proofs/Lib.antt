-- Lemmas on results that are collected, and on the pool as a machine.

-- the book
pub mod Places
pub mod Arrivals
-- the pool, event by event
pub mod Pools
pub mod PoolSteps
pub mod Complete

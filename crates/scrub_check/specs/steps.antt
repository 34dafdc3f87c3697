-- Steps of the code.
pub mod OneScan
pub mod Places
pub mod StatusByFrame
pub mod Open
pub mod RunWithStatus
pub mod RunsApart
pub mod Distinct
pub mod ChunkUuids
pub mod BrokenShards
pub mod SoundPlaces
pub mod LocatorIndex
pub mod LiveAndOrphans
pub mod SoundAndOthers

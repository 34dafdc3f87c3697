-- Lemmas on what changed between two images, and on what is safe.

-- bytes that changed and may not
pub mod Least
pub mod ChangedBytes
pub mod Reaches
-- the lines of extents, of shards and of the manifest
pub mod RoomsFound
pub mod ExtentLines
pub mod BoundIds
pub mod OwnedBy
pub mod RowsAlike
pub mod ManifestCounts
-- what is safe keeps the manifest
pub mod Safe
pub mod Totals
pub mod RunsRead
pub mod LastWords
pub mod Kept
pub mod KeptManifest
pub mod KeptNames
pub mod AfterResets
-- what is safe keeps bytes and chunks, in two steps too, and can be undone
pub mod Overwritten
pub mod Chunks
pub mod Chained
pub mod Digests
pub mod SameContent
pub mod ChunksThere
pub mod StillThere
pub mod Undone
-- what wasn't written to is safe
pub mod Unwritten
-- that there is one answer
pub mod OneComparison
pub mod Existing

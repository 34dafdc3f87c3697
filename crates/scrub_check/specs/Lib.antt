-- For public clauses.
pub mod WholeScan
pub mod Status
pub mod Runs
pub mod ChunkRun
pub mod Named
pub mod Checked
pub mod Drawn
pub mod Live
pub mod Chunks
pub mod Shared
pub mod Candidates
pub mod Spares
pub mod ChunkForms
pub mod SafeCandidates
-- Files of other crates that public clauses cite.
pub use Rattle.scrub_disk.specs.Image
pub use Rattle.scrub_super.specs.Plan
pub use Rattle.scrub_scan.specs.Scanned
pub use Rattle.scrub_scan.specs.AllFindings
pub use Rattle.scrub_merge.specs.Binding
-- Steps of the code, and lemmas that types need.
pub mod steps

-- For public clauses.
pub mod Extents
pub mod Book
pub mod Worker
pub mod Pool
-- Files of other crates that public clauses cite.
pub use Rattle.scrub_disk.specs.Image
pub use Rattle.scrub_super.specs.Plan
pub use Rattle.scrub_scan.specs.Scanned
pub use Rattle.scrub_scan.specs.AllFindings
-- Steps of the code, and lemmas that types need.
pub mod steps

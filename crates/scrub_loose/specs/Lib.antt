-- For public clauses.
pub mod Anywhere
pub mod Copies
pub mod Listed
pub mod Loose
pub mod Outer
-- Files of other crates that public clauses cite.
pub use Rattle.scrub_disk.specs.Image
pub use Rattle.scrub_super.specs.Plan
pub use Rattle.scrub_run.specs.Run
pub use Rattle.scrub_scan.specs.Scanned
pub use Rattle.scrub_check.specs.Spares
-- Steps of the code.
pub mod steps

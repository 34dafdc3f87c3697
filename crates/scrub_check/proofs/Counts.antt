-- The lemma on counts that a contract of this crate is proved with.
pub use Rattle.list_facts.proofs.Counts.{any_counts}

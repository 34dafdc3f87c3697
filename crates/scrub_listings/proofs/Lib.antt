-- Lemmas on the listings, the manifest and the summary.

-- lists element by element, and runs by their rows
pub mod FlatLists
pub mod ReadRows
-- the listing of locators
pub mod SpareLines
-- the manifest: its lines, its text, and what it says in images of bytes
pub mod ShardLines
pub mod AfterStatus
pub mod Words
pub mod ManifestTexts
pub mod ManifestBytes
-- the listing of sizes
pub mod SizesLists
pub mod SizesThere
-- the summary
pub mod SummaryLines
pub mod SummaryChunks
-- that an image has each text, and only one
pub mod OneListing

-- Lemmas on the bytes and marks of a disk, and on raw bytes that are read into it.

-- images: their bytes, and which pages they lost
pub mod HeldBytes
pub mod LostPages
pub mod AloneRead
-- raw bytes that are read into lists and images
pub mod RawBytes
pub mod RawImages
pub mod ReadAhead
pub mod PagesRead
pub mod PartsRead
pub mod Writes
-- blocks of pages, of which zeros aren't stored
pub mod AllZero
pub mod StoredPages
pub mod JoinedBlocks
pub mod Texts
